use Rattle.std.proofs.Common.{List, [], ◌∷◌, ◌++◌, ◌∙◌, ap, pos}
use Rattle.ax_words.specs.Width.{bytes_of}
use Rattle.ax_tags.specs.declared.tags.Tag.TheVariants.{Act}
use Rattle.ax_rv.specs.declared.instructions.FenceSets.{FenceSets}
use Rattle.ax_rv.specs.declared.instructions.LoadForm.{LoadForm}
use Rattle.ax_rv.specs.declared.instructions.RvInstr.TheVariants.{Load}
use Rattle.ax_emit_rv.specs.Code.{load_form}
use Rattle.ax_emit_rv.proofs.Emitting.{both, both_silent}
use Rattle.ax_expand.specs.Standing.{silently}
use Rattle.ax_llsc.specs.Loops.{clear}
use Rattle.ax_llsc.specs.Codes.{before_load, behind_load, fences}
use Rattle.ax_llsc.proofs.operations.push_load.Goals as goal

pub returns : goal.returns
returns c =
    let width = c.args.width in
    let order = c.args.order in
    let access = λ (f : LoadForm). Load f 15 (pos 0) 10 in
    let load = access (load_form (bytes_of width)) in
    let first = c.in_ok-push_fences.ensures ∙ ap (λ (fs : List FenceSets). c.args.out.now.items ++ silently (fences fs)) c.before_load.ensures in
    let acts = c.in_ok-push_acting.ensures ∙ ap (λ (f : LoadForm). c.push_fences.new.out.items ++ (access f, Act) ∷ []) c.load_form.ensures in
    let behind = c.in_ok-push_fences-2.ensures ∙ ap (λ (fs : List FenceSets). c.push_acting.new.out.items ++ silently (fences fs)) c.behind_load.ensures in
    let after = both_silent (fences (behind_load order)) (clear 15 width) _ _ _ behind c.in_ok-push_clear.ensures in
    let rest = both ((load, Act) ∷ []) (silently (fences (behind_load order) ++ clear 15 width)) _ _ _ acts after in
    both (silently (fences (before_load order))) ((load, Act) ∷ silently (fences (behind_load order) ++ clear 15 width)) _ _ _ first rest
