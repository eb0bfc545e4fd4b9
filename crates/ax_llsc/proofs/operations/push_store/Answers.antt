use Rattle.std.proofs.Common.{List, [], ◌∷◌, ◌++◌, ◌∙◌, ap, pos}
use Rattle.ax_words.specs.Width.{bytes_of}
use Rattle.ax_tags.specs.declared.tags.Tag.TheVariants.{Act}
use Rattle.ax_rv.specs.declared.instructions.FenceSets.{FenceSets}
use Rattle.ax_rv.specs.declared.instructions.StoreForm.{StoreForm}
use Rattle.ax_rv.specs.declared.instructions.RvInstr.TheVariants.{Store}
use Rattle.ax_emit_rv.specs.Code.{store_form}
use Rattle.ax_emit_rv.proofs.Emitting.{both}
use Rattle.ax_expand.specs.Standing.{silently}
use Rattle.ax_llsc.specs.Codes.{before_store, fences}
use Rattle.ax_llsc.proofs.operations.push_store.Goals as goal

pub returns : goal.returns
returns c =
    let access = λ (f : StoreForm). Store f 11 (pos 0) 10 in
    let first = c.in_ok-push_fences.ensures ∙ ap (λ (fs : List FenceSets). c.args.out.now.items ++ silently (fences fs)) c.before_store.ensures in
    let acts = c.in_ok-push_acting.ensures ∙ ap (λ (f : StoreForm). c.push_fences.new.out.items ++ (access f, Act) ∷ []) c.store_form.ensures in
    both (silently (fences (before_store c.args.order))) ((access (store_form (bytes_of c.args.width)), Act) ∷ []) _ _ _ first acts
