use Rattle.std.proofs.Common.{◌≡◌, true, sym, ap, ◌∙◌, subst}
use Rattle.std.specs.Prelude.{All}
use Rattle.ax_module.specs.Names.{IsAscii}
use Rattle.ax_agree.specs.Sound.{IsSound}
use Rattle.ax_lowered.specs.Code.{IsInstrOf, image_of, is_for, kind_of}
use Rattle.ax_print.specs.Lowered.{code_text}
use Rattle.ax_app.proofs.text.assembly_of.Goals as goal

pub print-requires-clause-names : goal.print-requires-clause-names
print-requires-clause-names c =
    let p = c.args.accepted.now in
    subst (λ l. All (λ name. IsAscii name) l) (sym c.in_ok-lowered.ensures.names) (c.names_are_ascii.ensures.functions p.source c.is_without_faults.ensures.formed)

pub returns : goal.returns
returns c =
    let p = c.args.accepted.now in
    let l = c.in_ok-lowered.lowered in
    let code = l.code in
    let target = c.in_ok-lowered.ensures.target in
    let named = c.in_ok-lowered.ensures.names in
    record {
      code = code;
      of = record {
        set = subst (λ t. is_for t code ≡ true) target c.in_ok-lowered.ensures.set;
        lowers = c.in_ok-lowered.ensures.lowers;
        busy = c.in_ok-lowered.ensures.busy;
        rows = c.in_ok-lowered.ensures.rows;
        sound = subst (λ names. IsSound (kind_of code) (IsInstrOf code) names (image_of code)) named c.in_ok-lowered.ensures.sound;
      };
      whole = c.in_ok-text.ensures ∙ ap (λ t. code_text t l.names code) target ∙ ap (λ names. code_text p.target names code) named;
    }
