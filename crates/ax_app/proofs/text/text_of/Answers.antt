use Rattle.std.proofs.Common.{◌≡◌, true, ◌++◌, length, sym, ap, ◌∙◌, subst}
use Rattle.std.specs.Prelude.{All}
use Rattle.std.specs.String.{string_bytes}
use Rattle.std.proofs.lemmas.List.{length-map}
use Rattle.ax_module.specs.declared.module.Function.{Function}
use Rattle.ax_module.specs.Names.{IsAscii}
use Rattle.ax_agree.specs.Sound.{IsSound}
use Rattle.ax_lowered.specs.Code.{IsInstrOf, image_of, is_for, kind_of}
use Rattle.ax_print.specs.Lowered.{code_text}
use Rattle.ax_run.specs.Run.{IsOf}
use Rattle.ax_app.specs.Serve.{assembly_of, report_of}
use Rattle.ax_app.proofs.text.text_of.Goals as goal

pub print-requires-clause-names : goal.print-requires-clause-names
print-requires-clause-names c =
    let p = c.args.accepted.now in
    subst (λ l. All (λ name. IsAscii name) l) (sym c.in_ok-lowered.ensures.names) (c.names_are_ascii.ensures.functions p.source c.is_without_faults.ensures.formed)

pub prepare-requires-clause-functions : goal.prepare-requires-clause-functions
prepare-requires-clause-functions c = ap length c.in_ok-lowered.ensures.names ∙ length-map c.args.accepted.now.source.functions (λ (f : Function). f.name)

pub push_report_of-requires-clause-program : goal.push_report_of-requires-clause-program
push_report_of-requires-clause-program c = c.go.ensures.kept.program_is ∙ c.in_ok-run.ensures.of.program_is

pub returns : goal.returns
returns c =
    let p = c.args.accepted.now in
    let plan = c.args.plan.now in
    let l = c.in_ok-lowered.lowered in
    let code = l.code in
    let r = c.go.new.self in
    let of : IsOf code p plan r = record {
      code_is = c.go.ensures.kept.code_is ∙ c.in_ok-run.ensures.of.code_is;
      program_is = c.go.ensures.kept.program_is ∙ c.in_ok-run.ensures.of.program_is;
      plan_is = c.go.ensures.kept.plan_is ∙ c.in_ok-run.ensures.of.plan_is;
    } in
    let target = c.in_ok-lowered.ensures.target in
    let named = c.in_ok-lowered.ensures.names in
    let head : string_bytes c.in_ok-text.text ≡ assembly_of p code = c.in_ok-text.ensures ∙ ap (λ t. code_text t l.names code) target ∙ ap (λ names. code_text p.target names code) named in
    record {
      code = code;
      of = record {
        set = subst (λ t. is_for t code ≡ true) target c.in_ok-lowered.ensures.set;
        lowers = c.in_ok-lowered.ensures.lowers;
        busy = c.in_ok-lowered.ensures.busy;
        rows = c.in_ok-lowered.ensures.rows;
        sound = subst (λ names. IsSound (kind_of code) (IsInstrOf code) names (image_of code)) named c.in_ok-lowered.ensures.sound;
      };
      whole = c.in_ok-push_report_of.ensures ∙ ap (λ h. h ++ report_of p r.code r.plan) head
          ∙ ap (λ i. assembly_of p code ++ report_of p i r.plan) of.code_is
          ∙ ap (λ q. assembly_of p code ++ report_of p code q) of.plan_is;
    }
