use Rattle.std.proofs.Common.{◌≡◌, ◌++◌, length, map, refl, sym, ap, ◌∙◌, subst, arith}
use Rattle.std.specs.Prelude.{All}
use Rattle.std.specs.String.{string_bytes}
use Rattle.ax_module.specs.declared.module.Global.{Global}
use Rattle.ax_module.specs.declared.module.Module.{Module}
use Rattle.ax_module.specs.Names.{IsAscii}
use Rattle.ax_layout.specs.Layout.{CanBeLaidOut, layout_of}
use Rattle.ax_source_run.specs.SourceState.{SourceProgram}
use Rattle.ax_run.specs.Plans.{plan_events}
use Rattle.ax_agree.specs.Lowers.{machine_run}
use Rattle.ax_lowered.specs.Code.{image_of, kind_of}
use Rattle.ax_app.specs.Report.{run_report}
use Rattle.ax_app.proofs.Reports.{gone}
use Rattle.ax_app.proofs.text.push_report_of.Goals as goal

pub push_report-requires-clause-globals : goal.push_report-requires-clause-globals
push_report-requires-clause-globals c =
    let is = c.requires.program in
    c.as_slice-globals.ensures ∙ ap (λ (m : Module). m.globals) c.module.ensures ∙ sym (ap (λ (p : SourceProgram). p.source.globals) is)

pub push_report-requires-clause-target : goal.push_report-requires-clause-target
push_report-requires-clause-target c = c.target.ensures ∙ sym (ap (λ (p : SourceProgram). p.target) c.requires.program)

pub push_report-requires-clause-few : goal.push_report-requires-clause-few
push_report-requires-clause-few c =
    let count = (c.accepted_can_be_laid_out.ensures c.args.accepted.now c.is_without_faults.ensures).count in
    let whole = ap length (c.as_slice-globals.ensures ∙ ap (λ (m : Module). m.globals) c.module.ensures) in
    omega (arith, count, whole)

pub push_report-requires-clause-bytes : goal.push_report-requires-clause-bytes
push_report-requires-clause-bytes c =
    let p = c.args.accepted.now in
    let whole = c.as_slice-globals.ensures ∙ ap (λ (m : Module). m.globals) c.module.ensures in
    subst (λ l. All (λ name. IsAscii name) (map (λ (g : Global). g.name) l)) (sym whole) (c.names_are_ascii.ensures.globals p.source c.is_without_faults.ensures.formed)

pub push_report-requires-clause-limits : goal.push_report-requires-clause-limits
push_report-requires-clause-limits c =
    let is = c.requires.program in
    subst (λ (p : SourceProgram). CanBeLaidOut p.source) (sym is) (c.accepted_can_be_laid_out.ensures c.args.accepted.now c.is_without_faults.ensures)

pub push_report-requires-clause-layout : goal.push_report-requires-clause-layout
push_report-requires-clause-layout c =
    let is = c.requires.program in
    subst (λ (p : SourceProgram). p.layout ≡ layout_of p.source) (sym is) c.is_without_faults.ensures.layout

pub returns : goal.returns
returns c =
    let p = c.args.accepted.now in
    let r = c.args.run.now in
    let is = c.requires.program in
    let ran = c.requires.ran in
    let m = machine_run (kind_of r.code) (image_of r.code) r.program r.plan.entries (plan_events (kind_of r.code) (image_of r.code) r.program r.plan) in
    let whole = c.as_slice-globals.ensures ∙ ap (λ (m : Module). m.globals) c.module.ensures ∙ sym (ap (λ (q : SourceProgram). q.source.globals) is) in
    let text = ap (λ gs. run_report r.program (map (λ (g : Global). g.name) gs) (length r.plan.entries) m r.machine.sources r.machine.events) whole ∙ gone r r.code p r.plan (record { code_is = refl; program_is = is; plan_is = refl }) ran in
    c.in_ok-push_report.ensures m ran.shows ∙ ap (λ t. string_bytes c.args.out.now ++ t) text
