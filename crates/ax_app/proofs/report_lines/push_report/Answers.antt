use Rattle.std.proofs.Common.{◌≡◌, ◌++◌, length, map, ap, ◌∙◌}
use Rattle.std.specs.Prelude.{flat_map}
use Rattle.std.specs.String.{string_bytes}
use Rattle.ax_module.specs.declared.module.Global.{Global}
use Rattle.ax_print.specs.Report.{head_lines, output_line, source_lines, machine_lines, end_line}
use Rattle.ax_app.specs.Report.{object_part, processor_part, lock_part}
use Rattle.ax_app.proofs.Reports.{more, on_ok}
use Rattle.ax_app.proofs.report_lines.push_report.Goals as goal

pub returns : goal.returns
returns c m h =
    let run = c.args.run.now in
    let x0 = string_bytes c.args.out.now in
    let n = length run.plan.entries in
    let a1 = head_lines run.program.target n (length run.machine.events) in
    let a2 = flat_map output_line m.outputs in
    let a3 = object_part run.program m.noted.storage.mem 0 (map (λ (x : Global). x.name) c.args.globals.now) in
    let a4 = processor_part run.program m 0 n in
    let a5 = lock_part m 0 256 in
    let a6 = source_lines run.machine.sources in
    let a7 = machine_lines run.machine.events in
    let x1 = string_bytes c.push_head.new.out in
    let x2 = string_bytes c.push_outputs.new.out in
    let x3 = string_bytes c.push_objects.new.out in
    let x4 = string_bytes c.push_processors.new.out in
    let x5 = string_bytes c.push_locks.new.out in
    let x6 = string_bytes c.push_source.new.out in
    let x7 = string_bytes c.push_machine.new.out in
    let e1 : x1 ≡ x0 ++ a1 =
    c.in_ok-push_head.ensures
    ∙ ap (λ t. x0 ++ head_lines t c.processors.result (length c.machine_schedule-events.result.now)) c.requires.target
    ∙ ap (λ p. x0 ++ head_lines run.program.target p (length c.machine_schedule-events.result.now)) c.processors.ensures.number
    ∙ ap (λ es. x0 ++ head_lines run.program.target n (length es)) c.machine_schedule-events.ensures in
    let e2 : x2 ≡ x1 ++ a2 = c.in_ok-push_outputs.ensures ∙ ap (λ l. x1 ++ flat_map output_line l) (c.outputs.ensures m h) in
    let e3 : x3 ≡ x2 ++ a3 = c.in_ok-push_objects.ensures m h in
    let e4 : x4 ≡ x3 ++ a4 = c.in_ok-push_processors.ensures m h in
    let e5 : x5 ≡ x4 ++ a5 = c.in_ok-push_locks.ensures m h in
    let e6 : x6 ≡ x5 ++ a6 = c.in_ok-push_source.ensures ∙ ap (λ l. x5 ++ source_lines l) c.source_schedule.ensures in
    let e7 : x7 ≡ x6 ++ a7 = c.in_ok-push_machine.ensures ∙ ap (λ l. x6 ++ machine_lines l) c.machine_schedule-events.ensures in
    let b2 = more x0 x1 x2 a1 a2 e1 e2 in
    let b3 = more x0 x2 x3 (a1 ++ a2) a3 b2 e3 in
    let b4 = more x0 x3 x4 (a1 ++ a2 ++ a3) a4 b3 e4 in
    let b5 = more x0 x4 x5 (a1 ++ a2 ++ a3 ++ a4) a5 b4 e5 in
    let b6 = more x0 x5 x6 (a1 ++ a2 ++ a3 ++ a4 ++ a5) a6 b5 e6 in
    let b7 = more x0 x6 x7 (a1 ++ a2 ++ a3 ++ a4 ++ a5 ++ a6) a7 b6 e7 in
    on_ok c.push_end.result (string_bytes c.push_end.new.out ≡ x7 ++ end_line) (string_bytes c.push_end.new.out ≡ x0 ++ (a1 ++ a2 ++ a3 ++ a4 ++ a5 ++ a6 ++ a7 ++ end_line)) (λ e. more x0 x7 (string_bytes c.push_end.new.out) (a1 ++ a2 ++ a3 ++ a4 ++ a5 ++ a6 ++ a7) end_line b7 e) c.push_end.ensures
