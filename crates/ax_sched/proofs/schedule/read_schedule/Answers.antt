use Rattle.std.proofs.Common.{map, subst, sym, length, List, ◌<◌, ◌^◌}
use Rattle.ax_module.specs.declared.module.Function.{Function}
use Rattle.ax_sched.specs.Lines.{lines_of, kept_lines}
use Rattle.ax_sched.specs.Reading.{plan_from, AnswersAs}
use Rattle.ax_sched.proofs.AnswerLemmas.{functions_few, functions_differ, answer, found_of, fits_of, only_of, fault_of, bad_of}
use Rattle.ax_sched.proofs.schedule.read_schedule.Goals as goal

pub returns-clause-found : goal.returns-clause-found
returns-clause-found c =
    let text = c.args.bytes.now in
    let h = subst (λ fs. AnswersAs (λ p. p) c.read_lines.result (plan_from (map (λ f. f.name) fs) (length (lines_of text)) (kept_lines text))) c.as_slice.ensures c.read_lines.ensures in
    found_of text c.args.m.now c.read_lines.result (answer text c.args.m.now c.read_lines.result h)

pub returns-clause-plan : goal.returns-clause-plan
returns-clause-plan c =
    let text = c.args.bytes.now in
    let h = subst (λ fs. AnswersAs (λ p. p) c.read_lines.result (plan_from (map (λ f. f.name) fs) (length (lines_of text)) (kept_lines text))) c.as_slice.ensures c.read_lines.ensures in
    fits_of text c.args.m.now c.read_lines.result (answer text c.args.m.now c.read_lines.result h)

pub returns-clause-only : goal.returns-clause-only
returns-clause-only c =
    let text = c.args.bytes.now in
    let h = subst (λ fs. AnswersAs (λ p. p) c.read_lines.result (plan_from (map (λ f. f.name) fs) (length (lines_of text)) (kept_lines text))) c.as_slice.ensures c.read_lines.ensures in
    only_of text c.args.m.now (functions_differ c.args.m.now c.requires.module) c.read_lines.result (answer text c.args.m.now c.read_lines.result h)

pub returns-clause-fault : goal.returns-clause-fault
returns-clause-fault c =
    let text = c.args.bytes.now in
    let h = subst (λ fs. AnswersAs (λ p. p) c.read_lines.result (plan_from (map (λ f. f.name) fs) (length (lines_of text)) (kept_lines text))) c.as_slice.ensures c.read_lines.ensures in
    fault_of text c.args.m.now (functions_differ c.args.m.now c.requires.module) c.read_lines.result (answer text c.args.m.now c.read_lines.result h)

pub returns-clause-bad : goal.returns-clause-bad
returns-clause-bad c =
    let text = c.args.bytes.now in
    let h = subst (λ fs. AnswersAs (λ p. p) c.read_lines.result (plan_from (map (λ f. f.name) fs) (length (lines_of text)) (kept_lines text))) c.as_slice.ensures c.read_lines.ensures in
    bad_of text c.args.m.now (functions_differ c.args.m.now c.requires.module) c.read_lines.result (answer text c.args.m.now c.read_lines.result h)

pub read_lines-requires-clause-few : goal.read_lines-requires-clause-few
read_lines-requires-clause-few c = subst (λ (fs : List Function). length fs < 2 ^ 32) (sym c.as_slice.ensures) (functions_few c.args.m.now c.requires.module)
