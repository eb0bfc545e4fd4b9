use Rattle.std.proofs.Common.{[], ◌∷◌, sym, subst}
use Rattle.ax_app.specs.declared.verdict.Part.TheVariants.{Schedule}
use Rattle.ax_app.specs.Reads.{ReadWhole}
use Rattle.ax_app.specs.Serve.{reading}
use Rattle.ax_app.proofs.Causes.{run_judged, run_stops, second_fails}
use Rattle.ax_app.proofs.judge.judge_run.Goals as goal

pub returns-in-Err : goal.returns-in-Err
returns-in-Err g c =
    let first = reading (g.F.Files.held c.args.files.now) (g.F.Files.asked c.args.files.now) (g.F.Files.asked c.module_of.new.files) (g.F.Files.faults c.args.files.now) (g.F.Files.faults c.module_of.new.files) (g.F.Files.taken c.module_of.new.files) in
    run_stops first c.args.target (c.args.module_name.now ∷ c.args.schedule_name.now ∷ []) c.in-Err.verdict (c.in-Err.ensures.found (c.args.schedule_name.now ∷ []))

pub returns-in-Err-read_part : goal.returns-in-Err-read_part
returns-in-Err-read_part g c =
    second_fails c.args.target (g.F.Files.held c.args.files.now) (g.F.Files.held c.module_of.new.files) c.module_of.ensures.same (g.F.Files.asked c.args.files.now) (g.F.Files.asked c.module_of.new.files) (g.F.Files.asked c.read_part.new.files) (g.F.Files.faults c.args.files.now) (g.F.Files.faults c.module_of.new.files) (g.F.Files.faults c.read_part.new.files) (g.F.Files.taken c.module_of.new.files) (g.F.Files.taken c.read_part.new.files)
    c.args.module_name.now c.args.schedule_name.now c.in-Ok.accepted c.in-Ok.ensures.found c.in-Err-read_part.verdict c.in-Err-read_part.ensures.reads

pub returns : goal.returns
returns g c =
    let second = reading (g.F.Files.held c.module_of.new.files) (g.F.Files.asked c.module_of.new.files) (g.F.Files.asked c.read_part.new.files) (g.F.Files.faults c.module_of.new.files) (g.F.Files.faults c.read_part.new.files) (g.F.Files.taken c.read_part.new.files) in
    let k = subst (λ b. ReadWhole second Schedule c.args.schedule_name.now b) (sym c.deref.ensures.value) c.in-Ok-read_part.ensures.reads in
    run_judged c.args.target (g.F.Files.held c.args.files.now) (g.F.Files.held c.module_of.new.files) c.module_of.ensures.same (g.F.Files.asked c.args.files.now) (g.F.Files.asked c.module_of.new.files) (g.F.Files.asked c.read_part.new.files) (g.F.Files.faults c.args.files.now) (g.F.Files.faults c.module_of.new.files) (g.F.Files.faults c.read_part.new.files) (g.F.Files.taken c.module_of.new.files) (g.F.Files.taken c.read_part.new.files)
    c.args.module_name.now c.args.schedule_name.now c.in-Ok.accepted c.in-Ok.ensures.found c.deref.result.now k c.run_of.result c.run_of.ensures
