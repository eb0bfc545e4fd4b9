use Rattle.std.proofs.Common.{[], ◌∷◌}
use Rattle.ax_app.specs.Serve.{reading}
use Rattle.ax_app.proofs.Causes.{lower_judged, lower_stops}
use Rattle.ax_app.proofs.judge.judge_lower.Goals as goal

pub returns-in-Err : goal.returns-in-Err
returns-in-Err g c =
    let first = reading (g.F.Files.held c.args.files.now) (g.F.Files.asked c.args.files.now) (g.F.Files.asked c.module_of.new.files) (g.F.Files.faults c.args.files.now) (g.F.Files.faults c.module_of.new.files) (g.F.Files.taken c.module_of.new.files) in
    lower_stops first c.args.target (c.args.name.now ∷ []) c.in-Err.verdict (c.in-Err.ensures.found [])

pub returns-in-Ok : goal.returns-in-Ok
returns-in-Ok g c =
    let first = reading (g.F.Files.held c.args.files.now) (g.F.Files.asked c.args.files.now) (g.F.Files.asked c.module_of.new.files) (g.F.Files.faults c.args.files.now) (g.F.Files.faults c.module_of.new.files) (g.F.Files.taken c.module_of.new.files) in
    lower_judged first c.args.target c.args.name.now c.in-Ok.accepted c.in-Ok.ensures.found c.lower_of.result c.lower_of.ensures
