use Rattle.std.proofs.Common.{sym, subst}
use Rattle.ax_source_run.specs.SourceState.{SourceProgram}
use Rattle.ax_app.specs.declared.verdict.Part.TheVariants.{Module}
use Rattle.ax_app.specs.Reads.{ReadWhole}
use Rattle.ax_app.specs.Serve.{reading}
use Rattle.ax_app.proofs.Causes.{first_fails, module_found}
use Rattle.ax_app.proofs.judge.module_of.Goals as goal

pub returns-in-Err-clause-found : goal.returns-in-Err-clause-found
returns-in-Err-clause-found g c =
    let first = reading (g.F.Files.held c.args.files.now) (g.F.Files.asked c.args.files.now) (g.F.Files.asked c.read_part.new.files) (g.F.Files.faults c.args.files.now) (g.F.Files.faults c.read_part.new.files) (g.F.Files.taken c.read_part.new.files) in
    λ rest. first_fails first c.args.target c.args.name.now rest c.in-Err.verdict c.in-Err.ensures.reads

pub returns-clause-found : goal.returns-clause-found
returns-clause-found g c =
    let first = reading (g.F.Files.held c.args.files.now) (g.F.Files.asked c.args.files.now) (g.F.Files.asked c.read_part.new.files) (g.F.Files.faults c.args.files.now) (g.F.Files.faults c.read_part.new.files) (g.F.Files.taken c.read_part.new.files) in
    let h = subst (λ b. ReadWhole first Module c.args.name.now b) (sym c.deref.ensures.value) c.in-Ok.ensures.reads in
    module_found first c.args.target c.args.name.now c.deref.result.now h (λ (p : SourceProgram). p) c.built_of.result c.built_of.ensures
