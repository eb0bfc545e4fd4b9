use Rattle.std.proofs.Common.{refl, sym, subst}
use Rattle.ax_lowered.specs.Code.{IsInstrOf, image_of, kind_of}
use Rattle.ax_sched.specs.declared.plan.Item.{Item}
use Rattle.ax_target.specs.declared.target.Target.{Target}
use Rattle.std.specs.Prelude.{List}
use Rattle.ax_run.specs.Machine.{Performed}
use Rattle.ax_run.specs.Run.{HasRun, RunState}
use Rattle.ax_run.proofs.Ending.{ends, has_run}
use Rattle.ax_run.proofs.run.Run.go.Goals as goal

pub returns-then-self-clause-ran : goal.returns-then-self-clause-ran
returns-then-self-clause-ran c =
    let code = c.self.inside.code.now in
    subst (λ (r : RunState). HasRun r) c.self.view_is (has_run (kind_of code) (image_of code) (IsInstrOf code) _ c.self.invariant c.if-self.true)

pub invariant_of-self : goal.invariant_of-self
invariant_of-self c =
    let i = c.self.inside in
    let code = i.code.now in
    ends (kind_of code) (image_of code) (IsInstrOf code) code i.plan.now i.machine c.perform.new.self i.ended (sym c.if-self.false) c.self.invariant
    (subst (λ (t : Target). Performed (kind_of code) (image_of code) i.plan.now.items t i.machine c.perform.new.self) c.target-target.ensures
    (subst (λ (items : List Item). Performed (kind_of code) (image_of code) items c.target-target.result i.machine c.perform.new.self) c.as_slice.ensures c.perform.ensures))

pub returns-clause-ran : goal.returns-clause-ran
returns-clause-ran c =
    let i = c.self.inside in
    let code = i.code.now in
    has_run (kind_of code) (image_of code) (IsInstrOf code) _
    (ends (kind_of code) (image_of code) (IsInstrOf code) code i.plan.now i.machine c.perform.new.self i.ended (sym c.if-self.false) c.self.invariant
    (subst (λ (t : Target). Performed (kind_of code) (image_of code) i.plan.now.items t i.machine c.perform.new.self) c.target-target.ensures
    (subst (λ (items : List Item). Performed (kind_of code) (image_of code) items c.target-target.result i.machine c.perform.new.self) c.as_slice.ensures c.perform.ensures)))
    refl
