use Rattle.std.proofs.Common.{◌≤◌, length, refl, sym, ap, ◌∙◌, subst}
use Rattle.std.specs.Prelude.{is_some}
use Rattle.ax_run.specs.Plans.{glance_of}
use Rattle.ax_run.proofs.Plans.{each_at, met_same, next_same}
use Rattle.ax_run.proofs.machine.Machine.glance.Goals as goal

pub returns-clause-sees : goal.returns-clause-sees
returns-clause-sees c =
    λ target m shows.
    let n = length c.args.self.now.processors in
    let count = c.processors-processors.ensures.count in
    let few : n ≤ 8 = subst (λ k. k ≤ 8) count c.processors-processors.ensures.few in
    next_same target c.args.item _ (glance_of n m c.args.number) refl count
    (met_same c.args.item _ (glance_of n m c.args.number) n c.requires (λ p less. c.linked.ensures p less ∙ ap (λ s. is_some (s.linked p)) shows.storage ∙ sym (each_at n p (λ q. is_some (m.noted.storage.linked q)) less few)))
