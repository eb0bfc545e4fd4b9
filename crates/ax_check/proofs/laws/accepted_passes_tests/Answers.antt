use Rattle.ax_rules.specs.declared.rule.Rule.TheVariants.{Width, Kind, DynamicShift, UserCall, Parameter, BadOrdering, MixedWidth, AlignOverstated, PlainLocked, Alloca, Limit}
use Rattle.ax_check.proofs.Acceptance.{is_false, nothing_broken}
use Rattle.ax_check.proofs.laws.accepted_passes_tests.Goals as goal

pub returns-clause-width : goal.returns-clause-width
returns-clause-width c = λ program p a h. is_false _ (nothing_broken program a p h Width)

pub returns-clause-kind : goal.returns-clause-kind
returns-clause-kind c = λ program p a h. is_false _ (nothing_broken program a p h Kind)

pub returns-clause-shift : goal.returns-clause-shift
returns-clause-shift c = λ program p a h. is_false _ (nothing_broken program a p h DynamicShift)

pub returns-clause-call : goal.returns-clause-call
returns-clause-call c = λ program p a h. is_false _ (nothing_broken program a p h UserCall)

pub returns-clause-parameter : goal.returns-clause-parameter
returns-clause-parameter c = λ program p a h. is_false _ (nothing_broken program a p h Parameter)

pub returns-clause-order : goal.returns-clause-order
returns-clause-order c = λ program p a h. is_false _ (nothing_broken program a p h BadOrdering)

pub returns-clause-mixed : goal.returns-clause-mixed
returns-clause-mixed c = λ program p a h. is_false _ (nothing_broken program a p h MixedWidth)

pub returns-clause-aligned : goal.returns-clause-aligned
returns-clause-aligned c = λ program p a h. is_false _ (nothing_broken program a p h AlignOverstated)

pub returns-clause-plain : goal.returns-clause-plain
returns-clause-plain c = λ program p a h. is_false _ (nothing_broken program a p h PlainLocked)

pub returns-clause-alloca : goal.returns-clause-alloca
returns-clause-alloca c = λ program p a h. is_false _ (nothing_broken program a p h Alloca)

pub returns-clause-limit : goal.returns-clause-limit
returns-clause-limit c = λ program p a h. is_false _ (nothing_broken program a p h Limit)
