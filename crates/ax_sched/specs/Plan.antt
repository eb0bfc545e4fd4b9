-- Plans of a module.
use Rattle.std.specs.Prelude.{ℕ, ◌<◌, ◌≤◌, length, All}
use Rattle.std.specs.List.{sum_by}
use Rattle.ax_module.specs.declared.module.Module.{Module}
use Rattle.ax_sched.specs.declared.plan.Item.{Item}
use Rattle.ax_sched.specs.declared.plan.Item.TheVariants.{Step, Drain, Drop, Link, Round, Random}
use Rattle.ax_sched.specs.declared.plan.Plan.{Plan}

-- The processor that a directive names, where it names one, is one of so many.
abbrev pub IsWithin : ℕ → Item → Type 0
IsWithin k (Step p n) = p < k
IsWithin k (Drain p n) = p < k
IsWithin k (Drop p n) = p < k
IsWithin k (Link p n) = p < k
IsWithin k (Round n) = Unit {0}
IsWithin k (Random seed n) = Unit {0}

-- how many events it makes at most
abbrev pub times_of : Item → ℕ
times_of (Step p n) = n
times_of (Drain p n) = n
times_of (Drop p n) = n
times_of (Link p n) = n
times_of (Round n) = n
times_of (Random seed n) = n

-- a plan of a module with so many functions
pub record IsPlan (functions : ℕ) (plan : Plan) : Type 0 where
  pub some : 1 ≤ length plan.entries
  pub few : length plan.entries ≤ 8
  pub entries : All (λ f. f < functions) plan.entries
  pub processors : All (IsWithin (length plan.entries)) plan.items
  pub events : sum_by times_of plan.items ≤ 1000000

-- a plan of a module
abbrev pub IsPlanOf : Module → Plan → Type 0
IsPlanOf m plan = IsPlan (length m.functions) plan
