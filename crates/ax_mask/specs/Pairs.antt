-- What code by a linked load and a pair store has in common on RV64: the order endings of the pair, and the registers of its operation (RISC-V Unprivileged ISA: A extension, "Load-Reserved/Store-Conditional Instructions"; "Code porting and mapping guidelines", table A.6).
use Rattle.std.specs.Prelude.{ℕ, List, [], ◌∷◌}
use Rattle.ax_words.specs.declared.mark.Op.{Op}
use Rattle.ax_words.specs.declared.mark.Op.TheVariants as op
use Rattle.ax_words.specs.declared.order.Order.{Order}
use Rattle.ax_target.specs.RvRows.{column}
use Rattle.ax_rv.specs.declared.instructions.Ending.{Ending}
use Rattle.ax_rv.specs.declared.instructions.Ending.TheVariants.{Plain, Acquire, Release, AcquireRelease}

-- the row of a pair: `lr; sc`, `lr.aq; sc`, `lr; sc.rl`, `lr.aq; sc.rl`, `lr.aqrl; sc.rl`
abbrev pub link_ending : Order → Ending
link_ending order = column order Plain Acquire Plain Acquire AcquireRelease

abbrev pub store_ending : Order → Ending
store_ending order = column order Plain Plain Release Release Release

-- the registers with what an operation takes, and those that get what it gives; its address stands in register 10
abbrev pub args_of_op : Op → List ℕ
args_of_op op.Store = 11 ∷ []
args_of_op op.Cmpxchg = 11 ∷ 12 ∷ []
args_of_op (op.Rmw o) = 11 ∷ []
args_of_op _ = []

abbrev pub results_of_op : Op → List ℕ
results_of_op op.Load = 15 ∷ []
results_of_op op.Cmpxchg = 15 ∷ 16 ∷ []
results_of_op (op.Rmw o) = 15 ∷ []
results_of_op _ = []
