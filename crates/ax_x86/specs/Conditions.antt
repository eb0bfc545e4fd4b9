-- Conditions as predicates of the two numbers last compared, the second operand of AT&T's `cmp` first (Intel SDM volume 2, Jcc: what the flags say after CMP).
use Rattle.std.specs.Prelude.{ℕ, Bool, not, nat_eq, nat_le, nat_lt, int_lt}
use Rattle.ax_ops.specs.Operation.{signed}
use Rattle.ax_x86.specs.declared.instructions.Condition.{Condition}
use Rattle.ax_x86.specs.declared.instructions.Condition.TheVariants.{Equal, NotEqual, Below, AboveOrEqual, BelowOrEqual, Above, Less, GreaterOrEqual, LessOrEqual, Greater}

abbrev pub holds : Condition → ℕ → ℕ → Bool
holds Equal left right = nat_eq left right
holds NotEqual left right = not (nat_eq left right)
holds Below left right = nat_lt left right
holds AboveOrEqual left right = nat_le right left
holds BelowOrEqual left right = nat_le left right
holds Above left right = nat_lt right left
holds Less left right = int_lt (signed 64 left) (signed 64 right)
holds GreaterOrEqual left right = not (int_lt (signed 64 left) (signed 64 right))
holds LessOrEqual left right = not (int_lt (signed 64 right) (signed 64 left))
holds Greater left right = int_lt (signed 64 right) (signed 64 left)
