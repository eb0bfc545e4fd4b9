-- HOW FAR IT IS FROM A LINE TO AN ACT, by the kinds of the lines alone, and what is asked of lines for that.
use Rattle.std.specs.Prelude.{ℕ, ◌+◌, ◌≤◌, Bool, true, false, List, [], ◌∷◌}
use Rattle.ax_mid.specs.declared.code.Line.{Line}
use Rattle.ax_mid.specs.declared.instruction.MidInst.{MidInst}
use Rattle.ax_mid.specs.declared.instruction.MidInst.TheVariants as mid
use Rattle.ax_mid.specs.declared.registers.Virtual.{Virtual}
use Rattle.ax_fine.specs.Fine.{is_quiet}
use Rattle.ax_idle_rv.proofs.Ranks.{IsInner, inner_rank}

-- so many instructions at most are an instruction's code
abbrev pub most_width : ℕ
most_width = 60

abbrev pub width : MidInst Virtual → ℕ
width (mid.Const to n) = 6
width (mid.Copy to from) = 6
width (mid.Label n) = 0
width (mid.Atomic o w order weak address args results) = most_width
width _ = 20

abbrev pub reach_by : Bool → MidInst Virtual → ℕ → ℕ
reach_by false i rest = most_width
reach_by true (mid.Branch test a b) rest = 20 + inner_rank
reach_by true i rest = width i + rest

abbrev pub reach : List (Line Virtual) → ℕ
reach [] = 0
reach (line ∷ lines) = reach_by (is_quiet line.tag) line.inst (reach lines)

-- a silent line is no jump; a branch is to inner labels, and behind these it isn't far
abbrev pub CalmBy : Bool → MidInst Virtual → ℕ → Type 0
CalmBy false i rest = Unit {0}
CalmBy true (mid.Jump n) rest = ⊥
CalmBy true (mid.Branch test a b) rest = IsInner a × IsInner b
CalmBy true (mid.Label n) rest = IsInner n → rest ≤ inner_rank
CalmBy true i rest = Unit {0}

abbrev pub most_reach : ℕ
most_reach = 2000

abbrev pub Calm : List (Line Virtual) → Type 0
Calm [] = Unit {0}
Calm (line ∷ lines) = (reach (line ∷ lines) ≤ most_reach) × CalmBy (is_quiet line.tag) line.inst (reach lines) × Calm lines
