-- The lines of an access stand behind the way to its element.
use Rattle.std.proofs.Common.{◌≡◌, ℕ, Bool, true, false, List, [], ◌∷◌, ◌++◌, map, refl, ap}
use Rattle.std.specs.Prelude.{nat_lt}
use Rattle.ax_source_run.specs.SourceState.{Object, SourceProgram}
use Rattle.ax_mid.specs.declared.code.Line.{Line}
use Rattle.ax_mid.specs.declared.instruction.MidInst.{MidInst}
use Rattle.ax_mid.specs.declared.registers.Virtual.{Virtual}
use Rattle.ax_selected.specs.Addresses.{Brought, Fixed, IndexAt, count_of}
use Rattle.ax_selected.specs.Pieces.{Straight}
use Rattle.ax_selected.specs.Selected.{chosen_by, guarded, silent, straight, through}
use Rattle.ax_reach.specs.Ways.{fixed_way, tested_way, way}

tested_is : (program : SourceProgram) (f k : ℕ) (o : Object) (lines : List (MidInst Virtual)) (rest : Straight) → guarded f k program o lines rest ≡ (map (silent f k) lines ++ tested_way program f k o) ++ straight f k rest
tested_is program f k o [] rest = refl
tested_is program f k o (line ∷ lines) rest = ap (λ (behind : List (Line Virtual)). silent f k line ∷ behind) (tested_is program f k o lines rest)

pub through_is : (program : SourceProgram) (f k : ℕ) (o : Object) (index : IndexAt) (rest : Straight) → through f k program o index rest ≡ way program f k o index ++ straight f k rest
through_is program f k o (Fixed i) rest = by (nat_lt i (count_of program f o))
  where
    by : (b : Bool) → chosen_by f k b program o i rest ≡ fixed_way program f k o b i ++ straight f k rest
    by true = refl
    by false = refl
through_is program f k o (Brought lines) rest = tested_is program f k o lines rest
