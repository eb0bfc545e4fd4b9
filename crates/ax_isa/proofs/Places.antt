-- Places count from 1.
use Rattle.std.proofs.Common.{◌≡◌, ◌≢◌, ℕ, zero, suc, ◌-◌, List, refl, ap, arith}
use Rattle.std.specs.Prelude.{slice_get}
use Rattle.ax_isa.specs.Run.{at_code}

pub at_place : {A : Type 0} (items : List A) (place : ℕ) → place ≢ 0 → slice_get items (place - 1) ≡ at_code items place
at_place items zero h = absurd (h refl)
at_place items (suc place) h = (let e : suc place - 1 ≡ place = omega arith in ap (slice_get items) e)
