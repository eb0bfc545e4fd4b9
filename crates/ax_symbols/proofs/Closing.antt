-- The `>` of vectors one in the other.
use Rattle.std.proofs.Common.{◌≡◌, ℕ, zero, suc, ◌+◌, ◌-◌, ◌<◌, arith, List, [], ◌∷◌, length, Option, None, refl, ap}
use Rattle.ax_module.specs.declared.types.Ty.{Ty}
use Rattle.ax_symbols.specs.declared.symbol.Symbol.{Symbol}
use Rattle.ax_symbols.specs.Pieces.{one_at, simple_type_of, type_at, closed}
use Rattle.ax_symbols.specs.Vectors.{closed_times}

pub close_none : (n : ℕ) → closed_times n None ≡ None
close_none zero = refl
close_none (suc n) = close_none n

pub close_step : (n i : ℕ) (o : Option (Ty × List Symbol)) → i < n → closed_times (n - i) o ≡ closed_times (n - (i + 1)) (closed o)
close_step n i o h =
    let e : n - i ≡ suc (n - (i + 1)) = omega (arith, h) in
    ap (λ (k : ℕ). closed_times k o) e

-- a vector begins with three symbols
pub too_short : (line : List Symbol) → length line < 3 → type_at line ≡ one_at simple_type_of line
too_short [] h = refl
too_short (a ∷ []) h = refl
too_short (a ∷ b ∷ []) h = refl
too_short (a ∷ b ∷ c ∷ line) h = absurd (omega (arith, h))
