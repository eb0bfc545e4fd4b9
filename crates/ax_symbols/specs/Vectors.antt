-- Vectors one in the other.
use Rattle.std.specs.Prelude.{ℕ, zero, suc, List, Option}
use Rattle.ax_module.specs.declared.types.Ty.{Ty}
use Rattle.ax_symbols.specs.declared.symbol.Symbol.{Symbol}
use Rattle.ax_symbols.specs.Pieces.{closed}

-- so many vectors, each behind the type of its elements and `>`
abbrev pub closed_times : ℕ → Option (Ty × List Symbol) → Option (Ty × List Symbol)
closed_times zero o = o
closed_times (suc n) o = closed_times n (closed o)
