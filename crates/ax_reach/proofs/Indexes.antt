-- Indexes of 64 bits.
use Rattle.std.proofs.Common.{◌≡◌, ℕ, ◌/◌, ◌^◌, ◌<◌, arith}
use Rattle.std.specs.Prelude.{ℤ, pos, negsuc}
use Rattle.std.proofs.Math.Nat.{div-zero}
use Rattle.ax_module.specs.declared.types.Ty.{Ty}
use Rattle.ax_ops.specs.Operation.{signed}
use Rattle.ax_source_run.specs.SourceValues.{index_of, type_bits, wrapped}

wrapped_below : (n : ℤ) → wrapped 64 n < 2 ^ 64
wrapped_below (pos n) = omega arith
wrapped_below (negsuc n) = omega arith

pub index_below : (ty : Ty) (n : ℕ) → index_of ty n < 2 ^ 64
index_below ty n = wrapped_below (signed (type_bits ty) n)

pub by_none : (a : ℕ) → a / 0 ≡ 0
by_none a = div-zero a
