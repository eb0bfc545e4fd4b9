-- Slots of a frame on RV64. Register 2 is the stack pointer, and register 8 has the address of a slot that lies far from it.
use Rattle.std.specs.Prelude.{ℕ, ◌+◌, ◌-◌, ◌*◌, ◌^◌, Bool, not, ◌&&◌, if◌then◌else◌, nat_eq, nat_le, nat_lt, ℤ, pos, negsuc, List, [], ◌∷◌, ◌++◌}
use Rattle.ax_rv.specs.declared.instructions.Binary.TheVariants as binary
use Rattle.ax_rv.specs.declared.instructions.LoadForm.TheVariants as load
use Rattle.ax_rv.specs.declared.instructions.RvInstr.{RvInstr}
use Rattle.ax_rv.specs.declared.instructions.RvInstr.TheVariants.{Li, Binary, Load, Store}
use Rattle.ax_rv.specs.declared.instructions.StoreForm.TheVariants as store
use Rattle.ax_emit.specs.Table.{Table}

-- registers for numbers: not 0, the link register, the stack pointer, and that of far slots
abbrev pub is_usable : ℕ → Bool
is_usable t = nat_le 3 t && nat_lt t 32 && not (nat_eq t 8)

-- slot r lies 8 * (r + 1) bytes below the stack pointer; so many can be reached by a displacement of 12 bits
abbrev pub near_slots : ℕ
near_slots = 256

abbrev pub below : ℕ → ℤ
below r = negsuc (8 * r + 7)

-- a number down from another
abbrev pub down : ℕ → ℕ
down n = 2 ^ 64 - n

abbrev pub far_address : ℕ → List RvInstr
far_address r = Li 8 (down (8 * (r + 1))) ∷ Binary binary.Add 8 2 8 ∷ []

-- register t gets the number of slot r
abbrev pub get_by : Bool → ℕ → ℕ → List RvInstr
get_by near t r = if near then Load load.Double t (below r) 2 ∷ [] else far_address r ++ Load load.Double t (pos 0) 8 ∷ []

abbrev pub get : ℕ → ℕ → List RvInstr
get t r = get_by (nat_lt r near_slots) t r

-- slot r gets that of register t
abbrev pub put_first_by : Bool → ℕ → ℕ → List RvInstr
put_first_by near r t = if near then [] else far_address r

abbrev pub put_last_by : Bool → ℕ → ℕ → RvInstr
put_last_by near r t = if near then Store store.Double t (below r) 2 else Store store.Double t (pos 0) 8

abbrev pub put_first : ℕ → ℕ → List RvInstr
put_first r t = put_first_by (nat_lt r near_slots) r t

abbrev pub put_last : ℕ → ℕ → RvInstr
put_last r t = put_last_by (nat_lt r near_slots) r t

abbrev pub rv_table : Table RvInstr
rv_table = record { stack = 2; via = 8; usable = is_usable; get = get; put_first = put_first; put_last = put_last }
