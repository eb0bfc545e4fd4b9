-- The lines before those of an access: the way to the element. And the lines of each access.
use Rattle.std.specs.Prelude.{ℕ, Bool, true, false, nat_lt, List, [], ◌∷◌, ◌++◌, map}
use Rattle.ax_module.specs.declared.operand.Addr.{Addr}
use Rattle.ax_module.specs.declared.types.Ty.{Ty}
use Rattle.ax_source_run.specs.SourceState.{Object, SourceProgram}
use Rattle.ax_mid.specs.declared.code.Line.{Line}
use Rattle.ax_mid.specs.declared.instruction.MidInst.{MidInst}
use Rattle.ax_mid.specs.declared.instruction.MidInst.TheVariants as mid
use Rattle.ax_mid.specs.declared.registers.Virtual.{Virtual}
use Rattle.ax_selected.specs.Addresses.{Brought, Fixed, IndexAt, address_of, bytes_of, count_of, pointing}
use Rattle.ax_selected.specs.Pieces.{Straight}
use Rattle.ax_selected.specs.Registers.{first_label, flag_of, high_of, low_of, second_label, virtual}
use Rattle.ax_selected.specs.Selected.{acting, atomic_load_lines, atomic_store_lines, compared, exchange_lines, found, halves, load_lines, next_half, silent, store_lines, through, update_lines}
use Rattle.ax_reach.specs.declared.access.Access.{Access}
use Rattle.ax_reach.specs.declared.access.Access.TheVariants as access

-- an access through a pointer
abbrev pub reached : SourceProgram → ℕ → ℕ → Addr → Straight → List (Line Virtual)
reached program f k a rest = through f k program (pointing program f a).object (pointing program f a).index rest

-- the bytes of an element to which a pointer points
abbrev pub element_bytes : SourceProgram → ℕ → Addr → ℕ
element_bytes program f a = bytes_of program f (pointing program f a).object

-- the trap where the test in register 2 fails
abbrev pub guard : ℕ → ℕ → List (Line Virtual)
guard f k =
    silent f k (mid.Branch (virtual 2) (second_label f k) (first_label f k)) ∷ silent f k (mid.Label (first_label f k)) ∷ acting f k mid.Trap ∷ silent f k (mid.Label (second_label f k)) ∷ []

module _ (program : SourceProgram) (f k : ℕ) (object : Object) where
  -- the index in register 1 is tested, and the element's address comes into register 0
  abbrev pub tested_way : List (Line Virtual)
  tested_way = map (silent f k) (compared f k (count_of program f object)) ++ guard f k ++ map (silent f k) (found f k (address_of program f object 0) (bytes_of program f object))

  -- so is a fixed index that lies past the last element
  abbrev pub fixed_way : Bool → ℕ → List (Line Virtual)
  fixed_way true i = silent f k (address_of program f object i) ∷ []
  fixed_way false i = silent f k (mid.Const (virtual 1) i) ∷ tested_way

  abbrev pub way : IndexAt → List (Line Virtual)
  way (Fixed i) = fixed_way (nat_lt i (count_of program f object)) i
  way (Brought lines) = map (silent f k) lines ++ tested_way

-- a number of 128 bits in registers 3 and 4 is stored
abbrev pub wide_store : Straight
wide_store = record { silent = mid.Store (virtual 0) (virtual 3) 8 ∷ next_half; last = mid.Store (virtual 1) (virtual 4) 8 }

abbrev pub exchange_results : ℕ → Ty → List Virtual
exchange_results k ty = halves ty (low_of k) (high_of k) ++ virtual (flag_of k) ∷ []

-- the lines of an access to an element of so many bytes
abbrev pub access_lines : ℕ → ℕ → Access → Straight
access_lines k bytes (access.Load ty) = load_lines k ty bytes
access_lines k bytes (access.Store ty v) = store_lines ty v bytes
access_lines k bytes (access.LoadAtomic ty order) = atomic_load_lines k ty order
access_lines k bytes (access.StoreAtomic ty v order) = atomic_store_lines ty v order
access_lines k bytes (access.Update op ty v order) = update_lines k op ty v order
access_lines k bytes (access.Compare x) = exchange_lines k x.weak x.ty x.expected x.desired_ty x.desired x.order
