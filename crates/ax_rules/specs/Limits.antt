-- N12 Limit.
use Rattle.std.specs.Prelude.{◌-◌, if◌then◌else◌, ℕ, ◌*◌, Bool, false, not, ◌&&◌, ◌||◌, nat_eq, nat_lt, nat_le, List, [], ◌∷◌, length, Option, Some, None, sum_by}
use Rattle.std.specs.List.{list_any, count_by}
use Rattle.ax_module.specs.declared.inst.Inst.{Inst}
use Rattle.ax_module.specs.declared.inst.Inst.TheVariants as inst
use Rattle.ax_module.specs.declared.module.Block.{Block}
use Rattle.ax_module.specs.declared.module.Function.{Function}
use Rattle.ax_module.specs.declared.module.Global.{Global}
use Rattle.ax_module.specs.declared.operand.Operand.{Operand}
use Rattle.ax_module.specs.declared.types.Ty.{Ty}
use Rattle.ax_module.specs.Kinds.{is_phi}
use Rattle.ax_module.specs.Types.{type_bytes}
use Rattle.ax_map.specs.Map.{globals_limit, globals_start}
use Rattle.ax_layout.specs.Layout.{end_of_span, is_alignment, next_multiple, span_after}
use Rattle.ax_rules.specs.Constants.{fits_type}
use Rattle.ax_rules.specs.Parts.{operands_of}

-- the alignment that an instruction states
unfoldable pub alignment_in : Inst → Option ℕ
alignment_in (inst.Alloca t count align) = align
alignment_in (inst.Load t a align) = align
alignment_in (inst.LoadAtomic t a order align) = Some align
alignment_in (inst.Store t v a align) = align
alignment_in (inst.StoreAtomic t v a order align) = Some align
alignment_in (inst.Cmpxchg weak a t v u w success failure align) = Some align
alignment_in (inst.Rmw op a t v order align) = Some align
alignment_in _ = None

-- a constant beyond its type
abbrev pub is_beyond : Ty × Operand → Bool
is_beyond (t, v) = not (fits_type t v)

-- an alignment that is no power of two from 1 to 4,096, or a constant beyond its type
abbrev pub limit_fault : Inst → Bool
limit_fault i = not (is_alignment (alignment_in i)) || list_any is_beyond (operands_of i)

-- whether global g is the first of these that ends past the limit, behind what ends at an address
abbrev pub passes_first : ℕ → List Global → ℕ → Bool
passes_first end [] g = false
passes_first end (v ∷ vs) g =
    if nat_eq g 0 then nat_lt globals_limit (end_of_span (span_after end v))
    else nat_le (end_of_span (span_after end v)) globals_limit && passes_first (end_of_span (span_after end v)) vs (g - 1)

-- from 1 to 65,536 elements
abbrev pub is_count : ℕ → Bool
is_count n = nat_lt 0 n && nat_le n 65536

-- a number beyond the limits at a global; there may be 256
abbrev pub global_limit_fault : List Global → ℕ → Global → Bool
global_limit_fault globals g v =
    not (is_count v.count) || not (is_alignment v.align) || list_any (λ c. not (fits_type v.elem c)) v.init || nat_eq g 256 || passes_first globals_start globals g

abbrev pub instruction_count : Function → ℕ
instruction_count f = sum_by (λ b. length b.insts) f.blocks

-- more than 64 phis in a block
abbrev pub has_many_phis : Block → Bool
has_many_phis b = nat_lt 64 (count_by is_phi b.insts)

-- the bytes of an alloca, rounded up to 16
unfoldable pub alloca_bytes : Inst → ℕ
alloca_bytes (inst.Alloca t count align) = next_multiple 16 (count * type_bytes t)
alloca_bytes _ = 0

abbrev pub bytes_of_allocas : Function → ℕ
bytes_of_allocas f = sum_by (λ b. sum_by alloca_bytes b.insts) f.blocks

-- a count beyond the limits in a function; there may be 64
abbrev pub head_limit_fault : ℕ → Function → Bool
head_limit_fault k f = nat_eq k 64 || nat_lt 2048 (instruction_count f) || list_any has_many_phis f.blocks || nat_lt 32768 (bytes_of_allocas f)
