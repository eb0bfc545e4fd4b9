-- Where the elements of a module's globals lie: *Layout*.
pub use Rattle.ax_layout.specs.LayoutState.{LayoutState, end_of_span}
use Rattle.std.specs.Prelude.{◌≤◌, ◌<◌, ◌+◌, ◌-◌, ◌*◌, ◌/◌, ℕ, Bool, true, false, IsTrue, List, [], ◌∷◌, Option, Some, None, All, length, nat_eq, slice_index_or, unwrap_or}
use Rattle.std.specs.List.{list_any}
use Rattle.ax_map.specs.Map.{globals_limit, globals_start}
use Rattle.ax_module.specs.declared.module.Global.{Global}
use Rattle.ax_module.specs.declared.module.Module.{Module}
use Rattle.ax_module.specs.declared.types.Ty.{Ty}
use Rattle.ax_module.specs.declared.types.Ty.TheVariants.{I8, I16, I32, I64, I128}
use Rattle.ax_module.specs.Types.{type_bytes}
use Rattle.ax_layout.specs.declared.address_range.AddressRange.{AddressRange}

-- the types of elements: whole numbers of 8 to 128 bits
abbrev pub is_element_type : Ty → Bool
is_element_type I8 = true
is_element_type I16 = true
is_element_type I32 = true
is_element_type I64 = true
is_element_type I128 = true
is_element_type _ = false

-- the powers of two from 1 to 4,096
abbrev pub alignments : List ℕ
alignments = 1 ∷ 2 ∷ 4 ∷ 8 ∷ 16 ∷ 32 ∷ 64 ∷ 128 ∷ 256 ∷ 512 ∷ 1024 ∷ 2048 ∷ 4096 ∷ []

-- whether a stated alignment is one of them
abbrev pub is_alignment : Option ℕ → Bool
is_alignment None = true
is_alignment (Some align) = list_any (nat_eq align) alignments

-- without a stated alignment an element's size counts
abbrev pub alignment_of : Global → ℕ
alignment_of global = unwrap_or global.align (type_bytes global.elem)

-- the next multiple of n, from a on
abbrev pub next_multiple : ℕ → ℕ → ℕ
next_multiple n a = (a + (n - 1)) / n * n

-- where a global lies behind what ends at an address
abbrev pub span_after : ℕ → Global → AddressRange
span_after end global = record { start = next_multiple (alignment_of global) end; bytes = type_bytes global.elem; count = global.count }

-- where globals lie, one after the other
abbrev pub spans_after : ℕ → List Global → List AddressRange
spans_after end [] = []
spans_after end (global ∷ globals) = span_after end global ∷ spans_after (end_of_span (span_after end global)) globals

-- where the last one ends
abbrev pub end_after : ℕ → List Global → ℕ
end_after end [] = end
end_after end (global ∷ globals) = end_after (end_of_span (span_after end global)) globals

abbrev pub layout_of : Module → LayoutState
layout_of m = record { spans = spans_after globals_start m.globals; end = end_after globals_start m.globals }

-- a global of whole numbers, within the limits
pub record IsLaidOut (global : Global) : Type 0 where
  pub element : IsTrue (is_element_type global.elem)
  pub least : 1 ≤ global.count
  pub most : global.count ≤ 65536
  pub align : IsTrue (is_alignment global.align)

-- globals within the limits
pub record CanBeLaidOut (m : Module) : Type 0 where
  pub count : length m.globals ≤ 256
  pub globals : All IsLaidOut m.globals
  pub end : end_after globals_start m.globals ≤ globals_limit

-- nothing lies past the last global
abbrev pub nowhere : AddressRange
nowhere = record { start = 0; bytes = 0; count = 0 }

abbrev pub span_in : LayoutState → ℕ → AddressRange
span_in layout g = slice_index_or layout.spans g nowhere

-- the address of element i of global g
abbrev pub address_in : LayoutState → ℕ → ℕ → ℕ
address_in layout g i = (span_in layout g).start + i * (span_in layout g).bytes

-- the bytes of each of its elements, and how many it has
abbrev pub bytes_in : LayoutState → ℕ → ℕ
bytes_in layout g = (span_in layout g).bytes

abbrev pub count_in : LayoutState → ℕ → ℕ
count_in layout g = (span_in layout g).count

-- there is an element i of global g
pub record HasElement (layout : LayoutState) (g i : ℕ) : Type 0 where
  pub global : g < length layout.spans
  pub element : i < count_in layout g
