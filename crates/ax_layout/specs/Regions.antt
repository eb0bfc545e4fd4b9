-- Where bytes of objects, of lock words and of frames lie.
use Rattle.std.specs.Prelude.{◌≡◌, ℕ, ◌+◌, ◌≤◌, ◌<◌, ◌%◌, Bool, false, IsTrue, Some, length, slice_get}
use Rattle.ax_module.specs.declared.module.Global.{Global}
use Rattle.ax_module.specs.declared.module.Module.{Module}
use Rattle.ax_module.specs.Types.{type_bytes}
use Rattle.ax_target.specs.declared.target.Target.{Target}
use Rattle.ax_map.specs.Map.{covers, frame_base, frame_room, globals_limit, globals_start, in_globals, in_lock_table, lock_word}
use Rattle.ax_layout.specs.Classes.{class_of}
use Rattle.ax_layout.specs.Layout.{CanBeLaidOut, HasElement, LayoutState, address_in, alignment_of, bytes_in, count_in, layout_of, next_multiple}

-- is b a byte of element i of global g
abbrev pub is_byte_of : LayoutState → ℕ → ℕ → ℕ → Bool
is_byte_of layout g i b = covers (address_in layout g i) (bytes_in layout g) b

-- one of the addresses of processor p's frame
abbrev pub is_byte_of_frame : ℕ → ℕ → Bool
is_byte_of_frame p a = covers (frame_base p) frame_room a

-- of each module within its limits and its layout
abbrev pub InLayouts : (Module → LayoutState → Type 0) → Type 0
InLayouts P = (m : Module) → CanBeLaidOut m → P m (layout_of m)

-- the first multiple of n from a on
pub record IsNextMultiple (n a next : ℕ) : Type 0 where
  pub multiple : next % n ≡ 0
  pub from : a ≤ next
  pub first : next < a + n

abbrev pub MultiplesAreNext : Type 0
MultiplesAreNext = (n a : ℕ) → 1 ≤ n → IsNextMultiple n a (next_multiple n a)

-- a global's elements are as many and as great as the module says, and begin at the next multiple of its alignment
pub record IsThatOf (layout : LayoutState) (g : ℕ) (global : Global) : Type 0 where
  pub within : g < length layout.spans
  pub count : count_in layout g ≡ global.count
  pub bytes : bytes_in layout g ≡ type_bytes global.elem
  pub aligned : address_in layout g 0 % alignment_of global ≡ 0

abbrev pub AreThoseOfTheModule : Module → LayoutState → Type 0
AreThoseOfTheModule m layout = (g : ℕ) (global : Global) → slice_get m.globals g ≡ Some global → IsThatOf layout g global

-- two elements that share a byte are one
abbrev pub AreApart : Module → LayoutState → Type 0
AreApart m layout =
    (g i h j b : ℕ) → HasElement layout g i → HasElement layout h j →
    IsTrue (is_byte_of layout g i b) → IsTrue (is_byte_of layout h j b) → (g ≡ h) × (i ≡ j)

-- an element has a byte, and lies from where globals start to their end, which is within their limit
pub record Lies (layout : LayoutState) (g i : ℕ) : Type 0 where
  pub some : 1 ≤ bytes_in layout g
  pub first : globals_start ≤ address_in layout g i
  pub last : address_in layout g i + bytes_in layout g ≤ layout.end
  pub limit : layout.end ≤ globals_limit

abbrev pub AllLie : Module → LayoutState → Type 0
AllLie m layout = (g i : ℕ) → HasElement layout g i → Lies layout g i

-- all elements of a global have one class
abbrev pub AreOfOneClass : Module → LayoutState → Type 0
AreOfOneClass m layout =
    (g i j : ℕ) (target : Target) → HasElement layout g i → HasElement layout g j →
    class_of (address_in layout g i) (bytes_in layout g) target ≡ class_of (address_in layout g j) (bytes_in layout g) target

-- a byte of an object is one of the globals' region alone
pub record IsGlobalsAlone (layout : LayoutState) (b : ℕ) : Type 0 where
  pub globals : IsTrue (in_globals layout.end b)
  pub locks : in_lock_table b ≡ false
  pub frames : (p : ℕ) → is_byte_of_frame p b ≡ false

abbrev pub AreInTheirRegion : Module → LayoutState → Type 0
AreInTheirRegion m layout = (g i b : ℕ) → HasElement layout g i → IsTrue (is_byte_of layout g i b) → IsGlobalsAlone layout b

-- a byte of a lock word lies in the lock table, and in no frame and no other lock word
pub record IsLockAlone (index b : ℕ) : Type 0 where
  pub table : IsTrue (in_lock_table b)
  pub others : (other : ℕ) → IsTrue (covers (lock_word other) 4 b) → index ≡ other
  pub frames : (p : ℕ) → is_byte_of_frame p b ≡ false

abbrev pub LocksAreApart : Type 0
LocksAreApart = (index b : ℕ) → index < 256 → IsTrue (covers (lock_word index) 4 b) → IsLockAlone index b

-- a byte is of one frame at most
abbrev pub FramesAreApart : Type 0
FramesAreApart = (p q b : ℕ) → IsTrue (is_byte_of_frame p b) → IsTrue (is_byte_of_frame q b) → p ≡ q
