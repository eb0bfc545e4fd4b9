-- When middle code is well formed for a target: the rules that need no call of a routine.
use Rattle.std.specs.Prelude.{◌≡◌, ℕ, ◌+◌, ◌-◌, ◌*◌, ◌<◌, ◌≤◌, ◌⊎◌, Bool, true, false, ◌&&◌, ◌||◌, IsTrue, Contains, nat_eq, nat_le, nat_lt, if◌then◌else◌, List, [], ◌∷◌, ◌++◌, Some, None, length, slice_get}
use Rattle.ax_words.specs.declared.mark.Op.{Op}
use Rattle.ax_words.specs.declared.mark.Op.TheVariants as op
use Rattle.ax_words.specs.declared.order.Order.{Order}
use Rattle.ax_words.specs.declared.place.Site.{Site}
use Rattle.ax_words.specs.declared.width.Width.{Width}
use Rattle.ax_words.specs.Orders.{is_legal}
use Rattle.ax_words.specs.Width.{IsWidth, bytes_of}
use Rattle.ax_tags.specs.declared.tags.Tag.{Tag}
use Rattle.ax_tags.specs.declared.tags.Tag.TheVariants as tag
use Rattle.ax_map.specs.Map.{globals_limit, globals_start}
use Rattle.ax_layout.specs.Classes.{class_of}
use Rattle.ax_target.specs.declared.decision.Way.{Way}
use Rattle.ax_target.specs.declared.decision.Way.TheVariants.{Inline, CasLoop, PairLoop, Masked, Sized, Generic}
use Rattle.ax_target.specs.declared.target.Target.{Target}
use Rattle.ax_target.specs.Decisions.{decided}
use Rattle.ax_target.specs.Rows.{access_of}
use Rattle.ax_source_run.specs.SourceAccess.{is_native_class}
use Rattle.ax_mid.specs.declared.code.Line.{Line}
use Rattle.ax_mid.specs.declared.code.Mid.{Mid}
use Rattle.ax_mid.specs.declared.code.MidGlobal.{MidGlobal}
use Rattle.ax_mid.specs.declared.instruction.MidInst.{MidInst}
use Rattle.ax_mid.specs.declared.instruction.MidInst.TheVariants as mid
use Rattle.ax_mid.specs.Machine.{is_wide}

-- ---- sites
-- by function, and then by instruction
abbrev pub IsUpTo : Site → Site → Type 0
IsUpTo a b = (a.function < b.function) ⊎ ((a.function ≡ b.function) × (a.instruction ≤ b.instruction))

-- from each line to the next the site does not fall
abbrev pub SitesNeverFall : {R : Type 0} → Mid R → Type 0
SitesNeverFall {R} m = (place : ℕ) (a b : Line R) → slice_get m.lines place ≡ Some a → slice_get m.lines (place + 1) ≡ Some b → IsUpTo a.site b.site

-- ---- labels
abbrev pub LabelsStandOnce : {R : Type 0} → Mid R → Type 0
LabelsStandOnce {R} m =
    (p q n : ℕ) (a b : Line R) → slice_get m.lines p ≡ Some a → slice_get m.lines q ≡ Some b → a.inst ≡ mid.Label n → b.inst ≡ mid.Label n → p ≡ q

-- the labels to which an instruction leads
unfoldable pub labels_named : {R : Type 0} → MidInst R → List ℕ
labels_named (mid.Jump n) = n ∷ []
labels_named (mid.Branch test n k) = n ∷ k ∷ []
labels_named _ = []

-- a label stands in a function
pub record StandsIn {R : Type 0} (m : Mid R) (f n : ℕ) : Type 0 where
  pub place : ℕ
  pub line : Line R
  pub at : slice_get m.lines place ≡ Some line
  pub label : line.inst ≡ mid.Label n
  pub function : line.site.function ≡ f

abbrev pub LabelsStandInTheirFunctions : {R : Type 0} → Mid R → Type 0
LabelsStandInTheirFunctions {R} m = (place n : ℕ) (a : Line R) → slice_get m.lines place ≡ Some a → Contains (labels_named a.inst) n → StandsIn m a.site.function n

-- ---- globals
-- at most 65,536 elements of 1 to 16 bytes where globals lie, and their class
pub record IsPlaced (target : Target) (g : MidGlobal) : Type 0 where
  pub least : 1 ≤ g.count
  pub most : g.count ≤ 65536
  pub size : IsWidth g.bytes
  pub above : globals_start ≤ g.address
  pub below : g.address + g.count * g.bytes ≤ globals_limit
  pub class : g.native ≡ is_native_class (class_of g.address g.bytes target)

pub record GlobalsLie {R : Type 0} (target : Target) (m : Mid R) : Type 0 where
  pub few : length m.globals ≤ 256
  pub placed : (k : ℕ) (g : MidGlobal) → slice_get m.globals k ≡ Some g → IsPlaced target g
  -- each ends before the next begins
  pub apart : (j k : ℕ) (g h : MidGlobal) → j < k → slice_get m.globals j ≡ Some g → slice_get m.globals k ≡ Some h → g.address + g.count * g.bytes ≤ h.address

-- ---- atomic operations
-- a way that calls no routine
abbrev pub is_direct_way : Way → Bool
is_direct_way Inline = true
is_direct_way CasLoop = true
is_direct_way PairLoop = true
is_direct_way Masked = true
is_direct_way Sized = false
is_direct_way Generic = false

-- by the decision table an operation calls no routine, and its order is one that the table has
pub record HasWay (target : Target) (o : Op) (width : Width) (order : Order) : Type 0 where
  pub direct : is_direct_way (decided target o width (bytes_of width)) ≡ true
  pub legal : is_legal (access_of o) order ≡ true

unfoldable pub HasWayIn : {R : Type 0} → Target → MidInst R → Type 0
HasWayIn target (mid.Atomic o width order weak address args results) = HasWay target o width order
HasWayIn target _ = Unit {0}

abbrev pub OperationsHaveWays : {R : Type 0} → Target → Mid R → Type 0
OperationsHaveWays {R} target m = (place : ℕ) (a : Line R) → slice_get m.lines place ≡ Some a → HasWayIn target a.inst

-- ---- room in the frame
unfoldable pub registers_of : {R : Type 0} → MidInst R → List R
registers_of (mid.Const to n) = to ∷ []
registers_of (mid.Copy to from) = to ∷ from ∷ []
registers_of (mid.Apply o to left right) = to ∷ left ∷ right ∷ []
registers_of (mid.Shift o to from by) = to ∷ from ∷ []
registers_of (mid.Extend to from bits signed) = to ∷ from ∷ []
registers_of (mid.Select to test x y) = to ∷ test ∷ x ∷ y ∷ []
registers_of (mid.Branch test n k) = test ∷ []
registers_of (mid.FrameAddress to offset) = to ∷ []
registers_of (mid.Load to address n) = to ∷ address ∷ []
registers_of (mid.Store address from n) = address ∷ from ∷ []
registers_of (mid.Atomic o width order weak address args results) = address ∷ args ++ results
registers_of (mid.Call routine role args results) = args ++ results
registers_of (mid.Out from) = from ∷ []
registers_of _ = []

-- of function f: 8 bytes for each of its registers, and the bytes of its frame that have addresses, within a limit
pub record HasRoom {R : Type 0} (key : R → ℕ) (limit : ℕ) (m : Mid R) (f : ℕ) : Type 0 where
  pub registers : ℕ
  pub bytes : ℕ
  pub fits : 8 * registers + bytes ≤ limit
  pub named : (place : ℕ) (a : Line R) (r : R) → slice_get m.lines place ≡ Some a → a.site.function ≡ f → Contains (registers_of a.inst) r → key r < registers
  pub framed : (place : ℕ) (a : Line R) (to : R) (offset : ℕ) → slice_get m.lines place ≡ Some a → a.site.function ≡ f → a.inst ≡ mid.FrameAddress to offset → offset ≤ bytes

-- ---- shapes
abbrev pub is_silent : Tag → Bool
is_silent tag.Silent = true
is_silent _ = false

abbrev pub is_act : Tag → Bool
is_act tag.Act = true
is_act _ = false

-- the registers of so many numbers of a width
abbrev pub words : Width → ℕ → ℕ
words width n = if is_wide width then 2 * n else n

abbrev pub words_taken : Op → Width → ℕ
words_taken op.Load width = 0
words_taken op.Store width = words width 1
words_taken op.Cmpxchg width = words width 2
words_taken (op.Rmw o) width = words width 1
words_taken op.Fence width = 0

abbrev pub words_given : Op → Width → ℕ
words_given op.Load width = words width 1
words_given op.Store width = 0
words_given op.Cmpxchg width = words width 1 + 1
words_given (op.Rmw o) width = words width 1
words_given op.Fence width = 0

-- 1, 2, 4 or 8 bytes
abbrev pub is_access_size : ℕ → Bool
is_access_size n = nat_eq n 1 || nat_eq n 2 || nat_eq n 4 || nat_eq n 8

-- an instruction of a function with its tag; a call of a routine gets its case with the routines
unfoldable pub is_shaped : {R : Type 0} → Tag → MidInst R → Bool
is_shaped t (mid.Shift o to from by) = (is_silent t || is_act t) && nat_lt by 64
is_shaped t (mid.Extend to from bits signed) = (is_silent t || is_act t) && nat_lt 0 bits && nat_le bits 64
is_shaped t (mid.Load to address n) = (is_silent t || is_act t) && is_access_size n
is_shaped t (mid.Store address from n) = (is_silent t || is_act t) && is_access_size n
is_shaped t (mid.Atomic o width order weak address args results) = is_act t && nat_eq (length args) (words_taken o width) && nat_eq (length results) (words_given o width)
is_shaped t (mid.Call routine role args results) = false
is_shaped t (mid.Out from) = is_act t
is_shaped t mid.Trap = is_act t
is_shaped t mid.Ret = is_act t
is_shaped t (mid.Label n) = is_silent t
is_shaped t (mid.Branch test n k) = is_silent t
is_shaped t _ = is_silent t || is_act t

-- what a function can end with
unfoldable pub is_last : {R : Type 0} → MidInst R → Bool
is_last (mid.Jump n) = true
is_last (mid.Branch test n k) = true
is_last mid.Trap = true
is_last mid.Ret = true
is_last _ = false

-- the places of an image that a line takes at most, in units of 17: a select's four slots out of reach take four each
unfoldable pub weight : {R : Type 0} → MidInst R → ℕ
weight (mid.Atomic o width order weak address args results) = 8
weight (mid.Call routine role args results) = 16
weight _ = 1

abbrev pub weight_of : {R : Type 0} → List (Line R) → ℕ
weight_of [] = 0
weight_of (line ∷ lines) = weight line.inst + weight_of lines

-- 2 ^ 31 / 17, so that an image has fewer than 2 ^ 31 places
abbrev pub most_weight : ℕ
most_weight = 126322567

pub record HasShape {R : Type 0} (m : Mid R) : Type 0 where
  pub shaped : (place : ℕ) (a : Line R) → slice_get m.lines place ≡ Some a → IsTrue (is_shaped a.tag a.inst)
  -- functions are numbered from 0 without a gap
  pub first : (a : Line R) → slice_get m.lines 0 ≡ Some a → a.site.function ≡ 0
  pub no_gap : (place : ℕ) (a b : Line R) → slice_get m.lines place ≡ Some a → slice_get m.lines (place + 1) ≡ Some b → b.site.function ≤ a.site.function + 1
  -- and each has a last instruction that does not go on
  pub ends : (place : ℕ) (a b : Line R) → slice_get m.lines place ≡ Some a → slice_get m.lines (place + 1) ≡ Some b → a.site.function < b.site.function → IsTrue (is_last a.inst)
  pub end : (place : ℕ) (a : Line R) → slice_get m.lines place ≡ Some a → slice_get m.lines (place + 1) ≡ None → IsTrue (is_last a.inst)
  pub short : weight_of m.lines ≤ most_weight

-- ---- well formed
pub record IsWellFormed {R : Type 0} (key : R → ℕ) (limit : ℕ) (target : Target) (m : Mid R) : Type 0 where
  pub sites : SitesNeverFall m
  pub labels : LabelsStandOnce m
  pub named : LabelsStandInTheirFunctions m
  pub globals : GlobalsLie target m
  pub room : (f : ℕ) → HasRoom key limit m f
  pub ways : OperationsHaveWays target m
  pub shape : HasShape m
