-- *Skeleton and rows*, points 1, 2, 4 and, of point 6, what it says of sites and of ranges that are entered: each instruction's code has the memory, fence and call instructions of its row, and no others. Point 3 comes with plain accesses, the pieces of routines with the routines.
use Rattle.std.specs.Prelude.{◌≡◌, ℕ, zero, suc, ◌+◌, ◌-◌, ◌<◌, ◌≤◌, ◌⊎◌, Bool, true, false, if◌then◌else◌, List, [], ◌∷◌, ◌++◌, Option, Some, None, slice_get, option_to_list, flat_map}
use Rattle.ax_words.specs.declared.mark.Mark.{Mark}
use Rattle.ax_words.specs.declared.mark.Mark.TheVariants as mark
use Rattle.ax_words.specs.declared.mark.Op.{Op}
use Rattle.ax_words.specs.declared.mark.Op.TheVariants as op
use Rattle.ax_words.specs.declared.order.Order.{Order}
use Rattle.ax_words.specs.declared.order.Order.TheVariants.{Unordered, Monotonic}
use Rattle.ax_words.specs.declared.routine.RoutineName.{RoutineName}
use Rattle.ax_words.specs.declared.width.Width.{Width}
use Rattle.ax_words.specs.declared.width.Width.TheVariants.{W64}
use Rattle.ax_words.specs.Orders.{merged_order}
use Rattle.ax_words.specs.Routine.{routine_named}
use Rattle.ax_target.specs.declared.decision.Way.{Way}
use Rattle.ax_target.specs.declared.decision.Way.TheVariants.{Inline}
use Rattle.ax_target.specs.declared.target.Target.{Target}
use Rattle.ax_target.specs.Decisions.{decided}
use Rattle.ax_target.specs.Rows.{row_of}
use Rattle.ax_isa.specs.declared.images.Image.{Image}
use Rattle.ax_isa.specs.declared.effects.Effect.{Effect}
use Rattle.ax_isa.specs.declared.effects.Effect.TheVariants.{Jump, CallTo, Return}
use Rattle.ax_isa.specs.declared.images.RoutineRange.{RoutineRange}
use Rattle.ax_isa.specs.declared.images.SiteRange.{SiteRange}
use Rattle.ax_isa.specs.Processor.{Processor}
use Rattle.ax_isa.specs.Run.{at_code}
use Rattle.ax_isa.specs.Steps.{Kind}
use Rattle.ax_module.specs.declared.inst.Inst.{Inst}
use Rattle.ax_module.specs.declared.inst.Inst.TheVariants as inst
use Rattle.ax_module.specs.Kinds.{is_phi}
use Rattle.ax_source_run.specs.SourceInstructions.{width_of}
use Rattle.ax_source_run.specs.SourcePointers.{insts_of}
use Rattle.ax_source_run.specs.SourceState.{SourceProgram}

-- the skeleton of code: its memory, fence and call instructions in order, without those whose base is a frame register
abbrev pub skeleton_of : {I : Type 0} → Kind I → List I → List Mark
skeleton_of kind code = flat_map (kind.marks_of kind.frame) code

-- n instructions from a place on
abbrev pub codes_from : {I : Type 0} → List I → ℕ → ℕ → List I
codes_from code place zero = []
codes_from code place (suc n) = option_to_list (at_code code place) ++ codes_from code (place + 1) n

abbrev pub range_of : {I : Type 0} → List I → SiteRange → List I
range_of code r = codes_from code r.first (r.last + 1 - r.first)

-- an unordered order counts as monotonic
abbrev pub counted : Order → Order
counted Unordered = Monotonic
counted order = order

-- the row of an atomic access under `decide`
abbrev pub access_row : Target → Op → Order → Width → ℕ → List Mark
access_row target operation order width align = row_of target operation order width (decided target operation width align)

-- a library call has one call, of the named routine; an output has none
abbrev pub call_row : Option RoutineName → List Mark
call_row (Some routine) = mark.Call routine ∷ []
call_row None = []

-- the row of an instruction that is no plain access; a fence of one thread alone has none
unfoldable pub row_at : Target → Inst → Option (List Mark)
row_at target (inst.LoadAtomic ty addr order align) = Some (access_row target op.Load (counted order) (width_of ty) align)
row_at target (inst.StoreAtomic ty v addr order align) = Some (access_row target op.Store (counted order) (width_of ty) align)
row_at target (inst.Cmpxchg weak addr ty expected new_ty new success failure align) = Some (access_row target op.Cmpxchg (merged_order (counted success) (counted failure)) (width_of ty) align)
row_at target (inst.Rmw operation addr ty v order align) = Some (access_row target (op.Rmw operation) (counted order) (width_of ty) align)
row_at target (inst.Fence single order) = Some (if single then [] else row_of target op.Fence order W64 Inline)
row_at target (inst.Call result name args) = Some (call_row (routine_named name))
row_at target (inst.Load ty addr align) = None
row_at target (inst.Store ty v addr align) = None
row_at target _ = Some []

-- an atomic instruction whose way is Inline, or a fence
abbrev pub is_inline_way : Way → Bool
is_inline_way Inline = true
is_inline_way _ = false

unfoldable pub is_inline : Target → Inst → Bool
is_inline target (inst.LoadAtomic ty addr order align) = is_inline_way (decided target op.Load (width_of ty) align)
is_inline target (inst.StoreAtomic ty v addr order align) = is_inline_way (decided target op.Store (width_of ty) align)
is_inline target (inst.Cmpxchg weak addr ty expected new_ty new success failure align) = is_inline_way (decided target op.Cmpxchg (width_of ty) align)
is_inline target (inst.Rmw operation addr ty v order align) = is_inline_way (decided target (op.Rmw operation) (width_of ty) align)
is_inline target (inst.Fence single order) = true
is_inline target _ = false

-- a place lies in no range
pub record IsOutside {I : Type 0} (image : Image I) (place : ℕ) : Type 0 where
  pub sites : (n : ℕ) (r : SiteRange) → slice_get image.sites n ≡ Some r → (place < r.first) ⊎ (r.last < place)
  pub routines : (n : ℕ) (r : RoutineRange) → slice_get image.routines n ≡ Some r → (place < r.first) ⊎ (r.last < place)

-- a jump or a call leads to a place
abbrev pub LeadsTo : Effect → ℕ → Type 0
LeadsTo (Jump place) q = place ≡ q
LeadsTo (CallTo place saved) q = place ≡ q
LeadsTo _ q = ⊥

module _ {I : Type 0} (kind : Kind I) (image : Image I) where
  -- no jump or call from outside leads into a range, except to its first place
  abbrev pub IsEnteredFirst : ℕ → ℕ → Type 0
  IsEnteredFirst first last =
      (place : ℕ) (i : I) → at_code image.code place ≡ Some i → (place < first) ⊎ (last < place) → (c : Processor) → c.place ≡ place
      → (q : ℕ) → LeadsTo (kind.effect_of i c) q → first ≤ q → q ≤ last → q ≡ first

  -- no return; a jump leads forward, to a place of the range or to the place after it, and passes over no instruction of the row
  abbrev pub StaysInline : ℕ → ℕ → Effect → Type 0
  StaysInline last place (Return back) = ⊥
  StaysInline last place (Jump q) = (place < q) × (q ≤ last + 1) × ((m : ℕ) (i : I) → place < m → m < q → at_code image.code m ≡ Some i → kind.marks_of kind.frame i ≡ [])
  StaysInline last place _ = Unit {0}

pub record HasRows {I : Type 0} (kind : Kind I) (image : Image I) (program : SourceProgram) : Type 0 where
  -- each instruction but a phi has a range
  pub covered : (f k : ℕ) (i : Inst) → slice_get (insts_of program.source f) k ≡ Some i → is_phi i ≡ false → (n : ℕ) × (r : SiteRange) × (slice_get image.sites n ≡ Some r) × (r.site ≡ record { function = f; instruction = k })
  -- its skeleton is the instruction's row
  pub rows :
      (n : ℕ) (r : SiteRange) → slice_get image.sites n ≡ Some r
      → (i : Inst) × (slice_get (insts_of program.source r.site.function) r.site.instruction ≡ Some i) × ((marks : List Mark) → row_at program.target i ≡ Some marks → skeleton_of kind (range_of image.code r) ≡ marks)
  -- all code outside ranges has an empty skeleton
  pub outside : (place : ℕ) (i : I) → at_code image.code place ≡ Some i → IsOutside image place → kind.marks_of kind.frame i ≡ []
  -- a range is entered at its first place
  pub sites_entered : (n : ℕ) (r : SiteRange) → slice_get image.sites n ≡ Some r → IsEnteredFirst kind image r.first r.last
  pub routines_entered : (n : ℕ) (r : RoutineRange) → slice_get image.routines n ≡ Some r → IsEnteredFirst kind image r.first r.last
  -- nothing leads out of the code of an inline atomic instruction or of a fence, or over its row
  pub inline :
      (n : ℕ) (r : SiteRange) → slice_get image.sites n ≡ Some r → (i : Inst) → slice_get (insts_of program.source r.site.function) r.site.instruction ≡ Some i → is_inline program.target i ≡ true
      → (place : ℕ) (x : I) → at_code image.code place ≡ Some x → r.first ≤ place → place ≤ r.last → (c : Processor) → c.place ≡ place → StaysInline kind image r.last place (kind.effect_of x c)
