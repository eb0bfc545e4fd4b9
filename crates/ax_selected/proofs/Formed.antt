-- The selected code keeps rules of a well formed middle module.
use Rattle.std.proofs.Common.{◌≡◌, ℕ, zero, suc, ◌+◌, ◌*◌, ◌<◌, ◌≤◌, true, false, not, List, [], ◌∷◌, Option, Some, None, All, length, refl, sym, ap, ◌∙◌, subst, arith, slice_get}
use Rattle.std.specs.Prelude.{unwrap_or}
use Rattle.std.proofs.lemmas.Bool.{or_parts, false≢true}
use Rattle.std.proofs.lemmas.List.Elements.{All-head, All-tail}
use Rattle.std.proofs.lemmas.Option.{get_or_from_slice_get, none-some, same_Some}
use Rattle.ax_module.specs.declared.inst.Inst.{Inst}
use Rattle.ax_module.specs.declared.inst.Inst.TheVariants as inst
use Rattle.ax_module.specs.declared.module.Function.{Function}
use Rattle.ax_module.specs.declared.module.Global.{Global}
use Rattle.ax_module.specs.declared.types.Ty.{Ty}
use Rattle.ax_module.specs.declared.types.Ty.TheVariants.{I8, I16, I32, I64, I128}
use Rattle.ax_module.specs.Types.{type_bytes}
use Rattle.ax_map.specs.Map.{globals_start}
use Rattle.ax_layout.specs.Layout.{CanBeLaidOut, IsLaidOut, LayoutState, alignment_of, end_after, end_of_span, is_alignment, is_element_type, nowhere, span_after, span_in, spans_after}
use Rattle.ax_layout.specs.declared.address_range.AddressRange.{AddressRange}
use Rattle.ax_layout.specs.Regions.{MultiplesAreNext}
use Rattle.ax_layout.specs.Classes.{class_of}
use Rattle.ax_source_run.specs.SourceAccess.{is_native_class}
use Rattle.ax_source_run.specs.SourcePointers.{blocks_in}
use Rattle.ax_source_run.specs.SourceInstructions.{width_of}
use Rattle.ax_source_run.specs.SourceState.{SourceProgram}
use Rattle.ax_words.specs.declared.mark.Op.TheVariants as op
use Rattle.ax_words.specs.declared.order.Access.TheVariants as access
use Rattle.ax_words.specs.declared.order.Order.{Order}
use Rattle.ax_words.specs.declared.order.Order.TheVariants.{Unordered, Monotonic, Acquire, Release, AcqRel, SeqCst}
use Rattle.ax_words.specs.Orders.{is_legal, merged_order}
use Rattle.ax_words.specs.Width.{IsWidth, is_width}
use Rattle.ax_target.specs.Rows.{access_of}
use Rattle.ax_mid.specs.declared.code.Line.{Line}
use Rattle.ax_mid.specs.declared.code.MidGlobal.{MidGlobal}
use Rattle.ax_mid.specs.declared.instruction.MidInst.{MidInst}
use Rattle.ax_mid.specs.declared.instruction.MidInst.TheVariants as mid
use Rattle.ax_mid.specs.declared.registers.Virtual.{Virtual}
use Rattle.ax_mid.specs.WellFormed.{GlobalsLie, HasWayIn, IsPlaced, LabelsStandOnce}
use Rattle.ax_access_rules.specs.Orders.{order_fault}
use Rattle.ax_check.specs.Accepted.{IsAccepted}
use Rattle.ax_typed.proofs.Places.{all_insts, place_of}
use Rattle.ax_typed.proofs.Standing.{sound_at}
use Rattle.ax_typed.proofs.Types.{is_true}
use Rattle.ax_selected.specs.Direct.{needs_no_routine}
use Rattle.ax_selected.specs.Formed.{IsFormed, SelectedCodeIsFormed}
use Rattle.ax_selected.specs.Laid.{IsLaid}
use Rattle.ax_selected.specs.Operations.{Operation, operation_in, operation_of}
use Rattle.ax_selected.specs.Selected.{begins, globals_from, mid_global, selected}
use Rattle.ax_selected.proofs.Operating.{operations_are_at_sites}
use Rattle.ax_selected.proofs.Sites.{sites_never_fall}
use Rattle.ax_selected.proofs.Whole.{Laws, laid}

-- ---- labels
labels_once : (program : SourceProgram) → IsLaid program (selected program).lines (begins program) → LabelsStandOnce (selected program)
labels_once program is p q n a b ea eb la lb =
    let x = is.labels p n a ea la in
    let y = is.labels q n b eb lb in
    omega (arith, x, y)

-- ---- globals
alignment_some : (n : ℕ) → is_alignment (Some n) ≡ true → 1 ≤ n
alignment_some zero h = absurd (false≢true h)
alignment_some (suc n) h = omega arith

element_bytes : (t : Ty) → is_element_type t ≡ true → (is_width (type_bytes t) ≡ true) × (1 ≤ type_bytes t)
element_bytes I8 h = (refl, omega arith)
element_bytes I16 h = (refl, omega arith)
element_bytes I32 h = (refl, omega arith)
element_bytes I64 h = (refl, omega arith)
element_bytes I128 h = (refl, omega arith)
element_bytes _ h = absurd (false≢true h)

alignment_least : (global : Global) → IsLaidOut global → 1 ≤ alignment_of global
alignment_least global is = by global.align refl is.align
  where
    by : (o : Option ℕ) → global.align ≡ o → is_alignment global.align ≡ true → 1 ≤ alignment_of global
    by None e h = subst (λ (x : Option ℕ). 1 ≤ unwrap_or x (type_bytes global.elem)) (sym e) (element_bytes global.elem is.element).1
    by (Some n) e h = subst (λ (x : Option ℕ). 1 ≤ unwrap_or x (type_bytes global.elem)) (sym e) (alignment_some n (ap is_alignment (sym e) ∙ h))

module _ (next : MultiplesAreNext) where
  starts_behind : (end : ℕ) (global : Global) → IsLaidOut global → end ≤ (span_after end global).start
  starts_behind end global is = (next (alignment_of global) end (alignment_least global is)).from

  goes_on : (end : ℕ) (globals : List Global) → All IsLaidOut globals → end ≤ end_after end globals
  goes_on end [] all = omega arith
  goes_on end (x ∷ globals) all =
      let here = starts_behind end x (All-head IsLaidOut x globals all) in
      let rest = goes_on (end_of_span (span_after end x)) globals (All-tail IsLaidOut x globals all) in
      omega (arith, here, rest)

  record Row (end : ℕ) (globals : List Global) (span : AddressRange) : Type 0 where
    least : 1 ≤ span.count
    most : span.count ≤ 65536
    size : IsWidth span.bytes
    from : end ≤ span.start
    to : end_of_span span ≤ end_after end globals

  row : (end : ℕ) (globals : List Global) → All IsLaidOut globals → (k : ℕ) (span : AddressRange) → slice_get (spans_after end globals) k ≡ Some span → Row end globals span
  row end [] all k span e = absurd (none-some span e)
  row end (x ∷ globals) all zero span e =
      let is = All-head IsLaidOut x globals all in
      subst (Row end (x ∷ globals)) (same_Some (span_after end x) span e) (record {
        least = is.least;
        most = is.most;
        size = (element_bytes x.elem is.element).0;
        from = starts_behind end x is;
        to = goes_on (end_of_span (span_after end x)) globals (All-tail IsLaidOut x globals all);
      })
  row end (x ∷ globals) all (suc k) span e =
      let r = row (end_of_span (span_after end x)) globals (All-tail IsLaidOut x globals all) k span e in
      let here = starts_behind end x (All-head IsLaidOut x globals all) in
      let from = r.from in
      record { least = r.least; most = r.most; size = r.size; from = omega (arith, here, from); to = r.to }

  rows_apart : (end : ℕ) (globals : List Global) → All IsLaidOut globals → (j k : ℕ) (a b : AddressRange) → j < k → slice_get (spans_after end globals) j ≡ Some a → slice_get (spans_after end globals) k ≡ Some b → end_of_span a ≤ b.start
  rows_apart end [] all j k a b lt ea eb = absurd (none-some a ea)
  rows_apart end (x ∷ globals) all zero zero a b lt ea eb = absurd (omega (arith, lt))
  rows_apart end (x ∷ globals) all zero (suc k) a b lt ea eb =
      let r = row (end_of_span (span_after end x)) globals (All-tail IsLaidOut x globals all) k b eb in
      subst (λ (s : AddressRange). end_of_span s ≤ b.start) (same_Some (span_after end x) a ea) r.from
  rows_apart end (x ∷ globals) all (suc j) zero a b lt ea eb = absurd (omega (arith, lt))
  rows_apart end (x ∷ globals) all (suc j) (suc k) a b lt ea eb = rows_apart (end_of_span (span_after end x)) globals (All-tail IsLaidOut x globals all) j k a b (omega (arith, lt)) ea eb

record FromSpan (program : SourceProgram) (spans : List AddressRange) (n k : ℕ) (g : MidGlobal) : Type 0 where
  span : AddressRange
  at : slice_get spans k ≡ Some span
  is : g ≡ mid_global program program.layout (n + k) span

from_span : (program : SourceProgram) (n : ℕ) (spans : List AddressRange) (k : ℕ) (g : MidGlobal) → slice_get (globals_from program n spans) k ≡ Some g → FromSpan program spans n k g
from_span program n [] k g e = absurd (none-some g e)
from_span program n (x ∷ spans) zero g e =
    let same : n ≡ n + 0 = omega arith in
    record { span = x; at = refl; is = sym (same_Some (mid_global program program.layout n x) g e) ∙ ap (λ (m : ℕ). mid_global program program.layout m x) same }
from_span program n (x ∷ spans) (suc k) g e =
    let r = from_span program (n + 1) spans k g e in
    let same : n + 1 + k ≡ n + suc k = omega arith in
    record { span = r.span; at = r.at; is = r.is ∙ ap (λ (m : ℕ). mid_global program program.layout m r.span) same }

span_count : (end : ℕ) (globals : List Global) → length (spans_after end globals) ≡ length globals
span_count end [] = refl
span_count end (x ∷ globals) = let e = span_count (end_of_span (span_after end x)) globals in omega (arith, e)

global_count : (program : SourceProgram) (n : ℕ) (spans : List AddressRange) → length (globals_from program n spans) ≡ length spans
global_count program n [] = refl
global_count program n (x ∷ spans) = let e = global_count program (n + 1) spans in omega (arith, e)

-- ---- orders
merged_legal : (a b : Order) → is_legal access.CmpSuccess a ≡ true → is_legal access.CmpFailure b ≡ true → is_legal access.CmpSuccess (merged_order a b) ≡ true
merged_legal Unordered b h g = absurd (false≢true h)
merged_legal a Unordered h g = absurd (false≢true g)
merged_legal a Release h g = absurd (false≢true g)
merged_legal a AcqRel h g = absurd (false≢true g)
merged_legal Monotonic Monotonic h g = refl
merged_legal Monotonic Acquire h g = refl
merged_legal Monotonic SeqCst h g = refl
merged_legal Acquire Monotonic h g = refl
merged_legal Acquire Acquire h g = refl
merged_legal Acquire SeqCst h g = refl
merged_legal Release Monotonic h g = refl
merged_legal Release Acquire h g = refl
merged_legal Release SeqCst h g = refl
merged_legal AcqRel Monotonic h g = refl
merged_legal AcqRel Acquire h g = refl
merged_legal AcqRel SeqCst h g = refl
merged_legal SeqCst Monotonic h g = refl
merged_legal SeqCst Acquire h g = refl
merged_legal SeqCst SeqCst h g = refl

abbrev IsLegal : Operation → Type 0
IsLegal o = is_legal (access_of o.op) o.order ≡ true

legal_of : (i : Inst) (o : Operation) → operation_of i ≡ Some o → order_fault i ≡ false → IsLegal o
unfolding operation_of order_fault
legal_of (inst.LoadAtomic t a order align) o e h = subst IsLegal (same_Some (record { op = op.Load; width = width_of t; order = order; weak = false }) o e) (is_true (is_legal access.Load order) h)
legal_of (inst.StoreAtomic t v a order align) o e h = subst IsLegal (same_Some (record { op = op.Store; width = width_of t; order = order; weak = false }) o e) (is_true (is_legal access.Store order) h)
legal_of (inst.Cmpxchg weak a t v u w success failure align) o e h =
    let p = or_parts (not (is_legal access.CmpSuccess success)) (not (is_legal access.CmpFailure failure)) h in
    subst IsLegal (same_Some (record { op = op.Cmpxchg; width = width_of t; order = merged_order success failure; weak = weak }) o e)
    (merged_legal success failure (is_true (is_legal access.CmpSuccess success) p.0) (is_true (is_legal access.CmpFailure failure) p.1))
legal_of (inst.Rmw r a t v order align) o e h = subst IsLegal (same_Some (record { op = op.Rmw r; width = width_of t; order = order; weak = false }) o e) (is_true (is_legal access.Rmw order) h)
legal_of (inst.Fence false order) o e h = subst IsLegal (same_Some (record { op = op.Fence; width = width_of I64; order = order; weak = false }) o e) (is_true (is_legal access.Fence order) h)
legal_of (inst.Fence true order) o e h = absurd (none-some o e)
legal_of _ o e h = absurd (none-some o e)

module _ (laws : Laws) (next : MultiplesAreNext) (program : SourceProgram) (accepted : IsAccepted program) where
  abbrev can : CanBeLaidOut program.source
  can = laws.laid_out program accepted

  spans_are : program.layout.spans ≡ spans_after globals_start program.source.globals
  spans_are = ap (λ (l : LayoutState). l.spans) accepted.layout

  placed_at : (k : ℕ) (span : AddressRange) → slice_get program.layout.spans k ≡ Some span → IsPlaced program.target (mid_global program program.layout (0 + k) span)
  placed_at k span e =
      let spans = program.layout.spans in
      let r = row next globals_start program.source.globals can.globals k span (ap (λ (xs : List AddressRange). slice_get xs k) (sym spans_are) ∙ e) in
      let from = r.from in
      let to = r.to in
      let end = can.end in
      let zero_more : 0 + k ≡ k = omega arith in
      let is : span_in program.layout (0 + k) ≡ span = get_or_from_slice_get spans (0 + k) span nowhere (ap (slice_get spans) zero_more ∙ e) in
      let first : span.start + 0 * span.bytes ≡ span.start = omega arith in
      record {
        least = r.least;
        most = r.most;
        size = r.size;
        above = omega (arith, from);
        below = omega (arith, to, end);
        class = ap (λ (s : AddressRange). is_native_class (class_of (s.start + 0 * s.bytes) s.bytes program.target)) is ∙ ap (λ (n : ℕ). is_native_class (class_of n span.bytes program.target)) first;
      }

  globals_lie : GlobalsLie program.target (selected program)
  globals_lie =
      let spans = program.layout.spans in
      let made = global_count program 0 spans in
      let count = ap (λ (xs : List AddressRange). length xs) spans_are ∙ span_count globals_start program.source.globals in
      let most = can.count in
      record {
        few = omega (arith, made, count, most);
        placed = λ k g e. let r = from_span program 0 spans k g e in subst (IsPlaced program.target) (sym r.is) (placed_at k r.span r.at);
        apart = λ j k g h lt eg eh.
            let r = from_span program 0 spans j g eg in
            let s = from_span program 0 spans k h eh in
            let far = rows_apart next globals_start program.source.globals can.globals j k r.span s.span lt (ap (λ (xs : List AddressRange). slice_get xs j) (sym spans_are) ∙ r.at) (ap (λ (xs : List AddressRange). slice_get xs k) (sym spans_are) ∙ s.at) in
            subst (λ (x : MidGlobal). x.address + x.count * x.bytes ≤ h.address) (sym r.is)
            (subst (λ (x : MidGlobal). end_of_span r.span ≤ x.address) (sym s.is) far);
      }

  -- ---- ways
  order_in : (f : ℕ) (function : Option Function) → slice_get program.source.functions f ≡ function → (k : ℕ) (i : Inst) → slice_get (all_insts (blocks_in function)) k ≡ Some i → order_fault i ≡ false
  order_in f None at k i e = absurd (none-some i e)
  order_in f (Some g) at k i e =
      let p = place_of g.blocks k i e in
      let s = sound_at program accepted laws.sound f g at p.block p.index k i p.number p.inst in
      s.order

  way_in : needs_no_routine program ≡ true → (place : ℕ) (a : Line Virtual) → slice_get (selected program).lines place ≡ Some a → (x : MidInst Virtual) → a.inst ≡ x → HasWayIn program.target x
  unfolding HasWayIn operation_in
  way_in needs place a e (mid.Atomic o width order weak address args results) is =
      let own : Operation = record { op = o; width = width; order = order; weak = weak } in
      let w = operations_are_at_sites program place a own e (ap operation_in is) in
      record { direct = w.way needs; legal = legal_of w.inst own w.operation (order_in a.site.function (slice_get program.source.functions a.site.function) refl a.site.instruction w.inst w.at) }
  way_in needs place a e _ is = tt

  is_formed : IsFormed program (selected program)
  is_formed = record {
    sites = sites_never_fall program;
    labels = labels_once program (laid laws program accepted);
    globals = globals_lie;
    ways = λ needs place a e. way_in needs place a e a.inst refl;
  }

pub code_is_formed : Laws → MultiplesAreNext → SelectedCodeIsFormed
code_is_formed laws next program accepted = is_formed laws next program accepted
