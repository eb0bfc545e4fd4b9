-- What is known of the objects of a function of an accepted module.
use Rattle.std.proofs.Common.{◌≡◌, ℕ, zero, suc, ◌+◌, ◌*◌, ◌<◌, ◌≤◌, true, false, ◌||◌, List, [], ◌∷◌, map, Option, Some, None, refl, sym, ap, ◌∙◌, subst, arith, slice_get, slice_index_or, length}
use Rattle.std.specs.List.{list_any}
use Rattle.std.proofs.lemmas.Bool.{or_parts, true≢false, false≢true}
use Rattle.std.proofs.lemmas.List.Elements.{All-get_or}
use Rattle.std.proofs.lemmas.Option.{none-some, slice_get_within, get_or_from_slice_get}
use Rattle.ax_module.specs.declared.inst.Inst.{Inst}
use Rattle.ax_module.specs.declared.inst.Inst.TheVariants as inst
use Rattle.ax_module.specs.declared.module.Function.{Function}
use Rattle.ax_module.specs.declared.module.Global.{Global}
use Rattle.ax_module.specs.declared.module.Module.{Module}
use Rattle.ax_module.specs.declared.types.Ty.{Ty}
use Rattle.ax_module.specs.declared.types.Ty.TheVariants.{I1, I8, I16, I32, I64, I128, Int, Float, Double, Ptr, Vector}
use Rattle.ax_module.specs.Types.{type_bytes}
use Rattle.ax_module.specs.WellFormed.{is_bit}
use Rattle.ax_layout.specs.declared.address_range.AddressRange.{AddressRange}
use Rattle.ax_layout.specs.Layout.{CanBeLaidOut, HasElement, IsLaidOut, LayoutState, address_in, end_of_span, is_element_type, layout_of, nowhere, span_after, spans_after}
use Rattle.ax_layout.proofs.Elements.{those}
use Rattle.ax_rules.specs.declared.facts.FunctionScope.{FunctionScope}
use Rattle.ax_rules.specs.Facts.{outcome_of, scope_of}
use Rattle.ax_rules.specs.Parts.{pointers_of, types_of}
use Rattle.ax_rules.specs.Width.{has_wide_step, is_left_out, is_odd, memory_types}
use Rattle.ax_check.specs.Accepted.{IsAccepted}
use Rattle.ax_check.specs.Laws.{AtInstructions, IsSound, IsSoundHead}
use Rattle.ax_source_run.specs.SourcePointers.{elements_of, elements_of_alloca, elements_of_global, insts_of}
use Rattle.ax_source_run.specs.SourceState.{Object, Private, Shared, SourceProgram}
use Rattle.ax_typed.proofs.Places.{all_insts, place_of}
use Rattle.ax_typed.proofs.Standing.{outcome_is, sound_at}
use Rattle.ax_selected.proofs.Lying.{few_bytes}
use Rattle.ax_selected.specs.Addresses.{frame_offset, offset_in, rounded_bytes}
use Rattle.ax_reach.specs.declared.frame.Frame.{Frame}
use Rattle.ax_reach.specs.Facts.{AreOf, Fits}
use Rattle.ax_reach.specs.Frames.{frame_bytes, frame_of}
use Rattle.ax_reach.proofs.Tables.{globals_extents, insts_are, offset_past_all, offsets_from_first, past_all}

-- ---- types of elements
named_bytes : (t : Ty) → is_odd t ≡ false → type_bytes t ≤ 16
named_bytes (Int bits) h = absurd (true≢false h)
named_bytes I1 h = omega arith
named_bytes I8 h = omega arith
named_bytes I16 h = omega arith
named_bytes I32 h = omega arith
named_bytes I64 h = omega arith
named_bytes I128 h = omega arith
named_bytes Float h = omega arith
named_bytes Double h = omega arith
named_bytes Ptr h = omega arith
named_bytes Vector h = omega arith

element_bytes : (t : Ty) → is_element_type t ≡ true → type_bytes t ≤ 16
element_bytes (Int bits) h = absurd (false≢true h)
element_bytes I8 h = omega arith
element_bytes I16 h = omega arith
element_bytes I32 h = omega arith
element_bytes I64 h = omega arith
element_bytes I128 h = omega arith
element_bytes _ h = absurd (false≢true h)

alloca_small : (o : Option Inst) → ((x : Inst) → o ≡ Some x → list_any is_odd (types_of x) ≡ false) → type_bytes (elements_of_alloca o).elem ≤ 16
unfolding elements_of_alloca types_of
alloca_small (Some (inst.Alloca t count align)) h = named_bytes t (or_parts (is_odd t) (list_any is_odd []) (h (inst.Alloca t count align) refl)).0
alloca_small _ h = omega arith

-- ---- globals
laid_at : (m : Module) (limits : CanBeLaidOut m) (g : ℕ) (v : Global) → slice_get m.globals g ≡ Some v → IsLaidOut v
laid_at m limits g v e =
    subst IsLaidOut (get_or_from_slice_get m.globals g v v e) (All-get_or IsLaidOut m.globals g v (slice_get_within m.globals g v e) limits.globals)

no_span : (globals : List Global) (end g : ℕ) → slice_get globals g ≡ None → slice_index_or (spans_after end globals) g nowhere ≡ nowhere
no_span [] end g e = refl
no_span (v ∷ globals) end zero e = absurd (none-some v (sym e))
no_span (v ∷ globals) end (suc g) e = no_span globals (end_of_span (span_after end v)) g e

module _ (m : Module) (limits : CanBeLaidOut m) where
  global_small : (g : ℕ) (o : Option Global) → slice_get m.globals g ≡ o → type_bytes (elements_of_global o).elem ≤ 16
  global_small g None e = omega arith
  global_small g (Some v) e = element_bytes v.elem (laid_at m limits g v e).element

  has_element : (g i : ℕ) (o : Option Global) → slice_get m.globals g ≡ o → i < (elements_of_global o).count → HasElement (layout_of m) g i
  has_element g i None e lt = absurd (omega (arith, lt))
  has_element g i (Some v) e lt =
      let that = those m limits g v e in
      record { global = that.within; element = subst (λ (n : ℕ). i < n) (sym that.count) lt }

  is_absent : (g : ℕ) (o : Option Global) → slice_get m.globals g ≡ o → (elements_of_global o).count ≡ 0 → address_in (layout_of m) g 0 ≡ 0
  is_absent g None e none = ap (λ (span : AddressRange). span.start + 0 * span.bytes) (no_span m.globals 65536 g e)
  is_absent g (Some v) e none = let least = (laid_at m limits g v e).least in absurd (omega (arith, none, least))

-- ---- a function
abbrev FewLaw : Type 0
FewLaw = (program : SourceProgram) → IsAccepted program → length program.source.functions ≤ 64

abbrev HeadLaw : Type 0
HeadLaw = (program : SourceProgram) (k : ℕ) (f : Function) → IsAccepted program → slice_get program.source.functions k ≡ Some f → IsSoundHead k f

abbrev LimitsLaw : Type 0
LimitsLaw = (program : SourceProgram) → IsAccepted program → CanBeLaidOut program.source

module _ (program : SourceProgram) (accepted : IsAccepted program) (n : ℕ) (f : Function) (at : slice_get program.source.functions n ≡ Some f) (heads : HeadLaw) where
  abbrev m : Module
  m = program.source

  within : (r : ℕ) → frame_offset m n r + rounded_bytes (elements_of m n (Private r)) ≤ 32768
  within = few_bytes m n f at (heads program n f accepted at).bytes

  pub frame_within : frame_bytes (map outcome_of (all_insts f.blocks)) ≤ 32768
  frame_within =
      let insts = all_insts f.blocks in
      let most = within (past_all insts) in
      let all : frame_offset m n (past_all insts) ≡ frame_bytes (map outcome_of insts) =
      ap (λ (is : List Inst). offset_in is (past_all insts)) (insts_are m n f at) ∙ offset_past_all insts in
      omega (arith, most, all)

  module _ (sound : AtInstructions IsSound) (few : FewLaw) (limits : LimitsLaw) where
    not_odd : (r : ℕ) (x : Inst) → slice_get (insts_of m n) r ≡ Some x → list_any is_odd (types_of x) ≡ false
    not_odd r x e =
        let p = place_of f.blocks r x (ap (λ (is : List Inst). slice_get is r) (sym (insts_are m n f at)) ∙ e) in
        let s = sound_at program accepted sound n f at p.block p.index r x p.number p.inst in
        let w = or_parts (list_any is_odd (types_of x) || list_any is_bit (memory_types x) || is_left_out x) (list_any has_wide_step (pointers_of x)) s.width in
        let y = or_parts (list_any is_odd (types_of x) || list_any is_bit (memory_types x)) (is_left_out x) w.0 in
        (or_parts (list_any is_odd (types_of x)) (list_any is_bit (memory_types x)) y.0).0

    sizes : (o : Object) → type_bytes (elements_of m n o).elem ≤ 16
    sizes (Shared g) = global_small m (limits program accepted) g (slice_get m.globals g) refl
    sizes (Private r) = alloca_small (slice_get (insts_of m n) r) (not_odd r)

    fits : n < length m.functions → Fits program n
    fits lt =
        let laid = sym accepted.layout in
        let most = few program accepted in
        record {
          number = omega (arith, lt, most);
          sizes = sizes;
          frame = within;
          globals = λ g i less. subst (λ (layout : LayoutState). HasElement layout g i) laid (has_element m (limits program accepted) g i (slice_get m.globals g) refl less);
          absent = λ g none. subst (λ (layout : LayoutState). address_in layout g 0 ≡ 0) laid (is_absent m (limits program accepted) g (slice_get m.globals g) refl none);
        }

    pub are_of : (scope : FunctionScope) (frame : Frame) → n < length m.functions → scope ≡ scope_of m f → frame ≡ frame_of scope.outcomes → AreOf program n scope frame
    are_of scope frame lt is by = subst (λ (x : FunctionScope). (y : Frame) → y ≡ frame_of x.outcomes → AreOf program n x y) (sym is) made frame by
      where
        insts : List Inst
        insts = all_insts f.blocks

        made : (y : Frame) → y ≡ frame_of (scope_of m f).outcomes → AreOf program n (scope_of m f) y
        made y e = subst (λ (z : Frame). AreOf program n (scope_of m f) z) (sym e) (record {
          outcome = outcome_is program accepted sound n f at;
          global = globals_extents m.globals;
          offset = λ r. offsets_from_first insts r ∙ ap (λ (is : List Inst). offset_in is r) (sym (insts_are m n f at));
          fits = fits lt;
        })
