-- The object of a pointer that is inside: an element of a native global, or one of an alloca.
use Rattle.std.proofs.Common.{◌≡◌, ℕ, ◌+◌, ◌*◌, ◌%◌, ◌<◌, ◌≤◌, true, false, List, [], ◌∷◌, Option, Some, None, refl, sym, ap, ◌∙◌, subst, arith, slice_get}
use Rattle.std.specs.Prelude.{nat_eq, nat_lt}
use Rattle.std.specs.List.{list_any}
use Rattle.std.specs.Option.{option_map}
use Rattle.std.proofs.lemmas.Bool.{or_parts, true≢false}
use Rattle.std.proofs.lemmas.Option.{slice_get-map}
use Rattle.ax_check.specs.Accepted.{IsAccepted}
use Rattle.ax_check.specs.Laws.{AtInstructions, IsSound}
use Rattle.ax_layout.specs.Classes.{class_of}
use Rattle.ax_layout.specs.Layout.{LayoutState, address_in, alignments, bytes_in}
use Rattle.ax_module.specs.declared.inst.Inst.{Inst}
use Rattle.ax_module.specs.declared.module.Global.{Global}
use Rattle.ax_module.specs.declared.module.Module.{Module}
use Rattle.ax_module.specs.declared.operand.Addr.{Addr}
use Rattle.ax_module.specs.declared.operand.Base.{Base}
use Rattle.ax_module.specs.declared.operand.Base.TheVariants as bases
use Rattle.ax_module.specs.declared.types.Ty.{Ty}
use Rattle.ax_module.specs.declared.types.Ty.TheVariants.{I128}
use Rattle.ax_module.specs.Kinds.{is_phi}
use Rattle.ax_module.specs.Types.{type_bytes}
use Rattle.ax_module.specs.WellFormed.{is_bit}
use Rattle.ax_source_run.specs.SourceAccess.{is_native_element}
use Rattle.ax_source_run.specs.SourceEvent.{number_of_next}
use Rattle.ax_source_run.specs.SourceInstructions.{is_inside, width_of}
use Rattle.ax_source_run.specs.SourcePointers.{elements_of, elements_of_global, pointer_of}
use Rattle.ax_source_run.specs.SourceState.{Object, Pointer, Private, Shared, SourceProcessor, SourceProgram}
use Rattle.ax_mid.specs.declared.code.Mid.{Mid}
use Rattle.ax_mid.specs.declared.code.MidGlobal.{MidGlobal}
use Rattle.ax_mid.specs.declared.registers.Virtual.{Virtual}
use Rattle.ax_mid.specs.Machine.{is_wide}
use Rattle.ax_mid.specs.Processor.{MidProcessor}
use Rattle.ax_mid.specs.Spots.{spot_of}
use Rattle.ax_rules.specs.declared.facts.Origin.TheVariants as origin
use Rattle.ax_rules.specs.declared.facts.Outcome.{Outcome}
use Rattle.ax_rules.specs.declared.facts.Outcome.TheVariants as outcome
use Rattle.ax_rules.specs.declared.facts.FunctionScope.{FunctionScope}
use Rattle.ax_access_rules.specs.Alignment.{are_aligned, index_in, is_locked_class, is_overstated, is_overstated_at, is_overstated_in, is_plain_locked, is_plain_locked_in}
use Rattle.ax_rules.specs.Facts.{extent_of, extent_of_global, origin_of, origin_of_alloca, origin_of_step, origin_of_value, outcome_at}
use Rattle.ax_rules.specs.Kind.{is_other}
use Rattle.ax_rules.specs.Parts.{pointers_of}
use Rattle.ax_rules.specs.Width.{is_i128, is_odd}
use Rattle.ax_target.specs.Decisions.{is_native}
use Rattle.ax_typed.proofs.Pointers.{extent_in, outcomes, pointer_known}
use Rattle.ax_typed.proofs.Standing as standing
use Rattle.ax_typed.proofs.Types.{ResultsFit, bits_by_bytes, is_true}
use Rattle.ax_typed.specs.Typed.{elem_of, outcome_in}
use Rattle.ax_words.specs.Width.{bytes_of}
use Rattle.ax_selected.specs.Addresses.{frame_offset, object_of, object_of_value, stepped_object}
use Rattle.ax_selected.specs.Contract.{Alike, Known, Stands}
use Rattle.ax_selected.specs.Laid.{IsLaid}
use Rattle.ax_selected.specs.Operands.{is_narrow}
use Rattle.ax_selected.proofs.Accessing.{Grounds, Step, good_pointer, is, made_by, pointer_used, points, scope}
use Rattle.ax_selected.proofs.Aligned.{atomic_native, narrow_width, plain_native, width_bits, width_bytes}
use Rattle.ax_selected.proofs.Elements.{OnNative}
use Rattle.ax_selected.proofs.Entering.{number_of_address}
use Rattle.ax_selected.proofs.Frames.{OnOwn, ends}
use Rattle.ax_selected.proofs.Lying.{element_spot, few_bytes, lt_of, own_at, own_multiple}
use Rattle.ax_selected.proofs.Sums.{narrow_le}
use Rattle.ax_selected.proofs.Wide.{OnWide}
use Rattle.ax_selected.proofs.WideFrames.{OnLarge}

eighth : (n : ℕ) → n % 16 ≡ 0 → n % 8 ≡ 0
eighth n h = omega (arith, h)

next_eighth : (n : ℕ) → n % 16 ≡ 0 → (n + 8) % 8 ≡ 0
next_eighth n h = omega (arith, h)

module _ (program : SourceProgram) (accepted : IsAccepted program) (law : AtInstructions IsSound) (fit : ResultsFit) (code : Mid Virtual) (begins : ℕ → ℕ → ℕ → ℕ) (laid : IsLaid program code.lines begins) (most base : ℕ) (enough : 512 ≤ most) (s : SourceProcessor) (c : MidProcessor) (numbers : ℕ → ℕ → ℕ) (alike : Alike s c) (here_is : Stands program.source begins s c) (grounds : Grounds program code base) (i : Inst) (known : Known program s numbers i) where
  abbrev m : Module
  m = program.source

  abbrev f : ℕ
  f = s.function

  abbrev layout : LayoutState
  layout = program.layout

  abbrev the_scope : FunctionScope
  the_scope = scope program accepted law fit code begins laid most base enough s c numbers alike here_is grounds i known

  abbrev stands : standing.Stands program accepted law s i
  stands = is program accepted law fit code begins laid most base enough s c numbers alike here_is grounds i known

  outcome_same : (r : ℕ) → outcome_at the_scope r ≡ outcome_in m f r
  outcome_same r = outcomes program accepted law s known.typed i stands r

  -- ---- origins and objects
  shared_by : (b : Base) (g : ℕ) → origin_of_step the_scope b ≡ origin.Global g → stepped_object b ≡ Shared g
  shared_by (bases.Global h) g e = cc
  shared_by (bases.Value r) g e = by (outcome_at the_scope r) e
    where
      by : (o : Outcome) → origin_of_alloca r o ≡ origin.Global g → Private r ≡ Shared g
      by (outcome.Alloca x) e = absurd cc
      by (outcome.Number t) e = absurd cc
      by (outcome.Pair t) e = absurd cc
      by (outcome.Gep b x t v) e = absurd cc
      by outcome.Nothing e = absurd cc
  shared_by (bases.Param r) g e = absurd cc

  private_by : (b : Base) (q : ℕ) → origin_of_step the_scope b ≡ origin.Alloca q → stepped_object b ≡ Private q
  private_by (bases.Global h) q e = absurd cc
  private_by (bases.Value r) q e = by (outcome_at the_scope r) e
    where
      by : (o : Outcome) → origin_of_alloca r o ≡ origin.Alloca q → Private r ≡ Private q
      by (outcome.Alloca x) e = cc
      by (outcome.Number t) e = absurd cc
      by (outcome.Pair t) e = absurd cc
      by (outcome.Gep b x t v) e = absurd cc
      by outcome.Nothing e = absurd cc
  private_by (bases.Param r) q e = absurd cc

  shared_is : (b : Base) (g : ℕ) → origin_of the_scope b ≡ origin.Global g → object_of program f b ≡ Shared g
  shared_is (bases.Global h) g e = cc
  shared_is (bases.Value r) g e = by (outcome_at the_scope r) refl e
    where
      by : (o : Outcome) → outcome_at the_scope r ≡ o → origin_of_value the_scope r o ≡ origin.Global g → object_of program f (bases.Value r) ≡ Shared g
      by (outcome.Alloca x) at e = absurd cc
      by (outcome.Number t) at e = absurd cc
      by (outcome.Pair t) at e = absurd cc
      by (outcome.Gep b x t v) at e = ap (λ (o : Outcome). object_of_value o r) (sym (outcome_same r) ∙ at) ∙ shared_by b g e
      by outcome.Nothing at e = absurd cc
  shared_is (bases.Param r) g e = absurd cc

  private_is : (b : Base) (q : ℕ) → origin_of the_scope b ≡ origin.Alloca q → object_of program f b ≡ Private q
  private_is (bases.Global h) q e = absurd cc
  private_is (bases.Value r) q e = by (outcome_at the_scope r) refl e
    where
      by : (o : Outcome) → outcome_at the_scope r ≡ o → origin_of_value the_scope r o ≡ origin.Alloca q → object_of program f (bases.Value r) ≡ Private q
      by (outcome.Alloca x) at e =
          let own : Private r ≡ Private q = cc in
          ap (λ (o : Outcome). object_of_value o r) (sym (outcome_same r) ∙ at) ∙ own
      by (outcome.Number t) at e = absurd cc
      by (outcome.Pair t) at e = absurd cc
      by (outcome.Gep b x t v) at e = ap (λ (o : Outcome). object_of_value o r) (sym (outcome_same r) ∙ at) ∙ private_by b q e
      by outcome.Nothing at e = absurd cc
  private_is (bases.Param r) q e = absurd cc

  module _ (a : Addr) (one : pointers_of i ≡ a ∷ []) (body : is_phi i ≡ false) (step : Step program accepted law fit code begins laid most base enough s c numbers alike here_is grounds i known a.step) (inside : is_inside program s a ≡ true) where
    abbrev p : Pointer
    p = pointer_of m a s

    abbrev object : Object
    object = object_of program f a.base

    object_is : p.object ≡ object
    object_is = (points program accepted law fit code begins laid most base enough s c numbers alike here_is grounds i known a one body step).object

    pub extent_known : extent_of the_scope (origin_of the_scope a.base) ≡ Some (extent_in m f p.object)
    extent_known =
        pointer_known program accepted law s known.typed i stands a (good_pointer program accepted law fit code begins laid most base enough s c numbers alike here_is grounds i known a one body)
        (made_by program accepted law fit code begins laid most base enough s c numbers alike here_is grounds i known a.base (pointer_used program accepted law fit code begins laid most base enough s c numbers alike here_is grounds i known a body one)).defined inside

    abbrev address : ℕ
    address = number_of_address program code begins laid most base enough f (number_of_next program s) c object p.index

    module _ (t : Ty) (elem : t ≡ elem_of m f p.object) (odd : is_odd t ≡ false) (other : is_other t ≡ false) (bit : is_bit t ≡ false) where
      -- an element of a global
      pub record Shares (g : ℕ) : Type 0 where
        pub var : Global
        pub there : slice_get m.globals g ≡ Some var
        pub within : p.index < var.count
        pub type : var.elem ≡ t

      shares : (g : ℕ) → origin_of the_scope a.base ≡ origin.Global g → Shares g
      shares g o = by (slice_get m.globals g) refl
        where
          at : p.object ≡ Shared g
          at = object_is ∙ shared_is a.base g o

          counted : nat_lt p.index (elements_of_global (slice_get m.globals g)).count ≡ true
          counted = ap (λ (x : Object). nat_lt p.index (elements_of m f x).count) (sym at) ∙ inside

          by : (v : Option Global) → slice_get m.globals g ≡ v → Shares g
          by None e =
              let none : nat_lt p.index 0 ≡ true = ap (λ (v : Option Global). nat_lt p.index (elements_of_global v).count) (sym e) ∙ counted in
              let l = lt_of p.index 0 none in
              absurd (omega (arith, l))
          by (Some v) e =
              record {
                var = v;
                there = e;
                within = lt_of p.index v.count (ap (λ (v : Option Global). nat_lt p.index (elements_of_global v).count) (sym e) ∙ counted);
                type = sym (elem ∙ (ap (elem_of m f) at ∙ ap (λ (v : Option Global). (elements_of_global v).elem) e));
              }

      module _ (g : ℕ) (o : origin_of the_scope a.base ≡ origin.Global g) where
        abbrev v : Shares g
        v = shares g o

        size : bytes_in layout g ≡ type_bytes t
        size = (grounds.as_is.those g v.var v.there).bytes ∙ ap type_bytes v.type

        size_width : bytes_in layout g ≡ bytes_of (width_of t)
        size_width = size ∙ sym (width_bytes t odd other bit)

        in_scope : slice_get the_scope.globals g ≡ Some (extent_of_global v.var)
        in_scope = slice_get-map extent_of_global m.globals g ∙ ap (option_map extent_of_global) v.there

        pub on_native : is_narrow t ≡ true → ((j : ℕ) → is_native_element program g j ≡ true) → OnNative program accepted law code begins laid most base enough s c numbers alike here_is p t address
        on_native narrow native =
            let at = shared_is a.base g o in
            record {
              global = g;
              object = object_is ∙ at;
              native = native p.index;
              spot = ap (λ (x : Object). spot_of code.globals base (number_of_address program code begins laid most base enough f (number_of_next program s) c x p.index) (bytes_of (width_of t))) at
                  ∙ (ap (λ (gs : List MidGlobal). spot_of gs base (address_in layout g p.index) (bytes_of (width_of t))) grounds.globals
                  ∙ element_spot program grounds.as_is g p.index (bytes_of (width_of t)) v.var v.there v.within size_width (native 0) base grounds.above);
              elem = sym (elem ∙ ap (elem_of m f) (object_is ∙ at));
              bits = width_bits t odd other bit;
              narrow = narrow_width t narrow;
              few = narrow_le t narrow;
            }

        pub on_wide : is_wide (width_of t) ≡ true → ((j : ℕ) → is_native_element program g j ≡ true) → OnWide program accepted law code begins laid most base enough s c numbers alike here_is p t address
        on_wide wide native =
            let at = shared_is a.base g o in
            record {
              global = g;
              object = object_is ∙ at;
              native = native p.index;
              spot = ap (λ (x : Object). spot_of code.globals base (number_of_address program code begins laid most base enough f (number_of_next program s) c x p.index) (bytes_of (width_of t))) at
                  ∙ (ap (λ (gs : List MidGlobal). spot_of gs base (address_in layout g p.index) (bytes_of (width_of t))) grounds.globals
                  ∙ element_spot program grounds.as_is g p.index (bytes_of (width_of t)) v.var v.there v.within size_width (native 0) base grounds.above);
              elem = sym (elem ∙ ap (elem_of m f) (object_is ∙ at));
              bits = width_bits t odd other bit;
              wide = wide;
            }

        -- of an atomic access
        pub atomics : (align : ℕ) → is_overstated layout the_scope a align ≡ false → list_any (nat_eq align) alignments ≡ true → is_native program.target (bytes_of (width_of t)) align ≡ true → (j : ℕ) → is_native_element program g j ≡ true
        atomics align over stated native j =
            let at : is_overstated_in layout the_scope a align g (Some (extent_of_global v.var)) ≡ false = ap (is_overstated_in layout the_scope a align g) (sym in_scope) ∙ (ap (is_overstated_at layout the_scope a align) (sym o) ∙ over) in
            atomic_native program g j (extent_of_global v.var) (index_in the_scope (type_bytes v.var.elem) a) (width_of t) align size_width (is_true (are_aligned layout g (extent_of_global v.var) (index_in the_scope (type_bytes v.var.elem) a) align) at) stated native

        -- of a plain access
        pub plains : is_plain_locked layout program.target the_scope (origin_of the_scope a.base) ≡ false → (j : ℕ) → is_native_element program g j ≡ true
        plains locked j =
            let at : is_plain_locked_in layout program.target g (Some (extent_of_global v.var)) ≡ false = ap (is_plain_locked_in layout program.target g) (sym in_scope) ∙ (ap (is_plain_locked layout program.target the_scope) (sym o) ∙ locked) in
            plain_native program g j (type_bytes v.var.elem) (size ∙ ap type_bytes (sym v.type)) (or_parts (is_locked_class (class_of (address_in layout g 0) (type_bytes v.var.elem) program.target)) (is_i128 v.var.elem) at).0

        -- no plain access is of 16 bytes of a global
        pub no_large_plain : is_plain_locked layout program.target the_scope (origin_of the_scope a.base) ≡ false → t ≡ I128 → ⊥
        no_large_plain locked large =
            let at : is_plain_locked_in layout program.target g (Some (extent_of_global v.var)) ≡ false = ap (is_plain_locked_in layout program.target g) (sym in_scope) ∙ (ap (is_plain_locked layout program.target the_scope) (sym o) ∙ locked) in
            let none = (or_parts (is_locked_class (class_of (address_in layout g 0) (type_bytes v.var.elem) program.target)) (is_i128 v.var.elem) at).1 in
            true≢false (sym (ap is_i128 (v.type ∙ large)) ∙ none)

      -- 16 bytes of an alloca
      pub on_large : t ≡ I128 → (r : ℕ) → origin_of the_scope a.base ≡ origin.Alloca r → OnLarge program accepted law code begins laid most base enough s c numbers alike here_is p address
      on_large large r o =
          let at = private_is a.base r o in
          let of_object : p.object ≡ Private r = object_is ∙ at in
          let within : p.index < (elements_of m f (Private r)).count = lt_of p.index (elements_of m f (Private r)).count (ap (λ (x : Object). nat_lt p.index (elements_of m f x).count) (sym of_object) ∙ inside) in
          let type : (elements_of m f (Private r)).elem ≡ I128 = sym (elem ∙ ap (elem_of m f) of_object) ∙ large in
          let bytes : type_bytes (elements_of m f (Private r)).elem ≡ 16 = ap type_bytes type in
          let offset = frame_offset m f r + p.index * type_bytes (elements_of m f (Private r)).elem in
          let few = few_bytes m f stands.function stands.at (grounds.heads f stands.function stands.at).bytes r in
          let end = ends m f r p.index within in
          let whole : offset % 16 ≡ 0 = ap (λ (b : ℕ). (frame_offset m f r + p.index * b) % 16) bytes ∙ own_multiple m f r p.index I128 refl in
          let bound : offset + 16 ≤ 32768 = subst (λ (b : ℕ). offset + b ≤ 32768) bytes (omega (arith, few, end)) in
          let high = grounds.high in
          let is_address : address ≡ base + offset = ap (λ (x : Object). number_of_address program code begins laid most base enough f (number_of_next program s) c x p.index) at in
          let next : address + 8 ≡ base + (offset + 8) = omega (arith, is_address) in
          record {
            alloca = r;
            object = of_object;
            inside = within;
            elem = type;
            first = ap (λ (x : ℕ). spot_of code.globals base x 8) is_address ∙ own_at code.globals base offset 8 (omega (arith, bound)) (eighth offset whole);
            second = ap (λ (x : ℕ). spot_of code.globals base x 8) next ∙ own_at code.globals base (offset + 8) 8 (omega (arith, bound)) (next_eighth offset whole);
            small = omega (arith, is_address, bound, high);
          }

      -- an element of an alloca
      pub on_own : is_narrow t ≡ true → (r : ℕ) → origin_of the_scope a.base ≡ origin.Alloca r → OnOwn program accepted law code begins laid most base enough s c numbers alike here_is p t address
      on_own narrow r o =
          let at = private_is a.base r o in
          let of_object : p.object ≡ Private r = object_is ∙ at in
          let within : p.index < (elements_of m f (Private r)).count = lt_of p.index (elements_of m f (Private r)).count (ap (λ (x : Object). nat_lt p.index (elements_of m f x).count) (sym of_object) ∙ inside) in
          let type : (elements_of m f (Private r)).elem ≡ t = sym (elem ∙ ap (elem_of m f) of_object) in
          let bytes = ap type_bytes type in
          let offset = frame_offset m f r + p.index * type_bytes (elements_of m f (Private r)).elem in
          let few = few_bytes m f stands.function stands.at (grounds.heads f stands.function stands.at).bytes r in
          let end = ends m f r p.index within in
          let fits : offset + type_bytes t ≤ 32768 = subst (λ (b : ℕ). offset + b ≤ 32768) bytes (omega (arith, few, end)) in
          let whole : offset % type_bytes t ≡ 0 = ap (λ (b : ℕ). (frame_offset m f r + p.index * b) % type_bytes t) bytes ∙ own_multiple m f r p.index t odd in
          record {
            alloca = r;
            object = of_object;
            inside = within;
            elem = type;
            bits = bits_by_bytes t odd bit;
            few = narrow_le t narrow;
            spot = ap (λ (x : Object). spot_of code.globals base (number_of_address program code begins laid most base enough f (number_of_next program s) c x p.index) (type_bytes t)) at ∙ own_at code.globals base offset (type_bytes t) fits whole;
          }
