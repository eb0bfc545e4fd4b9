-- What is known of the instruction at which a processor stands, and how its code comes to the element that its pointer names.
use Rattle.std.proofs.Common.{◌≡◌, ℕ, ◌+◌, ◌^◌, ◌<◌, ◌≤◌, Bool, true, false, not, ◌||◌, List, [], ◌∷◌, ◌++◌, Option, Some, None, Contains, flat_map, length, refl, sym, ap, ◌∙◌, subst, slice_get}
use Rattle.std.specs.Prelude.{if◌then◌else◌, nat_lt}
use Rattle.std.specs.List.{list_all, list_any}
use Rattle.std.proofs.lemmas.Bool.{or_parts}
use Rattle.std.proofs.lemmas.List.Elements.{Contains-append_left, Contains-append_right}
use Rattle.ax_check.specs.Accepted.{IsAccepted}
use Rattle.ax_check.specs.declared.defined.Use.{Use}
use Rattle.ax_check.specs.Defined.{further_uses, phi_uses, uses, uses_of, uses_of_base}
use Rattle.ax_check.specs.Laws.{AtInstructions, AtPoints, IsSound, IsSoundHead}
use Rattle.ax_module.specs.declared.inst.Inst.{Inst}
use Rattle.ax_module.specs.declared.module.Block.{Block}
use Rattle.ax_module.specs.declared.module.Function.{Function}
use Rattle.ax_module.specs.declared.module.Module.{Module}
use Rattle.ax_module.specs.declared.operand.Addr.{Addr}
use Rattle.ax_module.specs.declared.operand.Base.{Base}
use Rattle.ax_module.specs.declared.operand.Base.TheVariants as bases
use Rattle.ax_module.specs.declared.operand.Operand.{Operand}
use Rattle.ax_module.specs.declared.types.Ty.{Ty}
use Rattle.ax_module.specs.Kinds.{is_phi}
use Rattle.ax_module.specs.WellFormed.{is_bit}
use Rattle.ax_source_run.specs.SourceEvent.{inst_at, inst_if, number_of_next, seen_by}
use Rattle.ax_source_run.specs.SourceInstructions.{deed, is_inside, is_unreachable, traps}
use Rattle.ax_source_run.specs.SourcePointers.{elements_of, pointer_of}
use Rattle.ax_source_run.specs.SourceState.{Object, Pointer, Private, SourceProcessor, SourceProgram}
use Rattle.ax_mid.specs.declared.code.Line.{Line}
use Rattle.ax_mid.specs.declared.code.Mid.{Mid}
use Rattle.ax_mid.specs.declared.registers.Virtual.{Virtual}
use Rattle.ax_mid.specs.Processor.{MidProcessor}
use Rattle.ax_rules.specs.declared.facts.FunctionScope.{FunctionScope}
use Rattle.ax_rules.specs.Facts.{scope_of}
use Rattle.ax_rules.specs.Kind.{is_bad_gep, is_bad_pointer, is_other}
use Rattle.ax_access_rules.specs.Mixed.{is_mistyped, is_mixed_inst, is_mixed_pointer}
use Rattle.ax_rules.specs.Parts.{operands_of, pointers_of, types_of}
use Rattle.ax_access_rules.specs.RulesAtPoints.{has_width}
use Rattle.ax_rules.specs.Width.{has_wide_step, is_left_out, is_odd, is_wide_step, memory_types}
use Rattle.ax_standing.proofs.Walked.{used_at}
use Rattle.ax_typed.proofs.Accesses.{DeedIs}
use Rattle.ax_typed.proofs.Deeds.{deed_typed}
use Rattle.ax_typed.proofs.Facts.{any_at, operand_at, types_are_whole}
use Rattle.ax_typed.proofs.Places.{all_at, block_at, here}
use Rattle.ax_typed.proofs.Standing as standing
use Rattle.ax_typed.proofs.Types.{ResultsFit}
use Rattle.ax_words.specs.declared.source.SourceStatus.{SourceStatus}
use Rattle.ax_selected.specs.Addresses.{Brought, Fixed, IndexAt, count_of, frame_offset, index_at, object_of, rounded_bytes}
use Rattle.ax_selected.specs.Contract.{Alike, Follows, Known, Stands}
use Rattle.ax_selected.specs.Direct.{is_direct, needs_no_routine}
use Rattle.ax_selected.specs.Laid.{HasAt, IsLaid, piece_of}
use Rattle.ax_selected.specs.Pieces.{Straight}
use Rattle.ax_selected.specs.Registers.{key}
use Rattle.ax_selected.specs.Selected.{chosen_by, globals_from, through}
use Rattle.ax_selected.proofs.Aligned.{narrow_128}
use Rattle.ax_selected.proofs.Computes.{has, held}
use Rattle.ax_selected.proofs.Entering.{Enters, IsInRow, Traps, enters_brought, enters_fixed, number_of_address, traps_fixed}
use Rattle.ax_selected.proofs.Lying.{IsLaidAsIs, few_bytes, in_row}
use Rattle.ax_selected.proofs.Pointing as pointing
use Rattle.ax_selected.proofs.Pointing.{IsMade, PointsAt, StepIs, points_at}
use Rattle.ax_selected.proofs.Reaching.{trap_follows}
use Rattle.ax_selected.proofs.Sums.{narrow_le}

-- what the pieces rest on: laws of the module, its globals in the code, and where the frame lies
pub record Grounds (program : SourceProgram) (code : Mid Virtual) (base : ℕ) : Type 0 where
  pub widths : AtPoints (λ m t p. has_width m p ≡ false)
  pub as_is : IsLaidAsIs program
  pub heads : (n : ℕ) (f : Function) → slice_get program.source.functions n ≡ Some f → IsSoundHead n f
  pub direct : needs_no_routine program ≡ true
  pub globals : code.globals ≡ globals_from program 0 program.layout.spans
  pub above : 2 ^ 24 ≤ base
  pub high : base + 114688 < 2 ^ 64

module _ (program : SourceProgram) (accepted : IsAccepted program) (law : AtInstructions IsSound) (fit : ResultsFit) (code : Mid Virtual) (begins : ℕ → ℕ → ℕ → ℕ) (laid : IsLaid program code.lines begins) (most base : ℕ) (enough : 512 ≤ most) (s : SourceProcessor) (c : MidProcessor) (numbers : ℕ → ℕ → ℕ) (alike : Alike s c) (here_is : Stands program.source begins s c) (grounds : Grounds program code base) (i : Inst) (known : Known program s numbers i) where
  abbrev k : ℕ
  k = number_of_next program s

  abbrev m : Module
  m = program.source

  abbrev f : ℕ
  f = s.function

  abbrev pub is : standing.Stands program accepted law s i
  is = standing.stands program accepted law s i known.next

  abbrev pub scope : FunctionScope
  scope = scope_of m is.function

  abbrev pub sound : IsSound program is.function (record { block = s.block; number = k; inst = i })
  sound = standing.sound_here program accepted law s i is

  pub stands_at : inst_at program s ≡ Some i
  stands_at = subst (λ (st : SourceStatus). inst_if program st s ≡ Some i) known.running known.next

  -- its deed is typed
  pub deed_is : DeedIs m (deed program s k numbers i)
  deed_is = deed_typed program accepted law grounds.widths fit s known.typed numbers known.objects i is

  pub plain_is : is_direct program.target i ≡ true
  plain_is =
      let b = block_at is.function.blocks s.block s.index i is.inst in
      let blocks : list_all (λ (y : Block). list_all (is_direct program.target) y.insts) is.function.blocks ≡ true = all_at (λ (g : Function). list_all (λ (y : Block). list_all (is_direct program.target) y.insts) g.blocks) m.functions f is.function grounds.direct is.at in
      let insts = all_at (λ (y : Block). list_all (is_direct program.target) y.insts) is.function.blocks s.block b.0 blocks b.1 in
      all_at (is_direct program.target) b.0.insts s.index i insts (sym (ap (λ (is : List Inst). slice_get is s.index) b.2) ∙ is.inst)

  -- ---- its types
  abbrev first_two : Bool
  first_two = list_any is_odd (types_of i) || list_any is_bit (memory_types i)

  width_parts : (list_any is_odd (types_of i) ≡ false) × (list_any is_bit (memory_types i) ≡ false) × (is_left_out i ≡ false) × (list_any has_wide_step (pointers_of i) ≡ false)
  width_parts =
      let last = or_parts (first_two || is_left_out i) (list_any has_wide_step (pointers_of i)) sound.width in
      let more = or_parts first_two (is_left_out i) last.0 in
      let two = or_parts (list_any is_odd (types_of i)) (list_any is_bit (memory_types i)) more.0 in
      (two.0, two.1, more.1, last.1)

  pub none_odd : list_any is_odd (types_of i) ≡ false
  none_odd = width_parts.0

  pub none_bit : list_any is_bit (memory_types i) ≡ false
  none_bit = width_parts.1

  pub none_left_out : is_left_out i ≡ false
  none_left_out = width_parts.2

  pub none_other : list_any is_other (types_of i) ≡ false
  none_other = types_are_whole program accepted law s known.typed i is

  pub odd_at : (j : ℕ) (t : Ty) → slice_get (types_of i) j ≡ Some t → is_odd t ≡ false
  odd_at j t e = any_at is_odd (types_of i) j t none_odd e

  pub other_at : (j : ℕ) (t : Ty) → slice_get (types_of i) j ≡ Some t → is_other t ≡ false
  other_at j t e = any_at is_other (types_of i) j t none_other e

  pub bit_at : (j : ℕ) (t : Ty) → slice_get (memory_types i) j ≡ Some t → is_bit t ≡ false
  bit_at j t e = any_at is_bit (memory_types i) j t none_bit e

  -- ---- uses
  abbrev used : ℕ → Use
  used r = record { value = r; end_of = None }

  pub made_by : (b : Base) → ((r : ℕ) → b ≡ bases.Value r → Contains (uses i) (used r)) → IsMade program accepted law code begins laid most base enough s c numbers alike here_is i known b
  made_by b contains = record {
    defined = λ r e. sound.defined (used r) (contains r e);
    made = λ r e gep. used_at program accepted law s known.walk i stands_at r (contains r e) gep;
  }

  pub pointer_used : (a : Addr) → is_phi i ≡ false → pointers_of i ≡ a ∷ [] → (r : ℕ) → a.base ≡ bases.Value r → Contains (uses i) (used r)
  pointer_used a body one r e =
      let further = further_uses i in
      let ops = flat_map (λ (o : Ty × Operand). uses_of o.1 None) (operands_of i) in
      let ptrs = flat_map (λ (x : Addr). uses_of_base x.base) (pointers_of i) in
      let own : Contains (uses_of_base a.base) (used r) = subst (λ (b : Base). Contains (uses_of_base b) (used r)) (sym e) (here (used r) []) in
      let among : Contains ptrs (used r) = subst (λ (addrs : List Addr). Contains (flat_map (λ (x : Addr). uses_of_base x.base) addrs) (used r)) (sym one) (Contains-append_left (uses_of_base a.base) [] (used r) own) in
      subst (λ (b : Bool). Contains (if b then phi_uses i else further ++ (ops ++ ptrs)) (used r)) (sym body)
      (Contains-append_right further (ops ++ ptrs) (used r) (Contains-append_right ops ptrs (used r) among))

  pub further_used : (b : Base) → is_phi i ≡ false → further_uses i ≡ uses_of_base b → (r : ℕ) → b ≡ bases.Value r → Contains (uses i) (used r)
  further_used b body same r e =
      let further = further_uses i in
      let ops = flat_map (λ (o : Ty × Operand). uses_of o.1 None) (operands_of i) in
      let ptrs = flat_map (λ (x : Addr). uses_of_base x.base) (pointers_of i) in
      let own : Contains (uses_of_base b) (used r) = subst (λ (b : Base). Contains (uses_of_base b) (used r)) (sym e) (here (used r) []) in
      subst (λ (b : Bool). Contains (if b then phi_uses i else further ++ (ops ++ ptrs)) (used r)) (sym body)
      (Contains-append_left further (ops ++ ptrs) (used r) (subst (λ (us : List Use). Contains us (used r)) (sym same) own))

  -- ---- its pointer
  abbrev pub Step : Option (Ty × ℕ × Ty × Operand) → Type 0
  Step = StepIs program accepted law code begins laid most base enough s c numbers alike here_is i known

  pub step_is : (step : Option (Ty × ℕ × Ty × Operand)) (jo jt : ℕ) → ((st : Ty × ℕ × Ty × Operand) → step ≡ Some st → slice_get (operands_of i) jo ≡ Some (st.2, st.3)) → ((st : Ty × ℕ × Ty × Operand) → step ≡ Some st → slice_get (types_of i) jt ≡ Some st.2) → is_wide_step step ≡ false → Step step
  step_is None jo jt ops types wide = tt
  step_is (Some st) jo jt ops types wide =
      (held program accepted law code begins laid most base s c numbers i known alike here_is jo st.2 st.3 (ops st refl), operand_at program accepted law s known.typed i is jo st.2 st.3 (ops st refl), narrow_le st.2 (narrow_128 st.2 (odd_at jt st.2 (types st refl)) wide))

  module _ (a : Addr) (one : pointers_of i ≡ a ∷ []) (body : is_phi i ≡ false) where
    at_0 : slice_get (pointers_of i) 0 ≡ Some a
    at_0 = ap (λ (addrs : List Addr). slice_get addrs 0) one

    pub no_wide_step : is_wide_step a.step ≡ false
    no_wide_step = any_at has_wide_step (pointers_of i) 0 a width_parts.3 at_0

    pub good_pointer : is_bad_pointer scope a ≡ false
    good_pointer = any_at (is_bad_pointer scope) (pointers_of i) 0 a (or_parts (list_any is_other (types_of i) || is_bad_gep scope i) (list_any (is_bad_pointer scope) (pointers_of i)) sound.kind).1 at_0

    own_step : is_mixed_pointer scope a ≡ false
    own_step = any_at (is_mixed_pointer scope) (pointers_of i) 0 a (or_parts (list_any (is_mistyped scope) (operands_of i) || is_mixed_inst scope i) (list_any (is_mixed_pointer scope) (pointers_of i)) sound.mixed).1 at_0

    abbrev pub object : Object
    object = object_of program f a.base

    abbrev pub p : Pointer
    p = pointer_of m a s

    pub points : Step a.step → PointsAt program accepted law code begins laid most base enough s c numbers alike here_is i known a
    points step = points_at program accepted law code begins laid most base enough s c numbers alike here_is i known a (made_by a.base (pointer_used a body one)) good_pointer own_step step

    module _ (rest : Straight) (plain : is_unreachable i ≡ false) (is_piece : piece_of program s i ≡ through f k program object (index_at program f a.base a.step) rest) (step : Step a.step) (blind : is_inside program s a ≡ false → seen_by program i s numbers ≡ None) where
      traps_is : traps program s i ≡ (not (is_inside program s a) || false)
      traps_is = ap (λ (b : Bool). if b then true else list_any (λ (addr : Addr). not (is_inside program s addr)) (pointers_of i)) plain ∙ ap (list_any (λ (addr : Addr). not (is_inside program s addr))) one

      inside_is : is_inside program s a ≡ nat_lt p.index (count_of program f object)
      inside_is = ap (λ (o : Object). nat_lt p.index (elements_of m f o).count) (points step).object

      abbrev Enter : ℕ → ℕ → Type 0
      Enter = Enters program code begins laid most base enough f k c rest

      abbrev Trap : Type 0
      Trap = Traps program code begins laid most base enough f k c

      abbrev address : ℕ → ℕ
      address = number_of_address program code begins laid most base enough f k c object

      abbrev Goes : Bool → IndexAt → ℕ → Type 0
      Goes true at index = Enter (address index) (length (through f k program object at rest))
      Goes false at index = Trap

      few : (r : ℕ) → frame_offset m f r + rounded_bytes (elements_of m f (Private r)) ≤ 32768
      few = few_bytes m f is.function is.at (grounds.heads f is.function is.at).bytes

      row : IsInRow program code begins laid most base enough f k c object
      row = in_row program grounds.as_is code begins laid most base enough f k c few grounds.high object

      fixed : (b : Bool) (n : ℕ) → nat_lt n (count_of program f object) ≡ b → HasAt code.lines c.place (through f k program object (Fixed n) rest) → Goes b (Fixed n) n
      fixed true n e has_it =
          let at : HasAt code.lines c.place (chosen_by f k true program object n rest) = subst (λ (q : Bool). HasAt code.lines c.place (chosen_by f k q program object n rest)) e has_it in
          subst (λ (q : Bool). Enter (address n) (length (chosen_by f k q program object n rest))) (sym e) (enters_fixed program code begins laid most base enough f k c object n rest at)
      fixed false n e has_it =
          let at : HasAt code.lines c.place (chosen_by f k false program object n rest) = subst (λ (q : Bool). HasAt code.lines c.place (chosen_by f k q program object n rest)) e has_it in
          traps_fixed program code begins laid most base enough f k c object row n rest e at

      goes_at : (b : Bool) (at : IndexAt) (index : ℕ) → pointing.Index program accepted law code begins laid most base enough s c numbers alike here_is i known at index → nat_lt index (count_of program f object) ≡ b → HasAt code.lines c.place (through f k program object at rest) → Goes b at index
      goes_at b (Fixed n) index same e has_it =
          subst (λ (q : ℕ). Goes b (Fixed n) q) (sym same) (fixed b n (ap (λ (q : ℕ). nat_lt q (count_of program f object)) (sym same) ∙ e) has_it)
      goes_at true (Brought lines) index brings e has_it = enters_brought program code begins laid most base enough f k c object row lines index brings rest has_it true e
      goes_at false (Brought lines) index brings e has_it = enters_brought program code begins laid most base enough f k c object row lines index brings rest has_it false e

      goes : (b : Bool) → is_inside program s a ≡ b → Goes b (index_at program f a.base a.step) p.index
      goes b e =
          goes_at b (index_at program f a.base a.step) p.index (points step).index (sym inside_is ∙ e)
          (subst (HasAt code.lines c.place) is_piece (has program accepted law code begins laid most base s c numbers i known alike here_is))

      abbrev pub Follow : Type 0
      Follow = Follows key program code begins most base s c numbers i

      pub reach_follows : (is_inside program s a ≡ true → traps program s i ≡ false → Enters program code begins laid most base enough f k c rest (number_of_address program code begins laid most base enough f k c object p.index) (length (piece_of program s i)) → Follow) → Follow
      reach_follows inside = by (is_inside program s a) refl
        where
          by : (b : Bool) → is_inside program s a ≡ b → Follow
          by true e =
              inside e (traps_is ∙ ap (λ (b : Bool). not b || false) e) (subst (λ (ls : List (Line Virtual)). Enter (address p.index) (length ls)) (sym is_piece) (goes true e))
          by false e =
              trap_follows program accepted law code begins laid most base enough s c numbers alike here_is i known (traps_is ∙ ap (λ (b : Bool). not b || false) e) (blind e) (goes false e)
