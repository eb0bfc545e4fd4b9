-- Events and runs keep running processors on walks.
use Rattle.std.proofs.Common.{◌≡◌, ℕ, ◌+◌, ◌-◌, ◌<◌, ◌≤◌, ◌⊎◌, inl, inr, Bool, true, false, ◌&&◌, ◌||◌, List, [], ◌∷◌, Option, Some, None, Contains, length, get_or, refl, sym, ap, ◌∙◌, subst, arith, slice_get}
use Rattle.std.specs.Prelude.{if◌then◌else◌, nat_eq, nat_lt, ◌==◌}
use Rattle.std.specs.List.{list_all}
use Rattle.std.proofs.lemmas.Bool.{and_from, and_parts, cases_eq, cases_lt, eqb-true, or_cases, true≢false, false≢true}
use Rattle.std.proofs.lemmas.Bool.Decides.{nat_tests}
use Rattle.std.proofs.lemmas.Option.{get_or_from_slice_get, none-some, same_Some, slice_get-get_or, slice_get_cases, slice_get_within}
use Rattle.ax_module.specs.declared.inst.Inst.{Inst}
use Rattle.ax_module.specs.declared.inst.Inst.TheVariants as inst
use Rattle.ax_module.specs.declared.module.Block.{Block}
use Rattle.ax_module.specs.declared.module.Function.{Function}
use Rattle.ax_module.specs.declared.module.Module.{Module}
use Rattle.ax_module.specs.declared.types.Ty.TheVariants.{I1}
use Rattle.ax_module.specs.Kinds.{is_phi, is_terminator}
use Rattle.ax_module.specs.WellFormed.{all_differ, is_block, is_function, is_global, is_inst, is_nonempty, is_order, names_of, scope_of as formed_scope}
use Rattle.ax_words.specs.declared.source.SourceEvent.{SourceEvent}
use Rattle.ax_words.specs.declared.source.SourceEvent.TheVariants.{Act, Look, Miss, Drain}
use Rattle.ax_words.specs.declared.source.SourceStatus.{SourceStatus}
use Rattle.ax_words.specs.declared.source.SourceStatus.TheVariants.{Running, Ended, Trapped}
use Rattle.ax_source_run.specs.SourceAccess.{gets, put_at}
use Rattle.ax_source_run.specs.SourceEvent.{act, drained, expected_by, inst_at, inst_if, look, looked, miss, missed, next_inst, number_of_next, seen_by, source_event, with_processor}
use Rattle.ax_source_run.specs.SourceInstructions.{access_of, changed, deed, deed_of, entered, first_number, insts_of_block, is_unreachable, phi_count, phis_set, result_in, traps}
use Rattle.ax_source_run.specs.SourcePointers.{base_of, blocks_in, blocks_of, stepped}
use Rattle.ax_source_run.specs.SourceRun.{first_processor, source_run, source_start}
use Rattle.ax_source_run.specs.SourceState.{Number, Pair, PendingStore, PointsTo, SourceProcessor, SourceProgram, SourceState, SourceValue}
use Rattle.ax_source_run.specs.SourceValues.{operand_of}
use Rattle.ax_rules.specs.declared.facts.Outcome.{Outcome}
use Rattle.ax_rules.specs.declared.rule.Rule.TheVariants.{NotDefined}
use Rattle.ax_rules.specs.Facts.{outcome_of}
use Rattle.ax_rules.specs.Width.{returns_value}
use Rattle.ax_check.specs.declared.exits.Exit.{Exit}
use Rattle.ax_check.specs.Accepted.{IsAccepted}
use Rattle.ax_check.specs.Defined.{is_defined_at, leads_to_entry, phi_in_entry, uses}
use Rattle.ax_check.specs.Graph.{block_of, exit_of, graph_of}
use Rattle.ax_check.specs.Laws.{AtInstructions, IsSound}
use Rattle.ax_check.specs.Walk.{Leads, LeadsTo, passes}
use Rattle.ax_check.proofs.Acceptance.{nothing_at}
use Rattle.ax_typed.specs.Typed.{outcome_if, outcome_in}
use Rattle.ax_typed.proofs.Objects.{put_holds}
use Rattle.ax_typed.proofs.Places.{all_at, all_insts, block_at, number_at, order_ends, place_of, spot_at}
use Rattle.ax_typed.proofs.Standing.{block_formed, sound_at}
use Rattle.ax_standing.specs.Standing.{AreEntries, AreOnWalks, IsGepOutcome, IsOnWalk, IsPointer}
use Rattle.ax_standing.proofs.Moved.{GoesTo, deed_goes, got}
use Rattle.ax_standing.proofs.Orders.{HasOther, behind_phis, block_insts, counted_phis, order_first, order_goes, phis_kept}
use Rattle.ax_standing.proofs.Owned.{leads_as, owner_is}

-- ---- tests
same_eq : (a b : ℕ) → a ≡ b → (a == b) ≡ true
same_eq a b e = grind (arith, nat_tests, e)

is_below : (a b : ℕ) → a < b → nat_lt a b ≡ true
is_below a b h = grind (arith, nat_tests)

below : (a b : ℕ) → nat_lt a b ≡ true → a < b
below a b h = grind (arith, nat_tests)

or_left : (a b : Bool) → a ≡ true → (a || b) ≡ true
or_left true b e = refl
or_left false b e = absurd (false≢true e)

or_right : (a b : Bool) → b ≡ true → (a || b) ≡ true
or_right true b e = refl
or_right false b e = e

-- ---- outcomes
gep_there : (o : Option Inst) → IsGepOutcome (outcome_if o) → (x : Inst) × (o ≡ Some x) × IsGepOutcome (outcome_of x)
gep_there None a = absurd a
gep_there (Some x) a = (x, refl, a)

phi_is_none : (x : Inst) → IsGepOutcome (outcome_of x) → is_phi x ≡ true → ⊥
unfolding outcome_of is_phi
phi_is_none (inst.Phi t entries) a h = a
phi_is_none _ a h = false≢true h

terminator_is_none : (x : Inst) → IsGepOutcome (outcome_of x) → is_terminator x ≡ true → ⊥
unfolding outcome_of is_terminator
terminator_is_none (inst.Gep elem count b t v) a h = false≢true h
terminator_is_none (inst.Call (Some t) name args) a h = a
terminator_is_none (inst.Call None name args) a h = a
terminator_is_none _ a h = a

module _ (program : SourceProgram) (accepted : IsAccepted program) (law : AtInstructions IsSound) where
  abbrev m : Module
  m = program.source

  -- ---- a processor at instruction n of block b of function f, with these results
  module _ (f b n : ℕ) (values : ℕ → SourceValue) (w : IsOnWalk program f b n values) where
    abbrev blocks : List Block
    blocks = w.function.blocks

    abbrev k : ℕ
    k = first_number blocks b + n

    pub blocks_are : blocks_of m f ≡ blocks
    blocks_are = ap blocks_in w.here

    in_function : (j : ℕ) → outcome_in m f j ≡ outcome_if (slice_get (all_insts blocks) j)
    in_function j = ap (λ (o : Option Function). outcome_if (slice_get (all_insts (blocks_in o)) j)) w.here

    pub outcome_here : outcome_in m f k ≡ outcome_of w.inst
    outcome_here = in_function k ∙ ap outcome_if (number_at blocks b n w.inst w.at)

    abbrev sound : IsSound program w.function (record { block = b; number = k; inst = w.inst })
    sound = sound_at program accepted law f w.function w.here b n k w.inst refl w.at

    -- the block's instructions are in order, and each names what there is
    formed : (d : ℕ) (block : Block) → slice_get blocks d ≡ Some block → (is_order block.insts ≡ true) × (list_all (is_inst (formed_scope (length m.globals) w.function)) block.insts ≡ true)
    formed d block here = and_parts (is_order block.insts) (list_all (is_inst (formed_scope (length m.globals) w.function)) block.insts) (block_formed program accepted law f w.function w.here d block here)

    own_block : (block : Block) × (slice_get blocks b ≡ Some block) × (insts_of_block blocks b ≡ block.insts)
    own_block = block_at blocks b n w.inst w.at

    at_block : slice_get own_block.0.insts n ≡ Some w.inst
    at_block = sym (ap (λ (insts : List Inst). slice_get insts n) own_block.2) ∙ w.at

    pub inst_formed : is_inst (formed_scope (length m.globals) w.function) w.inst ≡ true
    inst_formed = all_at (is_inst (formed_scope (length m.globals) w.function)) own_block.0.insts n w.inst (formed b own_block.0 own_block.1).1 at_block

    -- ---- the next instruction
    next : is_terminator w.inst ≡ false → HasOther (insts_of_block blocks b) (n + 1)
    next t = subst (λ (insts : List Inst). HasOther insts (n + 1)) (sym own_block.2) (order_goes own_block.0.insts (formed b own_block.0 own_block.1).0 n w.inst at_block w.other t)

    defined_before : (v : ℕ) → (v ≡ k → ⊥) → is_defined_at w.function v b (first_number blocks b + (n + 1)) w.before ≡ true → is_defined_at w.function v b k w.before ≡ true
    defined_before v differ h =
        let own = block_of w.function v == b in
        elim (or_cases (own && nat_lt v (first_number blocks b + (n + 1))) (passes (block_of w.function v) w.before) h) [
          | inl here ↦
              let parts = and_parts own (nat_lt v (first_number blocks b + (n + 1))) here in
              let less = below v (first_number blocks b + (n + 1)) parts.1 in
              or_left (own && nat_lt v k) (passes (block_of w.function v) w.before) (and_from own (nat_lt v k) parts.0 (is_below v k (closer v less differ)))
          | inr passed ↦ or_right (own && nat_lt v k) (passes (block_of w.function v) w.before) passed
        ]
      where
        closer : (v : ℕ) → v < first_number blocks b + (n + 1) → (v ≡ k → ⊥) → v < k
        closer v less differ = elim (cases_eq v k) [ inl e ↦ absurd (differ e) | inr e ↦ omega (arith, less, e) ]

    pub goes_on : is_terminator w.inst ≡ false → (new : ℕ → SourceValue) → ((j : ℕ) → (j ≡ k → ⊥) → new j ≡ values j) → (IsGepOutcome (outcome_of w.inst) → IsPointer (new k)) → IsOnWalk program f b (n + 1) new
    goes_on t new others own =
        let y = next t in
        record {
          function = w.function;
          here = w.here;
          inst = y.inst;
          at = y.at;
          other = y.other;
          before = w.before;
          walk = w.walk;
          made = made;
        }
      where
        made : (v : ℕ) → IsGepOutcome (outcome_in m f v) → is_defined_at w.function v b (first_number blocks b + (n + 1)) w.before ≡ true → IsPointer (new v)
        made v gep defined =
            elim (cases_eq v k) [
              | inl e ↦ subst (λ (j : ℕ). IsPointer (new j)) (sym e) (own (subst (λ (o : Outcome). IsGepOutcome o) outcome_here (subst (λ (j : ℕ). IsGepOutcome (outcome_in m f j)) e gep)))
              | inr differ ↦ subst IsPointer (sym (others v differ)) (w.made v gep (defined_before v differ defined))
            ]

    -- ---- another block
    -- a getelementptr is no phi at the head of a block
    not_phi : (d v : ℕ) → IsGepOutcome (outcome_in m f v) → (v < first_number blocks d) ⊎ (first_number blocks d + phi_count (insts_of_block blocks d) ≤ v)
    not_phi d v gep =
        elim (cases_lt v (first_number blocks d)) [
          | inl less ↦ inl less
          | inr ge ↦ elim (cases_lt v (first_number blocks d + phi_count (insts_of_block blocks d))) [
            | inl lt ↦ absurd (among ge lt)
            | inr past ↦ inr past
          ]
        ]
      where
        among : first_number blocks d ≤ v → v < first_number blocks d + phi_count (insts_of_block blocks d) → ⊥
        among ge lt =
            let j = v - first_number blocks d in
            let number : first_number blocks d + j ≡ v = omega (arith, ge) in
            let p = counted_phis (insts_of_block blocks d) j (omega (arith, ge, lt)) in
            let is : outcome_in m f v ≡ outcome_of p.inst = in_function v ∙ ap outcome_if (ap (slice_get (all_insts blocks)) (sym number) ∙ number_at blocks d j p.inst p.at) in
            phi_is_none p.inst (subst (λ (o : Outcome). IsGepOutcome o) is gep) p.phi

    -- at the end of its block, each that is passed before is made
    made_here : is_terminator w.inst ≡ true → (v : ℕ) → IsGepOutcome (outcome_in m f v) → block_of w.function v ≡ b → IsPointer (values v)
    made_here t v gep same =
        let x = gep_there (slice_get (all_insts blocks) v) (subst (λ (o : Outcome). IsGepOutcome o) (in_function v) gep) in
        let p = place_of blocks v x.0 x.1 in
        let owner : block_of w.function v ≡ p.block = owner_is blocks 0 p.block p.index v x.0 p.inst p.number ∙ omega arith in
        let in_b : p.block ≡ b = sym owner ∙ same in
        let at : slice_get (insts_of_block blocks b) p.index ≡ Some x.0 = ap (λ (d : ℕ). slice_get (insts_of_block blocks d) p.index) (sym in_b) ∙ p.inst in
        let number : v ≡ first_number blocks b + p.index = p.number ∙ ap (λ (d : ℕ). first_number blocks d + p.index) in_b in
        let last = order_ends own_block.0.insts (formed b own_block.0 own_block.1).0 n w.inst at_block t in
        let within = slice_get_within (insts_of_block blocks b) p.index x.0 at in
        let long = ap length own_block.2 in
        elim (cases_eq p.index n) [
          | inl e ↦ absurd (terminator_is_none x.0 x.2 (ap is_terminator (same_Some x.0 w.inst (sym at ∙ (ap (slice_get (insts_of_block blocks b)) e ∙ w.at))) ∙ t))
          | inr differ ↦ w.made v gep (or_left (block_of w.function v == b && nat_lt v k) (passes (block_of w.function v) w.before) (and_from (block_of w.function v == b) (nat_lt v k) (same_eq (block_of w.function v) b same) (is_below v k (omega (arith, number, last, within, long, differ)))))
        ]

    abbrev entered_values : ℕ → ℕ → SourceValue
    entered_values d = phis_set b (first_number blocks d) values (insts_of_block blocks d) values

    pub enters : is_terminator w.inst ≡ true → (d : ℕ) → LeadsTo (exit_of w.inst) d → d < length blocks
        → IsOnWalk program f d (phi_count (insts_of_block blocks d)) (phis_set b (first_number blocks d) values (insts_of_block blocks d) values)
    enters t d leads lt =
        let block : Block = get_or blocks d own_block.0 in
        let there : slice_get blocks d ≡ Some block = slice_get-get_or blocks d own_block.0 lt in
        let insts : insts_of_block blocks d ≡ block.insts = block_insts blocks d block there in
        let first : HasOther (insts_of_block blocks d) (phi_count (insts_of_block blocks d)) = subst (λ (is : List Inst). HasOther is (phi_count is)) (sym insts) (behind_phis block.insts (formed d block there).0) in
        let last = order_ends own_block.0.insts (formed b own_block.0 own_block.1).0 n w.inst at_block t in
        let edge : Leads (graph_of w.function) b d = subst (λ (e : Exit). LeadsTo e d) (sym (leads_as blocks b n own_block.0 w.inst own_block.1 at_block last)) leads in
        record {
          function = w.function;
          here = w.here;
          inst = first.inst;
          at = first.at;
          other = first.other;
          before = b ∷ w.before;
          walk = (edge, w.walk);
          made = made;
        }
      where
        old_made : (v : ℕ) → IsGepOutcome (outcome_in m f v) → IsPointer (values v) → IsPointer (entered_values d v)
        old_made v gep is = subst IsPointer (sym (phis_kept b (first_number blocks d) values (insts_of_block blocks d) values v (not_phi d v gep))) is

        in_block : (v : ℕ) → IsGepOutcome (outcome_in m f v) → block_of w.function v ≡ d → v < first_number blocks d + phi_count (insts_of_block blocks d) → ⊥
        in_block v gep same less =
            let x = gep_there (slice_get (all_insts blocks) v) (subst (λ (o : Outcome). IsGepOutcome o) (in_function v) gep) in
            let p = place_of blocks v x.0 x.1 in
            let owner : block_of w.function v ≡ p.block = owner_is blocks 0 p.block p.index v x.0 p.inst p.number ∙ omega arith in
            let number : v ≡ first_number blocks d + p.index = p.number ∙ ap (λ (c : ℕ). first_number blocks c + p.index) (sym owner ∙ same) in
            elim (not_phi d v gep) [ inl lt ↦ omega (arith, lt, number) | inr ge ↦ omega (arith, ge, less) ]

        made : (v : ℕ) → IsGepOutcome (outcome_in m f v) → is_defined_at w.function v d (first_number blocks d + phi_count (insts_of_block blocks d)) (b ∷ w.before) ≡ true → IsPointer (entered_values d v)
        made v gep defined =
            let own = block_of w.function v == d in
            elim (or_cases (own && nat_lt v (first_number blocks d + phi_count (insts_of_block blocks d))) (passes (block_of w.function v) (b ∷ w.before)) defined) [
              | inl here ↦
                  let parts = and_parts own (nat_lt v (first_number blocks d + phi_count (insts_of_block blocks d))) here in
                  absurd (in_block v gep (eqb-true (block_of w.function v) d parts.0) (below v (first_number blocks d + phi_count (insts_of_block blocks d)) parts.1))
              | inr passed ↦ elim (or_cases (b == block_of w.function v) (passes (block_of w.function v) w.before) passed) [
                | inl e ↦ old_made v gep (made_here t v gep (sym (eqb-true b (block_of w.function v) e)))
                | inr before ↦ old_made v gep (w.made v gep (or_right (block_of w.function v == b && nat_lt v k) (passes (block_of w.function v) w.before) before))
              ]
            ]

    -- ---- what is used has been made
    pub used : (v : ℕ) → Contains (uses w.inst) (record { value = v; end_of = None }) → IsGepOutcome (outcome_in m f v) → IsPointer (values v)
    used v h gep = w.made v gep (sound.defined (record { value = v; end_of = None }) h w.before w.walk)

  -- ---- processors
  abbrev OnWalk : SourceProcessor → Type 0
  OnWalk c = IsOnWalk program c.function c.block c.index c.values

  pub at_inst : (c : SourceProcessor) (w : OnWalk c) → inst_at program c ≡ Some w.inst
  at_inst c w = ap (λ (blocks : List Block). slice_get (insts_of_block blocks c.block) c.index) (blocks_are c.function c.block c.index c.values w) ∙ w.at

  number_is : (c : SourceProcessor) (w : OnWalk c) → number_of_next program c ≡ first_number w.function.blocks c.block + c.index
  number_is c w = ap (λ (blocks : List Block). first_number blocks c.block + c.index) (blocks_are c.function c.block c.index c.values w)

  pub used_at : (c : SourceProcessor) → OnWalk c → (i : Inst) → inst_at program c ≡ Some i → (v : ℕ) → Contains (uses i) (record { value = v; end_of = None }) → IsGepOutcome (outcome_in m c.function v) → IsPointer (c.values v)
  used_at c w i at v h gep =
      let same : i ≡ w.inst = same_Some i w.inst (sym at ∙ at_inst c w) in
      used c.function c.block c.index c.values w v (subst (λ (x : Inst). Contains (uses x) (record { value = v; end_of = None })) same h) gep

  -- the next place of a processor
  moved : (c d : SourceProcessor) (w : OnWalk c) → is_terminator w.inst ≡ false → GoesTo c (number_of_next program c) d → (IsGepOutcome (outcome_of w.inst) → IsPointer (d.values (number_of_next program c))) → OnWalk d
  moved c d w t g own =
      let number = number_is c w in
      let on : IsOnWalk program c.function c.block (c.index + 1) d.values =
      goes_on c.function c.block c.index c.values w t d.values (λ j differ. g.others j (λ e. differ (e ∙ number))) (λ gep. subst (λ (k : ℕ). IsPointer (d.values k)) number (own gep)) in
      subst (λ (f : ℕ). IsOnWalk program f d.block d.index d.values) (sym g.function)
      (subst (λ (b : ℕ). IsOnWalk program c.function b d.index d.values) (sym g.block)
      (subst (λ (n : ℕ). IsOnWalk program c.function c.block n d.values) (sym g.index) on))

  -- ---- what an instruction does
  module _ (c : SourceProcessor) (w : OnWalk c) (numbers : ℕ → ℕ → ℕ) where
    abbrev own : ℕ
    own = number_of_next program c

    own_made : (i : Inst) → IsGepOutcome (outcome_of i) → IsPointer ((deed_of program c own numbers i).processor.values own)
    unfolding outcome_of deed_of access_of result_in
    own_made (inst.Gep elem count b t v) gep = (stepped m elem t v c (base_of b c.values), put_at_own c.values own (PointsTo (stepped m elem t v c (base_of b c.values))))
      where
        put_at_own : (values : ℕ → SourceValue) (j : ℕ) (x : SourceValue) → put_at values j x j ≡ x
        put_at_own values j x = ap (λ (t : Bool). if t then x else values j) (same_eq j j refl)
    own_made (inst.Call (Some t) name args) gep = absurd gep
    own_made (inst.Call None name args) gep = absurd gep
    own_made _ gep = absurd gep

    entered_walk : is_terminator w.inst ≡ true → (d : ℕ) → LeadsTo (exit_of w.inst) d → d < length w.function.blocks → OnWalk (entered (blocks_of m c.function) d c)
    entered_walk t d leads lt =
        subst (λ (blocks : List Block). OnWalk (entered blocks d c)) (sym (blocks_are c.function c.block c.index c.values w))
        (enters c.function c.block c.index c.values w t d leads lt)

    ends_on : (i : Inst) → w.inst ≡ i → is_terminator i ≡ true → traps program c i ≡ false → (deed_of program c own numbers i).processor.status ≡ Running → OnWalk (deed_of program c own numbers i).processor
    unfolding is_terminator deed_of is_unreachable exit_of is_inst returns_value
    ends_on (inst.Jump d) e t inside runs =
        let there = subst (λ (i : Inst). is_inst (formed_scope (length m.globals) w.function) i ≡ true) e (inst_formed c.function c.block c.index c.values w) in
        entered_walk (ap is_terminator e) d (subst (λ (i : Inst). LeadsTo (exit_of i) d) (sym e) refl) (below d (length w.function.blocks) there)
    ends_on (inst.Branch v a b) e t inside runs =
        let there = subst (λ (i : Inst). is_inst (formed_scope (length m.globals) w.function) i ≡ true) e (inst_formed c.function c.block c.index c.values w) in
        by (nat_eq (operand_of I1 v c.values) 0) there
      where
        to_a : (x y z : Bool) → (x && y && z) ≡ true → y ≡ true
        to_a x y z h = (and_parts x y (and_parts (x && y) z h).0).1

        to_b : (x y z : Bool) → (x && y && z) ≡ true → z ≡ true
        to_b x y z h = (and_parts (x && y) z h).1

        by : (q : Bool) → is_inst (formed_scope (length m.globals) w.function) (inst.Branch v a b) ≡ true → OnWalk (entered (blocks_of m c.function) (if q then b else a) c)
        by true there = entered_walk (ap is_terminator e) b (subst (λ (i : Inst). LeadsTo (exit_of i) b) (sym e) (inr refl)) (below b (length w.function.blocks) (to_b _ (nat_lt a (length w.function.blocks)) (nat_lt b (length w.function.blocks)) there))
        by false there = entered_walk (ap is_terminator e) a (subst (λ (i : Inst). LeadsTo (exit_of i) a) (sym e) (inl refl)) (below a (length w.function.blocks) (to_a _ (nat_lt a (length w.function.blocks)) (nat_lt b (length w.function.blocks)) there))
    ends_on inst.RetVoid e t inside runs = absurd (cc)
    ends_on (inst.Ret ty v) e t inside runs = absurd (true≢false (subst (λ (i : Inst). returns_value i ≡ false) e (sound c.function c.block c.index c.values w).value))
    ends_on inst.Unreachable e t inside runs = absurd (true≢false inside)
    ends_on _ e t inside runs = absurd (false≢true t)

    deed_walk : (b : Bool) → is_terminator w.inst ≡ b → traps program c w.inst ≡ false → (deed_of program c own numbers w.inst).processor.status ≡ Running → OnWalk (deed_of program c own numbers w.inst).processor
    deed_walk true t inside runs = ends_on w.inst refl t inside runs
    deed_walk false t inside runs = moved c (deed_of program c own numbers w.inst).processor w t (deed_goes c own program numbers w.inst t) (own_made w.inst)

    trapped : (b : Bool) → traps program c w.inst ≡ b → (if b then changed program c (record c { status = Trapped }) numbers else deed_of program c own numbers w.inst).processor.status ≡ Running
        → OnWalk (if b then changed program c (record c { status = Trapped }) numbers else deed_of program c own numbers w.inst).processor
    trapped true e runs = absurd (cc)
    trapped false e runs = deed_walk (is_terminator w.inst) refl e runs

    pub act_walk : (deed program c own numbers w.inst).processor.status ≡ Running → OnWalk (deed program c own numbers w.inst).processor
    act_walk runs = trapped (traps program c w.inst) refl runs

  -- ---- events
  running : (status : SourceStatus) (c : SourceProcessor) (i : Inst) → inst_if program status c ≡ Some i → (status ≡ Running) × (inst_at program c ≡ Some i)
  running Running c i h = (refl, h)
  running Ended c i h = absurd (none-some i h)
  running Trapped c i h = absurd (none-some i h)

  module _ (s : SourceState) (p : ℕ) (h : AreOnWalks program s) where
    abbrev c : SourceProcessor
    c = s.processors p

    put_walk : (d : SourceProcessor) → (d.status ≡ Running → OnWalk d) → (q : ℕ) → (put_at s.processors p d q).status ≡ Running → OnWalk (put_at s.processors p d q)
    put_walk d is = put_holds (λ q (x : SourceProcessor). x.status ≡ Running → OnWalk x) s.processors p d h is

    acted : (o : Option Inst) → next_inst program c ≡ o → AreOnWalks program (act program p o s)
    acted None e = h
    acted (Some i) e =
        let r = running c.status c i e in
        let w = h p r.0 in
        let same : w.inst ≡ i = same_Some w.inst i (sym (at_inst c w) ∙ r.1) in
        subst (λ (x : Inst). AreOnWalks program (act program p (Some x) s)) same
        (put_walk (deed program c (number_of_next program c) s.numbers w.inst).processor (act_walk c w s.numbers))

    looks : (o : Option ℕ) → AreOnWalks program (looked program p o s)
    looks None = h
    looks (Some n) = put_walk (record c { seen = Some n }) (λ r. h p r)

    look_on : (o : Option Inst) → AreOnWalks program (look program p o s)
    look_on None = h
    look_on (Some i) = looks (seen_by program i c s.numbers)

    exchange_goes : (i : Inst) (n : ℕ) → expected_by program i c ≡ Some n → (is_terminator i ≡ false) × (IsGepOutcome (outcome_of i) → ⊥)
    unfolding expected_by is_terminator outcome_of
    exchange_goes (inst.Cmpxchg true a t v u w success failure align) n e = (refl, λ x. x)
    exchange_goes _ n e = absurd cc

    miss_by : (b : Bool) (i : Inst) (n : ℕ) → next_inst program c ≡ Some i → expected_by program i c ≡ Some n → AreOnWalks program (if b then with_processor p (gets (number_of_next program c) (Pair n false) c) s else s)
    miss_by false i n e x = h
    miss_by true i n e x =
        let r = running c.status c i e in
        let w = h p r.0 in
        let same : w.inst ≡ i = same_Some w.inst i (sym (at_inst c w) ∙ r.1) in
        let is = exchange_goes i n x in
        put_walk (gets (number_of_next program c) (Pair n false) c)
        (λ q. moved c (gets (number_of_next program c) (Pair n false) c) w (ap is_terminator same ∙ is.0) (got c (number_of_next program c) c (Pair n false) (record { function = refl; block = refl; index = refl; values = refl })) (λ gep. absurd (is.1 (subst (λ (y : Inst). IsGepOutcome (outcome_of y)) same gep))))

    misses : (i : Inst) (expected seen : Option ℕ) → next_inst program c ≡ Some i → expected_by program i c ≡ expected → AreOnWalks program (missed program p expected seen s)
    misses i None seen e x = h
    misses i (Some n) None e x = h
    misses i (Some n) (Some y) e x = miss_by (nat_eq n y) i n e x

    miss_on : (o : Option Inst) → next_inst program c ≡ o → AreOnWalks program (miss program p o s)
    miss_on None e = h
    miss_on (Some i) e = misses i (expected_by program i c) c.seen e refl

    drain_on : (stores : List PendingStore) → AreOnWalks program (drained program p stores s)
    drain_on [] = h
    drain_on (store ∷ stores) = put_walk (record c { pending = stores }) (λ r. h p r)

  pub event_walks : (e : SourceEvent) (s : SourceState) → AreOnWalks program s → AreOnWalks program (source_event program e s)
  event_walks (Act p) s h = acted s p h (next_inst program (s.processors p)) refl
  event_walks (Look p) s h = look_on s p h (next_inst program (s.processors p))
  event_walks (Miss p) s h = miss_on s p h (next_inst program (s.processors p)) refl
  event_walks (Drain p) s h = drain_on s p h (s.processors p).pending

  pub run_walks : (events : List SourceEvent) (s : SourceState) → AreOnWalks program s → AreOnWalks program (source_run program events s)
  run_walks [] s h = h
  run_walks (e ∷ events) s h = run_walks events (source_event program e s) (event_walks e s h)

  -- ---- the start
  first_phi : (f : Function) (n : ℕ) (x : Inst) → slice_get m.functions n ≡ Some f → slice_get (insts_of_block f.blocks 0) 0 ≡ Some x → is_phi x ≡ false
  unfolding is_phi phi_in_entry
  first_phi f n x there at =
      let broken = nothing_at program accepted n f (record { block = 0; number = 0; inst = x }) there (spot_at f 0 0 0 x (first_zero f.blocks) at) in
      by (is_phi x) refl (λ e. broken.1 NotDefined (inl (or_left (phi_in_entry 0 x) (leads_to_entry x) (in_entry x e))))
    where
      first_zero : (blocks : List Block) → 0 ≡ first_number blocks 0 + 0
      first_zero [] = refl
      first_zero (y ∷ blocks) = refl

      in_entry : (y : Inst) → is_phi y ≡ true → phi_in_entry 0 y ≡ true
      in_entry (inst.Phi t entries) e = refl
      in_entry _ e = absurd (false≢true e)

      by : (b : Bool) → is_phi x ≡ b → (is_phi x ≡ true → ⊥) → is_phi x ≡ false
      by true e never = absurd (never e)
      by false e never = e

  entry_block : (f : Function) (n : ℕ) → slice_get m.functions n ≡ Some f → (block : Block) × (slice_get f.blocks 0 ≡ Some block)
  entry_block f n there = by f.blocks (and_parts _ (is_nonempty f.blocks) (and_parts _ (list_all (is_block (formed_scope (length m.globals) f)) f.blocks) function_formed).0).1
    where
      function_formed : is_function (length m.globals) f ≡ true
      function_formed =
          let parts = and_parts (all_differ (names_of m) && list_all is_global m.globals) (list_all (is_function (length m.globals)) m.functions) accepted.formed.formed in
          all_at (is_function (length m.globals)) m.functions n f parts.1 there

      by : (blocks : List Block) → is_nonempty blocks ≡ true → (block : Block) × (slice_get blocks 0 ≡ Some block)
      by [] h = absurd (false≢true h)
      by (b ∷ blocks) h = (b, refl)

  entry_walk : (n : ℕ) → n < length m.functions → IsOnWalk program n 0 0 (λ k. Number 0)
  entry_walk n lt = at_function (slice_get m.functions n) refl
    where
      at_function : (o : Option Function) → slice_get m.functions n ≡ o → IsOnWalk program n 0 0 (λ k. Number 0)
      at_function None e =
          elim (slice_get_cases m.functions n).1 [
            | inl x ↦ absurd (none-some x.0 (sym e ∙ x.2))
            | inr past ↦ let le = past.0 in absurd (omega (arith, le, lt))
          ]
      at_function (Some f) e =
          let block = entry_block f n e in
          let insts = block_insts f.blocks 0 block.0 block.1 in
          let order = and_parts (is_order block.0.insts) (list_all (is_inst (formed_scope (length m.globals) f)) block.0.insts) (block_formed program accepted law n f e 0 block.0 block.1) in
          let x = order_first block.0.insts order.0 in
          let at : slice_get (insts_of_block f.blocks 0) 0 ≡ Some x.0 = ap (λ (is : List Inst). slice_get is 0) insts ∙ x.1 in
          record {
            function = f;
            here = e;
            inst = x.0;
            at = at;
            other = first_phi f n x.0 e at;
            before = [];
            walk = refl;
            made = λ v gep defined. absurd (never v (first_number f.blocks 0 + 0) (first_zero f.blocks) defined);
          }
        where
          first_zero : (blocks : List Block) → first_number blocks 0 + 0 ≡ 0
          first_zero [] = refl
          first_zero (y ∷ blocks) = refl

          never : (v k : ℕ) → k ≡ 0 → is_defined_at f v 0 k [] ≡ true → ⊥
          never v k z h =
              elim (or_cases (block_of f v == 0 && nat_lt v k) (passes (block_of f v) []) h) [
                | inl here ↦ let less = below v k (and_parts (block_of f v == 0) (nat_lt v k) here).1 in omega (arith, less, z)
                | inr passed ↦ false≢true passed
              ]

  first_walk : (o : Option ℕ) → ((n : ℕ) → o ≡ Some n → n < length m.functions) → (first_processor o).status ≡ Running → OnWalk (first_processor o)
  first_walk None within runs = absurd (cc)
  first_walk (Some n) within runs = entry_walk n (within n refl)

  pub start_walks : (entries : List ℕ) → AreEntries program entries → AreOnWalks program (source_start m entries)
  start_walks entries are p runs = first_walk (slice_get entries p) (λ n e. subst (λ (f : ℕ). f < length m.functions) (get_or_from_slice_get entries p n n e) (are p n (slice_get_within entries p n e))) runs
