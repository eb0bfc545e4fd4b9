-- A block that is entered: its phis are set together, to numbers of their types.
use Rattle.std.proofs.Common.{◌≡◌, ℕ, suc, ◌+◌, ◌⊎◌, inl, inr, Bool, true, false, ◌||◌, List, [], ◌∷◌, map, Option, Some, None, refl, sym, ap, ◌∙◌, subst, arith, slice_get}
use Rattle.std.specs.Prelude.{if◌then◌else◌, nat_eq}
use Rattle.std.specs.List.{list_any}
use Rattle.std.proofs.lemmas.Bool.{eqb-true, or_parts, false≢true}
use Rattle.std.proofs.lemmas.Nat.{pow_pos}
use Rattle.ax_module.specs.declared.inst.Inst.{Inst}
use Rattle.ax_module.specs.declared.inst.Inst.TheVariants as inst
use Rattle.ax_module.specs.declared.module.Block.{Block}
use Rattle.ax_module.specs.declared.module.Function.{Function}
use Rattle.ax_module.specs.declared.module.Module.{Module}
use Rattle.ax_module.specs.declared.operand.Operand.{Operand}
use Rattle.ax_module.specs.declared.types.Ty.{Ty}
use Rattle.ax_module.specs.Kinds.{is_terminator}
use Rattle.ax_source_run.specs.SourceAccess.{put_at}
use Rattle.ax_source_run.specs.SourceInstructions.{entered, first_number, incoming, insts_of_block, is_phi, phi_number, phis_set}
use Rattle.ax_source_run.specs.SourcePointers.{blocks_in, blocks_of, insts_of}
use Rattle.ax_source_run.specs.SourceState.{SourceProcessor, SourceProgram, SourceValue, Number}
use Rattle.ax_source_run.specs.SourceValues.{operand_of, type_bits}
use Rattle.ax_rules.specs.declared.facts.Outcome.{Outcome}
use Rattle.ax_rules.specs.declared.facts.FunctionScope.{FunctionScope}
use Rattle.ax_rules.specs.Facts.{outcome_of, scope_of}
use Rattle.ax_access_rules.specs.Mixed.{is_mistyped, is_mixed_inst, is_mixed_pointer}
use Rattle.ax_rules.specs.Parts.{operands_of, pointers_of}
use Rattle.ax_check.specs.Accepted.{IsAccepted}
use Rattle.ax_check.specs.Laws.{AtInstructions, IsSound}
use Rattle.ax_typed.specs.Typed.{IsAllocaOutcome, IsOf, IsResultOf, IsTypedProcessor, address_of, outcome_if, outcome_in}
use Rattle.ax_typed.proofs.Places.{all_insts, number_at}
use Rattle.ax_typed.proofs.Pointers.{operand_typed}
use Rattle.ax_typed.proofs.Standing.{Stands, alloca_before, sound_at}
use Rattle.ax_typed.proofs.Types.{chosen}

-- ---- a value is unchanged, or the number of a phi
pub record IsPhiAt (from k : ℕ) (old : ℕ → SourceValue) (insts : List Inst) (j : ℕ) (v : SourceValue) : Type 0 where
  pub place : ℕ
  pub inst : Inst
  pub number : j ≡ k + place
  pub here : slice_get insts place ≡ Some inst
  pub phi : is_phi inst ≡ true
  pub value : v ≡ Number (phi_number from old inst)

abbrev Changes : ℕ → ℕ → (ℕ → SourceValue) → List Inst → (ℕ → SourceValue) → (ℕ → SourceValue) → Type 0
Changes from k old insts values new = (j : ℕ) → (new j ≡ values j) ⊎ IsPhiAt from k old insts j (new j)

put_is : (t : Bool) (from k : ℕ) (old : ℕ → SourceValue) (i : Inst) (insts : List Inst) (values : ℕ → SourceValue) (j : ℕ) (v : SourceValue) → nat_eq j k ≡ t → is_phi i ≡ true → v ≡ (if t then Number (phi_number from old i) else values j) → (v ≡ values j) ⊎ IsPhiAt from k old (i ∷ insts) j v
put_is true from k old i insts values j v e p is =
    let same = eqb-true j k e in
    inr (record { place = 0; inst = i; number = omega (arith, same); here = refl; phi = p; value = is })
put_is false from k old i insts values j v e p is = inl is

one_more : (from k : ℕ) (old : ℕ → SourceValue) (i : Inst) (insts : List Inst) (j : ℕ) (v : SourceValue) → IsPhiAt from (k + 1) old insts j v → IsPhiAt from k old (i ∷ insts) j v
one_more from k old i insts j v h = let n = h.number in record { place = suc h.place; inst = h.inst; number = omega (arith, n); here = h.here; phi = h.phi; value = h.value }

phi_set : (t : Bool) (from k : ℕ) (old : ℕ → SourceValue) (i : Inst) (insts : List Inst) (values rest : ℕ → SourceValue) → is_phi i ≡ t → Changes from (k + 1) old insts (put_at values k (Number (phi_number from old i))) rest → Changes from k old (i ∷ insts) values (if t then rest else values)
phi_set true from k old i insts values rest e all j =
    elim (all j) [
      | inl same ↦ put_is (nat_eq j k) from k old i insts values j (rest j) refl e same
      | inr h ↦ inr (one_more from k old i insts j (rest j) h)
    ]
phi_set false from k old i insts values rest e all j = inl refl

phis_at : (from k : ℕ) (old : ℕ → SourceValue) (insts : List Inst) (values : ℕ → SourceValue) → Changes from k old insts values (phis_set from k old insts values)
phis_at from k old [] values = λ j. inl refl
phis_at from k old (i ∷ insts) values =
    let put = put_at values k (Number (phi_number from old i)) in
    phi_set (is_phi i) from k old i insts values (phis_set from (k + 1) old insts put) refl (phis_at from (k + 1) old insts put)

-- a phi's outcome is a number of its type
phi_outcome : (x : Inst) (k : ℕ) (from : ℕ) (values : ℕ → SourceValue) (scope : FunctionScope) → is_phi x ≡ true
    → ((t : Ty) (entries : List (Operand × ℕ)) → list_any (is_mistyped scope) (map (λ (e : Operand × ℕ). (t, e.0)) entries) ≡ false → IsOf t (incoming t from entries values))
    → list_any (is_mistyped scope) (operands_of x) ≡ false → IsResultOf (outcome_of x) k (Number (phi_number from values x)) × (IsAllocaOutcome (outcome_of x) → ⊥)
unfolding is_phi outcome_of operands_of phi_number
phi_outcome (inst.Phi t entries) k from values scope p fits h = (fits t entries h, λ a. a)
phi_outcome _ k from values scope p fits h = absurd (false≢true p)

-- an instruction that is an alloca is there
alloca_there : (o : Option Inst) → IsAllocaOutcome (outcome_if o) → (x : Inst) × (o ≡ Some x) × IsAllocaOutcome (outcome_of x)
alloca_there None a = absurd a
alloca_there (Some x) a = (x, refl, a)

module _ (program : SourceProgram) (accepted : IsAccepted program) (law : AtInstructions IsSound) (c : SourceProcessor) (h : IsTypedProcessor program.source c) (i : Inst) (s : Stands program accepted law c i) where
  abbrev m : Module
  m = program.source

  abbrev f : Function
  f = s.function

  incoming_fits : (t : Ty) (entries : List (Operand × ℕ)) → list_any (is_mistyped (scope_of m f)) (map (λ (e : Operand × ℕ). (t, e.0)) entries) ≡ false → IsOf t (incoming t c.block entries c.values)
  incoming_fits t [] e = pow_pos (type_bits t)
  incoming_fits t (x ∷ entries) e =
      let parts = or_parts (is_mistyped (scope_of m f) (t, x.0)) (list_any (is_mistyped (scope_of m f)) (map (λ (e : Operand × ℕ). (t, e.0)) entries)) e in
      chosen (nat_eq x.1 c.block) t (operand_of t x.0 c.values) (incoming t c.block entries c.values) (operand_typed program accepted law c h i s t x.0 parts.0) (incoming_fits t entries parts.1)

  module _ (b : ℕ) where
    abbrev k : ℕ
    k = first_number f.blocks b

    abbrev new : ℕ → SourceValue
    new = phis_set c.block k c.values (insts_of_block f.blocks b) c.values

    phi_here : (j : ℕ) (v : SourceValue) → IsPhiAt c.block k c.values (insts_of_block f.blocks b) j v → IsResultOf (outcome_in m c.function j) j v × (IsAllocaOutcome (outcome_in m c.function j) → ⊥)
    phi_here j v p =
        let sound = sound_at program accepted law c.function f s.at b p.place j p.inst p.number p.here in
        let operands = (or_parts (list_any (is_mistyped (scope_of m f)) (operands_of p.inst)) (is_mixed_inst (scope_of m f) p.inst) (or_parts (list_any (is_mistyped (scope_of m f)) (operands_of p.inst) || is_mixed_inst (scope_of m f) p.inst) (list_any (is_mixed_pointer (scope_of m f)) (pointers_of p.inst)) sound.mixed).0).0 in
        let is = phi_outcome p.inst j c.block c.values (scope_of m f) p.phi incoming_fits operands in
        let here : slice_get (all_insts f.blocks) j ≡ Some p.inst = ap (slice_get (all_insts f.blocks)) p.number ∙ number_at f.blocks b p.place p.inst p.here in
        let outcome : outcome_in m c.function j ≡ outcome_of p.inst = ap (λ (o : Option Function). outcome_if (slice_get (all_insts (blocks_in o)) j)) s.at ∙ ap outcome_if here in
        (subst (λ (o : Outcome). IsResultOf o j v) (sym outcome) (subst (λ (w : SourceValue). IsResultOf (outcome_of p.inst) j w) (sym p.value) is.0), λ a. is.1 (subst (λ (o : Outcome). IsAllocaOutcome o) outcome a))

    value_typed : (j : ℕ) → IsResultOf (outcome_in m c.function j) j (new j)
    value_typed j =
        elim (phis_at c.block k c.values (insts_of_block f.blocks b) c.values j) [
          | inl same ↦ subst (λ (v : SourceValue). IsResultOf (outcome_in m c.function j) j v) (sym same) (h.values j)
          | inr p ↦ (phi_here j (new j) p).0
        ]

    address_kept : is_terminator i ≡ true → (j : ℕ) → IsAllocaOutcome (outcome_in m c.function j) → new j ≡ address_of j
    address_kept ends j a =
        elim (phis_at c.block k c.values (insts_of_block f.blocks b) c.values j) [
          | inl same ↦
              let x = alloca_there (slice_get (insts_of m c.function) j) a in
              let there : slice_get (all_insts f.blocks) j ≡ Some x.0 = ap (λ (o : Option Function). slice_get (all_insts (blocks_in o)) j) (sym s.at) ∙ x.1 in
              same ∙ h.addresses j a (λ e. alloca_before program accepted law c.function f s.at j c.index x.0 i there x.2 (ap (λ (n : ℕ). slice_get (insts_of_block f.blocks n) c.index) (sym e) ∙ s.inst) ends)
          | inr p ↦ absurd ((phi_here j (new j) p).1 a)
        ]

  entered_in : (blocks : List Block) (b : ℕ) → blocks ≡ f.blocks → is_terminator i ≡ true → IsTypedProcessor m (entered blocks b c)
  entered_in blocks b e ends =
      subst (λ (bs : List Block). IsTypedProcessor m (entered bs b c)) (sym e)
      (record {
        values = value_typed b;
        addresses = λ j a before. address_kept b ends j a;
        allocas = h.allocas;
        pending = h.pending;
      })

  pub entered_typed : (b : ℕ) → is_terminator i ≡ true → IsTypedProcessor m (entered (blocks_of m c.function) b c)
  entered_typed b ends = entered_in (blocks_of m c.function) b (ap blocks_in s.at) ends
