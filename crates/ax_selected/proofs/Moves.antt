-- The moves of an edge: all phis of a block are set together.
use Rattle.std.proofs.Common.{◌≡◌, ℕ, ◌+◌, ◌*◌, ◌/◌, ◌%◌, ◌^◌, ◌<◌, ◌≤◌, ◌⊎◌, Bool, true, false, List, [], ◌∷◌, Some, refl, sym, ap, ◌∙◌, subst, arith}
use Rattle.std.proofs.Common.{inl, inr}
use Rattle.std.specs.Prelude.{if◌then◌else◌, nat_eq}
use Rattle.std.proofs.lemmas.Bool.{eqb-true}
use Rattle.std.proofs.lemmas.Bool.Decides.{nat_tests}
use Rattle.std.proofs.lemmas.Nat.{pow_pos}
use Rattle.std.proofs.Math.Nat.{mod-eq_of_lt}
use Rattle.ax_module.specs.declared.inst.Inst.{Inst}
use Rattle.ax_module.specs.declared.inst.Inst.TheVariants as inst
use Rattle.ax_module.specs.declared.module.Module.{Module}
use Rattle.ax_module.specs.declared.operand.Operand.{Operand}
use Rattle.ax_module.specs.declared.operand.Operand.TheVariants as operand
use Rattle.ax_module.specs.declared.types.Ty.{Ty}
use Rattle.ax_source_run.specs.SourceAccess.{put_at}
use Rattle.ax_source_run.specs.SourceInstructions.{incoming, is_phi, phi_number, phis_set}
use Rattle.ax_source_run.specs.SourceState.{Number, SourceProgram, SourceValue}
use Rattle.ax_source_run.specs.SourceValues.{operand_of, type_bits}
use Rattle.ax_mid.specs.declared.code.Mid.{Mid}
use Rattle.ax_mid.specs.declared.registers.Virtual.{Virtual}
use Rattle.ax_mid.specs.Machine.{private_step}
use Rattle.ax_mid.specs.Processor as mid
use Rattle.ax_mid.specs.Processor.{MidProcessor}
use Rattle.ax_rules.specs.declared.facts.Outcome.{Outcome}
use Rattle.ax_rules.specs.declared.facts.Outcome.TheVariants as outcome
use Rattle.ax_typed.specs.Typed.{outcome_in}
use Rattle.ax_selected.specs.Edges.{coming_in, operand_from, set_phis}
use Rattle.ax_selected.specs.Matches.{HoldsNumber, HoldsValue, HoldsValues}
use Rattle.ax_selected.specs.Registers.{high_in, high_of, low_in, low_of}
use Rattle.ax_selected.proofs.Computes.{Held, high_fetched, low_fetched}
use Rattle.ax_selected.proofs.Registers.{Only, put_other, put_same, value_kept, values_get}
use Rattle.ax_selected.proofs.Straight.{Runs}

-- the number that comes in is that of the operand that comes in
chosen_is : (x : Bool) (t : Ty) (v w : Operand) (n : ℕ) (values : ℕ → SourceValue) → operand_of t w values ≡ n → operand_of t (if x then v else w) values ≡ (if x then operand_of t v values else n)
chosen_is true t v w n values e = refl
chosen_is false t v w n values e = e

pub incoming_is : (t : Ty) (b : ℕ) (entries : List (Operand × ℕ)) (values : ℕ → SourceValue) → operand_of t (operand_from b entries) values ≡ incoming t b entries values
incoming_is t b [] values = mod-eq_of_lt (pow_pos (type_bits t))
incoming_is t b (entry ∷ entries) values = chosen_is (nat_eq entry.1 b) t entry.0 (operand_from b entries) (incoming t b entries values) values (incoming_is t b entries values)

-- an operand that is a number of a type
abbrev pub IsNumberOperand : Module → ℕ → Ty → Operand → Type 0
IsNumberOperand m f t (operand.Value r) = outcome_in m f r ≡ outcome.Number t
IsNumberOperand m f t (operand.Const n) = Unit {0}
IsNumberOperand m f t (operand.Wide n) = Unit {0}
IsNumberOperand m f t (operand.Param p) = Unit {0}

held_of : (m : Module) (f : ℕ) (t : Ty) (v : Operand) (values : ℕ → SourceValue) (regs : ℕ → ℕ) → HoldsValues m f values regs → IsNumberOperand m f t v → Held v values regs
held_of m f t (operand.Value r) values regs h is = subst (λ (o : Outcome). HoldsValue o regs r (values r)) is (h r)
held_of m f t (operand.Const n) values regs h is = tt
held_of m f t (operand.Wide n) values regs h is = tt
held_of m f t (operand.Param p) values regs h is = tt

-- what is known of the phis at the head of a list of instructions, from number j on
unfoldable pub ArePhis : Module → ℕ → ℕ → ℕ → List Inst → Type 0
ArePhis m f b j [] = Unit {0}
ArePhis m f b j (inst.Phi t entries ∷ insts) = (outcome_in m f j ≡ outcome.Number t) × IsNumberOperand m f t (operand_from b entries) × ArePhis m f b (j + 1) insts
ArePhis m f b j _ = Unit {0}

-- and what came into them
unfoldable pub Came : ℕ → ℕ → List Inst → (ℕ → SourceValue) → (ℕ → ℕ) → Type 0
Came b j [] old regs = Unit {0}
Came b j (inst.Phi t entries ∷ insts) old regs = (regs (low_in j) ≡ operand_of t (operand_from b entries) old % 2 ^ 64) × (regs (high_in j) ≡ operand_of t (operand_from b entries) old / 2 ^ 64) × Came b (j + 1) insts old regs
Came b j _ old regs = Unit {0}

-- registers of earlier instructions, and results, bear what came in
came_same : (b j : ℕ) (insts : List Inst) (old : ℕ → SourceValue) (regs new : ℕ → ℕ) → ((q : ℕ) → j ≤ q → (new (low_in q) ≡ regs (low_in q)) × (new (high_in q) ≡ regs (high_in q))) → Came b j insts old regs → Came b j insts old new
unfolding Came
came_same b j [] old regs new same h = tt
came_same b j (inst.Phi t entries ∷ insts) old regs new same h =
    ((same j (omega arith)).0 ∙ h.0, (same j (omega arith)).1 ∙ h.1, came_same b (j + 1) insts old regs new (λ q le. same q (omega (arith, le))) h.2)
came_same b j (_ ∷ insts) old regs new same h = tt

-- the same processor, but for its place and registers
pub record Rest (x y : MidProcessor) : Type 0 where
  pub frame : y.frame ≡ x.frame
  pub status : y.status ≡ x.status
  pub seen : y.seen ≡ x.seen
  pub pending : y.pending ≡ x.pending

module _ (program : SourceProgram) (code : Mid Virtual) (base f b : ℕ) (old : ℕ → SourceValue) where
  abbrev m : Module
  m = program.source

  -- what comes in is in registers of its own, and results are as they were
  pub record Ins (j : ℕ) (insts : List Inst) (x : MidProcessor) : Type 0 where
    pub to : MidProcessor
    pub runs : Runs program.target code base (coming_in b j insts) x to
    pub values : HoldsValues m f old to.regs
    pub came : Came b j insts old to.regs
    pub below : (r : ℕ) → r < low_of j → to.regs r ≡ x.regs r
    pub rest : Rest x to

  -- registers that come in are written, and no result changes
  values_in : (j : ℕ) (t : Ty) (regs new : ℕ → ℕ) → outcome_in m f j ≡ outcome.Number t → HoldsValues m f old regs → Only j regs new → new (low_of j) ≡ regs (low_of j) → new (high_of j) ≡ regs (high_of j) → HoldsValues m f old new
  values_in j t regs new o h only low high q = by (nat_eq q j) refl
    where
      by : (x : Bool) → nat_eq q j ≡ x → HoldsValue (outcome_in m f q) new q (old q)
      by true e =
          let own : HoldsNumber regs j (Rattle.ax_source_run.specs.SourceValues.number_of (old j)) = subst (λ (y : Outcome). HoldsValue y regs j (old j)) o (h j) in
          subst (λ (i : ℕ). HoldsValue (outcome_in m f i) new i (old i)) (sym (eqb-true q j e)) (subst (λ (y : Outcome). HoldsValue y new j (old j)) (sym o) (record { low = low ∙ own.low; high = high ∙ own.high }))
      by false e = value_kept j q (grind (arith, nat_tests)) regs new only (outcome_in m f q) (old q) (h q)

  pub comes_in : (insts : List Inst) (j : ℕ) (x : MidProcessor) → HoldsValues m f old x.regs → ArePhis m f b j insts → Ins j insts x
  unfolding coming_in ArePhis Came
  comes_in [] j x h are = record { to = x; runs = refl; values = h; came = tt; below = λ r lt. refl; rest = record { frame = refl; status = refl; seen = refl; pending = refl } }
  comes_in (inst.Phi t entries ∷ insts) j x h are =
      let v = operand_from b entries in
      let lo = operand_of t v old % 2 ^ 64 in
      let hi = operand_of t v old / 2 ^ 64 in
      let y = mid.gets (low_in j) lo x in
      let z = mid.gets (high_in j) hi y in
      let once : Only j x.regs y.regs = record { only = λ r is. put_other x.regs (low_in j) lo r (away j r 18 is.1 (omega arith) (omega arith)) } in
      let hy = values_in j t x.regs y.regs are.0 h once (put_other x.regs (low_in j) lo (low_of j) (inl (omega arith))) (put_other x.regs (low_in j) lo (high_of j) (inl (omega arith))) in
      let twice : Only j y.regs z.regs = record { only = λ r is. put_other y.regs (high_in j) hi r (away j r 19 is.1 (omega arith) (omega arith)) } in
      let hz = values_in j t y.regs z.regs are.0 hy twice (put_other y.regs (high_in j) hi (low_of j) (inl (omega arith))) (put_other y.regs (high_in j) hi (high_of j) (inl (omega arith))) in
      let more = comes_in insts (j + 1) z hz are.2 in
      record {
        to = more.to;
        runs = (y, low_fetched program code base (low_in j) t v old x (held_of m f t v old x.regs h are.1), refl, (z, high_fetched program code base (high_in j) t v old y (held_of m f t v old y.regs hy are.1), refl, more.runs));
        values = more.values;
        came = (more.below (low_in j) (omega arith) ∙ (put_other y.regs (high_in j) hi (low_in j) (inl (omega arith)) ∙ put_same x.regs (low_in j) lo), more.below (high_in j) (omega arith) ∙ put_same y.regs (high_in j) hi, more.came);
        below = λ r lt. more.below r (omega (arith, lt)) ∙ (put_other y.regs (high_in j) hi r (inl (omega (arith, lt))) ∙ put_other x.regs (low_in j) lo r (inl (omega (arith, lt))));
        rest = record { frame = more.rest.frame; status = more.rest.status; seen = more.rest.seen; pending = more.rest.pending };
      }
    where
      away : (q r d : ℕ) → (r < low_of q) ⊎ (low_of q + 4 ≤ r) → 18 ≤ d → d < 20 → (r < 4 * q + d) ⊎ (4 * q + d < r)
      away q r d (inl lt) from to = inl (omega (arith, lt, from))
      away q r d (inr le) from to = inr (omega (arith, le, to))
  comes_in (_ ∷ insts) j x h are = record { to = x; runs = refl; values = h; came = tt; below = λ r lt. refl; rest = record { frame = refl; status = refl; seen = refl; pending = refl } }

  -- ---- and then all phis are set
  pub record Sets (j : ℕ) (insts : List Inst) (values : ℕ → SourceValue) (x : MidProcessor) : Type 0 where
    pub to : MidProcessor
    pub runs : Runs program.target code base (set_phis j insts) x to
    pub holds : HoldsValues m f (phis_set b j old insts values) to.regs
    pub rest : Rest x to

  pub sets : (insts : List Inst) (j : ℕ) (values : ℕ → SourceValue) (x : MidProcessor) → HoldsValues m f values x.regs → ArePhis m f b j insts → Came b j insts old x.regs → Sets j insts values x
  unfolding set_phis ArePhis Came is_phi phi_number private_step
  sets [] j values x h are came = record { to = x; runs = refl; holds = h; rest = record { frame = refl; status = refl; seen = refl; pending = refl } }
  sets (inst.Phi t entries ∷ insts) j values x h are came =
      let n = operand_of t (operand_from b entries) old in
      let y = mid.gets (low_of j) (n % 2 ^ 64) x in
      let z = mid.gets (high_of j) (n / 2 ^ 64) y in
      let only : Only j x.regs z.regs = record { only = λ r is. put_other y.regs (high_of j) (n / 2 ^ 64) r (away j r 17 is.1 (omega arith) (omega arith)) ∙ put_other x.regs (low_of j) (n % 2 ^ 64) r (away j r 16 is.1 (omega arith) (omega arith)) } in
      let own : HoldsNumber z.regs j n = record {
        low = put_other y.regs (high_of j) (n / 2 ^ 64) (low_of j) (inl (omega arith)) ∙ put_same x.regs (low_of j) (n % 2 ^ 64);
        high = put_same y.regs (high_of j) (n / 2 ^ 64);
      } in
      let hz : HoldsValues m f (put_at values j (Number (phi_number b old (inst.Phi t entries)))) z.regs =
      subst (λ (q : ℕ). HoldsValues m f (put_at values j (Number q)) z.regs) (incoming_is t b entries old)
      (values_get m f j values (Number n) x.regs z.regs h only (subst (λ (o : Outcome). HoldsValue o z.regs j (Number n)) (sym are.0) own)) in
      let same : (q : ℕ) → j + 1 ≤ q → (z.regs (low_in q) ≡ x.regs (low_in q)) × (z.regs (high_in q) ≡ x.regs (high_in q)) = λ q le. (
        put_other y.regs (high_of j) (n / 2 ^ 64) (low_in q) (inr (omega (arith, le))) ∙ put_other x.regs (low_of j) (n % 2 ^ 64) (low_in q) (inr (omega (arith, le))),
        put_other y.regs (high_of j) (n / 2 ^ 64) (high_in q) (inr (omega (arith, le))) ∙ put_other x.regs (low_of j) (n % 2 ^ 64) (high_in q) (inr (omega (arith, le))),
      ) in
      let more = sets insts (j + 1) (put_at values j (Number (phi_number b old (inst.Phi t entries)))) z hz are.2 (came_same b (j + 1) insts old x.regs z.regs same came.2) in
      record {
        to = more.to;
        runs = (
          y,
          ap (λ (r : ℕ). Some (mid.gets (low_of j) r x)) came.0,
          refl,
          (z, ap (λ (r : ℕ). Some (mid.gets (high_of j) r y)) (put_other x.regs (low_of j) (n % 2 ^ 64) (high_in j) (inr (omega arith)) ∙ came.1), refl, more.runs),
        );
        holds = more.holds;
        rest = record { frame = more.rest.frame; status = more.rest.status; seen = more.rest.seen; pending = more.rest.pending };
      }
    where
      away : (q r d : ℕ) → (r < low_of q) ⊎ (low_of q + 4 ≤ r) → 16 ≤ d → d < 18 → (r < 4 * q + d) ⊎ (4 * q + d < r)
      away q r d (inl lt) from to = inl (omega (arith, lt, from))
      away q r d (inr le) from to = inr (omega (arith, le, to))
  sets (_ ∷ insts) j values x h are came = record { to = x; runs = refl; holds = h; rest = record { frame = refl; status = refl; seen = refl; pending = refl } }
