-- Registers that an instruction's code writes, and what the others keep.
use Rattle.std.proofs.Common.{◌≡◌, ℕ, ◌+◌, ◌/◌, ◌%◌, ◌^◌, ◌<◌, ◌≤◌, ◌⊎◌, Bool, true, false, refl, sym, ap, ◌∙◌, subst, arith}
use Rattle.std.proofs.Common.{inl, inr}
use Rattle.std.specs.Prelude.{if◌then◌else◌, nat_eq}
use Rattle.std.proofs.Math.Nat.{pow-le-pow_right}
use Rattle.std.proofs.lemmas.Bool.{eqb-true}
use Rattle.std.proofs.lemmas.Bool.Decides.{nat_tests}
use Rattle.ax_module.specs.declared.module.Module.{Module}
use Rattle.ax_module.specs.declared.operand.Base.{Base}
use Rattle.ax_module.specs.declared.operand.Operand.{Operand}
use Rattle.ax_module.specs.declared.types.Ty.{Ty}
use Rattle.ax_source_run.specs.SourceAccess.{gets, put_at}
use Rattle.ax_source_run.specs.SourceState.{Pointer, SourceProcessor, SourceValue, Number, Pair, PointsTo}
use Rattle.ax_source_run.specs.SourceValues.{number_of, number_of_flag, part_of, type_bits}
use Rattle.ax_mid.specs.Processor.{MidProcessor}
use Rattle.ax_rules.specs.declared.facts.Outcome.{Outcome}
use Rattle.ax_rules.specs.declared.facts.Outcome.TheVariants as outcome
use Rattle.ax_typed.specs.Typed.{IsResultOf, IsTypedProcessor, outcome_in}
use Rattle.ax_selected.specs.Matches.{HoldsAllocas, HoldsIndex, HoldsNumber, HoldsPair, HoldsValue, HoldsValues, Matches}
use Rattle.ax_selected.specs.Registers.{flag_of, high_of, low_of}

differs : (a b : ℕ) → (a < b) ⊎ (b < a) → nat_eq a b ≡ false
differs a b (inl h) = grind (arith, nat_tests)
differs a b (inr h) = grind (arith, nat_tests)

equals : (k : ℕ) → nat_eq k k ≡ true
equals k = grind (arith, nat_tests)

pub put_same : {A : Type 0} (f : ℕ → A) (k : ℕ) (v : A) → put_at f k v k ≡ v
put_same f k v = ap (λ (b : Bool). if b then v else f k) (equals k)

pub put_other : {A : Type 0} (f : ℕ → A) (k : ℕ) (v : A) (a : ℕ) → (a < k) ⊎ (k < a) → put_at f k v a ≡ f a
put_other f k v a h = ap (λ (b : Bool). if b then v else f a) (differs a k h)

-- registers from 16 on are as they were, but those of instruction k
abbrev pub IsOther : ℕ → ℕ → Type 0
IsOther k r = (16 ≤ r) × ((r < low_of k) ⊎ (low_of k + 4 ≤ r))

pub record Only (k : ℕ) (old new : ℕ → ℕ) : Type 0 where
  pub only : (r : ℕ) → IsOther k r → new r ≡ old r

-- and all from 16 on
pub record Temps (old new : ℕ → ℕ) : Type 0 where
  pub temps : (r : ℕ) → 16 ≤ r → new r ≡ old r

pub no_temps : (regs : ℕ → ℕ) → Temps regs regs
no_temps regs = record { temps = λ r h. refl }

pub temp : (old new : ℕ → ℕ) (t n : ℕ) → t < 16 → Temps old new → Temps old (put_at new t n)
temp old new t n lt h = record { temps = λ r le. put_other new t n r (inr (omega (arith, lt, le))) ∙ h.temps r le }

pub only_temps : (k : ℕ) (old new : ℕ → ℕ) → Temps old new → Only k old new
only_temps k old new h = record { only = λ r is. h.temps r is.0 }

pub only_own : (k : ℕ) (old new : ℕ → ℕ) (t n : ℕ) → low_of k ≤ t → t < low_of k + 4 → Only k old new → Only k old (put_at new t n)
only_own k old new t n from to h = record { only = λ r is. put_other new t n r (side r is.1) ∙ h.only r is }
  where
    side : (r : ℕ) → (r < low_of k) ⊎ (low_of k + 4 ≤ r) → (r < t) ⊎ (t < r)
    side r (inl lt) = inl (omega (arith, lt, from))
    side r (inr le) = inr (omega (arith, le, to))

-- ---- what is held
pub number_temps : (old new : ℕ → ℕ) (k n : ℕ) → Temps old new → HoldsNumber old k n → HoldsNumber new k n
number_temps old new k n t h = record { low = t.temps (low_of k) (omega arith) ∙ h.low; high = t.temps (high_of k) (omega arith) ∙ h.high }

module _ (k j : ℕ) (apart : (j < k) ⊎ (k < j)) (old new : ℕ → ℕ) (h : Only k old new) where
  at : (d : ℕ) → d < 4 → new (low_of j + d) ≡ old (low_of j + d)
  at d lt = h.only (low_of j + d) (omega arith, side apart)
    where
      side : (j < k) ⊎ (k < j) → (low_of j + d < low_of k) ⊎ (low_of k + 4 ≤ low_of j + d)
      side (inl less) = inl (omega (arith, less, lt))
      side (inr more) = inr (omega (arith, more))

  at_low : new (low_of j) ≡ old (low_of j)
  at_low = ap new (omega arith) ∙ at 0 (omega arith) ∙ ap old (omega arith)

  at_high : new (high_of j) ≡ old (high_of j)
  at_high = ap new (omega arith) ∙ at 1 (omega arith) ∙ ap old (omega arith)

  at_flag : new (flag_of j) ≡ old (flag_of j)
  at_flag = ap new (omega arith) ∙ at 2 (omega arith) ∙ ap old (omega arith)

  index_kept : (v : SourceValue) → HoldsIndex old j v → HoldsIndex new j v
  index_kept (PointsTo p) x = at_low ∙ x
  index_kept (Number n) x = tt
  index_kept (Pair n flag) x = tt

  pub value_kept : (o : Outcome) (v : SourceValue) → HoldsValue o old j v → HoldsValue o new j v
  value_kept (outcome.Number t) v x = record { low = at_low ∙ x.low; high = at_high ∙ x.high }
  value_kept (outcome.Pair t) v x = record { number = record { low = at_low ∙ x.number.low; high = at_high ∙ x.number.high }; flag = at_flag ∙ x.flag }
  value_kept (outcome.Gep b elem t index) v x = index_kept v x
  value_kept (outcome.Alloca e) v x = tt
  value_kept outcome.Nothing v x = tt

index_temps : (old new : ℕ → ℕ) (j : ℕ) (v : SourceValue) → new (low_of j) ≡ old (low_of j) → HoldsIndex old j v → HoldsIndex new j v
index_temps old new j (PointsTo p) e x = e ∙ x
index_temps old new j (Number n) e x = tt
index_temps old new j (Pair n flag) e x = tt

value_temps : (old new : ℕ → ℕ) (j : ℕ) (o : Outcome) (v : SourceValue) → Temps old new → HoldsValue o old j v → HoldsValue o new j v
value_temps old new j (outcome.Number t) v h x = number_temps old new j (number_of v) h x
value_temps old new j (outcome.Pair t) v h x = record { number = number_temps old new j (part_of 0 v) h x.number; flag = h.temps (flag_of j) (omega arith) ∙ x.flag }
value_temps old new j (outcome.Gep b elem t index) v h x = index_temps old new j v (h.temps (low_of j) (omega arith)) x
value_temps old new j (outcome.Alloca e) v h x = tt
value_temps old new j outcome.Nothing v h x = tt

pub values_temps : (m : Module) (f : ℕ) (values : ℕ → SourceValue) (old new : ℕ → ℕ) → Temps old new → HoldsValues m f values old → HoldsValues m f values new
values_temps m f values old new h x j = value_temps old new j (outcome_in m f j) (values j) h (x j)

-- instruction k gets a value, which its registers hold
pub values_get : (m : Module) (f k : ℕ) (values : ℕ → SourceValue) (v : SourceValue) (old new : ℕ → ℕ) → HoldsValues m f values old → Only k old new → HoldsValue (outcome_in m f k) new k v → HoldsValues m f (put_at values k v) new
values_get m f k values v old new h only own j = by (nat_eq j k) refl
  where
    by : (b : Bool) → nat_eq j k ≡ b → HoldsValue (outcome_in m f j) new j (if b then v else values j)
    by true e = subst (λ (i : ℕ). HoldsValue (outcome_in m f i) new i v) (sym (eqb-true j k e)) own
    by false e = value_kept k j (grind (arith, nat_tests)) old new only (outcome_in m f j) (values j) (h j)

-- ---- results
pub half_below : (n : ℕ) → n < 2 ^ 64 → (n % 2 ^ 64 ≡ n) × (n / 2 ^ 64 ≡ 0)
half_below n h = (omega (arith, h), omega (arith, h))

pub fits_64 : (n bits : ℕ) → bits ≤ 64 → n < 2 ^ bits → n < 2 ^ 64
fits_64 n bits le h = let more = pow-le-pow_right {n = 2} (omega arith) {i = bits} {j = 64} le in omega (arith, h, more)

module _ (m : Module) (s : SourceProcessor) (c : MidProcessor) (k : ℕ) (matches : Matches m s c) (d : MidProcessor) (frame : d.frame ≡ c.frame) where
  got : (v : SourceValue) → Only k c.regs d.regs → HoldsValue (outcome_in m s.function k) d.regs k v → Matches m (gets k v s) d
  got v only own = record {
    values = values_get m s.function k s.values v c.regs d.regs matches.values only own;
    allocas = subst (λ (fr : ℕ → ℕ). HoldsAllocas m s.function s.allocas fr) (sym frame) matches.allocas;
  }

  as_number : (t : Ty) (n : ℕ) → outcome_in m s.function k ≡ outcome.Number t → HoldsNumber d.regs k n → HoldsValue (outcome_in m s.function k) d.regs k (Number n)
  as_number t n o h = subst (λ (x : Outcome). HoldsValue x d.regs k (Number n)) (sym o) h

  -- a number of at most 64 bits, in the low register; the high one stays 0
  pub narrow_result : (t : Ty) (n : ℕ) (regs : ℕ → ℕ) → outcome_in m s.function k ≡ outcome.Number t → IsTypedProcessor m s → type_bits t ≤ 64 → n < 2 ^ 64 → Temps c.regs regs → d.regs ≡ put_at regs (low_of k) n → Matches m (gets k (Number n) s) d
  narrow_result t n regs o typed narrow fits temps is =
      let old : HoldsNumber c.regs k (number_of (s.values k)) = subst (λ (x : Outcome). HoldsValue x c.regs k (s.values k)) o (matches.values k) in
      let small : number_of (s.values k) < 2 ^ type_bits t = subst (λ (x : Outcome). IsResultOf x k (s.values k)) o (typed.values k) in
      let below = fits_64 (number_of (s.values k)) (type_bits t) narrow small in
      let zero : number_of (s.values k) / 2 ^ 64 ≡ 0 = (half_below (number_of (s.values k)) below).1 in
      let half = half_below n fits in
      got (Number n) (subst (Only k c.regs) (sym is) (only_own k c.regs regs (low_of k) n (omega arith) (omega arith) (only_temps k c.regs regs temps)))
      (as_number t n o (record {
        low = ap (λ (f : ℕ → ℕ). f (low_of k)) is ∙ put_same regs (low_of k) n ∙ sym half.0;
        high = ap (λ (f : ℕ → ℕ). f (high_of k)) is ∙ put_other regs (low_of k) n (high_of k) (inr (omega arith)) ∙ temps.temps (high_of k) (omega arith) ∙ old.high ∙ zero ∙ sym half.1;
      }))

  -- a number in both halves
  pub wide_result : (t : Ty) (n low high : ℕ) (regs : ℕ → ℕ) → outcome_in m s.function k ≡ outcome.Number t → low ≡ n % 2 ^ 64 → high ≡ n / 2 ^ 64 → Temps c.regs regs → d.regs ≡ put_at (put_at regs (high_of k) high) (low_of k) low → Matches m (gets k (Number n) s) d
  wide_result t n low high regs o is_low is_high temps is =
      got (Number n) (subst (Only k c.regs) (sym is) (only_own k c.regs (put_at regs (high_of k) high) (low_of k) low (omega arith) (omega arith) (only_own k c.regs regs (high_of k) high (omega arith) (omega arith) (only_temps k c.regs regs temps))))
      (as_number t n o (record {
        low = ap (λ (f : ℕ → ℕ). f (low_of k)) is ∙ put_same (put_at regs (high_of k) high) (low_of k) low ∙ is_low;
        high = ap (λ (f : ℕ → ℕ). f (high_of k)) is ∙ put_other (put_at regs (high_of k) high) (low_of k) low (high_of k) (inr (omega arith)) ∙ put_same regs (high_of k) high ∙ is_high;
      }))

  -- a pair of a number of at most 64 bits and a flag
  pub pair_result : (t : Ty) (n : ℕ) (flag : Bool) (regs : ℕ → ℕ) → outcome_in m s.function k ≡ outcome.Pair t → IsTypedProcessor m s → type_bits t ≤ 64 → n < 2 ^ 64 → Temps c.regs regs → d.regs ≡ put_at (put_at regs (low_of k) (n % 2 ^ 64)) (flag_of k) (number_of_flag flag) → Matches m (gets k (Pair n flag) s) d
  pair_result t n flag regs o typed narrow fits temps is =
      let once = put_at regs (low_of k) (n % 2 ^ 64) in
      let old : HoldsPair c.regs k (s.values k) = subst (λ (x : Outcome). HoldsValue x c.regs k (s.values k)) o (matches.values k) in
      let small : part_of 0 (s.values k) < 2 ^ type_bits t = (subst (λ (x : Outcome). IsResultOf x k (s.values k)) o (typed.values k)) 0 in
      let zero : part_of 0 (s.values k) / 2 ^ 64 ≡ 0 = (half_below (part_of 0 (s.values k)) (fits_64 (part_of 0 (s.values k)) (type_bits t) narrow small)).1 in
      got (Pair n flag) (subst (Only k c.regs) (sym is) (only_own k c.regs once (flag_of k) (number_of_flag flag) (omega arith) (omega arith) (only_own k c.regs regs (low_of k) (n % 2 ^ 64) (omega arith) (omega arith) (only_temps k c.regs regs temps))))
      (subst (λ (x : Outcome). HoldsValue x d.regs k (Pair n flag)) (sym o) (record {
        number = record {
          low = ap (λ (f : ℕ → ℕ). f (low_of k)) is ∙ (put_other once (flag_of k) (number_of_flag flag) (low_of k) (inl (omega arith)) ∙ put_same regs (low_of k) (n % 2 ^ 64));
          high = ap (λ (f : ℕ → ℕ). f (high_of k)) is ∙ (put_other once (flag_of k) (number_of_flag flag) (high_of k) (inl (omega arith)) ∙ (put_other regs (low_of k) (n % 2 ^ 64) (high_of k) (inr (omega arith)) ∙ (temps.temps (high_of k) (omega arith) ∙ (old.number.high ∙ (zero ∙ sym (half_below n fits).1)))));
        };
        flag = ap (λ (f : ℕ → ℕ). f (flag_of k)) is ∙ put_same once (flag_of k) (number_of_flag flag);
      }))

  -- a pointer, of which the low register has the index
  pub pointer_result : (b : Base) (elem t : Ty) (v : Operand) (p : Pointer) (n : ℕ) (regs : ℕ → ℕ) → outcome_in m s.function k ≡ outcome.Gep b elem t v → n ≡ p.index → Temps c.regs regs → d.regs ≡ put_at regs (low_of k) n → Matches m (gets k (PointsTo p) s) d
  pointer_result b elem t v p n regs o index temps is =
      got (PointsTo p) (subst (Only k c.regs) (sym is) (only_own k c.regs regs (low_of k) n (omega arith) (omega arith) (only_temps k c.regs regs temps)))
      (subst (λ (x : Outcome). HoldsValue x d.regs k (PointsTo p)) (sym o) (ap (λ (f : ℕ → ℕ). f (low_of k)) is ∙ (put_same regs (low_of k) n ∙ index)))

  -- a number in both halves, the low one written first
  pub wide_back : (t : Ty) (n low high : ℕ) (regs : ℕ → ℕ) → outcome_in m s.function k ≡ outcome.Number t → low ≡ n % 2 ^ 64 → high ≡ n / 2 ^ 64 → Temps c.regs regs → d.regs ≡ put_at (put_at regs (low_of k) low) (high_of k) high → Matches m (gets k (Number n) s) d
  wide_back t n low high regs o is_low is_high temps is =
      let once = put_at regs (low_of k) low in
      got (Number n) (subst (Only k c.regs) (sym is) (only_own k c.regs once (high_of k) high (omega arith) (omega arith) (only_own k c.regs regs (low_of k) low (omega arith) (omega arith) (only_temps k c.regs regs temps))))
      (as_number t n o (record {
        low = ap (λ (f : ℕ → ℕ). f (low_of k)) is ∙ (put_other once (high_of k) high (low_of k) (inl (omega arith)) ∙ (put_same regs (low_of k) low ∙ is_low));
        high = ap (λ (f : ℕ → ℕ). f (high_of k)) is ∙ (put_same once (high_of k) high ∙ is_high);
      }))

  -- a pair of a number in both halves and a flag
  pub wide_pair : (t : Ty) (n : ℕ) (flag : Bool) (regs : ℕ → ℕ) → outcome_in m s.function k ≡ outcome.Pair t → Temps c.regs regs → d.regs ≡ put_at (put_at (put_at regs (low_of k) (n % 2 ^ 64)) (high_of k) (n / 2 ^ 64)) (flag_of k) (number_of_flag flag) → Matches m (gets k (Pair n flag) s) d
  wide_pair t n flag regs o temps is =
      let once = put_at regs (low_of k) (n % 2 ^ 64) in
      let twice = put_at once (high_of k) (n / 2 ^ 64) in
      got (Pair n flag) (subst (Only k c.regs) (sym is) (only_own k c.regs twice (flag_of k) (number_of_flag flag) (omega arith) (omega arith) (only_own k c.regs once (high_of k) (n / 2 ^ 64) (omega arith) (omega arith) (only_own k c.regs regs (low_of k) (n % 2 ^ 64) (omega arith) (omega arith) (only_temps k c.regs regs temps)))))
      (subst (λ (x : Outcome). HoldsValue x d.regs k (Pair n flag)) (sym o) (record {
        number = record {
          low = ap (λ (f : ℕ → ℕ). f (low_of k)) is ∙ (put_other twice (flag_of k) (number_of_flag flag) (low_of k) (inl (omega arith)) ∙ (put_other once (high_of k) (n / 2 ^ 64) (low_of k) (inl (omega arith)) ∙ put_same regs (low_of k) (n % 2 ^ 64)));
          high = ap (λ (f : ℕ → ℕ). f (high_of k)) is ∙ (put_other twice (flag_of k) (number_of_flag flag) (high_of k) (inl (omega arith)) ∙ put_same once (high_of k) (n / 2 ^ 64));
        };
        flag = ap (λ (f : ℕ → ℕ). f (flag_of k)) is ∙ put_same twice (flag_of k) (number_of_flag flag);
      }))

  -- a number whose low half was brought before register 1 was used again, and whose high half comes last
  pub wide_loaded : (t : Ty) (n low high a b : ℕ) (regs : ℕ → ℕ) → outcome_in m s.function k ≡ outcome.Number t → low ≡ n % 2 ^ 64 → high ≡ n / 2 ^ 64 → Temps c.regs regs
      → d.regs ≡ put_at (put_at (put_at (put_at regs (low_of k) low) 1 a) 1 b) (high_of k) high → Matches m (gets k (Number n) s) d
  wide_loaded t n low high a b regs o is_low is_high temps is =
      let once = put_at regs (low_of k) low in
      let twice = put_at once 1 a in
      let thrice = put_at twice 1 b in
      let own = only_own k c.regs regs (low_of k) low (omega arith) (omega arith) (only_temps k c.regs regs temps) in
      let only_a : Only k c.regs twice = record { only = λ r other. put_other once 1 a r (inr (let le = other.0 in omega (arith, le))) ∙ own.only r other } in
      let only_b : Only k c.regs thrice = record { only = λ r other. put_other twice 1 b r (inr (let le = other.0 in omega (arith, le))) ∙ only_a.only r other } in
      got (Number n) (subst (Only k c.regs) (sym is) (only_own k c.regs thrice (high_of k) high (omega arith) (omega arith) only_b))
      (as_number t n o (record {
        low = ap (λ (f : ℕ → ℕ). f (low_of k)) is ∙ (put_other thrice (high_of k) high (low_of k) (inl (omega arith)) ∙ (put_other twice 1 b (low_of k) (inr (omega arith)) ∙ (put_other once 1 a (low_of k) (inr (omega arith)) ∙ (put_same regs (low_of k) low ∙ is_low))));
        high = ap (λ (f : ℕ → ℕ). f (high_of k)) is ∙ (put_same thrice (high_of k) high ∙ is_high);
      }))
