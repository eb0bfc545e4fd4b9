-- Elements that are set, stores that wait, and processors that go on, with numbers of their types.
use Rattle.std.proofs.Common.{◌≡◌, ℕ, suc, ◌+◌, ◌<◌, Bool, true, false, ◌&&◌, List, [], ◌∷◌, ◌++◌, Option, Some, None, All, refl, sym, ap, ◌∙◌, subst, arith}
use Rattle.std.specs.Prelude.{if◌then◌else◌, nat_eq}
use Rattle.std.proofs.lemmas.Bool.{and_parts, eqb-true}
use Rattle.std.proofs.lemmas.Bool.Decides.{nat_tests}
use Rattle.std.proofs.lemmas.List.Elements.{All-push}
use Rattle.ax_module.specs.declared.module.Module.{Module}
use Rattle.ax_source_run.specs.SourceAccess.{element_set, gets, goes_on, newest, put_at, set_if, written_into, written_out}
use Rattle.ax_source_run.specs.SourceState.{Object, Shared, Private, PendingStore, SourceProcessor, SourceValue}
use Rattle.ax_typed.specs.Typed.{AreTyped, IsAllocaOutcome, IsOf, IsResultOf, IsTypedProcessor, address_of, elem_of, outcome_in}

-- ---- functions of which a value is set
pub put_holds : {A : Type 0} (P : ℕ → A → Type 0) (f : ℕ → A) (k : ℕ) (v : A) → ((j : ℕ) → P j (f j)) → P k v → (j : ℕ) → P j (put_at f k v j)
put_holds {A} P f k v all h j = by (nat_eq j k) refl
  where
    by : (t : Bool) → nat_eq j k ≡ t → P j (if t then v else f j)
    by true e = subst (λ (n : ℕ). P n v) (sym (eqb-true j k e)) h
    by false e = all j

pub element_holds : (Q : ℕ → ℕ → Type 0) (numbers : ℕ → ℕ → ℕ) (g i n : ℕ) → ((h j : ℕ) → Q h (numbers h j)) → Q g n → (h j : ℕ) → Q h (element_set g i n numbers h j)
element_holds Q numbers g i n all holds =
    put_holds (λ h (row : ℕ → ℕ). (j : ℕ) → Q h (row j)) numbers g (put_at (numbers g) i n) all
    (put_holds (λ j. Q g) (numbers g) i n (all g) holds)

-- a number or none, of a type
abbrev pub IsOfIf : (ℕ → Type 0) → Option ℕ → Type 0
IsOfIf P None = Unit {0}
IsOfIf P (Some n) = P n

pub set_holds : (Q : ℕ → ℕ → Type 0) (o : Option ℕ) (numbers : ℕ → ℕ → ℕ) (g i : ℕ) → ((h j : ℕ) → Q h (numbers h j)) → IsOfIf (Q g) o → (h j : ℕ) → Q h (set_if o g i numbers h j)
set_holds Q None numbers g i all holds = all
set_holds Q (Some n) numbers g i all holds = element_holds Q numbers g i n all holds

-- ---- stores that wait
abbrev pub StoreIs : Module → PendingStore → Type 0
StoreIs m store = IsOf (elem_of m 0 (Shared store.global)) store.number

module _ (m : Module) where
  abbrev Q : ℕ → ℕ → Type 0
  Q g n = IsOf (elem_of m 0 (Shared g)) n

  rest : (store : PendingStore) (stores : List PendingStore) → All (StoreIs m) (store ∷ stores) → All (StoreIs m) stores
  rest store stores h = λ k d lt. h (suc k) d (omega (arith, lt))

  first : (store : PendingStore) (stores : List PendingStore) → All (StoreIs m) (store ∷ stores) → StoreIs m store
  first store stores h = h 0 store (omega arith)

  pub written_typed : (stores : List PendingStore) (numbers : ℕ → ℕ → ℕ) → All (StoreIs m) stores → AreTyped m numbers → AreTyped m (written_out stores numbers)
  written_typed [] numbers all typed = typed
  written_typed (store ∷ stores) numbers all typed =
      written_typed stores (element_set store.global store.element store.number numbers) (rest store stores all)
      (element_holds Q numbers store.global store.element store.number typed (first store stores all))

  newer : (t : Bool) (g n : ℕ) (store : PendingStore) → (t ≡ true → g ≡ store.global) → StoreIs m store → Q g n → Q g (if t then store.number else n)
  newer true g n store same is typed = subst (λ (h : ℕ). Q h store.number) (sym (same refl)) is
  newer false g n store same is typed = typed

  pub newest_typed : (g i : ℕ) (stores : List PendingStore) (n : ℕ) → All (StoreIs m) stores → Q g n → Q g (newest g i stores n)
  newest_typed g i [] n all typed = typed
  newest_typed g i (store ∷ stores) n all typed =
      let t = nat_eq g store.global && nat_eq i store.element in
      newest_typed g i stores (if t then store.number else n) (rest store stores all)
      (newer t g n store (λ e. eqb-true g store.global (and_parts (nat_eq g store.global) (nat_eq i store.element) e).0) (first store stores all) typed)

  -- ---- processors
  -- instruction k, at which a processor stands, and which is no alloca
  pub record IsAtOther (c : SourceProcessor) (k : ℕ) : Type 0 where
    pub entry : c.block ≡ 0 → k ≡ c.index
    pub other : IsAllocaOutcome (outcome_in m c.function k) → ⊥

  pub goes_typed : (c : SourceProcessor) (k : ℕ) → IsAtOther c k → IsTypedProcessor m c → IsTypedProcessor m (goes_on c)
  goes_typed c k at h = record {
    values = h.values;
    addresses = λ j is before. h.addresses j is (λ e. closer j is e (before e));
    allocas = h.allocas;
    pending = h.pending;
  }
    where
      closer : (j : ℕ) → IsAllocaOutcome (outcome_in m c.function j) → c.block ≡ 0 → j < c.index + 1 → j < c.index
      closer j is e b = by (nat_eq j c.index) refl
        where
          by : (t : Bool) → nat_eq j c.index ≡ t → j < c.index
          by true s = let same : j ≡ k = eqb-true j c.index s ∙ sym (at.entry e) in absurd (at.other (subst (λ (n : ℕ). IsAllocaOutcome (outcome_in m c.function n)) same is))
          by false s = grind (arith, nat_tests)

  pub values_typed : (c : SourceProcessor) (k : ℕ) (v : SourceValue) → (IsAllocaOutcome (outcome_in m c.function k) → ⊥) → IsResultOf (outcome_in m c.function k) k v → IsTypedProcessor m c → IsTypedProcessor m (record c { values = put_at c.values k v })
  values_typed c k v other is h = record {
    values = put_holds (λ j w. IsResultOf (outcome_in m c.function j) j w) c.values k v h.values is;
    addresses = λ j a before. unchanged j a (h.addresses j a before);
    allocas = h.allocas;
    pending = h.pending;
  }
    where
      unchanged : (j : ℕ) → IsAllocaOutcome (outcome_in m c.function j) → c.values j ≡ address_of j → put_at c.values k v j ≡ address_of j
      unchanged j a e = by (nat_eq j k) refl
        where
          by : (t : Bool) → nat_eq j k ≡ t → (if t then v else c.values j) ≡ address_of j
          by true s = absurd (other (subst (λ (n : ℕ). IsAllocaOutcome (outcome_in m c.function n)) (eqb-true j k s) a))
          by false s = e

  pub gets_typed : (c : SourceProcessor) (k : ℕ) (v : SourceValue) → IsAtOther c k → IsResultOf (outcome_in m c.function k) k v → IsTypedProcessor m c → IsTypedProcessor m (gets k v c)
  gets_typed c k v at is h =
      let changed : IsTypedProcessor m (record c { values = put_at c.values k v }) = values_typed c k v at.other is h in
      goes_typed (record c { values = put_at c.values k v }) k (record { entry = at.entry; other = at.other }) changed

  -- an alloca gets its address
  pub address_typed : (c : SourceProcessor) (k : ℕ) → (c.block ≡ 0 → k ≡ c.index) → IsResultOf (outcome_in m c.function k) k (address_of k) → IsTypedProcessor m c → IsTypedProcessor m (gets k (address_of k) c)
  address_typed c k entry is h = record {
    values = put_holds (λ j w. IsResultOf (outcome_in m c.function j) j w) c.values k (address_of k) h.values is;
    addresses = λ j a before. addressed j a before;
    allocas = h.allocas;
    pending = h.pending;
  }
    where
      addressed : (j : ℕ) → IsAllocaOutcome (outcome_in m c.function j) → (c.block ≡ 0 → j < c.index + 1) → put_at c.values k (address_of k) j ≡ address_of j
      addressed j a before = by (nat_eq j k) refl
        where
          by : (t : Bool) → nat_eq j k ≡ t → (if t then address_of k else c.values j) ≡ address_of j
          by true s = ap address_of (sym (eqb-true j k s))
          by false s = h.addresses j a (λ e. let l = before e in let n = entry e in grind (arith, nat_tests))

  pub content_typed : (c : SourceProcessor) (o : Option ℕ) (r i : ℕ) → IsOfIf (IsOf (elem_of m c.function (Private r))) o → IsTypedProcessor m c → IsTypedProcessor m (record c { allocas = set_if o r i c.allocas })
  content_typed c o r i is h = record {
    values = h.values;
    addresses = h.addresses;
    allocas = set_holds (λ k n. IsOf (elem_of m c.function (Private k)) n) o c.allocas r i h.allocas is;
    pending = h.pending;
  }

  pub into_typed : (c : SourceProcessor) (o : Object) (i n : ℕ) → IsOf (elem_of m c.function o) n → IsTypedProcessor m c → IsTypedProcessor m (written_into o i n c)
  into_typed c (Private r) i n is h = content_typed c (Some n) r i is h
  into_typed c (Shared g) i n is h = h

  pub waiting_typed : (c : SourceProcessor) (store : PendingStore) → StoreIs m store → IsTypedProcessor m c → IsTypedProcessor m (record c { pending = c.pending ++ store ∷ [] })
  waiting_typed c store is h = record {
    values = h.values;
    addresses = h.addresses;
    allocas = h.allocas;
    pending = All-push (StoreIs m) c.pending store h.pending is;
  }

  pub drained_typed : (c : SourceProcessor) (stores : List PendingStore) → All (StoreIs m) stores → IsTypedProcessor m c → IsTypedProcessor m (record c { pending = stores })
  drained_typed c stores all h = record { values = h.values; addresses = h.addresses; allocas = h.allocas; pending = all }
