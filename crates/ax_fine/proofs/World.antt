-- Bytes and numbers: what stores leave, what an operation finds.
use Rattle.std.proofs.Common.{◌≡◌, ℕ, zero, suc, ◌+◌, ◌-◌, ◌*◌, ◌%◌, ◌^◌, ◌<◌, ◌≤◌, Bool, true, false, ◌&&◌, inl, inr, List, [], ◌∷◌, ◌++◌, Option, Some, None, refl, sym, ap, ◌∙◌, subst, arith, slice_get, ⊎_elim}
use Rattle.std.specs.Prelude.{◌≢◌, ◌⊎◌, if◌then◌else◌, nat_eq, nat_lt}
use Rattle.std.proofs.Math.Nat.{mod-eq_of_lt, mul-le-mul_right}
use Rattle.std.proofs.lemmas.Bool.{false≢true}
use Rattle.std.proofs.lemmas.Bool.Decides.{nat_tests}
use Rattle.std.proofs.lemmas.Option.{same_Some}
use Rattle.ax_store.specs.declared.entry.Entry.{Entry}
use Rattle.ax_map.specs.Map.{covers}
use Rattle.ax_store.specs.Bytes.{all_inside, byte_of, cut, number_at, put}
use Rattle.ax_store.specs.Storage as storage
use Rattle.ax_store.specs.Storage.{at_place, entry_of}
use Rattle.ax_store.proofs.Calls.{put_small, put_written}
use Rattle.ax_store.proofs.Numbers.{number_same, number_small, number_written}
use Rattle.ax_source_run.specs.SourceAccess.{Compares, Drains, Looks, Manner, ObjectOperation, Reads, Updates, Waits, Writes, element_set, manner_of_native, newest, put_at, set_if, stored_by, written_out}
use Rattle.ax_source_run.specs.SourceState.{PendingStore}
use Rattle.ax_mid.specs.declared.code.MidGlobal.{MidGlobal}
use Rattle.ax_mid.specs.Machine.{Effect, effect_of}
use Rattle.ax_expand.specs.Shared.{Shared, is_shared, masked, shared_replaced, shared_store, shared_wrote, with_pending}
use Rattle.ax_fine.specs.OnBytes.{Met, found_at, met_by, sent_out, wrote_each}
use Rattle.ax_fine.specs.Near.{ArePlaced, AreSpelled, AreStores, IsStore, ResultsFit, address_of}

eq_of : (a b : ℕ) → nat_eq a b ≡ true → a ≡ b
eq_of a b h = grind (arith, nat_tests, h)

eq_true : (a b : ℕ) → a ≡ b → nat_eq a b ≡ true
eq_true a b h = grind (arith, nat_tests, h)

ne_of : (a b : ℕ) → nat_eq a b ≡ false → a ≢ b
ne_of a b h e = false≢true (sym h ∙ eq_true a b e)

within_row : (j count b : ℕ) → j < count → j * b + b ≤ count * b
within_row j count b lt = let e = mul-le-mul_right {m = suc j} {n = count} b lt in omega (arith, e)

pub put_other : (inside : ℕ → Bool) (a n v : ℕ) (f : ℕ → ℕ) (b : ℕ) → (b < a) ⊎ (a + n ≤ b) → put inside a n v f b ≡ f b
put_other inside a n v f b h = (let none : covers a n b ≡ false = grind (arith, nat_tests) in ap (λ t. if t && inside b then byte_of v (b - a) else f b) none)

-- number v is one of its size
pub cut_same : (n v : ℕ) → v < 2 ^ (8 * n) → cut n v ≡ v
cut_same n v small = mod-eq_of_lt small

-- what an operation asks of the numbers that it stores
abbrev pub Stores : ℕ → ObjectOperation → Type 0
Stores bits Reads = Unit {0}
Stores bits (Writes n) = n < 2 ^ bits
Stores bits (Updates op v) = v < 2 ^ bits
Stores bits (Compares expected desired) = desired < 2 ^ bits

module _ (globals : List MidGlobal) (inside : ℕ → Bool) (placed : ArePlaced globals inside) where
  -- ---- elements lie apart
  elements_apart : (g i h j : ℕ) (x y : MidGlobal) → slice_get globals g ≡ Some x → i < x.count → slice_get globals h ≡ Some y → j < y.count → (g ≢ h) ⊎ (i ≢ j)
      → (address_of x i + x.bytes ≤ address_of y j) ⊎ (address_of y j + y.bytes ≤ address_of x i)
  elements_apart g i h j x y there within other inside_other differ = by (nat_eq g h) refl differ
    where
      row_x : i * x.bytes + x.bytes ≤ x.count * x.bytes
      row_x = within_row i x.count x.bytes within

      row_y : j * y.bytes + y.bytes ≤ y.count * y.bytes
      row_y = within_row j y.count y.bytes inside_other

      globals_differ : g ≢ h → (address_of x i + x.bytes ≤ address_of y j) ⊎ (address_of y j + y.bytes ≤ address_of x i)
      globals_differ ne = ⊎_elim (λ e. inl (omega (arith, e, row_x))) (λ e. inr (omega (arith, e, row_y))) (placed.apart g h x y there other ne)

      one_global : x ≡ y → i ≢ j → (b : Bool) → nat_lt i j ≡ b → (address_of x i + x.bytes ≤ address_of y j) ⊎ (address_of y j + y.bytes ≤ address_of x i)
      one_global is ne true e =
          let less : i < j = grind (arith, nat_tests) in
          let row = within_row i j x.bytes less in
          inl (subst (λ (z : MidGlobal). address_of x i + x.bytes ≤ address_of z j) is (omega (arith, row)))
      one_global is ne false e =
          let more : j < i = grind (arith, nat_tests, ne) in
          let row = within_row j i x.bytes more in
          inr (subst (λ (z : MidGlobal). address_of z j + z.bytes ≤ address_of x i) is (omega (arith, row)))

      by : (b : Bool) → nat_eq g h ≡ b → (g ≢ h) ⊎ (i ≢ j) → (address_of x i + x.bytes ≤ address_of y j) ⊎ (address_of y j + y.bytes ≤ address_of x i)
      by false e d = globals_differ (ne_of g h e)
      by true e d =
          ⊎_elim globals_differ (λ ne. one_global (same_Some x y (sym there ∙ (ap (slice_get globals) (eq_of g h e) ∙ other))) ne (nat_lt i j) refl) d

  -- ---- a store reaches its element and no other
  module _ (mem : ℕ → ℕ) (numbers : ℕ → ℕ → ℕ) (spelled : AreSpelled globals mem numbers) (e : Entry) (st : PendingStore) (is : IsStore globals e st) where
    abbrev new : ℕ → ℕ
    new = put inside e.address e.bytes e.value mem

    its_bytes : all_inside inside e.address e.bytes ≡ true
    its_bytes = ap (λ (a : ℕ). all_inside inside a e.bytes) is.address ∙ (ap (all_inside inside (address_of is.global st.element)) is.bytes ∙ placed.mapped st.global st.element is.global is.there is.within)

    here : number_at new e.address e.bytes ≡ st.number
    here =
        ap (λ (f : ℕ → ℕ). number_at f e.address e.bytes) (put_written inside e.address e.bytes e.value mem its_bytes)
        ∙ (number_written mem e.address e.bytes e.value
        ∙ (ap (λ (v : ℕ). v % 2 ^ (8 * e.bytes)) is.value ∙ (ap (λ (n : ℕ). st.number % 2 ^ (8 * n)) is.bytes ∙ mod-eq_of_lt is.small)))

    same : (h j : ℕ) (y : MidGlobal) → slice_get globals h ≡ Some y → h ≡ st.global → j ≡ st.element → number_at new (address_of y j) y.bytes ≡ st.number
    same h j y there eg ei =
        let y_is : y ≡ is.global = same_Some y is.global (sym there ∙ (ap (slice_get globals) eg ∙ is.there)) in
        let a_is : address_of y j ≡ e.address = ap (λ (z : MidGlobal). address_of z j) y_is ∙ (ap (address_of is.global) ei ∙ sym is.address) in
        let b_is : y.bytes ≡ e.bytes = ap (λ (z : MidGlobal). z.bytes) y_is ∙ sym is.bytes in
        ap (λ (a : ℕ). number_at new a y.bytes) a_is ∙ (ap (number_at new e.address) b_is ∙ here)

    other : (h j : ℕ) (y : MidGlobal) → slice_get globals h ≡ Some y → j < y.count → (h ≢ st.global) ⊎ (j ≢ st.element) → number_at new (address_of y j) y.bytes ≡ numbers h j
    other h j y there within differ =
        let apart = elements_apart h j st.global st.element y is.global there within is.there is.within differ in
        let ea = is.address in
        let eb = is.bytes in
        number_same new mem (address_of y j) y.bytes (λ k l. put_other inside e.address e.bytes e.value mem (address_of y j + k) (⊎_elim (λ q. inl (omega (arith, q, l, ea))) (λ q. inr (omega (arith, q, l, ea, eb))) apart))
        ∙ spelled h j y there within

    pub store_spelled : AreSpelled globals new (element_set st.global st.element st.number numbers)
    store_spelled h j y there within = by (nat_eq h st.global) refl (nat_eq j st.element) refl
      where
        by : (b : Bool) → nat_eq h st.global ≡ b → (c : Bool) → nat_eq j st.element ≡ c
            → number_at new (address_of y j) y.bytes ≡ (if b then put_at (numbers st.global) st.element st.number else numbers h) j
        by true e true f = same h j y there (eq_of h st.global e) (eq_of j st.element f) ∙ sym (ap (λ (t : Bool). if t then st.number else numbers st.global j) f)
        by true e false f =
            other h j y there within (inr (ne_of j st.element f)) ∙ (ap (λ (q : ℕ). numbers q j) (eq_of h st.global e) ∙ sym (ap (λ (t : Bool). if t then st.number else numbers st.global j) f))
        by false e c f = other h j y there within (inl (ne_of h st.global e))

  -- ---- what a processor finds: its newest store that waits, else memory
  set_is : (sg se n g i : ℕ) (numbers : ℕ → ℕ → ℕ) → element_set sg se n numbers g i ≡ (if nat_eq g sg && nat_eq i se then n else numbers g i)
  set_is sg se n g i numbers = by (nat_eq g sg) refl
    where
      by : (b : Bool) → nat_eq g sg ≡ b → (if b then put_at (numbers sg) se n else numbers g) i ≡ (if b && nat_eq i se then n else numbers g i)
      by true e = ap (λ (q : ℕ). if nat_eq i se then n else numbers q i) (sym (eq_of g sg e))
      by false e = refl

  pub finds : (es : List Entry) (sts : List PendingStore) (mem : ℕ → ℕ) (numbers : ℕ → ℕ → ℕ) → AreSpelled globals mem numbers → AreStores globals es sts → (g i : ℕ) (x : MidGlobal) → slice_get globals g ≡ Some x → i < x.count
      → number_at (λ b. storage.newest (inside b) es b (mem b)) (address_of x i) x.bytes ≡ newest g i sts (numbers g i)
  finds [] [] mem numbers spelled are g i x there within = spelled g i x there within
  finds [] (st ∷ sts) mem numbers spelled are g i x there within = absurd are
  finds (e ∷ es) [] mem numbers spelled are g i x there within = absurd are
  finds (e ∷ es) (st ∷ sts) mem numbers spelled are g i x there within =
      finds es sts (put inside e.address e.bytes e.value mem) (element_set st.global st.element st.number numbers) (store_spelled mem numbers spelled e st are.0) are.1 g i x there within
      ∙ ap (newest g i sts) (set_is st.global st.element st.number g i numbers)

  -- ---- states of what is shared
  pub record Shows (w : Shared) (numbers : ℕ → ℕ → ℕ) : Type 0 where
    pub mapped : w.inside ≡ inside
    pub small : (b : ℕ) → w.mem b < 2 ^ 8
    pub spelled : AreSpelled globals w.mem numbers

  pub below : (g i : ℕ) (x : MidGlobal) → slice_get globals g ≡ Some x → i < x.count → address_of x i + x.bytes ≤ 2 ^ 24
  below g i x there within = let b = placed.below g x there in let row = within_row i x.count x.bytes within in omega (arith, b, row)

  masked_spelled : (f : ℕ → ℕ) (numbers : ℕ → ℕ → ℕ) → AreSpelled globals f numbers → AreSpelled globals (masked f) numbers
  masked_spelled f numbers spelled g i x there within =
      let b = below g i x there within in
      number_same (masked f) f (address_of x i) x.bytes (λ k l. at (address_of x i + k) (omega (arith, b, l))) ∙ spelled g i x there within
    where
      at : (a : ℕ) → a < 2 ^ 24 → masked f a ≡ f a
      at a less = (let is : is_shared a ≡ true = grind (arith, nat_tests) in ap (λ (t : Bool). if t then f a else 0) is)

  masked_small : (f : ℕ → ℕ) → ((b : ℕ) → f b < 2 ^ 8) → (b : ℕ) → masked f b < 2 ^ 8
  masked_small f small b = by (is_shared b)
    where
      by : (t : Bool) → (if t then f b else 0) < 2 ^ 8
      by true = small b
      by false = omega arith

  pub wrote_shows : (w : Shared) (numbers : ℕ → ℕ → ℕ) → Shows w numbers → (e : Entry) (st : PendingStore) → IsStore globals e st → Shows (shared_wrote e w) (element_set st.global st.element st.number numbers)
  wrote_shows w numbers shows e st is = record {
    mapped = shows.mapped;
    small = masked_small (put w.inside e.address e.bytes e.value w.mem) (put_small w.inside e.address e.bytes e.value w.mem shows.small);
    spelled = masked_spelled (put w.inside e.address e.bytes e.value w.mem) (element_set st.global st.element st.number numbers)
        (subst (λ (f : ℕ → Bool). AreSpelled globals (put f e.address e.bytes e.value w.mem) (element_set st.global st.element st.number numbers)) (sym shows.mapped)
        (store_spelled w.mem numbers shows.spelled e st is));
  }

  each_shows : (es : List Entry) (sts : List PendingStore) (w : Shared) (numbers : ℕ → ℕ → ℕ) → Shows w numbers → AreStores globals es sts → Shows (wrote_each es w) (written_out sts numbers)
  each_shows [] [] w numbers shows are = shows
  each_shows [] (st ∷ sts) w numbers shows are = absurd are
  each_shows (e ∷ es) [] w numbers shows are = absurd are
  each_shows (e ∷ es) (st ∷ sts) w numbers shows are = each_shows es sts (shared_wrote e w) (element_set st.global st.element st.number numbers) (wrote_shows w numbers shows e st are.0) are.1

  each_pending : (es : List Entry) (w : Shared) → (wrote_each es w).pending ≡ w.pending
  each_pending [] w = refl
  each_pending (e ∷ es) w = each_pending es (shared_wrote e w)

  one_more : (es : List Entry) (sts : List PendingStore) (e : Entry) (st : PendingStore) → AreStores globals es sts → IsStore globals e st → AreStores globals (es ++ e ∷ []) (sts ++ st ∷ [])
  one_more [] [] e st are is = (is, tt)
  one_more [] (s ∷ sts) e st are is = absurd are
  one_more (x ∷ es) [] e st are is = absurd are
  one_more (x ∷ es) (s ∷ sts) e st are is = (are.0, one_more es sts e st are.1 is)

  place_same : {A : Type 0} (f : ℕ → A) (p : ℕ) (v : A) → at_place f p v p ≡ v
  place_same f p v = ap (λ (t : Bool). if t then v else f p) (eq_true p p refl)

  place_other : {A : Type 0} (f : ℕ → A) (p q : ℕ) (v : A) → nat_eq q p ≡ false → at_place f p v q ≡ f q
  place_other f p q v h = ap (λ (t : Bool). if t then v else f q) h

  -- ---- an operation of processor p on element i of global g
  pub record Meets (p : ℕ) (w : Shared) (met : Met) (e : Effect) : Type 0 where
    pub found : met.found ≡ e.found
    pub shows : Shows met.world e.numbers
    pub mine : AreStores globals (met.world.pending p) e.pending
    pub others : (q : ℕ) → nat_eq q p ≡ false → met.world.pending q ≡ w.pending q

  module _ (p : ℕ) (w : Shared) (numbers : ℕ → ℕ → ℕ) (sts : List PendingStore) (shows : Shows w numbers) (mine : AreStores globals (w.pending p) sts) where
    -- all that waited has been written
    abbrev out : Shared
    out = sent_out p w

    pub out_shows : Shows out (written_out sts numbers)
    out_shows = let s = each_shows (w.pending p) sts w numbers shows mine in record { mapped = s.mapped; small = s.small; spelled = s.spelled }

    pub out_mine : AreStores globals (out.pending p) []
    out_mine = subst (λ (es : List Entry). AreStores globals es []) (sym (place_same (wrote_each (w.pending p) w).pending p [])) tt

    pub out_others : (q : ℕ) → nat_eq q p ≡ false → out.pending q ≡ w.pending q
    out_others q h = place_other (wrote_each (w.pending p) w).pending p q [] h ∙ ap (λ (f : ℕ → List Entry). f q) (each_pending (w.pending p) w)

    module _ (fit : ResultsFit) (g i : ℕ) (x : MidGlobal) (there : slice_get globals g ≡ Some x) (within : i < x.count) (native : x.native ≡ true) where
      abbrev a : ℕ
      a = address_of x i

      store_is : (n : ℕ) → n < 2 ^ (8 * x.bytes) → IsStore globals (entry_of a x.bytes n) (record { global = g; element = i; number = n })
      store_is n small = record { global = x; there = there; within = within; native = native; address = refl; bytes = refl; value = cut_same x.bytes n small; small = small }

      out_found : number_at out.mem a x.bytes ≡ written_out sts numbers g i
      out_found = out_shows.spelled g i x there within

      found_small : number_at out.mem a x.bytes < 2 ^ (8 * x.bytes)
      found_small = number_small out.mem out_shows.small a x.bytes

      store_if_shows : (o : Option ℕ) → ((n : ℕ) → o ≡ Some n → n < 2 ^ (8 * x.bytes)) → Shows (shared_replaced a x.bytes o out) (set_if o g i (written_out sts numbers))
      store_if_shows None small = out_shows
      store_if_shows (Some n) small = wrote_shows out (written_out sts numbers) out_shows (entry_of a x.bytes n) (record { global = g; element = i; number = n }) (store_is n (small n refl))

      replaced_pending : (o : Option ℕ) → (shared_replaced a x.bytes o out).pending ≡ out.pending
      replaced_pending None = refl
      replaced_pending (Some n) = refl

      stored_small : (operation : ObjectOperation) → Stores (8 * x.bytes) operation → (old : ℕ) → old < 2 ^ (8 * x.bytes) → (n : ℕ) → stored_by operation (8 * x.bytes) old ≡ Some n → n < 2 ^ (8 * x.bytes)
      stored_small Reads fits old less n e = absurd (Rattle.std.proofs.lemmas.Option.none-some n e)
      stored_small (Writes v) fits old less n e = subst (λ (y : ℕ). y < 2 ^ (8 * x.bytes)) (same_Some v n e) fits
      stored_small (Updates op v) fits old less n e = subst (λ (y : ℕ). y < 2 ^ (8 * x.bytes)) (same_Some (Rattle.ax_ops.specs.Operation.result_of (8 * x.bytes) op old v) n e) (fit (8 * x.bytes) op old v less fits)
      stored_small (Compares expected desired) fits old less n e = by (nat_eq old expected) e
        where
          by : (b : Bool) → (if b then Some desired else None) ≡ Some n → n < 2 ^ (8 * x.bytes)
          by true h = subst (λ (y : ℕ). y < 2 ^ (8 * x.bytes)) (same_Some desired n h) fits
          by false h = absurd (Rattle.std.proofs.lemmas.Option.none-some n h)

      -- the number that waits is one of the operation
      abbrev ManneredBy : Manner → ObjectOperation → Type 0
      ManneredBy (Waits n) operation = n < 2 ^ (8 * x.bytes)
      ManneredBy Looks operation = Unit {0}
      ManneredBy Drains operation = Stores (8 * x.bytes) operation

      mannered : (operation : ObjectOperation) (waits : Bool) → Stores (8 * x.bytes) operation → ManneredBy (manner_of_native operation waits) operation
      mannered (Writes n) true fits = fits
      mannered (Writes n) false fits = fits
      mannered Reads waits fits = tt
      mannered (Updates op v) waits fits = fits
      mannered (Compares expected desired) waits fits = fits

      meets_by : (manner : Manner) (buffered : Bool) (operation : ObjectOperation) → ManneredBy manner operation → Meets p w (met_by manner buffered p a x.bytes operation w) (effect_of manner buffered (8 * x.bytes) g i operation sts numbers)
      meets_by (Waits n) true operation fits = record {
        found = refl;
        shows = record { mapped = shows.mapped; small = shows.small; spelled = shows.spelled };
        mine = subst (λ (es : List Entry). AreStores globals es (sts ++ record { global = g; element = i; number = n } ∷ [])) (sym (place_same w.pending p (w.pending p ++ entry_of a x.bytes n ∷ [])))
            (one_more (w.pending p) sts (entry_of a x.bytes n) (record { global = g; element = i; number = n }) mine (store_is n fits));
        others = λ q h. place_other w.pending p q (w.pending p ++ entry_of a x.bytes n ∷ []) h;
      }
      meets_by (Waits n) false operation fits = record {
        found = refl;
        shows = wrote_shows w numbers shows (entry_of a x.bytes n) (record { global = g; element = i; number = n }) (store_is n fits);
        mine = mine;
        others = λ q h. refl;
      }
      meets_by Looks buffered operation fits = record {
        found = ap (λ (f : ℕ → Bool). number_at (λ b. storage.newest (f b) (w.pending p) b (w.mem b)) a x.bytes) shows.mapped ∙ finds (w.pending p) sts w.mem numbers shows.spelled mine g i x there within;
        shows = shows;
        mine = mine;
        others = λ q h. refl;
      }
      meets_by Drains buffered operation fits =
          let old = number_at out.mem a x.bytes in
          let o = stored_by operation (8 * x.bytes) old in
          let o_is : o ≡ stored_by operation (8 * x.bytes) (written_out sts numbers g i) = ap (stored_by operation (8 * x.bytes)) out_found in
          record {
            found = out_found;
            shows = subst (λ (q : Option ℕ). Shows (shared_replaced a x.bytes o out) (set_if q g i (written_out sts numbers))) o_is (store_if_shows o (stored_small operation fits old found_small));
            mine = subst (λ (f : ℕ → List Entry). AreStores globals (f p) []) (sym (replaced_pending o)) out_mine;
            others = λ q h. ap (λ (f : ℕ → List Entry). f q) (replaced_pending o) ∙ out_others q h;
          }

      pub meets : (operation : ObjectOperation) (waits buffered : Bool) → Stores (8 * x.bytes) operation
          → Meets p w (met_by (manner_of_native operation waits) buffered p a x.bytes operation w) (effect_of (manner_of_native operation waits) buffered (8 * x.bytes) g i operation sts numbers)
      meets operation waits buffered fits = meets_by (manner_of_native operation waits) buffered operation (mannered operation waits fits)

      -- what is found is of the element's size
      pub met_small : (manner : Manner) (buffered : Bool) (operation : ObjectOperation) → (met_by manner buffered p a x.bytes operation w).found < 2 ^ (8 * x.bytes)
      met_small (Waits n) buffered operation = Rattle.std.proofs.lemmas.Nat.pow_pos (8 * x.bytes)
      met_small Looks buffered operation = number_small (λ b. storage.newest (w.inside b) (w.pending p) b (w.mem b)) (λ b. newest_small (w.inside b) (w.pending p) b (w.mem b) (shows.small b)) a x.bytes
        where
          newest_small : (t : Bool) (es : List Entry) (b v : ℕ) → v < 2 ^ 8 → storage.newest t es b v < 2 ^ 8
          newest_small t [] b v h = h
          newest_small t (e ∷ es) b v h = newest_small t es b (storage.byte_after t e b v) (by (covers e.address e.bytes b && t))
            where
              by : (c : Bool) → (if c then byte_of e.value (b - e.address) else v) < 2 ^ 8
              by true = omega arith
              by false = h
      met_small Drains buffered operation = found_small
