-- What a scan of a buffer from its newest entry down has found.
use Rattle.std.proofs.Common.{◌≡◌, ℕ, zero, suc, ◌+◌, ◌-◌, ◌<◌, ◌≤◌, Bool, true, false, List, [], ◌∷◌, Option, Some, None, length, drop, refl, sym, ap, ◌∙◌, subst, arith}
use Rattle.std.specs.Prelude.{◌&&◌, IsSome, nat_lt, if◌then◌else◌, slice_index_or, unwrap_or}
use Rattle.std.specs.Option.{option_or}
use Rattle.std.proofs.lemmas.Bool.{false≢true}
use Rattle.std.proofs.lemmas.Bool.Decides.{nat_tests}
use Rattle.ax_store.specs.declared.entry.Entry.{Entry}
use Rattle.ax_store.specs.Buffers.{byte_from, latest}
use Rattle.ax_map.specs.Map.{covers}
use Rattle.ax_store.specs.Bytes.{byte_of}
use Rattle.ax_store.specs.Storage.{byte_after, newest}

or_some : {A : Type 0} (x y : Option A) → IsSome x → option_or x y ≡ x
or_some (Some v) y h = refl
or_some None y h = absurd (false≢true h)

or_none : {A : Type 0} (x : Option A) → option_or x None ≡ x
or_none (Some v) = refl
or_none None = refl

-- one entry further down
latest_drop : (es : List Entry) (j : ℕ) (e : Entry) (b : ℕ) → j < length es → e ≡ slice_index_or es j e → latest (drop j es) b ≡ option_or (latest (drop (suc j) es) b) (byte_from e b)
latest_drop [] j e b h same = absurd (omega arith)
latest_drop (x ∷ es) zero e b h same = ap (λ y. option_or (latest es b) (byte_from y b)) (sym same)
latest_drop (x ∷ es) (suc j) e b h same = latest_drop es j e b (omega arith) same

pub latest_below : (es : List Entry) (k : ℕ) (e : Entry) (b : ℕ) (x y : Option ℕ) → 0 < k → k ≤ length es → e ≡ slice_index_or es (k - 1) e → x ≡ latest (drop k es) b → y ≡ option_or x (byte_from e b) → y ≡ latest (drop (k - 1) es) b
latest_below es k e b x y pos within same older step =
    let up : k ≡ suc (k - 1) = omega arith in
    step ∙ ap (λ o. option_or o (byte_from e b)) (older ∙ ap (λ j. latest (drop j es) b) up) ∙ sym (latest_drop es (k - 1) e b (omega arith) same)

-- an entry that has none of the bytes changes nothing
apart : (e : Entry) (a n i : ℕ) → nat_lt e.address (a + n) && nat_lt a (e.address + e.bytes) ≡ false → i < n → byte_from e (a + i) ≡ None
apart e a n i h l = ap (λ t. if t then Some (byte_of e.value (a + i - e.address)) else None) (outside e.address e.bytes h)
  where
    outside : (f m : ℕ) → nat_lt f (a + n) && nat_lt a (f + m) ≡ false → covers f m (a + i) ≡ false
    outside f m g = grind (arith, nat_tests)

pub latest_apart : (es : List Entry) (k : ℕ) (e : Entry) (a n i : ℕ) (x : Option ℕ) → 0 < k → k ≤ length es → e ≡ slice_index_or es (k - 1) e → nat_lt e.address (a + n) && nat_lt a (e.address + e.bytes) ≡ false → i < n → x ≡ latest (drop k es) (a + i) → x ≡ latest (drop (k - 1) es) (a + i)
latest_apart es k e a n i x pos within same h l older =
    latest_below es k e (a + i) x x pos within same older (sym (ap (option_or x) (apart e a n i h l) ∙ or_none x))

-- what is found stays, whatever is older
latest_front : (es : List Entry) (k b : ℕ) → IsSome (latest (drop k es) b) → latest es b ≡ latest (drop k es) b
latest_front es zero b h = refl
latest_front [] (suc k) b h = refl
latest_front (e ∷ es) (suc k) b h =
    let down = latest_front es k b h in
    or_some (latest es b) (byte_from e b) (subst (λ o. IsSome o) (sym down) h) ∙ down

pub latest_found : (es : List Entry) (k b : ℕ) (x : Option ℕ) → x ≡ latest (drop k es) b → IsSome x → x ≡ latest es b
latest_found es k b x e h = e ∙ sym (latest_front es k b (subst (λ o. IsSome o) e h))

after_inside : (c : Bool) (w v : ℕ) → (if c && true then w else v) ≡ unwrap_or (if c then Some w else None) v
after_inside true w v = refl
after_inside false w v = refl

after_outside : (c : Bool) (w v : ℕ) → (if c && false then w else v) ≡ v
after_outside true w v = refl
after_outside false w v = refl

after_or : (e : Entry) (b v : ℕ) (x : Option ℕ) → unwrap_or x (byte_after true e b v) ≡ unwrap_or (option_or x (byte_from e b)) v
after_or e b v (Some w) = refl
after_or e b v None = after_inside (covers e.address e.bytes b) (byte_of e.value (b - e.address)) v

-- the newest byte is what the buffer has, else the byte of memory
pub newest_latest : (t : Bool) (es : List Entry) (b v : ℕ) → newest t es b v ≡ (if t then unwrap_or (latest es b) v else v)
newest_latest true [] b v = refl
newest_latest false [] b v = refl
newest_latest true (e ∷ es) b v = newest_latest true es b (byte_after true e b v) ∙ after_or e b v (latest es b)
newest_latest false (e ∷ es) b v = newest_latest false es b (byte_after false e b v) ∙ after_outside (covers e.address e.bytes b) (byte_of e.value (b - e.address)) v
