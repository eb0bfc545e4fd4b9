-- What all share, as stores and drains leave it.
use Rattle.std.proofs.Common.{◌≡◌, ℕ, ◌+◌, ◌-◌, ◌<◌, ◌≤◌, Bool, true, false, List, [], ◌∷◌, ◌++◌, Option, Some, None, refl, sym, ap, ◌∙◌, subst, inl, ⊎_elim, arith}
use Rattle.std.specs.Prelude.{◌&&◌, if◌then◌else◌}
use Rattle.std.proofs.lemmas.Bool.{cases_eq}
use Rattle.std.proofs.lemmas.Bool.Decides.{nat_tests}
use Rattle.ax_store.specs.declared.entry.Entry.{Entry}
use Rattle.ax_map.specs.Map.{covers}
use Rattle.ax_store.specs.Bytes.{number_at, byte_of, put}
use Rattle.ax_store.specs.Storage.{at_place, entry_of, with_waiting}
use Rattle.ax_store.proofs.Numbers.{number_same}
use Rattle.ax_isa.specs.Past.{Noted, with_storage, write, store, drain, drain_first}
use Rattle.ax_isa.specs.Steps.{replace}
use Rattle.ax_isa.proofs.Functions.{at_same, at_other}
use Rattle.ax_follow.specs.Contract.{MayWrite, FairEntry, Fair}
use Rattle.ax_follow.proofs.Quiet.{put_other}
use Rattle.ax_expand.specs.Shared.{IsBelow, Shared, is_shared, masked, counts, shared_only, shared_wrote, shared_replaced, with_pending, shared_store, drain_of, shared_drained, Object, Sees}

-- masking twice is masking once
mask_put : (inside : ℕ → Bool) (a n v : ℕ) (f : ℕ → ℕ) → masked (put inside a n v f) ≡ masked (put inside a n v (masked f))
mask_put inside a n v f = λ d b. go b (is_shared b) refl d
  where
    go : (b : ℕ) (t : Bool) → is_shared b ≡ t → masked (put inside a n v f) b ≡ masked (put inside a n v (masked f)) b
    go b true e =
        let same : f b ≡ masked f b = sym (ap (λ t. if t then f b else 0) e) in
        ap (λ y. if is_shared b then (if covers a n b && inside b then byte_of v (b - a) else y) else 0) same
    go b false e = ap (λ t. if t then put inside a n v f b else 0) e ∙ sym (ap (λ t. if t then put inside a n v (masked f) b else 0) e)

-- a write to bytes that nobody shares
pub mask_away : (inside : ℕ → Bool) (a n v : ℕ) (f : ℕ → ℕ) → is_shared a ≡ false → masked (put inside a n v f) ≡ masked f
mask_away inside a n v f e = λ d b. go b (is_shared b) refl d
  where
    go : (b : ℕ) (t : Bool) → is_shared b ≡ t → masked (put inside a n v f) b ≡ masked f b
    go b true s =
        let away : covers a n b ≡ false = grind (arith, nat_tests, e, s) in
        ap (λ y. if is_shared b then y else 0) (put_other inside a n v f b away)
    go b false s = ap (λ t. if t then put inside a n v f b else 0) s ∙ sym (ap (λ t. if t then f b else 0) s)

-- a write that others see
pub sees_write : (p : ℕ) (e : Entry) (n : Noted) (w : Shared) → Sees n.storage w → Sees (write p e n).storage (shared_wrote e w)
sees_write p e n w h =
    record {
      inside = h.inside;
      mem = mask_put n.storage.inside e.address e.bytes e.value n.storage.mem ∙ ap (λ f. masked (put f e.address e.bytes e.value (masked n.storage.mem))) h.inside ∙ ap (λ f. masked (put w.inside e.address e.bytes e.value f)) h.mem;
      pending = h.pending;
    }

-- and one that they don't
pub hides_write : (p : ℕ) (e : Entry) (n : Noted) (w : Shared) → counts e ≡ false → Sees n.storage w → Sees (write p e n).storage w
hides_write p e n w c h = record { inside = h.inside; mem = mask_away n.storage.inside e.address e.bytes e.value n.storage.mem c ∙ h.mem; pending = h.pending }

shared_append : (e : Entry) (es : List Entry) → counts e ≡ true → shared_only (es ++ e ∷ []) ≡ shared_only es ++ e ∷ []
shared_append e [] c = ap (λ t. if t then e ∷ [] else []) c
shared_append e (x ∷ xs) c = go (counts x) (shared_append e xs c)
  where
    go : (t : Bool) → shared_only (xs ++ e ∷ []) ≡ shared_only xs ++ e ∷ [] → (if t then x ∷ shared_only (xs ++ e ∷ []) else shared_only (xs ++ e ∷ [])) ≡ (if t then x ∷ shared_only xs else shared_only xs) ++ e ∷ []
    go true rest = ap (λ ys. x ∷ ys) rest
    go false rest = rest

-- a store that nobody else knows of
pub hidden : (e : Entry) (es : List Entry) → counts e ≡ false → shared_only (es ++ e ∷ []) ≡ shared_only es
hidden e [] c = ap (λ t. if t then e ∷ [] else []) c
hidden e (x ∷ xs) c = ap (λ ys. if counts x then x ∷ ys else ys) (hidden e xs c)

-- what waits of p after its list is another
pending_with : (p : ℕ) (es ys : List Entry) (n : Noted) (w : Shared) → Sees n.storage w → shared_only es ≡ ys → (q : ℕ) → shared_only (at_place n.storage.waiting p es q) ≡ at_place w.pending p ys q
pending_with p es ys n w h e q =
    ⊎_elim (λ same. subst (λ y. shared_only (at_place n.storage.waiting p es y) ≡ at_place w.pending p ys y) (sym same) (ap shared_only (at_same n.storage.waiting p es) ∙ e ∙ sym (at_same w.pending p ys))) (λ ne. ap shared_only (at_other n.storage.waiting p es q ne) ∙ h.pending q ∙ sym (at_other w.pending p ys q ne)) (cases_eq q p)

pub sees_waiting : (p : ℕ) (es ys : List Entry) (n : Noted) (w : Shared) → Sees n.storage w → shared_only es ≡ ys → Sees (with_waiting p es n.storage) (with_pending p ys w)
sees_waiting p es ys n w h e = record { inside = h.inside; mem = h.mem; pending = pending_with p es ys n w h e }

-- what a locked access leaves
pub sees_replace : (p a bytes : ℕ) (v : Option ℕ) (n : Noted) (w : Shared) → Sees n.storage w → Sees (replace p a bytes v n).storage (shared_replaced a bytes v w)
sees_replace p a bytes None n w h = h
sees_replace p a bytes (Some v) n w h = sees_write p (entry_of a bytes v) n w h

-- a store, on either kind of machine
pub sees_store : (b : Bool) (p : ℕ) (e : Entry) (n : Noted) (w : Shared) → counts e ≡ true → Sees n.storage w → Sees (store b p e n).storage (shared_store b p e w)
sees_store true p e n w c h = sees_waiting p (n.storage.waiting p ++ e ∷ []) (w.pending p ++ e ∷ []) n w h (shared_append e (n.storage.waiting p) c ∙ ap (λ ys. ys ++ e ∷ []) (h.pending p))
sees_store false p e n w c h = sees_write p e n w h

-- p's oldest store goes to memory
pub sees_drain : (p : ℕ) (n : Noted) (w : Shared) (e : Entry) (es : List Entry) → n.storage.waiting p ≡ e ∷ es → counts e ≡ true → Sees n.storage w → Sees (drain p n).storage (shared_drained p w)
sees_drain p n w e es is c h =
    let pending : w.pending p ≡ e ∷ shared_only es = sym (h.pending p) ∙ ap shared_only is ∙ ap (λ t. if t then e ∷ shared_only es else shared_only es) c in
    let one : Sees (drain_first p (e ∷ es) n).storage (drain_of p (e ∷ shared_only es) w) = sees_write p e (with_storage (with_waiting p es n.storage) n) (with_pending p (shared_only es) w) (sees_waiting p es (shared_only es) n w h refl) in
    subst (λ ys. Sees (drain p n).storage (drain_of p ys w)) (sym pending) (subst (λ ys. Sees (drain_first p ys n).storage (drain_of p (e ∷ shared_only es) w)) (sym is) one)

pub hides_drain : (p : ℕ) (n : Noted) (w : Shared) (e : Entry) (es : List Entry) → n.storage.waiting p ≡ e ∷ es → counts e ≡ false → Sees n.storage w → Sees (drain p n).storage w
hides_drain p n w e es is c h =
    let pending : shared_only es ≡ w.pending p = sym (ap (λ t. if t then e ∷ shared_only es else shared_only es) c) ∙ sym (ap shared_only is) ∙ h.pending p in
    let less : Sees (with_waiting p es n.storage) w = record {
      inside = h.inside;
      mem = h.mem;
      pending = λ q. ⊎_elim (λ same. subst (λ y. shared_only (at_place n.storage.waiting p es y) ≡ w.pending y) (sym same) (ap shared_only (at_same n.storage.waiting p es) ∙ pending)) (λ ne. ap shared_only (at_other n.storage.waiting p es q ne) ∙ h.pending q) (cases_eq q p);
    } in
    subst (λ ys. Sees (drain_first p ys n).storage w) (sym is) (hides_write p e (with_storage (with_waiting p es n.storage) n) w c less)

-- a number that all share
pub shared_number : (f : ℕ → ℕ) (a n : ℕ) → IsBelow a n → number_at f a n ≡ number_at (masked f) a n
shared_number f a n h = number_same f (masked f) a n (λ i lt. let s : is_shared (a + i) ≡ true = grind (arith, nat_tests, h, lt) in sym (ap (λ t. if t then f (a + i) else 0) s))

pub shared_address : (a n : ℕ) → 1 ≤ n → IsBelow a n → is_shared a ≡ true
shared_address a n some h = grind (arith, nat_tests, some, h)

-- a store to shared bytes is fair
pub fair_entry : (p a n v : ℕ) → IsBelow a n → FairEntry p (record { address = a; bytes = n; value = v })
fair_entry p a n v h = record { bytes = λ b c. inl (let lt : b < a + n = within b c in omega (arith, lt, h)) }
  where
    within : (b : ℕ) → covers a n b ≡ true → b < a + n
    within b c = grind (arith, nat_tests, c)

pub fair_append : (p : ℕ) (e : Entry) (es : List Entry) → Fair p es → FairEntry p e → Fair p (es ++ e ∷ [])
fair_append p e [] h f = (f, tt)
fair_append p e (x ∷ xs) h f = (h.0, fair_append p e xs h.1 f)

-- an object's number, and its place below the frames
pub object_number : (n : Noted) (a bytes : ℕ) (w : Shared) → Sees n.storage w → Object a bytes w → number_at n.storage.mem a bytes ≡ number_at w.mem a bytes
object_number n a bytes w h o = shared_number n.storage.mem a bytes o.below ∙ ap (λ f. number_at f a bytes) h.mem

pub object_shared : (a bytes : ℕ) (w : Shared) → Object a bytes w → is_shared a ≡ true
object_shared a bytes w o = shared_address a bytes o.some o.below

-- a write to shared bytes touches nobody's frame
pub put_fair : (p : ℕ) (inside : ℕ → Bool) (a n v : ℕ) (f : ℕ → ℕ) → IsBelow a n → (b : ℕ) → ¬ MayWrite p b → put inside a n v f b ≡ f b
put_fair p inside a n v f h b not_mine = go (covers a n b) refl
  where
    go : (t : Bool) → covers a n b ≡ t → put inside a n v f b ≡ f b
    go true c = absurd (not_mine ((fair_entry p a n v h).bytes b c))
    go false c = put_other inside a n v f b c
