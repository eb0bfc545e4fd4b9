-- What a processor sees of its frame.
use Rattle.std.proofs.Common.{◌≡◌, ℕ, zero, suc, ◌+◌, ◌-◌, ◌<◌, ◌≤◌, Bool, true, false, List, [], ◌∷◌, ◌++◌, refl, sym, ap, ◌∙◌, arith}
use Rattle.std.specs.Prelude.{◌&&◌, if◌then◌else◌}
use Rattle.std.proofs.lemmas.Bool.{false≢true}
use Rattle.std.proofs.lemmas.Bool.Decides.{nat_tests}
use Rattle.ax_store.specs.declared.entry.Entry.{Entry}
use Rattle.ax_map.specs.Map.{covers}
use Rattle.ax_store.specs.Bytes.{number_at, byte_of, put, written, all_inside}
use Rattle.ax_store.specs.Storage.{newest, byte_after, seen, load}
use Rattle.ax_store.proofs.Numbers.{number_same}
use Rattle.ax_isa.specs.Past.{Noted, drain, drain_first, store, write}
use Rattle.ax_follow.specs.Contract.{IsOwn, ByOthers}
use Rattle.ax_isa.proofs.Functions.{at_same}
use Rattle.ax_follow.proofs.Quiet.{put_other}
use Rattle.ax_expand.specs.Private.{Spells}
use Rattle.ax_expand.specs.Shared.{IsBelow}

-- it is as before when the oldest store goes to memory
pub seen_drain : (p b : ℕ) (n : Noted) → seen p (drain p n).storage b ≡ seen p n.storage b
seen_drain p b n = go (n.storage.waiting p) refl
  where
    go : (es : List Entry) → n.storage.waiting p ≡ es → seen p (drain_first p es n).storage b ≡ newest (n.storage.inside b) es b (n.storage.mem b)
    go [] e = ap (λ ys. newest (n.storage.inside b) ys b (n.storage.mem b)) e
    go (x ∷ xs) e = ap (λ ys. newest (n.storage.inside b) ys b (put n.storage.inside x.address x.bytes x.value n.storage.mem b)) (at_same n.storage.waiting p xs)

-- and when others change what is theirs
pub seen_others : (p b : ℕ) (n new : Noted) → IsOwn p b → ByOthers p n new → seen p new.storage b ≡ seen p n.storage b
seen_others p b n new mine y =
    ap (λ f. newest (f b) (new.storage.waiting p) b (new.storage.mem b)) y.inside ∙ ap (λ es. newest (n.storage.inside b) es b (new.storage.mem b)) y.waiting ∙ ap (λ m. newest (n.storage.inside b) (n.storage.waiting p) b m) (y.own b mine)

pub spells_drain : (p : ℕ) (n : Noted) (f : ℕ → ℕ) → Spells p n f → Spells p (drain p n) f
spells_drain p n f h = λ b mine. seen_drain p b n ∙ h b mine

pub spells_others : (p : ℕ) (n new : Noted) (f : ℕ → ℕ) → ByOthers p n new → Spells p n f → Spells p new f
spells_others p n new f y h = λ b mine. seen_others p b n new mine y ∙ h b mine

newest_last : (inside : Bool) (es : List Entry) (e : Entry) (b v : ℕ) → newest inside (es ++ e ∷ []) b v ≡ byte_after inside e b (newest inside es b v)
newest_last inside [] e b v = refl
newest_last inside (x ∷ xs) e b v = newest_last inside xs e b (byte_after inside x b v)

-- what a processor sees after its own store, on either kind of machine
pub seen_store : (buffered : Bool) (p : ℕ) (e : Entry) (n : Noted) (b : ℕ) → (buffered ≡ false → n.storage.waiting p ≡ []) → seen p (store buffered p e n).storage b ≡ put n.storage.inside e.address e.bytes e.value (seen p n.storage) b
seen_store true p e n b flat = ap (λ ys. newest (n.storage.inside b) ys b (n.storage.mem b)) (at_same n.storage.waiting p (n.storage.waiting p ++ e ∷ [])) ∙ newest_last (n.storage.inside b) (n.storage.waiting p) e b (n.storage.mem b)
seen_store false p e n b flat =
    ap (λ ys. newest (n.storage.inside b) ys b (put n.storage.inside e.address e.bytes e.value n.storage.mem b)) (flat refl)
    ∙ ap (λ (z : List Entry). put n.storage.inside e.address e.bytes e.value (λ d. newest (n.storage.inside d) z d (n.storage.mem d)) b) (sym (flat refl))

-- a number that it loads
pub load_spelt : (p a k : ℕ) (n : Noted) (f : ℕ → ℕ) → ((i : ℕ) → i < k → IsOwn p (a + i)) → Spells p n f → load p a k n.storage ≡ number_at f a k
load_spelt p a k n f mine h = number_same (seen p n.storage) f a k (λ i lt. h (a + i) (mine i lt))

pub inside_at : (f : ℕ → Bool) (a n : ℕ) → all_inside f a n ≡ true → (i : ℕ) → i < n → f (a + i) ≡ true
inside_at f a zero h i lt = absurd (omega (arith, lt))
inside_at f a (suc n) h zero lt = go (f a) refl h
  where
    go : (t : Bool) → f a ≡ t → (t && all_inside f (a + 1) n) ≡ true → f (a + 0) ≡ true
    go true e h = let q : a + 0 ≡ a = omega arith in ap f q ∙ e
    go false e h = absurd (false≢true h)
inside_at f a (suc n) h (suc i) lt = go (f a) h (inside_at f (a + 1) n)
  where
    go : (t : Bool) → (t && all_inside f (a + 1) n) ≡ true → (all_inside f (a + 1) n ≡ true → (k : ℕ) → k < n → f (a + 1 + k) ≡ true) → f (a + suc i) ≡ true
    go true h rest = let q : a + suc i ≡ a + 1 + i = omega arith in ap f q ∙ rest h i (omega (arith, lt))
    go false h rest = absurd (false≢true h)

-- where one test holds, another does
pub all_more : (f g : ℕ → Bool) (a n : ℕ) → ((b : ℕ) → f b ≡ true → g b ≡ true) → all_inside f a n ≡ true → all_inside g a n ≡ true
all_more f g a zero more h = refl
all_more f g a (suc n) more h = go (f a) refl h (all_more f g (a + 1) n more)
  where
    go : (t : Bool) → f a ≡ t → (t && all_inside f (a + 1) n) ≡ true → (all_inside f (a + 1) n ≡ true → all_inside g (a + 1) n ≡ true) → (g a && all_inside g (a + 1) n) ≡ true
    go true e h rest = ap (λ t. t && all_inside g (a + 1) n) (more a e) ∙ rest h
    go false e h rest = absurd (false≢true h)

-- a byte that an access covers is one of its bytes
pub covered_at : (a n b : ℕ) → covers a n b ≡ true → (a ≤ b) × (b < a + n)
covered_at a n b c = (grind (arith, nat_tests, c), grind (arith, nat_tests, c))

-- all of a store's bytes are inside: it is a write
pub put_written : (inside : ℕ → Bool) (a n v : ℕ) (f : ℕ → ℕ) (b : ℕ) → all_inside inside a n ≡ true → put inside a n v f b ≡ written f a n v b
put_written inside a n v f b all = go (covers a n b) refl
  where
    go : (t : Bool) → covers a n b ≡ t → (if t && inside b then byte_of v (b - a) else f b) ≡ (if t then byte_of v (b - a) else f b)
    go false c = refl
    go true c =
        let z = covered_at a n b c in
        let is : a + (b - a) ≡ b = let lo = z.0 in omega (arith, lo) in
        let here : inside b ≡ true = ap inside (sym is) ∙ inside_at inside a n all (b - a) (let lo = z.0 in let hi = z.1 in omega (arith, lo, hi)) in
        ap (λ t. if t then byte_of v (b - a) else f b) here

-- no byte of a frame is in an access below the frames
pub frame_apart : (p a n b : ℕ) → IsBelow a n → IsOwn p b → covers a n b ≡ false
frame_apart p a n b low mine = go (covers a n b) refl
  where
    go : (t : Bool) → covers a n b ≡ t → covers a n b ≡ false
    go true c = absurd (let z = covered_at a n b c in let hi = z.1 in let lo = mine.0 in omega (arith, hi, lo, low))
    go false c = c

-- a write to shared bytes leaves what it sees of its frame
pub seen_write : (p : ℕ) (e : Entry) (n : Noted) (b : ℕ) → IsBelow e.address e.bytes → IsOwn p b → seen p (write p e n).storage b ≡ seen p n.storage b
seen_write p e n b low mine = ap (λ v. newest (n.storage.inside b) (n.storage.waiting p) b v) (put_other n.storage.inside e.address e.bytes e.value n.storage.mem b (frame_apart p e.address e.bytes b low mine))

pub spells_write : (p : ℕ) (e : Entry) (n : Noted) (f : ℕ → ℕ) → IsBelow e.address e.bytes → Spells p n f → Spells p (write p e n) f
spells_write p e n f low h = λ b mine. seen_write p e n b low mine ∙ h b mine

-- and so does a store there, on either kind of machine
pub seen_stored : (buffered : Bool) (p : ℕ) (e : Entry) (n : Noted) (b : ℕ) → (buffered ≡ false → n.storage.waiting p ≡ []) → IsBelow e.address e.bytes → IsOwn p b → seen p (store buffered p e n).storage b ≡ seen p n.storage b
seen_stored buffered p e n b flat low mine = seen_store buffered p e n b flat ∙ put_other n.storage.inside e.address e.bytes e.value (seen p n.storage) b (frame_apart p e.address e.bytes b low mine)
