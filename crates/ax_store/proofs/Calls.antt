-- What callers need of the storage's steps.
use Rattle.std.proofs.Common.{◌≡◌, ℕ, zero, suc, ◌+◌, ◌-◌, ◌*◌, ◌^◌, ◌<◌, ◌≤◌, Bool, true, false, List, [], ◌∷◌, ◌++◌, refl, sym, ap, ◌∙◌, arith}
use Rattle.std.specs.Prelude.{◌&&◌, if◌then◌else◌}
use Rattle.std.proofs.Math.Nat.{mod-mod}
use Rattle.std.proofs.lemmas.Bool.{false≢true}
use Rattle.std.proofs.lemmas.Bool.Decides.{nat_tests}
use Rattle.ax_store.specs.declared.entry.Entry.{Entry}
use Rattle.ax_map.specs.Map.{covers}
use Rattle.ax_store.specs.Bytes.{all_inside, byte_of, cut, number_at, put, written}
use Rattle.ax_store.specs.Storage.{Storage, at_place, byte_after, drain_one, drained, entry_of, flushed, load, newest, seen, stored, with_waiting, wrote, wrote_all}
use Rattle.ax_store.proofs.Steps.{place_same}
use Rattle.ax_store.proofs.Numbers.{number_written}

both_true : (a b : Bool) → (a && b) ≡ true → (a ≡ true) × (b ≡ true)
both_true true b h = (refl, h)
both_true false b h = absurd (false≢true h)

-- each byte of an access that is inside
pub inside_at : (f : ℕ → Bool) (a n i : ℕ) → all_inside f a n ≡ true → i < n → f (a + i) ≡ true
inside_at f a zero i h l = absurd (omega arith)
inside_at f a (suc n) zero h l = (let e : a + 0 ≡ a = omega arith in ap f e) ∙ (both_true (f a) (all_inside f (a + 1) n) h).0
inside_at f a (suc n) (suc i) h l = (let e : a + suc i ≡ a + 1 + i = omega arith in ap f e) ∙ inside_at f (a + 1) n i (both_true (f a) (all_inside f (a + 1) n) h).1 (omega arith)

pub inside_all : (f : ℕ → Bool) (a n : ℕ) → ((i : ℕ) → i < n → f (a + i) ≡ true) → all_inside f a n ≡ true
inside_all f a zero h = refl
inside_all f a (suc n) h =
    let first : f a ≡ true = (let e : a ≡ a + 0 = omega arith in ap f e ∙ h 0 (omega arith)) in
    ap (λ t. t && all_inside f (a + 1) n) first ∙ inside_all f (a + 1) n (λ i l. (let e : a + 1 + i ≡ a + (i + 1) = omega arith in ap f e) ∙ h (i + 1) (omega arith))

-- A WRITE THAT IS INSIDE IS A PLAIN WRITE
pub put_written : (inside : ℕ → Bool) (a n v : ℕ) (f : ℕ → ℕ) → all_inside inside a n ≡ true → put inside a n v f ≡ written f a n v
put_written inside a n v f h = λ d b. at b d
  where
    here : (b : ℕ) → a ≤ b → b < a + n → inside b ≡ true
    here b g l = let e : a + (b - a) ≡ b = omega arith in sym (ap inside e) ∙ inside_at inside a n (b - a) h (omega arith)

    at : (b : ℕ) → put inside a n v f b ≡ written f a n v b
    at b = grind (arith, nat_tests, here)

-- one more entry, at the end
pub newest_last : (t : Bool) (es : List Entry) (e : Entry) (b v : ℕ) → newest t (es ++ e ∷ []) b v ≡ byte_after t e b (newest t es b v)
newest_last t [] e b v = refl
newest_last t (x ∷ es) e b v = newest_last t es e b (byte_after t x b v)

-- bytes stay below 2 ^ 8
pub put_small : (inside : ℕ → Bool) (a n v : ℕ) (f : ℕ → ℕ) → ((b : ℕ) → f b < 2 ^ 8) → (b : ℕ) → put inside a n v f b < 2 ^ 8
put_small inside a n v f h b = at (covers a n b && inside b)
  where
    byte : byte_of v (b - a) < 2 ^ 8
    byte = omega arith

    at : (t : Bool) → (if t then byte_of v (b - a) else f b) < 2 ^ 8
    at true = byte
    at false = h b

-- A STORE AS ITS PROCESSOR SEES IT
pub seen_stored : (p a n v : ℕ) (st : Storage) → seen p (stored true p a n v st) ≡ put st.inside a n (cut n v) (seen p st)
seen_stored p a n v st = λ d b. at b d
  where
    at : (b : ℕ) → seen p (stored true p a n v st) b ≡ put st.inside a n (cut n v) (seen p st) b
    at b = ap (λ es. newest (st.inside b) es b (st.mem b)) (place_same st.waiting p (st.waiting p ++ entry_of a n v ∷ [])) ∙ newest_last (st.inside b) (st.waiting p) (entry_of a n v) b (st.mem b)

pub load_stored : (p a n v : ℕ) (st : Storage) → all_inside st.inside a n ≡ true → load p a n (stored true p a n v st) ≡ cut n v
load_stored p a n v st h =
    ap (λ f. number_at f a n) (seen_stored p a n v st ∙ put_written st.inside a n (cut n v) (seen p st) h)
    ∙ number_written (seen p st) a n (cut n v) ∙ mod-mod v (2 ^ (8 * n))

-- AN OWN DRAIN CHANGES NOTHING THAT ITS PROCESSOR SEES
drain_one_seen : (p : ℕ) (es : List Entry) (st : Storage) → st.waiting p ≡ es → seen p (drain_one p es st) ≡ seen p st
drain_one_seen p [] st e = refl
drain_one_seen p (x ∷ es) st e = λ d b. at b d
  where
    at : (b : ℕ) → seen p (drain_one p (x ∷ es) st) b ≡ seen p st b
    at b = ap (λ ws. newest (st.inside b) ws b (byte_after (st.inside b) x b (st.mem b))) (place_same st.waiting p es) ∙ sym (ap (λ ws. newest (st.inside b) ws b (st.mem b)) e)

pub drain_seen : (p : ℕ) (st : Storage) → seen p (drained p st) ≡ seen p st
drain_seen p st = drain_one_seen p (st.waiting p) st refl

-- NOTHING WAITS: MEMORY IS SEEN
pub seen_none : (p : ℕ) (st : Storage) → st.waiting p ≡ [] → seen p st ≡ st.mem
seen_none p st e = λ d b. at b d
  where
    at : (b : ℕ) → seen p st b ≡ st.mem b
    at b = ap (λ es. newest (st.inside b) es b (st.mem b)) e

pub load_none : (p a n : ℕ) (st : Storage) → st.waiting p ≡ [] → load p a n st ≡ number_at st.mem a n
load_none p a n st e = ap (λ f. number_at f a n) (seen_none p st e)

-- A FLUSH MAKES MEMORY WHAT ITS PROCESSOR SAW
written_all : (p b : ℕ) (es : List Entry) (st : Storage) → (wrote_all p es st).mem b ≡ newest (st.inside b) es b (st.mem b)
written_all p b [] st = refl
written_all p b (e ∷ es) st = written_all p b es (wrote p e st)

pub flush_mem : (p : ℕ) (st : Storage) → (flushed p st).mem ≡ seen p st
flush_mem p st = λ d b. written_all p b (st.waiting p) (with_waiting p [] st) d

pub flush_waiting : (p : ℕ) (st : Storage) → (flushed p st).waiting ≡ at_place st.waiting p []
flush_waiting p st = kept (st.waiting p) (with_waiting p [] st)
  where
    kept : (es : List Entry) (s : Storage) → (wrote_all p es s).waiting ≡ s.waiting
    kept [] s = refl
    kept (e ∷ es) s = kept es (wrote p e s)
