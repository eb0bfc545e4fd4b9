-- Loops that read a number from its highest byte down.
use Rattle.std.proofs.Common.{◌≡◌, Option, Bool, List, [], ◌∷◌, length, refl, ◌+◌, ◌-◌, ◌*◌, ◌<◌, ◌≤◌, ◌^◌, ℕ, sym, ap, ◌∙◌, subst, arith}
use Rattle.ax_store.specs.Bytes.{IsWidth, number_at}
use Rattle.ax_store.specs.Buffers.{latest}
use Rattle.ax_store.specs.declared.entry.Entry.{Entry}
use Rattle.ax_store.specs.Storage.{Storage, load, newest, seen}
use Rattle.ax_store.specs.Store.{byte_over}
use Rattle.ax_store.proofs.BufferLemmas.{newest_latest}
use Rattle.ax_store.proofs.Numbers.{number_same, number_more, number_room, bytes_fit}

-- the bytes from i on are read
pub record Sofar (f : ℕ → ℕ) (a i n value : ℕ) : Type 0 where
  pub within : i ≤ n
  pub number : value ≡ number_at f (a + i) (n - i)
  pub small : value < 2 ^ (8 * (n - i))

-- the byte below
pub below : (f : ℕ → ℕ) (a i n v b : ℕ) → 0 < i → i ≤ n → v ≡ number_at f (a + i) (n - i) → v < 2 ^ (8 * (n - i)) → b ≡ f (a + (i - 1)) → b < 256 → Sofar f a (i - 1) n (v * 256 + b)
below f a i n v b pos within number small e byte =
    let k : i ≡ i - 1 + 1 = omega arith in
    let s : v < 2 ^ (8 * (n - (i - 1 + 1))) = subst (λ j. v < 2 ^ (8 * (n - j))) k small in
    let m : v ≡ number_at f (a + (i - 1 + 1)) (n - (i - 1 + 1)) = number ∙ ap (λ j. number_at f (a + j) (n - j)) k in
    let step = number_more f a n (i - 1) (omega arith) in
    record {
      within = omega arith;
      number = (let r : v * 256 + b ≡ f (a + (i - 1)) + 256 * number_at f (a + (i - 1 + 1)) (n - (i - 1 + 1)) = omega arith in r) ∙ sym step;
      small = number_room n (i - 1) v b (omega arith) s byte;
    }

pub fit : (i n v b : ℕ) → n ≤ 16 → 0 < i → i ≤ n → v < 2 ^ (8 * (n - i)) → b < 256 → v * 256 + b < 2 ^ 128
fit i n v b h pos within small byte =
    let k : i ≡ i - 1 + 1 = omega arith in
    let s : v < 2 ^ (8 * (n - (i - 1 + 1))) = subst (λ j. v < 2 ^ (8 * (n - j))) k small in
    bytes_fit n (n - (i - 1)) (v * 256 + b) h (omega arith) (number_room n (i - 1) v b (omega arith) s byte)

pub width_le : (n : ℕ) → IsWidth n → n ≤ 16
width_le n h = grind arith

-- a byte by what its processor's buffer has for it
pub seen_byte : (p b v : ℕ) (own : Option ℕ) (st : Storage) → own ≡ latest (st.waiting p) b → v ≡ byte_over st own b → v ≡ seen p st b
seen_byte p b v own st found is = is ∙ ap (λ o. byte_over st o b) found ∙ sym (newest_latest (st.inside b) (st.waiting p) b (st.mem b))

-- where no store waits
seen_none : (es : List Entry) (i : Bool) (b v : ℕ) → length es ≡ 0 → newest i es b v ≡ v
seen_none [] i b v h = refl
seen_none (e ∷ es) i b v h = absurd (omega arith)

pub load_none : (p a n : ℕ) (st : Storage) → 0 ≡ length (st.waiting p) → number_at st.mem a n ≡ load p a n st
load_none p a n st h = number_same st.mem (seen p st) a n (λ i l. sym (seen_none (st.waiting p) (st.inside (a + i)) (a + i) (st.mem (a + i)) (sym h)))
