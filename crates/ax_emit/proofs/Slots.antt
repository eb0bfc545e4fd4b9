-- Slots of a frame: they lie in it, apart from one another and from the frame's bytes.
use Rattle.std.proofs.Common.{◌≡◌, ℕ, ◌+◌, ◌*◌, ◌%◌, ◌^◌, ◌<◌, ◌≤◌, true, refl, sym, ap, ◌∙◌, subst, inl, inr, ⊎_elim, arith, nat_le, nat_lt, Bool}
use Rattle.std.specs.Prelude.{◌⊎◌, ◌&&◌, nat_eq, suc, zero}
use Rattle.std.proofs.lemmas.Bool.{and_from, and_parts, cases_eq, cases_lt}
use Rattle.std.proofs.lemmas.Bool.Decides.{nat_tests}
use Rattle.ax_store.specs.Bytes.{number_at, cut, written, all_inside}
use Rattle.ax_store.specs.Storage.{at_place}
use Rattle.ax_store.proofs.Numbers.{number_same, number_written, written_below, written_above}
use Rattle.ax_isa.specs.Processor.{Processor}
use Rattle.ax_isa.proofs.Functions.{at_same, at_other}
use Rattle.ax_follow.specs.Contract.{IsOwn}
use Rattle.ax_mid.specs.Processor.{MidProcessor}
use Rattle.ax_expand.specs.Private.{Private, may_use}
use Rattle.ax_fine.specs.Fine.{Program, slot, Spelled, room_of, Sound}
use Rattle.ax_emit.specs.Table.{SlotAt}

-- a written number is read again, and what lies apart stays
pub read_same : (f : ℕ → ℕ) (a v : ℕ) → v < 2 ^ 64 → number_at (written f a 8 (cut 8 v)) a 8 ≡ v
read_same f a v small = number_written f a 8 (cut 8 v) ∙ (let e : v % 2 ^ 64 % 2 ^ 64 ≡ v = omega (arith, small) in e)

pub read_apart : (f : ℕ → ℕ) (a b n m v : ℕ) → (b + m ≤ a) ⊎ (a + n ≤ b) → number_at (written f a n v) b m ≡ number_at f b m
read_apart f a b n m v (inl h) = number_same (written f a n v) f b m (λ i lt. written_below f a n v (b + i) (omega (arith, lt, h)))
read_apart f a b n m v (inr h) = number_same (written f a n v) f b m (λ i lt. written_above f a n v (b + i) (omega (arith, lt, h)))

module _ {R W : Type 0} (m : Program R W) (sound : Sound m) (p : ℕ) where
  abbrev at : ℕ → ℕ
  at r = slot m.top p r

  pub slot_is : (r : ℕ) → r < m.count → at r + 8 * (r + 1) ≡ m.top p
  slot_is r h = let z = sound.slots in let d = sound.deep p in omega (arith, h, z, d)

  -- the frame's bytes lie below
  pub area_below : (r : ℕ) → r < m.count → m.base p + m.size ≤ at r
  area_below r h = let z = sound.slots in let d = sound.deep p in let e = slot_is r h in omega (arith, h, z, d, e)

  slot_low : (r : ℕ) → r < m.count → m.low p ≤ at r
  slot_low r h = let z = area_below r h in let y = sound.area p in omega (arith, z, y)

  room_at : (b : ℕ) → m.lives p ≡ true → m.low p ≤ b → b < m.top p → room_of m p b ≡ true
  room_at b lives lo hi = and_from (m.lives p) (nat_le (m.low p) b && nat_lt b (m.top p)) lives (grind (arith, nat_tests, lo, hi))

  pub room_is : (b : ℕ) → room_of m p b ≡ true → (m.low p ≤ b) × (b < m.top p)
  room_is b h = let w = (and_parts (m.lives p) (nat_le (m.low p) b && nat_lt b (m.top p)) h).1 in (grind (arith, nat_tests, w), grind (arith, nat_tests, w))

  pub room_lives : (b : ℕ) → room_of m p b ≡ true → m.lives p ≡ true
  room_lives b h = (and_parts (m.lives p) (nat_le (m.low p) b && nat_lt b (m.top p)) h).0

  pub room_own : (b : ℕ) → room_of m p b ≡ true → IsOwn p b
  room_own b h = let z = room_is b h in let hi = z.1 in sound.own p b (room_lives b h) z.0 (omega (arith, hi))

  -- the root lies above
  pub low_top : m.low p ≤ m.top p
  low_top = let lo = sound.area p in let d = sound.deep p in omega (arith, lo, d)

  pub slot_below : (r : ℕ) → r < m.count → at r + 8 ≤ m.top p
  slot_below r h = let e = slot_is r h in omega (arith, e)

  pub room_all : (a n : ℕ) → m.lives p ≡ true → m.low p ≤ a → a + n ≤ m.top p → all_inside (room_of m p) a n ≡ true
  room_all a zero lives lo hi = refl
  room_all a (suc n) lives lo hi = ap (λ t. t && all_inside (room_of m p) (a + 1) n) (room_at a lives lo (omega (arith, hi))) ∙ room_all (a + 1) n lives (omega (arith, lo)) (omega (arith, hi))

  slot_aligned : (r : ℕ) → r < m.count → at r % 8 ≡ 0
  slot_aligned r h = let e = slot_is r h in let q = sound.aligned p in omega (arith, e, q)

  -- a slot may be used
  slot_usable : (r : ℕ) → m.lives p ≡ true → r < m.count → may_use (room_of m p) (at r) 8 ≡ true
  slot_usable r lives h = ap (λ t. nat_eq t 0 && all_inside (room_of m p) (at r) 8) (slot_aligned r h) ∙ room_all (at r) 8 lives (slot_low r h) (let e = slot_is r h in omega (arith, e))

  pub slot_at : (stack r : ℕ) (y : Private) → m.lives p ≡ true → r < m.count → y.cpu.regs stack ≡ m.top p → SlotAt (room_of m p) m.count stack r (at r) y
  slot_at stack r y lives few top = record { few = few; below = slot_is r few ∙ sym top; wide = subst (λ q. q < 2 ^ 64) (sym top) (sound.wide p lives); usable = slot_usable r lives few }

  slots_apart : (i k : ℕ) → i < m.count → k < m.count → (k ≡ i → ⊥) → (at k + 8 ≤ at i) ⊎ (at i + 8 ≤ at k)
  slots_apart i k hi hk ne = ⊎_elim (λ lt. inr (let a = slot_is i hi in let b = slot_is k hk in omega (arith, lt, a, b))) (λ ge. inl (let a = slot_is i hi in let b = slot_is k hk in omega (arith, ge, ne, a, b))) (cases_lt k i)

  -- a write below the root leaves it
  pub root_stays : (f : ℕ → ℕ) (a n v : ℕ) → a + n ≤ m.top p → number_at (written f a n v) (m.top p) 8 ≡ number_at f (m.top p) 8
  root_stays f a n v below = read_apart f a (m.top p) n 8 v (inr below)

  -- A SLOT GETS A NUMBER: a register does
  pub spelled_put : (c c' : Processor) (f : ℕ → ℕ) (s : MidProcessor) (place r v : ℕ) → r < m.count → v < 2 ^ 64 → Spelled m p c f s → ((q : ℕ) → m.fixed q ≡ true → c'.regs q ≡ c.regs q) → c'.role ≡ c.role
      → Spelled m p c' (written f (at r) 8 (cut 8 v)) (record s { place = place; regs = at_place s.regs r v })
  spelled_put c c' f s place r v few small h keeps role =
      record {
        regs = λ q lt. ⊎_elim (λ same. subst (λ z. number_at (written f (at r) 8 (cut 8 v)) (at z) 8 ≡ at_place s.regs r v z) (sym same) (read_same f (at r) v small ∙ sym (at_same s.regs r v)))
            (λ ne. read_apart f (at r) (at q) 8 8 (cut 8 v) (slots_apart r q few lt ne) ∙ h.regs q lt ∙ sym (at_other s.regs r v q ne)) (cases_eq q r);
        frame = λ b lt. written_below f (at r) 8 (cut 8 v) (m.base p + b) (let e = area_below r few in omega (arith, e, lt)) ∙ h.frame b lt;
        root = root_stays f (at r) 8 (cut 8 v) (slot_below r few) ∙ h.root;
        fixed = λ q k. keeps q k ∙ h.fixed q k;
        role = role ∙ h.role;
        lives = h.lives;
      }

  -- the frame is as it was
  pub spelled_same : (c c' : Processor) (f g : ℕ → ℕ) (s : MidProcessor) → Spelled m p c f s → ((b : ℕ) → IsOwn p b → g b ≡ f b) → ((q : ℕ) → m.fixed q ≡ true → c'.regs q ≡ c.regs q) → c'.role ≡ c.role → Spelled m p c' g s
  spelled_same c c' f g s h same keeps role =
      record {
        regs = λ q lt. number_same g f (at q) 8 (λ i less. same (at q + i) (let e = slot_is q lt in let lo = slot_low q lt in sound.own p (at q + i) h.lives (omega (arith, lo)) (omega (arith, e, less)))) ∙ h.regs q lt;
        frame = λ b lt. same (m.base p + b) (let lo = sound.area p in let hi = sound.slots in let d = sound.deep p in sound.own p (m.base p + b) h.lives (omega (arith, lo)) (omega (arith, hi, d, lt))) ∙ h.frame b lt;
        root = number_same g f (m.top p) 8 (λ i less. same (m.top p + i) (let lo = low_top in sound.own p (m.top p + i) h.lives (omega (arith, lo)) (omega (arith, less)))) ∙ h.root;
        fixed = λ q k. keeps q k ∙ h.fixed q k;
        role = role ∙ h.role;
        lives = h.lives;
      }

  -- a processor with the same registers and the same frame
  pub spelled_as : (c : Processor) (f : ℕ → ℕ) (s t : MidProcessor) → t.regs ≡ s.regs → t.frame ≡ s.frame → Spelled m p c f s → Spelled m p c f t
  spelled_as c f s t regs frame h = record { regs = λ q lt. h.regs q lt ∙ sym (ap (λ g. g q) regs); frame = λ b lt. h.frame b lt ∙ sym (ap (λ g. g b) frame); root = h.root; fixed = h.fixed; role = h.role; lives = h.lives }
