-- The bytes of a frame: what a load of a line finds there, and what a store leaves.
use Rattle.std.proofs.Common.{◌≡◌, ℕ, zero, suc, ◌+◌, ◌-◌, ◌*◌, ◌/◌, ◌%◌, ◌^◌, ◌<◌, ◌≤◌, Bool, true, false, Some, refl, sym, ap, ◌∙◌, inr, ⊎_elim, arith}
use Rattle.std.specs.Prelude.{◌&&◌, if◌then◌else◌, nat_eq, nat_le, nat_lt}
use Rattle.std.proofs.lemmas.Bool.{eqb-true, false≢true}
use Rattle.std.proofs.lemmas.Bool.Decides.{nat_tests}
use Rattle.std.proofs.lemmas.Nat.{field_of}
use Rattle.std.proofs.Math.Pow.{mod-mod-pow}
use Rattle.ax_map.specs.Map.{covers}
use Rattle.ax_store.specs.Bytes.{number_at, byte_of, cut, written, all_inside}
use Rattle.ax_store.proofs.Numbers.{number_small}
use Rattle.ax_isa.specs.Processor.{Processor}
use Rattle.ax_mid.specs.declared.instruction.MidInst.TheVariants as mid
use Rattle.ax_mid.specs.Machine.{loaded, private_step, stored}
use Rattle.ax_mid.specs.Processor.{MidProcessor, gets}
use Rattle.ax_mid.specs.Spots.{Own, element_at, frame_bytes, is_own, spot_of}
use Rattle.ax_expand.specs.Private.{may_use}
use Rattle.ax_fine.specs.Fine.{Program, Sound, Spelled, private_at, room_of, slot}
use Rattle.ax_emit.specs.Touches.{IsSize}
use Rattle.ax_emit.proofs.Slots.{area_below, read_apart, room_all, root_stays}

-- equal bytes spell equal numbers, wherever they stand
number_moved : (f g : ℕ → ℕ) (a b n : ℕ) → ((i : ℕ) → i < n → f (a + i) ≡ g (b + i)) → number_at f a n ≡ number_at g b n
number_moved f g a b zero h = refl
number_moved f g a b (suc n) h =
    let here : f a ≡ g b = (let e : a + 0 ≡ a = omega arith in let d : b + 0 ≡ b = omega arith in sym (ap f e) ∙ h 0 (omega arith) ∙ ap g d) in
    let rest = number_moved f g (a + 1) (b + 1) n (λ i lt. let e : a + (i + 1) ≡ a + 1 + i = omega arith in let d : b + (i + 1) ≡ b + 1 + i = omega arith in sym (ap f e) ∙ h (i + 1) (omega (arith, lt)) ∙ ap g d) in
    ap (λ x. x + 2 ^ 8 * number_at f (a + 1) n) here ∙ ap (λ x. g b + 2 ^ 8 * x) rest

-- a byte of a number is that of its low bytes
byte_cut : (v n i : ℕ) → i < n → byte_of (cut n v) i ≡ byte_of v i
byte_cut v n i lt =
    let high = 8 * (n - (i + 1)) in
    let parts : 8 * n ≡ high + 8 + 8 * i = omega (arith, lt) in
    ap (λ k. v % 2 ^ k / 2 ^ (8 * i) % 2 ^ 8) parts ∙ ap (λ x. x % 2 ^ 8) (field_of v (high + 8) (8 * i)) ∙ mod-mod-pow (v / 2 ^ (8 * i)) high 8

-- a written byte, at equal distances
written_moved : (f g : ℕ → ℕ) (base o n v b : ℕ) → f (base + b) ≡ g b → written f (base + o) n (cut n v) (base + b) ≡ written g o n v b
written_moved f g base o n v b same = go (covers o n b) refl
  where
    test : covers (base + o) n (base + b) ≡ covers o n b
    test =
        let low : nat_le (base + o) (base + b) ≡ nat_le o b = grind (arith, nat_tests) in
        let high : nat_lt (base + b) (base + o + n) ≡ nat_lt b (o + n) = grind (arith, nat_tests) in
        ap (λ t. t && nat_lt (base + b) (base + o + n)) low ∙ ap (λ t. nat_le o b && t) high

    go : (t : Bool) → covers o n b ≡ t → written f (base + o) n (cut n v) (base + b) ≡ written g o n v b
    go true e =
        let lo : o ≤ b = grind (arith, nat_tests, e) in
        let hi : b < o + n = grind (arith, nat_tests, e) in
        let at : base + b - (base + o) ≡ b - o = omega (arith, lo) in
        ap (λ t. if t then byte_of (cut n v) (base + b - (base + o)) else f (base + b)) (test ∙ e) ∙ ap (byte_of (cut n v)) at ∙ byte_cut v n (b - o) (omega (arith, lo, hi)) ∙ sym (ap (λ t. if t then byte_of v (b - o) else g b) e)
    go false e = ap (λ t. if t then byte_of (cut n v) (base + b - (base + o)) else f (base + b)) (test ∙ e) ∙ same ∙ sym (ap (λ t. if t then byte_of v (b - o) else g b) e)

and_both : (x y : Bool) → (x && y) ≡ true → (x ≡ true) × (y ≡ true)
and_both true y h = (refl, h)
and_both false y h = absurd (false≢true h)

-- what a size divides, from a multiple of 8 on
aligned_by : (a b n : ℕ) → IsSize n → b ≤ a → b % 8 ≡ 0 → (a - b) % n ≡ 0 → a % n ≡ 0
aligned_by a b n size le base h = ⊎_elim (λ e. one e) (λ r. ⊎_elim (λ e. two e) (λ r2. ⊎_elim (λ e. four e) (λ e. eight e) r2) r) size
  where
    one : n ≡ 1 → a % n ≡ 0
    one e = ap (λ k. a % k) e ∙ (let z : a % 1 ≡ 0 = omega arith in z)

    two : n ≡ 2 → a % n ≡ 0
    two e = let h2 : (a - b) % 2 ≡ 0 = ap (λ k. (a - b) % k) (sym e) ∙ h in ap (λ k. a % k) e ∙ (let z : a % 2 ≡ 0 = omega (arith, h2, le, base) in z)

    four : n ≡ 4 → a % n ≡ 0
    four e = let h4 : (a - b) % 4 ≡ 0 = ap (λ k. (a - b) % k) (sym e) ∙ h in ap (λ k. a % k) e ∙ (let z : a % 4 ≡ 0 = omega (arith, h4, le, base) in z)

    eight : n ≡ 8 → a % n ≡ 0
    eight e = let h8 : (a - b) % 8 ≡ 0 = ap (λ k. (a - b) % k) (sym e) ∙ h in ap (λ k. a % k) e ∙ (let z : a % 8 ≡ 0 = omega (arith, h8, le, base) in z)

some_size : (n : ℕ) → IsSize n → 0 < n
some_size n size = ⊎_elim (λ e. omega (arith, e)) (λ r. ⊎_elim (λ e. omega (arith, e)) (λ r2. ⊎_elim (λ e. omega (arith, e)) (λ e. omega (arith, e)) r2) r) size

module _ {R W : Type 0} (m : Program R W) (sound : Sound m) (p : ℕ) where
  -- an address of bytes of the own frame
  pub record Found (a n : ℕ) : Type 0 where
    pub offset : ℕ
    pub is : a ≡ m.base p + offset
    pub inside : offset + n ≤ m.size
    pub spot : spot_of m.code.globals (m.base p) a n ≡ Own offset
    pub usable : may_use (room_of m p) a n ≡ true
    pub small : a < 2 ^ 64

  usable_at : (a n : ℕ) → 0 < n → a % n ≡ 0 → all_inside (room_of m p) a n ≡ true → may_use (room_of m p) a n ≡ true
  usable_at a n some even all =
      let positive : nat_lt 0 n ≡ true = grind (arith, nat_tests, some) in
      ap (λ t. t && nat_eq (a % n) 0 && all_inside (room_of m p) a n) positive ∙ ap (λ t. nat_eq t 0 && all_inside (room_of m p) a n) even ∙ all

  -- ANY ADDRESS THAT A FRAME HOLDS is one
  pub found : m.lives p ≡ true → (a n : ℕ) → IsSize n → is_own (m.base p) a n ≡ true → Found a n
  found lives a n size e =
      let parts = and_both (nat_le (m.base p) a && nat_le (a + n) (m.base p + frame_bytes)) (nat_eq ((a - m.base p) % n) 0) e in
      let tests = and_both (nat_le (m.base p) a) (nat_le (a + n) (m.base p + frame_bytes)) parts.0 in
      let le_test = tests.0 in
      let end_test = tests.1 in
      let le : m.base p ≤ a = grind (arith, nat_tests, le_test) in
      let end : a + n ≤ m.base p + frame_bytes = grind (arith, nat_tests, end_test) in
      let even : (a - m.base p) % n ≡ 0 = eqb-true _ _ parts.1 in
      let whole = sound.whole in
      let deep = sound.deep p in
      let top = sound.aligned p in
      let eights = sound.even in
      let slots = sound.slots in
      let wide = sound.wide p lives in
      let area = sound.area p in
      let base_even : m.base p % 8 ≡ 0 = omega (arith, deep, top, eights) in
      let inside : a - m.base p + n ≤ m.size = omega (arith, le, end, whole) in
      let ends : a + n ≤ m.top p = omega (arith, inside, le, deep, slots) in
      record {
        offset = a - m.base p;
        is = omega (arith, le);
        inside = inside;
        spot = ap (λ t. if t then Own (a - m.base p) else element_at m.code.globals 0 a n) e;
        usable = usable_at a n (some_size n size) (aligned_by a (m.base p) n size le base_even even) (room_all m sound p a n lives (omega (arith, le, area)) ends);
        small = omega (arith, ends, wide);
      }

  -- what is loaded from it
  pub frame_number : (c : Processor) (f : ℕ → ℕ) (s : MidProcessor) (a n : ℕ) → Spelled m p c f s → (z : Found a n) → number_at f a n ≡ number_at s.frame z.offset n
  frame_number c f s a n h z =
      ap (λ q. number_at f q n) z.is ∙ number_moved f s.frame (m.base p + z.offset) z.offset n (λ i lt. (let in_size = z.inside in let e : m.base p + z.offset + i ≡ m.base p + (z.offset + i) = omega arith in ap f e ∙ h.frame (z.offset + i) (omega (arith, in_size, lt))))

  pub load_does : (to address : R) (n : ℕ) (s : MidProcessor) → (z : Found (s.regs (m.key address)) n) → private_at m p (mid.Load to address n) s ≡ Some (gets (m.key to) (number_at s.frame z.offset n) s)
  unfolding private_step
  load_does to address n s z = ap (λ q. loaded m.key m.target m.code (m.base p) q (m.key to) n s) z.spot

  -- what a store leaves
  abbrev pub after_store : (a n v : ℕ) → Found a n → MidProcessor → MidProcessor
  after_store a n v z s = record s { place = s.place + 1; frame = written s.frame z.offset n v }

  pub store_does : (address from : R) (n : ℕ) (s : MidProcessor) → (z : Found (s.regs (m.key address)) n) → private_at m p (mid.Store address from n) s ≡ Some (after_store (s.regs (m.key address)) n (s.regs (m.key from)) z s)
  unfolding private_step
  store_does address from n s z = ap (λ q. stored m.key m.target m.code (m.base p) q (s.regs (m.key from)) n s) z.spot

  pub spelled_store : (c c' : Processor) (f : ℕ → ℕ) (s : MidProcessor) (a n v : ℕ) → Spelled m p c f s → (z : Found a n) → ((q : ℕ) → m.fixed q ≡ true → c'.regs q ≡ c.regs q) → c'.role ≡ c.role → Spelled m p c' (written f a n (cut n v)) (after_store a n v z s)
  spelled_store c c' f s a n v h z keeps role =
      record {
        regs = λ r lt. read_apart f a (slot m.top p r) n 8 (cut n v) (inr (let below = area_below m sound p r lt in let is = z.is in let inside = z.inside in omega (arith, below, is, inside))) ∙ h.regs r lt;
        frame = λ b lt. ap (λ q. written f q n (cut n v) (m.base p + b)) z.is ∙ written_moved f s.frame (m.base p) z.offset n v b (h.frame b lt);
        root = root_stays m sound p f a n (cut n v) (let is = z.is in let inside = z.inside in let slots = sound.slots in let deep = sound.deep p in omega (arith, is, inside, slots, deep)) ∙ h.root;
        fixed = λ q k. keeps q k ∙ h.fixed q k;
        role = role ∙ h.role;
        lives = h.lives;
      }

  -- a number that is loaded fits its bytes
  pub loaded_small : (s : MidProcessor) (a n : ℕ) → ((b : ℕ) → s.frame b < 2 ^ 8) → (z : Found a n) → number_at s.frame z.offset n < 2 ^ (8 * n)
  loaded_small s a n bytes z = number_small s.frame bytes z.offset n
