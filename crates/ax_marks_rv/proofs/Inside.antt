-- Code whose branches and jumps lead into it, or right behind it.
use Rattle.std.proofs.Common.{◌≡◌, ℕ, ◌+◌, ◌-◌, ◌%◌, ◌<◌, ◌≤◌, ◌^◌, Bool, true, false, ◌&&◌, List, [], ◌∷◌, length, refl, sym, ap, ◌∙◌, subst, arith}
use Rattle.std.specs.Prelude.{if◌then◌else◌, nat_le, nat_lt, ℤ, pos, negsuc}
use Rattle.std.proofs.lemmas.Bool.{and_parts, false≢true, true≢false}
use Rattle.std.proofs.lemmas.Bool.Decides.{nat_tests}
use Rattle.ax_isa.specs.declared.effects.Effect.TheVariants as effect
use Rattle.ax_isa.specs.Numbers.{displaced}
use Rattle.ax_isa.specs.Processor.{Processor}
use Rattle.ax_agree.specs.Rows.{LeadsTo}
use Rattle.ax_rv.specs.declared.instructions.RvInstr.{RvInstr}
use Rattle.ax_rv.specs.declared.instructions.RvInstr.TheVariants as rv
use Rattle.ax_rv.specs.Arithmetic.{holds}
use Rattle.ax_rv.specs.Instructions.{effect_of, read}
use Rattle.ax_marks_rv.proofs.Items.{Each, Placed}

-- ---- instructions of the machine
-- one that may lead elsewhere than to the next place
abbrev pub is_going : RvInstr → Bool
is_going (rv.Jump distance) = true
is_going (rv.Call routine place) = true
is_going rv.Ret = true
is_going (rv.Branch test a b distance) = true
is_going _ = false

abbrev pub IsStill : RvInstr → Type 0
IsStill i = is_going i ≡ false

-- from place j of n instructions a distance leads to one of them, or right behind them
abbrev pub stays_in : ℕ → ℕ → ℤ → Bool
stays_in n j (pos d) = nat_le (j + d) n
stays_in n j (negsuc d) = nat_lt d j

-- so does the instruction at place j of them, if anywhere
abbrev pub is_inside : ℕ → ℕ → RvInstr → Bool
is_inside n j (rv.Jump distance) = stays_in n j distance
is_inside n j (rv.Call routine place) = false
is_inside n j rv.Ret = false
is_inside n j (rv.Branch test a b distance) = stays_in n j distance
is_inside n j _ = true

abbrev pub are_inside : ℕ → ℕ → List RvInstr → Bool
are_inside n j [] = true
are_inside n j (i ∷ is) = is_inside n j i && are_inside n (j + 1) is

-- WHAT IS ASKED OF A PIECE: each of its branches and jumps leads into it, or right behind it
abbrev pub is_closed : List RvInstr → Bool
is_closed is = are_inside (length is) 0 is

-- ---- code that leads nowhere is such a piece
still_inside : (n j : ℕ) (i : RvInstr) → IsStill i → is_inside n j i ≡ true
still_inside n j (rv.Jump distance) h = absurd (true≢false h)
still_inside n j (rv.Call routine place) h = absurd (true≢false h)
still_inside n j rv.Ret h = absurd (true≢false h)
still_inside n j (rv.Branch test a b distance) h = absurd (true≢false h)
still_inside n j _ h = refl

stills_inside : (n j : ℕ) (is : List RvInstr) → Each IsStill is → are_inside n j is ≡ true
stills_inside n j [] h = refl
stills_inside n j (i ∷ is) h = ap (λ (q : Bool). q && are_inside n (j + 1) is) (still_inside n j i h.0) ∙ stills_inside n (j + 1) is h.1

pub still_closed : (is : List RvInstr) → Each IsStill is → is_closed is ≡ true
still_closed is h = stills_inside (length is) 0 is h

-- ---- where its instructions lead, from a place on
module _ (base n : ℕ) (low : base + n < 2 ^ 32) where
  abbrev pub Among : ℕ → Type 0
  Among q = (base ≤ q) × (q ≤ base + n)

  distance_leads : (j : ℕ) (distance : ℤ) (p q : ℕ) → p ≡ base + j → j ≤ n → stays_in n j distance ≡ true → displaced p distance ≡ q → Among q
  distance_leads j (pos d) p q at less h l =
      let inside : j + d ≤ n = grind (arith, nat_tests, h) in
      let there : (p + d) % 2 ^ 64 ≡ q = l in
      let same : (p + d) % 2 ^ 64 ≡ p + d = omega (arith, at, low, inside) in
      (omega (arith, at, there, same), omega (arith, at, there, same, inside))
  distance_leads j (negsuc d) p q at less h l =
      let back : d < j = grind (arith, nat_tests, h) in
      let there : (p + (2 ^ 64 - 1 - d)) % 2 ^ 64 ≡ q = l in
      let same : (p + (2 ^ 64 - 1 - d)) % 2 ^ 64 ≡ p - 1 - d = omega (arith, at, low, less, back) in
      (omega (arith, at, there, same, back), omega (arith, at, there, same, less))

  pub inside_leads : (j : ℕ) (i : RvInstr) (c : Processor) (q : ℕ) → c.place ≡ base + j → j ≤ n → is_inside n j i ≡ true → LeadsTo (effect_of i c) q → Among q
  inside_leads j (rv.Jump distance) c q at less h l = distance_leads j distance c.place q at less h l
  inside_leads j (rv.Call routine place) c q at less h l = absurd (false≢true h)
  inside_leads j rv.Ret c q at less h l = absurd (false≢true h)
  inside_leads j (rv.Branch test a b distance) c q at less h l = by (holds test (read a c) (read b c)) l
    where
      by : (t : Bool) → LeadsTo (if t then effect.Jump (displaced c.place distance) else effect.Nop) q → Among q
      by true e = distance_leads j distance c.place q at less h e
      by false e = absurd e
  inside_leads j _ c q at less h l = absurd l

-- ---- what holds of each place of such a piece
module _ (P : ℕ → RvInstr → Type 0) (base n : ℕ) (inside : (j : ℕ) (i : RvInstr) → j ≤ n → is_inside n j i ≡ true → P (base + j) i) where
  placed_inside : (at j : ℕ) (is : List RvInstr) → at ≡ base + j → n ≡ j + length is → are_inside n j is ≡ true → Placed P at is
  placed_inside at j [] here long h = tt
  placed_inside at j (i ∷ is) here long h =
      let parts = and_parts (is_inside n j i) (are_inside n (j + 1) is) h in
      (subst (λ (p : ℕ). P p i) (sym here) (inside j i (omega (arith, long)) parts.0), placed_inside (at + 1) (j + 1) is (omega (arith, here)) (omega (arith, long)) parts.1)

pub placed_closed : (P : ℕ → RvInstr → Type 0) (at : ℕ) (is : List RvInstr) → is_closed is ≡ true → ((j : ℕ) (i : RvInstr) → j ≤ length is → is_inside (length is) j i ≡ true → P (at + j) i) → Placed P at is
placed_closed P at is h inside = placed_inside P at (length is) inside at 0 is (omega arith) (omega arith) h
