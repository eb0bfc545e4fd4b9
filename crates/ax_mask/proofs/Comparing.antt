-- A number at the highest bits of a register, whatever stands below it, compares with one there above zeros as the two numbers do.
use Rattle.std.proofs.Common.{◌≡◌, ℕ, zero, suc, ◌+◌, ◌-◌, ◌*◌, ◌^◌, ◌<◌, ◌≤◌, Bool, true, false, refl, sym, ap, ◌∙◌, subst, arith}
use Rattle.std.specs.Prelude.{if◌then◌else◌, int_lt, nat_lt, pos, negsuc, ◌-ℤ◌}
use Rattle.std.proofs.lemmas.Bool.Decides.{nat_tests}
use Rattle.std.proofs.lemmas.Int.{ints}
use Rattle.std.proofs.lemmas.Nat.{mul-le, pow_pos, pow-add}
use Rattle.std.proofs.Math.Nat.{add-mul}
use Rattle.ax_ops.specs.Operation.{signed}

above : (f g c j : ℕ) → j < c → f < g → f * c + j < g * c
above f g c j h l =
    let p : (f + 1) * c ≤ g * c = mul-le (f + 1) c g c (omega (arith, l)) (omega arith) in
    let q : (f + 1) * c ≡ f * c + 1 * c = add-mul f 1 c in
    omega (arith, p, q, h)

not_above : (f g c j : ℕ) → g ≤ f → g * c ≤ f * c + j
not_above f g c j l = (let p : g * c ≤ f * c = mul-le g c f c l (omega arith) in omega (arith, p))

-- that it is smaller is as it is for the numbers
pub below : (f g c j : ℕ) → j < c → nat_lt (f * c + j) (g * c) ≡ nat_lt f g
below f g c j h = grind (arith, nat_tests, above f g c j h, not_above f g c j)

-- and where it is greater, or the numbers are equal and something stands below
pub least : (f v c j : ℕ) → j < c → (if nat_lt (v * c) (f * c + j) then v else f) ≡ (if nat_lt v f then v else f)
least f v c j h = by (nat_lt v f) (nat_lt f v) refl refl
  where
    either : (t : Bool) → v ≡ f → (if t then v else f) ≡ f
    either true same = same
    either false same = refl

    by : (a b : Bool) → nat_lt v f ≡ a → nat_lt f v ≡ b → (if nat_lt (v * c) (f * c + j) then v else f) ≡ (if a then v else f)
    by true b e g =
        let l : v < f = grind (arith, nat_tests) in
        let p = above v f c 0 (omega (arith, h)) l in
        let q : nat_lt (v * c) (f * c + j) ≡ true = grind (arith, nat_tests, p) in
        ap (λ t. if t then v else f) q
    by false true e g =
        let l : f < v = grind (arith, nat_tests) in
        let p = above f v c j h l in
        let q : nat_lt (v * c) (f * c + j) ≡ false = grind (arith, nat_tests, p) in
        ap (λ t. if t then v else f) q
    by false false e g =
        let same : v ≡ f = grind (arith, nat_tests) in
        either (nat_lt (v * c) (f * c + j)) same

-- ---- two's complement
abbrev order : Bool → Bool → Bool → Bool
order true true l = l
order true false l = false
order false true l = true
order false false l = l

negative : (a p : ℕ) → a < p → pos a -ℤ pos p ≡ negsuc (p - 1 - a)
negative a p h = omega (arith, ints, h)

in_order : (w a b : ℕ) (x y : Bool) → a < w → b < w → int_lt (if x then pos a else pos a -ℤ pos w) (if y then pos b else pos b -ℤ pos w) ≡ order x y (nat_lt a b)
in_order w a b true true h g = refl
in_order w a b true false h g = ap (λ z. int_lt (pos a) z) (negative b w g)
in_order w a b false true h g = ap (λ z. int_lt z (pos b)) (negative a w h)
in_order w a b false false h g =
    let r : nat_lt (w - 1 - b) (w - 1 - a) ≡ nat_lt a b = grind (arith, nat_tests) in
    ap (λ z. int_lt z (pos b -ℤ pos w)) (negative a w h) ∙ ap (λ z. int_lt (negsuc (w - 1 - a)) z) (negative b w g) ∙ r

signed_order : (k a b : ℕ) → a < 2 ^ k → b < 2 ^ k → int_lt (signed k a) (signed k b) ≡ order (nat_lt a (2 ^ (k - 1))) (nat_lt b (2 ^ (k - 1))) (nat_lt a b)
signed_order k a b h g = in_order (2 ^ k) a b (nat_lt a (2 ^ (k - 1))) (nat_lt b (2 ^ (k - 1))) h g

module _ (k c f v j : ℕ) (small : f < 2 ^ k) (few : v < 2 ^ k) (under : j < 2 ^ c) (some : 0 < k) where
  abbrev low : ℕ
  low = f * 2 ^ c + j

  abbrev top : ℕ
  top = v * 2 ^ c

  half : 2 ^ (k + c - 1) ≡ 2 ^ (k - 1) * 2 ^ c
  half = (let e : k + c - 1 ≡ k - 1 + c = omega (arith, some) in ap (λ y. 2 ^ y) e ∙ pow-add 2 (k - 1) c)

  low_small : low < 2 ^ (k + c)
  low_small = subst (λ y. low < y) (sym (pow-add 2 k c)) (above f (2 ^ k) (2 ^ c) j under small)

  no_more : top + 0 ≡ top
  no_more = omega arith

  top_small : top < 2 ^ (k + c)
  top_small = (let p = pow_pos c in let q : top + 0 < 2 ^ (k + c) = subst (λ y. top + 0 < y) (sym (pow-add 2 k c)) (above v (2 ^ k) (2 ^ c) 0 p few) in omega (arith, q))

  low_half : nat_lt low (2 ^ (k + c - 1)) ≡ nat_lt f (2 ^ (k - 1))
  low_half = ap (nat_lt low) half ∙ below f (2 ^ (k - 1)) (2 ^ c) j under

  top_half : nat_lt top (2 ^ (k + c - 1)) ≡ nat_lt v (2 ^ (k - 1))
  top_half = ap (nat_lt top) half ∙ ap (λ y. nat_lt y (2 ^ (k - 1) * 2 ^ c)) (sym no_more) ∙ below v (2 ^ (k - 1)) (2 ^ c) 0 (pow_pos c)

  pub signed_below : int_lt (signed (k + c) low) (signed (k + c) top) ≡ int_lt (signed k f) (signed k v)
  signed_below =
      signed_order (k + c) low top low_small top_small
      ∙ ap (λ b. order b (nat_lt top (2 ^ (k + c - 1))) (nat_lt low top)) low_half
      ∙ ap (λ b. order (nat_lt f (2 ^ (k - 1))) b (nat_lt low top)) top_half
      ∙ ap (order (nat_lt f (2 ^ (k - 1))) (nat_lt v (2 ^ (k - 1)))) (below f v (2 ^ c) j under)
      ∙ sym (signed_order k f v small few)

  pub signed_least : (if int_lt (signed (k + c) top) (signed (k + c) low) then v else f) ≡ (if int_lt (signed k v) (signed k f) then v else f)
  signed_least =
      ap (λ t. if t then v else f) (signed_order (k + c) top low top_small low_small ∙ ap (λ b. order b (nat_lt low (2 ^ (k + c - 1))) (nat_lt top low)) top_half ∙ ap (λ b. order (nat_lt v (2 ^ (k - 1))) b (nat_lt top low)) low_half)
      ∙ in_both (nat_lt v (2 ^ (k - 1))) (nat_lt f (2 ^ (k - 1))) (nat_lt top low) (nat_lt v f) (least f v (2 ^ c) j under)
      ∙ ap (λ t. if t then v else f) (sym (signed_order k v f few small))
    where
      in_both : (x y a b : Bool) → (if a then v else f) ≡ (if b then v else f) → (if order x y a then v else f) ≡ (if order x y b then v else f)
      in_both true true a b e = e
      in_both true false a b e = refl
      in_both false true a b e = refl
      in_both false false a b e = e
