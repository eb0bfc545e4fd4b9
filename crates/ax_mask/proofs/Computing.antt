-- What stands between the linked load and the pair store of a read-modify-write leaves the operation's result in the object's place, and the other bits of the word.
use Rattle.std.proofs.Common.{◌≡◌, ℕ, ◌+◌, ◌-◌, ◌*◌, ◌/◌, ◌%◌, ◌^◌, ◌<◌, ◌≤◌, Bool, true, false, refl, sym, ap, ◌∙◌, subst, arith, bit_and, bit_or}
use Rattle.std.specs.Prelude.{if◌then◌else◌, bit_xor, int_lt, nat_lt}
use Rattle.std.specs.Int.Bits.{and_zero_l, and_zero_r, xor_self, xor_zero_r}
use Rattle.std.proofs.lemmas.Nat.{and_le_l, and_le_r, and_mask, mod_below, pow_pos}
use Rattle.std.proofs.Math.Nat.{div-add-mod', mod-eq_of_lt}
use Rattle.ax_words.specs.declared.operation.RmwOp.{RmwOp}
use Rattle.ax_words.specs.declared.operation.RmwOp.TheVariants as rmw
use Rattle.ax_ops.specs.Operation.{result_of, signed}
use Rattle.ax_isa.specs.Processor.{Processor}
use Rattle.ax_rv.specs.Arithmetic.{one_if, shifted_left, shifted_right, signed_less}
use Rattle.ax_mask.specs.Codes.{compares, computation}
use Rattle.ax_mask.proofs.Comparing.{below, least, signed_below, signed_least}
use Rattle.ax_mask.proofs.Fields.{field, field_add, field_and, field_not, field_or, field_placed, field_small, field_sub, field_xor, merged, shifted_back, taken}
use Rattle.ax_mask.proofs.Straight.{ran}

-- by whether the operand is taken
abbrev picked : Bool → ℕ → ℕ → ℕ → ℕ → ℕ
picked b r up mask v = bit_xor r (bit_and (bit_and (bit_xor r (shifted_right v (up % 64))) mask) ((2 ^ 64 - one_if b) % 2 ^ 64))

-- the word that is stored, by the linked one, how far the object lies below the highest bits, the mask and the operand
abbrev pub made : RmwOp → ℕ → ℕ → ℕ → ℕ → ℕ
made rmw.Xchg r up mask v = merged r v mask
made rmw.Add r up mask v = merged r ((r + v) % 2 ^ 64) mask
made rmw.Sub r up mask v = merged r ((r + (2 ^ 64 - v)) % 2 ^ 64) mask
made rmw.And r up mask v = merged r (bit_and r v) mask
made rmw.Nand r up mask v = merged r (2 ^ 64 - 1 - bit_and r v) mask
made rmw.Or r up mask v = merged r (bit_or r v) mask
made rmw.Xor r up mask v = merged r (bit_xor r v) mask
made rmw.Max r up mask v = picked (signed_less (shifted_left r (up % 64)) v) r up mask v
made rmw.Min r up mask v = picked (signed_less v (shifted_left r (up % 64))) r up mask v
made rmw.UMax r up mask v = picked (nat_lt (shifted_left r (up % 64)) v) r up mask v
made rmw.UMin r up mask v = picked (nat_lt v (shifted_left r (up % 64))) r up mask v

-- it stands in register 29
pub made_is : (o : RmwOp) (c : Processor) → (ran (computation o) c).regs 29 ≡ made o (c.regs 15) (c.regs 6) (c.regs 7) (c.regs 28)
made_is rmw.Xchg c = refl
made_is rmw.Add c = refl
made_is rmw.Sub c = refl
made_is rmw.And c = refl
made_is rmw.Nand c = refl
made_is rmw.Or c = refl
made_is rmw.Xor c = refl
made_is rmw.Max c = refl
made_is rmw.Min c = refl
made_is rmw.UMax c = refl
made_is rmw.UMin c = refl

-- ---- the mask of the test
none_merged : (r mask : ℕ) → merged r r mask ≡ r
none_merged r mask = ap (λ y. bit_xor r (bit_and y mask)) (xor_self r) ∙ ap (bit_xor r) (and_zero_l mask) ∙ xor_zero_r r

picked_is : (b : Bool) (r up mask v x : ℕ) → mask < 2 ^ 64 → shifted_right v (up % 64) ≡ x → picked b r up mask v ≡ merged r (if b then x else r) mask
picked_is true r up mask v x small is =
    let y = bit_and (bit_xor r (shifted_right v (up % 64))) mask in
    let all : bit_and y (2 ^ 64 - 1) ≡ y = and_mask y 64 ∙ mod-eq_of_lt (and_below (bit_xor r (shifted_right v (up % 64))) mask small) in
    ap (bit_xor r) all ∙ ap (λ z. merged r z mask) is
  where
    and_below : (a b : ℕ) → b < 2 ^ 64 → bit_and a b < 2 ^ 64
    and_below a b h = (let l = and_le_r a b in omega (arith, l, h))
picked_is false r up mask v x small is = ap (bit_xor r) (and_zero_r (bit_and (bit_xor r (shifted_right v (up % 64))) mask)) ∙ xor_zero_r r ∙ sym (none_merged r mask)

-- ---- the result in its place
pub record Makes (o : RmwOp) (k s r up mask v number : ℕ) : Type 0 where
  pub bits : ℕ
  pub is : made o r up mask v ≡ merged r bits mask
  pub result : field k s bits ≡ result_of k o (field k s r) number

from_parts : (x u f : ℕ) → x / 2 ^ u ≡ f → f * 2 ^ u + x % 2 ^ u ≡ x
from_parts x u f e = ap (λ y. y * 2 ^ u + x % 2 ^ u) (sym e) ∙ div-add-mod' x (2 ^ u)

module _ (k s t r up mask number : ℕ) (e : 64 ≡ k + (s + t)) (some : 0 < k) (up_is : up ≡ t) (small : number < 2 ^ k) (linked : r < 2 ^ 64) (masks : mask < 2 ^ 64) where
  abbrev old : ℕ
  old = field k s r

  abbrev own : field k s (number * 2 ^ s) ≡ number
  own = field_placed number k s small

  -- in its place
  module _ (v : ℕ) (is : v ≡ number * 2 ^ s) where
    made_in : (f : ℕ → ℕ) (o : RmwOp) → ((y : ℕ) → made o r up mask y ≡ merged r (f y) mask) → field k s (f (number * 2 ^ s)) ≡ result_of k o old number → Makes o k s r up mask v number
    made_in f o h q = record { bits = f v; is = h v; result = ap (λ y. field k s (f y)) is ∙ q }

    xchg : Makes rmw.Xchg k s r up mask v number
    xchg = made_in (λ y. y) rmw.Xchg (λ y. refl) own

    add : Makes rmw.Add k s r up mask v number
    add = made_in (λ y. (r + y) % 2 ^ 64) rmw.Add (λ y. refl) (ap (λ w. field k s ((r + number * 2 ^ s) % 2 ^ w)) e ∙ field_add r number k s t)

    sub : Makes rmw.Sub k s r up mask v number
    sub = made_in (λ y. (r + (2 ^ 64 - y)) % 2 ^ 64) rmw.Sub (λ y. refl) (ap (λ w. field k s ((r + (2 ^ w - number * 2 ^ s)) % 2 ^ w)) e ∙ field_sub r number k s t small)

    and_is : field k s (bit_and r (number * 2 ^ s)) ≡ bit_and old number
    and_is = field_and r (number * 2 ^ s) k s ∙ ap (bit_and old) own

    and : Makes rmw.And k s r up mask v number
    and = made_in (λ y. bit_and r y) rmw.And (λ y. refl) and_is

    nand : Makes rmw.Nand k s r up mask v number
    nand =
        let b : bit_and r (number * 2 ^ s) ≤ r = and_le_l r (number * 2 ^ s) in
        let l : bit_and r (number * 2 ^ s) < 2 ^ (k + (s + t)) = subst (λ w. bit_and r (number * 2 ^ s) < 2 ^ w) e (let g : bit_and r (number * 2 ^ s) < 2 ^ 64 = omega (arith, linked, b) in g) in
        made_in (λ y. 2 ^ 64 - 1 - bit_and r y) rmw.Nand (λ y. refl) (ap (λ w. field k s (2 ^ w - 1 - bit_and r (number * 2 ^ s))) e ∙ field_not (bit_and r (number * 2 ^ s)) k s t l ∙ ap (λ y. 2 ^ k - 1 - y) and_is)

    or : Makes rmw.Or k s r up mask v number
    or = made_in (λ y. bit_or r y) rmw.Or (λ y. refl) (field_or r (number * 2 ^ s) k s ∙ ap (bit_or old) own)

    xor : Makes rmw.Xor k s r up mask v number
    xor = made_in (λ y. bit_xor r y) rmw.Xor (λ y. refl) (field_xor r (number * 2 ^ s) k s ∙ ap (bit_xor old) own)

  -- at the highest bits
  module _ (v : ℕ) (is : v ≡ number * 2 ^ (s + t)) where
    short : t < 64
    short = omega (arith, e, some)

    up_same : up % 64 ≡ t
    up_same = ap (λ y. y % 64) up_is ∙ mod-eq_of_lt short

    abbrev lifted : ℕ
    lifted = shifted_left r t

    abbrev under : ℕ
    under = lifted % 2 ^ (s + t)

    lifted_is : shifted_left r (up % 64) ≡ old * 2 ^ (s + t) + under
    lifted_is =
        let m : lifted / 2 ^ (s + t) ≡ old = ap (λ y. r * 2 ^ t % 2 ^ y / 2 ^ (s + t)) e ∙ taken r k s t in
        ap (shifted_left r) up_same ∙ sym (from_parts lifted (s + t) old m)

    under_small : under < 2 ^ (s + t)
    under_small = mod_below lifted (2 ^ (s + t)) (pow_pos (s + t))

    down : shifted_right v (up % 64) ≡ number * 2 ^ s
    down = ap (shifted_right v) up_same ∙ ap (λ y. y / 2 ^ t) is ∙ shifted_back number s t

    field_of : (b : Bool) → field k s (if b then number * 2 ^ s else r) ≡ (if b then number else old)
    field_of true = own
    field_of false = refl

    made_by : (o : RmwOp) (b : Bool) → made o r up mask v ≡ picked b r up mask v → (if b then number else old) ≡ result_of k o old number → Makes o k s r up mask v number
    made_by o b h q = record { bits = if b then number * 2 ^ s else r; is = h ∙ picked_is b r up mask v (number * 2 ^ s) masks down; result = field_of b ∙ q }

    abbrev low : ℕ
    low = old * 2 ^ (s + t) + under

    abbrev top : ℕ
    top = number * 2 ^ (s + t)

    less_is : (a b : ℕ) → signed_less a b ≡ int_lt (signed (k + (s + t)) a) (signed (k + (s + t)) b)
    less_is a b = ap (λ w. int_lt (signed w a) (signed w b)) e

    max : Makes rmw.Max k s r up mask v number
    max =
        made_by rmw.Max (signed_less (shifted_left r (up % 64)) v) refl
        (ap (λ b. if b then number else old) (ap (λ y. signed_less y v) lifted_is ∙ ap (signed_less low) is ∙ less_is low top ∙ signed_below k (s + t) old number under (field_small r k s) small under_small some))

    min : Makes rmw.Min k s r up mask v number
    min =
        made_by rmw.Min (signed_less v (shifted_left r (up % 64))) refl
        (ap (λ b. if b then number else old) (ap (signed_less v) lifted_is ∙ ap (λ y. signed_less y low) is ∙ less_is top low) ∙ signed_least k (s + t) old number under (field_small r k s) small under_small some)

    umax : Makes rmw.UMax k s r up mask v number
    umax = made_by rmw.UMax (nat_lt (shifted_left r (up % 64)) v) refl (ap (λ b. if b then number else old) (ap (λ y. nat_lt y v) lifted_is ∙ ap (nat_lt low) is ∙ below old number (2 ^ (s + t)) under under_small))

    umin : Makes rmw.UMin k s r up mask v number
    umin = made_by rmw.UMin (nat_lt v (shifted_left r (up % 64))) refl (ap (λ b. if b then number else old) (ap (nat_lt v) lifted_is ∙ ap (λ y. nat_lt y low) is) ∙ least old number (2 ^ (s + t)) under under_small)

  -- THE TABLE
  pub makes : (o : RmwOp) (v : ℕ) → v ≡ (if compares o then number * 2 ^ (s + t) else number * 2 ^ s) → Makes o k s r up mask v number
  makes rmw.Xchg v is = xchg v is
  makes rmw.Add v is = add v is
  makes rmw.Sub v is = sub v is
  makes rmw.And v is = and v is
  makes rmw.Nand v is = nand v is
  makes rmw.Or v is = or v is
  makes rmw.Xor v is = xor v is
  makes rmw.Max v is = max v is
  makes rmw.Min v is = min v is
  makes rmw.UMax v is = umax v is
  makes rmw.UMin v is = umin v is
