-- What stands before a masked loop: it leaves the address of the object's word, how far the object lies below a register's highest bits, the mask, and numbers in their places.
use Rattle.std.proofs.Common.{◌≡◌, ℕ, ◌+◌, ◌-◌, ◌*◌, ◌/◌, ◌%◌, ◌^◌, ◌<◌, ◌≤◌, Bool, true, false, List, ◌++◌, refl, sym, ap, ◌∙◌, arith, bit_and}
use Rattle.std.specs.Prelude.{if◌then◌else◌, not, pos, negsuc}
use Rattle.std.proofs.lemmas.Bool.{false≢true}
use Rattle.std.proofs.lemmas.Nat.{and_mask}
use Rattle.std.proofs.lemmas.Nat.Bits.{and_high_mask}
use Rattle.std.proofs.Math.Nat.{mod-eq_of_lt}
use Rattle.ax_words.specs.declared.operation.RmwOp.{RmwOp}
use Rattle.ax_words.specs.declared.width.Width.{Width}
use Rattle.ax_words.specs.declared.width.Width.TheVariants.{W8, W16, W32, W64, W128}
use Rattle.ax_words.specs.Width.{bytes_of}
use Rattle.ax_isa.specs.Numbers.{displaced}
use Rattle.ax_rv.specs.declared.instructions.RvInstr.{RvInstr}
use Rattle.ax_rv.specs.Arithmetic.{shifted_left, shifted_right}
use Rattle.ax_rv.specs.Instructions.{rv_kind}
use Rattle.ax_expand.specs.Operation.{Keeps}
use Rattle.ax_expand.specs.Private.{Private}
use Rattle.ax_emit_rv.specs.Laws.{is_kept}
use Rattle.ax_mask.specs.Codes.{above, compares, exchange_setup, find_word, is_narrow, ones, placed_if, to_top, update_setup}
use Rattle.ax_mask.specs.Prepared.{HasNumbers, HasOperand, HasWord, at_top, mask_of, placed_of, taken_of, up_of, word_of}
use Rattle.ax_mask.specs.Wrapped.{Leads}
use Rattle.ax_mask.proofs.Fields.{field, shifted_back, taken, top_of}
use Rattle.ax_mask.proofs.Straight.{all_set, goes_ran, others_ran, ran}
use Rattle.ax_mask.proofs.Words.{mask_at}

-- ---- the code leaves that
abbrev scratch : ℕ → Bool
scratch q = not (is_kept q)

prepares : (is : List RvInstr) (y : Private) (Q : (ℕ → ℕ) → Type 0) → all_set scratch is ≡ true → Q (ran is y.cpu).regs → Leads rv_kind is y (λ got. Keeps is_kept got y.cpu.regs × Q got)
prepares is y Q sets q = record { private = record { cpu = ran is y.cpu; frame = y.frame }; goes = goes_ran scratch is y sets; frame = refl; regs = (λ r k. others_ran scratch is y.cpu sets r (ap not k), q) }

pub update_prepares : (o : RmwOp) (width : Width) (y : Private) → Leads rv_kind (update_setup o width) y (λ got. Keeps is_kept got y.cpu.regs × HasOperand (compares o) width got)
update_prepares o width y = by (compares o)
  where
    by : (top : Bool) → Leads rv_kind (find_word width ++ to_top width 28 11 ++ placed_if top) y (λ got. Keeps is_kept got y.cpu.regs × HasOperand top width got)
    by true = prepares (find_word width ++ to_top width 28 11 ++ placed_if true) y (HasOperand true width) refl (record { word = record { word = refl; up = refl; mask = refl }; operand = refl })
    by false = prepares (find_word width ++ to_top width 28 11 ++ placed_if false) y (HasOperand false width) refl (record { word = record { word = refl; up = refl; mask = refl }; operand = refl })

pub exchange_prepares : (width : Width) (y : Private) → Leads rv_kind (exchange_setup width) y (λ got. Keeps is_kept got y.cpu.regs × HasNumbers width got)
exchange_prepares width y = prepares (exchange_setup width) y (HasNumbers width) refl (record { word = record { word = refl; up = refl; mask = refl }; expected = refl; desired = refl })

-- ---- an object in its word
-- the bits that lie above the object in a register
abbrev pub rest : ℕ → ℕ → ℕ
rest n o = 64 - 8 * n - 8 * o

pub record Lies (n o : ℕ) : Type 0 where
  pub some : 1 ≤ n
  pub fits : o + n ≤ 4

pub lies : (width : Width) (a : ℕ) → is_narrow width ≡ true → a % bytes_of width ≡ 0 → Lies (bytes_of width) (a % 4)
lies W8 a narrow aligned = record { some = omega arith; fits = omega arith }
lies W16 a narrow aligned = record { some = omega arith; fits = omega (arith, aligned) }
lies W32 a narrow aligned = absurd (false≢true narrow)
lies W64 a narrow aligned = absurd (false≢true narrow)
lies W128 a narrow aligned = absurd (false≢true narrow)

pub word_is : (a : ℕ) → a < 2 ^ 64 → word_of a ≡ a - a % 4
word_is a small = and_high_mask 64 2 (omega arith) a small ∙ (let e : a / 4 * 4 ≡ a - a % 4 = omega arith in e)

shift_is : (top o : ℕ) → o < 4 → 8 * o ≤ top → top ≤ 56 → ((2 ^ 64 - o * 2 ^ 3 % 2 ^ 64) % 2 ^ 64 + top) % 2 ^ 64 ≡ top - 8 * o
shift_is top o h g l = omega (arith, h, g, l)

-- a number at the highest bits goes down to its place
down : (x n o y : ℕ) → Lies n o → y ≡ rest n o → x * 2 ^ (64 - 8 * n) / 2 ^ (y % 64) ≡ x * 2 ^ (8 * o)
down x n o y l e =
    let some = l.some in
    let fits = l.fits in
    let h : rest n o < 64 = omega (arith, some) in
    let g : 64 - 8 * n ≡ 8 * o + rest n o = omega (arith, fits) in
    ap (λ z. x * 2 ^ (64 - 8 * n) / 2 ^ (z % 64)) e ∙ ap (λ z. x * 2 ^ (64 - 8 * n) / 2 ^ z) (mod-eq_of_lt h) ∙ ap (λ z. x * 2 ^ z / 2 ^ rest n o) g ∙ shifted_back x (8 * o) (rest n o)

ones_are : (width : Width) → bytes_of width ≤ 4 → ones width ≡ (2 ^ (8 * bytes_of width) - 1) * 2 ^ (64 - 8 * bytes_of width)
ones_are W8 few = refl
ones_are W16 few = refl
ones_are W32 few = refl
ones_are W64 few = absurd (let h : 8 ≤ 4 = few in omega (arith, h))
ones_are W128 few = absurd (let h : 16 ≤ 4 = few in omega (arith, h))

module _ (width : Width) (a : ℕ) (l : Lies (bytes_of width) (a % 4)) where
  abbrev n : ℕ
  n = bytes_of width

  abbrev o : ℕ
  o = a % 4

  pub up_is : up_of width a ≡ rest n o
  up_is =
      let some = l.some in
      let fits = l.fits in
      ap (λ y. ((2 ^ 64 - y * 2 ^ 3 % 2 ^ 64) % 2 ^ 64 + above width) % 2 ^ 64) (and_mask a 2) ∙ shift_is (above width) o (omega arith) (omega (arith, fits)) (omega (arith, some))

  pub mask_is : mask_of width a ≡ mask_at n o
  mask_is = (let fits = l.fits in ap (λ y. y / 2 ^ (up_of width a % 64)) (ones_are width (omega (arith, fits)))) ∙ down (2 ^ (8 * n) - 1) n o (up_of width a) l up_is

  above_small : (64 - 8 * n) % 64 ≡ 64 - 8 * n
  above_small = (let some = l.some in let h : 64 - 8 * n < 64 = omega (arith, some) in mod-eq_of_lt h)

  pub top_is : (x : ℕ) → at_top width x ≡ x % 2 ^ (8 * n) * 2 ^ (64 - 8 * n)
  top_is x =
      let fits = l.fits in
      let e : 64 ≡ 8 * n + (64 - 8 * n) = omega (arith, fits) in
      ap (λ z. x * 2 ^ z % 2 ^ 64) above_small ∙ ap (λ z. x * 2 ^ (64 - 8 * n) % 2 ^ z) e ∙ top_of x (8 * n) (64 - 8 * n)

  pub placed_is : (x : ℕ) → placed_of width a x ≡ x % 2 ^ (8 * n) * 2 ^ (8 * o)
  placed_is x = ap (λ y. y / 2 ^ (up_of width a % 64)) (top_is x) ∙ down (x % 2 ^ (8 * n)) n o (up_of width a) l up_is

  -- the object out of a word in a register
  pub taken_is : (r : ℕ) → taken_of width a r ≡ field (8 * n) (8 * o) r
  taken_is r =
      let some = l.some in
      let fits = l.fits in
      let h : rest n o < 64 = omega (arith, some) in
      let w : 64 ≡ 8 * n + (8 * o + rest n o) = omega (arith, fits) in
      let t : 64 - 8 * n ≡ 8 * o + rest n o = omega (arith, fits) in
      ap (λ y. r * 2 ^ (y % 64) % 2 ^ 64 / 2 ^ ((64 - 8 * n) % 64)) up_is
      ∙ ap (λ y. r * 2 ^ y % 2 ^ 64 / 2 ^ ((64 - 8 * n) % 64)) (mod-eq_of_lt h)
      ∙ ap (λ y. r * 2 ^ rest n o % 2 ^ 64 / 2 ^ y) (above_small ∙ t)
      ∙ ap (λ y. r * 2 ^ rest n o % 2 ^ y / 2 ^ (8 * o + rest n o)) w
      ∙ taken r (8 * n) (8 * o) (rest n o)
