-- The numbers and registers of each instruction's code are small, by what is known of its types, operands and pointers.
use Rattle.std.proofs.Common.{◌≡◌, ℕ, ◌/◌, ◌%◌, ◌^◌, ◌<◌, ◌≤◌, pos, negsuc, Bool, true, false, ◌&&◌, ◌||◌, List, [], ◌∷◌, ◌++◌, map, length, refl, sym, ap, ◌∙◌, arith}
use Rattle.std.specs.Prelude.{ℤ, ◌-◌, if◌then◌else◌, nat_eq, nat_le, nat_lt}
use Rattle.std.proofs.Math.Nat.{pow-le-pow_right}
use Rattle.std.proofs.lemmas.Bool.{and_from, true≢false}
use Rattle.std.proofs.lemmas.Nat.{mod_below, pow_pos}
use Rattle.ax_module.specs.declared.inst.BinOp.{BinOp}
use Rattle.ax_module.specs.declared.inst.BinOp.TheVariants as bin
use Rattle.ax_module.specs.declared.operand.Operand.{Operand}
use Rattle.ax_module.specs.declared.operand.Operand.TheVariants as operand
use Rattle.ax_module.specs.declared.types.Ty.{Ty}
use Rattle.ax_source_run.specs.SourceValues.{type_bits, wrapped}
use Rattle.ax_tags.specs.declared.tags.Tag.{Tag}
use Rattle.ax_tags.specs.declared.tags.Tag.TheVariants as tag
use Rattle.ax_words.specs.declared.mark.Op.{Op}
use Rattle.ax_words.specs.declared.order.Order.{Order}
use Rattle.ax_words.specs.declared.width.Width.{Width}
use Rattle.ax_mid.specs.declared.code.Line.{Line}
use Rattle.ax_mid.specs.declared.instruction.MidInst.{MidInst}
use Rattle.ax_mid.specs.declared.instruction.MidInst.TheVariants as mid
use Rattle.ax_mid.specs.declared.instruction.MidOp.{MidOp}
use Rattle.ax_mid.specs.declared.instruction.MidOp.TheVariants as op
use Rattle.ax_mid.specs.declared.instruction.MidShift.{MidShift}
use Rattle.ax_mid.specs.declared.registers.Virtual.{Virtual}
use Rattle.ax_mid.specs.WellFormed.{is_access_size, is_act, is_shaped, is_silent, registers_of, words_given, words_taken}
use Rattle.ax_rules.specs.Width.{is_i128, is_mul, is_odd, is_shift}
use Rattle.ax_selected.specs.Operands.{constant_of, high_into, is_narrow, low_into}
use Rattle.ax_selected.specs.Pieces.{Comparison, Straight, apply, bin_lines, carried, narrow_bin, narrow_icmp, narrow_op, wide_bin, wide_icmp, wide_op}
use Rattle.ax_selected.specs.Ranges.{IsNear}
use Rattle.ax_selected.specs.Registers.{high_of, key, low_of, virtual}
use Rattle.ax_selected.specs.Selected.{acting, lone, silent, straight}
use Rattle.ax_selected.proofs.Aligned.{some_bits, wide_is}
use Rattle.ax_selected.proofs.Keeping.{most_bits}
use Rattle.ax_selected.proofs.Lying.{eq_true, le_true, lt_true}
use Rattle.ax_selected.proofs.Sums.{narrow_le}

-- ---- an instruction with its tag
unfoldable pub constant_in : MidInst Virtual → ℕ
constant_in (mid.Const to n) = n
constant_in _ = 0

unfoldable pub offset_at : MidInst Virtual → ℕ
offset_at (mid.FrameAddress to offset) = offset
offset_at _ = 0

abbrev pub AreLow : List Virtual → Type 0
AreLow [] = Unit {0}
AreLow (r ∷ rs) = (key r < 8208) × AreLow rs

pub low_both : (rs ss : List Virtual) → AreLow rs → AreLow ss → AreLow (rs ++ ss)
low_both [] ss h g = g
low_both (r ∷ rs) ss h g = (h.0, low_both rs ss h.1 g)

pub record IsSmall (t : Tag) (i : MidInst Virtual) : Type 0 where
  pub shaped : is_shaped t i ≡ true
  pub constant : constant_in i < 2 ^ 64
  pub frame : offset_at i ≤ 32768
  pub registers : AreLow (registers_of i)

module _ (t : Tag) (free : (is_silent t || is_act t) ≡ true) where
  pub const : (r n : ℕ) → r < 8208 → n < 2 ^ 64 → IsSmall t (mid.Const (virtual r) n)
  unfolding is_shaped registers_of constant_in offset_at
  const r n lr ln = record { shaped = free; constant = ln; frame = omega arith; registers = (lr, tt) }

  pub copies : (r s : ℕ) → r < 8208 → s < 8208 → IsSmall t (mid.Copy (virtual r) (virtual s))
  unfolding is_shaped registers_of constant_in offset_at
  copies r s lr ls = record { shaped = free; constant = omega arith; frame = omega arith; registers = (lr, (ls, tt)) }

  pub does : (o : MidOp) (r a b : ℕ) → r < 8208 → a < 8208 → b < 8208 → IsSmall t (apply o r a b)
  unfolding is_shaped registers_of constant_in offset_at
  does o r a b lr la lb = record { shaped = free; constant = omega arith; frame = omega arith; registers = (lr, (la, (lb, tt))) }

  pub shifts : (o : MidShift) (r s by : ℕ) → r < 8208 → s < 8208 → by < 64 → IsSmall t (mid.Shift o (virtual r) (virtual s) by)
  unfolding is_shaped registers_of constant_in offset_at
  shifts o r s by lr ls few = record { shaped = and_from (is_silent t || is_act t) (nat_lt by 64) free (lt_true by 64 few); constant = omega arith; frame = omega arith; registers = (lr, (ls, tt)) }

  pub extends : (r s bits : ℕ) (signed : Bool) → r < 8208 → s < 8208 → 1 ≤ bits → bits ≤ 64 → IsSmall t (mid.Extend (virtual r) (virtual s) bits signed)
  unfolding is_shaped registers_of constant_in offset_at
  extends r s bits signed lr ls some few = record {
    shaped = and_from ((is_silent t || is_act t) && nat_lt 0 bits) (nat_le bits 64) (and_from (is_silent t || is_act t) (nat_lt 0 bits) free (lt_true 0 bits some)) (le_true bits 64 few);
    constant = omega arith;
    frame = omega arith;
    registers = (lr, (ls, tt));
  }

  pub selects : (r a b c : ℕ) → r < 8208 → a < 8208 → b < 8208 → c < 8208 → IsSmall t (mid.Select (virtual r) (virtual a) (virtual b) (virtual c))
  unfolding is_shaped registers_of constant_in offset_at
  selects r a b c lr la lb lc = record { shaped = free; constant = omega arith; frame = omega arith; registers = (lr, (la, (lb, (lc, tt)))) }

  pub in_frame : (r n : ℕ) → r < 8208 → n ≤ 32768 → IsSmall t (mid.FrameAddress (virtual r) n)
  unfolding is_shaped registers_of constant_in offset_at
  in_frame r n lr few = record { shaped = free; constant = omega arith; frame = few; registers = (lr, tt) }

  pub loads : (r s n : ℕ) → r < 8208 → s < 8208 → is_access_size n ≡ true → IsSmall t (mid.Load (virtual r) (virtual s) n)
  unfolding is_shaped registers_of constant_in offset_at
  loads r s n lr ls size = record { shaped = and_from (is_silent t || is_act t) (is_access_size n) free size; constant = omega arith; frame = omega arith; registers = (lr, (ls, tt)) }

  pub stores : (r s n : ℕ) → r < 8208 → s < 8208 → is_access_size n ≡ true → IsSmall t (mid.Store (virtual r) (virtual s) n)
  unfolding is_shaped registers_of constant_in offset_at
  stores r s n lr ls size = record { shaped = and_from (is_silent t || is_act t) (is_access_size n) free size; constant = omega arith; frame = omega arith; registers = (lr, (ls, tt)) }

  pub jumps : (n : ℕ) → IsSmall t (mid.Jump n)
  unfolding is_shaped registers_of constant_in offset_at
  jumps n = record { shaped = free; constant = omega arith; frame = omega arith; registers = tt }

  nop : IsSmall t mid.Nop
  unfolding is_shaped registers_of constant_in offset_at
  nop = record { shaped = free; constant = omega arith; frame = omega arith; registers = tt }

pub labels : (n : ℕ) → IsSmall tag.Silent (mid.Label n)
unfolding is_shaped registers_of constant_in offset_at
labels n = record { shaped = refl; constant = omega arith; frame = omega arith; registers = tt }

pub branches : (r n m : ℕ) → r < 8208 → IsSmall tag.Silent (mid.Branch (virtual r) n m)
unfolding is_shaped registers_of constant_in offset_at
branches r n m lr = record { shaped = refl; constant = omega arith; frame = omega arith; registers = (lr, tt) }

pub outs : IsSmall tag.Act (mid.Out (virtual 0))
unfolding is_shaped registers_of constant_in offset_at
outs = record { shaped = refl; constant = omega arith; frame = omega arith; registers = (omega arith, tt) }

pub trap : IsSmall tag.Act mid.Trap
unfolding is_shaped registers_of constant_in offset_at
trap = record { shaped = refl; constant = omega arith; frame = omega arith; registers = tt }

pub ret : IsSmall tag.Act mid.Ret
unfolding is_shaped registers_of constant_in offset_at
ret = record { shaped = refl; constant = omega arith; frame = omega arith; registers = tt }

pub nothing : IsSmall tag.Act mid.Nop
nothing = nop tag.Act refl

pub atomics : (o : Op) (width : Width) (order : Order) (weak : Bool) (args results : List Virtual) → length args ≡ words_taken o width → length results ≡ words_given o width → AreLow args → AreLow results → IsSmall tag.Act (mid.Atomic o width order weak (virtual 0) args results)
unfolding is_shaped registers_of constant_in offset_at
atomics o width order weak args results taken given la lr = record {
  shaped = and_from (nat_eq (length args) (words_taken o width)) (nat_eq (length results) (words_given o width)) (eq_true (length args) (words_taken o width) taken) (eq_true (length results) (words_given o width) given);
  constant = omega arith;
  frame = omega arith;
  registers = (omega arith, low_both args results la lr);
}

-- ---- constants
less_one : (p q : ℕ) → 0 < p → p - 1 - q < p
less_one p q h = omega (arith, h)

pub wrapped_below : (bits : ℕ) (n : ℤ) → wrapped bits n < 2 ^ bits
wrapped_below bits (pos n) = mod_below n (2 ^ bits) (pow_pos bits)
wrapped_below bits (negsuc n) = less_one (2 ^ bits) (n % 2 ^ bits) (pow_pos bits)

up_to_128 : (n bits : ℕ) → bits ≤ 128 → n < 2 ^ bits → n < 2 ^ 128
up_to_128 n bits le h = let more = pow-le-pow_right {n = 2} (omega arith) {i = bits} {j = 128} le in omega (arith, h, more)

low_half : (n : ℕ) → n % 2 ^ 64 < 2 ^ 64
low_half n = mod_below n (2 ^ 64) (pow_pos 64)

high_half : (n : ℕ) → n < 2 ^ 128 → n / 2 ^ 64 < 2 ^ 64
high_half n h = omega (arith, h)

constant_below : (t : Ty) (v : Operand) → is_odd t ≡ false → constant_of t v < 2 ^ 128
constant_below t (operand.Const n) o = up_to_128 (wrapped (type_bits t) n) (type_bits t) (most_bits t o) (wrapped_below (type_bits t) n)
constant_below t (operand.Wide n) o = up_to_128 (n % 2 ^ type_bits t) (type_bits t) (most_bits t o) (mod_below n (2 ^ type_bits t) (pow_pos (type_bits t)))
constant_below t (operand.Value k) o = omega arith
constant_below t (operand.Param k) o = omega arith

pub low : (r : ℕ) (t : Ty) (v : Operand) → r < 8208 → IsNear v → IsSmall tag.Silent (low_into r t v)
low r t (operand.Value q) lr near = copies tag.Silent refl r (low_of q) lr (omega (arith, near))
low r t (operand.Const n) lr near = const tag.Silent refl r (constant_of t (operand.Const n) % 2 ^ 64) lr (low_half (constant_of t (operand.Const n)))
low r t (operand.Wide n) lr near = const tag.Silent refl r (constant_of t (operand.Wide n) % 2 ^ 64) lr (low_half (constant_of t (operand.Wide n)))
low r t (operand.Param q) lr near = const tag.Silent refl r 0 lr (omega arith)

pub high : (r : ℕ) (t : Ty) (v : Operand) → r < 8208 → IsNear v → is_odd t ≡ false → IsSmall tag.Silent (high_into r t v)
high r t (operand.Value q) lr near o = copies tag.Silent refl r (high_of q) lr (omega (arith, near))
high r t (operand.Const n) lr near o = const tag.Silent refl r (constant_of t (operand.Const n) / 2 ^ 64) lr (high_half (constant_of t (operand.Const n)) (constant_below t (operand.Const n) o))
high r t (operand.Wide n) lr near o = const tag.Silent refl r (constant_of t (operand.Wide n) / 2 ^ 64) lr (high_half (constant_of t (operand.Wide n)) (constant_below t (operand.Wide n) o))
high r t (operand.Param q) lr near o = const tag.Silent refl r 0 lr (omega arith)

-- ---- lines
abbrev pub AreQuiet : List (MidInst Virtual) → Type 0
AreQuiet [] = Unit {0}
AreQuiet (i ∷ is) = IsSmall tag.Silent i × AreQuiet is

pub quiet_both : (is js : List (MidInst Virtual)) → AreQuiet is → AreQuiet js → AreQuiet (is ++ js)
quiet_both [] js h g = g
quiet_both (i ∷ is) js h g = (h.0, quiet_both is js h.1 g)

pub record IsSmallStraight (s : Straight) : Type 0 where
  pub quiet : AreQuiet s.silent
  pub last : IsSmall tag.Act s.last

abbrev pub AreSmall : List (Line Virtual) → Type 0
AreSmall [] = Unit {0}
AreSmall (line ∷ lines) = IsSmall line.tag line.inst × AreSmall lines

pub small_both : (xs ys : List (Line Virtual)) → AreSmall xs → AreSmall ys → AreSmall (xs ++ ys)
small_both [] ys h g = g
small_both (x ∷ xs) ys h g = (h.0, small_both xs ys h.1 g)

pub lone_small : (i : MidInst Virtual) → IsSmall tag.Act i → IsSmallStraight (lone i)
lone_small i h = record { quiet = tt; last = h }

module _ (f k : ℕ) where
  pub silent_small : (is : List (MidInst Virtual)) → AreQuiet is → AreSmall (map (silent f k) is)
  silent_small [] h = tt
  silent_small (i ∷ is) h = (h.0, silent_small is h.1)

  pub straight_small : (s : Straight) → IsSmallStraight s → AreSmall (straight f k s)
  straight_small s h = small_both (map (silent f k) s.silent) (acting f k s.last ∷ []) (silent_small s.silent h.quiet) (h.last, tt)

-- ---- two operands of a type
module _ (k : ℕ) (lt : k < 2048) (t : Ty) (v w : Operand) (odd : is_odd t ≡ false) (near : IsNear v) (near_too : IsNear w) where
  both_quiet : (is : List (MidInst Virtual)) → AreQuiet is → AreQuiet (low_into 0 t v ∷ high_into 1 t v ∷ low_into 2 t w ∷ high_into 3 t w ∷ is)
  both_quiet is h = (low 0 t v (omega arith) near, (high 1 t v (omega arith) near odd, (low 2 t w (omega arith) near_too, (high 3 t w (omega arith) near_too odd, h))))

  module _ (narrow : is_narrow t ≡ true) where
    cut : IsSmall tag.Act (mid.Extend (virtual (low_of k)) (virtual 0) (type_bits t) false)
    cut = extends tag.Act refl (low_of k) 0 (type_bits t) false (omega (arith, lt)) (omega arith) (some_bits t odd) (narrow_le t narrow)

    op_narrow : (o : MidOp) → IsSmallStraight (narrow_op o k t v w)
    op_narrow o = record { quiet = (low 0 t v (omega arith) near, (low 1 t w (omega arith) near_too, (does tag.Silent refl o 0 0 1 (omega arith) (omega arith) (omega arith), tt))); last = cut }

    amount : constant_of t w < type_bits t → constant_of t w < 64
    amount h = let few = narrow_le t narrow in omega (arith, h, few)

    bin_narrow : (o : BinOp) → (is_shift o ≡ true → constant_of t w < type_bits t) → IsSmallStraight (narrow_bin o k t v w)
    bin_narrow bin.Add h = op_narrow _
    bin_narrow bin.Sub h = op_narrow _
    bin_narrow bin.Mul h = op_narrow _
    bin_narrow bin.And h = op_narrow _
    bin_narrow bin.Or h = op_narrow _
    bin_narrow bin.Xor h = op_narrow _
    bin_narrow bin.Shl h = record { quiet = (low 0 t v (omega arith) near, (shifts tag.Silent refl _ 0 0 (constant_of t w) (omega arith) (omega arith) (amount (h refl)), tt)); last = cut }
    bin_narrow bin.Lshr h = record { quiet = (low 0 t v (omega arith) near, tt); last = shifts tag.Act refl _ (low_of k) 0 (constant_of t w) (omega (arith, lt)) (omega arith) (amount (h refl)) }
    bin_narrow bin.Ashr h = record {
      quiet = (low 0 t v (omega arith) near, (extends tag.Silent refl 0 0 (type_bits t) true (omega arith) (omega arith) (some_bits t odd) (narrow_le t narrow), (shifts tag.Silent refl _ 0 0 (constant_of t w) (omega arith) (omega arith) (amount (h refl)), tt)));
      last = cut;
    }

    icmp_narrow : (c : Comparison) → IsSmallStraight (narrow_icmp c k t v w)
    icmp_narrow c = record {
      quiet = (low 0 t v (omega arith) near, (low 1 t w (omega arith) near_too, (extends tag.Silent refl 0 0 (type_bits t) c.signed (omega arith) (omega arith) (some_bits t odd) (narrow_le t narrow), (extends tag.Silent refl 1 1 (type_bits t) c.signed (omega arith) (omega arith) (some_bits t odd) (narrow_le t narrow), tt))));
      last = by c.swapped;
    }
      where
        by : (q : Bool) → IsSmall tag.Act (if q then apply c.operation (low_of k) 1 0 else apply c.operation (low_of k) 0 1)
        by true = does tag.Act refl c.operation (low_of k) 1 0 (omega (arith, lt)) (omega arith) (omega arith)
        by false = does tag.Act refl c.operation (low_of k) 0 1 (omega (arith, lt)) (omega arith) (omega arith)

  op_wide : (o : MidOp) → IsSmallStraight (wide_op o k t v w)
  op_wide o = record {
    quiet = both_quiet (apply o (high_of k) 1 3 ∷ []) (does tag.Silent refl o (high_of k) 1 3 (omega (arith, lt)) (omega arith) (omega arith), tt);
    last = does tag.Act refl o (low_of k) 0 2 (omega (arith, lt)) (omega arith) (omega arith);
  }

  carries : (o : MidOp) (x y : ℕ) → x < 8208 → y < 8208 → AreQuiet (carried o k x y)
  carries o x y lx ly = (does tag.Silent refl o 4 0 2 (omega arith) (omega arith) (omega arith), (does tag.Silent refl op.Ult 5 x y (omega arith) lx ly, (does tag.Silent refl o 6 1 3 (omega arith) (omega arith) (omega arith), (does tag.Silent refl o (high_of k) 6 5 (omega (arith, lt)) (omega arith) (omega arith), tt))))

  bin_wide : is_narrow t ≡ false → (o : BinOp) → (is_mul o && is_i128 t) ≡ false → IsSmallStraight (wide_bin o k t v w)
  bin_wide wide bin.Add h = record { quiet = both_quiet (carried op.Add k 4 0) (carries op.Add 4 0 (omega arith) (omega arith)); last = copies tag.Act refl (low_of k) 4 (omega (arith, lt)) (omega arith) }
  bin_wide wide bin.Sub h = record { quiet = both_quiet (carried op.Sub k 0 2) (carries op.Sub 0 2 (omega arith) (omega arith)); last = copies tag.Act refl (low_of k) 4 (omega (arith, lt)) (omega arith) }
  bin_wide wide bin.Mul h = absurd (true≢false (sym (ap is_i128 (wide_is t odd wide)) ∙ h))
  bin_wide wide bin.And h = op_wide _
  bin_wide wide bin.Or h = op_wide _
  bin_wide wide bin.Xor h = op_wide _
  bin_wide wide bin.Shl h = record { quiet = (low 0 t v (omega arith) near, (copies tag.Silent refl (high_of k) 0 (omega (arith, lt)) (omega arith), tt)); last = const tag.Act refl (low_of k) 0 (omega (arith, lt)) (omega arith) }
  bin_wide wide bin.Lshr h = record { quiet = (high 0 t v (omega arith) near odd, (const tag.Silent refl (high_of k) 0 (omega (arith, lt)) (omega arith), tt)); last = copies tag.Act refl (low_of k) 0 (omega (arith, lt)) (omega arith) }
  bin_wide wide bin.Ashr h = record { quiet = (high 0 t v (omega arith) near odd, (shifts tag.Silent refl _ (high_of k) 0 63 (omega (arith, lt)) (omega arith) (omega arith), tt)); last = copies tag.Act refl (low_of k) 0 (omega (arith, lt)) (omega arith) }

  pub bin_small : (o : BinOp) → (is_shift o ≡ true → constant_of t w < type_bits t) → (is_mul o && is_i128 t) ≡ false → IsSmallStraight (bin_lines o k t v w)
  bin_small o h g = by (is_narrow t) refl
    where
      by : (q : Bool) → is_narrow t ≡ q → IsSmallStraight (if q then narrow_bin o k t v w else wide_bin o k t v w)
      by true e = bin_narrow e o h
      by false e = bin_wide e o g

  pub icmp_small : (c : Comparison) → IsSmallStraight (if is_narrow t then narrow_icmp c k t v w else wide_icmp c k t v w)
  icmp_small c = by (is_narrow t) refl
    where
      by : (q : Bool) → is_narrow t ≡ q → IsSmallStraight (if q then narrow_icmp c k t v w else wide_icmp c k t v w)
      by true e = icmp_narrow e c
      by false e = record {
        quiet = both_quiet (apply op.Xor 0 0 2 ∷ apply op.Xor 1 1 3 ∷ apply op.Or 0 0 1 ∷ mid.Const (virtual 1) 0 ∷ []) (does tag.Silent refl _ 0 0 2 (omega arith) (omega arith) (omega arith), (does tag.Silent refl _ 1 1 3 (omega arith) (omega arith) (omega arith), (does tag.Silent refl _ 0 0 1 (omega arith) (omega arith) (omega arith), (const tag.Silent refl 1 0 (omega arith) (omega arith), tt))));
        last = does tag.Act refl c.operation (low_of k) 0 1 (omega (arith, lt)) (omega arith) (omega arith);
      }
