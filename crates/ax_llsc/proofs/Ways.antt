-- Which operations have code on RV64: their widths and ways.
use Rattle.std.proofs.Common.{◌≡◌, ℕ, ◌+◌, ◌^◌, ◌≤◌, Bool, true, false, length, refl, sym, ap, ◌∙◌, inl, inr, arith}
use Rattle.std.specs.Prelude.{◌⊎◌, ◌*◌, if◌then◌else◌, nat_eq}
use Rattle.std.proofs.Math.Nat.{pow-le-pow_right}
use Rattle.std.proofs.lemmas.Bool.{false≢true}
use Rattle.ax_words.specs.declared.mark.Op.{Op}
use Rattle.ax_words.specs.declared.mark.Op.TheVariants as op
use Rattle.ax_words.specs.declared.operation.RmwOp.{RmwOp}
use Rattle.ax_words.specs.declared.operation.RmwOp.TheVariants as rmw
use Rattle.ax_words.specs.declared.width.Width.{Width}
use Rattle.ax_words.specs.declared.width.Width.TheVariants.{W8, W16, W32, W64, W128}
use Rattle.ax_words.specs.Width.{bits_of, bytes_of}
use Rattle.ax_target.specs.declared.target.Target.TheVariants.{Rv}
use Rattle.ax_target.specs.Decisions.{decided}
use Rattle.ax_isa.specs.Steps.{extended}
use Rattle.ax_mid.specs.Machine.{is_wide}
use Rattle.ax_mid.specs.WellFormed.{words, words_given, words_taken}
use Rattle.ax_rv.specs.Instructions.{load_rest, size_rest}
use Rattle.ax_rv.specs.Skeleton.{load_bytes, size_bytes, store_bytes}
use Rattle.ax_emit_rv.specs.Code.{load_form, store_form}
use Rattle.ax_llsc.specs.Loops.{size_of}
use Rattle.ax_mask.specs.Codes.{is_narrow}
use Rattle.ax_mask.specs.Pairs.{args_of_op, results_of_op}
use Rattle.ax_llsc.specs.Codes.{is_coded_way, raw_of}

-- ---- widths
-- of 1, 2, 4 or 8 bytes
pub record Narrow (width : Width) : Type 0 where
  pub narrow : is_wide width ≡ false
  pub some : 1 ≤ bytes_of width
  pub room : 2 ^ bits_of width ≤ 2 ^ 64
  pub load_is : load_bytes (load_form (bytes_of width)) ≡ bytes_of width
  pub load_raw : (old n : ℕ) → extended (load_bytes (load_form (bytes_of width))) (load_rest (load_form (bytes_of width))) old n ≡ raw_of width n
  pub store_is : store_bytes (store_form (bytes_of width)) ≡ bytes_of width

room_of : (bits : ℕ) → bits ≤ 64 → 2 ^ bits ≤ 2 ^ 64
room_of bits h = pow-le-pow_right {n = 2} (omega arith) {i = bits} {j = 64} h

pub narrow_width : (width : Width) → is_wide width ≡ false → Narrow width
narrow_width W8 e = record { narrow = refl; some = omega arith; room = room_of 8 (omega arith); load_is = refl; load_raw = λ old n. refl; store_is = refl }
narrow_width W16 e = record { narrow = refl; some = omega arith; room = room_of 16 (omega arith); load_is = refl; load_raw = λ old n. refl; store_is = refl }
narrow_width W32 e = record { narrow = refl; some = omega arith; room = room_of 32 (omega arith); load_is = refl; load_raw = λ old n. refl; store_is = refl }
narrow_width W64 e = record { narrow = refl; some = omega arith; room = room_of 64 (omega arith); load_is = refl; load_raw = λ old n. refl; store_is = refl }
narrow_width W128 e = absurd (false≢true (sym e))

-- of 4 or 8, which the instructions of the A extension have
abbrev pub IsAtomicWidth : Width → Type 0
IsAtomicWidth W32 = Unit {0}
IsAtomicWidth W64 = Unit {0}
IsAtomicWidth _ = ⊥

pub record AtomicWidth (width : Width) : Type 0 where
  pub narrow : is_wide width ≡ false
  pub room : 2 ^ bits_of width ≤ 2 ^ 64
  pub bytes_is : size_bytes (size_of width) ≡ bytes_of width
  pub one_register : nat_eq (size_bytes (size_of width)) 16 ≡ false
  pub raw_is : (old n : ℕ) → extended (bytes_of width) (size_rest (size_of width)) old n ≡ raw_of width n

pub atomic_width : (width : Width) → IsAtomicWidth width → AtomicWidth width
atomic_width W32 h = record { narrow = refl; room = room_of 32 (omega arith); bytes_is = refl; one_register = refl; raw_is = λ old n. refl }
atomic_width W64 h = record { narrow = refl; room = room_of 64 (omega arith); bytes_is = refl; one_register = refl; raw_is = λ old n. refl }
atomic_width W8 h = absurd h
atomic_width W16 h = absurd h
atomic_width W128 h = absurd h

-- an object is a part of the word of a pair, or one itself
pub narrow_or_whole : (width : Width) → is_wide width ≡ false → (is_narrow width ≡ true) ⊎ IsAtomicWidth width
narrow_or_whole W8 h = inl refl
narrow_or_whole W16 h = inl refl
narrow_or_whole W32 h = inr tt
narrow_or_whole W64 h = inr tt
narrow_or_whole W128 h = absurd (false≢true (sym h))

pub whole_width : (width : Width) → IsAtomicWidth width → is_narrow width ≡ false
whole_width W32 h = refl
whole_width W64 h = refl
whole_width W8 h = absurd h
whole_width W16 h = absurd h
whole_width W128 h = absurd h

-- ---- ways
-- a read-modify-write that is one instruction
abbrev pub HasAmo : RmwOp → Type 0
HasAmo rmw.Nand = ⊥
HasAmo o = Unit {0}

pub amo_or_nand : (o : RmwOp) → (o ≡ rmw.Nand) ⊎ HasAmo o
amo_or_nand rmw.Xchg = inr tt
amo_or_nand rmw.Add = inr tt
amo_or_nand rmw.Sub = inr tt
amo_or_nand rmw.And = inr tt
amo_or_nand rmw.Nand = inl refl
amo_or_nand rmw.Or = inr tt
amo_or_nand rmw.Xor = inr tt
amo_or_nand rmw.Max = inr tt
amo_or_nand rmw.Min = inr tt
amo_or_nand rmw.UMax = inr tt
amo_or_nand rmw.UMin = inr tt

module _ (zabha zacas : Bool) where
  -- the way has code
  abbrev Has : Op → Width → Type 0
  Has o width = is_coded_way (decided (Rv zabha zacas) o width (bytes_of width)) ≡ true

  pub load_way : (width : Width) → Has op.Load width → is_wide width ≡ false
  load_way W8 h = refl
  load_way W16 h = refl
  load_way W32 h = refl
  load_way W64 h = refl
  load_way W128 h = absurd (false≢true h)

  pub store_way : (width : Width) → Has op.Store width → is_wide width ≡ false
  store_way W8 h = refl
  store_way W16 h = refl
  store_way W32 h = refl
  store_way W64 h = refl
  store_way W128 h = absurd (false≢true h)

  pub exchange_way : (width : Width) → Has op.Cmpxchg width → is_wide width ≡ false
  exchange_way W8 h = refl
  exchange_way W16 h = refl
  exchange_way W32 h = refl
  exchange_way W64 h = refl
  exchange_way W128 h = absurd (false≢true h)

  pub update_way : (o : RmwOp) (width : Width) → Has (op.Rmw o) width → is_wide width ≡ false
  update_way o W8 h = refl
  update_way o W16 h = refl
  update_way o W32 h = refl
  update_way o W64 h = refl
  update_way o W128 h = absurd (false≢true h)

  -- ---- so many words as registers
  words_one : (width : Width) → is_wide width ≡ false → words width 1 ≡ 1
  words_one width narrow = ap (λ (b : Bool). if b then 2 * 1 else 1) narrow

  words_two : (width : Width) → is_wide width ≡ false → words width 2 ≡ 2
  words_two width narrow = ap (λ (b : Bool). if b then 2 * 2 else 2) narrow

  pub words_are : (o : Op) (width : Width) → Has o width → (words_taken o width ≡ length (args_of_op o)) × (words_given o width ≡ length (results_of_op o))
  words_are op.Load width way = (refl, words_one width (load_way width way))
  words_are op.Store width way = (words_one width (store_way width way), refl)
  words_are op.Cmpxchg width way = (let narrow = exchange_way width way in (words_two width narrow, ap (λ n. n + 1) (words_one width narrow)))
  words_are (op.Rmw o) width way = (let e = words_one width (update_way o width way) in (e, e))
  words_are op.Fence width way = (refl, refl)

pub plain_width : (width : Width) → bytes_of width ≤ 8 → is_wide width ≡ false
plain_width W8 h = refl
plain_width W16 h = refl
plain_width W32 h = refl
plain_width W64 h = refl
plain_width W128 h = absurd (let q : 16 ≤ 8 = h in omega (arith, q))
