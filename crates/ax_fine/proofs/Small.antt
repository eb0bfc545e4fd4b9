-- Registers stay below 2 ^ 64 and bytes of the frame below 2 ^ 8 over each line that touches nothing else; and what no line changes.
use Rattle.std.proofs.Common.{◌≡◌, ℕ, zero, suc, ◌+◌, ◌-◌, ◌*◌, ◌/◌, ◌%◌, ◌^◌, ◌<◌, ◌≤◌, Bool, true, false, ◌&&◌, not, List, [], ◌∷◌, ◌++◌, ℤ, pos, negsuc, Option, Some, None, refl, sym, ap, ◌∙◌, subst, arith, map, slice_get}
use Rattle.std.specs.Prelude.{if◌then◌else◌, nat_eq, nat_lt, slice_index_or}
use Rattle.std.proofs.Math.Nat.{div-le_self, mod-le, pow-le-pow_right}
use Rattle.std.proofs.lemmas.Nat.{and_le_l, mod_below, or_lt, pow_pos, xor_lt}
use Rattle.std.proofs.lemmas.Option.{none-some, same_Some}
use Rattle.ax_words.specs.declared.mark.Op.{Op}
use Rattle.ax_words.specs.declared.mark.Op.TheVariants as op
use Rattle.ax_words.specs.declared.source.SourceStatus.{SourceStatus}
use Rattle.ax_words.specs.declared.width.Width.{Width}
use Rattle.ax_words.specs.declared.width.Width.TheVariants.{W8, W16, W32, W64, W128}
use Rattle.ax_words.specs.Width.{bits_of, bytes_of}
use Rattle.ax_ops.specs.Operation.{signed}
use Rattle.ax_map.specs.Map.{covers}
use Rattle.ax_store.specs.Bytes.{byte_of, number_at, written}
use Rattle.ax_store.proofs.Numbers.{number_small}
use Rattle.ax_target.specs.declared.target.Target.{Target}
use Rattle.ax_source_run.specs.SourceAccess.{put_at}
use Rattle.ax_source_run.specs.SourceValues.{number_of_flag, shifted_down, wrapped}
use Rattle.ax_mid.specs.declared.code.Mid.{Mid}
use Rattle.ax_mid.specs.declared.instruction.MidInst.{MidInst}
use Rattle.ax_mid.specs.declared.instruction.MidInst.TheVariants as mid
use Rattle.ax_mid.specs.declared.instruction.MidOp.{MidOp}
use Rattle.ax_mid.specs.declared.instruction.MidOp.TheVariants.{Add, Sub, Mul, And, Or, Xor, Eq, Ne, Ult, Ule, Slt, Sle}
use Rattle.ax_mid.specs.declared.instruction.MidShift.{MidShift}
use Rattle.ax_mid.specs.declared.instruction.MidShift.TheVariants.{Shl, Lshr, Ashr}
use Rattle.ax_mid.specs.Machine.{argument, is_wide, loaded, operation_of, parts_of, private_step, put_all, read_all, results_of, spot, stored}
use Rattle.ax_mid.specs.Numbers.{applied, extended, selected, shifted}
use Rattle.ax_mid.specs.Processor.{MidProcessor, gets}
use Rattle.ax_mid.specs.Spots.{Spot, Own, Element, Nowhere}
use Rattle.ax_fine.specs.Near.{IsSmall, IsSmallInst}
use Rattle.ax_fine.proofs.World.{Stores}

-- ---- numbers
flag_small : (b : Bool) → number_of_flag b < 2 ^ 64
flag_small true = omega arith
flag_small false = omega arith

below_64 : (n : ℕ) → n % 2 ^ 64 < 2 ^ 64
below_64 n = omega arith

applied_small : (o : MidOp) (a b : ℕ) → a < 2 ^ 64 → b < 2 ^ 64 → applied o a b < 2 ^ 64
applied_small Add a b h k = below_64 (a + b)
applied_small Sub a b h k = below_64 (a + (2 ^ 64 - b))
applied_small Mul a b h k = below_64 (a * b)
applied_small And a b h k = omega (arith, h, and_le_l a b)
applied_small Or a b h k = or_lt 64 a b h k
applied_small Xor a b h k = xor_lt 64 a b h k
applied_small Eq a b h k = flag_small _
applied_small Ne a b h k = flag_small _
applied_small Ult a b h k = flag_small _
applied_small Ule a b h k = flag_small _
applied_small Slt a b h k = flag_small _
applied_small Sle a b h k = flag_small _

shifted_small : (o : MidShift) (a n : ℕ) → a < 2 ^ 64 → shifted o a n < 2 ^ 64
shifted_small Shl a n h = below_64 (a * 2 ^ n)
shifted_small Lshr a n h = let e = div-le_self a (2 ^ n) in omega (arith, h, e)
shifted_small Ashr a n h = by (nat_lt a (2 ^ 63))
  where
    by : (b : Bool) → (if b then a / 2 ^ n else 2 ^ 64 - 1 - (2 ^ 64 - 1 - a) / 2 ^ n) < 2 ^ 64
    by true = let e = div-le_self a (2 ^ n) in omega (arith, h, e)
    by false = omega arith

wrapped_small : (z : ℤ) → wrapped 64 z < 2 ^ 64
wrapped_small (pos n) = below_64 n
wrapped_small (negsuc n) = omega arith

extended_small : (bits : ℕ) (sign : Bool) (a : ℕ) → a < 2 ^ 64 → extended bits sign a < 2 ^ 64
extended_small bits false a h = let e = mod-le a (2 ^ bits) in omega (arith, h, e)
extended_small bits true a h = wrapped_small (signed bits (a % 2 ^ bits))

selected_small : (test a b : ℕ) → a < 2 ^ 64 → b < 2 ^ 64 → selected test a b < 2 ^ 64
selected_small test a b h k = by (nat_eq test 0)
  where
    by : (t : Bool) → (if t then b else a) < 2 ^ 64
    by true = k
    by false = h

bytes_small : (f : ℕ → ℕ) (a n : ℕ) → ((b : ℕ) → f b < 2 ^ 8) → n ≤ 8 → number_at f a n < 2 ^ 64
bytes_small f a n h few =
    let less = number_small f h a n in
    let up = pow-le-pow_right {n = 2} (omega arith) {i = 8 * n} {j = 64} (omega (arith, few)) in
    omega (arith, less, up)

pub put_below : (f : ℕ → ℕ) (k v bound : ℕ) → ((r : ℕ) → f r < bound) → v < bound → (r : ℕ) → put_at f k v r < bound
put_below f k v bound h less r = by (nat_eq r k)
  where
    by : (t : Bool) → (if t then v else f r) < bound
    by true = less
    by false = h r

written_small : (f : ℕ → ℕ) (a n v : ℕ) → ((b : ℕ) → f b < 2 ^ 8) → (b : ℕ) → written f a n v b < 2 ^ 8
written_small f a n v h b = by (covers a n b)
  where
    byte : byte_of v (b - a) < 2 ^ 8
    byte = omega arith

    by : (t : Bool) → (if t then byte_of v (b - a) else f b) < 2 ^ 8
    by true = byte
    by false = h b

-- ---- lines
module _ {R : Type 0} (key : R → ℕ) (target : Target) (code : Mid R) (base : ℕ) where
  gets_small : (m : MidProcessor) (r v : ℕ) → IsSmall m → v < 2 ^ 64 → (y : MidProcessor) → Some (gets r v m) ≡ Some y → IsSmall y
  gets_small m r v small less y e = subst IsSmall (same_Some (gets r v m) y e) (record { regs = put_below m.regs r v (2 ^ 64) small.regs less; frame = small.frame })

  goes_small : (m n : MidProcessor) → IsSmall m → n.regs ≡ m.regs → n.frame ≡ m.frame → (y : MidProcessor) → Some n ≡ Some y → IsSmall y
  goes_small m n small regs frame y e =
      subst IsSmall (same_Some n y e) (record { regs = λ r. subst (λ (f : ℕ → ℕ). f r < 2 ^ 64) (sym regs) (small.regs r); frame = λ b. subst (λ (f : ℕ → ℕ). f b < 2 ^ 8) (sym frame) (small.frame b) })

  load_small : (sp : Spot) (to n : ℕ) (m : MidProcessor) → IsSmall m → n ≤ 8 → (y : MidProcessor) → loaded key target code base sp to n m ≡ Some y → IsSmall y
  load_small (Own offset) to n m small few y e = gets_small m to (number_at m.frame offset n) small (bytes_small m.frame offset n small.frame few) y e
  load_small (Element g i) to n m small few y e = absurd (none-some y e)
  load_small Nowhere to n m small few y e = absurd (none-some y e)

  store_small : (sp : Spot) (v n : ℕ) (m : MidProcessor) → IsSmall m → (y : MidProcessor) → stored key target code base sp v n m ≡ Some y → IsSmall y
  store_small (Own offset) v n m small y e =
      subst IsSmall (same_Some (record m { place = m.place + 1; frame = written m.frame offset n v }) y e) (record { regs = small.regs; frame = written_small m.frame offset n v small.frame })
  store_small (Element g i) v n m small y e = absurd (none-some y e)
  store_small Nowhere v n m small y e = absurd (none-some y e)

  pub step_small : (i : MidInst R) (m y : MidProcessor) → private_step key target code base i m ≡ Some y → IsSmallInst base i → IsSmall m → IsSmall y
  unfolding private_step
  step_small (mid.Const to n) m y e is small = gets_small m (key to) n small is y e
  step_small (mid.Copy to from) m y e is small = gets_small m (key to) (m.regs (key from)) small (small.regs (key from)) y e
  step_small (mid.Apply o to left right) m y e is small = gets_small m (key to) (applied o (m.regs (key left)) (m.regs (key right))) small (applied_small o _ _ (small.regs (key left)) (small.regs (key right))) y e
  step_small (mid.Shift o to from n) m y e is small = gets_small m (key to) (shifted o (m.regs (key from)) n) small (shifted_small o (m.regs (key from)) n (small.regs (key from))) y e
  step_small (mid.Extend to from bits sign) m y e is small = gets_small m (key to) (extended bits sign (m.regs (key from))) small (extended_small bits sign (m.regs (key from)) (small.regs (key from))) y e
  step_small (mid.Select to test a b) m y e is small = gets_small m (key to) (selected (m.regs (key test)) (m.regs (key a)) (m.regs (key b))) small (selected_small (m.regs (key test)) _ _ (small.regs (key a)) (small.regs (key b))) y e
  step_small (mid.FrameAddress to offset) m y e is small = gets_small m (key to) (base + offset) small is y e
  step_small (mid.Load to address n) m y e is small = load_small (spot key target code base m address n) (key to) n m small is.1 y e
  step_small (mid.Store address from n) m y e is small = store_small (spot key target code base m address n) (m.regs (key from)) n m small y e
  step_small (mid.Label n) m y e is small = goes_small m _ small refl refl y e
  step_small (mid.Jump n) m y e is small = goes_small m _ small refl refl y e
  step_small (mid.Branch test a b) m y e is small = goes_small m _ small refl refl y e
  step_small mid.Nop m y e is small = goes_small m _ small refl refl y e
  step_small (mid.Atomic o width order weak address args results) m y e is small = absurd (none-some y e)
  step_small (mid.Call routine role args results) m y e is small = absurd (none-some y e)
  step_small (mid.Out from) m y e is small = absurd (none-some y e)
  step_small mid.Trap m y e is small = absurd (none-some y e)
  step_small mid.Ret m y e is small = absurd (none-some y e)

  -- ---- the status stays
  status_of : (n y : MidProcessor) (st : SourceStatus) → n.status ≡ st → Some n ≡ Some y → y.status ≡ st
  status_of n y st is e = subst (λ (z : MidProcessor). z.status ≡ st) (same_Some n y e) is

  load_status : (sp : Spot) (to n : ℕ) (m y : MidProcessor) → loaded key target code base sp to n m ≡ Some y → y.status ≡ m.status
  load_status (Own offset) to n m y e = status_of _ y m.status refl e
  load_status (Element g i) to n m y e = absurd (none-some y e)
  load_status Nowhere to n m y e = absurd (none-some y e)

  store_status : (sp : Spot) (v n : ℕ) (m y : MidProcessor) → stored key target code base sp v n m ≡ Some y → y.status ≡ m.status
  store_status (Own offset) v n m y e = status_of _ y m.status refl e
  store_status (Element g i) v n m y e = absurd (none-some y e)
  store_status Nowhere v n m y e = absurd (none-some y e)

  pub step_status : (i : MidInst R) (m y : MidProcessor) → private_step key target code base i m ≡ Some y → y.status ≡ m.status
  unfolding private_step
  step_status (mid.Const to n) m y e = status_of _ y m.status refl e
  step_status (mid.Copy to from) m y e = status_of _ y m.status refl e
  step_status (mid.Apply o to left right) m y e = status_of _ y m.status refl e
  step_status (mid.Shift o to from n) m y e = status_of _ y m.status refl e
  step_status (mid.Extend to from bits sign) m y e = status_of _ y m.status refl e
  step_status (mid.Select to test a b) m y e = status_of _ y m.status refl e
  step_status (mid.FrameAddress to offset) m y e = status_of _ y m.status refl e
  step_status (mid.Load to address n) m y e = load_status (spot key target code base m address n) (key to) n m y e
  step_status (mid.Store address from n) m y e = store_status (spot key target code base m address n) (m.regs (key from)) n m y e
  step_status (mid.Label n) m y e = status_of _ y m.status refl e
  step_status (mid.Jump n) m y e = status_of _ y m.status refl e
  step_status (mid.Branch test a b) m y e = status_of _ y m.status refl e
  step_status mid.Nop m y e = status_of _ y m.status refl e
  step_status (mid.Atomic o width order weak address args results) m y e = absurd (none-some y e)
  step_status (mid.Call routine role args results) m y e = absurd (none-some y e)
  step_status (mid.Out from) m y e = absurd (none-some y e)
  step_status mid.Trap m y e = absurd (none-some y e)
  step_status mid.Ret m y e = absurd (none-some y e)

-- ---- what an operation takes and gives
-- each of these is below a bound
abbrev pub Below : ℕ → List ℕ → Type 0
Below bound [] = Unit {0}
Below bound (n ∷ ns) = n < bound × Below bound ns

pub below_at : (bound : ℕ) (ns : List ℕ) (k : ℕ) → 0 < bound → Below bound ns → slice_index_or ns k 0 < bound
below_at bound [] k some all = some
below_at bound (n ∷ ns) zero some all = all.0
below_at bound (n ∷ ns) (suc k) some all = below_at bound ns k some all.1

pub read_below : {R : Type 0} (key : R → ℕ) (rs : List R) (regs : ℕ → ℕ) (bound : ℕ) → ((r : ℕ) → regs r < bound) → Below bound (read_all key rs regs)
read_below key [] regs bound h = tt
read_below key (r ∷ rs) regs bound h = (h (key r), read_below key rs regs bound h)

pub put_all_below : {R : Type 0} (key : R → ℕ) (rs : List R) (ns : List ℕ) (regs : ℕ → ℕ) (bound : ℕ) → ((r : ℕ) → regs r < bound) → Below bound ns → (r : ℕ) → put_all key rs ns regs r < bound
put_all_below key [] ns regs bound h all r = h r
put_all_below key (x ∷ rs) [] regs bound h all r = h r
put_all_below key (x ∷ rs) (n ∷ ns) regs bound h all r = put_all_below key rs ns (put_at regs (key x) n) bound (put_below regs (key x) n bound h all.0) all.1 r

pub put_none : {R : Type 0} (key : R → ℕ) (rs : List R) (regs : ℕ → ℕ) → put_all key rs [] regs ≡ regs
put_none key [] regs = refl
put_none key (x ∷ rs) regs = refl

pub argument_small : (width : Width) (ns : List ℕ) (k : ℕ) → Below (2 ^ 64) ns → argument width ns k < 2 ^ bits_of width
argument_small W8 ns k all = omega arith
argument_small W16 ns k all = omega arith
argument_small W32 ns k all = omega arith
argument_small W64 ns k all = omega arith
argument_small W128 ns k all =
    let low = below_at (2 ^ 64) ns (2 * k) (omega arith) all in
    let high = below_at (2 ^ 64) ns (2 * k + 1) (omega arith) all in
    omega (arith, low, high)

pub operation_small : (o : Op) (width : Width) (ns : List ℕ) → Below (2 ^ 64) ns → Stores (bits_of width) (operation_of o width ns)
operation_small op.Load width ns all = tt
operation_small op.Store width ns all = argument_small width ns 0 all
operation_small op.Cmpxchg width ns all = argument_small width ns 1 all
operation_small (op.Rmw operation) width ns all = argument_small width ns 0 all
operation_small op.Fence width ns all = tt

parts_below : (width : Width) (n : ℕ) → n < 2 ^ bits_of width → Below (2 ^ 64) (parts_of (is_wide width) n)
parts_below W8 n h = (omega arith, tt)
parts_below W16 n h = (omega arith, tt)
parts_below W32 n h = (omega arith, tt)
parts_below W64 n h = (omega arith, tt)
parts_below W128 n h = (omega arith, (omega (arith, h), tt))

both_below : (bound : ℕ) (xs ys : List ℕ) → Below bound xs → Below bound ys → Below bound (xs ++ ys)
both_below bound [] ys h k = k
both_below bound (x ∷ xs) ys h k = (h.0, both_below bound xs ys h.1 k)

pub results_small : (o : Op) (width : Width) (n : ℕ) (equal : Bool) → n < 2 ^ bits_of width → Below (2 ^ 64) (results_of o width n equal)
results_small op.Load width n equal h = parts_below width n h
results_small op.Store width n equal h = tt
results_small op.Cmpxchg width n equal h = both_below (2 ^ 64) (parts_of (is_wide width) n) (number_of_flag equal ∷ []) (parts_below width n h) (flag_small equal, tt)
results_small (op.Rmw operation) width n equal h = parts_below width n h
results_small op.Fence width n equal h = tt
