-- Every operation of the way Inline on RV64, and every plain access, is one access with straight code round it.
use Rattle.std.proofs.Common.{◌≡◌, ℕ, ◌+◌, ◌-◌, ◌%◌, ◌^◌, Bool, true, List, [], refl, sym, ap, ◌∙◌, subst, arith}
use Rattle.ax_words.specs.declared.mark.Op.TheVariants as op
use Rattle.ax_words.specs.declared.operation.RmwOp.{RmwOp}
use Rattle.ax_words.specs.declared.operation.RmwOp.TheVariants as rmw
use Rattle.ax_words.specs.declared.order.Order.{Order}
use Rattle.ax_words.specs.declared.order.Order.TheVariants.{Unordered, Monotonic, Acquire, Release, AcqRel, SeqCst}
use Rattle.ax_words.specs.declared.width.Width.{Width}
use Rattle.ax_words.specs.declared.width.Width.TheVariants.{W8, W16, W32, W64, W128}
use Rattle.ax_words.specs.Width.{bits_of, bytes_of}
use Rattle.ax_ops.specs.Operation.{result_of}
use Rattle.ax_target.specs.declared.decision.Way.TheVariants.{Inline}
use Rattle.ax_target.specs.declared.target.Target.{Target}
use Rattle.ax_target.specs.declared.target.Target.TheVariants.{Rv}
use Rattle.ax_isa.specs.declared.effects.Effect.TheVariants as effect
use Rattle.ax_isa.specs.Processor.{Processor}
use Rattle.ax_isa.specs.Steps.{extended}
use Rattle.ax_rv.specs.declared.instructions.FenceSets.{FenceSets}
use Rattle.ax_rv.specs.Instructions.{effect_of, operation_of, read, rv_kind, size_rest}
use Rattle.ax_fine.specs.OnBytes.{IsObject, atomic_doing, load_doing, store_doing}
use Rattle.ax_expand.specs.Accesses.{OneAccess}
use Rattle.ax_expand.specs.Doing.{Doing}
use Rattle.ax_expand.specs.Operation.{Keeps}
use Rattle.ax_expand.specs.Shared.{Shared}
use Rattle.ax_emit_rv.specs.Laws.{is_kept}
use Rattle.ax_llsc.specs.Loops.{clear, size_of}
use Rattle.ax_llsc.specs.Codes.{Atomic, IsPrepared, PlainLoad, PlainStore, Registers, amo_of, atomic_registers, before_load, before_store, behind_load, fence_instr, fencing, loading, negated, operand_of, plain_registers, rounding, storing, updating}
use Rattle.ax_llsc.specs.Rounds.{IsRounding, all, raw_regs, unfinished}
use Rattle.ax_llsc.proofs.Accesses.{IsRead, is_amo, is_fencing, is_load, is_store}
use Rattle.ax_llsc.proofs.Acts.{ActsAlone, atomic_fences, atomic_loads, atomic_stores, atomic_updates, fence_alone, load_alone, plain_load_alone, plain_store_alone, plain_stores, store_alone, update_alone}
use Rattle.ax_llsc.proofs.Around.{fenced_to, fences_then, over_clear, over_prepare, stays}
use Rattle.ax_llsc.proofs.Ways.{HasAmo, IsAtomicWidth, Narrow, atomic_width, narrow_width}

-- ---- read-modify-writes
amo_reads : (o : RmwOp) (c : Processor) → read (operand_of o) c ≡ c.regs (operand_of o)
amo_reads rmw.Xchg c = refl
amo_reads rmw.Add c = refl
amo_reads rmw.Sub c = refl
amo_reads rmw.And c = refl
amo_reads rmw.Nand c = refl
amo_reads rmw.Or c = refl
amo_reads rmw.Xor c = refl
amo_reads rmw.Max c = refl
amo_reads rmw.Min c = refl
amo_reads rmw.UMax c = refl
amo_reads rmw.UMin c = refl

-- the sum with a negative is the difference
sum_word : (old n m : ℕ) → m ≡ negated n → (old + m % 2 ^ 32) % 2 ^ 32 ≡ (old + (2 ^ 32 - n % 2 ^ 32)) % 2 ^ 32
sum_word old n m h = let q : m ≡ 2 ^ 64 - 1 - (n + (2 ^ 64 - 1)) % 2 ^ 64 = h in omega (arith, q)

sum_double : (old n m : ℕ) → m ≡ negated n → (old + m % 2 ^ 64) % 2 ^ 64 ≡ (old + (2 ^ 64 - n % 2 ^ 64)) % 2 ^ 64
sum_double old n m h = let q : m ≡ 2 ^ 64 - 1 - (n + (2 ^ 64 - 1)) % 2 ^ 64 = h in omega (arith, q)

amo_leaves : (o : RmwOp) (width : Width) (regs : ℕ → ℕ) (old : ℕ) → HasAmo o → IsAtomicWidth width → IsPrepared o regs → result_of (bits_of width) (operation_of (amo_of o)) old (regs (operand_of o) % 2 ^ bits_of width) ≡ result_of (bits_of width) o old (regs 11 % 2 ^ bits_of width)
amo_leaves rmw.Nand width regs old has size prepared = absurd has
amo_leaves rmw.Sub W32 regs old has size prepared = sum_word old (regs 11) (regs 5) prepared
amo_leaves rmw.Sub W64 regs old has size prepared = sum_double old (regs 11) (regs 5) prepared
amo_leaves rmw.Sub W8 regs old has size prepared = absurd size
amo_leaves rmw.Sub W16 regs old has size prepared = absurd size
amo_leaves rmw.Sub W128 regs old has size prepared = absurd size
amo_leaves rmw.Xchg width regs old has size prepared = refl
amo_leaves rmw.Add width regs old has size prepared = refl
amo_leaves rmw.And width regs old has size prepared = refl
amo_leaves rmw.Or width regs old has size prepared = refl
amo_leaves rmw.Xor width regs old has size prepared = refl
amo_leaves rmw.Max width regs old has size prepared = refl
amo_leaves rmw.Min width regs old has size prepared = refl
amo_leaves rmw.UMax width regs old has size prepared = refl
amo_leaves rmw.UMin width regs old has size prepared = refl

-- ---- what is to be shown of each
fence_nothing : (order : Order) (c : Processor) → effect_of (fence_instr order) c ≡ effect.Nop
fence_nothing Unordered c = refl
fence_nothing Monotonic c = refl
fence_nothing Acquire c = refl
fence_nothing Release c = refl
fence_nothing AcqRel c = refl
fence_nothing SeqCst c = refl

-- registers that are not the zero register and are kept
record AreRegisters (g : Registers) : Type 0 where
  pub address_read : IsRead g.address
  pub number_read : IsRead g.number
  pub result_read : IsRead g.result
  pub address_kept : g.keeps g.address ≡ true
  pub number_kept : g.keeps g.number ≡ true
  pub result_kept : g.keeps g.result ≡ true

are_atomic_registers : AreRegisters atomic_registers
are_atomic_registers = record { address_read = λ c. refl; number_read = λ c. refl; result_read = λ c. refl; address_kept = refl; number_kept = refl; result_kept = refl }

are_plain_registers : AreRegisters plain_registers
are_plain_registers = record { address_read = λ c. refl; number_read = λ c. refl; result_read = λ c. refl; address_kept = refl; number_kept = refl; result_kept = refl }

module _ (width : Width) (fact : Narrow width) (doing : Doing Shared) (object : (a : ℕ) (args : List ℕ) (w : Shared) → doing.fits a args w → IsObject a (bytes_of width) w) where
  loading_is : (g : Registers) → AreRegisters g → (before behind : List FenceSets) → ActsAlone doing (bits_of width) 1 → OneAccess rv_kind all (loading g doing width before behind).access (unfinished (loading g doing width before behind)) → IsRounding (loading g doing width before behind)
  loading_is g at before behind alone access =
      record {
        access = access;
        brings = λ y. fenced_to before y (λ regs. Keeps g.keeps regs y.cpu.regs × Unit {0}) (λ q k. refl, tt);
        puts = λ y regs small same. fences_then behind (clear g.result width) y (λ left. Keeps g.keeps left regs) (λ next is. over_clear g.keeps g.result at.result_read at.result_kept width next regs small.0 (subst (λ f. Keeps g.keeps f (raw_regs (loading g doing width before behind) regs)) (sym is) same));
        acts = λ p a args seen w r fit e. (alone.small p a args seen w r fit e, alone.many p a args seen w r e);
        one = omega arith;
        address_kept = at.address_kept;
        args_kept = tt;
      }

  storing_is : (g : Registers) → AreRegisters g → (before : List FenceSets) → ActsAlone doing (bits_of width) 0 → OneAccess rv_kind all (storing g doing width before).access (unfinished (storing g doing width before)) → IsRounding (storing g doing width before)
  storing_is g at before alone access =
      record {
        access = access;
        brings = λ y. fenced_to before y (λ regs. Keeps g.keeps regs y.cpu.regs × Unit {0}) (λ q k. refl, tt);
        puts = λ y regs small same. stays y (λ left. Keeps g.keeps left regs) same;
        acts = λ p a args seen w r fit e. (alone.small p a args seen w r fit e, alone.many p a args seen w r e);
        one = omega arith;
        address_kept = at.address_kept;
        args_kept = (at.number_kept, tt);
      }

  updating_is : (o : RmwOp) (order : Order) → ActsAlone doing (bits_of width) 1 → OneAccess rv_kind all (updating doing o width order).access (unfinished (updating doing o width order)) → IsRounding (updating doing o width order)
  updating_is o order alone access =
      record {
        access = access;
        brings = over_prepare o;
        puts = λ y regs small same. over_clear is_kept 15 (λ c. refl) refl width y regs small.0 same;
        acts = λ p a args seen w r fit e. (alone.small p a args seen w r fit e, alone.many p a args seen w r e);
        one = omega arith;
        address_kept = refl;
        args_kept = (refl, tt);
      }

fencing_is : (doing : Doing Shared) (order : Order) → ActsAlone doing 0 0 → OneAccess rv_kind all (fence_instr order) (unfinished (fencing doing (fence_instr order))) → IsRounding (fencing doing (fence_instr order))
fencing_is doing order alone access =
    record {
      access = access;
      brings = λ y. stays y (λ regs. Keeps is_kept regs y.cpu.regs × Unit {0}) (λ q k. refl, tt);
      puts = λ y regs small same. stays y (λ left. Keeps is_kept left regs) same;
      acts = λ p a args seen w r fit e. (alone.small p a args seen w r fit e, alone.many p a args seen w r e);
      one = omega arith;
      address_kept = refl;
      args_kept = tt;
    }

-- ---- the code of each
module _ (zabha zacas : Bool) where
  abbrev target : Target
  target = Rv zabha zacas

  pub load_rounding : (width : Width) (order : Order) (weak : Bool) → Narrow width → IsRounding (rounding target (Atomic op.Load width order weak))
  load_rounding width order weak f =
      let doing = atomic_doing target op.Load width order weak in
      loading_is width f doing (λ a args w fit. fit) atomic_registers are_atomic_registers (before_load order) (behind_load order) (load_alone zabha zacas width f.narrow f.room order weak)
      (is_load doing width f.some (λ a args w fit. fit) atomic_registers are_atomic_registers.address_read (before_load order) (behind_load order) f.load_is f.load_raw (λ p a seen w fit. atomic_loads zabha zacas width f.narrow f.room order weak p a [] seen w fit))

  pub store_rounding : (width : Width) (order : Order) (weak : Bool) → Narrow width → IsRounding (rounding target (Atomic op.Store width order weak))
  store_rounding width order weak f =
      let doing = atomic_doing target op.Store width order weak in
      storing_is width f doing (λ a args w fit. fit) atomic_registers are_atomic_registers (before_store order) (store_alone zabha zacas width f.narrow f.room order weak)
      (is_store doing width f.some (λ a args w fit. fit) atomic_registers are_atomic_registers.address_read are_atomic_registers.number_read (before_store order) f.store_is (λ p a v seen w none. atomic_stores zabha zacas width f.narrow f.room order weak p a v seen w none))

  pub update_rounding : (o : RmwOp) (width : Width) (order : Order) (weak : Bool) → HasAmo o → IsAtomicWidth width → IsRounding (rounding target (Atomic (op.Rmw o) width order weak))
  update_rounding o width order weak has size =
      let doing = atomic_doing target (op.Rmw o) width order weak in
      let m = atomic_width width size in
      let f = narrow_width width m.narrow in
      updating_is width f doing (λ a args w fit. fit) o order (update_alone zabha zacas width f.narrow f.room order weak o)
      (is_amo doing width f.some (λ a args w fit. fit) o m.bytes_is m.one_register (λ old n. ap (λ k. extended k (size_rest (size_of width)) old n) m.bytes_is ∙ m.raw_is old n) (λ regs old prepared. amo_leaves o width regs old has size prepared) (λ p a v seen w fit none. atomic_updates zabha zacas width f.narrow f.room order weak o p a v seen w fit none) (amo_reads o) order)

  pub fence_rounding : (width : Width) (order : Order) (weak : Bool) → IsRounding (rounding target (Atomic op.Fence width order weak))
  fence_rounding width order weak =
      let doing = atomic_doing target op.Fence width order weak in
      fencing_is doing order (fence_alone zabha zacas width order weak) (is_fencing doing (fence_instr order) (fence_nothing order) (λ p a seen w none. atomic_fences zabha zacas W64 refl (omega arith) order weak p a [] seen w none))

  pub plain_load_rounding : (width : Width) → Narrow width → IsRounding (rounding target (PlainLoad width))
  plain_load_rounding width f =
      let doing = load_doing target (bytes_of width) in
      loading_is width f doing (λ a args w fit. fit) plain_registers are_plain_registers [] [] (plain_load_alone zabha zacas width) (is_load doing width f.some (λ a args w fit. fit) plain_registers are_plain_registers.address_read [] [] f.load_is f.load_raw (λ p a seen w fit. refl))

  pub plain_store_rounding : (width : Width) → Narrow width → IsRounding (rounding target (PlainStore width))
  plain_store_rounding width f =
      let doing = store_doing target (bytes_of width) in
      storing_is width f doing (λ a args w fit. fit) plain_registers are_plain_registers [] (plain_store_alone zabha zacas width) (is_store doing width f.some (λ a args w fit. fit) plain_registers are_plain_registers.address_read are_plain_registers.number_read [] f.store_is (λ p a v seen w none. plain_stores zabha zacas width p a v seen w))
