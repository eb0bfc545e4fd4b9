-- Every operation that has code: it is an expansion, idles few steps, and has one length.
use Rattle.std.proofs.Common.{◌≡◌, ℕ, ◌+◌, ◌≤◌, Bool, true, false, List, [], ◌∷◌, length, refl, sym, ap, ◌∙◌, subst, arith}
use Rattle.std.proofs.lemmas.Bool.{false≢true}
use Rattle.ax_words.specs.declared.mark.Op.{Op}
use Rattle.ax_words.specs.declared.mark.Op.TheVariants as op
use Rattle.ax_words.specs.declared.operation.RmwOp.{RmwOp}
use Rattle.ax_words.specs.declared.operation.RmwOp.TheVariants as rmw
use Rattle.ax_words.specs.declared.order.Order.{Order}
use Rattle.ax_words.specs.declared.width.Width.{Width}
use Rattle.ax_words.specs.declared.width.Width.TheVariants.{W8, W16, W32, W64, W128}
use Rattle.ax_words.specs.Width.{bytes_of}
use Rattle.ax_target.specs.declared.target.Target.TheVariants.{X86}
use Rattle.ax_source_run.specs.SourceInstructions.{is_seq_cst}
use Rattle.ax_mid.specs.Machine.{is_wide}
use Rattle.ax_x86.specs.declared.instructions.X86Instr.{X86Instr}
use Rattle.ax_x86.specs.Instructions.{x86_kind}
use Rattle.ax_fine.specs.OnBytes.{atomic_doing}
use Rattle.ax_expand.specs.Bytes.{bytes_world}
use Rattle.ax_expand.specs.Doing.{on_registers}
use Rattle.ax_expand.specs.Expands.{Expands}
use Rattle.ax_expand.specs.Operation.{Operation}
use Rattle.ax_expand.specs.Shared.{Shared}
use Rattle.ax_emit.specs.Atomics.{Counted}
use Rattle.ax_emit_x86.specs.Code.{Expansion}
use Rattle.ax_emit_x86.specs.Laws.{every, is_kept}
use Rattle.ax_cas.specs.Codes.{Atomic, Coded, IsCoded, PlainLoad, PlainStore, addition, asking, args_of_op, doing_of, exchange_of, expansion_of, fence_of, keeps_of, load_of, lone, narrow_exchange, narrow_store, narrow_update, negated, once, operation_of, results_of, results_of_op, store_of, swap, update_of, wide_exchange, wide_load, widened}
use Rattle.ax_cas.specs.Loops.{combined, is_signed, narrow_loop, wide_computation}
use Rattle.ax_cas.specs.Rounds.{IsRound, Straight}
use Rattle.ax_cas.proofs.Counts.{atomic_counted, load_counted, store_counted}
use Rattle.ax_cas.proofs.Inline as inline
use Rattle.ax_cas.proofs.Inline.{narrow_operation}
use Rattle.ax_cas.proofs.Narrow.{narrow_expands}
use Rattle.ax_cas.proofs.Rounds.{rounds}
use Rattle.ax_cas.proofs.Wide as wide
use Rattle.ax_cas.proofs.Wide.{wide_operation}
use Rattle.ax_cas.proofs.WideLoops as loops
use Rattle.ax_cas.proofs.Widths.{Narrow, narrow_width}

abbrev Expanding : (ℕ → Bool) → Operation Shared → Expansion → Type 0
Expanding keeps o e = Expands x86_kind bytes_world e.most keeps e.size e.piece o

-- by the law of one access
once_expands : (keeps : ℕ → Bool) (o : Operation Shared) (z : Straight X86Instr) → IsRound x86_kind keeps o z → Expanding keeps o (once z)
once_expands keeps o z h = rounds x86_kind keeps o z h

plain_width : (width : Width) → bytes_of width ≤ 8 → Narrow width
plain_width W8 h = narrow_width W8 refl
plain_width W16 h = narrow_width W16 refl
plain_width W32 h = narrow_width W32 refl
plain_width W64 h = narrow_width W64 refl
plain_width W128 h = absurd (let q : 16 ≤ 8 = h in omega (arith, q))

module _ (cx16 : Bool) (order : Order) (weak : Bool) where
  -- ---- up to 8 bytes
  narrow_updates : (o : RmwOp) (width : Width) → Narrow width → Expanding is_kept (narrow_operation cx16 (op.Rmw o) width order weak) (narrow_update o width)
  narrow_updates rmw.Xchg width f = once_expands is_kept (narrow_operation cx16 (op.Rmw rmw.Xchg) width order weak) (swap width) (inline.swap_rounds cx16 width f order weak)
  narrow_updates rmw.Add width f = once_expands is_kept (narrow_operation cx16 (op.Rmw rmw.Add) width order weak) (addition width []) (inline.addition_rounds cx16 width f order weak)
  narrow_updates rmw.Sub width f = once_expands is_kept (narrow_operation cx16 (op.Rmw rmw.Sub) width order weak) (addition width (negated width)) (inline.subtraction_rounds cx16 width f order weak)
  narrow_updates rmw.And width f = narrow_expands cx16 width f order weak rmw.And
  narrow_updates rmw.Nand width f = narrow_expands cx16 width f order weak rmw.Nand
  narrow_updates rmw.Or width f = narrow_expands cx16 width f order weak rmw.Or
  narrow_updates rmw.Xor width f = narrow_expands cx16 width f order weak rmw.Xor
  narrow_updates rmw.Max width f = narrow_expands cx16 width f order weak rmw.Max
  narrow_updates rmw.Min width f = narrow_expands cx16 width f order weak rmw.Min
  narrow_updates rmw.UMax width f = narrow_expands cx16 width f order weak rmw.UMax
  narrow_updates rmw.UMin width f = narrow_expands cx16 width f order weak rmw.UMin

  abbrev narrow_expansion : Op → Width → Expansion
  narrow_expansion op.Load width = load_of false width
  narrow_expansion op.Store width = store_of false width order
  narrow_expansion op.Cmpxchg width = exchange_of false width
  narrow_expansion (op.Rmw o) width = update_of false o width
  narrow_expansion op.Fence width = once (lone (fence_of (is_seq_cst order)))

  narrow_all : (o : Op) (width : Width) → Narrow width → Expanding is_kept (narrow_operation cx16 o width order weak) (narrow_expansion o width)
  narrow_all op.Load width f = once_expands is_kept (narrow_operation cx16 op.Load width order weak) _ (inline.load_rounds cx16 width f order weak)
  narrow_all op.Store width f = once_expands is_kept (narrow_operation cx16 op.Store width order weak) (narrow_store (is_seq_cst order) width) (inline.store_rounds cx16 width f order weak (is_seq_cst order) refl)
  narrow_all op.Cmpxchg width f = once_expands is_kept (narrow_operation cx16 op.Cmpxchg width order weak) (narrow_exchange width) (inline.exchange_rounds cx16 width f order weak)
  narrow_all (op.Rmw o) width f = narrow_updates o width f
  narrow_all op.Fence width f = once_expands is_kept (narrow_operation cx16 op.Fence width order weak) (lone (fence_of (is_seq_cst order))) (inline.fence_rounds cx16 width order weak false)

  -- ---- 16 bytes
  wide_all : (o : Op) → Expanding is_kept (wide_operation cx16 o order weak) (expansion_of (Atomic o W128 order weak))
  wide_all op.Load = once_expands is_kept (wide_operation cx16 op.Load order weak) wide_load (wide.load_rounds cx16 order weak)
  wide_all op.Store = loops.store_expands cx16 order weak
  wide_all op.Cmpxchg = once_expands is_kept (wide_operation cx16 op.Cmpxchg order weak) wide_exchange (wide.exchange_rounds cx16 order weak)
  wide_all (op.Rmw o) = loops.update_expands cx16 order weak o
  wide_all op.Fence = once_expands is_kept (wide_operation cx16 op.Fence order weak) (lone (fence_of (is_seq_cst order))) (inline.fence_rounds cx16 W128 order weak true)

  -- the code by its width
  abbrev expansion_by : Op → Width → Bool → Expansion
  expansion_by op.Load width b = load_of b width
  expansion_by op.Store width b = store_of b width order
  expansion_by op.Cmpxchg width b = exchange_of b width
  expansion_by (op.Rmw o) width b = update_of b o width
  expansion_by op.Fence width b = once (lone (fence_of (is_seq_cst order)))

  by_width : (o : Op) (width : Width) → expansion_of (Atomic o width order weak) ≡ expansion_by o width (is_wide width)
  by_width op.Load width = refl
  by_width op.Store width = refl
  by_width op.Cmpxchg width = refl
  by_width (op.Rmw o) width = refl
  by_width op.Fence width = refl

  by_narrow : (o : Op) (width : Width) → expansion_by o width false ≡ narrow_expansion o width
  by_narrow op.Load width = refl
  by_narrow op.Store width = refl
  by_narrow op.Cmpxchg width = refl
  by_narrow (op.Rmw o) width = refl
  by_narrow op.Fence width = refl

  narrow_here : (o : Op) (width : Width) → is_wide width ≡ false → Expanding is_kept (operation_of cx16 (Atomic o width order weak)) (expansion_of (Atomic o width order weak))
  narrow_here o width e =
      subst (λ q. Expanding is_kept (operation_of cx16 (Atomic o width order weak)) q) (sym (by_width o width))
      (subst (λ b. Expanding is_kept (on_registers (asking b (atomic_doing (X86 cx16) o width order weak)) 6 (args_of_op o b) (results_of_op o b)) (expansion_by o width b)) (sym e)
      (subst (λ q. Expanding is_kept (narrow_operation cx16 o width order weak) q) (sym (by_narrow o width)) (narrow_all o width (narrow_width width e))))

  atomic_expands : (o : Op) (width : Width) → Expanding is_kept (operation_of cx16 (Atomic o width order weak)) (expansion_of (Atomic o width order weak))
  atomic_expands o W8 = narrow_here o W8 refl
  atomic_expands o W16 = narrow_here o W16 refl
  atomic_expands o W32 = narrow_here o W32 refl
  atomic_expands o W64 = narrow_here o W64 refl
  atomic_expands o W128 = wide_all o

-- ---- THE LAWS
pub expands : (cx16 : Bool) (x : Coded) → IsCoded cx16 x → Expanding (keeps_of x) (operation_of cx16 x) (expansion_of x)
expands cx16 (Atomic o width order weak) way = atomic_expands cx16 order weak o width
expands cx16 (PlainLoad width) few = once_expands every (operation_of cx16 (PlainLoad width)) _ (inline.plain_load_rounds cx16 width (plain_width width few))
expands cx16 (PlainStore width) few = once_expands every (operation_of cx16 (PlainStore width)) _ (inline.plain_store_rounds cx16 width (plain_width width few))

pub are_counted : (cx16 : Bool) (x : Coded) → IsCoded cx16 x → Counted (doing_of cx16 x) (length (results_of x))
are_counted cx16 (Atomic o width order weak) way = atomic_counted (X86 cx16) o width order weak
are_counted cx16 (PlainLoad width) few = load_counted (X86 cx16) width (plain_width width few)
are_counted cx16 (PlainStore width) few = store_counted (X86 cx16) width

-- ---- idle steps
few_widened : (width : Width) → length (widened width) ≤ 1
few_widened W8 = omega arith
few_widened W16 = omega arith
few_widened W32 = omega arith
few_widened W64 = omega arith
few_widened W128 = omega arith

few_combined : (o : RmwOp) → length (combined o) ≤ 2
few_combined rmw.Xchg = omega arith
few_combined rmw.Add = omega arith
few_combined rmw.Sub = omega arith
few_combined rmw.And = omega arith
few_combined rmw.Nand = omega arith
few_combined rmw.Or = omega arith
few_combined rmw.Xor = omega arith
few_combined rmw.Max = omega arith
few_combined rmw.Min = omega arith
few_combined rmw.UMax = omega arith
few_combined rmw.UMin = omega arith

few_computing : (o : RmwOp) → length (wide_computation o) ≤ 13
few_computing rmw.Xchg = omega arith
few_computing rmw.Add = omega arith
few_computing rmw.Sub = omega arith
few_computing rmw.And = omega arith
few_computing rmw.Nand = omega arith
few_computing rmw.Or = omega arith
few_computing rmw.Xor = omega arith
few_computing rmw.Max = omega arith
few_computing rmw.Min = omega arith
few_computing rmw.UMax = omega arith
few_computing rmw.UMin = omega arith

few_store : (b s : Bool) (width : Width) (order : Order) → is_seq_cst order ≡ s → (store_of b width order).most ≤ 24
few_store true s width order e = omega arith
few_store false true width order e = subst (λ t. (once (narrow_store t width)).most ≤ 24) (sym e) (omega arith)
few_store false false width order e = subst (λ t. (once (narrow_store t width)).most ≤ 24) (sym e) (omega arith)

few_load : (b : Bool) (width : Width) → (load_of b width).most ≤ 24
few_load true width = omega arith
few_load false width = omega arith

few_exchange : (b : Bool) (width : Width) → (exchange_of b width).most ≤ 24
few_exchange true width = omega arith
few_exchange false width = omega arith

few_update : (b : Bool) (o : RmwOp) (width : Width) → (update_of b o width).most ≤ 24
few_update true o width = (let a = few_computing o in omega (arith, a))
few_update false rmw.Xchg width = (let a = few_widened width in omega (arith, a))
few_update false rmw.Add width = (let a = few_widened width in omega (arith, a))
few_update false rmw.Sub width = (let a = few_widened width in omega (arith, a))
few_update false rmw.And width = omega arith
few_update false rmw.Nand width = omega arith
few_update false rmw.Or width = omega arith
few_update false rmw.Xor width = omega arith
few_update false rmw.Max width = omega arith
few_update false rmw.Min width = omega arith
few_update false rmw.UMax width = omega arith
few_update false rmw.UMin width = omega arith

pub few : (x : Coded) → (expansion_of x).most ≤ 24
few (Atomic op.Load width order weak) = few_load (is_wide width) width
few (Atomic op.Store width order weak) = few_store (is_wide width) (is_seq_cst order) width order refl
few (Atomic op.Cmpxchg width order weak) = few_exchange (is_wide width) width
few (Atomic (op.Rmw o) width order weak) = few_update (is_wide width) o width
few (Atomic op.Fence width order weak) = omega arith
few (PlainLoad width) = omega arith
few (PlainStore width) = omega arith

-- ---- one length
steady_update : (b : Bool) (o : RmwOp) (width : Width) (start : ℕ) → length ((update_of b o width).piece start) ≡ length ((update_of b o width).piece 0)
steady_update true o width start = refl
steady_update false rmw.Xchg width start = refl
steady_update false _ width start = refl

steady_load : (b : Bool) (width : Width) (start : ℕ) → length ((load_of b width).piece start) ≡ length ((load_of b width).piece 0)
steady_load true width start = refl
steady_load false width start = refl

steady_store : (b : Bool) (width : Width) (order : Order) (start : ℕ) → length ((store_of b width order).piece start) ≡ length ((store_of b width order).piece 0)
steady_store true width order start = refl
steady_store false width order start = refl

steady_exchange : (b : Bool) (width : Width) (start : ℕ) → length ((exchange_of b width).piece start) ≡ length ((exchange_of b width).piece 0)
steady_exchange true width start = refl
steady_exchange false width start = refl

pub steady : (o : Op) (width : Width) (order : Order) (weak : Bool) (start : ℕ) → (let e = expansion_of (Atomic o width order weak) in length (e.piece start) ≡ length (e.piece 0))
steady op.Load width order weak start = steady_load (is_wide width) width start
steady op.Store width order weak start = steady_store (is_wide width) width order start
steady op.Cmpxchg width order weak start = steady_exchange (is_wide width) width start
steady (op.Rmw o) width order weak start = steady_update (is_wide width) o width start
steady op.Fence width order weak start = refl
