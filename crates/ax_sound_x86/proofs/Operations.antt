-- The code of atomic operations on x86-64 is sound: straight code, and loops whose branch leads back over a computation.
use Rattle.std.proofs.Common.{◌≡◌, ℕ, ◌+◌, ◌^◌, ◌<◌, ◌≤◌, negsuc, Bool, true, false, List, [], ◌∷◌, ◌++◌, length, refl, arith, length-append}
use Rattle.ax_words.specs.declared.mark.Op.{Op}
use Rattle.ax_words.specs.declared.mark.Op.TheVariants as op
use Rattle.ax_words.specs.declared.operation.RmwOp.{RmwOp}
use Rattle.ax_words.specs.declared.operation.RmwOp.TheVariants as rmw
use Rattle.ax_words.specs.declared.order.Order.{Order}
use Rattle.ax_words.specs.declared.width.Width.{Width}
use Rattle.ax_words.specs.declared.width.Width.TheVariants.{W8, W16, W32}
use Rattle.ax_words.specs.Width.{bytes_of}
use Rattle.ax_tags.specs.declared.tags.Tag.{Tag}
use Rattle.ax_tags.specs.declared.tags.Tag.TheVariants.{Silent, Stored}
use Rattle.ax_source_run.specs.SourceInstructions.{is_seq_cst}
use Rattle.ax_mid.specs.Machine.{is_wide}
use Rattle.ax_x86.specs.declared.instructions.Alu.{Alu as AluOp}
use Rattle.ax_x86.specs.declared.instructions.Alu.TheVariants as alu
use Rattle.ax_x86.specs.declared.instructions.Condition.{Condition}
use Rattle.ax_x86.specs.declared.instructions.Condition.TheVariants as condition
use Rattle.ax_x86.specs.declared.instructions.X86Instr.{X86Instr}
use Rattle.ax_x86.specs.declared.instructions.X86Instr.TheVariants.{LockCmpxchg, LockCmpxchg16b, LockXadd, Mfence, Mov, Nop, Not, Xchg}
use Rattle.ax_x86.specs.Instructions.{IsInstr, IsOperand}
use Rattle.ax_expand.specs.Standing.{silently}
use Rattle.ax_expand.proofs.Straight.{silent_length}
use Rattle.ax_emit_x86.specs.Code.{Expansion, at_address, load_in, size_of_bytes, store_in}
use Rattle.ax_cas.specs.Compares.{Loop, loop_code}
use Rattle.ax_cas.specs.Codes.{Atomic, exchange_of, expansion_of, fence_of, flag_in, load_of, lone, looped, narrow_store, narrow_update, negated, once, store_of, update_of, widened}
use Rattle.ax_cas.specs.Loops.{back_over, chosen, combined, copied, halves, is_signed, lesser, low_bits, narrow_computation, narrow_loop, restored, saved, wide_computation, wide_loop_of, zeroed}
use Rattle.ax_cas.specs.Rounds.{straight_code}
use Rattle.ax_sound.proofs.Places.{backward}
use Rattle.ax_sound.proofs.Shapes.{performed_straight, performed_size}
use Rattle.ax_sound.proofs.Straight.{AllGo, go_both, good_behind, straight_good, straight_silently}
use Rattle.ax_sound_x86.specs.Laws.{X86OperationsAreSound}
use Rattle.ax_sound_x86.proofs.Instructions.{AreGood, GoesOn, fits_back, fits_forward, good_of, turn_good, x86}

address_is : IsOperand at_address
address_is = (fits_forward 0 (omega arith), omega arith)

module _ (n : ℕ) (short : n < 2 ^ 31) (place : ℕ) (some : 1 ≤ place) where
  loop_good : (before : List X86Instr) (probe : X86Instr) (computation : List X86Instr) (exchange : X86Instr) (after : List X86Instr) → AllGo x86 before → GoesOn probe → AllGo x86 computation → GoesOn exchange → AllGo x86 after → length computation ≤ 24
      → (let z : Loop X86Instr = record { before = before; probe = probe; computation = computation; exchange = exchange; branch = back_over computation; after = after } in place + length (loop_code z) ≤ n → AreGood n place (loop_code z))
  loop_good before probe computation exchange after first asks computes acts last few most =
      let end : List (X86Instr × Tag) = (exchange, Stored) ∷ (back_over computation, Silent) ∷ silently after in
      let middle : List (X86Instr × Tag) = (probe, Silent) ∷ (silently computation ++ end) in
      let a = length-append (silently before) middle in
      let b = silent_length before in
      let c = length-append (silently computation) end in
      let d = silent_length computation in
      let at = place + length before + 1 + length computation in
      let le : at + 1 + 1 ≤ n = omega (arith, a, b, c, d, most) in
      good_behind x86 n place before middle first (
        good_of n (place + length before) probe asks,
        tt,
        good_behind x86 n (place + length before + 1) computation end computes (
          good_of n at exchange acts,
          tt,
          (turn_good n (at + 1) condition.NotEqual (negsuc (length computation)) (fits_back (length computation) (omega (arith, few))) (backward n (at + 1) (length computation) short (omega (arith, some)) (omega (arith, le))) le, tt, straight_good x86 n (at + 1 + 1) (silently after) (straight_silently x86 after last)),
        ),
      )

-- ---- parts
low_goes : (signed : Bool) (width : Width) (r : ℕ) → r < 16 → GoesOn (low_bits signed width r)
unfolding IsInstr
low_goes false W8 r lt = (lt, lt)
low_goes false W16 r lt = (lt, lt)
low_goes false W32 r lt = (lt, lt)
low_goes true W8 r lt = (lt, lt)
low_goes true W16 r lt = (lt, lt)
low_goes true W32 r lt = (lt, lt)
low_goes signed _ r lt = (omega arith, lt)

copied_goes : (signed : Bool) (width : Width) → GoesOn (copied signed width)
unfolding IsInstr
copied_goes true W8 = (omega arith, omega arith)
copied_goes true W16 = (omega arith, omega arith)
copied_goes true W32 = (omega arith, omega arith)
copied_goes _ _ = (omega arith, omega arith)

combined_goes : (o : RmwOp) → AllGo x86 (combined o)
unfolding IsInstr
combined_goes rmw.Nand = ((omega arith, omega arith), (omega arith, tt))
combined_goes rmw.Max = ((omega arith, omega arith), ((omega arith, omega arith), tt))
combined_goes rmw.Min = ((omega arith, omega arith), ((omega arith, omega arith), tt))
combined_goes rmw.UMax = ((omega arith, omega arith), ((omega arith, omega arith), tt))
combined_goes rmw.UMin = ((omega arith, omega arith), ((omega arith, omega arith), tt))
combined_goes _ = ((omega arith, omega arith), tt)

few_combined : (o : RmwOp) → length (combined o) ≤ 2
few_combined rmw.Nand = omega arith
few_combined rmw.Max = omega arith
few_combined rmw.Min = omega arith
few_combined rmw.UMax = omega arith
few_combined rmw.UMin = omega arith
few_combined _ = omega arith

flag_goes : (r : ℕ) → r < 16 → AllGo x86 (flag_in r)
unfolding IsInstr
flag_goes r lt = (lt, ((lt, lt), tt))

widened_goes : (width : Width) → AllGo x86 (widened width)
widened_goes W8 = (low_goes false W8 0 (omega arith), tt)
widened_goes W16 = (low_goes false W16 0 (omega arith), tt)
widened_goes _ = tt

widened_one : (width : Width) → length (widened width) ≤ 1
widened_one W8 = omega arith
widened_one W16 = omega arith
widened_one _ = omega arith

-- ---- 16 bytes
halves_go : (a : AluOp) → AllGo x86 (halves a)
unfolding IsInstr
halves_go a = ((omega arith, omega arith), ((omega arith, omega arith), ((omega arith, omega arith), ((omega arith, omega arith), tt))))

lesser_goes : (c : Condition) (a b d e : ℕ) → a < 16 → b < 16 → d < 16 → e < 16 → AllGo x86 (lesser c a b d e ++ chosen)
unfolding IsInstr
lesser_goes c a b d e la lb ld le =
    ((omega arith, omega arith), ((omega arith, omega arith), ((ld, la), (omega arith, ((le, lb), (omega arith, ((omega arith, omega arith), ((omega arith, omega arith), ((omega arith, omega arith), ((omega arith, omega arith), ((omega arith, omega arith), ((omega arith, omega arith), ((omega arith, omega arith), tt)))))))))))))

wide_goes : (o : RmwOp) → AllGo x86 (wide_computation o)
unfolding IsInstr
wide_goes rmw.Xchg = ((omega arith, omega arith), ((omega arith, omega arith), tt))
wide_goes rmw.Add = ((omega arith, omega arith), ((omega arith, omega arith), ((omega arith, omega arith), ((omega arith, omega arith), (omega arith, ((omega arith, omega arith), ((omega arith, omega arith), ((omega arith, omega arith), tt))))))))
wide_goes rmw.Sub = ((omega arith, omega arith), ((omega arith, omega arith), (omega arith, ((omega arith, omega arith), ((omega arith, omega arith), ((omega arith, omega arith), ((omega arith, omega arith), ((omega arith, omega arith), tt))))))))
wide_goes rmw.And = halves_go alu.And
wide_goes rmw.Nand = go_both x86 (halves alu.And) (Not 3 ∷ Not 1 ∷ []) (halves_go alu.And) (omega arith, (omega arith, tt))
wide_goes rmw.Or = halves_go alu.Or
wide_goes rmw.Xor = halves_go alu.Xor
wide_goes rmw.Max = lesser_goes condition.Less 0 2 8 9 (omega arith) (omega arith) (omega arith) (omega arith)
wide_goes rmw.Min = lesser_goes condition.Less 8 9 0 2 (omega arith) (omega arith) (omega arith) (omega arith)
wide_goes rmw.UMax = lesser_goes condition.Below 0 2 8 9 (omega arith) (omega arith) (omega arith) (omega arith)
wide_goes rmw.UMin = lesser_goes condition.Below 8 9 0 2 (omega arith) (omega arith) (omega arith) (omega arith)

few_wide : (o : RmwOp) → length (wide_computation o) ≤ 13
few_wide rmw.Xchg = omega arith
few_wide rmw.Add = omega arith
few_wide rmw.Sub = omega arith
few_wide rmw.And = omega arith
few_wide rmw.Nand = omega arith
few_wide rmw.Or = omega arith
few_wide rmw.Xor = omega arith
few_wide _ = omega arith

zeroed_goes : AllGo x86 (saved ++ zeroed)
unfolding IsInstr
zeroed_goes = ((omega arith, omega arith), ((omega arith, omega arith), ((omega arith, omega arith), ((omega arith, omega arith), ((omega arith, omega arith), ((omega arith, omega arith), tt))))))

restored_goes : AllGo x86 restored
unfolding IsInstr
restored_goes = ((omega arith, omega arith), ((omega arith, omega arith), tt))

-- ---- each expansion: how long, and good with code behind it
record IsRight (e : Expansion) : Type 0 where
  steady : (place : ℕ) → length (e.piece place) ≡ length (e.piece 0)
  few : length (e.piece 0) ≤ 240
  good : (n place : ℕ) → n < 2 ^ 31 → 1 ≤ place → place + length (e.piece place) ≤ n → AreGood n place (e.piece place)

straight_sound : (before : List X86Instr) (access : X86Instr) (after : List X86Instr) → AllGo x86 before → GoesOn access → AllGo x86 after → length before + length after ≤ 16 → IsRight (once (record { before = before; access = access; after = after }))
straight_sound before access after h here g few =
    let long = performed_size before access after in
    record {
      steady = λ place. refl;
      few = omega (arith, long, few);
      good = λ n place short some most. straight_good x86 n place (straight_code (record { before = before; access = access; after = after })) (performed_straight x86 before access after h here g);
    }

loop_sound : (before : List X86Instr) (probe : X86Instr) (computation : List X86Instr) (exchange : X86Instr) (after : List X86Instr) → AllGo x86 before → GoesOn probe → AllGo x86 computation → GoesOn exchange → AllGo x86 after → length before + length computation + length after ≤ 40 → length computation ≤ 24
    → IsRight (looped (record { before = before; probe = probe; computation = computation; exchange = exchange; branch = back_over computation; after = after }))
loop_sound before probe computation exchange after first asks computes acts last all few =
    let end : List (X86Instr × Tag) = (exchange, Stored) ∷ (back_over computation, Silent) ∷ silently after in
    let middle : List (X86Instr × Tag) = (probe, Silent) ∷ (silently computation ++ end) in
    let a = length-append (silently before) middle in
    let b = silent_length before in
    let c = length-append (silently computation) end in
    let d = silent_length computation in
    let e = silent_length after in
    record {
      steady = λ place. refl;
      few = omega (arith, a, b, c, d, e, all);
      good = λ n place short some most. loop_good n short place some before probe computation exchange after first asks computes acts last few most;
    }

wide_loop_sound : (computation after : List X86Instr) → AllGo x86 computation → AllGo x86 after → length computation ≤ 13 → length after ≤ 8 → IsRight (looped (wide_loop_of computation after))
unfolding IsInstr
wide_loop_sound computation after h g few short =
    loop_sound (Mov 0 8 ∷ Mov 2 9 ∷ (saved ++ zeroed)) (LockCmpxchg16b at_address) computation (LockCmpxchg16b at_address) after ((omega arith, omega arith), ((omega arith, omega arith), zeroed_goes)) address_is h address_is g (omega (arith, few, short)) (omega (arith, few))

narrow_loop_sound : (o : RmwOp) (width : Width) → IsRight (looped (narrow_loop o width))
unfolding IsInstr
narrow_loop_sound o width =
    let few = few_combined o in
    loop_sound (Mov 0 8 ∷ low_bits (is_signed o) width 8 ∷ []) (load_in (bytes_of width)) (narrow_computation o width) (LockCmpxchg (size_of_bytes (bytes_of width)) 9 at_address) []
    ((omega arith, omega arith), (low_goes (is_signed o) width 8 (omega arith), tt)) (address_is, omega arith) (copied_goes (is_signed o) width, combined_goes o) (omega arith, address_is) tt (omega (arith, few)) (omega (arith, few))

narrow_sound : (o : RmwOp) (width : Width) → IsRight (narrow_update o width)
unfolding IsInstr
narrow_sound rmw.Xchg width = let one = widened_one width in straight_sound [] (Xchg (size_of_bytes (bytes_of width)) 0 at_address) (widened width) tt (omega arith, address_is) (widened_goes width) (omega (arith, one))
narrow_sound rmw.Add width = let one = widened_one width in straight_sound [] (LockXadd (size_of_bytes (bytes_of width)) 0 at_address) (widened width) tt (omega arith, address_is) (widened_goes width) (omega (arith, one))
narrow_sound rmw.Sub width = let one = widened_one width in straight_sound (negated width) (LockXadd (size_of_bytes (bytes_of width)) 0 at_address) (widened width) (low_goes false width 0 (omega arith), (omega arith, tt)) (omega arith, address_is) (widened_goes width) (omega (arith, one))
narrow_sound o width = narrow_loop_sound o width

module _ (width : Width) (order : Order) (weak : Bool) where
  load_sound : (wide : Bool) → IsRight (load_of wide width)
  unfolding IsInstr
  load_sound true = straight_sound (saved ++ zeroed) (LockCmpxchg16b at_address) restored zeroed_goes address_is restored_goes (omega arith)
  load_sound false = straight_sound [] (load_in (bytes_of width)) [] tt (address_is, omega arith) tt (omega arith)

  store_by : (strong : Bool) → IsRight (once (narrow_store strong width))
  unfolding IsInstr
  store_by true = straight_sound (Mov 0 8 ∷ []) (Xchg (size_of_bytes (bytes_of width)) 8 at_address) [] ((omega arith, omega arith), tt) (omega arith, address_is) tt (omega arith)
  store_by false = straight_sound [] (store_in (bytes_of width)) [] tt (omega arith, address_is) tt (omega arith)

  store_sound : (wide : Bool) → IsRight (store_of wide width order)
  unfolding IsInstr
  store_sound true = wide_loop_sound (wide_computation rmw.Xchg) (restored ++ (Mov 8 0 ∷ Mov 9 2 ∷ [])) (wide_goes rmw.Xchg) ((omega arith, omega arith), ((omega arith, omega arith), ((omega arith, omega arith), ((omega arith, omega arith), tt)))) (omega arith) (omega arith)
  store_sound false = store_by (is_seq_cst order)

  exchange_sound : (wide : Bool) → IsRight (exchange_of wide width)
  unfolding IsInstr
  exchange_sound true = straight_sound [] (LockCmpxchg16b at_address) (flag_in 3) tt address_is (flag_goes 3 (omega arith)) (omega arith)
  exchange_sound false =
      straight_sound [] (LockCmpxchg (size_of_bytes (bytes_of width)) 2 at_address) (flag_in 2 ++ (low_bits false width 0 ∷ [])) tt (omega arith, address_is) (go_both x86 (flag_in 2) (low_bits false width 0 ∷ []) (flag_goes 2 (omega arith)) (low_goes false width 0 (omega arith), tt)) (omega arith)

  update_sound : (wide : Bool) (o : RmwOp) → IsRight (update_of wide o width)
  update_sound true o = wide_loop_sound (wide_computation o) restored (wide_goes o) restored_goes (few_wide o) (omega arith)
  update_sound false o = narrow_sound o width

  fence_by : (strong : Bool) → IsRight (once (lone (fence_of strong)))
  unfolding IsInstr
  fence_by true = straight_sound [] Mfence [] tt tt tt (omega arith)
  fence_by false = straight_sound [] Nop [] tt tt tt (omega arith)

  code_sound : (o : Op) → IsRight (expansion_of (Atomic o width order weak))
  code_sound op.Load = load_sound (is_wide width)
  code_sound op.Store = store_sound (is_wide width)
  code_sound op.Cmpxchg = exchange_sound (is_wide width)
  code_sound (op.Rmw o) = update_sound (is_wide width) o
  code_sound op.Fence = fence_by (is_seq_cst order)

-- x86-64's code of operations is sound, on each target
pub are_sound : X86OperationsAreSound
are_sound target = record {
  steady = λ o width order weak. (code_sound width order weak o).steady;
  most = λ o width order weak way. (code_sound width order weak o).few;
  good = λ o width order weak n place way short some most. (code_sound width order weak o).good n place short some most;
}
