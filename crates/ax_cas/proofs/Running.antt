-- Straight code of x86-64 on registers as a function on a processor, and registers that are kept.
use Rattle.std.proofs.Common.{◌≡◌, ℕ, zero, suc, ◌+◌, ◌<◌, arith, Bool, true, false, List, [], ◌∷◌, ◌++◌, refl, sym, ap, ◌∙◌, subst}
use Rattle.std.specs.Prelude.{◌&&◌, ◌||◌, nat_eq, nat_lt}
use Rattle.std.proofs.lemmas.Bool.{false≢true}
use Rattle.std.proofs.lemmas.Bool.Decides.{nat_tests}
use Rattle.ax_isa.specs.Processor.{Processor}
use Rattle.ax_isa.specs.Steps.{go_on, go_with, with_compared}
use Rattle.ax_x86.specs.Arithmetic.{alu_result, complement, extension_result, low_byte_set, negative, shift_result}
use Rattle.ax_x86.specs.Conditions.{holds}
use Rattle.ax_x86.specs.declared.instructions.X86Instr.{X86Instr}
use Rattle.ax_x86.specs.declared.instructions.X86Instr.TheVariants as x86
use Rattle.ax_x86.specs.Instructions.{cmov_result, effect_of, x86_kind}
use Rattle.ax_expand.specs.Operation.{Keeps}
use Rattle.ax_expand.specs.Private.{Goes}
use Rattle.ax_emit_x86.specs.Laws.{is_kept}
use Rattle.ax_loops.specs.Moving.{nowhere}
use Rattle.ax_cas.specs.Rounds.{Reaches}

-- an instruction that touches registers alone
abbrev pub is_computing : X86Instr → Bool
is_computing (x86.Movabs n to) = true
is_computing (x86.Mov from to) = true
is_computing (x86.Alu op from to) = true
is_computing (x86.Neg to) = true
is_computing (x86.Not to) = true
is_computing (x86.Shift op count to) = true
is_computing (x86.Extend extension from to) = true
is_computing (x86.Cmp right left) = true
is_computing (x86.Setcc condition to) = true
is_computing (x86.Cmovcc condition from to) = true
is_computing _ = false

-- the processor behind it
abbrev pub behind : X86Instr → Processor → Processor
behind (x86.Movabs n to) c = go_with to n c
behind (x86.Mov from to) c = go_with to (c.regs from) c
behind (x86.Alu op from to) c = go_with to (alu_result op (c.regs to) (c.regs from)) c
behind (x86.Neg to) c = go_with to (negative (c.regs to)) c
behind (x86.Not to) c = go_with to (complement (c.regs to)) c
behind (x86.Shift op count to) c = go_with to (shift_result op (c.regs to) count) c
behind (x86.Extend extension from to) c = go_with to (extension_result extension (c.regs from)) c
behind (x86.Cmp right left) c = with_compared (c.regs left, c.regs right) (go_on c)
behind (x86.Setcc condition to) c = go_with to (low_byte_set (c.regs to) (holds condition c.compared.0 c.compared.1)) c
behind (x86.Cmovcc condition from to) c = go_with to (cmov_result condition from to c) c
behind _ c = c

abbrev pub all_computing : List X86Instr → Bool
all_computing [] = true
all_computing (i ∷ is) = is_computing i && all_computing is

abbrev pub behind_all : List X86Instr → Processor → Processor
behind_all [] c = c
behind_all (i ∷ is) c = behind_all is (behind i c)

-- this instruction goes there, whatever the bytes of the frame
one_goes : (i : X86Instr) (is : List X86Instr) (c last : Processor) (f : ℕ → ℕ) → is_computing i ≡ true → Goes x86_kind nowhere is (record { cpu = behind i c; frame = f }) (record { cpu = last; frame = f }) → Goes x86_kind nowhere (i ∷ is) (record { cpu = c; frame = f }) (record { cpu = last; frame = f })
unfolding effect_of
one_goes (x86.Movabs n to) is c last f e rest = (record { cpu = behind (x86.Movabs n to) c; frame = f }, refl, rest)
one_goes (x86.Mov from to) is c last f e rest = (record { cpu = behind (x86.Mov from to) c; frame = f }, refl, rest)
one_goes (x86.Alu op from to) is c last f e rest = (record { cpu = behind (x86.Alu op from to) c; frame = f }, refl, rest)
one_goes (x86.Neg to) is c last f e rest = (record { cpu = behind (x86.Neg to) c; frame = f }, refl, rest)
one_goes (x86.Not to) is c last f e rest = (record { cpu = behind (x86.Not to) c; frame = f }, refl, rest)
one_goes (x86.Shift op count to) is c last f e rest = (record { cpu = behind (x86.Shift op count to) c; frame = f }, refl, rest)
one_goes (x86.Extend extension from to) is c last f e rest = (record { cpu = behind (x86.Extend extension from to) c; frame = f }, refl, rest)
one_goes (x86.Cmp right left) is c last f e rest = (record { cpu = behind (x86.Cmp right left) c; frame = f }, refl, rest)
one_goes (x86.Setcc condition to) is c last f e rest = (record { cpu = behind (x86.Setcc condition to) c; frame = f }, refl, rest)
one_goes (x86.Cmovcc condition from to) is c last f e rest = (record { cpu = behind (x86.Cmovcc condition from to) c; frame = f }, refl, rest)
one_goes (x86.Load size memory to) is c last f e rest = absurd (false≢true e)
one_goes (x86.Store size from memory) is c last f e rest = absurd (false≢true e)
one_goes (x86.Xchg size r memory) is c last f e rest = absurd (false≢true e)
one_goes (x86.LockXadd size r memory) is c last f e rest = absurd (false≢true e)
one_goes (x86.LockCmpxchg size from memory) is c last f e rest = absurd (false≢true e)
one_goes (x86.LockCmpxchg16b memory) is c last f e rest = absurd (false≢true e)
one_goes x86.Mfence is c last f e rest = absurd (false≢true e)
one_goes (x86.Jmp distance) is c last f e rest = absurd (false≢true e)
one_goes (x86.Jcc condition distance) is c last f e rest = absurd (false≢true e)
one_goes (x86.Call routine place) is c last f e rest = absurd (false≢true e)
one_goes x86.Ret is c last f e rest = absurd (false≢true e)
one_goes x86.Syscall is c last f e rest = absurd (false≢true e)
one_goes x86.Ud2 is c last f e rest = absurd (false≢true e)
one_goes x86.Nop is c last f e rest = absurd (false≢true e)

both : (a b : Bool) → (a && b) ≡ true → (a ≡ true) × (b ≡ true)
both true b h = (refl, h)
both false b h = absurd (false≢true h)

goes_all : (is : List X86Instr) (c : Processor) (f : ℕ → ℕ) → all_computing is ≡ true → Goes x86_kind nowhere is (record { cpu = c; frame = f }) (record { cpu = behind_all is c; frame = f })
goes_all [] c f e = refl
goes_all (i ∷ is) c f e = (let h = both (is_computing i) (all_computing is) e in one_goes i is c (behind_all is (behind i c)) f h.0 (goes_all is (behind i c) f h.1))

-- SUCH CODE REACHES the processor behind it
pub reaches : (is : List X86Instr) (c : Processor) (Q : Processor → Type 0) → all_computing is ≡ true → Q (behind_all is c) → Reaches x86_kind is c Q
reaches is c Q e h = record { last = behind_all is c; goes = λ f. goes_all is c f e; known = h }

-- ---- registers that are kept, one by one
none_higher : (q : ℕ) → 6 < q → is_kept q ≡ true → ⊥
none_higher q h k =
    let a : nat_lt q 5 ≡ false = grind (arith, nat_tests, h) in
    let b : nat_eq q 6 ≡ false = grind (arith, nat_tests, h) in
    false≢true (sym b ∙ sym (ap (λ t. t || nat_eq q 6) a) ∙ k)

pub each_kept : (Q : ℕ → Type 0) → Q 0 → Q 1 → Q 2 → Q 3 → Q 4 → Q 6 → (q : ℕ) → is_kept q ≡ true → Q q
each_kept Q a b c d e f zero k = a
each_kept Q a b c d e f (suc zero) k = b
each_kept Q a b c d e f (suc (suc zero)) k = c
each_kept Q a b c d e f (suc (suc (suc zero))) k = d
each_kept Q a b c d e f (suc (suc (suc (suc zero)))) k = e
each_kept Q a b c d e f (suc (suc (suc (suc (suc zero))))) k = absurd (false≢true k)
each_kept Q a b c d e f (suc (suc (suc (suc (suc (suc zero)))))) k = f
each_kept Q a b c d e f (suc (suc (suc (suc (suc (suc (suc q))))))) k = absurd (none_higher (suc (suc (suc (suc (suc (suc (suc q))))))) (omega arith) k)

pub keeps_each : (f g : ℕ → ℕ) → f 0 ≡ g 0 → f 1 ≡ g 1 → f 2 ≡ g 2 → f 3 ≡ g 3 → f 4 ≡ g 4 → f 6 ≡ g 6 → Keeps is_kept f g
keeps_each f g a b c d e h = each_kept (λ q. f q ≡ g q) a b c d e h
