-- x86-64's instructions whose registers and numbers are in their ranges, and which lead to places of the code.
use Rattle.std.proofs.Common.{◌≡◌, ℕ, suc, ◌+◌, ◌-◌, ◌^◌, ◌<◌, ◌≤◌, ℤ, pos, negsuc, Bool, true, false, List, refl, sym, subst, arith}
use Rattle.std.specs.Prelude.{FitsSigned, if◌then◌else◌, nat_le}
use Rattle.std.specs.Int.{w32}
use Rattle.std.proofs.lemmas.Bool.Decides.{nat_tests}
use Rattle.std.proofs.lemmas.Int.{fits_signed_from_abs}
use Rattle.ax_tags.specs.declared.tags.Tag.{Tag}
use Rattle.ax_isa.specs.declared.effects.Effect.TheVariants as effect
use Rattle.ax_isa.specs.Processor.{Processor}
use Rattle.ax_isa.specs.Numbers.{displaced}
use Rattle.ax_x86.specs.declared.instructions.Condition.{Condition}
use Rattle.ax_x86.specs.declared.instructions.X86Instr.{X86Instr}
use Rattle.ax_x86.specs.declared.instructions.X86Instr.TheVariants.{Call, Jcc, Jmp}
use Rattle.ax_x86.specs.Conditions.{holds}
use Rattle.ax_x86.specs.Instructions.{IsInstr, effect_of, x86_kind}
use Rattle.ax_emit_x86.specs.Code.{distance, jump_to}
use Rattle.ax_emit_x86.proofs.Ends.{jump_goes}
use Rattle.ax_sound.specs.Good as good
use Rattle.ax_sound.specs.Good.{LeadsInside}
use Rattle.ax_sound.proofs.Places.{IsLed}
use Rattle.ax_sound.proofs.Straight.{Going}

-- ---- at a place of a code of so many instructions
abbrev pub IsGood : ℕ → ℕ → X86Instr → Type 0
IsGood n place i = good.IsGood x86_kind IsInstr n place i

abbrev pub AreGood : ℕ → ℕ → List (X86Instr × Tag) → Type 0
AreGood n place is = good.AreGood x86_kind IsInstr n place is

-- ---- an instruction that goes on to the next place
abbrev pub GoesOn : X86Instr → Type 0
GoesOn (Jmp d) = ⊥
GoesOn (Jcc condition d) = ⊥
GoesOn (Call routine place) = ⊥
GoesOn i = IsInstr i

pub good_of : (n place : ℕ) (i : X86Instr) → GoesOn i → IsGood n place i
unfolding effect_of
good_of n place (Jmp d) h = absurd h
good_of n place (Jcc condition d) h = absurd h
good_of n place (Call routine q) h = absurd h
good_of n place _ h = record { ranges = h; leads = λ c e. tt }

abbrev pub x86 : Going X86Instr
x86 = record { kind = x86_kind; valid = IsInstr; goes = GoesOn; good = good_of }

-- ---- numbers of 32 bits
pub fits_forward : (k : ℕ) → k < 2 ^ 31 → FitsSigned w32 (pos k)
fits_forward k lt = fits_signed_from_abs w32 (pos k) lt

pub fits_back : (k : ℕ) → suc k < 2 ^ 31 → FitsSigned w32 (negsuc k)
fits_back k lt = fits_signed_from_abs w32 (negsuc k) lt

-- ---- a jump leads to its target
near : (place target : ℕ) → place < 2 ^ 31 → target < 2 ^ 31 → FitsSigned w32 (distance place target)
near place target low low_target = by (nat_le place target) refl
  where
    by : (t : Bool) → nat_le place target ≡ t → FitsSigned w32 (if t then pos (target - place) else negsuc (place - target - 1))
    by true e = fits_forward (target - place) (omega (arith, low_target))
    by false e = let lt : target < place = grind (arith, nat_tests, e) in fits_back (place - target - 1) (omega (arith, low, lt))

pub jump_good : (n place target : ℕ) → n < 2 ^ 31 → place ≤ n → (1 ≤ target) × (target ≤ n) → IsGood n place (jump_to place target)
unfolding IsInstr
jump_good n place target short le inside =
    let most = inside.1 in
    record {
      ranges = near place target (omega (arith, short, le)) (omega (arith, short, most));
      leads = λ c e. subst (LeadsInside n) (sym (jump_goes place target c e (omega (arith, short, le)) (omega (arith, short, most)))) inside;
    }

-- one with a condition goes on else
pub turn_good : (n place : ℕ) (condition : Condition) (d : ℤ) → FitsSigned w32 d → IsLed n place d → place + 1 ≤ n → IsGood n place (Jcc condition d)
unfolding IsInstr effect_of
turn_good n place condition d fits led on = record { ranges = fits; leads = λ c e. by (holds condition c.compared.0 c.compared.1) c e }
  where
    by : (t : Bool) (c : Processor) → c.place ≡ place → LeadsInside n (effect.Jump (if t then displaced c.place d else c.place + 1))
    by true c e = subst (λ (q : ℕ). IsLed n q d) (sym e) led
    by false c e = (omega arith, omega (arith, e, on))
