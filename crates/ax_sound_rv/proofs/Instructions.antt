-- RV64's instructions whose registers and numbers are in their ranges, and which lead to places of the code; its code of slots.
use Rattle.std.proofs.Common.{◌≡◌, ℕ, ◌+◌, ◌-◌, ◌^◌, ◌<◌, ◌≤◌, ℤ, pos, negsuc, Bool, true, false, List, [], ◌∷◌, length, refl, sym, subst, arith}
use Rattle.std.specs.Prelude.{if◌then◌else◌, nat_le, nat_lt}
use Rattle.std.proofs.lemmas.Bool.Decides.{nat_tests}
use Rattle.ax_tags.specs.declared.tags.Tag.{Tag}
use Rattle.ax_isa.specs.declared.effects.Effect.TheVariants as effect
use Rattle.ax_isa.specs.Processor.{Processor}
use Rattle.ax_isa.specs.Numbers.{displaced}
use Rattle.ax_rv.specs.declared.instructions.Condition.{Condition}
use Rattle.ax_rv.specs.declared.instructions.LoadForm.TheVariants as load
use Rattle.ax_rv.specs.declared.instructions.RvInstr.{RvInstr}
use Rattle.ax_rv.specs.declared.instructions.RvInstr.TheVariants.{Branch, Call, Jump, Load}
use Rattle.ax_rv.specs.Arithmetic.{holds}
use Rattle.ax_rv.specs.Instructions.{IsDistance, IsInstr, read, rv_kind}
use Rattle.ax_emit.specs.Atomics.{gets_all, puts_all}
use Rattle.ax_emit_rv.specs.Code.{distance, homes_from, jump_to}
use Rattle.ax_emit_rv.specs.Slots.{far_address, get, get_by, near_slots, put_first, put_first_by, put_last, put_last_by, rv_table}
use Rattle.ax_emit_rv.proofs.Ends.{jump_goes}
use Rattle.ax_sound.specs.Good as good
use Rattle.ax_sound.specs.Good.{LeadsInside}
use Rattle.ax_sound.proofs.Places.{IsLed}
use Rattle.ax_sound.proofs.Shapes as shapes
use Rattle.ax_sound.proofs.Shapes.{AllPairs}
use Rattle.ax_sound.proofs.Straight.{AllGo, Going, go_both}

-- ---- at a place of a code of so many instructions
abbrev pub IsGood : ℕ → ℕ → RvInstr → Type 0
IsGood n place i = good.IsGood rv_kind IsInstr n place i

abbrev pub AreGood : ℕ → ℕ → List (RvInstr × Tag) → Type 0
AreGood n place is = good.AreGood rv_kind IsInstr n place is

-- ---- an instruction that goes on to the next place
abbrev pub GoesOn : RvInstr → Type 0
GoesOn (Jump d) = ⊥
GoesOn (Branch test a b d) = ⊥
GoesOn (Call routine place) = ⊥
GoesOn i = IsInstr i

pub good_of : (n place : ℕ) (i : RvInstr) → GoesOn i → IsGood n place i
good_of n place (Jump d) h = absurd h
good_of n place (Branch test a b d) h = absurd h
good_of n place (Call routine q) h = absurd h
good_of n place _ h = record { ranges = h; leads = λ c e. tt }

abbrev pub rv : Going RvInstr
rv = record { kind = rv_kind; valid = IsInstr; goes = GoesOn; good = good_of }

-- ---- a jump leads to its target
near : (place target : ℕ) → place < 2 ^ 31 → target < 2 ^ 31 → IsDistance (distance place target)
near place target low low_target = by (nat_le place target) refl
  where
    by : (t : Bool) → nat_le place target ≡ t → IsDistance (if t then pos (target - place) else negsuc (place - target - 1))
    by true e = omega (arith, low_target)
    by false e = omega (arith, low)

pub jump_good : (n place target : ℕ) → n < 2 ^ 31 → place ≤ n → (1 ≤ target) × (target ≤ n) → IsGood n place (jump_to place target)
jump_good n place target short le inside =
    let most = inside.1 in
    record {
      ranges = near place target (omega (arith, short, le)) (omega (arith, short, most));
      leads = λ c e. subst (LeadsInside n) (sym (jump_goes place target c e (omega (arith, short, le)) (omega (arith, short, most)))) inside;
    }

pub leap_good : (n place : ℕ) (d : ℤ) → IsDistance d → IsLed n place d → IsGood n place (Jump d)
leap_good n place d valid led = record { ranges = valid; leads = λ c e. subst (λ (q : ℕ). IsLed n q d) (sym e) led }

pub turn_good : (n place : ℕ) (test : Condition) (left right : ℕ) (d : ℤ) → IsInstr (Branch test left right d) → IsLed n place d → IsGood n place (Branch test left right d)
turn_good n place test left right d valid led = record { ranges = valid; leads = λ c e. by (holds test (read left c) (read right c)) c e }
  where
    by : (t : Bool) (c : Processor) → c.place ≡ place → LeadsInside n (if t then effect.Jump (displaced c.place d) else effect.Nop)
    by true c e = subst (λ (q : ℕ). IsLed n q d) (sym e) led
    by false c e = tt

-- ---- code of slots
far_goes : (r : ℕ) → AllGo rv (far_address r)
far_goes r = ((omega arith, omega arith), ((omega arith, omega arith, omega arith), tt))

get_goes : (t r : ℕ) → t < 32 → AllGo rv (get t r)
get_goes t r lt = by (nat_lt r near_slots) refl
  where
    by : (b : Bool) → nat_lt r near_slots ≡ b → AllGo rv (get_by b t r)
    by true e = let less : r < 256 = grind (arith, nat_tests, e) in ((lt, omega arith, omega (arith, less)), tt)
    by false e = go_both rv (far_address r) (Load load.Double t (pos 0) 8 ∷ []) (far_goes r) ((lt, omega arith, omega arith), tt)

put_goes : (r t : ℕ) → t < 32 → AllGo rv (put_first r t) × GoesOn (put_last r t)
put_goes r t lt = by (nat_lt r near_slots) refl
  where
    by : (b : Bool) → nat_lt r near_slots ≡ b → AllGo rv (put_first_by b r t) × GoesOn (put_last_by b r t)
    by true e = let less : r < 256 = grind (arith, nat_tests, e) in (tt, (lt, omega arith, omega (arith, less)))
    by false e = (far_goes r, (lt, omega arith, omega arith))

pub first_goes : (r t : ℕ) → t < 32 → AllGo rv (put_first r t)
first_goes r t lt = (put_goes r t lt).0

pub last_goes : (r t : ℕ) → t < 32 → GoesOn (put_last r t)
last_goes r t lt = (put_goes r t lt).1

-- registers of the machine, each with a slot
abbrev pub HasRegister : ℕ × ℕ → Type 0
HasRegister z = z.0 < 32

pub gets_go : (zs : List (ℕ × ℕ)) → AllPairs HasRegister zs → AllGo rv (gets_all rv_table zs)
gets_go zs h = shapes.gets_go rv rv_table HasRegister (λ z lt. get_goes z.0 z.1 lt) zs h

pub puts_go : (zs : List (ℕ × ℕ)) → AllPairs HasRegister zs → AllGo rv (puts_all rv_table zs)
puts_go zs h = shapes.puts_go rv rv_table HasRegister (λ z lt. go_both rv (put_first z.1 z.0) (put_last z.1 z.0 ∷ []) (first_goes z.1 z.0 lt) (last_goes z.1 z.0 lt, tt)) zs h

pub homes_are : {R : Type 0} (key : R → ℕ) (t : ℕ) (rs : List R) → t + length rs ≤ 32 → AllPairs HasRegister (homes_from key t rs)
homes_are key t [] le = tt
homes_are key t (r ∷ rs) le = (omega (arith, le), homes_are key (t + 1) rs (omega (arith, le)))
