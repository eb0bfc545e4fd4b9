-- AArch64's slots.
use Rattle.std.proofs.Common.{◌≡◌, ℕ, ◌+◌, ◌-◌, ◌*◌, ◌%◌, ◌^◌, ◌<◌, Bool, true, false, [], ◌∷◌, ◌++◌, Some, refl, sym, ap, ◌∙◌, arith}
use Rattle.std.specs.Prelude.{◌≢◌}
use Rattle.std.proofs.lemmas.Bool.{false≢true}
use Rattle.ax_store.specs.Bytes.{number_at, cut, written}
use Rattle.ax_isa.specs.declared.effects.Rest.TheVariants.{Zeros}
use Rattle.ax_isa.specs.declared.effects.Effect.TheVariants.{Load, Store}
use Rattle.ax_isa.specs.Steps.{go_on, go_with, with_half}
use Rattle.ax_isa.proofs.Functions.{at_same, at_other}
use Rattle.ax_arm.specs.declared.instructions.Alu.TheVariants.{Sub}
use Rattle.ax_arm.specs.Effects.{combined, effect_of, moved}
use Rattle.ax_arm.specs.Instructions.{arm_kind}
use Rattle.ax_expand.specs.Private.{Private, may_use, if_room, went}
use Rattle.ax_emit.specs.Table.{Got, Gave, IsTable, SlotAt}
use Rattle.ax_emit_arm.specs.Slots.{arm_table, get, is_usable, put_first, put_last}

-- a register for numbers is not that of slots
usable_not_via : (t : ℕ) → is_usable t ≡ true → t ≢ 29
usable_not_via t u e = false≢true (sym (ap is_usable e) ∙ u)

-- ---- addresses
below_is : (a address r : ℕ) → address + 8 * (r + 1) ≡ a → a < 2 ^ 64 → combined Sub a (8 * (r + 1)) ≡ address
below_is a address r e wide = (let q : (a + (2 ^ 64 - 8 * (r + 1))) % 2 ^ 64 ≡ address = omega (arith, e, wide) in q)

pub there : (a address : ℕ) → a ≡ address → address < 2 ^ 64 → moved a 0 ≡ address
there a address e wide = (let q : (a + 0) % 2 ^ 64 ≡ address = omega (arith, e, wide) in q)

-- a private access where there is room
pub went_load : (room : ℕ → Bool) (t a address bytes : ℕ) (y : Private) → a ≡ address → may_use room address bytes ≡ true
    → went room (Load t a bytes Zeros false) y ≡ Some (record { cpu = with_half y.cpu.half (go_with t (number_at y.frame address bytes) y.cpu); frame = y.frame })
went_load room t a address bytes y e h =
    ap (λ q. if_room (may_use room q bytes) (record { cpu = with_half y.cpu.half (go_with t (number_at y.frame q bytes) y.cpu); frame = y.frame })) e
    ∙ ap (λ q. if_room q (record { cpu = with_half y.cpu.half (go_with t (number_at y.frame address bytes) y.cpu); frame = y.frame })) h

pub went_store : (room : ℕ → Bool) (v a address bytes : ℕ) (y : Private) → a ≡ address → may_use room address bytes ≡ true → went room (Store a bytes v) y ≡ Some (record { cpu = go_on y.cpu; frame = written y.frame address bytes (cut bytes v) })
went_store room v a address bytes y e h =
    ap (λ q. if_room (may_use room q bytes) (record { cpu = go_on y.cpu; frame = written y.frame q bytes (cut bytes v) })) e ∙ ap (λ q. if_room q (record { cpu = go_on y.cpu; frame = written y.frame address bytes (cut bytes v) })) h

-- once register 29 has the address of a slot
abbrev distant : ℕ → Private → Private
distant r y = record { cpu = go_with 29 (8 * (r + 1)) y.cpu; frame = y.frame }

abbrev pointed : ℕ → Private → Private
pointed r y = record { cpu = go_with 29 (combined Sub (y.cpu.regs 31) (8 * (r + 1))) (distant r y).cpu; frame = y.frame }

others_stay : (r q : ℕ) (y : Private) → q ≢ 29 → (pointed r y).cpu.regs q ≡ y.cpu.regs q
others_stay r q y via = at_other (distant r y).cpu.regs 29 (combined Sub (y.cpu.regs 31) (8 * (r + 1))) q via ∙ at_other y.cpu.regs 29 (8 * (r + 1)) q via

address_wide : (room : ℕ → Bool) (count r address : ℕ) (y : Private) → SlotAt room count 31 r address y → address < 2 ^ 64
address_wide room count r address y s = let a = s.below in let b = s.wide in omega (arith, a, b)

address_is : (room : ℕ → Bool) (count r address : ℕ) (y : Private) → SlotAt room count 31 r address y → moved ((pointed r y).cpu.regs 29) 0 ≡ address
address_is room count r address y s = there ((pointed r y).cpu.regs 29) address (below_is (y.cpu.regs 31) address r s.below s.wide) (address_wide room count r address y s)

got : (room : ℕ → Bool) (count t r address : ℕ) (y : Private) → SlotAt room count 31 r address y → Got arm_kind room (get t r) 29 t address y
unfolding effect_of
got room count t r address y s =
    let b = pointed r y in
    record {
      private = record { cpu = with_half b.cpu.half (go_with t (number_at y.frame address 8) b.cpu); frame = y.frame };
      goes = (distant r y, refl, (b, refl, (_, went_load room t (moved (b.cpu.regs 29) 0) address 8 b (address_is room count r address y s) s.usable, refl)));
      frame = refl;
      number = at_same b.cpu.regs t (number_at y.frame address 8);
      others = λ q ne via. at_other b.cpu.regs t (number_at y.frame address 8) q ne ∙ others_stay r q y via;
    }

gave : (room : ℕ → Bool) (count t r address : ℕ) (y : Private) → is_usable t ≡ true → SlotAt room count 31 r address y → Gave arm_kind room (put_first r t ++ put_last r t ∷ []) 29 t address y
unfolding effect_of
gave room count t r address y ok s =
    let b = pointed r y in
    let number : b.cpu.regs t ≡ y.cpu.regs t = others_stay r t y (usable_not_via t ok) in
    record {
      private = record { cpu = go_on b.cpu; frame = written y.frame address 8 (cut 8 (y.cpu.regs t)) };
      goes = (
        distant r y,
        refl,
        (
          b,
          refl,
          (
            _,
            went_store room (b.cpu.regs t) (moved (b.cpu.regs 29) 0) address 8 b (address_is room count r address y s) s.usable,
            ap (λ v. record { cpu = go_on b.cpu; frame = written y.frame address 8 (cut 8 v) }) number,
          ),
        ),
      );
      frame = refl;
      others = λ q ne. others_stay r q y ne;
    }

-- AARCH64'S TABLE OF SLOTS
pub arm_slots : (count : ℕ) → IsTable arm_kind arm_table count
arm_slots count =
    record {
      no_via = refl;
      gets = λ room t r address y ok s. got room count t r address y s;
      puts = λ room t r address y ok s. gave room count t r address y ok s;
      brief = λ r t. omega arith;
    }
