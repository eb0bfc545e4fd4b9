-- x86-64's slots.
use Rattle.std.proofs.Common.{◌≡◌, ℕ, ◌+◌, ◌-◌, ◌*◌, ◌%◌, ◌^◌, ◌<◌, Bool, true, false, [], ◌∷◌, Some, refl, ap, ◌∙◌, arith}
use Rattle.std.specs.Prelude.{pos}
use Rattle.ax_store.specs.Bytes.{number_at, cut, written}
use Rattle.ax_isa.specs.declared.effects.Rest.TheVariants.{Zeros}
use Rattle.ax_isa.specs.declared.effects.Effect.TheVariants.{Load, Store}
use Rattle.ax_isa.specs.Numbers.{displaced}
use Rattle.ax_isa.specs.Steps.{go_on, go_with, with_half}
use Rattle.ax_isa.proofs.Functions.{at_same, at_other}
use Rattle.ax_x86.specs.Instructions.{effect_of, x86_kind}
use Rattle.ax_expand.specs.Private.{Private, may_use, if_room, went}
use Rattle.ax_emit.specs.Table.{Got, Gave, IsTable, SlotAt}
use Rattle.ax_emit_x86.specs.Slots.{below, get, put_last, x86_table}

-- ---- addresses
reached : (a address r : ℕ) → address + 8 * (r + 1) ≡ a → a < 2 ^ 64 → displaced a (below r) ≡ address
reached a address r e wide = (let q : (a + (2 ^ 64 - 1 - (8 * r + 7))) % 2 ^ 64 ≡ address = omega (arith, e, wide) in q)

pub there : (a address : ℕ) → a ≡ address → address < 2 ^ 64 → displaced a (pos 0) ≡ address
there a address e wide = (let q : (a + 0) % 2 ^ 64 ≡ address = omega (arith, e, wide) in q)

-- a private access where there is room
pub went_load : (room : ℕ → Bool) (t a address bytes : ℕ) (y : Private) → a ≡ address → may_use room address bytes ≡ true
    → went room (Load t a bytes Zeros false) y ≡ Some (record { cpu = with_half y.cpu.half (go_with t (number_at y.frame address bytes) y.cpu); frame = y.frame })
went_load room t a address bytes y e h =
    ap (λ q. if_room (may_use room q bytes) (record { cpu = with_half y.cpu.half (go_with t (number_at y.frame q bytes) y.cpu); frame = y.frame })) e
    ∙ ap (λ q. if_room q (record { cpu = with_half y.cpu.half (go_with t (number_at y.frame address bytes) y.cpu); frame = y.frame })) h

pub went_store : (room : ℕ → Bool) (v a address bytes : ℕ) (y : Private) → a ≡ address → may_use room address bytes ≡ true → went room (Store a bytes v) y ≡ Some (record { cpu = go_on y.cpu; frame = written y.frame address bytes (cut bytes v) })
went_store room v a address bytes y e h =
    ap (λ q. if_room (may_use room q bytes) (record { cpu = go_on y.cpu; frame = written y.frame q bytes (cut bytes v) })) e ∙ ap (λ q. if_room q (record { cpu = go_on y.cpu; frame = written y.frame address bytes (cut bytes v) })) h

got : (room : ℕ → Bool) (count t r address : ℕ) (y : Private) → SlotAt room count 4 r address y → Got x86_kind room (get t r) 15 t address y
unfolding effect_of
got room count t r address y s =
    record {
      private = record { cpu = with_half y.cpu.half (go_with t (number_at y.frame address 8) y.cpu); frame = y.frame };
      goes = (_, went_load room t (displaced (y.cpu.regs 4) (below r)) address 8 y (reached (y.cpu.regs 4) address r s.below s.wide) s.usable, refl);
      frame = refl;
      number = at_same y.cpu.regs t (number_at y.frame address 8);
      others = λ q ne via. at_other y.cpu.regs t (number_at y.frame address 8) q ne;
    }

gave : (room : ℕ → Bool) (count t r address : ℕ) (y : Private) → SlotAt room count 4 r address y → Gave x86_kind room (put_last r t ∷ []) 15 t address y
unfolding effect_of
gave room count t r address y s =
    record {
      private = record { cpu = go_on y.cpu; frame = written y.frame address 8 (cut 8 (y.cpu.regs t)) };
      goes = (_, went_store room (y.cpu.regs t) (displaced (y.cpu.regs 4) (below r)) address 8 y (reached (y.cpu.regs 4) address r s.below s.wide) s.usable, refl);
      frame = refl;
      others = λ q ne. refl;
    }

-- X86-64'S TABLE OF SLOTS
pub x86_slots : (count : ℕ) → IsTable x86_kind x86_table count
x86_slots count =
    record {
      no_via = refl;
      gets = λ room t r address y ok s. got room count t r address y s;
      puts = λ room t r address y ok s. gave room count t r address y s;
      brief = λ r t. omega arith;
    }
