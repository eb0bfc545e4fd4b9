-- RV64's slots, near and far.
use Rattle.std.proofs.Common.{◌≡◌, ℕ, zero, suc, ◌+◌, ◌-◌, ◌*◌, ◌%◌, ◌^◌, ◌<◌, ◌≤◌, Bool, true, false, [], ◌∷◌, ◌++◌, length, Some, refl, sym, ap, ◌∙◌, arith}
use Rattle.std.specs.Prelude.{◌≢◌, nat_lt, pos}
use Rattle.std.proofs.lemmas.Bool.{false≢true}
use Rattle.std.proofs.lemmas.Bool.Decides.{nat_tests}
use Rattle.ax_store.specs.Bytes.{number_at, cut, written}
use Rattle.ax_store.specs.Storage.{at_place}
use Rattle.ax_isa.specs.declared.effects.Rest.{Rest}
use Rattle.ax_isa.specs.declared.effects.Rest.TheVariants.{Zeros}
use Rattle.ax_isa.specs.declared.effects.Effect.TheVariants.{Load, Store}
use Rattle.ax_isa.specs.Processor.{Processor}
use Rattle.ax_isa.specs.Steps.{extended, go_on, go_with, with_half}
use Rattle.ax_isa.proofs.Functions.{at_same, at_other}
use Rattle.ax_isa.specs.Numbers.{displaced}
use Rattle.ax_rv.specs.Instructions.{read, rv_kind}
use Rattle.ax_expand.specs.Private.{Private, may_use, if_room, went}
use Rattle.ax_emit.specs.Table.{Got, Gave, IsTable, SlotAt}
use Rattle.ax_emit_rv.specs.Slots.{below, down, get_by, is_usable, near_slots, put_first_by, put_last_by, rv_table}

-- a register for numbers is not register 0
pub read_reg : (t : ℕ) (c : Processor) → is_usable t ≡ true → read t c ≡ c.regs t
read_reg zero c h = absurd (false≢true h)
read_reg (suc t) c h = refl

usable_not_via : (t : ℕ) → is_usable t ≡ true → t ≢ 8
usable_not_via t u e = false≢true (sym (ap is_usable e) ∙ u)

-- ---- addresses
near_is : (a address r : ℕ) → r < 256 → address + 8 * (r + 1) ≡ a → a < 2 ^ 64 → displaced a (below r) ≡ address
near_is a address r near e wide = (let q : (a + (2 ^ 64 - 1 - (8 * r + 7))) % 2 ^ 64 ≡ address = omega (arith, near, e, wide) in q)

far_is : (a address r : ℕ) → address + 8 * (r + 1) ≡ a → a < 2 ^ 64 → (a + down (8 * (r + 1))) % 2 ^ 64 ≡ address
far_is a address r e wide = (let q : (a + (2 ^ 64 - 8 * (r + 1))) % 2 ^ 64 ≡ address = omega (arith, e, wide) in q)

pub there : (a address : ℕ) → a ≡ address → address < 2 ^ 64 → displaced a (pos 0) ≡ address
there a address e wide = (let q : (a + 0) % 2 ^ 64 ≡ address = omega (arith, e, wide) in q)

-- a private access where there is room
pub went_load : (room : ℕ → Bool) (t a address bytes : ℕ) (rest : Rest) (y : Private) → a ≡ address → may_use room address bytes ≡ true
    → went room (Load t a bytes rest false) y ≡ Some (record { cpu = with_half y.cpu.half (go_with t (extended bytes rest (y.cpu.regs t) (number_at y.frame address bytes)) y.cpu); frame = y.frame })
went_load room t a address bytes rest y e h =
    ap (λ q. if_room (may_use room q bytes) (record { cpu = with_half y.cpu.half (go_with t (extended bytes rest (y.cpu.regs t) (number_at y.frame q bytes)) y.cpu); frame = y.frame })) e
    ∙ ap (λ q. if_room q (record { cpu = with_half y.cpu.half (go_with t (extended bytes rest (y.cpu.regs t) (number_at y.frame address bytes)) y.cpu); frame = y.frame })) h

pub went_store : (room : ℕ → Bool) (v a address bytes : ℕ) (y : Private) → a ≡ address → may_use room address bytes ≡ true → went room (Store a bytes v) y ≡ Some (record { cpu = go_on y.cpu; frame = written y.frame address bytes (cut bytes v) })
went_store room v a address bytes y e h =
    ap (λ q. if_room (may_use room q bytes) (record { cpu = go_on y.cpu; frame = written y.frame q bytes (cut bytes v) })) e ∙ ap (λ q. if_room q (record { cpu = go_on y.cpu; frame = written y.frame address bytes (cut bytes v) })) h

-- the address of a far slot, in register 8
far : (room : ℕ → Bool) (count r address : ℕ) (y : Private) → SlotAt room count 2 r address y
    → (let regs = at_place y.cpu.regs 8 (down (8 * (r + 1))) in at_place regs 8 ((regs 2 + regs 8) % 2 ^ 64) 8 ≡ address)
far room count r address y s =
    let d = down (8 * (r + 1)) in
    let regs = at_place y.cpu.regs 8 d in
    at_same regs 8 ((regs 2 + regs 8) % 2 ^ 64) ∙ ap (λ q. (regs 2 + q) % 2 ^ 64) (at_same y.cpu.regs 8 d) ∙ ap (λ q. (q + d) % 2 ^ 64) (at_other y.cpu.regs 8 d 2 (λ e. omega (arith, e))) ∙ far_is (y.cpu.regs 2) address r s.below s.wide

is_near : (r : ℕ) → nat_lt r near_slots ≡ true → r < 256
is_near r h = grind (arith, nat_tests, h)

address_wide : (room : ℕ → Bool) (count r address : ℕ) (y : Private) → SlotAt room count 2 r address y → address < 2 ^ 64
address_wide room count r address y s = let a = s.below in let b = s.wide in omega (arith, a, b)

got : (near : Bool) (room : ℕ → Bool) (count t r address : ℕ) (y : Private) → nat_lt r near_slots ≡ near → is_usable t ≡ true → SlotAt room count 2 r address y → Got rv_kind room (get_by near t r) 8 t address y
got true room count t r address y near ok s =
    record {
      private = record { cpu = with_half y.cpu.half (go_with t (number_at y.frame address 8) y.cpu); frame = y.frame };
      goes = (_, went_load room t (displaced (y.cpu.regs 2) (below r)) address 8 Zeros y (near_is (y.cpu.regs 2) address r (is_near r near) s.below s.wide) s.usable, refl);
      frame = refl;
      number = at_same y.cpu.regs t (number_at y.frame address 8);
      others = λ q ne via. at_other y.cpu.regs t (number_at y.frame address 8) q ne;
    }
got false room count t r address y near ok s =
    let d = down (8 * (r + 1)) in
    let y1 : Private = record { cpu = go_with 8 d y.cpu; frame = y.frame } in
    let sum = (y1.cpu.regs 2 + y1.cpu.regs 8) % 2 ^ 64 in
    let y2 : Private = record { cpu = go_with 8 sum y1.cpu; frame = y.frame } in
    let number : y2.cpu.regs 8 ≡ address = far room count r address y s in
    record {
      private = record { cpu = with_half y2.cpu.half (go_with t (number_at y.frame address 8) y2.cpu); frame = y.frame };
      goes = (y1, refl, (y2, refl, (_, went_load room t (displaced (y2.cpu.regs 8) (pos 0)) address 8 Zeros y2 (there (y2.cpu.regs 8) address number (address_wide room count r address y s)) s.usable, refl)));
      frame = refl;
      number = at_same y2.cpu.regs t (number_at y.frame address 8);
      others = λ q ne via. at_other y2.cpu.regs t (number_at y.frame address 8) q ne ∙ at_other y1.cpu.regs 8 sum q via ∙ at_other y.cpu.regs 8 d q via;
    }

gave : (near : Bool) (room : ℕ → Bool) (count t r address : ℕ) (y : Private) → nat_lt r near_slots ≡ near → is_usable t ≡ true → SlotAt room count 2 r address y → Gave rv_kind room (put_first_by near r t ++ put_last_by near r t ∷ []) 8 t address y
gave true room count t r address y near ok s =
    record {
      private = record { cpu = go_on y.cpu; frame = written y.frame address 8 (cut 8 (y.cpu.regs t)) };
      goes = (
        _,
        went_store room (read t y.cpu) (displaced (y.cpu.regs 2) (below r)) address 8 y (near_is (y.cpu.regs 2) address r (is_near r near) s.below s.wide) s.usable,
        (let e = read_reg t y.cpu ok in ap (λ v. record { cpu = go_on y.cpu; frame = written y.frame address 8 (cut 8 v) }) e),
      );
      frame = refl;
      others = λ q ne. refl;
    }
gave false room count t r address y near ok s =
    let d = down (8 * (r + 1)) in
    let y1 : Private = record { cpu = go_with 8 d y.cpu; frame = y.frame } in
    let sum = (y1.cpu.regs 2 + y1.cpu.regs 8) % 2 ^ 64 in
    let y2 : Private = record { cpu = go_with 8 sum y1.cpu; frame = y.frame } in
    let number : y2.cpu.regs 8 ≡ address = far room count r address y s in
    let apart = usable_not_via t ok in
    let num : read t y2.cpu ≡ y.cpu.regs t = read_reg t y2.cpu ok ∙ at_other y1.cpu.regs 8 sum t apart ∙ at_other y.cpu.regs 8 d t apart in
    record {
      private = record { cpu = go_on y2.cpu; frame = written y.frame address 8 (cut 8 (y.cpu.regs t)) };
      goes = (
        y1,
        refl,
        (
          y2,
          refl,
          (
            _,
            went_store room (read t y2.cpu) (displaced (y2.cpu.regs 8) (pos 0)) address 8 y2 (there (y2.cpu.regs 8) address number (address_wide room count r address y s)) s.usable,
            ap (λ v. record { cpu = go_on y2.cpu; frame = written y.frame address 8 (cut 8 v) }) num,
          ),
        ),
      );
      frame = refl;
      others = λ q ne. at_other y1.cpu.regs 8 sum q ne ∙ at_other y.cpu.regs 8 d q ne;
    }

two : (near : Bool) (r t : ℕ) → length (put_first_by near r t) ≤ 2
two true r t = omega arith
two false r t = omega arith

-- RV64'S TABLE OF SLOTS
pub rv_slots : (count : ℕ) → IsTable rv_kind rv_table count
rv_slots count =
    record {
      no_via = refl;
      gets = λ room t r address y ok s. got (nat_lt r near_slots) room count t r address y refl ok s;
      puts = λ room t r address y ok s. gave (nat_lt r near_slots) room count t r address y refl ok s;
      brief = λ r t. two (nat_lt r near_slots) r t;
    }
