-- The load, the computation, the locked compare-and-swap and the comparison do what a fetch-and-nand says.
use Rattle.std.proofs.Common.{◌≡◌, ℕ, ◌+◌, ◌-◌, ◌%◌, ◌^◌, ◌<◌, Bool, true, false, [], ◌∷◌, refl, sym, ap, ◌∙◌, inl, inr, arith}
use Rattle.std.specs.Prelude.{◌≢◌, not, nat_eq, bit_and, negsuc}
use Rattle.std.proofs.lemmas.Bool.{eq-eqb, ne_eqb}
use Rattle.ax_words.specs.declared.operation.RmwOp.TheVariants as rmw
use Rattle.ax_isa.specs.declared.effects.Change.TheVariants.{Exchange}
use Rattle.ax_isa.specs.declared.effects.Effect.{Effect}
use Rattle.ax_isa.specs.declared.effects.Effect.TheVariants as effect
use Rattle.ax_isa.specs.declared.effects.Rest.TheVariants.{Zeros}
use Rattle.ax_isa.specs.Processor.{Processor}
use Rattle.ax_isa.specs.Steps.{exchanged, go_on, go_with, with_compared}
use Rattle.ax_isa.proofs.Functions.{at_same, at_other}
use Rattle.ax_arm.specs.declared.instructions.Alu.TheVariants as alu
use Rattle.ax_arm.specs.declared.instructions.ArmInstr.{ArmInstr}
use Rattle.ax_arm.specs.declared.instructions.ArmInstr.TheVariants as arm
use Rattle.ax_arm.specs.declared.instructions.Condition.TheVariants as conditions
use Rattle.ax_arm.specs.declared.instructions.Ending.{Ending}
use Rattle.ax_arm.specs.declared.instructions.Size.TheVariants as sizes
use Rattle.ax_isa.specs.Numbers.{displaced}
use Rattle.ax_arm.specs.Effects.{effect_of, jump_if, moved}
use Rattle.ax_arm.specs.Instructions.{arm_kind}
use Rattle.ax_expand.specs.Bytes.{bytes_world}
use Rattle.ax_expand.specs.Operation.{Keeps}
use Rattle.ax_expand.specs.Private.{Private, went}
use Rattle.ax_expand.specs.Shared.{Object, Shared}
use Rattle.ax_loops.specs.Compare.{Compares, CompareLoop, Computes, Exchanges, IsBack, IsDone}
use Rattle.ax_loops.specs.Moving.{nowhere}
use Rattle.ax_loops.specs.Updating.{update_replacement, updating_on}
use Rattle.ax_loops.proofs.Updating.{update_replaces}
use Rattle.ax_loops.specs.Registers.{all_but}
use Rattle.ax_trials.specs.Swap.{AreSwapRegisters, SwapRegisters}
use Rattle.ax_loops.proofs.Registers.{apart, cut_same, is_held, not_scratch, with_result}

load_effect : (to address : ℕ) (c : Processor) → effect_of (arm.Ldr sizes.Double to address 0) c ≡ effect.Load to (moved (c.regs address) 0) 8 Zeros false
unfolding effect_of
load_effect to address c = refl

move_effect : (to from : ℕ) (c : Processor) → effect_of (arm.Mov to from) c ≡ effect.Set to (c.regs from)
unfolding effect_of
move_effect to from c = refl

and_effect : (to a b : ℕ) (c : Processor) → effect_of (arm.Alu alu.And to a b) c ≡ effect.Set to (bit_and (c.regs a) (c.regs b))
unfolding effect_of
and_effect to a b c = refl

not_effect : (to from : ℕ) (c : Processor) → effect_of (arm.Mvn to from) c ≡ effect.Set to (2 ^ 64 - 1 - c.regs from)
unfolding effect_of
not_effect to from c = refl

swap_effect : (ending : Ending) (old new address : ℕ) (c : Processor) → effect_of (arm.Cas ending sizes.Double old new address) c ≡ effect.Locked old 0 (c.regs address) 8 Zeros (Exchange (c.regs old) (c.regs new) false)
unfolding effect_of
swap_effect ending old new address c = refl

compare_effect : (a b : ℕ) (c : Processor) → effect_of (arm.Cmp a b) c ≡ effect.Compare (c.regs a) (c.regs b)
unfolding effect_of
compare_effect a b c = refl

branch_effect : (c : Processor) → effect_of (arm.BCond conditions.Ne (negsuc 4)) c ≡ jump_if (not (nat_eq c.compared.0 c.compared.1)) c.place (negsuc 4)
unfolding effect_of
branch_effect c = refl

back_five : (place start : ℕ) → place ≡ start + 6 → place < 2 ^ 32 → displaced place (negsuc 4) ≡ start + 1
back_five place start h small = (let e : (place + (2 ^ 64 - 1 - 4)) % 2 ^ 64 ≡ start + 1 = omega (arith, h, small) in e)

at_object : (a b : ℕ) (w : Shared) → a ≡ b → Object b 8 w → moved a 0 ≡ b
at_object a b w e o = (let low = o.below in let f : (a + 0) % 2 ^ 64 ≡ b = omega (arith, e, low) in f)

-- an instruction that touches registers alone
goes_by : (i : ArmInstr) (e : Effect) (y : Private) → effect_of i y.cpu ≡ e → went nowhere (effect_of i y.cpu) y ≡ went nowhere e y
goes_by i e y is = ap (λ q. went nowhere q y) is

abbrev pub swap_loop : (ℕ → Bool) → Ending → SwapRegisters → CompareLoop ArmInstr
swap_loop keeps ending r =
    record {
      load = arm.Ldr sizes.Double r.update.result r.update.address 0;
      computation = arm.Mov r.copy r.update.result ∷ arm.Alu alu.And r.new r.update.result r.update.operand ∷ arm.Mvn r.new r.new ∷ [];
      exchange = arm.Cas ending sizes.Double r.update.result r.new r.update.address;
      checks = arm.Cmp r.update.result r.copy ∷ [];
      branch = arm.BCond conditions.Ne (negsuc 4);
      old = r.update.result;
      loaded = Zeros;
      rest = Zeros;
      high = 0;
      compares = false;
      holds = all_but r.update.result keeps;
    }

module _ (keeps : ℕ → Bool) (ending : Ending) (r : SwapRegisters) (h : AreSwapRegisters keeps r) where
  abbrev loop : CompareLoop ArmInstr
  loop = swap_loop keeps ending r

  abbrev old : ℕ
  old = r.update.result

  held_address : loop.holds r.update.address ≡ true
  held_address = is_held keeps old r.update.address h.address h.address_stays

  held_operand : loop.holds r.update.operand ≡ true
  held_operand = is_held keeps old r.update.operand h.operand h.operand_stays

  not_copy : (q : ℕ) → keeps q ≡ true → q ≢ r.copy
  not_copy q k = not_scratch keeps old r.copy q h.copy k

  not_new : (q : ℕ) → keeps q ≡ true → q ≢ r.new
  not_new q k = not_scratch keeps old r.new q h.new k

  abbrev nand_of : ℕ → ℕ → ℕ
  nand_of a b = 2 ^ 64 - 1 - bit_and a b

  -- once the exchange is to be made
  exchanges : (c : Processor) (regs : ℕ → ℕ) (number : ℕ) → number < 2 ^ 64 → Keeps loop.holds c.regs regs → c.regs old ≡ number → c.regs r.copy ≡ number → c.regs r.new ≡ nand_of number (regs r.update.operand)
      → Exchanges arm_kind keeps (updating_on rmw.Nand 8 r.update) (update_replacement rmw.Nand 8 r.update) loop regs number c
  exchanges c regs number small held is copy new =
      record {
        expected = number;
        is_expected = cut_same number small;
        exchanges = λ w fit.
            swap_effect ending old r.new r.update.address c
            ∙ ap (λ a. effect.Locked old 0 a 8 Zeros (Exchange (c.regs old) (c.regs r.new) false)) (held r.update.address held_address)
            ∙ ap (λ q. effect.Locked old 0 (regs r.update.address) 8 Zeros (Exchange q (c.regs r.new) false)) is
            ∙ ap (λ q. effect.Locked old 0 (regs r.update.address) 8 Zeros (Exchange number q false)) (new ∙ ap (nand_of number) (sym (cut_same (regs r.update.operand) fit.1.0)));
        done = λ f. record { private = record { cpu = checked number; frame = f }; goes = (_, goes_by (arm.Cmp old r.copy) _ (record { cpu = after number; frame = f }) (compare_effect old r.copy (after number)), refl); next = done };
        back = λ f found fits differs. record { private = record { cpu = checked found; frame = f }; goes = (_, goes_by (arm.Cmp old r.copy) _ (record { cpu = after found; frame = f }) (compare_effect old r.copy (after found)), refl); next = back found differs };
      }
    where
      after : ℕ → Processor
      after found = exchanged 8 old 0 Zeros (Exchange number (2 ^ 64 - 1 - bit_and number (regs r.update.operand % 2 ^ 64)) false) found c

      checked : ℕ → Processor
      checked found = with_compared ((after found).regs old, (after found).regs r.copy) (go_on (after found))

      first : (found : ℕ) → (after found).regs old ≡ found
      first found = at_same c.regs old found

      second : (found : ℕ) → (after found).regs r.copy ≡ number
      second found = at_other c.regs old found r.copy h.copy_apart ∙ copy

      holds_after : (found : ℕ) → Keeps loop.holds (after found).regs regs
      holds_after found q e = at_other c.regs old found q (apart keeps old q e).1 ∙ held q e

      branch_is : (found : ℕ) → effect_of (arm.BCond conditions.Ne (negsuc 4)) (checked found) ≡ jump_if (not (nat_eq found number)) (checked found).place (negsuc 4)
      branch_is found = branch_effect (checked found) ∙ ap (λ a. jump_if (not (nat_eq a ((after found).regs r.copy))) (checked found).place (negsuc 4)) (first found) ∙ ap (λ a. jump_if (not (nat_eq found a)) (checked found).place (negsuc 4)) (second found)

      done : IsDone arm_kind keeps (updating_on rmw.Nand 8 r.update) (update_replacement rmw.Nand 8 r.update) loop regs number (checked number)
      done =
          record {
            gives = with_result keeps old (after number).regs regs number (holds_after number) (first number);
            on = λ fits. inr (branch_is number ∙ ap (λ t. jump_if (not t) (checked number).place (negsuc 4)) (eq-eqb number number refl), refl);
          }

      back : (found : ℕ) → found ≢ number → IsBack arm_kind keeps (updating_on rmw.Nand 8 r.update) (update_replacement rmw.Nand 8 r.update) loop regs found (checked found)
      back found differs =
          record {
            holds = holds_after found;
            old = first found;
            back = λ start at fits.
                inl (branch_is found ∙ ap (λ t. jump_if (not t) (checked found).place (negsuc 4)) (ne_eqb found number differs) ∙ ap effect.Jump (back_five (checked found).place start at (let e : (checked found).place < 2 ^ 32 = omega (arith, fits) in e)));
          }

  computes : (y : Private) (regs : ℕ → ℕ) (number : ℕ) → number < 2 ^ 64 → Keeps loop.holds y.cpu.regs regs → y.cpu.regs old ≡ number → Computes arm_kind keeps (updating_on rmw.Nand 8 r.update) (update_replacement rmw.Nand 8 r.update) loop regs number y
  computes y regs number small held is =
      let v1 = y.cpu.regs old in
      let c1 = go_with r.copy v1 y.cpu in
      let y1 : Private = record { cpu = c1; frame = y.frame } in
      let v2 = bit_and (c1.regs old) (c1.regs r.update.operand) in
      let c2 = go_with r.new v2 c1 in
      let y2 : Private = record { cpu = c2; frame = y.frame } in
      let v3 = 2 ^ 64 - 1 - c2.regs r.new in
      let c3 = go_with r.new v3 c2 in
      let y3 : Private = record { cpu = c3; frame = y.frame } in
      let stays : (q : ℕ) → q ≢ r.copy → q ≢ r.new → c3.regs q ≡ y.cpu.regs q = λ q a b. at_other c2.regs r.new v3 q b ∙ at_other c1.regs r.new v2 q b ∙ at_other y.cpu.regs r.copy v1 q a in
      let operand : c1.regs r.update.operand ≡ regs r.update.operand = at_other y.cpu.regs r.copy v1 r.update.operand (not_copy r.update.operand h.operand) ∙ held r.update.operand held_operand in
      let old1 : c1.regs old ≡ number = at_other y.cpu.regs r.copy v1 old (λ e. h.copy_apart (sym e)) ∙ is in
      let new3 : c3.regs r.new ≡ nand_of number (regs r.update.operand) =
      at_same c2.regs r.new v3 ∙ ap (λ q. 2 ^ 64 - 1 - q) (at_same c1.regs r.new v2 ∙ ap (λ q. bit_and q (c1.regs r.update.operand)) old1 ∙ ap (bit_and number) operand) in
      let copy3 : c3.regs r.copy ≡ number = at_other c2.regs r.new v3 r.copy h.scratch_apart ∙ at_other c1.regs r.new v2 r.copy h.scratch_apart ∙ at_same y.cpu.regs r.copy v1 ∙ is in
      record {
        private = y3;
        goes = (y1, goes_by (arm.Mov r.copy old) (effect.Set r.copy v1) y (move_effect r.copy old y.cpu), (y2, goes_by (arm.Alu alu.And r.new old r.update.operand) (effect.Set r.new v2) y1 (and_effect r.new old r.update.operand c1), (y3, goes_by (arm.Mvn r.new r.new) (effect.Set r.new v3) y2 (not_effect r.new r.new c2), refl)));
        exchanges = exchanges c3 regs number small (λ q e. stays q (not_copy q (apart keeps old q e).0) (not_new q (apart keeps old q e).0) ∙ held q e) (stays old (λ e. h.copy_apart (sym e)) (λ e. h.new_apart (sym e)) ∙ is) copy3 new3;
      }

  pub swaps : Compares arm_kind keeps (updating_on rmw.Nand 8 r.update) (update_replacement rmw.Nand 8 r.update) loop bytes_world
  swaps =
      record {
        replaces = update_replaces rmw.Nand 8 r.update refl;
        kept = apart keeps old;
        fills = λ before number. refl;
        loads = λ c regs w fit held. load_effect old r.update.address c ∙ ap (λ a. effect.Load old a 8 Zeros false) (at_object (c.regs r.update.address) (regs r.update.address) w (held r.update.address held_address) fit.0);
        computes = λ y regs number small held is. computes y regs number small held is;
      }
