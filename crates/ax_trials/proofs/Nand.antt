-- The load, the computation and the locked compare-and-swap do what a fetch-and-nand says.
use Rattle.std.proofs.Common.{◌≡◌, ℕ, ◌+◌, ◌-◌, ◌%◌, ◌^◌, ◌<◌, Bool, true, false, [], ◌∷◌, refl, sym, ap, ◌∙◌, inl, arith}
use Rattle.std.specs.Prelude.{◌≢◌, not, if◌then◌else◌, nat_eq, bit_and, pos, negsuc}
use Rattle.std.proofs.lemmas.Bool.{eq-eqb, ne_eqb}
use Rattle.ax_words.specs.declared.operation.RmwOp.TheVariants as rmw
use Rattle.ax_store.specs.Storage.{at_place}
use Rattle.ax_isa.specs.declared.effects.Change.TheVariants.{Exchange}
use Rattle.ax_isa.specs.declared.effects.Effect.{Effect}
use Rattle.ax_isa.specs.declared.effects.Effect.TheVariants as effect
use Rattle.ax_isa.specs.declared.effects.Rest.TheVariants.{Zeros}
use Rattle.ax_isa.specs.Processor.{Processor}
use Rattle.ax_isa.specs.Steps.{exchanged, go_with}
use Rattle.ax_isa.proofs.Functions.{at_same, at_other}
use Rattle.ax_x86.specs.Arithmetic.{complement}
use Rattle.ax_x86.specs.declared.instructions.Alu.TheVariants as alu
use Rattle.ax_x86.specs.declared.instructions.Condition.TheVariants as condition
use Rattle.ax_x86.specs.declared.instructions.Size.TheVariants.{Quad}
use Rattle.ax_x86.specs.declared.instructions.X86Instr.{X86Instr}
use Rattle.ax_x86.specs.declared.instructions.X86Instr.TheVariants as x86
use Rattle.ax_isa.specs.Numbers.{displaced}
use Rattle.ax_x86.specs.Instructions.{branch_place, effect_of, x86_kind}
use Rattle.ax_expand.specs.Bytes.{bytes_world}
use Rattle.ax_expand.specs.Operation.{Keeps}
use Rattle.ax_expand.specs.Private.{Private, went}
use Rattle.ax_loops.specs.Compare.{Compares, CompareLoop, Computes, Exchanges, IsBack, IsDone}
use Rattle.ax_loops.specs.Moving.{nowhere}
use Rattle.ax_loops.specs.Updating.{update_replacement, updating_on}
use Rattle.ax_loops.proofs.Updating.{update_replaces}
use Rattle.ax_trials.specs.Buffered.{at_register}
use Rattle.ax_loops.specs.Registers.{all_but}
use Rattle.ax_trials.specs.Nand.{AreNandRegisters, NandRegisters, nand_update}
use Rattle.ax_trials.proofs.Buffered.{at_object}
use Rattle.ax_loops.proofs.Registers.{apart, cut_same, is_held, not_scratch, with_result}

load_effect : (address to : ℕ) (c : Processor) → effect_of (x86.Load Quad (at_register address) to) c ≡ effect.Load to (displaced (c.regs address) (pos 0)) 8 Zeros false
unfolding effect_of
load_effect address to c = refl

move_effect : (from to : ℕ) (c : Processor) → effect_of (x86.Mov from to) c ≡ effect.Set to (c.regs from)
unfolding effect_of
move_effect from to c = refl

and_effect : (from to : ℕ) (c : Processor) → effect_of (x86.Alu alu.And from to) c ≡ effect.Set to (bit_and (c.regs to) (c.regs from))
unfolding effect_of
and_effect from to c = refl

not_effect : (to : ℕ) (c : Processor) → effect_of (x86.Not to) c ≡ effect.Set to (complement (c.regs to))
unfolding effect_of
not_effect to c = refl

exchange_effect : (new address : ℕ) (c : Processor) → effect_of (x86.LockCmpxchg Quad new (at_register address)) c ≡ effect.Locked 0 0 (displaced (c.regs address) (pos 0)) 8 Zeros (Exchange (c.regs 0) (c.regs new) true)
unfolding effect_of
exchange_effect new address c = refl

branch_effect : (c : Processor) → effect_of (x86.Jcc condition.NotEqual (negsuc 3)) c ≡ effect.Jump (branch_place condition.NotEqual (negsuc 3) c)
unfolding effect_of
branch_effect c = refl

back_four : (place start : ℕ) → place ≡ start + 5 → place < 2 ^ 32 → displaced place (negsuc 3) ≡ start + 1
back_four place start h small = (let e : (place + (2 ^ 64 - 1 - 3)) % 2 ^ 64 ≡ start + 1 = omega (arith, h, small) in e)

abbrev pub nand_loop : (ℕ → Bool) → NandRegisters → CompareLoop X86Instr
nand_loop keeps r =
    record {
      load = x86.Load Quad (at_register r.address) 0;
      computation = x86.Mov 0 r.new ∷ x86.Alu alu.And r.operand r.new ∷ x86.Not r.new ∷ [];
      exchange = x86.LockCmpxchg Quad r.new (at_register r.address);
      checks = [];
      branch = x86.Jcc condition.NotEqual (negsuc 3);
      old = 0;
      loaded = Zeros;
      rest = Zeros;
      high = 0;
      compares = true;
      holds = all_but 0 keeps;
    }

module _ (keeps : ℕ → Bool) (r : NandRegisters) (h : AreNandRegisters keeps r) where
  abbrev loop : CompareLoop X86Instr
  loop = nand_loop keeps r

  held_address : loop.holds r.address ≡ true
  held_address = is_held keeps 0 r.address h.address h.address_stays

  held_operand : loop.holds r.operand ≡ true
  held_operand = is_held keeps 0 r.operand h.operand h.operand_stays

  not_new : (q : ℕ) → keeps q ≡ true → q ≢ r.new
  not_new q k = not_scratch keeps 0 r.new q h.new k

  -- an instruction that sets a register
  sets : (i : X86Instr) (to number : ℕ) (y : Private) → effect_of i y.cpu ≡ effect.Set to number → went nowhere (effect_of i y.cpu) y ≡ went nowhere (effect.Set to number) y
  sets i to number y e = ap (λ q. went nowhere q y) e

  -- once the exchange is to be made
  exchanges : (c : Processor) (regs : ℕ → ℕ) (number : ℕ) → number < 2 ^ 64 → Keeps loop.holds c.regs regs → c.regs 0 ≡ number → c.regs r.new ≡ complement (bit_and number (regs r.operand))
      → Exchanges x86_kind keeps (updating_on rmw.Nand 8 (nand_update r)) (update_replacement rmw.Nand 8 (nand_update r)) loop regs number c
  exchanges c regs number small held old new =
      record {
        expected = number;
        is_expected = cut_same number small;
        exchanges = λ w fit.
            exchange_effect r.new r.address c
            ∙ ap (λ a. effect.Locked 0 0 a 8 Zeros (Exchange (c.regs 0) (c.regs r.new) true)) (at_object (c.regs r.address) (regs r.address) w (held r.address held_address) fit.0)
            ∙ ap (λ q. effect.Locked 0 0 (regs r.address) 8 Zeros (Exchange q (c.regs r.new) true)) old
            ∙ ap (λ q. effect.Locked 0 0 (regs r.address) 8 Zeros (Exchange number q true)) (new ∙ ap (λ q. complement (bit_and number q)) (sym (cut_same (regs r.operand) fit.1.0)));
        done = λ f. record { private = record { cpu = after number; frame = f }; goes = refl; next = done };
        back = λ f found fits differs. record { private = record { cpu = after found; frame = f }; goes = refl; next = back found differs };
      }
    where
      after : ℕ → Processor
      after found = exchanged 8 0 0 Zeros (Exchange number (2 ^ 64 - 1 - bit_and number (regs r.operand % 2 ^ 64)) true) found c

      same_cut : number % 2 ^ 64 ≡ number
      same_cut = cut_same number small

      -- the pair last compared, and rax
      equal : nat_eq number (number % 2 ^ 64) ≡ true
      equal = eq-eqb number (number % 2 ^ 64) (sym same_cut)

      turns_if : Bool → Processor → Effect
      turns_if t b = effect.Jump (if not t then displaced b.place (negsuc 3) else b.place + 1)

      done : IsDone x86_kind keeps (updating_on rmw.Nand 8 (nand_update r)) (update_replacement rmw.Nand 8 (nand_update r)) loop regs number (after number)
      done =
          record {
            gives = λ q k.
                ap (λ (t : Bool). (if t then c.regs else at_place c.regs 0 number) q) equal ∙ with_result keeps 0 c.regs regs number held old q k;
            on = λ fits. inl (branch_effect (after number) ∙ ap (λ t. turns_if t (after number)) (eq-eqb (number % 2 ^ 64) number same_cut));
          }

      back : (found : ℕ) → found ≢ number → IsBack x86_kind keeps (updating_on rmw.Nand 8 (nand_update r)) (update_replacement rmw.Nand 8 (nand_update r)) loop regs found (after found)
      back found differs =
          let other : nat_eq found (number % 2 ^ 64) ≡ false = ne_eqb found (number % 2 ^ 64) (λ e. differs (e ∙ same_cut)) in
          let gets : (q : ℕ) → (after found).regs q ≡ at_place c.regs 0 found q = λ q. ap (λ (t : Bool). (if t then c.regs else at_place c.regs 0 found) q) other in
          record {
            holds = λ q e. gets q ∙ at_other c.regs 0 found q (apart keeps 0 q e).1 ∙ held q e;
            old = gets 0 ∙ at_same c.regs 0 found;
            back = λ start at fits.
                inl (branch_effect (after found) ∙ ap (λ t. turns_if t (after found)) (ne_eqb (number % 2 ^ 64) found (λ e. differs (sym e ∙ same_cut))) ∙ ap effect.Jump (back_four (after found).place start at (let e : (after found).place < 2 ^ 32 = omega (arith, fits) in e)));
          }

  computes : (y : Private) (regs : ℕ → ℕ) (number : ℕ) → number < 2 ^ 64 → Keeps loop.holds y.cpu.regs regs → y.cpu.regs 0 ≡ number → Computes x86_kind keeps (updating_on rmw.Nand 8 (nand_update r)) (update_replacement rmw.Nand 8 (nand_update r)) loop regs number y
  computes y regs number small held old =
      let c1 = go_with r.new (y.cpu.regs 0) y.cpu in
      let y1 : Private = record { cpu = c1; frame = y.frame } in
      let v2 = bit_and (c1.regs r.new) (c1.regs r.operand) in
      let c2 = go_with r.new v2 c1 in
      let y2 : Private = record { cpu = c2; frame = y.frame } in
      let v3 = complement (c2.regs r.new) in
      let c3 = go_with r.new v3 c2 in
      let y3 : Private = record { cpu = c3; frame = y.frame } in
      let stays : (q : ℕ) → q ≢ r.new → c3.regs q ≡ y.cpu.regs q = λ q ne. at_other c2.regs r.new v3 q ne ∙ at_other c1.regs r.new v2 q ne ∙ at_other y.cpu.regs r.new (y.cpu.regs 0) q ne in
      let operand : c1.regs r.operand ≡ regs r.operand = at_other y.cpu.regs r.new (y.cpu.regs 0) r.operand (not_new r.operand h.operand) ∙ held r.operand held_operand in
      let new1 : c1.regs r.new ≡ number = at_same y.cpu.regs r.new (y.cpu.regs 0) ∙ old in
      let new3 : c3.regs r.new ≡ complement (bit_and number (regs r.operand)) =
      at_same c2.regs r.new v3 ∙ ap complement (at_same c1.regs r.new v2 ∙ ap (λ q. bit_and q (c1.regs r.operand)) new1 ∙ ap (bit_and number) operand) in
      record {
        private = y3;
        goes = (y1, sets (x86.Mov 0 r.new) r.new (y.cpu.regs 0) y (move_effect 0 r.new y.cpu), (y2, sets (x86.Alu alu.And r.operand r.new) r.new v2 y1 (and_effect r.operand r.new c1), (y3, sets (x86.Not r.new) r.new v3 y2 (not_effect r.new c2), refl)));
        exchanges = exchanges c3 regs number small (λ q e. stays q (not_new q (apart keeps 0 q e).0) ∙ held q e) (stays 0 (λ e. h.new_apart (sym e)) ∙ old) new3;
      }

  pub nand : Compares x86_kind keeps (updating_on rmw.Nand 8 (nand_update r)) (update_replacement rmw.Nand 8 (nand_update r)) loop bytes_world
  nand =
      record {
        replaces = update_replaces rmw.Nand 8 (nand_update r) refl;
        kept = apart keeps 0;
        fills = λ before number. refl;
        loads = λ c regs w fit held. load_effect r.address 0 c ∙ ap (λ a. effect.Load 0 a 8 Zeros false) (at_object (c.regs r.address) (regs r.address) w (held r.address held_address) fit.0);
        computes = λ y regs number small held old. computes y regs number small held old;
      }
