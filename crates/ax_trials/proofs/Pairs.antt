-- The linked load, the addition and the pair store do what a fetch-and-add says.
use Rattle.std.proofs.Common.{◌≡◌, ℕ, zero, suc, ◌+◌, ◌-◌, ◌%◌, ◌^◌, ◌<◌, Bool, true, [], ◌∷◌, refl, sym, ap, ◌∙◌, inl, inr, arith}
use Rattle.std.specs.Prelude.{◌≢◌, not, if◌then◌else◌, nat_eq, negsuc}
use Rattle.ax_words.specs.declared.operation.RmwOp.TheVariants as rmw
use Rattle.ax_isa.specs.declared.effects.Effect.{Effect}
use Rattle.ax_isa.specs.declared.effects.Effect.TheVariants as effect
use Rattle.ax_isa.specs.declared.effects.Rest.TheVariants.{Zeros}
use Rattle.ax_isa.specs.Processor.{Processor}
use Rattle.ax_isa.specs.Steps.{go_with}
use Rattle.ax_isa.proofs.Functions.{at_same, at_other}
use Rattle.ax_rv.specs.declared.instructions.Binary.TheVariants as binary_op
use Rattle.ax_rv.specs.declared.instructions.Condition.TheVariants as condition
use Rattle.ax_rv.specs.declared.instructions.Ending.{Ending}
use Rattle.ax_rv.specs.declared.instructions.RvInstr.{RvInstr}
use Rattle.ax_rv.specs.declared.instructions.RvInstr.TheVariants.{Binary, Branch, LoadReserved, StoreConditional}
use Rattle.ax_rv.specs.declared.instructions.Size.TheVariants.{Double}
use Rattle.ax_isa.specs.Numbers.{displaced}
use Rattle.ax_rv.specs.Instructions.{read, rv_kind}
use Rattle.ax_expand.specs.Bytes.{bytes_world}
use Rattle.ax_expand.specs.Operation.{Keeps}
use Rattle.ax_expand.specs.Private.{Private}
use Rattle.ax_loops.specs.Retry.{Retries, RetryLoop, Computes}
use Rattle.ax_loops.specs.Updating.{update_replacement, updating_on}
use Rattle.ax_loops.proofs.Updating.{update_replaces}
use Rattle.ax_loops.specs.Registers.{all_but}
use Rattle.ax_trials.specs.Pairs.{ArePairRegisters, PairRegisters}
use Rattle.ax_loops.proofs.Registers.{apart, cut_same, is_held, not_scratch, with_result}

abbrev pub adding_loop : (ℕ → Bool) → Ending → Ending → PairRegisters → RetryLoop RvInstr
adding_loop keeps acquire release r =
    record {
      link = LoadReserved Double acquire r.update.result r.update.address;
      computation = Binary binary_op.Add r.sum r.update.result r.update.operand ∷ [];
      pair = StoreConditional Double release r.failed r.sum r.update.address;
      branch = Branch condition.NotEqual r.failed 0 (negsuc 2);
      old = r.update.result;
      rest = Zeros;
      failed = r.failed;
      holds = all_but r.update.result keeps;
    }

-- a register that holds a number
pub read_is : (q : ℕ) (c : Processor) → q ≢ 0 → read q c ≡ c.regs q
read_is zero c some = absurd (some refl)
read_is (suc q) c some = refl

back_three : (place start : ℕ) → place ≡ start + 3 → place < 2 ^ 32 → displaced place (negsuc 2) ≡ start
back_three place start h small = (let e : (place + (2 ^ 64 - 1 - 2)) % 2 ^ 64 ≡ start = omega (arith, h, small) in e)

module _ (keeps : ℕ → Bool) (acquire release : Ending) (r : PairRegisters) (h : ArePairRegisters keeps r) where
  abbrev loop : RetryLoop RvInstr
  loop = adding_loop keeps acquire release r

  kept : (q : ℕ) → loop.holds q ≡ true → (keeps q ≡ true) × (q ≢ r.update.result) × (q ≢ r.failed)
  kept q e = (let z = apart keeps r.update.result q e in (z.0, z.1, not_scratch keeps r.update.result r.failed q h.failed z.0))

  held_address : loop.holds r.update.address ≡ true
  held_address = is_held keeps r.update.result r.update.address h.address h.address_stays

  held_operand : loop.holds r.update.operand ≡ true
  held_operand = is_held keeps r.update.result r.update.operand h.operand h.operand_stays

  computes : (y : Private) (regs : ℕ → ℕ) (number : ℕ) → Keeps loop.holds y.cpu.regs regs → y.cpu.regs r.update.result ≡ number → Computes rv_kind keeps (updating_on rmw.Add 8 r.update) (update_replacement rmw.Add 8 r.update) loop regs number y
  computes y regs number held old =
      let total = (read r.update.result y.cpu + read r.update.operand y.cpu) % 2 ^ 64 in
      let c : Processor = go_with r.sum total y.cpu in
      let after : Keeps loop.holds c.regs regs = λ q e. at_other y.cpu.regs r.sum total q (not_scratch keeps r.update.result r.sum q h.sum (kept q e).0) ∙ held q e in
      let sum_is : read r.sum c ≡ (number + regs r.update.operand) % 2 ^ 64 =
      read_is r.sum c h.some_sum ∙ at_same y.cpu.regs r.sum total
      ∙ ap (λ m. (m + read r.update.operand y.cpu) % 2 ^ 64) (read_is r.update.result y.cpu h.some_result ∙ old)
      ∙ ap (λ m. (number + m) % 2 ^ 64) (read_is r.update.operand y.cpu h.some_operand ∙ held r.update.operand held_operand) in
      record {
        private = record { cpu = c; frame = y.frame };
        goes = (_, refl, refl);
        stores = record {
          holds = after;
          stores = λ w fit.
              ap (λ a. effect.PairStore r.failed a 8 (read r.sum c)) (read_is r.update.address c h.some_address ∙ after r.update.address held_address)
              ∙ ap (λ m. effect.PairStore r.failed (regs r.update.address) 8 m) (sum_is ∙ ap (λ m. (number + m) % 2 ^ 64) (sym (cut_same (regs r.update.operand) fit.1.0)));
          gives = λ q k. at_other c.regs r.failed 0 q (not_scratch keeps r.update.result r.failed q h.failed k) ∙ at_other y.cpu.regs r.sum total q (not_scratch keeps r.update.result r.sum q h.sum k) ∙ with_result keeps r.update.result y.cpu.regs regs number held old q k;
        };
      }

  abbrev branch_if : Bool → Processor → Effect
  branch_if t c = if t then effect.Jump (displaced c.place (negsuc 2)) else effect.Nop

  pub fetch_and_add : Retries rv_kind keeps (updating_on rmw.Add 8 r.update) (update_replacement rmw.Add 8 r.update) loop bytes_world
  fetch_and_add =
      record {
        replaces = update_replaces rmw.Add 8 r.update refl;
        unbuffered = refl;
        kept = kept;
        fills = λ before number. refl;
        links = λ c regs w fit held. ap (λ a. effect.Link r.update.result a 8 Zeros) (read_is r.update.address c h.some_address ∙ held r.update.address held_address);
        computes = λ y regs number small held old. computes y regs number held old;
        back = λ c start at small f. inl (ap (λ m. branch_if (not (nat_eq m 0)) c) (read_is r.failed c h.some_failed ∙ f) ∙ ap effect.Jump (back_three c.place start (let f : c.place ≡ start + 1 + 2 = at in omega (arith, f)) (let e : c.place < 2 ^ 32 = omega (arith, small) in e)));
        on = λ c small f. inr (ap (λ m. branch_if (not (nat_eq m 0)) c) (read_is r.failed c h.some_failed ∙ f), refl);
      }
