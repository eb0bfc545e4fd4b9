-- A register that is set, as a function from numbers to registers.
use Rattle.std.proofs.Common.{◌≡◌, ℕ, ◌<◌, List, length, arith}
use Rattle.std.specs.Prelude.{slice_index_or, slice_set}
use Rattle.std.proofs.lemmas.Bool.Decides.{nat_tests}
use Rattle.std.proofs.lemmas.Grind.{common_steps}
use Rattle.ax_store.specs.Storage.{at_place}
use Rattle.ax_isa.specs.declared.cpu.Cpu.{Cpu}
use Rattle.ax_isa.specs.Processor.{processor_of}
use Rattle.ax_isa.specs.Steps.{with_regs}

registers_set : (regs : List ℕ) (to number : ℕ) → to < length regs → (λ r. slice_index_or (slice_set regs to number) r 0) ≡ at_place (λ r. slice_index_or regs r 0) to number
registers_set regs to number h = λ d r. at r d
  where
    at : (r : ℕ) → slice_index_or (slice_set regs to number) r 0 ≡ at_place (λ q. slice_index_or regs q 0) to number r
    at r = grind (arith, common_steps, nat_tests)

pub register_set : (c : Cpu) (to number : ℕ) → to < length c.regs
    → processor_of (record c { regs = slice_set c.regs to number }) ≡ with_regs (at_place (processor_of c).regs to number) c.place (processor_of c)
register_set c to number h = λ d. record { regs = registers_set c.regs to number h d; compared = c.compared; half = c.half; place = c.place; status = c.status; role = c.role }
