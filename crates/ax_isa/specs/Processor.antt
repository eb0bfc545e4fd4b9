-- One processor: registers as a function from their numbers.
use Rattle.std.specs.Prelude.{ℕ, Bool, slice_index_or}
use Rattle.ax_isa.specs.declared.cpu.Cpu.{Cpu}
use Rattle.ax_tags.specs.declared.tags.Role.{Role}
use Rattle.ax_isa.specs.declared.cpu.Status.{Status}

pub record Processor : Type 0 where
  pub regs : ℕ → ℕ
  pub compared : ℕ × ℕ
  pub half : Bool
  pub place : ℕ
  pub status : Status
  pub role : Role

abbrev pub processor_of : Cpu → Processor
processor_of c = record { regs = λ r. slice_index_or c.regs r 0; compared = c.compared; half = c.half; place = c.place; status = c.status; role = c.role }
