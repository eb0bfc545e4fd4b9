-- The state after a list of events: *Source run*.
use Rattle.std.specs.Prelude.{ℕ, List, [], ◌∷◌, Option, Some, None, slice_get}
use Rattle.ax_module.specs.declared.module.Global.{Global}
use Rattle.ax_module.specs.declared.module.Module.{Module}
use Rattle.ax_module.specs.declared.operand.Operand.{Operand}
use Rattle.ax_module.specs.declared.types.Ty.{Ty}
use Rattle.ax_words.specs.declared.source.SourceEvent.{SourceEvent}
use Rattle.ax_words.specs.declared.source.SourceStatus.TheVariants.{Running, Ended}
use Rattle.ax_source_run.specs.SourceEvent.{source_event}
use Rattle.ax_source_run.specs.SourceState.{SourceProcessor, SourceProgram, SourceState, Number}
use Rattle.ax_source_run.specs.SourceValues.{operand_of}

-- without constants all elements are 0
abbrev pub constant_of : Ty → Option Operand → ℕ
constant_of ty None = 0
constant_of ty (Some constant) = operand_of ty constant (λ k. Number 0)

abbrev pub constants_of : Option Global → ℕ → ℕ
constants_of None i = 0
constants_of (Some global) i = constant_of global.elem (slice_get global.init i)

abbrev pub first_numbers : Module → ℕ → ℕ → ℕ
first_numbers m g i = constants_of (slice_get m.globals g) i

-- a processor begins at the first instruction of its entry, with allocas that are zero; there is none past the last entry
abbrev pub first_processor : Option ℕ → SourceProcessor
first_processor (Some f) = record { function = f; block = 0; index = 0; values = λ k. Number 0; allocas = λ r i. 0; status = Running; seen = None; pending = [] }
first_processor None = record { function = 0; block = 0; index = 0; values = λ k. Number 0; allocas = λ r i. 0; status = Ended; seen = None; pending = [] }

abbrev pub source_start : Module → List ℕ → SourceState
source_start m entries = record { numbers = first_numbers m; outputs = []; processors = λ p. first_processor (slice_get entries p) }

abbrev pub source_run : SourceProgram → List SourceEvent → SourceState → SourceState
source_run program [] s = s
source_run program (e ∷ es) s = source_run program es (source_event program e s)
