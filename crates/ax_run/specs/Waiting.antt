-- Stores that begin to wait at a step.
use Rattle.std.specs.Prelude.{ℕ, ◌&&◌, Bool, false, if◌then◌else◌, nat_lt, List, Option, Some, None}
use Rattle.ax_isa.specs.declared.effects.Effect.{Effect}
use Rattle.ax_isa.specs.declared.effects.Effect.TheVariants.{Store, CallTo}
use Rattle.ax_isa.specs.declared.effects.Saved.{Saved}
use Rattle.ax_isa.specs.declared.effects.Saved.TheVariants.{Register, Stack}
use Rattle.ax_isa.specs.Processor.{Processor}
use Rattle.ax_isa.specs.Run.{at_code}
use Rattle.ax_isa.specs.Steps.{Kind}
use Rattle.ax_source_run.specs.SourceState.{SourceProgram}
use Rattle.ax_agree.specs.Agree.{is_native_byte}

abbrev pub saved_at : Saved → Option ℕ
saved_at (Register to) = None
saved_at (Stack pointer a) = Some a

-- where an effect stores what may wait in a buffer
abbrev pub entering : Effect → Option ℕ
entering (Store a bytes number) = Some a
entering (CallTo place saved) = saved_at saved
entering _ = None

abbrev pub entering_of : {I : Type 0} → Kind I → Option I → Processor → Option ℕ
entering_of kind None c = None
entering_of kind (Some i) c = entering (kind.effect_of i c)

-- where the next step of a processor does
abbrev pub entering_at : {I : Type 0} → Kind I → List I → Processor → Option ℕ
entering_at kind code c = entering_of kind (at_code code c.place) c

-- is this the address of a byte of a native object
abbrev pub is_native_at : SourceProgram → Option ℕ → Bool
is_native_at program None = false
is_native_at program (Some a) = is_native_byte program 0 program.layout.spans a

-- how many more stores to native objects wait, where so many stores waited, then so many, and the one that may have come stores there
abbrev pub grown_by : SourceProgram → ℕ → ℕ → Option ℕ → ℕ
grown_by program before after address = if nat_lt before after && is_native_at program address then 1 else 0
