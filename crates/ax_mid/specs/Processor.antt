-- A processor of the middle machine, and what an event does to it.
use Rattle.std.specs.Prelude.{ℕ, ◌+◌, List, Option, Some, None}
use Rattle.ax_words.specs.declared.source.SourceStatus.{SourceStatus}
use Rattle.ax_source_run.specs.SourceAccess.{put_at}
use Rattle.ax_source_run.specs.SourceState.{PendingStore}

-- the place of its next line, the numbers of its registers, the bytes of its frame, its status, what a look saw, and the stores that have not reached their objects
pub record MidProcessor : Type 0 where
  pub place : ℕ
  pub regs : ℕ → ℕ
  pub frame : ℕ → ℕ
  pub status : SourceStatus
  pub seen : Option ℕ
  pub pending : List PendingStore

-- what an event leaves: the processor, the objects, an output
pub record MidDeed : Type 0 where
  pub processor : MidProcessor
  pub numbers : ℕ → ℕ → ℕ
  pub output : Option ℕ

abbrev pub goes_on : MidProcessor → MidProcessor
goes_on m = record m { place = m.place + 1 }

-- register r gets a number
abbrev pub gets : ℕ → ℕ → MidProcessor → MidProcessor
gets r n m = record m { place = m.place + 1; regs = put_at m.regs r n }

-- an event that completes an instruction ends what a look saw
abbrev pub unseen : MidProcessor → MidProcessor
unseen m = record m { seen = None }
