-- What holds of every run of the source machine.
use Rattle.std.specs.Prelude.{◌≡◌, ◌≢◌, ℕ, false, List, []}
use Rattle.ax_words.specs.declared.source.SourceEvent.{SourceEvent}
use Rattle.ax_words.specs.declared.source.SourceEvent.TheVariants.{Act, Look, Miss, Drain}
use Rattle.ax_words.specs.declared.source.SourceStatus.TheVariants.{Running}
use Rattle.ax_target.specs.Targets.{is_buffered}
use Rattle.ax_source_run.specs.SourceAccess.{newest, written_out}
use Rattle.ax_source_run.specs.SourceEvent.{source_event}
use Rattle.ax_source_run.specs.SourceRun.{source_run, source_start}
use Rattle.ax_source_run.specs.SourceState.{PendingStore, SourceProgram, SourceState}

-- a load of a native object finds what the object will have once the processor's stores are written out
abbrev pub SeeOwnStores : Type 0
SeeOwnStores = (g i : ℕ) (stores : List PendingStore) (numbers : ℕ → ℕ → ℕ) → newest g i stores (numbers g i) ≡ written_out stores numbers g i

-- the processor that an event names
abbrev pub processor_of : SourceEvent → ℕ
processor_of (Act p) = p
processor_of (Look p) = p
processor_of (Miss p) = p
processor_of (Drain p) = p

abbrev pub LeaveOthers : Type 0
LeaveOthers =
    (program : SourceProgram) (e : SourceEvent) (s : SourceState) (q : ℕ) → q ≢ processor_of e →
    (source_event program e s).processors q ≡ s.processors q

-- an Act, a Look or a Miss of a processor that isn't running changes nothing
abbrev pub StayStopped : Type 0
StayStopped =
    (program : SourceProgram) (p : ℕ) (s : SourceState) → (s.processors p).status ≢ Running →
    (source_event program (Act p) s ≡ s) × (source_event program (Look p) s ≡ s) × (source_event program (Miss p) s ≡ s)

abbrev pub NothingWaits : Type 0
NothingWaits =
    (program : SourceProgram) (entries : List ℕ) (events : List SourceEvent) (p : ℕ) → is_buffered program.target ≡ false →
    ((source_run program events (source_start program.source entries)).processors p).pending ≡ []
