-- Source and middle code in step.
use Rattle.std.specs.Prelude.{◌≡◌, ℕ, ◌+◌, ◌<◌, ◌≤◌, ◌^◌, true, List, [], Some, option_map, slice_get}
use Rattle.ax_source_run.specs.SourceRun.{first_numbers, source_run, source_start}
use Rattle.ax_source_run.specs.SourceEvent.{number_of_next}
use Rattle.ax_source_run.specs.SourceState.{SourceProcessor, SourceProgram, SourceState}
use Rattle.ax_mid.specs.declared.code.Mid.{Mid}
use Rattle.ax_mid.specs.Processor.{MidDeed, MidProcessor}
use Rattle.ax_words.specs.declared.source.SourceStatus.TheVariants.{Running}
use Rattle.ax_mid.specs.declared.registers.Virtual.{Virtual}
use Rattle.ax_mid.specs.Machine.{MidState, act_step, advance, behind_label, first_processor, line_at, mid_run}
use Rattle.ax_words.specs.declared.source.SourceEvent.{SourceEvent}
use Rattle.ax_check.specs.Accepted.{IsAccepted}
use Rattle.ax_standing.specs.Standing.{AreEntries, AreOnWalks}
use Rattle.ax_selected.specs.Direct.{needs_no_routine}
use Rattle.ax_typed.specs.Typed.{IsTyped}
use Rattle.ax_selected.specs.Contract.{Alike, Keeps, site_in}
use Rattle.ax_selected.specs.Registers.{block_label, key}
use Rattle.ax_selected.specs.Selected.{begins, selected}

-- the numbers of objects, the outputs, and of each processor the status, the stores that wait and what a look saw are equal
pub record InStep (s : SourceState) (m : MidState) : Type 0 where
  pub numbers : m.numbers ≡ s.numbers
  pub outputs : m.outputs ≡ s.outputs
  pub alike : (p : ℕ) → Alike (s.processors p) (m.processors p)

-- what is known of all states of a program's runs from some entries
pub record Reaches (program : SourceProgram) (entries : List ℕ) : Type 0 where
  -- each number is one of its type
  pub typed : (events : List SourceEvent) → IsTyped program.source (source_run program events (source_start program.source entries))
  -- a running processor stands at an instruction that is no phi, with the pointers that it uses
  pub walks : (events : List SourceEvent) → AreOnWalks program (source_run program events (source_start program.source entries))

-- a processor of the middle machine begins where the code of its entry's first instruction begins
abbrev pub mid_start : SourceProgram → List ℕ → MidState
mid_start program entries = record {
  numbers = first_numbers program.source;
  outputs = [];
  processors = λ p. first_processor (option_map (λ f. begins program f 0 0) (slice_get entries p));
}

-- The theorem: where the code of each instruction keeps its contract, source and middle code are in step after every list of events
abbrev pub PiecesKeepRunsInStep : Type 0
PiecesKeepRunsInStep =
    (program : SourceProgram) (most : ℕ) (base : ℕ → ℕ) (entries : List ℕ) →
    ((p : ℕ) → Keeps key program (selected program) (begins program) most (base p)) → Reaches program entries →
    (events : List SourceEvent) → InStep (source_run program events (source_start program.source entries)) (mid_run key program.target (selected program) base most events (mid_start program entries))

-- the line that has the next event of a middle processor is at the site of the instruction at which the source processor stands
abbrev pub IsAtSite : {R : Type 0} → (R → ℕ) → SourceProgram → Mid R → ℕ → ℕ → SourceProcessor → MidProcessor → Type 0
IsAtSite key program code most base s c =
    site_in (line_at key program.target code base (advance key program.target code base most c)) ≡ Some (record { function = s.function; instruction = number_of_next program s })

-- the next event of a middle processor can be
abbrev pub CanAct : {R : Type 0} → (R → ℕ) → SourceProgram → Mid R → ℕ → ℕ → MidProcessor → (ℕ → ℕ → ℕ) → Type 0
CanAct key program code most base c numbers = (d : MidDeed) × (act_step key program.target code base (advance key program.target code base most c) numbers ≡ Some d)

-- a place for a frame: behind the globals, and below 2 ^ 64 with its 112 kilobytes
pub record IsFramePlace (base : ℕ) : Type 0 where
  pub above : 2 ^ 24 ≤ base
  pub high : base + 114688 < 2 ^ 64

-- a processor of middle code begins behind the label of its entry's first block
abbrev pub code_start : SourceProgram → Mid Virtual → List ℕ → MidState
code_start program m entries = record {
  numbers = first_numbers program.source;
  outputs = [];
  processors = λ p. first_processor (option_map (λ f. behind_label key m.lines (block_label f 0) 0) (slice_get entries p));
}

-- of middle code and a program that needs no routine: from all entries, and wherever the frames lie, the two are in step after every list of events
abbrev pub RunsInStep : SourceProgram → Mid Virtual → Type 0
RunsInStep program m =
    (most : ℕ) (base : ℕ → ℕ) (entries : List ℕ) →
    needs_no_routine program ≡ true → AreEntries program entries → 512 ≤ most → ((p : ℕ) → IsFramePlace (base p)) →
    (events : List SourceEvent) → InStep (source_run program events (source_start program.source entries)) (mid_run key program.target m base most events (code_start program m entries))

-- and the line that has a running processor's next event is at the site of the instruction at which it stands in the source
abbrev pub StandsAtSites : SourceProgram → Mid Virtual → Type 0
StandsAtSites program m =
    (most : ℕ) (base : ℕ → ℕ) (entries : List ℕ) →
    needs_no_routine program ≡ true → AreEntries program entries → 512 ≤ most → ((p : ℕ) → IsFramePlace (base p)) →
    (events : List SourceEvent) (p : ℕ) → ((source_run program events (source_start program.source entries)).processors p).status ≡ Running →
    IsAtSite key program m most (base p) ((source_run program events (source_start program.source entries)).processors p) ((mid_run key program.target m base most events (code_start program m entries)).processors p)

-- and each event of a running processor can be: it touches nothing but its frame and whole elements of native globals
abbrev pub GoesOn : SourceProgram → Mid Virtual → Type 0
GoesOn program m =
    (most : ℕ) (base : ℕ → ℕ) (entries : List ℕ) →
    needs_no_routine program ≡ true → AreEntries program entries → 512 ≤ most → ((p : ℕ) → IsFramePlace (base p)) →
    (events : List SourceEvent) (p : ℕ) → ((source_run program events (source_start program.source entries)).processors p).status ≡ Running →
    CanAct key program m most (base p) ((mid_run key program.target m base most events (code_start program m entries)).processors p) (mid_run key program.target m base most events (code_start program m entries)).numbers

-- so it is with the code that is selected for an accepted module
abbrev pub SelectedCodeRunsInStep : Type 0
SelectedCodeRunsInStep = (program : SourceProgram) → IsAccepted program → RunsInStep program (selected program)

abbrev pub SelectedCodeStandsAtSites : Type 0
SelectedCodeStandsAtSites = (program : SourceProgram) → IsAccepted program → StandsAtSites program (selected program)

abbrev pub SelectedCodeGoesOn : Type 0
SelectedCodeGoesOn = (program : SourceProgram) → IsAccepted program → GoesOn program (selected program)
