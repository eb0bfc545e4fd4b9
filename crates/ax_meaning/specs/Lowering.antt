-- MACHINE CODE THAT FOLLOWS THE FINE MIDDLE MACHINE OF A MODULE'S SELECTED CODE lowers the module.
use Rattle.std.specs.Prelude.{◌≡◌, ℕ, ◌≤◌, ◌<◌, Bool, true, List, [], ◌∷◌, option_map, slice_get}
use Rattle.ax_words.specs.declared.event.Event.{Event}
use Rattle.ax_store.specs.declared.entry.Entry.{Entry}
use Rattle.ax_source_run.specs.SourceRun.{first_numbers, source_run, source_start}
use Rattle.ax_source_run.specs.SourceState.{PendingStore, SourceProgram}
use Rattle.ax_map.specs.Map.{globals_start}
use Rattle.ax_check.specs.Accepted.{IsAccepted}
use Rattle.ax_standing.specs.Standing.{AreEntries}
use Rattle.ax_isa.specs.Run.{Machine, Setting, explain, run}
use Rattle.ax_isa.specs.Tells.{given_of}
use Rattle.ax_follow.specs.Contract.{Follows, Lawful, Meaning, Reading, Whole}
use Rattle.ax_follow.specs.RunTheorem.{Begins}
use Rattle.ax_agree.specs.Agree.{Agree, is_native_entry}
use Rattle.ax_mid.specs.declared.registers.Virtual.{Virtual}
use Rattle.ax_mid.specs.Machine.{behind_label, first_processor}
use Rattle.ax_mid.specs.Processor.{MidProcessor}
use Rattle.ax_expand.specs.Shared.{Shared}
use Rattle.ax_fine.specs.Fine.{fine, settle}
use Rattle.ax_fine.specs.OnBytes.{AreWords}
use Rattle.ax_fine.specs.Near.{Framed, HasRoom, Spells, bare, on_bytes}
use Rattle.ax_selected.specs.Direct.{needs_no_routine}
use Rattle.ax_selected.specs.InStep.{IsFramePlace, code_start}
use Rattle.ax_selected.specs.Registers.{block_label, key}
use Rattle.ax_selected.specs.Selected.{selected}

-- where the frames lie: those of `Framed`, whatever the code
pub record Frames : Type 0 where
  pub base : ℕ → ℕ
  pub lives : ℕ → Bool
  pub count : ℕ
  pub size : ℕ
  pub depth : ℕ
  pub top : ℕ → ℕ
  pub low : ℕ → ℕ
  pub fixed : ℕ → Bool
  pub home : ℕ → ℕ → ℕ

abbrev pub framed : SourceProgram → Frames → Framed Virtual
framed program frames = record {
  key = key;
  target = program.target;
  code = selected program;
  base = frames.base;
  lives = frames.lives;
  count = frames.count;
  size = frames.size;
  depth = frames.depth;
  top = frames.top;
  low = frames.low;
  fixed = frames.fixed;
  home = frames.home;
}

-- is the oldest of the stores that wait one of these
abbrev pub begins_with : (Entry → Bool) → List Entry → Bool
begins_with test [] = true
begins_with test (e ∷ es) = test e

-- what selected code means, where the code of each line begins at a place: a drain is a source event where its store is to a native object
abbrev pub meaning_of : SourceProgram → Frames → (ℕ → ℕ) → Meaning MidProcessor Shared
meaning_of program frames places = record (fine (on_bytes (framed program frames)) places) { drain_gives = λ p w. begins_with (is_native_entry program) (w.pending p) }

-- a fine processor begins behind the labels at the head of its entry
abbrev pub fine_first : SourceProgram → MidProcessor → MidProcessor
fine_first program m = record (bare m) { place = settle (selected program).lines m.place }

abbrev pub fine_start : SourceProgram → List ℕ → Shared → Whole MidProcessor Shared
fine_start program entries w = record {
  processors = λ p. fine_first program (first_processor (option_map (λ f. behind_label key (selected program).lines (block_label f 0) 0) (slice_get entries p)));
  world = w;
  outputs = [];
}

-- no store waits yet
abbrev pub none_waits : ℕ → List PendingStore
none_waits p = []

-- the regions hold the globals and the frames, and the globals their first numbers
pub record IsHoused (program : SourceProgram) (frames : Frames) (entries : List ℕ) (inside : ℕ → Bool) (w : Shared) : Type 0 where
  pub places : (p : ℕ) → IsFramePlace (frames.base p)
  pub globals : (a : ℕ) → globals_start ≤ a → a < program.layout.end → inside a ≡ true
  pub words : AreWords inside
  pub room : HasRoom (framed program frames) inside (code_start program (selected program) entries)
  pub spells : Spells (selected program).globals inside w (first_numbers program.source) none_waits

-- IT AGREES: after every list of events the machine and the source, under the explanation by the public tags
abbrev pub AgreesAlways : {I : Type 0} → Setting I → SourceProgram → List ℕ → Machine → Type 0
AgreesAlways z program entries m0 =
    (events : List Event) → Agree program (run z events m0) (source_run program (explain z given_of z.tags (is_native_entry program) events m0) (source_start program.source entries))

-- of an accepted module that needs no routine, from all its entries
abbrev pub FollowingCodeLowers : {I : Type 0} → Setting I → Reading → SourceProgram → Frames → (ℕ → ℕ) → Type 0
FollowingCodeLowers z v program frames places =
    Follows (meaning_of program frames places) v z → Lawful (meaning_of program frames places) v z → v.public ≡ is_native_entry program → IsAccepted program → needs_no_routine program ≡ true
    → (entries : List ℕ) (inside : ℕ → Bool) (w : Shared) (m0 : Machine) → AreEntries program entries → IsHoused program frames entries inside w → Begins z (meaning_of program frames places) v m0 (fine_start program entries w) → AgreesAlways z program entries m0
