-- *Report* of a machine run of a module: every word is that of the machine's state, of its events and of their explanation.
use Rattle.std.specs.Prelude.{ℕ, zero, suc, ◌+◌, ◌||◌, nat_eq, if◌then◌else◌, List, [], ◌∷◌, ◌++◌, length, flat_map}
use Rattle.ax_words.specs.declared.source.SourceEvent.{SourceEvent}
use Rattle.ax_store.specs.Bytes.{number_at}
use Rattle.ax_words.specs.declared.event.Event.{Event}
use Rattle.ax_isa.specs.Run.{Machine}
use Rattle.ax_map.specs.Map.{lock_word}
use Rattle.ax_layout.specs.Layout.{count_in}
use Rattle.ax_source_run.specs.SourceAccess.{is_native_element}
use Rattle.ax_source_run.specs.SourceState.{SourceProgram}
use Rattle.ax_agree.specs.Agree.{lock_of, native_entries, number_of}
use Rattle.ax_print.specs.Report.{head_lines, output_line, object_line, held_line, processor_line, lock_line, source_lines, machine_lines, end_line}

-- element i of global g: its number in memory, or that its lock is held
abbrev pub element_line : SourceProgram → (ℕ → ℕ) → ℕ → List ℕ → ℕ → List ℕ
element_line program mem g name i =
    if is_native_element program g i || nat_eq (lock_of program mem g i) 0 then object_line name i (number_of program mem g i) else held_line name i

-- n elements from element i on
unfoldable pub element_lines : SourceProgram → (ℕ → ℕ) → ℕ → List ℕ → ℕ → ℕ → List ℕ
element_lines program mem g name i zero = []
element_lines program mem g name i (suc n) = element_line program mem g name i ++ element_lines program mem g name (i + 1) n

-- the globals from number g on
abbrev pub object_part : SourceProgram → (ℕ → ℕ) → ℕ → List (List ℕ) → List ℕ
object_part program mem g [] = []
object_part program mem g (name ∷ names) = element_lines program mem g name 0 (count_in program.layout g) ++ object_part program mem (g + 1) names

-- n processors from number p on
unfoldable pub processor_part : SourceProgram → Machine → ℕ → ℕ → List ℕ
processor_part program m p zero = []
processor_part program m p (suc n) =
    processor_line p (m.processors p).status (m.processors p).place (m.retired p) (length (native_entries program (m.noted.storage.waiting p))) ++ processor_part program m (p + 1) n

-- lock word i
abbrev pub word_of_lock : Machine → ℕ → ℕ
word_of_lock m i = number_at m.noted.storage.mem (lock_word i) 4

-- n lock words from index i on
unfoldable pub lock_part : Machine → ℕ → ℕ → List ℕ
lock_part m i zero = []
lock_part m i (suc n) = lock_line i (word_of_lock m i) ++ lock_part m (i + 1) n

-- the report of a run of a module whose globals have these names, with so many processors; there are 256 lock words
abbrev pub run_report : SourceProgram → List (List ℕ) → ℕ → Machine → List SourceEvent → List Event → List ℕ
run_report program globals processors m source events =
    head_lines program.target processors (length events) ++ flat_map output_line m.outputs ++ object_part program m.noted.storage.mem 0 globals ++ processor_part program m 0 processors ++ lock_part m 0 256 ++ source_lines source ++ machine_lines events ++ end_line
