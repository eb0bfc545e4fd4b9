-- *Report*: what a run has put out, the objects, the processors, the locks and the events, a line each.
use Rattle.std.specs.Prelude.{ℕ, if◌then◌else◌, nat_eq, List, [], ◌∷◌, ◌++◌, map, codes, decimal}
use Rattle.ax_words.specs.declared.source.SourceEvent.{SourceEvent}
use Rattle.ax_module.specs.Names.{global_token}
use Rattle.ax_target.specs.declared.target.Target.{Target}
use Rattle.ax_target.specs.Targets.{name_of as target_name}
use Rattle.ax_isa.specs.declared.cpu.Status.{Status}
use Rattle.ax_isa.specs.declared.cpu.Status.TheVariants.{Running, Ended, Trapped, Stuck}
use Rattle.ax_words.specs.declared.event.Event.{Event}
use Rattle.ax_print.specs.Tokens.{source_token, machine_token}
use Rattle.ax_print.specs.Lines.{lines_of}

abbrev pub head_lines : Target → ℕ → ℕ → List ℕ
head_lines target processors events =
    codes "report" ++ 10 ∷ codes "target " ++ target_name target ++ 10 ∷ codes "processors " ++ decimal processors ++ 10 ∷ codes "events " ++ decimal events ++ 10 ∷ []

-- the processor, and the number
abbrev pub output_line : ℕ × ℕ → List ℕ
output_line o = codes "output " ++ decimal o.0 ++ 32 ∷ decimal o.1 ++ 10 ∷ []

-- an object whose number is 0 has no line
abbrev pub object_line : List ℕ → ℕ → ℕ → List ℕ
object_line name i v = if nat_eq v 0 then [] else codes "object " ++ global_token name ++ 32 ∷ decimal i ++ 32 ∷ decimal v ++ 10 ∷ []

-- the line of an object that a lock holds
abbrev pub held_line : List ℕ → ℕ → List ℕ
held_line name i = codes "object " ++ global_token name ++ 32 ∷ decimal i ++ codes " held" ++ 10 ∷ []

abbrev pub status_word : Status → List ℕ
status_word Running = codes "running"
status_word Ended = codes "ended"
status_word Trapped = codes "trapped"
status_word Stuck = codes "stuck"

abbrev pub processor_line : ℕ → Status → ℕ → ℕ → ℕ → List ℕ
processor_line p status place retired pending =
    codes "processor " ++ decimal p ++ 32 ∷ status_word status ++ 32 ∷ decimal place ++ codes " retired " ++ decimal retired ++ codes " pending " ++ decimal pending ++ 10 ∷ []

-- a lock word that is 0 has no line
abbrev pub lock_line : ℕ → ℕ → List ℕ
lock_line i w = if nat_eq w 0 then [] else codes "lock " ++ decimal i ++ 32 ∷ decimal w ++ 10 ∷ []

abbrev pub source_lines : List SourceEvent → List ℕ
source_lines events = lines_of (codes "source") (map source_token events)

abbrev pub machine_lines : List Event → List ℕ
machine_lines events = lines_of (codes "machine") (map machine_token events)

abbrev pub end_line : List ℕ
end_line = codes "end" ++ 10 ∷ []
