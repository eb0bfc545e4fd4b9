-- Where the allocas of instructions lie in the frame, by what the instructions' results are.
use Rattle.std.specs.Prelude.{ℕ, ◌+◌, List, [], ◌∷◌}
use Rattle.ax_rules.specs.declared.facts.Outcome.{Outcome}
use Rattle.ax_rules.specs.declared.facts.Outcome.TheVariants as outcome
use Rattle.ax_source_run.specs.SourcePointers.{Elements, no_elements}
use Rattle.ax_selected.specs.Addresses.{rounded_bytes}
use Rattle.ax_reach.specs.declared.frame.Frame.{Frame}

-- an alloca's elements; any other result has none
abbrev pub elements_in : Outcome → Elements
elements_in (outcome.Alloca e) = record { elem = e.elem; count = e.count }
elements_in _ = no_elements

abbrev pub bytes_in : Outcome → ℕ
bytes_in o = rounded_bytes (elements_in o)

-- one after the other
abbrev pub frame_bytes : List Outcome → ℕ
frame_bytes [] = 0
frame_bytes (o ∷ outcomes) = bytes_in o + frame_bytes outcomes

abbrev pub offsets_from : ℕ → List Outcome → List ℕ
offsets_from n [] = []
offsets_from n (o ∷ outcomes) = n ∷ offsets_from (n + bytes_in o) outcomes

abbrev pub frame_of : List Outcome → Frame
frame_of outcomes = record { offsets = offsets_from 0 outcomes; bytes = frame_bytes outcomes }
