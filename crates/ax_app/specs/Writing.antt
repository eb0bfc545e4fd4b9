-- What a verdict writes, and how the writing ends.
use Rattle.std.specs.Prelude.{◌≡◌, ℕ, ◌⊎◌, List, [], ◌∷◌, ◌++◌, codes, decimal, take, Option, Some, None}
use Rattle.std.specs.String.{string_bytes}
use Rattle.ax_io.specs.Count.{Rose}
use Rattle.ax_sched.specs.declared.fault.Cause.{Cause}
use Rattle.ax_sched.specs.declared.fault.Cause.TheVariants as cause
use Rattle.ax_app.specs.declared.done.Done.{Done}
use Rattle.ax_app.specs.declared.done.Done.TheVariants as done
use Rattle.ax_app.specs.declared.verdict.Part.{Part}
use Rattle.ax_app.specs.declared.verdict.Part.TheVariants.{Module, Schedule}
use Rattle.ax_app.specs.declared.verdict.Verdict.{Verdict}
use Rattle.ax_app.specs.declared.verdict.Verdict.TheVariants as verdict

abbrev pub part_word : Part → List ℕ
part_word Module = codes "module"
part_word Schedule = codes "schedule"

abbrev pub cause_word : Cause → List ℕ
cause_word cause.Syntax = codes "syntax"
cause_word cause.ProcessorRange = codes "range"
cause_word cause.UnknownEntry = codes "entry"
cause_word cause.UnknownObject = codes "object"
cause_word cause.TooMany = codes "many"

-- the line of a refusal, or the text
abbrev pub written_of : Verdict → List ℕ
written_of (verdict.Text text) = string_bytes text
written_of verdict.Usage = codes "usage" ++ 10 ∷ []
written_of (verdict.ReadFault part) = codes "read fault " ++ part_word part ++ 10 ∷ []
written_of (verdict.TooLong part) = codes "too long " ++ part_word part ++ 10 ∷ []
written_of (verdict.Syntax line) = codes "syntax " ++ decimal line ++ 10 ∷ []
written_of (verdict.Opcode line) = codes "opcode " ++ decimal line ++ 10 ∷ []
written_of (verdict.Name line) = codes "name " ++ decimal line ++ 10 ∷ []
written_of (verdict.Refused number place) = codes "refused N" ++ decimal number ++ 32 ∷ string_bytes place ++ 10 ∷ []
written_of verdict.Unbuilt = codes "unbuilt module" ++ 10 ∷ []
written_of (verdict.Schedule line why) = codes "schedule " ++ decimal line ++ 32 ∷ cause_word why ++ 10 ∷ []
written_of verdict.Memory = []

abbrev pub answer_of : Verdict → Done
answer_of (verdict.Text text) = done.Ok
answer_of verdict.Usage = done.Usage
answer_of (verdict.ReadFault part) = done.ReadFault
answer_of (verdict.TooLong part) = done.TooLong
answer_of (verdict.Syntax line) = done.Syntax
answer_of (verdict.Opcode line) = done.Syntax
answer_of (verdict.Name line) = done.Syntax
answer_of (verdict.Refused number place) = done.Refused
answer_of verdict.Unbuilt = done.Unbuilt
answer_of (verdict.Schedule line why) = done.Schedule
answer_of verdict.Memory = done.Memory

-- what was written, where it is told, grew by these bytes, or by the first of them
abbrev pub GrewBy : Option (List ℕ) → Option (List ℕ) → List ℕ → Type 0
GrewBy None now bytes = now ≡ None
GrewBy (Some before) now bytes = now ≡ Some (before ++ bytes)

abbrev pub GrewByFirst : Option (List ℕ) → Option (List ℕ) → List ℕ → Type 0
GrewByFirst None now bytes = now ≡ None
GrewByFirst (Some before) now bytes = (n : ℕ) × (now ≡ Some (before ++ take n bytes))

-- the sink that a command was given, before it and after
pub record Writing : Type 0 where
  pub written_before : Option (List ℕ)
  pub written : Option (List ℕ)
  pub faults_before : ℕ
  pub faults : ℕ

abbrev pub writing : Option (List ℕ) → Option (List ℕ) → ℕ → ℕ → Writing
writing written_before written faults_before faults = record { written_before = written_before; written = written; faults_before = faults_before; faults = faults }

-- the bytes were written whole, with the answer; or their writing failed, after the first of them
abbrev pub Writes : Writing → List ℕ → Done → Done → Type 0
Writes w bytes answer got =
    ((got ≡ answer) × GrewBy w.written_before w.written bytes)
    ⊎ (((got ≡ done.WriteFault) × Rose w.faults_before w.faults × GrewByFirst w.written_before w.written bytes) ⊎ ((got ≡ done.Memory) × GrewByFirst w.written_before w.written bytes))
