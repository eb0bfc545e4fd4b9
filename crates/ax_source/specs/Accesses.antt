-- Operations on objects, as the machine keeps them.
use Rattle.std.specs.Prelude.{◌≡◌, ◌≤◌, ◌<◌, ◌+◌, ℕ, Bool, true, IsTrue, List, Option, Some, None}
use Rattle.ax_target.specs.Targets.{is_buffered}
use Rattle.ax_source_run.specs.SourceAccess.{Access as SourceAccess, Deed, Done, ObjectOperation, Reads, Writes, Updates, Compares, Reply as SourceReply, Silent, Found, FoundEqual, Into, EqualOrInto}
use Rattle.ax_source_run.specs.SourcePointers.{is_element}
use Rattle.ax_module.specs.declared.inst.Inst.{Inst}
use Rattle.ax_source_run.specs.SourceEvent.{number_of_next}
use Rattle.ax_source_run.specs.SourceInstructions.{deed}
use Rattle.ax_source_run.specs.SourceState.{Pointer, SourceProcessor, SourceProgram}
use Rattle.ax_source.specs.declared.access.Access.{Access}
use Rattle.ax_source.specs.declared.access.Operation.{Operation}
use Rattle.ax_source.specs.declared.access.Operation.TheVariants as operation
use Rattle.ax_source.specs.declared.access.Reply.{Reply}
use Rattle.ax_source.specs.declared.access.Reply.TheVariants as reply
use Rattle.ax_source.specs.ProcessorState.{ProcessorState, state_of}
use Rattle.ax_cells.specs.Shapes.{ArrayState, cells_of}
use Rattle.ax_cells.specs.Values.{pointer_of}

abbrev pub operation_of : Operation → ObjectOperation
operation_of operation.Reads = Reads
operation_of (operation.Writes n) = Writes n
operation_of (operation.Updates op v) = Updates op v
operation_of (operation.Compares expected desired) = Compares expected desired

abbrev pub reply_of : Reply → SourceReply
reply_of reply.Silent = Silent
reply_of reply.Found = Found
reply_of reply.FoundEqual = FoundEqual
reply_of (reply.Into p) = Into (pointer_of p)
reply_of (reply.EqualOrInto p) = EqualOrInto (pointer_of p)

abbrev pub access_in : Access → SourceAccess
access_in a = record { pointer = pointer_of a.pointer; operation = operation_of a.operation; may_wait = a.may_wait; reply = reply_of a.reply }

-- where stores wait, there is memory for one more
pub record HasRoom (c : ProcessorState) : Type 0 where
  pub enough : is_buffered c.program.target ≡ true → 0 < c.waiting.room

-- the program stays, and at most one more store waits
pub record Went (old new : ProcessorState) : Type 0 where
  pub program : new.program ≡ old.program
  pub room : old.waiting.room ≤ new.waiting.room + 1

-- an operation found this number, and did this
pub record Did (done : Done) (found : ℕ) (c : ProcessorState) (globals : List ArrayState) : Type 0 where
  pub answer : found ≡ done.found
  pub processor : state_of c ≡ done.processor
  pub numbers : cells_of globals ≡ done.numbers

-- an event did this
pub record Does (deed : Deed) (c : ProcessorState) (globals : List ArrayState) (output : Option ℕ) : Type 0 where
  pub processor : state_of c ≡ deed.processor
  pub numbers : cells_of globals ≡ deed.numbers
  pub written : output ≡ deed.output

abbrev pub is_element_of : ProcessorState → Pointer → Bool
is_element_of c p = is_element c.program.source c.function p

-- an argument that is written is an element
abbrev pub is_answerable : ProcessorState → SourceReply → Bool
is_answerable c Silent = true
is_answerable c Found = true
is_answerable c FoundEqual = true
is_answerable c (Into p) = is_element_of c p
is_answerable c (EqualOrInto p) = is_element_of c p

pub record IsAnswerable (c : ProcessorState) (reply : SourceReply) : Type 0 where
  pub arguments : IsTrue (is_answerable c reply)

pub record IsPerformable (c : ProcessorState) (access : SourceAccess) : Type 0 where
  pub object : IsTrue (is_element_of c access.pointer)
  pub reply : IsAnswerable c access.reply

-- what an Act does, to a processor that stands at this instruction
abbrev pub act_deed : SourceProgram → SourceProcessor → Option Inst → (ℕ → ℕ → ℕ) → Deed
act_deed program s None numbers = record { processor = s; numbers = numbers; output = None }
act_deed program s (Some inst) numbers = deed program s (number_of_next program s) numbers inst
