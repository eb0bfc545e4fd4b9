-- The faults of lines.
use Rattle.std.specs.Prelude.{◌≡◌, ◌≤◌, ℕ, true, false, cond, List, Some, None, Result, Ok, Err}
use Rattle.ax_symbols.specs.declared.symbol.Symbol.{Symbol}
use Rattle.ax_lines.specs.declared.statement.Section.{Section}
use Rattle.ax_lines.specs.declared.listing.Stop.{Stop}
use Rattle.ax_lines.specs.declared.listing.Stop.TheVariants as stop
use Rattle.ax_lines.specs.declared.fault.LineFault.{LineFault}
use Rattle.ax_lines.specs.declared.fault.LineFault.TheVariants.{Syntax, Opcode, Memory}
use Rattle.ax_lines.specs.declared.statement.Line.{Line}
use Rattle.ax_symbols.specs.Grammar.{reads, all_of}
use Rattle.ax_lines.specs.Productions.{line_at}
use Rattle.ax_lines.specs.Lines.{IsSyntax, IsOpcode, is_opcode_fault}

-- what a fault of the lines says
abbrev pub IsLineFault : List (List Symbol) → LineFault → Type 0
IsLineFault ls (Syntax line) = IsSyntax ls line
IsLineFault ls (Opcode line) = IsOpcode ls line
IsLineFault ls Memory = Unit {0}

-- The lines have this fault.
abbrev pub HaveFault : List (List Symbol) → LineFault → Type 0
HaveFault ls (Syntax line) = IsSyntax ls line
HaveFault ls (Opcode line) = IsOpcode ls line
HaveFault ls Memory = ⊥

-- No fault but this one, or want of memory.
abbrev pub IsOrMemory : LineFault → LineFault → Type 0
IsOrMemory fault (Syntax line) = Syntax line ≡ fault
IsOrMemory fault (Opcode line) = Opcode line ≡ fault
IsOrMemory fault Memory = Unit {0}

-- the fault of a line that is no production at its place
abbrev pub fault_of : Stop → Section → List Symbol → ℕ → LineFault
fault_of stop.Memory p l number = Memory
fault_of stop.Bad p l number = cond (is_opcode_fault p l) (Opcode number) (Syntax number)

-- The line of this number is no production at its place, and has this fault.
abbrev pub NoLine : Section → List Symbol → ℕ → LineFault → Type 0
NoLine p l number (Syntax n) = (n ≡ number) × (all_of (reads (line_at p) l) ≡ None) × (is_opcode_fault p l ≡ false)
NoLine p l number (Opcode n) = (n ≡ number) × (all_of (reads (line_at p) l) ≡ None) × (is_opcode_fault p l ≡ true)
NoLine p l number Memory = Unit {0}

-- what reading the line of this number gives
abbrev pub LineRead : Section → List Symbol → ℕ → Result Line LineFault → Type 0
LineRead p l number (Ok x) = all_of (reads (line_at p) l) ≡ Some x
LineRead p l number (Err fault) = NoLine p l number fault

-- The fault names no line behind this one.
abbrev pub FaultWithin : ℕ → LineFault → Type 0
FaultWithin most (Syntax n) = n ≤ most
FaultWithin most (Opcode n) = n ≤ most
FaultWithin most Memory = Unit {0}
