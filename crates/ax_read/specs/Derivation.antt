-- The module that a text derives, and the fault of a text that derives none.
use Rattle.std.specs.Prelude.{◌≡◌, ℕ, ◌+◌, List, take, ◌⊎◌, ◌==◌, count_by, IsTrue}
use Rattle.ax_module.specs.declared.module.Module.{Module}
use Rattle.ax_module.specs.WellFormed.{is_counted}
use Rattle.ax_lex.specs.declared.token.Token.{Token}
use Rattle.ax_lex.specs.Tokens.{AreTokens, IsFirstBad}
use Rattle.ax_lines.specs.declared.statement.Line.{Line}
use Rattle.ax_lines.specs.Lines.{AreLines, IsSyntax, IsOpcode, lines_of}
use Rattle.ax_scope.specs.Faults.{NamesFit, IsNameFault}
use Rattle.ax_scope.specs.Module.{module_of}
use Rattle.ax_read.specs.declared.fault.ReadFault.{ReadFault}
use Rattle.ax_read.specs.declared.fault.ReadFault.TheVariants.{Syntax, Opcode, Name, Memory}

-- The text is its tokens, and each of its lines is a production in its place and states this.
pub record Says (text : List ℕ) (stated : List Line) : Type 0 where
  pub tokens : List Token
  pub are_tokens : AreTokens text tokens
  pub are_lines : AreLines (lines_of text tokens) stated

-- The text derives the module, whose counts have 32 bits as all numbers that name something.
pub record Derives (text : List ℕ) (m : Module) : Type 0 where
  pub stated : List Line
  pub says : Says text stated
  pub names : NamesFit text stated
  pub is : m ≡ module_of text stated
  pub counts : IsTrue (is_counted m)

-- the line of a place of the text, counted from 1
abbrev pub line_at : List ℕ → ℕ → ℕ
line_at text at = count_by (λ b. b == 10) (take at text) + 1

-- the line of the first byte that starts no token
pub record IsByteFault (text : List ℕ) (line : ℕ) : Type 0 where
  pub at : ℕ
  pub first : IsFirstBad text at
  pub is : line ≡ line_at text at

-- the first line that is no production in its place, or the last of a text that ends in a function
pub record IsSyntaxFault (text : List ℕ) (line : ℕ) : Type 0 where
  pub tokens : List Token
  pub are_tokens : AreTokens text tokens
  pub is : IsSyntax (lines_of text tokens) line

pub record IsOpcodeFault (text : List ℕ) (line : ℕ) : Type 0 where
  pub tokens : List Token
  pub are_tokens : AreTokens text tokens
  pub is : IsOpcode (lines_of text tokens) line

-- the first line whose names don't fit
pub record IsNamesFault (text : List ℕ) (line : ℕ) : Type 0 where
  pub stated : List Line
  pub says : Says text stated
  pub is : IsNameFault text stated line

-- The text has this fault: bytes come first, then lines, then names.
abbrev pub HasFault : List ℕ → ReadFault → Type 0
HasFault text (Syntax line) = IsByteFault text line ⊎ IsSyntaxFault text line
HasFault text (Opcode line) = IsOpcodeFault text line
HasFault text (Name line) = IsNamesFault text line
HasFault text Memory = ⊥

-- No fault but this one, or want of memory.
abbrev pub IsOrMemory : ReadFault → ReadFault → Type 0
IsOrMemory fault (Syntax line) = Syntax line ≡ fault
IsOrMemory fault (Opcode line) = Opcode line ≡ fault
IsOrMemory fault (Name line) = Name line ≡ fault
IsOrMemory fault Memory = Unit {0}

-- What a fault that is answered says of the text.
abbrev pub IsReadFault : List ℕ → ReadFault → Type 0
IsReadFault text (Syntax line) = IsByteFault text line ⊎ IsSyntaxFault text line
IsReadFault text (Opcode line) = IsOpcodeFault text line
IsReadFault text (Name line) = IsNamesFault text line
IsReadFault text Memory = Unit {0}
