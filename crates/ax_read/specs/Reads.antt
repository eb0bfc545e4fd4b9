-- What each step of reading a text answers.
use Rattle.std.specs.Prelude.{◌≡◌, ◌<◌, ◌≤◌, ◌+◌, ◌^◌, ℕ, List, length, All, Result, Ok, Err}
use Rattle.std.specs.Global.{Vec}
use Rattle.ax_module.specs.declared.module.Module.{Module}
use Rattle.ax_lex.specs.declared.token.Token.{Token}
use Rattle.ax_lex.specs.Tokens.{AreTokens}
use Rattle.ax_lines.specs.declared.statement.Line.{Line}
use Rattle.ax_lines.specs.Lines.{param_count}
use Rattle.ax_read.specs.declared.fault.ReadFault.{ReadFault}
use Rattle.ax_read.specs.Derivation.{Says, Derives, IsReadFault}

abbrev pub TokensRead : List ℕ → Result (Vec Token) ReadFault → Type 0
TokensRead text (Ok v) = AreTokens text v.items × (length v.items ≤ length text)
TokensRead text (Err e) = IsReadFault text e

abbrev pub LinesRead : List ℕ → Result (Vec Line) ReadFault → Type 0
LinesRead text (Ok v) = Says text v.items × (length v.items ≤ length text + 1) × All (λ l. param_count l < 2 ^ 32) v.items
LinesRead text (Err e) = IsReadFault text e

abbrev pub ModuleRead : List ℕ → Result Module ReadFault → Type 0
ModuleRead text (Ok m) = Derives text m
ModuleRead text (Err e) = IsReadFault text e
