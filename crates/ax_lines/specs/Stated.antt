-- The line of an instruction that was read.
use Rattle.std.specs.Prelude.{◌≡◌, List, Option, Some, None, Result, Ok, Err}
use Rattle.std.specs.Borrow.{Bor}
use Rattle.ax_symbols.specs.declared.symbol.Symbol.{Symbol}
use Rattle.ax_symbols.specs.declared.symbol.NameSpan.{NameSpan}
use Rattle.ax_lines.specs.declared.listing.Stop.{Stop}
use Rattle.ax_lines.specs.declared.listing.Stop.TheVariants.{Bad}
use Rattle.ax_lines.specs.declared.statement.Statement.{Statement}
use Rattle.ax_lines.specs.declared.statement.Line.{Line}
use Rattle.ax_lines.specs.declared.statement.Line.TheVariants as line

abbrev pub Stated : Option NameSpan → Option (Statement × Bor (List Symbol)) → Result (Line × Bor (List Symbol)) Stop → Type 0
Stated r None result = result ≡ Err Bad
Stated r (Some x) result = result ≡ Ok (line.Inst r x.0, x.1)
