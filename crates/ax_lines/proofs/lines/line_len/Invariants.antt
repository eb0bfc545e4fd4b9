use Rattle.std.proofs.Common.{◌≡◌, ◌+◌, drop}
use Rattle.std.specs.List.{position_or_len}
use Rattle.ax_symbols.specs.Symbols.{is_feed}
use Rattle.ax_lines.proofs.lines.line_len.Given as goal

abbrev pub invariant-loop-symbol : goal.invariant-loop-symbol
invariant-loop-symbol l = record {
  place : l.len ≡ l.symbol-index;
  same : l.len + position_or_len is_feed (drop l.symbol-index l.symbols) ≡ position_or_len is_feed l.symbols;
}
