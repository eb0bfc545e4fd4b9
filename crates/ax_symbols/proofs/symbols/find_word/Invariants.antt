use Rattle.std.proofs.Common.{◌≡◌, length, map}
use Rattle.ax_symbols.specs.Symbols.{find_word}
use Rattle.ax_symbols.proofs.symbols.find_word.Given as goal

abbrev pub invariant-loop-table : goal.invariant-loop-table
invariant-loop-table l = find_word (map (λ k. (k.0.now, k.1)) l.table) l.bytes ≡ find_word (map (λ k. (k.0.now, k.1)) l.initial.table) l.bytes

abbrev pub decreases-loop-table : goal.decreases-loop-table
decreases-loop-table l = length l.table
