use Rattle.std.proofs.Common.{◌≡◌, map, take}
use Rattle.ax_symbols.specs.Symbols.{symbol_of}
use Rattle.ax_symbols.proofs.symbols.symbols_of.Given as goal

abbrev pub invariant-loop-token : goal.invariant-loop-token
invariant-loop-token l = l.symbols.items ≡ map (symbol_of l.text) (take l.token-index l.tokens)
