-- The symbols of the canonical text, line by line, at their places in it.
use Rattle.std.specs.Prelude.{ℕ, ◌+◌, Bool, false, not, List, [], ◌∷◌, ◌++◌, length}
use Rattle.ax_ir.specs.Spacing.{is_opening}
use Rattle.ax_ir.specs.Canonical.{Line, line_text}
use Rattle.ax_symbols.specs.declared.symbol.Symbol.{Symbol}
use Rattle.ax_symbols.specs.Symbols.{symbol_in}
use Rattle.ax_again.specs.Pieces.{kind_of, blank_before, indent}

-- the symbol of a token that begins at a place
abbrev pub token_symbol : ℕ → List ℕ → Symbol
token_symbol at token = symbol_in (record { kind = kind_of token; start = at; end = at + length token }) token

-- the symbols of a line's tokens, from a place on, with blanks in front
abbrev pub token_symbols : ℕ → List ℕ → Bool → List (List ℕ) → List Symbol
token_symbols at blanks parted [] = []
token_symbols at blanks parted (token ∷ tokens) =
    token_symbol (at + length (blanks ++ blank_before parted token)) token
    ∷ token_symbols ((at + length (blanks ++ blank_before parted token)) + length token) [] (not (is_opening token)) tokens

-- the symbols of each line, the first of which begins at a place, and behind the last line feed none
abbrev pub lines_at : ℕ → List Line → List (List Symbol)
lines_at at [] = [] ∷ []
lines_at at (line ∷ lines) = token_symbols at (indent line) false line.tokens ∷ lines_at (at + length (line_text line)) lines
