-- The canonical text as pieces: each token with its kind and with the blanks that stand before it.
use Rattle.std.specs.Prelude.{ℕ, Bool, false, not, ◌&&◌, if◌then◌else◌, List, [], ◌∷◌, ◌++◌, flat_map}
use Rattle.ax_lex.specs.declared.bytes.Start.{Start}
use Rattle.ax_lex.specs.declared.bytes.Start.TheVariants as start
use Rattle.ax_lex.specs.declared.token.TokenKind.{TokenKind}
use Rattle.ax_lex.specs.declared.token.TokenKind.TheVariants.{Word, Local, Global, Group, Literal, Text, Mark, Newline}
use Rattle.ax_lex.specs.Bytes.{start_of}
use Rattle.ax_lex.specs.Written.{Piece}
use Rattle.ax_module.specs.declared.module.Module.{Module}
use Rattle.ax_ir.specs.Spacing.{is_closing, is_opening}
use Rattle.ax_ir.specs.Canonical.{Line, module_lines}

-- the kind of a canonical token that begins so
abbrev pub kind_from : Start → TokenKind
kind_from start.Letter = Word
kind_from start.Digit = Literal
kind_from start.Minus = Literal
kind_from start.Percent = Local
kind_from start.At = Global
kind_from start.Quote = Text
kind_from start.Hash = Group
kind_from _ = Mark

abbrev pub kind_of : List ℕ → TokenKind
kind_of [] = Mark
kind_of (b ∷ bs) = kind_from (start_of b)

-- where a blank may stand before the token, it does, but for `,` `(` `)` `:`
abbrev pub blank_before : Bool → List ℕ → List ℕ
blank_before parted token = if parted && not (is_closing token) then 32 ∷ [] else []

-- the pieces of a line and its line feed, with blanks in front
abbrev pub token_pieces : List ℕ → Bool → List (List ℕ) → List Piece
token_pieces blanks parted [] = record { blank = blanks; kind = Newline; word = 10 ∷ [] } ∷ []
token_pieces blanks parted (token ∷ tokens) =
    record { blank = blanks ++ blank_before parted token; kind = kind_of token; word = token } ∷ token_pieces [] (not (is_opening token)) tokens

abbrev pub indent : Line → List ℕ
indent line = if line.indented then 32 ∷ 32 ∷ [] else []

abbrev pub line_pieces : Line → List Piece
line_pieces line = token_pieces (indent line) false line.tokens

-- the pieces of a module's canonical text
abbrev pub pieces_of : Module → List Piece
pieces_of m = flat_map line_pieces (module_lines m)
