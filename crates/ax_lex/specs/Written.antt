-- Texts that are written token by token.
use Rattle.std.specs.Prelude.{◌≡◌, ℕ, ◌+◌, Bool, true, false, not, ◌||◌, ◌==◌, List, [], ◌∷◌, ◌++◌, length}
use Rattle.std.specs.List.{list_all}
use Rattle.ax_lex.specs.declared.token.TokenKind.{TokenKind}
use Rattle.ax_lex.specs.declared.token.TokenKind.TheVariants.{Word, Local, Global, Meta, Group, Literal, Text, Mark, Newline}
use Rattle.ax_lex.specs.declared.token.Token.{Token}
use Rattle.ax_lex.specs.Bytes.{is_name_byte, is_meta_byte, is_literal_byte, is_digit, is_blank}
use Rattle.ax_lex.specs.Tokens.{is_token}

-- the bytes do not begin with one that passes
abbrev pub stops : (ℕ → Bool) → List ℕ → Bool
stops p [] = true
stops p (b ∷ bs) = not (p b)

abbrev pub begins_bang : List ℕ → Bool
begins_bang [] = false
begins_bang (b ∷ bs) = b == 33

-- What stands behind a token of this kind and these bytes does not go on with it.
abbrev pub ends_at : TokenKind → List ℕ → List ℕ → Bool
ends_at Word word rest = stops is_name_byte rest
ends_at Local word rest = stops is_name_byte rest
ends_at Global word rest = stops is_name_byte rest
ends_at Meta word rest = stops is_meta_byte rest
ends_at Group word rest = stops is_digit rest
ends_at Literal word rest = stops is_literal_byte rest
ends_at Text word rest = true
ends_at Mark word rest = not (begins_bang word) || stops is_meta_byte rest
ends_at Newline word rest = true

-- blanks and a token
pub record Piece : Type 0 where
  pub blank : List ℕ
  pub kind : TokenKind
  pub word : List ℕ

-- the text of the pieces
abbrev pub render : List Piece → List ℕ
render [] = []
render (p ∷ ps) = p.blank ++ (p.word ++ render ps)

-- the tokens of the pieces, the first of which stands at a place
abbrev pub tokens_at : ℕ → List Piece → List Token
tokens_at at [] = []
tokens_at at (p ∷ ps) = record { kind = p.kind; start = at + length p.blank; end = (at + length p.blank) + length p.word } ∷ tokens_at ((at + length p.blank) + length p.word) ps

-- Each is a token behind blanks, and what follows does not go on with it.
abbrev pub FitsText : List Piece → Type 0
FitsText [] = Unit {0}
FitsText (p ∷ ps) = (list_all is_blank p.blank ≡ true) × (is_token p.kind p.word ≡ true) × (ends_at p.kind p.word (render ps) ≡ true) × FitsText ps
