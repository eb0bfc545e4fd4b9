-- The symbol that a token is.
use Rattle.std.specs.Prelude.{ℕ, ◌+◌, ◌-◌, ◌^◌, Bool, true, false, ◌&&◌, ◌==◌, nat_eq, nat_le, if◌then◌else◌, List, [], ◌∷◌, map, take, drop, length, Option, Some, None, codes}
use Rattle.std.specs.List.{starts_with}
use Rattle.std.specs.Str.{bytes_eq}
use Rattle.ax_lex.specs.declared.token.Token.{Token}
use Rattle.ax_lex.specs.declared.token.TokenKind.{TokenKind}
use Rattle.ax_lex.specs.declared.token.TokenKind.TheVariants as kind
use Rattle.ax_lex.specs.Numbers.{number_of}
use Rattle.ax_lex.specs.Tokens.{text_at}
use Rattle.ax_symbols.specs.declared.vocabulary.TheConstants.{WORDS}
use Rattle.ax_symbols.specs.declared.vocabulary.Word.{Word}
use Rattle.ax_symbols.specs.declared.vocabulary.Word.TheVariants as word
use Rattle.ax_symbols.specs.declared.symbol.Punctuation.TheVariants as mark
use Rattle.ax_symbols.specs.declared.symbol.Sign.{Sign}
use Rattle.ax_symbols.specs.declared.symbol.Sign.TheVariants as sign
use Rattle.ax_symbols.specs.declared.symbol.NameSpan.{NameSpan}
use Rattle.ax_symbols.specs.declared.symbol.Symbol.{Symbol}

-- ---- numbers

abbrev pub number_or_odd : Bool → Option ℕ → Sign
number_or_odd negative None = sign.Odd
number_or_odd negative (Some n) = sign.Number negative n

-- a decimal whole number from -2 ^ 127 to 2 ^ 128 - 1
abbrev pub literal_sign : List ℕ → Sign
literal_sign [] = sign.Odd
literal_sign (b ∷ bs) = if b == 45 then number_or_odd true (number_of (2 ^ 127) bs) else number_or_odd false (number_of (2 ^ 128 - 1) (b ∷ bs))

-- ---- words

abbrev pub find_word : List (List ℕ × Word) → List ℕ → Word
find_word [] bytes = word.Other
find_word (k ∷ ks) bytes = if bytes_eq k.0 bytes then k.1 else find_word ks bytes

-- the word of the table that is written so
unfoldable pub word_of : List ℕ → Word
word_of = find_word (map (λ k. (k.0.now, k.1)) WORDS)

-- `i` and one to eight digits
abbrev pub width_of : List ℕ → Option ℕ
width_of [] = None
width_of (b ∷ bs) = if b == 105 && nat_le (length bs) 8 then number_of (10 ^ 8 - 1) bs else None

abbrev pub int_or_word : Option ℕ → List ℕ → Sign
int_or_word None bytes = sign.Word (word_of bytes)
int_or_word (Some n) bytes = sign.Int n

-- ---- names

abbrev pub begins_quote : List ℕ → Bool
begins_quote [] = false
begins_quote (b ∷ bs) = b == 34

-- How many bytes of a token stand before its name, and how many behind: `%` or `@`, and quotes.
abbrev pub sides : TokenKind → Bool → ℕ × ℕ
sides kind.Local quoted = if quoted then (2, 1) else (1, 0)
sides kind.Global quoted = if quoted then (2, 1) else (1, 0)
sides kind.Text quoted = (1, 1)
sides _ quoted = (0, 0)

abbrev pub sides_of : TokenKind → List ℕ → ℕ × ℕ
sides_of kind [] = (0, 0)
sides_of kind (b ∷ bs) = sides kind (begins_quote bs)

abbrev pub within : ℕ × ℕ → List ℕ → List ℕ
within s bytes = take (length (drop s.0 bytes) - s.1) (drop s.0 bytes)

-- the name in the bytes of a token
abbrev pub name_of : TokenKind → List ℕ → List ℕ
name_of kind bytes = within (sides_of kind bytes) bytes

abbrev pub span_of : Token → ℕ × ℕ → NameSpan
span_of t s = record { start = t.start + s.0; end = t.end - s.1 }

abbrev pub global_sign : List ℕ → Sign
global_sign name =
    if starts_with nat_eq name (codes "llvm.lifetime.") then sign.Lifetime else
    if starts_with nat_eq name (codes "llvm.") then sign.Intrinsic else sign.Global

abbrev pub text_sign : List ℕ → Sign
text_sign bytes = if bytes_eq bytes (codes "\"singlethread\"") then sign.SingleThread else sign.Text

-- ---- marks

abbrev pub mark_of : ℕ → Sign
mark_of b =
    if b == 61 then sign.Mark mark.Equals else
    if b == 44 then sign.Mark mark.Comma else
    if b == 40 then sign.Mark mark.Open else
    if b == 41 then sign.Mark mark.Close else
    if b == 123 then sign.Mark mark.OpenBrace else
    if b == 125 then sign.Mark mark.CloseBrace else
    if b == 91 then sign.Mark mark.OpenBracket else
    if b == 93 then sign.Mark mark.CloseBracket else
    if b == 60 then sign.Mark mark.Less else
    if b == 62 then sign.Mark mark.Greater else
    if b == 58 then sign.Mark mark.Colon else
    if b == 33 then sign.Mark mark.Bang else
    if b == 42 then sign.Mark mark.Star else
    if b == 124 then sign.Mark mark.Bar else sign.Odd

abbrev pub mark_sign : List ℕ → Sign
mark_sign [] = sign.Odd
mark_sign (b ∷ bs) = mark_of b

-- ---- symbols

abbrev pub sign_of : TokenKind → List ℕ → Sign
sign_of kind.Word bytes = int_or_word (width_of bytes) bytes
sign_of kind.Local bytes = sign.Local
sign_of kind.Global bytes = global_sign (name_of kind.Global bytes)
sign_of kind.Meta bytes = sign.Meta
sign_of kind.Group bytes = sign.Group
sign_of kind.Literal bytes = literal_sign bytes
sign_of kind.Text bytes = text_sign bytes
sign_of kind.Mark bytes = mark_sign bytes
sign_of kind.Newline bytes = sign.Feed

abbrev pub symbol_in : Token → List ℕ → Symbol
symbol_in t bytes = record { sign = sign_of t.kind bytes; name = span_of t (sides_of t.kind bytes) }

-- the symbol that a token of a text is
abbrev pub symbol_of : List ℕ → Token → Symbol
symbol_of text t = symbol_in t (text_at text t)

abbrev pub feed_sign : Sign → Bool
feed_sign sign.Feed = true
feed_sign _ = false

unfoldable pub is_feed : Symbol → Bool
is_feed s = feed_sign s.sign
