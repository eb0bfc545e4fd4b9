-- The tokens of a text: one after the other, each the longest where it starts.
use Rattle.std.specs.Prelude.{◌≡◌, ℕ, ◌+◌, ◌-◌, ◌<◌, ◌≤◌, Bool, true, false, ◌&&◌, ◌||◌, ◌==◌, if◌then◌else◌, List, [], ◌∷◌, length, take, drop}
use Rattle.std.specs.List.{list_all}
use Rattle.ax_lex.specs.declared.token.TokenKind.{TokenKind}
use Rattle.ax_lex.specs.declared.token.TokenKind.TheVariants.{Word, Local, Global, Meta, Group, Literal, Text, Mark, Newline}
use Rattle.ax_lex.specs.declared.token.Token.{Token}
use Rattle.ax_lex.specs.declared.token.LexFault.{LexFault}
use Rattle.ax_lex.specs.declared.token.LexFault.TheVariants.{Byte, Memory}
use Rattle.ax_lex.specs.declared.bytes.Start.{Start}
use Rattle.ax_lex.specs.declared.bytes.Start.TheVariants as start
use Rattle.ax_lex.specs.Bytes.{is_name_byte, is_meta_byte, is_literal_byte, is_text_byte, is_digit, is_blank, start_of}

-- at least one byte, each of which passes
abbrev pub some_all : (ℕ → Bool) → List ℕ → Bool
some_all p [] = false
some_all p (b ∷ bs) = p b && list_all p bs

abbrev pub is_empty : List ℕ → Bool
is_empty [] = true
is_empty (b ∷ bs) = false

-- a digit, and then any bytes of a literal
abbrev pub is_number : List ℕ → Bool
is_number [] = false
is_number (b ∷ bs) = is_digit b && list_all is_literal_byte bs

-- what stands behind the first " of a text: any bytes of a text, and then " as the last byte
abbrev pub is_closed : List ℕ → Bool
is_closed [] = false
is_closed (b ∷ bs) = (b == 34 && is_empty bs) || (is_text_byte b && is_closed bs)

abbrev pub is_quoted : List ℕ → Bool
is_quoted [] = false
is_quoted (b ∷ bs) = b == 34 && is_closed bs

-- one or more bytes of a name, or a quoted text
abbrev pub is_name : List ℕ → Bool
is_name bs = some_all is_name_byte bs || is_quoted bs

-- what may stand behind the first byte of a token
abbrev pub goes_on : TokenKind → Start → List ℕ → Bool
goes_on Word start.Letter bs = list_all is_name_byte bs
goes_on Local start.Percent bs = is_name bs
goes_on Global start.At bs = is_name bs
goes_on Meta start.Bang bs = some_all is_meta_byte bs
goes_on Group start.Hash bs = some_all is_digit bs
goes_on Literal start.Digit bs = list_all is_literal_byte bs
goes_on Literal start.Minus bs = is_number bs
goes_on Text start.Quote bs = is_closed bs
goes_on Mark start.Mark bs = is_empty bs
goes_on Mark start.Bang bs = is_empty bs
goes_on Newline start.Feed bs = is_empty bs
goes_on _ _ bs = false

-- these bytes are a token of the kind
abbrev pub is_token : TokenKind → List ℕ → Bool
is_token kind [] = false
is_token kind (b ∷ bs) = goes_on kind (start_of b) bs

-- The first len bytes are a token of the kind, and no longer front is a token of any kind.
pub record IsLongest (bytes : List ℕ) (kind : TokenKind) (len : ℕ) : Type 0 where
  pub within : len ≤ length bytes
  pub token : is_token kind (take len bytes) ≡ true
  pub longest : (k : TokenKind) (n : ℕ) → n ≤ length bytes → is_token k (take n bytes) ≡ true → n ≤ len

-- no front is a token
abbrev pub StartsNone : List ℕ → Type 0
StartsNone bytes = (k : TokenKind) (n : ℕ) → is_token k (take n bytes) ≡ true → ⊥

-- how many bytes are blanks and comments: a comment goes from ; to before the line feed
abbrev pub gap : Bool → List ℕ → ℕ
gap in_comment [] = 0
gap true (b ∷ bs) = if b == 10 then 0 else 1 + gap true bs
gap false (b ∷ bs) = if is_blank b then 1 + gap false bs else if b == 59 then 1 + gap true bs else 0

-- where reading goes on behind blanks and comments
abbrev pub behind_gap : List ℕ → ℕ → ℕ
behind_gap text at = at + gap false (drop at text)

-- the token that stands next
pub record IsNext (text : List ℕ) (at : ℕ) (t : Token) : Type 0 where
  pub starts : t.start ≡ behind_gap text at
  pub ordered : t.start ≤ t.end
  pub longest : IsLongest (drop t.start text) t.kind (t.end - t.start)

-- These tokens stand between the two places, and nothing else but blanks and comments.
abbrev pub TokensTo : List ℕ → ℕ → List Token → ℕ → Type 0
TokensTo text from [] to = from ≡ to
TokensTo text from (t ∷ ts) to = IsNext text from t × TokensTo text t.end ts to

-- all tokens of the text
abbrev pub AreTokens : List ℕ → List Token → Type 0
AreTokens text ts = (to : ℕ) × TokensTo text 0 ts to × (behind_gap text to ≡ length text)

-- the first place, behind tokens, at which none starts
abbrev pub IsFirstBad : List ℕ → ℕ → Type 0
IsFirstBad text at = (ts : List Token) × (to : ℕ) × TokensTo text 0 ts to × (at ≡ behind_gap text to) × (at < length text) × StartsNone (drop at text)

-- the fault that a text without tokens has
abbrev pub IsLexFault : List ℕ → LexFault → Type 0
IsLexFault text (Byte at) = IsFirstBad text at
IsLexFault text Memory = Unit {0}

-- No fault but this place, or want of memory.
abbrev pub IsByteAt : ℕ → LexFault → Type 0
IsByteAt at (Byte b) = b ≡ at
IsByteAt at Memory = Unit {0}

-- the bytes of a token
abbrev pub text_at : List ℕ → Token → List ℕ
text_at text t = take (t.end - t.start) (drop t.start text)
