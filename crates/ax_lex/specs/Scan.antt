-- The token at the front, by its first byte.
use Rattle.std.specs.Prelude.{ℕ, ◌+◌, ◌==◌, if◌then◌else◌, Bool, false, List, [], ◌∷◌, drop, Option, Some, None, MatchOption}
use Rattle.std.specs.List.{prefix_len}
use Rattle.ax_lex.specs.declared.token.TokenKind.{TokenKind}
use Rattle.ax_lex.specs.declared.token.TokenKind.TheVariants.{Word, Local, Global, Meta, Group, Literal, Text, Mark, Newline}
use Rattle.ax_lex.specs.declared.bytes.Start.{Start}
use Rattle.ax_lex.specs.declared.bytes.Start.TheVariants as start
use Rattle.ax_lex.specs.Bytes.{is_name_byte, is_meta_byte, is_literal_byte, is_text_byte, is_digit, start_of}
use Rattle.ax_lex.specs.Tokens.{IsLongest, StartsNone}

-- one byte, and a run that isn't empty
abbrev pub behind_one : (ℕ → Bool) → TokenKind → List ℕ → Option (TokenKind × ℕ)
behind_one p kind bs = if prefix_len p bs == 0 then None else Some (kind, 1 + prefix_len p bs)

abbrev pub starts_quote : List ℕ → Bool
starts_quote [] = false
starts_quote (b ∷ bs) = b == 34

abbrev pub text_run : List ℕ → ℕ
text_run bs = prefix_len is_text_byte bs

-- so many bytes and the quote, then a text's inside and its end
abbrev pub quoted : TokenKind → ℕ → List ℕ → Option (TokenKind × ℕ)
quoted kind before bs = if starts_quote (drop (text_run bs) bs) then Some (kind, before + (1 + text_run bs)) else None

abbrev pub named : TokenKind → List ℕ → Option (TokenKind × ℕ)
named kind [] = None
named kind (b ∷ bs) = if b == 34 then quoted kind 2 bs else behind_one is_name_byte kind (b ∷ bs)

abbrev pub banged : List ℕ → Option (TokenKind × ℕ)
banged bs = if prefix_len is_meta_byte bs == 0 then Some (Mark, 1) else Some (Meta, 1 + prefix_len is_meta_byte bs)

abbrev pub negative : List ℕ → Option (TokenKind × ℕ)
negative [] = None
negative (b ∷ bs) = if is_digit b then Some (Literal, 2 + prefix_len is_literal_byte bs) else None

abbrev pub token_from : Start → List ℕ → Option (TokenKind × ℕ)
token_from start.Letter bs = Some (Word, 1 + prefix_len is_name_byte bs)
token_from start.Percent bs = named Local bs
token_from start.At bs = named Global bs
token_from start.Bang bs = banged bs
token_from start.Hash bs = behind_one is_digit Group bs
token_from start.Digit bs = Some (Literal, 1 + prefix_len is_literal_byte bs)
token_from start.Minus bs = negative bs
token_from start.Quote bs = quoted Text 1 bs
token_from start.Mark bs = Some (Mark, 1)
token_from start.Feed bs = Some (Newline, 1)
token_from start.Nothing bs = None

abbrev pub token_of : List ℕ → Option (TokenKind × ℕ)
token_of [] = None
token_of (b ∷ bs) = token_from (start_of b) bs

-- What the scanner gives is right: the longest token at the front, or there is none.
abbrev pub IsScan : List ℕ → Option (TokenKind × ℕ) → Type 0
IsScan bytes o = MatchOption o (StartsNone bytes) (λ x. IsLongest bytes x.0 x.1)
