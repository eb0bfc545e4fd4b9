-- The lines of the canonical text, as symbols.
use Rattle.std.proofs.Common.{◌≡◌, ℕ, ◌+◌, ◌-◌, Bool, true, false, cond, Option, Some, None, List, [], ◌∷◌, ◌++◌, length, drop, map, flat_map, refl, sym, ap, ap₂, ◌∙◌, arith}
use Rattle.std.specs.Prelude.{not, ◌==◌, nat_eq, codes}
use Rattle.std.specs.List.{slice_split, starts_with}
use Rattle.std.proofs.lemmas.List.{drop_at, take_at, drop-drop, length-append}
use Rattle.ax_lex.specs.declared.bytes.Start.{Start}
use Rattle.ax_lex.specs.declared.bytes.Start.TheVariants as start
use Rattle.ax_lex.specs.declared.token.Token.{Token}
use Rattle.ax_lex.specs.declared.token.TokenKind.TheVariants as kind
use Rattle.ax_lex.specs.Bytes.{start_of}
use Rattle.ax_lex.specs.Tokens.{text_at}
use Rattle.ax_lex.specs.Written.{Piece, render, tokens_at}
use Rattle.ax_module.specs.declared.module.Module.{Module}
use Rattle.ax_ir.specs.Spacing.{is_opening}
use Rattle.ax_ir.specs.Canonical.{Line, line_text, module_lines, module_text}
use Rattle.ax_symbols.specs.declared.symbol.Punctuation.TheVariants as mark
use Rattle.ax_symbols.specs.declared.symbol.Sign.{Sign}
use Rattle.ax_symbols.specs.declared.symbol.Sign.TheVariants as sign
use Rattle.ax_symbols.specs.declared.symbol.Symbol.{Symbol}
use Rattle.ax_symbols.specs.Symbols.{number_or_odd, literal_sign, int_or_word, width_of, name_of, global_sign, text_sign, mark_sign, sign_of, symbol_in, symbol_of, feed_sign, is_feed}
use Rattle.ax_lines.specs.Lines.{lines_of}
use Rattle.std.specs.Str.{bytes_eq}
use Rattle.ax_again.specs.Pieces.{kind_from, kind_of, indent, blank_before, token_pieces, line_pieces, pieces_of}
use Rattle.ax_again.specs.Places.{token_symbols, lines_at}
use Rattle.ax_again.proofs.Pieces.{render_line, pieces_written}

-- ---- the symbols of pieces

abbrev piece_token : ℕ → Piece → Token
piece_token at p = record { kind = p.kind; start = at + length p.blank; end = (at + length p.blank) + length p.word }

abbrev symbols_at : ℕ → List Piece → List Symbol
symbols_at at [] = []
symbols_at at (p ∷ ps) = symbol_in (piece_token at p) p.word ∷ symbols_at ((at + length p.blank) + length p.word) ps

symbols_from : (text : List ℕ) (at : ℕ) (ps : List Piece) → drop at text ≡ render ps → map (symbol_of text) (tokens_at at ps) ≡ symbols_at at ps
symbols_from text at [] e = refl
symbols_from text at (p ∷ ps) e =
    let s = at + length p.blank in
    let d : drop s text ≡ p.word ++ render ps = sym (drop-drop (length p.blank) at text) ∙ ap (drop (length p.blank)) e ∙ drop_at p.blank (p.word ++ render ps) (length p.blank) refl in
    let n : drop (s + length p.word) text ≡ render ps = sym (drop-drop (length p.word) s text) ∙ ap (drop (length p.word)) d ∙ drop_at p.word (render ps) (length p.word) refl in
    let w : (s + length p.word) - s ≡ length p.word = omega arith in
    let here : text_at text (piece_token at p) ≡ p.word = rw (w, d) (take_at p.word (render ps) (length p.word) refl) in
    ap₂ (λ (x : Symbol) (xs : List Symbol). x ∷ xs) (ap (symbol_in (piece_token at p)) here) (symbols_from text (s + length p.word) ps n)

symbols_append : (at : ℕ) (ps qs : List Piece) → symbols_at at (ps ++ qs) ≡ symbols_at at ps ++ symbols_at (at + length (render ps)) qs
symbols_append at [] qs = let e : at ≡ at + 0 = omega arith in ap (λ n. symbols_at n qs) e
symbols_append at (p ∷ ps) qs =
    let s = (at + length p.blank) + length p.word in
    let e : s + length (render ps) ≡ at + length (render (p ∷ ps)) = omega (arith, length-append p.blank (p.word ++ render ps), length-append p.word (render ps)) in
    ap (λ (xs : List Symbol). symbol_in (piece_token at p) p.word ∷ xs) (symbols_append s ps qs ∙ ap (λ n. symbols_at s ps ++ symbols_at n qs) e)

-- ---- line feeds

record NoFeed (s : Sign) : Type 0 where
  no : feed_sign s ≡ false

made : (s : Sign) → feed_sign s ≡ false → NoFeed s
made s e = record { no = e }

choose : (b : Bool) {x y : Sign} → NoFeed x → NoFeed y → NoFeed (cond b x y)
choose true f g = f
choose false f g = g

number_no_feed : (negative : Bool) (o : Option ℕ) → NoFeed (number_or_odd negative o)
number_no_feed negative None = made sign.Odd refl
number_no_feed negative (Some n) = made (sign.Number negative n) refl

literal_no_feed : (t : List ℕ) → NoFeed (literal_sign t)
literal_no_feed [] = made sign.Odd refl
literal_no_feed (b ∷ bs) = choose (b == 45) (number_no_feed true _) (number_no_feed false _)

word_no_feed : (o : Option ℕ) (t : List ℕ) → NoFeed (int_or_word o t)
word_no_feed None t = record { no = refl }
word_no_feed (Some n) t = made (sign.Int n) refl

global_no_feed : (name : List ℕ) → NoFeed (global_sign name)
global_no_feed name =
    choose (starts_with nat_eq name (codes "llvm.lifetime.")) (made sign.Lifetime refl) (choose (starts_with nat_eq name (codes "llvm.")) (made sign.Intrinsic refl) (made sign.Global refl))

text_no_feed : (t : List ℕ) → NoFeed (text_sign t)
text_no_feed t = choose (bytes_eq t (codes "\"singlethread\"")) (made sign.SingleThread refl) (made sign.Text refl)

mark_no_feed : (t : List ℕ) → NoFeed (mark_sign t)
mark_no_feed [] = made sign.Odd refl
mark_no_feed (b ∷ bs) =
    choose (b == 61) (made (sign.Mark mark.Equals) refl) (
    choose (b == 44) (made (sign.Mark mark.Comma) refl) (
    choose (b == 40) (made (sign.Mark mark.Open) refl) (
    choose (b == 41) (made (sign.Mark mark.Close) refl) (
    choose (b == 123) (made (sign.Mark mark.OpenBrace) refl) (
    choose (b == 125) (made (sign.Mark mark.CloseBrace) refl) (
    choose (b == 91) (made (sign.Mark mark.OpenBracket) refl) (
    choose (b == 93) (made (sign.Mark mark.CloseBracket) refl) (
    choose (b == 60) (made (sign.Mark mark.Less) refl) (
    choose (b == 62) (made (sign.Mark mark.Greater) refl) (
    choose (b == 58) (made (sign.Mark mark.Colon) refl) (
    choose (b == 33) (made (sign.Mark mark.Bang) refl) (
    choose (b == 42) (made (sign.Mark mark.Star) refl) (
    choose (b == 124) (made (sign.Mark mark.Bar) refl) (made sign.Odd refl))))))))))))))

kind_no_feed : (s : Start) (t : List ℕ) → NoFeed (sign_of (kind_from s) t)
kind_no_feed start.Letter t = word_no_feed (width_of t) t
kind_no_feed start.Digit t = literal_no_feed t
kind_no_feed start.Minus t = literal_no_feed t
kind_no_feed start.Percent t = made sign.Local refl
kind_no_feed start.At t = global_no_feed (name_of kind.Global t)
kind_no_feed start.Quote t = text_no_feed t
kind_no_feed start.Hash t = made sign.Group refl
kind_no_feed _ t = mark_no_feed t

token_no_feed : (t : List ℕ) → NoFeed (sign_of (kind_of t) t)
token_no_feed [] = made sign.Odd refl
token_no_feed (b ∷ bs) = kind_no_feed (start_of b) (b ∷ bs)

-- ---- the split

split_line : (at : ℕ) (blanks : List ℕ) (parted : Bool) (ts : List (List ℕ)) (behind : List Symbol) → slice_split is_feed (symbols_at at (token_pieces blanks parted ts) ++ behind) ≡ token_symbols at blanks parted ts ∷ slice_split is_feed behind
unfolding is_feed
split_line at blanks parted [] behind = refl
split_line at blanks parted (t ∷ ts) behind =
    let s = at + length (blanks ++ blank_before parted t) in
    let more = split_line (s + length t) [] (not (is_opening t)) ts behind in
    rw ((token_no_feed t).no, more) refl

split_lines : (at : ℕ) (ls : List Line) → slice_split is_feed (symbols_at at (flat_map line_pieces ls)) ≡ lines_at at ls
split_lines at [] = refl
split_lines at (l ∷ ls) =
    let n : at + length (render (line_pieces l)) ≡ at + length (line_text l) = ap (λ (x : List ℕ). at + length x) (render_line l) in
    ap (slice_split is_feed) (symbols_append at (line_pieces l) (flat_map line_pieces ls))
    ∙ split_line at (indent l) false l.tokens (symbols_at (at + length (render (line_pieces l))) (flat_map line_pieces ls))
    ∙ ap (λ (k : ℕ). token_symbols at (indent l) false l.tokens ∷ slice_split is_feed (symbols_at k (flat_map line_pieces ls))) n
    ∙ ap (λ (xs : List (List Symbol)). token_symbols at (indent l) false l.tokens ∷ xs) (split_lines (at + length (line_text l)) ls)

pub lines_again : (m : Module) → lines_of (module_text m) (tokens_at 0 (pieces_of m)) ≡ lines_at 0 (module_lines m)
lines_again m = ap (slice_split is_feed) (symbols_from (module_text m) 0 (pieces_of m) (sym (pieces_written m))) ∙ split_lines 0 (module_lines m)
