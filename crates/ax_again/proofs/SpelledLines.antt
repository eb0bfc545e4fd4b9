-- The symbols of the canonical lines are those of their tokens.
use Rattle.std.proofs.Common.{◌≡◌, ℕ, ◌+◌, ◌-◌, ◌≤◌, Bool, true, false, List, [], ◌∷◌, ◌++◌, length, drop, refl, sym, ap, ◌∙◌, arith, append_assoc}
use Rattle.std.specs.Prelude.{not}
use Rattle.std.proofs.lemmas.Bool.{false≢true}
use Rattle.std.proofs.lemmas.List.{drop_at, take_at, drop-drop, length-append, length-drop}
use Rattle.ax_lex.specs.declared.bytes.Start.{Start}
use Rattle.ax_lex.specs.declared.bytes.Start.TheVariants as start
use Rattle.ax_lex.specs.declared.token.Token.{Token}
use Rattle.ax_lex.specs.Bytes.{start_of}
use Rattle.ax_lex.specs.Tokens as lex
use Rattle.ax_lex.specs.Tokens.{goes_on, is_token, is_closed}
use Rattle.ax_ir.specs.Spacing.{is_opening, spaced_from}
use Rattle.ax_ir.specs.Canonical.{Line, line_text}
use Rattle.ax_module.specs.declared.module.Module.{Module}
use Rattle.ax_ir.specs.Canonical.{module_lines, module_text}
use Rattle.ax_symbols.specs.declared.symbol.Symbol.{Symbol}
use Rattle.ax_symbols.specs.Symbols.{sides, sides_of, begins_quote, within}
use Rattle.ax_read.proofs.SoundTokens.{name_bytes, sides_fit}
use Rattle.ax_again.specs.Pieces.{kind_from, kind_of, blank_before, indent}
use Rattle.ax_again.specs.Places.{token_symbol, token_symbols, lines_at}
use Rattle.ax_again.proofs.Fit.{Fit, also}
use Rattle.ax_again.proofs.Follows.{LinesFit, line}
use Rattle.ax_again.proofs.Pieces.{regroup}
use Rattle.ax_again.proofs.Eats.{Spelled, SpelledAll}
use Rattle.std.specs.Prelude.{flat_map}

closed_some : (bs : List ℕ) → is_closed bs ≡ true → 1 ≤ length bs
closed_some [] e = absurd (false≢true e)
closed_some (b ∷ bs) e = omega arith

start_fit : (b : ℕ) (bs : List ℕ) (s : Start) → goes_on (kind_from s) s bs ≡ true → (sides (kind_from s) (begins_quote bs)).0 + (sides (kind_from s) (begins_quote bs)).1 ≤ length (b ∷ bs)
start_fit b bs start.Letter e = omega arith
start_fit b bs start.Percent e = sides_fit b bs e
start_fit b bs start.At e = sides_fit b bs e
start_fit b bs start.Quote e = let f = closed_some bs e in omega (arith, f)
start_fit b bs _ e = omega arith

token_sides : (t : List ℕ) → is_token (kind_of t) t ≡ true → (sides_of (kind_of t) t).0 + (sides_of (kind_of t) t).1 ≤ length t
token_sides [] e = absurd (false≢true e)
token_sides (b ∷ bs) e = start_fit b bs (start_of b) e

pub token_some : (t : List ℕ) → is_token (kind_of t) t ≡ true → 1 ≤ length t
token_some [] e = absurd (false≢true e)
token_some (b ∷ bs) e = omega arith

module _ (text : List ℕ) where
  token_spelled : (at : ℕ) (t more : List ℕ) → is_token (kind_of t) t ≡ true → drop at text ≡ t ++ more → Spelled text (token_symbol at t) t
  token_spelled at t more f d =
      let tok : Token = record { kind = kind_of t; start = at; end = at + length t } in
      let w : (at + length t) - at ≡ length t = omega arith in
      let here : lex.text_at text tok ≡ t = rw (w, d) (take_at t more (length t) refl) in
      let s = sides_of (kind_of t) t in
      let some = token_some t f in
      let fits = token_sides t f in
      let size : length text - at ≡ length t + length more = sym (length-drop at text) ∙ ap length d ∙ length-append t more in
      record { sign = refl; name = name_bytes text tok s.0 s.1 (omega (arith, fits)) (omega (arith, size, some)) ∙ ap (within s) here }

  line_spelled : (at : ℕ) (blanks : List ℕ) (parted : Bool) (ts : List (List ℕ)) (more : List ℕ) → Fit ts → drop at text ≡ (blanks ++ spaced_from parted ts) ++ more → SpelledAll text (token_symbols at blanks parted ts) ts
  line_spelled at blanks parted [] more f e = tt
  line_spelled at blanks parted (t ∷ ts) more (also f fs) e =
      let front : List ℕ = blanks ++ blank_before parted t in
      let s = at + length front in
      let rest : List ℕ = spaced_from (not (is_opening t)) ts in
      let d : drop s text ≡ t ++ (rest ++ more) = sym (drop-drop (length front) at text) ∙ ap (drop (length front)) (e ∙ sym (regroup blanks (blank_before parted t) t rest more)) ∙ drop_at front (t ++ (rest ++ more)) (length front) refl in
      let n : drop (s + length t) text ≡ rest ++ more = sym (drop-drop (length t) s text) ∙ ap (drop (length t)) d ∙ drop_at t (rest ++ more) (length t) refl in
      (token_spelled s t (rest ++ more) f.fit d, line_spelled (s + length t) [] (not (is_opening t)) ts more fs n)

  -- the symbols of each line are those of its tokens, and behind the last line feed stand none
  abbrev pub SpelledEach : List (List Symbol) → List Line → Type 0
  SpelledEach [] ls = ⊥
  SpelledEach (s ∷ []) [] = s ≡ []
  SpelledEach (s ∷ r ∷ ss) [] = ⊥
  SpelledEach (s ∷ ss) (l ∷ ls) = SpelledAll text s l.tokens × SpelledEach ss ls

  lines_spelled : (at : ℕ) (ls : List Line) → LinesFit ls → drop at text ≡ flat_map line_text ls → SpelledEach (lines_at at ls) ls
  lines_spelled at [] f e = refl
  lines_spelled at (l ∷ ls) (line _ f fs) e =
      let rest = flat_map line_text ls in
      let d : drop (at + length (line_text l)) text ≡ rest = sym (drop-drop (length (line_text l)) at text) ∙ ap (drop (length (line_text l))) e ∙ drop_at (line_text l) rest (length (line_text l)) refl in
      (line_spelled at (indent l) false l.tokens ((10 ∷ []) ++ rest) f (e ∙ append_assoc (indent l ++ spaced_from false l.tokens) (10 ∷ []) rest), lines_spelled (at + length (line_text l)) ls fs d)

pub module_spelled : (m : Module) → LinesFit (module_lines m) → SpelledEach (module_text m) (lines_at 0 (module_lines m)) (module_lines m)
module_spelled m f = lines_spelled (module_text m) 0 (module_lines m) f refl
