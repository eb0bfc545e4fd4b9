-- The symbols of a text's tokens are sound.
use Rattle.std.proofs.Common.{◌≡◌, ℕ, suc, ◌+◌, ◌-◌, ◌*◌, ◌^◌, ◌<◌, ◌≤◌, min, arith, Bool, true, false, cond, ◌&&◌, ◌||◌, List, [], ◌∷◌, length, take, drop, map, Option, Some, None, refl, sym, ap, subst, ◌∙◌, nat_le, nat_eq, ◌==◌, codes}
use Rattle.std.specs.List.{list_all, slice_split, onto_first, starts_with}
use Rattle.std.proofs.lemmas.List.{drop-take, take-take, drop-drop, length-drop, length-take-le, take_all}
use Rattle.std.proofs.lemmas.Option.{same_Some}
use Rattle.std.proofs.lemmas.Bool.{and_parts, and_from, leb-true, le-leb, lt-ltb, eqb-true, ne_eqb, not_from_false, false≢true}
use Rattle.ax_module.specs.Names.{is_name, is_printable}
use Rattle.ax_lex.specs.declared.token.Token.{Token}
use Rattle.ax_lex.specs.declared.token.TokenKind.{TokenKind}
use Rattle.ax_lex.specs.declared.token.TokenKind.TheVariants as kind
use Rattle.ax_lex.specs.declared.bytes.Start.{Start}
use Rattle.ax_lex.specs.declared.bytes.Start.TheVariants as start
use Rattle.ax_lex.specs.Bytes.{is_name_byte, is_text_byte, is_digit, start_of}
use Rattle.ax_lex.specs.Tokens as lex
use Rattle.ax_lex.specs.Tokens.{some_all, is_closed, is_quoted, goes_on, is_token, IsNext, TokensTo, AreTokens}
use Rattle.ax_symbols.specs.declared.symbol.Sign.{Sign}
use Rattle.ax_symbols.specs.declared.symbol.Sign.TheVariants as sign
use Rattle.ax_symbols.specs.declared.symbol.Symbol.{Symbol}
use Rattle.ax_lex.specs.Numbers.{number_from, number_of}
use Rattle.ax_symbols.specs.Symbols.{number_or_odd, literal_sign, width_of, int_or_word, sides, sides_of, within, name_of, span_of, global_sign, text_sign, mark_sign, symbol_of, is_feed}
use Rattle.ax_lines.specs.Lines.{lines_of}
use Rattle.ax_scope.specs.Names.{text_at}
use Rattle.ax_read.proofs.Grants.{Each, SoundSign, IsSound}

-- ---- numbers

from_within : (most n m : ℕ) (bs : List ℕ) → n ≤ most → number_from most n bs ≡ Some m → m ≤ most
from_within most n m [] h e = subst (λ (k : ℕ). k ≤ most) (same_Some n m e) h
from_within most n m (b ∷ bs) h e = by (is_digit b && nat_le (10 * n + (b - 48)) most) refl (λ g f. from_within most (10 * n + (b - 48)) m bs g f) e
  where
    by : (t : Bool) → is_digit b && nat_le (10 * n + (b - 48)) most ≡ t → (10 * n + (b - 48) ≤ most → number_from most (10 * n + (b - 48)) bs ≡ Some m → m ≤ most) → cond t (number_from most (10 * n + (b - 48)) bs) None ≡ Some m → m ≤ most
    by true is more e = more (leb-true (10 * n + (b - 48)) most (and_parts (is_digit b) (nat_le (10 * n + (b - 48)) most) is).1) e
    by false is more e = absurd cc

of_within : (most m : ℕ) (bs : List ℕ) → number_of most bs ≡ Some m → m ≤ most
of_within most m [] e = absurd cc
of_within most m (b ∷ bs) e = from_within most 0 m (b ∷ bs) (omega arith) e

width_within : (n : ℕ) (bytes : List ℕ) → width_of bytes ≡ Some n → n ≤ 10 ^ 8 - 1
width_within n [] e = absurd cc
width_within n (b ∷ bs) e = by (b == 105 && nat_le (length bs) 8) e
  where
    by : (t : Bool) → cond t (number_of (10 ^ 8 - 1) bs) None ≡ Some n → n ≤ 10 ^ 8 - 1
    by true e = of_within (10 ^ 8 - 1) n bs e
    by false e = absurd cc

sound_cond : (name : List ℕ) (t : Bool) (a b : Sign) → SoundSign name a → SoundSign name b → SoundSign name (cond t a b)
sound_cond name true a b h g = h
sound_cond name false a b h g = g

word_sound : (name bytes : List ℕ) (o : Option ℕ) → width_of bytes ≡ o → SoundSign name (int_or_word o bytes)
word_sound name bytes None e = tt
word_sound name bytes (Some n) e = let f = width_within n bytes e in lt-ltb n (10 ^ 8) (omega (arith, f))

odd_sound : (name : List ℕ) (negative : Bool) (most : ℕ) (bs : List ℕ) (o : Option ℕ) → number_of most bs ≡ o → most < 2 ^ 128 → SoundSign name (number_or_odd negative o)
odd_sound name negative most bs None e h = tt
odd_sound name negative most bs (Some n) e h = let f = of_within most n bs e in lt-ltb n (2 ^ 128) (omega (arith, f, h))

literal_sound : (name bytes : List ℕ) → SoundSign name (literal_sign bytes)
literal_sound name [] = tt
literal_sound name (b ∷ bs) = sound_cond name (b == 45) _ _ (odd_sound name true (2 ^ 127) bs (number_of (2 ^ 127) bs) refl (omega arith)) (odd_sound name false (2 ^ 128 - 1) (b ∷ bs) (number_of (2 ^ 128 - 1) (b ∷ bs)) refl (omega arith))

mark_sound : (name bytes : List ℕ) → SoundSign name (mark_sign bytes)
mark_sound name [] = tt
mark_sound name (b ∷ bs) =
    sound_cond name (b == 61) _ _ tt (sound_cond name (b == 44) _ _ tt (sound_cond name (b == 40) _ _ tt (sound_cond name (b == 41) _ _ tt
    (sound_cond name (b == 123) _ _ tt (sound_cond name (b == 125) _ _ tt (sound_cond name (b == 91) _ _ tt (sound_cond name (b == 93) _ _ tt
    (sound_cond name (b == 60) _ _ tt (sound_cond name (b == 62) _ _ tt (sound_cond name (b == 58) _ _ tt (sound_cond name (b == 33) _ _ tt
    (sound_cond name (b == 42) _ _ tt (sound_cond name (b == 124) _ _ tt tt)))))))))))))

text_sound : (name bytes : List ℕ) → SoundSign name (text_sign bytes)
text_sound name bytes = sound_cond name _ sign.SingleThread sign.Text tt tt

-- ---- names

printable_between : (b : ℕ) → 35 ≤ b → b ≤ 126 → is_printable b ≡ true
printable_between b low high = and_from _ _ (and_from (nat_le 32 b) (nat_le b 126) (le-leb 32 b (omega (arith, low))) (le-leb b 126 high)) (not_from_false (b == 34) (ne_eqb b 34 (λ e. omega (arith, e, low))))

range_printable : (low high b : ℕ) → 35 ≤ low → high ≤ 126 → nat_le low b && nat_le b high ≡ true → is_printable b ≡ true
range_printable low high b l h e =
    let f = leb-true low b (and_parts (nat_le low b) (nat_le b high) e).0 in
    let g = leb-true b high (and_parts (nat_le low b) (nat_le b high) e).1 in
    printable_between b (omega (arith, l, f)) (omega (arith, h, g))

one_printable : (n b : ℕ) → 35 ≤ n → n ≤ 126 → b == n ≡ true → is_printable b ≡ true
one_printable n b l h e = let f = eqb-true b n e in printable_between b (omega (arith, l, f)) (omega (arith, h, f))

either_is : {P : Type 0} (x y : Bool) → x || y ≡ true → (x ≡ true → P) → (y ≡ true → P) → P
either_is true y e f g = f refl
either_is false y e f g = g e

name_byte_printable : (b : ℕ) → is_name_byte b ≡ true → is_printable b ≡ true
name_byte_printable b e =
    either_is _ (b == 36) e (λ e. either_is _ (b == 45) e (λ e. either_is _ (b == 46) e (λ e. either_is _ (is_digit b) e
    (λ e. either_is _ (b == 95) e (λ e. either_is _ _ e (range_printable 65 90 b (omega arith) (omega arith)) (range_printable 97 122 b (omega arith) (omega arith))) (one_printable 95 b (omega arith) (omega arith)))
    (range_printable 48 57 b (omega arith) (omega arith)))
    (one_printable 46 b (omega arith) (omega arith))) (one_printable 45 b (omega arith) (omega arith))) (one_printable 36 b (omega arith) (omega arith))

all_printable : (bs : List ℕ) → list_all is_name_byte bs ≡ true → is_name bs ≡ true
all_printable [] e = refl
all_printable (b ∷ bs) e = let p = and_parts (is_name_byte b) (list_all is_name_byte bs) e in and_from (is_printable b) (is_name bs) (name_byte_printable b p.0) (all_printable bs p.1)

some_printable : (bs : List ℕ) → some_all is_name_byte bs ≡ true → is_name bs ≡ true
some_printable [] e = refl
some_printable (b ∷ bs) e = all_printable (b ∷ bs) e

closed_printable : (bs : List ℕ) → is_closed bs ≡ true → is_name (take (length bs - 1) bs) ≡ true
closed_printable [] e = refl
closed_printable (b ∷ []) e = refl
closed_printable (b ∷ c ∷ bs) e =
    either_is (b == 34 && false) (is_text_byte b && is_closed (c ∷ bs)) e (λ n. absurd (false≢true ((and_parts (b == 34) false n).1)))
    (λ t. let p = and_parts (is_text_byte b) (is_closed (c ∷ bs)) t in
    let more = closed_printable (c ∷ bs) p.1 in
    let eq : length (b ∷ c ∷ bs) - 1 ≡ suc (length (c ∷ bs) - 1) = omega arith in
    subst (λ (n : ℕ). is_name (take n (b ∷ c ∷ bs)) ≡ true) (sym eq) (and_from (is_printable b) (is_name (take (length (c ∷ bs) - 1) (c ∷ bs))) p.0 more))

-- ---- where a name stands

min_left : (a b : ℕ) → a ≤ b → min a b ≡ a
min_left a b h = omega (arith, h)

-- the bytes of a name are those in its token
pub name_bytes : (text : List ℕ) (t : Token) (s z : ℕ) → t.start + s + z ≤ t.end → t.end ≤ length text → text_at text (span_of t (s, z)) ≡ within (s, z) (lex.text_at text t)
name_bytes text t s z fits ends =
    let m : ℕ = t.end - t.start - s in
    let D : List ℕ = drop (t.start + s) text in
    let size : length D ≡ length text - (t.start + s) = length-drop (t.start + s) text in
    let inner : drop s (lex.text_at text t) ≡ take m D = ap (λ k. drop s (take k (drop t.start text))) (omega (arith, fits)) ∙ drop-take s m (drop t.start text) ∙ ap (take m) (drop-drop s t.start text) in
    let long : length (take m D) ≡ m = length-take-le m D (omega (arith, size, fits, ends)) in
    let last : min (t.end - z) (length text) ≡ t.end - z = min_left (t.end - z) (length text) (omega (arith, ends)) in
    let first : min (t.start + s) (t.end - z) ≡ t.start + s = min_left (t.start + s) (t.end - z) (omega (arith, fits)) in
    ap (λ e. take (e - min (t.start + s) e) (drop (min (t.start + s) e) text)) last
    ∙ ap (λ b. take (t.end - z - b) (drop b text)) first
    ∙ ap (λ k. take k D) (omega (arith, fits))
    ∙ sym (take-take (m - z) m D (omega arith))
    ∙ ap (λ k. take (k - z) (take m D)) (sym long)
    ∙ ap (λ (x : List ℕ). take (length x - z) x) (sym inner)

-- how many bytes of a global's token stand beside its name
pub sides_fit : (b : ℕ) (bs : List ℕ) → lex.is_name bs ≡ true → (sides_of kind.Global (b ∷ bs)).0 + (sides_of kind.Global (b ∷ bs)).1 ≤ length (b ∷ bs)
sides_fit b [] e = omega arith
sides_fit b (c ∷ cs) e = by (c == 34) refl
  where
    closed_long : (bs : List ℕ) → is_closed bs ≡ true → 1 ≤ length bs
    closed_long [] e = absurd (false≢true e)
    closed_long (x ∷ xs) e = omega arith

    by : (t : Bool) → c == 34 ≡ t → (sides kind.Global t).0 + (sides kind.Global t).1 ≤ length (b ∷ c ∷ cs)
    by true is = either_is (some_all is_name_byte (c ∷ cs)) (is_quoted (c ∷ cs)) e
        (λ n. let f = (and_parts (is_name_byte c) (list_all is_name_byte cs) n).0 in let g = eqb-true c 34 is in absurd (false≢true (subst (λ x. is_name_byte x ≡ true) g f)))
        (λ q. let f = closed_long cs (and_parts (c == 34) (is_closed cs) q).1 in omega (arith, f))
    by false is = omega arith

global_named : (b : ℕ) (bs : List ℕ) → lex.is_name bs ≡ true → is_name (name_of kind.Global (b ∷ bs)) ≡ true
global_named b [] e = refl
global_named b (c ∷ cs) e = by (c == 34) refl
  where
    by : (t : Bool) → c == 34 ≡ t → is_name (within (sides kind.Global t) (b ∷ c ∷ cs)) ≡ true
    by true is = either_is (some_all is_name_byte (c ∷ cs)) (is_quoted (c ∷ cs)) e
        (λ n. let f = (and_parts (is_name_byte c) (list_all is_name_byte cs) n).0 in let g = eqb-true c 34 is in absurd (false≢true (subst (λ x. is_name_byte x ≡ true) g f)))
        (λ q. closed_printable cs (and_parts (c == 34) (is_closed cs) q).1)
    by false is = either_is (some_all is_name_byte (c ∷ cs)) (is_quoted (c ∷ cs)) e
        (λ n. subst (λ (x : List ℕ). is_name x ≡ true) (sym (take_all (length (c ∷ cs) - 0) (c ∷ cs) (omega arith))) (some_printable (c ∷ cs) n))
        (λ q. absurd (false≢true (sym is ∙ (and_parts (c == 34) (is_closed cs) q).0)))

global_bytes : (s : Start) (bs : List ℕ) → goes_on kind.Global s bs ≡ true → lex.is_name bs ≡ true
global_bytes start.At bs e = e
global_bytes _ bs e = absurd (false≢true e)

global_sound : (name n : List ℕ) → name ≡ n → is_name n ≡ true → SoundSign name (global_sign n)
global_sound name n e h = subst (λ (x : List ℕ). SoundSign x (global_sign n)) (sym e) (by (starts_with nat_eq n (codes "llvm.lifetime.")) (starts_with nat_eq n (codes "llvm.")) refl refl)
  where
    by : (t u : Bool) → starts_with nat_eq n (codes "llvm.lifetime.") ≡ t → starts_with nat_eq n (codes "llvm.") ≡ u → SoundSign n (cond t sign.Lifetime (cond u sign.Intrinsic sign.Global))
    by true u a b = h
    by false true a b = (h, a)
    by false false a b = (h, b, a)

-- ---- symbols

nonempty : (k : TokenKind) (bs : List ℕ) → is_token k bs ≡ true → 1 ≤ length bs
nonempty k [] e = absurd (false≢true e)
nonempty k (b ∷ bs) e = omega arith

module _ (text : List ℕ) where
  global_token : (t : Token) (bytes : List ℕ) → lex.text_at text t ≡ bytes → is_token kind.Global bytes ≡ true → t.start ≤ t.end → t.end ≤ length text
      → SoundSign (text_at text (span_of t (sides_of kind.Global bytes))) (global_sign (name_of kind.Global bytes))
  global_token t [] same e o h = absurd (false≢true e)
  global_token t (b ∷ bs) same e o h =
      let f = global_bytes (start_of b) bs e in
      let size : length (b ∷ bs) ≡ t.end - t.start = ap length (sym same) ∙ length-take-le (t.end - t.start) (drop t.start text) (omega (arith, length-drop t.start text, h)) in
      let fits = sides_fit b bs f in
      let s = sides_of kind.Global (b ∷ bs) in
      global_sound (text_at text (span_of t s)) (name_of kind.Global (b ∷ bs)) (name_bytes text t s.0 s.1 (omega (arith, fits, size, o)) h ∙ ap (within s) same) (global_named b bs f)

  abbrev name_in : TokenKind → ℕ → ℕ → List ℕ
  name_in k a z = let s : Symbol = symbol_of text (record { kind = k; start = a; end = z }) in text_at text s.name

  token_sound : (k : TokenKind) (a z : ℕ) → is_token k (take (z - a) (drop a text)) ≡ true → a ≤ z → z ≤ length text → IsSound text (symbol_of text (record { kind = k; start = a; end = z }))
  token_sound kind.Word a z e o h = let bytes = take (z - a) (drop a text) in word_sound (name_in kind.Word a z) bytes (width_of bytes) refl
  token_sound kind.Local a z e o h = tt
  token_sound kind.Global a z e o h = global_token (record { kind = kind.Global; start = a; end = z }) (take (z - a) (drop a text)) refl e o h
  token_sound kind.Meta a z e o h = tt
  token_sound kind.Group a z e o h = tt
  token_sound kind.Literal a z e o h = literal_sound (name_in kind.Literal a z) (take (z - a) (drop a text))
  token_sound kind.Text a z e o h = text_sound (name_in kind.Text a z) (take (z - a) (drop a text))
  token_sound kind.Mark a z e o h = mark_sound (name_in kind.Mark a z) (take (z - a) (drop a text))
  token_sound kind.Newline a z e o h = tt

  tokens_sound : (from to : ℕ) (ts : List Token) → TokensTo text from ts to → Each (IsSound text) (map (symbol_of text) ts)
  tokens_sound from to [] h = tt
  tokens_sound from to (t ∷ ts) h =
      let n = h.0 in
      let some = nonempty t.kind _ n.longest.token in
      let size : length (take (t.end - t.start) (drop t.start text)) ≡ t.end - t.start = length-take-le (t.end - t.start) (drop t.start text) n.longest.within in
      (token_sound t.kind t.start t.end n.longest.token n.ordered (omega (arith, n.ordered, n.longest.within, length-drop t.start text, some, size)), tokens_sound t.end to ts h.1)

  onto_sound : (x : Symbol) (ls : List (List Symbol)) → IsSound text x → Each (Each (IsSound text)) ls → Each (Each (IsSound text)) (onto_first x ls)
  onto_sound x [] h g = ((h, tt), tt)
  onto_sound x (l ∷ ls) h g = ((h, g.0), g.1)

  split_sound : (xs : List Symbol) → Each (IsSound text) xs → Each (Each (IsSound text)) (slice_split is_feed xs)
  split_sound [] h = (tt, tt)
  split_sound (x ∷ xs) h = by (is_feed x) (split_sound xs h.1)
    where
      by : (t : Bool) → Each (Each (IsSound text)) (slice_split is_feed xs) → Each (Each (IsSound text)) (cond t ([] ∷ slice_split is_feed xs) (onto_first x (slice_split is_feed xs)))
      by true g = (tt, g)
      by false g = onto_sound x (slice_split is_feed xs) h.0 g

  pub lines_sound : (ts : List Token) → AreTokens text ts → Each (Each (IsSound text)) (lines_of text ts)
  lines_sound ts h = split_sound (map (symbol_of text) ts) (tokens_sound 0 h.0 ts h.1)
