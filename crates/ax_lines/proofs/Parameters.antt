-- How many parameters a line states: no more than it has symbols.
use Rattle.std.proofs.Common.{◌≡◌, ℕ, suc, ◌+◌, ◌≤◌, arith, Bool, true, false, cond, List, [], ◌∷◌, length, map, All, Option, None, Some, refl, sym, ap, subst, inl, inr}
use Rattle.std.specs.Prelude.{◌⊎◌}
use Rattle.std.specs.List.{slice_split, onto_first}
use Rattle.std.proofs.lemmas.List.{length-map}
use Rattle.std.proofs.lemmas.List.Elements.{All-nil, All-cons}
use Rattle.ax_lex.specs.declared.token.Token.{Token}
use Rattle.ax_symbols.specs.declared.vocabulary.Word.TheVariants as word
use Rattle.ax_symbols.specs.declared.symbol.Punctuation.TheVariants as mark
use Rattle.ax_symbols.specs.declared.pass.Pass.TheVariants as pass
use Rattle.ax_symbols.specs.declared.symbol.Sign.{Sign}
use Rattle.ax_symbols.specs.declared.symbol.Sign.TheVariants as sign
use Rattle.ax_symbols.specs.declared.symbol.NameSpan.{NameSpan}
use Rattle.ax_symbols.specs.declared.symbol.Symbol.{Symbol}
use Rattle.ax_symbols.specs.Pieces.{strip, sign_at}
use Rattle.ax_symbols.specs.Symbols.{symbol_of, is_feed}
use Rattle.ax_symbols.specs.Grammar.{Grammar, gives, then, signs, one, passed, typed, when, option, by, list, tail, ends, whole, none, comma, Listed, last, more, Derives, IsLine}
use Rattle.ax_symbols.proofs.Exact.{strip_splits, lengths, shrinks}
use Rattle.ax_lines.specs.declared.statement.Statement.{Statement}
use Rattle.ax_lines.specs.declared.statement.Line.{Line}
use Rattle.ax_lines.specs.declared.statement.Line.TheVariants as line
use Rattle.ax_lines.specs.declared.statement.Section.{Section}
use Rattle.ax_lines.specs.declared.statement.Section.TheVariants as section
use Rattle.ax_lines.specs.Productions.{states, result_type, global_line, define_line, items_at, items_in, call, valued, unnamed, named, named_call, blank, passed_line, label_line, close_line, outside, is_label, in_block, at_start, between, behind_block, line_at, section_after}
use Rattle.ax_lines.specs.Lines.{InPlace, AreLines, lines_of, param_count}

-- ---- what every value of a grammar has

abbrev Always : {V : Type 0} → Grammar V → (V → Type 0) → Type 0
Always (gives x) P = P x
Always (then {A} p g) P = (a : A) → Always (g a) P
Always (option ss g h) P = Always g P × Always h P
Always (by g) P = (a b : Sign) → Always (g a b) P
Always none P = Unit {0}
Always {V} _ P = (v : V) → P v

holds : {V : Type 0} (g : Grammar V) (P : V → Type 0) → Always g P → (line : List Symbol) (v : V) (rest : List Symbol) → Derives g line v rest → P v
holds (gives x) P h line v rest d = subst P (sym d.1) h
holds (then p g) P h line v rest (a, middle, d, f) = holds (g a) P (h a) middle v rest f
holds (option ss g k) P h line v rest (inl (behind, s, d)) = holds g P h.0 behind v rest d
holds (option ss g k) P h line v rest (inr (n, d)) = holds k P h.1 line v rest d
holds (by g) P h line v rest d = holds (g (sign_at line 0) (sign_at line 1)) P (h (sign_at line 0) (sign_at line 1)) line v rest d
holds none P h line v rest d = absurd d
holds (signs ss) P h line v rest d = h v
holds (one of) P h line v rest d = h v
holds (passed k) P h line v rest d = h v
holds typed P h line v rest d = h v
holds (when test) P h line v rest d = h v
holds (list item) P h line v rest d = h v
holds tail P h line v rest d = h v
holds ends P h line v rest d = h v
holds whole P h line v rest d = h v

-- ---- lines without parameters

abbrev NoParams : Line → Type 0
NoParams x = param_count x ≡ 0

abbrev Without : Grammar Line → Type 0
Without g = Always g NoParams

either_without : (t : Bool) (g h : Grammar Line) → Without g → Without h → Without (cond t g h)
either_without true g h a b = a
either_without false g h a b = b

passed_call : (t : Bool) (x : Line) → NoParams x → NoParams (cond t line.Nothing x)
passed_call true x h = refl
passed_call false x h = h

call_without : (only : Bool) (r : Option NameSpan) → Without (call only r)
unfolding call
call_without only r = λ _ _ _ t f _ arguments _ _ _ _. passed_call f.1 _ refl

valued_without : (phis : Bool) (r : Option NameSpan) (a b : Sign) → Without (valued phis r a b)
unfolding valued
valued_without phis r (sign.Word word.Add) b = λ s. refl
valued_without phis r (sign.Word word.Sub) b = λ s. refl
valued_without phis r (sign.Word word.Mul) b = λ s. refl
valued_without phis r (sign.Word word.And) b = λ s. refl
valued_without phis r (sign.Word word.Or) b = λ s. refl
valued_without phis r (sign.Word word.Xor) b = λ s. refl
valued_without phis r (sign.Word word.Shl) b = λ s. refl
valued_without phis r (sign.Word word.Lshr) b = λ s. refl
valued_without phis r (sign.Word word.Ashr) b = λ s. refl
valued_without phis r (sign.Word word.Icmp) b = λ s. refl
valued_without phis r (sign.Word word.Select) b = λ s. refl
valued_without phis r (sign.Word word.Zext) b = λ s. refl
valued_without phis r (sign.Word word.Sext) b = λ s. refl
valued_without phis r (sign.Word word.Trunc) b = λ s. refl
valued_without phis r (sign.Word word.Phi) b = λ s. refl
valued_without phis r (sign.Word word.Alloca) b = λ s. refl
valued_without phis r (sign.Word word.Getelementptr) b = λ s. refl
valued_without phis r (sign.Word word.Load) b = λ s. refl
valued_without phis r (sign.Word word.Cmpxchg) b = λ s. refl
valued_without phis r (sign.Word word.Atomicrmw) b = λ s. refl
valued_without phis r (sign.Word word.Extractvalue) b = λ s. refl
valued_without phis r (sign.Word word.Call) b = call_without false r
valued_without phis r (sign.Word word.Tail) b = call_without false r
valued_without phis r _ b = tt

unnamed_without : (phis : Bool) (a b : Sign) → Without (unnamed phis a b)
unfolding unnamed
unnamed_without phis (sign.Word word.Store) b = λ s. refl
unnamed_without phis (sign.Word word.Fence) b = λ s. refl
unnamed_without phis (sign.Word word.Br) b = λ s. refl
unnamed_without phis (sign.Word word.Ret) b = λ s. refl
unnamed_without phis (sign.Word word.Unreachable) b = λ s. refl
unnamed_without phis a b = valued_without phis None a b

named_without : (phis : Bool) → Without (named phis)
unfolding named
named_without phis = λ r a b. valued_without phis (Some r) a b

named_call_without : Without named_call
unfolding named_call
named_call_without = λ r. call_without true (Some r)

blank_without : Without blank
unfolding blank
blank_without = λ _. refl

passed_without : Without passed_line
unfolding passed_line
passed_without = λ _. refl

label_without : Without label_line
unfolding label_line
label_without = λ _ _. refl

close_without : Without close_line
unfolding close_line
close_without = λ _. refl

global_without : Without global_line
unfolding global_line
global_without = λ _ _ _ _ _ _ _. refl

block_without : (phis : Bool) (a b : Sign) → Without (in_block phis a b)
unfolding in_block
block_without phis sign.Feed b = blank_without
block_without phis sign.Local b = named_without phis
block_without phis a b = unnamed_without phis a b

start_without : (a b : Sign) → Without (at_start a b)
start_without a b = either_without (is_label a b) label_line (in_block true a b) label_without (block_without true a b)

between_without : (a : Sign) → Without (between a)
unfolding between
between_without sign.Feed = blank_without
between_without (sign.Mark mark.CloseBrace) = close_without
between_without (sign.Word word.Call) = call_without true None
between_without (sign.Word word.Tail) = call_without true None
between_without sign.Local = named_call_without
between_without _ = tt

behind_without : (a b : Sign) → Without (behind_block a b)
behind_without a b = either_without (is_label a b) label_line (between a) label_without (between_without a)

outside_kind : (a b : Sign) → Without (outside a b) ⊎ (outside a b ≡ define_line)
unfolding outside
outside_kind sign.Feed b = inl blank_without
outside_kind (sign.Word word.SourceFilename) b = inl passed_without
outside_kind (sign.Word word.Target) b = inl passed_without
outside_kind (sign.Word word.Declare) b = inl passed_without
outside_kind (sign.Word word.Attributes) b = inl passed_without
outside_kind sign.Meta b = inl passed_without
outside_kind (sign.Mark mark.Bang) b = inl passed_without
outside_kind sign.Intrinsic b = inl passed_without
outside_kind sign.Lifetime b = inl passed_without
outside_kind sign.Global b = inl global_without
outside_kind (sign.Word word.Define) b = inr refl
outside_kind _ b = inl tt

-- ---- a function's head

listed_few : {A : Type 0} (item : Grammar A) (line : List Symbol) (vs : List A) (rest : List Symbol) → Listed (Derives item) line vs rest → length vs + length rest ≤ length line + 1
listed_few item line vs rest (last {a = a} i e) = omega (arith, shrinks item line a rest i)
listed_few item line vs rest (more {behind = behind} {next = next} {a = a} {others = others} i at h) =
    omega (arith, shrinks item line a behind i, lengths comma behind next (strip_splits comma behind next at), listed_few item next others rest h)

at_few : {A : Type 0} (item : Grammar A) (s : Sign) (line : List Symbol) (vs : List A) (rest : List Symbol) → Derives (items_at item s) line vs rest → length vs + length rest ≤ length line + 1
at_few item (sign.Mark mark.Close) line vs rest d = omega (arith, ap length d.0, ap length d.1)
at_few item _ line vs rest d = listed_few item line vs rest d

define_few : (l : List Symbol) (x : Line) (rest : List Symbol) → Derives define_line l x rest → param_count x ≤ length l
unfolding define_line
define_few l x rest (u1, m1, d1, (u2, m2, d2, (r, m3, d3, (f, m4, d4, (u5, m5, d5, (ps, m6, d6, (u7, m7, d7, (u8, m8, d8, (u9, m9, d9, (e, is)))))))))) =
    let n = at_few _ (sign_at m5 0) m5 ps m6 d6 in
    subst (λ (y : Line). param_count y ≤ length l) (sym is) (omega (arith, shrinks (signs _) l u1 m1 d1, shrinks (passed pass.Plain) m1 u2 m2 d2, shrinks result_type m2 r m3 d3, shrinks (one _) m3 f m4 d4, shrinks (signs _) m4 u5 m5 d5, n, lengths _ m6 m7 d7))

-- ---- a line

none_few : (x : Line) (l : List Symbol) → NoParams x → param_count x ≤ length l
none_few x l h = omega (arith, h)

line_few : (p : Section) (l : List Symbol) (x : Line) → IsLine (line_at p) l x → param_count x ≤ length l
unfolding line_at
line_few section.Outside l x d =
    elim (outside_kind (sign_at l 0) (sign_at l 1)) [
      | inl w ↦ none_few x l (holds (outside (sign_at l 0) (sign_at l 1)) NoParams w l x [] d)
      | inr e ↦ define_few l x [] (subst (λ (g : Grammar Line). Derives g l x []) e d)
    ]
line_few section.Start l x d = none_few x l (holds (at_start (sign_at l 0) (sign_at l 1)) NoParams (start_without (sign_at l 0) (sign_at l 1)) l x [] d)
line_few section.Phis l x d = none_few x l (holds (in_block true (sign_at l 0) (sign_at l 1)) NoParams (block_without true (sign_at l 0) (sign_at l 1)) l x [] d)
line_few section.Inside l x d = none_few x l (holds (in_block false (sign_at l 0) (sign_at l 1)) NoParams (block_without false (sign_at l 0) (sign_at l 1)) l x [] d)
line_few section.Ended l x d = none_few x l (holds (behind_block (sign_at l 0) (sign_at l 1)) NoParams (behind_without (sign_at l 0) (sign_at l 1)) l x [] d)

-- ---- all lines

abbrev Within : ℕ → List (List Symbol) → Type 0
Within n [] = Unit {0}
Within n (l ∷ ls) = (length l ≤ n) × Within n ls

wider : (n : ℕ) (ls : List (List Symbol)) → Within n ls → Within (suc n) ls
wider n [] h = tt
wider n (l ∷ ls) h = (omega (arith, h.0), wider n ls h.1)

onto_within : (n : ℕ) (s : Symbol) (ls : List (List Symbol)) → Within n ls → Within (suc n) (onto_first s ls)
onto_within n s [] h = (omega arith, tt)
onto_within n s (l ∷ ls) h = (omega (arith, h.0), wider n ls h.1)

one_within : (t : Bool) (n : ℕ) (s : Symbol) (ls : List (List Symbol)) → Within n ls → Within (suc n) (cond t ([] ∷ ls) (onto_first s ls))
one_within true n s ls h = (omega arith, wider n ls h)
one_within false n s ls h = onto_within n s ls h

split_within : (p : Symbol → Bool) (ss : List Symbol) → Within (length ss) (slice_split p ss)
split_within p [] = (omega arith, tt)
split_within p (s ∷ ss) = one_within (p s) (length ss) s (slice_split p ss) (split_within p ss)

in_place_few : (n : ℕ) (p q : Section) (ls : List (List Symbol)) (xs : List Line) → Within n ls → InPlace p ls xs q → All (λ x. param_count x ≤ n) xs
in_place_few n p q [] [] w h = All-nil (λ (x : Line). param_count x ≤ n)
in_place_few n p q [] (x ∷ xs) w h = absurd h
in_place_few n p q (l ∷ ls) [] w h = absurd h
in_place_few n p q (l ∷ ls) (x ∷ xs) w h = All-cons (λ (y : Line). param_count y ≤ n) x xs (omega (arith, line_few p l x h.0, w.0)) (in_place_few n (section_after p x) q ls xs w.1 h.1)

pub params_few : (text : List ℕ) (ts : List Token) (xs : List Line) → AreLines (lines_of text ts) xs → All (λ x. param_count x ≤ length ts) xs
params_few text ts xs h =
    let n : length (map (symbol_of text) ts) ≡ length ts = length-map ts (symbol_of text) in
    in_place_few (length ts) section.Outside section.Outside (lines_of text ts) xs (subst (λ (k : ℕ). Within k (lines_of text ts)) n (split_within is_feed (map (symbol_of text) ts))) h
