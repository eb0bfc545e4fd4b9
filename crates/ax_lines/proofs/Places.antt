-- Lines in their places.
use Rattle.std.proofs.Common.{◌≡◌, ℕ, ◌+◌, List, [], ◌∷◌, ◌++◌, length, Option, Some, None, map, refl, sym, ap, subst, ◌∙◌, arith, append_assoc, inl, inr, Bool, true, false, cond, take, drop, one-add, suc, ◌-◌, ◌<◌, ◌≤◌, Bor}
use Rattle.std.specs.Prelude.{not, MatchOption}
use Rattle.std.specs.List.{slice_split, onto_first, position_or_len}
use Rattle.ax_symbols.specs.declared.symbol.Symbol.{Symbol}
use Rattle.ax_lines.specs.declared.statement.Line.{Line}
use Rattle.ax_lines.specs.declared.statement.Section.{Section}
use Rattle.ax_lines.specs.declared.statement.Section.TheVariants as section
use Rattle.std.proofs.lemmas.List.{length-append, length-map, append-nil, length-drop, take_all}
use Rattle.std.proofs.lemmas.Option.{same_Some}
use Rattle.ax_symbols.specs.Grammar.{Grammar, IsLine, reads, all_of}
use Rattle.ax_lines.specs.Productions.{line_at, section_after}
use Rattle.ax_symbols.specs.Symbols.{is_feed}
use Rattle.ax_lines.specs.Lines.{InPlace, AreLines, lines_of, IsBadLine, IsSyntax, IsOpcode, is_opcode_fault}
use Rattle.ax_lines.specs.declared.fault.LineFault.{LineFault}
use Rattle.ax_lines.specs.declared.fault.LineFault.TheVariants.{Syntax, Opcode, Memory}
use Rattle.ax_lines.specs.Faults.{IsLineFault, HaveFault, IsOrMemory, NoLine, FaultWithin}
use Rattle.ax_lex.specs.declared.token.Token.{Token}
use Rattle.ax_symbols.specs.Symbols.{symbol_of}
use Rattle.ax_symbols.proofs.Exact.{found, all_found}

-- ---- the first line

last_at : (p : Symbol → Bool) (s : Symbol) (ss : List Symbol) (t : Bool) → p s ≡ t → drop (cond (not t) (1 + position_or_len p ss) 0) (s ∷ ss) ≡ [] → (drop (position_or_len p ss) ss ≡ [] → slice_split p ss ≡ take (position_or_len p ss) ss ∷ [])
    → cond t ([] ∷ slice_split p ss) (onto_first s (slice_split p ss)) ≡ take (cond (not t) (1 + position_or_len p ss) 0) (s ∷ ss) ∷ []
last_at p s ss true h e more = absurd cc
last_at p s ss false h e more = rw one-add (rw (more (rw one-add at e)) refl)

first_at : (p : Symbol → Bool) (s : Symbol) (ss : List Symbol) (t : Bool) → p s ≡ t → (y : Symbol) (rest : List Symbol) → drop (cond (not t) (1 + position_or_len p ss) 0) (s ∷ ss) ≡ y ∷ rest → (drop (position_or_len p ss) ss ≡ y ∷ rest → slice_split p ss ≡ take (position_or_len p ss) ss ∷ slice_split p rest)
    → cond t ([] ∷ slice_split p ss) (onto_first s (slice_split p ss)) ≡ take (cond (not t) (1 + position_or_len p ss) 0) (s ∷ ss) ∷ slice_split p rest
first_at p s ss true h y rest e more = let same : ss ≡ rest = cc in rw same refl
first_at p s ss false h y rest e more = rw one-add (rw (more (rw one-add at e)) refl)

pub line_is_last : (p : Symbol → Bool) (ss : List Symbol) → drop (position_or_len p ss) ss ≡ [] → slice_split p ss ≡ take (position_or_len p ss) ss ∷ []
line_is_last p [] e = refl
line_is_last p (s ∷ ss) e = last_at p s ss (p s) refl e (line_is_last p ss)

pub line_is_first : (p : Symbol → Bool) (ss : List Symbol) (y : Symbol) (more : List Symbol) → drop (position_or_len p ss) ss ≡ y ∷ more → slice_split p ss ≡ take (position_or_len p ss) ss ∷ slice_split p more
line_is_first p [] y more e = absurd cc
line_is_first p (s ∷ ss) y more e = first_at p s ss (p s) refl y more e (line_is_first p ss y more)

-- the same, for what a slice pattern sees
pub empty_behind : (p : Symbol → Bool) (ss rest : List Symbol) → rest ≡ drop (position_or_len p ss) ss → length rest < 1 → slice_split p ss ≡ take (position_or_len p ss) ss ∷ []
empty_behind p ss [] e h = line_is_last p ss (sym e)
empty_behind p ss (y ∷ rest) e h = absurd (omega arith)

pub next_behind : (p : Symbol → Bool) (ss rest : List Symbol) → rest ≡ drop (position_or_len p ss) ss → 1 ≤ length rest
    → (slice_split p ss ≡ take (position_or_len p ss) ss ∷ slice_split p (take (length rest - 1) (drop 1 rest))) × (length (take (length rest - 1) (drop 1 rest)) < length ss)
next_behind p ss [] e h = absurd (omega arith)
next_behind p ss (y ∷ rest) e h =
    let k : suc (length rest) - 1 ≡ length rest = omega arith in
    let all : take (suc (length rest) - 1) rest ≡ rest = rw k (take_all (length rest) rest (omega arith)) in
    rw all (line_is_first p ss y rest (sym e), omega (arith, ap length e, length-drop (position_or_len p ss) ss))

abbrev pub IsFirst : List Symbol → List Symbol → Option (Bor (List Symbol)) → Type 0
IsFirst ss front o = MatchOption o (slice_split is_feed ss ≡ front ∷ []) (λ rest. (slice_split is_feed ss ≡ front ∷ slice_split is_feed rest.now) × (length rest.now < length ss))

pub has_first : (ss front : List Symbol) (o : Option (Bor (List Symbol))) → IsFirst ss front o → (more : List (List Symbol)) × (slice_split is_feed ss ≡ front ∷ more)
has_first ss front None h = ([], h)
has_first ss front (Some rest) h = (slice_split is_feed rest.now, h.0)

-- ---- one line

all_some : {V : Type 0} (o : Option (V × List Symbol)) (v : V) → all_of o ≡ Some v → o ≡ Some (v, [])
all_some None v e = absurd cc
all_some (Some (x, [])) v e = ap (λ y. Some (y, [])) (same_Some x v e)
all_some (Some (x, s ∷ rest)) v e = absurd cc

pub line_found : (g : Grammar Line) (line : List Symbol) (x : Line) → all_of (reads g line) ≡ Some x → IsLine g line x
line_found g line x e = found g line x [] (all_some (reads g line) x e)

pub line_all : (g : Grammar Line) (line : List Symbol) (x : Line) → IsLine g line x → all_of (reads g line) ≡ Some x
line_all g line x d = ap all_of (all_found g line x [] d)

pub line_bad : (g : Grammar Line) (line : List Symbol) → all_of (reads g line) ≡ None → (x : Line) → IsLine g line x → ⊥
line_bad g line e x d = let f = line_all g line x d in cc

line_same : (g : Grammar Line) (line : List Symbol) (x y : Line) → IsLine g line x → IsLine g line y → x ≡ y
line_same g line x y d f = same_Some x y (sym (line_all g line x d) ∙ line_all g line y f)

-- ---- the walk

-- what was read, the place behind it, and what is left
pub record Walked (ls : List (List Symbol)) (xs : List Line) (at : Section) (left : List (List Symbol)) : Type 0 where
  pub read : List (List Symbol)
  pub whole : ls ≡ read ++ left
  pub count : length read ≡ length xs
  pub so_far : InPlace section.Outside read xs at

pub walk_starts : (ls : List (List Symbol)) → Walked ls [] section.Outside ls
walk_starts ls = record { read = []; whole = refl; count = refl; so_far = refl }

push_line : (p q : Section) (ls : List (List Symbol)) (xs : List Line) (l : List Symbol) (x : Line) → InPlace p ls xs q → IsLine (line_at q) l x → InPlace p (ls ++ l ∷ []) (xs ++ x ∷ []) (section_after q x)
push_line p q [] [] l x h d = (subst (λ (r : Section). IsLine (line_at r) l x) (sym h) d, ap (λ (r : Section). section_after r x) h)
push_line p q [] (y ∷ xs) l x h d = absurd h
push_line p q (m ∷ ls) [] l x h d = absurd h
push_line p q (m ∷ ls) (y ∷ xs) l x h d = (h.0, push_line (section_after p y) q ls xs l x h.1 d)

pub walk_goes_on : (ls : List (List Symbol)) (xs : List Line) (at : Section) (left : List (List Symbol)) (l : List Symbol) (more : List (List Symbol)) (x : Line) → Walked ls xs at left → left ≡ l ∷ more → all_of (reads (line_at at) l) ≡ Some x → Walked ls (xs ++ x ∷ []) (section_after at x) more
walk_goes_on ls xs at left l more x w e r = record {
  read = w.read ++ l ∷ [];
  whole = w.whole ∙ ap (λ (y : List (List Symbol)). w.read ++ y) e ∙ sym (append_assoc w.read (l ∷ []) more);
  count = omega (arith, w.count, length-append w.read (l ∷ []), length-append xs (x ∷ []));
  so_far = push_line section.Outside at w.read xs l x w.so_far (line_found (line_at at) l x r);
}

walk_bad : (ls : List (List Symbol)) (xs : List Line) (at : Section) (left : List (List Symbol)) (l : List Symbol) (more : List (List Symbol)) (opcode : Bool) → Walked ls xs at left → left ≡ l ∷ more → all_of (reads (line_at at) l) ≡ None → is_opcode_fault at l ≡ opcode → IsBadLine ls (length xs + 1) opcode
walk_bad ls xs at left l more opcode w e r k = record {
  before = w.read;
  line = l;
  behind = more;
  whole = w.whole ∙ ap (λ (y : List (List Symbol)). w.read ++ y) e;
  is = omega (arith, w.count);
  stated = xs;
  at = at;
  in_place = w.so_far;
  bad = line_bad (line_at at) l r;
  kind = k;
}

pub walk_stops : (ls : List (List Symbol)) (xs : List Line) (at : Section) (left : List (List Symbol)) (l : List Symbol) (more : List (List Symbol)) (fault : LineFault) → Walked ls xs at left → left ≡ l ∷ more → NoLine at l (length xs + 1) fault → IsLineFault ls fault
walk_stops ls xs at left l more (Syntax n) w e h = subst (IsSyntax ls) (sym h.0) (inl (walk_bad ls xs at left l more false w e h.1 h.2))
walk_stops ls xs at left l more (Opcode n) w e h = subst (IsOpcode ls) (sym h.0) (walk_bad ls xs at left l more true w e h.1 h.2)
walk_stops ls xs at left l more Memory w e h = tt

pub walk_ends : (ls : List (List Symbol)) (xs : List Line) (at : Section) → Walked ls xs at [] → InPlace section.Outside ls xs at
walk_ends ls xs at w = subst (λ (y : List (List Symbol)). InPlace section.Outside y xs at) (sym (w.whole ∙ append-nil w.read)) w.so_far

pub walk_open : (ls : List (List Symbol)) (xs : List Line) (at : Section) → Walked ls xs at [] → (at ≡ section.Outside → ⊥) → IsSyntax ls (length xs)
walk_open ls xs at w ne = inr (record { stated = xs; at = at; in_place = walk_ends ls xs at w; inside = ne; is = omega (arith, w.count, ap length w.whole, length-append w.read []) })

-- ---- only one walk

same_lines : (p q r : Section) (ls : List (List Symbol)) (xs ys : List Line) → InPlace p ls xs q → InPlace p ls ys r → (xs ≡ ys) × (q ≡ r)
same_lines p q r [] [] [] h k = (refl, sym h ∙ k)
same_lines p q r [] [] (y ∷ ys) h k = absurd k
same_lines p q r [] (x ∷ xs) ys h k = absurd h
same_lines p q r (l ∷ ls) [] ys h k = absurd h
same_lines p q r (l ∷ ls) (x ∷ xs) [] h k = absurd k
same_lines p q r (l ∷ ls) (x ∷ xs) (y ∷ ys) h k =
    let e = line_same (line_at p) l x y h.0 k.0 in
    let m = same_lines (section_after p x) q r ls xs ys h.1 (subst (λ (z : Line). InPlace (section_after p z) ls ys r) (sym e) k.1) in
    let f = m.0 in
    (cc, m.1)

-- the part before a line, and the line
split_lines : (p q : Section) (before : List (List Symbol)) (l : List Symbol) (behind : List (List Symbol)) (xs : List Line) → InPlace p (before ++ l ∷ behind) xs q → (ys : List Line) × (r : Section) × (x : Line) × InPlace p before ys r × IsLine (line_at r) l x
split_lines p q [] l behind [] h = absurd h
split_lines p q [] l behind (x ∷ xs) h = ([], p, x, refl, h.0)
split_lines p q (m ∷ before) l behind [] h = absurd h
split_lines p q (m ∷ before) l behind (y ∷ xs) h =
    let s = split_lines (section_after p y) q before l behind xs h.1 in
    (y ∷ s.0, s.1, s.2, (h.0, s.3), s.4)

no_bad_in : (ls : List (List Symbol)) (xs : List Line) (q : Section) (number : ℕ) (opcode : Bool) → InPlace section.Outside ls xs q → IsBadLine ls number opcode → ⊥
no_bad_in ls xs q number opcode h b =
    let s = split_lines section.Outside q b.before b.line b.behind xs (subst (λ (y : List (List Symbol)). InPlace section.Outside y xs q) b.whole h) in
    let e = (same_lines section.Outside s.1 b.at b.before s.0 b.stated s.3 b.in_place).1 in
    b.bad s.2 (subst (λ (r : Section). IsLine (line_at r) b.line s.2) e s.4)

no_bad : (ls : List (List Symbol)) (xs : List Line) (number : ℕ) (opcode : Bool) → AreLines ls xs → IsBadLine ls number opcode → ⊥
no_bad ls xs number opcode h b = no_bad_in ls xs section.Outside number opcode h b

-- lines that are a module have no fault
pub no_line_fault : (ls : List (List Symbol)) (xs : List Line) (fault : LineFault) → AreLines ls xs → IsLineFault ls fault → fault ≡ Memory
no_line_fault ls xs (Syntax n) h (inl b) = absurd (no_bad ls xs n false h b)
no_line_fault ls xs (Syntax n) h (inr o) = absurd (o.inside (same_lines section.Outside o.at section.Outside ls o.stated xs o.in_place h).1)
no_line_fault ls xs (Opcode n) h b = absurd (no_bad ls xs n true h b)
no_line_fault ls xs Memory h b = refl

pub lines_faultless : (ls : List (List Symbol)) (xs : List Line) (fault : LineFault) → AreLines ls xs → HaveFault ls fault → ⊥
lines_faultless ls xs (Syntax n) h (inl b) = no_bad ls xs n false h b
lines_faultless ls xs (Syntax n) h (inr o) = o.inside (same_lines section.Outside o.at section.Outside ls o.stated xs o.in_place h).1
lines_faultless ls xs (Opcode n) h b = no_bad ls xs n true h b
lines_faultless ls xs Memory h b = b

pub same_all : (ls : List (List Symbol)) (xs ys : List Line) → AreLines ls xs → AreLines ls ys → xs ≡ ys
same_all ls xs ys h k = (same_lines section.Outside section.Outside section.Outside ls xs ys h k).0

-- ---- only one fault

-- two lines that are the first bad one are one
same_bad : (p q r : Section) (b1 b2 : List (List Symbol)) (l1 l2 : List Symbol) (r1 r2 : List (List Symbol)) (xs ys : List Line) → InPlace p b1 xs q → InPlace p b2 ys r
    → ((x : Line) → IsLine (line_at q) l1 x → ⊥) → ((x : Line) → IsLine (line_at r) l2 x → ⊥) → b1 ++ l1 ∷ r1 ≡ b2 ++ l2 ∷ r2 → (length b1 ≡ length b2) × (q ≡ r) × (l1 ≡ l2)
same_bad p q r [] [] l1 l2 r1 r2 [] [] h k n m e = let s : l1 ≡ l2 = cc in (refl, sym h ∙ k, s)
same_bad p q r [] [] l1 l2 r1 r2 [] (y ∷ ys) h k n m e = absurd k
same_bad p q r [] [] l1 l2 r1 r2 (x ∷ xs) ys h k n m e = absurd h
same_bad p q r [] (d ∷ b2) l1 l2 r1 r2 [] [] h k n m e = absurd k
same_bad p q r [] (d ∷ b2) l1 l2 r1 r2 [] (y ∷ ys) h k n m e =
    let s : d ≡ l1 = cc in
    absurd (n y (subst (λ (z : Section). IsLine (line_at z) l1 y) h (subst (λ (z : List Symbol). IsLine (line_at p) z y) s k.0)))
same_bad p q r [] (d ∷ b2) l1 l2 r1 r2 (x ∷ xs) ys h k n m e = absurd h
same_bad p q r (c ∷ b1) [] l1 l2 r1 r2 [] ys h k n m e = absurd h
same_bad p q r (c ∷ b1) [] l1 l2 r1 r2 (x ∷ xs) [] h k n m e =
    let s : c ≡ l2 = cc in
    absurd (m x (subst (λ (z : Section). IsLine (line_at z) l2 x) k (subst (λ (z : List Symbol). IsLine (line_at p) z x) s h.0)))
same_bad p q r (c ∷ b1) [] l1 l2 r1 r2 (x ∷ xs) (y ∷ ys) h k n m e = absurd k
same_bad p q r (c ∷ b1) (d ∷ b2) l1 l2 r1 r2 [] ys h k n m e = absurd h
same_bad p q r (c ∷ b1) (d ∷ b2) l1 l2 r1 r2 (x ∷ xs) [] h k n m e = absurd k
same_bad p q r (c ∷ b1) (d ∷ b2) l1 l2 r1 r2 (x ∷ xs) (y ∷ ys) h k n m e =
    let s : d ≡ c = cc in
    let t : b1 ++ l1 ∷ r1 ≡ b2 ++ l2 ∷ r2 = cc in
    let f = line_same (line_at p) c x y h.0 (subst (λ (z : List Symbol). IsLine (line_at p) z y) s k.0) in
    let g = same_bad (section_after p x) q r b1 b2 l1 l2 r1 r2 xs ys h.1 (subst (λ (z : Line). InPlace (section_after p z) b2 ys r) (sym f) k.1) n m t in
    (ap suc g.0, g.1, g.2)

one_bad : (ls : List (List Symbol)) (n m : ℕ) (o p : Bool) → IsBadLine ls n o → IsBadLine ls m p → (n ≡ m) × (o ≡ p)
one_bad ls n m o p b c =
    let s = same_bad section.Outside b.at c.at b.before c.before b.line c.line b.behind c.behind b.stated c.stated b.in_place c.in_place b.bad c.bad (sym b.whole ∙ c.whole) in
    let k : is_opcode_fault b.at b.line ≡ is_opcode_fault c.at c.line = λ i. is_opcode_fault (s.1 i) (s.2 i) in
    (omega (arith, b.is, c.is, s.0), sym b.kind ∙ k ∙ c.kind)

pub one_fault : (ls : List (List Symbol)) (fault e : LineFault) → HaveFault ls fault → IsLineFault ls e → IsOrMemory fault e
one_fault ls (Syntax n) (Syntax m) (inl b) (inl c) = ap (λ (k : ℕ). Syntax k) (one_bad ls m n false false c b).0
one_fault ls (Syntax n) (Syntax m) (inl b) (inr o) = absurd (no_bad_in ls o.stated o.at n false o.in_place b)
one_fault ls (Syntax n) (Syntax m) (inr o) (inl c) = absurd (no_bad_in ls o.stated o.at m false o.in_place c)
one_fault ls (Syntax n) (Syntax m) (inr o) (inr w) = ap (λ (k : ℕ). Syntax k) (w.is ∙ sym o.is)
one_fault ls (Syntax n) (Opcode m) (inl b) c = let f = (one_bad ls n m false true b c).1 in absurd cc
one_fault ls (Syntax n) (Opcode m) (inr o) c = absurd (no_bad_in ls o.stated o.at m true o.in_place c)
one_fault ls (Opcode n) (Syntax m) b (inl c) = let f = (one_bad ls n m true false b c).1 in absurd cc
one_fault ls (Opcode n) (Syntax m) b (inr o) = absurd (no_bad_in ls o.stated o.at n true o.in_place b)
one_fault ls (Opcode n) (Opcode m) b c = ap (λ (k : ℕ). Opcode k) (one_bad ls m n true true c b).0
one_fault ls Memory e h k = absurd h
one_fault ls (Syntax n) Memory h k = tt
one_fault ls (Opcode n) Memory h k = tt

-- ---- how many lines there are

onto_few : (s : Symbol) (parts : List (List Symbol)) (n : ℕ) → length parts ≤ n + 1 → length (onto_first s parts) ≤ n + 1
onto_few s [] n h = omega arith
onto_few s (part ∷ parts) n h = h

split_at_few : (t : Bool) (s : Symbol) (parts : List (List Symbol)) (n : ℕ) → length parts ≤ n + 1 → length (cond t ([] ∷ parts) (onto_first s parts)) ≤ suc n + 1
split_at_few true s parts n h = omega (arith, h)
split_at_few false s parts n h = omega (arith, onto_few s parts n h)

split_few : (p : Symbol → Bool) (ss : List Symbol) → length (slice_split p ss) ≤ length ss + 1
split_few p [] = omega arith
split_few p (s ∷ ss) = split_at_few (p s) s (slice_split p ss) (length ss) (split_few p ss)

counted : (p q : Section) (ls : List (List Symbol)) (xs : List Line) → InPlace p ls xs q → length ls ≡ length xs
counted p q [] [] h = refl
counted p q [] (x ∷ xs) h = absurd h
counted p q (l ∷ ls) [] h = absurd h
counted p q (l ∷ ls) (x ∷ xs) h = ap suc (counted (section_after p x) q ls xs h.1)

lines_few : (text : List ℕ) (ts : List Token) → length (lines_of text ts) ≤ length ts + 1
lines_few text ts = omega (arith, split_few is_feed (map (symbol_of text) ts), length-map {A = Token} {B = Symbol})

pub stated_few : (text : List ℕ) (ts : List Token) (xs : List Line) → AreLines (lines_of text ts) xs → length xs ≤ length ts + 1
stated_few text ts xs h = omega (arith, counted section.Outside section.Outside (lines_of text ts) xs h, lines_few text ts)

bad_within : (ls : List (List Symbol)) (n : ℕ) (opcode : Bool) → IsBadLine ls n opcode → n ≤ length ls
bad_within ls n opcode b = omega (arith, b.is, ap length b.whole, length-append b.before (b.line ∷ b.behind))

pub fault_few : (text : List ℕ) (ts : List Token) (fault : LineFault) → IsLineFault (lines_of text ts) fault → FaultWithin (length ts + 1) fault
fault_few text ts (Syntax n) (inl b) = omega (arith, bad_within (lines_of text ts) n false b, lines_few text ts)
fault_few text ts (Syntax n) (inr o) = omega (arith, o.is, lines_few text ts)
fault_few text ts (Opcode n) b = omega (arith, bad_within (lines_of text ts) n true b, lines_few text ts)
fault_few text ts Memory b = tt
