-- Reading gives what a grammar derives, and all that it derives.
use Rattle.std.proofs.Common.{◌≡◌, ℕ, zero, suc, ◌+◌, ◌<◌, ◌≤◌, arith, Bool, true, false, cond, List, [], ◌∷◌, ◌++◌, length, Option, Some, None, refl, sym, ap, subst, ◌∙◌, inl, inr}
use Rattle.std.specs.Prelude.{◌⊎◌}
use Rattle.std.specs.Option.{option_and_then, option_map}
use Rattle.std.proofs.lemmas.Bool.{cases_Bool}
use Rattle.std.proofs.lemmas.List.{length-append, length-map}
use Rattle.std.proofs.lemmas.Option.{none-some, same_Some, cond_some}
use Rattle.ax_symbols.specs.declared.symbol.Sign.{Sign}
use Rattle.ax_symbols.specs.declared.symbol.Symbol.{Symbol}
use Rattle.ax_symbols.specs.Signs.{same_sign}
use Rattle.ax_module.specs.declared.types.Ty.{Ty}
use Rattle.ax_module.specs.declared.types.Ty.TheVariants as ty
use Rattle.ax_symbols.specs.Pieces.{strip, one_at, sign_at, pass_over, type_at, closed, is_greater, opens_vector, simple_type_of, is_tail}
use Rattle.ax_symbols.specs.Grammar.{Grammar, gives, then, signs, one, passed, typed, when, option, by, list, tail, ends, whole, none, signs_of, comma, Splits, Listed, last, more, Derives, ended, either, and_more, listed, reads}
use Rattle.ax_symbols.proofs.SameSign.{decides_sign}
use Rattle.ax_symbols.proofs.Passing.{items_shrink}

-- ---- pieces

split_more : (ss : List Sign) (t : Symbol) (line rest : List Symbol) → Splits ss line rest → Splits (t.sign ∷ ss) (t ∷ line) rest
split_more ss t line rest s = record { front = t ∷ s.front; whole = ap (λ (x : List Symbol). t ∷ x) s.whole; as_signs = ap (λ (x : List Sign). t.sign ∷ x) s.as_signs }

pub strip_splits : (ss : List Sign) (line rest : List Symbol) → strip ss line ≡ Some rest → Splits ss line rest
strip_splits [] line rest e = record { front = []; whole = cc; as_signs = refl }
strip_splits (s ∷ ss) [] rest e = absurd cc
strip_splits (s ∷ ss) (t ∷ line) rest e =
    elim (cases_Bool (same_sign t.sign s)) [
      | inl good ↦ subst (λ (x : Sign). Splits (x ∷ ss) (t ∷ line) rest) ((decides_sign t.sign s).0 good) (split_more ss t line rest (strip_splits ss line rest (rw good at e)))
      | inr bad ↦ let f = rw bad at e in absurd cc
    ]

strip_append : (ss : List Sign) (front rest : List Symbol) → signs_of front ≡ ss → strip ss (front ++ rest) ≡ Some rest
strip_append [] [] rest e = refl
strip_append [] (t ∷ front) rest e = absurd cc
strip_append (s ∷ ss) [] rest e = absurd cc
strip_append (s ∷ ss) (t ∷ front) rest e = rw ((decides_sign t.sign s).1 cc) (strip_append ss front rest cc)

strip_again : (ss : List Sign) (line rest : List Symbol) → Splits ss line rest → strip ss line ≡ Some rest
strip_again ss line rest s = ap (strip ss) s.whole ∙ strip_append ss s.front rest s.as_signs

pub lengths : (ss : List Sign) (line rest : List Symbol) → Splits ss line rest → length line ≡ length ss + length rest
lengths ss line rest s = omega (arith, ap length s.whole, length-append s.front rest, length-map {A = Symbol} {B = Sign}, ap length s.as_signs)

-- ---- steps

bind_some : {A B : Type 0} (o : Option A) (f : A → Option B) (y : B) → option_and_then f o ≡ Some y → (x : A) × (o ≡ Some x) × (f x ≡ Some y)
bind_some None f y e = absurd cc
bind_some (Some x) f y e = (x, refl, e)

option_mapped : {A B : Type 0} (f : A → B) (o : Option A) (y : B) → option_map f o ≡ Some y → (x : A) × (o ≡ Some x) × (f x ≡ y)
option_mapped f None y e = absurd cc
option_mapped f (Some x) y e = (x, refl, same_Some (f x) y e)

one_some : {A : Type 0} (of : Symbol → Option A) (line : List Symbol) (v : A) (rest : List Symbol) → one_at of line ≡ Some (v, rest) → (s : Symbol) × (line ≡ s ∷ rest) × (of s ≡ Some v)
one_some of [] v rest e = absurd cc
one_some {A} of (s ∷ line) v rest e =
    let m = option_mapped (λ a. (a, line)) (of s) (v, rest) e in
    (s, ap (λ (y : A × List Symbol). s ∷ y.1) m.2, m.1 ∙ ap (λ (y : A × List Symbol). Some y.0) m.2)

ended_some : (line : List Symbol) (v : Unit {0}) (rest : List Symbol) → ended line ≡ Some (v, rest) → (line ≡ []) × (rest ≡ [])
ended_some [] v rest e = (refl, sym (ap (λ (y : Unit {0} × List Symbol). y.1) (same_Some (tt, []) (v, rest) e)))
ended_some (s ∷ line) v rest e = absurd cc

no_strip : (ss : List Sign) (line : List Symbol) → strip ss line ≡ None → (rest : List Symbol) → Splits ss line rest → ⊥
no_strip ss line e rest s = none-some rest (sym e ∙ strip_again ss line rest s)

strip_none : (ss : List Sign) (line : List Symbol) (o : Option (List Symbol)) → strip ss line ≡ o → ((rest : List Symbol) → Splits ss line rest → ⊥) → strip ss line ≡ None
strip_none ss line None e h = e
strip_none ss line (Some rest) e h = absurd (h rest (strip_splits ss line rest e))

either_ways : {V : Type 0} (o : Option (List Symbol)) (f : List Symbol → Option V) (p : Option V) (v : V) → either o f p ≡ Some v → ((rest : List Symbol) × (o ≡ Some rest) × (f rest ≡ Some v)) ⊎ ((o ≡ None) × (p ≡ Some v))
either_ways None f p v e = inr (refl, e)
either_ways (Some rest) f p v e = inl (rest, refl, e)

some_pair : {A B : Type 0} (a : A) (b : B) (x : A × B) → (a, b) ≡ x → (a ≡ x.0) × (b ≡ x.1)
some_pair {A} {B} a b x e = (ap (λ (y : A × B). y.0) e, ap (λ (y : A × B). y.1) e)

module _ {A : Type 0} (item : List Symbol → Option (A × List Symbol)) (Item : List Symbol → A → List Symbol → Type 0) where
  abbrev Sound : Type 0
  Sound = (line : List Symbol) (a : A) (rest : List Symbol) → item line ≡ Some (a, rest) → Item line a rest

  abbrev Complete : Type 0
  Complete = (line : List Symbol) (a : A) (rest : List Symbol) → Item line a rest → item line ≡ Some (a, rest)

  abbrev Shrinks : Type 0
  Shrinks = (line : List Symbol) (a : A) (rest : List Symbol) → Item line a rest → length rest ≤ length line

  listed_sound : Sound → (n : ℕ) (line : List Symbol) (vs : List A) (rest : List Symbol) → listed item n line ≡ Some (vs, rest) → Listed Item line vs rest
  listed_sound sound zero line vs rest e = absurd cc
  listed_sound sound (suc n) line vs rest e =
      let b = bind_some (item line) (λ x. either (strip comma x.1) (λ next. and_more x.0 (listed item n next)) (Some (x.0 ∷ [], x.1))) (vs, rest) e in
      let first = sound line b.0.0 b.0.1 b.1 in
      elim (either_ways (strip comma b.0.1) (λ next. and_more b.0.0 (listed item n next)) (Some (b.0.0 ∷ [], b.0.1)) (vs, rest) b.2) [
        | inl w ↦
            let m = option_mapped (λ (x : List A × List Symbol). (b.0.0 ∷ x.0, x.1)) (listed item n w.0) (vs, rest) w.2 in
            subst (λ (y : List A × List Symbol). Listed Item line y.0 y.1) m.2 (more first w.1 (listed_sound sound n w.0 m.0.0 m.0.1 m.1))
        | inr w ↦ subst (λ (y : List A × List Symbol). Listed Item line y.0 y.1) (same_Some (b.0.0 ∷ [], b.0.1) (vs, rest) w.1) (last first w.0)
      ]

  listed_complete : Complete → Shrinks → (n : ℕ) (line : List Symbol) (vs : List A) (rest : List Symbol) → length line < n → Listed Item line vs rest → listed item n line ≡ Some (vs, rest)
  listed_complete complete shrinks zero line vs rest lt h = absurd (omega arith)
  listed_complete complete shrinks (suc n) line vs rest lt (last {a = a} i e) = rw (complete line a rest i, e) refl
  listed_complete complete shrinks (suc n) line vs rest lt (more {behind = behind} {next = next} {a = a} {others = others} i at h) =
      let shorter = shrinks line a behind i in
      let s = strip_splits comma behind next at in
      rw (complete line a behind i, at, listed_complete complete shrinks n next others rest (omega (arith, shorter, lengths comma behind next s)) h) refl

  listed_shrinks : Shrinks → (line : List Symbol) (vs : List A) (rest : List Symbol) → Listed Item line vs rest → length rest ≤ length line
  listed_shrinks shrinks line vs rest (last {a = a} i e) = shrinks line a rest i
  listed_shrinks shrinks line vs rest (more {behind = behind} {next = next} {a = a} {others = others} i at h) =
      omega (arith, shrinks line a behind i, lengths comma behind next (strip_splits comma behind next at), listed_shrinks shrinks next others rest h)

-- ---- types

closed_some : (o : Option (Ty × List Symbol)) (t : Ty) (rest : List Symbol) → closed o ≡ Some (t, rest) → (u : Ty) × (s : Symbol) × (o ≡ Some (u, s ∷ rest))
closed_some None t rest e = absurd cc
closed_some (Some (u, [])) t rest e = absurd cc
closed_some (Some (u, s ∷ others)) t rest e =
    let c = cond_some (is_greater s.sign) (ty.Vector, others) (t, rest) e in
    let same : others ≡ rest = ap (λ (y : Ty × List Symbol). y.1) c.1 in
    (u, s, ap (λ (r : List Symbol). Some (u, s ∷ r)) same)

one_shrinks : {A : Type 0} (of : Symbol → Option A) (line : List Symbol) (v : A) (rest : List Symbol) → one_at of line ≡ Some (v, rest) → length rest ≤ length line
one_shrinks of line v rest e = let o = one_some of line v rest e in omega (arith, ap length o.1)

vector_shrinks : (a b c : Symbol) (line : List Symbol) (t : Ty) (rest : List Symbol) (test : Bool) → ((u : Ty) (others : List Symbol) → type_at line ≡ Some (u, others) → length others ≤ length line) → cond test (closed (type_at line)) (one_at simple_type_of (a ∷ b ∷ c ∷ line)) ≡ Some (t, rest) → length rest ≤ length (a ∷ b ∷ c ∷ line)
vector_shrinks a b c line t rest true h e =
    let k = closed_some (type_at line) t rest e in
    omega (arith, h k.0 (k.1 ∷ rest) k.2)
vector_shrinks a b c line t rest false h e = one_shrinks simple_type_of (a ∷ b ∷ c ∷ line) t rest e

type_shrinks : (line : List Symbol) (t : Ty) (rest : List Symbol) → type_at line ≡ Some (t, rest) → length rest ≤ length line
type_shrinks [] t rest e = absurd cc
type_shrinks (a ∷ []) t rest e = one_shrinks simple_type_of (a ∷ []) t rest e
type_shrinks (a ∷ b ∷ []) t rest e = one_shrinks simple_type_of (a ∷ b ∷ []) t rest e
type_shrinks (a ∷ b ∷ c ∷ line) t rest e = vector_shrinks a b c line t rest (opens_vector a.sign b.sign c.sign) (type_shrinks line) e

-- ---- the theorem

pub found : {V : Type 0} (g : Grammar V) (line : List Symbol) (v : V) (rest : List Symbol) → reads g line ≡ Some (v, rest) → Derives g line v rest
found (gives x) line v rest e = let p = some_pair x line (v, rest) (same_Some (x, line) (v, rest) e) in (p.1, sym p.0)
found (then p g) line v rest e =
    let b = bind_some (reads p line) (λ x. reads (g x.0) x.1) (v, rest) e in
    (b.0.0, b.0.1, found p line b.0.0 b.0.1 b.1, found (g b.0.0) b.0.1 v rest b.2)
found (signs ss) line v rest e =
    let m = option_mapped (λ (r : List Symbol). (tt {0}, r)) (strip ss line) (v, rest) e in
    strip_splits ss line rest (m.1 ∙ ap (λ (y : Unit {0} × List Symbol). Some y.1) m.2)
found (one of) line v rest e = one_some of line v rest e
found (passed k) line v rest e = sym (some_pair tt (pass_over k line) (v, rest) (same_Some (tt, pass_over k line) (v, rest) e)).1
found typed line v rest e = e
found (when test) line v rest e =
    let c = cond_some test (tt {0}, line) (v, rest) e in
    (c.0, (some_pair (tt {0}) line (v, rest) c.1).1)
found (option ss g h) line v rest e =
    elim (either_ways (strip ss line) (reads g) (reads h line) (v, rest) e) [
      | inl w ↦ inl (w.0, strip_splits ss line w.0 w.1, found g w.0 v rest w.2)
      | inr w ↦ inr (no_strip ss line w.0, found h line v rest w.1)
    ]
found (by g) line v rest e = found (g (sign_at line 0) (sign_at line 1)) line v rest e
found (list item) line v rest e = listed_sound (reads item) (Derives item) (found item) (suc (length line)) line v rest e
found tail line v rest e =
    let c = cond_some (is_tail line) (tt {0}, []) (v, rest) e in
    (c.0, sym (some_pair (tt {0}) [] (v, rest) c.1).1)
found ends line v rest e = ended_some line v rest e
found whole line v rest e = sym (some_pair tt [] (v, rest) (same_Some (tt, []) (v, rest) e)).1
found none line v rest e = absurd cc

pub shrinks : {V : Type 0} (g : Grammar V) (line : List Symbol) (v : V) (rest : List Symbol) → Derives g line v rest → length rest ≤ length line
shrinks (gives x) line v rest d = omega (arith, ap length d.0)
shrinks (then p g) line v rest (a, middle, d, f) = omega (arith, shrinks p line a middle d, shrinks (g a) middle v rest f)
shrinks (signs ss) line v rest d = omega (arith, lengths ss line rest d)
shrinks (one of) line v rest (s, e, h) = omega (arith, ap length e)
shrinks (passed k) line v rest d = omega (arith, ap length d, items_shrink k 0 line)
shrinks typed line v rest d = type_shrinks line v rest d
shrinks (when test) line v rest d = omega (arith, ap length d.1)
shrinks (option ss g h) line v rest (inl (behind, s, d)) = omega (arith, lengths ss line behind s, shrinks g behind v rest d)
shrinks (option ss g h) line v rest (inr (not, d)) = shrinks h line v rest d
shrinks (by g) line v rest d = shrinks (g (sign_at line 0) (sign_at line 1)) line v rest d
shrinks (list item) line v rest d = listed_shrinks (reads item) (Derives item) (shrinks item) line v rest d
shrinks tail line v rest d = omega (arith, ap length d.1)
shrinks ends line v rest d = omega (arith, ap length d.1)
shrinks whole line v rest d = omega (arith, ap length d)
shrinks none line v rest d = absurd d

pub all_found : {V : Type 0} (g : Grammar V) (line : List Symbol) (v : V) (rest : List Symbol) → Derives g line v rest → reads g line ≡ Some (v, rest)
all_found (gives x) line v rest (e, h) = rw (e, h) refl
all_found (then p g) line v rest (a, middle, d, f) = rw (all_found p line a middle d) (all_found (g a) middle v rest f)
all_found (signs ss) line v rest d = rw (strip_again ss line rest d) refl
all_found (one of) line v rest (s, e, h) = rw (e, h) refl
all_found (passed k) line v rest d = rw d refl
all_found typed line v rest d = d
all_found (when test) line v rest (t, e) = rw (t, e) refl
all_found (option ss g h) line v rest (inl (behind, s, d)) = rw (strip_again ss line behind s) (all_found g behind v rest d)
all_found (option ss g h) line v rest (inr (not, d)) = rw (strip_none ss line (strip ss line) refl not) (all_found h line v rest d)
all_found (by g) line v rest d = all_found (g (sign_at line 0) (sign_at line 1)) line v rest d
all_found (list item) line v rest d = listed_complete (reads item) (Derives item) (all_found item) (shrinks item) (suc (length line)) line v rest (omega arith) d
all_found tail line v rest (t, e) = rw (t, e) refl
all_found ends line v rest (n, e) = rw (n, e) refl
all_found whole line v rest d = rw d refl
all_found none line v rest d = absurd d
