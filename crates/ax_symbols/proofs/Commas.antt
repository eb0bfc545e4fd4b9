-- Pieces parted by commas, as a loop reads them.
use Rattle.std.proofs.Common.{◌≡◌, ℕ, zero, suc, ◌<◌, List, [], ◌∷◌, ◌++◌, length, Option, Some, None, refl, sym, ap, ◌∙◌, arith, append_assoc}
use Rattle.std.specs.Option.{option_map}
use Rattle.ax_symbols.specs.declared.symbol.Symbol.{Symbol}
use Rattle.ax_symbols.specs.Pieces.{strip}
use Rattle.ax_symbols.specs.Grammar.{Grammar, comma, and_more, listed, reads}
use Rattle.ax_symbols.proofs.Exact.{strip_splits, lengths, found, shrinks}

-- what was read before, and what is still read
abbrev pub with_front : {A : Type 0} → List A → Option (List A × List Symbol) → Option (List A × List Symbol)
with_front front o = option_map (λ x. (front ++ x.0, x.1)) o

-- so much of the list is read, and the rest with enough to go on
pub record Listing {A : Type 0} (item : Grammar A) (front : List A) (rest : List Symbol) (total : Option (List A × List Symbol)) : Type 0 where
  pub left : ℕ
  pub enough : length rest < left
  pub so_far : with_front front (listed (reads item) left rest) ≡ total

nothing : {A : Type 0} (o : Option (List A × List Symbol)) → with_front [] o ≡ o
nothing None = refl
nothing (Some x) = refl

regroup : {A : Type 0} (front : List A) (a : A) (o : Option (List A × List Symbol)) → with_front front (and_more a o) ≡ with_front (front ++ a ∷ []) o
regroup front a None = refl
regroup {A} front a (Some x) = ap (λ (y : List A). Some (y, x.1)) (sym (append_assoc front (a ∷ []) x.0))

pub list_starts : {A : Type 0} (item : Grammar A) (line : List Symbol) → Listing item [] line (listed (reads item) (suc (length line)) line)
list_starts item line = record { left = suc (length line); enough = omega arith; so_far = nothing (listed (reads item) (suc (length line)) line) }

fails_at : {A : Type 0} (item : Grammar A) (front : List A) (rest : List Symbol) (total : Option (List A × List Symbol)) (n : ℕ) → length rest < n → with_front front (listed (reads item) n rest) ≡ total → reads item rest ≡ None → total ≡ None
fails_at item front rest total zero lt so e = absurd (omega arith)
fails_at item front rest total (suc n) lt so e = sym so ∙ rw e refl

pub list_fails : {A : Type 0} (item : Grammar A) (front : List A) (rest : List Symbol) (total : Option (List A × List Symbol)) → Listing item front rest total → reads item rest ≡ None → total ≡ None
list_fails item front rest total l e = fails_at item front rest total l.left l.enough l.so_far e

ends_at : {A : Type 0} (item : Grammar A) (front : List A) (rest : List Symbol) (total : Option (List A × List Symbol)) (n : ℕ) (a : A) (behind : List Symbol) → length rest < n → with_front front (listed (reads item) n rest) ≡ total → reads item rest ≡ Some (a, behind) → strip comma behind ≡ None → total ≡ Some (front ++ a ∷ [], behind)
ends_at item front rest total zero a behind lt so e h = absurd (omega arith)
ends_at item front rest total (suc n) a behind lt so e h = sym so ∙ rw (e, h) refl

pub list_ends : {A : Type 0} (item : Grammar A) (front : List A) (rest : List Symbol) (total : Option (List A × List Symbol)) (a : A) (behind : List Symbol) → Listing item front rest total → reads item rest ≡ Some (a, behind) → strip comma behind ≡ None → total ≡ Some (front ++ a ∷ [], behind)
list_ends item front rest total a behind l e h = ends_at item front rest total l.left a behind l.enough l.so_far e h

step : {A : Type 0} (front : List A) (item : List Symbol → Option (A × List Symbol)) (n : ℕ) (rest : List Symbol) (a : A) (behind next : List Symbol) → item rest ≡ Some (a, behind) → strip comma behind ≡ Some next → with_front front (listed item (suc n) rest) ≡ with_front front (and_more a (listed item n next))
step front item n rest a behind next e h = rw (e, h) refl

goes_at : {A : Type 0} (item : Grammar A) (front : List A) (rest : List Symbol) (total : Option (List A × List Symbol)) (n : ℕ) (a : A) (behind next : List Symbol) → length rest < n → with_front front (listed (reads item) n rest) ≡ total → reads item rest ≡ Some (a, behind) → strip comma behind ≡ Some next → Listing item (front ++ a ∷ []) next total
goes_at item front rest total zero a behind next lt so e h = absurd (omega arith)
goes_at item front rest total (suc n) a behind next lt so e h = record {
  left = n;
  enough = omega (arith, shrinks item rest a behind (found item rest a behind e), lengths comma behind next (strip_splits comma behind next h));
  so_far = sym (regroup front a (listed (reads item) n next)) ∙ sym (step front (reads item) n rest a behind next e h) ∙ so;
}

pub list_goes_on : {A : Type 0} (item : Grammar A) (front : List A) (rest : List Symbol) (total : Option (List A × List Symbol)) (a : A) (behind next : List Symbol) → Listing item front rest total → reads item rest ≡ Some (a, behind) → strip comma behind ≡ Some next → Listing item (front ++ a ∷ []) next total
list_goes_on item front rest total a behind next l e h = goes_at item front rest total l.left a behind next l.enough l.so_far e h

pub list_smaller : {A : Type 0} (item : Grammar A) (rest : List Symbol) (a : A) (behind next : List Symbol) → reads item rest ≡ Some (a, behind) → strip comma behind ≡ Some next → length next < length rest
list_smaller item rest a behind next e h = omega (arith, shrinks item rest a behind (found item rest a behind e), lengths comma behind next (strip_splits comma behind next h))
