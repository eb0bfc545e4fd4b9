-- Runs that are found from left to right.
use Rattle.std.proofs.Common.{◌≡◌, ℕ, ◌+◌, ◌<◌, true, false, List, [], ◌∷◌, ◌++◌, map, length, get_or, drop, arith, ap, ◌∙◌, sym, append_assoc}
use Rattle.std.proofs.lemmas.List.{at_drop_more}
use Rattle.std.proofs.lemmas.Grind.{common_steps}
use Rattle.ax_print.specs.declared.tokens.Token.{Token}
use Rattle.ax_print.specs.Lines.{is_same, Run, joined, runs_of, run_text, lines_from}

-- one more of the same token makes the run longer
pub joined_same : (t u : Token) (n : ℕ) (runs : List Run) → is_same t u ≡ true → joined t n (joined u 1 runs) ≡ joined t (n + 1) runs
joined_same t u n [] same = grind (arith, common_steps)
joined_same t u n (r ∷ runs) same = grind (arith, common_steps)

-- another token ends the run
pub joined_other : (t u : Token) (n : ℕ) (runs : List Run) → is_same t u ≡ false → joined t n (joined u 1 runs) ≡ (t, n) ∷ joined u 1 runs
joined_other t u n [] other = grind (arith, common_steps)
joined_other t u n (r ∷ runs) other = grind (arith, common_steps)

module _ {E : Type 0} (f : E → Token) (xs : List E) (i : ℕ) (x : E) where
  -- the event at an index begins the runs of what is left there
  runs_at : i < length xs → x ≡ get_or xs i x → runs_of (map f (drop i xs)) ≡ joined (f x) 1 (runs_of (map f (drop (i + 1) xs)))
  runs_at inside is =
      at_drop_more (λ ys. runs_of (map f ys)) xs i x inside ∙ ap (λ y. joined (f y) 1 (runs_of (map f (drop (i + 1) xs)))) (sym is)

  module _ (u : Token) (inside : i < length xs) (is : x ≡ get_or xs i x) (e : u ≡ f x) (word out out' : List ℕ) (k k' n n' : ℕ) (t t' : Token) where
    joined_at : joined t n (runs_of (map f (drop i xs))) ≡ joined t n (joined u 1 (runs_of (map f (drop (i + 1) xs))))
    joined_at = ap (joined t n) (runs_at inside is ∙ ap (λ v. joined v 1 (runs_of (map f (drop (i + 1) xs)))) (sym e))

    -- a step of the walk where the token is that of the run so far, and where it is another
    pub step_same :
        is_same t u ≡ true → out' ≡ out → k' ≡ k → n' ≡ n + 1 → t' ≡ t
        → out' ++ lines_from word k' (joined t' n' (runs_of (map f (drop (i + 1) xs)))) ≡ out ++ lines_from word k (joined t n (runs_of (map f (drop i xs))))
    step_same same eo ek en et =
        rw (eo, ek, en, et) (ap (λ runs. out ++ lines_from word k runs) (sym (joined_at ∙ joined_same t u n _ same)))

    pub step_other :
        is_same t u ≡ false → out' ≡ out ++ run_text word k t n → k' ≡ k + 1 → n' ≡ 1 → t' ≡ u
        → out' ++ lines_from word k' (joined t' n' (runs_of (map f (drop (i + 1) xs)))) ≡ out ++ lines_from word k (joined t n (runs_of (map f (drop i xs))))
    step_other other eo ek en et =
        rw (eo, ek, en, et)
        (append_assoc out (run_text word k t n) _ ∙ ap (λ runs. out ++ lines_from word k runs) (sym (joined_at ∙ joined_other t u n _ other)))
