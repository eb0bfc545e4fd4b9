-- Names that are declared in turn.
use Rattle.std.proofs.Common.{◌≡◌, ℕ, Bool, true, false, List, [], ◌∷◌, ◌++◌, refl, sym, ap, ◌∙◌, append_assoc}
use Rattle.std.proofs.lemmas.List.{append-nil}
use Rattle.std.specs.Prelude.{◌||◌}
use Rattle.ax_scope.specs.NameTable.{is_among}
use Rattle.ax_scope.specs.Faults.{again}

or_assoc : (a b c : Bool) → (a || (b || c)) ≡ ((a || b) || c)
or_assoc true b c = refl
or_assoc false b c = refl

pub again_append : (old xs ys : List (List ℕ)) → again old (xs ++ ys) ≡ (again old xs || again (old ++ xs) ys)
again_append old [] ys = ap (λ (o : List (List ℕ)). again o ys) (sym (append-nil old))
again_append old (x ∷ xs) ys =
    ap (λ b. is_among x old || b) (again_append (old ++ x ∷ []) xs ys ∙ ap (λ (o : List (List ℕ)). again (old ++ x ∷ []) xs || again o ys) (append_assoc old (x ∷ []) xs))
    ∙ or_assoc (is_among x old) (again (old ++ x ∷ []) xs) (again (old ++ x ∷ xs) ys)
