-- Names that are added to a scope in turn.
use Rattle.std.proofs.Common.{◌≡◌, ℕ, List, [], ◌∷◌, ◌++◌, refl}
use Rattle.ax_scope.specs.declared.meaning.Meaning.{Meaning}
use Rattle.ax_scope.specs.NameTable.{with_name, added}

pub added_append : (s xs ys : List (List ℕ × Meaning)) → added s (xs ++ ys) ≡ added (added s xs) ys
added_append s [] ys = refl
added_append s (x ∷ xs) ys = added_append (with_name s x.0 x.1) xs ys
