-- What names stand for.
use Rattle.std.specs.Prelude.{ℕ, Bool, cond, List, [], ◌∷◌, ◌++◌, Option, is_none}
use Rattle.std.specs.Map.{lookup}
use Rattle.std.specs.List.{list_any}
use Rattle.std.specs.Str.{bytes_eq}
use Rattle.ax_scope.specs.declared.meaning.Meaning.{Meaning}

-- what a name stands for: the first that has it counts
abbrev pub look : List (List ℕ × Meaning) → List ℕ → Option Meaning
look names name = lookup (bytes_eq name) names

-- with a name behind the others, unless it is there
abbrev pub with_name : List (List ℕ × Meaning) → List ℕ → Meaning → List (List ℕ × Meaning)
with_name names name meaning = cond (is_none (look names name)) (names ++ (name, meaning) ∷ []) names

abbrev pub is_among : List ℕ → List (List ℕ) → Bool
is_among name names = list_any (bytes_eq name) names

-- with these names in turn
abbrev pub added : List (List ℕ × Meaning) → List (List ℕ × Meaning) → List (List ℕ × Meaning)
added names [] = names
added names (d ∷ ds) = added (with_name names d.0 d.1) ds
