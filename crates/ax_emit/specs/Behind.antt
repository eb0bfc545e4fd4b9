-- WHERE LABELS STAND, as lists.
use Rattle.std.specs.Prelude.{ℕ, List, nat_eq}
use Rattle.std.specs.Map.{lookup}
use Rattle.std.specs.Option.{unwrap_or}

-- where control goes on at a label, by the lines behind labels and the number of all lines
abbrev pub behind_in : (List (ℕ × ℕ) × ℕ) → ℕ → ℕ
behind_in labels n = unwrap_or (lookup (nat_eq n) labels.0) labels.1
