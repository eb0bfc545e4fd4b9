-- Lists that a loop makes from its front on.
use Rattle.std.proofs.Common.{List, ◌++◌, Option, Some, None}

-- what is found, behind the front
abbrev pub behind : {A : Type 0} → List A → Option (List A) → Option (List A)
behind front None = None
behind front (Some xs) = Some (front ++ xs)
