-- The names that tokens are.
use Rattle.std.specs.Prelude.{◌≡◌, ℕ, ◌-◌, Bool, false, ◌&&◌, ◌==◌, if◌then◌else◌, List, [], ◌∷◌, length, take, Option, Some, None}
use Rattle.ax_lex.specs.Tokens.{is_empty}

-- a name in quotes equals the same name without them
abbrev pub unquoted : List ℕ → List ℕ
unquoted [] = []
unquoted (b ∷ bs) = if b == 34 then take (length bs - 1) bs else b ∷ bs

-- the name that a Global token is, behind its `@`
abbrev pub name_in : List ℕ → List ℕ
name_in [] = []
name_in (b ∷ bs) = unquoted bs

-- a quote alone
abbrev pub is_quote : List ℕ → Bool
is_quote [] = false
is_quote (b ∷ bs) = b == 34 && is_empty bs

-- What is returned, seen by view, is what reading gives.
abbrev pub Gives : {X Y : Type 0} → (X → Y) → Option X → Option Y → Type 0
Gives view None read = read ≡ None
Gives view (Some x) read = read ≡ Some (view x)
