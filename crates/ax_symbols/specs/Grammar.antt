-- Grammars of a line, and the lines that they derive.
use Rattle.std.specs.Prelude.{◌≡◌, ℕ, zero, suc, Bool, true, cond, List, [], ◌∷◌, ◌++◌, length, map, Option, Some, None, ◌⊎◌}
use Rattle.std.specs.Option.{option_and_then, option_map}
use Rattle.ax_symbols.specs.declared.symbol.Sign.{Sign}
use Rattle.ax_symbols.specs.declared.symbol.Sign.TheVariants as sign
use Rattle.ax_symbols.specs.declared.symbol.Punctuation.TheVariants as mark
use Rattle.ax_symbols.specs.declared.symbol.Symbol.{Symbol}
use Rattle.ax_module.specs.declared.types.Ty.{Ty}
use Rattle.ax_symbols.specs.declared.pass.Pass.{Pass}
use Rattle.ax_symbols.specs.Pieces.{strip, one_at, sign_at, pass_over, type_at, is_tail}

-- A piece of a line, and the value that it stands for.
pub data Grammar : Type 0 → Type 1 where
  -- nothing
  gives : {V : Type 0} → V → Grammar V
  -- a piece, and then a piece that its value can choose
  then : {A V : Type 0} → Grammar A → (A → Grammar V) → Grammar V
  -- these signs
  signs : List Sign → Grammar (Unit {0})
  -- one symbol, which stands for a value
  one : {A : Type 0} → (Symbol → Option A) → Grammar A
  -- all that is passed over
  passed : Pass → Grammar (Unit {0})
  -- a type
  typed : Grammar Ty
  -- nothing, where the test holds
  when : Bool → Grammar (Unit {0})
  -- these signs and the first piece where they stand there, else the second
  option : {V : Type 0} → List Sign → Grammar V → Grammar V → Grammar V
  -- by the first two signs; behind the end of the line, each is the line feed
  by : {V : Type 0} → (Sign → Sign → Grammar V) → Grammar V
  -- pieces parted by commas, at least one
  list : {A : Type 0} → Grammar A → Grammar (List A)
  -- metadata to the end of the line
  tail : Grammar (Unit {0})
  -- the end of the line
  ends : Grammar (Unit {0})
  -- anything to the end of the line
  whole : Grammar (Unit {0})
  -- no piece
  none : {V : Type 0} → Grammar V

abbrev pub signs_of : List Symbol → List Sign
signs_of line = map (λ s. s.sign) line

abbrev pub comma : List Sign
comma = sign.Mark mark.Comma ∷ []

-- the line is these signs and the rest
pub record Splits (signs : List Sign) (line rest : List Symbol) : Type 0 where
  pub front : List Symbol
  pub whole : line ≡ front ++ rest
  pub as_signs : signs_of front ≡ signs

-- pieces parted by commas: the rest begins with no comma
pub data Listed {A : Type 0} (Item : List Symbol → A → List Symbol → Type 0) : List Symbol → List A → List Symbol → Type 0 where
  last : {line rest : List Symbol} {a : A} → Item line a rest → (strip comma rest ≡ None) → Listed Item line (a ∷ []) rest
  more : {line behind next rest : List Symbol} {a : A} {others : List A} → Item line a behind → (strip comma behind ≡ Some next) → Listed Item next others rest → Listed Item line (a ∷ others) rest

abbrev pub either : {V : Type 0} → Option (List Symbol) → (List Symbol → Option V) → Option V → Option V
either None f o = o
either (Some rest) f o = f rest

abbrev pub and_more : {A : Type 0} → A → Option (List A × List Symbol) → Option (List A × List Symbol)
and_more a o = option_map (λ x. (a ∷ x.0, x.1)) o

-- at most so many
abbrev pub listed : {A : Type 0} → (List Symbol → Option (A × List Symbol)) → ℕ → List Symbol → Option (List A × List Symbol)
listed item zero line = None
listed item (suc n) line = option_and_then (λ x. either (strip comma x.1) (λ next. and_more x.0 (listed item n next)) (Some (x.0 ∷ [], x.1))) (item line)

-- The line begins with this piece, which stands for the value, and then comes the rest.
abbrev pub Derives : {V : Type 0} → Grammar V → List Symbol → V → List Symbol → Type 0
Derives (gives x) line v rest = (line ≡ rest) × (v ≡ x)
Derives (then {A} p g) line v rest = (a : A) × (middle : List Symbol) × Derives p line a middle × Derives (g a) middle v rest
Derives (signs ss) line v rest = Splits ss line rest
Derives (one of) line v rest = (s : Symbol) × (line ≡ s ∷ rest) × (of s ≡ Some v)
Derives (passed k) line v rest = rest ≡ pass_over k line
Derives typed line v rest = type_at line ≡ Some (v, rest)
Derives (when test) line v rest = (test ≡ true) × (line ≡ rest)
Derives (option ss g h) line v rest = ((behind : List Symbol) × Splits ss line behind × Derives g behind v rest) ⊎ (((behind : List Symbol) → Splits ss line behind → ⊥) × Derives h line v rest)
Derives (by g) line v rest = Derives (g (sign_at line 0) (sign_at line 1)) line v rest
Derives (list item) line vs rest = Listed (Derives item) line vs rest
Derives tail line v rest = (is_tail line ≡ true) × (rest ≡ [])
Derives ends line v rest = (line ≡ []) × (rest ≡ [])
Derives whole line v rest = rest ≡ []
Derives none line v rest = ⊥

-- the whole line
abbrev pub IsLine : {V : Type 0} → Grammar V → List Symbol → V → Type 0
IsLine g line v = Derives g line v []

-- ---- reading from the left

abbrev pub ended : List Symbol → Option (Unit {0} × List Symbol)
ended [] = Some (tt, [])
ended (s ∷ line) = None

abbrev pub reads : {V : Type 0} → Grammar V → List Symbol → Option (V × List Symbol)
reads (gives x) line = Some (x, line)
reads (then p g) line = option_and_then (λ x. reads (g x.0) x.1) (reads p line)
reads (signs ss) line = option_map (λ rest. (tt, rest)) (strip ss line)
reads (one of) line = one_at of line
reads (passed k) line = Some (tt, pass_over k line)
reads typed line = type_at line
reads (when test) line = cond test (Some (tt, line)) None
reads (option ss g h) line = either (strip ss line) (reads g) (reads h line)
reads (by g) line = reads (g (sign_at line 0) (sign_at line 1)) line
reads (list item) line = listed (reads item) (suc (length line)) line
reads tail line = cond (is_tail line) (Some (tt, [])) None
reads ends line = ended line
reads whole line = Some (tt, [])
reads none line = None

-- the value of a whole line
abbrev pub all_of : {V : Type 0} → Option (V × List Symbol) → Option V
all_of None = None
all_of (Some (v, [])) = Some v
all_of (Some (v, s ∷ rest)) = None

infixl 10 ◌>>=◌
abbrev pub ◌>>=◌ : {A V : Type 0} → Grammar A → (A → Grammar V) → Grammar V
p >>= g = then p g

infixl 10 ◌>>◌
abbrev pub ◌>>◌ : {A V : Type 0} → Grammar A → Grammar V → Grammar V
p >> g = then p (λ _. g)
