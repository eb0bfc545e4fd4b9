-- The names that lines declare, and what each stands for.
use Rattle.std.specs.Prelude.{ℕ, ◌+◌, ◌-◌, Bool, true, false, cond, not, ◌&&◌, ◌==◌, min, List, [], ◌∷◌, ◌++◌, length, take, drop, Option, None, Some, decimal}
use Rattle.std.specs.List.{list_all, count_by, prefix_len}
use Rattle.ax_lex.specs.Bytes.{is_digit}
use Rattle.ax_module.specs.declared.types.Ty.{Ty}
use Rattle.ax_symbols.specs.declared.symbol.NameSpan.{NameSpan}
use Rattle.ax_lines.specs.declared.statement.Line.{Line}
use Rattle.ax_lines.specs.declared.statement.Line.TheVariants as line
use Rattle.ax_scope.specs.declared.meaning.Meaning.{Meaning}
use Rattle.ax_scope.specs.declared.meaning.Meaning.TheVariants as meaning

-- the bytes of a name
abbrev pub text_at : List ℕ → NameSpan → List ℕ
text_at text s = take (min s.end (length text) - min s.start (min s.end (length text))) (drop (min s.start (min s.end (length text))) text)

-- the bytes of a name that may be absent
abbrev pub maybe_at : List ℕ → Option NameSpan → Option (List ℕ)
maybe_at text None = None
maybe_at text (Some s) = Some (text_at text s)

-- ---- the lines of a function

-- It is a label or an instruction, or states nothing.
unfoldable pub is_inner : Line → Bool
is_inner line.Nothing = true
is_inner (line.Label n) = true
is_inner (line.Inst r s) = true
is_inner _ = false

-- the lines of a function whose head stands before these
abbrev pub inside_of : List Line → List Line
inside_of behind = take (prefix_len is_inner behind) behind

-- ---- what is declared

-- a name with what it stands for, where there is a name
abbrev pub declared : Option (List ℕ) → Meaning → List (List ℕ × Meaning)
declared None m = []
declared (Some name) m = (name, m) ∷ []

unfoldable pub global_name : List ℕ → Line → Option (List ℕ)
global_name text (line.Global g t c vs a) = Some (text_at text g)
global_name text _ = None

abbrev pub count_some : Option (List ℕ) → ℕ
count_some None = 0
count_some (Some name) = 1

-- the globals, numbered from k
abbrev pub globals_from : List ℕ → ℕ → List Line → List (List ℕ × Meaning)
globals_from text k [] = []
globals_from text k (l ∷ ls) = declared (global_name text l) (meaning.Global k) ++ globals_from text (k + count_some (global_name text l)) ls

-- the parameters, numbered from k
abbrev pub params_from : List ℕ → ℕ → List (Ty × NameSpan) → List (List ℕ × Meaning)
params_from text k [] = []
params_from text k (p ∷ ps) = (text_at text p.1, meaning.Param k) ∷ params_from text (k + 1) ps

unfoldable pub result_name : List ℕ → Line → Option (List ℕ)
result_name text (line.Inst r s) = maybe_at text r
result_name text _ = None

unfoldable pub inst_count : Line → ℕ
inst_count (line.Inst r s) = 1
inst_count _ = 0

-- the results, by the numbers of their instructions, which are numbered from k
abbrev pub results_from : List ℕ → ℕ → List Line → List (List ℕ × Meaning)
results_from text k [] = []
results_from text k (l ∷ ls) = declared (result_name text l) (meaning.Value k) ++ results_from text (k + inst_count l) ls

-- digits alone, at least one
abbrev pub is_number : List ℕ → Bool
is_number name = not (length name == 0) && list_all is_digit name

-- the name of an entry block without a label: the number of parameters whose names are numbers
abbrev pub entry_name : List ℕ → List (Ty × NameSpan) → List ℕ
entry_name text ps = decimal (count_by (λ p. is_number (text_at text p.1)) ps)

-- The block that begins at a line, where one does: at a label, and at an instruction that is the
-- first line of its function. That block has the entry's name.
unfoldable pub block_name : List ℕ → List ℕ → Bool → Line → Option (List ℕ)
block_name text entry first (line.Label n) = Some (text_at text n)
block_name text entry first (line.Inst r s) = cond first (Some entry) None
block_name text entry first _ = None

-- whether what stands behind a line is still the first line
unfoldable pub first_behind : Bool → Line → Bool
first_behind first line.Nothing = first
first_behind first _ = false

-- the blocks, numbered from k
abbrev pub blocks_from : List ℕ → List ℕ → Bool → ℕ → List Line → List (List ℕ × Meaning)
blocks_from text entry first k [] = []
blocks_from text entry first k (l ∷ ls) = declared (block_name text entry first l) (meaning.Block k) ++ blocks_from text entry (first_behind first l) (k + count_some (block_name text entry first l)) ls

-- ---- what the names of a function stand for

abbrev pub values_of : List ℕ → List (Ty × NameSpan) → List Line → List (List ℕ × Meaning)
values_of text ps inside = params_from text 0 ps ++ results_from text 0 inside

abbrev pub blocks_of : List ℕ → List ℕ → List Line → List (List ℕ × Meaning)
blocks_of text entry inside = blocks_from text entry true 0 inside
