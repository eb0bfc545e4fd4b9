-- The lines whose names don't fit.
use Rattle.std.specs.Prelude.{◌≡◌, ℕ, ◌+◌, Bool, true, false, cond, ◌||◌, List, [], ◌∷◌, ◌++◌, map, length, Option, None, Some, is_none, codes, nat_eq}
use Rattle.std.specs.Option.{option_map, option_to_list}
use Rattle.std.specs.List.{starts_with}
use Rattle.std.specs.Str.{bytes_eq}
use Rattle.ax_module.specs.declared.types.Ty.{Ty}
use Rattle.ax_module.specs.declared.inst.Inst.{Inst}
use Rattle.ax_symbols.specs.declared.symbol.NameSpan.{NameSpan}
use Rattle.ax_lines.specs.declared.statement.Line.{Line}
use Rattle.ax_lines.specs.declared.statement.Line.TheVariants as line
use Rattle.ax_scope.specs.declared.meaning.Meaning.{Meaning}
use Rattle.ax_scope.specs.NameTable.{look, is_among}
use Rattle.ax_scope.specs.Names.{text_at, is_inner, inside_of, result_name, entry_name, block_name, first_behind, values_of, blocks_of, globals_from}
use Rattle.ax_scope.specs.Resolve.{Looks, inst_of}

-- One of the names was declared before: among those so far, or among those before it.
abbrev pub again : List (List ℕ) → List (List ℕ) → Bool
again so_far [] = false
again so_far (n ∷ ns) = is_among n so_far || again (so_far ++ n ∷ []) ns

-- ---- a line outside functions

-- The name of a global or a function.
unfoldable pub outer_name : List ℕ → Line → Option (List ℕ)
outer_name text (line.Global g t c vs a) = Some (text_at text g)
outer_name text (line.Define f r ps) = Some (text_at text f)
outer_name text _ = None

unfoldable pub param_names : List ℕ → Line → List (List ℕ)
param_names text (line.Define f r ps) = map (λ p. text_at text p.1) ps
param_names text _ = []

-- no function may have the name
abbrev pub is_reserved_name : List ℕ → Bool
is_reserved_name name = bytes_eq name (codes "out") || starts_with nat_eq name (codes "__atomic_")

unfoldable pub is_reserved : List ℕ → Line → Bool
is_reserved text (line.Define f r ps) = is_reserved_name (text_at text f)
is_reserved text _ = false

-- names are those of the globals and functions before the line
abbrev pub outer_fault : List ℕ → List (List ℕ) → Line → Bool
outer_fault text names l = is_reserved text l || again names (option_to_list (outer_name text l)) || again [] (param_names text l)

-- ---- a line in a function

-- A function as far as a line: what its names stand for, wherever they are declared in it, the name
-- of an entry block without a label, whether the line is its first, and the names that are declared
-- before the line.
pub record Body : Type 0 where
  pub looks : Looks
  pub entry : List ℕ
  pub first : Bool
  pub so_far : List (List ℕ)

-- what the names of a function stand for
abbrev pub looks_of : List ℕ → (List ℕ → Option Meaning) → List (Ty × NameSpan) → List Line → Looks
looks_of text globals ps inside = record { text = text; globals = globals; values = look (values_of text ps inside); blocks = look (blocks_of text (entry_name text ps) inside) }

-- a function at its first line
abbrev pub body_of : List ℕ → (List ℕ → Option Meaning) → List (Ty × NameSpan) → List Line → Body
body_of text globals ps inside = record { looks = looks_of text globals ps inside; entry = entry_name text ps; first = true; so_far = map (λ p. text_at text p.1) ps }

-- the names that a line declares in its function
abbrev pub names_of : List ℕ → List ℕ → Bool → Line → List (List ℕ)
names_of text entry first l = option_to_list (block_name text entry first l) ++ option_to_list (result_name text l)

abbrev pub local_names : Body → Line → List (List ℕ)
local_names b l = names_of b.looks.text b.entry b.first l

-- The instruction of a line, if it has one. None where a name that it uses stands for nothing.
unfoldable pub stated : Looks → Line → Option (Option Inst)
stated x (line.Inst r s) = option_map Some (inst_of x s)
stated x _ = Some None

abbrev pub body_fault : Body → Line → Bool
body_fault b l = again b.so_far (local_names b l) || is_none (stated b.looks l)

-- the function at the next line
abbrev pub body_behind : Body → Line → Body
body_behind b l = record { looks = b.looks; entry = b.entry; first = first_behind b.first l; so_far = b.so_far ++ local_names b l }

-- whether each line of a function has a fault
abbrev pub body_faults : Body → List Line → List Bool
body_faults b [] = []
body_faults b (l ∷ ls) = body_fault b l ∷ body_faults (body_behind b l) ls

-- ---- all lines

-- the function that begins behind a line
unfoldable pub body_begun : List ℕ → (List ℕ → Option Meaning) → Line → List Line → Option Body
body_begun text globals (line.Define f r ps) behind = Some (body_of text globals ps (inside_of behind))
body_begun text globals _ behind = None

-- the function, if any, that the lines behind this line stand in
abbrev pub function_behind : List ℕ → (List ℕ → Option Meaning) → Option Body → Line → List Line → Option Body
function_behind text globals function l behind = cond (is_inner l) (option_map (λ b. body_behind b l) function) (body_begun text globals l behind)

abbrev pub inner_fault : Option Body → Line → Bool
inner_fault None l = false
inner_fault (Some b) l = body_fault b l

-- Whether each line has a fault, from a line on before which these globals and functions are
-- declared, and which stands in this function, if in any.
abbrev pub faults_from : List ℕ → (List ℕ → Option Meaning) → List (List ℕ) → Option Body → List Line → List Bool
faults_from text globals names function [] = []
faults_from text globals names function (l ∷ ls) =
    (outer_fault text names l || inner_fault function l)
    ∷ faults_from text globals (names ++ option_to_list (outer_name text l)) (function_behind text globals function l ls) ls

-- Whether each line of a text has a fault: it uses an undeclared local, label or global, declares a
-- name a second time, or defines a function with a reserved name.
abbrev pub faults : List ℕ → List Line → List Bool
faults text lines = faults_from text (look (globals_from text 0 lines)) [] None lines

abbrev pub AllFalse : List Bool → Type 0
AllFalse [] = Unit {0}
AllFalse (b ∷ bs) = (b ≡ false) × AllFalse bs

-- no line has one
abbrev pub NamesFit : List ℕ → List Line → Type 0
NamesFit text lines = AllFalse (faults text lines)

-- the first line with one, counted from 1
pub record IsNameFault (text : List ℕ) (lines : List Line) (number : ℕ) : Type 0 where
  pub before : List Bool
  pub behind : List Bool
  pub whole : faults text lines ≡ before ++ true ∷ behind
  pub is : number ≡ length before + 1
  pub fit : AllFalse before
