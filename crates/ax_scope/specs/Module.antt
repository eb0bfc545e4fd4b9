-- The module that lines are.
use Rattle.std.specs.Prelude.{ℕ, pos, Bool, false, cond, List, [], ◌∷◌, ◌++◌, map, Option, None, Some, is_none}
use Rattle.ax_module.specs.declared.types.Ty.{Ty}
use Rattle.ax_module.specs.declared.types.Ty.TheVariants.{I1}
use Rattle.ax_module.specs.declared.operand.Operand.{Operand}
use Rattle.ax_module.specs.declared.operand.Operand.TheVariants as operand
use Rattle.ax_module.specs.declared.inst.Inst.{Inst}
use Rattle.ax_module.specs.declared.module.Block.{Block}
use Rattle.ax_module.specs.declared.module.Function.{Function}
use Rattle.ax_module.specs.declared.module.Global.{Global}
use Rattle.ax_module.specs.declared.module.Module.{Module}
use Rattle.ax_lines.specs.Productions.{is_terminator}
use Rattle.ax_symbols.specs.declared.values.Value.{Value}
use Rattle.ax_symbols.specs.declared.values.Value.TheVariants as value
use Rattle.ax_lines.specs.declared.statement.Line.{Line}
use Rattle.ax_lines.specs.declared.statement.Line.TheVariants as line
use Rattle.ax_scope.specs.declared.meaning.Meaning.{Meaning}
use Rattle.ax_scope.specs.NameTable.{look}
use Rattle.ax_scope.specs.Names.{text_at, inside_of, globals_from}
use Rattle.ax_scope.specs.Resolve.{Looks}
use Rattle.ax_scope.specs.Faults.{looks_of, stated}

-- ---- blocks

unfoldable pub ends_block : Line → Bool
ends_block (line.Inst r s) = is_terminator s
ends_block _ = false

-- the instruction of a line, where it has one
abbrev pub insts_in : Option (Option Inst) → List Inst
insts_in None = []
insts_in (Some None) = []
insts_in (Some (Some i)) = i ∷ []

abbrev pub empty_block : Block
empty_block = record { insts = [] }

-- in front of the first block
abbrev pub onto : List Inst → List Block → List Block
onto front [] = []
onto front (b ∷ bs) = record { insts = front ++ b.insts } ∷ bs

-- The blocks of a function's lines: a block ends with its terminator.
abbrev pub blocks_in : Looks → List Line → List Block
blocks_in x [] = []
blocks_in x (l ∷ ls) = onto (insts_in (stated x l)) (cond (ends_block l) (empty_block ∷ blocks_in x ls) (blocks_in x ls))

-- ---- functions

abbrev pub result_or : Option Ty → Ty
result_or None = I1
result_or (Some t) = t

-- A function begins at its head.
unfoldable pub function_at : List ℕ → (List ℕ → Option Meaning) → Line → List Line → List Function
function_at text globals (line.Define f r ps) behind = record {
  name = text_at text f;
  result = result_or r;
  is_void = is_none r;
  params = map (λ p. p.0) ps;
  blocks = blocks_in (looks_of text globals ps (inside_of behind)) (inside_of behind);
} ∷ []
function_at text globals _ behind = []

abbrev pub functions_in : List ℕ → (List ℕ → Option Meaning) → List Line → List Function
functions_in text globals [] = []
functions_in text globals (l ∷ ls) = function_at text globals l ls ++ functions_in text globals ls

-- ---- globals

-- no local stands there
abbrev pub constant_of : Value → Operand
constant_of (value.Const n) = operand.Const n
constant_of (value.Wide n) = operand.Wide n
constant_of (value.Local s) = operand.Const (pos 0)

unfoldable pub global_at : List ℕ → Line → List Global
global_at text (line.Global g t c vs a) = record {
  name = text_at text g;
  elem = t;
  count = c;
  align = a;
  init = map constant_of vs;
} ∷ []
global_at text _ = []

abbrev pub globals_in : List ℕ → List Line → List Global
globals_in text [] = []
globals_in text (l ∷ ls) = global_at text l ++ globals_in text ls

-- The module of a text whose names fit.
abbrev pub module_of : List ℕ → List Line → Module
module_of text lines = record { globals = globals_in text lines; functions = functions_in text (look (globals_from text 0 lines)) lines }
