-- The canonical text of a module: globals, and then functions, a line each and one for each of their blocks and instructions.
use Rattle.std.specs.Prelude.{ℕ, ◌+◌, ◌==◌, Bool, true, false, if◌then◌else◌, List, [], ◌∷◌, ◌++◌, length, map, flat_map, codes, decimal}
use Rattle.ax_module.specs.declared.types.Ty.{Ty}
use Rattle.ax_module.specs.declared.operand.Operand.{Operand}
use Rattle.ax_module.specs.declared.inst.Inst.{Inst}
use Rattle.ax_module.specs.declared.module.Global.{Global}
use Rattle.ax_module.specs.declared.module.Block.{Block}
use Rattle.ax_module.specs.declared.module.Function.{Function}
use Rattle.ax_module.specs.declared.module.Module.{Module}
use Rattle.ax_module.specs.Names.{global_token}
use Rattle.ax_ir.specs.Spacing.{spaced}
use Rattle.ax_ir.specs.OperandTokens.{parted, type_tokens, elements_tokens, align_tokens, operand_token, param_token, typed_tokens}
use Rattle.ax_ir.specs.InstTokens.{numbered_inst_tokens}

-- a line's tokens, and whether two blanks stand before them
pub record Line : Type 0 where
  pub indented : Bool
  pub tokens : List (List ℕ)

abbrev pub line_text : Line → List ℕ
line_text line = (if line.indented then 32 ∷ 32 ∷ [] else []) ++ spaced line.tokens ++ 10 ∷ []

abbrev pub flush : List (List ℕ) → Line
flush tokens = record { indented = false; tokens = tokens }

abbrev pub indented : List (List ℕ) → Line
indented tokens = record { indented = true; tokens = tokens }

abbrev pub zero_token : ℕ → List ℕ
zero_token count = if count == 1 then codes "0" else codes "zeroinitializer"

-- the initial numbers; without them all elements are zero
unfoldable pub init_tokens : Ty → ℕ → List Operand → List (List ℕ)
init_tokens elem count [] = zero_token count ∷ []
init_tokens elem count (v ∷ vs) =
    if count == 1 then operand_token v ∷ [] else codes "[" ∷ parted (typed_tokens elem) (v ∷ vs) ++ codes "]" ∷ []

unfoldable pub global_tokens : Global → List (List ℕ)
global_tokens g = global_token g.name ∷ codes "=" ∷ codes "global" ∷ elements_tokens g.count g.elem ++ init_tokens g.elem g.count g.init ++ align_tokens g.align

abbrev pub numbered_param_tokens : ℕ → Ty → List (List ℕ)
numbered_param_tokens k t = type_tokens t ++ param_token k ∷ []

-- the parameters from number k on, each behind a comma
abbrev pub later_params_tokens : ℕ → List Ty → List (List ℕ)
later_params_tokens k [] = []
later_params_tokens k (t ∷ params) = codes "," ∷ numbered_param_tokens k t ++ later_params_tokens (k + 1) params

abbrev pub params_tokens : List Ty → List (List ℕ)
params_tokens [] = []
params_tokens (t ∷ params) = numbered_param_tokens 0 t ++ later_params_tokens 1 params

unfoldable pub function_result_tokens : Bool → Ty → List (List ℕ)
function_result_tokens is_void t = if is_void then codes "void" ∷ [] else type_tokens t

unfoldable pub define_tokens : Function → List (List ℕ)
define_tokens f =
    codes "define" ∷ function_result_tokens f.is_void f.result ++ global_token f.name ∷ codes "(" ∷ params_tokens f.params ++ codes ")" ∷ codes "{" ∷ []

abbrev pub label_line : ℕ → Line
label_line k = flush ((codes "b" ++ decimal k) ∷ codes ":" ∷ [])

-- the instructions from number n of their function on; `names` has the globals' tokens
abbrev pub inst_lines : List (List ℕ) → ℕ → List Inst → List Line
inst_lines names n [] = []
inst_lines names n (i ∷ insts) = indented (numbered_inst_tokens names n i) ∷ inst_lines names (n + 1) insts

abbrev pub block_lines : List (List ℕ) → ℕ → ℕ → Block → List Line
block_lines names k n b = label_line k ∷ inst_lines names n b.insts

-- the blocks from number k on, the first instruction being number n
abbrev pub blocks_lines : List (List ℕ) → ℕ → ℕ → List Block → List Line
blocks_lines names k n [] = []
blocks_lines names k n (b ∷ blocks) = block_lines names k n b ++ blocks_lines names (k + 1) (n + length b.insts) blocks

abbrev pub function_lines : List (List ℕ) → Function → List Line
function_lines names f = flush (define_tokens f) ∷ blocks_lines names 0 0 f.blocks ++ flush (codes "}" ∷ []) ∷ []

abbrev pub global_line : Global → Line
global_line g = flush (global_tokens g)

abbrev pub names_tokens : List Global → List (List ℕ)
names_tokens globals = map (λ g. global_token g.name) globals

abbrev pub module_lines : Module → List Line
module_lines m = map global_line m.globals ++ flat_map (function_lines (names_tokens m.globals)) m.functions

-- THE CANONICAL TEXT
abbrev pub module_text : Module → List ℕ
module_text m = flat_map line_text (module_lines m)
