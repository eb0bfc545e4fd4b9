-- The tokens of all lines of a well formed module.
use Rattle.std.proofs.Common.{◌≡◌, ℕ, zero, suc, ◌+◌, ◌<◌, Bool, true, false, List, [], ◌∷◌, length, map, flat_map, refl, subst, arith}
use Rattle.std.specs.Prelude.{not, ◌&&◌, ◌||◌, ◌==◌, codes, if◌then◌else◌, slice_index_or}
use Rattle.std.specs.List.{list_all}
use Rattle.std.specs.Cmp.Lexicographic.{pointwise}
use Rattle.std.specs.Prelude.{nat_eq}
use Rattle.std.proofs.lemmas.Bool.{and_parts, ltb-true}
use Rattle.ax_lex.specs.Tokens.{AreTokens}
use Rattle.ax_lex.specs.Written.{tokens_at, FitsText}
use Rattle.ax_lex.proofs.Rendered.{rendered}
use Rattle.ax_module.specs.declared.types.Ty.{Ty}
use Rattle.ax_module.specs.declared.operand.Operand.{Operand}
use Rattle.ax_module.specs.declared.inst.Inst.{Inst}
use Rattle.ax_module.specs.declared.module.Global.{Global}
use Rattle.ax_module.specs.declared.module.Block.{Block}
use Rattle.ax_module.specs.declared.module.Function.{Function}
use Rattle.ax_module.specs.declared.module.Module.{Module}
use Rattle.ax_module.specs.Names.{is_name, global_token}
use Rattle.ax_ir.specs.OperandTokens.{typed_tokens}
use Rattle.ax_ir.specs.InstTokens.{numbered_inst_tokens}
use Rattle.ax_module.specs.WellFormed.{NameCounts, begins_with, is_global_name, is_function_name, is_type, is_bit, is_nonempty, is_inst, is_order, is_block, is_function, is_init, is_global, all_differ, names_of, IsModule, scope_of}
use Rattle.ax_ir.specs.Canonical.{flush, indented, init_tokens, global_tokens, later_params_tokens, params_tokens, function_result_tokens, define_tokens, label_line, inst_lines, blocks_lines, function_lines, global_line, names_tokens, module_lines, module_text}
use Rattle.ax_again.specs.Pieces.{pieces_of}
use Rattle.ax_again.proofs.Pieces.{pieces_written}
use Rattle.ax_again.proofs.Fit.{IsFit, Fit, empty, also, both, word, last, one, either, parted_all}
use Rattle.ax_again.proofs.Follows.{LinesFit, no_line, line, lines_and, fits_lines}
use Rattle.ax_again.proofs.Bytes.{label_fit, param_fit, global_fit}
use Rattle.ax_again.proofs.Operands.{NamesFit, type_fit, elements_fit, align_fit, operand_fit, typed_fit}
use Rattle.ax_again.proofs.Insts.{numbered_fit}

-- ---- globals

zero_fit : (zero_only : Bool) → IsFit (if zero_only then codes "0" else codes "zeroinitializer")
zero_fit true = record { fit = refl }
zero_fit false = record { fit = refl }

init_fit : (elem : Ty) (count : ℕ) (vs : List Operand) → Fit (init_tokens elem count vs)
unfolding init_tokens
init_fit elem count [] = one (zero_fit (count == 1))
init_fit elem count (v ∷ vs) =
    either (count == 1) (one (operand_fit v)) (word (codes "[") refl (both (parted_all (typed_tokens elem) (typed_fit elem) (v ∷ vs)) (last (codes "]") refl)))

global_named : (g : Global) → is_global g ≡ true → IsFit (global_token g.name)
global_named g h =
    let front = and_parts (is_global_name g.name && is_type g.elem) (is_init g.count g.init) h in
    let name = and_parts (is_global_name g.name) (is_type g.elem) front.0 in
    global_fit g.name (and_parts (is_name g.name) (not (begins_with (codes "llvm.") g.name)) name.0).0

globals_fit : (g : Global) → IsFit (global_token g.name) → Fit (global_tokens g)
unfolding global_tokens
globals_fit g f =
    also f (word (codes "=") refl (word (codes "global") refl (both (both (elements_fit g.count g.elem) (init_fit g.elem g.count g.init)) (align_fit g.align))))

global_lines : (gs : List Global) → list_all is_global gs ≡ true → LinesFit (map global_line gs)
global_lines [] h = no_line
global_lines (g ∷ gs) h =
    let a = and_parts (is_global g) (list_all is_global gs) h in
    line (global_line g) (globals_fit g (global_named g a.0)) (global_lines gs a.1)

names_fit : (gs : List Global) → list_all is_global gs ≡ true → (n : ℕ) → n < length gs → IsFit (slice_index_or (names_tokens gs) n [])
names_fit [] h n l = absurd (omega (arith, l))
names_fit (g ∷ gs) h zero l = global_named g (and_parts (is_global g) (list_all is_global gs) h).0
names_fit (g ∷ gs) h (suc n) l = names_fit gs (and_parts (is_global g) (list_all is_global gs) h).1 n (omega (arith, l))

-- ---- functions

later_fit : (k : ℕ) (ts : List Ty) → Fit (later_params_tokens k ts)
later_fit k [] = empty
later_fit k (t ∷ ts) = word (codes ",") refl (both (both (type_fit t) (one (param_fit k))) (later_fit (k + 1) ts))

params_fit : (ts : List Ty) → Fit (params_tokens ts)
params_fit [] = empty
params_fit (t ∷ ts) = both (both (type_fit t) (one (param_fit 0))) (later_fit 1 ts)

result_fit : (is_void : Bool) (t : Ty) → Fit (function_result_tokens is_void t)
unfolding function_result_tokens
result_fit is_void t = either is_void (last (codes "void") refl) (type_fit t)

define_fit : (f : Function) → IsFit (global_token f.name) → Fit (define_tokens f)
unfolding define_tokens
define_fit f named =
    word (codes "define") refl (both (both (result_fit f.is_void f.result) (also named (word (codes "(") refl (params_fit f.params)))) (word (codes ")") refl (last (codes "{") refl)))

insts_fit : (scope : NameCounts) (names : List (List ℕ)) → NamesFit names scope.globals → (n : ℕ) (is : List Inst) → list_all (is_inst scope) is ≡ true → LinesFit (inst_lines names n is)
insts_fit scope names f n [] h = no_line
insts_fit scope names f n (i ∷ is) h =
    let a = and_parts (is_inst scope i) (list_all (is_inst scope) is) h in
    line (indented (numbered_inst_tokens names n i)) (numbered_fit scope names f n i a.0) (insts_fit scope names f (n + 1) is a.1)

blocks_fit : (scope : NameCounts) (names : List (List ℕ)) → NamesFit names scope.globals → (k n : ℕ) (bs : List Block) → list_all (is_block scope) bs ≡ true → LinesFit (blocks_lines names k n bs)
blocks_fit scope names f k n [] h = no_line
blocks_fit scope names f k n (b ∷ bs) h =
    let a = and_parts (is_block scope b) (list_all (is_block scope) bs) h in
    let insts = and_parts (is_order b.insts) (list_all (is_inst scope) b.insts) a.0 in
    line (label_line k) (also (label_fit k) (last (codes ":") refl))
    (lines_and (insts_fit scope names f n b.insts insts.1) (blocks_fit scope names f (k + 1) (n + length b.insts) bs a.1))

function_fit : (globals : ℕ) (names : List (List ℕ)) → NamesFit names globals → (f : Function) → is_function globals f ≡ true → LinesFit (function_lines names f)
function_fit globals names fits f h =
    let name = is_function_name f.name in
    let result = if f.is_void then is_bit f.result else is_type f.result in
    let params = list_all is_type f.params in
    let some = is_nonempty f.blocks in
    let blocks = list_all (is_block (scope_of globals f)) f.blocks in
    let parts = and_parts (name && result && params && some) blocks h in
    let front = and_parts name result (and_parts (name && result) params (and_parts (name && result && params) some parts.0).0).0 in
    let named = global_fit f.name (and_parts (is_name f.name) (not (pointwise nat_eq f.name (codes "out") || begins_with (codes "__atomic_") f.name)) front.0).0 in
    line (flush (define_tokens f)) (define_fit f named)
    (lines_and (blocks_fit (scope_of globals f) names fits 0 0 f.blocks parts.1) (line (flush (codes "}" ∷ [])) (last (codes "}") refl) no_line))

functions_fit : (globals : ℕ) (names : List (List ℕ)) → NamesFit names globals → (fs : List Function) → list_all (is_function globals) fs ≡ true → LinesFit (flat_map (function_lines names) fs)
functions_fit globals names fits [] h = no_line
functions_fit globals names fits (f ∷ fs) h =
    let a = and_parts (is_function globals f) (list_all (is_function globals) fs) h in
    lines_and (function_fit globals names fits f a.0) (functions_fit globals names fits fs a.1)

pub module_fit : (m : Module) → IsModule m → LinesFit (module_lines m)
module_fit m h =
    let count = length m.globals in
    let parts = and_parts (all_differ (names_of m) && list_all is_global m.globals) (list_all (is_function count) m.functions) h.formed in
    let globals = (and_parts (all_differ (names_of m)) (list_all is_global m.globals) parts.0).1 in
    lines_and (global_lines m.globals globals)
    (functions_fit count (names_tokens m.globals) (λ g l. names_fit m.globals globals g (ltb-true g count l)) m.functions parts.1)

pub pieces_fit : (m : Module) → IsModule m → FitsText (pieces_of m)
pieces_fit m h = fits_lines (module_lines m) (module_fit m h)

pub tokens_again : (m : Module) → IsModule m → AreTokens (module_text m) (tokens_at 0 (pieces_of m))
tokens_again m h = subst (λ text. AreTokens text (tokens_at 0 (pieces_of m))) (pieces_written m) (rendered (pieces_of m) (pieces_fit m h))
