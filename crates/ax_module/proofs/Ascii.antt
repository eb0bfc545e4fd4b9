-- The names of a well formed module are of ASCII bytes.
use Rattle.std.proofs.Common.{◌≡◌, ℕ, ◌<◌, ◌≤◌, Bool, true, List, [], ◌∷◌, arith, All}
use Rattle.std.specs.Prelude.{nat_le, nat_eq, not, ◌&&◌, ◌||◌, ◌==◌, length, codes, if◌then◌else◌}
use Rattle.std.specs.List.{list_all}
use Rattle.std.specs.Cmp.Lexicographic.{pointwise}
use Rattle.std.proofs.lemmas.Bool.{and_parts}
use Rattle.std.proofs.lemmas.Bool.Decides.{nat_tests}
use Rattle.std.proofs.lemmas.List.Elements.{All-nil, All-cons}
use Rattle.ax_module.specs.declared.inst.Inst.{Inst}
use Rattle.ax_module.specs.declared.inst.Inst.TheVariants.{Call}
use Rattle.ax_module.specs.declared.module.Global.{Global}
use Rattle.ax_module.specs.declared.module.Block.{Block}
use Rattle.ax_module.specs.declared.module.Function.{Function}
use Rattle.ax_module.specs.declared.module.Module.{Module}
use Rattle.ax_module.specs.Names.{IsAscii, is_printable, is_name}
use Rattle.ax_module.specs.Ascii.{called_name}
use Rattle.ax_module.specs.Ascii.{CallsAscii, NamesAscii}
use Rattle.ax_module.specs.WellFormed.{NameCounts, begins_with, is_global_name, is_function_name, is_callee_name, is_type, is_bit, is_result_type, is_arg, is_nonempty, is_inst, is_order, is_block, is_function, is_init, is_global, all_differ, names_of, IsModule, scope_of}

all_pass : {A : Type 0} (test : A → Bool) (P : A → Type 0) → ((x : A) → test x ≡ true → P x) → (xs : List A) → list_all test xs ≡ true → All P xs
all_pass test P f [] h = All-nil P
all_pass test P f (x ∷ xs) h =
    let both = and_parts (test x) (list_all test xs) h in
    All-cons P x xs (f x both.0) (all_pass test P f xs both.1)

printable_ascii : (b : ℕ) → is_printable b ≡ true → b < 128
printable_ascii b h =
    let parts = and_parts (nat_le 32 b && nat_le b 126) (not (b == 34)) h in
    let range = and_parts (nat_le 32 b) (nat_le b 126) parts.0 in
    let last : b ≤ 126 = grind (arith, nat_tests, range.1) in
    omega (arith, last)

name_ascii : (name : List ℕ) → is_name name ≡ true → IsAscii name
name_ascii name h = all_pass is_printable (λ b. b < 128) printable_ascii name h

inst_ascii : (scope : NameCounts) (i : Inst) → is_inst scope i ≡ true → IsAscii (called_name i)
unfolding is_inst called_name
inst_ascii scope (Call t name args) h =
    let parts = and_parts (is_result_type t && is_callee_name name) (list_all (is_arg scope) args) h in
    let callee = and_parts (is_result_type t) (is_callee_name name) parts.0 in
    name_ascii name (and_parts (is_name name) (not (begins_with (codes "llvm.lifetime.") name)) callee.1).0
inst_ascii scope _ h = All-nil (λ b. b < 128)

block_ascii : (scope : NameCounts) (b : Block) → is_block scope b ≡ true → CallsAscii b.insts
block_ascii scope b h =
    let parts = and_parts (is_order b.insts) (list_all (is_inst scope) b.insts) h in
    all_pass (is_inst scope) (λ i. IsAscii (called_name i)) (inst_ascii scope) b.insts parts.1

function_ascii : (globals : ℕ) (f : Function) → is_function globals f ≡ true → NamesAscii f
function_ascii globals f h =
    let name = is_function_name f.name in
    let result = if f.is_void then is_bit f.result else is_type f.result in
    let params = list_all is_type f.params in
    let some = is_nonempty f.blocks in
    let blocks = list_all (is_block (scope_of globals f)) f.blocks in
    let parts = and_parts (name && result && params && some) blocks h in
    let front = and_parts name result (and_parts (name && result) params (and_parts (name && result && params) some parts.0).0).0 in
    record {
      name = name_ascii f.name (and_parts (is_name f.name) (not (pointwise nat_eq f.name (codes "out") || begins_with (codes "__atomic_") f.name)) front.0).0;
      calls = all_pass (is_block (scope_of globals f)) (λ b. CallsAscii b.insts) (block_ascii (scope_of globals f)) f.blocks parts.1;
    }

global_ascii : (g : Global) → is_global g ≡ true → IsAscii g.name
global_ascii g h =
    let front = and_parts (is_global_name g.name && is_type g.elem) (is_init g.count g.init) h in
    let name = and_parts (is_global_name g.name) (is_type g.elem) front.0 in
    name_ascii g.name (and_parts (is_name g.name) (not (begins_with (codes "llvm.") g.name)) name.0).0

pub globals_ascii : (m : Module) → IsModule m → All (λ g. IsAscii g.name) m.globals
globals_ascii m h =
    let front = and_parts (all_differ (names_of m) && list_all is_global m.globals) (list_all (is_function (length m.globals)) m.functions) h.formed in
    all_pass is_global (λ g. IsAscii g.name) global_ascii m.globals (and_parts (all_differ (names_of m)) (list_all is_global m.globals) front.0).1

pub functions_ascii : (m : Module) → IsModule m → All NamesAscii m.functions
functions_ascii m h =
    let parts = and_parts (all_differ (names_of m) && list_all is_global m.globals) (list_all (is_function (length m.globals)) m.functions) h.formed in
    all_pass (is_function (length m.globals)) NamesAscii (function_ascii (length m.globals)) m.functions parts.1
