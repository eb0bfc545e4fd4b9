-- Which modules are well formed: a module of the source, its names, its numbers.
use Rattle.std.specs.Prelude.{ℕ, ◌^◌, Bool, true, false, not, ◌&&◌, ◌||◌, ◌==◌, nat_le, nat_lt, nat_eq, if◌then◌else◌, pos, Option, Some, None, List, [], ◌∷◌, length, drop, map, codes, flat_map, slice_get, IsTrue, ◌++◌}
use Rattle.std.specs.Ordering.{int_eq}
use Rattle.std.specs.List.{list_all, list_any, prefix_len, starts_with}
use Rattle.std.specs.Cmp.Lexicographic.{pointwise}
use Rattle.ax_module.specs.declared.types.Ty.{Ty}
use Rattle.ax_module.specs.declared.types.Ty.TheVariants.{I1, Int, Ptr}
use Rattle.ax_module.specs.declared.operand.Operand.{Operand}
use Rattle.ax_module.specs.declared.operand.Operand.TheVariants.{Const, Wide, Value, Param}
use Rattle.ax_module.specs.declared.operand.Base.{Base}
use Rattle.ax_module.specs.declared.operand.Base.TheVariants as base
use Rattle.ax_module.specs.declared.operand.Addr.{Addr}
use Rattle.ax_module.specs.declared.operand.Arg.{Arg}
use Rattle.ax_module.specs.declared.operand.Arg.TheVariants as arg
use Rattle.ax_module.specs.declared.inst.Inst.{Inst}
use Rattle.ax_module.specs.declared.inst.Inst.TheVariants.{Bin, Icmp, Select, Convert, Phi, Jump, Branch, RetVoid, Ret, Unreachable, Alloca, Gep, Load, LoadAtomic, Store, StoreAtomic, Cmpxchg, Rmw, Fence, Extract, Call}
use Rattle.ax_module.specs.declared.module.Global.{Global}
use Rattle.ax_module.specs.declared.module.Block.{Block}
use Rattle.ax_module.specs.declared.module.Function.{Function}
use Rattle.ax_module.specs.declared.module.Module.{Module}
use Rattle.ax_module.specs.Kinds.{is_phi, is_terminator, has_result}
use Rattle.ax_module.specs.Names.{is_name}
use Rattle.ax_module.specs.Ranges.{are_numbers_in_range}

-- what an instruction may name: how many globals its module has, how many parameters and blocks
-- its function, and the function's instructions by their numbers
pub record NameCounts : Type 0 where
  pub globals : ℕ
  pub params : ℕ
  pub blocks : ℕ
  pub insts : List Inst

abbrev pub begins_with : List ℕ → List ℕ → Bool
begins_with front name = starts_with nat_eq name front

-- lines of globals whose name begins with `llvm.` are passed over
abbrev pub is_global_name : List ℕ → Bool
is_global_name name = is_name name && not (begins_with (codes "llvm.") name)

abbrev pub is_function_name : List ℕ → Bool
is_function_name name = is_name name && not (pointwise nat_eq name (codes "out") || begins_with (codes "__atomic_") name)

-- calls of names that begin with `llvm.lifetime.` are passed over
abbrev pub is_callee_name : List ℕ → Bool
is_callee_name name = is_name name && not (begins_with (codes "llvm.lifetime.") name)

-- no name stands twice
abbrev pub all_differ : List (List ℕ) → Bool
all_differ [] = true
all_differ (name ∷ names) = not (list_any (pointwise nat_eq name) names) && all_differ names

-- up to 8 digits, and no width that has a type of its own
abbrev pub is_type : Ty → Bool
is_type (Int bits) = nat_lt bits (10 ^ 8) && not (list_any (nat_eq bits) (1 ∷ 8 ∷ 16 ∷ 32 ∷ 64 ∷ 128 ∷ []))
is_type _ = true

-- a number as it is written: one of -2^127 to 2^127 - 1, or a greater one
abbrev pub is_constant : Operand → Bool
is_constant (Const n) = true
is_constant (Wide n) = nat_le (2 ^ 127) n
is_constant (Value k) = false
is_constant (Param k) = false

abbrev pub is_zero : Operand → Bool
is_zero (Const n) = int_eq n (pos 0)
is_zero _ = false

abbrev pub has_result_at : Option Inst → Bool
has_result_at None = false
has_result_at (Some i) = has_result i

-- instruction k has a result
abbrev pub is_value : NameCounts → ℕ → Bool
is_value scope k = has_result_at (slice_get scope.insts k)

abbrev pub is_operand : NameCounts → Operand → Bool
is_operand scope (Value k) = is_value scope k
is_operand scope (Param k) = nat_lt k scope.params
is_operand scope v = is_constant v

abbrev pub is_typed : NameCounts → Ty → Operand → Bool
is_typed scope t v = is_type t && is_operand scope v

abbrev pub is_base : NameCounts → Base → Bool
is_base scope (base.Global g) = nat_lt g scope.globals
is_base scope (base.Value k) = is_value scope k
is_base scope (base.Param k) = nat_lt k scope.params

abbrev pub is_step : NameCounts → Option (Ty × ℕ × Ty × Operand) → Bool
is_step scope None = true
is_step scope (Some s) = is_type s.0 && is_typed scope s.2 s.3

abbrev pub is_addr : NameCounts → Addr → Bool
is_addr scope a = is_base scope a.base && is_step scope a.step

-- a value of type `ptr` that is no constant is a pointer
abbrev pub is_arg : NameCounts → Arg → Bool
is_arg scope (arg.Pointer a) = is_addr scope a
is_arg scope (arg.Value Ptr v) = is_constant v
is_arg scope (arg.Value t v) = is_typed scope t v

abbrev pub is_block_number : NameCounts → ℕ → Bool
is_block_number scope b = nat_lt b scope.blocks

abbrev pub is_entry : NameCounts → Operand × ℕ → Bool
is_entry scope e = is_operand scope e.0 && is_block_number scope e.1

abbrev pub is_nonempty : {A : Type 0} → List A → Bool
is_nonempty [] = false
is_nonempty (x ∷ xs) = true

-- `void` or a type
abbrev pub is_result_type : Option Ty → Bool
is_result_type None = true
is_result_type (Some t) = is_type t

unfoldable pub is_inst : NameCounts → Inst → Bool
is_inst scope (Bin op t v w) = is_typed scope t v && is_operand scope w
is_inst scope (Icmp condition t v w) = is_typed scope t v && is_operand scope w
is_inst scope (Select c t v u w) = is_operand scope c && is_typed scope t v && is_typed scope u w
is_inst scope (Convert cast t v u) = is_typed scope t v && is_type u
is_inst scope (Phi t entries) = is_type t && is_nonempty entries && list_all (is_entry scope) entries
is_inst scope (Jump b) = is_block_number scope b
is_inst scope (Branch v b c) = is_operand scope v && is_block_number scope b && is_block_number scope c
is_inst scope RetVoid = true
is_inst scope (Ret t v) = is_typed scope t v
is_inst scope Unreachable = true
is_inst scope (Alloca t count align) = is_type t
is_inst scope (Gep elem count b t v) = is_type elem && is_base scope b && is_typed scope t v
is_inst scope (Load t a align) = is_type t && is_addr scope a
is_inst scope (LoadAtomic t a order align) = is_type t && is_addr scope a
is_inst scope (Store t v a align) = is_typed scope t v && is_addr scope a
is_inst scope (StoreAtomic t v a order align) = is_typed scope t v && is_addr scope a
is_inst scope (Cmpxchg weak a t v u w success failure align) = is_addr scope a && is_typed scope t v && is_typed scope u w
is_inst scope (Rmw op a t v order align) = is_addr scope a && is_typed scope t v
is_inst scope (Fence single_thread order) = true
is_inst scope (Extract t v part) = is_typed scope t v && nat_lt part 2
is_inst scope (Call t name args) = is_result_type t && is_callee_name name && list_all (is_arg scope) args

-- other instructions, and one terminator last
abbrev pub is_body : List Inst → Bool
is_body [] = false
is_body (i ∷ insts) =
    if is_terminator i then not (is_nonempty insts) else not (is_phi i) && is_body insts

-- phis, and then a body
abbrev pub is_order : List Inst → Bool
is_order insts = is_body (drop (prefix_len is_phi insts) insts)

abbrev pub is_block : NameCounts → Block → Bool
is_block scope b = is_order b.insts && list_all (is_inst scope) b.insts

-- the function's instructions, whose positions are their numbers
abbrev pub insts_of : Function → List Inst
insts_of f = flat_map (λ b. b.insts) f.blocks

abbrev pub scope_of : ℕ → Function → NameCounts
scope_of globals f = record { globals = globals; params = length f.params; blocks = length f.blocks; insts = insts_of f }

abbrev pub is_bit : Ty → Bool
is_bit I1 = true
is_bit _ = false

abbrev pub is_function : ℕ → Function → Bool
is_function globals f =
    is_function_name f.name
    && (if f.is_void then is_bit f.result else is_type f.result)
    && list_all is_type f.params
    && is_nonempty f.blocks
    && list_all (is_block (scope_of globals f)) f.blocks

-- a number for each element, and not all zero; none where all are
abbrev pub is_init : ℕ → List Operand → Bool
is_init count [] = true
is_init count init = length init == count && list_all is_constant init && not (list_all is_zero init)

abbrev pub is_global : Global → Bool
is_global g = is_global_name g.name && is_type g.elem && is_init g.count g.init

abbrev pub names_of : Module → List (List ℕ)
names_of m = map (λ g. g.name) m.globals ++ map (λ f. f.name) m.functions

abbrev pub is_module : Module → Bool
is_module m =
    all_differ (names_of m)
    && list_all is_global m.globals
    && list_all (is_function (length m.globals)) m.functions

-- ---- counts: what is named by a number is named by one of 32 bits

abbrev pub is_count : ℕ → Bool
is_count n = nat_lt n (2 ^ 32)

abbrev pub is_function_counted : Function → Bool
is_function_counted f = is_count (length f.params) && is_count (length f.blocks) && is_count (length (insts_of f))

abbrev pub is_counted : Module → Bool
is_counted m =
    is_count (length m.globals)
    && is_count (length m.functions)
    && list_all is_function_counted m.functions

-- A module is well formed exactly where some text of LLVM's language derives it.
pub record IsModule (m : Module) : Type 0 where
  pub formed : IsTrue (is_module m)
  pub numbers : IsTrue (are_numbers_in_range m)
  pub counts : IsTrue (is_counted m)
