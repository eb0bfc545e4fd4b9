-- The tokens of instructions in the canonical text.
use Rattle.std.specs.Prelude.{ℕ, Bool, if◌then◌else◌, Option, Some, None, List, [], ◌∷◌, ◌++◌, codes, decimal}
use Rattle.ax_words.specs.Operation.{operation_word}
use Rattle.ax_words.specs.Orders.{order_word}
use Rattle.ax_module.specs.declared.types.Ty.{Ty}
use Rattle.ax_module.specs.declared.operand.Operand.{Operand}
use Rattle.ax_module.specs.declared.inst.Inst.{Inst}
use Rattle.ax_module.specs.declared.inst.Inst.TheVariants.{Bin, Icmp, Select, Convert, Phi, Jump, Branch, RetVoid, Ret, Unreachable, Alloca, Gep, Load, LoadAtomic, Store, StoreAtomic, Cmpxchg, Rmw, Fence, Extract, Call}
use Rattle.ax_module.specs.Kinds.{has_result}
use Rattle.ax_module.specs.Names.{global_token}
use Rattle.ax_ir.specs.OperandTokens.{parted, type_tokens, elements_tokens, align_tokens, value_token, block_token, label_tokens, operand_token, typed_tokens, gep_tokens, addr_tokens, arg_tokens}
use Rattle.ax_module.specs.Words.{binary_word, condition_word, cast_word}

unfoldable pub entry_tokens : Operand × ℕ → List (List ℕ)
entry_tokens e = codes "[" ∷ operand_token e.0 ∷ codes "," ∷ block_token e.1 ∷ codes "]" ∷ []

-- where there is no type, `void`
abbrev pub result_type_tokens : Option Ty → List (List ℕ)
result_type_tokens None = codes "void" ∷ []
result_type_tokens (Some t) = type_tokens t

unfoldable pub weak_tokens : Bool → List (List ℕ)
weak_tokens weak = if weak then codes "weak" ∷ [] else []

unfoldable pub scope_tokens : Bool → List (List ℕ)
scope_tokens single_thread = if single_thread then codes "syncscope" ∷ codes "(" ∷ (34 ∷ codes "singlethread" ++ 34 ∷ []) ∷ codes ")" ∷ [] else []

-- the type of a pair of which this is the first part's type
unfoldable pub pair_tokens : Ty → List (List ℕ)
pair_tokens t = codes "{" ∷ type_tokens t ++ codes "," ∷ codes "i1" ∷ codes "}" ∷ []

-- an instruction without its result; `names` has the globals' tokens
unfoldable pub inst_tokens : List (List ℕ) → Inst → List (List ℕ)
inst_tokens names (Bin op t v w) = binary_word op ∷ typed_tokens t v ++ codes "," ∷ operand_token w ∷ []
inst_tokens names (Icmp condition t v w) = codes "icmp" ∷ condition_word condition ∷ typed_tokens t v ++ codes "," ∷ operand_token w ∷ []
inst_tokens names (Select c t v u w) = codes "select" ∷ codes "i1" ∷ operand_token c ∷ codes "," ∷ typed_tokens t v ++ codes "," ∷ typed_tokens u w
inst_tokens names (Convert cast t v u) = cast_word cast ∷ typed_tokens t v ++ codes "to" ∷ type_tokens u
inst_tokens names (Phi t entries) = codes "phi" ∷ type_tokens t ++ parted entry_tokens entries
inst_tokens names (Jump b) = codes "br" ∷ label_tokens b
inst_tokens names (Branch v b c) = codes "br" ∷ codes "i1" ∷ operand_token v ∷ codes "," ∷ label_tokens b ++ codes "," ∷ label_tokens c
inst_tokens names RetVoid = codes "ret" ∷ codes "void" ∷ []
inst_tokens names (Ret t v) = codes "ret" ∷ typed_tokens t v
inst_tokens names Unreachable = codes "unreachable" ∷ []
inst_tokens names (Alloca t count align) = codes "alloca" ∷ elements_tokens count t ++ align_tokens align
inst_tokens names (Gep elem count b t v) = codes "getelementptr" ∷ gep_tokens names elem count b t v
inst_tokens names (Load t a align) = codes "load" ∷ type_tokens t ++ codes "," ∷ addr_tokens names a ++ align_tokens align
inst_tokens names (LoadAtomic t a order align) = codes "load" ∷ codes "atomic" ∷ type_tokens t ++ codes "," ∷ addr_tokens names a ++ order_word order ∷ align_tokens (Some align)
inst_tokens names (Store t v a align) = codes "store" ∷ typed_tokens t v ++ codes "," ∷ addr_tokens names a ++ align_tokens align
inst_tokens names (StoreAtomic t v a order align) = codes "store" ∷ codes "atomic" ∷ typed_tokens t v ++ codes "," ∷ addr_tokens names a ++ order_word order ∷ align_tokens (Some align)
inst_tokens names (Cmpxchg weak a t v u w success failure align) = codes "cmpxchg" ∷ weak_tokens weak ++ addr_tokens names a ++ codes "," ∷ typed_tokens t v ++ codes "," ∷ typed_tokens u w ++ order_word success ∷ order_word failure ∷ align_tokens (Some align)
inst_tokens names (Rmw op a t v order align) = codes "atomicrmw" ∷ operation_word op ∷ addr_tokens names a ++ codes "," ∷ typed_tokens t v ++ order_word order ∷ align_tokens (Some align)
inst_tokens names (Fence single_thread order) = codes "fence" ∷ scope_tokens single_thread ++ order_word order ∷ []
inst_tokens names (Extract t v part) = codes "extractvalue" ∷ pair_tokens t ++ operand_token v ∷ codes "," ∷ decimal part ∷ []
inst_tokens names (Call t name args) = codes "call" ∷ result_type_tokens t ++ global_token name ∷ codes "(" ∷ parted (arg_tokens names) args ++ codes ")" ∷ []

-- its result in front, where it has one
abbrev pub result_tokens : ℕ → Inst → List (List ℕ)
result_tokens k i = if has_result i then value_token k ∷ codes "=" ∷ [] else []

-- instruction number k of its function
abbrev pub numbered_inst_tokens : List (List ℕ) → ℕ → Inst → List (List ℕ)
numbered_inst_tokens names k i = result_tokens k i ++ inst_tokens names i
