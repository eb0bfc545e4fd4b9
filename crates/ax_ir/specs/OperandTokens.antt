-- The tokens of types, operands and pointers in the canonical text.
use Rattle.std.specs.Prelude.{ℕ, ◌==◌, if◌then◌else◌, Option, Some, None, List, [], ◌∷◌, ◌++◌, codes, decimal, flat_map, slice_index_or}
use Rattle.std.specs.Fmt.{signed_decimal}
use Rattle.ax_module.specs.declared.types.Ty.{Ty}
use Rattle.ax_module.specs.declared.types.Ty.TheVariants.{I1, I8, I16, I32, I64, I128, Int, Float, Double, Ptr, Vector}
use Rattle.ax_module.specs.declared.operand.Operand.{Operand}
use Rattle.ax_module.specs.declared.operand.Operand.TheVariants.{Const, Wide, Value, Param}
use Rattle.ax_module.specs.declared.operand.Base.{Base}
use Rattle.ax_module.specs.declared.operand.Base.TheVariants as base
use Rattle.ax_module.specs.declared.operand.Addr.{Addr}
use Rattle.ax_module.specs.declared.operand.Arg.{Arg}
use Rattle.ax_module.specs.declared.operand.Arg.TheVariants as arg

-- the items' tokens, parted by commas
abbrev pub parted : {A : Type 0} → (A → List (List ℕ)) → List A → List (List ℕ)
parted f [] = []
parted f (x ∷ xs) = f x ++ flat_map (λ y. codes "," ∷ f y) xs

-- a vector's elements are not kept
abbrev pub type_tokens : Ty → List (List ℕ)
type_tokens I1 = codes "i1" ∷ []
type_tokens I8 = codes "i8" ∷ []
type_tokens I16 = codes "i16" ∷ []
type_tokens I32 = codes "i32" ∷ []
type_tokens I64 = codes "i64" ∷ []
type_tokens I128 = codes "i128" ∷ []
type_tokens (Int bits) = (codes "i" ++ decimal bits) ∷ []
type_tokens Float = codes "float" ∷ []
type_tokens Double = codes "double" ∷ []
type_tokens Ptr = codes "ptr" ∷ []
type_tokens Vector = codes "<" ∷ codes "1" ∷ codes "x" ∷ codes "i8" ∷ codes ">" ∷ []

unfoldable pub array_tokens : ℕ → Ty → List (List ℕ)
array_tokens count t = codes "[" ∷ decimal count ∷ codes "x" ∷ [] ++ type_tokens t ++ codes "]" ∷ []

-- the type of a global or an alloca: one element has no array
unfoldable pub elements_tokens : ℕ → Ty → List (List ℕ)
elements_tokens count t = if count == 1 then type_tokens t else array_tokens count t

abbrev pub align_tokens : Option ℕ → List (List ℕ)
align_tokens None = []
align_tokens (Some bytes) = codes "," ∷ codes "align" ∷ decimal bytes ∷ []

-- the result of instruction k, parameter k, block k
abbrev pub value_token : ℕ → List ℕ
value_token k = codes "%v" ++ decimal k

abbrev pub param_token : ℕ → List ℕ
param_token k = codes "%p" ++ decimal k

abbrev pub block_token : ℕ → List ℕ
block_token k = codes "%b" ++ decimal k

unfoldable pub label_tokens : ℕ → List (List ℕ)
label_tokens k = codes "label" ∷ block_token k ∷ []

abbrev pub operand_token : Operand → List ℕ
operand_token (Const n) = signed_decimal n
operand_token (Wide n) = decimal n
operand_token (Value k) = value_token k
operand_token (Param k) = param_token k

unfoldable pub typed_tokens : Ty → Operand → List (List ℕ)
typed_tokens t v = type_tokens t ++ operand_token v ∷ []

-- `names` has the globals' tokens
abbrev pub base_token : List (List ℕ) → Base → List ℕ
base_token names (base.Global g) = slice_index_or names g []
base_token names (base.Value k) = value_token k
base_token names (base.Param k) = param_token k

unfoldable pub pointer_tokens : List (List ℕ) → Base → List (List ℕ)
pointer_tokens names b = codes "ptr" ∷ base_token names b ∷ []

-- the array's type and its first index, or the element type alone where there is no array
unfoldable pub gep_tokens : List (List ℕ) → Ty → ℕ → Base → Ty → Operand → List (List ℕ)
gep_tokens names elem count b t v =
    (if count == 0
    then type_tokens elem ++ codes "," ∷ pointer_tokens names b
    else array_tokens count elem ++ codes "," ∷ pointer_tokens names b ++ codes "," ∷ codes "i64" ∷ codes "0" ∷ [])
    ++ codes "," ∷ typed_tokens t v

-- a getelementptr that is a constant
unfoldable pub constant_gep_tokens : List (List ℕ) → Ty → ℕ → Base → Ty → Operand → List (List ℕ)
constant_gep_tokens names elem count b t v = codes "ptr" ∷ codes "getelementptr" ∷ codes "(" ∷ gep_tokens names elem count b t v ++ codes ")" ∷ []

abbrev pub step_tokens : List (List ℕ) → Base → Option (Ty × ℕ × Ty × Operand) → List (List ℕ)
step_tokens names b None = pointer_tokens names b
step_tokens names b (Some s) = constant_gep_tokens names s.0 s.1 b s.2 s.3

abbrev pub addr_tokens : List (List ℕ) → Addr → List (List ℕ)
addr_tokens names a = step_tokens names a.base a.step

abbrev pub arg_tokens : List (List ℕ) → Arg → List (List ℕ)
arg_tokens names (arg.Pointer a) = addr_tokens names a
arg_tokens names (arg.Value t v) = typed_tokens t v
