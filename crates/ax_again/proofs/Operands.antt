-- The tokens of types, operands and pointers.
use Rattle.std.proofs.Common.{◌≡◌, ℕ, true, Option, Some, None, List, [], refl}
use Rattle.std.specs.Prelude.{◌==◌, nat_lt, codes, slice_index_or}
use Rattle.std.proofs.lemmas.Bool.{and_parts}
use Rattle.ax_module.specs.declared.types.Ty.{Ty}
use Rattle.ax_module.specs.declared.types.Ty.TheVariants as ty
use Rattle.ax_module.specs.declared.operand.Operand.{Operand}
use Rattle.ax_module.specs.declared.operand.Operand.TheVariants as operand
use Rattle.ax_module.specs.declared.operand.Base.{Base}
use Rattle.ax_module.specs.declared.operand.Base.TheVariants as base
use Rattle.ax_module.specs.declared.operand.Addr.{Addr}
use Rattle.ax_module.specs.declared.operand.Arg.{Arg}
use Rattle.ax_module.specs.declared.operand.Arg.TheVariants as arg
use Rattle.ax_ir.specs.OperandTokens.{type_tokens, array_tokens, elements_tokens, align_tokens, label_tokens, operand_token, typed_tokens, base_token, pointer_tokens, gep_tokens, constant_gep_tokens, step_tokens, addr_tokens, arg_tokens}
use Rattle.ax_module.specs.WellFormed.{NameCounts, is_base, is_step, is_addr, is_arg}
use Rattle.ax_again.proofs.Fit.{IsFit, Fit, empty, also, both, word, last, one, either}
use Rattle.ax_again.proofs.Bytes.{decimal_fit, signed_fit, width_fit, value_fit, param_fit, block_fit}

pub type_fit : (t : Ty) → Fit (type_tokens t)
type_fit ty.I1 = last (codes "i1") refl
type_fit ty.I8 = last (codes "i8") refl
type_fit ty.I16 = last (codes "i16") refl
type_fit ty.I32 = last (codes "i32") refl
type_fit ty.I64 = last (codes "i64") refl
type_fit ty.I128 = last (codes "i128") refl
type_fit (ty.Int bits) = one (width_fit bits)
type_fit ty.Float = last (codes "float") refl
type_fit ty.Double = last (codes "double") refl
type_fit ty.Ptr = last (codes "ptr") refl
type_fit ty.Vector = word (codes "<") refl (word (codes "1") refl (word (codes "x") refl (word (codes "i8") refl (last (codes ">") refl))))

pub array_fit : (count : ℕ) (t : Ty) → Fit (array_tokens count t)
unfolding array_tokens
array_fit count t = word (codes "[") refl (also (decimal_fit count) (word (codes "x") refl (both (type_fit t) (last (codes "]") refl))))

pub elements_fit : (count : ℕ) (t : Ty) → Fit (elements_tokens count t)
unfolding elements_tokens
elements_fit count t = either (count == 1) (type_fit t) (array_fit count t)

pub align_fit : (align : Option ℕ) → Fit (align_tokens align)
align_fit None = empty
align_fit (Some bytes) = word (codes ",") refl (word (codes "align") refl (one (decimal_fit bytes)))

pub labels_fit : (k : ℕ) → Fit (label_tokens k)
unfolding label_tokens
labels_fit k = word (codes "label") refl (one (block_fit k))

pub operand_fit : (v : Operand) → IsFit (operand_token v)
operand_fit (operand.Const n) = signed_fit n
operand_fit (operand.Wide n) = decimal_fit n
operand_fit (operand.Value k) = value_fit k
operand_fit (operand.Param k) = param_fit k

pub typed_fit : (t : Ty) (v : Operand) → Fit (typed_tokens t v)
unfolding typed_tokens
typed_fit t v = both (type_fit t) (one (operand_fit v))

-- the tokens of so many globals
abbrev pub NamesFit : List (List ℕ) → ℕ → Type 0
NamesFit names count = (g : ℕ) → nat_lt g count ≡ true → IsFit (slice_index_or names g [])

pub base_fit : (scope : NameCounts) (names : List (List ℕ)) → NamesFit names scope.globals → (b : Base) → is_base scope b ≡ true → IsFit (base_token names b)
base_fit scope names f (base.Global g) h = f g h
base_fit scope names f (base.Value k) h = value_fit k
base_fit scope names f (base.Param k) h = param_fit k

pub pointer_fit : (names : List (List ℕ)) (b : Base) → IsFit (base_token names b) → Fit (pointer_tokens names b)
unfolding pointer_tokens
pointer_fit names b f = word (codes "ptr") refl (one f)

pub gep_fit : (names : List (List ℕ)) (elem : Ty) (count : ℕ) (b : Base) (t : Ty) (v : Operand) → IsFit (base_token names b) → Fit (gep_tokens names elem count b t v)
unfolding gep_tokens
gep_fit names elem count b t v f =
    both (either (count == 0)
    (both (type_fit elem) (word (codes ",") refl (pointer_fit names b f)))
    (both (both (array_fit count elem) (word (codes ",") refl (pointer_fit names b f))) (word (codes ",") refl (word (codes "i64") refl (last (codes "0") refl)))))
    (word (codes ",") refl (typed_fit t v))

constant_gep_fit : (names : List (List ℕ)) (elem : Ty) (count : ℕ) (b : Base) (t : Ty) (v : Operand) → IsFit (base_token names b) → Fit (constant_gep_tokens names elem count b t v)
unfolding constant_gep_tokens
constant_gep_fit names elem count b t v f =
    word (codes "ptr") refl (word (codes "getelementptr") refl (word (codes "(") refl (both (gep_fit names elem count b t v f) (last (codes ")") refl))))

step_fit : (names : List (List ℕ)) (b : Base) (step : Option (Ty × ℕ × Ty × Operand)) → IsFit (base_token names b) → Fit (step_tokens names b step)
step_fit names b None f = pointer_fit names b f
step_fit names b (Some s) f = constant_gep_fit names s.0 s.1 b s.2 s.3 f

pub addr_fit : (scope : NameCounts) (names : List (List ℕ)) → NamesFit names scope.globals → (a : Addr) → is_addr scope a ≡ true → Fit (addr_tokens names a)
addr_fit scope names f a h = step_fit names a.base a.step (base_fit scope names f a.base (and_parts (is_base scope a.base) (is_step scope a.step) h).0)

pub arg_fit : (scope : NameCounts) (names : List (List ℕ)) → NamesFit names scope.globals → (a : Arg) → is_arg scope a ≡ true → Fit (arg_tokens names a)
arg_fit scope names f (arg.Pointer a) h = addr_fit scope names f a h
arg_fit scope names f (arg.Value t v) h = typed_fit t v
