-- The tokens of instructions.
use Rattle.std.proofs.Common.{◌≡◌, ℕ, Bool, true, Option, Some, None, List, [], ◌∷◌, ◌++◌, refl}
use Rattle.std.specs.Prelude.{not, ◌&&◌, codes}
use Rattle.std.specs.List.{list_all}
use Rattle.std.proofs.lemmas.Bool.{and_parts}
use Rattle.ax_words.specs.declared.operation.RmwOp.{RmwOp}
use Rattle.ax_words.specs.declared.operation.RmwOp.TheVariants as rmw
use Rattle.ax_words.specs.declared.order.Order.{Order}
use Rattle.ax_words.specs.declared.order.Order.TheVariants as order
use Rattle.ax_words.specs.Operation.{operation_word}
use Rattle.ax_words.specs.Orders.{order_word}
use Rattle.ax_module.specs.declared.types.Ty.{Ty}
use Rattle.ax_module.specs.declared.operand.Operand.{Operand}
use Rattle.ax_module.specs.declared.inst.BinOp.{BinOp}
use Rattle.ax_module.specs.declared.inst.BinOp.TheVariants as bin
use Rattle.ax_module.specs.declared.inst.Pred.{Pred}
use Rattle.ax_module.specs.declared.inst.Pred.TheVariants as pred
use Rattle.ax_module.specs.declared.inst.Cast.{Cast}
use Rattle.ax_module.specs.declared.inst.Cast.TheVariants as cast
use Rattle.ax_module.specs.declared.inst.Inst.{Inst}
use Rattle.ax_module.specs.declared.inst.Inst.TheVariants.{Bin, Icmp, Select, Convert, Phi, Jump, Branch, RetVoid, Ret, Unreachable, Alloca, Gep, Load, LoadAtomic, Store, StoreAtomic, Cmpxchg, Rmw, Fence, Extract, Call}
use Rattle.ax_module.specs.Kinds.{has_result}
use Rattle.ax_module.specs.Names.{is_name}
use Rattle.ax_ir.specs.OperandTokens.{arg_tokens}
use Rattle.ax_ir.specs.InstTokens.{entry_tokens, result_type_tokens, weak_tokens, scope_tokens, pair_tokens, inst_tokens, result_tokens, numbered_inst_tokens}
use Rattle.ax_module.specs.WellFormed.{NameCounts, begins_with, is_type, is_typed, is_base, is_addr, is_arg, is_result_type, is_callee_name, is_inst}
use Rattle.ax_module.specs.Words.{binary_word, condition_word, cast_word}
use Rattle.ax_again.proofs.Fit.{IsFit, Fit, empty, also, both, word, last, one, either, parted_where, parted_all}
use Rattle.ax_again.proofs.Bytes.{decimal_fit, value_fit, block_fit, global_fit}
use Rattle.ax_again.proofs.Operands.{NamesFit, type_fit, elements_fit, align_fit, labels_fit, operand_fit, typed_fit, base_fit, gep_fit, addr_fit, arg_fit}

-- ---- words

binary_fit : (op : BinOp) → IsFit (binary_word op)
binary_fit bin.Add = record { fit = refl }
binary_fit _ = record { fit = refl }

condition_fit : (c : Pred) → IsFit (condition_word c)
condition_fit pred.Eq = record { fit = refl }
condition_fit _ = record { fit = refl }

cast_fit : (c : Cast) → IsFit (cast_word c)
cast_fit cast.Zext = record { fit = refl }
cast_fit _ = record { fit = refl }

operation_fit : (op : RmwOp) → IsFit (operation_word op)
operation_fit rmw.Xchg = record { fit = refl }
operation_fit _ = record { fit = refl }

order_fit : (o : Order) → IsFit (order_word o)
order_fit order.Unordered = record { fit = refl }
order_fit _ = record { fit = refl }

-- ---- parts

entry_fit : (e : Operand × ℕ) → Fit (entry_tokens e)
unfolding entry_tokens
entry_fit e = word (codes "[") refl (also (operand_fit e.0) (word (codes ",") refl (also (block_fit e.1) (last (codes "]") refl))))

result_type_fit : (t : Option Ty) → Fit (result_type_tokens t)
result_type_fit None = last (codes "void") refl
result_type_fit (Some t) = type_fit t

weak_fit : (weak : Bool) → Fit (weak_tokens weak)
unfolding weak_tokens
weak_fit weak = either weak (last (codes "weak") refl) empty

scope_fit : (single_thread : Bool) → Fit (scope_tokens single_thread)
unfolding scope_tokens
scope_fit single_thread =
    either single_thread
    (word (codes "syncscope") refl (word (codes "(") refl (word (34 ∷ codes "singlethread" ++ 34 ∷ []) refl (last (codes ")") refl))))
    empty

pair_fit : (t : Ty) → Fit (pair_tokens t)
unfolding pair_tokens
pair_fit t = word (codes "{") refl (both (type_fit t) (word (codes ",") refl (word (codes "i1") refl (last (codes "}") refl))))

-- ---- instructions

inst_fit : (scope : NameCounts) (names : List (List ℕ)) → NamesFit names scope.globals → (i : Inst) → is_inst scope i ≡ true → Fit (inst_tokens names i)
unfolding inst_tokens is_inst
inst_fit scope names f (Bin op t v w) h =
    also (binary_fit op) (both (typed_fit t v) (word (codes ",") refl (one (operand_fit w))))
inst_fit scope names f (Icmp condition t v w) h =
    word (codes "icmp") refl (also (condition_fit condition) (both (typed_fit t v) (word (codes ",") refl (one (operand_fit w)))))
inst_fit scope names f (Select c t v u w) h =
    word (codes "select") refl (word (codes "i1") refl (also (operand_fit c) (word (codes ",") refl (both (typed_fit t v) (word (codes ",") refl (typed_fit u w))))))
inst_fit scope names f (Convert c t v u) h =
    also (cast_fit c) (both (typed_fit t v) (word (codes "to") refl (type_fit u)))
inst_fit scope names f (Phi t entries) h =
    word (codes "phi") refl (both (type_fit t) (parted_all entry_tokens entry_fit entries))
inst_fit scope names f (Jump b) h = word (codes "br") refl (labels_fit b)
inst_fit scope names f (Branch v b c) h =
    word (codes "br") refl (word (codes "i1") refl (also (operand_fit v) (word (codes ",") refl (both (labels_fit b) (word (codes ",") refl (labels_fit c))))))
inst_fit scope names f RetVoid h = word (codes "ret") refl (last (codes "void") refl)
inst_fit scope names f (Ret t v) h = word (codes "ret") refl (typed_fit t v)
inst_fit scope names f Unreachable h = last (codes "unreachable") refl
inst_fit scope names f (Alloca t count align) h = word (codes "alloca") refl (both (elements_fit count t) (align_fit align))
inst_fit scope names f (Gep elem count b t v) h =
    let front = and_parts (is_type elem && is_base scope b) (is_typed scope t v) h in
    let based = and_parts (is_type elem) (is_base scope b) front.0 in
    word (codes "getelementptr") refl (gep_fit names elem count b t v (base_fit scope names f b based.1))
inst_fit scope names f (Load t a align) h =
    let at = addr_fit scope names f a (and_parts (is_type t) (is_addr scope a) h).1 in
    word (codes "load") refl (both (both (type_fit t) (word (codes ",") refl at)) (align_fit align))
inst_fit scope names f (LoadAtomic t a o align) h =
    let at = addr_fit scope names f a (and_parts (is_type t) (is_addr scope a) h).1 in
    word (codes "load") refl (word (codes "atomic") refl (both (both (type_fit t) (word (codes ",") refl at)) (also (order_fit o) (align_fit (Some align)))))
inst_fit scope names f (Store t v a align) h =
    let at = addr_fit scope names f a (and_parts (is_typed scope t v) (is_addr scope a) h).1 in
    word (codes "store") refl (both (both (typed_fit t v) (word (codes ",") refl at)) (align_fit align))
inst_fit scope names f (StoreAtomic t v a o align) h =
    let at = addr_fit scope names f a (and_parts (is_typed scope t v) (is_addr scope a) h).1 in
    word (codes "store") refl (word (codes "atomic") refl (both (both (typed_fit t v) (word (codes ",") refl at)) (also (order_fit o) (align_fit (Some align)))))
inst_fit scope names f (Cmpxchg weak a t v u w success failure align) h =
    let front = and_parts (is_addr scope a && is_typed scope t v) (is_typed scope u w) h in
    let at = addr_fit scope names f a (and_parts (is_addr scope a) (is_typed scope t v) front.0).0 in
    let places = both (weak_fit weak) at in
    let values = both (both places (word (codes ",") refl (typed_fit t v))) (word (codes ",") refl (typed_fit u w)) in
    word (codes "cmpxchg") refl (both values (also (order_fit success) (also (order_fit failure) (align_fit (Some align)))))
inst_fit scope names f (Rmw op a t v o align) h =
    let at = addr_fit scope names f a (and_parts (is_addr scope a) (is_typed scope t v) h).0 in
    word (codes "atomicrmw") refl (also (operation_fit op) (both (both at (word (codes ",") refl (typed_fit t v))) (also (order_fit o) (align_fit (Some align)))))
inst_fit scope names f (Fence single_thread o) h = word (codes "fence") refl (both (scope_fit single_thread) (one (order_fit o)))
inst_fit scope names f (Extract t v part) h =
    word (codes "extractvalue") refl (both (pair_fit t) (also (operand_fit v) (word (codes ",") refl (one (decimal_fit part)))))
inst_fit scope names f (Call t name args) h =
    let front = and_parts (is_result_type t && is_callee_name name) (list_all (is_arg scope) args) h in
    let callee = and_parts (is_result_type t) (is_callee_name name) front.0 in
    let named = global_fit name (and_parts (is_name name) (not (begins_with (codes "llvm.lifetime.") name)) callee.1).0 in
    let passed = parted_where (arg_tokens names) (is_arg scope) (arg_fit scope names f) args front.1 in
    word (codes "call") refl (both (both (result_type_fit t) (also named (word (codes "(") refl passed))) (last (codes ")") refl))

results_fit : (k : ℕ) (i : Inst) → Fit (result_tokens k i)
results_fit k i = either (has_result i) (also (value_fit k) (last (codes "=") refl)) empty

pub numbered_fit : (scope : NameCounts) (names : List (List ℕ)) → NamesFit names scope.globals → (k : ℕ) (i : Inst) → is_inst scope i ≡ true → Fit (numbered_inst_tokens names k i)
numbered_fit scope names f k i h = both (results_fit k i) (inst_fit scope names f i h)
