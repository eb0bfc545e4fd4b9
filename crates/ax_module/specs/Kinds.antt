-- The kinds of instructions that a block tells apart, and which instructions have a result.
use Rattle.std.specs.Prelude.{Bool, true, false, None}
use Rattle.ax_module.specs.declared.inst.Inst.{Inst}
use Rattle.ax_module.specs.declared.inst.Inst.TheVariants.{Phi, Jump, Branch, RetVoid, Ret, Unreachable, Store, StoreAtomic, Fence, Call}

unfoldable pub is_phi : Inst → Bool
is_phi (Phi t entries) = true
is_phi _ = false

unfoldable pub is_terminator : Inst → Bool
is_terminator (Jump b) = true
is_terminator (Branch v b c) = true
is_terminator RetVoid = true
is_terminator (Ret t v) = true
is_terminator Unreachable = true
is_terminator _ = false

unfoldable pub has_result : Inst → Bool
has_result (Jump b) = false
has_result (Branch v b c) = false
has_result RetVoid = false
has_result (Ret t v) = false
has_result Unreachable = false
has_result (Store t v a n) = false
has_result (StoreAtomic t v a o n) = false
has_result (Fence s o) = false
has_result (Call None name args) = false
has_result _ = true
