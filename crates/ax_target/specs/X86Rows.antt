-- The rows of x86-64 (Intel SDM volume 3, "Memory Ordering").
use Rattle.std.specs.Prelude.{ℕ, List, [], ◌∷◌}
use Rattle.ax_words.specs.declared.order.Order.{Order}
use Rattle.ax_words.specs.declared.order.Order.TheVariants.{SeqCst}
use Rattle.ax_words.specs.declared.operation.RmwOp.TheVariants.{Xchg as Exchange, Add, Sub}
use Rattle.ax_words.specs.declared.width.Width.{Width}
use Rattle.ax_words.specs.declared.width.Width.TheVariants.{W128}
use Rattle.ax_words.specs.declared.mark.Op.{Op}
use Rattle.ax_words.specs.declared.mark.Op.TheVariants.{Load, Store, Cmpxchg, Rmw, Fence}
use Rattle.ax_words.specs.declared.mark.Mark.{Mark}
use Rattle.ax_words.specs.declared.mark.Mark.TheVariants.{Memory, Fence as Fencing}
use Rattle.ax_words.specs.declared.mark.MarkCode.{MarkCode}
use Rattle.ax_words.specs.declared.mark.MarkCode.TheVariants.{X86Load, X86Store, Xchg, LockXadd, LockCmpxchg, LockCmpxchg16b}
use Rattle.ax_words.specs.declared.mark.FenceCode.TheVariants.{Mfence}
use Rattle.ax_words.specs.Width.{bytes_of}

abbrev pub x86_fence : Order → List Mark
x86_fence SeqCst = Fencing Mfence ∷ []
x86_fence _ = []

abbrev pub x86_store : Order → MarkCode
x86_store SeqCst = Xchg
x86_store _ = X86Store

-- up to 8 bytes
abbrev pub x86_small : Op → Order → ℕ → List Mark
x86_small Load order bytes = Memory X86Load bytes ∷ []
x86_small Store order bytes = Memory (x86_store order) bytes ∷ []
x86_small Cmpxchg order bytes = Memory LockCmpxchg bytes ∷ []
x86_small (Rmw Exchange) order bytes = Memory Xchg bytes ∷ []
x86_small (Rmw Add) order bytes = Memory LockXadd bytes ∷ []
x86_small (Rmw Sub) order bytes = Memory LockXadd bytes ∷ []
x86_small _ order bytes = []

abbrev pub x86_inline : Op → Order → Width → List Mark
x86_inline Fence order width = x86_fence order
x86_inline Load order W128 = Memory LockCmpxchg16b 16 ∷ []
x86_inline Cmpxchg order W128 = Memory LockCmpxchg16b 16 ∷ []
x86_inline _ order W128 = []
x86_inline op order width = x86_small op order (bytes_of width)

abbrev pub x86_loop : Width → List Mark
x86_loop W128 = Memory LockCmpxchg16b 16 ∷ Memory LockCmpxchg16b 16 ∷ []
x86_loop width = Memory X86Load (bytes_of width) ∷ Memory LockCmpxchg (bytes_of width) ∷ []
