-- What lines state, with numbers in place of names.
use Rattle.std.specs.Prelude.{ℕ, List, [], ◌∷◌, Option, None, Some}
use Rattle.ax_module.specs.declared.types.Ty.{Ty}
use Rattle.ax_module.specs.declared.operand.Operand.{Operand}
use Rattle.ax_module.specs.declared.operand.Operand.TheVariants as operand
use Rattle.ax_module.specs.declared.operand.Base.{Base}
use Rattle.ax_module.specs.declared.operand.Base.TheVariants as base
use Rattle.ax_module.specs.declared.operand.Addr.{Addr}
use Rattle.ax_module.specs.declared.operand.Arg.{Arg}
use Rattle.ax_module.specs.declared.operand.Arg.TheVariants as arg
use Rattle.ax_module.specs.declared.inst.Inst.{Inst}
use Rattle.ax_module.specs.declared.inst.Inst.TheVariants as inst
use Rattle.ax_module.specs.Types.{type_bytes}
use Rattle.ax_symbols.specs.declared.symbol.NameSpan.{NameSpan}
use Rattle.ax_symbols.specs.declared.values.Value.{Value}
use Rattle.ax_symbols.specs.declared.values.Value.TheVariants as value
use Rattle.ax_symbols.specs.declared.values.Base.{Base as NamedBase}
use Rattle.ax_symbols.specs.declared.values.Base.TheVariants as named
use Rattle.ax_lines.specs.declared.statement.Pointer.{Pointer}
use Rattle.ax_lines.specs.declared.statement.Pointer.TheVariants as pointer
use Rattle.ax_lines.specs.declared.statement.Argument.{Argument}
use Rattle.ax_lines.specs.declared.statement.Argument.TheVariants as argument
use Rattle.ax_lines.specs.declared.statement.Statement.{Statement}
use Rattle.ax_lines.specs.declared.statement.Statement.TheVariants as statement
use Rattle.ax_scope.specs.declared.meaning.Meaning.{Meaning}
use Rattle.ax_scope.specs.declared.meaning.Meaning.TheVariants as meaning
use Rattle.ax_scope.specs.Names.{text_at}

-- What each name stands for at the lines of a function, and the text that the names stand in.
pub record Looks : Type 0 where
  pub text : List ℕ
  pub globals : List ℕ → Option Meaning
  pub values : List ℕ → Option Meaning
  pub blocks : List ℕ → Option Meaning

-- None where the first is none
infixl 1 ◌>>=◌
abbrev pub ◌>>=◌ : {A B : Type 0} → Option A → (A → Option B) → Option B
None >>= f = None
Some a >>= f = f a

-- ---- names

abbrev pub operand_in : Option Meaning → Option Operand
operand_in (Some (meaning.Value k)) = Some (operand.Value k)
operand_in (Some (meaning.Param k)) = Some (operand.Param k)
operand_in _ = None

abbrev pub local_in : Option Meaning → Option Base
local_in (Some (meaning.Value k)) = Some (base.Value k)
local_in (Some (meaning.Param k)) = Some (base.Param k)
local_in _ = None

abbrev pub global_in : Option Meaning → Option Base
global_in (Some (meaning.Global k)) = Some (base.Global k)
global_in _ = None

abbrev pub block_in : Option Meaning → Option ℕ
block_in (Some (meaning.Block k)) = Some k
block_in _ = None

-- ---- operands: None where a name stands for nothing

abbrev pub operand_of : Looks → Value → Option Operand
operand_of x (value.Const n) = Some (operand.Const n)
operand_of x (value.Wide n) = Some (operand.Wide n)
operand_of x (value.Local s) = operand_in (x.values (text_at x.text s))

abbrev pub base_of : Looks → NamedBase → Option Base
base_of x (named.Global s) = global_in (x.globals (text_at x.text s))
base_of x (named.Local s) = local_in (x.values (text_at x.text s))

abbrev pub block_of : Looks → NameSpan → Option ℕ
block_of x s = block_in (x.blocks (text_at x.text s))

abbrev pub addr_of : Looks → Pointer → Option Addr
addr_of x (pointer.Base b) = do
  to ← base_of x b
  Some (record { base = to; step = None })
addr_of x (pointer.Element p) = do
  to ← base_of x p.base
  i ← operand_of x p.index
  Some (record { base = to; step = Some (p.elem, p.count, p.index_type, i) })

abbrev pub arg_of : Looks → Argument → Option Arg
arg_of x (argument.Pointer p) = do
  a ← addr_of x p
  Some (arg.Pointer a)
arg_of x (argument.Value t v) = do
  o ← operand_of x v
  Some (arg.Value t o)

abbrev pub args_of : Looks → List Argument → Option (List Arg)
args_of x [] = Some []
args_of x (a ∷ rest) = do
  this ← arg_of x a
  more ← args_of x rest
  Some (this ∷ more)

abbrev pub incoming_of : Looks → List (Value × NameSpan) → Option (List (Operand × ℕ))
incoming_of x [] = Some []
incoming_of x (p ∷ ps) = do
  v ← operand_of x p.0
  b ← block_of x p.1
  more ← incoming_of x ps
  Some ((v, b) ∷ more)

-- ---- instructions

-- the alignment, which is the type's size where none is stated
abbrev pub alignment_or : Ty → Option ℕ → ℕ
alignment_or t None = type_bytes t
alignment_or t (Some a) = a

unfoldable pub inst_of : Looks → Statement → Option Inst
inst_of x (statement.Bin op t v u) = do
  a ← operand_of x v
  b ← operand_of x u
  Some (inst.Bin op t a b)
inst_of x (statement.Icmp pred t v u) = do
  a ← operand_of x v
  b ← operand_of x u
  Some (inst.Icmp pred t a b)
inst_of x (statement.Select v t u s w) = do
  c ← operand_of x v
  a ← operand_of x u
  b ← operand_of x w
  Some (inst.Select c t a s b)
inst_of x (statement.Convert cast from v to) = do
  a ← operand_of x v
  Some (inst.Convert cast from a to)
inst_of x (statement.Phi t ps) = do
  vs ← incoming_of x ps
  Some (inst.Phi t vs)
inst_of x (statement.Jump s) = do
  b ← block_of x s
  Some (inst.Jump b)
inst_of x (statement.Branch v s r) = do
  a ← operand_of x v
  b ← block_of x s
  c ← block_of x r
  Some (inst.Branch a b c)
inst_of x statement.RetVoid = Some inst.RetVoid
inst_of x (statement.Ret t v) = do
  a ← operand_of x v
  Some (inst.Ret t a)
inst_of x statement.Unreachable = Some inst.Unreachable
inst_of x (statement.Alloca t n align) = Some (inst.Alloca t n align)
inst_of x (statement.Gep p) = do
  b ← base_of x p.base
  i ← operand_of x p.index
  Some (inst.Gep p.elem p.count b p.index_type i)
inst_of x (statement.Load t p align) = do
  a ← addr_of x p
  Some (inst.Load t a align)
inst_of x (statement.LoadAtomic t p order align) = do
  a ← addr_of x p
  Some (inst.LoadAtomic t a order align)
inst_of x (statement.Store t v p align) = do
  o ← operand_of x v
  a ← addr_of x p
  Some (inst.Store t o a align)
inst_of x (statement.StoreAtomic t v p order align) = do
  o ← operand_of x v
  a ← addr_of x p
  Some (inst.StoreAtomic t o a order align)
inst_of x (statement.Cmpxchg weak p expected new orders align) = do
  a ← addr_of x p
  e ← operand_of x expected.1
  n ← operand_of x new.1
  Some (inst.Cmpxchg weak a expected.0 e new.0 n orders.0 orders.1 (alignment_or expected.0 align))
inst_of x (statement.Rmw op p t v order align) = do
  a ← addr_of x p
  o ← operand_of x v
  Some (inst.Rmw op a t o order (alignment_or t align))
inst_of x (statement.Fence single order) = Some (inst.Fence single order)
inst_of x (statement.Extract t v part) = do
  a ← operand_of x v
  Some (inst.Extract t a part)
inst_of x (statement.Call t s arguments) = do
  args ← args_of x arguments
  Some (inst.Call t (text_at x.text s) args)
