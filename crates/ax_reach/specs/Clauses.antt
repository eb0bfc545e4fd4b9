-- The clauses of the middle code's definition at instructions that go through a pointer.
use Rattle.std.specs.Prelude.{◌≡◌, ℕ, Bool, List, Option}
use Rattle.ax_module.specs.declared.inst.Inst.TheVariants as inst
use Rattle.ax_module.specs.declared.module.Block.{Block}
use Rattle.ax_module.specs.declared.operand.Addr.{Addr}
use Rattle.ax_module.specs.declared.operand.Base.{Base}
use Rattle.ax_module.specs.declared.operand.Operand.{Operand}
use Rattle.ax_module.specs.declared.types.Ty.{Ty}
use Rattle.ax_words.specs.declared.mark.Op.TheVariants as operation
use Rattle.ax_words.specs.declared.operation.RmwOp.{RmwOp}
use Rattle.ax_words.specs.declared.order.Order.{Order}
use Rattle.ax_words.specs.Orders.{merged_order}
use Rattle.ax_source_run.specs.SourceState.{SourceProgram}
use Rattle.ax_selected.specs.Addresses.{index_of_step, object_of}
use Rattle.ax_selected.specs.Selected.{atomic_load_lines, atomic_store_lines, exchange_lines, gep_lines, load_lines, piece, store_lines, straight, update_lines}
use Rattle.ax_reach.specs.Ways.{element_bytes, reached}

pub record AreReached (program : SourceProgram) (f k : ℕ) (blocks : List Block) (b : ℕ) : Type 0 where
  pub load : (ty : Ty) (a : Addr) (align : Option ℕ) → piece f k program blocks b (inst.Load ty a align) ≡ reached program f k a (load_lines k ty (element_bytes program f a))
  pub load_atomic : (ty : Ty) (a : Addr) (order : Order) (align : ℕ) → piece f k program blocks b (inst.LoadAtomic ty a order align) ≡ reached program f k a (atomic_load_lines k ty order)
  pub store : (ty : Ty) (v : Operand) (a : Addr) (align : Option ℕ) → piece f k program blocks b (inst.Store ty v a align) ≡ reached program f k a (store_lines ty v (element_bytes program f a))
  pub store_atomic : (ty : Ty) (v : Operand) (a : Addr) (order : Order) (align : ℕ) → piece f k program blocks b (inst.StoreAtomic ty v a order align) ≡ reached program f k a (atomic_store_lines ty v order)
  pub rmw : (o : RmwOp) (a : Addr) (ty : Ty) (v : Operand) (order : Order) (align : ℕ) → piece f k program blocks b (inst.Rmw o a ty v order align) ≡ reached program f k a (update_lines k (operation.Rmw o) ty v order)
  pub cmpxchg : (weak : Bool) (a : Addr) (ty : Ty) (v : Operand) (other : Ty) (w : Operand) (success failure : Order) (align : ℕ)
      → piece f k program blocks b (inst.Cmpxchg weak a ty v other w success failure align) ≡ reached program f k a (exchange_lines k weak ty v other w (merged_order success failure))
  pub gep : (elem : Ty) (count : ℕ) (a : Base) (ty : Ty) (v : Operand) → piece f k program blocks b (inst.Gep elem count a ty v) ≡ straight f k (gep_lines f k (index_of_step program f (object_of program f a) elem ty v))

abbrev pub PiecesAreReached : Type 0
PiecesAreReached = (program : SourceProgram) (f k : ℕ) (blocks : List Block) (b : ℕ) → AreReached program f k blocks b
