-- What selection asks of a module.
use Rattle.std.specs.Prelude.{◌≡◌, ◌≢◌, ℕ, ◌+◌, ◌<◌, ◌≤◌, ◌^◌, List, Some, length, slice_get}
use Rattle.std.specs.List.{flat_map}
use Rattle.ax_module.specs.declared.inst.Inst.{Inst}
use Rattle.ax_module.specs.declared.inst.Inst.TheVariants as inst
use Rattle.ax_module.specs.declared.module.Block.{Block}
use Rattle.ax_module.specs.declared.module.Function.{Function}
use Rattle.ax_module.specs.declared.operand.Operand.{Operand}
use Rattle.ax_module.specs.declared.operand.Operand.TheVariants as operand
use Rattle.ax_words.specs.declared.order.Order.TheVariants.{Unordered}
use Rattle.ax_words.specs.Orders.{merged_order}
use Rattle.ax_layout.specs.Layout.{CanBeLaidOut, layout_of}
use Rattle.ax_source_run.specs.SourceInstructions.{first_number, insts_of_block}
use Rattle.ax_source_run.specs.SourceState.{SourceProgram}
use Rattle.ax_cells.specs.Memories.{starts_from}
use Rattle.ax_pieces.specs.Near.{AreNear, IsAmount, IsNearBranch, IsNearChoice, IsNearConversion, IsNearEdge, IsNearOut}
use Rattle.ax_reach.specs.Near.{IsNearAddr, IsNearExchange, IsNearNumber}

-- a pair is an instruction's result
abbrev pub IsNearPair : ℕ → Operand → Type 0
IsNearPair k (operand.Value r) = (k < 2048) × (r < 2048)
IsNearPair k _ = Unit {0}

-- what the code of instruction k asks of it: f is the function, which has these blocks, `starts` the numbers of their first instructions, and b its own block
module _ (blocks : List Block) (starts : List ℕ) (f b k : ℕ) where
  unfoldable pub IsReady : Inst → Type 0
  IsReady (inst.Bin o ty x y) = AreNear k (record { ty = ty; a = x; b = y }) × IsAmount o (record { ty = ty; a = x; b = y })
  IsReady (inst.Icmp condition ty x y) = AreNear k (record { ty = ty; a = x; b = y })
  IsReady (inst.Select test ty x other y) = IsNearChoice k (record { test = test; ty = ty; a = x; other = other; b = y })
  IsReady (inst.Convert cast ty x to) = IsNearConversion k (record { ty = ty; a = x; to = to })
  IsReady (inst.Jump d) = IsNearEdge f blocks starts d
  IsReady (inst.Branch test d e) = IsNearBranch (record { function = f; instruction = k }) blocks starts (record { test = test; from = b; if_true = d; if_false = e })
  IsReady (inst.Gep elem count base ty x) = (k < 2048) × IsNearNumber ty x
  IsReady (inst.Load ty a align) = (k < 2048) × IsNearAddr a
  IsReady (inst.LoadAtomic ty a order align) = (k < 2048) × IsNearAddr a
  IsReady (inst.Store ty x a align) = (k < 2048) × IsNearAddr a × IsNearNumber ty x
  IsReady (inst.StoreAtomic ty x a order align) = (k < 2048) × IsNearAddr a × IsNearNumber ty x
  IsReady (inst.Cmpxchg weak a ty x new_ty y success failure align) = (k < 2048) × IsNearAddr a × IsNearExchange (record { weak = weak; ty = ty; expected = x; desired_ty = new_ty; desired = y; order = merged_order success failure }) × (success ≢ Unordered) × (failure ≢ Unordered)
  IsReady (inst.Rmw o a ty x order align) = (k < 2048) × IsNearAddr a × IsNearNumber ty x
  IsReady (inst.Extract ty x part) = IsNearPair k x
  IsReady (inst.Call result name args) = IsNearOut args
  IsReady _ = Unit {0}

-- a function with these blocks has at most 2,048 instructions, each of them ready
pub record IsReadyFunction (f : ℕ) (blocks : List Block) : Type 0 where
  pub blocks_counted : length blocks < 2 ^ 32
  pub few : length (flat_map (λ (block : Block). block.insts) blocks) ≤ 2048
  pub ready : (b i : ℕ) (x : Inst) → slice_get (insts_of_block blocks b) i ≡ Some x → IsReady blocks (starts_from 0 blocks) f b (first_number blocks b + i) x

-- a module has at most 64 functions, each of them ready, and its globals lie within the limits, where its layout says
pub record IsReadyProgram (program : SourceProgram) : Type 0 where
  pub few : length program.source.functions ≤ 64
  pub functions : (f : ℕ) (function : Function) → slice_get program.source.functions f ≡ Some function → IsReadyFunction f function.blocks
  pub limits : CanBeLaidOut program.source
  pub layout : program.layout ≡ layout_of program.source
