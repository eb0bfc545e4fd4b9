-- What the code of an instruction asks of it: a function of at most 2,048 instructions, types of at most 128 bits, operands that name instructions of the function.
use Rattle.std.specs.Prelude.{◌≡◌, ◌<◌, ◌≤◌, ◌+◌, ℕ, List, ◌∷◌, All, IsTrue, length}
use Rattle.ax_cells.specs.Memories.{starts_from}
use Rattle.ax_cells.specs.Narrow.{is_narrow}
use Rattle.ax_module.specs.declared.inst.BinOp.{BinOp}
use Rattle.ax_module.specs.declared.inst.BinOp.TheVariants as bin
use Rattle.ax_module.specs.declared.inst.Inst.{Inst}
use Rattle.ax_module.specs.declared.inst.Inst.TheVariants as inst
use Rattle.ax_module.specs.declared.module.Block.{Block}
use Rattle.ax_module.specs.declared.operand.Arg.{Arg}
use Rattle.ax_module.specs.declared.operand.Arg.TheVariants as arg
use Rattle.ax_module.specs.declared.operand.Operand.{Operand}
use Rattle.ax_pieces.specs.declared.parts.Branch.{Branch}
use Rattle.ax_pieces.specs.declared.parts.Choice.{Choice}
use Rattle.ax_pieces.specs.declared.parts.Conversion.{Conversion}
use Rattle.ax_pieces.specs.declared.parts.Operands.{Operands}
use Rattle.ax_selected.specs.Operands.{constant_of}
use Rattle.ax_selected.specs.Ranges.{IsNear}
use Rattle.ax_source_run.specs.SourceInstructions.{first_number, insts_of_block}
use Rattle.ax_source_run.specs.SourceValues.{type_bits}
use Rattle.ax_words.specs.declared.place.Site.{Site}

-- two operands of instruction k
pub record AreNear (k : ℕ) (v : Operands) : Type 0 where
  pub instruction : k < 2048
  pub narrow : IsTrue (is_narrow v.ty)
  pub a : IsNear v.a
  pub b : IsNear v.b

-- a shift is by a constant below the bits of its type
abbrev pub IsAmount : BinOp → Operands → Type 0
IsAmount bin.Shl v = constant_of v.ty v.b < type_bits v.ty
IsAmount bin.Lshr v = constant_of v.ty v.b < type_bits v.ty
IsAmount bin.Ashr v = constant_of v.ty v.b < type_bits v.ty
IsAmount _ v = Unit {0}

pub record IsNearChoice (k : ℕ) (v : Choice) : Type 0 where
  pub instruction : k < 2048
  pub narrow : IsTrue (is_narrow v.ty)
  pub narrow_other : IsTrue (is_narrow v.other)
  pub test : IsNear v.test
  pub a : IsNear v.a
  pub b : IsNear v.b

pub record IsNearConversion (k : ℕ) (v : Conversion) : Type 0 where
  pub instruction : k < 2048
  pub narrow : IsTrue (is_narrow v.ty)
  pub narrow_to : IsTrue (is_narrow v.to)
  pub a : IsNear v.a

-- what comes into a phi
unfoldable pub IsNearPhi : Inst → Type 0
IsNearPhi (inst.Phi ty entries) = IsTrue (is_narrow ty) × All (λ (entry : Operand × ℕ). IsNear entry.0) entries
IsNearPhi _ = Unit {0}

-- an edge to block d of function f, which has these blocks, the first instructions of which have these numbers
pub record IsNearEdge (f : ℕ) (blocks : List Block) (starts : List ℕ) (d : ℕ) : Type 0 where
  pub function : f < 64
  pub begins : starts ≡ starts_from 0 blocks
  pub inside : d < length blocks
  pub few : first_number blocks d + length (insts_of_block blocks d) ≤ 2048
  pub phis : All IsNearPhi (insts_of_block blocks d)

pub record IsNearBranch (site : Site) (blocks : List Block) (starts : List ℕ) (v : Branch) : Type 0 where
  pub instruction : site.instruction < 2048
  pub test : IsNear v.test
  pub along_true : IsNearEdge site.function blocks starts v.if_true
  pub along_false : IsNearEdge site.function blocks starts v.if_false

-- the number that a call of `@out` puts out
abbrev pub IsNearOut : List Arg → Type 0
IsNearOut (arg.Value ty v ∷ args) = IsTrue (is_narrow ty) × IsNear v
IsNearOut _ = Unit {0}
