-- Parts of the lines of an edge and of a branch.
use Rattle.std.specs.Prelude.{ℕ, List, [], ◌∷◌, ◌++◌, Option, Some, None}
use Rattle.ax_module.specs.declared.inst.Inst.{Inst}
use Rattle.ax_module.specs.declared.inst.Inst.TheVariants as inst
use Rattle.ax_module.specs.declared.operand.Operand.{Operand}
use Rattle.ax_module.specs.declared.types.Ty.{Ty}
use Rattle.ax_module.specs.declared.types.Ty.TheVariants.{I1}
use Rattle.ax_mid.specs.declared.instruction.MidInst.{MidInst}
use Rattle.ax_mid.specs.declared.instruction.MidInst.TheVariants as mid
use Rattle.ax_mid.specs.declared.registers.Virtual.{Virtual}
use Rattle.ax_selected.specs.Edges.{coming_in, operand_from, set_phis}
use Rattle.ax_selected.specs.Operands.{low_into}
use Rattle.ax_selected.specs.Pieces.{Straight}
use Rattle.ax_selected.specs.Registers.{block_label, first_label, second_label, virtual}

-- the operand that comes from block b, with its type; none where an instruction is no phi
unfoldable pub incoming : ℕ → Inst → Option (Ty × Operand)
incoming b (inst.Phi ty entries) = Some (ty, operand_from b entries)
incoming b _ = None

-- an edge from block b to a block of function f that has these instructions, from instruction k on
abbrev pub entering : ℕ → ℕ → ℕ → List Inst → Straight
entering f b k insts = record { silent = coming_in b k insts ++ set_phis k insts; last = mid.Jump (block_label f k) }

-- the test of a branch of instruction k of function f, and its first label
abbrev pub tested : ℕ → ℕ → Operand → List (MidInst Virtual)
tested f k test = low_into 0 I1 test ∷ mid.Branch (virtual 0) (first_label f k) (second_label f k) ∷ mid.Label (first_label f k) ∷ []
