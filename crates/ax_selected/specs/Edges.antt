-- The lines of an edge: what comes into the phis of its block is brought into registers of their own, and then all phis are set; a jump to the block has the event.
use Rattle.std.specs.Prelude.{ℕ, ◌+◌, pos, nat_eq, if◌then◌else◌, List, [], ◌∷◌, ◌++◌}
use Rattle.ax_module.specs.declared.inst.Inst.{Inst}
use Rattle.ax_module.specs.declared.inst.Inst.TheVariants as inst
use Rattle.ax_module.specs.declared.module.Block.{Block}
use Rattle.ax_module.specs.declared.operand.Operand.{Operand}
use Rattle.ax_module.specs.declared.operand.Operand.TheVariants as operand
use Rattle.ax_module.specs.declared.types.Ty.{Ty}
use Rattle.ax_source_run.specs.SourceInstructions.{first_number, insts_of_block}
use Rattle.ax_mid.specs.declared.instruction.MidInst.{MidInst}
use Rattle.ax_mid.specs.declared.instruction.MidInst.TheVariants as mid
use Rattle.ax_mid.specs.declared.registers.Virtual.{Virtual}
use Rattle.ax_selected.specs.Operands.{high_into, low_into}
use Rattle.ax_selected.specs.Pieces.{Straight, copy}
use Rattle.ax_selected.specs.Registers.{block_label, high_in, high_of, low_in, low_of}

-- what comes from a block: the first entry for it
abbrev pub operand_from : ℕ → List (Operand × ℕ) → Operand
operand_from b [] = operand.Const (pos 0)
operand_from b (entry ∷ entries) = if nat_eq entry.1 b then entry.0 else operand_from b entries

abbrev pub brought : ℕ → Ty → Operand → List (MidInst Virtual)
brought k ty v = low_into (low_in k) ty v ∷ high_into (high_in k) ty v ∷ []

abbrev pub set_phi : ℕ → List (MidInst Virtual)
set_phi k = copy (low_of k) (low_in k) ∷ copy (high_of k) (high_in k) ∷ []

-- the phis at the head of a block, from instruction k on, for an edge from block b
unfoldable pub coming_in : ℕ → ℕ → List Inst → List (MidInst Virtual)
coming_in b k [] = []
coming_in b k (inst.Phi ty entries ∷ insts) = brought k ty (operand_from b entries) ++ coming_in b (k + 1) insts
coming_in b k _ = []

unfoldable pub set_phis : ℕ → List Inst → List (MidInst Virtual)
set_phis k [] = []
set_phis k (inst.Phi ty entries ∷ insts) = set_phi k ++ set_phis (k + 1) insts
set_phis k _ = []

-- of function f, which has these blocks, the edge from block b to block d
abbrev pub edge_lines : ℕ → List Block → ℕ → ℕ → Straight
edge_lines f blocks b d = record {
  silent = coming_in b (first_number blocks d) (insts_of_block blocks d) ++ set_phis (first_number blocks d) (insts_of_block blocks d);
  last = mid.Jump (block_label f (first_number blocks d));
}
