-- Where the code of a module's instructions stands in middle code.
use Rattle.std.specs.Prelude.{◌≡◌, ℕ, ◌+◌, ◌<◌, ◌≤◌, List, [], ◌∷◌, Some, length, slice_get}
use Rattle.ax_module.specs.declared.module.Block.{Block}
use Rattle.ax_module.specs.declared.module.Function.{Function}
use Rattle.ax_module.specs.declared.inst.Inst.{Inst}
use Rattle.ax_source_run.specs.SourceEvent.{inst_at, number_of_next}
use Rattle.ax_source_run.specs.SourceInstructions.{first_number, insts_of_block, phi_count}
use Rattle.ax_source_run.specs.SourcePointers.{blocks_of}
use Rattle.ax_source_run.specs.SourceState.{SourceProcessor, SourceProgram}
use Rattle.ax_mid.specs.declared.code.Line.{Line}
use Rattle.ax_mid.specs.declared.instruction.MidInst.TheVariants as mid
use Rattle.ax_mid.specs.declared.registers.Virtual.{Virtual}
use Rattle.ax_mid.specs.Machine.{behind_label}
use Rattle.ax_selected.specs.Registers.{block_label, key}
use Rattle.ax_selected.specs.Selected.{begins, piece, selected}

-- these lines stand one after the other from a place on
abbrev pub HasAt : List (Line Virtual) → ℕ → List (Line Virtual) → Type 0
HasAt code place [] = Unit {0}
HasAt code place (line ∷ lines) = (slice_get code place ≡ Some line) × HasAt code (place + 1) lines

abbrev pub piece_of : SourceProgram → SourceProcessor → Inst → List (Line Virtual)
piece_of program s i = piece s.function (number_of_next program s) program (blocks_of program.source s.function) s.block i

pub record IsLaid (program : SourceProgram) (code : List (Line Virtual)) (begins : ℕ → ℕ → ℕ → ℕ) : Type 0 where
  -- each instruction's lines stand where its code begins, and behind them the code of the next begins
  pub has : (s : SourceProcessor) (i : Inst) → inst_at program s ≡ Some i → HasAt code (begins s.function s.block s.index) (piece_of program s i)
  pub next : (s : SourceProcessor) (i : Inst) → inst_at program s ≡ Some i → begins s.function s.block (s.index + 1) ≡ begins s.function s.block s.index + length (piece_of program s i)
  -- each label stands once
  pub labels : (place label : ℕ) (line : Line Virtual) → slice_get code place ≡ Some line → line.inst ≡ mid.Label label → behind_label key code label 0 ≡ place + 1
  -- behind a block's label begins the code of its first instruction that is no phi
  pub blocks : (f b n : ℕ) (i : Inst) → slice_get (insts_of_block (blocks_of program.source f) b) n ≡ Some i → begins f b (phi_count (insts_of_block (blocks_of program.source f) b)) ≡ behind_label key code (block_label f (first_number (blocks_of program.source f) b)) 0

-- ---- each block has an instruction, and each function at most 2,048
abbrev pub ArePlenty : List Block → Type 0
ArePlenty [] = Unit {0}
ArePlenty (block ∷ blocks) = (0 < length block.insts) × ArePlenty blocks

abbrev pub total : List Block → ℕ
total [] = 0
total (block ∷ blocks) = length block.insts + total blocks

abbrev pub AreFew : List Function → Type 0
AreFew [] = Unit {0}
AreFew (function ∷ functions) = ArePlenty function.blocks × (total function.blocks ≤ 2048) × AreFew functions

-- the code of each module whose functions are so stands in order
abbrev pub CodeIsLaid : Type 0
CodeIsLaid = (program : SourceProgram) → AreFew program.source.functions → IsLaid program (selected program).lines (begins program)
