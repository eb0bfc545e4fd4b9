-- What a machine starts with: the numbers of its arrays, and where its blocks begin.
use Rattle.std.specs.Prelude.{ℕ, ◌+◌, List, [], ◌∷◌, Some, length, map, replicate}
use Rattle.ax_module.specs.declared.inst.Inst.{Inst}
use Rattle.ax_module.specs.declared.module.Block.{Block}
use Rattle.ax_module.specs.declared.module.Global.{Global}
use Rattle.ax_module.specs.declared.operand.Operand.{Operand}
use Rattle.ax_module.specs.declared.types.Ty.{Ty}
use Rattle.ax_source_run.specs.SourcePointers.{elements_of_alloca}
use Rattle.ax_source_run.specs.SourceState.{Number}
use Rattle.ax_source_run.specs.SourceValues.{operand_of}
use Rattle.ax_cells.specs.Shapes.{ArrayState}

-- constants, or zeros where there are none
abbrev pub initial_cells : Ty → ℕ → List Operand → List ℕ
initial_cells elem count [] = replicate count 0
initial_cells elem count (v ∷ init) = map (λ v. operand_of elem v (λ k. Number 0)) (v ∷ init)

abbrev pub initial_array : Global → ArrayState
initial_array global = record { elem = global.elem; cells = initial_cells global.elem global.count global.init }

-- an alloca's elements are zeros
abbrev pub zeros_of : Inst → ArrayState
zeros_of inst = record { elem = (elements_of_alloca (Some inst)).elem; cells = replicate (elements_of_alloca (Some inst)).count 0 }

-- the numbers of the first instructions of blocks, where instruction n is the first of them all
abbrev pub starts_from : ℕ → List Block → List ℕ
starts_from n [] = []
starts_from n (block ∷ blocks) = n ∷ starts_from (n + length block.insts) blocks
