-- The entries of an image, as they are found from the places of its lines.
use Rattle.std.specs.Prelude.{ℕ, ◌+◌, List, [], ◌∷◌}
use Rattle.ax_module.specs.declared.module.Function.{Function}
use Rattle.ax_emit.specs.Passes.{placed}
use Rattle.ax_selected.specs.Registers.{block_label}

-- of function f and those behind it: each begins behind the label of its first block
abbrev pub entries_at : (ℕ → ℕ) → List ℕ → ℕ → List Function → List ℕ
entries_at behind places f [] = []
entries_at behind places f (function ∷ functions) = placed places (behind (block_label f 0)) ∷ entries_at behind places (f + 1) functions
