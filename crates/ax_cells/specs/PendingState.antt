-- What contracts see of the stores that wait.
use Rattle.std.specs.Prelude.{ℕ, zero, suc, List, [], All, map}
use Rattle.ax_module.specs.declared.module.Global.{Global}
use Rattle.ax_source_run.specs.SourcePointers.{Elements}
use Rattle.ax_source_run.specs.SourceState.{PendingStore}
use Rattle.ax_cells.specs.Shapes.{IsCell}

-- the stores, the oldest first, for how many more there is memory, and to how many elements of each global
pub record PendingState : Type 0 where
  pub stores : List PendingStore
  pub room : ℕ
  pub counts : List ℕ

-- each names an element of arrays of these shapes
abbrev pub HaveCells : List Elements → List PendingStore → Type 0
HaveCells shapes stores = All (λ (store : PendingStore). IsCell shapes store.global store.element) stores

abbrev pub counts_in : List Global → List ℕ
counts_in globals = map (λ (global : Global). global.count) globals

-- where there is memory for no store there is none for elements
abbrev pub counts_for : ℕ → List Global → List ℕ
counts_for zero globals = []
counts_for (suc room) globals = counts_in globals
