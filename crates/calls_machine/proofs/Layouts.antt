-- The elements of an accepted module's globals have addresses.
use Rattle.std.proofs.Common.{◌≡◌, ℕ, ◌<◌, sym, subst, Some, slice_get}
use Rattle.ax_module.specs.declared.module.Global.{Global}
use Rattle.ax_layout.specs.Layout.{CanBeLaidOut, HasElement, LayoutState, layout_of}
use Rattle.ax_layout.specs.Regions.{InLayouts, AreThoseOfTheModule}
use Rattle.ax_source_run.specs.SourceState.{SourceProgram}
use Rattle.ax_check.specs.Accepted.{IsAccepted}

pub has_element : (program : SourceProgram) (g i : ℕ) (global : Global) → IsAccepted program → CanBeLaidOut program.source → InLayouts AreThoseOfTheModule
    → slice_get program.source.globals g ≡ Some global → i < global.count → HasElement program.layout g i
has_element program g i global accepted laid those at below =
    let that = those program.source laid g global at in
    let fits : ℕ → Type 0 = λ n. i < n in
    let has : LayoutState → Type 0 = λ layout. HasElement layout g i in
    let element : HasElement (layout_of program.source) g i = record { global = that.within; element = subst fits (sym that.count) below } in
    subst has (sym accepted.layout) element
