-- Where an element of a global lies.
use Rattle.std.proofs.Common.{◌≡◌, ℕ, Bool, ◌≤◌, ◌<◌, Option, Some, None, refl, sym, ap, ◌∙◌, subst, arith}
use Rattle.std.specs.Prelude.{slice_get, slice_index_or}
use Rattle.std.proofs.lemmas.List.Elements.{All-get_or}
use Rattle.std.proofs.lemmas.Option.{slice_get_within, get_or_from_slice_get}
use Rattle.ax_module.specs.declared.module.Global.{Global}
use Rattle.ax_module.specs.declared.module.Module.{Module}
use Rattle.ax_module.specs.Types.{type_bytes}
use Rattle.ax_layout.specs.Layout.{CanBeLaidOut, HasElement, IsLaidOut, LayoutState, address_in, bytes_in, layout_of}
use Rattle.ax_target.specs.declared.target.Target.{Target}
use Rattle.ax_module.specs.declared.types.Ty.{Ty}
use Rattle.ax_layout.specs.Classes.{class_of}
use Rattle.ax_source_run.specs.SourceAccess.{is_native_class, is_native_element}
use Rattle.ax_source_run.specs.SourcePointers.{Elements, elements_of, elements_of_global}
use Rattle.ax_source_run.specs.SourceState.{Shared, SourceProgram}
use Rattle.ax_layout.proofs.Elements.{lie, those}
use Rattle.ax_source.specs.Runnable.{IsRunnable}
use Rattle.ax_cells.specs.Shapes.{IsCell, global_shapes}
use Rattle.ax_source.proofs.Elements.{shared_shape}

-- an element of a global has an address and bytes
pub record HasPlace (program : SourceProgram) (f g i : ℕ) : Type 0 where
  pub element : HasElement program.layout g i
  pub bytes : bytes_in program.layout g ≡ type_bytes (elements_of program.source f (Shared g)).elem
  pub some : 1 ≤ bytes_in program.layout g
  pub small : i < 65536

record Lies (m : Module) (f g i : ℕ) : Type 0 where
  element : HasElement (layout_of m) g i
  bytes : bytes_in (layout_of m) g ≡ type_bytes (elements_of m f (Shared g)).elem
  some : 1 ≤ bytes_in (layout_of m) g
  small : i < 65536

module _ (m : Module) (limits : CanBeLaidOut m) (f g i : ℕ) where
  found : (o : Option Global) → slice_get m.globals g ≡ o → i < (elements_of_global o).count → Lies m f g i
  found None e h = absurd (omega arith)
  found (Some global) e h =
      let that = those m limits g global e in
      let count = that.count in
      let has : HasElement (layout_of m) g i = record { global = that.within; element = omega arith } in
      let laid : IsLaidOut (slice_index_or m.globals g global) = All-get_or IsLaidOut m.globals g global (slice_get_within m.globals g global e) limits.globals in
      let same : slice_index_or m.globals g global ≡ global = get_or_from_slice_get m.globals g global global e in
      let most : global.count ≤ 65536 = (subst IsLaidOut same laid).most in
      record {
        element = has;
        bytes = that.bytes ∙ sym (ap (λ o. type_bytes (elements_of_global o).elem) e);
        some = (lie m limits g i has).some;
        small = omega arith;
      }

  lies : IsCell (global_shapes m) g i → Lies m f g i
  lies cell =
      let count = ap (λ (s : Elements). s.count) (shared_shape m f g) in
      let l = cell.cell in
      found (slice_get m.globals g) refl (omega arith)

pub has_place : (program : SourceProgram) (f g i : ℕ) → IsRunnable program → IsCell (global_shapes program.source) g i → HasPlace program f g i
has_place program f g i runnable cell =
    let m = program.source in
    let l = lies m runnable.limits f g i cell in
    let e = sym runnable.layout in
    record {
      element = subst (λ (layout : LayoutState). HasElement layout g i) e l.element;
      bytes = subst (λ (layout : LayoutState). bytes_in layout g ≡ type_bytes (elements_of m f (Shared g)).elem) e l.bytes;
      some = subst (λ (layout : LayoutState). 1 ≤ bytes_in layout g) e l.some;
      small = l.small;
    }

abbrev class_is : ℕ → ℕ → Target → Bool
class_is a b t = is_native_class (class_of a b t)

pub native_is : (program : SourceProgram) (f g i a b : ℕ) (t : Target) (layout : LayoutState) (elem : Ty) → HasPlace program f g i → a ≡ address_in layout g i → layout ≡ program.layout → b ≡ type_bytes elem → elem ≡ (elements_of program.source f (Shared g)).elem → t ≡ program.target
    → is_native_class (class_of a b t) ≡ is_native_element program g i
native_is program f g i a b t layout elem place ea el eb ee et =
    ap (λ x. class_is x b t) (ea ∙ ap (λ (l : LayoutState). address_in l g i) el)
    ∙ ap (λ x. class_is (address_in program.layout g i) x t) (eb ∙ ap type_bytes ee ∙ sym place.bytes)
    ∙ ap (λ x. class_is (address_in program.layout g i) (bytes_in program.layout g) x) et
