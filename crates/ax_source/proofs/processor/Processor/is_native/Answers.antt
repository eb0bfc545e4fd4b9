use Rattle.std.proofs.Common.{ℕ, ◌≤◌, sym, ap, ◌∙◌, subst}
use Rattle.ax_module.specs.Types.{type_bytes}
use Rattle.ax_layout.specs.Layout.{HasElement, LayoutState}
use Rattle.ax_source_run.specs.SourceState.{SourceProgram}
use Rattle.ax_source.proofs.Natives.{has_place, native_is}
use Rattle.ax_source.proofs.processor.Processor.is_native.Goals as goal

pub address-address-requires : goal.address-address-requires
address-address-requires c =
    let v = c.args.self.now in
    let place = has_place v.program v.function c.args.g c.args.i c.elem_of.ensures.sound.runnable c.requires in
    let e = c.layout.ensures ∙ ap (λ (p : SourceProgram). p.layout) c.program-program.ensures.program in
    subst (λ (l : LayoutState). HasElement l c.args.g c.args.i) (sym e) place.element

pub is_class_native-requires : goal.is_class_native-requires
is_class_native-requires c =
    let v = c.args.self.now in
    let place = has_place v.program v.function c.args.g c.args.i c.elem_of.ensures.sound.runnable c.requires in
    let P : ℕ → Type 0 = λ n. 1 ≤ n in
    subst P (place.bytes ∙ sym (c.bytes-bytes.ensures ∙ ap type_bytes c.elem_of.ensures.value)) place.some

pub returns : goal.returns
returns c =
    let v = c.args.self.now in
    let place = has_place v.program v.function c.args.g c.args.i c.elem_of.ensures.sound.runnable c.requires in
    let p = c.program-program.ensures.program in
    c.is_class_native.ensures
    ∙ native_is v.program v.function c.args.g c.args.i _ _ _ c.layout.result.now c.elem_of.result place c.address-address.ensures (c.layout.ensures ∙ ap (λ (p : SourceProgram). p.layout) p) c.bytes-bytes.ensures c.elem_of.ensures.value (c.target.ensures ∙ ap (λ (p : SourceProgram). p.target) p)
