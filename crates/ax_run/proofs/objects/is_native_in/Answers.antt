use Rattle.std.proofs.Common.{◌-◌, ◌/◌, sym, ap, ◌∙◌, subst, arith}
use Rattle.ax_layout.specs.Classes.{class_of}
use Rattle.ax_layout.specs.Layout.{HasElement, LayoutState, address_in, bytes_in}
use Rattle.ax_source_run.specs.SourceAccess.{is_native_class}
use Rattle.ax_target.specs.declared.target.Target.{Target}
use Rattle.ax_run.proofs.Elements.{has, laid_out, that, width_some}
use Rattle.ax_run.proofs.Natives.{behind, inside}
use Rattle.ax_run.proofs.objects.is_native_in.Goals as goal

pub address-start-requires : goal.address-start-requires
address-start-requires c =
    let limits = c.accepted_can_be_laid_out.ensures in
    let those = c.objects_are_apart.ensures.globals in
    let least = (laid_out c.args.program.now c.is_without_faults.ensures limits those c.args.g c.args.global.now c.requires).least in
    subst (λ (l : LayoutState). HasElement l c.args.g 0) (sym c.layout.ensures) (has c.args.program.now c.is_without_faults.ensures limits those c.args.g c.args.global.now c.requires 0 (omega (arith, least)))

pub address-requires : goal.address-requires
address-requires c =
    subst (λ (l : LayoutState). HasElement l c.args.g ((c.args.a - c.address-start.result) / c.element_bytes-bytes.result)) (sym c.layout-2.ensures)
    (has c.args.program.now c.is_without_faults.ensures c.accepted_can_be_laid_out.ensures c.objects_are_apart.ensures.globals c.args.g c.args.global.now c.requires _ (let h = c.if-i-global.false in omega (arith, h)))

pub returns-then-i-global : goal.returns-then-i-global
returns-then-i-global c =
    let count = (that c.args.program.now c.is_without_faults.ensures c.accepted_can_be_laid_out.ensures c.objects_are_apart.ensures.globals c.args.g c.args.global.now c.requires).count in
    let first = c.address-start.ensures ∙ ap (λ (l : LayoutState). address_in l c.args.g 0) c.layout.ensures in
    behind c.args.program.now c.args.g c.args.a c.address-start.result c.element_bytes-bytes.result first c.element_bytes-bytes.ensures.bytes (width_some c.element_bytes-bytes.result c.element_bytes-bytes.ensures.width) (let h = c.if-a-start.false in omega (arith, h)) (let h = c.if-i-global.true in omega (arith, h, count))

pub returns : goal.returns
returns c =
    let program = c.args.program.now in
    let g = c.args.g in
    let bytes = c.element_bytes-bytes.result in
    let i = (c.args.a - c.address-start.result) / bytes in
    let count = (that program c.is_without_faults.ensures c.accepted_can_be_laid_out.ensures c.objects_are_apart.ensures.globals g c.args.global.now c.requires).count in
    let first = c.address-start.ensures ∙ ap (λ (l : LayoutState). address_in l g 0) c.layout.ensures in
    c.is_native.ensures
    ∙ ap (λ n. is_native_class (class_of n bytes c.target.result)) (c.address.ensures ∙ ap (λ (l : LayoutState). address_in l g i) c.layout-2.ensures)
    ∙ ap (λ n. is_native_class (class_of (address_in program.layout g i) n c.target.result)) c.element_bytes-bytes.ensures.bytes
    ∙ ap (λ (t : Target). is_native_class (class_of (address_in program.layout g i) (bytes_in program.layout g) t)) c.target.ensures
    ∙ inside program g c.args.a c.address-start.result bytes first c.element_bytes-bytes.ensures.bytes (width_some bytes c.element_bytes-bytes.ensures.width) (let h = c.if-a-start.false in omega (arith, h)) (let h = c.if-i-global.false in omega (arith, h, count))
