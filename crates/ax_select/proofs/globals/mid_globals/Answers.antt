use Rattle.std.proofs.Common.{◌≡◌, ℕ, ◌<◌, ◌++◌, List, [], ◌∷◌, Some, length, ap, sym, ◌∙◌, subst, arith, slice_get}
use Rattle.ax_layout.specs.Layout.{span_in}
use Rattle.ax_mid.specs.declared.code.MidGlobal.{MidGlobal}
use Rattle.ax_module.specs.declared.module.Global.{Global}
use Rattle.ax_selected.specs.Selected.{mid_global}
use Rattle.ax_select.proofs.Grown.{item}
use Rattle.ax_select.proofs.Lies.{globals_end, globals_more}
use Rattle.ax_select.proofs.globals.mid_globals.Goals as goal

pub mid_global-requires-clause-global : goal.mid_global-requires-clause-global
mid_global-requires-clause-global c =
    let globals = c.args.globals.now in
    let i = c.loop-global.global-index in
    let before : i < length globals = omega arith in
    subst (λ (k : ℕ). slice_get c.args.a.now.source.globals k ≡ Some c.global-item.result) (sym c.loop-global.invariant.number)
    (subst (λ (xs : List Global). slice_get xs i ≡ Some c.global-item.result) c.requires.globals (item globals i c.global-item.result before c.global-item.is))

pub loop-global-preserved : goal.loop-global-preserved
loop-global-preserved c =
    let p = c.args.a.now in
    let globals = c.args.globals.now in
    let i = c.loop-global.global-index in
    let before : i < length globals = omega arith in
    let count = ap (λ (xs : List Global). length xs) c.requires.globals in
    let within : i < length p.source.globals = omega (arith, before, count) in
    record {
      number = omega (arith, c.loop-global.invariant.number);
      made = globals_more p c.requires.layout i within c.loop-global.made.items _ _
          (c.in_ok-push.ensures.items ∙ ap (λ (x : MidGlobal). c.loop-global.made.items ++ x ∷ []) (c.mid_global.ensures ∙ ap (λ (k : ℕ). mid_global p p.layout k (span_in p.layout k)) c.loop-global.invariant.number))
          c.loop-global.invariant.made;
    }

pub returns : goal.returns
returns c = globals_end c.args.a.now c.requires.layout c.loop-global.global-index (omega (arith, ap (λ (xs : List Global). length xs) c.requires.globals)) c.loop-global.made.items _ c.loop-global.invariant.made
