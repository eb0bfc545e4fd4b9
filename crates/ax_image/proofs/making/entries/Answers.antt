use Rattle.std.proofs.Common.{◌≡◌, ◌<◌, ◌∙◌, ap, length, arith}
use Rattle.ax_emit.specs.Behind.{behind_in}
use Rattle.ax_emit.specs.Passes.{placed}
use Rattle.ax_selected.specs.Registers.{block_label}
use Rattle.ax_image.proofs.Entering.{more}
use Rattle.ax_image.proofs.making.entries.Goals as goal

pub loop-f-preserved : goal.loop-f-preserved
loop-f-preserved c =
    let behind = behind_in c.args.labels.now in
    let places = c.args.places.now in
    let f = c.loop-f.f in
    let less : f < length c.args.functions.now = omega (arith, c.loop-f-test.true) in
    let place : c.place_at.result ≡ placed places (behind (block_label f 0)) = c.place_at.ensures ∙ ap (placed places) (c.behind-line.ensures ∙ ap behind c.block_label.ensures) in
    more behind places f c.args.functions.now c.loop-f.entries.items _ c.place_at.result less c.in_ok-push.ensures.items place c.loop-f.invariant
