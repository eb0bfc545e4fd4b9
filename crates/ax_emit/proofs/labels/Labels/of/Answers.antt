use Rattle.std.proofs.Common.{◌≡◌, ℕ, ◌+◌, length, ap, arith}
use Rattle.std.specs.Prelude.{nat_eq}
use Rattle.std.specs.Map.{lookup}
use Rattle.ax_mid.specs.Machine.{behind_label}
use Rattle.ax_emit.proofs.Behind.{behind_goes_on, behinds_end, behinds_first}
use Rattle.ax_emit.proofs.Passes.{drop_end, drop_is}
use Rattle.ax_emit.proofs.labels.Labels.of.Goals as goal

pub loop-j-init : goal.loop-j-init
loop-j-init g c = behinds_first c.args.lines.now c.new-found.result.entries c.new-found.ensures.empty

pub loop-j-preserved : goal.loop-j-preserved
loop-j-preserved g c =
    let lines = c.args.lines.now in
    let j = c.loop-j.j in
    let line = c.index-lines-j.result in
    let front = drop_is lines j line c.loop-j-test.true c.index-lines-j.is in
    λ key n. behind_goes_on key lines j line front n (lookup (nat_eq n) c.loop-j.found.entries) (lookup (nat_eq n) c.note_line.new.found.entries) (behind_label key lines n 0) (c.in_ok-note_line.ensures key n) (c.loop-j.invariant key n)

pub returns : goal.returns
returns g c =
    let end : c.loop-j.j ≡ length c.args.lines.now = omega (arith, c.loop-j-test.false, c.loop-j.auto.j-end) in
    behinds_end c.args.lines.now c.loop-j.j c.loop-j.found.entries (drop_end c.args.lines.now c.loop-j.j c.loop-j-test.false) end c.loop-j.invariant
