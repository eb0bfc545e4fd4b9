use Rattle.std.proofs.Common.{◌≡◌, ◌+◌, ◌-◌, subst}
use Rattle.std.specs.Prelude.{slice_index_or}
use Rattle.ax_store.proofs.BufferLemmas.{latest_below, latest_found}
use Rattle.ax_store.proofs.buffer.Buffer.latest.Goals as goal

pub returns-then-is_whole : goal.returns-then-is_whole
returns-then-is_whole c = λ i h.
    let es = c.args.self.now.entries in
    let same : c.index-e.result.now ≡ slice_index_or es (c.loop-k.k - 1) c.index-e.result.now = subst (λ s. c.index-e.result.now ≡ slice_index_or s.entries (c.loop-k.k - 1) c.index-e.result.now) c.self.view_is c.index-e.ensures in
    let below = latest_below es c.loop-k.k c.index-e.result.now (c.args.a + i) _ _ c.loop-k-test.true c.loop-k.invariant.within same (c.loop-k.invariant.newer i h) (c.add_bytes.ensures i h) in
    latest_found es (c.loop-k.k - 1) (c.args.a + i) _ below (c.is_whole.ensures c.if-is_whole.true i h)
