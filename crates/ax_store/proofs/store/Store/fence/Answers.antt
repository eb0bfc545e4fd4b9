use Rattle.std.proofs.Common.{◌≡◌, ◌+◌, ℕ, length, sym, ap, ◌∙◌, arith}
use Rattle.ax_store.specs.Storage.{drained, flushed}
use Rattle.ax_store.specs.Store.{Kept, StoreState, spare_of, storage_of}
use Rattle.ax_store.proofs.Steps.{flush_drain, flush_none, drain_length}
use Rattle.ax_store.proofs.store.Store.fence.Invariants.{Sofar}
use Rattle.ax_store.proofs.store.Store.fence.Goals as goal

more : (old mid new : StoreState) (p i : ℕ) → Sofar old mid p i → storage_of new ≡ drained p (storage_of mid) → spare_of new ≡ spare_of mid → Kept mid new → Sofar old new p (i + 1)
more old mid new p i s e spares k = record {
  all = ap (flushed p) e ∙ flush_drain p (storage_of mid) ∙ s.all;
  left = ap (λ st. length (st.waiting p)) e ∙ drain_length p (storage_of mid) ∙ (let h = s.left in omega arith);
  spares = spares ∙ s.spares;
  kept = record { buffered = k.buffered ∙ s.kept.buffered; count = k.count ∙ s.kept.count; inside = k.inside ∙ s.kept.inside };
}

pub loop-i-preserved : goal.loop-i-preserved
loop-i-preserved c = more c.args.self.now c.loop-i.self c.drain.new.self c.args.p c.loop-i._i c.loop-i.invariant c.drain.ensures.storage c.drain.ensures.spares c.drain.ensures.kept

pub returns-clause-storage : goal.returns-clause-storage
returns-clause-storage c =
    let h : length ((storage_of c.loop-i.self).waiting c.args.p) ≡ 0 = (let l = c.loop-i.invariant.left in omega arith) in
    sym (flush_none c.args.p (storage_of c.loop-i.self) h) ∙ c.loop-i.invariant.all
