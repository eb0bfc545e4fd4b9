use Rattle.std.proofs.Common.{◌≡◌, subst}
use Rattle.ax_store.specs.Storage.{wrote}
use Rattle.ax_store.specs.Store.{storage_of}
use Rattle.ax_store.proofs.Steps.{wrote_is}
use Rattle.ax_store.proofs.store.Store.write_entry.Goals as goal

pub returns-clause-storage : goal.returns-clause-storage
returns-clause-storage c =
    subst (λ s. storage_of (record { memory = c.write.new.self; buffers = c.self.inside.buffers.items; links = c.end_others.new.self; buffered = c.self.inside.buffered }) ≡ wrote c.args.p c.args.e (storage_of s)) c.self.view_is
    (wrote_is c.self.inside.memory c.write.new.self c.self.inside.buffers.items c.self.inside.links c.end_others.new.self c.self.inside.buffered c.args.p c.args.e c.write.ensures.bytes c.write.ensures.inside c.end_others.ensures.links)
