use Rattle.std.proofs.Common.{refl, sym}
use Rattle.ax_store.specs.Places.{byte_at, is_inside}
use Rattle.ax_store.proofs.Places.{put_none}
use Rattle.ax_store.proofs.Writing.{more}
use Rattle.ax_store.proofs.memory.Memory.write_each.Goals as goal

pub loop-i-init : goal.loop-i-init
loop-i-init c = record { bytes = sym (put_none (is_inside c.args.self.now) c.args.a c.args.v (byte_at c.args.self.now)); inside = refl }

pub loop-i-preserved : goal.loop-i-preserved
loop-i-preserved c = more c.args.self.now c.loop-i.self c.set.new.self c.args.a c.loop-i.i c.args.v c.byte_of_number.result c.loop-i.invariant c.byte_of_number.ensures c.set.ensures.bytes c.set.ensures.inside
