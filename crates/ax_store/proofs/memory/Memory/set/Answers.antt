use Rattle.std.proofs.Common.{ap, ◌∙◌}
use Rattle.ax_store.specs.Places.{byte_at, is_inside}
use Rattle.ax_store.proofs.Places.{byte_set, inside_set}
use Rattle.ax_store.proofs.memory.Memory.set.Goals as goal

pub returns-clause-bytes : goal.returns-clause-bytes
returns-clause-bytes c = ap byte_at c.set_place.ensures ∙ byte_set c.args.self.now c.args.a c.args.b

pub returns-clause-inside : goal.returns-clause-inside
returns-clause-inside c = ap is_inside c.set_place.ensures ∙ inside_set c.args.self.now c.args.a c.args.b
