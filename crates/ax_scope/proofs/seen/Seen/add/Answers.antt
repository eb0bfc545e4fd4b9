use Rattle.std.proofs.Common.{◌∙◌}
use Rattle.ax_scope.proofs.Texts.{fresh_name}
use Rattle.ax_scope.proofs.seen.Seen.add.Goals as goal

pub returns-clause-fresh : goal.returns-clause-fresh
returns-clause-fresh c = (c.in_ok-fresh.ensures {u = tt}).added ∙ fresh_name c.args.self.now c.args.name.now c.self.inside.keys.keys c.in_ok-key.key c.self.view_is (c.in_ok-key.ensures {u = tt}).items
