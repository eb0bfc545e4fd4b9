use Rattle.ax_scope.proofs.Texts.{kept, added}
use Rattle.ax_scope.proofs.name_table.NameTable.declare.Goals as goal

pub returns-then-contains_key : goal.returns-then-contains_key
returns-then-contains_key c = kept c.args.self.now c.args.name.now c.args.meaning c.self.inside.entries.entries c.contains_key.result c.self.view_is c.contains_key.ensures c.if-contains_key.true

pub returns : goal.returns
returns c = added c.args.self.now c.args.name.now c.args.meaning c.self.inside.entries.entries c.insert.new.self.entries c.in_ok-key.key c.contains_key.result c.self.view_is c.contains_key.ensures c.if-contains_key.false (c.in_ok-key.ensures {u = tt}).items (c.in_ok-insert.ensures {u = tt}).entries
