use Rattle.std.proofs.Common.{sym, ap, ◌∙◌}
use Rattle.ax_scope.specs.NameTable.{look}
use Rattle.ax_scope.proofs.Texts.{look_views}
use Rattle.ax_scope.proofs.name_table.NameTable.find.Goals as goal

pub returns : goal.returns
returns c = c.copied.ensures ∙ c.get.ensures.value ∙ sym (look_views c.args.name.now c.self.inside.entries.entries) ∙ ap (λ names. look names c.args.name.now) c.self.view_is
