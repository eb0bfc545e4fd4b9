-- What names stand for, as code holds it.
use Rattle.ax_scope.specs.declared.locals.Names.{Names}
use Rattle.ax_scope.specs.NameTable.{look}
use Rattle.ax_scope.specs.Resolve.{Looks}

abbrev pub looks : Names → Looks
looks names = record { text = names.text.now; globals = look names.globals.now; values = look names.locals.now.values; blocks = look names.locals.now.blocks }
