use Rattle.std.proofs.lemmas.List.Elements.{All-map}
use Rattle.ax_module.specs.declared.module.Function.{Function}
use Rattle.ax_module.specs.declared.module.Global.{Global}
use Rattle.ax_module.specs.Names.{IsAscii}
use Rattle.ax_module.proofs.Ascii.{functions_ascii, globals_ascii}
use Rattle.ax_module.proofs.laws.names_are_ascii.Goals as goal

pub returns-clause-globals : goal.returns-clause-globals
returns-clause-globals c = λ m h. All-map (λ name. IsAscii name) (λ (g : Global). g.name) m.globals (globals_ascii m h)

pub returns-clause-functions : goal.returns-clause-functions
returns-clause-functions c = λ m h. All-map (λ name. IsAscii name) (λ (f : Function). f.name) m.functions (λ k d lt. (functions_ascii m h k d lt).name)
