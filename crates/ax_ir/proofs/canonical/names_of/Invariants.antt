use Rattle.std.proofs.Common.{◌≡◌, map, take}
use Rattle.ax_module.specs.Names.{global_token}
use Rattle.ax_ir.proofs.canonical.names_of.Given as goal

abbrev pub invariant-loop-global : goal.invariant-loop-global
invariant-loop-global l = l.names ≡ map (λ g. global_token g.name) (take l.global-index l.globals)
