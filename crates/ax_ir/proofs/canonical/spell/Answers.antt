use Rattle.std.proofs.Common.{All, subst, sym}
use Rattle.ax_module.specs.Ascii.{NamesAscii}
use Rattle.ax_module.specs.Names.{IsAscii}
use Rattle.ax_module.proofs.Ascii.{globals_ascii, functions_ascii}
use Rattle.ax_ir.proofs.canonical.spell.Goals as goal

pub names_of-requires : goal.names_of-requires
names_of-requires c =
    subst (λ globals. All (λ g. IsAscii g.name) globals) (sym c.as_slice-globals.ensures) (globals_ascii c.args.m.now c.requires)

pub push_module-requires-clause-globals : goal.push_module-requires-clause-globals
push_module-requires-clause-globals c =
    subst (λ globals. All (λ g. IsAscii g.name) globals) (sym c.as_slice-globals.ensures) (globals_ascii c.args.m.now c.requires)

pub push_module-requires-clause-functions : goal.push_module-requires-clause-functions
push_module-requires-clause-functions c =
    subst (All NamesAscii) (sym c.as_slice.ensures) (functions_ascii c.args.m.now c.requires)
