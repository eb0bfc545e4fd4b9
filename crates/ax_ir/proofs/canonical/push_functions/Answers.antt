use Rattle.std.proofs.Common.{subst, sym}
use Rattle.ax_module.specs.Ascii.{NamesAscii}
use Rattle.ax_ir.proofs.canonical.push_functions.Goals as goal

pub push_function-requires : goal.push_function-requires
push_function-requires c =
    subst NamesAscii (sym c.function-item.is) (c.requires c.loop-function.function-index c.function-item.result c.loop-function-test.true)
