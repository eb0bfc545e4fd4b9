use Rattle.std.proofs.Common.{◌≤◌, [], sym, arith}
use Rattle.std.proofs.lemmas.List.{get_or_past}
use Rattle.ax_rv_text.specs.Registers.{register_names}
use Rattle.ax_rv_text.proofs.registers.register_name.Goals as goal

pub returns-in_default : goal.returns-in_default
returns-in_default c =
    let past : 32 ≤ c.args.r = omega arith in
    sym (get_or_past register_names c.args.r [] past)
