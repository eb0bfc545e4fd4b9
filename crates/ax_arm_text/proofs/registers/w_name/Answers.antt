use Rattle.std.proofs.Common.{◌≤◌, [], sym, arith}
use Rattle.std.proofs.lemmas.List.{get_or_past}
use Rattle.ax_arm_text.specs.Registers.{w_names}
use Rattle.ax_arm_text.proofs.registers.w_name.Goals as goal

pub returns-in_default : goal.returns-in_default
returns-in_default c =
    let past : 31 ≤ c.args.r = omega arith in
    sym (get_or_past w_names c.args.r [] past)
