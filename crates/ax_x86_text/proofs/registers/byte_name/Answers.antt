use Rattle.std.proofs.Common.{◌≤◌, [], sym, arith}
use Rattle.std.proofs.lemmas.List.{get_or_past}
use Rattle.ax_x86_text.specs.Registers.{bytes}
use Rattle.ax_x86_text.proofs.registers.byte_name.Goals as goal

pub returns-in_default : goal.returns-in_default
returns-in_default c =
    let past : 16 ≤ c.args.r = omega arith in
    sym (get_or_past bytes c.args.r [] past)
