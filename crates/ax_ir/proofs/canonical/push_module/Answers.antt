use Rattle.std.proofs.Common.{map, flat_map, string_bytes}
use Rattle.std.proofs.lemmas.Result.{on_ok_weaker}
use Rattle.ax_ir.specs.Canonical.{global_line, function_lines}
use Rattle.ax_ir.proofs.Lines.{lines_appended}
use Rattle.ax_ir.proofs.canonical.push_module.Goals as goal

pub returns : goal.returns
returns c =
    let globals = map global_line c.args.globals.now in
    let functions = flat_map (function_lines c.args.names.now) c.args.functions.now in
    on_ok_weaker c.push_functions.result
    (λ last. lines_appended (string_bytes c.args.text.now) (string_bytes c.push_globals.new.text) (string_bytes c.push_functions.new.text) globals functions c.in_ok-push_globals.ensures last)
    c.push_functions.ensures
