use Rattle.std.proofs.Common.{subst, sym, ◌∙◌, ap, drop}
use Rattle.ax_lex.specs.Scan.{IsScan, token_of}
use Rattle.ax_lex.proofs.Longest.{scan_is}
use Rattle.ax_lex.proofs.Walk.{scan_bounds}
use Rattle.ax_lex.proofs.scan.next_token.Goals as goal

pub returns : goal.returns
returns c =
    let is = subst (IsScan (drop c.args.at c.args.text.now)) (sym (c.token_at.ensures ∙ ap token_of c.split_at.ensures.back)) (scan_is (drop c.args.at c.args.text.now)) in
    record { scan = is; bounds = scan_bounds c.args.text.now c.args.at c.token_at.result c.requires is }
