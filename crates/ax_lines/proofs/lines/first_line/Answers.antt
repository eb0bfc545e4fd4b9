use Rattle.ax_symbols.specs.Symbols.{is_feed}
use Rattle.ax_lines.proofs.Places.{empty_behind, next_behind}
use Rattle.ax_lines.proofs.lines.first_line.Goals as goal

pub returns-in-empty : goal.returns-in-empty
returns-in-empty c =
    let n = c.line_len.ensures.is in
    rw (c.split_at.ensures.front, n) (empty_behind is_feed c.args.symbols.now c.split_at.result.1.now (rw (← n) c.split_at.ensures.back) c.in-empty.len_below)

pub returns-in-len1-up : goal.returns-in-len1-up
returns-in-len1-up c =
    let n = c.line_len.ensures.is in
    rw (c.split_at.ensures.front, n) (next_behind is_feed c.args.symbols.now c.split_at.result.1.now (rw (← n) c.split_at.ensures.back) c.in-len1-up.len_at_least)
