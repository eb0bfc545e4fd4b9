use Rattle.std.proofs.Common.{◌+◌, ◌-◌, ◌++◌, sym, ap, ◌∙◌, arith, append_assoc}
use Rattle.std.proofs.lemmas.List.{append-nil}
use Rattle.std.specs.String.{string_bytes}
use Rattle.ax_print.specs.Report.{lock_line}
use Rattle.ax_app.specs.Report.{word_of_lock, lock_part}
use Rattle.ax_app.proofs.Reports.{lock_next, lock_none}
use Rattle.ax_app.proofs.report_lines.push_locks.Goals as goal

pub loop-i-preserved : goal.loop-i-preserved
loop-i-preserved c m h =
    let i = c.loop-i.i in
    let n = c.args.count in
    let old = string_bytes c.loop-i.out in
    let rest = lock_part m (i + 1) (n - (i + 1)) in
    ap (λ t. t ++ rest) (c.in_ok-push_lock.ensures ∙ ap (λ w. old ++ lock_line i w) (c.lock_word.ensures m h)) ∙ append_assoc old (lock_line i (word_of_lock m i)) rest ∙ ap (λ t. old ++ t) (sym (lock_next m i n c.loop-i-test.true)) ∙ c.loop-i.invariant m h

pub returns : goal.returns
returns c m h =
    let i = c.loop-i.i in
    let n = c.args.count in
    let done = c.loop-i-test.false in
    let old = string_bytes c.loop-i.out in
    sym (append-nil old) ∙ ap (λ t. old ++ t) (sym (lock_none m i n (omega (arith, done)))) ∙ c.loop-i.invariant m h
