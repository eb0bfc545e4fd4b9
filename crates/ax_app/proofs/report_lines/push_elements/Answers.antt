use Rattle.std.proofs.Common.{◌+◌, ◌-◌, ◌++◌, sym, ap, ◌∙◌, arith, append_assoc}
use Rattle.std.proofs.lemmas.List.{append-nil}
use Rattle.std.specs.String.{string_bytes}
use Rattle.ax_app.specs.Report.{element_line, element_lines}
use Rattle.ax_app.proofs.Reports.{element_next, element_none}
use Rattle.ax_app.proofs.report_lines.push_elements.Goals as goal

pub loop-i-preserved : goal.loop-i-preserved
loop-i-preserved c m h =
    let program = c.args.run.now.program in
    let mem = m.noted.storage.mem in
    let g = c.args.g in
    let name = c.args.name.now in
    let i = c.loop-i.i in
    let n = c.args.count in
    let old = string_bytes c.loop-i.out in
    let rest = element_lines program mem g name (i + 1) (n - (i + 1)) in
    ap (λ t. t ++ rest) (c.in_ok-push_element.ensures m h) ∙ append_assoc old (element_line program mem g name i) rest ∙ ap (λ t. old ++ t) (sym (element_next program mem g name i n c.loop-i-test.true)) ∙ c.loop-i.invariant m h

pub returns : goal.returns
returns c m h =
    let program = c.args.run.now.program in
    let mem = m.noted.storage.mem in
    let g = c.args.g in
    let name = c.args.name.now in
    let i = c.loop-i.i in
    let n = c.args.count in
    let done = c.loop-i-test.false in
    let old = string_bytes c.loop-i.out in
    sym (append-nil old) ∙ ap (λ t. old ++ t) (sym (element_none program mem g name i n (omega (arith, done)))) ∙ c.loop-i.invariant m h
