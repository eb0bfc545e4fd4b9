use Rattle.std.proofs.Common.{◌+◌, ◌-◌, ◌++◌, length, sym, ap, ◌∙◌, arith, append_assoc}
use Rattle.std.proofs.lemmas.List.{append-nil}
use Rattle.std.specs.String.{string_bytes}
use Rattle.ax_agree.specs.Agree.{native_entries}
use Rattle.ax_print.specs.Report.{processor_line}
use Rattle.ax_app.specs.Report.{processor_part}
use Rattle.ax_app.proofs.Reports.{processor_next, processor_none}
use Rattle.ax_app.proofs.report_lines.push_processors.Goals as goal

pub loop-p-preserved : goal.loop-p-preserved
loop-p-preserved c m h =
    let of = c.args.run.now.program in
    let p = c.loop-p.p in
    let n = c.processors-p-end.result in
    let old = string_bytes c.loop-p.out in
    let rest = processor_part of m (p + 1) (n - (p + 1)) in
    let line = processor_line p (m.processors p).status (m.processors p).place (m.retired p) (length (native_entries of (m.noted.storage.waiting p))) in
    let wrote =
    c.in_ok-push_processor.ensures ∙ ap (λ s. old ++ processor_line p s c.place.result c.retired.result c.pending.result) (c.status.ensures m h)
    ∙ ap (λ k. old ++ processor_line p (m.processors p).status k c.retired.result c.pending.result) (c.place.ensures m h)
    ∙ ap (λ k. old ++ processor_line p (m.processors p).status (m.processors p).place k c.pending.result) (c.retired.ensures m h)
    ∙ ap (λ k. old ++ processor_line p (m.processors p).status (m.processors p).place (m.retired p) k) (c.pending.ensures m h) in
    ap (λ t. t ++ rest) wrote ∙ append_assoc old line rest ∙ ap (λ t. old ++ t) (sym (processor_next of m p n c.loop-p-test.true)) ∙ c.loop-p.invariant m h

pub returns : goal.returns
returns c m h =
    let of = c.args.run.now.program in
    let p = c.loop-p.p in
    let n = c.processors-p-end.result in
    let done = c.loop-p-test.false in
    let old = string_bytes c.loop-p.out in
    sym (append-nil old) ∙ ap (λ t. old ++ t) (sym (processor_none of m p n (omega (arith, done)))) ∙ c.loop-p.invariant m h ∙ ap (λ k. string_bytes c.args.out.now ++ processor_part of m 0 k) c.processors-p-end.ensures.number
