use Rattle.std.proofs.Common.{◌++◌, ap, ◌∙◌}
use Rattle.ax_app.specs.Serve.{report_of}
use Rattle.ax_app.proofs.text.report.Goals as goal

pub returns : goal.returns
returns c =
    let p = c.args.accepted.now in
    let r = c.args.run.now in
    c.in_ok-push_report_of.ensures ∙ ap (λ b. b ++ report_of p r.code r.plan) c.new-text.ensures.bytes ∙ ap (λ i. report_of p i r.plan) c.requires.of.code_is
