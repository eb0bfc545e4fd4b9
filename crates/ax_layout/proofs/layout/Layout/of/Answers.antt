use Rattle.std.proofs.Common.{◌+◌, ◌≤◌, ◌++◌, [], ◌∷◌, drop, sym, ap, ◌∙◌, subst}
use Rattle.std.specs.Prelude.{All}
use Rattle.std.proofs.lemmas.List.Elements.{All-push}
use Rattle.ax_layout.specs.LayoutState.{IsInReach, end_of_span}
use Rattle.ax_layout.specs.Layout.{spans_after, end_after}
use Rattle.ax_layout.proofs.Spans.{in_midst, begins_in_time, ends_in_time, spans_go_on, end_goes_on}
use Rattle.ax_layout.proofs.layout.Layout.of.Goals as goal

pub next_span-span-requires-clause-end : goal.next_span-span-requires-clause-end
next_span-span-requires-clause-end c =
    let g = c.loop-global in
    begins_in_time _ _ _ _ (in_midst _ _ g.global-index g.end _ c.global-item.result c.as_slice-global-items.ensures c.loop-global-test.true c.global-item.is c.requires.globals g.invariant.end c.requires.end)

pub end-end-requires : goal.end-end-requires
end-end-requires c =
    let g = c.loop-global in
    subst (λ s. end_of_span s ≤ 1114112) (sym c.next_span-span.ensures.span)
    (ends_in_time _ _ _ _ (in_midst _ _ g.global-index g.end _ c.global-item.result c.as_slice-global-items.ensures c.loop-global-test.true c.global-item.is c.requires.globals g.invariant.end c.requires.end))

pub loop-global-preserved : goal.loop-global-preserved
loop-global-preserved c =
    let g = c.loop-global in
    let h = in_midst _ _ g.global-index g.end _ c.global-item.result c.as_slice-global-items.ensures c.loop-global-test.true c.global-item.is c.requires.globals g.invariant.end c.requires.end in
    let pushed = c.in_ok-push.ensures.items in
    let span = c.next_span-span.ensures.span in
    let end = c.end-end.ensures ∙ ap end_of_span span in
    record {
      spans = (λ d. (pushed ∙ ap (λ s. g.spans.items ++ s ∷ []) span) d ++ spans_after (end d) (drop (g.global-index + 1) c.args.m.now.globals)) ∙ spans_go_on _ _ _ _ h g.spans.items _ g.invariant.spans;
      end = ap (λ n. end_after n (drop (g.global-index + 1) c.args.m.now.globals)) end ∙ end_goes_on _ _ _ _ h _ g.invariant.end;
      reach = subst (All IsInReach) (sym (pushed ∙ ap (λ s. g.spans.items ++ s ∷ []) span)) (All-push IsInReach g.spans.items _ g.invariant.reach (ends_in_time _ _ _ _ h));
    }
