use Rattle.std.proofs.Common.{◌≡◌, ◌+◌, ◌++◌, sym, ap, ◌∙◌, append_assoc, drop, map}
use Rattle.std.specs.Prelude.{slice_index_or}
use Rattle.std.specs.String.{string_bytes}
use Rattle.ax_module.specs.declared.module.Global.{Global}
use Rattle.ax_layout.specs.Layout.{count_in}
use Rattle.ax_app.specs.Report.{element_lines, object_part}
use Rattle.ax_app.proofs.Reports.{name_ascii, object_next, that_of}
use Rattle.ax_app.proofs.report_lines.push_objects.Goals as goal

pub push_elements-requires-clause-global : goal.push_elements-requires-clause-global
push_elements-requires-clause-global c =
    (that_of c.args.run.now.program c.requires.limits c.requires.layout c.objects_are_apart.ensures.globals c.args.globals.now c.requires.globals c.loop-global.g c.loop-global.global-index c.global-item.result c.loop-global.invariant.0 c.loop-global-test.true c.global-item.is).within

pub push_elements-requires-clause-count : goal.push_elements-requires-clause-count
push_elements-requires-clause-count c =
    sym (that_of c.args.run.now.program c.requires.limits c.requires.layout c.objects_are_apart.ensures.globals c.args.globals.now c.requires.globals c.loop-global.g c.loop-global.global-index c.global-item.result c.loop-global.invariant.0 c.loop-global-test.true c.global-item.is).count

pub push_elements-requires-clause-bytes : goal.push_elements-requires-clause-bytes
push_elements-requires-clause-bytes c = name_ascii c.args.globals.now c.requires.bytes c.loop-global.global-index c.global-item.result c.loop-global-test.true c.global-item.is

pub loop-global-preserved : goal.loop-global-preserved
loop-global-preserved c = (
  ap (λ k. k + 1) c.loop-global.invariant.0,
  λ m h.
      let i = c.loop-global.global-index in
      let globals = c.args.globals.now in
      let old = string_bytes c.loop-global.out in
      let program = c.args.run.now.program in
      let mem = m.noted.storage.mem in
      let x = c.global-item.result in
      let less = c.loop-global-test.true in
      let that = that_of program c.requires.limits c.requires.layout c.objects_are_apart.ensures.globals globals c.requires.globals c.loop-global.g i x c.loop-global.invariant.0 less c.global-item.is in
      let rest = object_part program mem (i + 1) (map (λ (y : Global). y.name) (drop (i + 1) globals)) in
      let lines = element_lines program mem i (slice_index_or globals i x).name 0 (count_in program.layout i) in
      let wrote : string_bytes c.push_elements.new.out ≡ old ++ lines =
      c.in_ok-push_elements.ensures m h ∙ ap (λ n. old ++ element_lines program mem c.loop-global.g x.name 0 n) (sym that.count)
      ∙ ap (λ g. old ++ element_lines program mem g x.name 0 (count_in program.layout g)) c.loop-global.invariant.0
      ∙ ap (λ (y : Global). old ++ element_lines program mem i y.name 0 (count_in program.layout i)) c.global-item.is in
      ap (λ t. t ++ rest) wrote ∙ append_assoc old lines rest
      ∙ ap (λ t. old ++ t) (sym (object_next program mem i i globals x less))
      ∙ c.loop-global.invariant.1 m h,
)
