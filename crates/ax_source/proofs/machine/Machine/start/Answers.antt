use Rattle.std.proofs.Common.{List, map, sym, ap, ◌∙◌, subst, arith}
use Rattle.ax_module.specs.declared.module.Global.{Global}
use Rattle.ax_module.specs.declared.module.Module.{Module}
use Rattle.ax_source_run.specs.SourceState.{SourceState}
use Rattle.ax_cells.specs.Memories.{initial_array}
use Rattle.ax_source.proofs.Begins.{started, whole}
use Rattle.ax_typed.specs.Typed.{IsTyped}
use Rattle.ax_source.proofs.machine.Machine.start.Goals as goal

pub invariant_of-result : goal.invariant_of-result
invariant_of-result c =
    let globals = c.of.ensures ∙ c.in_ok-globals.ensures ∙ ap (λ (gs : List Global). map initial_array gs) (c.as_slice.ensures ∙ ap (λ (m : Module). m.globals) c.module.ensures) in (
      omega (arith, c.in_ok-outputs.ensures.len, c.in_ok-outputs.ensures.exact),
      whole c.args.program.now c.args.events c.args.entries.now c.of.result c.in_ok-outputs.outputs.items c.in_ok-processors.processors.items (c.accepted_modules_are_runnable.ensures c.args.program.now c.is_without_faults.ensures) globals c.in_ok-processors.ensures,
      subst (λ (s : SourceState). IsTyped c.args.program.now.source s)
          (sym (started c.args.program.now c.args.events c.args.entries.now c.of.result c.in_ok-outputs.outputs.items c.in_ok-processors.processors.items globals c.in_ok-outputs.ensures.items c.in_ok-processors.ensures))
          (c.numbers_are_typed.ensures.start c.args.program.now c.args.entries.now c.is_without_faults.ensures),
    )

pub returns-clause-state : goal.returns-clause-state
returns-clause-state c =
    let globals = c.of.ensures ∙ c.in_ok-globals.ensures ∙ ap (λ (gs : List Global). map initial_array gs) (c.as_slice.ensures ∙ ap (λ (m : Module). m.globals) c.module.ensures) in
    started c.args.program.now c.args.events c.args.entries.now c.of.result c.in_ok-outputs.outputs.items c.in_ok-processors.processors.items globals c.in_ok-outputs.ensures.items c.in_ok-processors.ensures

pub processors-requires : goal.processors-requires
processors-requires c = c.accepted_modules_are_runnable.ensures c.args.program.now c.is_without_faults.ensures
