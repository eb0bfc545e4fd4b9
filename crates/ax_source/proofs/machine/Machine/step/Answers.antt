use Rattle.std.proofs.Common.{◌≡◌, ◌<◌, ◌≤◌, length, sym, ap, ◌∙◌, subst, arith}
use Rattle.std.specs.Prelude.{slice_index_or, slice_set}
use Rattle.ax_source_run.specs.SourceEvent.{source_event}
use Rattle.ax_source_run.specs.SourceState.{SourceState}
use Rattle.ax_source.specs.MachineState.{MachineState, processors_of, state_of}
use Rattle.ax_cells.specs.Shapes.{cells_of}
use Rattle.ax_source.proofs.Events.{happened}
use Rattle.ax_source.proofs.Wholes.{belongs, stays_whole, word}
use Rattle.ax_typed.specs.Typed.{IsTyped}
use Rattle.ax_source.proofs.machine.Machine.step.Goals as goal

pub write_out-requires-clause-word : goal.write_out-requires-clause-word
write_out-requires-clause-word c =
    let m : MachineState = record { program = c.self.inside.program.now; room = c.self.inside.room; globals = c.self.inside.globals; outputs = c.self.inside.outputs.items; processors = c.self.inside.processors.items } in
    let count = ap (λ (x : MachineState). length x.processors) c.self.view_is in
    let within : c.named_by-p.result < length m.processors = let l = c.requires.processor in let n = c.named_by-p.ensures in omega arith in
    let now = c.index_mut-processor.result.now in
    let is : now ≡ slice_index_or m.processors c.named_by-p.result now = c.index_mut-processor.ensures.value in
    let same = belongs m c.named_by-p.result now c.self.invariant.1 within is in
    let state = happened m c.named_by-p.result now within is now.program c.args.e c.happen-output.new.self c.happen-output.new.globals c.happen-output.result same.same c.named_by-p.ensures c.happen-output.ensures.deed in
    let typed = c.numbers_are_typed.ensures.event m.program c.args.e (state_of m) c.is_without_faults.ensures c.self.invariant.2 in
    word m.outputs c.named_by-p.result c.happen-output.result (subst (λ (s : SourceState). IsTyped m.program.source s) (sym state) typed).outputs

pub invariant_of-self : goal.invariant_of-self
invariant_of-self c =
    let m : MachineState = record { program = c.self.inside.program.now; room = c.self.inside.room; globals = c.self.inside.globals; outputs = c.self.inside.outputs.items; processors = c.self.inside.processors.items } in
    let count = ap (λ (x : MachineState). length x.processors) c.self.view_is in
    let room = ap (λ (x : MachineState). x.room) c.self.view_is in
    let within : c.named_by-p.result < length m.processors = let l = c.requires.processor in let n = c.named_by-p.ensures in omega arith in
    let some : 1 ≤ m.room = let r = c.requires.room in omega arith in
    let now = c.index_mut-processor.result.now in
    let is : now ≡ slice_index_or m.processors c.named_by-p.result now = c.index_mut-processor.ensures.value in
    let same = belongs m c.named_by-p.result now c.self.invariant.1 within is in
    let new = c.happen-output.new.self in
    let globals = c.happen-output.new.globals in
    let outputs = c.write_out.new.outputs.items in
    let state = happened m c.named_by-p.result now within is now.program c.args.e new globals c.happen-output.result same.same c.named_by-p.ensures c.happen-output.ensures.deed in
    let typed = c.numbers_are_typed.ensures.event m.program c.args.e (state_of m) c.is_without_faults.ensures c.self.invariant.2 in
    let whole = stays_whole m c.named_by-p.result now c.self.invariant.1 within is new globals outputs c.happen-output.ensures.went.program c.happen-output.ensures.went.room some c.happen-output.ensures.shapes in (
      let i = c.self.invariant.0 in let l = c.write_out.ensures.len in let k = c.write_out.ensures.capacity in omega arith,
      whole,
      subst (λ (s : SourceState). IsTyped m.program.source s)
          (sym ((λ d. record { numbers = cells_of globals; outputs = c.write_out.ensures.items d; processors = processors_of (slice_set m.processors c.named_by-p.result new) }) ∙ state))
          typed,
    )

pub returns-clause-state : goal.returns-clause-state
returns-clause-state c =
    let m : MachineState = record { program = c.self.inside.program.now; room = c.self.inside.room; globals = c.self.inside.globals; outputs = c.self.inside.outputs.items; processors = c.self.inside.processors.items } in
    let count = ap (λ (x : MachineState). length x.processors) c.self.view_is in
    let within : c.named_by-p.result < length m.processors = let l = c.requires.processor in let n = c.named_by-p.ensures in omega arith in
    let now = c.index_mut-processor.result.now in
    let is : now ≡ slice_index_or m.processors c.named_by-p.result now = c.index_mut-processor.ensures.value in
    let same = belongs m c.named_by-p.result now c.self.invariant.1 within is in
    (λ d. record { numbers = cells_of c.happen-output.new.globals; outputs = c.write_out.ensures.items d; processors = processors_of (slice_set m.processors c.named_by-p.result c.happen-output.new.self) })
    ∙ happened m c.named_by-p.result now within is now.program c.args.e c.happen-output.new.self c.happen-output.new.globals c.happen-output.result same.same c.named_by-p.ensures c.happen-output.ensures.deed
    ∙ ap (λ (x : MachineState). source_event x.program c.args.e (state_of x)) c.self.view_is
