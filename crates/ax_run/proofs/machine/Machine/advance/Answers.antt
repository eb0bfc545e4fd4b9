use Rattle.std.proofs.Common.{◌≡◌, ◌<◌, ◌≤◌, ◌+◌, [], length, slice_index_or, sym, subst, arith}
use Rattle.std.proofs.lemmas.List.Sums.{sum_by-set}
use Rattle.ax_isa.specs.Past.{Past}
use Rattle.ax_run.specs.Machine.{MachineState, sent_at}
use Rattle.ax_run.proofs.Advancing.{Deed, advanced, still_ready}
use Rattle.ax_run.proofs.machine.Machine.advance.Goals as goal

pub invariant_of-self : goal.invariant_of-self
invariant_of-self g c =
    let i = c.self.inside in
    let old : MachineState = record { program = i.program.now; processors = i.cpus.items; retired = i.retired; store = i.store; natives = i.natives; outputs = i.outputs.items; sources = i.sources.items; events = i.events.items; room = i.room } in
    let deed : Deed g.I.Isa.kind c.args.image.now c.args.p old c.index_mut-c.result.now c.step-shown.new.c c.step-shown.new.s c.grown_by.result c.step-shown.result = record {
      ready = c.self.invariant.3;
      room = subst (λ (r : MachineState). 1 ≤ r.room) (sym c.self.view_is) c.requires.room;
      known = subst (λ (r : MachineState). c.args.p < length r.processors) (sym c.self.view_is) c.requires.processor;
      none = subst (λ (r : MachineState). (past : Past) → sent_at g.I.Isa.kind c.args.image.now c.args.p r past ≡ []) (sym c.self.view_is) c.requires.none;
      found = c.index_mut-c.ensures.value;
      code = c.as_slice-code.result.now;
      code_is = c.as_slice-code.ensures;
      tags = c.as_slice-tags.result.now;
      tags_are = c.as_slice-tags.ensures;
      made = c.step-shown.ensures;
      waited = c.pending-waited.result;
      waited_are = c.pending-waited.ensures;
      waits = c.pending-waits.result;
      waits_are = c.pending-waits.ensures;
      grown_is = c.grown_by.ensures.exact;
    } in
    let room = deed.room in
    let cells : c.args.p < length i.natives = (let few = deed.ready.few in let known = deed.known in let counters = deed.ready.counters in omega (arith, few, known, counters)) in
    let total = sum_by-set (λ x. x) i.natives c.args.p (slice_index_or i.natives c.args.p 0 + c.grown_by.result) 0 cells in (
      omega (arith, c.self.invariant.0, room, c.push_output.ensures.length, c.push_output.ensures.capacity),
      omega (arith, c.self.invariant.1, room, total, c.grown_by.ensures.few, c.push_source.ensures.length, c.push_source.ensures.capacity),
      omega (arith, c.self.invariant.2, room, c.push_reserved.ensures.len, c.push_reserved.ensures.capacity),
      still_ready g.I.Isa.kind c.args.image.now c.args.p old c.index_mut-c.result.now c.step-shown.new.c c.step-shown.new.s c.grown_by.result c.step-shown.result deed _ _ _,
    )

pub returns : goal.returns
returns g c =
    let i = c.self.inside in
    let old : MachineState = record { program = i.program.now; processors = i.cpus.items; retired = i.retired; store = i.store; natives = i.natives; outputs = i.outputs.items; sources = i.sources.items; events = i.events.items; room = i.room } in
    let deed : Deed g.I.Isa.kind c.args.image.now c.args.p old c.index_mut-c.result.now c.step-shown.new.c c.step-shown.new.s c.grown_by.result c.step-shown.result = record {
      ready = c.self.invariant.3;
      room = subst (λ (r : MachineState). 1 ≤ r.room) (sym c.self.view_is) c.requires.room;
      known = subst (λ (r : MachineState). c.args.p < length r.processors) (sym c.self.view_is) c.requires.processor;
      none = subst (λ (r : MachineState). (past : Past) → sent_at g.I.Isa.kind c.args.image.now c.args.p r past ≡ []) (sym c.self.view_is) c.requires.none;
      found = c.index_mut-c.ensures.value;
      code = c.as_slice-code.result.now;
      code_is = c.as_slice-code.ensures;
      tags = c.as_slice-tags.result.now;
      tags_are = c.as_slice-tags.ensures;
      made = c.step-shown.ensures;
      waited = c.pending-waited.result;
      waited_are = c.pending-waited.ensures;
      waits = c.pending-waits.result;
      waits_are = c.pending-waits.ensures;
      grown_is = c.grown_by.ensures.exact;
    } in
    advanced g.I.Isa.kind c.args.image.now c.args.p old c.index_mut-c.result.now c.step-shown.new.c c.step-shown.new.s c.grown_by.result c.step-shown.result deed c.args.self.now c.self.view_is _ _ _ c.push_output.ensures.items c.push_source.ensures.items c.push_reserved.ensures.items
