use Rattle.std.proofs.Common.{◌-◌, ◌∙◌, sym, arith}
use Rattle.ax_store.specs.Places.{byte_at}
use Rattle.ax_store.proofs.Reading.{below}
use Rattle.ax_store.proofs.Spans.{fit_word, here_byte}
use Rattle.ax_store.proofs.memory.Memory.read_along.Goals as goal

pub overflow_mul-value : goal.overflow_mul-value
overflow_mul-value c =
    let h = fit_word c.loop-i.i c.args.n c.loop-i.value 0 c.requires.width c.loop-i-test.true c.loop-i.invariant.within c.loop-i.invariant.small (omega arith) in
    omega arith

pub overflow_add-value : goal.overflow_add-value
overflow_add-value c =
    let h = fit_word c.loop-i.i c.args.n c.loop-i.value c.byte_along.result c.requires.width c.loop-i-test.true c.loop-i.invariant.within c.loop-i.invariant.small c.byte_along.type_inv in
    omega arith

pub byte_along-requires : goal.byte_along-requires
byte_along-requires c = c.requires.span.has (c.loop-i.i - 1) (let h = c.loop-i.invariant.within in let k = c.loop-i-test.true in omega arith)

pub loop-i-preserved : goal.loop-i-preserved
loop-i-preserved c =
    let at = c.byte_along.ensures ∙ sym (here_byte c.args.self.now c.args.a c.args.n (c.loop-i.i - 1) c.args.span c.requires.span (let h = c.loop-i.invariant.within in let k = c.loop-i-test.true in omega arith)) in
    below (byte_at c.args.self.now) c.args.a c.loop-i.i c.args.n c.loop-i.value c.byte_along.result c.loop-i-test.true c.loop-i.invariant.within c.loop-i.invariant.number c.loop-i.invariant.small at c.byte_along.type_inv
