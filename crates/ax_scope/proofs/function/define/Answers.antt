use Rattle.std.proofs.Common.{◌∙◌, sym, ap, length, take, ◌≤◌, arith}
use Rattle.ax_scope.specs.NameTable.{look}
use Rattle.ax_scope.proofs.Takes.{taken, missed_by}
use Rattle.ax_scope.proofs.function.define.Goals as goal

pub returns-in_err-body : goal.returns-in_err-body
returns-in_err-body c =
    missed_by c.args.text.now (look c.args.globals.now) c.args.head.name c.args.head.result c.args.head.params.now c.args.behind.now c.args.start
    c.in_err-body.field-0.0 c.inner_len.result c.split_at.result.0.now c.args.functions.now.items c.from_residual.result c.inner_len.ensures.is c.split_at.ensures.front (c.in_err-body.ensures {u = tt}).found c.from_residual.ensures.0 c.from_residual.ensures.1

pub returns : goal.returns
returns c =
    let within : length c.split_at.result.0.now ≤ length c.args.behind.now = omega arith in
    taken c.args.text.now (look c.args.globals.now) c.args.head.name c.args.head.result c.args.head.params.now c.args.behind.now c.args.start
    c.args.functions.now.items c.push.new.self.items c.in_ok-function.function c.inner_len.result (length c.split_at.result.0.now) c.split_at.result.0.now c.in_ok-body.body.items
    c.inner_len.ensures.is c.split_at.ensures.front_len within (sym (ap length (c.split_at.ensures.front ∙ ap (λ k. take k c.args.behind.now) c.inner_len.ensures.is))) c.split_at.ensures.front (c.in_ok-body.ensures {u = tt}).found (c.in_ok-body.ensures {u = tt}).built (c.in_ok-function.ensures {u = tt}) (c.in_ok-push.ensures {u = tt}).items
