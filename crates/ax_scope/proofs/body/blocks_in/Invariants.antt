use Rattle.std.proofs.Common.{◌≡◌, ◌+◌, ◌++◌, true, drop}
use Rattle.ax_scope.specs.Around.{looks}
use Rattle.ax_scope.specs.Answers.{first_fault}
use Rattle.ax_scope.specs.Faults.{body_faults}
use Rattle.ax_scope.specs.Module.{onto, blocks_in}
use Rattle.ax_scope.proofs.body.blocks_in.Given as goal

abbrev pub invariant-loop-line : goal.invariant-loop-line
invariant-loop-line l = record {
  built : l.blocks.items ++ onto l.block.items (blocks_in (looks l.names) (drop l.line-index l.inside)) ≡ blocks_in (looks l.names) l.inside;
  found : first_fault l.number (body_faults (record { looks = looks l.names; entry = l.entry; first = l.first; so_far = l.so_far }) (drop l.line-index l.inside))
      ≡ first_fault l.start (body_faults (record { looks = looks l.names; entry = l.entry; first = true; so_far = l.fn.params }) l.inside);
  counts : l.number ≡ l.start + l.line-index;
}
