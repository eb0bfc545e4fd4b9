use Rattle.std.proofs.Common.{◌≡◌, ◌++◌, map}
use Rattle.ax_expand.specs.Standing.{hush}
use Rattle.ax_emit.proofs.emitting.push_line.Given as goal

abbrev pub invariant-loop-inst : goal.invariant-loop-inst
invariant-loop-inst g l = record {
  code : l.code.items ≡ l.fn.code.items ++ map (λ i. i.0) l.yielded;
  tags : l.tags.items ≡ l.fn.tags.items ++ map (λ i. hush l.quiet i.1) l.yielded;
}
