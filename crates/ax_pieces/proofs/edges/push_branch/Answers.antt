use Rattle.std.proofs.Common.{◌≡◌, ℕ, List, [], ◌∷◌, ◌++◌, map, subst}
use Rattle.ax_mid.specs.Built.{pushed}
use Rattle.ax_mid.specs.declared.code.Line.{Line}
use Rattle.ax_mid.specs.declared.instruction.MidInst.TheVariants as mid
use Rattle.ax_mid.specs.declared.registers.Virtual.{Virtual}
use Rattle.ax_selected.specs.Edges.{edge_lines}
use Rattle.ax_selected.specs.Registers.{second_label}
use Rattle.ax_selected.specs.Selected.{silent, straight}
use Rattle.ax_pieces.specs.Edges.{tested}
use Rattle.ax_pieces.proofs.Pushing.{pushed_both, then_pushed}
use Rattle.ax_pieces.proofs.edges.push_branch.Goals as goal

pub returns : goal.returns
returns c =
    let f = c.args.site.function in
    let k = c.args.site.instruction in
    let v = c.args.v in
    let blocks = c.args.blocks.now in
    let test : List (Line Virtual) = map (silent f k) (tested f k v.test) in
    let a : List (Line Virtual) = straight f k (edge_lines f blocks v.from v.if_true) in
    let b : List (Line Virtual) = straight f k (edge_lines f blocks v.from v.if_false) in
    let label : List (Line Virtual) = silent f k (mid.Label (second_label f k)) ∷ [] in
    let here = subst (λ (n : ℕ). c.silent.new.code ≡ pushed (silent f k (mid.Label n) ∷ []) c.push_edge.new.code) c.second_label-label.ensures c.in_ok-silent.ensures in
    let first = pushed_both test a c.args.code.now c.tested.new.code c.push_edge.new.code c.in_ok-tested.ensures c.in_ok-push_edge.ensures in
    let second = then_pushed c.push_edge-2.result label b c.push_edge.new.code c.silent.new.code c.push_edge-2.new.code here c.push_edge-2.ensures in
    then_pushed c.push_edge-2.result (test ++ a) (label ++ b) c.args.code.now c.push_edge.new.code c.push_edge-2.new.code first second
