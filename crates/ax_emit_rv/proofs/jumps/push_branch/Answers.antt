use Rattle.std.proofs.Common.{ℕ, ◌+◌, List, ◌∷◌, [], ◌++◌, ◌∙◌, ap, length, pos}
use Rattle.ax_tags.specs.declared.tags.Tag.{Tag}
use Rattle.ax_tags.specs.declared.tags.Tag.TheVariants.{Act, Silent}
use Rattle.ax_rv.specs.declared.instructions.Condition.TheVariants.{NotEqual}
use Rattle.ax_rv.specs.declared.instructions.RvInstr.{RvInstr}
use Rattle.ax_rv.specs.declared.instructions.RvInstr.TheVariants.{Branch}
use Rattle.ax_expand.specs.Standing.{silently}
use Rattle.ax_emit_rv.specs.Code.{get_one, jump_to}
use Rattle.ax_emit_rv.specs.Emitters.{slot_of}
use Rattle.ax_emit_rv.proofs.Emitting.{both}
use Rattle.ax_emit_rv.proofs.jumps.push_branch.Goals as goal

pub returns : goal.returns
returns c =
    let got : List RvInstr = get_one slot_of 5 c.args.test in
    let turn : List (RvInstr × Tag) = (Branch NotEqual 5 0 (pos 2), Silent) ∷ [] in
    let low : ℕ → List (RvInstr × Tag) = λ n. (jump_to (c.args.start + n + 1) c.args.targets.low, Act) ∷ [] in
    let high : ℕ → List (RvInstr × Tag) = λ n. (jump_to (c.args.start + n + 2) c.args.targets.high, Act) ∷ [] in
    let first = c.in_ok-push_jump.ensures ∙ ap (λ (n : ℕ). c.push_silent.new.out.items ++ low n) c.size_of_get.ensures in
    let second = c.in_ok-push_jump-2.ensures ∙ ap (λ (n : ℕ). c.push_jump.new.out.items ++ high n) c.size_of_get.ensures in
    let jumps = both (low (length got)) (high (length got)) _ _ _ first second in
    let turns = both turn (low (length got) ++ high (length got)) _ _ _ c.in_ok-push_silent.ensures jumps in
    both (silently got) (turn ++ (low (length got) ++ high (length got))) _ _ _ c.in_ok-push_get_one.ensures turns
