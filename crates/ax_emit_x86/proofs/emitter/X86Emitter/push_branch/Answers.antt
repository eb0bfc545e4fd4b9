use Rattle.std.proofs.Common.{ℕ, ◌≡◌, List, ◌++◌, subst}
use Rattle.std.specs.Prelude.{OnOk}
use Rattle.ax_tags.specs.declared.tags.Tag.{Tag}
use Rattle.ax_x86.specs.declared.instructions.X86Instr.{X86Instr}
use Rattle.ax_emit.specs.Behind.{behind_in}
use Rattle.ax_emit.specs.Lines.{branch_code}
use Rattle.ax_emit.specs.Passes.{placed}
use Rattle.ax_emit_x86.specs.Code.{get_one, jump_to, test_code, turn}
use Rattle.ax_emit_x86.specs.Emitters.{slot_of}
use Rattle.ax_emit_x86.proofs.emitter.X86Emitter.push_branch.Goals as goal

pub returns : goal.returns
returns g c =
    let high : ℕ = placed c.args.places.now (behind_in c.args.self.now.labels.now c.args.a) in
    let code : ℕ → ℕ → List (X86Instr × Tag) = λ high low. branch_code (get_one slot_of 0 c.args.test ++ test_code) turn jump_to high low c.args.start in
    let Made : ℕ → ℕ → Type 0 = λ high low. OnOk c.push_branch.result (c.push_branch.new.out.items ≡ c.args.out.now.items ++ code high low) in
    let first : Made high c.place_behind-low.result = subst (λ (n : ℕ). Made n c.place_behind-low.result) c.place_behind-high.ensures.place c.push_branch.ensures in
    subst (Made high) c.place_behind-low.ensures.place first
