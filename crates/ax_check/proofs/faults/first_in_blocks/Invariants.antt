use Rattle.std.proofs.Common.{◌≡◌, Option, take, drop, length, sum_by}
use Rattle.ax_module.specs.declared.module.Module.{Module}
use Rattle.ax_check.specs.declared.refusal.Refusal.{Refusal}
use Rattle.ax_check.specs.Faults.{FirstInBlocks}
use Rattle.ax_check.specs.Ready.{IsReady}
use Rattle.ax_check.proofs.faults.first_in_blocks.Given as goal

abbrev pub invariant-loop-b : goal.invariant-loop-b
invariant-loop-b l =
    record {
      numbers : l.start ≡ sum_by (λ b. length b.insts) (take l.b l.f.blocks);
      first : (m : Module) → IsReady m l.layout l.f l.setting → (r : Option Refusal) → FirstInBlocks m l.t l.k l.f l.b l.start (drop l.b l.f.blocks) r → FirstInBlocks m l.t l.k l.f 0 0 l.f.blocks r;
    }
