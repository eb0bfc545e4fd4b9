use Rattle.std.proofs.Common.{◌+◌, Option, drop}
use Rattle.ax_module.specs.declared.module.Module.{Module}
use Rattle.ax_check.specs.declared.refusal.Refusal.{Refusal}
use Rattle.ax_check.specs.Faults.{FirstInBlock}
use Rattle.ax_check.specs.Ready.{IsReady}
use Rattle.ax_check.proofs.faults.first_in_block.Given as goal

abbrev pub invariant-loop-i : goal.invariant-loop-i
invariant-loop-i l = (m : Module) → IsReady m l.layout l.f l.setting → (r : Option Refusal) → FirstInBlock m l.t l.k l.f l.b (l.start + l.i) (drop l.i l.block.insts) r → FirstInBlock m l.t l.k l.f l.b l.start l.block.insts r
