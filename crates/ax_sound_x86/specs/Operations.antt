-- WHAT THE CODE OF ATOMIC OPERATIONS ON X86-64 BRINGS, so that lines' code is sound.
use Rattle.std.specs.Prelude.{ℕ, ◌+◌, ◌<◌, ◌≤◌, ◌^◌, Bool, length}
use Rattle.ax_words.specs.declared.mark.Op.{Op}
use Rattle.ax_words.specs.declared.order.Order.{Order}
use Rattle.ax_words.specs.declared.width.Width.{Width}
use Rattle.ax_target.specs.declared.target.Target.{Target}
use Rattle.ax_mid.specs.WellFormed.{HasWay}
use Rattle.ax_x86.specs.Instructions.{IsInstr, x86_kind}
use Rattle.ax_emit_x86.specs.Code.{Expansion}
use Rattle.ax_emit_x86.specs.Emitters.{AreSteady}
use Rattle.ax_sound.specs.Good.{AreGood}

-- of the operations that call no routine on a target
pub record AreSoundExpansions (target : Target) (expansions : Op → Width → Order → Bool → Expansion) : Type 0 where
  -- each code has one length, wherever it stands
  pub steady : AreSteady expansions
  -- the line of an operation weighs 8, and so has at most 248 instructions, of which slots take at most 8
  pub most : (o : Op) (width : Width) (order : Order) (weak : Bool) → HasWay target o width order → length ((expansions o width order weak).piece 0) ≤ 240
  -- each instruction is good from a place on in a code of so many instructions, which goes on behind it
  pub good :
      (o : Op) (width : Width) (order : Order) (weak : Bool) (size place : ℕ) → HasWay target o width order → size < 2 ^ 31 → 1 ≤ place → place + length ((expansions o width order weak).piece place) ≤ size
      → AreGood x86_kind IsInstr size place ((expansions o width order weak).piece place)
