use Rattle.std.proofs.Common.{ℕ, ◌^◌, ◌<◌, ◌∙◌, ap, subst, sym}
use Rattle.ax_emit.specs.Passes.{placed}
use Rattle.ax_emit_x86.proofs.Sizes.{placed_low}
use Rattle.ax_emit_x86.proofs.emitter.X86Emitter.place_behind.Goals as goal

pub returns-clause-place : goal.returns-clause-place
returns-clause-place g c = c.place_at.ensures ∙ ap (placed c.args.places.now) c.behind.ensures

pub returns-clause-low : goal.returns-clause-low
returns-clause-low g c = subst (λ (n : ℕ). n < 2 ^ 31) (sym c.place_at.ensures) (placed_low c.args.places.now c.behind.result c.requires)
