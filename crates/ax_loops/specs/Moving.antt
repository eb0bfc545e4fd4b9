-- Instructions that touch registers alone.
use Rattle.std.specs.Prelude.{◌≡◌, ◌⊎◌, ℕ, ◌+◌, Bool, false}
use Rattle.ax_isa.specs.declared.effects.Effect.{Effect}
use Rattle.ax_isa.specs.declared.effects.Effect.TheVariants.{Jump, Nop}
use Rattle.ax_isa.specs.Processor.{Processor}

-- no address of a frame
abbrev pub nowhere : ℕ → Bool
nowhere a = false

-- from this processor an effect goes to a place
abbrev pub Turns : Effect → Processor → ℕ → Type 0
Turns e c place = (e ≡ Jump place) ⊎ ((e ≡ Nop) × (place ≡ c.place + 1))
