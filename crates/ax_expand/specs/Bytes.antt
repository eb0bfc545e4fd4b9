-- All that processors share as bytes below the frames: a world.
use Rattle.std.specs.Prelude.{true}
use Rattle.ax_expand.specs.Shared.{Shared, shared_drained, Sees}
use Rattle.ax_expand.specs.World.{World}

abbrev pub bytes_world : World Shared
bytes_world = record { sees = λ n w. Sees n.storage w; drained = shared_drained; drain_gives = λ p w. true; inside = λ w. w.inside }
