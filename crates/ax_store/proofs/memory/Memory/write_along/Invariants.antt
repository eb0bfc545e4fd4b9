use Rattle.std.proofs.Common.{◌≡◌, ◌<◌, ℕ, List}
use Rattle.ax_store.specs.Places.{byte_at, is_inside}
use Rattle.ax_store.specs.Bytes.{put}
use Rattle.ax_store.specs.Spans.{HasByte}
use Rattle.ax_store.proofs.Writing.{Sofar}
use Rattle.ax_store.proofs.memory.Memory.write_along.Given as goal

abbrev pub invariant-loop-i : goal.invariant-loop-i
invariant-loop-i l = Sofar l.fn.self l.self l.a l.i l.v × ((j : ℕ) → j < l.n → HasByte l.self j l.span)
