-- The clauses of the middle code's definition at instructions that go through a pointer.
use Rattle.std.proofs.Common.{refl}
use Rattle.ax_selected.specs.Selected.{piece}
use Rattle.ax_reach.specs.Clauses.{PiecesAreReached}

pub pieces_are_reached : PiecesAreReached
unfolding piece
pieces_are_reached program f k blocks b = record {
  load = λ ty a align. refl;
  load_atomic = λ ty a order align. refl;
  store = λ ty v a align. refl;
  store_atomic = λ ty v a order align. refl;
  rmw = λ o a ty v order align. refl;
  cmpxchg = λ weak a ty v other w success failure align. refl;
  gep = λ elem count a ty v. refl;
}
