-- Files of the system, of whose content nothing is told.
use Rattle.std.specs.Prelude.{ℕ, List}

-- the names of all calls so far, the failed calls and the bytes that the last call took
pub record HostFilesState : Type 0 where
  pub asked : List (List ℕ)
  pub faults : ℕ
  pub taken : ℕ
