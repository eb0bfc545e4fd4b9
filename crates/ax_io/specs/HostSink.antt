-- A sink of the system, over a writer.
use Rattle.std.specs.Prelude.{ℕ, List, Option}

-- what the writer holds, where it is known, and the failed calls
pub record HostSinkState : Type 0 where
  pub known : Option (List ℕ)
  pub faults : ℕ
