-- A sink in memory: all bytes that were put, with failing calls that keep the first bytes of their piece.
use Rattle.std.specs.Prelude.{◌≡◌, ◌≢◌, ℕ, List, [], ◌∷◌, ◌++◌, take, nat_eq, option_map, Option, Some, None, Result, Ok, Err}
use Rattle.std.specs.List.{find}
use Rattle.ax_io.specs.declared.fault.SinkFault.{SinkFault}
use Rattle.ax_io.specs.declared.fault.SinkFault.TheVariants.{Failed, Memory}
use Rattle.ax_io.specs.Count.{raised}

-- the bytes so far, the failing calls with how many bytes each keeps, the calls so far whose piece wasn't empty, and the failed calls
pub record MemSinkState : Type 0 where
  pub written : List ℕ
  pub failing : List (ℕ × ℕ)
  pub calls : ℕ
  pub faults : ℕ

-- how many bytes the first entry of this number keeps
abbrev pub kept_at : List (ℕ × ℕ) → ℕ → Option ℕ
kept_at failing number = option_map (λ e. e.1) (find (λ e. nat_eq e.0 number) failing)

-- how many bytes the next call keeps of a piece, where it fails
abbrev pub kept : MemSinkState → List ℕ → Option ℕ
kept s [] = None
kept s (b ∷ bs) = kept_at s.failing s.calls

-- the sink after one more call whose piece wasn't empty
abbrev pub after_call : MemSinkState → MemSinkState
after_call s = record s { calls = raised s.calls }

-- the sink after a piece that was put whole
abbrev pub after_piece : MemSinkState → List ℕ → MemSinkState
after_piece s [] = s
after_piece s (b ∷ bs) = record (after_call s) { written = s.written ++ b ∷ bs }

-- the sink after a failed call that kept these bytes
abbrev pub after_fault : MemSinkState → List ℕ → MemSinkState
after_fault s bytes = record (after_call s) { written = s.written ++ bytes; faults = raised s.faults }

-- the answer of a call and the sink after it: it fails exactly where its number is among the failing and the piece isn't empty
abbrev pub Answers : {V : Type 0} → MemSinkState → MemSinkState → List ℕ → Result V SinkFault → Type 0
Answers old new bytes (Ok _) = (kept old bytes ≡ None) × (new ≡ after_piece old bytes)
Answers old new bytes (Err Failed) = (n : ℕ) × (kept old bytes ≡ Some n) × (new ≡ after_fault old (take n bytes))
Answers old new bytes (Err Memory) = (bytes ≢ []) × (new ≡ after_call old)
