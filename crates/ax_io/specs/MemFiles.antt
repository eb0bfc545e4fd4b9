-- Files in memory: a list of names and contents, of which the first of a name counts.
use Rattle.std.specs.Prelude.{◌≡◌, ℕ, ◌<◌, ◌≤◌, ◌+◌, List, [], ◌∷◌, ◌++◌, length, map, nat_eq, Option, Some, None, Result, Ok, Err, if◌then◌else◌, ◌⊎◌, vec_len}
use Rattle.std.specs.List.{list_any}
use Rattle.std.specs.Map.{lookup}
use Rattle.std.specs.Str.{bytes_eq}
use Rattle.std.specs.String.{string_bytes}
use Rattle.std.specs.declared.string.String.{String}
use Rattle.std.specs.declared.vec.Vec.{Vec}
use Rattle.ax_io.specs.declared.fault.FileFault.{FileFault}
use Rattle.ax_io.specs.declared.fault.FileFault.TheVariants.{Failed, TooLong, Memory}
use Rattle.ax_io.specs.Count.{raised}

-- the files, the numbers of the calls that fail, the names of all calls so far, the failed calls and the bytes that the last call took
pub record MemFilesState : Type 0 where
  pub files : List (List ℕ × List ℕ)
  pub failing : List ℕ
  pub asked : List (List ℕ)
  pub faults : ℕ
  pub taken : ℕ

-- names and contents as lists of bytes
abbrev pub contents : {A B : Type 0} → List (String A × Vec ℕ B) → List (List ℕ × List ℕ)
contents files = map (λ f. (string_bytes f.0, f.1.items)) files

-- the content of the first file of a name
abbrev pub first_of : List (List ℕ × List ℕ) → List ℕ → Option (List ℕ)
first_of files name = lookup (bytes_eq name) files

-- the content that a call with this number finds, which is none where the number is among the failing
abbrev pub found : List (List ℕ × List ℕ) → List ℕ → ℕ → List ℕ → Option (List ℕ)
found files failing number name = if list_any (λ k. nat_eq k number) failing then None else first_of files name

-- the content that the next call finds
abbrev pub next_found : MemFilesState → List ℕ → Option (List ℕ)
next_found s name = found s.files s.failing (length s.asked) name

-- the files after a call that asked for a name, leaves this count of faults and took so many bytes
abbrev pub after_asking : MemFilesState → List ℕ → ℕ → ℕ → MemFilesState
after_asking s name faults taken = record s { asked = s.asked ++ name ∷ []; faults = faults; taken = taken }

-- the answer of a call and the files after it: it fails exactly where it finds no content, and is too long exactly where it finds one above the limit
abbrev pub Answers : {A : Type 0} → MemFilesState → MemFilesState → List ℕ → ℕ → Result (Vec ℕ A) FileFault → Type 0
Answers old new name limit (Ok bytes) = (next_found old name ≡ Some bytes.items) × (vec_len bytes ≤ limit) × (new ≡ after_asking old name old.faults (vec_len bytes))
Answers old new name limit (Err Failed) = (next_found old name ≡ None) × (new ≡ after_asking old name (raised old.faults) 0)
Answers old new name limit (Err TooLong) = (c : List ℕ) × (next_found old name ≡ Some c) × (limit < length c) × (new ≡ after_asking old name old.faults (limit + 1))
Answers old new name limit (Err Memory) = (new ≡ old) ⊎ (new ≡ after_asking old name old.faults 0)
