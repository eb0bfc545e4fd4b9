-- What several writes append.
use Rattle.std.proofs.Common.{ℕ, ◌+◌, ◌-◌, List, Option, length, take, drop}
use Rattle.std.proofs.Math.Seq.{take-add}
use Rattle.std.proofs.lemmas.List.{take_rest}
use Rattle.std.proofs.KnownBytes.{Appends-trans}
use Rattle.std.specs.Io.KnownBytes.{Appends}

-- a write of n of the bytes after the first i lengthens what was appended to the first i + n
pub Appends-take : (a b c : Option (List ℕ)) (i n : ℕ) (bytes : List ℕ) → Appends a b (take i bytes)
    → Appends b c (take n (take (length bytes - i) (drop i bytes))) → Appends a c (take (i + n) bytes)
Appends-take a b c i n bytes before more = rw take-add (Appends-trans a b c _ _ before (rw take_rest at more))
