-- Which object a call of a routine names (GCC libatomic ABI), and the words of the locks, for *Busy test* and *Caused failure*.
use Rattle.std.specs.Prelude.{ℕ, ◌/◌, ◌%◌, ◌^◌, ◌&&◌, if◌then◌else◌, nat_eq, nat_lt, List, [], ◌∷◌, Option, Some, None}
use Rattle.ax_map.specs.Map.{in_lock_table, lock_index_of, lock_word}
use Rattle.ax_isa.specs.declared.images.Image.{Image}
use Rattle.ax_isa.specs.declared.images.RoutineRange.{RoutineRange}
use Rattle.ax_isa.specs.Past.{ByteRange}
use Rattle.ax_isa.specs.Processor.{Processor}
use Rattle.ax_isa.specs.Run.{Setting, setting_of}
use Rattle.ax_isa.specs.Steps.{Kind}
use Rattle.ax_isa.specs.Tells.{Library}

-- the first 50 routines are ten of each size, rising, and name their object first; the others name its size first and then the object
abbrev pub named_object : (ℕ → ℕ) → ℕ → Processor → ByteRange
named_object argument routine c =
    if nat_lt routine 50 then record { address = c.regs (argument 0); bytes = 2 ^ (routine / 10) } else record { address = c.regs (argument 1); bytes = c.regs (argument 0) }

-- the object of a call of the code at a place
abbrev pub object_at : (ℕ → ℕ) → List RoutineRange → ℕ → Processor → Option ByteRange
object_at argument [] place c = None
object_at argument (r ∷ routines) place c = if nat_eq r.first place then Some (named_object argument r.routine c) else object_at argument routines place c

-- the lock table has 256 words, each 64 bytes after the one before
abbrev pub library_of : {I : Type 0} → Kind I → List RoutineRange → Library
library_of kind routines = record { object = object_at kind.argument routines; word = λ a. lock_word (lock_index_of a); is_word = λ a. in_lock_table a && nat_eq (a % 64) 0 }

-- what the run of an image is of
abbrev pub image_setting : {I : Type 0} → Kind I → Image I → Setting I
image_setting kind image = setting_of kind image.code image.tags (library_of kind image.routines)
