-- The bytes of AT&T's sizes b, w, l and q.
use Rattle.std.specs.Prelude.{ℕ}
use Rattle.ax_x86.specs.declared.instructions.Size.{Size}
use Rattle.ax_x86.specs.declared.instructions.Size.TheVariants.{Byte, Word, Long, Quad}

abbrev pub size_bytes : Size → ℕ
size_bytes Byte = 1
size_bytes Word = 2
size_bytes Long = 4
size_bytes Quad = 8
