-- The sizes of atomic objects.
use Rattle.std.specs.Prelude.{ℕ, ◌*◌, Bool, ◌==◌, ◌||◌, IsTrue}
use Rattle.ax_words.specs.declared.width.Width.{Width}
use Rattle.ax_words.specs.declared.width.Width.TheVariants.{W8, W16, W32, W64, W128}

-- an atomic object has 1, 2, 4, 8 or 16 bytes
abbrev pub is_width : ℕ → Bool
is_width n = n == 1 || n == 2 || n == 4 || n == 8 || n == 16

abbrev pub IsWidth : ℕ → Type 0
IsWidth n = IsTrue (is_width n)

abbrev pub bytes_of : Width → ℕ
bytes_of W8 = 1
bytes_of W16 = 2
bytes_of W32 = 4
bytes_of W64 = 8
bytes_of W128 = 16

abbrev pub bits_of : Width → ℕ
bits_of width = 8 * bytes_of width
