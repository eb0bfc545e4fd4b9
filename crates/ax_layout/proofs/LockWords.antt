-- Lock words and frames lie apart.
use Rattle.std.proofs.Common.{◌≡◌, ℕ, ◌+◌, ◌≤◌, ◌<◌, false, IsTrue, arith}
use Rattle.std.proofs.lemmas.Bool.Decides.{nat_tests}
use Rattle.ax_map.specs.Map.{covers, in_lock_table, lock_index_of, lock_word}
use Rattle.ax_layout.specs.Regions.{is_byte_of_frame, IsLockAlone}

pub index_below : (a : ℕ) → lock_index_of a < 256
index_below a = grind arith

pub covered : (a n b : ℕ) → IsTrue (covers a n b) → (a ≤ b) × (b < a + n)
covered a n b h = (grind (arith, nat_tests), grind (arith, nat_tests))

in_table : (index b : ℕ) → index < 256 → IsTrue (covers (lock_word index) 4 b) → IsTrue (in_lock_table b)
in_table index b h k = grind (arith, nat_tests)

one_lock : (index other b : ℕ) → IsTrue (covers (lock_word index) 4 b) → IsTrue (covers (lock_word other) 4 b) → index ≡ other
one_lock index other b h k = grind (arith, nat_tests)

no_frame : (index b p : ℕ) → index < 256 → IsTrue (covers (lock_word index) 4 b) → is_byte_of_frame p b ≡ false
no_frame index b p h k = grind (arith, nat_tests)

pub locks_apart : (index b : ℕ) → index < 256 → IsTrue (covers (lock_word index) 4 b) → IsLockAlone index b
locks_apart index b h k = record {
  table = in_table index b h k;
  others = λ other l. one_lock index other b k l;
  frames = λ p. no_frame index b p h k;
}

pub frames_apart : (p q b : ℕ) → IsTrue (is_byte_of_frame p b) → IsTrue (is_byte_of_frame q b) → p ≡ q
frames_apart p q b h k = grind (arith, nat_tests)
