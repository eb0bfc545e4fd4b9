-- The address map: where the lock table, the globals and the frame of each processor lie. Only here do its numbers stand.
use Rattle.std.specs.Prelude.{◌≡◌, ℕ, ◌+◌, ◌-◌, ◌*◌, ◌/◌, ◌%◌, ◌^◌, ◌≤◌, Bool, false, ◌&&◌, ◌||◌, List, [], ◌∷◌, bit_xor, nat_le, nat_lt}

-- is b one of the n bytes from a on
abbrev pub covers : ℕ → ℕ → ℕ → Bool
covers a n b = nat_le a b && nat_lt b (a + n)

-- ---- the lock table
-- 0x8000
abbrev pub lock_table_start : ℕ
lock_table_start = 32768

-- 0xC000, behind it
abbrev pub lock_table_end : ℕ
lock_table_end = 49152

abbrev pub in_lock_table : ℕ → Bool
in_lock_table a = nat_le lock_table_start a && nat_lt a lock_table_end

-- the lock of the object whose first byte is at a
abbrev pub lock_index_of : ℕ → ℕ
lock_index_of a = bit_xor (a / 2 ^ 4) (a / 2 ^ 12) % 256

-- where the word of a lock begins: it has 4 bytes, and lies 64 bytes after the one before
abbrev pub lock_word : ℕ → ℕ
lock_word index = lock_table_start + 64 * index

-- ---- the globals
-- 0x10000, where the first global's addresses begin
abbrev pub globals_start : ℕ
globals_start = 65536

-- 0x110000, which no global passes
abbrev pub globals_limit : ℕ
globals_limit = 1114112

-- up to their end
abbrev pub in_globals : ℕ → ℕ → Bool
in_globals end a = nat_le globals_start a && nat_lt a end

-- an end of the globals: a multiple of 16
pub record IsGlobalsEnd (end : ℕ) : Type 0 where
  pub least : globals_start ≤ end
  pub most : end ≤ globals_limit
  pub step : end % 16 ≡ 0

-- ---- the frames
-- 0x1000000, where the addresses of the first processor's frame begin
abbrev pub frames_start : ℕ
frames_start = 16777216

-- 0x20000, the addresses of each
abbrev pub frame_room : ℕ
frame_room = 131072

-- where those of processor p begin
abbrev pub frame_base : ℕ → ℕ
frame_base p = frames_start + frame_room * p

-- where they end
abbrev pub frame_end : ℕ → ℕ
frame_end p = frame_base p + frame_room

-- how far behind the frame's base a stack pointer begins: 8 bytes before the end
abbrev pub stack_offset : ℕ
stack_offset = 131064

-- the `size` bytes before the end
abbrev pub in_frame : ℕ → ℕ → ℕ → Bool
in_frame p size a = nat_le (frame_end p - size) a && nat_lt a (frame_end p)

-- one of the frames of p, p + 1, .. with these sizes
abbrev pub in_frames : ℕ → List ℕ → ℕ → Bool
in_frames p [] a = false
in_frames p (size ∷ sizes) a = in_frame p size a || in_frames (p + 1) sizes a

-- the size of a frame: a multiple of 8 from 8 on
pub record IsFrameSize (size : ℕ) : Type 0 where
  pub least : 8 ≤ size
  pub most : size ≤ frame_room
  pub step : size % 8 ≡ 0

-- there are 1 to 8 processors
pub record IsProcessorCount (n : ℕ) : Type 0 where
  pub least : 1 ≤ n
  pub most : n ≤ 8

-- ---- all regions
abbrev pub in_regions : ℕ → List ℕ → ℕ → Bool
in_regions end sizes a = in_lock_table a || in_globals end a || in_frames 0 sizes a
