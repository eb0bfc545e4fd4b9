-- Which byte of which list stands for an address.
use Rattle.std.specs.Prelude.{ℕ, ◌+◌, ◌-◌, ◌/◌, ◌%◌, Bool, nat_lt, if◌then◌else◌, List, [], ◌∷◌, length, slice_index_or, slice_set, replicate, map}
use Rattle.ax_map.specs.Map.{frame_room, frames_start, globals_start, lock_table_start}

-- the lock table lies below the globals, these below the frames
abbrev pub part_of : ℕ → ℕ
part_of a = if nat_lt a globals_start then 0 else (if nat_lt a frames_start then 1 else (a - frames_start) / frame_room + 2)

-- a frame lies at the end of its addresses: its bytes are counted from there down
abbrev pub place_in : ℕ → ℕ
place_in a =
    if nat_lt a lock_table_start then a + lock_table_start
    else if nat_lt a globals_start then a - lock_table_start
    else if nat_lt a frames_start then a - globals_start else frame_room - 1 - (a - frames_start) % frame_room

abbrev pub bytes_in : List (List ℕ) → ℕ → List ℕ
bytes_in rs a = slice_index_or rs (part_of a) []

abbrev pub byte_at : List (List ℕ) → ℕ → ℕ
byte_at rs a = slice_index_or (bytes_in rs a) (place_in a) 0

abbrev pub is_inside : List (List ℕ) → ℕ → Bool
is_inside rs a = nat_lt (place_in a) (length (bytes_in rs a))

abbrev pub bytes_set : List (List ℕ) → ℕ → ℕ → List (List ℕ)
bytes_set rs a v = slice_set rs (part_of a) (slice_set (bytes_in rs a) (place_in a) v)

abbrev pub zeros : ℕ → List ℕ
zeros n = replicate n 0

-- zeros, where each region has so many bytes
abbrev pub regions_of : ℕ → ℕ → List ℕ → List (List ℕ)
regions_of table globals frames = zeros table ∷ zeros globals ∷ map zeros frames

-- the addresses of regions of these sizes
abbrev pub is_mapped : ℕ → ℕ → List ℕ → ℕ → Bool
is_mapped table globals frames a = nat_lt (place_in a) (slice_index_or (table ∷ globals ∷ frames) (part_of a) 0)
