-- What all processors share: the bytes below the frames, and each processor's stores there that wait.
use Rattle.std.specs.Prelude.{◌≡◌, ℕ, ◌+◌, ◌<◌, ◌≤◌, ◌%◌, ◌^◌, Bool, true, false, if◌then◌else◌, nat_lt, List, [], ◌∷◌, ◌++◌, Option, Some, None}
use Rattle.ax_store.specs.declared.entry.Entry.{Entry}
use Rattle.ax_store.specs.Bytes.{all_inside, put}
use Rattle.ax_map.specs.Map.{frames_start}
use Rattle.ax_store.specs.Storage.{Storage, at_place, entry_of}

pub record Shared : Type 0 where
  pub inside : ℕ → Bool
  pub mem : ℕ → ℕ
  pub pending : ℕ → List Entry

-- n bytes from a on, below them
abbrev pub IsBelow : ℕ → ℕ → Type 0
IsBelow a n = a + n ≤ frames_start

-- all below the frames
abbrev pub is_shared : ℕ → Bool
is_shared a = nat_lt a frames_start

abbrev pub masked : (ℕ → ℕ) → ℕ → ℕ
masked f a = if is_shared a then f a else 0

abbrev pub counts : Entry → Bool
counts e = is_shared e.address

abbrev pub shared_only : List Entry → List Entry
shared_only [] = []
shared_only (e ∷ es) = if counts e then e ∷ shared_only es else shared_only es

-- a write reaches memory
abbrev pub shared_wrote : Entry → Shared → Shared
shared_wrote e w = record w { mem = masked (put w.inside e.address e.bytes e.value w.mem) }

-- a locked access or a pair store leaves a number, or none
abbrev pub shared_replaced : ℕ → ℕ → Option ℕ → Shared → Shared
shared_replaced a n None w = w
shared_replaced a n (Some v) w = shared_wrote (entry_of a n v) w

abbrev pub with_pending : ℕ → List Entry → Shared → Shared
with_pending p es w = record w { pending = at_place w.pending p es }

abbrev pub shared_store : Bool → ℕ → Entry → Shared → Shared
shared_store true p e w = with_pending p (w.pending p ++ e ∷ []) w
shared_store false p e w = shared_wrote e w

abbrev pub drain_of : ℕ → List Entry → Shared → Shared
drain_of p [] w = w
drain_of p (e ∷ es) w = shared_wrote e (with_pending p es w)

abbrev pub shared_drained : ℕ → Shared → Shared
shared_drained p w = drain_of p (w.pending p) w

-- a storage shows this
pub record Sees (st : Storage) (w : Shared) : Type 0 where
  pub inside : st.inside ≡ w.inside
  pub mem : masked st.mem ≡ w.mem
  pub pending : (p : ℕ) → shared_only (st.waiting p) ≡ w.pending p

-- an object of so many bytes
pub record Object (a bytes : ℕ) (w : Shared) : Type 0 where
  pub aligned : a % bytes ≡ 0
  pub below : IsBelow a bytes
  pub some : 1 ≤ bytes
  pub inside : all_inside w.inside a bytes ≡ true
  pub small : (b : ℕ) → w.mem b < 2 ^ 8
