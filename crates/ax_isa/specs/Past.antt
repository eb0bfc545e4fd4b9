-- What a run notes of its past beside the storage: what *Caused failure* and *Busy test* speak of. No effect reads it.
use Rattle.std.specs.Prelude.{ℕ, zero, suc, ◌+◌, ◌/◌, Bool, true, false, ◌&&◌, ◌||◌, not, if◌then◌else◌, nat_eq, List, [], ◌∷◌, Option, Some, None}
use Rattle.ax_store.specs.declared.entry.Entry.{Entry}
use Rattle.ax_store.specs.declared.entry.Reservation.{Reservation}
use Rattle.ax_map.specs.Map.{covers}
use Rattle.ax_store.specs.Bytes.{number_at}
use Rattle.ax_store.specs.Reservations.{reaches, stands_for}
use Rattle.ax_store.specs.Storage.{Storage, at_place, load, entered, wrote, with_waiting, linked_at, dropped}

-- so many bytes from an address on
pub record ByteRange : Type 0 where
  pub address : ℕ
  pub bytes : ℕ

-- what a processor read last at each byte, and whether another's write has reached the byte since
pub record Note : Type 0 where
  pub read : ℕ → Bool
  pub number : ℕ → ℕ
  pub touched : ℕ → Bool

pub record Past : Type 0 where
  -- for each processor its last linked load, and whether since then it was dropped while the reservation stood, or another's write reached the reserved 64 bytes
  pub last : ℕ → Option Reservation
  pub lost : ℕ → Bool
  -- what its operation read before this try, and what it read in all
  pub kept : ℕ → Note
  pub next : ℕ → Note
  -- the object that the call in which it is names
  pub called : ℕ → Option ByteRange
  -- for each lock word the processor that holds the lock
  pub holder : ℕ → Option ℕ

pub record Noted : Type 0 where
  pub storage : Storage
  pub past : Past

abbrev pub noted : Storage → Past → Noted
noted st past = record { storage = st; past = past }

abbrev pub with_storage : Storage → Noted → Noted
with_storage st n = record n { storage = st }

abbrev pub nothing_read : Note
nothing_read = record { read = λ b. false; number = λ b. 0; touched = λ b. false }

abbrev pub start_past : Past
start_past = record { last = λ p. None; lost = λ p. false; kept = λ p. nothing_read; next = λ p. nothing_read; called = λ p. None; holder = λ w. None }

-- what a write of n bytes at a by p notes of q, whose last linked load this is
abbrev pub lost_by : ℕ → ℕ → ℕ → ℕ → Option Reservation → Bool → Bool
lost_by p a n q None lost = lost
lost_by p a n q (Some r) lost = if nat_eq q p then lost else (if reaches a n (r.address / 64) then true else lost)

abbrev pub touched_by : ℕ → Entry → ℕ → Note → Note
touched_by p e q note = record note { touched = λ b. if nat_eq q p then note.touched b else (covers e.address e.bytes b || note.touched b) }

abbrev pub past_wrote : ℕ → Entry → Past → Past
past_wrote p e h = record h { lost = λ q. lost_by p e.address e.bytes q (h.last q) (h.lost q); kept = λ q. touched_by p e q (h.kept q); next = λ q. touched_by p e q (h.next q) }

-- a write by p reaches memory
abbrev pub write : ℕ → Entry → Noted → Noted
write p e n = record { storage = wrote p e n.storage; past = past_wrote p e n.past }

-- a store by p, on a machine with buffers or without
abbrev pub store : Bool → ℕ → Entry → Noted → Noted
store true p e n = with_storage (entered p e n.storage) n
store false p e n = write p e n

-- p's oldest store that waits goes to memory
abbrev pub drain_first : ℕ → List Entry → Noted → Noted
drain_first p [] n = n
drain_first p (e ∷ es) n = write p e (with_storage (with_waiting p es n.storage) n)

abbrev pub drain : ℕ → Noted → Noted
drain p n = drain_first p (n.storage.waiting p) n

-- as many of them as this list is long
abbrev pub drain_list : List Entry → ℕ → Noted → Noted
drain_list [] p n = n
drain_list (e ∷ es) p n = drain_list es p (drain p n)

-- a linked load by p
abbrev pub link : ℕ → ℕ → ℕ → Noted → Noted
link p a bytes n =
    record {
      storage = linked_at p a bytes n.storage;
      past = record n.past { last = at_place n.past.last p (Some (record { address = a; bytes = bytes })); lost = at_place n.past.lost p false };
    }

abbrev pub stands : Option Reservation → Bool → Bool
stands None lost = lost
stands (Some r) lost = true

-- p is dropped
abbrev pub drop_link : ℕ → Noted → Noted
drop_link p n =
    record {
      storage = dropped p n.storage;
      past = record n.past { lost = at_place n.past.lost p (stands (n.storage.linked p) (n.past.lost p)) };
    }

-- a pair store of p at a fails: others or a Drop ended the reservation of its last linked load, which has the same address and size
abbrev pub is_lost : ℕ → ℕ → ℕ → Noted → Bool
is_lost p a bytes n = stands_for a bytes (n.past.last p) && n.past.lost p

-- a number that is read
abbrev pub read_note : ByteRange → (ℕ → ℕ) → Note → Note
read_note s f note =
    record {
      read = λ b. covers s.address s.bytes b || note.read b;
      number = λ b. if covers s.address s.bytes b then f b else note.number b;
      touched = λ b. not (covers s.address s.bytes b) && note.touched b;
    }

abbrev pub note_read : Option ByteRange → (ℕ → ℕ) → Note → Note
note_read None f note = note
note_read (Some s) f note = read_note s f note

-- do all bytes, or does some byte of n from a on
abbrev pub all_of : (ℕ → Bool) → ℕ → ℕ → Bool
all_of f a zero = true
all_of f a (suc n) = f a && all_of f (a + 1) n

abbrev pub any_of : (ℕ → Bool) → ℕ → ℕ → Bool
any_of f a zero = false
any_of f a (suc n) = f a || any_of f (a + 1) n

-- p finds that an object has not the number that its operation read before this try, and another's write reached a byte of it since
abbrev pub finds_other : ℕ → Noted → ByteRange → Bool
finds_other p n s =
    all_of (n.past.kept p).read s.address s.bytes && not (nat_eq (load p s.address s.bytes n.storage) (number_at (n.past.kept p).number s.address s.bytes)) && any_of (n.past.kept p).touched s.address s.bytes

abbrev pub found_other : ℕ → Noted → Option ByteRange → Bool
found_other p n None = false
found_other p n (Some s) = finds_other p n s

-- does the store that frees a lock word wait
abbrev pub frees : ℕ → List Entry → Bool
frees w [] = false
frees w (e ∷ es) = nat_eq e.address w && nat_eq e.bytes 4 && nat_eq e.value 0 || frees w es

abbrev pub is_other : ℕ → Option ℕ → Bool
is_other p None = false
is_other p (Some q) = not (nat_eq q p)

-- another processor holds a lock, or has the store that frees it in its buffer; there are at most 8
abbrev pub held_by_other : ℕ → ℕ → Noted → Bool
held_by_other p w n = is_other p (n.past.holder w) || any_of (λ q. not (nat_eq q p) && frees w (n.storage.waiting q)) 0 8
