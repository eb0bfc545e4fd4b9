-- *Agree*: a machine state and a source state.
use Rattle.std.specs.Prelude.{◌≡◌, ℕ, ◌+◌, ◌-◌, ◌*◌, ◌/◌, Bool, true, false, ◌&&◌, ◌||◌, if◌then◌else◌, List, [], ◌∷◌}
use Rattle.ax_store.specs.declared.entry.Entry.{Entry}
use Rattle.ax_map.specs.Map.{covers, lock_index_of, lock_word}
use Rattle.ax_store.specs.Bytes.{number_at}
use Rattle.ax_isa.specs.Run.{Machine, machine_status}
use Rattle.ax_layout.specs.declared.address_range.AddressRange.{AddressRange}
use Rattle.ax_layout.specs.Layout.{HasElement, address_in, bytes_in}
use Rattle.ax_source_run.specs.SourceAccess.{is_native_element}
use Rattle.ax_source_run.specs.SourceState.{PendingStore, SourceProgram, SourceState}

-- what the bytes of an element spell in memory
abbrev pub number_of : SourceProgram → (ℕ → ℕ) → ℕ → ℕ → ℕ
number_of program mem g i = number_at mem (address_in program.layout g i) (bytes_in program.layout g)

-- the word of an element's lock
abbrev pub lock_of : SourceProgram → (ℕ → ℕ) → ℕ → ℕ → ℕ
lock_of program mem g i = number_at mem (lock_word (lock_index_of (address_in program.layout g i))) 4

-- is this the address of a byte of a native object, among the globals from number g on
abbrev pub is_native_byte : SourceProgram → ℕ → List AddressRange → ℕ → Bool
is_native_byte program g [] a = false
is_native_byte program g (span ∷ spans) a = covers span.start (span.count * span.bytes) a && is_native_element program g ((a - span.start) / span.bytes) || is_native_byte program (g + 1) spans a

-- a store is one to a native object where its first byte lies in one
abbrev pub is_native_entry : SourceProgram → Entry → Bool
is_native_entry program entry = is_native_byte program 0 program.layout.spans entry.address

-- the stores that wait in a buffer without those to frames, lock words and locked objects
abbrev pub native_entries : SourceProgram → List Entry → List Entry
native_entries program [] = []
native_entries program (entry ∷ entries) = if is_native_entry program entry then entry ∷ native_entries program entries else native_entries program entries

-- a waiting store is this one of the source machine
pub record IsStoreTo (program : SourceProgram) (entry : Entry) (store : PendingStore) : Type 0 where
  pub there : HasElement program.layout store.global store.element
  pub native : is_native_element program store.global store.element ≡ true
  pub address : entry.address ≡ address_in program.layout store.global store.element
  pub bytes : entry.bytes ≡ bytes_in program.layout store.global
  pub number : entry.value ≡ store.number

-- each of these is that one of the source machine
abbrev pub AreStoresTo : SourceProgram → List Entry → List PendingStore → Type 0
AreStoresTo program [] [] = Unit {0}
AreStoresTo program [] (store ∷ stores) = ⊥
AreStoresTo program (entry ∷ entries) [] = ⊥
AreStoresTo program (entry ∷ entries) (store ∷ stores) = IsStoreTo program entry store × AreStoresTo program entries stores

pub record Agree (program : SourceProgram) (m : Machine) (s : SourceState) : Type 0 where
  pub outputs : m.outputs ≡ s.outputs
  -- no machine status of a source status is Stuck
  pub statuses : (p : ℕ) → (m.processors p).status ≡ machine_status (s.processors p).status
  -- the bytes of a native object spell its number
  pub native : (g i : ℕ) → HasElement program.layout g i → is_native_element program g i ≡ true → number_of program m.noted.storage.mem g i ≡ s.numbers g i
  -- so do those of a locked object whose lock word is 0
  pub locked : (g i : ℕ) → HasElement program.layout g i → is_native_element program g i ≡ false → lock_of program m.noted.storage.mem g i ≡ 0 → number_of program m.noted.storage.mem g i ≡ s.numbers g i
  pub pending : (p : ℕ) → AreStoresTo program (native_entries program (m.noted.storage.waiting p)) (s.processors p).pending
