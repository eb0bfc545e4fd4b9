-- A store as *Storage*, and what stands beside it.
pub use Rattle.ax_store.specs.StoreState.{StoreState}
use Rattle.std.specs.Prelude.{◌≡◌, ◌<◌, ℕ, ◌-◌, Bool, true, false, Option, unwrap_or, length, if◌then◌else◌, nat_lt}
use Rattle.ax_store.specs.Buffers.{buffer_of}
use Rattle.ax_store.specs.Links.{link_of}
use Rattle.ax_store.specs.Places.{byte_at, is_inside}
use Rattle.ax_store.specs.Storage.{Storage, at_place}

unfoldable pub storage_of : StoreState → Storage
storage_of s = record { inside = is_inside s.memory; mem = byte_at s.memory; waiting = λ p. (buffer_of s.buffers p).entries; linked = link_of s.links }

-- for how many more stores of each processor there is room
unfoldable pub spare_of : StoreState → ℕ → ℕ
spare_of s = λ p. (buffer_of s.buffers p).room

-- how many processors there are
unfoldable pub processors : StoreState → ℕ
processors s = length s.buffers

-- byte b, where a processor's own buffer has this for it
abbrev pub byte_over : Storage → Option ℕ → ℕ → ℕ
byte_over st own b = if st.inside b then unwrap_or own (st.mem b) else st.mem b

-- what every call keeps: the kind of machine, the number of processors and the regions
pub record Kept (old new : StoreState) : Type 0 where
  pub buffered : new.buffered ≡ old.buffered
  pub count : processors new ≡ processors old
  pub inside : (storage_of new).inside ≡ (storage_of old).inside

-- a store by p has room
abbrev pub HasRoom : StoreState → ℕ → Type 0
HasRoom s p = s.buffered ≡ true → 0 < spare_of s p

-- the rooms after a store by p
abbrev pub spared : Bool → ℕ → (ℕ → ℕ) → ℕ → ℕ
spared true p spares = at_place spares p (spares p - 1)
spared false p spares = spares

-- the rooms after room for n stores of p is made
abbrev pub reserved : ℕ → ℕ → (ℕ → ℕ) → ℕ → ℕ
reserved p n spares = at_place spares p (if nat_lt (spares p) n then n else spares p)
