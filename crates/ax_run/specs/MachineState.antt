-- What contracts see of a machine.
use Rattle.std.specs.Prelude.{◌≡◌, ◌≤◌, ◌<◌, ◌+◌, ℕ, List, length, slice_index_or, true}
use Rattle.ax_words.specs.declared.source.SourceEvent.{SourceEvent}
use Rattle.ax_store.specs.StoreState.{StoreState}
use Rattle.ax_store.specs.Store.{processors, spare_of, storage_of}
use Rattle.ax_isa.specs.declared.cpu.Cpu.{Cpu}
use Rattle.ax_words.specs.declared.event.Event.{Event}
use Rattle.ax_source_run.specs.SourceState.{SourceProgram}
use Rattle.ax_agree.specs.Agree.{native_entries}

pub record MachineState : Type 0 where
  pub program : SourceProgram
  pub processors : List Cpu
  -- how many Steps each processor made while it was running
  pub retired : List ℕ
  pub store : StoreState
  -- how many stores of each processor to native objects wait
  pub natives : List ℕ
  pub outputs : List (ℕ × ℕ)
  -- the source events and the events so far
  pub sources : List SourceEvent
  pub events : List Event
  -- for how many more events there is room
  pub room : ℕ

abbrev pub retired_in : MachineState → ℕ → ℕ
retired_in r q = slice_index_or r.retired q 0

abbrev pub natives_in : MachineState → ℕ → ℕ
natives_in r q = slice_index_or r.natives q 0

pub record IsReady (r : MachineState) : Type 0 where
  pub count : processors r.store ≡ length r.processors
  pub some : 1 ≤ length r.processors
  pub few : length r.processors ≤ 8
  pub cells : length r.retired ≡ 8
  pub retired : (q : ℕ) → retired_in r q + r.room ≤ 1000000
  -- with buffers each event finds room for a store of each processor
  pub spares : r.store.buffered ≡ true → (q : ℕ) → q < length r.processors → r.room ≤ spare_of r.store q
  pub counters : length r.natives ≡ 8
  pub natives : (q : ℕ) → q < length r.processors → natives_in r q ≡ length (native_entries r.program ((storage_of r.store).waiting q))
