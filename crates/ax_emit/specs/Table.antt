-- What an instruction set brings for slots: how a register of the machine takes the number of a slot, and a slot that of a register.
use Rattle.std.specs.Prelude.{◌≡◌, ◌≢◌, ℕ, ◌+◌, ◌*◌, ◌<◌, ◌≤◌, ◌^◌, Bool, true, false, List, [], ◌∷◌, ◌++◌, length}
use Rattle.ax_store.specs.Bytes.{number_at, cut, written}
use Rattle.ax_isa.specs.Steps.{Kind}
use Rattle.ax_expand.specs.Private.{Private, may_use, Goes}
use Rattle.ax_expand.specs.World.{Lawful}
use Rattle.ax_fine.specs.Fine.{Program, Sound}

-- slot r, of so many, below the stack pointer
pub record SlotAt (room : ℕ → Bool) (count stack r address : ℕ) (y : Private) : Type 0 where
  pub few : r < count
  pub below : address + 8 * (r + 1) ≡ y.cpu.regs stack
  pub wide : y.cpu.regs stack < 2 ^ 64
  pub usable : may_use room address 8 ≡ true

-- after the number of a slot has gone to register t; `via` is a scratch register
pub record Got {I : Type 0} (k : Kind I) (room : ℕ → Bool) (is : List I) (via t address : ℕ) (y : Private) : Type 0 where
  pub private : Private
  pub goes : Goes k room is y private
  pub frame : private.frame ≡ y.frame
  pub number : private.cpu.regs t ≡ number_at y.frame address 8
  pub others : (r : ℕ) → r ≢ t → r ≢ via → private.cpu.regs r ≡ y.cpu.regs r

-- after that of register t has gone to a slot
pub record Gave {I : Type 0} (k : Kind I) (room : ℕ → Bool) (is : List I) (via t address : ℕ) (y : Private) : Type 0 where
  pub private : Private
  pub goes : Goes k room is y private
  pub frame : private.frame ≡ written y.frame address 8 (cut 8 (y.cpu.regs t))
  pub others : (r : ℕ) → r ≢ via → private.cpu.regs r ≡ y.cpu.regs r

-- the code for slots, and its registers
pub record Table (I : Type 0) : Type 0 where
  -- the stack pointer, and the register for the address of a slot that lies far from it
  pub stack : ℕ
  pub via : ℕ
  -- the registers that hold numbers
  pub usable : ℕ → Bool
  -- register t gets the number of slot r: `get t r`; slot r gets that of register t: `put_first r t`, and then `put_last r t`
  pub get : ℕ → ℕ → List I
  pub put_first : ℕ → ℕ → List I
  pub put_last : ℕ → ℕ → I

abbrev pub put : {I : Type 0} → Table I → ℕ → ℕ → List I
put table r t = table.put_first r t ++ table.put_last r t ∷ []

-- it does so, where there are so many slots
pub record IsTable {I : Type 0} (k : Kind I) (table : Table I) (count : ℕ) : Type 0 where
  pub no_via : table.usable table.via ≡ false
  pub gets : (room : ℕ → Bool) (t r address : ℕ) (y : Private) → table.usable t ≡ true → SlotAt room count table.stack r address y → Got k room (table.get t r) table.via t address y
  pub puts : (room : ℕ → Bool) (t r address : ℕ) (y : Private) → table.usable t ≡ true → SlotAt room count table.stack r address y → Gave k room (put table r t) table.via t address y
  pub brief : (r t : ℕ) → length (table.put_first r t) ≤ 2

-- a program whose frames and registers are those of a table
pub record Based {I R W : Type 0} (k : Kind I) (m : Program R W) (table : Table I) : Type 0 where
  pub does : IsTable k table m.count
  pub sound : Sound m
  pub laws : Lawful m.world
  pub stack : m.fixed table.stack ≡ true
  pub home : (p : ℕ) → m.home p table.stack ≡ m.top p
  pub free : (t : ℕ) → table.usable t ≡ true → m.fixed t ≡ false
  pub via : m.fixed table.via ≡ false
