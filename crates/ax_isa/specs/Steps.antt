-- One step of one processor: an effect applied to the processor and the storage.
use Rattle.std.specs.Prelude.{ℕ, zero, suc, ◌+◌, ◌-◌, ◌*◌, ◌/◌, ◌%◌, ◌^◌, Bool, true, false, ◌&&◌, if◌then◌else◌, nat_eq, nat_lt, nat_le, List, [], Option, Some, None}
use Rattle.ax_words.specs.declared.mark.Mark.{Mark}
use Rattle.ax_ops.specs.Operation.{result_of}
use Rattle.ax_store.specs.declared.entry.Entry.{Entry}
use Rattle.ax_store.specs.Bytes.{number_at, all_inside}
use Rattle.ax_store.specs.Storage.{Storage, at_place, load, entry_of, may_pair, with_linked}
use Rattle.ax_isa.specs.declared.cpu.Status.{Status}
use Rattle.ax_isa.specs.declared.cpu.Status.TheVariants.{Ended, Trapped, Stuck}
use Rattle.ax_isa.specs.declared.effects.Back.{Back}
use Rattle.ax_isa.specs.declared.effects.Back.TheVariants.{Place, Stack as Pops}
use Rattle.ax_isa.specs.declared.effects.Change.{Change}
use Rattle.ax_isa.specs.declared.effects.Change.TheVariants.{Update, Exchange}
use Rattle.ax_isa.specs.declared.effects.Effect.{Effect}
use Rattle.ax_isa.specs.declared.effects.Effect.TheVariants.{Set, Compare, Load, Store, Locked, Fence, Link, LinkHalf, PairStore, Jump, CallTo, Return, Output, Trap, Nop}
use Rattle.ax_isa.specs.declared.effects.Outcome.{Outcome}
use Rattle.ax_isa.specs.declared.effects.Rest.{Rest}
use Rattle.ax_isa.specs.declared.effects.Rest.TheVariants.{Zeros, Signs, Stays}
use Rattle.ax_isa.specs.declared.effects.Saved.{Saved}
use Rattle.ax_isa.specs.declared.effects.Saved.TheVariants.{Register, Stack}
use Rattle.ax_isa.specs.Past.{Noted, with_storage, write, store, drain_list, link}
use Rattle.ax_isa.specs.Processor.{Processor}

-- an instruction set
pub record Kind (I : Type 0) : Type 0 where
  -- what an instruction does
  pub effect_of : I → Processor → Effect
  -- do stores wait in buffers, and are there linked loads and pair stores
  pub buffered : Bool
  pub pairs : Bool
  -- the number of the stack pointer, and the registers that are bases of accesses to the frame
  pub stack : ℕ
  pub frame : ℕ → Bool
  -- the registers in which a call of a routine has its arguments
  pub argument : ℕ → ℕ
  -- the mark of a memory, fence or call instruction, but of one whose base is one of some registers
  pub marks_of : (ℕ → Bool) → I → List Mark

-- what an effect leaves, and what it shows
pub record Effected : Type 0 where
  pub processor : Processor
  pub noted : Noted
  pub outcome : Outcome

abbrev pub no_outcome : Outcome
no_outcome = record { stored = None; loaded = None; output = None }

abbrev pub loaded : ℕ → Outcome
loaded n = record { stored = None; loaded = Some n; output = None }

-- a number of so many bytes in a register that had `before`
abbrev pub extended : ℕ → Rest → ℕ → ℕ → ℕ
extended bytes Zeros before n = n
extended bytes Signs before n = if nat_le (2 ^ (8 * bytes - 1)) n then n + (2 ^ 64 - 2 ^ (8 * bytes)) else n
extended bytes Stays before n = before - before % 2 ^ (8 * bytes) + n

-- a number in one register, or of 16 bytes in two
abbrev pub taken : ℕ → ℕ → ℕ → Rest → ℕ → (ℕ → ℕ) → ℕ → ℕ
taken bytes to high rest n regs =
    if nat_eq bytes 16 then at_place (at_place regs to (n % 2 ^ 64)) high (n / 2 ^ 64) else at_place regs to (extended bytes rest (regs to) n)

abbrev pub is_place : ℕ → Bool
is_place n = nat_lt n (2 ^ 32)

-- an access is aligned to its size, and inside the regions
abbrev pub may_access : ℕ → ℕ → Storage → Bool
may_access a bytes st = nat_eq (a % bytes) 0 && all_inside st.inside a bytes

abbrev pub can_call : Saved → Storage → Bool
can_call (Register to) st = true
can_call (Stack pointer a) st = may_access a 8 st

-- the place to which a return goes
abbrev pub back_place : ℕ → Back → Storage → ℕ
back_place p (Place place) st = place
back_place p (Pops pointer a) st = load p a 8 st

abbrev pub can_return : Back → Storage → Bool
can_return (Place place) st = true
can_return (Pops pointer a) st = may_access a 8 st

-- can the step have this effect? Else it ends in Stuck and changes nothing else
abbrev pub possible : ℕ → Effect → Processor → Storage → Bool
possible p (Set to number) c st = is_place (c.place + 1)
possible p (Compare left right) c st = is_place (c.place + 1)
possible p (Load to a bytes rest ends_half) c st = is_place (c.place + 1) && may_access a bytes st
possible p (Store a bytes number) c st = is_place (c.place + 1) && may_access a bytes st
possible p (Locked to high a bytes rest change) c st = is_place (c.place + 1) && may_access a bytes st
possible p Fence c st = is_place (c.place + 1)
possible p (Link to a bytes rest) c st = is_place (c.place + 1) && may_access a bytes st
possible p (LinkHalf to a) c st = may_access a 16 st
possible p (PairStore to a bytes number) c st = is_place (c.place + 1) && may_access a bytes st
possible p (Jump place) c st = is_place place
possible p (CallTo place saved) c st = is_place place && is_place (c.place + 1) && can_call saved st
possible p (Return back) c st = is_place (back_place p back st) && can_return back st
possible p (Output number) c st = is_place (c.place + 1)
possible p Trap c st = true
possible p Nop c st = is_place (c.place + 1)

abbrev pub with_regs : (ℕ → ℕ) → ℕ → Processor → Processor
with_regs regs place c = record c { regs = regs; place = place }

abbrev pub go_to : ℕ → Processor → Processor
go_to place c = with_regs c.regs place c

abbrev pub go_on : Processor → Processor
go_on c = with_regs c.regs (c.place + 1) c

abbrev pub go_with : ℕ → ℕ → Processor → Processor
go_with to number c = with_regs (at_place c.regs to number) (c.place + 1) c

abbrev pub with_half : Bool → Processor → Processor
with_half half c = record c { half = half }

abbrev pub with_status : Status → Processor → Processor
with_status status c = record c { status = status }

abbrev pub with_compared : ℕ × ℕ → Processor → Processor
with_compared pair c = record c { compared = pair }

-- place 0 is no place of an instruction: a return there ends the processor
abbrev pub go_back : ℕ → Processor → Processor
go_back zero c = with_status Ended (go_to 0 c)
go_back (suc place) c = go_to (suc place) c

-- where a call goes, and a return
abbrev pub called_from : ℕ → Saved → Processor → Processor
called_from place (Register to) c = with_regs (at_place c.regs to (c.place + 1)) place c
called_from place (Stack pointer a) c = with_regs (at_place c.regs pointer a) place c

abbrev pub saved_place : Bool → ℕ → Saved → ℕ → Noted → Noted
saved_place buffered p (Register to) place n = n
saved_place buffered p (Stack pointer a) place n = store buffered p (entry_of a 8 place) n

abbrev pub popped : Back → Processor → Processor
popped (Place place) c = c
popped (Pops pointer a) c = with_regs (at_place c.regs pointer ((a + 8) % 2 ^ 64)) c.place c

-- what a locked change leaves, if it writes
abbrev pub changed : ℕ → Change → ℕ → Option ℕ
changed bytes (Update op number) old = Some (result_of (8 * bytes) op old (number % 2 ^ (8 * bytes)))
changed bytes (Exchange expected number compares) old = if nat_eq old (expected % 2 ^ (8 * bytes)) then Some number else None

abbrev pub is_changed : Option ℕ → Bool
is_changed None = false
is_changed (Some n) = true

abbrev pub replace : ℕ → ℕ → ℕ → Option ℕ → Noted → Noted
replace p a bytes None n = n
replace p a bytes (Some v) n = write p (entry_of a bytes v) n

abbrev pub unequal : Bool → ℕ
unequal true = 0
unequal false = 1

-- the pair last compared: of 16 bytes only whether they are equal
abbrev pub pair_of : ℕ → ℕ → ℕ → ℕ × ℕ
pair_of bytes expected old = if nat_eq bytes 16 then (0, unequal (nat_eq old expected)) else (expected, old)

abbrev pub exchanged : ℕ → ℕ → ℕ → Rest → Change → ℕ → Processor → Processor
exchanged bytes to high rest (Update op number) old c = with_regs (taken bytes to high rest old c.regs) (c.place + 1) c
exchanged bytes to high rest (Exchange expected number false) old c = with_regs (taken bytes to high rest old c.regs) (c.place + 1) c
exchanged bytes to high rest (Exchange expected number true) old c =
    let cut = expected % 2 ^ (8 * bytes) in
    with_compared (pair_of bytes cut old) (with_regs (if nat_eq old cut then c.regs else taken bytes to high rest old c.regs) (c.place + 1) c)

-- a pair store, which writes or doesn't; the reservation ends in either case
abbrev pub paired : Bool → ℕ → ℕ → ℕ → ℕ → ℕ → Processor → Noted → Effected
paired true p to a bytes number c n =
    record { processor = go_with to 0 c; noted = (let m = write p (entry_of a bytes number) n in with_storage (with_linked p None m.storage) m); outcome = record { stored = Some true; loaded = None; output = None } }
paired false p to a bytes number c n =
    record { processor = go_with to 1 c; noted = with_storage (with_linked p None n.storage) n; outcome = record { stored = Some false; loaded = None; output = None } }

-- an effect, where a locked one or a fence finds the own buffer empty
abbrev pub effected : Bool → ℕ → Effect → Processor → Noted → Effected
effected buffered p (Set to number) c n = record { processor = go_with to number c; noted = n; outcome = no_outcome }
effected buffered p (Compare left right) c n = record { processor = with_compared (left, right) (go_on c); noted = n; outcome = no_outcome }
effected buffered p (Load to a bytes rest ends_half) c n =
    let number = load p a bytes n.storage in
    record { processor = with_half (if ends_half then false else c.half) (go_with to (extended bytes rest (c.regs to) number) c); noted = n; outcome = loaded number }
effected buffered p (Store a bytes number) c n = record { processor = go_on c; noted = store buffered p (entry_of a bytes number) n; outcome = no_outcome }
effected buffered p (Locked to high a bytes rest change) c n =
    let old = number_at n.storage.mem a bytes in
    let new = changed bytes change old in
    record { processor = exchanged bytes to high rest change old c; noted = replace p a bytes new n; outcome = record { stored = Some (is_changed new); loaded = Some old; output = None } }
effected buffered p Fence c n = record { processor = go_on c; noted = n; outcome = no_outcome }
effected buffered p (Link to a bytes rest) c n =
    let number = number_at n.storage.mem a bytes in
    record { processor = go_with to (extended bytes rest (c.regs to) number) c; noted = link p a bytes n; outcome = loaded number }
effected buffered p (LinkHalf to a) c n =
    let number = number_at n.storage.mem a 8 in
    record { processor = with_half true (with_regs (at_place c.regs to number) c.place c); noted = link p a 16 n; outcome = loaded number }
effected buffered p (PairStore to a bytes number) c n = paired (may_pair p a bytes n.storage) p to a bytes number c n
effected buffered p (Jump place) c n = record { processor = go_to place c; noted = n; outcome = no_outcome }
effected buffered p (CallTo place saved) c n = record { processor = called_from place saved c; noted = saved_place buffered p saved (c.place + 1) n; outcome = no_outcome }
effected buffered p (Return back) c n = record { processor = go_back (back_place p back n.storage) (popped back c); noted = n; outcome = no_outcome }
effected buffered p (Output number) c n = record { processor = go_on c; noted = n; outcome = record { stored = None; loaded = None; output = Some number } }
effected buffered p Trap c n = record { processor = with_status Trapped c; noted = n; outcome = no_outcome }
effected buffered p Nop c n = record { processor = go_on c; noted = n; outcome = no_outcome }

abbrev pub stuck : Processor → Noted → Effected
stuck c n = record { processor = with_status Stuck c; noted = n; outcome = no_outcome }

abbrev pub applied : Bool → ℕ → Effect → Processor → Noted → Effected
applied buffered p e c n = if possible p e c n.storage then effected buffered p e c n else stuck c n

-- a locked effect and a fence drain first
abbrev pub is_flushing : Effect → Bool
is_flushing (Locked to high a bytes rest change) = true
is_flushing Fence = true
is_flushing _ = false

abbrev pub waits : Bool → ℕ → Noted → List Entry
waits true p n = n.storage.waiting p
waits false p n = []

abbrev pub flushes : ℕ → Effect → Processor → Storage → Bool
flushes p e c st = is_flushing e && possible p e c st

abbrev pub readied : ℕ → Effect → Processor → Noted → Noted
readied p e c n = drain_list (waits (flushes p e c n.storage) p n) p n

-- ONE STEP of an effect, whatever waits in the own buffer
abbrev pub stepped : Bool → ℕ → Effect → Processor → Noted → Effected
stepped buffered p e c n = applied buffered p e c (readied p e c n)
