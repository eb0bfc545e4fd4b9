-- An operation whose event finds a number in memory and leaves another there.
use Rattle.std.specs.Prelude.{◌≡◌, ℕ, ◌*◌, ◌%◌, ◌^◌, ◌<◌, true, false, [], Option, Some, None}
use Rattle.ax_store.specs.declared.entry.Entry.{Entry}
use Rattle.ax_store.specs.Bytes.{IsWidth, all_inside, number_at, put}
use Rattle.ax_store.specs.Storage.{entry_of, load}
use Rattle.ax_isa.specs.Past.{Noted}
use Rattle.ax_isa.specs.Tells.{An_act, Library, holder_after}
use Rattle.ax_expand.specs.Operation.{Deed, Operation}
use Rattle.ax_expand.specs.Shared.{IsBelow}
use Rattle.ax_expand.specs.World.{World}

-- a write by p has reached memory, and nothing else that is shared has changed
pub record Wrote (lib : Library) (p : ℕ) (e : Entry) (old new : Noted) : Type 0 where
  pub inside : new.storage.inside ≡ old.storage.inside
  pub mem : new.storage.mem ≡ put old.storage.inside e.address e.bytes e.value old.storage.mem
  pub waiting : new.storage.waiting ≡ old.storage.waiting
  pub holder : (word : ℕ) → new.past.holder word ≡ holder_after lib p false old.storage.mem new.storage.mem old.past.holder word

-- which number it is, and what becomes of it
pub record Replacement (W : Type 0) : Type 0 where
  pub bytes : ℕ
  -- its address, by the operation's registers
  pub address : (ℕ → ℕ) → ℕ
  -- the number that is left, and the registers afterwards, by the registers and the number that is found
  pub leaves : (ℕ → ℕ) → ℕ → ℕ
  pub gives : (ℕ → ℕ) → ℕ → ℕ → ℕ
  -- the number that is found in what all share, and what all share afterwards
  pub finds : (ℕ → ℕ) → W → ℕ
  pub after : (ℕ → ℕ) → W → W

-- where it happens it is an act without output, and no caused failure
abbrev pub deed_in : {W : Type 0} → Replacement W → (ℕ → ℕ) → W → Deed W
deed_in r regs w = record { regs = r.gives regs (r.finds regs w); seen = None; world = r.after regs w; output = None; excused = false }

pub record Replaces {W : Type 0} (world : World W) (o : Operation W) (r : Replacement W) : Type 0 where
  pub width : IsWidth r.bytes
  -- it happens once no own store waits
  pub happens : (p : ℕ) (n : Noted) (regs : ℕ → ℕ) (seen : Option ℕ) (w : W) → world.sees n w → n.storage.waiting p ≡ [] → o.fits regs w → o.happens An_act p regs seen w ≡ Some (deed_in r regs w)
  -- the bytes are aligned, below the frames and inside the regions
  pub aligned : (regs : ℕ → ℕ) (w : W) → o.fits regs w → r.address regs % r.bytes ≡ 0
  pub below : (regs : ℕ → ℕ) (w : W) → o.fits regs w → IsBelow (r.address regs) r.bytes
  pub inside : (n : Noted) (regs : ℕ → ℕ) (w : W) → world.sees n w → o.fits regs w → all_inside n.storage.inside (r.address regs) r.bytes ≡ true
  -- what stands there, which fits in its bytes
  pub found : (n : Noted) (regs : ℕ → ℕ) (w : W) → world.sees n w → o.fits regs w → number_at n.storage.mem (r.address regs) r.bytes ≡ r.finds regs w
  pub small : (regs : ℕ → ℕ) (w : W) → o.fits regs w → r.finds regs w < 2 ^ (8 * r.bytes)
  -- and so does what a processor sees there behind its own stores that wait
  pub seen_small : (p : ℕ) (n : Noted) (regs : ℕ → ℕ) (w : W) → world.sees n w → o.fits regs w → load p (r.address regs) r.bytes n.storage < 2 ^ (8 * r.bytes)
  -- the write is what becomes of all that is shared
  pub shows : (lib : Library) (p : ℕ) (n new : Noted) (regs : ℕ → ℕ) (w : W) → world.sees n w → o.fits regs w → Wrote lib p (entry_of (r.address regs) r.bytes (r.leaves regs (r.finds regs w))) n new → world.sees new (r.after regs w)
