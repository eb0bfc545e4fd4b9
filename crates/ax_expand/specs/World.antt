-- What all processors share, whatever it is made of: what longer code has to know of it.
use Rattle.std.specs.Prelude.{◌≡◌, ℕ, Bool, true}
use Rattle.ax_isa.specs.Past.{Noted}
use Rattle.ax_isa.specs.Tells.{Library}
use Rattle.ax_follow.specs.Contract.{Meaning}
use Rattle.ax_expand.specs.Shared.{IsBelow, masked, shared_only}

-- two states that differ in the bytes of frames, in the stores there that wait, in reservations and in notes of reads alone
pub record Alike (n m : Noted) : Type 0 where
  pub inside : m.storage.inside ≡ n.storage.inside
  pub mem : masked m.storage.mem ≡ masked n.storage.mem
  pub pending : (q : ℕ) → shared_only (m.storage.waiting q) ≡ shared_only (n.storage.waiting q)
  pub holder : (word : ℕ) → m.past.holder word ≡ n.past.holder word

pub record World (W : Type 0) : Type 1 where
  pub sees : Noted → W → Type 0
  pub drained : ℕ → W → W
  pub drain_gives : ℕ → W → Bool
  pub inside : W → ℕ → Bool

-- its laws: it looks at nothing that is a processor's own
pub record Lawful {W : Type 0} (world : World W) : Type 0 where
  pub alike : (n m : Noted) (w : W) → Alike n m → world.sees n w → world.sees m w
  pub inside : (n : Noted) (w : W) → world.sees n w → n.storage.inside ≡ world.inside w

-- what stands above is over this world
pub record Over {P W : Type 0} (l : Meaning P W) (world : World W) : Type 0 where
  pub down : (n : Noted) (w : W) → l.sees n w → world.sees n w
  pub up : (n : Noted) (w : W) → world.sees n w → l.sees n w

-- lock words lie below the frames
abbrev pub Words : Library → Type 0
Words lib = (a : ℕ) → lib.is_word a ≡ true → IsBelow a 4
