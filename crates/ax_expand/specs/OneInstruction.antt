-- An operation of one instruction: all that is to be shown is what its step does, whatever stands round it.
use Rattle.std.specs.Prelude.{◌≡◌, ℕ, ◌+◌, ◌<◌, ◌^◌, Bool, true, false, [], Option, Some, None}
use Rattle.ax_store.specs.Storage.{seen}
use Rattle.ax_tags.specs.declared.tags.Role.TheVariants.{None as Outside}
use Rattle.ax_tags.specs.declared.tags.Tag.{Tag}
use Rattle.ax_isa.specs.declared.cpu.Status.TheVariants.{Running}
use Rattle.ax_isa.specs.declared.effects.Effect.{Effect}
use Rattle.ax_isa.specs.Past.{Noted}
use Rattle.ax_isa.specs.Processor.{Processor}
use Rattle.ax_isa.specs.Steps.{Kind, effected, flushes, possible}
use Rattle.ax_isa.specs.Tells.{An_act, Library, is_excused, role_after, told}
use Rattle.ax_follow.specs.Contract.{Fair, IsOwn, MayWrite}
use Rattle.ax_expand.specs.Operation.{Operation, Deed, Inner, Keeps}
use Rattle.ax_expand.specs.World.{World, Words}

-- what is known before the step: t has the registers that the operation keeps
pub record Ready {W : Type 0} (world : World W) (o : Operation W) (buffered : Bool) (keeps : ℕ → Bool) (p : ℕ) (e : Effect) (c : Processor) (n : Noted) (t : Inner) (w : W) : Type 0 where
  pub regs : Keeps keeps c.regs t.regs
  pub role : c.role ≡ Outside
  pub small : c.place + 1 < 2 ^ 32
  pub running : c.status ≡ Running
  pub sees : world.sees n w
  pub fits : o.fits t.regs w
  pub fair : Fair p (n.storage.waiting p)
  pub flat : buffered ≡ false → n.storage.waiting p ≡ []
  pub empty : flushes p e c n.storage ≡ true → n.storage.waiting p ≡ []

-- the step leaves what the deed says
pub record Does {W : Type 0} (world : World W) (buffered : Bool) (keeps : ℕ → Bool) (p : ℕ) (e : Effect) (c : Processor) (n : Noted) (d : Deed W) : Type 0 where
  pub regs : Keeps keeps (effected buffered p e c n).processor.regs d.regs
  pub next : (effected buffered p e c n).processor.place ≡ c.place + 1
  pub status : (effected buffered p e c n).processor.status ≡ c.status
  -- it is no call and no return
  pub role : (tag : Tag) → role_after tag e (effected buffered p e c n).processor.role ≡ c.role
  pub frame : (b : ℕ) → IsOwn p b → seen p (effected buffered p e c n).noted.storage b ≡ seen p n.storage b
  pub fair : Fair p ((effected buffered p e c n).noted.storage.waiting p)
  pub others : (a : ℕ) → ¬ MayWrite p a → (effected buffered p e c n).noted.storage.mem a ≡ n.storage.mem a
  pub shows : (lib : Library) (tag : Tag) → Words lib → world.sees (told lib tag p e c n (effected buffered p e c n)).noted d.world
  pub output : (effected buffered p e c n).outcome.output ≡ d.output
  pub excuse : d.excused ≡ true → (lib : Library) (tag : Tag) → is_excused (told lib tag p e c n (effected buffered p e c n)) ≡ true

abbrev pub Happens : {W : Type 0} → Option (Deed W) → (Deed W → Type 0) → Type 0
Happens None Q = ⊥
Happens (Some d) Q = Q d

pub record OneInstruction {I W : Type 0} (k : Kind I) (world : World W) (keeps : ℕ → Bool) (i : I) (o : Operation W) : Type 0 where
  pub acts :
      (p : ℕ) (c : Processor) (n : Noted) (t : Inner) (w : W) → Ready world o k.buffered keeps p (k.effect_of i c) c n t w
      → (possible p (k.effect_of i c) c n.storage ≡ true) × Happens (o.happens An_act p t.regs t.seen w) (λ d. Does world k.buffered keeps p (k.effect_of i c) c n d)
