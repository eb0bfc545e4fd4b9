-- Registers hold words and memory bytes, where the effects of the code carry no greater numbers.
use Rattle.std.specs.Prelude.{◌≡◌, ℕ, ◌<◌, ◌^◌, Some, List}
use Rattle.ax_words.specs.declared.event.Event.{Event}
use Rattle.ax_isa.specs.declared.effects.Effect.{Effect}
use Rattle.ax_isa.specs.declared.effects.Effect.TheVariants.{Set, CallTo}
use Rattle.ax_isa.specs.declared.effects.Saved.{Saved}
use Rattle.ax_isa.specs.declared.effects.Saved.TheVariants.{Register, Stack}
use Rattle.ax_isa.specs.Effects.{IsEffect}
use Rattle.ax_isa.specs.Past.{Noted}
use Rattle.ax_isa.specs.Processor.{Processor}
use Rattle.ax_isa.specs.declared.cpu.Status.TheVariants.{Running}
use Rattle.ax_isa.specs.Run.{Machine, Setting, at_code, run}

abbrev pub AreWords : (ℕ → ℕ) → Type 0
AreWords regs = (r : ℕ) → regs r < 2 ^ 64

abbrev pub AreBytes : (ℕ → ℕ) → Type 0
AreBytes mem = (a : ℕ) → mem a < 2 ^ 8

pub record InBounds (c : Processor) (n : Noted) : Type 0 where
  pub regs : AreWords c.regs
  pub bytes : AreBytes n.storage.mem

-- the numbers that an effect brings into registers
abbrev pub SavesWord : Saved → Type 0
SavesWord (Register to) = Unit {0}
SavesWord (Stack pointer a) = a < 2 ^ 64

abbrev pub BringsWord : Effect → Type 0
BringsWord (Set to number) = number < 2 ^ 64
BringsWord (CallTo place saved) = SavesWord saved
BringsWord _ = Unit {0}

-- of a processor whose registers hold words, each effect of the code has sizes in their ranges and brings words
pub record Bounded {I : Type 0} (x : Setting I) : Type 0 where
  pub effects : (place : ℕ) (i : I) (c : Processor) → at_code x.code place ≡ Some i → AreWords c.regs → IsEffect (x.kind.effect_of i c) × BringsWord (x.kind.effect_of i c)

-- all running processors, and memory
pub record AllInBounds (m : Machine) : Type 0 where
  pub regs : (p : ℕ) → (m.processors p).status ≡ Running → AreWords (m.processors p).regs
  pub bytes : AreBytes m.noted.storage.mem

-- effects in bounds keep all in bounds
abbrev pub RunsStayInBounds : {I : Type 0} → Setting I → Type 0
RunsStayInBounds x = Bounded x → (m : Machine) → AllInBounds m → (es : List Event) → AllInBounds (run x es m)
