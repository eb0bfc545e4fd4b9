-- What holds of all expansions, and of all code round them.
use Rattle.std.specs.Prelude.{◌≡◌, ℕ, ◌+◌, ◌<◌, ◌≤◌, ◌^◌, Bool, false, List, [], ◌∷◌, ◌++◌, None, Some, length}
use Rattle.ax_words.specs.declared.source.SourceStatus.TheVariants.{Running as Runs}
use Rattle.ax_tags.specs.declared.tags.Role.TheVariants.{None as Outside}
use Rattle.ax_tags.specs.declared.tags.Tag.TheVariants.{Act, Silent}
use Rattle.ax_isa.specs.declared.effects.Effect.TheVariants.{Jump}
use Rattle.ax_isa.specs.Past.{Noted}
use Rattle.ax_isa.specs.Processor.{Processor}
use Rattle.ax_isa.specs.Steps.{Kind}
use Rattle.ax_follow.specs.Contract.{Happening, InStep, stage_start}
use Rattle.ax_expand.specs.Accesses.{OneAccess}
use Rattle.ax_expand.specs.Bytes.{bytes_world}
use Rattle.ax_expand.specs.Continues.{Context, Does, GoesOn, StaysAt, IsBefore}
use Rattle.ax_expand.specs.Expands.{Expands, reading_of}
use Rattle.ax_expand.specs.OneInstruction.{OneInstruction}
use Rattle.ax_expand.specs.Operation.{Operation}
use Rattle.ax_expand.specs.Private.{Private, Goes, Spells, jumped, went}
use Rattle.ax_expand.specs.Shared.{Shared}
use Rattle.ax_expand.specs.Standing.{HasAt, Here, silently}
use Rattle.ax_expand.specs.World.{World}
use Rattle.ax_expand.specs.Wraps.{Wrapping, IsWrapping, setting_in}

-- code that loads what an operation takes, then an expansion of which the contract alone is known, then code that stores what it gave
abbrev pub WrappedFollows : {I P W : Type 0} → Wrapping I P W → Type 0
WrappedFollows {P = P} z =
    IsWrapping z → (p : ℕ) (s : P) (c : Processor) (n : Noted) → z.takes p s → z.meaning.number s ≡ z.number → z.meaning.status s ≡ Runs → c.place ≡ z.meaning.begins s → z.meaning.matches p c n s
    → (hs : List Happening) → InStep z.meaning (reading_of z.reading) (setting_in z) p hs stage_start s c n

module _ {I P W : Type 0} (context : Context I P W) where
  abbrev pub StandsAt : ℕ → List I → Type 0
  StandsAt place is = HasAt context.setting (reading_of context.reading) context.quiet context.number place (silently is)

  -- straight silent code that leads from one private state to another: what continues behind it continues before it
  abbrev pub StraightContinues : Type 0
  StraightContinues =
      (acted : Bool) (is : List I) (idle : ℕ) (y z : Private) → StandsAt y.cpu.place is → y.cpu.role ≡ Outside → Goes context.setting.kind context.room is y z → idle + length is ≤ context.reading.most
      → ((q : ℕ) → y.cpu.place ≤ q → q < y.cpu.place + length is → IsBefore context acted q) → StaysAt context acted z.cpu.place → GoesOn context acted (idle + length is) z → GoesOn context acted idle y

  -- and so for a silent jump
  abbrev pub JumpContinues : Type 0
  JumpContinues =
      (acted : Bool) (idle : ℕ) (i : I) (place : ℕ) (y : Private) → Here context.setting (reading_of context.reading) context.quiet context.number y.cpu.place (i, Silent) → y.cpu.role ≡ Outside → context.setting.kind.effect_of i y.cpu ≡ Jump place → place < 2 ^ 32
      → idle + 1 ≤ context.reading.most → IsBefore context acted y.cpu.place → StaysAt context acted place → GoesOn context acted (idle + 1) (jumped place y) → GoesOn context acted idle y

  -- code of which others see nothing, whose last step has the event
  abbrev pub PrivateFollows : Type 0
  PrivateFollows =
      (is : List I) (i : I) (t : P) (y mid z : Private) → HasAt context.setting (reading_of context.reading) context.quiet context.number y.cpu.place (silently is ++ (i, Act) ∷ []) → context.meaning.number context.above ≡ context.number → context.meaning.status t ≡ Runs → y.cpu.role ≡ Outside
      → Goes context.setting.kind context.room is y mid → went context.room (context.setting.kind.effect_of i mid.cpu) mid ≡ Some z → length is ≤ context.reading.most → Does context t None → z.cpu.place ≡ context.meaning.begins t
      → ((w : W) → context.meaning.fits context.processor context.above w → (n : Noted) → Spells context.processor n z.frame → context.meaning.matches context.processor z.cpu n t) → GoesOn context false 0 y

-- one instruction whose step does what an operation says is an expansion of it
abbrev pub OneFollows : {I W : Type 0} → Kind I → World W → Operation W → Type 0
OneFollows {I = I} k world o = (keeps : ℕ → Bool) (i : I) → OneInstruction k world keeps i o → Expands k world 0 keeps 1 (λ start. (i, Act) ∷ []) o

-- and one access to what all share is its step, on machines with buffers and on others
abbrev pub AccessFollows : {I : Type 0} → Kind I → Operation Shared → Type 0
AccessFollows {I = I} k o = (keeps : ℕ → Bool) (i : I) → OneAccess k keeps i o → Expands k bytes_world 0 keeps 1 (λ start. (i, Act) ∷ []) o
