-- One access to what all processors share, with straight code round it, as the code of an operation on registers.
use Rattle.std.specs.Prelude.{◌≡◌, ℕ, ◌+◌, ◌<◌, ◌≤◌, ◌^◌, Bool, true, false, List, [], ◌∷◌, Option, Some, None, length, map}
use Rattle.ax_tags.specs.declared.tags.Tag.{Tag}
use Rattle.ax_tags.specs.declared.tags.Tag.TheVariants.{Act}
use Rattle.ax_isa.specs.Steps.{Kind}
use Rattle.ax_isa.specs.Tells.{Given, An_act, Library}
use Rattle.ax_follow.specs.Contract.{IsOwn, Reading}
use Rattle.ax_expand.specs.Accesses.{OneAccess}
use Rattle.ax_expand.specs.Bytes.{bytes_world}
use Rattle.ax_expand.specs.Doing.{Doing, Result, on_registers, put_regs, read_regs}
use Rattle.ax_expand.specs.Expands.{Expands}
use Rattle.ax_expand.specs.Operation.{Inner, Keeps, Operation, alone}
use Rattle.ax_expand.specs.Private.{Goes, Private}
use Rattle.ax_expand.specs.Shared.{Shared}
use Rattle.ax_expand.specs.Standing.{wrap}
use Rattle.ax_expand.specs.Wraps.{Wrapping}
use Rattle.ax_emit.specs.Atomics.{AllOf}

pub record Rounding (I : Type 0) : Type 1 where
  pub kind : Kind I
  -- the operation, with its registers and those that its code keeps
  pub doing : Doing Shared
  pub address : ℕ
  pub args : List ℕ
  pub results : List ℕ
  pub keeps : ℕ → Bool
  -- the code
  pub before : List I
  pub access : I
  pub after : List I
  -- what the code before has prepared for the access
  pub Prepared : (ℕ → ℕ) → Type 0
  -- a result has so many bits, and this is what the access leaves of it in a register
  pub bits : ℕ
  pub raw : ℕ → ℕ

-- an act with results as the access leaves them
abbrev pub raws : (ℕ → ℕ) → Given → Option (Result Shared) → Option (Result Shared)
raws raw An_act (Some r) = Some (record r { results = map raw r.results })
raws raw _ r = None

-- what the access does on registers that are prepared
abbrev pub unfinished : {I : Type 0} → Rounding I → Operation Shared
unfinished z =
    (let inner : Doing Shared = record { happens = λ g p a args seen w. raws z.raw g (z.doing.happens g p a args seen w); fits = z.doing.fits } in
    record { happens = (on_registers inner z.address z.args z.results).happens; fits = λ regs w. z.doing.fits (regs z.address) (read_regs z.args regs) w × z.Prepared regs })

-- all registers
abbrev pub all : ℕ → Bool
all q = true

-- this code uses no byte of a frame
abbrev pub no_room : ℕ → Bool
no_room b = false

-- code that leads to these registers, as far as they are kept
pub record Leads {I : Type 0} (k : Kind I) (is : List I) (y : Private) (Q : (ℕ → ℕ) → Type 0) : Type 0 where
  pub private : Private
  pub goes : Goes k no_room is y private
  pub frame : private.frame ≡ y.frame
  pub regs : Q private.cpu.regs

module _ {I : Type 0} (z : Rounding I) where
  abbrev pub AreSmall : List ℕ → Type 0
  AreSmall ns = AllOf (λ n. n < 2 ^ z.bits) ns

  -- registers with results as the access leaves them
  abbrev pub raw_regs : (ℕ → ℕ) → ℕ → ℕ
  raw_regs regs = put_regs z.results (map z.raw (read_regs z.results regs)) regs

  -- ALL THAT IS TO BE SHOWN of the code round the access, and of its operation
  pub record IsRounding : Type 0 where
    pub access : OneAccess z.kind all z.access (unfinished z)
    pub brings : (y : Private) → Leads z.kind z.before y (λ regs. Keeps z.keeps regs y.cpu.regs × z.Prepared regs)
    pub puts : (y : Private) (regs : ℕ → ℕ) → AreSmall (read_regs z.results regs) → Keeps z.keeps y.cpu.regs (raw_regs regs) → Leads z.kind z.after y (λ left. Keeps z.keeps left regs)
    pub acts : (p a : ℕ) (args : List ℕ) (seen : Option ℕ) (w : Shared) (r : Result Shared) → z.doing.fits a args w → z.doing.happens An_act p a args seen w ≡ Some r → AreSmall r.results × (length r.results ≡ length z.results)
    pub one : length z.results ≤ 1
    pub address_kept : z.keeps z.address ≡ true
    pub args_kept : AllOf (λ r. z.keeps r ≡ true) z.args

  abbrev pub code : ℕ → List (I × Tag)
  code start = wrap z.before (λ place. (z.access, Act) ∷ []) z.after start

  abbrev pub size : ℕ
  size = length z.before + 1 + length z.after

  abbrev pub idle : ℕ
  idle = length z.before + length z.after

  -- IT IS AN EXPANSION of its operation
  abbrev pub Expanding : Type 0
  Expanding = Expands z.kind bytes_world idle z.keeps size code (on_registers z.doing z.address z.args z.results)

-- where the code stands
pub record Standing (I : Type 0) : Type 0 where
  pub code : List I
  pub tags : ℕ → Tag
  pub library : Library
  pub reading : Reading
  pub quiet : Bool
  pub number : ℕ
  pub start : ℕ
  pub frames : ℕ → ℕ → ℕ

-- the registers of the operation and those of the access, before its event and after it
abbrev pub TiedRegs : {I : Type 0} → Rounding I → Bool → (ℕ → ℕ) → (ℕ → ℕ) → Type 0
TiedRegs z false regs inner = Keeps z.keeps inner regs × z.Prepared inner
TiedRegs z true regs inner = Keeps z.keeps inner (raw_regs z regs) × AreSmall z (read_regs z.results regs)

-- a processor in the operation's code and one in that of the access
pub record Relates {I : Type 0} (z : Rounding I) (frames : ℕ → ℕ → ℕ) (p : ℕ) (f : ℕ → ℕ) (acted : Bool) (s t : Inner) : Type 0 where
  pub over : s.over ≡ acted
  pub inner_over : t.over ≡ acted
  pub seen : t.seen ≡ s.seen
  pub frame : (b : ℕ) → IsOwn p b → f b ≡ frames p b
  pub regs : TiedRegs z acted s.regs t.regs

abbrev pub wrapping_at : {I : Type 0} → Rounding I → Standing I → Wrapping I Inner Shared
wrapping_at z x =
    record {
      kind = z.kind;
      code = x.code;
      tags = x.tags;
      library = x.library;
      meaning = alone bytes_world (on_registers z.doing z.address z.args z.results) x.quiet z.keeps x.frames x.start (x.start + size z) x.number;
      reading = x.reading;
      world = bytes_world;
      operation = unfinished z;
      piece = λ place. (z.access, Act) ∷ [];
      size = 1;
      most = 0;
      keeps = all;
      number = x.number;
      quiet = x.quiet;
      start = x.start;
      before = z.before;
      after = z.after;
      takes = λ p s. Unit {0};
      room = λ p b. false;
      relates = Relates z x.frames;
    }
