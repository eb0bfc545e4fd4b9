-- THE FINE MIDDLE MACHINE OVER BYTES IN STEP WITH THE ONE-STEP MACHINE OVER NUMBERS: how their states are related, what is asked of the code, and the law.
use Rattle.std.specs.Prelude.{◌≡◌, ◌≢◌, ℕ, ◌+◌, ◌*◌, ◌≤◌, ◌<◌, ◌%◌, ◌^◌, Bool, true, ◌⊎◌, List, [], ◌∷◌, Option, Some, None, slice_get}
use Rattle.ax_words.specs.declared.source.SourceEvent.{SourceEvent}
use Rattle.ax_words.specs.declared.source.SourceStatus.TheVariants.{Running}
use Rattle.ax_tags.specs.declared.tags.Tag.TheVariants as tag
use Rattle.ax_words.specs.declared.operation.RmwOp.{RmwOp}
use Rattle.ax_ops.specs.Operation.{result_of}
use Rattle.ax_store.specs.declared.entry.Entry.{Entry}
use Rattle.ax_store.specs.Bytes.{all_inside, number_at}
use Rattle.ax_source_run.specs.SourceState.{PendingStore}
use Rattle.ax_follow.specs.Contract.{Whole, meant_run, source_events}
use Rattle.ax_mid.specs.declared.code.Line.{Line}
use Rattle.ax_mid.specs.declared.code.Mid.{Mid}
use Rattle.ax_mid.specs.declared.code.MidGlobal.{MidGlobal}
use Rattle.ax_mid.specs.declared.instruction.MidInst.{MidInst}
use Rattle.ax_mid.specs.declared.instruction.MidInst.TheVariants as mid
use Rattle.ax_mid.specs.Machine.{MidState, act_step, advance, mid_run}
use Rattle.ax_mid.specs.Processor.{MidDeed, MidProcessor}
use Rattle.ax_target.specs.declared.target.Target.{Target}
use Rattle.ax_expand.specs.Bytes.{bytes_world}
use Rattle.ax_expand.specs.Shared.{Shared}
use Rattle.ax_fine.specs.Fine.{Fit, Program, fine, is_label, settle}
use Rattle.ax_fine.specs.OnBytes.{AreWords, atomic_doing, load_doing, store_doing}

-- what an operation leaves fits its width: a law of ax_ops
abbrev pub ResultsFit : Type 0
ResultsFit = (width : ℕ) (op : RmwOp) (old v : ℕ) → old < 2 ^ width → v < 2 ^ width → result_of width op old v < 2 ^ width

-- ---- processors
abbrev pub marked : Option ℕ → List PendingStore → MidProcessor → MidProcessor
marked seen pending m = record m { seen = seen; pending = pending }

-- the stores of a fine processor wait among the bytes that all share
abbrev pub bare : MidProcessor → MidProcessor
bare m = marked m.seen [] m

-- registers of 64 bits, and bytes
pub record IsSmall (m : MidProcessor) : Type 0 where
  pub regs : (r : ℕ) → m.regs r < 2 ^ 64
  pub frame : (b : ℕ) → m.frame b < 2 ^ 8

-- ---- code
-- a label has no event
abbrev pub AreLabelsSilent : {R : Type 0} → Mid R → Type 0
AreLabelsSilent code = (j : ℕ) (line : Line _) → slice_get code.lines j ≡ Some line → is_label line.inst ≡ true → line.tag ≡ tag.Silent

-- its numbers fit a register, and a plain access is of 8 bytes at most
abbrev pub IsSmallInst : {R : Type 0} → ℕ → MidInst R → Type 0
IsSmallInst base (mid.Const to n) = n < 2 ^ 64
IsSmallInst base (mid.FrameAddress to offset) = base + offset < 2 ^ 64
IsSmallInst base (mid.Load to address n) = (1 ≤ n) × (n ≤ 8)
IsSmallInst base (mid.Store address from n) = (1 ≤ n) × (n ≤ 8)
IsSmallInst base _ = Unit {0}

-- ---- globals
abbrev pub address_of : MidGlobal → ℕ → ℕ
address_of global i = global.address + i * global.bytes

-- globals below the frames, in regions that may be used, without overlap; native elements at multiples of their bytes
pub record ArePlaced (globals : List MidGlobal) (inside : ℕ → Bool) : Type 0 where
  pub below : (g : ℕ) (x : MidGlobal) → slice_get globals g ≡ Some x → x.address + x.count * x.bytes ≤ 2 ^ 24
  pub sizes : (g : ℕ) (x : MidGlobal) → slice_get globals g ≡ Some x → (1 ≤ x.bytes) × (x.bytes ≤ 16)
  pub mapped : (g i : ℕ) (x : MidGlobal) → slice_get globals g ≡ Some x → i < x.count → all_inside inside (address_of x i) x.bytes ≡ true
  pub aligned : (g i : ℕ) (x : MidGlobal) → slice_get globals g ≡ Some x → i < x.count → x.native ≡ true → address_of x i % x.bytes ≡ 0
  pub apart : (g h : ℕ) (x y : MidGlobal) → slice_get globals g ≡ Some x → slice_get globals h ≡ Some y → g ≢ h → (x.address + x.count * x.bytes ≤ y.address) ⊎ (y.address + y.count * y.bytes ≤ x.address)
  pub words : AreWords inside

-- the bytes of each element spell its number
abbrev pub AreSpelled : List MidGlobal → (ℕ → ℕ) → (ℕ → ℕ → ℕ) → Type 0
AreSpelled globals mem numbers = (g i : ℕ) (x : MidGlobal) → slice_get globals g ≡ Some x → i < x.count → number_at mem (address_of x i) x.bytes ≡ numbers g i

-- a store that waits is this one
pub record IsStore (globals : List MidGlobal) (e : Entry) (store : PendingStore) : Type 0 where
  pub global : MidGlobal
  pub there : slice_get globals store.global ≡ Some global
  pub within : store.element < global.count
  pub native : global.native ≡ true
  pub address : e.address ≡ address_of global store.element
  pub bytes : e.bytes ≡ global.bytes
  pub value : e.value ≡ store.number
  pub small : store.number < 2 ^ (8 * global.bytes)

abbrev pub AreStores : List MidGlobal → List Entry → List PendingStore → Type 0
AreStores globals [] [] = Unit {0}
AreStores globals [] (store ∷ stores) = ⊥
AreStores globals (e ∷ es) [] = ⊥
AreStores globals (e ∷ es) (store ∷ stores) = IsStore globals e store × AreStores globals es stores

-- ---- states
-- what processors share spells the numbers and the stores that wait
pub record Spells (globals : List MidGlobal) (inside : ℕ → Bool) (w : Shared) (numbers : ℕ → ℕ → ℕ) (pending : ℕ → List PendingStore) : Type 0 where
  pub mapped : w.inside ≡ inside
  pub small : (b : ℕ) → w.mem b < 2 ^ 8
  pub spelled : AreSpelled globals w.mem numbers
  pub waiting : (p : ℕ) → AreStores globals (w.pending p) (pending p)

-- middle code, and the frames in which its registers and its bytes stand
pub record Framed (R : Type 0) : Type 0 where
  pub key : R → ℕ
  pub target : Target
  pub code : Mid R
  pub base : ℕ → ℕ
  pub lives : ℕ → Bool
  pub count : ℕ
  pub size : ℕ
  pub depth : ℕ
  pub top : ℕ → ℕ
  pub low : ℕ → ℕ
  pub fixed : ℕ → Bool
  pub home : ℕ → ℕ → ℕ

-- its processors share the bytes below the frames
abbrev pub on_bytes : {R : Type 0} → Framed R → Program R Shared
on_bytes x = record {
  key = x.key;
  target = x.target;
  code = x.code;
  base = x.base;
  world = bytes_world;
  atomic = atomic_doing x.target;
  load = load_doing x.target;
  store = store_doing x.target;
  lives = x.lives;
  count = x.count;
  size = x.size;
  depth = x.depth;
  top = x.top;
  low = x.low;
  fixed = x.fixed;
  home = x.home;
}

module _ {R : Type 0} (x : Framed R) (most : ℕ) where
  abbrev pub ahead : ℕ → MidProcessor → MidProcessor
  ahead p m = advance x.key x.target x.code (x.base p) most m

  -- a fine processor is on the way of silent lines to the event of the other one's processor, and at no label
  pub record IsNear (p : ℕ) (a b : MidProcessor) : Type 0 where
    pub status : b.status ≡ a.status
    pub small : a.status ≡ Running → IsSmall b
    pub way : a.status ≡ Running → ahead p b ≡ bare (ahead p a)
    pub settled : a.status ≡ Running → settle x.code.lines b.place ≡ b.place

  pub record Near (inside : ℕ → Bool) (w : Whole MidProcessor Shared) (s : MidState) : Type 0 where
    pub outputs : w.outputs ≡ s.outputs
    pub spells : Spells x.code.globals inside w.world s.numbers (λ p. (s.processors p).pending)
    pub processors : (p : ℕ) → IsNear p (s.processors p) (w.processors p)

  abbrev pub IsDeed : Option MidDeed → Type 0
  IsDeed None = ⊥
  IsDeed (Some d) = Unit {0}

  -- the event of each running processor can be
  abbrev pub CanAct : MidState → Type 0
  CanAct s = (p : ℕ) → (s.processors p).status ≡ Running → IsDeed (act_step x.key x.target x.code (x.base p) (ahead p (s.processors p)) s.numbers)

  abbrev pub one_step : List SourceEvent → MidState → MidState
  one_step events s = mid_run x.key x.target x.code x.base most events s

  -- what is asked of the code and of the state in which it begins
  pub record IsMeant (inside : ℕ → Bool) (s : MidState) : Type 0 where
    pub labels : AreLabelsSilent x.code
    pub small : (p j : ℕ) (line : Line R) → slice_get x.code.lines j ≡ Some line → IsSmallInst (x.base p) line.inst
    pub placed : ArePlaced x.code.globals inside
    pub can : (events : List SourceEvent) → CanAct (one_step events s)

-- THE LAW: after every list of events the fine machine is near the one-step machine under the source events that it gives
abbrev pub FineRunsInStep : Type 0 → Type 0
FineRunsInStep R =
    (x : Framed R) (most : ℕ) (inside : ℕ → Bool) (places : ℕ → ℕ) (w : Whole MidProcessor Shared) (s : MidState) → IsMeant x most inside s → Near x most inside w s
    → (events : List SourceEvent) → Near x most inside (meant_run (fine (on_bytes x) places) events w) (one_step x most (source_events (fine (on_bytes x) places) events w) s)

-- the room of the frame of each processor that runs from the beginning may be used, with its root
abbrev pub HasRoom : {R : Type 0} → Framed R → (ℕ → Bool) → MidState → Type 0
HasRoom x inside s = (p b : ℕ) → (s.processors p).status ≡ Running → x.lives p ≡ true → x.low p ≤ b → b < x.top p + 8 → inside b ≡ true

-- AND WHAT ITS CODE ASKS HOLDS IN EVERY STATE THAT IT REACHES: numbers fit registers, accesses are to objects or to the own frame
abbrev pub FineRunsFit : Type 0 → Type 0
FineRunsFit R =
    (x : Framed R) (most : ℕ) (inside : ℕ → Bool) (places : ℕ → ℕ) (w : Whole MidProcessor Shared) (s : MidState) → IsMeant x most inside s → HasRoom x inside s → Near x most inside w s
    → (events : List SourceEvent) (p : ℕ) → ((meant_run (fine (on_bytes x) places) events w).processors p).status ≡ Running
    → Fit (on_bytes x) p ((meant_run (fine (on_bytes x) places) events w).processors p) (meant_run (fine (on_bytes x) places) events w).world
