-- THE FINE MIDDLE MACHINE, one step a line, as the meaning of machine code whose registers are slots of a frame.
use Rattle.std.specs.Prelude.{◌≡◌, ℕ, zero, suc, ◌+◌, ◌-◌, ◌*◌, ◌<◌, ◌≤◌, ◌%◌, ◌^◌, Bool, true, false, ◌&&◌, nat_le, nat_lt, if◌then◌else◌, List, [], ◌∷◌, length, Option, Some, None, slice_get}
use Rattle.ax_words.specs.declared.mark.Op.{Op}
use Rattle.ax_words.specs.declared.order.Order.{Order}
use Rattle.ax_words.specs.declared.width.Width.{Width}
use Rattle.ax_words.specs.declared.source.SourceStatus.TheVariants.{Ended, Trapped}
use Rattle.ax_store.specs.Bytes.{number_at}
use Rattle.ax_store.specs.Storage.{seen}
use Rattle.ax_target.specs.declared.target.Target.{Target}
use Rattle.ax_tags.specs.declared.tags.Tag.{Tag}
use Rattle.ax_tags.specs.declared.tags.Tag.TheVariants as tag
use Rattle.ax_tags.specs.declared.tags.Role.TheVariants.{None as Outside}
use Rattle.ax_isa.specs.Processor.{Processor}
use Rattle.ax_isa.specs.Tells.{Given, An_act}
use Rattle.ax_follow.specs.Contract.{Meaning, Did, IsOwn, done_after}
use Rattle.ax_mid.specs.declared.code.Line.{Line}
use Rattle.ax_mid.specs.declared.code.Mid.{Mid}
use Rattle.ax_mid.specs.declared.instruction.MidInst.{MidInst}
use Rattle.ax_mid.specs.declared.instruction.MidInst.TheVariants as mid
use Rattle.ax_mid.specs.Processor.{MidProcessor, goes_on, unseen}
use Rattle.ax_mid.specs.Machine.{label_at, private_step, put_all, read_all}
use Rattle.ax_mid.specs.Spots.{frame_bytes, is_own}
use Rattle.ax_expand.specs.World.{World}
use Rattle.ax_expand.specs.Operation.{hushed}
use Rattle.ax_expand.specs.Doing.{Doing, Result}

pub record Program (R W : Type 0) : Type 1 where
  pub key : R → ℕ
  pub target : Target
  pub code : Mid R
  pub base : ℕ → ℕ
  pub world : World W
  -- what an atomic operation does, and a plain load or store of so many bytes that are not in the frame
  pub atomic : Op → Width → Order → Bool → Doing W
  pub load : ℕ → Doing W
  pub store : ℕ → Doing W
  -- the processors that there are
  pub lives : ℕ → Bool
  -- the frame of each, from `low` up to `top`, to which the stack pointer points: so many registers below the top, and so many bytes from `base` on, which lies `depth` below the top. The 8 bytes from `top` on are the frame's root: code that returns to the place in memory finds there that there is none
  pub count : ℕ
  pub size : ℕ
  pub depth : ℕ
  pub top : ℕ → ℕ
  pub low : ℕ → ℕ
  -- registers of the machine that no code changes, the stack pointer among them
  pub fixed : ℕ → Bool
  pub home : ℕ → ℕ → ℕ

abbrev pub is_some : {A : Type 0} → Option A → Bool
is_some None = false
is_some (Some a) = true

abbrev pub is_label : {R : Type 0} → MidInst R → Bool
is_label i = is_some (label_at (λ r. 0) i)

-- the next place that is no label: labels have no code
abbrev pub settle : {R : Type 0} → List (Line R) → ℕ → ℕ
settle [] j = j
settle (line ∷ lines) zero = if is_label line.inst then suc (settle lines zero) else zero
settle (line ∷ lines) (suc j) = suc (settle lines j)

-- an instruction without a source event is silent
abbrev pub is_quiet : Tag → Bool
is_quiet tag.Silent = true
is_quiet _ = false

abbrev pub slot : (ℕ → ℕ) → ℕ → ℕ → ℕ
slot top p r = top p - 8 * (r + 1)

-- the bytes that a processor sees in its frame spell the registers and the frame of a middle processor; those of the root are 0, which is no place, and stay so, since all code writes below them
pub record Spelled {R W : Type 0} (m : Program R W) (p : ℕ) (c : Processor) (f : ℕ → ℕ) (s : MidProcessor) : Type 0 where
  pub regs : (r : ℕ) → r < m.count → number_at f (slot m.top p r) 8 ≡ s.regs r
  pub frame : (b : ℕ) → b < m.size → f (m.base p + b) ≡ s.frame b
  pub root : number_at f (m.top p) 8 ≡ 0
  pub fixed : (r : ℕ) → m.fixed r ≡ true → c.regs r ≡ m.home p r
  pub role : c.role ≡ Outside
  pub lives : m.lives p ≡ true

abbrev pub room_of : {R W : Type 0} → Program R W → ℕ → ℕ → Bool
room_of m p b = m.lives p && (nat_le (m.low p) b && nat_lt b (m.top p))

-- where a frame lies, with its root
pub record Sound {R W : Type 0} (m : Program R W) : Type 0 where
  pub own : (p b : ℕ) → m.lives p ≡ true → m.low p ≤ b → b < m.top p + 8 → IsOwn p b
  pub area : (p : ℕ) → m.low p ≤ m.base p
  pub deep : (p : ℕ) → m.base p + m.depth ≡ m.top p
  -- all bytes that code can name
  pub whole : frame_bytes ≤ m.size
  pub slots : m.size + 8 * m.count ≤ m.depth
  pub aligned : (p : ℕ) → m.top p % 8 ≡ 0
  pub even : m.depth % 8 ≡ 0
  pub wide : (p : ℕ) → m.lives p ≡ true → m.top p < 2 ^ 64

module _ {R W : Type 0} (m : Program R W) where
  abbrev pub settled : MidProcessor → MidProcessor
  settled s = record s { place = settle m.code.lines s.place }

  abbrev pub kept_seen : Bool → MidProcessor → MidProcessor
  kept_seen true s = s
  kept_seen false s = unseen s

  -- a line that touches a processor alone leaves this, settled
  abbrev pub stepped : Bool → MidProcessor → MidProcessor
  stepped quiet s = settled (kept_seen quiet s)

  abbrev pub did_private : Bool → W → Option MidProcessor → Option (Did MidProcessor W)
  did_private quiet w None = None
  did_private quiet w (Some s) = Some (record { processor = stepped quiet s; world = w; output = None; gives = hushed quiet An_act; excused = false })

  -- a look stays at its line
  abbrev pub moved_on : Bool → MidProcessor → MidProcessor
  moved_on true s = settled (goes_on s)
  moved_on false s = s

  abbrev pub with_results : List R → Result W → MidProcessor → MidProcessor
  with_results rs r s = record s { regs = put_all m.key rs r.results s.regs; seen = r.seen }

  abbrev pub did_atomic : Bool → Given → List R → MidProcessor → Option (Result W) → Option (Did MidProcessor W)
  did_atomic quiet g rs s None = None
  did_atomic quiet g rs s (Some r) = Some (record { processor = moved_on (done_after g false) (with_results rs r s); world = r.world; output = r.output; gives = hushed quiet g; excused = r.excused })

  -- the line that only its processor sees
  abbrev pub private_at : ℕ → MidInst R → MidProcessor → Option MidProcessor
  private_at p i s = private_step m.key m.target m.code (m.base p) i s

  -- what the act of a line that is no atomic operation does; a call of a routine has none here
  abbrev pub act_of : Bool → ℕ → MidInst R → MidProcessor → W → Option (Did MidProcessor W)
  act_of quiet p (mid.Out from) s w = Some (record { processor = settled (unseen (goes_on s)); world = w; output = Some (s.regs (m.key from)); gives = hushed quiet An_act; excused = false })
  act_of quiet p mid.Trap s w = Some (record { processor = record s { status = Trapped }; world = w; output = None; gives = hushed quiet An_act; excused = false })
  -- an ended processor stands nowhere
  act_of quiet p mid.Ret s w = Some (record { processor = record s { place = suc (length m.code.lines); status = Ended; seen = None }; world = w; output = None; gives = hushed quiet An_act; excused = false })
  act_of quiet p i s w = did_private quiet w (private_at p i s)

  abbrev pub plain_by : Given → Bool → ℕ → MidInst R → MidProcessor → W → Option (Did MidProcessor W)
  plain_by An_act quiet p i s w = act_of quiet p i s w
  plain_by _ quiet p i s w = None

  unfoldable pub chosen_by : Given → Bool → ℕ → MidInst R → MidProcessor → W → Option (Did MidProcessor W)
  chosen_by g quiet p (mid.Atomic o width order weak address args results) s w = did_atomic quiet g results s ((m.atomic o width order weak).happens g p (s.regs (m.key address)) (read_all m.key args s.regs) s.seen w)
  chosen_by g quiet p (mid.Load to address n) s w =
      if is_own (m.base p) (s.regs (m.key address)) n then plain_by g quiet p (mid.Load to address n) s w
      else did_atomic quiet g (to ∷ []) s ((m.load n).happens g p (s.regs (m.key address)) [] s.seen w)
  chosen_by g quiet p (mid.Store address from n) s w =
      if is_own (m.base p) (s.regs (m.key address)) n then plain_by g quiet p (mid.Store address from n) s w
      else did_atomic quiet g [] s ((m.store n).happens g p (s.regs (m.key address)) (s.regs (m.key from) ∷ []) s.seen w)
  chosen_by g quiet p i s w = plain_by g quiet p i s w

  abbrev pub chosen_if : Option (Line R) → Given → ℕ → MidProcessor → W → Option (Did MidProcessor W)
  chosen_if None g p s w = None
  chosen_if (Some line) g p s w = chosen_by g (is_quiet line.tag) p line.inst s w

  abbrev pub line_of : MidProcessor → Option (Line R)
  line_of s = slice_get m.code.lines s.place

  -- an access in the frame asks nothing of what is shared
  abbrev pub asks_if : Bool → Type 0 → Type 0
  asks_if true asked = Unit {0}
  asks_if false asked = asked

  -- what a line asks of its registers and of all that is shared: the address of an atomic operation, the frame's bytes of a load or store
  abbrev pub asks_by : ℕ → MidInst R → MidProcessor → W → Type 0
  asks_by p (mid.Atomic o width order weak address args results) s w = (m.atomic o width order weak).fits (s.regs (m.key address)) (read_all m.key args s.regs) w
  asks_by p (mid.Load to address n) s w = asks_if (is_own (m.base p) (s.regs (m.key address)) n) ((m.load n).fits (s.regs (m.key address)) [] w)
  asks_by p (mid.Store address from n) s w = asks_if (is_own (m.base p) (s.regs (m.key address)) n) ((m.store n).fits (s.regs (m.key address)) (s.regs (m.key from) ∷ []) w)
  -- nobody stands at a label
  asks_by p (mid.Label n) s w = ⊥
  asks_by p i s w = Unit {0}

  abbrev pub asks : ℕ → Option (Line R) → MidProcessor → W → Type 0
  asks p None s w = ⊥
  asks p (Some line) s w = asks_by p line.inst s w

  -- what holds of processor p in each state that can be reached
  pub record Fit (p : ℕ) (s : MidProcessor) (w : W) : Type 0 where
    pub small : (r : ℕ) → s.regs r < 2 ^ 64
    pub bytes : (b : ℕ) → s.frame b < 2 ^ 8
    pub next : (g : Given) (t : Did MidProcessor W) (r : ℕ) → chosen_if (line_of s) g p s w ≡ Some t → t.processor.regs r < 2 ^ 64
    pub asks : asks p (line_of s) s w
    pub room : (b : ℕ) → m.lives p ≡ true → m.low p ≤ b → b < m.top p + 8 → m.world.inside w b ≡ true

  abbrev pub fine : (ℕ → ℕ) → Meaning MidProcessor W
  fine place_at =
      record {
        status = λ s. s.status;
        chosen = λ g p s w. chosen_if (line_of s) g p s w;
        drained = m.world.drained;
        drain_gives = m.world.drain_gives;
        sees = m.world.sees;
        number = λ s. s.place;
        begins = λ s. place_at s.place;
        matches = λ p c n s. Spelled m p c (seen p n.storage) s;
        fits = λ p s w. Fit p s w;
      }
