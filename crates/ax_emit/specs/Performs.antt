-- WHAT THE CODE OF A LINE DOES, as what an instruction set has to show: none of it speaks of runs.
use Rattle.std.specs.Prelude.{◌≡◌, ℕ, ◌+◌, ◌<◌, ◌^◌, true, false, List, Option, Some, None, nat_eq, if◌then◌else◌}
use Rattle.ax_words.specs.declared.source.SourceStatus.TheVariants.{Running as Runs}
use Rattle.ax_tags.specs.declared.tags.Role.TheVariants.{None as Outside}
use Rattle.ax_isa.specs.declared.cpu.Status.TheVariants.{Running, Trapped}
use Rattle.ax_isa.specs.declared.effects.Back.{Back}
use Rattle.ax_isa.specs.declared.effects.Back.TheVariants.{Place, Stack as Pops}
use Rattle.ax_isa.specs.declared.effects.Effect.{Effect}
use Rattle.ax_isa.specs.declared.effects.Effect.TheVariants.{Jump, Return, Output, Trap, Nop}
use Rattle.ax_isa.specs.Processor.{Processor}
use Rattle.ax_isa.specs.Steps.{Kind, go_back, go_on, go_to, popped, with_status}
use Rattle.ax_isa.specs.Tells.{An_act, with_role}
use Rattle.ax_follow.specs.Contract.{machine_status}
use Rattle.ax_mid.specs.declared.code.Line.{Line}
use Rattle.ax_mid.specs.declared.instruction.MidInst.{MidInst}
use Rattle.ax_mid.specs.Processor.{MidProcessor, gets}
use Rattle.ax_expand.specs.Operation.{hushed}
use Rattle.ax_expand.specs.Private.{Private, went, Goes}
use Rattle.ax_fine.specs.Fine.{Program, Spelled, chosen_by, is_quiet, private_at, room_of}

-- what an effect leaves that leaves memory as it is: the processor, and what it puts out
pub record Remains : Type 0 where
  pub processor : Processor
  pub output : Option ℕ

abbrev pub remains : Processor → Option ℕ → Remains
remains c output = record { processor = c; output = output }

-- a return that pops the root of the frame, which is 0, goes to no place
abbrev pub returned : ℕ → Back → Processor → Option Remains
returned root (Place place) c = Some (remains (with_role Outside (go_back place c)) None)
returned root (Pops pointer a) c = if nat_eq a root then Some (remains (with_role Outside (go_back 0 (popped (Pops pointer a) c))) None) else None

abbrev pub stilled : ℕ → Effect → Processor → Option Remains
stilled root (Jump place) c = Some (remains (go_to place c) None)
stilled root (Return back) c = returned root back c
stilled root (Output number) c = Some (remains (go_on c) (Some number))
stilled root Trap c = Some (remains (with_status Trapped c) None)
stilled root Nop c = Some (remains (go_on c) None)
stilled root _ c = None

-- where a branch goes
abbrev pub turned : Effect → Processor → Option ℕ
turned (Jump place) c = Some place
turned Nop c = Some (c.place + 1)
turned _ c = None

module _ {I R W : Type 0} (k : Kind I) (m : Program R W) (p : ℕ) where
  abbrev pub goes_by : List I → Private → Private → Type 0
  goes_by is y z = Goes k (room_of m p) is y z

  -- what is known of a line that can be
  pub record May (i : MidInst R) (s : MidProcessor) : Type 0 where
    pub small : (r : ℕ) → s.regs r < 2 ^ 64
    pub bytes : (b : ℕ) → s.frame b < 2 ^ 8
    pub next : (t : MidProcessor) (r : ℕ) → private_at m p i s ≡ Some t → t.regs r < 2 ^ 64

  -- an instruction that has a line's event, and silent code behind it, do what the line does
  pub record Acted (i : MidInst R) (s : MidProcessor) (act : I) (after : List I) (y : Private) : Type 0 where
    pub next : MidProcessor
    pub does : private_at m p i s ≡ Some next
    pub place : next.place ≡ s.place + 1
    pub status : next.status ≡ s.status
    pub behind : Private
    pub acts : went (room_of m p) (k.effect_of act y.cpu) y ≡ Some behind
    pub private : Private
    pub goes : goes_by after behind private
    pub spelled : Spelled m p private.cpu private.frame next

  -- A LINE THAT TOUCHES ITS PROCESSOR ALONE: silent code, the instruction with the event, and silent code
  pub record Performs (i : MidInst R) (before : List I) (acts : I) (after : List I) (s : MidProcessor) (y : Private) : Type 0 where
    pub private : Private
    pub comes : goes_by before y private
    pub acted : May i s → Acted i s acts after private

  -- A LINE THAT COMPUTES: silent code that leaves its number in register t
  pub record Computes (i : MidInst R) (to t : ℕ) (is : List I) (s : MidProcessor) (y : Private) : Type 0 where
    pub value : ℕ
    pub does : private_at m p i s ≡ Some (gets to value s)
    pub private : Private
    pub goes : goes_by is y private
    pub frame : private.frame ≡ y.frame
    pub number : ((r : ℕ) → s.regs r < 2 ^ 64) → private.cpu.regs t ≡ value
    pub fixed : (r : ℕ) → m.fixed r ≡ true → private.cpu.regs r ≡ y.cpu.regs r

  -- A LINE THAT LEAVES ALL MEMORY AS IT IS: silent code, and an instruction that has the event
  pub record Ends (line : Line R) (places : ℕ → ℕ) (is : List I) (acts : I) (s : MidProcessor) (y : Private) : Type 0 where
    pub private : Private
    pub goes : goes_by is y private
    pub frame : private.frame ≡ y.frame
    pub fixed : (r : ℕ) → m.fixed r ≡ true → private.cpu.regs r ≡ y.cpu.regs r
    pub next : MidProcessor
    pub output : Option ℕ
    pub does : (w : W) → chosen_by m An_act (is_quiet line.tag) p line.inst s w ≡ Some (record { processor = next; world = w; output = output; gives = hushed (is_quiet line.tag) An_act; excused = false })
    pub regs : next.regs ≡ s.regs
    pub bytes : next.frame ≡ s.frame
    pub last : Processor
    pub stills : stilled (m.top p) (k.effect_of acts private.cpu) private.cpu ≡ Some (remains last output)
    pub place : last.place ≡ places next.place
    pub low : last.place < 2 ^ 32
    pub status : s.status ≡ Runs → private.cpu.status ≡ Running → last.status ≡ machine_status next.status

  -- A LINE THAT BRANCHES: silent code, and an instruction that goes on to the next place where the test is 0, else to the one behind that
  pub record Splits (test : R) (is : List I) (turn : I) (s : MidProcessor) (y : Private) : Type 0 where
    pub private : Private
    pub goes : goes_by is y private
    pub frame : private.frame ≡ y.frame
    pub fixed : (r : ℕ) → m.fixed r ≡ true → private.cpu.regs r ≡ y.cpu.regs r
    pub turns : turned (k.effect_of turn private.cpu) private.cpu ≡ Some (if nat_eq (s.regs (m.key test)) 0 then private.cpu.place + 1 else private.cpu.place + 2)

-- the private state of a processor that has the numbers of a middle one
abbrev pub at_frame : Processor → (ℕ → ℕ) → Private
at_frame c f = record { cpu = c; frame = f }
