-- The contract of a piece of middle code, and the theorem that rests on it. It speaks of no instruction.
use Rattle.std.specs.Prelude.{◌≡◌, ℕ, Bool, true, false, nat_eq, Option, Some, None}
use Rattle.ax_module.specs.declared.inst.Inst.{Inst}
use Rattle.ax_module.specs.declared.module.Module.{Module}
use Rattle.ax_source_run.specs.SourceAccess.{Deed, gets}
use Rattle.ax_source_run.specs.SourceEvent.{expected_by, next_inst, number_of_next, seen_by}
use Rattle.ax_source_run.specs.SourceInstructions.{deed, traps}
use Rattle.ax_source_run.specs.SourceState.{SourceProcessor, SourceProgram, Pair}
use Rattle.ax_mid.specs.declared.code.Line.{Line}
use Rattle.ax_mid.specs.declared.code.Mid.{Mid}
use Rattle.ax_mid.specs.Machine.{act_step, advance, line_at, missed_if, seen_if}
use Rattle.ax_mid.specs.Processor.{MidDeed, MidProcessor}
use Rattle.ax_words.specs.declared.place.Site.{Site}
use Rattle.ax_words.specs.declared.source.SourceStatus.TheVariants.{Running}
use Rattle.ax_standing.specs.Standing.{IsOnWalk}
use Rattle.ax_typed.specs.Typed.{AreTyped, IsTypedProcessor}
use Rattle.ax_selected.specs.Matches.{Matches}

-- a middle processor stands where the code of the source processor's instruction begins, and has its numbers
pub record Stands (m : Module) (begins : ℕ → ℕ → ℕ → ℕ) (s : SourceProcessor) (c : MidProcessor) : Type 0 where
  pub place : c.place ≡ begins s.function s.block s.index
  pub matches : Matches m s c

-- what others see of a processor is the same in both
pub record Alike (s : SourceProcessor) (c : MidProcessor) : Type 0 where
  pub status : c.status ≡ s.status
  pub seen : c.seen ≡ s.seen
  pub pending : c.pending ≡ s.pending

-- what an Act leaves: the same objects and the same output, and a processor that is alike and, where it goes on, stands at the next piece
pub record Leaves (m : Module) (begins : ℕ → ℕ → ℕ → ℕ) (t : Deed) (d : MidDeed) : Type 0 where
  pub numbers : d.numbers ≡ t.numbers
  pub output : d.output ≡ t.output
  pub alike : Alike t.processor d.processor
  pub stands : t.processor.status ≡ Running → Stands m begins t.processor d.processor
  pub unseen : t.processor.status ≡ Running → d.processor.seen ≡ None

-- what a miss leaves, where there is one
abbrev pub missed_to : Bool → SourceProcessor → Option SourceProcessor
missed_to true s = Some s
missed_to false s = None

abbrev pub missed_processor : SourceProgram → Option ℕ → Option ℕ → SourceProcessor → Option SourceProcessor
missed_processor program None seen s = None
missed_processor program (Some expected) None s = None
missed_processor program (Some expected) (Some seen) s = missed_to (nat_eq expected seen) (gets (number_of_next program s) (Pair expected false) s)

abbrev pub LeavesIf : Module → (ℕ → ℕ → ℕ → ℕ) → Option SourceProcessor → Option MidProcessor → Type 0
LeavesIf m begins None None = Unit {0}
LeavesIf m begins (Some s) (Some c) = Alike s c × Stands m begins s c
LeavesIf m begins None (Some c) = ⊥
LeavesIf m begins (Some s) None = ⊥

-- the site of a line, where there is one
abbrev pub site_in : {R : Type 0} → Option (Line R) → Option Site
site_in None = None
site_in (Some line) = Some line.site

-- what is known of a source processor at instruction i
pub record Known (program : SourceProgram) (s : SourceProcessor) (numbers : ℕ → ℕ → ℕ) (i : Inst) : Type 0 where
  pub next : next_inst program s ≡ Some i
  pub running : s.status ≡ Running
  pub typed : IsTypedProcessor program.source s
  pub objects : AreTyped program.source numbers
  pub seen : (n : ℕ) → s.seen ≡ Some n → traps program s i ≡ false
  pub walk : IsOnWalk program s.function s.block s.index s.values

module _ {R : Type 0} (key : R → ℕ) (program : SourceProgram) (code : Mid R) (begins : ℕ → ℕ → ℕ → ℕ) (most base : ℕ) where
  abbrev pub ready : MidProcessor → MidProcessor
  ready c = advance key program.target code base most c

  pub record Acts (s : SourceProcessor) (c : MidProcessor) (numbers : ℕ → ℕ → ℕ) (i : Inst) : Type 0 where
    pub does : MidDeed
    pub is : act_step key program.target code base (ready c) numbers ≡ Some does
    pub leaves : Leaves program.source begins (deed program s (number_of_next program s) numbers i) does

  pub record Follows (s : SourceProcessor) (c : MidProcessor) (numbers : ℕ → ℕ → ℕ) (i : Inst) : Type 0 where
    pub acts : Acts s c numbers i
    pub looks : seen_if key program.target code base (line_at key program.target code base (ready c)) (ready c) numbers ≡ seen_by program i s numbers
    pub site : site_in (line_at key program.target code base (ready c)) ≡ Some (record { function = s.function; instruction = number_of_next program s })
    pub misses : LeavesIf program.source begins (missed_processor program (expected_by program i s) s.seen s) (missed_if key program.target code base (line_at key program.target code base (ready c)) (ready c))

  -- The contract: wherever a middle processor stands at the beginning of an instruction's code and has the numbers of the source processor, each event does to both the same
  pub record Keeps : Type 0 where
    pub follows : (s : SourceProcessor) (c : MidProcessor) (numbers : ℕ → ℕ → ℕ) (i : Inst) → Known program s numbers i → Alike s c → Stands program.source begins s c → Follows s c numbers i
