-- Instructions that reach an element of a native global, and those that trap.
use Rattle.std.proofs.Common.{◌≡◌, ℕ, ◌+◌, ◌≤◌, Bool, true, false, Option, Some, None, length, refl, sym, ap, ◌∙◌, subst, arith, slice_get}
use Rattle.std.specs.Prelude.{if◌then◌else◌}
use Rattle.std.proofs.lemmas.Bool.{true≢false}
use Rattle.ax_check.specs.Accepted.{IsAccepted}
use Rattle.ax_check.specs.Laws.{AtInstructions, IsSound}
use Rattle.ax_module.specs.declared.inst.Inst.{Inst}
use Rattle.ax_source_run.specs.SourceAccess.{Deed, Drains, Looks, Manner, ObjectOperation, Waits, shared_done}
use Rattle.ax_source_run.specs.SourceEvent.{expected_by, number_of_next, seen_by}
use Rattle.ax_source_run.specs.SourceInstructions.{changed, deed, deed_of, traps}
use Rattle.ax_source_run.specs.SourceState.{SourceProcessor, SourceProgram}
use Rattle.ax_mid.specs.declared.code.Line.{Line}
use Rattle.ax_mid.specs.declared.code.Mid.{Mid}
use Rattle.ax_mid.specs.declared.instruction.MidInst.{MidInst}
use Rattle.ax_mid.specs.declared.registers.Virtual.{Virtual}
use Rattle.ax_mid.specs.Machine as machine
use Rattle.ax_mid.specs.Machine.{Effect, act_by, act_if, act_step, advance, effect_of, line_at, missed_by, missed_if, private_step, seen_if, shared_step}
use Rattle.ax_tags.specs.declared.tags.Tag.TheVariants as tag
use Rattle.ax_mid.specs.Processor.{MidDeed, MidProcessor}
use Rattle.ax_words.specs.declared.source.SourceStatus.TheVariants.{Running, Trapped}
use Rattle.ax_selected.specs.Contract.{Acts, Alike, Follows, Known, Leaves, LeavesIf, Stands, missed_processor, site_in}
use Rattle.ax_selected.specs.Laid.{IsLaid, piece_of}
use Rattle.ax_selected.specs.Matches.{Matches}
use Rattle.ax_selected.specs.Pieces.{Straight}
use Rattle.ax_selected.specs.Registers.{key}
use Rattle.ax_selected.specs.Selected.{acting, straight}
use Rattle.ax_selected.proofs.Computes.{next_place}
use Rattle.ax_selected.proofs.Entering.{Enters, Traps}
use Rattle.ax_selected.proofs.Straight.{Runs, comes, straight_length}

-- the two machines do the same to an object
pub shared_same : (manner : Manner) (buffered : Bool) (bits g i : ℕ) (operation : ObjectOperation) (s : SourceProcessor) (numbers : ℕ → ℕ → ℕ) →
    shared_done manner buffered bits g i operation s numbers
    ≡ record { found = (effect_of manner buffered bits g i operation s.pending numbers).found; processor = record s { pending = (effect_of manner buffered bits g i operation s.pending numbers).pending }; numbers = (effect_of manner buffered bits g i operation s.pending numbers).numbers }
shared_same (Waits n) true bits g i operation s numbers = refl
shared_same (Waits n) false bits g i operation s numbers = refl
shared_same Looks buffered bits g i operation s numbers = refl
shared_same Drains buffered bits g i operation s numbers = refl

module _ (program : SourceProgram) (accepted : IsAccepted program) (law : AtInstructions IsSound) (code : Mid Virtual) (begins : ℕ → ℕ → ℕ → ℕ) (laid : IsLaid program code.lines begins) (most base : ℕ) (enough : 512 ≤ most) (s : SourceProcessor) (c : MidProcessor) (numbers : ℕ → ℕ → ℕ) (alike : Alike s c) (here : Stands program.source begins s c) where
  abbrev k : ℕ
  k = number_of_next program s

  module _ (i : Inst) (known : Known program s numbers i) where
    -- ---- a trap
    abbrev Missed : Option MidProcessor → Type 0
    Missed o = LeavesIf program.source begins (missed_processor program (expected_by program i s) s.seen s) o

    no_miss : (expected seen : Option ℕ) → s.seen ≡ seen → traps program s i ≡ true → missed_processor program expected seen s ≡ None
    no_miss None seen e h = refl
    no_miss (Some n) None e h = refl
    no_miss (Some n) (Some x) e h = absurd (true≢false (sym h ∙ known.seen x e))

    pub trap_follows : traps program s i ≡ true → seen_by program i s numbers ≡ None → Traps program code begins laid most base enough s.function k c → Follows key program code begins most base s c numbers i
    unfolding private_step shared_step machine.seen_by missed_by
    trap_follows trapped blind t =
        let x = t.at in
        let d : MidDeed = record { processor = record x { status = Trapped }; numbers = numbers; output = None } in
        let does : deed program s k numbers i ≡ changed program s (record s { status = Trapped }) numbers = ap (λ (b : Bool). if b then changed program s (record s { status = Trapped }) numbers else deed_of program s k numbers i) trapped in
        let leaves : Leaves program.source begins (changed program s (record s { status = Trapped }) numbers) d = record {
          numbers = refl;
          output = refl;
          alike = record { status = refl; seen = t.moved.seen ∙ alike.seen; pending = t.moved.pending ∙ alike.pending };
          stands = λ r. absurd (never r);
          unseen = λ r. absurd (never r);
        } in
        let none = ap (λ (y : MidProcessor). missed_if key program.target code base (line_at key program.target code base y) y) t.way ∙ ap (λ (o : Option (Line Virtual)). missed_if key program.target code base o x) t.line in
        record {
          acts = record {
            does = d;
            is = ap (λ (y : MidProcessor). act_step key program.target code base y numbers) t.way ∙ ap (λ (o : Option (Line Virtual)). act_if key program.target code base o x numbers) t.line;
            leaves = subst (λ (y : Deed). Leaves program.source begins y d) (sym does) leaves;
          };
          site = ap (λ (y : MidProcessor). site_in (line_at key program.target code base y)) t.way ∙ ap site_in t.line;
          looks = ap (λ (y : MidProcessor). seen_if key program.target code base (line_at key program.target code base y) y numbers) t.way ∙ ap (λ (o : Option (Line Virtual)). seen_if key program.target code base o x numbers) t.line ∙ sym blind;
          misses = subst Missed (sym none) (subst (λ (o : Option SourceProcessor). LeavesIf program.source begins o None) (sym (no_miss (expected_by program i s) s.seen refl trapped)) tt);
        }
      where
        never : Trapped ≡ Running → ⊥
        never e = cc

    -- ---- an event on an element
    -- what the source does, and where it then stands
    pub record Source (e : Effect) (t : SourceProcessor) : Type 0 where
      pub does : deed program s k numbers i ≡ record { processor = t; numbers = e.numbers; output = None }
      pub status : t.status ≡ s.status
      pub seen : t.seen ≡ None
      pub pending : t.pending ≡ e.pending
      pub function : t.function ≡ s.function
      pub block : t.block ≡ s.block
      pub index : t.index ≡ s.index + 1

    abbrev after : Effect → (ℕ → ℕ) → (ℕ → ℕ) → MidProcessor → MidProcessor
    after e regs frame x = record { place = x.place + 1; regs = regs; frame = frame; status = x.status; seen = None; pending = e.pending }

    pub record Reached (last : MidInst Virtual) (x : MidProcessor) : Type 0 where
      pub ready : advance key program.target code base most c ≡ x
      pub line : slice_get code.lines x.place ≡ Some (acting s.function k last)
      pub acts : Acts key program code begins most base s c numbers i
      pub place : x.place + 1 ≡ begins s.function s.block (s.index + 1)

    pub reaches : (rest : Straight) (address size : ℕ) → (enters : Enters program code begins laid most base enough s.function k c rest address size) → length (piece_of program s i) ≡ size
        → (x : MidProcessor) → Runs program.target code base rest.silent enters.at x → length rest.silent ≤ 16 → x.status ≡ c.status → (e : Effect) (regs frame : ℕ → ℕ)
        → act_by key program.target code base tag.Act rest.last x numbers ≡ Some (record { processor = after e regs frame x; numbers = e.numbers; output = None })
        → (t : SourceProcessor) → Source e t → Matches program.source t (after e regs frame x) → Reached rest.last x
    reaches rest address size enters long x runs few status e regs frame act t source matches =
        let n = enters.many in
        let at = comes program.target code base s.function k rest enters.at x enters.left (omega (arith, few, n)) enters.has runs in
        let way = enters.way ∙ at.ready in
        let d : MidDeed = record { processor = after e regs frame x; numbers = e.numbers; output = None } in
        let behind = place_is (length rest.silent) (length (straight s.function k rest)) size (length (piece_of program s i)) x.place enters.at.place at.place (straight_length s.function k rest) enters.place long (next_place program accepted law code begins laid most base s c numbers i known alike here) in
        let leaves : Leaves program.source begins (record { processor = t; numbers = e.numbers; output = None }) d = record {
          numbers = refl;
          output = refl;
          alike = record { status = status ∙ (alike.status ∙ sym source.status); seen = sym source.seen; pending = sym source.pending };
          stands = λ r. record {
            place = behind
                ∙ (ap (λ (f : ℕ). begins f s.block (s.index + 1)) (sym source.function) ∙ (ap (λ (b : ℕ). begins t.function b (s.index + 1)) (sym source.block) ∙ ap (begins t.function t.block) (sym source.index)));
            matches = matches;
          };
          unseen = λ r. refl;
        } in
        record {
          ready = way;
          line = at.line;
          place = behind;
          acts = record {
            does = d;
            is = ap (λ (y : MidProcessor). act_step key program.target code base y numbers) way ∙ (ap (λ (o : Option (Line Virtual)). act_if key program.target code base o x numbers) at.line ∙ act);
            leaves = subst (λ (y : Deed). Leaves program.source begins y d) (sym source.does) leaves;
          };
        }
      where
        place_is : (silent_count straight_count size piece_count there from : ℕ) → there ≡ from + silent_count → straight_count ≡ silent_count + 1 → from + straight_count ≡ c.place + size → piece_count ≡ size
            → begins s.function s.block (s.index + 1) ≡ c.place + piece_count → there + 1 ≡ begins s.function s.block (s.index + 1)
        place_is silent_count straight_count size piece_count there from a b e g h = omega (arith, a, b, e, g, h)
