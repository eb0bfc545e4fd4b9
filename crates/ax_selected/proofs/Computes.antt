-- An instruction whose code computes its result.
use Rattle.std.proofs.Common.{◌≡◌, ℕ, ◌+◌, ◌/◌, ◌%◌, ◌^◌, ◌≤◌, false, not, Option, Some, None, length, refl, sym, ap, ◌∙◌, subst, arith, slice_get}
use Rattle.std.proofs.lemmas.Bool.{true≢false}
use Rattle.ax_module.specs.declared.inst.Inst.{Inst}
use Rattle.ax_module.specs.declared.operand.Operand.{Operand}
use Rattle.ax_module.specs.declared.operand.Operand.TheVariants as operand
use Rattle.ax_module.specs.declared.types.Ty.{Ty}
use Rattle.ax_check.specs.Accepted.{IsAccepted}
use Rattle.ax_check.specs.Laws.{AtInstructions, IsSound}
use Rattle.ax_source_run.specs.SourceAccess.{Deed, gets}
use Rattle.ax_source_run.specs.SourceEvent.{expected_by, inst_at, inst_if, number_of_next, seen_by}
use Rattle.ax_source_run.specs.SourceInstructions.{changed, deed}
use Rattle.ax_source_run.specs.SourceState.{SourceProcessor, SourceProgram, SourceValue}
use Rattle.ax_source_run.specs.SourceValues.{number_of, operand_of}
use Rattle.ax_mid.specs.declared.code.Line.{Line}
use Rattle.ax_mid.specs.declared.code.Mid.{Mid}
use Rattle.ax_mid.specs.declared.instruction.MidInst.{MidInst}
use Rattle.ax_mid.specs.declared.registers.Virtual.{Virtual}
use Rattle.ax_mid.specs.Machine as machine
use Rattle.ax_mid.specs.Machine.{act_if, act_step, advance, line_at, missed_by, missed_if, private_step, seen_if, shared_step, stepped}
use Rattle.ax_mid.specs.Processor as mid
use Rattle.ax_mid.specs.Processor.{MidDeed, MidProcessor, unseen}
use Rattle.ax_words.specs.declared.source.SourceStatus.{SourceStatus}
use Rattle.ax_rules.specs.declared.facts.Outcome.{Outcome}
use Rattle.ax_rules.specs.declared.facts.Outcome.TheVariants as outcome
use Rattle.ax_rules.specs.declared.facts.FunctionScope.{FunctionScope}
use Rattle.ax_rules.specs.Facts.{outcome_at, scope_of}
use Rattle.ax_access_rules.specs.Mixed.{is_mistyped, is_number_of}
use Rattle.ax_rules.specs.Parts.{operands_of}
use Rattle.ax_typed.specs.Typed.{outcome_in}
use Rattle.ax_typed.proofs.Facts.{any_at, operands_are_typed}
use Rattle.ax_typed.proofs.Pointers.{outcomes}
use Rattle.ax_typed.proofs.Standing as standing
use Rattle.ax_selected.specs.Contract.{Acts, Alike, Follows, Known, Leaves, LeavesIf, Stands, missed_processor, ready, site_in}
use Rattle.ax_selected.specs.Laid.{HasAt, IsLaid, piece_of}
use Rattle.ax_selected.specs.Matches.{HoldsNumber, HoldsValue, Matches}
use Rattle.ax_selected.specs.Operands.{high_into, low_into}
use Rattle.ax_selected.specs.Pieces.{Straight}
use Rattle.ax_selected.specs.Registers.{key}
use Rattle.ax_selected.specs.Selected.{acting, straight}
use Rattle.ax_selected.proofs.Registers.{Temps, number_temps}
use Rattle.ax_selected.proofs.Straight.{Runs, comes, straight_length}

-- an operand's number is held, where it is a result
abbrev pub Held : Operand → (ℕ → SourceValue) → (ℕ → ℕ) → Type 0
Held (operand.Value r) values regs = HoldsNumber regs r (number_of (values r))
Held (operand.Const n) values regs = Unit {0}
Held (operand.Wide n) values regs = Unit {0}
Held (operand.Param p) values regs = Unit {0}

pub held_temps : (v : Operand) (values : ℕ → SourceValue) (old new : ℕ → ℕ) → Temps old new → Held v values old → Held v values new
held_temps (operand.Value r) values old new t h = number_temps old new r (number_of (values r)) t h
held_temps (operand.Const n) values old new t h = tt
held_temps (operand.Wide n) values old new t h = tt
held_temps (operand.Param p) values old new t h = tt

module _ (program : SourceProgram) (code : Mid Virtual) (base : ℕ) where
  abbrev steps : MidInst Virtual → MidProcessor → Option MidProcessor
  steps = private_step key program.target code base

  -- the halves of an operand, into a register
  pub low_fetched : (r : ℕ) (ty : Ty) (v : Operand) (values : ℕ → SourceValue) (c : MidProcessor) → Held v values c.regs → steps (low_into r ty v) c ≡ Some (mid.gets r (operand_of ty v values % 2 ^ 64) c)
  unfolding private_step
  low_fetched r ty (operand.Value j) values c h = ap (λ (n : ℕ). Some (mid.gets r n c)) h.low
  low_fetched r ty (operand.Const n) values c h = refl
  low_fetched r ty (operand.Wide n) values c h = refl
  low_fetched r ty (operand.Param p) values c h = refl

  pub high_fetched : (r : ℕ) (ty : Ty) (v : Operand) (values : ℕ → SourceValue) (c : MidProcessor) → Held v values c.regs → steps (high_into r ty v) c ≡ Some (mid.gets r (operand_of ty v values / 2 ^ 64) c)
  unfolding private_step
  high_fetched r ty (operand.Value j) values c h = ap (λ (n : ℕ). Some (mid.gets r n c)) h.high
  high_fetched r ty (operand.Const n) values c h = refl
  high_fetched r ty (operand.Wide n) values c h = refl
  high_fetched r ty (operand.Param p) values c h = refl

-- a line that no look and no miss is of
pub record IsPlain (program : SourceProgram) (code : Mid Virtual) (base : ℕ) (i : MidInst Virtual) : Type 0 where
  pub seen : (c : MidProcessor) (numbers : ℕ → ℕ → ℕ) → machine.seen_by key program.target code base i c numbers ≡ None
  pub missed : (c : MidProcessor) → missed_by key program.target code base i c ≡ None

module _ (program : SourceProgram) (accepted : IsAccepted program) (law : AtInstructions IsSound) (code : Mid Virtual) (begins : ℕ → ℕ → ℕ → ℕ) (laid : IsLaid program code.lines begins) (most base : ℕ) (s : SourceProcessor) (c : MidProcessor) (numbers : ℕ → ℕ → ℕ) (i : Inst) (known : Known program s numbers i) (alike : Alike s c) (here : Stands program.source begins s c) where
  abbrev k : ℕ
  k = number_of_next program s

  is : standing.Stands program accepted law s i
  is = standing.stands program accepted law s i known.next

  abbrev scope : FunctionScope
  scope = scope_of program.source is.function

  pub outcome_is : outcome_in program.source s.function k ≡ Rattle.ax_rules.specs.Facts.outcome_of i
  outcome_is = is.outcome

  number_held : (t : Ty) (r : ℕ) (o : Outcome) → not (is_number_of t o) ≡ false → HoldsValue o c.regs r (s.values r) → HoldsNumber c.regs r (number_of (s.values r))
  number_held t r (outcome.Number u) e h = h
  number_held t r (outcome.Pair u) e h = absurd (true≢false e)
  number_held t r (outcome.Alloca x) e h = absurd (true≢false e)
  number_held t r (outcome.Gep b elem u index) e h = absurd (true≢false e)
  number_held t r outcome.Nothing e h = absurd (true≢false e)

  held_by : (t : Ty) (v : Operand) → is_mistyped scope (t, v) ≡ false → Held v s.values c.regs
  held_by t (operand.Value r) e = number_held t r (outcome_at scope r) e (subst (λ (o : Outcome). HoldsValue o c.regs r (s.values r)) (sym (outcomes program accepted law s known.typed i is r)) (here.matches.values r))
  held_by t (operand.Const n) e = tt
  held_by t (operand.Wide n) e = tt
  held_by t (operand.Param p) e = tt

  -- operand j of the instruction
  pub held : (j : ℕ) (t : Ty) (v : Operand) → slice_get (operands_of i) j ≡ Some (t, v) → Held v s.values c.regs
  held j t v e = held_by t v (any_at (is_mistyped scope) (operands_of i) j (t, v) (operands_are_typed program accepted law s known.typed i is) e)

  there : inst_at program s ≡ Some i
  there = subst (λ (st : SourceStatus). inst_if program st s ≡ Some i) known.running known.next

  pub has : HasAt code.lines c.place (piece_of program s i)
  has = subst (λ (p : ℕ). HasAt code.lines p (piece_of program s i)) (sym here.place) (laid.has s i there)

  pub next_place : begins s.function s.block (s.index + 1) ≡ c.place + length (piece_of program s i)
  next_place = laid.next s i there ∙ ap (λ (p : ℕ). p + length (piece_of program s i)) (sym here.place)

  -- a look and a miss, of an instruction and of a line that have none
  pub record IsCalm : Type 0 where
    pub seen : seen_by program i s numbers ≡ None
    pub expected : expected_by program i s ≡ None

  pub calm_follows : (last : MidInst Virtual) (x : MidProcessor) → IsCalm → IsPlain program code base last → ready key program code begins most base c ≡ x → slice_get code.lines x.place ≡ Some (acting s.function k last) → Acts key program code begins most base s c numbers i → Follows key program code begins most base s c numbers i
  calm_follows last x calm plain at line acts = record {
    acts = acts;
    site = ap (λ (y : MidProcessor). site_in (line_at key program.target code base y)) at ∙ ap site_in line;
    looks = ap (λ (y : MidProcessor). seen_if key program.target code base (line_at key program.target code base y) y numbers) at ∙ ap (λ (o : Option (Line Virtual)). seen_if key program.target code base o x numbers) line ∙ plain.seen x numbers ∙ sym calm.seen;
    misses =
        let none = ap (λ (y : MidProcessor). missed_if key program.target code base (line_at key program.target code base y) y) at ∙ ap (λ (o : Option (Line Virtual)). missed_if key program.target code base o x) line ∙ plain.missed x in
        subst (λ (o : Option ℕ). LeavesIf program.source begins (missed_processor program o s.seen s) (missed_if key program.target code base (line_at key program.target code base (ready key program code begins most base c)) (ready key program code begins most base c))) (sym calm.expected)
        (subst (λ (o : Option MidProcessor). LeavesIf program.source begins None o) (sym none) tt);
  }

  -- the result of an instruction whose last line touches registers alone
  pub record Gives (v : SourceValue) (st : Straight) (x d : MidProcessor) : Type 0 where
    pub piece : piece_of program s i ≡ straight s.function k st
    pub does : deed program s k numbers i ≡ changed program s (gets k v s) numbers
    pub calm : IsCalm
    pub few : length st.silent ≤ most
    pub runs : Runs program.target code base st.silent c x
    pub last : private_step key program.target code base st.last x ≡ Some d
    pub plain : IsPlain program code base st.last
    pub place : d.place ≡ x.place + 1
    pub status : d.status ≡ c.status
    pub pending : d.pending ≡ c.pending
    pub matches : Matches program.source (gets k v s) d

  pub gives : (v : SourceValue) (st : Straight) (x d : MidProcessor) → Gives v st x d → Follows key program code begins most base s c numbers i
  gives v st x d g =
      let at = comes program.target code base s.function k st c x most g.few (subst (HasAt code.lines c.place) g.piece has) g.runs in
      let act : act_step key program.target code base (ready key program code begins most base c) numbers ≡ Some (record { processor = unseen d; numbers = numbers; output = None }) =
      ap (λ (y : MidProcessor). act_step key program.target code base y numbers) at.ready
      ∙ (ap (λ (o : Option (Line Virtual)). act_if key program.target code base o x numbers) at.line
      ∙ ap (λ (o : Option MidProcessor). stepped key program.target code base o (shared_step key program.target code base st.last x numbers) numbers) g.last) in
      let leaves : Leaves program.source begins (changed program s (gets k v s) numbers) (record { processor = unseen d; numbers = numbers; output = None }) = record {
        numbers = refl;
        output = refl;
        alike = record { status = g.status ∙ alike.status; seen = refl; pending = g.pending ∙ alike.pending };
        stands = λ r. record {
          place = g.place ∙ ap (λ (p : ℕ). p + 1) at.place ∙ place_by (length st.silent) (length (piece_of program s i)) (ap length g.piece ∙ straight_length s.function k st) ∙ sym next_place;
          matches = record { values = g.matches.values; allocas = g.matches.allocas };
        };
        unseen = λ r. refl;
      } in
      calm_follows st.last x g.calm g.plain at.ready at.line
      (record { does = record { processor = unseen d; numbers = numbers; output = None }; is = act; leaves = subst (λ (t : Deed). Leaves program.source begins t (record { processor = unseen d; numbers = numbers; output = None })) (sym g.does) leaves })
    where
      place_by : (n l : ℕ) → l ≡ n + 1 → c.place + n + 1 ≡ c.place + l
      place_by n l e = omega (arith, e)
