-- Jumps and branches.
use Rattle.std.proofs.Common.{◌≡◌, ℕ, zero, suc, ◌+◌, ◌-◌, ◌%◌, ◌^◌, ◌≤◌, Bool, true, false, List, [], ◌∷◌, ◌++◌, map, Option, Some, None, length, refl, sym, ap, ◌∙◌, subst, arith, slice_get}
use Rattle.std.specs.Prelude.{if◌then◌else◌, nat_eq}
use Rattle.std.proofs.lemmas.Bool.{eqb-true}
use Rattle.ax_check.specs.Accepted.{IsAccepted}
use Rattle.ax_check.specs.Laws.{AtInstructions, IsSound}
use Rattle.ax_module.specs.declared.inst.Inst.{Inst}
use Rattle.ax_module.specs.declared.inst.Inst.TheVariants as inst
use Rattle.ax_module.specs.declared.module.Block.{Block}
use Rattle.ax_module.specs.declared.operand.Operand.{Operand}
use Rattle.ax_module.specs.declared.types.Ty.TheVariants.{I1}
use Rattle.ax_source_run.specs.SourceAccess.{Deed}
use Rattle.ax_source_run.specs.SourceEvent.{expected_by, number_of_next, seen_by}
use Rattle.ax_source_run.specs.SourceInstructions.{changed, deed, deed_of, entered, first_number, insts_of_block, is_unreachable, phi_count, phis_set, pointers_of}
use Rattle.ax_source_run.specs.SourcePointers.{blocks_of}
use Rattle.ax_source_run.specs.SourceState.{SourceProcessor, SourceProgram}
use Rattle.ax_source_run.specs.SourceValues.{operand_of}
use Rattle.ax_mid.specs.declared.code.Line.{Line}
use Rattle.ax_mid.specs.declared.code.Mid.{Mid}
use Rattle.ax_mid.specs.declared.instruction.MidInst.{MidInst}
use Rattle.ax_mid.specs.declared.instruction.MidInst.TheVariants as line
use Rattle.ax_mid.specs.declared.registers.Virtual.{Virtual}
use Rattle.ax_mid.specs.Machine as machine
use Rattle.ax_mid.specs.Machine.{act_if, act_step, advance, behind_label, missed_by, private_step, shared_step, stepped}
use Rattle.ax_mid.specs.Numbers.{selected}
use Rattle.ax_mid.specs.Processor as mid
use Rattle.ax_mid.specs.Processor.{MidDeed, MidProcessor, unseen}
use Rattle.ax_rules.specs.Parts.{operands_of}
use Rattle.ax_typed.proofs.Facts.{operand_at}
use Rattle.ax_typed.proofs.Standing as standing
use Rattle.ax_selected.specs.Contract.{Alike, Follows, Known, Leaves, Stands, ready}
use Rattle.ax_selected.specs.Edges.{coming_in, edge_lines, set_phis}
use Rattle.ax_selected.specs.Laid.{HasAt, IsLaid}
use Rattle.ax_selected.specs.Matches.{HoldsAllocas, HoldsValues}
use Rattle.ax_selected.specs.Operands.{low_into}
use Rattle.ax_selected.specs.Registers.{block_label, first_label, key, second_label, virtual}
use Rattle.ax_selected.specs.Selected.{acting, branch_lines, piece, silent, straight}
use Rattle.ax_selected.proofs.Computes.{IsCalm, calm_follows, has, held, low_fetched}
use Rattle.ax_selected.proofs.Moves.{ArePhis, Rest, comes_in, sets}
use Rattle.ax_selected.proofs.Registers.{half_below, no_temps, temp, values_temps}
use Rattle.ax_selected.proofs.Straight.{comes, has_back, has_front, one, runs_both}

module _ (program : SourceProgram) (accepted : IsAccepted program) (law : AtInstructions IsSound) (code : Mid Virtual) (begins : ℕ → ℕ → ℕ → ℕ) (laid : IsLaid program code.lines begins) (most base : ℕ) (enough : 512 ≤ most) (s : SourceProcessor) (c : MidProcessor) (numbers : ℕ → ℕ → ℕ) (alike : Alike s c) (here : Stands program.source begins s c) where
  abbrev k : ℕ
  k = number_of_next program s

  abbrev f : ℕ
  f = s.function

  abbrev blocks : List Block
  blocks = blocks_of program.source s.function

  -- ---- an edge, from where its lines begin
  abbrev phis : ℕ → List Inst
  phis d = insts_of_block blocks d

  -- what is known of an edge to block d
  pub record IsEdge (d : ℕ) : Type 0 where
    pub phis : ArePhis program.source f s.block (first_number blocks d) (insts_of_block blocks d)
    pub few : length (edge_lines f blocks s.block d).silent ≤ 300
    -- the block has an instruction
    pub number : ℕ
    pub inst : Inst
    pub some : slice_get (insts_of_block blocks d) number ≡ Some inst

  record Edge (d : ℕ) (x : MidProcessor) (left : ℕ) : Type 0 where
    to : MidProcessor
    way : advance key program.target code base left x ≡ to
    line : slice_get code.lines to.place ≡ Some (acting f k (edge_lines f blocks s.block d).last)
    values : HoldsValues program.source f (phis_set s.block (first_number blocks d) s.values (insts_of_block blocks d) s.values) to.regs
    rest : Rest x to

  edge : (d : ℕ) (x : MidProcessor) (left : ℕ) → IsEdge d → 300 ≤ left → HoldsValues program.source f s.values x.regs → HasAt code.lines x.place (straight f k (edge_lines f blocks s.block d)) → Edge d x left
  edge d x left is many h at =
      let first = first_number blocks d in
      let a = comes_in program code base f s.block s.values (insts_of_block blocks d) first x h is.phis in
      let b = sets program code base f s.block s.values (insts_of_block blocks d) first s.values a.to a.values is.phis a.came in
      let few = is.few in
      let p = comes program.target code base f k (edge_lines f blocks s.block d) x b.to left (omega (arith, few, many)) at (runs_both program.target code base (coming_in s.block first (insts_of_block blocks d)) (set_phis first (insts_of_block blocks d)) x a.to b.to a.runs b.runs) in
      record { to = b.to; way = p.ready; line = p.line; values = b.holds; rest = record { frame = b.rest.frame ∙ a.rest.frame; status = b.rest.status ∙ a.rest.status; seen = b.rest.seen ∙ a.rest.seen; pending = b.rest.pending ∙ a.rest.pending } }

  module _ (i : Inst) (known : Known program s numbers i) where
    -- the jump at an edge's end
    edge_follows : (d : ℕ) → IsEdge d → (x : MidProcessor) (left : ℕ) → Edge d x left → ready key program code begins most base c ≡ advance key program.target code base left x → Rest c x
        → deed program s k numbers i ≡ changed program s (entered blocks d s) numbers → IsCalm program accepted law code begins laid most base s c numbers i known alike here → Follows key program code begins most base s c numbers i
    unfolding private_step shared_step machine.seen_by missed_by
    edge_follows d is x left e way rest does calm =
        let z = e.to in
        let there = begins f d (phi_count (insts_of_block blocks d)) in
        let y : MidProcessor = record z { place = behind_label key code.lines (block_label f (first_number blocks d)) 0 } in
        let w : MidDeed = record { processor = unseen y; numbers = numbers; output = None } in
        let ready_is = way ∙ e.way in
        let leaves : Leaves program.source begins (changed program s (entered blocks d s) numbers) w = record {
          numbers = refl;
          output = refl;
          alike = record { status = e.rest.status ∙ (rest.status ∙ alike.status); seen = refl; pending = e.rest.pending ∙ (rest.pending ∙ alike.pending) };
          stands = λ r. record {
            place = sym (laid.blocks f d is.number is.inst is.some);
            matches = record { values = e.values; allocas = subst (λ (fr : ℕ → ℕ). HoldsAllocas program.source f s.allocas fr) (sym (e.rest.frame ∙ rest.frame)) here.matches.allocas };
          };
          unseen = λ r. refl;
        } in
        calm_follows program accepted law code begins laid most base s c numbers i known alike here (edge_lines f blocks s.block d).last z calm (record { seen = λ u ns. refl; missed = λ u. refl }) ready_is e.line
        (record {
          does = w;
          is = ap (λ (u : MidProcessor). act_step key program.target code base u numbers) ready_is ∙ ap (λ (o : Option (Line Virtual)). act_if key program.target code base o z numbers) e.line;
          leaves = subst (λ (t : Deed). Leaves program.source begins t w) (sym does) leaves;
        })

  pub jump_follows : (d : ℕ) → (known : Known program s numbers (inst.Jump d)) → IsEdge d → Follows key program code begins most base s c numbers (inst.Jump d)
  unfolding piece deed_of is_unreachable pointers_of seen_by expected_by
  jump_follows d known is =
      let at = has program accepted law code begins laid most base s c numbers (inst.Jump d) known alike here in
      edge_follows (inst.Jump d) known d is c most (edge d c most is (omega (arith, enough)) here.matches.values at) refl (record { frame = refl; status = refl; seen = refl; pending = refl }) refl (record { seen = refl; expected = refl })

  -- ---- a branch to one block from both sides goes there whatever the test
  one_way : (b : Bool) (d e : ℕ) → d ≡ e → (if b then e else d) ≡ d
  one_way true d e same = sym same
  one_way false d e same = refl

  pub joined_follows : (v : Operand) (d e : ℕ) → (known : Known program s numbers (inst.Branch v d e)) → nat_eq d e ≡ true → IsEdge d → Follows key program code begins most base s c numbers (inst.Branch v d e)
  unfolding piece deed_of is_unreachable pointers_of seen_by expected_by
  joined_follows v d e known same is =
      let i = inst.Branch v d e in
      let own : Bool → List (Line Virtual) = λ q. if q then straight f k (edge_lines f blocks s.block d) else branch_lines f k v (edge_lines f blocks s.block d) (edge_lines f blocks s.block e) in
      let at : HasAt code.lines c.place (straight f k (edge_lines f blocks s.block d)) = subst (λ (q : Bool). HasAt code.lines c.place (own q)) same (has program accepted law code begins laid most base s c numbers i known alike here) in
      edge_follows i known d is c most (edge d c most is (omega (arith, enough)) here.matches.values at) refl (record { frame = refl; status = refl; seen = refl; pending = refl })
      (ap (λ (to : ℕ). changed program s (entered blocks to s) numbers) (one_way (nat_eq (operand_of I1 v s.values) 0) d e (eqb-true d e same))) (record { seen = refl; expected = refl })

  -- ---- a branch: each edge has a label of its own
  module _ (v : Operand) (d e : ℕ) (known : Known program s numbers (inst.Branch v d e)) (apart : nat_eq d e ≡ false) (is_d : IsEdge d) (is_e : IsEdge e) where
    abbrev i : Inst
    i = inst.Branch v d e

    abbrev test : ℕ
    test = operand_of I1 v s.values

    abbrev front : List (MidInst Virtual)
    front = low_into 0 I1 v ∷ line.Branch (virtual 0) (first_label f k) (second_label f k) ∷ line.Label (first_label f k) ∷ []

    abbrev lines_d : List (Line Virtual)
    lines_d = straight f k (edge_lines f blocks s.block d)

    abbrev behind : List (Line Virtual)
    behind = silent f k (line.Label (second_label f k)) ∷ straight f k (edge_lines f blocks s.block e)

    at : HasAt code.lines c.place (map (silent f k) front ++ lines_d ++ behind)
    unfolding piece
    at = subst (λ (q : Bool). HasAt code.lines c.place (if q then lines_d else map (silent f k) front ++ lines_d ++ behind)) apart (has program accepted law code begins laid most base s c numbers i known alike here)

    abbrev x : MidProcessor
    x = mid.gets 0 (test % 2 ^ 64) c

    fetched : private_step key program.target code base (low_into 0 I1 v) c ≡ Some x
    unfolding operands_of
    fetched = low_fetched program code base 0 I1 v s.values c (held program accepted law code begins laid most base s c numbers i known alike here 0 I1 v refl)

    -- behind the label that the test chooses
    abbrev went : ℕ → MidProcessor
    went place = record x { place = place }

    goes : (b : Bool) (place : ℕ) → nat_eq test 0 ≡ b → behind_label key code.lines (if b then second_label f k else first_label f k) 0 ≡ place → ready key program code begins most base c ≡ advance key program.target code base (most - 2) (went place)
    unfolding private_step operands_of
    goes b place eq label =
        let typed = operand_at program accepted law s known.typed i (standing.stands program accepted law s i known.next) 0 I1 v refl in
        let full : test % 2 ^ 64 ≡ test = (half_below test (omega (arith, typed))).0 in
        let step : private_step key program.target code base (line.Branch (virtual 0) (first_label f k) (second_label f k)) x ≡ Some (went place) =
        ap (λ (n : ℕ). Some (went (behind_label key code.lines (selected n (first_label f k) (second_label f k)) 0))) full
        ∙ (ap (λ (y : Bool). Some (went (behind_label key code.lines (if y then second_label f k else first_label f k) 0))) eq ∙ ap (λ (p : ℕ). Some (went p)) label) in
        two_steps most (omega (arith, enough)) step
      where
        two_steps : (n : ℕ) → 2 ≤ n → private_step key program.target code base (line.Branch (virtual 0) (first_label f k) (second_label f k)) x ≡ Some (went place) → advance key program.target code base n c ≡ advance key program.target code base (n - 2) (went place)
        two_steps zero le step = absurd (omega (arith, le))
        two_steps (suc zero) le step = absurd (omega (arith, le))
        two_steps (suc (suc n)) le step =
            one program.target code base f k (low_into 0 I1 v) c x (suc n) at.0 fetched
            ∙ (one program.target code base f k (line.Branch (virtual 0) (first_label f k) (second_label f k)) x (went place) n at.1.0 step
            ∙ ap (λ (j : ℕ). advance key program.target code base j (went place)) (omega arith))

    held_x : HoldsValues program.source f s.values x.regs
    held_x = values_temps program.source f s.values c.regs x.regs (temp c.regs c.regs 0 (test % 2 ^ 64) (omega arith) (no_temps c.regs)) here.matches.values

    to_d : nat_eq test 0 ≡ false → Follows key program code begins most base s c numbers i
    unfolding deed_of is_unreachable pointers_of seen_by expected_by
    to_d eq =
        let place = c.place + 1 + 1 + 1 in
        let label = laid.labels (c.place + 1 + 1) (first_label f k) (silent f k (line.Label (first_label f k))) at.1.1.0 refl in
        let more : HasAt code.lines place (lines_d ++ behind) = at.1.1.1 in
        edge_follows i known d is_d (went place) (most - 2) (edge d (went place) (most - 2) is_d (omega (arith, enough)) held_x (has_front code.lines lines_d behind place more)) (goes false place eq label)
        (record { frame = refl; status = refl; seen = refl; pending = refl })
        (ap (λ (b : Bool). changed program s (entered blocks (if b then e else d) s) numbers) eq) (record { seen = refl; expected = refl })

    to_e : nat_eq test 0 ≡ true → Follows key program code begins most base s c numbers i
    unfolding deed_of is_unreachable pointers_of seen_by expected_by
    to_e eq =
        let second = c.place + 1 + 1 + 1 + length lines_d in
        let more = has_back code.lines lines_d behind (c.place + 1 + 1 + 1) at.1.1.1 in
        let label = laid.labels second (second_label f k) (silent f k (line.Label (second_label f k))) more.0 refl in
        edge_follows i known e is_e (went (second + 1)) (most - 2) (edge e (went (second + 1)) (most - 2) is_e (omega (arith, enough)) held_x more.1) (goes true (second + 1) eq label)
        (record { frame = refl; status = refl; seen = refl; pending = refl })
        (ap (λ (b : Bool). changed program s (entered blocks (if b then e else d) s) numbers) eq) (record { seen = refl; expected = refl })

    by : (b : Bool) → nat_eq test 0 ≡ b → Follows key program code begins most base s c numbers i
    by true eq = to_e eq
    by false eq = to_d eq

    pub branch_follows : Follows key program code begins most base s c numbers i
    branch_follows = by (nat_eq test 0) refl
