-- The code of an atomic instruction of the way Inline goes forward alone: over a jump, to a trap, or over the trap.
use Rattle.std.proofs.Common.{◌≡◌, ℕ, zero, suc, ◌+◌, ◌-◌, ◌%◌, ◌<◌, ◌≤◌, ◌^◌, Bool, true, false, List, [], ◌∷◌, ◌++◌, map, Option, Some, refl, sym, ap, ◌∙◌, subst, arith, append_assoc, slice_get}
use Rattle.std.specs.Prelude.{if◌then◌else◌, pos}
use Rattle.std.proofs.lemmas.Bool.{true≢false}
use Rattle.ax_source_run.specs.SourceState.{SourceProgram}
use Rattle.ax_target.specs.declared.target.Target.{Target}
use Rattle.ax_isa.specs.declared.effects.Effect.{Effect}
use Rattle.ax_isa.specs.declared.effects.Effect.TheVariants as effect
use Rattle.ax_isa.specs.declared.images.Image.{Image}
use Rattle.ax_isa.specs.Numbers.{displaced}
use Rattle.ax_isa.specs.Processor.{Processor}
use Rattle.ax_isa.specs.Run.{at_code}
use Rattle.ax_agree.specs.Rows.{StaysInline}
use Rattle.ax_rv.specs.declared.instructions.Condition.TheVariants as condition
use Rattle.ax_rv.specs.declared.instructions.RvInstr.{RvInstr}
use Rattle.ax_rv.specs.declared.instructions.RvInstr.TheVariants as rv
use Rattle.ax_rv.specs.Arithmetic.{holds}
use Rattle.ax_rv.specs.Instructions.{effect_of, read, rv_kind}
use Rattle.ax_mid.specs.declared.code.Line.{Line}
use Rattle.ax_mid.specs.declared.instruction.MidInst.{MidInst}
use Rattle.ax_mid.specs.declared.instruction.MidInst.TheVariants as mid
use Rattle.ax_mid.specs.declared.registers.Virtual.{Virtual}
use Rattle.ax_mid.specs.WellFormed.{LabelsStandOnce}
use Rattle.ax_emit_rv.specs.Code.{jump_to}
use Rattle.ax_emit_rv.proofs.Ends.{jump_goes}
use Rattle.ax_selected.specs.Operations.{Operation, operation_in}
use Rattle.ax_selected.specs.Registers.{first_label, key, second_label}
use Rattle.ax_selected.specs.Selected.{acting, selected, silent}
use Rattle.ax_marks_rv.proofs.Chunks.{chunks}
use Rattle.ax_marks_rv.proofs.Codes.{IsCalm, IsLast, IsUnmarked, branch_before, branch_size, label_size, last_placed, marks, trap_size}
use Rattle.ax_marks_rv.proofs.Expanded.{expanded}
use Rattle.ax_marks_rv.proofs.Inside.{IsStill}
use Rattle.ax_marks_rv.proofs.Items.{Each, Placed, get_among, laid, placed_at, placed_each, total, total_both}
use Rattle.ax_marks_rv.proofs.Laying.{all_code, behind, code, code_lines, lines_total, placed_guard, placed_lines, placed_silent, placed_whole, places, room, size, sizes}
use Rattle.ax_marks_rv.proofs.Ranges.{Chunk, lines_of}
use Rattle.ax_marks_rv.proofs.Rows.{bare_guard}
use Rattle.ax_marks_rv.proofs.Shapes.{Forked, Guarded, Levels, Shape, Whole, guard, whole}
use Rattle.ax_marks_rv.proofs.Targets.{aim, own_target, round}

module _ (image : Image RvInstr) (last place : ℕ) where
  abbrev Stays : Effect → Type 0
  Stays e = StaysInline rv_kind image last place e

  -- no instruction between two places has a mark
  abbrev IsClear : ℕ → ℕ → Type 0
  IsClear a b = (m : ℕ) (i : RvInstr) → a < m → m < b → at_code image.code m ≡ Some i → marks i ≡ []

  still_stays : (x : RvInstr) (r : Processor) → IsStill x → Stays (effect_of x r)
  still_stays (rv.Jump d) r h = absurd (true≢false h)
  still_stays (rv.Call routine p) r h = absurd (true≢false h)
  still_stays rv.Ret r h = absurd (true≢false h)
  still_stays (rv.Branch test a b d) r h = absurd (true≢false h)
  still_stays _ r h = tt

  jump_stays : (t : ℕ) (r : Processor) → r.place ≡ place → place < 2 ^ 32 → t < 2 ^ 32 → place < t → t ≤ last + 1 → IsClear place t → Stays (effect_of (jump_to place t) r)
  jump_stays t r at low high forward inside clear = subst Stays (sym (jump_goes place t r at low high)) (forward, inside, clear)

  turn_stays : (r : Processor) → r.place ≡ place → place < 2 ^ 32 → place + 2 ≤ last + 1 → IsClear place (place + 2) → Stays (effect_of (rv.Branch condition.NotEqual 5 0 (pos 2)) r)
  turn_stays r at low inside clear = by (holds condition.NotEqual (read 5 r) (read 0 r))
    where
      there : (r.place + 2) % 2 ^ 64 ≡ place + 2
      there = omega (arith, at, low)

      by : (t : Bool) → Stays (if t then effect.Jump (displaced r.place (pos 2)) else effect.Nop)
      by true = subst (λ (q : ℕ). Stays (effect.Jump q)) (sym there) (omega arith, inside, clear)
      by false = tt

module _ (program : SourceProgram) (depth : ℕ) (target : Target) (image : Image RvInstr) (code_is : image.code ≡ all_code program depth target) (once : LabelsStandOnce (selected program)) where
  abbrev sized : Line Virtual → ℕ
  sized line = size program depth target line

  abbrev wide : Chunk Virtual → ℕ
  wide c = room program depth target c

  module _ (before : List (Chunk Virtual)) (c : Chunk Virtual) (after : List (Chunk Virtual)) (is : chunks program ≡ before ++ (c ∷ after)) (few : 1 + total wide (chunks program) < 2 ^ 32) (f k : ℕ) where
    abbrev start : ℕ
    start = 1 + total wide before

    abbrev end : ℕ
    end = start + wide c - 1

    -- where lines of the piece stand in the code
    pub at_lines : (xs ys zs : List (Line Virtual)) → c.lines ≡ xs ++ (ys ++ zs) → (m j : ℕ) → m ≡ start + total sized xs + j → j < total sized ys → at_code image.code m ≡ slice_get (laid (code program depth target) sized (start + total sized xs) ys) j
    at_lines xs ys zs e zero j is_at less = absurd (omega (arith, is_at))
    at_lines xs ys zs e (suc m) j is_at less =
        let ls = lines_of before in
        let whole_is : code_lines program depth target ≡ (ls ++ xs) ++ (ys ++ (zs ++ lines_of after)) =
        round program depth target before c after is
        ∙ (ap (λ (own : List (Line Virtual)). ls ++ (own ++ lines_of after)) e
        ∙ (ap (λ (own : List (Line Virtual)). ls ++ own) (append_assoc xs (ys ++ zs) (lines_of after) ∙ ap (λ (own : List (Line Virtual)). xs ++ own) (append_assoc ys zs (lines_of after)))
        ∙ sym (append_assoc ls xs (ys ++ (zs ++ lines_of after))))) in
        let both = total_both sized ls xs in
        let same = lines_total program depth target before in
        let index : m ≡ total sized (ls ++ xs) + j = omega (arith, is_at, both, same) in
        let there : 1 + total sized (ls ++ xs) ≡ start + total sized xs = omega (arith, both, same) in
        ap (λ (l : List RvInstr). slice_get l m) code_is
        ∙ (ap (λ (l : List (Line Virtual)). slice_get (laid (code program depth target) sized 1 l) m) whole_is
        ∙ (ap (slice_get (laid (code program depth target) sized 1 ((ls ++ xs) ++ (ys ++ (zs ++ lines_of after))))) index
        ∙ (get_among (code program depth target) sized (sizes program depth target) 1 (ls ++ xs) ys (zs ++ lines_of after) j less
        ∙ ap (λ (at : ℕ). slice_get (laid (code program depth target) sized at ys) j) there)))

    -- an instruction at a place stays in the piece
    abbrev pub StaysAt : ℕ → RvInstr → Type 0
    StaysAt place x = place < 2 ^ 32 → (r : Processor) → r.place ≡ place → StaysInline rv_kind image end place (rv_kind.effect_of x r)

    still_at : (place : ℕ) (x : RvInstr) → IsStill x → StaysAt place x
    still_at place x h low r at = still_stays image end place x r h

    calm_at : (place : ℕ) (x : RvInstr) → IsCalm false x → StaysAt place x
    calm_at place x h = still_at place x h.0

    -- the code of its operation leads nowhere
    abbrev pub IsStraight : Option Operation → Type 0
    IsStraight o = (own : Operation) → o ≡ Some own → Each IsStill (expanded target own.op own.width own.order own.weak)

    whole_at : (at : ℕ) (js : List (MidInst Virtual)) (last : MidInst Virtual) → Levels false js → IsLast false false f last → IsStraight (operation_in last) → Placed StaysAt at (laid (code program depth target) sized at (whole f k js last))
    unfolding operation_in
    whole_at at js last h g straight =
        let there = at + total sized (map (silent f k) js) in
        placed_whole program depth target StaysAt false calm_at f k at js last h
        (last_placed key depth (behind program depth target) target StaysAt false false f (places program depth target) there last g
        (record {
          still = still_at;
          jumps = λ m goes. absurd (true≢false (sym goes));
          returns = λ goes. absurd (true≢false (sym goes));
          operates = λ o width order weak address args results same p from to.
              placed_each StaysAt IsStill still_at p (expanded target o width order weak) (straight (record { op = o; width = width; order = order; weak = weak }) (ap operation_in same));
        }))

    pub shape_stays : (o : Option Operation) → IsStraight o → Shape f k false false o c.lines → Placed StaysAt start (laid (code program depth target) sized start c.lines)
    shape_stays o straight (Whole js last a b d e) = subst (λ (l : List (Line Virtual)). Placed StaysAt start (laid (code program depth target) sized start l)) (sym e) (whole_at start js last a b (subst IsStraight (sym d) straight))
    shape_stays o straight (Forked head test ks m js n a b d goes none e) = absurd (true≢false (sym goes))
    shape_stays o straight (Guarded js test ks last a b d g e) =
        subst (λ (l : List (Line Virtual)). Placed StaysAt start (laid (code program depth target) sized start l)) (sym e)
        (placed_lines program depth target StaysAt start own (guard f k test ++ rest) (placed_silent program depth target StaysAt false calm_at f k start js a)
        (placed_guard program depth target StaysAt false calm_at f k at test rest (record { turn = turns; low = falls; high = rises }) (λ there same. whole_at there ks last b d (subst IsStraight (sym g) straight))))
      where
        own : List (Line Virtual)
        own = map (silent f k) js

        rest : List (Line Virtual)
        rest = whole f k ks last

        turn : Line Virtual
        turn = silent f k (mid.Branch test (second_label f k) (first_label f k))

        first : Line Virtual
        first = silent f k (mid.Label (first_label f k))

        trap : Line Virtual
        trap = acting f k mid.Trap

        second : Line Virtual
        second = silent f k (mid.Label (second_label f k))

        at : ℕ
        at = start + total sized own

        n : ℕ
        n = branch_before key depth (behind program depth target) target test

        long : total sized c.lines ≡ total sized own + total sized (guard f k test ++ rest)
        long = ap (λ (l : List (Line Virtual)). total sized l) e ∙ total_both sized own (guard f k test ++ rest)

        turn_is : sized turn ≡ n + 3
        turn_is = branch_size key depth (behind program depth target) target test (second_label f k) (first_label f k)

        first_is : sized first ≡ 0
        first_is = label_size key depth (behind program depth target) target (first_label f k)

        trap_is : sized trap ≡ 1
        trap_is = trap_size key depth (behind program depth target) target

        second_is : sized second ≡ 0
        second_is = label_size key depth (behind program depth target) target (second_label f k)

        -- no instruction up to behind the trap has a mark
        clear : (m : ℕ) (i : RvInstr) → at ≤ m → m < at + n + 4 → at_code image.code m ≡ Some i → marks i ≡ []
        clear m i from to get =
            let m_is : m ≡ at + (m - at) = omega (arith, from) in
            let less : m - at < total sized (guard f k test) = omega (arith, from, to, turn_is, first_is, trap_is, second_is) in
            let there = at_lines own (guard f k test) rest e m (m - at) m_is less in
            placed_at IsUnmarked at (laid (code program depth target) sized at (guard f k test)) (m - at) i (bare_guard program depth target f k at test) (sym there ∙ get)

        inside : at + n + 4 ≤ end + 1
        inside = omega (arith, long, turn_is, first_is, trap_is, second_is)

        small : at + n + 4 < 2 ^ 32
        small = (let all_long = ap (λ (cs : List (Chunk Virtual)). total wide cs) is ∙ total_both wide before (c ∷ after) in omega (arith, inside, few, all_long, long, turn_is))

        -- where its labels stand
        first_at : aim program depth target (first_label f k) ≡ at + n + 3
        first_at =
            let there = own_target program depth target once before c after is (first_label f k) (own ++ (turn ∷ [])) first (trap ∷ second ∷ rest) (e ∙ sym (append_assoc own (turn ∷ []) (first ∷ trap ∷ second ∷ rest))) refl in
            let both = total_both sized own (turn ∷ []) in
            omega (arith, there, both, turn_is)

        second_at : aim program depth target (second_label f k) ≡ at + n + 4
        second_at =
            let there = own_target program depth target once before c after is (second_label f k) (own ++ (turn ∷ first ∷ trap ∷ [])) second rest (e ∙ sym (append_assoc own (turn ∷ first ∷ trap ∷ []) (second ∷ rest))) refl in
            let both = total_both sized own (turn ∷ first ∷ trap ∷ []) in
            omega (arith, there, both, turn_is, first_is, trap_is)

        turns : StaysAt (at + n) (rv.Branch condition.NotEqual 5 0 (pos 2))
        turns low r here = turn_stays image end (at + n) r here low (omega (arith, inside)) (λ m i less more get. clear m i (omega (arith, less)) (omega (arith, more)) get)

        falls : StaysAt (at + n + 1) (jump_to (at + n + 1) (aim program depth target (first_label f k)))
        falls low r here =
            jump_stays image end (at + n + 1) (aim program depth target (first_label f k)) r here low (omega (arith, first_at, small)) (omega (arith, first_at)) (omega (arith, first_at, inside))
            (λ m i less more get. clear m i (omega (arith, less)) (omega (arith, more, first_at)) get)

        rises : StaysAt (at + n + 2) (jump_to (at + n + 2) (aim program depth target (second_label f k)))
        rises low r here =
            jump_stays image end (at + n + 2) (aim program depth target (second_label f k)) r here low (omega (arith, second_at, small)) (omega (arith, second_at)) (omega (arith, second_at, inside))
            (λ m i less more get. clear m i (omega (arith, less)) (omega (arith, more, second_at)) get)
