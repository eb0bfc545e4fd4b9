-- Where jumps lead: to the beginning of a piece, or into their own piece.
use Rattle.std.proofs.Common.{◌≡◌, ℕ, zero, suc, ◌+◌, ◌<◌, ◌≤◌, ◌^◌, ◌⊎◌, inl, inr, Bool, true, false, List, [], ◌∷◌, ◌++◌, map, Option, Some, length, refl, sym, ap, ◌∙◌, subst, arith, append_assoc, slice_get}
use Rattle.std.specs.Prelude.{pos}
use Rattle.std.proofs.lemmas.Bool.{true≢false}
use Rattle.std.proofs.lemmas.List.{append-nil, length-append}
use Rattle.std.proofs.lemmas.Option.{none-some}
use Rattle.ax_module.specs.Kinds.{is_phi}
use Rattle.ax_source_run.specs.SourceState.{SourceProgram}
use Rattle.ax_target.specs.declared.target.Target.{Target}
use Rattle.ax_isa.specs.declared.effects.Effect.{Effect}
use Rattle.ax_isa.specs.Processor.{Processor}
use Rattle.ax_agree.specs.Rows.{LeadsTo}
use Rattle.ax_rv.specs.declared.instructions.Condition.TheVariants as condition
use Rattle.ax_rv.specs.declared.instructions.RvInstr.{RvInstr}
use Rattle.ax_rv.specs.declared.instructions.RvInstr.TheVariants as rv
use Rattle.ax_rv.specs.Instructions.{effect_of, rv_kind}
use Rattle.ax_mid.specs.declared.code.Line.{Line}
use Rattle.ax_mid.specs.declared.instruction.MidInst.{MidInst}
use Rattle.ax_mid.specs.declared.instruction.MidInst.TheVariants as mid
use Rattle.ax_mid.specs.declared.registers.Virtual.{Virtual}
use Rattle.ax_mid.specs.WellFormed.{LabelsStandOnce}
use Rattle.ax_emit.specs.Images.{place_of}
use Rattle.ax_emit_rv.specs.Code.{jump_to}
use Rattle.ax_emit_rv.proofs.Ends.{jump_goes}
use Rattle.ax_selected.specs.Operations.{Operation, operation_of}
use Rattle.ax_selected.specs.Registers.{block_label, first_label, key, second_label}
use Rattle.ax_selected.specs.Selected.{acting, label_line, piece, selected, silent}
use Rattle.ax_marks_rv.proofs.Chunks.{IsChunk, OfInst, OfLabel, chunks, chunks_are, label_chunk}
use Rattle.ax_marks_rv.proofs.Codes.{IsCalm, IsLast, IsLevel, branch_before, branch_size, label_size, last_placed, level_calm, machine, machine_size}
use Rattle.ax_marks_rv.proofs.Expanded.{expanded, expanded_closed}
use Rattle.ax_marks_rv.proofs.Inside.{IsStill, inside_leads, is_closed, is_inside, placed_closed}
use Rattle.ax_marks_rv.proofs.Items.{Each, Placed, each_at, each_both, find, get_right, laid, placed_each, total, total_both}
use Rattle.ax_marks_rv.proofs.Laying.{BranchHolds, behind, chunk_is, code, code_lines, labels_none, lines_total, placed_branch, placed_guard, placed_label, placed_line, placed_lines, placed_silent, placed_whole, places, room, size, tagged_line}
use Rattle.ax_marks_rv.proofs.Places.{LabelAt, behind_is, find_label, place_both, place_first}
use Rattle.ax_marks_rv.proofs.Ranges.{Chunk, lines_of}
use Rattle.ax_marks_rv.proofs.Shapes.{Forked, Guarded, Levels, Shape, Whole, guard, is_leading, is_plain, phi_none, piece_shape, whole}

-- ---- labels of blocks stand in no instruction's code
abbrev NoBlock : Line Virtual → Type 0
NoBlock line = (g m : ℕ) → line.inst ≡ mid.Label (block_label g m) → ⊥

level_never : (plain : Bool) (i : MidInst Virtual) (n : ℕ) → IsLevel plain i → i ≡ mid.Label n → ⊥
level_never plain i n h e = subst (IsLevel plain) e h

last_never : (plain leading : Bool) (f : ℕ) (i : MidInst Virtual) (n : ℕ) → IsLast plain leading f i → i ≡ mid.Label n → ⊥
last_never plain leading f i n h e = subst (IsLast plain leading f) e h

odd : (f k g m : ℕ) → first_label f k ≡ block_label g m → ⊥
odd f k g m e = omega (arith, e)

even : (f k g m : ℕ) → second_label f k ≡ block_label g m → ⊥
even f k g m e = omega (arith, e)

module _ (f k : ℕ) where
  none_silent : (plain : Bool) (is : List (MidInst Virtual)) → Levels plain is → Each NoBlock (map (silent f k) is)
  none_silent plain [] h = tt
  none_silent plain (i ∷ is) h = ((λ g m e. level_never plain i (block_label g m) h.0 e), none_silent plain is h.1)

  none_whole : (plain leading : Bool) (is : List (MidInst Virtual)) (last : MidInst Virtual) → Levels plain is → IsLast plain leading f last → Each NoBlock (whole f k is last)
  none_whole plain leading is last h g = each_both NoBlock (map (silent f k) is) (acting f k last ∷ []) (none_silent plain is h) ((λ j m e. last_never plain leading f last (block_label j m) g e), tt)

  none_branch : (test : Virtual) (a b : ℕ) → NoBlock (silent f k (mid.Branch test a b))
  none_branch test a b g m e = cc

  none_first : NoBlock (silent f k (mid.Label (first_label f k)))
  none_first g m e = let same : first_label f k ≡ block_label g m = cc in odd f k g m same

  none_second : NoBlock (silent f k (mid.Label (second_label f k)))
  none_second g m e = let same : second_label f k ≡ block_label g m = cc in even f k g m same

  none_trap : NoBlock (acting f k mid.Trap)
  none_trap g m e = cc

  none_shape : (plain leading : Bool) (o : Option Operation) (lines : List (Line Virtual)) → Shape f k plain leading o lines → Each NoBlock lines
  none_shape plain leading o lines (Whole is last a b c e) = subst (Each NoBlock) (sym e) (none_whole plain leading is last a b)
  none_shape plain leading o lines (Guarded js test is last a b c d e) =
      subst (Each NoBlock) (sym e)
      (each_both NoBlock (map (silent f k) js) (guard f k test ++ whole f k is last) (none_silent plain js a)
      (none_branch test (second_label f k) (first_label f k), (none_first, (none_trap, (none_second, none_whole plain leading is last b c)))))
  none_shape plain leading o lines (Forked first test is m js n a b c d g e) =
      subst (Each NoBlock) (sym e) (
        (λ j l q. level_never plain first (block_label j l) a q),
        (
          none_branch test (first_label f k) (second_label f k),
          (
            none_first,
            each_both NoBlock (whole f k is (mid.Jump (block_label f m))) (silent f k (mid.Label (second_label f k)) ∷ whole f k js (mid.Jump (block_label f n))) (none_whole plain true is (mid.Jump (block_label f m)) b (refl, (m, refl)))
                (none_second, none_whole plain true js (mid.Jump (block_label f n)) c (refl, (n, refl))),
          ),
        ),
      )

-- ---- instructions that lead nowhere
pub still_leads : (x : RvInstr) (c : Processor) (q : ℕ) → IsStill x → LeadsTo (effect_of x c) q → ⊥
still_leads (rv.Jump d) c q h l = true≢false h
still_leads (rv.Call routine place) c q h l = true≢false h
still_leads rv.Ret c q h l = l
still_leads (rv.Branch test a b d) c q h l = true≢false h
still_leads _ c q h l = l

jump_leads : (place t : ℕ) (c : Processor) (q : ℕ) → c.place ≡ place → place < 2 ^ 32 → t < 2 ^ 32 → LeadsTo (effect_of (jump_to place t) c) q → t ≡ q
jump_leads place t c q at low high l = subst (λ (e : Effect). LeadsTo e q) (jump_goes place t c at low high) l

-- ---- chunks by their lines
abbrev long : Chunk Virtual → ℕ
long c = length c.lines

abbrev itself : ℕ → Chunk Virtual → List (Line Virtual)
itself at c = c.lines

laid_itself : (at : ℕ) (cs : List (Chunk Virtual)) → laid itself long at cs ≡ lines_of cs
laid_itself at [] = refl
laid_itself at (c ∷ cs) = ap (λ (l : List (Line Virtual)). c.lines ++ l) (laid_itself (at + length c.lines) cs)

total_long : (cs : List (Chunk Virtual)) → total long cs ≡ length (lines_of cs)
total_long [] = refl
total_long (c ∷ cs) =
    let e = total_long cs in
    let f = length-append c.lines (lines_of cs) in
    omega (arith, e, f)

pub lines_both : (xs ys : List (Chunk Virtual)) → lines_of (xs ++ ys) ≡ lines_of xs ++ lines_of ys
lines_both [] ys = refl
lines_both (x ∷ xs) ys = ap (λ (l : List (Line Virtual)). x.lines ++ l) (lines_both xs ys) ∙ sym (append_assoc x.lines (lines_of xs) (lines_of ys))

one_only : (x line : Line Virtual) (offset : ℕ) → slice_get (x ∷ []) offset ≡ Some line → offset ≡ 0
one_only x line zero e = refl
one_only x line (suc offset) e = absurd (none-some line e)

module _ (program : SourceProgram) (depth : ℕ) (target : Target) where
  abbrev sized : Line Virtual → ℕ
  sized line = size program depth target line

  abbrev wide : Chunk Virtual → ℕ
  wide c = room program depth target c

  -- the place of what stands behind a label
  abbrev pub aim : ℕ → ℕ
  aim n = places program depth target (behind program depth target n)

  abbrev place_in : List (Line Virtual) → ℕ → ℕ → ℕ
  place_in lines at j = place_of sized (tagged_line program depth target) lines at j

  -- between two pieces
  pub record Boundary (q : ℕ) : Type 0 where
    pub before : List (Chunk Virtual)
    pub after : List (Chunk Virtual)
    pub is : chunks program ≡ before ++ after
    pub place : q ≡ 1 + total wide before

  end_is : (n : ℕ) → behind program depth target n ≡ 0 + length (code_lines program depth target) → Boundary (aim n)
  end_is n e =
      let lines = code_lines program depth target in
      let at = place_both sized (tagged_line program depth target) lines [] 1 (behind program depth target n) 0 (e ∙ omega arith) in
      let same = ap (λ (l : List (Line Virtual)). total sized l) (sym (chunks_are program)) ∙ lines_total program depth target (chunks program) in
      record {
        before = chunks program;
        after = [];
        is = sym (append-nil (chunks program));
        place = ap (λ (l : List (Line Virtual)). place_in l 1 (behind program depth target n)) (sym (append-nil lines)) ∙ (at ∙ ap (λ (t : ℕ). 1 + t) same);
      }

  -- the lines round a piece
  pub round : (before : List (Chunk Virtual)) (c : Chunk Virtual) (after : List (Chunk Virtual)) → chunks program ≡ before ++ (c ∷ after) → code_lines program depth target ≡ lines_of before ++ (c.lines ++ lines_of after)
  round before c after is = sym (chunks_are program) ∙ (ap (λ (cs : List (Chunk Virtual)). lines_of cs) is ∙ lines_both before (c ∷ after))

  label_target : (n : ℕ) (before : List (Chunk Virtual)) (c : Chunk Virtual) (after : List (Chunk Virtual)) → chunks program ≡ before ++ (c ∷ after) → (g k : ℕ) → c ≡ label_chunk program g k
      → (j offset : ℕ) (line : Line Virtual) → slice_get c.lines offset ≡ Some line → j ≡ total long before + offset → behind program depth target n ≡ 0 + j + 1 → Boundary (aim n)
  label_target n before c after is g k own j offset line get at there =
      let label = label_line program g k in
      let first = one_only label line offset (ap (λ (d : Chunk Virtual). slice_get d.lines offset) (sym own) ∙ get) in
      let many = total_long before in
      let ls = lines_of before in
      let e : code_lines program depth target ≡ ls ++ (label ∷ lines_of after) = round before c after is ∙ ap (λ (d : Chunk Virtual). ls ++ (d.lines ++ lines_of after)) own in
      let p = place_both sized (tagged_line program depth target) ls (label ∷ lines_of after) 1 (behind program depth target n) (suc zero) (omega (arith, first, many, at, there)) in
      let q = place_first sized (tagged_line program depth target) (lines_of after) (1 + total sized ls + sized label) in
      let none = labels_none program depth target g k in
      let same = lines_total program depth target before in
      record {
        before = before;
        after = c ∷ after;
        is = is;
        place = ap (λ (l : List (Line Virtual)). place_in l 1 (behind program depth target n)) e ∙ (p ∙ (q ∙ omega (arith, none, same)));
      }

  -- a block's label leads to the beginning of a piece
  pub block_target : (f m : ℕ) → Boundary (aim (block_label f m))
  block_target f m =
      elim (find_label key (code_lines program depth target) (block_label f m) 0) [
        | inl e ↦ end_is (block_label f m) e
        | inr r ↦ by r
      ]
    where
      in_chunk : (before : List (Chunk Virtual)) (c : Chunk Virtual) (after : List (Chunk Virtual)) → chunks program ≡ before ++ (c ∷ after) → IsChunk program c
          → (j offset : ℕ) (line : Line Virtual) → slice_get c.lines offset ≡ Some line → line.inst ≡ mid.Label (block_label f m) → j ≡ total long before + offset → behind program depth target (block_label f m) ≡ 0 + j + 1 → Boundary (aim (block_label f m))
      in_chunk before c after is (OfLabel g k own) j offset line get label at there = label_target (block_label f m) before c after is g k own j offset line get at there
      in_chunk before c after is (OfInst g k blocks b i has own) j offset line get label at there = absurd (never (is_phi i) refl)
        where
          mine : slice_get (piece g k program blocks b i) offset ≡ Some line
          mine = ap (λ (d : Chunk Virtual). slice_get d.lines offset) (sym own) ∙ get

          never : (q : Bool) → is_phi i ≡ q → ⊥
          never true phi = none-some line (ap (λ (l : List (Line Virtual)). slice_get l offset) (sym (phi_none program g k b blocks i phi)) ∙ mine)
          never false phi = each_at NoBlock (piece g k program blocks b i) offset line (none_shape g k (is_plain i) (is_leading i) (operation_of i) (piece g k program blocks b i) (piece_shape program g k b blocks i phi)) mine f m label

      by : LabelAt key (code_lines program depth target) (block_label f m) 0 → Boundary (aim (block_label f m))
      by r =
          let at : slice_get (laid itself long 0 (chunks program)) r.index ≡ Some r.line = ap (λ (l : List (Line Virtual)). slice_get l r.index) (laid_itself 0 (chunks program) ∙ chunks_are program) ∙ r.at in
          let w = find itself long (λ p c. refl) 0 (chunks program) r.index r.line at in
          in_chunk w.before w.item w.after w.is (chunk_is program depth target w.before w.item w.after w.is) r.index w.offset r.line w.get r.is w.place r.behind

  -- ---- a label of a piece leads into it
  module _ (once : LabelsStandOnce (selected program)) (before : List (Chunk Virtual)) (c : Chunk Virtual) (after : List (Chunk Virtual)) (is : chunks program ≡ before ++ (c ∷ after)) where
    pub own_target : (n : ℕ) (xs : List (Line Virtual)) (l : Line Virtual) (ys : List (Line Virtual)) → c.lines ≡ xs ++ (l ∷ ys) → l.inst ≡ mid.Label n → aim n ≡ 1 + total wide before + total sized xs
    own_target n xs l ys e label =
        let ls = lines_of before in
        let zs = ls ++ xs in
        let rest = ys ++ lines_of after in
        let whole_is : code_lines program depth target ≡ zs ++ (l ∷ rest) =
        round before c after is
        ∙ (ap (λ (own : List (Line Virtual)). ls ++ (own ++ lines_of after)) e
        ∙ (ap (λ (own : List (Line Virtual)). ls ++ own) (append_assoc xs (l ∷ ys) (lines_of after))
        ∙ sym (append_assoc ls xs (l ∷ rest)))) in
        let at : slice_get (code_lines program depth target) (length zs) ≡ Some l = ap (λ (own : List (Line Virtual)). slice_get own (length zs)) whole_is ∙ get_right zs (l ∷ rest) (length zs) 0 (omega arith) in
        let there = behind_is key (code_lines program depth target) n 0 (length zs) l at label (λ p a f g. once p (length zs) n a l f at g label) in
        let p = place_both sized (tagged_line program depth target) zs (l ∷ rest) 1 (behind program depth target n) (suc zero) (omega (arith, there)) in
        let q = place_first sized (tagged_line program depth target) rest (1 + total sized zs + sized l) in
        let none : sized l ≡ 0 = ap (λ (i : MidInst Virtual). machine_size key depth (behind program depth target) target i) label ∙ label_size key depth (behind program depth target) target n in
        let both = total_both sized ls xs in
        let same = lines_total program depth target before in
        ap (λ (own : List (Line Virtual)). place_in own 1 (behind program depth target n)) whole_is ∙ (p ∙ (q ∙ omega (arith, none, both, same)))

    -- ---- EACH JUMP OF A PIECE leads to the beginning of one, or into this one
    abbrev start : ℕ
    start = 1 + total wide before

    abbrev pub Aims : ℕ → Type 0
    Aims q = Boundary q ⊎ ((start ≤ q) × (q ≤ start + wide c))

    own_aims : (n : ℕ) (xs : List (Line Virtual)) (l : Line Virtual) (ys : List (Line Virtual)) → c.lines ≡ xs ++ (l ∷ ys) → l.inst ≡ mid.Label n → Aims (aim n)
    own_aims n xs l ys e label =
        let p = own_target n xs l ys e label in
        let long = ap (λ (own : List (Line Virtual)). total sized own) e ∙ total_both sized xs (l ∷ ys) in
        inr (omega (arith, p), omega (arith, p, long))

    module _ (few : 1 + total wide (chunks program) < 2 ^ 32) where
      low_end : start + wide c < 2 ^ 32
      low_end = let e = ap (λ (cs : List (Chunk Virtual)). total wide cs) is ∙ total_both wide before (c ∷ after) in omega (arith, few, e)

      low_aim : (q : ℕ) → Aims q → q < 2 ^ 32
      low_aim q (inl b) =
          let e = ap (λ (cs : List (Chunk Virtual)). total wide cs) b.is ∙ total_both wide b.before b.after in
          let p = b.place in
          omega (arith, few, e, p)
      low_aim q (inr r) = let p = r.1 in omega (arith, low_end, p)

      -- an instruction at a place leads there alone
      abbrev pub Leads : ℕ → RvInstr → Type 0
      Leads place x = place < 2 ^ 32 → (r : Processor) → r.place ≡ place → (q : ℕ) → LeadsTo (rv_kind.effect_of x r) q → Aims q

      jump_aims : (place n : ℕ) → Aims (aim n) → Leads place (jump_to place (aim n))
      jump_aims place n h low r at q l = subst Aims (jump_leads place (aim n) r q at low (low_aim (aim n) h) l) h

      -- code that leads into itself, or right behind it
      inside_aims : (at n : ℕ) → start ≤ at → at + n ≤ start + wide c → (j : ℕ) (x : RvInstr) → j ≤ n → is_inside n j x ≡ true → Leads (at + j) x
      inside_aims at n low high j x less inside small r here q l =
          let there = inside_leads at n (omega (arith, low_end, high)) j x r q here less inside l in
          let first = there.0 in
          let last = there.1 in
          inr (omega (arith, low, first), omega (arith, high, last))

      closed_aims : (at : ℕ) (own : List RvInstr) → is_closed own ≡ true → start ≤ at → at + length own ≤ start + wide c → Placed Leads at own
      closed_aims at own h low high = placed_closed Leads at own h (inside_aims at (length own) low high)

      turn_aims : (place : ℕ) → start ≤ place → place + 2 ≤ start + wide c → Leads place (rv.Branch condition.NotEqual 5 0 (pos 2))
      turn_aims place low high =
          let same : place + 0 ≡ place = omega arith in
          subst (λ (p : ℕ). Leads p (rv.Branch condition.NotEqual 5 0 (pos 2))) same (inside_aims place 2 low high 0 (rv.Branch condition.NotEqual 5 0 (pos 2)) (omega arith) refl)

      still_aims : (place : ℕ) (x : RvInstr) → IsStill x → Leads place x
      still_aims place x h low r at q l = absurd (still_leads x r q h l)

      calm_aims : (plain : Bool) (place : ℕ) (x : RvInstr) → IsCalm plain x → Leads place x
      calm_aims plain place x h = still_aims place x h.0

      ret_aims : (place : ℕ) → Leads place rv.Ret
      ret_aims place low r at q l = absurd l

      module _ (f k : ℕ) (plain leading : Bool) where
        last_aims : (at : ℕ) (last : MidInst Virtual) → start ≤ at → at + machine_size key depth (behind program depth target) target last ≤ start + wide c → IsLast plain leading f last
            → Placed Leads at (machine key depth (behind program depth target) target last (places program depth target) at)
        last_aims at last low high h =
            last_placed key depth (behind program depth target) target Leads plain leading f (places program depth target) at last h
            (record {
              still = still_aims;
              jumps = λ m goes. jump_aims at (block_label f m) (inl (block_target f m));
              returns = λ goes. ret_aims at;
              operates = λ o width order weak address args results same p from to. closed_aims p (expanded target o width order weak) (expanded_closed target o width order weak) (omega (arith, low, from)) (omega (arith, to, high));
            })

        whole_aims : (at : ℕ) (is : List (MidInst Virtual)) (last : MidInst Virtual) → start ≤ at → at + total sized (whole f k is last) ≤ start + wide c → Levels plain is → IsLast plain leading f last → Placed Leads at (laid (code program depth target) sized at (whole f k is last))
        whole_aims at is last low high h g =
            let both = total_both sized (map (silent f k) is) (acting f k last ∷ []) in
            placed_whole program depth target Leads plain (calm_aims plain) f k at is last h (last_aims (at + total sized (map (silent f k) is)) last (omega (arith, low)) (omega (arith, high, both)) g)

        -- a branch whose labels stand in the piece
        branch_aims : (at : ℕ) (test : Virtual) (a b : ℕ) → start ≤ at → at + sized (silent f k (mid.Branch test a b)) ≤ start + wide c → Aims (aim a) → Aims (aim b) → BranchHolds program depth target Leads plain (calm_aims plain) f k at test a b
        branch_aims at test a b low high ha hb =
            let n = branch_size key depth (behind program depth target) target test a b in
            let t = at + branch_before key depth (behind program depth target) target test in
            record { turn = turn_aims t (omega (arith, low)) (omega (arith, high, n)); low = jump_aims (t + 1) b hb; high = jump_aims (t + 2) a ha }

        pub shape_aims : (o : Option Operation) → Shape f k plain leading o c.lines → Placed Leads start (laid (code program depth target) sized start c.lines)
        shape_aims o (Whole is last a b d e) =
            let long = ap (λ (l : List (Line Virtual)). total sized l) e in
            subst (λ (l : List (Line Virtual)). Placed Leads start (laid (code program depth target) sized start l)) (sym e) (whole_aims start is last (omega arith) (omega (arith, long)) a b)
        shape_aims o (Guarded js test is last a b d g e) =
            let own = map (silent f k) js in
            let turn = silent f k (mid.Branch test (second_label f k) (first_label f k)) in
            let first = silent f k (mid.Label (first_label f k)) in
            let trap = acting f k mid.Trap in
            let second = silent f k (mid.Label (second_label f k)) in
            let rest = whole f k is last in
            let at = start + total sized own in
            let long = ap (λ (l : List (Line Virtual)). total sized l) e ∙ total_both sized own (guard f k test ++ rest) in
            let parts = total_both sized (guard f k test) rest in
            let at_first : c.lines ≡ (own ++ (turn ∷ [])) ++ (first ∷ trap ∷ second ∷ rest) = e ∙ sym (append_assoc own (turn ∷ []) (first ∷ trap ∷ second ∷ rest)) in
            let at_second : c.lines ≡ (own ++ (turn ∷ first ∷ trap ∷ [])) ++ (second ∷ rest) = e ∙ sym (append_assoc own (turn ∷ first ∷ trap ∷ []) (second ∷ rest)) in
            let ha = own_aims (second_label f k) (own ++ (turn ∷ first ∷ trap ∷ [])) second rest at_second refl in
            let hb = own_aims (first_label f k) (own ++ (turn ∷ [])) first (trap ∷ second ∷ rest) at_first refl in
            subst (λ (l : List (Line Virtual)). Placed Leads start (laid (code program depth target) sized start l)) (sym e)
            (placed_lines program depth target Leads start own (guard f k test ++ rest) (placed_silent program depth target Leads plain (calm_aims plain) f k start js a)
            (placed_guard program depth target Leads plain (calm_aims plain) f k at test rest (branch_aims at test (second_label f k) (first_label f k) (omega arith) (omega (arith, long)) ha hb)
            (λ there same. whole_aims there is last (omega (arith, same)) (omega (arith, same, long, parts)) b d)))
        shape_aims o (Forked head test is m js n a b d g none e) =
            let turn = silent f k (mid.Branch test (first_label f k) (second_label f k)) in
            let first = silent f k (mid.Label (first_label f k)) in
            let second = silent f k (mid.Label (second_label f k)) in
            let one = whole f k is (mid.Jump (block_label f m)) in
            let two = whole f k js (mid.Jump (block_label f n)) in
            let at = start + sized (silent f k head) in
            let next = at + sized turn in
            let there = next + sized first in
            let far = there + total sized one in
            let long = ap (λ (l : List (Line Virtual)). total sized l) e in
            let parts = total_both sized one (second ∷ two) in
            let at_second : c.lines ≡ (silent f k head ∷ turn ∷ first ∷ one) ++ (second ∷ two) = e in
            let ha = own_aims (first_label f k) (silent f k head ∷ turn ∷ []) first (one ++ (second ∷ two)) e refl in
            let hb = own_aims (second_label f k) (silent f k head ∷ turn ∷ first ∷ one) second two at_second refl in
            subst (λ (l : List (Line Virtual)). Placed Leads start (laid (code program depth target) sized start l)) (sym e)
            (placed_line program depth target Leads start (silent f k head) (turn ∷ first ∷ one ++ (second ∷ two)) (placed_each Leads (IsCalm plain) (calm_aims plain) start (machine key depth (behind program depth target) target head (places program depth target) start) (level_calm key depth (behind program depth target) target plain head a (places program depth target) start))
            (placed_line program depth target Leads at turn (first ∷ one ++ (second ∷ two)) (placed_branch program depth target Leads plain (calm_aims plain) f k at test (first_label f k) (second_label f k) (branch_aims at test (first_label f k) (second_label f k) (omega arith) (omega (arith, long)) ha hb))
            (placed_line program depth target Leads next first (one ++ (second ∷ two)) (placed_label program depth target Leads plain (calm_aims plain) f k (first_label f k) next)
            (placed_lines program depth target Leads there one (second ∷ two) (whole_aims there is (mid.Jump (block_label f m)) (omega arith) (omega (arith, long, parts)) b (g, (m, refl)))
            (placed_line program depth target Leads far second two (placed_label program depth target Leads plain (calm_aims plain) f k (second_label f k) far)
            (whole_aims (far + sized second) js (mid.Jump (block_label f n)) (omega arith) (omega (arith, long, parts)) d (g, (n, refl))))))))
