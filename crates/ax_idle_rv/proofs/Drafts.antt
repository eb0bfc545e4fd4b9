-- A draft of calm lines is fine: from each place it isn't far to an Act.
use Rattle.std.proofs.Common.{◌≡◌, ℕ, suc, ◌+◌, ◌≤◌, Bool, true, false, List, [], ◌∷◌, ◌++◌, length, Some, refl, sym, ap, ◌∙◌, subst, arith, length-append, slice_get}
use Rattle.std.specs.Prelude.{IsTrue, if◌then◌else◌, pos}
use Rattle.std.proofs.lemmas.Bool.{false≢true}
use Rattle.std.proofs.lemmas.Bool.Decides.{nat_tests}
use Rattle.ax_words.specs.declared.mark.Op.{Op}
use Rattle.ax_words.specs.declared.order.Order.{Order}
use Rattle.ax_words.specs.declared.width.Width.{Width}
use Rattle.ax_tags.specs.declared.tags.Tag.{Tag}
use Rattle.ax_tags.specs.declared.tags.Tag.TheVariants as tag
use Rattle.ax_rv.specs.declared.instructions.Condition.TheVariants as condition
use Rattle.ax_rv.specs.declared.instructions.RvInstr.{RvInstr}
use Rattle.ax_rv.specs.declared.instructions.RvInstr.TheVariants.{Branch}
use Rattle.ax_mid.specs.declared.code.Line.{Line}
use Rattle.ax_mid.specs.declared.instruction.MidInst.{MidInst}
use Rattle.ax_mid.specs.declared.instruction.MidInst.TheVariants as mid
use Rattle.ax_mid.specs.declared.registers.Virtual.{Virtual}
use Rattle.ax_mid.specs.Machine.{behind_label, is_label, label_at}
use Rattle.ax_mid.specs.WellFormed.{is_shaped, is_silent}
use Rattle.ax_expand.specs.Standing.{silently}
use Rattle.ax_fine.specs.Fine.{is_quiet}
use Rattle.ax_emit.specs.Atomics.{gets_all, puts_all}
use Rattle.ax_emit.specs.Images.{Drafted, draft, drafted, place_of}
use Rattle.ax_emit_rv.specs.Code.{Expansion, code_of, distance, first_argument, first_result, get_one, homes_from, inst_code, jump_to, piece_of, size_of}
use Rattle.ax_emit_rv.specs.Slots.{rv_table}
use Rattle.ax_selected.specs.Registers.{key}
use Rattle.ax_selected.specs.Selected.{selected}
use Rattle.ax_source_run.specs.SourceState.{SourceProgram}
use Rattle.ax_image_rv.specs.Image.{rv_program}
use Rattle.ax_idle_rv.proofs.Codes.{IsOther, gets_short, inst_coded, silently_code, silently_length, suits}
use Rattle.ax_idle_rv.proofs.Fits.{Agrees, LineCoded, agrees_behind, behind_all, drafted_both, drafted_length}
use Rattle.ax_idle_rv.proofs.Ranks.{Fine, IsInner, behind, inner_rank, piece_rank, rank_of}
use Rattle.ax_idle_rv.proofs.Reach.{Calm, CalmBy, most_reach, most_width, reach, reach_by, width}

-- ---- lines
reach_other : (i : MidInst Virtual) (rest : ℕ) → IsOther i → reach_by true i rest ≡ width i + rest
reach_other (mid.Branch test a b) rest h = absurd h
reach_other _ rest h = refl

width_few : (i : MidInst Virtual) → width i ≤ most_width
width_few (mid.Const to n) = omega arith
width_few (mid.Copy to from) = omega arith
width_few (mid.Label n) = omega arith
width_few (mid.Atomic o w order weak address args results) = omega arith
width_few _ = omega arith

abbrev pub Shaped : List (Line Virtual) → Type 0
Shaped [] = Unit {0}
Shaped (line ∷ lines) = IsTrue (is_shaped line.tag line.inst) × Shaped lines

pub shaped_all : (lines : List (Line Virtual)) → ((k : ℕ) (line : Line Virtual) → slice_get lines k ≡ Some line → IsTrue (is_shaped line.tag line.inst)) → Shaped lines
shaped_all [] h = tt
shaped_all (line ∷ lines) h = (h 0 line refl, shaped_all lines (λ k x e. h (suc k) x e))

silent_of : (t : Tag) → is_silent t ≡ true → t ≡ tag.Silent
silent_of tag.Silent h = refl
silent_of _ h = absurd (false≢true h)

branch_silent : (t : Tag) (test : Virtual) (a b : ℕ) → IsTrue (is_shaped t (mid.Branch test a b)) → t ≡ tag.Silent
unfolding is_shaped
branch_silent t test a b h = silent_of t h

label_silent : (t : Tag) (n : ℕ) → IsTrue (is_shaped {R = Virtual} t (mid.Label n)) → t ≡ tag.Silent
unfolding is_shaped
label_silent t n h = silent_of t h

module _ (program : SourceProgram) (expansions : Op → Width → Order → Bool → Expansion) (expands : (o : Op) (w : Width) (order : Order) (weak : Bool) (start : ℕ) → LineCoded false piece_rank ((expansions o w order weak).piece start))
    (alike : (o : Op) (w : Width) (order : Order) (weak : Bool) (s t : ℕ) → (expansions o w order weak).piece s ≡ (expansions o w order weak).piece t) (places rank : ℕ → ℕ) where
  abbrev code : MidInst Virtual → ℕ → List (RvInstr × Tag)
  code i at = inst_code (rv_program program) expansions i places at

  abbrev size : Line Virtual → ℕ
  size line = size_of (rv_program program) expansions line

  abbrev target : ℕ → ℕ
  target n = places (behind_label key (selected program).lines n 0)

  abbrev drafts : List (Line Virtual) → ℕ → ℕ → List (Drafted RvInstr)
  drafts lines at n = draft (size_of (rv_program program) expansions) (code_of (rv_program program) expansions) places lines at n

  -- a line's code has as many instructions wherever it stands
  same_length : (i : MidInst Virtual) (at : ℕ) → length (code i at) ≡ length (inst_code (rv_program program) expansions i (λ j. 0) 0)
  unfolding piece_of
  same_length (mid.Branch test a b) at =
      let is : List (RvInstr × Tag) = silently (get_one key 5 test) in
      let start = at + length (get_one key 5 test) in
      length-append is ((Branch condition.NotEqual 5 0 (pos 2), tag.Silent) ∷ (jump_to (start + 1) (target b), tag.Act) ∷ (jump_to (start + 2) (target a), tag.Act) ∷ [])
      ∙ sym (length-append is ((Branch condition.NotEqual 5 0 (pos 2), tag.Silent) ∷ (jump_to (0 + length (get_one key 5 test) + 1) 0, tag.Act) ∷ (jump_to (0 + length (get_one key 5 test) + 2) 0, tag.Act) ∷ []))
  same_length (mid.Atomic o w order weak address args results) at =
      let before : List RvInstr = gets_all rv_table ((10, key address) ∷ homes_from key first_argument args) in
      let after : List RvInstr = puts_all rv_table (homes_from key first_result results) in
      ap (λ (es : List (RvInstr × Tag)). length (silently before ++ (es ++ silently after))) (alike o w order weak (at + length before) (0 + length before))
  same_length _ at = refl

  -- where what follows is fine, a line's code is, and it isn't far to an Act
  abbrev Lined : Bool → MidInst Virtual → ℕ → ℕ → ℕ → List (Drafted RvInstr) → Type 0
  Lined quiet i rest at n ds =
      (Agrees rank at (drafted quiet n (code i at) ++ ds) → Fine target rank (at + length (code i at)) ds → Fine target rank at (drafted quiet n (code i at) ++ ds))
      × (rank_of (drafted quiet n (code i at) ++ ds) ≤ reach_by quiet i rest)

  other_line : (quiet : Bool) (i : MidInst Virtual) (rest at n : ℕ) (ds : List (Drafted RvInstr)) → IsOther i → LineCoded quiet (width i) (code i at) → rank_of ds ≤ rest → rest ≤ most_reach → Lined quiet i rest at n ds
  other_line true i rest at n ds other h low few =
      let w = width_few i in
      let r = h.fits.low n ds in
      let is = reach_other i rest other in
      (λ agrees fine. h.fits.fine target rank at n ds agrees fine (omega (arith, w, low, few)), omega (arith, r, is, low))
  other_line false i rest at n ds other h low few =
      let w = width_few i in
      let r = h.acts refl n ds in
      (λ agrees fine. h.fits.fine target rank at n ds agrees fine (omega (arith, w, low, few)), omega (arith, w, r))

  -- a branch: silent code, a jump over a jump, and the two jumps
  branch_line : (test : Virtual) (a b rest at n : ℕ) (ds : List (Drafted RvInstr)) → IsInner a → IsInner b → Lined true (mid.Branch test a b) rest at n ds
  unfolding piece_of
  branch_line test a b rest at n ds inner_a inner_b =
      let is : List RvInstr = get_one key 5 test in
      let start : ℕ = at + length is in
      let high : RvInstr = jump_to (start + 2) (target a) in
      let low : RvInstr = jump_to (start + 1) (target b) in
      let turn : RvInstr = Branch condition.NotEqual 5 0 (pos 2) in
      let tail : List (RvInstr × Tag) = (turn, tag.Silent) ∷ (low, tag.Act) ∷ (high, tag.Act) ∷ [] in
      let sl = silently_length is in
      let la = length-append (silently is) tail in
      let here : at + length (silently is) ≡ start = ap (λ (k : ℕ). at + k) sl in
      let end : at + length (silently is ++ tail) ≡ start + 1 + 1 + 1 = omega (arith, sl, la) in
      let two : start + 2 ≡ start + 1 + 1 = omega arith in
      let coded = silently_code true 3 is (gets_short ((5, key test) ∷ [])) in
      let whole : List (Drafted RvInstr) = drafted true n tail ++ ds in
      let r = coded.low n whole in
      let is_both = drafted_both true n (silently is) tail ds in
      let tail_rank : rank_of whole ≡ 1602 = refl in (
        λ agrees fine.
            (let behind_it : Fine target rank start whole = (
              omega arith,
              refl,
              (omega arith, omega arith),
              (
                omega arith,
                refl,
                record { label = b; inner = inner_b; is = refl },
                (omega arith, refl, record { label = a; inner = inner_a; is = ap (λ (q : ℕ). distance q (target a)) two }, subst (λ (q : ℕ). Fine target rank q ds) end fine),
              ),
            ) in
            subst (Fine target rank at) (sym is_both) (coded.fine target rank at n whole (subst (Agrees rank at) is_both agrees) (subst (λ (q : ℕ). Fine target rank q whole) (sym here) behind_it) (omega (arith, tail_rank)))),
        subst (λ (xs : List (Drafted RvInstr)). rank_of xs ≤ 20 + inner_rank) (sym is_both) (omega (arith, r, tail_rank)),
      )

  line_by : (t : Tag) (i : MidInst Virtual) (rest at n : ℕ) (ds : List (Drafted RvInstr)) → IsTrue (is_shaped t i) → CalmBy (is_quiet t) i rest → rank_of ds ≤ rest → rest ≤ most_reach → Lined (is_quiet t) i rest at n ds
  line_by t (mid.Branch test a b) rest at n ds shaped calm low few =
      let silent = branch_silent t test a b shaped in
      let inner : IsInner a × IsInner b = subst (λ (u : Tag). CalmBy (is_quiet u) (mid.Branch test a b) rest) silent calm in
      subst (λ (u : Tag). Lined (is_quiet u) (mid.Branch test a b) rest at n ds) (sym silent) (branch_line test a b rest at n ds inner.0 inner.1)
  line_by t i rest at n ds shaped calm low few = other_line (is_quiet t) i rest at n ds tt (inst_coded program expansions expands (is_quiet t) i places at (suits t i rest shaped calm tt)) low few

  reach_few : (lines : List (Line Virtual)) → Calm lines → reach lines ≤ most_reach
  reach_few [] h = omega arith
  reach_few (line ∷ lines) h = h.0

  pub drafts_fine : (lines : List (Line Virtual)) (at n : ℕ) → Shaped lines → Calm lines → (Agrees rank at (drafts lines at n) → Fine target rank at (drafts lines at n)) × (rank_of (drafts lines at n) ≤ reach lines)
  drafts_fine [] at n shaped calm = (λ agrees. tt, omega arith)
  drafts_fine (line ∷ lines) at n shaped calm =
      let rest = drafts_fine lines (at + size line) (n + 1) shaped.1 calm.2 in
      let ds : List (Drafted RvInstr) = drafts lines (at + size line) (n + 1) in
      let mine : List (Drafted RvInstr) = drafted (is_quiet line.tag) n (code line.inst at) in
      let next : at + size line ≡ at + length (code line.inst at) = ap (λ (k : ℕ). at + k) (sym (same_length line.inst at)) in
      let there : at + length mine ≡ at + size line = ap (λ (k : ℕ). at + k) (drafted_length (is_quiet line.tag) n (code line.inst at) ∙ same_length line.inst at) in
      let own = line_by line.tag line.inst (reach lines) at n ds shaped.0 calm.1 rest.1 (reach_few lines calm.2) in
      (λ agrees. own.0 agrees (subst (λ (q : ℕ). Fine target rank q ds) next (rest.0 (subst (λ (q : ℕ). Agrees rank q ds) there (agrees_behind rank at mine ds agrees)))), own.1)

  -- ---- behind an inner label
  pub record Found (lines : List (Line Virtual)) (at n label : ℕ) : Type 0 where
    pub index : ℕ
    pub is : (base : ℕ) → behind_label key lines label base ≡ base + index
    pub offset : ℕ
    pub place : place_of (size_of (rv_program program) expansions) (code_of (rv_program program) expansions) lines at index ≡ at + offset
    pub within : offset ≤ length (drafts lines at n)
    pub low : rank_of (behind (drafts lines at n) offset) ≤ inner_rank

  first_place : (lines : List (Line Virtual)) (at : ℕ) → place_of (size_of (rv_program program) expansions) (code_of (rv_program program) expansions) lines at 0 ≡ at
  first_place [] at = refl
  first_place (line ∷ lines) at = refl

  label_calm : (t : Tag) (i : MidInst Virtual) (label rest : ℕ) → IsTrue (is_shaped t i) → CalmBy (is_quiet t) i rest → is_label key label (label_at key i) ≡ true → IsInner label → rest ≤ inner_rank
  label_calm t (mid.Label n) label rest shaped calm is inner =
      let same : n ≡ label = grind (arith, nat_tests, is) in
      let silent = label_silent t n shaped in
      let own : IsInner n → rest ≤ inner_rank = subst (λ (u : Tag). CalmBy (is_quiet u) (mid.Label n) rest) silent calm in
      own (subst IsInner (sym same) inner)
  label_calm t _ label rest shaped calm is inner = absurd (false≢true is)

  abbrev own : Line Virtual → ℕ → ℕ → List (Drafted RvInstr)
  own line at n = drafted (is_quiet line.tag) n (code line.inst at)

  own_length : (line : Line Virtual) (at n : ℕ) → length (own line at n) ≡ size line
  own_length line at n = drafted_length (is_quiet line.tag) n (code line.inst at) ∙ same_length line.inst at

  -- the label is this line, or stands behind it
  found_here : (line : Line Virtual) (lines : List (Line Virtual)) (at n label : ℕ) → is_label key label (label_at key line.inst) ≡ true → rank_of (drafts lines (at + size line) (n + 1)) ≤ inner_rank → Found (line ∷ lines) at n label
  found_here line lines at n label e near =
      let rest : List (Drafted RvInstr) = drafts lines (at + size line) (n + 1) in
      let long = own_length line at n in
      let whole = length-append (own line at n) rest in
      let plus : length (own line at n) ≡ length (own line at n) + 0 = omega arith in
      let same : rank_of (behind (own line at n ++ rest) (length (own line at n))) ≡ rank_of rest = ap (λ (k : ℕ). rank_of (behind (own line at n ++ rest) k)) plus ∙ ap rank_of (behind_all (own line at n) rest 0) in
      record {
        index = 1;
        is = λ base. ap (λ (b : Bool). if b then base + 1 else behind_label key lines label (base + 1)) e;
        offset = length (own line at n);
        place = first_place lines (at + size line) ∙ ap (λ (k : ℕ). at + k) (sym long);
        within = omega (arith, whole);
        low = subst (λ (r : ℕ). r ≤ inner_rank) (sym same) near;
      }

  found_behind : (line : Line Virtual) (lines : List (Line Virtual)) (at n label : ℕ) → is_label key label (label_at key line.inst) ≡ false → Found lines (at + size line) (n + 1) label → Found (line ∷ lines) at n label
  found_behind line lines at n label e r =
      let rest : List (Drafted RvInstr) = drafts lines (at + size line) (n + 1) in
      let long = own_length line at n in
      let whole = length-append (own line at n) rest in
      let inside = r.within in
      let far : at + size line + r.offset ≡ at + (length (own line at n) + r.offset) = omega (arith, long) in
      record {
        index = suc r.index;
        is = λ base. ap (λ (b : Bool). if b then base + 1 else behind_label key lines label (base + 1)) e ∙ (r.is (base + 1) ∙ omega arith);
        offset = length (own line at n) + r.offset;
        place = r.place ∙ far;
        within = omega (arith, whole, inside);
        low = subst (λ (xs : List (Drafted RvInstr)). rank_of xs ≤ inner_rank) (sym (behind_all (own line at n) rest r.offset)) r.low;
      }

  pub label_found : (lines : List (Line Virtual)) (at n label : ℕ) → Shaped lines → Calm lines → IsInner label → Found lines at n label
  label_found [] at n label shaped calm inner = record { index = 0; is = λ base. omega arith; offset = 0; place = omega arith; within = omega arith; low = omega arith }
  label_found (line ∷ lines) at n label shaped calm inner = by (is_label key label (label_at key line.inst)) refl (label_found lines (at + size line) (n + 1) label shaped.1 calm.2 inner)
    where
      near : is_label key label (label_at key line.inst) ≡ true → rank_of (drafts lines (at + size line) (n + 1)) ≤ inner_rank
      near e =
          let low = (drafts_fine lines (at + size line) (n + 1) shaped.1 calm.2).1 in
          let few = label_calm line.tag line.inst label (reach lines) shaped.0 calm.1 e inner in
          omega (arith, low, few)

      by : (t : Bool) → is_label key label (label_at key line.inst) ≡ t → Found lines (at + size line) (n + 1) label → Found (line ∷ lines) at n label
      by true e r = found_here line lines at n label e (near e)
      by false e r = found_behind line lines at n label e r
