-- The machine code of a program's selected code: the piece of each place, and what holds of all places of a piece.
use Rattle.std.proofs.Common.{◌≡◌, ℕ, zero, suc, ◌+◌, ◌<◌, Bool, true, List, [], ◌∷◌, ◌++◌, map, Option, Some, length, refl, sym, ap, ◌∙◌, subst, arith, slice_get}
use Rattle.std.proofs.lemmas.Option.{none-some}
use Rattle.ax_tags.specs.declared.tags.Tag.{Tag}
use Rattle.ax_module.specs.declared.inst.Inst.{Inst}
use Rattle.ax_module.specs.declared.module.Block.{Block}
use Rattle.ax_module.specs.Kinds.{is_phi}
use Rattle.ax_source_run.specs.SourceState.{SourceProgram}
use Rattle.ax_target.specs.declared.target.Target.{Target}
use Rattle.ax_isa.specs.Run.{at_code}
use Rattle.ax_rv.specs.declared.instructions.RvInstr.{RvInstr}
use Rattle.ax_rv.specs.declared.instructions.RvInstr.TheVariants as rv
use Rattle.ax_rv.specs.declared.instructions.Condition.TheVariants as condition
use Rattle.ax_mid.specs.declared.code.Line.{Line}
use Rattle.ax_mid.specs.declared.instruction.MidInst.{MidInst}
use Rattle.ax_mid.specs.declared.instruction.MidInst.TheVariants as mid
use Rattle.ax_mid.specs.declared.registers.Virtual.{Virtual}
use Rattle.ax_mid.specs.Machine.{behind_label}
use Rattle.ax_emit.specs.Images.{place_of}
use Rattle.ax_emit_rv.specs.Code.{jump_to}
use Rattle.ax_selected.specs.Operations.{Operation}
use Rattle.ax_selected.specs.Registers.{block_label, first_label, key, second_label}
use Rattle.ax_selected.specs.Selected.{acting, label_line, selected, silent}
use Rattle.std.specs.Prelude.{pos}
use Rattle.ax_marks_rv.proofs.Chunks.{IsChunk, chunks, chunks_are, chunks_each, label_chunk, piece_chunk}
use Rattle.ax_marks_rv.proofs.Codes.{IsCalm, IsLast, branch_before, branch_placed, label_none, label_size, last_some, level_calm, machine, machine_size, machine_sizes, tagged, trap_calm}
use Rattle.ax_marks_rv.proofs.Items.{Each, Placed, find, laid, laid_both, length_laid, placed_both, placed_each, total, total_both}
use Rattle.ax_marks_rv.proofs.Ranges.{Chunk, chunk_size, lines_of}
use Rattle.ax_marks_rv.proofs.Shapes.{Forked, Guarded, Levels, Shape, Whole, guard, phi_none, whole}

-- what holds of the element in the middle
pub each_mid : {A : Type 0} (P : A → Type 0) (xs : List A) (y : A) (ys : List A) → Each P (xs ++ (y ∷ ys)) → P y
each_mid P [] y ys h = h.0
each_mid P (x ∷ xs) y ys h = each_mid P xs y ys h.1

module _ (program : SourceProgram) (depth : ℕ) (target : Target) where
  abbrev pub code_lines : List (Line Virtual)
  code_lines = (selected program).lines

  abbrev pub behind : ℕ → ℕ
  behind n = behind_label key code_lines n 0

  abbrev pub size : Line Virtual → ℕ
  size line = machine_size key depth behind target line.inst

  abbrev pub tagged_line : (ℕ → ℕ) → ℕ → Line Virtual → List (RvInstr × Tag)
  tagged_line places at line = tagged key depth behind target line.inst places at

  abbrev pub places : ℕ → ℕ
  places j = place_of size tagged_line code_lines 1 j

  abbrev pub code : ℕ → Line Virtual → List RvInstr
  code at line = machine key depth behind target line.inst places at

  pub sizes : (at : ℕ) (line : Line Virtual) → length (code at line) ≡ size line
  sizes at line = machine_sizes key depth behind target line.inst places at

  abbrev pub all : List (Chunk Virtual)
  all = chunks program

  abbrev pub room : Chunk Virtual → ℕ
  room c = chunk_size size c

  pub labels_none : (f k : ℕ) → size (label_line program f k) ≡ 0
  labels_none f k = label_size key depth behind target (block_label f k)

  -- ---- the piece of a place
  abbrev pub piece_code : ℕ → Chunk Virtual → List RvInstr
  piece_code at c = laid code size at c.lines

  piece_sizes : (at : ℕ) (c : Chunk Virtual) → length (piece_code at c) ≡ room c
  piece_sizes at c = length_laid code size sizes at c.lines

  pub lines_are : (at : ℕ) (cs : List (Chunk Virtual)) → laid code size at (lines_of cs) ≡ laid piece_code room at cs
  lines_are at [] = refl
  lines_are at (c ∷ cs) = laid_both code size at c.lines (lines_of cs) ∙ ap (λ (l : List RvInstr). laid code size at c.lines ++ l) (lines_are (at + total size c.lines) cs)

  pub lines_total : (cs : List (Chunk Virtual)) → total size (lines_of cs) ≡ total room cs
  lines_total [] = refl
  lines_total (c ∷ cs) =
      let e = total_both size c.lines (lines_of cs) in
      let f = lines_total cs in
      omega (arith, e, f)

  -- the whole code
  abbrev pub all_code : List RvInstr
  all_code = laid code size 1 code_lines

  all_is : all_code ≡ laid piece_code room 1 all
  all_is = ap (laid code size 1) (sym (chunks_are program)) ∙ lines_are 1 all

  pub all_long : length all_code ≡ total room all
  all_long = ap (λ (l : List RvInstr). length l) all_is ∙ length_laid piece_code room piece_sizes 1 all

  -- an instruction of the code at a place, in a piece of the source instruction i at number k of function f
  pub record PieceAt (place : ℕ) (x : RvInstr) : Type 0 where
    pub before : List (Chunk Virtual)
    pub chunk : Chunk Virtual
    pub after : List (Chunk Virtual)
    pub is : all ≡ before ++ (chunk ∷ after)
    pub offset : ℕ
    pub place_is : place ≡ 1 + total room before + offset
    pub inside : offset < room chunk
    pub get : slice_get (piece_code (1 + total room before) chunk) offset ≡ Some x

  pub piece_at : (place : ℕ) (x : RvInstr) → at_code all_code place ≡ Some x → PieceAt place x
  piece_at zero x e = absurd (none-some x e)
  piece_at (suc j) x e =
      let f = find piece_code room piece_sizes 1 all j x (ap (λ (l : List RvInstr). slice_get l j) (sym all_is) ∙ e) in
      let p = f.place in
      record { before = f.before; chunk = f.item; after = f.after; is = f.is; offset = f.offset; place_is = omega (arith, p); inside = f.inside; get = f.get }

  pub chunk_is : (before : List (Chunk Virtual)) (c : Chunk Virtual) (after : List (Chunk Virtual)) → all ≡ before ++ (c ∷ after) → IsChunk program c
  chunk_is before c after is = each_mid (IsChunk program) before c after (subst (Each (IsChunk program)) is (chunks_each program))

  pub label_empty : (c : Chunk Virtual) (f k : ℕ) → c ≡ label_chunk program f k → room c ≡ 0
  label_empty c f k e = let none = labels_none f k in ap room e ∙ omega (arith, none)

  pub phi_empty : (c : Chunk Virtual) (f k b : ℕ) (blocks : List Block) (i : Inst) → c ≡ piece_chunk program f k blocks b i → is_phi i ≡ true → room c ≡ 0
  phi_empty c f k b blocks i e phi = ap room e ∙ ap (total size) (phi_none program f k b blocks i phi)

  -- ---- what holds of all places
  module _ (P : ℕ → RvInstr → Type 0) where
    pub placed_lines : (at : ℕ) (xs ys : List (Line Virtual)) → Placed P at (laid code size at xs) → Placed P (at + total size xs) (laid code size (at + total size xs) ys) → Placed P at (laid code size at (xs ++ ys))
    placed_lines at xs ys h g =
        subst (Placed P at) (sym (laid_both code size at xs ys))
        (placed_both P at (laid code size at xs) (laid code size (at + total size xs) ys) h
        (subst (λ (n : ℕ). Placed P (at + n) (laid code size (at + total size xs) ys)) (sym (length_laid code size sizes at xs)) g))

    pub placed_line : (at : ℕ) (line : Line Virtual) (lines : List (Line Virtual)) → Placed P at (code at line) → Placed P (at + size line) (laid code size (at + size line) lines) → Placed P at (laid code size at (line ∷ lines))
    placed_line at line lines h g =
        placed_both P at (code at line) (laid code size (at + size line) lines) h
        (subst (λ (n : ℕ). Placed P (at + n) (laid code size (at + size line) lines)) (sym (sizes at line)) g)

    module _ (plain : Bool) (calm : (place : ℕ) (x : RvInstr) → IsCalm plain x → P place x) (f k : ℕ) where
      pub placed_silent : (at : ℕ) (is : List (MidInst Virtual)) → Levels plain is → Placed P at (laid code size at (map (silent f k) is))
      placed_silent at [] h = tt
      placed_silent at (i ∷ is) h =
          placed_line at (silent f k i) (map (silent f k) is) (placed_each P (IsCalm plain) calm at (machine key depth behind target i places at) (level_calm key depth behind target plain i h.0 places at))
          (placed_silent (at + size (silent f k i)) is h.1)

      pub placed_whole : (at : ℕ) (is : List (MidInst Virtual)) (last : MidInst Virtual) → Levels plain is → Placed P (at + total size (map (silent f k) is)) (machine key depth behind target last places (at + total size (map (silent f k) is))) → Placed P at (laid code size at (whole f k is last))
      placed_whole at is last h g =
          placed_lines at (map (silent f k) is) (acting f k last ∷ []) (placed_silent at is h) (placed_line (at + total size (map (silent f k) is)) (acting f k last) [] g tt)

      pub placed_label : (n at : ℕ) → Placed P at (machine key depth behind target (mid.Label n) places at)
      placed_label n at = subst (Placed P at) (sym (label_none key depth behind target n places at)) tt

      pub placed_trap : (at : ℕ) → Placed P at (machine key depth behind target mid.Trap places at)
      placed_trap at = placed_each P (IsCalm plain) calm at (machine key depth behind target mid.Trap places at) (trap_calm key depth behind target plain places at)

      -- the three instructions at the end of a branch
      pub record BranchHolds (at : ℕ) (test : Virtual) (a b : ℕ) : Type 0 where
        pub turn : P (at + branch_before key depth behind target test) (rv.Branch condition.NotEqual 5 0 (pos 2))
        pub low : P (at + branch_before key depth behind target test + 1) (jump_to (at + branch_before key depth behind target test + 1) (places (behind b)))
        pub high : P (at + branch_before key depth behind target test + 2) (jump_to (at + branch_before key depth behind target test + 2) (places (behind a)))

      pub placed_branch : (at : ℕ) (test : Virtual) (a b : ℕ) → BranchHolds at test a b → Placed P at (machine key depth behind target (mid.Branch test a b) places at)
      placed_branch at test a b h = branch_placed key depth behind target P plain calm test a b places at h.turn h.low h.high

      -- a trap that a branch passes over, and code behind it
      pub placed_guard : (at : ℕ) (test : Virtual) (rest : List (Line Virtual)) → BranchHolds at test (second_label f k) (first_label f k)
          → ((there : ℕ) → there ≡ at + total size (guard f k test) → Placed P there (laid code size there rest)) → Placed P at (laid code size at (guard f k test ++ rest))
      placed_guard at test rest h g =
          let turn = silent f k (mid.Branch test (second_label f k) (first_label f k)) in
          let first = silent f k (mid.Label (first_label f k)) in
          let trap = acting f k mid.Trap in
          let second = silent f k (mid.Label (second_label f k)) in
          let p = at + size turn in
          let q = p + size first in
          let r = q + size trap in
          let s = r + size second in
          let same : s ≡ at + total size (guard f k test) = omega arith in
          placed_line at turn (first ∷ trap ∷ second ∷ rest) (placed_branch at test (second_label f k) (first_label f k) h)
          (placed_line p first (trap ∷ second ∷ rest) (placed_label (first_label f k) p)
          (placed_line q trap (second ∷ rest) (placed_trap q)
          (placed_line r second rest (placed_label (second_label f k) r) (g s same))))

  -- ---- sizes of pieces
  pub whole_some : (plain leading : Bool) (f k : ℕ) (is : List (MidInst Virtual)) (last : MidInst Virtual) → IsLast plain leading f last → 0 < total size (whole f k is last)
  whole_some plain leading f k is last h =
      let here = last_some key depth behind target plain leading f last h in
      let both = total_both size (map (silent f k) is) (acting f k last ∷ []) in
      omega (arith, here, both)

  pub shape_some : (f k : ℕ) (plain leading : Bool) (o : Option Operation) (lines : List (Line Virtual)) → Shape f k plain leading o lines → 0 < total size lines
  shape_some f k plain leading o lines (Whole is last a b c e) = let here = whole_some plain leading f k is last b in subst (λ (l : List (Line Virtual)). 0 < total size l) (sym e) here
  shape_some f k plain leading o lines (Guarded js test is last a b c d e) =
      let here = whole_some plain leading f k is last c in
      let one = total_both size (map (silent f k) js) (guard f k test ++ whole f k is last) in
      let two = total_both size (guard f k test) (whole f k is last) in
      subst (λ (l : List (Line Virtual)). 0 < total size l) (sym e) (omega (arith, here, one, two))
  shape_some f k plain leading o lines (Forked first test is m js n a b c d g e) =
      let here = whole_some plain true f k is (mid.Jump (block_label f m)) (refl, (m, refl)) in
      let rest = silent f k (mid.Label (second_label f k)) ∷ whole f k js (mid.Jump (block_label f n)) in
      let two = total_both size (whole f k is (mid.Jump (block_label f m))) rest in
      subst (λ (l : List (Line Virtual)). 0 < total size l) (sym e) (omega (arith, here, two))
