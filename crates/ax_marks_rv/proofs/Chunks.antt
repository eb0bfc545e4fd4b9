-- The selected code of a program as pieces of one site each: the labels of blocks, and the code of instructions.
use Rattle.std.proofs.Common.{◌≡◌, ℕ, zero, suc, ◌+◌, ◌<◌, ◌≤◌, ◌⊎◌, inl, inr, Bool, true, false, ◌&&◌, List, [], ◌∷◌, ◌++◌, map, Option, Some, None, length, refl, sym, ap, ◌∙◌, subst, arith, append_assoc, slice_get}
use Rattle.std.specs.Prelude.{nat_eq}
use Rattle.std.proofs.lemmas.Bool.Decides.{nat_tests}
use Rattle.std.proofs.lemmas.Option.{none-some, same_Some, slice_get_within}
use Rattle.ax_words.specs.declared.place.Site.{Site}
use Rattle.ax_module.specs.declared.inst.Inst.{Inst}
use Rattle.ax_module.specs.declared.module.Block.{Block}
use Rattle.ax_module.specs.declared.module.Function.{Function}
use Rattle.ax_module.specs.Kinds.{is_phi}
use Rattle.ax_source_run.specs.SourcePointers.{blocks_in, insts_of}
use Rattle.ax_source_run.specs.SourceState.{SourceProgram}
use Rattle.ax_mid.specs.declared.code.Line.{Line}
use Rattle.ax_mid.specs.declared.instruction.MidInst.{MidInst}
use Rattle.ax_mid.specs.declared.instruction.MidInst.TheVariants as mid
use Rattle.ax_mid.specs.declared.registers.Virtual.{Virtual}
use Rattle.ax_emit.specs.Sites.{is_same_site}
use Rattle.ax_typed.proofs.Places.{all_insts}
use Rattle.ax_selected.specs.Operations.{Operation, operation_of}
use Rattle.ax_selected.specs.Registers.{block_label, second_label}
use Rattle.ax_selected.specs.Selected.{acting, blocks_lines, function_lines, functions_lines, insts_lines, label_line, piece, silent}
use Rattle.ax_marks_rv.proofs.Items.{Each, each_both, get_left, get_right, get_split}
use Rattle.ax_marks_rv.proofs.Ranges.{Chunk, Later, Rises, lines_of}
use Rattle.ax_marks_rv.proofs.Shapes.{Forked, Guarded, Shape, Whole, guard, is_leading, is_plain, phi_none, piece_shape, whole}

abbrev pub site_of : ℕ → ℕ → Site
site_of f k = record { function = f; instruction = k }

-- ---- the lines of a piece are at its site
abbrev pub AreAt : Site → List (Line Virtual) → Type 0
AreAt site lines = Each (λ (line : Line Virtual). line.site ≡ site) lines

module _ (f k : ℕ) where
  abbrev Own : List (Line Virtual) → Type 0
  Own lines = AreAt (site_of f k) lines

  own_both : (xs ys : List (Line Virtual)) → Own xs → Own ys → Own (xs ++ ys)
  own_both xs ys h g = each_both (λ (line : Line Virtual). line.site ≡ site_of f k) xs ys h g

  own_silent : (is : List (MidInst Virtual)) → Own (map (silent f k) is)
  own_silent [] = tt
  own_silent (i ∷ is) = (refl, own_silent is)

  own_whole : (is : List (MidInst Virtual)) (last : MidInst Virtual) → Own (map (silent f k) is ++ (acting f k last ∷ []))
  own_whole is last = own_both (map (silent f k) is) (acting f k last ∷ []) (own_silent is) (refl, tt)

  own_shape : (plain leading : Bool) (o : Option Operation) (lines : List (Line Virtual)) → Shape f k plain leading o lines → Own lines
  own_shape plain leading o lines (Whole is last a b c e) = subst Own (sym e) (own_whole is last)
  own_shape plain leading o lines (Guarded js test is last a b c d e) =
      subst Own (sym e) (own_both (map (silent f k) js) (guard f k test ++ whole f k is last) (own_silent js) (refl, (refl, (refl, (refl, own_whole is last)))))
  own_shape plain leading o lines (Forked first test is m js n a b c d g e) =
      subst Own (sym e) (refl, (refl, (refl, own_both (whole f k is (mid.Jump (block_label f m))) (silent f k (mid.Label (second_label f k)) ∷ whole f k js (mid.Jump (block_label f n))) (own_whole is (mid.Jump (block_label f m))) (refl, own_whole js (mid.Jump (block_label f n))))))

module _ (program : SourceProgram) where
  pub piece_own : (f k b : ℕ) (blocks : List Block) (i : Inst) → AreAt (site_of f k) (piece f k program blocks b i)
  piece_own f k b blocks i = by (is_phi i) refl
    where
      by : (q : Bool) → is_phi i ≡ q → AreAt (site_of f k) (piece f k program blocks b i)
      by true e = subst (AreAt (site_of f k)) (sym (phi_none program f k b blocks i e)) tt
      by false e = own_shape f k (is_plain i) (is_leading i) (operation_of i) (piece f k program blocks b i) (piece_shape program f k b blocks i e)

  -- ---- pieces, before others
  abbrev pub label_chunk : ℕ → ℕ → Chunk Virtual
  label_chunk f k = record { site = site_of f k; lines = label_line program f k ∷ [] }

  abbrev pub piece_chunk : ℕ → ℕ → List Block → ℕ → Inst → Chunk Virtual
  piece_chunk f k blocks b i = record { site = site_of f k; lines = piece f k program blocks b i }

  abbrev pub insts_chunks : ℕ → List Block → ℕ → ℕ → List Inst → List (Chunk Virtual) → List (Chunk Virtual)
  insts_chunks f all b k [] rest = rest
  insts_chunks f all b k (i ∷ insts) rest = piece_chunk f k all b i ∷ insts_chunks f all b (k + 1) insts rest

  abbrev pub blocks_chunks : ℕ → List Block → ℕ → ℕ → List Block → List (Chunk Virtual) → List (Chunk Virtual)
  blocks_chunks f all b k [] rest = rest
  blocks_chunks f all b k (block ∷ blocks) rest = label_chunk f k ∷ insts_chunks f all b k block.insts (blocks_chunks f all (b + 1) (k + length block.insts) blocks rest)

  abbrev pub functions_chunks : ℕ → List Function → List (Chunk Virtual)
  functions_chunks f [] = []
  functions_chunks f (g ∷ functions) = blocks_chunks f g.blocks 0 0 g.blocks (functions_chunks (f + 1) functions)

  abbrev pub chunks : List (Chunk Virtual)
  chunks = functions_chunks 0 program.source.functions

  -- ---- their lines are the code
  insts_are : (f : ℕ) (all : List Block) (b k : ℕ) (insts : List Inst) (rest : List (Chunk Virtual)) → lines_of (insts_chunks f all b k insts rest) ≡ insts_lines program f all b k insts ++ lines_of rest
  insts_are f all b k [] rest = refl
  insts_are f all b k (i ∷ insts) rest =
      ap (λ (l : List (Line Virtual)). piece f k program all b i ++ l) (insts_are f all b (k + 1) insts rest)
      ∙ sym (append_assoc (piece f k program all b i) (insts_lines program f all b (k + 1) insts) (lines_of rest))

  blocks_are : (f : ℕ) (all : List Block) (b k : ℕ) (blocks : List Block) (rest : List (Chunk Virtual)) → lines_of (blocks_chunks f all b k blocks rest) ≡ blocks_lines program f all b k blocks ++ lines_of rest
  blocks_are f all b k [] rest = refl
  blocks_are f all b k (block ∷ blocks) rest =
      let next = k + length block.insts in
      let own = insts_lines program f all b k block.insts in
      ap (λ (l : List (Line Virtual)). label_line program f k ∷ l)
      (insts_are f all b k block.insts (blocks_chunks f all (b + 1) next blocks rest)
      ∙ (ap (λ (l : List (Line Virtual)). own ++ l) (blocks_are f all (b + 1) next blocks rest)
      ∙ sym (append_assoc own (blocks_lines program f all (b + 1) next blocks) (lines_of rest))))

  functions_are : (f : ℕ) (functions : List Function) → lines_of (functions_chunks f functions) ≡ functions_lines program f functions
  functions_are f [] = refl
  functions_are f (g ∷ functions) =
      blocks_are f g.blocks 0 0 g.blocks (functions_chunks (f + 1) functions) ∙ ap (λ (l : List (Line Virtual)). function_lines program f g ++ l) (functions_are (f + 1) functions)

  pub chunks_are : lines_of chunks ≡ functions_lines program 0 program.source.functions
  chunks_are = functions_are 0 program.source.functions

  -- ---- each is a label's or an instruction's
  pub data IsChunk (c : Chunk Virtual) : Type 0 where
    OfLabel : (f k : ℕ) → c ≡ label_chunk f k → IsChunk c
    OfInst : (f k : ℕ) (blocks : List Block) (b : ℕ) (i : Inst) → slice_get (insts_of program.source f) k ≡ Some i → c ≡ piece_chunk f k blocks b i → IsChunk c

  abbrev AreChunks : List (Chunk Virtual) → Type 0
  AreChunks cs = Each IsChunk cs

  -- these are instructions of function f, from number k on
  abbrev StandFrom : ℕ → ℕ → List Inst → Type 0
  StandFrom f k insts = (m : ℕ) (i : Inst) → slice_get insts m ≡ Some i → slice_get (insts_of program.source f) (k + m) ≡ Some i

  insts_each : (f : ℕ) (all : List Block) (b k : ℕ) (insts : List Inst) (rest : List (Chunk Virtual)) → StandFrom f k insts → AreChunks rest → AreChunks (insts_chunks f all b k insts rest)
  insts_each f all b k [] rest at h = h
  insts_each f all b k (i ∷ insts) rest at h =
      let first : k + 0 ≡ k = omega arith in (
        OfInst f k all b i (subst (λ (n : ℕ). slice_get (insts_of program.source f) n ≡ Some i) first (at 0 i refl)) refl,
        insts_each f all b (k + 1) insts rest (λ m x e. let next : k + suc m ≡ k + 1 + m = omega arith in subst (λ (n : ℕ). slice_get (insts_of program.source f) n ≡ Some x) next (at (suc m) x e)) h,
      )

  blocks_each : (f : ℕ) (all : List Block) (b k : ℕ) (blocks : List Block) (rest : List (Chunk Virtual)) → StandFrom f k (all_insts blocks) → AreChunks rest → AreChunks (blocks_chunks f all b k blocks rest)
  blocks_each f all b k [] rest at h = h
  blocks_each f all b k (block ∷ blocks) rest at h =
      let n = length block.insts in (
        OfLabel f k refl,
        insts_each f all b k block.insts (blocks_chunks f all (b + 1) (k + n) blocks rest) (λ m x e. at m x (get_left block.insts (all_insts blocks) m (slice_get_within block.insts m x e) ∙ e))
            (blocks_each f all (b + 1) (k + n) blocks rest (λ m x e.
            let next : k + (n + m) ≡ k + n + m = omega arith in
            subst (λ (j : ℕ). slice_get (insts_of program.source f) j ≡ Some x) next (at (n + m) x (get_right block.insts (all_insts blocks) (n + m) m refl ∙ e))) h),
      )

  functions_each : (f : ℕ) (functions : List Function) → ((n : ℕ) (g : Function) → slice_get functions n ≡ Some g → slice_get program.source.functions (f + n) ≡ Some g) → AreChunks (functions_chunks f functions)
  functions_each f [] at = tt
  functions_each f (g ∷ functions) at =
      let first : f + 0 ≡ f = omega arith in
      let own : slice_get program.source.functions f ≡ Some g = subst (λ (n : ℕ). slice_get program.source.functions n ≡ Some g) first (at 0 g refl) in
      blocks_each f g.blocks 0 0 g.blocks (functions_chunks (f + 1) functions)
      (λ m i e. let same : 0 + m ≡ m = omega arith in ap (λ (o : Option Function). slice_get (all_insts (blocks_in o)) (0 + m)) own ∙ (ap (slice_get (all_insts g.blocks)) same ∙ e))
      (functions_each (f + 1) functions (λ n h e. let next : f + suc n ≡ f + 1 + n = omega arith in subst (λ (m : ℕ). slice_get program.source.functions m ≡ Some h) next (at (suc n) h e)))

  pub chunks_each : AreChunks chunks
  chunks_each = functions_each 0 program.source.functions (λ n g e. let same : n ≡ 0 + n = omega arith in subst (λ (m : ℕ). slice_get program.source.functions m ≡ Some g) same e)

  -- ---- each instruction has one
  pub record StandsIn (cs : List (Chunk Virtual)) (c : Chunk Virtual) : Type 0 where
    pub before : List (Chunk Virtual)
    pub after : List (Chunk Virtual)
    pub is : cs ≡ before ++ (c ∷ after)

  deeper : (x : Chunk Virtual) (cs : List (Chunk Virtual)) (c : Chunk Virtual) → StandsIn cs c → StandsIn (x ∷ cs) c
  deeper x cs c s = record { before = x ∷ s.before; after = s.after; is = ap (λ (l : List (Chunk Virtual)). x ∷ l) s.is }

  past_insts : (f : ℕ) (all : List Block) (b k : ℕ) (insts : List Inst) (rest : List (Chunk Virtual)) (c : Chunk Virtual) → StandsIn rest c → StandsIn (insts_chunks f all b k insts rest) c
  past_insts f all b k [] rest c s = s
  past_insts f all b k (i ∷ insts) rest c s = deeper (piece_chunk f k all b i) (insts_chunks f all b (k + 1) insts rest) c (past_insts f all b (k + 1) insts rest c s)

  past_blocks : (f : ℕ) (all : List Block) (b k : ℕ) (blocks : List Block) (rest : List (Chunk Virtual)) (c : Chunk Virtual) → StandsIn rest c → StandsIn (blocks_chunks f all b k blocks rest) c
  past_blocks f all b k [] rest c s = s
  past_blocks f all b k (block ∷ blocks) rest c s =
      let next = blocks_chunks f all (b + 1) (k + length block.insts) blocks rest in
      deeper (label_chunk f k) (insts_chunks f all b k block.insts next) c (past_insts f all b k block.insts next c (past_blocks f all (b + 1) (k + length block.insts) blocks rest c s))

  in_insts : (f : ℕ) (all : List Block) (b k : ℕ) (insts : List Inst) (rest : List (Chunk Virtual)) (m n : ℕ) (i : Inst) → n ≡ k + m → slice_get insts m ≡ Some i → StandsIn (insts_chunks f all b k insts rest) (piece_chunk f n all b i)
  in_insts f all b k [] rest m n i e h = absurd (none-some i h)
  in_insts f all b k (x ∷ insts) rest zero n i e h =
      let same : k ≡ n = omega (arith, e) in
      subst (λ (c : Chunk Virtual). StandsIn (piece_chunk f k all b x ∷ insts_chunks f all b (k + 1) insts rest) c)
      (ap (λ (j : ℕ). piece_chunk f j all b x) same ∙ ap (piece_chunk f n all b) (same_Some x i h))
      (record { before = []; after = insts_chunks f all b (k + 1) insts rest; is = refl })
  in_insts f all b k (x ∷ insts) rest (suc m) n i e h =
      deeper (piece_chunk f k all b x) (insts_chunks f all b (k + 1) insts rest) (piece_chunk f n all b i) (in_insts f all b (k + 1) insts rest m n i (omega (arith, e)) h)

  in_blocks : (f : ℕ) (all : List Block) (b k : ℕ) (blocks : List Block) (rest : List (Chunk Virtual)) (m n : ℕ) (i : Inst) → n ≡ k + m → slice_get (all_insts blocks) m ≡ Some i → (d : ℕ) × StandsIn (blocks_chunks f all b k blocks rest) (piece_chunk f n all d i)
  in_blocks f all b k [] rest m n i e h = absurd (none-some i h)
  in_blocks f all b k (block ∷ blocks) rest m n i e h =
      let next = blocks_chunks f all (b + 1) (k + length block.insts) blocks rest in
      elim (get_split block.insts (all_insts blocks) m i h) [
        | inl g ↦ (b, deeper (label_chunk f k) (insts_chunks f all b k block.insts next) (piece_chunk f n all b i) (in_insts f all b k block.insts next m n i e g))
        | inr r ↦
            let p = r.1 in
            let s = in_blocks f all (b + 1) (k + length block.insts) blocks rest r.0 n i (omega (arith, e, p)) r.2 in
            (s.0, deeper (label_chunk f k) (insts_chunks f all b k block.insts next) (piece_chunk f n all s.0 i) (past_insts f all b k block.insts next (piece_chunk f n all s.0 i) s.1))
      ]

  in_functions : (f : ℕ) (functions : List Function) (n h k : ℕ) (g : Function) (i : Inst) → h ≡ f + n → slice_get functions n ≡ Some g → slice_get (all_insts g.blocks) k ≡ Some i → (d : ℕ) × StandsIn (functions_chunks f functions) (piece_chunk h k g.blocks d i)
  in_functions f [] n h k g i e at p = absurd (none-some g at)
  in_functions f (x ∷ functions) zero h k g i e at p =
      let same : f ≡ h = omega (arith, e) in
      let is = same_Some x g at in
      let own = in_blocks f x.blocks 0 0 x.blocks (functions_chunks (f + 1) functions) k k i (omega arith) (ap (λ (y : Function). slice_get (all_insts y.blocks) k) is ∙ p) in
      (own.0, subst (λ (c : Chunk Virtual). StandsIn (functions_chunks f (x ∷ functions)) c) (ap (λ (j : ℕ). piece_chunk j k x.blocks own.0 i) same ∙ ap (λ (y : Function). piece_chunk h k y.blocks own.0 i) is) own.1)
  in_functions f (x ∷ functions) (suc n) h k g i e at p =
      let s = in_functions (f + 1) functions n h k g i (omega (arith, e)) at p in
      (s.0, past_blocks f x.blocks 0 0 x.blocks (functions_chunks (f + 1) functions) (piece_chunk h k g.blocks s.0 i) s.1)

  pub record HasChunk (f k : ℕ) (i : Inst) : Type 0 where
    pub blocks : List Block
    pub block : ℕ
    pub stands : StandsIn chunks (piece_chunk f k blocks block i)

  pub has_chunk : (f k : ℕ) (i : Inst) → slice_get (insts_of program.source f) k ≡ Some i → HasChunk f k i
  has_chunk f k i e = by (slice_get program.source.functions f) refl e
    where
      by : (o : Option Function) → slice_get program.source.functions f ≡ o → slice_get (all_insts (blocks_in o)) k ≡ Some i → HasChunk f k i
      by None is h = absurd (none-some i h)
      by (Some g) is h =
          let s = in_functions 0 program.source.functions f f k g i (omega arith) is h in
          record { blocks = g.blocks; block = s.0; stands = s.1 }

  -- ---- their sites rise
  abbrev IsFrom : ℕ → ℕ → Site → Type 0
  IsFrom f k s = (f < s.function) ⊎ ((f ≡ s.function) × (k ≤ s.instruction))

  abbrev AreFrom : ℕ → ℕ → List (Chunk Virtual) → Type 0
  AreFrom f k [] = Unit {0}
  AreFrom f k (c ∷ cs) = IsFrom f k c.site × AreFrom f k cs

  less_from : (f k m : ℕ) (cs : List (Chunk Virtual)) → k ≤ m → AreFrom f m cs → AreFrom f k cs
  less_from f k m [] le h = tt
  less_from f k m (c ∷ cs) le h = (by h.0, less_from f k m cs le h.1)
    where
      by : IsFrom f m c.site → IsFrom f k c.site
      by (inl lt) = inl lt
      by (inr r) = let e = r.1 in inr (r.0, omega (arith, le, e))

  next_from : (f k : ℕ) (cs : List (Chunk Virtual)) → AreFrom (f + 1) 0 cs → AreFrom f k cs
  next_from f k [] h = tt
  next_from f k (c ∷ cs) h = (by h.0, next_from f k cs h.1)
    where
      by : IsFrom (f + 1) 0 c.site → IsFrom f k c.site
      by (inl lt) = inl (omega (arith, lt))
      by (inr r) = let e = r.0 in inl (omega (arith, e))

  other : (a b : ℕ) → a < b → nat_eq a b ≡ false
  other a b h = grind (arith, nat_tests, h)

  not_same : (f k : ℕ) (s : Site) → IsFrom f (k + 1) s → is_same_site (site_of f k) s ≡ false
  not_same f k s (inl lt) = ap (λ (q : Bool). q && nat_eq k s.instruction) (other f s.function lt)
  not_same f k s (inr r) = let e = r.1 in ap (λ (q : Bool). nat_eq f s.function && q) (other k s.instruction (omega (arith, e))) ∙ never (nat_eq f s.function)
    where
      never : (q : Bool) → (q && false) ≡ false
      never true = refl
      never false = refl

  module _ (size : Line Virtual → ℕ) (labels : (f k : ℕ) → size (label_line program f k) ≡ 0) where
    later : (f k : ℕ) (cs : List (Chunk Virtual)) → AreFrom f (k + 1) cs → Later size (site_of f k) cs
    later f k [] h = tt
    later f k (c ∷ cs) h = ((λ some. not_same f k c.site h.0), later f k cs h.1)

    record Rising (f k : ℕ) (cs : List (Chunk Virtual)) : Type 0 where
      from : AreFrom f k cs
      rises : Rises size cs

    insts_rise : (f : ℕ) (all : List Block) (b k : ℕ) (insts : List Inst) (rest : List (Chunk Virtual)) → Rising f (k + length insts) rest → Rising f k (insts_chunks f all b k insts rest)
    insts_rise f all b k [] rest r = let same : k + 0 ≡ k = omega arith in subst (λ (n : ℕ). Rising f n rest) same r
    insts_rise f all b k (i ∷ insts) rest r =
        let same : k + suc (length insts) ≡ k + 1 + length insts = omega arith in
        let more = insts_rise f all b (k + 1) insts rest (subst (λ (n : ℕ). Rising f n rest) same r) in
        let cs = insts_chunks f all b (k + 1) insts rest in
        record { from = (inr (refl, omega arith), less_from f k (k + 1) cs (omega arith) more.from); rises = (piece_own f k b all i, ((λ some. later f k cs more.from), more.rises)) }

    blocks_rise : (f : ℕ) (all : List Block) (b k : ℕ) (blocks : List Block) (rest : List (Chunk Virtual)) → Rising (f + 1) 0 rest → Rising f k (blocks_chunks f all b k blocks rest)
    blocks_rise f all b k [] rest r = record { from = next_from f k rest r.from; rises = r.rises }
    blocks_rise f all b k (block ∷ blocks) rest r =
        let next = blocks_chunks f all (b + 1) (k + length block.insts) blocks rest in
        let more = insts_rise f all b k block.insts next (blocks_rise f all (b + 1) (k + length block.insts) blocks rest r) in
        let none = labels f k in
        record { from = (inr (refl, omega arith), more.from); rises = ((refl, tt), ((λ some. absurd (omega (arith, some, none))), more.rises)) }

    functions_rise : (f : ℕ) (functions : List Function) → Rising f 0 (functions_chunks f functions)
    functions_rise f [] = record { from = tt; rises = tt }
    functions_rise f (g ∷ functions) = blocks_rise f g.blocks 0 0 g.blocks (functions_chunks (f + 1) functions) (functions_rise (f + 1) functions)

    pub chunks_rise : Rises size chunks
    chunks_rise = (functions_rise 0 program.source.functions).rises
