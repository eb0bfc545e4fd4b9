-- THE IMAGE OF EACH BUILT ACCEPTED MODULE HAS ITS ROWS.
use Rattle.std.proofs.Common.{◌≡◌, ℕ, suc, ◌+◌, ◌-◌, ◌<◌, ◌≤◌, ◌^◌, inl, inr, Bool, true, false, ◌&&◌, List, [], ◌∷◌, ◌++◌, Some, length, refl, sym, ap, ◌∙◌, subst, arith, slice_get}
use Rattle.std.proofs.lemmas.Bool.{and_parts, false≢true}
use Rattle.std.proofs.lemmas.List.{append-nil, length-map}
use Rattle.std.proofs.lemmas.Option.{none-some, same_Some}
use Rattle.ax_words.specs.declared.mark.Mark.{Mark}
use Rattle.ax_words.specs.declared.place.Site.{Site}
use Rattle.ax_words.specs.Orders.{is_legal}
use Rattle.ax_target.specs.declared.target.Target.{Target}
use Rattle.ax_target.specs.Decisions.{is_rv64}
use Rattle.ax_target.specs.Rows.{access_of}
use Rattle.ax_module.specs.declared.inst.Inst.{Inst}
use Rattle.ax_module.specs.declared.inst.Inst.TheVariants as inst
use Rattle.ax_module.specs.declared.module.Block.{Block}
use Rattle.ax_module.specs.Kinds.{is_phi}
use Rattle.ax_source_run.specs.SourcePointers.{insts_of}
use Rattle.ax_source_run.specs.SourceState.{SourceProgram}
use Rattle.ax_isa.specs.declared.images.Image.{Image}
use Rattle.ax_isa.specs.declared.images.SiteRange.{SiteRange}
use Rattle.ax_isa.specs.Processor.{Processor}
use Rattle.ax_isa.specs.Run.{at_code}
use Rattle.ax_agree.specs.Rows.{HasRows, IsEnteredFirst, IsOutside, StaysInline, codes_from, is_inline, range_of, row_at, skeleton_of}
use Rattle.ax_rv.specs.declared.instructions.RvInstr.{RvInstr}
use Rattle.ax_rv.specs.Instructions.{rv_kind}
use Rattle.ax_mid.specs.declared.code.Line.{Line}
use Rattle.ax_mid.specs.declared.registers.Virtual.{Virtual}
use Rattle.ax_mid.specs.WellFormed.{HasWayIn}
use Rattle.ax_emit.specs.Sites.{ranges_from}
use Rattle.ax_emit.specs.Images.{Drafted}
use Rattle.ax_emit_rv.specs.Code.{code_of, size_of}
use Rattle.ax_selected.specs.Direct.{is_direct, needs_no_routine}
use Rattle.ax_selected.specs.Formed.{IsFormed, SelectedCodeIsFormed}
use Rattle.ax_selected.specs.Operations.{Operation, operation_of}
use Rattle.ax_selected.specs.Selected.{selected}
use Rattle.ax_llsc.specs.Laws.{DirectCodeHasRow}
use Rattle.ax_image_rv.specs.Image.{frame_depth, rv_places, rv_program}
use Rattle.ax_direct_rv.specs.Direct.{direct_draft, direct_expansions, direct_image, is_coded, is_direct_module}
use Rattle.ax_marks_rv.specs.Marked.{DirectImagesHaveRows}
use Rattle.ax_marks_rv.proofs.Chunks.{IsChunk, OfInst, OfLabel, chunks, chunks_are, chunks_rise, has_chunk, piece_chunk, site_of}
use Rattle.ax_marks_rv.proofs.Codes.{marks_in}
use Rattle.ax_marks_rv.proofs.Guards.{StaysAt, at_lines, shape_stays}
use Rattle.ax_marks_rv.proofs.Items.{Each, apart, boundary, laid, length_laid, placed_at, total, total_both}
use Rattle.ax_marks_rv.proofs.Laying.{PieceAt, all_code, all_long, chunk_is, code, code_lines, label_empty, labels_none, phi_empty, piece_at, room, shape_some, size, sizes}
use Rattle.ax_marks_rv.proofs.Places.{codes_are, draft_code}
use Rattle.ax_marks_rv.proofs.Ranges.{Chunk, ChunkOf, chunk_of, chunk_ranges, lines_of, range_at, range_of_chunk, ranges_are}
use Rattle.ax_marks_rv.proofs.Rows.{HasRowsOf, IsReady, each_passes, inline_straight, inst_row, plain_row, rv_has_rows, shape_last, shape_marks, way_of}
use Rattle.ax_marks_rv.proofs.Shapes.{Shape, is_leading, is_plain, piece_shape}
use Rattle.ax_marks_rv.proofs.Targets.{Aims, Leads, round, shape_aims}

-- the laws on which the rows stand
pub record Laws : Type 0 where
  pub rows : DirectCodeHasRow
  pub formed : SelectedCodeIsFormed

-- ---- lists
each_of : {A : Type 0} (P : A → Type 0) (xs : List A) → ((j : ℕ) (x : A) → slice_get xs j ≡ Some x → P x) → Each P xs
each_of P [] h = tt
each_of P (x ∷ xs) h = (h 0 x refl, each_of P xs (λ j y e. h (suc j) y e))

each_among : {A : Type 0} (P : A → Type 0) (xs ys zs : List A) → Each P (xs ++ (ys ++ zs)) → Each P ys
each_among P (x ∷ xs) ys zs h = each_among P xs ys zs h.1
each_among P [] [] zs h = tt
each_among P [] (y ∷ ys) zs h = (h.0, each_among P [] ys zs h.1)

-- an inline instruction is no plain access, and goes to no other block
inline_stays : (target : Target) (i : Inst) → is_inline target i ≡ true → (is_plain i ≡ false) × (is_leading i ≡ false)
unfolding is_inline
inline_stays target (inst.Load t a align) h = absurd (false≢true h)
inline_stays target (inst.Store t v a align) h = absurd (false≢true h)
inline_stays target (inst.Jump d) h = absurd (false≢true h)
inline_stays target (inst.Branch v d e) h = absurd (false≢true h)
inline_stays target inst.RetVoid h = absurd (false≢true h)
inline_stays target _ h = (refl, refl)

module _ (program : SourceProgram) (rows : HasRowsOf program.target) (formed : IsFormed program (selected program)) (needs : needs_no_routine program ≡ true) (coded : is_direct_module program ≡ true) (short : length (direct_draft program) + 1 < 2 ^ 32) where
  abbrev target : Target
  target = program.target

  abbrev image : Image RvInstr
  image = direct_image program

  abbrev sized : Line Virtual → ℕ
  sized line = size program frame_depth target line

  abbrev wide : Chunk Virtual → ℕ
  wide c = room program frame_depth target c

  abbrev all : List (Chunk Virtual)
  all = chunks program

  -- ---- the image
  code_is : image.code ≡ all_code program frame_depth target
  code_is = draft_code (size_of (rv_program program) (direct_expansions target)) (code_of (rv_program program) (direct_expansions target)) (rv_places program (direct_expansions target)) (selected program).lines 1 0

  sites_are : image.sites ≡ chunk_ranges sized 1 all
  sites_are = ap (ranges_from sized 1) (sym (chunks_are program)) ∙ ranges_are sized 1 all (chunks_rise program sized (labels_none program frame_depth target))

  few : 1 + total wide all < 2 ^ 32
  few =
      let a = length-map (direct_draft program) (λ (d : Drafted RvInstr). d.inst) in
      let b = ap (λ (l : List RvInstr). length l) code_is ∙ all_long program frame_depth target in
      omega (arith, short, a, b)

  -- ---- a piece with code is an instruction's
  record InstIn (c : Chunk Virtual) : Type 0 where
    function : ℕ
    number : ℕ
    blocks : List Block
    block : ℕ
    inst : Inst
    has : slice_get (insts_of program.source function) number ≡ Some inst
    own : c ≡ piece_chunk program function number blocks block inst
    no_phi : is_phi inst ≡ false

  inst_in : (c : Chunk Virtual) → IsChunk program c → 0 < wide c → InstIn c
  inst_in c (OfLabel f k own) some = let none = label_empty program frame_depth target c f k own in absurd (omega (arith, some, none))
  inst_in c (OfInst f k blocks b i has own) some = by (is_phi i) refl
    where
      by : (q : Bool) → is_phi i ≡ q → InstIn c
      by true phi = let none = phi_empty program frame_depth target c f k b blocks i own phi in absurd (omega (arith, some, none))
      by false phi = record { function = f; number = k; blocks = blocks; block = b; inst = i; has = has; own = own; no_phi = phi }

  shape_in : (c : Chunk Virtual) (x : InstIn c) → Shape x.function x.number (is_plain x.inst) (is_leading x.inst) (operation_of x.inst) c.lines
  shape_in c x =
      subst (λ (d : Chunk Virtual). Shape x.function x.number (is_plain x.inst) (is_leading x.inst) (operation_of x.inst) d.lines) (sym x.own) (piece_shape program x.function x.number x.block x.blocks x.inst x.no_phi)

  -- ---- each instruction but a phi has a range
  covered : (f k : ℕ) (i : Inst) → slice_get (insts_of program.source f) k ≡ Some i → is_phi i ≡ false → (n : ℕ) × (r : SiteRange) × (slice_get image.sites n ≡ Some r) × (r.site ≡ record { function = f; instruction = k })
  covered f k i at phi =
      let h = has_chunk program f k i at in
      let c = piece_chunk program f k h.blocks h.block i in
      let some = shape_some program frame_depth target f k (is_plain i) (is_leading i) (operation_of i) c.lines (piece_shape program f k h.block h.blocks i phi) in
      let r = range_of_chunk sized 1 h.stands.before c h.stands.after some in (
        r.0,
        range_at c.site (1 + total wide h.stands.before) (wide c),
        ap (λ (rs : List SiteRange). slice_get rs r.0) sites_are ∙ (ap (λ (cs : List (Chunk Virtual)). slice_get (chunk_ranges sized 1 cs) r.0) h.stands.is ∙ r.1),
        refl,
      )

  -- ---- the piece of a range
  piece_of_range : (n : ℕ) (r : SiteRange) → slice_get image.sites n ≡ Some r → ChunkOf sized 1 all r
  piece_of_range n r e = chunk_of sized 1 all n r (ap (λ (rs : List SiteRange). slice_get rs n) (sym sites_are) ∙ e)

  inst_of_range : (r : SiteRange) (w : ChunkOf sized 1 all r) → InstIn w.chunk
  inst_of_range r w = inst_in w.chunk (chunk_is program frame_depth target w.before w.chunk w.after w.is) w.some

  site_is : (r : SiteRange) (w : ChunkOf sized 1 all r) (x : InstIn w.chunk) → r.site ≡ site_of x.function x.number
  site_is r w x = ap (λ (s : SiteRange). s.site) w.range ∙ ap (λ (c : Chunk Virtual). c.site) x.own

  at_site : (r : SiteRange) (w : ChunkOf sized 1 all r) (x : InstIn w.chunk) → slice_get (insts_of program.source r.site.function) r.site.instruction ≡ Some x.inst
  at_site r w x = ap (λ (s : Site). slice_get (insts_of program.source s.function) s.instruction) (site_is r w x) ∙ x.has

  -- the code of a piece
  code_at : ℕ → Chunk Virtual → List RvInstr
  code_at at c = laid (code program frame_depth target) sized at c.lines

  module _ (before : List (Chunk Virtual)) (c : Chunk Virtual) (after : List (Chunk Virtual)) (is : all ≡ before ++ (c ∷ after)) where
    at_chunk : (j : ℕ) → j < wide c → at_code image.code (1 + total wide before + j) ≡ slice_get (laid (code program frame_depth target) sized (1 + total wide before) c.lines) j
    at_chunk j less =
        let start = 1 + total wide before in
        let same : start + 0 ≡ start = omega arith in
        at_lines program frame_depth target image code_is formed.labels before c after is few 0 0 [] c.lines [] (sym (append-nil c.lines)) (start + j) j (omega arith) less
        ∙ ap (λ (at : ℕ). slice_get (laid (code program frame_depth target) sized at c.lines) j) same

    codes_of_chunk : codes_from image.code (1 + total wide before) (wide c) ≡ laid (code program frame_depth target) sized (1 + total wide before) c.lines
    codes_of_chunk =
        let start = 1 + total wide before in
        let own = laid (code program frame_depth target) sized start c.lines in
        let long = length_laid (code program frame_depth target) sized (sizes program frame_depth target) start c.lines in
        ap (codes_from image.code start) (sym long) ∙ codes_are image.code own start (λ j less. at_chunk j (omega (arith, less, long)))

    -- its operation has an order that is legal
    legal_in : (x : InstIn c) (o : Operation) → operation_of x.inst ≡ Some o → is_legal (access_of o.op) o.order ≡ true
    legal_in x o e =
        let P = λ (line : Line Virtual). HasWayIn target line.inst in
        let every = each_of P (code_lines program frame_depth target) (λ j line at. formed.ways needs j line at) in
        let own = each_among P (lines_of before) c.lines (lines_of after) (subst (Each P) (round program frame_depth target before c after is) every) in
        let l = shape_last program frame_depth target x.function x.number P (is_plain x.inst) (is_leading x.inst) (operation_of x.inst) c.lines (shape_in c x) own o e in
        way_of target l.0 o l.1 l.2

    ready : (x : InstIn c) → IsReady target x.inst
    ready x =
        record {
          coded = each_passes (is_coded target) program coded x.function x.number x.inst x.has;
          direct = each_passes (is_direct target) program needs x.function x.number x.inst x.has;
          legal = legal_in x;
        }

    row_in : (x : InstIn c) (marks : List Mark) → row_at target x.inst ≡ Some marks → marks_in (laid (code program frame_depth target) sized (1 + total wide before) c.lines) ≡ marks
    row_in x marks e = by (is_plain x.inst) refl
      where
        by : (q : Bool) → is_plain x.inst ≡ q → marks_in (laid (code program frame_depth target) sized (1 + total wide before) c.lines) ≡ marks
        by true plain = absurd (none-some marks (sym (plain_row target x.inst plain) ∙ e))
        by false plain =
            let shape = subst (λ (q : Bool). Shape x.function x.number q (is_leading x.inst) (operation_of x.inst) c.lines) plain (shape_in c x) in
            shape_marks program frame_depth target x.function x.number (is_leading x.inst) (operation_of x.inst) c.lines shape (1 + total wide before)
            ∙ inst_row target rows x.inst (ready x) marks e

  range_code : (r : SiteRange) (w : ChunkOf sized 1 all r) → range_of image.code r ≡ laid (code program frame_depth target) sized (1 + total wide w.before) w.chunk.lines
  range_code r w =
      let start = 1 + total wide w.before in
      let some = w.some in
      let count : start + wide w.chunk - 1 + 1 - start ≡ wide w.chunk = omega (arith, some) in
      ap (range_of image.code) w.range ∙ (ap (codes_from image.code start) count ∙ codes_of_chunk w.before w.chunk w.after w.is)

  has_row : (n : ℕ) (r : SiteRange) → slice_get image.sites n ≡ Some r
      → (i : Inst) × (slice_get (insts_of program.source r.site.function) r.site.instruction ≡ Some i) × ((marks : List Mark) → row_at target i ≡ Some marks → skeleton_of rv_kind (range_of image.code r) ≡ marks)
  has_row n r e =
      let w = piece_of_range n r e in
      let x = inst_of_range r w in
      (x.inst, at_site r w x, (λ marks row. ap marks_in (range_code r w) ∙ row_in w.before w.chunk w.after w.is x marks row))

  -- ---- all code is in ranges
  none_outside : (place : ℕ) (i : RvInstr) → at_code image.code place ≡ Some i → IsOutside image place → ⊥
  none_outside place i get out =
      let p = piece_at program frame_depth target place i (ap (λ (l : List RvInstr). at_code l place) (sym code_is) ∙ get) in
      let at = p.place_is in
      let inside = p.inside in
      let r = range_of_chunk sized 1 p.before p.chunk p.after (omega (arith, inside)) in
      let range = range_at p.chunk.site (1 + total wide p.before) (wide p.chunk) in
      elim (out.sites r.0 range (ap (λ (rs : List SiteRange). slice_get rs r.0) sites_are ∙ (ap (λ (cs : List (Chunk Virtual)). slice_get (chunk_ranges sized 1 cs) r.0) p.is ∙ r.1))) [
        | inl low ↦ omega (arith, low, at)
        | inr high ↦ omega (arith, high, at, inside)
      ]

  -- ---- a range is entered at its first place
  entered : (n : ℕ) (r : SiteRange) → slice_get image.sites n ≡ Some r → IsEnteredFirst rv_kind image r.first r.last
  entered n r e place i get out c here q leads from to =
      by (placed_at (Leads program frame_depth target formed.labels p.before p.chunk p.after p.is few) start (laid (code program frame_depth target) sized start p.chunk.lines) p.offset i
      (shape_aims program frame_depth target formed.labels p.before p.chunk p.after p.is few x.function x.number (is_plain x.inst) (is_leading x.inst) (operation_of x.inst) (shape_in p.chunk x)) p.get (omega (arith, at, low)) c (here ∙ at) q leads)
    where
      w : ChunkOf sized 1 all r
      w = piece_of_range n r e

      p : PieceAt program frame_depth target place i
      p = piece_at program frame_depth target place i (ap (λ (l : List RvInstr). at_code l place) (sym code_is) ∙ get)

      start : ℕ
      start = 1 + total wide p.before

      at : place ≡ start + p.offset
      at = p.place_is

      inside : p.offset < wide p.chunk
      inside = p.inside

      x : InstIn p.chunk
      x = inst_in p.chunk (chunk_is program frame_depth target p.before p.chunk p.after p.is) (omega (arith, inside))

      low : place < 2 ^ 32
      low = (let long = ap (λ (cs : List (Chunk Virtual)). total wide cs) p.is ∙ total_both wide p.before (p.chunk ∷ p.after) in omega (arith, few, long, at, inside))

      first : r.first ≡ 1 + total wide w.before
      first = ap (λ (s : SiteRange). s.first) w.range

      last : r.last ≡ 1 + total wide w.before + wide w.chunk - 1
      last = ap (λ (s : SiteRange). s.last) w.range

      some : 0 < wide w.chunk
      some = w.some

      by : Aims program frame_depth target formed.labels p.before p.chunk p.after p.is q → q ≡ r.first
      by (inl b) =
          let there = b.place in
          elim (boundary wide b.before b.after w.before w.chunk w.after (sym b.is ∙ w.is)) [
            | inl h ↦ omega (arith, h, there, first, from)
            | inr h ↦ absurd (omega (arith, h, there, last, some, to))
          ]
      by (inr h) =
          let lo = h.0 in
          let hi = h.1 in
          elim (apart wide p.before p.chunk p.after w.before w.chunk w.after (sym p.is ∙ w.is)) [
            | inl b ↦ omega (arith, b, hi, first, from)
            | inr o ↦ elim o [
              | inl b ↦ absurd (omega (arith, b, lo, last, some, to))
              | inr s ↦
                  let same = s.0 in
                  let long = ap wide s.1 in
                  absurd (elim out [
                    | inl before ↦ omega (arith, before, first, same, at)
                    | inr after ↦ omega (arith, after, last, same, long, at, inside)
                  ])
            ]
          ]

  -- ---- nothing leads out of an inline instruction's code
  stays : (n : ℕ) (r : SiteRange) → slice_get image.sites n ≡ Some r → (i : Inst) → slice_get (insts_of program.source r.site.function) r.site.instruction ≡ Some i → is_inline target i ≡ true
      → (place : ℕ) (x : RvInstr) → at_code image.code place ≡ Some x → r.first ≤ place → place ≤ r.last → (c : Processor) → c.place ≡ place → StaysInline rv_kind image r.last place (rv_kind.effect_of x c)
  stays n r e i has is place x get from to c here =
      subst (λ (l : ℕ). StaysInline rv_kind image l place (rv_kind.effect_of x c)) (sym ends)
      (subst (λ (m : ℕ). StaysInline rv_kind image (start + wide w.chunk - 1) m (rv_kind.effect_of x c)) (sym at)
      (placed_at (StaysAt program frame_depth target image code_is formed.labels w.before w.chunk w.after w.is few y.function y.number) start (laid (code program frame_depth target) sized start w.chunk.lines) p.offset x
      (shape_stays program frame_depth target image code_is formed.labels w.before w.chunk w.after w.is few y.function y.number (operation_of y.inst) (inline_straight target rows y.inst own_inline) shape) got (omega (arith, at, low)) c (here ∙ at)))
    where
      w : ChunkOf sized 1 all r
      w = piece_of_range n r e

      y : InstIn w.chunk
      y = inst_of_range r w

      p : PieceAt program frame_depth target place x
      p = piece_at program frame_depth target place x (ap (λ (l : List RvInstr). at_code l place) (sym code_is) ∙ get)

      start : ℕ
      start = 1 + total wide w.before

      first : r.first ≡ start
      first = ap (λ (s : SiteRange). s.first) w.range

      ends : r.last ≡ start + wide w.chunk - 1
      ends = ap (λ (s : SiteRange). s.last) w.range

      some : 0 < wide w.chunk
      some = w.some

      place_is : place ≡ 1 + total wide p.before + p.offset
      place_is = p.place_is

      inside : p.offset < wide p.chunk
      inside = p.inside

      -- the place's piece is the range's
      one : (total wide p.before ≡ total wide w.before) × (p.chunk ≡ w.chunk)
      one =
          elim (apart wide p.before p.chunk p.after w.before w.chunk w.after (sym p.is ∙ w.is)) [
            | inl b ↦ absurd (omega (arith, b, first, from, place_is, inside))
            | inr o ↦ elim o [
              | inl b ↦ absurd (omega (arith, b, ends, some, to, place_is))
              | inr s ↦ s
            ]
          ]

      at : place ≡ start + p.offset
      at = (let same = one.0 in omega (arith, place_is, same))

      got : slice_get (laid (code program frame_depth target) sized start w.chunk.lines) p.offset ≡ Some x
      got =
          ap (λ (d : Chunk Virtual). slice_get (laid (code program frame_depth target) sized start d.lines) p.offset) (sym one.1)
          ∙ (ap (λ (m : ℕ). slice_get (laid (code program frame_depth target) sized (1 + m) p.chunk.lines) p.offset) (sym one.0) ∙ p.get)

      low : place < 2 ^ 32
      low =
          (let long = ap (λ (cs : List (Chunk Virtual)). total wide cs) w.is ∙ total_both wide w.before (w.chunk ∷ w.after) in
          omega (arith, few, long, ends, some, to))

      same_inst : y.inst ≡ i
      same_inst = same_Some y.inst i (sym (at_site r w y) ∙ has)

      own_inline : is_inline target y.inst ≡ true
      own_inline = ap (is_inline target) same_inst ∙ is

      kinds : (is_plain y.inst ≡ false) × (is_leading y.inst ≡ false)
      kinds = inline_stays target y.inst own_inline

      shape : Shape y.function y.number false false (operation_of y.inst) w.chunk.lines
      shape =
          subst (λ (q : Bool). Shape y.function y.number false q (operation_of y.inst) w.chunk.lines) kinds.1
          (subst (λ (q : Bool). Shape y.function y.number q (is_leading y.inst) (operation_of y.inst) w.chunk.lines) kinds.0 (shape_in w.chunk y))

  has_rows : HasRows rv_kind image program
  has_rows =
      record {
        covered = covered;
        rows = has_row;
        outside = λ place i get out. absurd (none_outside place i get out);
        sites_entered = entered;
        routines_entered = λ n r e. absurd (none-some r e);
        inline = stays;
      }

pub images_have_rows : Laws → DirectImagesHaveRows
images_have_rows laws program built accepted short =
    let parts = and_parts (is_rv64 program.target && needs_no_routine program) (is_direct_module program) built in
    let first = and_parts (is_rv64 program.target) (needs_no_routine program) parts.0 in
    has_rows program (rv_has_rows laws.rows program.target first.0) (laws.formed program accepted) first.1 parts.1 short
