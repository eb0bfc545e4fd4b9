-- THE COMPOSITION: an image that is laid out from lines' code follows the fine middle machine.
use Rattle.std.proofs.Common.{◌≡◌, ℕ, zero, suc, ◌+◌, ◌^◌, ◌<◌, ◌≤◌, Bool, true, false, List, [], ◌∷◌, ◌++◌, length, Option, Some, None, refl, sym, ap, ◌∙◌, subst, arith, append_assoc, length-append}
use Rattle.std.specs.Prelude.{map, slice_get, if◌then◌else◌}
use Rattle.std.proofs.lemmas.Bool.{false≢true}
use Rattle.ax_words.specs.declared.source.SourceStatus.TheVariants.{Running as Runs}
use Rattle.ax_store.specs.declared.entry.Entry.{Entry}
use Rattle.ax_store.specs.Storage.{seen}
use Rattle.ax_tags.specs.declared.tags.Tag.{Tag}
use Rattle.ax_isa.specs.Past.{Noted}
use Rattle.ax_isa.specs.Processor.{Processor}
use Rattle.ax_isa.specs.Run.{Setting, at_code, tag_or}
use Rattle.ax_isa.specs.Steps.{Kind}
use Rattle.ax_isa.specs.Tells.{Library}
use Rattle.ax_follow.specs.Contract.{Reading, Follows, InStep, Happening, stage_start}
use Rattle.ax_mid.specs.declared.code.Line.{Line}
use Rattle.ax_mid.specs.declared.instruction.MidInst.{MidInst}
use Rattle.ax_mid.specs.declared.instruction.MidInst.TheVariants as mid
use Rattle.ax_mid.specs.Processor.{MidProcessor}
use Rattle.ax_expand.specs.Standing.{HasAt, setting_by}
use Rattle.ax_expand.specs.World.{Words}
use Rattle.ax_fine.specs.Fine.{Program, Spelled, is_label, is_quiet, settle, asks_by, asks, fine}
use Rattle.ax_emit.specs.Images.{Drafted, drafted, place_of, draft, places_of, image_of, code_in, tags_in, mark_or, line_or, reading_in}
use Rattle.ax_emit.specs.Lines.{LineCode}

-- ---- lists
get_first : {A : Type 0} (xs ys : List A) (i : ℕ) (a : A) → slice_get xs i ≡ Some a → slice_get (xs ++ ys) i ≡ Some a
get_first [] ys i a e = absurd (let f : None ≡ Some a = e in cc)
get_first (x ∷ xs) ys zero a e = e
get_first (x ∷ xs) ys (suc i) a e = get_first xs ys i a e

get_rest : {A : Type 0} (xs ys : List A) (i : ℕ) → slice_get (xs ++ ys) (length xs + i) ≡ slice_get ys i
get_rest [] ys i = let e : 0 + i ≡ i = omega arith in ap (slice_get ys) e
get_rest (x ∷ xs) ys i = let e : suc (length xs) + i ≡ suc (length xs + i) = omega arith in ap (slice_get (x ∷ (xs ++ ys))) e ∙ get_rest xs ys i

abbrev some_map : {A B : Type 0} → (A → B) → Option A → Option B
some_map f None = None
some_map f (Some a) = Some (f a)

get_map : {A B : Type 0} (f : A → B) (xs : List A) (i : ℕ) → slice_get (map f xs) i ≡ some_map f (slice_get xs i)
get_map f [] i = refl
get_map f (x ∷ xs) zero = refl
get_map f (x ∷ xs) (suc i) = get_map f xs i

code_map : {A B : Type 0} (f : A → B) (xs : List A) (place : ℕ) → at_code (map f xs) place ≡ some_map f (at_code xs place)
code_map f xs zero = refl
code_map f xs (suc i) = get_map f xs i

drafted_length : {I : Type 0} (quiet : Bool) (n : ℕ) (is : List (I × Tag)) → length (drafted quiet n is) ≡ length is
drafted_length quiet n [] = refl
drafted_length quiet n (i ∷ is) = ap suc (drafted_length quiet n is)

-- these stand there
abbrev Lies : {I : Type 0} → List (Drafted I) → ℕ → List (Drafted I) → Type 0
Lies all place [] = Unit {0}
Lies all place (d ∷ ds) = (at_code all place ≡ Some d) × Lies all (place + 1) ds

lies_rest : {I : Type 0} (pre ds : List (Drafted I)) (place : ℕ) → place ≡ length pre + 1 → Lies (pre ++ ds) place ds
lies_rest pre [] place e = tt
lies_rest pre (d ∷ ds) place e =
    let here : at_code (pre ++ d ∷ ds) place ≡ Some d = ap (at_code (pre ++ d ∷ ds)) (let q : place ≡ suc (length pre + 0) = omega (arith, e) in q) ∙ get_rest pre (d ∷ ds) 0 in
    let rest : Lies ((pre ++ d ∷ []) ++ ds) (place + 1) ds = lies_rest (pre ++ d ∷ []) ds (place + 1) (let l = length-append pre (d ∷ []) in omega (arith, e, l)) in
    (here, subst (λ ys. Lies ys (place + 1) ds) (append_assoc pre (d ∷ []) ds) rest)

lies_first : {I : Type 0} (all ds es : List (Drafted I)) (place : ℕ) → Lies all place (ds ++ es) → Lies all place ds
lies_first all [] es place h = tt
lies_first all (d ∷ ds) es place h = (h.0, lies_first all ds es (place + 1) h.1)

lies_behind : {I : Type 0} (all ds es : List (Drafted I)) (place : ℕ) → Lies all place (ds ++ es) → Lies all (place + length ds) es
lies_behind all [] es place h = subst (λ q. Lies all q es) (let e : place ≡ place + 0 = omega arith in e) h
lies_behind all (d ∷ ds) es place h = subst (λ q. Lies all q es) (let e : place + 1 + length ds ≡ place + suc (length ds) = omega arith in e) (lies_behind all ds es (place + 1) h.1)

code_some : {I : Type 0} (all : List (Drafted I)) (place : ℕ) (d : Drafted I) → at_code all place ≡ Some d → place ≤ length all
code_some {I = I} all zero d h = omega arith
code_some {I = I} all (suc i) d h = under all i h
  where
    under : (xs : List (Drafted I)) (j : ℕ) → slice_get xs j ≡ Some d → suc j ≤ length xs
    under [] j e = absurd (let f : None ≡ Some d = e in cc)
    under (y ∷ ys) zero e = omega arith
    under (y ∷ ys) (suc j) e = let r = under ys j e in omega (arith, r)

-- nobody stands at a label
no_one : {R W : Type 0} (m : Program R W) (p : ℕ) (i : MidInst R) (s : MidProcessor) (w : W) → is_label i ≡ true → asks_by m p i s w → ⊥
no_one m p (mid.Label n) s w e a = a
no_one m p (mid.Const a b) s w e q = false≢true e
no_one m p (mid.Copy a b) s w e q = false≢true e
no_one m p (mid.Apply o a b c) s w e q = false≢true e
no_one m p (mid.Shift o a b c) s w e q = false≢true e
no_one m p (mid.Extend a b c d) s w e q = false≢true e
no_one m p (mid.Select a b c d) s w e q = false≢true e
no_one m p (mid.Jump a) s w e q = false≢true e
no_one m p (mid.Branch a b c) s w e q = false≢true e
no_one m p (mid.FrameAddress a b) s w e q = false≢true e
no_one m p (mid.Load a b c) s w e q = false≢true e
no_one m p (mid.Store a b c) s w e q = false≢true e
no_one m p (mid.Atomic a b c d f g h) s w e q = false≢true e
no_one m p (mid.Call a b c d) s w e q = false≢true e
no_one m p (mid.Out a) s w e q = false≢true e
no_one m p mid.Trap s w e q = false≢true e
no_one m p mid.Ret s w e q = false≢true e
no_one m p mid.Nop s w e q = false≢true e

-- so a label has no code
pub label_line : {I R W : Type 0} (k : Kind I) (m : Program R W) (most : ℕ) (line : Line R) → is_label line.inst ≡ true → LineCode k m most 0 (λ places start. []) line
label_line k m most line is = record { length_is = λ places start. refl; label = λ e. refl; follows = λ code tags lib v places own not_label. absurd (false≢true (sym not_label ∙ is)) }

module _ {I R W : Type 0} (k : Kind I) (m : Program R W) (size_of : Line R → ℕ) (code_of : (ℕ → ℕ) → ℕ → Line R → List (I × Tag)) (most : ℕ) (all_code : (j : ℕ) (line : Line R) → slice_get m.code.lines j ≡ Some line → LineCode k m most (size_of line) (λ places start. code_of places start line) line)
    (lib : Library) (words : Words lib) (counts public : Entry → Bool) (few : length (image_of size_of code_of m.code.lines) + 1 < 2 ^ 32) where
  abbrev pub whole : List (Drafted I)
  whole = image_of size_of code_of m.code.lines

  abbrev pub places : ℕ → ℕ
  places = places_of size_of code_of m.code.lines

  abbrev pub x : Setting I
  x = setting_by k (code_in whole) (tags_in whole) lib

  abbrev pub v : Reading
  v = reading_in whole counts public most

  has_at : (quiet : Bool) (n place : ℕ) (is : List (I × Tag)) → Lies whole place (drafted quiet n is) → HasAt x v quiet n place is
  has_at quiet n place [] h = tt
  has_at quiet n place (i ∷ is) h = (
    record {
      code = code_map (λ (d : Drafted I). d.inst) whole place ∙ ap (some_map (λ (d : Drafted I). d.inst)) h.0;
      mark = ap mark_or h.0;
      tag = ap tag_or (code_map (λ (d : Drafted I). d.tag) whole place ∙ ap (some_map (λ (d : Drafted I). d.tag)) h.0);
      owner = ap line_or h.0;
      small = let e = code_some whole place _ h.0 in omega (arith, e, few);
    },
    has_at quiet n (place + 1) is h.1,
  )

  -- where line j's code stands
  pub record Standing (j place after : ℕ) (line : Line R) : Type 0 where
    pub has : HasAt x v (is_quiet line.tag) j place (code_of places place line)
    pub follow : after ≡ place + size_of line

  first_place : (lines : List (Line R)) (at : ℕ) → place_of size_of code_of lines at 0 ≡ at
  first_place [] at = refl
  first_place (line ∷ lines) at = refl

  pieces : (lines : List (Line R)) (at n : ℕ) → ((j : ℕ) (line : Line R) → slice_get lines j ≡ Some line → length (code_of places (place_of size_of code_of lines at j) line) ≡ size_of line) → Lies whole at (draft size_of code_of places lines at n)
      → (j i : ℕ) (line : Line R) → i ≡ n + j → slice_get lines j ≡ Some line → Standing i (place_of size_of code_of lines at j) (place_of size_of code_of lines at (suc j)) line
  pieces [] at n sizes lies j i line is e = absurd (let f : None ≡ Some line = e in cc)
  pieces (one ∷ lines) at n sizes lies zero i line is e =
      let same : one ≡ line = cc in
      subst (λ l. Standing i at (place_of size_of code_of lines (at + size_of one) 0) l) same
      (record { has = subst (λ q. HasAt x v (is_quiet one.tag) q at (code_of places at one)) (let q : n ≡ i = omega (arith, is) in q) (has_at (is_quiet one.tag) n at (code_of places at one) (lies_first whole (drafted (is_quiet one.tag) n (code_of places at one)) (draft size_of code_of places lines (at + size_of one) (n + 1)) at lies)); follow = first_place lines (at + size_of one) })
  pieces (one ∷ lines) at n sizes lies (suc j) i line is e =
      let behind = lies_behind whole (drafted (is_quiet one.tag) n (code_of places at one)) (draft size_of code_of places lines (at + size_of one) (n + 1)) at lies in
      let size : at + length (drafted (is_quiet one.tag) n (code_of places at one)) ≡ at + size_of one = ap (λ q. at + q) (drafted_length (is_quiet one.tag) n (code_of places at one) ∙ sizes 0 one refl) in
      pieces lines (at + size_of one) (n + 1) (λ q l h. sizes (suc q) l h) (subst (λ q. Lies whole q (draft size_of code_of places lines (at + size_of one) (n + 1))) size behind) j i line (omega (arith, is)) e

  stands : (j : ℕ) (line : Line R) → slice_get m.code.lines j ≡ Some line → Standing j (places j) (places (suc j)) line
  stands j line e = pieces m.code.lines 1 0 (λ q l h. (all_code q l h).length_is places _) (lies_rest [] whole 1 (omega arith)) j j line (omega arith) e

  -- past labels stands the same code
  settles : (lines : List (Line R)) (at : ℕ) → ((j : ℕ) (line : Line R) → slice_get lines j ≡ Some line → is_label line.inst ≡ true → size_of line ≡ 0) → (j : ℕ) → place_of size_of code_of lines at (settle lines j) ≡ place_of size_of code_of lines at j
  settles [] at labels j = refl
  settles (one ∷ lines) at labels (suc j) = settles lines (at + size_of one) (λ q l h. labels (suc q) l h) j
  settles (one ∷ lines) at labels zero = go (is_label one.inst) refl (settles lines (at + size_of one) (λ q l h. labels (suc q) l h) 0)
    where
      go : (t : Bool) → is_label one.inst ≡ t → place_of size_of code_of lines (at + size_of one) (settle lines 0) ≡ place_of size_of code_of lines (at + size_of one) 0 → place_of size_of code_of (one ∷ lines) at (if t then suc (settle lines zero) else zero) ≡ at
      go false e h = refl
      go true e h = h ∙ first_place lines (at + size_of one) ∙ (let none = labels 0 one refl e in let q : at + size_of one ≡ at = omega (arith, none) in q)

  same : (j : ℕ) → places (settle m.code.lines j) ≡ places j
  same j = settles m.code.lines 1 (λ q l h. (all_code q l h).label) j

  ended : (lines : List (Line R)) (at : ℕ) → place_of size_of code_of lines at (suc (length lines)) ≡ 0
  ended [] at = refl
  ended (one ∷ lines) at = ended lines (at + size_of one)

  -- all places are inside
  inside : (lines : List (Line R)) (at n : ℕ) → ((j : ℕ) (line : Line R) (start : ℕ) → slice_get lines j ≡ Some line → length (code_of places start line) ≡ size_of line) → (j : ℕ) → place_of size_of code_of lines at j ≤ at + length (draft size_of code_of places lines at n)
  inside [] at n sizes zero = omega arith
  inside [] at n sizes (suc j) = omega arith
  inside (one ∷ lines) at n sizes zero = omega arith
  inside (one ∷ lines) at n sizes (suc j) =
      let rest = inside lines (at + size_of one) (n + 1) (λ q l start e. sizes (suc q) l start e) j in
      let l = length-append (drafted (is_quiet one.tag) n (code_of places at one)) (draft size_of code_of places lines (at + size_of one) (n + 1)) in
      let d = drafted_length (is_quiet one.tag) n (code_of places at one) ∙ sizes 0 one at refl in
      omega (arith, rest, l, d)

  low : (j : ℕ) → places j < 2 ^ 32
  low j = let e = inside m.code.lines 1 0 (λ q l start h. (all_code q l h).length_is places start) j in omega (arith, e, few)

  -- THE IMAGE FOLLOWS the fine middle machine
  pub follows : Follows (fine m places) v x
  follows = record { follows = λ p s c n w runs at matches sees fit hs. go p (slice_get m.code.lines s.place) s refl c n w runs at matches fit.asks hs }
    where
      go : (p : ℕ) (o : Option (Line R)) (s : MidProcessor) → slice_get m.code.lines s.place ≡ o → (c : Processor) (n : Noted) (w : W) → s.status ≡ Runs → c.place ≡ places s.place → Spelled m p c (seen p n.storage) s → asks m p (slice_get m.code.lines s.place) s w → (hs : List Happening) → InStep (fine m places) v x p hs stage_start s c n
      go p None s e c n w runs at matches ask hs = absurd (subst (λ o. asks m p o s w) e ask)
      go p (Some line) s e c n w runs at matches ask hs =
          labelled (is_label line.inst) refl
        where
          labelled : (t : Bool) → is_label line.inst ≡ t → InStep (fine m places) v x p hs stage_start s c n
          labelled true labels = absurd (no_one m p line.inst s w labels (subst (λ o. asks m p o s w) e ask))
          labelled false not_label = let z = stands s.place line e in
              ((all_code s.place line e).follows (code_in whole) (tags_in whole) lib v places s.place not_label (omega arith)
              (record { words = words; at = e; has = z.has; laid = record { next = ap places (let q : s.place + 1 ≡ suc s.place = omega arith in q) ∙ z.follow; settles = same; ended = ended m.code.lines 1; low = low } })).follows p s c n refl runs at matches hs
