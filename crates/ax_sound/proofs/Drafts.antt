-- The code of all lines: how long it is, and that each instruction is good and has a tag whose registers are in their range.
use Rattle.std.proofs.Common.{◌≡◌, ℕ, zero, suc, ◌+◌, ◌^◌, ◌<◌, ◌≤◌, Bool, true, false, List, [], ◌∷◌, ◌++◌, Some, map, length, refl, ap, ◌∙◌, subst, arith, length-append, slice_get}
use Rattle.std.proofs.lemmas.Option.{none-some, same_Some}
use Rattle.ax_tags.specs.declared.tags.Tag.{Tag}
use Rattle.ax_target.specs.declared.target.Target.{Target}
use Rattle.ax_isa.specs.Steps.{Kind}
use Rattle.ax_agree.specs.Sound.{IsTag}
use Rattle.ax_mid.specs.declared.code.Line.{Line}
use Rattle.ax_mid.specs.declared.registers.Virtual.{Virtual}
use Rattle.ax_expand.specs.Standing.{hush}
use Rattle.ax_fine.specs.Fine.{is_quiet}
use Rattle.ax_emit.specs.Images as images
use Rattle.ax_emit.specs.Images.{Drafted, code_in, drafted}
use Rattle.ax_image.specs.Image.{Coding, code_of, size_of}
use Rattle.ax_sound.specs.Fit.{HasLabels, IsFit}
use Rattle.ax_sound.specs.Good.{AreGood, IsGood}
use Rattle.ax_sound.specs.Pieces.{HasSoundPieces}
use Rattle.ax_sound.proofs.Found.{End, code_behind, end_behind}
use Rattle.ax_sound.proofs.Sums.{AllLines, sizes}

hushed_tag : (quiet : Bool) (t : Tag) → IsTag t → IsTag (hush quiet t)
hushed_tag true t h = tt
hushed_tag false t h = h

drafted_length : {I : Type 0} (quiet : Bool) (n : ℕ) (is : List (I × Tag)) → length (drafted quiet n is) ≡ length is
drafted_length quiet n [] = refl
drafted_length quiet n (i ∷ is) = ap suc (drafted_length quiet n is)

module _ {I : Type 0} (kind : Kind I) (valid : I → Type 0) where
  -- good from a place on
  abbrev pub AreSound : ℕ → ℕ → List (Drafted I) → Type 0
  AreSound total place [] = Unit {0}
  AreSound total place (d ∷ ds) = IsGood kind valid total place d.inst × IsTag d.tag × AreSound total (place + 1) ds

  sound_both : (total place : ℕ) (xs ys : List (Drafted I)) → AreSound total place xs → AreSound total (place + length xs) ys → AreSound total place (xs ++ ys)
  sound_both total place [] ys h g = let same : place + 0 ≡ place = omega arith in subst (λ (p : ℕ). AreSound total p ys) same g
  sound_both total place (x ∷ xs) ys h g =
      let same : place + suc (length xs) ≡ place + 1 + length xs = omega arith in
      (h.0, h.1, sound_both total (place + 1) xs ys h.2 (subst (λ (p : ℕ). AreSound total p ys) same g))

  drafted_sound : (total place : ℕ) (quiet : Bool) (n : ℕ) (is : List (I × Tag)) → AreGood kind valid total place is → AreSound total place (drafted quiet n is)
  drafted_sound total place quiet n [] h = tt
  drafted_sound total place quiet n (i ∷ is) h = (h.0, hushed_tag quiet i.1 h.1, drafted_sound total (place + 1) quiet n is h.2)

  -- ---- an instruction and a tag at a place
  pub good_at : (total start : ℕ) (ds : List (Drafted I)) (j : ℕ) (i : I) → AreSound total start ds → slice_get (code_in ds) j ≡ Some i → IsGood kind valid total (start + j) i
  good_at total start [] j i h e = absurd (none-some i e)
  good_at total start (d ∷ ds) zero i h e =
      let same : start ≡ start + 0 = omega arith in subst (λ (p : ℕ). IsGood kind valid total p i) same (subst (IsGood kind valid total start) (same_Some d.inst i e) h.0)
  good_at total start (d ∷ ds) (suc j) i h e = let same : start + 1 + j ≡ start + suc j = omega arith in subst (λ (p : ℕ). IsGood kind valid total p i) same (good_at total (start + 1) ds j i h.2 e)

  pub tag_is : (total start : ℕ) (ds : List (Drafted I)) (j : ℕ) (t : Tag) → AreSound total start ds → slice_get (map (λ d. d.tag) ds) j ≡ Some t → IsTag t
  tag_is total start [] j t h e = absurd (none-some t e)
  tag_is total start (d ∷ ds) zero t h e = subst IsTag (same_Some d.tag t e) h.1
  tag_is total start (d ∷ ds) (suc j) t h e = tag_is total (start + 1) ds j t h.2 e

  -- ---- the code of lines
  module _ (target : Target) (behind : ℕ → ℕ) (c : Coding I) (pieces : HasSoundPieces kind valid target behind c) (places : ℕ → ℕ) where
    abbrev laid : List (Line Virtual) → ℕ → ℕ → List (Drafted I)
    laid lines start n = images.draft (size_of c) (code_of c) places lines start n

    -- a line's code has one length, wherever it stands
    one_length : (line : Line Virtual) (start n : ℕ) → length (drafted (is_quiet line.tag) n (code_of c places start line)) ≡ size_of c line
    one_length line start n = drafted_length (is_quiet line.tag) n (code_of c places start line) ∙ pieces.steady line.inst places start

    pub draft_length : (lines : List (Line Virtual)) (start n : ℕ) → length (laid lines start n) ≡ sizes (size_of c) lines
    draft_length [] start n = refl
    draft_length (line ∷ lines) start n =
        let a = length-append (drafted (is_quiet line.tag) n (code_of c places start line)) (laid lines (start + size_of c line) (n + 1)) in
        let b = one_length line start n in
        let e = draft_length lines (start + size_of c line) (n + 1) in
        omega (arith, a, b, e)

    module _ (total : ℕ) (short : total < 2 ^ 31) where
      -- a line whose instruction is fit, with its labels in the code
      abbrev pub IsRight : Line Virtual → Type 0
      IsRight line = IsFit target line.inst × HasLabels behind places total line.inst

      line_good : (line : Line Virtual) (lines : List (Line Virtual)) (start : ℕ) → IsRight line → End (line ∷ lines) → 1 ≤ start → start + (size_of c line + sizes (size_of c) lines) ≤ total + 1 → AreGood kind valid total start (code_of c places start line)
      line_good line lines start right end some most =
          let own = pieces.steady line.inst places start in
          pieces.good line.inst places total start right.0 (record {
            short = short;
            first = some;
            last = omega (arith, own, most);
            more = λ on. let rest = code_behind (size_of c) (λ l e. pieces.least l.inst e) line lines end on in omega (arith, own, most, rest);
            labels = right.1;
          })

      pub draft_sound : (lines : List (Line Virtual)) (start n : ℕ) → AllLines IsRight lines → End lines → 1 ≤ start → start + sizes (size_of c) lines ≤ total + 1 → AreSound total start (laid lines start n)
      draft_sound [] start n h end some most = tt
      draft_sound (line ∷ lines) start n h end some most =
          let ds = drafted (is_quiet line.tag) n (code_of c places start line) in
          let rest = laid lines (start + size_of c line) (n + 1) in
          let long = one_length line start n in
          let same : start + size_of c line ≡ start + length ds = omega (arith, long) in
          sound_both total start ds rest (drafted_sound total start (is_quiet line.tag) n (code_of c places start line) (line_good line lines start h.0 end some most))
          (subst (λ (p : ℕ). AreSound total p rest) same (draft_sound lines (start + size_of c line) (n + 1) h.1 (end_behind line lines end) (omega (arith, some)) (omega (arith, most))))
