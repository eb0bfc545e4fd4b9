-- The two passes of emission, a line at a time.
use Rattle.std.proofs.Common.{◌≡◌, ℕ, zero, suc, ◌+◌, ◌^◌, ◌≤◌, ◌<◌, Bool, List, [], ◌∷◌, ◌++◌, length, map, drop, get_or, refl, sym, ap, subst, ◌∙◌, arith, append_assoc, add-one, drop-cons}
use Rattle.std.specs.Prelude.{All, Some, slice_get, slice_index_or}
use Rattle.std.proofs.lemmas.Option.{slice_get_read}
use Rattle.ax_tags.specs.declared.tags.Tag.{Tag}
use Rattle.ax_mid.specs.declared.code.Line.{Line}
use Rattle.ax_expand.specs.Standing.{hush}
use Rattle.ax_emit.specs.Passes.{place_end, placed, places_from, tags_of}
use Rattle.ax_fine.specs.Fine.{is_quiet}
use Rattle.ax_emit.specs.Images.{code_in, draft, drafted, place_of, places_of}

pub map_append : {A B : Type 0} (f : A → B) (xs ys : List A) → map f (xs ++ ys) ≡ map f xs ++ map f ys
map_append f [] ys = refl
map_append f (x ∷ xs) ys = ap (λ zs. f x ∷ zs) (map_append f xs ys)

code_drafted : {I : Type 0} (quiet : Bool) (n : ℕ) (is : List (I × Tag)) → code_in (drafted quiet n is) ≡ map (λ i. i.0) is
code_drafted quiet n [] = refl
code_drafted quiet n (i ∷ is) = ap (λ zs. i.0 ∷ zs) (code_drafted quiet n is)

tags_drafted : {I : Type 0} (quiet : Bool) (n : ℕ) (is : List (I × Tag)) → tags_of (drafted quiet n is) ≡ map (λ i. hush quiet i.1) is
tags_drafted quiet n [] = refl
tags_drafted quiet n (i ∷ is) = ap (λ zs. hush quiet i.1 ∷ zs) (tags_drafted quiet n is)

module _ {R : Type 0} (size_of : Line R → ℕ) where
  -- the end is not before the beginning
  pub end_above : (at : ℕ) (lines : List (Line R)) → at ≤ place_end size_of at lines
  end_above at [] = omega arith
  end_above at (line ∷ lines) = let h = end_above (at + size_of line) lines in omega (arith, h)

  -- and so is no place
  place_few : (at bound : ℕ) (lines : List (Line R)) → place_end size_of at lines < bound → (k d : ℕ) → k < length (places_from size_of at lines) → slice_index_or (places_from size_of at lines) k d < bound
  place_few at bound [] few zero d h = few
  place_few at bound [] few (suc k) d h = absurd (omega (arith, h))
  place_few at bound (line ∷ lines) few zero d h = let le = end_above (at + size_of line) lines in omega (arith, le, few)
  place_few at bound (line ∷ lines) few (suc k) d h = place_few (at + size_of line) bound lines few k d (omega (arith, h))

  pub places_few : (places : List ℕ) (lines : List (Line R)) (bound : ℕ) → places ≡ places_from size_of 1 lines → place_end size_of 1 lines < bound → All (λ p. p < bound) places
  places_few places lines bound made few = subst (All (λ p. p < bound)) (sym made) (place_few 1 bound lines few)

  module _ {I : Type 0} (code_of : (ℕ → ℕ) → ℕ → Line R → List (I × Tag)) where
    place_is : (at : ℕ) (lines : List (Line R)) (j : ℕ) → slice_index_or (places_from size_of at lines) j 0 ≡ place_of size_of code_of lines at j
    place_is at [] zero = refl
    place_is at [] (suc j) = refl
    place_is at (line ∷ lines) zero = refl
    place_is at (line ∷ lines) (suc j) = place_is (at + size_of line) lines j

    -- the list has the places
    pub places_are : (lines : List (Line R)) → placed (places_from size_of 1 lines) ≡ places_of size_of code_of lines
    places_are lines = λ d j. place_is 1 lines j d

    -- one line more
    pub code_more : (places : ℕ → ℕ) (at n : ℕ) (line : Line R) (lines : List (Line R)) (code : List I)
        → (code ++ map (λ i. i.0) (code_of places at line)) ++ code_in (draft size_of code_of places lines (at + size_of line) (n + 1)) ≡ code ++ code_in (draft size_of code_of places (line ∷ lines) at n)
    code_more places at n line lines code =
        let rest = draft size_of code_of places lines (at + size_of line) (n + 1) in
        append_assoc code (map (λ i. i.0) (code_of places at line)) (code_in rest)
        ∙ ap (λ zs. code ++ zs) (ap (λ zs. zs ++ code_in rest) (sym (code_drafted (is_quiet line.tag) n (code_of places at line))) ∙ sym (map_append (λ d. d.inst) (drafted (is_quiet line.tag) n (code_of places at line)) rest))

    pub tags_more : (places : ℕ → ℕ) (at n : ℕ) (line : Line R) (lines : List (Line R)) (tags : List Tag)
        → (tags ++ map (λ i. hush (is_quiet line.tag) i.1) (code_of places at line)) ++ tags_of (draft size_of code_of places lines (at + size_of line) (n + 1)) ≡ tags ++ tags_of (draft size_of code_of places (line ∷ lines) at n)
    tags_more places at n line lines tags =
        let rest = draft size_of code_of places lines (at + size_of line) (n + 1) in
        append_assoc tags (map (λ i. hush (is_quiet line.tag) i.1) (code_of places at line)) (tags_of rest)
        ∙ ap (λ zs. tags ++ zs) (ap (λ zs. zs ++ tags_of rest) (sym (tags_drafted (is_quiet line.tag) n (code_of places at line))) ∙ sym (map_append (λ d. d.tag) (drafted (is_quiet line.tag) n (code_of places at line)) rest))

-- ---- lists of lines, one line on
pub drop_end : {A : Type 0} (xs : List A) (i : ℕ) → length xs ≤ i → drop i xs ≡ []
drop_end [] zero h = refl
drop_end [] (suc i) h = refl
drop_end (x ∷ xs) zero h = absurd (omega (arith, h))
drop_end (x ∷ xs) (suc i) h = drop_end xs i (omega (arith, h))

pub drop_is : {A : Type 0} (xs : List A) (i : ℕ) (x : A) → i < length xs → x ≡ get_or xs i x → drop i xs ≡ x ∷ drop (i + 1) xs
drop_is {A} xs i x h e = drop-cons xs i x h ∙ ap (λ (y : A). y ∷ drop (suc i) xs) (sym e) ∙ (rw add-one refl)

-- the element at hand is among them
pub is_there : {A : Type 0} (xs : List A) (i : ℕ) (x : A) → i < length xs → x ≡ get_or xs i x → slice_get xs i ≡ Some x
is_there xs i x h e = slice_get_read xs (length xs) i x refl h e

module _ {R : Type 0} (size_of : Line R → ℕ) (at i : ℕ) (line : Line R) (lines : List (Line R)) (front : drop i lines ≡ line ∷ drop (i + 1) lines) where
  pub places_go_on : (next : ℕ) (places new whole : List ℕ) → new ≡ places ++ at ∷ [] → next ≡ at + size_of line → places ++ places_from size_of at (drop i lines) ≡ whole → new ++ places_from size_of next (drop (i + 1) lines) ≡ whole
  places_go_on next places new whole pushed is h =
      ap (λ zs. zs ++ places_from size_of next (drop (i + 1) lines)) pushed ∙ append_assoc places (at ∷ []) (places_from size_of next (drop (i + 1) lines)) ∙ ap (λ q. places ++ at ∷ places_from size_of q (drop (i + 1) lines)) is
      ∙ sym (ap (λ zs. places ++ places_from size_of at zs) front) ∙ h

  pub end_goes_on : (next end : ℕ) → next ≡ at + size_of line → place_end size_of at (drop i lines) ≡ end → place_end size_of next (drop (i + 1) lines) ≡ end
  end_goes_on next end is h = ap (λ q. place_end size_of q (drop (i + 1) lines)) is ∙ sym (ap (place_end size_of at) front) ∙ h

  pub next_fits : (end size : ℕ) → size ≡ size_of line → place_end size_of at (drop i lines) ≡ end → end < 2 ^ 31 → at + size < 2 ^ 31
  next_fits end size is h few = let e = end_goes_on (at + size) end (ap (λ q. at + q) is) h in let le = end_above size_of (at + size) (drop (i + 1) lines) in omega (arith, e, le, few)

  module _ {I : Type 0} (code_of : (ℕ → ℕ) → ℕ → Line R → List (I × Tag)) (places : ℕ → ℕ) where
    pub code_goes_on : (next : ℕ) (code new whole : List I) → new ≡ code ++ map (λ i. i.0) (code_of places at line) → next ≡ at + size_of line → code ++ code_in (draft size_of code_of places (drop i lines) at i) ≡ whole
        → new ++ code_in (draft size_of code_of places (drop (i + 1) lines) next (i + 1)) ≡ whole
    code_goes_on next code new whole made is h =
        ap (λ zs. zs ++ code_in (draft size_of code_of places (drop (i + 1) lines) next (i + 1))) made ∙ ap (λ q. (code ++ map (λ i. i.0) (code_of places at line)) ++ code_in (draft size_of code_of places (drop (i + 1) lines) q (i + 1))) is
        ∙ code_more size_of code_of places at i line (drop (i + 1) lines) code ∙ sym (ap (λ zs. code ++ code_in (draft size_of code_of places zs at i)) front) ∙ h

    pub tags_go_on : (next : ℕ) (tags new whole : List Tag) → new ≡ tags ++ map (λ i. hush (is_quiet line.tag) i.1) (code_of places at line) → next ≡ at + size_of line → tags ++ tags_of (draft size_of code_of places (drop i lines) at i) ≡ whole
        → new ++ tags_of (draft size_of code_of places (drop (i + 1) lines) next (i + 1)) ≡ whole
    tags_go_on next tags new whole made is h =
        ap (λ zs. zs ++ tags_of (draft size_of code_of places (drop (i + 1) lines) next (i + 1))) made ∙ ap (λ q. (tags ++ map (λ i. hush (is_quiet line.tag) i.1) (code_of places at line)) ++ tags_of (draft size_of code_of places (drop (i + 1) lines) q (i + 1))) is
        ∙ tags_more size_of code_of places at i line (drop (i + 1) lines) tags ∙ sym (ap (λ zs. tags ++ tags_of (draft size_of code_of places zs at i)) front) ∙ h
