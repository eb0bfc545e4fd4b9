-- Words of a line, found from its front.
use Rattle.std.proofs.Common.{◌≡◌, ℕ, suc, ◌+◌, ◌-◌, ◌<◌, ◌≤◌, Bool, true, false, not, List, [], ◌∷◌, ◌++◌, length, get_or, take, drop, refl, sym, ap, ◌∙◌, subst, inl, inr, arith, append_assoc, append-nil, one-add, add-one, drop-cons, length-drop}
use Rattle.std.specs.Prelude.{◌==◌, ◌&&◌}
use Rattle.std.specs.List.{filter, prefix_len}
use Rattle.std.proofs.lemmas.Bool.{cases_Bool, and_parts}
use Rattle.std.proofs.lemmas.Bool.Decides.{nat_tests}
use Rattle.std.proofs.lemmas.List.{take_more}
use Rattle.std.proofs.lemmas.Grind.{common_steps}
use Rattle.ax_lex.specs.Bytes.{is_blank}
use Rattle.ax_sched.specs.Lines.{onto, turned, pieces, is_nonempty, words_of, state_nothing}
use Rattle.ax_sched.specs.Reading.{ended, words_from, begins_no_word}

-- a front before the first piece
abbrev before_first : List ℕ → List (List ℕ) → List (List ℕ)
before_first w [] = w ∷ []
before_first w (v ∷ vs) = (w ++ v) ∷ vs

ended_is : (w : List ℕ) (ws : List (List ℕ)) → ended w (filter is_nonempty ws) ≡ filter is_nonempty (w ∷ ws)
ended_is [] ws = refl
ended_is (b ∷ bs) ws = refl

onto_is : (w : List ℕ) (b : ℕ) (ws : List (List ℕ)) → before_first (w ++ b ∷ []) ws ≡ before_first w (onto b ws)
onto_is w b [] = refl
onto_is w b (v ∷ vs) = ap (λ x. x ∷ vs) (append_assoc w (b ∷ []) v)

before_nil : (ws : List (List ℕ)) (v : List ℕ) (vs : List (List ℕ)) → ws ≡ v ∷ vs → before_first [] ws ≡ ws
before_nil ws v vs e = subst (λ (x : List (List ℕ)). before_first [] x ≡ x) (sym e) refl

onto_some : (b : ℕ) (ws : List (List ℕ)) → (v : List ℕ) × (vs : List (List ℕ)) × (onto b ws ≡ v ∷ vs)
onto_some b [] = (b ∷ [], [], refl)
onto_some b (w ∷ ws) = (b ∷ w, ws, refl)

some_piece : (q : Bool) (bs : List ℕ) → before_first [] (pieces q bs) ≡ pieces q bs
some_piece q [] = refl
some_piece q (b ∷ bs) =
    elim (cases_Bool (is_blank b && not q)) [
      | inl yes' ↦ rw yes' refl
      | inr no' ↦ rw no' (let s = onto_some b (pieces (turned b q) bs) in before_nil (onto b (pieces (turned b q) bs)) s.0 s.1 s.2)
    ]

found : (w : List ℕ) (q : Bool) (bs : List ℕ) → words_from w q bs ≡ filter is_nonempty (before_first w (pieces q bs))
found w q [] = ended_is w [] ∙ ap (λ x. filter is_nonempty (x ∷ [])) (sym (append-nil w))
found w q (b ∷ bs) =
    elim (cases_Bool (is_blank b && not q)) [
      | inl yes' ↦
          rw yes' (ap (ended w) (found [] q bs ∙ ap (filter is_nonempty) (some_piece q bs)) ∙ ended_is w (pieces q bs) ∙ ap (λ x. filter is_nonempty (x ∷ pieces q bs)) (sym (append-nil w)))
      | inr no' ↦
          rw no' (found (w ++ b ∷ []) (turned b q) bs ∙ ap (filter is_nonempty) (onto_is w b (pieces (turned b q) bs)))
    ]

pub words_found : (line : List ℕ) → words_from [] false line ≡ words_of line
words_found line = found [] false line ∙ ap (filter is_nonempty) (some_piece false line)

ended_append : (w : List ℕ) (ws : List (List ℕ)) → ended w ws ≡ ended w [] ++ ws
ended_append [] ws = refl
ended_append (b ∷ bs) ws = refl

-- ---- lines that are passed over

first_word : (b : ℕ) (ps : List (List ℕ)) → state_nothing (filter is_nonempty (onto b ps)) ≡ (b == 35)
first_word b [] = refl
first_word b (w ∷ ws) = refl

pub passed_over : (line : List ℕ) → begins_no_word (drop (prefix_len is_blank line) line) ≡ state_nothing (words_of line)
passed_over [] = refl
passed_over (b ∷ bs) =
    elim (cases_Bool (is_blank b)) [
      | inl yes' ↦ rw (yes', one-add) (passed_over bs)
      | inr no' ↦ rw no' (sym (first_word b (pieces (turned b false) bs)))
    ]

-- ---- from byte to byte

blank_turns_none : (b : ℕ) (q : Bool) → is_blank b ≡ true → turned b q ≡ q
blank_turns_none b q h = let other : (b == 34) ≡ false = grind (arith, nat_tests) in rw other refl

-- behind a blank a word begins
pub word_ends : (w : List ℕ) (q : Bool) (line : List ℕ) (i : ℕ) → i < length line → (is_blank (get_or line i 0) && not q) ≡ true → words_from w q (drop i line) ≡ ended w [] ++ words_from [] (turned (get_or line i 0) q) (drop (i + 1) line)
word_ends w q line i lt h =
    let same = blank_turns_none (get_or line i 0) q (and_parts (is_blank (get_or line i 0)) (not q) h).0 in
    rw (same, add-one, drop-cons line i 0, h) (ended_append w (words_from [] q (drop (suc i) line)))

-- any other byte joins the word
pub word_grows : (w : List ℕ) (q : Bool) (line : List ℕ) (i : ℕ) → i < length line → (is_blank (get_or line i 0) && not q) ≡ false → words_from w q (drop i line) ≡ words_from (w ++ get_or line i 0 ∷ []) (turned (get_or line i 0) q) (drop (i + 1) line)
word_grows w q line i lt h = rw (add-one, drop-cons line i 0, h) refl

pub word_more : (line : List ℕ) (start i : ℕ) → start ≤ i → i < length line → take (i + 1 - start) (drop start line) ≡ take (i - start) (drop start line) ++ get_or line i 0 ∷ []
word_more line start i le lt =
    let n : i + 1 - start ≡ (i - start) + 1 = omega arith in
    let at : get_or (drop start line) (i - start) 0 ≡ get_or line i 0 = grind (arith, common_steps) in
    ap (λ k. take k (drop start line)) n ∙ take_more (drop start line) (i - start) 0 (omega (arith, length-drop start line)) ∙ ap (λ b. take (i - start) (drop start line) ++ b ∷ []) at

none_taken : (line : List ℕ) (start i : ℕ) → start ≡ i + 1 → take (i + 1 - start) (drop start line) ≡ []
none_taken line start i e = let z : i + 1 - start ≡ 0 = omega (arith, e) in rw z refl

module _ (line : List ℕ) (ws all : List (List ℕ)) (start i : ℕ) (q : Bool) (lt : i < length line) (far : ws ++ words_from (take (i - start) (drop start line)) q (drop i line) ≡ all) where
  pub ends_step : (ws' : List (List ℕ)) (start' : ℕ) (q' : Bool) → (is_blank (get_or line i 0) && not q) ≡ true → q' ≡ turned (get_or line i 0) q → ws' ≡ ws ++ ended (take (i - start) (drop start line)) [] → start' ≡ i + 1 → ws' ++ words_from (take (i + 1 - start') (drop start' line)) q' (drop (i + 1) line) ≡ all
  ends_step ws' start' q' h qe we se =
      let w : List ℕ = take (i - start) (drop start line) in
      let r : List (List ℕ) = words_from [] (turned (get_or line i 0) q) (drop (i + 1) line) in
      rw (none_taken line start' i se, qe, we)
      (append_assoc ws (ended w []) r ∙ ap (λ x. ws ++ x) (sym (word_ends w q line i lt h)) ∙ far)

  pub grows_step : (ws' : List (List ℕ)) (start' : ℕ) (q' : Bool) → start ≤ i → (is_blank (get_or line i 0) && not q) ≡ false → q' ≡ turned (get_or line i 0) q → ws' ≡ ws → start' ≡ start → ws' ++ words_from (take (i + 1 - start') (drop start' line)) q' (drop (i + 1) line) ≡ all
  grows_step ws' start' q' le h qe we se =
      rw (se, qe, we, word_more line start i le lt)
      (ap (λ x. ws ++ x) (sym (word_grows (take (i - start) (drop start line)) q line i lt h)) ∙ far)
