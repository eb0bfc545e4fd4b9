-- Silent lines one after the other, and the line that has the event behind them.
use Rattle.std.proofs.Common.{◌≡◌, ℕ, zero, suc, ◌+◌, ◌≤◌, List, [], ◌∷◌, ◌++◌, map, Option, Some, length, refl, sym, ap, ◌∙◌, subst, arith, slice_get}
use Rattle.ax_mid.specs.declared.code.Line.{Line}
use Rattle.ax_mid.specs.declared.code.Mid.{Mid}
use Rattle.ax_mid.specs.declared.instruction.MidInst.{MidInst}
use Rattle.ax_mid.specs.declared.registers.Virtual.{Virtual}
use Rattle.ax_mid.specs.Machine.{advance, followed, private_step, quiet_if}
use Rattle.ax_mid.specs.Processor.{MidProcessor}
use Rattle.ax_selected.specs.Laid.{HasAt}
use Rattle.ax_selected.specs.Pieces.{Straight}
use Rattle.ax_selected.specs.Registers.{key}
use Rattle.ax_selected.specs.Selected.{acting, silent, straight}
use Rattle.ax_target.specs.declared.target.Target.{Target}

pub has_front : (code xs ys : List (Line Virtual)) (place : ℕ) → HasAt code place (xs ++ ys) → HasAt code place xs
has_front code [] ys place h = tt
has_front code (x ∷ xs) ys place h = (h.0, has_front code xs ys (place + 1) h.1)

pub has_back : (code : List (Line Virtual)) (xs ys : List (Line Virtual)) (place : ℕ) → HasAt code place (xs ++ ys) → HasAt code (place + length xs) ys
has_back code [] ys place h = subst (λ (p : ℕ). HasAt code p ys) (omega arith) h
has_back code (x ∷ xs) ys place h = subst (λ (p : ℕ). HasAt code p ys) (omega arith) (has_back code xs ys (place + 1) h.1)

pub silent_length : (f k : ℕ) (is : List (MidInst Virtual)) → length (map (silent f k) is) ≡ length is
silent_length f k [] = refl
silent_length f k (i ∷ is) = ap suc (silent_length f k is)

pub straight_length : (f k : ℕ) (s : Straight) → length (straight f k s) ≡ length s.silent + 1
straight_length f k s = by s.silent
  where
    by : (is : List (MidInst Virtual)) → length (map (silent f k) is ++ acting f k s.last ∷ []) ≡ length is + 1
    by [] = refl
    by (i ∷ is) = ap suc (by is) ∙ omega arith

module _ (target : Target) (code : Mid Virtual) (base : ℕ) where
  abbrev steps : MidInst Virtual → MidProcessor → Option MidProcessor
  steps = private_step key target code base

  -- these lines lead from c to d, each to the place behind it
  abbrev pub Runs : List (MidInst Virtual) → MidProcessor → MidProcessor → Type 0
  Runs [] c d = c ≡ d
  Runs (i ∷ is) c d = (x : MidProcessor) × (private_step key target code base i c ≡ Some x) × (x.place ≡ c.place + 1) × Runs is x d

  pub runs_both : (is js : List (MidInst Virtual)) (c x d : MidProcessor) → Runs is c x → Runs js x d → Runs (is ++ js) c d
  runs_both [] js c x d here more = subst (λ (y : MidProcessor). Runs js y d) (sym here) more
  runs_both (i ∷ is) js c x d runs more = (runs.0, runs.1, runs.2, runs_both is js runs.0 x d runs.3 more)

  -- a silent line
  pub one : (f k : ℕ) (i : MidInst Virtual) (c x : MidProcessor) (n : ℕ) → slice_get code.lines c.place ≡ Some (silent f k i) → private_step key target code base i c ≡ Some x → advance key target code base (suc n) c ≡ advance key target code base n x
  one f k i c x n at step =
      ap (λ (o : Option (Line Virtual)). followed (λ (d : MidProcessor). advance key target code base n d) c (quiet_if key target code base o c)) at
      ∙ ap (followed (λ (d : MidProcessor). advance key target code base n d) c) step

  -- a line that isn't silent ends the way
  pub stops : (f k : ℕ) (i : MidInst Virtual) (c : MidProcessor) (n : ℕ) → slice_get code.lines c.place ≡ Some (acting f k i) → advance key target code base n c ≡ c
  stops f k i c zero at = refl
  stops f k i c (suc n) at = ap (λ (o : Option (Line Virtual)). followed (λ (d : MidProcessor). advance key target code base n d) c (quiet_if key target code base o c)) at

  pub record Passed (is : List (MidInst Virtual)) (c d : MidProcessor) (most : ℕ) : Type 0 where
    pub rest : ℕ
    pub count : most ≡ length is + rest
    pub way : advance key target code base most c ≡ advance key target code base rest d
    pub place : d.place ≡ c.place + length is

  pub pass : (f k : ℕ) (is : List (MidInst Virtual)) (c d : MidProcessor) (most : ℕ) → length is ≤ most → HasAt code.lines c.place (map (silent f k) is) → Runs is c d → Passed is c d most
  pass f k [] c d most le has here = record { rest = most; count = omega arith; way = ap (advance key target code base most) here; place = ap (λ (e : MidProcessor). e.place) (sym here) ∙ omega arith }
  pass f k (i ∷ is) c d zero le has runs = absurd (omega (arith, le))
  pass f k (i ∷ is) c d (suc most) le has runs =
      let x = runs.0 in
      let place = runs.2 in
      let p = pass f k is x d most (omega (arith, le)) (subst (λ (q : ℕ). HasAt code.lines q (map (silent f k) is)) (sym place) has.1) runs.3 in
      record {
        rest = p.rest;
        count = let e = p.count in omega (arith, e);
        way = one f k i c x most has.0 runs.1 ∙ p.way;
        place = let e = p.place in omega (arith, e, place);
      }

  -- the whole of a straight piece
  pub record Comes (f k count : ℕ) (last : MidInst Virtual) (c d : MidProcessor) (most : ℕ) : Type 0 where
    pub ready : advance key target code base most c ≡ d
    pub line : slice_get code.lines d.place ≡ Some (acting f k last)
    pub place : d.place ≡ c.place + count

  pub comes : (f k : ℕ) (s : Straight) (c d : MidProcessor) (most : ℕ) → length s.silent ≤ most → HasAt code.lines c.place (straight f k s) → Runs s.silent c d → Comes f k (length s.silent) s.last c d most
  comes f k s c d most le has runs =
      let p = pass f k s.silent c d most le (has_front code.lines (map (silent f k) s.silent) (acting f k s.last ∷ []) c.place has) runs in
      let back = has_back code.lines (map (silent f k) s.silent) (acting f k s.last ∷ []) c.place has in
      let count : length (map (silent f k) s.silent) ≡ length s.silent = silent_length f k s.silent in
      let line : slice_get code.lines d.place ≡ Some (acting f k s.last) = ap (slice_get code.lines) (p.place ∙ ap (λ (n : ℕ). c.place + n) (sym count)) ∙ back.0 in
      record { ready = p.way ∙ stops f k s.last d p.rest line; line = line; place = p.place }

-- lines of which the first ones are passed
pub has_before : (f k : ℕ) (code : List (Line Virtual)) (is js : List (MidInst Virtual)) (last : MidInst Virtual) (place : ℕ) → HasAt code place (straight f k (record { silent = is ++ js; last = last })) → HasAt code place (map (silent f k) is)
has_before f k code [] js last place h = tt
has_before f k code (i ∷ is) js last place h = (h.0, has_before f k code is js last (place + 1) h.1)

pub has_after : (f k : ℕ) (code : List (Line Virtual)) (is js : List (MidInst Virtual)) (last : MidInst Virtual) (place : ℕ) → HasAt code place (straight f k (record { silent = is ++ js; last = last })) → HasAt code (place + length is) (straight f k (record { silent = js; last = last }))
has_after f k code [] js last place h = subst (λ (p : ℕ). HasAt code p (straight f k (record { silent = js; last = last }))) (omega arith) h
has_after f k code (i ∷ is) js last place h = subst (λ (p : ℕ). HasAt code p (straight f k (record { silent = js; last = last }))) (omega arith) (has_after f k code is js last (place + 1) h.1)
