-- The shapes of lines' code, over any instruction set: how long they are, and that they are good where they stand.
use Rattle.std.proofs.Common.{◌≡◌, ℕ, ◌+◌, ◌≤◌, List, [], ◌∷◌, ◌++◌, length, subst, arith, length-append}
use Rattle.ax_tags.specs.declared.tags.Tag.{Tag}
use Rattle.ax_tags.specs.declared.tags.Tag.TheVariants.{Act, Silent}
use Rattle.ax_expand.specs.Standing.{silently, wrap}
use Rattle.ax_expand.proofs.Straight.{silent_length}
use Rattle.ax_emit.specs.Atomics.{gets_all, puts_all}
use Rattle.ax_emit.specs.Lines.{branch_code, performed_code}
use Rattle.ax_emit.specs.Table.{Table, put}
use Rattle.ax_sound.specs.Good.{AreGood, IsGood}
use Rattle.ax_sound.proofs.Straight.{AllGo, AreStraight, Going, go_both, good_behind, good_both, straight_both, straight_good, straight_silently}

-- ---- how long
module _ {I : Type 0} where
  pub performed_size : (before : List I) (acts : I) (after : List I) → length (performed_code before acts after) ≡ length before + 1 + length after
  performed_size before acts after =
      let a = length-append (silently before) ((acts, Act) ∷ silently after) in
      let b = silent_length before in
      let c = silent_length after in
      omega (arith, a, b, c)

  pub wrapped_size : (before : List I) (piece : ℕ → List (I × Tag)) (after : List I) (start : ℕ) → length (wrap before piece after start) ≡ length before + length (piece (start + length before)) + length after
  wrapped_size before piece after start =
      let middle = piece (start + length before) in
      let a = length-append (silently before) (middle ++ silently after) in
      let b = length-append middle (silently after) in
      let c = silent_length before in
      let d = silent_length after in
      omega (arith, a, b, c, d)

  pub branch_size : (is : List I) (turn : I) (jumps : ℕ → ℕ → I) (high low start : ℕ) → length (branch_code is turn jumps high low start) ≡ length is + 3
  branch_size is turn jumps high low start =
      let turns : List (I × Tag) = (turn, Silent) ∷ (jumps (start + length is + 1) low, Act) ∷ (jumps (start + length is + 2) high, Act) ∷ [] in
      let a = length-append (silently is) turns in
      let b = silent_length is in
      omega (arith, a, b)

-- ---- pairs of a register of the machine and a slot, each with a property
abbrev pub AllPairs : (ℕ × ℕ → Type 0) → List (ℕ × ℕ) → Type 0
AllPairs P [] = Unit {0}
AllPairs P (z ∷ zs) = P z × AllPairs P zs

module _ {I : Type 0} (set : Going I) where
  -- ---- slots
  module _ (table : Table I) (P : ℕ × ℕ → Type 0) where
    pub gets_go : ((z : ℕ × ℕ) → P z → AllGo set (table.get z.0 z.1)) → (zs : List (ℕ × ℕ)) → AllPairs P zs → AllGo set (gets_all table zs)
    gets_go one [] h = tt
    gets_go one (z ∷ zs) h = go_both set (table.get z.0 z.1) (gets_all table zs) (one z h.0) (gets_go one zs h.1)

    pub puts_go : ((z : ℕ × ℕ) → P z → AllGo set (put table z.1 z.0)) → (zs : List (ℕ × ℕ)) → AllPairs P zs → AllGo set (puts_all table zs)
    puts_go one [] h = tt
    puts_go one (z ∷ zs) h = go_both set (put table z.1 z.0) (puts_all table zs) (one z h.0) (puts_go one zs h.1)

  -- ---- straight code
  pub performed_straight : (before : List I) (acts : I) (after : List I) → AllGo set before → set.goes acts → AllGo set after → AreStraight set (performed_code before acts after)
  performed_straight before acts after h here g = straight_both set (silently before) ((acts, Act) ∷ silently after) (straight_silently set before h) (here, tt, straight_silently set after g)

  -- ---- in a code of so many instructions
  module _ (size start : ℕ) where
    -- code round a piece that is good where it stands
    pub wrapped_good : (before : List I) (piece : ℕ → List (I × Tag)) (after : List I) → AllGo set before → AllGo set after → AreGood set.kind set.valid size (start + length before) (piece (start + length before)) → AreGood set.kind set.valid size start (wrap before piece after start)
    wrapped_good before piece after h g middle =
        let is = piece (start + length before) in
        good_behind set size start before (is ++ silently after) h
        (good_both set size (start + length before) is (silently after) middle (straight_good set size (start + length before + length is) (silently after) (straight_silently set after g)))

    -- a jump over a jump
    pub branch_good : (is : List I) (turn : I) (jumps : ℕ → ℕ → I) (high low : ℕ) → AllGo set is → start + length is + 2 ≤ size
        → IsGood set.kind set.valid size (start + length is) turn → IsGood set.kind set.valid size (start + length is + 1) (jumps (start + length is + 1) low) → IsGood set.kind set.valid size (start + length is + 2) (jumps (start + length is + 2) high)
        → AreGood set.kind set.valid size start (branch_code is turn jumps high low start)
    branch_good is turn jumps high low h le turning first second =
        let same : start + length is + 2 ≡ start + length is + 1 + 1 = omega arith in
        good_behind set size start is ((turn, Silent) ∷ (jumps (start + length is + 1) low, Act) ∷ (jumps (start + length is + 2) high, Act) ∷ []) h
        (turning, tt, (first, tt, (subst (λ (p : ℕ). IsGood set.kind set.valid size p (jumps (start + length is + 2) high)) same second, tt, tt)))
