-- Code that goes on from each instruction to the next, and code behind code, over any instruction set.
use Rattle.std.proofs.Common.{◌≡◌, ℕ, suc, ◌+◌, List, [], ◌∷◌, ◌++◌, length, subst, arith}
use Rattle.ax_tags.specs.declared.tags.Tag.{Tag}
use Rattle.ax_isa.specs.Steps.{Kind}
use Rattle.ax_agree.specs.Sound.{IsTag}
use Rattle.ax_expand.specs.Standing.{silently}
use Rattle.ax_sound.specs.Good.{AreGood, IsGood}

-- an instruction set, with instructions that are good wherever they stand: they lead nowhere but to the next place
pub record Going (I : Type 0) : Type 1 where
  pub kind : Kind I
  pub valid : I → Type 0
  pub goes : I → Type 0
  pub good : (size place : ℕ) (i : I) → goes i → IsGood kind valid size place i

module _ {I : Type 0} (set : Going I) where
  abbrev pub AllGo : List I → Type 0
  AllGo [] = Unit {0}
  AllGo (i ∷ is) = set.goes i × AllGo is

  pub go_both : (is js : List I) → AllGo is → AllGo js → AllGo (is ++ js)
  go_both [] js h g = g
  go_both (i ∷ is) js h g = (h.0, go_both is js h.1 g)

  -- with their tags
  abbrev pub AreStraight : List (I × Tag) → Type 0
  AreStraight [] = Unit {0}
  AreStraight (i ∷ is) = set.goes i.0 × IsTag i.1 × AreStraight is

  pub straight_both : (is js : List (I × Tag)) → AreStraight is → AreStraight js → AreStraight (is ++ js)
  straight_both [] js h g = g
  straight_both (i ∷ is) js h g = (h.0, h.1, straight_both is js h.2 g)

  pub straight_silently : (is : List I) → AllGo is → AreStraight (silently is)
  straight_silently [] h = tt
  straight_silently (i ∷ is) h = (h.0, tt, straight_silently is h.1)

  -- ---- from a place on, in a code of so many instructions
  abbrev Good : ℕ → ℕ → List (I × Tag) → Type 0
  Good size place is = AreGood set.kind set.valid size place is

  pub straight_good : (size place : ℕ) (is : List (I × Tag)) → AreStraight is → Good size place is
  straight_good size place [] h = tt
  straight_good size place (i ∷ is) h = (set.good size place i.0 h.0, h.1, straight_good size (place + 1) is h.2)

  pub good_both : (size place : ℕ) (is js : List (I × Tag)) → Good size place is → Good size (place + length is) js → Good size place (is ++ js)
  good_both size place [] js h g = let same : place + 0 ≡ place = omega arith in subst (λ (p : ℕ). Good size p js) same g
  good_both size place (i ∷ is) js h g =
      let same : place + suc (length is) ≡ place + 1 + length is = omega arith in
      (h.0, h.1, good_both size (place + 1) is js h.2 (subst (λ (p : ℕ). Good size p js) same g))

  pub good_behind : (size place : ℕ) (is : List I) (rest : List (I × Tag)) → AllGo is → Good size (place + length is) rest → Good size place (silently is ++ rest)
  good_behind size place [] rest h g = let same : place + 0 ≡ place = omega arith in subst (λ (p : ℕ). Good size p rest) same g
  good_behind size place (i ∷ is) rest h g =
      let same : place + suc (length is) ≡ place + 1 + length is = omega arith in
      (set.good size place i h.0, tt, good_behind size (place + 1) is rest h.1 (subst (λ (p : ℕ). Good size p rest) same g))
