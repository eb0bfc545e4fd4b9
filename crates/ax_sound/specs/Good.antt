-- INSTRUCTIONS THAT ARE GOOD WHERE THEY STAND: registers and numbers are in their ranges, and they lead to places of the code.
use Rattle.std.specs.Prelude.{◌≡◌, ℕ, ◌+◌, ◌≤◌, List, [], ◌∷◌}
use Rattle.ax_tags.specs.declared.tags.Tag.{Tag}
use Rattle.ax_isa.specs.declared.effects.Effect.{Effect}
use Rattle.ax_isa.specs.declared.effects.Effect.TheVariants.{CallTo, Jump}
use Rattle.ax_isa.specs.Processor.{Processor}
use Rattle.ax_isa.specs.Steps.{Kind}
use Rattle.ax_agree.specs.Sound.{IsTag}

-- an effect in a code of so many instructions: a jump leads to a place of it, and nothing is called
abbrev pub LeadsInside : ℕ → Effect → Type 0
LeadsInside size (Jump place) = (1 ≤ place) × (place ≤ size)
LeadsInside size (CallTo place saved) = ⊥
LeadsInside size _ = Unit {0}

module _ {I : Type 0} (kind : Kind I) (valid : I → Type 0) where
  -- an instruction at a place of a code of so many
  pub record IsGood (size place : ℕ) (i : I) : Type 0 where
    pub ranges : valid i
    pub leads : (c : Processor) → c.place ≡ place → LeadsInside size (kind.effect_of i c)

  -- instructions with their tags, from a place on
  abbrev pub AreGood : ℕ → ℕ → List (I × Tag) → Type 0
  AreGood size place [] = Unit {0}
  AreGood size place (i ∷ is) = IsGood size place i.0 × IsTag i.1 × AreGood size (place + 1) is
