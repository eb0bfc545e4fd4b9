-- Ways through a piece of code by instructions that touch registers alone, one after the other or by jumps.
use Rattle.std.specs.Prelude.{◌≡◌, ◌⊎◌, ℕ, zero, suc, ◌+◌, ◌≤◌, List, Some, slice_get}
use Rattle.ax_tags.specs.declared.tags.Tag.{Tag}
use Rattle.ax_tags.specs.declared.tags.Tag.TheVariants.{Silent}
use Rattle.ax_isa.specs.declared.effects.Effect.{Effect}
use Rattle.ax_isa.specs.Processor.{Processor}
use Rattle.ax_isa.specs.Steps.{Kind, go_to}
use Rattle.ax_expand.specs.Private.{went}
use Rattle.ax_loops.specs.Moving.{Turns, nowhere}

-- such an effect leads from one processor to another
abbrev pub Leaves : Effect → Processor → Processor → Type 0
Leaves e c after = (went nowhere e (record { cpu = c; frame = λ b. 0 }) ≡ Some (record { cpu = after; frame = λ b. 0 })) ⊎ ((place : ℕ) × Turns e c place × (after ≡ go_to place c))

-- code that stands from a place on
pub record Laid (I : Type 0) : Type 0 where
  pub kind : Kind I
  pub code : List (I × Tag)
  pub start : ℕ

module _ {I : Type 0} (z : Laid I) where
  -- one silent instruction
  pub record Onward (c : Processor) (Then : Processor → Type 0) : Type 0 where
    pub offset : ℕ
    pub instr : I
    pub after : Processor
    pub place : c.place ≡ z.start + offset
    pub stands : slice_get z.code offset ≡ Some (instr, Silent)
    pub leaves : Leaves (z.kind.effect_of instr c) c after
    pub next : Then after

  abbrev pub Way : (Processor → Type 0) → ℕ → Processor → Type 0
  Way Then zero c = Then c
  Way Then (suc steps) c = Onward c (λ after. Way Then steps after)

  -- a way of at most so many steps leads to a processor of which this holds
  pub record Leads (most : ℕ) (Then : Processor → Type 0) (c : Processor) : Type 0 where
    pub steps : ℕ
    pub few : steps ≤ most
    pub way : Way Then steps c
