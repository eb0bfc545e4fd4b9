-- What the calls of one step leave, whatever the notes of the past.
use Rattle.std.specs.Prelude.{◌≡◌, ℕ, List, Option, Some, None, option_to_list, if◌then◌else◌}
use Rattle.ax_store.specs.Store.{Kept, spare_of, storage_of}
use Rattle.ax_store.specs.StoreState.{StoreState}
use Rattle.ax_isa.specs.declared.effects.Effect.{Effect}
use Rattle.ax_isa.specs.declared.effects.Outcome.{Outcome}
use Rattle.ax_isa.specs.declared.shown.Shown.{Shown}
use Rattle.ax_tags.specs.declared.tags.Tag.{Tag}
use Rattle.ax_isa.specs.Effects.{spared_by}
use Rattle.ax_isa.specs.Past.{Past, noted}
use Rattle.ax_isa.specs.Processor.{Processor}
use Rattle.ax_isa.specs.Run.{at_code, events_of, made_by, setting_of}
use Rattle.ax_isa.specs.Steps.{Kind, possible, stepped}
use Rattle.ax_isa.specs.Tells.{Library}

-- the rooms for stores that an effect leaves
abbrev pub spared_after : ℕ → Effect → Processor → StoreState → ℕ → ℕ
spared_after p e c old = if possible p e c (storage_of old) then spared_by e old.buffered p (spare_of old) else spare_of old

-- `step_effect`: one step of processor p with this effect
pub record IsStepped (p : ℕ) (e : Effect) (c new : Processor) (old left : StoreState) (outcome : Outcome) : Type 0 where
  pub processor : (past : Past) → new ≡ (stepped old.buffered p e c (noted (storage_of old) past)).processor
  pub storage : (past : Past) → storage_of left ≡ (stepped old.buffered p e c (noted (storage_of old) past)).noted.storage
  pub outcome_is : (past : Past) → outcome ≡ (stepped old.buffered p e c (noted (storage_of old) past)).outcome
  pub spares : spare_of left ≡ spared_after p e c old
  pub kept : Kept old left

-- the rooms that the step at a place leaves, where this instruction stands, if any
abbrev pub spared_at : {I : Type 0} → Kind I → Option I → ℕ → Processor → StoreState → ℕ → ℕ
spared_at kind None p c old = spare_of old
spared_at kind (Some i) p c old = spared_after p (kind.effect_of i c) c old

-- `step`: one step of processor p at its place, and the source event of its tag; no library has a part in what it leaves
pub record IsStepAt {I : Type 0} (kind : Kind I) (code : List I) (tags : List Tag) (p : ℕ) (c new : Processor) (old left : StoreState) (shown : Shown) : Type 0 where
  pub processor : (library : Library) (past : Past) → new ≡ (made_by (setting_of kind code tags library) p c (noted (storage_of old) past)).processor
  pub storage : (library : Library) (past : Past) → storage_of left ≡ (made_by (setting_of kind code tags library) p c (noted (storage_of old) past)).noted.storage
  pub outcome : (library : Library) (past : Past) → shown.outcome ≡ (made_by (setting_of kind code tags library) p c (noted (storage_of old) past)).outcome
  pub gives : (library : Library) (past : Past) → option_to_list shown.gives ≡ events_of p (made_by (setting_of kind code tags library) p c (noted (storage_of old) past)).gives
  pub spares : spare_of left ≡ spared_at kind (at_code code c.place) p c old
  pub kept : Kept old left
