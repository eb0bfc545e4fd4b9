-- When a middle processor has the numbers of a source processor.
use Rattle.std.specs.Prelude.{◌≡◌, ℕ, ◌+◌, ◌*◌, ◌/◌, ◌%◌, ◌^◌, ◌<◌, Bool, true, false, nat_eq}
use Rattle.ax_module.specs.declared.module.Module.{Module}
use Rattle.ax_module.specs.Types.{type_bytes}
use Rattle.ax_source_run.specs.SourcePointers.{elements_of}
use Rattle.ax_source_run.specs.SourceState.{Private, SourceProcessor, SourceValue, Number, Pair, PointsTo}
use Rattle.ax_source_run.specs.SourceValues.{number_of, part_of}
use Rattle.ax_mid.specs.Processor.{MidProcessor}
use Rattle.ax_rules.specs.declared.facts.Outcome.{Outcome}
use Rattle.ax_rules.specs.declared.facts.Outcome.TheVariants as outcome
use Rattle.ax_store.specs.Bytes.{number_at}
use Rattle.ax_typed.specs.Typed.{outcome_in}
use Rattle.ax_selected.specs.Addresses.{frame_offset}
use Rattle.ax_selected.specs.Registers.{flag_of, high_of, low_of}

-- a number, its low half in one register and its high half in the next
pub record HoldsNumber (regs : ℕ → ℕ) (k n : ℕ) : Type 0 where
  pub low : regs (low_of k) ≡ n % 2 ^ 64
  pub high : regs (high_of k) ≡ n / 2 ^ 64

pub record HoldsPair (regs : ℕ → ℕ) (k : ℕ) (v : SourceValue) : Type 0 where
  pub number : HoldsNumber regs k (part_of 0 v)
  pub flag : regs (flag_of k) ≡ part_of 1 v

-- a pointer by its index; its object is fixed by the text
abbrev pub HoldsIndex : (ℕ → ℕ) → ℕ → SourceValue → Type 0
HoldsIndex regs k (PointsTo p) = regs (low_of k) ≡ p.index
HoldsIndex regs k (Number n) = Unit {0}
HoldsIndex regs k (Pair n flag) = Unit {0}

-- what instruction k's registers hold; an alloca needs none
abbrev pub HoldsValue : Outcome → (ℕ → ℕ) → ℕ → SourceValue → Type 0
HoldsValue (outcome.Number t) regs k v = HoldsNumber regs k (number_of v)
HoldsValue (outcome.Pair t) regs k v = HoldsPair regs k v
HoldsValue (outcome.Gep b elem t index) regs k v = HoldsIndex regs k v
HoldsValue (outcome.Alloca e) regs k v = Unit {0}
HoldsValue outcome.Nothing regs k v = Unit {0}

abbrev pub HoldsValues : Module → ℕ → (ℕ → SourceValue) → (ℕ → ℕ) → Type 0
HoldsValues m f values regs = (k : ℕ) → HoldsValue (outcome_in m f k) regs k (values k)

-- a number in so many bytes of the frame; one of 16 bytes by its halves
abbrev pub HoldsBytes : Bool → (ℕ → ℕ) → ℕ → ℕ → ℕ → Type 0
HoldsBytes false frame a bytes n = number_at frame a bytes ≡ n
HoldsBytes true frame a bytes n = (number_at frame a 8 ≡ n % 2 ^ 64) × (number_at frame (a + 8) 8 ≡ n / 2 ^ 64)

-- each element of each alloca stands in the frame
abbrev pub HoldsAllocas : Module → ℕ → (ℕ → ℕ → ℕ) → (ℕ → ℕ) → Type 0
HoldsAllocas m f allocas frame =
    (r i : ℕ) → i < (elements_of m f (Private r)).count
    → HoldsBytes (nat_eq (type_bytes (elements_of m f (Private r)).elem) 16) frame (frame_offset m f r + i * type_bytes (elements_of m f (Private r)).elem) (type_bytes (elements_of m f (Private r)).elem) (allocas r i)

pub record Matches (m : Module) (s : SourceProcessor) (c : MidProcessor) : Type 0 where
  pub values : HoldsValues m s.function s.values c.regs
  pub allocas : HoldsAllocas m s.function s.allocas c.frame
