-- A processor and what it sees of its own frame: what code does that touches nothing else.
use Rattle.std.specs.Prelude.{◌≡◌, ℕ, ◌%◌, Bool, false, ◌&&◌, if◌then◌else◌, nat_eq, nat_lt, List, [], ◌∷◌, Option, Some, None}
use Rattle.ax_store.specs.Bytes.{number_at, all_inside, cut, written}
use Rattle.ax_store.specs.Storage.{seen}
use Rattle.ax_isa.specs.declared.effects.Effect.{Effect}
use Rattle.ax_isa.specs.declared.effects.Effect.TheVariants.{Set, Compare, Load, Store, Fence, Nop}
use Rattle.ax_isa.specs.Past.{Noted}
use Rattle.ax_isa.specs.Processor.{Processor}
use Rattle.ax_isa.specs.Steps.{Kind, extended, go_on, go_to, go_with, with_half, with_compared}
use Rattle.ax_follow.specs.Contract.{IsOwn}

pub record Private : Type 0 where
  pub cpu : Processor
  pub frame : ℕ → ℕ

-- p sees these bytes in its frame
abbrev pub Spells : ℕ → Noted → (ℕ → ℕ) → Type 0
Spells p n f = (b : ℕ) → IsOwn p b → seen p n.storage b ≡ f b

-- the addresses of a frame that may be used
abbrev pub may_use : (ℕ → Bool) → ℕ → ℕ → Bool
may_use room a bytes = nat_lt 0 bytes && nat_eq (a % bytes) 0 && all_inside room a bytes

abbrev pub if_room : Bool → Private → Option Private
if_room b y = if b then Some y else None

-- an effect that touches the processor and its frame alone; a fence is one, since the own stores that wait have gone to memory before its step
abbrev pub went : (ℕ → Bool) → Effect → Private → Option Private
went room (Set to number) y = Some (record { cpu = go_with to number y.cpu; frame = y.frame })
went room (Compare left right) y = Some (record { cpu = with_compared (left, right) (go_on y.cpu); frame = y.frame })
went room (Load to a bytes rest ends_half) y =
    if_room (may_use room a bytes) (record { cpu = with_half (if ends_half then false else y.cpu.half) (go_with to (extended bytes rest (y.cpu.regs to) (number_at y.frame a bytes)) y.cpu); frame = y.frame })
went room (Store a bytes number) y = if_room (may_use room a bytes) (record { cpu = go_on y.cpu; frame = written y.frame a bytes (cut bytes number) })
went room Fence y = Some (record { cpu = go_on y.cpu; frame = y.frame })
went room Nop y = Some (record { cpu = go_on y.cpu; frame = y.frame })
went room _ y = None

-- it stands at another place
abbrev pub jumped : ℕ → Private → Private
jumped place y = record y { cpu = go_to place y.cpu }

-- straight code goes from one of these to another
abbrev pub Goes : {I : Type 0} → Kind I → (ℕ → Bool) → List I → Private → Private → Type 0
Goes k room [] y z = y ≡ z
Goes k room (i ∷ is) y z = (next : Private) × (went room (k.effect_of i y.cpu) y ≡ Some next) × Goes k room is next z
