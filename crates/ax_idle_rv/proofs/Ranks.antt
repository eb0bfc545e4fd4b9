-- THE RANK OF A PLACE: so many steps at most lead from it to an Act, or to a linked load's pair store. What is asked of a drafted image for that.
use Rattle.std.proofs.Common.{◌≡◌, ℕ, zero, suc, ◌+◌, ◌%◌, ◌^◌, ◌<◌, ◌≤◌, Bool, true, false, List, [], ◌∷◌, Some, refl, subst, arith, slice_get}
use Rattle.std.specs.Prelude.{◌⊎◌, ℤ, pos, negsuc}
use Rattle.std.proofs.lemmas.Option.{none-some, same_Some}
use Rattle.ax_store.specs.Bytes.{number_at}
use Rattle.ax_tags.specs.declared.tags.Role.TheVariants.{None as Outside}
use Rattle.ax_tags.specs.declared.tags.Tag.{Tag}
use Rattle.ax_tags.specs.declared.tags.Tag.TheVariants.{Call as Calls}
use Rattle.ax_isa.specs.Past.{Noted, link}
use Rattle.ax_isa.specs.Processor.{Processor}
use Rattle.ax_isa.specs.Steps.{extended, go_with, loaded}
use Rattle.ax_isa.specs.Tells.{An_act, given_of}
use Rattle.ax_follow.specs.Bounds.{AreBytes}
use Rattle.ax_rv.specs.declared.instructions.RvInstr.{RvInstr}
use Rattle.ax_rv.specs.declared.instructions.RvInstr.TheVariants.{Li, Unary, Binary, Shift, Immediate, Load, Store, LoadReserved, StoreConditional, Amo, Fence, Jump, Branch, Nop}
use Rattle.ax_rv.specs.declared.instructions.Size.{Size}
use Rattle.ax_rv.specs.Instructions.{read, size_rest}
use Rattle.ax_rv.specs.Skeleton.{size_bytes}
use Rattle.ax_mid.specs.WellFormed.{is_act, is_silent}
use Rattle.ax_emit.specs.Images.{Drafted}
use Rattle.ax_emit_rv.specs.Code.{distance}
use Rattle.ax_idle_rv.proofs.Poised.{Poised}

-- behind an inner label at most so many steps lead to an Act, and everywhere so many
abbrev pub inner_rank : ℕ
inner_rank = 1600

abbrev pub most_rank : ℕ
most_rank = 2100

-- a linked load gives an Act, or from behind it so many steps lead to its pair store
abbrev pub pair_rank : ℕ
pair_rank = 9

abbrev pub linked_rank : ℕ
linked_rank = pair_rank + 1

-- the code of an atomic operation has so many steps at most, with one turn back
abbrev pub piece_rank : ℕ
piece_rank = 36

-- a label that is no block's
abbrev pub IsInner : ℕ → Type 0
IsInner n = n % 4 ≡ 0 → ⊥

-- a step that is no call keeps its role
abbrev pub is_plain : Tag → Bool
is_plain (Calls role) = false
is_plain _ = true

-- an instruction that goes on to the next place
abbrev pub is_straight : RvInstr → Bool
is_straight (Li rd n) = true
is_straight (Unary op rd rs) = true
is_straight (Binary op rd a b) = true
is_straight (Shift op rd rs k) = true
is_straight (Immediate op rd rs n) = true
is_straight (Load form rd d rs) = true
is_straight (Store form rs d a) = true
is_straight (StoreConditional size ending rd rs a) = true
is_straight (Amo op size ending rd a b) = true
is_straight (Fence sets) = true
is_straight Nop = true
is_straight _ = false

-- a turn leads forward, no further than the next place is, or back to a linked load
abbrev pub turn_rank : ℤ → ℕ → ℕ
turn_rank (pos j) rest = rest + 1
turn_rank (negsuc j) rest = rest + linked_rank + 1

-- a silent jump whose own mark is silent is a turn; others lead to an inner label
abbrev pub jump_rank : Bool → ℤ → ℕ → ℕ
jump_rank true d rest = turn_rank d rest
jump_rank false d rest = 1601

abbrev pub rank_by : Bool → Tag → RvInstr → ℕ → ℕ
rank_by true mark i rest = 0
rank_by false mark (LoadReserved size ending rd rs) rest = linked_rank
rank_by false mark (Jump d) rest = jump_rank (is_silent mark) d rest
rank_by false mark (Branch condition a b d) rest = turn_rank d rest
rank_by false mark _ rest = rest + 1

abbrev pub rank_of : List (Drafted RvInstr) → ℕ
rank_of [] = 0
rank_of (d ∷ ds) = rank_by (is_act d.tag) d.mark d.inst (rank_of ds)

abbrev pub behind : {A : Type 0} → List A → ℕ → List A
behind xs zero = xs
behind [] (suc k) = []
behind (x ∷ xs) (suc k) = behind xs k

-- the code from a place on; places count from 1
abbrev pub from_place : List (Drafted RvInstr) → ℕ → List (Drafted RvInstr)
from_place ds zero = []
from_place ds (suc k) = behind ds k

abbrev pub rank_at : List (Drafted RvInstr) → ℕ → ℕ
rank_at ds place = rank_of (from_place ds place)

-- a linked load gives an Act, or from the next place it isn't far to its pair store
abbrev pub Links : Tag → Size → ℕ → ℕ → List (Drafted RvInstr) → Type 0
Links t size rd rs ds =
    (p : ℕ) (c : Processor) (n : Noted) → AreBytes n.storage.mem → c.role ≡ Outside
    → (let a = read rs c in let number = number_at n.storage.mem a (size_bytes size) in (given_of t (size_bytes size) c (loaded number) ≡ An_act) ⊎ Poised pair_rank ds p (go_with rd (extended (size_bytes size) (size_rest size) (c.regs rd) number) c) (link p a (size_bytes size) n))

-- the target of each label, and the rank of each place
module _ (target rank : ℕ → ℕ) where
  pub record Jumps (d : ℤ) (at : ℕ) : Type 0 where
    pub label : ℕ
    pub inner : IsInner label
    pub is : d ≡ distance at (target label)

  pub record Back (j at : ℕ) : Type 0 where
    pub to : ℕ
    pub is : at ≡ to + suc j
    pub linked : rank to ≤ linked_rank

  abbrev pub Turns : ℤ → ℕ → List (Drafted RvInstr) → Type 0
  Turns (pos zero) at ds = ⊥
  Turns (pos (suc j)) at ds = (j < 2 ^ 32) × (rank_of (behind ds j) ≤ rank_of ds)
  Turns (negsuc j) at ds = Back j at

  abbrev pub JumpsBy : Bool → ℤ → ℕ → List (Drafted RvInstr) → Type 0
  JumpsBy true d at ds = Turns d at ds
  JumpsBy false d at ds = Jumps d at

  abbrev pub Going : Bool → Tag → Tag → RvInstr → ℕ → List (Drafted RvInstr) → Type 0
  Going true mark t i at ds = Unit {0}
  Going false mark t (Jump d) at ds = JumpsBy (is_silent mark) d at ds
  Going false mark t (Branch condition a b d) at ds = Turns d at ds
  Going false mark t (LoadReserved size ending rd rs) at ds = Links t size rd rs ds
  Going false mark t i at ds = is_straight i ≡ true

  -- from a place on
  abbrev pub Fine : ℕ → List (Drafted RvInstr) → Type 0
  Fine at [] = Unit {0}
  Fine at (d ∷ ds) = (rank_of (d ∷ ds) ≤ most_rank) × (is_plain d.tag ≡ true) × Going (is_act d.tag) d.mark d.tag d.inst at ds × Fine (at + 1) ds

  -- at one place
  pub record FineAt (at k : ℕ) (d : Drafted RvInstr) (ds : List (Drafted RvInstr)) : Type 0 where
    pub is : behind ds k ≡ d ∷ behind ds (suc k)
    pub tag : is_plain d.tag ≡ true
    pub going : Going (is_act d.tag) d.mark d.tag d.inst (at + k) (behind ds (suc k))

  pub fine_at : (ds : List (Drafted RvInstr)) (at k : ℕ) (d : Drafted RvInstr) → Fine at ds → slice_get ds k ≡ Some d → FineAt at k d ds
  fine_at [] at k d h e = absurd (none-some d e)
  fine_at (x ∷ ds) at zero d h e =
      let same : at ≡ at + 0 = omega arith in
      subst (λ (y : Drafted RvInstr). FineAt at 0 y (x ∷ ds)) (same_Some x d e) (record { is = refl; tag = h.1; going = subst (λ (q : ℕ). Going (is_act x.tag) x.mark x.tag x.inst q ds) same h.2 })
  fine_at (x ∷ ds) at (suc k) d h e =
      let same : at + 1 + k ≡ at + suc k = omega arith in
      let r = fine_at ds (at + 1) k d h.3 e in
      record { is = r.is; tag = r.tag; going = subst (λ (q : ℕ). Going (is_act d.tag) d.mark d.tag d.inst q (behind ds (suc k))) same r.going }

  all_low : (ds : List (Drafted RvInstr)) (at k : ℕ) → Fine at ds → rank_of (behind ds k) ≤ most_rank
  all_low [] at zero h = omega arith
  all_low [] at (suc k) h = omega arith
  all_low (x ∷ ds) at zero h = h.0
  all_low (x ∷ ds) at (suc k) h = all_low ds (at + 1) k h.3

  pub places_low : (ds : List (Drafted RvInstr)) (at place : ℕ) → Fine at ds → rank_at ds place ≤ most_rank
  places_low ds at zero h = omega arith
  places_low ds at (suc k) h = all_low ds at k h
