-- BETWEEN A LINKED LOAD AND ITS PAIR STORE: so many steps on registers lead to a pair store that stores, or fails for a cause that is noted.
use Rattle.std.proofs.Common.{◌≡◌, ℕ, zero, suc, Bool, true, false, List, [], ◌∷◌, Some, refl, ap, ◌∙◌, inl, inr}
use Rattle.std.specs.Prelude.{◌⊎◌, ◌||◌, ◌&&◌}
use Rattle.ax_store.specs.Bytes.{number_at}
use Rattle.ax_store.specs.Storage.{may_pair}
use Rattle.ax_tags.specs.declared.tags.Role.{Role}
use Rattle.ax_tags.specs.declared.tags.Role.TheVariants.{None as Outside}
use Rattle.ax_tags.specs.declared.tags.Tag.{Tag}
use Rattle.ax_tags.specs.declared.tags.Tag.TheVariants as tag
use Rattle.ax_isa.specs.declared.effects.Effect.{Effect}
use Rattle.ax_isa.specs.declared.effects.Effect.TheVariants as effect
use Rattle.ax_isa.specs.Past.{Noted, is_lost, link}
use Rattle.ax_isa.specs.Processor.{Processor}
use Rattle.ax_isa.specs.Steps.{effected, go_on, go_with, paired}
use Rattle.ax_isa.specs.Tells.{An_act, Done, Library, bytes_of, given_in, given_of, is_excused, is_failed, told}
use Rattle.ax_isa.proofs.Functions.{at_same}
use Rattle.ax_loops.proofs.Reserved.{failed_lost, reserved}
use Rattle.ax_rv.specs.declared.instructions.RvInstr.{RvInstr}
use Rattle.ax_rv.specs.Instructions.{effect_of}
use Rattle.ax_emit.specs.Images.{Drafted}
use Rattle.std.proofs.lemmas.Bool.{false≢true}
use Rattle.ax_idle_rv.proofs.Kept.{Remembers}

-- p's last linked load was of these bytes, and its reservation stands, or is noted as lost
pub record Tracked (p a bytes : ℕ) (n : Noted) : Type 0 where
  pub last : n.past.last p ≡ Some (reserved a bytes)
  pub alive : (n.storage.linked p ≡ Some (reserved a bytes)) ⊎ (n.past.lost p ≡ true)

pub linked_tracks : (p a bytes : ℕ) (n : Noted) → Tracked p a bytes (link p a bytes n)
linked_tracks p a bytes n = record { last = at_same n.past.last p (Some (reserved a bytes)); alive = inl (at_same n.storage.linked p (Some (reserved a bytes))) }

tracked_kept : (p a bytes : ℕ) (old new : Noted) → Remembers p old new → Tracked p a bytes old → Tracked p a bytes new
tracked_kept p a bytes old new k h = record { last = k.last ∙ h.last; alive = k.lost (reserved a bytes) h.last h.alive }

-- a pair store that gives an Act where it stores
abbrev pub is_pair : Tag → Bool
is_pair tag.Stored = true
is_pair tag.StoredOrMiss = true
is_pair _ = false

abbrev pub PoisedBy : Effect → Tag → (Processor → Type 0) → ℕ → Processor → Noted → Type 0
PoisedBy (effect.PairStore to a bytes number) t Rest p c n = (is_pair t ≡ true) × Tracked p a bytes n
PoisedBy (effect.Set to number) t Rest p c n = Rest (go_with to number c)
PoisedBy effect.Nop t Rest p c n = Rest (go_on c)
PoisedBy _ t Rest p c n = ⊥

-- at the first instruction of this code, with fewer than r steps to it
abbrev pub Poised : ℕ → List (Drafted RvInstr) → ℕ → Processor → Noted → Type 0
Poised zero ds p c n = ⊥
Poised (suc r) [] p c n = ⊥
Poised (suc r) (d ∷ ds) p c n = PoisedBy (effect_of d.inst c) d.tag (λ a. Poised r ds p a n) p c n

by_kept : (e : Effect) (t : Tag) (Before After : Processor → Type 0) (p : ℕ) (c : Processor) (old new : Noted) → Remembers p old new → ((a : Processor) → Before a → After a) → PoisedBy e t Before p c old → PoisedBy e t After p c new
by_kept (effect.PairStore to a bytes number) t Before After p c old new k rest h = (h.0, tracked_kept p a bytes old new k h.1)
by_kept (effect.Set to number) t Before After p c old new k rest h = rest (go_with to number c) h
by_kept effect.Nop t Before After p c old new k rest h = rest (go_on c) h
by_kept _ t Before After p c old new k rest h = absurd h

-- whatever others do, it stays so
pub poised_kept : (r : ℕ) (ds : List (Drafted RvInstr)) (p : ℕ) (c : Processor) (old new : Noted) → Remembers p old new → Poised r ds p c old → Poised r ds p c new
poised_kept zero ds p c old new k h = absurd h
poised_kept (suc r) [] p c old new k h = absurd h
poised_kept (suc r) (d ∷ ds) p c old new k h = by_kept (effect_of d.inst c) d.tag (λ a. Poised r ds p a old) (λ a. Poised r ds p a new) p c old new k (λ a. poised_kept r ds p a old new k) h

-- ---- the pair store
module _ (lib : Library) (t : Tag) (p to a bytes number : ℕ) (c : Processor) (n : Noted) (pair : is_pair t ≡ true) (outside : c.role ≡ Outside) (h : Tracked p a bytes n) where
  abbrev e : Effect
  e = effect.PairStore to a bytes number

  abbrev d : Done
  d = told lib t p e c n (effected false p e c n)

  stored_given : (t : Tag) → is_pair t ≡ true → given_of t (bytes_of e) c (paired true p to a bytes number c n).outcome ≡ An_act
  stored_given tag.Stored is = ap (λ (r : Role). given_in r tag.Stored (bytes_of e) c (paired true p to a bytes number c n).outcome) outside
  stored_given tag.StoredOrMiss is = ap (λ (r : Role). given_in r tag.StoredOrMiss (bytes_of e) c (paired true p to a bytes number c n).outcome) outside
  stored_given _ is = absurd (false≢true is)

  lost_pair_is : may_pair p a bytes n.storage ≡ false → d.lost ≡ true
  lost_pair_is fails =
      ap (λ (b : Bool). is_failed (paired b p to a bytes number c n).outcome.stored && is_lost p a bytes n) fails
      ∙ failed_lost p a bytes (number_at n.storage.mem a bytes) n fails (record { stays = λ is. refl; last = h.last; alive = h.alive })

  -- it gives an Act, or fails for a cause
  pub pair_goes : (given_of t (bytes_of e) c (effected false p e c n).outcome ≡ An_act) ⊎ (is_excused d ≡ true)
  pair_goes = by (may_pair p a bytes n.storage) refl
    where
      by : (b : Bool) → may_pair p a bytes n.storage ≡ b → (given_of t (bytes_of e) c (effected false p e c n).outcome ≡ An_act) ⊎ (is_excused d ≡ true)
      by true is = inl (ap (λ (b : Bool). given_of t (bytes_of e) c (paired b p to a bytes number c n).outcome) is ∙ stored_given t pair)
      by false is = inr (ap (λ (b : Bool). (b || d.overtaken) || d.busy) (lost_pair_is is))
