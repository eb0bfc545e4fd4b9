-- What the steps of others, drains and drops leave of a last linked load; and that memory holds bytes.
use Rattle.std.proofs.Common.{◌≡◌, ℕ, Bool, true, false, List, [], ◌∷◌, Option, Some, None, refl, sym, ap, ◌∙◌, subst, inl, inr, ⊎_elim}
use Rattle.std.specs.Prelude.{◌⊎◌, if◌then◌else◌, nat_eq}
use Rattle.std.proofs.lemmas.Bool.{cases_eq, eq-eqb}
use Rattle.ax_store.specs.declared.entry.Entry.{Entry}
use Rattle.ax_store.specs.declared.entry.Reservation.{Reservation}
use Rattle.ax_store.specs.Reservations.{left_of}
use Rattle.ax_isa.specs.Past.{Noted, drain, drain_first, drain_list, drop_link, lost_by}
use Rattle.ax_isa.specs.Processor.{Processor}
use Rattle.ax_isa.specs.Run.{Setting, at_code, step, step_at}
use Rattle.ax_isa.specs.Steps.{effected, possible, stuck}
use Rattle.ax_isa.specs.Tells.{told, told_stuck}
use Rattle.ax_follow.specs.Bounds.{AreBytes}
use Rattle.ax_follow.proofs.Bounds.{drain_bytes, effect_bytes}
use Rattle.ax_follow.proofs.Quiet.{by_drop, drain_quiet, step_quiet}

-- it stays the last one, and its reservation stands, or is noted as lost
pub record Remembers (p : ℕ) (old new : Noted) : Type 0 where
  pub last : new.past.last p ≡ old.past.last p
  pub lost : (r : Reservation) → old.past.last p ≡ Some r → (old.storage.linked p ≡ Some r) ⊎ (old.past.lost p ≡ true) → (new.storage.linked p ≡ Some r) ⊎ (new.past.lost p ≡ true)

remembers_same : (p : ℕ) (n : Noted) → Remembers p n n
remembers_same p n = record { last = refl; lost = λ r is h. h }

remembers_both : (p : ℕ) (a b c : Noted) → Remembers p a b → Remembers p b c → Remembers p a c
remembers_both p a b c h k = record { last = k.last ∙ h.last; lost = λ r is i. k.lost r (h.last ∙ is) (h.lost r is i) }

-- an own write ends no own reservation
own_write : (p a n : ℕ) (r : Reservation) (l last : Option Reservation) (t : Bool) → last ≡ Some r → (l ≡ Some r) ⊎ (t ≡ true) → (left_of p a n p l ≡ Some r) ⊎ (lost_by p a n p last t ≡ true)
own_write p a n r l last t is h = subst (λ x. (left_of p a n p l ≡ Some r) ⊎ (lost_by p a n p x t ≡ true)) (sym is) (go h)
  where
    same : nat_eq p p ≡ true
    same = eq-eqb p p refl

    go : (l ≡ Some r) ⊎ (t ≡ true) → (left_of p a n p l ≡ Some r) ⊎ (lost_by p a n p (Some r) t ≡ true)
    go (inl e) = inl (ap (left_of p a n p) e ∙ (rw (same) refl))
    go (inr e) = inr (rw (same) e)

own_drain : (p : ℕ) (es : List Entry) (n : Noted) → Remembers p n (drain_first p es n)
own_drain p [] n = remembers_same p n
own_drain p (e ∷ es) n = record { last = refl; lost = λ r is h. own_write p e.address e.bytes r (n.storage.linked p) (n.past.last p) (n.past.lost p) is h }

pub drain_remembered : (p q : ℕ) (n : Noted) → Remembers q n (drain p n)
drain_remembered p q n = ⊎_elim (λ same. subst (λ x. Remembers x n (drain p n)) same (own_drain p (n.storage.waiting p) n)) (λ ne. (let k = drain_quiet p q n ne in record { last = k.last; lost = k.lost })) (cases_eq p q)

pub drains_remembered : (es : List Entry) (p q : ℕ) (n : Noted) → Remembers q n (drain_list es p n)
drains_remembered [] p q n = remembers_same q n
drains_remembered (e ∷ es) p q n = remembers_both q n (drain p n) (drain_list es p (drain p n)) (drain_remembered p q n) (drains_remembered es p q (drain p n))

pub drop_remembered : (p q : ℕ) (n : Noted) → Remembers q n (drop_link p n)
drop_remembered p q n = let k = by_drop p q n in record { last = k.last; lost = k.lost }

-- a step of another, with the drains before it
pub step_remembered : {I : Type 0} (x : Setting I) (p q : ℕ) (c : Processor) (es : List Entry) (n : Noted) → (p ≡ q → ⊥) → Remembers q n (step x p c (drain_list es p n)).noted
step_remembered x p q c es n ne =
    let k = step_quiet x p q c (drain_list es p n) ne in
    remembers_both q n (drain_list es p n) (step x p c (drain_list es p n)).noted (drains_remembered es p q n) (record { last = k.last; lost = k.lost })

-- ---- bytes
pub drains_bytes : (es : List Entry) (p : ℕ) (n : Noted) → AreBytes n.storage.mem → AreBytes (drain_list es p n).storage.mem
drains_bytes [] p n h = h
drains_bytes (e ∷ es) p n h = drains_bytes es p (drain p n) (drain_bytes p n h)

module _ {I : Type 0} (x : Setting I) (p : ℕ) (c : Processor) (n : Noted) (h : AreBytes n.storage.mem) where
  pub step_bytes : AreBytes (step x p c n).noted.storage.mem
  step_bytes = at (at_code x.code c.place)
    where
      of : (i : I) (t : Bool) → (let d = if t then told x.library (x.tags c.place) p (x.kind.effect_of i c) c n (effected x.kind.buffered p (x.kind.effect_of i c) c n) else told_stuck (x.tags c.place) c (stuck c n) in AreBytes d.noted.storage.mem)
      of i true = effect_bytes x.kind.buffered p (x.kind.effect_of i c) c n h
      of i false = h

      at : (i : Option I) → AreBytes (step_at x i p c n).noted.storage.mem
      at None = h
      at (Some i) = of i (possible p (x.kind.effect_of i c) c n.storage)
