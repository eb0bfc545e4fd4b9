-- On a machine without buffers nothing ever waits, so an explanation is the same whichever stores count.
use Rattle.std.proofs.Common.{◌≡◌, ℕ, Bool, true, false, List, [], ◌∷◌, ◌++◌, refl, sym, ap, ◌∙◌, subst, ⊎_elim}
use Rattle.std.proofs.lemmas.Bool.{cases_eq}
use Rattle.ax_words.specs.declared.event.Event.{Event}
use Rattle.ax_words.specs.declared.event.Event.TheVariants.{Step, Drain, Drop}
use Rattle.ax_store.specs.declared.entry.Entry.{Entry}
use Rattle.ax_isa.specs.declared.cpu.Status.{Status}
use Rattle.ax_isa.specs.declared.cpu.Status.TheVariants.{Running, Ended, Trapped, Stuck}
use Rattle.ax_isa.specs.declared.effects.Outcome.{Outcome}
use Rattle.ax_tags.specs.declared.tags.Tag.{Tag}
use Rattle.ax_isa.specs.Past.{Noted, drain, drain_first, drain_list}
use Rattle.ax_isa.specs.Processor.{Processor}
use Rattle.ax_isa.specs.Run.{Setting, Machine, drain_events, events_if, events_of, explain, explained, first_drain, flushing, gives, happens, idle_if, idle_next, idle_run, ready, sent, step, step_if, with_noted}
use Rattle.ax_isa.specs.Steps.{waits}
use Rattle.ax_isa.specs.Tells.{Given}
use Rattle.ax_follow.proofs.Quiet.{step_flat, step_quiet}

module _ {I : Type 0} (x : Setting I) (plain : x.kind.buffered ≡ false) where
  abbrev pub Flat : Noted → Type 0
  Flat n = (q : ℕ) → n.storage.waiting q ≡ []

  pub sent_none : (p : ℕ) (m : Machine) → Flat m.noted → sent x p m ≡ []
  sent_none p m f = go (flushing x p (m.processors p) m.noted)
    where
      go : (t : Bool) → waits t p m.noted ≡ []
      go true = f p
      go false = refl

  pub ready_same : (p : ℕ) (m : Machine) → Flat m.noted → ready x p m ≡ m
  ready_same p m f = ap (λ es. with_noted (drain_list es p m.noted) m) (sent_none p m f)

  pub drain_same : (p : ℕ) (m : Machine) → Flat m.noted → with_noted (drain p m.noted) m ≡ m
  drain_same p m f = ap (λ es. with_noted (drain_first p es m.noted) m) (f p)

  pub step_keeps : (p : ℕ) (c : Processor) (n : Noted) → Flat n → Flat (step x p c n).noted
  step_keeps p c n f q =
      ⊎_elim (λ same. let F : ℕ → Type 0 = λ y. (step x p c n).noted.storage.waiting y ≡ [] in subst F same (step_flat x p c n plain (f p))) (λ ne. (step_quiet x p q c n ne).waiting ∙ f q) (cases_eq p q)

  pub happens_keeps : (e : Event) (m : Machine) → Flat m.noted → Flat (happens x e m).noted
  happens_keeps (Step p) m f = go (m.processors p).status
    where
      go : (s : Status) → Flat (step_if x s p m).noted
      go Running = subst (λ (n : Machine). Flat (step x p (m.processors p) n.noted).noted) (sym (ready_same p m f)) (step_keeps p (m.processors p) m.noted f)
      go Ended = f
      go Trapped = f
      go Stuck = f
  happens_keeps (Drain p) m f = subst (λ (n : Machine). Flat n.noted) (sym (drain_same p m f)) f
  happens_keeps (Drop p) m f = f

  module _ (given : Tag → ℕ → Processor → Outcome → Given) (tags : ℕ → Tag) (one two : Entry → Bool) where
    explained_same : (e : Event) (m : Machine) → Flat m.noted → explained x given tags one e m ≡ explained x given tags two e m
    explained_same (Step p) m f = go (m.processors p).status
      where
        go : (s : Status) → events_if x given tags one s p m ≡ events_if x given tags two s p m
        go Running =
            ap (λ es. drain_events one p es ++ events_of p (gives x given tags one p m)) (sent_none p m f) ∙ sym (ap (λ es. drain_events two p es ++ events_of p (gives x given tags two p m)) (sent_none p m f))
        go Ended = refl
        go Trapped = refl
        go Stuck = refl
    explained_same (Drain p) m f = ap (first_drain one p) (f p) ∙ sym (ap (first_drain two p) (f p))
    explained_same (Drop p) m f = refl

    pub explain_same : (es : List Event) (m : Machine) → Flat m.noted → explain x given tags one es m ≡ explain x given tags two es m
    explain_same [] m f = refl
    explain_same (e ∷ es) m f = ap (λ l. l ++ explain x given tags one es (happens x e m)) (explained_same e m f) ∙ ap (λ l. explained x given tags two e m ++ l) (explain_same es (happens x e m) (happens_keeps e m f))

    idle_next_same : (e : Event) (m : Machine) (idle : ℕ → ℕ) → idle_next x given tags one e m idle ≡ idle_next x given tags two e m idle
    idle_next_same (Step p) m idle = go (m.processors p).status
      where
        go : (s : Status) → idle_if x given tags one s p m idle ≡ idle_if x given tags two s p m idle
        go Running = refl
        go Ended = refl
        go Trapped = refl
        go Stuck = refl
    idle_next_same (Drain p) m idle = refl
    idle_next_same (Drop p) m idle = refl

    pub idle_same : (es : List Event) (m : Machine) (idle : ℕ → ℕ) → idle_run x given tags one es m idle ≡ idle_run x given tags two es m idle
    idle_same [] m idle = refl
    idle_same (e ∷ es) m idle = ap (idle_run x given tags one es (happens x e m)) (idle_next_same e m idle) ∙ idle_same es (happens x e m) (idle_next x given tags two e m idle)
