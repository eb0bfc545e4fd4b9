-- A machine in whose code each step gives an Act, has an excuse, or leads nearer to such a step idles no more than the greatest distance.
use Rattle.std.proofs.Common.{◌≡◌, ℕ, ◌+◌, ◌≤◌, Bool, true, false, List, [], ◌∷◌, inl, inr, ⊎_elim, refl, sym, ap, ◌∙◌, subst, arith}
use Rattle.std.specs.Prelude.{◌⊎◌}
use Rattle.std.proofs.lemmas.Bool.{cases_eq}
use Rattle.ax_words.specs.declared.event.Event.{Event}
use Rattle.ax_words.specs.declared.event.Event.TheVariants.{Step, Drain, Drop}
use Rattle.ax_store.specs.declared.entry.Entry.{Entry}
use Rattle.ax_store.specs.Storage.{at_place}
use Rattle.ax_tags.specs.declared.tags.Role.TheVariants.{None as Outside}
use Rattle.ax_isa.specs.declared.cpu.Status.{Status}
use Rattle.ax_isa.specs.declared.cpu.Status.TheVariants.{Running, Ended, Trapped, Stuck}
use Rattle.ax_isa.specs.Past.{Noted, drain, drop_link}
use Rattle.ax_isa.specs.Processor.{Processor}
use Rattle.ax_isa.specs.Run.{Machine, Setting, done, gives, happens, idle_after, idle_if, idle_next, idle_run, ready, sent, step, step_if}
use Rattle.ax_isa.specs.Tells.{An_act, A_look, A_miss, Done, Given, Nothing, given_of, is_excused}
use Rattle.ax_isa.proofs.Functions.{at_same, at_other}
use Rattle.ax_follow.specs.Bounds.{AreBytes}
use Rattle.ax_follow.proofs.Bounds.{drain_bytes}
use Rattle.ax_idle_rv.proofs.Kept.{Remembers, drain_remembered, drains_bytes, drains_remembered, drop_remembered, step_bytes, step_remembered}

idle_one : (g : Given) (excused : Bool) (u : ℕ) → idle_after g excused u ≤ u + 1
idle_one An_act excused u = omega arith
idle_one Nothing true u = omega arith
idle_one Nothing false u = omega arith
idle_one A_look true u = omega arith
idle_one A_look false u = omega arith
idle_one A_miss true u = omega arith
idle_one A_miss false u = omega arith

idle_act : (g : Given) (excused : Bool) (u : ℕ) → g ≡ An_act → idle_after g excused u ≡ 0
idle_act g excused u is = ap (λ (h : Given). idle_after h excused u) is

idle_excused : (g : Given) (excused : Bool) (u : ℕ) → excused ≡ true → idle_after g excused u ≡ 0
idle_excused g excused u is = ap (λ (b : Bool). idle_after g b u) is ∙ none g
  where
    none : (g : Given) → idle_after g true u ≡ 0
    none An_act = refl
    none Nothing = refl
    none A_look = refl
    none A_miss = refl

-- so many steps at most lead from p's state to an Act or an excuse, where others may do what they like meanwhile
module _ (Within : ℕ → ℕ → Processor → Noted → Type 0) where
  pub record Lower (r p : ℕ) (d : Done) : Type 0 where
    pub rank : ℕ
    pub less : rank + 1 ≤ r
    pub within : Within rank p d.processor d.noted

  abbrev pub Onward : Given → ℕ → ℕ → Done → Type 0
  Onward g r p d = (g ≡ An_act) ⊎ ((is_excused d ≡ true) ⊎ Lower r p d)

  module _ {I : Type 0} (z : Setting I) (most : ℕ) where
    abbrev pub Leads : ℕ → ℕ → Processor → Done → Type 0
    Leads r p c d = d.processor.status ≡ Running → (d.processor.role ≡ Outside) × Onward (given_of (z.tags c.place) d.bytes c d.outcome) r p d

    pub record Descends : Type 0 where
      pub least : (p : ℕ) (c : Processor) (n : Noted) → Within most p c n
      pub kept : (r p : ℕ) (c : Processor) (old new : Noted) → Remembers p old new → Within r p c old → Within r p c new
      pub steps : (r p : ℕ) (c : Processor) (n : Noted) → AreBytes n.storage.mem → c.role ≡ Outside → Within r p c n → Leads r p c (step z p c n)

    -- a processor with its idle steps
    record Room (p : ℕ) (c : Processor) (n : Noted) (u : ℕ) : Type 0 where
      rank : ℕ
      within : Within rank p c n
      room : u + rank ≤ most

    record Low (p : ℕ) (c : Processor) (n : Noted) (u : ℕ) : Type 0 where
      low : u ≤ most + 1
      runs : c.status ≡ Running → (c.role ≡ Outside) × Room p c n u

    record AllLow (m : Machine) (u : ℕ → ℕ) : Type 0 where
      bytes : AreBytes m.noted.storage.mem
      each : (q : ℕ) → Low q (m.processors q) m.noted (u q)

    module _ (counts : Entry → Bool) (falls : Descends) where
      low_kept : (p : ℕ) (c : Processor) (old new : Noted) (u : ℕ) → Remembers p old new → Low p c old u → Low p c new u
      low_kept p c old new u k h = record { low = h.low; runs = λ r. (let own = h.runs r in (own.0, record { rank = own.1.rank; within = falls.kept own.1.rank p c old new k own.1.within; room = own.1.room })) }

      onward : (g : Given) (r p u : ℕ) (d : Done) → Onward g r p d → u + r ≤ most → Room p d.processor d.noted (idle_after g (is_excused d) u)
      onward g r p u d (inl act) room = let none = idle_act g (is_excused d) u act in record { rank = most; within = falls.least p d.processor d.noted; room = omega (arith, none) }
      onward g r p u d (inr (inl excused)) room = let none = idle_excused g (is_excused d) u excused in record { rank = most; within = falls.least p d.processor d.noted; room = omega (arith, none) }
      onward g r p u d (inr (inr lower)) room = let one = idle_one g (is_excused d) u in let less = lower.less in record { rank = lower.rank; within = lower.within; room = omega (arith, one, less, room) }

      after : (p : ℕ) (c : Processor) (n : Noted) (u : ℕ) → AreBytes n.storage.mem → c.status ≡ Running → Low p c n u
          → Low p (step z p c n).processor (step z p c n).noted (idle_after (given_of (z.tags c.place) (step z p c n).bytes c (step z p c n).outcome) (is_excused (step z p c n)) u)
      after p c n u bytes running h =
          let d : Done = step z p c n in
          let g : Given = given_of (z.tags c.place) d.bytes c d.outcome in
          let own = h.runs running in
          let room = own.1.room in
          let one = idle_one g (is_excused d) u in
          record {
            low = omega (arith, one, room);
            runs = λ r. (let leads = falls.steps own.1.rank p c n bytes own.0 own.1.within r in (leads.0, onward g own.1.rank p u d leads.1 room));
          }

      stepped : (s : Status) (p : ℕ) (m : Machine) (u : ℕ → ℕ) → (m.processors p).status ≡ s → AllLow m u → AllLow (step_if z s p m) (idle_if z given_of z.tags counts s p m u)
      stepped Running p m u is h =
          let d : Done = done z p m in
          let v : ℕ = idle_after (gives z given_of z.tags counts p m) (is_excused d) (u p) in
          let n : Noted = (ready z p m).noted in
          let bytes = drains_bytes (sent z p m) p m.noted h.bytes in
          let mine = after p (m.processors p) n (u p) bytes is (low_kept p (m.processors p) m.noted n (u p) (drains_remembered (sent z p m) p p m.noted) (h.each p)) in
          record {
            bytes = step_bytes z p (m.processors p) n bytes;
            each = λ q. ⊎_elim
                (λ same. subst (λ x. Low x (at_place m.processors p d.processor x) d.noted (at_place u p v x)) (sym same)
                (subst (λ c. Low p c d.noted (at_place u p v p)) (sym (at_same m.processors p d.processor)) (subst (λ k. Low p d.processor d.noted k) (sym (at_same u p v)) mine)))
                (λ ne. subst (λ c. Low q c d.noted (at_place u p v q)) (sym (at_other m.processors p d.processor q ne))
                (subst (λ k. Low q (m.processors q) d.noted k) (sym (at_other u p v q ne)) (low_kept q (m.processors q) m.noted d.noted (u q) (step_remembered z p q (m.processors p) (sent z p m) m.noted (λ e. ne (sym e))) (h.each q)))) (cases_eq q p);
          }
      stepped Ended p m u is h = h
      stepped Trapped p m u is h = h
      stepped Stuck p m u is h = h

      next : (e : Event) (m : Machine) (u : ℕ → ℕ) → AllLow m u → AllLow (happens z e m) (idle_next z given_of z.tags counts e m u)
      next (Step p) m u h = stepped (m.processors p).status p m u refl h
      next (Drain p) m u h = record { bytes = drain_bytes p m.noted h.bytes; each = λ q. low_kept q (m.processors q) m.noted (drain p m.noted) (u q) (drain_remembered p q m.noted) (h.each q) }
      next (Drop p) m u h = record { bytes = h.bytes; each = λ q. low_kept q (m.processors q) m.noted (drop_link p m.noted) (u q) (drop_remembered p q m.noted) (h.each q) }

      few : (events : List Event) (m : Machine) (u : ℕ → ℕ) → AllLow m u → (q : ℕ) → idle_run z given_of z.tags counts events m u q ≤ most + 1
      few [] m u h q = (h.each q).low
      few (e ∷ events) m u h q = few events (happens z e m) (idle_next z given_of z.tags counts e m u) (next e m u h) q

      -- from a state in which no processor is in a call
      pub never_idles : (m : Machine) → AreBytes m.noted.storage.mem → ((q : ℕ) → (m.processors q).role ≡ Outside) → (events : List Event) (q : ℕ) → idle_run z given_of z.tags counts events m (λ p. 0) q ≤ most + 1
      never_idles m bytes outside events q = few events m (λ p. 0) (record { bytes = bytes; each = λ p. record { low = omega arith; runs = λ r. (outside p, record { rank = most; within = falls.least p (m.processors p) m.noted; room = omega arith }) } }) q
