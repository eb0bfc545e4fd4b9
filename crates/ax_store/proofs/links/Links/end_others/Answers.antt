use Rattle.std.proofs.Common.{◌≡◌, ◌+◌, ◌<◌, ℕ, List, Option, None, length, refl, sym, ap, ◌∙◌, subst, arith, ⊎_elim}
use Rattle.std.specs.Prelude.{if◌then◌else◌, nat_lt, slice_set, slice_index_or}
use Rattle.std.proofs.lemmas.Bool.{cases_eq}
use Rattle.std.proofs.lemmas.Bool.Decides.{nat_tests}
use Rattle.std.proofs.Math.ListN.{length-set}
use Rattle.std.proofs.lemmas.Grind.{common_steps}
use Rattle.ax_store.specs.declared.entry.Reservation.{Reservation}
use Rattle.ax_store.specs.Links.{link_of}
use Rattle.ax_store.specs.Reservations.{left_of}
use Rattle.ax_store.proofs.links.Links.end_others.Invariants.{Sofar}
use Rattle.ax_store.proofs.links.Links.end_others.Goals as goal

module _ {A : Type 0} (d : A) (F : ℕ → A → A) where
  none_yet : (old : List A) (q : ℕ) → slice_index_or old q d ≡ (if nat_lt q 0 then F q (slice_index_or old q d) else slice_index_or old q d)
  none_yet old q = grind (arith, nat_tests)

  one_more : (old mid : List A) (i : ℕ) (v : A) → i < length mid → v ≡ F i (slice_index_or mid i d)
      → ((q : ℕ) → slice_index_or mid q d ≡ (if nat_lt q i then F q (slice_index_or old q d) else slice_index_or old q d))
      → (q : ℕ) → slice_index_or (slice_set mid i v) q d ≡ (if nat_lt q (i + 1) then F q (slice_index_or old q d) else slice_index_or old q d)
  one_more old mid i v h e before q =
      let b = before q in
      let m = before i in
      ⊎_elim
      (λ same. subst (λ q. slice_index_or (slice_set mid i v) q d ≡ (if nat_lt q (i + 1) then F q (slice_index_or old q d) else slice_index_or old q d)) (sym same) (grind (arith, common_steps, nat_tests)))
      (λ other. grind (arith, common_steps, nat_tests))
      (cases_eq q i)

  all_done : (old new : List A) (n : ℕ) → n ≡ length old → ((q : ℕ) → F q d ≡ d)
      → ((q : ℕ) → slice_index_or new q d ≡ (if nat_lt q n then F q (slice_index_or old q d) else slice_index_or old q d))
      → (q : ℕ) → slice_index_or new q d ≡ F q (slice_index_or old q d)
  all_done old new n e keeps before q =
      let b = before q in
      let k = keeps q in
      grind (arith, common_steps, nat_tests)

pub loop-q-init : goal.loop-q-init
loop-q-init c = record { count = refl; links = none_yet None (left_of c.args.p c.args.a c.args.n) c.args.self.now }

more : (old mid new : List (Option Reservation)) (p a n i : ℕ) (v : Option Reservation) → Sofar old mid p a n i → i < length mid → v ≡ left_of p a n i (link_of mid i) → new ≡ slice_set mid i v → Sofar old new p a n (i + 1)
more old mid new p a n i v s h e set = record {
  count = ap length set ∙ length-set _ _ _ ∙ s.count;
  links = λ q. ap (λ t. link_of t q) set ∙ one_more None (left_of p a n) old mid i v h e s.links q;
}

pub loop-q-preserved : goal.loop-q-preserved
loop-q-preserved c =
    let i = c.loop-q.invariant.count in
    let h : c.loop-q.q < length c.loop-q.self = omega arith in
    more c.args.self.now c.loop-q.self c.set.new.self c.args.p c.args.a c.args.n c.loop-q.q c.left-link.result c.loop-q.invariant h (c.left-link.ensures ∙ ap (left_of c.args.p c.args.a c.args.n c.loop-q.q) c.get.ensures) c.set.ensures

pub returns-clause-links : goal.returns-clause-links
returns-clause-links c =
    let e : c.loop-q.q ≡ length c.args.self.now = omega arith in
    let h = all_done None (left_of c.args.p c.args.a c.args.n) c.args.self.now c.loop-q.self c.loop-q.q e (λ q. refl) c.loop-q.invariant.links in
    λ d q. h q d
