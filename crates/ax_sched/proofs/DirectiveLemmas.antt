-- A directive's line is read exactly: its item, or the first of its causes.
use Rattle.std.proofs.Common.{◌≡◌, ℕ, ◌+◌, ◌<◌, ◌≤◌, ◌^◌, arith, lit<, Bool, true, false, List, [], ◌∷◌, codes, Option, Some, None, Ok, Err, refl, sym, ap, subst, ◌∙◌, inl, inr}
use Rattle.std.specs.Prelude.{nat_eq, nat_lt, nat_le, option_map, if◌then◌else◌}
use Rattle.std.specs.Option.{option_and_then}
use Rattle.std.specs.Cmp.Lexicographic.{pointwise}
use Rattle.std.specs.Fmt.{decimal}
use Rattle.std.proofs.lemmas.Bool.{cases_Bool, ltb-true, lt-ltb, leb-true, le-leb, both_ways, false_from_ne_true}
use Rattle.std.proofs.lemmas.Bool.Decides.{nat_tests}
use Rattle.std.proofs.lemmas.Option.{same_Some}
use Rattle.std.proofs.lemmas.Slice.Eq.{bytes_eq-Decides}
use Rattle.ax_sched.specs.declared.plan.Item.{Item}
use Rattle.ax_sched.specs.declared.plan.Item.TheVariants.{Step, Drain, Drop, Link, Round, Random}
use Rattle.ax_sched.specs.declared.directive.Verb.{Verb}
use Rattle.ax_sched.specs.declared.directive.Verb.TheVariants as verb
use Rattle.ax_sched.specs.declared.directive.Directive.{Directive}
use Rattle.ax_sched.specs.declared.fault.Cause.{Cause}
use Rattle.ax_sched.specs.declared.fault.Cause.TheVariants.{Syntax, ProcessorRange, UnknownEntry, UnknownObject, TooMany}
use Rattle.ax_sched.specs.Plan.{IsWithin, times_of}
use Rattle.ax_sched.specs.Schedule.{item_words, HasNumbers, IsDirective}
use Rattle.ax_sched.specs.Reading.{or_cause, number_of, verb_of, directive_of, random_from, named_from, directive_from, item_by, item_of, checked, item_from}
use Rattle.ax_sched.proofs.NumberLemmas.{number_of_found, number_of_decimal}
use Rattle.ax_sched.proofs.FirstLemmas.{same_Ok, same_Err, apart, or_cause_ok, or_cause_err}

bind_some : {A B : Type 0} (o : Option A) (f : A → Option B) (y : B) → option_and_then f o ≡ Some y → (x : A) × (o ≡ Some x) × (f x ≡ Some y)
bind_some None f y e = absurd cc
bind_some (Some x) f y e = (x, refl, e)

option_mapped : {A B : Type 0} (f : A → B) (o : Option A) (y : B) → option_map f o ≡ Some y → (x : A) × (o ≡ Some x) × (f x ≡ y)
option_mapped f None y e = absurd cc
option_mapped f (Some x) y e = (x, refl, same_Some (f x) y e)

-- the word of a verb
abbrev word_of : Verb → List ℕ
word_of verb.Step = codes "step"
word_of verb.Drain = codes "drain"
word_of verb.Drop = codes "drop"
word_of verb.Link = codes "link"
word_of verb.Round = codes "round"
word_of (verb.Random s) = codes "random"

-- it names a processor
abbrev IsNamed : Verb → Type 0
IsNamed verb.Round = ⊥
IsNamed (verb.Random s) = ⊥
IsNamed verb.Step = Unit {0}
IsNamed verb.Drain = Unit {0}
IsNamed verb.Drop = Unit {0}
IsNamed verb.Link = Unit {0}

-- what a directive is that was read from words
record IsRead (words : List (List ℕ)) (d : Directive) : Type 0 where
  whole : words ≡ item_words (item_of d)
  numbers : HasNumbers (item_of d)
  none : (IsNamed d.verb → ⊥) → d.p ≡ 0

word_is : (w t : List ℕ) → pointwise nat_eq w t ≡ true → w ≡ t
word_is w t h = (bytes_eq-Decides w t).0 h

verb_found : (w : List ℕ) (v : Verb) → verb_of w ≡ Some v → (w ≡ word_of v) × IsNamed v
verb_found w v e =
    elim (cases_Bool (pointwise nat_eq w (codes "step"))) [
      | inl a ↦ found verb.Step v (word_is w (codes "step") a) tt (same_Some verb.Step v (rw a at e))
      | inr a ↦
          let e1 = rw a at e in
          elim (cases_Bool (pointwise nat_eq w (codes "drain"))) [
            | inl b ↦ found verb.Drain v (word_is w (codes "drain") b) tt (same_Some verb.Drain v (rw b at e1))
            | inr b ↦
                let e2 = rw b at e1 in
                elim (cases_Bool (pointwise nat_eq w (codes "drop"))) [
                  | inl k ↦ found verb.Drop v (word_is w (codes "drop") k) tt (same_Some verb.Drop v (rw k at e2))
                  | inr k ↦
                      let e3 = rw k at e2 in
                      elim (cases_Bool (pointwise nat_eq w (codes "link"))) [
                        | inl m ↦ found verb.Link v (word_is w (codes "link") m) tt (same_Some verb.Link v (rw m at e3))
                        | inr m ↦ let e4 = rw m at e3 in absurd cc
                      ]
                ]
          ]
    ]
  where
    found : (u x : Verb) → w ≡ word_of u → IsNamed u → u ≡ x → (w ≡ word_of x) × IsNamed x
    found u x h n k = let P : Verb → Type 0 = λ y. (w ≡ word_of y) × IsNamed y in subst P k (h, n)

named_words : (v : Verb) (p n : ℕ) → IsNamed v → word_of v ∷ decimal p ∷ decimal n ∷ [] ≡ item_words (item_by v p n)
named_words verb.Step p n h = refl
named_words verb.Drain p n h = refl
named_words verb.Drop p n h = refl
named_words verb.Link p n h = refl
named_words verb.Round p n h = absurd h
named_words (verb.Random s) p n h = absurd h

named_numbers : (v : Verb) (p n : ℕ) → IsNamed v → p < 2 ^ 64 → n < 2 ^ 64 → HasNumbers (item_by v p n)
named_numbers verb.Step p n h small few = (small, few)
named_numbers verb.Drain p n h small few = (small, few)
named_numbers verb.Drop p n h small few = (small, few)
named_numbers verb.Link p n h small few = (small, few)
named_numbers verb.Round p n h small few = absurd h
named_numbers (verb.Random s) p n h small few = absurd h

named_found : (v a b : List ℕ) (d : Directive) → named_from v a b ≡ Some d → IsRead (v ∷ a ∷ b ∷ []) d
named_found v a b d e =
    let x = bind_some (verb_of v) (λ (u : Verb). option_and_then (λ (k : ℕ). option_map (directive_of u k) (number_of b)) (number_of a)) d e in
    let y = bind_some (number_of a) (λ (k : ℕ). option_map (directive_of x.0 k) (number_of b)) d x.2 in
    let z = option_mapped (directive_of x.0 y.0) (number_of b) d y.2 in
    let h = verb_found v x.0 x.1 in
    let p = number_of_found a y.0 y.1 in
    let n = number_of_found b z.0 z.1 in
    let P : Directive → Type 0 = λ q. IsRead (v ∷ a ∷ b ∷ []) q in
    subst P z.2 (record {
      whole = ap (λ (q : List ℕ). q ∷ a ∷ b ∷ []) h.0 ∙ ap (λ (q : List ℕ). word_of x.0 ∷ q ∷ b ∷ []) p.0 ∙ ap (λ (q : List ℕ). word_of x.0 ∷ decimal y.0 ∷ q ∷ []) n.0 ∙ named_words x.0 y.0 z.0 h.1;
      numbers = named_numbers x.0 y.0 z.0 h.1 p.1 n.1;
      none = λ r. absurd (r h.1);
    })

random_found : (v a b : List ℕ) (d : Directive) → pointwise nat_eq v (codes "random") ≡ true → random_from a b ≡ Some d → IsRead (v ∷ a ∷ b ∷ []) d
random_found v a b d good e =
    let x = bind_some (number_of a) (λ (s : ℕ). option_map (directive_of (verb.Random s) 0) (number_of b)) d e in
    let z = option_mapped (directive_of (verb.Random x.0) 0) (number_of b) d x.2 in
    let s = number_of_found a x.0 x.1 in
    let n = number_of_found b z.0 z.1 in
    let P : Directive → Type 0 = λ q. IsRead (v ∷ a ∷ b ∷ []) q in
    subst P z.2 (record {
      whole = ap (λ (q : List ℕ). q ∷ a ∷ b ∷ []) (word_is v (codes "random") good) ∙ ap (λ (q : List ℕ). codes "random" ∷ q ∷ b ∷ []) s.0 ∙ ap (λ (q : List ℕ). codes "random" ∷ decimal x.0 ∷ q ∷ []) n.0;
      numbers = (s.1, n.1);
      none = λ _. refl;
    })

directive_found : (words : List (List ℕ)) (d : Directive) → directive_from words ≡ Some d → IsRead words d
directive_found [] d e = absurd cc
directive_found (v ∷ []) d e = absurd cc
directive_found (v ∷ a ∷ []) d e =
    elim (cases_Bool (pointwise nat_eq v (codes "round"))) [
      | inl good ↦
          let n = option_mapped (directive_of verb.Round 0) (number_of a) d (rw good at e) in
          let k = number_of_found a n.0 n.1 in
          let P : Directive → Type 0 = λ x. IsRead (v ∷ a ∷ []) x in
          subst P n.2 (record {
            whole = ap (λ (x : List ℕ). x ∷ a ∷ []) (word_is v (codes "round") good) ∙ ap (λ (x : List ℕ). codes "round" ∷ x ∷ []) k.0;
            numbers = k.1;
            none = λ _. refl;
          })
      | inr bad ↦ let f = rw bad at e in absurd cc
    ]
directive_found (v ∷ a ∷ b ∷ []) d e =
    elim (cases_Bool (pointwise nat_eq v (codes "random"))) [
      | inl good ↦ random_found v a b d good (rw good at e)
      | inr bad ↦ named_found v a b d (rw bad at e)
    ]
directive_found (v ∷ a ∷ b ∷ c ∷ ws) d e = absurd cc

-- the directive of an item
abbrev stated_by : Item → Directive
stated_by (Step p n) = directive_of verb.Step p n
stated_by (Drain p n) = directive_of verb.Drain p n
stated_by (Drop p n) = directive_of verb.Drop p n
stated_by (Link p n) = directive_of verb.Link p n
stated_by (Round n) = directive_of verb.Round 0 n
stated_by (Random s n) = directive_of (verb.Random s) 0 n

named_again : (v : Verb) (w : List ℕ) (p n : ℕ) → verb_of w ≡ Some v → p < 2 ^ 64 → n < 2 ^ 64 → named_from w (decimal p) (decimal n) ≡ Some (directive_of v p n)
named_again v w p n h small few = rw (h, number_of_decimal p small, number_of_decimal n few) refl

item_again : (i : Item) → HasNumbers i → directive_from (item_words i) ≡ Some (stated_by i)
item_again (Step p n) h = named_again verb.Step (codes "step") p n refl h.0 h.1
item_again (Drain p n) h = named_again verb.Drain (codes "drain") p n refl h.0 h.1
item_again (Drop p n) h = named_again verb.Drop (codes "drop") p n refl h.0 h.1
item_again (Link p n) h = named_again verb.Link (codes "link") p n refl h.0 h.1
item_again (Round n) h = rw (number_of_decimal n h) refl
item_again (Random s n) h = rw (number_of_decimal s h.0, number_of_decimal n h.1) refl

item_stated : (i : Item) → item_of (stated_by i) ≡ i
item_stated (Step p n) = refl
item_stated (Drain p n) = refl
item_stated (Drop p n) = refl
item_stated (Link p n) = refl
item_stated (Round n) = refl
item_stated (Random s n) = refl

times_by : (v : Verb) (p n : ℕ) → times_of (item_by v p n) ≡ n
times_by verb.Step p n = refl
times_by verb.Drain p n = refl
times_by verb.Drop p n = refl
times_by verb.Link p n = refl
times_by verb.Round p n = refl
times_by (verb.Random s) p n = refl

within_found : (k : ℕ) (v : Verb) (p n : ℕ) → p < k → IsWithin k (item_by v p n)
within_found k verb.Step p n h = h
within_found k verb.Drain p n h = h
within_found k verb.Drop p n h = h
within_found k verb.Link p n h = h
within_found k verb.Round p n h = tt
within_found k (verb.Random s) p n h = tt

within_again : (k : ℕ) (i : Item) → 1 ≤ k → IsWithin k i → (stated_by i).p < k
within_again k (Step p n) some h = h
within_again k (Drain p n) some h = h
within_again k (Drop p n) some h = h
within_again k (Link p n) some h = h
within_again k (Round n) some h = omega arith
within_again k (Random s n) some h = omega arith

times_stated : (i : Item) → (stated_by i).n ≡ times_of i
times_stated (Step p n) = refl
times_stated (Drain p n) = refl
times_stated (Drop p n) = refl
times_stated (Link p n) = refl
times_stated (Round n) = refl
times_stated (Random s n) = refl

directive_is : (words : List (List ℕ)) (d : Directive) → IsRead words d → IsDirective words (item_of d)
directive_is words d h = record { whole = h.whole; numbers = h.numbers }

directive_again : (words : List (List ℕ)) (i : Item) → IsDirective words i → directive_from words ≡ Some (stated_by i)
directive_again words i h = ap directive_from h.whole ∙ item_again i h.numbers

-- ---- the line behind others

-- the causes of such a line, where there are k processors and so many events before it
abbrev pub NextCause : ℕ → ℕ → List (List ℕ) → Cause → Type 0
NextCause k events words Syntax = (item : Item) → IsDirective words item → ⊥
NextCause k events words ProcessorRange = (item : Item) × IsDirective words item × (IsWithin k item → ⊥)
NextCause k events words UnknownEntry = ⊥
NextCause k events words UnknownObject = ⊥
NextCause k events words TooMany = (item : Item) × IsDirective words item × IsWithin k item × (1000000 < events + times_of item)

pub record IsGoodNext (k events : ℕ) (words : List (List ℕ)) (i : Item) : Type 0 where
  pub directive : IsDirective words i
  pub within : IsWithin k i
  pub few : events + times_of i ≤ 1000000

module _ (k events : ℕ) (some : 1 ≤ k) where
  checked_of : (d : Directive) (p n : Bool) → nat_lt d.p k ≡ p → nat_le (events + d.n) 1000000 ≡ n → checked k events d ≡ (if p then (if n then Ok (item_of d) else Err TooMany) else Err ProcessorRange)
  checked_of d p n h g = rw (h, g) refl

  checked_found : (d : Directive) (i : Item) → checked k events d ≡ Ok i → (item_of d ≡ i) × (d.p < k) × (events + d.n ≤ 1000000)
  checked_found d i e =
      elim (cases_Bool (nat_lt d.p k)) [
        | inl a ↦
            elim (cases_Bool (nat_le (events + d.n) 1000000)) [
              | inl b ↦ (same_Ok (item_of d) i (sym (checked_of d true true a b) ∙ e), ltb-true d.p k a, leb-true (events + d.n) 1000000 b)
              | inr b ↦ absurd (apart i TooMany (sym e ∙ checked_of d true false a b))
            ]
        | inr a ↦
            elim (cases_Bool (nat_le (events + d.n) 1000000)) [
              | inl b ↦ absurd (apart i ProcessorRange (sym e ∙ checked_of d false true a b))
              | inr b ↦ absurd (apart i ProcessorRange (sym e ∙ checked_of d false false a b))
            ]
      ]

  pub next_found : (words : List (List ℕ)) (i : Item) → item_from k events words ≡ Ok i → IsGoodNext k events words i
  next_found words i e =
      let b = or_cause_ok Syntax (directive_from words) (checked k events) i e in
      let d = b.0 in
      let r = directive_found words d b.1 in
      let h = checked_found d i b.2 in
      let P : Item → Type 0 = λ x. IsGoodNext k events words x in
      subst P h.0 (record { directive = directive_is words d r; within = within_found k d.verb d.p d.n h.1; few = omega (arith, times_by d.verb d.p d.n, h.2) })

  item_at : (words : List (List ℕ)) (i : Item) → IsDirective words i → item_from k events words ≡ checked k events (stated_by i)
  item_at words i h = ap (λ o. or_cause Syntax o (checked k events)) (directive_again words i h)

  pub next_again : (words : List (List ℕ)) (i : Item) → IsGoodNext k events words i → item_from k events words ≡ Ok i
  next_again words i h =
      item_at words i h.directive
      ∙ checked_of (stated_by i) true true (lt-ltb (stated_by i).p k (within_again k i some h.within)) (le-leb (events + (stated_by i).n) 1000000 (omega (arith, times_stated i, h.few)))
      ∙ ap (λ (x : Item). Ok x) (item_stated i)

  in_range : (v : Verb) (p n : ℕ) → ((IsNamed v → ⊥) → p ≡ 0) → IsWithin k (item_by v p n) → p < k
  in_range verb.Step p n z h = h
  in_range verb.Drain p n z h = h
  in_range verb.Drop p n z h = h
  in_range verb.Link p n z h = h
  in_range verb.Round p n z h = omega (arith, z (λ (x : IsNamed verb.Round). x))
  in_range (verb.Random s) p n z h = omega (arith, z (λ (x : IsNamed (verb.Random s)). x))

  far : (d : Directive) → nat_lt d.p k ≡ false → checked k events d ≡ Err ProcessorRange
  far d h = rw h refl

  many : (d : Directive) → nat_lt d.p k ≡ true → nat_le (events + d.n) 1000000 ≡ false → checked k events d ≡ Err TooMany
  many d h g = checked_of d true false h g

  checked_stop : (words : List (List ℕ)) (d : Directive) (c : Cause) → IsRead words d → checked k events d ≡ Err c → NextCause k events words c
  checked_stop words d c r e =
      let P : Cause → Type 0 = λ x. NextCause k events words x in
      elim (cases_Bool (nat_lt d.p k)) [
        | inl a ↦
            elim (cases_Bool (nat_le (events + d.n) 1000000)) [
              | inl b ↦ absurd (apart (item_of d) c (sym (checked_of d true true a b) ∙ e))
              | inr b ↦
                  let over : 1000000 < events + d.n = above (events + d.n) b in
                  subst P (same_Err TooMany c (sym (many d a b) ∙ e)) (item_of d, directive_is words d r, within_found k d.verb d.p d.n (ltb-true d.p k a), omega (arith, times_by d.verb d.p d.n, over))
            ]
        | inr a ↦
            subst P (same_Err ProcessorRange c (sym (far d a) ∙ e)) (item_of d, directive_is words d r, λ (h : IsWithin k (item_of d)). both_ways (nat_lt d.p k) a (lt-ltb d.p k (in_range d.verb d.p d.n r.none h)))
      ]
    where
      above : (x : ℕ) → nat_le x 1000000 ≡ false → 1000000 < x
      above x h = grind (arith, nat_tests)

  none_some : {A : Type 0} (x : A) → None ≡ Some x → ⊥
  none_some x e = cc

  pub next_stop : (words : List (List ℕ)) (c : Cause) → item_from k events words ≡ Err c → NextCause k events words c
  next_stop words c e =
      elim (or_cause_err Syntax (directive_from words) (checked k events) c e) [
        | inl h ↦ let P : Cause → Type 0 = λ x. NextCause k events words x in subst P (sym h.1) (λ (i : Item) (d : IsDirective words i). none_some (stated_by i) (sym h.0 ∙ directive_again words i d))
        | inr h ↦ checked_stop words h.0 c (directive_found words h.0 h.1) h.2
      ]

  within_back : (i : Item) → (stated_by i).p < k → IsWithin k i
  within_back (Step p n) h = h
  within_back (Drain p n) h = h
  within_back (Drop p n) h = h
  within_back (Link p n) h = h
  within_back (Round n) h = tt
  within_back (Random s n) h = tt

  no_directive : (words : List (List ℕ)) → ((i : Item) → IsDirective words i → ⊥) → (o : Option Directive) → directive_from words ≡ o → or_cause Syntax o (checked k events) ≡ Err Syntax
  no_directive words h None e = refl
  no_directive words h (Some d) e = absurd (h (item_of d) (directive_is words d (directive_found words d e)))

  pub cause_again : (words : List (List ℕ)) (c : Cause) → NextCause k events words c → item_from k events words ≡ Err c
  cause_again words Syntax h = no_directive words h (directive_from words) refl
  cause_again words ProcessorRange h =
      item_at words h.0 h.1 ∙ elim (cases_Bool (nat_lt (stated_by h.0).p k)) [
        | inl a ↦ absurd (h.2 (within_back h.0 (ltb-true (stated_by h.0).p k a)))
        | inr a ↦ far (stated_by h.0) a
      ]
  cause_again words TooMany h =
      item_at words h.0 h.1
      ∙ many (stated_by h.0) (lt-ltb (stated_by h.0).p k (within_again k h.0 some h.2)) (false_from_ne_true (nat_le (events + (stated_by h.0).n) 1000000) (λ (t : nat_le (events + (stated_by h.0).n) 1000000 ≡ true). absurd (omega (arith, leb-true (events + (stated_by h.0).n) 1000000 t, times_stated h.0, h.3))))
  cause_again words UnknownEntry h = absurd h
  cause_again words UnknownObject h = absurd h
