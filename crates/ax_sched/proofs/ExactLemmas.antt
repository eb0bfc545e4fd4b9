-- A text is read exactly: the plan of which it is a schedule, or its first bad line and cause.
use Rattle.std.proofs.Common.{◌≡◌, ◌≢◌, ℕ, ◌+◌, ◌≤◌, arith, lit≤, List, [], ◌∷◌, ◌++◌, length, map, All, AllPairs, codes, Result, Ok, Err, refl, sym, ap, subst, ◌∙◌, inl, inr, append_assoc, append-nil}
use Rattle.std.specs.Prelude.{◌⊎◌}
use Rattle.std.specs.List.{sum_by}
use Rattle.std.proofs.lemmas.List.Elements.{All-nil, All-cons, All-head, All-tail}
use Rattle.std.proofs.lemmas.List.Sums.{sum_by-cons}
use Rattle.ax_sched.specs.declared.plan.Item.{Item}
use Rattle.ax_sched.specs.declared.plan.Plan.{Plan}
use Rattle.ax_sched.specs.declared.fault.Cause.{Cause}
use Rattle.ax_sched.specs.declared.fault.Cause.TheVariants.{Syntax, ProcessorRange, UnknownEntry, UnknownObject, TooMany}
use Rattle.ax_sched.specs.Plan.{IsWithin, times_of}
use Rattle.ax_sched.specs.Lines.{words_of}
use Rattle.ax_sched.specs.Schedule.{item_words, HasNumbers, IsDirective, IsNextCause, States, words_in, IsBadBehind, IsBadLine}
use Rattle.ax_sched.specs.Reading.{and_at, item_from, items_from, first_of, planned, plan_from}
use Rattle.ax_sched.proofs.FirstLemmas.{same_Ok, same_Err, apart, IsGoodFirst, first_found, first_again, first_stop, stop_again, length_entries, within_of}
use Rattle.ax_sched.proofs.DirectiveLemmas.{NextCause, IsGoodNext, next_found, next_again, next_stop, cause_again}

-- a line of a text, with its number
abbrev Line : Type 0
Line = ℕ × List (List ℕ)

and_at_ok : {A B : Type 0} (n : ℕ) (r : Result A Cause) (f : A → Result B (ℕ × Cause)) (y : B) → and_at n r f ≡ Ok y → (x : A) × (r ≡ Ok x) × (f x ≡ Ok y)
and_at_ok n (Err c) f y e = absurd (apart y (n, c) (sym e))
and_at_ok n (Ok x) f y e = (x, refl, e)

and_at_err : {A B : Type 0} (n : ℕ) (r : Result A Cause) (f : A → Result B (ℕ × Cause)) (d : ℕ × Cause) → and_at n r f ≡ Err d → ((c : Cause) × (r ≡ Err c) × (d ≡ (n, c))) ⊎ ((x : A) × (r ≡ Ok x) × (f x ≡ Err d))
and_at_err n (Err c) f d e = inl (c, refl, sym (same_Err (n, c) d e))
and_at_err n (Ok x) f d e = inr (x, refl, e)

-- ---- the reader, over the words of lines

abbrev items_on : ℕ → List Item → ℕ → List Line → Result (List Item) (ℕ × Cause)
items_on k before events [] = Ok before
items_on k before events (l ∷ ls) = and_at l.0 (item_from k events l.1) (λ i. items_on k (before ++ i ∷ []) (events + times_of i) ls)

abbrev pub plan_on : List (List ℕ) → ℕ → List Line → Result Plan (ℕ × Cause)
plan_on functions total [] = Err (total, Syntax)
plan_on functions total (l ∷ ls) = and_at l.0 (first_of functions l.1) (λ es. planned es (items_on (length es) [] 0 ls))

abbrev worded : ℕ × List ℕ → Line
worded l = (l.0, words_of l.1)

and_at_same : {A B : Type 0} (n : ℕ) (r : Result A Cause) (f g : A → Result B (ℕ × Cause)) → ((x : A) → f x ≡ g x) → and_at n r f ≡ and_at n r g
and_at_same n (Err c) f g h = refl
and_at_same n (Ok x) f g h = h x

items_worded : (k : ℕ) (before : List Item) (events : ℕ) (ls : List (ℕ × List ℕ)) → items_from k before events ls ≡ items_on k before events (map worded ls)
items_worded k before events [] = refl
items_worded k before events (l ∷ ls) =
    and_at_same l.0 (item_from k events (words_of l.1)) (λ (i : Item). items_from k (before ++ i ∷ []) (events + times_of i) ls) (λ (i : Item). items_on k (before ++ i ∷ []) (events + times_of i) (map worded ls)) (λ (i : Item). items_worded k (before ++ i ∷ []) (events + times_of i) ls)

pub plan_worded : (functions : List (List ℕ)) (total : ℕ) (ls : List (ℕ × List ℕ)) → plan_from functions total ls ≡ plan_on functions total (map worded ls)
plan_worded functions total [] = refl
plan_worded functions total (l ∷ ls) =
    and_at_same l.0 (first_of functions (words_of l.1)) (λ (es : List ℕ). planned es (items_from (length es) [] 0 ls)) (λ (es : List ℕ). planned es (items_on (length es) [] 0 (map worded ls))) (λ (es : List ℕ). ap (planned es) (items_worded (length es) [] 0 ls))

-- ---- directives

record AreItems (k events : ℕ) (lines : List (List (List ℕ))) (items : List Item) : Type 0 where
  all : lines ≡ map item_words items
  numbers : All HasNumbers items
  processors : All (IsWithin k) items
  few : events + sum_by times_of items ≤ 1000000

module _ (k : ℕ) (some : 1 ≤ k) where
  items_found : (before : List Item) (events : ℕ) (lines : List Line) (is : List Item) → events ≤ 1000000 → items_on k before events lines ≡ Ok is → (more : List Item) × (is ≡ before ++ more) × AreItems k events (words_in lines) more
  items_found before events [] is h e = ([], sym (same_Ok before is e) ∙ sym (append-nil before), record { all = refl; numbers = All-nil HasNumbers; processors = All-nil (IsWithin k); few = omega (arith, h) })
  items_found before events (l ∷ lines) is h e =
      let b = and_at_ok l.0 (item_from k events l.1) (λ (i : Item). items_on k (before ++ i ∷ []) (events + times_of i) lines) is e in
      let i : Item = b.0 in
      let g = next_found k events some l.1 i b.1 in
      let r = items_found (before ++ i ∷ []) (events + times_of i) lines is g.few b.2 in (
        i ∷ r.0,
        r.1 ∙ append_assoc before (i ∷ []) r.0,
        record {
          all = ap (λ (x : List (List ℕ)). x ∷ words_in lines) g.directive.whole ∙ ap (λ (xs : List (List (List ℕ))). item_words i ∷ xs) r.2.all;
          numbers = All-cons HasNumbers i r.0 g.directive.numbers r.2.numbers;
          processors = All-cons (IsWithin k) i r.0 g.within r.2.processors;
          few = omega (arith, r.2.few, sum_by-cons times_of i r.0);
        },
      )

  heads_same : {A : Type 0} (x y : A) (xs ys : List A) → x ∷ xs ≡ y ∷ ys → (x ≡ y) × (xs ≡ ys)
  heads_same x y xs ys e = (cc, cc)

  -- behind lines that state directives, further ones are read
  items_behind : (before : List Item) (events : ℕ) (lines rest : List Line) (more : List Item) (sum : ℕ) → sum ≡ events + sum_by times_of more → AreItems k events (words_in lines) more → items_on k before events (lines ++ rest) ≡ items_on k (before ++ more) sum rest
  items_behind before events [] rest [] sum se h =
      let e : events ≡ sum = omega arith in
      ap (λ (x : List Item). items_on k x events rest) (sym (append-nil before)) ∙ ap (λ (n : ℕ). items_on k (before ++ []) n rest) e
  items_behind before events [] rest (i ∷ more) sum se h = absurd (let e = h.all in cc)
  items_behind before events (l ∷ lines) rest [] sum se h = absurd (let e = h.all in cc)
  items_behind before events (l ∷ lines) rest (i ∷ more) sum se h =
      let s = sum_by-cons times_of i more in
      let e = heads_same l.1 (item_words i) (words_in lines) (map item_words more) h.all in
      let w = All-head (IsWithin k) i more h.processors in
      let d : IsDirective l.1 i = record { whole = e.0; numbers = All-head HasNumbers i more h.numbers } in
      let g = next_again k events some l.1 i (record { directive = d; within = w; few = omega (arith, h.few) }) in
      let r : AreItems k (events + times_of i) (words_in lines) more = record { all = e.1; numbers = All-tail HasNumbers i more h.numbers; processors = All-tail (IsWithin k) i more h.processors; few = omega (arith, h.few) } in
      ap (λ x. and_at l.0 x (λ (j : Item). items_on k (before ++ j ∷ []) (events + times_of j) (lines ++ rest))) g
      ∙ items_behind (before ++ i ∷ []) (events + times_of i) lines rest more sum (omega arith) r
      ∙ ap (λ (x : List Item). items_on k x sum rest) (append_assoc before (i ∷ []) more)

  pub record IsStop (events : ℕ) (lines : List Line) (n : ℕ) (c : Cause) : Type 0 where
    front : List Line
    words : List (List ℕ)
    behind : List Line
    whole : lines ≡ front ++ (n, words) ∷ behind
    items : List Item
    good : AreItems k events (words_in front) items
    cause : NextCause k (events + sum_by times_of items) words c

  items_stop : (before : List Item) (events : ℕ) (lines : List Line) (d : ℕ × Cause) → events ≤ 1000000 → items_on k before events lines ≡ Err d → IsStop events lines d.0 d.1
  items_stop before events [] d h e = absurd (apart before d e)
  items_stop before events (l ∷ lines) d h e =
      let P : ℕ × Cause → Type 0 = λ x. IsStop events (l ∷ lines) x.0 x.1 in
      elim (and_at_err l.0 (item_from k events l.1) (λ (i : Item). items_on k (before ++ i ∷ []) (events + times_of i) lines) d e) [
        | inl b ↦
            let z : events ≡ events + 0 = omega arith in
            subst P (sym b.2) (record {
              front = [];
              words = l.1;
              behind = lines;
              whole = refl;
              items = [];
              good = record { all = refl; numbers = All-nil HasNumbers; processors = All-nil (IsWithin k); few = omega (arith, h) };
              cause = subst (λ (x : ℕ). NextCause k x l.1 b.0) z (next_stop k events some l.1 b.0 b.1);
            })
        | inr b ↦
            let i : Item = b.0 in
            let g = next_found k events some l.1 i b.1 in
            let r = items_stop (before ++ i ∷ []) (events + times_of i) lines d g.few b.2 in
            let s = sum_by-cons times_of i r.items in
            let z : (events + times_of i) + sum_by times_of r.items ≡ events + sum_by times_of (i ∷ r.items) = omega arith in
            record {
              front = l ∷ r.front;
              words = r.words;
              behind = r.behind;
              whole = ap (λ (x : List Line). l ∷ x) r.whole;
              items = i ∷ r.items;
              good = record {
                all = ap (λ (x : List (List ℕ)). x ∷ words_in r.front) g.directive.whole ∙ ap (λ (xs : List (List (List ℕ))). item_words i ∷ xs) r.good.all;
                numbers = All-cons HasNumbers i r.items g.directive.numbers r.good.numbers;
                processors = All-cons (IsWithin k) i r.items g.within r.good.processors;
                few = omega (arith, r.good.few, s);
              };
              cause = subst (λ (x : ℕ). NextCause k x r.words d.1) z r.cause;
            }
      ]

-- ---- the whole

planned_ok : (es : List ℕ) (r : Result (List Item) (ℕ × Cause)) (plan : Plan) → planned es r ≡ Ok plan → (is : List Item) × (r ≡ Ok is) × (record { entries = es; items = is } ≡ plan)
planned_ok es (Ok is) plan e = (is, refl, same_Ok (record { entries = es; items = is }) plan e)
planned_ok es (Err d) plan e = absurd (apart plan d (sym e))

planned_err : (es : List ℕ) (r : Result (List Item) (ℕ × Cause)) (d : ℕ × Cause) → planned es r ≡ Err d → r ≡ Err d
planned_err es (Ok is) d e = absurd (apart (record { entries = es; items = is }) d e)
planned_err es (Err c) d e = ap (λ (x : ℕ × Cause). Err x) (same_Err c d e)

next_is : (plan : Plan) (words : List (List ℕ)) (c : Cause) → NextCause (length plan.entries) (sum_by times_of plan.items) words c → IsNextCause plan words c
next_is plan words Syntax h = h
next_is plan words ProcessorRange h = h
next_is plan words UnknownEntry h = h
next_is plan words UnknownObject h = h
next_is plan words TooMany h = h

next_back : (plan : Plan) (words : List (List ℕ)) (c : Cause) → IsNextCause plan words c → NextCause (length plan.entries) (sum_by times_of plan.items) words c
next_back plan words Syntax h = h
next_back plan words ProcessorRange h = h
next_back plan words UnknownEntry h = h
next_back plan words UnknownObject h = h
next_back plan words TooMany h = h

module _ (functions : List (List ℕ)) where
  stated_plan : (es : List ℕ) (is : List Item) (l : Line) (lines : List Line) → IsGoodFirst functions l.1 es → AreItems (length es) 0 (words_in lines) is → States functions (words_in (l ∷ lines)) (record { entries = es; items = is })
  stated_plan es is l lines g a =
      let n = length_entries functions g.names es g.entries in
      record {
        names = g.names;
        whole = ap (λ (x : List (List ℕ)). x ∷ words_in lines) g.whole ∙ ap (λ (x : List (List (List ℕ))). (codes "processors" ∷ g.names) ∷ x) a.all;
        named = g.entries;
        numbers = a.numbers;
        fits = record { some = omega (arith, g.count.0); few = omega (arith, g.count.1); entries = within_of functions g.names es g.entries; processors = a.processors; events = omega (arith, a.few) };
      }

  counts : (l : Line) (es : List ℕ) → IsGoodFirst functions l.1 es → (1 ≤ length es) × (length es ≤ 8)
  counts l es g = let n = length_entries functions g.names es g.entries in (omega (arith, g.count.0), omega (arith, g.count.1))

  pub plan_found : (total : ℕ) (lines : List Line) (plan : Plan) → plan_on functions total lines ≡ Ok plan → States functions (words_in lines) plan
  plan_found total [] plan e = absurd (apart plan (total, Syntax) (sym e))
  plan_found total (l ∷ lines) plan e =
      let b = and_at_ok l.0 (first_of functions l.1) (λ (es : List ℕ). planned es (items_on (length es) [] 0 lines)) plan e in
      let g = first_found functions l.1 b.0 b.1 in
      let n = counts l b.0 g in
      let p = planned_ok b.0 (items_on (length b.0) [] 0 lines) plan b.2 in
      let r = items_found (length b.0) n.0 [] 0 lines p.0 (lit≤ tt) p.1 in
      let items : AreItems (length b.0) 0 (words_in lines) p.0 = subst (λ (x : List Item). AreItems (length b.0) 0 (words_in lines) x) (sym r.1) r.2 in
      subst (λ (q : Plan). States functions (words_in (l ∷ lines)) q) p.2 (stated_plan b.0 p.0 l lines g items)

  -- the entries and the items of a plan that lines state
  first_of_plan : (l : Line) (lines : List Line) (plan : Plan) → States functions (words_in (l ∷ lines)) plan → IsGoodFirst functions l.1 plan.entries
  first_of_plan l lines plan s =
      let n = length_entries functions s.names plan.entries s.named in
      let e = s.whole in
      record { names = s.names; whole = cc; count = (omega (arith, s.fits.some), omega (arith, s.fits.few)); entries = s.named }

  items_of_plan : (l : Line) (lines : List Line) (plan : Plan) → States functions (words_in (l ∷ lines)) plan → AreItems (length plan.entries) 0 (words_in lines) plan.items
  items_of_plan l lines plan s = let e = s.whole in record { all = cc; numbers = s.numbers; processors = s.fits.processors; few = omega (arith, s.fits.events) }

  module _ (differ : AllPairs (λ x y. x ≢ y) functions) where
    -- behind lines that state a plan
    plan_behind : (total : ℕ) (l : Line) (lines rest : List Line) (plan : Plan) → States functions (words_in (l ∷ lines)) plan → plan_on functions total (l ∷ (lines ++ rest)) ≡ planned plan.entries (items_on (length plan.entries) plan.items (sum_by times_of plan.items) rest)
    plan_behind total l lines rest plan s =
        let g = first_of_plan l lines plan s in
        ap (λ x. and_at l.0 x (λ (es : List ℕ). planned es (items_on (length es) [] 0 (lines ++ rest)))) (first_again functions differ l.1 plan.entries g)
        ∙ ap (planned plan.entries) (items_behind (length plan.entries) s.fits.some [] 0 lines rest plan.items (sum_by times_of plan.items) (omega arith) (items_of_plan l lines plan s))

    pub plan_only : (total : ℕ) (lines : List Line) (plan : Plan) → States functions (words_in lines) plan → plan_on functions total lines ≡ Ok plan
    plan_only total [] plan s = absurd (let e = s.whole in cc)
    plan_only total (l ∷ lines) plan s = ap (λ (x : List Line). plan_on functions total (l ∷ x)) (sym (append-nil lines)) ∙ plan_behind total l lines [] plan s

    pub plan_stop : (total : ℕ) (lines : List Line) (d : ℕ × Cause) → plan_on functions total lines ≡ Err d → IsBadLine functions lines d.0 d.1 ⊎ ((lines ≡ []) × (d.0 ≡ total) × (d.1 ≡ Syntax))
    plan_stop total [] d e = let k = same_Err (total, Syntax) d e in inr (refl, ap (λ (x : ℕ × Cause). x.0) (sym k), ap (λ (x : ℕ × Cause). x.1) (sym k))
    plan_stop total (l ∷ lines) d e =
        let P : ℕ × Cause → Type 0 = λ x. IsBadLine functions (l ∷ lines) x.0 x.1 in
        elim (and_at_err l.0 (first_of functions l.1) (λ (es : List ℕ). planned es (items_on (length es) [] 0 lines)) d e) [
          | inl b ↦ inl (subst P (sym b.2) (record { before = []; words = l.1; behind = lines; whole = refl; bad = inl (refl, first_stop functions differ l.1 b.0 b.1) }))
          | inr b ↦
              let g = first_found functions l.1 b.0 b.1 in
              let n = counts l b.0 g in
              let r = items_stop (length b.0) n.0 [] 0 lines d (lit≤ tt) (planned_err b.0 (items_on (length b.0) [] 0 lines) d b.2) in
              let plan : Plan = record { entries = b.0; items = r.items } in
              let z : 0 + sum_by times_of r.items ≡ sum_by times_of r.items = omega arith in
              inl (record {
                before = l ∷ r.front;
                words = r.words;
                behind = r.behind;
                whole = ap (λ (x : List Line). l ∷ x) r.whole;
                bad = inr (plan, stated_plan b.0 r.items l r.front g r.good, next_is plan r.words d.1 (subst (λ (x : ℕ). NextCause (length b.0) x r.words d.1) z r.cause));
              })
        ]

    bad_at : (total n : ℕ) (before : List Line) (words : List (List ℕ)) (behind : List Line) (c : Cause) → IsBadBehind functions (words_in before) words c → plan_on functions total (before ++ (n, words) ∷ behind) ≡ Err (n, c)
    bad_at total n [] words behind c (inl h) = ap (λ x. and_at n x (λ (es : List ℕ). planned es (items_on (length es) [] 0 behind))) (stop_again functions differ words c h.1)
    bad_at total n (l ∷ before) words behind c (inl h) = absurd (let e = h.0 in cc)
    bad_at total n [] words behind c (inr h) = absurd (let e = h.1.whole in cc)
    bad_at total n (l ∷ before) words behind c (inr h) =
        let plan : Plan = h.0 in
        let k = next_back plan words c h.2 in
        plan_behind total l before ((n, words) ∷ behind) plan h.1
        ∙ ap (λ x. planned plan.entries (and_at n x (λ (i : Item). items_on (length plan.entries) (plan.items ++ i ∷ []) (sum_by times_of plan.items + times_of i) behind))) (cause_again (length plan.entries) (sum_by times_of plan.items) h.1.fits.some words c k)

    pub bad_only : (total n : ℕ) (lines : List Line) (c : Cause) → IsBadLine functions lines n c ⊎ ((lines ≡ []) × (n ≡ total) × (c ≡ Syntax)) → plan_on functions total lines ≡ Err (n, c)
    bad_only total n lines c (inl h) = ap (plan_on functions total) h.whole ∙ bad_at total n h.before h.words h.behind c h.bad
    bad_only total n lines c (inr h) =
        ap (plan_on functions total) h.0 ∙ ap (λ (x : ℕ). Err (x, Syntax)) (sym h.1) ∙ ap (λ (x : Cause). Err (n, x)) (sym h.2)
