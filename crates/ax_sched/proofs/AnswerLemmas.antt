-- What the reader's answer says of a text and its module.
use Rattle.std.proofs.Common.{◌≡◌, ◌≢◌, ℕ, ◌^◌, ◌<◌, arith, Bool, true, false, not, List, [], ◌∷◌, ◌++◌, length, map, All, AllPairs, Result, Ok, Err, IfOk, refl, sym, ap, subst, ◌∙◌}
use Rattle.std.specs.Prelude.{◌&&◌, ◌||◌, MatchResult, nat_eq}
use Rattle.std.specs.List.{list_all, list_any}
use Rattle.std.specs.Cmp.Lexicographic.{pointwise}
use Rattle.std.proofs.lemmas.Bool.{and_parts, both_ways, not-true, ltb-true}
use Rattle.std.proofs.lemmas.Slice.Eq.{bytes_eq-Decides}
use Rattle.std.proofs.lemmas.List.Elements.{All-nil, All-cons}
use Rattle.std.proofs.lemmas.List.Kept.{AllPairs-cons}
use Rattle.ax_module.specs.declared.module.Module.{Module}
use Rattle.ax_module.specs.WellFormed.{is_global, is_function, all_differ, names_of, is_count, is_function_counted, IsModule}
use Rattle.ax_sched.specs.declared.plan.Plan.{Plan}
use Rattle.ax_sched.specs.declared.fault.Cause.{Cause}
use Rattle.ax_sched.specs.declared.fault.SchedFault.{SchedFault}
use Rattle.ax_sched.specs.declared.fault.SchedFault.TheVariants.{Bad, Memory}
use Rattle.ax_sched.specs.Plan.{IsPlan, IsPlanOf}
use Rattle.ax_sched.specs.Lines.{lines_of, kept_lines}
use Rattle.ax_sched.specs.Schedule.{function_names, stated, IsSchedule, IsFirstBad, IsSchedFault, IsBadAt}
use Rattle.ax_sched.specs.Reading.{plan_from, AnswersAs}
use Rattle.ax_sched.proofs.NameLemmas.{length_mapped}
use Rattle.ax_sched.proofs.FirstLemmas.{same_Ok, same_Err, apart}
use Rattle.ax_sched.proofs.ExactLemmas.{plan_on, plan_worded, plan_found, plan_only, plan_stop, bad_only}

-- ---- the names of a well formed module's functions

abbrev Differ : List ℕ → List ℕ → Type 0
Differ x y = x ≢ y

one_differs : (x : List ℕ) (ys : List (List ℕ)) → list_any (pointwise nat_eq x) ys ≡ false → All (Differ x) ys
one_differs x [] h = All-nil (Differ x)
one_differs x (y ∷ ys) h =
    let a = or_none (pointwise nat_eq x y) (list_any (pointwise nat_eq x) ys) h in
    All-cons (Differ x) y ys (λ (e : x ≡ y). both_ways (pointwise nat_eq x y) a.0 ((bytes_eq-Decides x y).1 e)) (one_differs x ys a.1)
  where
    or_none : (b c : Bool) → (b || c) ≡ false → (b ≡ false) × (c ≡ false)
    or_none false false e = (refl, refl)
    or_none false true e = absurd cc
    or_none true c e = absurd cc

all_apart : (xs : List (List ℕ)) → all_differ xs ≡ true → AllPairs Differ xs
all_apart [] h = λ (i j : ℕ) (d : List ℕ) (lt : i < j) (within : j < length {A = List ℕ} []). absurd (omega arith)
all_apart (x ∷ xs) h =
    let a = and_parts (not (list_any (pointwise nat_eq x) xs)) (all_differ xs) h in
    AllPairs-cons Differ x xs (one_differs x xs (not-true (list_any (pointwise nat_eq x) xs) a.0)) (all_apart xs a.1)

rest_differ : (xs ys : List (List ℕ)) → all_differ (xs ++ ys) ≡ true → all_differ ys ≡ true
rest_differ [] ys h = h
rest_differ (x ∷ xs) ys h = rest_differ xs ys (and_parts (not (list_any (pointwise nat_eq x) (xs ++ ys))) (all_differ (xs ++ ys)) h).1

pub functions_differ : (m : Module) → IsModule m → AllPairs (λ x y. x ≢ y) (function_names m)
functions_differ m h =
    let a = and_parts (all_differ (names_of m) && list_all is_global m.globals) (list_all (is_function (length m.globals)) m.functions) h.formed in
    let b = and_parts (all_differ (names_of m)) (list_all is_global m.globals) a.0 in
    all_apart (function_names m) (rest_differ (map (λ g. g.name) m.globals) (function_names m) b.0)

pub functions_few : (m : Module) → IsModule m → length m.functions < 2 ^ 32
functions_few m h =
    let a = and_parts (is_count (length m.globals) && is_count (length m.functions)) (list_all is_function_counted m.functions) h.counts in
    ltb-true (length m.functions) (2 ^ 32) (and_parts (is_count (length m.globals)) (is_count (length m.functions)) a.0).1

-- ---- answers

module _ (text : List ℕ) (m : Module) where
  abbrev read : Result Plan (ℕ × Cause)
  read = plan_on (function_names m) (length (lines_of text)) (stated text)

  pub answer : (r : Result Plan SchedFault) → AnswersAs (λ p. p) r (plan_from (function_names m) (length (lines_of text)) (kept_lines text)) → AnswersAs (λ p. p) r read
  answer r h = subst (AnswersAs (λ (p : Plan). p) r) (plan_worded (function_names m) (length (lines_of text)) (kept_lines text)) h

  pub found_of : (r : Result Plan SchedFault) → AnswersAs (λ p. p) r read → IfOk r (IsSchedule text m)
  found_of (Ok plan) h = plan_found (function_names m) (length (lines_of text)) (stated text) plan h
  found_of (Err e) h = tt

  pub fits_of : (r : Result Plan SchedFault) → AnswersAs (λ p. p) r read → IfOk r (IsPlanOf m)
  fits_of (Ok plan) h =
      let n : length (function_names m) ≡ length m.functions = length_mapped (λ f. f.name) m.functions in
      subst (λ (k : ℕ). IsPlan k plan) n (plan_found (function_names m) (length (lines_of text)) (stated text) plan h).fits
  fits_of (Err e) h = tt

  module _ (differ : AllPairs (λ x y. x ≢ y) (function_names m)) where
    pub only_of : (r : Result Plan SchedFault) → AnswersAs (λ p. p) r read → (plan : Plan) → IsSchedule text m plan → MatchResult r (λ p. p ≡ plan) (λ e. e ≡ Memory)
    only_of (Ok p) h plan s = same_Ok p plan (sym h ∙ plan_only (function_names m) differ (length (lines_of text)) (stated text) plan s)
    only_of (Err Memory) h plan s = refl
    only_of (Err (Bad line cause)) h plan s = absurd (apart plan (line, cause) (sym (plan_only (function_names m) differ (length (lines_of text)) (stated text) plan s) ∙ h))

    pub fault_of : (r : Result Plan SchedFault) → AnswersAs (λ p. p) r read → MatchResult r (λ _. Unit {0}) (IsSchedFault text m)
    fault_of (Ok p) h = tt
    fault_of (Err Memory) h = tt
    fault_of (Err (Bad line cause)) h = plan_stop (function_names m) differ (length (lines_of text)) (stated text) (line, cause) h

    pub bad_of : (r : Result Plan SchedFault) → AnswersAs (λ p. p) r read → (line : ℕ) (cause : Cause) → IsFirstBad text m line cause → MatchResult r (λ _. ⊥) (IsBadAt line cause)
    bad_of (Ok p) h line cause b = apart p (line, cause) (sym h ∙ bad_only (function_names m) differ (length (lines_of text)) line (stated text) cause b)
    bad_of (Err Memory) h line cause b = tt
    bad_of (Err (Bad l c)) h line cause b =
        let e = same_Err (l, c) (line, cause) (sym h ∙ bad_only (function_names m) differ (length (lines_of text)) line (stated text) cause b) in
        (ap (λ (x : ℕ × Cause). x.0) e, ap (λ (x : ℕ × Cause). x.1) e)
