-- Lines one after the other: a property of each, their weight, labels that stand among them, and how they go on and end.
use Rattle.std.proofs.Common.{◌≡◌, ℕ, zero, suc, ◌+◌, ◌<◌, ◌≤◌, ◌⊎◌, inl, inr, List, [], ◌∷◌, ◌++◌, Some, None, length, refl, sym, ◌∙◌, subst, arith, slice_get}
use Rattle.std.specs.Prelude.{Contains, IsTrue}
use Rattle.std.proofs.lemmas.List.Elements.{All-cons, All-contains, All-nil}
use Rattle.std.proofs.lemmas.Option.{none-some, same_Some}
use Rattle.ax_mid.specs.declared.code.Line.{Line}
use Rattle.ax_mid.specs.declared.code.Mid.{Mid}
use Rattle.ax_mid.specs.declared.code.MidGlobal.{MidGlobal}
use Rattle.ax_mid.specs.declared.instruction.MidInst.{MidInst}
use Rattle.ax_mid.specs.declared.instruction.MidInst.TheVariants as mid
use Rattle.ax_mid.specs.WellFormed.{StandsIn, is_last, labels_named, weight, weight_of}

-- ---- each of these lines has a property
abbrev pub AllLines : {R : Type 0} → (Line R → Type 0) → List (Line R) → Type 0
AllLines P [] = Unit {0}
AllLines P (line ∷ lines) = P line × AllLines P lines

pub all_both : {R : Type 0} (P : Line R → Type 0) (xs ys : List (Line R)) → AllLines P xs → AllLines P ys → AllLines P (xs ++ ys)
all_both P [] ys h g = g
all_both P (x ∷ xs) ys h g = (h.0, all_both P xs ys h.1 g)

pub all_weaker : {R : Type 0} (P Q : Line R → Type 0) (lines : List (Line R)) → ((line : Line R) → P line → Q line) → AllLines P lines → AllLines Q lines
all_weaker P Q [] weak h = tt
all_weaker P Q (line ∷ lines) weak h = (weak line h.0, all_weaker P Q lines weak h.1)

pub line_at : {R : Type 0} (P : Line R → Type 0) (lines : List (Line R)) (place : ℕ) (line : Line R) → AllLines P lines → slice_get lines place ≡ Some line → P line
line_at P [] place line h e = absurd (none-some line e)
line_at P (x ∷ lines) zero line h e = subst P (same_Some x line e) h.0
line_at P (x ∷ lines) (suc place) line h e = line_at P lines place line h.1 e

pub weight_both : {R : Type 0} (xs ys : List (Line R)) → weight_of (xs ++ ys) ≡ weight_of xs + weight_of ys
weight_both [] ys = omega arith
weight_both (x ∷ xs) ys = let e = weight_both xs ys in omega (arith, e)

weight_some : {R : Type 0} (i : MidInst R) → 1 ≤ weight i
unfolding weight
weight_some (mid.Atomic o width order weak address args results) = omega arith
weight_some (mid.Call routine role args results) = omega arith
weight_some _ = omega arith

pub length_below : {R : Type 0} (lines : List (Line R)) → length lines ≤ weight_of lines
length_below [] = omega arith
length_below (x ∷ lines) =
    let one = weight_some x.inst in
    let rest = length_below lines in
    omega (arith, one, rest)

-- ---- labels
-- the labels to which an instruction leads
abbrev pub Targets : {R : Type 0} → (ℕ → Type 0) → MidInst R → Type 0
Targets Ok (mid.Jump n) = Ok n
Targets Ok (mid.Branch test a b) = Ok a × Ok b
Targets Ok _ = Unit {0}

pub targets_more : {R : Type 0} (P Q : ℕ → Type 0) → ((n : ℕ) → P n → Q n) → (i : MidInst R) → Targets P i → Targets Q i
targets_more P Q more (mid.Jump n) h = more n h
targets_more P Q more (mid.Branch test a b) h = (more a h.0, more b h.1)
targets_more P Q more _ h = tt

pub target_is : {R : Type 0} (P : ℕ → Type 0) (i : MidInst R) (n : ℕ) → Targets P i → Contains (labels_named i) n → P n
unfolding labels_named
target_is P (mid.Jump m) n h c = All-contains P (m ∷ []) n (All-cons P m [] h (All-nil P)) c
target_is P (mid.Branch test a b) n h c = All-contains P (a ∷ b ∷ []) n (All-cons P a (b ∷ []) h.0 (All-cons P b [] h.1 (All-nil P))) c
target_is P _ n h c = All-contains P [] n (All-nil P) c

-- a label stands among these lines, in a function
abbrev pub Stands : {R : Type 0} → List (Line R) → ℕ → ℕ → Type 0
Stands [] f n = ⊥
Stands (x ∷ lines) f n = ((x.inst ≡ mid.Label n) × (x.site.function ≡ f)) ⊎ Stands lines f n

pub stands_left : {R : Type 0} (xs ys : List (Line R)) (f n : ℕ) → Stands xs f n → Stands (xs ++ ys) f n
stands_left [] ys f n h = absurd h
stands_left (x ∷ xs) ys f n (inl h) = inl h
stands_left (x ∷ xs) ys f n (inr h) = inr (stands_left xs ys f n h)

pub stands_right : {R : Type 0} (xs ys : List (Line R)) (f n : ℕ) → Stands ys f n → Stands (xs ++ ys) f n
stands_right [] ys f n h = h
stands_right (x ∷ xs) ys f n h = inr (stands_right xs ys f n h)

abbrev pub code_with : {R : Type 0} → List MidGlobal → List (Line R) → Mid R
code_with globals lines = record { globals = globals; lines = lines }

pub found : {R : Type 0} (globals : List MidGlobal) (lines : List (Line R)) (f n : ℕ) → Stands lines f n → StandsIn (code_with globals lines) f n
found globals [] f n h = absurd h
found globals (x ∷ lines) f n (inl h) = record { place = 0; line = x; at = refl; label = h.0; function = h.1 }
found globals (x ∷ lines) f n (inr h) = let r = found globals lines f n h in record { place = suc r.place; line = r.line; at = r.at; label = r.label; function = r.function }

-- ---- the last of these lines does not go on
abbrev pub EndsFrom : {R : Type 0} → Line R → List (Line R) → Type 0
EndsFrom x [] = IsTrue (is_last x.inst)
EndsFrom x (y ∷ lines) = EndsFrom y lines

abbrev pub Ends : {R : Type 0} → List (Line R) → Type 0
Ends [] = ⊥
Ends (x ∷ lines) = EndsFrom x lines

pub ends_behind : {R : Type 0} (x : Line R) (xs ys : List (Line R)) → Ends ys → EndsFrom x (xs ++ ys)
ends_behind x [] [] h = absurd h
ends_behind x [] (y ∷ ys) h = h
ends_behind x (z ∷ xs) ys h = ends_behind z xs ys h

pub ends_both : {R : Type 0} (xs ys : List (Line R)) → Ends ys → Ends (xs ++ ys)
ends_both [] ys h = h
ends_both (x ∷ xs) ys h = ends_behind x xs ys h

ends_from_alone : {R : Type 0} (x : Line R) (xs : List (Line R)) → EndsFrom x xs → EndsFrom x (xs ++ [])
ends_from_alone x [] h = h
ends_from_alone x (y ∷ xs) h = ends_from_alone y xs h

pub ends_alone : {R : Type 0} (xs : List (Line R)) → Ends xs → Ends (xs ++ [])
ends_alone [] h = absurd h
ends_alone (x ∷ xs) h = ends_from_alone x xs h

-- ---- functions one after the other
-- a line is of the same function as the one before it, or begins the next, and then that one does not go on
pub record IsNext {R : Type 0} (a b : Line R) : Type 0 where
  pub no_gap : b.site.function ≤ a.site.function + 1
  pub ends : a.site.function < b.site.function → IsTrue (is_last a.inst)

abbrev pub GoesFrom : {R : Type 0} → Line R → List (Line R) → Type 0
GoesFrom a [] = IsTrue (is_last a.inst)
GoesFrom a (b ∷ lines) = IsNext a b × GoesFrom b lines

-- no lines, or those of functions from f on
abbrev pub Begins : {R : Type 0} → ℕ → List (Line R) → Type 0
Begins f [] = Unit {0}
Begins f (x ∷ lines) = (x.site.function ≡ f) × GoesFrom x lines

abbrev pub IsIn : {R : Type 0} → ℕ → Line R → Type 0
IsIn f line = line.site.function ≡ f

one_function : {R : Type 0} (f : ℕ) (x : Line R) (xs ys : List (Line R)) → IsIn f x → AllLines (IsIn f) xs → EndsFrom x xs → Begins (f + 1) ys → GoesFrom x (xs ++ ys)
one_function f x [] [] own all last more = last
one_function f x [] (y ∷ ys) own all last more = let e = more.0 in (record { no_gap = omega (arith, own, e); ends = λ lt. last }, more.1)
one_function f x (z ∷ xs) ys own all last more = let e = all.0 in (record { no_gap = omega (arith, own, e); ends = λ lt. absurd (omega (arith, own, e, lt)) }, one_function f z xs ys all.0 all.1 last more)

pub begins_both : {R : Type 0} (f : ℕ) (xs ys : List (Line R)) → AllLines (IsIn f) xs → Ends xs → Begins (f + 1) ys → Begins f (xs ++ ys)
begins_both f [] ys all last more = absurd last
begins_both f (x ∷ xs) ys all last more = (all.0, one_function f x xs ys all.0 all.1 last more)

pub first_in : {R : Type 0} (f : ℕ) (lines : List (Line R)) (a : Line R) → Begins f lines → slice_get lines 0 ≡ Some a → IsIn f a
first_in f [] a h e = absurd (none-some a e)
first_in f (x ∷ lines) a h e = subst (IsIn f) (same_Some x a e) h.0

next_from : {R : Type 0} (x : Line R) (lines : List (Line R)) (place : ℕ) (a b : Line R) → GoesFrom x lines → slice_get (x ∷ lines) place ≡ Some a → slice_get lines place ≡ Some b → IsNext a b
next_from {R} x [] place a b h ea eb = absurd (none-some b eb)
next_from {R} x (y ∷ lines) zero a b h ea eb = subst (λ (z : Line R). IsNext z b) (same_Some x a ea) (subst (IsNext x) (same_Some y b eb) h.0)
next_from {R} x (y ∷ lines) (suc place) a b h ea eb = next_from y lines place a b h.1 ea eb

last_from : {R : Type 0} (x : Line R) (lines : List (Line R)) (place : ℕ) (a : Line R) → GoesFrom x lines → slice_get (x ∷ lines) place ≡ Some a → slice_get lines place ≡ None → IsTrue (is_last a.inst)
last_from {R} x [] zero a h ea end = subst (λ (z : Line R). IsTrue (is_last z.inst)) (same_Some x a ea) h
last_from {R} x [] (suc place) a h ea end = absurd (none-some a ea)
last_from {R} x (y ∷ lines) zero a h ea end = absurd (none-some y (sym end))
last_from {R} x (y ∷ lines) (suc place) a h ea end = last_from y lines place a h.1 ea end

behind : {R : Type 0} (x : Line R) (lines : List (Line R)) (place : ℕ) → slice_get (x ∷ lines) (place + 1) ≡ slice_get lines place
behind x lines place = let same : place + 1 ≡ suc place = omega arith in subst (λ (n : ℕ). slice_get (x ∷ lines) n ≡ slice_get lines place) (sym same) refl

pub next_in : {R : Type 0} (f : ℕ) (lines : List (Line R)) (place : ℕ) (a b : Line R) → Begins f lines → slice_get lines place ≡ Some a → slice_get lines (place + 1) ≡ Some b → IsNext a b
next_in f [] place a b h ea eb = absurd (none-some a ea)
next_in f (x ∷ lines) place a b h ea eb = next_from x lines place a b h.1 ea (sym (behind x lines place) ∙ eb)

pub last_in : {R : Type 0} (f : ℕ) (lines : List (Line R)) (place : ℕ) (a : Line R) → Begins f lines → slice_get lines place ≡ Some a → slice_get lines (place + 1) ≡ None → IsTrue (is_last a.inst)
last_in f [] place a h ea end = absurd (none-some a ea)
last_in f (x ∷ lines) place a h ea end = last_from x lines place a h.1 ea (sym (behind x lines place) ∙ end)
