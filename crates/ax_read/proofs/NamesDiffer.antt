-- The globals and functions of a text whose names fit have names that differ.
use Rattle.std.proofs.Common.{◌≡◌, ℕ, true, false, ◌||◌, not, List, [], ◌∷◌, ◌++◌, map, Option, refl, sym, subst, ◌∙◌, true≢false}
use Rattle.std.specs.List.{list_any}
use Rattle.std.specs.Str.{bytes_eq}
use Rattle.std.proofs.lemmas.List.{append-nil}
use Rattle.std.proofs.lemmas.Bool.{or_parts, or_from, and_parts, and_from, not_from_false, not-true, false_from_ne_true}
use Rattle.std.proofs.lemmas.Slice.Eq.{bytes_eq-Decides}
use Rattle.ax_module.specs.declared.module.Global.{Global}
use Rattle.ax_module.specs.declared.module.Function.{Function}
use Rattle.ax_module.specs.WellFormed.{all_differ}
use Rattle.ax_lines.specs.declared.statement.Line.{Line}
use Rattle.ax_lines.specs.declared.statement.Line.TheVariants as line
use Rattle.ax_scope.specs.declared.meaning.Meaning.{Meaning}
use Rattle.ax_scope.specs.NameTable.{is_among}
use Rattle.ax_scope.specs.Names.{text_at}
use Rattle.ax_scope.specs.Faults.{Body, again, outer_name, param_names, is_reserved, outer_fault, inner_fault, function_behind, faults_from, AllFalse}
use Rattle.ax_scope.specs.Module.{global_at, globals_in, function_at, functions_in}
use Rattle.ax_read.proofs.Grants.{Each}

-- ---- lists of names

pub differ_sym : (m n : List ℕ) → bytes_eq m n ≡ false → bytes_eq n m ≡ false
differ_sym m n h = false_from_ne_true (bytes_eq n m) (λ e. true≢false (sym ((bytes_eq-Decides m n).1 (sym ((bytes_eq-Decides n m).0 e))) ∙ h))

among_split : (m : List ℕ) (names : List (List ℕ)) (n : List ℕ) → is_among m (names ++ n ∷ []) ≡ false → (is_among m names ≡ false) × (bytes_eq m n ≡ false)
among_split m [] n h = (refl, (or_parts (bytes_eq m n) false h).0)
among_split m (k ∷ names) n h =
    let p = or_parts (bytes_eq m k) (is_among m (names ++ n ∷ [])) h in
    let more = among_split m names n p.1 in
    (or_from (bytes_eq m k) (is_among m names) p.0 more.0, more.1)

abbrev NotAmong : List (List ℕ) → List ℕ → Type 0
NotAmong names m = is_among m names ≡ false

abbrev Unlike : List ℕ → List ℕ → Type 0
Unlike n m = bytes_eq m n ≡ false

all_split : (names : List (List ℕ)) (n : List ℕ) (ms : List (List ℕ)) → Each (NotAmong (names ++ n ∷ [])) ms → Each (NotAmong names) ms × Each (Unlike n) ms
all_split names n [] h = (tt, tt)
all_split names n (m ∷ ms) h =
    let p = among_split m names n h.0 in
    let more = all_split names n ms h.1 in
    ((p.0, more.0), (p.1, more.1))

none_any : (n : List ℕ) (ms : List (List ℕ)) → Each (Unlike n) ms → list_any (bytes_eq n) ms ≡ false
none_any n [] h = refl
none_any n (m ∷ ms) h = or_from (bytes_eq n m) (list_any (bytes_eq n) ms) (differ_sym m n h.0) (none_any n ms h.1)

any_insert : (a n : List ℕ) (xs ys : List (List ℕ)) → bytes_eq a n ≡ false → list_any (bytes_eq a) (xs ++ ys) ≡ false → list_any (bytes_eq a) (xs ++ n ∷ ys) ≡ false
any_insert a n [] ys h g = or_from (bytes_eq a n) (list_any (bytes_eq a) ys) h g
any_insert a n (x ∷ xs) ys h g =
    let p = or_parts (bytes_eq a x) (list_any (bytes_eq a) (xs ++ ys)) g in
    or_from (bytes_eq a x) (list_any (bytes_eq a) (xs ++ n ∷ ys)) p.0 (any_insert a n xs ys h p.1)

insert_differ : (n : List ℕ) (xs ys : List (List ℕ)) → Each (Unlike n) (xs ++ ys) → all_differ (xs ++ ys) ≡ true → all_differ (xs ++ n ∷ ys) ≡ true
insert_differ n [] ys h g = and_from (not (list_any (bytes_eq n) ys)) (all_differ ys) (not_from_false (list_any (bytes_eq n) ys) (none_any n ys h)) g
insert_differ n (x ∷ xs) ys h g =
    let p = and_parts (not (list_any (bytes_eq x) (xs ++ ys))) (all_differ (xs ++ ys)) g in
    let f = any_insert x n xs ys h.0 (not-true (list_any (bytes_eq x) (xs ++ ys)) p.0) in
    and_from (not (list_any (bytes_eq x) (xs ++ n ∷ ys))) (all_differ (xs ++ n ∷ ys)) (not_from_false (list_any (bytes_eq x) (xs ++ n ∷ ys)) f) (insert_differ n xs ys h.1 p.1)

each_insert : (P : List ℕ → Type 0) (n : List ℕ) (xs ys : List (List ℕ)) → P n → Each P (xs ++ ys) → Each P (xs ++ n ∷ ys)
each_insert P n [] ys h g = (h, g)
each_insert P n (x ∷ xs) ys h g = (g.0, each_insert P n xs ys h g.1)

module _ (text : List ℕ) (globals : List ℕ → Option Meaning) where
  abbrev outer_names : List Line → List (List ℕ)
  outer_names ls = map (λ (g : Global). g.name) (globals_in text ls) ++ map (λ (f : Function). f.name) (functions_in text globals ls)

  abbrev Differs : List (List ℕ) → List (List ℕ) → Type 0
  Differs names ms = Each (NotAmong names) ms × (all_differ ms ≡ true)

  other : (names ms : List (List ℕ)) → Differs (names ++ []) ms → Differs names ms
  other names ms h = subst (λ (ns : List (List ℕ)). Differs ns ms) (append-nil names) h

  new_name : (names : List (List ℕ)) (n : List ℕ) (xs ys : List (List ℕ)) → again names (n ∷ []) ≡ false → Differs (names ++ n ∷ []) (xs ++ ys) → Differs names (xs ++ n ∷ ys)
  new_name names n xs ys h g =
      let p = (or_parts (is_among n names) false h).0 in
      let s = all_split names n (xs ++ ys) g.0 in
      (each_insert (NotAmong names) n xs ys p s.0, insert_differ n xs ys s.1 g.1)

  pub differ : (names : List (List ℕ)) (function : Option Body) (ls : List Line) → AllFalse (faults_from text globals names function ls) → Differs names (outer_names ls)
  unfolding outer_name global_at function_at
  differ names function [] h = (tt, refl)
  differ names function (line.Global n t c vs a ∷ ls) h =
      let l : Line = line.Global n t c vs a in
      let f = (or_parts (outer_fault text names l) (inner_fault function l) h.0).0 in
      let g = (or_parts (is_reserved text l || again names (text_at text n ∷ [])) (again [] (param_names text l)) f).0 in
      let k = (or_parts (is_reserved text l) (again names (text_at text n ∷ [])) g).1 in
      new_name names (text_at text n) [] (outer_names ls) k (differ (names ++ text_at text n ∷ []) (function_behind text globals function l ls) ls h.1)
  differ names function (line.Define n r ps ∷ ls) h =
      let l : Line = line.Define n r ps in
      let f = (or_parts (outer_fault text names l) (inner_fault function l) h.0).0 in
      let g = (or_parts (is_reserved text l || again names (text_at text n ∷ [])) (again [] (param_names text l)) f).0 in
      let k = (or_parts (is_reserved text l) (again names (text_at text n ∷ [])) g).1 in
      new_name names (text_at text n) (map (λ (g : Global). g.name) (globals_in text ls)) (map (λ (f : Function). f.name) (functions_in text globals ls)) k (differ (names ++ text_at text n ∷ []) (function_behind text globals function l ls) ls h.1)
  differ names function (l ∷ ls) h = other names (outer_names ls) (differ (names ++ []) (function_behind text globals function l ls) ls h.1)
