-- Look-ups among names that are added to a scope.
use Rattle.std.proofs.Common.{◌≡◌, ℕ, Bool, true, false, cond, List, [], ◌∷◌, ◌++◌, Option, Some, None, refl, sym, ap, ◌∙◌, append_assoc}
use Rattle.std.proofs.lemmas.List.{append-nil}
use Rattle.std.specs.Prelude.{is_none}
use Rattle.std.specs.Str.{bytes_eq}
use Rattle.std.proofs.lemmas.Slice.Eq.{bytes_eq-Decides}
use Rattle.ax_scope.specs.declared.meaning.Meaning.{Meaning}
use Rattle.ax_scope.specs.NameTable.{look, with_name, added}

-- a name is looked up in front first
abbrev or_else : Option Meaning → Option Meaning → Option Meaning
or_else None o = o
or_else (Some m) o = Some m

look_append : (q : List ℕ) (xs ys : List (List ℕ × Meaning)) → look (xs ++ ys) q ≡ or_else (look xs q) (look ys q)
look_append q [] ys = refl
look_append q (x ∷ xs) ys = by (bytes_eq q x.0) (look_append q xs ys)
  where
    by : (t : Bool) → look (xs ++ ys) q ≡ or_else (look xs q) (look ys q) → cond t (Some x.1) (look (xs ++ ys) q) ≡ or_else (cond t (Some x.1) (look xs q)) (look ys q)
    by true e = refl
    by false e = e

there : (q name : List ℕ) (m n : Meaning) (names ds : List (List ℕ × Meaning)) (t : Bool) → bytes_eq q name ≡ t → look names name ≡ Some n
    → or_else (look names q) (look ds q) ≡ or_else (look names q) (cond t (Some m) (look ds q))
there q name m n names ds true same found =
    let e : look names q ≡ Some n = ap (λ (p : List ℕ). look names p) ((bytes_eq-Decides q name).0 same) ∙ found in
    ap (λ (o : Option Meaning). or_else o (look ds q)) e ∙ sym (ap (λ (o : Option Meaning). or_else o (Some m)) e)
there q name m n names ds false same found = refl

-- a look-up finds nothing more or else behind a name that was there
look_with : (q name : List ℕ) (m : Meaning) (names ds : List (List ℕ × Meaning)) → look (with_name names name m ++ ds) q ≡ look (names ++ (name, m) ∷ ds) q
look_with q name m names ds = by (look names name) refl
  where
    by : (o : Option Meaning) → look names name ≡ o → look (cond (is_none o) (names ++ (name, m) ∷ []) names ++ ds) q ≡ look (names ++ (name, m) ∷ ds) q
    by None found = ap (λ (s : List (List ℕ × Meaning)). look s q) (append_assoc names ((name, m) ∷ []) ds)
    by (Some n) found = look_append q names ds ∙ there q name m n names ds (bytes_eq q name) refl found ∙ sym (look_append q names ((name, m) ∷ ds))

look_added_by : (q : List ℕ) (names ds : List (List ℕ × Meaning)) → look (added names ds) q ≡ look (names ++ ds) q
look_added_by q names [] = ap (λ (s : List (List ℕ × Meaning)). look s q) (sym (append-nil names))
look_added_by q names (d ∷ ds) = look_added_by q (with_name names d.0 d.1) ds ∙ look_with q d.0 d.1 names ds

-- The first declaration of each name counts.
pub look_added : (ds : List (List ℕ × Meaning)) → look (added [] ds) ≡ look ds
look_added ds = λ i q. look_added_by q [] ds i
