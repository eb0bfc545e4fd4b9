-- Tests and look-ups of names, on the names and on what holds them.
use Rattle.std.proofs.Common.{◌≡◌, ℕ, Bool, true, false, cond, List, [], ◌∷◌, ◌++◌, Option, Some, None, is_some, map, refl, sym, ap, ◌∙◌, true≢false}
use Rattle.std.specs.Prelude.{not, ◌||◌, if◌then◌else◌, is_none}
use Rattle.std.specs.Global.{Vec}
use Rattle.std.specs.Map.{lookup}
use Rattle.std.specs.List.{list_any}
use Rattle.std.specs.Str.{bytes_eq}
use Rattle.indexmap.specs.IndexMap.{insert_entry}
use Rattle.ax_scope.specs.declared.meaning.Meaning.{Meaning}
use Rattle.ax_scope.specs.NameTable.{look, with_name, is_among}

abbrev pub texts : List (Vec ℕ) → List (List ℕ)
texts keys = map (λ k. k.items) keys

pub any_texts : (q : List ℕ) (ks : List (Vec ℕ)) → is_among q (texts ks) ≡ list_any (λ k. bytes_eq q k.items) ks
any_texts q [] = refl
any_texts q (k ∷ ks) = ap (λ b. bytes_eq q k.items || b) (any_texts q ks)

pub fresh_name : (old : List (List ℕ)) (name : List ℕ) (ks : List (Vec ℕ)) (k : Vec ℕ) → texts ks ≡ old → k.items ≡ name
    → not (list_any (λ j. bytes_eq k.items j.items) ks) ≡ not (is_among name old)
fresh_name old name ks k view same = ap not (sym (any_texts k.items ks) ∙ ap (λ (q : List ℕ). is_among q (texts ks)) same ∙ ap (λ (ns : List (List ℕ)). is_among name ns) view)

abbrev pub views : List (Vec ℕ × Meaning) → List (List ℕ × Meaning)
views es = map (λ e. (e.0.items, e.1)) es

pub look_views : (q : List ℕ) (es : List (Vec ℕ × Meaning)) → look (views es) q ≡ lookup (λ k. bytes_eq q k.items) es
look_views q [] = refl
look_views q (e ∷ es) = ap (cond (bytes_eq q e.0.items) (Some e.1)) (look_views q es)

abbrev same_key : Vec ℕ → Vec ℕ → Bool
same_key a b = bytes_eq a.items b.items

entry_by : (k : Vec ℕ) (m : Meaning) (e : Vec ℕ × Meaning) (es : List (Vec ℕ × Meaning)) (t : Bool)
    → is_some (cond t (Some e.1) (lookup (same_key k) es)) ≡ false
    → (is_some (lookup (same_key k) es) ≡ false → views (insert_entry same_key es k m) ≡ views es ++ (k.items, m) ∷ [])
    → views (if t then (e.0, m) ∷ es else e ∷ insert_entry same_key es k m) ≡ (e.0.items, e.1) ∷ views es ++ (k.items, m) ∷ []
entry_by k m e es true none more = absurd (true≢false none)
entry_by k m e es false none more = ap (λ (xs : List (List ℕ × Meaning)). (e.0.items, e.1) ∷ xs) (more none)

pub new_entry : (k : Vec ℕ) (m : Meaning) (es : List (Vec ℕ × Meaning)) → is_some (lookup (same_key k) es) ≡ false
    → views (insert_entry same_key es k m) ≡ views es ++ (k.items, m) ∷ []
new_entry k m [] none = refl
new_entry k m (e ∷ es) none = entry_by k m e es (same_key k e.0) none (new_entry k m es)

none_by : (o : Option Meaning) (b : Bool) → is_some o ≡ b → is_none o ≡ not b
none_by None b e = ap not e
none_by (Some m) b e = ap not e

-- a name that is there
pub kept : (old : List (List ℕ × Meaning)) (name : List ℕ) (m : Meaning) (es : List (Vec ℕ × Meaning)) (b : Bool) → views es ≡ old
    → b ≡ is_some (lookup (λ k. bytes_eq name k.items) es) → b ≡ true → old ≡ with_name old name m
kept old name m es b view found is =
    let o : look old name ≡ lookup (λ k. bytes_eq name k.items) es = ap (λ (ns : List (List ℕ × Meaning)). look ns name) (sym view) ∙ look_views name es in
    let n : is_none (look old name) ≡ false = none_by (look old name) true (ap is_some o ∙ sym found ∙ is) in
    sym (ap (λ (t : Bool). cond t (old ++ (name, m) ∷ []) old) n)

-- a name that is not
pub added : (old : List (List ℕ × Meaning)) (name : List ℕ) (m : Meaning) (es new : List (Vec ℕ × Meaning)) (k : Vec ℕ) (b : Bool) → views es ≡ old
    → b ≡ is_some (lookup (λ k. bytes_eq name k.items) es) → b ≡ false → k.items ≡ name → new ≡ insert_entry same_key es k m
    → views new ≡ with_name old name m
added old name m es new k b view found is same e =
    let o : look old name ≡ lookup (λ k. bytes_eq name k.items) es = ap (λ (ns : List (List ℕ × Meaning)). look ns name) (sym view) ∙ look_views name es in
    let n : is_none (look old name) ≡ true = none_by (look old name) false (ap is_some o ∙ sym found ∙ is) in
    let f : is_some (lookup (same_key k) es) ≡ false = ap (λ (q : List ℕ). is_some (lookup (λ j. bytes_eq q j.items) es)) same ∙ sym found ∙ is in
    ap views e ∙ new_entry k m es f ∙ ap (λ (ns : List (List ℕ × Meaning)). ns ++ (k.items, m) ∷ []) view ∙ ap (λ (q : List ℕ). old ++ (q, m) ∷ []) same
    ∙ sym (ap (λ (t : Bool). cond t (old ++ (name, m) ∷ []) old) n)
