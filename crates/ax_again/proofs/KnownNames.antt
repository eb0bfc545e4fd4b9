-- What the canonical names of a function stand for.
use Rattle.std.proofs.Common.{◌≡◌, ℕ, zero, suc, ◌+◌, ◌^◌, ◌<◌, ◌≤◌, arith, Bool, true, false, cond, not, List, [], ◌∷◌, ◌++◌, length, map, Some, None, refl, sym, ap, ◌∙◌, codes, decimal, ◌==◌, true≢false, slice_index_or, slice_get}
use Rattle.std.specs.List.{list_any}
use Rattle.std.specs.Str.{bytes_eq}
use Rattle.std.proofs.lemmas.Bool.{and_parts, not-true, eqb-true, ltb-true, false_from_ne_true, or_parts, eq-eqb}
use Rattle.std.proofs.lemmas.Slice.Eq.{bytes_eq-Decides}
use Rattle.std.proofs.lemmas.Fmt.{decimal_injective}
use Rattle.ax_module.specs.declared.types.Ty.{Ty}
use Rattle.ax_module.specs.declared.inst.Inst.{Inst}
use Rattle.ax_module.specs.declared.module.Global.{Global}
use Rattle.ax_module.specs.declared.module.Block.{Block}
use Rattle.ax_module.specs.declared.module.Function.{Function}
use Rattle.ax_module.specs.Kinds.{has_result}
use Rattle.ax_module.specs.Names.{global_token}
use Rattle.ax_ir.specs.Canonical.{names_tokens}
use Rattle.ax_module.specs.WellFormed.{has_result_at, all_differ, insts_of, scope_of}
use Rattle.ax_scope.specs.declared.meaning.Meaning.{Meaning}
use Rattle.ax_scope.specs.declared.meaning.Meaning.TheVariants as meaning
use Rattle.ax_scope.specs.NameTable.{look}
use Rattle.ax_scope.specs.Names.{declared}
use Rattle.ax_read.proofs.NamesDiffer.{differ_sym}
use Rattle.ax_again.proofs.EatPieces.{Known}
use Rattle.ax_again.proofs.StatedLines.{can_globals, can_params, can_results, can_blocks, can_looks}

cut : (c : ℕ) (xs ys : List ℕ) → ◌≡◌ {A = List ℕ} (c ∷ xs) (c ∷ ys) → xs ≡ ys
cut c xs ys e = cc

-- names with different numbers differ
pub unlike : (c m n : ℕ) → m < 2 ^ 64 → n < 2 ^ 64 → (m ≡ n → ⊥) → bytes_eq (c ∷ decimal m) (c ∷ decimal n) ≡ false
unlike c m n h g d = false_from_ne_true (bytes_eq (c ∷ decimal m) (c ∷ decimal n)) (λ e. d (decimal_injective m n h g (cut c (decimal m) (decimal n) ((bytes_eq-Decides (c ∷ decimal m) (c ∷ decimal n)).0 e))))

pub alike : (c m n : ℕ) → m ≡ n → bytes_eq (c ∷ decimal m) (c ∷ decimal n) ≡ true
alike c m n e = (bytes_eq-Decides (c ∷ decimal m) (c ∷ decimal n)).1 (ap (λ (k : ℕ). c ∷ decimal k) e)

ne_of : (m n : ℕ) → m == n ≡ false → m ≡ n → ⊥
ne_of m n e f = true≢false (sym (eq-eqb m n f) ∙ e)

look_param : (j k : ℕ) (ts : List Ty) (es : List (List ℕ × Meaning)) → k ≤ j → j < k + length ts → k + length ts ≤ 2 ^ 64 → look (can_params k ts ++ es) (codes "p" ++ decimal j) ≡ Some (meaning.Param j)
look_param j k [] es l h b = absurd (omega (arith, l, h))
look_param j k (t ∷ ts) es l h b = by (j == k) refl (λ (m : k + 1 ≤ j). look_param j (k + 1) ts es m (omega (arith, h)) (omega (arith, b)))
  where
    by : (c : Bool) → j == k ≡ c → (k + 1 ≤ j → look (can_params (k + 1) ts ++ es) (codes "p" ++ decimal j) ≡ Some (meaning.Param j)) → look (can_params k (t ∷ ts) ++ es) (codes "p" ++ decimal j) ≡ Some (meaning.Param j)
    by true e more = let s = eqb-true j k e in ap (λ (c : Bool). cond c (Some (meaning.Param k)) (look (can_params (k + 1) ts ++ es) (codes "p" ++ decimal j))) (alike 112 j k s) ∙ ap (λ (n : ℕ). Some (meaning.Param n)) (sym s)
    by false e more =
        let n = ne_of j k e in
        ap (λ (c : Bool). cond c (Some (meaning.Param k)) (look (can_params (k + 1) ts ++ es) (codes "p" ++ decimal j))) (unlike 112 j k (omega (arith, h, b)) (omega (arith, l, h, b)) n) ∙ more (omega (arith, l, n))

no_param : (q : List ℕ) (k : ℕ) (ts : List Ty) (es : List (List ℕ × Meaning)) → look (can_params k ts ++ es) (118 ∷ q) ≡ look es (118 ∷ q)
no_param q k [] es = refl
no_param q k (t ∷ ts) es = no_param q (k + 1) ts es

look_block : (j k : ℕ) (bs : List Block) → k ≤ j → j < k + length bs → k + length bs ≤ 2 ^ 64 → look (can_blocks k bs) (codes "b" ++ decimal j) ≡ Some (meaning.Block j)
look_block j k [] l h b = absurd (omega (arith, l, h))
look_block j k (t ∷ ts) l h b = by (j == k) refl (λ (m : k + 1 ≤ j). look_block j (k + 1) ts m (omega (arith, h)) (omega (arith, b)))
  where
    by : (c : Bool) → j == k ≡ c → (k + 1 ≤ j → look (can_blocks (k + 1) ts) (codes "b" ++ decimal j) ≡ Some (meaning.Block j)) → look (can_blocks k (t ∷ ts)) (codes "b" ++ decimal j) ≡ Some (meaning.Block j)
    by true e more = let s = eqb-true j k e in ap (λ (c : Bool). cond c (Some (meaning.Block k)) (look (can_blocks (k + 1) ts) (codes "b" ++ decimal j))) (alike 98 j k s) ∙ ap (λ (n : ℕ). Some (meaning.Block n)) (sym s)
    by false e more =
        let n = ne_of j k e in
        ap (λ (c : Bool). cond c (Some (meaning.Block k)) (look (can_blocks (k + 1) ts) (codes "b" ++ decimal j))) (unlike 98 j k (omega (arith, h, b)) (omega (arith, l, h, b)) n) ∙ more (omega (arith, l, n))

at_most : (d : ℕ) (is : List Inst) → has_result_at (slice_get is d) ≡ true → d < length is
at_most d [] h = absurd (true≢false (sym h))
at_most zero (i ∷ is) h = omega arith
at_most (suc d) (i ∷ is) h = let f = at_most d is h in omega (arith, f)

look_result : (d n j : ℕ) (is : List Inst) → j ≡ n + d → has_result_at (slice_get is d) ≡ true → n + length is ≤ 2 ^ 64 → look (can_results n is) (codes "v" ++ decimal j) ≡ Some (meaning.Value j)
look_result d n j [] e h b = absurd (true≢false (sym h))
look_result zero n j (i ∷ is) e h b =
    let s : j ≡ n = omega (arith, e) in
    rw h (ap (λ (c : Bool). cond c (Some (meaning.Value n)) (look (can_results (n + 1) is) (codes "v" ++ decimal j))) (alike 118 j n s) ∙ ap (λ (k : ℕ). Some (meaning.Value k)) (sym s))
look_result (suc d) n j (i ∷ is) e h b = by (has_result i) (at_most d is h) (look_result d (n + 1) j is (omega (arith, e)) h (omega (arith, b)))
  where
    by : (c : Bool) → d < length is → look (can_results (n + 1) is) (codes "v" ++ decimal j) ≡ Some (meaning.Value j) → look (declared (cond c (Some (codes "v" ++ decimal n)) None) (meaning.Value n) ++ can_results (n + 1) is) (codes "v" ++ decimal j) ≡ Some (meaning.Value j)
    by true l more = ap (λ (c : Bool). cond c (Some (meaning.Value n)) (look (can_results (n + 1) is) (codes "v" ++ decimal j))) (unlike 118 j n (omega (arith, e, l, b)) (omega (arith, b)) (λ f. omega (arith, e, f))) ∙ more
    by false l more = more

-- ---- globals

pub any_front : (p : List ℕ → Bool) (xs ys : List (List ℕ)) → list_any p (xs ++ ys) ≡ false → list_any p xs ≡ false
any_front p [] ys h = refl
any_front p (x ∷ xs) ys h = let a = or_parts (p x) (list_any p (xs ++ ys)) h in rw (a.0, any_front p xs ys a.1) refl

pub differ_front : (xs ys : List (List ℕ)) → all_differ (xs ++ ys) ≡ true → all_differ xs ≡ true
differ_front [] ys h = refl
differ_front (x ∷ xs) ys h =
    let a = and_parts (not (list_any (bytes_eq x) (xs ++ ys))) (all_differ (xs ++ ys)) h in
    rw (any_front (bytes_eq x) xs ys (not-true _ a.0), differ_front xs ys a.1) refl

look_global : (d k j : ℕ) (gs : List Global) → all_differ (map (λ g. g.name) gs) ≡ true → d < length gs → j ≡ k + d
    → (name : List ℕ) × (slice_index_or (names_tokens gs) d [] ≡ global_token name) × (look (can_globals k gs) name ≡ Some (meaning.Global j)) × ((x : List ℕ) → list_any (bytes_eq x) (map (λ g. g.name) gs) ≡ false → bytes_eq x name ≡ false)
look_global d k j [] h l e = absurd (omega (arith, l))
look_global zero k j (g ∷ gs) h l e =
    let same = (bytes_eq-Decides g.name g.name).1 refl in
    let s : k ≡ j = omega (arith, e) in
    (g.name, refl, ap (λ (c : Bool). cond c (Some (meaning.Global k)) (look (can_globals (k + 1) gs) g.name)) same ∙ ap (λ (n : ℕ). Some (meaning.Global n)) s, λ x f. (or_parts (bytes_eq x g.name) (list_any (bytes_eq x) (map (λ g. g.name) gs)) f).0)
look_global (suc d) k j (g ∷ gs) h l e =
    let a = and_parts (not (list_any (bytes_eq g.name) (map (λ g. g.name) gs))) (all_differ (map (λ g. g.name) gs)) h in
    let r = look_global d (k + 1) j gs a.1 (omega (arith, l)) (omega (arith, e)) in
    let other = differ_sym g.name r.0 (r.3 g.name (not-true _ a.0)) in
    (r.0, r.1, ap (λ (c : Bool). cond c (Some (meaning.Global k)) (look (can_globals (k + 1) gs) r.0)) other ∙ r.2, λ x f. r.3 x (or_parts (bytes_eq x g.name) (list_any (bytes_eq x) (map (λ g. g.name) gs)) f).1)

pub known_is : (text : List ℕ) (gs : List Global) (f : Function) → all_differ (map (λ g. g.name) gs) ≡ true → length f.params ≤ 2 ^ 64 → length (insts_of f) ≤ 2 ^ 64 → length f.blocks ≤ 2 ^ 64 → Known (scope_of (length gs) f) (can_looks text gs f) (names_tokens gs)
known_is text gs f d p i b = record {
  value = λ k h. no_param (decimal k) 0 f.params (can_results 0 (insts_of f)) ∙ look_result k 0 k (insts_of f) (omega arith) h (omega (arith, i));
  param = λ k h. let l = ltb-true k (length f.params) h in look_param k 0 f.params (can_results 0 (insts_of f)) (omega arith) (omega (arith, l)) (omega (arith, p));
  block = λ k h. let l = ltb-true k (length f.blocks) h in look_block k 0 f.blocks (omega arith) (omega (arith, l)) (omega (arith, b));
  global = λ g h. let r = look_global g 0 g gs d (ltb-true g (length gs) h) (omega arith) in (r.0, r.1, r.2);
}
