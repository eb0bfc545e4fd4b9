-- Emission can take each code.
use Rattle.std.proofs.Common.{◌≡◌, ℕ, ◌+◌, ◌≤◌, Bool, true, false, List, [], ◌∷◌, length, refl, sym, ap, ◌∙◌, subst, ⊎_elim, arith}
use Rattle.std.specs.Prelude.{◌⊎◌}
use Rattle.ax_words.specs.declared.mark.Op.{Op}
use Rattle.ax_words.specs.declared.mark.Op.TheVariants as op
use Rattle.ax_words.specs.declared.order.Order.{Order}
use Rattle.ax_words.specs.declared.width.Width.{Width}
use Rattle.ax_words.specs.declared.width.Width.TheVariants.{W8, W16, W32, W64, W128}
use Rattle.ax_words.specs.Width.{bytes_of}
use Rattle.ax_target.specs.declared.target.Target.TheVariants.{X86}
use Rattle.ax_x86.specs.Instructions.{x86_kind}
use Rattle.ax_mid.specs.Machine.{is_wide}
use Rattle.ax_mid.specs.WellFormed.{words_given, words_taken}
use Rattle.ax_fine.specs.Fine.{Program}
use Rattle.ax_expand.specs.Bytes.{bytes_world}
use Rattle.ax_expand.specs.Doing.{on_registers}
use Rattle.ax_expand.specs.Expands.{Expands}
use Rattle.ax_expand.specs.Shared.{Shared}
use Rattle.ax_emit.specs.Atomics.{Counted, firsts}
use Rattle.ax_emit.specs.Touches.{IsSize}
use Rattle.ax_emit_x86.specs.Code.{Expansion, homes_from, load_in, store_in}
use Rattle.ax_emit_x86.specs.Laws.{Accessed, Expanded, is_kept}
use Rattle.ax_cas.specs.Codes.{Atomic, Coded, IsCoded, PlainLoad, PlainStore, args_of_op, doing_of, expansion_of, results_of_op}
use Rattle.ax_cas.specs.Laws.{over_bytes}
use Rattle.ax_cas.proofs.Coded.{are_counted, expands, few}

-- ---- registers of a line as those of the operation
-- so many numbers as words
words_are : (o : Op) (width : Width) → (words_taken o width ≡ length (args_of_op o (is_wide width))) × (words_given o width ≡ length (results_of_op o (is_wide width)))
words_are op.Load W8 = (refl, refl)
words_are op.Load W16 = (refl, refl)
words_are op.Load W32 = (refl, refl)
words_are op.Load W64 = (refl, refl)
words_are op.Load W128 = (refl, refl)
words_are op.Store W8 = (refl, refl)
words_are op.Store W16 = (refl, refl)
words_are op.Store W32 = (refl, refl)
words_are op.Store W64 = (refl, refl)
words_are op.Store W128 = (refl, refl)
words_are op.Cmpxchg W8 = (refl, refl)
words_are op.Cmpxchg W16 = (refl, refl)
words_are op.Cmpxchg W32 = (refl, refl)
words_are op.Cmpxchg W64 = (refl, refl)
words_are op.Cmpxchg W128 = (refl, refl)
words_are (op.Rmw o) W8 = (refl, refl)
words_are (op.Rmw o) W16 = (refl, refl)
words_are (op.Rmw o) W32 = (refl, refl)
words_are (op.Rmw o) W64 = (refl, refl)
words_are (op.Rmw o) W128 = (refl, refl)
words_are op.Fence width = (refl, refl)

module _ {R : Type 0} (key : R → ℕ) where
  none : (k : ℕ) (rs : List R) → length rs ≡ 0 → firsts (homes_from key k rs) ≡ []
  none k [] e = refl
  none k (r ∷ rs) e = absurd (omega (arith, e))

  one : (rs : List R) → length rs ≡ 1 → firsts (homes_from key 0 rs) ≡ 0 ∷ []
  one [] e = absurd (omega (arith, e))
  one (r ∷ rs) e = ap (λ ns. 0 ∷ ns) (none 1 rs (omega (arith, e)))

  two : (rs : List R) → length rs ≡ 2 → firsts (homes_from key 0 rs) ≡ 0 ∷ 2 ∷ []
  two [] e = absurd (omega (arith, e))
  two (r ∷ []) e = absurd (omega (arith, e))
  two (r ∷ q ∷ rs) e = ap (λ ns. 0 ∷ 2 ∷ ns) (none 2 rs (omega (arith, e)))

  three : (rs : List R) → length rs ≡ 3 → firsts (homes_from key 0 rs) ≡ 0 ∷ 2 ∷ 3 ∷ []
  three [] e = absurd (omega (arith, e))
  three (r ∷ []) e = absurd (omega (arith, e))
  three (r ∷ q ∷ []) e = absurd (omega (arith, e))
  three (r ∷ q ∷ s ∷ rs) e = ap (λ ns. 0 ∷ 2 ∷ 3 ∷ ns) (none 3 rs (omega (arith, e)))

  four : (rs : List R) → length rs ≡ 4 → firsts (homes_from key 0 rs) ≡ 0 ∷ 2 ∷ 3 ∷ 1 ∷ []
  four [] e = absurd (omega (arith, e))
  four (r ∷ []) e = absurd (omega (arith, e))
  four (r ∷ q ∷ []) e = absurd (omega (arith, e))
  four (r ∷ q ∷ s ∷ []) e = absurd (omega (arith, e))
  four (r ∷ q ∷ s ∷ t ∷ rs) e = ap (λ ns. 0 ∷ 2 ∷ 3 ∷ 1 ∷ ns) (none 4 rs (omega (arith, e)))

  args_are : (o : Op) (wide : Bool) (rs : List R) → length rs ≡ length (args_of_op o wide) → firsts (homes_from key 0 rs) ≡ args_of_op o wide
  args_are op.Load wide rs e = none 0 rs e
  args_are op.Store true rs e = two rs e
  args_are op.Store false rs e = one rs e
  args_are op.Cmpxchg true rs e = four rs e
  args_are op.Cmpxchg false rs e = two rs e
  args_are (op.Rmw o) true rs e = two rs e
  args_are (op.Rmw o) false rs e = one rs e
  args_are op.Fence wide rs e = none 0 rs e

  results_are : (o : Op) (wide : Bool) (rs : List R) → length rs ≡ length (results_of_op o wide) → firsts (homes_from key 0 rs) ≡ results_of_op o wide
  results_are op.Load true rs e = two rs e
  results_are op.Load false rs e = one rs e
  results_are op.Store wide rs e = none 0 rs e
  results_are op.Cmpxchg true rs e = three rs e
  results_are op.Cmpxchg false rs e = two rs e
  results_are (op.Rmw o) true rs e = two rs e
  results_are (op.Rmw o) false rs e = one rs e
  results_are op.Fence wide rs e = none 0 rs e

few_args : (o : Op) (wide : Bool) → length (args_of_op o wide) ≤ 4
few_args op.Load wide = omega arith
few_args op.Store true = omega arith
few_args op.Store false = omega arith
few_args op.Cmpxchg true = omega arith
few_args op.Cmpxchg false = omega arith
few_args (op.Rmw o) true = omega arith
few_args (op.Rmw o) false = omega arith
few_args op.Fence wide = omega arith

few_results : (o : Op) (wide : Bool) → length (results_of_op o wide) ≤ 3
few_results op.Load true = omega arith
few_results op.Load false = omega arith
few_results op.Store wide = omega arith
few_results op.Cmpxchg true = omega arith
few_results op.Cmpxchg false = omega arith
few_results (op.Rmw o) true = omega arith
few_results (op.Rmw o) false = omega arith
few_results op.Fence wide = omega arith

-- AN ATOMIC OPERATION
pub expanded : {R : Type 0} (m : Program R Shared) (cx16 : Bool) (expansions : Op → Width → Order → Bool → Expansion) (most : ℕ) (o : Op) (width : Width) (order : Order) (weak : Bool) (args results : List R) → IsCoded cx16 (Atomic o width order weak)
    → expansions o width order weak ≡ expansion_of (Atomic o width order weak) → length args ≡ words_taken o width → length results ≡ words_given o width → 32 ≤ most → Expanded (over_bytes cx16 m) expansions most o width order weak args results
expanded m cx16 expansions most o width order weak args results way is taken given enough =
    let x : Coded = Atomic o width order weak in
    let wide = is_wide width in
    let words = words_are o width in
    let many_args = taken ∙ words.0 in
    let many_results = given ∙ words.1 in
    let e0 = expansion_of x in
    let a = few_args o wide in
    let b = few_results o wide in
    let c = few x in
    record {
      counted = subst (λ n. Counted (doing_of cx16 x) n) (sym many_results) (are_counted cx16 x way);
      expands = subst (λ (e : Expansion). Expands x86_kind bytes_world e.most is_kept e.size e.piece (on_registers (doing_of cx16 x) 6 (firsts (homes_from m.key 0 args)) (firsts (homes_from m.key 0 results)))) (sym is)
          (subst (λ ps. Expands x86_kind bytes_world e0.most is_kept e0.size e0.piece (on_registers (doing_of cx16 x) 6 ps (firsts (homes_from m.key 0 results)))) (sym (args_are m.key o wide args many_args))
          (subst (λ qs. Expands x86_kind bytes_world e0.most is_kept e0.size e0.piece (on_registers (doing_of cx16 x) 6 (args_of_op o wide) qs)) (sym (results_are m.key o wide results many_results)) (expands cx16 x way)));
      few_args = omega (arith, many_args, a);
      few_results = omega (arith, many_results, b);
      few = let e : (expansions o width order weak).most ≡ e0.most = ap (λ q. q.most) is in omega (arith, e, c, enough);
    }

-- A PLAIN ACCESS
module _ {R : Type 0} (m : Program R Shared) (cx16 : Bool) where
  abbrev shared : Program R Shared
  shared = over_bytes cx16 m

  abbrev AreAccessed : ℕ → Type 0
  AreAccessed n = Accessed shared (shared.load n) (load_in n) [] (0 ∷ []) × Accessed shared (shared.store n) (store_in n) (0 ∷ []) []

  of_width : (width : Width) → bytes_of width ≤ 8 → AreAccessed (bytes_of width)
  of_width width few = (record { counted = are_counted cx16 (PlainLoad width) few; expands = expands cx16 (PlainLoad width) few }, record { counted = are_counted cx16 (PlainStore width) few; expands = expands cx16 (PlainStore width) few })

  pub plain_accessed : (n : ℕ) → IsSize n → AreAccessed n
  plain_accessed n size =
      let byte : AreAccessed 1 = of_width W8 (omega arith) in
      let half : AreAccessed 2 = of_width W16 (omega arith) in
      let word : AreAccessed 4 = of_width W32 (omega arith) in
      let double : AreAccessed 8 = of_width W64 (omega arith) in
      ⊎_elim (λ e. subst AreAccessed (sym e) byte) (λ more. ⊎_elim (λ e. subst AreAccessed (sym e) half) (λ more. ⊎_elim (λ e. subst AreAccessed (sym e) word) (λ e. subst AreAccessed (sym e) double) more) more) size
