-- Emission can take each code.
use Rattle.std.proofs.Common.{◌≡◌, ℕ, ◌+◌, ◌≤◌, Bool, List, [], ◌∷◌, length, refl, sym, ap, ◌∙◌, subst, ⊎_elim, arith}
use Rattle.ax_words.specs.declared.mark.Op.{Op}
use Rattle.ax_words.specs.declared.mark.Op.TheVariants as op
use Rattle.ax_words.specs.declared.order.Order.{Order}
use Rattle.ax_words.specs.declared.width.Width.{Width}
use Rattle.ax_words.specs.declared.width.Width.TheVariants.{W8, W16, W32, W64}
use Rattle.ax_words.specs.Width.{bytes_of}
use Rattle.ax_target.specs.declared.target.Target.TheVariants.{Rv}
use Rattle.ax_rv.specs.Instructions.{rv_kind}
use Rattle.ax_fine.specs.OnBytes.{atomic_doing, load_doing}
use Rattle.ax_mid.specs.WellFormed.{words_given, words_taken}
use Rattle.ax_expand.specs.Bytes.{bytes_world}
use Rattle.ax_expand.specs.Doing.{on_registers}
use Rattle.ax_expand.specs.Expands.{Expands}
use Rattle.ax_expand.specs.Shared.{Shared}
use Rattle.ax_emit.specs.Atomics.{Counted, firsts}
use Rattle.ax_emit.specs.Lines.{access_code}
use Rattle.ax_emit.specs.Touches.{IsSize}
use Rattle.ax_fine.specs.Fine.{Program}
use Rattle.ax_emit_rv.specs.Code.{Expansion, cleared, first_argument, first_result, homes_from, load_in, store_in}
use Rattle.ax_emit_rv.specs.Laws.{Accessed, Expanded, every, is_kept}
use Rattle.ax_mask.specs.Pairs.{args_of_op, results_of_op}
use Rattle.ax_llsc.specs.Codes.{Atomic, Coded, IsCoded, PlainLoad, PlainStore, expansion_of}
use Rattle.ax_llsc.specs.Laws.{DirectCodeExpands, over_bytes}
use Rattle.ax_llsc.proofs.Idle.{idle_few}
use Rattle.ax_llsc.proofs.Coded.{are_counted}
use Rattle.ax_llsc.proofs.Ways.{words_are}

module _ {R : Type 0} (key : R → ℕ) where
  none : (t : ℕ) (rs : List R) → length rs ≡ 0 → firsts (homes_from key t rs) ≡ []
  none t [] e = refl
  none t (r ∷ rs) e = absurd (omega (arith, e))

  one : (t : ℕ) (rs : List R) → length rs ≡ 1 → firsts (homes_from key t rs) ≡ t ∷ []
  one t [] e = absurd (omega (arith, e))
  one t (r ∷ rs) e = ap (λ ns. t ∷ ns) (none (t + 1) rs (omega (arith, e)))

  two : (t : ℕ) (rs : List R) → length rs ≡ 2 → firsts (homes_from key t rs) ≡ t ∷ (t + 1) ∷ []
  two t [] e = absurd (omega (arith, e))
  two t (r ∷ rs) e = ap (λ ns. t ∷ ns) (one (t + 1) rs (omega (arith, e)))

  args_are : (o : Op) (rs : List R) → length rs ≡ length (args_of_op o) → firsts (homes_from key first_argument rs) ≡ args_of_op o
  args_are op.Load rs e = none first_argument rs e
  args_are op.Store rs e = one first_argument rs e
  args_are op.Cmpxchg rs e = two first_argument rs e
  args_are (op.Rmw o) rs e = one first_argument rs e
  args_are op.Fence rs e = none first_argument rs e

  results_are : (o : Op) (rs : List R) → length rs ≡ length (results_of_op o) → firsts (homes_from key first_result rs) ≡ results_of_op o
  results_are op.Load rs e = one first_result rs e
  results_are op.Store rs e = none first_result rs e
  results_are op.Cmpxchg rs e = two first_result rs e
  results_are (op.Rmw o) rs e = one first_result rs e
  results_are op.Fence rs e = none first_result rs e

few_args : (o : Op) → length (args_of_op o) ≤ 2
few_args op.Load = omega arith
few_args op.Store = omega arith
few_args op.Cmpxchg = omega arith
few_args (op.Rmw o) = omega arith
few_args op.Fence = omega arith

few_results : (o : Op) → length (results_of_op o) ≤ 2
few_results op.Load = omega arith
few_results op.Store = omega arith
few_results op.Cmpxchg = omega arith
few_results (op.Rmw o) = omega arith
few_results op.Fence = omega arith

pub expanded : DirectCodeExpands → {R : Type 0} (m : Program R Shared) (zabha zacas : Bool) (expansions : Op → Width → Order → Bool → Expansion) (most : ℕ) (o : Op) (width : Width) (order : Order) (weak : Bool) (args results : List R) → IsCoded (Rv zabha zacas) (Atomic o width order weak)
    → expansions o width order weak ≡ expansion_of (Rv zabha zacas) (Atomic o width order weak) → length args ≡ words_taken o width → length results ≡ words_given o width → 48 ≤ most → Expanded (over_bytes zabha zacas m) expansions most o width order weak args results
expanded law m zabha zacas expansions most o width order weak args results way is taken given enough =
    let words = words_are zabha zacas o width way in
    let many_args = taken ∙ words.0 in
    let many_results = given ∙ words.1 in
    let x : Coded = Atomic o width order weak in
    let doing = atomic_doing (Rv zabha zacas) o width order weak in
    let here = law zabha zacas x way in
    let idle = idle_few (Rv zabha zacas) x in
    let a = few_args o in
    let b = few_results o in
    record {
      counted = subst (λ n. Counted doing n) (sym many_results) (are_counted zabha zacas x way);
      expands = subst (λ (e : Expansion). Expands rv_kind bytes_world e.most is_kept e.size e.piece (on_registers doing 10 (firsts (homes_from m.key first_argument args)) (firsts (homes_from m.key first_result results)))) (sym is)
          (subst (λ ps. Expands rv_kind bytes_world (expansion_of (Rv zabha zacas) x).most is_kept (expansion_of (Rv zabha zacas) x).size (expansion_of (Rv zabha zacas) x).piece (on_registers doing 10 ps (firsts (homes_from m.key first_result results)))) (sym (args_are m.key o args many_args))
          (subst (λ qs. Expands rv_kind bytes_world (expansion_of (Rv zabha zacas) x).most is_kept (expansion_of (Rv zabha zacas) x).size (expansion_of (Rv zabha zacas) x).piece (on_registers doing 10 (args_of_op o) qs)) (sym (results_are m.key o results many_results)) here.0));
      few_args = omega (arith, many_args, a);
      few_results = omega (arith, many_results, b);
      few = let e : (expansions o width order weak).most ≡ (expansion_of (Rv zabha zacas) x).most = ap (λ q. q.most) is in omega (arith, e, idle, enough);
    }

-- ---- plain accesses
module _ (law : DirectCodeExpands) {R : Type 0} (m : Program R Shared) (zabha zacas : Bool) where
  abbrev shared : Program R Shared
  shared = over_bytes zabha zacas m

  abbrev AreAccessed : ℕ → Type 0
  AreAccessed n = Accessed shared (shared.load n) (load_in n) (cleared n) [] (7 ∷ []) × Accessed shared (shared.store n) (store_in n) [] (6 ∷ []) []

  abbrev LoadExpands : ℕ → Type 0
  LoadExpands n = Expands rv_kind bytes_world (length (cleared n)) every (1 + length (cleared n)) (access_code (load_in n) (cleared n)) (on_registers (load_doing (Rv zabha zacas) n) 5 [] (7 ∷ []))

  of_width : (width : Width) → bytes_of width ≤ 8 → LoadExpands (bytes_of width) → AreAccessed (bytes_of width)
  of_width width few load = (record { counted = are_counted zabha zacas (PlainLoad width) few; expands = load }, record { counted = are_counted zabha zacas (PlainStore width) few; expands = (law zabha zacas (PlainStore width) few).0 })

  byte : AreAccessed 1
  byte = (let few : bytes_of W8 ≤ 8 = omega arith in of_width W8 few (law zabha zacas (PlainLoad W8) few).0)

  half : AreAccessed 2
  half = (let few : bytes_of W16 ≤ 8 = omega arith in of_width W16 few (law zabha zacas (PlainLoad W16) few).0)

  word : AreAccessed 4
  word = (let few : bytes_of W32 ≤ 8 = omega arith in of_width W32 few (law zabha zacas (PlainLoad W32) few).0)

  double : AreAccessed 8
  double = (let few : bytes_of W64 ≤ 8 = omega arith in of_width W64 few (law zabha zacas (PlainLoad W64) few).0)

  pub plain_accessed : (n : ℕ) → IsSize n → AreAccessed n
  plain_accessed n size =
      ⊎_elim (λ e. subst AreAccessed (sym e) byte) (λ more. ⊎_elim (λ e. subst AreAccessed (sym e) half) (λ more. ⊎_elim (λ e. subst AreAccessed (sym e) word) (λ e. subst AreAccessed (sym e) double) more) more) size
