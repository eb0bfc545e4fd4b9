-- Globals one after the other: how far they reach.
use Rattle.std.proofs.Common.{◌≡◌, ℕ, zero, suc, ◌+◌, ◌-◌, ◌*◌, ◌/◌, ◌≤◌, ◌<◌, IsTrue, List, [], ◌∷◌, ◌++◌, length, drop, Option, Some, None, sym, ap, ◌∙◌, subst, arith}
use Rattle.std.specs.Prelude.{unwrap_or, slice_index_or, All}
use Rattle.std.specs.List.{AllByRecursion}
use Rattle.std.proofs.lemmas.List.{append_assoc}
use Rattle.std.proofs.lemmas.List.Elements.{recursion_from_All, All-drop}
use Rattle.std.proofs.Math.Nat.{lt-div-mul-add}
use Rattle.std.proofs.Math.Seq.{drop-cons}
use Rattle.ax_module.specs.declared.module.Global.{Global}
use Rattle.ax_module.specs.declared.types.Ty.{Ty}
use Rattle.ax_module.specs.declared.types.Ty.TheVariants.{I1, I8, I16, I32, I64, I128, Int, Float, Double, Ptr, Vector}
use Rattle.ax_module.specs.Types.{type_bytes}
use Rattle.ax_layout.specs.Layout.{is_element_type, is_alignment, alignment_of, next_multiple, span_after, spans_after, end_of_span, end_after, IsLaidOut}
use Rattle.ax_layout.specs.declared.address_range.AddressRange.{AddressRange}

-- a multiple of n from a on is there
pub reaches : (n a : ℕ) → 1 ≤ n → a ≤ next_multiple n a
reaches n a h = let b : (a + (n - 1)) < (a + (n - 1)) / n * n + n = lt-div-mul-add (omega arith) in omega arith

pub element_some : (ty : Ty) → IsTrue (is_element_type ty) → 1 ≤ type_bytes ty
element_some I1 h = omega arith
element_some I8 h = omega arith
element_some I16 h = omega arith
element_some I32 h = omega arith
element_some I64 h = omega arith
element_some I128 h = omega arith
element_some (Int bits) h = absurd cc
element_some Float h = absurd cc
element_some Double h = absurd cc
element_some Ptr h = absurd cc
element_some Vector h = absurd cc

aligned_some : (align : Option ℕ) (bytes : ℕ) → IsTrue (is_alignment align) → 1 ≤ bytes → 1 ≤ unwrap_or align bytes
aligned_some None bytes h some = some
aligned_some (Some zero) bytes h some = absurd cc
aligned_some (Some (suc n)) bytes h some = omega arith

pub alignment_some : (global : Global) → IsLaidOut global → 1 ≤ alignment_of global
alignment_some global h = aligned_some global.align (type_bytes global.elem) h.align (element_some global.elem h.element)

pub starts_behind : (end : ℕ) (global : Global) → IsLaidOut global → end ≤ (span_after end global).start
starts_behind end global h = reaches (alignment_of global) end (alignment_some global h)

pub ends_behind : (end : ℕ) (global : Global) → IsLaidOut global → end ≤ end_of_span (span_after end global)
ends_behind end global h = let s = starts_behind end global h in omega arith

-- the last global ends no earlier than the first
pub grows : (globals : List Global) (end : ℕ) → AllByRecursion IsLaidOut globals → end ≤ end_after end globals
grows [] end h = omega arith
grows (global ∷ globals) end h =
    let here = ends_behind end global h.0 in
    let rest = grows globals (end_of_span (span_after end global)) h.1 in
    omega arith

-- in the midst of a list of globals that end in time
pub record IsMidst (globals : List Global) (k end : ℕ) (global : Global) : Type 0 where
  pub more : k < length globals
  pub is : global ≡ slice_index_or globals k global
  pub laid_out : All IsLaidOut globals
  pub limit : end_after end (drop k globals) ≤ 1114112

module _ (globals : List Global) (k end : ℕ) (global : Global) (h : IsMidst globals k end global) where
  one_more : suc k ≡ k + 1
  one_more = omega arith

  split : drop k globals ≡ global ∷ drop (k + 1) globals
  split = drop-cons globals k global h.more ∙ (λ d. sym h.is d ∷ drop (one_more d) globals)

  all : AllByRecursion IsLaidOut (global ∷ drop (k + 1) globals)
  all = subst (AllByRecursion IsLaidOut) split (recursion_from_All IsLaidOut (drop k globals) (All-drop IsLaidOut k globals h.laid_out))

  limit_after : end_after end (global ∷ drop (k + 1) globals) ≤ 1114112
  limit_after = subst (λ gs. end_after end gs ≤ 1114112) split h.limit

  pub begins_in_time : end ≤ 1114112
  begins_in_time = let g = grows (global ∷ drop (k + 1) globals) end all in let l = limit_after in omega arith

  pub ends_in_time : end_of_span (span_after end global) ≤ 1114112
  ends_in_time =
      let g = grows (drop (k + 1) globals) (end_of_span (span_after end global)) all.1 in
      let l = limit_after in
      omega arith

  pub spans_go_on : (before spans : List AddressRange) → before ++ spans_after end (drop k globals) ≡ spans → before ++ span_after end global ∷ [] ++ spans_after (end_of_span (span_after end global)) (drop (k + 1) globals) ≡ spans
  spans_go_on before spans e =
      append_assoc before (span_after end global ∷ []) (spans_after (end_of_span (span_after end global)) (drop (k + 1) globals))
      ∙ (ap (λ gs. before ++ spans_after end gs) (sym split) ∙ e)

  pub end_goes_on : (last : ℕ) → end_after end (drop k globals) ≡ last → end_after (end_of_span (span_after end global)) (drop (k + 1) globals) ≡ last
  end_goes_on last e = ap (end_after end) (sym split) ∙ e

pub in_midst : (globals items : List Global) (k end last : ℕ) (global : Global) → items ≡ globals → k < length items → global ≡ slice_index_or items k global → All IsLaidOut globals → end_after end (drop k globals) ≡ last → last ≤ 1114112 → IsMidst globals k end global
in_midst globals items k end last global same more is all e limit = record {
  more = subst (λ gs. k < length gs) same more;
  is = subst (λ gs. global ≡ slice_index_or gs k global) same is;
  laid_out = all;
  limit = subst (λ n. n ≤ 1114112) (sym e) limit;
}
