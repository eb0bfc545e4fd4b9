-- Sites never fall.
use Rattle.std.proofs.Common.{◌≡◌, ℕ, zero, suc, ◌+◌, inl, inr, List, [], ◌∷◌, ◌++◌, Some, length, refl, sym, subst, arith, slice_get}
use Rattle.std.proofs.lemmas.Option.{none-some, same_Some}
use Rattle.ax_module.specs.declared.inst.Inst.{Inst}
use Rattle.ax_module.specs.declared.inst.Inst.TheVariants as inst
use Rattle.ax_module.specs.declared.module.Block.{Block}
use Rattle.ax_module.specs.declared.module.Function.{Function}
use Rattle.ax_source_run.specs.SourceState.{SourceProgram}
use Rattle.ax_mid.specs.declared.code.Line.{Line}
use Rattle.ax_mid.specs.declared.instruction.MidInst.{MidInst}
use Rattle.ax_mid.specs.declared.registers.Virtual.{Virtual}
use Rattle.ax_mid.specs.WellFormed.{IsUpTo, SitesNeverFall}
use Rattle.ax_words.specs.declared.place.Site.{Site}
use Rattle.ax_selected.specs.Addresses.{bytes_of, object_of}
use Rattle.ax_selected.specs.Selected.{blocks_lines, function_lines, functions_lines, insts_lines, piece, selected}
use Rattle.ax_selected.proofs.Each.{EachLine, HoldsOf, IsPlain, load_each, piece_each, store_each}

abbrev at : ℕ → ℕ → Site
at f k = record { function = f; instruction = k }

same_site : (a : Site) → IsUpTo a a
same_site a = inr (refl, omega arith)

up_to : (a b c : Site) → IsUpTo a b → IsUpTo b c → IsUpTo a c
up_to a b c h g =
    elim h [
      | inl x ↦ elim g [
        | inl y ↦ inl (omega (arith, x, y))
        | inr y ↦ let e = y.0 in inl (omega (arith, x, e))
      ]
      | inr x ↦ let d = x.0 in let l = x.1 in elim g [
        | inl y ↦ inl (omega (arith, d, y))
        | inr y ↦ let e = y.0 in let m = y.1 in inr (omega (arith, d, e), omega (arith, l, m))
      ]
    ]

-- from one site on and up to another
abbrev Rise : List (Line Virtual) → Site → Site → Type 0
Rise [] low high = IsUpTo low high
Rise (line ∷ lines) low high = IsUpTo low line.site × Rise lines line.site high

rise_from : (lines : List (Line Virtual)) (a b c : Site) → IsUpTo a b → Rise lines b c → Rise lines a c
rise_from [] a b c h g = up_to a b c h g
rise_from (line ∷ lines) a b c h g = (up_to a b line.site h g.0, g.1)

rise_both : (xs ys : List (Line Virtual)) (a b c : Site) → Rise xs a b → Rise ys b c → Rise (xs ++ ys) a c
rise_both [] ys a b c h g = rise_from ys a b c h g
rise_both (x ∷ xs) ys a b c h g = (h.0, rise_both xs ys x.site b c h.1 g)

abbrev Any : MidInst Virtual → Type 0
Any x = Unit {0}

plain : IsPlain Any
plain = record {
  const = λ r n. tt;
  copy = λ r s. tt;
  applies = λ d r s t. tt;
  shift = λ d r s by. tt;
  extend = λ r s bits signed. tt;
  select = λ r s t u. tt;
  label = λ n. tt;
  jump = λ n. tt;
  branch = λ r n m. tt;
  frame = λ r n. tt;
  out = λ r. tt;
  trap = tt;
  ret = tt;
  nop = tt;
}

holds : (program : SourceProgram) (f : ℕ) (i : Inst) → HoldsOf Any plain program f i
holds program f (inst.Load t a align) = λ k. load_each Any plain k t (bytes_of program f (object_of program f a.base)) (λ q e r s. tt)
holds program f (inst.Store t v a align) = store_each Any plain t v (bytes_of program f (object_of program f a.base)) (λ q e r s. tt)
holds program f (inst.LoadAtomic t a order align) = λ k. tt
holds program f (inst.StoreAtomic t v a order align) = tt
holds program f (inst.Cmpxchg weak a t v u w success failure align) = λ k. tt
holds program f (inst.Rmw r a t v order align) = λ k. tt
holds program f (inst.Fence single order) = λ g k. tt
holds program f _ = tt

each_rises : (f k : ℕ) (lines : List (Line Virtual)) → EachLine Any f k lines → Rise lines (at f k) (at f k)
each_rises f k [] h = same_site (at f k)
each_rises f k (line ∷ lines) h =
    let e = sym h.0.0 in
    (subst (λ (s : Site). IsUpTo (at f k) s) e (same_site (at f k)), subst (λ (s : Site). Rise lines s (at f k)) e (each_rises f k lines h.1))

module _ (program : SourceProgram) where
  insts_rise : (f : ℕ) (blocks : List Block) (b k : ℕ) (insts : List Inst) → Rise (insts_lines program f blocks b k insts) (at f k) (at f (k + length insts))
  insts_rise f blocks b k [] = inr (refl, omega arith)
  insts_rise f blocks b k (i ∷ insts) =
      let own = piece f k program blocks b i in
      let rest = insts_lines program f blocks b (k + 1) insts in
      let more : Rise rest (at f k) (at f (k + 1 + length insts)) = rise_from rest (at f k) (at f (k + 1)) (at f (k + 1 + length insts)) (inr (refl, omega arith)) (insts_rise f blocks b (k + 1) insts) in
      let same : k + 1 + length insts ≡ k + suc (length insts) = omega arith in
      rise_both own rest (at f k) (at f k) (at f (k + suc (length insts))) (each_rises f k own (piece_each Any plain program f k b blocks i (holds program f i)))
      (subst (λ (n : ℕ). Rise rest (at f k) (at f n)) same more)

  blocks_rise : (f : ℕ) (all : List Block) (b k : ℕ) (blocks : List Block) → Rise (blocks_lines program f all b k blocks) (at f k) (at (f + 1) 0)
  blocks_rise f all b k [] = inl (omega arith)
  blocks_rise f all b k (block ∷ blocks) =
      let start = k + length block.insts in
      (same_site (at f k), rise_both (insts_lines program f all b k block.insts) (blocks_lines program f all (b + 1) start blocks) (at f k) (at f start) (at (f + 1) 0) (insts_rise f all b k block.insts) (blocks_rise f all (b + 1) start blocks))

  functions_rise : (f : ℕ) (functions : List Function) → Rise (functions_lines program f functions) (at f 0) (at (f + length functions) 0)
  functions_rise f [] = let same : f ≡ f + 0 = omega arith in inr (same, omega arith)
  functions_rise f (g ∷ functions) =
      let rest = functions_lines program (f + 1) functions in
      let same : f + 1 + length functions ≡ f + suc (length functions) = omega arith in
      rise_both (function_lines program f g) rest (at f 0) (at (f + 1) 0) (at (f + suc (length functions)) 0) (blocks_rise f g.blocks 0 0 g.blocks)
      (subst (λ (n : ℕ). Rise rest (at (f + 1) 0) (at n 0)) same (functions_rise (f + 1) functions))

one_behind : (lines : List (Line Virtual)) (low high : Site) (b : Line Virtual) → Rise lines low high → slice_get lines 0 ≡ Some b → IsUpTo low b.site
one_behind [] low high b h e = absurd (none-some b e)
one_behind (x ∷ lines) low high b h e = subst (λ (y : Line Virtual). IsUpTo low y.site) (same_Some x b e) h.0

next_up : (lines : List (Line Virtual)) (low high : Site) (p : ℕ) (a b : Line Virtual) → Rise lines low high → slice_get lines p ≡ Some a → slice_get lines (suc p) ≡ Some b → IsUpTo a.site b.site
next_up [] low high p a b h ea eb = absurd (none-some a ea)
next_up (x ∷ lines) low high zero a b h ea eb = subst (λ (y : Line Virtual). IsUpTo y.site b.site) (same_Some x a ea) (one_behind lines x.site high b h.1 eb)
next_up (x ∷ lines) low high (suc p) a b h ea eb = next_up lines x.site high p a b h.1 ea eb

pub sites_never_fall : (program : SourceProgram) → SitesNeverFall (selected program)
sites_never_fall program place a b ea eb =
    let lines = (selected program).lines in
    let same : place + 1 ≡ suc place = omega arith in
    next_up lines (at 0 0) (at (0 + length program.source.functions) 0) place a b (functions_rise program 0 program.source.functions) ea (subst (λ (n : ℕ). slice_get lines n ≡ Some b) same eb)
