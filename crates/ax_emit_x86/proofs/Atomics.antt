-- x86-64's code of atomic operations on slots: the registers of their expansions.
use Rattle.std.proofs.Common.{◌≡◌, ℕ, suc, ◌+◌, ◌<◌, ◌≤◌, Bool, true, false, List, [], ◌∷◌, length, refl, sym, ap, subst, arith}
use Rattle.std.specs.Prelude.{if◌then◌else◌, nat_eq}
use Rattle.ax_words.specs.declared.mark.Op.{Op}
use Rattle.ax_words.specs.declared.order.Order.{Order}
use Rattle.ax_words.specs.declared.width.Width.{Width}
use Rattle.ax_store.specs.Storage.{at_place}
use Rattle.ax_mid.specs.declared.code.Line.{Line}
use Rattle.ax_mid.specs.declared.instruction.MidInst.TheVariants as inst
use Rattle.ax_mid.specs.Machine.{put_all, read_all}
use Rattle.ax_x86.specs.Instructions.{x86_kind}
use Rattle.ax_expand.specs.Doing.{read_regs, put_regs}
use Rattle.ax_expand.specs.Standing.{wrap}
use Rattle.ax_fine.specs.Fine.{Program}
use Rattle.ax_emit.specs.Atomics.{AllOf, Counted, Distinct, Homes, firsts, gets_all, puts_all, seconds}
use Rattle.ax_emit.specs.Lines.{LineCode}
use Rattle.ax_emit_x86.specs.Code.{Expansion, homes_from, inst_code, piece_of}
use Rattle.ax_emit_x86.specs.Laws.{AllLow, Expanded, Low, X86Based, is_kept}
use Rattle.ax_emit_x86.specs.Slots.{is_usable, x86_table}
use Rattle.ax_emit_x86.proofs.Computing.{Laws, based, fixed_stack, gets_short, resized}

module _ {R W : Type 0} (m : Program R W) where
  -- one register for each of these
  firsts_many : (k : ℕ) (rs : List R) → length (firsts (homes_from m.key k rs)) ≡ length rs
  firsts_many k [] = refl
  firsts_many k (r ∷ rs) = ap suc (firsts_many (k + 1) rs)

  homes_many : (k : ℕ) (rs : List R) → length (homes_from m.key k rs) ≡ length rs
  homes_many k [] = refl
  homes_many k (r ∷ rs) = ap suc (homes_many (k + 1) rs)

  many : (a b c d e : R) (rs : List R) → length (a ∷ b ∷ c ∷ d ∷ e ∷ rs) ≤ 4 → ⊥
  many a b c d e rs few = omega (arith, few)

  -- the address is in rsi, and four homes are apart from it and each other
  apart : (rs : List R) → length rs ≤ 4 → Distinct (6 ∷ firsts (homes_from m.key 0 rs))
  apart [] few = (tt, tt)
  apart (a ∷ []) few = ((λ e. omega (arith, e), tt), (tt, tt))
  apart (a ∷ b ∷ []) few = ((λ e. omega (arith, e), (λ e. omega (arith, e), tt)), ((λ e. omega (arith, e), tt), (tt, tt)))
  apart (a ∷ b ∷ c ∷ []) few = ((λ e. omega (arith, e), (λ e. omega (arith, e), (λ e. omega (arith, e), tt))), ((λ e. omega (arith, e), (λ e. omega (arith, e), tt)), ((λ e. omega (arith, e), tt), (tt, tt))))
  apart (a ∷ b ∷ c ∷ d ∷ []) few = ((λ e. omega (arith, e), (λ e. omega (arith, e), (λ e. omega (arith, e), (λ e. omega (arith, e), tt)))), ((λ e. omega (arith, e), (λ e. omega (arith, e), (λ e. omega (arith, e), tt))), ((λ e. omega (arith, e), (λ e. omega (arith, e), tt)), ((λ e. omega (arith, e), tt), (tt, tt)))))
  apart (a ∷ b ∷ c ∷ d ∷ e ∷ rs) few = absurd (many a b c d e rs few)

  -- so is what holds of all four
  all_homes : (Q : ℕ → Type 0) → Q 0 → Q 2 → Q 3 → Q 1 → (k : ℕ) (rs : List R) → AllOf Q (firsts (homes_from m.key k rs))
  all_homes Q rax rdx rbx rcx k [] = tt
  all_homes Q rax rdx rbx rcx k (r ∷ rs) = (go (nat_eq k 0) (nat_eq k 1) (nat_eq k 2), all_homes Q rax rdx rbx rcx (k + 1) rs)
    where
      go : (first second third : Bool) → Q (if first then 0 else (if second then 2 else (if third then 3 else 1)))
      go true second third = rax
      go false true third = rdx
      go false false true = rbx
      go false false false = rcx

  slots_low : (k : ℕ) (rs : List R) → AllLow m rs → AllOf (λ r. r < m.count) (seconds (homes_from m.key k rs))
  slots_low k [] h = tt
  slots_low k (r ∷ rs) h = (h.0, slots_low (k + 1) rs h.1)

  pub reads : (k : ℕ) (rs : List R) (f : ℕ → ℕ) → read_all m.key rs f ≡ read_regs (seconds (homes_from m.key k rs)) f
  reads k [] f = refl
  reads k (r ∷ rs) f = ap (λ l. f (m.key r) ∷ l) (reads (k + 1) rs f)

  pub writes : (k : ℕ) (rs : List R) (ns : List ℕ) (f : ℕ → ℕ) → put_all m.key rs ns f ≡ put_regs (seconds (homes_from m.key k rs)) ns f
  writes k [] ns f = refl
  writes k (r ∷ rs) [] f = refl
  writes k (r ∷ rs) (n ∷ ns) f = writes (k + 1) rs ns (at_place f (m.key r) n)

-- how long the code is that keeps results
pub puts_short : (zs : List (ℕ × ℕ)) → length (puts_all x86_table zs) ≡ length zs
puts_short [] = refl
puts_short (z ∷ zs) = ap suc (puts_short zs)

module _ {R W : Type 0} (m : Program R W) (h : X86Based m) (law : Laws m) (most : ℕ) (line : Line R) (expansions : Op → Width → Order → Bool → Expansion) where
  homes : (address : R) (args results : List R) → Low m address → AllLow m args → AllLow m results → length args ≤ 4 → length results ≤ 3 → Homes m x86_table is_kept address args results 6 (homes_from m.key 0 args) (homes_from m.key 0 results)
  homes address args results low low_args low_results few few_results =
      record {
        args_are = reads m 0 args;
        results_are = writes m 0 results;
        distinct = apart m args few;
        distinct_results = (apart m results (omega (arith, few_results))).1;
        few = (low, slots_low m 0 args low_args);
        few_results = slots_low m 0 results low_results;
        usable = (refl, all_homes m (λ t. is_usable t ≡ true) refl refl refl refl 0 args);
        usable_results = all_homes m (λ t. is_usable t ≡ true) refl refl refl refl 0 results;
        keeps_fixed = λ q k. ap is_kept (fixed_stack m h q k);
        keeps_results = all_homes m (λ t. is_kept t ≡ true) refl refl refl refl 0 results;
      }

  -- AN ATOMIC OPERATION: slots, its expansion, slots
  pub atomic_line : (o : Op) (width : Width) (order : Order) (weak : Bool) (address : R) (args results : List R) → line.inst ≡ inst.Atomic o width order weak address args results → Low m address → AllLow m args → AllLow m results → Expanded m expansions most o width order weak args results
      → LineCode x86_kind m most (length (inst_code m expansions (inst.Atomic o width order weak address args results) (λ j. 0) 0)) (λ places start. inst_code m expansions (inst.Atomic o width order weak address args results) places start) line
  unfolding piece_of
  atomic_line o width order weak address args results is low low_args low_results e =
      let ps = homes_from m.key 0 args in
      let qs = homes_from m.key 0 results in
      let x = expansions o width order weak in
      let a = gets_short ((6, m.key address) ∷ ps) in
      let b = puts_short qs in
      let c = homes_many m 0 args in
      let d = homes_many m 0 results in
      let few = e.few in
      let few_args = e.few_args in
      let few_results = e.few_results in
      resized x86_kind m most _ (λ places start. wrap (gets_all x86_table ((6, m.key address) ∷ ps)) x.piece (puts_all x86_table qs) start) line
      (law.atomic x86_table (based m h) o width order weak address args results is_kept 6 ps qs (homes address args results low low_args low_results e.few_args e.few_results) x.most x.size x.piece (subst (λ n. Counted (m.atomic o width order weak) n) (sym (firsts_many m 0 results)) e.counted) e.expands line is most (omega (arith, a, b, c, d, few, few_args, few_results)))
