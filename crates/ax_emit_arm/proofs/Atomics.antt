-- AArch64's code of atomic operations on slots: the registers of their expansions.
use Rattle.std.proofs.Common.{◌≡◌, ℕ, suc, ◌+◌, ◌*◌, ◌<◌, ◌≤◌, Bool, true, List, [], ◌∷◌, length, refl, sym, ap, subst, arith}
use Rattle.std.proofs.lemmas.Bool.Decides.{nat_tests}
use Rattle.ax_words.specs.declared.mark.Op.{Op}
use Rattle.ax_words.specs.declared.order.Order.{Order}
use Rattle.ax_words.specs.declared.width.Width.{Width}
use Rattle.ax_store.specs.Storage.{at_place}
use Rattle.ax_mid.specs.declared.code.Line.{Line}
use Rattle.ax_mid.specs.declared.instruction.MidInst.TheVariants as inst
use Rattle.ax_mid.specs.Machine.{put_all, read_all}
use Rattle.ax_arm.specs.Instructions.{arm_kind}
use Rattle.ax_expand.specs.Doing.{read_regs, put_regs}
use Rattle.ax_expand.specs.Standing.{wrap}
use Rattle.ax_emit.specs.Atomics.{AllOf, Counted, Distinct, Homes, NotIn, firsts, gets_all, puts_all, seconds}
use Rattle.ax_fine.specs.Fine.{Program}
use Rattle.ax_emit.specs.Lines.{LineCode}
use Rattle.ax_emit_arm.specs.Code.{Expansion, address_register, first_argument, first_result, homes_from, inst_code, piece_of}
use Rattle.ax_emit_arm.specs.Laws.{AllLow, Expanded, Low, ArmBased, is_kept}
use Rattle.ax_emit_arm.specs.Slots.{arm_table, is_usable}
use Rattle.ax_emit_arm.proofs.Computing.{Laws, based, fixed_high, gets_short, resized}

module _ {R W : Type 0} (m : Program R W) where
  -- registers from t on, one for each of these
  firsts_many : (t : ℕ) (rs : List R) → length (firsts (homes_from m.key t rs)) ≡ length rs
  firsts_many t [] = refl
  firsts_many t (r ∷ rs) = ap suc (firsts_many (t + 1) rs)

  homes_many : (t : ℕ) (rs : List R) → length (homes_from m.key t rs) ≡ length rs
  homes_many t [] = refl
  homes_many t (r ∷ rs) = ap suc (homes_many (t + 1) rs)

  above : (q t : ℕ) (rs : List R) → q < t → NotIn q (firsts (homes_from m.key t rs))
  above q t [] lt = tt
  above q t (r ∷ rs) lt = (λ e. omega (arith, e, lt), above q (t + 1) rs (omega (arith, lt)))

  apart : (t : ℕ) (rs : List R) → Distinct (firsts (homes_from m.key t rs))
  apart t [] = tt
  apart t (r ∷ rs) = (above t (t + 1) rs (omega arith), apart (t + 1) rs)

  all_between : (Q : ℕ → Type 0) (t low high : ℕ) (rs : List R) → ((q : ℕ) → low ≤ q → q < high → Q q) → low ≤ t → t + length rs ≤ high → AllOf Q (firsts (homes_from m.key t rs))
  all_between Q t low high [] f lo hi = tt
  all_between Q t low high (r ∷ rs) f lo hi = (f t lo (omega (arith, hi)), all_between Q (t + 1) low high rs f (omega (arith, lo)) (omega (arith, hi)))

  slots_low : (t : ℕ) (rs : List R) → AllLow m rs → AllOf (λ r. r < m.count) (seconds (homes_from m.key t rs))
  slots_low t [] h = tt
  slots_low t (r ∷ rs) h = (h.0, slots_low (t + 1) rs h.1)

  pub reads : (t : ℕ) (rs : List R) (f : ℕ → ℕ) → read_all m.key rs f ≡ read_regs (seconds (homes_from m.key t rs)) f
  reads t [] f = refl
  reads t (r ∷ rs) f = ap (λ l. f (m.key r) ∷ l) (reads (t + 1) rs f)

  pub writes : (t : ℕ) (rs : List R) (ns : List ℕ) (f : ℕ → ℕ) → put_all m.key rs ns f ≡ put_regs (seconds (homes_from m.key t rs)) ns f
  writes t [] ns f = refl
  writes t (r ∷ rs) [] f = refl
  writes t (r ∷ rs) (n ∷ ns) f = writes (t + 1) rs ns (at_place f (m.key r) n)

usable_between : (q : ℕ) → 1 ≤ q → q < 9 → is_usable q ≡ true
usable_between q lo hi = grind (arith, nat_tests, lo, hi)

kept_between : (q : ℕ) → 1 ≤ q → q < 9 → is_kept q ≡ true
kept_between q lo hi = grind (arith, nat_tests, lo, hi)

kept_high : (q : ℕ) → 30 ≤ q → is_kept q ≡ true
kept_high q hi = grind (arith, nat_tests, hi)

-- how long the code is that keeps results
pub puts_short : (zs : List (ℕ × ℕ)) → length (puts_all arm_table zs) ≡ 3 * length zs
puts_short [] = refl
puts_short (z ∷ zs) = (let c = puts_short zs in let q : suc (suc (suc (length (puts_all arm_table zs)))) ≡ 3 * suc (length zs) = omega (arith, c) in q)

module _ {R W : Type 0} (m : Program R W) (h : ArmBased m) (law : Laws m) (most : ℕ) (line : Line R) (expansions : Op → Width → Order → Bool → Expansion) where
  homes : (address : R) (args results : List R) → Low m address → AllLow m args → AllLow m results → length args ≤ 4 → length results ≤ 3 → Homes m arm_table is_kept address args results address_register (homes_from m.key first_argument args) (homes_from m.key first_result results)
  homes address args results low low_args low_results few few_results =
      record {
        args_are = reads m first_argument args;
        results_are = writes m first_result results;
        distinct = (above m address_register first_argument args (omega arith), apart m first_argument args);
        distinct_results = apart m first_result results;
        few = (low, slots_low m first_argument args low_args);
        few_results = slots_low m first_result results low_results;
        usable = (refl, all_between m (λ t. is_usable t ≡ true) first_argument 1 9 args usable_between (omega arith) (omega (arith, few)));
        usable_results = all_between m (λ t. is_usable t ≡ true) first_result 1 9 results usable_between (omega arith) (omega (arith, few_results));
        keeps_fixed = λ q k. kept_high q (fixed_high m h q k);
        keeps_results = all_between m (λ t. is_kept t ≡ true) first_result 1 9 results kept_between (omega arith) (omega (arith, few_results));
      }

  -- AN ATOMIC OPERATION: slots, its expansion, slots
  pub atomic_line : (o : Op) (width : Width) (order : Order) (weak : Bool) (address : R) (args results : List R) → line.inst ≡ inst.Atomic o width order weak address args results → Low m address → AllLow m args → AllLow m results → Expanded m expansions most o width order weak args results
      → LineCode arm_kind m most (length (inst_code m expansions (inst.Atomic o width order weak address args results) (λ j. 0) 0)) (λ places start. inst_code m expansions (inst.Atomic o width order weak address args results) places start) line
  unfolding piece_of
  atomic_line o width order weak address args results is low low_args low_results e =
      let ps = homes_from m.key first_argument args in
      let qs = homes_from m.key first_result results in
      let x = expansions o width order weak in
      let a = gets_short ((address_register, m.key address) ∷ ps) in
      let b = puts_short qs in
      let c = homes_many m first_argument args in
      let d = homes_many m first_result results in
      let few = e.few in
      let few_args = e.few_args in
      let few_results = e.few_results in
      resized arm_kind m most _ (λ places start. wrap (gets_all arm_table ((address_register, m.key address) ∷ ps)) x.piece (puts_all arm_table qs) start) line
      (law.atomic arm_table (based m h) o width order weak address args results is_kept address_register ps qs (homes address args results low low_args low_results e.few_args e.few_results) x.most x.size x.piece (subst (λ n. Counted (m.atomic o width order weak) n) (sym (firsts_many m first_result results)) e.counted) e.expands line is most (omega (arith, a, b, c, d, few, few_args, few_results)))
