-- Each atomic operation of the code is that of the instruction at its site.
use Rattle.std.proofs.Common.{◌≡◌, ℕ, Bool, true, false, ◌&&◌, List, Option, Some, None, refl, sym, ap, ◌∙◌, subst, arith, slice_get}
use Rattle.std.specs.Prelude.{if◌then◌else◌, nat_le}
use Rattle.std.specs.List.{list_all}
use Rattle.std.proofs.lemmas.Bool.{false≢true}
use Rattle.std.proofs.lemmas.Bool.Decides.{nat_tests}
use Rattle.std.proofs.lemmas.Option.{none-some, same_Some}
use Rattle.ax_module.specs.declared.inst.Inst.{Inst}
use Rattle.ax_module.specs.declared.inst.Inst.TheVariants as inst
use Rattle.ax_module.specs.declared.module.Block.{Block}
use Rattle.ax_module.specs.declared.module.Function.{Function}
use Rattle.ax_module.specs.declared.types.Ty.TheVariants.{I64}
use Rattle.ax_source_run.specs.SourceInstructions.{width_of}
use Rattle.ax_source_run.specs.SourcePointers.{blocks_in}
use Rattle.ax_source_run.specs.SourceState.{SourceProgram}
use Rattle.ax_mid.specs.declared.instruction.MidInst.{MidInst}
use Rattle.ax_mid.specs.declared.registers.Virtual.{Virtual}
use Rattle.ax_target.specs.declared.decision.Way.{Way}
use Rattle.ax_target.specs.declared.decision.Way.TheVariants.{Sized, Generic}
use Rattle.ax_target.specs.declared.target.Target.{Target}
use Rattle.ax_target.specs.Decisions.{access_way, decided, native_way}
use Rattle.ax_target.specs.Targets.{greatest_native}
use Rattle.ax_words.specs.declared.mark.Op.{Op}
use Rattle.ax_words.specs.declared.mark.Op.TheVariants as op
use Rattle.ax_words.specs.Orders.{merged_order}
use Rattle.ax_words.specs.Width.{bytes_of}
use Rattle.ax_typed.proofs.Places.{all_at, all_insts, block_at, place_of}
use Rattle.ax_selected.specs.Addresses.{bytes_of as element_bytes, object_of}
use Rattle.ax_selected.specs.Direct.{is_direct, is_direct_way, needs_no_routine}
use Rattle.ax_selected.specs.Operations.{Operation, SelectedOperationsAreAtSites, operation_in, operation_of}
use Rattle.ax_selected.proofs.Each.{HoldsOf, IsPlain, load_each, piece_each, store_each}
use Rattle.ax_selected.proofs.Siting.{sited}

-- ---- a way that calls no routine at some alignment calls none at the size
le_self : (n : ℕ) → nat_le n n ≡ true
le_self n = grind (arith, nat_tests)

way_if : (a b c : Bool) (w : Way) → is_direct_way (if a && b then w else if b then Sized else Generic) ≡ true → c ≡ true → is_direct_way (if a && c then w else if c then Sized else Generic) ≡ true
way_if a b false w h e = absurd (false≢true e)
way_if true true true w h e = h
way_if true false true w h e = absurd (false≢true h)
way_if false true true w h e = absurd (false≢true h)
way_if false false true w h e = absurd (false≢true h)

way_at_size : (target : Target) (o : Op) (n align : ℕ) → is_direct_way (access_way target o n align) ≡ true → is_direct_way (access_way target o n n) ≡ true
way_at_size target o n align h = way_if (nat_le n (greatest_native target)) (nat_le n align) (nat_le n n) (native_way target o n) h (le_self n)

abbrev HasWay : Target → Operation → Type 0
HasWay target o = is_direct_way (decided target o.op o.width (bytes_of o.width)) ≡ true

direct : (target : Target) (i : Inst) (o : Operation) → operation_of i ≡ Some o → is_direct target i ≡ true → HasWay target o
unfolding operation_of is_direct
direct target (inst.LoadAtomic t a order align) o e h = subst (HasWay target) (same_Some (record { op = op.Load; width = width_of t; order = order; weak = false }) o e) (way_at_size target op.Load (bytes_of (width_of t)) align h)
direct target (inst.StoreAtomic t v a order align) o e h = subst (HasWay target) (same_Some (record { op = op.Store; width = width_of t; order = order; weak = false }) o e) (way_at_size target op.Store (bytes_of (width_of t)) align h)
direct target (inst.Cmpxchg weak a t v u w success failure align) o e h = subst (HasWay target) (same_Some (record { op = op.Cmpxchg; width = width_of t; order = merged_order success failure; weak = weak }) o e) (way_at_size target op.Cmpxchg (bytes_of (width_of t)) align h)
direct target (inst.Rmw r a t v order align) o e h = subst (HasWay target) (same_Some (record { op = op.Rmw r; width = width_of t; order = order; weak = false }) o e) (way_at_size target (op.Rmw r) (bytes_of (width_of t)) align h)
direct target (inst.Fence false order) o e h = subst (HasWay target) (same_Some (record { op = op.Fence; width = width_of I64; order = order; weak = false }) o e) refl
direct target (inst.Fence true order) o e h = absurd (none-some o e)
direct target _ o e h = absurd (none-some o e)

-- ---- the code of an instruction
abbrev IsThatOf : Inst → MidInst Virtual → Type 0
IsThatOf i x = (o : Operation) → operation_in x ≡ Some o → operation_of i ≡ Some o

plain : (i : Inst) → IsPlain (IsThatOf i)
unfolding operation_in
plain i = record {
  const = λ r n o e. absurd (none-some o e);
  copy = λ r s o e. absurd (none-some o e);
  applies = λ d r s t o e. absurd (none-some o e);
  shift = λ d r s by o e. absurd (none-some o e);
  extend = λ r s bits signed o e. absurd (none-some o e);
  select = λ r s t u o e. absurd (none-some o e);
  label = λ n o e. absurd (none-some o e);
  jump = λ n o e. absurd (none-some o e);
  branch = λ r n m o e. absurd (none-some o e);
  frame = λ r n o e. absurd (none-some o e);
  out = λ r o e. absurd (none-some o e);
  trap = λ o e. absurd (none-some o e);
  ret = λ o e. absurd (none-some o e);
  nop = λ o e. absurd (none-some o e);
}

holds : (program : SourceProgram) (f : ℕ) (i : Inst) → HoldsOf (IsThatOf i) (plain i) program f i
unfolding operation_in operation_of
holds program f (inst.Load t a align) = λ k. load_each (IsThatOf (inst.Load t a align)) (plain (inst.Load t a align)) k t (element_bytes program f (object_of program f a.base)) (λ q is r s o e. absurd (none-some o e))
holds program f (inst.Store t v a align) = store_each (IsThatOf (inst.Store t v a align)) (plain (inst.Store t v a align)) t v (element_bytes program f (object_of program f a.base)) (λ q is r s o e. absurd (none-some o e))
holds program f (inst.LoadAtomic t a order align) = λ k o e. e
holds program f (inst.StoreAtomic t v a order align) = λ o e. e
holds program f (inst.Cmpxchg weak a t v u w success failure align) = λ k o e. e
holds program f (inst.Rmw r a t v order align) = λ k o e. e
holds program f (inst.Fence true order) = λ g k o e. absurd (none-some o e)
holds program f (inst.Fence false order) = λ g k o e. e
holds program f _ = tt

module _ (program : SourceProgram) where
  -- ---- the instruction at a site
  direct_in : (f : ℕ) (function : Option Function) → slice_get program.source.functions f ≡ function → (k : ℕ) (i : Inst) → slice_get (all_insts (blocks_in function)) k ≡ Some i → needs_no_routine program ≡ true → is_direct program.target i ≡ true
  direct_in f None at k i e needs = absurd (none-some i e)
  direct_in f (Some g) at k i e needs =
      let p = place_of g.blocks k i e in
      let b = block_at g.blocks p.block p.index i p.inst in
      let blocks = all_at (λ (h : Function). list_all (λ (y : Block). list_all (is_direct program.target) y.insts) h.blocks) program.source.functions f g needs at in
      let insts = all_at (λ (y : Block). list_all (is_direct program.target) y.insts) g.blocks p.block b.0 blocks b.1 in
      all_at (is_direct program.target) b.0.insts p.index i insts (sym (ap (λ (is : List Inst). slice_get is p.index) b.2) ∙ p.inst)

pub operations_are_at_sites : SelectedOperationsAreAtSites
unfolding operation_in
operations_are_at_sites program place line o e is =
    let there = sited program (λ f i. IsThatOf i) (λ x. (o : Operation) × (operation_in x ≡ Some o)) (λ n shows. none-some shows.0 shows.1) (λ f k blocks b i. piece_each (IsThatOf i) (plain i) program f k b blocks i (holds program f i)) place line e (o, is) in
    let own = there.holds o is in
    record { inst = there.inst; at = there.at; operation = own; way = λ needs. direct program.target there.inst o own (direct_in program line.site.function (slice_get program.source.functions line.site.function) refl line.site.instruction there.inst there.at needs) }
