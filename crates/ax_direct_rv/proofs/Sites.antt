-- The way of each atomic operation of such a module's code.
use Rattle.std.proofs.Common.{◌≡◌, ℕ, Bool, true, false, ◌&&◌, List, Option, Some, None, refl, sym, ap, ◌∙◌, subst, arith, slice_get}
use Rattle.std.specs.Prelude.{if◌then◌else◌, nat_le}
use Rattle.std.specs.List.{list_all}
use Rattle.std.proofs.lemmas.Bool.{false≢true}
use Rattle.std.proofs.lemmas.Bool.Decides.{nat_tests}
use Rattle.std.proofs.lemmas.Option.{none-some, same_Some}
use Rattle.ax_module.specs.declared.inst.Inst.{Inst}
use Rattle.ax_module.specs.declared.inst.Inst.TheVariants as inst
use Rattle.ax_module.specs.declared.module.Block.{Block}
use Rattle.ax_module.specs.declared.module.Function.{Function}
use Rattle.ax_module.specs.declared.types.Ty.TheVariants.{I64}
use Rattle.ax_source_run.specs.SourceInstructions.{width_of}
use Rattle.ax_source_run.specs.SourcePointers.{blocks_in}
use Rattle.ax_source_run.specs.SourceState.{SourceProgram}
use Rattle.ax_target.specs.declared.decision.Way.{Way}
use Rattle.ax_target.specs.declared.decision.Way.TheVariants.{Sized, Generic}
use Rattle.ax_target.specs.declared.target.Target.{Target}
use Rattle.ax_target.specs.Decisions.{access_way, decided, native_way}
use Rattle.ax_target.specs.Targets.{greatest_native}
use Rattle.ax_words.specs.declared.mark.Op.{Op}
use Rattle.ax_words.specs.declared.mark.Op.TheVariants as op
use Rattle.ax_words.specs.declared.place.Site.{Site}
use Rattle.ax_words.specs.Orders.{merged_order}
use Rattle.ax_words.specs.Width.{bytes_of}
use Rattle.ax_typed.proofs.Places.{all_at, all_insts, block_at, place_of}
use Rattle.ax_selected.specs.Operations.{Operation, inst_of_site, operation_of}
use Rattle.ax_direct_rv.specs.Direct.{is_coded, is_direct_module}
use Rattle.ax_llsc.specs.Codes.{is_coded_way}

-- ---- a way with code at some alignment is one at the size
le_self : (n : ℕ) → nat_le n n ≡ true
le_self n = grind (arith, nat_tests)

way_if : (a b c : Bool) (w : Way) → is_coded_way (if a && b then w else if b then Sized else Generic) ≡ true → c ≡ true → is_coded_way (if a && c then w else if c then Sized else Generic) ≡ true
way_if a b false w h e = absurd (false≢true e)
way_if true true true w h e = h
way_if true false true w h e = absurd (false≢true h)
way_if false true true w h e = absurd (false≢true h)
way_if false false true w h e = absurd (false≢true h)

way_at_size : (target : Target) (o : Op) (n align : ℕ) → is_coded_way (access_way target o n align) ≡ true → is_coded_way (access_way target o n n) ≡ true
way_at_size target o n align h = way_if (nat_le n (greatest_native target)) (nat_le n align) (nat_le n n) (native_way target o n) h (le_self n)

abbrev IsCodedWay : Target → Operation → Type 0
IsCodedWay target o = is_coded_way (decided target o.op o.width (bytes_of o.width)) ≡ true

coded : (target : Target) (i : Inst) (o : Operation) → operation_of i ≡ Some o → is_coded target i ≡ true → IsCodedWay target o
unfolding operation_of is_coded
coded target (inst.LoadAtomic t a order align) o e h = subst (IsCodedWay target) (same_Some (record { op = op.Load; width = width_of t; order = order; weak = false }) o e) (way_at_size target op.Load (bytes_of (width_of t)) align h)
coded target (inst.StoreAtomic t v a order align) o e h = subst (IsCodedWay target) (same_Some (record { op = op.Store; width = width_of t; order = order; weak = false }) o e) (way_at_size target op.Store (bytes_of (width_of t)) align h)
coded target (inst.Cmpxchg weak a t v u w success failure align) o e h = subst (IsCodedWay target) (same_Some (record { op = op.Cmpxchg; width = width_of t; order = merged_order success failure; weak = weak }) o e) (way_at_size target op.Cmpxchg (bytes_of (width_of t)) align h)
coded target (inst.Rmw r a t v order align) o e h = subst (IsCodedWay target) (same_Some (record { op = op.Rmw r; width = width_of t; order = order; weak = false }) o e) (way_at_size target (op.Rmw r) (bytes_of (width_of t)) align h)
coded target (inst.Fence false order) o e h = subst (IsCodedWay target) (same_Some (record { op = op.Fence; width = width_of I64; order = order; weak = false }) o e) refl
coded target (inst.Fence true order) o e h = absurd (none-some o e)
coded target _ o e h = absurd (none-some o e)

-- ---- the instruction at a site
module _ (program : SourceProgram) (all : is_direct_module program ≡ true) where
  coded_in : (f : ℕ) (function : Option Function) → slice_get program.source.functions f ≡ function → (k : ℕ) (i : Inst) → slice_get (all_insts (blocks_in function)) k ≡ Some i → is_coded program.target i ≡ true
  coded_in f None at k i e = absurd (none-some i e)
  coded_in f (Some g) at k i e =
      let p = place_of g.blocks k i e in
      let b = block_at g.blocks p.block p.index i p.inst in
      let blocks = all_at (λ (h : Function). list_all (λ (y : Block). list_all (is_coded program.target) y.insts) h.blocks) program.source.functions f g all at in
      let insts = all_at (λ (y : Block). list_all (is_coded program.target) y.insts) g.blocks p.block b.0 blocks b.1 in
      all_at (is_coded program.target) b.0.insts p.index i insts (sym (ap (λ (is : List Inst). slice_get is p.index) b.2) ∙ p.inst)

  pub coded_at : (site : Site) (i : Inst) (o : Operation) → inst_of_site program site ≡ Some i → operation_of i ≡ Some o → IsCodedWay program.target o
  coded_at site i o at e = coded program.target i o e (coded_in site.function (slice_get program.source.functions site.function) refl site.instruction i at)
