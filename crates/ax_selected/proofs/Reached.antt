-- Each plain access of the code is one of the instruction at its site.
use Rattle.std.proofs.Common.{◌≡◌, ℕ, Bool, true, false, Some, sym, ap, ◌∙◌}
use Rattle.std.specs.Prelude.{if◌then◌else◌}
use Rattle.std.proofs.lemmas.Option.{none-some, same_Some}
use Rattle.ax_module.specs.declared.inst.Inst.{Inst}
use Rattle.ax_module.specs.declared.inst.Inst.TheVariants as inst
use Rattle.ax_source_run.specs.SourceState.{SourceProgram}
use Rattle.ax_mid.specs.declared.instruction.MidInst.{MidInst}
use Rattle.ax_mid.specs.declared.registers.Virtual.{Virtual}
use Rattle.ax_selected.specs.Addresses.{bytes_of, object_of}
use Rattle.ax_selected.specs.Operations.{IsAccessOf, PlainAccess, SelectedAccessesAreAtSites, access_in}
use Rattle.ax_selected.proofs.Each.{HoldsOf, IsPlain, load_each, piece_each, store_each}
use Rattle.ax_selected.proofs.Siting.{sited}

module _ (program : SourceProgram) (f : ℕ) where
  abbrev IsThatOf : Inst → MidInst Virtual → Type 0
  IsThatOf i x = (a : PlainAccess) → access_in x ≡ Some a → IsAccessOf program f i a

  plain : (i : Inst) → IsPlain (IsThatOf i)
  unfolding access_in
  plain i = record {
    const = λ r n a e. absurd (none-some a e);
    copy = λ r s a e. absurd (none-some a e);
    applies = λ d r s t a e. absurd (none-some a e);
    shift = λ d r s by a e. absurd (none-some a e);
    extend = λ r s bits signed a e. absurd (none-some a e);
    select = λ r s t u a e. absurd (none-some a e);
    label = λ n a e. absurd (none-some a e);
    jump = λ n a e. absurd (none-some a e);
    branch = λ r n m a e. absurd (none-some a e);
    frame = λ r n a e. absurd (none-some a e);
    out = λ r a e. absurd (none-some a e);
    trap = λ a e. absurd (none-some a e);
    ret = λ a e. absurd (none-some a e);
    nop = λ a e. absurd (none-some a e);
  }

  holds : (i : Inst) → HoldsOf (IsThatOf i) (plain i) program f i
  unfolding access_in IsAccessOf
  holds (inst.Load t a align) =
      let bytes = bytes_of program f (object_of program f a.base) in
      λ k. load_each (IsThatOf (inst.Load t a align)) (plain (inst.Load t a align)) k t bytes (λ q is r s x e.
      let same = same_Some _ x e in (sym (ap (λ (y : PlainAccess). y.stores) same), sym (ap (λ (y : PlainAccess). y.bytes) same) ∙ sym (ap (λ (n : Bool). if n then bytes else 8) is)))
  holds (inst.Store t v a align) =
      let bytes = bytes_of program f (object_of program f a.base) in
      store_each (IsThatOf (inst.Store t v a align)) (plain (inst.Store t v a align)) t v bytes (λ q is r s x e.
      let same = same_Some _ x e in (sym (ap (λ (y : PlainAccess). y.stores) same), sym (ap (λ (y : PlainAccess). y.bytes) same) ∙ sym (ap (λ (n : Bool). if n then bytes else 8) is)))
  holds (inst.LoadAtomic t a order align) = λ k x e. absurd (none-some x e)
  holds (inst.StoreAtomic t v a order align) = λ x e. absurd (none-some x e)
  holds (inst.Cmpxchg weak a t v u w success failure align) = λ k x e. absurd (none-some x e)
  holds (inst.Rmw r a t v order align) = λ k x e. absurd (none-some x e)
  holds (inst.Fence true order) = λ g k x e. absurd (none-some x e)
  holds (inst.Fence false order) = λ g k x e. absurd (none-some x e)
  holds _ = tt

pub accesses_are_at_sites : SelectedAccessesAreAtSites
unfolding access_in
accesses_are_at_sites program place line x e is =
    let there = sited program (IsThatOf program) (λ y. (a : PlainAccess) × (access_in y ≡ Some a)) (λ n shows. none-some shows.0 shows.1) (λ f k blocks b i. piece_each (IsThatOf program f i) (plain program f i) program f k b blocks i (holds program f i)) place line e (x, is) in
    record { inst = there.inst; at = there.at; access = there.holds x is }
