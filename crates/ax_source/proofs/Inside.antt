-- Pointers of instructions that lie inside their objects.
use Rattle.std.proofs.Common.{◌≡◌, ℕ, zero, suc, ◌+◌, ◌<◌, Bool, true, false, ◌||◌, not, List, [], ◌∷◌, Option, Some, None, IfSome, IsTrue, length, drop, refl, sym, ap, ◌∙◌, subst, arith}
use Rattle.std.specs.Prelude.{slice_index_or}
use Rattle.std.specs.List.{list_all}
use Rattle.std.proofs.lemmas.Bool.{and_parts}
use Rattle.ax_module.specs.declared.operand.Addr.{Addr}
use Rattle.ax_module.specs.declared.operand.Arg.{Arg}
use Rattle.ax_module.specs.declared.operand.Arg.TheVariants as arg
use Rattle.ax_module.specs.declared.operand.Operand.{Operand}
use Rattle.ax_module.specs.declared.types.Ty.{Ty}
use Rattle.ax_module.specs.declared.inst.Inst.{Inst}
use Rattle.ax_module.specs.declared.inst.Inst.TheVariants as inst
use Rattle.ax_words.specs.declared.routine.RoutineName.{RoutineName}
use Rattle.ax_words.specs.Routine.{routine_named}
use Rattle.ax_source_run.specs.SourceAccess.{Access, ObjectOperation, Reply}
use Rattle.ax_source_run.specs.SourceCalls.{RoutineKind, SizedLoad, SizedStore, SizedUpdate, SizedCompare, GenericLoad, GenericStore, GenericExchange, GenericCompare, IsLockFree, call_of, kind_of, pointer_at}
use Rattle.ax_source_run.specs.SourceInstructions.{access_of, is_inside, is_unreachable, pointers_of, routine_access, traps}
use Rattle.ax_source_run.specs.SourceState.{Pointer}
use Rattle.ax_source.specs.Accesses.{IsPerformable, is_answerable, is_element_of}
use Rattle.ax_source.specs.Calls.{has_pointers, is_pointer_at, routine_has_pointers}
use Rattle.ax_source.specs.ProcessorState.{ProcessorState, state_of}
use Rattle.ax_source.specs.Instructions.{any_outside}
use Rattle.ax_source.specs.Runnable.{is_narrow_addr, is_narrow_arg, is_narrow_inst}

drop_next : (args : List Arg) (k j : ℕ) (a d : Arg) → j ≡ k + 1 → k < length args → a ≡ slice_index_or args k d → drop k args ≡ a ∷ drop j args
drop_next [] k j a d e h is = absurd (omega arith)
drop_next (x ∷ args) zero j a d e h is = let f : j ≡ suc zero = omega arith in rw f (ap (λ y. y ∷ args) (sym is))
drop_next (x ∷ args) (suc k) zero a d e h is = absurd (omega arith)
drop_next (x ∷ args) (suc k) (suc j) a d e h is = drop_next args k j a d (omega arith) (omega arith) is

-- a pointer argument's place is that of its pointer
pub pointer_next : (c : ProcessorState) (args : List Arg) (k j : ℕ) (a : Arg) (addr : Addr) → j ≡ k + 1 → k < length args → a ≡ slice_index_or args k a → a ≡ arg.Pointer addr
    → any_outside c (drop k args) ≡ (not (is_inside c.program (state_of c) addr) || any_outside c (drop j args))
pointer_next c args k j a addr e h is p = ap (any_outside c) (drop_next args k j a a e h is ∙ ap (λ x. x ∷ drop j args) p)

pub value_next : (c : ProcessorState) (args : List Arg) (k j : ℕ) (a : Arg) (ty : Ty) (v : Operand) → j ≡ k + 1 → k < length args → a ≡ slice_index_or args k a → a ≡ arg.Value ty v
    → any_outside c (drop k args) ≡ any_outside c (drop j args)
value_next c args k j a ty v e h is p = ap (any_outside c) (drop_next args k j a a e h is ∙ ap (λ x. x ∷ drop j args) p)

pub none_left : (c : ProcessorState) (args : List Arg) (k : ℕ) → length args ≡ k → any_outside c (drop k args) ≡ false
none_left c [] zero h = refl
none_left c [] (suc k) h = refl
none_left c (x ∷ args) zero h = absurd (omega arith)
none_left c (x ∷ args) (suc k) h = none_left c args k (omega arith)

pub arg_narrow : (args : List Arg) (k : ℕ) (a : Arg) (addr : Addr) → IsTrue (list_all is_narrow_arg args) → k < length args → a ≡ slice_index_or args k a → a ≡ arg.Pointer addr → IsTrue (is_narrow_addr addr)
arg_narrow args k a addr h l is p = sym (ap is_narrow_arg p) ∙ narrow_at args k a h l is
  where
    narrow_at : (xs : List Arg) (k : ℕ) (x : Arg) → IsTrue (list_all is_narrow_arg xs) → k < length xs → x ≡ slice_index_or xs k x → is_narrow_arg x ≡ true
    narrow_at [] k x h l is = absurd (omega arith)
    narrow_at (y ∷ xs) zero x h l is = ap is_narrow_arg is ∙ (and_parts (is_narrow_arg y) (list_all is_narrow_arg xs) h).0
    narrow_at (y ∷ xs) (suc k) x h l is = narrow_at xs k x (and_parts (is_narrow_arg y) (list_all is_narrow_arg xs) h).1 (omega arith) is

pub ruleset arguments = (pointer_next, value_next, none_left, arg_narrow)

-- ---- none of the pointers lies outside
or_false : (x y : Bool) → (x || y) ≡ false → (x ≡ false) × (y ≡ false)
or_false true y h = absurd cc
or_false false y h = (refl, h)

not_false : (x : Bool) → not x ≡ false → x ≡ true
not_false true h = refl
not_false false h = absurd cc

pub pointer_inside : (c : ProcessorState) (args : List Arg) (k : ℕ) → any_outside c args ≡ false → is_pointer_at args k ≡ true → IsTrue (is_element_of c (pointer_at c.program (state_of c) args k))
pointer_inside c [] k h e = absurd cc
pointer_inside c (arg.Pointer addr ∷ args) zero h e = not_false _ (or_false (not (is_inside c.program (state_of c) addr)) (any_outside c args) h).0
pointer_inside c (arg.Value ty v ∷ args) zero h e = absurd cc
pointer_inside c (arg.Pointer addr ∷ args) (suc k) h e = pointer_inside c args k (or_false (not (is_inside c.program (state_of c) addr)) (any_outside c args) h).1 e
pointer_inside c (arg.Value ty v ∷ args) (suc k) h e = pointer_inside c args k h e

pub call_inside : (c : ProcessorState) (i : Inst) (r : Option Ty) (name : List ℕ) (args : List Arg) → i ≡ inst.Call r name args → traps c.program (state_of c) i ≡ false → any_outside c args ≡ false
unfolding is_unreachable pointers_of
call_inside c i r name args e h = sym (ap (traps c.program (state_of c)) e) ∙ h

pub call_pointers : (i : Inst) (r : Option Ty) (name : List ℕ) (args : List Arg) → i ≡ inst.Call r name args → IsTrue (is_narrow_inst i) → IsTrue (routine_has_pointers (routine_named name) args)
unfolding is_narrow_inst
call_pointers i r name args e h = (and_parts (list_all is_narrow_arg args) (routine_has_pointers (routine_named name) args) (sym (ap is_narrow_inst e) ∙ h)).1

pub lock_free_pointer : (o : Option RoutineName) (routine : RoutineName) (args : List Arg) → Some routine ≡ o → IsLockFree ≡ kind_of routine → IsTrue (routine_has_pointers o args) → is_pointer_at args 1 ≡ true
lock_free_pointer o routine args e k h = ap (λ kind. has_pointers kind args) k ∙ ap (λ x. routine_has_pointers x args) e ∙ h

-- ---- an operation of an instruction that doesn't trap is on an element
module _ (c : ProcessorState) where
  here : (p : Pointer) → IsTrue (is_element_of c p) → (operation : ObjectOperation) (may_wait : Bool) (reply : Reply) → IsTrue (is_answerable c reply) → IsPerformable c (record { pointer = p; operation = operation; may_wait = may_wait; reply = reply })
  here p h operation may_wait reply r = record { object = h; reply = record { arguments = r } }

  alone : (addr : Addr) → (not (is_inside c.program (state_of c) addr) || false) ≡ false → IsTrue (is_inside c.program (state_of c) addr)
  alone addr h = not_false _ (or_false (not (is_inside c.program (state_of c) addr)) false h).0

  module _ (args : List Arg) (inside : any_outside c args ≡ false) where
    at : (k : ℕ) → is_pointer_at args k ≡ true → IsTrue (is_element_of c (pointer_at c.program (state_of c) args k))
    at k e = pointer_inside c args k inside e

    kind_performs : (kind : RoutineKind) → IsTrue (has_pointers kind args) → IfSome (call_of c.program (state_of c) kind args) (IsPerformable c)
    kind_performs SizedLoad h = here _ (at 0 h) _ _ _ refl
    kind_performs SizedStore h = here _ (at 0 h) _ _ _ refl
    kind_performs (SizedUpdate op) h = here _ (at 0 h) _ _ _ refl
    kind_performs SizedCompare h = let parts = and_parts (is_pointer_at args 0) (is_pointer_at args 1) h in here _ (at 0 parts.0) _ _ _ (at 1 parts.1)
    kind_performs GenericLoad h = let parts = and_parts (is_pointer_at args 1) (is_pointer_at args 2) h in here _ (at 1 parts.0) _ _ _ (at 2 parts.1)
    kind_performs GenericStore h = here _ (at 1 h) _ _ _ refl
    kind_performs GenericExchange h = let parts = and_parts (is_pointer_at args 1) (is_pointer_at args 3) h in here _ (at 1 parts.0) _ _ _ (at 3 parts.1)
    kind_performs GenericCompare h = let parts = and_parts (is_pointer_at args 1) (is_pointer_at args 2) h in here _ (at 1 parts.0) _ _ _ (at 2 parts.1)
    kind_performs IsLockFree h = tt

    routine_performs : (o : Option RoutineName) → IsTrue (routine_has_pointers o args) → IfSome (routine_access c.program (state_of c) o args) (IsPerformable c)
    routine_performs None h = tt
    routine_performs (Some routine) h = kind_performs (kind_of routine) h

  inst_performs : (i : Inst) → IsTrue (is_narrow_inst i) → traps c.program (state_of c) i ≡ false → IfSome (access_of c.program (state_of c) i) (IsPerformable c)
  unfolding access_of is_unreachable pointers_of is_narrow_inst
  inst_performs (inst.Load ty addr align) n h = here _ (alone addr h) _ _ _ refl
  inst_performs (inst.LoadAtomic ty addr order align) n h = here _ (alone addr h) _ _ _ refl
  inst_performs (inst.Store ty v addr align) n h = here _ (alone addr h) _ _ _ refl
  inst_performs (inst.StoreAtomic ty v addr order align) n h = here _ (alone addr h) _ _ _ refl
  inst_performs (inst.Cmpxchg weak addr ty v other w success failure align) n h = here _ (alone addr h) _ _ _ refl
  inst_performs (inst.Rmw op addr ty v order align) n h = here _ (alone addr h) _ _ _ refl
  inst_performs (inst.Call result name args) n h = routine_performs args h (routine_named name) (and_parts (list_all is_narrow_arg args) (routine_has_pointers (routine_named name) args) n).1
  inst_performs _ n h = tt

  pub performable : (i : Inst) (a : Access) → Some a ≡ access_of c.program (state_of c) i → IsTrue (is_narrow_inst i) → traps c.program (state_of c) i ≡ false → IsPerformable c a
  performable i a e n h = subst (λ o. IfSome o (IsPerformable c)) (sym e) (inst_performs i n h)
