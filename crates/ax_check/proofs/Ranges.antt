-- Each constant of a well formed module is one that a text can state.
use Rattle.std.proofs.Common.{◌≡◌, ℕ, true, ◌&&◌, IsTrue, Bool, List, [], ◌∷◌, ◌<◌, length, get_or, Option, Some, None, refl, sym, subst, ◌∙◌, All}
use Rattle.std.specs.List.{list_all, flat_map}
use Rattle.std.proofs.lemmas.Bool.{and_from, and_parts}
use Rattle.std.proofs.lemmas.List.Folds.{list_all-append, list_all-map}
use Rattle.std.proofs.lemmas.List.Sums.{AllPass-from_list_all}
use Rattle.ax_module.specs.declared.inst.Inst.{Inst}
use Rattle.ax_module.specs.declared.inst.Inst.TheVariants as inst
use Rattle.ax_module.specs.declared.module.Global.{Global}
use Rattle.ax_module.specs.declared.operand.Arg.{Arg}
use Rattle.ax_module.specs.declared.operand.Arg.TheVariants as arg
use Rattle.ax_module.specs.declared.operand.Operand.{Operand}
use Rattle.ax_module.specs.declared.types.Ty.{Ty}
use Rattle.ax_module.specs.Ranges.{is_arg_in_range, is_global_in_range, is_in_range, is_inst_in_range, is_stated_word, is_step_in_range, is_word}
use Rattle.ax_rules.specs.declared.facts.Parts.{Parts}
use Rattle.ax_rules.specs.Parts.{AreParts, arg_operands, operands_of, step_operands}

steps : (s : Option (Ty × ℕ × Ty × Operand)) → is_step_in_range s ≡ true → list_all (λ o. is_in_range o.1) (step_operands s) ≡ true
steps None h = refl
steps (Some s) h = and_from _ _ (and_parts _ _ h).1 refl

of_arg : (a : Arg) → is_arg_in_range a ≡ true → list_all (λ o. is_in_range o.1) (arg_operands a) ≡ true
of_arg (arg.Pointer a) h = steps a.step h
of_arg (arg.Value t v) h = and_from _ _ h refl

of_args : (args : List Arg) → list_all is_arg_in_range args ≡ true → list_all (λ o. is_in_range o.1) (flat_map arg_operands args) ≡ true
of_args [] h = refl
of_args (a ∷ args) h =
    let p = and_parts _ _ h in
    list_all-append (λ (o : Ty × Operand). is_in_range o.1) (arg_operands a) (flat_map arg_operands args) ∙ and_from _ _ (of_arg a p.0) (of_args args p.1)

operands : (i : Inst) → is_inst_in_range i ≡ true → list_all (λ o. is_in_range o.1) (operands_of i) ≡ true
unfolding is_inst_in_range operands_of
operands (inst.Bin op t v w) h = let p = and_parts (is_in_range v) (is_in_range w) h in and_from _ _ p.0 (and_from _ _ p.1 refl)
operands (inst.Icmp condition t v w) h = let p = and_parts (is_in_range v) (is_in_range w) h in and_from _ _ p.0 (and_from _ _ p.1 refl)
operands (inst.Select c t v u w) h =
    let p = and_parts (is_in_range c && is_in_range v) (is_in_range w) h in
    let q = and_parts (is_in_range c) (is_in_range v) p.0 in
    and_from (is_in_range c) (is_in_range v && (is_in_range w && true)) q.0 (and_from (is_in_range v) (is_in_range w && true) q.1 (and_from (is_in_range w) true p.1 refl))
operands (inst.Convert cast t v u) h = and_from (is_in_range v) true h refl
operands (inst.Phi t entries) h = list_all-map (λ (o : Ty × Operand). is_in_range o.1) (λ (e : Operand × ℕ). (t, e.0)) entries ∙ h
operands (inst.Branch v b c) h = and_from (is_in_range v) true h refl
operands (inst.Ret t v) h = and_from (is_in_range v) true h refl
operands (inst.Gep elem count b t v) h = and_from (is_in_range v) true (and_parts (is_word count) (is_in_range v) h).1 refl
operands (inst.Load t a align) h = steps a.step (and_parts (is_step_in_range a.step) (is_stated_word align) h).0
operands (inst.LoadAtomic t a order align) h = steps a.step (and_parts (is_step_in_range a.step) (is_word align) h).0
operands (inst.Store t v a align) h =
    let p = and_parts (is_in_range v && is_step_in_range a.step) (is_stated_word align) h in
    let q = and_parts (is_in_range v) (is_step_in_range a.step) p.0 in
    and_from (is_in_range v) _ q.0 (steps a.step q.1)
operands (inst.StoreAtomic t v a order align) h =
    let p = and_parts (is_in_range v && is_step_in_range a.step) (is_word align) h in
    let q = and_parts (is_in_range v) (is_step_in_range a.step) p.0 in
    and_from (is_in_range v) _ q.0 (steps a.step q.1)
operands (inst.Cmpxchg weak a t v u w success failure align) h =
    let p = and_parts ((is_step_in_range a.step && is_in_range v) && is_in_range w) (is_word align) h in
    let q = and_parts (is_step_in_range a.step && is_in_range v) (is_in_range w) p.0 in
    let r = and_parts (is_step_in_range a.step) (is_in_range v) q.0 in
    and_from (is_in_range v) _ r.1 (and_from (is_in_range w) _ q.1 (steps a.step r.0))
operands (inst.Rmw op a t v order align) h =
    let p = and_parts (is_step_in_range a.step && is_in_range v) (is_word align) h in
    let q = and_parts (is_step_in_range a.step) (is_in_range v) p.0 in
    and_from (is_in_range v) _ q.1 (steps a.step q.0)
operands (inst.Call t name args) h = of_args args h
operands _ h = refl

-- each constant among an instruction's operands
pub operands_in_range : (parts : Parts) (i : Inst) → AreParts parts i → IsTrue (is_inst_in_range i) → All (λ o. IsTrue (is_in_range o.1)) parts.operands
operands_in_range parts i a h =
    let p : parts.operands ≡ operands_of i = a.operands in
    subst (λ (os : List (Ty × Operand)). All (λ o. IsTrue (is_in_range o.1)) os) (sym p) (AllPass-from_list_all (λ (o : Ty × Operand). is_in_range o.1) (operands_of i) (operands i h))

-- each constant of a global
pub init_in_range : (v : Global) → IsTrue (is_global_in_range v) → All (λ c. IsTrue (is_in_range c)) v.init
init_in_range v h = AllPass-from_list_all is_in_range v.init (and_parts _ _ h).1

-- each element of a loop's list passes the test
pub passes_at : {X : Type 0} (p : X → Bool) (xs : List X) (i : ℕ) (x : X) → i < length xs → x ≡ get_or xs i x → list_all p xs ≡ true → p x ≡ true
passes_at {X} p xs i x lt at h = let Q : X → Type 0 = λ y. p y ≡ true in subst Q (sym at) (AllPass-from_list_all p xs h i x lt)
