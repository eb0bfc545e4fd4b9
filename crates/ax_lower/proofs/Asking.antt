-- What is asked of an instruction, by its way.
use Rattle.std.proofs.Common.{◌≡◌, ◌&&◌, Bool, true, false, List, Option, Some, None, refl, sym, ap, ◌∙◌}
use Rattle.std.specs.List.{list_all}
use Rattle.ax_module.specs.declared.inst.Inst.{Inst}
use Rattle.ax_module.specs.declared.inst.Inst.TheVariants as inst
use Rattle.ax_module.specs.declared.module.Function.{Function}
use Rattle.ax_module.specs.declared.module.Block.{Block}
use Rattle.ax_source_run.specs.SourceState.{SourceProgram}
use Rattle.ax_target.specs.declared.decision.Way.{Way}
use Rattle.ax_target.specs.declared.target.Target.{Target}
use Rattle.ax_target.specs.Decisions.{is_rv64}
use Rattle.ax_mid.specs.WellFormed.{is_direct_way}
use Rattle.ax_selected.specs.Direct.{is_direct, needs_no_routine}
use Rattle.ax_llsc.specs.Codes.{is_coded_way}
use Rattle.ax_direct_rv.specs.Direct.{is_built, is_coded, is_direct_module}
use Rattle.ax_lower.specs.declared.built.Asked.{Asked}
use Rattle.ax_lower.specs.Ways.{calls_no_routine, meets, way_of}

abbrev pub by_way : (Way → Bool) → Bool → Option Way → Bool
by_way f other None = other
by_way f other (Some way) = f way

pub direct : (t : Target) (i : Inst) → by_way is_direct_way (calls_no_routine i) (way_of t i) ≡ is_direct t i
unfolding is_direct way_of calls_no_routine
direct t (inst.LoadAtomic ty a order align) = refl
direct t (inst.StoreAtomic ty v a order align) = refl
direct t (inst.Cmpxchg weak a ty v new_ty w success failure align) = refl
direct t (inst.Rmw o a ty v order align) = refl
direct t (inst.Call result name args) = refl
direct t _ = refl

pub coded : (t : Target) (i : Inst) → by_way is_coded_way true (way_of t i) ≡ is_coded t i
unfolding is_coded way_of
coded t (inst.LoadAtomic ty a order align) = refl
coded t (inst.StoreAtomic ty v a order align) = refl
coded t (inst.Cmpxchg weak a ty v new_ty w success failure align) = refl
coded t (inst.Rmw o a ty v order align) = refl
coded t _ = refl

-- with the way that was found
pub direct_some : (t : Target) (i : Inst) (way : Way) → Some way ≡ way_of t i → is_direct_way way ≡ is_direct t i
direct_some t i way is = ap (by_way is_direct_way (calls_no_routine i)) is ∙ direct t i

pub direct_none : (t : Target) (i : Inst) → None ≡ way_of t i → calls_no_routine i ≡ is_direct t i
direct_none t i is = ap (by_way is_direct_way (calls_no_routine i)) is ∙ direct t i

pub coded_some : (t : Target) (i : Inst) (way : Way) → Some way ≡ way_of t i → is_coded_way way ≡ is_coded t i
coded_some t i way is = ap (by_way is_coded_way true) is ∙ coded t i

pub coded_none : (t : Target) (i : Inst) → None ≡ way_of t i → true ≡ is_coded t i
coded_none t i is = ap (by_way is_coded_way true) is ∙ coded t i

-- a module is built by these three answers
pub built_is : (p : SourceProgram) (a b c : Bool) → a ≡ is_rv64 p.target → b ≡ needs_no_routine p → c ≡ is_direct_module p → (a && b && c) ≡ is_built p
built_is p a b c rv direct coded = λ d. rv d && direct d && coded d

-- the second answer alone refuses
pub refused : (a b c : Bool) → b ≡ false → false ≡ (a && b && c)
refused false b c h = refl
refused true b c h = ap (λ (x : Bool). x && c) (sym h)

-- after two that don't, it is the third
pub last : (a b c : Bool) → a ≡ true → b ≡ true → c ≡ (a && b && c)
last a b c h k = λ d. sym h d && sym k d && c

-- an answer over functions, by those of the module and its target
pub asked : (p : SourceProgram) (asked : Asked) (t : Target) (functions : List Function) (b : Bool) → b ≡ list_all (λ (f : Function). list_all (λ (y : Block). list_all (meets asked t) y.insts) f.blocks) functions → t ≡ p.target → functions ≡ p.source.functions
    → b ≡ list_all (λ (f : Function). list_all (λ (y : Block). list_all (meets asked p.target) y.insts) f.blocks) p.source.functions
asked p what t functions b is target those =
    is
    ∙ (ap (λ (u : Target). list_all (λ (f : Function). list_all (λ (y : Block). list_all (meets what u) y.insts) f.blocks) functions) target
    ∙ ap (λ (fs : List Function). list_all (λ (f : Function). list_all (λ (y : Block). list_all (meets what p.target) y.insts) f.blocks) fs) those)
