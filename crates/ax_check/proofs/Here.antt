-- A rule is broken at an instruction of a module exactly where it is by what the instruction can name.
use Rattle.std.proofs.Common.{◌≡◌, ℕ, true, Option, subst}
use Rattle.std.proofs.lemmas.Bool.{and_from, and_parts}
use Rattle.ax_module.specs.declared.module.Function.{Function}
use Rattle.ax_module.specs.declared.module.Module.{Module}
use Rattle.ax_target.specs.declared.target.Target.{Target}
use Rattle.ax_layout.specs.Layout.{LayoutState, layout_of}
use Rattle.ax_rules.specs.declared.facts.FunctionScope.{FunctionScope}
use Rattle.ax_rules.specs.declared.rule.Rule.{Rule}
use Rattle.ax_rules.specs.declared.rule.Rule.TheVariants.{Width, Kind, DynamicShift, UserCall, Parameter, BadOrdering, MixedWidth, AlignOverstated, PlainLocked, NotDefined, Alloca, Limit}
use Rattle.ax_rules.specs.Facts.{scope_of}
use Rattle.ax_rules.specs.Points.{AtInst, Spot, rules_in_order}
use Rattle.ax_access_rules.specs.RulesAtPoints.{are_globals_fine}
use Rattle.ax_check.specs.declared.faults.Setting.{Setting}
use Rattle.ax_check.specs.Faults.{FirstRule, IsFault}
use Rattle.ax_check.specs.First.{FirstBy}
use Rattle.ax_check.specs.Ready.{IsFaultHere, IsReady}
use Rattle.ax_check.proofs.Firsts.{first_same}

module _ (m : Module) (t : Target) (k : ℕ) (f : Function) (s : Spot) (fine : are_globals_fine m ≡ true) where
  to : (r : Rule) → IsFaultHere t (layout_of m) (scope_of m f) f s r → IsFault m t (AtInst k f s) r
  to Width h = h
  to Kind h = h
  to DynamicShift h = h
  to UserCall h = h
  to Parameter h = h
  to BadOrdering h = h
  to MixedWidth h = h
  to AlignOverstated h = and_from _ _ fine h
  to PlainLocked h = and_from _ _ fine h
  to NotDefined h = h
  to Alloca h = h
  to Limit h = h

  from : (r : Rule) → IsFault m t (AtInst k f s) r → IsFaultHere t (layout_of m) (scope_of m f) f s r
  from Width h = h
  from Kind h = h
  from DynamicShift h = h
  from UserCall h = h
  from Parameter h = h
  from BadOrdering h = h
  from MixedWidth h = h
  from AlignOverstated h = (and_parts _ _ h).1
  from PlainLocked h = (and_parts _ _ h).1
  from NotDefined h = h
  from Alloca h = h
  from Limit h = h

  pub the_first : (r : Option Rule) → FirstBy (IsFaultHere t (layout_of m) (scope_of m f) f s) (λ r. r) rules_in_order r → FirstRule m t (AtInst k f s) r
  the_first r h = first_same (IsFaultHere t (layout_of m) (scope_of m f) f s) (IsFault m t (AtInst k f s)) (λ r. r) to from rules_in_order r h

pub here : (m : Module) (t : Target) (k : ℕ) (f : Function) (s : Spot) (layout : LayoutState) (setting : Setting) (r : Option Rule) → IsReady m layout f setting → FirstBy (IsFaultHere t layout setting.scope f s) (λ r. r) rules_in_order r → FirstRule m t (AtInst k f s) r
here m t k f s layout setting r ready h =
    the_first m t k f s ready.fine r
    (subst (λ (l : LayoutState). FirstBy (IsFaultHere t l (scope_of m f) f s) (λ r. r) rules_in_order r) ready.laid
    (subst (λ (c : FunctionScope). FirstBy (IsFaultHere t layout c f s) (λ r. r) rules_in_order r) ready.scope h))
