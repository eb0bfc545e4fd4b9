-- The list of a module's faults, in module order and then by number.
use Rattle.std.specs.Prelude.{◌≡◌, ℕ, true, List, [], ◌∷◌, map, Option, Some, None}
use Rattle.std.specs.List.{flat_map}
use Rattle.ax_module.specs.declared.inst.Inst.{Inst}
use Rattle.ax_module.specs.declared.module.Block.{Block}
use Rattle.ax_module.specs.declared.module.Function.{Function}
use Rattle.ax_module.specs.declared.module.Global.{Global}
use Rattle.ax_module.specs.declared.module.Module.{Module}
use Rattle.ax_target.specs.declared.target.Target.{Target}
use Rattle.ax_rules.specs.declared.rule.Rule.{Rule}
use Rattle.ax_rules.specs.declared.rule.Rule.TheVariants.{NotDefined}
use Rattle.ax_rules.specs.Points.{Point, AtGlobal, AtHead, AtInst, number_of, place_of, points, points_of_functions, points_of_globals, rules_in_order, spots_from, spots_of_block}
use Rattle.ax_access_rules.specs.RulesAtPoints.{test}
use Rattle.ax_check.specs.declared.refusal.Refusal.{Refusal}
use Rattle.ax_check.specs.Defined.{IsNotDefined}
use Rattle.ax_check.specs.First.{FirstBy, KeepsThose}

-- N10
abbrev pub HasNotDefined : Point → Type 0
HasNotDefined (AtGlobal g variable) = ⊥
HasNotDefined (AtHead k f) = ⊥
HasNotDefined (AtInst k f s) = IsNotDefined f s

-- the condition of a rule at a point
abbrev pub IsFault : Module → Target → Point → Rule → Type 0
IsFault m t p NotDefined = HasNotDefined p
IsFault m t p r = test r m t p ≡ true

abbrev pub IsFaultPair : Module → Target → Point × Rule → Type 0
IsFaultPair m t c = IsFault m t c.0 c.1

-- each point with each rule, in module order and then by number
abbrev pub pairs : List Point → List (Point × Rule)
pairs ps = flat_map (λ p. map (λ r. (p, r)) rules_in_order) ps

abbrev pub refusal_of : Point × Rule → Refusal
refusal_of c = record { number = number_of c.1; place = place_of c.0 }

-- `faults` is the module's list of faults
abbrev pub AreFaults : Module → Target → List (Point × Rule) → Type 0
AreFaults m t faults = KeepsThose (IsFaultPair m t) (pairs (points m)) faults

-- what the first of these faults is refused as
abbrev pub first_refusal : List (Point × Rule) → Option Refusal
first_refusal [] = None
first_refusal (c ∷ cs) = Some (refusal_of c)

-- the answer is the first of the module's faults, of which there is one list
pub record IsFirstOfFaults (m : Module) (t : Target) (answer : Option Refusal) : Type 0 where
  pub faults : List (Point × Rule)
  pub list : AreFaults m t faults
  pub first : answer ≡ first_refusal faults

-- the answer is the first fault of these points
abbrev pub FirstAt : Module → Target → List Point → Option Refusal → Type 0
FirstAt m t ps answer = FirstBy (IsFaultPair m t) refusal_of (pairs ps) answer

-- the rule is the first that is broken at a point
abbrev pub FirstRule : Module → Target → Point → Option Rule → Type 0
FirstRule m t p answer = FirstBy (IsFault m t p) (λ r. r) rules_in_order answer

-- of the instructions of a block of function k, of number n and on
abbrev pub FirstInBlock : Module → Target → ℕ → Function → ℕ → ℕ → List Inst → Option Refusal → Type 0
FirstInBlock m t k f b n is answer = FirstAt m t (map (λ s. AtInst k f s) (spots_of_block b n is)) answer

-- of the blocks of function k from block b and number n on
abbrev pub FirstInBlocks : Module → Target → ℕ → Function → ℕ → ℕ → List Block → Option Refusal → Type 0
FirstInBlocks m t k f b n xs answer = FirstAt m t (map (λ s. AtInst k f s) (spots_from b n xs)) answer

abbrev pub FirstInFunctions : Module → Target → ℕ → List Function → Option Refusal → Type 0
FirstInFunctions m t k fs answer = FirstAt m t (points_of_functions k fs) answer

abbrev pub FirstInGlobals : Module → Target → ℕ → List Global → Option Refusal → Type 0
FirstInGlobals m t g vs answer = FirstAt m t (points_of_globals g vs) answer

abbrev pub FirstFault : Module → Target → Option Refusal → Type 0
FirstFault m t answer = FirstAt m t (points m) answer
