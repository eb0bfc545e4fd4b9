-- Where a fault can stand, and the rules with their numbers.
use Rattle.std.specs.Prelude.{ℕ, ◌+◌, Bool, true, false, List, [], ◌∷◌, ◌++◌, map, length}
use Rattle.ax_module.specs.declared.inst.Inst.{Inst}
use Rattle.ax_module.specs.declared.module.Block.{Block}
use Rattle.ax_module.specs.declared.module.Function.{Function}
use Rattle.ax_module.specs.declared.module.Global.{Global}
use Rattle.ax_module.specs.declared.module.Module.{Module}
use Rattle.ax_module.specs.declared.types.Ty.{Ty}
use Rattle.ax_words.specs.declared.place.Place.{Place}
use Rattle.ax_words.specs.declared.place.Place.TheVariants as place
use Rattle.ax_rules.specs.declared.rule.Rule.{Rule}
use Rattle.ax_rules.specs.declared.rule.Rule.TheVariants.{Width, Kind, DynamicShift, UserCall, Parameter, BadOrdering, MixedWidth, AlignOverstated, PlainLocked, NotDefined, Alloca, Limit}

-- an instruction with its block and its number in the function
pub record Spot : Type 0 where
  pub block : ℕ
  pub number : ℕ
  pub inst : Inst

-- the instructions of block b, from number n on
abbrev pub spots_of_block : ℕ → ℕ → List Inst → List Spot
spots_of_block b n [] = []
spots_of_block b n (i ∷ is) = record { block = b; number = n; inst = i } ∷ spots_of_block b (n + 1) is

-- the instructions of blocks, from block b and number n on
abbrev pub spots_from : ℕ → ℕ → List Block → List Spot
spots_from b n [] = []
spots_from b n (x ∷ xs) = spots_of_block b n x.insts ++ spots_from (b + 1) (n + length x.insts) xs

-- the instructions of a function, in order
abbrev pub spots : Function → List Spot
spots f = spots_from 0 0 f.blocks

-- where a fault can stand: at a global, at the head of a function, or at an instruction of one
pub data Point : Type 0 where
  AtGlobal : ℕ → Global → Point
  AtHead : ℕ → Function → Point
  AtInst : ℕ → Function → Spot → Point

abbrev pub place_of : Point → Place
place_of (AtGlobal g variable) = place.Global g
place_of (AtHead k f) = place.Head k
place_of (AtInst k f s) = place.Inst (record { function = k; instruction = s.number })

abbrev pub points_of_globals : ℕ → List Global → List Point
points_of_globals g [] = []
points_of_globals g (variable ∷ variables) = AtGlobal g variable ∷ points_of_globals (g + 1) variables

-- a function's head, and then its instructions in order
abbrev pub points_of_function : ℕ → Function → List Point
points_of_function k f = AtHead k f ∷ map (λ s. AtInst k f s) (spots f)

abbrev pub points_of_functions : ℕ → List Function → List Point
points_of_functions k [] = []
points_of_functions k (f ∷ fs) = points_of_function k f ++ points_of_functions (k + 1) fs

-- all points of a module, in module order: the globals, and then the functions
abbrev pub points : Module → List Point
points m = points_of_globals 0 m.globals ++ points_of_functions 0 m.functions

abbrev pub number_of : Rule → ℕ
number_of Width = 1
number_of Kind = 2
number_of DynamicShift = 3
number_of UserCall = 4
number_of Parameter = 5
number_of BadOrdering = 6
number_of MixedWidth = 7
number_of AlignOverstated = 8
number_of PlainLocked = 9
number_of NotDefined = 10
number_of Alloca = 11
number_of Limit = 12

-- the rules by their numbers
abbrev pub rules_in_order : List Rule
rules_in_order = Width ∷ Kind ∷ DynamicShift ∷ UserCall ∷ Parameter ∷ BadOrdering ∷ MixedWidth ∷ AlignOverstated ∷ PlainLocked ∷ NotDefined ∷ Alloca ∷ Limit ∷ []

-- the types of a function's signature
abbrev pub signature_of : Function → List Ty
signature_of f = f.result ∷ f.params

abbrev pub is_empty : List Ty → Bool
is_empty [] = true
is_empty (t ∷ ts) = false
