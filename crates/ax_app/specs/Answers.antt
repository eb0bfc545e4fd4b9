-- The answers with their numbers, and the forms of words.
use Rattle.std.specs.Prelude.{ℕ, if◌then◌else◌, codes, List, [], ◌∷◌, Option, None, option_map}
use Rattle.std.specs.Str.{bytes_eq}
use Rattle.ax_target.specs.declared.target.Target.{Target}
use Rattle.ax_target.specs.Targets.{target_named}
use Rattle.ax_app.specs.declared.done.Done.{Done}
use Rattle.ax_app.specs.declared.done.Done.TheVariants as done

abbrev pub code_of : Done → ℕ
code_of done.Ok = 0
code_of done.Usage = 2
code_of done.Syntax = 3
code_of done.Refused = 4
code_of done.Schedule = 5
code_of done.TooLong = 6
code_of done.Unbuilt = 7
code_of done.ReadFault = 74
code_of done.WriteFault = 75
code_of done.Memory = 71

-- what the words ask for, on a target, with the names of the files in the order in which they are read
pub data Command : Type 0 where
  -- the assembly of a module
  Lower : Target → List ℕ → Command
  -- the assembly of a module, and the report of its run under a schedule
  Run : Target → List ℕ × List ℕ → Command
  -- the mapping table
  Map : Target → Command

abbrev pub files_of : Command → List (List ℕ)
files_of (Lower target module_name) = module_name ∷ []
files_of (Run target names) = names.0 ∷ names.1 ∷ []
files_of (Map target) = []

-- map TARGET
abbrev pub map_form : List ℕ → List ℕ → Option Command
map_form verb target = if bytes_eq verb (codes "map") then option_map Map (target_named target) else None

-- lower TARGET MODULE
abbrev pub lower_form : List ℕ → List ℕ → List ℕ → Option Command
lower_form verb target module_name = if bytes_eq verb (codes "lower") then option_map (λ t. Lower t module_name) (target_named target) else None

-- run TARGET MODULE SCHEDULE
abbrev pub run_form : List ℕ → List ℕ → List ℕ × List ℕ → Option Command
run_form verb target names = if bytes_eq verb (codes "run") then option_map (λ t. Run t names) (target_named target) else None

-- the forms of words, by their number; all other words are none
abbrev pub command_of : List (List ℕ) → Option Command
command_of (verb ∷ target ∷ []) = map_form verb target
command_of (verb ∷ target ∷ module_name ∷ []) = lower_form verb target module_name
command_of (verb ∷ target ∷ module_name ∷ schedule_name ∷ []) = run_form verb target (module_name, schedule_name)
command_of _ = None
