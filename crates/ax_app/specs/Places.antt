-- Places of a module as a refusal names them.
use Rattle.std.specs.Prelude.{◌≡◌, ℕ, All, List, [], ◌∷◌, ◌++◌, codes, decimal, map, slice_index_or}
use Rattle.ax_words.specs.declared.place.Place.{Place}
use Rattle.ax_words.specs.declared.place.Place.TheVariants as place
use Rattle.ax_module.specs.declared.module.Module.{Module}
use Rattle.ax_module.specs.Names.{IsAscii, global_token}
use Rattle.ax_app.specs.declared.places.Names.{Names}

abbrev pub name_at : List (List ℕ) → ℕ → List ℕ
name_at names k = slice_index_or names k []

-- a place, where the globals and the functions have these names
abbrev pub place_text : List (List ℕ) → List (List ℕ) → Place → List ℕ
place_text globals functions (place.Global g) = global_token (name_at globals g)
place_text globals functions (place.Head f) = global_token (name_at functions f) ++ codes " head"
place_text globals functions (place.Inst site) = global_token (name_at functions site.function) ++ 32 ∷ decimal site.instruction

-- a place of a module
abbrev pub place_in : Module → Place → List ℕ
place_in m p = place_text (map (λ g. g.name) m.globals) (map (λ f. f.name) m.functions) p

-- the names are the module's
pub record AreNamesOf (names : Names) (m : Module) : Type 0 where
  pub globals : names.globals.items ≡ map (λ g. g.name) m.globals
  pub functions : names.functions.items ≡ map (λ f. f.name) m.functions
  pub globals_ascii : All (λ name. IsAscii name) names.globals.items
  pub functions_ascii : All (λ name. IsAscii name) names.functions.items
