-- The names of a well formed module's functions are names, and differ.
use Rattle.std.proofs.Common.{◌≡◌, ℕ, Bool, true, false, List, [], ◌∷◌, ◌++◌, map, length, refl, ap, ◌∙◌}
use Rattle.std.specs.Prelude.{◌&&◌, not, nat_eq}
use Rattle.std.specs.List.{list_all, list_any}
use Rattle.std.specs.Cmp.Lexicographic.{pointwise}
use Rattle.std.proofs.lemmas.Bool.{and_parts}
use Rattle.ax_module.specs.declared.module.Function.{Function}
use Rattle.ax_module.specs.declared.module.Module.{Module}
use Rattle.ax_module.specs.Names.{is_name}
use Rattle.ax_module.specs.WellFormed.{IsModule, all_differ, is_block, is_bit, is_function, is_function_name, is_global, is_nonempty, is_type, names_of, scope_of}
use Rattle.ax_agree.specs.Sound.{are_names}

tail_differs : (xs ys : List (List ℕ)) → all_differ (xs ++ ys) ≡ true → all_differ ys ≡ true
tail_differs [] ys h = h
tail_differs (x ∷ xs) ys h = tail_differs xs ys (and_parts (not (list_any (pointwise nat_eq x) (xs ++ ys))) (all_differ (xs ++ ys)) h).1

front : (a b c d e : Bool) → (a && b && c && d && e) ≡ true → a ≡ true
front true b c d e h = refl
front false b c d e h = h

names_are : (globals : ℕ) (fs : List Function) → list_all (is_function globals) fs ≡ true → list_all is_name (map (λ f. f.name) fs) ≡ true
names_are globals [] h = refl
names_are globals (f ∷ fs) h =
    let p = and_parts (is_function globals f) (list_all (is_function globals) fs) h in
    let named : is_function_name f.name ≡ true = front (is_function_name f.name) _ _ _ _ p.0 in
    ap (λ b. b && list_all is_name (map (λ g. g.name) fs)) (and_parts (is_name f.name) _ named).0 ∙ names_are globals fs p.1

pub names_fine : (m : Module) → IsModule m → are_names (map (λ f. f.name) m.functions) ≡ true
names_fine m formed =
    let p = and_parts (all_differ (names_of m) && list_all is_global m.globals) (list_all (is_function (length m.globals)) m.functions) formed.formed in
    let q = and_parts (all_differ (names_of m)) (list_all is_global m.globals) p.0 in
    ap (λ b. b && all_differ (map (λ f. f.name) m.functions)) (names_are (length m.globals) m.functions p.1) ∙ tail_differs (map (λ g. g.name) m.globals) (map (λ f. f.name) m.functions) q.0
