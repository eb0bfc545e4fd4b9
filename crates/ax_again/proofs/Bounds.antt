-- The counts of a well formed module's functions.
use Rattle.std.proofs.Common.{◌≡◌, ℕ, ◌^◌, true, cond, ◌&&◌, List, [], ◌∷◌, length, arith}
use Rattle.std.specs.List.{list_all}
use Rattle.std.proofs.lemmas.Bool.{and_parts, ltb-true}
use Rattle.ax_module.specs.declared.module.Global.{Global}
use Rattle.ax_module.specs.declared.module.Function.{Function}
use Rattle.ax_module.specs.WellFormed.{is_type, is_bit, is_nonempty, is_block, is_function, is_function_name, scope_of, insts_of, is_count, is_function_counted}
use Rattle.ax_again.proofs.NoFaults.{Fits, FitEach}

fits : (f : Function) → is_function_counted f ≡ true → Fits f
fits f h =
    let a = and_parts (is_count (length f.params) && is_count (length f.blocks)) (is_count (length (insts_of f))) h in
    let b = and_parts (is_count (length f.params)) (is_count (length f.blocks)) a.0 in
    let params = ltb-true (length f.params) (2 ^ 32) b.0 in
    let blocks = ltb-true (length f.blocks) (2 ^ 32) b.1 in
    let insts = ltb-true (length (insts_of f)) (2 ^ 32) a.1 in
    record { params = params; insts = omega (arith, insts); blocks = omega (arith, blocks) }

pub fits_each : (text : List ℕ) (gs : List Global) (count : ℕ) (fs : List Function) → list_all (is_function count) fs ≡ true → list_all is_function_counted fs ≡ true → FitEach text gs fs
fits_each text gs count [] a h = tt
fits_each text gs count (f ∷ fs) a h =
    let c = and_parts (is_function_counted f) (list_all is_function_counted fs) h in
    let p = and_parts (is_function count f) (list_all (is_function count) fs) a in
    let result = cond f.is_void (is_bit f.result) (is_type f.result) in
    let parts = and_parts (is_function_name f.name && result && list_all is_type f.params && is_nonempty f.blocks) (list_all (is_block (scope_of count f)) f.blocks) p.0 in
    let some = and_parts (is_function_name f.name && result && list_all is_type f.params) (is_nonempty f.blocks) parts.0 in
    let params = and_parts (is_function_name f.name && result) (list_all is_type f.params) some.0 in
    let front = and_parts (is_function_name f.name) result params.0 in
    (fits f c.0, front.0, fits_each text gs count fs p.1 c.1)
