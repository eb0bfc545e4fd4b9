-- What a machine starts with.
use Rattle.std.proofs.Common.{◌≡◌, ℕ, zero, suc, ◌+◌, ◌<◌, true, ◌||◌, List, [], ◌∷◌, ◌++◌, Some, IsTrue, length, map, drop, replicate, refl, sym, ap, ◌∙◌, ⊎_elim, arith}
use Rattle.std.specs.Prelude.{slice_get, slice_index, slice_index_or, nat_eq}
use Rattle.std.specs.List.{flat_map, list_all}
use Rattle.std.proofs.lemmas.Bool.{and_parts, cases_lt}
use Rattle.std.proofs.lemmas.Bool.Decides.{nat_tests}
use Rattle.std.proofs.lemmas.Grind.{common_steps}
use Rattle.std.proofs.lemmas.List.{get_or-replicate, length-replicate, length-map}
use Rattle.ax_module.specs.declared.inst.Inst.{Inst}
use Rattle.ax_module.specs.declared.module.Block.{Block}
use Rattle.ax_module.specs.declared.module.Global.{Global}
use Rattle.ax_module.specs.declared.module.Module.{Module}
use Rattle.ax_module.specs.declared.operand.Operand.{Operand}
use Rattle.ax_module.specs.declared.types.Ty.{Ty}
use Rattle.ax_source_run.specs.SourcePointers.{elements_of_alloca, elements_of_global}
use Rattle.ax_source_run.specs.SourceRun.{constant_of, constants_of, first_numbers}
use Rattle.ax_source_run.specs.SourceState.{Number}
use Rattle.ax_source_run.specs.SourceValues.{operand_of}
use Rattle.ax_cells.specs.Memories.{initial_array, initial_cells, starts_from, zeros_of}
use Rattle.ax_cells.specs.Narrow.{is_narrow, is_narrow_global}
use Rattle.ax_cells.specs.Shapes.{cells_of, shapes_of}

pub no_number : (n k : ℕ) → slice_index (replicate n 0) k ≡ 0
no_number n k = ⊎_elim (λ h. get_or-replicate n k 0 0 h) (λ h. grind (arith, common_steps)) (cases_lt k n)

-- ---- allocas
pub zeros_shapes : (insts : List Inst) → shapes_of (map zeros_of insts) ≡ map (λ inst. elements_of_alloca (Some inst)) insts
zeros_shapes [] = refl
zeros_shapes (i ∷ insts) =
    let e = elements_of_alloca (Some i) in
    let size : length (replicate e.count 0) ≡ e.count = length-replicate e.count 0 in
    (λ d. record { elem = e.elem; count = size d } ∷ zeros_shapes insts d)

zeros_at : (insts : List Inst) (r i : ℕ) → cells_of (map zeros_of insts) r i ≡ 0
zeros_at [] r i = refl
zeros_at (x ∷ insts) zero i = no_number (elements_of_alloca (Some x)).count i
zeros_at (x ∷ insts) (suc r) i = zeros_at insts r i

pub zeros_cells : (insts : List Inst) → cells_of (map zeros_of insts) ≡ (λ r i. 0)
zeros_cells insts = λ d r i. zeros_at insts r i d

-- ---- globals
constants_at : (elem : Ty) (init : List Operand) (i : ℕ) → slice_index (map (λ v. operand_of elem v (λ k. Number 0)) init) i ≡ constant_of elem (slice_get init i)
constants_at elem [] i = refl
constants_at elem (v ∷ init) zero = refl
constants_at elem (v ∷ init) (suc i) = constants_at elem init i

cells_at : (elem : Ty) (count : ℕ) (init : List Operand) (i : ℕ) → slice_index (initial_cells elem count init) i ≡ constant_of elem (slice_get init i)
cells_at elem count [] i = no_number count i
cells_at elem count (v ∷ init) i = constants_at elem (v ∷ init) i

initial_at : (globals : List Global) (g i : ℕ) → cells_of (map initial_array globals) g i ≡ constants_of (slice_get globals g) i
initial_at [] g i = refl
initial_at (x ∷ globals) zero i = cells_at x.elem x.count x.init i
initial_at (x ∷ globals) (suc g) i = initial_at globals g i

pub initial_numbers : (m : Module) → cells_of (map initial_array m.globals) ≡ first_numbers m
initial_numbers m = λ d g i. initial_at m.globals g i d

size_if : (init : List Operand) (elem : Ty) (count : ℕ) → (nat_eq (length init) 0 || nat_eq (length init) count) ≡ true → length (initial_cells elem count init) ≡ count
size_if [] elem count h = length-replicate count 0
size_if (v ∷ init) elem count h =
    let e : length (v ∷ init) ≡ count = grind (arith, nat_tests) in
    length-map (v ∷ init) (λ v. operand_of elem v (λ k. Number 0)) ∙ e

pub initial_shapes : (globals : List Global) → IsTrue (list_all is_narrow_global globals) → shapes_of (map initial_array globals) ≡ map (λ global. elements_of_global (Some global)) globals
initial_shapes [] h = refl
initial_shapes (x ∷ globals) h =
    let parts = and_parts (is_narrow_global x) (list_all is_narrow_global globals) h in
    let size = size_if x.init x.elem x.count (and_parts (is_narrow x.elem) _ parts.0).1 in
    (λ d. record { elem = x.elem; count = size d } ∷ initial_shapes globals parts.1 d)

pub global_narrow_at : (globals : List Global) (k : ℕ) (x : Global) → IsTrue (list_all is_narrow_global globals) → k < length globals → x ≡ slice_index_or globals k x → IsTrue (is_narrow x.elem)
global_narrow_at [] k x h l is = absurd (omega arith)
global_narrow_at (y ∷ globals) zero x h l is = ap (λ (z : Global). is_narrow z.elem) is ∙ (and_parts (is_narrow y.elem) _ (and_parts (is_narrow_global y) (list_all is_narrow_global globals) h).0).0
global_narrow_at (y ∷ globals) (suc k) x h l is = global_narrow_at globals k x (and_parts (is_narrow_global y) (list_all is_narrow_global globals) h).1 (omega arith) is

pub ruleset globals = (global_narrow_at)

-- ---- blocks
abbrev insts : List Block → List Inst
insts blocks = flat_map (λ (block : Block). block.insts) blocks

drop_next : (blocks : List Block) (k j : ℕ) (b : Block) → j ≡ k + 1 → k < length blocks → b ≡ slice_index_or blocks k b → drop k blocks ≡ b ∷ drop j blocks
drop_next [] k j b e h is = absurd (omega arith)
drop_next (x ∷ blocks) zero j b e h is = let f : j ≡ suc zero = omega arith in rw f (ap (λ y. y ∷ blocks) (sym is))
drop_next (x ∷ blocks) (suc k) zero b e h is = absurd (omega arith)
drop_next (x ∷ blocks) (suc k) (suc j) b e h is = drop_next blocks k j b (omega arith) (omega arith) is

pub starts_next : (n m : ℕ) (blocks : List Block) (k j : ℕ) (b : Block) → j ≡ k + 1 → k < length blocks → b ≡ slice_index_or blocks k b → m ≡ n + length b.insts → starts_from n (drop k blocks) ≡ n ∷ starts_from m (drop j blocks)
starts_next n m blocks k j b e h is f = ap (starts_from n) (drop_next blocks k j b e h is) ∙ ap (λ x. n ∷ starts_from x (drop j blocks)) (sym f)

joined : (xs ys : List Inst) → length (xs ++ ys) ≡ length xs + length ys
joined xs ys = grind (arith, common_steps)

pub count_next : (blocks : List Block) (k j : ℕ) (b : Block) → j ≡ k + 1 → k < length blocks → b ≡ slice_index_or blocks k b → length (insts (drop k blocks)) ≡ length b.insts + length (insts (drop j blocks))
count_next blocks k j b e h is = ap (λ bs. length (insts bs)) (drop_next blocks k j b e h is) ∙ joined b.insts (insts (drop j blocks))

map_joined : (xs ys : List Inst) → map zeros_of (xs ++ ys) ≡ map zeros_of xs ++ map zeros_of ys
map_joined [] ys = refl
map_joined (x ∷ xs) ys = ap (λ zs. zeros_of x ∷ zs) (map_joined xs ys)

pub arrays_next : (blocks : List Block) (k j : ℕ) (b : Block) → j ≡ k + 1 → k < length blocks → b ≡ slice_index_or blocks k b → map zeros_of (insts (drop k blocks)) ≡ map zeros_of b.insts ++ map zeros_of (insts (drop j blocks))
arrays_next blocks k j b e h is = ap (λ bs. map zeros_of (insts bs)) (drop_next blocks k j b e h is) ∙ map_joined b.insts (insts (drop j blocks))

pub none_left : (blocks : List Block) (k : ℕ) → length blocks ≡ k → drop k blocks ≡ []
none_left [] zero h = refl
none_left [] (suc k) h = refl
none_left (x ∷ blocks) zero h = absurd (omega arith)
none_left (x ∷ blocks) (suc k) h = none_left blocks k (omega arith)

pub ruleset blocks = (starts_next, count_next, arrays_next, none_left)
