-- The elements of objects.
use Rattle.std.proofs.Common.{◌≡◌, ℕ, zero, suc, ◌/◌, ◌<◌, List, [], ◌∷◌, Some, IsTrue, length, map, refl, ap, arith}
use Rattle.std.specs.Prelude.{slice_get}
use Rattle.std.proofs.Math.Nat.{div-zero}
use Rattle.ax_module.specs.declared.inst.Inst.{Inst}
use Rattle.ax_module.specs.declared.module.Global.{Global}
use Rattle.ax_module.specs.declared.module.Module.{Module}
use Rattle.ax_source_run.specs.SourcePointers.{Elements, elements_of, elements_of_alloca, elements_of_global, insts_of, is_element}
use Rattle.ax_source_run.specs.SourceState.{Shared, Private}
use Rattle.std.proofs.lemmas.Bool.Decides.{nat_tests}
use Rattle.ax_cells.specs.declared.value.Object.TheVariants as object
use Rattle.ax_cells.specs.declared.value.Pointer.{Pointer}
use Rattle.ax_cells.specs.Values.{object_of, pointer_of}
use Rattle.ax_cells.specs.Shapes.{IsCell, alloca_shapes, global_shapes, shape_in}

insts_shapes : (insts : List Inst) (r : ℕ) → shape_in (map (λ inst. elements_of_alloca (Some inst)) insts) r ≡ elements_of_alloca (slice_get insts r)
unfolding elements_of_alloca
insts_shapes [] r = refl
insts_shapes (i ∷ insts) zero = refl
insts_shapes (i ∷ insts) (suc r) = insts_shapes insts r

globals_shapes : (globals : List Global) (g : ℕ) → shape_in (map (λ global. elements_of_global (Some global)) globals) g ≡ elements_of_global (slice_get globals g)
globals_shapes [] g = refl
globals_shapes (x ∷ globals) zero = refl
globals_shapes (x ∷ globals) (suc g) = globals_shapes globals g

pub private_shape : (m : Module) (f r : ℕ) → shape_in (alloca_shapes m f) r ≡ elements_of m f (Private r)
private_shape m f r = insts_shapes (insts_of m f) r

pub shared_shape : (m : Module) (f g : ℕ) → shape_in (global_shapes m) g ≡ elements_of m f (Shared g)
shared_shape m f g = globals_shapes m.globals g

pub ruleset shapes = (private_shape, shared_shape)

-- ---- where there is an element, there is an array
counted : (shapes : List Elements) (r i : ℕ) → i < (shape_in shapes r).count → r < length shapes
counted [] r i h = absurd (omega arith)
counted (s ∷ shapes) zero i h = omega arith
counted (s ∷ shapes) (suc r) i h = let l = counted shapes r i h in omega arith

is_cell : (shapes : List Elements) (r i : ℕ) (e : Elements) → shape_in shapes r ≡ e → i < e.count → IsCell shapes r i
is_cell shapes r i e same h =
    let count : (shape_in shapes r).count ≡ e.count = ap (λ (s : Elements). s.count) same in
    let l : i < (shape_in shapes r).count = omega arith in
    record { array = counted shapes r i l; cell = l }

pub private_cell : (m : Module) (f r i : ℕ) → i < (elements_of m f (Private r)).count → IsCell (alloca_shapes m f) r i
private_cell m f r i h = is_cell (alloca_shapes m f) r i (elements_of m f (Private r)) (private_shape m f r) h

pub shared_cell : (m : Module) (f g i : ℕ) → i < (elements_of m f (Shared g)).count → IsCell (global_shapes m) g i
shared_cell m f g i h = is_cell (global_shapes m) g i (elements_of m f (Shared g)) (shared_shape m f g) h

pub private_inside : (m : Module) (f r : ℕ) (p : Pointer) → p.object ≡ object.Private r → IsTrue (is_element m f (pointer_of p)) → IsCell (alloca_shapes m f) r p.index
private_inside m f r p e h =
    let same : (elements_of m f (object_of p.object)).count ≡ (elements_of m f (Private r)).count = ap (λ o. (elements_of m f (object_of o)).count) e in
    let l : p.index < (elements_of m f (object_of p.object)).count = grind (arith, nat_tests, h) in
    private_cell m f r p.index (omega arith)

pub shared_inside : (m : Module) (f g : ℕ) (p : Pointer) → p.object ≡ object.Shared g → IsTrue (is_element m f (pointer_of p)) → IsCell (global_shapes m) g p.index
shared_inside m f g p e h =
    let same : (elements_of m f (object_of p.object)).count ≡ (elements_of m f (Shared g)).count = ap (λ o. (elements_of m f (object_of o)).count) e in
    let l : p.index < (elements_of m f (object_of p.object)).count = grind (arith, nat_tests, h) in
    shared_cell m f g p.index (omega arith)

pub by_none : (a : ℕ) → a / 0 ≡ 0
by_none a = div-zero a

pub ruleset quotients = (by_none)
