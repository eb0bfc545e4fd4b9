-- The elements of an accepted module's objects have whole bytes.
use Rattle.std.proofs.Common.{◌≡◌, ℕ, zero, suc, ◌+◌, ◌*◌, false, ◌||◌, List, [], ◌∷◌, Option, Some, None, refl, sym, subst, arith, Contains, slice_get}
use Rattle.std.specs.List.{list_any}
use Rattle.std.proofs.lemmas.Bool.{or_parts}
use Rattle.std.proofs.lemmas.List.Elements.{Contains-append_left}
use Rattle.std.proofs.lemmas.Option.{none-some, same_Some}
use Rattle.ax_module.specs.declared.inst.Inst.{Inst}
use Rattle.ax_module.specs.declared.inst.Inst.TheVariants as inst
use Rattle.ax_module.specs.declared.module.Function.{Function}
use Rattle.ax_module.specs.declared.module.Global.{Global}
use Rattle.ax_module.specs.declared.module.Module.{Module}
use Rattle.ax_module.specs.declared.types.Ty.{Ty}
use Rattle.ax_module.specs.Types.{type_bytes}
use Rattle.ax_module.specs.WellFormed.{is_bit}
use Rattle.ax_source_run.specs.SourcePointers.{blocks_in, elements_of_alloca, elements_of_global}
use Rattle.ax_source_run.specs.SourceState.{Object, Shared, Private, SourceProgram}
use Rattle.ax_source_run.specs.SourceValues.{type_bits}
use Rattle.ax_rules.specs.Parts.{pointers_of, types_of}
use Rattle.ax_rules.specs.Points.{AtGlobal, Point, points_of_functions, points_of_globals}
use Rattle.ax_access_rules.specs.RulesAtPoints.{has_width}
use Rattle.ax_rules.specs.Width.{has_wide_step, is_left_out, is_odd, memory_types, width_fault}
use Rattle.ax_check.specs.Accepted.{IsAccepted}
use Rattle.ax_check.specs.Laws.{AtInstructions, AtPoints, IsSound}
use Rattle.ax_typed.specs.Typed.{elem_of}
use Rattle.ax_typed.proofs.Places.{all_insts, here, place_of, there}
use Rattle.ax_typed.proofs.Standing.{sound_at}
use Rattle.ax_typed.proofs.Types.{bits_by_bytes}

point_at : (j : ℕ) (vs : List Global) (g n : ℕ) (v : Global) → n ≡ j + g → slice_get vs g ≡ Some v → Contains (points_of_globals j vs) (AtGlobal n v)
point_at j [] g n v e h = absurd (none-some v h)
point_at j (w ∷ vs) zero n v e h =
    let same : j ≡ n = omega (arith, e) in
    let is = same_Some w v h in
    subst (λ (p : Point). Contains (points_of_globals j (w ∷ vs)) p) (λ d. AtGlobal (same d) (is d)) (here (AtGlobal j w) (points_of_globals (j + 1) vs))
point_at j (w ∷ vs) (suc g) n v e h = there (AtGlobal j w) (AtGlobal n v) (points_of_globals (j + 1) vs) (point_at (j + 1) vs g n v (omega (arith, e)) h)

abbrev HasBytes : Ty → Type 0
HasBytes t = type_bits t ≡ 8 * type_bytes t

global_bytes : (o : Option Global) → ((v : Global) → o ≡ Some v → (is_odd v.elem || is_bit v.elem) ≡ false) → HasBytes (elements_of_global o).elem
global_bytes None h = refl
global_bytes (Some v) h = let p = or_parts (is_odd v.elem) (is_bit v.elem) (h v refl) in bits_by_bytes v.elem p.0 p.1

alloca_bytes : (o : Option Inst) → ((x : Inst) → o ≡ Some x → width_fault x ≡ false) → HasBytes (elements_of_alloca o).elem
unfolding elements_of_alloca types_of memory_types
alloca_bytes (Some (inst.Alloca t count align)) h =
    let x = inst.Alloca t count align in
    let w = or_parts (list_any is_odd (types_of x) || list_any is_bit (memory_types x) || is_left_out x) (list_any has_wide_step (pointers_of x)) (h x refl) in
    let y = or_parts (list_any is_odd (types_of x)) (list_any is_bit (memory_types x)) (or_parts (list_any is_odd (types_of x) || list_any is_bit (memory_types x)) (is_left_out x) w.0).0 in
    bits_by_bytes t (or_parts (is_odd t) false y.0).0 (or_parts (is_bit t) false y.1).0
alloca_bytes _ h = refl

module _ (program : SourceProgram) (accepted : IsAccepted program) (law : AtInstructions IsSound) (widths : AtPoints (λ m t p. has_width m p ≡ false)) where
  abbrev m : Module
  m = program.source

  pub bits_are_bytes : (n : ℕ) (f : Function) → slice_get m.functions n ≡ Some f → (o : Object) → type_bits (elem_of m n o) ≡ 8 * type_bytes (elem_of m n o)
  bits_are_bytes n f at (Shared g) =
      global_bytes (slice_get m.globals g) (λ v e. widths program (AtGlobal g v) accepted (Contains-append_left (points_of_globals 0 m.globals) (points_of_functions 0 m.functions) (AtGlobal g v) (point_at 0 m.globals g g v (omega arith) e)))
  bits_are_bytes n f at (Private r) =
      subst (λ (o : Option Function). HasBytes (elements_of_alloca (slice_get (all_insts (blocks_in o)) r)).elem) (sym at)
      (alloca_bytes (slice_get (all_insts f.blocks) r) (λ x e. let p = place_of f.blocks r x e in (sound_at program accepted law n f at p.block p.index r x p.number p.inst).width))
