-- What is looked up by the numbers of globals and of instructions.
use Rattle.std.proofs.Common.{◌≡◌, ℕ, zero, suc, ◌+◌, List, [], ◌∷◌, map, Option, Some, None, refl, sym, ap, ◌∙◌, arith, slice_get, slice_index_or, flat_map}
use Rattle.ax_module.specs.declared.inst.Inst.{Inst}
use Rattle.ax_module.specs.declared.inst.Inst.TheVariants as inst
use Rattle.ax_module.specs.declared.module.Block.{Block}
use Rattle.ax_module.specs.declared.module.Function.{Function}
use Rattle.ax_module.specs.declared.module.Global.{Global}
use Rattle.ax_module.specs.declared.module.Module.{Module}
use Rattle.ax_rules.specs.declared.facts.Outcome.{Outcome}
use Rattle.ax_rules.specs.Facts.{extent_of_global, outcome_of}
use Rattle.ax_source_run.specs.SourcePointers.{blocks_in, elements_of, elements_of_alloca, elements_of_global, insts_of, no_elements}
use Rattle.ax_source_run.specs.SourceState.{Private}
use Rattle.ax_typed.proofs.Places.{all_insts}
use Rattle.ax_typed.specs.Typed.{outcome_if, outcome_in}
use Rattle.ax_selected.specs.Addresses.{offset_in, rounded_bytes}
use Rattle.ax_reach.specs.Facts.{extent_of}
use Rattle.ax_reach.specs.Frames.{bytes_in, elements_in, frame_bytes, offsets_from}

pub globals_extents : (globals : List Global) (g : ℕ) → slice_index_or (map extent_of_global globals) g (extent_of no_elements) ≡ extent_of (elements_of_global (slice_get globals g))
globals_extents [] g = refl
globals_extents (x ∷ globals) zero = refl
globals_extents (x ∷ globals) (suc g) = globals_extents globals g

-- ---- allocas
same_elements : (x : Inst) → elements_of_alloca (Some x) ≡ elements_in (outcome_of x)
unfolding elements_of_alloca outcome_of
same_elements (inst.Call (Some t) name args) = refl
same_elements (inst.Call None name args) = refl
same_elements _ = refl

elements_if : (o : Option Inst) → elements_of_alloca o ≡ elements_in (outcome_if o)
unfolding elements_of_alloca
elements_if None = refl
elements_if (Some x) = same_elements x

pub private_elements : (m : Module) (f r : ℕ) → elements_in (outcome_in m f r) ≡ elements_of m f (Private r)
private_elements m f r = sym (elements_if (slice_get (insts_of m f) r))

-- ---- the frame
abbrev outcomes : List Inst → List Outcome
outcomes insts = map outcome_of insts

offsets_are : (insts : List Inst) (n r : ℕ) → slice_index_or (offsets_from n (outcomes insts)) r (n + frame_bytes (outcomes insts)) ≡ n + offset_in insts r
offsets_are [] n r = refl
offsets_are (x ∷ insts) n zero = omega arith
offsets_are (x ∷ insts) n (suc r) =
    let b = bytes_in (outcome_of x) in
    let same : rounded_bytes (elements_of_alloca (Some x)) ≡ b = ap rounded_bytes (same_elements x) in
    let past : n + (b + frame_bytes (outcomes insts)) ≡ n + b + frame_bytes (outcomes insts) = omega arith in
    let behind : n + b + offset_in insts r ≡ n + (rounded_bytes (elements_of_alloca (Some x)) + offset_in insts r) = omega (arith, same) in
    ap (λ (d : ℕ). slice_index_or (offsets_from (n + b) (outcomes insts)) r d) past ∙ (offsets_are insts (n + b) r ∙ behind)

pub offsets_from_first : (insts : List Inst) (r : ℕ) → slice_index_or (offsets_from 0 (outcomes insts)) r (frame_bytes (outcomes insts)) ≡ offset_in insts r
offsets_from_first insts r =
    let past : frame_bytes (outcomes insts) ≡ 0 + frame_bytes (outcomes insts) = omega arith in
    let behind : 0 + offset_in insts r ≡ offset_in insts r = omega arith in
    ap (λ (d : ℕ). slice_index_or (offsets_from 0 (outcomes insts)) r d) past ∙ (offsets_are insts 0 r ∙ behind)

-- the number behind the last instruction's
abbrev pub past_all : List Inst → ℕ
past_all [] = 0
past_all (x ∷ insts) = suc (past_all insts)

pub offset_past_all : (insts : List Inst) → offset_in insts (past_all insts) ≡ frame_bytes (outcomes insts)
offset_past_all [] = refl
offset_past_all (x ∷ insts) =
    let same : rounded_bytes (elements_of_alloca (Some x)) ≡ bytes_in (outcome_of x) = ap rounded_bytes (same_elements x) in
    ap (λ (n : ℕ). n + offset_in insts (past_all insts)) same ∙ ap (λ (n : ℕ). bytes_in (outcome_of x) + n) (offset_past_all insts)

-- the instructions of a function by its number
pub insts_are : (m : Module) (n : ℕ) (f : Function) → slice_get m.functions n ≡ Some f → insts_of m n ≡ all_insts f.blocks
insts_are m n f at = ap (λ (o : Option Function). flat_map (λ (block : Block). block.insts) (blocks_in o)) at
