-- An accepted module can run.
use Rattle.std.proofs.Common.{◌≡◌, ℕ, zero, suc, ◌+◌, ◌≤◌, Bool, true, false, not, ◌&&◌, ◌||◌, cond, List, [], ◌∷◌, Option, Some, None, refl, sym, subst, arith, slice_get, flat_map, nat_eq, length, count_by, Contains}
use Rattle.std.specs.List.{list_all, list_any}
use Rattle.std.proofs.lemmas.Bool.{and_from, and_parts, or_parts, or_right}
use Rattle.std.proofs.lemmas.Bool.Decides.{nat_tests}
use Rattle.std.proofs.lemmas.List.Concat.{length-flat_map}
use Rattle.std.proofs.lemmas.List.Elements.{Contains-append_left, Contains-append_right}
use Rattle.std.proofs.lemmas.List.Sums.{sum_by-cons}
use Rattle.ax_module.specs.declared.inst.Inst.{Inst}
use Rattle.ax_module.specs.declared.module.Block.{Block}
use Rattle.ax_module.specs.declared.module.Function.{Function}
use Rattle.ax_module.specs.declared.module.Global.{Global}
use Rattle.ax_module.specs.declared.operand.Operand.{Operand}
use Rattle.ax_module.specs.Kinds as kinds
use Rattle.ax_module.specs.WellFormed.{all_differ, is_bit, is_constant, is_function, is_global, is_global_name, is_init, is_type, is_zero, names_of}
use Rattle.ax_layout.specs.Layout.{CanBeLaidOut}
use Rattle.ax_source_run.specs.SourceInstructions.{insts_of_block, is_phi, phi_count}
use Rattle.ax_source_run.specs.SourcePointers.{blocks_in, blocks_of}
use Rattle.ax_source_run.specs.SourceState.{SourceProgram}
use Rattle.ax_rules.specs.Facts.{scope_of}
use Rattle.ax_rules.specs.Kind.{is_bad_gep, is_bad_pointer, is_other}
use Rattle.ax_rules.specs.Limits.{has_many_phis, instruction_count}
use Rattle.ax_rules.specs.Parts.{pointers_of, types_of}
use Rattle.ax_rules.specs.Points.{AtGlobal, Point, Spot, points_of_functions, points_of_globals, spots_from, spots_of_block}
use Rattle.ax_access_rules.specs.RulesAtPoints.{has_width}
use Rattle.ax_rules.specs.Width.{has_wide_step, is_left_out, is_odd, memory_types}
use Rattle.ax_check.specs.Accepted.{IsAccepted}
use Rattle.ax_check.specs.Laws.{AtInstructions, AtPoints, IsSound, IsSoundHead}
use Rattle.ax_source.specs.Runnable.{IsRunnable, is_narrow_inst}
use Rattle.ax_cells.specs.Narrow.{is_narrow_global}
use Rattle.ax_source.proofs.Typed.{narrow_inst, narrow_type}

here : {X : Type 0} (x : X) (xs : List X) → Contains (x ∷ xs) x
here x xs = (0, omega arith, refl)

there : {X : Type 0} (x y : X) (xs : List X) → Contains xs y → Contains (x ∷ xs) y
there x y xs h = Contains-append_right (x ∷ []) xs y h

-- ---- instructions
sound_inst : (program : SourceProgram) (f : Function) (s : Spot) → IsSound program f s → is_narrow_inst s.inst ≡ true
sound_inst program f s h =
    let i = s.inst in
    let scope = scope_of program.source f in
    let w = or_parts (list_any is_odd (types_of i) || list_any is_bit (memory_types i) || is_left_out i) (list_any has_wide_step (pointers_of i)) h.width in
    let x = or_parts (list_any is_odd (types_of i) || list_any is_bit (memory_types i)) (is_left_out i) w.0 in
    let k = or_parts (list_any is_other (types_of i) || is_bad_gep scope i) (list_any (is_bad_pointer scope) (pointers_of i)) h.kind in
    narrow_inst i (or_parts (list_any is_odd (types_of i)) (list_any is_bit (memory_types i)) x.0).0 (or_parts (list_any is_other (types_of i)) (is_bad_gep scope i) k.0).0 h.call

insts_narrow : (b n : ℕ) (insts : List Inst) → ((s : Spot) → Contains (spots_of_block b n insts) s → is_narrow_inst s.inst ≡ true) → list_all is_narrow_inst insts ≡ true
insts_narrow b n [] h = refl
insts_narrow b n (i ∷ insts) h =
    let s : Spot = record { block = b; number = n; inst = i } in
    let more = spots_of_block b (n + 1) insts in
    and_from _ _ (h s (here s more)) (insts_narrow b (n + 1) insts (λ t c. h t (there s t more c)))

abbrev is_narrow_block : Block → Bool
is_narrow_block block = list_all is_narrow_inst block.insts

abbrev is_narrow_function : Function → Bool
is_narrow_function f = list_all is_narrow_block f.blocks

blocks_narrow : (b n : ℕ) (blocks : List Block) → ((s : Spot) → Contains (spots_from b n blocks) s → is_narrow_inst s.inst ≡ true) → list_all is_narrow_block blocks ≡ true
blocks_narrow b n [] h = refl
blocks_narrow b n (x ∷ blocks) h =
    let first = spots_of_block b n x.insts in
    let more = spots_from (b + 1) (n + length x.insts) blocks in
    and_from _ _ (insts_narrow b n x.insts (λ s c. h s (Contains-append_left first more s c)))
    (blocks_narrow (b + 1) (n + length x.insts) blocks (λ s c. h s (Contains-append_right first more s c)))

all_from : {X : Type 0} (p : X → Bool) (xs : List X) → ((k : ℕ) (x : X) → slice_get xs k ≡ Some x → p x ≡ true) → list_all p xs ≡ true
all_from p [] h = refl
all_from p (x ∷ xs) h = and_from _ _ (h 0 x refl) (all_from p xs (λ k y e. h (suc k) y e))

-- ---- globals
init_narrow : (count : ℕ) (init : List Operand) → is_init count init ≡ true → (nat_eq (length init) 0 || nat_eq (length init) count) ≡ true
init_narrow count [] h = refl
init_narrow count (x ∷ xs) h =
    let init = x ∷ xs in
    or_right _ _ (and_parts (nat_eq (length init) count) (list_all is_constant init) (and_parts (nat_eq (length init) count && list_all is_constant init) (not (list_all is_zero init)) h).0).0

global_narrow : (v : Global) → is_global v ≡ true → (is_odd v.elem || is_bit v.elem) ≡ false → is_narrow_global v ≡ true
global_narrow v g h =
    let init = (and_parts (is_global_name v.name && is_type v.elem) (is_init v.count v.init) g).1 in
    and_from _ _ (narrow_type v.elem (or_parts (is_odd v.elem) (is_bit v.elem) h).0) (init_narrow v.count v.init init)

globals_narrow : (program : SourceProgram) (g : ℕ) (vs : List Global) → list_all is_global vs ≡ true → ((p : Point) → Contains (points_of_globals g vs) p → has_width program.source p ≡ false) → list_all is_narrow_global vs ≡ true
globals_narrow program g [] formed h = refl
globals_narrow program g (v ∷ vs) formed h =
    let p : Point = AtGlobal g v in
    let more = points_of_globals (g + 1) vs in
    let parts = and_parts (is_global v) (list_all is_global vs) formed in
    and_from _ _ (global_narrow v parts.0 (h p (here p more))) (globals_narrow program (g + 1) vs parts.1 (λ q c. h q (there p q more c)))

-- ---- counts
few_in : (o : Option Function) → ((f : Function) → o ≡ Some f → instruction_count f ≤ 2048) → length (flat_map (λ (block : Block). block.insts) (blocks_in o)) ≤ 2048
few_in None h = omega arith
few_in (Some f) h = subst (λ n. n ≤ 2048) (sym (length-flat_map (λ (block : Block). block.insts) f.blocks)) (h f refl)

same_phi : (i : Inst) → is_phi i ≡ kinds.is_phi i
unfolding is_phi kinds.is_phi
same_phi _ = refl

abbrev phi_or_not : Inst → ℕ
phi_or_not i = cond (kinds.is_phi i) 1 0

leading : (b c : Bool) (n m : ℕ) → b ≡ c → n ≤ m → cond b (n + 1) 0 ≤ cond c 1 0 + m
leading true true n m e h = omega arith
leading false c n m e h = omega arith
leading true false n m e h = cc

phis_are_counted : (insts : List Inst) → phi_count insts ≤ count_by kinds.is_phi insts
phis_are_counted [] = omega arith
phis_are_counted (i ∷ insts) =
    subst (λ n. phi_count (i ∷ insts) ≤ n) (sym (sum_by-cons phi_or_not i insts))
    (leading (is_phi i) (kinds.is_phi i) (phi_count insts) (count_by kinds.is_phi insts) (same_phi i) (phis_are_counted insts))

few_phis : (block : Block) → has_many_phis block ≡ false → phi_count block.insts ≤ 64
few_phis block h = let a = phis_are_counted block.insts in grind (arith, nat_tests)

phis_in : (blocks : List Block) (b : ℕ) → list_any has_many_phis blocks ≡ false → phi_count (insts_of_block blocks b) ≤ 64
phis_in [] b h = omega arith
phis_in (x ∷ blocks) zero h = few_phis x (or_parts (has_many_phis x) (list_any has_many_phis blocks) h).0
phis_in (x ∷ blocks) (suc b) h = phis_in blocks b (or_parts (has_many_phis x) (list_any has_many_phis blocks) h).1

few_phis_in : (o : Option Function) → ((f : Function) → o ≡ Some f → list_any has_many_phis f.blocks ≡ false) → list_any has_many_phis (blocks_in o) ≡ false
few_phis_in None h = refl
few_phis_in (Some f) h = h f refl

abbrev HeadLaw : Type 0
HeadLaw = (program : SourceProgram) (k : ℕ) (f : Function) → IsAccepted program → slice_get program.source.functions k ≡ Some f → IsSoundHead k f

pub runnable : AtPoints (λ m t p. has_width m p ≡ false) → AtInstructions IsSound → ((program : SourceProgram) → IsAccepted program → CanBeLaidOut program.source) → HeadLaw → (program : SourceProgram) → IsAccepted program → IsRunnable program
runnable width sound laid heads program a =
    let m = program.source in
    let first = points_of_globals 0 m.globals in
    let formed = and_parts (all_differ (names_of m)) (list_all is_global m.globals) (and_parts (all_differ (names_of m) && list_all is_global m.globals) (list_all (is_function (length m.globals)) m.functions) a.formed.formed).0 in
    record {
      narrow = and_from _ _
          (globals_narrow program 0 m.globals formed.1 (λ p c. width program p a (Contains-append_left first (points_of_functions 0 m.functions) p c)))
          (all_from is_narrow_function m.functions (λ k f e. blocks_narrow 0 0 f.blocks (λ s c. sound_inst program f s (sound program k f s a e c))));
      few = λ k. few_in (slice_get m.functions k) (λ f e. (heads program k f a e).instructions);
      phis = λ k b. phis_in (blocks_of m k) b (few_phis_in (slice_get m.functions k) (λ f e. (heads program k f a e).phis));
      limits = laid program a;
      layout = a.layout;
    }
