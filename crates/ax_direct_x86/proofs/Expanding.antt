-- Each access and each atomic operation of such a module has an expansion.
use Rattle.std.proofs.Common.{◌≡◌, ℕ, Bool, true, false, List, [], ◌∷◌, Some, refl, sym, ap, subst, arith, slice_get}
use Rattle.std.specs.Prelude.{◌&&◌, ◌||◌, find, if◌then◌else◌, nat_eq, nat_le, not, option_map, unwrap_or}
use Rattle.std.specs.List.{list_all, list_any}
use Rattle.std.proofs.lemmas.Bool.{and_parts, false≢true}
use Rattle.ax_words.specs.declared.mark.Op.{Op}
use Rattle.ax_words.specs.declared.mark.Op.TheVariants as op
use Rattle.ax_words.specs.declared.order.Order.{Order}
use Rattle.ax_words.specs.declared.width.Width.{Width}
use Rattle.ax_words.specs.declared.width.Width.TheVariants.{W8, W16, W32, W64, W128}
use Rattle.ax_words.specs.Width.{bytes_of}
use Rattle.ax_source_run.specs.SourceState.{SourceProgram}
use Rattle.ax_target.specs.declared.target.Target.{Target}
use Rattle.ax_target.specs.declared.target.Target.TheVariants.{Arm, Rv, X86}
use Rattle.ax_target.specs.declared.decision.Way.{Way}
use Rattle.ax_target.specs.declared.decision.Way.TheVariants.{Generic, Inline, Sized}
use Rattle.ax_target.specs.Decisions.{Decision, decided, decisions, fits, is_native, is_x86, native_way, number_of}
use Rattle.ax_check.specs.Accepted.{IsAccepted}
use Rattle.ax_mid.specs.declared.code.Line.{Line}
use Rattle.ax_mid.specs.declared.instruction.MidInst.{MidInst}
use Rattle.ax_mid.specs.declared.instruction.MidInst.TheVariants as mid
use Rattle.ax_mid.specs.declared.registers.Virtual.{Virtual}
use Rattle.ax_mid.specs.Machine.{is_wide}
use Rattle.ax_mid.specs.WellFormed.{is_direct_way}
use Rattle.ax_expand.specs.Shared.{Shared}
use Rattle.ax_fine.specs.Fine.{Program}
use Rattle.ax_fine.specs.OnBytes.{atomic_doing, load_doing, store_doing}
use Rattle.ax_emit.specs.Touches.{IsSize}
use Rattle.ax_emit_x86.specs.Code.{load_in, store_in}
use Rattle.ax_emit_x86.specs.Laws.{Accessed, Expanded}
use Rattle.ax_cas.specs.Codes.{is_coded_way}
use Rattle.ax_cas.specs.Laws.{PlainAccessesAreExpanded, X86CodeIsExpanded, over_bytes}
use Rattle.ax_selected.specs.Direct.{needs_no_routine}
use Rattle.ax_selected.specs.Formed.{SelectedLinesAreSmall}
use Rattle.ax_selected.specs.Operations.{Operation, SelectedOperationsAreAtSites, operation_in}
use Rattle.ax_selected.specs.Selected.{selected}
use Rattle.ax_image.specs.Lowering.{asks_words}
use Rattle.ax_image.proofs.Words.{HasWords, has_words}
use Rattle.ax_image_x86.specs.Image.{AreExpanded, x86_program}
use Rattle.ax_direct_x86.specs.Direct.{DirectX86ModuleIsExpanded, direct_expansions, direct_steps}

operation_is : (i : MidInst Virtual) (o : Op) (width : Width) (order : Order) (weak : Bool) (address : Virtual) (args results : List Virtual) → i ≡ mid.Atomic o width order weak address args results → operation_in i ≡ Some (record { op = o; width = width; order = order; weak = weak })
unfolding operation_in
operation_is i o width order weak address args results is = ap operation_in is

-- ---- a way that calls no routine has code
abbrev HaveCode : (Decision → Bool) → List Decision → Type 0
HaveCode fit [] = Unit {0}
HaveCode fit (line ∷ lines) = (fit line ≡ true → is_coded_way line.way ≡ true) × HaveCode fit lines

abbrev way_found : (Decision → Bool) → List Decision → Way
way_found fit lines = unwrap_or (option_map (λ line. line.way) (find fit lines)) Inline

found_by : (fit : Decision → Bool) (line : Decision) (lines : List Decision) (b : Bool) → (b ≡ true → is_coded_way line.way ≡ true) → is_coded_way (way_found fit lines) ≡ true → is_coded_way (unwrap_or (option_map (λ line. line.way) (if b then Some line else find fit lines)) Inline) ≡ true
found_by fit line lines true h rest = h refl
found_by fit line lines false h rest = rest

found_coded : (fit : Decision → Bool) (lines : List Decision) → HaveCode fit lines → is_coded_way (way_found fit lines) ≡ true
found_coded fit [] h = refl
found_coded fit (line ∷ lines) h = found_by fit line lines (fit line) h.0 (found_coded fit lines h.1)

-- it is x86-64's, and so one of the lines with code
of_target : (target : Target) (o : Op) (n : ℕ) (lines : List Decision) → list_all (λ line. is_coded_way line.way || not (line.targets target)) lines ≡ true → HaveCode (fits target o n) lines
of_target target o n [] h = tt
of_target target o n (line ∷ lines) h =
    let parts = and_parts (is_coded_way line.way || not (line.targets target)) (list_all (λ line. is_coded_way line.way || not (line.targets target)) lines) h in
    let asked = list_any (λ p. nat_eq (number_of p) (number_of o)) line.operations in
    let sized = list_any (nat_eq n) line.sizes in
    (λ is. either (is_coded_way line.way) (line.targets target) parts.0 (and_parts (line.targets target) asked (and_parts (line.targets target && asked) sized is).0).0, of_target target o n lines parts.1)
  where
    either : (a b : Bool) → (a || not b) ≡ true → b ≡ true → a ≡ true
    either true b h e = refl
    either false true h e = h
    either false false h e = e

native_coded : (cx16 : Bool) (o : Op) (n : ℕ) → is_coded_way (native_way (X86 cx16) o n) ≡ true
native_coded cx16 o n = found_coded (fits (X86 cx16) o n) decisions (of_target (X86 cx16) o n decisions refl)

way_if : (a b : Bool) (w : Way) → is_coded_way w ≡ true → is_direct_way (if a then w else if b then Sized else Generic) ≡ true → is_coded_way (if a then w else if b then Sized else Generic) ≡ true
way_if true b w c h = c
way_if false true w c h = h
way_if false false w c h = h

way_coded : (cx16 : Bool) (o : Op) (width : Width) (align : ℕ) → is_direct_way (decided (X86 cx16) o width align) ≡ true → is_coded_way (decided (X86 cx16) o width align) ≡ true
way_coded cx16 op.Fence width align h = refl
way_coded cx16 op.Load width align h = way_if (is_native (X86 cx16) (bytes_of width) align) (nat_le (bytes_of width) align) (native_way (X86 cx16) op.Load (bytes_of width)) (native_coded cx16 op.Load (bytes_of width)) h
way_coded cx16 op.Store width align h = way_if (is_native (X86 cx16) (bytes_of width) align) (nat_le (bytes_of width) align) (native_way (X86 cx16) op.Store (bytes_of width)) (native_coded cx16 op.Store (bytes_of width)) h
way_coded cx16 op.Cmpxchg width align h = way_if (is_native (X86 cx16) (bytes_of width) align) (nat_le (bytes_of width) align) (native_way (X86 cx16) op.Cmpxchg (bytes_of width)) (native_coded cx16 op.Cmpxchg (bytes_of width)) h
way_coded cx16 (op.Rmw r) width align h = way_if (is_native (X86 cx16) (bytes_of width) align) (nat_le (bytes_of width) align) (native_way (X86 cx16) (op.Rmw r) (bytes_of width)) (native_coded cx16 (op.Rmw r) (bytes_of width)) h

-- the laws on which the expansions of a module stand
pub record ModuleLaws (program : SourceProgram) : Type 0 where
  pub direct : X86CodeIsExpanded (x86_program program)
  pub plain : PlainAccessesAreExpanded (x86_program program)
  pub small : SelectedLinesAreSmall
  pub sites : SelectedOperationsAreAtSites

module _ (program : SourceProgram) (laws : ModuleLaws program) where
  -- what the module means on a target
  abbrev on_target : Target → Program Virtual Shared
  on_target t = record (x86_program program) {
    atomic = λ o width order weak. record (atomic_doing t o width order weak) { fits = asks_words (is_wide width) (atomic_doing t o width order weak).fits };
    load = load_doing t;
    store = store_doing t;
  }

  -- an operation on 16 bytes asks for words, on both sides
  asks_alike : (cx16 : Bool) (o : Op) (width : Width) (order : Order) (weak : Bool) (args results : List Virtual) → Expanded (over_bytes cx16 (x86_program program)) direct_expansions direct_steps o width order weak args results
      → Expanded (on_target (X86 cx16)) direct_expansions direct_steps o width order weak args results
  asks_alike cx16 o W8 order weak args results h = record { counted = h.counted; expands = h.expands; few_args = h.few_args; few_results = h.few_results; few = h.few }
  asks_alike cx16 o W16 order weak args results h = record { counted = h.counted; expands = h.expands; few_args = h.few_args; few_results = h.few_results; few = h.few }
  asks_alike cx16 o W32 order weak args results h = record { counted = h.counted; expands = h.expands; few_args = h.few_args; few_results = h.few_results; few = h.few }
  asks_alike cx16 o W64 order weak args results h = record { counted = h.counted; expands = h.expands; few_args = h.few_args; few_results = h.few_results; few = h.few }
  asks_alike cx16 o W128 order weak args results h = record { counted = h.counted; expands = h.expands; few_args = h.few_args; few_results = h.few_results; few = h.few }

  module _ (cx16 : Bool) (target : program.target ≡ X86 cx16) (accepted : IsAccepted program) (direct : needs_no_routine program ≡ true) where
    loads : (n : ℕ) → IsSize n → Accessed (x86_program program) ((x86_program program).load n) (load_in n) [] (0 ∷ [])
    loads n size =
        let h = (laws.plain cx16 n size).0 in
        subst (λ t. Accessed (on_target t) ((on_target t).load n) (load_in n) [] (0 ∷ [])) (sym target) (record { counted = h.counted; expands = h.expands })

    stores : (n : ℕ) → IsSize n → Accessed (x86_program program) ((x86_program program).store n) (store_in n) (0 ∷ []) []
    stores n size =
        let h = (laws.plain cx16 n size).1 in
        subst (λ t. Accessed (on_target t) ((on_target t).store n) (store_in n) (0 ∷ []) []) (sym target) (record { counted = h.counted; expands = h.expands })

    atomics :
        (place : ℕ) (line : Line Virtual) (o : Op) (width : Width) (order : Order) (weak : Bool) (address : Virtual) (args results : List Virtual) → slice_get (selected program).lines place ≡ Some line → line.inst ≡ mid.Atomic o width order weak address args results
        → Expanded (x86_program program) direct_expansions direct_steps o width order weak args results
    atomics place line o width order weak address args results at is =
        let it : Operation = record { op = o; width = width; order = order; weak = weak } in
        let site = laws.sites program place line it at (operation_is line.inst o width order weak address args results is) in
        let there = way_coded cx16 o width (bytes_of width) (subst (λ t. is_direct_way (decided t o width (bytes_of width)) ≡ true) target (site.way direct)) in
        let many = subst HasWords is (has_words line.tag line.inst (laws.small program accepted place line at).shaped) in
        subst (λ t. Expanded (on_target t) direct_expansions direct_steps o width order weak args results) (sym target)
        (asks_alike cx16 o width order weak args results (laws.direct cx16 direct_expansions direct_steps o width order weak args results there refl many.0 many.1 (omega arith)))

    on_x86 : AreExpanded program direct_expansions direct_steps
    on_x86 = record { few = omega arith; loads = loads; stores = stores; atomics = atomics }

  pub module_expanded : DirectX86ModuleIsExpanded program
  module_expanded built accepted = let parts = and_parts (is_x86 program.target) (needs_no_routine program) built in go program.target refl parts.0 parts.1
    where
      go : (t : Target) → program.target ≡ t → is_x86 t ≡ true → needs_no_routine program ≡ true → AreExpanded program direct_expansions direct_steps
      go (X86 cx16) e h direct = on_x86 cx16 e accepted direct
      go (Arm lse) e h direct = absurd (false≢true h)
      go (Rv zabha zacas) e h direct = absurd (false≢true h)
