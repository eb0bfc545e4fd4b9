-- Each access and each atomic operation of such a module has an expansion.
use Rattle.std.proofs.Common.{◌≡◌, ℕ, Bool, true, List, [], ◌∷◌, Some, refl, sym, ap, subst, arith, slice_get}
use Rattle.std.proofs.lemmas.Bool.{false≢true}
use Rattle.ax_words.specs.declared.mark.Op.{Op}
use Rattle.ax_words.specs.declared.order.Order.{Order}
use Rattle.ax_words.specs.declared.width.Width.{Width}
use Rattle.ax_words.specs.Width.{bytes_of}
use Rattle.ax_source_run.specs.SourceState.{SourceProgram}
use Rattle.ax_target.specs.declared.target.Target.{Target}
use Rattle.ax_target.specs.declared.target.Target.TheVariants.{Arm, Rv, X86}
use Rattle.ax_target.specs.Decisions.{decided, is_rv64}
use Rattle.ax_check.specs.Accepted.{IsAccepted}
use Rattle.ax_mid.specs.declared.code.Line.{Line}
use Rattle.ax_mid.specs.declared.instruction.MidInst.{MidInst}
use Rattle.ax_mid.specs.declared.instruction.MidInst.TheVariants as mid
use Rattle.ax_mid.specs.declared.registers.Virtual.{Virtual}
use Rattle.ax_expand.specs.Shared.{Shared}
use Rattle.ax_fine.specs.Fine.{Program}
use Rattle.ax_fine.specs.OnBytes.{atomic_doing, load_doing, store_doing}
use Rattle.ax_emit.specs.Touches.{IsSize}
use Rattle.ax_emit_rv.specs.Code.{cleared, load_in, store_in}
use Rattle.ax_emit_rv.specs.Laws.{Accessed, Expanded}
use Rattle.ax_llsc.specs.Codes.{is_coded_way}
use Rattle.ax_llsc.specs.Laws.{DirectCodeIsExpanded, PlainAccessesAreExpanded}
use Rattle.ax_selected.specs.Formed.{SelectedLinesAreSmall}
use Rattle.ax_selected.specs.Operations.{Operation, SelectedOperationsAreAtSites, operation_in}
use Rattle.ax_selected.specs.Selected.{selected}
use Rattle.ax_image_rv.specs.Image.{AreExpanded, rv_program}
use Rattle.ax_direct_rv.specs.Direct.{DirectModuleIsExpanded, direct_expansions, direct_steps, is_direct_module}
use Rattle.ax_direct_rv.proofs.Sites.{coded_at}
use Rattle.ax_direct_rv.proofs.Words.{HasWords, has_words}

operation_is : (i : MidInst Virtual) (o : Op) (width : Width) (order : Order) (weak : Bool) (address : Virtual) (args results : List Virtual) → i ≡ mid.Atomic o width order weak address args results → operation_in i ≡ Some (record { op = o; width = width; order = order; weak = weak })
unfolding operation_in
operation_is i o width order weak address args results is = ap operation_in is

-- the laws on which the expansions of a module stand
pub record ModuleLaws (program : SourceProgram) : Type 0 where
  pub direct : DirectCodeIsExpanded (rv_program program)
  pub plain : PlainAccessesAreExpanded (rv_program program)
  pub small : SelectedLinesAreSmall
  pub sites : SelectedOperationsAreAtSites

module _ (program : SourceProgram) (laws : ModuleLaws program) where
  -- what the module means on a target
  abbrev on_target : Target → Program Virtual Shared
  on_target t = record (rv_program program) { atomic = atomic_doing t; load = load_doing t; store = store_doing t }

  module _ (zabha zacas : Bool) (target : program.target ≡ Rv zabha zacas) (accepted : IsAccepted program) (all : is_direct_module program ≡ true) where
    loads : (n : ℕ) → IsSize n → Accessed (rv_program program) ((rv_program program).load n) (load_in n) (cleared n) [] (7 ∷ [])
    loads n size = subst (λ t. Accessed (on_target t) ((on_target t).load n) (load_in n) (cleared n) [] (7 ∷ [])) (sym target) (laws.plain zabha zacas n size).0

    stores : (n : ℕ) → IsSize n → Accessed (rv_program program) ((rv_program program).store n) (store_in n) [] (6 ∷ []) []
    stores n size = subst (λ t. Accessed (on_target t) ((on_target t).store n) (store_in n) [] (6 ∷ []) []) (sym target) (laws.plain zabha zacas n size).1

    atomics :
        (place : ℕ) (line : Line Virtual) (o : Op) (width : Width) (order : Order) (weak : Bool) (address : Virtual) (args results : List Virtual) → slice_get (selected program).lines place ≡ Some line → line.inst ≡ mid.Atomic o width order weak address args results
        → Expanded (rv_program program) (direct_expansions program.target) direct_steps o width order weak args results
    atomics place line o width order weak address args results at is =
        let it : Operation = record { op = o; width = width; order = order; weak = weak } in
        let site = laws.sites program place line it at (operation_is line.inst o width order weak address args results is) in
        let way = coded_at program all line.site site.inst it site.at site.operation in
        let there : is_coded_way (decided (Rv zabha zacas) o width (bytes_of width)) ≡ true = subst (λ t. is_coded_way (decided t o width (bytes_of width)) ≡ true) target way in
        let many = subst HasWords is (has_words line.tag line.inst (laws.small program accepted place line at).shaped) in
        subst (λ t. Expanded (on_target t) (direct_expansions t) direct_steps o width order weak args results) (sym target)
        (laws.direct zabha zacas (direct_expansions (Rv zabha zacas)) direct_steps o width order weak args results there refl many.0 many.1 (omega arith))

    on_rv : AreExpanded program (direct_expansions program.target) direct_steps
    on_rv = record { few = omega arith; loads = loads; stores = stores; atomics = atomics }

  pub module_expanded : DirectModuleIsExpanded program
  module_expanded is accepted all = go program.target refl is
    where
      go : (t : Target) → program.target ≡ t → is_rv64 t ≡ true → AreExpanded program (direct_expansions program.target) direct_steps
      go (Rv zabha zacas) e h = on_rv zabha zacas e accepted all
      go (X86 cx16) e h = absurd (false≢true h)
      go (Arm lse) e h = absurd (false≢true h)
