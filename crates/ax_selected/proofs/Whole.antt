-- Source and middle code of each accepted module that needs no routine are in step.
use Rattle.std.proofs.Common.{◌≡◌, ℕ, suc, ◌+◌, ◌<◌, ◌≤◌, Bool, true, false, List, [], ◌∷◌, Option, Some, None, length, refl, sym, ap, ◌∙◌, subst, arith, slice_get}
use Rattle.std.specs.Prelude.{if◌then◌else◌, option_map, sum_by}
use Rattle.std.specs.List.{list_all}
use Rattle.std.proofs.lemmas.Bool.{and_parts}
use Rattle.std.proofs.lemmas.List.Sums.{sum_by-cons}
use Rattle.std.proofs.lemmas.Option.{same_Some, slice_get_within}
use Rattle.ax_check.specs.Accepted.{IsAccepted}
use Rattle.ax_check.specs.Laws.{AtInstructions, AtPoints, IsSound, IsSoundHead}
use Rattle.ax_layout.specs.Layout.{CanBeLaidOut}
use Rattle.ax_layout.specs.Regions.{AllLie, AreApart, AreThoseOfTheModule, InLayouts}
use Rattle.ax_module.specs.declared.inst.Inst.{Inst}
use Rattle.ax_module.specs.declared.module.Block.{Block}
use Rattle.ax_module.specs.declared.module.Function.{Function}
use Rattle.ax_module.specs.Kinds as kinds
use Rattle.ax_module.specs.WellFormed.{is_inst, is_order, scope_of as formed_scope}
use Rattle.ax_source_run.specs.SourceInstructions.{first_number, insts_of_block, phi_count}
use Rattle.ax_source_run.specs.SourcePointers.{blocks_in, blocks_of}
use Rattle.ax_source_run.specs.SourceRun as source
use Rattle.ax_source_run.specs.SourceRun.{first_numbers, source_run, source_start}
use Rattle.ax_source_run.specs.SourceState.{Number, SourceProgram}
use Rattle.ax_mid.specs.Machine as machine
use Rattle.ax_mid.specs.Machine.{MidState, behind_label, mid_run}
use Rattle.ax_words.specs.declared.source.SourceEvent.{SourceEvent}
use Rattle.ax_words.specs.declared.source.SourceStatus.TheVariants.{Running}
use Rattle.ax_access_rules.specs.RulesAtPoints.{has_width}
use Rattle.ax_standing.proofs.Orders.{order_first, same_phi}
use Rattle.ax_standing.specs.Standing.{AreEntries, AreOnWalks, IsOnWalk}
use Rattle.ax_typed.proofs.Standing.{block_formed}
use Rattle.ax_typed.proofs.Types.{ResultsFit}
use Rattle.ax_typed.specs.Typed.{IsTyped}
use Rattle.ax_selected.specs.Contract.{Keeps}
use Rattle.ax_selected.specs.Direct.{needs_no_routine}
use Rattle.ax_selected.specs.InStep.{CanAct, InStep, IsAtSite, IsFramePlace, Reaches, SelectedCodeGoesOn, SelectedCodeRunsInStep, SelectedCodeStandsAtSites, code_start, mid_start}
use Rattle.ax_selected.specs.Laid.{AreFew, ArePlenty, IsLaid, total}
use Rattle.ax_selected.specs.Registers.{block_label, key}
use Rattle.ax_selected.specs.Selected.{begins, selected}
use Rattle.ax_selected.proofs.Accessing.{Grounds}
use Rattle.ax_selected.proofs.Beginning.{all_at_sites, all_go_on, all_in_step}
use Rattle.ax_selected.proofs.Kept.{all_keep}
use Rattle.ax_selected.proofs.Lying.{IsLaidAsIs}
use Rattle.ax_selected.proofs.Rises.{code_is_laid}

plenty : (blocks : List Block) → ((b : ℕ) (block : Block) → slice_get blocks b ≡ Some block → 0 < length block.insts) → ArePlenty blocks
plenty [] some = tt
plenty (block ∷ blocks) some = (some 0 block refl, plenty blocks (λ b other e. some (suc b) other e))

total_sum : (blocks : List Block) → total blocks ≡ sum_by (λ (b : Block). length b.insts) blocks
total_sum [] = refl
total_sum (block ∷ blocks) =
    let e = total_sum blocks in
    let c = sum_by-cons (λ (b : Block). length b.insts) block blocks in
    omega (arith, e, c)

few : (functions : List Function) → ((n : ℕ) (f : Function) → slice_get functions n ≡ Some f → ArePlenty f.blocks × (total f.blocks ≤ 2048)) → AreFew functions
few [] all = tt
few (f ∷ functions) all = ((all 0 f refl).0, (all 0 f refl).1, few functions (λ n g e. all (suc n) g e))

-- ---- a block that begins with no phi
no_phis : (insts : List Inst) (i : Inst) → slice_get insts 0 ≡ Some i → kinds.is_phi i ≡ false → phi_count insts ≡ 0
no_phis [] i e h = refl
no_phis (x ∷ insts) i e h = ap (λ (b : Bool). if b then phi_count insts + 1 else 0) (same_phi x ∙ (ap kinds.is_phi (same_Some x i e) ∙ h))

no_first : (blocks : List Block) → first_number blocks 0 ≡ 0
no_first [] = refl
no_first (block ∷ blocks) = refl

-- the laws that the theorem rests on
pub record Laws : Type 0 where
  pub sound : AtInstructions IsSound
  pub fit : ResultsFit
  pub widths : AtPoints (λ m t p. has_width m p ≡ false)
  pub heads : (program : SourceProgram) (n : ℕ) (f : Function) → IsAccepted program → slice_get program.source.functions n ≡ Some f → IsSoundHead n f
  pub laid_out : (program : SourceProgram) → IsAccepted program → CanBeLaidOut program.source
  pub those : InLayouts AreThoseOfTheModule
  pub lie : InLayouts AllLie
  pub apart : InLayouts AreApart
  pub typed : (program : SourceProgram) (entries : List ℕ) (events : List SourceEvent) → IsAccepted program → IsTyped program.source (source_run program events (source_start program.source entries))
  pub walks : (program : SourceProgram) (entries : List ℕ) (events : List SourceEvent) → IsAccepted program → AreEntries program entries → AreOnWalks program (source_run program events (source_start program.source entries))

module _ (laws : Laws) (program : SourceProgram) (accepted : IsAccepted program) where
  pub as_is : IsLaidAsIs program
  as_is =
      let can = laws.laid_out program accepted in
      let same = sym accepted.layout in
      record {
        those = subst (AreThoseOfTheModule program.source) same (laws.those program.source can);
        lie = subst (AllLie program.source) same (laws.lie program.source can);
        apart = subst (AreApart program.source) same (laws.apart program.source can);
      }

  are_few : AreFew program.source.functions
  are_few = few program.source.functions each
    where
      each : (n : ℕ) (f : Function) → slice_get program.source.functions n ≡ Some f → ArePlenty f.blocks × (total f.blocks ≤ 2048)
      each n f at =
          let sum = total_sum f.blocks in
          let most = (laws.heads program n f accepted at).instructions in
          (plenty f.blocks some, omega (arith, sum, most))
        where
          some : (b : ℕ) (block : Block) → slice_get f.blocks b ≡ Some block → 0 < length block.insts
          some b block e =
              let order = (and_parts (is_order block.insts) (list_all (is_inst (formed_scope (length program.source.globals) f)) block.insts) (block_formed program accepted laws.sound n f at b block e)).0 in
              let x = order_first block.insts order in
              slice_get_within block.insts 0 x.0 x.1

  pub laid : IsLaid program (selected program).lines (begins program)
  laid = code_is_laid program are_few

  module _ (direct : needs_no_routine program ≡ true) (base : ℕ) (frame : IsFramePlace base) where
    grounds : Grounds program (selected program) base
    grounds = record {
      widths = laws.widths;
      as_is = as_is;
      heads = λ n f at. laws.heads program n f accepted at;
      direct = direct;
      globals = refl;
      above = frame.above;
      high = frame.high;
    }

module _ (laws : Laws) (program : SourceProgram) (most : ℕ) (base : ℕ → ℕ) (entries : List ℕ) (accepted : IsAccepted program) (direct : needs_no_routine program ≡ true) (are : AreEntries program entries) (enough : 512 ≤ most) (frames : (p : ℕ) → IsFramePlace (base p)) where
  keep : (p : ℕ) → Keeps key program (selected program) (begins program) most (base p)
  keep p = all_keep program accepted laws.sound laws.fit (selected program) (begins program) (laid laws program accepted) most (base p) enough (grounds laws program accepted direct (base p) (frames p))

  reaches : Reaches program entries
  reaches = record { typed = λ done. laws.typed program entries done accepted; walks = λ done. laws.walks program entries done accepted are }

  -- ---- where entries begin
  begins_behind : (f : ℕ) → IsOnWalk program f 0 0 (λ k. Number 0) → begins program f 0 0 ≡ behind_label key (selected program).lines (block_label f 0) 0
  begins_behind f w =
      let blocks = blocks_of program.source f in
      let insts = insts_of_block blocks 0 in
      let at : slice_get insts 0 ≡ Some w.inst = ap (λ (o : Option Function). slice_get (insts_of_block (blocks_in o) 0) 0) w.here ∙ w.at in
      let label = (laid laws program accepted).blocks f 0 0 w.inst at in
      ap (λ (n : ℕ). begins program f 0 n) (sym (no_phis insts w.inst at w.other)) ∙ (label ∙ ap (λ (n : ℕ). behind_label key (selected program).lines (block_label f n) 0) (no_first blocks))

  place_is : (o : Option ℕ) → ((source.first_processor o).status ≡ Running → IsOnWalk program (source.first_processor o).function (source.first_processor o).block (source.first_processor o).index (source.first_processor o).values)
      → option_map (λ f. begins program f 0 0) o ≡ option_map (λ f. behind_label key (selected program).lines (block_label f 0) 0) o
  place_is None walk = refl
  place_is (Some f) walk = ap Some (begins_behind f (walk refl))

  start_is : mid_start program entries ≡ code_start program (selected program) entries
  start_is =
      let walks = laws.walks program entries [] accepted are in
      λ d. record { numbers = first_numbers program.source; outputs = []; processors = λ p. machine.first_processor (place_is (slice_get entries p) (walks p) d) }

pub runs_in_step : Laws → SelectedCodeRunsInStep
runs_in_step laws program accepted most base entries direct are enough frames events =
    subst (λ (s : MidState). InStep (source_run program events (source_start program.source entries)) (mid_run key program.target (selected program) base most events s))
    (start_is laws program most base entries accepted direct are enough frames)
    (all_in_step program most base entries (keep laws program most base entries accepted direct are enough frames) (reaches laws program most base entries accepted direct are enough frames) events)

pub stands_at_sites : Laws → SelectedCodeStandsAtSites
stands_at_sites laws program accepted most base entries direct are enough frames events p runs =
    subst (λ (s : MidState). IsAtSite key program (selected program) most (base p) ((source_run program events (source_start program.source entries)).processors p) ((mid_run key program.target (selected program) base most events s).processors p))
    (start_is laws program most base entries accepted direct are enough frames)
    (all_at_sites program most base entries (keep laws program most base entries accepted direct are enough frames) (reaches laws program most base entries accepted direct are enough frames) events p runs)

pub goes_on_always : Laws → SelectedCodeGoesOn
goes_on_always laws program accepted most base entries direct are enough frames events p runs =
    subst (λ (s : MidState). CanAct key program (selected program) most (base p) ((mid_run key program.target (selected program) base most events s).processors p) (mid_run key program.target (selected program) base most events s).numbers)
    (start_is laws program most base entries accepted direct are enough frames)
    (all_go_on program most base entries (keep laws program most base entries accepted direct are enough frames) (reaches laws program most base entries accepted direct are enough frames) events p runs)
