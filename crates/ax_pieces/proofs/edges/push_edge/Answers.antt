use Rattle.std.proofs.Common.{◌≡◌, ℕ, ◌+◌, ◌≤◌, List, All, length, refl, sym, subst, ◌∙◌, arith}
use Rattle.std.specs.Prelude.{OnOk, slice_index_or}
use Rattle.ax_mid.specs.Built.{pushed}
use Rattle.ax_module.specs.declared.inst.Inst.{Inst}
use Rattle.ax_selected.specs.Selected.{straight}
use Rattle.ax_source_run.specs.SourceInstructions.{first_number}
use Rattle.ax_pieces.specs.Edges.{entering}
use Rattle.ax_pieces.specs.Near.{IsNearPhi}
use Rattle.ax_pieces.proofs.Targets.{begins_at, has_insts, has_start}
use Rattle.ax_pieces.proofs.edges.push_edge.Goals as goal

pub bounds-starts-edge : goal.bounds-starts-edge
bounds-starts-edge c = has_start c.args.site.function c.args.blocks.now c.args.starts.now c.args.edge.to c.requires

pub overflow_cast-first-2 : goal.overflow_cast-first-2
overflow_cast-first-2 c =
    let e = begins_at c.args.site.function c.args.blocks.now c.args.starts.now c.args.edge.to c.requires (slice_index_or c.args.starts.now c.args.edge.to 0) 0 refl in
    omega (arith, e, c.requires.few)

pub enter-requires-clause-few : goal.enter-requires-clause-few
enter-requires-clause-few c =
    let blocks = c.args.blocks.now in
    let starts = c.args.starts.now in
    let d = c.args.edge.to in
    let e = begins_at c.args.site.function blocks starts d c.requires (slice_index_or starts d 0) 0 refl in
    let insts = c.as_slice-insts.ensures ∙ has_insts c.args.site.function blocks starts d c.requires c.index-blocks-edge.result in
    subst (λ (xs : List Inst). slice_index_or starts d 0 + length xs ≤ 2048) (sym insts) (omega (arith, e, c.requires.few))

pub enter-requires-clause-phis : goal.enter-requires-clause-phis
enter-requires-clause-phis c =
    let insts = c.as_slice-insts.ensures ∙ has_insts c.args.site.function c.args.blocks.now c.args.starts.now c.args.edge.to c.requires c.index-blocks-edge.result in
    subst (All IsNearPhi) (sym insts) c.requires.phis

pub returns : goal.returns
returns c =
    let f = c.args.site.function in
    let k = c.args.site.instruction in
    let blocks = c.args.blocks.now in
    let starts = c.args.starts.now in
    let b = c.args.edge.from in
    let d = c.args.edge.to in
    let e = begins_at f blocks starts d c.requires (slice_index_or starts d 0) 0 refl in
    let insts = c.as_slice-insts.ensures ∙ has_insts f blocks starts d c.requires c.index-blocks-edge.result in
    subst (λ (xs : List Inst). OnOk c.enter.result (c.enter.new.code ≡ pushed (straight f k (entering f b (first_number blocks d) xs)) c.args.code.now)) insts
    (subst (λ (n : ℕ). OnOk c.enter.result (c.enter.new.code ≡ pushed (straight f k (entering f b n c.as_slice-insts.result.now)) c.args.code.now)) e c.enter.ensures)
