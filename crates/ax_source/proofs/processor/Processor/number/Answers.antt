use Rattle.std.proofs.Common.{◌≡◌, ℕ, ◌+◌, List, sym, ap, ◌∙◌, subst, arith}
use Rattle.ax_source_run.specs.SourceEvent.{number_of_next}
use Rattle.ax_source_run.specs.SourcePointers.{blocks_of}
use Rattle.ax_source.specs.ProcessorState.{ProcessorState, IsSound, Stands, state_of}
use Rattle.ax_cells.specs.Memories.{starts_from}
use Rattle.ax_source.proofs.Places.{block_within, number_is, stands_at}
use Rattle.ax_source.proofs.processor.Processor.number.Goals as goal

abbrev starts_are : (v w : ProcessorState) (starts : List ℕ) → starts ≡ starts_from 0 (blocks_of v.program.source v.function) → v ≡ w → starts ≡ starts_from 0 (blocks_of w.program.source w.function)
starts_are v w starts e f = e ∙ ap (λ (p : ProcessorState). starts_from 0 (blocks_of p.program.source p.function)) f

pub index-requires : goal.index-requires
index-requires c =
    let l = block_within c.args.self.now c.self.inside.starts.items c.self.inside.block (starts_are _ _ _ c.self.invariant.0 c.self.view_is) (ap (λ (p : ProcessorState). p.block) c.self.view_is) c.requires in
    omega (arith, c.self.inside.starts.ok.0)

pub overflow_add-result : goal.overflow_add-result
overflow_add-result c =
    let v = c.args.self.now in
    let e : c.index.result.now + c.self.inside.index ≡ number_of_next v.program (state_of v) =
    number_is v c.self.inside.starts.items c.self.inside.block c.self.inside.index c.index.result.now (starts_are _ _ _ c.self.invariant.0 c.self.view_is) (ap (λ (p : ProcessorState). p.block) c.self.view_is) (ap (λ (p : ProcessorState). p.index) c.self.view_is) c.requires c.index.ensures in
    let s = subst IsSound c.self.view_is c.self.invariant.1 in
    let l = (stands_at v s c.requires).result in
    let few = s.runnable.few v.function in
    omega arith

pub returns-clause-value : goal.returns-clause-value
returns-clause-value c =
    number_is c.args.self.now c.self.inside.starts.items c.self.inside.block c.self.inside.index c.index.result.now (starts_are _ _ _ c.self.invariant.0 c.self.view_is) (ap (λ (p : ProcessorState). p.block) c.self.view_is) (ap (λ (p : ProcessorState). p.index) c.self.view_is) c.requires c.index.ensures

pub returns-clause-stands : goal.returns-clause-stands
returns-clause-stands c =
    let v = c.args.self.now in
    let e : c.index.result.now + c.self.inside.index ≡ number_of_next v.program (state_of v) =
    number_is v c.self.inside.starts.items c.self.inside.block c.self.inside.index c.index.result.now (starts_are _ _ _ c.self.invariant.0 c.self.view_is) (ap (λ (p : ProcessorState). p.block) c.self.view_is) (ap (λ (p : ProcessorState). p.index) c.self.view_is) c.requires c.index.ensures in
    let s = subst IsSound c.self.view_is c.self.invariant.1 in
    let P : ℕ → Type 0 = λ k. Stands v k in
    subst P (sym e) (stands_at v s c.requires)
