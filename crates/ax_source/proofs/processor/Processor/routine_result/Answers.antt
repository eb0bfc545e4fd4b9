use Rattle.std.proofs.Common.{◌≡◌, ◌∙◌, ap, sym, subst, true, IsTrue}
use Rattle.ax_source_run.specs.SourceState.{Pointer}
use Rattle.ax_words.specs.Routine.{routine_named}
use Rattle.ax_source.specs.Accesses.{is_element_of}
use Rattle.ax_source.specs.Calls.{is_pointer_at}
use Rattle.ax_source.proofs.Inside.{lock_free_pointer, pointer_inside}
use Rattle.ax_source.proofs.processor.Processor.routine_result.Goals as goal

pub is_lock_free-requires : goal.is_lock_free-requires
is_lock_free-requires c =
    let v = c.args.self.now in
    let e : is_pointer_at c.args.args.now 1 ≡ true = lock_free_pointer (routine_named c.args.name.now) c.in-Some.routine c.args.args.now (c.in-Some.ensures.value ∙ ap routine_named c.as_bytes.ensures) c.in-IsLockFree.ensures c.requires.pointers in
    subst (λ (p : Pointer). IsTrue (is_element_of v p)) (sym c.pointer_at-p.ensures) (pointer_inside v c.args.args.now 1 c.requires.inside e)
