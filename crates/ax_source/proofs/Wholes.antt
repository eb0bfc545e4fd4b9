-- What a machine keeps over an event.
use Rattle.std.proofs.Common.{◌≡◌, ℕ, ◌+◌, ◌-◌, ◌≤◌, ◌<◌, List, All, length, sym, ap, ◌∙◌, subst, arith, suc, [], ◌∷◌, ◌++◌, ◌^◌, Option, Some, None}
use Rattle.std.specs.Prelude.{slice_index_or, slice_set, IfSome}
use Rattle.std.proofs.lemmas.List.Elements.{All-set}
use Rattle.ax_target.specs.Targets.{is_buffered}
use Rattle.ax_source_run.specs.SourceEvent.{outputs_of}
use Rattle.ax_source_run.specs.SourceState.{SourceProgram}
use Rattle.ax_source.specs.Accesses.{HasRoom}
use Rattle.ax_source.specs.MachineState.{Belongs, IsWhole, MachineState}
use Rattle.ax_source.specs.ProcessorState.{ProcessorState}
use Rattle.ax_cells.specs.Shapes.{ArrayState, global_shapes, shapes_of}

module _ (m : MachineState) (p : ℕ) (c : ProcessorState) (h : IsWhole m) (within : p < length m.processors) (is : c ≡ slice_index_or m.processors p c) where
  pub belongs : Belongs m.program m.room c
  belongs = subst (Belongs m.program m.room) (sym is) (h.processors p c within)

  pub globals_fit : shapes_of m.globals ≡ global_shapes c.program.source
  globals_fit = h.globals ∙ sym (ap (λ (q : SourceProgram). global_shapes q.source) belongs.same)

  pub has_room : 1 ≤ m.room → HasRoom c
  has_room some = record {
    enough = λ e. let b = belongs.enough (ap (λ (q : SourceProgram). is_buffered q.target) (sym belongs.same) ∙ e) in omega arith;
  }

  later : (d : ProcessorState) → Belongs m.program m.room d → Belongs m.program (m.room - 1) d
  later d b = record { same = b.same; enough = λ e. let l = b.enough e in omega arith }

  pub stays_whole : (new : ProcessorState) (globals : List ArrayState) (outputs : List (ℕ × ℕ)) → new.program ≡ c.program → c.waiting.room ≤ new.waiting.room + 1 → 1 ≤ m.room → shapes_of globals ≡ shapes_of m.globals
      → IsWhole (record { program = m.program; room = m.room - 1; globals = globals; outputs = outputs; processors = slice_set m.processors p new })
  stays_whole new globals outputs same room some shapes =
      let belongs_now : Belongs m.program (m.room - 1) new = record { same = same ∙ belongs.same; enough = λ e. let b = belongs.enough e in omega arith } in
      record {
        runnable = h.runnable;
        globals = shapes ∙ h.globals;
        processors = All-set (Belongs m.program (m.room - 1)) m.processors p new belongs_now (λ k d l. later _ (h.processors k d l));
      }

-- ---- numbers that are written out have 64 bits
last_word : (outs : List (ℕ × ℕ)) (p n : ℕ) → All (λ (out : ℕ × ℕ). out.1 < 2 ^ 64) (outs ++ (p, n) ∷ []) → n < 2 ^ 64
last_word [] p n h = h 0 (p, n) (omega arith)
last_word (o ∷ outs) p n h = last_word outs p n (λ k d lt. h (suc k) d (omega (arith, lt)))

pub word : (outs : List (ℕ × ℕ)) (p : ℕ) (output : Option ℕ) → All (λ (out : ℕ × ℕ). out.1 < 2 ^ 64) (outs ++ outputs_of p output) → IfSome output (λ n. n < 2 ^ 64)
word outs p None h = tt
word outs p (Some n) h = last_word outs p n h
