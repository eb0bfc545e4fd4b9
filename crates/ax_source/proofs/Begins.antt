-- A machine at its start.
use Rattle.std.proofs.Common.{◌≡◌, ℕ, zero, suc, ◌≤◌, Bool, true, false, List, [], ◌∷◌, Some, None, All, length, map, replicate, refl, sym, ap, ◌∙◌, subst, arith}
use Rattle.std.specs.Prelude.{slice_get, if◌then◌else◌}
use Rattle.std.proofs.lemmas.Bool.{and_parts}
use Rattle.std.proofs.lemmas.List.{length-replicate}
use Rattle.std.proofs.lemmas.List.Elements.{All-map}
use Rattle.ax_words.specs.declared.source.SourceStatus.TheVariants.{Running}
use Rattle.ax_target.specs.Targets.{is_buffered}
use Rattle.ax_source_run.specs.SourcePointers.{insts_of}
use Rattle.ax_source_run.specs.SourceRun.{first_processor, source_start}
use Rattle.ax_source_run.specs.SourceState.{SourceProgram}
use Rattle.ax_cells.specs.declared.value.Value.TheVariants as value
use Rattle.ax_source.specs.MachineState.{Belongs, IsWhole}
use Rattle.ax_source.specs.Beginnings.{begun, room_for}
use Rattle.ax_source.specs.MachineSteps.{processor_at, state_of}
use Rattle.ax_cells.specs.Memories.{initial_array}
use Rattle.ax_source.specs.ProcessorState.{IsSound, ProcessorState, state_of as processor_of}
use Rattle.ax_source.specs.Runnable.{IsRunnable}
use Rattle.ax_cells.specs.Shapes.{ArrayState, shapes_of}
use Rattle.ax_cells.proofs.NewestStores.{counts_some}
use Rattle.ax_cells.proofs.Starts.{initial_numbers, initial_shapes, zeros_cells, zeros_shapes}
use Rattle.ax_cells.proofs.Writes.{no_results}

-- ---- a processor
pub begun_sound : (program : SourceProgram) (room f : ℕ) → IsRunnable program → IsSound (begun program room f)
begun_sound program room f h = record {
  runnable = h;
  results = length-replicate (length (insts_of program.source f)) (value.Number 0);
  arrays = zeros_shapes (insts_of program.source f);
  pending = λ k d l. absurd (omega arith);
  counts = counts_some room program.source.globals;
}

begun_is : (program : SourceProgram) (room f : ℕ) → processor_of (begun program room f) ≡ first_processor (Some f)
begun_is program room f =
    let n = length (insts_of program.source f) in
    λ d. record {
      function = f;
      block = 0;
      index = 0;
      values = no_results (replicate n (value.Number 0)) n refl d;
      allocas = zeros_cells (insts_of program.source f) d;
      status = Running;
      seen = None;
      pending = [];
    }

begun_at : (program : SourceProgram) (room : ℕ) (entries : List ℕ) (p : ℕ) → processor_at (slice_get (map (begun program room) entries) p) ≡ first_processor (slice_get entries p)
begun_at program room [] p = refl
begun_at program room (f ∷ entries) zero = begun_is program room f
begun_at program room (f ∷ entries) (suc p) = begun_at program room entries p

-- ---- the machine
pub started : (program : SourceProgram) (room : ℕ) (entries : List ℕ) (globals : List ArrayState) (outputs : List (ℕ × ℕ)) (cs : List ProcessorState)
    → globals ≡ map initial_array program.source.globals → outputs ≡ [] → cs ≡ map (begun program (room_for program room)) entries
    → state_of (record { program = program; room = room; globals = globals; outputs = outputs; processors = cs }) ≡ source_start program.source entries
started program room entries globals outputs cs e f g =
    (λ d. state_of (record { program = program; room = room; globals = e d; outputs = f d; processors = g d }))
    ∙ (λ d. record { numbers = initial_numbers program.source d; outputs = []; processors = λ p. begun_at program (room_for program room) entries p d })

enough : (t : Bool) (events : ℕ) → t ≡ true → events ≤ (if t then events else 0)
enough true events e = omega arith
enough false events e = absurd cc

belong : (program : SourceProgram) (room : ℕ) (entries : List ℕ) → All (Belongs program room) (map (begun program (room_for program room)) entries)
belong program room entries =
    All-map (Belongs program room) (begun program (room_for program room)) entries (λ k d h. record { same = refl; enough = enough (is_buffered program.target) room })

pub whole : (program : SourceProgram) (room : ℕ) (entries : List ℕ) (globals : List ArrayState) (outputs : List (ℕ × ℕ)) (cs : List ProcessorState) → IsRunnable program
    → globals ≡ map initial_array program.source.globals → cs ≡ map (begun program (room_for program room)) entries
    → IsWhole (record { program = program; room = room; globals = globals; outputs = outputs; processors = cs })
whole program room entries globals outputs cs h e g = record {
  runnable = h;
  globals = ap shapes_of e ∙ initial_shapes program.source.globals (and_parts _ _ h.narrow).0;
  processors = subst (λ (xs : List ProcessorState). All (Belongs program room) xs) (sym g) (belong program room entries);
}
