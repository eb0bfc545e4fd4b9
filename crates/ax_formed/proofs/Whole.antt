-- The selected code of an accepted module keeps the rules of well formed code.
use Rattle.std.proofs.Common.{◌≡◌, ℕ, ◌≤◌, List, Some, length, arith, slice_get}
use Rattle.ax_module.specs.declared.module.Function.{Function}
use Rattle.ax_source_run.specs.SourceState.{SourceProgram}
use Rattle.ax_check.specs.Accepted.{IsAccepted}
use Rattle.ax_check.specs.Laws.{IsSoundHead}
use Rattle.ax_mid.specs.declared.code.Line.{Line}
use Rattle.ax_mid.specs.declared.registers.Virtual.{Virtual}
use Rattle.ax_mid.specs.WellFormed.{HasRoom, HasShape, LabelsStandInTheirFunctions, weight_of}
use Rattle.ax_selected.specs.Formed.{SelectedCodeIsFormed, SelectedLinesAreSmall}
use Rattle.ax_selected.specs.Registers.{key}
use Rattle.ax_selected.specs.Selected.{selected}
use Rattle.ax_formed.specs.WellFormed.{KeepsRules, SelectedCodeIsWellFormed, SelectedCodeKeepsRules, most_room, most_selected}
use Rattle.ax_formed.proofs.Functions.{AreDone, IsNamed, functions_done}
use Rattle.ax_formed.proofs.Known.{known}
use Rattle.ax_formed.proofs.Lines.{Stands, first_in, found, last_in, length_below, line_at, next_in, target_is}

-- what this rests on
pub record Laws : Type 0 where
  pub few : (program : SourceProgram) → IsAccepted program → length program.source.functions ≤ 64
  pub heads : (program : SourceProgram) (k : ℕ) (f : Function) → IsAccepted program → slice_get program.source.functions k ≡ Some f → IsSoundHead k f
  pub small : SelectedLinesAreSmall
  pub formed : SelectedCodeIsFormed

module _ (laws : Laws) (program : SourceProgram) (accepted : IsAccepted program) where
  abbrev lines : List (Line Virtual)
  lines = (selected program).lines

  done : AreDone program 0 program.source.functions
  done = functions_done program 0 program.source.functions (known program accepted (λ k f at. laws.heads program k f accepted at))

  named : LabelsStandInTheirFunctions (selected program)
  named place n a at names =
      let f = a.site.function in
      found (selected program).globals lines f n (target_is (Stands lines f) a.inst n (line_at (IsNamed program lines) lines place a done.named at) names)

  room : (f : ℕ) → HasRoom key most_room (selected program) f
  room f = record {
    registers = 8208;
    bytes = 32768;
    fits = omega arith;
    named = λ place a r at own names. (laws.small program accepted place a at).registers r names;
    framed = λ place a to offset at own is. (laws.small program accepted place a at).frame to offset is;
  }

  light : weight_of lines ≤ most_selected
  light =
      let all = done.light in
      let few = laws.few program accepted in
      omega (arith, all, few)

  shape : HasShape (selected program)
  shape =
      let all = light in
      record {
        shaped = λ place a at. (laws.small program accepted place a at).shaped;
        first = λ a at. first_in 0 lines a done.begins at;
        no_gap = λ place a b at next. (next_in 0 lines place a b done.begins at next).no_gap;
        ends = λ place a b at next. (next_in 0 lines place a b done.begins at next).ends;
        end = λ place a at none. last_in 0 lines place a done.begins at none;
        short = omega (arith, all);
      }

  rules : KeepsRules program (selected program)
  rules =
      let all = light in
      let count = length_below lines in
      record { formed = laws.formed program accepted; named = named; room = room; shape = shape; few = omega (arith, all, count); light = light }

pub keeps_rules : Laws → SelectedCodeKeepsRules
keeps_rules laws program accepted = rules laws program accepted

pub is_well_formed : Laws → SelectedCodeIsWellFormed
is_well_formed laws program accepted direct =
    let is = rules laws program accepted in
    record {
      sites = is.formed.sites;
      labels = is.formed.labels;
      named = is.named;
      globals = is.formed.globals;
      room = is.room;
      ways = is.formed.ways direct;
      shape = is.shape;
    }
