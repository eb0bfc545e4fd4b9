-- The first states are in step.
use Rattle.std.proofs.Common.{◌≡◌, ℕ, zero, suc, ◌+◌, ◌*◌, Bool, true, false, List, Option, Some, None, refl, arith, slice_get}
use Rattle.std.specs.Prelude.{nat_eq, option_map}
use Rattle.std.proofs.lemmas.Option.{none-some}
use Rattle.ax_source_run.specs.SourceRun.{first_processor, source_run, source_start}
use Rattle.ax_source_run.specs.SourceState.{SourceProgram, Number}
use Rattle.ax_mid.specs.Machine as machine
use Rattle.ax_words.specs.declared.source.SourceEvent.{SourceEvent}
use Rattle.ax_words.specs.declared.source.SourceStatus.TheVariants.{Running, Ended}
use Rattle.ax_rules.specs.declared.facts.Outcome.{Outcome}
use Rattle.ax_rules.specs.declared.facts.Outcome.TheVariants as outcome
use Rattle.ax_store.specs.Bytes.{number_at}
use Rattle.ax_typed.specs.Typed.{outcome_in}
use Rattle.ax_selected.specs.Contract.{Keeps}
use Rattle.ax_selected.specs.InStep.{CanAct, IsAtSite, PiecesKeepRunsInStep, Reaches, mid_start}
use Rattle.ax_selected.specs.Matches.{HoldsBytes, HoldsValue}
use Rattle.ax_selected.specs.Registers.{key}
use Rattle.ax_selected.specs.Selected.{begins, selected}
use Rattle.ax_selected.proofs.Run.{Related, Standing, at_sites, goes_on, in_step}

zeros : (a n : ℕ) → number_at (λ i. 0) a n ≡ 0
zeros a zero = refl
zeros a (suc n) = let e = zeros (a + 1) n in omega (arith, e)

no_bytes : (b : Bool) (a n : ℕ) → HoldsBytes b (λ i. 0) a n 0
no_bytes false a n = zeros a n
no_bytes true a n = (zeros a 8, zeros (a + 8) 8)

no_value : (o : Outcome) (k : ℕ) → HoldsValue o (λ r. 0) k (Number 0)
no_value (outcome.Number t) k = record { low = refl; high = refl }
no_value (outcome.Pair t) k = record { number = record { low = refl; high = refl }; flag = refl }
no_value (outcome.Alloca e) k = tt
no_value (outcome.Gep b elem t index) k = tt
no_value outcome.Nothing k = tt

module _ (program : SourceProgram) (most : ℕ) (base : ℕ → ℕ) (keeps : (p : ℕ) → Keeps key program (selected program) (begins program) most (base p)) where
  first_standing : (o : Option ℕ) → Standing key program (selected program) (begins program) most base keeps (first_processor o) (machine.first_processor (option_map (λ f. begins program f 0 0) o))
  first_standing None = record { alike = record { status = refl; seen = refl; pending = refl }; stands = λ r. absurd (never r); inside = λ n i seen next. absurd (none-some n seen) }
    where
      never : Ended ≡ Running → ⊥
      never e = cc
  first_standing (Some f) = record {
    alike = record { status = refl; seen = refl; pending = refl };
    stands = λ r. record { place = refl; matches = record { values = λ k. no_value (outcome_in program.source f k) k; allocas = λ r i lt. no_bytes (nat_eq (Rattle.ax_module.specs.Types.type_bytes (Rattle.ax_source_run.specs.SourcePointers.elements_of program.source f (Rattle.ax_source_run.specs.SourceState.Private r)).elem) 16) (Rattle.ax_selected.specs.Addresses.frame_offset program.source f r + i * Rattle.ax_module.specs.Types.type_bytes (Rattle.ax_source_run.specs.SourcePointers.elements_of program.source f (Rattle.ax_source_run.specs.SourceState.Private r)).elem) (Rattle.ax_module.specs.Types.type_bytes (Rattle.ax_source_run.specs.SourcePointers.elements_of program.source f (Rattle.ax_source_run.specs.SourceState.Private r)).elem) } };
    inside = λ n i seen next. absurd (none-some n seen);
  }

  first_related : (entries : List ℕ) → Related key program (selected program) (begins program) most base keeps (source_start program.source entries) (mid_start program entries)
  first_related entries = record { numbers = refl; outputs = refl; standing = λ p. first_standing (slice_get entries p) }

pub all_in_step : PiecesKeepRunsInStep
all_in_step program most base entries keeps reaches events = in_step key program (selected program) (begins program) most base keeps entries reaches (mid_start program entries) (first_related program most base keeps entries) events

pub all_at_sites : (program : SourceProgram) (most : ℕ) (base : ℕ → ℕ) (entries : List ℕ) → ((p : ℕ) → Keeps key program (selected program) (begins program) most (base p)) → Reaches program entries
    → (events : List SourceEvent) (p : ℕ) → ((source_run program events (source_start program.source entries)).processors p).status ≡ Running
    → IsAtSite key program (selected program) most (base p) ((source_run program events (source_start program.source entries)).processors p) ((machine.mid_run key program.target (selected program) base most events (mid_start program entries)).processors p)
all_at_sites program most base entries keeps reaches events p runs = at_sites key program (selected program) (begins program) most base keeps entries reaches (mid_start program entries) (first_related program most base keeps entries) events p runs

pub all_go_on : (program : SourceProgram) (most : ℕ) (base : ℕ → ℕ) (entries : List ℕ) → ((p : ℕ) → Keeps key program (selected program) (begins program) most (base p)) → Reaches program entries
    → (events : List SourceEvent) (p : ℕ) → ((source_run program events (source_start program.source entries)).processors p).status ≡ Running
    → CanAct key program (selected program) most (base p) ((machine.mid_run key program.target (selected program) base most events (mid_start program entries)).processors p) (machine.mid_run key program.target (selected program) base most events (mid_start program entries)).numbers
all_go_on program most base entries keeps reaches events p runs = goes_on key program (selected program) (begins program) most base keeps entries reaches (mid_start program entries) (first_related program most base keeps entries) events p runs
