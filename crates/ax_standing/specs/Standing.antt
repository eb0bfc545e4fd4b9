-- Where a running processor stands: at an instruction that is no phi, behind a walk of blocks from the entry, with the pointers of the getelementptrs that are passed on it (LLVM Language Reference, Well-Formedness).
use Rattle.std.specs.Prelude.{◌≡◌, ℕ, ◌+◌, ◌<◌, true, false, List, All, Some, length, slice_get}
use Rattle.ax_module.specs.declared.inst.Inst.{Inst}
use Rattle.ax_module.specs.declared.module.Function.{Function}
use Rattle.ax_module.specs.Kinds.{is_phi}
use Rattle.ax_words.specs.declared.source.SourceStatus.TheVariants.{Running}
use Rattle.ax_source_run.specs.SourceInstructions.{first_number, insts_of_block}
use Rattle.ax_source_run.specs.SourceState.{Pointer, PointsTo, SourceProgram, SourceState, SourceValue}
use Rattle.ax_rules.specs.declared.facts.Outcome.{Outcome}
use Rattle.ax_rules.specs.declared.facts.Outcome.TheVariants as outcome
use Rattle.ax_check.specs.Defined.{is_defined_at}
use Rattle.ax_check.specs.Graph.{graph_of}
use Rattle.ax_check.specs.Walk.{IsWalk}
use Rattle.ax_typed.specs.Typed.{outcome_in}

abbrev pub IsPointer : SourceValue → Type 0
IsPointer v = (p : Pointer) × (v ≡ PointsTo p)

-- whether an instruction is a getelementptr
abbrev pub IsGepOutcome : Outcome → Type 0
IsGepOutcome (outcome.Gep b elem t index) = Unit {0}
IsGepOutcome (outcome.Number t) = ⊥
IsGepOutcome (outcome.Pair t) = ⊥
IsGepOutcome (outcome.Alloca e) = ⊥
IsGepOutcome outcome.Nothing = ⊥

-- of a processor that stands at instruction n of block b of function f, and has these results
pub record IsOnWalk (program : SourceProgram) (f b n : ℕ) (values : ℕ → SourceValue) : Type 0 where
  pub function : Function
  pub here : slice_get program.source.functions f ≡ Some function
  pub inst : Inst
  pub at : slice_get (insts_of_block function.blocks b) n ≡ Some inst
  pub other : is_phi inst ≡ false
  pub before : List ℕ
  pub walk : IsWalk (graph_of function) b before
  pub made : (k : ℕ) → IsGepOutcome (outcome_in program.source f k) → is_defined_at function k b (first_number function.blocks b + n) before ≡ true → IsPointer (values k)

abbrev pub AreOnWalks : SourceProgram → SourceState → Type 0
AreOnWalks program s =
    (p : ℕ) → (s.processors p).status ≡ Running → IsOnWalk program (s.processors p).function (s.processors p).block (s.processors p).index (s.processors p).values

-- each entry is a function of the module
abbrev pub AreEntries : SourceProgram → List ℕ → Type 0
AreEntries program entries = All (λ f. f < length program.source.functions) entries
