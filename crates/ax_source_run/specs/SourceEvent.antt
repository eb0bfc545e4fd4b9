-- What an event changes: *Source event*.
use Rattle.std.specs.Prelude.{ℕ, ◌+◌, true, false, nat_eq, if◌then◌else◌, List, [], ◌∷◌, ◌++◌, Option, Some, None, slice_get}
use Rattle.ax_module.specs.declared.inst.Inst.{Inst}
use Rattle.ax_module.specs.declared.inst.Inst.TheVariants as inst
use Rattle.ax_words.specs.declared.source.SourceEvent.{SourceEvent}
use Rattle.ax_words.specs.declared.source.SourceEvent.TheVariants.{Act, Look, Miss, Drain}
use Rattle.ax_words.specs.declared.source.SourceStatus.{SourceStatus}
use Rattle.ax_words.specs.declared.source.SourceStatus.TheVariants.{Running, Ended, Trapped}
use Rattle.ax_source_run.specs.SourceAccess.{Deed, element_set, gets, is_native_element, put_at}
use Rattle.ax_source_run.specs.SourceInstructions.{deed, first_number, insts_of_block, is_inside}
use Rattle.ax_source_run.specs.SourcePointers.{blocks_of, pointer_of}
use Rattle.ax_source_run.specs.SourceState.{Object, Shared, Private, PendingStore, Pointer, SourceProcessor, SourceProgram, SourceState, Pair}
use Rattle.ax_source_run.specs.SourceValues.{operand_of}

abbrev pub outputs_of : ℕ → Option ℕ → List (ℕ × ℕ)
outputs_of p None = []
outputs_of p (Some n) = (p, n) ∷ []

abbrev pub after : ℕ → Deed → SourceState → SourceState
after p d s = record { numbers = d.numbers; outputs = s.outputs ++ outputs_of p d.output; processors = put_at s.processors p d.processor }

abbrev pub with_processor : ℕ → SourceProcessor → SourceState → SourceState
with_processor p c s = record s { processors = put_at s.processors p c }

module _ (program : SourceProgram) where
  -- the instruction at a processor's place, where it is running
  abbrev pub inst_at : SourceProcessor → Option Inst
  inst_at c = slice_get (insts_of_block (blocks_of program.source c.function) c.block) c.index

  abbrev pub inst_if : SourceStatus → SourceProcessor → Option Inst
  inst_if Running c = inst_at c
  inst_if Ended c = None
  inst_if Trapped c = None

  abbrev pub next_inst : SourceProcessor → Option Inst
  next_inst c = inst_if c.status c

  abbrev pub number_of_next : SourceProcessor → ℕ
  number_of_next c = first_number (blocks_of program.source c.function) c.block + c.index

  abbrev pub act : ℕ → Option Inst → SourceState → SourceState
  act p None s = s
  act p (Some i) s = after p (deed program (s.processors p) (number_of_next (s.processors p)) s.numbers i) s

  -- the number of a native object
  abbrev pub native_number : Object → ℕ → (ℕ → ℕ → ℕ) → Option ℕ
  native_number (Shared g) i numbers = if is_native_element program g i then Some (numbers g i) else None
  native_number (Private r) i numbers = None

  abbrev pub number_at : Pointer → (ℕ → ℕ → ℕ) → Option ℕ
  number_at p numbers = native_number p.object p.index numbers

  -- what a weak compare-exchange of a native object sees; other instructions see nothing
  unfoldable pub seen_by : Inst → SourceProcessor → (ℕ → ℕ → ℕ) → Option ℕ
  seen_by (inst.Cmpxchg true addr ty expected new_ty new success failure align) c numbers =
      if is_inside program c addr then number_at (pointer_of program.source addr c) numbers else None
  seen_by _ c numbers = None

  abbrev pub looked : ℕ → Option ℕ → SourceState → SourceState
  looked p None s = s
  looked p (Some n) s = with_processor p (record (s.processors p) { seen = Some n }) s

  abbrev pub look : ℕ → Option Inst → SourceState → SourceState
  look p None s = s
  look p (Some i) s = looked p (seen_by i (s.processors p) s.numbers) s

  -- the number that a weak compare-exchange expects
  unfoldable pub expected_by : Inst → SourceProcessor → Option ℕ
  expected_by (inst.Cmpxchg true addr ty expected new_ty new success failure align) c = Some (operand_of ty expected c.values)
  expected_by _ c = None

  abbrev pub missed : ℕ → Option ℕ → Option ℕ → SourceState → SourceState
  missed p (Some expected) (Some seen) s =
      if nat_eq expected seen then with_processor p (gets (number_of_next (s.processors p)) (Pair expected false) (s.processors p)) s else s
  missed p None seen s = s
  missed p (Some expected) None s = s

  abbrev pub miss : ℕ → Option Inst → SourceState → SourceState
  miss p None s = s
  miss p (Some i) s = missed p (expected_by i (s.processors p)) (s.processors p).seen s

  abbrev pub drained : ℕ → List PendingStore → SourceState → SourceState
  drained p [] s = s
  drained p (store ∷ stores) s = record {
    numbers = element_set store.global store.element store.number s.numbers;
    outputs = s.outputs;
    processors = put_at s.processors p (record (s.processors p) { pending = stores });
  }

  abbrev pub source_event : SourceEvent → SourceState → SourceState
  source_event (Act p) s = act p (next_inst (s.processors p)) s
  source_event (Look p) s = look p (next_inst (s.processors p)) s
  source_event (Miss p) s = miss p (next_inst (s.processors p)) s
  source_event (Drain p) s = drained p (s.processors p).pending s
