-- What events of processors are to the machine.
use Rattle.std.proofs.Common.{◌≡◌, ℕ, zero, suc, ◌<◌, Bool, true, false, List, [], ◌∷◌, ◌++◌, Option, Some, None, length, take, drop, refl, sym, ap, ◌∙◌, append-nil, arith}
use Rattle.std.specs.Prelude.{slice_get, slice_index_or, slice_set, nat_eq, if◌then◌else◌}
use Rattle.std.proofs.lemmas.Bool.Decides.{nat_tests}
use Rattle.std.proofs.lemmas.Option.{slice_get-get_or}
use Rattle.ax_module.specs.declared.inst.Inst.{Inst}
use Rattle.ax_words.specs.declared.source.SourceEvent.{SourceEvent}
use Rattle.ax_words.specs.declared.source.SourceEvent.TheVariants.{Act, Look, Miss, Drain}
use Rattle.ax_source_run.specs.SourceAccess.{element_set, gets, put_at, written_out}
use Rattle.ax_source_run.specs.SourceEvent.{act, after, drained, expected_by, look, looked, miss, missed, next_inst, number_of_next, outputs_of, seen_by, source_event, with_processor}
use Rattle.ax_source_run.specs.SourceState.{Pair, PendingStore, SourceProcessor, SourceProgram, SourceState}
use Rattle.ax_source.specs.Accesses.{Does, act_deed}
use Rattle.ax_source.specs.MachineSteps.{alone, event_deed, look_of, looked_at, miss_of, missed_at, named_by, processor_at, processors_of, state_of}
use Rattle.ax_source.specs.MachineState.{MachineState}
use Rattle.ax_source.specs.ProcessorState.{ProcessorState, state_of as processor_of}
use Rattle.ax_cells.specs.Shapes.{ArrayState, cells_of}

-- ---- a list of processors after a write
list_set : {A : Type 0} (xs : List A) (p q : ℕ) (x : A) → p < length xs → slice_get (slice_set xs p x) q ≡ (if nat_eq q p then Some x else slice_get xs q)
list_set [] p q x h = absurd (omega arith)
list_set (y ∷ xs) zero zero x h = refl
list_set (y ∷ xs) zero (suc q) x h = let e : false ≡ nat_eq (suc q) zero = grind (arith, nat_tests) in ap (λ t. if t then Some x else slice_get xs q) e
list_set (y ∷ xs) (suc p) zero x h = let e : false ≡ nat_eq zero (suc p) = grind (arith, nat_tests) in ap (λ t. if t then Some x else Some y) e
list_set (y ∷ xs) (suc p) (suc q) x h =
    let e : nat_eq q p ≡ nat_eq (suc q) (suc p) = grind (arith, nat_tests) in
    list_set xs p q x (omega arith) ∙ ap (λ t. if t then Some x else slice_get xs q) e

chosen : (t : Bool) (c : ProcessorState) (o : Option ProcessorState) → processor_at (if t then Some c else o) ≡ (if t then processor_of c else processor_at o)
chosen true c o = refl
chosen false c o = refl

processors_set : (cs : List ProcessorState) (p : ℕ) (c : ProcessorState) → p < length cs → processors_of (slice_set cs p c) ≡ put_at (processors_of cs) p (processor_of c)
processors_set cs p c h = λ d q. at q d
  where
    at : (q : ℕ) → processors_of (slice_set cs p c) q ≡ put_at (processors_of cs) p (processor_of c) q
    at q = ap processor_at (list_set cs p q c h) ∙ chosen (nat_eq q p) c (slice_get cs q)

put_same : (f : ℕ → SourceProcessor) (p : ℕ) → put_at f p (f p) ≡ f
put_same f p = λ d q. at q (nat_eq q p) refl d
  where
    at : (q : ℕ) (t : Bool) → nat_eq q p ≡ t → put_at f p (f p) q ≡ f q
    at q true e = let same : q ≡ p = grind (arith, nat_tests) in ap (λ u. if u then f p else f q) e ∙ ap f (sym same)
    at q false e = ap (λ u. if u then f p else f q) e

-- ---- processors alone
module _ (program : SourceProgram) (p : ℕ) (s : SourceState) where
  same_processor : s ≡ with_processor p (s.processors p) s
  same_processor = λ d. record { numbers = s.numbers; outputs = s.outputs; processors = sym (put_same s.processors p) d }

  act_is : (o : Option Inst) → act program p o s ≡ after p (act_deed program (s.processors p) o s.numbers) s
  act_is None = λ d. record { numbers = s.numbers; outputs = sym (append-nil s.outputs) d; processors = sym (put_same s.processors p) d }
  act_is (Some i) = refl

  looked_is : (o : Option ℕ) → looked program p o s ≡ with_processor p (looked_at o (s.processors p)) s
  looked_is None = same_processor
  looked_is (Some n) = refl

  look_is : (o : Option Inst) → look program p o s ≡ with_processor p (look_of program (s.processors p) o s.numbers) s
  look_is None = same_processor
  look_is (Some i) = looked_is (seen_by program i (s.processors p) s.numbers)

  missed_if : (t : Bool) (x : SourceProcessor) → (if t then with_processor p x s else s) ≡ with_processor p (if t then x else s.processors p) s
  missed_if true x = refl
  missed_if false x = same_processor

  missed_is : (expected seen : Option ℕ) → missed program p expected seen s ≡ with_processor p (missed_at (number_of_next program (s.processors p)) expected seen (s.processors p)) s
  missed_is None seen = same_processor
  missed_is (Some n) None = same_processor
  missed_is (Some n) (Some m) = missed_if (nat_eq n m) (gets (number_of_next program (s.processors p)) (Pair n false) (s.processors p))

  miss_is : (o : Option Inst) → miss program p o s ≡ with_processor p (miss_of program (s.processors p) o) s
  miss_is None = same_processor
  miss_is (Some i) = missed_is (expected_by program i (s.processors p)) (s.processors p).seen

  -- what an event does to its processor alone
  alone_is : (x : SourceProcessor) → after p (alone x s.numbers) s ≡ with_processor p x s
  alone_is x = λ d. record { numbers = s.numbers; outputs = append-nil s.outputs d; processors = put_at s.processors p x }

  drained_is : (stores : List PendingStore) → (s.processors p).pending ≡ stores
      → after p (record { processor = record (s.processors p) { pending = drop 1 stores }; numbers = written_out (take 1 stores) s.numbers; output = None }) s ≡ drained program p stores s
  drained_is [] e =
      alone_is (record (s.processors p) { pending = [] }) ∙ ap (λ (c : SourceProcessor). with_processor p c s) (λ d. record (s.processors p) { pending = sym e d }) ∙ sym same_processor
  drained_is (store ∷ stores) e = λ d. record { numbers = element_set store.global store.element store.number s.numbers; outputs = append-nil s.outputs d; processors = put_at s.processors p (record (s.processors p) { pending = stores }) }

event_is : (program : SourceProgram) (e : SourceEvent) (s : SourceState) → after (named_by e) (event_deed program e (s.processors (named_by e)) s.numbers) s ≡ source_event program e s
event_is program (Act p) s = sym (act_is program p s (next_inst program (s.processors p)))
event_is program (Look p) s = alone_is program p s (look_of program (s.processors p) (next_inst program (s.processors p)) s.numbers) ∙ sym (look_is program p s (next_inst program (s.processors p)))
event_is program (Miss p) s = alone_is program p s (miss_of program (s.processors p) (next_inst program (s.processors p))) ∙ sym (miss_is program p s (next_inst program (s.processors p)))
event_is program (Drain p) s = drained_is program p s (s.processors p).pending refl

-- ---- the machine
module _ (m : MachineState) (p : ℕ) (c : ProcessorState) (within : p < length m.processors) (is : c ≡ slice_index_or m.processors p c) where
  here : processors_of m.processors p ≡ processor_of c
  here = ap processor_at (slice_get-get_or m.processors p c within) ∙ ap processor_of (sym is)

  abbrev put : SourceProcessor → ℕ → SourceProcessor
  put = put_at (processors_of m.processors) p

  moves : (new : ProcessorState) (s : SourceProcessor) → processor_of new ≡ s → processors_of (slice_set m.processors p new) ≡ put s
  moves new s e = processors_set m.processors p new within ∙ ap put e

  pub happened : (program : SourceProgram) (e : SourceEvent) (new : ProcessorState) (globals : List ArrayState) (output : Option ℕ) → program ≡ m.program → p ≡ named_by e → Does (event_deed program e (processor_of c) (cells_of m.globals)) new globals output
      → record { numbers = cells_of globals; outputs = m.outputs ++ outputs_of p output; processors = processors_of (slice_set m.processors p new) } ≡ source_event m.program e (state_of m)
  happened program e new globals output same name does =
      let s = state_of m in
      (λ t. record { numbers = does.numbers t; outputs = m.outputs ++ outputs_of p (does.written t); processors = moves new _ does.processor t })
      ∙ ap (λ (q : SourceProgram). after p (event_deed q e (processor_of c) (cells_of m.globals)) s) same
      ∙ ap (λ (x : SourceProcessor). after p (event_deed m.program e x (cells_of m.globals)) s) (sym here)
      ∙ ap (λ (q : ℕ). after q (event_deed m.program e (s.processors q) s.numbers) s) name
      ∙ event_is m.program e s
