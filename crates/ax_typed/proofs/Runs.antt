-- Events and runs keep numbers of their types.
use Rattle.std.proofs.Common.{◌≡◌, ℕ, suc, ◌<◌, ◌^◌, Bool, true, false, List, [], ◌∷◌, ◌++◌, Option, Some, None, All, refl, sym, subst, arith, append-nil, slice_get}
use Rattle.std.specs.Prelude.{if◌then◌else◌, nat_eq}
use Rattle.std.proofs.lemmas.List.Elements.{All-nil, All-push}
use Rattle.std.proofs.lemmas.Nat.{pow_pos, mod_below}
use Rattle.ax_module.specs.declared.inst.Inst.{Inst}
use Rattle.ax_module.specs.declared.inst.Inst.TheVariants as inst
use Rattle.ax_module.specs.declared.module.Global.{Global}
use Rattle.ax_module.specs.declared.module.Module.{Module}
use Rattle.ax_module.specs.declared.operand.Base.TheVariants as base
use Rattle.ax_module.specs.declared.operand.Operand.{Operand}
use Rattle.ax_module.specs.declared.operand.Operand.TheVariants as operand
use Rattle.ax_module.specs.declared.types.Ty.{Ty}
use Rattle.ax_words.specs.declared.source.SourceEvent.{SourceEvent}
use Rattle.ax_words.specs.declared.source.SourceEvent.TheVariants.{Act, Look, Miss, Drain}
use Rattle.ax_source_run.specs.SourceAccess.{gets}
use Rattle.ax_source_run.specs.SourceEvent.{act, drained, expected_by, look, looked, miss, missed, next_inst, number_of_next, outputs_of, seen_by, source_event, with_processor}
use Rattle.ax_source_run.specs.SourceInstructions.{deed}
use Rattle.ax_source_run.specs.SourcePointers.{elements_of_global}
use Rattle.ax_source_run.specs.SourceRun.{constant_of, constants_of, first_processor, source_run, source_start}
use Rattle.ax_source_run.specs.SourceState.{Shared, Private, PendingStore, SourceProcessor, SourceProgram, SourceState, Number, Pair}
use Rattle.ax_source_run.specs.SourceValues.{operand_of, type_bits}
use Rattle.ax_rules.specs.declared.facts.Outcome.{Outcome}
use Rattle.ax_rules.specs.declared.facts.Outcome.TheVariants as outcome
use Rattle.ax_rules.specs.Facts.{outcome_of, part_type}
use Rattle.ax_rules.specs.Parts.{operands_of}
use Rattle.ax_access_rules.specs.RulesAtPoints.{has_width}
use Rattle.ax_check.specs.Accepted.{IsAccepted}
use Rattle.ax_check.specs.Laws.{AtInstructions, AtPoints, IsSound}
use Rattle.ax_typed.specs.Typed.{IsAllocaOutcome, IsOf, IsResultOf, IsTyped, IsTypedProcessor, elem_of, outcome_in}
use Rattle.ax_typed.proofs.Deeds.{deed_typed, part_is}
use Rattle.ax_typed.proofs.Facts.{at_other, operand_at, result_is}
use Rattle.ax_typed.proofs.Objects.{IsOfIf, StoreIs, drained_typed, element_holds, gets_typed, put_holds}
use Rattle.ax_typed.proofs.Standing.{Stands, stands}
use Rattle.ax_typed.proofs.Types.{ResultsFit, wrapped_fits}

abbrev Has64 : ℕ × ℕ → Type 0
Has64 out = out.1 < 2 ^ 64

written : (p : ℕ) (outs : List (ℕ × ℕ)) (o : Option ℕ) → All Has64 outs → IsOfIf (λ n. n < 2 ^ 64) o → All Has64 (outs ++ outputs_of p o)
written p outs None all is = subst (All Has64) (sym (append-nil outs)) all
written p outs (Some n) all is = All-push Has64 outs (p, n) all is

-- a look remembers a number, and changes nothing else
seen_typed : (m : Module) (c : SourceProcessor) (seen : Option ℕ) → IsTypedProcessor m c → IsTypedProcessor m (record c { seen = seen })
seen_typed m c seen h = record { values = h.values; addresses = h.addresses; allocas = h.allocas; pending = h.pending }

-- the number that a weak compare-exchange expects is one of its type
record Expects (m : Module) (i : Inst) (k : ℕ) (n : ℕ) : Type 0 where
  pub result : IsResultOf (outcome_of i) k (Pair n false)
  pub other : IsAllocaOutcome (outcome_of i) → ⊥

module _ (program : SourceProgram) (accepted : IsAccepted program) (law : AtInstructions IsSound) (widths : AtPoints (λ m t p. has_width m p ≡ false)) (fit : ResultsFit) where
  abbrev m : Module
  m = program.source

  module _ (s : SourceState) (p : ℕ) (h : IsTyped m s) where
    abbrev c : SourceProcessor
    c = s.processors p

    abbrev k : ℕ
    k = number_of_next program c

    put_typed : (x : SourceProcessor) → IsTypedProcessor m x → IsTyped m (with_processor p x s)
    put_typed x is = record { numbers = h.numbers; outputs = h.outputs; processors = put_holds (λ q. IsTypedProcessor m) s.processors p x h.processors is }

    act_typed : (o : Option Inst) → next_inst program c ≡ o → IsTyped m (act program p o s)
    act_typed None e = h
    act_typed (Some i) e =
        let d = deed_typed program accepted law widths fit c (h.processors p) s.numbers h.numbers i (stands program accepted law c i e) in
        record {
          numbers = d.numbers;
          outputs = written p s.outputs (deed program c k s.numbers i).output h.outputs d.output;
          processors = put_holds (λ q. IsTypedProcessor m) s.processors p (deed program c k s.numbers i).processor h.processors d.processor;
        }

    looked_typed : (o : Option ℕ) → IsTyped m (looked program p o s)
    looked_typed None = h
    looked_typed (Some n) = put_typed (record c { seen = Some n }) (seen_typed m c (Some n) (h.processors p))

    look_typed : (o : Option Inst) → IsTyped m (look program p o s)
    look_typed None = h
    look_typed (Some i) = looked_typed (seen_by program i c s.numbers)

    expects : (i : Inst) (n : ℕ) → Stands program accepted law c i → expected_by program i c ≡ Some n → Expects m i k n
    unfolding expected_by outcome_of operands_of
    expects (inst.Cmpxchg true a t v u w success failure align) n is e =
        let i = inst.Cmpxchg true a t v u w success failure align in
        let same : operand_of t v c.values ≡ n = cc in
        record {
          result = λ part. part_is t n false part (subst (λ (x : ℕ). IsOf t x) same (operand_at program accepted law c (h.processors p) i is 0 t v refl));
          other = λ x. x;
        }
    expects _ n is e = absurd cc

    missed_by : (b : Bool) (i : Inst) (n : ℕ) → Stands program accepted law c i → Expects m i k n → IsTyped m (if b then with_processor p (gets k (Pair n false) c) s else s)
    missed_by true i n is x = put_typed (gets k (Pair n false) c) (gets_typed m c k (Pair n false) (at_other program accepted law c (h.processors p) i is x.other) (result_is program accepted law c (h.processors p) i is (Pair n false) x.result) (h.processors p))
    missed_by false i n is x = h

    missed_typed : (i : Inst) (expected seen : Option ℕ) → Stands program accepted law c i → expected_by program i c ≡ expected → IsTyped m (missed program p expected seen s)
    missed_typed i None seen is e = h
    missed_typed i (Some n) None is e = h
    missed_typed i (Some n) (Some x) is e = missed_by (nat_eq n x) i n is (expects i n is e)

    miss_typed : (o : Option Inst) → next_inst program c ≡ o → IsTyped m (miss program p o s)
    miss_typed None e = h
    miss_typed (Some i) e = missed_typed i (expected_by program i c) c.seen (stands program accepted law c i e) refl

    drained_by : (stores : List PendingStore) → c.pending ≡ stores → IsTyped m (drained program p stores s)
    drained_by [] e = h
    drained_by (store ∷ stores) e =
        let all = subst (All (StoreIs m)) e (h.processors p).pending in
        record {
          numbers = element_holds (λ g n. IsOf (elem_of m 0 (Shared g)) n) s.numbers store.global store.element store.number h.numbers (all 0 store (omega arith));
          outputs = h.outputs;
          processors = put_holds (λ q. IsTypedProcessor m) s.processors p (record c { pending = stores }) h.processors (drained_typed m c stores (λ j d lt. all (suc j) d (omega (arith, lt))) (h.processors p));
        }

  pub event_typed : (e : SourceEvent) (s : SourceState) → IsTyped m s → IsTyped m (source_event program e s)
  event_typed (Act p) s h = act_typed s p h (next_inst program (s.processors p)) refl
  event_typed (Look p) s h = look_typed s p h (next_inst program (s.processors p))
  event_typed (Miss p) s h = miss_typed s p h (next_inst program (s.processors p)) refl
  event_typed (Drain p) s h = drained_by s p h (s.processors p).pending refl

  pub run_typed : (events : List SourceEvent) (s : SourceState) → IsTyped m s → IsTyped m (source_run program events s)
  run_typed [] s h = h
  run_typed (e ∷ events) s h = run_typed events (source_event program e s) (event_typed e s h)

-- ---- the start
operand_fits : (t : Ty) (v : Operand) → IsOf t (operand_of t v (λ k. Number 0))
operand_fits t (operand.Const n) = wrapped_fits (type_bits t) n
operand_fits t (operand.Wide n) = mod_below n (2 ^ type_bits t) (pow_pos (type_bits t))
operand_fits t (operand.Value k) = pow_pos (type_bits t)
operand_fits t (operand.Param k) = pow_pos (type_bits t)

constant_fits : (t : Ty) (o : Option Operand) → IsOf t (constant_of t o)
constant_fits t None = pow_pos (type_bits t)
constant_fits t (Some v) = operand_fits t v

constants_fit : (o : Option Global) (i : ℕ) → IsOf (elements_of_global o).elem (constants_of o i)
constants_fit None i = pow_pos 8
constants_fit (Some v) i = constant_fits v.elem (slice_get v.init i)

zero_is : (o : Outcome) (k : ℕ) → IsResultOf o k (Number 0)
zero_is (outcome.Number t) k = pow_pos (type_bits t)
zero_is (outcome.Pair t) k = λ part. pow_pos (type_bits (part_type t part))
zero_is (outcome.Alloca e) k = tt
zero_is (outcome.Gep (base.Global g) elem t index) k = tt
zero_is (outcome.Gep (base.Value q) elem t index) k = tt
zero_is (outcome.Gep (base.Param q) elem t index) k = tt
zero_is outcome.Nothing k = tt

first_typed : (m : Module) (o : Option ℕ) → IsTypedProcessor m (first_processor o)
first_typed m None = record {
  values = λ k. zero_is (outcome_in m 0 k) k;
  addresses = λ k a before. absurd (let l = before refl in omega (arith, l));
  allocas = λ k i. pow_pos (type_bits (elem_of m 0 (Private k)));
  pending = All-nil (StoreIs m);
}
first_typed m (Some f) = record {
  values = λ k. zero_is (outcome_in m f k) k;
  addresses = λ k a before. absurd (let l = before refl in omega (arith, l));
  allocas = λ k i. pow_pos (type_bits (elem_of m f (Private k)));
  pending = All-nil (StoreIs m);
}

pub start_typed : (m : Module) (entries : List ℕ) → IsTyped m (source_start m entries)
start_typed m entries = record {
  numbers = λ g i. constants_fit (slice_get m.globals g) i;
  outputs = All-nil Has64;
  processors = λ p. first_typed m (slice_get entries p);
}
