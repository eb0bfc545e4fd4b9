-- The theorem: from the contract alone, source and middle code are in step after each list of events.
use Rattle.std.proofs.Common.{◌≡◌, ℕ, Bool, true, false, not, ◌||◌, List, [], ◌∷◌, ◌++◌, Option, Some, None, refl, sym, ap, ◌∙◌, subst, slice_get}
use Rattle.std.specs.Prelude.{if◌then◌else◌, nat_eq}
use Rattle.std.specs.List.{list_any}
use Rattle.std.proofs.lemmas.Option.{none-some, same_Some}
use Rattle.ax_module.specs.declared.inst.Inst.{Inst}
use Rattle.ax_module.specs.declared.inst.Inst.TheVariants as inst
use Rattle.ax_source_run.specs.SourceAccess.{Deed, gets, put_at, element_set}
use Rattle.ax_source_run.specs.SourceEvent.{act, after, drained, expected_by, inst_at, inst_if, look, looked, miss, missed, next_inst, number_of_next, outputs_of, seen_by, source_event, with_processor}
use Rattle.ax_source_run.specs.SourceInstructions.{deed, insts_of_block, is_inside, is_unreachable, pointers_of, traps}
use Rattle.ax_module.specs.declared.module.Block.{Block}
use Rattle.ax_module.specs.declared.operand.Addr.{Addr}
use Rattle.ax_module.specs.declared.operand.Operand.{Operand}
use Rattle.ax_module.specs.declared.types.Ty.{Ty}
use Rattle.ax_source_run.specs.SourcePointers.{base_of, blocks_in, is_element, stepped_if}
use Rattle.ax_source_run.specs.SourceRun.{source_run, source_start}
use Rattle.ax_source_run.specs.SourceState.{PendingStore, Pointer, SourceProcessor, SourceProgram, SourceState, Pair}
use Rattle.ax_mid.specs.declared.code.Mid.{Mid}
use Rattle.ax_mid.specs.Machine as machine
use Rattle.ax_mid.specs.Machine.{MidState, act_step, line_at, mid_event, mid_run, missed_if, seen_if}
use Rattle.ax_mid.specs.Processor.{MidDeed, MidProcessor}
use Rattle.ax_words.specs.declared.source.SourceEvent.{SourceEvent}
use Rattle.ax_words.specs.declared.source.SourceEvent.TheVariants.{Act, Look, Miss, Drain}
use Rattle.ax_words.specs.declared.source.SourceStatus.{SourceStatus}
use Rattle.ax_words.specs.declared.source.SourceStatus.TheVariants.{Running, Ended, Trapped}
use Rattle.ax_standing.specs.Standing.{AreOnWalks, IsOnWalk}
use Rattle.ax_typed.specs.Typed.{IsTyped}
use Rattle.ax_selected.specs.Contract.{Alike, Follows, Keeps, Known, Leaves, LeavesIf, Stands, missed_processor, missed_to, ready}
use Rattle.ax_selected.specs.InStep.{CanAct, InStep, IsAtSite, Reaches}

-- ---- one processor of many
put_both : {A B : Type 0} (P : A → B → Type 0) (f : ℕ → A) (g : ℕ → B) (k : ℕ) (x : A) (y : B) → ((q : ℕ) → P (f q) (g q)) → P x y → (q : ℕ) → P (put_at f k x q) (put_at g k y q)
put_both P f g k x y all is q = by (nat_eq q k)
  where
    by : (b : Bool) → P (if b then x else f q) (if b then y else g q)
    by true = is
    by false = all q

run_more : (program : SourceProgram) (done : List SourceEvent) (e : SourceEvent) (s : SourceState) → source_run program (done ++ e ∷ []) s ≡ source_event program e (source_run program done s)
run_more program [] e s = refl
run_more program (d ∷ done) e s = run_more program done e (source_event program d s)

-- what a look saw, and what waits, bear on no pointer
module _ (program : SourceProgram) (x : SourceProcessor) (saw : Option ℕ) (stores : List PendingStore) where
  abbrev other : SourceProcessor
  other = record x { seen = saw; pending = stores }

  step_same : (o : Option (Ty × ℕ × Ty × Operand)) (q : Pointer) → stepped_if program.source o other q ≡ stepped_if program.source o x q
  step_same None q = refl
  step_same (Some step) q = refl

  inside_same : (a : Addr) → is_inside program other a ≡ is_inside program x a
  inside_same a = ap (is_element program.source x.function) (step_same a.step (base_of a.base x.values))

  traps_same : (i : Inst) → traps program other i ≡ traps program x i
  traps_same i = ap (λ (f : Addr → Bool). if is_unreachable i then true else list_any f (pointers_of i)) (λ j a. not (inside_same a j))

  inst_same : (st : SourceStatus) → inst_if program st other ≡ inst_if program st x
  inst_same Running = refl
  inst_same Ended = refl
  inst_same Trapped = refl

stands_at : (program : SourceProgram) (x : SourceProcessor) (w : IsOnWalk program x.function x.block x.index x.values) → inst_at program x ≡ Some w.inst
stands_at program x w = ap (λ (blocks : List Block). slice_get (insts_of_block blocks x.block) x.index) (ap blocks_in w.here) ∙ w.at

module _ {R : Type 0} (key : R → ℕ) (program : SourceProgram) (code : Mid R) (begins : ℕ → ℕ → ℕ → ℕ) (most : ℕ) (base : ℕ → ℕ) (keeps : (p : ℕ) → Keeps key program code begins most (base p)) where
  -- what is seen of both is alike, and a running one stands at the code of its instruction; what a look saw is of an access that is inside
  pub record Standing (s : SourceProcessor) (c : MidProcessor) : Type 0 where
    pub alike : Alike s c
    pub stands : s.status ≡ Running → Stands program.source begins s c
    pub inside : (n : ℕ) (i : Inst) → s.seen ≡ Some n → next_inst program s ≡ Some i → traps program s i ≡ false

  pub record Related (s : SourceState) (m : MidState) : Type 0 where
    pub numbers : m.numbers ≡ s.numbers
    pub outputs : m.outputs ≡ s.outputs
    pub standing : (p : ℕ) → Standing (s.processors p) (m.processors p)

  -- ---- what an event does, piece by piece
  module _ (s : SourceState) (m : MidState) (p : ℕ) (related : Related s m) where
    abbrev x : SourceProcessor
    x = s.processors p

    abbrev c : MidProcessor
    c = m.processors p

    put_standing : (y : SourceProcessor) (d : MidProcessor) → Standing y d → (q : ℕ) → Standing (put_at s.processors p y q) (put_at m.processors p d q)
    put_standing y d is = put_both Standing s.processors m.processors p y d related.standing is

    runs : (t : SourceProcessor) (st : SourceStatus) (i : Inst) → inst_if program st t ≡ Some i → st ≡ Running
    runs t Running i e = refl
    runs t Ended i e = absurd (none-some i e)
    runs t Trapped i e = absurd (none-some i e)

    -- an Act ends what a look saw, but where it traps, and then no instruction is next
    ended : (t : SourceProcessor) → (t.status ≡ Running → t.seen ≡ None) → (n : ℕ) (i : Inst) → t.seen ≡ Some n → next_inst program t ≡ Some i → traps program t i ≡ false
    ended t quiet n i seen next = absurd (none-some n (sym (quiet (runs t t.status i next)) ∙ seen))

    outputs_same : (o : Option ℕ) → machine.outputs_of p o ≡ outputs_of p o
    outputs_same None = refl
    outputs_same (Some n) = refl

    act_with : (t : Deed) (d : MidDeed) → Leaves program.source begins t d → Related (after p t s) (machine.after p (Some d) m)
    act_with t d leaves = record {
      numbers = leaves.numbers;
      outputs = ap (λ (o : Option ℕ). m.outputs ++ machine.outputs_of p o) leaves.output ∙ ap (λ (out : List (ℕ × ℕ)). m.outputs ++ out) (outputs_same t.output) ∙ ap (λ (outs : List (ℕ × ℕ)). outs ++ outputs_of p t.output) related.outputs;
      standing = put_standing t.processor d.processor (record {
        alike = leaves.alike;
        stands = leaves.stands;
        inside = ended t.processor (λ r. sym leaves.alike.seen ∙ leaves.unseen r);
      });
    }

    seen_inside : (i : Inst) (n : ℕ) → seen_by program i x s.numbers ≡ Some n → traps program x i ≡ false
    unfolding seen_by pointers_of is_unreachable
    seen_inside (inst.Cmpxchg true addr ty expected new_ty new success failure align) n e = by (is_inside program x addr) e
      where
        by : (b : Bool) → (if b then Rattle.ax_source_run.specs.SourceEvent.number_at program (Rattle.ax_source_run.specs.SourcePointers.pointer_of program.source addr x) s.numbers else None) ≡ Some n → (not b || false) ≡ false
        by true h = refl
        by false h = absurd (none-some n h)
    seen_inside _ n e = absurd (none-some n e)

    look_with : (i : Inst) → next_inst program x ≡ Some i → (o : Option ℕ) → seen_by program i x s.numbers ≡ o → x.status ≡ Running → Related (looked program p o s) (machine.looked p o m)
    look_with i next None e running = related
    look_with i next (Some n) e running =
        let old = related.standing p in
        let stands = old.stands running in
        record {
          numbers = related.numbers;
          outputs = related.outputs;
          standing = put_standing (record x { seen = Some n }) (record c { seen = Some n }) (record {
            alike = record { status = old.alike.status; seen = refl; pending = old.alike.pending };
            stands = λ r. record { place = stands.place; matches = record { values = stands.matches.values; allocas = stands.matches.allocas } };
            inside = λ k j seen there. traps_same program x (Some n) x.pending j ∙ subst (λ (y : Inst). traps program x y ≡ false) (same_Some i j (sym next ∙ (sym (inst_same program x (Some n) x.pending x.status) ∙ there))) (seen_inside i n e);
          });
        }

    miss_to : (b : Bool) (n : ℕ) (o : Option MidProcessor) → LeavesIf program.source begins (missed_to b (gets (number_of_next program x) (Pair n false) x)) o
        → Related (if b then with_processor p (gets (number_of_next program x) (Pair n false) x) s else s) (machine.with_processor p o m)
    miss_to true n None h = absurd h
    miss_to true n (Some d) h = record {
      numbers = related.numbers;
      outputs = related.outputs;
      standing = put_standing (gets (number_of_next program x) (Pair n false) x) d (record { alike = h.0; stands = λ r. h.1; inside = λ k j seen there. absurd (none-some k seen) });
    }
    miss_to false n None h = related
    miss_to false n (Some d) h = absurd h

    miss_with : (expected seen : Option ℕ) (o : Option MidProcessor) → LeavesIf program.source begins (missed_processor program expected seen x) o → Related (missed program p expected seen s) (machine.with_processor p o m)
    miss_with None seen None h = related
    miss_with None seen (Some d) h = absurd h
    miss_with (Some e) None None h = related
    miss_with (Some e) None (Some d) h = absurd h
    miss_with (Some e) (Some n) o h = miss_to (nat_eq e n) e o h

    drain_with : (stores : List PendingStore) → x.pending ≡ stores → Related (drained program p stores s) (machine.drained p stores m)
    drain_with [] e = related
    drain_with (store ∷ stores) e =
        let old = related.standing p in
        record {
          numbers = ap (element_set store.global store.element store.number) related.numbers;
          outputs = related.outputs;
          standing = put_standing (record x { pending = stores }) (record c { pending = stores }) (record {
            alike = record { status = old.alike.status; seen = old.alike.seen; pending = refl };
            stands = λ r. let stands = old.stands r in record { place = stands.place; matches = record { values = stands.matches.values; allocas = stands.matches.allocas } };
            inside = λ k j seen there. traps_same program x x.seen stores j ∙ old.inside k j seen (sym (inst_same program x x.seen stores x.status) ∙ there);
          });
        }

    -- ---- an event of a processor that is running, and of one that isn't
    abbrev happens : SourceEvent → SourceStatus → MidState
    happens e st = machine.happens key program.target code base most e st m

    module _ (typed : IsTyped program.source s) (i : Inst) (next : next_inst program x ≡ Some i) (running : x.status ≡ Running) (walk : IsOnWalk program x.function x.block x.index x.values) where
      known : Known program x s.numbers i
      known = record { next = next; running = running; walk = walk; typed = typed.processors p; objects = typed.numbers; seen = λ n e. (related.standing p).inside n i e next }

      follows : Follows key program code begins most (base p) x c s.numbers i
      follows = (keeps p).follows x c s.numbers i known (related.standing p).alike ((related.standing p).stands running)

      act_running : Related (act program p (Some i) s) (happens (Act p) Running)
      act_running =
          let is = ap (λ (ns : ℕ → ℕ → ℕ). act_step key program.target code (base p) (ready key program code begins most (base p) c) ns) related.numbers ∙ follows.acts.is in
          subst (λ (o : Option MidDeed). Related (act program p (Some i) s) (machine.after p o m)) (sym is) (act_with (deed program x (number_of_next program x) s.numbers i) follows.acts.does follows.acts.leaves)

      look_running : Related (look program p (Some i) s) (happens (Look p) Running)
      look_running =
          let at = ready key program code begins most (base p) c in
          let is = ap (λ (ns : ℕ → ℕ → ℕ). seen_if key program.target code (base p) (line_at key program.target code (base p) at) at ns) related.numbers ∙ follows.looks in
          subst (λ (o : Option ℕ). Related (look program p (Some i) s) (machine.looked p o m)) (sym is) (look_with i next (seen_by program i x s.numbers) refl running)

      miss_running : Related (miss program p (Some i) s) (happens (Miss p) Running)
      miss_running =
          let at = ready key program code begins most (base p) c in
          miss_with (expected_by program i x) x.seen (missed_if key program.target code (base p) (line_at key program.target code (base p) at) at) follows.misses

    module _ (typed : IsTyped program.source s) (goes : x.status ≡ Running → IsOnWalk program x.function x.block x.index x.values) where
      acted : (st : SourceStatus) → x.status ≡ st → Related (act program p (inst_if program st x) s) (happens (Act p) st)
      acted Running e =
          let w = goes e in
          let next : inst_if program Running x ≡ Some w.inst = stands_at program x w in
          let at : next_inst program x ≡ Some w.inst = subst (λ (st : SourceStatus). inst_if program st x ≡ Some w.inst) (sym e) next in
          subst (λ (o : Option Inst). Related (act program p o s) (happens (Act p) Running)) (sym next) (act_running typed w.inst at e w)
      acted Ended e = related
      acted Trapped e = related

      looked_at : (st : SourceStatus) → x.status ≡ st → Related (look program p (inst_if program st x) s) (happens (Look p) st)
      looked_at Running e =
          let w = goes e in
          let next : inst_if program Running x ≡ Some w.inst = stands_at program x w in
          let at : next_inst program x ≡ Some w.inst = subst (λ (st : SourceStatus). inst_if program st x ≡ Some w.inst) (sym e) next in
          subst (λ (o : Option Inst). Related (look program p o s) (happens (Look p) Running)) (sym next) (look_running typed w.inst at e w)
      looked_at Ended e = related
      looked_at Trapped e = related

      missed_at : (st : SourceStatus) → x.status ≡ st → Related (miss program p (inst_if program st x) s) (happens (Miss p) st)
      missed_at Running e =
          let w = goes e in
          let next : inst_if program Running x ≡ Some w.inst = stands_at program x w in
          let at : next_inst program x ≡ Some w.inst = subst (λ (st : SourceStatus). inst_if program st x ≡ Some w.inst) (sym e) next in
          subst (λ (o : Option Inst). Related (miss program p o s) (happens (Miss p) Running)) (sym next) (miss_running typed w.inst at e w)
      missed_at Ended e = related
      missed_at Trapped e = related

  event_related : (e : SourceEvent) (s : SourceState) (m : MidState) → Related s m → IsTyped program.source s → AreOnWalks program s
      → Related (source_event program e s) (mid_event key program.target code base most e m)
  event_related (Act p) s m r typed goes = subst (λ (st : SourceStatus). Related (source_event program (Act p) s) (machine.happens key program.target code base most (Act p) st m)) (sym (r.standing p).alike.status) (acted s m p r typed (goes p) (s.processors p).status refl)
  event_related (Look p) s m r typed goes = subst (λ (st : SourceStatus). Related (source_event program (Look p) s) (machine.happens key program.target code base most (Look p) st m)) (sym (r.standing p).alike.status) (looked_at s m p r typed (goes p) (s.processors p).status refl)
  event_related (Miss p) s m r typed goes = subst (λ (st : SourceStatus). Related (source_event program (Miss p) s) (machine.happens key program.target code base most (Miss p) st m)) (sym (r.standing p).alike.status) (missed_at s m p r typed (goes p) (s.processors p).status refl)
  event_related (Drain p) s m r typed goes = subst (λ (stores : List PendingStore). Related (source_event program (Drain p) s) (machine.drained p stores m)) (sym (r.standing p).alike.pending) (drain_with s m p r (s.processors p).pending refl)

  -- ---- runs
  module _ (entries : List ℕ) (reaches : Reaches program entries) (first : MidState) (start : Related (source_start program.source entries) first) where
    run_related : (done events : List SourceEvent) (m : MidState) → Related (source_run program done (source_start program.source entries)) m
        → Related (source_run program events (source_run program done (source_start program.source entries))) (mid_run key program.target code base most events m)
    run_related done [] m r = r
    run_related done (e ∷ events) m r =
        let s = source_run program done (source_start program.source entries) in
        let next : source_run program (done ++ e ∷ []) (source_start program.source entries) ≡ source_event program e s = run_more program done e (source_start program.source entries) in
        subst (λ (t : SourceState). Related (source_run program events t) (mid_run key program.target code base most events (mid_event key program.target code base most e m))) next
        (run_related (done ++ e ∷ []) events (mid_event key program.target code base most e m)
        (subst (λ (t : SourceState). Related t (mid_event key program.target code base most e m)) (sym next) (event_related e s m r (reaches.typed done) (reaches.walks done))))

    pub in_step : (events : List SourceEvent) → InStep (source_run program events (source_start program.source entries)) (mid_run key program.target code base most events first)
    in_step events =
        let r = run_related [] events first start in
        record { numbers = r.numbers; outputs = r.outputs; alike = λ p. (r.standing p).alike }

    -- the line that has a running processor's next event is at the site of its instruction
    pub at_sites : (events : List SourceEvent) (p : ℕ) → ((source_run program events (source_start program.source entries)).processors p).status ≡ Running
        → IsAtSite key program code most (base p) ((source_run program events (source_start program.source entries)).processors p) ((mid_run key program.target code base most events first).processors p)
    at_sites events p runs =
        let s = source_run program events (source_start program.source entries) in
        let m = mid_run key program.target code base most events first in
        let w = reaches.walks events p runs in
        let next : next_inst program (s.processors p) ≡ Some w.inst = subst (λ (st : SourceStatus). inst_if program st (s.processors p) ≡ Some w.inst) (sym runs) (stands_at program (s.processors p) w) in
        (follows s m p (run_related [] events first start) (reaches.typed events) w.inst next runs w).site

    -- and this event can be
    pub goes_on : (events : List SourceEvent) (p : ℕ) → ((source_run program events (source_start program.source entries)).processors p).status ≡ Running
        → CanAct key program code most (base p) ((mid_run key program.target code base most events first).processors p) (mid_run key program.target code base most events first).numbers
    goes_on events p runs =
        let s = source_run program events (source_start program.source entries) in
        let m = mid_run key program.target code base most events first in
        let w = reaches.walks events p runs in
        let r = run_related [] events first start in
        let next : next_inst program (s.processors p) ≡ Some w.inst = subst (λ (st : SourceStatus). inst_if program st (s.processors p) ≡ Some w.inst) (sym runs) (stands_at program (s.processors p) w) in
        let acts = (follows s m p r (reaches.typed events) w.inst next runs w).acts in
        (acts.does, ap (λ (ns : ℕ → ℕ → ℕ). act_step key program.target code (base p) (ready key program code begins most (base p) (m.processors p)) ns) r.numbers ∙ acts.is)
