-- Where a target has no buffers, no store waits.
use Rattle.std.proofs.Common.{◌≡◌, ℕ, Bool, true, false, List, [], ◌∷◌, Option, Some, None, refl, sym, ◌∙◌, subst}
use Rattle.std.specs.Prelude.{if◌then◌else◌, nat_eq, slice_get}
use Rattle.ax_module.specs.declared.inst.Inst.{Inst}
use Rattle.ax_module.specs.declared.inst.Inst.TheVariants as inst
use Rattle.ax_module.specs.declared.operand.Arg.{Arg}
use Rattle.ax_words.specs.declared.source.SourceStatus.TheVariants.{Trapped}
use Rattle.ax_words.specs.declared.source.SourceEvent.{SourceEvent}
use Rattle.ax_words.specs.declared.source.SourceEvent.TheVariants.{Act, Look, Miss, Drain}
use Rattle.ax_target.specs.Targets.{is_buffered}
use Rattle.ax_source_run.specs.SourceAccess.{Access, Manner, Waits, Looks, Drains, ObjectOperation, Reply, Silent, Found, FoundEqual, Into, EqualOrInto, accessed, is_expected, is_native_element, manner_of, object_done, put_at, replied, shared_done, written_into}
use Rattle.ax_source_run.specs.SourceEvent.{act, drained, expected_by, look, looked, miss, missed, next_inst, number_of_next, seen_by, source_event}
use Rattle.ax_source_run.specs.SourceInstructions.{access_of, changed, deed, deed_of, done_by, fenced, is_out, result_in, resulted, traps, written}
use Rattle.ax_source_run.specs.SourcePointers.{elements_of}
use Rattle.ax_source_run.specs.SourceRun.{first_processor, source_run, source_start}
use Rattle.ax_source_run.specs.SourceState.{Object, Shared, Private, SourceProcessor, SourceProgram, SourceState, SourceValue}
use Rattle.ax_source_run.specs.SourceValues.{type_bits}

into_keeps : (o : Object) (i n : ℕ) (s : SourceProcessor) → (written_into o i n s).pending ≡ s.pending
into_keeps (Shared g) i n s = refl
into_keeps (Private r) i n s = refl

reply_keeps : (reply : Reply) (k : ℕ) (equal : Bool) (n : ℕ) (s : SourceProcessor) → (replied reply k equal n s).pending ≡ s.pending
reply_keeps Silent k equal n s = refl
reply_keeps Found k equal n s = refl
reply_keeps FoundEqual k equal n s = refl
reply_keeps (Into p) k equal n s = into_keeps p.object p.index n s
reply_keeps (EqualOrInto p) k true n s = refl
reply_keeps (EqualOrInto p) k false n s = into_keeps p.object p.index n s

module _ (program : SourceProgram) (unbuffered : is_buffered program.target ≡ false) where
  module _ (s : SourceProcessor) (none : s.pending ≡ []) where
    shared_keeps : (manner : Manner) (buffered : Bool) (bits g i : ℕ) (operation : ObjectOperation) (numbers : ℕ → ℕ → ℕ) → buffered ≡ false → (shared_done manner buffered bits g i operation s numbers).processor.pending ≡ []
    shared_keeps (Waits n) true bits g i operation numbers e = absurd cc
    shared_keeps (Waits n) false bits g i operation numbers e = none
    shared_keeps Looks buffered bits g i operation numbers e = none
    shared_keeps Drains buffered bits g i operation numbers e = refl

    object_keeps : (o : Object) (i : ℕ) (operation : ObjectOperation) (may_wait : Bool) (numbers : ℕ → ℕ → ℕ) → (object_done program o i operation may_wait s numbers).processor.pending ≡ []
    object_keeps (Shared g) i operation may_wait numbers =
        shared_keeps (manner_of (is_native_element program g i) operation may_wait) (is_buffered program.target) (type_bits (elements_of program.source s.function (Shared g)).elem) g i operation numbers unbuffered
    object_keeps (Private r) i operation may_wait numbers = none

    access_keeps : (access : Access) (k : ℕ) (numbers : ℕ → ℕ → ℕ) → (accessed program access k s numbers).processor.pending ≡ []
    access_keeps access k numbers =
        let done = object_done program access.pointer.object access.pointer.index access.operation access.may_wait s numbers in
        reply_keeps access.reply k (is_expected access.operation done.found) done.found done.processor
        ∙ object_keeps access.pointer.object access.pointer.index access.operation access.may_wait numbers

    result_keeps : (result : Option SourceValue) (k : ℕ) → (resulted program s result k).pending ≡ []
    result_keeps (Some v) k = none
    result_keeps None k = none

    done_keeps : (access : Option Access) (result : Option SourceValue) (k : ℕ) (numbers : ℕ → ℕ → ℕ) → (done_by program s access result k numbers).processor.pending ≡ []
    done_keeps (Some access) result k numbers = access_keeps access k numbers
    done_keeps None result k numbers = result_keeps result k

    fence_keeps : (t : Bool) (numbers : ℕ → ℕ → ℕ) → (fenced program s t numbers).processor.pending ≡ []
    fence_keeps true numbers = refl
    fence_keeps false numbers = none

    call_keeps : (t : Bool) (args : List Arg) (access : Option Access) (result : Option SourceValue) (k : ℕ) (numbers : ℕ → ℕ → ℕ) → (if t then written program s args numbers else done_by program s access result k numbers).processor.pending ≡ []
    call_keeps true args access result k numbers = none
    call_keeps false args access result k numbers = done_keeps access result k numbers

    inst_keeps : (i : Inst) (k : ℕ) (numbers : ℕ → ℕ → ℕ) → (deed_of program s k numbers i).processor.pending ≡ []
    unfolding deed_of
    inst_keeps (inst.Jump b) k numbers = none
    inst_keeps (inst.Branch condition a b) k numbers = none
    inst_keeps inst.RetVoid k numbers = none
    inst_keeps (inst.Fence single order) k numbers = fence_keeps _ numbers
    inst_keeps (inst.Call result name args) k numbers = call_keeps (is_out name) args (access_of program s (inst.Call result name args)) (result_in program s k (inst.Call result name args)) k numbers
    inst_keeps i k numbers = done_keeps (access_of program s i) (result_in program s k i) k numbers

    trap_keeps : (t : Bool) (i : Inst) (k : ℕ) (numbers : ℕ → ℕ → ℕ) → (if t then changed program s (record s { status = Trapped }) numbers else deed_of program s k numbers i).processor.pending ≡ []
    trap_keeps true i k numbers = none
    trap_keeps false i k numbers = inst_keeps i k numbers

    deed_keeps : (i : Inst) (k : ℕ) (numbers : ℕ → ℕ → ℕ) → (deed program s k numbers i).processor.pending ≡ []
    deed_keeps i k numbers = trap_keeps (traps program s i) i k numbers

  abbrev NoneWait : SourceState → Type 0
  NoneWait s = (p : ℕ) → (s.processors p).pending ≡ []

  put_keeps : (f : ℕ → SourceProcessor) (p : ℕ) (x : SourceProcessor) → ((q : ℕ) → (f q).pending ≡ []) → x.pending ≡ [] → (q : ℕ) → (put_at f p x q).pending ≡ []
  put_keeps f p x all h q = chosen (nat_eq q p)
    where
      chosen : (t : Bool) → (if t then x else f q).pending ≡ []
      chosen true = h
      chosen false = all q

  module _ (s : SourceState) (p : ℕ) (all : NoneWait s) where
    act_keeps : (o : Option Inst) → NoneWait (act program p o s)
    act_keeps None = all
    act_keeps (Some i) = put_keeps s.processors p _ all (deed_keeps (s.processors p) (all p) i (number_of_next program (s.processors p)) s.numbers)

    looked_keeps : (o : Option ℕ) → NoneWait (looked program p o s)
    looked_keeps None = all
    looked_keeps (Some n) = put_keeps s.processors p _ all (all p)

    look_keeps : (o : Option Inst) → NoneWait (look program p o s)
    look_keeps None = all
    look_keeps (Some i) = looked_keeps (seen_by program i (s.processors p) s.numbers)

    if_keeps : (t : Bool) (x : SourceProcessor) → x.pending ≡ [] → NoneWait (if t then record s { processors = put_at s.processors p x } else s)
    if_keeps true x h = put_keeps s.processors p x all h
    if_keeps false x h = all

    missed_keeps : (expected seen : Option ℕ) → NoneWait (missed program p expected seen s)
    missed_keeps None seen = all
    missed_keeps (Some n) None = all
    missed_keeps (Some n) (Some m) = if_keeps (nat_eq n m) _ (all p)

    miss_keeps : (o : Option Inst) → NoneWait (miss program p o s)
    miss_keeps None = all
    miss_keeps (Some i) = missed_keeps (expected_by program i (s.processors p)) (s.processors p).seen

  event_keeps : (e : SourceEvent) (s : SourceState) → NoneWait s → NoneWait (source_event program e s)
  event_keeps (Act p) s all = act_keeps s p all (next_inst program (s.processors p))
  event_keeps (Look p) s all = look_keeps s p all (next_inst program (s.processors p))
  event_keeps (Miss p) s all = miss_keeps s p all (next_inst program (s.processors p))
  event_keeps (Drain p) s all = subst (λ stores. NoneWait (drained program p stores s)) (sym (all p)) all

  run_keeps : (events : List SourceEvent) (s : SourceState) → NoneWait s → NoneWait (source_run program events s)
  run_keeps [] s all = all
  run_keeps (e ∷ events) s all = run_keeps events (source_event program e s) (event_keeps e s all)

first_waits : (o : Option ℕ) → (first_processor o).pending ≡ []
first_waits None = refl
first_waits (Some f) = refl

pub nothing_waits : (program : SourceProgram) (entries : List ℕ) (events : List SourceEvent) (p : ℕ) → is_buffered program.target ≡ false → ((source_run program events (source_start program.source entries)).processors p).pending ≡ []
nothing_waits program entries events p h = run_keeps program h events (source_start program.source entries) (λ q. first_waits (slice_get entries q)) p
