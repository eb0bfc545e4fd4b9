-- One event more of a run and of its explanation.
use Rattle.std.proofs.Common.{◌≡◌, ◌≢◌, ℕ, ◌+◌, ◌<◌, Bool, List, [], ◌∷◌, ◌++◌, length, refl, sym, ap, ◌∙◌, subst, append-nil, append_assoc, arith}
use Rattle.std.specs.Prelude.{slice_index_or, slice_set, nat_eq, if◌then◌else◌, option_to_list}
use Rattle.std.proofs.lemmas.Bool.Decides.{nat_tests}
use Rattle.std.proofs.lemmas.Grind.{common_steps}
use Rattle.ax_words.specs.declared.event.Event.{Event}
use Rattle.ax_words.specs.declared.event.Event.TheVariants.{Step, Drain, Drop}
use Rattle.ax_words.specs.declared.source.SourceEvent.{SourceEvent}
use Rattle.ax_store.specs.declared.entry.Entry.{Entry}
use Rattle.ax_store.specs.Storage.{Storage, drain_one, drained, dropped}
use Rattle.ax_store.specs.Store.{storage_of}
use Rattle.ax_isa.specs.declared.cpu.Status.{Status}
use Rattle.ax_isa.specs.declared.cpu.Status.TheVariants.{Running, Ended, Trapped, Stuck}
use Rattle.ax_isa.specs.declared.effects.Outcome.{Outcome}
use Rattle.ax_isa.specs.declared.images.Image.{Image}
use Rattle.ax_isa.specs.Past.{Noted, Past, noted, drain, drain_first, drain_list, drop_link}
use Rattle.ax_isa.specs.Processor.{Processor}
use Rattle.ax_isa.specs.Run.{Machine, Setting, after_step, done, drain_events, events_if, events_of, explain, explained, first_drain, flushing, gives, happens, made_by, outputs_of, ready, run, sent, step, step_if, with_noted}
use Rattle.ax_isa.specs.Steps.{Kind, waits}
use Rattle.ax_isa.specs.Tells.{Done, Library, given_of}
use Rattle.ax_follow.proofs.Runs.{step_gives}
use Rattle.ax_source_run.specs.SourceState.{SourceProgram}
use Rattle.ax_agree.specs.Agree.{is_native_entry}
use Rattle.ax_agree.specs.Library.{image_setting, library_of}
use Rattle.ax_run.specs.Machine.{Advanced, MachineState, Readied, SentFirst, Shows, Tells, counted, cpu_in, noted_in, passed, processor_in, retired_in, sent_at, stored}

module _ {I : Type 0} (x : Setting I) where
  pub run_more : (es : List Event) (e : Event) (m : Machine) → run x (es ++ e ∷ []) m ≡ happens x e (run x es m)
  run_more [] e m = refl
  run_more (y ∷ es) e m = run_more es e (happens x y m)

  module _ (counts : Entry → Bool) where
    explain_more : (es : List Event) (e : Event) (m : Machine) → explain x given_of x.tags counts (es ++ e ∷ []) m ≡ explain x given_of x.tags counts es m ++ explained x given_of x.tags counts e (run x es m)
    explain_more [] e m = append-nil (explained x given_of x.tags counts e m)
    explain_more (y ∷ es) e m =
        let first = explained x given_of x.tags counts y m in
        let next = happens x y m in
        ap (λ l. first ++ l) (explain_more es e next) ∙ joined first (explain x given_of x.tags counts es next) (explained x given_of x.tags counts e (run x es next))
      where
        joined : (a b c : List SourceEvent) → a ++ (b ++ c) ≡ a ++ b ++ c
        joined a b c = grind (arith, common_steps)

-- a list with one element set
pub set_one : (xs : List ℕ) (p v q : ℕ) → p < length xs → slice_index_or (slice_set xs p v) q 0 ≡ (if nat_eq q p then v else slice_index_or xs q 0)
set_one xs p v q h = grind (arith, common_steps, nat_tests)

rests : {I : Type 0} (x : Setting I) (s : Status) (p : ℕ) (m : Machine) → s ≢ Running → m ≡ step_if x s p m
rests x Running p m h = absurd (h refl)
rests x Ended p m h = refl
rests x Trapped p m h = refl
rests x Stuck p m h = refl

silent : {I : Type 0} (x : Setting I) (counts : Entry → Bool) (s : Status) (p : ℕ) (m : Machine) → s ≢ Running → [] ≡ events_if x given_of x.tags counts s p m
silent x counts Running p m h = absurd (h refl)
silent x counts Ended p m h = refl
silent x counts Trapped p m h = refl
silent x counts Stuck p m h = refl

drain_is : (p : ℕ) (es : List Entry) (n : Noted) → drain_one p es n.storage ≡ (drain_first p es n).storage
drain_is p [] n = refl
drain_is p (e ∷ es) n = refl

module _ {I : Type 0} (kind : Kind I) (image : Image I) (start : Machine) (old : MachineState) (p : ℕ) (known : p < length old.processors) (told : Tells kind image start old) where
  abbrev x : Setting I
  x = image_setting kind image

  abbrev counts : Entry → Bool
  counts = is_native_entry old.program

  abbrev now : Machine
  now = run x old.events start

  abbrev deed : Done
  deed = done x p now

  shown : Shows old now
  shown = told.shows

  module _ (new : MachineState) where
    -- one event more, of which the state is what the run has it
    telling : (e : Event) → new.program ≡ old.program → new.events ≡ old.events ++ e ∷ [] → new.sources ≡ old.sources ++ explained x given_of x.tags counts e now → Shows new (happens x e now) → Tells kind image start new
    telling e program events sources shows =
        record {
          sources = sources
              ∙ ap (λ l. l ++ explained x given_of x.tags counts e now) told.sources
              ∙ sym (explain_more x counts old.events e start)
              ∙ ap (λ es. explain x given_of x.tags counts es start) (sym events)
              ∙ ap (λ (q : SourceProgram). explain x given_of x.tags (is_native_entry q) new.events start) (sym program);
          shows = subst (λ es. Shows new (run x es start)) (sym events) (subst (Shows new) (sym (run_more x old.events e start)) shows);
        }

    pub pass_tells : (cpu_in old p).status ≢ Running → new ≡ passed (Step p) old → Tells kind image start new
    pass_tells other e =
        telling (Step p) (ap (λ (r : MachineState). r.program) e) (ap (λ (r : MachineState). r.events) e)
        (ap (λ (r : MachineState). r.sources) e ∙ sym (append-nil old.sources) ∙ ap (λ l. old.sources ++ l) (silent x counts _ p now rest))
        (subst (Shows new) (rests x _ p now rest) (subst (λ r. Shows r now) (sym e) shows))
      where
        rest : (now.processors p).status ≢ Running
        rest h = other (ap (λ (c : Processor). c.status) (shown.processors p known) ∙ h)

        shows : Shows (passed (Step p) old) now
        shows = record { processors = shown.processors; storage = shown.storage; outputs = shown.outputs; retired = shown.retired }

    -- a change of the storage alone
    module _ (mid : MachineState) where
      pub drain_tells : SentFirst p old mid → new ≡ passed (Drain p) mid → Tells kind image start new
      drain_tells first g =
          let is : new ≡ passed (Drain p) (record old { store = mid.store; natives = mid.natives; sources = mid.sources }) = g ∙ ap (passed (Drain p)) first.sent.rest in
          telling (Drain p) (ap (λ (r : MachineState). r.program) is) (ap (λ (r : MachineState). r.events) is)
          (ap (λ (r : MachineState). r.sources) is ∙ first.sources ∙ ap (λ (st : Storage). old.sources ++ first_drain counts p (st.waiting p)) shown.storage)
          (subst (λ r. Shows r (with_noted (drain p now.noted) now)) (sym is) shows)
        where
          shows : Shows (passed (Drain p) (record old { store = mid.store; natives = mid.natives; sources = mid.sources })) (with_noted (drain p now.noted) now)
          shows = record {
            processors = shown.processors;
            storage = first.storage ∙ ap (drained p) shown.storage ∙ drain_is p (now.noted.storage.waiting p) now.noted;
            outputs = shown.outputs;
            retired = shown.retired;
          }

      pub drop_tells : storage_of mid.store ≡ dropped p (storage_of old.store) → mid ≡ stored mid.store old → new ≡ passed (Drop p) mid → Tells kind image start new
      drop_tells same rest g =
          let is : new ≡ passed (Drop p) (stored mid.store old) = g ∙ ap (passed (Drop p)) rest in
          telling (Drop p) (ap (λ (r : MachineState). r.program) is) (ap (λ (r : MachineState). r.events) is)
          (ap (λ (r : MachineState). r.sources) is ∙ sym (append-nil old.sources))
          (subst (λ r. Shows r (with_noted (drop_link p now.noted) now)) (sym is) shows)
        where
          shows : Shows (passed (Drop p) (stored mid.store old)) (with_noted (drop_link p now.noted) now)
          shows = record { processors = shown.processors; storage = same ∙ ap (dropped p) shown.storage; outputs = shown.outputs; retired = shown.retired }

    -- a step of a running processor, which finds its buffer empty where it flushes
    module _ (mid : MachineState) (ready_is : Readied kind image p old mid) (adv : Advanced kind image p mid new) where
      cells : p < length old.retired
      cells = subst (λ (r : MachineState). p < length r.retired) ready_is.sent.rest adv.cells

      abbrev past : Past
      past = now.noted.past

      abbrev readied : Noted
      readied = (ready x p now).noted

      abbrev with_sources : MachineState → MachineState
      with_sources r = record r { store = mid.store; natives = mid.natives; sources = mid.sources }

      abbrev after : MachineState
      after = counted p adv.shown (record old { processors = new.processors; store = new.store; natives = new.natives; sources = mid.sources })

      is : new ≡ after
      is = adv.rest ∙ ap (λ (r : MachineState). counted p adv.shown (record r { processors = new.processors; store = new.store; natives = new.natives })) ready_is.sent.rest

      old_noted : noted_in old past ≡ now.noted
      old_noted = ap (λ st. noted st past) shown.storage

      sent_is : sent_at kind image p old past ≡ sent x p now
      sent_is =
          ap (λ c. waits (flushing x p c (noted_in old past)) p (noted_in old past)) (shown.processors p known)
          ∙ ap (λ n. waits (flushing x p (now.processors p) n) p n) old_noted

      mid_storage : storage_of mid.store ≡ readied.storage
      mid_storage =
          ready_is.storage past
          ∙ ap (λ es. (drain_list es p (noted_in old past)).storage) sent_is
          ∙ ap (λ n. (drain_list (sent x p now) p n).storage) old_noted

      mid_cpu : (q : ℕ) → processor_in mid q ≡ processor_in old q
      mid_cpu q = ap (λ (r : MachineState). processor_in r q) ready_is.sent.rest

      mid_count : length mid.processors ≡ length old.processors
      mid_count = ap (λ (r : MachineState). length r.processors) ready_is.sent.rest

      -- the step of the machine is that of the run
      same_step : made_by x p (processor_in mid p) (noted_in mid readied.past) ≡ deed
      same_step =
          ap (λ es. step x p (processor_in mid p) (drain_list es p (noted_in mid readied.past))) (ready_is.none readied.past)
          ∙ ap (λ c. step x p c (noted_in mid readied.past)) (mid_cpu p ∙ shown.processors p known)
          ∙ ap (λ st. step x p (now.processors p) (noted st readied.past)) mid_storage

      abbrev library : Library
      library = library_of kind image.routines

      stepped_processor : processor_in new p ≡ deed.processor
      stepped_processor = adv.step.processor library readied.past ∙ ap (λ (d : Done). d.processor) same_step

      counts_shown : Shows after (after_step p deed (ready x p now))
      counts_shown =
          record {
            processors = λ q l. adv.others q ∙ ap (λ c. if nat_eq q p then c else processor_in mid q) stepped_processor ∙ ap (λ c. if nat_eq q p then deed.processor else c) (mid_cpu q ∙ shown.processors q (let e = adv.count in let f = mid_count in omega arith));
            storage = adv.step.storage library readied.past ∙ ap (λ (d : Done). d.noted.storage) same_step;
            outputs = ap (λ l. l ++ outputs_of p adv.shown.outcome.output) shown.outputs ∙ ap (λ (o : Outcome). now.outputs ++ outputs_of p o.output) (adv.step.outcome library readied.past ∙ ap (λ (d : Done). d.outcome) same_step);
            retired = λ q l. set_one old.retired p (retired_in old p + 1) q cells ∙ ap (λ n. if nat_eq q p then n + 1 else retired_in old q) (shown.retired p known) ∙ ap (λ n. if nat_eq q p then now.retired p + 1 else n) (shown.retired q (let e = adv.count in let f = mid_count in omega arith));
          }

      pub step_tells : (cpu_in old p).status ≡ Running → Tells kind image start new
      step_tells runs =
          telling (Step p) (ap (λ (r : MachineState). r.program) is) (ap (λ (r : MachineState). r.events) is)
          (ap (λ (r : MachineState). r.sources) is ∙ given ∙ ap (λ z. old.sources ++ events_if x given_of x.tags counts z p now) (sym running))
          (subst (Shows new) (ap (λ z. step_if x z p now) (sym running)) (subst (λ r. Shows r (after_step p deed (ready x p now))) (sym is) counts_shown))
        where
          running : (now.processors p).status ≡ Running
          running = sym (ap (λ (c : Processor). c.status) (shown.processors p known)) ∙ runs

          own : option_to_list adv.shown.gives ≡ events_of p (gives x given_of x.tags counts p now)
          own = adv.step.gives library readied.past ∙ ap (λ (d : Done). events_of p d.gives) same_step ∙ ap (events_of p) (step_gives x p (now.processors p) readied)

          given : mid.sources ++ option_to_list adv.shown.gives ≡ old.sources ++ (drain_events counts p (sent x p now) ++ events_of p (gives x given_of x.tags counts p now))
          given =
              ap (λ l. l ++ option_to_list adv.shown.gives) (ready_is.sources past)
              ∙ ap (λ es. old.sources ++ drain_events counts p es ++ option_to_list adv.shown.gives) sent_is
              ∙ ap (λ l. old.sources ++ drain_events counts p (sent x p now) ++ l) own
              ∙ append_assoc old.sources (drain_events counts p (sent x p now)) (events_of p (gives x given_of x.tags counts p now))
