-- A step that is written down: the machine stays ready for the next event.
use Rattle.std.proofs.Common.{◌≡◌, ℕ, ◌+◌, ◌-◌, ◌<◌, ◌≤◌, Bool, true, false, List, [], ◌∷◌, ◌++◌, length, refl, sym, ap, ◌∙◌, subst, arith}
use Rattle.std.specs.Prelude.{if◌then◌else◌, nat_eq, option_to_list, slice_index_or, slice_set}
use Rattle.std.proofs.lemmas.Bool.Decides.{nat_tests}
use Rattle.std.proofs.lemmas.Grind.{common_steps}
use Rattle.std.proofs.lemmas.List.{get_or_default, length-set}
use Rattle.ax_words.specs.declared.event.Event.{Event}
use Rattle.ax_words.specs.declared.event.Event.TheVariants.{Step}
use Rattle.ax_words.specs.declared.source.SourceEvent.{SourceEvent}
use Rattle.ax_store.specs.Storage.{Storage, at_place}
use Rattle.ax_store.specs.Store.{spare_of, storage_of}
use Rattle.ax_store.specs.StoreState.{StoreState}
use Rattle.ax_tags.specs.declared.tags.Tag.{Tag}
use Rattle.ax_isa.specs.declared.cpu.Cpu.{Cpu}
use Rattle.ax_isa.specs.declared.images.Image.{Image}
use Rattle.ax_isa.specs.declared.shown.Shown.{Shown}
use Rattle.ax_isa.specs.Past.{Noted, Past, drain_list, start_past}
use Rattle.ax_isa.specs.Processor.{Processor, processor_of}
use Rattle.ax_isa.specs.Run.{Setting, at_code, outputs_of, step}
use Rattle.ax_isa.specs.Stepping.{IsStepAt}
use Rattle.ax_isa.specs.Steps.{Kind}
use Rattle.ax_follow.proofs.Quiet.{step_quiet}
use Rattle.ax_agree.specs.Library.{image_setting, library_of}
use Rattle.ax_run.specs.Machine.{Advanced, IsReady, MachineState, idle, natives_in, noted_in, processor_in, retired_in, sent_at}
use Rattle.ax_run.specs.Waiting.{entering_at, grown_by}
use Rattle.ax_run.proofs.Entering.{Grows, at_enough, count_grown, step_grows}
use Rattle.ax_run.proofs.Natives.{count}
use Rattle.ax_run.proofs.Telling.{set_one}

same_or : (q p : ℕ) (P : Bool → Type 0) → (q ≡ p → P true) → ((p ≡ q → ⊥) → P false) → P (nat_eq q p)
same_or q p P same other = go (nat_eq q p) refl
  where
    go : (t : Bool) → nat_eq q p ≡ t → P t
    go true e = same (grind (arith, nat_tests, e))
    go false e = other (λ is. (let f : nat_eq q p ≡ true = grind (arith, nat_tests, is) in grind (arith, e, f)))

cpu_set : (xs : List Cpu) (p : ℕ) (c : Cpu) (q : ℕ) → p < length xs → processor_of (slice_index_or (slice_set xs p c) q idle) ≡ at_place (λ r. processor_of (slice_index_or xs r idle)) p (processor_of c) q
cpu_set xs p c q h = grind (arith, common_steps, nat_tests)

-- what a step of processor p on a machine leaves, as the calls that make it say
pub record Deed {I : Type 0} (kind : Kind I) (image : Image I) (p : ℕ) (old : MachineState) (c cpu : Cpu) (left : StoreState) (grown : ℕ) (shown : Shown) : Type 0 where
  pub ready : IsReady old
  pub room : 1 ≤ old.room
  pub known : p < length old.processors
  pub none : (past : Past) → sent_at kind image p old past ≡ []
  pub found : c ≡ slice_index_or old.processors p c
  pub code : List I
  pub code_is : code ≡ image.code
  pub tags : List Tag
  pub tags_are : tags ≡ image.tags
  pub made : IsStepAt kind code tags p (processor_of c) (processor_of cpu) old.store left shown
  pub waited : ℕ
  pub waited_are : waited ≡ length ((storage_of old.store).waiting p)
  pub waits : ℕ
  pub waits_are : waits ≡ length ((storage_of left).waiting p)
  pub grown_is : grown ≡ grown_by old.program waited waits (entering_at kind code (processor_of c))

module _ {I : Type 0} (kind : Kind I) (image : Image I) (p : ℕ) (old : MachineState) (c cpu : Cpu) (left : StoreState) (grown : ℕ) (shown : Shown) (deed : Deed kind image p old c cpu left grown shown) where
  ready : IsReady old
  ready = deed.ready

  room : 1 ≤ old.room
  room = deed.room

  known : p < length old.processors
  known = deed.known

  found : processor_of c ≡ processor_in old p
  found = ap processor_of (deed.found ∙ get_or_default old.processors p c idle known)

  stepped : IsStepAt kind image.code image.tags p (processor_in old p) (processor_of cpu) old.store left shown
  stepped =
      subst (λ code. IsStepAt kind code image.tags p (processor_in old p) (processor_of cpu) old.store left shown) deed.code_is
      (subst (λ tags. IsStepAt kind deed.code tags p (processor_in old p) (processor_of cpu) old.store left shown) deed.tags_are
      (subst (λ (d : Processor). IsStepAt kind deed.code deed.tags p d (processor_of cpu) old.store left shown) found deed.made))

  grows : grown ≡ grown_by old.program (length ((storage_of old.store).waiting p)) (length ((storage_of left).waiting p)) (entering_at kind image.code (processor_in old p))
  grows =
      deed.grown_is
      ∙ ap (λ n. grown_by old.program n deed.waits (entering_at kind deed.code (processor_of c))) deed.waited_are
      ∙ ap (λ n. grown_by old.program (length ((storage_of old.store).waiting p)) n (entering_at kind deed.code (processor_of c))) deed.waits_are
      ∙ ap (grown_by old.program (length ((storage_of old.store).waiting p)) (length ((storage_of left).waiting p))) (ap (λ code. entering_at kind code (processor_of c)) deed.code_is ∙ ap (entering_at kind image.code) found)

  abbrev after : List (ℕ × ℕ) → List SourceEvent → List Event → MachineState
  after outputs sources events =
      record {
        program = old.program;
        processors = slice_set old.processors p cpu;
        retired = slice_set old.retired p (retired_in old p + 1);
        store = left;
        natives = slice_set old.natives p (natives_in old p + grown);
        outputs = outputs;
        sources = sources;
        events = events;
        room = old.room - 1;
      }

  abbrev x : Setting I
  x = image_setting kind image

  abbrev first : Noted
  first = noted_in old start_past

  left_storage : storage_of left ≡ (step x p (processor_in old p) first).noted.storage
  left_storage = stepped.storage (library_of kind image.routines) start_past ∙ ap (λ es. (step x p (processor_in old p) (drain_list es p first)).noted.storage) (deed.none start_past)

  cells : p < 8
  cells = (let few = ready.few in omega (arith, known, few))

  whole : length (slice_set old.processors p cpu) ≡ length old.processors
  whole = length-set old.processors p cpu

  -- ---- stores that wait
  own : count old.program ((storage_of left).waiting p) ≡ natives_in old p + grown
  own =
      let came : Grows ((storage_of old.store).waiting p) ((storage_of left).waiting p) (entering_at kind image.code (processor_in old p)) =
      subst (λ (st : Storage). Grows ((storage_of old.store).waiting p) (st.waiting p) (entering_at kind image.code (processor_in old p))) (sym left_storage) (step_grows x p (processor_in old p) first)
      in
      count_grown old.program _ _ _ came ∙ ap (λ n. count old.program ((storage_of old.store).waiting p) + n) (sym grows) ∙ ap (λ n. n + grown) (sym (ready.natives p known))

  others : (q : ℕ) → (p ≡ q → ⊥) → (storage_of left).waiting q ≡ (storage_of old.store).waiting q
  others q ne = ap (λ (st : Storage). st.waiting q) left_storage ∙ (step_quiet x p q (processor_in old p) first ne).waiting

  natives_left : (q : ℕ) → q < length old.processors → slice_index_or (slice_set old.natives p (natives_in old p + grown)) q 0 ≡ count old.program ((storage_of left).waiting q)
  natives_left q less =
      set_one old.natives p (natives_in old p + grown) q (let many = ready.counters in let c = cells in omega (arith, many, c))
      ∙ same_or q p (λ t. (if t then natives_in old p + grown else natives_in old q) ≡ count old.program ((storage_of left).waiting q))
      (λ same. sym own ∙ ap (λ r. count old.program ((storage_of left).waiting r)) (sym same))
      (λ ne. ready.natives q less ∙ ap (count old.program) (sym (others q ne)))

  retired_left : (q : ℕ) → slice_index_or (slice_set old.retired p (retired_in old p + 1)) q 0 + (old.room - 1) ≤ 1000000
  retired_left q =
      let set = set_one old.retired p (retired_in old p + 1) q (let many = ready.cells in let c = cells in omega (arith, many, c)) in
      let mine = ready.retired p in
      let theirs = ready.retired q in
      subst (λ n. n + (old.room - 1) ≤ 1000000) (sym set) (same_or q p (λ t. (if t then retired_in old p + 1 else retired_in old q) + (old.room - 1) ≤ 1000000) (λ same. omega (arith, mine, room)) (λ ne. omega (arith, theirs)))

  spares_left : left.buffered ≡ true → (q : ℕ) → q < length old.processors → old.room - 1 ≤ spare_of left q
  spares_left buffers q less =
      let had = ready.spares (sym stepped.kept.buffered ∙ buffers) q less in
      let enough = at_enough kind (at_code image.code (processor_in old p).place) p q (processor_in old p) old.store in
      let now = ap (λ f. f q) stepped.spares in
      omega (arith, had, enough, now)

  pub still_ready : (outputs : List (ℕ × ℕ)) (sources : List SourceEvent) (events : List Event) → IsReady (after outputs sources events)
  still_ready outputs sources events =
      record {
        count = stepped.kept.count ∙ ready.count ∙ sym whole;
        some = (let h = ready.some in let w = whole in omega (arith, h, w));
        few = (let h = ready.few in let w = whole in omega (arith, h, w));
        cells = length-set old.retired p (retired_in old p + 1) ∙ ready.cells;
        retired = retired_left;
        spares = λ buffers q less. spares_left buffers q (let w = whole in omega (arith, less, w));
        counters = length-set old.natives p (natives_in old p + grown) ∙ ready.counters;
        natives = λ q less. natives_left q (let w = whole in omega (arith, less, w));
      }

  advanced_here : (outputs : List (ℕ × ℕ)) (sources : List SourceEvent) (events : List Event)
      → outputs ≡ old.outputs ++ outputs_of p shown.outcome.output → sources ≡ old.sources ++ option_to_list shown.gives → events ≡ old.events ++ Step p ∷ []
      → Advanced kind image p old (after outputs sources events)
  advanced_here outputs sources events eo es ee =
      record {
        shown = shown;
        cells = (let many = ready.cells in let c = cells in omega (arith, many, c));
        step = subst (λ (c : Processor). IsStepAt kind image.code image.tags p (processor_in old p) c old.store left shown) (sym (cpu_set old.processors p cpu p known ∙ here)) stepped;
        others = λ q. cpu_set old.processors p cpu q known ∙ ap (λ (c : Processor). at_place (processor_in old) p c q) (sym (cpu_set old.processors p cpu p known ∙ here));
        count = whole;
        rest = λ d. record (after outputs sources events) { outputs = eo d; sources = es d; events = ee d };
      }
    where
      here : at_place (processor_in old) p (processor_of cpu) p ≡ processor_of cpu
      here = grind (arith, nat_tests)

  -- from the state that contracts see
  pub advanced : (now : MachineState) → old ≡ now → (outputs : List (ℕ × ℕ)) (sources : List SourceEvent) (events : List Event)
      → outputs ≡ old.outputs ++ outputs_of p shown.outcome.output → sources ≡ old.sources ++ option_to_list shown.gives → events ≡ old.events ++ Step p ∷ []
      → Advanced kind image p now (after outputs sources events)
  advanced now is outputs sources events eo es ee = subst (λ (r : MachineState). Advanced kind image p r (after outputs sources events)) is (advanced_here outputs sources events eo es ee)
