-- The machine agrees with the source: the three arrows one after the other.
use Rattle.std.proofs.Common.{◌≡◌, ℕ, zero, suc, ◌+◌, ◌-◌, ◌*◌, ◌/◌, ◌<◌, ◌≤◌, Bool, true, false, ◌&&◌, ◌||◌, List, [], ◌∷◌, Option, Some, None, refl, sym, ap, ◌∙◌, subst, arith, option_map, slice_get}
use Rattle.std.specs.Prelude.{if◌then◌else◌}
use Rattle.std.proofs.Math.Nat.{mul-div_cancel, mul-le-mul_right}
use Rattle.std.proofs.lemmas.Bool.{and_from}
use Rattle.std.proofs.lemmas.Bool.Decides.{nat_tests}
use Rattle.std.proofs.lemmas.Option.{none-some}
use Rattle.ax_words.specs.declared.event.Event.{Event}
use Rattle.ax_words.specs.declared.source.SourceEvent.{SourceEvent}
use Rattle.ax_words.specs.declared.source.SourceStatus.TheVariants.{Running}
use Rattle.ax_store.specs.declared.entry.Entry.{Entry}
use Rattle.ax_map.specs.Map.{covers}
use Rattle.ax_store.specs.Bytes.{number_at}
use Rattle.ax_store.proofs.Numbers.{number_same}
use Rattle.ax_layout.specs.declared.address_range.AddressRange.{AddressRange}
use Rattle.ax_layout.specs.Layout.{CanBeLaidOut, HasElement, address_in, bytes_in}
use Rattle.ax_layout.specs.Regions.{AllLie, AreOfOneClass, InLayouts}
use Rattle.ax_source_run.specs.SourceAccess.{is_native_class, is_native_element}
use Rattle.ax_source_run.specs.SourceRun.{source_run, source_start}
use Rattle.ax_source_run.specs.SourceState.{PendingStore, SourceProgram, SourceState}
use Rattle.ax_check.specs.Accepted.{IsAccepted}
use Rattle.ax_standing.specs.Standing.{AreEntries}
use Rattle.ax_isa.specs.Run.{Machine, Setting, explain, idle_run, machine_status, run}
use Rattle.ax_isa.specs.Tells.{given_of}
use Rattle.ax_follow.specs.Contract.{Follows, Lawful, Meaning, Reading, Whole, meant_run, source_events}
use Rattle.ax_follow.specs.RunTheorem.{Agreed, AllFit, Begins, RunsInStep}
use Rattle.ax_agree.specs.Agree.{Agree, AreStoresTo, IsStoreTo, is_native_byte, is_native_entry, native_entries, number_of}
use Rattle.ax_mid.specs.declared.code.MidGlobal.{MidGlobal}
use Rattle.ax_mid.specs.declared.registers.Virtual.{Virtual}
use Rattle.ax_mid.specs.Machine.{MidState, behind_label, first_processor}
use Rattle.ax_mid.specs.Processor.{MidDeed, MidProcessor}
use Rattle.ax_expand.specs.Shared.{Shared, counts, is_shared, masked, shared_only}
use Rattle.ax_fine.specs.Fine.{Fit, fine}
use Rattle.ax_fine.specs.Near.{AreStores, CanAct, FineRunsFit, FineRunsInStep, Framed, IsDeed, IsMeant, IsSmall, IsStore, Near, ResultsFit, address_of, on_bytes, one_step}
use Rattle.ax_fine.proofs.Events.{near_after}
use Rattle.ax_selected.specs.Direct.{needs_no_routine}
use Rattle.ax_selected.specs.Formed.{SelectedCodeIsFormed, SelectedLinesAreSmall}
use Rattle.ax_selected.specs.InStep.{InStep, SelectedCodeGoesOn, SelectedCodeRunsInStep, code_start}
use Rattle.ax_selected.specs.Registers.{block_label, key}
use Rattle.ax_selected.specs.Selected.{selected}
use Rattle.ax_meaning.specs.Lowering.{FollowingCodeLowers, Frames, IsHoused, begins_with, fine_first, fine_start, framed, meaning_of}
use Rattle.ax_meaning.proofs.Globals.{IsSame, one_element, placed, same_element, span_is}
use Rattle.ax_meaning.proofs.Knowing.{meant_run_so, source_events_so}
use Rattle.ax_meaning.proofs.Meant.{labels_silent, lines_small}

-- what this rests on
pub record Laws {I : Type 0} (z : Setting I) (v : Reading) (program : SourceProgram) (frames : Frames) (places : ℕ → ℕ) : Type 0 where
  pub runs : Follows (meaning_of program frames places) v z → Lawful (meaning_of program frames places) v z → RunsInStep z (meaning_of program frames places) v
  pub step : FineRunsInStep Virtual
  pub fits : FineRunsFit Virtual
  pub fit : ResultsFit
  pub in_step : SelectedCodeRunsInStep
  pub goes_on : SelectedCodeGoesOn
  pub formed : SelectedCodeIsFormed
  pub small : SelectedLinesAreSmall
  pub laid : (p : SourceProgram) → IsAccepted p → CanBeLaidOut p.source
  pub lie : InLayouts AllLie
  pub one_class : InLayouts AreOfOneClass

-- ---- which stores are to native objects
module _ (program : SourceProgram) where
  native_true : (spans : List AddressRange) (d g a : ℕ) (s : AddressRange) → slice_get spans g ≡ Some s → covers s.start (s.count * s.bytes) a ≡ true → is_native_element program (d + g) ((a - s.start) / s.bytes) ≡ true → is_native_byte program d spans a ≡ true
  native_true [] d g a s e h n = absurd (none-some s e)
  native_true (x ∷ spans) d zero a s e h n =
      let same = Rattle.std.proofs.lemmas.Option.same_Some x s e in
      let at : d + 0 ≡ d = omega arith in
      let here : covers x.start (x.count * x.bytes) a && is_native_element program d ((a - x.start) / x.bytes) ≡ true =
      and_from (covers x.start (x.count * x.bytes) a) (is_native_element program d ((a - x.start) / x.bytes)) (ap (λ (y : AddressRange). covers y.start (y.count * y.bytes) a) same ∙ h)
      (ap (λ (y : AddressRange). is_native_element program d ((a - y.start) / y.bytes)) same ∙ (ap (λ (q : ℕ). is_native_element program q ((a - s.start) / s.bytes)) (sym at) ∙ n)) in
      ap (λ (b : Bool). b || is_native_byte program (d + 1) spans a) here
  native_true (x ∷ spans) d (suc g) a s e h n =
      let at : d + suc g ≡ d + 1 + g = omega arith in
      let rest = native_true spans (d + 1) g a s e h (ap (λ (q : ℕ). is_native_element program q ((a - s.start) / s.bytes)) (sym at) ∙ n) in
      or_true (covers x.start (x.count * x.bytes) a && is_native_element program d ((a - x.start) / x.bytes)) (is_native_byte program (d + 1) spans a) rest
    where
      or_true : (b c : Bool) → c ≡ true → (b || c) ≡ true
      or_true true c e = refl
      or_true false c e = e

  pub native_false : (spans : List AddressRange) (d a : ℕ) → ((g : ℕ) (s : AddressRange) → slice_get spans g ≡ Some s → s.start + s.count * s.bytes ≤ a) → is_native_byte program d spans a ≡ false
  native_false [] d a below = refl
  native_false (x ∷ spans) d a below =
      let past = below 0 x refl in
      let none : covers x.start (x.count * x.bytes) a ≡ false = grind (arith, nat_tests) in
      ap (λ (b : Bool). b && is_native_element program d ((a - x.start) / x.bytes) || is_native_byte program (d + 1) spans a) none ∙ native_false spans (d + 1) a (λ g s e. below (suc g) s e)

module _ {I : Type 0} (z : Setting I) (v : Reading) (program : SourceProgram) (frames : Frames) (places : ℕ → ℕ) (laws : Laws z v program frames places) (follows : Follows (meaning_of program frames places) v z) (lawful : Lawful (meaning_of program frames places) v z) (public : v.public ≡ is_native_entry program) (accepted : IsAccepted program) (direct : needs_no_routine program ≡ true)
    (entries : List ℕ) (inside : ℕ → Bool) (w : Shared) (m0 : Machine) (are : AreEntries program entries) (housed : IsHoused program frames entries inside w) (begins : Begins z (meaning_of program frames places) v m0 (fine_start program entries w)) where
  abbrev x : Framed Virtual
  x = framed program frames

  abbrev l : Meaning MidProcessor Shared
  l = meaning_of program frames places

  abbrev s0 : MidState
  s0 = code_start program (selected program) entries

  abbrev globals : List MidGlobal
  globals = (selected program).globals

  all_lie : AllLie program.source program.layout
  all_lie = subst (AllLie program.source) (sym accepted.layout) (laws.lie program.source (laws.laid program accepted))

  one_class : AreOfOneClass program.source program.layout
  one_class = subst (AreOfOneClass program.source) (sym accepted.layout) (laws.one_class program.source (laws.laid program accepted))

  -- ---- the middle code
  in_step : (events : List SourceEvent) → InStep (source_run program events (source_start program.source entries)) (one_step x 512 events s0)
  in_step events = laws.in_step program accepted 512 frames.base entries direct are (omega arith) housed.places events

  can : (events : List SourceEvent) → CanAct x 512 (one_step x 512 events s0)
  can events p runs =
      let d = laws.goes_on program accepted 512 frames.base entries direct are (omega arith) housed.places events p (sym ((in_step events).alike p).status ∙ runs) in
      subst (λ (o : Option MidDeed). IsDeed x 512 o) (sym d.1) tt

  meant : IsMeant x 512 inside s0
  meant = record {
    labels = λ j line at is. labels_silent line (laws.small program accepted j line at) is;
    small = λ p j line at. lines_small (frames.base p) (housed.places p) line (laws.small program accepted j line at);
    placed = placed program (laws.formed program accepted).globals all_lie inside housed.globals housed.words;
    can = can;
  }

  -- ---- stores that wait
  element_native : (g i : ℕ) (y : MidGlobal) → IsSame program g i y → y.native ≡ true → HasElement program.layout g 0 → is_native_element program g i ≡ true
  element_native g i y same is zeroth = ap is_native_class (one_class g i 0 program.target same.has zeroth) ∙ (sym same.native ∙ is)

  row : (i count b : ℕ) → i < count → i * b + b ≤ count * b
  row i count b lt = let e = mul-le-mul_right {m = suc i} {n = count} b lt in omega (arith, e)

  store_native : (e : Entry) (st : PendingStore) → IsStore globals e st → (is_native_entry program e ≡ true) × IsStoreTo program e st
  store_native e st is =
      let same = same_element program st.global st.element is.global is.there is.within in
      let span = span_is program st.global is.global is.there in
      let zeroth = same_element program st.global 0 is.global is.there (let less = is.within in omega (arith, less)) in
      let native = element_native st.global st.element is.global same is.native zeroth.has in
      let size = (meant.placed.sizes st.global is.global is.there).0 in
      let s = span.span in
      let start : is.global.address ≡ s.start = ap (λ (y : MidGlobal). y.address) span.is in
      let bytes : is.global.bytes ≡ s.bytes = ap (λ (y : MidGlobal). y.bytes) span.is in
      let count : is.global.count ≡ s.count = ap (λ (y : MidGlobal). y.count) span.is in
      let within : st.element < s.count = subst (λ (n : ℕ). st.element < n) count is.within in
      let some : 1 ≤ s.bytes = subst (λ (n : ℕ). 1 ≤ n) bytes size in
      let lies = row st.element s.count s.bytes within in
      let address : e.address ≡ s.start + st.element * s.bytes = is.address ∙ (ap (λ (a : ℕ). a + st.element * is.global.bytes) start ∙ ap (λ (n : ℕ). s.start + st.element * n) bytes) in
      let covered : covers s.start (s.count * s.bytes) e.address ≡ true = covers_row s.start (s.count * s.bytes) e.address (st.element * s.bytes) address (omega (arith, lies, some)) in
      let index : (e.address - s.start) / s.bytes ≡ st.element = index_row s.start s.bytes e.address st.element address some in
      let at : 0 + st.global ≡ st.global = omega arith in (
        native_true program program.layout.spans 0 st.global e.address s span.there covered (ap (λ (q : ℕ). is_native_element program q ((e.address - s.start) / s.bytes)) at ∙ (ap (is_native_element program st.global) index ∙ native)),
        record { there = same.has; native = native; address = is.address ∙ same.address; bytes = is.bytes ∙ same.bytes; number = is.value },
      )
    where
      covers_row : (start n a k : ℕ) → a ≡ start + k → k < n → covers start n a ≡ true
      covers_row start n a k e less = grind (arith, nat_tests, e)

      index_row : (start b a i : ℕ) → a ≡ start + i * b → 1 ≤ b → (a - start) / b ≡ i
      index_row start b a i e some =
          let d : a - start ≡ i * b = omega (arith, e) in
          ap (λ (q : ℕ). q / b) d ∙ mul-div_cancel i {n = b} some

  below_frames : (g : ℕ) (s : AddressRange) → slice_get program.layout.spans g ≡ Some s → s.start + s.count * s.bytes ≤ 16777216
  below_frames g s there =
      let zero_plus : 0 + g ≡ g = omega arith in
      let at = Rattle.ax_selected.proofs.Lying.globals_get program program.layout.spans 0 g s there ∙ ap (λ (q : ℕ). Some (Rattle.ax_selected.specs.Selected.mid_global program program.layout q s)) zero_plus in
      meant.placed.below g (Rattle.ax_selected.specs.Selected.mid_global program program.layout g s) at

  frame_not_native : (e : Entry) → counts e ≡ false → is_native_entry program e ≡ false
  frame_not_native e h =
      let past : 16777216 ≤ e.address = grind (arith, nat_tests, h) in
      native_false program program.layout.spans 0 e.address (λ g s there. let b = below_frames g s there in omega (arith, b, past))

  abbrev Waits : List Entry → List PendingStore → Type 0
  Waits es sts = AreStoresTo program (native_entries program es) sts

  waits_one : (e : Entry) (es : List Entry) → ((sts : List PendingStore) → AreStores globals (shared_only es) sts → Waits es sts) → (b : Bool) → counts e ≡ b → (sts : List PendingStore)
      → AreStores globals (if b then e ∷ shared_only es else shared_only es) sts → AreStoresTo program (if is_native_entry program e then e ∷ native_entries program es else native_entries program es) sts
  waits_one e es rest true h [] is = absurd is
  waits_one e es rest true h (st ∷ sts) is =
      let n = store_native e st is.0 in
      subst (λ (t : Bool). AreStoresTo program (if t then e ∷ native_entries program es else native_entries program es) (st ∷ sts)) (sym n.0) (n.1, rest sts is.1)
  waits_one e es rest false h sts is = subst (λ (t : Bool). AreStoresTo program (if t then e ∷ native_entries program es else native_entries program es) sts) (sym (frame_not_native e h)) (rest sts is)

  waits : (es : List Entry) (sts : List PendingStore) → AreStores globals (shared_only es) sts → Waits es sts
  waits [] [] is = tt
  waits [] (st ∷ sts) is = absurd is
  waits (e ∷ es) sts is = waits_one e es (λ more h. waits es more h) (counts e) refl sts is

  -- ---- the first states
  abbrev first_of : ℕ → Option ℕ
  first_of p = option_map (λ f. behind_label key (selected program).lines (block_label f 0) 0) (slice_get entries p)

  nothing_waits : (o : Option ℕ) → (first_processor o).pending ≡ []
  nothing_waits None = refl
  nothing_waits (Some place) = refl

  zeros : (o : Option ℕ) → IsSmall (first_processor o)
  zeros None = record { regs = λ r. omega arith; frame = λ b. omega arith }
  zeros (Some place) = record { regs = λ r. omega arith; frame = λ b. omega arith }

  near_start : Near x 512 inside (fine_start program entries w) s0
  near_start = record {
    outputs = refl;
    spells = record {
      mapped = housed.spells.mapped;
      small = housed.spells.small;
      spelled = housed.spells.spelled;
      waiting = λ p. subst (λ (sts : List PendingStore). AreStores globals (w.pending p) sts) (sym (nothing_waits (first_of p))) (housed.spells.waiting p);
    };
    processors = λ p. near_after x 512 inside places laws.fit meant.labels meant.small meant.placed p (first_processor (first_of p)) s0.numbers (fine_first program (first_processor (first_of p))) refl (zeros (first_of p)) (λ r. refl) (λ r. can [] p r);
  }

  -- ---- the fine machine's runs; to it each drain is a source event
  abbrev start : Whole MidProcessor Shared
  start = fine_start program entries w

  abbrev each_drain : Meaning MidProcessor Shared
  each_drain = fine (on_bytes x) places

  abbrev native_drains : ℕ → Shared → Bool
  native_drains p u = begins_with (is_native_entry program) (u.pending p)

  near_each : (steps : List SourceEvent) → Near x 512 inside (meant_run each_drain steps start) (one_step x 512 (source_events each_drain steps start) s0)
  near_each steps = laws.step x 512 inside places start s0 meant near_start steps

  all_fit : AllFit z l v start
  all_fit steps p = subst (λ (u : Whole MidProcessor Shared). (u.processors p).status ≡ Running → Fit (on_bytes x) p (u.processors p) u.world) (meant_run_so each_drain native_drains steps start) (laws.fits x 512 inside places start s0 meant housed.room near_start steps p)

  -- and each that can be is to a native object
  oldest_native : (es : List Entry) (sts : List PendingStore) → AreStores globals es sts → begins_with (is_native_entry program) es ≡ true
  oldest_native [] sts is = refl
  oldest_native (e ∷ es) [] is = absurd is
  oldest_native (e ∷ es) (st ∷ sts) is = (store_native e st is.0).0

  same_events : (steps : List SourceEvent) → source_events each_drain steps start ≡ source_events l steps start
  same_events steps =
      source_events_so each_drain native_drains steps start (λ before p.
      let u = meant_run each_drain before start in
      let s = one_step x 512 (source_events each_drain before start) s0 in
      sym (oldest_native (u.world.pending p) (s.processors p).pending ((near_each before).spells.waiting p)))

  -- ---- after any list of events
  module _ (es : List Event) where
    abbrev machine : Machine
    machine = run z es m0

    abbrev steps : List SourceEvent
    steps = explain z v.given v.marks v.counts es m0

    abbrev above : Whole MidProcessor Shared
    above = meant_run l steps start

    abbrev events : List SourceEvent
    events = source_events l steps start

    abbrev source : SourceState
    source = source_run program events (source_start program.source entries)

    runs : RunsInStep z l v
    runs = laws.runs follows lawful

    agreed : Agreed z l v machine above (idle_run z v.given v.marks v.counts es m0 (λ p. 0))
    agreed = runs.agrees start m0 begins all_fit es

    near : Near x 512 inside above (one_step x 512 events s0)
    near =
        subst (λ (evs : List SourceEvent). Near x 512 inside above (one_step x 512 evs s0)) (same_events steps)
        (subst (λ (u : Whole MidProcessor Shared). Near x 512 inside u (one_step x 512 (source_events each_drain steps start) s0)) (meant_run_so each_drain native_drains steps start) (near_each steps))

    step : InStep source (one_step x 512 events s0)
    step = in_step events

    explained : explain z given_of z.tags (is_native_entry program) es m0 ≡ events
    explained = ap (λ (f : Entry → Bool). explain z given_of z.tags f es m0) (sym public) ∙ runs.explains start m0 begins all_fit es

    -- the numbers of elements
    number : (g i : ℕ) → HasElement program.layout g i → number_of program machine.noted.storage.mem g i ≡ source.numbers g i
    number g i has =
        let one = one_element program g i has in
        let same = same_element program g i one.global one.there one.within in
        let lies = all_lie g i has in
        let last = lies.last in
        let limit = lies.limit in
        let a = address_in program.layout g i in
        let n = bytes_in program.layout g in
        sym (number_same (masked machine.noted.storage.mem) machine.noted.storage.mem a n (λ k less. at (a + k) (omega (arith, last, limit, less))))
        ∙ (ap (λ (f : ℕ → ℕ). number_at f a n) agreed.sees.mem
        ∙ (ap (λ (b : ℕ). number_at above.world.mem b n) (sym same.address)
        ∙ (ap (number_at above.world.mem (address_of one.global i)) (sym same.bytes) ∙ (near.spells.spelled g i one.global one.there one.within ∙ ap (λ (f : ℕ → ℕ → ℕ). f g i) step.numbers))))
      where
        at : (b : ℕ) → b < 16777216 → masked machine.noted.storage.mem b ≡ machine.noted.storage.mem b
        at b less = (let is : is_shared b ≡ true = grind (arith, nat_tests) in ap (λ (t : Bool). if t then machine.noted.storage.mem b else 0) is)

    pending : (p : ℕ) → AreStoresTo program (native_entries program (machine.noted.storage.waiting p)) (source.processors p).pending
    pending p =
        waits (machine.noted.storage.waiting p) (source.processors p).pending
        (subst (λ (q : List Entry). AreStores globals q (source.processors p).pending) (sym (agreed.sees.pending p))
        (subst (λ (sts : List PendingStore). AreStores globals (above.world.pending p) sts) (step.alike p).pending (near.spells.waiting p)))

    agrees_so : Agree program machine source
    agrees_so = record {
      outputs = agreed.outputs ∙ (near.outputs ∙ step.outputs);
      statuses = λ p. agreed.status p ∙ ap machine_status ((near.processors p).status ∙ (step.alike p).status);
      native = λ g i has native. number g i has;
      locked = λ g i has locked free. number g i has;
      pending = pending;
    }

    agrees : Agree program machine (source_run program (explain z given_of z.tags (is_native_entry program) es m0) (source_start program.source entries))
    agrees = subst (λ (evs : List SourceEvent). Agree program machine (source_run program evs (source_start program.source entries))) (sym explained) agrees_so

pub code_lowers : {I : Type 0} (z : Setting I) (v : Reading) (program : SourceProgram) (frames : Frames) (places : ℕ → ℕ) → Laws z v program frames places → FollowingCodeLowers z v program frames places
code_lowers z v program frames places laws follows lawful public accepted direct entries inside w m0 are housed begins es = agrees z v program frames places laws follows lawful public accepted direct entries inside w m0 are housed begins es
