-- The event of a line: what the fine machine does over bytes is what the one-step machine does over numbers.
use Rattle.std.proofs.Common.{◌≡◌, ℕ, zero, suc, ◌+◌, ◌-◌, ◌*◌, ◌/◌, ◌%◌, ◌^◌, ◌<◌, ◌≤◌, Bool, true, false, ◌&&◌, List, [], ◌∷◌, ◌++◌, Option, Some, None, refl, sym, ap, ◌∙◌, subst, arith, slice_get, option_map}
use Rattle.std.specs.Prelude.{if◌then◌else◌, nat_eq, nat_le, nat_lt, slice_index_or}
use Rattle.std.proofs.Math.Nat.{div-mul-le_self, mod-eq-sub-div-mul, mul-le-mul_right, pow-le-pow_right}
use Rattle.std.proofs.lemmas.Bool.{and_parts, false≢true}
use Rattle.std.proofs.lemmas.Bool.Decides.{nat_tests}
use Rattle.std.proofs.lemmas.Nat.{mod_below, pow_pos}
use Rattle.std.proofs.lemmas.Option.{none-some, same_Some}
use Rattle.ax_words.specs.declared.mark.Op.{Op}
use Rattle.ax_words.specs.declared.order.Order.{Order}
use Rattle.ax_words.specs.declared.source.SourceStatus.{SourceStatus}
use Rattle.ax_words.specs.declared.source.SourceStatus.TheVariants.{Running, Ended, Trapped}
use Rattle.ax_words.specs.declared.width.Width.{Width}
use Rattle.ax_words.specs.declared.width.Width.TheVariants.{W8, W16, W32, W64, W128}
use Rattle.ax_words.specs.Width.{bits_of, bytes_of}
use Rattle.ax_store.specs.declared.entry.Entry.{Entry}
use Rattle.ax_target.specs.Targets.{is_buffered}
use Rattle.ax_source_run.specs.SourceAccess.{ObjectOperation, Reads, Writes, is_expected, manner_of_native, written_out}
use Rattle.ax_source_run.specs.SourceInstructions.{is_seq_cst}
use Rattle.ax_isa.specs.Tells.{Given, An_act, A_look, A_miss}
use Rattle.ax_follow.specs.Contract.{Did}
use Rattle.ax_mid.specs.declared.code.MidGlobal.{MidGlobal}
use Rattle.ax_mid.specs.declared.instruction.MidInst.{MidInst}
use Rattle.ax_mid.specs.declared.instruction.MidInst.TheVariants as mid
use Rattle.ax_mid.specs.Machine.{Effect, atomic_at, atomic_effect, atomic_step, effect_at, effected, fenced, is_fence, load_shared, loaded, may_wait, only, operation_of, private_step, put_all, read_all, results_of, shared_step, spot, stepped, store_shared, stored}
use Rattle.ax_mid.specs.Processor.{MidDeed, MidProcessor, goes_on, unseen}
use Rattle.ax_mid.specs.Spots.{Spot, Own, Element, Nowhere, element_at, holds, is_own, spot_of}
use Rattle.ax_expand.specs.Doing.{Result}
use Rattle.ax_expand.specs.Shared.{Shared}
use Rattle.ax_fine.specs.Fine.{Program, chosen_by, did_private, did_atomic, kept_seen, plain_by}
use Rattle.ax_fine.specs.Near.{ArePlaced, AreStores, Framed, IsSmall, IsSmallInst, ResultsFit, address_of, bare, marked, on_bytes}
use Rattle.ax_fine.specs.OnBytes.{Met, acts, answered, atomic_gives, met_at, results_with, sent_out}
use Rattle.ax_fine.proofs.Ahead as ahead
use Rattle.ax_fine.proofs.Small.{Below, operation_small, put_all_below, put_none, read_below, results_small}
use Rattle.ax_fine.proofs.World.{Meets, Shows, meets, met_small, out_mine, out_others, out_shows}

-- ---- an address that names an element
eq_of : (a b : ℕ) → nat_eq a b ≡ true → a ≡ b
eq_of a b h = grind (arith, nat_tests, h)

le_of : (a b : ℕ) → nat_le a b ≡ true → a ≤ b
le_of a b h = grind (arith, nat_tests)

lt_of : (a b : ℕ) → nat_lt a b ≡ true → a < b
lt_of a b h = grind (arith, nat_tests)

-- element i of global x lies at the address, and is of that size
pub record IsElement (globals : List MidGlobal) (g i a n : ℕ) : Type 0 where
  pub global : MidGlobal
  pub there : slice_get globals g ≡ Some global
  pub within : i < global.count
  pub native : global.native ≡ true
  pub address : a ≡ address_of global i
  pub bytes : n ≡ global.bytes

below_count : (d b count : ℕ) → 0 < b → d < count * b → d / b < count
below_count d b count some less = by (nat_lt (d / b) count) refl
  where
    not_lt : (p q : ℕ) → nat_lt p q ≡ false → q ≤ p
    not_lt p q h = grind (arith, nat_tests)

    by : (t : Bool) → nat_lt (d / b) count ≡ t → d / b < count
    by true e = lt_of (d / b) count e
    by false e =
        let ge : count ≤ d / b = not_lt (d / b) count e in
        let more = mul-le-mul_right {m = count} {n = d / b} b ge in
        let down = div-mul-le_self d b in
        absurd (omega (arith, less, more, down))

whole_again : (d b : ℕ) → d % b ≡ 0 → d / b * b ≡ d
whole_again d b h =
    let parts = mod-eq-sub-div-mul d b in
    let down = div-mul-le_self d b in
    omega (arith, h, parts, down)

held_element : (x : MidGlobal) (a n : ℕ) → 1 ≤ x.bytes → holds x a n ≡ true → ((a - x.address) / x.bytes < x.count) × (a ≡ address_of x ((a - x.address) / x.bytes)) × (n ≡ x.bytes) × (x.native ≡ true)
held_element x a n some h =
    let first = and_parts (nat_le x.address a && nat_lt a (x.address + x.count * x.bytes) && nat_eq x.bytes n && x.native) (nat_eq ((a - x.address) % x.bytes) 0) h in
    let second = and_parts (nat_le x.address a && nat_lt a (x.address + x.count * x.bytes) && nat_eq x.bytes n) x.native first.0 in
    let third = and_parts (nat_le x.address a && nat_lt a (x.address + x.count * x.bytes)) (nat_eq x.bytes n) second.0 in
    let fourth = and_parts (nat_le x.address a) (nat_lt a (x.address + x.count * x.bytes)) third.0 in
    let low = le_of x.address a fourth.0 in
    let high = lt_of a (x.address + x.count * x.bytes) fourth.1 in
    let whole = whole_again (a - x.address) x.bytes (eq_of ((a - x.address) % x.bytes) 0 first.1) in
    (below_count (a - x.address) x.bytes x.count (omega (arith, some)) (omega (arith, low, high)), omega (arith, low, whole), sym (eq_of x.bytes n third.1), second.1)

element_in : (all globals : List MidGlobal) (d : ℕ) (a n g i : ℕ) → ((k : ℕ) (x : MidGlobal) → slice_get globals k ≡ Some x → slice_get all (d + k) ≡ Some x) → ((k : ℕ) (x : MidGlobal) → slice_get globals k ≡ Some x → 1 ≤ x.bytes)
    → element_at globals d a n ≡ Element g i → IsElement all g i a n
element_in all [] d a n g i in_all some e = absurd (nowhere e)
  where
    element : Spot → Type 0
    element (Element h j) = ⊥
    element (Own o) = ⊥
    element Nowhere = Unit {0}

    nowhere : Nowhere ≡ Element g i → ⊥
    nowhere h = subst element h tt
element_in all (x ∷ globals) d a n g i in_all some e =
    by (holds x a n) refl e (λ h. element_in all globals (d + 1) a n g i (λ k y there. let up : d + suc k ≡ d + 1 + k = omega arith in ap (slice_get all) (sym up) ∙ in_all (suc k) y there) (λ k y there. some (suc k) y there) h)
  where
    global_of : Spot → ℕ
    global_of (Element h j) = h
    global_of (Own o) = 0
    global_of Nowhere = 0

    element_of : Spot → ℕ
    element_of (Element h j) = j
    element_of (Own o) = 0
    element_of Nowhere = 0

    by : (b : Bool) → holds x a n ≡ b → (if b then Element d ((a - x.address) / x.bytes) else element_at globals (d + 1) a n) ≡ Element g i → (element_at globals (d + 1) a n ≡ Element g i → IsElement all g i a n) → IsElement all g i a n
    by true h is rest =
        let at : d ≡ g = ap global_of is in
        let j : (a - x.address) / x.bytes ≡ i = ap element_of is in
        let held = held_element x a n (some 0 x refl) h in
        let here : d ≡ d + 0 = omega arith in
        record {
          global = x;
          there = ap (slice_get all) (sym at ∙ here) ∙ in_all 0 x refl;
          within = subst (λ (k : ℕ). k < x.count) j held.0;
          native = held.3;
          address = held.1 ∙ ap (address_of x) j;
          bytes = held.2;
        }
    by false h is rest = rest is

pub element_is : (globals : List MidGlobal) (base a n g i : ℕ) → ((k : ℕ) (x : MidGlobal) → slice_get globals k ≡ Some x → 1 ≤ x.bytes) → spot_of globals base a n ≡ Element g i → (is_own base a n ≡ false) × IsElement globals g i a n
element_is globals base a n g i some e = by (is_own base a n) refl e
  where
    own : Spot → Type 0
    own (Element h j) = ⊥
    own (Own o) = Unit {0}
    own Nowhere = ⊥

    by : (b : Bool) → is_own base a n ≡ b → (if b then Own (a - base) else element_at globals 0 a n) ≡ Element g i → (is_own base a n ≡ false) × IsElement globals g i a n
    by true h is = absurd (subst own is tt)
    by false h is = (h, element_in globals globals 0 a n g i (λ k x there. let up : k ≡ 0 + k = omega arith in ap (slice_get globals) (sym up) ∙ there) some is)

-- no element is one of the own frame
not_own : (globals : List MidGlobal) (d a n o : ℕ) → element_at globals d a n ≡ Own o → ⊥
not_own [] d a n o e = subst own e tt
  where
    own : Spot → Type 0
    own (Own k) = ⊥
    own (Element g i) = Unit {0}
    own Nowhere = Unit {0}
not_own (x ∷ globals) d a n o e = by (holds x a n) e (not_own globals (d + 1) a n o)
  where
    own : Spot → Type 0
    own (Own k) = ⊥
    own (Element g i) = Unit {0}
    own Nowhere = Unit {0}

    by : (b : Bool) → (if b then Element d ((a - x.address) / x.bytes) else element_at globals (d + 1) a n) ≡ Own o → (element_at globals (d + 1) a n ≡ Own o → ⊥) → ⊥
    by true h rest = subst own h tt
    by false h rest = rest h

-- ---- statuses
pub not_running : (st : SourceStatus) → st ≡ Trapped → st ≡ Running → ⊥
not_running st e f = subst is_trap (sym e ∙ f) tt
  where
    is_trap : SourceStatus → Type 0
    is_trap Running = ⊥
    is_trap Ended = Unit {0}
    is_trap Trapped = Unit {0}

pub not_ended : (st : SourceStatus) → st ≡ Ended → st ≡ Running → ⊥
not_ended st e f = subst is_over (sym e ∙ f) tt
  where
    is_over : SourceStatus → Type 0
    is_over Running = ⊥
    is_over Ended = Unit {0}
    is_over Trapped = Unit {0}

pow_within : (n : ℕ) → n ≤ 8 → 2 ^ (8 * n) ≤ 2 ^ 64
pow_within n few = pow-le-pow_right {n = 2} (omega arith) {i = 8 * n} {j = 64} (omega (arith, few))

module _ {R : Type 0} (x : Framed R) (inside : ℕ → Bool) (fit : ResultsFit) (placed : ArePlaced x.code.globals inside) (p : ℕ) where
  abbrev m : Program R Shared
  m = on_bytes x

  abbrev step : MidInst R → MidProcessor → Option MidProcessor
  step i s = private_step x.key x.target x.code (x.base p) i s

  abbrev chosen : Given → Bool → MidInst R → MidProcessor → Shared → Option (Did MidProcessor Shared)
  chosen g quiet i s w = chosen_by m g quiet p i s w

  some_bytes : (k : ℕ) (y : MidGlobal) → slice_get x.code.globals k ≡ Some y → 1 ≤ y.bytes
  some_bytes k y there = (placed.sizes k y there).0

  -- ---- lines that touch registers and the frame alone
  pub own_first : (b : Bool) (a n : ℕ) → is_own (x.base p) a n ≡ b → (s : MidProcessor) (sp : Spot) → spot_of x.code.globals (x.base p) a n ≡ sp → (to : ℕ) (y : MidProcessor) → loaded x.key x.target x.code (x.base p) sp to n s ≡ Some y → b ≡ true
  own_first true a n is s sp at to y e = refl
  own_first false a n is s (Own o) at to y e = absurd (not_own x.code.globals 0 a n o (sym (ap (λ (t : Bool). if t then Own (a - x.base p) else element_at x.code.globals 0 a n) is) ∙ at))
  own_first false a n is s (Element g i) at to y e = absurd (none-some y e)
  own_first false a n is s Nowhere at to y e = absurd (none-some y e)

  pub own_store : (b : Bool) (a n : ℕ) → is_own (x.base p) a n ≡ b → (s : MidProcessor) (sp : Spot) → spot_of x.code.globals (x.base p) a n ≡ sp → (v : ℕ) (y : MidProcessor) → stored x.key x.target x.code (x.base p) sp v n s ≡ Some y → b ≡ true
  own_store true a n is s sp at v y e = refl
  own_store false a n is s (Own o) at v y e = absurd (not_own x.code.globals 0 a n o (sym (ap (λ (t : Bool). if t then Own (a - x.base p) else element_at x.code.globals 0 a n) is) ∙ at))
  own_store false a n is s (Element g i) at v y e = absurd (none-some y e)
  own_store false a n is s Nowhere at v y e = absurd (none-some y e)

  -- what it does at each event
  abbrev PrivateAt : Given → Bool → MidProcessor → Shared → Option (Did MidProcessor Shared)
  PrivateAt An_act quiet y w = did_private m quiet w (Some y)
  PrivateAt _ quiet y w = None

  plain_is : (g : Given) (quiet : Bool) (i : MidInst R) (s y : MidProcessor) (w : Shared) → step i s ≡ Some y → plain_by m g quiet p i s w ≡ PrivateAt g quiet y w
  unfolding private_step
  plain_is An_act quiet (mid.Out from) s y w e = absurd (none-some y e)
  plain_is An_act quiet mid.Trap s y w e = absurd (none-some y e)
  plain_is An_act quiet mid.Ret s y w e = absurd (none-some y e)
  plain_is An_act quiet _ s y w e = ap (did_private m quiet w) e
  plain_is _ quiet i s y w e = refl

  pub private_chosen : (g : Given) (quiet : Bool) (i : MidInst R) (s y : MidProcessor) (w : Shared) → step i s ≡ Some y → chosen g quiet i s w ≡ PrivateAt g quiet y w
  unfolding chosen_by private_step
  private_chosen g quiet (mid.Atomic o width order weak address args results) s y w e = absurd (none-some y e)
  private_chosen g quiet (mid.Load to address n) s y w e =
      let own = own_first (is_own (x.base p) (s.regs (x.key address)) n) (s.regs (x.key address)) n refl s (spot x.key x.target x.code (x.base p) s address n) refl (x.key to) y e in
      ap (λ (b : Bool). if b then plain_by m g quiet p (mid.Load to address n) s w else did_atomic m quiet g (to ∷ []) s ((m.load n).happens g p (s.regs (x.key address)) [] s.seen w)) own
      ∙ plain_is g quiet (mid.Load to address n) s y w e
  private_chosen g quiet (mid.Store address from n) s y w e =
      let own = own_store (is_own (x.base p) (s.regs (x.key address)) n) (s.regs (x.key address)) n refl s (spot x.key x.target x.code (x.base p) s address n) refl (s.regs (x.key from)) y e in
      ap (λ (b : Bool). if b then plain_by m g quiet p (mid.Store address from n) s w else did_atomic m quiet g [] s ((m.store n).happens g p (s.regs (x.key address)) (s.regs (x.key from) ∷ []) s.seen w)) own
      ∙ plain_is g quiet (mid.Store address from n) s y w e
  private_chosen g quiet i s y w e = plain_is g quiet i s y w e

  -- ---- the event at the processor that has come to it
  -- t is what the fine machine does, d what the other one does
  pub record IsDone (w : Shared) (t : Did MidProcessor Shared) (d : MidDeed) : Type 0 where
    pub gives : t.gives ≡ An_act
    pub output : t.output ≡ d.output
    pub status : t.processor.status ≡ d.processor.status
    pub small : IsSmall d.processor
    pub regs : t.processor.regs ≡ d.processor.regs
    pub stands : d.processor.status ≡ Running → t.processor ≡ ahead.settled x.code (bare d.processor)
    pub shows : Shows x.code.globals inside placed t.world d.numbers
    pub mine : AreStores x.code.globals (t.world.pending p) d.processor.pending
    pub others : (q : ℕ) → nat_eq q p ≡ false → t.world.pending q ≡ w.pending q

  module _ (e : MidProcessor) (small : IsSmall e) (w : Shared) (numbers : ℕ → ℕ → ℕ) (shows : Shows x.code.globals inside placed w numbers) (mine : AreStores x.code.globals (w.pending p) e.pending) where
    abbrev Acts : MidInst R → MidDeed → Type 0
    Acts i d = (t : Did MidProcessor Shared) × (chosen An_act false i (bare e) w ≡ Some t) × IsDone w t d

    abbrev ActsFor : MidInst R → Option MidDeed → MidDeed → Type 0
    ActsFor i o d = o ≡ Some d → Acts i d

    private_acts : (i : MidInst R) (y : MidProcessor) → step i e ≡ Some y → IsSmallInst (x.base p) i → Acts i (record { processor = unseen y; numbers = numbers; output = None })
    private_acts i y is fits =
        let there : step i (bare e) ≡ Some (bare y) = ahead.step_marked x.key x.target x.code (x.base p) e.seen [] i e ∙ (ap (option_map (marked e.seen [])) is ∙ ap (λ (o : Option ℕ). Some (marked o [] y)) (seen_same i y is)) in
        let kept = Rattle.ax_fine.proofs.Small.step_small x.key x.target x.code (x.base p) i e y is fits small in (
          record { processor = ahead.settled x.code (unseen (bare y)); world = w; output = None; gives = An_act; excused = false },
          private_chosen An_act false i (bare e) (bare y) w there,
          record {
            gives = refl;
            output = refl;
            status = refl;
            small = record { regs = kept.regs; frame = kept.frame };
            regs = refl;
            stands = λ r. refl;
            shows = shows;
            mine = subst (λ (sts : List _). AreStores x.code.globals (w.pending p) sts) (sym (pending_same i y is)) mine;
            others = λ q h. refl;
          },
        )
      where
        marks : (i : MidInst R) (y : MidProcessor) → step i e ≡ Some y → marked e.seen e.pending y ≡ y
        marks i y is = same_Some (marked e.seen e.pending y) y (sym (ap (option_map (marked e.seen e.pending)) is) ∙ (sym (ahead.step_marked x.key x.target x.code (x.base p) e.seen e.pending i e) ∙ is))

        seen_same : (i : MidInst R) (y : MidProcessor) → step i e ≡ Some y → e.seen ≡ y.seen
        seen_same i y is = ap (λ (z : MidProcessor). z.seen) (marks i y is)

        pending_same : (i : MidInst R) (y : MidProcessor) → step i e ≡ Some y → y.pending ≡ e.pending
        pending_same i y is = sym (ap (λ (z : MidProcessor). z.pending) (marks i y is))

    -- ---- operations
    fence_acts : (o : Op) (width : Width) (order : Order) (seq : Bool) (rs : List R) (d : MidDeed) → fenced x.key x.target x.code (x.base p) seq e numbers ≡ Some d
        → (t : Did MidProcessor Shared) × (did_atomic m false An_act rs (bare e) (Some (Rattle.ax_fine.specs.OnBytes.fenced x.target o width order seq p w)) ≡ Some t) × IsDone w t d
    fence_acts o width order true rs d is = (
      record { processor = ahead.settled x.code (goes_on (record (bare e) { regs = put_all x.key rs [] e.regs; seen = None })); world = sent_out p w; output = None; gives = An_act; excused = false },
      refl,
      subst (IsDone w _) (same_Some (record { processor = record e { place = e.place + 1; seen = None; pending = [] }; numbers = written_out e.pending numbers; output = None }) d is) (record {
        gives = refl;
        output = refl;
        status = refl;
        small = record { regs = small.regs; frame = small.frame };
        regs = put_none x.key rs e.regs;
        stands = λ r. ap (λ (regs : ℕ → ℕ). ahead.settled x.code (goes_on (record (bare e) { regs = regs; seen = None }))) (put_none x.key rs e.regs);
        shows = out_shows x.code.globals inside placed p w numbers e.pending shows mine;
        mine = out_mine x.code.globals inside placed p w numbers e.pending shows mine;
        others = out_others x.code.globals inside placed p w numbers e.pending shows mine;
      }),
    )
    fence_acts o width order false rs d is = (
      record { processor = ahead.settled x.code (goes_on (record (bare e) { regs = put_all x.key rs [] e.regs; seen = None })); world = w; output = None; gives = An_act; excused = false },
      refl,
      subst (IsDone w _) (same_Some (record { processor = unseen (goes_on e); numbers = numbers; output = None }) d is) (record {
        gives = refl;
        output = refl;
        status = refl;
        small = record { regs = small.regs; frame = small.frame };
        regs = put_none x.key rs e.regs;
        stands = λ r. ap (λ (regs : ℕ → ℕ). ahead.settled x.code (goes_on (record (bare e) { regs = regs; seen = None }))) (put_none x.key rs e.regs);
        shows = shows;
        mine = mine;
        others = λ q h. refl;
      }),
    )

    -- registers get what an operation on an element gave
    element_acts :
        (g i : ℕ) (at : MidGlobal) (there : slice_get x.code.globals g ≡ Some at) (within : i < at.count) (native : at.native ≡ true) (operation : ObjectOperation) (waits : Bool) (fits : Rattle.ax_fine.proofs.World.Stores (8 * at.bytes) operation)
        (rs : List R) (results : ℕ → List ℕ) → ((n : ℕ) → n < 2 ^ (8 * at.bytes) → Below (2 ^ 64) (results n))
        → (d : MidDeed) → (let v = effect_at x.target waits operation (8 * at.bytes) g i e.pending numbers in effected x.key x.target x.code (x.base p) rs (results v.found) v e) ≡ Some d
        → (let met = met_at x.target waits p (address_of at i) at.bytes operation w in (t : Did MidProcessor Shared) × (did_atomic m false An_act rs (bare e) (Some (results_with (results met.found) met.world)) ≡ Some t) × IsDone w t d)
    element_acts g i at there within native operation waits fits rs results below d is =
        let met = met_at x.target waits p (address_of at i) at.bytes operation w in
        let v = effect_at x.target waits operation (8 * at.bytes) g i e.pending numbers in
        let meet = meets x.code.globals inside placed p w numbers e.pending shows mine fit g i at there within native operation waits (is_buffered x.target) fits in
        let found_less = met_small x.code.globals inside placed p w numbers e.pending shows mine fit g i at there within native (manner_of_native operation waits) (is_buffered x.target) operation in
        let less : v.found < 2 ^ (8 * at.bytes) = subst (λ (n : ℕ). n < 2 ^ (8 * at.bytes)) meet.found found_less in (
          record { processor = ahead.settled x.code (goes_on (record (bare e) { regs = put_all x.key rs (results met.found) e.regs; seen = None })); world = met.world; output = None; gives = An_act; excused = false },
          refl,
          subst (IsDone w _)
              (same_Some (record { processor = record { place = e.place + 1; regs = put_all x.key rs (results v.found) e.regs; frame = e.frame; status = e.status; seen = None; pending = v.pending }; numbers = v.numbers; output = None }) d is)
              (record {
                gives = refl;
                output = refl;
                status = refl;
                small = record { regs = put_all_below x.key rs (results v.found) e.regs (2 ^ 64) small.regs (below v.found less); frame = small.frame };
                regs = ap (λ (n : ℕ). put_all x.key rs (results n) e.regs) meet.found;
                stands = λ r. ap (λ (n : ℕ). ahead.settled x.code (goes_on (record (bare e) { regs = put_all x.key rs (results n) e.regs; seen = None }))) meet.found;
                shows = meet.shows;
                mine = meet.mine;
                others = meet.others;
              }),
        )

    abbrev ElementActs : ℕ → ℕ → ℕ → ℕ → ObjectOperation → Bool → List R → (ℕ → List ℕ) → Type 0
    ElementActs g i a n operation waits rs results =
        Rattle.ax_fine.proofs.World.Stores (8 * n) operation → ((k : ℕ) → k < 2 ^ (8 * n) → Below (2 ^ 64) (results k))
        → (d : MidDeed) → effected x.key x.target x.code (x.base p) rs (results (effect_at x.target waits operation (8 * n) g i e.pending numbers).found) (effect_at x.target waits operation (8 * n) g i e.pending numbers) e ≡ Some d
        → (t : Did MidProcessor Shared) × (did_atomic m false An_act rs (bare e) (Some (results_with (results (met_at x.target waits p a n operation w).found) (met_at x.target waits p a n operation w).world)) ≡ Some t) × IsDone w t d

    placed_acts : (g i a n : ℕ) → IsElement x.code.globals g i a n → (operation : ObjectOperation) (waits : Bool) (rs : List R) (results : ℕ → List ℕ) → ElementActs g i a n operation waits rs results
    placed_acts g i a n el operation waits rs results =
        subst (λ (b : ℕ). ElementActs g i b n operation waits rs results) (sym el.address)
        (subst (λ (k : ℕ). ElementActs g i (address_of el.global i) k operation waits rs results) (sym el.bytes)
        (λ fits below d is. element_acts g i el.global el.there el.within el.native operation waits fits rs results below d is))

    args_below : (args : List R) → Below (2 ^ 64) (read_all x.key args e.regs)
    args_below args = read_below x.key args e.regs (2 ^ 64) small.regs

    module _ (o : Op) (width : Width) (order : Order) (weak : Bool) (address : R) (args results : List R) (d : MidDeed) where
      abbrev a : ℕ
      a = e.regs (x.key address)

      abbrev ns : List ℕ
      ns = read_all x.key args e.regs

      at_spot : (sp : Spot) → spot_of x.code.globals (x.base p) a (bytes_of width) ≡ sp → atomic_at x.key x.target x.code (x.base p) sp o width order args results e numbers ≡ Some d
          → (t : Did MidProcessor Shared) × (did_atomic m false An_act results (bare e) (Some (answered x.target o width order (operation_of o width ns) (met_at x.target (may_wait x.target width order) p a (bytes_of width) (operation_of o width ns) w))) ≡ Some t) × IsDone w t d
      at_spot (Own offset) at is = absurd (none-some d is)
      at_spot Nowhere at is = absurd (none-some d is)
      at_spot (Element g i) at is =
          let el = (element_is x.code.globals (x.base p) a (bytes_of width) g i some_bytes at).1 in
          placed_acts g i a (bytes_of width) el (operation_of o width ns) (may_wait x.target width order) results (λ n. results_of o width n (is_expected (operation_of o width ns) n)) (operation_small o width ns (args_below args))
          (λ n less. results_small o width n (is_expected (operation_of o width ns) n) less) d is

      abbrev Chosen : Bool → Type 0
      Chosen b =
          (t : Did MidProcessor Shared)
          × (did_atomic m false An_act results (bare e)
          (Some (if b then Rattle.ax_fine.specs.OnBytes.fenced x.target o width order (is_seq_cst order) p w else answered x.target o width order (operation_of o width ns) (met_at x.target (may_wait x.target width order) p a (bytes_of width) (operation_of o width ns) w))) ≡ Some t)
          × IsDone w t d

      by_kind : (b : Bool) → atomic_step x.key x.target x.code (x.base p) b (spot x.key x.target x.code (x.base p) e address (bytes_of width)) o width order args results e numbers ≡ Some d → Chosen b
      by_kind true is = fence_acts o width order (is_seq_cst order) results d is
      by_kind false is = at_spot (spot x.key x.target x.code (x.base p) e address (bytes_of width)) refl is

      atomic_acts : shared_step x.key x.target x.code (x.base p) (mid.Atomic o width order weak address args results) e numbers ≡ Some d → Acts (mid.Atomic o width order weak address args results) d
      unfolding shared_step chosen_by
      atomic_acts is = by_kind (is_fence o) is

    load_acts : (to address : R) (n : ℕ) → n ≤ 8 → (sp : Spot) → spot_of x.code.globals (x.base p) (e.regs (x.key address)) n ≡ sp → (d : MidDeed) → load_shared x.key x.target x.code (x.base p) sp to n e numbers ≡ Some d → Acts (mid.Load to address n) d
    unfolding chosen_by
    load_acts to address n few (Own offset) at d is = absurd (none-some d is)
    load_acts to address n few Nowhere at d is = absurd (none-some d is)
    load_acts to address n few (Element g i) at d is =
        let el = element_is x.code.globals (x.base p) (e.regs (x.key address)) n g i some_bytes at in
        let up = pow_within n few in
        let done = placed_acts g i (e.regs (x.key address)) n el.1 Reads false (to ∷ []) (λ k. k ∷ []) tt (λ k less. (omega (arith, less, up), tt)) d is in (
          done.0,
          ap (λ (b : Bool). if b then plain_by m An_act false p (mid.Load to address n) (bare e) w else did_atomic m false An_act (to ∷ []) (bare e) ((m.load n).happens An_act p (e.regs (x.key address)) [] e.seen w)) el.0 ∙ done.1,
          done.2,
        )

    store_acts : (address from : R) (n : ℕ) → (sp : Spot) → spot_of x.code.globals (x.base p) (e.regs (x.key address)) n ≡ sp → (d : MidDeed) → store_shared x.key x.target x.code (x.base p) sp (e.regs (x.key from)) n e numbers ≡ Some d → Acts (mid.Store address from n) d
    unfolding chosen_by
    store_acts address from n (Own offset) at d is = absurd (none-some d is)
    store_acts address from n Nowhere at d is = absurd (none-some d is)
    store_acts address from n (Element g i) at d is =
        let el = element_is x.code.globals (x.base p) (e.regs (x.key address)) n g i some_bytes at in
        let v = e.regs (x.key from) % 2 ^ (8 * n) in
        let done = placed_acts g i (e.regs (x.key address)) n el.1 (Writes v) true [] (λ k. []) (mod_below (e.regs (x.key from)) (2 ^ (8 * n)) (pow_pos (8 * n))) (λ k less. tt) d is in (
          done.0,
          ap (λ (b : Bool). if b then plain_by m An_act false p (mid.Store address from n) (bare e) w else did_atomic m false An_act [] (bare e) ((m.store n).happens An_act p (e.regs (x.key address)) (e.regs (x.key from) ∷ []) e.seen w)) el.0 ∙ done.1,
          done.2,
        )

    -- ---- lines that end, and outputs
    out_acts : (from : R) → Acts (mid.Out from) (record { processor = unseen (goes_on e); numbers = numbers; output = Some (e.regs (x.key from)) })
    unfolding chosen_by
    out_acts from = (
      record { processor = ahead.settled x.code (unseen (goes_on (bare e))); world = w; output = Some (e.regs (x.key from)); gives = An_act; excused = false },
      refl,
      record { gives = refl; output = refl; status = refl; small = record { regs = small.regs; frame = small.frame }; regs = refl; stands = λ r. refl; shows = shows; mine = mine; others = λ q h. refl },
    )

    trap_acts : Acts mid.Trap (record { processor = record e { status = Trapped }; numbers = numbers; output = None })
    unfolding chosen_by
    trap_acts = (
      record { processor = record (bare e) { status = Trapped }; world = w; output = None; gives = An_act; excused = false },
      refl,
      record { gives = refl; output = refl; status = refl; small = record { regs = small.regs; frame = small.frame }; regs = refl; stands = λ r. absurd (not_running Trapped refl r); shows = shows; mine = mine; others = λ q h. refl },
    )

    ret_acts : Acts mid.Ret (record { processor = record e { status = Ended; seen = None }; numbers = numbers; output = None })
    unfolding chosen_by
    ret_acts = (
      record { processor = record (bare e) { place = suc (Rattle.std.specs.Prelude.length x.code.lines); status = Ended; seen = None }; world = w; output = None; gives = An_act; excused = false },
      refl,
      record { gives = refl; output = refl; status = refl; small = record { regs = small.regs; frame = small.frame }; regs = refl; stands = λ r. absurd (not_ended Ended refl r); shows = shows; mine = mine; others = λ q h. refl },
    )

    shared_acts : (i : MidInst R) (d : MidDeed) → step i e ≡ None → shared_step x.key x.target x.code (x.base p) i e numbers ≡ Some d → IsSmallInst (x.base p) i → Acts i d
    unfolding private_step shared_step
    shared_acts (mid.Load to address n) d none is fits = load_acts to address n fits.1 (spot x.key x.target x.code (x.base p) e address n) refl d is
    shared_acts (mid.Store address from n) d none is fits = store_acts address from n (spot x.key x.target x.code (x.base p) e address n) refl d is
    shared_acts (mid.Atomic o width order weak address args results) d none is fits = atomic_acts o width order weak address args results d is
    shared_acts (mid.Out from) d none is fits = subst (Acts (mid.Out from)) (same_Some _ d is) (out_acts from)
    shared_acts mid.Trap d none is fits = subst (Acts mid.Trap) (same_Some _ d is) trap_acts
    shared_acts mid.Ret d none is fits = subst (Acts mid.Ret) (same_Some _ d is) ret_acts
    shared_acts _ d none is fits = absurd (none-some d is)

    -- each event of a line is that of the fine machine
    pub line_acts : (i : MidInst R) (o : Option MidProcessor) → step i e ≡ o → (d : MidDeed) → stepped x.key x.target x.code (x.base p) o (shared_step x.key x.target x.code (x.base p) i e numbers) numbers ≡ Some d → IsSmallInst (x.base p) i → Acts i d
    line_acts i (Some y) is d does fits = subst (Acts i) (same_Some _ d does) (private_acts i y is fits)
    line_acts i None is d does fits = shared_acts i d is does fits
