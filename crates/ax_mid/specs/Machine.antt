-- The one-step middle machine: an Act runs the lines that are silent up to one that has the event, and that one. An atomic operation is one step.
use Rattle.std.specs.Prelude.{ℕ, zero, suc, ◌+◌, ◌*◌, ◌/◌, ◌%◌, ◌^◌, Bool, true, false, not, ◌&&◌, nat_eq, if◌then◌else◌, List, [], ◌∷◌, ◌++◌, Option, Some, None, slice_get, slice_index_or, map}
use Rattle.ax_words.specs.declared.mark.Op.{Op}
use Rattle.ax_words.specs.declared.mark.Op.TheVariants as op
use Rattle.ax_words.specs.declared.order.Order.{Order}
use Rattle.ax_words.specs.declared.source.SourceEvent.{SourceEvent}
use Rattle.ax_words.specs.declared.source.SourceEvent.TheVariants.{Act, Look, Miss, Drain}
use Rattle.ax_words.specs.declared.source.SourceStatus.{SourceStatus}
use Rattle.ax_words.specs.declared.source.SourceStatus.TheVariants.{Running, Ended, Trapped}
use Rattle.ax_words.specs.declared.width.Width.{Width}
use Rattle.ax_words.specs.declared.width.Width.TheVariants.{W8, W16, W32, W64, W128}
use Rattle.ax_words.specs.Width.{bits_of, bytes_of}
use Rattle.ax_tags.specs.declared.tags.Tag.{Tag}
use Rattle.ax_tags.specs.declared.tags.Tag.TheVariants as tag
use Rattle.ax_store.specs.Bytes.{number_at, written}
use Rattle.ax_target.specs.declared.target.Target.{Target}
use Rattle.ax_target.specs.Decisions.{decided}
use Rattle.ax_target.specs.Targets.{is_buffered}
use Rattle.ax_source_run.specs.SourceAccess.{Manner, ObjectOperation, Reads, Writes, Updates, Compares, Waits, Looks, Drains, element_set, is_expected, manner_of_native, newest, put_at, set_if, stored_by, written_out}
use Rattle.ax_source_run.specs.SourceInstructions.{is_inline, is_seq_cst}
use Rattle.ax_source_run.specs.SourceState.{PendingStore}
use Rattle.ax_source_run.specs.SourceValues.{number_of_flag}
use Rattle.ax_mid.specs.declared.code.Line.{Line}
use Rattle.ax_mid.specs.declared.code.Mid.{Mid}
use Rattle.ax_mid.specs.declared.code.MidGlobal.{MidGlobal}
use Rattle.ax_mid.specs.declared.instruction.MidInst.{MidInst}
use Rattle.ax_mid.specs.declared.instruction.MidInst.TheVariants as mid
use Rattle.ax_mid.specs.Numbers.{applied, extended, selected, shifted}
use Rattle.ax_mid.specs.Processor.{MidDeed, MidProcessor, gets, goes_on, unseen}
use Rattle.ax_mid.specs.Spots.{Element, Nowhere, Own, Spot, spot_of}

-- ---- operations on objects
-- what an operation finds, the stores that wait after it, and the objects
pub record Effect : Type 0 where
  pub found : ℕ
  pub pending : List PendingStore
  pub numbers : ℕ → ℕ → ℕ

abbrev pub effect_of : Manner → Bool → ℕ → ℕ → ℕ → ObjectOperation → List PendingStore → (ℕ → ℕ → ℕ) → Effect
effect_of (Waits n) true bits g i operation pending numbers = record { found = 0; pending = pending ++ record { global = g; element = i; number = n } ∷ []; numbers = numbers }
effect_of (Waits n) false bits g i operation pending numbers = record { found = 0; pending = pending; numbers = element_set g i n numbers }
effect_of Looks buffered bits g i operation pending numbers = record { found = newest g i pending (numbers g i); pending = pending; numbers = numbers }
effect_of Drains buffered bits g i operation pending numbers = record {
  found = written_out pending numbers g i;
  pending = [];
  numbers = set_if (stored_by operation bits (written_out pending numbers g i)) g i (written_out pending numbers);
}

abbrev pub is_wide : Width → Bool
is_wide W128 = true
is_wide W8 = false
is_wide W16 = false
is_wide W32 = false
is_wide W64 = false

-- number k of what an operation takes, in one register or in two
abbrev pub argument : Width → List ℕ → ℕ → ℕ
argument width numbers k =
    if is_wide width then slice_index_or numbers (2 * k) 0 + 2 ^ 64 * slice_index_or numbers (2 * k + 1) 0
    else slice_index_or numbers k 0 % 2 ^ bits_of width

-- the registers' numbers of a number
abbrev pub parts_of : Bool → ℕ → List ℕ
parts_of true n = n % 2 ^ 64 ∷ n / 2 ^ 64 ∷ []
parts_of false n = n % 2 ^ 64 ∷ []

abbrev pub operation_of : Op → Width → List ℕ → ObjectOperation
operation_of op.Load width args = Reads
operation_of op.Store width args = Writes (argument width args 0)
operation_of op.Cmpxchg width args = Compares (argument width args 0) (argument width args 1)
operation_of (op.Rmw operation) width args = Updates operation (argument width args 0)
operation_of op.Fence width args = Reads

-- what the results get: the number found, or that and whether it was the expected one
abbrev pub results_of : Op → Width → ℕ → Bool → List ℕ
results_of op.Load width n equal = parts_of (is_wide width) n
results_of op.Store width n equal = []
results_of op.Cmpxchg width n equal = parts_of (is_wide width) n ++ number_of_flag equal ∷ []
results_of (op.Rmw operation) width n equal = parts_of (is_wide width) n
results_of op.Fence width n equal = []

abbrev pub is_fence : Op → Bool
is_fence op.Fence = true
is_fence op.Load = false
is_fence op.Store = false
is_fence op.Cmpxchg = false
is_fence (op.Rmw operation) = false

abbrev pub is_exchange : Op → Bool
is_exchange op.Cmpxchg = true
is_exchange op.Load = false
is_exchange op.Store = false
is_exchange op.Fence = false
is_exchange (op.Rmw operation) = false

-- a store waits that is one access and below seq_cst
abbrev pub may_wait : Target → Width → Order → Bool
may_wait target width order = not (is_seq_cst order) && is_inline (decided target op.Store width (bytes_of width))

abbrev pub effect_at : Target → Bool → ObjectOperation → ℕ → ℕ → ℕ → List PendingStore → (ℕ → ℕ → ℕ) → Effect
effect_at target waits operation bits g i pending numbers = effect_of (manner_of_native operation waits) (is_buffered target) bits g i operation pending numbers

-- the next processor, if there is one
abbrev pub followed : (MidProcessor → MidProcessor) → MidProcessor → Option MidProcessor → MidProcessor
followed f m None = m
followed f m (Some next) = f next

module _ {R : Type 0} (key : R → ℕ) where
  abbrev pub put_all : List R → List ℕ → (ℕ → ℕ) → ℕ → ℕ
  put_all [] numbers regs = regs
  put_all (r ∷ rs) [] regs = regs
  put_all (r ∷ rs) (n ∷ numbers) regs = put_all rs numbers (put_at regs (key r) n)

  abbrev pub read_all : List R → (ℕ → ℕ) → List ℕ
  read_all rs regs = map (λ r. regs (key r)) rs

  -- ---- labels
  abbrev pub label_at : MidInst R → Option ℕ
  label_at (mid.Label n) = Some n
  label_at _ = None

  abbrev pub is_label : ℕ → Option ℕ → Bool
  is_label n None = false
  is_label n (Some k) = nat_eq k n

  -- the place behind a label
  abbrev pub behind_label : List (Line R) → ℕ → ℕ → ℕ
  behind_label [] n place = place
  behind_label (line ∷ lines) n place = if is_label n (label_at line.inst) then place + 1 else behind_label lines n (place + 1)

  module _ (target : Target) (code : Mid R) (base : ℕ) where
    abbrev pub spot : MidProcessor → R → ℕ → Spot
    spot m r n = spot_of code.globals base (m.regs (key r)) n

    abbrev pub target_of : ℕ → ℕ
    target_of label = behind_label code.lines label 0

    -- ---- lines that touch registers and the frame alone
    abbrev pub loaded : Spot → ℕ → ℕ → MidProcessor → Option MidProcessor
    loaded (Own offset) to n m = Some (gets to (number_at m.frame offset n) m)
    loaded (Element g i) to n m = None
    loaded Nowhere to n m = None

    abbrev pub stored : Spot → ℕ → ℕ → MidProcessor → Option MidProcessor
    stored (Own offset) number n m = Some (record m { place = m.place + 1; frame = written m.frame offset n number })
    stored (Element g i) number n m = None
    stored Nowhere number n m = None

    unfoldable pub private_step : MidInst R → MidProcessor → Option MidProcessor
    private_step (mid.Const to n) m = Some (gets (key to) n m)
    private_step (mid.Copy to from) m = Some (gets (key to) (m.regs (key from)) m)
    private_step (mid.Apply operation to left right) m = Some (gets (key to) (applied operation (m.regs (key left)) (m.regs (key right))) m)
    private_step (mid.Shift operation to from by) m = Some (gets (key to) (shifted operation (m.regs (key from)) by) m)
    private_step (mid.Extend to from bits signed) m = Some (gets (key to) (extended bits signed (m.regs (key from))) m)
    private_step (mid.Select to test x y) m = Some (gets (key to) (selected (m.regs (key test)) (m.regs (key x)) (m.regs (key y))) m)
    private_step (mid.Label n) m = Some (goes_on m)
    private_step (mid.Jump n) m = Some (record m { place = target_of n })
    private_step (mid.Branch test x y) m = Some (record m { place = target_of (selected (m.regs (key test)) x y) })
    private_step (mid.FrameAddress to offset) m = Some (gets (key to) (base + offset) m)
    private_step (mid.Load to address n) m = loaded (spot m address n) (key to) n m
    private_step (mid.Store address from n) m = stored (spot m address n) (m.regs (key from)) n m
    private_step mid.Nop m = Some (goes_on m)
    private_step _ m = None

    abbrev pub line_at : MidProcessor → Option (Line R)
    line_at m = slice_get code.lines m.place

    abbrev pub quiet_by : Tag → MidInst R → MidProcessor → Option MidProcessor
    quiet_by tag.Silent i m = private_step i m
    quiet_by _ i m = None

    abbrev pub quiet_if : Option (Line R) → MidProcessor → Option MidProcessor
    quiet_if None m = None
    quiet_if (Some line) m = quiet_by line.tag line.inst m

    abbrev pub quiet_step : MidProcessor → Option MidProcessor
    quiet_step m = quiet_if (line_at m) m

    -- at most n silent lines
    abbrev pub advance : ℕ → MidProcessor → MidProcessor
    advance zero m = m
    advance (suc n) m = followed (λ next. advance n next) m (quiet_step m)

    -- ---- lines that have an event
    abbrev pub only : MidProcessor → (ℕ → ℕ → ℕ) → Option MidDeed
    only m numbers = Some (record { processor = unseen m; numbers = numbers; output = None })

    -- registers get what an operation gave
    abbrev pub effected : List R → List ℕ → Effect → MidProcessor → Option MidDeed
    effected rs results e m = Some (record {
      processor = record { place = m.place + 1; regs = put_all rs results m.regs; frame = m.frame; status = m.status; seen = None; pending = e.pending };
      numbers = e.numbers;
      output = None;
    })

    abbrev pub load_shared : Spot → R → ℕ → MidProcessor → (ℕ → ℕ → ℕ) → Option MidDeed
    load_shared (Element g i) to n m numbers = let e = effect_at target false Reads (8 * n) g i m.pending numbers in effected (to ∷ []) (e.found ∷ []) e m
    load_shared (Own offset) to n m numbers = None
    load_shared Nowhere to n m numbers = None

    abbrev pub store_shared : Spot → ℕ → ℕ → MidProcessor → (ℕ → ℕ → ℕ) → Option MidDeed
    store_shared (Element g i) number n m numbers = effected [] [] (effect_at target true (Writes (number % 2 ^ (8 * n))) (8 * n) g i m.pending numbers) m
    store_shared (Own offset) number n m numbers = None
    store_shared Nowhere number n m numbers = None

    abbrev pub fenced : Bool → MidProcessor → (ℕ → ℕ → ℕ) → Option MidDeed
    fenced true m numbers = Some (record { processor = record m { place = m.place + 1; seen = None; pending = [] }; numbers = written_out m.pending numbers; output = None })
    fenced false m numbers = only (goes_on m) numbers

    abbrev pub atomic_effect : Op → Width → Order → List ℕ → ℕ → ℕ → List PendingStore → (ℕ → ℕ → ℕ) → Effect
    atomic_effect o width order args g i pending numbers = effect_at target (may_wait target width order) (operation_of o width args) (bits_of width) g i pending numbers

    abbrev pub atomic_at : Spot → Op → Width → Order → List R → List R → MidProcessor → (ℕ → ℕ → ℕ) → Option MidDeed
    atomic_at (Element g i) o width order args results m numbers =
        let e = atomic_effect o width order (read_all args m.regs) g i m.pending numbers in
        effected results (results_of o width e.found (is_expected (operation_of o width (read_all args m.regs)) e.found)) e m
    atomic_at (Own offset) o width order args results m numbers = None
    atomic_at Nowhere o width order args results m numbers = None

    abbrev pub atomic_step : Bool → Spot → Op → Width → Order → List R → List R → MidProcessor → (ℕ → ℕ → ℕ) → Option MidDeed
    atomic_step true at o width order args results m numbers = fenced (is_seq_cst order) m numbers
    atomic_step false at o width order args results m numbers = atomic_at at o width order args results m numbers

    -- what only its event does; a call of a routine is defined with the routines
    unfoldable pub shared_step : MidInst R → MidProcessor → (ℕ → ℕ → ℕ) → Option MidDeed
    shared_step (mid.Load to address n) m numbers = load_shared (spot m address n) to n m numbers
    shared_step (mid.Store address from n) m numbers = store_shared (spot m address n) (m.regs (key from)) n m numbers
    shared_step (mid.Atomic o width order weak address args results) m numbers = atomic_step (is_fence o) (spot m address (bytes_of width)) o width order args results m numbers
    shared_step (mid.Out from) m numbers = Some (record { processor = unseen (goes_on m); numbers = numbers; output = Some (m.regs (key from)) })
    shared_step mid.Trap m numbers = Some (record { processor = record m { status = Trapped }; numbers = numbers; output = None })
    shared_step mid.Ret m numbers = Some (record { processor = record m { status = Ended; seen = None }; numbers = numbers; output = None })
    shared_step _ m numbers = None

    abbrev pub stepped : Option MidProcessor → Option MidDeed → (ℕ → ℕ → ℕ) → Option MidDeed
    stepped None shared numbers = shared
    stepped (Some next) shared numbers = only next numbers

    abbrev pub act_by : Tag → MidInst R → MidProcessor → (ℕ → ℕ → ℕ) → Option MidDeed
    act_by tag.Act i m numbers = stepped (private_step i m) (shared_step i m numbers) numbers
    act_by _ i m numbers = None

    abbrev pub act_if : Option (Line R) → MidProcessor → (ℕ → ℕ → ℕ) → Option MidDeed
    act_if None m numbers = None
    act_if (Some line) m numbers = act_by line.tag line.inst m numbers

    -- the event of the line at which a processor stands
    abbrev pub act_step : MidProcessor → (ℕ → ℕ → ℕ) → Option MidDeed
    act_step m numbers = act_if (line_at m) m numbers

    -- a weak exchange as it stands: what its object holds, and what it expects
    abbrev pub number_at_spot : Spot → (ℕ → ℕ → ℕ) → Option ℕ
    number_at_spot (Element g i) numbers = Some (numbers g i)
    number_at_spot (Own offset) numbers = None
    number_at_spot Nowhere numbers = None

    abbrev pub if_true : {A : Type 0} → Bool → Option A → Option A
    if_true true x = x
    if_true false x = None

    unfoldable pub seen_by : MidInst R → MidProcessor → (ℕ → ℕ → ℕ) → Option ℕ
    seen_by (mid.Atomic o width order weak address args results) m numbers = if_true (weak && is_exchange o) (number_at_spot (spot m address (bytes_of width)) numbers)
    seen_by _ m numbers = None

    abbrev pub seen_if : Option (Line R) → MidProcessor → (ℕ → ℕ → ℕ) → Option ℕ
    seen_if None m numbers = None
    seen_if (Some line) m numbers = seen_by line.inst m numbers

    abbrev pub miss_with : Width → List R → List ℕ → Option ℕ → MidProcessor → Option MidProcessor
    miss_with width results args None m = None
    miss_with width results args (Some n) m =
        if_true (nat_eq (argument width args 0) n) (Some (record m { place = m.place + 1; regs = put_all results (results_of op.Cmpxchg width (argument width args 0) false) m.regs; seen = None }))

    unfoldable pub missed_by : MidInst R → MidProcessor → Option MidProcessor
    missed_by (mid.Atomic o width order weak address args results) m = if_true (weak && is_exchange o) (miss_with width results (read_all args m.regs) m.seen m)
    missed_by _ m = None

    abbrev pub missed_if : Option (Line R) → MidProcessor → Option MidProcessor
    missed_if None m = None
    missed_if (Some line) m = missed_by line.inst m

-- ---- states
pub record MidState : Type 0 where
  pub numbers : ℕ → ℕ → ℕ
  pub outputs : List (ℕ × ℕ)
  pub processors : ℕ → MidProcessor

abbrev pub outputs_of : ℕ → Option ℕ → List (ℕ × ℕ)
outputs_of p None = []
outputs_of p (Some n) = (p, n) ∷ []

abbrev pub after : ℕ → Option MidDeed → MidState → MidState
after p None s = s
after p (Some d) s = record { numbers = d.numbers; outputs = s.outputs ++ outputs_of p d.output; processors = put_at s.processors p d.processor }

abbrev pub with_processor : ℕ → Option MidProcessor → MidState → MidState
with_processor p None s = s
with_processor p (Some m) s = record s { processors = put_at s.processors p m }

abbrev pub looked : ℕ → Option ℕ → MidState → MidState
looked p None s = s
looked p (Some n) s = record s { processors = put_at s.processors p (record (s.processors p) { seen = Some n }) }

abbrev pub drained : ℕ → List PendingStore → MidState → MidState
drained p [] s = s
drained p (store ∷ stores) s = record {
  numbers = element_set store.global store.element store.number s.numbers;
  outputs = s.outputs;
  processors = put_at s.processors p (record (s.processors p) { pending = stores });
}

-- `most`: how many silent lines an event runs; `base`: where each processor's frame begins
module _ {R : Type 0} (key : R → ℕ) (target : Target) (code : Mid R) (base : ℕ → ℕ) (most : ℕ) where
  abbrev pub ready : ℕ → MidState → MidProcessor
  ready p s = advance key target code (base p) most (s.processors p)

  -- a look changes what it saw, and runs nothing
  abbrev pub happens : SourceEvent → SourceStatus → MidState → MidState
  happens (Act p) Running s = after p (act_step key target code (base p) (ready p s) s.numbers) s
  happens (Look p) Running s = looked p (seen_if key target code (base p) (line_at key target code (base p) (ready p s)) (ready p s) s.numbers) s
  happens (Miss p) Running s = with_processor p (missed_if key target code (base p) (line_at key target code (base p) (ready p s)) (ready p s)) s
  happens (Drain p) status s = drained p (s.processors p).pending s
  happens _ _ s = s

  abbrev pub processor_of : SourceEvent → ℕ
  processor_of (Act p) = p
  processor_of (Look p) = p
  processor_of (Miss p) = p
  processor_of (Drain p) = p

  abbrev pub mid_event : SourceEvent → MidState → MidState
  mid_event e s = happens e (s.processors (processor_of e)).status s

  abbrev pub mid_run : List SourceEvent → MidState → MidState
  mid_run [] s = s
  mid_run (e ∷ es) s = mid_run es (mid_event e s)

-- a processor at a place of the code, with registers and a frame that are zero
abbrev pub first_processor : Option ℕ → MidProcessor
first_processor (Some place) = record { place = place; regs = λ r. 0; frame = λ i. 0; status = Running; seen = None; pending = [] }
first_processor None = record { place = 0; regs = λ r. 0; frame = λ i. 0; status = Ended; seen = None; pending = [] }
