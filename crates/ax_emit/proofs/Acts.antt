-- The step of a line that has its event, and what comes behind it.
use Rattle.std.proofs.Common.{◌≡◌, ℕ, ◌+◌, ◌%◌, ◌<◌, ◌≤◌, ◌^◌, Bool, true, false, refl, sym, ap, ◌∙◌, subst, inl, inr, zero, suc, arith}
use Rattle.std.specs.Prelude.{◌⊎◌, ◌||◌, ◌&&◌, if◌then◌else◌, nat_eq, Option, Some, None}
use Rattle.std.proofs.lemmas.Bool.{eqb-true, false≢true}
use Rattle.ax_words.specs.declared.source.SourceStatus.TheVariants.{Running as Runs}
use Rattle.ax_store.specs.Bytes.{all_inside, number_at}
use Rattle.ax_store.specs.Storage.{load, seen}
use Rattle.ax_store.proofs.Calls.{inside_all}
use Rattle.ax_store.proofs.Numbers.{number_same}
use Rattle.ax_tags.specs.declared.tags.Role.TheVariants.{None as Outside}
use Rattle.ax_tags.specs.declared.tags.Tag.{Tag}
use Rattle.ax_tags.specs.declared.tags.Tag.TheVariants.{Act}
use Rattle.ax_isa.specs.declared.cpu.Status.TheVariants.{Ended, Running, Trapped}
use Rattle.ax_isa.specs.declared.effects.Back.{Back}
use Rattle.ax_isa.specs.declared.effects.Back.TheVariants.{Place, Stack as Pops}
use Rattle.ax_isa.specs.declared.effects.Effect.{Effect}
use Rattle.ax_isa.specs.declared.effects.Effect.TheVariants.{Set, Compare, Load, Store, Locked, Fence, Link, LinkHalf, PairStore, Jump, CallTo, Return, Output, Trap, Nop}
use Rattle.ax_isa.specs.Past.{Noted}
use Rattle.ax_isa.specs.Processor.{Processor}
use Rattle.ax_isa.specs.Run.{Setting, step}
use Rattle.ax_isa.specs.Steps.{possible, effected, go_back, go_on, go_to, is_place, may_access, popped, with_status}
use Rattle.ax_isa.specs.Tells.{An_act, A_miss, Done, Library, is_excused, is_freeing, holder_after, told, with_role}
use Rattle.ax_follow.specs.Contract.{Did, Meaning, Reading, machine_status, MayWrite, Fair, IsOwn, Stage, Possible, OwnStep, Steps, Steppable}
use Rattle.ax_follow.proofs.Follow.{leaves, fetch}
use Rattle.ax_expand.specs.Continues.{Continues, Context, GoesOn, IsContext}
use Rattle.ax_expand.specs.Expands.{reading_of}
use Rattle.ax_expand.specs.Operation.{hushed}
use Rattle.ax_expand.specs.Private.{Private, Spells, went}
use Rattle.ax_expand.specs.Shared.{masked, shared_only}
use Rattle.ax_expand.specs.Standing.{hush, Here}
use Rattle.ax_expand.specs.World.{Alike}
use Rattle.ax_expand.proofs.Steps.{holder_still, some_is}
use Rattle.ax_expand.proofs.Straight.{Ahead, by_step, known, leads}
use Rattle.ax_expand.proofs.Telling.{act_hushed, place_ok}
use Rattle.ax_emit.specs.Performs.{Remains, remains, returned, stilled}

or_end : (a b : Bool) → b ≡ true → (a || b) ≡ true
or_end true b h = refl
or_end false b h = h

no_free : (quiet : Bool) → is_freeing (hush quiet Act) ≡ false
no_free true = refl
no_free false = refl

module _ {I P W : Type 0} (context : Context I P W) where
  abbrev x : Setting I
  x = context.setting

  abbrev l : Meaning P W
  l = context.meaning

  abbrev v : Reading
  v = context.reading

  abbrev p : ℕ
  p = context.processor

  abbrev s : P
  s = context.above

  abbrev left : Private → I → Noted → Done
  left y i n = leaves x l (reading_of v) p (x.kind.effect_of i y.cpu) y.cpu n

  abbrev pub ActsAt : I → ℕ → Type 0
  ActsAt i place = Here x (reading_of v) context.quiet context.number place (i, Act)

  -- what a step leaves that has the event, and that the code goes on behind it
  pub record Leads (n : Noted) (d : Done) (t : Did P W) : Type 0 where
    pub shows : l.sees d.noted t.world
    pub fair : Fair p (d.noted.storage.waiting p)
    pub others : (a : ℕ) → ¬ MayWrite p a → d.noted.storage.mem a ≡ n.storage.mem a
    pub tells : d.gives ≡ t.gives
    pub excuse : t.excused ≡ true → is_excused d ≡ true
    pub output : d.outcome.output ≡ t.output
    pub status : d.processor.status ≡ machine_status (l.status t.processor)
    pub stays : (v.owner d.processor.place ≡ context.number) ⊎ (d.processor.place ≡ l.begins t.processor)
    pub rest : d.processor.status ≡ Running → (j : Stage) → j.acted ≡ true → j.idle ≤ 0 → Ahead x l v p j t.processor d.processor d.noted

  abbrev pub Happens : I → Private → Type 0
  Happens i y =
      (j : Stage) (n : Noted) (w : W) → Spells p n y.frame → Steppable l (reading_of v) x p j s y.cpu n w
      → (possible p (x.kind.effect_of i y.cpu) y.cpu n.storage ≡ true) × Possible (l.chosen An_act p s w) (λ t. Leads n (left y i n) t)

  -- THE STEP THAT HAS THE EVENT
  pub event : (idle : ℕ) (i : I) (y : Private) → ActsAt i y.cpu.place → l.number s ≡ context.number → Happens i y → GoesOn context false idle y
  event idle i y here is acts = by_step x l v p false idle s y (λ e. absurd (false≢true e)) own
    where
      stay : (q r : ℕ) → (v.owner q ≡ context.number) ⊎ (q ≡ r) → (v.owner q ≡ v.owner y.cpu.place) ⊎ ((true ≡ true) × (q ≡ r))
      stay q r (inl e) = inl (e ∙ sym here.owner)
      stay q r (inr e) = inr (refl, e)

      makes : (j : Stage) (n : Noted) (d : Done) (o : Option (Did P W)) → j.acted ≡ false → Possible o (λ t. Leads n d t) → Possible o (λ t. OwnStep l (reading_of v) (Ahead x l v p) p j s y.cpu n d An_act t)
      makes j n d None before h = h
      makes j n d (Some t) before h =
          record {
            once = λ g. before;
            owned = λ g. here.owner ∙ sym is;
            stays = stay d.processor.place (l.begins t.processor) h.stays;
            shows = h.shows;
            touches = record { fair = h.fair; others = h.others };
            tells = h.tells;
            missed = λ g. absurd (let z : An_act ≡ A_miss = g in cc);
            excused = λ g e. or_end j.rested (is_excused d) (h.excuse e);
            few = omega arith;
            output = h.output;
            status = h.status;
            goes = λ r. h.rest r _ refl (omega arith);
          }

      own : (j : Stage) (n : Noted) (w : W) → j.acted ≡ false → j.idle ≤ idle → Spells p n y.frame → Steppable l (reading_of v) x p j s y.cpu n w → Steps l (reading_of v) x (Ahead x l v p) p j s y.cpu n w (step x p y.cpu n)
      own j n w before low spells may =
          let q = acts j n w spells may in
          fetch x l (reading_of v) (Ahead x l v p) p i Act (x.kind.effect_of i y.cpu) j s y.cpu n w here.code here.mark refl q.0 (makes j n (left y i n) (l.chosen An_act p s w) before q.1)

  -- what an event does above that no other sees
  abbrev pub quietly : P → Option ℕ → W → Did P W
  quietly t out w = record { processor = t; world = w; output = out; gives = hushed context.quiet An_act; excused = false }

  -- an event that touches the processor and its frame alone
  pub record Privately (i : I) (y : Private) (w : W) : Type 0 where
    pub next : P
    pub does : l.chosen An_act p s w ≡ Some (quietly next None w)
    pub runs : l.status next ≡ Runs
    pub private : Private
    pub goes : went context.room (x.kind.effect_of i y.cpu) y ≡ Some private
    pub stays : (v.owner private.cpu.place ≡ context.number) ⊎ (private.cpu.place ≡ l.begins next)
    pub rest : Continues x l v p true 0 next private

  pub private_event : IsContext context → (idle : ℕ) (i : I) (y : Private) → ActsAt i y.cpu.place → l.number s ≡ context.number → y.cpu.role ≡ Outside → ((w : W) → l.fits p s w → Privately i y w) → GoesOn context false idle y
  private_event sound idle i y here is role acts = event idle i y here is happens
    where
      happens : Happens i y
      happens j n w spells may =
          let a = acts w may.fits in
          let d = left y i n in
          let z0 = leads context sound i y a.private n here.small (known context sound context.quiet Act j y n w (no_free context.quiet) here.tag spells may) a.goes in
          let g = z0.1 in
          let good : Leads n d (quietly a.next None w) = record {
            shows = sound.over.up d.noted w (sound.laws.alike n d.noted w g.alike (sound.over.down n w may.sees));
            fair = g.fair;
            others = g.others;
            tells = act_hushed context.quiet (x.tags y.cpu.place) y.cpu d.bytes d.outcome here.tag role;
            excuse = λ h. absurd (false≢true h);
            output = g.output;
            status = ap (λ q. q.status) g.processor ∙ g.status ∙ may.running ∙ sym (ap machine_status a.runs);
            stays = subst (λ (q : Processor). (v.owner q.place ≡ context.number) ⊎ (q.place ≡ l.begins a.next)) (sym g.processor) a.stays;
            rest = λ r k after none. subst (λ q. Ahead x l v p k a.next q d.noted) (sym g.processor) (a.rest k d.noted after none g.spells);
          } in
          (z0.0, subst (λ o. Possible o (λ t. Leads n d t)) (sym a.does) good)

-- ---- effects that leave memory as it is
-- what the step of one leaves
pub record Still (lib : Library) (buffered : Bool) (tag : Tag) (p : ℕ) (e : Effect) (c : Processor) (n : Noted) (q : Processor) (out : Option ℕ) : Type 0 where
  pub can : possible p e c n.storage ≡ true
  pub storage : (told lib tag p e c n (effected buffered p e c n)).noted.storage ≡ n.storage
  pub holder : (told lib tag p e c n (effected buffered p e c n)).noted.past.holder ≡ holder_after lib p (is_freeing tag) n.storage.mem n.storage.mem n.past.holder
  pub processor : (told lib tag p e c n (effected buffered p e c n)).processor ≡ q
  pub output : (told lib tag p e c n (effected buffered p e c n)).outcome.output ≡ out

-- the root of p's frame: 8 bytes that p may read, and finds to be 0
pub record IsRoot (p root : ℕ) (n : Noted) : Type 0 where
  pub zero : load p root 8 n.storage ≡ 0
  pub may : may_access root 8 n.storage ≡ true

module _ (lib : Library) (buffered : Bool) (tag : Tag) (p root : ℕ) (c : Processor) (n : Noted) (is_root : IsRoot p root n) (small : c.place + 1 < 2 ^ 32) (q : Processor) (out : Option ℕ) (low : q.place < 2 ^ 32) where
  no_still : (e : Effect) → None ≡ Some (remains q out) → Still lib buffered tag p e c n q out
  no_still e h = absurd (let f : None ≡ Some (remains q out) = h in cc)

  low_at : (r : Processor) (o : Option ℕ) → remains r o ≡ remains q out → r.place < 2 ^ 32
  low_at r o h = subst (λ (z : Remains). z.processor.place < 2 ^ 32) (sym h) low

  returns : (place : ℕ) → remains (with_role Outside (go_back place c)) None ≡ remains q out → is_place place ≡ true
  returns zero h = place_ok 0 (omega arith)
  returns (suc place) h = place_ok (suc place) (low_at (with_role Outside (go_back (suc place) c)) None h)

  -- where the root is popped
  pops : (pointer a : ℕ) → a ≡ root → remains (with_role Outside (go_back 0 (popped (Pops pointer a) c))) None ≡ remains q out → Still lib buffered tag p (Return (Pops pointer a)) c n q out
  pops pointer a same h =
      let reads : load p a 8 n.storage ≡ 0 = ap (λ b. load p b 8 n.storage) same ∙ is_root.zero in
      record {
        can = ap (λ z. is_place z && may_access a 8 n.storage) reads ∙ ap (λ t. t && may_access a 8 n.storage) (place_ok 0 (omega arith)) ∙ ap (λ b. may_access b 8 n.storage) same ∙ is_root.may;
        storage = refl;
        holder = refl;
        processor = ap (λ z. with_role Outside (go_back z (popped (Pops pointer a) c))) reads ∙ ap (λ z. z.processor) h;
        output = ap (λ z. z.output) h;
      }

  still_back : (back : Back) → returned root back c ≡ Some (remains q out) → Still lib buffered tag p (Return back) c n q out
  still_back (Place place) e =
      let h = some_is (remains (with_role Outside (go_back place c)) None) (remains q out) e in
      record { can = ap (λ t. t && true) (returns place h); storage = refl; holder = refl; processor = ap (λ z. z.processor) h; output = ap (λ z. z.output) h }
  still_back (Pops pointer a) e = by (nat_eq a root) refl e
    where
      last : Remains
      last = remains (with_role Outside (go_back 0 (popped (Pops pointer a) c))) None

      by : (t : Bool) → nat_eq a root ≡ t → (if t then Some last else None) ≡ Some (remains q out) → Still lib buffered tag p (Return (Pops pointer a)) c n q out
      by true same h = pops pointer a (eqb-true a root same) (some_is last (remains q out) h)
      by false other h = no_still (Return (Pops pointer a)) h

  pub still_step : (e : Effect) → stilled root e c ≡ Some (remains q out) → Still lib buffered tag p e c n q out
  still_step (Jump place) e = let h = some_is (remains (go_to place c) None) (remains q out) e in record { can = place_ok place (low_at (go_to place c) None h); storage = refl; holder = refl; processor = ap (λ z. z.processor) h; output = ap (λ z. z.output) h }
  still_step (Return back) e = still_back back e
  still_step (Output number) e = let h = some_is (remains (go_on c) (Some number)) (remains q out) e in record { can = place_ok (c.place + 1) small; storage = refl; holder = refl; processor = ap (λ z. z.processor) h; output = ap (λ z. z.output) h }
  still_step Trap e = let h = some_is (remains (with_status Trapped c) None) (remains q out) e in record { can = refl; storage = refl; holder = refl; processor = ap (λ z. z.processor) h; output = ap (λ z. z.output) h }
  still_step Nop e = let h = some_is (remains (go_on c) None) (remains q out) e in record { can = place_ok (c.place + 1) small; storage = refl; holder = refl; processor = ap (λ z. z.processor) h; output = ap (λ z. z.output) h }
  still_step (Set to number) e = no_still (Set to number) e
  still_step (Compare a b) e = no_still (Compare a b) e
  still_step (Load to a bytes rest ends) e = no_still (Load to a bytes rest ends) e
  still_step (Store a bytes number) e = no_still (Store a bytes number) e
  still_step (Locked to high a bytes rest change) e = no_still (Locked to high a bytes rest change) e
  still_step Fence e = no_still Fence e
  still_step (Link to a bytes rest) e = no_still (Link to a bytes rest) e
  still_step (LinkHalf to a) e = no_still (LinkHalf to a) e
  still_step (PairStore to a bytes number) e = no_still (PairStore to a bytes number) e
  still_step (CallTo place saved) e = no_still (CallTo place saved) e

-- registers are as they were where it goes on, and it is in no call
pub record StillCpu (c q : Processor) : Type 0 where
  pub regs : q.status ≡ Running → q.regs ≡ c.regs
  pub role : c.role ≡ Outside → q.role ≡ Outside

still_cpu_by : (e : Effect) (c q r : Processor) (out o : Option ℕ) → remains r o ≡ remains q out → r.regs ≡ c.regs → (c.role ≡ Outside → r.role ≡ Outside) → StillCpu c q
still_cpu_by e c q r out o h regs role = record { regs = λ goes_on. sym (ap (λ z. z.processor.regs) h) ∙ regs; role = λ z. sym (ap (λ z. z.processor.role) h) ∙ role z }

no_cpu : (c q : Processor) (out : Option ℕ) → None ≡ Some (remains q out) → StillCpu c q
no_cpu c q out h = absurd (let f : None ≡ Some (remains q out) = h in cc)

back_regs : (place : ℕ) (c : Processor) → (with_role Outside (go_back place c)).regs ≡ c.regs
back_regs zero c = refl
back_regs (suc place) c = refl

-- one that has ended does not go on
ended_cpu : (c q r : Processor) (out o : Option ℕ) → remains r o ≡ remains q out → r.status ≡ Ended → r.role ≡ Outside → StillCpu c q
ended_cpu c q r out o h ended role = record { regs = λ goes_on. absurd (let z : Ended ≡ Running = sym ended ∙ ap (λ z. z.processor.status) h ∙ goes_on in cc); role = λ z. sym (ap (λ z. z.processor.role) h) ∙ role }

still_back_cpu : (root : ℕ) (back : Back) (c q : Processor) (out : Option ℕ) → returned root back c ≡ Some (remains q out) → StillCpu c q
still_back_cpu root (Place place) c q out e = still_cpu_by (Return (Place place)) c q (with_role Outside (go_back place c)) out None (some_is (remains (with_role Outside (go_back place c)) None) (remains q out) e) (back_regs place c) (λ z. refl)
still_back_cpu root (Pops pointer a) c q out e = by (nat_eq a root) e
  where
    last : Processor
    last = with_role Outside (go_back 0 (popped (Pops pointer a) c))

    by : (t : Bool) → (if t then Some (remains last None) else None) ≡ Some (remains q out) → StillCpu c q
    by true h = ended_cpu c q last out None (some_is (remains last None) (remains q out) h) refl refl
    by false h = no_cpu c q out h

pub still_cpu : (root : ℕ) (e : Effect) (c q : Processor) (out : Option ℕ) → stilled root e c ≡ Some (remains q out) → StillCpu c q
still_cpu root (Jump place) c q out e = still_cpu_by (Jump place) c q (go_to place c) out None (some_is (remains (go_to place c) None) (remains q out) e) refl (λ z. z)
still_cpu root (Return back) c q out e = still_back_cpu root back c q out e
still_cpu root (Output number) c q out e = still_cpu_by (Output number) c q (go_on c) out (Some number) (some_is (remains (go_on c) (Some number)) (remains q out) e) refl (λ z. z)
still_cpu root Trap c q out e = still_cpu_by Trap c q (with_status Trapped c) out None (some_is (remains (with_status Trapped c) None) (remains q out) e) refl (λ z. z)
still_cpu root Nop c q out e = still_cpu_by Nop c q (go_on c) out None (some_is (remains (go_on c) None) (remains q out) e) refl (λ z. z)
still_cpu root (Set to number) c q out e = no_cpu c q out e
still_cpu root (Compare a b) c q out e = no_cpu c q out e
still_cpu root (Load to a bytes rest ends) c q out e = no_cpu c q out e
still_cpu root (Store a bytes number) c q out e = no_cpu c q out e
still_cpu root (Locked to high a bytes rest change) c q out e = no_cpu c q out e
still_cpu root Fence c q out e = no_cpu c q out e
still_cpu root (Link to a bytes rest) c q out e = no_cpu c q out e
still_cpu root (LinkHalf to a) c q out e = no_cpu c q out e
still_cpu root (PairStore to a bytes number) c q out e = no_cpu c q out e
still_cpu root (CallTo place saved) c q out e = no_cpu c q out e

module _ {I P W : Type 0} (context : Context I P W) where
  -- the 8 bytes from `root` on are 0, and lie in the frame
  pub record Rooted (root : ℕ) (y : Private) : Type 0 where
    pub zero : number_at y.frame root 8 ≡ 0
    pub aligned : root % 8 ≡ 0
    pub own : (b : ℕ) → root ≤ b → b < root + 8 → IsOwn context.processor b
    pub inside : (w : W) → context.meaning.fits context.processor context.above w → (b : ℕ) → root ≤ b → b < root + 8 → context.world.inside w b ≡ true

  -- so the processor finds them, behind its stores that wait
  root_here : IsContext context → (root : ℕ) (j : Stage) (y : Private) (n : Noted) (w : W) → Rooted root y → Spells context.processor n y.frame → Steppable context.meaning (reading_of context.reading) context.setting context.processor j context.above y.cpu n w → IsRoot context.processor root n
  root_here sound root j y n w rooted spells may =
      let inside : (i : ℕ) → i < 8 → n.storage.inside (root + i) ≡ true = λ i less. ap (λ f. f (root + i)) (sound.laws.inside n w (sound.over.down n w may.sees)) ∙ rooted.inside w may.fits (root + i) (omega arith) (omega (arith, less)) in
      record {
        zero = number_same (seen context.processor n.storage) y.frame root 8 (λ i less. spells (root + i) (rooted.own (root + i) (omega arith) (omega (arith, less)))) ∙ rooted.zero;
        may = ap (λ t. t && all_inside n.storage.inside root 8) (ap (λ z. nat_eq z 0) rooted.aligned) ∙ inside_all n.storage.inside root 8 inside;
      }

  -- an event that leaves memory as it is
  pub record Stilly (i : I) (y : Private) : Type 0 where
    pub next : P
    pub output : Option ℕ
    pub does : (w : W) → context.meaning.chosen An_act context.processor context.above w ≡ Some (quietly context next output w)
    pub last : Processor
    pub root : ℕ
    pub rooted : Rooted root y
    pub stills : stilled root (context.setting.kind.effect_of i y.cpu) y.cpu ≡ Some (remains last output)
    pub low : last.place < 2 ^ 32
    pub status : y.cpu.status ≡ Running → last.status ≡ machine_status (context.meaning.status next)
    pub place : last.place ≡ context.meaning.begins next
    pub rest : last.status ≡ Running → Continues context.setting context.meaning context.reading context.processor true 0 next (record { cpu = last; frame = y.frame })

  pub still_event : IsContext context → (idle : ℕ) (i : I) (y : Private) → ActsAt context i y.cpu.place → context.meaning.number context.above ≡ context.number → y.cpu.role ≡ Outside → Stilly i y → GoesOn context false idle y
  still_event sound idle i y here is role a = event context idle i y here is happens
    where
      happens : Happens context i y
      happens j n w spells may =
          let lib = context.setting.library in
          let d = left context y i n in
          let z = still_step lib context.setting.kind.buffered (context.setting.tags y.cpu.place) context.processor a.root y.cpu n (root_here sound a.root j y n w a.rooted spells may) here.small a.last a.output a.low (context.setting.kind.effect_of i y.cpu) a.stills in
          let free : is_freeing (context.setting.tags y.cpu.place) ≡ false = ap is_freeing here.tag ∙ no_free context.quiet in
          let like : Alike n d.noted = record {
            inside = ap (λ st. st.inside) z.storage;
            mem = ap (λ st. masked st.mem) z.storage;
            pending = λ r. ap (λ st. shared_only (st.waiting r)) z.storage;
            holder = λ word. ap (λ f. f word) z.holder ∙ ap (λ b. holder_after lib context.processor b n.storage.mem n.storage.mem n.past.holder word) free ∙ holder_still lib context.processor n.storage.mem n.storage.mem n.past.holder sound.words refl word;
          } in
          let good : Leads context n d (quietly context a.next a.output w) = record {
            shows = sound.over.up d.noted w (sound.laws.alike n d.noted w like (sound.over.down n w may.sees));
            fair = subst (λ st. Fair context.processor (st.waiting context.processor)) (sym z.storage) may.fair;
            others = λ b no_right. ap (λ st. st.mem b) z.storage;
            tells = act_hushed context.quiet (context.setting.tags y.cpu.place) y.cpu d.bytes d.outcome here.tag role;
            excuse = λ h. absurd (false≢true h);
            output = z.output;
            status = ap (λ q. q.status) z.processor ∙ a.status may.running;
            stays = inr (ap (λ q. q.place) z.processor ∙ a.place);
            rest = λ r k after none. subst (λ q. Ahead context.setting context.meaning context.reading context.processor k a.next q d.noted) (sym z.processor)
                (a.rest (ap (λ q. q.status) (sym z.processor) ∙ r) k d.noted after none (subst (λ st. (b : ℕ) → IsOwn context.processor b → seen context.processor st b ≡ y.frame b) (sym z.storage) spells));
          } in
          (z.can, subst (λ o. Possible o (λ t. Leads context n d t)) (sym (a.does w)) good)
