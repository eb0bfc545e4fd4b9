-- Runs of processor 0 in which the wrong pieces break the contract.
use Rattle.std.proofs.Common.{◌≡◌, ℕ, ◌+◌, ◌^◌, ◌<◌, Bool, true, false, List, [], ◌∷◌, length, None, refl, sym, ap, ◌∙◌, subst, inl, inr, ⊎_elim, arith}
use Rattle.std.specs.Prelude.{if◌then◌else◌, nat_eq, nat_lt, map}
use Rattle.std.proofs.lemmas.Bool.{false≢true}
use Rattle.std.proofs.lemmas.Bool.Decides.{nat_tests}
use Rattle.ax_words.specs.declared.operation.RmwOp.TheVariants as rmw
use Rattle.ax_store.specs.Bytes.{all_inside}
use Rattle.ax_store.specs.Storage.{entry_of, seen}
use Rattle.ax_tags.specs.declared.tags.Role.TheVariants.{None as Outside}
use Rattle.ax_tags.specs.declared.tags.Tag.{Tag}
use Rattle.ax_tags.specs.declared.tags.Tag.TheVariants.{Act}
use Rattle.ax_isa.specs.declared.effects.Effect.TheVariants as effect
use Rattle.ax_isa.specs.Steps.{flushes}
use Rattle.ax_isa.specs.declared.cpu.Status.TheVariants.{Running}
use Rattle.ax_isa.specs.Past.{Note, Noted, start_past}
use Rattle.ax_isa.specs.Processor.{Processor}
use Rattle.ax_isa.specs.Run.{Setting, step, tag_at}
use Rattle.ax_isa.specs.Tells.{Done, Library, told_of}
use Rattle.ax_rv.specs.declared.instructions.RvInstr.{RvInstr}
use Rattle.ax_rv.specs.Instructions.{rv_kind}
use Rattle.ax_x86.specs.declared.instructions.X86Instr.TheVariants as x86
use Rattle.ax_x86.specs.Instructions.{effect_of as x86_effect, x86_kind}
use Rattle.ax_follow.specs.Contract.{ByOthers, Fair, Happening, InStep, Meaning, Other, Own, Reading, Stage, Steppable, stage_start}
use Rattle.ax_expand.specs.Bytes.{bytes_world}
use Rattle.ax_expand.specs.Expands.{Expands, reading_of}
use Rattle.ax_expand.specs.Operation.{Inner, Operation, alone}
use Rattle.ax_expand.specs.Shared.{Sees, Shared, is_shared, masked, shared_only}
use Rattle.ax_expand.specs.Standing.{HasAt, Here, setting_by}
use Rattle.ax_expand.proofs.Sights.{fair_entry}
use Rattle.ax_loops.specs.Storing.{fencing}
use Rattle.ax_loops.specs.Updating.{updating_on}
use Rattle.ax_trials.specs.Refused.{IsRefused, NopIsNoFence, leaving_code, plain_code, registers, twice_code}

-- the object lies at 65,536, and 1 is added to it
abbrev pub regs : ℕ → ℕ
regs r = if nat_eq r 10 then 65536 else (if nat_eq r 11 then 1 else 0)

abbrev pub inner : Inner
inner = record { regs = regs; seen = None; over = false }

abbrev pub cpu : Processor
cpu = record { regs = regs; compared = (0, 0); half = false; place = 1; status = Running; role = Outside }

abbrev pub zeros : Noted
zeros = record { storage = record { inside = λ b. true; mem = λ b. 0; waiting = λ p. []; linked = λ p. None }; past = start_past }

abbrev pub nothing_named : Library
nothing_named = record { object = λ place c. None; word = λ a. 0; is_word = λ a. false }

-- another processor has written 1 to the object's first byte, which ends all reservations
abbrev pub touched_all : Note → Note
touched_all note = record note { touched = λ b. true }

abbrev pub by_another : Noted → Noted
by_another n =
    record {
      storage = record n.storage { mem = λ b. if nat_eq b 65536 then 1 else n.storage.mem b; linked = λ q. None };
      past = record n.past { lost = λ q. true; kept = λ q. touched_all (n.past.kept q); next = λ q. touched_all (n.past.next q) };
    }

pub another_may : (n : Noted) → ByOthers 0 n (by_another n)
another_may n =
    record {
      inside = refl;
      waiting = refl;
      own = λ a mine. (let low = mine.0 in let apart : nat_eq a 65536 ≡ false = grind (arith, nat_tests, low) in ap (λ (t : Bool). if t then 1 else n.storage.mem a) apart);
      linked = inl refl;
      last = refl;
      lost = λ r is alive. inr refl;
      kept = record { read = refl; number = refl; reached = λ b. inr refl };
      next = record { read = refl; number = refl; reached = λ b. inr refl };
      called = refl;
    }

pub another_small : (n : Noted) → ((b : ℕ) → n.storage.mem b < 2 ^ 8) → (b : ℕ) → (by_another n).storage.mem b < 2 ^ 8
another_small n small b = go (nat_eq b 65536)
  where
    go : (t : Bool) → (if t then 1 else n.storage.mem b) < 2 ^ 8
    go true = omega arith
    go false = small b

pub masked_small : (f : ℕ → ℕ) → ((b : ℕ) → f b < 2 ^ 8) → (b : ℕ) → masked f b < 2 ^ 8
masked_small f small b = go (is_shared b)
  where
    go : (t : Bool) → (if t then f b else 0) < 2 ^ 8
    go true = small b
    go false = omega arith

-- what a state shows
abbrev pub shown : Noted → Shared
shown n = record { inside = n.storage.inside; mem = masked n.storage.mem; pending = λ p. shared_only (n.storage.waiting p) }

pub shows : (n : Noted) → Sees n.storage (shown n)
shows n = record { inside = refl; mem = refl; pending = λ p. refl }

-- the piece stands from place 1 on, and nothing else is its instruction's
abbrev pub owner_to : ℕ → ℕ → ℕ
owner_to size place = if nat_lt size place then 1 else 0

-- a piece as the code of an operation
module _ (o : Operation Shared) (piece : List (RvInstr × Tag)) (keeps : ℕ → Bool) (most : ℕ) where
  abbrev pub tags : ℕ → Tag
  tags place = tag_at (map (λ i. i.1) piece) place

  abbrev pub x : Setting RvInstr
  x = setting_by rv_kind (map (λ i. i.0) piece) tags nothing_named

  abbrev pub v : Reading
  v = record { marks = tags; given = told_of; owner = owner_to (length piece); counts = λ e. true; public = λ e. true; most = most; words = false }

  abbrev pub l : Meaning Inner Shared
  l = alone bytes_world o false keeps (λ p b. 0) 1 (1 + length piece) 0

  -- whatever happens, it would keep in step
  pub would : HasAt x (reading_of v) false 0 1 piece → Expands rv_kind bytes_world most keeps (length piece) (λ start. piece) o → (hs : List Happening) → InStep l (reading_of v) x 0 hs stage_start inner cpu zeros
  would has e hs =
      (e.follows (map (λ i. i.0) piece) tags nothing_named v false 0 1 (λ p b. 0) (λ a h. absurd (false≢true h)) (omega arith) has).follows 0 inner cpu zeros refl refl refl (record { regs = λ r k. refl; role = refl; frame = λ b mine. refl }) hs

  -- before the event a running processor with these numbers makes its next step
  pub may : (j : Stage) (c : Processor) (n : Noted) → j.acted ≡ false → c.status ≡ Running → o.fits regs (shown n) → n.storage.waiting 0 ≡ [] → Steppable l (reading_of v) x 0 j inner c n (shown n)
  may j c n acted running fit empty =
      record {
        sees = shows n;
        fits = fit;
        fair = subst (λ es. Fair 0 es) (sym empty) tt;
        flat = λ f. empty;
        empty = λ f. empty;
        running = running;
        runs = refl;
        inner = λ f. absurd (false≢true (sym acted ∙ f));
        bounds = λ f. absurd (false≢true f);
      }

  abbrev pub first : Done
  first = step x 0 cpu zeros

  abbrev pub changed : Noted
  changed = by_another first.noted

  abbrev pub second : Done
  second = step x 0 first.processor changed

  abbrev pub third : Done
  third = step x 0 second.processor second.noted

abbrev addition : Operation Shared
addition = updating_on rmw.Add 8 registers

addition_fit : (n : Noted) → all_inside n.storage.inside 65536 8 ≡ true → ((b : ℕ) → n.storage.mem b < 2 ^ 8) → addition.fits regs (shown n)
addition_fit n inside small = (record { aligned = refl; below = omega arith; some = omega arith; inside = inside; small = masked_small n.storage.mem small }, (omega arith, tt))

-- another processor may write between the load and the store
module _ (keeps : ℕ → Bool) (most : ℕ) (e : Expands rv_kind bytes_world most keeps 3 (λ start. plain_code) (updating_on rmw.Add 8 registers)) where
  abbrev c1 : Done
  c1 = first addition plain_code keeps most

  abbrev n1 : Noted
  n1 = changed addition plain_code keeps most

  abbrev c2 : Done
  c2 = second addition plain_code keeps most

  plain_has : HasAt (x addition plain_code keeps most) (reading_of (v addition plain_code keeps most)) false 0 1 plain_code
  plain_has =
      (record { code = refl; mark = refl; tag = refl; owner = refl; small = omega arith }, (record { code = refl; mark = refl; tag = refl; owner = refl; small = omega arith }, (record { code = refl; mark = refl; tag = refl; owner = refl; small = omega arith }, tt)))

  plain_breaks : ⊥
  plain_breaks =
      let run = would addition plain_code keeps most plain_has e (Own ∷ Other n1 ∷ Own ∷ Own ∷ []) in
      let loads = run.1 (shown zeros) (may addition plain_code keeps most stage_start cpu zeros refl refl (addition_fit zeros refl (λ b. omega arith)) refl) in
      let between = (loads.goes refl).1 (another_may c1.noted) in
      let adds = between.1 (shown n1) (may addition plain_code keeps most _ c1.processor n1 refl refl (addition_fit n1 refl (another_small c1.noted (λ b. omega arith))) refl) in
      let stores = (adds.goes refl).1 (shown c2.noted) (may addition plain_code keeps most _ c2.processor c2.noted refl refl (addition_fit c2.noted refl (another_small c1.noted (λ b. omega arith))) refl) in
      let f : 1 ≡ 2 = ap (λ m. m 65536) stores.shows.mem in
      omega (arith, f)

pub plain_refused : IsRefused plain_code
plain_refused = λ keeps most e. plain_breaks keeps most e

-- where the pair store fails, the code is left without its event
module _ (keeps : ℕ → Bool) (most : ℕ) (e : Expands rv_kind bytes_world most keeps 4 (λ start. leaving_code) (updating_on rmw.Add 8 registers)) where
  abbrev b1 : Done
  b1 = first addition leaving_code keeps most

  abbrev m1 : Noted
  m1 = changed addition leaving_code keeps most

  abbrev b2 : Done
  b2 = second addition leaving_code keeps most

  abbrev b3 : Done
  b3 = third addition leaving_code keeps most

  leaving_has : HasAt (x addition leaving_code keeps most) (reading_of (v addition leaving_code keeps most)) false 0 1 leaving_code
  leaving_has =
      (record { code = refl; mark = refl; tag = refl; owner = refl; small = omega arith }, (record { code = refl; mark = refl; tag = refl; owner = refl; small = omega arith }, (record { code = refl; mark = refl; tag = refl; owner = refl; small = omega arith }, (record { code = refl; mark = refl; tag = refl; owner = refl; small = omega arith }, tt))))

  leaving_breaks : ⊥
  leaving_breaks =
      let run = would addition leaving_code keeps most leaving_has e (Own ∷ Other m1 ∷ Own ∷ Own ∷ Own ∷ []) in
      let links = run.1 (shown zeros) (may addition leaving_code keeps most stage_start cpu zeros refl refl (addition_fit zeros refl (λ b. omega arith)) refl) in
      let between = (links.goes refl).1 (another_may b1.noted) in
      let small = another_small b1.noted (λ b. omega arith) in
      let adds = between.1 (shown m1) (may addition leaving_code keeps most _ b1.processor m1 refl refl (addition_fit m1 refl small) refl) in
      let stores = (adds.goes refl).1 (shown b2.noted) (may addition leaving_code keeps most _ b2.processor b2.noted refl refl (addition_fit b2.noted refl small) refl) in
      let leaves = (stores.goes refl).1 (shown b3.noted) (may addition leaving_code keeps most _ b3.processor b3.noted refl refl (addition_fit b3.noted refl small) refl) in
      ⊎_elim (λ f. (let g : 1 ≡ 0 = f in omega (arith, g))) (λ f. false≢true f.0) leaves.stays

pub leaving_refused : IsRefused leaving_code
leaving_refused = λ keeps most e. leaving_breaks keeps most e

-- above there is one event, and then nothing more
module _ (keeps : ℕ → Bool) (most : ℕ) (e : Expands rv_kind bytes_world most keeps 2 (λ start. twice_code) (updating_on rmw.Add 8 registers)) where
  abbrev a1 : Done
  a1 = first addition twice_code keeps most

  twice_has : HasAt (x addition twice_code keeps most) (reading_of (v addition twice_code keeps most)) false 0 1 twice_code
  twice_has = (record { code = refl; mark = refl; tag = refl; owner = refl; small = omega arith }, (record { code = refl; mark = refl; tag = refl; owner = refl; small = omega arith }, tt))

  twice_breaks : ⊥
  twice_breaks =
      let run = would addition twice_code keeps most twice_has e (Own ∷ Own ∷ []) in
      let once = run.1 (shown zeros) (may addition twice_code keeps most stage_start cpu zeros refl refl (addition_fit zeros refl (λ b. omega arith)) refl) in
      (once.goes refl).1 (shown a1.noted) (record { sees = shows a1.noted; fits = tt; fair = tt; flat = λ f. refl; empty = λ f. refl; running = refl; runs = refl; inner = λ f g. (let h : 2 ≡ 3 = g in omega (arith, h)); bounds = λ f. absurd (false≢true f) })

pub twice_refused : IsRefused twice_code
twice_refused = λ keeps most e. twice_breaks keeps most e

-- a store of its own waits, and above the fence can't happen
abbrev waits : Noted
waits = record { storage = record { inside = λ b. true; mem = λ b. 0; waiting = λ p. entry_of 65536 8 1 ∷ []; linked = λ p. None }; past = start_past }

nop_effect : (c : Processor) → x86_effect x86.Nop c ≡ effect.Nop
unfolding x86_effect
nop_effect c = refl

module _ (keeps : ℕ → Bool) (most : ℕ) (e : Expands x86_kind bytes_world most keeps 1 (λ start. (x86.Nop, Act) ∷ []) fencing) where
  abbrev nop_reading : Reading
  nop_reading = record { marks = λ place. Act; given = told_of; owner = owner_to 1; counts = λ e. true; public = λ e. true; most = most; words = false }

  nop_breaks : ⊥
  nop_breaks =
      let here : Here (setting_by x86_kind (x86.Nop ∷ []) (λ place. Act) nothing_named) (reading_of nop_reading) false 0 1 (x86.Nop, Act) = record { code = refl; mark = refl; tag = refl; owner = refl; small = omega arith } in
      let begun = e.follows (x86.Nop ∷ []) (λ place. Act) nothing_named nop_reading false 0 1 (λ p b. seen p waits.storage b) (λ a h. absurd (false≢true h)) (omega arith) (here, tt) in
      let run = begun.follows 0 inner cpu waits refl refl refl (record { regs = λ r k. refl; role = refl; frame = λ b mine. refl }) (Own ∷ []) in
      run.1 (shown waits)
      (record {
        sees = shows waits;
        fits = tt;
        fair = (fair_entry 0 65536 8 1 (omega arith), tt);
        flat = λ f. absurd (false≢true (sym f));
        empty = λ f. absurd (false≢true (sym (ap (λ q. flushes 0 q cpu waits.storage) (nop_effect cpu)) ∙ f));
        running = refl;
        runs = refl;
        inner = λ f. absurd (false≢true f);
        bounds = λ f. absurd (false≢true f);
      })

pub nop_refused : NopIsNoFence
nop_refused = λ keeps most e. nop_breaks keeps most e
