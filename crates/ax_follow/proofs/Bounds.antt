-- Registers hold words and memory bytes after every event.
use Rattle.std.proofs.Common.{◌≡◌, ℕ, zero, suc, ◌+◌, ◌-◌, ◌*◌, ◌/◌, ◌%◌, ◌^◌, ◌<◌, ◌≤◌, Bool, true, false, List, [], ◌∷◌, Option, Some, None, refl, sym, ap, ◌∙◌, subst, inl, inr, ⊎_elim, arith}
use Rattle.std.specs.Prelude.{◌⊎◌, ◌&&◌, if◌then◌else◌, nat_eq, nat_le}
use Rattle.std.proofs.lemmas.Bool.{cases_eq, eq-eqb, false≢true, ne_eqb}
use Rattle.std.proofs.lemmas.Bool.Decides.{nat_tests}
use Rattle.ax_words.specs.declared.event.Event.{Event}
use Rattle.ax_words.specs.declared.event.Event.TheVariants.{Step, Drain, Drop}
use Rattle.ax_store.specs.declared.entry.Entry.{Entry}
use Rattle.ax_map.specs.Map.{covers}
use Rattle.ax_store.specs.Bytes.{IsWidth, byte_of, number_at, put}
use Rattle.ax_store.specs.Storage.{at_place, byte_after, load, may_pair, newest, seen}
use Rattle.ax_store.proofs.Numbers.{number_small}
use Rattle.ax_isa.specs.declared.cpu.Status.{Status}
use Rattle.ax_isa.specs.declared.cpu.Status.TheVariants.{Running, Ended, Trapped, Stuck}
use Rattle.ax_isa.specs.declared.effects.Back.{Back}
use Rattle.ax_isa.specs.declared.effects.Back.TheVariants.{Place, Stack as Pops}
use Rattle.ax_isa.specs.declared.effects.Change.{Change}
use Rattle.ax_isa.specs.declared.effects.Change.TheVariants.{Update, Exchange}
use Rattle.ax_isa.specs.declared.effects.Effect.{Effect}
use Rattle.ax_isa.specs.declared.effects.Effect.TheVariants.{Set, Compare, Load, Store, Locked, Fence, Link, LinkHalf, PairStore, Jump, CallTo, Return, Output, Trap, Nop}
use Rattle.ax_isa.specs.declared.effects.Rest.{Rest}
use Rattle.ax_isa.specs.declared.effects.Rest.TheVariants.{Zeros, Signs, Stays}
use Rattle.ax_isa.specs.declared.effects.Saved.{Saved}
use Rattle.ax_isa.specs.declared.effects.Saved.TheVariants.{Register, Stack}
use Rattle.ax_isa.specs.Effects.{FitsChange, FitsRegister, IsEffect}
use Rattle.ax_isa.specs.Past.{Noted, drain, drain_first, drain_list, store, write}
use Rattle.ax_isa.specs.Processor.{Processor}
use Rattle.ax_isa.specs.Run.{Machine, Setting, after_step, at_code, happens, ready, run, sent, step, step_at, step_if, with_noted}
use Rattle.ax_isa.specs.Steps.{back_place, called_from, effected, exchanged, extended, go_back, is_place, paired, popped, possible, replace, saved_place, stuck, taken}
use Rattle.ax_isa.specs.Tells.{told, told_stuck}
use Rattle.ax_isa.proofs.Functions.{at_same, at_other}
use Rattle.ax_follow.specs.Bounds.{AllInBounds, AreBytes, AreWords, BringsWord, Bounded, InBounds}

-- one place changed
at_small : (k : ℕ) (f : ℕ → ℕ) (r v : ℕ) → ((q : ℕ) → f q < k) → v < k → (q : ℕ) → at_place f r v q < k
at_small k f r v h small q = ⊎_elim (λ same. subst (λ y. y < k) (sym (ap (at_place f r v) same ∙ at_same f r v)) small) (λ ne. subst (λ y. y < k) (sym (at_other f r v q ne)) (h q)) (cases_eq q r)

-- a byte of a number, and a write
byte_small : (v i : ℕ) → byte_of v i < 2 ^ 8
byte_small v i = let x = v / 2 ^ (8 * i) in (let h : x % 2 ^ 8 < 2 ^ 8 = omega arith in h)

if_small : (t : Bool) (a b : ℕ) → a < 2 ^ 8 → b < 2 ^ 8 → (if t then a else b) < 2 ^ 8
if_small true a b x y = x
if_small false a b x y = y

put_bytes : (inside : ℕ → Bool) (a n v : ℕ) (f : ℕ → ℕ) → AreBytes f → AreBytes (put inside a n v f)
put_bytes inside a n v f h b = if_small (covers a n b && inside b) (byte_of v (b - a)) (f b) (byte_small v (b - a)) (h b)

newest_small : (inside : Bool) (es : List Entry) (b v : ℕ) → v < 2 ^ 8 → newest inside es b v < 2 ^ 8
newest_small inside [] b v h = h
newest_small inside (e ∷ es) b v h = newest_small inside es b (byte_after inside e b v) (if_small (covers e.address e.bytes b && inside) (byte_of e.value (b - e.address)) v (byte_small e.value (b - e.address)) h)

seen_bytes : (p : ℕ) (n : Noted) → AreBytes n.storage.mem → AreBytes (seen p n.storage)
seen_bytes p n h b = newest_small (n.storage.inside b) (n.storage.waiting p) b (n.storage.mem b) (h b)

write_bytes : (p : ℕ) (e : Entry) (n : Noted) → AreBytes n.storage.mem → AreBytes (write p e n).storage.mem
write_bytes p e n h = put_bytes n.storage.inside e.address e.bytes e.value n.storage.mem h

store_bytes : (b : Bool) (p : ℕ) (e : Entry) (n : Noted) → AreBytes n.storage.mem → AreBytes (store b p e n).storage.mem
store_bytes true p e n h = h
store_bytes false p e n h = write_bytes p e n h

replace_bytes : (p a bytes : ℕ) (v : Option ℕ) (n : Noted) → AreBytes n.storage.mem → AreBytes (replace p a bytes v n).storage.mem
replace_bytes p a bytes None n h = h
replace_bytes p a bytes (Some v) n h = put_bytes n.storage.inside a bytes _ n.storage.mem h

paired_bytes : (t : Bool) (p to a bytes v : ℕ) (c : Processor) (n : Noted) → AreBytes n.storage.mem → AreBytes (paired t p to a bytes v c n).noted.storage.mem
paired_bytes true p to a bytes v c n h = put_bytes n.storage.inside a bytes _ n.storage.mem h
paired_bytes false p to a bytes v c n h = h

saved_bytes : (b : Bool) (p : ℕ) (s : Saved) (place : ℕ) (n : Noted) → AreBytes n.storage.mem → AreBytes (saved_place b p s place n).storage.mem
saved_bytes b p (Register to) place n h = h
saved_bytes b p (Stack pointer a) place n h = store_bytes b p _ n h

pub effect_bytes : (b : Bool) (p : ℕ) (e : Effect) (c : Processor) (n : Noted) → AreBytes n.storage.mem → AreBytes (effected b p e c n).noted.storage.mem
effect_bytes b p (Set to number) c n h = h
effect_bytes b p (Compare left right) c n h = h
effect_bytes b p (Load to a bytes rest ends_half) c n h = h
effect_bytes b p (Store a bytes number) c n h = store_bytes b p _ n h
effect_bytes b p (Locked to high a bytes rest change) c n h = replace_bytes p a bytes _ n h
effect_bytes b p Fence c n h = h
effect_bytes b p (Link to a bytes rest) c n h = h
effect_bytes b p (LinkHalf to a) c n h = h
effect_bytes b p (PairStore to a bytes number) c n h = paired_bytes (may_pair p a bytes n.storage) p to a bytes number c n h
effect_bytes b p (Jump place) c n h = h
effect_bytes b p (CallTo place saved) c n h = saved_bytes b p saved _ n h
effect_bytes b p (Return back) c n h = h
effect_bytes b p (Output number) c n h = h
effect_bytes b p Trap c n h = h
effect_bytes b p Nop c n h = h

pub drain_bytes : (p : ℕ) (n : Noted) → AreBytes n.storage.mem → AreBytes (drain p n).storage.mem
drain_bytes p n h = go (n.storage.waiting p)
  where
    go : (es : List Entry) → AreBytes (drain_first p es n).storage.mem
    go [] = h
    go (e ∷ es) = put_bytes n.storage.inside e.address e.bytes e.value n.storage.mem h

-- the sizes of an access
sizes : (n : ℕ) → IsWidth n → (n ≡ 1) ⊎ (n ≡ 2) ⊎ (n ≡ 4) ⊎ (n ≡ 8) ⊎ (n ≡ 16)
sizes n h = go (cases_eq n 1) (cases_eq n 2) (cases_eq n 4) (cases_eq n 8) (cases_eq n 16)
  where
    go : (n ≡ 1) ⊎ (n ≡ 1 → ⊥) → (n ≡ 2) ⊎ (n ≡ 2 → ⊥) → (n ≡ 4) ⊎ (n ≡ 4 → ⊥) → (n ≡ 8) ⊎ (n ≡ 8 → ⊥) → (n ≡ 16) ⊎ (n ≡ 16 → ⊥) → (n ≡ 1) ⊎ (n ≡ 2) ⊎ (n ≡ 4) ⊎ (n ≡ 8) ⊎ (n ≡ 16)
    go (inl e) b c d f = inl e
    go (inr a) (inl e) c d f = inr (inl e)
    go (inr a) (inr b) (inl e) d f = inr (inr (inl e))
    go (inr a) (inr b) (inr c) (inl e) f = inr (inr (inr (inl e)))
    go (inr a) (inr b) (inr c) (inr d) (inl e) = inr (inr (inr (inr e)))
    go (inr a) (inr b) (inr c) (inr d) (inr f) = absurd (grind (arith, nat_tests, h, a, b, c, d, f))

-- a number of so many bytes in a register of 8
signed_small : (n k before : ℕ) → k ≤ 2 ^ 64 → n < k → (t : Bool) → (if t then n + (2 ^ 64 - k) else n) < 2 ^ 64
signed_small n k before h small true = omega (arith, h, small)
signed_small n k before h small false = omega (arith, h, small)

extended_by : (k bytes n before : ℕ) (rest : Rest) → 2 ^ (8 * bytes) ≡ k → k ≤ 2 ^ 64 → n < k → before - before % k + n < 2 ^ 64 → before < 2 ^ 64 → extended bytes rest before n < 2 ^ 64
extended_by k bytes n before Zeros e h small stay low = omega (arith, h, small)
extended_by k bytes n before Signs e h small stay low = subst (λ m. (if nat_le (2 ^ (8 * bytes - 1)) n then n + (2 ^ 64 - m) else n) < 2 ^ 64) (sym e) (signed_small n k before h small (nat_le (2 ^ (8 * bytes - 1)) n))
extended_by k bytes n before Stays e h small stay low = subst (λ m. before - before % m + n < 2 ^ 64) (sym e) stay

extended_word : (bytes : ℕ) (rest : Rest) (before n : ℕ) → FitsRegister bytes → n < 2 ^ (8 * bytes) → before < 2 ^ 64 → extended bytes rest before n < 2 ^ 64
extended_word bytes rest before n fits small low = go (sizes bytes fits.0)
  where
    go : (bytes ≡ 1) ⊎ (bytes ≡ 2) ⊎ (bytes ≡ 4) ⊎ (bytes ≡ 8) ⊎ (bytes ≡ 16) → extended bytes rest before n < 2 ^ 64
    go (inl e) = let s : n < 2 ^ 8 = subst (λ b. n < 2 ^ (8 * b)) e small in subst (λ b. extended b rest before n < 2 ^ 64) (sym e) (extended_by (2 ^ 8) 1 n before rest refl (omega arith) s (omega (arith, s, low)) low)
    go (inr (inl e)) = let s : n < 2 ^ 16 = subst (λ b. n < 2 ^ (8 * b)) e small in subst (λ b. extended b rest before n < 2 ^ 64) (sym e) (extended_by (2 ^ 16) 2 n before rest refl (omega arith) s (omega (arith, s, low)) low)
    go (inr (inr (inl e))) = let s : n < 2 ^ 32 = subst (λ b. n < 2 ^ (8 * b)) e small in subst (λ b. extended b rest before n < 2 ^ 64) (sym e) (extended_by (2 ^ 32) 4 n before rest refl (omega arith) s (omega (arith, s, low)) low)
    go (inr (inr (inr (inl e)))) = let s : n < 2 ^ 64 = subst (λ b. n < 2 ^ (8 * b)) e small in subst (λ b. extended b rest before n < 2 ^ 64) (sym e) (extended_by (2 ^ 64) 8 n before rest refl (omega arith) s (omega (arith, s, low)) low)
    go (inr (inr (inr (inr e)))) = absurd (let l = fits.1 in omega (arith, e, l))

register_word : (bytes to : ℕ) (rest : Rest) (n : ℕ) (regs : ℕ → ℕ) → FitsRegister bytes → n < 2 ^ (8 * bytes) → AreWords regs → AreWords (at_place regs to (extended bytes rest (regs to) n))
register_word bytes to rest n regs fits small h = at_small (2 ^ 64) regs to _ h (extended_word bytes rest (regs to) n fits small (h to))

taken_words : (bytes to high : ℕ) (rest : Rest) (n : ℕ) (regs : ℕ → ℕ) → IsWidth bytes → n < 2 ^ (8 * bytes) → AreWords regs → AreWords (taken bytes to high rest n regs)
taken_words bytes to high rest n regs width small h = go (cases_eq bytes 16) (sizes bytes width)
  where
    halves : n < 2 ^ 128 → AreWords (at_place (at_place regs to (n % 2 ^ 64)) high (n / 2 ^ 64))
    halves s = at_small (2 ^ 64) (at_place regs to (n % 2 ^ 64)) high (n / 2 ^ 64) (at_small (2 ^ 64) regs to (n % 2 ^ 64) h (omega arith)) (omega (arith, s))

    below : (bytes ≡ 16 → ⊥) → (bytes ≡ 1) ⊎ (bytes ≡ 2) ⊎ (bytes ≡ 4) ⊎ (bytes ≡ 8) ⊎ (bytes ≡ 16) → bytes ≤ 8
    below ne (inl e) = omega (arith, e)
    below ne (inr (inl e)) = omega (arith, e)
    below ne (inr (inr (inl e))) = omega (arith, e)
    below ne (inr (inr (inr (inl e)))) = omega (arith, e)
    below ne (inr (inr (inr (inr e)))) = absurd (ne e)

    go : (bytes ≡ 16) ⊎ (bytes ≡ 16 → ⊥) → (bytes ≡ 1) ⊎ (bytes ≡ 2) ⊎ (bytes ≡ 4) ⊎ (bytes ≡ 8) ⊎ (bytes ≡ 16) → AreWords (taken bytes to high rest n regs)
    go (inl e) z r = subst (λ t. (if t then at_place (at_place regs to (n % 2 ^ 64)) high (n / 2 ^ 64) else at_place regs to (extended bytes rest (regs to) n)) r < 2 ^ 64) (sym (ap (λ b. nat_eq b 16) e ∙ eq-eqb 16 16 refl)) (halves (subst (λ b. n < 2 ^ (8 * b)) e small) r)
    go (inr ne) z r = subst (λ t. (if t then at_place (at_place regs to (n % 2 ^ 64)) high (n / 2 ^ 64) else at_place regs to (extended bytes rest (regs to) n)) r < 2 ^ 64) (sym (ne_eqb bytes 16 ne)) (register_word bytes to rest n regs (width, below ne z) small h r)

width_of : (bytes : ℕ) (change : Change) → FitsChange bytes change → IsWidth bytes
width_of bytes (Update op number) h = h.0
width_of bytes (Exchange expected number compares) h = h

exchanged_words : (bytes to high : ℕ) (rest : Rest) (change : Change) (old : ℕ) (c : Processor) → IsWidth bytes → old < 2 ^ (8 * bytes) → AreWords c.regs → AreWords (exchanged bytes to high rest change old c).regs
exchanged_words bytes to high rest (Update op number) old c width small h = taken_words bytes to high rest old c.regs width small h
exchanged_words bytes to high rest (Exchange expected number false) old c width small h = taken_words bytes to high rest old c.regs width small h
exchanged_words bytes to high rest (Exchange expected number true) old c width small h = λ r. go r (nat_eq old (expected % 2 ^ (8 * bytes)))
  where
    go : (r : ℕ) (t : Bool) → (if t then c.regs else taken bytes to high rest old c.regs) r < 2 ^ 64
    go r true = h r
    go r false = taken_words bytes to high rest old c.regs width small h r

paired_words : (t : Bool) (p to a bytes v : ℕ) (c : Processor) (n : Noted) → AreWords c.regs → AreWords (paired t p to a bytes v c n).processor.regs
paired_words true p to a bytes v c n h = at_small (2 ^ 64) c.regs to 0 h (omega arith)
paired_words false p to a bytes v c n h = at_small (2 ^ 64) c.regs to 1 h (omega arith)

back_words : (q : ℕ) (c : Processor) → AreWords c.regs → AreWords (go_back q c).regs
back_words zero c h = h
back_words (suc q) c h = h

popped_words : (back : Back) (c : Processor) → AreWords c.regs → AreWords (popped back c).regs
popped_words (Place place) c h = h
popped_words (Pops pointer a) c h = at_small (2 ^ 64) c.regs pointer ((a + 8) % 2 ^ 64) h (omega arith)

and_first : (a b : Bool) → (a && b) ≡ true → a ≡ true
and_first true b e = refl
and_first false b e = e

and_second : (a b : Bool) → (a && b) ≡ true → b ≡ true
and_second true b e = e
and_second false b e = absurd (false≢true e)

called_words : (place : ℕ) (saved : Saved) (c : Processor) → BringsWord (CallTo place saved) → is_place (c.place + 1) ≡ true → AreWords c.regs → AreWords (called_from place saved c).regs
called_words place (Register to) c brings next h = at_small (2 ^ 64) c.regs to (c.place + 1) h (let q : c.place + 1 < 2 ^ 32 = grind (arith, nat_tests, next) in omega (arith, q))
called_words place (Stack pointer a) c brings next h = at_small (2 ^ 64) c.regs pointer a h brings

module _ (b : Bool) (p : ℕ) (c : Processor) (n : Noted) (h : InBounds c n) where
  number_bytes : (a k : ℕ) → number_at n.storage.mem a k < 2 ^ (8 * k)
  number_bytes a k = number_small n.storage.mem h.bytes a k

  effect_words : (e : Effect) → IsEffect e → BringsWord e → possible p e c n.storage ≡ true → AreWords (effected b p e c n).processor.regs
  effect_words (Set to number) is brings may = at_small (2 ^ 64) c.regs to number h.regs brings
  effect_words (Compare left right) is brings may = h.regs
  effect_words (Load to a bytes rest ends_half) is brings may = register_word bytes to rest (load p a bytes n.storage) c.regs is.1 (number_small (seen p n.storage) (seen_bytes p n h.bytes) a bytes) h.regs
  effect_words (Store a bytes number) is brings may = h.regs
  effect_words (Locked to high a bytes rest change) is brings may = exchanged_words bytes to high rest change (number_at n.storage.mem a bytes) c (width_of bytes change is.2) (number_bytes a bytes) h.regs
  effect_words Fence is brings may = h.regs
  effect_words (Link to a bytes rest) is brings may = register_word bytes to rest (number_at n.storage.mem a bytes) c.regs is.1 (number_bytes a bytes) h.regs
  effect_words (LinkHalf to a) is brings may = at_small (2 ^ 64) c.regs to _ h.regs (number_bytes a 8)
  effect_words (PairStore to a bytes number) is brings may = paired_words (may_pair p a bytes n.storage) p to a bytes number c n h.regs
  effect_words (Jump place) is brings may = h.regs
  effect_words (CallTo place saved) is brings may = called_words place saved c brings (and_second (is_place place) (is_place (c.place + 1)) (and_first (is_place place && is_place (c.place + 1)) _ may)) h.regs
  effect_words (Return back) is brings may = back_words (back_place p back n.storage) (popped back c) (popped_words back c h.regs)
  effect_words (Output number) is brings may = h.regs
  effect_words Trap is brings may = h.regs
  effect_words Nop is brings may = h.regs

module _ {I : Type 0} (x : Setting I) (all : Bounded x) where
  -- a step leaves words and bytes
  pub step_bounds : (p : ℕ) (c : Processor) (n : Noted) → InBounds c n → InBounds (step x p c n).processor (step x p c n).noted
  step_bounds p c n h = at (at_code x.code c.place) refl
    where
      of : (i : I) → at_code x.code c.place ≡ Some i → (t : Bool) → possible p (x.kind.effect_of i c) c n.storage ≡ t
          → (let d = if t then told x.library (x.tags c.place) p (x.kind.effect_of i c) c n (effected x.kind.buffered p (x.kind.effect_of i c) c n) else told_stuck (x.tags c.place) c (stuck c n) in InBounds d.processor d.noted)
      of i is true may = let z = all.effects c.place i c is h.regs in record { regs = effect_words x.kind.buffered p c n h (x.kind.effect_of i c) z.0 z.1 may; bytes = effect_bytes x.kind.buffered p (x.kind.effect_of i c) c n h.bytes }
      of i is false may = record { regs = h.regs; bytes = h.bytes }

      at : (i : Option I) → at_code x.code c.place ≡ i → InBounds (step_at x i p c n).processor (step_at x i p c n).noted
      at None is = record { regs = h.regs; bytes = h.bytes }
      at (Some i) is = of i is (possible p (x.kind.effect_of i c) c n.storage) refl

pub bounds_drain : (p : ℕ) (m : Machine) → AllInBounds m → AllInBounds (with_noted (drain p m.noted) m)
bounds_drain p m h = record { regs = h.regs; bytes = drain_bytes p m.noted h.bytes }

pub bounds_step : {I : Type 0} (x : Setting I) → Bounded x → (p : ℕ) (m : Machine) → (m.processors p).status ≡ Running → AllInBounds m → AllInBounds (after_step p (step x p (m.processors p) m.noted) m)
bounds_step x all p m running h =
    let d = step x p (m.processors p) m.noted in
    let z = step_bounds x all p (m.processors p) m.noted (record { regs = h.regs p running; bytes = h.bytes }) in
    record {
      regs = λ q. ⊎_elim (λ same. let F : ℕ → Type 0 = λ y. (at_place m.processors p d.processor y).status ≡ Running → AreWords (at_place m.processors p d.processor y).regs in subst F (sym same) (subst (λ c. c.status ≡ Running → AreWords c.regs) (sym (at_same m.processors p d.processor)) (λ e. z.regs)))
          (λ ne. subst (λ c. c.status ≡ Running → AreWords c.regs) (sym (at_other m.processors p d.processor q ne)) (h.regs q)) (cases_eq q p);
      bytes = z.bytes;
    }

module _ {I : Type 0} (x : Setting I) (all : Bounded x) where
  drains_bounds : (es : List Entry) (p : ℕ) (m : Machine) → AllInBounds m → AllInBounds (with_noted (drain_list es p m.noted) m)
  drains_bounds [] p m h = record { regs = h.regs; bytes = h.bytes }
  drains_bounds (e ∷ es) p m h = drains_bounds es p (with_noted (drain p m.noted) m) (bounds_drain p m h)

  happens_bounds : (e : Event) (m : Machine) → AllInBounds m → AllInBounds (happens x e m)
  happens_bounds (Step p) m h = go (m.processors p).status refl
    where
      go : (s : Status) → (m.processors p).status ≡ s → AllInBounds (step_if x s p m)
      go Running e = bounds_step x all p (ready x p m) e (drains_bounds (sent x p m) p m h)
      go Ended e = h
      go Trapped e = h
      go Stuck e = h
  happens_bounds (Drain p) m h = bounds_drain p m h
  happens_bounds (Drop p) m h = record { regs = h.regs; bytes = h.bytes }

  -- after every list of events
  pub run_bounds : (es : List Event) (m : Machine) → AllInBounds m → AllInBounds (run x es m)
  run_bounds [] m h = h
  run_bounds (e ∷ es) m h = run_bounds es (happens x e m) (happens_bounds e m h)
