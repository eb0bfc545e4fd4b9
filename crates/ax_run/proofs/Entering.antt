-- What a step lets wait in its processor's buffer, and how much room for stores it leaves.
use Rattle.std.proofs.Common.{◌≡◌, ℕ, ◌+◌, ◌-◌, ◌<◌, ◌≤◌, ◌⊎◌, inl, inr, Bool, true, false, ◌&&◌, List, [], ◌∷◌, ◌++◌, length, length-append, refl, sym, ap, ◌∙◌, arith}
use Rattle.std.specs.Prelude.{if◌then◌else◌, nat_eq, nat_lt, Option, Some, None}
use Rattle.std.proofs.lemmas.Bool.Decides.{nat_tests}
use Rattle.ax_store.specs.declared.entry.Entry.{Entry}
use Rattle.ax_store.specs.Storage.{entry_of, may_pair}
use Rattle.ax_store.specs.Store.{spare_of, spared, storage_of}
use Rattle.ax_store.specs.StoreState.{StoreState}
use Rattle.ax_isa.specs.declared.effects.Effect.{Effect}
use Rattle.ax_isa.specs.declared.effects.Effect.TheVariants.{Set, Compare, Load, Store, Locked, Fence, Link, LinkHalf, PairStore, Jump, CallTo, Return, Output, Trap, Nop}
use Rattle.ax_isa.specs.declared.effects.Saved.{Saved}
use Rattle.ax_isa.specs.declared.effects.Saved.TheVariants.{Register, Stack}
use Rattle.ax_tags.specs.declared.tags.Tag.{Tag}
use Rattle.ax_isa.specs.Effects.{spared_by}
use Rattle.ax_isa.specs.Past.{Noted, store}
use Rattle.ax_isa.specs.Processor.{Processor}
use Rattle.ax_isa.specs.Run.{Setting, at_code, step, step_at}
use Rattle.ax_isa.specs.Stepping.{spared_after, spared_at}
use Rattle.ax_isa.specs.Steps.{Kind, effected, paired, possible, replace, saved_place, stuck}
use Rattle.ax_isa.specs.Tells.{Library, done_by, told, told_stuck}
use Rattle.ax_isa.proofs.Functions.{at_same}
use Rattle.ax_source_run.specs.SourceState.{SourceProgram}
use Rattle.ax_agree.specs.Agree.{is_native_entry}
use Rattle.ax_run.specs.Waiting.{entering, entering_at, entering_of, grown_by, is_native_at, saved_at}
use Rattle.ax_run.proofs.Natives.{count, count_last, one_if}

-- nothing comes to wait, or one store, to this address
abbrev pub Grows : List Entry → List Entry → Option ℕ → Type 0
Grows old new address = (new ≡ old) ⊎ ((e : Entry) × (new ≡ old ++ e ∷ []) × (address ≡ Some e.address))

-- ---- the store of a step
store_grows : (b : Bool) (p : ℕ) (e : Entry) (n : Noted) → Grows (n.storage.waiting p) ((store b p e n).storage.waiting p) (Some e.address)
store_grows true p e n = inr (e, at_same n.storage.waiting p (n.storage.waiting p ++ e ∷ []), refl)
store_grows false p e n = inl refl

paired_same : (t : Bool) (p to a bytes v : ℕ) (c : Processor) (n : Noted) → (paired t p to a bytes v c n).noted.storage.waiting p ≡ n.storage.waiting p
paired_same true p to a bytes v c n = refl
paired_same false p to a bytes v c n = refl

replace_same : (p a bytes : ℕ) (v : Option ℕ) (n : Noted) → (replace p a bytes v n).storage.waiting p ≡ n.storage.waiting p
replace_same p a bytes None n = refl
replace_same p a bytes (Some v) n = refl

saved_grows : (b : Bool) (p : ℕ) (x : Saved) (place : ℕ) (n : Noted) → Grows (n.storage.waiting p) ((saved_place b p x place n).storage.waiting p) (saved_at x)
saved_grows b p (Register to) place n = inl refl
saved_grows b p (Stack pointer a) place n = store_grows b p (entry_of a 8 place) n

effect_grows : (b : Bool) (p : ℕ) (e : Effect) (c : Processor) (n : Noted) → Grows (n.storage.waiting p) ((effected b p e c n).noted.storage.waiting p) (entering e)
effect_grows b p (Set to number) c n = inl refl
effect_grows b p (Compare left right) c n = inl refl
effect_grows b p (Load to a bytes rest ends_half) c n = inl refl
effect_grows b p (Store a bytes number) c n = store_grows b p (entry_of a bytes number) n
effect_grows b p (Locked to high a bytes rest change) c n = inl (replace_same p a bytes _ n)
effect_grows b p Fence c n = inl refl
effect_grows b p (Link to a bytes rest) c n = inl refl
effect_grows b p (LinkHalf to a) c n = inl refl
effect_grows b p (PairStore to a bytes number) c n = inl (paired_same (may_pair p a bytes n.storage) p to a bytes number c n)
effect_grows b p (Jump place) c n = inl refl
effect_grows b p (CallTo place saved) c n = saved_grows b p saved (c.place + 1) n
effect_grows b p (Return back) c n = inl refl
effect_grows b p (Output number) c n = inl refl
effect_grows b p Trap c n = inl refl
effect_grows b p Nop c n = inl refl

done_grows : (lib : Library) (b : Bool) (tag : Tag) (p : ℕ) (e : Effect) (c : Processor) (n : Noted) → Grows (n.storage.waiting p) ((done_by lib b tag p e c n).noted.storage.waiting p) (entering e)
done_grows lib b tag p e c n = go (possible p e c n.storage)
  where
    go : (t : Bool) → Grows (n.storage.waiting p) ((if t then told lib tag p e c n (effected b p e c n) else told_stuck tag c (stuck c n)).noted.storage.waiting p) (entering e)
    go true = effect_grows b p e c n
    go false = inl refl

module _ {I : Type 0} (x : Setting I) where
  step_at_grows : (i : Option I) (p : ℕ) (c : Processor) (n : Noted) → Grows (n.storage.waiting p) ((step_at x i p c n).noted.storage.waiting p) (entering_of x.kind i c)
  step_at_grows None p c n = inl refl
  step_at_grows (Some i) p c n = done_grows x.library x.kind.buffered (x.tags c.place) p (x.kind.effect_of i c) c n

  pub step_grows : (p : ℕ) (c : Processor) (n : Noted) → Grows (n.storage.waiting p) ((step x p c n).noted.storage.waiting p) (entering_at x.kind x.code c)
  step_grows p c n = step_at_grows (at_code x.code c.place) p c n

-- ---- so many more to native objects
module _ (program : SourceProgram) where
  pub count_grown : (old new : List Entry) (address : Option ℕ) → Grows old new address → count program new ≡ count program old + grown_by program (length old) (length new) address
  count_grown old new address (inl same) =
      let none : nat_lt (length old) (length new) ≡ false = (let e = ap length same in grind (arith, nat_tests)) in
      let zero : grown_by program (length old) (length new) address ≡ 0 = ap (λ t. if t && is_native_at program address then 1 else 0) none in
      ap (count program) same ∙ omega (arith, zero)
  count_grown old new address (inr (e, is, at)) =
      let more : nat_lt (length old) (length new) ≡ true = (let k = ap length is in let l = length-append old (e ∷ []) in let m : length old < length new = omega (arith, k, l) in grind (arith, nat_tests, m)) in
      let one : grown_by program (length old) (length new) address ≡ one_if (is_native_entry program e) =
      ap (λ t. if t && is_native_at program address then 1 else 0) more ∙ ap (λ a. if is_native_at program a then 1 else 0) at
      in
      ap (count program) is ∙ count_last program old e ∙ ap (λ n. count program old + n) (sym one)

-- ---- the rooms for stores
spared_enough : (b : Bool) (p q : ℕ) (spares : ℕ → ℕ) → spares q ≤ spared b p spares q + 1
spared_enough false p q spares = omega arith
spared_enough true p q spares = go (nat_eq q p) refl
  where
    go : (t : Bool) → nat_eq q p ≡ t → spares q ≤ (if nat_eq q p then spares p - 1 else spares q) + 1
    go true e = (let same : q ≡ p = grind (arith, nat_tests, e) in let k = ap spares same in let v = ap (λ t. if t then spares p - 1 else spares q) e in omega (arith, k, v))
    go false e = (let v = ap (λ t. if t then spares p - 1 else spares q) e in omega (arith, v))

left_enough : (e : Effect) (b : Bool) (p q : ℕ) (spares : ℕ → ℕ) → spares q ≤ spared_by e b p spares q + 1
left_enough (Store a bytes number) b p q spares = spared_enough b p q spares
left_enough (CallTo place (Stack pointer a)) b p q spares = spared_enough b p q spares
left_enough (CallTo place (Register to)) b p q spares = omega arith
left_enough (Set to number) b p q spares = omega arith
left_enough (Compare left right) b p q spares = omega arith
left_enough (Load to a bytes rest ends_half) b p q spares = omega arith
left_enough (Locked to high a bytes rest change) b p q spares = omega arith
left_enough Fence b p q spares = omega arith
left_enough (Link to a bytes rest) b p q spares = omega arith
left_enough (LinkHalf to a) b p q spares = omega arith
left_enough (PairStore to a bytes number) b p q spares = omega arith
left_enough (Jump place) b p q spares = omega arith
left_enough (Return back) b p q spares = omega arith
left_enough (Output number) b p q spares = omega arith
left_enough Trap b p q spares = omega arith
left_enough Nop b p q spares = omega arith

after_enough : (e : Effect) (p q : ℕ) (c : Processor) (old : StoreState) → spare_of old q ≤ spared_after p e c old q + 1
after_enough e p q c old = go (possible p e c (storage_of old))
  where
    go : (t : Bool) → spare_of old q ≤ (if t then spared_by e old.buffered p (spare_of old) else spare_of old) q + 1
    go true = left_enough e old.buffered p q (spare_of old)
    go false = omega arith

pub at_enough : {I : Type 0} (kind : Kind I) (i : Option I) (p q : ℕ) (c : Processor) (old : StoreState) → spare_of old q ≤ spared_at kind i p c old q + 1
at_enough kind None p q c old = omega arith
at_enough kind (Some i) p q c old = after_enough (kind.effect_of i c) p q c old
