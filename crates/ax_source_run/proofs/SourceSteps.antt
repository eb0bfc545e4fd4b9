-- Steps of the source machine: own stores, other processors, and targets without buffers.
use Rattle.std.proofs.Common.{◌≡◌, ◌≢◌, ℕ, Bool, true, false, ◌&&◌, List, [], ◌∷◌, Option, Some, None, refl, sym, ap, ◌∙◌, arith}
use Rattle.std.specs.Prelude.{if◌then◌else◌, nat_eq}
use Rattle.std.proofs.lemmas.Bool.Decides.{nat_tests}
use Rattle.std.proofs.lemmas.Grind.{common_steps}
use Rattle.ax_module.specs.declared.inst.Inst.{Inst}
use Rattle.ax_words.specs.declared.source.SourceEvent.{SourceEvent}
use Rattle.ax_words.specs.declared.source.SourceEvent.TheVariants.{Act, Look, Miss, Drain}
use Rattle.ax_words.specs.declared.source.SourceStatus.{SourceStatus}
use Rattle.ax_words.specs.declared.source.SourceStatus.TheVariants.{Running, Ended, Trapped}
use Rattle.ax_source_run.specs.SourceAccess.{element_set, newest, put_at, written_out}
use Rattle.ax_source_run.specs.SourceEvent.{act, drained, expected_by, inst_if, look, looked, miss, missed, next_inst, seen_by, source_event}
use Rattle.ax_source_run.specs.SourceLaws.{processor_of}
use Rattle.ax_source_run.specs.SourceState.{PendingStore, SourceProcessor, SourceProgram, SourceState}

-- ---- own stores
applied : (t : Bool) (f g : ℕ → ℕ) (i : ℕ) → (if t then f else g) i ≡ (if t then f i else g i)
applied true f g i = refl
applied false f g i = refl

joined : (g i h j n : ℕ) (numbers : ℕ → ℕ → ℕ) → (if nat_eq g h then (if nat_eq i j then n else numbers h i) else numbers g i) ≡ (if nat_eq g h && nat_eq i j then n else numbers g i)
joined g i h j n numbers = grind (arith, common_steps, nat_tests)

set_there : (g i h j n : ℕ) (numbers : ℕ → ℕ → ℕ) → (if nat_eq g h && nat_eq i j then n else numbers g i) ≡ element_set h j n numbers g i
set_there g i h j n numbers = sym (applied (nat_eq g h) (put_at (numbers h) j n) (numbers g) i ∙ joined g i h j n numbers)

pub own_stores : (g i : ℕ) (stores : List PendingStore) (numbers : ℕ → ℕ → ℕ) → newest g i stores (numbers g i) ≡ written_out stores numbers g i
own_stores g i [] numbers = refl
own_stores g i (store ∷ stores) numbers =
    ap (newest g i stores) (set_there g i store.global store.element store.number numbers)
    ∙ own_stores g i stores (element_set store.global store.element store.number numbers)

-- ---- other processors
put_other : {A : Type 0} (f : ℕ → A) (k : ℕ) (v : A) (a : ℕ) → a ≢ k → put_at f k v a ≡ f a
put_other f k v a h = let e : nat_eq a k ≡ false = grind (arith, nat_tests) in ap (λ t. if t then v else f a) e

module _ (program : SourceProgram) (s : SourceState) (p q : ℕ) (h : q ≢ p) where
  act_leaves : (o : Option Inst) → (act program p o s).processors q ≡ s.processors q
  act_leaves None = refl
  act_leaves (Some i) = put_other s.processors p _ q h

  looked_leaves : (o : Option ℕ) → (looked program p o s).processors q ≡ s.processors q
  looked_leaves None = refl
  looked_leaves (Some n) = put_other s.processors p _ q h

  look_leaves : (o : Option Inst) → (look program p o s).processors q ≡ s.processors q
  look_leaves None = refl
  look_leaves (Some i) = looked_leaves (seen_by program i (s.processors p) s.numbers)

  if_leaves : (t : Bool) (x : SourceProcessor) → (if t then record s { processors = put_at s.processors p x } else s).processors q ≡ s.processors q
  if_leaves true x = put_other s.processors p x q h
  if_leaves false x = refl

  missed_leaves : (expected seen : Option ℕ) → (missed program p expected seen s).processors q ≡ s.processors q
  missed_leaves None seen = refl
  missed_leaves (Some n) None = refl
  missed_leaves (Some n) (Some m) = if_leaves (nat_eq n m) _

  miss_leaves : (o : Option Inst) → (miss program p o s).processors q ≡ s.processors q
  miss_leaves None = refl
  miss_leaves (Some i) = missed_leaves (expected_by program i (s.processors p)) (s.processors p).seen

  drained_leaves : (stores : List PendingStore) → (drained program p stores s).processors q ≡ s.processors q
  drained_leaves [] = refl
  drained_leaves (store ∷ stores) = put_other s.processors p _ q h

pub others : (program : SourceProgram) (e : SourceEvent) (s : SourceState) (q : ℕ) → q ≢ processor_of e → (source_event program e s).processors q ≡ s.processors q
others program (Act p) s q h = act_leaves program s p q h (next_inst program (s.processors p))
others program (Look p) s q h = look_leaves program s p q h (next_inst program (s.processors p))
others program (Miss p) s q h = miss_leaves program s p q h (next_inst program (s.processors p))
others program (Drain p) s q h = drained_leaves program s p q h (s.processors p).pending

-- ---- processors that have stopped
no_inst : (program : SourceProgram) (status : SourceStatus) (c : SourceProcessor) → status ≢ Running → inst_if program status c ≡ None
no_inst program Running c h = absurd (h refl)
no_inst program Ended c h = refl
no_inst program Trapped c h = refl

pub stopped : (program : SourceProgram) (p : ℕ) (s : SourceState) → (s.processors p).status ≢ Running → (source_event program (Act p) s ≡ s) × (source_event program (Look p) s ≡ s) × (source_event program (Miss p) s ≡ s)
stopped program p s h =
    let e = no_inst program (s.processors p).status (s.processors p) h in
    (ap (λ o. act program p o s) e, ap (λ o. look program p o s) e, ap (λ o. miss program p o s) e)
