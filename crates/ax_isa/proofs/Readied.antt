-- A step that flushes: what is possible stays so, and one that isn't sends nothing to memory.
use Rattle.std.proofs.Common.{◌≡◌, ℕ, ◌+◌, Bool, true, false, Option, Some, None, refl, ap, ◌∙◌}
use Rattle.std.specs.Prelude.{◌%◌, ◌&&◌, if◌then◌else◌, nat_eq}
use Rattle.ax_store.specs.Bytes.{all_inside}
use Rattle.ax_isa.specs.declared.effects.Effect.{Effect}
use Rattle.ax_isa.specs.declared.effects.Effect.TheVariants.{Set, Compare, Load, Store, Locked, Fence, Link, LinkHalf, PairStore, Jump, CallTo, Return, Output, Trap, Nop}
use Rattle.ax_isa.specs.Past.{Noted, drain_list}
use Rattle.ax_isa.specs.Processor.{Processor}
use Rattle.ax_isa.specs.Steps.{is_place, possible, effected, stuck, is_flushing, waits, flushes, readied, stepped, replace}
use Rattle.ax_store.specs.Storage.{flushed, replaced}
use Rattle.ax_isa.proofs.Storages.{drains_inside, flush_storage}

-- a flush changes nothing that a step asks for
pub ready_possible : (p : ℕ) (e : Effect) (c : Processor) (n : Noted) → possible p e c (readied p e c n).storage ≡ possible p e c n.storage
ready_possible p (Locked to high a bytes rest change) c n = ap (λ (inside : ℕ → Bool). is_place (c.place + 1) && (nat_eq (a % bytes) 0 && all_inside inside a bytes)) (drains_inside p (waits (flushes p (Locked to high a bytes rest change) c n.storage) p n) n)
ready_possible p Fence c n = refl
ready_possible p (Set to number) c n = refl
ready_possible p (Compare left right) c n = refl
ready_possible p (Load to a bytes rest ends_half) c n = refl
ready_possible p (Store a bytes number) c n = refl
ready_possible p (Link to a bytes rest) c n = refl
ready_possible p (LinkHalf to a) c n = refl
ready_possible p (PairStore to a bytes number) c n = refl
ready_possible p (Jump place) c n = refl
ready_possible p (CallTo place saved) c n = refl
ready_possible p (Return back) c n = refl
ready_possible p (Output number) c n = refl
ready_possible p Trap c n = refl
ready_possible p Nop c n = refl

-- one that flushes finds the storage flushed
pub ready_flushed : (p : ℕ) (e : Effect) (c : Processor) (n : Noted) → is_flushing e ≡ true → possible p e c n.storage ≡ true → (readied p e c n).storage ≡ flushed p n.storage
ready_flushed p e c n f h = ap (λ t. (drain_list (waits (is_flushing e && t) p n) p n).storage) h ∙ ap (λ t. (drain_list (waits (t && true) p n) p n).storage) f ∙ flush_storage p n

and_false : (b : Bool) → (b && false) ≡ false
and_false true = refl
and_false false = refl

pub never_ready : (p : ℕ) (e : Effect) (c : Processor) (n : Noted) → possible p e c n.storage ≡ false → readied p e c n ≡ n
never_ready p e c n h = ap (λ t. drain_list (waits (is_flushing e && t) p n) p n) h ∙ ap (λ t. drain_list (waits t p n) p n) (and_false (is_flushing e))

pub stepped_possible : (b : Bool) (p : ℕ) (e : Effect) (c : Processor) (n : Noted) → possible p e c n.storage ≡ true → stepped b p e c n ≡ effected b p e c (readied p e c n)
stepped_possible b p e c n h = ap (λ t. if t then effected b p e c (readied p e c n) else stuck c (readied p e c n)) (ready_possible p e c n ∙ h)

pub stepped_stuck : (b : Bool) (p : ℕ) (e : Effect) (c : Processor) (n : Noted) → possible p e c n.storage ≡ false → stepped b p e c n ≡ stuck c n
stepped_stuck b p e c n h =
    ap (λ t. if t then effected b p e c (readied p e c n) else stuck c (readied p e c n)) (ready_possible p e c n ∙ h) ∙ ap (stuck c) (never_ready p e c n h)

-- a locked write with its notes is the storage's
pub replace_storage : (p a n : ℕ) (v : Option ℕ) (m : Noted) → (replace p a n v m).storage ≡ replaced p a n v m.storage
replace_storage p a n None m = refl
replace_storage p a n (Some v) m = refl
