-- What an act of each operation is, on a machine without buffers.
use Rattle.std.proofs.Common.{◌≡◌, ℕ, ◌+◌, ◌*◌, ◌%◌, ◌^◌, ◌<◌, ◌≤◌, Bool, true, false, List, [], ◌∷◌, Option, Some, None, length, mod-eq_of_lt, mod-lt, refl, sym, ap, ◌∙◌, subst, arith}
use Rattle.std.specs.Prelude.{◌≢◌, ◌&&◌, if◌then◌else◌, slice_index_or}
use Rattle.std.proofs.lemmas.Bool.{false≢true}
use Rattle.std.proofs.lemmas.Nat.{pow_pos}
use Rattle.std.proofs.lemmas.Option.{none-some, same_Some}
use Rattle.ax_words.specs.declared.mark.Op.{Op}
use Rattle.ax_words.specs.declared.mark.Op.TheVariants as op
use Rattle.ax_words.specs.declared.operation.RmwOp.{RmwOp}
use Rattle.ax_words.specs.declared.order.Order.{Order}
use Rattle.ax_words.specs.declared.width.Width.{Width}
use Rattle.ax_words.specs.Width.{bits_of, bytes_of}
use Rattle.ax_ops.specs.Operation.{result_of}
use Rattle.ax_store.specs.declared.entry.Entry.{Entry}
use Rattle.ax_store.specs.Bytes.{number_at}
use Rattle.ax_store.specs.Storage.{entry_of}
use Rattle.ax_target.specs.declared.target.Target.{Target}
use Rattle.ax_target.specs.declared.target.Target.TheVariants.{Rv}
use Rattle.ax_source_run.specs.SourceAccess.{Writes, manner_of_native}
use Rattle.ax_source_run.specs.SourceInstructions.{is_seq_cst}
use Rattle.ax_isa.specs.Tells.{Given, Nothing, An_act, A_look, A_miss}
use Rattle.ax_follow.specs.Contract.{done_after}
use Rattle.ax_mid.specs.Machine.{argument, is_exchange, is_wide, may_wait, parts_of}
use Rattle.ax_fine.specs.OnBytes.{IsObject, atomic_doing, fenced, found_at, load_doing, met_by, results_with, sent_out, store_doing}
use Rattle.ax_expand.specs.Doing.{Doing, Result}
use Rattle.ax_expand.specs.Shared.{Shared, shared_wrote}
use Rattle.ax_emit.specs.Atomics.{AllOf, Counted}
use Rattle.ax_mask.proofs.Found.{loaded_small, sent_same, sent_small}

-- a store takes the low bits of its number
pub cut_again : (a n v : ℕ) → entry_of a n (v % 2 ^ (8 * n)) ≡ entry_of a n v
cut_again a n v = ap (λ u. (let e : Entry = record { address = a; bytes = n; value = u } in e)) (mod-eq_of_lt (mod-lt v (pow_pos (8 * n))))

fits_register : (width : Width) (n : ℕ) → 2 ^ bits_of width ≤ 2 ^ 64 → n < 2 ^ bits_of width → n % 2 ^ 64 ≡ n
fits_register width n room small = (let h : n < 2 ^ 64 = omega (arith, room, small) in omega (arith, h))

module _ (zabha zacas : Bool) (width : Width) (narrow : is_wide width ≡ false) (room : 2 ^ bits_of width ≤ 2 ^ 64) (order : Order) (weak : Bool) where
  abbrev target : Target
  target = Rv zabha zacas

  abbrev one_result : ℕ → Shared → Option (Result Shared)
  one_result n w = Some (results_with (n ∷ []) w)

  in_one : (n : ℕ) (w : Shared) → n < 2 ^ bits_of width → Some (results_with (parts_of (is_wide width) n) w) ≡ one_result n w
  in_one n w small = ap (λ b. Some (results_with (parts_of b n) w)) narrow ∙ ap (λ m. one_result m w) (fits_register width n room small)

  pub atomic_loads : (p a : ℕ) (args : List ℕ) (seen : Option ℕ) (w : Shared) → IsObject a (bytes_of width) w → (atomic_doing target op.Load width order weak).happens An_act p a args seen w ≡ one_result (found_at p a (bytes_of width) w) w
  atomic_loads p a args seen w o = in_one (found_at p a (bytes_of width) w) w (loaded_small p a (bytes_of width) w o)

  argument_is : (v : ℕ) → argument width (v ∷ []) 0 ≡ v % 2 ^ bits_of width
  argument_is v = ap (λ (b : Bool). if b then slice_index_or (v ∷ []) (2 * 0) 0 + 2 ^ 64 * slice_index_or (v ∷ []) (2 * 0 + 1) 0 else slice_index_or (v ∷ []) 0 0 % 2 ^ bits_of width) narrow

  pub atomic_stores : (p a v : ℕ) (seen : Option ℕ) (w : Shared) → w.pending p ≡ [] → (atomic_doing target op.Store width order weak).happens An_act p a (v ∷ []) seen w ≡ Some (results_with [] (shared_wrote (entry_of a (bytes_of width) v) w))
  atomic_stores p a v seen w none =
      go (may_wait target width order) ∙ ap (λ u. Some (results_with [] (shared_wrote (entry_of a (bytes_of width) u) w))) (argument_is v) ∙ ap (λ e. Some (results_with [] (shared_wrote e w))) (cut_again a (bytes_of width) v)
    where
      go : (waits : Bool) → Some (results_with [] (met_by (manner_of_native (Writes (argument width (v ∷ []) 0)) waits) false p a (bytes_of width) (Writes (argument width (v ∷ []) 0)) w).world) ≡ Some (results_with [] (shared_wrote (entry_of a (bytes_of width) (argument width (v ∷ []) 0)) w))
      go true = refl
      go false = ap (λ s. Some (results_with [] (shared_wrote (entry_of a (bytes_of width) (argument width (v ∷ []) 0)) s))) (sent_same p w none)

  abbrev left_in : RmwOp → ℕ → ℕ → Shared → Shared
  left_in o a v s = shared_wrote (entry_of a (bytes_of width) (result_of (bits_of width) o (number_at s.mem a (bytes_of width)) v)) s

  pub atomic_updates : (o : RmwOp) (p a v : ℕ) (seen : Option ℕ) (w : Shared) → IsObject a (bytes_of width) w → w.pending p ≡ [] → (atomic_doing target (op.Rmw o) width order weak).happens An_act p a (v ∷ []) seen w ≡ one_result (number_at w.mem a (bytes_of width)) (left_in o a (v % 2 ^ bits_of width) w)
  atomic_updates o p a v seen w h none =
      in_one (number_at (sent_out p w).mem a (bytes_of width)) (left_in o a (argument width (v ∷ []) 0) (sent_out p w)) (sent_small p a (bytes_of width) w h) ∙ ap (λ s. one_result (number_at s.mem a (bytes_of width)) (left_in o a (argument width (v ∷ []) 0) s)) (sent_same p w none)
      ∙ ap (λ u. one_result (number_at w.mem a (bytes_of width)) (left_in o a u w)) (argument_is v)

  pub atomic_fences : (p a : ℕ) (args : List ℕ) (seen : Option ℕ) (w : Shared) → w.pending p ≡ [] → (atomic_doing target op.Fence width order weak).happens An_act p a args seen w ≡ Some (results_with [] w)
  atomic_fences p a args seen w none = go (is_seq_cst order)
    where
      go : (b : Bool) → Some (fenced target op.Fence width order b p w) ≡ Some (results_with [] w)
      go true = ap (λ s. Some (results_with [] s)) (sent_same p w none)
      go false = refl

pub plain_stores : (zabha zacas : Bool) (width : Width) (p a v : ℕ) (seen : Option ℕ) (w : Shared) → (store_doing (Rv zabha zacas) (bytes_of width)).happens An_act p a (v ∷ []) seen w ≡ Some (results_with [] (shared_wrote (entry_of a (bytes_of width) v) w))
plain_stores zabha zacas width p a v seen w = ap (λ e. Some (results_with [] (shared_wrote e w))) (cut_again a (bytes_of width) v)

-- ---- results
-- an operation that has its event in one act, which gives so many results of so many bits
pub record ActsAlone (doing : Doing Shared) (bits count : ℕ) : Type 0 where
  pub only : (g : Given) (p a : ℕ) (args : List ℕ) (seen : Option ℕ) (w : Shared) (r : Result Shared) → g ≢ An_act → doing.happens g p a args seen w ≡ Some r → ⊥
  pub many : (p a : ℕ) (args : List ℕ) (seen : Option ℕ) (w : Shared) (r : Result Shared) → doing.happens An_act p a args seen w ≡ Some r → length r.results ≡ count
  pub small : (p a : ℕ) (args : List ℕ) (seen : Option ℕ) (w : Shared) (r : Result Shared) → doing.fits a args w → doing.happens An_act p a args seen w ≡ Some r → AllOf (λ n. n < 2 ^ bits) r.results

all_room : (bits : ℕ) (ns : List ℕ) → 2 ^ bits ≤ 2 ^ 64 → AllOf (λ n. n < 2 ^ bits) ns → AllOf (λ n. n < 2 ^ 64) ns
all_room bits [] room h = tt
all_room bits (n ∷ ns) room h = (let s = h.0 in omega (arith, room, s), all_room bits ns room h.1)

pub counted : (doing : Doing Shared) (bits count : ℕ) → 2 ^ bits ≤ 2 ^ 64 → ActsAlone doing bits count → Counted doing count
counted doing bits count room h = record { through = through; looks = looks; small = small }
  where
    through : (g : Given) (p a : ℕ) (args : List ℕ) (seen : Option ℕ) (w : Shared) (r : Result Shared) → doing.happens g p a args seen w ≡ Some r → done_after g false ≡ true → length r.results ≡ count
    through An_act p a args seen w r e done = h.many p a args seen w r e
    through Nothing p a args seen w r e done = absurd (h.only Nothing p a args seen w r (λ q. cc) e)
    through A_look p a args seen w r e done = absurd (h.only A_look p a args seen w r (λ q. cc) e)
    through A_miss p a args seen w r e done = absurd (h.only A_miss p a args seen w r (λ q. cc) e)

    looks : (g : Given) (p a : ℕ) (args : List ℕ) (seen : Option ℕ) (w : Shared) (r : Result Shared) → doing.happens g p a args seen w ≡ Some r → done_after g false ≡ false → r.results ≡ []
    looks An_act p a args seen w r e done = absurd (false≢true (sym done))
    looks Nothing p a args seen w r e done = absurd (h.only Nothing p a args seen w r (λ q. cc) e)
    looks A_look p a args seen w r e done = absurd (h.only A_look p a args seen w r (λ q. cc) e)
    looks A_miss p a args seen w r e done = absurd (h.only A_miss p a args seen w r (λ q. cc) e)

    small : (g : Given) (p a : ℕ) (args : List ℕ) (seen : Option ℕ) (w : Shared) (r : Result Shared) → doing.fits a args w → doing.happens g p a args seen w ≡ Some r → AllOf (λ n. n < 2 ^ 64) r.results
    small An_act p a args seen w r fit e = all_room bits r.results room (h.small p a args seen w r fit e)
    small Nothing p a args seen w r fit e = absurd (h.only Nothing p a args seen w r (λ q. cc) e)
    small A_look p a args seen w r fit e = absurd (h.only A_look p a args seen w r (λ q. cc) e)
    small A_miss p a args seen w r fit e = absurd (h.only A_miss p a args seen w r (λ q. cc) e)

-- a result by its numbers
pub results_are : (r q : Result Shared) (Q : List ℕ → Type 0) → Q r.results → Some r ≡ Some q → Q q.results
results_are r q Q h e = subst (λ s. Q s.results) (same_Some r q e) h

-- none but a weak compare-exchange has a look or a miss
atomic_only : (target : Target) (o : Op) (width : Width) (order : Order) (weak : Bool) → is_exchange o ≡ false → (g : Given) (p a : ℕ) (args : List ℕ) (seen : Option ℕ) (w : Shared) (r : Result Shared) → g ≢ An_act → (atomic_doing target o width order weak).happens g p a args seen w ≡ Some r → ⊥
atomic_only target o width order weak other g p a args seen w r ne e = go g (never weak) ne e
  where
    never : (b : Bool) → (b && is_exchange o) ≡ false
    never true = other
    never false = refl

    if_never : (b : Bool) (x : Option (Result Shared)) → b ≡ false → (if b then x else None) ≡ Some r → ⊥
    if_never true x h e = false≢true (sym h)
    if_never false x h e = none-some r e

    go : (g : Given) → (weak && is_exchange o) ≡ false → g ≢ An_act → (atomic_doing target o width order weak).happens g p a args seen w ≡ Some r → ⊥
    go An_act h ne e = ne refl
    go Nothing h ne e = none-some r e
    go A_look h ne e = if_never (weak && is_exchange o) _ h e
    go A_miss h ne e = if_never (weak && is_exchange o) _ h e

module _ (zabha zacas : Bool) (width : Width) (narrow : is_wide width ≡ false) (room : 2 ^ bits_of width ≤ 2 ^ 64) (order : Order) (weak : Bool) where
  abbrev here : Target
  here = Rv zabha zacas

  parts_one : (n : ℕ) → length (parts_of (is_wide width) n) ≡ 1
  parts_one n = ap (λ b. length (parts_of b n)) narrow

  parts_small : (n : ℕ) → n < 2 ^ bits_of width → AllOf (λ m. m < 2 ^ bits_of width) (parts_of (is_wide width) n)
  parts_small n h = subst (λ b. AllOf (λ m. m < 2 ^ bits_of width) (parts_of b n)) (sym narrow) (subst (λ m. m < 2 ^ bits_of width) (sym (fits_register width n room h)) h, tt)

  pub load_alone : ActsAlone (atomic_doing here op.Load width order weak) (bits_of width) 1
  load_alone =
      record {
        only = atomic_only here op.Load width order weak refl;
        many = λ p a args seen w r e. results_are _ r (λ ns. length ns ≡ 1) (parts_one (found_at p a (bytes_of width) w)) e;
        small = λ p a args seen w r fit e. results_are _ r (λ ns. AllOf (λ m. m < 2 ^ bits_of width) ns) (parts_small (found_at p a (bytes_of width) w) (loaded_small p a (bytes_of width) w fit)) e;
      }

  pub store_alone : ActsAlone (atomic_doing here op.Store width order weak) (bits_of width) 0
  store_alone =
      record {
        only = atomic_only here op.Store width order weak refl;
        many = λ p a args seen w r e. results_are _ r (λ ns. length ns ≡ 0) refl e;
        small = λ p a args seen w r fit e. results_are _ r (λ ns. AllOf (λ m. m < 2 ^ bits_of width) ns) tt e;
      }

  pub update_alone : (o : RmwOp) → ActsAlone (atomic_doing here (op.Rmw o) width order weak) (bits_of width) 1
  update_alone o =
      record {
        only = atomic_only here (op.Rmw o) width order weak refl;
        many = λ p a args seen w r e. results_are _ r (λ ns. length ns ≡ 1) (parts_one (number_at (sent_out p w).mem a (bytes_of width))) e;
        small = λ p a args seen w r fit e. results_are _ r (λ ns. AllOf (λ m. m < 2 ^ bits_of width) ns) (parts_small (number_at (sent_out p w).mem a (bytes_of width)) (sent_small p a (bytes_of width) w fit)) e;
      }

pub fence_alone : (zabha zacas : Bool) (width : Width) (order : Order) (weak : Bool) → ActsAlone (atomic_doing (Rv zabha zacas) op.Fence width order weak) 0 0
fence_alone zabha zacas width order weak =
    record {
      only = atomic_only (Rv zabha zacas) op.Fence width order weak refl;
      many = λ p a args seen w r e. results_are _ r (λ ns. length ns ≡ 0) (go (λ ns. length ns ≡ 0) (is_seq_cst order) p w refl) e;
      small = λ p a args seen w r fit e. results_are _ r (λ ns. AllOf (λ m. m < 2 ^ 0) ns) (go (λ ns. AllOf (λ m. m < 2 ^ 0) ns) (is_seq_cst order) p w tt) e;
    }
  where
    go : (Q : List ℕ → Type 0) (b : Bool) (p : ℕ) (w : Shared) → Q [] → Q (fenced (Rv zabha zacas) op.Fence width order b p w).results
    go Q true p w h = h
    go Q false p w h = h

pub plain_load_alone : (zabha zacas : Bool) (width : Width) → ActsAlone (load_doing (Rv zabha zacas) (bytes_of width)) (bits_of width) 1
plain_load_alone zabha zacas width = record { only = only; many = λ p a args seen w r e. results_are _ r (λ ns. length ns ≡ 1) refl e; small = λ p a args seen w r fit e. results_are _ r (λ ns. AllOf (λ m. m < 2 ^ bits_of width) ns) (loaded_small p a (bytes_of width) w fit, tt) e }
  where
    only : (g : Given) (p a : ℕ) (args : List ℕ) (seen : Option ℕ) (w : Shared) (r : Result Shared) → g ≢ An_act → (load_doing (Rv zabha zacas) (bytes_of width)).happens g p a args seen w ≡ Some r → ⊥
    only An_act p a args seen w r ne e = ne refl
    only Nothing p a args seen w r ne e = none-some r e
    only A_look p a args seen w r ne e = none-some r e
    only A_miss p a args seen w r ne e = none-some r e

pub plain_store_alone : (zabha zacas : Bool) (width : Width) → ActsAlone (store_doing (Rv zabha zacas) (bytes_of width)) (bits_of width) 0
plain_store_alone zabha zacas width = record { only = only; many = λ p a args seen w r e. results_are _ r (λ ns. length ns ≡ 0) refl e; small = λ p a args seen w r fit e. results_are _ r (λ ns. AllOf (λ m. m < 2 ^ bits_of width) ns) tt e }
  where
    only : (g : Given) (p a : ℕ) (args : List ℕ) (seen : Option ℕ) (w : Shared) (r : Result Shared) → g ≢ An_act → (store_doing (Rv zabha zacas) (bytes_of width)).happens g p a args seen w ≡ Some r → ⊥
    only An_act p a args seen w r ne e = ne refl
    only Nothing p a args seen w r ne e = none-some r e
    only A_look p a args seen w r ne e = none-some r e
    only A_miss p a args seen w r ne e = none-some r e
