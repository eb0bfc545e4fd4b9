-- What an act of each operation up to 8 bytes is, where it finds no own store that waits if it drains.
use Rattle.std.proofs.Common.{◌≡◌, ℕ, ◌+◌, ◌*◌, ◌%◌, ◌^◌, ◌<◌, ◌≤◌, Bool, true, false, List, [], ◌∷◌, ◌++◌, Option, Some, None, mod-eq_of_lt, mod-lt, refl, sym, ap, ◌∙◌, subst, arith}
use Rattle.std.specs.Prelude.{◌&&◌, if◌then◌else◌, nat_eq, not, slice_index_or}
use Rattle.std.proofs.lemmas.Bool.{false≢true}
use Rattle.std.proofs.lemmas.Nat.{pow_pos}
use Rattle.ax_words.specs.declared.mark.Op.{Op}
use Rattle.ax_words.specs.declared.mark.Op.TheVariants as op
use Rattle.ax_words.specs.declared.operation.RmwOp.{RmwOp}
use Rattle.ax_words.specs.declared.order.Order.{Order}
use Rattle.ax_words.specs.declared.width.Width.{Width}
use Rattle.ax_words.specs.declared.width.Width.TheVariants.{W8, W16, W32, W64, W128}
use Rattle.ax_words.specs.Width.{bits_of, bytes_of}
use Rattle.ax_ops.specs.Operation.{result_of}
use Rattle.ax_store.specs.declared.entry.Entry.{Entry}
use Rattle.ax_store.specs.Bytes.{number_at}
use Rattle.ax_store.specs.Storage.{entry_of}
use Rattle.ax_store.proofs.Numbers.{number_small}
use Rattle.ax_target.specs.declared.target.Target.{Target}
use Rattle.ax_target.specs.declared.target.Target.TheVariants.{X86}
use Rattle.ax_target.specs.Decisions.{decided}
use Rattle.ax_source_run.specs.SourceAccess.{Writes, manner_of_native}
use Rattle.ax_source_run.specs.SourceInstructions.{is_inline, is_seq_cst}
use Rattle.ax_source_run.specs.SourceValues.{number_of_flag}
use Rattle.ax_isa.specs.Tells.{An_act}
use Rattle.ax_mid.specs.Machine.{argument, is_wide, may_wait, parts_of}
use Rattle.ax_fine.specs.OnBytes.{IsObject, atomic_doing, fenced, found_at, met_by, results_with, sent_out, store_doing}
use Rattle.ax_expand.specs.Doing.{Result}
use Rattle.ax_expand.specs.Shared.{Shared, shared_replaced, shared_store, shared_wrote}
use Rattle.ax_mask.proofs.Found.{loaded_small, sent_same, sent_small}
use Rattle.ax_cas.proofs.Widths.{Narrow, fits_register}

-- a store takes the low bytes of its number
pub same_low : (a n v u : ℕ) → v % 2 ^ (8 * n) ≡ u % 2 ^ (8 * n) → entry_of a n v ≡ entry_of a n u
same_low a n v u e = ap (λ m. (let w : Entry = record { address = a; bytes = n; value = m } in w)) e

pub cut_again : (a n v : ℕ) → entry_of a n (v % 2 ^ (8 * n)) ≡ entry_of a n v
cut_again a n v = same_low a n (v % 2 ^ (8 * n)) v (mod-eq_of_lt (mod-lt v (pow_pos (8 * n))))

abbrev pub one_result : ℕ → Shared → Option (Result Shared)
one_result n w = Some (results_with (n ∷ []) w)

module _ (target : Target) (width : Width) (f : Narrow width) (order : Order) (weak : Bool) where
  in_one : (n : ℕ) (w : Shared) → n < 2 ^ bits_of width → Some (results_with (parts_of (is_wide width) n) w) ≡ one_result n w
  in_one n w small = ap (λ b. Some (results_with (parts_of b n) w)) f.narrow ∙ ap (λ m. one_result m w) (fits_register width n f small)

  -- the k-th number that it takes
  argument_is : (args : List ℕ) (k : ℕ) → argument width args k ≡ slice_index_or args k 0 % 2 ^ bits_of width
  argument_is args k = ap (λ (b : Bool). if b then slice_index_or args (2 * k) 0 + 2 ^ 64 * slice_index_or args (2 * k + 1) 0 else slice_index_or args k 0 % 2 ^ bits_of width) f.narrow

  pub atomic_loads : (p a : ℕ) (args : List ℕ) (seen : Option ℕ) (w : Shared) → IsObject a (bytes_of width) w → (atomic_doing target op.Load width order weak).happens An_act p a args seen w ≡ one_result (found_at p a (bytes_of width) w) w
  atomic_loads p a args seen w o = in_one (found_at p a (bytes_of width) w) w (loaded_small p a (bytes_of width) w o)

  -- what a read-modify-write leaves
  abbrev pub left_in : RmwOp → ℕ → ℕ → Shared → Shared
  left_in o a v w = shared_wrote (entry_of a (bytes_of width) (result_of (bits_of width) o (number_at w.mem a (bytes_of width)) (v % 2 ^ bits_of width))) w

  pub atomic_updates : (o : RmwOp) (p a v : ℕ) (seen : Option ℕ) (w : Shared) → IsObject a (bytes_of width) w → w.pending p ≡ [] → (atomic_doing target (op.Rmw o) width order weak).happens An_act p a (v ∷ []) seen w ≡ one_result (number_at w.mem a (bytes_of width)) (left_in o a v w)
  atomic_updates o p a v seen w h none =
      let left : ℕ → Shared → Shared = λ m s. shared_wrote (entry_of a (bytes_of width) (result_of (bits_of width) o (number_at s.mem a (bytes_of width)) m)) s in
      in_one (number_at (sent_out p w).mem a (bytes_of width)) (left (argument width (v ∷ []) 0) (sent_out p w)) (sent_small p a (bytes_of width) w h) ∙ ap (λ s. one_result (number_at s.mem a (bytes_of width)) (left (argument width (v ∷ []) 0) s)) (sent_same p w none)
      ∙ ap (λ u. one_result (number_at w.mem a (bytes_of width)) (left u w)) (argument_is (v ∷ []) 0)

  -- what a compare-exchange leaves where it finds a number, by whether that is the expected one
  abbrev pub exchanged_in : ℕ → ℕ → ℕ → Bool → Shared → Option (Result Shared)
  exchanged_in a desired number equal w = Some (results_with (number ∷ number_of_flag equal ∷ []) (shared_replaced a (bytes_of width) (if equal then Some (desired % 2 ^ bits_of width) else None) w))

  pub atomic_exchanges : (p a expected desired : ℕ) (seen : Option ℕ) (w : Shared) → IsObject a (bytes_of width) w → w.pending p ≡ []
      → (let number = number_at w.mem a (bytes_of width) in (atomic_doing target op.Cmpxchg width order weak).happens An_act p a (expected ∷ desired ∷ []) seen w ≡ exchanged_in a desired number (nat_eq number (expected % 2 ^ bits_of width)) w)
  atomic_exchanges p a expected desired seen w h none =
      let args = expected ∷ desired ∷ [] in
      let by : (ℕ → List ℕ) → ℕ → ℕ → Shared → Option (Result Shared) = λ parts e d s. (
      let number = number_at s.mem a (bytes_of width) in
      let equal = nat_eq number e in
      Some (results_with (parts number ++ number_of_flag equal ∷ []) (shared_replaced a (bytes_of width) (if equal then Some d else None) s))) in
      ap (by (parts_of (is_wide width)) (argument width args 0) (argument width args 1)) (sent_same p w none)
      ∙ ap (λ m. by (parts_of (is_wide width)) m (argument width args 1) w) (argument_is args 0)
      ∙ ap (λ m. by (parts_of (is_wide width)) (expected % 2 ^ bits_of width) m w) (argument_is args 1)
      ∙ ap (λ b. by (parts_of b) (expected % 2 ^ bits_of width) (desired % 2 ^ bits_of width) w) f.narrow
      ∙ ap (λ m. (
      let number = number_at w.mem a (bytes_of width) in
      let equal = nat_eq number (expected % 2 ^ bits_of width) in
      Some (results_with (m ∷ number_of_flag equal ∷ []) (shared_replaced a (bytes_of width) (if equal then Some (desired % 2 ^ bits_of width) else None) w))))
      (fits_register width (number_at w.mem a (bytes_of width)) f (number_small w.mem h.small a (bytes_of width)))

-- a store below seq_cst waits
is_one_access : (cx16 : Bool) (width : Width) → Narrow width → is_inline (decided (X86 cx16) op.Store width (bytes_of width)) ≡ true
is_one_access true W8 f = refl
is_one_access true W16 f = refl
is_one_access true W32 f = refl
is_one_access true W64 f = refl
is_one_access false W8 f = refl
is_one_access false W16 f = refl
is_one_access false W32 f = refl
is_one_access false W64 f = refl
is_one_access cx16 W128 f = absurd (false≢true (sym f.narrow))

waits : (cx16 : Bool) (width : Width) (order : Order) (seq_cst : Bool) → Narrow width → is_seq_cst order ≡ seq_cst → may_wait (X86 cx16) width order ≡ not seq_cst
waits cx16 width order seq_cst f is = ap (λ b. not (is_seq_cst order) && b) (is_one_access cx16 width f) ∙ ap (λ b. not b && true) is ∙ and_true (not seq_cst)
  where
    and_true : (b : Bool) → (b && true) ≡ b
    and_true true = refl
    and_true false = refl

module _ (cx16 : Bool) (width : Width) (f : Narrow width) (order : Order) (weak : Bool) where
  abbrev stores_by : Bool → ℕ → ℕ → ℕ → Shared → Option (Result Shared)
  stores_by may p a v w = Some (results_with [] (met_by (manner_of_native (Writes v) may) true p a (bytes_of width) (Writes v) w).world)

  stored_is : (seq_cst : Bool) (p a v : ℕ) (seen : Option ℕ) (w : Shared) → is_seq_cst order ≡ seq_cst → (atomic_doing (X86 cx16) op.Store width order weak).happens An_act p a (v ∷ []) seen w ≡ stores_by (not seq_cst) p a (v % 2 ^ bits_of width) w
  stored_is seq_cst p a v seen w is = ap (λ b. stores_by b p a (argument width (v ∷ []) 0) w) (waits cx16 width order seq_cst f is) ∙ ap (λ m. stores_by (not seq_cst) p a m w) (argument_is (X86 cx16) width f order weak (v ∷ []) 0)

  -- it waits in the buffer
  pub atomic_waits : (p a v : ℕ) (seen : Option ℕ) (w : Shared) → is_seq_cst order ≡ false → (atomic_doing (X86 cx16) op.Store width order weak).happens An_act p a (v ∷ []) seen w ≡ Some (results_with [] (shared_store true p (entry_of a (bytes_of width) v) w))
  atomic_waits p a v seen w is = stored_is false p a v seen w is ∙ ap (λ e. Some (results_with [] (shared_store true p e w))) (cut_again a (bytes_of width) v)

  -- or reaches memory behind all that waited
  pub atomic_stores : (p a v : ℕ) (seen : Option ℕ) (w : Shared) → is_seq_cst order ≡ true → w.pending p ≡ [] → (atomic_doing (X86 cx16) op.Store width order weak).happens An_act p a (v ∷ []) seen w ≡ Some (results_with [] (shared_wrote (entry_of a (bytes_of width) (v % 2 ^ bits_of width)) w))
  atomic_stores p a v seen w is none = stored_is true p a v seen w is ∙ ap (λ s. Some (results_with [] (shared_wrote (entry_of a (bytes_of width) (v % 2 ^ bits_of width)) s))) (sent_same p w none)

pub plain_waits : (cx16 : Bool) (width : Width) (p a v : ℕ) (seen : Option ℕ) (w : Shared) → (store_doing (X86 cx16) (bytes_of width)).happens An_act p a (v ∷ []) seen w ≡ Some (results_with [] (shared_store true p (entry_of a (bytes_of width) v) w))
plain_waits cx16 width p a v seen w = ap (λ e. Some (results_with [] (shared_store true p e w))) (cut_again a (bytes_of width) v)

pub atomic_fences : (target : Target) (width : Width) (order : Order) (weak : Bool) (p a : ℕ) (args : List ℕ) (seen : Option ℕ) (w : Shared) → (is_seq_cst order ≡ true → w.pending p ≡ []) → (atomic_doing target op.Fence width order weak).happens An_act p a args seen w ≡ Some (results_with [] w)
atomic_fences target width order weak p a args seen w none = go (is_seq_cst order) none
  where
    go : (b : Bool) → (b ≡ true → w.pending p ≡ []) → Some (fenced target op.Fence width order b p w) ≡ Some (results_with [] w)
    go true n = ap (λ s. Some (results_with [] s)) (sent_same p w (n refl))
    go false n = refl
