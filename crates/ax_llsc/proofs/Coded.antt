-- Every operation that has code: it is an expansion, and gives as many results as there are registers for them.
use Rattle.std.proofs.Common.{◌≡◌, ℕ, ◌^◌, ◌<◌, Bool, true, false, List, [], length, Option, Some, None, refl, sym, subst, ⊎_elim, arith}
use Rattle.std.specs.Prelude.{◌&&◌, if◌then◌else◌, nat_eq}
use Rattle.std.proofs.lemmas.Bool.{false≢true}
use Rattle.std.proofs.lemmas.Option.{none-some}
use Rattle.ax_words.specs.declared.mark.Op.{Op}
use Rattle.ax_words.specs.declared.mark.Op.TheVariants as op
use Rattle.ax_words.specs.declared.operation.RmwOp.{RmwOp}
use Rattle.ax_words.specs.declared.operation.RmwOp.TheVariants as rmw
use Rattle.ax_words.specs.declared.order.Order.{Order}
use Rattle.ax_words.specs.declared.width.Width.{Width}
use Rattle.ax_words.specs.declared.width.Width.TheVariants.{W8, W16, W32, W64, W128}
use Rattle.ax_words.specs.Width.{bits_of}
use Rattle.ax_target.specs.declared.target.Target.{Target}
use Rattle.ax_target.specs.declared.target.Target.TheVariants.{Rv}
use Rattle.ax_source_run.specs.SourceValues.{number_of_flag}
use Rattle.ax_isa.specs.Tells.{Given, Nothing, An_act, A_look, A_miss}
use Rattle.ax_follow.specs.Contract.{done_after}
use Rattle.ax_mid.specs.Machine.{argument, is_wide, results_of as numbers_of}
use Rattle.ax_rv.specs.declared.instructions.RvInstr.{RvInstr}
use Rattle.ax_rv.specs.Instructions.{rv_kind}
use Rattle.ax_fine.specs.OnBytes.{atomic_doing, looks, misses, results_with}
use Rattle.ax_expand.specs.Bytes.{bytes_world}
use Rattle.ax_expand.specs.Doing.{Result, on_registers}
use Rattle.ax_expand.specs.Expands.{Expands}
use Rattle.ax_expand.specs.Laws.{AccessFollows, WrappedFollows}
use Rattle.ax_expand.specs.Operation.{Operation}
use Rattle.ax_expand.specs.Shared.{Shared}
use Rattle.ax_emit.specs.Atomics.{AllOf, Counted}
use Rattle.ax_emit_rv.specs.Code.{Expansion}
use Rattle.ax_mask.specs.Codes.{is_masked, is_narrow, masked_expansion}
use Rattle.ax_mask.specs.Laws.{MaskedCodeExpands}
use Rattle.ax_llsc.specs.Codes.{Atomic, Coded, IsCoded, PlainLoad, PlainStore, args_of, doing_of, exchange_of, expansion_of, registers_for, results_of, rounded, rounding, update_of}
use Rattle.ax_llsc.specs.Rounds.{Standing, unfinished, wrapping_at}
use Rattle.ax_llsc.proofs.Acts.{counted, fence_alone, load_alone, plain_load_alone, plain_store_alone, results_are, store_alone, update_alone}
use Rattle.ax_llsc.proofs.Exchange.{Law as ExchangeLaw, exchange_expands}
use Rattle.ax_llsc.proofs.Inline.{fence_rounding, load_rounding, plain_load_rounding, plain_store_rounding, store_rounding, update_rounding}
use Rattle.ax_llsc.proofs.Nand.{Law as RetryLaw, nand_expands}
use Rattle.ax_llsc.proofs.Rounds.{expanding}
use Rattle.ax_llsc.proofs.Ways.{HasAmo, IsAtomicWidth, amo_or_nand, exchange_way, load_way, narrow_or_whole, narrow_width, plain_width, store_way, update_way, whole_width}

-- ---- a compare-exchange gives two numbers; a look none
flag_small : (b : Bool) → number_of_flag b < 2 ^ 64
flag_small true = omega arith
flag_small false = omega arith

module _ (target : Target) (width : Width) (order : Order) (weak : Bool) where
  abbrev happens : Given → ℕ → ℕ → List ℕ → Option ℕ → Shared → Option (Result Shared)
  happens = (atomic_doing target op.Cmpxchg width order weak).happens

  -- what holds of the results of each event that completes it
  abbrev OfResults : (List ℕ → Type 0) → Type 0
  OfResults Q = (number : ℕ) (equal : Bool) → Q (numbers_of op.Cmpxchg width number equal)

  looked : (Q : List ℕ → Type 0) → Q [] → (b : Bool) (a : ℕ) (w : Shared) (r : Result Shared) → (if b then Some (looks target op.Cmpxchg width order a w) else None) ≡ Some r → Q r.results
  looked Q h true a w r e = results_are _ r Q h e
  looked Q h false a w r e = absurd (none-some r e)

  missed : (Q : List ℕ → Type 0) → OfResults Q → (b : Bool) (args : List ℕ) (seen : Option ℕ) (w : Shared) (r : Result Shared) → (if b then misses target op.Cmpxchg width order args seen w else None) ≡ Some r → Q r.results
  missed Q h false args seen w r e = absurd (none-some r e)
  missed Q h true args None w r e = absurd (none-some r e)
  missed Q h true args (Some n) w r e = go (nat_eq (argument width args 0) n) e
    where
      go : (t : Bool) → (if t then Some (results_with (numbers_of op.Cmpxchg width (argument width args 0) false) w) else None) ≡ Some r → Q r.results
      go true g = results_are _ r Q (h (argument width args 0) false) g
      go false g = absurd (none-some r g)

  exchange_counted : OfResults (λ ns. length ns ≡ 2) → OfResults (AllOf (λ n. n < 2 ^ 64)) → Counted (atomic_doing target op.Cmpxchg width order weak) 2
  exchange_counted two all = record { through = through; looks = none; small = small }
    where
      through : (g : Given) (p a : ℕ) (args : List ℕ) (seen : Option ℕ) (w : Shared) (r : Result Shared) → happens g p a args seen w ≡ Some r → done_after g false ≡ true → length r.results ≡ 2
      through Nothing p a args seen w r e done = absurd (none-some r e)
      through An_act p a args seen w r e done = results_are _ r (λ ns. length ns ≡ 2) (two _ _) e
      through A_look p a args seen w r e done = absurd (false≢true done)
      through A_miss p a args seen w r e done = missed (λ ns. length ns ≡ 2) two (weak && true) args seen w r e

      none : (g : Given) (p a : ℕ) (args : List ℕ) (seen : Option ℕ) (w : Shared) (r : Result Shared) → happens g p a args seen w ≡ Some r → done_after g false ≡ false → r.results ≡ []
      none Nothing p a args seen w r e done = absurd (none-some r e)
      none An_act p a args seen w r e done = absurd (false≢true (sym done))
      none A_look p a args seen w r e done = looked (λ ns. ns ≡ []) refl (weak && true) a w r e
      none A_miss p a args seen w r e done = absurd (false≢true (sym done))

      small : (g : Given) (p a : ℕ) (args : List ℕ) (seen : Option ℕ) (w : Shared) (r : Result Shared) → (atomic_doing target op.Cmpxchg width order weak).fits a args w → happens g p a args seen w ≡ Some r → AllOf (λ n. n < 2 ^ 64) r.results
      small Nothing p a args seen w r fit e = absurd (none-some r e)
      small An_act p a args seen w r fit e = results_are _ r (AllOf (λ n. n < 2 ^ 64)) (all _ _) e
      small A_look p a args seen w r fit e = looked (AllOf (λ n. n < 2 ^ 64)) tt (weak && true) a w r e
      small A_miss p a args seen w r fit e = missed (AllOf (λ n. n < 2 ^ 64)) all (weak && true) args seen w r e

exchange_counts : (target : Target) (width : Width) (order : Order) (weak : Bool) → is_wide width ≡ false → Counted (atomic_doing target op.Cmpxchg width order weak) 2
exchange_counts target W8 order weak h = exchange_counted target W8 order weak (λ number equal. refl) (λ number equal. (omega arith, (flag_small equal, tt)))
exchange_counts target W16 order weak h = exchange_counted target W16 order weak (λ number equal. refl) (λ number equal. (omega arith, (flag_small equal, tt)))
exchange_counts target W32 order weak h = exchange_counted target W32 order weak (λ number equal. refl) (λ number equal. (omega arith, (flag_small equal, tt)))
exchange_counts target W64 order weak h = exchange_counted target W64 order weak (λ number equal. refl) (λ number equal. (omega arith, (flag_small equal, tt)))
exchange_counts target W128 order weak h = absurd (false≢true (sym h))

-- ---- THE LAW, from those of one access, of code round an expansion, and of loops
module _ (zabha zacas : Bool) where
  abbrev target : Target
  target = Rv zabha zacas

  abbrev pub operation : Coded → Operation Shared
  operation x = on_registers (doing_of target x) (registers_for x).address (args_of x) (results_of x)

  abbrev Expanding : Coded → Expansion → Type 0
  Expanding x e = Expands rv_kind bytes_world e.most (registers_for x).keeps e.size e.piece (operation x)

  abbrev Expanded : Coded → Type 0
  Expanded x = Expanding x (expansion_of target x)

  -- of a word of its own all but nand are one access
  update_is : (o : RmwOp) (width : Width) (order : Order) (weak : Bool) → HasAmo o → update_of false target o width order weak ≡ rounded (rounding target (Atomic (op.Rmw o) width order weak))
  update_is rmw.Nand width order weak has = absurd has
  update_is rmw.Xchg width order weak has = refl
  update_is rmw.Add width order weak has = refl
  update_is rmw.Sub width order weak has = refl
  update_is rmw.And width order weak has = refl
  update_is rmw.Or width order weak has = refl
  update_is rmw.Xor width order weak has = refl
  update_is rmw.Max width order weak has = refl
  update_is rmw.Min width order weak has = refl
  update_is rmw.UMax width order weak has = refl
  update_is rmw.UMin width order weak has = refl

  module _ (one : (x : Coded) → AccessFollows rv_kind (unfinished (rounding target x))) (wrapped : (x : Coded) (at : Standing RvInstr) → WrappedFollows (wrapping_at (rounding target x) at)) where
    module _ (masked : MaskedCodeExpands) (pair : (x : Coded) → ExchangeLaw (operation x)) (retry : (x : Coded) → RetryLaw (operation x)) where
      -- of the word that holds the object
      in_word : (o : Op) (width : Width) (order : Order) (weak : Bool) → is_narrow width ≡ true → is_masked o ≡ true → Expanding (Atomic o width order weak) (masked_expansion o width order weak)
      in_word o width order weak narrow is = masked zabha zacas o width order weak narrow is

      exchange : (width : Width) (order : Order) (weak : Bool) → is_wide width ≡ false → Expanded (Atomic op.Cmpxchg width order weak)
      exchange width order weak size =
          ⊎_elim (λ narrow. subst (λ b. Expanding (Atomic op.Cmpxchg width order weak) (exchange_of b width order weak)) (sym narrow) (in_word op.Cmpxchg width order weak narrow refl))
          (λ whole. subst (λ b. Expanding (Atomic op.Cmpxchg width order weak) (exchange_of b width order weak)) (sym (whole_width width whole)) (exchange_expands zabha zacas width order weak whole (pair (Atomic op.Cmpxchg width order weak)))) (narrow_or_whole width size)

      -- a nand is a loop, all others are one access
      whole_update : (o : RmwOp) (width : Width) (order : Order) (weak : Bool) → IsAtomicWidth width → Expanding (Atomic (op.Rmw o) width order weak) (update_of false target o width order weak)
      whole_update o width order weak size =
          ⊎_elim (λ e. subst (λ q. Expanding (Atomic (op.Rmw q) width order weak) (update_of false target q width order weak)) (sym e) (nand_expands zabha zacas width order weak size (retry (Atomic (op.Rmw rmw.Nand) width order weak))))
          (λ has. subst (Expanding (Atomic (op.Rmw o) width order weak)) (sym (update_is o width order weak has)) (expanding (rounding target (Atomic (op.Rmw o) width order weak)) (update_rounding zabha zacas o width order weak has size) (one (Atomic (op.Rmw o) width order weak)) (wrapped (Atomic (op.Rmw o) width order weak)))) (amo_or_nand o)

      update : (o : RmwOp) (width : Width) (order : Order) (weak : Bool) → is_wide width ≡ false → Expanded (Atomic (op.Rmw o) width order weak)
      update o width order weak size =
          ⊎_elim (λ narrow. subst (λ b. Expanding (Atomic (op.Rmw o) width order weak) (update_of b target o width order weak)) (sym narrow) (in_word (op.Rmw o) width order weak narrow refl))
          (λ whole. subst (λ b. Expanding (Atomic (op.Rmw o) width order weak) (update_of b target o width order weak)) (sym (whole_width width whole)) (whole_update o width order weak whole)) (narrow_or_whole width size)

      pub expands : (x : Coded) → IsCoded target x → Expanded x
      expands (Atomic op.Load width order weak) way = expanding (rounding target (Atomic op.Load width order weak)) (load_rounding zabha zacas width order weak (narrow_width width (load_way zabha zacas width way))) (one (Atomic op.Load width order weak)) (wrapped (Atomic op.Load width order weak))
      expands (Atomic op.Store width order weak) way = expanding (rounding target (Atomic op.Store width order weak)) (store_rounding zabha zacas width order weak (narrow_width width (store_way zabha zacas width way))) (one (Atomic op.Store width order weak)) (wrapped (Atomic op.Store width order weak))
      expands (Atomic op.Cmpxchg width order weak) way = exchange width order weak (exchange_way zabha zacas width way)
      expands (Atomic (op.Rmw o) width order weak) way = update o width order weak (update_way zabha zacas o width way)
      expands (Atomic op.Fence width order weak) way = expanding (rounding target (Atomic op.Fence width order weak)) (fence_rounding zabha zacas width order weak) (one (Atomic op.Fence width order weak)) (wrapped (Atomic op.Fence width order weak))
      expands (PlainLoad width) way = expanding (rounding target (PlainLoad width)) (plain_load_rounding zabha zacas width (narrow_width width (plain_width width way))) (one (PlainLoad width)) (wrapped (PlainLoad width))
      expands (PlainStore width) way = expanding (rounding target (PlainStore width)) (plain_store_rounding zabha zacas width (narrow_width width (plain_width width way))) (one (PlainStore width)) (wrapped (PlainStore width))

  pub are_counted : (x : Coded) → IsCoded target x → Counted (doing_of target x) (length (results_of x))
  are_counted (Atomic op.Load width order weak) way = (let f = narrow_width width (load_way zabha zacas width way) in counted _ (bits_of width) 1 f.room (load_alone zabha zacas width f.narrow f.room order weak))
  are_counted (Atomic op.Store width order weak) way = (let f = narrow_width width (store_way zabha zacas width way) in counted _ (bits_of width) 0 f.room (store_alone zabha zacas width f.narrow f.room order weak))
  are_counted (Atomic op.Cmpxchg width order weak) way = exchange_counts target width order weak (exchange_way zabha zacas width way)
  are_counted (Atomic (op.Rmw o) width order weak) way = (let f = narrow_width width (update_way zabha zacas o width way) in counted _ (bits_of width) 1 f.room (update_alone zabha zacas width f.narrow f.room order weak o))
  are_counted (Atomic op.Fence width order weak) way = counted _ 0 0 (omega arith) (fence_alone zabha zacas width order weak)
  are_counted (PlainLoad width) way = counted _ (bits_of width) 1 (narrow_width width (plain_width width way)).room (plain_load_alone zabha zacas width)
  are_counted (PlainStore width) way = counted _ (bits_of width) 0 (narrow_width width (plain_width width way)).room (plain_store_alone zabha zacas width)
