-- A read-modify-write of 1 or 2 bytes by a loop over the word that holds the object is an expansion of it.
use Rattle.std.proofs.Common.{◌≡◌, ℕ, ◌+◌, ◌-◌, ◌*◌, ◌%◌, ◌^◌, ◌<◌, ◌≤◌, Bool, true, false, List, [], ◌∷◌, ◌++◌, length, Option, Some, None, refl, sym, ap, ◌∙◌, subst, append_assoc, inl, inr, ⊎_elim, arith}
use Rattle.std.specs.Prelude.{◌≢◌, ◌&&◌, if◌then◌else◌, not, nat_eq, negsuc}
use Rattle.std.proofs.lemmas.Bool.{cases_eq, false≢true, ne_eqb}
use Rattle.std.proofs.lemmas.Nat.{mod_below, mul-le, pow-add, pow_pos}
use Rattle.std.proofs.Math.Nat.{mod-eq_of_lt, pow-le-pow_right}
use Rattle.ax_words.specs.declared.mark.Op.TheVariants as op
use Rattle.ax_words.specs.declared.operation.RmwOp.{RmwOp}
use Rattle.ax_words.specs.declared.operation.RmwOp.TheVariants as rmw
use Rattle.ax_words.specs.declared.order.Order.{Order}
use Rattle.ax_words.specs.declared.width.Width.{Width}
use Rattle.ax_words.specs.declared.width.Width.TheVariants.{W8, W16, W32, W64, W128}
use Rattle.ax_words.specs.Width.{bits_of, bytes_of}
use Rattle.ax_ops.specs.Operation.{result_of}
use Rattle.ax_store.specs.declared.entry.Entry.{Entry}
use Rattle.ax_store.specs.Bytes.{all_inside, number_at}
use Rattle.ax_store.specs.Storage.{at_place, entry_of}
use Rattle.ax_store.proofs.Numbers.{number_small}
use Rattle.ax_tags.specs.declared.tags.Tag.{Tag}
use Rattle.ax_target.specs.declared.target.Target.TheVariants.{Rv}
use Rattle.ax_isa.specs.declared.effects.Effect.{Effect}
use Rattle.ax_isa.specs.declared.effects.Effect.TheVariants as effect
use Rattle.ax_isa.specs.declared.effects.Rest.TheVariants.{Signs}
use Rattle.ax_isa.specs.Numbers.{displaced}
use Rattle.ax_isa.specs.Processor.{Processor}
use Rattle.ax_isa.specs.Steps.{extended}
use Rattle.ax_isa.specs.Tells.{Given, Nothing, An_act, A_look, A_miss}
use Rattle.ax_isa.proofs.Functions.{at_same, at_other}
use Rattle.ax_rv.specs.Arithmetic.{shifted_left, shifted_right}
use Rattle.ax_rv.specs.declared.instructions.RvInstr.{RvInstr}
use Rattle.ax_rv.specs.Instructions.{rv_kind}
use Rattle.ax_follow.specs.Contract.{done_after}
use Rattle.ax_expand.specs.Bytes.{bytes_world}
use Rattle.ax_expand.specs.Doing.{Result, deed_of, on_registers}
use Rattle.ax_expand.specs.Expands.{Expands}
use Rattle.ax_expand.specs.Laws.{WrappedFollows}
use Rattle.ax_expand.specs.Operation.{Deed, Keeps, Operation}
use Rattle.ax_expand.specs.Private.{Private}
use Rattle.ax_expand.specs.Shared.{Object, Shared, shared_replaced, shared_wrote}
use Rattle.ax_expand.specs.Standing.{silently}
use Rattle.ax_expand.specs.World.{Lawful}
use Rattle.ax_expand.proofs.Bytes.{bytes_lawful}
use Rattle.ax_expand.proofs.Sights.{object_number}
use Rattle.ax_fine.specs.OnBytes.{IsObject, atomic_doing, results_with}
use Rattle.ax_emit_rv.specs.Laws.{is_kept}
use Rattle.ax_loops.specs.Registers.{all_but}
use Rattle.ax_loops.specs.Replacing.{Replacement, Replaces}
use Rattle.ax_loops.specs.Retry.{Computes, Retries, RetryLoop, retry_code, retry_most, retry_size}
use Rattle.ax_loops.specs.Updating.{is_none}
use Rattle.ax_loops.proofs.Registers.{apart, is_held, with_result}
use Rattle.ax_loops.proofs.Updating.{seen_small, wrote_sees}
use Rattle.ax_mask.specs.Codes.{above, again, compares, computation, is_narrow, link, masked_expansion, store, take_out, update_code, update_loop, update_setup}
use Rattle.ax_mask.specs.Updates as specs
use Rattle.ax_mask.specs.Updates.{Update, kept_by_update, linked, update_around, word_left, word_loop, word_updating}
use Rattle.ax_mask.specs.Prepared.{HasOperand, HasWord, at_top, placed_of, taken_of, up_of}
use Rattle.ax_mask.specs.Wrapped.{Agree, Around, IsAround, Leads, Standing, code, idle, size, wrapping_at}
use Rattle.ax_mask.proofs.Computing.{Makes, made, made_is, makes}
use Rattle.ax_mask.proofs.Exchanging.{none_pending}
use Rattle.ax_mask.proofs.Fields.{field, merged}
use Rattle.ax_mask.proofs.Found.{sent_same}
use Rattle.ax_mask.proofs.Holding.{is_field, number_few, place, word, writes}
use Rattle.ax_mask.proofs.Prepared.{lies, mask_is, placed_is, rest, taken_is, top_is, up_is, update_prepares}
use Rattle.ax_mask.proofs.Straight.{all_set, goes_ran, others_ran, ran}
use Rattle.ax_mask.proofs.Words.{linked_low, linked_small, word_field}
use Rattle.ax_mask.proofs.Wrapped.{around_expands, idles_more}

abbrev inside : ℕ → Bool
inside = kept_by_update

abbrev scratch : ℕ → Bool
scratch q = not (inside q)

none_of : (p : ℕ) (w : Shared) → is_none (w.pending p) ≡ true → w.pending p ≡ []
none_of p w e = by (w.pending p) e
  where
    by : (es : List Entry) → is_none es ≡ true → es ≡ []
    by [] e = refl
    by (x ∷ es) e = absurd (false≢true e)

module _ (zabha zacas : Bool) (order : Order) (weak : Bool) (o : RmwOp) where
  abbrev of : Width → Update
  of width = record { zabha = zabha; zacas = zacas; order = order; weak = weak; operation = o; width = width }

  -- ---- the operation
  abbrev updating : Width → Operation Shared
  updating width = specs.updating (of width)

  -- what it leaves of all that is shared
  abbrev left : Width → (ℕ → ℕ) → Shared → Shared
  left width = specs.left (of width)

  abbrev found : Width → (ℕ → ℕ) → Shared → Result Shared
  found width regs w = results_with (number_at w.mem (regs 10) (bytes_of width) % 2 ^ 64 ∷ []) (left width regs w)

  acts_as : (width : Width) → is_narrow width ≡ true → (p : ℕ) (regs : ℕ → ℕ) (seen : Option ℕ) (w : Shared) → w.pending p ≡ [] → (updating width).happens An_act p regs seen w ≡ deed_of (15 ∷ []) regs (Some (found width regs w))
  acts_as W8 h p regs seen w e = ap (λ s. deed_of (15 ∷ []) regs (Some (found W8 regs s))) (sent_same p w e)
  acts_as W16 h p regs seen w e = ap (λ s. deed_of (15 ∷ []) regs (Some (found W16 regs s))) (sent_same p w e)
  acts_as W32 h p regs seen w e = absurd (false≢true h)
  acts_as W64 h p regs seen w e = absurd (false≢true h)
  acts_as W128 h p regs seen w e = absurd (false≢true h)

  module _ (width : Width) (narrow : is_narrow width ≡ true) where
    abbrev got_of : (ℕ → ℕ) → Shared → Deed Shared
    got_of = word_left (of width)

    abbrev inner : Operation Shared
    inner = word_updating (of width)

    abbrev loop : RetryLoop RvInstr
    loop = word_loop (of width)

    abbrev replacement : Replacement Shared
    replacement =
        record {
          bytes = 4;
          address = λ regs. regs 5;
          leaves = λ regs number. made o (linked number) (regs 6) (regs 7) (regs 28);
          gives = λ regs number. at_place regs 15 (linked number);
          finds = λ regs w. number_at w.mem (regs 5) 4;
          after = λ regs w. left width regs w;
        }

    -- what the computation makes has the result in the object's place
    module _ (regs : ℕ → ℕ) (w : Shared) (fit : inner.fits regs w) where
      abbrev number : ℕ
      number = number_at w.mem (regs 5) 4

      abbrev n : ℕ
      n = bytes_of width

      abbrev at : ℕ
      at = regs 10 % 4

      has : HasWord width regs
      has = fit.1.word

      few : number < 2 ^ 32
      few = number_few width narrow regs w has fit.0

      operand_is : regs 28 ≡ (if compares o then regs 11 % 2 ^ (8 * n) * 2 ^ (8 * at + rest n at) else regs 11 % 2 ^ (8 * n) * 2 ^ (8 * at))
      operand_is = fit.1.operand ∙ by (compares o)
        where
          l : 8 * at + rest n at ≡ 64 - 8 * n
          l = (let z = place width narrow regs w has fit.0 in let fits = z.fits in omega (arith, fits))

          by : (top : Bool) → (if top then at_top width (regs 11) else placed_of width (regs 10) (regs 11)) ≡ (if top then regs 11 % 2 ^ (8 * n) * 2 ^ (8 * at + rest n at) else regs 11 % 2 ^ (8 * n) * 2 ^ (8 * at))
          by true = top_is width (regs 10) (place width narrow regs w has fit.0) (regs 11) ∙ ap (λ y. regs 11 % 2 ^ (8 * n) * 2 ^ y) (sym l)
          by false = placed_is width (regs 10) (place width narrow regs w has fit.0) (regs 11)

      mask_few : regs 7 < 2 ^ 64
      mask_few =
          let z = place width narrow regs w has fit.0 in
          let fits = z.fits in
          let e : 2 ^ (8 * n + 8 * at) ≡ 2 ^ (8 * n) * 2 ^ (8 * at) = pow-add 2 (8 * n) (8 * at) in
          let m : (2 ^ (8 * n) - 1) * 2 ^ (8 * at) ≤ 2 ^ (8 * n) * 2 ^ (8 * at) = mul-le (2 ^ (8 * n) - 1) (2 ^ (8 * at)) (2 ^ (8 * n)) (2 ^ (8 * at)) (omega arith) (omega arith) in
          let p : 2 ^ (8 * n + 8 * at) ≤ 2 ^ 32 = pow-le-pow_right {n = 2} (omega arith) {i = 8 * n + 8 * at} {j = 32} (omega (arith, fits)) in
          subst (λ y. y < 2 ^ 64) (sym (has.mask ∙ mask_is width (regs 10) z)) (omega (arith, e, m, p))

      makes_it : Makes o (8 * n) (8 * at) (linked number) (regs 6) (regs 7) (regs 28) (regs 11 % 2 ^ (8 * n))
      makes_it =
          let z = place width narrow regs w has fit.0 in
          let some = z.some in
          let fits = z.fits in
          makes (8 * n) (8 * at) (rest n at) (linked number) (regs 6) (regs 7) (regs 11 % 2 ^ (8 * n)) (omega (arith, fits)) (omega (arith, some)) (has.up ∙ up_is width (regs 10) z) (mod_below (regs 11) (2 ^ (8 * n)) (pow_pos (8 * n))) (linked_small number few) mask_few o (regs 28) operand_is

      -- the object's number in the linked word
      object_is : field (8 * n) (8 * at) (linked number) ≡ number_at w.mem (regs 10) n
      object_is =
          let z = place width narrow regs w has fit.0 in
          word_field (linked number) at n z.fits ∙ ap (field (8 * n) (8 * at)) (linked_low number few) ∙ sym (is_field width narrow regs w has fit.0)

      written : shared_wrote (entry_of (regs 5) 4 (replacement.leaves regs number)) w ≡ left width regs w
      written =
          ap (λ x. shared_wrote (entry_of (regs 5) 4 x) w) makes_it.is
          ∙ writes width narrow regs w has fit.0 (linked number) makes_it.bits (result_of (8 * n) o (number_at w.mem (regs 10) n) (regs 11 % 2 ^ (8 * n))) (linked_low number few) (makes_it.result ∙ ap (λ y. result_of (8 * n) o y (regs 11 % 2 ^ (8 * n))) object_is)

    replaces : Replaces bytes_world inner replacement
    replaces =
        record {
          width = refl;
          happens = λ p n regs seen w sees empty fit. ap (λ b. if is_none b then Some (got_of regs w) else None) (none_pending p n w sees empty);
          aligned = λ regs w fit. (word width narrow regs w fit.1.word fit.0).aligned;
          below = λ regs w fit. (word width narrow regs w fit.1.word fit.0).below;
          inside = λ n regs w sees fit. ap (λ f. all_inside f (regs 5) 4) sees.inside ∙ (word width narrow regs w fit.1.word fit.0).inside;
          found = λ n regs w sees fit. object_number n (regs 5) 4 w sees (word width narrow regs w fit.1.word fit.0);
          small = λ regs w fit. few regs w fit;
          seen_small = λ p n regs w sees fit. seen_small p (regs 5) 4 n w sees (word width narrow regs w fit.1.word fit.0);
          shows = λ lib p n new regs w sees fit wrote. subst (λ s. bytes_world.sees new s) (written regs w fit) (wrote_sees lib p _ n new w sees wrote);
        }

    kept : (q : ℕ) → all_but 15 inside q ≡ true → (inside q ≡ true) × (q ≢ 15) × (q ≢ 29)
    kept q e = (let a = apart inside 15 q e in (a.0, a.1, λ same. false≢true (sym (ap inside same) ∙ a.0)))

    sets : all_set scratch (computation o) ≡ true
    sets = by o
      where
        by : (o : RmwOp) → all_set scratch (computation o) ≡ true
        by rmw.Xchg = refl
        by rmw.Add = refl
        by rmw.Sub = refl
        by rmw.And = refl
        by rmw.Nand = refl
        by rmw.Or = refl
        by rmw.Xor = refl
        by rmw.Max = refl
        by rmw.Min = refl
        by rmw.UMax = refl
        by rmw.UMin = refl

    computes : (y : Private) (regs : ℕ → ℕ) (number : ℕ) → Keeps (all_but 15 inside) y.cpu.regs regs → y.cpu.regs 15 ≡ linked number → Computes rv_kind inside inner replacement loop regs number y
    computes y regs number held old =
        let c : Processor = ran (computation o) y.cpu in
        let stays : (q : ℕ) → inside q ≡ true → c.regs q ≡ y.cpu.regs q = λ q k. others_ran scratch (computation o) y.cpu sets q (ap not k) in
        let new : c.regs 29 ≡ made o (linked number) (regs 6) (regs 7) (regs 28) =
        made_is o y.cpu ∙ ap (λ r. made o r (y.cpu.regs 6) (y.cpu.regs 7) (y.cpu.regs 28)) old ∙ ap (λ u. made o (linked number) u (y.cpu.regs 7) (y.cpu.regs 28)) (held 6 refl) ∙ ap (λ m. made o (linked number) (regs 6) m (y.cpu.regs 28)) (held 7 refl)
        ∙ ap (made o (linked number) (regs 6) (regs 7)) (held 28 refl) in
        let gives : Keeps inside y.cpu.regs (at_place regs 15 (linked number)) = with_result inside 15 y.cpu.regs regs (linked number) held old in
        record {
          private = record { cpu = c; frame = y.frame };
          goes = goes_ran scratch (computation o) y sets;
          stores = record {
            holds = λ q e. stays q (kept q e).0 ∙ held q e;
            stores = λ w fit. ap (λ a. effect.PairStore 29 a 4 (c.regs 29)) (stays 5 refl ∙ held 5 refl) ∙ ap (effect.PairStore 29 (regs 5) 4) new;
            gives = λ q k. at_other c.regs 29 0 q (λ same. false≢true (sym (ap inside same) ∙ k)) ∙ stays q k ∙ gives q k;
          };
        }

    abbrev branch_if : Bool → Processor → Effect
    branch_if t c = if t then effect.Jump (displaced c.place (negsuc (length (computation o) + 1))) else effect.Nop

    goes_back : (many place start : ℕ) → place ≡ start + many + 2 → place < 2 ^ 32 → many < 100 → displaced place (negsuc (many + 1)) ≡ start
    goes_back many place start at small short = omega (arith, at, small, short)

    short : length (computation o) < 100
    short = by o
      where
        by : (o : RmwOp) → length (computation o) < 100
        by rmw.Xchg = omega arith
        by rmw.Add = omega arith
        by rmw.Sub = omega arith
        by rmw.And = omega arith
        by rmw.Nand = omega arith
        by rmw.Or = omega arith
        by rmw.Xor = omega arith
        by rmw.Max = omega arith
        by rmw.Min = omega arith
        by rmw.UMax = omega arith
        by rmw.UMin = omega arith

    retries : Retries rv_kind inside inner replacement loop bytes_world
    retries =
        record {
          replaces = replaces;
          unbuffered = refl;
          kept = kept;
          fills = λ before number. refl;
          links = λ c regs w fit held. ap (λ a. effect.Link 15 a 4 Signs) (held 5 refl);
          computes = λ y regs number small held old. computes y regs number held old;
          back = λ c start at small failed. inl (ap (λ m. branch_if (not (nat_eq m 0)) c) failed ∙ ap effect.Jump (goes_back (length (computation o)) c.place start at (let e : c.place < 2 ^ 32 = omega (arith, small) in e) short));
          on = λ c small stored. inr (ap (λ m. branch_if (not (nat_eq m 0)) c) stored, refl);
        }

    -- ---- round the loop
    abbrev Ties : Bool → (ℕ → ℕ) → (ℕ → ℕ) → Type 0
    Ties = (update_around (of width)).Ties

    brings : (y : Private) → Leads rv_kind (update_setup o width) y (λ got. (regs : ℕ → ℕ) → Keeps is_kept y.cpu.regs regs → Ties false regs got)
    brings y = (let a = update_prepares o width y in record { private = a.private; goes = a.goes; frame = a.frame; regs = λ regs held. (λ q k. a.regs.0 q k ∙ held q k, a.regs.1) })

    result_scratch : ℕ → Bool
    result_scratch q = nat_eq q 15

    kept_inside : (q : ℕ) → is_kept q ≡ true → inside q ≡ true
    kept_inside q k = ap (λ t. not t && not (nat_eq q 30)) (ne_eqb q 29 (other 29 refl)) ∙ ap not (ne_eqb q 30 (other 30 refl))
      where
        other : (r : ℕ) → is_kept r ≡ false → q ≢ r
        other r free same = false≢true (sym free ∙ sym (ap is_kept same) ∙ k)

    puts : (y : Private) (regs got : ℕ → ℕ) → Ties true regs got → Keeps inside y.cpu.regs got → Leads rv_kind (take_out width) y (λ left. Keeps is_kept left regs)
    puts y regs got tied held =
        let c : Processor = ran (take_out width) y.cpu in
        let taken : c.regs 15 ≡ regs 15 = ap (λ r. shifted_right (shifted_left r (y.cpu.regs 6 % 64)) (above width % 64)) (held 15 refl) ∙ ap (λ u. shifted_right (shifted_left (got 15) (u % 64)) (above width % 64)) (held 6 refl) ∙ tied.1 in
        record {
          private = record { cpu = c; frame = y.frame };
          goes = goes_ran (λ q. nat_eq q 15) (take_out width) y refl;
          frame = refl;
          regs = λ q k. ⊎_elim (λ same. subst (λ r. c.regs r ≡ regs r) (sym same) taken) (λ ne. others_ran (λ r. nat_eq r 15) (take_out width) y.cpu refl q (ne_eqb q 15 ne) ∙ held q (kept_inside q k) ∙ tied.0 q (is_held is_kept 15 q k ne)) (cases_eq q 15);
        }

    fits : (regs got : ℕ → ℕ) (w : Shared) → Ties false regs got → (updating width).fits regs w → inner.fits got w
    fits regs got w tied fit = (subst (λ a. IsObject a (bytes_of width) w) (sym (tied.0 10 refl)) (object width narrow fit), tied.1)
      where
        object : (width : Width) → is_narrow width ≡ true → (updating width).fits regs w → IsObject (regs 10) (bytes_of width) w
        object W8 h fit = fit
        object W16 h fit = fit
        object W32 h fit = fit
        object W64 h fit = fit
        object W128 h fit = fit

    happens :
        (g : Given) (p : ℕ) (regs got : ℕ → ℕ) (seen : Option ℕ) (w : Shared) → g ≢ Nothing → Ties false regs got → (updating width).fits regs w → Agree (Ties (done_after g false)) ((updating width).happens g p regs seen w) (inner.happens g p got seen w)
    happens Nothing p regs got seen w ne tied fit = absurd (ne refl)
    happens A_look p regs got seen w ne tied fit = tt
    happens A_miss p regs got seen w ne tied fit = tt
    happens An_act p regs got seen w ne tied fit = by (is_none (w.pending p)) refl
      where
        fit_in : inner.fits got w
        fit_in = fits regs got w tied fit

        same_left : left width got w ≡ left width regs w
        same_left = ap (λ a. shared_wrote (entry_of a (bytes_of width) (result_of (bits_of width) o (number_at w.mem a (bytes_of width)) (got 11 % 2 ^ bits_of width))) w) (tied.0 10 refl) ∙ ap (λ v. shared_wrote (entry_of (regs 10) (bytes_of width) (result_of (bits_of width) o (number_at w.mem (regs 10) (bytes_of width)) (v % 2 ^ bits_of width))) w) (tied.0 11 refl)

        number_is : shifted_right (shifted_left (linked (number_at w.mem (got 5) 4)) (got 6 % 64)) (above width % 64) ≡ number_at w.mem (regs 10) (bytes_of width) % 2 ^ 64
        number_is =
            let z = place width narrow got w fit_in.1.word fit_in.0 in
            let small : number_at w.mem (got 10) (bytes_of width) < 2 ^ (8 * bytes_of width) = number_small w.mem fit_in.0.small (got 10) (bytes_of width) in
            let wide : 2 ^ (8 * bytes_of width) ≤ 2 ^ 64 = (let fits = z.fits in pow-le-pow_right {n = 2} (omega arith) {i = 8 * bytes_of width} {j = 64} (omega (arith, fits))) in
            ap (λ u. shifted_right (shifted_left (linked (number_at w.mem (got 5) 4)) (u % 64)) (above width % 64)) fit_in.1.word.up
            ∙ taken_is width (got 10) z (linked (number_at w.mem (got 5) 4)) ∙ object_is got w fit_in
            ∙ sym (mod-eq_of_lt (let e : number_at w.mem (got 10) (bytes_of width) < 2 ^ 64 = omega (arith, small, wide) in e)) ∙ ap (λ a. number_at w.mem a (bytes_of width) % 2 ^ 64) (tied.0 10 refl)

        by : (b : Bool) → is_none (w.pending p) ≡ b → Agree (Ties true) ((updating width).happens An_act p regs seen w) (if b then Some (got_of got w) else None)
        by false e = tt
        by true e =
            subst (λ d. Agree (Ties true) d (Some (got_of got w))) (sym (acts_as width narrow p regs seen w (none_of p w e)))
            (record {
              seen = refl;
              world = sym same_left;
              output = refl;
              excused = refl;
              regs = (
                λ q k. (let a = apart is_kept 15 q k in at_other got 15 (linked (number_at w.mem (got 5) 4)) q a.1 ∙ tied.0 q a.0 ∙ sym (at_other regs 15 (number_at w.mem (regs 10) (bytes_of width) % 2 ^ 64) q a.1)),
                ap (λ r. shifted_right (shifted_left r (at_place got 15 (linked (number_at w.mem (got 5) 4)) 6 % 64)) (above width % 64)) (at_same got 15 (linked (number_at w.mem (got 5) 4)))
                    ∙ number_is ∙ sym (at_same regs 15 (number_at w.mem (regs 10) (bytes_of width) % 2 ^ 64)),
              );
            })

-- by the laws of such loops, and of code round an expansion
abbrev pub Retried : Operation Shared → Type 0
Retried o = (keeps : ℕ → Bool) (r : Replacement Shared) (loop : RetryLoop RvInstr) → Lawful bytes_world → Retries rv_kind keeps o r loop bytes_world → Expands rv_kind bytes_world (retry_most loop) keeps (retry_size loop) (λ start. retry_code loop) o

module _ (zabha zacas : Bool) (order : Order) (weak : Bool) (o : RmwOp) (width : Width) (narrow : is_narrow width ≡ true) where
  abbrev u : Update
  u = of zabha zacas order weak o width

  abbrev whole : Around RvInstr
  whole = update_around u

  is_around : Retried (word_updating u) → IsAround whole
  is_around law =
      record {
        expands = law inside (replacement zabha zacas order weak o width narrow) (word_loop u) bytes_lawful (retries zabha zacas order weak o width narrow);
        brings = brings zabha zacas order weak o width narrow;
        puts = puts zabha zacas order weak o width narrow;
        fits = fits zabha zacas order weak o width narrow;
        happens = happens zabha zacas order weak o width narrow;
      }

  code_is : (start : ℕ) → code whole start ≡ update_code o width order
  code_is start = sym (append_assoc (silently (update_setup o width)) (update_loop o order) (silently (take_out width)))

  few_idle : idle whole ≤ 24
  few_idle = by o
    where
      by : (o : RmwOp) → length (computation o) + 2 + length (update_setup o width) + length (take_out width) ≤ 24
      by rmw.Xchg = omega arith
      by rmw.Add = omega arith
      by rmw.Sub = omega arith
      by rmw.And = omega arith
      by rmw.Nand = omega arith
      by rmw.Or = omega arith
      by rmw.Xor = omega arith
      by rmw.Max = omega arith
      by rmw.Min = omega arith
      by rmw.UMax = omega arith
      by rmw.UMin = omega arith

  pub update_expands : Retried (word_updating u) → ((x : Standing RvInstr) → WrappedFollows (wrapping_at whole x))
      → (let e = masked_expansion (op.Rmw o) width order weak in Expands rv_kind bytes_world e.most is_kept e.size e.piece (specs.updating u))
  update_expands retried wrapped =
      let whole_expands = idles_more rv_kind (idle whole) 24 is_kept (size whole) (code whole) (specs.updating u) few_idle (around_expands whole (is_around retried) wrapped) in
      let long : size whole ≡ length (update_code o width order) = sym (whole_expands.length_is 0) ∙ ap length (code_is 0) in
      subst (λ n. Expands rv_kind bytes_world 24 is_kept n (λ start. update_code o width order) (specs.updating u)) long
      (subst (λ c. Expands rv_kind bytes_world 24 is_kept (size whole) c (specs.updating u)) (λ d start. code_is start d) whole_expands)
