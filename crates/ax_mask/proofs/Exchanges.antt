-- A compare-exchange of 1 or 2 bytes by a linked load and a pair store of the word that holds the object is an expansion of it.
use Rattle.std.proofs.Common.{◌≡◌, ℕ, suc, ◌+◌, ◌-◌, ◌*◌, ◌%◌, ◌^◌, ◌<◌, ◌≤◌, Bool, true, false, List, [], ◌∷◌, ◌++◌, length, Option, Some, None, refl, sym, ap, ◌∙◌, subst, inl, inr, ⊎_elim, arith, bit_and, append-nil}
use Rattle.std.specs.Prelude.{◌≢◌, ◌⊎◌, ◌&&◌, bit_xor, if◌then◌else◌, not, nat_eq, nat_le, ℤ, negsuc, pos}
use Rattle.std.proofs.lemmas.Bool.{cases_eq, eq-eqb, false≢true, ne_eqb}
use Rattle.std.proofs.lemmas.Bool.Decides.{nat_tests}
use Rattle.std.proofs.lemmas.Nat.{and_le_r, mod_below, mul-le, pow-add, pow_pos}
use Rattle.std.proofs.Math.Nat.{mod-eq_of_lt, pow-le-pow_right}
use Rattle.ax_words.specs.declared.mark.Op.TheVariants as op
use Rattle.ax_words.specs.declared.order.Order.{Order}
use Rattle.ax_words.specs.declared.width.Width.{Width}
use Rattle.ax_words.specs.declared.width.Width.TheVariants.{W8, W16, W32, W64, W128}
use Rattle.ax_words.specs.Width.{bits_of, bytes_of}
use Rattle.ax_source_run.specs.SourceValues.{number_of_flag}
use Rattle.ax_store.specs.Bytes.{number_at}
use Rattle.ax_store.specs.Storage.{at_place}
use Rattle.ax_tags.specs.declared.tags.Tag.{Tag}
use Rattle.ax_target.specs.declared.target.Target.TheVariants.{Rv}
use Rattle.ax_isa.specs.declared.effects.Effect.{Effect}
use Rattle.ax_isa.specs.declared.effects.Effect.TheVariants as effect
use Rattle.ax_isa.specs.declared.effects.Rest.TheVariants.{Signs}
use Rattle.ax_isa.specs.Numbers.{displaced}
use Rattle.ax_isa.specs.Processor.{Processor}
use Rattle.ax_isa.specs.Steps.{extended, go_to, go_with}
use Rattle.ax_isa.specs.Tells.{Given, Nothing, An_act, A_look, A_miss, masked_by}
use Rattle.ax_isa.proofs.Functions.{at_same, at_other}
use Rattle.ax_mid.specs.Machine.{is_wide}
use Rattle.ax_rv.specs.Arithmetic.{one_if, shifted_left, shifted_right}
use Rattle.ax_rv.specs.declared.instructions.Condition.TheVariants as condition
use Rattle.ax_rv.specs.declared.instructions.RvInstr.{RvInstr}
use Rattle.ax_rv.specs.declared.instructions.RvInstr.TheVariants.{Branch, Unary}
use Rattle.ax_rv.specs.declared.instructions.Unary.TheVariants as unary
use Rattle.ax_rv.specs.Instructions.{effect_of, rv_kind}
use Rattle.ax_follow.specs.Contract.{done_after}
use Rattle.ax_expand.specs.Bytes.{bytes_world}
use Rattle.ax_expand.specs.Doing.{Result, deed_of, put_regs}
use Rattle.ax_expand.specs.Expands.{Expands}
use Rattle.ax_expand.specs.Laws.{WrappedFollows}
use Rattle.ax_expand.specs.Operation.{Keeps, Operation}
use Rattle.ax_expand.specs.Private.{Private}
use Rattle.ax_expand.specs.Shared.{Shared}
use Rattle.ax_expand.specs.Standing.{silently}
use Rattle.ax_expand.specs.World.{Lawful}
use Rattle.ax_expand.proofs.Bytes.{bytes_lawful}
use Rattle.ax_fine.specs.OnBytes.{IsObject, atomic_doing}
use Rattle.ax_emit_rv.specs.Laws.{is_kept}
use Rattle.ax_loops.specs.Exchanging.{Exchange, IsExchange}
use Rattle.ax_loops.specs.PairExchange.{AtPair, Exchanges, HasLinked, IsBack, IsThrough, PairExchange, Pairs, exchange_code, exchange_size}
use Rattle.ax_loops.specs.Registers.{all_but}
use Rattle.ax_loops.specs.Ways.{Laid, Leads, Way}
use Rattle.ax_loops.proofs.Registers.{apart, is_held}
use Rattle.ax_mask.specs.Codes as codes
use Rattle.ax_mask.specs.Codes.{above, again, comparison, different, exchange_answer, exchange_between, exchange_loop, exchange_setup, is_narrow, link, masked_expansion, merge, store, take_out}
use Rattle.ax_mask.specs.Exchanges as specs
use Rattle.ax_mask.specs.Exchanges.{CompareExchange, back_of, exchange_around, kept_by_exchange, word_exchange, word_exchanging}
use Rattle.ax_mask.specs.Prepared.{HasNumbers, placed_of}
use Rattle.ax_mask.specs.Updates.{linked}
use Rattle.ax_mask.specs.Wrapped.{Agree, Around, IsAround, Leads as Comes, Standing, code, idle, size, wrapping_at}
use Rattle.ax_mask.proofs.Exchanging.{HoldsObject, Word, exchange_in, is_exchange}
use Rattle.ax_mask.proofs.Fields.{field, field_placed, merged}
use Rattle.ax_mask.proofs.Holding.{is_field, number_few, place, word, writes}
use Rattle.ax_mask.proofs.Prepared.{exchange_prepares, mask_is, placed_is, taken_is}
use Rattle.ax_mask.proofs.Straight.{all_set, others_ran, place_ran, ran, way_ran}
use Rattle.ax_mask.proofs.Words.{linked_low, linked_small, linked_test, mask_at, masked_test, word_field}
use Rattle.ax_mask.proofs.Wrapped.{around_expands, idles_more}

abbrev inside : ℕ → Bool
inside = kept_by_exchange

abbrev scratch : ℕ → Bool
scratch q = nat_eq q 29

-- what the answer sets
abbrev answered : ℕ → Bool
answered q = not (not (nat_eq q 15) && not (nat_eq q 16))

-- a word extended by its sign is 0 where it is
extended_none : (x : ℕ) → nat_eq (extended 4 Signs 0 x) 0 ≡ nat_eq x 0
extended_none x = by (nat_le (2 ^ 31) x) refl
  where
    by : (t : Bool) → nat_le (2 ^ 31) x ≡ t → nat_eq (if t then x + (2 ^ 64 - 2 ^ 32) else x) 0 ≡ nat_eq x 0
    by true e = (let h : 2 ^ 31 ≤ x = grind (arith, nat_tests) in let p : nat_eq x 0 ≡ false = grind (arith, nat_tests) in let q : nat_eq (x + (2 ^ 64 - 2 ^ 32)) 0 ≡ false = grind (arith, nat_tests) in q ∙ sym p)
    by false e = refl

narrow_is : (width : Width) → is_narrow width ≡ true → is_wide width ≡ false
narrow_is W8 h = refl
narrow_is W16 h = refl
narrow_is W32 h = refl
narrow_is W64 h = refl
narrow_is W128 h = absurd (false≢true h)

bits_are : (width : Width) → bits_of width ≡ 8 * bytes_of width
bits_are W8 = refl
bits_are W16 = refl
bits_are W32 = refl
bits_are W64 = refl
bits_are W128 = refl

module _ (zabha zacas : Bool) (order : Order) (width : Width) (narrow : is_narrow width ≡ true) where
  abbrev n : ℕ
  n = bytes_of width

  -- the object in its word, on prepared registers
  abbrev in_word : Word
  in_word =
      record {
        bytes = 4;
        address = λ regs. regs 5;
        part = λ regs number. field (8 * n) (8 * (regs 10 % 4)) number;
        leaves = λ regs number. merged (linked number) (regs 30) (regs 7);
        fits = λ regs w. IsObject (regs 10) n w × HasNumbers width regs;
      }

  placed : (regs : ℕ → ℕ) (w : Shared) → in_word.fits regs w → (x : ℕ) → placed_of width (regs 10) x ≡ x % 2 ^ (8 * n) * 2 ^ (8 * (regs 10 % 4))
  placed regs w fit x = placed_is width (regs 10) (place width narrow regs w fit.1.word fit.0) x

  cut_below : (x : ℕ) → x % 2 ^ (8 * n) < 2 ^ (8 * n)
  cut_below x = mod_below x (2 ^ (8 * n)) (pow_pos (8 * n))

  holds_object : HoldsObject width in_word
  holds_object =
      record {
        size = refl;
        word = λ regs w fit. word width narrow regs w fit.1.word fit.0;
        part = λ regs w fit. sym (is_field width narrow regs w fit.1.word fit.0);
        leaves = λ regs w fit.
            writes width narrow regs w fit.1.word fit.0 (linked (number_at w.mem (regs 5) 4)) (regs 30) (regs 12 % 2 ^ bits_of width) (linked_low _ (number_few width narrow regs w fit.1.word fit.0))
            (ap (field (8 * n) (8 * (regs 10 % 4))) (fit.1.desired ∙ placed regs w fit (regs 12)) ∙ field_placed (regs 12 % 2 ^ (8 * n)) (8 * n) (8 * (regs 10 % 4)) (cut_below (regs 12)) ∙ ap (λ b. regs 12 % 2 ^ b) (sym (bits_are width)));
      }

  abbrev r : Exchange Shared
  r = exchange_in width in_word

  abbrev of : Bool → CompareExchange
  of weak = record { zabha = zabha; zacas = zacas; order = order; weak = weak; width = width }

  abbrev o : Bool → Operation Shared
  o weak = word_exchanging (of weak)

  abbrev z : Bool → PairExchange RvInstr
  z weak = word_exchange (of weak)

  abbrev laid : Bool → ℕ → Laid RvInstr
  laid weak start = record { kind = rv_kind; code = exchange_code (z weak); start = start }

  kept : (q : ℕ) → all_but 15 inside q ≡ true → (inside q ≡ true) × (q ≢ 15) × (q ≢ 29)
  kept q e = (let a = apart inside 15 q e in (a.0, a.1, λ same. false≢true (sym (ap inside same) ∙ a.0)))

  -- the registers until the event, with the linked word
  record Holds (regs : ℕ → ℕ) (number : ℕ) (c : Processor) : Type 0 where
    pub held : Keeps (all_but 15 inside) c.regs regs
    pub old : c.regs 15 ≡ linked number

  holds_go : (regs : ℕ → ℕ) (number to : ℕ) (c : Processor) → Holds regs number c → Holds regs number (go_to to c)
  holds_go regs number to c h = record { held = h.held; old = h.old }

  holds_ran : (regs : ℕ → ℕ) (number : ℕ) (is : List RvInstr) (c : Processor) → all_set scratch is ≡ true → Holds regs number c → Holds regs number (ran is c)
  holds_ran regs number is c sets h =
      record {
        held = λ q e. others_ran scratch is c sets q (ne_eqb q 29 (kept q e).2) ∙ h.held q e;
        old = others_ran scratch is c sets 15 refl ∙ h.old;
      }

  holds_flag : (regs : ℕ → ℕ) (number flag : ℕ) (c : Processor) → Holds regs number c → Holds regs number (go_with 29 flag c)
  holds_flag regs number flag c h = record { held = λ q e. at_other c.regs 29 flag q (kept q e).2 ∙ h.held q e; old = at_other c.regs 29 flag 15 (λ e. cc) ∙ h.old }

  module _ (regs : ℕ → ℕ) (w : Shared) (number : ℕ) (fit : in_word.fits regs w) (few : number < 2 ^ 32) where
    abbrev at : ℕ
    at = regs 10 % 4

    expected_is : regs 28 ≡ regs 11 % 2 ^ (8 * n) * 2 ^ (8 * at)
    expected_is = fit.1.expected ∙ placed regs w fit (regs 11)

    mask_at_is : regs 7 ≡ mask_at n at
    mask_at_is = fit.1.word.mask ∙ mask_is width (regs 10) (place width narrow regs w fit.1.word fit.0)

    sought_is : regs 11 % 2 ^ (8 * n) ≡ r.expected regs
    sought_is = ap (λ b. regs 11 % 2 ^ b) (sym (bits_are width))

    part_linked : field (8 * n) (8 * at) (linked number) ≡ r.part regs number
    part_linked = (let l = place width narrow regs w fit.1.word fit.0 in word_field (linked number) at n l.fits ∙ ap (field (8 * n) (8 * at)) (linked_low number few))

    -- the tag's test
    compares : (c : Processor) → Keeps (all_but 15 inside) c.regs regs → nat_eq (masked_by (Some 7) 4 c number) (masked_by (Some 7) 4 c (c.regs 28)) ≡ nat_eq (r.part regs number) (r.expected regs)
    compares c held =
        ap (λ m. nat_eq (bit_and number m) (bit_and (c.regs 28) m)) (held 7 refl ∙ mask_at_is)
        ∙ ap (λ e. nat_eq (bit_and number (mask_at n at)) (bit_and e (mask_at n at))) (held 28 refl ∙ expected_is)
        ∙ linked_test number (regs 11 % 2 ^ (8 * n)) n at (cut_below (regs 11))
        ∙ ap (nat_eq (field (8 * n) (8 * at) number)) sought_is

    mask_few : mask_at n at < 2 ^ 32
    mask_few =
        let l = place width narrow regs w fit.1.word fit.0 in
        let fits = l.fits in
        let e : 2 ^ (8 * n + 8 * at) ≡ 2 ^ (8 * n) * 2 ^ (8 * at) = pow-add 2 (8 * n) (8 * at) in
        let p : 2 ^ (8 * n + 8 * at) ≤ 2 ^ 32 = pow-le-pow_right {n = 2} (omega arith) {i = 8 * n + 8 * at} {j = 32} (omega (arith, fits)) in
        let s : 0 < 2 ^ (8 * at) = pow_pos (8 * at) in
        let t : 0 < 2 ^ (8 * n) = pow_pos (8 * n) in
        let u : 2 ^ (8 * n) ≡ 2 ^ (8 * n) - 1 + 1 = omega (arith, t) in
        let v : 2 ^ (8 * n) * 2 ^ (8 * at) ≡ (2 ^ (8 * n) - 1) * 2 ^ (8 * at) + 1 * 2 ^ (8 * at) = ap (λ y. y * 2 ^ (8 * at)) u ∙ Rattle.std.proofs.Math.Nat.add-mul (2 ^ (8 * n) - 1) 1 (2 ^ (8 * at)) in
        omega (arith, e, p, s, v)

    -- the code's test
    tests : (c : Processor) → Holds regs number c → nat_eq ((ran comparison c).regs 29) 0 ≡ nat_eq (r.part regs number) (r.expected regs)
    tests c h =
        let x = bit_and (bit_xor (linked number) (regs 11 % 2 ^ (8 * n) * 2 ^ (8 * at))) (mask_at n at) in
        let is : (ran comparison c).regs 29 ≡ extended 4 Signs 0 (x % 2 ^ 32) =
        ap (λ y. extended 4 Signs 0 (bit_and (bit_xor y (c.regs 28)) (c.regs 7) % 2 ^ 32)) h.old ∙ ap (λ y. extended 4 Signs 0 (bit_and (bit_xor (linked number) y) (c.regs 7) % 2 ^ 32)) (h.held 28 refl ∙ expected_is)
        ∙ ap (λ y. extended 4 Signs 0 (bit_and (bit_xor (linked number) (regs 11 % 2 ^ (8 * n) * 2 ^ (8 * at))) y % 2 ^ 32)) (h.held 7 refl ∙ mask_at_is) in
        let below = and_le_r (bit_xor (linked number) (regs 11 % 2 ^ (8 * n) * 2 ^ (8 * at))) (mask_at n at) in
        let m = mask_few in
        let small : x < 2 ^ 32 = omega (arith, below, m) in
        ap (λ y. nat_eq y 0) is ∙ extended_none (x % 2 ^ 32) ∙ ap (λ y. nat_eq y 0) (mod-eq_of_lt small) ∙ masked_test (linked number) (regs 11 % 2 ^ (8 * n)) n at (cut_below (regs 11))
        ∙ ap (λ y. nat_eq y (regs 11 % 2 ^ (8 * n))) part_linked ∙ ap (nat_eq (r.part regs number)) sought_is

    -- ---- the answer
    part_few : r.part regs number < 2 ^ 64
    part_few =
        let l = place width narrow regs w fit.1.word fit.0 in
        let fits = l.fits in
        let h : r.part regs number < 2 ^ (8 * n) = mod_below _ (2 ^ (8 * n)) (pow_pos (8 * n)) in
        let p : 2 ^ (8 * n) ≤ 2 ^ 64 = pow-le-pow_right {n = 2} (omega arith) {i = 8 * n} {j = 64} (omega (arith, fits)) in
        omega (arith, h, p)

    answers : (stored : Bool) (c : Processor) → Holds regs number c → one_if (nat_eq (c.regs 29) 0) ≡ number_of_flag stored → Keeps inside (ran (Unary unary.IsZero 16 29 ∷ take_out width) c).regs (r.gives regs (r.part regs number) stored)
    answers stored c h flag q k = by_16 (cases_eq q 16)
      where
        d : ℕ → ℕ
        d = (ran (Unary unary.IsZero 16 29 ∷ take_out width) c).regs

        want : ℕ → ℕ
        want = r.gives regs (r.part regs number) stored

        taken : d 15 ≡ r.part regs number % 2 ^ 64
        taken =
            ap (λ y. shifted_right (shifted_left y (c.regs 6 % 64)) (above width % 64)) h.old ∙ ap (λ u. shifted_right (shifted_left (linked number) (u % 64)) (above width % 64)) (h.held 6 refl ∙ fit.1.word.up)
            ∙ taken_is width (regs 10) (place width narrow regs w fit.1.word fit.0) (linked number) ∙ part_linked ∙ sym (mod-eq_of_lt part_few)

        by_15 : q ≢ 16 → (q ≡ 15) ⊎ (q ≢ 15) → d q ≡ want q
        by_15 other (inl same) = ap d same ∙ taken ∙ sym (ap want same)
        by_15 other (inr ne) =
            others_ran answered (Unary unary.IsZero 16 29 ∷ take_out width) c refl q (ap (λ t. not (not t && not (nat_eq q 16))) (ne_eqb q 15 ne) ∙ ap (λ t. not (not t)) (ne_eqb q 16 other))
            ∙ h.held q (is_held inside 15 q k ne) ∙ sym (at_other (at_place regs 15 (r.part regs number % 2 ^ 64)) 16 (number_of_flag stored) q other ∙ at_other regs 15 (r.part regs number % 2 ^ 64) q ne)

        by_16 : (q ≡ 16) ⊎ (q ≢ 16) → d q ≡ want q
        by_16 (inl same) = ap d same ∙ flag ∙ sym (ap want same)
        by_16 (inr other) = by_15 other (cases_eq q 15)

  -- ---- places
  abbrev code_size : Bool → ℕ
  code_size weak = exchange_size (z weak)

  -- a branch forward
  ahead : (at start from by : ℕ) → at ≡ start + from → at + by < 2 ^ 32 → displaced at (pos by) ≡ start + (from + by)
  ahead at start from by e small = omega (arith, e, small)

  behind : (at start : ℕ) → at ≡ start + 9 → at < 2 ^ 32 → displaced at (negsuc 8) ≡ start
  behind at start e small = omega (arith, e, small)

  abbrev branch_if : Bool → Processor → ℤ → Effect
  branch_if t c d = if t then effect.Jump (displaced c.place d) else effect.Nop

  abbrev Over : Bool → ℕ → (ℕ → ℕ) → Processor → Type 0
  Over weak start after c = IsThrough rv_kind inside (o weak) r (z weak) start after c

  module _ (start : ℕ) (regs : ℕ → ℕ) (w : Shared) (number : ℕ) (fit : in_word.fits regs w) (few : number < 2 ^ 32) where
    abbrev Answered : Bool → Bool → ℕ → Processor → Type 0
    Answered weak stored steps c = Way (laid weak start) (λ b. Over weak start (r.gives regs (r.part regs number) stored) b) steps c

    -- from where the answer is made
    finish : (weak stored : Bool) (c : Processor) → c.place ≡ start + (if weak then 9 else 10) → Holds regs number c → one_if (nat_eq (c.regs 29) 0) ≡ number_of_flag stored → Answered weak stored 3 c
    finish true stored c at h flag =
        way_ran answered (exchange_code (z true)) start (λ b. Over true start (r.gives regs (r.part regs number) stored) b) (Unary unary.IsZero 16 29 ∷ take_out width) 9 0 c refl (refl, (refl, (refl, tt))) at
        (record { place = place_ran answered (Unary unary.IsZero 16 29 ∷ take_out width) c refl ∙ (let e : c.place + 3 ≡ start + 12 = omega (arith, at) in e); gives = answers regs w number fit few stored c h flag })
    finish false stored c at h flag =
        way_ran answered (exchange_code (z false)) start (λ b. Over false start (r.gives regs (r.part regs number) stored) b) (Unary unary.IsZero 16 29 ∷ take_out width) 10 0 c refl (refl, (refl, (refl, tt))) at
        (record { place = place_ran answered (Unary unary.IsZero 16 29 ∷ take_out width) c refl ∙ (let e : c.place + 3 ≡ start + 13 = omega (arith, at) in e); gives = answers regs w number fit few stored c h flag })

    -- the comparison, and then more
    compared : (weak : Bool) (Then : Processor → Type 0) (more : ℕ) (c : Processor) → c.place ≡ start + 1 → Way (laid weak start) Then more (ran comparison c) → Way (laid weak start) Then (suc (suc (suc more))) c
    compared true Then more c at next = way_ran scratch (exchange_code (z true)) start Then comparison 1 more c refl (refl, (refl, (refl, tt))) at next
    compared false Then more c at next = way_ran scratch (exchange_code (z false)) start Then comparison 1 more c refl (refl, (refl, (refl, tt))) at next

    compared_at : (c : Processor) → c.place ≡ start + 1 → (ran comparison c).place ≡ start + 4
    compared_at c at = place_ran scratch comparison c refl ∙ (let e : c.place + 3 ≡ start + 4 = omega (arith, at) in e)

    -- where the objects differ
    leaves_for : (weak : Bool) (c : Processor) → c.place ≡ start + 1 → start + code_size weak < 2 ^ 32 → Holds regs number c → r.part regs number ≢ r.expected regs → Answered weak false 7 c
    leaves_for weak c at room h ne =
        let b : Processor = ran comparison c in
        let test : nat_eq (b.regs 29) 0 ≡ false = tests regs w number fit few c h ∙ ne_eqb _ _ ne in
        compared weak _ 4 c at (by weak b (compared_at c at) room (holds_ran regs number comparison c refl h) test)
      where
        by : (weak : Bool) (b : Processor) → b.place ≡ start + 4 → start + code_size weak < 2 ^ 32 → Holds regs number b → nat_eq (b.regs 29) 0 ≡ false → Answered weak false 4 b
        by true b at room h test =
            record {
              offset = 4;
              instr = Branch condition.NotEqual 29 0 (pos 5);
              after = go_to (start + 9) b;
              place = at;
              stands = refl;
              leaves = inr (start + 9, inl (ap (λ t. branch_if (not t) b (pos 5)) test ∙ ap effect.Jump (ahead b.place start 4 5 at (let e : start + 12 < 2 ^ 32 = room in let g : b.place + 5 < 2 ^ 32 = omega (arith, at, e) in g))), refl);
              next = finish true false (go_to (start + 9) b) refl (holds_go regs number (start + 9) b h) (ap one_if test);
            }
        by false b at room h test =
            record {
              offset = 4;
              instr = Branch condition.NotEqual 29 0 (pos 6);
              after = go_to (start + 10) b;
              place = at;
              stands = refl;
              leaves = inr (start + 10, inl (ap (λ t. branch_if (not t) b (pos 6)) test ∙ ap effect.Jump (ahead b.place start 4 6 at (let e : start + 13 < 2 ^ 32 = room in let g : b.place + 6 < 2 ^ 32 = omega (arith, at, e) in g))), refl);
              next = finish false false (go_to (start + 10) b) refl (holds_go regs number (start + 10) b h) (ap one_if test);
            }

    -- where they are equal: on to the pair store
    abbrev passed : Processor → Processor
    passed c = ran (merge 30) (go_to ((ran comparison c).place + 1) (ran comparison c))

    passed_holds : (c : Processor) → Holds regs number c → Holds regs number (passed c)
    passed_holds c h = holds_ran regs number (merge 30) (go_to ((ran comparison c).place + 1) (ran comparison c)) refl (holds_go regs number ((ran comparison c).place + 1) (ran comparison c) (holds_ran regs number comparison c refl h))

    passed_at : (c : Processor) → c.place ≡ start + 1 → (passed c).place ≡ start + 8
    passed_at c at = place_ran scratch (merge 30) (go_to ((ran comparison c).place + 1) (ran comparison c)) refl ∙ (let e = compared_at c at in let f : (ran comparison c).place + 1 + 3 ≡ start + 8 = omega (arith, e) in f)

    reaches : (weak : Bool) (Then : Processor → Type 0) (c : Processor) → c.place ≡ start + 1 → Holds regs number c → r.part regs number ≡ r.expected regs → Then (passed c) → Way (laid weak start) Then 7 c
    reaches weak Then c at h same next =
        let b : Processor = ran comparison c in
        let test : nat_eq (b.regs 29) 0 ≡ true = tests regs w number fit few c h ∙ eq-eqb _ _ same in
        compared weak Then 4 c at (by weak b (compared_at c at) test next)
      where
        by : (weak : Bool) (b : Processor) → b.place ≡ start + 4 → nat_eq (b.regs 29) 0 ≡ true → Then (ran (merge 30) (go_to (b.place + 1) b)) → Way (laid weak start) Then 4 b
        by true b at test next =
            record {
              offset = 4;
              instr = Branch condition.NotEqual 29 0 (pos 5);
              after = go_to (b.place + 1) b;
              place = at;
              stands = refl;
              leaves = inr (b.place + 1, inr (ap (λ t. branch_if (not t) b (pos 5)) test, refl), refl);
              next = way_ran scratch (exchange_code (z true)) start Then (merge 30) 5 0 (go_to (b.place + 1) b) refl (refl, (refl, (refl, tt))) (let e : b.place + 1 ≡ start + 5 = omega (arith, at) in e) next;
            }
        by false b at test next =
            record {
              offset = 4;
              instr = Branch condition.NotEqual 29 0 (pos 6);
              after = go_to (b.place + 1) b;
              place = at;
              stands = refl;
              leaves = inr (b.place + 1, inr (ap (λ t. branch_if (not t) b (pos 6)) test, refl), refl);
              next = way_ran scratch (exchange_code (z false)) start Then (merge 30) 5 0 (go_to (b.place + 1) b) refl (refl, (refl, (refl, tt))) (let e : b.place + 1 ≡ start + 5 = omega (arith, at) in e) next;
            }

    -- ---- the pair store
    stores : (c : Processor) → Holds regs number c → effect_of (store order 29) (passed c) ≡ effect.PairStore 29 (regs 5) 4 (r.leaves regs number)
    stores c h =
        let b : Processor = go_to ((ran comparison c).place + 1) (ran comparison c) in
        let g = holds_go regs number ((ran comparison c).place + 1) (ran comparison c) (holds_ran regs number comparison c refl h) in
        ap (λ a. effect.PairStore 29 a 4 ((passed c).regs 29)) ((passed_holds c h).held 5 refl)
        ∙ ap (λ y. effect.PairStore 29 (regs 5) 4 (merged y (b.regs 30) (b.regs 7))) g.old ∙ ap (λ y. effect.PairStore 29 (regs 5) 4 (merged (linked number) y (b.regs 7))) (g.held 30 refl)
        ∙ ap (λ y. effect.PairStore 29 (regs 5) 4 (merged (linked number) (regs 30) y)) (g.held 7 refl)

    at_pair : (weak : Bool) (c : Processor) → c.place ≡ start + 1 → start + code_size weak < 2 ^ 32 → Holds regs number c → r.part regs number ≡ r.expected regs → AtPair rv_kind inside (o weak) r (z weak) start regs number (passed c)
    at_pair true c at room h same =
        let b : Processor = passed c in
        let g = passed_holds c h in
        let here = passed_at c at in
        let there : b.place + 1 ≡ start + 9 = omega (arith, here) in
        let E : ℕ → Bool → Processor → Type 0 = λ m stored d. Way (laid true start) (λ e. Over true start (r.gives regs m stored) e) 3 d in
        record {
          place = here;
          stores = λ v fit. stores c h;
          done = record { steps = 3; few = omega arith; way = subst (λ m. E m true (go_with 29 0 b)) same (finish true true (go_with 29 0 b) there (holds_flag regs number 0 b g) (ap (λ y. one_if (nat_eq y 0)) (at_same b.regs 29 0))) };
          fails = record { steps = 3; few = omega arith; way = subst (λ m. E m false (go_with 29 1 b)) same (finish true false (go_with 29 1 b) there (holds_flag regs number 1 b g) (ap (λ y. one_if (nat_eq y 0)) (at_same b.regs 29 1))) };
        }
    at_pair false c at room h same =
        let b : Processor = passed c in
        let g = passed_holds c h in
        let here = passed_at c at in
        let d : Processor = go_with 29 0 b in
        let there : d.place ≡ start + 9 = (let e : b.place + 1 ≡ start + 9 = omega (arith, here) in e) in
        let small : d.place < 2 ^ 32 = (let e : start + 13 < 2 ^ 32 = room in let f : b.place + 1 < 2 ^ 32 = omega (arith, here, e) in f) in
        let E : ℕ → Processor → Type 0 = λ m y. Way (laid false start) (λ e. Over false start (r.gives regs m true) e) 4 y in
        record {
          place = here;
          stores = λ v fit. stores c h;
          done = record {
            steps = 4;
            few = omega arith;
            way = subst (λ m. E m d) same
                (record {
                  offset = 9;
                  instr = again 29 8;
                  after = go_to (d.place + 1) d;
                  place = there;
                  stands = refl;
                  leaves = inr (d.place + 1, inr (ap (λ y. branch_if (not (nat_eq y 0)) d (negsuc 8)) (at_same b.regs 29 0), refl), refl);
                  next = finish false true (go_to (d.place + 1) d) (let e : d.place + 1 ≡ start + 10 = omega (arith, there) in e) (holds_go regs number (d.place + 1) d (holds_flag regs number 0 b g)) (ap (λ y. one_if (nat_eq y 0)) (at_same b.regs 29 0));
                });
          };
          fails = record {
            steps = 1;
            few = omega arith;
            way = record {
              offset = 9;
              instr = again 29 8;
              after = go_to start (go_with 29 1 b);
              place = there;
              stands = refl;
              leaves = inr (start, inl (ap (λ y. branch_if (not (nat_eq y 0)) (go_with 29 1 b) (negsuc 8)) (at_same b.regs 29 1) ∙ ap effect.Jump (behind d.place start there small)), refl);
              next = record { place = refl; holds = (holds_flag regs number 1 b g).held };
            };
          };
        }

  linked_holds : (weak : Bool) (start : ℕ) (c : Processor) (regs : ℕ → ℕ) (number : ℕ) → HasLinked rv_kind inside (o weak) r (z weak) start regs number c → Holds regs number c
  linked_holds weak start c regs number q = record { held = q.holds; old = q.old }

  short_way : (weak : Bool) → 7 + back_of weak + 1 ≤ 9
  short_way true = omega arith
  short_way false = omega arith

  exchanges : (weak : Bool) → Exchanges rv_kind inside (o weak) r (z weak) bytes_world
  exchanges weak =
      record {
        exchange = is_exchange zabha zacas order weak width (narrow_is width narrow) in_word holds_object;
        unbuffered = refl;
        few = (let e = short_way weak in omega (arith, e));
        kept = λ q e. (let a = kept q e in (a.0, a.1));
        fills = λ before number. refl;
        compares = λ c regs number w fit held small. compares regs w number fit small c held;
        links = λ c regs w fit held. ap (λ a. effect.Link 15 a 4 Signs) (held 5 refl);
        differs = λ start c regs number w fit q ne. record { steps = 7; few = omega arith; way = leaves_for start regs w number fit q.small weak c q.place q.room (linked_holds weak start c regs number q) ne };
        equals = λ start c regs number w fit q same. record {
          forth = 7;
          few = short_way weak;
          leads = record { steps = 7; few = omega arith; way = reaches start regs w number fit q.small weak (λ b. AtPair rv_kind inside (o weak) r (z weak) start regs number b) c q.place (linked_holds weak start c regs number q) same (at_pair start regs w number fit q.small weak c q.place q.room (linked_holds weak start c regs number q) same) };
        };
      }

-- by the law of such code
abbrev pub Exchanged : Operation Shared → Type 0
Exchanged o =
    (keeps : ℕ → Bool) (r : Exchange Shared) (code : PairExchange RvInstr) → Lawful bytes_world → Exchanges rv_kind keeps o r code bytes_world → Expands rv_kind bytes_world code.most keeps (exchange_size code) (λ start. exchange_code code) o

-- what results leave of registers that are kept
put_keeps : (keeps : ℕ → Bool) (rs ns : List ℕ) (f g : ℕ → ℕ) → Keeps keeps f g → Keeps keeps (put_regs rs ns f) (put_regs rs ns g)
put_keeps keeps [] ns f g h = h
put_keeps keeps (q ∷ rs) [] f g h = h
put_keeps keeps (q ∷ rs) (m ∷ ns) f g h = put_keeps keeps rs ns (at_place f q m) (at_place g q m) (λ p k. ap (λ y. if nat_eq p q then m else y) (h p k))

module _ (zabha zacas : Bool) (order : Order) (weak : Bool) (width : Width) (narrow : is_narrow width ≡ true) where
  abbrev x : CompareExchange
  x = of zabha zacas order width narrow weak

  abbrev outer : Operation Shared
  outer = specs.exchanging x

  abbrev inner : Operation Shared
  inner = word_exchanging x

  abbrev Ties : Bool → (ℕ → ℕ) → (ℕ → ℕ) → Type 0
  Ties = (exchange_around x).Ties

  abbrev whole : Around RvInstr
  whole = exchange_around x

  brings : (y : Private) → Comes rv_kind (exchange_setup width) y (λ got. (regs : ℕ → ℕ) → Keeps is_kept y.cpu.regs regs → Ties false regs got)
  brings y = (let a = exchange_prepares width y in record { private = a.private; goes = a.goes; frame = a.frame; regs = λ regs held. (λ q k. a.regs.0 q k ∙ held q k, a.regs.1) })

  kept_inside : (q : ℕ) → is_kept q ≡ true → inside q ≡ true
  kept_inside q k = ap not (ne_eqb q 29 (λ same. false≢true (sym (ap is_kept same) ∙ k)))

  puts : (y : Private) (regs got : ℕ → ℕ) → Ties true regs got → Keeps inside y.cpu.regs got → Comes rv_kind [] y (λ left. Keeps is_kept left regs)
  puts y regs got tied held = record { private = y; goes = refl; frame = refl; regs = λ q k. held q (kept_inside q k) ∙ tied q k }

  fits : (regs got : ℕ → ℕ) (w : Shared) → Ties false regs got → outer.fits regs w → inner.fits got w
  fits regs got w tied fit = (subst (λ a. IsObject a (bytes_of width) w) (sym (tied.0 10 refl)) fit, tied.1)

  abbrev doing : Given → ℕ → (ℕ → ℕ) → Option ℕ → Shared → Option (Result Shared)
  doing g p regs seen w = (atomic_doing (Rv zabha zacas) op.Cmpxchg width order weak).happens g p (regs 10) (regs 11 ∷ regs 12 ∷ []) seen w

  same_doing : (g : Given) (p : ℕ) (regs got : ℕ → ℕ) (seen : Option ℕ) (w : Shared) → Keeps is_kept got regs → doing g p got seen w ≡ doing g p regs seen w
  same_doing g p regs got seen w held =
      let act = (atomic_doing (Rv zabha zacas) op.Cmpxchg width order weak).happens g p in
      ap (λ a. act a (got 11 ∷ got 12 ∷ []) seen w) (held 10 refl) ∙ ap (λ v. act (regs 10) (v ∷ got 12 ∷ []) seen w) (held 11 refl) ∙ ap (λ v. act (regs 10) (regs 11 ∷ v ∷ []) seen w) (held 12 refl)

  over : (regs got : ℕ → ℕ) (r : Option (Result Shared)) → Keeps is_kept got regs → Agree (Ties true) (deed_of (15 ∷ 16 ∷ []) regs r) (deed_of (15 ∷ 16 ∷ []) got r)
  over regs got None held = tt
  over regs got (Some r) held = record { seen = refl; world = refl; output = refl; excused = refl; regs = put_keeps is_kept (15 ∷ 16 ∷ []) r.results got regs held }

  looking : (regs got : ℕ → ℕ) (r : Result Shared) (b : Bool) → r.results ≡ [] → Ties false regs got → Agree (Ties false) (deed_of (15 ∷ 16 ∷ []) regs (if b then Some r else None)) (deed_of (15 ∷ 16 ∷ []) got (if b then Some r else None))
  looking regs got r false none tied = tt
  looking regs got r true none tied =
      record {
        seen = refl;
        world = refl;
        output = refl;
        excused = refl;
        regs = subst (λ ns. Ties false (put_regs (15 ∷ 16 ∷ []) ns regs) (put_regs (15 ∷ 16 ∷ []) ns got)) (sym none) tied;
      }

  happens : (g : Given) (p : ℕ) (regs got : ℕ → ℕ) (seen : Option ℕ) (w : Shared) → g ≢ Nothing → Ties false regs got → outer.fits regs w → Agree (Ties (done_after g false)) (outer.happens g p regs seen w) (inner.happens g p got seen w)
  happens Nothing p regs got seen w ne tied fit = absurd (ne refl)
  happens An_act p regs got seen w ne tied fit = subst (λ d. Agree (Ties true) (outer.happens An_act p regs seen w) (deed_of (15 ∷ 16 ∷ []) got d)) (sym (same_doing An_act p regs got seen w tied.0)) (over regs got (doing An_act p regs seen w) tied.0)
  happens A_miss p regs got seen w ne tied fit = subst (λ d. Agree (Ties true) (outer.happens A_miss p regs seen w) (deed_of (15 ∷ 16 ∷ []) got d)) (sym (same_doing A_miss p regs got seen w tied.0)) (over regs got (doing A_miss p regs seen w) tied.0)
  happens A_look p regs got seen w ne tied fit =
      subst (λ d. Agree (Ties false) (outer.happens A_look p regs seen w) (deed_of (15 ∷ 16 ∷ []) got d)) (sym (same_doing A_look p regs got seen w tied.0)) (looking regs got (Rattle.ax_fine.specs.OnBytes.looks (Rv zabha zacas) op.Cmpxchg width order (regs 10) w) (weak && true) refl tied)

  is_around : Exchanged inner → IsAround whole
  is_around law =
      record {
        expands = law inside (r zabha zacas order width narrow) (z zabha zacas order width narrow weak) bytes_lawful (exchanges zabha zacas order width narrow weak);
        brings = brings;
        puts = puts;
        fits = fits;
        happens = happens;
      }

  code_is : (start : ℕ) → code whole start ≡ codes.exchange_code width order weak
  code_is start = ap (λ is. silently (exchange_setup width) ++ is) (append-nil (exchange_loop width order weak))

  pub exchange_expands : Exchanged inner → ((x : Standing RvInstr) → WrappedFollows (wrapping_at whole x))
      → (let e = masked_expansion op.Cmpxchg width order weak in Expands rv_kind bytes_world e.most is_kept e.size e.piece outer)
  exchange_expands exchanged wrapped =
      let expands = idles_more rv_kind (idle whole) 24 is_kept (size whole) (code whole) outer (omega arith) (around_expands whole (is_around exchanged) wrapped) in
      let long : size whole ≡ length (codes.exchange_code width order weak) = sym (expands.length_is 0) ∙ ap length (code_is 0) in
      subst (λ m. Expands rv_kind bytes_world 24 is_kept m (λ start. codes.exchange_code width order weak) outer) long
      (subst (λ c. Expands rv_kind bytes_world 24 is_kept (size whole) c outer) (λ d start. code_is start d) expands)
