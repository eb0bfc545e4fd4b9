-- LOOPS OVER THE WORD THAT HOLDS AN OBJECT OF 1 OR 2 BYTES fit into a draft: straight code finds the word, and from its linked load on each leads to a pair store that stores or fails for a cause. A compare-exchange's linked load gives an Act where it finds another object, whatever the mask is.
use Rattle.std.proofs.Common.{◌≡◌, ℕ, zero, suc, ◌+◌, ◌/◌, ◌%◌, ◌^◌, ◌<◌, ◌≤◌, Bool, true, false, List, [], ◌∷◌, ◌++◌, inl, inr, length, Some, refl, sym, ap, ◌∙◌, subst, arith, append_assoc, length-append}
use Rattle.std.specs.Prelude.{◌⊎◌, if◌then◌else◌, not, nat_eq, pos, bit_and, bit_xor}
use Rattle.std.proofs.Math.Nat.{mod-eq_of_lt}
use Rattle.std.proofs.lemmas.Bool.{and_parts, eq-eqb, false≢true}
use Rattle.std.proofs.lemmas.List.{append-nil}
use Rattle.std.proofs.lemmas.Nat.{and_mod, xor_mod}
use Rattle.std.proofs.lemmas.Nat.Bits.{bit_at-zero, bit_at_and, bit_at_xor, same_from_bits}
use Rattle.ax_words.specs.declared.operation.RmwOp.{RmwOp}
use Rattle.ax_words.specs.declared.operation.RmwOp.TheVariants as rmw
use Rattle.ax_words.specs.declared.order.Order.{Order}
use Rattle.ax_words.specs.declared.width.Width.{Width}
use Rattle.ax_store.specs.Bytes.{number_at}
use Rattle.ax_store.proofs.Numbers.{number_small}
use Rattle.ax_tags.specs.declared.tags.Role.{Role}
use Rattle.ax_tags.specs.declared.tags.Role.TheVariants.{None as Outside}
use Rattle.ax_tags.specs.declared.tags.Tag.{Tag}
use Rattle.ax_tags.specs.declared.tags.Tag.TheVariants.{Linked, Silent, Stored}
use Rattle.ax_isa.specs.declared.effects.Effect.TheVariants as effect
use Rattle.ax_isa.specs.declared.effects.Rest.TheVariants.{Signs}
use Rattle.ax_isa.specs.Numbers.{displaced}
use Rattle.ax_isa.specs.Past.{Noted, link as linked_load}
use Rattle.ax_isa.specs.Processor.{Processor}
use Rattle.ax_isa.specs.Steps.{extended, go_on, go_with, loaded}
use Rattle.ax_isa.specs.Tells.{An_act, given_in, given_of, look_if}
use Rattle.ax_follow.specs.Bounds.{AreBytes}
use Rattle.ax_rv.specs.declared.instructions.Condition.TheVariants as condition
use Rattle.ax_rv.specs.declared.instructions.RvInstr.{RvInstr}
use Rattle.ax_rv.specs.declared.instructions.RvInstr.TheVariants.{Binary, Branch, Immediate, Li, Shift, Unary}
use Rattle.ax_rv.specs.declared.instructions.Size.TheVariants.{Word}
use Rattle.ax_rv.specs.declared.instructions.Unary.TheVariants as unary
use Rattle.ax_rv.specs.Arithmetic.{holds}
use Rattle.ax_rv.specs.Instructions.{effect_of}
use Rattle.ax_loops.specs.PairExchange.{pair_mark}
use Rattle.ax_expand.specs.Standing.{silently}
use Rattle.ax_emit.specs.Images.{Drafted, drafted}
use Rattle.ax_emit_rv.specs.Laws.{every}
use Rattle.ax_mask.specs.Codes.{again, comparison, compares, computation, different, exchange_answer, exchange_code, exchange_loop, exchange_setup, find_word, link, merge, placed_if, store, take_out, to_top, update_code, update_loop, update_setup}
use Rattle.ax_mask.proofs.Straight.{all_set, others_ran, ran, sets, with_set}
use Rattle.ax_mask.proofs.Words.{linked_low}
use Rattle.ax_idle_rv.proofs.Codes.{Short, Straights, none_short, silently_code, silently_length, wrapped}
use Rattle.ax_idle_rv.proofs.Fits.{Agrees, Fits, LineCoded, coded_less, drafted_both}
use Rattle.ax_idle_rv.proofs.Loops.{equal, first, marked_pair, second}
use Rattle.ax_idle_rv.proofs.Poised.{Poised, PoisedBy, Tracked, is_pair, linked_tracks}
use Rattle.ax_idle_rv.proofs.Ranks.{Fine, Links, is_straight, linked_rank, most_rank, pair_rank, piece_rank, rank_of}

-- ---- code that sets registers
-- so many instructions at most, each of which sets one of these registers
record Sets (which : ℕ → Bool) (n : ℕ) (is : List RvInstr) : Type 0 where
  all : all_set which is ≡ true
  few : length is ≤ n

module _ (which : ℕ → Bool) where
  sets_straight : (i : RvInstr) → sets which i ≡ true → is_straight i ≡ true
  sets_straight (Li rd k) h = refl
  sets_straight (Unary op rd rs) h = refl
  sets_straight (Binary op rd a b) h = refl
  sets_straight (Shift op rd rs k) h = refl
  sets_straight (Immediate op rd rs k) h = refl
  sets_straight _ h = absurd (false≢true h)

  sets_short : (n : ℕ) (is : List RvInstr) → Sets which n is → Short n is
  sets_short n is h = record { all = each is h.all; few = h.few }
    where
      each : (is : List RvInstr) → all_set which is ≡ true → Straights is
      each [] h = tt
      each (i ∷ is) h = let both = and_parts (sets which i) (all_set which is) h in (sets_straight i both.0, each is both.1)

  poised_set : (i : RvInstr) (Rest : Processor → Type 0) (p : ℕ) (c : Processor) (n : Noted) → sets which i ≡ true → Rest (with_set (effect_of i c) c) → PoisedBy (effect_of i c) Silent Rest p c n
  poised_set (Li rd k) Rest p c n h rest = rest
  poised_set (Unary op rd rs) Rest p c n h rest = rest
  poised_set (Binary op rd a b) Rest p c n h rest = rest
  poised_set (Shift op rd rs k) Rest p c n h rest = rest
  poised_set (Immediate op rd rs k) Rest p c n h rest = rest
  poised_set _ Rest p c n h rest = absurd (false≢true h)

  -- it leads to the pair store behind it
  poised_store : (is : List RvInstr) (r m : ℕ) (order : Order) (t : Tag) (more : List (RvInstr × Tag)) (ds : List (Drafted RvInstr)) (p : ℕ) (c : Processor) (n : Noted) → is_pair t ≡ true → Sets which r is → Tracked p ((ran is c).regs 5) 4 n
      → Poised (suc r) (drafted false m (silently is ++ (store order 29, t) ∷ more) ++ ds) p c n
  poised_store [] r m order t more ds p c n pair h tracked = (pair, tracked)
  poised_store (i ∷ is) zero m order t more ds p c n pair h tracked = let few = h.few in absurd (omega (arith, few))
  poised_store (i ∷ is) (suc r) m order t more ds p c n pair h tracked =
      let both = and_parts (sets which i) (all_set which is) h.all in
      let few = h.few in
      poised_set i (λ a. Poised (suc r) (drafted false m (silently is ++ (store order 29, t) ∷ more) ++ ds) p a n) p c n both.0
      (poised_store is r m order t more ds p (with_set (effect_of i c) c) n pair (record { all = both.1; few = omega (arith, few) }) tracked)

-- all but the register of the word's address
abbrev is_other : ℕ → Bool
is_other r = not (nat_eq r 5)

-- between a linked load and its pair store such code leaves the word that was linked
poised_pair : (is : List RvInstr) (r m : ℕ) (order : Order) (t : Tag) (more : List (RvInstr × Tag)) (ds : List (Drafted RvInstr)) (p : ℕ) (c : Processor) (n : Noted) → is_pair t ≡ true → Sets is_other r is → Tracked p (c.regs 5) 4 n
    → Poised (suc r) (drafted false m (silently is ++ (store order 29, t) ∷ more) ++ ds) p c n
poised_pair is r m order t more ds p c n pair h tracked = poised_store is_other is r m order t more ds p c n pair h (subst (λ (a : ℕ). Tracked p a 4 n) (sym (others_ran is_other is c h.all 5 refl)) tracked)

-- ---- read-modify-writes
computation_sets : (o : RmwOp) → Sets is_other 8 (computation o)
computation_sets rmw.Xchg = record { all = refl; few = omega arith }
computation_sets rmw.Add = record { all = refl; few = omega arith }
computation_sets rmw.Sub = record { all = refl; few = omega arith }
computation_sets rmw.And = record { all = refl; few = omega arith }
computation_sets rmw.Nand = record { all = refl; few = omega arith }
computation_sets rmw.Or = record { all = refl; few = omega arith }
computation_sets rmw.Xor = record { all = refl; few = omega arith }
computation_sets rmw.Max = record { all = refl; few = omega arith }
computation_sets rmw.Min = record { all = refl; few = omega arith }
computation_sets rmw.UMax = record { all = refl; few = omega arith }
computation_sets rmw.UMin = record { all = refl; few = omega arith }

module _ (order : Order) (is : List RvInstr) (h : Sets is_other 8 is) where
  abbrev ending : List (RvInstr × Tag)
  ending = (store order 29, Stored) ∷ (again 29 (length is + 1), Silent) ∷ []

  abbrev loop : List (RvInstr × Tag)
  loop = (link order, Silent) ∷ (silently is ++ ending)

  links : (m : ℕ) (ds : List (Drafted RvInstr)) → Links Silent Word 15 5 (drafted false m (silently is ++ ending) ++ ds)
  links m ds p c n bytes outside =
      let after : Processor = go_with 15 (extended 4 Signs (c.regs 15) (number_at n.storage.mem (c.regs 5) 4)) c in
      inr (poised_pair is 8 m order Stored ((again 29 (length is + 1), Silent) ∷ []) ds p after (linked_load p (c.regs 5) 4 n) refl h (linked_tracks p (c.regs 5) 4 n))

  loop_fits : Fits false 20 loop
  loop_fits =
      record {
        low = λ m ds. omega arith;
        fine = λ target rank at m ds agrees next room.
            (let body = silently_code false 8 is (sets_short is_other 8 is h) in
            let end : List (Drafted RvInstr) = drafted false m ending ++ ds in
            let both = drafted_both false m (silently is) ending ds in
            let own : List (Drafted RvInstr) = drafted false m (silently is ++ ending) ++ ds in
            let head : rank at ≡ linked_rank = first rank at _ own agrees in
            let later : Agrees rank (at + 1) (drafted false m (silently is) ++ end) = subst (Agrees rank (at + 1)) both (second rank at _ own agrees) in
            let long = silently_length is in
            let sum = length-append (silently is) ending in
            let past : at + length loop ≡ at + 1 + length (silently is) + 1 + 1 = omega (arith, sum) in
            let last : Fine target rank (at + 1 + length (silently is)) end = (
              omega (arith, room),
              refl,
              refl,
              (omega (arith, room), refl, record { to = at; is = omega (arith, long); linked = omega (arith, head) }, subst (λ (q : ℕ). Fine target rank q ds) past next),
            ) in
            (omega arith, refl, links m ds, subst (Fine target rank (at + 1)) (sym both) (body.fine target rank (at + 1) m end later last (omega (arith, room)))));
      }

  loop_coded : LineCoded false 20 loop
  loop_coded = record { fits = loop_fits; acts = λ loud m ds. omega arith }

setup_short : (o : RmwOp) (w : Width) → Short 9 (update_setup o w)
setup_short o w = sets_short every 9 (update_setup o w) (by (compares o))
  where
    by : (b : Bool) → Sets every 9 (find_word w ++ to_top w 28 11 ++ placed_if b)
    by true = record { all = refl; few = omega arith }
    by false = record { all = refl; few = omega arith }

out_short : (w : Width) → Short 2 (take_out w)
out_short w = sets_short every 2 (take_out w) (record { all = refl; few = omega arith })

pub masked_update_coded : (o : RmwOp) (w : Width) (order : Order) → LineCoded false piece_rank (update_code o w order)
masked_update_coded o w order =
    coded_less false (9 + 20 + 2) piece_rank (update_code o w order) (omega arith)
    (subst (LineCoded false (9 + 20 + 2)) (sym (append_assoc (silently (update_setup o w)) (update_loop o order) (silently (take_out w))))
    (wrapped false 9 20 2 (update_setup o w) (take_out w) (update_loop o order) (setup_short o w) (loop_coded order (computation o) (computation_sets o)) (out_short w)))

-- ---- compare-exchange
-- numbers that a mask makes equal differ in none of its bits
masked_same : (a b mask : ℕ) → bit_and a mask ≡ bit_and b mask → bit_and (bit_xor a b) mask ≡ 0
masked_same a b mask e =
    same_from_bits (bit_and (bit_xor a b) mask) 0
    (λ i.
    (let x = bit_at_and (bit_xor a b) mask i in
    let y = bit_at_xor a b i in
    let p = bit_at_and a mask i in
    let q = bit_at_and b mask i in
    let same = ap (λ (n : ℕ). n / 2 ^ i % 2) e in
    let none = bit_at-zero i in
    omega (arith, x, y, p, q, same, none)))

-- nor do those of the word's 32 bits
word_same : (linked number expected mask : ℕ) → number < 2 ^ 32 → linked % 2 ^ 32 ≡ number → bit_and number mask ≡ bit_and expected mask → bit_and (bit_xor linked expected) mask % 2 ^ 32 ≡ 0
word_same linked number expected mask small low e =
    let whole : number % 2 ^ 32 ≡ number = mod-eq_of_lt small in
    let cut : bit_and number (mask % 2 ^ 32) ≡ bit_and (expected % 2 ^ 32) (mask % 2 ^ 32) =
    ap (λ (q : ℕ). bit_and q (mask % 2 ^ 32)) (sym whole) ∙ (sym (and_mod number mask 32) ∙ (ap (λ (q : ℕ). q % 2 ^ 32) e ∙ and_mod expected mask 32)) in
    and_mod (bit_xor linked expected) mask 32
    ∙ (ap (λ (q : ℕ). bit_and q (mask % 2 ^ 32)) (xor_mod linked expected 32 ∙ ap (λ (q : ℕ). bit_xor q (expected % 2 ^ 32)) low) ∙ masked_same number (expected % 2 ^ 32) (mask % 2 ^ 32) cut)

merge_sets : Sets is_other 4 (merge 30)
merge_sets = record { all = refl; few = omega arith }

module _ (order : Order) where
  abbrev pair : Bool → RvInstr × Tag
  pair weak = (store order 29, pair_mark weak)

  abbrev turn : Bool → RvInstr × Tag
  turn weak = (Branch condition.NotEqual 29 0 (pos (different weak)), Silent)

  -- from the branch on
  abbrev turned : Width → Bool → List (RvInstr × Tag)
  turned w weak = turn weak ∷ (silently (merge 30) ++ pair weak ∷ silently (exchange_answer weak ++ take_out w))

  -- from the linked load on to the pair store
  abbrev between : Bool → List (RvInstr × Tag)
  between weak = silently comparison ++ (turn weak ∷ (silently (merge 30) ++ pair weak ∷ []))

  module _ (weak : Bool) (m : ℕ) (tail : List (Drafted RvInstr)) where
    module _ (p : ℕ) (c : Processor) (n : Noted) (bytes : AreBytes n.storage.mem) (outside : c.role ≡ Outside) where
      abbrev number : ℕ
      number = number_at n.storage.mem (c.regs 5) 4

      abbrev found : ℕ
      found = extended 4 Signs (c.regs 15) number

      abbrev after : Processor
      after = go_with 15 found c

      abbrev linked : Noted
      linked = linked_load p (c.regs 5) 4 n

      -- what register 29 holds at the branch
      abbrev differs : ℕ
      differs = extended 4 Signs 0 (bit_and (bit_xor found (c.regs 28)) (c.regs 7) % 2 ^ 32)

      abbrev there : Processor
      there = go_with 29 differs (go_with 29 (bit_and (bit_xor found (c.regs 28)) (c.regs 7)) (go_with 29 (bit_xor found (c.regs 28)) after))

      poised : bit_and number (c.regs 7) ≡ bit_and (c.regs 28) (c.regs 7) → Poised pair_rank (drafted false m (between weak) ++ tail) p after linked
      poised same =
          let none : differs ≡ 0 = ap (extended 4 Signs 0) (word_same found number (c.regs 28) (c.regs 7) (number_small n.storage.mem bytes (c.regs 5) 4) (linked_low number (number_small n.storage.mem bytes (c.regs 5) 4)) same) in
          let stays : holds condition.NotEqual differs 0 ≡ false = ap not (eq-eqb differs 0 none) in
          let merges : Poised 5 (drafted false m (silently (merge 30) ++ pair weak ∷ []) ++ tail) p (go_on there) linked =
          poised_pair (merge 30) 4 m order (pair_mark weak) [] tail p (go_on there) linked (marked_pair weak) merge_sets (linked_tracks p (c.regs 5) 4 n) in
          subst (λ (b : Bool). PoisedBy (if b then effect.Jump (displaced there.place (pos (different weak))) else effect.Nop) Silent (λ a. Poised 5 (drafted false m (silently (merge 30) ++ pair weak ∷ []) ++ tail) p a linked) p there linked) (sym stays) merges

      linked_goes : (given_of (Linked weak 28 (Some 7)) 4 c (loaded number) ≡ An_act) ⊎ Poised pair_rank (drafted false m (between weak) ++ tail) p after linked
      linked_goes = by (nat_eq (bit_and number (c.regs 7)) (bit_and (c.regs 28) (c.regs 7))) refl
        where
          by : (b : Bool) → nat_eq (bit_and number (c.regs 7)) (bit_and (c.regs 28) (c.regs 7)) ≡ b → (given_of (Linked weak 28 (Some 7)) 4 c (loaded number) ≡ An_act) ⊎ Poised pair_rank (drafted false m (between weak) ++ tail) p after linked
          by false is = inl (ap (λ (r : Role). given_in r (Linked weak 28 (Some 7)) 4 c (loaded number)) outside ∙ ap (λ (b : Bool). if b then look_if weak else An_act) is)
          by true is = inr (poised (equal (bit_and number (c.regs 7)) (bit_and (c.regs 28) (c.regs 7)) is))

    exchange_links : Links (Linked weak 28 (Some 7)) Word 15 5 (drafted false m (between weak) ++ tail)
    exchange_links = linked_goes

  turned_low : (w : Width) (weak : Bool) (m : ℕ) (ds : List (Drafted RvInstr)) → rank_of (drafted false m (turned w weak) ++ ds) ≤ 19 + rank_of ds
  turned_low w true m ds = omega arith
  turned_low w false m ds = omega arith

  module _ (w : Width) (target rank : ℕ → ℕ) (at m : ℕ) (ds : List (Drafted RvInstr)) (head : rank at ≤ linked_rank) (room : 22 + rank_of ds ≤ most_rank) where
    -- the answer, whose place is q
    answered : (q : ℕ) → Fine target rank (q + 1 + 1 + 1) ds → Fine target rank q (drafted false m (silently (Unary unary.IsZero 16 29 ∷ take_out w)) ++ ds)
    answered q next = (omega (arith, room), refl, refl, (omega (arith, room), refl, refl, (omega (arith, room), refl, refl, next)))

    turned_fine : (weak : Bool) → Fine target rank (at + length (exchange_loop w order weak)) ds → Fine target rank (at + 1 + 1 + 1 + 1) (drafted false m (turned w weak) ++ ds)
    turned_fine true next =
        let q : ℕ = at + 1 + 1 + 1 + 1 + 1 + 1 + 1 + 1 + 1 in
        let end : at + length (exchange_loop w order true) ≡ q + 1 + 1 + 1 = omega arith in
        let last = answered q (subst (λ (k : ℕ). Fine target rank k ds) end next) in
        (omega (arith, room), refl, (omega arith, omega arith), (omega (arith, room), refl, refl, (omega (arith, room), refl, refl, (omega (arith, room), refl, refl, (omega (arith, room), refl, refl, last)))))
    turned_fine false next =
        let q : ℕ = at + 1 + 1 + 1 + 1 + 1 + 1 + 1 + 1 + 1 in
        let end : at + length (exchange_loop w order false) ≡ q + 1 + 1 + 1 + 1 = omega arith in
        let last = answered (q + 1) (subst (λ (k : ℕ). Fine target rank k ds) end next) in
        let back : Fine target rank q (drafted false m (silently (exchange_answer false ++ take_out w)) ++ ds) = (omega (arith, room), refl, record { to = at; is = omega arith; linked = head }, last) in
        (omega (arith, room), refl, (omega arith, omega arith), (omega (arith, room), refl, refl, (omega (arith, room), refl, refl, (omega (arith, room), refl, refl, (omega (arith, room), refl, refl, back)))))

  exchange_fits : (w : Width) (weak : Bool) → Fits false 22 (exchange_loop w order weak)
  exchange_fits w weak =
      record {
        low = λ m ds. omega arith;
        fine = λ target rank at m ds agrees next room.
            (let own : List (Drafted RvInstr) = drafted false m (silently comparison ++ turned w weak) ++ ds in
            let head : rank at ≡ linked_rank = first rank at _ own agrees in
            let low = turned_low w weak m ds in
            let last = turned_fine w target rank at m ds (omega (arith, head)) room weak next in
            let links : Links (Linked weak 28 (Some 7)) Word 15 5 own = exchange_links weak m (drafted false m (silently (exchange_answer weak ++ take_out w)) ++ ds) in
            (omega arith, refl, links, (omega (arith, low, room), refl, refl, (omega (arith, low, room), refl, refl, (omega (arith, low, room), refl, refl, last)))));
      }

exchange_setup_short : (w : Width) → Short 11 (exchange_setup w)
exchange_setup_short w = sets_short every 11 (exchange_setup w) (record { all = refl; few = omega arith })

pub masked_exchange_coded : (w : Width) (order : Order) (weak : Bool) → LineCoded false piece_rank (exchange_code w order weak)
masked_exchange_coded w order weak =
    coded_less false (11 + 22 + 0) piece_rank (exchange_code w order weak) (omega arith)
    (subst (λ (es : List (RvInstr × Tag)). LineCoded false (11 + 22 + 0) (silently (exchange_setup w) ++ es)) (append-nil (exchange_loop w order weak))
    (wrapped false 11 22 0 (exchange_setup w) [] (exchange_loop w order weak) (exchange_setup_short w) (record { fits = exchange_fits order w weak; acts = λ loud m ds. omega arith }) none_short))
