-- THE LOOPS OF LINKED LOAD AND PAIR STORE fit into a draft: the linked load gives an Act, or leads to a pair store that stores or fails for a cause.
use Rattle.std.proofs.Common.{◌≡◌, ℕ, suc, ◌+◌, ◌*◌, ◌%◌, ◌^◌, ◌<◌, ◌≤◌, Bool, true, false, List, [], ◌∷◌, ◌++◌, inl, inr, length, None, refl, sym, ap, ◌∙◌, subst, arith}
use Rattle.std.specs.Prelude.{◌⊎◌, if◌then◌else◌, not, nat_eq, ℤ, pos, negsuc}
use Rattle.std.proofs.lemmas.Bool.{eq-eqb}
use Rattle.std.proofs.lemmas.Bool.Decides.{nat_tests}
use Rattle.ax_words.specs.declared.order.Order.{Order}
use Rattle.ax_words.specs.declared.width.Width.{Width}
use Rattle.ax_words.specs.declared.width.Width.TheVariants.{W32}
use Rattle.ax_store.specs.Bytes.{number_at}
use Rattle.ax_store.proofs.Numbers.{number_small}
use Rattle.ax_tags.specs.declared.tags.Role.{Role}
use Rattle.ax_tags.specs.declared.tags.Role.TheVariants.{None as Outside}
use Rattle.ax_tags.specs.declared.tags.Tag.{Tag}
use Rattle.ax_tags.specs.declared.tags.Tag.TheVariants.{Linked, Silent}
use Rattle.ax_isa.specs.declared.effects.Effect.{Effect}
use Rattle.ax_isa.specs.declared.effects.Effect.TheVariants as effect
use Rattle.ax_isa.specs.declared.effects.Rest.TheVariants.{Signs}
use Rattle.ax_isa.specs.Past.{Noted, link as linked_load}
use Rattle.ax_isa.specs.Processor.{Processor}
use Rattle.ax_isa.specs.Steps.{extended, go_with, loaded}
use Rattle.ax_isa.specs.Tells.{An_act, given_in, given_of, look_if}
use Rattle.ax_follow.specs.Bounds.{AreBytes}
use Rattle.ax_rv.specs.declared.instructions.Binary.TheVariants as binary
use Rattle.ax_rv.specs.declared.instructions.Condition.TheVariants as condition
use Rattle.ax_rv.specs.declared.instructions.Ending.{Ending}
use Rattle.ax_rv.specs.declared.instructions.RvInstr.{RvInstr}
use Rattle.ax_rv.specs.declared.instructions.RvInstr.TheVariants.{Binary, Branch, Jump, Li, StoreConditional, Unary}
use Rattle.ax_rv.specs.declared.instructions.Size.{Size}
use Rattle.ax_rv.specs.declared.instructions.Unary.TheVariants as unary
use Rattle.ax_isa.specs.Numbers.{displaced}
use Rattle.ax_rv.specs.Arithmetic.{holds}
use Rattle.ax_rv.specs.Instructions.{effect_of, size_rest}
use Rattle.ax_rv.specs.Skeleton.{size_bytes}
use Rattle.ax_expand.specs.Standing.{silently}
use Rattle.ax_emit.specs.Images.{Drafted, drafted}
use Rattle.ax_llsc.specs.Loops.{clear, comparand, exchange_code, nand_code, pair_mark, size_of}
use Rattle.ax_mask.specs.Pairs.{store_ending}
use Rattle.ax_idle_rv.proofs.Codes.{Short, silently_code}
use Rattle.ax_idle_rv.proofs.Fits.{Agrees, Fits, LineCoded, fits_silent}
use Rattle.ax_idle_rv.proofs.Poised.{Poised, PoisedBy, is_pair, linked_tracks}
use Rattle.ax_idle_rv.proofs.Ranks.{Fine, Links, is_straight, linked_rank, most_rank, pair_rank, piece_rank, rank_of}

pub clear_short : (r : ℕ) (w : Width) → Short 2 (clear r w)
clear_short r W32 = record { all = (refl, (refl, tt)); few = omega arith }
clear_short r _ = record { all = tt; few = omega arith }

-- ---- the linked load of a compare-exchange
-- an instruction that leaves in register 5 what a linked load leaves in its own, where it finds the number in register 11
record Compares (size : Size) (i : RvInstr) : Type 0 where
  value : ℕ → ℕ
  does : (c : Processor) → effect_of i c ≡ effect.Set 5 (value (c.regs 11))
  same : (before n r : ℕ) → n < 2 ^ (8 * size_bytes size) → n % 2 ^ (8 * size_bytes size) ≡ r % 2 ^ (8 * size_bytes size) → extended (size_bytes size) (size_rest size) before n ≡ value r

word_same : (before n r : ℕ) → n < 2 ^ 32 → n % 2 ^ 32 ≡ r % 2 ^ 32 → extended 4 Signs before n ≡ extended 4 Signs 0 (r % 2 ^ 32)
word_same before n r small e = let is : n ≡ r % 2 ^ 32 = omega (arith, small, e) in ap (extended 4 Signs 0) is

compares : (w : Width) → Compares (size_of w) (comparand w)
compares W32 = record { value = λ r. extended 4 Signs 0 (r % 2 ^ 32); does = λ c. refl; same = word_same }
compares _ = record { value = λ r. (r + 0) % 2 ^ 64; does = λ c. refl; same = λ before n r small e. (let is : n ≡ (r + 0) % 2 ^ 64 = omega (arith, small, e) in is) }

comparand_straight : (w : Width) → is_straight (comparand w) ≡ true
comparand_straight W32 = refl
comparand_straight _ = refl

abbrev compared_code : Bool → Size → Ending → RvInstr → ℤ → List (RvInstr × Tag)
compared_code weak size ending i d = (i, Silent) ∷ (Branch condition.NotEqual 15 5 d, Silent) ∷ (StoreConditional size ending 16 12 10, pair_mark weak) ∷ []

pub marked_pair : (weak : Bool) → is_pair (pair_mark weak) ≡ true
marked_pair true = refl
marked_pair false = refl

pub equal : (a b : ℕ) → nat_eq a b ≡ true → a ≡ b
equal a b h = grind (arith, nat_tests, h)

module _ (weak : Bool) (size : Size) (ending : Ending) (i : RvInstr) (d : ℤ) (m : ℕ) (tail : List (Drafted RvInstr)) (h : Compares size i) where
  abbrev code : List (RvInstr × Tag) → List (Drafted RvInstr)
  code es = drafted false m es ++ tail

  abbrev store : RvInstr × Tag
  store = (StoreConditional size ending 16 12 10, pair_mark weak)

  module _ (p : ℕ) (c : Processor) (n : Noted) (bytes : AreBytes n.storage.mem) (outside : c.role ≡ Outside) where
    abbrev number : ℕ
    number = number_at n.storage.mem (c.regs 10) (size_bytes size)

    abbrev found : ℕ
    found = extended (size_bytes size) (size_rest size) (c.regs 15) number

    abbrev after : Processor
    after = go_with 15 found c

    abbrev linked : Noted
    linked = linked_load p (c.regs 10) (size_bytes size) n

    poised : found ≡ h.value (c.regs 11) → Poised pair_rank (code (compared_code weak size ending i d)) p after linked
    poised same =
        let stays : holds condition.NotEqual found (h.value (c.regs 11)) ≡ false = ap not (eq-eqb found (h.value (c.regs 11)) same) in
        let there : Processor = go_with 5 (h.value (c.regs 11)) after in
        let turn : Poised 8 (code ((Branch condition.NotEqual 15 5 d, Silent) ∷ store ∷ [])) p there linked =
        subst (λ (b : Bool). PoisedBy (if b then effect.Jump (displaced there.place d) else effect.Nop) Silent (λ a. Poised 7 (code (store ∷ [])) p a linked) p there linked) (sym stays) (marked_pair weak, linked_tracks p (c.regs 10) (size_bytes size) n) in
        subst (λ (e : Effect). PoisedBy e Silent (λ a. Poised 8 (code ((Branch condition.NotEqual 15 5 d, Silent) ∷ store ∷ [])) p a linked) p after linked) (sym (h.does after)) turn

    linked_goes : (given_of (Linked weak 11 None) (size_bytes size) c (loaded number) ≡ An_act) ⊎ Poised pair_rank (code (compared_code weak size ending i d)) p after linked
    linked_goes = by (nat_eq (number % 2 ^ (8 * size_bytes size)) (c.regs 11 % 2 ^ (8 * size_bytes size))) refl
      where
        by : (b : Bool) → nat_eq (number % 2 ^ (8 * size_bytes size)) (c.regs 11 % 2 ^ (8 * size_bytes size)) ≡ b
            → (given_of (Linked weak 11 None) (size_bytes size) c (loaded number) ≡ An_act) ⊎ Poised pair_rank (code (compared_code weak size ending i d)) p after linked
        by false is = inl (ap (λ (r : Role). given_in r (Linked weak 11 None) (size_bytes size) c (loaded number)) outside ∙ ap (λ (b : Bool). if b then look_if weak else An_act) is)
        by true is = inr (poised (h.same (c.regs 15) number (c.regs 11) (number_small n.storage.mem bytes (c.regs 10) (size_bytes size)) (equal (number % 2 ^ (8 * size_bytes size)) (c.regs 11 % 2 ^ (8 * size_bytes size)) is)))

  exchange_links : Links (Linked weak 11 None) size 15 10 (code (compared_code weak size ending i d))
  exchange_links = linked_goes

-- the places behind the first seven
shifted : (rank : ℕ → ℕ) (at : ℕ) (a b c d e f g : Drafted RvInstr) (ds : List (Drafted RvInstr)) → Agrees rank at (a ∷ b ∷ c ∷ d ∷ e ∷ f ∷ g ∷ ds) → Agrees rank (at + 1 + 1 + 1 + 1 + 1 + 1 + 1) ds
shifted rank at a b c d e f g ds h k = let same : at + 1 + 1 + 1 + 1 + 1 + 1 + 1 + k ≡ at + suc (suc (suc (suc (suc (suc (suc k)))))) = omega arith in ap rank same ∙ h (suc (suc (suc (suc (suc (suc (suc k)))))))

pub first : (rank : ℕ → ℕ) (at : ℕ) (a : Drafted RvInstr) (ds : List (Drafted RvInstr)) → Agrees rank at (a ∷ ds) → rank at ≡ rank_of (a ∷ ds)
first rank at a ds h = let same : at ≡ at + 0 = omega arith in ap rank same ∙ h 0

pub second : (rank : ℕ → ℕ) (at : ℕ) (a : Drafted RvInstr) (ds : List (Drafted RvInstr)) → Agrees rank at (a ∷ ds) → Agrees rank (at + 1) ds
second rank at a ds h k = let same : at + 1 + k ≡ at + suc k = omega arith in ap rank same ∙ h (suc k)

exchange_fits : (w : Width) (order : Order) (weak : Bool) → Fits false piece_rank (exchange_code w order weak)
exchange_fits w order weak = record { low = λ m ds. omega arith; fine = fine weak }
  where
    clears : Fits false 2 (silently (clear 15 w))
    clears = silently_code false 2 (clear 15 w) (clear_short 15 w)

    compare : Fits false 1 ((comparand w, Silent) ∷ [])
    compare = fits_silent false (comparand w) (comparand_straight w)

    fine : (weak : Bool) (target rank : ℕ → ℕ) (at m : ℕ) (ds : List (Drafted RvInstr)) → Agrees rank at (drafted false m (exchange_code w order weak) ++ ds) → Fine target rank (at + length (exchange_code w order weak)) ds → piece_rank + rank_of ds ≤ most_rank
        → Fine target rank at (drafted false m (exchange_code w order weak) ++ ds)
    fine true target rank at m ds agrees next room =
        let last : List (Drafted RvInstr) = drafted false m (silently (clear 15 w)) ++ ds in
        let few = clears.low m ds in
        let end : at + length (exchange_code w order true) ≡ at + 1 + 1 + 1 + 1 + 1 + 1 + 1 + length (silently (clear 15 w)) = omega arith in
        let behind_it : Fine target rank (at + 1 + 1 + 1 + 1 + 1 + 1 + 1) last =
        clears.fine target rank (at + 1 + 1 + 1 + 1 + 1 + 1 + 1) m ds (shifted rank at _ _ _ _ _ _ _ last agrees) (subst (λ (q : ℕ). Fine target rank q ds) end next) (omega (arith, room)) in
        let tail : List (Drafted RvInstr) = drafted false m ((Unary unary.IsZero 16 16, Silent) ∷ (Jump (pos 2), Silent) ∷ (Li 16 0, Silent) ∷ []) ++ last in
        let turn : List (Drafted RvInstr) = drafted false m ((Branch condition.NotEqual 15 5 (pos 4), Silent) ∷ (StoreConditional (size_of w) (store_ending order) 16 12 10, pair_mark true) ∷ []) ++ tail in
        let two : Fine target rank (at + 1 + 1) turn = (
          omega (arith, few, room),
          refl,
          (omega arith, omega arith),
          (omega (arith, few, room), refl, refl, (omega (arith, few, room), refl, refl, (omega (arith, few, room), refl, (omega arith, omega arith), (omega (arith, few, room), refl, refl, behind_it)))),
        ) in (
          omega arith,
          refl,
          exchange_links true (size_of w) (store_ending order) (comparand w) (pos 4) m tail (compares w),
          compare.fine target rank (at + 1) m turn (second rank at _ (drafted false m ((comparand w, Silent) ∷ []) ++ turn) agrees) two (omega (arith, few, room)),
        )
    fine false target rank at m ds agrees next room =
        let last : List (Drafted RvInstr) = drafted false m (silently (clear 15 w)) ++ ds in
        let few = clears.low m ds in
        let end : at + length (exchange_code w order false) ≡ at + 1 + 1 + 1 + 1 + 1 + 1 + 1 + length (silently (clear 15 w)) = omega arith in
        let behind_it : Fine target rank (at + 1 + 1 + 1 + 1 + 1 + 1 + 1) last =
        clears.fine target rank (at + 1 + 1 + 1 + 1 + 1 + 1 + 1) m ds (shifted rank at _ _ _ _ _ _ _ last agrees) (subst (λ (q : ℕ). Fine target rank q ds) end next) (omega (arith, room)) in
        let tail : List (Drafted RvInstr) = drafted false m ((Branch condition.NotEqual 16 0 (negsuc 3), Silent) ∷ (Binary binary.Subtract 16 15 5, Silent) ∷ (Unary unary.IsZero 16 16, Silent) ∷ []) ++ last in
        let turn : List (Drafted RvInstr) = drafted false m ((Branch condition.NotEqual 15 5 (pos 3), Silent) ∷ (StoreConditional (size_of w) (store_ending order) 16 12 10, pair_mark false) ∷ []) ++ tail in
        let head : rank at ≡ linked_rank = first rank at _ (drafted false m ((comparand w, Silent) ∷ []) ++ turn) agrees in
        let two : Fine target rank (at + 1 + 1) turn = (
          omega (arith, few, room),
          refl,
          (omega arith, omega arith),
          (
            omega (arith, few, room),
            refl,
            refl,
            (omega (arith, few, room), refl, record { to = at; is = omega arith; linked = omega (arith, head) }, (omega (arith, few, room), refl, refl, (omega (arith, few, room), refl, refl, behind_it))),
          ),
        ) in (
          omega arith,
          refl,
          exchange_links false (size_of w) (store_ending order) (comparand w) (pos 3) m tail (compares w),
          compare.fine target rank (at + 1) m turn (second rank at _ (drafted false m ((comparand w, Silent) ∷ []) ++ turn) agrees) two (omega (arith, few, room)),
        )

pub exchange_coded : (w : Width) (order : Order) (weak : Bool) → LineCoded false piece_rank (exchange_code w order weak)
exchange_coded w order weak = record { fits = exchange_fits w order weak; acts = λ loud m ds. omega arith }

-- ---- nand
nand_fits : (w : Width) (order : Order) → Fits false piece_rank (nand_code w order)
nand_fits W32 order =
    record {
      low = λ m ds. omega arith;
      fine = λ target rank at m ds agrees fine room.
          (let end : at + length (nand_code W32 order) ≡ at + 1 + 1 + 1 + 1 + 1 + 1 + 1 = omega arith in
          let head : rank at ≡ linked_rank = first rank at _ _ agrees in
          let last : Fine target rank (at + 1 + 1 + 1 + 1 + 1 + 1 + 1) ds = subst (λ (q : ℕ). Fine target rank q ds) end fine in (
            omega arith,
            refl,
            (λ p c n bytes outside. inr (refl, linked_tracks p (c.regs 10) 4 n)),
            (
              omega (arith, room),
              refl,
              refl,
              (
                omega (arith, room),
                refl,
                refl,
                (
                  omega (arith, room),
                  refl,
                  refl,
                  (omega (arith, room), refl, refl, (omega (arith, room), refl, refl, (omega (arith, room), refl, record { to = at; is = omega arith; linked = omega (arith, head) }, last))),
                ),
              ),
            ),
          ));
    }
nand_fits _ order =
    record {
      low = λ m ds. omega arith;
      fine = λ target rank at m ds agrees fine room.
          (let head : rank at ≡ linked_rank = first rank at _ _ agrees in
          let last : Fine target rank (at + 1 + 1 + 1 + 1 + 1) ds = (let end : at + 5 ≡ at + 1 + 1 + 1 + 1 + 1 = omega arith in subst (λ (q : ℕ). Fine target rank q ds) end fine) in (
            omega arith,
            refl,
            (λ p c n bytes outside. inr (refl, linked_tracks p (c.regs 10) 8 n)),
            (omega (arith, room), refl, refl, (omega (arith, room), refl, refl, (omega (arith, room), refl, refl, (omega (arith, room), refl, record { to = at; is = omega arith; linked = omega (arith, head) }, last)))),
          ));
    }

pub nand_coded : (w : Width) (order : Order) → LineCoded false piece_rank (nand_code w order)
nand_coded w order = record { fits = nand_fits w order; acts = λ loud m ds. omega arith }
