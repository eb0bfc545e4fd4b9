-- The linked load, the computation and the pair store do what a fetch-and-nand says.
use Rattle.std.proofs.Common.{◌≡◌, ℕ, ◌+◌, ◌-◌, ◌%◌, ◌^◌, ◌<◌, ◌≤◌, Bool, true, List, [], ◌∷◌, length, mod-eq_of_lt, refl, sym, ap, ◌∙◌, subst, inl, inr, arith}
use Rattle.std.specs.Prelude.{◌≢◌, if◌then◌else◌, not, nat_eq, bit_and}
use Rattle.std.proofs.lemmas.Nat.{and_le_l, and_mod}
use Rattle.ax_words.specs.declared.mark.Op.TheVariants as op
use Rattle.ax_words.specs.declared.operation.RmwOp.TheVariants as rmw
use Rattle.ax_words.specs.declared.order.Order.{Order}
use Rattle.ax_words.specs.declared.width.Width.{Width}
use Rattle.ax_words.specs.declared.width.Width.TheVariants.{W8, W16, W32, W64, W128}
use Rattle.ax_words.specs.Width.{bits_of, bytes_of}
use Rattle.ax_ops.specs.Operation.{result_of}
use Rattle.ax_store.specs.declared.entry.Entry.{Entry}
use Rattle.ax_store.specs.Bytes.{all_inside, number_at}
use Rattle.ax_store.specs.Storage.{at_place, entry_of}
use Rattle.ax_store.proofs.Numbers.{number_small}
use Rattle.ax_tags.specs.declared.tags.Tag.{Tag}
use Rattle.ax_target.specs.declared.target.Target.TheVariants.{Rv}
use Rattle.ax_isa.specs.declared.effects.Effect.{Effect}
use Rattle.ax_isa.specs.declared.effects.Effect.TheVariants as effect
use Rattle.ax_isa.specs.Numbers.{displaced}
use Rattle.ax_isa.specs.Processor.{Processor}
use Rattle.ax_isa.specs.Steps.{go_with}
use Rattle.ax_isa.proofs.Functions.{at_same, at_other}
use Rattle.ax_rv.specs.declared.instructions.Binary.TheVariants as binary
use Rattle.ax_rv.specs.declared.instructions.Condition.TheVariants as condition
use Rattle.ax_rv.specs.declared.instructions.RvInstr.{RvInstr}
use Rattle.ax_rv.specs.declared.instructions.RvInstr.TheVariants.{Binary, Branch, StoreConditional, Unary}
use Rattle.ax_rv.specs.declared.instructions.Unary.TheVariants as unary
use Rattle.ax_rv.specs.Instructions.{rv_kind, size_rest}
use Rattle.ax_rv.specs.Skeleton.{size_bytes}
use Rattle.ax_expand.specs.Bytes.{bytes_world}
use Rattle.ax_expand.specs.Doing.{deed_of, on_registers}
use Rattle.ax_expand.specs.Expands.{Expands}
use Rattle.ax_expand.specs.Operation.{Keeps, Operation}
use Rattle.ax_expand.specs.Private.{Private}
use Rattle.ax_expand.specs.Shared.{Object, Sees, Shared, shared_wrote}
use Rattle.ax_expand.specs.World.{Lawful}
use Rattle.ax_expand.proofs.Bytes.{bytes_lawful}
use Rattle.ax_expand.proofs.Sights.{object_number}
use Rattle.ax_expand.proofs.Straight.{goes_append}
use Rattle.ax_fine.specs.OnBytes.{IsObject, atomic_doing}
use Rattle.ax_emit_rv.specs.Laws.{is_kept}
use Rattle.ax_loops.specs.Registers.{all_but}
use Rattle.ax_loops.specs.Replacing.{Replacement, Replaces}
use Rattle.ax_loops.specs.Retry.{Computes, Retries, RetryLoop, retry_code, retry_most, retry_size}
use Rattle.ax_loops.proofs.Registers.{apart, with_result}
use Rattle.ax_loops.proofs.Updating.{seen_small, wrote_sees}
use Rattle.ax_llsc.specs.Loops.{clear, link, nand_back, nand_code, nand_computation, nand_expansion, size_of}
use Rattle.ax_mask.specs.Pairs.{store_ending}
use Rattle.ax_llsc.specs.Codes.{raw_of}
use Rattle.ax_llsc.specs.Rounds.{no_room}
use Rattle.ax_llsc.proofs.Acts.{atomic_updates}
use Rattle.ax_llsc.proofs.Around.{over_clear}
use Rattle.ax_mask.proofs.Found.{object_of}
use Rattle.ax_llsc.proofs.Pairs.{is_width, links_at, none_pending, not_kept, some_byte}
use Rattle.ax_llsc.proofs.Ways.{AtomicWidth, IsAtomicWidth, atomic_width}

-- ---- the numbers
-- an operand has any bits above the width
and_cut : (old v bits : ℕ) → old < 2 ^ bits → bit_and old v ≡ bit_and old (v % 2 ^ bits)
and_cut old v bits small =
    let least = and_le_l old v in
    let below : bit_and old v < 2 ^ bits = omega (arith, least, small) in
    sym (mod-eq_of_lt below) ∙ and_mod old v bits ∙ ap (λ m. bit_and m (v % 2 ^ bits)) (mod-eq_of_lt small)

-- the low bits of the complement
low_nand : (width : Width) → IsAtomicWidth width → (old v : ℕ) → old < 2 ^ bits_of width → (2 ^ 64 - 1 - bit_and old v) % 2 ^ bits_of width ≡ result_of (bits_of width) rmw.Nand old (v % 2 ^ bits_of width) % 2 ^ bits_of width
low_nand W32 h old v lt =
    let small : old < 2 ^ 32 = lt in
    let least = and_le_l old (v % 2 ^ 32) in
    let same : bit_and old v ≡ bit_and old (v % 2 ^ 32) = and_cut old v 32 small in
    let e : (2 ^ 64 - 1 - bit_and old (v % 2 ^ 32)) % 2 ^ 32 ≡ (2 ^ 32 - 1 - bit_and old (v % 2 ^ 32)) % 2 ^ 32 = omega (arith, least, small) in
    ap (λ n. (2 ^ 64 - 1 - n) % 2 ^ 32) same ∙ e
low_nand W64 h old v lt = ap (λ n. (2 ^ 64 - 1 - n) % 2 ^ 64) (and_cut old v 64 lt)
low_nand W8 h old v lt = absurd h
low_nand W16 h old v lt = absurd h
low_nand W128 h old v lt = absurd h

-- ---- the operation
abbrev pub nanding : Bool → Bool → Order → Bool → Width → Operation Shared
nanding zabha zacas order weak width = on_registers (atomic_doing (Rv zabha zacas) (op.Rmw rmw.Nand) width order weak) 10 (11 ∷ []) (15 ∷ [])

abbrev replacement : Width → Replacement Shared
replacement width =
    record {
      bytes = bytes_of width;
      address = λ regs. regs 10;
      leaves = λ regs old. 2 ^ 64 - 1 - bit_and old (regs 11);
      gives = λ regs old. at_place regs 15 old;
      finds = λ regs w. number_at w.mem (regs 10) (bytes_of width);
      after = λ regs w. shared_wrote (entry_of (regs 10) (bytes_of width) (result_of (bits_of width) rmw.Nand (number_at w.mem (regs 10) (bytes_of width)) (regs 11 % 2 ^ bits_of width))) w;
    }

-- the branch back to the linked load
nand_goes_back : (width : Width) → IsAtomicWidth width → (place start : ℕ) → place ≡ start + length (nand_computation width) + 2 → place < 2 ^ 32 → displaced place (nand_back width) ≡ start
nand_goes_back W32 h place start at small = (let f : place ≡ start + 4 + 2 = at in let e : (place + (2 ^ 64 - 1 - 5)) % 2 ^ 64 ≡ start = omega (arith, f, small) in e)
nand_goes_back W64 h place start at small = (let f : place ≡ start + 2 + 2 = at in let e : (place + (2 ^ 64 - 1 - 3)) % 2 ^ 64 ≡ start = omega (arith, f, small) in e)
nand_goes_back W8 h place start at small = absurd h
nand_goes_back W16 h place start at small = absurd h
nand_goes_back W128 h place start at small = absurd h

module _ (zabha zacas : Bool) (order : Order) (weak : Bool) (width : Width) (h : IsAtomicWidth width) where
  abbrev o : Operation Shared
  o = nanding zabha zacas order weak width

  abbrev g : AtomicWidth width
  g = atomic_width width h

  object : (regs : ℕ → ℕ) (w : Shared) → IsObject (regs 10) (bytes_of width) w → Object (regs 10) (bytes_of width) w
  object regs w fit = object_of (regs 10) (bytes_of width) w (some_byte width) fit

  found_small : (regs : ℕ → ℕ) (w : Shared) → IsObject (regs 10) (bytes_of width) w → number_at w.mem (regs 10) (bytes_of width) < 2 ^ bits_of width
  found_small regs w fit = number_small w.mem fit.small (regs 10) (bytes_of width)

  -- the pair store writes the low bits
  same_entry : (regs : ℕ → ℕ) (old : ℕ) → old < 2 ^ bits_of width → entry_of (regs 10) (bytes_of width) (2 ^ 64 - 1 - bit_and old (regs 11)) ≡ entry_of (regs 10) (bytes_of width) (result_of (bits_of width) rmw.Nand old (regs 11 % 2 ^ bits_of width))
  same_entry regs old small = ap (λ u. (let e : Entry = record { address = regs 10; bytes = bytes_of width; value = u } in e)) (low_nand width h old (regs 11) small)

  nand_replaces : Replaces bytes_world o (replacement width)
  nand_replaces =
      record {
        width = is_width width h;
        happens = λ p n regs seen w sees empty fit. ap (deed_of (15 ∷ []) regs) (atomic_updates zabha zacas width g.narrow g.room order weak rmw.Nand p (regs 10) (regs 11) seen w fit (none_pending p n w sees empty));
        aligned = λ regs w fit. fit.aligned;
        below = λ regs w fit. (object regs w fit).below;
        inside = λ n regs w sees fit. ap (λ f. all_inside f (regs 10) (bytes_of width)) sees.inside ∙ fit.inside;
        found = λ n regs w sees fit. object_number n (regs 10) (bytes_of width) w sees (object regs w fit);
        small = λ regs w fit. found_small regs w fit;
        seen_small = λ p n regs w sees fit. seen_small p (regs 10) (bytes_of width) n w sees (object regs w fit);
        shows = λ lib p n new regs w sees fit wrote. subst (λ q. Sees new.storage (shared_wrote q w)) (same_entry regs _ (found_small regs w fit)) (wrote_sees lib p _ n new w sees wrote);
      }

  -- ---- the code
  abbrev loop : RetryLoop RvInstr
  loop =
      record {
        link = link width order;
        computation = nand_computation width;
        pair = StoreConditional (size_of width) (store_ending order) 7 6 10;
        branch = Branch condition.NotEqual 7 0 (nand_back width);
        old = 15;
        rest = size_rest (size_of width);
        failed = 7;
        holds = all_but 15 is_kept;
      }

  kept : (q : ℕ) → all_but 15 is_kept q ≡ true → (is_kept q ≡ true) × (q ≢ 15) × (q ≢ 7)
  kept q e = (let a = apart is_kept 15 q e in (a.0, a.1, not_kept 7 q refl a.0))

  computes : (y : Private) (regs : ℕ → ℕ) (number : ℕ) → number < 2 ^ bits_of width → Keeps (all_but 15 is_kept) y.cpu.regs regs → y.cpu.regs 15 ≡ raw_of width number → Computes rv_kind is_kept o (replacement width) loop regs number y
  computes y regs number small held old =
      let gives : ℕ → ℕ = at_place regs 15 number in
      let raw : Keeps is_kept y.cpu.regs (at_place gives 15 (raw_of width (gives 15))) = with_result is_kept 15 y.cpu.regs gives (raw_of width (gives 15)) (λ q e. held q e ∙ sym (at_other regs 15 number q (kept q e).1)) (old ∙ ap (raw_of width) (sym (at_same regs 15 number))) in
      let a = over_clear is_kept 15 (λ c. refl) refl width y gives (subst (λ n. n < 2 ^ bits_of width) (sym (at_same regs 15 number)) small) raw in
      let c0 : Processor = a.private.cpu in
      let both = bit_and (c0.regs 15) (c0.regs 11) in
      let c1 : Processor = go_with 6 both c0 in
      let y1 : Private = record { cpu = c1; frame = a.private.frame } in
      let c2 : Processor = go_with 6 (2 ^ 64 - 1 - c1.regs 6) c1 in
      let y2 : Private = record { cpu = c2; frame = a.private.frame } in
      let stays : (q : ℕ) → is_kept q ≡ true → c2.regs q ≡ gives q = λ q k. at_other c1.regs 6 _ q (not_kept 6 q refl k) ∙ at_other c0.regs 6 both q (not_kept 6 q refl k) ∙ a.regs q k in
      let both_is : both ≡ bit_and number (regs 11) = ap (λ m. bit_and m (c0.regs 11)) (a.regs 15 refl ∙ at_same regs 15 number) ∙ ap (bit_and number) (a.regs 11 refl) in
      let new : c2.regs 6 ≡ 2 ^ 64 - 1 - bit_and number (regs 11) = at_same c1.regs 6 _ ∙ ap (λ m. 2 ^ 64 - 1 - m) (at_same c0.regs 6 both ∙ both_is) in
      record {
        private = y2;
        goes = goes_append rv_kind no_room (clear 15 width) (Binary binary.And 6 15 11 ∷ Unary unary.Not 6 6 ∷ []) y a.private y2 a.goes (y1, refl, (y2, refl, refl));
        stores = record {
          holds = λ q e. stays q (kept q e).0 ∙ at_other regs 15 number q (kept q e).1;
          stores = λ w fit.
              ap (λ b. effect.PairStore 7 b (size_bytes (size_of width)) (c2.regs 6)) (stays 10 refl) ∙ ap (λ v. effect.PairStore 7 (regs 10) (size_bytes (size_of width)) v) new ∙ ap (λ n. effect.PairStore 7 (regs 10) n (2 ^ 64 - 1 - bit_and number (regs 11))) g.bytes_is;
          gives = λ q k. at_other c2.regs 7 0 q (not_kept 7 q refl k) ∙ stays q k;
        };
      }

  abbrev branch_if : Bool → Processor → Effect
  branch_if t c = if t then effect.Jump (displaced c.place (nand_back width)) else effect.Nop

  nand_retries : Retries rv_kind is_kept o (replacement width) loop bytes_world
  nand_retries =
      record {
        replaces = nand_replaces;
        unbuffered = refl;
        kept = kept;
        fills = λ before number. g.raw_is before number ∙ sym (g.raw_is 0 number);
        links = λ c regs w fit held. links_at width order c (regs 10) g (held 10 refl);
        computes = λ y regs number small held old. computes y regs number small held (old ∙ g.raw_is 0 number);
        back = λ c start at small failed. inl (ap (λ m. branch_if (not (nat_eq m 0)) c) failed ∙ ap effect.Jump (nand_goes_back width h c.place start at (let e : c.place < 2 ^ 32 = omega (arith, small) in e)));
        on = λ c small stored. inr (ap (λ m. branch_if (not (nat_eq m 0)) c) stored, refl);
      }

-- by the law of such loops
abbrev pub Law : Operation Shared → Type 0
Law o = (keeps : ℕ → Bool) (r : Replacement Shared) (loop : RetryLoop RvInstr) → Lawful bytes_world → Retries rv_kind keeps o r loop bytes_world → Expands rv_kind bytes_world (retry_most loop) keeps (retry_size loop) (λ start. retry_code loop) o

-- what idles less keeps the greater bound
idles_more : (less more size : ℕ) (piece : ℕ → List (RvInstr × Tag)) (o : Operation Shared) → less ≤ more → Expands rv_kind bytes_world less is_kept size piece o → Expands rv_kind bytes_world more is_kept size piece o
idles_more less more size piece o h x =
    record { length_is = x.length_is; some = x.some; follows = λ code tags lib v quiet own start frames words few has. x.follows code tags lib v quiet own start frames words (omega (arith, h, few)) has }

pub nand_expands : (zabha zacas : Bool) (width : Width) (order : Order) (weak : Bool) → IsAtomicWidth width → Law (nanding zabha zacas order weak width) → (let e = nand_expansion width order in Expands rv_kind bytes_world e.most is_kept e.size e.piece (nanding zabha zacas order weak width))
nand_expands zabha zacas W32 order weak h law = law is_kept (replacement W32) (loop zabha zacas order weak W32 h) bytes_lawful (nand_retries zabha zacas order weak W32 h)
nand_expands zabha zacas W64 order weak h law = idles_more 4 6 5 (λ start. nand_code W64 order) (nanding zabha zacas order weak W64) (omega arith) (law is_kept (replacement W64) (loop zabha zacas order weak W64 h) bytes_lawful (nand_retries zabha zacas order weak W64 h))
nand_expands zabha zacas W8 order weak h law = absurd h
nand_expands zabha zacas W16 order weak h law = absurd h
nand_expands zabha zacas W128 order weak h law = absurd h
