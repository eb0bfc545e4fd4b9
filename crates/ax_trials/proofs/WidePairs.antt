-- The linked load of two steps, the pair store and the branch back do what an exchange of 16 bytes says.
use Rattle.std.proofs.Common.{◌≡◌, ℕ, ◌+◌, ◌-◌, ◌*◌, ◌/◌, ◌%◌, ◌^◌, ◌<◌, ◌≤◌, Bool, true, false, [], ◌∷◌, Some, None, refl, sym, ap, ◌∙◌, subst, inl, inr, arith}
use Rattle.std.specs.Prelude.{◌≢◌, not, nat_eq, negsuc}
use Rattle.ax_store.specs.Bytes.{all_inside, number_at}
use Rattle.ax_store.specs.Storage.{at_place, entry_of}
use Rattle.ax_store.proofs.Numbers.{number_small}
use Rattle.ax_isa.specs.declared.effects.Effect.TheVariants as effect
use Rattle.ax_isa.specs.declared.effects.Rest.TheVariants.{Zeros}
use Rattle.ax_isa.specs.Numbers.{displaced}
use Rattle.ax_isa.specs.Past.{Noted}
use Rattle.ax_isa.specs.Processor.{Processor}
use Rattle.ax_isa.specs.Steps.{go_to, go_with}
use Rattle.ax_isa.proofs.Functions.{at_same, at_other}
use Rattle.ax_arm.specs.declared.instructions.ArmInstr.{ArmInstr}
use Rattle.ax_arm.specs.declared.instructions.ArmInstr.TheVariants as arm
use Rattle.ax_arm.specs.Effects.{effect_of, jump_if, linked_pair, moved, pair_of}
use Rattle.ax_arm.specs.Instructions.{arm_kind}
use Rattle.ax_expand.specs.Bytes.{bytes_world}
use Rattle.ax_expand.specs.Doing.{Result, deed_of}
use Rattle.ax_expand.specs.Operation.{Keeps, Operation}
use Rattle.ax_expand.specs.Shared.{Object, Sees, Shared, shared_wrote}
use Rattle.ax_expand.proofs.Sights.{object_number, shared_number}
use Rattle.ax_loops.specs.Replacing.{Replacement, Replaces}
use Rattle.ax_loops.specs.WideRetry.{HasBoth, Prepares, WideLoop, WideRetries}
use Rattle.ax_loops.proofs.Updating.{seen_small, wrote_sees}
use Rattle.ax_loops.specs.Registers.{all_but}
use Rattle.ax_trials.specs.WidePairs.{AreWideRegisters, WideExchange, WideRegisters, wide_on}
use Rattle.ax_trials.proofs.PairExchange.{empty_pending, sent_same}
use Rattle.ax_loops.proofs.Registers.{apart, is_held, not_scratch, with_result}

link_effect : (low high address : ℕ) (c : Processor) → effect_of (arm.Ldxp low high address) c ≡ linked_pair c.half low high (c.regs address)
unfolding effect_of
link_effect low high address c = refl

pair_effect : (failed low high address : ℕ) (c : Processor) → effect_of (arm.Stxp failed low high address) c ≡ effect.PairStore failed (c.regs address) 16 (pair_of (c.regs low) (c.regs high))
unfolding effect_of
pair_effect failed low high address c = refl

branch_effect : (failed : ℕ) (c : Processor) → effect_of (arm.Cbnz failed (negsuc 1)) c ≡ jump_if (not (nat_eq (c.regs failed) 0)) c.place (negsuc 1)
unfolding effect_of
branch_effect failed c = refl

back_two : (place start : ℕ) → place ≡ start + 2 → place < 2 ^ 32 → displaced place (negsuc 1) ≡ start
back_two place start h small = (let e : (place + (2 ^ 64 - 1 - 1)) % 2 ^ 64 ≡ start = omega (arith, h, small) in e)

low_of : (low high : ℕ) → low < 2 ^ 64 → (low + 2 ^ 64 * high) % 2 ^ 64 ≡ low
low_of low high small = omega (arith, small)

high_of : (low high : ℕ) → low < 2 ^ 64 → (low + 2 ^ 64 * high) / 2 ^ 64 ≡ high
high_of low high small = omega (arith, small)

module _ (z : WideExchange) where
  abbrev r : WideRegisters
  r = z.registers

  abbrev o : Operation Shared
  o = wide_on z

  abbrev pub replacement : Replacement Shared
  replacement =
      record {
        bytes = 16;
        address = λ regs. regs r.address;
        leaves = λ regs old. regs r.low + 2 ^ 64 * regs r.high;
        gives = λ regs old. at_place (at_place regs r.old_low (old % 2 ^ 64)) r.old_high (old / 2 ^ 64);
        finds = λ regs w. number_at w.mem (regs r.address) 16;
        after = λ regs w. shared_wrote (entry_of (regs r.address) 16 (regs r.low + 2 ^ 64 * regs r.high)) w;
      }

  object : (regs : ℕ → ℕ) (w : Shared) → o.fits regs w → Object (regs r.address) 16 w
  object regs w q = record { aligned = q.aligned; below = q.shared; some = omega arith; inside = q.inside; small = q.small }

  abbrev found : (ℕ → ℕ) → Shared → Result Shared
  found regs w = (let old = number_at w.mem (regs r.address) 16 in record { results = old % 2 ^ 64 ∷ old / 2 ^ 64 ∷ []; seen = None; world = replacement.after regs w; output = None; excused = false })

  half_small : (n : Noted) (regs : ℕ → ℕ) (w : Shared) (a : ℕ) → Sees n.storage w → o.fits regs w → a + 8 ≤ 16777216 → number_at n.storage.mem a 8 < 2 ^ 64
  half_small n regs w a sees fit below = subst (λ m. m < 2 ^ 64) (sym (shared_number n.storage.mem a 8 below ∙ ap (λ f. number_at f a 8) sees.mem)) (number_small w.mem fit.small a 8)

  is_replaced : Replaces bytes_world o replacement
  is_replaced =
      record {
        width = refl;
        happens = λ p n regs seen w sees empty fit. ap (λ s. deed_of (r.old_low ∷ r.old_high ∷ []) regs (Some (found regs s))) (sent_same p w (empty_pending p n w sees empty));
        aligned = λ regs w fit. fit.aligned;
        below = λ regs w fit. fit.shared;
        inside = λ n regs w sees fit. ap (λ f. all_inside f (regs r.address) 16) sees.inside ∙ fit.inside;
        found = λ n regs w sees fit. object_number n (regs r.address) 16 w sees (object regs w fit);
        small = λ regs w fit. number_small w.mem fit.small (regs r.address) 16;
        seen_small = λ p n regs w sees fit. seen_small p (regs r.address) 16 n w sees (object regs w fit);
        shows = λ lib p n new regs w sees fit wrote. wrote_sees lib p _ n new w sees wrote;
      }

module _ (keeps : ℕ → Bool) (z : WideExchange) (h : AreWideRegisters keeps z.registers) where
  abbrev g : WideRegisters
  g = z.registers

  abbrev held : ℕ → Bool
  held = all_but g.old_low (all_but g.old_high keeps)

  held_is : (q : ℕ) → keeps q ≡ true → (q ≢ g.old_low) × (q ≢ g.old_high) → held q ≡ true
  held_is q k ne = is_held (all_but g.old_high keeps) g.old_low q (is_held keeps g.old_high q k ne.1) ne.0

  apart_of : (q : ℕ) → held q ≡ true → (keeps q ≡ true) × (q ≢ g.old_low) × (q ≢ g.old_high)
  apart_of q e = (let a = apart (all_but g.old_high keeps) g.old_low q e in let b = apart keeps g.old_high q a.0 in (b.0, a.1, b.1))

  abbrev pub wide_loop : WideLoop ArmInstr
  wide_loop =
      record {
        link = arm.Ldxp g.old_low g.old_high g.address;
        between = [];
        pair = arm.Stxp g.failed g.low g.high g.address;
        behind = arm.Cbnz g.failed (negsuc 1) ∷ [];
        low = g.old_low;
        high = g.old_high;
        failed = g.failed;
        holds = held;
        back = 1;
        most = 3;
      }

  kept_failed : (regs : ℕ → ℕ) (n : ℕ) (c : Processor) → Keeps held c.regs regs → Keeps held (go_with g.failed n c).regs regs
  kept_failed regs n c holds q e = at_other c.regs g.failed n q (not_scratch keeps g.failed g.failed q h.failed (apart_of q e).0) ∙ holds q e

  module _ (start : ℕ) (c : Processor) (regs : ℕ → ℕ) (low high : ℕ) (b : HasBoth arm_kind keeps (wide_on z) (replacement z) wide_loop start regs low high c) where
    place_two : c.place + 1 ≡ start + 2
    place_two = (let at = b.place in omega (arith, at))

    gives : Keeps keeps (at_place c.regs g.failed 0) ((replacement z).gives regs (low + 2 ^ 64 * high))
    gives q k =
        at_other c.regs g.failed 0 q (not_scratch keeps g.failed g.failed q h.failed k)
        ∙ with_result keeps g.old_high c.regs (at_place regs g.old_low ((low + 2 ^ 64 * high) % 2 ^ 64)) ((low + 2 ^ 64 * high) / 2 ^ 64)
        (with_result (all_but g.old_high keeps) g.old_low c.regs regs ((low + 2 ^ 64 * high) % 2 ^ 64) b.holds (b.low_is ∙ sym (low_of low high b.low_small))) (b.high_is ∙ sym (high_of low high b.low_small)) q k

    stores : effect_of wide_loop.pair c ≡ effect.PairStore g.failed (regs g.address) 16 (regs g.low + 2 ^ 64 * regs g.high)
    stores =
        pair_effect g.failed g.low g.high g.address c
        ∙ ap (λ a. effect.PairStore g.failed a 16 (pair_of (c.regs g.low) (c.regs g.high))) (b.holds g.address (held_is g.address h.address h.address_stays))
        ∙ ap (λ m. effect.PairStore g.failed (regs g.address) 16 (pair_of m (c.regs g.high))) (b.holds g.low (held_is g.low h.low h.low_stays))
        ∙ ap (λ m. effect.PairStore g.failed (regs g.address) 16 (pair_of (regs g.low) m)) (b.holds g.high (held_is g.high h.high h.high_stays))

    flag_is : (n : ℕ) → effect_of (arm.Cbnz g.failed (negsuc 1)) (go_with g.failed n c) ≡ jump_if (not (nat_eq n 0)) (c.place + 1) (negsuc 1)
    flag_is n = branch_effect g.failed (go_with g.failed n c) ∙ ap (λ m. jump_if (not (nat_eq m 0)) (c.place + 1) (negsuc 1)) (at_same c.regs g.failed n)

    prepared : Prepares arm_kind keeps (wide_on z) (replacement z) wide_loop start regs (low + 2 ^ 64 * high) c
    prepared =
        let at = b.place in
        let room = b.room in
        let small : c.place + 1 < 2 ^ 32 = omega (arith, at, room) in
        let c0 : Processor = go_with g.failed 0 c in
        let c1 : Processor = go_with g.failed 1 c in
        record {
          forth = 0;
          few = omega arith;
          leads = record {
            steps = 0;
            few = omega arith;
            way = record {
              place = at;
              stores = λ w fit. stores;
              done = record {
                steps = 1;
                few = omega arith;
                way = record {
                  offset = 2;
                  instr = arm.Cbnz g.failed (negsuc 1);
                  after = go_to (c0.place + 1) c0;
                  place = place_two;
                  stands = refl;
                  leaves = inr (c0.place + 1, inr (flag_is 0, refl), refl);
                  next = record { place = (let e : c.place + 1 + 1 ≡ start + 3 = omega (arith, at) in e); gives = gives; half = b.half };
                };
              };
              fails = record {
                steps = 1;
                few = omega arith;
                way = record {
                  offset = 2;
                  instr = arm.Cbnz g.failed (negsuc 1);
                  after = go_to start c1;
                  place = place_two;
                  stands = refl;
                  leaves = inr (start, inl (flag_is 1 ∙ ap effect.Jump (back_two (c.place + 1) start place_two small)), refl);
                  next = record { place = refl; holds = kept_failed regs 1 c b.holds; half = b.half };
                };
              };
            };
          };
        }

  moved_is : (a : ℕ) → a + 16 ≤ 16777216 → moved a 8 ≡ a + 8
  moved_is a small = (let e : (a + 8) % 2 ^ 64 ≡ a + 8 = omega (arith, small) in e)

  pub wide_retries : WideRetries arm_kind keeps (wide_on z) (replacement z) wide_loop bytes_world
  wide_retries =
      record {
        replaces = is_replaced z;
        wide = refl;
        halves = λ n regs w sees fit. (let below : regs g.address + 16 ≤ 16777216 = fit.shared in (half_small z n regs w (regs g.address) sees fit (omega (arith, below)), half_small z n regs w (regs g.address + 8) sees fit (omega (arith, below))));
        unbuffered = refl;
        few = omega arith;
        kept = apart_of;
        apart = h.apart;
        first = λ c regs w fit s half. link_effect g.old_low g.old_high g.address c ∙ ap (λ m. linked_pair m g.old_low g.old_high (c.regs g.address)) half ∙ ap (λ a. effect.LinkHalf g.old_low a) (s g.address (held_is g.address h.address h.address_stays));
        second = λ c regs w fit s half.
            link_effect g.old_low g.old_high g.address c ∙ ap (λ m. linked_pair m g.old_low g.old_high (c.regs g.address)) half
            ∙ ap (λ a. effect.Load g.old_high (moved a 8) 8 Zeros true) (s g.address (held_is g.address h.address h.address_stays)) ∙ ap (λ a. effect.Load g.old_high a 8 Zeros true) (moved_is (regs g.address) fit.shared);
        computes = λ start c regs low high w fit b. prepared start c regs low high b;
      }
