-- The linked load, the branch, the pair store and what follows do what a compare-exchange says.
use Rattle.std.proofs.Common.{◌≡◌, ℕ, ◌+◌, ◌-◌, ◌%◌, ◌^◌, ◌<◌, Bool, true, false, List, [], ◌∷◌, Option, Some, None, refl, sym, ap, ◌∙◌, subst, inl, inr, arith}
use Rattle.std.specs.Prelude.{if◌then◌else◌, ◌≢◌, ◌&&◌, not, nat_eq, ℤ, pos, negsuc}
use Rattle.std.proofs.lemmas.Bool.{eq-eqb, ne_eqb}
use Rattle.ax_words.specs.declared.mark.Op.TheVariants as op
use Rattle.ax_words.specs.declared.width.Width.TheVariants.{W64}
use Rattle.ax_source_run.specs.SourceValues.{number_of_flag}
use Rattle.ax_store.specs.Bytes.{all_inside, number_at}
use Rattle.ax_store.specs.Storage.{at_place}
use Rattle.ax_store.proofs.Numbers.{number_small}
use Rattle.ax_isa.specs.declared.effects.Effect.TheVariants as effect
use Rattle.ax_isa.specs.declared.effects.Rest.TheVariants.{Zeros}
use Rattle.ax_isa.specs.Past.{Noted}
use Rattle.ax_isa.specs.Processor.{Processor}
use Rattle.ax_isa.specs.Steps.{go_to, go_with}
use Rattle.ax_isa.specs.Tells.{An_act}
use Rattle.ax_isa.specs.Numbers.{displaced}
use Rattle.ax_isa.proofs.Functions.{at_same, at_other, place_kept}
use Rattle.ax_mid.specs.Machine.{is_exchange, results_of}
use Rattle.ax_rv.specs.Arithmetic.{holds, one_if}
use Rattle.ax_rv.specs.declared.instructions.Binary.TheVariants as binary_op
use Rattle.ax_rv.specs.declared.instructions.Condition.{Condition}
use Rattle.ax_rv.specs.declared.instructions.Condition.TheVariants as condition
use Rattle.ax_rv.specs.declared.instructions.Ending.{Ending}
use Rattle.ax_rv.specs.declared.instructions.RvInstr.{RvInstr}
use Rattle.ax_rv.specs.declared.instructions.RvInstr.TheVariants.{Binary, Branch, Jump, Li, LoadReserved, StoreConditional, Unary}
use Rattle.ax_rv.specs.declared.instructions.Size.TheVariants.{Double}
use Rattle.ax_rv.specs.declared.instructions.Unary.TheVariants as unary_op
use Rattle.ax_rv.specs.Instructions.{effect_of, read, rv_kind}
use Rattle.ax_expand.specs.Bytes.{bytes_world}
use Rattle.ax_expand.specs.Doing.{Result, deed_of}
use Rattle.ax_expand.specs.Expands.{Expands}
use Rattle.ax_expand.specs.OneInstruction.{Happens}
use Rattle.ax_expand.specs.Operation.{Deed, Keeps, Operation}
use Rattle.ax_expand.specs.Shared.{Object, Sees, Shared, shared_only, shared_replaced, with_pending}
use Rattle.ax_expand.specs.World.{Lawful}
use Rattle.ax_expand.proofs.Bytes.{bytes_lawful}
use Rattle.ax_expand.proofs.Sights.{object_number}
use Rattle.ax_fine.specs.OnBytes.{looks, misses, results_with, sent_out, wrote_each}
use Rattle.ax_loops.specs.Exchanging.{Answers, Exchange, IsExchange, Stores}
use Rattle.ax_loops.specs.PairExchange.{AtPair, Exchanges, HasLinked, IsThrough, PairExchange, exchange_code as pair_code, exchange_size, laid}
use Rattle.ax_loops.specs.Ways.{Leaves, Way}
use Rattle.ax_loops.proofs.Updating.{wrote_sees}
use Rattle.ax_loops.specs.Registers.{all_but}
use Rattle.ax_trials.specs.PairExchange.{AreExchangeRegisters, CompareExchange, ExchangeRegisters, exchange_code, exchanging_on}
use Rattle.ax_trials.proofs.Pairs.{read_is}
use Rattle.ax_loops.proofs.Registers.{apart, compares_whole, cut_same, is_held, with_result}

-- ---- the operation
abbrev exchange : ExchangeRegisters → Exchange Shared
exchange r =
    record {
      bytes = 8;
      address = λ regs. regs r.address;
      expected = λ regs. regs r.expected % 2 ^ 64;
      part = λ regs number. number;
      leaves = λ regs number. regs r.desired % 2 ^ 64;
      gives = λ regs number stored. at_place (at_place regs r.old (number % 2 ^ 64)) r.flag (number_of_flag stored);
      finds = λ regs w. number_at w.mem (regs r.address) 8;
    }

-- nothing of p waits above
pub empty_pending : (p : ℕ) (n : Noted) (w : Shared) → Sees n.storage w → n.storage.waiting p ≡ [] → w.pending p ≡ []
empty_pending p n w sees empty = sym (sees.pending p) ∙ ap shared_only empty

pub sent_same : (p : ℕ) (w : Shared) → w.pending p ≡ [] → sent_out p w ≡ w
sent_same p w e = ap (λ es. with_pending p [] (wrote_each es w)) e ∙ ap (λ f. record { inside = w.inside; mem = w.mem; pending = f }) (place_kept w.pending p [] e)

module _ (z : CompareExchange) where
  abbrev r : ExchangeRegisters
  r = z.registers

  abbrev o : Operation Shared
  o = exchanging_on z

  abbrev results : List ℕ
  results = r.old ∷ r.flag ∷ []

  object : (regs : ℕ → ℕ) (w : Shared) → o.fits regs w → Object (regs r.address) 8 w
  object regs w fit = (let q = fit.0 in record { aligned = q.aligned; below = q.shared; some = omega arith; inside = q.inside; small = q.small })

  -- what it leaves where it finds a number, by whether that is the expected one
  abbrev result : (ℕ → ℕ) → Shared → ℕ → Bool → Result Shared
  result regs w number equal =
      record { results = number % 2 ^ 64 ∷ number_of_flag equal ∷ []; seen = None; world = shared_replaced (regs r.address) 8 (if equal then Some (regs r.desired % 2 ^ 64) else None) w; output = None; excused = false }

  abbrev found : (ℕ → ℕ) → Shared → Result Shared
  found regs w = (let number = number_at w.mem (regs r.address) 8 in result regs w number (nat_eq number (regs r.expected % 2 ^ 64)))

  acts_as : (p : ℕ) (regs : ℕ → ℕ) (seen : Option ℕ) (w : Shared) → w.pending p ≡ [] → o.happens An_act p regs seen w ≡ deed_of results regs (Some (found regs w))
  acts_as p regs seen w e = ap (λ s. deed_of results regs (Some (found regs s))) (sent_same p w e)

  happens : (regs : ℕ → ℕ) (w : Shared) (number : ℕ) (equal : Bool) (Q : Deed Shared → Type 0) (a : Option (Deed Shared)) → a ≡ deed_of results regs (Some (found regs w)) → number_at w.mem (regs r.address) 8 ≡ number → nat_eq (number_at w.mem (regs r.address) 8) (regs r.expected % 2 ^ 64) ≡ equal
      → Happens (deed_of results regs (Some (result regs w number equal))) Q → Happens a Q
  happens regs w number equal Q a is e f q = subst (λ b. Happens b Q) (sym (is ∙ ap (λ b. deed_of results regs (Some (result regs w (number_at w.mem (regs r.address) 8) b))) f ∙ ap (λ m. deed_of results regs (Some (result regs w m equal))) e)) q

  is_exchange_of : IsExchange bytes_world (exchange r) z.weak o
  is_exchange_of =
      record {
        width = refl;
        stores = λ p n regs seen w sees empty fit same.
            happens regs w (regs r.expected % 2 ^ 64) true (λ d. Stores bytes_world (exchange r) n p regs (number_at w.mem (regs r.address) 8) d) (o.happens An_act p regs seen w) (acts_as p regs seen w (empty_pending p n w sees empty)) same (eq-eqb _ _ same)
            (record { regs = refl; output = refl; excused = refl }, λ lib new wrote. wrote_sees lib p _ n new w sees wrote);
        differs = λ p n regs seen w sees empty fit apart.
            happens regs w (number_at w.mem (regs r.address) 8) false (λ d. Answers bytes_world (exchange r) n ((exchange r).gives regs (number_at w.mem (regs r.address) 8) false) d) (o.happens An_act p regs seen w) (acts_as p regs seen w (empty_pending p n w sees empty)) refl (ne_eqb _ _ apart)
            (record { regs = refl; output = refl; excused = refl }, sees);
        looks = λ weak p n regs seen w sees fit.
            subst (λ b. Happens (deed_of results regs (if b && is_exchange op.Cmpxchg then Some (looks z.target op.Cmpxchg W64 z.order (regs r.address) w) else None)) (λ d. (d.seen ≡ Some (number_at w.mem (regs r.address) 8)) × Answers bytes_world (exchange r) n regs d)) (sym weak)
            (refl, (record { regs = refl; output = refl; excused = refl }, sees));
        misses = λ weak p n regs w sees fit.
            let e = regs r.expected % 2 ^ 64 in
            let Q : Deed Shared → Type 0 = λ d. Answers bytes_world (exchange r) n ((exchange r).gives regs e false) d in
            subst (λ b. Happens (deed_of results regs (if b && is_exchange op.Cmpxchg then misses z.target op.Cmpxchg W64 z.order (regs r.expected ∷ regs r.desired ∷ []) (Some e) w else None)) Q) (sym weak)
            (subst (λ b. Happens (deed_of results regs (if b then Some (results_with (results_of op.Cmpxchg W64 e false) w) else None)) Q) (sym (eq-eqb e e refl)) (record { regs = refl; output = refl; excused = refl }, sees));
        aligned = λ regs w fit. fit.0.aligned;
        below = λ regs w fit. (object regs w fit).below;
        inside = λ n regs w sees fit. ap (λ f. all_inside f (regs r.address) 8) sees.inside ∙ fit.0.inside;
        found = λ n regs w sees fit. object_number n (regs r.address) 8 w sees (object regs w fit);
        small = λ regs w fit. number_small w.mem fit.0.small (regs r.address) 8;
      }

-- ---- instructions
module _ (c : Processor) where
  taken : (kind : Condition) (a b : ℕ) (d : ℤ) (place : ℕ) → holds kind (read a c) (read b c) ≡ true → displaced c.place d ≡ place → Leaves (effect_of (Branch kind a b d) c) c (go_to place c)
  taken kind a b d place e to = inr (place, inl (ap (λ t. if t then effect.Jump (displaced c.place d) else effect.Nop) e ∙ ap effect.Jump to), refl)

  passed : (kind : Condition) (a b : ℕ) (d : ℤ) → holds kind (read a c) (read b c) ≡ false → Leaves (effect_of (Branch kind a b d) c) c (go_to (c.place + 1) c)
  passed kind a b d e = inr (c.place + 1, inr (ap (λ t. if t then effect.Jump (displaced c.place d) else effect.Nop) e, refl), refl)

ahead : (place start k d : ℕ) → place ≡ start + k → place + d < 2 ^ 32 → displaced place (pos d) ≡ start + (k + d)
ahead place start k d h small = (let e : (place + d) % 2 ^ 64 ≡ start + (k + d) = omega (arith, h, small) in e)

behind : (place start : ℕ) → place ≡ start + 3 → place < 2 ^ 32 → displaced place (negsuc 2) ≡ start
behind place start h small = (let e : (place + (2 ^ 64 - 1 - 2)) % 2 ^ 64 ≡ start = omega (arith, h, small) in e)

-- the difference of two words is 0 where they are equal
difference_none : (a b : ℕ) → a ≡ b → b < 2 ^ 64 → one_if (nat_eq ((a + (2 ^ 64 - b)) % 2 ^ 64) 0) ≡ 1
difference_none a b e small = (let f : (a + (2 ^ 64 - b)) % 2 ^ 64 ≡ 0 = omega (arith, e, small) in ap one_if (eq-eqb _ _ f))

difference_some : (a b : ℕ) → a ≢ b → a < 2 ^ 64 → b < 2 ^ 64 → one_if (nat_eq ((a + (2 ^ 64 - b)) % 2 ^ 64) 0) ≡ 0
difference_some a b ne sa sb = ap one_if (ne_eqb _ _ (λ f. ne (omega (arith, f, sa, sb))))

module _ (keeps : ℕ → Bool) (acquire release : Ending) (z : CompareExchange) (h : AreExchangeRegisters keeps z.registers) where
  abbrev g : ExchangeRegisters
  g = z.registers

  abbrev held : ℕ → Bool
  held = all_but g.old (all_but g.flag keeps)

  held_is : (q : ℕ) → keeps q ≡ true → (q ≢ g.old) × (q ≢ g.flag) → held q ≡ true
  held_is q k ne = is_held (all_but g.flag keeps) g.old q (is_held keeps g.flag q k ne.1) ne.0

  apart_of : (q : ℕ) → held q ≡ true → (keeps q ≡ true) × (q ≢ g.old) × (q ≢ g.flag)
  apart_of q e = (let a = apart (all_but g.flag keeps) g.old q e in let b = apart keeps g.flag q a.0 in (b.0, a.1, b.1))

  -- the code of either, but for what stands where
  abbrev code_by : Bool → ℕ → List RvInstr → ℕ → PairExchange RvInstr
  code_by weak distance behind back =
      record {
        weak = weak;
        link = LoadReserved Double acquire g.old g.address;
        between = Branch condition.NotEqual g.old g.expected (pos distance) ∷ [];
        pair = StoreConditional Double release g.flag g.desired g.address;
        behind = behind;
        old = g.old;
        rest = Zeros;
        expected = g.expected;
        mask = None;
        failed = g.flag;
        holds = held;
        back = back;
        most = 3;
      }

  abbrev strong : PairExchange RvInstr
  strong = code_by false 3 (Branch condition.NotEqual g.flag 0 (negsuc 2) ∷ Binary binary_op.Subtract g.flag g.old g.expected ∷ Unary unary_op.IsZero g.flag g.flag ∷ []) 1

  abbrev weak : PairExchange RvInstr
  weak = code_by true 4 (Unary unary_op.IsZero g.flag g.flag ∷ Jump (pos 2) ∷ Li g.flag 0 ∷ []) 0

  -- the registers once the number is linked
  record Reads (regs : ℕ → ℕ) (number : ℕ) (c : Processor) : Type 0 where
    pub holds : Keeps held c.regs regs
    pub old : c.regs g.old ≡ number
    pub small : number < 2 ^ 64
    pub word : regs g.expected < 2 ^ 64

  reads_flag : (regs : ℕ → ℕ) (number n : ℕ) (c : Processor) → Reads regs number c → Reads regs number (go_with g.flag n c)
  reads_flag regs number n c s = record { holds = λ q e. at_other c.regs g.flag n q (apart_of q e).2 ∙ s.holds q e; old = at_other c.regs g.flag n g.old h.apart ∙ s.old; small = s.small; word = s.word }

  read_old : (regs : ℕ → ℕ) (number : ℕ) (c : Processor) → Reads regs number c → read g.old c ≡ number
  read_old regs number c s = read_is g.old c h.some_old ∙ s.old

  read_expected : (regs : ℕ → ℕ) (number : ℕ) (c : Processor) → Reads regs number c → read g.expected c ≡ regs g.expected
  read_expected regs number c s = read_is g.expected c h.some_expected ∙ s.holds g.expected (held_is g.expected h.expected h.expected_stays)

  -- what it answers
  answer : (regs : ℕ → ℕ) (number : ℕ) (stored : Bool) (c : Processor) → Reads regs number c → c.regs g.flag ≡ number_of_flag stored → Keeps keeps c.regs ((exchange g).gives regs number stored)
  answer regs number stored c s flag =
      with_result keeps g.flag c.regs (at_place regs g.old (number % 2 ^ 64)) (number_of_flag stored) (with_result (all_but g.flag keeps) g.old c.regs regs (number % 2 ^ 64) s.holds (s.old ∙ sym (cut_same number s.small))) flag

  differ : (regs : ℕ → ℕ) (number : ℕ) (c : Processor) → Reads regs number c → number ≢ regs g.expected → holds condition.NotEqual (read g.old c) (read g.expected c) ≡ true
  differ regs number c s ne = ap (λ m. not (nat_eq m (read g.expected c))) (read_old regs number c s) ∙ ap (λ m. not (nat_eq number m)) (read_expected regs number c s) ∙ ap not (ne_eqb number (regs g.expected) ne)

  agree : (regs : ℕ → ℕ) (number : ℕ) (c : Processor) → Reads regs number c → number ≡ regs g.expected → holds condition.NotEqual (read g.old c) (read g.expected c) ≡ false
  agree regs number c s same = ap (λ m. not (nat_eq m (read g.expected c))) (read_old regs number c s) ∙ ap (λ m. not (nat_eq number m)) (read_expected regs number c s) ∙ ap not (eq-eqb number (regs g.expected) same)

  module _ (code : PairExchange RvInstr) where
    abbrev Over : ℕ → (ℕ → ℕ) → Processor → Type 0
    Over start after c = IsThrough rv_kind keeps (exchanging_on z) (exchange g) code start after c

    abbrev Gone : ℕ → (ℕ → ℕ) → ℕ → Bool → ℕ → Processor → Type 0
    Gone start regs number stored steps c = Way (laid rv_kind keeps (exchanging_on z) (exchange g) code start) (λ b. Over start ((exchange g).gives regs number stored) b) steps c

  -- the strong one: the difference of the two numbers tells
  module _ (start : ℕ) (regs : ℕ → ℕ) (number : ℕ) where
    tail : (stored : Bool) (c : Processor) → c.place ≡ start + 4 → Reads regs number c → one_if (nat_eq ((number + (2 ^ 64 - regs g.expected)) % 2 ^ 64) 0) ≡ number_of_flag stored → Gone strong start regs number stored 2 c
    tail stored c at s is =
        let apart_by = (read g.old c + (2 ^ 64 - read g.expected c)) % 2 ^ 64 in
        let c1 : Processor = go_with g.flag apart_by c in
        let c2 : Processor = go_with g.flag (one_if (nat_eq (read g.flag c1) 0)) c1 in
        let apart_is : read g.flag c1 ≡ (number + (2 ^ 64 - regs g.expected)) % 2 ^ 64 =
        read_is g.flag c1 h.some_flag ∙ at_same c.regs g.flag apart_by ∙ ap (λ m. (m + (2 ^ 64 - read g.expected c)) % 2 ^ 64) (read_old regs number c s) ∙ ap (λ m. (number + (2 ^ 64 - m)) % 2 ^ 64) (read_expected regs number c s) in
        record {
          offset = 4;
          instr = Binary binary_op.Subtract g.flag g.old g.expected;
          after = c1;
          place = at;
          stands = refl;
          leaves = inl refl;
          next = record {
            offset = 5;
            instr = Unary unary_op.IsZero g.flag g.flag;
            after = c2;
            place = (let e : c.place + 1 ≡ start + 5 = omega (arith, at) in e);
            stands = refl;
            leaves = inl refl;
            next = record {
              place = (let e : c.place + 1 + 1 ≡ start + 6 = omega (arith, at) in e);
              gives = answer regs number stored c2 (reads_flag regs number _ c1 (reads_flag regs number _ c s)) (at_same c1.regs g.flag _ ∙ ap (λ m. one_if (nat_eq m 0)) apart_is ∙ is);
            };
          };
        }

  -- the weak one: whether the pair store failed tells
  module _ (start : ℕ) (regs : ℕ → ℕ) (number : ℕ) where
    finish : (stored : Bool) (n : ℕ) (c : Processor) → c.place ≡ start + 3 → c.place + 3 < 2 ^ 32 → Reads regs number c → c.regs g.flag ≡ n → one_if (nat_eq n 0) ≡ number_of_flag stored → Gone weak start regs number stored 2 c
    finish stored n c at small s flag is =
        let c1 : Processor = go_with g.flag (one_if (nat_eq (read g.flag c) 0)) c in
        let place1 : c1.place ≡ start + 4 = (let e : c.place + 1 ≡ start + 4 = omega (arith, at) in e) in
        let room1 : c1.place + 2 < 2 ^ 32 = (let e : c.place + 1 + 2 < 2 ^ 32 = omega (arith, small) in e) in
        let s1 = reads_flag regs number (one_if (nat_eq (read g.flag c) 0)) c s in
        record {
          offset = 3;
          instr = Unary unary_op.IsZero g.flag g.flag;
          after = c1;
          place = at;
          stands = refl;
          leaves = inl refl;
          next = record {
            offset = 4;
            instr = Jump (pos 2);
            after = go_to (start + 6) c1;
            place = place1;
            stands = refl;
            leaves = inr (start + 6, inl (ap effect.Jump (ahead c1.place start 4 2 place1 room1)), refl);
            next = record {
              place = refl;
              gives = answer regs number stored c1 s1 (at_same c.regs g.flag _ ∙ ap (λ m. one_if (nat_eq m 0)) (read_is g.flag c h.some_flag ∙ flag) ∙ is);
            };
          };
        }

  reads_at : (regs : ℕ → ℕ) (number place : ℕ) (c : Processor) → Reads regs number c → Reads regs number (go_to place c)
  reads_at regs number place c s = record { holds = s.holds; old = s.old; small = s.small; word = s.word }

  module _ (start : ℕ) (c : Processor) (regs : ℕ → ℕ) (number : ℕ) (w : Shared) (fit : (exchanging_on z).fits regs w) where
    abbrev Links : PairExchange RvInstr → Type 0
    Links code = HasLinked rv_kind keeps (exchanging_on z) (exchange g) code start regs number c

    linked : (weaker : Bool) (distance : ℕ) (rest : List RvInstr) (back : ℕ) → Links (code_by weaker distance rest back) → Reads regs number c
    linked weaker distance rest back s = record { holds = s.holds; old = s.old; small = s.small; word = fit.1.0 }

    unlike : number ≢ regs g.expected % 2 ^ 64 → number ≢ regs g.expected
    unlike ne same = ne (same ∙ sym (cut_same (regs g.expected) fit.1.0))

    strong_leaves : Links strong → number ≢ regs g.expected % 2 ^ 64 → Gone strong start regs number false 3 c
    strong_leaves q ne =
        let s = linked false 3 strong.behind 1 q in
        let room = q.room in
        let at = q.place in
        record {
          offset = 1;
          instr = Branch condition.NotEqual g.old g.expected (pos 3);
          after = go_to (start + 4) c;
          place = at;
          stands = refl;
          leaves = taken c condition.NotEqual g.old g.expected (pos 3) (start + 4) (differ regs number c s (unlike ne)) (ahead c.place start 1 3 at (omega (arith, at, room)));
          next = tail start regs number false (go_to (start + 4) c) refl (reads_at regs number (start + 4) c s) (difference_some number (regs g.expected) (unlike ne) s.small s.word);
        }

    weak_leaves : Links weak → number ≢ regs g.expected % 2 ^ 64 → Gone weak start regs number false 2 c
    weak_leaves q ne =
        let s = linked true 4 weak.behind 0 q in
        let room = q.room in
        let at = q.place in
        let c1 : Processor = go_to (start + 5) c in
        record {
          offset = 1;
          instr = Branch condition.NotEqual g.old g.expected (pos 4);
          after = c1;
          place = at;
          stands = refl;
          leaves = taken c condition.NotEqual g.old g.expected (pos 4) (start + 5) (differ regs number c s (unlike ne)) (ahead c.place start 1 4 at (omega (arith, at, room)));
          next = record {
            offset = 5;
            instr = Li g.flag 0;
            after = go_with g.flag 0 c1;
            place = refl;
            stands = refl;
            leaves = inl refl;
            next = record {
              place = (let e : start + 5 + 1 ≡ start + 6 = omega arith in e);
              gives = answer regs number false (go_with g.flag 0 c1) (reads_flag regs number 0 c1 (reads_at regs number (start + 5) c s)) (at_same c.regs g.flag 0);
            };
          };
        }

    -- at the pair store
    abbrev c2 : Processor
    c2 = go_to (c.place + 1) c

    stores : Reads regs number c → rv_kind.effect_of (StoreConditional Double release g.flag g.desired g.address) c2 ≡ effect.PairStore g.flag (regs g.address) 8 (regs g.desired % 2 ^ 64)
    stores s =
        ap (λ a. effect.PairStore g.flag a 8 (read g.desired c2)) (read_is g.address c2 h.some_address ∙ s.holds g.address (held_is g.address h.address h.address_stays))
        ∙ ap (λ m. effect.PairStore g.flag (regs g.address) 8 m) (read_is g.desired c2 h.some_desired ∙ s.holds g.desired (held_is g.desired h.desired h.desired_stays) ∙ sym (cut_same (regs g.desired) fit.1.1.0))

    flag_is : (n : ℕ) → holds condition.NotEqual (read g.flag (go_with g.flag n c2)) (read 0 (go_with g.flag n c2)) ≡ not (nat_eq n 0)
    flag_is n = ap (λ m. not (nat_eq m 0)) (read_is g.flag (go_with g.flag n c2) h.some_flag ∙ at_same c.regs g.flag n)

    strong_pair : Links strong → number ≡ regs g.expected % 2 ^ 64 → AtPair rv_kind keeps (exchanging_on z) (exchange g) strong start regs number c2
    strong_pair q same =
        let s = linked false 3 strong.behind 1 q in
        let at = q.place in
        let room = q.room in
        let s2 = reads_at regs number (c.place + 1) c s in
        let c3 : Processor = go_with g.flag 0 c2 in
        let s3 = reads_flag regs number 0 c2 s2 in
        let place3 : c3.place ≡ start + 3 = (let e : c.place + 1 + 1 ≡ start + 3 = omega (arith, at) in e) in
        let c4 : Processor = go_to (c3.place + 1) c3 in
        let place4 : c4.place ≡ start + 4 = (let e : c.place + 1 + 1 + 1 ≡ start + 4 = omega (arith, at) in e) in
        let f3 : Processor = go_with g.flag 1 c2 in
        let small3 : f3.place < 2 ^ 32 = (let e : c.place + 1 + 1 < 2 ^ 32 = omega (arith, at, room) in e) in
        record {
          place = (let e : c.place + 1 ≡ start + 2 = omega (arith, at) in e);
          stores = λ w' fit'. stores s;
          done = record {
            steps = 3;
            few = omega arith;
            way = subst (λ m. Gone strong start regs m true 3 c3) same
                (record {
                  offset = 3;
                  instr = Branch condition.NotEqual g.flag 0 (negsuc 2);
                  after = c4;
                  place = place3;
                  stands = refl;
                  leaves = passed c3 condition.NotEqual g.flag 0 (negsuc 2) (flag_is 0);
                  next = tail start regs number true c4 place4 (reads_at regs number (c3.place + 1) c3 s3) (difference_none number (regs g.expected) (same ∙ cut_same (regs g.expected) s.word) s.word);
                });
          };
          fails = record {
            steps = 1;
            few = omega arith;
            way = record {
              offset = 3;
              instr = Branch condition.NotEqual g.flag 0 (negsuc 2);
              after = go_to start f3;
              place = place3;
              stands = refl;
              leaves = taken f3 condition.NotEqual g.flag 0 (negsuc 2) start (flag_is 1) (behind f3.place start place3 small3);
              next = record { place = refl; holds = (reads_flag regs number 1 c2 s2).holds };
            };
          };
        }

    weak_pair : Links weak → number ≡ regs g.expected % 2 ^ 64 → AtPair rv_kind keeps (exchanging_on z) (exchange g) weak start regs number c2
    weak_pair q same =
        let s = linked true 4 weak.behind 0 q in
        let at = q.place in
        let room = q.room in
        let s2 = reads_at regs number (c.place + 1) c s in
        let place3 : c.place + 1 + 1 ≡ start + 3 = omega (arith, at) in
        let room3 : c.place + 1 + 1 + 3 < 2 ^ 32 = omega (arith, at, room) in
        record {
          place = (let e : c.place + 1 ≡ start + 2 = omega (arith, at) in e);
          stores = λ w' fit'. stores s;
          done = record { steps = 2; few = omega arith; way = subst (λ m. Gone weak start regs m true 2 (go_with g.flag 0 c2)) same (finish start regs number true 0 (go_with g.flag 0 c2) place3 room3 (reads_flag regs number 0 c2 s2) (at_same c.regs g.flag 0) refl) };
          fails = record { steps = 2; few = omega arith; way = subst (λ m. Gone weak start regs m false 2 (go_with g.flag 1 c2)) same (finish start regs number false 1 (go_with g.flag 1 c2) place3 room3 (reads_flag regs number 1 c2 s2) (at_same c.regs g.flag 1) refl) };
        }

  agrees : (start : ℕ) (c : Processor) (regs : ℕ → ℕ) (number : ℕ) (w : Shared) (fit : (exchanging_on z).fits regs w) → number ≡ regs g.expected % 2 ^ 64 → Reads regs number c → holds condition.NotEqual (read g.old c) (read g.expected c) ≡ false
  agrees start c regs number w fit same s = agree regs number c s (same ∙ cut_same (regs g.expected) fit.1.0)

  address_is : (c : Processor) (regs : ℕ → ℕ) → Keeps held c.regs regs → rv_kind.effect_of (LoadReserved Double acquire g.old g.address) c ≡ effect.Link g.old (regs g.address) 8 Zeros
  address_is c regs s = ap (λ a. effect.Link g.old a 8 Zeros) (read_is g.address c h.some_address ∙ s g.address (held_is g.address h.address h.address_stays))

  strong_exchanges : z.weak ≡ false → Exchanges rv_kind keeps (exchanging_on z) (exchange g) strong bytes_world
  strong_exchanges is =
      record {
        exchange = subst (λ b. IsExchange bytes_world (exchange g) b (exchanging_on z)) is (is_exchange_of z);
        unbuffered = refl;
        few = omega arith;
        kept = λ q e. (let a = apart_of q e in (a.0, a.1));
        fills = λ before number. refl;
        compares = λ c regs number w fit s small. compares_whole 8 number g.expected c regs (s g.expected (held_is g.expected h.expected h.expected_stays)) small;
        links = λ c regs w fit s. address_is c regs s;
        differs = λ start c regs number w fit q ne. record { steps = 3; few = omega arith; way = strong_leaves start c regs number w fit q ne };
        equals = λ start c regs number w fit q same.
            record {
              forth = 1;
              few = omega arith;
              leads = record {
                steps = 1;
                few = omega arith;
                way = record {
                  offset = 1;
                  instr = Branch condition.NotEqual g.old g.expected (pos 3);
                  after = go_to (c.place + 1) c;
                  place = q.place;
                  stands = refl;
                  leaves = passed c condition.NotEqual g.old g.expected (pos 3) (agrees start c regs number w fit same (linked start c regs number w fit false 3 strong.behind 1 q));
                  next = strong_pair start c regs number w fit q same;
                };
              };
            };
      }

  weak_exchanges : z.weak ≡ true → Exchanges rv_kind keeps (exchanging_on z) (exchange g) weak bytes_world
  weak_exchanges is =
      record {
        exchange = subst (λ b. IsExchange bytes_world (exchange g) b (exchanging_on z)) is (is_exchange_of z);
        unbuffered = refl;
        few = omega arith;
        kept = λ q e. (let a = apart_of q e in (a.0, a.1));
        fills = λ before number. refl;
        compares = λ c regs number w fit s small. compares_whole 8 number g.expected c regs (s g.expected (held_is g.expected h.expected h.expected_stays)) small;
        links = λ c regs w fit s. address_is c regs s;
        differs = λ start c regs number w fit q ne. record { steps = 2; few = omega arith; way = weak_leaves start c regs number w fit q ne };
        equals = λ start c regs number w fit q same.
            record {
              forth = 1;
              few = omega arith;
              leads = record {
                steps = 1;
                few = omega arith;
                way = record {
                  offset = 1;
                  instr = Branch condition.NotEqual g.old g.expected (pos 4);
                  after = go_to (c.place + 1) c;
                  place = q.place;
                  stands = refl;
                  leaves = passed c condition.NotEqual g.old g.expected (pos 4) (agrees start c regs number w fit same (linked start c regs number w fit true 4 weak.behind 0 q));
                  next = weak_pair start c regs number w fit q same;
                };
              };
            };
      }

-- by the law of such loops
abbrev pub Law : Type 0
Law = (case : CompareExchange) (keeps : ℕ → Bool) (x : Exchange Shared) (code : PairExchange RvInstr) → Lawful bytes_world → Exchanges rv_kind keeps (exchanging_on case) x code bytes_world
    → Expands rv_kind bytes_world code.most keeps (exchange_size code) (λ start. pair_code code) (exchanging_on case)

pub expands : Law → (keeps : ℕ → Bool) (acquire release : Ending) (z : CompareExchange) → AreExchangeRegisters keeps z.registers → Expands rv_kind bytes_world 3 keeps 6 (λ start. exchange_code acquire release z.weak z.registers) (exchanging_on z)
expands law keeps acquire release z h = go z.weak refl
  where
    go : (weaker : Bool) → z.weak ≡ weaker → Expands rv_kind bytes_world 3 keeps 6 (λ start. exchange_code acquire release weaker z.registers) (exchanging_on z)
    go true is = law z keeps (exchange z.registers) (weak keeps acquire release z h) bytes_lawful (weak_exchanges keeps acquire release z h is)
    go false is = law z keeps (exchange z.registers) (strong keeps acquire release z h) bytes_lawful (strong_exchanges keeps acquire release z h is)
