-- The linked load, the comparison, the pair store and what follows do what a compare-exchange says.
use Rattle.std.proofs.Common.{◌≡◌, ℕ, suc, ◌+◌, ◌-◌, ◌%◌, ◌^◌, ◌<◌, ◌≤◌, Bool, true, false, [], ◌∷◌, ◌++◌, length, None, refl, sym, ap, ◌∙◌, subst, inl, inr, arith}
use Rattle.std.specs.Prelude.{◌≢◌, if◌then◌else◌, not, nat_eq, pos, negsuc}
use Rattle.std.proofs.lemmas.Bool.{eq-eqb, ne_eqb}
use Rattle.ax_words.specs.declared.order.Order.{Order}
use Rattle.ax_words.specs.declared.width.Width.{Width}
use Rattle.ax_words.specs.declared.width.Width.TheVariants.{W8, W16, W32, W64, W128}
use Rattle.ax_words.specs.Width.{bits_of, bytes_of}
use Rattle.ax_source_run.specs.SourceValues.{number_of_flag}
use Rattle.ax_store.specs.Storage.{at_place}
use Rattle.ax_isa.specs.declared.effects.Effect.TheVariants as effect
use Rattle.ax_isa.specs.Numbers.{displaced}
use Rattle.ax_isa.specs.Processor.{Processor}
use Rattle.ax_isa.specs.Steps.{go_to, go_with}
use Rattle.ax_isa.proofs.Functions.{at_same, at_other}
use Rattle.ax_rv.specs.Arithmetic.{one_if}
use Rattle.ax_rv.specs.declared.instructions.Binary.TheVariants as binary
use Rattle.ax_rv.specs.declared.instructions.Condition.TheVariants as condition
use Rattle.ax_rv.specs.declared.instructions.RvInstr.{RvInstr}
use Rattle.ax_rv.specs.declared.instructions.RvInstr.TheVariants.{Binary, Branch, Jump, Li, StoreConditional, Unary}
use Rattle.ax_rv.specs.declared.instructions.Unary.TheVariants as unary
use Rattle.ax_rv.specs.Instructions.{effect_of, rv_kind, size_rest}
use Rattle.ax_rv.specs.Skeleton.{size_bytes}
use Rattle.ax_expand.specs.Bytes.{bytes_world}
use Rattle.ax_expand.specs.Expands.{Expands}
use Rattle.ax_expand.specs.Operation.{Keeps, Operation}
use Rattle.ax_expand.specs.Private.{went}
use Rattle.ax_expand.specs.Shared.{Shared}
use Rattle.ax_expand.specs.World.{Lawful}
use Rattle.ax_expand.proofs.Bytes.{bytes_lawful}
use Rattle.ax_emit_rv.specs.Laws.{is_kept}
use Rattle.ax_loops.specs.Exchanging.{Exchange}
use Rattle.ax_loops.specs.Moving.{nowhere}
use Rattle.ax_loops.specs.PairExchange.{AtPair, Exchanges, HasLinked, IsThrough, PairExchange, Pairs, exchange_code as pair_code, exchange_size}
use Rattle.ax_loops.specs.Registers.{all_but}
use Rattle.ax_loops.specs.Ways.{Laid, Leads, Leaves, Way}
use Rattle.ax_loops.proofs.Registers.{apart, compares_whole, with_result}
use Rattle.ax_mask.specs.Pairs.{store_ending}
use Rattle.ax_llsc.specs.Loops.{answer, clear, comparand, different, exchange_code, exchange_expansion, link, size_of}
use Rattle.ax_llsc.specs.Codes.{raw_of}
use Rattle.ax_llsc.proofs.Pairs.{Clears, Extends, clear_short, clear_way, extends_of, links_at, not_kept}
use Rattle.ax_llsc.proofs.Ways.{IsAtomicWidth, atomic_width}
use Rattle.ax_llsc.proofs.Exchanging.{exchange, exchanging, is_exchange_of}

-- the difference of two numbers is 0 where they are equal
difference_none : (a b : ℕ) → a ≡ b → b < 2 ^ 64 → one_if (nat_eq ((a + (2 ^ 64 - b)) % 2 ^ 64) 0) ≡ 1
difference_none a b e small = (let f : (a + (2 ^ 64 - b)) % 2 ^ 64 ≡ 0 = omega (arith, e, small) in ap one_if (eq-eqb _ _ f))

difference_some : (a b : ℕ) → a ≢ b → a < 2 ^ 64 → b < 2 ^ 64 → one_if (nat_eq ((a + (2 ^ 64 - b)) % 2 ^ 64) 0) ≡ 0
difference_some a b ne sa sb = ap one_if (ne_eqb _ _ (λ f. ne (omega (arith, f, sa, sb))))

ahead : (place start k d : ℕ) → place ≡ start + k → place + d < 2 ^ 32 → displaced place (pos d) ≡ start + (k + d)
ahead place start k d h small = (let e : (place + d) % 2 ^ 64 ≡ start + (k + d) = omega (arith, h, small) in e)

behind : (place start : ℕ) → place ≡ start + 4 → place < 2 ^ 32 → displaced place (negsuc 3) ≡ start
behind place start h small = (let e : (place + (2 ^ 64 - 1 - 3)) % 2 ^ 64 ≡ start = omega (arith, h, small) in e)

-- the branch back, by whether the pair store failed
goes_back : (c : Processor) (start : ℕ) → c.place ≡ start + 4 → c.place < 2 ^ 32 → c.regs 16 ≡ 1 → Leaves (effect_of (Branch condition.NotEqual 16 0 (negsuc 3)) c) c (go_to start c)
goes_back c start at small failed = inr (start, inl (ap (λ n. if not (nat_eq n 0) then effect.Jump (displaced c.place (negsuc 3)) else effect.Nop) failed ∙ ap effect.Jump (behind c.place start at small)), refl)

goes_on : (c : Processor) → c.regs 16 ≡ 0 → Leaves (effect_of (Branch condition.NotEqual 16 0 (negsuc 3)) c) c (go_to (c.place + 1) c)
goes_on c stored = inr (c.place + 1, inr (ap (λ n. if not (nat_eq n 0) then effect.Jump (displaced c.place (negsuc 3)) else effect.Nop) stored, refl), refl)

clears_at : (width : Width) (order : Order) (weak : Bool) → Clears (exchange_code width order weak) 7 width
clears_at W8 order weak = tt
clears_at W16 order weak = tt
clears_at W64 order weak = tt
clears_at W128 order weak = tt
clears_at W32 order true = (refl, refl)
clears_at W32 order false = (refl, refl)

abbrev held : ℕ → Bool
held = all_but 15 (all_but 16 is_kept)

held_apart : (q : ℕ) → held q ≡ true → (is_kept q ≡ true) × (q ≢ 15) × (q ≢ 16)
held_apart q e = (let a = apart (all_but 16 is_kept) 15 q e in let b = apart is_kept 16 q a.0 in (b.0, a.1, b.1))

-- the law of such code
abbrev pub Law : Operation Shared → Type 0
Law o = (keeps : ℕ → Bool) (x : Exchange Shared) (code : PairExchange RvInstr) → Lawful bytes_world → Exchanges rv_kind keeps o x code bytes_world → Expands rv_kind bytes_world code.most keeps (exchange_size code) (λ start. pair_code code) o

module _ (zabha zacas : Bool) (width : Width) (order : Order) (h : IsAtomicWidth width) (f : Extends width) where
  abbrev o : Bool → Operation Shared
  o weak = exchanging zabha zacas order weak width

  abbrev code_by : Bool → ℕ → PairExchange RvInstr
  code_by weak back =
      record {
        weak = weak;
        link = link width order;
        between = comparand width ∷ Branch condition.NotEqual 15 5 (pos (different weak)) ∷ [];
        pair = StoreConditional (size_of width) (store_ending order) 16 12 10;
        behind = answer weak ++ clear 15 width;
        old = 15;
        rest = size_rest (size_of width);
        expected = 11;
        mask = None;
        failed = 16;
        holds = held;
        back = back;
        most = 6;
      }

  abbrev strong : PairExchange RvInstr
  strong = code_by false 1

  abbrev weakly : PairExchange RvInstr
  weakly = code_by true 0

  abbrev cut : (ℕ → ℕ) → ℕ
  cut regs = regs 11 % 2 ^ bits_of width

  -- the registers once the number is linked and the comparand is there
  record Reads (regs : ℕ → ℕ) (number : ℕ) (c : Processor) : Type 0 where
    pub holds : Keeps held c.regs regs
    pub old : c.regs 15 ≡ raw_of width number
    pub comparand : c.regs 5 ≡ raw_of width (cut regs)
    pub small : number < 2 ^ bits_of width

  reads_flag : (regs : ℕ → ℕ) (number n : ℕ) (c : Processor) → Reads regs number c → Reads regs number (go_with 16 n c)
  reads_flag regs number n c s =
      record {
        holds = λ q e. at_other c.regs 16 n q (held_apart q e).2 ∙ s.holds q e;
        old = at_other c.regs 16 n 15 (λ e. omega (arith, e)) ∙ s.old;
        comparand = at_other c.regs 16 n 5 (λ e. omega (arith, e)) ∙ s.comparand;
        small = s.small;
      }

  reads_at : (regs : ℕ → ℕ) (number place : ℕ) (c : Processor) → Reads regs number c → Reads regs number (go_to place c)
  reads_at regs number place c s = record { holds = s.holds; old = s.old; comparand = s.comparand; small = s.small }

  -- the comparison
  is_other : (regs : ℕ → ℕ) (number : ℕ) (c : Processor) → Reads regs number c → number ≢ cut regs → c.regs 15 ≢ c.regs 5
  is_other regs number c s ne e = ne (f.alike number (cut regs) s.small (f.cut (regs 11)) (sym s.old ∙ e ∙ s.comparand))

  module _ (weak : Bool) (back start : ℕ) where
    abbrev code : PairExchange RvInstr
    code = code_by weak back

    abbrev Over : (ℕ → ℕ) → Processor → Type 0
    Over after c = IsThrough rv_kind is_kept (o weak) (exchange width) code start after c

    abbrev laid : Laid RvInstr
    laid = record { kind = rv_kind; code = pair_code code; start = start }

    abbrev Gone : (ℕ → ℕ) → ℕ → Bool → ℕ → Processor → Type 0
    Gone regs number stored steps c = Way laid (λ b. Over ((exchange width).gives regs number stored) b) steps c

    -- the comparand is computed
    abbrev compared : Processor → Processor
    compared c = go_with 5 (raw_of width (c.regs 11 % 2 ^ bits_of width)) c

    first : (Then : Processor → Type 0) (steps : ℕ) (c : Processor) → c.place ≡ start + 1 → Way laid Then steps (compared c) → Way laid Then (suc steps) c
    first Then steps c at next =
        record { offset = 1; instr = comparand width; after = compared c; place = at; stands = refl; leaves = inl (ap (λ e. went nowhere e (record { cpu = c; frame = λ b. 0 })) (f.compares c)); next = next }

    first_reads : (regs : ℕ → ℕ) (number : ℕ) (c : Processor) → HasLinked rv_kind is_kept (o weak) (exchange width) code start regs number c → Reads regs number (compared c)
    first_reads regs number c q =
        let v = raw_of width (c.regs 11 % 2 ^ bits_of width) in
        record {
          holds = λ r e. at_other c.regs 5 v r (not_kept 5 r refl (held_apart r e).0) ∙ q.holds r e;
          old = at_other c.regs 5 v 15 (λ e. omega (arith, e)) ∙ q.old ∙ (atomic_width width h).raw_is 0 number;
          comparand = at_same c.regs 5 v ∙ ap (λ m. raw_of width (m % 2 ^ bits_of width)) (q.holds 11 refl);
          small = q.small;
        }

    -- the branch where the numbers differ, and where they don't
    taken : (c : Processor) (place : ℕ) → c.regs 15 ≢ c.regs 5 → displaced c.place (pos (different weak)) ≡ place → Leaves (effect_of (Branch condition.NotEqual 15 5 (pos (different weak))) c) c (go_to place c)
    taken c place ne to = inr (place, inl (ap (λ t. if not t then effect.Jump (displaced c.place (pos (different weak))) else effect.Nop) (ne_eqb (c.regs 15) (c.regs 5) ne) ∙ ap effect.Jump to), refl)

    passed : (c : Processor) → c.regs 15 ≡ c.regs 5 → Leaves (effect_of (Branch condition.NotEqual 15 5 (pos (different weak))) c) c (go_to (c.place + 1) c)
    passed c same = inr (c.place + 1, inr (ap (λ t. if not t then effect.Jump (displaced c.place (pos (different weak))) else effect.Nop) (eq-eqb (c.regs 15) (c.regs 5) same), refl), refl)

    -- the flag is there, and the upper bits are to be cleared
    clears : (place_is : exchange_size code ≡ 7 + length (clear 15 width)) (stands : Clears (pair_code code) 7 width) (regs : ℕ → ℕ) (number : ℕ) (stored : Bool) (c : Processor) → c.place ≡ start + 7 → Reads regs number c → c.regs 16 ≡ number_of_flag stored → Gone regs number stored (length (clear 15 width)) c
    clears place_is stands regs number stored c at s flag =
        clear_way (pair_code code) start 7 (λ b. Over ((exchange width).gives regs number stored) b) width stands number c s.small s.old at
        (λ after is.
        let found : Keeps (all_but 16 is_kept) after.regs (at_place regs 15 (number % 2 ^ 64)) =
        with_result (all_but 16 is_kept) 15 after.regs regs (number % 2 ^ 64) (λ q e. is.others q (held_apart q e).1 ∙ s.holds q e) (is.is ∙ sym (f.whole number s.small)) in
        record {
          place = is.at ∙ (let e : start + 7 + length (clear 15 width) ≡ start + (7 + length (clear 15 width)) = omega arith in e) ∙ ap (λ n. start + n) (sym place_is);
          gives = with_result is_kept 16 after.regs (at_place regs 15 (number % 2 ^ 64)) (number_of_flag stored) found (is.others 16 (λ e. omega (arith, e)) ∙ flag);
        })

  size_is : (weak : Bool) (back : ℕ) → exchange_size (code_by weak back) ≡ 7 + length (clear 15 width)
  size_is true back = omega arith
  size_is false back = omega arith

  clears_in : (weak : Bool) (back : ℕ) → Clears (pair_code (code_by weak back)) 7 width
  clears_in true back = clears_at width order true
  clears_in false back = clears_at width order false

  module _ (start : ℕ) (regs : ℕ → ℕ) (number : ℕ) where
    -- a strong one: the difference of the two numbers tells
    tail : (stored : Bool) (c : Processor) → c.place ≡ start + 5 → Reads regs number c → one_if (nat_eq ((raw_of width number + (2 ^ 64 - raw_of width (cut regs))) % 2 ^ 64) 0) ≡ number_of_flag stored → Gone false 1 start regs number stored (suc (suc (length (clear 15 width)))) c
    tail stored c at s is =
        let apart_by = (c.regs 15 + (2 ^ 64 - c.regs 5)) % 2 ^ 64 in
        let c1 : Processor = go_with 16 apart_by c in
        let c2 : Processor = go_with 16 (one_if (nat_eq (c1.regs 16) 0)) c1 in
        let apart_is : c1.regs 16 ≡ (raw_of width number + (2 ^ 64 - raw_of width (cut regs))) % 2 ^ 64 = at_same c.regs 16 apart_by ∙ ap (λ m. (m + (2 ^ 64 - c.regs 5)) % 2 ^ 64) s.old ∙ ap (λ m. (raw_of width number + (2 ^ 64 - m)) % 2 ^ 64) s.comparand in
        record {
          offset = 5;
          instr = Binary binary.Subtract 16 15 5;
          after = c1;
          place = at;
          stands = refl;
          leaves = inl refl;
          next = record {
            offset = 6;
            instr = Unary unary.IsZero 16 16;
            after = c2;
            place = (let e : c.place + 1 ≡ start + 6 = omega (arith, at) in e);
            stands = refl;
            leaves = inl refl;
            next = clears false 1 start (size_is false 1) (clears_in false 1) regs number stored c2 (let e : c.place + 1 + 1 ≡ start + 7 = omega (arith, at) in e) (reads_flag regs number _ c1 (reads_flag regs number _ c s)) (at_same c1.regs 16 _ ∙ ap (λ m. one_if (nat_eq m 0)) apart_is ∙ is);
          };
        }

    -- a weak one: whether the pair store failed tells
    finish : (stored : Bool) (n : ℕ) (c : Processor) → c.place ≡ start + 4 → c.place + 3 < 2 ^ 32 → Reads regs number c → c.regs 16 ≡ n → one_if (nat_eq n 0) ≡ number_of_flag stored → Gone true 0 start regs number stored (suc (suc (length (clear 15 width)))) c
    finish stored n c at small s flag is =
        let c1 : Processor = go_with 16 (one_if (nat_eq (c.regs 16) 0)) c in
        let place1 : c1.place ≡ start + 5 = (let e : c.place + 1 ≡ start + 5 = omega (arith, at) in e) in
        let room1 : c1.place + 2 < 2 ^ 32 = (let e : c.place + 1 + 2 < 2 ^ 32 = omega (arith, small) in e) in
        record {
          offset = 4;
          instr = Unary unary.IsZero 16 16;
          after = c1;
          place = at;
          stands = refl;
          leaves = inl refl;
          next = record {
            offset = 5;
            instr = Jump (pos 2);
            after = go_to (start + 7) c1;
            place = place1;
            stands = refl;
            leaves = inr (start + 7, inl (ap effect.Jump (ahead c1.place start 5 2 place1 room1)), refl);
            next = clears true 0 start (size_is true 0) (clears_in true 0) regs number stored (go_to (start + 7) c1) refl (reads_at regs number (start + 7) c1 (reads_flag regs number _ c s)) (at_same c.regs 16 _ ∙ ap (λ m. one_if (nat_eq m 0)) flag ∙ is);
          };
        }

  abbrev Linked : Bool → ℕ → ℕ → (ℕ → ℕ) → ℕ → Processor → Type 0
  Linked weak back start regs number c = HasLinked rv_kind is_kept (o weak) (exchange width) (code_by weak back) start regs number c

  module _ (start : ℕ) (c : Processor) (regs : ℕ → ℕ) (number : ℕ) where
    abbrev c1 : Processor
    c1 = go_with 5 (raw_of width (c.regs 11 % 2 ^ bits_of width)) c

    strong_leaves : Linked false 1 start regs number c → number ≢ cut regs → Gone false 1 start regs number false (suc (suc (suc (suc (length (clear 15 width)))))) c
    strong_leaves q ne =
        let s = first_reads false 1 start regs number c q in
        let at = q.place in
        let room = q.room in
        let size = size_is false 1 in
        let place1 : c1.place ≡ start + 2 = (let e : c.place + 1 ≡ start + 2 = omega (arith, at) in e) in
        let room1 : c1.place + 3 < 2 ^ 32 = (let e : c.place + 1 + 3 < 2 ^ 32 = omega (arith, at, room, size) in e) in
        let other : raw_of width number ≢ raw_of width (cut regs) = λ e. ne (f.alike number (cut regs) q.small (f.cut (regs 11)) e) in
        first false 1 start _ (suc (suc (suc (length (clear 15 width))))) c at
        (record {
          offset = 2;
          instr = Branch condition.NotEqual 15 5 (pos 3);
          after = go_to (start + 5) c1;
          place = place1;
          stands = refl;
          leaves = taken false 1 start c1 (start + 5) (is_other regs number c1 s ne) (ahead c1.place start 2 3 place1 room1);
          next = tail start regs number false (go_to (start + 5) c1) refl (reads_at regs number (start + 5) c1 s) (difference_some _ _ other (f.small number q.small) (f.small (cut regs) (f.cut (regs 11))));
        })

    weak_leaves : Linked true 0 start regs number c → number ≢ cut regs → Gone true 0 start regs number false (suc (suc (suc (length (clear 15 width))))) c
    weak_leaves q ne =
        let s = first_reads true 0 start regs number c q in
        let at = q.place in
        let room = q.room in
        let size = size_is true 0 in
        let place1 : c1.place ≡ start + 2 = (let e : c.place + 1 ≡ start + 2 = omega (arith, at) in e) in
        let room1 : c1.place + 4 < 2 ^ 32 = (let e : c.place + 1 + 4 < 2 ^ 32 = omega (arith, at, room, size) in e) in
        let c2 : Processor = go_to (start + 6) c1 in
        first true 0 start _ (suc (suc (length (clear 15 width)))) c at
        (record {
          offset = 2;
          instr = Branch condition.NotEqual 15 5 (pos 4);
          after = c2;
          place = place1;
          stands = refl;
          leaves = taken true 0 start c1 (start + 6) (is_other regs number c1 s ne) (ahead c1.place start 2 4 place1 room1);
          next = record {
            offset = 6;
            instr = Li 16 0;
            after = go_with 16 0 c2;
            place = refl;
            stands = refl;
            leaves = inl refl;
            next = clears true 0 start (size_is true 0) (clears_in true 0) regs number false (go_with 16 0 c2) (let e : start + 6 + 1 ≡ start + 7 = omega arith in e) (reads_flag regs number 0 c2 (reads_at regs number (start + 6) c1 s)) (at_same c2.regs 16 0);
          };
        })

    -- at the pair store
    abbrev c2 : Processor
    c2 = go_to (c1.place + 1) c1

    stores : Reads regs number c2 → effect_of (StoreConditional (size_of width) (store_ending order) 16 12 10) c2 ≡ effect.PairStore 16 (regs 10) (bytes_of width) (regs 12)
    stores s = ap (λ a. effect.PairStore 16 a (size_bytes (size_of width)) (c2.regs 12)) (s.holds 10 refl) ∙ ap (λ v. effect.PairStore 16 (regs 10) (size_bytes (size_of width)) v) (s.holds 12 refl) ∙ ap (λ n. effect.PairStore 16 (regs 10) n (regs 12)) (atomic_width width h).bytes_is

  -- ---- all that a loop of this code does
  module _ (start : ℕ) (c : Processor) (regs : ℕ → ℕ) where
    abbrev number : ℕ
    number = cut regs

    strong_pair : Linked false 1 start regs number c → AtPair rv_kind is_kept (o false) (exchange width) strong start regs number (c2 start c regs number)
    strong_pair q =
        let at = q.place in
        let room = q.room in
        let size = size_is false 1 in
        let few = clear_short 15 width in
        let b = c2 start c regs number in
        let s : Reads regs number b = reads_at regs number _ _ (first_reads false 1 start regs number c q) in
        let d : Processor = go_with 16 0 b in
        let place : d.place ≡ start + 4 = (let e : c.place + 1 + 1 + 1 ≡ start + 4 = omega (arith, at) in e) in
        let small : d.place < 2 ^ 32 = (let e : c.place + 1 + 1 + 1 < 2 ^ 32 = omega (arith, at, room, size) in e) in
        record {
          place = (let e : c.place + 1 + 1 ≡ start + 3 = omega (arith, at) in e);
          stores = λ w fit. stores start c regs number s;
          done = record {
            steps = suc (suc (suc (length (clear 15 width))));
            few = omega (arith, few);
            way = record {
              offset = 4;
              instr = Branch condition.NotEqual 16 0 (negsuc 3);
              after = go_to (d.place + 1) d;
              place = place;
              stands = refl;
              leaves = goes_on d (at_same b.regs 16 0);
              next = tail start regs number true (go_to (d.place + 1) d) (let e : c.place + 1 + 1 + 1 + 1 ≡ start + 5 = omega (arith, at) in e) (reads_at regs number (d.place + 1) d (reads_flag regs number 0 b s)) (difference_none _ _ refl (f.small number q.small));
            };
          };
          fails = record {
            steps = 1;
            few = omega arith;
            way = record {
              offset = 4;
              instr = Branch condition.NotEqual 16 0 (negsuc 3);
              after = go_to start (go_with 16 1 b);
              place = place;
              stands = refl;
              leaves = goes_back (go_with 16 1 b) start place small (at_same b.regs 16 1);
              next = record { place = refl; holds = (reads_flag regs number 1 b s).holds };
            };
          };
        }

    weak_pair : Linked true 0 start regs number c → AtPair rv_kind is_kept (o true) (exchange width) weakly start regs number (c2 start c regs number)
    weak_pair q =
        let at = q.place in
        let room = q.room in
        let size = size_is true 0 in
        let few = clear_short 15 width in
        let b = c2 start c regs number in
        let s : Reads regs number b = reads_at regs number _ _ (first_reads true 0 start regs number c q) in
        let place : b.place + 1 ≡ start + 4 = (let e : c.place + 1 + 1 + 1 ≡ start + 4 = omega (arith, at) in e) in
        let small : b.place + 1 + 3 < 2 ^ 32 = (let e : c.place + 1 + 1 + 1 + 3 < 2 ^ 32 = omega (arith, at, room, size) in e) in
        record {
          place = (let e : c.place + 1 + 1 ≡ start + 3 = omega (arith, at) in e);
          stores = λ w fit. stores start c regs number s;
          done = record { steps = suc (suc (length (clear 15 width))); few = omega (arith, few); way = finish start regs number true 0 (go_with 16 0 b) place small (reads_flag regs number 0 b s) (at_same b.regs 16 0) refl };
          fails = record { steps = suc (suc (length (clear 15 width))); few = omega (arith, few); way = finish start regs number false 1 (go_with 16 1 b) place small (reads_flag regs number 1 b s) (at_same b.regs 16 1) refl };
        }

    -- from the linked load to the pair store
    agrees : (weak : Bool) (back : ℕ) → Linked weak back start regs number c → (c1 start c regs number).regs 15 ≡ (c1 start c regs number).regs 5
    agrees weak back q = (let s = first_reads weak back start regs number c q in s.old ∙ sym s.comparand)

  -- from the linked load to the pair store
  to_pair : (weak : Bool) (back : ℕ) → 2 + back + 1 ≤ 6 → (start : ℕ) (c : Processor) (regs : ℕ → ℕ) → Linked weak back start regs (cut regs) c → AtPair rv_kind is_kept (o weak) (exchange width) (code_by weak back) start regs (cut regs) (c2 start c regs (cut regs))
      → Pairs rv_kind is_kept (o weak) (exchange width) (code_by weak back) start regs (cut regs) c
  to_pair weak back few start c regs q at =
      record {
        forth = 2;
        few = few;
        leads = record {
          steps = 2;
          few = omega arith;
          way = first weak back start _ 1 c q.place
              (record {
                offset = 2;
                instr = Branch condition.NotEqual 15 5 (pos (different weak));
                after = c2 start c regs (cut regs);
                place = (let at = q.place in let e : c.place + 1 ≡ start + 2 = omega (arith, at) in e);
                stands = refl;
                leaves = passed weak back start (c1 start c regs (cut regs)) (agrees start c regs weak back q);
                next = at;
              });
        };
      }

  -- what is to be shown of either, but for its ways behind the branch and the pair store
  exchanges : (weak : Bool) (back : ℕ) → 2 + back + 1 ≤ 6
      → ((start : ℕ) (c : Processor) (regs : ℕ → ℕ) (number : ℕ) → Linked weak back start regs number c → number ≢ cut regs → Leads (laid weak back start) 6 (λ b. Over weak back start ((exchange width).gives regs number false) b) c)
      → ((start : ℕ) (c : Processor) (regs : ℕ → ℕ) → Linked weak back start regs (cut regs) c → AtPair rv_kind is_kept (o weak) (exchange width) (code_by weak back) start regs (cut regs) (c2 start c regs (cut regs)))
      → Exchanges rv_kind is_kept (o weak) (exchange width) (code_by weak back) bytes_world
  exchanges weak back few leaves pairs =
      record {
        exchange = is_exchange_of zabha zacas order weak width h;
        unbuffered = refl;
        few = omega (arith, few);
        kept = λ q e. (let a = held_apart q e in (a.0, a.1));
        fills = λ before number. (atomic_width width h).raw_is before number ∙ sym ((atomic_width width h).raw_is 0 number);
        compares = λ c regs number w fit s small. compares_whole (bytes_of width) number 11 c regs (s 11 refl) small;
        links = λ c regs w fit s. links_at width order c (regs 10) (atomic_width width h) (s 10 refl);
        differs = λ start c regs number w fit q ne. leaves start c regs number q ne;
        equals = λ start c regs number w fit q same.
            (let is = subst (λ n. Linked weak back start regs n c) same q in
            subst (λ n. Pairs rv_kind is_kept (o weak) (exchange width) (code_by weak back) start regs n c) (sym same) (to_pair weak back few start c regs is (pairs start c regs is)));
      }

  few_steps : suc (suc (suc (suc (length (clear 15 width))))) ≤ 6
  few_steps = (let few = clear_short 15 width in omega (arith, few))

  strong_exchanges : Exchanges rv_kind is_kept (o false) (exchange width) strong bytes_world
  strong_exchanges = exchanges false 1 (omega arith) (λ start c regs number q ne. record { steps = suc (suc (suc (suc (length (clear 15 width))))); few = few_steps; way = strong_leaves start c regs number q ne }) strong_pair

  weak_exchanges : Exchanges rv_kind is_kept (o true) (exchange width) weakly bytes_world
  weak_exchanges = exchanges true 0 (omega arith) (λ start c regs number q ne. record { steps = suc (suc (suc (length (clear 15 width)))); few = omega (arith, few_steps); way = weak_leaves start c regs number q ne }) weak_pair

  -- by the law of such code
  pub strong_expands : Law (o false) → Expands rv_kind bytes_world 6 is_kept (7 + length (clear 15 width)) (λ start. exchange_code width order false) (o false)
  strong_expands law = subst (λ n. Expands rv_kind bytes_world 6 is_kept n (λ start. exchange_code width order false) (o false)) (size_is false 1) (law is_kept (exchange width) strong bytes_lawful strong_exchanges)

  pub weak_expands : Law (o true) → Expands rv_kind bytes_world 6 is_kept (7 + length (clear 15 width)) (λ start. exchange_code width order true) (o true)
  weak_expands law = subst (λ n. Expands rv_kind bytes_world 6 is_kept n (λ start. exchange_code width order true) (o true)) (size_is true 0) (law is_kept (exchange width) weakly bytes_lawful weak_exchanges)

pub exchange_expands : (zabha zacas : Bool) (width : Width) (order : Order) (weak : Bool) → IsAtomicWidth width → Law (exchanging zabha zacas order weak width) → (let e = exchange_expansion width order weak in Expands rv_kind bytes_world e.most is_kept e.size e.piece (exchanging zabha zacas order weak width))
exchange_expands zabha zacas width order true h law = weak_expands zabha zacas width order h (extends_of width h) law
exchange_expands zabha zacas width order false h law = strong_expands zabha zacas width order h (extends_of width h) law
