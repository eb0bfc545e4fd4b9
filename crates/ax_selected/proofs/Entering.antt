-- How code comes to the element that a pointer names: the index is tested, and the element's address is in register 0; or a trap.
use Rattle.std.proofs.Common.{◌≡◌, ℕ, zero, suc, ◌+◌, ◌-◌, ◌*◌, ◌%◌, ◌^◌, ◌<◌, ◌≤◌, Bool, true, false, List, [], ◌∷◌, ◌++◌, map, Some, length, refl, sym, ap, ◌∙◌, subst, arith, slice_get}
use Rattle.std.specs.Prelude.{nat_lt}
use Rattle.std.proofs.lemmas.Bool.Decides.{nat_tests}
use Rattle.ax_module.specs.Types.{type_bytes}
use Rattle.ax_layout.specs.Layout.{address_in}
use Rattle.ax_source_run.specs.SourcePointers.{elements_of}
use Rattle.ax_source_run.specs.SourceState.{Object, Shared, Private, SourceProgram}
use Rattle.ax_source_run.specs.SourceValues.{number_of_flag}
use Rattle.ax_mid.specs.declared.code.Line.{Line}
use Rattle.ax_mid.specs.declared.code.Mid.{Mid}
use Rattle.ax_mid.specs.declared.instruction.MidInst.{MidInst}
use Rattle.ax_mid.specs.declared.instruction.MidInst.TheVariants as line
use Rattle.ax_mid.specs.declared.registers.Virtual.{Virtual}
use Rattle.ax_mid.specs.Machine as machine
use Rattle.ax_mid.specs.Machine.{act_if, act_step, advance, line_at, missed_by, missed_if, private_step, seen_if, shared_step}
use Rattle.ax_mid.specs.Numbers.{selected}
use Rattle.ax_mid.specs.Processor as mid
use Rattle.ax_mid.specs.Processor.{MidDeed, MidProcessor}
use Rattle.ax_selected.specs.Addresses.{Brought, Fixed, IndexAt, address_of, bytes_of, count_of, frame_offset}
use Rattle.ax_selected.specs.Laid.{HasAt, IsLaid}
use Rattle.ax_selected.specs.Pieces.{Straight}
use Rattle.ax_selected.specs.Registers.{first_label, key, second_label, virtual}
use Rattle.ax_selected.specs.Selected.{acting, chosen_by, compared, found, guarded, silent, straight}
use Rattle.ax_selected.proofs.Registers.{Temps, no_temps, temp}
use Rattle.ax_selected.proofs.Straight.{Passed, Runs, has_after, has_back, has_before, has_front, one, pass, runs_both, silent_length, stops}

-- the same processor further on: only registers that hold nothing between instructions changed
pub record Moved (c x : MidProcessor) : Type 0 where
  pub temps : Temps c.regs x.regs
  pub frame : x.frame ≡ c.frame
  pub status : x.status ≡ c.status
  pub seen : x.seen ≡ c.seen
  pub pending : x.pending ≡ c.pending

pub moved_temp : (c x : MidProcessor) (t n : ℕ) → t < 16 → Moved c x → Moved c (mid.gets t n x)
moved_temp c x t n lt h = record { temps = temp c.regs x.regs t n lt h.temps; frame = h.frame; status = h.status; seen = h.seen; pending = h.pending }

pub moved_place : (c x : MidProcessor) (place : ℕ) → Moved c x → Moved c (record x { place = place })
moved_place c x place h = record { temps = h.temps; frame = h.frame; status = h.status; seen = h.seen; pending = h.pending }

pub not_moved : (c : MidProcessor) → Moved c c
not_moved c = record { temps = no_temps c.regs; frame = refl; status = refl; seen = refl; pending = refl }

module _ (program : SourceProgram) (code : Mid Virtual) (begins : ℕ → ℕ → ℕ → ℕ) (laid : IsLaid program code.lines begins) (most base : ℕ) (enough : 512 ≤ most) (f k : ℕ) (c : MidProcessor) where
  -- the address of an element
  abbrev pub number_of_address : Object → ℕ → ℕ
  number_of_address (Shared g) j = address_in program.layout g j
  number_of_address (Private r) j = base + (frame_offset program.source f r + j * type_bytes (elements_of program.source f (Private r)).elem)

  pub addressed : (object : Object) (j : ℕ) (x : MidProcessor) → private_step key program.target code base (address_of program f object j) x ≡ Some (mid.gets 0 (number_of_address object j) x)
  unfolding private_step
  addressed (Shared g) j x = refl
  addressed (Private r) j x = refl

  -- elements lie one after the other, below 2 ^ 64
  pub record IsInRow (object : Object) : Type 0 where
    pub row : (j : ℕ) → j < count_of program f object → number_of_address object j ≡ number_of_address object 0 + j * bytes_of program f object
    pub small : (j : ℕ) → j < count_of program f object → number_of_address object j < 2 ^ 64

  -- code that brings an index into register 1
  pub record Brings (lines : List (MidInst Virtual)) (index : ℕ) : Type 0 where
    pub to : MidProcessor
    pub runs : Runs program.target code base lines c to
    pub few : length lines ≤ 8
    pub moved : Moved c to
    pub is_index : to.regs 1 ≡ index

  abbrev pub IsIndex : IndexAt → ℕ → Type 0
  IsIndex (Fixed j) index = index ≡ j
  IsIndex (Brought lines) index = Brings lines index

  -- at the rest of the code, with the element's address
  pub record Enters (rest : Straight) (address size : ℕ) : Type 0 where
    pub at : MidProcessor
    pub moved : Moved c at
    pub is_address : at.regs 0 ≡ address
    pub left : ℕ
    pub way : advance key program.target code base most c ≡ advance key program.target code base left at
    pub many : 480 ≤ left
    pub has : HasAt code.lines at.place (straight f k rest)
    pub place : at.place + length (straight f k rest) ≡ c.place + size

  -- or at a trap
  pub record Traps : Type 0 where
    pub at : MidProcessor
    pub moved : Moved c at
    pub way : advance key program.target code base most c ≡ at
    pub line : slice_get code.lines at.place ≡ Some (acting f k line.Trap)

  abbrev Way : Bool → Straight → ℕ → ℕ → Type 0
  Way true rest address size = Enters rest address size
  Way false rest address size = Traps

  -- after code that only moves
  record Sofar (is : List (MidInst Virtual)) (x : MidProcessor) : Type 0 where
    runs : Runs program.target code base is c x
    moved : Moved c x

  -- ---- an index that the text fixes and that is an element's
  fixed_in : (object : Object) (j : ℕ) (rest : Straight) → HasAt code.lines c.place (straight f k (record { silent = address_of program f object j ∷ rest.silent; last = rest.last })) → Enters rest (number_of_address object j) (length (straight f k (record { silent = address_of program f object j ∷ rest.silent; last = rest.last })))
  fixed_in object j rest has =
      let x = mid.gets 0 (number_of_address object j) c in
      let p = pass program.target code base f k (address_of program f object j ∷ []) c x most (omega (arith, enough)) (has.0, tt) (x, addressed object j c, refl, refl) in
      record {
        at = x;
        moved = moved_temp c c 0 (number_of_address object j) (omega arith) (not_moved c);
        is_address = refl;
        left = p.rest;
        way = p.way;
        many = let e = p.count in omega (arith, e, enough);
        has = has.1;
        place = omega arith;
      }

  pub enters_fixed : (object : Object) (j : ℕ) (rest : Straight) → HasAt code.lines c.place (chosen_by f k true program object j rest) → Enters rest (number_of_address object j) (length (chosen_by f k true program object j rest))
  enters_fixed object j rest has = fixed_in object j rest has

  -- ---- an index in register 1
  -- a silent line, where there are steps left
  step_more : (i : MidInst Virtual) (x y : MidProcessor) (n : ℕ) → 0 < n → slice_get code.lines x.place ≡ Some (silent f k i) → private_step key program.target code base i x ≡ Some y → advance key program.target code base n x ≡ advance key program.target code base (n - 1) y
  step_more i x y zero more at step = absurd (omega (arith, more))
  step_more i x y (suc n) more at step =
      let e : suc n - 1 ≡ n = omega arith in
      one program.target code base f k i x y n at step ∙ ap (λ (m : ℕ). advance key program.target code base m y) (sym e)

  module _ (object : Object) (row : IsInRow object) (lines : List (MidInst Virtual)) (index : ℕ) (brings : Brings lines index) (rest : Straight) (has : HasAt code.lines c.place (guarded f k program object lines rest)) where
    abbrev count : ℕ
    count = count_of program f object

    abbrev size : ℕ
    size = bytes_of program f object

    abbrev front : List (MidInst Virtual)
    front = lines ++ compared f k count

    abbrev after_found : Straight
    after_found = record { silent = found f k (address_of program f object 0) size ++ rest.silent; last = rest.last }

    abbrev tail : List (Line Virtual)
    tail = silent f k (line.Branch (virtual 2) (second_label f k) (first_label f k)) ∷ silent f k (line.Label (first_label f k)) ∷ acting f k line.Trap ∷ silent f k (line.Label (second_label f k)) ∷ straight f k after_found

    abbrev y : MidProcessor
    y = brings.to

    -- the test is in register 2
    abbrev tested : MidProcessor
    tested = mid.gets 2 (number_of_flag (nat_lt (y.regs 1) count)) (mid.gets 2 count y)

    moved : Moved c tested
    moved = moved_temp c (mid.gets 2 count y) 2 (number_of_flag (nat_lt (y.regs 1) count)) (omega arith) (moved_temp c y 2 count (omega arith) brings.moved)

    runs : Runs program.target code base front c tested
    unfolding private_step
    runs = runs_both program.target code base lines (compared f k count) c y tested brings.runs (mid.gets 2 count y, refl, refl, (tested, refl, refl, refl))

    few : length front ≤ 10
    few = count_front lines brings.few
      where
        append_length : (is : List (MidInst Virtual)) → length (is ++ compared f k count) ≡ length is + 2
        append_length [] = refl
        append_length (i ∷ is) = ap suc (append_length is) ∙ omega arith

        count_front : (is : List (MidInst Virtual)) → length is ≤ 8 → length (is ++ compared f k count) ≤ 10
        count_front is le = let e = append_length is in omega (arith, e, le)

    passed : Passed program.target code base front c tested most
    passed = pass program.target code base f k front c tested most (omega (arith, few, enough)) (has_front code.lines (map (silent f k) front) tail c.place has) runs

    steps_left : 500 ≤ passed.rest
    steps_left = let e = passed.count in omega (arith, e, few, enough)

    has_tail : HasAt code.lines tested.place tail
    has_tail = subst (λ (p : ℕ). HasAt code.lines p tail) (ap (λ (n : ℕ). c.place + n) (silent_length f k front) ∙ sym passed.place) (has_back code.lines (map (silent f k) front) tail c.place has)

    -- behind the branch
    abbrev jumped : ℕ → MidProcessor
    jumped place = record tested { place = place }

    branched : (b : Bool) (place : ℕ) → nat_lt (y.regs 1) count ≡ b → machine.behind_label key code.lines (selected (number_of_flag b) (second_label f k) (first_label f k)) 0 ≡ place → advance key program.target code base passed.rest tested ≡ advance key program.target code base (passed.rest - 1) (jumped place)
    unfolding private_step
    branched b place e label =
        step_more (line.Branch (virtual 2) (second_label f k) (first_label f k)) tested (jumped place) passed.rest (omega (arith, steps_left)) has_tail.0
        (ap (λ (x : Bool). Some (jumped (machine.behind_label key code.lines (selected (number_of_flag x) (second_label f k) (first_label f k)) 0))) e ∙ ap (λ (p : ℕ). Some (jumped p)) label)

    outside : nat_lt (y.regs 1) count ≡ false → Traps
    outside e =
        let place = tested.place + 1 + 1 in
        let label = laid.labels (tested.place + 1) (first_label f k) (silent f k (line.Label (first_label f k))) has_tail.1.0 refl in
        record {
          at = jumped place;
          moved = moved_place c tested place moved;
          way = passed.way ∙ branched false place e label ∙ stops program.target code base f k line.Trap (jumped place) (passed.rest - 1) has_tail.1.1.0;
          line = has_tail.1.1.0;
        }

    through_length : length (guarded f k program object lines rest) ≡ length front + 4 + (4 + length (straight f k rest))
    through_length = by front ∙ ap (λ (n : ℕ). length front + 4 + n) refl
      where
        by : (is : List (MidInst Virtual)) → length (map (silent f k) is ++ tail) ≡ length is + 4 + (4 + length (straight f k rest))
        by [] = omega arith
        by (i ∷ is) = ap suc (by is) ∙ omega arith

    inside : nat_lt (y.regs 1) count ≡ true → Enters rest (number_of_address object index) (length (guarded f k program object lines rest))
    unfolding private_step
    inside e =
        let within = less (sym (ap (λ (j : ℕ). nat_lt j count) brings.is_index) ∙ e) in
        let place = tested.place + 1 + 1 + 1 + 1 in
        let label = laid.labels (tested.place + 1 + 1 + 1) (second_label f k) (silent f k (line.Label (second_label f k))) has_tail.1.1.1.0 refl in
        let x3 = jumped place in
        let x4 = mid.gets 2 size x3 in
        let x5 = mid.gets 1 (y.regs 1 * size % 2 ^ 64) x4 in
        let x6 = mid.gets 0 (number_of_address object 0) x5 in
        let x7 = mid.gets 0 ((number_of_address object 0 + y.regs 1 * size % 2 ^ 64) % 2 ^ 64) x6 in
        let has_found : HasAt code.lines x3.place (straight f k after_found) = has_tail.1.1.1.1 in
        let p = pass program.target code base f k (found f k (address_of program f object 0) size) x3 x7 (passed.rest - 1) (omega (arith, steps_left))
        (has_before f k code.lines (found f k (address_of program f object 0) size) rest.silent rest.last x3.place has_found)
        (x4, refl, refl, (x5, refl, refl, (x6, addressed object 0 x5, refl, (x7, refl, refl, refl)))) in
        record {
          at = x7;
          moved = moved_temp c x6 0 ((number_of_address object 0 + y.regs 1 * size % 2 ^ 64) % 2 ^ 64) (omega arith) (moved_temp c x5 0 (number_of_address object 0) (omega arith) (moved_temp c x4 1 (y.regs 1 * size % 2 ^ 64) (omega arith) (moved_temp c x3 2 size (omega arith) (moved_place c tested place moved))));
          is_address = ap (λ (j : ℕ). (number_of_address object 0 + j * size % 2 ^ 64) % 2 ^ 64) brings.is_index ∙ sums (number_of_address object 0) (index * size) (number_of_address object index) (row.row index within) (row.small index within);
          left = p.rest;
          way = passed.way ∙ branched true place e label ∙ p.way;
          many = let n = p.count in omega (arith, n, steps_left);
          has = subst (λ (q : ℕ). HasAt code.lines q (straight f k rest)) (four place) (has_after f k code.lines (found f k (address_of program f object 0) size) rest.silent rest.last x3.place has_found);
          place = let l = through_length in let q = passed.place in omega (arith, l, q);
        }
      where
        less : nat_lt index count ≡ true → index < count
        less h = grind (arith, nat_tests)

        four : (q : ℕ) → q + 4 ≡ q + 1 + 1 + 1 + 1
        four q = omega arith

        sums : (a b n : ℕ) → n ≡ a + b → n < 2 ^ 64 → (a + b % 2 ^ 64) % 2 ^ 64 ≡ n
        sums a b n is lt = omega (arith, is, lt)

    pub enters_brought : (b : Bool) → nat_lt index count ≡ b → Way b rest (number_of_address object index) (length (guarded f k program object lines rest))
    enters_brought true e = inside (ap (λ (j : ℕ). nat_lt j count) brings.is_index ∙ e)
    enters_brought false e = outside (ap (λ (j : ℕ). nat_lt j count) brings.is_index ∙ e)

  -- ---- an index that the text fixes and that is no element's is brought into register 1
  constant : (j : ℕ) → Brings (line.Const (virtual 1) j ∷ []) j
  unfolding private_step
  constant j =
      let x = mid.gets 1 j c in
      record { to = x; runs = (x, refl, refl, refl); few = omega arith; moved = moved_temp c c 1 j (omega arith) (not_moved c); is_index = refl }

  pub traps_fixed : (object : Object) → IsInRow object → (j : ℕ) (rest : Straight) → nat_lt j (count_of program f object) ≡ false → HasAt code.lines c.place (chosen_by f k false program object j rest) → Traps
  traps_fixed object row j rest outside has = enters_brought object row (line.Const (virtual 1) j ∷ []) j (constant j) rest has false outside
