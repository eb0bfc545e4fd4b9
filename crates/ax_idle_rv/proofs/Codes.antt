-- The code of each line on RV64: its instructions go on from one to the next, and there are few.
use Rattle.std.proofs.Common.{◌≡◌, ℕ, suc, ◌+◌, ◌-◌, ◌*◌, ◌≤◌, Bool, true, false, ◌&&◌, List, [], ◌∷◌, ◌++◌, inl, inr, length, refl, sym, ap, ◌∙◌, subst, arith, length-append}
use Rattle.std.specs.Prelude.{◌⊎◌, IsTrue, if◌then◌else◌, nat_eq, nat_lt}
use Rattle.std.proofs.lemmas.Bool.{and_parts, false≢true}
use Rattle.std.proofs.lemmas.Bool.Decides.{nat_tests}
use Rattle.ax_words.specs.declared.mark.Op.{Op}
use Rattle.ax_words.specs.declared.mark.Op.TheVariants as op
use Rattle.ax_words.specs.declared.order.Order.{Order}
use Rattle.ax_words.specs.declared.width.Width.{Width}
use Rattle.ax_words.specs.declared.width.Width.TheVariants.{W128}
use Rattle.ax_tags.specs.declared.tags.Tag.{Tag}
use Rattle.ax_tags.specs.declared.tags.Tag.TheVariants as tag
use Rattle.ax_rv.specs.declared.instructions.RvInstr.{RvInstr}
use Rattle.ax_rv.specs.declared.instructions.Binary.TheVariants as binary
use Rattle.ax_rv.specs.declared.instructions.RvInstr.TheVariants.{Binary, Ebreak, Ecall, Li, Nop, Ret, Shift}
use Rattle.ax_mid.specs.declared.instruction.MidInst.{MidInst}
use Rattle.ax_mid.specs.declared.instruction.MidInst.TheVariants as mid
use Rattle.ax_mid.specs.declared.instruction.MidOp.{MidOp}
use Rattle.ax_mid.specs.declared.instruction.MidOp.TheVariants as operation
use Rattle.ax_mid.specs.declared.registers.Virtual.{Virtual}
use Rattle.ax_mid.specs.Machine.{behind_label}
use Rattle.ax_mid.specs.WellFormed.{is_act, is_shaped, is_silent, words_given, words_taken}
use Rattle.ax_expand.specs.Standing.{silently}
use Rattle.ax_fine.specs.Fine.{is_quiet}
use Rattle.ax_emit.specs.Atomics.{gets_all, puts_all}
use Rattle.ax_emit_rv.specs.Code.{Expansion, cleared, computed, extend_code, first_argument, first_result, get_one, get_two, homes_from, inst_code, jump_to, load_in, op_code, piece_of, select_code, shift_of, store_in}
use Rattle.ax_emit_rv.specs.Slots.{down, get_by, near_slots, put_first_by, put_last, put_last_by, rv_table}
use Rattle.ax_selected.specs.Registers.{key}
use Rattle.ax_selected.specs.Selected.{selected}
use Rattle.ax_source_run.specs.SourceState.{SourceProgram}
use Rattle.ax_image_rv.specs.Image.{frame_depth, rv_program}
use Rattle.ax_emit.specs.Images.{drafted}
use Rattle.ax_idle_rv.proofs.Fits.{Fits, LineCoded, coded_less, drafted_both, fits_both, fits_less, fits_none, fits_silent, one_act}
use Rattle.ax_idle_rv.proofs.Ranks.{is_straight, piece_rank, rank_of}
use Rattle.ax_idle_rv.proofs.Reach.{CalmBy, most_width, width}

-- ---- lists of instructions
abbrev pub Straights : List RvInstr → Type 0
Straights [] = Unit {0}
Straights (i ∷ is) = (is_straight i ≡ true) × Straights is

-- so many at most, each of which goes on
pub record Short (n : ℕ) (is : List RvInstr) : Type 0 where
  pub all : Straights is
  pub few : length is ≤ n

straight_both : (is js : List RvInstr) → Straights is → Straights js → Straights (is ++ js)
straight_both [] js h g = g
straight_both (i ∷ is) js h g = (h.0, straight_both is js h.1 g)

pub short_both : (n m : ℕ) (is js : List RvInstr) → Short n is → Short m js → Short (n + m) (is ++ js)
short_both n m is js h g = let a = h.few in let b = g.few in let l = length-append is js in record { all = straight_both is js h.all g.all; few = omega (arith, a, b, l) }

pub short_less : (n m : ℕ) (is : List RvInstr) → n ≤ m → Short n is → Short m is
short_less n m is le h = let a = h.few in record { all = h.all; few = omega (arith, a, le) }

pub none_short : Short 0 []
none_short = record { all = tt; few = omega arith }

-- ---- slots
get_short : (b : Bool) (t r : ℕ) → Short 3 (get_by b t r)
get_short true t r = record { all = (refl, tt); few = omega arith }
get_short false t r = record { all = (refl, (refl, (refl, tt))); few = omega arith }

put_first_short : (b : Bool) (r t : ℕ) → Short 2 (put_first_by b r t)
put_first_short true r t = record { all = tt; few = omega arith }
put_first_short false r t = record { all = (refl, (refl, tt)); few = omega arith }

put_last_straight : (b : Bool) (r t : ℕ) → is_straight (put_last_by b r t) ≡ true
put_last_straight true r t = refl
put_last_straight false r t = refl

put_last_short : (r t : ℕ) → Short 1 (put_last r t ∷ [])
put_last_short r t = record { all = (put_last_straight (nat_lt r near_slots) r t, tt); few = omega arith }

pub gets_short : (zs : List (ℕ × ℕ)) → Short (3 * length zs) (gets_all rv_table zs)
gets_short [] = record { all = tt; few = omega arith }
gets_short (z ∷ zs) =
    short_less (3 + 3 * length zs) (3 * suc (length zs)) (gets_all rv_table (z ∷ zs)) (omega arith)
    (short_both 3 (3 * length zs) (rv_table.get z.0 z.1) (gets_all rv_table zs) (get_short (nat_lt z.1 near_slots) z.0 z.1) (gets_short zs))

pub puts_short : (zs : List (ℕ × ℕ)) → Short (3 * length zs) (puts_all rv_table zs)
puts_short [] = record { all = tt; few = omega arith }
puts_short (z ∷ zs) =
    short_less (3 + 3 * length zs) (3 * suc (length zs)) (puts_all rv_table (z ∷ zs)) (omega arith)
    (short_both 3 (3 * length zs) (rv_table.put_first z.1 z.0 ++ put_last z.1 z.0 ∷ []) (puts_all rv_table zs)
    (short_both 2 1 (rv_table.put_first z.1 z.0) (put_last z.1 z.0 ∷ []) (put_first_short (nat_lt z.1 near_slots) z.1 z.0) (put_last_short z.1 z.0)) (puts_short zs))

homes_length : (t : ℕ) (rs : List Virtual) → length (homes_from key t rs) ≡ length rs
homes_length t [] = refl
homes_length t (r ∷ rs) = ap suc (homes_length (t + 1) rs)

-- ---- code with its marks
pub silently_length : (is : List RvInstr) → length (silently is) ≡ length is
silently_length [] = refl
silently_length (i ∷ is) = ap suc (silently_length is)

pub silently_code : (quiet : Bool) (n : ℕ) (is : List RvInstr) → Short n is → Fits quiet n (silently is)
silently_code quiet n is h = fits_less quiet (length is) n (silently is) h.few (each is h.all)
  where
    each : (is : List RvInstr) → Straights is → Fits quiet (length is) (silently is)
    each [] h = fits_none quiet
    each (i ∷ is) h = fits_less quiet (1 + length is) (suc (length is)) (silently (i ∷ is)) (omega arith) (fits_both quiet 1 (length is) ((i, tag.Silent) ∷ []) (silently is) (fits_silent quiet i h.0) (each is h.1))

-- silent code round other code
pub wrapped : (quiet : Bool) (a m b : ℕ) (before after : List RvInstr) (es : List (RvInstr × Tag)) → Short a before → LineCoded quiet m es → Short b after → LineCoded quiet (a + m + b) (silently before ++ (es ++ silently after))
wrapped quiet a m b before after es h g k =
    let first = silently_code quiet a before h in
    let last = silently_code quiet b after k in
    record {
      fits = fits_less quiet (a + (m + b)) (a + m + b) (silently before ++ (es ++ silently after)) (omega arith) (fits_both quiet a (m + b) (silently before) (es ++ silently after) first (fits_both quiet m b es (silently after) g.fits last));
      acts = λ loud l ds.
          (let whole = drafted_both quiet l (silently before) (es ++ silently after) ds in
          let inner = drafted_both quiet l es (silently after) ds in
          let one = first.low l (drafted quiet l (es ++ silently after) ++ ds) in
          let two = g.acts loud l (drafted quiet l (silently after) ++ ds) in
          let there : rank_of (drafted quiet l (silently before ++ (es ++ silently after)) ++ ds) ≡ rank_of (drafted quiet l (silently before) ++ (drafted quiet l (es ++ silently after) ++ ds)) = ap rank_of whole in
          let here : rank_of (drafted quiet l (es ++ silently after) ++ ds) ≡ rank_of (drafted quiet l es ++ (drafted quiet l (silently after) ++ ds)) = ap rank_of inner in
          omega (arith, one, two, there, here));
    }

-- ---- what lines compute
op_short : (o : MidOp) → Short 2 (op_code o)
op_short operation.Eq = record { all = (refl, (refl, tt)); few = omega arith }
op_short operation.Ne = record { all = (refl, (refl, tt)); few = omega arith }
op_short operation.Ule = record { all = (refl, (refl, tt)); few = omega arith }
op_short operation.Sle = record { all = (refl, (refl, tt)); few = omega arith }
op_short _ = record { all = (refl, tt); few = omega arith }

clears_short : (n : ℕ) → Short 2 (cleared n)
clears_short n = by (nat_eq n 4)
  where
    by : (b : Bool) → Short 2 (if b then extend_code 32 false else [])
    by true = record { all = (refl, (refl, tt)); few = omega arith }
    by false = record { all = tt; few = omega arith }

-- code that leaves a number in register 7
computed_coded : (quiet : Bool) (n : ℕ) (to : Virtual) (is : List RvInstr) → Short n is → LineCoded quiet (n + 3) (computed key to is)
computed_coded quiet n to is h =
    let first = put_first_short (nat_lt (key to) near_slots) (key to) 7 in
    coded_less quiet (n + 2 + 1 + 0) (n + 3) (computed key to is) (omega arith)
    (wrapped quiet (n + 2) 1 0 (is ++ rv_table.put_first (key to) 7) [] ((put_last (key to) 7, tag.Act) ∷ []) (short_both n 2 is (rv_table.put_first (key to) 7) h first)
    (one_act quiet (put_last (key to) 7) (inr (put_last_straight (nat_lt (key to) near_slots) (key to) 7))) none_short)

-- an access, with what clears its result
access_coded : (quiet : Bool) (n : ℕ) (acts : RvInstr) (clears : List RvInstr) → is_straight acts ≡ true → Short n clears → LineCoded quiet (0 + 1 + n) ((acts, tag.Act) ∷ silently clears)
access_coded quiet n acts clears h g = wrapped quiet 0 1 n [] clears ((acts, tag.Act) ∷ []) none_short (one_act quiet acts (inr h)) g

-- silent code and an instruction that ends the line
ended_coded : (quiet : Bool) (n : ℕ) (is : List RvInstr) (acts : RvInstr) → (quiet ≡ false) ⊎ (is_straight acts ≡ true) → Short n is → LineCoded quiet (n + 1 + 0) (silently is ++ (acts, tag.Act) ∷ [])
ended_coded quiet n is acts h g = wrapped quiet n 1 0 is [] ((acts, tag.Act) ∷ []) g (one_act quiet acts h) none_short

-- ---- instructions of lines
-- a line that goes on, or ends where it has an event
abbrev pub Suits : Bool → MidInst Virtual → Type 0
Suits quiet (mid.Jump n) = quiet ≡ false
Suits quiet (mid.Out from) = quiet ≡ false
Suits quiet mid.Trap = quiet ≡ false
Suits quiet mid.Ret = quiet ≡ false
Suits quiet (mid.Label n) = quiet ≡ true
Suits quiet (mid.Branch test a b) = ⊥
Suits quiet (mid.Call routine role args results) = ⊥
Suits quiet (mid.Atomic o w order weak address args results) = (quiet ≡ false) × (length args ≤ 4) × (length results ≤ 3)
Suits quiet _ = Unit {0}

eq_of : (a b : ℕ) → nat_eq a b ≡ true → a ≡ b
eq_of a b h = grind (arith, nat_tests, h)

taken_few : (o : Op) (w : Width) → words_taken o w ≤ 4
taken_few op.Load w = omega arith
taken_few op.Store W128 = omega arith
taken_few op.Store _ = omega arith
taken_few op.Cmpxchg W128 = omega arith
taken_few op.Cmpxchg _ = omega arith
taken_few (op.Rmw r) W128 = omega arith
taken_few (op.Rmw r) _ = omega arith
taken_few op.Fence w = omega arith

given_few : (o : Op) (w : Width) → words_given o w ≤ 3
given_few op.Load W128 = omega arith
given_few op.Load _ = omega arith
given_few op.Store w = omega arith
given_few op.Cmpxchg W128 = omega arith
given_few op.Cmpxchg _ = omega arith
given_few (op.Rmw r) W128 = omega arith
given_few (op.Rmw r) _ = omega arith
given_few op.Fence w = omega arith

loud : (t : Tag) → is_act t ≡ true → is_quiet t ≡ false
loud tag.Act h = refl
loud _ h = absurd (false≢true h)

still : (t : Tag) → is_silent t ≡ true → is_quiet t ≡ true
still tag.Silent h = refl
still _ h = absurd (false≢true h)

-- no branch
abbrev pub IsOther : MidInst Virtual → Type 0
IsOther (mid.Branch test a b) = ⊥
IsOther _ = Unit {0}

pub suits : (t : Tag) (i : MidInst Virtual) (rest : ℕ) → IsTrue (is_shaped t i) → CalmBy (is_quiet t) i rest → IsOther i → Suits (is_quiet t) i
unfolding is_shaped
suits tag.Silent (mid.Jump n) rest h calm other = absurd calm
suits _ (mid.Jump n) rest h calm other = refl
suits t (mid.Out from) rest h calm other = loud t h
suits t mid.Trap rest h calm other = loud t h
suits t mid.Ret rest h calm other = loud t h
suits t (mid.Label n) rest h calm other = still t h
suits t (mid.Branch test a b) rest h calm other = absurd other
suits t (mid.Call routine role args results) rest h calm other = absurd (false≢true h)
suits t (mid.Atomic o w order weak address args results) rest h calm other =
    let all = and_parts (is_act t && nat_eq (length args) (words_taken o w)) (nat_eq (length results) (words_given o w)) h in
    let first = and_parts (is_act t) (nat_eq (length args) (words_taken o w)) all.0 in
    let a = eq_of (length args) (words_taken o w) first.1 in
    let b = eq_of (length results) (words_given o w) all.1 in
    let c = taken_few o w in
    let d = given_few o w in
    (loud t first.0, omega (arith, a, c), omega (arith, b, d))
suits t _ rest h calm other = tt

module _ (program : SourceProgram) (expansions : Op → Width → Order → Bool → Expansion) (expands : (o : Op) (w : Width) (order : Order) (weak : Bool) (start : ℕ) → LineCoded false piece_rank ((expansions o w order weak).piece start)) where
  pub inst_coded : (quiet : Bool) (i : MidInst Virtual) (places : ℕ → ℕ) (start : ℕ) → Suits quiet i → LineCoded quiet (width i) (inst_code (rv_program program) expansions i places start)
  unfolding piece_of
  inst_coded quiet (mid.Const to n) places start h = coded_less quiet (1 + 3) 6 _ (omega arith) (computed_coded quiet 1 to (Li 7 n ∷ []) (record { all = (refl, tt); few = omega arith }))
  inst_coded quiet (mid.Copy to from) places start h =
      coded_less quiet (3 + 0 + 3) 6 _ (omega arith) (computed_coded quiet (3 + 0) to (get_one key 7 from ++ []) (short_both 3 0 (get_one key 7 from) [] (gets_short ((7, key from) ∷ [])) none_short))
  inst_coded quiet (mid.Apply o to left right) places start h =
      coded_less quiet (6 + 2 + 3) 20 _ (omega arith)
      (computed_coded quiet (6 + 2) to (get_two key left right ++ op_code o) (short_both 6 2 (get_two key left right) (op_code o) (gets_short ((5, key left) ∷ (6, key right) ∷ [])) (op_short o)))
  inst_coded quiet (mid.Shift o to from by) places start h =
      let does : List RvInstr = Shift (shift_of o) 7 7 by ∷ [] in
      coded_less quiet (3 + 1 + 3) 20 _ (omega arith)
      (computed_coded quiet (3 + 1) to (get_one key 7 from ++ does) (short_both 3 1 (get_one key 7 from) does (gets_short ((7, key from) ∷ [])) (record { all = (refl, tt); few = omega arith })))
  inst_coded quiet (mid.Extend to from bits signed) places start h =
      coded_less quiet (3 + 2 + 3) 20 _ (omega arith)
      (computed_coded quiet (3 + 2) to (get_one key 7 from ++ extend_code bits signed) (short_both 3 2 (get_one key 7 from) (extend_code bits signed) (gets_short ((7, key from) ∷ [])) (record { all = (refl, (refl, tt)); few = omega arith })))
  inst_coded quiet (mid.Select to test x y) places start h =
      let taken : List RvInstr = gets_all rv_table ((5, key test) ∷ (6, key x) ∷ (7, key y) ∷ []) in
      coded_less quiet (9 + 5 + 3) 20 _ (omega arith)
      (computed_coded quiet (9 + 5) to (taken ++ select_code)
      (short_both 9 5 taken select_code (gets_short ((5, key test) ∷ (6, key x) ∷ (7, key y) ∷ [])) (record { all = (refl, (refl, (refl, (refl, (refl, tt))))); few = omega arith })))
  inst_coded quiet (mid.FrameAddress to offset) places start h =
      coded_less quiet (2 + 3) 20 _ (omega arith) (computed_coded quiet 2 to (Li 7 (down (frame_depth - offset)) ∷ Binary binary.Add 7 2 7 ∷ []) (record { all = (refl, (refl, tt)); few = omega arith }))
  inst_coded quiet (mid.Load to address n) places start h =
      coded_less quiet (3 + (0 + 1 + 2) + 3) 20 _ (omega arith)
      (wrapped quiet 3 (0 + 1 + 2) 3 (get_one key 5 address) (puts_all rv_table ((7, key to) ∷ [])) ((load_in n, tag.Act) ∷ silently (cleared n)) (gets_short ((5, key address) ∷ []))
      (access_coded quiet 2 (load_in n) (cleared n) refl (clears_short n)) (puts_short ((7, key to) ∷ [])))
  inst_coded quiet (mid.Store address from n) places start h =
      coded_less quiet (6 + (0 + 1 + 0) + 0) 20 _ (omega arith)
      (wrapped quiet 6 (0 + 1 + 0) 0 (get_two key address from) [] ((store_in n, tag.Act) ∷ []) (gets_short ((5, key address) ∷ (6, key from) ∷ [])) (access_coded quiet 0 (store_in n) [] refl none_short) none_short)
  inst_coded quiet (mid.Label n) places start h = record { fits = fits_none quiet; acts = λ l. absurd (false≢true (sym l ∙ h)) }
  inst_coded quiet (mid.Jump n) places start h = coded_less quiet (0 + 1 + 0) 20 _ (omega arith) (ended_coded quiet 0 [] (jump_to start (places (behind_label key (selected program).lines n 0))) (inl h) none_short)
  inst_coded quiet (mid.Branch test a b) places start h = absurd h
  inst_coded quiet (mid.Atomic o w order weak address args results) places start h =
      let taken = homes_length first_argument args in
      let given = homes_length first_result results in
      let few_args = h.1 in
      let few_results = h.2 in
      let zs : List (ℕ × ℕ) = (10, key address) ∷ homes_from key first_argument args in
      let qs : List (ℕ × ℕ) = homes_from key first_result results in
      let before : List RvInstr = gets_all rv_table zs in
      let piece : List (RvInstr × Tag) = (expansions o w order weak).piece (start + length before) in
      let own : LineCoded quiet piece_rank piece = subst (λ (b : Bool). LineCoded b piece_rank piece) (sym h.0) (expands o w order weak (start + length before)) in
      coded_less quiet (15 + piece_rank + 9) most_width _ (omega arith)
      (wrapped quiet 15 piece_rank 9 before (puts_all rv_table qs) piece (short_less (3 * length zs) 15 before (omega (arith, taken, few_args)) (gets_short zs)) own
      (short_less (3 * length qs) 9 (puts_all rv_table qs) (omega (arith, given, few_results)) (puts_short qs)))
  inst_coded quiet (mid.Call routine role args results) places start h = absurd h
  inst_coded quiet (mid.Out from) places start h = coded_less quiet (3 + 1 + 0) 20 _ (omega arith) (ended_coded quiet 3 (get_one key 10 from) Ecall (inl h) (gets_short ((10, key from) ∷ [])))
  inst_coded quiet mid.Trap places start h = coded_less quiet (0 + 1 + 0) 20 _ (omega arith) (ended_coded quiet 0 [] Ebreak (inl h) none_short)
  inst_coded quiet mid.Ret places start h = coded_less quiet (0 + 1 + 0) 20 _ (omega arith) (ended_coded quiet 0 [] Ret (inl h) none_short)
  inst_coded quiet mid.Nop places start h = coded_less quiet (0 + 1 + 0) 20 _ (omega arith) (ended_coded quiet 0 [] Nop (inr refl) none_short)
