-- The events that directives make, one by one.
use Rattle.std.proofs.Common.{◌≡◌, ℕ, zero, suc, ◌+◌, ◌*◌, ◌/◌, ◌%◌, ◌<◌, ◌≤◌, arith, Bool, true, false, List, [], ◌∷◌, length, get_or, take, refl, sym, ap, ◌∙◌, if◌then◌else◌, zero-add, length-take}
use Rattle.std.specs.Prelude.{◌==◌, slice_index_or}
use Rattle.std.specs.List.{flat_map, range_with_len}
use Rattle.std.proofs.lemmas.List.Concat.{get_or-flat_map}
use Rattle.std.proofs.lemmas.List.FromFn.{length-range_with_len, get_or-range_with_len}
use Rattle.ax_words.specs.declared.event.Event.{Event}
use Rattle.ax_words.specs.declared.event.Event.TheVariants as event
use Rattle.ax_sched.specs.Events.{turn, cycle, cycle_event, cyclic}

-- ---- a cycle

-- how many events a turn has
abbrev width : Bool → ℕ
width buffered = if buffered then 3 else 1

turns_len : (buffered : Bool) (ps : List ℕ) → length (flat_map (turn buffered) ps) ≡ width buffered * length ps
turns_len true [] = refl
turns_len false [] = refl
turns_len true (p ∷ ps) = omega (arith, turns_len true ps)
turns_len false (p ∷ ps) = omega (arith, turns_len false ps)

cycle_len : (buffered : Bool) (processors : ℕ) → length (cycle buffered processors) ≡ width buffered * processors
cycle_len buffered processors = turns_len buffered (range_with_len 0 processors) ∙ ap (λ n. width buffered * n) (length-range_with_len 0 processors)

-- event j of the turn of processor p
turn_at : (p j : ℕ) (d : Event) → j < 3 → get_or (turn true p) j d ≡ (if j == 0 then event.Step p else event.Drain p)
turn_at p zero d h = refl
turn_at p (suc zero) d h = refl
turn_at p (suc (suc zero)) d h = refl
turn_at p (suc (suc (suc j))) d h = absurd (omega arith)

one_at : (p j : ℕ) (d : Event) → j < 1 → get_or (turn false p) j d ≡ event.Step p
one_at p zero d h = refl
one_at p (suc j) d h = absurd (omega arith)

-- the events before the turn of processor q
turns_before : (buffered : Bool) (processors q : ℕ) → q < processors → length (flat_map (turn buffered) (take q (range_with_len 0 processors))) ≡ width buffered * q
turns_before buffered processors q h =
    let n : length (take q (range_with_len 0 processors)) ≡ q = omega (arith, length-take q (range_with_len 0 processors), length-range_with_len 0 processors) in
    turns_len buffered (take q (range_with_len 0 processors)) ∙ ap (λ k. width buffered * k) n

processor_at : (processors q : ℕ) → q < processors → get_or (range_with_len 0 processors) q 0 ≡ q
processor_at processors q h = get_or-range_with_len 0 processors q 0 h ∙ zero-add q

buffered_at : (processors q j i : ℕ) (d : Event) → q < processors → j < 3 → i ≡ 3 * q + j → get_or (cycle true processors) i d ≡ (if j == 0 then event.Step q else event.Drain q)
buffered_at processors q j i d h g e =
    let ps : List ℕ = range_with_len 0 processors in
    let known : q < length ps = omega (arith, length-range_with_len 0 processors) in
    let at : length (flat_map (turn true) (take q ps)) + j ≡ i = omega (arith, turns_before true processors q h) in
    ap (λ k. get_or (cycle true processors) k d) (sym at)
    ∙ get_or-flat_map (turn true) ps q j 0 d known g
    ∙ ap (λ p. get_or (turn true p) j d) (processor_at processors q h)
    ∙ turn_at q j d g

plain_at : (processors q : ℕ) (d : Event) → q < processors → get_or (cycle false processors) q d ≡ event.Step q
plain_at processors q d h =
    let ps : List ℕ = range_with_len 0 processors in
    let known : q < length ps = omega (arith, length-range_with_len 0 processors) in
    let at : length (flat_map (turn false) (take q ps)) + 0 ≡ q = omega (arith, turns_before false processors q h) in
    ap (λ k. get_or (cycle false processors) k d) (sym at)
    ∙ get_or-flat_map (turn false) ps q 0 0 d known (omega arith)
    ∙ ap (λ p. get_or (turn false p) 0 d) (processor_at processors q h)

-- THE EVENT OF A CYCLE IN A PLACE, as code finds it
pub cyclic_at : (buffered : Bool) (processors k : ℕ) → 1 ≤ processors → cycle_event buffered processors k ≡ cyclic buffered processors k
cyclic_at true processors k some =
    let i : ℕ = k % (3 * processors) in
    let wide : 0 < 3 * processors = omega arith in
    let small : i < 3 * processors = omega arith in
    let q : i / 3 < processors = omega arith in
    sym (ap (λ w. slice_index_or (cycle true processors) (k % w) (event.Step 0)) (cycle_len true processors)
    ∙ buffered_at processors (i / 3) (i % 3) i (event.Step 0) q (omega arith) (omega arith))
cyclic_at false processors k some =
    let one : 1 * processors ≡ processors = omega arith in
    let small : k % processors < processors = omega arith in
    sym (ap (λ w. slice_index_or (cycle false processors) (k % w) (event.Step 0)) (cycle_len false processors ∙ one)
    ∙ plain_at processors (k % processors) (event.Step 0) small)
