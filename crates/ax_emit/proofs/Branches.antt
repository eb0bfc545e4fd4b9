-- A line that branches: silent code, a silent jump over a jump, and the jump that is taken, which has the event.
use Rattle.std.proofs.Common.{◌≡◌, ℕ, ◌+◌, ◌^◌, ◌<◌, ◌≤◌, Bool, true, false, List, [], ◌∷◌, length, Some, None, refl, sym, ap, ◌∙◌, subst, inl, arith, length-append}
use Rattle.std.specs.Prelude.{if◌then◌else◌, nat_eq}
use Rattle.std.proofs.lemmas.Bool.{false≢true}
use Rattle.ax_words.specs.declared.source.SourceStatus.TheVariants.{Running as Runs}
use Rattle.ax_store.specs.Storage.{seen}
use Rattle.ax_tags.specs.declared.tags.Role.TheVariants.{None as Outside}
use Rattle.ax_tags.specs.declared.tags.Tag.{Tag}
use Rattle.ax_tags.specs.declared.tags.Tag.TheVariants.{Silent, Act}
use Rattle.ax_isa.specs.declared.effects.Effect.{Effect}
use Rattle.ax_isa.specs.declared.effects.Effect.TheVariants.{Set, Compare, Load, Store, Locked, Fence, Link, LinkHalf, PairStore, Jump, CallTo, Return, Output, Trap, Nop}
use Rattle.ax_isa.specs.Past.{Noted}
use Rattle.ax_isa.specs.Processor.{Processor}
use Rattle.ax_isa.specs.Run.{Setting}
use Rattle.ax_isa.specs.Steps.{Kind, go_to}
use Rattle.ax_isa.specs.Tells.{An_act, Library}
use Rattle.ax_follow.specs.Contract.{Reading, Happening, machine_status, stage_start, InStep}
use Rattle.ax_mid.specs.declared.code.Line.{Line}
use Rattle.ax_mid.specs.declared.instruction.MidInst.TheVariants as mid
use Rattle.ax_mid.specs.Machine.{behind_label, private_step}
use Rattle.ax_mid.specs.Processor.{MidProcessor}
use Rattle.ax_expand.specs.Continues.{Context, GoesOn, IsContext}
use Rattle.ax_expand.specs.Expands.{reading_of, Begun}
use Rattle.ax_expand.specs.Operation.{hushed}
use Rattle.ax_expand.specs.Private.{Private, went}
use Rattle.ax_expand.specs.Standing.{Here, HasAt, silently, setting_by}
use Rattle.ax_expand.specs.Wraps.{viewed}
use Rattle.ax_expand.proofs.Steps.{some_is}
use Rattle.ax_expand.proofs.Straight.{finished, goes_place, has_first, has_rest, silent, silent_jump, silent_length, straight}
use Rattle.ax_fine.specs.Fine.{Program, Spelled, is_label, is_quiet, stepped, chosen_by, room_of, fine}
use Rattle.ax_emit.specs.Lines.{LineCode, StandsAt, branch_code, place_behind}
use Rattle.ax_emit.specs.Performs.{Splits, at_frame, stilled, turned}
use Rattle.ax_emit.specs.Table.{Based, Table}
use Rattle.ax_emit.proofs.Acts.{still_event}
use Rattle.ax_emit.proofs.Lines.{here, rooted, sound, chosen_here, matching, stepped_same, stepped_place}
use Rattle.ax_emit.proofs.Slots.{spelled_as, spelled_same}

branch_does : {R W : Type 0} (m : Program R W) (quiet : Bool) (test : R) (a b p : ℕ) (s : MidProcessor) (w : W)
    → chosen_by m An_act quiet p (mid.Branch test a b) s w ≡ Some (record { processor = stepped m quiet (record s { place = behind_label m.key m.code.lines (if nat_eq (s.regs (m.key test)) 0 then b else a) 0 }); world = w; output = None; gives = hushed quiet An_act; excused = false })
unfolding chosen_by private_step
branch_does m quiet test a b p s w = refl

module _ {I R W : Type 0} (k : Kind I) (m : Program R W) (table : Table I) (base : Based k m table) (code : List I) (tags : ℕ → Tag) (lib : Library) (v : Reading) (places : ℕ → ℕ) (own : ℕ) (line : Line R) (p : ℕ) (s : MidProcessor) (ok : IsContext (here k m table base code tags lib v places own line p s)) where
  abbrev at_line : Context I MidProcessor W
  at_line = here k m table base code tags lib v places own line p s

  abbrev quiet : Bool
  quiet = is_quiet line.tag

  -- A SILENT BRANCH leads to a place of this code
  pub turns : (idle : ℕ) (i : I) (place : ℕ) (y : Private) → Here (setting_by k code tags lib) (reading_of v) quiet own y.cpu.place (i, Silent) → y.cpu.role ≡ Outside → turned (k.effect_of i y.cpu) y.cpu ≡ Some place → place < 2 ^ 32 → idle + 1 ≤ v.most → v.owner place ≡ own
      → GoesOn at_line false (idle + 1) (record { cpu = go_to place y.cpu; frame = y.frame }) → GoesOn at_line false idle y
  turns idle i place y is_here role turn low few owner next = go (k.effect_of i y.cpu) refl turn
    where
      no_turn : None ≡ Some place → GoesOn at_line false idle y
      no_turn h = absurd (let f : None ≡ Some place = h in cc)

      go : (e : Effect) → k.effect_of i y.cpu ≡ e → turned e y.cpu ≡ Some place → GoesOn at_line false idle y
      go (Jump q) is t = silent_jump at_line ok false idle i place y is_here role (is ∙ ap Jump (some_is q place t)) low few (λ e. absurd (false≢true e)) (inl owner) next
      go Nop is t =
          let same : y.cpu.place + 1 ≡ place = some_is (y.cpu.place + 1) place t in
          silent at_line ok false idle i y (record { cpu = go_to place y.cpu; frame = y.frame }) is_here role (ap (λ e. went (room_of m p) e y) is ∙ ap (λ q. Some (record { cpu = go_to q y.cpu; frame = y.frame })) same) few (λ e. absurd (false≢true e)) (inl owner) next
      go (Set to number) is t = no_turn t
      go (Compare a b) is t = no_turn t
      go (Load to a bytes rest half) is t = no_turn t
      go (Store a bytes number) is t = no_turn t
      go (Locked to high a bytes rest change) is t = no_turn t
      go Fence is t = no_turn t
      go (Link to a bytes rest) is t = no_turn t
      go (LinkHalf to a) is t = no_turn t
      go (PairStore to a bytes number) is t = no_turn t
      go (CallTo place saved) is t = no_turn t
      go (Return back) is t = no_turn t
      go (Output number) is t = no_turn t
      go Trap is t = no_turn t

module _ {I R W : Type 0} (k : Kind I) (m : Program R W) (table : Table I) (base : Based k m table) (line : Line R) (test : R) (a b : ℕ) (is_line : line.inst ≡ mid.Branch test a b) (is : List I) (turn : I) (jumps : ℕ → ℕ → I) (most : ℕ) (few : length is + 1 ≤ most)
    (splits : (p : ℕ) (c : Processor) (f : ℕ → ℕ) (s : MidProcessor) → c.place + length is + 2 < 2 ^ 32 → Spelled m p c f s → Splits k m p test is turn s (at_frame c f)) (jump_is : (place target : ℕ) (c : Processor) → c.place ≡ place → place < 2 ^ 32 → target < 2 ^ 32 → k.effect_of (jumps place target) c ≡ Jump target) where
  branched : (code : List I) (tags : ℕ → Tag) (lib : Library) (v : Reading) (places : ℕ → ℕ) (own : ℕ) → most ≤ v.most → StandsAt (setting_by k code tags lib) v m places own (length is + 3) (branch_code is turn jumps (place_behind m places a) (place_behind m places b) (places own)) line → Begun (setting_by k code tags lib) (fine m places) (reading_of v) own
  branched code tags lib v places own enough h = record { follows = begin }
    where
      y0 : Setting I
      y0 = setting_by k code tags lib

      quiet : Bool
      quiet = is_quiet line.tag

      at_line : ℕ → MidProcessor → Context I MidProcessor W
      at_line p s = here k m table base code tags lib v places own line p s

      behind : ℕ → ℕ
      behind n = behind_label m.key m.code.lines n 0

      start : ℕ
      start = places own + length is

      tail : List (I × Tag)
      tail = (turn, Silent) ∷ (jumps (start + 1) (places (behind b)), Act) ∷ (jumps (start + 2) (places (behind a)), Act) ∷ []

      rest : HasAt y0 (reading_of v) quiet own start tail
      rest = subst (λ q. HasAt y0 (reading_of v) quiet own q tail) (ap (λ q. places own + q) (silent_length is)) (has_rest y0 (reading_of v) quiet own (places own) (silently is) _ h.has)

      -- where it goes, and to which label
      goal : Bool → ℕ
      goal t = if t then start + 1 else start + 2

      picked : Bool → ℕ
      picked t = if t then b else a

      goal_here : (t : Bool) → Here y0 (reading_of v) quiet own (goal t) (jumps (goal t) (places (behind (picked t))), Act)
      goal_here true = rest.1.0
      goal_here false = subst (λ q. Here y0 (reading_of v) quiet own q (jumps (start + 2) (places (behind a)), Act)) (let e : start + 1 + 1 ≡ start + 2 = omega arith in e) rest.1.1.0

      -- the jump that is taken
      jumped : (p : ℕ) (s : MidProcessor) (c : Processor) (y : Private) (t : Bool) (idle : ℕ) → m.lives p ≡ true → s.place ≡ own → s.status ≡ Runs → y.cpu.place ≡ goal t → y.cpu.role ≡ Outside → nat_eq (s.regs (m.key test)) 0 ≡ t → Spelled m p c y.frame s → ((q : ℕ) → m.fixed q ≡ true → y.cpu.regs q ≡ c.regs q) → y.cpu.role ≡ c.role → GoesOn (at_line p s) false idle y
      jumped p s c y t idle lives is_own runs at role zero h2 keeps role0 =
          let target = places (behind (picked t)) in
          let low : target < 2 ^ 32 = h.laid.low (behind (picked t)) in
          let next : MidProcessor = stepped m quiet (record s { place = behind (picked t) }) in
          let same = stepped_same m quiet (record s { place = behind (picked t) }) in
          let ends : places next.place ≡ target = ap places (stepped_place m quiet (record s { place = behind (picked t) })) ∙ h.laid.settles (behind (picked t)) in
          let last : Processor = go_to target y.cpu in
          let at_goal : ActsHere p s y t = subst (λ q. Here y0 (reading_of v) quiet own q (jumps (goal t) (places (behind (picked t))), Act)) (sym at) (goal_here t) in
          let small = at_goal.small in
          let spelt : Spelled m p last y.frame next = spelled_as m base.sound p last y.frame s next same.regs same.frame (spelled_same m base.sound p c last y.frame y.frame s h2 (λ q own_q. refl) keeps role0) in
          still_event (at_line p s) (sound k m table base code tags lib v places own line p s h.words lives) idle (jumps (goal t) target) y at_goal is_own role (record {
            next = next;
            output = None;
            does = λ w. chosen_here k m table base code tags lib v places own line h.at p s is_own w _
                (ap (λ i. chosen_by m An_act quiet p i s w) is_line ∙ branch_does m quiet test a b p s w ∙ ap (λ z. Some (record { processor = stepped m quiet (record s { place = behind (if z then b else a) }); world = w; output = None; gives = hushed quiet An_act; excused = false })) zero);
            last = last;
            root = m.top p;
            rooted = rooted k m table base code tags lib v places own line p s lives y h2.root;
            stills = ap (λ e. stilled (m.top p) e y.cpu) (jump_is (goal t) target y.cpu at (subst (λ q. q < 2 ^ 32) at (omega (arith, small))) low);
            low = low;
            status = λ r. r ∙ sym (ap machine_status (same.status ∙ runs));
            place = sym ends;
            rest = λ goes_on. finished y0 (fine m places) v p 0 next (record { cpu = last; frame = y.frame }) (sym ends) (λ n2 spells. matching k m table base code tags lib v places own line p next last y.frame n2 spelt spells);
          })
        where
          ActsHere : ℕ → MidProcessor → Private → Bool → Type 0
          ActsHere p s y t = Here y0 (reading_of v) quiet own y.cpu.place (jumps (goal t) (places (behind (picked t))), Act)

      begin : (p : ℕ) (s : MidProcessor) (c : Processor) (n : Noted) → s.place ≡ own → s.status ≡ Runs → c.place ≡ places s.place → Spelled m p c (seen p n.storage) s → (hs : List Happening) → InStep (fine m places) (reading_of v) y0 p hs stage_start s c n
      begin p s c n is_own runs at matches hs =
          let at_own : c.place ≡ places own = at ∙ ap places is_own in
          let ok = sound k m table base code tags lib v places own line p s h.words matches.lives in
          let small = rest.1.0.small in
          let z = splits p c (seen p n.storage) s (let w : c.place + length is + 2 < 2 ^ 32 = omega (arith, small, at_own) in w) matches in
          let there = goes_place k (room_of m p) is (viewed p c n) z.private z.goes in
          let at_mid : z.private.cpu.place ≡ start = there.0 ∙ ap (λ q. q + length is) at_own in
          let spelt : Spelled m p c z.private.frame s = subst (λ f. Spelled m p c f s) (sym z.frame) matches in
          straight (at_line p s) ok false is 0 (viewed p c n) z.private (has_first y0 (reading_of v) quiet own c.place (silently is) _ (subst (λ q. HasAt y0 (reading_of v) quiet own q (branch_code is turn jumps (place_behind m places a) (place_behind m places b) (places own))) (sym at_own) h.has)) matches.role z.goes (omega (arith, few, enough)) (λ q lo hi e. absurd (false≢true e)) (inl (ap v.owner at_mid ∙ rest.0.owner))
          (split p s c z.private ok matches.lives is_own runs at_mid (there.1 ∙ matches.role) spelt z.fixed there.1 (nat_eq (s.regs (m.key test)) 0) refl z.turns) stage_start n refl (omega arith) (λ q own_q. refl) hs
        where
          split : (p : ℕ) (s : MidProcessor) (c : Processor) (y : Private) → IsContext (at_line p s) → m.lives p ≡ true → s.place ≡ own → s.status ≡ Runs → y.cpu.place ≡ start → y.cpu.role ≡ Outside → Spelled m p c y.frame s → ((q : ℕ) → m.fixed q ≡ true → y.cpu.regs q ≡ c.regs q) → y.cpu.role ≡ c.role
              → (t : Bool) → nat_eq (s.regs (m.key test)) 0 ≡ t → turned (k.effect_of turn y.cpu) y.cpu ≡ Some (if nat_eq (s.regs (m.key test)) 0 then y.cpu.place + 1 else y.cpu.place + 2) → GoesOn (at_line p s) false (0 + length is) y
          split p s c y ok lives is_own runs at role spelt keeps role0 t zero turn_is =
              let goal_is : turned (k.effect_of turn y.cpu) y.cpu ≡ Some (goal t) = turn_is ∙ ap (λ z. Some (if z then y.cpu.place + 1 else y.cpu.place + 2)) zero ∙ ap (λ q. Some (if t then q + 1 else q + 2)) at in
              let there = goal_here t in
              let small = there.small in
              turns k m table base code tags lib v places own line p s ok (0 + length is) turn (goal t) y (subst (λ q. Here y0 (reading_of v) quiet own q (turn, Silent)) (sym at) rest.0) role goal_is (omega (arith, small)) (omega (arith, few, enough)) there.owner
              (jumped p s c (record { cpu = go_to (goal t) y.cpu; frame = y.frame }) t (0 + length is + 1) lives is_own runs refl role zero spelt keeps role0)

  -- ITS CONTRACT
  pub branched_line : LineCode k m most (length is + 3) (λ places start. branch_code is turn jumps (place_behind m places a) (place_behind m places b) start) line
  branched_line =
      record {
        length_is = λ places start. length-append (silently is) _ ∙ ap (λ q. q + 3) (silent_length is);
        label = λ e. absurd (false≢true (sym (ap is_label is_line) ∙ e));
        follows = λ code tags lib v places own not_label enough h. branched code tags lib v places own enough h;
      }
