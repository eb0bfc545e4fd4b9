-- x86-64's code of jumps, branches, outputs and ends.
use Rattle.std.proofs.Common.{◌≡◌, ℕ, suc, ◌+◌, ◌-◌, ◌%◌, ◌<◌, ◌≤◌, ◌^◌, Bool, true, false, [], ◌∷◌, ◌++◌, length, Some, None, refl, sym, ap, ◌∙◌, subst, arith}
use Rattle.std.specs.Prelude.{if◌then◌else◌, not, nat_eq, nat_le, pos, negsuc}
use Rattle.std.proofs.lemmas.Bool.Decides.{nat_tests}
use Rattle.ax_words.specs.declared.mark.Op.{Op}
use Rattle.ax_words.specs.declared.order.Order.{Order}
use Rattle.ax_words.specs.declared.width.Width.{Width}
use Rattle.ax_words.specs.declared.source.SourceStatus.TheVariants.{Ended, Trapped as Traps}
use Rattle.ax_tags.specs.declared.tags.Role.TheVariants.{None as Outside}
use Rattle.ax_isa.specs.declared.cpu.Status.TheVariants.{Trapped}
use Rattle.ax_isa.specs.declared.effects.Back.TheVariants.{Stack as Pops}
use Rattle.ax_isa.specs.declared.effects.Effect.TheVariants as effect
use Rattle.ax_isa.specs.Processor.{Processor}
use Rattle.ax_isa.specs.Steps.{go_back, go_on, go_to, popped, with_status}
use Rattle.ax_isa.specs.Tells.{An_act, with_role}
use Rattle.ax_follow.specs.Contract.{machine_status}
use Rattle.ax_mid.specs.declared.code.Line.{Line}
use Rattle.ax_mid.specs.declared.instruction.MidInst.{MidInst}
use Rattle.ax_mid.specs.declared.instruction.MidInst.TheVariants as inst
use Rattle.ax_mid.specs.Machine.{behind_label, private_step}
use Rattle.ax_mid.specs.Processor.{MidProcessor, goes_on, unseen}
use Rattle.ax_x86.specs.declared.instructions.X86Instr.{X86Instr}
use Rattle.ax_x86.specs.declared.instructions.X86Instr.TheVariants.{Nop, Ret, Syscall, Ud2}
use Rattle.ax_isa.specs.Numbers.{displaced}
use Rattle.ax_x86.specs.Instructions.{effect_of, x86_kind}
use Rattle.ax_expand.specs.Operation.{hushed}
use Rattle.ax_expand.specs.Private.{Private, Goes}
use Rattle.ax_expand.proofs.Straight.{goes_append, goes_place}
use Rattle.ax_fine.specs.Fine.{Program, Spelled, chosen_by, is_label, is_quiet, room_of, settled, stepped}
use Rattle.ax_emit.specs.Lines.{Laid, LineCode, branch_code, ended_code, place_behind}
use Rattle.ax_emit.specs.Performs.{Ends as EndsLine, Splits, at_frame, remains, stilled, turned}
use Rattle.ax_emit.proofs.Lines.{stepped_place, stepped_same}
use Rattle.ax_emit.proofs.Moves.{got_all, got_fixed}
use Rattle.ax_emit_x86.specs.Code.{Expansion, distance, get_one, inst_code, piece_of, jump_to, test_code, turn}
use Rattle.ax_emit_x86.specs.Laws.{Low, X86Based}
use Rattle.ax_emit_x86.specs.Slots.{x86_table}
use Rattle.ax_emit_x86.proofs.Computing.{Laws, based, compare, fixed_stack, gets_short, resized, set_to}

-- a jump leads to its target
pub jump_goes : (place target : ℕ) (c : Processor) → c.place ≡ place → place < 2 ^ 32 → target < 2 ^ 32 → x86_kind.effect_of (jump_to place target) c ≡ effect.Jump target
unfolding effect_of
jump_goes place target c at low low_target = ap effect.Jump (ap (λ q. displaced q (distance place target)) at ∙ go (nat_le place target) refl)
  where
    go : (t : Bool) → nat_le place target ≡ t → displaced place (if t then pos (target - place) else negsuc (place - target - 1)) ≡ target
    go true e = let le : place ≤ target = grind (arith, nat_tests, e) in (let q : (place + (target - place)) % 2 ^ 64 ≡ target = omega (arith, le, low_target) in q)
    go false e = let lt : target < place = grind (arith, nat_tests, e) in (let q : (place + (2 ^ 64 - 1 - (place - target - 1))) % 2 ^ 64 ≡ target = omega (arith, lt, low) in q)

-- what these lines do
jump_does : {R W : Type 0} (m : Program R W) (quiet : Bool) (n p : ℕ) (s : MidProcessor) (w : W)
    → chosen_by m An_act quiet p (inst.Jump n) s w ≡ Some (record { processor = stepped m quiet (record s { place = behind_label m.key m.code.lines n 0 }); world = w; output = None; gives = hushed quiet An_act; excused = false })
unfolding chosen_by private_step
jump_does m quiet n p s w = refl

nop_does : {R W : Type 0} (m : Program R W) (quiet : Bool) (p : ℕ) (s : MidProcessor) (w : W) → chosen_by m An_act quiet p inst.Nop s w ≡ Some (record { processor = stepped m quiet (goes_on s); world = w; output = None; gives = hushed quiet An_act; excused = false })
unfolding chosen_by private_step
nop_does m quiet p s w = refl

trap_does : {R W : Type 0} (m : Program R W) (quiet : Bool) (p : ℕ) (s : MidProcessor) (w : W) → chosen_by m An_act quiet p inst.Trap s w ≡ Some (record { processor = record s { status = Traps }; world = w; output = None; gives = hushed quiet An_act; excused = false })
unfolding chosen_by
trap_does m quiet p s w = refl

ret_does : {R W : Type 0} (m : Program R W) (quiet : Bool) (p : ℕ) (s : MidProcessor) (w : W)
    → chosen_by m An_act quiet p inst.Ret s w ≡ Some (record { processor = record s { place = suc (length m.code.lines); status = Ended; seen = None }; world = w; output = None; gives = hushed quiet An_act; excused = false })
unfolding chosen_by
ret_does m quiet p s w = refl

out_does : {R W : Type 0} (m : Program R W) (quiet : Bool) (from : R) (p : ℕ) (s : MidProcessor) (w : W) → chosen_by m An_act quiet p (inst.Out from) s w ≡ Some (record { processor = settled m (unseen (goes_on s)); world = w; output = Some (s.regs (m.key from)); gives = hushed quiet An_act; excused = false })
unfolding chosen_by
out_does m quiet from p s w = refl

module _ {R W : Type 0} (m : Program R W) (h : X86Based m) (law : Laws m) (most : ℕ) (enough : 8 ≤ most) (line : Line R) (expansions : Op → Width → Order → Bool → Expansion) where
  abbrev Follows : MidInst R → Type 0
  Follows i = LineCode x86_kind m most (length (inst_code m expansions i (λ j. 0) 0)) (λ places start. inst_code m expansions i places start) line

  abbrev quiet : Bool
  quiet = is_quiet line.tag

  -- a line of one instruction
  single : (i : MidInst R) (acts : (ℕ → ℕ) → ℕ → X86Instr) → line.inst ≡ i → is_label i ≡ false
      → ((places : ℕ → ℕ) (own : ℕ) → Laid m places own 1 → (p : ℕ) (c : Processor) (f : ℕ → ℕ) (s : MidProcessor) → s.place ≡ own → c.place ≡ places own → Spelled m p c f s → EndsLine x86_kind m p line places [] (acts places (places own)) s (at_frame c f))
      → LineCode x86_kind m most (length (ended_code [] acts (λ j. 0) 0)) (ended_code [] acts) line
  single i acts is no_label ends = resized x86_kind m most _ (ended_code [] acts) line (law.ended x86_table (based m h) line [] acts most (ap is_label is ∙ no_label) (omega arith) ends)

  pub jump_line : (n : ℕ) → line.inst ≡ inst.Jump n → Follows (inst.Jump n)
  unfolding piece_of
  jump_line n is =
      single (inst.Jump n) (λ places start. jump_to start (place_behind m places n)) is refl (λ places own laid p c f s at there spelt. (
      let target = place_behind m places n in
      let next = record s { place = behind_label m.key m.code.lines n 0 } in
      let same = stepped_same m quiet next in
      let low = laid.low own in
      let low_target = laid.low (behind_label m.key m.code.lines n 0) in
      record {
        private = at_frame c f;
        goes = refl;
        frame = refl;
        fixed = λ r k. refl;
        next = stepped m quiet next;
        output = None;
        does = λ w. ap (λ i. chosen_by m An_act quiet p i s w) is ∙ jump_does m quiet n p s w;
        regs = same.regs;
        bytes = same.frame;
        last = go_to target c;
        stills = ap (λ e. stilled (m.top p) e c) (jump_goes (places own) target c there low low_target);
        place = sym (ap places (stepped_place m quiet next) ∙ laid.settles (behind_label m.key m.code.lines n 0));
        low = low_target;
        status = λ runs r. r ∙ sym (ap machine_status (same.status ∙ runs));
      }))

  pub nop_line : line.inst ≡ inst.Nop → Follows inst.Nop
  unfolding piece_of effect_of
  nop_line is =
      single inst.Nop (λ places start. Nop) is refl (λ places own laid p c f s at there spelt. (
      let same = stepped_same m quiet (goes_on s) in
      let ends : c.place + 1 ≡ places (stepped m quiet (goes_on s)).place = ap (λ q. q + 1) there ∙ sym laid.next ∙ sym (ap places (stepped_place m quiet (goes_on s)) ∙ laid.settles (s.place + 1) ∙ ap (λ q. places (q + 1)) at) in
      record {
        private = at_frame c f;
        goes = refl;
        frame = refl;
        fixed = λ r k. refl;
        next = stepped m quiet (goes_on s);
        output = None;
        does = λ w. ap (λ i. chosen_by m An_act quiet p i s w) is ∙ nop_does m quiet p s w;
        regs = same.regs;
        bytes = same.frame;
        last = go_on c;
        stills = refl;
        place = ends;
        low = subst (λ q. q < 2 ^ 32) (sym ends) (laid.low (stepped m quiet (goes_on s)).place);
        status = λ runs r. r ∙ sym (ap machine_status (same.status ∙ runs));
      }))

  pub trap_line : line.inst ≡ inst.Trap → Follows inst.Trap
  unfolding piece_of effect_of
  trap_line is =
      single inst.Trap (λ places start. Ud2) is refl (λ places own laid p c f s at there spelt. record {
        private = at_frame c f;
        goes = refl;
        frame = refl;
        fixed = λ r k. refl;
        next = record s { status = Traps };
        output = None;
        does = λ w. ap (λ i. chosen_by m An_act quiet p i s w) is ∙ trap_does m quiet p s w;
        regs = refl;
        bytes = refl;
        last = with_status Trapped c;
        stills = refl;
        place = there ∙ ap places (sym at);
        low = subst (λ q. q < 2 ^ 32) (sym there) (laid.low own);
        status = λ runs r. refl;
      })

  -- it pops the root
  pub ret_line : line.inst ≡ inst.Ret → Follows inst.Ret
  unfolding piece_of effect_of
  ret_line is =
      single inst.Ret (λ places start. Ret) is refl (λ places own laid p c f s at there spelt. (
      let top : c.regs 4 ≡ m.top p = spelt.fixed 4 h.stack ∙ h.home p in
      let at_root : nat_eq (c.regs 4) (m.top p) ≡ true = grind (arith, nat_tests, top) in
      let last = with_role Outside (go_back 0 (popped (Pops 4 (c.regs 4)) c)) in
      record {
        private = at_frame c f;
        goes = refl;
        frame = refl;
        fixed = λ r k. refl;
        next = record s { place = suc (length m.code.lines); status = Ended; seen = None };
        output = None;
        does = λ w. ap (λ i. chosen_by m An_act quiet p i s w) is ∙ ret_does m quiet p s w;
        regs = refl;
        bytes = refl;
        last = last;
        stills = ap (λ t. if t then Some (remains last None) else None) at_root;
        place = sym laid.ended;
        low = omega arith;
        status = λ runs r. refl;
      }))

  pub out_line : (from : R) → line.inst ≡ inst.Out from → Low m from → Follows (inst.Out from)
  unfolding piece_of effect_of
  out_line from is low =
      resized x86_kind m most _ (ended_code (get_one m.key 7 from) (λ places start. Syscall)) line
      (law.ended x86_table (based m h) line (get_one m.key 7 from) (λ places start. Syscall) most (ap is_label is) (let a = gets_short ((7, m.key from) ∷ []) in omega (arith, a, enough)) (λ places own laid p c f s at there spelt. (
      let zs = (7, m.key from) ∷ [] in
      let g = got_all x86_kind m x86_table (based m h) p zs s (at_frame c f) (tt, tt) (refl, tt) (low, tt) spelt in
      let rdi : g.private.cpu.regs 7 ≡ s.regs (m.key from) = (let e = g.numbers in cc) in
      let moved = goes_place x86_kind (room_of m p) (get_one m.key 7 from) (at_frame c f) g.private g.goes in
      let next = settled m (unseen (goes_on s)) in
      let ends : g.private.cpu.place + 1 ≡ places next.place = ap (λ q. q + 1) (moved.0 ∙ ap (λ q. q + length (get_one m.key 7 from)) there) ∙ (let e : places own + length (get_one m.key 7 from) + 1 ≡ places own + (length (get_one m.key 7 from) + 1) = omega arith in e) ∙ sym laid.next ∙ sym (laid.settles (s.place + 1) ∙ ap (λ q. places (q + 1)) at) in
      record {
        private = g.private;
        goes = g.goes;
        frame = g.frame;
        fixed = got_fixed x86_kind m x86_table (based m h) p zs s (at_frame c f) g (refl, tt);
        next = next;
        output = Some (s.regs (m.key from));
        does = λ w. ap (λ i. chosen_by m An_act quiet p i s w) is ∙ out_does m quiet from p s w;
        regs = refl;
        bytes = refl;
        last = go_on g.private.cpu;
        stills = ap (λ v. Some (remains (go_on g.private.cpu) (Some v))) rdi;
        place = ends;
        low = subst (λ q. q < 2 ^ 32) (sym ends) (laid.low next.place);
        status = λ runs r. r ∙ sym (ap machine_status runs);
      })))

  -- A BRANCH: over one jump where the test isn't 0
  branch_turns : (c : Processor) (v : ℕ) → c.compared ≡ (v, 0) → c.place + 2 < 2 ^ 32 → turned (effect_of turn c) c ≡ Some (if nat_eq v 0 then c.place + 1 else c.place + 2)
  unfolding effect_of
  branch_turns c v pair low = ap (λ (q : ℕ × ℕ). Some (if not (nat_eq q.0 q.1) then displaced c.place (pos 2) else c.place + 1)) pair ∙ go (nat_eq v 0)
    where
      go : (t : Bool) → Some (if not t then displaced c.place (pos 2) else c.place + 1) ≡ Some (if t then c.place + 1 else c.place + 2)
      go true = refl
      go false = ap Some (let q : (c.place + 2) % 2 ^ 64 ≡ c.place + 2 = omega (arith, low) in q)

  -- rax is compared with 0
  pub record Tested (room : ℕ → Bool) (y : Private) : Type 0 where
    pub private : Private
    pub goes : Goes x86_kind room test_code y private
    pub frame : private.frame ≡ y.frame
    pub stack : private.cpu.regs 4 ≡ y.cpu.regs 4
    pub compared : private.cpu.compared ≡ (y.cpu.regs 0, 0)

  tested : (room : ℕ → Bool) (y : Private) → Tested room y
  unfolding effect_of
  tested room y =
      let y1 = set_to 2 0 y in
      let y2 = compare (y.cpu.regs 0) 0 y1 in
      record { private = y2; goes = (y1, refl, (y2, refl, refl)); frame = refl; stack = refl; compared = refl }

  pub branch_line : (test : R) (a b : ℕ) → line.inst ≡ inst.Branch test a b → Low m test → Follows (inst.Branch test a b)
  unfolding piece_of
  branch_line test a b is low =
      resized x86_kind m most _ (λ places start. branch_code (get_one m.key 0 test ++ test_code) turn jump_to (place_behind m places a) (place_behind m places b) start) line
      (law.branched x86_table (based m h) line test a b is (get_one m.key 0 test ++ test_code) turn jump_to most (omega (arith, enough)) splits jump_goes)
    where
      splits : (p : ℕ) (c : Processor) (f : ℕ → ℕ) (s : MidProcessor) → c.place + length (get_one m.key 0 test ++ test_code) + 2 < 2 ^ 32 → Spelled m p c f s → Splits x86_kind m p test (get_one m.key 0 test ++ test_code) turn s (at_frame c f)
      splits p c f s small spelt =
          let is = get_one m.key 0 test in
          let zs = (0, m.key test) ∷ [] in
          let g = got_all x86_kind m x86_table (based m h) p zs s (at_frame c f) (tt, tt) (refl, tt) (low, tt) spelt in
          let rax : g.private.cpu.regs 0 ≡ s.regs (m.key test) = (let e = g.numbers in cc) in
          let t = tested (room_of m p) g.private in
          let goes = goes_append x86_kind (room_of m p) is test_code (at_frame c f) g.private t.private g.goes t.goes in
          let moved = (goes_place x86_kind (room_of m p) (is ++ test_code) (at_frame c f) t.private goes).0 in
          record {
            private = t.private;
            goes = goes;
            frame = t.frame ∙ g.frame;
            fixed = λ q k. subst (λ r. t.private.cpu.regs r ≡ g.private.cpu.regs r) (sym (fixed_stack m h q k)) t.stack ∙ got_fixed x86_kind m x86_table (based m h) p zs s (at_frame c f) g (refl, tt) q k;
            turns = branch_turns t.private.cpu (s.regs (m.key test)) (t.compared ∙ ap (λ v. (v, 0)) rax) (omega (arith, moved, small));
          }
