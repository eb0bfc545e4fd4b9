-- RV64's code of loads and stores.
use Rattle.std.proofs.Common.{◌≡◌, ℕ, ◌+◌, ◌-◌, ◌*◌, ◌/◌, ◌%◌, ◌^◌, ◌<◌, ◌≤◌, Bool, true, false, List, [], ◌∷◌, ◌++◌, length, Some, refl, sym, ap, ◌∙◌, subst, ⊎_elim, arith}
use Rattle.std.specs.Prelude.{if◌then◌else◌, nat_le, pos}
use Rattle.ax_words.specs.declared.mark.Op.{Op}
use Rattle.ax_words.specs.declared.order.Order.{Order}
use Rattle.ax_words.specs.declared.width.Width.{Width}
use Rattle.ax_store.specs.Bytes.{cut, number_at, written}
use Rattle.ax_isa.specs.declared.effects.Effect.{Effect}
use Rattle.ax_isa.specs.declared.effects.Effect.TheVariants as effect
use Rattle.ax_isa.specs.declared.effects.Rest.TheVariants.{Zeros, Signs}
use Rattle.ax_isa.specs.Processor.{Processor}
use Rattle.ax_isa.specs.Steps.{extended, go_on, go_with, with_half}
use Rattle.ax_isa.proofs.Functions.{at_same, at_other}
use Rattle.ax_mid.specs.declared.code.Line.{Line}
use Rattle.ax_mid.specs.declared.instruction.MidInst.TheVariants as inst
use Rattle.ax_mid.specs.Processor.{MidProcessor, gets}
use Rattle.ax_isa.specs.Numbers.{displaced}
use Rattle.ax_rv.specs.Arithmetic.{shifted_left, shifted_right}
use Rattle.ax_rv.specs.Instructions.{rv_kind}
use Rattle.ax_rv.specs.Skeleton.{store_bytes}
use Rattle.ax_expand.specs.Private.{Private, may_use, went, Goes}
use Rattle.ax_expand.specs.Standing.{wrap}
use Rattle.ax_expand.proofs.Straight.{goes_append, goes_place, went_next}
use Rattle.ax_fine.specs.Fine.{Program, Spelled, private_at, room_of}
use Rattle.ax_emit.specs.Atomics.{Homes, puts_all}
use Rattle.ax_emit.specs.Lines.{LineCode, access_code}
use Rattle.ax_emit.specs.Performs.{Acted, May, Performs, at_frame}
use Rattle.ax_emit.specs.Table.{put}
use Rattle.ax_emit.specs.Touches.{IsSize, is_private_at}
use Rattle.ax_emit.proofs.Frames.{after_store, found, frame_number, load_does, loaded_small, spelled_store, store_does}
use Rattle.ax_emit.proofs.Moves.{got_all, got_fixed, gave_one}
use Rattle.ax_emit.proofs.Slots.{spelled_same}
use Rattle.ax_emit_rv.specs.Code.{Expansion, cleared, get_one, get_two, inst_code, load_in, piece_of, store_form, store_in}
use Rattle.ax_emit_rv.specs.Laws.{Accessed, Low, RvBased, every}
use Rattle.ax_emit_rv.specs.Slots.{rv_table}
use Rattle.ax_emit_rv.proofs.Atomics.{puts_short, reads, writes}
use Rattle.ax_emit_rv.proofs.Computing.{Laws, based, fixed_low, gets_short, resized}
use Rattle.ax_emit_rv.proofs.Tables.{there, went_load, went_store}

-- after a load at the address in register 5, and what clears it, register 7 has the number
pub record Loads (room : ℕ → Bool) (n v : ℕ) (y : Private) : Type 0 where
  pub behind : Private
  pub acts : went room (rv_kind.effect_of (load_in n) y.cpu) y ≡ Some behind
  pub private : Private
  pub goes : Goes rv_kind room (cleared n) behind private
  pub frame : private.frame ≡ y.frame
  pub number : private.cpu.regs 7 ≡ v
  pub low : (q : ℕ) → q < 3 → private.cpu.regs q ≡ y.cpu.regs q

-- a word that was extended by its sign
word_cleared : (v : ℕ) → v < 2 ^ 32 → shifted_right (shifted_left (extended 4 Signs 0 v) 32) 32 ≡ v
word_cleared v small = go (nat_le (2 ^ (8 * 4 - 1)) v)
  where
    go : (t : Bool) → (if t then v + (2 ^ 64 - 2 ^ (8 * 4)) else v) * 2 ^ 32 % 2 ^ 64 / 2 ^ 32 ≡ v
    go true = (let q : (v + (2 ^ 64 - 2 ^ 32)) * 2 ^ 32 % 2 ^ 64 / 2 ^ 32 ≡ v = omega (arith, small) in q)
    go false = (let q : v * 2 ^ 32 % 2 ^ 64 / 2 ^ 32 ≡ v = omega (arith, small) in q)

module _ (room : ℕ → Bool) (a v : ℕ) (y : Private) (at : y.cpu.regs 5 ≡ a) (wide : a < 2 ^ 64) where
  -- the processor after a load
  abbrev after_load : ℕ → Private
  after_load w = record { cpu = with_half y.cpu.half (go_with 7 w y.cpu); frame = y.frame }

  here : displaced (y.cpu.regs 5) (pos 0) ≡ a
  here = there (y.cpu.regs 5) a at wide

  low_after : (w q : ℕ) → q < 3 → (after_load w).cpu.regs q ≡ y.cpu.regs q
  low_after w q lo = at_other y.cpu.regs 7 w q (λ e. omega (arith, e, lo))

  plain : (n : ℕ) → went room (rv_kind.effect_of (load_in n) y.cpu) y ≡ Some (after_load (number_at y.frame a n)) → cleared n ≡ [] → number_at y.frame a n ≡ v → Loads room n v y
  plain n acts none is =
      record {
        behind = after_load (number_at y.frame a n);
        acts = acts;
        private = after_load (number_at y.frame a n);
        goes = subst (λ js. Goes rv_kind room js (after_load (number_at y.frame a n)) (after_load (number_at y.frame a n))) (sym none) refl;
        frame = refl;
        number = at_same y.cpu.regs 7 (number_at y.frame a n) ∙ is;
        low = low_after (number_at y.frame a n);
      }

  loads_1 : may_use room a 1 ≡ true → number_at y.frame a 1 ≡ v → Loads room 1 v y
  loads_1 may is = plain 1 (went_load room 7 (displaced (y.cpu.regs 5) (pos 0)) a 1 Zeros y here may) refl is

  loads_2 : may_use room a 2 ≡ true → number_at y.frame a 2 ≡ v → Loads room 2 v y
  loads_2 may is = plain 2 (went_load room 7 (displaced (y.cpu.regs 5) (pos 0)) a 2 Zeros y here may) refl is

  loads_8 : may_use room a 8 ≡ true → number_at y.frame a 8 ≡ v → Loads room 8 v y
  loads_8 may is = plain 8 (went_load room 7 (displaced (y.cpu.regs 5) (pos 0)) a 8 Zeros y here may) refl is

  loads_4 : may_use room a 4 ≡ true → number_at y.frame a 4 ≡ v → v < 2 ^ 32 → Loads room 4 v y
  loads_4 may is small =
      let w = extended 4 Signs (y.cpu.regs 7) (number_at y.frame a 4) in
      let b = after_load w in
      let y1 : Private = record { cpu = go_with 7 (shifted_left (b.cpu.regs 7) 32) b.cpu; frame = y.frame } in
      let y2 : Private = record { cpu = go_with 7 (shifted_right (y1.cpu.regs 7) 32) y1.cpu; frame = y.frame } in
      record {
        behind = b;
        acts = went_load room 7 (displaced (y.cpu.regs 5) (pos 0)) a 4 Signs y here may;
        private = y2;
        goes = (y1, refl, (y2, refl, refl));
        frame = refl;
        number = (let q : y2.cpu.regs 7 ≡ shifted_right (shifted_left w 32) 32 = refl in q) ∙ ap (λ z. shifted_right (shifted_left (extended 4 Signs 0 z) 32) 32) is ∙ word_cleared v small;
        low = λ q lo. at_other y1.cpu.regs 7 _ q (λ e. omega (arith, e, lo)) ∙ at_other b.cpu.regs 7 _ q (λ e. omega (arith, e, lo)) ∙ low_after w q lo;
      }

  pub loads : (n : ℕ) → IsSize n → may_use room a n ≡ true → number_at y.frame a n ≡ v → v < 2 ^ (8 * n) → Loads room n v y
  loads n size may is small =
      ⊎_elim (λ e. subst (λ k. may_use room a k ≡ true → number_at y.frame a k ≡ v → v < 2 ^ (8 * k) → Loads room k v y) (sym e) (λ may is small. loads_1 may is) may is small)
      (λ r. ⊎_elim (λ e. subst (λ k. may_use room a k ≡ true → number_at y.frame a k ≡ v → v < 2 ^ (8 * k) → Loads room k v y) (sym e) (λ may is small. loads_2 may is) may is small)
      (λ r2. ⊎_elim (λ e. subst (λ k. may_use room a k ≡ true → number_at y.frame a k ≡ v → v < 2 ^ (8 * k) → Loads room k v y) (sym e) (λ may is small. loads_4 may is small) may is small)
      (λ e. subst (λ k. may_use room a k ≡ true → number_at y.frame a k ≡ v → v < 2 ^ (8 * k) → Loads room k v y) (sym e) (λ may is small. loads_8 may is) may is small) r2) r) size

-- a store of the low bytes of register 6
stores : (room : ℕ → Bool) (a n : ℕ) (y : Private) → y.cpu.regs 5 ≡ a → a < 2 ^ 64 → IsSize n → may_use room a n ≡ true → went room (rv_kind.effect_of (store_in n) y.cpu) y ≡ Some (record { cpu = go_on y.cpu; frame = written y.frame a n (cut n (y.cpu.regs 6)) })
stores room a n y at wide size may =
    ⊎_elim (λ e. by 1 e refl) (λ r. ⊎_elim (λ e. by 2 e refl) (λ r2. ⊎_elim (λ e. by 4 e refl) (λ e. by 8 e refl) r2) r) size
  where
    by : (k : ℕ) → n ≡ k → store_bytes (store_form k) ≡ k → went room (rv_kind.effect_of (store_in n) y.cpu) y ≡ Some (record { cpu = go_on y.cpu; frame = written y.frame a n (cut n (y.cpu.regs 6)) })
    by k e b =
        ap (λ q. went room (Stores q) y) (ap (λ q. store_bytes (store_form q)) e ∙ b ∙ sym e) ∙ went_store room (y.cpu.regs 6) (displaced (y.cpu.regs 5) (pos 0)) a n y (there (y.cpu.regs 5) a at wide) may
      where
        Stores : ℕ → Effect
        Stores q = effect.Store (displaced (y.cpu.regs 5) (pos 0)) q (y.cpu.regs 6)

clear_short : (n : ℕ) → IsSize n → length (cleared n) ≤ 2
clear_short n size =
    ⊎_elim (λ e. subst (λ k. length (cleared k) ≤ 2) (sym e) (omega arith)) (λ r. ⊎_elim (λ e. subst (λ k. length (cleared k) ≤ 2) (sym e) (omega arith)) (λ r2. ⊎_elim (λ e. subst (λ k. length (cleared k) ≤ 2) (sym e) (omega arith)) (λ e. subst (λ k. length (cleared k) ≤ 2) (sym e) (omega arith)) r2) r) size

module _ {R W : Type 0} (m : Program R W) (h : RvBased m) (law : Laws m) (most : ℕ) (enough : 16 ≤ most) (line : Line R) (expansions : Op → Width → Order → Bool → Expansion) where
  load_homes : (to address : R) → Low m to → Low m address → Homes m rv_table every address [] (to ∷ []) 5 [] ((7, m.key to) ∷ [])
  load_homes to address low low_address =
      record {
        args_are = reads m 6 [];
        results_are = writes m 7 (to ∷ []);
        distinct = (tt, tt);
        distinct_results = (tt, tt);
        few = (low_address, tt);
        few_results = (low, tt);
        usable = (refl, tt);
        usable_results = (refl, tt);
        keeps_fixed = λ q k. refl;
        keeps_results = (refl, tt);
      }

  store_homes : (address from : R) → Low m address → Low m from → Homes m rv_table every address (from ∷ []) [] 5 ((6, m.key from) ∷ []) []
  store_homes address from low_address low_from =
      record {
        args_are = reads m 6 (from ∷ []);
        results_are = writes m 7 [];
        distinct = ((λ e. omega (arith, e), tt), (tt, tt));
        distinct_results = tt;
        few = (low_address, (low_from, tt));
        few_results = tt;
        usable = (refl, (refl, tt));
        usable_results = tt;
        keeps_fixed = λ q k. refl;
        keeps_results = tt;
      }

  -- A LOAD: slots, the load with what clears its result, slots
  pub load_line : (to address : R) (n : ℕ) → line.inst ≡ inst.Load to address n → Low m to → Low m address → IsSize n → Accessed m (m.load n) (load_in n) (cleared n) [] (7 ∷ [])
      → LineCode rv_kind m most (length (inst_code m expansions (inst.Load to address n) (λ j. 0) 0)) (λ places start. inst_code m expansions (inst.Load to address n) places start) line
  unfolding piece_of
  load_line to address n is low low_address size access =
      resized rv_kind m most _ (λ places start. wrap (get_one m.key 5 address) (access_code (load_in n) (cleared n)) (puts_all rv_table qs) start) line
      (law.load to address n rv_table (based m h) every 5 [] qs (load_homes to address low low_address) (load_in n) (cleared n) access.counted access.expands line is performs most
      (let a = gets_short ((5, m.key address) ∷ []) in let b = puts_short qs in let c = clear_short n size in omega (arith, a, b, c, enough)))
    where
      qs : List (ℕ × ℕ)
      qs = (7, m.key to) ∷ []

      performs : (p : ℕ) (c : Processor) (f : ℕ → ℕ) (s : MidProcessor) → Spelled m p c f s → is_private_at m p (inst.Load to address n) s.regs ≡ true → Performs rv_kind m p (inst.Load to address n) (get_one m.key 5 address) (load_in n) (cleared n ++ puts_all rv_table qs) s (at_frame c f)
      performs p c f s spelt alone =
          let zs = (5, m.key address) ∷ [] in
          let g = got_all rv_kind m rv_table (based m h) p zs s (at_frame c f) (tt, tt) (refl, tt) (low_address, tt) spelt in
          let fixed = got_fixed rv_kind m rv_table (based m h) p zs s (at_frame c f) g (refl, tt) in
          record { private = g.private; comes = g.goes; acted = λ may. acts may g.private g.frame (let e = g.numbers in let q : g.private.cpu.regs 5 ≡ s.regs (m.key address) = cc in q) fixed (goes_place rv_kind (room_of m p) (get_one m.key 5 address) (at_frame c f) g.private g.goes).1 }
        where
          acts : May rv_kind m p (inst.Load to address n) s → (y : Private) → y.frame ≡ f → y.cpu.regs 5 ≡ s.regs (m.key address) → ((q : ℕ) → m.fixed q ≡ true → y.cpu.regs q ≡ c.regs q) → y.cpu.role ≡ c.role → Acted rv_kind m p (inst.Load to address n) s (load_in n) (cleared n ++ puts_all rv_table qs) y
          acts may y frame five fixed role =
              let a = s.regs (m.key address) in
              let z = found m h.sound p spelt.lives a n size alone in
              let v = number_at s.frame z.offset n in
              let does : private_at m p (inst.Load to address n) s ≡ Some (gets (m.key to) v s) = load_does m h.sound p to address n s z in
              let ls = loads (room_of m p) a v y five z.small n size z.usable (ap (λ g. number_at g a n) frame ∙ frame_number m h.sound p c f s a n spelt z) (loaded_small m h.sound p s a n may.bytes z) in
              let next_1 = went_next (room_of m p) (rv_kind.effect_of (load_in n) y.cpu) y ls.behind ls.acts in
              let next_2 = goes_place rv_kind (room_of m p) (cleared n) ls.behind ls.private ls.goes in
              let here : Spelled m p ls.private.cpu ls.private.frame s = spelled_same m h.sound p c ls.private.cpu f ls.private.frame s spelt (λ b own. ap (λ g. g b) (ls.frame ∙ frame)) (λ q k. ls.low q (fixed_low m h q k) ∙ fixed q k) (next_2.1 ∙ next_1.1 ∙ role) in
              let g = gave_one rv_kind m rv_table (based m h) p (m.key to) 7 v s ls.private refl low here in
              record {
                next = gets (m.key to) v s;
                does = does;
                place = refl;
                status = refl;
                behind = ls.behind;
                acts = ls.acts;
                private = g.private;
                goes = goes_append rv_kind (room_of m p) (cleared n) (puts_all rv_table qs) ls.behind ls.private g.private ls.goes (goes_append rv_kind (room_of m p) (put rv_table (m.key to) 7) [] ls.private g.private g.private g.goes refl);
                spelled = g.spelled (subst (λ q. q < 2 ^ 64) (at_same s.regs (m.key to) v) (may.next (gets (m.key to) v s) (m.key to) does)) ls.number (s.place + 1);
              }

  -- A STORE: slots, and the store
  pub store_line : (address from : R) (n : ℕ) → line.inst ≡ inst.Store address from n → Low m address → Low m from → IsSize n → Accessed m (m.store n) (store_in n) [] (6 ∷ []) []
      → LineCode rv_kind m most (length (inst_code m expansions (inst.Store address from n) (λ j. 0) 0)) (λ places start. inst_code m expansions (inst.Store address from n) places start) line
  unfolding piece_of
  store_line address from n is low_address low_from size access =
      resized rv_kind m most _ (λ places start. wrap (get_two m.key address from) (access_code (store_in n) []) [] start) line
      (law.store address from n rv_table (based m h) every 5 ((6, m.key from) ∷ []) [] (store_homes address from low_address low_from) (store_in n) [] access.counted access.expands line is performs most
      (let a = gets_short ((5, m.key address) ∷ (6, m.key from) ∷ []) in omega (arith, a, enough)))
    where
      performs : (p : ℕ) (c : Processor) (f : ℕ → ℕ) (s : MidProcessor) → Spelled m p c f s → is_private_at m p (inst.Store address from n) s.regs ≡ true → Performs rv_kind m p (inst.Store address from n) (get_two m.key address from) (store_in n) [] s (at_frame c f)
      performs p c f s spelt alone =
          let zs = (5, m.key address) ∷ (6, m.key from) ∷ [] in
          let g = got_all rv_kind m rv_table (based m h) p zs s (at_frame c f) ((λ e. omega (arith, e), tt), (tt, tt)) (refl, (refl, tt)) (low_address, (low_from, tt)) spelt in
          let fixed = got_fixed rv_kind m rv_table (based m h) p zs s (at_frame c f) g (refl, (refl, tt)) in
          let five : g.private.cpu.regs 5 ≡ s.regs (m.key address) = (let e = g.numbers in cc) in
          let six : g.private.cpu.regs 6 ≡ s.regs (m.key from) = (let e = g.numbers in cc) in
          let role = (goes_place rv_kind (room_of m p) (get_two m.key address from) (at_frame c f) g.private g.goes).1 in
          record { private = g.private; comes = g.goes; acted = λ may. acts g.private g.frame five six fixed role }
        where
          acts : (y : Private) → y.frame ≡ f → y.cpu.regs 5 ≡ s.regs (m.key address) → y.cpu.regs 6 ≡ s.regs (m.key from) → ((q : ℕ) → m.fixed q ≡ true → y.cpu.regs q ≡ c.regs q) → y.cpu.role ≡ c.role → Acted rv_kind m p (inst.Store address from n) s (store_in n) [] y
          acts y frame five six fixed role =
              let a = s.regs (m.key address) in
              let v = s.regs (m.key from) in
              let z = found m h.sound p spelt.lives a n size alone in
              let b : Private = record { cpu = go_on y.cpu; frame = written y.frame a n (cut n (y.cpu.regs 6)) } in
              record {
                next = after_store m h.sound p a n v z s;
                does = store_does m h.sound p address from n s z;
                place = refl;
                status = refl;
                behind = b;
                acts = stores (room_of m p) a n y five z.small size z.usable;
                private = b;
                goes = refl;
                spelled = subst (λ g. Spelled m p b.cpu g (after_store m h.sound p a n v z s)) (ap (λ g. written g a n (cut n v)) (sym frame) ∙ ap (λ q. written y.frame a n (cut n q)) (sym six)) (spelled_store m h.sound p c b.cpu f s a n v spelt z fixed role);
              }
