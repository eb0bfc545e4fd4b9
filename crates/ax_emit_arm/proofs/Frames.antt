-- AArch64's code of loads and stores.
use Rattle.std.proofs.Common.{◌≡◌, ℕ, ◌+◌, ◌^◌, ◌<◌, ◌≤◌, Bool, true, false, List, [], ◌∷◌, length, Some, refl, sym, ap, ◌∙◌, subst, ⊎_elim, arith}
use Rattle.ax_words.specs.declared.mark.Op.{Op}
use Rattle.ax_words.specs.declared.order.Order.{Order}
use Rattle.ax_words.specs.declared.width.Width.{Width}
use Rattle.ax_store.specs.Bytes.{cut, number_at, written}
use Rattle.ax_isa.specs.declared.effects.Effect.{Effect}
use Rattle.ax_isa.specs.declared.effects.Effect.TheVariants as effect
use Rattle.ax_isa.specs.declared.effects.Rest.TheVariants.{Zeros}
use Rattle.ax_isa.specs.Processor.{Processor}
use Rattle.ax_isa.specs.Steps.{go_on, go_with, with_half}
use Rattle.ax_isa.proofs.Functions.{at_other, at_same}
use Rattle.ax_mid.specs.declared.code.Line.{Line}
use Rattle.ax_mid.specs.declared.instruction.MidInst.TheVariants as inst
use Rattle.ax_mid.specs.Processor.{MidProcessor, gets}
use Rattle.ax_arm.specs.Effects.{bytes_of, effect_of, moved}
use Rattle.ax_arm.specs.Instructions.{arm_kind}
use Rattle.ax_expand.specs.Private.{Private, may_use, went}
use Rattle.ax_expand.specs.Standing.{wrap}
use Rattle.ax_expand.proofs.Straight.{goes_place}
use Rattle.ax_fine.specs.Fine.{Program, Spelled, private_at, room_of}
use Rattle.ax_emit.specs.Atomics.{Homes, gets_all, puts_all}
use Rattle.ax_emit.specs.Lines.{LineCode, access_code}
use Rattle.ax_emit.specs.Performs.{Acted, May, Performs, at_frame}
use Rattle.ax_emit.specs.Touches.{IsSize, is_private_at}
use Rattle.ax_emit.proofs.Frames.{after_store, found, frame_number, load_does, spelled_store, store_does}
use Rattle.ax_emit.proofs.Moves.{got_all, got_fixed, gave_one}
use Rattle.ax_emit.proofs.Slots.{spelled_same}
use Rattle.ax_emit_arm.specs.Code.{Expansion, address_register, get_one, inst_code, load_in, piece_of, size_of_bytes, store_in}
use Rattle.ax_emit_arm.specs.Laws.{Accessed, Low, ArmBased, every}
use Rattle.ax_emit_arm.specs.Slots.{arm_table}
use Rattle.ax_emit_arm.proofs.Atomics.{puts_short, reads, writes}
use Rattle.ax_emit_arm.proofs.Computing.{Laws, based, fixed_high, gets_short, resized}
use Rattle.ax_emit_arm.proofs.Tables.{there, went_load, went_store}

-- the bytes of an access
size_is : (n : ℕ) → IsSize n → bytes_of (size_of_bytes n) ≡ n
size_is n size = ⊎_elim (λ e. by 1 e refl) (λ r. ⊎_elim (λ e. by 2 e refl) (λ r2. ⊎_elim (λ e. by 4 e refl) (λ e. by 8 e refl) r2) r) size
  where
    by : (k : ℕ) → n ≡ k → bytes_of (size_of_bytes k) ≡ k → bytes_of (size_of_bytes n) ≡ n
    by k e b = ap (λ q. bytes_of (size_of_bytes q)) e ∙ b ∙ sym e

-- the processor after a load into register 0
abbrev pub after_load : ℕ → Private → Private
after_load v y = record { cpu = with_half y.cpu.half (go_with 0 v y.cpu); frame = y.frame }

-- a load at the address in register 1
loads : (room : ℕ → Bool) (a n : ℕ) (y : Private) → y.cpu.regs 1 ≡ a → a < 2 ^ 64 → IsSize n → may_use room a n ≡ true → went room (effect_of (load_in n) y.cpu) y ≡ Some (after_load (number_at y.frame a n) y)
unfolding effect_of
loads room a n y at wide size may = ap (λ q. went room (Loads q) y) (size_is n size) ∙ went_load room 0 (moved (y.cpu.regs 1) 0) a n y (there (y.cpu.regs 1) a at wide) may
  where
    Loads : ℕ → Effect
    Loads q = effect.Load 0 (moved (y.cpu.regs 1) 0) q Zeros false

-- a store of the low bytes of register 0
stores : (room : ℕ → Bool) (a n : ℕ) (y : Private) → y.cpu.regs 1 ≡ a → a < 2 ^ 64 → IsSize n → may_use room a n ≡ true → went room (effect_of (store_in n) y.cpu) y ≡ Some (record { cpu = go_on y.cpu; frame = written y.frame a n (cut n (y.cpu.regs 0)) })
unfolding effect_of
stores room a n y at wide size may = ap (λ q. went room (Stores q) y) (size_is n size) ∙ went_store room (y.cpu.regs 0) (moved (y.cpu.regs 1) 0) a n y (there (y.cpu.regs 1) a at wide) may
  where
    Stores : ℕ → Effect
    Stores q = effect.Store (moved (y.cpu.regs 1) 0) q (y.cpu.regs 0)

module _ {R W : Type 0} (m : Program R W) (h : ArmBased m) (law : Laws m) (most : ℕ) (enough : 16 ≤ most) (line : Line R) (expansions : Op → Width → Order → Bool → Expansion) where
  load_homes : (to address : R) → Low m to → Low m address → Homes m arm_table every address [] (to ∷ []) address_register [] ((0, m.key to) ∷ [])
  load_homes to address low low_address =
      record {
        args_are = reads m 2 [];
        results_are = writes m 0 (to ∷ []);
        distinct = (tt, tt);
        distinct_results = (tt, tt);
        few = (low_address, tt);
        few_results = (low, tt);
        usable = (refl, tt);
        usable_results = (refl, tt);
        keeps_fixed = λ q k. refl;
        keeps_results = (refl, tt);
      }

  store_homes : (address from : R) → Low m address → Low m from → Homes m arm_table every address (from ∷ []) [] address_register ((0, m.key from) ∷ []) []
  store_homes address from low_address low_from =
      record {
        args_are = reads m 0 (from ∷ []);
        results_are = writes m 0 [];
        distinct = ((λ e. omega (arith, e), tt), (tt, tt));
        distinct_results = tt;
        few = (low_address, (low_from, tt));
        few_results = tt;
        usable = (refl, (refl, tt));
        usable_results = tt;
        keeps_fixed = λ q k. refl;
        keeps_results = tt;
      }

  -- A LOAD: slots, the load, slots
  pub load_line : (to address : R) (n : ℕ) → line.inst ≡ inst.Load to address n → Low m to → Low m address → IsSize n → Accessed m (m.load n) (load_in n) [] (0 ∷ [])
      → LineCode arm_kind m most (length (inst_code m expansions (inst.Load to address n) (λ j. 0) 0)) (λ places start. inst_code m expansions (inst.Load to address n) places start) line
  unfolding piece_of
  load_line to address n is low low_address size access =
      resized arm_kind m most _ (λ places start. wrap (get_one m.key address_register address) (access_code (load_in n) []) (puts_all arm_table qs) start) line
      (law.load to address n arm_table (based m h) every address_register [] qs (load_homes to address low low_address) (load_in n) [] access.counted access.expands line is performs most
      (let a = gets_short ((address_register, m.key address) ∷ []) in let b = puts_short qs in omega (arith, a, b, enough)))
    where
      qs : List (ℕ × ℕ)
      qs = (0, m.key to) ∷ []

      performs : (p : ℕ) (c : Processor) (f : ℕ → ℕ) (s : MidProcessor) → Spelled m p c f s → is_private_at m p (inst.Load to address n) s.regs ≡ true → Performs arm_kind m p (inst.Load to address n) (get_one m.key address_register address) (load_in n) (puts_all arm_table qs) s (at_frame c f)
      performs p c f s spelt alone =
          let zs = (address_register, m.key address) ∷ [] in
          let g = got_all arm_kind m arm_table (based m h) p zs s (at_frame c f) (tt, tt) (refl, tt) (low_address, tt) spelt in
          let fixed = got_fixed arm_kind m arm_table (based m h) p zs s (at_frame c f) g (refl, tt) in
          record { private = g.private; comes = g.goes; acted = λ may. acts may g.private g.frame (let e = g.numbers in let q : g.private.cpu.regs 1 ≡ s.regs (m.key address) = cc in q) fixed (goes_place arm_kind (room_of m p) (get_one m.key address_register address) (at_frame c f) g.private g.goes).1 }
        where
          acts : May arm_kind m p (inst.Load to address n) s → (y : Private) → y.frame ≡ f → y.cpu.regs 1 ≡ s.regs (m.key address) → ((q : ℕ) → m.fixed q ≡ true → y.cpu.regs q ≡ c.regs q) → y.cpu.role ≡ c.role → Acted arm_kind m p (inst.Load to address n) s (load_in n) (puts_all arm_table qs) y
          acts may y frame one fixed role =
              let a = s.regs (m.key address) in
              let z = found m h.sound p spelt.lives a n size alone in
              let v = number_at s.frame z.offset n in
              let does : private_at m p (inst.Load to address n) s ≡ Some (gets (m.key to) v s) = load_does m h.sound p to address n s z in
              let b = after_load (number_at y.frame a n) y in
              let number : b.cpu.regs 0 ≡ v = ap (λ g. number_at g a n) frame ∙ frame_number m h.sound p c f s a n spelt z in
              let here : Spelled m p b.cpu b.frame s = spelled_same m h.sound p c b.cpu f b.frame s spelt (λ i own. ap (λ g. g i) frame) (λ q k. at_other y.cpu.regs 0 (number_at y.frame a n) q (let hi = fixed_high m h q k in λ e. omega (arith, e, hi)) ∙ fixed q k) role in
              let g = gave_one arm_kind m arm_table (based m h) p (m.key to) 0 v s b refl low here in
              record {
                next = gets (m.key to) v s;
                does = does;
                place = refl;
                status = refl;
                behind = b;
                acts = loads (room_of m p) a n y one z.small size z.usable;
                private = g.private;
                goes = g.goes;
                spelled = g.spelled (subst (λ q. q < 2 ^ 64) (at_same s.regs (m.key to) v) (may.next (gets (m.key to) v s) (m.key to) does)) number (s.place + 1);
              }

  -- A STORE: slots, and the store
  pub store_line : (address from : R) (n : ℕ) → line.inst ≡ inst.Store address from n → Low m address → Low m from → IsSize n → Accessed m (m.store n) (store_in n) (0 ∷ []) []
      → LineCode arm_kind m most (length (inst_code m expansions (inst.Store address from n) (λ j. 0) 0)) (λ places start. inst_code m expansions (inst.Store address from n) places start) line
  unfolding piece_of
  store_line address from n is low_address low_from size access =
      resized arm_kind m most _ (λ places start. wrap (gets_all arm_table ((address_register, m.key address) ∷ (0, m.key from) ∷ [])) (access_code (store_in n) []) [] start) line
      (law.store address from n arm_table (based m h) every address_register ((0, m.key from) ∷ []) [] (store_homes address from low_address low_from) (store_in n) [] access.counted access.expands line is performs most
      (let a = gets_short ((address_register, m.key address) ∷ (0, m.key from) ∷ []) in omega (arith, a, enough)))
    where
      performs : (p : ℕ) (c : Processor) (f : ℕ → ℕ) (s : MidProcessor) → Spelled m p c f s → is_private_at m p (inst.Store address from n) s.regs ≡ true → Performs arm_kind m p (inst.Store address from n) (gets_all arm_table ((address_register, m.key address) ∷ (0, m.key from) ∷ [])) (store_in n) [] s (at_frame c f)
      performs p c f s spelt alone =
          let zs = (address_register, m.key address) ∷ (0, m.key from) ∷ [] in
          let g = got_all arm_kind m arm_table (based m h) p zs s (at_frame c f) ((λ e. omega (arith, e), tt), (tt, tt)) (refl, (refl, tt)) (low_address, (low_from, tt)) spelt in
          let fixed = got_fixed arm_kind m arm_table (based m h) p zs s (at_frame c f) g (refl, (refl, tt)) in
          let one : g.private.cpu.regs 1 ≡ s.regs (m.key address) = (let e = g.numbers in cc) in
          let zero : g.private.cpu.regs 0 ≡ s.regs (m.key from) = (let e = g.numbers in cc) in
          let role = (goes_place arm_kind (room_of m p) (gets_all arm_table ((address_register, m.key address) ∷ (0, m.key from) ∷ [])) (at_frame c f) g.private g.goes).1 in
          record { private = g.private; comes = g.goes; acted = λ may. acts g.private g.frame one zero fixed role }
        where
          acts : (y : Private) → y.frame ≡ f → y.cpu.regs 1 ≡ s.regs (m.key address) → y.cpu.regs 0 ≡ s.regs (m.key from) → ((q : ℕ) → m.fixed q ≡ true → y.cpu.regs q ≡ c.regs q) → y.cpu.role ≡ c.role → Acted arm_kind m p (inst.Store address from n) s (store_in n) [] y
          acts y frame one zero fixed role =
              let a = s.regs (m.key address) in
              let v = s.regs (m.key from) in
              let z = found m h.sound p spelt.lives a n size alone in
              let b : Private = record { cpu = go_on y.cpu; frame = written y.frame a n (cut n (y.cpu.regs 0)) } in
              record {
                next = after_store m h.sound p a n v z s;
                does = store_does m h.sound p address from n s z;
                place = refl;
                status = refl;
                behind = b;
                acts = stores (room_of m p) a n y one z.small size z.usable;
                private = b;
                goes = refl;
                spelled = subst (λ g. Spelled m p b.cpu g (after_store m h.sound p a n v z s)) (ap (λ g. written g a n (cut n v)) (sym frame) ∙ ap (λ q. written y.frame a n (cut n q)) (sym zero)) (spelled_store m h.sound p c b.cpu f s a n v spelt z fixed role);
              }
