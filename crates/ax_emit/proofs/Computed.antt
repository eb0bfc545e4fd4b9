-- The code of a line that computes: its number goes from a register of the machine to a slot.
use Rattle.std.proofs.Common.{◌≡◌, ℕ, ◌+◌, ◌^◌, ◌<◌, ◌≤◌, Bool, true, false, List, [], ◌∷◌, ◌++◌, length, Some, refl, ap, ◌∙◌, subst, arith, length-append}
use Rattle.ax_isa.specs.Processor.{Processor}
use Rattle.ax_isa.specs.Steps.{Kind}
use Rattle.ax_isa.proofs.Functions.{at_same}
use Rattle.ax_mid.specs.declared.code.Line.{Line}
use Rattle.ax_mid.specs.declared.instruction.MidInst.{MidInst}
use Rattle.ax_mid.specs.Processor.{MidProcessor, gets}
use Rattle.ax_expand.specs.Private.{Private, went, Goes}
use Rattle.ax_expand.proofs.Straight.{goes_append, goes_place}
use Rattle.ax_fine.specs.Fine.{Program, Spelled, is_label, room_of}
use Rattle.ax_emit.specs.Lines.{LineCode, performed_code}
use Rattle.ax_emit.specs.Performs.{Computes, Performs, at_frame}
use Rattle.ax_emit.specs.Table.{Based, Table}
use Rattle.ax_emit.specs.Touches.{is_private}
use Rattle.ax_emit.proofs.Lines.{performed_line}
use Rattle.ax_emit.proofs.Moves.{gave_one}
use Rattle.ax_emit.proofs.Slots.{spelled_same}

-- the last of some code
goes_last : {I : Type 0} (k : Kind I) (room : ℕ → Bool) (is : List I) (i : I) (y z : Private) → Goes k room (is ++ i ∷ []) y z → (mid : Private) × Goes k room is y mid × (went room (k.effect_of i mid.cpu) mid ≡ Some z)
goes_last k room [] i y z (next, w, e) = (y, refl, w ∙ ap Some e)
goes_last k room (j ∷ js) i y z (next, w, rest) = let q = goes_last k room js i next z rest in (q.0, (next, w, q.1), q.2)

module _ {I R W : Type 0} (k : Kind I) (m : Program R W) (table : Table I) (base : Based k m table) where
  -- a number in a register goes to its slot
  computing : (p : ℕ) (i : MidInst R) (to t : ℕ) (is : List I) (s : MidProcessor) (y : Private) → to < m.count → table.usable t ≡ true → Spelled m p y.cpu y.frame s → Computes k m p i to t is s y → Performs k m p i (is ++ table.put_first to t) (table.put_last to t) [] s y
  computing p i to t is s y few usable h z =
      let there = goes_place k (room_of m p) is y z.private z.goes in
      let spelt : Spelled m p z.private.cpu z.private.frame s = spelled_same m base.sound p y.cpu z.private.cpu y.frame z.private.frame s h (λ b own. ap (λ f. f b) z.frame) z.fixed there.1 in
      let g = gave_one k m table base p to t z.value s z.private usable few spelt in
      let last = goes_last k (room_of m p) (table.put_first to t) (table.put_last to t) z.private g.private g.goes in
      record {
        private = last.0;
        comes = goes_append k (room_of m p) is (table.put_first to t) y z.private last.0 z.goes last.1;
        acted = λ may. record {
          next = gets to z.value s;
          does = z.does;
          place = refl;
          status = refl;
          behind = g.private;
          acts = last.2;
          private = g.private;
          goes = refl;
          spelled = g.spelled (subst (λ q. q < 2 ^ 64) (at_same s.regs to z.value) (may.next (gets to z.value s) to z.does)) (z.number may.small) (s.place + 1);
        };
      }

  -- A LINE THAT COMPUTES
  pub computed_line : (line : Line R) (most : ℕ) (is : List I) (to t : ℕ) → is_label line.inst ≡ false → is_private line.inst ≡ true → to < m.count → table.usable t ≡ true → length is + 2 ≤ most
      → ((p : ℕ) (c : Processor) (f : ℕ → ℕ) (s : MidProcessor) → Spelled m p c f s → Computes k m p line.inst to t is s (at_frame c f))
      → LineCode k m most (length (is ++ table.put_first to t) + 1 + 0) (λ places start. performed_code (is ++ table.put_first to t) (table.put_last to t) []) line
  computed_line line most is to t no_label private few usable room computes =
      performed_line k m table base line (is ++ table.put_first to t) (table.put_last to t) [] most (let a = length-append is (table.put_first to t) in let b = base.does.brief to t in omega (arith, a, b, room)) (omega arith)
      (λ p c f s h alone. computing p line.inst to t is s (at_frame c f) few usable h (computes p c f s h)) private no_label
