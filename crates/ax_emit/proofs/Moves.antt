-- Slots to registers, and registers to slots.
use Rattle.std.proofs.Common.{◌≡◌, ℕ, ◌^◌, ◌<◌, true, List, [], ◌∷◌, length, refl, sym, ap, ◌∙◌, subst, arith}
use Rattle.std.specs.Prelude.{◌≢◌}
use Rattle.std.proofs.lemmas.Bool.{false≢true}
use Rattle.ax_store.specs.Bytes.{number_at, cut, written}
use Rattle.ax_store.specs.Storage.{at_place}
use Rattle.ax_isa.specs.Steps.{Kind}
use Rattle.ax_isa.proofs.Functions.{at_same, at_other}
use Rattle.ax_mid.specs.Processor.{MidProcessor}
use Rattle.ax_expand.specs.Doing.{read_regs, put_regs}
use Rattle.ax_expand.specs.Private.{Private, Goes}
use Rattle.ax_expand.proofs.Straight.{goes_append, goes_place}
use Rattle.ax_emit.specs.Atomics.{firsts, seconds, NotIn, Distinct, AllOf, gets_all, puts_all}
use Rattle.ax_fine.specs.Fine.{Program, slot, Spelled, room_of}
use Rattle.ax_emit.specs.Table.{Based, Table, put}
use Rattle.ax_emit.proofs.Slots.{slot_at, spelled_put}

pub put_other : (rs ns : List ℕ) (f : ℕ → ℕ) (q : ℕ) → NotIn q rs → put_regs rs ns f q ≡ f q
put_other [] ns f q h = refl
put_other (r ∷ rs) [] f q h = refl
put_other (r ∷ rs) (n ∷ ns) f q h = put_other rs ns (at_place f r n) q h.1 ∙ at_other f r n q h.0

pub read_put : (rs ns : List ℕ) (f : ℕ → ℕ) → Distinct rs → length ns ≡ length rs → read_regs rs (put_regs rs ns f) ≡ ns
read_put [] [] f d e = refl
read_put [] (n ∷ ns) f d e = absurd (omega (arith, e))
read_put (r ∷ rs) [] f d e = absurd (omega (arith, e))
read_put (r ∷ rs) (n ∷ ns) f d e =
    ap (λ v. v ∷ read_regs rs (put_regs rs ns (at_place f r n))) (put_other rs ns (at_place f r n) r d.0 ∙ at_same f r n) ∙ ap (λ l. n ∷ l) (read_put rs ns (at_place f r n) d.1 (let q : length ns ≡ length rs = omega (arith, e) in q))

read_same : (rs : List ℕ) (f g : ℕ → ℕ) → AllOf (λ r. f r ≡ g r) rs → read_regs rs f ≡ read_regs rs g
read_same [] f g h = refl
read_same (r ∷ rs) f g h = ap (λ v. v ∷ read_regs rs f) h.0 ∙ ap (λ l. g r ∷ l) (read_same rs f g h.1)

all_map : (Q S : ℕ → Type 0) (rs : List ℕ) → ((r : ℕ) → Q r → S r) → AllOf Q rs → AllOf S rs
all_map Q S [] f h = tt
all_map Q S (r ∷ rs) f h = (f r h.0, all_map Q S rs f h.1)

module _ {I R W : Type 0} (k : Kind I) (m : Program R W) (table : Table I) (base : Based k m table) where
  -- no register for numbers is fixed
  pub not_fixed : (q t : ℕ) → m.fixed q ≡ true → table.usable t ≡ true → q ≢ t
  not_fixed q t f u e = false≢true (sym (base.free t u) ∙ ap m.fixed (sym e) ∙ f)

  pub not_via : (q : ℕ) → m.fixed q ≡ true → q ≢ table.via
  not_via q f e = false≢true (sym base.via ∙ ap m.fixed (sym e) ∙ f)

  pub all_not_fixed : (q : ℕ) (ts : List ℕ) → m.fixed q ≡ true → AllOf (λ t. table.usable t ≡ true) ts → NotIn q ts
  all_not_fixed q [] f us = tt
  all_not_fixed q (t ∷ ts) f us = (not_fixed q t f us.0, all_not_fixed q ts f us.1)

  usable_not_via : (t : ℕ) → table.usable t ≡ true → t ≢ table.via
  usable_not_via t u e = false≢true (sym base.does.no_via ∙ ap table.usable (sym e) ∙ u)

  module _ (p : ℕ) where
    pub record GotAll (zs : List (ℕ × ℕ)) (s : MidProcessor) (y : Private) : Type 0 where
      pub private : Private
      pub goes : Goes k (room_of m p) (gets_all table zs) y private
      pub frame : private.frame ≡ y.frame
      pub numbers : read_regs (firsts zs) private.cpu.regs ≡ read_regs (seconds zs) s.regs
      pub others : (q : ℕ) → NotIn q (firsts zs) → q ≢ table.via → private.cpu.regs q ≡ y.cpu.regs q

    got_from : (zs : List (ℕ × ℕ)) (s : MidProcessor) (y : Private) → Distinct (firsts zs) → AllOf (λ t. table.usable t ≡ true) (firsts zs) → AllOf (λ r. r < m.count) (seconds zs) → m.lives p ≡ true → y.cpu.regs table.stack ≡ m.top p → ((r : ℕ) → r < m.count → number_at y.frame (slot m.top p r) 8 ≡ s.regs r) → GotAll zs s y
    got_from [] s y d us b lives e h = record { private = y; goes = refl; frame = refl; numbers = refl; others = λ q no_one via. refl }
    got_from (z ∷ zs) s y d us b lives e h =
        let g = base.does.gets (room_of m p) z.0 z.1 (slot m.top p z.1) y us.0 (slot_at m base.sound p table.stack z.1 y lives b.0 e) in
        let stays : g.private.cpu.regs table.stack ≡ y.cpu.regs table.stack = g.others table.stack (not_fixed table.stack z.0 base.stack us.0) (not_via table.stack base.stack) in
        let rest = got_from zs s g.private d.1 us.1 b.1 lives (stays ∙ e) (λ r lt. ap (λ f. number_at f (slot m.top p r) 8) g.frame ∙ h r lt) in
        record {
          private = rest.private;
          goes = goes_append k (room_of m p) (table.get z.0 z.1) (gets_all table zs) y g.private rest.private g.goes rest.goes;
          frame = rest.frame ∙ g.frame;
          numbers = ap (λ v. v ∷ read_regs (firsts zs) rest.private.cpu.regs) (rest.others z.0 d.0 (usable_not_via z.0 us.0) ∙ g.number ∙ h z.1 b.0) ∙ ap (λ l. s.regs z.1 ∷ l) rest.numbers;
          others = λ q no_one via. rest.others q no_one.1 via ∙ g.others q no_one.0 via;
        }

    -- REGISTERS GET THE NUMBERS OF SLOTS
    pub got_all : (zs : List (ℕ × ℕ)) (s : MidProcessor) (y : Private) → Distinct (firsts zs) → AllOf (λ t. table.usable t ≡ true) (firsts zs) → AllOf (λ r. r < m.count) (seconds zs) → Spelled m p y.cpu y.frame s → GotAll zs s y
    got_all zs s y d us b h = got_from zs s y d us b h.lives (h.fixed table.stack base.stack ∙ base.home p) h.regs

    -- fixed registers stay
    pub got_fixed : (zs : List (ℕ × ℕ)) (s : MidProcessor) (y : Private) (g : GotAll zs s y) → AllOf (λ t. table.usable t ≡ true) (firsts zs) → (q : ℕ) → m.fixed q ≡ true → g.private.cpu.regs q ≡ y.cpu.regs q
    got_fixed zs s y g us q f = g.others q (all_not_fixed q (firsts zs) f us) (not_via q f)

    pub record GaveAll (zs : List (ℕ × ℕ)) (ns : List ℕ) (s : MidProcessor) (y : Private) : Type 0 where
      pub private : Private
      pub goes : Goes k (room_of m p) (puts_all table zs) y private
      pub spelled : Spelled m p private.cpu private.frame (record s { regs = put_regs (seconds zs) ns s.regs })

    -- one slot gets a number: a register does
    pub record GaveOne (r t : ℕ) (n : ℕ) (s : MidProcessor) (y : Private) : Type 0 where
      pub private : Private
      pub goes : Goes k (room_of m p) (put table r t) y private
      pub others : (q : ℕ) → q ≢ table.via → private.cpu.regs q ≡ y.cpu.regs q
      pub spelled : n < 2 ^ 64 → y.cpu.regs t ≡ n → (place : ℕ) → Spelled m p private.cpu private.frame (record s { place = place; regs = at_place s.regs r n })

    pub gave_one : (r t n : ℕ) (s : MidProcessor) (y : Private) → table.usable t ≡ true → r < m.count → Spelled m p y.cpu y.frame s → GaveOne r t n s y
    gave_one r t n s y u few h =
        let g = base.does.puts (room_of m p) t r (slot m.top p r) y u (slot_at m base.sound p table.stack r y h.lives few (h.fixed table.stack base.stack ∙ base.home p)) in
        let there = goes_place k (room_of m p) (put table r t) y g.private g.goes in
        record {
          private = g.private;
          goes = g.goes;
          others = g.others;
          spelled = λ small is place. (
              let put_there : Spelled m p g.private.cpu (written y.frame (slot m.top p r) 8 (cut 8 n)) (record s { place = place; regs = at_place s.regs r n }) = spelled_put m base.sound p y.cpu g.private.cpu y.frame s place r n few small h (λ q f. g.others q (not_via q f)) there.1 in
              subst (λ f. Spelled m p g.private.cpu f (record s { place = place; regs = at_place s.regs r n })) (ap (λ v. written y.frame (slot m.top p r) 8 (cut 8 v)) (sym is) ∙ sym g.frame) put_there);
        }

    -- SLOTS GET THE NUMBERS OF REGISTERS
    pub gave_all : (zs : List (ℕ × ℕ)) (ns : List ℕ) (s : MidProcessor) (y : Private) → AllOf (λ t. table.usable t ≡ true) (firsts zs) → AllOf (λ r. r < m.count) (seconds zs) → AllOf (λ n. n < 2 ^ 64) ns → length ns ≡ length zs → read_regs (firsts zs) y.cpu.regs ≡ ns → Spelled m p y.cpu y.frame s → GaveAll zs ns s y
    gave_all [] [] s y us b small len e h = record { private = y; goes = refl; spelled = record { regs = h.regs; frame = h.frame; root = h.root; fixed = h.fixed; role = h.role; lives = h.lives } }
    gave_all [] (n ∷ ns) s y us b small len e h = absurd (omega (arith, len))
    gave_all (z ∷ zs) [] s y us b small len e h = absurd (omega (arith, len))
    gave_all (z ∷ zs) (n ∷ ns) s y us b small len e h =
        let head : y.cpu.regs z.0 ≡ n = cc in
        let tail : read_regs (firsts zs) y.cpu.regs ≡ ns = cc in
        let g = gave_one z.1 z.0 n s y us.0 b.0 h in
        let rest = gave_all zs ns (record s { place = s.place; regs = at_place s.regs z.1 n }) g.private us.1 b.1 small.1 (let q : length ns ≡ length zs = omega (arith, len) in q)
        (read_same (firsts zs) g.private.cpu.regs y.cpu.regs (all_map (λ t. table.usable t ≡ true) (λ t. g.private.cpu.regs t ≡ y.cpu.regs t) (firsts zs) (λ t u. g.others t (usable_not_via t u)) us.1) ∙ tail) (g.spelled small.0 head s.place) in
        record { private = rest.private; goes = goes_append k (room_of m p) (put table z.1 z.0) (puts_all table zs) y g.private rest.private g.goes rest.goes; spelled = rest.spelled }
