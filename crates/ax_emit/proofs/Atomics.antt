-- THE CODE OF AN OPERATION ON WHAT ALL SHARE, on slots, from the contract of its expansion on registers alone: whatever the operation, the instruction set and the kind of machine.
use Rattle.std.proofs.Common.{◌≡◌, ℕ, suc, ◌+◌, ◌^◌, ◌<◌, ◌≤◌, Bool, true, false, List, [], ◌∷◌, ◌++◌, length, Option, Some, None, refl, sym, ap, ◌∙◌, subst, arith, length-append}
use Rattle.std.specs.Prelude.{◌≢◌, slice_get}
use Rattle.std.proofs.lemmas.Bool.{false≢true}
use Rattle.ax_words.specs.declared.mark.Op.{Op}
use Rattle.ax_words.specs.declared.order.Order.{Order}
use Rattle.ax_words.specs.declared.width.Width.{Width}
use Rattle.ax_words.specs.declared.source.SourceStatus.TheVariants.{Running as Runs}
use Rattle.ax_store.specs.Storage.{seen}
use Rattle.ax_tags.specs.declared.tags.Role.TheVariants.{None as Outside}
use Rattle.ax_tags.specs.declared.tags.Tag.{Tag}
use Rattle.ax_isa.specs.Past.{Noted}
use Rattle.ax_isa.specs.Processor.{Processor}
use Rattle.ax_isa.specs.Steps.{Kind}
use Rattle.ax_isa.specs.Tells.{Given, Nothing, Library}
use Rattle.ax_follow.specs.Contract.{Happening, InStep, Reading, done_after, stage_start}
use Rattle.ax_mid.specs.declared.code.Line.{Line}
use Rattle.ax_mid.specs.declared.instruction.MidInst.{MidInst}
use Rattle.ax_mid.specs.declared.instruction.MidInst.TheVariants as mid
use Rattle.ax_mid.specs.Processor.{MidProcessor}
use Rattle.ax_mid.specs.Machine.{put_all}
use Rattle.ax_expand.specs.Doing.{Doing, Result, read_regs, put_regs, deed_of, on_registers}
use Rattle.ax_expand.specs.Expands.{reading_of, Expands}
use Rattle.ax_expand.specs.Mirrors.{Mirrored}
use Rattle.ax_expand.specs.Operation.{Operation, Inner, Keeps}
use Rattle.ax_expand.specs.Private.{Private}
use Rattle.ax_expand.specs.Standing.{setting_by, silently, wrap}
use Rattle.ax_expand.specs.Wraps.{Brought, PutBack, Wrapping, Wraps, viewed}
use Rattle.ax_expand.proofs.Straight.{silent_length}
use Rattle.ax_expand.proofs.Wrapped.{wrapped}
use Rattle.ax_emit.specs.Atomics.{AllOf, Counted, Homes, firsts, gets_all, puts_all, seconds}
use Rattle.ax_fine.specs.Fine.{Program, Spelled, Fit, is_label, is_quiet, settle, moved_on, with_results, did_atomic, chosen_by, chosen_if, line_of, asks_by, asks, room_of, fine}
use Rattle.ax_emit.specs.Lines.{LineCode, StandsAt}
use Rattle.ax_emit.specs.Table.{Based, Table}
use Rattle.ax_emit.specs.Touches.{IsShared, Sharing, is_private_at, taken_by}
use Rattle.ax_emit.proofs.Moves.{put_other, read_put, all_not_fixed, got_all, got_fixed, gave_all}
use Rattle.ax_emit.proofs.Slots.{room_is, room_own, spelled_same}

-- with no results nothing changes
put_none : {R : Type 0} (key : R → ℕ) (rs : List R) (f : ℕ → ℕ) → put_all key rs [] f ≡ f
put_none key [] f = refl
put_none key (r ∷ rs) f = refl

regs_none : (rs : List ℕ) (f : ℕ → ℕ) → put_regs rs [] f ≡ f
regs_none [] f = refl
regs_none (r ∷ rs) f = refl

firsts_length : (zs : List (ℕ × ℕ)) → length (firsts zs) ≡ length zs
firsts_length [] = refl
firsts_length (z ∷ zs) = ap suc (firsts_length zs)

read_kept : (keeps : ℕ → Bool) (f g : ℕ → ℕ) → Keeps keeps f g → (rs : List ℕ) → AllOf (λ t. keeps t ≡ true) rs → read_regs rs f ≡ read_regs rs g
read_kept keeps f g kept [] h = refl
read_kept keeps f g kept (r ∷ rs) h = ap (λ v. v ∷ read_regs rs f) (kept r h.0) ∙ ap (λ l. g r ∷ l) (read_kept keeps f g kept rs h.1)

module _ {I R W : Type 0} (k : Kind I) (m : Program R W) (table : Table I) (base : Based k m table) (i : MidInst R) (z : Sharing R W) (shared : IsShared m i z) (keeps : ℕ → Bool) (a0 : ℕ) (ps qs : List (ℕ × ℕ)) (homes : Homes m table keeps z.address z.args z.results a0 ps qs) (most size : ℕ) (piece : ℕ → List (I × Tag)) where
  abbrev doing : Doing W
  doing = z.doing

  abbrev operation : Operation W
  operation = on_registers doing a0 (firsts ps) (firsts qs)

  abbrev before : List I
  before = gets_all table ((a0, m.key z.address) ∷ ps)

  abbrev after : List I
  after = puts_all table qs

  module _ (counted : Counted doing (length (firsts qs))) (expands : Expands k m.world most keeps size piece operation) (code : List I) (tags : ℕ → Tag) (lib : Library) (v : Reading) (places : ℕ → ℕ) (own : ℕ) (line : Line R) (inst : line.inst ≡ i)
      (room : most + length before + length after ≤ v.most) (stands : StandsAt (setting_by k code tags lib) v m places own (length before + size + length after) (wrap before piece after (places own)) line) where
    abbrev quiet : Bool
    quiet = is_quiet line.tag

    -- the frame's bytes spell the middle processor before its event
    pub data Rel (p : ℕ) (f : ℕ → ℕ) : Bool → MidProcessor → Inner → Type 0 where
      Not_yet : {s : MidProcessor} {t : Inner} (c : Processor) → s.place ≡ own → s.status ≡ Runs → Spelled m p c f s → is_private_at m p i s.regs ≡ false → t.over ≡ false → t.seen ≡ s.seen → t.regs a0 ≡ s.regs (m.key z.address) → read_regs (firsts ps) t.regs ≡ read_regs (seconds ps) s.regs → ((q : ℕ) → m.fixed q ≡ true → t.regs q ≡ m.home p q) → Rel p f false s t
      Already : {s : MidProcessor} {t : Inner} (c : Processor) (s0 : MidProcessor) (ns : List ℕ) → Spelled m p c f s0 → s.place ≡ settle m.code.lines (own + 1) → s.status ≡ Runs → s.regs ≡ put_regs (seconds qs) ns s0.regs → s.frame ≡ s0.frame → t.over ≡ true → read_regs (firsts qs) t.regs ≡ ns → AllOf (λ n. n < 2 ^ 64) ns → length ns ≡ length (firsts qs)
          → ((q : ℕ) → m.fixed q ≡ true → t.regs q ≡ m.home p q) → Rel p f true s t

    over_is : (p : ℕ) (f : ℕ → ℕ) (a : Bool) (s : MidProcessor) (t : Inner) → Rel p f a s t → t.over ≡ a
    over_is p f a s t (Not_yet c at runs h shares over e1 e2 e3 e4) = over
    over_is p f a s t (Already c s0 ns h at runs e1 e2 over e3 e4 e5 e6) = over

    runs_is : (p : ℕ) (f : ℕ → ℕ) (a : Bool) (s : MidProcessor) (t : Inner) → Rel p f a s t → s.status ≡ Runs
    runs_is p f a s t (Not_yet c at runs h shares over e1 e2 e3 e4) = runs
    runs_is p f a s t (Already c s0 ns h at runs e1 e2 over e3 e4 e5 e6) = runs

    lives_is : (p : ℕ) (f : ℕ → ℕ) (a : Bool) (s : MidProcessor) (t : Inner) → Rel p f a s t → m.lives p ≡ true
    lives_is p f a s t (Not_yet c at runs h shares over e1 e2 e3 e4) = h.lives
    lives_is p f a s t (Already c s0 ns h at runs e1 e2 over e3 e4 e5 e6) = h.lives

    number_is : (p : ℕ) (f : ℕ → ℕ) (s : MidProcessor) (t : Inner) → Rel p f false s t → s.place ≡ own
    number_is p f s t (Not_yet c at runs h shares over e1 e2 e3 e4) = at

    ends_is : (p : ℕ) (f : ℕ → ℕ) (s : MidProcessor) (t : Inner) → Rel p f true s t → places s.place ≡ places own + length before + size + length after
    ends_is p f s t (Already c s0 ns h at runs e1 e2 over e3 e4 e5 e6) = ap places at ∙ stands.laid.settles (own + 1) ∙ (let e = stands.laid.next in omega (arith, e))

    line_is : (s : MidProcessor) → s.place ≡ own → line_of m s ≡ Some line
    line_is s e = ap (slice_get m.code.lines) e ∙ stands.at

    asked : (p : ℕ) (s : MidProcessor) (w : W) → is_private_at m p i s.regs ≡ false → asks m p (Some line) s w → doing.fits (s.regs (m.key z.address)) (taken_by m z s) w
    asked p s w shares a = shared.asks p s w shares (subst (λ j. asks_by m p j s w) inst a)

    fits_is : (p : ℕ) (f : ℕ → ℕ) (s : MidProcessor) (t : Inner) (w : W) → Rel p f false s t → Fit m p s w → operation.fits t.regs w
    fits_is p f s t w (Not_yet c at runs h shares over e1 e2 e3 e4) fit =
        let y : doing.fits (s.regs (m.key z.address)) (taken_by m z s) w = asked p s w shares (subst (λ l. asks m p l s w) (line_is s at) fit.asks) in
        let y2 : doing.fits (t.regs a0) (taken_by m z s) w = subst (λ a. doing.fits a (taken_by m z s) w) (sym e2) y in
        subst (λ l. doing.fits (t.regs a0) l w) (homes.args_are s.regs ∙ sym e3) y2

    -- what the line does, above
    line_does : (g : Given) (p : ℕ) (s : MidProcessor) (w : W) → is_private_at m p i s.regs ≡ false → chosen_if m (Some line) g p s w ≡ did_atomic m quiet g z.results s (doing.happens g p (s.regs (m.key z.address)) (taken_by m z s) s.seen w)
    line_does g p s w shares = ap (λ j. chosen_by m g quiet p j s w) inst ∙ shared.does g quiet p s w shares

    chosen_is : (p : ℕ) (f : ℕ → ℕ) (g : Given) (s : MidProcessor) (t : Inner) (w : W) → g ≢ Nothing → Rel p f false s t → Fit m p s w → Mirrored quiet (Rel p f) g (operation.happens g p t.regs t.seen w) (chosen_if m (line_of m s) g p s w)
    chosen_is p f g s t w ne (Not_yet c at runs h shares over e1 e2 e3 e4) fit =
        let H = doing.happens g p (t.regs a0) (read_regs (firsts ps) t.regs) t.seen w in
        let H_is : doing.happens g p (s.regs (m.key z.address)) (taken_by m z s) s.seen w ≡ H = ap (λ l. doing.happens g p (s.regs (m.key z.address)) l s.seen w) (homes.args_are s.regs ∙ sym e3)
        ∙ ap (λ a. doing.happens g p a (read_regs (firsts ps) t.regs) s.seen w) (sym e2) ∙ ap (λ b. doing.happens g p (t.regs a0) (read_regs (firsts ps) t.regs) b w) (sym e1) in
        let above : chosen_if m (line_of m s) g p s w ≡ did_atomic m quiet g z.results s H = ap (λ l. chosen_if m l g p s w) (line_is s at) ∙ line_does g p s w shares ∙ ap (did_atomic m quiet g z.results s) H_is in
        let fit2 : doing.fits (t.regs a0) (read_regs (firsts ps) t.regs) w = fits_is p f s t w (Not_yet c at runs h shares over e1 e2 e3 e4) fit in
        subst (λ b. Mirrored quiet (Rel p f) g (deed_of (firsts qs) t.regs H) b) (sym above) (go H refl fit2)
      where
        rel_so : (r : Result W) (b : Bool) → done_after g false ≡ b → (b ≡ true → length r.results ≡ length (firsts qs)) → (b ≡ false → r.results ≡ []) → AllOf (λ n. n < 2 ^ 64) r.results
            → Rel p f b (moved_on m b (with_results m z.results r s)) (record { regs = put_regs (firsts qs) r.results t.regs; seen = r.seen; over = b })
        rel_so r true is count none small =
            Already c s r.results h (ap (λ q. settle m.code.lines (q + 1)) at) runs (homes.results_are r.results s.regs) refl refl (read_put (firsts qs) r.results t.regs homes.distinct_results (count refl)) small (count refl)
            (λ q fq. put_other (firsts qs) r.results t.regs q (all_not_fixed k m table base q (firsts qs) fq homes.usable_results) ∙ e4 q fq)
        rel_so r false is count none small =
            let keep : put_all m.key z.results r.results s.regs ≡ s.regs = ap (λ ns. put_all m.key z.results ns s.regs) (none refl) ∙ put_none m.key z.results s.regs in
            let keep2 : put_regs (firsts qs) r.results t.regs ≡ t.regs = ap (λ ns. put_regs (firsts qs) ns t.regs) (none refl) ∙ regs_none (firsts qs) t.regs in
            Not_yet c at runs (record { regs = λ q lt. h.regs q lt ∙ ap (λ g. g q) (sym keep); frame = h.frame; root = h.root; fixed = h.fixed; role = h.role; lives = h.lives }) (ap (is_private_at m p i) keep ∙ shares) refl refl (ap (λ g. g a0) keep2 ∙ e2 ∙ ap (λ g. g (m.key z.address)) (sym keep)) (ap (read_regs (firsts ps)) keep2 ∙ e3 ∙ ap (read_regs (seconds ps)) (sym keep))
            (λ q fq. ap (λ g. g q) keep2 ∙ e4 q fq)

        go : (H : Option (Result W)) → doing.happens g p (t.regs a0) (read_regs (firsts ps) t.regs) t.seen w ≡ H → doing.fits (t.regs a0) (read_regs (firsts ps) t.regs) w → Mirrored quiet (Rel p f) g (deed_of (firsts qs) t.regs H) (did_atomic m quiet g z.results s H)
        go None e fit2 = tt
        go (Some r) e fit2 =
            record {
              world = refl;
              output = refl;
              gives = refl;
              excused = refl;
              rel = rel_so r (done_after g false) refl (λ d. counted.through g p _ _ _ w r e d) (λ d. counted.looks g p _ _ _ w r e d) (counted.small g p _ _ _ w r fit2 e);
            }

    -- the operation in its line
    abbrev around : Wrapping I MidProcessor W
    around =
        record {
          kind = k;
          code = code;
          tags = tags;
          library = lib;
          meaning = fine m places;
          reading = v;
          world = m.world;
          operation = operation;
          piece = piece;
          size = size;
          most = most;
          keeps = keeps;
          number = own;
          quiet = quiet;
          start = places own;
          before = before;
          after = after;
          takes = λ p s. is_private_at m p i s.regs ≡ false;
          room = λ p. room_of m p;
          relates = Rel;
        }

    brings_is : (p : ℕ) (s : MidProcessor) (c : Processor) (n : Noted) → is_private_at m p i s.regs ≡ false → s.place ≡ own → s.status ≡ Runs → c.place ≡ places own → Spelled m p c (seen p n.storage) s → Brought around p s (viewed p c n)
    brings_is p s c n shares is runs at h =
        let y = viewed p c n in
        let g = got_all k m table base p ((a0, m.key z.address) ∷ ps) s y homes.distinct homes.usable homes.few h in
        let one : g.private.cpu.regs a0 ≡ s.regs (m.key z.address) = (let e = g.numbers in cc) in
        let more : read_regs (firsts ps) g.private.cpu.regs ≡ read_regs (seconds ps) s.regs = (let e = g.numbers in cc) in
        record {
          private = g.private;
          inner = record { regs = g.private.cpu.regs; seen = s.seen; over = false };
          goes = g.goes;
          regs = λ r kr. refl;
          begins = refl;
          rel = Not_yet c is runs (spelled_same m base.sound p c c (seen p n.storage) g.private.frame s h (λ b mine. ap (λ f. f b) g.frame) (λ q f. refl) refl) shares refl refl one more (λ q fq. got_fixed k m table base p ((a0, m.key z.address) ∷ ps) s y g homes.usable q fq ∙ h.fixed q fq);
        }

    puts_is : (p : ℕ) (s : MidProcessor) (t : Inner) (y : Private) → Rel p y.frame true s t → Keeps keeps y.cpu.regs t.regs → y.cpu.role ≡ Outside → PutBack around p s y
    puts_is p s t y (Already c s0 ns h at runs regs frame over e3 small len e6) kept role =
        let here : Spelled m p y.cpu y.frame s0 = record { regs = h.regs; frame = h.frame; root = h.root; fixed = λ q fq. kept q (homes.keeps_fixed q fq) ∙ e6 q fq; role = role; lives = h.lives } in
        let reads : read_regs (firsts qs) y.cpu.regs ≡ ns = read_kept keeps y.cpu.regs t.regs kept (firsts qs) homes.keeps_results ∙ e3 in
        let g = gave_all k m table base p qs ns s0 y homes.usable_results homes.few_results small (len ∙ firsts_length qs) reads here in
        record {
          private = g.private;
          goes = g.goes;
          matches = λ n spells. (let b = spelled_same m base.sound p g.private.cpu g.private.cpu g.private.frame (seen p n.storage) (record s0 { regs = put_regs (seconds qs) ns s0.regs }) g.spelled spells (λ q f. refl) refl in
              record { regs = λ q lt. b.regs q lt ∙ ap (λ f. f q) (sym regs); frame = λ a lt. b.frame a lt ∙ ap (λ f. f a) (sym frame); root = b.root; fixed = b.fixed; role = b.role; lives = b.lives });
        }

    wraps : (p : ℕ) → Wraps around p
    wraps p =
        record {
          over = over_is p;
          runs = runs_is p;
          number = number_is p;
          fits = fits_is p;
          chosen = chosen_is p;
          ends = ends_is p;
          roomy = λ f a s t w rel fit b r. (let q = room_is m base.sound p b r in (let hi = q.1 in fit.room b (lives_is p f a s t rel) q.0 (omega (arith, hi))));
          role = λ s c n h. h.role;
          brings = brings_is p;
          puts = λ s t y r kept role at. puts_is p s t y r kept role;
        }

    -- THE LINE, for a processor with whom others share what it does
    pub shared_line :
        (p : ℕ) (s : MidProcessor) (c : Processor) (n : Noted) → is_private_at m p i s.regs ≡ false → s.place ≡ own → s.status ≡ Runs → c.place ≡ places s.place → Spelled m p c (seen p n.storage) s
        → (hs : List Happening) → InStep (fine m places) (reading_of v) (setting_by k code tags lib) p hs stage_start s c n
    shared_line =
        wrapped around (record {
          laws = base.laws;
          over = record { down = λ n w h. h; up = λ n w h. h };
          words = stands.words;
          expands = expands;
          few = room;
          has = stands.has;
          mine = λ p b r. room_own m base.sound p b r;
          wraps = wraps;
          starts = λ s e. ap places e;
        })

  pub wrap_length : Expands k m.world most keeps size piece operation → (start : ℕ) → length (wrap before piece after start) ≡ length before + size + length after
  wrap_length expands start =
      length-append (silently before) (piece (start + length before) ++ silently after) ∙ ap (λ q. q + length (piece (start + length before) ++ silently after)) (silent_length before)
      ∙ ap (λ q. length before + q) (length-append (piece (start + length before)) (silently after) ∙ ap (λ q. q + length (silently after)) (expands.length_is (start + length before)) ∙ ap (λ q. size + q) (silent_length after)) ∙ (let e : length before + (size + length after) ≡ length before + size + length after = omega arith in e)

-- AN ATOMIC OPERATION is seen by others wherever its address is
module _ {I R W : Type 0} (k : Kind I) (m : Program R W) (table : Table I) (base : Based k m table) (o : Op) (width : Width) (order : Order) (weak : Bool) (address : R) (args results : List R) where
  abbrev inst : MidInst R
  inst = mid.Atomic o width order weak address args results

  abbrev operated : Sharing R W
  operated = record { doing = m.atomic o width order weak; address = address; args = args; results = results }

  is_shared : IsShared m inst operated
  unfolding chosen_by
  is_shared = record { does = λ g quiet p s w h. refl; asks = λ p s w h a. a }

  pub atomic_line : (keeps : ℕ → Bool) (at : ℕ) (ps qs : List (ℕ × ℕ)) → Homes m table keeps address args results at ps qs → (most size : ℕ) (piece : ℕ → List (I × Tag)) → Counted operated.doing (length (firsts qs)) → Expands k m.world most keeps size piece (on_registers operated.doing at (firsts ps) (firsts qs))
      → (line : Line R) → line.inst ≡ inst → (bound : ℕ) → most + length (gets_all table ((at, m.key address) ∷ ps)) + length (puts_all table qs) ≤ bound
      → LineCode k m bound (length (gets_all table ((at, m.key address) ∷ ps)) + size + length (puts_all table qs)) (λ places start. wrap (gets_all table ((at, m.key address) ∷ ps)) piece (puts_all table qs) start) line
  atomic_line keeps at ps qs homes most size piece counted expands line is bound room =
      record {
        length_is = λ places start. wrap_length k m table base inst operated is_shared keeps at ps qs homes most size piece expands start;
        label = λ e. absurd (false≢true (sym (ap is_label is) ∙ e));
        follows = λ code tags lib v places own not_label enough h. record { follows = λ p s c n. shared_line k m table base inst operated is_shared keeps at ps qs homes most size piece counted expands code tags lib v places own line is (omega (arith, room, enough)) h p s c n refl };
      }
