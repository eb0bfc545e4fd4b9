-- A line's code keeps its contract: what stands round it, and the three kinds of lines that have no atomic operation.
use Rattle.std.proofs.Common.{◌≡◌, ℕ, suc, ◌+◌, ◌^◌, ◌<◌, ◌≤◌, Bool, true, false, List, [], ◌∷◌, length, Some, None, refl, sym, ap, ◌∙◌, subst, inl, inr, arith, length-append}
use Rattle.std.specs.Prelude.{◌⊎◌, if◌then◌else◌, slice_get}
use Rattle.std.proofs.lemmas.Bool.{false≢true}
use Rattle.ax_words.specs.declared.source.SourceStatus.TheVariants.{Running as Runs}
use Rattle.ax_store.specs.Bytes.{number_at}
use Rattle.ax_store.specs.Storage.{seen}
use Rattle.ax_tags.specs.declared.tags.Tag.{Tag}
use Rattle.ax_tags.specs.declared.tags.Tag.TheVariants.{Act}
use Rattle.ax_isa.specs.declared.cpu.Status.TheVariants.{Running}
use Rattle.ax_isa.specs.Past.{Noted}
use Rattle.ax_isa.specs.Processor.{Processor}
use Rattle.ax_isa.specs.Run.{Setting}
use Rattle.ax_isa.specs.Steps.{Kind}
use Rattle.ax_isa.specs.Tells.{An_act, Library}
use Rattle.ax_follow.specs.Contract.{Did, Reading, Happening, stage_start, InStep}
use Rattle.ax_mid.specs.declared.code.Line.{Line}
use Rattle.ax_mid.specs.declared.instruction.MidInst.{MidInst}
use Rattle.ax_mid.specs.declared.instruction.MidInst.TheVariants as mid
use Rattle.ax_mid.specs.Processor.{MidProcessor}
use Rattle.ax_expand.specs.Continues.{Context, IsContext}
use Rattle.ax_expand.specs.Expands.{reading_of, Begun}
use Rattle.ax_expand.specs.Operation.{hushed}
use Rattle.ax_expand.specs.Private.{Private, Spells}
use Rattle.ax_expand.specs.Standing.{Here, HasAt, silently, setting_by}
use Rattle.ax_expand.specs.World.{Words}
use Rattle.ax_expand.specs.Wraps.{viewed}
use Rattle.ax_expand.proofs.Straight.{finished, goes_place, has_first, has_rest, silent_length, straight, went_next}
use Rattle.ax_fine.specs.Fine.{Program, Spelled, Fit, is_label, is_quiet, settle, stepped, did_private, did_atomic, private_at, chosen_by, chosen_if, line_of, room_of, fine}
use Rattle.ax_emit.specs.Lines.{Laid, LineCode, StandsAt, ended_code, performed_code}
use Rattle.ax_emit.specs.Performs.{Acted, Ends, May, Performs, at_frame}
use Rattle.ax_emit.specs.Table.{Based, Table}
use Rattle.ax_emit.specs.Touches.{is_private, is_private_at}
use Rattle.ax_emit.proofs.Acts.{ActsAt, Privately, Rooted, private_event, still_cpu, still_event}
use Rattle.ax_emit.proofs.Slots.{low_top, room_is, room_own, spelled_as, spelled_same}

-- a line that only its processor sees does what its private step does
plain_acts : {R W : Type 0} (m : Program R W) (i : MidInst R) (quiet : Bool) (p : ℕ) (s : MidProcessor) (w : W) → is_private i ≡ true → chosen_by m An_act quiet p i s w ≡ did_private m quiet w (private_at m p i s)
unfolding chosen_by
plain_acts m (mid.Load a b c) quiet p s w h = absurd (false≢true h)
plain_acts m (mid.Store a b c) quiet p s w h = absurd (false≢true h)
plain_acts m (mid.Atomic a b c d f g j) quiet p s w h = absurd (false≢true h)
plain_acts m (mid.Out a) quiet p s w h = absurd (false≢true h)
plain_acts m mid.Trap quiet p s w h = absurd (false≢true h)
plain_acts m mid.Ret quiet p s w h = absurd (false≢true h)
plain_acts m _ quiet p s w h = refl

pub private_acts : {R W : Type 0} (m : Program R W) (i : MidInst R) (quiet : Bool) (p : ℕ) (s : MidProcessor) (w : W) → is_private_at m p i s.regs ≡ true → chosen_by m An_act quiet p i s w ≡ did_private m quiet w (private_at m p i s)
unfolding chosen_by
private_acts m (mid.Load a b n) quiet p s w h =
    ap (λ t. if t then did_private m quiet w (private_at m p (mid.Load a b n) s) else did_atomic m quiet An_act (a ∷ []) s ((m.load n).happens An_act p (s.regs (m.key b)) [] s.seen w)) h
private_acts m (mid.Store a b n) quiet p s w h =
    ap (λ t. if t then did_private m quiet w (private_at m p (mid.Store a b n) s) else did_atomic m quiet An_act [] s ((m.store n).happens An_act p (s.regs (m.key a)) (s.regs (m.key b) ∷ []) s.seen w)) h
private_acts m i quiet p s w h = plain_acts m i quiet p s w h

-- one that is private always is so with any numbers
pub private_always : {R W : Type 0} (m : Program R W) (i : MidInst R) (p : ℕ) (regs : ℕ → ℕ) → is_private i ≡ true → is_private_at m p i regs ≡ true
private_always m (mid.Load a b n) p regs h = absurd (false≢true h)
private_always m (mid.Store a b n) p regs h = absurd (false≢true h)
private_always m _ p regs h = h

-- settling, and forgetting what a look saw, change no numbers
pub record Same (s t : MidProcessor) : Type 0 where
  pub regs : t.regs ≡ s.regs
  pub frame : t.frame ≡ s.frame
  pub status : t.status ≡ s.status

pub stepped_same : {R W : Type 0} (m : Program R W) (quiet : Bool) (s : MidProcessor) → Same s (stepped m quiet s)
stepped_same m true s = record { regs = refl; frame = refl; status = refl }
stepped_same m false s = record { regs = refl; frame = refl; status = refl }

pub stepped_place : {R W : Type 0} (m : Program R W) (quiet : Bool) (s : MidProcessor) → (stepped m quiet s).place ≡ settle m.code.lines s.place
stepped_place m true s = refl
stepped_place m false s = refl

-- the first place behind silent code, or behind its beginning
first_owner : {I : Type 0} (x : Setting I) (v : Reading) (quiet : Bool) (number place end : ℕ) (js : List I) → HasAt x v quiet number place (silently js) → place + length js ≡ end → (v.owner place ≡ number) ⊎ (place ≡ end)
first_owner x v quiet number place end [] has e = inr ((let q : place ≡ place + 0 = omega arith in q) ∙ e)
first_owner x v quiet number place end (j ∷ js) has e = inl has.0.owner

module _ {I R W : Type 0} (k : Kind I) (m : Program R W) (table : Table I) (base : Based k m table) (code : List I) (tags : ℕ → Tag) (lib : Library) (v : Reading) (places : ℕ → ℕ) (own : ℕ) (line : Line R) where
  abbrev pub x : Setting I
  x = setting_by k code tags lib

  abbrev pub quiet : Bool
  quiet = is_quiet line.tag

  -- the code of this line, as p runs it with s above
  abbrev pub here : ℕ → MidProcessor → Context I MidProcessor W
  here p s = record { setting = x; meaning = fine m places; reading = v; world = m.world; processor = p; above = s; number = own; quiet = quiet; room = room_of m p }

  pub sound : (p : ℕ) (s : MidProcessor) → Words lib → m.lives p ≡ true → IsContext (here p s)
  sound p s words lives =
      record {
        laws = base.laws;
        over = record { down = λ n w h. h; up = λ n w h. h };
        words = words;
        mine = room_own m base.sound p;
        roomy = λ w fit b r. (let z = room_is m base.sound p b r in let hi = z.1 in fit.room b lives z.0 (omega (arith, hi)));
      }

  -- the root of its frame
  pub rooted : (p : ℕ) (s : MidProcessor) → m.lives p ≡ true → (y : Private) → number_at y.frame (m.top p) 8 ≡ 0 → Rooted (here p s) (m.top p) y
  rooted p s lives y zero =
      let low = low_top m base.sound p in
      record {
        zero = zero;
        aligned = base.sound.aligned p;
        own = λ b lo hi. base.sound.own p b lives (omega (arith, lo, low)) hi;
        inside = λ w fit b lo hi. fit.room b lives (omega (arith, lo, low)) hi;
      }

  module _ (at : slice_get m.code.lines own ≡ Some line) (p : ℕ) (s : MidProcessor) (is_own : s.place ≡ own) where
    pub line_here : line_of m s ≡ Some line
    line_here = ap (slice_get m.code.lines) is_own ∙ at

    -- the event of this line, above
    pub chosen_here : (w : W) (d : Did MidProcessor W) → chosen_by m An_act quiet p line.inst s w ≡ Some d → (fine m places).chosen An_act p s w ≡ Some d
    chosen_here w d e = ap (λ o. chosen_if m o An_act p s w) line_here ∙ e

    pub may_here : is_private_at m p line.inst s.regs ≡ true → (w : W) → Fit m p s w → May k m p line.inst s
    may_here private w fit =
        record {
          small = fit.small;
          bytes = fit.bytes;
          next = λ t r e. (
              let d : Did MidProcessor W = record { processor = stepped m quiet t; world = w; output = None; gives = hushed quiet An_act; excused = false } in
              let chosen : chosen_if m (line_of m s) An_act p s w ≡ Some d = ap (λ o. chosen_if m o An_act p s w) line_here ∙ private_acts m line.inst quiet p s w private ∙ ap (did_private m quiet w) e in
              subst (λ f. f r < 2 ^ 64) (stepped_same m quiet t).regs (fit.next An_act d r chosen));
        }

  -- numbers that are spelled in a frame are those that p sees
  pub matching : (p : ℕ) (s : MidProcessor) (c : Processor) (f : ℕ → ℕ) (n : Noted) → Spelled m p c f s → Spells p n f → Spelled m p c (seen p n.storage) s
  matching p s c f n h spells = spelled_same m base.sound p c c f (seen p n.storage) s h spells (λ q z. refl) refl

module _ {I R W : Type 0} (k : Kind I) (m : Program R W) (table : Table I) (base : Based k m table) where
  -- ---- silent code, an instruction that has the event, and silent code
  module _ (line : Line R) (before : List I) (acts : I) (after : List I) (most : ℕ) (low_before : length before ≤ most) (low_after : length after ≤ most)
      (performs : (p : ℕ) (c : Processor) (f : ℕ → ℕ) (s : MidProcessor) → Spelled m p c f s → is_private_at m p line.inst s.regs ≡ true → Performs k m p line.inst before acts after s (at_frame c f)) where
    abbrev whole : List (I × Tag)
    whole = performed_code before acts after

    performed_length : length whole ≡ length before + 1 + length after
    performed_length =
        length-append (silently before) ((acts, Act) ∷ silently after) ∙ ap (λ q. q + suc (length (silently after))) (silent_length before) ∙ ap (λ q. length before + suc q) (silent_length after)
        ∙ (let e : length before + suc (length after) ≡ length before + 1 + length after = omega arith in e)

    -- of a processor to whom it is private
    pub performed : (code : List I) (tags : ℕ → Tag) (lib : Library) (v : Reading) (places : ℕ → ℕ) (own : ℕ) → most ≤ v.most → StandsAt (setting_by k code tags lib) v m places own (length before + 1 + length after) whole line
        → (p : ℕ) (s : MidProcessor) (c : Processor) (n : Noted) → is_private_at m p line.inst s.regs ≡ true → s.place ≡ own → s.status ≡ Runs → c.place ≡ places s.place → Spelled m p c (seen p n.storage) s → (hs : List Happening) → InStep (fine m places) (reading_of v) (setting_by k code tags lib) p hs stage_start s c n
    performed code tags lib v places own enough h = begin
      where
        y0 : Setting I
        y0 = setting_by k code tags lib

        hush_line : Bool
        hush_line = is_quiet line.tag

        at_line : ℕ → MidProcessor → Context I MidProcessor W
        at_line p s = here k m table base code tags lib v places own line p s

        rest : HasAt y0 (reading_of v) hush_line own (places own + length before) ((acts, Act) ∷ silently after)
        rest = subst (λ q. HasAt y0 (reading_of v) hush_line own q ((acts, Act) ∷ silently after)) (ap (λ q. places own + q) (silent_length before)) (has_rest y0 (reading_of v) hush_line own (places own) (silently before) _ h.has)

        begin : (p : ℕ) (s : MidProcessor) (c : Processor) (n : Noted) → is_private_at m p line.inst s.regs ≡ true → s.place ≡ own → s.status ≡ Runs → c.place ≡ places s.place → Spelled m p c (seen p n.storage) s → (hs : List Happening) → InStep (fine m places) (reading_of v) y0 p hs stage_start s c n
        begin p s c n private is_own runs at matches hs =
            straight (at_line p s) ok false before 0 (viewed p c n) z.private (has_first y0 (reading_of v) hush_line own c.place (silently before) _ (subst (λ q. HasAt y0 (reading_of v) hush_line own q whole) (sym at_own) h.has)) matches.role z.comes (omega (arith, low_before, enough)) (λ q lo hi e. absurd (false≢true e)) (inl (ap v.owner at_mid ∙ rest.0.owner))
            (private_event (at_line p s) ok (0 + length before) acts z.private here_mid is_own (there.1 ∙ matches.role) privately) stage_start n refl (omega arith) (λ b own_b. refl) hs
          where
            at_own : c.place ≡ places own
            at_own = at ∙ ap places is_own

            ok : IsContext (at_line p s)
            ok = sound k m table base code tags lib v places own line p s h.words matches.lives

            z : Performs k m p line.inst before acts after s (at_frame c (seen p n.storage))
            z = performs p c (seen p n.storage) s matches private

            there : (z.private.cpu.place ≡ c.place + length before) × (z.private.cpu.role ≡ c.role)
            there = goes_place k (room_of m p) before (viewed p c n) z.private z.comes

            at_mid : z.private.cpu.place ≡ places own + length before
            at_mid = there.0 ∙ ap (λ q. q + length before) at_own

            here_mid : ActsAt (at_line p s) acts z.private.cpu.place
            here_mid = subst (λ q. Here y0 (reading_of v) hush_line own q (acts, Act)) (sym at_mid) rest.0

            privately : (w : W) → Fit m p s w → Privately (at_line p s) acts z.private w
            privately w fit = leaves (z.acted (may_here k m table base code tags lib v places own line h.at p s is_own private w fit))
              where
                leaves : Acted k m p line.inst s acts after z.private → Privately (at_line p s) acts z.private w
                leaves a =
                    let next : MidProcessor = stepped m hush_line a.next in
                    let same = stepped_same m hush_line a.next in
                    let goes = went_next (room_of m p) (k.effect_of acts z.private.cpu) z.private a.behind a.acts in
                    let at_behind : a.behind.cpu.place ≡ places own + length before + 1 = goes.0 ∙ ap (λ q. q + 1) at_mid in
                    let ends : places next.place ≡ places own + (length before + 1 + length after) = ap places (stepped_place m hush_line a.next) ∙ h.laid.settles a.next.place ∙ ap places (a.place ∙ ap (λ q. q + 1) is_own) ∙ h.laid.next in
                    let last = goes_place k (room_of m p) after a.behind a.private a.goes in
                    let at_last : a.private.cpu.place ≡ places next.place = last.0 ∙ ap (λ q. q + length after) at_behind ∙ (let e : places own + length before + 1 + length after ≡ places own + (length before + 1 + length after) = omega arith in e) ∙ sym ends in
                    let has_after : HasAt y0 (reading_of v) hush_line own a.behind.cpu.place (silently after) = subst (λ q. HasAt y0 (reading_of v) hush_line own q (silently after)) (sym at_behind) rest.1 in
                    let spelt : Spelled m p a.private.cpu a.private.frame next = spelled_as m base.sound p a.private.cpu a.private.frame a.next next same.regs same.frame a.spelled in
                    let ok_next = sound k m table base code tags lib v places own line p next h.words matches.lives in
                    record {
                      next = next;
                      does = chosen_here k m table base code tags lib v places own line h.at p s is_own w _ (private_acts m line.inst hush_line p s w private ∙ ap (did_private m hush_line w) a.does);
                      runs = same.status ∙ a.status ∙ runs;
                      private = a.behind;
                      goes = a.acts;
                      stays = first_owner y0 (reading_of v) hush_line own a.behind.cpu.place (places next.place) after has_after (sym last.0 ∙ at_last);
                      rest = straight (at_line p next) ok_next true after 0 a.behind a.private has_after (goes.1 ∙ there.1 ∙ matches.role) a.goes (omega (arith, low_after, enough)) (λ q lo hi e same_place. (let z : q ≡ places next.place = same_place in omega (arith, ends, at_behind, hi, z))) (inr (refl, at_last))
                          (finished y0 (fine m places) v p (0 + length after) next a.private at_last (λ n2 spells. matching k m table base code tags lib v places own line p next a.private.cpu a.private.frame n2 spelt spells));
                    }

    -- A LINE THAT TOUCHES ITS PROCESSOR ALONE
    pub performed_line : is_private line.inst ≡ true → is_label line.inst ≡ false → LineCode k m most (length before + 1 + length after) (λ places start. performed_code before acts after) line
    performed_line private no_label =
        record {
          length_is = λ places start. performed_length;
          label = λ e. absurd (false≢true (sym no_label ∙ e));
          follows = λ code tags lib v places own not_label enough h. record { follows = λ p s c n. performed code tags lib v places own enough h p s c n (private_always m line.inst p s.regs private) };
        }

  -- ---- silent code, and an instruction that has the event and leaves memory as it is
  module _ (line : Line R) (is : List I) (acts : (ℕ → ℕ) → ℕ → I) (most : ℕ) (low_is : length is ≤ most)
      (ends : (places : ℕ → ℕ) (own : ℕ) → Laid m places own (length is + 1) → (p : ℕ) (c : Processor) (f : ℕ → ℕ) (s : MidProcessor) → s.place ≡ own → c.place ≡ places own → Spelled m p c f s → Ends k m p line places is (acts places (places own)) s (at_frame c f)) where
    ended : (code : List I) (tags : ℕ → Tag) (lib : Library) (v : Reading) (places : ℕ → ℕ) (own : ℕ) → most ≤ v.most → StandsAt (setting_by k code tags lib) v m places own (length is + 1) (ended_code is acts places (places own)) line → Begun (setting_by k code tags lib) (fine m places) (reading_of v) own
    ended code tags lib v places own enough h = record { follows = begin }
      where
        y0 : Setting I
        y0 = setting_by k code tags lib

        hush_line : Bool
        hush_line = is_quiet line.tag

        at_line : ℕ → MidProcessor → Context I MidProcessor W
        at_line p s = here k m table base code tags lib v places own line p s

        rest : HasAt y0 (reading_of v) hush_line own (places own + length is) ((acts places (places own), Act) ∷ [])
        rest = subst (λ q. HasAt y0 (reading_of v) hush_line own q ((acts places (places own), Act) ∷ [])) (ap (λ q. places own + q) (silent_length is)) (has_rest y0 (reading_of v) hush_line own (places own) (silently is) _ h.has)

        begin : (p : ℕ) (s : MidProcessor) (c : Processor) (n : Noted) → s.place ≡ own → s.status ≡ Runs → c.place ≡ places s.place → Spelled m p c (seen p n.storage) s → (hs : List Happening) → InStep (fine m places) (reading_of v) y0 p hs stage_start s c n
        begin p s c n is_own runs at matches hs =
            let at_own : c.place ≡ places own = at ∙ ap places is_own in
            let ok = sound k m table base code tags lib v places own line p s h.words matches.lives in
            let z = ends places own h.laid p c (seen p n.storage) s is_own at_own matches in
            let there = goes_place k (room_of m p) is (viewed p c n) z.private z.goes in
            let at_mid : z.private.cpu.place ≡ places own + length is = there.0 ∙ ap (λ q. q + length is) at_own in
            let next : MidProcessor = z.next in
            let left = still_cpu (m.top p) (k.effect_of (acts places (places own)) z.private.cpu) z.private.cpu z.last z.output z.stills in
            let spelt : z.last.status ≡ Running → Spelled m p z.last z.private.frame z.next = λ goes_on. spelled_as m base.sound p z.last z.private.frame s z.next z.regs z.bytes
            (spelled_same m base.sound p c z.last (seen p n.storage) z.private.frame s matches (λ b own_b. ap (λ f. f b) z.frame) (λ q f. ap (λ g. g q) (left.regs goes_on) ∙ z.fixed q f) (left.role (there.1 ∙ matches.role) ∙ sym matches.role)) in
            straight (at_line p s) ok false is 0 (viewed p c n) z.private (has_first y0 (reading_of v) hush_line own c.place (silently is) _ (subst (λ q. HasAt y0 (reading_of v) hush_line own q (ended_code is acts places (places own))) (sym at_own) h.has)) matches.role z.goes (omega (arith, low_is, enough)) (λ q lo hi e. absurd (false≢true e)) (inl (ap v.owner at_mid ∙ rest.0.owner))
            (still_event (at_line p s) ok (0 + length is) (acts places (places own)) z.private (subst (λ q. Here y0 (reading_of v) hush_line own q (acts places (places own), Act)) (sym at_mid) rest.0) is_own (there.1 ∙ matches.role) (record {
              next = next;
              output = z.output;
              does = λ w. chosen_here k m table base code tags lib v places own line h.at p s is_own w _ (z.does w);
              last = z.last;
              root = m.top p;
              rooted = rooted k m table base code tags lib v places own line p s matches.lives z.private (ap (λ f. number_at f (m.top p) 8) z.frame ∙ matches.root);
              stills = z.stills;
              low = z.low;
              status = z.status runs;
              place = z.place;
              rest = λ goes_on. finished y0 (fine m places) v p 0 next (record { cpu = z.last; frame = z.private.frame }) z.place (λ n2 spells. matching k m table base code tags lib v places own line p next z.last z.private.frame n2 (spelt goes_on) spells);
            })) stage_start n refl (omega arith) (λ b own_b. refl) hs

    -- A LINE THAT LEAVES ALL MEMORY AS IT IS
    pub ended_line : is_label line.inst ≡ false → LineCode k m most (length is + 1) (ended_code is acts) line
    ended_line no_label =
        record {
          length_is = λ places start. length-append (silently is) ((acts places start, Act) ∷ []) ∙ ap (λ q. q + 1) (silent_length is);
          label = λ e. absurd (false≢true (sym no_label ∙ e));
          follows = λ code tags lib v places own not_label enough h. ended code tags lib v places own enough h;
        }
