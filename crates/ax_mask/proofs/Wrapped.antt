-- Code round another operation's code meets the contract of an expansion.
use Rattle.std.proofs.Common.{◌≡◌, ℕ, suc, ◌+◌, ◌≤◌, Bool, true, false, List, ◌++◌, Option, Some, None, length, refl, sym, ap, ◌∙◌, subst, arith, length-append}
use Rattle.std.specs.Prelude.{◌≢◌, if◌then◌else◌}
use Rattle.std.proofs.lemmas.Bool.{false≢true}
use Rattle.ax_tags.specs.declared.tags.Role.TheVariants.{None as Outside}
use Rattle.ax_tags.specs.declared.tags.Tag.{Tag}
use Rattle.ax_isa.specs.Past.{Noted}
use Rattle.ax_isa.specs.Processor.{Processor}
use Rattle.ax_isa.specs.Steps.{Kind}
use Rattle.ax_isa.specs.Tells.{Given, Nothing}
use Rattle.ax_follow.specs.Contract.{done_after}
use Rattle.ax_expand.specs.Bytes.{bytes_world}
use Rattle.ax_expand.specs.Expands.{Expands, reading_of}
use Rattle.ax_expand.specs.Laws.{WrappedFollows}
use Rattle.ax_expand.specs.Mirrors.{Mirrored}
use Rattle.ax_expand.specs.Operation.{Alone, Deed, Fits, Inner, Keeps, Operation, did_of}
use Rattle.ax_expand.specs.Private.{Private}
use Rattle.ax_expand.specs.Shared.{Shared}
use Rattle.ax_expand.specs.Standing.{HasAt, setting_by, silently}
use Rattle.ax_expand.specs.World.{Words}
use Rattle.ax_expand.specs.Wraps.{Brought, IsWrapping, PutBack, Wraps, viewed}
use Rattle.ax_expand.proofs.Bytes.{bytes_lawful}
use Rattle.ax_expand.proofs.Single.{not_over}
use Rattle.ax_expand.proofs.Straight.{goes_place, silent_length}
use Rattle.ax_mask.specs.Wrapped.{Agree, Around, Expanding, IsAround, Relates, Standing, code, idle, no_room, size, wrapping_at}

-- what idles less keeps the greater bound
pub idles_more : {I : Type 0} (k : Kind I) (less more : ℕ) (keeps : ℕ → Bool) (size : ℕ) (piece : ℕ → List (I × Tag)) (o : Operation Shared) → less ≤ more → Expands k bytes_world less keeps size piece o → Expands k bytes_world more keeps size piece o
idles_more k less more keeps size piece o h x =
    record { length_is = x.length_is; some = x.some; follows = λ code tags lib v quiet own start frames words few has. x.follows code tags lib v quiet own start frames words (omega (arith, h, few)) has }

module _ {I : Type 0} (z : Around I) (h : IsAround z) where
  module _ (x : Standing I) (words : Words x.library) (few : idle z ≤ x.reading.most) (has : HasAt (setting_by z.kind x.code x.tags x.library) (reading_of x.reading) x.quiet x.number x.start (code z x.start)) where
    -- above happens what the other operation does
    mirrored :
        (p : ℕ) (f : ℕ → ℕ) (g : Given) (s t : Inner) (common : Shared) → g ≢ Nothing → Relates z x.frames p f false s t → Fits z.outer s.over s common
        → Mirrored x.quiet (Relates z x.frames p f) g (z.inner.happens g p t.regs t.seen common) (if s.over then None else did_of x.quiet g (z.outer.happens g p s.regs s.seen common))
    mirrored p f g s t common ne r fit =
        let fits : z.outer.fits s.regs common = subst (λ b. Fits z.outer b s common) r.over fit in
        subst (λ (b : Bool). Mirrored x.quiet (Relates z x.frames p f) g (z.inner.happens g p t.regs t.seen common) (if b then None else did_of x.quiet g (z.outer.happens g p s.regs s.seen common))) (sym r.over)
        (by (z.outer.happens g p s.regs s.seen common) (z.inner.happens g p t.regs t.seen common)
        (subst (λ seen. Agree (z.Ties (done_after g false)) (z.outer.happens g p s.regs s.seen common) (z.inner.happens g p t.regs seen common)) (sym r.seen) (h.happens g p s.regs t.regs s.seen common ne r.regs fits)))
      where
        by : (d e : Option (Deed Shared)) → Agree (z.Ties (done_after g false)) d e → Mirrored x.quiet (Relates z x.frames p f) g e (did_of x.quiet g d)
        by d None a = tt
        by None (Some e) a = absurd a
        by (Some d) (Some e) a = record { world = a.world; output = a.output; gives = refl; excused = a.excused; rel = record { over = refl; inner_over = refl; seen = sym a.seen; frame = r.frame; regs = a.regs } }

    number_before : (s : Inner) → (if s.over then suc x.number else x.number) ≡ x.number → s.over ≡ false
    number_before s e = not_over x.number s.over e

    brings : (p : ℕ) (s : Inner) (c : Processor) (n : Noted) → s.over ≡ false → Alone z.keeps x.frames p c n s → Brought (wrapping_at z x) p s (viewed p c n)
    brings p s c n before m =
        let a = h.brings (viewed p c n) in
        record {
          private = a.private;
          inner = record { regs = a.private.cpu.regs; seen = s.seen; over = false };
          goes = a.goes;
          regs = λ q k. refl;
          begins = refl;
          rel = record { over = before; inner_over = refl; seen = refl; frame = λ b mine. ap (λ f. f b) a.frame ∙ m.frame b mine; regs = a.regs s.regs m.regs };
        }

    puts : (p : ℕ) (s t : Inner) (y : Private) → Relates z x.frames p y.frame true s t → Keeps z.holds y.cpu.regs t.regs → y.cpu.role ≡ Outside → PutBack (wrapping_at z x) p s y
    puts p s t y r same role =
        let a = h.puts y s.regs t.regs r.regs same in
        let there = goes_place z.kind no_room z.after y a.private a.goes in
        record {
          private = a.private;
          goes = a.goes;
          matches = λ n spells. record { regs = a.regs; role = there.1 ∙ role; frame = λ b mine. spells b mine ∙ ap (λ f. f b) a.frame ∙ r.frame b mine };
        }

    wraps : (p : ℕ) → Wraps (wrapping_at z x) p
    wraps p =
        record {
          over = λ f a s t r. r.inner_over;
          runs = λ f a s t r. refl;
          number = λ f s t r. ap (λ (b : Bool). if b then suc x.number else x.number) r.over;
          fits = λ f s t common r fit. h.fits s.regs t.regs common r.regs (subst (λ b. Fits z.outer b s common) r.over fit);
          chosen = λ f g s t common ne r fit. mirrored p f g s t common ne r fit;
          ends = λ f s t r. ap (λ (b : Bool). if b then x.start + size z else x.start) r.over ∙ (let e : x.start + (length z.before + z.size + length z.after) ≡ x.start + length z.before + z.size + length z.after = omega arith in e);
          roomy = λ f a s t common r fit b room. absurd (false≢true room);
          role = λ s c n m. m.role;
          brings = λ s c n any is runs at m. brings p s c n (number_before s is) m;
          puts = λ s t y r same role at. puts p s t y r same role;
        }

    is_wrapping : IsWrapping (wrapping_at z x)
    is_wrapping =
        record {
          laws = bytes_lawful;
          over = record { down = λ n w g. g; up = λ n w g. g };
          words = words;
          expands = h.expands;
          few = few;
          has = has;
          mine = λ p b room. absurd (false≢true room);
          wraps = wraps;
          starts = λ s e. ap (λ (b : Bool). if b then x.start + size z else x.start) (number_before s e);
        }

  -- CODE ROUND AN EXPANSION is an expansion
  pub around_expands : ((x : Standing I) → WrappedFollows (wrapping_at z x)) → Expanding z
  around_expands wrapped =
      record {
        length_is = λ start. (
            let a = length-append (silently z.before) (z.piece (start + length z.before) ++ silently z.after) in
            let b = length-append (z.piece (start + length z.before)) (silently z.after) in
            let c = silent_length z.before in
            let d = silent_length z.after in
            let e = h.expands.length_is (start + length z.before) in
            omega (arith, a, b, c, d, e));
        some = (let e = h.expands.some in omega (arith, e));
        follows = λ is tags lib v quiet own start frames words few has. (
            let x : Standing I = record { code = is; tags = tags; library = lib; reading = v; quiet = quiet; number = own; start = start; frames = frames } in
            record { follows = λ p s c n. wrapped x (is_wrapping x words few has) p s c n tt });
      }
