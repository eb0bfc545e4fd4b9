-- One access with straight code round it meets the contract of an expansion.
use Rattle.std.proofs.Common.{◌≡◌, ℕ, suc, ◌+◌, ◌^◌, ◌<◌, ◌≤◌, Bool, true, false, List, [], ◌∷◌, Option, Some, None, length, map, refl, sym, ap, ◌∙◌, subst, ⊎_elim, arith, length-append}
use Rattle.std.specs.Prelude.{if◌then◌else◌}
use Rattle.std.proofs.lemmas.Bool.{cases_eq, false≢true}
use Rattle.ax_store.specs.Storage.{at_place}
use Rattle.ax_tags.specs.declared.tags.Role.TheVariants.{None as Outside}
use Rattle.ax_tags.specs.declared.tags.Tag.TheVariants.{Act}
use Rattle.ax_isa.specs.Past.{Noted}
use Rattle.ax_isa.specs.Processor.{Processor}
use Rattle.ax_isa.specs.Tells.{Given, Nothing, An_act, A_look, A_miss}
use Rattle.ax_isa.proofs.Functions.{at_same, at_other}
use Rattle.ax_expand.specs.Bytes.{bytes_world}
use Rattle.ax_expand.specs.Doing.{Result, deed_of, on_registers, put_regs, read_regs}
use Rattle.ax_expand.specs.Expands.{Expands, reading_of}
use Rattle.ax_expand.specs.Laws.{AccessFollows, WrappedFollows}
use Rattle.ax_expand.specs.Mirrors.{Mirrored}
use Rattle.ax_expand.specs.Operation.{Alone, Fits, Inner, Keeps, Operation, did_of}
use Rattle.ax_expand.specs.Private.{Private}
use Rattle.ax_expand.specs.Shared.{Shared}
use Rattle.ax_expand.specs.Standing.{HasAt, setting_by, silently}
use Rattle.ax_expand.specs.World.{Words}
use Rattle.ax_expand.specs.Wraps.{Brought, IsWrapping, PutBack, Wraps, viewed}
use Rattle.ax_expand.proofs.Bytes.{bytes_lawful}
use Rattle.ax_expand.proofs.Single.{not_over}
use Rattle.ax_expand.proofs.Straight.{goes_place, silent_length}
use Rattle.ax_emit.specs.Atomics.{AllOf}
use Rattle.ax_llsc.specs.Rounds.{AreSmall, Expanding, IsRounding, Relates, Rounding, Standing, TiedRegs, all, code, idle, no_room, raws, size, unfinished, wrapping_at}

-- registers that are read alike
read_same : (keeps : ℕ → Bool) (rs : List ℕ) (f g : ℕ → ℕ) → AllOf (λ r. keeps r ≡ true) rs → Keeps keeps f g → read_regs rs f ≡ read_regs rs g
read_same keeps [] f g k same = refl
read_same keeps (r ∷ rs) f g k same = ap (λ n. n ∷ read_regs rs f) (same r k.0) ∙ ap (λ ns. g r ∷ ns) (read_same keeps rs f g k.1 same)

-- both get a number in the same register
both_set : (keeps : ℕ → Bool) (f g : ℕ → ℕ) (r v : ℕ) → Keeps keeps f g → Keeps keeps (at_place f r v) (at_place g r v)
both_set keeps f g r v same q k =
    ⊎_elim (λ e. subst (λ y. at_place f r v y ≡ at_place g r v y) (sym e) (at_same f r v ∙ sym (at_same g r v))) (λ ne. at_other f r v q ne ∙ same q k ∙ sym (at_other g r v q ne)) (cases_eq q r)

-- a register is set anew
set_again : (keeps : ℕ → Bool) (f g : ℕ → ℕ) (r v u : ℕ) → Keeps keeps f g → Keeps keeps (at_place f r v) (at_place (at_place g r u) r v)
set_again keeps f g r v u same q k =
    ⊎_elim (λ e. subst (λ y. at_place f r v y ≡ at_place (at_place g r u) r v y) (sym e) (at_same f r v ∙ sym (at_same (at_place g r u) r v))) (λ ne. at_other f r v q ne ∙ same q k ∙ sym (at_other g r u q ne) ∙ sym (at_other (at_place g r u) r v q ne)) (cases_eq q r)

module _ {I : Type 0} (z : Rounding I) (h : IsRounding z) where
  -- what the access leaves in registers, and what the operation gives there
  tied_results : (ns : List ℕ) (f g : ℕ → ℕ) → length ns ≡ length z.results → AreSmall z ns → Keeps z.keeps f g → TiedRegs z true (put_regs z.results ns g) (put_regs z.results (map z.raw ns) f)
  tied_results ns f g many small same = go z.results ns many h.one small
    where
      go : (rs ns : List ℕ) → length ns ≡ length rs → length rs ≤ 1 → AreSmall z ns → Keeps z.keeps (put_regs rs (map z.raw ns) f) (put_regs rs (map z.raw (read_regs rs (put_regs rs ns g))) (put_regs rs ns g)) × AreSmall z (read_regs rs (put_regs rs ns g))
      go [] ns many one small = (same, tt)
      go (r ∷ []) [] many one small = absurd (omega (arith, many))
      go (r ∷ []) (n ∷ ns) many one small =
          let is : at_place g r n r ≡ n = at_same g r n in
          (subst (λ m. Keeps z.keeps (at_place f r (z.raw n)) (at_place (at_place g r n) r (z.raw m))) (sym is) (set_again z.keeps f g r (z.raw n) n same), (subst (λ m. m < 2 ^ z.bits) (sym is) small.0, tt))
      go (r ∷ q ∷ rs) ns many one small = absurd (omega (arith, one))

  module _ (x : Standing I) (words : Words x.library) (few : idle z ≤ x.reading.most) (has : HasAt (setting_by z.kind x.code x.tags x.library) (reading_of x.reading) x.quiet x.number x.start (code z x.start)) (expands : Expands z.kind bytes_world 0 all 1 (λ place. (z.access, Act) ∷ []) (unfinished z)) where
    abbrev outer : Operation Shared
    outer = on_registers z.doing z.address z.args z.results

    -- above happens what the access does
    mirrored : (p : ℕ) (f : ℕ → ℕ) (g : Given) (s t : Inner) (common : Shared) → Relates z x.frames p f false s t → Fits outer s.over s common → Mirrored x.quiet (Relates z x.frames p f) g ((unfinished z).happens g p t.regs t.seen common) (if s.over then None else did_of x.quiet g (outer.happens g p s.regs s.seen common))
    mirrored p f g s t common r fit =
        let same = r.regs.0 in
        let at : t.regs z.address ≡ s.regs z.address = same z.address h.address_kept in
        let args : read_regs z.args t.regs ≡ read_regs z.args s.regs = read_same z.keeps z.args t.regs s.regs h.args_kept same in
        let fits : outer.fits s.regs common = subst (λ b. Fits outer b s common) r.over fit in
        let inner : z.doing.happens g p (t.regs z.address) (read_regs z.args t.regs) t.seen common ≡ z.doing.happens g p (s.regs z.address) (read_regs z.args s.regs) s.seen common =
        ap (λ a. z.doing.happens g p a (read_regs z.args t.regs) t.seen common) at ∙ ap (λ l. z.doing.happens g p (s.regs z.address) l t.seen common) args ∙ ap (λ o. z.doing.happens g p (s.regs z.address) (read_regs z.args s.regs) o common) r.seen in
        subst (λ o. Mirrored x.quiet (Relates z x.frames p f) g (deed_of z.results t.regs (raws z.raw g o)) (if s.over then None else did_of x.quiet g (outer.happens g p s.regs s.seen common))) (sym inner)
        (subst (λ (b : Bool). Mirrored x.quiet (Relates z x.frames p f) g (deed_of z.results t.regs (raws z.raw g (z.doing.happens g p (s.regs z.address) (read_regs z.args s.regs) s.seen common))) (if b then None else did_of x.quiet g (outer.happens g p s.regs s.seen common))) (sym r.over)
        (go g (z.doing.happens g p (s.regs z.address) (read_regs z.args s.regs) s.seen common) (λ e act is. h.acts p (s.regs z.address) (read_regs z.args s.regs) s.seen common e fits (ap (λ k. z.doing.happens k p (s.regs z.address) (read_regs z.args s.regs) s.seen common) (sym act) ∙ is))))
      where
        go : (g : Given) (H : Option (Result Shared)) → ((e : Result Shared) → g ≡ An_act → H ≡ Some e → AreSmall z e.results × (length e.results ≡ length z.results)) → Mirrored x.quiet (Relates z x.frames p f) g (deed_of z.results t.regs (raws z.raw g H)) (did_of x.quiet g (deed_of z.results s.regs H))
        go An_act None gives = tt
        go An_act (Some e) gives =
            let q = gives e refl refl in
            record { world = refl; output = refl; gives = refl; excused = refl; rel = record { over = refl; inner_over = refl; seen = refl; frame = r.frame; regs = tied_results e.results t.regs s.regs q.1 q.0 r.regs.0 } }
        go Nothing H gives = tt
        go A_look H gives = tt
        go A_miss H gives = tt

    number_before : (s : Inner) → (if s.over then suc x.number else x.number) ≡ x.number → s.over ≡ false
    number_before s e = not_over x.number s.over e

    brings : (p : ℕ) (s : Inner) (c : Processor) (n : Noted) → s.over ≡ false → Alone z.keeps x.frames p c n s → Brought (wrapping_at z x) p s (viewed p c n)
    brings p s c n before m =
        let a = h.brings (viewed p c n) in
        record {
          private = a.private;
          inner = record { regs = a.private.cpu.regs; seen = s.seen; over = false };
          goes = a.goes;
          regs = λ q k. refl;
          begins = refl;
          rel = record { over = before; inner_over = refl; seen = refl; frame = λ b mine. ap (λ f. f b) a.frame ∙ m.frame b mine; regs = (λ q k. a.regs.0 q k ∙ m.regs q k, a.regs.1) };
        }

    puts : (p : ℕ) (s t : Inner) (y : Private) → Relates z x.frames p y.frame true s t → Keeps all y.cpu.regs t.regs → y.cpu.role ≡ Outside → PutBack (wrapping_at z x) p s y
    puts p s t y r same role =
        let a = h.puts y s.regs r.regs.1 (λ q k. same q refl ∙ r.regs.0 q k) in
        let there = goes_place z.kind no_room z.after y a.private a.goes in
        record {
          private = a.private;
          goes = a.goes;
          matches = λ n spells. record { regs = a.regs; role = there.1 ∙ role; frame = λ b mine. spells b mine ∙ ap (λ f. f b) a.frame ∙ r.frame b mine };
        }

    wraps : (p : ℕ) → Wraps (wrapping_at z x) p
    wraps p =
        record {
          over = λ f a s t r. r.inner_over;
          runs = λ f a s t r. refl;
          number = λ f s t r. ap (λ (b : Bool). if b then suc x.number else x.number) r.over;
          fits = λ f s t common r fit. (
              let same = r.regs.0 in
              let fits : outer.fits s.regs common = subst (λ b. Fits outer b s common) r.over fit in
              let at = subst (λ a. z.doing.fits a (read_regs z.args s.regs) common) (sym (same z.address h.address_kept)) fits in
              (subst (λ l. z.doing.fits (t.regs z.address) l common) (sym (read_same z.keeps z.args t.regs s.regs h.args_kept same)) at, r.regs.1));
          chosen = λ f g s t common ne r fit. mirrored p f g s t common r fit;
          ends = λ f s t r. ap (λ (b : Bool). if b then x.start + size z else x.start) r.over ∙ (let e : x.start + (length z.before + 1 + length z.after) ≡ x.start + length z.before + 1 + length z.after = omega arith in e);
          roomy = λ f a s t common r fit b room. absurd (false≢true room);
          role = λ s c n m. m.role;
          brings = λ s c n any is runs at m. brings p s c n (number_before s is) m;
          puts = λ s t y r same role at. puts p s t y r same role;
        }

    pub is_wrapping : IsWrapping (wrapping_at z x)
    is_wrapping =
        record {
          laws = bytes_lawful;
          over = record { down = λ n w g. g; up = λ n w g. g };
          words = words;
          expands = expands;
          few = omega (arith, few);
          has = has;
          mine = λ p b room. absurd (false≢true room);
          wraps = wraps;
          starts = λ s e. ap (λ (b : Bool). if b then x.start + size z else x.start) (number_before s e);
        }

  -- AN ACCESS WITH CODE ROUND IT is an expansion
  pub expanding : AccessFollows z.kind (unfinished z) → ((x : Standing I) → WrappedFollows (wrapping_at z x)) → Expanding z
  expanding one wrapped =
      record {
        length_is = λ start. (
            let a = length-append (silently z.before) ((z.access, Act) ∷ silently z.after) in
            let b = silent_length z.before in
            let c = silent_length z.after in
            omega (arith, a, b, c));
        some = omega arith;
        follows = λ is tags lib v quiet own start frames words few has. (
            let x : Standing I = record { code = is; tags = tags; library = lib; reading = v; quiet = quiet; number = own; start = start; frames = frames } in
            record { follows = λ p s c n. wrapped x (is_wrapping x words few has (one all z.access h.access)) p s c n tt });
      }
