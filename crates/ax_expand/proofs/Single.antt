-- One instruction as the code of an operation.
use Rattle.std.proofs.Common.{◌≡◌, ℕ, suc, ◌+◌, ◌<◌, ◌^◌, Bool, true, false, List, [], ◌∷◌, Option, Some, None, refl, sym, ap, ◌∙◌, subst, arith}
use Rattle.std.specs.Prelude.{if◌then◌else◌}
use Rattle.std.proofs.lemmas.Bool.{false≢true}
use Rattle.ax_tags.specs.declared.tags.Tag.{Tag}
use Rattle.ax_tags.specs.declared.tags.Tag.TheVariants.{Act}
use Rattle.ax_isa.specs.declared.cpu.Status.TheVariants.{Running}
use Rattle.ax_isa.specs.declared.effects.Effect.{Effect}
use Rattle.ax_isa.specs.Past.{Noted}
use Rattle.ax_isa.specs.Processor.{Processor}
use Rattle.ax_isa.specs.Steps.{Kind, possible}
use Rattle.ax_isa.specs.Tells.{An_act, Done, Library}
use Rattle.ax_isa.specs.Run.{Setting, at_code, flushes_at}
use Rattle.ax_follow.specs.Contract.{Meaning, Reading, Happening, Possible, stage_start, InStep}
use Rattle.ax_follow.proofs.Follow.{leaves, Acting}
use Rattle.ax_expand.specs.Continues.{StableAt}
use Rattle.ax_expand.specs.Expands.{reading_of, Expands}
use Rattle.ax_expand.specs.OneInstruction.{Does, Happens, OneInstruction}
use Rattle.ax_expand.specs.Operation.{Operation, Deed, Inner, Fits, Alone, did_of, alone}
use Rattle.ax_expand.specs.Private.{Private, Spells}
use Rattle.ax_expand.specs.Standing.{Here, HasAt, setting_by}
use Rattle.ax_expand.specs.World.{World, Words}
use Rattle.ax_expand.proofs.Ending.{Acts, acting}
use Rattle.ax_expand.proofs.Telling.{act_hushed}
use Rattle.ax_expand.proofs.Views.{spells_drain, spells_others}

-- neither others nor own stores that go to memory touch what an operation's processor is matched by
pub alone_stable : {I W : Type 0} (x : Setting I) (world : World W) (o : Operation W) (quiet : Bool) (keeps : ℕ → Bool) (frames : ℕ → ℕ → ℕ) (start end own p : ℕ) → StableAt x (alone world o quiet keeps frames start end own) p
alone_stable x world o quiet keeps frames start end own p =
    record {
      others = λ c n new s b m. record { regs = m.regs; role = m.role; frame = spells_others p n new (frames p) b m.frame };
      drains = λ c n s on m. record { regs = m.regs; role = m.role; frame = spells_drain p n (frames p) m.frame };
    }

-- at the beginning an operation is not over
pub not_over : (own : ℕ) (b : Bool) → (if b then suc own else own) ≡ own → b ≡ false
not_over own true e = absurd (omega (arith, e))
not_over own false e = refl

module _ {I W : Type 0} (k : Kind I) (world : World W) (keeps : ℕ → Bool) (i : I) (o : Operation W) (one : OneInstruction k world keeps i o) where
  module _ (code : List I) (tags : ℕ → Tag) (lib : Library) (v : Reading) (quiet : Bool) (own start : ℕ) (frames : ℕ → ℕ → ℕ) (words : Words lib) (has : HasAt (setting_by k code tags lib) (reading_of v) quiet own start ((i, Act) ∷ [])) where
    abbrev x : Setting I
    x = setting_by k code tags lib

    abbrev l : Meaning Inner W
    l = alone world o quiet keeps frames start (start + 1) own

    module _ (p : ℕ) (t : Inner) (c : Processor) (n0 : Noted) (before : t.over ≡ false) (here : c.place ≡ start) (h : Alone keeps frames p c n0 t) where
      abbrev y : Private
      y = record { cpu = c; frame = frames p }

      abbrev e : Effect
      e = k.effect_of i c

      -- the event, by what the instruction does
      deeds : (n : Noted) (w : W) (a : Option (Deed W)) → c.status ≡ Running → Spells p n (frames p) → Happens a (λ d. Does world k.buffered keeps p e c n d)
          → Possible (did_of quiet An_act a) (λ s. Acting x l (reading_of v) p t c n (leaves x l (reading_of v) p e c n) s)
      deeds n w None running spells q = q
      deeds n w (Some a) running spells q =
          let d : Done = leaves x l (reading_of v) p e c n in
          record {
            shows = q.shows lib (tags c.place) words;
            fair = q.fair;
            others = q.others;
            tells = act_hushed quiet (tags c.place) c d.bytes d.outcome (ap tags here ∙ has.0.tag) h.role;
            excuse = λ g. q.excuse g lib (tags c.place);
            output = q.output;
            status = q.status ∙ running;
            goes = q.next ∙ ap (λ r. r + 1) here;
            matches = record { regs = q.regs; role = q.role (tags c.place) ∙ h.role; frame = λ b mine. q.frame b mine ∙ spells b mine };
          }

      acts : Acts x l v p (alone_stable x world o quiet keeps frames start (start + 1) own p) i t y
      acts j n w spells may = go t.over before may.fits
        where
          go : (b : Bool) → b ≡ false → Fits o b t w
              → (possible p e c n.storage ≡ true) × Possible (if b then None else did_of quiet An_act (o.happens An_act p t.regs t.seen w)) (λ s. Acting x l (reading_of v) p t c n (leaves x l (reading_of v) p e c n) s)
          go true is fit = absurd (false≢true (sym is))
          go false is fit =
              let at = ap (λ r. at_code code r) here ∙ has.0.code in
              let z = one.acts p c n t w (record {
                regs = h.regs;
                role = h.role;
                small = subst (λ r. r + 1 < 2 ^ 32) (sym here) has.0.small;
                running = may.running;
                sees = may.sees;
                fits = fit;
                fair = may.fair;
                flat = may.flat;
                empty = λ f. may.empty (ap (λ a. flushes_at x a p c n) at ∙ f);
              }) in
              (z.0, deeds n w (o.happens An_act p t.regs t.seen w) may.running spells z.1)

    begin : (p : ℕ) (t : Inner) (c : Processor) (n : Noted) → (if t.over then suc own else own) ≡ own → c.place ≡ (if t.over then start + 1 else start) → Alone keeps frames p c n t → (hs : List Happening) → InStep l (reading_of v) x p hs stage_start t c n
    begin p t c n is at h hs =
        let before = not_over own t.over is in
        let here : c.place ≡ start = at ∙ ap (λ (b : Bool). if b then start + 1 else start) before in
        acting x l v p (alone_stable x world o quiet keeps frames start (start + 1) own p) 0 quiet own i t (record { cpu = c; frame = frames p }) (subst (λ q. Here x (reading_of v) quiet own q (i, Act)) (sym here) has.0) is (acts p t c n before here h) stage_start n refl (omega arith) h.frame hs

  -- ONE INSTRUCTION is an expansion
  pub one_instruction : Expands k world 0 keeps 1 (λ start. (i, Act) ∷ []) o
  one_instruction = record { length_is = λ start. refl; some = omega arith; follows = λ code tags lib v quiet own start frames words few has. record { follows = λ p t c n is runs at h hs. begin code tags lib v quiet own start frames words has p t c n is at h hs } }
