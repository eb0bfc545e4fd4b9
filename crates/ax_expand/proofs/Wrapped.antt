-- Code wrapped round an operation, which is used by its contract alone.
use Rattle.std.proofs.Common.{◌≡◌, ℕ, ◌+◌, Bool, true, false, List, length, refl, sym, ap, ◌∙◌, subst, inl, inr, arith}
use Rattle.std.proofs.lemmas.Bool.{false≢true}
use Rattle.ax_words.specs.declared.source.SourceStatus.TheVariants.{Running as Runs}
use Rattle.ax_isa.specs.Past.{Noted}
use Rattle.ax_isa.specs.Processor.{Processor}
use Rattle.ax_isa.specs.Run.{Setting}
use Rattle.ax_follow.specs.Contract.{Meaning, Reading, Happening, stage_start, InStep}
use Rattle.ax_expand.specs.Continues.{Context, IsContext}
use Rattle.ax_expand.specs.Expands.{reading_of}
use Rattle.ax_expand.specs.Operation.{Inner}
use Rattle.ax_expand.specs.Private.{Private}
use Rattle.ax_expand.specs.Standing.{HasAt, silently}
use Rattle.ax_expand.specs.Wraps.{Wrapping, IsWrapping, setting_in, inner_start, inner_end, viewed}
use Rattle.ax_expand.proofs.Embed.{Behind, embed, has_after, has_before, owned, takes_some}
use Rattle.ax_expand.proofs.Straight.{finished, goes_place, straight}

module _ {I P W : Type 0} (z : Wrapping I P W) (h : IsWrapping z) where
  abbrev x : Setting I
  x = setting_in z

  abbrev l : Meaning P W
  l = z.meaning

  abbrev v : Reading
  v = z.reading

  abbrev own : ℕ
  own = z.number

  abbrev first : ℕ
  first = inner_start z

  abbrev end : ℕ
  end = inner_end z

  -- the code before and behind, as p runs it with s above
  abbrev round : ℕ → P → Context I P W
  round p s = record { setting = x; meaning = l; reading = v; world = z.world; processor = p; above = s; number = own; quiet = z.quiet; room = z.room p }

  sound : (p : ℕ) (s : P) (f : ℕ → ℕ) (a : Bool) (t : Inner) → z.relates p f a s t → IsContext (round p s)
  sound p s f a t r = record { laws = h.laws; over = h.over; words = h.words; mine = h.mine p; roomy = λ w fit b. (h.wraps p).roomy f a s t w r fit b }

  -- behind the operation
  behind : (p : ℕ) (frames : ℕ → ℕ → ℕ) → Behind z h p frames
  behind p frames j s t c n r at y acted low hs =
      let from : Private = record { cpu = c; frame = frames p } in
      let back = (h.wraps p).puts s t from r y.regs y.role at in
      let there = goes_place z.kind (z.room p) z.after from back.private back.goes in
      let ends = (h.wraps p).ends (frames p) s t r in
      let at_end : back.private.cpu.place ≡ l.begins s = there.0 ∙ ap (λ q. q + length z.after) at ∙ sym ends in
      let enough = h.few in
      straight (round p s) (sound p s (frames p) true t r) true z.after (z.most + length z.before) from back.private (subst (λ q. HasAt x (reading_of v) z.quiet own q (silently z.after)) (sym at) (has_after z h)) y.role back.goes (omega (arith, enough))
      (λ q lo hi e same. omega (arith, ends, at, hi, same)) (inr (refl, at_end)) (finished x l v p (z.most + length z.before + length z.after) s back.private at_end back.matches) j n acted low y.frame hs

  -- THE WRAPPED CODE keeps in step with what stands above
  pub wrapped : (p : ℕ) (s : P) (c : Processor) (n : Noted) → z.takes p s → l.number s ≡ own → l.status s ≡ Runs → c.place ≡ l.begins s → l.matches p c n s → (hs : List Happening) → InStep l (reading_of v) x p hs stage_start s c n
  wrapped p s c n takes is runs at matches hs =
      let here : c.place ≡ z.start = at ∙ h.starts s is in
      let b = (h.wraps p).brings s c n takes is runs here matches in
      let there = goes_place z.kind (z.room p) z.before (viewed p c n) b.private b.goes in
      let at_inner : b.private.cpu.place ≡ first = there.0 ∙ ap (λ q. q + length z.before) here in
      let role = (h.wraps p).role s c n matches in
      let frames : ℕ → ℕ → ℕ = λ q. b.private.frame in
      let owner_next : v.owner b.private.cpu.place ≡ own = ap v.owner at_inner ∙ owned z h first (omega arith) (takes_some z h) in
      let enough = h.few in
      straight (round p s) (sound p s b.private.frame false b.inner b.rel) false z.before 0 (viewed p c n) b.private (subst (λ q. HasAt x (reading_of v) z.quiet own q (silently z.before)) (sym here) (has_before z h)) role b.goes (omega (arith, enough)) (λ q lo hi e. absurd (false≢true e)) (inl owner_next)
      (λ j m before low spells. embed z h p frames (behind p frames) j s b.inner b.private.cpu m before (omega (arith, low)) b.rel at_inner b.begins (record { regs = b.regs; role = there.1 ∙ role; frame = spells }))
      stage_start n refl (omega arith) (λ b mine. refl) hs
