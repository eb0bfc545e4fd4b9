-- Straight code behind an operation's event, up to the end of its code.
use Rattle.std.proofs.Common.{◌≡◌, ℕ, ◌+◌, ◌<◌, ◌≤◌, Bool, true, false, List, [], ◌∷◌, length, sym, ap, ◌∙◌, subst, inl, inr, refl, arith}
use Rattle.std.specs.Prelude.{◌≢◌}
use Rattle.std.proofs.lemmas.Bool.{false≢true}
use Rattle.ax_tags.specs.declared.tags.Role.TheVariants.{None as Outside}
use Rattle.ax_isa.specs.Processor.{Processor}
use Rattle.ax_expand.specs.Continues.{GoesOn, StaysAt}
use Rattle.ax_expand.specs.Expands.{reading_of}
use Rattle.ax_expand.specs.Operation.{Inner, Keeps}
use Rattle.ax_expand.specs.Private.{Private}
use Rattle.ax_expand.specs.Standing.{HasAt, silently}
use Rattle.ax_expand.specs.World.{Lawful, Words}
use Rattle.ax_expand.proofs.Straight.{finished, goes_place, straight}
use Rattle.ax_loops.proofs.Alone.{Piece, around, begins_behind, is_around}
use Rattle.ax_cas.specs.Rounds.{Reaches}

module _ {I W : Type 0} (z : Piece I W) (laws : Lawful z.world) (words : Words z.setting.library) where
  abbrev Stands : ℕ → List I → Type 0
  Stands place is = HasAt z.setting (reading_of z.reading) z.quiet z.number place (silently is)

  -- a processor with the bytes of its frame
  abbrev pub with_frame : Processor → Private
  with_frame c = record { cpu = c; frame = z.frames z.processor }

  -- where such code begins it is this operation's, or all of its code is through
  pub stays_behind : (t : Inner) (place : ℕ) (is : List I) → t.over ≡ true → Stands place is → place + length is ≡ z.end → StaysAt (around z t) true place
  stays_behind t place [] over has at = inr (refl, (let e = begins_behind z t over in omega (arith, at, e)))
  stays_behind t place (i ∷ is) over has at = inl has.0.owner

  -- UP TO THE END, where all that is kept is the operation's
  pub ends : (t : Inner) (c : Processor) (is : List I) (idle : ℕ) → t.over ≡ true → c.role ≡ Outside → Stands c.place is → c.place + length is ≡ z.end → idle + length is ≤ z.reading.most → Reaches z.setting.kind is c (λ b. Keeps z.keeps b.regs t.regs) → GoesOn (around z t) true idle (with_frame c)
  ends t c is idle over role has at few r =
      let y = with_frame c in
      let last = with_frame r.last in
      let goes = r.goes (z.frames z.processor) in
      let there = goes_place z.setting.kind (λ b. false) is y last goes in
      let end = begins_behind z t over in
      let through : r.last.place ≡ z.end = (let e = there.0 in omega (arith, e, at)) in
      straight (around z t) (is_around z laws words t) true is idle y last has role goes few
      (λ q lo hi acted e. (let f : q ≡ z.end = e ∙ end in omega (arith, f, at, hi)))
      (inr (refl, through ∙ sym end))
      (finished z.setting (around z t).meaning z.reading z.processor (idle + length is) t last (through ∙ sym end) (λ n spells. record { regs = r.known; role = there.1 ∙ role; frame = spells }))
