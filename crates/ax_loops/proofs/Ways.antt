-- One instruction of a way, and where ways stand.
use Rattle.std.proofs.Common.{◌≡◌, ℕ, zero, suc, ◌+◌, ◌^◌, ◌<◌, Bool, true, List, [], ◌∷◌, length, Some, None, sym, ap, subst, inl, ⊎_elim, arith}
use Rattle.std.specs.Prelude.{◌⊎◌, slice_get}
use Rattle.ax_tags.specs.declared.tags.Tag.{Tag}
use Rattle.ax_tags.specs.declared.tags.Tag.TheVariants.{Silent}
use Rattle.ax_isa.specs.Past.{Noted}
use Rattle.ax_isa.specs.Processor.{Processor}
use Rattle.ax_isa.specs.Run.{Setting}
use Rattle.ax_isa.specs.Steps.{effected, possible}
use Rattle.ax_isa.specs.Tells.{told}
use Rattle.ax_follow.specs.Contract.{Reading}
use Rattle.ax_expand.specs.Standing.{HasAt, Here}
use Rattle.ax_expand.proofs.Steps.{some_is}
use Rattle.ax_loops.specs.Ways.{Laid, Onward, Way}
use Rattle.ax_loops.proofs.Still.{Moved, computed, turned}

-- where a way's code stands, and whose it is
pub record Ground (I : Type 0) : Type 1 where
  pub setting : Setting I
  pub reading : Reading
  pub quiet : Bool
  pub number : ℕ
  pub processor : ℕ

module _ {I : Type 0} (x : Setting I) (v : Reading) (quiet : Bool) (number : ℕ) where
  -- the instruction at an offset
  pub here_at : (start : ℕ) (is : List (I × Tag)) (offset : ℕ) (i : I × Tag) → HasAt x v quiet number start is → slice_get is offset ≡ Some i → Here x v quiet number (start + offset) i
  here_at start [] offset i h e = absurd (let f : None ≡ Some i = e in cc)
  here_at start (j ∷ is) zero i h e = subst (λ q. Here x v quiet number q i) (let f : start ≡ start + 0 = omega arith in f) (subst (λ q. Here x v quiet number start q) (some_is j i e) h.0)
  here_at start (j ∷ is) (suc offset) i h e = subst (λ q. Here x v quiet number q i) (let f : start + 1 + offset ≡ start + suc offset = omega arith in f) (here_at (start + 1) is offset i h.1 e)

pub in_code : {A : Type 0} (is : List A) (offset : ℕ) (i : A) → slice_get is offset ≡ Some i → offset < length is
in_code [] offset i e = absurd (let f : None ≡ Some i = e in cc)
in_code (j ∷ is) zero i e = omega arith
in_code (j ∷ is) (suc offset) i e = (let h = in_code is offset i e in omega (arith, h))

module _ {I : Type 0} (z : Laid I) (g : Ground I) (has : HasAt g.setting g.reading g.quiet g.number z.start z.code) where
  abbrev x : Setting I
  x = g.setting

  module _ {Then : Processor → Type 0} where
    pub onward_here : (c : Processor) (q : Onward z c Then) → Here x g.reading g.quiet g.number c.place (q.instr, Silent)
    onward_here c q = subst (λ m. Here x g.reading g.quiet g.number m (q.instr, Silent)) (sym q.place) (here_at x g.reading g.quiet g.number z.start z.code q.offset (q.instr, Silent) has q.stands)

  -- a way stays in its code, up to where it leads
  pub way_stays : (Ended : Processor → Type 0) (acted : Bool) (end : ℕ) → ((b : Processor) → Ended b → (b.place < 2 ^ 32) × ((g.reading.owner b.place ≡ g.number) ⊎ ((acted ≡ true) × (b.place ≡ end)))) → (steps : ℕ) (c : Processor) → Way z Ended steps c
      → (c.place < 2 ^ 32) × ((g.reading.owner c.place ≡ g.number) ⊎ ((acted ≡ true) × (c.place ≡ end)))
  way_stays Ended acted end f zero c q = f c q
  way_stays Ended acted end f (suc steps) c q = (let h = onward_here c q in let small = h.small in let e : c.place < 2 ^ 32 = omega (arith, small) in e, inl (let h = onward_here c q in h.owner))

  -- its next instruction, from any state with its notes
  pub onward_moves : {Then : Processor → Type 0} (c : Processor) (n : Noted) (q : Onward z c Then) → q.after.place < 2 ^ 32
      → (let e = z.kind.effect_of q.instr c in let tag = x.tags c.place in (possible g.processor e c n.storage ≡ true) × Moved x.library tag g.processor e c q.after n (told x.library tag g.processor e c n (effected z.kind.buffered g.processor e c n)))
  onward_moves c n q small =
      let e = z.kind.effect_of q.instr c in
      let tag = x.tags c.place in
      let M : Processor → Type 0 = λ b. (possible g.processor e c n.storage ≡ true) × Moved x.library tag g.processor e c b n (told x.library tag g.processor e c n (effected z.kind.buffered g.processor e c n)) in
      ⊎_elim (λ went. computed x.library z.kind.buffered tag g.processor c n e (onward_here c q).small (record { cpu = q.after; frame = λ b. 0 }) (λ b. 0) went)
      (λ jump. subst M (sym jump.2) (turned x.library z.kind.buffered tag g.processor c n e jump.0 jump.1 (subst (λ m. m < 2 ^ 32) (ap (λ b. b.place) jump.2) small)))
      q.leaves
