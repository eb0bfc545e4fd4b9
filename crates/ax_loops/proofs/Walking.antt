-- Straight code on registers, one instruction after the other.
use Rattle.std.proofs.Common.{◌≡◌, ℕ, ◌+◌, Bool, true, List, [], ◌∷◌, ◌++◌, length, sym, ap, ◌∙◌, subst, arith}
use Rattle.ax_tags.specs.declared.tags.Tag.{Tag}
use Rattle.ax_tags.specs.declared.tags.Tag.TheVariants.{Silent}
use Rattle.ax_isa.specs.Past.{Noted}
use Rattle.ax_isa.specs.Processor.{Processor}
use Rattle.ax_isa.specs.Run.{Setting}
use Rattle.ax_isa.specs.Steps.{possible}
use Rattle.ax_follow.specs.Contract.{Reading}
use Rattle.ax_isa.specs.Tells.{told}
use Rattle.ax_isa.specs.Steps.{effected}
use Rattle.ax_expand.specs.Private.{Goes, Private}
use Rattle.ax_expand.specs.Standing.{HasAt, Here, silently}
use Rattle.ax_expand.proofs.Straight.{went_next}
use Rattle.ax_loops.specs.Moving.{nowhere}
use Rattle.ax_loops.proofs.Still.{Moved, computed, frame_stays}

-- code on registers that leads to a place: whose it is, and what is known there
pub record Stretch (I : Type 0) : Type 1 where
  pub setting : Setting I
  pub reading : Reading
  pub quiet : Bool
  pub number : ℕ
  pub processor : ℕ
  pub frame : ℕ → ℕ
  -- what stands behind
  pub first : I × Tag
  pub rest : List (I × Tag)
  pub stop : ℕ
  pub known : Processor → Type 0

module _ {I : Type 0} (z : Stretch I) where
  abbrev x : Setting I
  x = z.setting

  abbrev pub StandsAt : List I → ℕ → Type 0
  StandsAt is place = HasAt z.setting z.reading z.quiet z.number place (silently is ++ z.first ∷ z.rest)

  -- these instructions are left
  pub record Walk (is : List I) (c : Processor) : Type 0 where
    pub private : Private
    pub has : StandsAt is c.place
    pub place : c.place + length is ≡ z.stop
    pub goes : Goes x.kind nowhere is (record { cpu = c; frame = z.frame }) private
    pub known : z.known private.cpu

  -- it is there
  pub walked : (c : Processor) → Walk [] c → z.known c
  walked c q = subst z.known (ap (λ b. b.cpu) (sym q.goes)) q.known

  pub first_owner : (is : List I) (place : ℕ) → StandsAt is place → z.reading.owner place ≡ z.number
  first_owner [] place q = q.0.owner
  first_owner (i ∷ is) place q = q.0.owner

  -- one instruction, from any state with its notes
  pub record WalkStep (i : I) (is : List I) (c : Processor) (n : Noted) : Type 0 where
    pub after : Processor
    pub here : Here x z.reading z.quiet z.number c.place (i, Silent)
    pub moves : (possible z.processor (x.kind.effect_of i c) c n.storage ≡ true) × Moved x.library (x.tags c.place) z.processor (x.kind.effect_of i c) c after n (told x.library (x.tags c.place) z.processor (x.kind.effect_of i c) c n (effected x.kind.buffered z.processor (x.kind.effect_of i c) c n))
    pub walk : (c' : Processor) → c' ≡ after → Walk is c'
    pub owner : z.reading.owner after.place ≡ z.number

  pub walk_step : (i : I) (is : List I) (c : Processor) (n : Noted) → Walk (i ∷ is) c → WalkStep i is c n
  walk_step i is c n q = go q.goes
    where
      go : Goes x.kind nowhere (i ∷ is) (record { cpu = c; frame = z.frame }) q.private → WalkStep i is c n
      go (next, went_there, goes) =
          let e = x.kind.effect_of i c in
          let here = q.has.0 in
          let there : next.cpu.place ≡ c.place + 1 = (went_next nowhere e (record { cpu = c; frame = z.frame }) next went_there).0 in
          let stays : next.frame ≡ z.frame = frame_stays e (record { cpu = c; frame = z.frame }) next went_there in
          let has : StandsAt is next.cpu.place = subst (λ m. StandsAt is m) (sym there) q.has.1 in
          let place = q.place in
          record {
            after = next.cpu;
            here = here;
            moves = computed x.library x.kind.buffered (x.tags c.place) z.processor c n e here.small next z.frame went_there;
            walk = λ c' same. record {
              private = q.private;
              has = subst (λ m. StandsAt is m) (ap (λ m. m.place) (sym same)) has;
              place = (let at : c'.place ≡ c.place + 1 = ap (λ m. m.place) same ∙ there in omega (arith, at, place));
              goes = subst (λ b. Goes x.kind nowhere is b q.private) (ap (λ m. record { cpu = m; frame = next.frame }) (sym same) ∙ ap (λ f. record { cpu = c'; frame = f }) stays) goes;
              known = q.known;
            };
            owner = first_owner is next.cpu.place has;
          }
