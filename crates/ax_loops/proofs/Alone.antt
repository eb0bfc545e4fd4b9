-- The code of an operation on registers, as one processor runs it.
use Rattle.std.proofs.Common.{◌≡◌, ℕ, suc, Bool, true, false, ap, ◌∙◌, subst}
use Rattle.std.specs.Prelude.{if◌then◌else◌}
use Rattle.std.proofs.lemmas.Bool.{false≢true}
use Rattle.ax_tags.specs.declared.tags.Role.TheVariants.{None as Outside}
use Rattle.ax_isa.specs.Past.{Noted, drain}
use Rattle.ax_isa.specs.Processor.{Processor}
use Rattle.ax_isa.specs.Run.{Setting}
use Rattle.ax_isa.specs.Tells.{Done}
use Rattle.ax_follow.specs.Contract.{ByOthers, Meaning, Reading, Stage}
use Rattle.ax_expand.specs.Continues.{Context, IsContext}
use Rattle.ax_expand.specs.Operation.{Fits, Inner, Operation, alone}
use Rattle.ax_expand.specs.Private.{Spells}
use Rattle.ax_expand.specs.World.{Lawful, Words, World}
use Rattle.ax_expand.proofs.Views.{spells_drain, spells_others}
use Rattle.ax_loops.specs.Moving.{nowhere}
use Rattle.ax_loops.proofs.Still.{Still, still_spells}

pub record Piece (I W : Type 0) : Type 1 where
  pub setting : Setting I
  pub world : World W
  pub operation : Operation W
  pub keeps : ℕ → Bool
  pub quiet : Bool
  pub frames : ℕ → ℕ → ℕ
  pub start : ℕ
  pub end : ℕ
  pub number : ℕ
  pub reading : Reading
  pub processor : ℕ

module _ {I W : Type 0} (z : Piece I W) where
  abbrev pub meaning_of : Meaning Inner W
  meaning_of = alone z.world z.operation z.quiet z.keeps z.frames z.start z.end z.number

  -- it uses no byte of its frame
  abbrev pub around : Inner → Context I Inner W
  around t = record { setting = z.setting; meaning = meaning_of; reading = z.reading; world = z.world; processor = z.processor; above = t; number = z.number; quiet = z.quiet; room = nowhere }

  pub is_around : Lawful z.world → Words z.setting.library → (t : Inner) → IsContext (around t)
  is_around laws words t =
      record { laws = laws; over = record { down = λ n w h. h; up = λ n w h. h }; words = words; mine = λ b f. absurd (false≢true f); roomy = λ w fit b f. absurd (false≢true f) }

  pub begins_behind : (t : Inner) → t.over ≡ true → meaning_of.begins t ≡ z.end
  begins_behind t over = ap (λ (b : Bool). if b then z.end else z.start) over

  pub begins_before : (t : Inner) → t.over ≡ false → meaning_of.begins t ≡ z.start
  begins_before t over = ap (λ (b : Bool). if b then z.end else z.start) over

  pub number_before : (t : Inner) → t.over ≡ false → meaning_of.number t ≡ z.number
  number_before t over = ap (λ (b : Bool). if b then suc z.number else z.number) over

  pub fits_before : (t : Inner) (w : W) → t.over ≡ false → Fits z.operation t.over t w → z.operation.fits t.regs w
  fits_before t w over fits = subst (λ b. Fits z.operation b t w) over fits

  -- before its event
  pub record Waiting (j : Stage) (t : Inner) (c : Processor) (n : Noted) : Type 0 where
    pub acted : j.acted ≡ false
    pub over : t.over ≡ false
    pub role : c.role ≡ Outside
    pub frame : Spells z.processor n (z.frames z.processor)

  pub waiting_others : (j : Stage) (t : Inner) (c : Processor) (n new : Noted) → ByOthers z.processor n new → Waiting j t c n → Waiting j t c new
  waiting_others j t c n new b y = record { acted = y.acted; over = y.over; role = y.role; frame = spells_others z.processor n new (z.frames z.processor) b y.frame }

  pub waiting_drain : (j : Stage) (t : Inner) (c : Processor) (n : Noted) → Waiting j t c n → Waiting j t c (drain z.processor n)
  waiting_drain j t c n y = record { acted = y.acted; over = y.over; role = y.role; frame = spells_drain z.processor n (z.frames z.processor) y.frame }

  -- behind a step that gives nothing
  pub waiting_still : (j i : Stage) (t : Inner) (c : Processor) (n : Noted) (d : Done) → i.acted ≡ j.acted → d.processor.role ≡ c.role → Still z.setting.library (z.setting.tags c.place) z.processor c n d → Waiting j t c n → Waiting i t d.processor d.noted
  waiting_still j i t c n d same role still y =
      record { acted = same ∙ y.acted; over = y.over; role = role ∙ y.role; frame = still_spells z.setting.library (z.setting.tags c.place) z.processor c n d (z.frames z.processor) still y.frame }
