-- Straight code that computes on registers, and what it leaves of them.
use Rattle.std.proofs.Common.{◌≡◌, ℕ, suc, ◌+◌, Bool, true, false, List, [], ◌∷◌, length, Some, refl, sym, ap, ◌∙◌, inl, arith}
use Rattle.std.specs.Prelude.{◌&&◌, slice_get}
use Rattle.std.proofs.lemmas.Bool.{false≢true}
use Rattle.ax_tags.specs.declared.tags.Tag.{Tag}
use Rattle.ax_tags.specs.declared.tags.Tag.TheVariants.{Silent}
use Rattle.ax_isa.specs.declared.effects.Effect.{Effect}
use Rattle.ax_isa.specs.declared.effects.Effect.TheVariants.{Set}
use Rattle.ax_isa.specs.Processor.{Processor}
use Rattle.ax_isa.specs.Steps.{go_with}
use Rattle.ax_isa.proofs.Functions.{at_other}
use Rattle.ax_rv.specs.declared.instructions.RvInstr.{RvInstr}
use Rattle.ax_rv.specs.declared.instructions.RvInstr.TheVariants.{Binary, Immediate, Li, Shift, Unary}
use Rattle.ax_rv.specs.Instructions.{effect_of, rv_kind}
use Rattle.ax_expand.specs.Private.{Goes, Private, went}
use Rattle.ax_loops.specs.Moving.{nowhere}
use Rattle.ax_loops.specs.Ways.{Laid, Way}

-- it sets one register, which is one of these
abbrev pub sets : (ℕ → Bool) → RvInstr → Bool
sets which (Li r n) = which r
sets which (Unary o r a) = which r
sets which (Binary o r a b) = which r
sets which (Shift o r a k) = which r
sets which (Immediate o r a n) = which r
sets which _ = false

abbrev pub all_set : (ℕ → Bool) → List RvInstr → Bool
all_set which [] = true
all_set which (i ∷ is) = sets which i && all_set which is

-- a processor behind such code
abbrev pub with_set : Effect → Processor → Processor
with_set (Set to number) c = go_with to number c
with_set _ c = c

abbrev pub ran : List RvInstr → Processor → Processor
ran [] c = c
ran (i ∷ is) c = ran is (with_set (effect_of i c) c)

-- so many steps more
abbrev pub longer : List RvInstr → ℕ → ℕ
longer [] more = more
longer (i ∷ is) more = suc (longer is more)

both : (a b : Bool) → (a && b) ≡ true → (a ≡ true) × (b ≡ true)
both true b h = (refl, h)
both false b h = absurd (false≢true h)

module _ (which : ℕ → Bool) where
  -- one instruction
  record IsSet (i : RvInstr) (c : Processor) : Type 0 where
    pub goes : (frame : ℕ → ℕ) → went nowhere (effect_of i c) (record { cpu = c; frame = frame }) ≡ Some (record { cpu = with_set (effect_of i c) c; frame = frame })
    pub place : (with_set (effect_of i c) c).place ≡ c.place + 1
    pub others : (q : ℕ) → which q ≡ false → (with_set (effect_of i c) c).regs q ≡ c.regs q

  apart : (r q : ℕ) → which r ≡ true → which q ≡ false → q ≡ r → ⊥
  apart r q h free same = false≢true (sym free ∙ ap which same ∙ h)

  is_set : (i : RvInstr) (c : Processor) → sets which i ≡ true → IsSet i c
  is_set (Li r n) c h = record { goes = λ frame. refl; place = refl; others = λ q free. at_other c.regs r _ q (apart r q h free) }
  is_set (Unary o r a) c h = record { goes = λ frame. refl; place = refl; others = λ q free. at_other c.regs r _ q (apart r q h free) }
  is_set (Binary o r a b) c h = record { goes = λ frame. refl; place = refl; others = λ q free. at_other c.regs r _ q (apart r q h free) }
  is_set (Shift o r a k) c h = record { goes = λ frame. refl; place = refl; others = λ q free. at_other c.regs r _ q (apart r q h free) }
  is_set (Immediate o r a n) c h = record { goes = λ frame. refl; place = refl; others = λ q free. at_other c.regs r _ q (apart r q h free) }
  is_set _ c h = absurd (false≢true h)

  pub goes_ran : (is : List RvInstr) (y : Private) → all_set which is ≡ true → Goes rv_kind nowhere is y (record { cpu = ran is y.cpu; frame = y.frame })
  goes_ran [] y h = refl
  goes_ran (i ∷ is) y h =
      let split = both (sets which i) (all_set which is) h in
      let next : Private = record { cpu = with_set (effect_of i y.cpu) y.cpu; frame = y.frame } in
      (next, (is_set i y.cpu split.0).goes y.frame, goes_ran is next split.1)

  pub place_ran : (is : List RvInstr) (c : Processor) → all_set which is ≡ true → (ran is c).place ≡ c.place + length is
  place_ran [] c h = (let e : c.place ≡ c.place + 0 = omega arith in e)
  place_ran (i ∷ is) c h =
      let split = both (sets which i) (all_set which is) h in
      let one = (is_set i c split.0).place in
      let rest = place_ran is (with_set (effect_of i c) c) split.1 in
      rest ∙ ap (λ m. m + length is) one ∙ (let e : c.place + 1 + length is ≡ c.place + length (i ∷ is) = omega arith in e)

  -- the other registers are as they were
  pub others_ran : (is : List RvInstr) (c : Processor) → all_set which is ≡ true → (q : ℕ) → which q ≡ false → (ran is c).regs q ≡ c.regs q
  others_ran [] c h q free = refl
  others_ran (i ∷ is) c h q free =
      let split = both (sets which i) (all_set which is) h in
      others_ran is (with_set (effect_of i c) c) split.1 q free ∙ (is_set i c split.0).others q free

  -- such code inside of other code, from an offset on
  module _ (code : List (RvInstr × Tag)) (start : ℕ) where
    abbrev laid : Laid RvInstr
    laid = record { kind = rv_kind; code = code; start = start }

    abbrev pub StandsFrom : ℕ → List RvInstr → Type 0
    StandsFrom offset [] = Unit {0}
    StandsFrom offset (i ∷ is) = (slice_get code offset ≡ Some (i, Silent)) × StandsFrom (offset + 1) is

    pub way_ran : (Then : Processor → Type 0) (is : List RvInstr) (offset more : ℕ) (c : Processor) → all_set which is ≡ true → StandsFrom offset is → c.place ≡ start + offset → Way laid Then more (ran is c) → Way laid Then (longer is more) c
    way_ran Then [] offset more c h stands at next = next
    way_ran Then (i ∷ is) offset more c h stands at next =
        let split = both (sets which i) (all_set which is) h in
        let one = is_set i c split.0 in
        let place = one.place in
        record {
          offset = offset;
          instr = i;
          after = with_set (effect_of i c) c;
          place = at;
          stands = stands.0;
          leaves = inl (one.goes (λ b. 0));
          next = way_ran Then is (offset + 1) more (with_set (effect_of i c) c) split.1 stands.1 (place ∙ (let e : c.place + 1 ≡ start + (offset + 1) = omega (arith, at) in e)) next;
        }
