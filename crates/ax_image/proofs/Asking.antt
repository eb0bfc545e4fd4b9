-- Middle code whose operations ask more does the same.
use Rattle.std.proofs.Common.{◌≡◌, ℕ, ◌^◌, ◌<◌, Bool, true, false, List, [], ◌∷◌, Option, Some, None, refl, ◌∙◌}
use Rattle.std.specs.Prelude.{if◌then◌else◌}
use Rattle.ax_words.specs.declared.mark.Op.{Op}
use Rattle.ax_words.specs.declared.order.Order.{Order}
use Rattle.ax_words.specs.declared.width.Width.{Width}
use Rattle.ax_isa.specs.Tells.{Given, Nothing, An_act, A_look, A_miss}
use Rattle.ax_source_run.specs.SourceState.{SourceProgram}
use Rattle.ax_isa.specs.Run.{Setting}
use Rattle.ax_isa.specs.Steps.{Kind}
use Rattle.ax_follow.specs.Contract.{Follows, Reading}
use Rattle.ax_agree.specs.Agree.{is_native_entry}
use Rattle.ax_mid.specs.declared.code.Line.{Line}
use Rattle.ax_mid.specs.declared.instruction.MidInst.{MidInst}
use Rattle.ax_mid.specs.declared.instruction.MidInst.TheVariants as mid
use Rattle.ax_mid.specs.Machine.{is_wide, read_all}
use Rattle.ax_mid.specs.Processor.{MidProcessor}
use Rattle.ax_mid.specs.Spots.{is_own}
use Rattle.ax_expand.specs.Doing.{Result}
use Rattle.ax_expand.specs.Shared.{Shared}
use Rattle.ax_fine.specs.Fine.{Fit, Program, act_of, asks, asks_by, asks_if, chosen_by, chosen_if, did_atomic, did_private, fine, line_of, plain_by, private_at}
use Rattle.ax_fine.specs.Near.{on_bytes}
use Rattle.ax_loops.specs.Updating.{AreNumbers}
use Rattle.ax_meaning.specs.Lowering.{begins_with, framed}
use Rattle.ax_meaning.proofs.Knowing.{follows_other}
use Rattle.ax_image.specs.Image.{Coding, places}
use Rattle.ax_image.specs.Lowering.{asking, asks_words, frames_by, meaning, reading, setting, wide_program}

module _ {R W : Type 0} (m : Program R W) (more : Op → Width → Order → Bool → ℕ → List ℕ → W → Type 0) where
  abbrev n : Program R W
  n = asking m more

  did_private_is : (quiet : Bool) (w : W) (o : Option MidProcessor) → did_private m quiet w o ≡ did_private n quiet w o
  did_private_is quiet w None = refl
  did_private_is true w (Some s) = refl
  did_private_is false w (Some s) = refl

  act_is : (quiet : Bool) (p : ℕ) (i : MidInst R) (s : MidProcessor) (w : W) → act_of m quiet p i s w ≡ act_of n quiet p i s w
  act_is quiet p (mid.Out from) s w = refl
  act_is quiet p mid.Trap s w = refl
  act_is quiet p mid.Ret s w = refl
  act_is quiet p (mid.Const to c) s w = did_private_is quiet w (private_at m p (mid.Const to c) s)
  act_is quiet p (mid.Copy to from) s w = did_private_is quiet w (private_at m p (mid.Copy to from) s)
  act_is quiet p (mid.Apply o to left right) s w = did_private_is quiet w (private_at m p (mid.Apply o to left right) s)
  act_is quiet p (mid.Shift o to from by) s w = did_private_is quiet w (private_at m p (mid.Shift o to from by) s)
  act_is quiet p (mid.Extend to from bits signed) s w = did_private_is quiet w (private_at m p (mid.Extend to from bits signed) s)
  act_is quiet p (mid.Select to test x y) s w = did_private_is quiet w (private_at m p (mid.Select to test x y) s)
  act_is quiet p (mid.Label k) s w = did_private_is quiet w (private_at m p (mid.Label k) s)
  act_is quiet p (mid.Jump k) s w = did_private_is quiet w (private_at m p (mid.Jump k) s)
  act_is quiet p (mid.Branch test a b) s w = did_private_is quiet w (private_at m p (mid.Branch test a b) s)
  act_is quiet p (mid.FrameAddress to offset) s w = did_private_is quiet w (private_at m p (mid.FrameAddress to offset) s)
  act_is quiet p (mid.Load to address k) s w = did_private_is quiet w (private_at m p (mid.Load to address k) s)
  act_is quiet p (mid.Store address from k) s w = did_private_is quiet w (private_at m p (mid.Store address from k) s)
  act_is quiet p (mid.Atomic o width order weak address args results) s w = did_private_is quiet w (private_at m p (mid.Atomic o width order weak address args results) s)
  act_is quiet p (mid.Call routine role args results) s w = did_private_is quiet w (private_at m p (mid.Call routine role args results) s)
  act_is quiet p mid.Nop s w = did_private_is quiet w (private_at m p mid.Nop s)

  plain_is : (g : Given) (quiet : Bool) (p : ℕ) (i : MidInst R) (s : MidProcessor) (w : W) → plain_by m g quiet p i s w ≡ plain_by n g quiet p i s w
  plain_is Nothing quiet p i s w = refl
  plain_is An_act quiet p i s w = act_is quiet p i s w
  plain_is A_look quiet p i s w = refl
  plain_is A_miss quiet p i s w = refl

  did_atomic_is : (quiet : Bool) (g : Given) (results : List R) (s : MidProcessor) (o : Option (Result W)) → did_atomic m quiet g results s o ≡ did_atomic n quiet g results s o
  did_atomic_is quiet g results s None = refl
  did_atomic_is quiet Nothing results s (Some r) = refl
  did_atomic_is quiet An_act results s (Some r) = refl
  did_atomic_is quiet A_look results s (Some r) = refl
  did_atomic_is quiet A_miss results s (Some r) = refl

  if_is : {X : Type 0} (b : Bool) (x y u v : X) → x ≡ u → y ≡ v → (if b then x else y) ≡ (if b then u else v)
  if_is true x y u v e f = e
  if_is false x y u v e f = f

  chosen_by_is : (g : Given) (quiet : Bool) (p : ℕ) (i : MidInst R) (s : MidProcessor) (w : W) → chosen_by m g quiet p i s w ≡ chosen_by n g quiet p i s w
  unfolding chosen_by
  chosen_by_is g quiet p (mid.Atomic o width order weak address args results) s w =
      did_atomic_is quiet g results s ((m.atomic o width order weak).happens g p (s.regs (m.key address)) (read_all m.key args s.regs) s.seen w)
  chosen_by_is g quiet p (mid.Load to address k) s w =
      if_is (is_own (m.base p) (s.regs (m.key address)) k) _ _ _ _ (plain_is g quiet p (mid.Load to address k) s w) (did_atomic_is quiet g (to ∷ []) s ((m.load k).happens g p (s.regs (m.key address)) [] s.seen w))
  chosen_by_is g quiet p (mid.Store address from k) s w =
      if_is (is_own (m.base p) (s.regs (m.key address)) k) _ _ _ _ (plain_is g quiet p (mid.Store address from k) s w) (did_atomic_is quiet g [] s ((m.store k).happens g p (s.regs (m.key address)) (s.regs (m.key from) ∷ []) s.seen w))
  chosen_by_is g quiet p _ s w = plain_is g quiet p _ s w

  -- the same happens
  pub chosen_is : (o : Option (Line R)) (g : Given) (p : ℕ) (s : MidProcessor) (w : W) → chosen_if m o g p s w ≡ chosen_if n o g p s w
  chosen_is None g p s w = refl
  chosen_is (Some line) g p s w = chosen_by_is g _ p line.inst s w

  -- ---- what is asked, where what an operation takes are numbers
  module _ (know : (o : Op) (width : Width) (order : Order) (weak : Bool) (a : ℕ) (args : List ℕ) (w : W) → AreNumbers args → (m.atomic o width order weak).fits a args w → more o width order weak a args w) where
    numbers : (s : MidProcessor) → ((r : ℕ) → s.regs r < 2 ^ 64) → (args : List R) → AreNumbers (read_all m.key args s.regs)
    numbers s small [] = tt
    numbers s small (r ∷ args) = (small (m.key r), numbers s small args)

    asks_if_is : (b : Bool) (asked : Type 0) → asks_if m b asked → asks_if n b asked
    asks_if_is true asked h = h
    asks_if_is false asked h = h

    asks_by_is : (p : ℕ) (i : MidInst R) (s : MidProcessor) (w : W) → ((r : ℕ) → s.regs r < 2 ^ 64) → asks_by m p i s w → asks_by n p i s w
    asks_by_is p (mid.Atomic o width order weak address args results) s w small h = know o width order weak (s.regs (m.key address)) (read_all m.key args s.regs) w (numbers s small args) h
    asks_by_is p (mid.Load to address k) s w small h = asks_if_is (is_own (m.base p) (s.regs (m.key address)) k) ((m.load k).fits (s.regs (m.key address)) [] w) h
    asks_by_is p (mid.Store address from k) s w small h = asks_if_is (is_own (m.base p) (s.regs (m.key address)) k) ((m.store k).fits (s.regs (m.key address)) (s.regs (m.key from) ∷ []) w) h
    asks_by_is p _ s w small h = h

    asks_is : (p : ℕ) (o : Option (Line R)) (s : MidProcessor) (w : W) → ((r : ℕ) → s.regs r < 2 ^ 64) → asks m p o s w → asks n p o s w
    asks_is p None s w small h = h
    asks_is p (Some line) s w small h = asks_by_is p line.inst s w small h

    pub fits_more : (p : ℕ) (s : MidProcessor) (w : W) → Fit m p s w → Fit n p s w
    fits_more p s w h = record {
      small = h.small;
      bytes = h.bytes;
      next = λ g t r is. h.next g t r (chosen_is (line_of m s) g p s w ∙ is);
      asks = asks_is p (line_of m s) s w h.small h.asks;
      room = h.room;
    }

    -- code that follows the one that asks more follows the other, whichever drains are source events there
    pub follows_asking : {I : Type 0} (x : Setting I) (v : Reading) (places : ℕ → ℕ) (drain_gives : ℕ → W → Bool) → Follows (fine n places) v x → Follows (record (fine m places) { drain_gives = drain_gives }) v x
    follows_asking x v places drain_gives h =
        follows_other x v (fine n places) (fine m places).chosen drain_gives (fine m places).matches (fine m places).fits (record {
          same = λ g p s w. chosen_is (line_of m s) g p s w;
          to = λ p c k s y. record { regs = y.regs; frame = y.frame; root = y.root; fixed = y.fixed; role = y.role; lives = y.lives };
          from = λ p c k s y. record { regs = y.regs; frame = y.frame; root = y.root; fixed = y.fixed; role = y.role; lives = y.lives };
          know = fits_more;
        }) h

-- ---- the selected code of modules
module _ {I : Type 0} (kind : Kind I) (c : Coding I) (program : SourceProgram) (fixed : ℕ → Bool) (most : ℕ) where
  abbrev native_drains : ℕ → Shared → Bool
  native_drains p w = begins_with (is_native_entry program) (w.pending p)

  -- whose operations ask what they ask
  pub follows_plain : Follows (fine (on_bytes (framed program (frames_by kind.stack fixed))) (places c program)) (reading kind c program most) (setting kind c program) → Follows (meaning kind c program fixed) (reading kind c program most) (setting kind c program)
  follows_plain h =
      let l = fine (on_bytes (framed program (frames_by kind.stack fixed))) (places c program) in
      follows_other (setting kind c program) (reading kind c program most) l l.chosen native_drains l.matches l.fits (record { same = λ g p s w. refl; to = λ p e k s y. y; from = λ p e k s y. y; know = λ p s w y. y }) h

  -- whose operations on 16 bytes ask for words
  pub follows_wide : Follows (fine (wide_program program (frames_by kind.stack fixed)) (places c program)) (reading kind c program most) (setting kind c program) → Follows (meaning kind c program fixed) (reading kind c program most) (setting kind c program)
  follows_wide h =
      let m = on_bytes (framed program (frames_by kind.stack fixed)) in
      follows_asking m (λ o width order weak. asks_words (is_wide width) (m.atomic o width order weak).fits) (λ o width order weak a args w numbers asked. words (is_wide width) (m.atomic o width order weak).fits a args w numbers asked) (setting kind c program) (reading kind c program most) (places c program) native_drains h
    where
      words : (wide : Bool) (asked : ℕ → List ℕ → Shared → Type 0) (a : ℕ) (args : List ℕ) (w : Shared) → AreNumbers args → asked a args w → asks_words wide asked a args w
      words true asked a args w numbers h = (h, numbers)
      words false asked a args w numbers h = h
