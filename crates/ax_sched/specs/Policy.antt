-- What a policy's closure must do.
use Rattle.std.specs.Prelude.{◌≡◌, ℕ, Bool, true, nat_lt, ◌&&◌, IsTrue}
use Rattle.std.specs.Borrow.{Bor}
use Rattle.ax_words.specs.declared.event.Event.{Event}
use Rattle.ax_words.specs.declared.event.Event.TheVariants as event
use Rattle.ax_target.specs.declared.target.Target.{Target}
use Rattle.ax_target.specs.Targets.{is_buffered, has_pairs}
use Rattle.ax_sched.specs.declared.glance.Glance.{Glance}
use Rattle.ax_sched.specs.Events.{event_processor}

-- Drains are events of targets with buffers alone, and Drops of those with pairs
abbrev pub has_event : Target → Event → Bool
has_event target (event.Step p) = true
has_event target (event.Drain p) = is_buffered target
has_event target (event.Drop p) = has_pairs target

-- an event of one of so many processors, which the target has
abbrev pub is_event : ℕ → Target → Event → Bool
is_event processors target e = nat_lt (event_processor e) processors && has_event target e

-- THE CLOSURE CHOOSES: it accepts every Glance with this number of processors, and answers one of them with an event that the target has
pub record Chooses {F : Type 0} (pre : F → Bor Glance → Type 0) (post : F → Bor Glance → Event → Type 0) (f : F) (processors : ℕ) (target : Target) : Type 0 where
  pub accepts : (g : Bor Glance) → g.now.processors ≡ processors → pre f g
  pub answers : (g : Bor Glance) (e : Event) → g.now.processors ≡ processors → post f g e → IsTrue (is_event processors target e)
