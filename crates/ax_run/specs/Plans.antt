-- *Events of a plan* over an image: each directive sees the machine before its next event.
use Rattle.std.specs.Prelude.{ℕ, Bool, true, false, ◌&&◌, nat_lt, is_some, List, length, map}
use Rattle.std.specs.List.{range_with_len}
use Rattle.ax_words.specs.declared.event.Event.{Event}
use Rattle.ax_isa.specs.declared.cpu.Status.{Status}
use Rattle.ax_isa.specs.declared.cpu.Status.TheVariants.{Running}
use Rattle.ax_isa.specs.declared.images.Image.{Image}
use Rattle.ax_isa.specs.Run.{Machine, Setting, happens}
use Rattle.ax_isa.specs.Steps.{Kind}
use Rattle.ax_source_run.specs.SourceState.{SourceProgram}
use Rattle.ax_agree.specs.Library.{image_setting}
use Rattle.ax_agree.specs.Lowers.{machine_begins}
use Rattle.ax_sched.specs.declared.glance.Glance.{Glance}
use Rattle.ax_sched.specs.declared.plan.Plan.{Plan}
use Rattle.ax_sched.specs.Events.{Seen, events_of}

abbrev pub is_running : Status → Bool
is_running Running = true
is_running _ = false

-- of each of so many processors, in an array of 8
abbrev pub of_each : ℕ → (ℕ → Bool) → List Bool
of_each processors f = map (λ p. nat_lt p processors && f p) (range_with_len 0 8)

-- what a directive sees of a machine before its event of this number: images have no routines, so no lock is taken
abbrev pub glance_of : ℕ → Machine → ℕ → Glance
glance_of processors m number =
    record {
      number = number;
      processors = processors;
      running = of_each processors (λ p. is_running (m.processors p).status);
      linked = of_each processors (λ p. is_some (m.noted.storage.linked p));
      holding = of_each processors (λ p. false);
    }

abbrev pub seen_by : {I : Type 0} → Setting I → ℕ → Seen Machine
seen_by x processors = record { glance = glance_of processors; after = λ m e. happens x e m }

-- THE EVENTS OF A PLAN over an image of a program
abbrev pub plan_events : {I : Type 0} → Kind I → Image I → SourceProgram → Plan → List Event
plan_events kind image program plan = events_of (seen_by (image_setting kind image) (length plan.entries)) program.target plan.items (machine_begins kind image program plan.entries)
