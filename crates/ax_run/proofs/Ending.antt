-- A run that goes to its end has run.
use Rattle.std.proofs.Common.{◌≡◌, Bool, true, false, [], ◌++◌, length, refl, sym, ap, ◌∙◌, subst}
use Rattle.std.proofs.lemmas.Bool.{false≢true}
use Rattle.ax_isa.specs.declared.images.Image.{Image}
use Rattle.ax_isa.specs.Run.{Machine, explain, run, tag_at}
use Rattle.ax_isa.specs.Steps.{Kind}
use Rattle.ax_isa.specs.Tells.{given_of}
use Rattle.ax_source_run.specs.SourceState.{SourceProgram}
use Rattle.ax_agree.specs.Agree.{is_native_entry}
use Rattle.ax_agree.specs.Library.{image_setting}
use Rattle.ax_agree.specs.Lowers.{machine_begins}
use Rattle.ax_lowered.specs.declared.lowered.Code.{Code}
use Rattle.ax_sched.specs.declared.plan.Plan.{Plan}
use Rattle.ax_sched.specs.Events.{events_of}
use Rattle.ax_sched.specs.Plan.{IsPlan}
use Rattle.ax_run.specs.Machine.{MachineState, Performed, Shows, Tells, seen_in}
use Rattle.ax_run.specs.Plans.{plan_events, seen_by}
use Rattle.ax_run.specs.Run.{HasRunOf, IsSoundRunOf, RunState, events_of_plan, so_far}

module _ {I : Type 0} (kind : Kind I) (image : Image I) (valid : I → Type 0) where
  -- an ended one has
  pub has_run : (r : RunState) → IsSoundRunOf kind image r valid → r.ended ≡ true → HasRunOf kind image r
  has_run r s ended =
      record {
        machine_schedule = events;
        source_schedule =
            s.tells.sources
            ∙ ap (λ (q : SourceProgram). explain (image_setting kind image) given_of (tag_at image.tags) (is_native_entry q) r.machine.events begins) s.program
            ∙ ap (λ es. explain (image_setting kind image) given_of (tag_at image.tags) (is_native_entry r.program) es begins) events;
        shows = subst (λ es. Shows r.machine (run (image_setting kind image) es begins)) events s.tells.shows;
      }
    where
      begins : Machine
      begins = machine_begins kind image r.program r.plan.entries

      events : r.machine.events ≡ events_of_plan kind image r
      events = s.events ∙ ap (λ b. so_far b (events_of_plan kind image r)) ended

  abbrev pub state : Code → Plan → MachineState → Bool → RunState
  state code plan m ended = record { code = code; program = m.program; plan = plan; machine = m; ended = ended }

  -- one that performs its plan ends soundly
  pub ends : (code : Code) (plan : Plan) (m n : MachineState) (ended : Bool) → false ≡ ended → IsSoundRunOf kind image (state code plan m ended) valid → Performed kind image plan.items m.program.target m n → IsSoundRunOf kind image (state code plan n true) valid
  ends code plan m n ended not_yet s by =
      record {
        runs = record { instructions = s.runs.instructions; buffered = by.kept.buffered ∙ s.runs.buffered };
        program = refl;
        plan = subst (λ (q : SourceProgram). IsPlan (length q.source.functions) plan) (sym by.kept.program) s.plan;
        count = by.kept.count ∙ s.count;
        events = made ∙ ap (λ q. plan_events kind image q plan) (sym by.kept.program);
        tells = subst (λ (q : SourceProgram). Tells kind image (machine_begins kind image q plan.entries) n) (sym by.kept.program) (by.tells begins s.tells);
        room = λ over. absurd (false≢true (sym over));
      }
    where
      begins : Machine
      begins = machine_begins kind image m.program plan.entries

      none : m.events ≡ []
      none = s.events ∙ ap (λ b. so_far b (plan_events kind image m.program plan)) (sym not_yet)

      made : n.events ≡ plan_events kind image m.program plan
      made =
          by.events begins s.tells
          ∙ ap (λ es. es ++ events_of (seen_in kind image m) m.program.target plan.items (run (image_setting kind image) es begins)) none
          ∙ ap (λ k. events_of (seen_by (image_setting kind image) k) m.program.target plan.items begins) s.count
