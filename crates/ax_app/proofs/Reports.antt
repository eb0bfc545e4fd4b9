-- Parts of a report, line by line.
use Rattle.std.proofs.Common.{◌≡◌, ℕ, zero, suc, ◌+◌, ◌-◌, ◌<◌, ◌≤◌, List, [], ◌∷◌, ◌++◌, length, map, refl, sym, ap, ◌∙◌, subst, arith, append_assoc}
use Rattle.std.specs.Prelude.{All, drop, slice_get, slice_index_or, Some, Result, Ok, Err, OnOk}
use Rattle.std.proofs.lemmas.List.{get_or-map, length-map}
use Rattle.std.proofs.lemmas.Option.{slice_get-get_or}
use Rattle.ax_isa.specs.Run.{Machine}
use Rattle.ax_lowered.specs.declared.lowered.Code.{Code}
use Rattle.ax_lowered.specs.Code.{image_of, kind_of}
use Rattle.ax_module.specs.declared.module.Global.{Global}
use Rattle.ax_module.specs.Names.{IsAscii}
use Rattle.ax_layout.specs.Layout.{CanBeLaidOut, LayoutState, count_in, layout_of}
use Rattle.ax_layout.specs.Regions.{AreThoseOfTheModule, InLayouts, IsThatOf}
use Rattle.ax_source_run.specs.SourceState.{SourceProgram}
use Rattle.ax_sched.specs.declared.plan.Plan.{Plan}
use Rattle.ax_run.specs.Plans.{plan_events}
use Rattle.ax_agree.specs.Agree.{native_entries}
use Rattle.ax_agree.specs.Lowers.{machine_run}
use Rattle.ax_print.specs.Report.{processor_line, lock_line}
use Rattle.ax_run.specs.Run.{RunState, IsOf, HasRun}
use Rattle.ax_app.specs.Serve.{report_of}
use Rattle.ax_app.specs.Report.{element_line, element_lines, object_part, processor_part, word_of_lock, lock_part, run_report}

-- ---- elements
module _ (program : SourceProgram) (mem : ℕ → ℕ) (g : ℕ) (name : List ℕ) where
  element_suc : (i n : ℕ) → element_lines program mem g name i (suc n) ≡ element_line program mem g name i ++ element_lines program mem g name (i + 1) n
  unfolding element_lines
  element_suc i n = refl

  pub element_next : (i n : ℕ) → i < n → element_lines program mem g name i (n - i) ≡ element_line program mem g name i ++ element_lines program mem g name (i + 1) (n - (i + 1))
  element_next i n h = (let e : n - i ≡ suc (n - (i + 1)) = omega (arith, h) in ap (element_lines program mem g name i) e) ∙ element_suc i (n - (i + 1))

  pub element_none : (i n : ℕ) → n ≤ i → element_lines program mem g name i (n - i) ≡ []
  unfolding element_lines
  element_none i n h = (let e : n - i ≡ 0 = omega (arith, h) in ap (element_lines program mem g name i) e)

-- ---- globals
pub name_ascii : (globals : List Global) → All (λ name. IsAscii name) (map (λ x. x.name) globals) → (i : ℕ) (x : Global) → i < length globals → x ≡ slice_index_or globals i x → IsAscii x.name
name_ascii globals h i x less is =
    let names = map (λ (y : Global). y.name) globals in
    let within : i < length names = (let e = length-map globals (λ (y : Global). y.name) in omega (arith, e, less)) in
    subst (λ name. IsAscii name) (get_or-map (λ (y : Global). y.name) globals i x [] less ∙ ap (λ (y : Global). y.name) (sym is)) (h i [] within)

pub that_of : (program : SourceProgram) → CanBeLaidOut program.source → program.layout ≡ layout_of program.source → InLayouts AreThoseOfTheModule → (globals : List Global) → globals ≡ program.source.globals
    → (g i : ℕ) (x : Global) → g ≡ i → i < length globals → x ≡ slice_index_or globals i x → IsThatOf program.layout g x
that_of program limits layout those globals whole g i x e less is =
    subst (λ (l : LayoutState). IsThatOf l g x) (sym layout)
    (those program.source limits g x (ap (λ k. slice_get program.source.globals k) e ∙ ap (λ (xs : List Global). slice_get xs i) (sym whole) ∙ (slice_get-get_or globals i x less ∙ ap Some (sym is))))

pub object_next : (program : SourceProgram) (mem : ℕ → ℕ) (g i : ℕ) (globals : List Global) (d : Global) → i < length globals
    → object_part program mem g (map (λ x. x.name) (drop i globals)) ≡ element_lines program mem g (slice_index_or globals i d).name 0 (count_in program.layout g) ++ object_part program mem (g + 1) (map (λ x. x.name) (drop (i + 1) globals))
object_next program mem g i [] d h = absurd (omega (arith, h))
object_next program mem g zero (x ∷ globals) d h = refl
object_next program mem g (suc i) (x ∷ globals) d h =
    object_next program mem g i globals d (omega (arith, h))
    ∙ ap (λ k. element_lines program mem g (slice_index_or globals i d).name 0 (count_in program.layout g) ++ object_part program mem (g + 1) (map (λ y. y.name) (drop k (x ∷ globals)))) (let e : suc (i + 1) ≡ suc i + 1 = omega arith in e)

-- ---- processors and locks
processor_suc : (of : SourceProgram) (m : Machine) (p n : ℕ) → processor_part of m p (suc n) ≡ processor_line p (m.processors p).status (m.processors p).place (m.retired p) (length (native_entries of (m.noted.storage.waiting p))) ++ processor_part of m (p + 1) n
unfolding processor_part
processor_suc of m p n = refl

pub processor_next : (of : SourceProgram) (m : Machine) (p n : ℕ) → p < n → processor_part of m p (n - p) ≡ processor_line p (m.processors p).status (m.processors p).place (m.retired p) (length (native_entries of (m.noted.storage.waiting p))) ++ processor_part of m (p + 1) (n - (p + 1))
processor_next of m p n h = (let e : n - p ≡ suc (n - (p + 1)) = omega (arith, h) in ap (processor_part of m p) e) ∙ processor_suc of m p (n - (p + 1))

pub processor_none : (of : SourceProgram) (m : Machine) (p n : ℕ) → n ≤ p → processor_part of m p (n - p) ≡ []
unfolding processor_part
processor_none of m p n h = (let e : n - p ≡ 0 = omega (arith, h) in ap (processor_part of m p) e)

lock_suc : (m : Machine) (i n : ℕ) → lock_part m i (suc n) ≡ lock_line i (word_of_lock m i) ++ lock_part m (i + 1) n
unfolding lock_part
lock_suc m i n = refl

pub lock_next : (m : Machine) (i n : ℕ) → i < n → lock_part m i (n - i) ≡ lock_line i (word_of_lock m i) ++ lock_part m (i + 1) (n - (i + 1))
lock_next m i n h = (let e : n - i ≡ suc (n - (i + 1)) = omega (arith, h) in ap (lock_part m i) e) ∙ lock_suc m i (n - (i + 1))

pub lock_none : (m : Machine) (i n : ℕ) → n ≤ i → lock_part m i (n - i) ≡ []
unfolding lock_part
lock_none m i n h = (let e : n - i ≡ 0 = omega (arith, h) in ap (lock_part m i) e)

-- what is appended to a text, and then more
pub more : (x y z a b : List ℕ) → y ≡ x ++ a → z ≡ y ++ b → z ≡ x ++ (a ++ b)
more x y z a b e f = f ∙ ap (λ l. l ++ b) e ∙ append_assoc x a b

pub on_ok : {V E : Type 0} (r : Result V E) (P Q : Type 0) → (P → Q) → OnOk r P → OnOk r Q
on_ok (Ok v) P Q f h = f h
on_ok (Err e) P Q f h = h

-- ---- a run's report once the run has gone
pub gone : (r : RunState) (code : Code) (program : SourceProgram) (plan : Plan) → IsOf code program plan r → HasRun r
    → (let events = plan_events (kind_of r.code) (image_of r.code) r.program r.plan in
    run_report r.program (map (λ g. g.name) r.program.source.globals) (length r.plan.entries) (machine_run (kind_of r.code) (image_of r.code) r.program r.plan.entries events) r.machine.sources r.machine.events ≡ report_of program code plan)
gone r code program plan of ran =
    let globals = map (λ (g : Global). g.name) r.program.source.globals in
    let events = plan_events (kind_of r.code) (image_of r.code) r.program r.plan in
    let m = machine_run (kind_of r.code) (image_of r.code) r.program r.plan.entries events in
    ap (λ es. run_report r.program globals (length r.plan.entries) m r.machine.sources es) ran.machine_schedule
    ∙ ap (λ es. run_report r.program globals (length r.plan.entries) m es events) ran.source_schedule
    ∙ ap (λ i. report_of r.program i r.plan) of.code_is
    ∙ ap (λ p. report_of p code r.plan) of.program_is
    ∙ ap (λ q. report_of program code q) of.plan_is
