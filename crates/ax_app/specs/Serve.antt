-- What a command comes to, and why: *Answers and their causes*.
use Rattle.std.specs.Prelude.{◌≡◌, ℕ, ◌+◌, ◌<◌, ◌≤◌, List, [], ◌∷◌, ◌++◌, length, map, slice_index_or, take, Option, Some, None, false, true}
use Rattle.std.specs.String.{string_bytes}
use Rattle.ax_io.specs.Count.{Rose}
use Rattle.ax_module.specs.declared.module.Module.{Module as ModuleType}
use Rattle.ax_target.specs.declared.target.Target.{Target}
use Rattle.ax_check.specs.declared.refusal.Refusal.{Refusal}
use Rattle.ax_check.specs.Faults.{IsFirstOfFaults}
use Rattle.ax_read.specs.declared.fault.ReadFault.TheVariants as fault
use Rattle.ax_read.specs.Derivation.{Derives, IsReadFault}
use Rattle.ax_layout.specs.Layout.{layout_of}
use Rattle.ax_source_run.specs.SourceState.{SourceProgram}
use Rattle.ax_sched.specs.declared.plan.Plan.{Plan}
use Rattle.ax_sched.specs.Schedule.{IsFirstBad, IsSchedule}
use Rattle.ax_agree.specs.Lowers.{Lowers, NeverIdles, machine_run, explanation}
use Rattle.ax_agree.specs.Rows.{HasRows}
use Rattle.ax_agree.specs.Sound.{IsSound}
use Rattle.ax_direct_rv.specs.Direct.{is_built}
use Rattle.ax_lowered.specs.declared.lowered.Code.{Code}
use Rattle.ax_lowered.specs.Code.{IsInstrOf, image_of, is_for, kind_of}
use Rattle.ax_print.specs.Lowered.{code_text}
use Rattle.ax_run.specs.Plans.{plan_events}
use Rattle.ax_app.specs.declared.done.Done.{Done}
use Rattle.ax_app.specs.declared.verdict.Part.{Part}
use Rattle.ax_app.specs.declared.verdict.Part.TheVariants.{Module, Schedule}
use Rattle.ax_app.specs.declared.verdict.Verdict.{Verdict}
use Rattle.ax_app.specs.declared.verdict.Verdict.TheVariants as verdict
use Rattle.ax_app.specs.Answers.{Command, Lower, Run, Map, command_of}
use Rattle.ax_table.specs.MapText.{map_text}
use Rattle.ax_app.specs.Writing.{Writing, Writes, written_of, answer_of}
use Rattle.ax_app.specs.Places.{place_in}
use Rattle.ax_app.specs.Report.{run_report}

-- a module with its layout on a target
abbrev pub on : Target → ModuleType → SourceProgram
on target m = record { source = m; layout = layout_of m; target = target }

-- an image of a module that `lower` and `run` may print, in the instruction set of its target
pub record IsImageOf (program : SourceProgram) (code : Code) : Type 0 where
  pub set : is_for program.target code ≡ true
  -- for all lists of entries and of events, the machine run and the source run under its explanation agree
  pub lowers : Lowers (kind_of code) (image_of code) program
  -- no processor makes 4,096 Steps in a row of which none is an Act or a caused failure
  pub busy : NeverIdles (kind_of code) (image_of code) program
  -- each instruction's code has its row of the mapping table
  pub rows : HasRows (kind_of code) (image_of code) program
  -- it is sound, with the names of the functions
  pub sound : IsSound (kind_of code) (IsInstrOf code) (map (λ f. f.name) program.source.functions) (image_of code)

abbrev pub assembly_of : SourceProgram → Code → List ℕ
assembly_of program code = code_text program.target (map (λ f. f.name) program.source.functions) code

-- a module's assembly: that of an image of it
pub record IsAssemblyOf (program : SourceProgram) (text : List ℕ) : Type 0 where
  pub code : Code
  pub of : IsImageOf program code
  pub whole : text ≡ assembly_of program code

-- the report of an image's run under a plan
abbrev pub report_of : SourceProgram → Code → Plan → List ℕ
report_of program code plan =
    let events = plan_events (kind_of code) (image_of code) program plan in
    run_report program (map (λ g. g.name) program.source.globals) (length plan.entries) (machine_run (kind_of code) (image_of code) program plan.entries events) (explanation (kind_of code) (image_of code) program plan.entries events) events

-- a text of a module's run: the assembly of an image of it, and then the report of that image's run under the plan
pub record IsTextOf (program : SourceProgram) (plan : Plan) (text : List ℕ) : Type 0 where
  pub code : Code
  pub of : IsImageOf program code
  pub whole : text ≡ assembly_of program code ++ report_of program code plan

-- the first of the module's faults on the target has this number and this place
abbrev pub HasRefusal : Target → ModuleType → ℕ → List ℕ → Type 0
HasRefusal target m number place = (r : Refusal) × IsFirstOfFaults m target (Some r) × (number ≡ r.number) × (place ≡ place_in m r.place)

-- what the bytes of a module file come to, where they are refused
abbrev pub IsModuleVerdict : Target → List ℕ → Verdict → Type 0
IsModuleVerdict target bytes (verdict.Syntax line) = IsReadFault bytes (fault.Syntax line)
IsModuleVerdict target bytes (verdict.Opcode line) = IsReadFault bytes (fault.Opcode line)
IsModuleVerdict target bytes (verdict.Name line) = IsReadFault bytes (fault.Name line)
IsModuleVerdict target bytes (verdict.Refused number place) = (m : ModuleType) × Derives bytes m × HasRefusal target m number (string_bytes place)
-- the module has no fault, and is not built
IsModuleVerdict target bytes verdict.Unbuilt = (m : ModuleType) × Derives bytes m × IsFirstOfFaults m target None × (is_built (on target m) ≡ false)
IsModuleVerdict target bytes _ = ⊥

-- the bytes derive a module without faults that is built
pub record IsBuilt (target : Target) (bytes : List ℕ) : Type 0 where
  pub source : ModuleType
  pub derives : Derives bytes source
  pub accepted : IsFirstOfFaults source target None
  pub built : is_built (on target source) ≡ true

-- THE HEADLINE, and what the bytes of a schedule come to where they are refused
abbrev pub IsRunVerdict : SourceProgram → List ℕ → Verdict → Type 0
IsRunVerdict program schedule (verdict.Text text) = (plan : Plan) × IsSchedule schedule program.source plan × IsTextOf program plan (string_bytes text)
IsRunVerdict program schedule (verdict.Schedule line why) = IsFirstBad schedule program.source line why
IsRunVerdict program schedule _ = ⊥

abbrev pub limit_of : Part → ℕ
limit_of Module = 4194304
limit_of Schedule = 16777216

-- the place of a file among those of a command
abbrev pub place_of : Part → ℕ
place_of Module = 0
place_of Schedule = 1

abbrev pub name_of : Part → List (List ℕ) → List ℕ
name_of part names = slice_index_or names (place_of part) []

-- the files that are read up to this one
abbrev pub asked_for : Part → List (List ℕ) → List (List ℕ)
asked_for part names = take (place_of part + 1) names

-- the files that a command was given, before it and after
pub record Reading : Type 0 where
  pub held : List ℕ → Option (List ℕ)
  pub asked_before : List (List ℕ)
  pub asked : List (List ℕ)
  pub faults_before : ℕ
  pub faults : ℕ
  pub taken : ℕ

abbrev pub reading : (List ℕ → Option (List ℕ)) → List (List ℕ) → List (List ℕ) → ℕ → ℕ → ℕ → Reading
reading held asked_before asked faults_before faults taken = record { held = held; asked_before = asked_before; asked = asked; faults_before = faults_before; faults = faults; taken = taken }

-- the names that joined those asked for are the first of the command's file words
abbrev pub HasAsked : Reading → List (List ℕ) → Type 0
HasAsked r names = r.asked ≡ r.asked_before ++ names

-- what holds of a file's bytes where they are told, which are within its limit
abbrev pub OfFile : Reading → Part → List (List ℕ) → (List ℕ → Type 0) → Type 0
OfFile r part names P = (bytes : List ℕ) → r.held (name_of part names) ≡ Some bytes → (length bytes ≤ limit_of part) × P bytes

-- the module is built before the schedule is read
abbrev pub EarlierBuilt : Reading → Target → List (List ℕ) → Part → Type 0
EarlierBuilt r target names Module = Unit {0}
EarlierBuilt r target names Schedule = OfFile r Module names (IsBuilt target)

-- why a command with these files stops before its text: the checks in their order, each where no earlier one answered; the names of the files that were read are the first ones
abbrev pub CauseOfFiles : Reading → Target → List (List ℕ) → Verdict → Type 0
CauseOfFiles r target names verdict.Memory = (k : ℕ) × HasAsked r (take k names)
CauseOfFiles r target names (verdict.ReadFault part) = (place_of part < length names) × HasAsked r (asked_for part names) × Rose r.faults_before r.faults × EarlierBuilt r target names part
CauseOfFiles r target names (verdict.TooLong part) =
    (place_of part < length names) × HasAsked r (asked_for part names) × (limit_of part < r.taken) × EarlierBuilt r target names part × ((bytes : List ℕ) → r.held (name_of part names) ≡ Some bytes → limit_of part < length bytes)
CauseOfFiles r target names (verdict.Syntax line) = HasAsked r (asked_for Module names) × OfFile r Module names (λ bytes. IsModuleVerdict target bytes (verdict.Syntax line))
CauseOfFiles r target names (verdict.Opcode line) = HasAsked r (asked_for Module names) × OfFile r Module names (λ bytes. IsModuleVerdict target bytes (verdict.Opcode line))
CauseOfFiles r target names (verdict.Name line) = HasAsked r (asked_for Module names) × OfFile r Module names (λ bytes. IsModuleVerdict target bytes (verdict.Name line))
CauseOfFiles r target names (verdict.Refused number place) = HasAsked r (asked_for Module names) × OfFile r Module names (λ bytes. IsModuleVerdict target bytes (verdict.Refused number place))
CauseOfFiles r target names verdict.Unbuilt = HasAsked r (asked_for Module names) × OfFile r Module names (λ bytes. IsModuleVerdict target bytes verdict.Unbuilt)
CauseOfFiles r target names _ = ⊥

-- why the assembly of a module comes to a verdict
abbrev pub CauseOfLower : Reading → Target → List (List ℕ) → Verdict → Type 0
CauseOfLower r target names (verdict.Text text) = HasAsked r names × OfFile r Module names (λ bytes. (b : IsBuilt target bytes) × IsAssemblyOf (on target b.source) (string_bytes text))
CauseOfLower r target names v = CauseOfFiles r target names v

-- what the bytes of both files come to
abbrev pub OfBoth : Reading → Target → List (List ℕ) → Verdict → Type 0
OfBoth r target names v = OfFile r Module names (λ bytes. (b : IsBuilt target bytes) × OfFile r Schedule names (λ schedule. IsRunVerdict (on target b.source) schedule v))

-- why the run of a module under a schedule comes to a verdict
abbrev pub CauseOfRun : Reading → Target → List (List ℕ) → Verdict → Type 0
CauseOfRun r target names (verdict.Schedule line why) = HasAsked r names × OfBoth r target names (verdict.Schedule line why)
CauseOfRun r target names (verdict.Text text) = HasAsked r names × OfBoth r target names (verdict.Text text)
CauseOfRun r target names v = CauseOfFiles r target names v

-- the mapping table asks for no file
abbrev pub CauseOfMap : Reading → Target → Verdict → Type 0
CauseOfMap r target (verdict.Text text) = HasAsked r [] × (string_bytes text ≡ map_text target)
CauseOfMap r target verdict.Memory = HasAsked r []
CauseOfMap r target _ = ⊥

-- words that are none of the forms
abbrev pub CauseOfOther : Reading → Verdict → Type 0
CauseOfOther r verdict.Usage = HasAsked r []
CauseOfOther r verdict.Memory = HasAsked r []
CauseOfOther r _ = ⊥

-- WHY A COMMAND COMES TO A VERDICT. Want of memory is free.
abbrev pub CauseOf : Reading → Option Command → Verdict → Type 0
CauseOf r None v = CauseOfOther r v
CauseOf r (Some (Lower target name)) v = CauseOfLower r target (name ∷ []) v
CauseOf r (Some (Run target names)) v = CauseOfRun r target (names.0 ∷ names.1 ∷ []) v
CauseOf r (Some (Map target)) v = CauseOfMap r target v

-- A COMMAND'S ANSWER: a verdict that has its cause, written
pub record IsServed (words : List (List ℕ)) (r : Reading) (w : Writing) (got : Done) : Type 0 where
  pub comes_to : Verdict
  pub cause : CauseOf r (command_of words) comes_to
  pub writes : Writes w (written_of comes_to) (answer_of comes_to) got
