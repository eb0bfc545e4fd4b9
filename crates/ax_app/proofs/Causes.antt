-- What reading the files of a command, and then judging their bytes, comes to.
use Rattle.std.proofs.Common.{◌≡◌, ℕ, ◌<◌, true, false, List, [], ◌∷◌, ◌++◌, length, Option, None, Result, Ok, Err, sym, ap, subst, ◌∙◌, ⊎_elim, append_assoc, arith}
use Rattle.std.specs.Prelude.{MatchResult}
use Rattle.std.specs.String.{string_bytes}
use Rattle.std.proofs.lemmas.List.{append-nil}
use Rattle.ax_io.specs.Count.{Rose}
use Rattle.ax_module.specs.declared.module.Module.{Module as ModuleType}
use Rattle.ax_source_run.specs.SourceState.{SourceProgram}
use Rattle.ax_target.specs.declared.target.Target.{Target}
use Rattle.ax_read.specs.Derivation.{Derives}
use Rattle.ax_check.specs.Faults.{IsFirstOfFaults}
use Rattle.ax_direct_rv.specs.Direct.{is_built}
use Rattle.ax_app.specs.declared.verdict.Part.TheVariants.{Module, Schedule}
use Rattle.ax_app.specs.declared.verdict.Verdict.{Verdict}
use Rattle.ax_app.specs.declared.verdict.Verdict.TheVariants as verdict
use Rattle.ax_app.specs.Judged.{HasModule, IsAcceptedAs, IsBuiltAs, JudgesLower, JudgesRun, RefusesModule, RefusesSource}
use Rattle.ax_app.specs.Reads.{ReadWhole, ReadFails}
use Rattle.ax_app.specs.Serve.{Reading, reading, CauseOfFiles, CauseOfLower, CauseOfRun, HasAsked, IsAssemblyOf, IsBuilt, IsModuleVerdict, IsRunVerdict, OfBoth, OfFile, on}

module _ (target : Target) where
  pub source_refused : (bytes : List ℕ) (m : ModuleType) → Derives bytes m → (v : Verdict) → RefusesSource target m v → RefusesModule target bytes v
  source_refused bytes m d verdict.Memory h = tt
  source_refused bytes m d (verdict.Refused number place) h = (m, d, h)
  source_refused bytes m d (verdict.Text t) h = absurd h
  source_refused bytes m d verdict.Usage h = absurd h
  source_refused bytes m d (verdict.ReadFault p) h = absurd h
  source_refused bytes m d (verdict.TooLong p) h = absurd h
  source_refused bytes m d (verdict.Syntax line) h = absurd h
  source_refused bytes m d (verdict.Opcode line) h = absurd h
  source_refused bytes m d (verdict.Name line) h = absurd h
  source_refused bytes m d verdict.Unbuilt h = absurd h
  source_refused bytes m d (verdict.Schedule line why) h = absurd h

  module _ (bytes : List ℕ) (m : ModuleType) (program : SourceProgram) (derives : Derives bytes m) (accepted : IsAcceptedAs target m program) where
    pub built_as : is_built program ≡ true → IsBuiltAs target bytes program
    built_as built =
        let source : program.source ≡ m = ap (λ (p : SourceProgram). p.source) accepted.is in
        record {
          derives = subst (λ x. Derives bytes x) (sym source) derives;
          is = accepted.is ∙ ap (on target) (sym source);
          none = subst (λ x. IsFirstOfFaults x target None) (sym source) accepted.none;
          built = built;
        }

    pub unbuilt : is_built program ≡ false → RefusesModule target bytes verdict.Unbuilt
    unbuilt other = (m, derives, accepted.none, ap is_built (sym accepted.is) ∙ other)

  abbrev built_from : (bytes : List ℕ) (program : SourceProgram) → IsBuiltAs target bytes program → IsBuilt target bytes
  built_from bytes program is = record { source = program.source; derives = is.derives; accepted = is.none; built = ap is_built (sym is.is) ∙ is.built }

-- ---- what stops before the text
module _ (r : Reading) (target : Target) (names : List (List ℕ)) where
  pub lower_stops : (v : Verdict) → CauseOfFiles r target names v → CauseOfLower r target names v
  lower_stops verdict.Memory h = h
  lower_stops (verdict.ReadFault p) h = h
  lower_stops (verdict.TooLong p) h = h
  lower_stops (verdict.Syntax line) h = h
  lower_stops (verdict.Opcode line) h = h
  lower_stops (verdict.Name line) h = h
  lower_stops (verdict.Refused number place) h = h
  lower_stops verdict.Unbuilt h = h
  lower_stops verdict.Usage h = h
  lower_stops (verdict.Schedule line why) h = h
  lower_stops (verdict.Text t) h = absurd h

  pub run_stops : (v : Verdict) → CauseOfFiles r target names v → CauseOfRun r target names v
  run_stops verdict.Memory h = h
  run_stops (verdict.ReadFault p) h = h
  run_stops (verdict.TooLong p) h = h
  run_stops (verdict.Syntax line) h = h
  run_stops (verdict.Opcode line) h = h
  run_stops (verdict.Name line) h = h
  run_stops (verdict.Refused number place) h = h
  run_stops verdict.Unbuilt h = h
  run_stops verdict.Usage h = h
  run_stops (verdict.Schedule line why) h = absurd h
  run_stops (verdict.Text t) h = absurd h

-- ---- the module's file, before others
module _ (r : Reading) (target : Target) (m : List ℕ) where
  module _ (rest : List (List ℕ)) where
    some : 0 < length (m ∷ rest)
    some = omega arith

    pub first_fails : (v : Verdict) → ReadFails r Module m v → CauseOfFiles r target (m ∷ rest) v
    first_fails (verdict.ReadFault p) h = subst (λ q. CauseOfFiles r target (m ∷ rest) (verdict.ReadFault q)) (sym h.0) (some, h.1, h.2, tt)
    first_fails (verdict.TooLong p) h = subst (λ q. CauseOfFiles r target (m ∷ rest) (verdict.TooLong q)) (sym h.0) (some, h.1, h.2, tt, h.3)
    first_fails verdict.Memory h = ⊎_elim (λ e. (1, e)) (λ e. (0, e ∙ sym (append-nil r.asked_before))) h
    first_fails (verdict.Text t) h = absurd h
    first_fails verdict.Usage h = absurd h
    first_fails (verdict.Syntax line) h = absurd h
    first_fails (verdict.Opcode line) h = absurd h
    first_fails (verdict.Name line) h = absurd h
    first_fails (verdict.Refused number place) h = absurd h
    first_fails verdict.Unbuilt h = absurd h
    first_fails (verdict.Schedule line why) h = absurd h

    module _ (bytes : List ℕ) (h : ReadWhole r Module m bytes) where
      told : (v : Verdict) → IsModuleVerdict target bytes v → OfFile r Module (m ∷ rest) (λ b. IsModuleVerdict target b v)
      told v is = λ b held. (h.within b held, subst (λ x. IsModuleVerdict target x v) (h.told b held) is)

      module_refused : (v : Verdict) → RefusesModule target bytes v → CauseOfFiles r target (m ∷ rest) v
      module_refused verdict.Memory is = (1, h.asked)
      module_refused (verdict.Syntax line) is = (h.asked, told (verdict.Syntax line) is)
      module_refused (verdict.Opcode line) is = (h.asked, told (verdict.Opcode line) is)
      module_refused (verdict.Name line) is = (h.asked, told (verdict.Name line) is)
      module_refused (verdict.Refused number place) is = (h.asked, told (verdict.Refused number place) is)
      module_refused verdict.Unbuilt is = (h.asked, told verdict.Unbuilt is)
      module_refused (verdict.Text t) is = absurd is
      module_refused verdict.Usage is = absurd is
      module_refused (verdict.ReadFault p) is = absurd is
      module_refused (verdict.TooLong p) is = absurd is
      module_refused (verdict.Schedule line why) is = absurd is

  module _ (bytes : List ℕ) (h : ReadWhole r Module m bytes) where
    found : (program : SourceProgram) → IsBuiltAs target bytes program → HasModule r target m program
    found program is = record { asked = h.asked; faults = h.faults; is = is.is; built = is.built; told = λ b held. (h.within b held, subst (λ x. IsBuiltAs target x program) (h.told b held) is) }

    pub module_found : {A : Type 0} (view : A → SourceProgram) (answer : Result A Verdict) → MatchResult answer (λ a. IsBuiltAs target bytes (view a)) (λ v. RefusesModule target bytes v) → MatchResult answer (λ a. HasModule r target m (view a)) (λ v. (rest : List (List ℕ)) → CauseOfFiles r target (m ∷ rest) v)
    module_found view (Ok a) is = found (view a) is
    module_found view (Err v) is = λ rest. module_refused rest bytes h v is

  pub lower_judged : (program : SourceProgram) → HasModule r target m program → (v : Verdict) → JudgesLower program v → CauseOfLower r target (m ∷ []) v
  lower_judged program h verdict.Memory is = (1, h.asked)
  lower_judged program h (verdict.Text t) is =
      (h.asked, λ b held. ((h.told b held).0, (built_from target b program (h.told b held).1, subst (λ p. IsAssemblyOf p (string_bytes t)) h.is is)))
  lower_judged program h (verdict.ReadFault p) is = absurd is
  lower_judged program h (verdict.TooLong p) is = absurd is
  lower_judged program h (verdict.Syntax line) is = absurd is
  lower_judged program h (verdict.Opcode line) is = absurd is
  lower_judged program h (verdict.Name line) is = absurd is
  lower_judged program h (verdict.Refused number place) is = absurd is
  lower_judged program h verdict.Unbuilt is = absurd is
  lower_judged program h verdict.Usage is = absurd is
  lower_judged program h (verdict.Schedule line why) is = absurd is

-- ---- both files, one after the other: what they hold, the names asked for, the counts, and the bytes taken
module _ (target : Target) (held held_between : List ℕ → Option (List ℕ)) (same : (n : List ℕ) → held_between n ≡ held n) (asked asked_between asked_after : List (List ℕ)) (faults faults_between faults_after taken taken_after : ℕ) where
  abbrev pub first : Reading
  first = reading held asked asked_between faults faults_between taken

  abbrev pub second : Reading
  second = reading held_between asked_between asked_after faults_between faults_after taken_after

  abbrev pub both : Reading
  both = reading held asked asked_after faults faults_after taken_after

  module _ (m s : List ℕ) (program : SourceProgram) (h : HasModule first target m program) where
    two : 1 < length (m ∷ s ∷ [])
    two = omega arith

    earlier : OfFile both Module (m ∷ s ∷ []) (IsBuilt target)
    earlier b t = ((h.told b t).0, built_from target b program (h.told b t).1)

    asked_one : asked_after ≡ asked_between → HasAsked both (m ∷ [])
    asked_one e = e ∙ h.asked

    asked_two : asked_after ≡ asked_between ++ s ∷ [] → HasAsked both (m ∷ s ∷ [])
    asked_two e = e ∙ ap (λ l. l ++ s ∷ []) h.asked ∙ append_assoc asked (m ∷ []) (s ∷ [])

    second_stops : (v : Verdict) → ReadFails second Schedule s v → CauseOfFiles both target (m ∷ s ∷ []) v
    second_stops (verdict.ReadFault p) k =
        subst (λ q. CauseOfFiles both target (m ∷ s ∷ []) (verdict.ReadFault q)) (sym k.0)
        (two, asked_two k.1, subst (λ n. Rose n faults_after) h.faults k.2, earlier)
    second_stops (verdict.TooLong p) k =
        subst (λ q. CauseOfFiles both target (m ∷ s ∷ []) (verdict.TooLong q)) (sym k.0)
        (two, asked_two k.1, k.2, earlier, λ b t. k.3 b (same s ∙ t))
    second_stops verdict.Memory k = ⊎_elim (λ e. (2, asked_two e)) (λ e. (1, asked_one e)) k
    second_stops (verdict.Text t) k = absurd k
    second_stops verdict.Usage k = absurd k
    second_stops (verdict.Syntax line) k = absurd k
    second_stops (verdict.Opcode line) k = absurd k
    second_stops (verdict.Name line) k = absurd k
    second_stops (verdict.Refused number place) k = absurd k
    second_stops verdict.Unbuilt k = absurd k
    second_stops (verdict.Schedule line why) k = absurd k

    pub second_fails : (v : Verdict) → ReadFails second Schedule s v → CauseOfRun both target (m ∷ s ∷ []) v
    second_fails v k = run_stops both target (m ∷ s ∷ []) v (second_stops v k)

    module _ (schedule : List ℕ) (k : ReadWhole second Schedule s schedule) where
      of_both : (v : Verdict) → IsRunVerdict program schedule v → OfBoth both target (m ∷ s ∷ []) v
      of_both v run = λ b t. (
        (h.told b t).0,
        (
          built_from target b program (h.told b t).1,
          λ c u. (k.within c (same s ∙ u), subst (λ x. IsRunVerdict (on target program.source) x v) (k.told c (same s ∙ u)) (subst (λ p. IsRunVerdict p schedule v) h.is run)),
        ),
      )

      pub run_judged : (v : Verdict) → JudgesRun program schedule v → CauseOfRun both target (m ∷ s ∷ []) v
      run_judged verdict.Memory run = (2, asked_two k.asked)
      run_judged (verdict.Text t) run = (asked_two k.asked, of_both (verdict.Text t) run)
      run_judged (verdict.Schedule line why) run = (asked_two k.asked, of_both (verdict.Schedule line why) run)
      run_judged verdict.Usage run = absurd run
      run_judged (verdict.ReadFault p) run = absurd run
      run_judged (verdict.TooLong p) run = absurd run
      run_judged (verdict.Syntax line) run = absurd run
      run_judged (verdict.Opcode line) run = absurd run
      run_judged (verdict.Name line) run = absurd run
      run_judged (verdict.Refused number place) run = absurd run
      run_judged verdict.Unbuilt run = absurd run
