-- What functions that check names answer.
use Rattle.std.specs.Prelude.{◌≡◌, ℕ, Bool, true, false, cond, ◌≤◌, length, drop, List, [], ◌++◌, Option, None, Some, Result, Ok, Err, ◌+◌, ◌∷◌}
use Rattle.std.specs.Option.{option_to_list}
use Rattle.ax_lines.specs.declared.statement.Line.{Line}
use Rattle.ax_module.specs.declared.inst.Inst.{Inst}
use Rattle.ax_scope.specs.declared.fault.NameStop.{NameStop}
use Rattle.ax_scope.specs.declared.fault.NameStop.TheVariants as stop
use Rattle.ax_scope.specs.declared.fault.ScopeFault.{ScopeFault}
use Rattle.ax_scope.specs.declared.fault.ScopeFault.TheVariants as fault
use Rattle.ax_scope.specs.Faults.{again, outer_fault, outer_name, param_names, Body, body_fault, local_names, stated, body_begun, faults_from, IsNameFault}
use Rattle.ax_scope.specs.Module.{function_at, functions_in}
use Rattle.ax_scope.specs.declared.meaning.Meaning.{Meaning}
use Rattle.ax_module.specs.declared.module.Function.{Function}

abbrev pub StopsAt : NameStop → Bool → Type 0
StopsAt stop.Name faulty = faulty ≡ true
StopsAt stop.Memory faulty = Unit {0}

-- Names were declared behind those so far, unless one of them was declared again.
abbrev pub Declares : List (List ℕ) → List (List ℕ) → List (List ℕ) → Result (Unit {0}) NameStop → Type 0
Declares old new names (Ok u) = (again old names ≡ false) × (new ≡ old ++ names)
Declares old new names (Err e) = StopsAt e (again old names)

-- A line outside functions has no fault, and these are the names of its parameters.
abbrev pub Enters : List ℕ → List (List ℕ) → List (List ℕ) → Line → Result (List (List ℕ)) NameStop → Type 0
Enters text old new l (Ok params) = (outer_fault text old l ≡ false) × (new ≡ old ++ option_to_list (outer_name text l)) × (params ≡ param_names text l)
Enters text old new l (Err e) = StopsAt e (outer_fault text old l)

-- A line in a function has no fault, and this is its instruction.
abbrev pub Passes : Body → Line → List (List ℕ) → Result (Option Inst) NameStop → Type 0
Passes b l new (Ok o) = (body_fault b l ≡ false) × (stated b.looks l ≡ Some o) × (new ≡ b.so_far ++ local_names b l)
Passes b l new (Err e) = StopsAt e (body_fault b l)

-- the first fault, from a number on
abbrev pub first_fault : ℕ → List Bool → Option ℕ
first_fault n [] = None
first_fault n (b ∷ bs) = cond b (Some n) (first_fault (n + 1) bs)

abbrev pub FaultIs : ScopeFault → Option ℕ → Type 0
FaultIs (fault.Name n) found = found ≡ Some n
FaultIs fault.Memory found = Unit {0}

-- Nothing was found, or this fault.
abbrev pub Finds : {X : Type 0} → Result X ScopeFault → Option ℕ → Type 0
Finds (Ok x) found = found ≡ None
Finds (Err e) found = FaultIs e found

-- Behind a line, these many lines stand in the function that begins there, if one does. It is made,
-- and what is left gives the other functions and the first fault. Else there is a fault in it.
abbrev pub Takes : List ℕ → (List ℕ → Option Meaning) → Line → List Line → ℕ → List Function → List Function → Result ℕ ScopeFault → Type 0
Takes text globals l behind number old new (Ok n) =
    (n ≤ length behind)
    × (new ++ functions_in text globals (drop n behind) ≡ old ++ (function_at text globals l behind ++ functions_in text globals behind))
    × ((names : List (List ℕ)) → first_fault number (faults_from text globals names (body_begun text globals l behind) behind)
    ≡ first_fault (number + n) (faults_from text globals names None (drop n behind)))
Takes text globals l behind number old new (Err e) =
    (names : List (List ℕ)) → FaultIs e (first_fault number (faults_from text globals names (body_begun text globals l behind) behind))

-- It is this number, and there is a fault there.
abbrev pub FaultAt : ScopeFault → ℕ → Bool → Type 0
FaultAt (fault.Name n) number faulty = (n ≡ number) × (faulty ≡ true)
FaultAt fault.Memory number faulty = Unit {0}

abbrev pub PassesAt : Body → Line → List (List ℕ) → ℕ → Result (Option Inst) ScopeFault → Type 0
PassesAt b l new number (Ok o) = (body_fault b l ≡ false) × (stated b.looks l ≡ Some o) × (new ≡ b.so_far ++ local_names b l)
PassesAt b l new number (Err e) = FaultAt e number (body_fault b l)

abbrev pub EntersAt : List ℕ → List (List ℕ) → List (List ℕ) → Line → ℕ → Result (List (List ℕ)) ScopeFault → Type 0
EntersAt text old new l number (Ok params) = (outer_fault text old l ≡ false) × (new ≡ old ++ option_to_list (outer_name text l)) × (params ≡ param_names text l)
EntersAt text old new l number (Err e) = FaultAt e number (outer_fault text old l)

-- The first line whose names don't fit, or a want of memory.
abbrev pub IsFault : List ℕ → List Line → ScopeFault → Type 0
IsFault text lines (fault.Name n) = IsNameFault text lines n
IsFault text lines fault.Memory = Unit {0}
