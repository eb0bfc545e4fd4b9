-- All lines of a text.
use Rattle.std.proofs.Common.{◌≡◌, ℕ, suc, ◌+◌, ◌-◌, ◌≤◌, Bool, true, false, cond, List, [], ◌∷◌, ◌++◌, length, take, drop, get_or, Option, Some, None, Result, Ok, Err, refl, sym, ap, subst, ◌∙◌, arith}
use Rattle.std.specs.Prelude.{◌||◌, IfErr, IsErrAnd}
use Rattle.std.specs.Option.{option_to_list}
use Rattle.std.specs.Global.{Vec}
use Rattle.ax_module.specs.declared.module.Function.{Function}
use Rattle.ax_module.specs.declared.module.Module.{Module}
use Rattle.ax_lines.specs.declared.statement.Line.{Line}
use Rattle.ax_scope.specs.declared.meaning.Meaning.{Meaning}
use Rattle.ax_scope.specs.declared.fault.ScopeFault.{ScopeFault}
use Rattle.ax_scope.specs.declared.fault.ScopeFault.TheVariants as fault
use Rattle.ax_scope.specs.NameTable.{look, added}
use Rattle.ax_scope.specs.Names.{globals_from}
use Rattle.ax_scope.specs.Faults.{Body, outer_name, outer_fault, body_begun, function_behind, faults_from, faults, AllFalse, NamesFit, IsNameFault}
use Rattle.ax_scope.specs.Answers.{first_fault, FaultIs, Finds, IsFault}
use Rattle.ax_scope.specs.Module.{function_at, functions_in, globals_in, module_of}
use Rattle.ax_scope.proofs.Looks.{look_added}
use Rattle.ax_scope.proofs.Functions.{begun}

-- what stands behind the first line
abbrev pub tail : List Line → List Line
tail ls = take (length ls - 1) (drop 1 ls)

take_whole : (ls : List Line) → take (length ls) ls ≡ ls
take_whole [] = refl
take_whole (l ∷ ls) = ap (λ (xs : List Line). l ∷ xs) (take_whole ls)

pub front_is : (ls : List Line) (l : Line) → 1 ≤ length ls → l ≡ get_or ls 0 l → ls ≡ l ∷ tail ls
front_is [] l h e = absurd (omega arith)
front_is (x ∷ xs) l h e =
    let n : suc (length xs) - 1 ≡ length xs = omega arith in
    ap (λ (y : Line). y ∷ xs) (sym e) ∙ ap (λ (ys : List Line). l ∷ ys) (sym (ap (λ k. take k xs) n ∙ take_whole xs))

module _ (text : List ℕ) (globals : List ℕ → Option Meaning) where
  pub begins : (names new : List (List ℕ)) (rest : List Line) (l : Line) (number : ℕ) (whole : Option ℕ) → 1 ≤ length rest → l ≡ get_or rest 0 l
      → first_fault number (faults_from text globals names None rest) ≡ whole
      → outer_fault text names l ≡ false → new ≡ names ++ option_to_list (outer_name text l)
      → first_fault (number + 1) (faults_from text globals new (body_begun text globals l (tail rest)) (tail rest)) ≡ whole
  begins names new rest l number whole some is before fits adds =
      let after : List (List ℕ) = names ++ option_to_list (outer_name text l) in
      ap (λ (ns : List (List ℕ)). first_fault (number + 1) (faults_from text globals ns (body_begun text globals l (tail rest)) (tail rest))) adds
      ∙ ap (λ (b : Option Body). first_fault (number + 1) (faults_from text globals after b (tail rest))) (sym (begun text globals l (tail rest)))
      ∙ ap (λ t. cond (t || false) (Some number) (first_fault (number + 1) (faults_from text globals after (function_behind text globals None l (tail rest)) (tail rest)))) (sym fits)
      ∙ ap (λ (ls : List Line). first_fault number (faults_from text globals names None ls)) (sym (front_is rest l some is))
      ∙ before

  pub more : (old new : List Function) (rest : List Line) (l : Line) (left : List Line) (whole : List Function) → 1 ≤ length rest → l ≡ get_or rest 0 l
      → old ++ functions_in text globals rest ≡ whole
      → new ++ functions_in text globals left ≡ old ++ (function_at text globals l (tail rest) ++ functions_in text globals (tail rest))
      → new ++ functions_in text globals left ≡ whole
  more old new rest l left whole some is before made =
      made ∙ ap (λ (ls : List Line). old ++ functions_in text globals ls) (sym (front_is rest l some is)) ∙ before

pub errs : (e : ScopeFault) (found whole : Option ℕ) (result : Result (Vec Function) ScopeFault) → FaultIs e found → found ≡ whole → IsErrAnd result (λ y. y ≡ e) → Finds result whole
errs e found whole (Ok v) h is same = absurd same
errs e found whole (Err k) h is same = subst (λ (x : ScopeFault). FaultIs x whole) (sym same) (subst (λ (o : Option ℕ). FaultIs e o) is h)

-- ---- the first fault

pub none_fit : (n : ℕ) (bs : List Bool) → first_fault n bs ≡ None → AllFalse bs
none_fit n [] e = tt
none_fit n (true ∷ bs) e = absurd cc
none_fit n (false ∷ bs) e = (refl, none_fit (n + 1) bs e)

record IsFirst (n k : ℕ) (bs : List Bool) : Type 0 where
  before : List Bool
  behind : List Bool
  whole : bs ≡ before ++ true ∷ behind
  is : k ≡ length before + n
  fit : AllFalse before

first_is : (n k : ℕ) (bs : List Bool) → first_fault n bs ≡ Some k → IsFirst n k bs
first_is n k [] e = absurd cc
first_is n k (true ∷ bs) e = let s : k ≡ n = cc in record { before = []; behind = bs; whole = refl; is = omega arith; fit = tt }
first_is n k (false ∷ bs) e =
    let r = first_is (n + 1) k bs e in
    record { before = false ∷ r.before; behind = r.behind; whole = ap (λ (xs : List Bool). false ∷ xs) r.whole; is = r.is ∙ omega arith; fit = (refl, r.fit) }

module _ (text : List ℕ) (lines : List Line) (scope : List (List ℕ × Meaning)) (are : scope ≡ added [] (globals_from text 0 lines)) where
  same : look scope ≡ look (globals_from text 0 lines)
  same = ap look are ∙ look_added (globals_from text 0 lines)

  pub fit : first_fault 1 (faults_from text (look scope) [] None lines) ≡ None → NamesFit text lines
  fit e = none_fit 1 (faults text lines) (ap (λ (g : List ℕ → Option Meaning). first_fault 1 (faults_from text g [] None lines)) (sym same) ∙ e)

  is_fault : (k : ℕ) → first_fault 1 (faults_from text (look scope) [] None lines) ≡ Some k → IsNameFault text lines k
  is_fault k e =
      let r = first_is 1 k (faults text lines) (ap (λ (g : List ℕ → Option Meaning). first_fault 1 (faults_from text g [] None lines)) (sym same) ∙ e) in
      record { before = r.before; behind = r.behind; whole = r.whole; is = r.is; fit = r.fit }

  fault_of : (e : ScopeFault) → FaultIs e (first_fault 1 (faults_from text (look scope) [] None lines)) → IsFault text lines e
  fault_of (fault.Name k) h = is_fault k h
  fault_of fault.Memory h = tt

  pub faulty : (e : ScopeFault) (result : Result Module ScopeFault) → FaultIs e (first_fault 1 (faults_from text (look scope) [] None lines)) → IsErrAnd result (λ y. y ≡ e)
      → IfErr result (λ y. IsFault text lines y)
  faulty e (Ok m) h eq = absurd eq
  faulty e (Err k) h eq = subst (λ (x : ScopeFault). IsFault text lines x) (sym eq) (fault_of e h)

  pub built : (functions : List Function) → functions ≡ functions_in text (look scope) lines → record { globals = globals_in text lines; functions = functions } ≡ module_of text lines
  built functions e =
      ap (λ (fs : List Function). record { globals = globals_in text lines; functions = fs }) e
      ∙ ap (λ (g : List ℕ → Option Meaning). record { globals = globals_in text lines; functions = functions_in text g lines }) same
