-- The lines of a function among those of a text.
use Rattle.std.proofs.Common.{◌≡◌, ℕ, suc, ◌+◌, Bool, true, false, cond, List, [], ◌∷◌, ◌++◌, length, take, drop, Option, Some, None, refl, sym, ap, ◌∙◌, arith, one-add, true≢false}
use Rattle.std.proofs.lemmas.List.{append-nil}
use Rattle.std.proofs.lemmas.Bool.{false≢true}
use Rattle.std.specs.Prelude.{◌||◌}
use Rattle.std.specs.Option.{option_to_list}
use Rattle.std.specs.List.{prefix_len}
use Rattle.ax_module.specs.declared.module.Function.{Function}
use Rattle.ax_lines.specs.declared.statement.Line.{Line}
use Rattle.ax_lines.specs.declared.statement.Line.TheVariants as line
use Rattle.ax_scope.specs.declared.meaning.Meaning.{Meaning}
use Rattle.ax_scope.specs.Names.{is_inner, block_name, result_name}
use Rattle.ax_scope.specs.Faults.{Body, outer_name, param_names, is_reserved, outer_fault, body_fault, body_behind, body_faults, body_begun, function_behind, faults_from, stated}
use Rattle.ax_scope.specs.Answers.{first_fault}
use Rattle.ax_scope.specs.Module.{function_at, functions_in}

-- ---- first faults

pub first_behind_none : (n : ℕ) (xs ys : List Bool) → first_fault n xs ≡ None → first_fault n (xs ++ ys) ≡ first_fault (n + length xs) ys
first_behind_none n [] ys none = ap (λ k. first_fault k ys) (omega arith)
first_behind_none n (x ∷ xs) ys none = by x (first_behind_none (n + 1) xs ys) none
  where
    by : (t : Bool) → (first_fault (n + 1) xs ≡ None → first_fault (n + 1) (xs ++ ys) ≡ first_fault (n + 1 + length xs) ys) → cond t (Some n) (first_fault (n + 1) xs) ≡ None → cond t (Some n) (first_fault (n + 1) (xs ++ ys)) ≡ first_fault (n + suc (length xs)) ys
    by true more none = absurd cc
    by false more none = more none ∙ ap (λ k. first_fault k ys) (omega arith)

pub first_before : (n k : ℕ) (xs ys : List Bool) → first_fault n xs ≡ Some k → first_fault n (xs ++ ys) ≡ Some k
first_before n k [] ys found = absurd cc
first_before n k (x ∷ xs) ys found = by x (first_before (n + 1) k xs ys) found
  where
    by : (t : Bool) → (first_fault (n + 1) xs ≡ Some k → first_fault (n + 1) (xs ++ ys) ≡ Some k) → cond t (Some n) (first_fault (n + 1) xs) ≡ Some k → cond t (Some n) (first_fault (n + 1) (xs ++ ys)) ≡ Some k
    by true more found = found
    by false more found = more found

-- ---- lines in a function declare nothing outside it

inner_outer : (text : List ℕ) (names : List (List ℕ)) (l : Line) → is_inner l ≡ true → outer_fault text names l ≡ false
unfolding is_inner is_reserved outer_name param_names
inner_outer text names line.Nothing e = refl
inner_outer text names (line.Label n) e = refl
inner_outer text names (line.Inst r s) e = refl
inner_outer text names (line.Global g t c vs a) e = absurd (false≢true e)
inner_outer text names (line.Define f r ps) e = absurd (false≢true e)
inner_outer text names line.Close e = absurd (false≢true e)

inner_names : (text : List ℕ) (names : List (List ℕ)) (l : Line) → is_inner l ≡ true → names ++ option_to_list (outer_name text l) ≡ names
unfolding is_inner outer_name
inner_names text names line.Nothing e = append-nil names
inner_names text names (line.Label n) e = append-nil names
inner_names text names (line.Inst r s) e = append-nil names
inner_names text names (line.Global g t c vs a) e = absurd (false≢true e)
inner_names text names (line.Define f r ps) e = absurd (false≢true e)
inner_names text names line.Close e = absurd (false≢true e)

inner_function : (text : List ℕ) (globals : List ℕ → Option Meaning) (l : Line) (ls : List Line) → is_inner l ≡ true → function_at text globals l ls ≡ []
unfolding is_inner function_at
inner_function text globals line.Nothing ls e = refl
inner_function text globals (line.Label n) ls e = refl
inner_function text globals (line.Inst r s) ls e = refl
inner_function text globals (line.Global g t c vs a) ls e = refl
inner_function text globals (line.Define f r ps) ls e = absurd (false≢true e)
inner_function text globals line.Close ls e = refl

-- ---- lines outside functions state nothing in one

outer_inner : (b : Body) (l : Line) → is_inner l ≡ false → body_fault b l ≡ false
unfolding is_inner block_name result_name stated
outer_inner b line.Nothing e = absurd (true≢false e)
outer_inner b (line.Label n) e = absurd (true≢false e)
outer_inner b (line.Inst r s) e = absurd (true≢false e)
outer_inner b (line.Global g t c vs a) e = refl
outer_inner b (line.Define f r ps) e = refl
outer_inner b line.Close e = refl

-- no function begins at a line in a function
pub begun : (text : List ℕ) (globals : List ℕ → Option Meaning) (l : Line) (ls : List Line) → function_behind text globals None l ls ≡ body_begun text globals l ls
unfolding is_inner body_begun
begun text globals line.Nothing ls = refl
begun text globals (line.Label n) ls = refl
begun text globals (line.Inst r s) ls = refl
begun text globals (line.Global g t c vs a) ls = refl
begun text globals (line.Define f r ps) ls = refl
begun text globals line.Close ls = refl

-- ---- the lines of a function

module _ (text : List ℕ) (globals : List ℕ → Option Meaning) where
  outer_from : (names : List (List ℕ)) (b : Body) (l : Line) (ls : List Line) (t : Bool) → is_inner l ≡ t → t ≡ false
      → faults_from text globals names (Some b) (l ∷ ls) ≡ faults_from text globals names None (l ∷ ls)
  outer_from names b l ls t e f =
      ap (λ i. (outer_fault text names l || i) ∷ faults_from text globals (names ++ option_to_list (outer_name text l)) (function_behind text globals (Some b) l ls) ls) (outer_inner b l (e ∙ f))
      ∙ ap (λ (o : Option Body). (outer_fault text names l || false) ∷ faults_from text globals (names ++ option_to_list (outer_name text l)) o ls)
      (ap (λ i. cond i (Some (body_behind b l)) (body_begun text globals l ls)) (e ∙ f) ∙ sym (ap (λ (i : Bool). cond {A = Option Body} i None (body_begun text globals l ls)) (e ∙ f)))

  inner_from : (names : List (List ℕ)) (b : Body) (l : Line) (ls : List Line) → is_inner l ≡ true
      → faults_from text globals names (Some b) (l ∷ ls) ≡ body_fault b l ∷ faults_from text globals names (Some (body_behind b l)) ls
  inner_from names b l ls e =
      ap (λ o. (o || body_fault b l) ∷ faults_from text globals (names ++ option_to_list (outer_name text l)) (function_behind text globals (Some b) l ls) ls) (inner_outer text names l e)
      ∙ ap (λ (ns : List (List ℕ)). body_fault b l ∷ faults_from text globals ns (function_behind text globals (Some b) l ls) ls) (inner_names text names l e)
      ∙ ap (λ i. body_fault b l ∷ faults_from text globals names (cond i (Some (body_behind b l)) (body_begun text globals l ls)) ls) e

  pub faults_split : (names : List (List ℕ)) (b : Body) (ls : List Line)
      → faults_from text globals names (Some b) ls ≡ body_faults b (take (prefix_len is_inner ls) ls) ++ faults_from text globals names None (drop (prefix_len is_inner ls) ls)
  faults_split names b [] = refl
  faults_split names b (l ∷ ls) = by (is_inner l) refl (faults_split names (body_behind b l) ls)
    where
      by : (t : Bool) → is_inner l ≡ t
          → faults_from text globals names (Some (body_behind b l)) ls ≡ body_faults (body_behind b l) (take (prefix_len is_inner ls) ls) ++ faults_from text globals names None (drop (prefix_len is_inner ls) ls)
          → faults_from text globals names (Some b) (l ∷ ls)
          ≡ body_faults b (take (cond t (1 + prefix_len is_inner ls) 0) (l ∷ ls)) ++ faults_from text globals names None (drop (cond t (1 + prefix_len is_inner ls) 0) (l ∷ ls))
      by true e more = inner_from names b l ls e ∙ ap (λ (bs : List Bool). body_fault b l ∷ bs) more ∙ (rw one-add refl)
      by false e more = outer_from names b l ls false e refl

  pub functions_split : (ls : List Line) → functions_in text globals ls ≡ functions_in text globals (drop (prefix_len is_inner ls) ls)
  functions_split [] = refl
  functions_split (l ∷ ls) = by (is_inner l) refl (functions_split ls)
    where
      by : (t : Bool) → is_inner l ≡ t → functions_in text globals ls ≡ functions_in text globals (drop (prefix_len is_inner ls) ls) → functions_in text globals (l ∷ ls) ≡ functions_in text globals (drop (cond t (1 + prefix_len is_inner ls) 0) (l ∷ ls))
      by true e more = ap (λ (fs : List Function). fs ++ functions_in text globals ls) (inner_function text globals l ls e) ∙ more ∙ (rw one-add refl)
      by false e more = refl

pub body_len : (b : Body) (ls : List Line) → length (body_faults b ls) ≡ length ls
body_len b [] = refl
body_len b (l ∷ ls) = ap suc (body_len (body_behind b l) ls)
