-- A function of a text, by its lines alone.
use Rattle.std.proofs.Common.{◌≡◌, ℕ, ◌+◌, ◌≤◌, true, List, [], ◌∷◌, ◌++◌, length, map, take, drop, Option, Some, None, Result, Ok, Err, sym, ap, subst, ◌∙◌, append_assoc}
use Rattle.std.specs.Prelude.{is_none, IfOk, IsErr, IsErrAnd}
use Rattle.std.specs.Global.{Vec}
use Rattle.std.specs.List.{prefix_len}
use Rattle.ax_module.specs.declared.types.Ty.{Ty}
use Rattle.ax_module.specs.declared.module.Block.{Block}
use Rattle.ax_module.specs.declared.module.Function.{Function}
use Rattle.ax_symbols.specs.declared.symbol.NameSpan.{NameSpan}
use Rattle.ax_lines.specs.declared.statement.Line.{Line}
use Rattle.ax_lines.specs.declared.statement.Line.TheVariants.{Define}
use Rattle.ax_scope.specs.declared.meaning.Meaning.{Meaning}
use Rattle.ax_scope.specs.declared.fault.ScopeFault.{ScopeFault}
use Rattle.ax_scope.specs.declared.fault.ScopeFault.TheVariants as fault
use Rattle.ax_scope.specs.NameTable.{look, added}
use Rattle.ax_scope.specs.Names.{text_at, is_inner, entry_name, values_of, blocks_of}
use Rattle.ax_scope.specs.Resolve.{Looks}
use Rattle.ax_scope.specs.Faults.{Body, looks_of, body_of, body_faults, body_begun, faults_from}
use Rattle.ax_scope.specs.Answers.{first_fault, FaultIs, Finds, Takes}
use Rattle.ax_scope.specs.Module.{result_or, blocks_in, function_at, functions_in}
use Rattle.ax_scope.proofs.Looks.{look_added}
use Rattle.ax_scope.proofs.Functions.{first_behind_none, first_before, faults_split, functions_split, body_len}

-- ---- what the names of a function stand for

module _ (text : List ℕ) (globals : List ℕ → Option Meaning) (ps : List (Ty × NameSpan)) (inside : List Line) where
  pub same_looks : (entry : List ℕ) (values blocks : List (List ℕ × Meaning)) → entry ≡ entry_name text ps
      → values ≡ added [] (values_of text ps inside) → blocks ≡ added [] (blocks_of text entry inside)
      → record { text = text; globals = globals; values = look values; blocks = look blocks } ≡ looks_of text globals ps inside
  same_looks entry values blocks named vs bs =
      let v : look values ≡ look (values_of text ps inside) = ap look vs ∙ look_added (values_of text ps inside) in
      let b : look blocks ≡ look (blocks_of text (entry_name text ps) inside) = ap look bs ∙ look_added (blocks_of text entry inside) ∙ ap (λ (e : List ℕ). look (blocks_of text e inside)) named in
      λ i. record { text = text; globals = globals; values = v i; blocks = b i }

  pub built : (x : Looks) (result : Result (Vec Block) ScopeFault) → x ≡ looks_of text globals ps inside
      → IfOk result (λ v. v.items ≡ blocks_in x inside) → IfOk result (λ v. v.items ≡ blocks_in (looks_of text globals ps inside) inside)
  built x result same h = subst (λ (y : Looks). IfOk result (λ v. v.items ≡ blocks_in y inside)) same h

  pub found : (x : Looks) (entry : List ℕ) (so_far : List (List ℕ)) (start : ℕ) (result : Result (Vec Block) ScopeFault) → x ≡ looks_of text globals ps inside
      → entry ≡ entry_name text ps → so_far ≡ map (λ p. text_at text p.1) ps
      → Finds result (first_fault start (body_faults (record { looks = x; entry = entry; first = true; so_far = so_far }) inside))
      → Finds result (first_fault start (body_faults (body_of text globals ps inside) inside))
  found x entry so_far start result same named params h =
      let b : record { looks = x; entry = entry; first = true; so_far = so_far } ≡ body_of text globals ps inside = λ i. record { looks = same i; entry = named i; first = true; so_far = params i } in
      subst (λ (y : Body). Finds result (first_fault start (body_faults y inside))) b h

-- ---- a function among the lines of a text

module _ (text : List ℕ) (globals : List ℕ → Option Meaning) (f : NameSpan) (r : Option Ty) (ps : List (Ty × NameSpan)) (behind : List Line) (number : ℕ) where
  abbrev inside : List Line
  inside = take (prefix_len is_inner behind) behind

  abbrev left : List Line
  left = drop (prefix_len is_inner behind) behind

  abbrev stands : Option ℕ
  stands = first_fault number (body_faults (body_of text globals ps inside) inside)

  split : (names : List (List ℕ)) → first_fault number (faults_from text globals names (body_begun text globals (Define f r ps) behind) behind)
      ≡ first_fault number (body_faults (body_of text globals ps inside) inside ++ faults_from text globals names None left)
  unfolding body_begun
  split names = ap (first_fault number) (faults_split text globals names (body_of text globals ps inside) behind)

  none : (names : List (List ℕ)) → stands ≡ None → first_fault number (faults_from text globals names (body_begun text globals (Define f r ps) behind) behind)
      ≡ first_fault (number + length inside) (faults_from text globals names None left)
  none names e =
      split names
      ∙ first_behind_none number (body_faults (body_of text globals ps inside) inside) (faults_from text globals names None left) e
      ∙ ap (λ n. first_fault (number + n) (faults_from text globals names None left)) (body_len (body_of text globals ps inside) inside)

  some : (names : List (List ℕ)) (k : ℕ) → stands ≡ Some k → first_fault number (faults_from text globals names (body_begun text globals (Define f r ps) behind) behind) ≡ Some k
  some names k e = split names ∙ first_before number k (body_faults (body_of text globals ps inside) inside) (faults_from text globals names None left) e

  made : (old new : List Function) (function : Function) → new ≡ old ++ function ∷ []
      → function ≡ record { name = text_at text f; result = result_or r; is_void = is_none r; params = map (λ p. p.0) ps; blocks = blocks_in (looks_of text globals ps inside) inside }
      → new ++ functions_in text globals left ≡ old ++ (function_at text globals (Define f r ps) behind ++ functions_in text globals behind)
  unfolding function_at
  made old new function pushed is =
      ap (λ (xs : List Function). xs ++ functions_in text globals left) pushed
      ∙ append_assoc old (function ∷ []) (functions_in text globals left)
      ∙ ap (λ (x : Function). old ++ x ∷ functions_in text globals left) is
      ∙ ap (λ (xs : List Function). old ++ (function_at text globals (Define f r ps) behind ++ xs)) (sym (functions_split text globals behind))

  -- in the words of the code: n lines are taken
  pub taken : (old new : List Function) (function : Function) (n m : ℕ) (lines : List Line) (blocks : List Block) → n ≡ prefix_len is_inner behind → m ≡ n → m ≤ length behind → length inside ≡ m → lines ≡ take n behind
      → first_fault number (body_faults (body_of text globals ps lines) lines) ≡ None → blocks ≡ blocks_in (looks_of text globals ps lines) lines
      → function ≡ record { name = text_at text f; result = result_or r; is_void = is_none r; params = map (λ p. p.0) ps; blocks = blocks }
      → new ≡ old ++ function ∷ []
      → Takes text globals (Define f r ps) behind number old new (Ok m)
  taken old new function n m lines blocks len same within whole front fits says is pushed =
      let l : lines ≡ inside = front ∙ ap (λ k. take k behind) len in
      let e : stands ≡ None = ap (λ (x : List Line). first_fault number (body_faults (body_of text globals ps x) x)) (sym l) ∙ fits in
      let g : function ≡ record { name = text_at text f; result = result_or r; is_void = is_none r; params = map (λ p. p.0) ps; blocks = blocks_in (looks_of text globals ps inside) inside } =
      is ∙ ap (λ (bs : List Block). record { name = text_at text f; result = result_or r; is_void = is_none r; params = map (λ p. p.0) ps; blocks = bs }) (says ∙ ap (λ (x : List Line). blocks_in (looks_of text globals ps x) x) l) in
      let d : m ≡ prefix_len is_inner behind = same ∙ len in (
        within,
        ap (λ k. new ++ functions_in text globals (drop k behind)) d ∙ made old new function pushed g,
        λ names. none names e ∙ ap (λ k. first_fault (number + k) (faults_from text globals names None left)) whole ∙ sym (ap (λ k. first_fault (number + m) (faults_from text globals names None (drop k behind))) d),
      )

  pub missed : (e : ScopeFault) (n : ℕ) (lines : List Line) → n ≡ prefix_len is_inner behind → lines ≡ take n behind
      → FaultIs e (first_fault number (body_faults (body_of text globals ps lines) lines))
      → (names : List (List ℕ)) → FaultIs e (first_fault number (faults_from text globals names (body_begun text globals (Define f r ps) behind) behind))
  missed (fault.Name k) n lines len front h names =
      let l : lines ≡ inside = front ∙ ap (λ k. take k behind) len in
      some names k (ap (λ (x : List Line). first_fault number (body_faults (body_of text globals ps x) x)) (sym l) ∙ h)
  missed fault.Memory n lines len front h names = tt

  pub missed_by : (e : ScopeFault) (n : ℕ) (lines : List Line) (fs : List Function) (result : Result ℕ ScopeFault) → n ≡ prefix_len is_inner behind → lines ≡ take n behind
      → FaultIs e (first_fault number (body_faults (body_of text globals ps lines) lines))
      → IsErr result → IsErrAnd result (λ y. y ≡ e)
      → Takes text globals (Define f r ps) behind number fs fs result
  missed_by e n lines fs (Ok m) len front h is same = absurd same
  missed_by e n lines fs (Err k) len front h is same = missed k n lines len front (subst (λ (x : ScopeFault). FaultIs x (first_fault number (body_faults (body_of text globals ps lines) lines))) (sym same) h)
