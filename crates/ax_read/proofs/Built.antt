-- The blocks of a function's lines, and what its names stand for.
use Rattle.std.proofs.Common.{◌≡◌, ℕ, zero, suc, ◌+◌, ◌^◌, ◌≤◌, arith, Bool, true, false, cond, not, List, [], ◌∷◌, ◌++◌, length, take, flat_map, slice_get, Option, Some, None, is_none, refl, sym, ap, subst, ◌∙◌, one-add, append_assoc, true≢false}
use Rattle.std.specs.List.{prefix_len}
use Rattle.std.specs.Str.{bytes_eq}
use Rattle.std.specs.Option.{option_map, option_to_list}
use Rattle.std.proofs.lemmas.Bool.{false≢true, lt-ltb, or_parts}
use Rattle.std.proofs.lemmas.List.{length-append}
use Rattle.std.proofs.lemmas.Option.{same_Some}
use Rattle.ax_module.specs.declared.types.Ty.{Ty}
use Rattle.ax_module.specs.declared.inst.Inst.{Inst}
use Rattle.ax_module.specs.declared.module.Block.{Block}
use Rattle.ax_module.specs.Kinds.{is_phi, is_terminator, has_result}
use Rattle.ax_module.specs.WellFormed.{NameCounts, is_body, is_order, has_result_at}
use Rattle.ax_symbols.specs.declared.symbol.NameSpan.{NameSpan}
use Rattle.ax_lines.specs.declared.statement.Statement.{Statement}
use Rattle.ax_lines.specs.declared.statement.Statement.TheVariants as statement
use Rattle.ax_lines.specs.declared.statement.Line.{Line}
use Rattle.ax_lines.specs.declared.statement.Line.TheVariants as line
use Rattle.ax_lines.specs.declared.statement.Section.{Section}
use Rattle.ax_lines.specs.declared.statement.Section.TheVariants as section
use Rattle.ax_lines.specs.Productions as lines
use Rattle.ax_lines.specs.Productions.{section_after, section_behind}
use Rattle.ax_scope.specs.declared.meaning.Meaning.{Meaning}
use Rattle.ax_scope.specs.declared.meaning.Meaning.TheVariants as meaning
use Rattle.ax_scope.specs.NameTable.{look}
use Rattle.ax_scope.specs.Names.{is_inner, inside_of, maybe_at, declared, count_some, params_from, result_name, inst_count, results_from, block_name, first_behind, blocks_from}
use Rattle.ax_scope.specs.Resolve.{Looks, inst_of}
use Rattle.ax_scope.specs.Faults.{stated, again, outer_name, outer_fault, Body, body_fault, body_behind, local_names, body_begun, faults_from, AllFalse}
use Rattle.ax_scope.specs.Module.{ends_block, insts_in, empty_block, onto, blocks_in}
use Rattle.ax_read.proofs.Grants.{Each}
use Rattle.ax_read.proofs.Granted.{states_result}
use Rattle.ax_read.proofs.GrantedLines.{may, ResultFits, SoundLine}
use Rattle.ax_read.proofs.Meant.{kind_is, IsValue, IsBlock}

-- each line may stand in its place, from the first place to the second
abbrev pub ChainTo : Section → List Line → Section → Type 0
ChainTo p [] q = p ≡ q
ChainTo p (l ∷ ls) q = (may p l ≡ true) × ChainTo (section_after p l) ls q

-- its names are declared
abbrev pub IsStated : Looks → Line → Type 0
IsStated x l = is_none (stated x l) ≡ false

pub inst_at : (x : Looks) (r : Option NameSpan) (s : Statement) → IsStated x (line.Inst r s) → (i : Inst) × (inst_of x s ≡ Some i) × (stated x (line.Inst r s) ≡ Some (Some i))
unfolding stated
inst_at x r s h = by (inst_of x s) refl h
  where
    by : (o : Option Inst) → inst_of x s ≡ o → is_none (option_map {U = Option Inst} Some o) ≡ false → (i : Inst) × (inst_of x s ≡ Some i) × (option_map {U = Option Inst} Some (inst_of x s) ≡ Some (Some i))
    by None e h = absurd (true≢false h)
    by (Some i) e h = (i, e, ap (option_map {U = Option Inst} Some) e)

-- ---- blocks

abbrev pub Orders : List Block → Type 0
Orders bs = Each (λ (b : Block). is_order b.insts ≡ true) bs

-- the blocks from a place on, the first of which goes on where the place is in one
abbrev pub Shape : Section → List Block → Type 0
Shape section.Outside bs = Unit {0}
Shape section.Ended bs = Orders bs
Shape section.Inside [] = ⊥
Shape section.Inside (b ∷ bs) = (is_body b.insts ≡ true) × Orders bs
Shape section.Start [] = ⊥
Shape section.Start (b ∷ bs) = (is_order b.insts ≡ true) × Orders bs
Shape section.Phis [] = ⊥
Shape section.Phis (b ∷ bs) = (is_order b.insts ≡ true) × Orders bs

abbrev is_start : Section → Bool
is_start section.Start = true
is_start _ = false

-- the blocks that are begun
abbrev owed : Section → ℕ
owed section.Phis = 1
owed section.Inside = 1
owed _ = 0

abbrev may_inst : Section → Bool → Bool
may_inst section.Start f = true
may_inst section.Phis f = true
may_inst section.Inside f = not f
may_inst _ f = false

abbrev pub insts_all : Looks → List Line → List Inst
insts_all x [] = []
insts_all x (l ∷ ls) = insts_in (stated x l) ++ insts_all x ls

abbrev pub block_count : List ℕ → List ℕ → Bool → List Line → ℕ
block_count text entry first [] = 0
block_count text entry first (l ∷ ls) = count_some (block_name text entry first l) + block_count text entry (first_behind first l) ls

abbrev pub flat : List Block → List Inst
flat bs = flat_map (λ (b : Block). b.insts) bs

order_phi : (i : Inst) (insts : List Inst) → is_phi i ≡ true → is_order insts ≡ true → is_order (i ∷ insts) ≡ true
order_phi i insts e h = rw (e, one-add) h

order_body : (i : Inst) (insts : List Inst) → is_phi i ≡ false → is_body (i ∷ insts) ≡ true → is_order (i ∷ insts) ≡ true
order_body i insts e h = rw e h

body_end : (i : Inst) → is_terminator i ≡ true → is_body (i ∷ []) ≡ true
body_end i e = rw e refl

body_more : (i : Inst) (insts : List Inst) → is_terminator i ≡ false → is_phi i ≡ false → is_body insts ≡ true → is_body (i ∷ insts) ≡ true
body_more i insts t f h = rw (t, f, h) refl

onto_same : (bs : List Block) → onto [] bs ≡ bs
onto_same [] = refl
onto_same (b ∷ bs) = refl

abbrev Step : Section → ℕ → List Inst → List Block → Type 0
Step p n insts bs = Shape p bs × (owed p + n ≡ length bs) × (flat bs ≡ insts)

abbrev place_of : Bool → Bool → Section
place_of t f = cond t section.Ended (cond f section.Phis section.Inside)

inst_step : (p : Section) (i : Inst) (t f : Bool) (bs : List Block) (n : ℕ) (insts : List Inst) (entry : List ℕ) → is_terminator i ≡ t → is_phi i ≡ f → (t ≡ true → f ≡ false) → may_inst p f ≡ true
    → Step (place_of t f) n insts bs → Step p (count_some (cond (is_start p) (Some entry) None) + n) (i ∷ insts) (onto (i ∷ []) (cond t (empty_block ∷ bs) bs))
inst_step p i true true bs n insts entry t f x m h = absurd (true≢false (x refl))
inst_step section.Start i true false bs n insts entry t f x m h = ((order_body i [] f (body_end i t), h.0), omega (arith, h.1), ap (λ (xs : List Inst). i ∷ xs) h.2)
inst_step section.Phis i true false bs n insts entry t f x m h = ((order_body i [] f (body_end i t), h.0), omega (arith, h.1), ap (λ (xs : List Inst). i ∷ xs) h.2)
inst_step section.Inside i true false bs n insts entry t f x m h = ((body_end i t, h.0), omega (arith, h.1), ap (λ (xs : List Inst). i ∷ xs) h.2)
inst_step _ i true false bs n insts entry t f x m h = absurd (false≢true m)
inst_step p i false true [] n insts entry t f x m h = absurd h.0
inst_step section.Start i false true (b ∷ bs) n insts entry t f x m h = ((order_phi i b.insts f h.0.0, h.0.1), omega (arith, h.1), ap (λ (xs : List Inst). i ∷ xs) h.2)
inst_step section.Phis i false true (b ∷ bs) n insts entry t f x m h = ((order_phi i b.insts f h.0.0, h.0.1), omega (arith, h.1), ap (λ (xs : List Inst). i ∷ xs) h.2)
inst_step _ i false true (b ∷ bs) n insts entry t f x m h = absurd (false≢true m)
inst_step p i false false [] n insts entry t f x m h = absurd h.0
inst_step section.Start i false false (b ∷ bs) n insts entry t f x m h = ((order_body i b.insts f (body_more i b.insts t f h.0.0), h.0.1), omega (arith, h.1), ap (λ (xs : List Inst). i ∷ xs) h.2)
inst_step section.Phis i false false (b ∷ bs) n insts entry t f x m h = ((order_body i b.insts f (body_more i b.insts t f h.0.0), h.0.1), omega (arith, h.1), ap (λ (xs : List Inst). i ∷ xs) h.2)
inst_step section.Inside i false false (b ∷ bs) n insts entry t f x m h = ((body_more i b.insts t f h.0.0, h.0.1), omega (arith, h.1), ap (λ (xs : List Inst). i ∷ xs) h.2)
inst_step _ i false false (b ∷ bs) n insts entry t f x m h = absurd (false≢true m)

no_phi : (s : Statement) → lines.is_terminator s ≡ true → lines.is_phi s ≡ false
unfolding lines.is_terminator lines.is_phi
no_phi (statement.Phi t ps) e = absurd (false≢true e)
no_phi _ e = refl

may_state : (p : Section) (r : Option NameSpan) (s : Statement) → may p (line.Inst r s) ≡ true → may_inst p (lines.is_phi s) ≡ true
may_state section.Start r s h = refl
may_state section.Phis r s h = refl
may_state section.Inside r s h = h
may_state _ r s h = absurd (false≢true h)

label_shape : (p : Section) (n : NameSpan) (bs : List Block) → may p (line.Label n) ≡ true → Shape section.Phis bs → Shape p bs
label_shape p n [] m h = absurd h
label_shape section.Start n (b ∷ bs) m h = h
label_shape section.Ended n (b ∷ bs) m h = h
label_shape _ n (b ∷ bs) m h = absurd (false≢true m)

label_owed : (p : Section) (n : NameSpan) → may p (line.Label n) ≡ true → owed p ≡ 0
label_owed section.Start n m = refl
label_owed section.Ended n m = refl
label_owed _ n m = absurd (false≢true m)

not_start : (t f : Bool) → is_start (place_of t f) ≡ false
not_start true f = refl
not_start false true = refl
not_start false false = refl

module _ (text entry : List ℕ) (x : Looks) where
  abbrev pub Built : Section → List Line → Type 0
  Built p ls = Step p (block_count text entry (is_start p) ls) (insts_all x ls) (blocks_in x ls)

  built_end : (p : Section) → p ≡ section.Ended → Built p []
  built_end p e = subst (λ (q : Section). Built q []) (sym e) (tt, refl, refl)

  built_nothing : (p : Section) (ls : List Line) → Built p ls → Built p (line.Nothing ∷ ls)
  unfolding stated ends_block block_name first_behind
  built_nothing p ls h =
      let s : Step p (block_count text entry (is_start p) ls) (insts_all x ls) (onto [] (blocks_in x ls)) = subst (λ (bs : List Block). Step p (block_count text entry (is_start p) ls) (insts_all x ls) bs) (sym (onto_same (blocks_in x ls))) h in
      (s.0, omega (arith, s.1), s.2)

  built_label : (p : Section) (n : NameSpan) (ls : List Line) → may p (line.Label n) ≡ true → Built section.Phis ls → Built p (line.Label n ∷ ls)
  unfolding stated ends_block block_name first_behind
  built_label p n ls m h =
      let s : Step section.Phis (block_count text entry false ls) (insts_all x ls) (onto [] (blocks_in x ls)) = subst (λ (bs : List Block). Step section.Phis (block_count text entry false ls) (insts_all x ls) bs) (sym (onto_same (blocks_in x ls))) h in
      (label_shape p n (onto [] (blocks_in x ls)) m s.0, omega (arith, s.1, label_owed p n m), s.2)

  built_inst : (p : Section) (r : Option NameSpan) (s : Statement) (ls : List Line) → may p (line.Inst r s) ≡ true → IsStated x (line.Inst r s) → Built (section_behind s) ls → Built p (line.Inst r s ∷ ls)
  unfolding ends_block block_name first_behind
  built_inst p r s ls m g h =
      let k = inst_at x r s g in
      let kinds = (kind_is x s).holds k.0 k.1 in
      let n : ℕ = block_count text entry false ls in
      let counted : Step (section_behind s) n (insts_all x ls) (blocks_in x ls) = subst (λ (b : Bool). Step (section_behind s) (block_count text entry b ls) (insts_all x ls) (blocks_in x ls)) (not_start (lines.is_terminator s) (lines.is_phi s)) h in
      let step = inst_step p k.0 (lines.is_terminator s) (lines.is_phi s) (blocks_in x ls) n (insts_all x ls) entry kinds.1 kinds.0 (no_phi s) (may_state p r s m) counted in
      subst (λ (o : Option (Option Inst)). Step p (count_some (cond (is_start p) (Some entry) None) + n) (insts_in o ++ insts_all x ls) (onto (insts_in o) (cond (lines.is_terminator s) (empty_block ∷ blocks_in x ls) (blocks_in x ls)))) (sym k.2) step

  pub built : (p : Section) (ls : List Line) → ChainTo p ls section.Ended → Each (λ l. is_inner l ≡ true) ls → Each (IsStated x) ls → Built p ls
  unfolding section_after is_inner
  built p [] c n g = built_end p c
  built p (line.Nothing ∷ ls) c n g = built_nothing p ls (built p ls c.1 n.1 g.1)
  built p (line.Label l ∷ ls) c n g = built_label p l ls c.0 (built section.Phis ls c.1 n.1 g.1)
  built p (line.Inst r s ∷ ls) c n g = built_inst p r s ls c.0 g.0 (built (section_behind s) ls c.1 n.1 g.1)
  built p (line.Close ∷ ls) c n g = absurd (false≢true n.0)
  built p (line.Global l t k vs a ∷ ls) c n g = absurd (false≢true n.0)
  built p (line.Define f r ps ∷ ls) c n g = absurd (false≢true n.0)

-- ---- the lines of a function

abbrev pub is_outside : Section → Bool
is_outside section.Outside = true
is_outside _ = false

not_outside : (t f : Bool) → is_outside (place_of t f) ≡ false
not_outside true f = refl
not_outside false true = refl
not_outside false false = refl

close_ended : (p : Section) → may p line.Close ≡ true → p ≡ section.Ended
close_ended section.Ended m = refl
close_ended _ m = absurd (false≢true m)

pub inside_chain : (p : Section) (ls : List Line) → is_outside p ≡ false → ChainTo p ls section.Outside → ChainTo p (inside_of ls) section.Ended × Each (λ l. is_inner l ≡ true) (inside_of ls)
unfolding section_after is_inner
inside_chain p [] o c = absurd (true≢false (ap is_outside (sym c) ∙ o))
inside_chain p (line.Nothing ∷ ls) o c = let h = inside_chain p ls o c.1 in rw one-add ((c.0, h.0), (refl, h.1))
inside_chain p (line.Label l ∷ ls) o c = let h = inside_chain section.Phis ls refl c.1 in rw one-add ((c.0, h.0), (refl, h.1))
inside_chain p (line.Inst r s ∷ ls) o c = let h = inside_chain (section_behind s) ls (not_outside (lines.is_terminator s) (lines.is_phi s)) c.1 in rw one-add ((c.0, h.0), (refl, h.1))
inside_chain p (line.Close ∷ ls) o c = (close_ended p c.0, tt)
inside_chain section.Outside (line.Global l t k vs a ∷ ls) o c = absurd (true≢false o)
inside_chain _ (line.Global l t k vs a ∷ ls) o c = absurd (false≢true c.0)
inside_chain section.Outside (line.Define f r ps ∷ ls) o c = absurd (true≢false o)
inside_chain _ (line.Define f r ps ∷ ls) o c = absurd (false≢true c.0)

pub each_take : {A : Type 0} (P : A → Type 0) (n : ℕ) (xs : List A) → Each P xs → Each P (take n xs)
each_take P zero xs h = tt
each_take P (suc n) [] h = tt
each_take P (suc n) (x ∷ xs) h = (h.0, each_take P n xs h.1)

module _ (text : List ℕ) (globals : List ℕ → Option Meaning) where
  pub inside_stated : (names : List (List ℕ)) (b : Body) (ls : List Line) → AllFalse (faults_from text globals names (Some b) ls) → Each (IsStated b.looks) (inside_of ls)
  inside_stated names b [] h = tt
  inside_stated names b (l ∷ ls) h = by (is_inner l) (or_parts (outer_fault text names l) (body_fault b l) h.0).1 h.1 (λ g. inside_stated (names ++ option_to_list (outer_name text l)) (body_behind b l) ls g)
    where
      by : (t : Bool) → body_fault b l ≡ false
          → AllFalse (faults_from text globals (names ++ option_to_list (outer_name text l)) (cond t (Some (body_behind b l)) (body_begun text globals l ls)) ls)
          → (AllFalse (faults_from text globals (names ++ option_to_list (outer_name text l)) (Some (body_behind b l)) ls) → Each (IsStated b.looks) (inside_of ls))
          → Each (IsStated b.looks) (take (cond t (1 + prefix_len is_inner ls) 0) (l ∷ ls))
      by true f h more = rw one-add ((or_parts (again b.so_far (local_names b l)) (is_none (stated b.looks l)) f).1, more h)
      by false f h more = tt

-- ---- what names stand for

pub look_each : (P : Meaning → Type 0) (es : List (List ℕ × Meaning)) (name : List ℕ) (m : Meaning) → Each (λ (e : List ℕ × Meaning). P e.1) es → look es name ≡ Some m → P m
look_each P [] name m h e = absurd cc
look_each P (d ∷ es) name m h e = by (bytes_eq name d.0) e (λ f. look_each P es name m h.1 f)
  where
    by : (t : Bool) → cond t (Some d.1) (look es name) ≡ Some m → (look es name ≡ Some m → P m) → P m
    by true e more = subst P (same_Some d.1 m e) h.0
    by false e more = more e

abbrev Entry : (Meaning → Type 0) → List ℕ × Meaning → Type 0
Entry P e = P e.1

slice_get_at : (pre : List Inst) (i : Inst) (rest : List Inst) → slice_get (pre ++ i ∷ rest) (length pre) ≡ Some i
slice_get_at [] i rest = refl
slice_get_at (j ∷ pre) i rest = slice_get_at pre i rest

module _ (scope : NameCounts) (text : List ℕ) (x : Looks) where
  pub params_fit : (k : ℕ) (ps : List (Ty × NameSpan)) → k + length ps ≤ scope.params → Each (Entry (IsValue scope)) (params_from text k ps)
  params_fit k [] h = tt
  params_fit k (p ∷ ps) h = (lt-ltb k scope.params (omega (arith, h)), params_fit (k + 1) ps (omega (arith, h)))

  pub blocks_fit : (entry : List ℕ) (first : Bool) (k : ℕ) (ls : List Line) → k + block_count text entry first ls ≤ scope.blocks → Each (Entry (IsBlock scope)) (blocks_from text entry first k ls)
  blocks_fit entry first k [] h = tt
  blocks_fit entry first k (l ∷ ls) h = by (block_name text entry first l) h (λ j g. blocks_fit entry (first_behind first l) j ls g)
    where
      by : (o : Option (List ℕ)) → k + (count_some o + block_count text entry (first_behind first l) ls) ≤ scope.blocks
          → ((j : ℕ) → j + block_count text entry (first_behind first l) ls ≤ scope.blocks → Each (Entry (IsBlock scope)) (blocks_from text entry (first_behind first l) j ls))
          → Each (Entry (IsBlock scope)) (declared o (meaning.Block k) ++ blocks_from text entry (first_behind first l) (k + count_some o) ls)
      by None h more = more (k + 0) (omega (arith, h))
      by (Some name) h more = (lt-ltb k scope.blocks (omega (arith, h)), more (k + 1) (omega (arith, h)))

  value_at : (pre : List Inst) (k : ℕ) (i : Inst) (rest : List Inst) → length pre ≡ k → scope.insts ≡ pre ++ i ∷ rest → has_result i ≡ true → IsValue scope (meaning.Value k)
  value_at pre k i rest long whole h = ap has_result_at (ap (λ (is : List Inst). slice_get is k) whole ∙ ap (slice_get (pre ++ i ∷ rest)) (sym long) ∙ slice_get_at pre i rest) ∙ h

  pub results_fit : (pre : List Inst) (k : ℕ) (ls : List Line) → length pre ≡ k → Each (IsStated x) ls → Each (SoundLine text) ls → scope.insts ≡ pre ++ insts_all x ls → Each (Entry (IsValue scope)) (results_from text k ls)
  unfolding result_name inst_count stated
  results_fit pre k [] long g s whole = tt
  results_fit pre k (line.Inst r st ∷ ls) long g s whole =
      let i = inst_at x r st g.0 in
      let w : scope.insts ≡ pre ++ i.0 ∷ insts_all x ls = whole ∙ ap (λ (o : Option (Option Inst)). pre ++ (insts_in o ++ insts_all x ls)) i.2 in
      let kinds = (kind_is x st).holds i.0 i.1 in
      let more = results_fit (pre ++ i.0 ∷ []) (k + 1) ls (omega (arith, length-append pre (i.0 ∷ []), long)) g.1 s.1 (w ∙ sym (append_assoc pre (i.0 ∷ []) (insts_all x ls))) in
      by r s.0.1 (λ h. value_at pre k i.0 (insts_all x ls) long w (kinds.2 ∙ h)) more
    where
      by : (r : Option NameSpan) → ResultFits r st → (states_result st ≡ true → IsValue scope (meaning.Value k)) → Each (Entry (IsValue scope)) (results_from text (k + 1) ls) → Each (Entry (IsValue scope)) (declared (maybe_at text r) (meaning.Value k) ++ results_from text (k + 1) ls)
      by None f v more = more
      by (Some r) f v more = (v f, more)
  results_fit pre k (_ ∷ ls) long g s whole = results_fit pre (k + 0) ls (omega (arith, long)) g.1 s.1 whole
