-- The canonical text derives its module.
use Rattle.std.proofs.Common.{◌≡◌, ℕ, ◌+◌, ◌-◌, ◌^◌, ◌<◌, arith, Bool, true, false, cond, not, ◌&&◌, List, [], ◌∷◌, ◌++◌, length, map, flat_map, Option, Some, None, refl, sym, ap, ap₂, subst, ◌∙◌, true≢false}
use Rattle.std.specs.Prelude.{is_none}
use Rattle.std.specs.List.{list_all, list_any}
use Rattle.std.specs.Str.{bytes_eq}
use Rattle.std.proofs.lemmas.Bool.{and_parts, or_parts, or_from, not-true}
use Rattle.ax_module.specs.declared.types.Ty.{Ty}
use Rattle.ax_module.specs.declared.types.Ty.TheVariants as ty
use Rattle.ax_module.specs.declared.operand.Operand.{Operand}
use Rattle.ax_module.specs.declared.module.Global.{Global}
use Rattle.ax_module.specs.declared.module.Block.{Block}
use Rattle.ax_module.specs.declared.module.Function.{Function}
use Rattle.ax_module.specs.declared.module.Module.{Module}
use Rattle.ax_ir.specs.Canonical.{line_text, function_lines, global_line, names_tokens, module_lines, module_text}
use Rattle.ax_module.specs.WellFormed.{is_count, is_function_counted, is_function_name, is_type, is_bit, is_nonempty, is_inst, is_order, is_block, is_function, is_global, scope_of, all_differ, names_of, IsModule}
use Rattle.ax_module.specs.Ranges.{is_function_in_range, is_global_in_range}
use Rattle.ax_lex.specs.Written.{tokens_at}
use Rattle.ax_symbols.specs.declared.symbol.NameSpan.{NameSpan}
use Rattle.ax_symbols.specs.declared.symbol.Symbol.{Symbol}
use Rattle.ax_lines.specs.declared.statement.Line.{Line}
use Rattle.ax_lines.specs.declared.statement.Line.TheVariants as line
use Rattle.ax_lines.specs.Lines.{AreLines}
use Rattle.ax_scope.specs.declared.meaning.Meaning.{Meaning}
use Rattle.ax_scope.specs.declared.meaning.Meaning.TheVariants as meaning
use Rattle.ax_scope.specs.NameTable.{look, is_among}
use Rattle.ax_scope.specs.Names.{text_at, is_inner, inside_of, global_name, count_some, declared, globals_from}
use Rattle.ax_scope.specs.Resolve.{Looks}
use Rattle.ax_scope.specs.Faults.{again, looks_of, faults_from, AllFalse}
use Rattle.ax_scope.specs.Module.{blocks_in, result_or, function_at, functions_in, global_at, globals_in}
use Rattle.ax_scope.proofs.Functions.{functions_split}
use Rattle.ax_read.specs.Derivation.{Derives}
use Rattle.ax_read.proofs.NamesDiffer.{differ_sym}
use Rattle.ax_again.specs.Pieces.{pieces_of}
use Rattle.ax_again.specs.Places.{lines_at}
use Rattle.ax_again.proofs.LineTokens.{module_fit, tokens_again}
use Rattle.ax_again.proofs.Split.{lines_again}
use Rattle.ax_again.proofs.EatOuter.{AreParams, IsHead}
use Rattle.ax_again.proofs.EatGlobals.{IsGlobalLine}
use Rattle.ax_again.proofs.SpelledLines.{module_spelled}
use Rattle.ax_again.proofs.StatedLines.{AreBlocks, Closes, AreFunctions, AreGlobals, KnownEach, can_globals, can_looks, functions_eaten, globals_eaten}
use Rattle.ax_again.proofs.KnownNames.{known_is, differ_front}
use Rattle.ax_again.proofs.Tables.{Nil, split_body, inner_blocks, inside_front, blocks_again}
use Rattle.ax_again.proofs.NoFaults.{Fits, FitEach, among_more, drop_front, looks_are, functions_fit, globals_fit}
use Rattle.ax_again.proofs.Bounds.{fits_each}

-- ---- names that differ

NoneOf : List (List ℕ) → List (List ℕ) → Type 0
NoneOf s [] = Unit {0}
NoneOf s (n ∷ ns) = (is_among n s ≡ false) × NoneOf s ns

none_more : (s : List (List ℕ)) (n : List ℕ) (ns : List (List ℕ)) → NoneOf s ns → list_any (bytes_eq n) ns ≡ false → NoneOf (s ++ n ∷ []) ns
unfolding NoneOf
none_more s n [] h g = tt
none_more s n (m ∷ ns) h g =
    let a = or_parts (bytes_eq n m) (list_any (bytes_eq n) ns) g in
    (among_more m s n h.0 (differ_sym n m a.0), none_more s n ns h.1 a.1)

again_of : (s ns : List (List ℕ)) → NoneOf s ns → all_differ ns ≡ true → again s ns ≡ false
unfolding NoneOf
again_of s [] h d = refl
again_of s (n ∷ ns) h d =
    let a = and_parts (not (list_any (bytes_eq n) ns)) (all_differ ns) d in
    or_from (is_among n s) (again (s ++ n ∷ []) ns) h.0 (again_of (s ++ n ∷ []) ns (none_more s n ns h.1 (not-true _ a.0)) a.1)

none_first : (ns : List (List ℕ)) → NoneOf [] ns
unfolding NoneOf
none_first [] = tt
none_first (n ∷ ns) = (refl, none_first ns)

-- ---- globals

module _ (text : List ℕ) where
  abbrev made_global : Global → List ℕ → List Operand → List Global
  made_global g n vs = record { name = n; elem = g.elem; count = g.count; align = g.align; init = vs } ∷ []

  global_is : (g : Global) (l : Line) → IsGlobalLine text g l → global_at text l ≡ g ∷ []
  unfolding global_at
  global_is g l q = ap (global_at text) q.line ∙ ap₂ (made_global g) q.name_is q.values_are

  global_named : (k : ℕ) (g : Global) (l : Line) (ls : List Line) → IsGlobalLine text g l → globals_from text k (l ∷ ls) ≡ (g.name, meaning.Global k) ∷ globals_from text (k + 1) ls
  unfolding global_name
  global_named k g l ls q = ap (λ (m : Line). globals_from text k (m ∷ ls)) q.line ∙ ap (λ (n : List ℕ). (n, meaning.Global k) ∷ globals_from text (k + 1) ls) q.name_is

  globals_again : (hs : List Global) (K : List Line → Type 0) (ls : List Line) → ((ls : List Line) → K ls → globals_in text ls ≡ []) → AreGlobals text hs K ls → globals_in text ls ≡ hs
  globals_again [] K ls f h = f ls h
  globals_again (g ∷ hs) K [] f h = absurd h
  globals_again (g ∷ hs) K (l ∷ ls) f h = ap₂ (λ (xs ys : List Global). xs ++ ys) (global_is g l h.0) (globals_again hs K ls f h.1)

  from_again : (k : ℕ) (hs : List Global) (K : List Line → Type 0) (ls : List Line) → ((k : ℕ) (ls : List Line) → K ls → globals_from text k ls ≡ []) → AreGlobals text hs K ls → globals_from text k ls ≡ can_globals k hs
  from_again k [] K ls f h = f k ls h
  from_again k (g ∷ hs) K [] f h = absurd h
  from_again k (g ∷ hs) K (l ∷ ls) f h = global_named k g l ls h.0 ∙ ap (λ (es : List (List ℕ × Meaning)). (g.name, meaning.Global k) ∷ es) (from_again (k + 1) hs K ls f h.1)

  functions_behind : (G : List ℕ → Option Meaning) (hs : List Global) (K : List Line → Type 0) (fs : List Function) (ls : List Line) → ((ls : List Line) → K ls → functions_in text G ls ≡ fs) → AreGlobals text hs K ls → functions_in text G ls ≡ fs
  unfolding function_at
  functions_behind G [] K fs ls f h = f ls h
  functions_behind G (g ∷ hs) K fs [] f h = absurd h
  functions_behind G (g ∷ hs) K fs (l ∷ ls) f h = ap (λ (m : Line). function_at text G m ls ++ functions_in text G ls) (h.0).line ∙ functions_behind G hs K fs ls f h.1

  -- ---- no global stands behind the functions' first line

  inner_global : (l : Line) → is_inner l ≡ true → global_at text l ≡ []
  unfolding is_inner global_at
  inner_global line.Nothing e = refl
  inner_global (line.Label n) e = refl
  inner_global (line.Inst r s) e = refl
  inner_global (line.Global g t c vs a) e = absurd (true≢false (sym e))
  inner_global (line.Define f r ps) e = refl
  inner_global line.Close e = refl

  inner_name : (l : Line) → is_inner l ≡ true → global_name text l ≡ None
  unfolding is_inner global_name
  inner_name line.Nothing e = refl
  inner_name (line.Label n) e = refl
  inner_name (line.Inst r s) e = refl
  inner_name (line.Global g t c vs a) e = absurd (true≢false (sym e))
  inner_name (line.Define f r ps) e = refl
  inner_name line.Close e = refl

  abbrev NoGlobals : List Line → Type 0
  NoGlobals ls = (globals_in text ls ≡ []) × ((k : ℕ) → globals_from text k ls ≡ [])

  one_none : (l : Line) (ls : List Line) → global_at text l ≡ [] → global_name text l ≡ None → NoGlobals ls → NoGlobals (l ∷ ls)
  one_none l ls a n h = (
    ap (λ (xs : List Global). xs ++ globals_in text ls) a ∙ h.0,
    λ k. ap (λ (o : Option (List ℕ)). declared o (meaning.Global k) ++ globals_from text (k + count_some o) ls) n ∙ h.1 (k + 0),
  )

  inner_none : (front rest : List Line) → list_all is_inner front ≡ true → NoGlobals rest → NoGlobals (front ++ rest)
  inner_none [] rest e h = h
  inner_none (l ∷ front) rest e h = let a = and_parts (is_inner l) (list_all is_inner front) e in one_none l (front ++ rest) (inner_global l a.0) (inner_name l a.0) (inner_none front rest a.1 h)

  head_none : (f : Function) (l : Line) (ls : List Line) → IsHead text f l → NoGlobals ls → NoGlobals (l ∷ ls)
  unfolding global_at global_name
  head_none f l ls q h = one_none l ls (ap (global_at text) q.line) (ap (global_name text) q.line) h

  last_none : NoGlobals (line.Nothing ∷ [])
  unfolding global_at global_name
  last_none = one_none line.Nothing [] refl refl (refl, λ k. refl)

  close_none : (l : Line) (ls : List Line) → l ≡ line.Close → NoGlobals ls → NoGlobals (l ∷ ls)
  unfolding global_at global_name
  close_none l ls e h = one_none l ls (ap (global_at text) e) (ap (global_name text) e) h

  closes_none : (K : List Line → Type 0) (ls : List Line) → ((ls : List Line) → K ls → NoGlobals ls) → Closes K ls → NoGlobals ls
  closes_none K [] f h = absurd h
  closes_none K (l ∷ ls) f h = close_none l ls h.0 (f ls h.1)

  functions_none : (looks : Function → Looks) (fs : List Function) (ls : List Line) → AreFunctions text looks fs ls → NoGlobals ls
  functions_none looks [] ls h = subst NoGlobals (sym h) last_none
  functions_none looks (f ∷ fs) [] h = absurd h
  functions_none looks (f ∷ fs) (l ∷ ls) h =
      let s = split_body (looks f) f.blocks (Closes (AreFunctions text looks fs)) ls h.1 in
      head_none f l ls h.0 (subst NoGlobals (sym s.2) (inner_none s.0 s.1 (inner_blocks (looks f) 0 0 f.blocks s.0 s.3) (closes_none (AreFunctions text looks fs) s.1 (functions_none looks fs) s.4)))

-- ---- functions

orders : (f : Function) (count : ℕ) (bs : List Block) → list_all (is_block (scope_of count f)) bs ≡ true → list_all (λ b. is_order b.insts) bs ≡ true
orders f count [] h = refl
orders f count (b ∷ bs) h =
    let a = and_parts (is_block (scope_of count f) b) (list_all (is_block (scope_of count f)) bs) h in
    rw ((and_parts (is_order b.insts) (list_all (is_inst (scope_of count f)) b.insts) a.0).0, orders f count bs a.1) refl

bit_is : (t : Ty) → is_bit t ≡ true → ty.I1 ≡ t
bit_is ty.I1 h = refl
bit_is _ h = absurd (true≢false (sym h))

result_again : (v : Bool) (t : Ty) → cond v (is_bit t) (is_type t) ≡ true → result_or (cond v None (Some t)) ≡ t
result_again true t h = bit_is t h
result_again false t h = refl

void_again : (v : Bool) (t : Ty) → is_none (cond v None (Some t)) ≡ v
void_again true t = refl
void_again false t = refl

params_again : (text : List ℕ) (k : ℕ) (ts : List Ty) (ps : List (Ty × NameSpan)) → AreParams text k ts ps → map (λ p. p.0) ps ≡ ts
params_again text k [] [] h = refl
params_again text k [] (p ∷ ps) h = absurd h
params_again text k (t ∷ ts) [] h = absurd h
params_again text k (t ∷ ts) (p ∷ ps) h = ap₂ (λ (t : Ty) (ts : List Ty). t ∷ ts) (h.0).0 (params_again text (k + 1) ts ps h.1)

module _ (text : List ℕ) (gs : List Global) where
  abbrev G : List ℕ → Option Meaning
  G = look (can_globals 0 gs)

  abbrev made_function : List ℕ → Ty → Bool → List Ty → List Block → List Function
  made_function n t v ts bs = record { name = n; result = t; is_void = v; params = ts; blocks = bs } ∷ []

  made_same : (f : Function) (n : List ℕ) (t : Ty) (v : Bool) (ts : List Ty) (bs : List Block) → n ≡ f.name → t ≡ f.result → v ≡ f.is_void → ts ≡ f.params → bs ≡ f.blocks → made_function n t v ts bs ≡ f ∷ []
  made_same f n t v ts bs a b c d e =
      ap₂ (λ (n : List ℕ) (t : Ty). made_function n t v ts bs) a b ∙ ap₂ (λ (v : Bool) (ts : List Ty). made_function f.name f.result v ts bs) c d ∙ ap (made_function f.name f.result f.is_void f.params) e

  head_is : (f : Function) (n : NameSpan) (r : Option Ty) (ps : List (Ty × NameSpan)) (ls : List Line) → function_at text G (line.Define n r ps) ls ≡ made_function (text_at text n) (result_or r) (is_none r) (map (λ p. p.0) ps) (blocks_in (looks_of text G ps (inside_of ls)) (inside_of ls))
  unfolding function_at
  head_is f n r ps ls = refl

  function_is : (f : Function) (l : Line) (front rest : List Line) → Fits f → is_function (length gs) f ≡ true → IsHead text f l → AreBlocks (can_looks text gs f) 0 0 f.blocks Nil front → function_at text G l (front ++ line.Close ∷ rest) ≡ f ∷ []
  function_is f l front rest b i q k =
      let result = cond f.is_void (is_bit f.result) (is_type f.result) in
      let parts = and_parts (is_function_name f.name && result && list_all is_type f.params && is_nonempty f.blocks) (list_all (is_block (scope_of (length gs) f)) f.blocks) i in
      let some = and_parts (is_function_name f.name && result && list_all is_type f.params) (is_nonempty f.blocks) parts.0 in
      let params = and_parts (is_function_name f.name && result) (list_all is_type f.params) some.0 in
      let typed = (and_parts (is_function_name f.name) result params.0).1 in
      let ls : List Line = front ++ line.Close ∷ rest in
      let inner = inside_front front rest (inner_blocks (can_looks text gs f) 0 0 f.blocks front k) in
      let blocks : blocks_in (looks_of text G q.params (inside_of ls)) (inside_of ls) ≡ f.blocks =
      ap (λ (xs : List Line). blocks_in (looks_of text G q.params xs) xs) inner ∙ ap (λ (x : Looks). blocks_in x front) (looks_are text gs f q.params front b q.params_are k) ∙ blocks_again (can_looks text gs f) 0 0 f.blocks front (orders f (length gs) f.blocks parts.1) k in
      ap (λ (m : Line). function_at text G m ls) q.line
      ∙ head_is f q.name q.result q.params ls
      ∙ made_same f _ _ _ _ _ q.name_is (ap result_or q.result_is ∙ result_again f.is_void f.result typed) (ap is_none q.result_is ∙ void_again f.is_void f.result) (params_again text 0 f.params q.params q.params_are) blocks

  close_step : (rest : List Line) → functions_in text G (line.Close ∷ rest) ≡ functions_in text G rest
  unfolding function_at
  close_step rest = refl

  last_step : functions_in text G (line.Nothing ∷ []) ≡ []
  unfolding function_at
  last_step = refl

  functions_again : (fs : List Function) (ls : List Line) → FitEach text gs fs → list_all (is_function (length gs)) fs ≡ true → AreFunctions text (can_looks text gs) fs ls → functions_in text G ls ≡ fs
  functions_again [] ls b i h = ap (functions_in text G) h ∙ last_step
  functions_again (f ∷ fs) [] b i h = absurd h
  functions_again (f ∷ fs) (l ∷ ls) b i h =
      let s = split_body (can_looks text gs f) f.blocks (Closes (AreFunctions text (can_looks text gs) fs)) ls h.1 in
      let a = and_parts (is_function (length gs) f) (list_all (is_function (length gs)) fs) i in
      ap (λ (ls : List Line). functions_in text G (l ∷ ls)) s.2 ∙ closed s.0 s.1 a.0 s.3 s.4 (λ rest k. functions_again fs rest b.2 a.1 k)
    where
      closed : (front rest : List Line) → is_function (length gs) f ≡ true → AreBlocks (can_looks text gs f) 0 0 f.blocks Nil front → Closes (AreFunctions text (can_looks text gs) fs) rest
          → ((rest : List Line) → AreFunctions text (can_looks text gs) fs rest → functions_in text G rest ≡ fs) → functions_in text G (l ∷ (front ++ rest)) ≡ f ∷ fs
      closed front [] j k c more = absurd c
      closed front (r ∷ rest) j k c more =
          let whole : List Line = front ++ line.Close ∷ rest in
          let behind : functions_in text G whole ≡ fs =
          functions_split text G whole ∙ ap (functions_in text G) (drop_front front rest (inner_blocks (can_looks text gs f) 0 0 f.blocks front k)) ∙ close_step rest ∙ more rest c.1 in
          ap (λ (m : Line). functions_in text G (l ∷ (front ++ m ∷ rest))) c.0 ∙ ap₂ (λ (xs ys : List Function). xs ++ ys) (function_is f l front rest b.0 j h.0 k) behind

-- ---- the whole

known_each : (text : List ℕ) (gs : List Global) (fs : List Function) → all_differ (map (λ g. g.name) gs) ≡ true → FitEach text gs fs → KnownEach text gs fs
known_each text gs [] d b = tt
known_each text gs (f ∷ fs) d b = (known_is text gs f d (omega (arith, b.0.params)) b.0.insts b.0.blocks, known_each text gs fs d b.2)

abbrev made_module : List Global → List Function → Module
made_module gs fs = record { globals = gs; functions = fs }

pub module_derived : (m : Module) → IsModule m → Derives (module_text m) m
module_derived m h =
    let text : List ℕ = module_text m in
    let gs = m.globals in
    let fs = m.functions in
    let count = length gs in
    let K = AreFunctions text (can_looks text gs) fs in
    let parts = and_parts (all_differ (names_of m) && list_all is_global gs) (list_all (is_function count) fs) h.formed in
    let front = and_parts (all_differ (names_of m)) (list_all is_global gs) parts.0 in
    let ranges = and_parts (list_all is_global_in_range gs) (list_all is_function_in_range fs) h.numbers in
    let differ = differ_front (map (λ g. g.name) gs) (map (λ f. f.name) fs) front.0 in
    let counts = and_parts (is_count (length gs) && is_count (length fs)) (list_all is_function_counted fs) h.counts in
    let fit = fits_each text gs count fs parts.1 counts.1 in
    let eaten = globals_eaten text gs gs (flat_map (function_lines (names_tokens gs)) fs) K front.1 ranges.0 (functions_eaten text gs fs parts.1 ranges.1 (known_each text gs fs differ fit)) in
    let y = eaten.holds (lines_at 0 (module_lines m)) (module_spelled m (module_fit m h)) in
    let table : globals_from text 0 y.0 ≡ can_globals 0 gs = from_again text 0 gs K y.0 (λ k ls g. (functions_none text (can_looks text gs) fs ls g).1 k) y.2 in
    let names : AllFalse (faults_from text (look (can_globals 0 gs)) [] None y.0) =
    globals_fit text gs [] gs K (map (λ f. f.name) fs) y.0 (again_of [] (names_of m) (none_first (names_of m)) front.0) (λ ns ls a k. functions_fit text gs ns fs ls fit a k) y.2 in
    let globals : globals_in text y.0 ≡ gs = globals_again text gs K y.0 (λ ls g. (functions_none text (can_looks text gs) fs ls g).0) y.2 in
    let functions : functions_in text (look (can_globals 0 gs)) y.0 ≡ fs = functions_behind text (look (can_globals 0 gs)) gs K fs y.0 (λ ls k. functions_again text gs fs ls fit parts.1 k) y.2 in
    record {
      stated = y.0;
      says = record { tokens = tokens_at 0 (pieces_of m); are_tokens = tokens_again m h; are_lines = subst (λ (ls : List (List Symbol)). AreLines ls y.0) (sym (lines_again m)) y.1 };
      names = subst (λ (es : List (List ℕ × Meaning)). AllFalse (faults_from text (look es) [] None y.0)) (sym table) names;
      is = sym (ap₂ made_module globals (ap (λ (es : List (List ℕ × Meaning)). functions_in text (look es) y.0) table ∙ functions));
      counts = h.counts;
    }
