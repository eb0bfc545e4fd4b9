-- What a text derives is well formed.
use Rattle.std.proofs.Common.{◌≡◌, ℕ, ◌+◌, ◌≤◌, arith, true, false, ◌||◌, List, [], ◌∷◌, ◌++◌, length, map, Option, Some, None, is_none, Result, Ok, Err, IfOk, refl, sym, subst}
use Rattle.std.specs.Prelude.{if◌then◌else◌}
use Rattle.std.specs.List.{list_all, prefix_len}
use Rattle.std.specs.Option.{option_to_list}
use Rattle.std.proofs.lemmas.Bool.{or_parts, and_from, not_from_false, lt-ltb}
use Rattle.std.proofs.lemmas.List.{length-map}
use Rattle.ax_module.specs.declared.types.Ty.{Ty}
use Rattle.ax_module.specs.declared.inst.Inst.{Inst}
use Rattle.ax_module.specs.declared.module.Block.{Block}
use Rattle.ax_module.specs.declared.module.Function.{Function}
use Rattle.ax_module.specs.declared.module.Module.{Module}
use Rattle.ax_module.specs.WellFormed.{NameCounts, IsModule, is_counted, is_type, is_bit, is_result_type, is_nonempty, is_inst, is_order, is_block, is_function, is_function_name, scope_of, is_global}
use Rattle.ax_module.specs.Ranges.{is_in_range, is_inst_in_range, is_function_in_range, is_global_in_range}
use Rattle.ax_symbols.specs.declared.symbol.NameSpan.{NameSpan}
use Rattle.ax_symbols.specs.declared.symbol.Symbol.{Symbol}
use Rattle.ax_symbols.specs.declared.values.Value.{Value}
use Rattle.ax_symbols.specs.declared.values.Value.TheVariants as value
use Rattle.ax_lines.specs.declared.statement.Line.{Line}
use Rattle.ax_lines.specs.declared.statement.Line.TheVariants as line
use Rattle.ax_lines.specs.declared.statement.Section.{Section}
use Rattle.ax_lines.specs.declared.statement.Section.TheVariants as section
use Rattle.ax_lines.specs.Productions.{section_after}
use Rattle.ax_lines.specs.Lines.{InPlace, lines_of}
use Rattle.ax_scope.specs.declared.meaning.Meaning.{Meaning}
use Rattle.ax_scope.specs.NameTable.{look}
use Rattle.ax_scope.specs.Names.{text_at, is_inner, inside_of, entry_name, global_name, globals_from, params_from, results_from, values_of, blocks_of}
use Rattle.ax_scope.specs.Resolve.{Looks}
use Rattle.ax_scope.specs.Faults.{Body, again, outer_name, param_names, is_reserved, outer_fault, inner_fault, looks_of, body_of, body_begun, function_behind, faults_from, AllFalse, stated}
use Rattle.ax_scope.specs.Module.{insts_in, blocks_in, result_or, function_at, functions_in, constant_of, global_at, globals_in, module_of}
use Rattle.ax_read.specs.declared.fault.ReadFault.{ReadFault}
use Rattle.ax_read.specs.Derivation.{Derives}
use Rattle.ax_read.proofs.Grants.{Each, each_behind, each_append, IsSound}
use Rattle.ax_read.proofs.Granted.{SoundConst}
use Rattle.ax_read.proofs.GrantedLines.{SoundLine, line_is}
use Rattle.ax_read.proofs.Meant.{IsValue, IsGlobal, IsBlock, LooksFit, InstFits, inst_fits}
use Rattle.ax_read.proofs.SoundTokens.{lines_sound}
use Rattle.ax_read.proofs.Built.{ChainTo, IsStated, inst_at, Orders, Shape, insts_all, flat, built, inside_chain, each_take, inside_stated, look_each, params_fit, blocks_fit, results_fit}
use Rattle.ax_read.proofs.NamesDiffer.{differ}

-- what lines in their places state is sound
said_lines : (text : List ℕ) (p : Section) (ls : List (List Symbol)) (xs : List Line) (q : Section) → InPlace p ls xs q → Each (Each (IsSound text)) ls → ChainTo p xs q × Each (SoundLine text) xs
said_lines text p [] [] q h s = (h, tt)
said_lines text p [] (x ∷ xs) q h s = absurd h
said_lines text p (l ∷ ls) [] q h s = absurd h
said_lines text p (l ∷ ls) (x ∷ xs) q h s =
    let g = (line_is p).holds l [] x s.0 h.0 in
    let more = said_lines text (section_after p x) ls xs q h.1 s.1 in
    ((g.0.1, more.0), (g.0.0, more.1))

-- ---- globals

constant_in_range : (v : Value) → SoundConst v → is_in_range (constant_of v) ≡ true
constant_in_range (value.Const n) h = h
constant_in_range (value.Wide n) h = h.1
constant_in_range (value.Local s) h = absurd h

constants_in_range : (vs : List Value) → Each SoundConst vs → list_all is_in_range (map constant_of vs) ≡ true
constants_in_range [] h = refl
constants_in_range (v ∷ vs) h = and_from (is_in_range (constant_of v)) (list_all is_in_range (map constant_of vs)) (constant_in_range v h.0) (constants_in_range vs h.1)

globals_good : (text : List ℕ) (ls : List Line) → Each (SoundLine text) ls → (list_all is_global (globals_in text ls) ≡ true) × (list_all is_global_in_range (globals_in text ls) ≡ true)
unfolding global_at
globals_good text [] h = (refl, refl)
globals_good text (line.Global g t c vs a ∷ ls) h =
    let s = h.0 in
    let more = globals_good text ls h.1 in
    (and_from _ _ (and_from _ _ (and_from _ _ s.0 s.1) s.5) more.0, and_from _ _ (and_from _ _ (and_from _ _ s.2 s.3) (constants_in_range vs s.4)) more.1)
globals_good text (_ ∷ ls) h = globals_good text ls h.1

globals_fit : (scope : NameCounts) (text : List ℕ) (k : ℕ) (ls : List Line) → k + length (globals_in text ls) ≤ scope.globals → Each (λ (e : List ℕ × Meaning). IsGlobal scope e.1) (globals_from text k ls)
unfolding global_at global_name
globals_fit scope text k [] h = tt
globals_fit scope text k (line.Global g t c vs a ∷ ls) h = (lt-ltb k scope.globals (omega (arith, h)), globals_fit scope text (k + 1) ls (omega (arith, h)))
globals_fit scope text k (_ ∷ ls) h = globals_fit scope text (k + 0) ls (omega (arith, h))

-- ---- functions

result_good : (r : Option Ty) → is_result_type r ≡ true → (if is_none r then is_bit (result_or r) else is_type (result_or r)) ≡ true
result_good None h = refl
result_good (Some t) h = h

types_good : (ps : List (Ty × NameSpan)) → Each (λ (p : Ty × NameSpan). is_type p.0 ≡ true) ps → list_all is_type (map (λ (p : Ty × NameSpan). p.0) ps) ≡ true
types_good [] h = refl
types_good (p ∷ ps) h = and_from (is_type p.0) (list_all is_type (map (λ (p : Ty × NameSpan). p.0) ps)) h.0 (types_good ps h.1)

shape_orders : (bs : List Block) → Shape section.Start bs → Orders bs × (is_nonempty bs ≡ true)
shape_orders [] h = absurd h
shape_orders (b ∷ bs) h = (h, refl)

each_front : {A : Type 0} (P : A → Type 0) (xs ys : List A) → Each P (xs ++ ys) → Each P xs
each_front P [] ys h = tt
each_front P (x ∷ xs) ys h = (h.0, each_front P xs ys h.1)

module _ (scope : NameCounts) (x : Looks) (fit : LooksFit scope x) where
  list_good : (insts : List Inst) → Each (InstFits scope x fit) insts → (list_all (is_inst scope) insts ≡ true) × (list_all is_inst_in_range insts ≡ true)
  list_good [] h = (refl, refl)
  list_good (i ∷ insts) h =
      let more = list_good insts h.1 in
      (and_from (is_inst scope i) (list_all (is_inst scope) insts) h.0.0 more.0, and_from (is_inst_in_range i) (list_all is_inst_in_range insts) h.0.1 more.1)

  blocks_good : (bs : List Block) → Orders bs → Each (InstFits scope x fit) (flat bs) → (list_all (is_block scope) bs ≡ true) × (list_all (λ (b : Block). list_all is_inst_in_range b.insts) bs ≡ true)
  blocks_good [] o h = (refl, refl)
  blocks_good (b ∷ bs) o h =
      let more = blocks_good bs o.1 (each_behind (InstFits scope x fit) b.insts (flat bs) h) in
      let this = list_good b.insts (each_front (InstFits scope x fit) b.insts (flat bs) h) in
      (and_from (is_block scope b) (list_all (is_block scope) bs) (and_from (is_order b.insts) (list_all (is_inst scope) b.insts) o.0 this.0) more.0, and_from _ _ this.1 more.1)

  insts_good : (ls : List Line) → Each (IsStated x) ls → Each (SoundLine x.text) ls → Each (InstFits scope x fit) (insts_all x ls)
  unfolding stated
  insts_good [] g s = tt
  insts_good (line.Inst r st ∷ ls) g s =
      let i = inst_at x r st g.0 in
      let this = (inst_fits scope x fit st s.0.0).holds i.0 i.1 in
      subst (λ (o : Option (Option Inst)). Each (InstFits scope x fit) (insts_in o ++ insts_all x ls)) (sym i.2) (this, insts_good ls g.1 s.1)
  insts_good (_ ∷ ls) g s = insts_good ls g.1 s.1

module _ (text : List ℕ) (globals : List ℕ → Option Meaning) (n : ℕ) (known : (scope : NameCounts) → n ≤ scope.globals → (name : List ℕ) (m : Meaning) → globals name ≡ Some m → IsGlobal scope m) where
  abbrev function_of : NameSpan → Option Ty → List (Ty × NameSpan) → List Line → Function
  function_of f r ps behind = record {
    name = text_at text f;
    result = result_or r;
    is_void = is_none r;
    params = map (λ p. p.0) ps;
    blocks = blocks_in (looks_of text globals ps (inside_of behind)) (inside_of behind);
  }

  abbrev Good : Function → Type 0
  Good f = (is_function n f ≡ true) × (is_function_in_range f ≡ true)

  function_named : (names : List (List ℕ)) (f : NameSpan) (r : Option Ty) (ps : List (Ty × NameSpan)) → outer_fault text names (line.Define f r ps) ≡ false → SoundLine text (line.Define f r ps) → is_function_name (text_at text f) ≡ true
  unfolding is_reserved
  function_named names f r ps h s =
      let l : Line = line.Define f r ps in
      let a = (or_parts (is_reserved text l || again names (option_to_list (outer_name text l))) (again [] (param_names text l)) h).0 in
      let b = (or_parts (is_reserved text l) (again names (option_to_list (outer_name text l))) a).0 in
      and_from _ _ s.0 (not_from_false _ b)

  function_good : (names more : List (List ℕ)) (f : NameSpan) (r : Option Ty) (ps : List (Ty × NameSpan)) (behind : List Line) → outer_fault text names (line.Define f r ps) ≡ false → SoundLine text (line.Define f r ps)
      → AllFalse (faults_from text globals more (Some (body_of text globals ps (inside_of behind))) behind) → ChainTo section.Start behind section.Outside → Each (SoundLine text) behind → Good (function_of f r ps behind)
  function_good names more f r ps behind h s a c sound =
      let inside : List Line = inside_of behind in
      let x : Looks = looks_of text globals ps inside in
      let entry : List ℕ = entry_name text ps in
      let F : Function = function_of f r ps behind in
      let scope : NameCounts = scope_of n F in
      let chain = inside_chain section.Start behind refl c in
      let g = inside_stated text globals more (body_of text globals ps inside) behind a in
      let t = each_take (SoundLine text) (prefix_len is_inner behind) behind sound in
      let b = built text entry x section.Start inside chain.0 chain.1 g in
      let vs = each_append (λ (e : List ℕ × Meaning). IsValue scope e.1) (params_from text 0 ps) (results_from text 0 inside)
      (params_fit scope text x 0 ps (omega (arith, length-map ps (λ (p : Ty × NameSpan). p.0)))) (results_fit scope text x [] 0 inside refl g t b.2) in
      let bs = blocks_fit scope text x entry true 0 inside (omega (arith, b.1)) in
      let fit : LooksFit scope x = record {
        values = λ name m e. look_each (IsValue scope) (values_of text ps inside) name m vs e;
        globals = λ name m e. known scope (omega arith) name m e;
        blocks = λ name m e. look_each (IsBlock scope) (blocks_of text entry inside) name m bs e;
      } in
      let orders = shape_orders F.blocks b.0 in
      let all = blocks_good scope x fit F.blocks orders.0 (subst (Each (InstFits scope x fit)) (sym b.2) (insts_good scope x fit inside g t)) in
      (and_from _ _ (and_from _ _ (and_from _ _ (and_from _ _ (function_named names f r ps h s) (result_good r s.1)) (types_good ps s.2)) orders.1) all.0, all.1)

  functions_good : (p : Section) (names : List (List ℕ)) (function : Option Body) (ls : List Line) → ChainTo p ls section.Outside → Each (SoundLine text) ls → AllFalse (faults_from text globals names function ls)
      → (list_all (is_function n) (functions_in text globals ls) ≡ true) × (list_all is_function_in_range (functions_in text globals ls) ≡ true)
  unfolding function_at body_begun is_inner section_after
  functions_good p names function [] c s h = (refl, refl)
  functions_good p names function (line.Define f r ps ∷ ls) c s h =
      let l : Line = line.Define f r ps in
      let o = (or_parts (outer_fault text names l) (inner_fault function l) h.0).0 in
      let this = function_good names (names ++ option_to_list (outer_name text l)) f r ps ls o s.0 h.1 c.1 s.1 in
      let more = functions_good section.Start (names ++ option_to_list (outer_name text l)) (Some (body_of text globals ps (inside_of ls))) ls c.1 s.1 h.1 in
      (and_from _ _ this.0 more.0, and_from _ _ this.1 more.1)
  functions_good p names function (l ∷ ls) c s h = functions_good (section_after p l) (names ++ option_to_list (outer_name text l)) (function_behind text globals function l ls) ls c.1 s.1 h.1

formed : (text : List ℕ) (ls : List Line) → ChainTo section.Outside ls section.Outside → Each (SoundLine text) ls → AllFalse (faults_from text (look (globals_from text 0 ls)) [] None ls) → is_counted (module_of text ls) ≡ true → IsModule (module_of text ls)
formed text ls c s h counts =
    let globals : List ℕ → Option Meaning = look (globals_from text 0 ls) in
    let n : ℕ = length (globals_in text ls) in
    let known : (scope : NameCounts) → n ≤ scope.globals → (name : List ℕ) (m : Meaning) → globals name ≡ Some m → IsGlobal scope m =
    λ scope few name m e. look_each (IsGlobal scope) (globals_from text 0 ls) name m (globals_fit scope text 0 ls (omega (arith, few))) e in
    let fs = functions_good text globals n known section.Outside [] None ls c s h in
    let gs = globals_good text ls s in
    let d = differ text globals [] None ls h in
    record { formed = and_from _ _ (and_from _ _ d.1 gs.0) fs.0; numbers = and_from _ _ gs.1 fs.1; counts = counts }

pub derived_module : (text : List ℕ) (m : Module) → Derives text m → IsModule m
derived_module text m d =
    let s = said_lines text section.Outside (lines_of text d.says.tokens) d.stated section.Outside d.says.are_lines (lines_sound text d.says.tokens d.says.are_tokens) in
    subst IsModule (sym d.is) (formed text d.stated s.0 s.1 d.names (subst (λ (x : Module). is_counted x ≡ true) d.is d.counts))

pub all_well_formed : (text : List ℕ) (r : Result Module ReadFault) → IfOk r (λ m. Derives text m) → IfOk r IsModule
all_well_formed text (Ok m) d = derived_module text m d
all_well_formed text (Err e) d = tt
