-- The names of the canonical text fit.
use Rattle.std.proofs.Common.{◌≡◌, ℕ, suc, ◌+◌, ◌^◌, ◌<◌, ◌≤◌, arith, Bool, true, false, cond, not, ◌||◌, List, [], ◌∷◌, ◌++◌, length, map, flat_map, drop, Option, Some, None, refl, sym, ap, ap₂, subst, ◌∙◌, codes, decimal, append-nil}
use Rattle.std.specs.Prelude.{is_none, nat_eq}
use Rattle.std.specs.List.{list_all, prefix_len, starts_with}
use Rattle.std.specs.Option.{option_to_list}
use Rattle.std.specs.Str.{bytes_eq}
use Rattle.std.proofs.lemmas.Bool.{and_parts, or_parts, or_from, not-true}
use Rattle.std.proofs.lemmas.List.{length-append}
use Rattle.ax_module.specs.declared.types.Ty.{Ty}
use Rattle.ax_module.specs.declared.inst.Inst.{Inst}
use Rattle.ax_module.specs.declared.module.Global.{Global}
use Rattle.ax_module.specs.declared.module.Block.{Block}
use Rattle.ax_module.specs.declared.module.Function.{Function}
use Rattle.ax_module.specs.Names.{is_name}
use Rattle.ax_module.specs.Kinds.{has_result}
use Rattle.ax_module.specs.WellFormed.{is_function_name, insts_of}
use Rattle.ax_symbols.specs.declared.symbol.NameSpan.{NameSpan}
use Rattle.ax_lines.specs.declared.statement.Line.{Line}
use Rattle.ax_lines.specs.declared.statement.Line.TheVariants as line
use Rattle.ax_scope.specs.declared.meaning.Meaning.{Meaning}
use Rattle.ax_scope.specs.NameTable.{look, is_among}
use Rattle.ax_scope.specs.Names.{text_at, is_inner, inside_of, entry_name, result_name, block_name, first_behind}
use Rattle.ax_scope.specs.Resolve.{Looks}
use Rattle.ax_scope.specs.Faults.{again, outer_name, param_names, is_reserved, outer_fault, Body, looks_of, body_of, names_of, stated, body_fault, body_behind, body_faults, body_begun, faults_from, AllFalse}
use Rattle.ax_scope.proofs.Functions.{faults_split}
use Rattle.ax_again.proofs.EatOuter.{IsLabel, AreParams}
use Rattle.ax_again.proofs.EatGlobals.{IsGlobalLine}
use Rattle.ax_again.proofs.StatedLines.{IsInst, AreInsts, AreBlocks, Closes, AreFunctions, AreGlobals, can_globals, can_looks}
use Rattle.ax_again.proofs.KnownNames.{unlike}
use Rattle.ax_again.proofs.Tables.{Nil, split_body, inner_blocks, inside_front, params_are, blocks_results, blocks_blocks, inst_stated}

pub among_more : (q : List ℕ) (s : List (List ℕ)) (m : List ℕ) → is_among q s ≡ false → bytes_eq q m ≡ false → is_among q (s ++ m ∷ []) ≡ false
among_more q [] m h g = or_from (bytes_eq q m) false g refl
among_more q (x ∷ s) m h g = let a = or_parts (bytes_eq q x) (is_among q s) h in or_from (bytes_eq q x) (is_among q (s ++ m ∷ [])) a.0 (among_more q s m a.1 g)

all_append : (xs ys : List Bool) → AllFalse xs → AllFalse ys → AllFalse (xs ++ ys)
all_append [] ys h g = g
all_append (x ∷ xs) ys h g = (h.0, all_append xs ys h.1 g)

-- no block from number k on, and no result from number n on, has a name among these
record Fresh (k n : ℕ) (s : List (List ℕ)) : Type 0 where
  blocks : (j : ℕ) → k ≤ j → j < 2 ^ 64 → is_among (98 ∷ decimal j) s ≡ false
  values : (j : ℕ) → n ≤ j → j < 2 ^ 64 → is_among (118 ∷ decimal j) s ≡ false

fresh_value : (k n : ℕ) (s : List (List ℕ)) → n < 2 ^ 64 → Fresh k n s → Fresh k (n + 1) (s ++ (118 ∷ decimal n) ∷ [])
fresh_value k n s b f = record {
  blocks = λ j l h. among_more (98 ∷ decimal j) s (118 ∷ decimal n) (f.blocks j l h) refl;
  values = λ j l h. among_more (118 ∷ decimal j) s (118 ∷ decimal n) (f.values j (omega (arith, l)) h) (unlike 118 j n h b (λ e. omega (arith, e, l)));
}

fresh_block : (k n : ℕ) (s : List (List ℕ)) → k < 2 ^ 64 → Fresh k n s → Fresh (k + 1) n (s ++ (98 ∷ decimal k) ∷ [])
fresh_block k n s b f = record {
  blocks = λ j l h. among_more (98 ∷ decimal j) s (98 ∷ decimal k) (f.blocks j (omega (arith, l)) h) (unlike 98 j k h b (λ e. omega (arith, e, l)));
  values = λ j l h. among_more (118 ∷ decimal j) s (98 ∷ decimal k) (f.values j l h) refl;
}

fresh_later : (k n : ℕ) (s : List (List ℕ)) → Fresh k n s → Fresh k (n + 1) s
fresh_later k n s f = record { blocks = f.blocks; values = λ j l h. f.values j (omega (arith, l)) h }

-- ---- the lines of a function

module _ (x : Looks) (entry : List ℕ) where
  abbrev body : Bool → List (List ℕ) → Body
  body first s = record { looks = x; entry = entry; first = first; so_far = s }

  abbrev inst_names : ℕ → Inst → List (List ℕ)
  inst_names n i = option_to_list (cond (has_result i) (Some (codes "v" ++ decimal n)) None)

  inst_fault : (s : List (List ℕ)) (n : ℕ) (i : Inst) (l : Line) → IsInst x n i l → body_fault (body false s) l ≡ again s (inst_names n i)
  unfolding block_name result_name
  inst_fault s n i l q =
      ap (λ (o : Option (Option Inst)). again s (names_of x.text entry false l) || is_none o) (inst_stated x n i l q)
      ∙ ap (λ (m : Line). again s (names_of x.text entry false m) || false) q.line
      ∙ ap (λ (o : Option (List ℕ)). again s (option_to_list o) || false) q.name
      ∙ or_false (again s (inst_names n i))
    where
      or_false : (b : Bool) → b || false ≡ b
      or_false true = refl
      or_false false = refl

  inst_behind : (s : List (List ℕ)) (n : ℕ) (i : Inst) (l : Line) → IsInst x n i l → body_behind (body false s) l ≡ body false (s ++ inst_names n i)
  unfolding block_name result_name first_behind
  inst_behind s n i l q = ap (λ (m : Line). body_behind (body false s) m) q.line ∙ ap (λ (o : Option (List ℕ)). body false (s ++ option_to_list o)) q.name

  label_fault : (first : Bool) (s : List (List ℕ)) (k : ℕ) (l : Line) → IsLabel x.text k l → is_among (98 ∷ decimal k) s ≡ false → body_fault (body first s) l ≡ false
  unfolding block_name result_name stated
  label_fault first s k l q f = ap (body_fault (body first s)) q.line ∙ ap (λ (n : List ℕ). (is_among n s || false) || false) q.is ∙ ap (λ (b : Bool). (b || false) || false) f

  label_behind : (first : Bool) (s : List (List ℕ)) (k : ℕ) (l : Line) → IsLabel x.text k l → body_behind (body first s) l ≡ body false (s ++ (98 ∷ decimal k) ∷ [])
  unfolding block_name result_name first_behind
  label_behind first s k l q = ap (λ (m : Line). body_behind (body first s) m) q.line ∙ ap (λ (n : List ℕ). body false (s ++ n ∷ [])) q.is

  insts_fit : (k n : ℕ) (is : List Inst) (K : List Line → Type 0) (s : List (List ℕ)) (ls : List Line) → Fresh k n s → n + length is ≤ 2 ^ 64
      → ((m : ℕ) (t : List (List ℕ)) (ls : List Line) → m ≡ n + length is → Fresh k m t → K ls → AllFalse (body_faults (body false t) ls)) → AreInsts x n is K ls → AllFalse (body_faults (body false s) ls)
  insts_fit k n [] K s ls f b g h = g n s ls (omega arith) f h
  insts_fit k n (i ∷ is) K s [] f b g h = absurd h
  insts_fit k n (i ∷ is) K s (l ∷ ls) f b g h =
      let p : (again s (inst_names n i) ≡ false) × Fresh k (n + 1) (s ++ inst_names n i) = by (has_result i) in
      (inst_fault s n i l h.0 ∙ p.0, subst (λ (c : Body). AllFalse (body_faults c ls)) (sym (inst_behind s n i l h.0)) (insts_fit k (n + 1) is K (s ++ inst_names n i) ls p.1 (omega (arith, b)) (λ m t ls e. g m t ls (omega (arith, e))) h.1))
    where
      by : (c : Bool) → (again s (option_to_list (cond c (Some (codes "v" ++ decimal n)) None)) ≡ false) × Fresh k (n + 1) (s ++ option_to_list (cond c (Some (codes "v" ++ decimal n)) None))
      by true = (ap (λ (b : Bool). b || false) (f.values n (omega arith) (omega (arith, b))), fresh_value k n s (omega (arith, b)) f)
      by false = (refl, subst (Fresh k (n + 1)) (sym (append-nil s)) (fresh_later k n s f))

  blocks_fit : (first : Bool) (k n : ℕ) (bs : List Block) (s : List (List ℕ)) (ls : List Line) → Fresh k n s → k + length bs ≤ 2 ^ 64 → n + length (flat_map (λ b. b.insts) bs) ≤ 2 ^ 64 → AreBlocks x k n bs Nil ls → AllFalse (body_faults (body first s) ls)
  blocks_fit first k n [] s ls f b c h = subst (λ (ls : List Line). AllFalse (body_faults (body first s) ls)) (sym h) tt
  blocks_fit first k n (d ∷ bs) s [] f b c h = absurd h
  blocks_fit first k n (d ∷ bs) s (l ∷ ls) f b c h =
      let size = length-append d.insts (flat_map (λ b. b.insts) bs) in (
        label_fault first s k l h.0 (f.blocks k (omega arith) (omega (arith, b))),
        subst (λ (c : Body). AllFalse (body_faults c ls)) (sym (label_behind first s k l h.0))
            (insts_fit (k + 1) n d.insts (AreBlocks x (k + 1) (n + length d.insts) bs Nil) (s ++ (98 ∷ decimal k) ∷ []) ls (fresh_block k n s (omega (arith, b)) f) (omega (arith, c, size))
            (λ m t ls e g r. blocks_fit false (k + 1) (n + length d.insts) bs t ls (subst (λ (j : ℕ). Fresh (k + 1) j t) e g) (omega (arith, b)) (omega (arith, c, size)) r) h.1),
      )

-- ---- parameters

abbrev names_in : List ℕ → List (Ty × NameSpan) → List (List ℕ)
names_in text ps = map (λ p. text_at text p.1) ps

none_param : (text : List ℕ) (c : ℕ) (q : List ℕ) (k : ℕ) (ts : List Ty) (ps : List (Ty × NameSpan)) → bytes_eq (c ∷ q) (112 ∷ decimal k) ≡ false → ((j : ℕ) → bytes_eq (c ∷ q) (112 ∷ decimal j) ≡ false) → AreParams text k ts ps → is_among (c ∷ q) (names_in text ps) ≡ false
none_param text c q k [] [] e f h = refl
none_param text c q k [] (p ∷ ps) e f h = absurd h
none_param text c q k (t ∷ ts) [] e f h = absurd h
none_param text c q k (t ∷ ts) (p ∷ ps) e f h = or_from (bytes_eq (c ∷ q) (text_at text p.1)) (is_among (c ∷ q) (names_in text ps)) (ap (bytes_eq (c ∷ q)) (h.0).1 ∙ f k) (none_param text c q (k + 1) ts ps (f (k + 1)) f h.1)

params_again : (text : List ℕ) (k : ℕ) (ts : List Ty) (ps : List (Ty × NameSpan)) (s : List (List ℕ)) → ((j : ℕ) → k ≤ j → j < 2 ^ 64 → is_among (112 ∷ decimal j) s ≡ false) → k + length ts ≤ 2 ^ 64 → AreParams text k ts ps → again s (names_in text ps) ≡ false
params_again text k [] [] s f b h = refl
params_again text k [] (p ∷ ps) s f b h = absurd h
params_again text k (t ∷ ts) [] s f b h = absurd h
params_again text k (t ∷ ts) (p ∷ ps) s f b h =
    ap (λ (n : List ℕ). is_among n s || again (s ++ n ∷ []) (names_in text ps)) (h.0).1
    ∙ or_from (is_among (112 ∷ decimal k) s) (again (s ++ (112 ∷ decimal k) ∷ []) (names_in text ps)) (f k (omega arith) (omega (arith, b)))
    (params_again text (k + 1) ts ps (s ++ (112 ∷ decimal k) ∷ []) (λ j l g. among_more (112 ∷ decimal j) s (112 ∷ decimal k) (f j (omega (arith, l)) g) (unlike 112 j k g (omega (arith, b)) (λ e. omega (arith, e, l)))) (omega (arith, b)) h.1)

-- ---- functions

-- a function whose counts have 32 bits
pub record Fits (f : Function) : Type 0 where
  pub params : length f.params < 2 ^ 32
  pub insts : length (insts_of f) ≤ 2 ^ 64
  pub blocks : length f.blocks ≤ 2 ^ 64

close_front : (rest : List Line) → drop (prefix_len is_inner (line.Close ∷ rest)) (line.Close ∷ rest) ≡ line.Close ∷ rest
unfolding is_inner
close_front rest = refl

pub drop_front : (front rest : List Line) → list_all is_inner front ≡ true → drop (prefix_len is_inner (front ++ line.Close ∷ rest)) (front ++ line.Close ∷ rest) ≡ line.Close ∷ rest
drop_front [] rest h = close_front rest
drop_front (l ∷ front) rest h =
    let a = and_parts (is_inner l) (list_all is_inner front) h in
    let one : 1 + prefix_len is_inner (front ++ line.Close ∷ rest) ≡ suc (prefix_len is_inner (front ++ line.Close ∷ rest)) = omega arith in
    ap (λ (b : Bool). drop (cond b (1 + prefix_len is_inner (front ++ line.Close ∷ rest)) 0) (l ∷ (front ++ line.Close ∷ rest))) a.0
    ∙ ap (λ (n : ℕ). drop n (l ∷ (front ++ line.Close ∷ rest))) one
    ∙ drop_front front rest a.1

module _ (text : List ℕ) (gs : List Global) where
  abbrev G : List ℕ → Option Meaning
  G = look (can_globals 0 gs)

  abbrev made_looks : List (List ℕ × Meaning) → List (List ℕ × Meaning) → Looks
  made_looks vs bs = record { text = text; globals = G; values = look vs; blocks = look bs }

  pub looks_are : (f : Function) (ps : List (Ty × NameSpan)) (front : List Line) → Fits f → AreParams text 0 f.params ps → AreBlocks (can_looks text gs f) 0 0 f.blocks Nil front → looks_of text G ps front ≡ can_looks text gs f
  looks_are f ps front b p h =
      let x = can_looks text gs f in
      ap₂ made_looks (ap₂ (λ (xs ys : List (List ℕ × Meaning)). xs ++ ys) (params_are text 0 f.params ps p) (blocks_results x 0 0 f.blocks front h)) (blocks_blocks x (entry_name text ps) true 0 0 f.blocks front h)

  body_fits : (f : Function) (ps : List (Ty × NameSpan)) (front : List Line) → Fits f → AreParams text 0 f.params ps → AreBlocks (can_looks text gs f) 0 0 f.blocks Nil front → AllFalse (body_faults (body_of text G ps front) front)
  body_fits f ps front b p h =
      let x = can_looks text gs f in
      subst (λ (y : Looks). AllFalse (body_faults (record { looks = y; entry = entry_name text ps; first = true; so_far = names_in text ps }) front)) (sym (looks_are f ps front b p h))
      (blocks_fit x (entry_name text ps) true 0 0 f.blocks (names_in text ps) front
      (record { blocks = λ j l g. none_param text 98 (decimal j) 0 f.params ps refl (λ j. refl) p; values = λ j l g. none_param text 118 (decimal j) 0 f.params ps refl (λ j. refl) p })
      (omega (arith, b.blocks)) (omega (arith, b.insts)) h)

  head_fault : (names : List (List ℕ)) (f : Function) (n : NameSpan) (r : Option Ty) (ps : List (Ty × NameSpan)) → Fits f → is_function_name f.name ≡ true → text_at text n ≡ f.name → AreParams text 0 f.params ps → is_among f.name names ≡ false → outer_fault text names (line.Define n r ps) ≡ false
  unfolding is_reserved outer_name param_names
  head_fault names f n r ps b i e p a =
      let c = not-true (bytes_eq f.name (codes "out") || starts_with nat_eq f.name (codes "__atomic_")) (and_parts (is_name f.name) (not (bytes_eq f.name (codes "out") || starts_with nat_eq f.name (codes "__atomic_"))) i).1 in
      ap (λ (m : List ℕ). (bytes_eq m (codes "out") || starts_with nat_eq m (codes "__atomic_")) || (is_among m names || false) || again [] (names_in text ps)) e
      ∙ rw (c, a, params_again text 0 f.params ps [] (λ j l g. refl) (omega (arith, b.params)) p) refl

  head_step : (names : List (List ℕ)) (n : NameSpan) (r : Option Ty) (ps : List (Ty × NameSpan)) (ls : List Line)
      → faults_from text G names None (line.Define n r ps ∷ ls) ≡ (outer_fault text names (line.Define n r ps) || false) ∷ faults_from text G (names ++ text_at text n ∷ []) (Some (body_of text G ps (inside_of ls))) ls
  unfolding outer_name is_inner body_begun
  head_step names n r ps ls = refl

  close_step : (names : List (List ℕ)) (ls : List Line) → faults_from text G names None (line.Close ∷ ls) ≡ false ∷ faults_from text G (names ++ []) None ls
  unfolding is_reserved outer_name param_names is_inner body_begun
  close_step names ls = refl

  last_step : (names : List (List ℕ)) → faults_from text G names None (line.Nothing ∷ []) ≡ false ∷ []
  unfolding is_reserved outer_name param_names is_inner body_begun
  last_step names = refl

  abbrev pub FitEach : List Function → Type 0
  FitEach [] = Unit {0}
  FitEach (f ∷ fs) = Fits f × (is_function_name f.name ≡ true) × FitEach fs

  pub functions_fit : (names : List (List ℕ)) (fs : List Function) (ls : List Line) → FitEach fs → again names (map (λ f. f.name) fs) ≡ false → AreFunctions text (can_looks text gs) fs ls → AllFalse (faults_from text G names None ls)
  functions_fit names [] ls b a h = subst (λ (ls : List Line). AllFalse (faults_from text G names None ls)) (sym h) (subst AllFalse (sym (last_step names)) (refl, tt))
  functions_fit names (f ∷ fs) [] b a h = absurd h
  functions_fit names (f ∷ fs) (l ∷ ls) b a h =
      let q = h.0 in
      let s = split_body (can_looks text gs f) f.blocks (Closes (AreFunctions text (can_looks text gs) fs)) ls h.1 in
      let fresh = or_parts (is_among f.name names) (again (names ++ f.name ∷ []) (map (λ f. f.name) fs)) a in
      subst (λ (m : Line). AllFalse (faults_from text G names None (m ∷ ls))) (sym q.line) (subst AllFalse (sym (head_step names q.name q.result q.params ls)) (
        ap (λ (b : Bool). b || false) (head_fault names f q.name q.result q.params b.0 b.1 q.name_is q.params_are fresh.0),
        subst (λ (n : List ℕ). AllFalse (faults_from text G (names ++ n ∷ []) (Some (body_of text G q.params (inside_of ls))) ls)) (sym q.name_is)
            (subst (λ (ls : List Line). AllFalse (faults_from text G (names ++ f.name ∷ []) (Some (body_of text G q.params (inside_of ls))) ls)) (sym s.2)
            (behind s.1 s.0 q.params q.params_are s.3 s.4 (λ rest k. functions_fit (names ++ f.name ∷ []) fs rest b.2 fresh.1 k))),
      ))
    where
      at_close : (front rest : List Line) (ps : List (Ty × NameSpan)) → AreParams text 0 f.params ps → AreBlocks (can_looks text gs f) 0 0 f.blocks Nil front → AllFalse (faults_from text G (names ++ f.name ∷ []) None rest)
          → AllFalse (faults_from text G (names ++ f.name ∷ []) (Some (body_of text G ps (inside_of (front ++ line.Close ∷ rest)))) (front ++ line.Close ∷ rest))
      at_close front rest ps p k more =
          let ns : List (List ℕ) = names ++ f.name ∷ [] in
          let inner = inner_blocks (can_looks text gs f) 0 0 f.blocks front k in
          let whole : List Line = front ++ line.Close ∷ rest in
          subst AllFalse (sym (faults_split text G ns (body_of text G ps (inside_of whole)) whole))
          (all_append (body_faults (body_of text G ps (inside_of whole)) (inside_of whole)) (faults_from text G ns None (drop (prefix_len is_inner whole) whole))
          (subst (λ (xs : List Line). AllFalse (body_faults (body_of text G ps xs) xs)) (sym (inside_front front rest inner)) (body_fits f ps front b.0 p k))
          (subst (λ (xs : List Line). AllFalse (faults_from text G ns None xs)) (sym (drop_front front rest inner))
          (subst AllFalse (sym (close_step ns rest)) (refl, subst (λ (ms : List (List ℕ)). AllFalse (faults_from text G ms None rest)) (sym (append-nil ns)) more))))

      behind : (rest front : List Line) (ps : List (Ty × NameSpan)) → AreParams text 0 f.params ps → AreBlocks (can_looks text gs f) 0 0 f.blocks Nil front → Closes (AreFunctions text (can_looks text gs) fs) rest → ((rest : List Line) → AreFunctions text (can_looks text gs) fs rest → AllFalse (faults_from text G (names ++ f.name ∷ []) None rest))
          → AllFalse (faults_from text G (names ++ f.name ∷ []) (Some (body_of text G ps (inside_of (front ++ rest)))) (front ++ rest))
      behind [] front ps p k c more = absurd c
      behind (r ∷ rest) front ps p k c more =
          subst (λ (m : Line). AllFalse (faults_from text G (names ++ f.name ∷ []) (Some (body_of text G ps (inside_of (front ++ m ∷ rest)))) (front ++ m ∷ rest))) (sym c.0) (at_close front rest ps p k (more rest c.1))

  global_step : (names : List (List ℕ)) (g : Global) (l : Line) (ls : List Line) → IsGlobalLine text g l → faults_from text G names None (l ∷ ls) ≡ (is_among g.name names || false) ∷ faults_from text G (names ++ g.name ∷ []) None ls
  unfolding is_reserved outer_name param_names is_inner body_begun
  global_step names g l ls q =
      ap (λ (m : Line). faults_from text G names None (m ∷ ls)) q.line ∙ or_same (text_at text q.name) ∙ ap (λ (n : List ℕ). (is_among n names || false) ∷ faults_from text G (names ++ n ∷ []) None ls) q.name_is
    where
      or_twice : (b : Bool) → ((b || false) || false) || false ≡ b || false
      or_twice true = refl
      or_twice false = refl

      or_same : (n : List ℕ) → (((is_among n names || false) || false) || false) ∷ faults_from text G (names ++ n ∷ []) None ls ≡ (is_among n names || false) ∷ faults_from text G (names ++ n ∷ []) None ls
      or_same n = ap (λ (b : Bool). b ∷ faults_from text G (names ++ n ∷ []) None ls) (or_twice (is_among n names))

  pub globals_fit : (names : List (List ℕ)) (hs : List Global) (K : List Line → Type 0) (after : List (List ℕ)) (ls : List Line) → again names (map (λ g. g.name) hs ++ after) ≡ false
      → ((ns : List (List ℕ)) (ls : List Line) → again ns after ≡ false → K ls → AllFalse (faults_from text G ns None ls)) → AreGlobals text hs K ls → AllFalse (faults_from text G names None ls)
  globals_fit names [] K after ls a f h = f names ls a h
  globals_fit names (g ∷ hs) K after [] a f h = absurd h
  globals_fit names (g ∷ hs) K after (l ∷ ls) a f h =
      let fresh = or_parts (is_among g.name names) (again (names ++ g.name ∷ []) (map (λ g. g.name) hs ++ after)) a in
      subst AllFalse (sym (global_step names g l ls h.0)) (ap (λ (b : Bool). b || false) fresh.0, globals_fit (names ++ g.name ∷ []) hs K after ls fresh.1 f h.1)
