-- What the canonical lines state, one after the other.
use Rattle.std.proofs.Common.{◌≡◌, ℕ, suc, ◌+◌, arith, Bool, true, false, cond, ◌&&◌, not, List, [], ◌∷◌, ◌++◌, length, map, flat_map, drop, Option, Some, None, refl, sym, ap, subst, ◌∙◌, codes, decimal, append_assoc, true≢false}
use Rattle.std.specs.List.{list_all, prefix_len}
use Rattle.std.proofs.lemmas.Bool.{and_parts}
use Rattle.ax_module.specs.declared.types.Ty.{Ty}
use Rattle.ax_module.specs.declared.inst.Inst.{Inst}
use Rattle.ax_module.specs.declared.inst.Inst.TheVariants as inst
use Rattle.ax_module.specs.declared.module.Global.{Global}
use Rattle.ax_module.specs.declared.module.Block.{Block}
use Rattle.ax_module.specs.declared.module.Function.{Function}
use Rattle.ax_module.specs.Kinds.{is_phi, is_terminator, has_result}
use Rattle.ax_ir.specs.Canonical as canon
use Rattle.ax_ir.specs.Canonical.{flush, indented, global_tokens, define_tokens, label_line, inst_lines, block_lines, blocks_lines, function_lines, global_line, names_tokens, module_lines}
use Rattle.ax_module.specs.WellFormed.{NameCounts, is_inst, is_body, is_order, is_block, is_nonempty, is_type, is_bit, is_result_type, is_function_name, is_function, is_global, insts_of, scope_of}
use Rattle.ax_module.specs.Ranges.{is_inst_in_range, is_function_in_range, is_global_in_range}
use Rattle.ax_symbols.specs.declared.symbol.Symbol.{Symbol}
use Rattle.ax_symbols.specs.declared.symbol.NameSpan.{NameSpan}
use Rattle.ax_lines.specs.declared.statement.Statement.{Statement}
use Rattle.ax_lines.specs.declared.statement.Line.{Line}
use Rattle.ax_lines.specs.declared.statement.Line.TheVariants as line
use Rattle.ax_lines.specs.declared.statement.Section.{Section}
use Rattle.ax_lines.specs.declared.statement.Section.TheVariants as section
use Rattle.ax_lines.specs.Lines.{InPlace}
use Rattle.ax_symbols.specs.Grammar.{by, Derives}
use Rattle.ax_lines.specs.Productions.{line_at, section_after, blank, outside, in_block}
use Rattle.ax_scope.specs.declared.meaning.Meaning.{Meaning}
use Rattle.ax_scope.specs.declared.meaning.Meaning.TheVariants as meaning
use Rattle.ax_scope.specs.NameTable.{look}
use Rattle.ax_scope.specs.Names.{maybe_at, declared}
use Rattle.ax_scope.specs.Resolve.{Looks, inst_of}
use Rattle.ax_read.proofs.Meant.{kind_is}
use Rattle.ax_again.proofs.Eats.{SpelledAll, Eats}
use Rattle.ax_again.proofs.EatPieces.{Known}
use Rattle.ax_again.proofs.EatLines.{Numbered, numbered_eats}
use Rattle.ax_again.proofs.EatOuter.{IsLabel, first_label, later_label, close_eats, IsHead, head_eats}
use Rattle.ax_again.proofs.EatGlobals.{IsGlobalLine, global_eats}
use Rattle.ax_again.proofs.SpelledLines.{SpelledEach}

-- ---- what lines state

-- the line states instruction n
pub record IsInst (x : Looks) (n : ℕ) (i : Inst) (l : Line) : Type 0 where
  pub result : Option NameSpan
  pub statement : Statement
  pub line : l ≡ line.Inst result statement
  pub is : inst_of x statement ≡ Some i
  pub name : maybe_at x.text result ≡ cond (has_result i) (Some (codes "v" ++ decimal n)) None

abbrev pub AreInsts : Looks → ℕ → List Inst → (List Line → Type 0) → List Line → Type 0
AreInsts x n [] K ls = K ls
AreInsts x n (i ∷ is) K [] = ⊥
AreInsts x n (i ∷ is) K (l ∷ ls) = IsInst x n i l × AreInsts x (n + 1) is K ls

abbrev pub AreBlocks : Looks → ℕ → ℕ → List Block → (List Line → Type 0) → List Line → Type 0
AreBlocks x k n [] K ls = K ls
AreBlocks x k n (b ∷ bs) K [] = ⊥
AreBlocks x k n (b ∷ bs) K (l ∷ ls) = IsLabel x.text k l × AreInsts x n b.insts (AreBlocks x (k + 1) (n + length b.insts) bs K) ls

abbrev pub Closes : (List Line → Type 0) → List Line → Type 0
Closes K [] = ⊥
Closes K (l ∷ ls) = (l ≡ line.Close) × K ls

-- behind the last line feed stands one more line, without symbols
abbrev pub AreFunctions : List ℕ → (Function → Looks) → List Function → List Line → Type 0
AreFunctions text looks [] ls = ls ≡ line.Nothing ∷ []
AreFunctions text looks (f ∷ fs) [] = ⊥
AreFunctions text looks (f ∷ fs) (l ∷ ls) = IsHead text f l × AreBlocks (looks f) 0 0 f.blocks (Closes (AreFunctions text looks fs)) ls

abbrev pub AreGlobals : List ℕ → List Global → (List Line → Type 0) → List Line → Type 0
AreGlobals text [] K ls = K ls
AreGlobals text (g ∷ gs) K [] = ⊥
AreGlobals text (g ∷ gs) K (l ∷ ls) = IsGlobalLine text g l × AreGlobals text gs K ls

-- ---- the order of instructions

-- phis, where they may stand, then other instructions, and one terminator last
abbrev pub is_ordered : Bool → List Inst → Bool
is_ordered phis [] = false
is_ordered phis (i ∷ is) = cond (is_terminator i) (not (is_nonempty is)) (cond (is_phi i) (phis && is_ordered phis is) (is_ordered false is))

no_both : (i : Inst) → is_phi i ≡ true → is_terminator i ≡ false
unfolding is_phi is_terminator
no_both (inst.Phi t es) e = refl
no_both _ e = absurd (true≢false (sym e))

pub body_ordered : (is : List Inst) → is_body is ≡ true → is_ordered false is ≡ true
body_ordered [] h = h
body_ordered (i ∷ is) h = by (is_terminator i) (is_phi i) (body_ordered is) h
  where
    by : (t f : Bool) → (is_body is ≡ true → is_ordered false is ≡ true) → cond t (not (is_nonempty is)) (not f && is_body is) ≡ true → cond t (not (is_nonempty is)) (cond f (false && is_ordered false is) (is_ordered false is)) ≡ true
    by true f more h = h
    by false true more h = h
    by false false more h = more h

pub order_ordered : (is : List Inst) → is_order is ≡ true → is_ordered true is ≡ true
order_ordered [] h = h
order_ordered (i ∷ is) h = by (is_phi i) refl (order_ordered is) h
  where
    phi : (t : Bool) → is_terminator i ≡ t → is_phi i ≡ true → is_ordered true is ≡ true → cond t (not (is_nonempty is)) (cond true (true && is_ordered true is) (is_ordered false is)) ≡ true
    phi true e f more = absurd (true≢false (sym e ∙ no_both i f))
    phi false e f more = more

    other : (t : Bool) → cond t (not (is_nonempty is)) (cond false (false && is_ordered false is) (is_ordered false is)) ≡ true → cond t (not (is_nonempty is)) (cond false (true && is_ordered true is) (is_ordered false is)) ≡ true
    other true g = g
    other false g = g

    by : (f : Bool) → is_phi i ≡ f → (is_order is ≡ true → is_ordered true is ≡ true) → is_body (drop (cond f (1 + prefix_len is_phi is) 0) (i ∷ is)) ≡ true → cond (is_terminator i) (not (is_nonempty is)) (cond f (true && is_ordered true is) (is_ordered false is)) ≡ true
    by true e more g = let one : 1 + prefix_len is_phi is ≡ suc (prefix_len is_phi is) = omega arith in phi (is_terminator i) refl e (more (ap (λ (n : ℕ). is_body (drop n (i ∷ is))) (sym one) ∙ g))
    by false e more g = other (is_terminator i) (subst (λ (f : Bool). cond (is_terminator i) (not (is_nonempty is)) (cond f (false && is_ordered false is) (is_ordered false is)) ≡ true) e (body_ordered (i ∷ is) g))

-- ---- lines in their places

-- the lines of these tokens are productions from a place on, and state this
pub record Eaten (text : List ℕ) (p : Section) (ls : List canon.Line) (K : List Line → Type 0) : Type 0 where
  pub holds : (ss : List (List Symbol)) → SpelledEach text ss ls → (xs : List Line) × InPlace p ss xs section.Outside × K xs

module _ (text : List ℕ) where
  no_rest : (l : List Symbol) → SpelledAll text l [] → l ≡ []
  no_rest [] h = refl
  no_rest (s ∷ l) h = absurd h

  eaten_of : (p p' : Section) (l : canon.Line) (ls : List canon.Line) (Q : Line → Type 0) (K H : List Line → Type 0) → Eats text (line_at p) l.tokens [] Q → ((x : Line) → Q x → section_after p x ≡ p') → Eaten text p' ls K → ((x : Line) (xs : List Line) → Q x → K xs → H (x ∷ xs))
      → (ss : List (List Symbol)) → SpelledEach text ss (l ∷ ls) → (xs : List Line) × InPlace p ss xs section.Outside × H xs
  eaten_of p p' l ls Q K H a after b f [] h = absurd h
  eaten_of p p' l ls Q K H a after b f (s ∷ ss) h =
      let y = a.holds s h.0 in
      let z = b.holds ss h.1 in
      (y.0 ∷ z.0, (subst (λ (r : List Symbol). Derives (line_at p) s y.0 r) (no_rest y.1 y.3) y.2, subst (λ (q : Section). InPlace q ss z.0 section.Outside) (sym (after y.0 y.4)) z.1), f y.0 z.0 y.4 z.2)

  pub eaten_line : {p p' : Section} {l : canon.Line} {ls : List canon.Line} {Q : Line → Type 0} {K H : List Line → Type 0} → Eats text (line_at p) l.tokens [] Q → ((x : Line) → Q x → section_after p x ≡ p') → ((x : Line) (xs : List Line) → Q x → K xs → H (x ∷ xs)) → Eaten text p' ls K → Eaten text p (l ∷ ls) H
  eaten_line {p = p} {p' = p'} {l = l} {ls = ls} {Q = Q} {K = K} {H = H} a after f b = record { holds = eaten_of p p' l ls Q K H a after b f }

  last_of : (ss : List (List Symbol)) → SpelledEach text ss [] → (xs : List Line) × InPlace section.Outside ss xs section.Outside × (xs ≡ line.Nothing ∷ [])
  unfolding line_at outside blank section_after
  last_of [] h = absurd h
  last_of (s ∷ []) h = (line.Nothing ∷ [], (subst (λ (l : List Symbol). Derives (line_at section.Outside) l line.Nothing []) (sym h) (tt, [], (refl, refl), (refl, refl)), refl), refl)
  last_of (s ∷ r ∷ ss) h = absurd h

  pub eaten_last : Eaten text section.Outside [] (λ xs. xs ≡ line.Nothing ∷ [])
  eaten_last = record { holds = last_of }

abbrev block_place : Bool → Section
block_place true = section.Phis
block_place false = section.Inside

abbrev place_of : Inst → Section
place_of i = cond (is_terminator i) section.Ended (cond (is_phi i) section.Phis section.Inside)

module _ {scope : NameCounts} {x : Looks} {tokens : List (List ℕ)} (known : Known scope x tokens) where
  after_inst : (n : ℕ) (i : Inst) (p : Section) (l : Line) → Numbered known n i l → section_after p l ≡ place_of i
  unfolding section_after
  after_inst n i p l q =
      let s = (q.states).statement in
      let k = (kind_is x s).holds i (q.states).is in
      ap (section_after p) (q.states).line ∙ rw (k.0, k.1) refl

  at_block : (phis : Bool) (ts : List (List ℕ)) (Q : Line → Type 0) → Eats x.text (by (in_block phis)) ts [] Q → Eats x.text (line_at (block_place phis)) ts [] Q
  unfolding line_at
  at_block true ts Q a = a
  at_block false ts Q a = a

  inst_eaten : (phis : Bool) (n : ℕ) (i : Inst) (is : List Inst) (ls : List canon.Line) (K : List Line → Type 0) → (is_phi i ≡ true → phis ≡ true) → is_inst scope i ≡ true → is_inst_in_range i ≡ true → (p : Section) → place_of i ≡ p
      → Eaten x.text p (inst_lines tokens (n + 1) is ++ ls) (AreInsts x (n + 1) is K) → Eaten x.text (block_place phis) (inst_lines tokens n (i ∷ is) ++ ls) (AreInsts x n (i ∷ is) K)
  inst_eaten phis n i is ls K f h g p e more =
      eaten_line x.text {Q = Numbered known n i} (at_block phis _ _ (numbered_eats known phis n i f h g)) (λ l q. after_inst n i (block_place phis) l q ∙ e)
      (λ l ls q k. (record { result = q.result; statement = (q.states).statement; line = (q.states).line; is = (q.states).is; name = q.name }, k)) more

  pub insts_eaten : (phis : Bool) (n : ℕ) (is : List Inst) (ls : List canon.Line) (K : List Line → Type 0) → is_ordered phis is ≡ true → list_all (is_inst scope) is ≡ true → list_all is_inst_in_range is ≡ true → Eaten x.text section.Ended ls K
      → Eaten x.text (block_place phis) (inst_lines tokens n is ++ ls) (AreInsts x n is K)
  insts_eaten phis n [] ls K o h g more = absurd (true≢false (sym o))
  insts_eaten phis n (i ∷ is) ls K o h g more =
      by phis (is_terminator i) (is_phi i) refl refl o
      (λ phis o. insts_eaten phis (n + 1) is ls K o (and_parts (is_inst scope i) (list_all (is_inst scope) is) h).1 (and_parts (is_inst_in_range i) (list_all is_inst_in_range is) g).1 more)
    where
      here : is_inst scope i ≡ true
      here = (and_parts (is_inst scope i) (list_all (is_inst scope) is) h).0

      within : is_inst_in_range i ≡ true
      within = (and_parts (is_inst_in_range i) (list_all is_inst_in_range is) g).0

      ended : (is : List Inst) → not (is_nonempty is) ≡ true → Eaten x.text section.Ended (inst_lines tokens (n + 1) is ++ ls) (AreInsts x (n + 1) is K)
      ended [] e = more
      ended (j ∷ js) e = absurd (true≢false (sym e))

      place_is : (t f : Bool) → is_terminator i ≡ t → is_phi i ≡ f → place_of i ≡ cond t section.Ended (cond f section.Phis section.Inside)
      place_is t f e d = rw (e, d) refl

      by : (phis t f : Bool) → is_terminator i ≡ t → is_phi i ≡ f → cond t (not (is_nonempty is)) (cond f (phis && is_ordered phis is) (is_ordered false is)) ≡ true → ((phis : Bool) → is_ordered phis is ≡ true → Eaten x.text (block_place phis) (inst_lines tokens (n + 1) is ++ ls) (AreInsts x (n + 1) is K)) → Eaten x.text (block_place phis) (inst_lines tokens n (i ∷ is) ++ ls) (AreInsts x n (i ∷ is) K)
      by phis true f e d o next = inst_eaten phis n i is ls K (λ p. absurd (true≢false (sym e ∙ no_both i p))) here within section.Ended (place_is true f e d) (ended is o)
      by true false true e d o next = inst_eaten true n i is ls K (λ p. refl) here within section.Phis (place_is false true e d) (next true o)
      by false false true e d o next = absurd (true≢false (sym o))
      by phis false false e d o next = inst_eaten phis n i is ls K (λ p. absurd (true≢false (sym p ∙ d))) here within section.Inside (place_is false false e d) (next false o)

  abbrev label_place : Bool → Section
  label_place true = section.Start
  label_place false = section.Ended

  at_label : (first : Bool) (k : ℕ) → Eats x.text (line_at (label_place first)) ((codes "b" ++ decimal k) ∷ codes ":" ∷ []) [] (IsLabel x.text k)
  unfolding line_at
  at_label true k = first_label x.text k
  at_label false k = later_label x.text k

  after_label : (k : ℕ) (p : Section) (l : Line) → IsLabel x.text k l → section_after p l ≡ section.Phis
  unfolding section_after
  after_label k p l q = ap (section_after p) q.line

  block_eaten : (first : Bool) (k n : ℕ) (b : Block) (bs : List Block) (ls : List canon.Line) (K : List Line → Type 0) → is_block scope b ≡ true → list_all is_inst_in_range b.insts ≡ true
      → Eaten x.text section.Ended (blocks_lines tokens (k + 1) (n + length b.insts) bs ++ ls) (AreBlocks x (k + 1) (n + length b.insts) bs K)
      → Eaten x.text (label_place first) (blocks_lines tokens k n (b ∷ bs) ++ ls) (AreBlocks x k n (b ∷ bs) K)
  block_eaten first k n b bs ls K h g more =
      let a = and_parts (is_order b.insts) (list_all (is_inst scope) b.insts) h in
      let later : List canon.Line = blocks_lines tokens (k + 1) (n + length b.insts) bs in
      subst (λ (ts : List canon.Line). Eaten x.text (label_place first) (label_line k ∷ ts) (AreBlocks x k n (b ∷ bs) K)) (sym (append_assoc (inst_lines tokens n b.insts) later ls))
      (eaten_line x.text {Q = IsLabel x.text k} (at_label first k) (after_label k (label_place first)) (λ l ls q r. (q, r))
      (insts_eaten true n b.insts (later ++ ls) (AreBlocks x (k + 1) (n + length b.insts) bs K) (order_ordered b.insts a.0) a.1 g more))

  abbrev block_range : Block → Bool
  block_range b = list_all is_inst_in_range b.insts

  later_blocks : (k n : ℕ) (bs : List Block) (ls : List canon.Line) (K : List Line → Type 0) → list_all (is_block scope) bs ≡ true → list_all block_range bs ≡ true → Eaten x.text section.Ended ls K
      → Eaten x.text section.Ended (blocks_lines tokens k n bs ++ ls) (AreBlocks x k n bs K)
  later_blocks k n [] ls K h g more = more
  later_blocks k n (b ∷ bs) ls K h g more =
      let a = and_parts (is_block scope b) (list_all (is_block scope) bs) h in
      let c = and_parts (block_range b) (list_all block_range bs) g in
      block_eaten false k n b bs ls K a.0 c.0 (later_blocks (k + 1) (n + length b.insts) bs ls K a.1 c.1 more)

  pub all_blocks : (bs : List Block) (ls : List canon.Line) (K : List Line → Type 0) → is_nonempty bs ≡ true → list_all (is_block scope) bs ≡ true → list_all block_range bs ≡ true → Eaten x.text section.Ended ls K
      → Eaten x.text section.Start (blocks_lines tokens 0 0 bs ++ ls) (AreBlocks x 0 0 bs K)
  all_blocks [] ls K s h g more = absurd (true≢false (sym s))
  all_blocks (b ∷ bs) ls K s h g more =
      let a = and_parts (is_block scope b) (list_all (is_block scope) bs) h in
      let c = and_parts (block_range b) (list_all block_range bs) g in
      block_eaten true 0 0 b bs ls K a.0 c.0 (later_blocks (0 + 1) (0 + length b.insts) bs ls K a.1 c.1 more)

-- ---- what canonical names stand for

abbrev pub can_globals : ℕ → List Global → List (List ℕ × Meaning)
can_globals k [] = []
can_globals k (g ∷ gs) = (g.name, meaning.Global k) ∷ can_globals (k + 1) gs

abbrev pub can_params : ℕ → List Ty → List (List ℕ × Meaning)
can_params k [] = []
can_params k (t ∷ ts) = (codes "p" ++ decimal k, meaning.Param k) ∷ can_params (k + 1) ts

abbrev pub can_results : ℕ → List Inst → List (List ℕ × Meaning)
can_results n [] = []
can_results n (i ∷ is) = declared (cond (has_result i) (Some (codes "v" ++ decimal n)) None) (meaning.Value n) ++ can_results (n + 1) is

abbrev pub can_blocks : ℕ → List Block → List (List ℕ × Meaning)
can_blocks k [] = []
can_blocks k (b ∷ bs) = (codes "b" ++ decimal k, meaning.Block k) ∷ can_blocks (k + 1) bs

abbrev pub can_looks : List ℕ → List Global → Function → Looks
can_looks text gs f = record { text = text; globals = look (can_globals 0 gs); values = look (can_params 0 f.params ++ can_results 0 (insts_of f)); blocks = look (can_blocks 0 f.blocks) }

-- ---- whole modules

module _ (text : List ℕ) (gs : List Global) where
  abbrev pub KnownEach : List Function → Type 0
  KnownEach [] = Unit {0}
  KnownEach (f ∷ fs) = Known (scope_of (length gs) f) (can_looks text gs f) (names_tokens gs) × KnownEach fs

  at_head : (f : Function) → is_result_type (cond f.is_void None (Some f.result)) ≡ true → list_all is_type f.params ≡ true → Eats text (line_at section.Outside) (define_tokens f) [] (IsHead text f)
  unfolding line_at
  at_head f h g = head_eats text f h g

  after_head : (f : Function) (l : Line) → IsHead text f l → section_after section.Outside l ≡ section.Start
  unfolding section_after
  after_head f l q = ap (section_after section.Outside) q.line

  at_close : Eats text (line_at section.Ended) (codes "}" ∷ []) [] (λ l. l ≡ line.Close)
  unfolding line_at
  at_close = close_eats text

  after_close : (l : Line) → l ≡ line.Close → section_after section.Ended l ≡ section.Outside
  unfolding section_after
  after_close l q = ap (section_after section.Ended) q

  at_global : (g : Global) → is_global g ≡ true → is_global_in_range g ≡ true → Eats text (line_at section.Outside) (global_tokens g) [] (IsGlobalLine text g)
  unfolding line_at
  at_global g h r = global_eats text g h r

  after_global : (g : Global) (l : Line) → IsGlobalLine text g l → section_after section.Outside l ≡ section.Outside
  unfolding section_after
  after_global g l q = ap (section_after section.Outside) q.line

  result_fits : (v : Bool) (t : Ty) → cond v (is_bit t) (is_type t) ≡ true → is_result_type (cond v None (Some t)) ≡ true
  result_fits true t h = refl
  result_fits false t h = h

  pub functions_eaten : (fs : List Function) → list_all (is_function (length gs)) fs ≡ true → list_all is_function_in_range fs ≡ true → KnownEach fs → Eaten text section.Outside (flat_map (function_lines (names_tokens gs)) fs) (AreFunctions text (can_looks text gs) fs)
  functions_eaten [] h g k = eaten_last text
  functions_eaten (f ∷ fs) h g k =
      let tokens = names_tokens gs in
      let a = and_parts (is_function (length gs) f) (list_all (is_function (length gs)) fs) h in
      let c = and_parts (is_function_in_range f) (list_all is_function_in_range fs) g in
      let result = cond f.is_void (is_bit f.result) (is_type f.result) in
      let parts = and_parts (is_function_name f.name && result && list_all is_type f.params && is_nonempty f.blocks) (list_all (is_block (scope_of (length gs) f)) f.blocks) a.0 in
      let some = and_parts (is_function_name f.name && result && list_all is_type f.params) (is_nonempty f.blocks) parts.0 in
      let params = and_parts (is_function_name f.name && result) (list_all is_type f.params) some.0 in
      let front = and_parts (is_function_name f.name) result params.0 in
      let later : List canon.Line = flat_map (function_lines tokens) fs in
      let K = AreFunctions text (can_looks text gs) fs in
      subst (λ (ts : List canon.Line). Eaten text section.Outside (flush (define_tokens f) ∷ ts) (AreFunctions text (can_looks text gs) (f ∷ fs))) (sym (append_assoc (blocks_lines tokens 0 0 f.blocks) (flush (codes "}" ∷ []) ∷ []) later))
      (eaten_line text {Q = IsHead text f} (at_head f (result_fits f.is_void f.result front.1) params.1) (after_head f) (λ l ls q r. (q, r))
      (all_blocks k.0 f.blocks (flush (codes "}" ∷ []) ∷ later) (Closes K) some.1 parts.1 c.0
      (eaten_line text {Q = λ l. l ≡ line.Close} {K = K} at_close after_close (λ l ls q r. (q, r)) (functions_eaten fs a.1 c.1 k.1))))

  pub globals_eaten : (hs : List Global) (ls : List canon.Line) (K : List Line → Type 0) → list_all is_global hs ≡ true → list_all is_global_in_range hs ≡ true → Eaten text section.Outside ls K → Eaten text section.Outside (map global_line hs ++ ls) (AreGlobals text hs K)
  globals_eaten [] ls K h g more = more
  globals_eaten (x ∷ hs) ls K h g more =
      let a = and_parts (is_global x) (list_all is_global hs) h in
      let c = and_parts (is_global_in_range x) (list_all is_global_in_range hs) g in
      eaten_line text {Q = IsGlobalLine text x} (at_global x a.0 c.0) (after_global x) (λ l ls q r. (q, r)) (globals_eaten hs ls K a.1 c.1 more)
