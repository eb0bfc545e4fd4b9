-- What the lines of globals make of canonical tokens.
use Rattle.std.proofs.Common.{◌≡◌, ℕ, suc, Bool, true, false, cond, ◌&&◌, not, pos, negsuc, List, [], ◌∷◌, ◌++◌, length, map, Option, Some, None, refl, sym, ap, subst, ◌∙◌, codes, append_assoc, ◌==◌, true≢false, arith, nat_eq, ◌^◌}
use Rattle.std.specs.List.{list_all, starts_with}
use Rattle.std.specs.Ordering.{int_eq}
use Rattle.std.proofs.lemmas.Bool.Decides.{Decides-int_eq}
use Rattle.std.proofs.lemmas.Bool.{and_parts, and_from, not-true, eqb-true, false_from_ne_true, ltb-true, eq-eqb}
use Rattle.ax_module.specs.declared.types.Ty.{Ty}
use Rattle.ax_module.specs.declared.types.Ty.TheVariants as ty
use Rattle.ax_module.specs.declared.operand.Operand.{Operand}
use Rattle.ax_module.specs.declared.operand.Operand.TheVariants as operand
use Rattle.ax_module.specs.declared.module.Global.{Global}
use Rattle.ax_module.specs.Names.{is_name, global_token}
use Rattle.ax_ir.specs.OperandTokens.{parted, type_tokens, array_tokens, elements_tokens, align_tokens, operand_token, typed_tokens}
use Rattle.ax_ir.specs.Canonical.{init_tokens, global_tokens}
use Rattle.ax_module.specs.WellFormed.{begins_with, is_type, is_constant, is_zero, is_init, is_global_name, is_global}
use Rattle.ax_module.specs.Ranges.{is_word, is_stated_word, is_in_range, is_global_in_range}
use Rattle.ax_symbols.specs.declared.symbol.Sign.{Sign}
use Rattle.ax_symbols.specs.declared.symbol.Sign.TheVariants as sign
use Rattle.ax_symbols.specs.declared.vocabulary.Word.TheVariants as word
use Rattle.ax_symbols.specs.declared.symbol.NameSpan.{NameSpan}
use Rattle.ax_symbols.specs.declared.pass.Pass.TheVariants as pass
use Rattle.ax_symbols.specs.declared.values.Value.{Value}
use Rattle.ax_symbols.specs.declared.values.Value.TheVariants as value
use Rattle.ax_lines.specs.declared.statement.Line.{Line}
use Rattle.ax_lines.specs.declared.statement.Line.TheVariants as line
use Rattle.ax_symbols.specs.Signs.{same_sign, same_mark}
use Rattle.ax_symbols.specs.Symbols.{word_of}
use Rattle.ax_symbols.specs.Pieces.{const_in, const_of}
use Rattle.ax_symbols.specs.Grammar.{by, one}
use Rattle.ax_lines.specs.Productions as lines
use Rattle.ax_lines.specs.Productions.{global_line, initial, element, same_type, kept, count_or, outside, elements}
use Rattle.ax_scope.specs.Names.{text_at}
use Rattle.ax_scope.specs.Module.{constant_of}
use Rattle.ax_again.proofs.Numerals.{decimal_sign, negative_sign}
use Rattle.ax_again.proofs.Eats.{token_sign, nth_sign, Eats, ◌>>=◌, ◌>>◌, eaten, sign1, one_eats, Quiet, passes, takes, skips, by_eats, when_true}
use Rattle.ax_again.proofs.EatPieces.{constant_value, constant_sign, negsuc_below, global_token_sign, type_eats, alignment_eats}
use Rattle.ax_again.proofs.EatPointers.{single_eats, array_eats}
use Rattle.ax_again.proofs.EatLists.{Each2, list_eats}
use Rattle.ax_again.proofs.EatOuter.{name_eats}

-- ---- constants

not_zero_word : (v : Operand) → is_constant v ≡ true → is_in_range v ≡ true → same_sign (token_sign (operand_token v)) (sign.Word word.Zeroinitializer) ≡ false
not_zero_word (operand.Const (pos n)) c r = let f = ltb-true n (2 ^ 127) r in ap (λ (a : Sign). same_sign a (sign.Word word.Zeroinitializer)) (decimal_sign n (omega (arith, f)))
not_zero_word (operand.Const (negsuc n)) c r = ap (λ (a : Sign). same_sign a (sign.Word word.Zeroinitializer)) (negative_sign n (negsuc_below n r))
not_zero_word (operand.Wide n) c r = ap (λ (a : Sign). same_sign a (sign.Word word.Zeroinitializer)) (decimal_sign n (ltb-true n (2 ^ 128) r))
not_zero_word (operand.Value k) c r = absurd cc
not_zero_word (operand.Param k) c r = absurd cc

same_bools : (a b : Bool) → (a ≡ true → b ≡ true) → (b ≡ true → a ≡ true) → a ≡ b
same_bools true b f g = sym (f refl)
same_bools false true f g = g refl
same_bools false false f g = refl

int_zero : (n : ℕ) → (n == 0) ≡ int_eq (pos n) (pos 0)
int_zero n = same_bools (n == 0) (int_eq (pos n) (pos 0)) (λ e. (Decides-int_eq (pos n) (pos 0)).1 (ap pos (eqb-true n 0 e))) (λ e. let p = (Decides-int_eq (pos n) (pos 0)).0 e in eq-eqb n 0 (cc))

zero_same : (v : Operand) → is_constant v ≡ true → lines.is_zero (constant_value v) ≡ is_zero v
zero_same (operand.Const (pos n)) c = int_zero n
zero_same (operand.Const (negsuc n)) c = refl
zero_same (operand.Wide n) c = refl
zero_same (operand.Value k) c = absurd cc
zero_same (operand.Param k) c = absurd cc

zeros_same : (vs : List Operand) → list_all is_constant vs ≡ true → list_all lines.is_zero (map constant_value vs) ≡ list_all is_zero vs
zeros_same [] h = refl
zeros_same (v ∷ vs) h = let a = and_parts (is_constant v) (list_all is_constant vs) h in rw (zero_same v a.0, zeros_same vs a.1) refl

constant_again : (v : Operand) → is_constant v ≡ true → constant_of (constant_value v) ≡ v
constant_again (operand.Const n) c = refl
constant_again (operand.Wide n) c = refl
constant_again (operand.Value k) c = absurd cc
constant_again (operand.Param k) c = absurd cc

constants_again : (vs : List Operand) → list_all is_constant vs ≡ true → map constant_of (map constant_value vs) ≡ vs
constants_again [] h = refl
constants_again (v ∷ vs) h = let a = and_parts (is_constant v) (list_all is_constant vs) h in rw (constant_again v a.0, constants_again vs a.1) refl

kept_again : (vs : List Operand) → list_all is_constant vs ≡ true → list_all is_zero vs ≡ false → map constant_of (kept (map constant_value vs)) ≡ vs
kept_again vs h z = rw (zeros_same vs h, z) (constants_again vs h)

same_self : (t : Ty) → same_type t t ≡ true
same_self ty.I1 = refl
same_self (ty.Int n) = eq-eqb n n refl
same_self _ = refl

-- ---- names

starts_front : (xs ys zs : List ℕ) → starts_with nat_eq xs (ys ++ zs) ≡ true → starts_with nat_eq xs ys ≡ true
starts_front xs [] zs h = refl
starts_front [] (y ∷ ys) zs h = h
starts_front (x ∷ xs) (y ∷ ys) zs h = let a = and_parts (nat_eq y x) (starts_with nat_eq xs (ys ++ zs)) h in and_from (nat_eq y x) (starts_with nat_eq xs ys) a.0 (starts_front xs ys zs a.1)

global_first : (name : List ℕ) → begins_with (codes "llvm.") name ≡ false → token_sign (global_token name) ≡ sign.Global
global_first name h =
    let longer : begins_with (codes "llvm.lifetime.") name ≡ false = false_from_ne_true _ (λ e. true≢false (sym (starts_front name (codes "llvm.") (codes "lifetime.") e) ∙ h)) in
    global_token_sign name
    ∙ ap (λ (b : Bool). cond b sign.Lifetime (cond (begins_with (codes "llvm.") name) sign.Intrinsic sign.Global)) longer
    ∙ ap (λ (b : Bool). cond b sign.Intrinsic sign.Global) h

-- ---- lines

module _ (text : List ℕ) where
  elements_exact : (count : ℕ) (t : Ty) {us : List (List ℕ)} → is_word count ≡ true → is_type t ≡ true → Eats text elements (elements_tokens count t ++ us) us (λ e. (e.0 ≡ t) × (e.1 ≡ cond (count == 1) None (Some count)))
  unfolding elements_tokens
  elements_exact count t {us = us} w h = by (count == 1)
    where
      by : (b : Bool) → Eats text elements (cond b (type_tokens t) (array_tokens count t) ++ us) us (λ e. (e.0 ≡ t) × (e.1 ≡ cond b None (Some count)))
      by true = single_eats t h
      by false = array_eats count t w h

  count_is : (count : ℕ) → count_or 1 (cond (count == 1) None (Some count)) ≡ count
  count_is count = by (count == 1) refl
    where
      by : (b : Bool) → count == 1 ≡ b → count_or 1 (cond b None (Some count)) ≡ count
      by true e = sym (eqb-true count 1 e)
      by false e = refl

  abbrev const_test : Operand → Bool
  const_test v = is_constant v && is_in_range v

  abbrev ConstIs : Operand → Value → Type 0
  ConstIs v w = w ≡ constant_value v

  const_eats : (v : Operand) {us : List (List ℕ)} → const_test v ≡ true → Eats text (one const_of) (operand_token v ∷ us) us (ConstIs v)
  const_eats v h = let a = and_parts (is_constant v) (is_in_range v) h in one_eats (λ s f. (constant_value v, ap const_in f.sign ∙ constant_sign v a.0 a.1, refl))

  element_eats : (t : Ty) → is_type t ≡ true → (v : Operand) (us : List (List ℕ)) → const_test v ≡ true → Eats text (element t) (typed_tokens t v ++ us) us (ConstIs v)
  unfolding element typed_tokens
  element_eats t h v us c = subst (λ (ts : List (List ℕ)). Eats text (element t) ts us (ConstIs v)) (sym (append_assoc (type_tokens t) (operand_token v ∷ []) us)) (do
    u ← type_eats t h
    when_true (ap (same_type t) u.1 ∙ same_self t)
    const_eats v c)

  consts_are : (vs : List Operand) (ws : List Value) → Each2 ConstIs vs ws → ws ≡ map constant_value vs
  consts_are [] [] h = refl
  consts_are [] (w ∷ ws) h = absurd h
  consts_are (v ∷ vs) [] h = absurd h
  consts_are (v ∷ vs) (w ∷ ws) h = rw (h.0, consts_are vs ws h.1) refl

  tests_join : (vs : List Operand) → list_all is_constant vs ≡ true → list_all is_in_range vs ≡ true → list_all const_test vs ≡ true
  tests_join [] h g = refl
  tests_join (v ∷ vs) h g =
      let a = and_parts (is_constant v) (list_all is_constant vs) h in
      let b = and_parts (is_in_range v) (list_all is_in_range vs) g in
      rw (a.0, b.0, tests_join vs a.1 b.1) refl

  map_length : (vs : List Operand) → length (map constant_value vs) ≡ length vs
  map_length [] = refl
  map_length (v ∷ vs) = ap suc (map_length vs)

  abbrev InitIs : List Operand → List Value → Type 0
  InitIs init vs = map constant_of (kept vs) ≡ init

  zeros_eat : (t : Ty) (one_only : Bool) (count : ℕ) {us : List (List ℕ)} → Eats text (initial t (cond one_only None (Some count))) (cond one_only (codes "0") (codes "zeroinitializer") ∷ us) us (InitIs [])
  unfolding initial word_of
  zeros_eat t true count = skips refl (do
    v ← one_eats {Q = λ (w : Value). w ≡ value.Const (pos 0)} (λ s f. (value.Const (pos 0), ap const_in f.sign, refl))
    eaten (rw v.1 refl))
  zeros_eat t false count = takes (sign1 refl) (eaten refl)

  one_eat : (t : Ty) (v : Operand) (vs : List Operand) {us : List (List ℕ)} → length (v ∷ vs) ≡ 1 → list_all is_constant (v ∷ vs) ≡ true → list_all is_zero (v ∷ vs) ≡ false → is_in_range v ≡ true → Eats text (initial t None) (operand_token v ∷ us) us (InitIs (v ∷ vs))
  unfolding initial
  one_eat t v (w ∷ vs) n c z r = absurd (omega (arith, n))
  one_eat t v [] n c z r =
      let a = and_parts (is_constant v) true c in
      skips (not_zero_word v a.0 r) (do
        w ← const_eats v (and_from (is_constant v) (is_in_range v) a.0 r)
        eaten (ap (λ (x : Value). map constant_of (kept (x ∷ []))) w.1 ∙ kept_again (v ∷ []) c z))

  many_eat : (t : Ty) (v : Operand) (vs : List Operand) (count : ℕ) {us : List (List ℕ)} → is_type t ≡ true → length (v ∷ vs) == count ≡ true → list_all is_constant (v ∷ vs) ≡ true → list_all is_zero (v ∷ vs) ≡ false → list_all is_in_range (v ∷ vs) ≡ true
      → Eats text (initial t (Some count)) (codes "[" ∷ (parted (typed_tokens t) (v ∷ vs) ++ (codes "]" ∷ us))) us (InitIs (v ∷ vs))
  unfolding initial same_mark
  many_eat t v vs count {us = us} h n c z r = skips refl (do
    sign1 refl
    ws ← list_eats text (element t) (typed_tokens t) const_test ConstIs (element_eats t h) (codes "]" ∷ us) refl (v ∷ vs) refl (tests_join (v ∷ vs) c r)
    sign1 refl
    when_true (ap (λ (xs : List Value). length xs == count) (consts_are (v ∷ vs) ws.0 ws.1) ∙ ap (λ (k : ℕ). k == count) (map_length (v ∷ vs)) ∙ n)
    eaten (ap (λ (xs : List Value). map constant_of (kept xs)) (consts_are (v ∷ vs) ws.0 ws.1) ∙ kept_again (v ∷ vs) c z))

  init_eats : (t : Ty) (count : ℕ) (init : List Operand) {us : List (List ℕ)} → is_type t ≡ true → is_init count init ≡ true → list_all is_in_range init ≡ true → Eats text (initial t (cond (count == 1) None (Some count))) (init_tokens t count init ++ us) us (InitIs init)
  unfolding init_tokens
  init_eats t count [] h i r = zeros_eat t (count == 1) count
  init_eats t count (v ∷ vs) {us = us} h i r = by (count == 1) refl
    where
      front : (length (v ∷ vs) == count && list_all is_constant (v ∷ vs) ≡ true) × (not (list_all is_zero (v ∷ vs)) ≡ true)
      front = and_parts (length (v ∷ vs) == count && list_all is_constant (v ∷ vs)) (not (list_all is_zero (v ∷ vs))) i

      parts : (length (v ∷ vs) == count ≡ true) × (list_all is_constant (v ∷ vs) ≡ true)
      parts = and_parts (length (v ∷ vs) == count) (list_all is_constant (v ∷ vs)) front.0

      zero : list_all is_zero (v ∷ vs) ≡ false
      zero = not-true (list_all is_zero (v ∷ vs)) front.1

      by : (b : Bool) → count == 1 ≡ b → Eats text (initial t (cond b None (Some count))) (cond b (operand_token v ∷ []) ((codes "[" ∷ parted (typed_tokens t) (v ∷ vs)) ++ (codes "]" ∷ [])) ++ us) us (InitIs (v ∷ vs))
      by true e = one_eat t v vs (eqb-true (length (v ∷ vs)) count parts.0 ∙ eqb-true count 1 e) parts.1 zero (and_parts (is_in_range v) (list_all is_in_range vs) r).0
      by false e = subst (λ (ts : List (List ℕ)). Eats text (initial t (Some count)) (codes "[" ∷ ts) us (InitIs (v ∷ vs))) (sym (append_assoc (parted (typed_tokens t) (v ∷ vs)) (codes "]" ∷ []) us)) (many_eat t v vs count h parts.0 parts.1 zero r)

  -- the line states the global
  pub record IsGlobalLine (g : Global) (l : Line) : Type 0 where
    pub name : NameSpan
    pub values : List Value
    pub line : l ≡ line.Global name g.elem g.count values g.align
    pub name_is : text_at text name ≡ g.name
    pub values_are : map constant_of values ≡ g.init

  at_elements : (t u : Ty) (o p : Option ℕ) {ts us : List (List ℕ)} {Q : List Value → Type 0} → u ≡ t → p ≡ o → Eats text (initial t o) ts us Q → Eats text (initial u p) ts us Q
  at_elements t u o p {ts = ts} {us = us} {Q = Q} e f a = subst (λ (v : Ty). Eats text (initial v p) ts us Q) (sym e) (subst (λ (q : Option ℕ). Eats text (initial t q) ts us Q) (sym f) a)

  quiet_word : Quiet pass.Plain (sign.Word word.Global)
  quiet_word = record { passed = refl; captures = refl; align = refl; bytes = refl }

  line_is : (g : Global) (n : NameSpan) (t : Ty) (o : Option ℕ) (vs : List Value) (a : Option ℕ) → text_at text n ≡ g.name → t ≡ g.elem → o ≡ cond (g.count == 1) None (Some g.count) → InitIs g.init vs → a ≡ g.align → IsGlobalLine g (line.Global n t (count_or 1 o) (kept vs) a)
  line_is g n t o vs a e h f i k =
      record { name = n; values = kept vs; line = rw (h, k) (ap (λ (c : ℕ). line.Global n g.elem c (kept vs) g.align) (ap (count_or 1) f ∙ count_is g.count)); name_is = e; values_are = i }

  global_of_line : (g : Global) → is_global g ≡ true → is_global_in_range g ≡ true → Eats text global_line (global_tokens g) [] (IsGlobalLine g)
  unfolding global_line global_tokens word_of
  global_of_line g h r =
      let a = and_parts (is_global_name g.name && is_type g.elem) (is_init g.count g.init) h in
      let b = and_parts (is_global_name g.name) (is_type g.elem) a.0 in
      let c = and_parts (is_word g.count && is_stated_word g.align) (list_all is_in_range g.init) r in
      let d = and_parts (is_word g.count) (is_stated_word g.align) c.0 in
      subst (λ (ts : List (List ℕ)). Eats text global_line (global_token g.name ∷ codes "=" ∷ codes "global" ∷ ts) [] (IsGlobalLine g)) (sym (append_assoc (elements_tokens g.count g.elem) (init_tokens g.elem g.count g.init) (align_tokens g.align))) (do
        n ← name_eats text g.name
        sign1 refl
        passes quiet_word
        sign1 refl
        e ← elements_exact g.count g.elem d.0 b.1
        vs ← at_elements g.elem e.0.0 _ e.0.1 e.1.0 e.1.1 (init_eats g.elem g.count g.init b.1 a.1 c.1)
        k ← alignment_eats g.align d.1
        eaten (line_is g n.0 e.0.0 e.0.1 vs.0 k.0 n.1 e.1.0 e.1.1 vs.1 k.1))

  pub global_eats : (g : Global) → is_global g ≡ true → is_global_in_range g ≡ true → Eats text (by outside) (global_tokens g) [] (IsGlobalLine g)
  unfolding outside global_tokens
  global_eats g h r =
      let a = and_parts (is_global_name g.name && is_type g.elem) (is_init g.count g.init) h in
      let b = and_parts (is_global_name g.name) (is_type g.elem) a.0 in
      let n = and_parts (is_name g.name) (not (begins_with (codes "llvm.") g.name)) b.0 in
      by_eats (subst (λ (s : Sign). Eats text (outside s (nth_sign (global_tokens g) 1)) (global_tokens g) [] (IsGlobalLine g)) (sym (global_first g.name (not-true _ n.1))) (global_of_line g h r))
