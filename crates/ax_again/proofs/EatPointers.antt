-- What pointers and the types of arrays make of canonical tokens.
use Rattle.std.proofs.Common.{◌≡◌, ℕ, Bool, true, false, cond, List, [], ◌∷◌, ◌++◌, Option, Some, None, refl, sym, ap, subst, ◌∙◌, codes, decimal, nat_lt, ◌^◌, ◌==◌, append_assoc}
use Rattle.std.proofs.lemmas.Bool.{and_parts, eqb-true, ltb-true}
use Rattle.ax_module.specs.declared.types.Ty.{Ty}
use Rattle.ax_module.specs.declared.types.Ty.TheVariants as ty
use Rattle.ax_module.specs.declared.operand.Operand.{Operand}
use Rattle.ax_module.specs.declared.operand.Base.{Base}
use Rattle.ax_module.specs.declared.operand.Base.TheVariants as base
use Rattle.ax_module.specs.declared.operand.Addr.{Addr}
use Rattle.ax_ir.specs.OperandTokens.{operand_token, type_tokens, array_tokens, typed_tokens, base_token, pointer_tokens, gep_tokens, constant_gep_tokens, step_tokens, addr_tokens}
use Rattle.ax_module.specs.WellFormed.{NameCounts, is_type, is_operand, is_typed, is_base, is_step, is_addr}
use Rattle.ax_module.specs.Ranges.{is_word, is_in_range, is_step_in_range, is_addr_in_range}
use Rattle.ax_symbols.specs.declared.symbol.Sign.{Sign}
use Rattle.ax_symbols.specs.declared.symbol.Sign.TheVariants as sign
use Rattle.ax_symbols.specs.declared.vocabulary.Word.TheVariants as word
use Rattle.ax_symbols.specs.declared.symbol.Punctuation.TheVariants as mark
use Rattle.ax_symbols.specs.declared.pass.Pass.TheVariants as pass
use Rattle.ax_lines.specs.declared.statement.Path.{Path}
use Rattle.ax_symbols.specs.Signs.{same_sign, same_mark}
use Rattle.ax_symbols.specs.Symbols.{word_of, int_or_word, global_sign}
use Rattle.ax_symbols.specs.declared.symbol.Punctuation.{Punctuation}
use Rattle.ax_symbols.specs.declared.pass.Pass.{Pass}
use Rattle.ax_again.proofs.Numerals.{width_sign}
use Rattle.ax_symbols.specs.Grammar.{typed}
use Rattle.ax_lines.specs.Productions.{elements, count_or, first_index, path, pointer_behind, pointer_operand}
use Rattle.ax_scope.specs.Resolve as resolve
use Rattle.ax_scope.specs.Resolve.{Looks, operand_of, addr_of}
use Rattle.ax_again.proofs.Eats.{token_sign, nth_sign, Eats, ◌>>=◌, ◌>>◌, eaten, sign1, sign2, Quiet, passes, takes, skips}
use Rattle.ax_again.proofs.EatPieces.{quiet_int, quiet_local, quiet_global, quiet_sign, Known, type_eats, count_eats, base_eats, typed_value_eats, global_token_sign}

int_no_mark : (o : Option ℕ) (bytes : List ℕ) → same_sign (int_or_word o bytes) (sign.Mark mark.OpenBracket) ≡ false
int_no_mark None bytes = refl
int_no_mark (Some n) bytes = refl

-- no type begins so
type_no_bracket : (t : Ty) (us : List (List ℕ)) → same_sign (nth_sign (type_tokens t ++ us) 0) (sign.Mark mark.OpenBracket) ≡ false
unfolding same_mark
type_no_bracket ty.I1 us = refl
type_no_bracket (ty.Int n) us = int_no_mark _ (codes "i" ++ decimal n)
type_no_bracket _ us = refl

quiet_float : (k : Pass) → Quiet k (sign.Word word.Float)
quiet_float pass.Plain = record { passed = refl; captures = refl; align = refl; bytes = refl }
quiet_float _ = record { passed = refl; captures = refl; align = refl; bytes = refl }

quiet_double : (k : Pass) → Quiet k (sign.Word word.Double)
quiet_double pass.Plain = record { passed = refl; captures = refl; align = refl; bytes = refl }
quiet_double _ = record { passed = refl; captures = refl; align = refl; bytes = refl }

quiet_ptr : (k : Pass) → Quiet k (sign.Word word.Ptr)
quiet_ptr pass.Plain = record { passed = refl; captures = refl; align = refl; bytes = refl }
quiet_ptr _ = record { passed = refl; captures = refl; align = refl; bytes = refl }

pub quiet_gep : (k : Pass) → Quiet k (sign.Word word.Getelementptr)
quiet_gep pass.Plain = record { passed = refl; captures = refl; align = refl; bytes = refl }
quiet_gep _ = record { passed = refl; captures = refl; align = refl; bytes = refl }

pub quiet_void : (k : Pass) → Quiet k (sign.Word word.Void)
quiet_void pass.Plain = record { passed = refl; captures = refl; align = refl; bytes = refl }
quiet_void _ = record { passed = refl; captures = refl; align = refl; bytes = refl }

pub quiet_mark : (k : Pass) (m : Punctuation) → Quiet k (sign.Mark m)
quiet_mark pass.Plain m = record { passed = refl; captures = refl; align = refl; bytes = refl }
quiet_mark _ m = record { passed = refl; captures = refl; align = refl; bytes = refl }

pub quiet_type : (k : Pass) (t : Ty) (us : List (List ℕ)) → is_type t ≡ true → Quiet k (nth_sign (type_tokens t ++ us) 0)
unfolding word_of
quiet_type k ty.I1 us h = quiet_int k 1
quiet_type k ty.I8 us h = quiet_int k 8
quiet_type k ty.I16 us h = quiet_int k 16
quiet_type k ty.I32 us h = quiet_int k 32
quiet_type k ty.I64 us h = quiet_int k 64
quiet_type k ty.I128 us h = quiet_int k 128
quiet_type k (ty.Int n) us h = quiet_sign k (sign.Int n) _ (width_sign n (ltb-true n (10 ^ 8) (and_parts (nat_lt n (10 ^ 8)) _ h).0)) (quiet_int k n)
quiet_type k ty.Float us h = quiet_float k
quiet_type k ty.Double us h = quiet_double k
quiet_type k ty.Ptr us h = quiet_ptr k
quiet_type k ty.Vector us h = quiet_mark k mark.Less

pub quiet_typed : (k : Pass) (t : Ty) (v : Operand) (us : List (List ℕ)) → is_type t ≡ true → Quiet k (nth_sign (typed_tokens t v ++ us) 0)
unfolding typed_tokens
quiet_typed k t v us h = subst (λ (ts : List (List ℕ)). Quiet k (nth_sign ts 0)) (sym (append_assoc (type_tokens t) (operand_token v ∷ []) us)) (quiet_type k t (operand_token v ∷ us) h)

module _ {text : List ℕ} where
  pub array_eats : (count : ℕ) (t : Ty) {us : List (List ℕ)} → is_word count ≡ true → is_type t ≡ true → Eats text elements (array_tokens count t ++ us) us (λ e. (e.0 ≡ t) × (e.1 ≡ Some count))
  unfolding elements array_tokens word_of
  array_eats count t {us = us} w h =
      takes (sign1 refl) (do
        c ← count_eats w
        sign1 refl
        u ← subst (λ (ts : List (List ℕ)). Eats text typed ts (codes "]" ∷ us) (λ u. u ≡ t)) (sym (append_assoc (type_tokens t) (codes "]" ∷ []) us)) (type_eats t h)
        sign1 refl
        eaten (u.1, ap (λ n. Some n) c.1))

  pub single_eats : (t : Ty) {us : List (List ℕ)} → is_type t ≡ true → Eats text elements (type_tokens t ++ us) us (λ e. (e.0 ≡ t) × (e.1 ≡ None))
  unfolding elements
  single_eats t {us = us} h = skips (type_no_bracket t us) (do
    u ← type_eats t h
    eaten (u.1, refl))

-- ---- pointers

module _ {scope : NameCounts} {x : Looks} {tokens : List (List ℕ)} (known : Known scope x tokens) where
  -- a base begins with nothing that is passed over, and is no word
  pub base_quiet : (k : Pass) (b : Base) → is_base scope b ≡ true → Quiet k (token_sign (base_token tokens b))
  base_quiet k (base.Global g) h = let n = known.global g h in quiet_sign k (global_sign n.0) _ (ap token_sign n.1 ∙ global_token_sign n.0) (quiet_global k n.0 _ _)
  base_quiet k (base.Value j) h = quiet_local k
  base_quiet k (base.Param j) h = quiet_local k

  global_no_word : (b c : Bool) → same_sign (cond b sign.Lifetime (cond c sign.Intrinsic sign.Global)) (sign.Word word.Getelementptr) ≡ false
  global_no_word true c = refl
  global_no_word false true = refl
  global_no_word false false = refl

  base_no_word : (b : Base) → is_base scope b ≡ true → same_sign (token_sign (base_token tokens b)) (sign.Word word.Getelementptr) ≡ false
  base_no_word (base.Global g) h = let n = known.global g h in ap (λ (a : Sign). same_sign a (sign.Word word.Getelementptr)) (ap token_sign n.1 ∙ global_token_sign n.0) ∙ global_no_word _ _
  base_no_word (base.Value j) h = refl
  base_no_word (base.Param j) h = refl

  abbrev pub PathIs : Ty → ℕ → Base → Ty → Operand → Path → Type 0
  PathIs elem count b t v q = (q.elem ≡ elem) × (q.count ≡ count) × (resolve.base_of x q.base ≡ Some b) × (q.index_type ≡ t) × (operand_of x q.index ≡ Some v)

  path_single : (elem : Ty) (b : Base) (t : Ty) (v : Operand) {us : List (List ℕ)} → is_type elem ≡ true → is_base scope b ≡ true → is_type t ≡ true → is_operand scope v ≡ true → is_in_range v ≡ true
      → Eats x.text path (type_tokens elem ++ (codes "," ∷ codes "ptr" ∷ base_token tokens b ∷ codes "," ∷ (typed_tokens t v ++ us))) us (PathIs elem 0 b t v)
  unfolding path first_index word_of
  path_single elem b t v {us = us} e h s o r = do
    l ← single_eats elem e
    sign2 refl refl
    c ← base_eats known b h
    sign1 refl
    subst (λ (n : Option ℕ). Eats x.text (first_index n) (typed_tokens t v ++ us) (typed_tokens t v ++ us) (λ _. Unit {0})) (sym l.1.1) (eaten tt)
    i ← typed_value_eats known t v s o r
    eaten (l.1.0, ap (count_or 0) l.1.1, c.1, i.1.0, i.1.1)

  path_array : (elem : Ty) (count : ℕ) (b : Base) (t : Ty) (v : Operand) {us : List (List ℕ)} → is_type elem ≡ true → is_word count ≡ true → is_base scope b ≡ true → is_type t ≡ true → is_operand scope v ≡ true → is_in_range v ≡ true
      → Eats x.text path (array_tokens count elem ++ (codes "," ∷ codes "ptr" ∷ base_token tokens b ∷ codes "," ∷ codes "i64" ∷ codes "0" ∷ codes "," ∷ (typed_tokens t v ++ us))) us (PathIs elem count b t v)
  unfolding path first_index word_of
  path_array elem count b t v {us = us} e w h s o r = do
    l ← array_eats count elem w e
    sign2 refl refl
    c ← base_eats known b h
    sign1 refl
    subst (λ (n : Option ℕ). Eats x.text (first_index n) (codes "i64" ∷ codes "0" ∷ codes "," ∷ (typed_tokens t v ++ us)) (typed_tokens t v ++ us) (λ _. Unit {0})) (sym l.1.1) (do
      k ← type_eats ty.I64 refl
      sign2 refl refl)
    i ← typed_value_eats known t v s o r
    eaten (l.1.0, ap (count_or 0) l.1.1, c.1, i.1.0, i.1.1)

  abbrev index_tokens : Ty → Operand → List (List ℕ)
  index_tokens t v = codes "," ∷ typed_tokens t v

  abbrev one_tokens : Base → List (List ℕ)
  one_tokens b = codes "," ∷ pointer_tokens tokens b

  abbrev zero_tokens : List (List ℕ)
  zero_tokens = codes "," ∷ codes "i64" ∷ codes "0" ∷ []

  pointer_onto : (b : Base) (rest : List (List ℕ)) → pointer_tokens tokens b ++ rest ≡ codes "ptr" ∷ base_token tokens b ∷ rest
  unfolding pointer_tokens
  pointer_onto b rest = refl

  one_onto : (b : Base) (rest : List (List ℕ)) → one_tokens b ++ rest ≡ codes "," ∷ codes "ptr" ∷ base_token tokens b ∷ rest
  one_onto b rest = ap (λ (ts : List (List ℕ)). codes "," ∷ ts) (pointer_onto b rest)

  pub path_eats : (elem : Ty) (count : ℕ) (b : Base) (t : Ty) (v : Operand) {us : List (List ℕ)} → is_type elem ≡ true → is_word count ≡ true → is_base scope b ≡ true → is_type t ≡ true → is_operand scope v ≡ true → is_in_range v ≡ true
      → Eats x.text path (gep_tokens tokens elem count b t v ++ us) us (PathIs elem count b t v)
  unfolding gep_tokens
  path_eats elem count b t v {us = us} e w h s o r = by (count == 0) refl
    where
      by : (c : Bool) → count == 0 ≡ c → Eats x.text path ((cond c (type_tokens elem ++ one_tokens b) ((array_tokens count elem ++ one_tokens b) ++ zero_tokens) ++ index_tokens t v) ++ us) us (PathIs elem count b t v)
      by true z =
          let q : ((type_tokens elem ++ one_tokens b) ++ index_tokens t v) ++ us ≡ type_tokens elem ++ (codes "," ∷ codes "ptr" ∷ base_token tokens b ∷ codes "," ∷ (typed_tokens t v ++ us)) =
          append_assoc (type_tokens elem ++ one_tokens b) (index_tokens t v) us ∙ append_assoc (type_tokens elem) (one_tokens b) (index_tokens t v ++ us) ∙ ap (λ (ts : List (List ℕ)). type_tokens elem ++ ts) (one_onto b (index_tokens t v ++ us)) in
          subst (λ (ts : List (List ℕ)). Eats x.text path ts us (PathIs elem count b t v)) (sym q)
          (subst (λ (n : ℕ). Eats x.text path (type_tokens elem ++ (codes "," ∷ codes "ptr" ∷ base_token tokens b ∷ codes "," ∷ (typed_tokens t v ++ us))) us (PathIs elem n b t v)) (sym (eqb-true count 0 z)) (path_single elem b t v e h s o r))
      by false z =
          let q : (((array_tokens count elem ++ one_tokens b) ++ zero_tokens) ++ index_tokens t v) ++ us ≡ array_tokens count elem ++ (codes "," ∷ codes "ptr" ∷ base_token tokens b ∷ codes "," ∷ codes "i64" ∷ codes "0" ∷ codes "," ∷ (typed_tokens t v ++ us)) =
          append_assoc ((array_tokens count elem ++ one_tokens b) ++ zero_tokens) (index_tokens t v) us
          ∙ append_assoc (array_tokens count elem ++ one_tokens b) zero_tokens (index_tokens t v ++ us)
          ∙ append_assoc (array_tokens count elem) (one_tokens b) (zero_tokens ++ (index_tokens t v ++ us))
          ∙ ap (λ (ts : List (List ℕ)). array_tokens count elem ++ ts) (one_onto b (zero_tokens ++ (index_tokens t v ++ us))) in
          subst (λ (ts : List (List ℕ)). Eats x.text path ts us (PathIs elem count b t v)) (sym q) (path_array elem count b t v e w h s o r)

  pub base_behind : (b : Base) {us : List (List ℕ)} → is_base scope b ≡ true → Eats x.text pointer_behind (base_token tokens b ∷ us) us (λ p. addr_of x p ≡ Some (record { base = b; step = None }))
  unfolding pointer_behind
  base_behind b h = skips (base_no_word b h) (do
    c ← base_eats known b h
    eaten (rw c.1 refl))

  behind_base : (b : Base) {us : List (List ℕ)} → is_base scope b ≡ true → Eats x.text pointer_operand (codes "ptr" ∷ base_token tokens b ∷ us) us (λ p. addr_of x p ≡ Some (record { base = b; step = None }))
  unfolding pointer_operand word_of
  behind_base b h = do
    sign1 refl
    passes (base_quiet pass.Plain b h)
    base_behind b h

  pub gep_behind : (elem : Ty) (count : ℕ) (b : Base) (t : Ty) (v : Operand) {us : List (List ℕ)} → is_type elem ≡ true → is_word count ≡ true → is_base scope b ≡ true → is_type t ≡ true → is_operand scope v ≡ true → is_in_range v ≡ true
      → Eats x.text pointer_behind (codes "getelementptr" ∷ codes "(" ∷ (gep_tokens tokens elem count b t v ++ (codes ")" ∷ us))) us (λ p. addr_of x p ≡ Some (record { base = b; step = Some (elem, count, t, v) }))
  unfolding pointer_behind word_of
  gep_behind elem count b t v e w h s o r = takes (sign1 refl) (do
    skips {Q = λ b. b ≡ false} refl (eaten refl)
    skips {Q = λ b. b ≡ false} refl (eaten refl)
    sign1 refl
    c ← path_eats elem count b t v e w h s o r
    sign1 refl
    eaten (rw (c.1.2, c.1.4, c.1.0, c.1.1, c.1.3) refl))

  behind_gep : (elem : Ty) (count : ℕ) (b : Base) (t : Ty) (v : Operand) {us : List (List ℕ)} → is_type elem ≡ true → is_word count ≡ true → is_base scope b ≡ true → is_type t ≡ true → is_operand scope v ≡ true → is_in_range v ≡ true
      → Eats x.text pointer_operand (codes "ptr" ∷ codes "getelementptr" ∷ codes "(" ∷ (gep_tokens tokens elem count b t v ++ (codes ")" ∷ us))) us (λ p. addr_of x p ≡ Some (record { base = b; step = Some (elem, count, t, v) }))
  unfolding pointer_operand word_of
  behind_gep elem count b t v e w h s o r = do
    sign1 refl
    passes (quiet_gep pass.Plain)
    gep_behind elem count b t v e w h s o r

  pub addr_eats : (a : Addr) {us : List (List ℕ)} → is_addr scope a ≡ true → is_addr_in_range a ≡ true → Eats x.text pointer_operand (addr_tokens tokens a ++ us) us (λ p. addr_of x p ≡ Some a)
  unfolding pointer_tokens constant_gep_tokens
  addr_eats a {us = us} h r = by a.step (and_parts (is_base scope a.base) (is_step scope a.step) h).1 r
    where
      by : (step : Option (Ty × ℕ × Ty × Operand)) → is_step scope step ≡ true → is_step_in_range step ≡ true → Eats x.text pointer_operand (step_tokens tokens a.base step ++ us) us (λ p. addr_of x p ≡ Some (record { base = a.base; step = step }))
      by None s r = behind_base a.base (and_parts (is_base scope a.base) (is_step scope a.step) h).0
      by (Some q) s r =
          let c = and_parts (is_type q.0) (is_typed scope q.2 q.3) s in
          let d = and_parts (is_type q.2) (is_operand scope q.3) c.1 in
          let e = and_parts (is_word q.1) (is_in_range q.3) r in
          subst (λ (ts : List (List ℕ)). Eats x.text pointer_operand (codes "ptr" ∷ codes "getelementptr" ∷ codes "(" ∷ ts) us (λ p. addr_of x p ≡ Some (record { base = a.base; step = Some q })))
          (sym (append_assoc (gep_tokens tokens q.0 q.1 a.base q.2 q.3) (codes ")" ∷ []) us))
          (behind_gep q.0 q.1 a.base q.2 q.3 c.0 e.0 (and_parts (is_base scope a.base) (is_step scope a.step) h).0 d.0 d.1 e.1)

  pub addr_first : (a : Addr) (us : List (List ℕ)) → nth_sign (addr_tokens tokens a ++ us) 0 ≡ sign.Word word.Ptr
  unfolding pointer_tokens constant_gep_tokens word_of
  addr_first a us = by a.step
    where
      by : (step : Option (Ty × ℕ × Ty × Operand)) → nth_sign (step_tokens tokens a.base step ++ us) 0 ≡ sign.Word word.Ptr
      by None = refl
      by (Some q) = refl

  pub gep_quiet : (elem : Ty) (count : ℕ) (b : Base) (t : Ty) (v : Operand) → is_type elem ≡ true → Quiet pass.Path (nth_sign (gep_tokens tokens elem count b t v) 0)
  unfolding gep_tokens array_tokens word_of
  gep_quiet elem count b t v e = by (count == 0)
    where
      by : (c : Bool) → Quiet pass.Path (nth_sign (cond c (type_tokens elem ++ one_tokens b) ((array_tokens count elem ++ one_tokens b) ++ zero_tokens) ++ index_tokens t v) 0)
      by true = subst (λ (ts : List (List ℕ)). Quiet pass.Path (nth_sign ts 0)) (sym (append_assoc (type_tokens elem) (one_tokens b) (index_tokens t v))) (quiet_type pass.Path elem (one_tokens b ++ index_tokens t v) e)
      by false = quiet_mark pass.Path mark.OpenBracket
