-- What the pieces of a line make of canonical tokens.
use Rattle.std.proofs.Common.{◌≡◌, ℕ, suc, ◌-◌, ◌^◌, ◌<◌, arith, Bool, true, false, cond, pos, negsuc, List, [], ◌∷◌, ◌++◌, length, take, Option, Some, None, refl, sym, ap, subst, ◌∙◌, codes, decimal, nat_le, nat_lt, ◌==◌, append_assoc, slice_index_or, true≢false}
use Rattle.std.specs.Option.{option_map}
use Rattle.std.proofs.lemmas.Bool.{and_parts, le-leb, leb-true, ltb-true, le-ltb, not-true, or_parts, eqb-true, false_from_ne_true}
use Rattle.ax_module.specs.declared.types.Ty.{Ty}
use Rattle.ax_module.specs.declared.types.Ty.TheVariants as ty
use Rattle.ax_module.specs.Types.{whole_number_type}
use Rattle.ax_module.specs.declared.operand.Operand.{Operand}
use Rattle.ax_module.specs.declared.operand.Operand.TheVariants as operand
use Rattle.ax_module.specs.declared.operand.Base.{Base}
use Rattle.ax_module.specs.declared.operand.Base.TheVariants as base
use Rattle.ax_module.specs.Names as names
use Rattle.ax_module.specs.Names.{is_name, is_plain, global_token}
use Rattle.ax_lex.specs.declared.token.TokenKind.TheVariants as kind
use Rattle.ax_symbols.specs.Signs.{same_mark}
use Rattle.ax_symbols.specs.Symbols.{word_of, begins_quote, name_of, sign_of, global_sign}
use Rattle.ax_again.specs.Pieces.{kind_of}
use Rattle.std.specs.List.{list_all}
use Rattle.std.proofs.lemmas.List.{take_all, take_at, length-append}
use Rattle.ax_ir.specs.OperandTokens.{type_tokens, align_tokens, block_token, operand_token, typed_tokens, base_token}
use Rattle.ax_module.specs.WellFormed.{NameCounts, is_type, is_constant, is_value, is_operand, is_base}
use Rattle.ax_module.specs.Ranges.{is_word, is_stated_word, is_in_range}
use Rattle.ax_symbols.specs.declared.symbol.Sign.{Sign}
use Rattle.ax_symbols.specs.declared.symbol.Sign.TheVariants as sign
use Rattle.ax_symbols.specs.declared.vocabulary.Word.TheVariants as word
use Rattle.ax_symbols.specs.declared.symbol.NameSpan.{NameSpan}
use Rattle.ax_symbols.specs.declared.symbol.Symbol.{Symbol}
use Rattle.ax_symbols.specs.declared.pass.Pass.{Pass}
use Rattle.ax_symbols.specs.declared.pass.Pass.TheVariants as pass
use Rattle.ax_symbols.specs.declared.values.Value.{Value}
use Rattle.ax_symbols.specs.declared.values.Value.TheVariants as value
use Rattle.ax_symbols.specs.declared.values.Base.{Base as NamedBase}
use Rattle.ax_symbols.specs.declared.values.Base.TheVariants as named
use Rattle.ax_symbols.specs.Pieces.{count_in, count_of, const_in, value_in, value_of, base_in, base_of, local_in, local_of, simple_type, type_at, one_at, simple_type_of, closed, opens_vector, is_less}
use Rattle.ax_symbols.specs.Grammar.{one, typed}
use Rattle.ax_lines.specs.Productions.{alignment, stated_alignment, typed_value}
use Rattle.ax_scope.specs.declared.meaning.Meaning.TheVariants as meaning
use Rattle.ax_scope.specs.Names.{text_at}
use Rattle.ax_scope.specs.Resolve as resolve
use Rattle.ax_scope.specs.Resolve.{Looks, operand_in, local_in as local_base_in, global_in, block_in, operand_of, block_of, addr_of}
use Rattle.ax_again.proofs.Eats.{Spelled, SpelledAll, token_sign, Eats, ◌>>=◌, ◌>>◌, eaten, sign2, one_eats, Quiet, takes, skips}
use Rattle.ax_again.proofs.Numerals.{decimal_sign, negative_sign, width_sign, local_name}

-- ---- numbers

count_value : (s : Sign) (n : ℕ) → s ≡ sign.Number false n → nat_lt n (2 ^ 64) ≡ true → count_in s ≡ Some n
count_value s n e h = ap count_in e ∙ ap (λ t. cond t (Some n) None) h

below_more : (n : ℕ) → nat_lt n (2 ^ 64) ≡ true → n < 2 ^ 128
below_more n h = let f = ltb-true n (2 ^ 64) h in omega (arith, f)

const_value : (s : Sign) (n : ℕ) → s ≡ sign.Number false n → nat_lt n (2 ^ 127) ≡ true → const_in s ≡ Some (value.Const (pos n))
const_value s n e h = ap const_in e ∙ ap (λ t. Some (cond t (value.Const (pos n)) (value.Wide n))) h

wide_value : (s : Sign) (n : ℕ) → s ≡ sign.Number false n → nat_lt n (2 ^ 127) ≡ false → const_in s ≡ Some (value.Wide n)
wide_value s n e h = ap const_in e ∙ ap (λ t. Some (cond t (value.Const (pos n)) (value.Wide n))) h

negative_value : (s : Sign) (n : ℕ) → s ≡ sign.Number true (suc n) → nat_le (suc n) (2 ^ 127) ≡ true → const_in s ≡ Some (value.Const (negsuc n))
negative_value s n e h = ap const_in e ∙ ap (λ t. cond t (Some (value.Const (negsuc n))) None) h

-- the value that a constant's token stands for
abbrev pub constant_value : Operand → Value
constant_value (operand.Const n) = value.Const n
constant_value (operand.Wide n) = value.Wide n
constant_value _ = value.Const (pos 0)

pub negsuc_below : (n : ℕ) → is_in_range (operand.Const (negsuc n)) ≡ true → n < 2 ^ 127
negsuc_below n h = let f = leb-true n (2 ^ 127 - 1) (and_parts (nat_le n (2 ^ 127 - 1)) true h).0 in omega (arith, f)

pub constant_sign : (v : Operand) → is_constant v ≡ true → is_in_range v ≡ true → const_in (token_sign (operand_token v)) ≡ Some (constant_value v)
constant_sign (operand.Const (pos n)) c r = let f = ltb-true n (2 ^ 127) r in const_value _ n (decimal_sign n (omega (arith, f))) r
constant_sign (operand.Const (negsuc n)) c r = let f = negsuc_below n r in negative_value _ n (negative_sign n f) (le-leb (suc n) (2 ^ 127) (omega (arith, f)))
constant_sign (operand.Wide n) c r = let f = leb-true (2 ^ 127) n c in wide_value _ n (decimal_sign n (ltb-true n (2 ^ 128) r)) (le-ltb n (2 ^ 127) f)
constant_sign (operand.Value k) c r = absurd cc
constant_sign (operand.Param k) c r = absurd cc

-- ---- what does not begin what is passed over

pub quiet_int : (k : Pass) (n : ℕ) → Quiet k (sign.Int n)
quiet_int pass.Plain n = record { passed = refl; captures = refl; align = refl; bytes = refl }
quiet_int _ n = record { passed = refl; captures = refl; align = refl; bytes = refl }

pub quiet_local : (k : Pass) → Quiet k sign.Local
quiet_local pass.Plain = record { passed = refl; captures = refl; align = refl; bytes = refl }
quiet_local _ = record { passed = refl; captures = refl; align = refl; bytes = refl }

pub quiet_global : (k : Pass) (name : List ℕ) (b c : Bool) → Quiet k (cond b sign.Lifetime (cond c sign.Intrinsic sign.Global))
quiet_global pass.Plain name true c = record { passed = refl; captures = refl; align = refl; bytes = refl }
quiet_global pass.Plain name false true = record { passed = refl; captures = refl; align = refl; bytes = refl }
quiet_global pass.Plain name false false = record { passed = refl; captures = refl; align = refl; bytes = refl }
quiet_global _ name true c = record { passed = refl; captures = refl; align = refl; bytes = refl }
quiet_global _ name false true = record { passed = refl; captures = refl; align = refl; bytes = refl }
quiet_global _ name false false = record { passed = refl; captures = refl; align = refl; bytes = refl }

pub quiet_number : (k : Pass) (b : Bool) (n : ℕ) → Quiet k (sign.Number b n)
quiet_number pass.Plain b n = record { passed = refl; captures = refl; align = refl; bytes = refl }
quiet_number _ b n = record { passed = refl; captures = refl; align = refl; bytes = refl }

pub quiet_sign : (k : Pass) (a b : Sign) → b ≡ a → Quiet k a → Quiet k b
quiet_sign k a b e q = subst (Quiet k) (sym e) q

-- the value's sign
pub quiet_value : (k : Pass) (v : Operand) → is_in_range v ≡ true → Quiet k (token_sign (operand_token v))
quiet_value k (operand.Const (pos n)) r = let f = ltb-true n (2 ^ 127) r in quiet_sign k (sign.Number false n) _ (decimal_sign n (omega (arith, f))) (quiet_number k false n)
quiet_value k (operand.Const (negsuc n)) r = quiet_sign k (sign.Number true (suc n)) _ (negative_sign n (negsuc_below n r)) (quiet_number k true (suc n))
quiet_value k (operand.Wide n) r = quiet_sign k (sign.Number false n) _ (decimal_sign n (ltb-true n (2 ^ 128) r)) (quiet_number k false n)
quiet_value k (operand.Value j) r = quiet_local k
quiet_value k (operand.Param j) r = quiet_local k

-- ---- types

type_one : (s : Symbol) (rest : List Symbol) (t : Ty) → is_less s.sign ≡ false → simple_type s.sign ≡ Some t → ◌≡◌ {A = Option (Ty × List Symbol)} (type_at (s ∷ rest)) (Some (t, rest))
type_one s [] t l e = ap (option_map {U = Ty × List Symbol} (λ a. (a, []))) e
type_one s (b ∷ []) t l e = ap (option_map {U = Ty × List Symbol} (λ a. (a, b ∷ []))) e
type_one s (b ∷ c ∷ rest) t l e = rw l (ap (option_map {U = Ty × List Symbol} (λ a. (a, b ∷ c ∷ rest))) e)

width_type : (n : ℕ) → is_type (ty.Int n) ≡ true → whole_number_type n ≡ ty.Int n
width_type n h =
    let a = not-true _ (and_parts (nat_lt n (10 ^ 8)) _ h).1 in
    let b = or_parts (n == 1) _ a in
    let c = or_parts (n == 8) _ b.1 in
    let d = or_parts (n == 16) _ c.1 in
    let e = or_parts (n == 32) _ d.1 in
    let f = or_parts (n == 64) _ e.1 in
    let g = or_parts (n == 128) false f.1 in
    rw (b.0, c.0, d.0, e.0, f.0, g.0) refl

module _ {text : List ℕ} where
  simple_of : (a : Sign) (t : Ty) (tok : List ℕ) (us : List (List ℕ)) → token_sign tok ≡ a → is_less a ≡ false → simple_type a ≡ Some t
      → (ss : List Symbol) → SpelledAll text ss (tok ∷ us) → (v : Ty) × (rest : List Symbol) × ◌≡◌ {A = Option (Ty × List Symbol)} (type_at ss) (Some (v, rest)) × SpelledAll text rest us × (v ≡ t)
  simple_of a t tok us e l f [] h = absurd h
  simple_of a t tok us e l f (s ∷ ss) h =
      let g = (h.0).sign ∙ e in
      (t, ss, type_one s ss t (ap is_less g ∙ l) (ap simple_type g ∙ f), h.1, refl)

  simple_eats : (a : Sign) (t : Ty) {tok : List ℕ} {us : List (List ℕ)} → token_sign tok ≡ a → is_less a ≡ false → simple_type a ≡ Some t → Eats text typed (tok ∷ us) us (λ u. u ≡ t)
  simple_eats a t {tok = tok} {us = us} e l f = record { holds = λ ss h. simple_of a t tok us e l f ss h }

  vector_of : (us : List (List ℕ)) (ss : List Symbol) → SpelledAll text ss (type_tokens ty.Vector ++ us) → (v : Ty) × (rest : List Symbol) × ◌≡◌ {A = Option (Ty × List Symbol)} (type_at ss) (Some (v, rest)) × SpelledAll text rest us × (v ≡ ty.Vector)
  unfolding word_of
  vector_of us [] h = absurd h
  vector_of us (a ∷ []) h = absurd h.1
  vector_of us (a ∷ b ∷ []) h = absurd h.1.1
  vector_of us (a ∷ b ∷ c ∷ []) h = absurd h.1.1.1
  vector_of us (a ∷ b ∷ c ∷ d ∷ []) h = absurd h.1.1.1.1
  vector_of us (a ∷ b ∷ c ∷ d ∷ e ∷ ss) h =
      let elems = type_one d (e ∷ ss) ty.I8 (ap is_less (h.1.1.1.0).sign) (ap simple_type (h.1.1.1.0).sign) in
      let opens : opens_vector a.sign b.sign c.sign ≡ true = rw ((h.0).sign, (h.1.0).sign, (h.1.1.0).sign) refl in
      let ends : ◌≡◌ {A = Option (Ty × List Symbol)} (closed (Some (ty.I8, e ∷ ss))) (Some (ty.Vector, ss)) = rw (h.1.1.1.1.0).sign refl in
      (ty.Vector, ss, ap (λ (t : Bool). cond t (closed (type_at (d ∷ e ∷ ss))) (one_at simple_type_of (a ∷ b ∷ c ∷ d ∷ e ∷ ss))) opens ∙ ap closed elems ∙ ends, h.1.1.1.1.1, refl)

  pub type_eats : (t : Ty) {us : List (List ℕ)} → is_type t ≡ true → Eats text typed (type_tokens t ++ us) us (λ u. u ≡ t)
  unfolding word_of
  type_eats ty.I1 h = simple_eats (sign.Int 1) ty.I1 refl refl refl
  type_eats ty.I8 h = simple_eats (sign.Int 8) ty.I8 refl refl refl
  type_eats ty.I16 h = simple_eats (sign.Int 16) ty.I16 refl refl refl
  type_eats ty.I32 h = simple_eats (sign.Int 32) ty.I32 refl refl refl
  type_eats ty.I64 h = simple_eats (sign.Int 64) ty.I64 refl refl refl
  type_eats ty.I128 h = simple_eats (sign.Int 128) ty.I128 refl refl refl
  type_eats (ty.Int n) h = simple_eats (sign.Int n) (ty.Int n) (width_sign n (ltb-true n (10 ^ 8) (and_parts (nat_lt n (10 ^ 8)) _ h).0)) refl (ap (λ (t : Ty). Some t) (width_type n h))
  type_eats ty.Float h = simple_eats (sign.Word word.Float) ty.Float refl refl refl
  type_eats ty.Double h = simple_eats (sign.Word word.Double) ty.Double refl refl refl
  type_eats ty.Ptr h = simple_eats (sign.Word word.Ptr) ty.Ptr refl refl refl
  type_eats ty.Vector {us = us} h = record { holds = λ ss g. vector_of us ss g }

  -- ---- counts and alignments

  pub count_eats : {n : ℕ} {us : List (List ℕ)} → is_word n ≡ true → Eats text (one count_of) (decimal n ∷ us) us (λ c. c ≡ n)
  count_eats {n = n} h = one_eats (λ s f. (n, count_value s.sign n (f.sign ∙ decimal_sign n (below_more n h)) h, refl))

  pub alignment_eats : (align : Option ℕ) → is_stated_word align ≡ true → Eats text alignment (align_tokens align) [] (λ a. a ≡ align)
  unfolding alignment word_of same_mark
  alignment_eats None h = skips refl (eaten refl)
  alignment_eats (Some n) h = takes (sign2 refl refl) (do
    c ← count_eats h
    eaten (ap (λ k. Some k) c.1))

  pub stated_alignment_eats : (n : ℕ) → is_word n ≡ true → Eats text stated_alignment (align_tokens (Some n)) [] (λ a. a ≡ n)
  unfolding stated_alignment word_of
  stated_alignment_eats n h = do
    sign2 refl refl
    count_eats h

-- ---- names

global_cond : (plain : Bool) (name : List ℕ) → kind_of (cond plain (64 ∷ name) (64 ∷ 34 ∷ name ++ 34 ∷ [])) ≡ kind.Global
global_cond true name = refl
global_cond false name = refl

plain_start : (name : List ℕ) → is_plain name ≡ true → begins_quote name ≡ false
plain_start [] h = refl
plain_start (b ∷ bs) h =
    let f = (and_parts (names.is_name_byte b) (list_all names.is_name_byte bs) h).0 in
    false_from_ne_true (b == 34) (λ e. let g = eqb-true b 34 e in true≢false (sym f ∙ ap names.is_name_byte g))

within_quotes : (name : List ℕ) → take (length (name ++ 34 ∷ []) - 1) (name ++ 34 ∷ []) ≡ name
within_quotes name = take_at name (34 ∷ []) (length (name ++ 34 ∷ []) - 1) (omega (arith, length-append name (34 ∷ [])))

global_inside : (plain : Bool) (name : List ℕ) → is_plain name ≡ plain → name_of kind.Global (cond plain (64 ∷ name) (64 ∷ 34 ∷ name ++ 34 ∷ [])) ≡ name
global_inside true name e = rw (plain_start name e) (take_all (length name - 0) name (omega arith))
global_inside false name e = within_quotes name

pub global_kind : (name : List ℕ) → kind_of (global_token name) ≡ kind.Global
global_kind name = global_cond (is_plain name) name

pub global_name : (name : List ℕ) → name_of (kind_of (global_token name)) (global_token name) ≡ name
global_name name = ap (λ k. name_of k (global_token name)) (global_kind name) ∙ global_inside (is_plain name) name refl

pub global_token_sign : (name : List ℕ) → token_sign (global_token name) ≡ global_sign name
global_token_sign name = ap (λ k. sign_of k (global_token name)) (global_kind name) ∙ ap global_sign (global_inside (is_plain name) name refl)

base_global : (n : NameSpan) (b c : Bool) → base_in n (cond b sign.Lifetime (cond c sign.Intrinsic sign.Global)) ≡ Some (named.Global n)
base_global n true c = refl
base_global n false true = refl
base_global n false false = refl

-- what canonical names stand for in a function
pub record Known (scope : NameCounts) (x : Looks) (tokens : List (List ℕ)) : Type 0 where
  pub value : (k : ℕ) → is_value scope k ≡ true → x.values (codes "v" ++ decimal k) ≡ Some (meaning.Value k)
  pub param : (k : ℕ) → nat_lt k scope.params ≡ true → x.values (codes "p" ++ decimal k) ≡ Some (meaning.Param k)
  pub block : (k : ℕ) → nat_lt k scope.blocks ≡ true → x.blocks (codes "b" ++ decimal k) ≡ Some (meaning.Block k)
  pub global : (g : ℕ) → nat_lt g scope.globals ≡ true → (name : List ℕ) × (slice_index_or tokens g [] ≡ global_token name) × (x.globals name ≡ Some (meaning.Global g))

constant_in : (name : NameSpan) (v : Operand) → is_constant v ≡ true → is_in_range v ≡ true → value_in name (token_sign (operand_token v)) ≡ Some (constant_value v)
constant_in name (operand.Const (pos n)) c r =
    let f = ltb-true n (2 ^ 127) r in
    let d = decimal_sign n (omega (arith, f)) in
    ap (value_in name) d ∙ sym (ap const_in d) ∙ constant_sign (operand.Const (pos n)) c r
constant_in name (operand.Const (negsuc n)) c r = let d = negative_sign n (negsuc_below n r) in ap (value_in name) d ∙ sym (ap const_in d) ∙ constant_sign (operand.Const (negsuc n)) c r
constant_in name (operand.Wide n) c r = let d = decimal_sign n (ltb-true n (2 ^ 128) r) in ap (value_in name) d ∙ sym (ap const_in d) ∙ constant_sign (operand.Wide n) c r
constant_in name (operand.Value k) c r = absurd cc
constant_in name (operand.Param k) c r = absurd cc

module _ {scope : NameCounts} {x : Looks} {tokens : List (List ℕ)} (known : Known scope x tokens) where
  pub value_eats : (v : Operand) {us : List (List ℕ)} → is_operand scope v ≡ true → is_in_range v ≡ true → Eats x.text (one value_of) (operand_token v ∷ us) us (λ w. operand_of x w ≡ Some v)
  value_eats (operand.Const n) h r = one_eats (λ s f. (value.Const n, ap (value_in s.name) f.sign ∙ constant_in s.name (operand.Const n) refl r, refl))
  value_eats (operand.Wide n) h r = one_eats (λ s f. (value.Wide n, ap (value_in s.name) f.sign ∙ constant_in s.name (operand.Wide n) h r, refl))
  value_eats (operand.Value k) h r = one_eats (λ s f. (value.Local s.name, ap (value_in s.name) f.sign, ap (λ (n : List ℕ). operand_in (x.values n)) (f.name ∙ local_name 118 (decimal k) refl) ∙ ap operand_in (known.value k h)))
  value_eats (operand.Param k) h r = one_eats (λ s f. (value.Local s.name, ap (value_in s.name) f.sign, ap (λ (n : List ℕ). operand_in (x.values n)) (f.name ∙ local_name 112 (decimal k) refl) ∙ ap operand_in (known.param k h)))

  pub block_eats : (b : ℕ) {us : List (List ℕ)} → nat_lt b scope.blocks ≡ true → Eats x.text (one local_of) (block_token b ∷ us) us (λ s. block_of x s ≡ Some b)
  block_eats b h = one_eats (λ s f. (s.name, ap (local_in s.name) f.sign, ap (λ (n : List ℕ). block_in (x.blocks n)) (f.name ∙ local_name 98 (decimal b) refl) ∙ ap block_in (known.block b h)))

  base_named : (g : ℕ) (name token : List ℕ) → token ≡ global_token name → x.globals name ≡ Some (meaning.Global g) → (s : Symbol) → Spelled x.text s token → (c : NamedBase) × (base_of s ≡ Some c) × (resolve.base_of x c ≡ Some (base.Global g))
  base_named g name token e k s f =
      let a : s.sign ≡ global_sign name = f.sign ∙ ap token_sign e ∙ global_token_sign name in
      let n : text_at x.text s.name ≡ name = f.name ∙ ap (λ (t : List ℕ). name_of (kind_of t) t) e ∙ global_name name in
      (named.Global s.name, ap (base_in s.name) a ∙ base_global s.name _ _, ap (λ (m : List ℕ). global_in (x.globals m)) n ∙ ap global_in k)

  pub base_eats : (b : Base) {us : List (List ℕ)} → is_base scope b ≡ true → Eats x.text (one base_of) (base_token tokens b ∷ us) us (λ c. resolve.base_of x c ≡ Some b)
  base_eats (base.Global g) h = let k = known.global g h in one_eats (λ s f. base_named g k.0 (slice_index_or tokens g []) k.1 k.2 s f)
  base_eats (base.Value k) h = one_eats (λ s f. (named.Local s.name, ap (base_in s.name) f.sign, ap (λ (n : List ℕ). local_base_in (x.values n)) (f.name ∙ local_name 118 (decimal k) refl) ∙ ap local_base_in (known.value k h)))
  base_eats (base.Param k) h = one_eats (λ s f. (named.Local s.name, ap (base_in s.name) f.sign, ap (λ (n : List ℕ). local_base_in (x.values n)) (f.name ∙ local_name 112 (decimal k) refl) ∙ ap local_base_in (known.param k h)))

  abbrev pub TypedIs : Ty → Operand → Ty × Value → Type 0
  TypedIs t v w = (w.0 ≡ t) × (operand_of x w.1 ≡ Some v)

  pub typed_value_eats : (t : Ty) (v : Operand) {us : List (List ℕ)} → is_type t ≡ true → is_operand scope v ≡ true → is_in_range v ≡ true → Eats x.text typed_value (typed_tokens t v ++ us) us (TypedIs t v)
  unfolding typed_value typed_tokens
  typed_value_eats t v {us = us} h g r = subst (λ (ts : List (List ℕ)). Eats x.text typed_value ts us (TypedIs t v)) (sym (append_assoc (type_tokens t) (operand_token v ∷ []) us)) (do
    u ← type_eats t h
    w ← value_eats v g r
    eaten (u.1, w.1))
