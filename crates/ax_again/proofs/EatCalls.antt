-- What arguments of calls make of canonical tokens.
use Rattle.std.proofs.Common.{◌≡◌, ℕ, Bool, true, false, cond, not, List, ◌∷◌, ◌++◌, Option, Some, None, refl, ap, ◌∙◌, codes, ◌^◌, pos, negsuc, arith, true≢false}
use Rattle.std.proofs.lemmas.Bool.{and_parts, not-true, false≢true, ltb-true}
use Rattle.ax_module.specs.declared.types.Ty.{Ty}
use Rattle.ax_module.specs.declared.types.Ty.TheVariants as ty
use Rattle.ax_module.specs.declared.operand.Operand.{Operand}
use Rattle.ax_module.specs.declared.operand.Operand.TheVariants as operand
use Rattle.ax_module.specs.declared.operand.Base.{Base}
use Rattle.ax_module.specs.declared.operand.Base.TheVariants as base
use Rattle.ax_module.specs.Names.{global_token}
use Rattle.ax_ir.specs.OperandTokens.{type_tokens, operand_token, base_token}
use Rattle.ax_module.specs.declared.operand.Arg.TheVariants as arg
use Rattle.ax_ir.specs.InstTokens.{result_type_tokens}
use Rattle.ax_module.specs.WellFormed.{NameCounts, begins_with, is_type, is_result_type, is_callee_name, is_operand, is_constant, is_base}
use Rattle.ax_module.specs.Ranges.{is_in_range}
use Rattle.ax_symbols.specs.declared.symbol.Sign.TheVariants as sign
use Rattle.ax_symbols.specs.declared.vocabulary.Word.TheVariants as word
use Rattle.ax_symbols.specs.declared.symbol.NameSpan.{NameSpan}
use Rattle.ax_symbols.specs.declared.pass.Pass.TheVariants as pass
use Rattle.ax_symbols.specs.Signs.{word_text, same_sign, same_word}
use Rattle.ax_symbols.specs.Symbols.{word_of, global_sign}
use Rattle.ax_symbols.specs.Pieces.{callee_in, callee_of}
use Rattle.ax_symbols.specs.Grammar.{Grammar, one}
use Rattle.ax_lines.specs.Productions.{result_type, begins_pointer, pointer_argument, call_argument}
use Rattle.ax_scope.specs.Names.{text_at}
use Rattle.ax_scope.specs.Resolve.{Looks, arg_of}
use Rattle.ax_again.proofs.Numerals.{decimal_sign, negative_sign}
use Rattle.ax_again.proofs.Eats.{token_sign, nth_sign, Eats, ◌>>=◌, ◌>>◌, eaten, sign1, one_eats, Quiet, passes, takes, skips, by_eats}
use Rattle.ax_again.proofs.EatPieces.{Known, quiet_value, value_eats, negsuc_below, global_name, global_token_sign, type_eats}
use Rattle.ax_again.proofs.EatPointers.{base_quiet, base_behind, quiet_type, quiet_void}
use Rattle.ax_again.proofs.EatInsts.{type_no_word}

type_no_void : (t : Ty) (us : List (List ℕ)) → is_type t ≡ true → same_sign (nth_sign (type_tokens t ++ us) 0) (sign.Word word.Void) ≡ false
unfolding same_word word_text
type_no_void t us h = type_no_word t word.Void us h refl refl refl

pub result_quiet : (t : Option Ty) (us : List (List ℕ)) → is_result_type t ≡ true → Quiet pass.Plain (nth_sign (result_type_tokens t ++ us) 0)
unfolding word_of
result_quiet None us h = quiet_void pass.Plain
result_quiet (Some t) us h = quiet_type pass.Plain t us h

callee_sign : (n : NameSpan) (c : Bool) → callee_in n (cond false sign.Lifetime (cond c sign.Intrinsic sign.Global)) ≡ Some (n, false)
callee_sign n true = refl
callee_sign n false = refl

callee_named : (n : NameSpan) (name : List ℕ) → begins_with (codes "llvm.lifetime.") name ≡ false → callee_in n (global_sign name) ≡ Some (n, false)
callee_named n name h = ap (λ (b : Bool). callee_in n (cond b sign.Lifetime (cond (begins_with (codes "llvm.") name) sign.Intrinsic sign.Global))) h ∙ callee_sign n (begins_with (codes "llvm.") name)

module _ {text : List ℕ} where
  pub result_type_eats : (t : Option Ty) {us : List (List ℕ)} → is_result_type t ≡ true → Eats text result_type (result_type_tokens t ++ us) us (λ u. u ≡ t)
  unfolding result_type word_of
  result_type_eats None h = takes (sign1 refl) (eaten refl)
  result_type_eats (Some t) {us = us} h = skips (type_no_void t us h) (do
    u ← type_eats t h
    eaten (ap (λ (x : Ty). Some x) u.1))

  pub callee_eats : (name : List ℕ) {us : List (List ℕ)} → is_callee_name name ≡ true → Eats text (one callee_of) (global_token name ∷ us) us (λ (f : NameSpan × Bool). (text_at text f.0 ≡ name) × (f.1 ≡ false))
  callee_eats name h =
      let n = not-true _ (and_parts _ (not (begins_with (codes "llvm.lifetime.") name)) h).1 in
      one_eats (λ s f. ((s.name, false), ap (callee_in s.name) (f.sign ∙ global_token_sign name) ∙ callee_named s.name name n, (f.name ∙ global_name name, refl)))

-- ---- arguments

global_begins : (b c : Bool) → begins_pointer (cond b sign.Lifetime (cond c sign.Intrinsic sign.Global)) ≡ true
global_begins true c = refl
global_begins false true = refl
global_begins false false = refl

constant_begins : (v : Operand) → is_constant v ≡ true → is_in_range v ≡ true → begins_pointer (token_sign (operand_token v)) ≡ false
constant_begins (operand.Const (pos n)) c r = let f = ltb-true n (2 ^ 127) r in ap begins_pointer (decimal_sign n (omega (arith, f)))
constant_begins (operand.Const (negsuc n)) c r = ap begins_pointer (negative_sign n (negsuc_below n r))
constant_begins (operand.Wide n) c r = ap begins_pointer (decimal_sign n (ltb-true n (2 ^ 128) r))
constant_begins (operand.Value k) c r = absurd cc
constant_begins (operand.Param k) c r = absurd cc

constant_operand : (scope : NameCounts) (v : Operand) → is_constant v ≡ true → is_operand scope v ≡ true
constant_operand scope (operand.Const n) c = refl
constant_operand scope (operand.Wide n) c = c
constant_operand scope (operand.Value k) c = absurd cc
constant_operand scope (operand.Param k) c = absurd cc

module _ {text : List ℕ} where
  pub cond_first : {V : Type 0} {g : Grammar V} (h : Grammar V) {ts us : List (List ℕ)} {Q : V → Type 0} (b : Bool) → b ≡ true → Eats text g ts us Q → Eats text (cond b g h) ts us Q
  cond_first h true e a = a
  cond_first h false e a = absurd (false≢true e)

  pub cond_second : {V : Type 0} {h : Grammar V} (g : Grammar V) {ts us : List (List ℕ)} {Q : V → Type 0} (b : Bool) → b ≡ false → Eats text h ts us Q → Eats text (cond b g h) ts us Q
  cond_second g true e a = absurd (true≢false e)
  cond_second g false e a = a

module _ {scope : NameCounts} {x : Looks} {tokens : List (List ℕ)} (known : Known scope x tokens) where
  base_begins : (b : Base) → is_base scope b ≡ true → begins_pointer (token_sign (base_token tokens b)) ≡ true
  base_begins (base.Global g) h = let n = known.global g h in ap begins_pointer (ap token_sign n.1 ∙ global_token_sign n.0) ∙ global_begins _ _
  base_begins (base.Value k) h = refl
  base_begins (base.Param k) h = refl

  pub base_argument : (b : Base) {us : List (List ℕ)} → is_base scope b ≡ true → Eats x.text call_argument (codes "ptr" ∷ base_token tokens b ∷ us) us (λ a. arg_of x a ≡ Some (arg.Pointer (record { base = b; step = None })))
  unfolding call_argument pointer_argument word_of
  base_argument b h = takes (sign1 refl) (do
    passes (base_quiet known pass.Argument b h)
    by_eats (cond_first _ _ (base_begins b h) (do
      p ← base_behind known b h
      eaten (rw p.1 refl))))

  pub constant_argument : (v : Operand) {us : List (List ℕ)} → is_constant v ≡ true → is_in_range v ≡ true → Eats x.text call_argument (codes "ptr" ∷ operand_token v ∷ us) us (λ a. arg_of x a ≡ Some (arg.Value ty.Ptr v))
  unfolding call_argument pointer_argument word_of
  constant_argument v c r = takes (sign1 refl) (do
    passes (quiet_value pass.Argument v r)
    by_eats (cond_second _ _ (constant_begins v c r) (do
      w ← value_eats known v (constant_operand scope v c) r
      eaten (rw w.1 refl))))
