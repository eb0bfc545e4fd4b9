-- What the arguments of a call, and the call, make of canonical tokens.
use Rattle.std.proofs.Common.{◌≡◌, ℕ, Bool, true, false, cond, ◌&&◌, List, [], ◌∷◌, ◌++◌, flat_map, Option, Some, None, refl, sym, ap, subst, ◌∙◌, codes, ◌^◌, nat_lt, append_assoc}
use Rattle.std.specs.List.{list_all}
use Rattle.std.proofs.lemmas.Bool.{and_parts, ltb-true}
use Rattle.ax_module.specs.declared.types.Ty.{Ty}
use Rattle.ax_module.specs.declared.types.Ty.TheVariants as ty
use Rattle.ax_module.specs.declared.operand.Operand.{Operand}
use Rattle.ax_module.specs.declared.operand.Base.{Base}
use Rattle.ax_module.specs.declared.operand.Addr.{Addr}
use Rattle.ax_module.specs.declared.operand.Arg.{Arg}
use Rattle.ax_module.specs.declared.operand.Arg.TheVariants as arg
use Rattle.ax_module.specs.declared.inst.Inst.{Inst}
use Rattle.ax_module.specs.declared.inst.Inst.TheVariants as inst
use Rattle.ax_module.specs.Names.{global_token}
use Rattle.ax_ir.specs.OperandTokens.{parted, type_tokens, operand_token, typed_tokens, pointer_tokens, gep_tokens, constant_gep_tokens, step_tokens, addr_tokens, arg_tokens}
use Rattle.ax_ir.specs.InstTokens.{result_type_tokens, inst_tokens}
use Rattle.ax_module.specs.WellFormed.{NameCounts, is_type, is_typed, is_base, is_step, is_addr, is_arg, is_operand, is_result_type, is_callee_name, is_inst}
use Rattle.ax_module.specs.Ranges.{is_word, is_in_range, is_step_in_range, is_arg_in_range, is_inst_in_range}
use Rattle.ax_symbols.specs.declared.symbol.Sign.{Sign}
use Rattle.ax_symbols.specs.declared.symbol.Sign.TheVariants as sign
use Rattle.ax_symbols.specs.declared.vocabulary.Word.TheVariants as word
use Rattle.ax_symbols.specs.declared.symbol.Punctuation.TheVariants as mark
use Rattle.ax_symbols.specs.declared.symbol.NameSpan.{NameSpan}
use Rattle.ax_symbols.specs.declared.pass.Pass.TheVariants as pass
use Rattle.ax_lines.specs.declared.statement.Argument.{Argument}
use Rattle.ax_lines.specs.declared.statement.Statement.{Statement}
use Rattle.ax_lines.specs.declared.statement.Statement.TheVariants as statement
use Rattle.ax_lines.specs.declared.statement.Line.{Line}
use Rattle.ax_lines.specs.declared.statement.Line.TheVariants as line
use Rattle.ax_symbols.specs.Signs.{same_sign, same_word, word_text, same_mark}
use Rattle.ax_symbols.specs.Symbols.{word_of}
use Rattle.ax_symbols.specs.Pieces.{is_close}
use Rattle.ax_symbols.specs.Grammar.{Grammar, list}
use Rattle.ax_lines.specs.Productions.{pointer_argument, value_argument, call_argument, items_at, items_in, call, call_states, may_have}
use Rattle.ax_scope.specs.Names.{text_at}
use Rattle.ax_scope.specs.Resolve.{Looks, arg_of, args_of, inst_of}
use Rattle.ax_again.proofs.Numerals.{width_sign}
use Rattle.ax_again.proofs.Eats.{nth_sign, Eats, ◌>>=◌, ◌>>◌, eaten, sign1, Quiet, passes, takes, skips, by_eats, when_true, tail_ends}
use Rattle.ax_again.proofs.EatPieces.{Known, quiet_value, value_eats, type_eats}
use Rattle.ax_again.proofs.EatPointers.{quiet_gep, gep_behind, addr_first}
use Rattle.ax_again.proofs.EatLists.{Each2, list_eats}
use Rattle.ax_again.proofs.EatCalls.{base_argument, constant_argument, result_quiet, result_type_eats, callee_eats}

-- a type's first sign, where it is one of the types whose sign is another's
pub type_no_close : (t : Ty) (us : List (List ℕ)) → is_type t ≡ true → is_close (nth_sign (type_tokens t ++ us) 0) ≡ false
unfolding word_of
type_no_close ty.I1 us h = refl
type_no_close (ty.Int n) us h = ap is_close (width_sign n (ltb-true n (10 ^ 8) (and_parts (nat_lt n (10 ^ 8)) _ h).0))
type_no_close _ us h = refl

int_no_ptr : (n : ℕ) (us : List (List ℕ)) → is_type (ty.Int n) ≡ true → same_sign (nth_sign (type_tokens (ty.Int n) ++ us) 0) (sign.Word word.Ptr) ≡ false
int_no_ptr n us h = ap (λ (a : Sign). same_sign a (sign.Word word.Ptr)) (width_sign n (ltb-true n (10 ^ 8) (and_parts (nat_lt n (10 ^ 8)) _ h).0))

module _ {text : List ℕ} where
  -- items, of which there is at least one
  pub some_items : {A : Type 0} (item : Grammar A) (a : Sign) {ts us : List (List ℕ)} {Q : List A → Type 0} → is_close a ≡ false → Eats text (list item) ts us Q → Eats text (items_at item a) ts us Q
  some_items item (sign.Mark mark.Close) e b = absurd cc
  some_items item (sign.Mark mark.Comma) e b = b
  some_items item (sign.Mark _) e b = b
  some_items item sign.Local e b = b
  some_items item _ e b = b

module _ {scope : NameCounts} {x : Looks} {tokens : List (List ℕ)} (known : Known scope x tokens) where
  abbrev ArgIs : Arg → Argument → Type 0
  ArgIs a p = arg_of x p ≡ Some a

  gep_argument : (elem : Ty) (count : ℕ) (b : Base) (t : Ty) (v : Operand) {us : List (List ℕ)} → is_type elem ≡ true → is_word count ≡ true → is_base scope b ≡ true → is_type t ≡ true → is_operand scope v ≡ true → is_in_range v ≡ true
      → Eats x.text call_argument (codes "ptr" ∷ codes "getelementptr" ∷ codes "(" ∷ (gep_tokens tokens elem count b t v ++ (codes ")" ∷ us))) us (ArgIs (arg.Pointer (record { base = b; step = Some (elem, count, t, v) })))
  unfolding call_argument pointer_argument word_of
  gep_argument elem count b t v e w h s o r = takes (sign1 refl) (do
    passes (quiet_gep pass.Argument)
    by_eats (do
      p ← gep_behind known elem count b t v e w h s o r
      eaten (rw p.1 refl)))

  pointer_arg : (a : Addr) {us : List (List ℕ)} → is_addr scope a ≡ true → is_step_in_range a.step ≡ true → Eats x.text call_argument (addr_tokens tokens a ++ us) us (ArgIs (arg.Pointer a))
  unfolding pointer_tokens constant_gep_tokens
  pointer_arg a {us = us} h r = by a.step (and_parts (is_base scope a.base) (is_step scope a.step) h).1 r
    where
      by : (step : Option (Ty × ℕ × Ty × Operand)) → is_step scope step ≡ true → is_step_in_range step ≡ true → Eats x.text call_argument (step_tokens tokens a.base step ++ us) us (ArgIs (arg.Pointer (record { base = a.base; step = step })))
      by None s r = base_argument known a.base (and_parts (is_base scope a.base) (is_step scope a.step) h).0
      by (Some q) s r =
          let c = and_parts (is_type q.0) (is_typed scope q.2 q.3) s in
          let d = and_parts (is_type q.2) (is_operand scope q.3) c.1 in
          let e = and_parts (is_word q.1) (is_in_range q.3) r in
          subst (λ (ts : List (List ℕ)). Eats x.text call_argument (codes "ptr" ∷ codes "getelementptr" ∷ codes "(" ∷ ts) us (ArgIs (arg.Pointer (record { base = a.base; step = Some q }))))
          (sym (append_assoc (gep_tokens tokens q.0 q.1 a.base q.2 q.3) (codes ")" ∷ []) us))
          (gep_argument q.0 q.1 a.base q.2 q.3 c.0 e.0 (and_parts (is_base scope a.base) (is_step scope a.step) h).0 d.0 d.1 e.1)

  typed_argument : (t : Ty) (v : Operand) {us : List (List ℕ)} → same_sign (nth_sign (type_tokens t ++ (operand_token v ∷ us)) 0) (sign.Word word.Ptr) ≡ false → is_typed scope t v ≡ true → is_in_range v ≡ true → Eats x.text call_argument (typed_tokens t v ++ us) us (ArgIs (arg.Value t v))
  unfolding call_argument value_argument typed_tokens
  typed_argument t v {us = us} n h r =
      let a = and_parts (is_type t) (is_operand scope v) h in
      subst (λ (ts : List (List ℕ)). Eats x.text call_argument ts us (ArgIs (arg.Value t v))) (sym (append_assoc (type_tokens t) (operand_token v ∷ []) us)) (skips n (do
        k ← type_eats t a.0
        passes (quiet_value pass.Argument v r)
        w ← value_eats known v a.1 r
        eaten (rw (k.1, w.1) refl)))

  value_arg : (t : Ty) (v : Operand) {us : List (List ℕ)} → is_arg scope (arg.Value t v) ≡ true → is_in_range v ≡ true → Eats x.text call_argument (typed_tokens t v ++ us) us (ArgIs (arg.Value t v))
  unfolding typed_tokens word_of same_word word_text
  value_arg ty.Ptr v h r = constant_argument known v h r
  value_arg ty.I1 v h r = typed_argument ty.I1 v refl h r
  value_arg (ty.Int n) v {us = us} h r = typed_argument (ty.Int n) v (int_no_ptr n (operand_token v ∷ us) (and_parts (is_type (ty.Int n)) (is_operand scope v) h).0) h r
  value_arg t v h r = typed_argument t v refl h r

  abbrev arg_test : Arg → Bool
  arg_test a = is_arg scope a && is_arg_in_range a

  arg_eats : (a : Arg) (us : List (List ℕ)) → arg_test a ≡ true → Eats x.text call_argument (arg_tokens tokens a ++ us) us (ArgIs a)
  arg_eats (arg.Pointer a) us h = let b = and_parts (is_addr scope a) (is_step_in_range a.step) h in pointer_arg a b.0 b.1
  arg_eats (arg.Value t v) us h = let b = and_parts (is_arg scope (arg.Value t v)) (is_in_range v) h in value_arg t v b.0 b.1

  ptr_no_close : (us : List (List ℕ)) → is_close (nth_sign (type_tokens ty.Ptr ++ us) 0) ≡ false
  unfolding word_of
  ptr_no_close us = refl

  value_no_close : (t : Ty) (v : Operand) (us : List (List ℕ)) → is_arg scope (arg.Value t v) ≡ true → is_close (nth_sign (typed_tokens t v ++ us) 0) ≡ false
  unfolding typed_tokens
  value_no_close ty.Ptr v us h = ptr_no_close (operand_token v ∷ us)
  value_no_close t v us h = ap (λ (ts : List (List ℕ)). is_close (nth_sign ts 0)) (append_assoc (type_tokens t) (operand_token v ∷ []) us) ∙ type_no_close t (operand_token v ∷ us) (and_parts (is_type t) (is_operand scope v) h).0

  arg_no_close : (a : Arg) (us : List (List ℕ)) → is_arg scope a ≡ true → is_close (nth_sign (arg_tokens tokens a ++ us) 0) ≡ false
  arg_no_close (arg.Pointer a) us h = ap is_close (addr_first known a us)
  arg_no_close (arg.Value t v) us h = value_no_close t v us h

  args_is : (as' : List Arg) (ps : List Argument) → Each2 ArgIs as' ps → args_of x ps ≡ Some as'
  args_is [] [] h = refl
  args_is [] (p ∷ ps) h = absurd h
  args_is (a ∷ as') [] h = absurd h
  args_is (a ∷ as') (p ∷ ps) h = rw (h.0, args_is as' ps h.1) refl

  args_join : (as' : List Arg) → list_all (is_arg scope) as' ≡ true → list_all is_arg_in_range as' ≡ true → list_all arg_test as' ≡ true
  args_join [] h g = refl
  args_join (a ∷ as') h g =
      let b = and_parts (is_arg scope a) (list_all (is_arg scope) as') h in
      let c = and_parts (is_arg_in_range a) (list_all is_arg_in_range as') g in
      rw (b.0, c.0, args_join as' b.1 c.1) refl

  args_eat : (as' : List Arg) → list_all (is_arg scope) as' ≡ true → list_all is_arg_in_range as' ≡ true → Eats x.text (items_in call_argument) (parted (arg_tokens tokens) as' ++ (codes ")" ∷ [])) (codes ")" ∷ []) (λ ps. args_of x ps ≡ Some as')
  unfolding same_mark
  args_eat [] h g = by_eats (eaten refl)
  args_eat (a ∷ as') h g =
      let later : List (List ℕ) = flat_map (λ b. codes "," ∷ arg_tokens tokens b) as' in
      let first : is_close (nth_sign ((arg_tokens tokens a ++ later) ++ (codes ")" ∷ [])) 0) ≡ false =
      ap (λ (ts : List (List ℕ)). is_close (nth_sign ts 0)) (append_assoc (arg_tokens tokens a) later (codes ")" ∷ [])) ∙ arg_no_close a (later ++ (codes ")" ∷ [])) (and_parts (is_arg scope a) (list_all (is_arg scope) as') h).0 in
      by_eats (some_items call_argument _ first (record {
        holds = λ ss s.
            let y = (list_eats x.text call_argument (arg_tokens tokens) arg_test ArgIs arg_eats (codes ")" ∷ []) refl (a ∷ as') refl (args_join (a ∷ as') h g)).holds ss s in
            (y.0, y.1, y.2, y.3, args_is (a ∷ as') y.0 y.4);
      }))

  -- the line states the instruction
  pub record States (r : Option NameSpan) (i : Inst) (l : Line) : Type 0 where
    pub statement : Statement
    pub line : l ≡ line.Inst r statement
    pub is : inst_of x statement ≡ Some i

  call_is : (r : Option NameSpan) (t : Option Ty) (name : List ℕ) (as' : List Arg) (u : Option Ty) (f : NameSpan × Bool) (ps : List Argument) → u ≡ t → text_at x.text f.0 ≡ name → f.1 ≡ false → args_of x ps ≡ Some as' → States r (inst.Call t name as') (call_states r u f ps)
  unfolding inst_of
  call_is r t name as' u f ps e n c h = record { statement = statement.Call u f.0 ps; line = ap (λ (b : Bool). cond b line.Nothing (line.Inst r (statement.Call u f.0 ps))) c; is = rw (e, n, h) refl }

  quiet_end : Quiet pass.Groups sign.Feed
  quiet_end = record { passed = refl; captures = refl; align = refl; bytes = refl }

  call_no_tail : same_sign (sign.Word word.Call) (sign.Word word.Tail) ≡ false
  unfolding same_word word_text
  call_no_tail = refl

  pub call_eats : (r : Option NameSpan) (t : Option Ty) (name : List ℕ) (as' : List Arg) → is_inst scope (inst.Call t name as') ≡ true → is_inst_in_range (inst.Call t name as') ≡ true → may_have r t ≡ true → Eats x.text (call false r) (inst_tokens tokens (inst.Call t name as')) [] (States r (inst.Call t name as'))
  unfolding call inst_tokens is_inst is_inst_in_range word_of
  call_eats r t name as' h g may =
      let a = and_parts (is_result_type t && is_callee_name name) (list_all (is_arg scope) as') h in
      let b = and_parts (is_result_type t) (is_callee_name name) a.0 in
      let rest : List (List ℕ) = global_token name ∷ codes "(" ∷ (parted (arg_tokens tokens) as' ++ (codes ")" ∷ [])) in
      subst (λ (ts : List (List ℕ)). Eats x.text (call false r) (codes "call" ∷ ts) [] (States r (inst.Call t name as'))) (sym (append_assoc (result_type_tokens t) (global_token name ∷ codes "(" ∷ parted (arg_tokens tokens) as') (codes ")" ∷ []))) (do
        skips {Q = λ b. b ≡ false} call_no_tail (eaten refl)
        sign1 refl
        passes (result_quiet t rest b.0)
        u ← result_type_eats t b.0
        f ← callee_eats name b.1
        sign1 refl
        ps ← args_eat as' a.1 g
        sign1 refl
        passes quiet_end
        tail_ends
        when_true (ap (λ (k : Option Ty). may_have r k && true) u.1 ∙ ap (λ (k : Bool). k && true) may)
        eaten (call_is r t name as' u.0 f.0 ps.0 u.1 f.1.0 f.1.1 ps.1))
