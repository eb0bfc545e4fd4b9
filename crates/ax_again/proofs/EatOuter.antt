-- What the lines of labels, functions and globals make of canonical tokens.
use Rattle.std.proofs.Common.{◌≡◌, ℕ, ◌+◌, ◌-◌, Bool, true, false, cond, List, [], ◌∷◌, ◌++◌, length, flat_map, Option, Some, None, refl, sym, ap, subst, ◌∙◌, codes, decimal, append_assoc, arith}
use Rattle.std.specs.List.{list_all}
use Rattle.std.proofs.lemmas.Bool.{and_parts}
use Rattle.std.proofs.lemmas.List.{take_all}
use Rattle.ax_module.specs.declared.types.Ty.{Ty}
use Rattle.ax_module.specs.declared.module.Function.{Function}
use Rattle.ax_module.specs.Names.{global_token}
use Rattle.ax_ir.specs.OperandTokens.{parted, type_tokens, param_token}
use Rattle.ax_ir.specs.InstTokens.{result_type_tokens}
use Rattle.ax_ir.specs.Canonical.{numbered_param_tokens, later_params_tokens, params_tokens, function_result_tokens, define_tokens}
use Rattle.ax_module.specs.WellFormed.{is_type, is_result_type}
use Rattle.ax_symbols.specs.declared.symbol.Sign.{Sign}
use Rattle.ax_symbols.specs.declared.symbol.Sign.TheVariants as sign
use Rattle.ax_symbols.specs.declared.symbol.Punctuation.TheVariants as mark
use Rattle.ax_symbols.specs.declared.symbol.NameSpan.{NameSpan}
use Rattle.ax_symbols.specs.declared.pass.Pass.TheVariants as pass
use Rattle.ax_lines.specs.declared.statement.Line.{Line}
use Rattle.ax_lines.specs.declared.statement.Line.TheVariants as line
use Rattle.ax_symbols.specs.Signs.{same_mark}
use Rattle.ax_symbols.specs.Symbols.{word_of}
use Rattle.ax_symbols.specs.Pieces.{local_in, global_in, global_of, is_close, is_label_sign}
use Rattle.ax_symbols.specs.Grammar.{by, one, list}
use Rattle.ax_lines.specs.Productions.{parameter, items_in, label_line, close_line, define_line, at_start, behind_block, between, outside}
use Rattle.ax_scope.specs.Names.{text_at}
use Rattle.ax_again.proofs.Numerals.{local_name}
use Rattle.ax_again.proofs.Eats.{nth_sign, Eats, ◌>>=◌, ◌>>◌, eaten, sign1, one_eats, passes, by_eats}
use Rattle.ax_again.proofs.EatPieces.{quiet_local, global_name, global_token_sign, type_eats}
use Rattle.ax_again.proofs.EatPointers.{quiet_mark}
use Rattle.ax_again.proofs.EatInsts.{weaker_eats}
use Rattle.ax_again.proofs.EatLists.{Each2, list_eats}
use Rattle.ax_again.proofs.EatCalls.{result_quiet, result_type_eats}
use Rattle.ax_again.proofs.EatArgs.{type_no_close, some_items}

-- ---- labels and ends

module _ (text : List ℕ) where
  -- the line is the label of block k
  pub record IsLabel (k : ℕ) (l : Line) : Type 0 where
    pub name : NameSpan
    pub line : l ≡ line.Label name
    pub is : text_at text name ≡ codes "b" ++ decimal k

  label_is : (k : ℕ) → Eats text label_line ((codes "b" ++ decimal k) ∷ codes ":" ∷ []) [] (IsLabel k)
  unfolding label_line
  label_is k = do
    b ← one_eats {Q = λ (s : NameSpan). text_at text s ≡ codes "b" ++ decimal k}
        (λ s f. (s.name, ap (λ (a : Sign). cond (is_label_sign a) (Some s.name) None) f.sign, f.name ∙ take_all (length (codes "b" ++ decimal k) - 0) (codes "b" ++ decimal k) (omega arith)))
    sign1 refl
    eaten (record { name = b.0; line = refl; is = b.1 })

  pub first_label : (k : ℕ) → Eats text (by at_start) ((codes "b" ++ decimal k) ∷ codes ":" ∷ []) [] (IsLabel k)
  first_label k = by_eats (label_is k)

  pub later_label : (k : ℕ) → Eats text (by behind_block) ((codes "b" ++ decimal k) ∷ codes ":" ∷ []) [] (IsLabel k)
  later_label k = by_eats (label_is k)

  pub close_eats : Eats text (by behind_block) (codes "}" ∷ []) [] (λ l. l ≡ line.Close)
  unfolding between close_line
  close_eats = by_eats (do
    sign1 refl
    eaten refl)

-- ---- functions

numbered : ℕ → List Ty → List (ℕ × Ty)
numbered k [] = []
numbered k (t ∷ ts) = (k, t) ∷ numbered (k + 1) ts

abbrev param_tokens : ℕ × Ty → List (List ℕ)
param_tokens p = numbered_param_tokens p.0 p.1

later_parted : (k : ℕ) (ts : List Ty) → flat_map (λ p. codes "," ∷ param_tokens p) (numbered k ts) ≡ later_params_tokens k ts
unfolding numbered
later_parted k [] = refl
later_parted k (t ∷ ts) = ap (λ (us : List (List ℕ)). (codes "," ∷ numbered_param_tokens k t) ++ us) (later_parted (k + 1) ts)

module _ (text : List ℕ) where
  abbrev ParamIs : ℕ × Ty → Ty × NameSpan → Type 0
  ParamIs p q = (q.0 ≡ p.1) × (text_at text q.1 ≡ codes "p" ++ decimal p.0)

  -- the parameters from number k on
  abbrev pub AreParams : ℕ → List Ty → List (Ty × NameSpan) → Type 0
  AreParams k [] [] = Unit {0}
  AreParams k [] (q ∷ qs) = ⊥
  AreParams k (t ∷ ts) [] = ⊥
  AreParams k (t ∷ ts) (q ∷ qs) = ParamIs (k, t) q × AreParams (k + 1) ts qs

  param_eats : (p : ℕ × Ty) (us : List (List ℕ)) → is_type p.1 ≡ true → Eats text parameter (param_tokens p ++ us) us (ParamIs p)
  unfolding parameter
  param_eats p us h = subst (λ (ts : List (List ℕ)). Eats text parameter ts us (ParamIs p)) (sym (append_assoc (type_tokens p.1) (param_token p.0 ∷ []) us)) (do
    t ← type_eats p.1 h
    passes (quiet_local pass.Plain)
    s ← one_eats {Q = λ (s : NameSpan). text_at text s ≡ codes "p" ++ decimal p.0} (λ s f. (s.name, ap (local_in s.name) f.sign, f.name ∙ local_name 112 (decimal p.0) refl))
    eaten (t.1, s.1))

  are_params : (k : ℕ) (ts : List Ty) (qs : List (Ty × NameSpan)) → Each2 ParamIs (numbered k ts) qs → AreParams k ts qs
  unfolding numbered
  are_params k [] [] h = tt
  are_params k [] (q ∷ qs) h = absurd h
  are_params k (t ∷ ts) [] h = absurd h
  are_params k (t ∷ ts) (q ∷ qs) h = (h.0, are_params (k + 1) ts qs h.1)

  all_types : (k : ℕ) (ts : List Ty) → list_all is_type ts ≡ true → list_all (λ (p : ℕ × Ty). is_type p.1) (numbered k ts) ≡ true
  unfolding numbered
  all_types k [] h = refl
  all_types k (t ∷ ts) h = let a = and_parts (is_type t) (list_all is_type ts) h in rw (a.0, all_types (k + 1) ts a.1) refl

  params_parted : (t : Ty) (ts : List Ty) → parted param_tokens (numbered 0 (t ∷ ts)) ≡ params_tokens (t ∷ ts)
  unfolding numbered
  params_parted t ts = ap (λ (us : List (List ℕ)). numbered_param_tokens 0 t ++ us) (later_parted 1 ts)

  some_params : (t : Ty) (ts : List Ty) {us : List (List ℕ)} → list_all is_type (t ∷ ts) ≡ true → Eats text (list parameter) (params_tokens (t ∷ ts) ++ (codes ")" ∷ us)) (codes ")" ∷ us) (AreParams 0 (t ∷ ts))
  unfolding numbered same_mark
  some_params t ts {us = us} h =
      subst (λ (vs : List (List ℕ)). Eats text (list parameter) (vs ++ (codes ")" ∷ us)) (codes ")" ∷ us) (AreParams 0 (t ∷ ts))) (params_parted t ts)
      (weaker_eats (list_eats text parameter param_tokens (λ (p : ℕ × Ty). is_type p.1) ParamIs param_eats (codes ")" ∷ us) refl (numbered 0 (t ∷ ts)) refl (all_types 0 (t ∷ ts) h)) (λ qs e. are_params 0 (t ∷ ts) qs e))

  params_eat : (ts : List Ty) {us : List (List ℕ)} → list_all is_type ts ≡ true → Eats text (items_in parameter) (params_tokens ts ++ (codes ")" ∷ us)) (codes ")" ∷ us) (AreParams 0 ts)
  params_eat [] h = by_eats (eaten tt)
  params_eat (t ∷ ts) {us = us} h =
      let later = later_params_tokens 1 ts in
      let a : (type_tokens t ++ (param_token 0 ∷ []) ++ later) ++ (codes ")" ∷ us) ≡ type_tokens t ++ ((param_token 0 ∷ []) ++ (later ++ (codes ")" ∷ us))) =
      append_assoc (type_tokens t ++ (param_token 0 ∷ [])) later (codes ")" ∷ us) ∙ append_assoc (type_tokens t) (param_token 0 ∷ []) (later ++ (codes ")" ∷ us)) in
      let first = ap (λ (vs : List (List ℕ)). is_close (nth_sign vs 0)) a ∙ type_no_close t ((param_token 0 ∷ []) ++ (later ++ (codes ")" ∷ us))) (and_parts (is_type t) (list_all is_type ts) h).0 in
      by_eats (some_items parameter _ first (some_params t ts h))

  -- the line begins the function
  pub record IsHead (f : Function) (l : Line) : Type 0 where
    pub name : NameSpan
    pub result : Option Ty
    pub params : List (Ty × NameSpan)
    pub line : l ≡ line.Define name result params
    pub name_is : text_at text name ≡ f.name
    pub result_is : result ≡ cond f.is_void None (Some f.result)
    pub params_are : AreParams 0 f.params params

  global_named : (n : NameSpan) (b c : Bool) → global_in n (cond b sign.Lifetime (cond c sign.Intrinsic sign.Global)) ≡ Some n
  global_named n true c = refl
  global_named n false true = refl
  global_named n false false = refl

  pub name_eats : (name : List ℕ) {us : List (List ℕ)} → Eats text (one global_of) (global_token name ∷ us) us (λ (s : NameSpan). text_at text s ≡ name)
  name_eats name = one_eats (λ s f. (s.name, ap (global_in s.name) (f.sign ∙ global_token_sign name) ∙ global_named s.name _ _, f.name ∙ global_name name))

  result_tokens_are : (v : Bool) (t : Ty) → function_result_tokens v t ≡ result_type_tokens (cond v None (Some t))
  unfolding function_result_tokens
  result_tokens_are true t = refl
  result_tokens_are false t = refl

  pub head_eats : (f : Function) → is_result_type (cond f.is_void None (Some f.result)) ≡ true → list_all is_type f.params ≡ true → Eats text (by outside) (define_tokens f) [] (IsHead f)
  unfolding outside define_line define_tokens word_of
  head_eats f h g =
      let r : Option Ty = cond f.is_void None (Some f.result) in
      let behind : List (List ℕ) = codes ")" ∷ codes "{" ∷ [] in
      let rest : List (List ℕ) = global_token f.name ∷ codes "(" ∷ (params_tokens f.params ++ behind) in
      let e : (function_result_tokens f.is_void f.result ++ (global_token f.name ∷ codes "(" ∷ params_tokens f.params)) ++ behind ≡ result_type_tokens r ++ rest =
      append_assoc (function_result_tokens f.is_void f.result) (global_token f.name ∷ codes "(" ∷ params_tokens f.params) behind ∙ ap (λ (ts : List (List ℕ)). ts ++ rest) (result_tokens_are f.is_void f.result) in
      subst (λ (ts : List (List ℕ)). Eats text (by outside) (codes "define" ∷ ts) [] (IsHead f)) (sym e) (by_eats (do
        sign1 refl
        passes (result_quiet r rest h)
        u ← result_type_eats r h
        n ← name_eats f.name
        sign1 refl
        ps ← params_eat f.params g
        sign1 refl
        passes (quiet_mark pass.Plain mark.OpenBrace)
        sign1 refl
        eaten (record { name = n.0; result = u.0; params = ps.0; line = refl; name_is = n.1; result_is = u.1; params_are = ps.1 })))
