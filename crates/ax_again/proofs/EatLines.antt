-- What the lines of instructions make of canonical tokens.
use Rattle.std.proofs.Common.{◌≡◌, ℕ, Bool, true, false, cond, List, [], ◌∷◌, ◌++◌, Option, Some, None, refl, sym, ap, ◌∙◌, codes, decimal, append_assoc, true≢false}
use Rattle.std.proofs.lemmas.Bool.{and_parts}
use Rattle.ax_module.specs.declared.types.Ty.{Ty}
use Rattle.ax_module.specs.declared.operand.Operand.{Operand}
use Rattle.ax_module.specs.declared.operand.Addr.{Addr}
use Rattle.ax_module.specs.declared.inst.BinOp.{BinOp}
use Rattle.ax_module.specs.declared.inst.BinOp.TheVariants as bin
use Rattle.ax_module.specs.declared.inst.Cast.{Cast}
use Rattle.ax_module.specs.declared.inst.Cast.TheVariants as cast
use Rattle.ax_module.specs.declared.inst.Inst.{Inst}
use Rattle.ax_module.specs.declared.inst.Inst.TheVariants as inst
use Rattle.ax_module.specs.Kinds.{has_result, is_phi}
use Rattle.ax_module.specs.Words.{binary_word, cast_word}
use Rattle.ax_ir.specs.OperandTokens.{type_tokens, operand_token, typed_tokens, label_tokens, addr_tokens, align_tokens, value_token}
use Rattle.ax_ir.specs.InstTokens.{inst_tokens, numbered_inst_tokens}
use Rattle.ax_module.specs.WellFormed.{NameCounts, is_type, is_operand, is_typed, is_addr, is_inst}
use Rattle.ax_module.specs.Ranges.{is_inst_in_range}
use Rattle.ax_symbols.specs.declared.symbol.Sign.{Sign}
use Rattle.ax_symbols.specs.declared.symbol.Sign.TheVariants as sign
use Rattle.ax_symbols.specs.declared.vocabulary.Word.TheVariants as word
use Rattle.ax_symbols.specs.declared.symbol.NameSpan.{NameSpan}
use Rattle.ax_lines.specs.declared.statement.Statement.{Statement}
use Rattle.ax_lines.specs.declared.statement.Line.{Line}
use Rattle.ax_symbols.specs.Signs.{word_text, same_sign, same_word}
use Rattle.ax_symbols.specs.Symbols.{word_of}
use Rattle.ax_symbols.specs.Pieces.{local_in}
use Rattle.ax_symbols.specs.Grammar.{Grammar, by}
use Rattle.ax_lines.specs.Productions.{binary, conversion, plain_load, plain_store, may_have, states, load_line, store_line, return_value, return_line, phi_line, valued, unnamed, result_name, named, in_block}
use Rattle.ax_scope.specs.Names.{text_at, maybe_at}
use Rattle.ax_scope.specs.Resolve.{Looks, inst_of}
use Rattle.ax_again.proofs.Numerals.{local_name}
use Rattle.ax_again.proofs.Eats.{token_sign, nth_sign, Eats, ◌>>=◌, ◌>>◌, eaten, sign1, one_eats, by_eats}
use Rattle.ax_again.proofs.EatPieces.{Known}
use Rattle.ax_again.proofs.EatInsts as eat
use Rattle.ax_again.proofs.EatInsts.{type_no_word, typed_no_word, weaker_eats}
use Rattle.ax_again.proofs.EatLists.{phi_eats}
use Rattle.ax_again.proofs.EatArgs.{States, call_eats}

no_atomic : (a : Sign) → same_sign a (sign.Word word.Atomic) ≡ false → a ≡ sign.Word word.Atomic → ⊥
unfolding same_word word_text
no_atomic a e q = true≢false (ap (λ (b : Sign). same_sign b (sign.Word word.Atomic)) (sym q) ∙ e)

no_void : (a : Sign) → same_sign a (sign.Word word.Void) ≡ false → a ≡ sign.Word word.Void → ⊥
unfolding same_word word_text
no_void a e q = true≢false (ap (λ (b : Sign). same_sign b (sign.Word word.Void)) (sym q) ∙ e)

module _ {text : List ℕ} {ts us : List (List ℕ)} {Q : Statement → Type 0} where
  second_load : (a : Sign) → (a ≡ sign.Word word.Atomic → ⊥) → Eats text plain_load ts us Q → Eats text (load_line a) ts us Q
  second_load (sign.Word word.Atomic) n b = absurd (n refl)
  second_load (sign.Word word.Other) n b = b
  second_load (sign.Word _) n b = b
  second_load sign.Local n b = b
  second_load _ n b = b

  second_store : (a : Sign) → (a ≡ sign.Word word.Atomic → ⊥) → Eats text plain_store ts us Q → Eats text (store_line a) ts us Q
  second_store (sign.Word word.Atomic) n b = absurd (n refl)
  second_store (sign.Word word.Other) n b = b
  second_store (sign.Word _) n b = b
  second_store sign.Local n b = b
  second_store _ n b = b

  second_return : (a : Sign) → (a ≡ sign.Word word.Void → ⊥) → Eats text return_value ts us Q → Eats text (return_line a) ts us Q
  second_return (sign.Word word.Void) n b = absurd (n refl)
  second_return (sign.Word word.Other) n b = b
  second_return (sign.Word _) n b = b
  second_return sign.Local n b = b
  second_return _ n b = b

module _ {text : List ℕ} {ts us : List (List ℕ)} {Q : Line → Type 0} where
  by_operation : (op : BinOp) (phis : Bool) (r : Option NameSpan) (b : Sign) → Eats text (states r binary) ts us Q → Eats text (valued phis r (token_sign (binary_word op)) b) ts us Q
  unfolding valued word_of
  by_operation bin.Add phis r b e = e
  by_operation _ phis r b e = e

  by_cast : (c : Cast) (phis : Bool) (r : Option NameSpan) (b : Sign) → Eats text (states r conversion) ts us Q → Eats text (valued phis r (token_sign (cast_word c)) b) ts us Q
  unfolding valued word_of
  by_cast cast.Zext phis r b e = e
  by_cast _ phis r b e = e

may_some : (r : Option NameSpan) (t : Ty) → may_have r (Some t) ≡ true
may_some None t = refl
may_some (Some s) t = refl

module _ {scope : NameCounts} {x : Looks} {tokens : List (List ℕ)} (known : Known scope x tokens) where
  stating : {g : Grammar Statement} {ts : List (List ℕ)} (r : Option NameSpan) (i : Inst) → Eats x.text g ts [] (λ (s : Statement). inst_of x s ≡ Some i) → Eats x.text (states r g) ts [] (States known r i)
  stating r i e = do
    s ← e
    eaten (record { statement = s.0; line = refl; is = s.1 })

  phi_stated : (phis : Bool) (r : Option NameSpan) (t : Ty) (es : List (Operand × ℕ)) → phis ≡ true → is_inst scope (inst.Phi t es) ≡ true → is_inst_in_range (inst.Phi t es) ≡ true
      → Eats x.text (states r (phi_line phis)) (inst_tokens tokens (inst.Phi t es)) [] (States known r (inst.Phi t es))
  phi_stated true r t es p h g = stating r (inst.Phi t es) (phi_eats known t es h g)
  phi_stated false r t es p h g = absurd (true≢false (sym p))

  load_stated : (r : Option NameSpan) (t : Ty) (a : Addr) (align : Option ℕ) → is_inst scope (inst.Load t a align) ≡ true → is_inst_in_range (inst.Load t a align) ≡ true
      → Eats x.text (states r (load_line (nth_sign (inst_tokens tokens (inst.Load t a align)) 1))) (inst_tokens tokens (inst.Load t a align)) [] (States known r (inst.Load t a align))
  unfolding inst_tokens is_inst same_word word_text
  load_stated r t a align h g =
      let ty = (and_parts (is_type t) (is_addr scope a) h).0 in
      let first : same_sign (nth_sign ((type_tokens t ++ (codes "," ∷ addr_tokens tokens a)) ++ align_tokens align) 0) (sign.Word word.Atomic) ≡ false =
      ap (λ (ts : List (List ℕ)). same_sign (nth_sign ts 0) (sign.Word word.Atomic)) (append_assoc (type_tokens t) (codes "," ∷ addr_tokens tokens a) (align_tokens align)) ∙ type_no_word t word.Atomic (codes "," ∷ (addr_tokens tokens a ++ align_tokens align)) ty refl refl refl in
      stating r (inst.Load t a align) (second_load _ (no_atomic _ first) (eat.load_eats known t a align h g))

  store_stated : (t : Ty) (v : Operand) (a : Addr) (align : Option ℕ) → is_inst scope (inst.Store t v a align) ≡ true → is_inst_in_range (inst.Store t v a align) ≡ true
      → Eats x.text (states None (store_line (nth_sign (inst_tokens tokens (inst.Store t v a align)) 1))) (inst_tokens tokens (inst.Store t v a align)) [] (States known None (inst.Store t v a align))
  unfolding inst_tokens is_inst same_word word_text
  store_stated t v a align h g =
      let ty = (and_parts (is_type t) (is_operand scope v) (and_parts (is_typed scope t v) (is_addr scope a) h).0).0 in
      let first : same_sign (nth_sign ((typed_tokens t v ++ (codes "," ∷ addr_tokens tokens a)) ++ align_tokens align) 0) (sign.Word word.Atomic) ≡ false =
      ap (λ (ts : List (List ℕ)). same_sign (nth_sign ts 0) (sign.Word word.Atomic)) (append_assoc (typed_tokens t v) (codes "," ∷ addr_tokens tokens a) (align_tokens align)) ∙ typed_no_word t v word.Atomic (codes "," ∷ (addr_tokens tokens a ++ align_tokens align)) ty refl refl refl in
      stating None (inst.Store t v a align) (second_store _ (no_atomic _ first) (eat.store_eats known t v a align h g))

  return_stated : (t : Ty) (v : Operand) → is_inst scope (inst.Ret t v) ≡ true → is_inst_in_range (inst.Ret t v) ≡ true
      → Eats x.text (states None (return_line (nth_sign (inst_tokens tokens (inst.Ret t v)) 1))) (inst_tokens tokens (inst.Ret t v)) [] (States known None (inst.Ret t v))
  unfolding inst_tokens is_inst typed_tokens same_word word_text
  return_stated t v h g =
      let first = type_no_word t word.Void (operand_token v ∷ []) (and_parts (is_type t) (is_operand scope v) h).0 refl refl refl in
      stating None (inst.Ret t v) (second_return _ (no_void _ first) (eat.return_eats known t v h g))

  valued_eats : (phis : Bool) (r : Option NameSpan) (i : Inst) → has_result i ≡ true → (is_phi i ≡ true → phis ≡ true) → is_inst scope i ≡ true → is_inst_in_range i ≡ true
      → Eats x.text (valued phis r (nth_sign (inst_tokens tokens i) 0) (nth_sign (inst_tokens tokens i) 1)) (inst_tokens tokens i) [] (States known r i)
  unfolding valued inst_tokens has_result is_phi word_of
  valued_eats phis r (inst.Bin op t v w) k p h g = by_operation op phis r _ (stating r (inst.Bin op t v w) (eat.binary_eats known op t v w h g))
  valued_eats phis r (inst.Icmp c t v w) k p h g = stating r (inst.Icmp c t v w) (eat.comparison_eats known c t v w h g)
  valued_eats phis r (inst.Select c t v u w) k p h g = stating r (inst.Select c t v u w) (eat.selection_eats known c t v u w h g)
  valued_eats phis r (inst.Convert c t v u) k p h g = by_cast c phis r _ (stating r (inst.Convert c t v u) (eat.conversion_eats known c t v u h g))
  valued_eats phis r (inst.Phi t es) k p h g = phi_stated phis r t es (p refl) h g
  valued_eats phis r (inst.Jump b) k p h g = absurd cc
  valued_eats phis r (inst.Branch v b c) k p h g = absurd cc
  valued_eats phis r inst.RetVoid k p h g = absurd cc
  valued_eats phis r (inst.Ret t v) k p h g = absurd cc
  valued_eats phis r inst.Unreachable k p h g = absurd cc
  valued_eats phis r (inst.Alloca t n align) k p h g = stating r (inst.Alloca t n align) (eat.alloca_eats known t n align h g)
  valued_eats phis r (inst.Gep elem n b t v) k p h g = stating r (inst.Gep elem n b t v) (eat.gep_eats known elem n b t v h g)
  valued_eats phis r (inst.Load t a align) k p h g = load_stated r t a align h g
  valued_eats phis r (inst.LoadAtomic t a o align) k p h g = stating r (inst.LoadAtomic t a o align) (eat.load_atomic_eats known t a o align h g)
  valued_eats phis r (inst.Store t v a align) k p h g = absurd cc
  valued_eats phis r (inst.StoreAtomic t v a o align) k p h g = absurd cc
  valued_eats phis r (inst.Cmpxchg weak a t v u w s f align) k p h g = stating r (inst.Cmpxchg weak a t v u w s f align) (eat.exchange_eats known weak a t v u w s f align h g)
  valued_eats phis r (inst.Rmw op a t v o align) k p h g = stating r (inst.Rmw op a t v o align) (eat.rmw_eats known op a t v o align h g)
  valued_eats phis r (inst.Fence single o) k p h g = absurd cc
  valued_eats phis r (inst.Extract t v part) k p h g = stating r (inst.Extract t v part) (eat.extract_eats known t v part h g)
  valued_eats phis r (inst.Call None name as') k p h g = absurd cc
  valued_eats phis r (inst.Call (Some t) name as') k p h g = call_eats known r (Some t) name as' h g (may_some r t)

  unnamed_eats : (phis : Bool) (i : Inst) → has_result i ≡ false → is_inst scope i ≡ true → is_inst_in_range i ≡ true
      → Eats x.text (in_block phis (nth_sign (inst_tokens tokens i) 0) (nth_sign (inst_tokens tokens i) 1)) (inst_tokens tokens i) [] (States known None i)
  unfolding in_block unnamed valued inst_tokens label_tokens has_result word_of
  unnamed_eats phis (inst.Jump b) k h g = stating None (inst.Jump b) (eat.jump_eats known b h)
  unnamed_eats phis (inst.Branch v b c) k h g = stating None (inst.Branch v b c) (eat.branch_eats known v b c h g)
  unnamed_eats phis inst.RetVoid k h g = stating None inst.RetVoid (eat.return_void_eats known)
  unnamed_eats phis (inst.Ret t v) k h g = return_stated t v h g
  unnamed_eats phis inst.Unreachable k h g = stating None inst.Unreachable (eat.unreachable_eats known)
  unnamed_eats phis (inst.Store t v a align) k h g = store_stated t v a align h g
  unnamed_eats phis (inst.StoreAtomic t v a o align) k h g = stating None (inst.StoreAtomic t v a o align) (eat.store_atomic_eats known t v a o align h g)
  unnamed_eats phis (inst.Fence single o) k h g = stating None (inst.Fence single o) (eat.fence_eats known single o)
  unnamed_eats phis (inst.Call None name as') k h g = call_eats known None None name as' h g refl
  unnamed_eats phis (inst.Call (Some t) name as') k h g = absurd cc
  unnamed_eats phis _ k h g = absurd cc

  -- the line is instruction n
  pub record Numbered (n : ℕ) (i : Inst) (l : Line) : Type 0 where
    pub result : Option NameSpan
    pub name : maybe_at x.text result ≡ cond (has_result i) (Some (codes "v" ++ decimal n)) None
    pub states : States known result i l

  named_eats : (n : ℕ) {us : List (List ℕ)} → Eats x.text result_name (value_token n ∷ codes "=" ∷ us) us (λ (s : NameSpan). text_at x.text s ≡ codes "v" ++ decimal n)
  named_eats n = do
    r ← one_eats {Q = λ (s : NameSpan). text_at x.text s ≡ codes "v" ++ decimal n} (λ s f. (s.name, ap (local_in s.name) f.sign, f.name ∙ local_name 118 (decimal n) refl))
    sign1 refl
    eaten r.1

  pub numbered_eats : (phis : Bool) (n : ℕ) (i : Inst) → (is_phi i ≡ true → phis ≡ true) → is_inst scope i ≡ true → is_inst_in_range i ≡ true
      → Eats x.text (by (in_block phis)) (numbered_inst_tokens tokens n i) [] (Numbered n i)
  unfolding in_block named
  numbered_eats phis n i p h g = each (has_result i) refl
    where
      each : (k : Bool) → has_result i ≡ k → Eats x.text (by (in_block phis)) (cond k (value_token n ∷ codes "=" ∷ []) [] ++ inst_tokens tokens i) [] (Numbered n i)
      each true k = by_eats (do
        r ← named_eats n
        weaker_eats (by_eats (valued_eats phis (Some r.0) i k p h g)) (λ v q. record { result = Some r.0; name = ap (λ (s : List ℕ). Some s) r.1 ∙ ap (λ (b : Bool). cond b (Some (codes "v" ++ decimal n)) None) (sym k); states = q }))
      each false k = by_eats (weaker_eats (unnamed_eats phis i k h g) (λ v q. record { result = None; name = ap (λ (b : Bool). cond b (Some (codes "v" ++ decimal n)) None) (sym k); states = q }))
