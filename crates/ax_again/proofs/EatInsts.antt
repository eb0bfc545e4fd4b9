-- What the productions of instructions make of canonical tokens.
use Rattle.std.proofs.Common.{◌≡◌, ℕ, ◌^◌, Bool, true, false, cond, ◌&&◌, List, [], ◌∷◌, ◌++◌, Option, Some, None, refl, sym, ap, subst, ◌∙◌, codes, decimal, nat_lt, ◌==◌, append_assoc, arith}
use Rattle.std.proofs.lemmas.Bool.{and_parts, ltb-true, eqb-true}
use Rattle.std.proofs.lemmas.List.{append-nil}
use Rattle.ax_words.specs.declared.order.Order.{Order}
use Rattle.ax_words.specs.declared.order.Order.TheVariants as order
use Rattle.ax_words.specs.Orders.{order_word}
use Rattle.ax_words.specs.declared.operation.RmwOp.{RmwOp}
use Rattle.ax_words.specs.declared.operation.RmwOp.TheVariants as rmw
use Rattle.ax_words.specs.Operation.{operation_word}
use Rattle.ax_module.specs.declared.types.Ty.{Ty}
use Rattle.ax_module.specs.declared.types.Ty.TheVariants as ty
use Rattle.ax_module.specs.declared.operand.Operand.{Operand}
use Rattle.ax_module.specs.declared.operand.Base.{Base}
use Rattle.ax_module.specs.declared.operand.Addr.{Addr}
use Rattle.ax_module.specs.declared.inst.BinOp.{BinOp}
use Rattle.ax_module.specs.declared.inst.BinOp.TheVariants as bin
use Rattle.ax_module.specs.declared.inst.Pred.{Pred}
use Rattle.ax_module.specs.declared.inst.Pred.TheVariants as pred
use Rattle.ax_module.specs.declared.inst.Cast.{Cast}
use Rattle.ax_module.specs.declared.inst.Cast.TheVariants as cast
use Rattle.ax_module.specs.declared.inst.Inst.{Inst}
use Rattle.ax_module.specs.declared.inst.Inst.TheVariants as inst
use Rattle.ax_module.specs.Words.{binary_word, condition_word, cast_word}
use Rattle.ax_ir.specs.OperandTokens.{gep_tokens, type_tokens, array_tokens, elements_tokens, operand_token, typed_tokens, label_tokens, addr_tokens, align_tokens}
use Rattle.ax_ir.specs.InstTokens.{inst_tokens, weak_tokens, scope_tokens, pair_tokens}
use Rattle.ax_module.specs.WellFormed.{NameCounts, is_type, is_operand, is_typed, is_addr, is_base, is_inst}
use Rattle.ax_module.specs.Ranges.{is_word, is_stated_word, is_in_range, is_addr_in_range, is_inst_in_range}
use Rattle.ax_symbols.specs.declared.symbol.Sign.{Sign}
use Rattle.ax_symbols.specs.declared.symbol.Sign.TheVariants as sign
use Rattle.ax_symbols.specs.declared.vocabulary.Word.TheVariants as word
use Rattle.ax_symbols.specs.declared.pass.Pass.TheVariants as pass
use Rattle.ax_lines.specs.declared.statement.Statement.{Statement}
use Rattle.ax_symbols.specs.declared.vocabulary.Word.{Word}
use Rattle.ax_symbols.specs.Signs.{word_text, same_sign, same_word}
use Rattle.ax_symbols.specs.Symbols.{word_of}
use Rattle.ax_symbols.specs.Pieces.{order_in, order_of, pred_in, binary_in, cast_in, rmw_in, part_in}
use Rattle.ax_symbols.specs.Grammar.{Grammar, one, typed}
use Rattle.ax_lines.specs.Productions.{maybe, path, count_or, elements, typed_value, binary, comparison, selection, conversion, alloca, getelementptr, atomic_load, plain_load, exchange, modification, extraction, atomic_store, plain_store, fence, jump, branch, return_void, return_value, unreachable_line}
use Rattle.ax_scope.specs.Resolve.{Looks, inst_of}
use Rattle.ax_again.proofs.Eats.{token_sign, nth_sign, Eats, ◌>>=◌, ◌>>◌, eaten, sign1, sign2, sign3, sign4, one_eats, Quiet, passes, takes, skips, tail_ends}
use Rattle.ax_again.proofs.Numerals.{decimal_sign, width_sign}
use Rattle.ax_again.proofs.EatPieces.{Known, TypedIs, type_eats, alignment_eats, stated_alignment_eats, value_eats, block_eats, typed_value_eats}
use Rattle.ax_again.proofs.EatPointers.{PathIs, addr_first, gep_quiet, single_eats, array_eats, quiet_typed, path_eats, addr_eats}

-- ---- words

binary_sign : (op : BinOp) → binary_in (token_sign (binary_word op)) ≡ Some op
unfolding word_of
binary_sign bin.Add = refl
binary_sign _ = refl

pred_sign : (c : Pred) → pred_in (token_sign (condition_word c)) ≡ Some c
unfolding word_of
pred_sign pred.Eq = refl
pred_sign _ = refl

pred_quiet : (c : Pred) → Quiet pass.Comparison (token_sign (condition_word c))
unfolding word_of
pred_quiet pred.Eq = record { passed = refl; captures = refl; align = refl; bytes = refl }
pred_quiet _ = record { passed = refl; captures = refl; align = refl; bytes = refl }

cast_sign : (c : Cast) → cast_in (token_sign (cast_word c)) ≡ Some c
unfolding word_of
cast_sign cast.Zext = refl
cast_sign _ = refl

order_sign : (o : Order) → order_in (token_sign (order_word o)) ≡ Some o
unfolding word_of
order_sign order.Unordered = refl
order_sign _ = refl

rmw_sign : (o : RmwOp) → rmw_in (token_sign (operation_word o)) ≡ Some o
unfolding word_of
rmw_sign rmw.Xchg = refl
rmw_sign _ = refl

order_no_scope : (o : Order) → same_sign (token_sign (order_word o)) (sign.Word word.Syncscope) ≡ false
unfolding word_of same_word word_text
order_no_scope order.Unordered = refl
order_no_scope _ = refl

ptr_no_volatile : same_sign (sign.Word word.Ptr) (sign.Word word.Volatile) ≡ false
unfolding same_word word_text
ptr_no_volatile = refl

ptr_no_weak : same_sign (sign.Word word.Ptr) (sign.Word word.Weak) ≡ false
unfolding same_word word_text
ptr_no_weak = refl

-- words that do not begin a type
pub type_no_word : (t : Ty) (w : Word) (us : List (List ℕ)) → is_type t ≡ true → same_word word.Float w ≡ false → same_word word.Double w ≡ false → same_word word.Ptr w ≡ false → same_sign (nth_sign (type_tokens t ++ us) 0) (sign.Word w) ≡ false
unfolding word_of
type_no_word ty.I1 w us h f d p = refl
type_no_word (ty.Int n) w us h f d p = ap (λ (a : Sign). same_sign a (sign.Word w)) (width_sign n (ltb-true n (10 ^ 8) (and_parts (nat_lt n (10 ^ 8)) _ h).0))
type_no_word ty.Float w us h f d p = f
type_no_word ty.Double w us h f d p = d
type_no_word ty.Ptr w us h f d p = p
type_no_word _ w us h f d p = refl

pub typed_no_word : (t : Ty) (v : Operand) (w : Word) (us : List (List ℕ)) → is_type t ≡ true → same_word word.Float w ≡ false → same_word word.Double w ≡ false → same_word word.Ptr w ≡ false → same_sign (nth_sign (typed_tokens t v ++ us) 0) (sign.Word w) ≡ false
unfolding typed_tokens
typed_no_word t v w us h f d p = ap (λ (ts : List (List ℕ)). same_sign (nth_sign ts 0) (sign.Word w)) (append_assoc (type_tokens t) (operand_token v ∷ []) us) ∙ type_no_word t w (operand_token v ∷ us) h f d p

type_no_volatile : (t : Ty) (us : List (List ℕ)) → is_type t ≡ true → same_sign (nth_sign (type_tokens t ++ us) 0) (sign.Word word.Volatile) ≡ false
unfolding same_word word_text
type_no_volatile t us h = type_no_word t word.Volatile us h refl refl refl

typed_no_volatile : (t : Ty) (v : Operand) (us : List (List ℕ)) → is_type t ≡ true → same_sign (nth_sign (typed_tokens t v ++ us) 0) (sign.Word word.Volatile) ≡ false
unfolding same_word word_text
typed_no_volatile t v us h = typed_no_word t v word.Volatile us h refl refl refl

rmw_no_volatile : (o : RmwOp) → same_sign (token_sign (operation_word o)) (sign.Word word.Volatile) ≡ false
unfolding word_of same_word word_text
rmw_no_volatile rmw.Xchg = refl
rmw_no_volatile _ = refl

module _ {text : List ℕ} where
  pub weak_eats : (weak : Bool) (us : List (List ℕ)) → same_sign (nth_sign us 0) (sign.Word word.Weak) ≡ false → Eats text (maybe (sign.Word word.Weak ∷ [])) (weak_tokens weak ++ us) us (λ b. b ≡ weak)
  unfolding weak_tokens word_of
  weak_eats true us h = takes (sign1 refl) (eaten refl)
  weak_eats false us h = skips h (eaten refl)

  pub weaker_eats : {V : Type 0} {g : Grammar V} {ts us : List (List ℕ)} {Q R : V → Type 0} → Eats text g ts us Q → ((v : V) → Q v → R v) → Eats text g ts us R
  weaker_eats a f = record { holds = λ ss h. let y = a.holds ss h in (y.0, y.1, y.2, y.3, f y.0 y.4) }

  last_type : (t : Ty) → is_type t ≡ true → Eats text typed (type_tokens t) [] (λ u. u ≡ t)
  last_type t h = subst (λ (ts : List (List ℕ)). Eats text typed ts [] (λ u. u ≡ t)) (append-nil (type_tokens t)) (type_eats t h)

  pub elements_eats : (count : ℕ) (t : Ty) {us : List (List ℕ)} → is_word count ≡ true → is_type t ≡ true → Eats text elements (elements_tokens count t ++ us) us (λ e. (e.0 ≡ t) × (count_or 1 e.1 ≡ count))
  unfolding elements_tokens
  elements_eats count t {us = us} w h = by (count == 1) refl
    where
      by : (c : Bool) → count == 1 ≡ c → Eats text elements (cond c (type_tokens t) (array_tokens count t) ++ us) us (λ e. (e.0 ≡ t) × (count_or 1 e.1 ≡ count))
      by true z = weaker_eats (single_eats t h) (λ e q. (q.0, ap (count_or 1) q.1 ∙ sym (eqb-true count 1 z)))
      by false z = weaker_eats (array_eats count t w h) (λ e q. (q.0, ap (count_or 1) q.1))

  pub order_eats : (o : Order) {us : List (List ℕ)} → Eats text (one order_of) (order_word o ∷ us) us (λ a. a ≡ o)
  order_eats o = one_eats {Q = λ a. a ≡ o} (λ s f. (o, ap order_in f.sign ∙ order_sign o, refl))

module _ {scope : NameCounts} {x : Looks} {tokens : List (List ℕ)} (known : Known scope x tokens) where
  abbrev pub InstIs : Inst → Statement → Type 0
  InstIs i s = inst_of x s ≡ Some i

  pub binary_eats : (op : BinOp) (t : Ty) (v w : Operand) → is_inst scope (inst.Bin op t v w) ≡ true → is_inst_in_range (inst.Bin op t v w) ≡ true → Eats x.text binary (inst_tokens tokens (inst.Bin op t v w)) [] (InstIs (inst.Bin op t v w))
  unfolding binary inst_tokens inst_of is_inst is_inst_in_range word_of
  binary_eats op t v w h r =
      let a = and_parts (is_typed scope t v) (is_operand scope w) h in
      let b = and_parts (is_type t) (is_operand scope v) a.0 in
      let c = and_parts (is_in_range v) (is_in_range w) r in
      do
        o ← one_eats {Q = λ o. o ≡ op} (λ s f. (op, ap binary_in f.sign ∙ binary_sign op, refl))
        passes (quiet_typed pass.Arithmetic t v (codes "," ∷ operand_token w ∷ []) b.0)
        p ← typed_value_eats known t v b.0 b.1 c.0
        sign1 refl
        q ← value_eats known w a.1 c.1
        eaten (rw (o.1, p.1.0, p.1.1, q.1) refl)

  pub comparison_eats : (c : Pred) (t : Ty) (v w : Operand) → is_inst scope (inst.Icmp c t v w) ≡ true → is_inst_in_range (inst.Icmp c t v w) ≡ true → Eats x.text comparison (inst_tokens tokens (inst.Icmp c t v w)) [] (InstIs (inst.Icmp c t v w))
  unfolding comparison inst_tokens inst_of is_inst is_inst_in_range word_of
  comparison_eats k t v w h r =
      let a = and_parts (is_typed scope t v) (is_operand scope w) h in
      let b = and_parts (is_type t) (is_operand scope v) a.0 in
      let c = and_parts (is_in_range v) (is_in_range w) r in
      do
        sign1 refl
        passes (pred_quiet k)
        o ← one_eats {Q = λ o. o ≡ k} (λ s f. (k, ap pred_in f.sign ∙ pred_sign k, refl))
        p ← typed_value_eats known t v b.0 b.1 c.0
        sign1 refl
        q ← value_eats known w a.1 c.1
        eaten (rw (o.1, p.1.0, p.1.1, q.1) refl)

  pub conversion_eats : (c : Cast) (t : Ty) (v : Operand) (u : Ty) → is_inst scope (inst.Convert c t v u) ≡ true → is_inst_in_range (inst.Convert c t v u) ≡ true → Eats x.text conversion (inst_tokens tokens (inst.Convert c t v u)) [] (InstIs (inst.Convert c t v u))
  unfolding conversion inst_tokens inst_of is_inst is_inst_in_range word_of
  conversion_eats k t v u h r =
      let a = and_parts (is_typed scope t v) (is_type u) h in
      let b = and_parts (is_type t) (is_operand scope v) a.0 in
      do
        o ← one_eats {Q = λ o. o ≡ k} (λ s f. (k, ap cast_in f.sign ∙ cast_sign k, refl))
        passes (quiet_typed pass.Conversion t v (codes "to" ∷ type_tokens u) b.0)
        p ← typed_value_eats known t v b.0 b.1 r
        sign1 refl
        q ← last_type u a.1
        eaten (rw (o.1, p.1.0, p.1.1, q.1) refl)

  pub jump_eats : (b : ℕ) → is_inst scope (inst.Jump b) ≡ true → Eats x.text jump (inst_tokens tokens (inst.Jump b)) [] (InstIs (inst.Jump b))
  unfolding jump inst_tokens label_tokens inst_of is_inst word_of
  jump_eats b h = do
    sign2 refl refl
    k ← block_eats known b h
    tail_ends
    eaten (rw k.1 refl)

  pub branch_eats : (v : Operand) (b c : ℕ) → is_inst scope (inst.Branch v b c) ≡ true → is_inst_in_range (inst.Branch v b c) ≡ true → Eats x.text branch (inst_tokens tokens (inst.Branch v b c)) [] (InstIs (inst.Branch v b c))
  unfolding branch inst_tokens label_tokens inst_of is_inst is_inst_in_range word_of
  branch_eats v b c h r =
      let a = and_parts (is_operand scope v && nat_lt b scope.blocks) (nat_lt c scope.blocks) h in
      let d = and_parts (is_operand scope v) (nat_lt b scope.blocks) a.0 in
      do
        sign2 refl refl
        k ← value_eats known v d.0 r
        sign2 refl refl
        l ← block_eats known b d.1
        sign2 refl refl
        m ← block_eats known c a.1
        tail_ends
        eaten (rw (k.1, l.1, m.1) refl)

  pub return_void_eats : Eats x.text return_void (inst_tokens tokens inst.RetVoid) [] (InstIs inst.RetVoid)
  unfolding return_void inst_tokens inst_of word_of
  return_void_eats = do
    sign2 refl refl
    eaten refl

  pub unreachable_eats : Eats x.text unreachable_line (inst_tokens tokens inst.Unreachable) [] (InstIs inst.Unreachable)
  unfolding unreachable_line inst_tokens inst_of word_of
  unreachable_eats = do
    sign1 refl
    eaten refl

  pub load_eats : (t : Ty) (a : Addr) (align : Option ℕ) → is_inst scope (inst.Load t a align) ≡ true → is_inst_in_range (inst.Load t a align) ≡ true → Eats x.text plain_load (inst_tokens tokens (inst.Load t a align)) [] (InstIs (inst.Load t a align))
  unfolding plain_load inst_tokens inst_of is_inst is_inst_in_range word_of
  load_eats t a align h r =
      let b = and_parts (is_type t) (is_addr scope a) h in
      let c = and_parts (is_addr_in_range a) (is_stated_word align) r in
      subst (λ (ts : List (List ℕ)). Eats x.text plain_load (codes "load" ∷ ts) [] (InstIs (inst.Load t a align))) (sym (append_assoc (type_tokens t) (codes "," ∷ addr_tokens tokens a) (align_tokens align))) (do
        sign1 refl
        skips {Q = λ b. b ≡ false} (type_no_volatile t (codes "," ∷ (addr_tokens tokens a ++ align_tokens align)) b.0) (eaten refl)
        k ← type_eats t b.0
        sign1 refl
        l ← addr_eats known a b.1 c.0
        m ← alignment_eats align c.1
        tail_ends
        eaten (rw (k.1, l.1, m.1) refl))

  pub load_atomic_eats : (t : Ty) (a : Addr) (o : Order) (align : ℕ) → is_inst scope (inst.LoadAtomic t a o align) ≡ true → is_inst_in_range (inst.LoadAtomic t a o align) ≡ true → Eats x.text atomic_load (inst_tokens tokens (inst.LoadAtomic t a o align)) [] (InstIs (inst.LoadAtomic t a o align))
  unfolding atomic_load inst_tokens inst_of is_inst is_inst_in_range word_of
  load_atomic_eats t a o align h r =
      let b = and_parts (is_type t) (is_addr scope a) h in
      let c = and_parts (is_addr_in_range a) (is_word align) r in
      subst (λ (ts : List (List ℕ)). Eats x.text atomic_load (codes "load" ∷ codes "atomic" ∷ ts) [] (InstIs (inst.LoadAtomic t a o align))) (sym (append_assoc (type_tokens t) (codes "," ∷ addr_tokens tokens a) (order_word o ∷ align_tokens (Some align)))) (do
        sign2 refl refl
        skips {Q = λ b. b ≡ false} (type_no_volatile t (codes "," ∷ (addr_tokens tokens a ++ (order_word o ∷ align_tokens (Some align)))) b.0) (eaten refl)
        k ← type_eats t b.0
        sign1 refl
        l ← addr_eats known a b.1 c.0
        n ← order_eats o
        m ← stated_alignment_eats align c.1
        tail_ends
        eaten (rw (k.1, l.1, n.1, m.1) refl))

  pub store_eats : (t : Ty) (v : Operand) (a : Addr) (align : Option ℕ) → is_inst scope (inst.Store t v a align) ≡ true → is_inst_in_range (inst.Store t v a align) ≡ true → Eats x.text plain_store (inst_tokens tokens (inst.Store t v a align)) [] (InstIs (inst.Store t v a align))
  unfolding plain_store inst_tokens inst_of is_inst is_inst_in_range word_of
  store_eats t v a align h r =
      let b = and_parts (is_typed scope t v) (is_addr scope a) h in
      let d = and_parts (is_type t) (is_operand scope v) b.0 in
      let c = and_parts (is_in_range v && is_addr_in_range a) (is_stated_word align) r in
      let e = and_parts (is_in_range v) (is_addr_in_range a) c.0 in
      subst (λ (ts : List (List ℕ)). Eats x.text plain_store (codes "store" ∷ ts) [] (InstIs (inst.Store t v a align))) (sym (append_assoc (typed_tokens t v) (codes "," ∷ addr_tokens tokens a) (align_tokens align))) (do
        sign1 refl
        skips {Q = λ b. b ≡ false} (typed_no_volatile t v (codes "," ∷ (addr_tokens tokens a ++ align_tokens align)) d.0) (eaten refl)
        k ← typed_value_eats known t v d.0 d.1 e.0
        sign1 refl
        l ← addr_eats known a b.1 e.1
        m ← alignment_eats align c.1
        tail_ends
        eaten (rw (k.1.0, k.1.1, l.1, m.1) refl))

  pub store_atomic_eats : (t : Ty) (v : Operand) (a : Addr) (o : Order) (align : ℕ) → is_inst scope (inst.StoreAtomic t v a o align) ≡ true → is_inst_in_range (inst.StoreAtomic t v a o align) ≡ true → Eats x.text atomic_store (inst_tokens tokens (inst.StoreAtomic t v a o align)) [] (InstIs (inst.StoreAtomic t v a o align))
  unfolding atomic_store inst_tokens inst_of is_inst is_inst_in_range word_of
  store_atomic_eats t v a o align h r =
      let b = and_parts (is_typed scope t v) (is_addr scope a) h in
      let d = and_parts (is_type t) (is_operand scope v) b.0 in
      let c = and_parts (is_in_range v && is_addr_in_range a) (is_word align) r in
      let e = and_parts (is_in_range v) (is_addr_in_range a) c.0 in
      subst (λ (ts : List (List ℕ)). Eats x.text atomic_store (codes "store" ∷ codes "atomic" ∷ ts) [] (InstIs (inst.StoreAtomic t v a o align))) (sym (append_assoc (typed_tokens t v) (codes "," ∷ addr_tokens tokens a) (order_word o ∷ align_tokens (Some align)))) (do
        sign2 refl refl
        skips {Q = λ b. b ≡ false} (typed_no_volatile t v (codes "," ∷ (addr_tokens tokens a ++ (order_word o ∷ align_tokens (Some align)))) d.0) (eaten refl)
        k ← typed_value_eats known t v d.0 d.1 e.0
        sign1 refl
        l ← addr_eats known a b.1 e.1
        n ← order_eats o
        m ← stated_alignment_eats align c.1
        tail_ends
        eaten (rw (k.1.0, k.1.1, l.1, n.1, m.1) refl))

  pub rmw_eats : (op : RmwOp) (a : Addr) (t : Ty) (v : Operand) (o : Order) (align : ℕ) → is_inst scope (inst.Rmw op a t v o align) ≡ true → is_inst_in_range (inst.Rmw op a t v o align) ≡ true → Eats x.text modification (inst_tokens tokens (inst.Rmw op a t v o align)) [] (InstIs (inst.Rmw op a t v o align))
  unfolding modification inst_tokens inst_of is_inst is_inst_in_range word_of
  rmw_eats op a t v o align h r =
      let b = and_parts (is_addr scope a) (is_typed scope t v) h in
      let d = and_parts (is_type t) (is_operand scope v) b.1 in
      let c = and_parts (is_addr_in_range a && is_in_range v) (is_word align) r in
      let e = and_parts (is_addr_in_range a) (is_in_range v) c.0 in
      subst (λ (ts : List (List ℕ)). Eats x.text modification (codes "atomicrmw" ∷ operation_word op ∷ ts) [] (InstIs (inst.Rmw op a t v o align))) (sym (append_assoc (addr_tokens tokens a) (codes "," ∷ typed_tokens t v) (order_word o ∷ align_tokens (Some align)))) (do
        sign1 refl
        skips {Q = λ b. b ≡ false} (rmw_no_volatile op) (eaten refl)
        j ← one_eats {Q = λ a. a ≡ op} (λ s f. (op, ap rmw_in f.sign ∙ rmw_sign op, refl))
        l ← addr_eats known a b.0 e.0
        sign1 refl
        k ← typed_value_eats known t v d.0 d.1 e.1
        n ← order_eats o
        m ← alignment_eats (Some align) c.1
        tail_ends
        eaten (rw (j.1, k.1.0, k.1.1, l.1, n.1, m.1) refl))

  pub fence_eats : (single : Bool) (o : Order) → Eats x.text fence (inst_tokens tokens (inst.Fence single o)) [] (InstIs (inst.Fence single o))
  unfolding fence inst_tokens scope_tokens inst_of word_of
  fence_eats true o = do
    sign1 refl
    s ← takes {Q = λ b. b ≡ true} (sign4 refl refl refl refl) (eaten refl)
    n ← order_eats o
    tail_ends
    eaten (rw (s.1, n.1) refl)
  fence_eats false o = do
    sign1 refl
    s ← skips {Q = λ b. b ≡ false} (order_no_scope o) (eaten refl)
    n ← order_eats o
    tail_ends
    eaten (rw (s.1, n.1) refl)

  pub extract_eats : (t : Ty) (v : Operand) (part : ℕ) → is_inst scope (inst.Extract t v part) ≡ true → is_inst_in_range (inst.Extract t v part) ≡ true → Eats x.text extraction (inst_tokens tokens (inst.Extract t v part)) [] (InstIs (inst.Extract t v part))
  unfolding extraction inst_tokens pair_tokens inst_of is_inst is_inst_in_range word_of
  extract_eats t v part h r =
      let a = and_parts (is_typed scope t v) (nat_lt part 2) h in
      let b = and_parts (is_type t) (is_operand scope v) a.0 in
      let few = ltb-true part 2 a.1 in
      do
        sign2 refl refl
        k ← subst (λ (ts : List (List ℕ)). Eats x.text typed ts (codes "," ∷ codes "i1" ∷ codes "}" ∷ operand_token v ∷ codes "," ∷ decimal part ∷ []) (λ u. u ≡ t)) (sym (append_assoc (type_tokens t) (codes "," ∷ codes "i1" ∷ codes "}" ∷ []) (operand_token v ∷ codes "," ∷ decimal part ∷ []))) (type_eats t b.0)
        sign3 refl refl refl
        l ← value_eats known v b.1 r
        sign1 refl
        m ← one_eats {Q = λ n. n ≡ part} (λ s f. (part, ap part_in (f.sign ∙ decimal_sign part (omega (arith, few))) ∙ ap (λ c. cond c (Some part) None) a.1, refl))
        eaten (rw (k.1, l.1, m.1) refl)

  last_typed : (t : Ty) (v : Operand) → is_type t ≡ true → is_operand scope v ≡ true → is_in_range v ≡ true → Eats x.text typed_value (typed_tokens t v) [] (TypedIs known t v)
  last_typed t v h g r = subst (λ (ts : List (List ℕ)). Eats x.text typed_value ts [] (TypedIs known t v)) (append-nil (typed_tokens t v)) (typed_value_eats known t v h g r)

  pub selection_eats : (c : Operand) (t : Ty) (v : Operand) (u : Ty) (w : Operand) → is_inst scope (inst.Select c t v u w) ≡ true → is_inst_in_range (inst.Select c t v u w) ≡ true → Eats x.text selection (inst_tokens tokens (inst.Select c t v u w)) [] (InstIs (inst.Select c t v u w))
  unfolding selection inst_tokens inst_of is_inst is_inst_in_range word_of
  selection_eats c t v u w h r =
      let a = and_parts (is_operand scope c && is_typed scope t v) (is_typed scope u w) h in
      let b = and_parts (is_operand scope c) (is_typed scope t v) a.0 in
      let d = and_parts (is_type t) (is_operand scope v) b.1 in
      let e = and_parts (is_type u) (is_operand scope w) a.1 in
      let f = and_parts (is_in_range c && is_in_range v) (is_in_range w) r in
      let g = and_parts (is_in_range c) (is_in_range v) f.0 in
      do
        sign2 refl refl
        k ← value_eats known c b.0 g.0
        sign1 refl
        l ← typed_value_eats known t v d.0 d.1 g.1
        sign1 refl
        m ← last_typed u w e.0 e.1 f.1
        eaten (rw (k.1, l.1.0, l.1.1, m.1.0, m.1.1) refl)

  pub return_eats : (t : Ty) (v : Operand) → is_inst scope (inst.Ret t v) ≡ true → is_inst_in_range (inst.Ret t v) ≡ true → Eats x.text return_value (inst_tokens tokens (inst.Ret t v)) [] (InstIs (inst.Ret t v))
  unfolding return_value inst_tokens inst_of is_inst is_inst_in_range word_of
  return_eats t v h r =
      let a = and_parts (is_type t) (is_operand scope v) h in
      do
        sign1 refl
        k ← last_typed t v a.0 a.1 r
        eaten (rw (k.1.0, k.1.1) refl)

  pub alloca_eats : (t : Ty) (count : ℕ) (align : Option ℕ) → is_inst scope (inst.Alloca t count align) ≡ true → is_inst_in_range (inst.Alloca t count align) ≡ true → Eats x.text alloca (inst_tokens tokens (inst.Alloca t count align)) [] (InstIs (inst.Alloca t count align))
  unfolding alloca inst_tokens inst_of is_inst is_inst_in_range word_of
  alloca_eats t count align h r =
      let a = and_parts (is_word count) (is_stated_word align) r in
      do
        sign1 refl
        k ← elements_eats count t a.0 h
        l ← alignment_eats align a.1
        eaten (rw (k.1.0, k.1.1, l.1) refl)

  pub gep_eats : (elem : Ty) (count : ℕ) (b : Base) (t : Ty) (v : Operand) → is_inst scope (inst.Gep elem count b t v) ≡ true → is_inst_in_range (inst.Gep elem count b t v) ≡ true → Eats x.text getelementptr (inst_tokens tokens (inst.Gep elem count b t v)) [] (InstIs (inst.Gep elem count b t v))
  unfolding getelementptr inst_tokens inst_of is_inst is_inst_in_range word_of
  gep_eats elem count b t v h r =
      let a = and_parts (is_type elem && is_base scope b) (is_typed scope t v) h in
      let c = and_parts (is_type elem) (is_base scope b) a.0 in
      let d = and_parts (is_type t) (is_operand scope v) a.1 in
      let e = and_parts (is_word count) (is_in_range v) r in
      do
        sign1 refl
        passes (gep_quiet known elem count b t v c.0)
        k ← subst (λ (ts : List (List ℕ)). Eats x.text path ts [] (PathIs known elem count b t v)) (append-nil (gep_tokens tokens elem count b t v)) (path_eats known elem count b t v c.0 e.0 c.1 d.0 d.1 e.1)
        eaten (rw (k.1.0, k.1.1, k.1.2, k.1.3, k.1.4) refl)

  pub exchange_eats : (weak : Bool) (a : Addr) (t : Ty) (v : Operand) (u : Ty) (w : Operand) (s f : Order) (align : ℕ) → is_inst scope (inst.Cmpxchg weak a t v u w s f align) ≡ true → is_inst_in_range (inst.Cmpxchg weak a t v u w s f align) ≡ true
      → Eats x.text exchange (inst_tokens tokens (inst.Cmpxchg weak a t v u w s f align)) [] (InstIs (inst.Cmpxchg weak a t v u w s f align))
  unfolding exchange inst_tokens weak_tokens inst_of is_inst is_inst_in_range word_of
  exchange_eats weak a t v u w s f align h r =
      let p = and_parts (is_addr scope a && is_typed scope t v) (is_typed scope u w) h in
      let q = and_parts (is_addr scope a) (is_typed scope t v) p.0 in
      let d = and_parts (is_type t) (is_operand scope v) q.1 in
      let e = and_parts (is_type u) (is_operand scope w) p.1 in
      let r1 = and_parts (is_addr_in_range a && is_in_range v && is_in_range w) (is_word align) r in
      let r2 = and_parts (is_addr_in_range a && is_in_range v) (is_in_range w) r1.0 in
      let r3 = and_parts (is_addr_in_range a) (is_in_range v) r2.0 in
      let A = addr_tokens tokens a in
      let B : List (List ℕ) = codes "," ∷ typed_tokens t v in
      let C : List (List ℕ) = codes "," ∷ typed_tokens u w in
      let D : List (List ℕ) = order_word s ∷ order_word f ∷ align_tokens (Some align) in
      let no_volatile = ap (λ (g : Sign). same_sign g (sign.Word word.Volatile)) (addr_first known a (B ++ (C ++ D))) ∙ ptr_no_volatile in
      let no_weak = ap (λ (g : Sign). same_sign g (sign.Word word.Weak)) (addr_first known a (B ++ (C ++ D))) ∙ ptr_no_weak in
      subst (λ (ts : List (List ℕ)). Eats x.text exchange (codes "cmpxchg" ∷ ts) [] (InstIs (inst.Cmpxchg weak a t v u w s f align)))
      (sym (append_assoc (((weak_tokens weak) ++ A) ++ B) C D ∙ append_assoc ((weak_tokens weak) ++ A) B (C ++ D) ∙ append_assoc (weak_tokens weak) A (B ++ (C ++ D)))) (do
        sign1 refl
        b ← weak_eats weak (A ++ (B ++ (C ++ D))) no_weak
        skips {Q = λ b. b ≡ false} no_volatile (eaten refl)
        l ← addr_eats known a q.0 r3.0
        sign1 refl
        k ← typed_value_eats known t v d.0 d.1 r3.1
        sign1 refl
        j ← typed_value_eats known u w e.0 e.1 r2.1
        m ← order_eats s
        n ← order_eats f
        o ← alignment_eats (Some align) r1.1
        tail_ends
        eaten (rw (b.1, l.1, k.1.0, k.1.1, j.1.0, j.1.1, m.1, n.1, o.1) refl))
