-- What a line grants of what it states, and where it may stand.
use Rattle.std.proofs.Common.{◌≡◌, ℕ, zero, suc, Bool, true, false, cond, ◌&&◌, ◌||◌, not, pos, negsuc, List, [], ◌∷◌, length, map, Option, Some, None, refl, ap, subst, ◌∙◌, inl, inr, ◌==◌, true≢false, arith}
use Rattle.std.specs.Option.{option_map}
use Rattle.std.specs.List.{list_all}
use Rattle.std.proofs.lemmas.List.{length-map}
use Rattle.std.proofs.lemmas.Option.{same_Some}
use Rattle.std.proofs.lemmas.Bool.{and_from, or_right, not_from_false, false≢true, lt-leb, le-leb, ne_eqb}
use Rattle.ax_module.specs.declared.types.Ty.{Ty}
use Rattle.ax_module.specs.declared.types.Ty.TheVariants as ty
use Rattle.ax_module.specs.Types.{whole_number_type}
use Rattle.ax_module.specs.Names.{is_name}
use Rattle.ax_module.specs.WellFormed.{is_type, is_result_type, is_callee_name, is_global_name, is_constant, is_init, is_zero}
use Rattle.ax_module.specs.Ranges.{is_word, is_stated_word}
use Rattle.ax_symbols.specs.declared.symbol.Sign.{Sign}
use Rattle.ax_symbols.specs.declared.symbol.Sign.TheVariants as sign
use Rattle.ax_symbols.specs.declared.vocabulary.Word.TheVariants as word
use Rattle.ax_symbols.specs.declared.symbol.Punctuation.TheVariants as mark
use Rattle.ax_symbols.specs.declared.symbol.NameSpan.{NameSpan}
use Rattle.ax_symbols.specs.declared.symbol.Symbol.{Symbol}
use Rattle.ax_symbols.specs.declared.values.Value.{Value}
use Rattle.ax_symbols.specs.declared.values.Value.TheVariants as value
use Rattle.ax_lines.specs.declared.statement.Argument.{Argument}
use Rattle.ax_lines.specs.declared.statement.Argument.TheVariants as argument
use Rattle.ax_lines.specs.declared.statement.Statement.{Statement}
use Rattle.ax_lines.specs.declared.statement.Statement.TheVariants as statement
use Rattle.ax_lines.specs.declared.statement.Line.{Line}
use Rattle.ax_lines.specs.declared.statement.Line.TheVariants as line
use Rattle.ax_lines.specs.declared.statement.Section.{Section}
use Rattle.ax_lines.specs.declared.statement.Section.TheVariants as section
use Rattle.ax_symbols.specs.Pieces.{sign_at, one_at, simple_type, simple_type_of, closed, is_greater, opens_vector, type_at, global_in, callee_in, value_in}
use Rattle.ax_symbols.specs.Grammar.{Grammar, then, one, typed, option, by, Splits, Derives}
use Rattle.ax_lines.specs.Productions as p
use Rattle.ax_lines.specs.Productions.{count_or, kept, element, initial, global_line, parameter, items_at, items_in, define_line, begins_pointer, pointer_argument, value_argument, call_argument, call_states, may_have, call, states, load_line, store_line, leave_line, return_line, phi_line, valued, unnamed, result_name, named, blank, passed_line, label_line, close_line, outside, is_label, in_block, at_start, named_call, between, behind_block, line_at, is_phi}
use Rattle.ax_scope.specs.Names.{text_at}
use Rattle.ax_scope.specs.Module.{constant_of}
use Rattle.ax_read.proofs.Grants.{Each, each_behind, SoundSign, IsSound, Grants, ◌>>=◌, ◌>>◌, granted, signs_pass, one_is, one_pass, passed_pass, when_holds, option_is, by_is, tail_pass, ends_pass, whole_pass, none_is, list_is, typed_is, type_sound}
use Rattle.ax_read.proofs.Granted.{SoundValue, SoundConst, const_sound, SoundArgument, SoundStatement, states_result, OtherValued, Plain, count_word, const_is, value_is, maybe_pass, alignment_is, result_type_is, elements_is, pointer_behind_is, binary_is, comparison_is, selection_is, conversion_is, phi_is, alloca_is, getelementptr_is, atomic_load_is, plain_load_is, exchange_is, modification_is, extraction_is, atomic_store_is, plain_store_is, fence_is, jump_is, branch_is, return_void_is, return_value_is, unreachable_is}

-- where a line may stand
abbrev pub may : Section → Line → Bool
may section.Outside line.Nothing = true
may section.Outside (line.Global g t c vs a) = true
may section.Outside (line.Define f r ps) = true
may section.Start line.Nothing = true
may section.Start (line.Label n) = true
may section.Start (line.Inst r s) = true
may section.Phis line.Nothing = true
may section.Phis (line.Inst r s) = true
may section.Inside line.Nothing = true
may section.Inside (line.Inst r s) = not (is_phi s)
may section.Ended line.Nothing = true
may section.Ended (line.Label n) = true
may section.Ended line.Close = true
may _ _ = false

abbrev pub ResultFits : Option NameSpan → Statement → Type 0
ResultFits None s = Unit {0}
ResultFits (Some r) s = states_result s ≡ true

fits : (r : Option NameSpan) (s : Statement) → states_result s ≡ true → ResultFits r s
fits None s h = tt
fits (Some r) s h = h

abbrev pub SoundLine : List ℕ → Line → Type 0
SoundLine text (line.Global g t c vs a) = (is_global_name (text_at text g) ≡ true) × (is_type t ≡ true) × (is_word c ≡ true) × (is_stated_word a ≡ true) × Each SoundConst vs × (is_init c (map constant_of vs) ≡ true)
SoundLine text (line.Define f r ps) = (is_name (text_at text f) ≡ true) × (is_result_type r ≡ true) × Each (λ (p : Ty × NameSpan). is_type p.0 ≡ true) ps
SoundLine text (line.Inst r s) = SoundStatement text s × ResultFits r s
SoundLine text _ = Unit {0}

-- ---- types that are not ptr

abbrev is_ptr : Ty → Bool
is_ptr ty.Ptr = true
is_ptr _ = false

width_no_ptr : (n : ℕ) → is_ptr (whole_number_type n) ≡ false
width_no_ptr n = by (n == 1) (n == 8) (n == 16) (n == 32) (n == 64) (n == 128)
  where
    by : (a b c d e f : Bool) → is_ptr (cond a ty.I1 (cond b ty.I8 (cond c ty.I16 (cond d ty.I32 (cond e ty.I64 (cond f ty.I128 (ty.Int n))))))) ≡ false
    by true b c d e f = refl
    by false true c d e f = refl
    by false false true d e f = refl
    by false false false true e f = refl
    by false false false false true f = refl
    by false false false false false true = refl
    by false false false false false false = refl

simple_no_ptr : (s : Sign) (t : Ty) → (s ≡ sign.Word word.Ptr → ⊥) → simple_type s ≡ Some t → is_ptr t ≡ false
simple_no_ptr (sign.Int n) t h e = subst (λ (u : Ty). is_ptr u ≡ false) (same_Some (whole_number_type n) t e) (width_no_ptr n)
simple_no_ptr (sign.Word word.Float) t h e = subst (λ (u : Ty). is_ptr u ≡ false) (same_Some ty.Float t e) refl
simple_no_ptr (sign.Word word.Double) t h e = subst (λ (u : Ty). is_ptr u ≡ false) (same_Some ty.Double t e) refl
simple_no_ptr (sign.Word word.Ptr) t h e = absurd (h refl)
simple_no_ptr _ t h e = absurd cc

abbrev NoPtr : List Symbol → Type 0
NoPtr line = (rest : List Symbol) → Splits (sign.Word word.Ptr ∷ []) line rest → ⊥

first_no_ptr : (s : Symbol) (line : List Symbol) → NoPtr (s ∷ line) → s.sign ≡ sign.Word word.Ptr → ⊥
first_no_ptr s line h e = h line (record { front = s ∷ []; whole = refl; as_signs = ap (λ (x : Sign). x ∷ []) e })

first_of_pair : {A : Type 0} (a b : A) (x y : List Symbol) → ◌≡◌ {A = Option (A × List Symbol)} (Some (a, x)) (Some (b, y)) → a ≡ b
first_of_pair {A} a b x y e = ap (λ (z : A × List Symbol). z.0) (same_Some (a, x) (b, y) e)

one_no_ptr : (line rest : List Symbol) (t : Ty) → NoPtr line → one_at simple_type_of line ≡ Some (t, rest) → is_ptr t ≡ false
one_no_ptr [] rest t h e = absurd cc
one_no_ptr (s ∷ line) rest t h e = by (simple_type s.sign) refl e
  where
    by : (o : Option Ty) → simple_type s.sign ≡ o → option_map {U = Ty × List Symbol} (λ a. (a, line)) o ≡ Some (t, rest) → is_ptr t ≡ false
    by None is e = absurd cc
    by (Some u) is e = simple_no_ptr s.sign t (first_no_ptr s line h) (is ∙ ap (λ (x : Ty). Some x) (first_of_pair u t line rest e))

closed_no_ptr : (o : Option (Ty × List Symbol)) (rest : List Symbol) (t : Ty) → closed o ≡ Some (t, rest) → is_ptr t ≡ false
closed_no_ptr None rest t e = absurd cc
closed_no_ptr (Some (u, [])) rest t e = absurd cc
closed_no_ptr (Some (u, s ∷ r)) rest t e = by (is_greater s.sign) e
  where
    by : (g : Bool) → cond {A = Option (Ty × List Symbol)} g (Some (ty.Vector, r)) None ≡ Some (t, rest) → is_ptr t ≡ false
    by true e = subst (λ (x : Ty). is_ptr x ≡ false) (first_of_pair ty.Vector t r rest e) refl
    by false e = absurd cc

no_ptr : (line rest : List Symbol) (t : Ty) → NoPtr line → type_at line ≡ Some (t, rest) → is_ptr t ≡ false
no_ptr [] rest t h e = one_no_ptr [] rest t h e
no_ptr (a ∷ []) rest t h e = one_no_ptr (a ∷ []) rest t h e
no_ptr (a ∷ b ∷ []) rest t h e = one_no_ptr (a ∷ b ∷ []) rest t h e
no_ptr (a ∷ b ∷ c ∷ line) rest t h e = by (opens_vector a.sign b.sign c.sign) e
  where
    by : (v : Bool) → cond v (closed (type_at line)) (one_at simple_type_of (a ∷ b ∷ c ∷ line)) ≡ Some (t, rest) → is_ptr t ≡ false
    by true e = closed_no_ptr (type_at line) rest t e
    by false e = one_no_ptr (a ∷ b ∷ c ∷ line) rest t h e

argument_sound : (t : Ty) (v : Value) → is_ptr t ≡ false → is_type t ≡ true → SoundValue v → SoundArgument (argument.Value t v)
argument_sound ty.Ptr v e h g = absurd (true≢false e)
argument_sound _ v e h g = (h, g)

value_const : (name : List ℕ) (span : NameSpan) (s : Sign) (v : Value) → begins_pointer s ≡ false → SoundSign name s → value_in span s ≡ Some v → SoundConst v
value_const name span sign.Local v b ok e = absurd (true≢false b)
value_const name span (sign.Number negative n) v b ok e = const_sound name (sign.Number negative n) v ok e
value_const name span (sign.Word w) v b ok e = const_sound name (sign.Word w) v ok e
value_const name span _ v b ok e = absurd cc

-- ---- initial values

abbrev FitsCount : ℕ → List Value → Type 0
FitsCount c [] = Unit {0}
FitsCount c (v ∷ vs) = length (v ∷ vs) == c ≡ true

count_fits : (c : ℕ) (vs : List Value) → length vs == c ≡ true → FitsCount c vs
count_fits c [] h = tt
count_fits c (v ∷ vs) h = h

zero_same : (v : Value) → SoundConst v → is_zero (constant_of v) ≡ p.is_zero v
zero_same (value.Const (pos zero)) h = refl
zero_same (value.Const (pos (suc n))) h = rw (lt-leb (suc (suc n)) 0 (omega arith), le-leb 1 (suc n) (omega arith), ne_eqb (suc n) 0 (λ e. omega (arith, e))) refl
zero_same (value.Const (negsuc n)) h = refl
zero_same (value.Wide n) h = refl
zero_same (value.Local s) h = absurd h

zeros_same : (vs : List Value) → Each SoundConst vs → list_all is_zero (map constant_of vs) ≡ list_all p.is_zero vs
zeros_same [] h = refl
zeros_same (v ∷ vs) h = ap (λ b. b && list_all is_zero (map constant_of vs)) (zero_same v h.0) ∙ ap (λ b. p.is_zero v && b) (zeros_same vs h.1)

constant_is : (v : Value) → SoundConst v → is_constant (constant_of v) ≡ true
constant_is (value.Const n) h = refl
constant_is (value.Wide n) h = h.0
constant_is (value.Local s) h = absurd h

constants_are : (vs : List Value) → Each SoundConst vs → list_all is_constant (map constant_of vs) ≡ true
constants_are [] h = refl
constants_are (v ∷ vs) h = and_from (is_constant (constant_of v)) (list_all is_constant (map constant_of vs)) (constant_is v h.0) (constants_are vs h.1)

kept_init : (c : ℕ) (vs : List Value) → Each SoundConst vs → FitsCount c vs → Each SoundConst (kept vs) × (is_init c (map constant_of (kept vs)) ≡ true)
kept_init c vs h f = by (list_all p.is_zero vs) refl
  where
    some : (ws : List Value) → list_all p.is_zero ws ≡ false → Each SoundConst ws → FitsCount c ws → is_init c (map constant_of ws) ≡ true
    some [] z h f = refl
    some (v ∷ ws) z h f =
        let counted : length (map constant_of (v ∷ ws)) == c ≡ true = ap (λ n. n == c) (length-map (v ∷ ws) constant_of) ∙ f in
        let all = constants_are (v ∷ ws) h in
        let zeros = zeros_same (v ∷ ws) h ∙ z in
        and_from _ _ (and_from _ _ counted all) (not_from_false _ zeros)

    by : (b : Bool) → list_all p.is_zero vs ≡ b → Each SoundConst (cond b [] vs) × (is_init c (map constant_of (cond b [] vs)) ≡ true)
    by true z = (tt, refl)
    by false z = (h, some vs z h f)

-- ---- names

global_named : (text : List ℕ) (name g : NameSpan) (s : Sign) → SoundSign (text_at text name) s → global_in name s ≡ Some g → is_name (text_at text g) ≡ true
global_named text name g sign.Global ok e = subst (λ (x : NameSpan). is_name (text_at text x) ≡ true) (same_Some name g e) ok.0
global_named text name g sign.Intrinsic ok e = subst (λ (x : NameSpan). is_name (text_at text x) ≡ true) (same_Some name g e) ok.0
global_named text name g sign.Lifetime ok e = subst (λ (x : NameSpan). is_name (text_at text x) ≡ true) (same_Some name g e) ok
global_named text name g _ ok e = absurd cc

global_is_named : (text : List ℕ) (name g : NameSpan) (s : Sign) → s ≡ sign.Global → SoundSign (text_at text name) s → global_in name s ≡ Some g → is_global_name (text_at text g) ≡ true
global_is_named text name g s is ok e =
    let o = subst (SoundSign (text_at text name)) is ok in
    let f = subst (λ (x : Sign). global_in name x ≡ Some g) is e in
    subst (λ (x : NameSpan). is_global_name (text_at text x) ≡ true) (same_Some name g f) (and_from _ _ o.0 (not_from_false _ o.1))

abbrev CalleeFits : List ℕ → NameSpan × Bool → Type 0
CalleeFits text f = f.1 ≡ false → is_callee_name (text_at text f.0) ≡ true

callee_named : (text : List ℕ) (name : NameSpan) (f : NameSpan × Bool) (s : Sign) → SoundSign (text_at text name) s → callee_in name s ≡ Some f → CalleeFits text f
callee_named text name f sign.Global ok e = subst (CalleeFits text) (same_Some (name, false) f e) (λ _. and_from _ _ ok.0 (not_from_false _ ok.2))
callee_named text name f sign.Intrinsic ok e = subst (CalleeFits text) (same_Some (name, false) f e) (λ _. and_from _ _ ok.0 (not_from_false _ ok.1))
callee_named text name f sign.Lifetime ok e = subst (CalleeFits text) (same_Some (name, true) f e) (λ h. absurd (true≢false h))
callee_named text name f _ ok e = absurd cc

-- ---- lines

abbrev in_block_may : Bool → Line → Bool
in_block_may phis line.Nothing = true
in_block_may phis (line.Inst r s) = phis || not (is_phi s)
in_block_may phis _ = false

-- a line that is passed over, or a call
abbrev calls : Bool → Line → Bool
calls only line.Nothing = true
calls only (line.Inst r s) = not only && not (is_phi s)
calls only _ = false

abbrev pub GoodLine : List ℕ → Section → Line → Type 0
GoodLine text p x = SoundLine text x × (may p x ≡ true)

abbrev InBlock : List ℕ → Bool → Line → Type 0
InBlock text phis x = SoundLine text x × (in_block_may phis x ≡ true)

abbrev IsCall : List ℕ → Bool → Line → Type 0
IsCall text only x = SoundLine text x × (calls only x ≡ true)

-- what it grants of lines of a kind
record GrantsIf (text : List ℕ) (C : List Symbol → Type 0) {V : Type 0} (g : Grammar V) (Q : V → Type 0) : Type 0 where
  pub holds : (line rest : List Symbol) (v : V) → C line → Each (IsSound text) line → Derives g line v rest → Q v × Each (IsSound text) rest

module _ (text : List ℕ) where
  call_fits : (only : Bool) (r : Option NameSpan) (t : Option Ty) (f : NameSpan) (arguments : List Argument) → is_result_type t ≡ true → is_callee_name (text_at text f) ≡ true → Each SoundArgument arguments → may_have r t && (not only || false) ≡ true
      → IsCall text only (line.Inst r (statement.Call t f arguments))
  unfolding is_phi
  call_fits true None t f arguments h n a w = absurd cc
  call_fits true (Some r) None f arguments h n a w = absurd cc
  call_fits true (Some r) (Some t) f arguments h n a w = absurd cc
  call_fits false None t f arguments h n a w = (((h, n, a), tt), refl)
  call_fits false (Some r) None f arguments h n a w = absurd cc
  call_fits false (Some r) (Some t) f arguments h n a w = (((h, n, a), refl), refl)

  call_good : (only : Bool) (r : Option NameSpan) (t : Option Ty) (f : NameSpan × Bool) (arguments : List Argument) → is_result_type t ≡ true → CalleeFits text f → Each SoundArgument arguments → may_have r t && (not only || f.1) ≡ true
      → IsCall text only (call_states r t f arguments)
  call_good only r t f arguments h n a w = by f.1 refl
    where
      by : (b : Bool) → f.1 ≡ b → IsCall text only (cond b line.Nothing (line.Inst r (statement.Call t f.0 arguments)))
      by true is = (tt, refl)
      by false is = call_fits only r t f.0 arguments h (n is) a (subst (λ (b : Bool). may_have r t && (not only || b) ≡ true) is w)

  call_in : (phis : Bool) (x : Line) → IsCall text false x → InBlock text phis x
  call_in phis line.Nothing h = (tt, refl)
  call_in phis (line.Inst r s) h = (h.0, or_right phis (not (is_phi s)) h.1)
  call_in phis _ h = absurd (false≢true h.1)

  at_start_may : (x : Line) → InBlock text true x → GoodLine text section.Start x
  at_start_may line.Nothing h = (tt, refl)
  at_start_may (line.Inst r s) h = (h.0, refl)
  at_start_may _ h = absurd (false≢true h.1)

  at_phis_may : (x : Line) → InBlock text true x → GoodLine text section.Phis x
  at_phis_may line.Nothing h = (tt, refl)
  at_phis_may (line.Inst r s) h = (h.0, refl)
  at_phis_may _ h = absurd (false≢true h.1)

  inside_may : (x : Line) → InBlock text false x → GoodLine text section.Inside x
  inside_may line.Nothing h = (tt, refl)
  inside_may (line.Inst r s) h = (h.0, h.1)
  inside_may _ h = absurd (false≢true h.1)

  ended_may : (x : Line) → IsCall text true x → GoodLine text section.Ended x
  ended_may line.Nothing h = (tt, refl)
  ended_may _ h = absurd (false≢true h.1)

module _ {text : List ℕ} where
  weaker : {V : Type 0} {g : Grammar V} {Q R : V → Type 0} → Grants text g Q → ((v : V) → Q v → R v) → Grants text g R
  weaker a f = record { holds = λ line rest v ok d. let x = a.holds line rest v ok d in (f v x.0, x.1) }

  cond_is : {V : Type 0} (b : Bool) {g h : Grammar V} {Q : V → Type 0} → Grants text g Q → Grants text h Q → Grants text (cond b g h) Q
  cond_is true a b = a
  cond_is false a b = b

  -- ---- pieces of lines that begin so

  anyway : {C : List Symbol → Type 0} {V : Type 0} {g : Grammar V} {Q : V → Type 0} → Grants text g Q → GrantsIf text C g Q
  anyway a = record { holds = λ line rest v c ok d. a.holds line rest v ok d }

  by_line : {V : Type 0} {g : Sign → Sign → Grammar V} {Q : V → Type 0} → ((a b : Sign) → GrantsIf text (λ line. sign_at line 0 ≡ a) (g a b) Q) → Grants text (by g) Q
  by_line f = record { holds = λ line rest v ok d. (f (sign_at line 0) (sign_at line 1)).holds line rest v refl ok d }

  cond_if : {C : List Symbol → Type 0} {V : Type 0} {g h : Grammar V} {Q : V → Type 0} (t : Bool) → Grants text g Q → (t ≡ false → GrantsIf text C h Q) → GrantsIf text C (cond t g h) Q
  cond_if true a f = anyway a
  cond_if false a f = f refl

  begins : {A V : Type 0} {of : Symbol → Option A} {k : A → Grammar V} {Q : A → Type 0} {R : V → Type 0} (a : Sign)
      → ((s : Symbol) (x : A) → s.sign ≡ a → IsSound text s → of s ≡ Some x → Q x) → ((x : (y : A) × Q y) → Grants text (k x.0) R) → GrantsIf text (λ line. sign_at line 0 ≡ a) (then (one of) k) R
  begins a f more = record {
    holds = λ line rest v c ok d.
        let s = (d.2).0 in
        let l = subst (Each (IsSound text)) (d.2).1 ok in
        let b = subst (λ (x : List Symbol). sign_at x 0 ≡ a) (d.2).1 c in
        (more (d.0, f s d.0 b l.0 (d.2).2)).holds d.1 rest v l.1 d.3;
  }

  option_of : {V : Type 0} (ss : List Sign) (g h : Grammar V) (Q : V → Type 0) → Grants text g Q → GrantsIf text (λ line. (behind : List Symbol) → Splits ss line behind → ⊥) h Q → (line rest : List Symbol) (v : V) → Each (IsSound text) line → Derives (option ss g h) line v rest → Q v × Each (IsSound text) rest
  option_of ss g h Q a b line rest v ok (inl d) = a.holds d.0 rest v (each_behind (IsSound text) (d.1).front d.0 (subst (Each (IsSound text)) (d.1).whole ok)) d.2
  option_of ss g h Q a b line rest v ok (inr d) = b.holds line rest v d.0 ok d.1

  option_else : {V : Type 0} {ss : List Sign} {g h : Grammar V} {Q : V → Type 0} → Grants text g Q → GrantsIf text (λ line. (behind : List Symbol) → Splits ss line behind → ⊥) h Q → Grants text (option ss g h) Q
  option_else {ss = ss} {g = g} {h = h} {Q = Q} a b = record { holds = option_of ss g h Q a b }

  typed_then : {V : Type 0} {k : Ty → Grammar V} {R : V → Type 0} → ((x : (t : Ty) × (is_type t ≡ true) × (is_ptr t ≡ false)) → Grants text (k x.0) R) → GrantsIf text NoPtr (then typed k) R
  typed_then f = record {
    holds = λ line rest v c ok d.
        let x = type_sound text line d.1 d.0 ok d.2 in
        (f (d.0, x.0, no_ptr line d.1 d.0 c d.2)).holds d.1 rest v x.1 d.3;
  }

  -- ---- arguments

  pointer_argument_is : Grants text pointer_argument SoundArgument
  unfolding pointer_argument
  pointer_argument_is = by_line (λ a b. cond_if (begins_pointer a) (do
    x ← pointer_behind_is
    granted x.1) (λ n. begins {Q = SoundConst} a (λ s v is ok e. value_const (text_at text s.name) s.name s.sign v (ap begins_pointer is ∙ n) ok e) (λ v. granted v.1)))

  value_argument_is : GrantsIf text NoPtr value_argument SoundArgument
  unfolding value_argument
  value_argument_is = typed_then (λ t. do
    passed_pass
    v ← value_is
    granted (argument_sound t.0 v.0 t.2 t.1 v.1))

  call_argument_is : Grants text call_argument SoundArgument
  unfolding call_argument
  call_argument_is = option_else (do
    passed_pass
    pointer_argument_is) value_argument_is

  items_at_is : {A : Type 0} {item : Grammar A} {Q : A → Type 0} → Grants text item Q → (a : Sign) → Grants text (items_at item a) (Each Q)
  items_at_is g (sign.Mark mark.Close) = granted tt
  items_at_is g _ = weaker (list_is g) (λ vs h. h.0)

  items_is : {A : Type 0} {item : Grammar A} {Q : A → Type 0} → Grants text item Q → Grants text (items_in item) (Each Q)
  items_is g = by_is (λ a b. items_at_is g a)

  -- ---- outside functions

  element_is : (t : Ty) → Grants text (element t) SoundConst
  unfolding element
  element_is t = do
    u ← typed_is
    when_holds
    const_is

  initial_is : (t : Ty) (o : Option ℕ) → Grants text (initial t o) (λ vs. Each SoundConst vs × FitsCount (count_or 1 o) vs)
  unfolding initial
  initial_is t None = option_is (granted (tt, tt)) (do
    v ← const_is
    granted ((v.1, tt), refl))
  initial_is t (Some c) = option_is (granted (tt, tt)) (do
    signs_pass
    vs ← list_is (element_is t)
    signs_pass
    h ← when_holds
    granted (vs.1.0, count_fits c vs.0 h.1))

  global_line_is : GrantsIf text (λ line. sign_at line 0 ≡ sign.Global) global_line (GoodLine text section.Outside)
  unfolding global_line
  global_line_is = begins {Q = λ (g : NameSpan). is_global_name (text_at text g) ≡ true} sign.Global (λ s g is ok e. global_is_named text s.name g s.sign is ok e) (λ g. do
    signs_pass
    passed_pass
    signs_pass
    e ← elements_is
    vs ← initial_is e.0.0 e.0.1
    a ← alignment_is
    granted ((g.1, e.1.0, count_word 1 e.0.1 refl e.1.1, a.1, (kept_init (count_or 1 e.0.1) vs.0 vs.1.0 vs.1.1).0, (kept_init (count_or 1 e.0.1) vs.0 vs.1.0 vs.1.1).1), refl))

  parameter_is : Grants text parameter (λ p. is_type p.0 ≡ true)
  unfolding parameter
  parameter_is = do
    t ← typed_is
    passed_pass
    q ← one_pass
    granted t.1

  define_line_is : Grants text define_line (GoodLine text section.Outside)
  unfolding define_line
  define_line_is = do
    signs_pass
    passed_pass
    r ← result_type_is
    f ← one_is {Q = λ (f : NameSpan). is_name (text_at text f) ≡ true} (λ s f ok e. global_named text s.name f s.sign ok e)
    signs_pass
    ps ← items_is parameter_is
    signs_pass
    passed_pass
    signs_pass
    granted ((f.1, r.1, ps.1), refl)

  nothing_is : (at : Section) → Grants text blank (GoodLine text at)
  unfolding blank
  nothing_is section.Outside = do
    ends_pass
    granted (tt, refl)
  nothing_is _ = do
    ends_pass
    granted (tt, refl)

  passed_line_is : Grants text passed_line (GoodLine text section.Outside)
  unfolding passed_line
  passed_line_is = do
    whole_pass
    granted (tt, refl)

  outside_is : (a b : Sign) → GrantsIf text (λ line. sign_at line 0 ≡ a) (outside a b) (GoodLine text section.Outside)
  unfolding outside
  outside_is sign.Feed b = anyway (nothing_is section.Outside)
  outside_is (sign.Word word.SourceFilename) b = anyway passed_line_is
  outside_is (sign.Word word.Target) b = anyway passed_line_is
  outside_is (sign.Word word.Declare) b = anyway passed_line_is
  outside_is (sign.Word word.Attributes) b = anyway passed_line_is
  outside_is sign.Meta b = anyway passed_line_is
  outside_is (sign.Mark mark.Bang) b = anyway passed_line_is
  outside_is sign.Intrinsic b = anyway passed_line_is
  outside_is sign.Lifetime b = anyway passed_line_is
  outside_is sign.Global b = global_line_is
  outside_is (sign.Word word.Define) b = anyway define_line_is
  outside_is _ b = anyway none_is

  -- ---- in functions

  states_is : {g : Grammar Statement} (phis : Bool) (r : Option NameSpan) → Grants text g (OtherValued text) → Grants text (states r g) (InBlock text phis)
  states_is phis r g = do
    s ← g
    granted ((s.1.0, fits r s.0 s.1.1), or_right phis (not (is_phi s.0)) (not_from_false _ s.1.2))

  plain_is : {g : Grammar Statement} (phis : Bool) → Grants text g (Plain text) → Grants text (states None g) (InBlock text phis)
  plain_is phis g = do
    s ← g
    granted ((s.1.0, tt), or_right phis (not (is_phi s.0)) (not_from_false _ s.1.1))

  phis_are : (phis : Bool) (r : Option NameSpan) → Grants text (states r (phi_line phis)) (InBlock text phis)
  phis_are true r = do
    s ← phi_is
    granted ((s.1.0, fits r s.0 s.1.1), refl)
  phis_are false r = do
    s ← none_is {Q = λ _. ⊥}
    absurd s.1

  load_is : (b : Sign) → Grants text (load_line b) (OtherValued text)
  load_is (sign.Word word.Atomic) = atomic_load_is
  load_is _ = plain_load_is

  store_is : (b : Sign) → Grants text (store_line b) (Plain text)
  store_is (sign.Word word.Atomic) = atomic_store_is
  store_is _ = plain_store_is

  leave_is : (b : Sign) → Grants text (leave_line b) (Plain text)
  leave_is (sign.Word word.Label) = jump_is
  leave_is _ = branch_is

  return_is : (b : Sign) → Grants text (return_line b) (Plain text)
  return_is (sign.Word word.Void) = return_void_is
  return_is _ = return_value_is

  call_is : (only : Bool) (r : Option NameSpan) → Grants text (call only r) (IsCall text only)
  unfolding call
  call_is only r = do
    maybe_pass
    signs_pass
    passed_pass
    t ← result_type_is
    f ← one_is {Q = CalleeFits text} (λ s f ok e. callee_named text s.name f s.sign ok e)
    signs_pass
    arguments ← items_is call_argument_is
    signs_pass
    passed_pass
    tail_pass
    h ← when_holds
    granted (call_good text only r t.0 f.0 arguments.0 t.1 f.1 arguments.1 h.1)

  call_line_is : (phis : Bool) (r : Option NameSpan) → Grants text (call false r) (InBlock text phis)
  call_line_is phis r = weaker (call_is false r) (call_in text phis)

  valued_is : (phis : Bool) (r : Option NameSpan) (a b : Sign) → Grants text (valued phis r a b) (InBlock text phis)
  unfolding valued
  valued_is phis r (sign.Word word.Add) b = states_is phis r binary_is
  valued_is phis r (sign.Word word.Sub) b = states_is phis r binary_is
  valued_is phis r (sign.Word word.Mul) b = states_is phis r binary_is
  valued_is phis r (sign.Word word.And) b = states_is phis r binary_is
  valued_is phis r (sign.Word word.Or) b = states_is phis r binary_is
  valued_is phis r (sign.Word word.Xor) b = states_is phis r binary_is
  valued_is phis r (sign.Word word.Shl) b = states_is phis r binary_is
  valued_is phis r (sign.Word word.Lshr) b = states_is phis r binary_is
  valued_is phis r (sign.Word word.Ashr) b = states_is phis r binary_is
  valued_is phis r (sign.Word word.Icmp) b = states_is phis r comparison_is
  valued_is phis r (sign.Word word.Select) b = states_is phis r selection_is
  valued_is phis r (sign.Word word.Zext) b = states_is phis r conversion_is
  valued_is phis r (sign.Word word.Sext) b = states_is phis r conversion_is
  valued_is phis r (sign.Word word.Trunc) b = states_is phis r conversion_is
  valued_is phis r (sign.Word word.Phi) b = phis_are phis r
  valued_is phis r (sign.Word word.Alloca) b = states_is phis r alloca_is
  valued_is phis r (sign.Word word.Getelementptr) b = states_is phis r getelementptr_is
  valued_is phis r (sign.Word word.Load) b = states_is phis r (load_is b)
  valued_is phis r (sign.Word word.Cmpxchg) b = states_is phis r exchange_is
  valued_is phis r (sign.Word word.Atomicrmw) b = states_is phis r modification_is
  valued_is phis r (sign.Word word.Extractvalue) b = states_is phis r extraction_is
  valued_is phis r (sign.Word word.Call) b = call_line_is phis r
  valued_is phis r (sign.Word word.Tail) b = call_line_is phis r
  valued_is phis r _ b = none_is

  unnamed_is : (phis : Bool) (a b : Sign) → Grants text (unnamed phis a b) (InBlock text phis)
  unfolding unnamed
  unnamed_is phis (sign.Word word.Store) b = plain_is phis (store_is b)
  unnamed_is phis (sign.Word word.Fence) b = plain_is phis fence_is
  unnamed_is phis (sign.Word word.Br) b = plain_is phis (leave_is b)
  unnamed_is phis (sign.Word word.Ret) b = plain_is phis (return_is b)
  unnamed_is phis (sign.Word word.Unreachable) b = plain_is phis unreachable_is
  unnamed_is phis a b = valued_is phis None a b

  result_is : Grants text result_name (λ _. Unit {0})
  result_is = do
    r ← one_pass
    signs_pass
    granted tt

  named_is : (phis : Bool) → Grants text (named phis) (InBlock text phis)
  unfolding named
  named_is phis = do
    r ← result_is
    by_is (λ a b. valued_is phis (Some r.0) a b)

  blank_in : (phis : Bool) → Grants text blank (InBlock text phis)
  unfolding blank
  blank_in phis = do
    ends_pass
    granted (tt, refl)

  in_block_is : (phis : Bool) (a b : Sign) → Grants text (in_block phis a b) (InBlock text phis)
  unfolding in_block
  in_block_is phis sign.Feed b = blank_in phis
  in_block_is phis sign.Local b = named_is phis
  in_block_is phis a b = unnamed_is phis a b

  label_at : (at : Section) → ((n : NameSpan) → may at (line.Label n) ≡ true) → Grants text label_line (GoodLine text at)
  unfolding label_line
  label_at at f = do
    b ← one_pass
    signs_pass
    granted (tt, f b.0)

  close_is : Grants text close_line (GoodLine text section.Ended)
  unfolding close_line
  close_is = do
    signs_pass
    granted (tt, refl)

  named_call_is : Grants text named_call (GoodLine text section.Ended)
  unfolding named_call
  named_call_is = do
    r ← result_is
    weaker (call_is true (Some r.0)) (ended_may text)

  between_is : (a : Sign) → Grants text (between a) (GoodLine text section.Ended)
  unfolding between
  between_is sign.Feed = nothing_is section.Ended
  between_is (sign.Mark mark.CloseBrace) = close_is
  between_is (sign.Word word.Call) = weaker (call_is true None) (ended_may text)
  between_is (sign.Word word.Tail) = weaker (call_is true None) (ended_may text)
  between_is sign.Local = named_call_is
  between_is _ = none_is

  pub line_is : (at : Section) → Grants text (line_at at) (GoodLine text at)
  unfolding line_at
  line_is section.Outside = by_line outside_is
  line_is section.Start = by_is (λ a b. cond_is (is_label a b) (label_at section.Start (λ n. refl)) (weaker (in_block_is true a b) (at_start_may text)))
  line_is section.Phis = by_is (λ a b. weaker (in_block_is true a b) (at_phis_may text))
  line_is section.Inside = by_is (λ a b. weaker (in_block_is false a b) (inside_may text))
  line_is section.Ended = by_is (λ a b. cond_is (is_label a b) (label_at section.Ended (λ n. refl)) (between_is a))
