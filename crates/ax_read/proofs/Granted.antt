-- What the line of an instruction grants of what it states.
use Rattle.std.proofs.Common.{◌≡◌, ℕ, zero, suc, ◌-◌, ◌^◌, ◌≤◌, arith, Bool, true, false, cond, pos, List, Option, Some, None, refl, subst, nat_lt, nat_le}
use Rattle.std.proofs.lemmas.Option.{same_Some}
use Rattle.std.proofs.lemmas.Bool.{ltb-false, leb-true, le-leb, and_from}
use Rattle.ax_module.specs.declared.types.Ty.{Ty}
use Rattle.ax_module.specs.declared.types.Ty.TheVariants as ty
use Rattle.ax_module.specs.declared.operand.Operand.TheVariants as operand
use Rattle.ax_module.specs.WellFormed.{is_type, is_result_type, is_nonempty, is_callee_name}
use Rattle.ax_module.specs.Ranges.{is_word, is_stated_word, is_in_range}
use Rattle.ax_symbols.specs.declared.symbol.Sign.{Sign}
use Rattle.ax_symbols.specs.declared.symbol.Sign.TheVariants as sign
use Rattle.ax_symbols.specs.declared.vocabulary.Word.TheVariants as word
use Rattle.ax_symbols.specs.declared.symbol.NameSpan.{NameSpan}
use Rattle.ax_symbols.specs.declared.values.Value.{Value}
use Rattle.ax_symbols.specs.declared.values.Value.TheVariants as value
use Rattle.ax_lines.specs.declared.statement.Path.{Path}
use Rattle.ax_lines.specs.declared.statement.Pointer.{Pointer}
use Rattle.ax_lines.specs.declared.statement.Pointer.TheVariants as pointer
use Rattle.ax_lines.specs.declared.statement.Argument.{Argument}
use Rattle.ax_lines.specs.declared.statement.Argument.TheVariants as argument
use Rattle.ax_lines.specs.declared.statement.Statement.{Statement}
use Rattle.ax_lines.specs.declared.statement.Statement.TheVariants as statement
use Rattle.ax_symbols.specs.Pieces.{count_of, count_in, const_of, const_in, number_value, minus, value_of, value_in, part_in}
use Rattle.ax_symbols.specs.Grammar.{one}
use Rattle.ax_lines.specs.Productions.{maybe, alignment, stated_alignment, typed_value, result_type, elements, count_or, first_index, path, pointer_behind, pointer_operand, binary, comparison, selection, conversion, incoming, phi, alloca, getelementptr, atomic_load, plain_load, exchange, modification, extraction, atomic_store, plain_store, fence, jump, branch, return_void, return_value, unreachable_line, is_phi}
use Rattle.ax_scope.specs.Names.{text_at}
use Rattle.ax_read.proofs.Grants.{Each, SoundSign, Grants, ◌>>=◌, ◌>>◌, granted, signs_pass, one_is, one_pass, passed_pass, option_is, tail_pass, list_is, typed_is}

-- ---- numbers

abbrev pub SoundValue : Value → Type 0
SoundValue (value.Const n) = is_in_range (operand.Const n) ≡ true
SoundValue (value.Wide n) = (nat_le (2 ^ 127) n ≡ true) × (nat_lt n (2 ^ 128) ≡ true)
SoundValue (value.Local s) = Unit {0}

abbrev pub SoundConst : Value → Type 0
SoundConst (value.Const n) = is_in_range (operand.Const n) ≡ true
SoundConst (value.Wide n) = (nat_le (2 ^ 127) n ≡ true) × (nat_lt n (2 ^ 128) ≡ true)
SoundConst (value.Local s) = ⊥

pub const_value : (v : Value) → SoundConst v → SoundValue v
const_value (value.Const n) h = h
const_value (value.Wide n) h = h
const_value (value.Local s) h = absurd h

number_sound : (negative : Bool) (n : ℕ) (v : Value) → nat_lt n (2 ^ 128) ≡ true → number_value negative n ≡ Some v → SoundConst v
number_sound false n v ok e = subst SoundConst (same_Some _ v e) (by (nat_lt n (2 ^ 127)) refl)
  where
    by : (t : Bool) → nat_lt n (2 ^ 127) ≡ t → SoundConst (cond t (value.Const (pos n)) (value.Wide n))
    by true h = h
    by false h = (le-leb (2 ^ 127) n (ltb-false n (2 ^ 127) h), ok)
number_sound true n v ok e = by (nat_le n (2 ^ 127)) refl e
  where
    low : (k : ℕ) → k ≤ 2 ^ 127 → SoundConst (value.Const (minus k))
    low zero h = refl
    low (suc k) h = and_from (nat_le k (2 ^ 127 - 1)) true (le-leb k (2 ^ 127 - 1) (omega arith)) refl

    by : (t : Bool) → nat_le n (2 ^ 127) ≡ t → cond t (Some (value.Const (minus n))) None ≡ Some v → SoundConst v
    by true h e = subst SoundConst (same_Some (value.Const (minus n)) v e) (low n (leb-true n (2 ^ 127) h))
    by false h e = absurd cc

pub const_sound : (name : List ℕ) (s : Sign) (v : Value) → SoundSign name s → const_in s ≡ Some v → SoundConst v
const_sound name (sign.Number negative n) v ok e = number_sound negative n v ok e
const_sound name (sign.Word word.True) v ok e = subst SoundConst (same_Some (value.Const (pos 1)) v e) refl
const_sound name (sign.Word word.False) v ok e = subst SoundConst (same_Some (value.Const (pos 0)) v e) refl
const_sound name _ v ok e = absurd cc

value_sound : (name : List ℕ) (span : NameSpan) (s : Sign) (v : Value) → SoundSign name s → value_in span s ≡ Some v → SoundValue v
value_sound name span sign.Local v ok e = subst SoundValue (same_Some (value.Local span) v e) tt
value_sound name span (sign.Number negative n) v ok e = const_value v (const_sound name (sign.Number negative n) v ok e)
value_sound name span (sign.Word w) v ok e = const_value v (const_sound name (sign.Word w) v ok e)
value_sound name span _ v ok e = absurd cc

count_sound : (s : Sign) (n : ℕ) → count_in s ≡ Some n → is_word n ≡ true
count_sound (sign.Number false k) n e = by (nat_lt k (2 ^ 64)) refl e
  where
    by : (t : Bool) → nat_lt k (2 ^ 64) ≡ t → cond t (Some k) None ≡ Some n → is_word n ≡ true
    by true h e = subst (λ (x : ℕ). is_word x ≡ true) (same_Some k n e) h
    by false h e = absurd cc
count_sound _ n e = absurd cc

part_sound : (s : Sign) (n : ℕ) → part_in s ≡ Some n → nat_lt n 2 ≡ true
part_sound (sign.Number false k) n e = by (nat_lt k 2) refl e
  where
    by : (t : Bool) → nat_lt k 2 ≡ t → cond t (Some k) None ≡ Some n → nat_lt n 2 ≡ true
    by true h e = subst (λ (x : ℕ). nat_lt x 2 ≡ true) (same_Some k n e) h
    by false h e = absurd cc
part_sound _ n e = absurd cc

pub count_word : (n : ℕ) (o : Option ℕ) → is_word n ≡ true → is_stated_word o ≡ true → is_word (count_or n o) ≡ true
count_word n None h g = h
count_word n (Some c) h g = g

-- ---- pieces

abbrev pub SoundPair : Ty × Value → Type 0
SoundPair p = (is_type p.0 ≡ true) × SoundValue p.1

abbrev pub SoundPath : Path → Type 0
SoundPath p = (is_type p.elem ≡ true) × (is_word p.count ≡ true) × (is_type p.index_type ≡ true) × SoundValue p.index

abbrev pub SoundPointer : Pointer → Type 0
SoundPointer (pointer.Base b) = Unit {0}
SoundPointer (pointer.Element p) = SoundPath p

abbrev pub SoundArgument : Argument → Type 0
SoundArgument (argument.Pointer p) = SoundPointer p
SoundArgument (argument.Value ty.Ptr v) = SoundConst v
SoundArgument (argument.Value t v) = (is_type t ≡ true) × SoundValue v

abbrev pub SoundStatement : List ℕ → Statement → Type 0
SoundStatement text (statement.Bin op t v u) = (is_type t ≡ true) × SoundValue v × SoundValue u
SoundStatement text (statement.Icmp pred t v u) = (is_type t ≡ true) × SoundValue v × SoundValue u
SoundStatement text (statement.Select v t u s w) = SoundValue v × (is_type t ≡ true) × SoundValue u × (is_type s ≡ true) × SoundValue w
SoundStatement text (statement.Convert cast from v to) = (is_type from ≡ true) × SoundValue v × (is_type to ≡ true)
SoundStatement text (statement.Phi t ps) = (is_type t ≡ true) × Each (λ (p : Value × NameSpan). SoundValue p.0) ps × (is_nonempty ps ≡ true)
SoundStatement text (statement.Jump s) = Unit {0}
SoundStatement text (statement.Branch v s r) = SoundValue v
SoundStatement text statement.RetVoid = Unit {0}
SoundStatement text (statement.Ret t v) = (is_type t ≡ true) × SoundValue v
SoundStatement text statement.Unreachable = Unit {0}
SoundStatement text (statement.Alloca t n align) = (is_type t ≡ true) × (is_word n ≡ true) × (is_stated_word align ≡ true)
SoundStatement text (statement.Gep p) = SoundPath p
SoundStatement text (statement.Load t p align) = (is_type t ≡ true) × SoundPointer p × (is_stated_word align ≡ true)
SoundStatement text (statement.LoadAtomic t p order align) = (is_type t ≡ true) × SoundPointer p × (is_word align ≡ true)
SoundStatement text (statement.Store t v p align) = (is_type t ≡ true) × SoundValue v × SoundPointer p × (is_stated_word align ≡ true)
SoundStatement text (statement.StoreAtomic t v p order align) = (is_type t ≡ true) × SoundValue v × SoundPointer p × (is_word align ≡ true)
SoundStatement text (statement.Cmpxchg weak p expected new orders align) = SoundPointer p × SoundPair expected × SoundPair new × (is_stated_word align ≡ true)
SoundStatement text (statement.Rmw op p t v order align) = SoundPointer p × (is_type t ≡ true) × SoundValue v × (is_stated_word align ≡ true)
SoundStatement text (statement.Fence single order) = Unit {0}
SoundStatement text (statement.Extract t v part) = (is_type t ≡ true) × SoundValue v × (nat_lt part 2 ≡ true)
SoundStatement text (statement.Call t s arguments) = (is_result_type t ≡ true) × (is_callee_name (text_at text s) ≡ true) × Each SoundArgument arguments

-- an instruction that has a result
abbrev pub states_result : Statement → Bool
states_result (statement.Jump s) = false
states_result (statement.Branch v s r) = false
states_result statement.RetVoid = false
states_result (statement.Ret t v) = false
states_result statement.Unreachable = false
states_result (statement.Store t v p align) = false
states_result (statement.StoreAtomic t v p order align) = false
states_result (statement.Fence single order) = false
states_result (statement.Call None s arguments) = false
states_result _ = true

abbrev pub Valued : List ℕ → Statement → Type 0
Valued text s = SoundStatement text s × (states_result s ≡ true)

abbrev pub OtherValued : List ℕ → Statement → Type 0
OtherValued text s = SoundStatement text s × (states_result s ≡ true) × (is_phi s ≡ false)

abbrev pub Plain : List ℕ → Statement → Type 0
Plain text s = SoundStatement text s × (is_phi s ≡ false)

module _ {text : List ℕ} where
  pub count_is : Grants text (one count_of) (λ n. is_word n ≡ true)
  count_is = one_is (λ s n ok e. count_sound s.sign n e)

  pub value_is : Grants text (one value_of) SoundValue
  value_is = one_is (λ s v ok e. value_sound (text_at text s.name) s.name s.sign v ok e)

  pub const_is : Grants text (one const_of) SoundConst
  const_is = one_is (λ s v ok e. const_sound (text_at text s.name) s.sign v ok e)

  pub maybe_pass : {ss : List Sign} → Grants text (maybe ss) (λ _. Unit {0})
  maybe_pass = option_is (granted tt) (granted tt)

  pub alignment_is : Grants text alignment (λ a. is_stated_word a ≡ true)
  unfolding alignment
  alignment_is = option_is (do
    n ← count_is
    granted n.1) (granted refl)

  stated_alignment_is : Grants text stated_alignment (λ n. is_word n ≡ true)
  unfolding stated_alignment
  stated_alignment_is = do
    signs_pass
    count_is

  pub typed_value_is : Grants text typed_value SoundPair
  unfolding typed_value
  typed_value_is = do
    t ← typed_is
    v ← value_is
    granted (t.1, v.1)

  pub result_type_is : Grants text result_type (λ t. is_result_type t ≡ true)
  unfolding result_type
  result_type_is = option_is (granted refl) (do
    t ← typed_is
    granted t.1)

  pub elements_is : Grants text elements (λ e. (is_type e.0 ≡ true) × (is_stated_word e.1 ≡ true))
  unfolding elements
  elements_is = option_is (do
    c ← count_is
    signs_pass
    t ← typed_is
    signs_pass
    granted (t.1, c.1)) (do
      t ← typed_is
      granted (t.1, refl))

  first_index_is : (o : Option ℕ) → Grants text (first_index o) (λ _. Unit {0})
  unfolding first_index
  first_index_is None = granted tt
  first_index_is (Some c) = do
    t ← typed_is
    signs_pass

  path_is : Grants text path SoundPath
  unfolding path
  path_is = do
    e ← elements_is
    signs_pass
    b ← one_pass
    signs_pass
    first_index_is e.0.1
    i ← typed_value_is
    granted (e.1.0, count_word 0 e.0.1 refl e.1.1, i.1.0, i.1.1)

  pub pointer_behind_is : Grants text pointer_behind SoundPointer
  unfolding pointer_behind
  pointer_behind_is = option_is (do
    maybe_pass
    maybe_pass
    signs_pass
    p ← path_is
    signs_pass
    granted p.1) (do
      b ← one_pass
      granted tt)

  pointer_operand_is : Grants text pointer_operand SoundPointer
  unfolding pointer_operand
  pointer_operand_is = do
    signs_pass
    passed_pass
    pointer_behind_is

  -- ---- instructions that have a result

  pub binary_is : Grants text binary (OtherValued text)
  unfolding binary is_phi
  binary_is = do
    o ← one_pass
    passed_pass
    a ← typed_value_is
    signs_pass
    b ← value_is
    granted ((a.1.0, a.1.1, b.1), refl, refl)

  pub comparison_is : Grants text comparison (OtherValued text)
  unfolding comparison is_phi
  comparison_is = do
    signs_pass
    passed_pass
    p ← one_pass
    a ← typed_value_is
    signs_pass
    b ← value_is
    granted ((a.1.0, a.1.1, b.1), refl, refl)

  pub selection_is : Grants text selection (OtherValued text)
  unfolding selection is_phi
  selection_is = do
    signs_pass
    c ← value_is
    signs_pass
    a ← typed_value_is
    signs_pass
    b ← typed_value_is
    granted ((c.1, a.1.0, a.1.1, b.1.0, b.1.1), refl, refl)

  pub conversion_is : Grants text conversion (OtherValued text)
  unfolding conversion is_phi
  conversion_is = do
    c ← one_pass
    passed_pass
    a ← typed_value_is
    signs_pass
    t ← typed_is
    granted ((a.1.0, a.1.1, t.1), refl, refl)

  incoming_is : Grants text incoming (λ p. SoundValue p.0)
  unfolding incoming
  incoming_is = do
    signs_pass
    v ← value_is
    signs_pass
    b ← one_pass
    signs_pass
    granted v.1

  pub phi_is : Grants text phi (Valued text)
  unfolding phi
  phi_is = do
    signs_pass
    t ← typed_is
    vs ← list_is incoming_is
    granted ((t.1, vs.1.0, vs.1.1), refl)

  pub alloca_is : Grants text alloca (OtherValued text)
  unfolding alloca is_phi
  alloca_is = do
    signs_pass
    e ← elements_is
    a ← alignment_is
    granted ((e.1.0, count_word 1 e.0.1 refl e.1.1, a.1), refl, refl)

  pub getelementptr_is : Grants text getelementptr (OtherValued text)
  unfolding getelementptr is_phi
  getelementptr_is = do
    signs_pass
    passed_pass
    p ← path_is
    granted (p.1, refl, refl)

  pub atomic_load_is : Grants text atomic_load (OtherValued text)
  unfolding atomic_load is_phi
  atomic_load_is = do
    signs_pass
    maybe_pass
    t ← typed_is
    signs_pass
    p ← pointer_operand_is
    o ← one_pass
    n ← stated_alignment_is
    tail_pass
    granted ((t.1, p.1, n.1), refl, refl)

  pub plain_load_is : Grants text plain_load (OtherValued text)
  unfolding plain_load is_phi
  plain_load_is = do
    signs_pass
    maybe_pass
    t ← typed_is
    signs_pass
    p ← pointer_operand_is
    a ← alignment_is
    tail_pass
    granted ((t.1, p.1, a.1), refl, refl)

  pub exchange_is : Grants text exchange (OtherValued text)
  unfolding exchange is_phi
  exchange_is = do
    signs_pass
    weak ← maybe_pass
    maybe_pass
    p ← pointer_operand_is
    signs_pass
    e ← typed_value_is
    signs_pass
    d ← typed_value_is
    s ← one_pass
    f ← one_pass
    a ← alignment_is
    tail_pass
    granted ((p.1, e.1, d.1, a.1), refl, refl)

  pub modification_is : Grants text modification (OtherValued text)
  unfolding modification is_phi
  modification_is = do
    signs_pass
    maybe_pass
    op ← one_pass
    p ← pointer_operand_is
    signs_pass
    v ← typed_value_is
    o ← one_pass
    a ← alignment_is
    tail_pass
    granted ((p.1, v.1.0, v.1.1, a.1), refl, refl)

  pub extraction_is : Grants text extraction (OtherValued text)
  unfolding extraction is_phi
  extraction_is = do
    signs_pass
    t ← typed_is
    signs_pass
    v ← value_is
    signs_pass
    k ← one_is (λ s n ok e. part_sound s.sign n e)
    granted ((t.1, v.1, k.1), refl, refl)

  -- ---- instructions without a result

  pub atomic_store_is : Grants text atomic_store (Plain text)
  unfolding atomic_store is_phi
  atomic_store_is = do
    signs_pass
    maybe_pass
    v ← typed_value_is
    signs_pass
    p ← pointer_operand_is
    o ← one_pass
    n ← stated_alignment_is
    tail_pass
    granted ((v.1.0, v.1.1, p.1, n.1), refl)

  pub plain_store_is : Grants text plain_store (Plain text)
  unfolding plain_store is_phi
  plain_store_is = do
    signs_pass
    maybe_pass
    v ← typed_value_is
    signs_pass
    p ← pointer_operand_is
    a ← alignment_is
    tail_pass
    granted ((v.1.0, v.1.1, p.1, a.1), refl)

  pub fence_is : Grants text fence (Plain text)
  unfolding fence is_phi
  fence_is = do
    signs_pass
    single ← maybe_pass
    o ← one_pass
    tail_pass
    granted (tt, refl)

  pub jump_is : Grants text jump (Plain text)
  unfolding jump is_phi
  jump_is = do
    signs_pass
    b ← one_pass
    tail_pass
    granted (tt, refl)

  pub branch_is : Grants text branch (Plain text)
  unfolding branch is_phi
  branch_is = do
    signs_pass
    v ← value_is
    signs_pass
    b ← one_pass
    signs_pass
    c ← one_pass
    tail_pass
    granted (v.1, refl)

  pub return_void_is : Grants text return_void (Plain text)
  unfolding return_void is_phi
  return_void_is = do
    signs_pass
    granted (tt, refl)

  pub return_value_is : Grants text return_value (Plain text)
  unfolding return_value is_phi
  return_value_is = do
    signs_pass
    v ← typed_value_is
    granted ((v.1.0, v.1.1), refl)

  pub unreachable_is : Grants text unreachable_line (Plain text)
  unfolding unreachable_line is_phi
  unreachable_is = do
    signs_pass
    granted (tt, refl)
