-- What an instruction is, of which its line states a sound one whose names are declared.
use Rattle.std.proofs.Common.{◌≡◌, ℕ, ◌+◌, ◌^◌, ◌/◌, arith, true, List, [], ◌∷◌, Option, Some, None, refl, subst, nat_lt}
use Rattle.std.specs.List.{list_all}
use Rattle.std.proofs.lemmas.Bool.{and_parts, ltb-true, lt-ltb}
use Rattle.std.proofs.lemmas.Option.{same_Some}
use Rattle.ax_module.specs.declared.types.Ty.{Ty}
use Rattle.ax_module.specs.declared.types.Ty.TheVariants as ty
use Rattle.ax_module.specs.declared.operand.Operand.{Operand}
use Rattle.ax_module.specs.declared.operand.Operand.TheVariants as operand
use Rattle.ax_module.specs.declared.operand.Addr.{Addr}
use Rattle.ax_module.specs.declared.operand.Arg.{Arg}
use Rattle.ax_module.specs.declared.operand.Arg.TheVariants as arg
use Rattle.ax_module.specs.declared.inst.Inst.{Inst}
use Rattle.ax_module.specs.declared.inst.Inst.TheVariants as inst
use Rattle.ax_module.specs.Types.{type_bytes}
use Rattle.ax_module.specs.Kinds.{is_phi, is_terminator, has_result}
use Rattle.ax_module.specs.WellFormed.{NameCounts, is_type, is_value, is_operand, is_base, is_addr, is_arg, is_entry, is_nonempty, is_inst}
use Rattle.ax_module.specs.Ranges.{is_word, is_stated_word, is_in_range, is_addr_in_range, is_arg_in_range, is_inst_in_range}
use Rattle.ax_symbols.specs.declared.symbol.NameSpan.{NameSpan}
use Rattle.ax_symbols.specs.declared.values.Value.{Value}
use Rattle.ax_symbols.specs.declared.values.Value.TheVariants as value
use Rattle.ax_symbols.specs.declared.values.Base.{Base as NamedBase}
use Rattle.ax_symbols.specs.declared.values.Base.TheVariants as named
use Rattle.ax_lines.specs.declared.statement.Pointer.{Pointer}
use Rattle.ax_lines.specs.declared.statement.Pointer.TheVariants as pointer
use Rattle.ax_lines.specs.declared.statement.Argument.{Argument}
use Rattle.ax_lines.specs.declared.statement.Argument.TheVariants as argument
use Rattle.ax_lines.specs.declared.statement.Statement.{Statement}
use Rattle.ax_lines.specs.declared.statement.Statement.TheVariants as statement
use Rattle.ax_lines.specs.Productions as lines
use Rattle.ax_scope.specs.declared.meaning.Meaning.{Meaning}
use Rattle.ax_scope.specs.declared.meaning.Meaning.TheVariants as meaning
use Rattle.ax_scope.specs.Names.{text_at}
use Rattle.ax_scope.specs.Resolve as resolve
use Rattle.ax_scope.specs.Resolve.{Looks, operand_in, local_in, global_in, block_in, operand_of, base_of, block_of, addr_of, arg_of, args_of, incoming_of, alignment_or, inst_of}
use Rattle.ax_read.proofs.Grants.{Each}
use Rattle.ax_read.proofs.Granted.{SoundValue, SoundPointer, SoundArgument, SoundStatement, states_result}

-- what holds of a value that is found
pub record Meets {A : Type 0} (o : Option A) (Q : A → Type 0) : Type 0 where
  pub holds : (a : A) → o ≡ Some a → Q a

module _ {A D : Type 0} where
  one_of : (o : Option A) (k : A → D) (Q : A → Type 0) (R : D → Type 0) → Meets o Q → ((x : (a : A) × Q a) → R (k x.0)) → (d : D) → resolve.◌>>=◌ o (λ a. Some (k a)) ≡ Some d → R d
  one_of None k Q R f g d e = absurd cc
  one_of (Some a) k Q R f g d e = subst R (same_Some (k a) d e) (g (a, f.holds a refl))

  one : {o : Option A} {Q : A → Type 0} {R : D → Type 0} (k : A → D) → Meets o Q → ((x : (a : A) × Q a) → R (k x.0)) → Meets (resolve.◌>>=◌ o (λ a. Some (k a))) R
  one {o = o} {Q = Q} {R = R} k f g = record { holds = one_of o k Q R f g }

module _ {A B D : Type 0} where
  two_of : (o : Option A) (p : Option B) (k : A → B → D) (Q : A → Type 0) (P : B → Type 0) (R : D → Type 0) → Meets o Q → Meets p P → ((x : (a : A) × Q a) (y : (b : B) × P b) → R (k x.0 y.0)) → (d : D) → resolve.◌>>=◌ o (λ a. resolve.◌>>=◌ p (λ b. Some (k a b))) ≡ Some d → R d
  two_of None p k Q P R f h g d e = absurd cc
  two_of (Some a) None k Q P R f h g d e = absurd cc
  two_of (Some a) (Some b) k Q P R f h g d e = subst R (same_Some (k a b) d e) (g (a, f.holds a refl) (b, h.holds b refl))

  two : {o : Option A} {p : Option B} {Q : A → Type 0} {P : B → Type 0} {R : D → Type 0} (k : A → B → D) → Meets o Q → Meets p P → ((x : (a : A) × Q a) (y : (b : B) × P b) → R (k x.0 y.0)) → Meets (resolve.◌>>=◌ o (λ a. resolve.◌>>=◌ p (λ b. Some (k a b)))) R
  two {o = o} {p = p} {Q = Q} {P = P} {R = R} k f h g = record { holds = two_of o p k Q P R f h g }

module _ {A B C D : Type 0} where
  three_of : (o : Option A) (p : Option B) (q : Option C) (k : A → B → C → D) (Q : A → Type 0) (P : B → Type 0) (S : C → Type 0) (R : D → Type 0) → Meets o Q → Meets p P → Meets q S → ((x : (a : A) × Q a) (y : (b : B) × P b) (z : (c : C) × S c) → R (k x.0 y.0 z.0))
      → (d : D) → resolve.◌>>=◌ o (λ a. resolve.◌>>=◌ p (λ b. resolve.◌>>=◌ q (λ c. Some (k a b c)))) ≡ Some d → R d
  three_of None p q k Q P S R f h j g d e = absurd cc
  three_of (Some a) None q k Q P S R f h j g d e = absurd cc
  three_of (Some a) (Some b) None k Q P S R f h j g d e = absurd cc
  three_of (Some a) (Some b) (Some c) k Q P S R f h j g d e = subst R (same_Some (k a b c) d e) (g (a, f.holds a refl) (b, h.holds b refl) (c, j.holds c refl))

  three : {o : Option A} {p : Option B} {q : Option C} {Q : A → Type 0} {P : B → Type 0} {S : C → Type 0} {R : D → Type 0} (k : A → B → C → D) → Meets o Q → Meets p P → Meets q S → ((x : (a : A) × Q a) (y : (b : B) × P b) (z : (c : C) × S c) → R (k x.0 y.0 z.0))
      → Meets (resolve.◌>>=◌ o (λ a. resolve.◌>>=◌ p (λ b. resolve.◌>>=◌ q (λ c. Some (k a b c))))) R
  three {o = o} {p = p} {q = q} {Q = Q} {P = P} {S = S} {R = R} k f h j g = record { holds = three_of o p q k Q P S R f h j g }

found : {A : Type 0} {x : A} {Q : A → Type 0} → Q x → Meets (Some x) Q
found {x = x} {Q = Q} q = record { holds = λ a e. subst Q (same_Some x a e) q }

any : {A : Type 0} (o : Option A) → Meets o (λ _. Unit {0})
any o = record { holds = λ a e. tt }

-- ---- what kind of instruction it is

abbrev pub SameKind : Statement → Inst → Type 0
SameKind s i = (is_phi i ≡ lines.is_phi s) × (is_terminator i ≡ lines.is_terminator s) × (has_result i ≡ states_result s)

pub kind_is : (x : Looks) (s : Statement) → Meets (inst_of x s) (SameKind s)
unfolding inst_of is_phi is_terminator has_result lines.is_phi lines.is_terminator
kind_is x (statement.Bin op t v u) = two (λ a b. inst.Bin op t a b) (any (operand_of x v)) (any (operand_of x u)) (λ a b. (refl, refl, refl))
kind_is x (statement.Icmp pred t v u) = two (λ a b. inst.Icmp pred t a b) (any (operand_of x v)) (any (operand_of x u)) (λ a b. (refl, refl, refl))
kind_is x (statement.Select v t u s w) = three (λ c a b. inst.Select c t a s b) (any (operand_of x v)) (any (operand_of x u)) (any (operand_of x w)) (λ c a b. (refl, refl, refl))
kind_is x (statement.Convert cast from v to) = one (λ a. inst.Convert cast from a to) (any (operand_of x v)) (λ a. (refl, refl, refl))
kind_is x (statement.Phi t ps) = one (λ vs. inst.Phi t vs) (any (incoming_of x ps)) (λ vs. (refl, refl, refl))
kind_is x (statement.Jump s) = one (λ b. inst.Jump b) (any (block_of x s)) (λ b. (refl, refl, refl))
kind_is x (statement.Branch v s r) = three (λ a b c. inst.Branch a b c) (any (operand_of x v)) (any (block_of x s)) (any (block_of x r)) (λ a b c. (refl, refl, refl))
kind_is x statement.RetVoid = found (refl, refl, refl)
kind_is x (statement.Ret t v) = one (λ a. inst.Ret t a) (any (operand_of x v)) (λ a. (refl, refl, refl))
kind_is x statement.Unreachable = found (refl, refl, refl)
kind_is x (statement.Alloca t n align) = found (refl, refl, refl)
kind_is x (statement.Gep p) = two (λ b i. inst.Gep p.elem p.count b p.index_type i) (any (base_of x p.base)) (any (operand_of x p.index)) (λ b i. (refl, refl, refl))
kind_is x (statement.Load t p align) = one (λ a. inst.Load t a align) (any (addr_of x p)) (λ a. (refl, refl, refl))
kind_is x (statement.LoadAtomic t p order align) = one (λ a. inst.LoadAtomic t a order align) (any (addr_of x p)) (λ a. (refl, refl, refl))
kind_is x (statement.Store t v p align) = two (λ o a. inst.Store t o a align) (any (operand_of x v)) (any (addr_of x p)) (λ o a. (refl, refl, refl))
kind_is x (statement.StoreAtomic t v p order align) = two (λ o a. inst.StoreAtomic t o a order align) (any (operand_of x v)) (any (addr_of x p)) (λ o a. (refl, refl, refl))
kind_is x (statement.Cmpxchg weak p expected new orders align) = three (λ a e n. inst.Cmpxchg weak a expected.0 e new.0 n orders.0 orders.1 (alignment_or expected.0 align)) (any (addr_of x p)) (any (operand_of x expected.1)) (any (operand_of x new.1)) (λ a e n. (refl, refl, refl))
kind_is x (statement.Rmw op p t v order align) = two (λ a o. inst.Rmw op a t o order (alignment_or t align)) (any (addr_of x p)) (any (operand_of x v)) (λ a o. (refl, refl, refl))
kind_is x (statement.Fence single order) = found (refl, refl, refl)
kind_is x (statement.Extract t v part) = one (λ a. inst.Extract t a part) (any (operand_of x v)) (λ a. (refl, refl, refl))
kind_is x (statement.Call None s arguments) = one (λ args. inst.Call None (text_at x.text s) args) (any (args_of x arguments)) (λ args. (refl, refl, refl))
kind_is x (statement.Call (Some t) s arguments) = one (λ args. inst.Call (Some t) (text_at x.text s) args) (any (args_of x arguments)) (λ args. (refl, refl, refl))

-- ---- names of a scope

abbrev pub IsValue : NameCounts → Meaning → Type 0
IsValue scope (meaning.Value k) = is_value scope k ≡ true
IsValue scope (meaning.Param k) = nat_lt k scope.params ≡ true
IsValue scope _ = Unit {0}

abbrev pub IsGlobal : NameCounts → Meaning → Type 0
IsGlobal scope (meaning.Global k) = nat_lt k scope.globals ≡ true
IsGlobal scope _ = Unit {0}

abbrev pub IsBlock : NameCounts → Meaning → Type 0
IsBlock scope (meaning.Block k) = nat_lt k scope.blocks ≡ true
IsBlock scope _ = Unit {0}

-- each name stands for what the scope has
pub record LooksFit (scope : NameCounts) (x : Looks) : Type 0 where
  pub values : (name : List ℕ) (m : Meaning) → x.values name ≡ Some m → IsValue scope m
  pub globals : (name : List ℕ) (m : Meaning) → x.globals name ≡ Some m → IsGlobal scope m
  pub blocks : (name : List ℕ) (m : Meaning) → x.blocks name ≡ Some m → IsBlock scope m

-- ---- numbers

word_below : (n : ℕ) → nat_lt n (10 ^ 8) ≡ true → is_word (type_bytes (ty.Int n)) ≡ true
word_below n h = lt-ltb ((n + 7) / 8) (2 ^ 64) (omega (arith, ltb-true n (10 ^ 8) h))

bytes_word : (t : Ty) → is_type t ≡ true → is_word (type_bytes t) ≡ true
bytes_word (ty.Int n) h = word_below n (and_parts _ _ h).0
bytes_word _ h = refl

alignment_word : (t : Ty) (o : Option ℕ) → is_type t ≡ true → is_stated_word o ≡ true → is_word (alignment_or t o) ≡ true
alignment_word t None h g = bytes_word t h
alignment_word t (Some a) h g = g

module _ (scope : NameCounts) (x : Looks) (fit : LooksFit scope x) where
  abbrev OperandFits : Operand → Type 0
  OperandFits o = (is_operand scope o ≡ true) × (is_in_range o ≡ true)

  abbrev AddrFits : Addr → Type 0
  AddrFits a = (is_addr scope a ≡ true) × (is_addr_in_range a ≡ true)

  abbrev ArgFits : Arg → Type 0
  ArgFits a = (is_arg scope a ≡ true) × (is_arg_in_range a ≡ true)

  abbrev pub InstFits : Inst → Type 0
  InstFits i = (is_inst scope i ≡ true) × (is_inst_in_range i ≡ true)

  local_fits : (m : Option Meaning) → ((k : Meaning) → m ≡ Some k → IsValue scope k) → Meets (operand_in m) OperandFits
  local_fits None f = record { holds = λ a e. absurd cc }
  local_fits (Some (meaning.Value k)) f = found (f (meaning.Value k) refl, refl)
  local_fits (Some (meaning.Param k)) f = found (f (meaning.Param k) refl, refl)
  local_fits (Some _) f = record { holds = λ a e. absurd cc }

  operand_fits : (v : Value) → SoundValue v → Meets (operand_of x v) OperandFits
  operand_fits (value.Const n) h = found (refl, h)
  operand_fits (value.Wide n) h = found (h.0, h.1)
  operand_fits (value.Local s) h = local_fits (x.values (text_at x.text s)) (fit.values (text_at x.text s))

  local_base : (m : Option Meaning) → ((k : Meaning) → m ≡ Some k → IsValue scope k) → Meets (local_in m) (λ b. is_base scope b ≡ true)
  local_base None f = record { holds = λ a e. absurd cc }
  local_base (Some (meaning.Value k)) f = found (f (meaning.Value k) refl)
  local_base (Some (meaning.Param k)) f = found (f (meaning.Param k) refl)
  local_base (Some _) f = record { holds = λ a e. absurd cc }

  global_base : (m : Option Meaning) → ((k : Meaning) → m ≡ Some k → IsGlobal scope k) → Meets (global_in m) (λ b. is_base scope b ≡ true)
  global_base None f = record { holds = λ a e. absurd cc }
  global_base (Some (meaning.Global k)) f = found (f (meaning.Global k) refl)
  global_base (Some _) f = record { holds = λ a e. absurd cc }

  base_fits : (b : NamedBase) → Meets (base_of x b) (λ b. is_base scope b ≡ true)
  base_fits (named.Global s) = global_base (x.globals (text_at x.text s)) (fit.globals (text_at x.text s))
  base_fits (named.Local s) = local_base (x.values (text_at x.text s)) (fit.values (text_at x.text s))

  block_found : (m : Option Meaning) → ((k : Meaning) → m ≡ Some k → IsBlock scope k) → Meets (block_in m) (λ b. nat_lt b scope.blocks ≡ true)
  block_found None f = record { holds = λ a e. absurd cc }
  block_found (Some (meaning.Block k)) f = found (f (meaning.Block k) refl)
  block_found (Some _) f = record { holds = λ a e. absurd cc }

  block_fits : (s : NameSpan) → Meets (block_of x s) (λ b. nat_lt b scope.blocks ≡ true)
  block_fits s = block_found (x.blocks (text_at x.text s)) (fit.blocks (text_at x.text s))

  addr_fits : (p : Pointer) → SoundPointer p → Meets (addr_of x p) AddrFits
  addr_fits (pointer.Base b) h = one (λ to. record { base = to; step = None }) (base_fits b) (λ to. (rw to.1 refl, refl))
  addr_fits (pointer.Element p) h = two (λ to i. record { base = to; step = Some (p.elem, p.count, p.index_type, i) }) (base_fits p.base) (operand_fits p.index h.3) (λ to i. (rw (to.1, h.0, h.2, i.1.0) refl, rw (h.1, i.1.1) refl))

  arg_good : (t : Ty) (v : Value) (o : Operand) → SoundArgument (argument.Value t v) → operand_of x v ≡ Some o → (is_arg scope (arg.Value t o) ≡ true) × (is_in_range o ≡ true)
  arg_good ty.Ptr (value.Const n) o h e = let f = (operand_fits (value.Const n) h).holds o e in (subst (λ (a : Operand). is_arg scope (arg.Value ty.Ptr a) ≡ true) (same_Some (operand.Const n) o e) refl, f.1)
  arg_good ty.Ptr (value.Wide n) o h e = let f = (operand_fits (value.Wide n) h).holds o e in (subst (λ (a : Operand). is_arg scope (arg.Value ty.Ptr a) ≡ true) (same_Some (operand.Wide n) o e) h.0, f.1)
  arg_good ty.Ptr (value.Local s) o h e = absurd h
  arg_good _ v o h e = let f = (operand_fits v h.1).holds o e in (rw (h.0, f.0) refl, f.1)

  arg_fits : (a : Argument) → SoundArgument a → Meets (arg_of x a) ArgFits
  arg_fits (argument.Pointer p) h = one (λ a. arg.Pointer a) (addr_fits p h) (λ a. a.1)
  arg_fits (argument.Value t v) h = one {Q = λ o. (is_arg scope (arg.Value t o) ≡ true) × (is_in_range o ≡ true)} (λ o. arg.Value t o) (record { holds = λ o e. arg_good t v o h e }) (λ o. o.1)

  args_fit : (all : List Argument) → Each SoundArgument all → Meets (args_of x all) (λ args. (list_all (is_arg scope) args ≡ true) × (list_all is_arg_in_range args ≡ true))
  args_fit [] h = found (refl, refl)
  args_fit (a ∷ rest) h = two (λ this more. this ∷ more) (arg_fits a h.0) (args_fit rest h.1) (λ this more. (rw (this.1.0, more.1.0) refl, rw (this.1.1, more.1.1) refl))

  incoming_fit : (ps : List (Value × NameSpan)) → Each (λ (p : Value × NameSpan). SoundValue p.0) ps → Meets (incoming_of x ps) (λ es. (list_all (is_entry scope) es ≡ true) × (list_all (λ e. is_in_range e.0) es ≡ true) × (is_nonempty es ≡ is_nonempty ps))
  incoming_fit [] h = found (refl, refl, refl)
  incoming_fit (p ∷ ps) h = three (λ v b more. (v, b) ∷ more) (operand_fits p.0 h.0) (block_fits p.1) (incoming_fit ps h.1) (λ v b more. (rw (v.1.0, b.1, more.1.0) refl, rw (v.1.1, more.1.1) refl, refl))

  pub inst_fits : (s : Statement) → SoundStatement x.text s → Meets (inst_of x s) InstFits
  unfolding inst_of is_inst is_inst_in_range
  inst_fits (statement.Bin op t v u) h = two (λ a b. inst.Bin op t a b) (operand_fits v h.1) (operand_fits u h.2) (λ a b. (rw (h.0, a.1.0, b.1.0) refl, rw (a.1.1, b.1.1) refl))
  inst_fits (statement.Icmp pred t v u) h = two (λ a b. inst.Icmp pred t a b) (operand_fits v h.1) (operand_fits u h.2) (λ a b. (rw (h.0, a.1.0, b.1.0) refl, rw (a.1.1, b.1.1) refl))
  inst_fits (statement.Select v t u s w) h = three (λ c a b. inst.Select c t a s b) (operand_fits v h.0) (operand_fits u h.2) (operand_fits w h.4) (λ c a b. (rw (c.1.0, h.1, a.1.0, h.3, b.1.0) refl, rw (c.1.1, a.1.1, b.1.1) refl))
  inst_fits (statement.Convert cast from v to) h = one (λ a. inst.Convert cast from a to) (operand_fits v h.1) (λ a. (rw (h.0, a.1.0, h.2) refl, a.1.1))
  inst_fits (statement.Phi t ps) h = one (λ vs. inst.Phi t vs) (incoming_fit ps h.1) (λ vs. (rw (h.0, vs.1.2, h.2, vs.1.0) refl, vs.1.1))
  inst_fits (statement.Jump s) h = one (λ b. inst.Jump b) (block_fits s) (λ b. (b.1, refl))
  inst_fits (statement.Branch v s r) h = three (λ a b c. inst.Branch a b c) (operand_fits v h) (block_fits s) (block_fits r) (λ a b c. (rw (a.1.0, b.1, c.1) refl, a.1.1))
  inst_fits statement.RetVoid h = found (refl, refl)
  inst_fits (statement.Ret t v) h = one (λ a. inst.Ret t a) (operand_fits v h.1) (λ a. (rw (h.0, a.1.0) refl, a.1.1))
  inst_fits statement.Unreachable h = found (refl, refl)
  inst_fits (statement.Alloca t n align) h = found (h.0, rw (h.1, h.2) refl)
  inst_fits (statement.Gep p) h = two (λ b i. inst.Gep p.elem p.count b p.index_type i) (base_fits p.base) (operand_fits p.index h.3) (λ b i. (rw (h.0, b.1, h.2, i.1.0) refl, rw (h.1, i.1.1) refl))
  inst_fits (statement.Load t p align) h = one (λ a. inst.Load t a align) (addr_fits p h.1) (λ a. (rw (h.0, a.1.0) refl, rw (a.1.1, h.2) refl))
  inst_fits (statement.LoadAtomic t p order align) h = one (λ a. inst.LoadAtomic t a order align) (addr_fits p h.1) (λ a. (rw (h.0, a.1.0) refl, rw (a.1.1, h.2) refl))
  inst_fits (statement.Store t v p align) h = two (λ o a. inst.Store t o a align) (operand_fits v h.1) (addr_fits p h.2) (λ o a. (rw (h.0, o.1.0, a.1.0) refl, rw (o.1.1, a.1.1, h.3) refl))
  inst_fits (statement.StoreAtomic t v p order align) h = two (λ o a. inst.StoreAtomic t o a order align) (operand_fits v h.1) (addr_fits p h.2) (λ o a. (rw (h.0, o.1.0, a.1.0) refl, rw (o.1.1, a.1.1, h.3) refl))
  inst_fits (statement.Cmpxchg weak p expected new orders align) h = three (λ a e n. inst.Cmpxchg weak a expected.0 e new.0 n orders.0 orders.1 (alignment_or expected.0 align)) (addr_fits p h.0) (operand_fits expected.1 h.1.1) (operand_fits new.1 h.2.1) (λ a e n. (rw (a.1.0, h.1.0, e.1.0, h.2.0, n.1.0) refl, rw (a.1.1, e.1.1, n.1.1, alignment_word expected.0 align h.1.0 h.3) refl))
  inst_fits (statement.Rmw op p t v order align) h = two (λ a o. inst.Rmw op a t o order (alignment_or t align)) (addr_fits p h.0) (operand_fits v h.2) (λ a o. (rw (a.1.0, h.1, o.1.0) refl, rw (a.1.1, o.1.1, alignment_word t align h.1 h.3) refl))
  inst_fits (statement.Fence single order) h = found (refl, refl)
  inst_fits (statement.Extract t v part) h = one (λ a. inst.Extract t a part) (operand_fits v h.1) (λ a. (rw (h.0, a.1.0, h.2) refl, a.1.1))
  inst_fits (statement.Call t s arguments) h = one (λ args. inst.Call t (text_at x.text s) args) (args_fit arguments h.2) (λ args. (rw (h.0, h.1, args.1.0) refl, args.1.1))
