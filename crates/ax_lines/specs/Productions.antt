-- The productions: each line of a module's text, its form beside it.
use Rattle.std.specs.Prelude.{ℕ, Bool, true, false, cond, not, ◌||◌, ◌&&◌, ◌==◌, pos, List, [], ◌∷◌, length, Option, Some, None}
use Rattle.std.specs.List.{list_all}
use Rattle.ax_module.specs.declared.types.Ty.{Ty}
use Rattle.ax_module.specs.declared.types.Ty.TheVariants as ty
use Rattle.ax_symbols.specs.declared.vocabulary.Word.{Word}
use Rattle.ax_symbols.specs.declared.vocabulary.Word.TheVariants as word
use Rattle.ax_symbols.specs.declared.symbol.Punctuation.{Punctuation}
use Rattle.ax_symbols.specs.declared.symbol.Punctuation.TheVariants as mark
use Rattle.ax_symbols.specs.declared.symbol.Sign.{Sign}
use Rattle.ax_symbols.specs.declared.symbol.Sign.TheVariants as sign
use Rattle.ax_symbols.specs.declared.symbol.NameSpan.{NameSpan}
use Rattle.ax_symbols.specs.declared.pass.Pass.TheVariants as pass
use Rattle.ax_symbols.specs.declared.values.Value.{Value}
use Rattle.ax_symbols.specs.declared.values.Value.TheVariants as value
use Rattle.ax_lines.specs.declared.statement.Path.{Path}
use Rattle.ax_lines.specs.declared.statement.Pointer.{Pointer}
use Rattle.ax_lines.specs.declared.statement.Pointer.TheVariants as pointer
use Rattle.ax_lines.specs.declared.statement.Argument.{Argument}
use Rattle.ax_lines.specs.declared.statement.Argument.TheVariants as argument
use Rattle.ax_lines.specs.declared.statement.Statement.{Statement}
use Rattle.ax_lines.specs.declared.statement.Statement.TheVariants as statement
use Rattle.ax_lines.specs.declared.statement.Line.{Line}
use Rattle.ax_lines.specs.declared.statement.Line.TheVariants as line
use Rattle.ax_lines.specs.declared.statement.Section.{Section}
use Rattle.ax_lines.specs.declared.statement.Section.TheVariants as section
use Rattle.ax_symbols.specs.Pieces.{count_of, local_of, global_of, callee_of, base_of, label_of, const_of, value_of, order_of, pred_of, binary_of, cast_of, rmw_of, part_of, is_label_sign, is_colon}
use Rattle.ax_symbols.specs.Grammar.{Grammar, gives, signs, one, passed, typed, when, option, by, list, tail, ends, whole, none, ◌>>=◌, ◌>>◌}

abbrev pub w : Word → Sign
w x = sign.Word x

abbrev pub m : Punctuation → Sign
m x = sign.Mark x

abbrev pub zero_sign : Sign
zero_sign = sign.Number false 0

-- ---- pieces

-- whether these signs stand there
abbrev pub maybe : List Sign → Grammar Bool
maybe ss = option ss (gives true) (gives false)

-- [, align N]
unfoldable pub alignment : Grammar (Option ℕ)
alignment = option (m mark.Comma ∷ w word.Align ∷ [])
    (do
      n ← one count_of
      gives (Some n))
    (gives None)

-- , align N
unfoldable pub stated_alignment : Grammar ℕ
stated_alignment = do
  signs (m mark.Comma ∷ w word.Align ∷ [])
  one count_of

-- TYPE V
unfoldable pub typed_value : Grammar (Ty × Value)
typed_value = do
  t ← typed
  v ← one value_of
  gives (t, v)

-- void or TYPE
unfoldable pub result_type : Grammar (Option Ty)
result_type = option (w word.Void ∷ [])
    (gives None)
    (do
      t ← typed
      gives (Some t))

-- TYPE or [ C x TYPE ]: the type of the elements and, of an array, their number
unfoldable pub elements : Grammar (Ty × Option ℕ)
elements = option (m mark.OpenBracket ∷ [])
    (do
      c ← one count_of
      signs (w word.X ∷ [])
      t ← typed
      signs (m mark.CloseBracket ∷ [])
      gives (t, Some c))
    (do
      t ← typed
      gives (t, None))

abbrev pub count_or : ℕ → Option ℕ → ℕ
count_or n None = n
count_or n (Some c) = c

-- the first index of an array: TYPE 0 ,
unfoldable pub first_index : Option ℕ → Grammar (Unit {0})
first_index None = gives tt
first_index (Some c) = do
  t ← typed
  signs (zero_sign ∷ m mark.Comma ∷ [])

-- GEP: TYPE, ptr BASE, TYPE V, or [ C x TYPE ], ptr BASE, TYPE 0, TYPE V
unfoldable pub path : Grammar Path
path = do
  e ← elements
  signs (m mark.Comma ∷ w word.Ptr ∷ [])
  b ← one base_of
  signs (m mark.Comma ∷ [])
  first_index e.1
  i ← typed_value
  gives (record { elem = e.0; count = count_or 0 e.1; base = b; index_type = i.0; index = i.1 })

-- behind ptr [PASS]: @g, %v, or getelementptr [inbounds] [nuw] ( GEP )
unfoldable pub pointer_behind : Grammar Pointer
pointer_behind = option (w word.Getelementptr ∷ [])
    (do
      maybe (w word.Inbounds ∷ [])
      maybe (w word.Nuw ∷ [])
      signs (m mark.Open ∷ [])
      p ← path
      signs (m mark.Close ∷ [])
      gives (pointer.Element p))
    (do
      b ← one base_of
      gives (pointer.Base b))

-- P
unfoldable pub pointer_operand : Grammar Pointer
pointer_operand = do
  signs (w word.Ptr ∷ [])
  passed pass.Plain
  pointer_behind

-- ---- outside functions

-- an element of an array's first numbers, of the array's type
abbrev pub same_type : Ty → Ty → Bool
same_type ty.I1 ty.I1 = true
same_type ty.I8 ty.I8 = true
same_type ty.I16 ty.I16 = true
same_type ty.I32 ty.I32 = true
same_type ty.I64 ty.I64 = true
same_type ty.I128 ty.I128 = true
same_type (ty.Int a) (ty.Int b) = a == b
same_type ty.Float ty.Float = true
same_type ty.Double ty.Double = true
same_type ty.Ptr ty.Ptr = true
same_type ty.Vector ty.Vector = true
same_type _ _ = false

-- TYPE CONST, the type being the array's
unfoldable pub element : Ty → Grammar Value
element t = do
  u ← typed
  when (same_type t u)
  one const_of

-- INIT of a TYPE: zeroinitializer or CONST; of an array: zeroinitializer, or [ TYPE CONST, .. ] with as many
unfoldable pub initial : Ty → Option ℕ → Grammar (List Value)
initial t None = option (w word.Zeroinitializer ∷ [])
    (gives [])
    (do
      v ← one const_of
      gives (v ∷ []))
initial t (Some c) = option (w word.Zeroinitializer ∷ [])
    (gives [])
    (do
      signs (m mark.OpenBracket ∷ [])
      vs ← list (element t)
      signs (m mark.CloseBracket ∷ [])
      when (length vs == c)
      gives vs)

abbrev pub is_zero : Value → Bool
is_zero (value.Const (pos n)) = n == 0
is_zero _ = false

-- A list that is all zeros is read as empty.
abbrev pub kept : List Value → List Value
kept vs = cond (list_all is_zero vs) [] vs

-- @g = [PASS] global T INIT [, align N]
unfoldable pub global_line : Grammar Line
global_line = do
  g ← one global_of
  signs (m mark.Equals ∷ [])
  passed pass.Plain
  signs (w word.Global ∷ [])
  e ← elements
  vs ← initial e.0 e.1
  a ← alignment
  gives (line.Global g e.0 (count_or 1 e.1) (kept vs) a)

-- TYPE [PASS] %p
unfoldable pub parameter : Grammar (Ty × NameSpan)
parameter = do
  t ← typed
  passed pass.Plain
  p ← one local_of
  gives (t, p)

-- items parted by commas before a `)`, or none
abbrev pub items_at : {A : Type 0} → Grammar A → Sign → Grammar (List A)
items_at item (sign.Mark mark.Close) = gives []
items_at item _ = list item

abbrev pub items_in : {A : Type 0} → Grammar A → Grammar (List A)
items_in item = by (λ a b. items_at item a)

-- define [PASS] RESULT @f ( [PARAMS] ) [PASS] {
unfoldable pub define_line : Grammar Line
define_line = do
  signs (w word.Define ∷ [])
  passed pass.Plain
  r ← result_type
  f ← one global_of
  signs (m mark.Open ∷ [])
  ps ← items_in parameter
  signs (m mark.Close ∷ [])
  passed pass.Plain
  signs (m mark.OpenBrace ∷ [])
  gives (line.Define f r ps)

-- ---- instructions that have a result

-- add, sub, mul, and, or, xor, shl, lshr, ashr [FLAGS] TYPE V, V
unfoldable pub binary : Grammar Statement
binary = do
  o ← one binary_of
  passed pass.Arithmetic
  a ← typed_value
  signs (m mark.Comma ∷ [])
  b ← one value_of
  gives (statement.Bin o a.0 a.1 b)

-- icmp [samesign] PRED TYPE V, V
unfoldable pub comparison : Grammar Statement
comparison = do
  signs (w word.Icmp ∷ [])
  passed pass.Comparison
  p ← one pred_of
  a ← typed_value
  signs (m mark.Comma ∷ [])
  b ← one value_of
  gives (statement.Icmp p a.0 a.1 b)

-- select i1 V, TYPE V, TYPE V
unfoldable pub selection : Grammar Statement
selection = do
  signs (w word.Select ∷ sign.Int 1 ∷ [])
  c ← one value_of
  signs (m mark.Comma ∷ [])
  a ← typed_value
  signs (m mark.Comma ∷ [])
  b ← typed_value
  gives (statement.Select c a.0 a.1 b.0 b.1)

-- zext, sext, trunc [nneg nuw nsw] TYPE V to TYPE
unfoldable pub conversion : Grammar Statement
conversion = do
  c ← one cast_of
  passed pass.Conversion
  a ← typed_value
  signs (w word.To ∷ [])
  t ← typed
  gives (statement.Convert c a.0 a.1 t)

-- [ V, %b ]
unfoldable pub incoming : Grammar (Value × NameSpan)
incoming = do
  signs (m mark.OpenBracket ∷ [])
  v ← one value_of
  signs (m mark.Comma ∷ [])
  b ← one local_of
  signs (m mark.CloseBracket ∷ [])
  gives (v, b)

-- phi TYPE [ V, %b ], ..
unfoldable pub phi : Grammar Statement
phi = do
  signs (w word.Phi ∷ [])
  t ← typed
  vs ← list incoming
  gives (statement.Phi t vs)

-- alloca T [, align N]
unfoldable pub alloca : Grammar Statement
alloca = do
  signs (w word.Alloca ∷ [])
  e ← elements
  a ← alignment
  gives (statement.Alloca e.0 (count_or 1 e.1) a)

-- getelementptr [inbounds] [nuw] GEP
unfoldable pub getelementptr : Grammar Statement
getelementptr = do
  signs (w word.Getelementptr ∷ [])
  passed pass.Path
  p ← path
  gives (statement.Gep p)

-- load atomic [volatile] TYPE, P ORDER, align N TAIL
unfoldable pub atomic_load : Grammar Statement
atomic_load = do
  signs (w word.Load ∷ w word.Atomic ∷ [])
  maybe (w word.Volatile ∷ [])
  t ← typed
  signs (m mark.Comma ∷ [])
  p ← pointer_operand
  o ← one order_of
  n ← stated_alignment
  tail
  gives (statement.LoadAtomic t p o n)

-- load [volatile] TYPE, P [, align N] TAIL
unfoldable pub plain_load : Grammar Statement
plain_load = do
  signs (w word.Load ∷ [])
  maybe (w word.Volatile ∷ [])
  t ← typed
  signs (m mark.Comma ∷ [])
  p ← pointer_operand
  a ← alignment
  tail
  gives (statement.Load t p a)

-- cmpxchg [weak] [volatile] P, TYPE V, TYPE V ORDER ORDER [, align N] TAIL
unfoldable pub exchange : Grammar Statement
exchange = do
  signs (w word.Cmpxchg ∷ [])
  weak ← maybe (w word.Weak ∷ [])
  maybe (w word.Volatile ∷ [])
  p ← pointer_operand
  signs (m mark.Comma ∷ [])
  e ← typed_value
  signs (m mark.Comma ∷ [])
  d ← typed_value
  s ← one order_of
  f ← one order_of
  a ← alignment
  tail
  gives (statement.Cmpxchg weak p e d (s, f) a)

-- atomicrmw [volatile] OP P, TYPE V ORDER [, align N] TAIL
unfoldable pub modification : Grammar Statement
modification = do
  signs (w word.Atomicrmw ∷ [])
  maybe (w word.Volatile ∷ [])
  op ← one rmw_of
  p ← pointer_operand
  signs (m mark.Comma ∷ [])
  v ← typed_value
  o ← one order_of
  a ← alignment
  tail
  gives (statement.Rmw op p v.0 v.1 o a)

-- extractvalue { TYPE, i1 } V, 0 or , 1
unfoldable pub extraction : Grammar Statement
extraction = do
  signs (w word.Extractvalue ∷ m mark.OpenBrace ∷ [])
  t ← typed
  signs (m mark.Comma ∷ sign.Int 1 ∷ m mark.CloseBrace ∷ [])
  v ← one value_of
  signs (m mark.Comma ∷ [])
  k ← one part_of
  gives (statement.Extract t v k)

-- ---- instructions without a result

-- store atomic [volatile] TYPE V, P ORDER, align N TAIL
unfoldable pub atomic_store : Grammar Statement
atomic_store = do
  signs (w word.Store ∷ w word.Atomic ∷ [])
  maybe (w word.Volatile ∷ [])
  v ← typed_value
  signs (m mark.Comma ∷ [])
  p ← pointer_operand
  o ← one order_of
  n ← stated_alignment
  tail
  gives (statement.StoreAtomic v.0 v.1 p o n)

-- store [volatile] TYPE V, P [, align N] TAIL
unfoldable pub plain_store : Grammar Statement
plain_store = do
  signs (w word.Store ∷ [])
  maybe (w word.Volatile ∷ [])
  v ← typed_value
  signs (m mark.Comma ∷ [])
  p ← pointer_operand
  a ← alignment
  tail
  gives (statement.Store v.0 v.1 p a)

-- fence [syncscope("singlethread")] ORDER TAIL
unfoldable pub fence : Grammar Statement
fence = do
  signs (w word.Fence ∷ [])
  single ← maybe (w word.Syncscope ∷ m mark.Open ∷ sign.SingleThread ∷ m mark.Close ∷ [])
  o ← one order_of
  tail
  gives (statement.Fence single o)

-- br label %b TAIL
unfoldable pub jump : Grammar Statement
jump = do
  signs (w word.Br ∷ w word.Label ∷ [])
  b ← one local_of
  tail
  gives (statement.Jump b)

-- br i1 V, label %b, label %b TAIL
unfoldable pub branch : Grammar Statement
branch = do
  signs (w word.Br ∷ sign.Int 1 ∷ [])
  v ← one value_of
  signs (m mark.Comma ∷ w word.Label ∷ [])
  taken ← one local_of
  signs (m mark.Comma ∷ w word.Label ∷ [])
  missed ← one local_of
  tail
  gives (statement.Branch v taken missed)

-- ret void
unfoldable pub return_void : Grammar Statement
return_void = do
  signs (w word.Ret ∷ w word.Void ∷ [])
  gives statement.RetVoid

-- ret TYPE V
unfoldable pub return_value : Grammar Statement
return_value = do
  signs (w word.Ret ∷ [])
  v ← typed_value
  gives (statement.Ret v.0 v.1)

-- unreachable
unfoldable pub unreachable_line : Grammar Statement
unreachable_line = do
  signs (w word.Unreachable ∷ [])
  gives statement.Unreachable

-- ---- calls

-- what begins a pointer, behind ptr and what is passed over
abbrev pub begins_pointer : Sign → Bool
begins_pointer (sign.Word word.Getelementptr) = true
begins_pointer sign.Global = true
begins_pointer sign.Intrinsic = true
begins_pointer sign.Lifetime = true
begins_pointer sign.Local = true
begins_pointer _ = false

-- behind ptr [PASS]: a pointer, or else a constant of type ptr
unfoldable pub pointer_argument : Grammar Argument
pointer_argument = by (λ a b. cond (begins_pointer a)
    (do
      p ← pointer_behind
      gives (argument.Pointer p))
    (do
      v ← one value_of
      gives (argument.Value ty.Ptr v)))

-- TYPE [PASS] V
unfoldable pub value_argument : Grammar Argument
value_argument = do
  t ← typed
  passed pass.Argument
  v ← one value_of
  gives (argument.Value t v)

-- P, or a TYPE [PASS] V that is no P
unfoldable pub call_argument : Grammar Argument
call_argument = option (w word.Ptr ∷ [])
    (do
      passed pass.Argument
      pointer_argument)
    value_argument

-- A call of a name that begins with `llvm.lifetime.` is passed over.
abbrev pub call_states : Option NameSpan → Option Ty → NameSpan × Bool → List Argument → Line
call_states r t f arguments = cond f.1 line.Nothing (line.Inst r (statement.Call t f.0 arguments))

-- `%r =` before a void call is no production.
abbrev pub may_have : Option NameSpan → Option Ty → Bool
may_have (Some r) None = false
may_have _ _ = true

-- [%r =] [tail] call [PASS] RESULT @f(ARGS) TAIL; behind a terminator, only one that is passed over
unfoldable pub call : Bool → Option NameSpan → Grammar Line
call only r = do
  maybe (w word.Tail ∷ [])
  signs (w word.Call ∷ [])
  passed pass.Plain
  t ← result_type
  f ← one callee_of
  signs (m mark.Open ∷ [])
  arguments ← items_in call_argument
  signs (m mark.Close ∷ [])
  passed pass.Groups
  tail
  when (may_have r t && (not only || f.1))
  gives (call_states r t f arguments)

-- ---- lines in functions

-- an instruction that states this
abbrev pub states : Option NameSpan → Grammar Statement → Grammar Line
states r g = do
  s ← g
  gives (line.Inst r s)

abbrev pub load_line : Sign → Grammar Statement
load_line (sign.Word word.Atomic) = atomic_load
load_line _ = plain_load

abbrev pub store_line : Sign → Grammar Statement
store_line (sign.Word word.Atomic) = atomic_store
store_line _ = plain_store

abbrev pub leave_line : Sign → Grammar Statement
leave_line (sign.Word word.Label) = jump
leave_line _ = branch

abbrev pub return_line : Sign → Grammar Statement
return_line (sign.Word word.Void) = return_void
return_line _ = return_value

-- phis stand first in their block
abbrev pub phi_line : Bool → Grammar Statement
phi_line phis = cond phis phi none

-- an instruction that can have a result, by its first two words
unfoldable pub valued : Bool → Option NameSpan → Sign → Sign → Grammar Line
valued phis r (sign.Word word.Add) b = states r binary
valued phis r (sign.Word word.Sub) b = states r binary
valued phis r (sign.Word word.Mul) b = states r binary
valued phis r (sign.Word word.And) b = states r binary
valued phis r (sign.Word word.Or) b = states r binary
valued phis r (sign.Word word.Xor) b = states r binary
valued phis r (sign.Word word.Shl) b = states r binary
valued phis r (sign.Word word.Lshr) b = states r binary
valued phis r (sign.Word word.Ashr) b = states r binary
valued phis r (sign.Word word.Icmp) b = states r comparison
valued phis r (sign.Word word.Select) b = states r selection
valued phis r (sign.Word word.Zext) b = states r conversion
valued phis r (sign.Word word.Sext) b = states r conversion
valued phis r (sign.Word word.Trunc) b = states r conversion
valued phis r (sign.Word word.Phi) b = states r (phi_line phis)
valued phis r (sign.Word word.Alloca) b = states r alloca
valued phis r (sign.Word word.Getelementptr) b = states r getelementptr
valued phis r (sign.Word word.Load) b = states r (load_line b)
valued phis r (sign.Word word.Cmpxchg) b = states r exchange
valued phis r (sign.Word word.Atomicrmw) b = states r modification
valued phis r (sign.Word word.Extractvalue) b = states r extraction
valued phis r (sign.Word word.Call) b = call false r
valued phis r (sign.Word word.Tail) b = call false r
valued phis r _ b = none

-- an instruction without a name for its result
unfoldable pub unnamed : Bool → Sign → Sign → Grammar Line
unnamed phis (sign.Word word.Store) b = states None (store_line b)
unnamed phis (sign.Word word.Fence) b = states None fence
unnamed phis (sign.Word word.Br) b = states None (leave_line b)
unnamed phis (sign.Word word.Ret) b = states None (return_line b)
unnamed phis (sign.Word word.Unreachable) b = states None unreachable_line
unnamed phis a b = valued phis None a b

-- %r =
abbrev pub result_name : Grammar NameSpan
result_name = do
  r ← one local_of
  signs (m mark.Equals ∷ [])
  gives r

-- %r = and an instruction that has a result
unfoldable pub named : Bool → Grammar Line
named phis = do
  r ← result_name
  by (valued phis (Some r))

-- nothing
unfoldable pub blank : Grammar Line
blank = do
  ends
  gives line.Nothing

-- anything
unfoldable pub passed_line : Grammar Line
passed_line = do
  whole
  gives line.Nothing

-- name:
unfoldable pub label_line : Grammar Line
label_line = do
  b ← one label_of
  signs (m mark.Colon ∷ [])
  gives (line.Label b)

-- }
unfoldable pub close_line : Grammar Line
close_line = do
  signs (m mark.CloseBrace ∷ [])
  gives line.Close

-- ---- which lines stand where

-- outside functions: what begins with source_filename, target, declare, attributes, a Meta, ! or a
-- global whose name begins with llvm. is passed over whole
unfoldable pub outside : Sign → Sign → Grammar Line
outside sign.Feed b = blank
outside (sign.Word word.SourceFilename) b = passed_line
outside (sign.Word word.Target) b = passed_line
outside (sign.Word word.Declare) b = passed_line
outside (sign.Word word.Attributes) b = passed_line
outside sign.Meta b = passed_line
outside (sign.Mark mark.Bang) b = passed_line
outside sign.Intrinsic b = passed_line
outside sign.Lifetime b = passed_line
outside sign.Global b = global_line
outside (sign.Word word.Define) b = define_line
outside _ b = none

abbrev pub is_label : Sign → Sign → Bool
is_label a b = is_label_sign a && is_colon b

-- in a block, where phis may stand or not
unfoldable pub in_block : Bool → Sign → Sign → Grammar Line
in_block phis sign.Feed b = blank
in_block phis sign.Local b = named phis
in_block phis a b = unnamed phis a b

-- behind a function's head
abbrev pub at_start : Sign → Sign → Grammar Line
at_start a b = cond (is_label a b) label_line (in_block true a b)

-- %r = and a call that is passed over
unfoldable pub named_call : Grammar Line
named_call = do
  r ← result_name
  call true (Some r)

-- behind a terminator: a label, }, or a line that is passed over
unfoldable pub between : Sign → Grammar Line
between sign.Feed = blank
between (sign.Mark mark.CloseBrace) = close_line
between (sign.Word word.Call) = call true None
between (sign.Word word.Tail) = call true None
between sign.Local = named_call
between _ = none

abbrev pub behind_block : Sign → Sign → Grammar Line
behind_block a b = cond (is_label a b) label_line (between a)

unfoldable pub line_at : Section → Grammar Line
line_at section.Outside = by outside
line_at section.Start = by at_start
line_at section.Phis = by (in_block true)
line_at section.Inside = by (in_block false)
line_at section.Ended = by behind_block

-- ---- where the next line stands

unfoldable pub is_terminator : Statement → Bool
is_terminator (statement.Jump b) = true
is_terminator (statement.Branch v b c) = true
is_terminator statement.RetVoid = true
is_terminator (statement.Ret t v) = true
is_terminator statement.Unreachable = true
is_terminator _ = false

unfoldable pub is_phi : Statement → Bool
is_phi (statement.Phi t vs) = true
is_phi _ = false

abbrev pub section_behind : Statement → Section
section_behind s = cond (is_terminator s) section.Ended (cond (is_phi s) section.Phis section.Inside)

unfoldable pub section_after : Section → Line → Section
section_after p line.Nothing = p
section_after p (line.Global g t c vs a) = p
section_after p (line.Define f r ps) = section.Start
section_after p line.Close = section.Outside
section_after p (line.Label b) = section.Phis
section_after p (line.Inst r s) = section_behind s
