-- Pieces of a line, read from its front.
use Rattle.std.specs.Prelude.{◌≡◌, ℕ, zero, suc, ◌^◌, Bool, true, false, ◌&&◌, cond, pred, nat_lt, nat_le, ℤ, pos, negsuc, List, [], ◌∷◌, Option, Some, None, if◌then◌else◌, slice_get}
use Rattle.std.specs.Option.{option_map}
use Rattle.ax_words.specs.declared.order.Order.{Order}
use Rattle.ax_words.specs.declared.order.Order.TheVariants as order
use Rattle.ax_words.specs.declared.operation.RmwOp.{RmwOp}
use Rattle.ax_words.specs.declared.operation.RmwOp.TheVariants as rmw
use Rattle.ax_module.specs.declared.types.Ty.{Ty}
use Rattle.ax_module.specs.declared.types.Ty.TheVariants as ty
use Rattle.ax_module.specs.declared.inst.BinOp.{BinOp}
use Rattle.ax_module.specs.declared.inst.BinOp.TheVariants as bin
use Rattle.ax_module.specs.declared.inst.Pred.{Pred}
use Rattle.ax_module.specs.declared.inst.Pred.TheVariants as pred
use Rattle.ax_module.specs.declared.inst.Cast.{Cast}
use Rattle.ax_module.specs.declared.inst.Cast.TheVariants as cast
use Rattle.ax_module.specs.Types.{whole_number_type}
use Rattle.ax_symbols.specs.declared.vocabulary.Word.{Word}
use Rattle.ax_symbols.specs.declared.vocabulary.Word.TheVariants as word
use Rattle.ax_symbols.specs.declared.symbol.Punctuation.TheVariants as mark
use Rattle.ax_symbols.specs.declared.symbol.Sign.{Sign}
use Rattle.ax_symbols.specs.declared.symbol.Sign.TheVariants as sign
use Rattle.ax_symbols.specs.declared.symbol.NameSpan.{NameSpan}
use Rattle.ax_symbols.specs.declared.symbol.Symbol.{Symbol}
use Rattle.ax_symbols.specs.declared.pass.Pass.{Pass}
use Rattle.ax_symbols.specs.declared.pass.Pass.TheVariants as pass
use Rattle.ax_symbols.specs.declared.values.Value.{Value}
use Rattle.ax_symbols.specs.declared.values.Value.TheVariants as value
use Rattle.ax_symbols.specs.declared.values.Base.{Base}
use Rattle.ax_symbols.specs.declared.values.Base.TheVariants as base
use Rattle.ax_symbols.specs.Signs.{same_sign}

-- What a function returned, seen by view, is what reading gives.
abbrev pub Gives : {X Y : Type 0} → (X → Y) → Option X → Option Y → Type 0
Gives view None read = read ≡ None
Gives view (Some x) read = read ≡ Some (view x)

-- what stands behind these signs
abbrev pub strip : List Sign → List Symbol → Option (List Symbol)
strip [] line = Some line
strip (s ∷ signs) [] = None
strip (s ∷ signs) (t ∷ line) = if same_sign t.sign s then strip signs line else None

-- what the first symbol stands for, and the rest
abbrev pub one_at : {A : Type 0} → (Symbol → Option A) → List Symbol → Option (A × List Symbol)
one_at of [] = None
one_at of (s ∷ rest) = option_map (λ a. (a, rest)) (of s)

-- the sign at a place of a line; behind its end, the line feed
abbrev pub sign_or_feed : Option Symbol → Sign
sign_or_feed None = sign.Feed
sign_or_feed (Some s) = s.sign

abbrev pub sign_at : List Symbol → ℕ → Sign
sign_at line n = sign_or_feed (slice_get line n)

-- ---- tests on a sign

abbrev pub is_comma : Sign → Bool
is_comma (sign.Mark mark.Comma) = true
is_comma _ = false

abbrev pub is_open : Sign → Bool
is_open (sign.Mark mark.Open) = true
is_open _ = false

abbrev pub is_close : Sign → Bool
is_close (sign.Mark mark.Close) = true
is_close _ = false

abbrev pub is_greater : Sign → Bool
is_greater (sign.Mark mark.Greater) = true
is_greater _ = false

abbrev pub is_less : Sign → Bool
is_less (sign.Mark mark.Less) = true
is_less _ = false

abbrev pub is_colon : Sign → Bool
is_colon (sign.Mark mark.Colon) = true
is_colon _ = false

abbrev pub is_meta : Sign → Bool
is_meta sign.Meta = true
is_meta _ = false

abbrev pub is_group : Sign → Bool
is_group sign.Group = true
is_group _ = false

abbrev pub is_x : Sign → Bool
is_x (sign.Word word.X) = true
is_x _ = false

abbrev pub is_align : Sign → Bool
is_align (sign.Word word.Align) = true
is_align _ = false

abbrev pub is_captures : Sign → Bool
is_captures (sign.Word word.Captures) = true
is_captures _ = false

abbrev pub is_none_word : Sign → Bool
is_none_word (sign.Word word.None) = true
is_none_word _ = false

abbrev pub is_dereferenceable : Sign → Bool
is_dereferenceable (sign.Word word.Dereferenceable) = true
is_dereferenceable _ = false

-- a decimal number below 2 ^ 64, without a `-`
abbrev pub count_in : Sign → Option ℕ
count_in (sign.Number false n) = if nat_lt n (2 ^ 64) then Some n else None
count_in _ = None

abbrev pub is_count : Sign → Bool
is_count (sign.Number false n) = nat_lt n (2 ^ 64)
is_count _ = false

-- ---- what a symbol stands for

abbrev pub count_of : Symbol → Option ℕ
count_of s = count_in s.sign

abbrev pub local_in : NameSpan → Sign → Option NameSpan
local_in name sign.Local = Some name
local_in name _ = None

abbrev pub local_of : Symbol → Option NameSpan
local_of s = local_in s.name s.sign

-- a global's name, whatever it begins with
abbrev pub global_in : NameSpan → Sign → Option NameSpan
global_in name sign.Global = Some name
global_in name sign.Intrinsic = Some name
global_in name sign.Lifetime = Some name
global_in name _ = None

abbrev pub global_of : Symbol → Option NameSpan
global_of s = global_in s.name s.sign

-- what a call calls, and whether its name begins with `llvm.lifetime.`
abbrev pub callee_in : NameSpan → Sign → Option (NameSpan × Bool)
callee_in name sign.Global = Some (name, false)
callee_in name sign.Intrinsic = Some (name, false)
callee_in name sign.Lifetime = Some (name, true)
callee_in name _ = None

abbrev pub callee_of : Symbol → Option (NameSpan × Bool)
callee_of s = callee_in s.name s.sign

abbrev pub base_in : NameSpan → Sign → Option Base
base_in name sign.Global = Some (base.Global name)
base_in name sign.Intrinsic = Some (base.Global name)
base_in name sign.Lifetime = Some (base.Global name)
base_in name sign.Local = Some (base.Local name)
base_in name _ = None

abbrev pub base_of : Symbol → Option Base
base_of s = base_in s.name s.sign

-- a word, a literal or a text
abbrev pub is_label_sign : Sign → Bool
is_label_sign (sign.Word w) = true
is_label_sign (sign.Int n) = true
is_label_sign (sign.Number negative n) = true
is_label_sign sign.Odd = true
is_label_sign sign.SingleThread = true
is_label_sign sign.Text = true
is_label_sign _ = false

abbrev pub label_of : Symbol → Option NameSpan
label_of s = if is_label_sign s.sign then Some s.name else None

-- minus a number
abbrev pub minus : ℕ → ℤ
minus zero = pos 0
minus (suc n) = negsuc n

abbrev pub number_value : Bool → ℕ → Option Value
number_value false n = Some (if nat_lt n (2 ^ 127) then value.Const (pos n) else value.Wide n)
number_value true n = if nat_le n (2 ^ 127) then Some (value.Const (minus n)) else None

-- a decimal whole number from -2 ^ 127 to 2 ^ 128 - 1, or `true` or `false`
abbrev pub const_in : Sign → Option Value
const_in (sign.Number negative n) = number_value negative n
const_in (sign.Word word.True) = Some (value.Const (pos 1))
const_in (sign.Word word.False) = Some (value.Const (pos 0))
const_in _ = None

abbrev pub const_of : Symbol → Option Value
const_of s = const_in s.sign

abbrev pub value_in : NameSpan → Sign → Option Value
value_in name sign.Local = Some (value.Local name)
value_in name s = const_in s

abbrev pub value_of : Symbol → Option Value
value_of s = value_in s.name s.sign

abbrev pub order_in : Sign → Option Order
order_in (sign.Word word.Unordered) = Some order.Unordered
order_in (sign.Word word.Monotonic) = Some order.Monotonic
order_in (sign.Word word.Acquire) = Some order.Acquire
order_in (sign.Word word.Release) = Some order.Release
order_in (sign.Word word.AcqRel) = Some order.AcqRel
order_in (sign.Word word.SeqCst) = Some order.SeqCst
order_in _ = None

abbrev pub order_of : Symbol → Option Order
order_of s = order_in s.sign

abbrev pub pred_in : Sign → Option Pred
pred_in (sign.Word word.Eq) = Some pred.Eq
pred_in (sign.Word word.Ne) = Some pred.Ne
pred_in (sign.Word word.Ugt) = Some pred.Ugt
pred_in (sign.Word word.Uge) = Some pred.Uge
pred_in (sign.Word word.Ult) = Some pred.Ult
pred_in (sign.Word word.Ule) = Some pred.Ule
pred_in (sign.Word word.Sgt) = Some pred.Sgt
pred_in (sign.Word word.Sge) = Some pred.Sge
pred_in (sign.Word word.Slt) = Some pred.Slt
pred_in (sign.Word word.Sle) = Some pred.Sle
pred_in _ = None

abbrev pub pred_of : Symbol → Option Pred
pred_of s = pred_in s.sign

abbrev pub binary_in : Sign → Option BinOp
binary_in (sign.Word word.Add) = Some bin.Add
binary_in (sign.Word word.Sub) = Some bin.Sub
binary_in (sign.Word word.Mul) = Some bin.Mul
binary_in (sign.Word word.And) = Some bin.And
binary_in (sign.Word word.Or) = Some bin.Or
binary_in (sign.Word word.Xor) = Some bin.Xor
binary_in (sign.Word word.Shl) = Some bin.Shl
binary_in (sign.Word word.Lshr) = Some bin.Lshr
binary_in (sign.Word word.Ashr) = Some bin.Ashr
binary_in _ = None

abbrev pub binary_of : Symbol → Option BinOp
binary_of s = binary_in s.sign

abbrev pub cast_in : Sign → Option Cast
cast_in (sign.Word word.Zext) = Some cast.Zext
cast_in (sign.Word word.Sext) = Some cast.Sext
cast_in (sign.Word word.Trunc) = Some cast.Trunc
cast_in _ = None

abbrev pub cast_of : Symbol → Option Cast
cast_of s = cast_in s.sign

abbrev pub rmw_in : Sign → Option RmwOp
rmw_in (sign.Word word.Xchg) = Some rmw.Xchg
rmw_in (sign.Word word.Add) = Some rmw.Add
rmw_in (sign.Word word.Sub) = Some rmw.Sub
rmw_in (sign.Word word.And) = Some rmw.And
rmw_in (sign.Word word.Nand) = Some rmw.Nand
rmw_in (sign.Word word.Or) = Some rmw.Or
rmw_in (sign.Word word.Xor) = Some rmw.Xor
rmw_in (sign.Word word.Max) = Some rmw.Max
rmw_in (sign.Word word.Min) = Some rmw.Min
rmw_in (sign.Word word.UMax) = Some rmw.UMax
rmw_in (sign.Word word.UMin) = Some rmw.UMin
rmw_in _ = None

abbrev pub rmw_of : Symbol → Option RmwOp
rmw_of s = rmw_in s.sign

-- which part of a pair: 0 or 1
abbrev pub part_in : Sign → Option ℕ
part_in (sign.Number false n) = if nat_lt n 2 then Some n else None
part_in _ = None

abbrev pub part_of : Symbol → Option ℕ
part_of s = part_in s.sign

-- ---- types

abbrev pub simple_type : Sign → Option Ty
simple_type (sign.Int n) = Some (whole_number_type n)
simple_type (sign.Word word.Float) = Some ty.Float
simple_type (sign.Word word.Double) = Some ty.Double
simple_type (sign.Word word.Ptr) = Some ty.Ptr
simple_type _ = None

abbrev pub simple_type_of : Symbol → Option Ty
simple_type_of s = simple_type s.sign

-- `< N x`
abbrev pub opens_vector : Sign → Sign → Sign → Bool
opens_vector a b c = is_less a && (is_count b && is_x c)

-- a vector, behind its elements' type and `>`
abbrev pub closed : Option (Ty × List Symbol) → Option (Ty × List Symbol)
closed None = None
closed (Some (t, [])) = None
closed (Some (t, s ∷ rest)) = if is_greater s.sign then Some (ty.Vector, rest) else None

-- the type at the front, and the rest
abbrev pub type_at : List Symbol → Option (Ty × List Symbol)
type_at (a ∷ b ∷ c ∷ rest) = if opens_vector a.sign b.sign c.sign then closed (type_at rest) else one_at simple_type_of (a ∷ b ∷ c ∷ rest)
type_at line = one_at simple_type_of line

-- ---- what is passed over

abbrev pub is_attribute_word : Word → Bool
is_attribute_word word.DsoLocal = true
is_attribute_word word.DsoPreemptable = true
is_attribute_word word.Internal = true
is_attribute_word word.Private = true
is_attribute_word word.Common = true
is_attribute_word word.Hidden = true
is_attribute_word word.Protected = true
is_attribute_word word.LocalUnnamedAddr = true
is_attribute_word word.UnnamedAddr = true
is_attribute_word word.Noundef = true
is_attribute_word word.Nonnull = true
is_attribute_word word.Zeroext = true
is_attribute_word word.Signext = true
is_attribute_word word.Returned = true
is_attribute_word word.Nocapture = true
is_attribute_word word.Immarg = true
is_attribute_word word.Nounwind = true
is_attribute_word _ = false

abbrev pub is_attribute : Sign → Bool
is_attribute (sign.Word w) = is_attribute_word w
is_attribute sign.Group = true
is_attribute _ = false

abbrev pub is_arithmetic_flag : Sign → Bool
is_arithmetic_flag (sign.Word word.Nsw) = true
is_arithmetic_flag (sign.Word word.Nuw) = true
is_arithmetic_flag (sign.Word word.Exact) = true
is_arithmetic_flag (sign.Word word.Disjoint) = true
is_arithmetic_flag _ = false

abbrev pub is_comparison_flag : Sign → Bool
is_comparison_flag (sign.Word word.Samesign) = true
is_comparison_flag _ = false

abbrev pub is_conversion_flag : Sign → Bool
is_conversion_flag (sign.Word word.Nneg) = true
is_conversion_flag (sign.Word word.Nuw) = true
is_conversion_flag (sign.Word word.Nsw) = true
is_conversion_flag _ = false

abbrev pub is_path_flag : Sign → Bool
is_path_flag (sign.Word word.Inbounds) = true
is_path_flag (sign.Word word.Nuw) = true
is_path_flag _ = false

-- one symbol that is passed over
abbrev pub is_passed : Pass → Sign → Bool
is_passed pass.Plain s = is_attribute s
is_passed pass.Argument s = is_attribute s
is_passed pass.Arithmetic s = is_arithmetic_flag s
is_passed pass.Comparison s = is_comparison_flag s
is_passed pass.Conversion s = is_conversion_flag s
is_passed pass.Path s = is_path_flag s
is_passed pass.Groups s = is_group s

abbrev pub has_captures : Pass → Bool
has_captures pass.Plain = true
has_captures pass.Argument = true
has_captures _ = false

abbrev pub has_alignment : Pass → Bool
has_alignment pass.Argument = true
has_alignment _ = false

-- `captures ( none )`
abbrev pub is_captures_none : List Symbol → Bool
is_captures_none line = is_captures (sign_at line 0) && (is_open (sign_at line 1) && (is_none_word (sign_at line 2) && is_close (sign_at line 3)))

-- `align N`
abbrev pub is_alignment : List Symbol → Bool
is_alignment line = is_align (sign_at line 0) && is_count (sign_at line 1)

-- `dereferenceable ( N )`
abbrev pub is_dereferenceable_bytes : List Symbol → Bool
is_dereferenceable_bytes line = is_dereferenceable (sign_at line 0) && (is_open (sign_at line 1) && (is_count (sign_at line 2) && is_close (sign_at line 3)))

-- how many symbols the item at the front has that is passed over; 0 where there is none
abbrev pub item_len : Pass → List Symbol → ℕ
item_len k line =
    if is_passed k (sign_at line 0) then 1 else
    if has_captures k && is_captures_none line then 4 else
    if has_alignment k && is_alignment line then 2 else
    if has_alignment k && is_dereferenceable_bytes line then 4 else 0

abbrev pub is_nought : ℕ → Bool
is_nought zero = true
is_nought (suc n) = false

-- what stands behind all items that are passed over, where so many symbols of one are left
abbrev pub behind_items : Pass → ℕ → List Symbol → List Symbol
behind_items k n [] = []
behind_items k (suc n) (s ∷ rest) = behind_items k n rest
behind_items k zero (s ∷ rest) = cond (is_nought (item_len k (s ∷ rest))) (s ∷ rest) (behind_items k (pred (item_len k (s ∷ rest))) rest)

abbrev pub pass_over : Pass → List Symbol → List Symbol
pass_over k line = behind_items k 0 line

-- ---- metadata

abbrev pub is_pair : Sign → Sign → Sign → Bool
is_pair a b c = is_comma a && (is_meta b && is_meta c)

-- any number of `, !name !n`
abbrev pub is_tail : List Symbol → Bool
is_tail [] = true
is_tail (a ∷ []) = false
is_tail (a ∷ b ∷ []) = false
is_tail (a ∷ b ∷ c ∷ rest) = is_pair a.sign b.sign c.sign && is_tail rest
