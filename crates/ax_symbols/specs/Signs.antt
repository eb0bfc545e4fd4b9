-- Words and marks, and when two signs are one.
use Rattle.std.specs.Prelude.{ℕ, Bool, true, false, not, cond, ◌==◌, ◌&&◌, List, [], codes}
use Rattle.std.specs.Str.{bytes_eq}
use Rattle.ax_symbols.specs.declared.vocabulary.Word.{Word}
use Rattle.ax_symbols.specs.declared.vocabulary.Word.TheVariants as word
use Rattle.ax_symbols.specs.declared.symbol.Punctuation.{Punctuation}
use Rattle.ax_symbols.specs.declared.symbol.Punctuation.TheVariants as mark
use Rattle.ax_symbols.specs.declared.symbol.Sign.{Sign}
use Rattle.ax_symbols.specs.declared.symbol.Sign.TheVariants as sign

-- how a word is written
unfoldable pub word_text : Word → List ℕ
word_text word.Other = []
word_text word.SourceFilename = codes "source_filename"
word_text word.Target = codes "target"
word_text word.Declare = codes "declare"
word_text word.Attributes = codes "attributes"
word_text word.Define = codes "define"
word_text word.Global = codes "global"
word_text word.Zeroinitializer = codes "zeroinitializer"
word_text word.Align = codes "align"
word_text word.X = codes "x"
word_text word.Void = codes "void"
word_text word.Float = codes "float"
word_text word.Double = codes "double"
word_text word.Ptr = codes "ptr"
word_text word.True = codes "true"
word_text word.False = codes "false"
word_text word.DsoLocal = codes "dso_local"
word_text word.DsoPreemptable = codes "dso_preemptable"
word_text word.Internal = codes "internal"
word_text word.Private = codes "private"
word_text word.Common = codes "common"
word_text word.Hidden = codes "hidden"
word_text word.Protected = codes "protected"
word_text word.LocalUnnamedAddr = codes "local_unnamed_addr"
word_text word.UnnamedAddr = codes "unnamed_addr"
word_text word.Noundef = codes "noundef"
word_text word.Nonnull = codes "nonnull"
word_text word.Zeroext = codes "zeroext"
word_text word.Signext = codes "signext"
word_text word.Returned = codes "returned"
word_text word.Nocapture = codes "nocapture"
word_text word.Immarg = codes "immarg"
word_text word.Nounwind = codes "nounwind"
word_text word.Dereferenceable = codes "dereferenceable"
word_text word.Captures = codes "captures"
word_text word.None = codes "none"
word_text word.Nsw = codes "nsw"
word_text word.Nuw = codes "nuw"
word_text word.Exact = codes "exact"
word_text word.Disjoint = codes "disjoint"
word_text word.Samesign = codes "samesign"
word_text word.Nneg = codes "nneg"
word_text word.Inbounds = codes "inbounds"
word_text word.Volatile = codes "volatile"
word_text word.Weak = codes "weak"
word_text word.Tail = codes "tail"
word_text word.Add = codes "add"
word_text word.Sub = codes "sub"
word_text word.Mul = codes "mul"
word_text word.And = codes "and"
word_text word.Or = codes "or"
word_text word.Xor = codes "xor"
word_text word.Shl = codes "shl"
word_text word.Lshr = codes "lshr"
word_text word.Ashr = codes "ashr"
word_text word.Icmp = codes "icmp"
word_text word.Select = codes "select"
word_text word.Zext = codes "zext"
word_text word.Sext = codes "sext"
word_text word.Trunc = codes "trunc"
word_text word.Phi = codes "phi"
word_text word.Br = codes "br"
word_text word.Ret = codes "ret"
word_text word.Unreachable = codes "unreachable"
word_text word.Alloca = codes "alloca"
word_text word.Getelementptr = codes "getelementptr"
word_text word.Load = codes "load"
word_text word.Store = codes "store"
word_text word.Cmpxchg = codes "cmpxchg"
word_text word.Atomicrmw = codes "atomicrmw"
word_text word.Fence = codes "fence"
word_text word.Extractvalue = codes "extractvalue"
word_text word.Call = codes "call"
word_text word.Eq = codes "eq"
word_text word.Ne = codes "ne"
word_text word.Ugt = codes "ugt"
word_text word.Uge = codes "uge"
word_text word.Ult = codes "ult"
word_text word.Ule = codes "ule"
word_text word.Sgt = codes "sgt"
word_text word.Sge = codes "sge"
word_text word.Slt = codes "slt"
word_text word.Sle = codes "sle"
word_text word.Xchg = codes "xchg"
word_text word.Nand = codes "nand"
word_text word.Max = codes "max"
word_text word.Min = codes "min"
word_text word.UMax = codes "umax"
word_text word.UMin = codes "umin"
word_text word.To = codes "to"
word_text word.Label = codes "label"
word_text word.Atomic = codes "atomic"
word_text word.Syncscope = codes "syncscope"
word_text word.Unordered = codes "unordered"
word_text word.Monotonic = codes "monotonic"
word_text word.Acquire = codes "acquire"
word_text word.Release = codes "release"
word_text word.AcqRel = codes "acq_rel"
word_text word.SeqCst = codes "seq_cst"

-- its byte
abbrev pub mark_byte : Punctuation → ℕ
mark_byte mark.Equals = 61
mark_byte mark.Comma = 44
mark_byte mark.Open = 40
mark_byte mark.Close = 41
mark_byte mark.OpenBrace = 123
mark_byte mark.CloseBrace = 125
mark_byte mark.OpenBracket = 91
mark_byte mark.CloseBracket = 93
mark_byte mark.Less = 60
mark_byte mark.Greater = 62
mark_byte mark.Colon = 58
mark_byte mark.Bang = 33
mark_byte mark.Star = 42
mark_byte mark.Bar = 124

unfoldable pub same_word : Word → Word → Bool
same_word a b = bytes_eq (word_text a) (word_text b)

unfoldable pub same_mark : Punctuation → Punctuation → Bool
same_mark a b = mark_byte a == mark_byte b

abbrev pub same_bool : Bool → Bool → Bool
same_bool a b = cond a b (not b)

abbrev pub same_sign : Sign → Sign → Bool
same_sign (sign.Word a) (sign.Word b) = same_word a b
same_sign (sign.Int m) (sign.Int n) = m == n
same_sign sign.Local sign.Local = true
same_sign sign.Global sign.Global = true
same_sign sign.Intrinsic sign.Intrinsic = true
same_sign sign.Lifetime sign.Lifetime = true
same_sign sign.Meta sign.Meta = true
same_sign sign.Group sign.Group = true
same_sign (sign.Number a m) (sign.Number b n) = same_bool a b && m == n
same_sign sign.Odd sign.Odd = true
same_sign sign.SingleThread sign.SingleThread = true
same_sign sign.Text sign.Text = true
same_sign (sign.Mark a) (sign.Mark b) = same_mark a b
same_sign sign.Feed sign.Feed = true
same_sign _ _ = false
