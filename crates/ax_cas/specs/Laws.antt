-- WHAT HOLDS OF THE CODE OF ATOMIC OPERATIONS ON X86-64.
use Rattle.std.specs.Prelude.{◌≡◌, ℕ, ◌+◌, ◌≤◌, Bool, true, List, [], ◌∷◌, length, map}
use Rattle.ax_words.specs.declared.mark.Op.{Op}
use Rattle.ax_words.specs.declared.order.Order.{Order}
use Rattle.ax_words.specs.declared.width.Width.{Width}
use Rattle.ax_words.specs.Orders.{is_legal}
use Rattle.ax_words.specs.Width.{bytes_of}
use Rattle.ax_target.specs.declared.target.Target.TheVariants.{X86}
use Rattle.ax_target.specs.Decisions.{decided}
use Rattle.ax_target.specs.Rows.{access_of, row_of}
use Rattle.ax_mid.specs.WellFormed.{words_given, words_taken}
use Rattle.ax_x86.specs.Instructions.{x86_kind}
use Rattle.ax_x86.specs.Skeleton.{skeleton}
use Rattle.ax_expand.specs.Bytes.{bytes_world}
use Rattle.ax_expand.specs.Expands.{Expands}
use Rattle.ax_expand.specs.Shared.{Shared}
use Rattle.ax_emit.specs.Atomics.{Counted}
use Rattle.ax_emit.specs.Touches.{IsSize}
use Rattle.ax_fine.specs.Fine.{Program}
use Rattle.ax_fine.specs.OnBytes.{load_doing, store_doing}
use Rattle.ax_emit_x86.specs.Code.{Expansion, load_in, store_in}
use Rattle.ax_emit_x86.specs.Emitters.{AreSteady}
use Rattle.ax_emit_x86.specs.Laws.{Accessed, Expanded}
use Rattle.ax_cas.specs.Codes.{Atomic, Coded, IsCoded, doing_of, expansion_of, keeps_of, operation_of, results_of}

-- EACH CODE IS AN EXPANSION of its operation on the bytes that all processors share, and idles at most 24 steps in a row
abbrev pub X86CodeExpands : Type 0
X86CodeExpands =
    (cx16 : Bool) (x : Coded) → IsCoded cx16 x → (let e = expansion_of x in Expands x86_kind bytes_world e.most (keeps_of x) e.size e.piece (operation_of cx16 x) × (e.most ≤ 24))

-- its operation gives as many results as it has registers for them
abbrev pub X86OperationIsCounted : Type 0
X86OperationIsCounted = (cx16 : Bool) (x : Coded) → IsCoded cx16 x → Counted (doing_of cx16 x) (length (results_of x))

-- ITS SKELETON IS THE ROW of the mapping table, in each order that the operation may have
abbrev pub X86CodeHasRow : Type 0
X86CodeHasRow =
    (cx16 : Bool) (o : Op) (width : Width) (order : Order) (weak : Bool) (start : ℕ) → IsCoded cx16 (Atomic o width order weak) → is_legal (access_of o) order ≡ true
    → skeleton x86_kind.frame (map (λ i. i.0) ((expansion_of (Atomic o width order weak)).piece start)) ≡ row_of (X86 cx16) o order width (decided (X86 cx16) o width (bytes_of width))

-- a program over the bytes that all processors share; an operation on 16 bytes takes numbers of registers
abbrev pub over_bytes : {R : Type 0} → Bool → Program R Shared → Program R Shared
over_bytes cx16 m = record m { world = bytes_world; atomic = λ o width order weak. doing_of cx16 (Atomic o width order weak); load = load_doing (X86 cx16); store = store_doing (X86 cx16) }

-- EMISSION CAN TAKE IT: each code is what emission asks of an atomic operation's, in a line with as many registers as the operation takes and gives
abbrev pub X86CodeIsExpanded : {R : Type 0} → Program R Shared → Type 0
X86CodeIsExpanded {R = R} m =
    (cx16 : Bool) (expansions : Op → Width → Order → Bool → Expansion) (most : ℕ) (o : Op) (width : Width) (order : Order) (weak : Bool) (args results : List R) → IsCoded cx16 (Atomic o width order weak)
    → expansions o width order weak ≡ expansion_of (Atomic o width order weak) → length args ≡ words_taken o width → length results ≡ words_given o width → 32 ≤ most → Expanded (over_bytes cx16 m) expansions most o width order weak args results

-- AND ITS OWN INSTRUCTIONS for plain loads and stores of 1, 2, 4 and 8 bytes meet their contracts
abbrev pub PlainAccessesAreExpanded : {R : Type 0} → Program R Shared → Type 0
PlainAccessesAreExpanded m =
    (cx16 : Bool) (n : ℕ) → IsSize n
    → (let shared = over_bytes cx16 m in Accessed shared (shared.load n) (load_in n) [] (0 ∷ []) × Accessed shared (shared.store n) (store_in n) (0 ∷ []) [])

-- EACH CODE HAS ONE LENGTH, wherever it stands
abbrev pub X86CodeIsSteady : Type 0
X86CodeIsSteady = AreSteady (λ o width order weak. expansion_of (Atomic o width order weak))
