-- WHAT HOLDS OF THE CODE OF ATOMIC OPERATIONS ON RV64.
use Rattle.std.specs.Prelude.{◌≡◌, ℕ, ◌≤◌, Bool, true, List, [], ◌∷◌, length, map}
use Rattle.ax_words.specs.declared.mark.Op.{Op}
use Rattle.ax_words.specs.declared.order.Order.{Order}
use Rattle.ax_words.specs.declared.width.Width.{Width}
use Rattle.ax_words.specs.Orders.{is_legal}
use Rattle.ax_words.specs.Width.{bytes_of}
use Rattle.ax_target.specs.declared.target.Target.{Target}
use Rattle.ax_target.specs.declared.target.Target.TheVariants.{Rv}
use Rattle.ax_target.specs.Decisions.{decided}
use Rattle.ax_target.specs.Rows.{access_of, row_of}
use Rattle.ax_rv.specs.Instructions.{is_frame_register, rv_kind}
use Rattle.ax_rv.specs.Skeleton.{skeleton}
use Rattle.ax_fine.specs.OnBytes.{atomic_doing, load_doing, store_doing}
use Rattle.ax_mid.specs.WellFormed.{words_given, words_taken}
use Rattle.ax_expand.specs.Bytes.{bytes_world}
use Rattle.ax_expand.specs.Doing.{on_registers}
use Rattle.ax_expand.specs.Expands.{Expands}
use Rattle.ax_expand.specs.Shared.{Shared}
use Rattle.ax_emit.specs.Atomics.{Counted}
use Rattle.ax_emit.specs.Touches.{IsSize}
use Rattle.ax_fine.specs.Fine.{Program}
use Rattle.ax_emit_rv.specs.Code.{Expansion, cleared, load_in, store_in}
use Rattle.ax_emit_rv.specs.Emitters.{AreSteady}
use Rattle.ax_emit_rv.specs.Laws.{Accessed, Expanded}
use Rattle.ax_llsc.specs.Codes.{Atomic, Coded, IsCoded, args_of, doing_of, expansion_of, registers_for, results_of}

-- EACH CODE IS AN EXPANSION of its operation on the bytes that all processors share, and idles at most 24 steps in a row
abbrev pub DirectCodeExpands : Type 0
DirectCodeExpands =
    (zabha zacas : Bool) (x : Coded) → IsCoded (Rv zabha zacas) x
    → (let e = expansion_of (Rv zabha zacas) x in Expands rv_kind bytes_world e.most (registers_for x).keeps e.size e.piece (on_registers (doing_of (Rv zabha zacas) x) (registers_for x).address (args_of x) (results_of x)) × (e.most ≤ 24))

-- its operation has as many results as registers for them
abbrev pub DirectOperationIsCounted : Type 0
DirectOperationIsCounted = (zabha zacas : Bool) (x : Coded) → IsCoded (Rv zabha zacas) x → Counted (doing_of (Rv zabha zacas) x) (length (results_of x))

-- ITS SKELETON IS THE ROW of the mapping table, in each order that the operation may have
abbrev pub DirectCodeHasRow : Type 0
DirectCodeHasRow =
    (zabha zacas : Bool) (o : Op) (width : Width) (order : Order) (weak : Bool) (start : ℕ) → IsCoded (Rv zabha zacas) (Atomic o width order weak) → is_legal (access_of o) order ≡ true
    → skeleton is_frame_register (map (λ i. i.0) ((expansion_of (Rv zabha zacas) (Atomic o width order weak)).piece start)) ≡ row_of (Rv zabha zacas) o order width (decided (Rv zabha zacas) o width (bytes_of width))

-- a program over the bytes that all processors share
abbrev pub over_bytes : {R : Type 0} → Bool → Bool → Program R Shared → Program R Shared
over_bytes zabha zacas m = record m { world = bytes_world; atomic = atomic_doing (Rv zabha zacas); load = load_doing (Rv zabha zacas); store = store_doing (Rv zabha zacas) }

-- EMISSION CAN TAKE IT: each code is what emission asks of an atomic operation's, in a line with as many registers as the operation takes and gives
abbrev pub DirectCodeIsExpanded : {R : Type 0} → Program R Shared → Type 0
DirectCodeIsExpanded {R = R} m =
    (zabha zacas : Bool) (expansions : Op → Width → Order → Bool → Expansion) (most : ℕ) (o : Op) (width : Width) (order : Order) (weak : Bool) (args results : List R) → IsCoded (Rv zabha zacas) (Atomic o width order weak)
    → expansions o width order weak ≡ expansion_of (Rv zabha zacas) (Atomic o width order weak) → length args ≡ words_taken o width → length results ≡ words_given o width → 48 ≤ most → Expanded (over_bytes zabha zacas m) expansions most o width order weak args results

-- AND ITS OWN INSTRUCTIONS for plain loads and stores of 1, 2, 4 and 8 bytes meet their contracts
abbrev pub PlainAccessesAreExpanded : {R : Type 0} → Program R Shared → Type 0
PlainAccessesAreExpanded m =
    (zabha zacas : Bool) (n : ℕ) → IsSize n
    → (let shared = over_bytes zabha zacas m in Accessed shared (shared.load n) (load_in n) (cleared n) [] (7 ∷ []) × Accessed shared (shared.store n) (store_in n) [] (6 ∷ []) [])

-- EACH CODE HAS ONE LENGTH, wherever it stands
abbrev pub DirectCodeIsSteady : Type 0
DirectCodeIsSteady = (target : Target) → AreSteady (λ o width order weak. expansion_of target (Atomic o width order weak))
