-- The rows of AArch64, without and with LSE (Arm Architecture Reference Manual, "Load-Acquire, Store-Release", "Large System Extensions").
use Rattle.std.specs.Prelude.{if◌then◌else◌, List, [], ◌∷◌, Option, Some, None, option_map, option_to_list}
use Rattle.ax_words.specs.declared.order.Order.{Order}
use Rattle.ax_words.specs.declared.order.Order.TheVariants.{Acquire, Release, AcqRel, SeqCst}
use Rattle.ax_words.specs.declared.operation.RmwOp.{RmwOp}
use Rattle.ax_words.specs.declared.operation.RmwOp.TheVariants.{Xchg, Add, Sub, And, Nand, Or, Xor, Max, Min, UMax, UMin}
use Rattle.ax_words.specs.declared.width.Width.{Width}
use Rattle.ax_words.specs.declared.width.Width.TheVariants.{W128}
use Rattle.ax_words.specs.declared.mark.Op.{Op}
use Rattle.ax_words.specs.declared.mark.Op.TheVariants.{Load, Store, Cmpxchg, Rmw, Fence}
use Rattle.ax_words.specs.declared.mark.Mark.{Mark}
use Rattle.ax_words.specs.declared.mark.Mark.TheVariants.{Memory, Fence as Fencing}
use Rattle.ax_words.specs.declared.mark.MarkCode.{MarkCode}
use Rattle.ax_words.specs.declared.mark.MarkCode.TheVariants.{Ldr, Ldar, Str, Stlr, Ldxr, Ldaxr, Stxr, Stlxr, Ldxp, Ldaxp, Stxp, Stlxp, Swp, Swpa, Swpl, Swpal, Ldadd, Ldadda, Ldaddl, Ldaddal, Ldclr, Ldclra, Ldclrl, Ldclral, Ldset, Ldseta, Ldsetl, Ldsetal, Ldeor, Ldeora, Ldeorl, Ldeoral, Ldsmax, Ldsmaxa, Ldsmaxl, Ldsmaxal, Ldsmin, Ldsmina, Ldsminl, Ldsminal, Ldumax, Ldumaxa, Ldumaxl, Ldumaxal, Ldumin, Ldumina, Lduminl, Lduminal, Cas, Casa, Casl, Casal, Casp, Caspa, Caspl, Caspal}
use Rattle.ax_words.specs.declared.mark.FenceCode.TheVariants.{DmbIshld, DmbIsh}
use Rattle.ax_words.specs.Width.{bytes_of}
use Rattle.ax_target.specs.declared.endings.Codes.{Codes}
use Rattle.ax_target.specs.Endings.{acquires, releases, endings, with_ending}

abbrev pub arm_fence : Order → List Mark
arm_fence Acquire = Fencing DmbIshld ∷ []
arm_fence Release = Fencing DmbIsh ∷ []
arm_fence AcqRel = Fencing DmbIsh ∷ []
arm_fence SeqCst = Fencing DmbIsh ∷ []
arm_fence _ = []

-- loads, stores and fences, of both targets
abbrev pub arm_inline : Op → Order → Width → List Mark
arm_inline Load order width = Memory (if acquires order then Ldar else Ldr) (bytes_of width) ∷ []
arm_inline Store order width = Memory (if releases order then Stlr else Str) (bytes_of width) ∷ []
arm_inline Fence order width = arm_fence order
arm_inline _ order width = []

abbrev pub linked_load : Order → Width → Mark
linked_load order W128 = Memory (if acquires order then Ldaxp else Ldxp) 16
linked_load order width = Memory (if acquires order then Ldaxr else Ldxr) (bytes_of width)

abbrev pub pair_store : Order → Width → Mark
pair_store order W128 = Memory (if releases order then Stlxp else Stxp) 16
pair_store order width = Memory (if releases order then Stlxr else Stxr) (bytes_of width)

-- a compare-exchange of 16 bytes has two pair stores: of the new value, and of the loaded value
abbrev pub arm_pair : Op → Order → Width → List Mark
arm_pair Cmpxchg order W128 = linked_load order W128 ∷ pair_store order W128 ∷ pair_store order W128 ∷ []
arm_pair op order width = linked_load order width ∷ pair_store order width ∷ []

-- nand has no instruction
abbrev pub lse_codes : RmwOp → Option Codes
lse_codes Xchg = Some (endings Swp Swpa Swpl Swpal)
lse_codes Add = Some (endings Ldadd Ldadda Ldaddl Ldaddal)
lse_codes Sub = Some (endings Ldadd Ldadda Ldaddl Ldaddal)
lse_codes And = Some (endings Ldclr Ldclra Ldclrl Ldclral)
lse_codes Or = Some (endings Ldset Ldseta Ldsetl Ldsetal)
lse_codes Xor = Some (endings Ldeor Ldeora Ldeorl Ldeoral)
lse_codes Max = Some (endings Ldsmax Ldsmaxa Ldsmaxl Ldsmaxal)
lse_codes Min = Some (endings Ldsmin Ldsmina Ldsminl Ldsminal)
lse_codes UMax = Some (endings Ldumax Ldumaxa Ldumaxl Ldumaxal)
lse_codes UMin = Some (endings Ldumin Ldumina Lduminl Lduminal)
lse_codes Nand = None

abbrev pub cas : Order → MarkCode
cas order = with_ending order (endings Cas Casa Casl Casal)

abbrev pub casp : Order → MarkCode
casp order = with_ending order (endings Casp Caspa Caspl Caspal)

-- up to 8 bytes
abbrev pub lse_small : Op → Order → Width → List Mark
lse_small Cmpxchg order width = Memory (cas order) (bytes_of width) ∷ []
lse_small (Rmw op) order width = option_to_list (option_map (λ codes. Memory (with_ending order codes) (bytes_of width)) (lse_codes op))
lse_small op order width = arm_inline op order width

abbrev pub lse_inline : Op → Order → Width → List Mark
lse_inline Fence order width = arm_fence order
lse_inline Load order W128 = Memory (casp order) 16 ∷ []
lse_inline Cmpxchg order W128 = Memory (casp order) 16 ∷ []
lse_inline _ order W128 = []
lse_inline op order width = lse_small op order width

-- the first of 16 bytes compares with zero and stores zero, and so loads
abbrev pub lse_loop : Order → Width → List Mark
lse_loop order W128 = Memory Casp 16 ∷ Memory (casp order) 16 ∷ []
lse_loop order width = Memory Ldr (bytes_of width) ∷ Memory (cas order) (bytes_of width) ∷ []
