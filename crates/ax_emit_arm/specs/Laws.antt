-- WHAT HOLDS OF AARCH64 CODE OF MIDDLE CODE.
use Rattle.std.specs.Prelude.{◌≡◌, ℕ, ◌+◌, ◌<◌, ◌≤◌, ◌^◌, Bool, true, false, ◌&&◌, ◌||◌, nat_le, nat_lt, List, [], ◌∷◌, length, Some, slice_get}
use Rattle.ax_words.specs.declared.mark.Op.{Op}
use Rattle.ax_words.specs.declared.order.Order.{Order}
use Rattle.ax_words.specs.declared.width.Width.{Width}
use Rattle.ax_store.specs.declared.entry.Entry.{Entry}
use Rattle.ax_isa.specs.Tells.{Library}
use Rattle.ax_follow.specs.Contract.{Follows}
use Rattle.ax_mid.specs.declared.code.Line.{Line}
use Rattle.ax_mid.specs.declared.instruction.MidInst.{MidInst}
use Rattle.ax_mid.specs.declared.instruction.MidInst.TheVariants as mid
use Rattle.ax_arm.specs.declared.instructions.ArmInstr.{ArmInstr}
use Rattle.ax_arm.specs.Instructions.{arm_kind}
use Rattle.ax_expand.specs.Doing.{Doing, on_registers}
use Rattle.ax_expand.specs.Expands.{Expands}
use Rattle.ax_expand.specs.Standing.{setting_by}
use Rattle.ax_expand.specs.World.{Lawful, Words}
use Rattle.ax_emit.specs.Atomics.{Counted, firsts}
use Rattle.ax_fine.specs.Fine.{Program, Sound, fine}
use Rattle.ax_emit.specs.Images.{code_in, image_of, places_of, reading_in, tags_in}
use Rattle.ax_emit.specs.Lines.{LineCode, access_code}
use Rattle.ax_emit.specs.Touches.{IsSize}
use Rattle.ax_emit_arm.specs.Code.{Expansion, address_register, code_of, first_argument, first_result, homes_from, load_in, size_of, store_in}

-- an expansion leaves the stack pointer and the link register as they are, and gives its results; until its event it keeps its address and what it takes
abbrev pub is_kept : ℕ → Bool
is_kept t = nat_le 30 t || (nat_le 1 t && nat_lt t 9)

-- one access keeps all registers but that of its result
abbrev pub every : ℕ → Bool
every t = true

-- so many idle steps in a row at most stand in the code of a line that has no atomic operation
abbrev pub few_steps : ℕ
few_steps = 16

module _ {R W : Type 0} (m : Program R W) where
  -- frames lie below register 31, and register 30, to which `ret` goes, is 0
  pub record ArmBased : Type 0 where
    pub sound : Sound m
    pub laws : Lawful m.world
    pub stack : m.fixed 31 ≡ true
    pub home : (p : ℕ) → m.home p 31 ≡ m.top p
    pub link : m.fixed 30 ≡ true
    pub link_home : (p : ℕ) → m.home p 30 ≡ 0
    pub free : (q : ℕ) → q < 30 → m.fixed q ≡ false

  abbrev pub Low : R → Type 0
  Low r = m.key r < m.count

  abbrev pub AllLow : List R → Type 0
  AllLow [] = Unit {0}
  AllLow (r ∷ rs) = Low r × AllLow rs

  -- one access meets its contract on the registers that it is given
  pub record Accessed (doing : Doing W) (acts : ArmInstr) (args results : List ℕ) : Type 0 where
    pub counted : Counted doing (length results)
    pub expands : Expands arm_kind m.world 0 every 1 (access_code acts []) (on_registers doing address_register args results)

  module _ (expansions : Op → Width → Order → Bool → Expansion) (most : ℕ) where
    -- an expansion meets its contract, on the registers that it is given
    pub record Expanded (o : Op) (width : Width) (order : Order) (weak : Bool) (args results : List R) : Type 0 where
      pub counted : Counted (m.atomic o width order weak) (length results)
      pub expands :
          (let e = expansions o width order weak in
          Expands arm_kind m.world e.most is_kept e.size e.piece (on_registers (m.atomic o width order weak) address_register (firsts (homes_from m.key first_argument args)) (firsts (homes_from m.key first_result results))))
      pub few_args : length args ≤ 4
      pub few_results : length results ≤ 3
      -- at most 24 steps bring what it takes and keep what it gives
      pub few : (expansions o width order weak).most + 24 ≤ most

    -- an instruction whose registers have slots, and whose numbers are in their ranges
    abbrev pub IsReady : MidInst R → Type 0
    IsReady (mid.Const to n) = Low to
    IsReady (mid.Copy to from) = Low to × Low from
    IsReady (mid.Apply o to left right) = Low to × Low left × Low right
    IsReady (mid.Shift o to from by) = Low to × Low from × (by < 64)
    IsReady (mid.Extend to from bits signed) = Low to × Low from × (1 ≤ bits) × (bits ≤ 64)
    IsReady (mid.Select to test x y) = Low to × Low test × Low x × Low y
    IsReady (mid.Label n) = Unit {0}
    IsReady (mid.Jump n) = Unit {0}
    IsReady (mid.Branch test a b) = Low test
    IsReady (mid.FrameAddress to offset) = Low to × (offset < m.depth)
    IsReady (mid.Load to address n) = Low to × Low address × IsSize n × Accessed (m.load n) (load_in n) [] (0 ∷ [])
    IsReady (mid.Store address from n) = Low address × Low from × IsSize n × Accessed (m.store n) (store_in n) (0 ∷ []) []
    IsReady (mid.Atomic o width order weak address args results) = Low address × AllLow args × AllLow results × Expanded o width order weak args results
    -- calls of routines have no code yet
    IsReady (mid.Call routine role args results) = ⊥
    IsReady (mid.Out from) = Low from
    IsReady mid.Trap = Unit {0}
    IsReady mid.Ret = Unit {0}
    IsReady mid.Nop = Unit {0}

  -- EACH LINE'S CODE HAS ITS CONTRACT
  abbrev pub ArmLineFollows : Type 0
  ArmLineFollows =
      ArmBased → (expansions : Op → Width → Order → Bool → Expansion) (most : ℕ) → few_steps ≤ most → (line : Line R) → IsReady expansions most line.inst
      → LineCode arm_kind m most (size_of m expansions line) (λ places start. code_of m expansions places start line) line

  -- AND SO THE IMAGE FOLLOWS the fine middle machine
  abbrev pub ArmCodeFollows : Type 0
  ArmCodeFollows =
      ArmBased → (expansions : Op → Width → Order → Bool → Expansion) (most : ℕ) → few_steps ≤ most → ((j : ℕ) (line : Line R) → slice_get m.code.lines j ≡ Some line → IsReady expansions most line.inst)
      → (lib : Library) → Words lib → (counts public : Entry → Bool) → (let image = image_of (size_of m expansions) (code_of m expansions) m.code.lines in
      length image + 1 < 2 ^ 32 → Follows (fine m (places_of (size_of m expansions) (code_of m expansions) m.code.lines)) (reading_in image counts public most) (setting_by arm_kind (code_in image) (tags_in image) lib))
