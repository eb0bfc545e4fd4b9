-- What a line touches: its processor alone, or what all share.
use Rattle.std.specs.Prelude.{◌≡◌, ◌⊎◌, ℕ, Bool, true, false, List, [], ◌∷◌}
use Rattle.ax_isa.specs.Tells.{Given}
use Rattle.ax_mid.specs.declared.instruction.MidInst.{MidInst}
use Rattle.ax_mid.specs.declared.instruction.MidInst.TheVariants as mid
use Rattle.ax_mid.specs.Machine.{read_all}
use Rattle.ax_mid.specs.Processor.{MidProcessor}
use Rattle.ax_mid.specs.Spots.{is_own}
use Rattle.ax_expand.specs.Doing.{Doing}
use Rattle.ax_fine.specs.Fine.{Program, asks_by, chosen_by, did_atomic}

-- the sizes of loads and stores
abbrev pub IsSize : ℕ → Type 0
IsSize n = (n ≡ 1) ⊎ (n ≡ 2) ⊎ (n ≡ 4) ⊎ (n ≡ 8)

-- an instruction that its processor alone sees, whatever its registers hold
abbrev pub is_private : {R : Type 0} → MidInst R → Bool
is_private (mid.Load to address n) = false
is_private (mid.Store address from n) = false
is_private (mid.Atomic o width order weak address args results) = false
is_private (mid.Out from) = false
is_private mid.Trap = false
is_private mid.Ret = false
is_private _ = true

-- an operation on what all share, and its registers
pub record Sharing (R W : Type 0) : Type 1 where
  pub doing : Doing W
  pub address : R
  pub args : List R
  pub results : List R

module _ {R W : Type 0} (m : Program R W) where
  -- so it is of processor p with these numbers in registers: that of a load or store in the frame
  abbrev pub is_private_at : ℕ → MidInst R → (ℕ → ℕ) → Bool
  is_private_at p (mid.Load to address n) regs = is_own (m.base p) (regs (m.key address)) n
  is_private_at p (mid.Store address from n) regs = is_own (m.base p) (regs (m.key address)) n
  is_private_at p i regs = is_private i

  -- a plain load, and a plain store
  abbrev pub load_of : R → R → ℕ → Sharing R W
  load_of to address n = record { doing = m.load n; address = address; args = []; results = to ∷ [] }

  abbrev pub store_of : R → R → ℕ → Sharing R W
  store_of address from n = record { doing = m.store n; address = address; args = from ∷ []; results = [] }

  -- the numbers that an operation takes
  abbrev pub taken_by : Sharing R W → MidProcessor → List ℕ
  taken_by z s = read_all m.key z.args s.regs

  -- where others see an instruction, it is this operation
  pub record IsShared (i : MidInst R) (z : Sharing R W) : Type 0 where
    pub does :
        (g : Given) (quiet : Bool) (p : ℕ) (s : MidProcessor) (w : W) → is_private_at p i s.regs ≡ false
        → chosen_by m g quiet p i s w ≡ did_atomic m quiet g z.results s (z.doing.happens g p (s.regs (m.key z.address)) (taken_by z s) s.seen w)
    pub asks : (p : ℕ) (s : MidProcessor) (w : W) → is_private_at p i s.regs ≡ false → asks_by m p i s w → z.doing.fits (s.regs (m.key z.address)) (taken_by z s) w
