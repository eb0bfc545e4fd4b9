-- The skeleton of AArch64 code: its memory, fence and call instructions in order, with sizes and marks, without those whose base is one of some registers.
use Rattle.std.specs.Prelude.{ℕ, Bool, List, [], ◌∷◌, flat_map}
use Rattle.ax_words.specs.declared.mark.FenceCode.{FenceCode}
use Rattle.ax_words.specs.declared.mark.FenceCode.TheVariants.{DmbIsh, DmbIshld}
use Rattle.ax_words.specs.declared.mark.Mark.{Mark}
use Rattle.ax_words.specs.declared.mark.Mark.TheVariants as mark
use Rattle.ax_words.specs.declared.mark.MarkCode.{MarkCode}
use Rattle.ax_words.specs.declared.mark.MarkCode.TheVariants as code
use Rattle.ax_isa.specs.Marks.{access_marks}
use Rattle.ax_arm.specs.declared.instructions.ArmInstr.{ArmInstr}
use Rattle.ax_arm.specs.declared.instructions.ArmInstr.TheVariants as arm
use Rattle.ax_arm.specs.declared.instructions.Barrier.{Barrier}
use Rattle.ax_arm.specs.declared.instructions.Barrier.TheVariants as barriers
use Rattle.ax_arm.specs.declared.instructions.Ending.{Ending}
use Rattle.ax_arm.specs.declared.instructions.Ending.TheVariants as endings
use Rattle.ax_arm.specs.declared.instructions.Lse.{Lse}
use Rattle.ax_arm.specs.declared.instructions.Lse.TheVariants as lse
use Rattle.ax_arm.specs.Effects.{bytes_of}

-- the code of an instruction whose name ends in its order
abbrev pub with_ending : Ending → MarkCode → MarkCode → MarkCode → MarkCode → MarkCode
with_ending endings.Plain plain acquire release both = plain
with_ending endings.Acquire plain acquire release both = acquire
with_ending endings.Release plain acquire release both = release
with_ending endings.AcquireRelease plain acquire release both = both

abbrev pub lse_code : Lse → Ending → MarkCode
lse_code lse.Swp ending = with_ending ending code.Swp code.Swpa code.Swpl code.Swpal
lse_code lse.Ldadd ending = with_ending ending code.Ldadd code.Ldadda code.Ldaddl code.Ldaddal
lse_code lse.Ldclr ending = with_ending ending code.Ldclr code.Ldclra code.Ldclrl code.Ldclral
lse_code lse.Ldset ending = with_ending ending code.Ldset code.Ldseta code.Ldsetl code.Ldsetal
lse_code lse.Ldeor ending = with_ending ending code.Ldeor code.Ldeora code.Ldeorl code.Ldeoral
lse_code lse.Ldsmax ending = with_ending ending code.Ldsmax code.Ldsmaxa code.Ldsmaxl code.Ldsmaxal
lse_code lse.Ldsmin ending = with_ending ending code.Ldsmin code.Ldsmina code.Ldsminl code.Ldsminal
lse_code lse.Ldumax ending = with_ending ending code.Ldumax code.Ldumaxa code.Ldumaxl code.Ldumaxal
lse_code lse.Ldumin ending = with_ending ending code.Ldumin code.Ldumina code.Lduminl code.Lduminal

abbrev pub cas_code : Ending → MarkCode
cas_code ending = with_ending ending code.Cas code.Casa code.Casl code.Casal

abbrev pub casp_code : Ending → MarkCode
casp_code ending = with_ending ending code.Casp code.Caspa code.Caspl code.Caspal

abbrev pub fence_code : Barrier → FenceCode
fence_code barriers.Ish = DmbIsh
fence_code barriers.Ishld = DmbIshld

-- `skip`: the registers whose accesses are left out
unfoldable pub mark_of : (ℕ → Bool) → ArmInstr → List Mark
mark_of skip (arm.Ldr size rt rn d) = access_marks skip rn code.Ldr (bytes_of size)
mark_of skip (arm.Ldar size rt rn) = access_marks skip rn code.Ldar (bytes_of size)
mark_of skip (arm.Str size rt rn d) = access_marks skip rn code.Str (bytes_of size)
mark_of skip (arm.Stlr size rt rn) = access_marks skip rn code.Stlr (bytes_of size)
mark_of skip (arm.Ldxr size rt rn) = access_marks skip rn code.Ldxr (bytes_of size)
mark_of skip (arm.Ldaxr size rt rn) = access_marks skip rn code.Ldaxr (bytes_of size)
mark_of skip (arm.Ldxp rt rt2 rn) = access_marks skip rn code.Ldxp 16
mark_of skip (arm.Ldaxp rt rt2 rn) = access_marks skip rn code.Ldaxp 16
mark_of skip (arm.Stxr size rs rt rn) = access_marks skip rn code.Stxr (bytes_of size)
mark_of skip (arm.Stlxr size rs rt rn) = access_marks skip rn code.Stlxr (bytes_of size)
mark_of skip (arm.Stxp rs rt rt2 rn) = access_marks skip rn code.Stxp 16
mark_of skip (arm.Stlxp rs rt rt2 rn) = access_marks skip rn code.Stlxp 16
mark_of skip (arm.Lse op ending size rs rt rn) = access_marks skip rn (lse_code op ending) (bytes_of size)
mark_of skip (arm.Cas ending size rs rt rn) = access_marks skip rn (cas_code ending) (bytes_of size)
mark_of skip (arm.Casp ending rs rt rn) = access_marks skip rn (casp_code ending) 16
mark_of skip (arm.Dmb barrier) = mark.Fence (fence_code barrier) ∷ []
mark_of skip (arm.Bl routine place) = mark.Call routine ∷ []
mark_of skip _ = []

abbrev pub skeleton : (ℕ → Bool) → List ArmInstr → List Mark
skeleton skip instructions = flat_map (mark_of skip) instructions
