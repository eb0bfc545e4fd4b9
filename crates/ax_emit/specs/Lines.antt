-- THE CONTRACT OF A LINE'S CODE, over whatever stands round it.
use Rattle.std.specs.Prelude.{◌≡◌, ℕ, suc, ◌+◌, ◌<◌, ◌≤◌, ◌^◌, true, false, List, [], ◌∷◌, ◌++◌, length, Some, slice_get}
use Rattle.ax_tags.specs.declared.tags.Tag.{Tag}
use Rattle.ax_tags.specs.declared.tags.Tag.TheVariants.{Silent, Act}
use Rattle.ax_isa.specs.Run.{Setting}
use Rattle.ax_isa.specs.Steps.{Kind}
use Rattle.ax_isa.specs.Tells.{Library}
use Rattle.ax_follow.specs.Contract.{Reading}
use Rattle.ax_mid.specs.declared.code.Line.{Line}
use Rattle.ax_mid.specs.Machine.{behind_label}
use Rattle.ax_expand.specs.Expands.{reading_of, Begun}
use Rattle.ax_expand.specs.Standing.{HasAt, setting_by, silently}
use Rattle.ax_expand.specs.World.{Words}
use Rattle.ax_fine.specs.Fine.{Program, is_label, is_quiet, settle, fine}

-- where the lines' code begins, and line `own` has so many instructions
pub record Laid {R W : Type 0} (m : Program R W) (places : ℕ → ℕ) (own size : ℕ) : Type 0 where
  pub next : places (own + 1) ≡ places own + size
  pub settles : (j : ℕ) → places (settle m.code.lines j) ≡ places j
  -- where a processor has ended is no place
  pub ended : places (suc (length m.code.lines)) ≡ 0
  pub low : (j : ℕ) → places j < 2 ^ 32

-- line `own` has its code at its place
pub record StandsAt {I R W : Type 0} (x : Setting I) (v : Reading) (m : Program R W) (places : ℕ → ℕ) (own size : ℕ) (is : List (I × Tag)) (line : Line R) : Type 0 where
  pub words : Words x.library
  pub at : slice_get m.code.lines own ≡ Some line
  pub has : HasAt x (reading_of v) (is_quiet line.tag) own (places own) is
  pub laid : Laid m places own size

-- `piece places start` is the code from that place on, with its jumps to lines at their places; it idles at most `most` steps in a row
pub record LineCode {I R W : Type 0} (k : Kind I) (m : Program R W) (most size : ℕ) (piece : (ℕ → ℕ) → ℕ → List (I × Tag)) (line : Line R) : Type 0 where
  pub length_is : (places : ℕ → ℕ) (start : ℕ) → length (piece places start) ≡ size
  pub label : is_label line.inst ≡ true → size ≡ 0
  pub follows :
      (code : List I) (tags : ℕ → Tag) (lib : Library) (v : Reading) (places : ℕ → ℕ) (own : ℕ) → is_label line.inst ≡ false → most ≤ v.most
      → StandsAt (setting_by k code tags lib) v m places own size (piece places (places own)) line → Begun (setting_by k code tags lib) (fine m places) (reading_of v) own

-- a branch: a silent jump over a jump, to `low` where the test is 0, and to `high`
abbrev pub branch_code : {I : Type 0} → List I → I → (ℕ → ℕ → I) → ℕ → ℕ → ℕ → List (I × Tag)
branch_code is turn jumps high low start = silently is ++ (turn, Silent) ∷ (jumps (start + length is + 1) low, Act) ∷ (jumps (start + length is + 2) high, Act) ∷ []

-- the place of the line behind a label
abbrev pub place_behind : {R W : Type 0} → Program R W → (ℕ → ℕ) → ℕ → ℕ
place_behind m places label = places (behind_label m.key m.code.lines label 0)

-- one instruction that has the event, and silent code
abbrev pub access_code : {I : Type 0} → I → List I → ℕ → List (I × Tag)
access_code acts clears start = (acts, Act) ∷ silently clears

-- silent code, an instruction that has the event, and silent code
abbrev pub performed_code : {I : Type 0} → List I → I → List I → List (I × Tag)
performed_code before acts after = silently before ++ (acts, Act) ∷ silently after

-- silent code, and an instruction that has the event, which may depend on its place
abbrev pub ended_code : {I : Type 0} → List I → ((ℕ → ℕ) → ℕ → I) → (ℕ → ℕ) → ℕ → List (I × Tag)
ended_code is acts places start = silently is ++ (acts places start, Act) ∷ []
