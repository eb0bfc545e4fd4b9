-- Each operation has a row.
use Rattle.std.proofs.Common.{IsTrue, refl, true, false}
use Rattle.ax_target.specs.declared.target.Target.{Target}
use Rattle.ax_target.specs.declared.target.Target.TheVariants.{X86, Arm, Rv}
use Rattle.ax_target.specs.Rows.{has_rows}

pub each_has_rows : (t : Target) → IsTrue (has_rows t)
each_has_rows (X86 false) = refl
each_has_rows (X86 true) = refl
each_has_rows (Arm false) = refl
each_has_rows (Arm true) = refl
each_has_rows (Rv zabha zacas) = refl
