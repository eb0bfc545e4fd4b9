-- The names of the routines of a size.
use Rattle.std.proofs.Common.{◌≡◌, refl, map}
use Rattle.ax_words.specs.declared.width.Width.{Width}
use Rattle.ax_words.specs.declared.width.Width.TheVariants.{W8, W16, W32, W64, W128}
use Rattle.ax_words.specs.Routine.{name_of}
use Rattle.ax_target.specs.Calls.{listed, routines_of, sized_names}

pub name_of-routines_of : (width : Width) → map name_of (listed (routines_of width)) ≡ sized_names width
unfolding name_of
name_of-routines_of W8 = refl
name_of-routines_of W16 = refl
name_of-routines_of W32 = refl
name_of-routines_of W64 = refl
name_of-routines_of W128 = refl
