use Rattle.ax_idle_rv.proofs.Bounded.{images_never_idle}
use Rattle.ax_idle_rv.proofs.laws.direct_images_never_idle.Goals as goal

pub returns : goal.returns
returns c = images_never_idle (record { small = c.selected_lines_are_small.ensures; heads = c.accepted_functions_are_within_limits.ensures.heads })
