use Rattle.std.proofs.lemmas.Bool.{and_parts}
use Rattle.ax_target.specs.Decisions.{is_x86}
use Rattle.ax_selected.specs.Direct.{needs_no_routine}
use Rattle.ax_direct_x86.specs.Direct.{direct_expansions, direct_steps}
use Rattle.ax_direct_x86.proofs.laws.direct_x86_images_lower.Goals as goal

pub returns : goal.returns
returns c =
    λ program built accepted short.
    c.x86_images_lower.ensures program direct_expansions direct_steps accepted (and_parts (is_x86 program.target) (needs_no_routine program) built).1 (c.direct_x86_modules_are_expanded.ensures program built accepted) short
