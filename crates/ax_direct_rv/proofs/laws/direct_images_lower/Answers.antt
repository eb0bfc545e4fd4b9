use Rattle.std.specs.Prelude.{◌&&◌}
use Rattle.std.proofs.lemmas.Bool.{and_parts}
use Rattle.ax_target.specs.Decisions.{is_rv64}
use Rattle.ax_selected.specs.Direct.{needs_no_routine}
use Rattle.ax_direct_rv.specs.Direct.{direct_expansions, direct_steps, is_direct_module}
use Rattle.ax_direct_rv.proofs.laws.direct_images_lower.Goals as goal

pub returns : goal.returns
returns c =
    λ program built accepted short.
    let parts = and_parts (is_rv64 program.target && needs_no_routine program) (is_direct_module program) built in
    let target = and_parts (is_rv64 program.target) (needs_no_routine program) parts.0 in
    c.rv_images_lower.ensures program (direct_expansions program.target) direct_steps accepted target.1 (c.direct_modules_are_expanded.ensures program target.0 accepted parts.1) short
