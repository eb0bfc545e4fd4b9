use Rattle.ax_sound.proofs.Whole.{images_are_sound}
use Rattle.ax_sound.proofs.laws.images_are_sound.Goals as goal

pub returns : goal.returns
returns g c =
    images_are_sound g.I.Isa.kind g.I.Isa.valid (record {
      few = c.accepted_functions_are_within_limits.ensures.few;
      heads = c.accepted_functions_are_within_limits.ensures.heads;
      small = c.selected_lines_are_small.ensures;
      rules = c.selected_code_is_well_formed.ensures.rules;
    })
