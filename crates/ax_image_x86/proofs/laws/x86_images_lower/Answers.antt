use Rattle.ax_image_x86.proofs.Lowered.{image_lowers}
use Rattle.ax_image_x86.proofs.laws.x86_images_lower.Goals as goal

pub returns : goal.returns
returns c =
    λ program expansions most.
    image_lowers program expansions most (record {
      follows = c.x86_code_follows.ensures program;
      lowers = c.following_images_lower.ensures (record { program = program; expansions = expansions; most = most });
      small = c.selected_lines_are_small.ensures;
    })
