use Rattle.ax_direct_x86.proofs.Expanding.{module_expanded}
use Rattle.ax_direct_x86.proofs.laws.direct_x86_modules_are_expanded.Goals as goal

pub returns : goal.returns
returns c =
    λ program.
    module_expanded program (record {
      direct = c.x86_code_is_expanded.ensures program;
      plain = c.plain_accesses_are_expanded.ensures program;
      small = c.selected_lines_are_small.ensures;
      sites = c.selected_operations_are_at_sites.ensures;
    })
