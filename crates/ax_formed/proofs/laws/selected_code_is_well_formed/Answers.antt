use Rattle.ax_formed.proofs.Whole.{is_well_formed, keeps_rules}
use Rattle.ax_formed.proofs.laws.selected_code_is_well_formed.Goals as goal

pub returns-clause-rules : goal.returns-clause-rules
returns-clause-rules c =
    keeps_rules (record {
      few = c.accepted_functions_are_within_limits.ensures.few;
      heads = c.accepted_functions_are_within_limits.ensures.heads;
      small = c.selected_lines_are_small.ensures;
      formed = c.selected_code_is_formed.ensures;
    })

pub returns-clause-whole : goal.returns-clause-whole
returns-clause-whole c =
    is_well_formed (record {
      few = c.accepted_functions_are_within_limits.ensures.few;
      heads = c.accepted_functions_are_within_limits.ensures.heads;
      small = c.selected_lines_are_small.ensures;
      formed = c.selected_code_is_formed.ensures;
    })
