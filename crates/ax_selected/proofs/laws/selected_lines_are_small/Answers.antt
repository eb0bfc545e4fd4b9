use Rattle.ax_selected.proofs.SmallLines.{lines_are_small}
use Rattle.ax_selected.proofs.laws.selected_lines_are_small.Goals as goal

pub returns : goal.returns
returns c =
    lines_are_small (record {
      sound = c.accepted_instructions_are_sound.ensures;
      fit = c.results_fit.ensures;
      widths = c.accepted_passes_tests.ensures.width;
      heads = c.accepted_functions_are_within_limits.ensures.heads;
      laid_out = c.accepted_can_be_laid_out.ensures;
      those = c.objects_are_apart.ensures.globals;
      lie = c.objects_are_apart.ensures.lie;
      apart = c.objects_are_apart.ensures.apart;
      typed = c.numbers_are_typed.ensures.run;
      walks = c.processors_stand_on_walks.ensures.run;
    })
