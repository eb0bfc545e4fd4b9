use Rattle.ax_selected.proofs.Whole.{goes_on_always, runs_in_step, stands_at_sites}
use Rattle.ax_selected.proofs.laws.selected_code_runs_in_step.Goals as goal

pub returns-clause-step : goal.returns-clause-step
returns-clause-step c =
    runs_in_step (record {
      sound = c.accepted_instructions_are_sound.ensures;
      fit = c.results_fit.ensures;
      widths = c.accepted_passes_tests.ensures.width;
      heads = c.accepted_functions_are_within_limits.ensures.heads;
      laid_out = c.accepted_can_be_laid_out.ensures;
      those = c.objects_are_apart.ensures.globals;
      lie = c.objects_are_apart.ensures.lie;
      apart = c.objects_are_apart.ensures.apart;
      typed = c.numbers_are_typed.ensures.run;
      walks = c.processors_stand_on_walks.ensures.run;
    })

pub returns-clause-sites : goal.returns-clause-sites
returns-clause-sites c =
    stands_at_sites (record {
      sound = c.accepted_instructions_are_sound.ensures;
      fit = c.results_fit.ensures;
      widths = c.accepted_passes_tests.ensures.width;
      heads = c.accepted_functions_are_within_limits.ensures.heads;
      laid_out = c.accepted_can_be_laid_out.ensures;
      those = c.objects_are_apart.ensures.globals;
      lie = c.objects_are_apart.ensures.lie;
      apart = c.objects_are_apart.ensures.apart;
      typed = c.numbers_are_typed.ensures.run;
      walks = c.processors_stand_on_walks.ensures.run;
    })

pub returns-clause-goes_on : goal.returns-clause-goes_on
returns-clause-goes_on c =
    goes_on_always (record {
      sound = c.accepted_instructions_are_sound.ensures;
      fit = c.results_fit.ensures;
      widths = c.accepted_passes_tests.ensures.width;
      heads = c.accepted_functions_are_within_limits.ensures.heads;
      laid_out = c.accepted_can_be_laid_out.ensures;
      those = c.objects_are_apart.ensures.globals;
      lie = c.objects_are_apart.ensures.lie;
      apart = c.objects_are_apart.ensures.apart;
      typed = c.numbers_are_typed.ensures.run;
      walks = c.processors_stand_on_walks.ensures.run;
    })
