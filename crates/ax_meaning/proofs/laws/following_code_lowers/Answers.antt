use Rattle.ax_meaning.proofs.Agreeing.{code_lowers}
use Rattle.ax_meaning.proofs.laws.following_code_lowers.Goals as goal

pub returns : goal.returns
returns g c =
    λ case.
    code_lowers (g.C.FollowingCode.setting case) (g.C.FollowingCode.reading case) (g.C.FollowingCode.program case) (g.C.FollowingCode.frames case) (g.C.FollowingCode.places case) (record {
      runs = c.code_in_step_runs_in_step.ensures case;
      step = c.fine_machine_runs_in_step.ensures.step;
      fits = c.fine_machine_runs_in_step.ensures.fits;
      fit = c.results_fit.ensures;
      in_step = c.selected_code_runs_in_step.ensures.step;
      goes_on = c.selected_code_runs_in_step.ensures.goes_on;
      formed = c.selected_code_is_formed.ensures;
      small = c.selected_lines_are_small.ensures;
      laid = c.accepted_can_be_laid_out.ensures;
      lie = c.objects_are_apart.ensures.lie;
      one_class = c.globals_have_one_class.ensures;
    })
