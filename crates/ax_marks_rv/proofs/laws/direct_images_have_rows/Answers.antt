use Rattle.ax_marks_rv.proofs.Whole.{images_have_rows}
use Rattle.ax_marks_rv.proofs.laws.direct_images_have_rows.Goals as goal

pub returns : goal.returns
returns c = images_have_rows (record { rows = c.direct_code_expands.ensures.rows; formed = c.selected_code_is_formed.ensures })
