use Rattle.ax_read.proofs.Answered.{each_answered}
use Rattle.ax_read.proofs.Derived.{one_module, same_fault, apart}
use Rattle.ax_read.proofs.laws.texts_have_one_answer.Goals as goal

pub returns : goal.returns
returns c = record { some = each_answered; derived = one_module; faulty = same_fault; apart = apart }
