use Rattle.ax_layout.proofs.Elements.{alone, apart, lie, next, those}
use Rattle.ax_layout.proofs.regions.objects_are_apart.Goals as goal

pub returns-clause-globals : goal.returns-clause-globals
returns-clause-globals c = those

pub returns-clause-lie : goal.returns-clause-lie
returns-clause-lie c = lie

pub returns-clause-apart : goal.returns-clause-apart
returns-clause-apart c = apart

pub returns-clause-region : goal.returns-clause-region
returns-clause-region c = alone

pub returns-clause-next : goal.returns-clause-next
returns-clause-next c = next
