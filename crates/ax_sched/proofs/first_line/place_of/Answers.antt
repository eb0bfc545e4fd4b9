use Rattle.std.proofs.Common.{sym, ◌∙◌, rules, tests, nat_eq}
use Rattle.std.specs.Cmp.Lexicographic.{pointwise}
use Rattle.std.proofs.lemmas.Iterator.{YieldsList-from_slice}
use Rattle.std.proofs.lemmas.Iterator.Search.{position_from_yields_List}
use Rattle.ax_sched.proofs.NameLemmas.{position_mapped}
use Rattle.ax_sched.proofs.first_line.place_of.Goals as goal

pub returns-clause-is : goal.returns-clause-is
returns-clause-is c =
    position_from_yields_List (λ f. pointwise nat_eq f.name c.args.name.now) _ _ c.position.result c.position.ensures.ran (YieldsList-from_slice c.args.functions.now (cc)) (λ x b q k. search (rules, tests))
    ∙ sym (position_mapped (λ f. f.name) (λ f. pointwise nat_eq f c.args.name.now) c.args.functions.now)
