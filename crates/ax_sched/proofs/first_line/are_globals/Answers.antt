use Rattle.std.proofs.Common.{sym, ◌∙◌, rules, tests}
use Rattle.std.proofs.lemmas.Iterator.{YieldsList-from_slice}
use Rattle.std.proofs.lemmas.Iterator.Search.{all_from_yields_List}
use Rattle.ax_lex.specs.declared.token.TokenKind.TheVariants.{Global}
use Rattle.ax_lex.specs.Tokens.{is_token}
use Rattle.ax_sched.proofs.NameLemmas.{all_mapped}
use Rattle.ax_sched.proofs.first_line.are_globals.Goals as goal

pub returns : goal.returns
returns c =
    all_from_yields_List (λ w. is_token Global w.now) _ _ c.all.result c.all.ensures.ran (YieldsList-from_slice c.args.words.now (cc)) (λ x b q k. search (rules, tests))
    ∙ sym (all_mapped (λ w. w.now) (is_token Global) c.args.words.now)
