use Rattle.std.proofs.Common.{◌≡◌, true}
use Rattle.std.proofs.lemmas.Bool.{false≢true}
use Rattle.ax_words.specs.declared.mark.Op.TheVariants as op
use Rattle.ax_mask.specs.Exchanges.{CompareExchange}
use Rattle.ax_mask.specs.Laws.{MaskedCodeExpands}
use Rattle.ax_mask.specs.Updates.{Update}
use Rattle.ax_mask.proofs.Exchanges.{exchange_expands}
use Rattle.ax_mask.proofs.Rows.{rows}
use Rattle.ax_mask.proofs.Updating.{update_expands}
use Rattle.ax_mask.proofs.laws.masked_code_expands.Goals as goal

pub returns-clause-expands : goal.returns-clause-expands
returns-clause-expands c = λ zabha zacas o width order weak narrow masked. by zabha zacas o width order weak narrow masked
  where
    by : MaskedCodeExpands
    by zabha zacas op.Cmpxchg width order weak narrow masked =
        let x : CompareExchange = record { zabha = zabha; zacas = zacas; order = order; weak = weak; width = width } in
        exchange_expands zabha zacas order weak width narrow (c.pair_exchange_expands.ensures x) (λ s. c.wrapped_code_follows-2.ensures (s, x))
    by zabha zacas (op.Rmw o) width order weak narrow masked =
        let u : Update = record { zabha = zabha; zacas = zacas; order = order; weak = weak; operation = o; width = width } in
        update_expands zabha zacas order weak o width narrow (c.retry_loop_expands.ensures u) (λ s. c.wrapped_code_follows.ensures (s, u))
    by zabha zacas op.Load width order weak narrow masked = absurd (false≢true masked)
    by zabha zacas op.Store width order weak narrow masked = absurd (false≢true masked)
    by zabha zacas op.Fence width order weak narrow masked = absurd (false≢true masked)

pub returns-clause-rows : goal.returns-clause-rows
returns-clause-rows c = λ zabha zacas o width order weak narrow masked legal. rows o width order weak masked
