-- What a fence and a locked effect leave: their flush is the storage's.
use Rattle.std.proofs.Common.{◌≡◌, ℕ, true, Some, None, refl, ap, sym, ◌∙◌}
use Rattle.ax_store.specs.Bytes.{number_at}
use Rattle.ax_store.specs.Storage.{Storage, replaced}
use Rattle.ax_store.specs.Store.{storage_of}
use Rattle.ax_isa.specs.declared.effects.Effect.{Effect}
use Rattle.ax_isa.specs.declared.effects.Effect.TheVariants.{Locked, Fence}
use Rattle.ax_isa.specs.declared.effects.Outcome.{Outcome}
use Rattle.ax_isa.specs.Past.{Noted, noted}
use Rattle.ax_isa.specs.Processor.{processor_of}
use Rattle.ax_isa.specs.Steps.{changed, effected, exchanged, is_changed, possible, readied}
use Rattle.ax_isa.proofs.Readied.{ready_flushed, replace_storage}
use Rattle.ax_isa.proofs.performing.perform.Goals as goal

pub returns-in-Fence-clause-storage : goal.returns-in-Fence-clause-storage
returns-in-Fence-clause-storage c =
    λ past.
    let n = noted (storage_of c.args.s.now) past in
    let f = c.in-Fence in
    let able : possible c.args.p Fence (processor_of c.args.c.now) n.storage ≡ true = ap (λ e. possible c.args.p e (processor_of c.args.c.now) n.storage) (sym f.is) ∙ c.requires.possible in
    c.fence.ensures.storage
    ∙ sym (ready_flushed c.args.p Fence (processor_of c.args.c.now) n refl able)
    ∙ ap (λ e. (effected c.args.s.now.buffered c.args.p e (processor_of c.args.c.now) (readied c.args.p e (processor_of c.args.c.now) n)).noted.storage) (sym f.is)

pub returns-in-Locked-clause-processor : goal.returns-in-Locked-clause-processor
returns-in-Locked-clause-processor c =
    λ past.
    let n = noted (storage_of c.args.s.now) past in
    let l = c.in-Locked in
    let locked : Effect = Locked l.to l.high l.address l.bytes l.rest l.by in
    let able : possible c.args.p locked (processor_of c.args.c.now) n.storage ≡ true = ap (λ e. possible c.args.p e (processor_of c.args.c.now) n.storage) (sym l.is) ∙ c.requires.possible in
    c.exchange.ensures
    ∙ ap (λ old. exchanged l.bytes l.to l.high l.rest l.by old (processor_of c.args.c.now)) (c.change-old.ensures.old ∙ ap (λ (st : Storage). number_at st.mem l.address l.bytes) (sym (ready_flushed c.args.p locked (processor_of c.args.c.now) n refl able)))
    ∙ ap (λ e. (effected c.args.s.now.buffered c.args.p e (processor_of c.args.c.now) (readied c.args.p e (processor_of c.args.c.now) n)).processor) (sym l.is)

pub returns-in-Locked-clause-storage : goal.returns-in-Locked-clause-storage
returns-in-Locked-clause-storage c =
    λ past.
    let n = noted (storage_of c.args.s.now) past in
    let l = c.in-Locked in
    let locked : Effect = Locked l.to l.high l.address l.bytes l.rest l.by in
    let ready : Noted = readied c.args.p locked (processor_of c.args.c.now) n in
    let able : possible c.args.p locked (processor_of c.args.c.now) n.storage ≡ true = ap (λ e. possible c.args.p e (processor_of c.args.c.now) n.storage) (sym l.is) ∙ c.requires.possible in
    c.change-old.ensures.storage
    ∙ ap (λ (st : Storage). replaced c.args.p l.address l.bytes (changed l.bytes l.by (number_at st.mem l.address l.bytes)) st) (sym (ready_flushed c.args.p locked (processor_of c.args.c.now) n refl able))
    ∙ sym (replace_storage c.args.p l.address l.bytes (changed l.bytes l.by (number_at ready.storage.mem l.address l.bytes)) ready)
    ∙ ap (λ e. (effected c.args.s.now.buffered c.args.p e (processor_of c.args.c.now) (readied c.args.p e (processor_of c.args.c.now) n)).noted.storage) (sym l.is)

pub returns-in-Locked-clause-outcome : goal.returns-in-Locked-clause-outcome
returns-in-Locked-clause-outcome c =
    λ past.
    let n = noted (storage_of c.args.s.now) past in
    let l = c.in-Locked in
    let locked : Effect = Locked l.to l.high l.address l.bytes l.rest l.by in
    let able : possible c.args.p locked (processor_of c.args.c.now) n.storage ≡ true = ap (λ e. possible c.args.p e (processor_of c.args.c.now) n.storage) (sym l.is) ∙ c.requires.possible in
    let shows : ℕ → Outcome = λ old. record { stored = Some (is_changed (changed l.bytes l.by old)); loaded = Some old; output = None } in
    (λ d. record { stored = Some (c.change-old.ensures.wrote d); loaded = Some (c.change-old.ensures.old d); output = (ap (λ (o : Outcome). o.output) c.no_outcome-outcome.ensures) d })
    ∙ ap (λ (st : Storage). shows (number_at st.mem l.address l.bytes)) (sym (ready_flushed c.args.p locked (processor_of c.args.c.now) n refl able))
    ∙ ap (λ e. (effected c.args.s.now.buffered c.args.p e (processor_of c.args.c.now) (readied c.args.p e (processor_of c.args.c.now) n)).outcome) (sym l.is)
