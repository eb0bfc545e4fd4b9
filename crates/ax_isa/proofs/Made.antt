-- The step that a processor makes at its place, from what its instruction's effect leaves.
use Rattle.std.proofs.Common.{◌≡◌, ℕ, Bool, true, List, Option, Some, sym, ap, ◌∙◌}
use Rattle.std.specs.Prelude.{if◌then◌else◌, option_to_list}
use Rattle.ax_words.specs.declared.source.SourceEvent.{SourceEvent}
use Rattle.ax_store.specs.Store.{Kept, spare_of, storage_of}
use Rattle.ax_store.specs.StoreState.{StoreState}
use Rattle.ax_tags.specs.declared.tags.Role.{Role}
use Rattle.ax_isa.specs.declared.effects.Effect.{Effect}
use Rattle.ax_isa.specs.declared.effects.Outcome.{Outcome}
use Rattle.ax_tags.specs.declared.tags.Tag.{Tag}
use Rattle.ax_isa.specs.Effects.{spared_by}
use Rattle.ax_isa.specs.Past.{Past, Noted, noted, drain_list}
use Rattle.ax_isa.specs.Processor.{Processor}
use Rattle.ax_isa.specs.Run.{Setting, at_code, events_of, flushes_at, made_by, setting_of, step_at, tag_at}
use Rattle.ax_isa.specs.Stepping.{IsStepAt, spared_after, spared_at}
use Rattle.ax_isa.specs.Steps.{Kind, Effected, possible, effected, readied, stuck, waits}
use Rattle.ax_isa.specs.Tells.{Done, Library, bytes_of, done_by, given_of, role_after, told, told_stuck, with_role}
use Rattle.ax_isa.proofs.Readied.{ready_possible}

pub step_made : {I : Type 0} (x : Setting I) (b : Bool) (i : I) (e : Effect) (p : ℕ) (c : Processor) (n : Noted)
    → x.kind.buffered ≡ b → at_code x.code c.place ≡ Some i → x.kind.effect_of i c ≡ e → possible p e c n.storage ≡ true
    → made_by x p c n ≡ told x.library (x.tags c.place) p e c (readied p e c n) (effected b p e c (readied p e c n))
step_made {I = I} x b i e p c n buffers at is may =
    let F : Option I → Done = λ o. step_at x o p c (drain_list (waits (flushes_at x o p c n) p n) p n) in
    let tag = x.tags c.place in
    let r = readied p e c n in
    ap F at
    ∙ ap (λ y. done_by x.library x.kind.buffered tag p y c (readied p y c n)) is
    ∙ ap (λ y. done_by x.library y tag p e c r) buffers
    ∙ ap (λ t. if t then told x.library tag p e c r (effected b p e c r) else told_stuck tag c (stuck c r)) (ready_possible p e c n ∙ may)

module _ {I : Type 0} (kind : Kind I) (code : List I) (tags : List Tag) (p : ℕ) (c : Processor) (old : StoreState) (i : I) (e : Effect)
    (buffers : old.buffered ≡ kind.buffered) (at : at_code code c.place ≡ Some i) (is : e ≡ kind.effect_of i c) (may : possible p e c (storage_of old) ≡ true) where
  abbrev start : Past → Noted
  start past = noted (storage_of old) past

  abbrev left_by : Past → Effected
  left_by past = effected old.buffered p e c (readied p e c (start past))

  abbrev tag : Tag
  tag = tag_at tags c.place

  made : (library : Library) (past : Past) → made_by (setting_of kind code tags library) p c (start past) ≡ told library tag p e c (readied p e c (start past)) (left_by past)
  made library past = step_made (setting_of kind code tags library) old.buffered i e p c (start past) (sym buffers) at (sym is) may

  spared : spared_at kind (at_code code c.place) p c old ≡ spared_by e old.buffered p (spare_of old)
  spared =
      ap (λ (o : Option I). spared_at kind o p c old) at
      ∙ ap (λ (y : Effect). spared_after p y c old) (sym is)
      ∙ ap (λ t. if t then spared_by e old.buffered p (spare_of old) else spare_of old) may

  pub step_is : (new : Processor) (left : StoreState) (outcome : Outcome) (gives : Option SourceEvent) (role : Role)
      → ((past : Past) → new ≡ (left_by past).processor) → ((past : Past) → storage_of left ≡ (left_by past).noted.storage) → ((past : Past) → outcome ≡ (left_by past).outcome)
      → role ≡ role_after tag e new.role → option_to_list gives ≡ events_of p (given_of tag (bytes_of e) c outcome)
      → spare_of left ≡ spared_by e old.buffered p (spare_of old) → Kept old left
      → IsStepAt kind code tags p c (with_role role new) old left (record { outcome = outcome; gives = gives })
  step_is new left outcome gives role processor storage shown roles given spares kept =
      record {
        processor = λ library past. ap (λ r. with_role r new) roles ∙ ap (λ (y : Processor). with_role (role_after tag e y.role) y) (processor past) ∙ ap (λ (d : Done). d.processor) (sym (made library past));
        storage = λ library past. storage past ∙ ap (λ (d : Done). d.noted.storage) (sym (made library past));
        outcome = λ library past. shown past ∙ ap (λ (d : Done). d.outcome) (sym (made library past));
        gives = λ library past. given ∙ ap (λ o. events_of p (given_of tag (bytes_of e) c o)) (shown past) ∙ ap (λ (d : Done). events_of p d.gives) (sym (made library past));
        spares = spares ∙ sym spared;
        kept = kept;
      }
