-- Stores that a step sends to memory before it.
use Rattle.std.proofs.Common.{◌≡◌, ℕ, Bool, true, false, [], ◌++◌, refl, sym, ap, ◌∙◌, append-nil}
use Rattle.ax_store.specs.Storage.{Storage}
use Rattle.ax_store.specs.Store.{storage_of}
use Rattle.ax_store.proofs.Calls.{flush_waiting}
use Rattle.ax_isa.specs.declared.images.Image.{Image}
use Rattle.ax_isa.specs.Past.{Noted, Past, drain_list}
use Rattle.ax_isa.specs.Run.{drain_events, flushing}
use Rattle.ax_isa.specs.Steps.{Kind, waits}
use Rattle.ax_isa.proofs.Functions.{at_same}
use Rattle.ax_isa.proofs.Storages.{flush_storage}
use Rattle.ax_agree.specs.Agree.{is_native_entry}
use Rattle.ax_agree.specs.Library.{image_setting}
use Rattle.ax_run.specs.Machine.{MachineState, Readied, Sent, SentAll, noted_in, processor_in, sent_at}

waits_none : (b : Bool) (p : ℕ) (n : Noted) → n.storage.waiting p ≡ [] → waits b p n ≡ []
waits_none true p n h = h
waits_none false p n h = refl

module _ {I : Type 0} (kind : Kind I) (image : Image I) (p : ℕ) (old : MachineState) where
  abbrev flushes : Past → Bool
  flushes past = flushing (image_setting kind image) p (processor_in old p) (noted_in old past)

  nothing_sent : Sent old old
  nothing_sent = record { buffered = refl; rest = refl }

  -- a step that sends nothing is ready
  pub ready_as_is : ((past : Past) → sent_at kind image p old past ≡ []) → Readied kind image p old old
  ready_as_is none =
      record {
        sent = nothing_sent;
        storage = λ past. ap (λ es. (drain_list es p (noted_in old past)).storage) (sym (none past));
        sources = λ past. sym (append-nil old.sources) ∙ ap (λ es. old.sources ++ drain_events (is_native_entry old.program) p es) (sym (none past));
        none = none;
      }

  pub none_waits : (storage_of old.store).waiting p ≡ [] → (past : Past) → sent_at kind image p old past ≡ []
  none_waits h past = waits_none (flushes past) p (noted_in old past) h

  pub none_flushes : ((past : Past) → false ≡ flushes past) → (past : Past) → sent_at kind image p old past ≡ []
  none_flushes h past = ap (λ b. waits b p (noted_in old past)) (sym (h past))

  -- one that flushes is once all that waits was sent
  pub ready_flushed : (new : MachineState) → ((past : Past) → true ≡ flushes past) → SentAll p old new → Readied kind image p old new
  ready_flushed new h all =
      record {
        sent = all.sent;
        storage = λ past. all.storage ∙ sym (flush_storage p (noted_in old past)) ∙ ap (λ es. (drain_list es p (noted_in old past)).storage) (sym (waiting past));
        sources = λ past. all.sources ∙ ap (λ es. old.sources ++ drain_events (is_native_entry old.program) p es) (sym (waiting past));
        none = λ past. waits_none (flushing (image_setting kind image) p (processor_in new p) (noted_in new past)) p (noted_in new past) empty;
      }
    where
      waiting : (past : Past) → sent_at kind image p old past ≡ (storage_of old.store).waiting p
      waiting past = ap (λ b. waits b p (noted_in old past)) (sym (h past))

      empty : (storage_of new.store).waiting p ≡ []
      empty = ap (λ (st : Storage). st.waiting p) all.storage ∙ ap (λ f. f p) (flush_waiting p (storage_of old.store)) ∙ at_same (storage_of old.store).waiting p []
