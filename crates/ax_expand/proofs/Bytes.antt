-- The world of bytes is lawful.
use Rattle.std.proofs.Common.{◌≡◌, ℕ, true, sym, ap, ◌∙◌}
use Rattle.std.specs.Prelude.{Option}
use Rattle.ax_words.specs.declared.source.SourceStatus.{SourceStatus}
use Rattle.ax_isa.specs.Past.{Noted}
use Rattle.ax_isa.specs.Processor.{Processor}
use Rattle.ax_isa.specs.Run.{Setting}
use Rattle.ax_isa.specs.Tells.{Given}
use Rattle.ax_follow.specs.Bounds.{Bounded}
use Rattle.ax_follow.specs.Contract.{Did, Reading}
use Rattle.ax_follow.specs.Contract.{Lawful as RunLawful}
use Rattle.ax_expand.specs.Bytes.{bytes_world}
use Rattle.ax_expand.specs.Shared.{Shared, counts}
use Rattle.ax_expand.specs.World.{Lawful}
use Rattle.ax_expand.proofs.Sights.{hides_drain, sees_drain}

pub bytes_lawful : Lawful bytes_world
bytes_lawful =
    record {
      alike = λ n m w a h. record { inside = a.inside ∙ h.inside; mem = a.mem ∙ h.mem; pending = λ q. a.pending q ∙ h.pending q };
      inside = λ n w h. h.inside;
    }

-- what the run theorem asks, of any meaning over this world
pub run_lawful : {I P : Type 0} (x : Setting I) (v : Reading) → v.counts ≡ counts → v.public ≡ counts → (v.words ≡ true → Bounded x) → (status : P → SourceStatus) (chosen : Given → ℕ → P → Shared → Option (Did P Shared)) (number begins : P → ℕ) (matches : ℕ → Processor → Noted → P → Type 0) (fits : ℕ → P → Shared → Type 0)
    → RunLawful (record { status = status; chosen = chosen; drained = bytes_world.drained; drain_gives = bytes_world.drain_gives; sees = bytes_world.sees; number = number; begins = begins; matches = matches; fits = fits }) v x
run_lawful x v same public bounded status chosen number begins matches fits =
    record {
      bounded = bounded;
      dropped = λ p n w h. record { inside = h.inside; mem = h.mem; pending = h.pending };
      drains = λ on p n w e es is fair c h. (sees_drain p n w e es is (ap (λ f. f e) (sym same) ∙ c) h, ap (λ f. f e) public ∙ ap (λ f. f e) (sym same) ∙ c);
      hides = λ on p n w e es is fair c h. (hides_drain p n w e es is (ap (λ f. f e) (sym same) ∙ c) h, ap (λ f. f e) public ∙ ap (λ f. f e) (sym same) ∙ c);
    }
