-- Lists of stores that wait.
use Rattle.std.proofs.Common.{◌≡◌, ℕ, zero, suc, ◌+◌, ◌<◌, ◌≤◌, List, [], ◌∷◌, length, drop, refl, sym, ap, ◌∙◌, arith}
use Rattle.std.specs.Prelude.{slice_index_or}
use Rattle.ax_source_run.specs.SourceAccess.{element_set, written_out}
use Rattle.ax_source_run.specs.SourceState.{PendingStore}

drop_next : (stores : List PendingStore) (k j : ℕ) (d : PendingStore) → j ≡ k + 1 → k < length stores → drop k stores ≡ slice_index_or stores k d ∷ drop j stores
drop_next (s ∷ stores) zero j d e h = let f : j ≡ suc zero = omega arith in rw f refl
drop_next (s ∷ stores) (suc k) zero d e h = absurd (omega arith)
drop_next (s ∷ stores) (suc k) (suc j) d e h = drop_next stores k j d (omega arith) (omega arith)
drop_next [] k j d e h = absurd (omega arith)

pub written_next : (numbers : ℕ → ℕ → ℕ) (stores : List PendingStore) (k j : ℕ) (s : PendingStore) → j ≡ k + 1 → k < length stores → s ≡ slice_index_or stores k s
    → written_out (drop k stores) numbers ≡ written_out (drop j stores) (element_set s.global s.element s.number numbers)
written_next numbers stores k j s e h is = ap (λ ss. written_out ss numbers) (drop_next stores k j s e h) ∙ ap (λ (t : PendingStore). written_out (drop j stores) (element_set t.global t.element t.number numbers)) (sym is)

pub all_drained : (stores : List PendingStore) (k : ℕ) → length stores ≤ k → drop k stores ≡ []
all_drained [] zero h = refl
all_drained [] (suc k) h = refl
all_drained (s ∷ stores) zero h = absurd (omega arith)
all_drained (s ∷ stores) (suc k) h = all_drained stores k (omega arith)

pub ruleset written = (written_next, all_drained)

pub ruleset oldest = (written_next, all_drained)
