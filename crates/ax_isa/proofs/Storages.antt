-- Draining all that waits is the storage's flush, and a store with its notes is the storage's.
use Rattle.std.proofs.Common.{◌≡◌, ℕ, Bool, true, false, List, [], ◌∷◌, refl, sym, ap, ◌∙◌}
use Rattle.ax_store.specs.declared.entry.Entry.{Entry}
use Rattle.ax_store.specs.Storage.{Storage, at_place, entry_of, stored, wrote, wrote_all, with_waiting, flushed}
use Rattle.ax_isa.specs.Past.{Noted, store, drain, drain_first, drain_list}
use Rattle.ax_isa.specs.Steps.{waits}
use Rattle.ax_isa.proofs.Functions.{at_same, place_kept, place_twice}

pub store_storage : (buffered : Bool) (p a n v : ℕ) (m : Noted) → (store buffered p (entry_of a n v) m).storage ≡ stored buffered p a n v m.storage
store_storage true p a n v m = refl
store_storage false p a n v m = refl

waiting_is : (st : Storage) (f : ℕ → List Entry) → st.waiting ≡ f → st ≡ record st { waiting = f }
waiting_is st f e = λ d. record { inside = st.inside; mem = st.mem; waiting = e d; linked = st.linked }

pub drained_storage : (p : ℕ) (es : List Entry) (n : Noted) → n.storage.waiting p ≡ es → (drain_list es p n).storage ≡ wrote_all p es (with_waiting p [] n.storage)
drained_storage p [] n e = waiting_is n.storage (at_place n.storage.waiting p []) (sym (place_kept n.storage.waiting p [] e))
drained_storage p (x ∷ xs) n e =
    let one : drain p n ≡ drain_first p (x ∷ xs) n = ap (λ ys. drain_first p ys n) e in
    let rest : (drain p n).storage.waiting p ≡ xs = ap (λ (m : Noted). m.storage.waiting p) one ∙ at_same n.storage.waiting p xs in
    drained_storage p xs (drain p n) rest
    ∙ ap (λ (m : Noted). wrote_all p xs (with_waiting p [] m.storage)) one
    ∙ ap (λ f. wrote_all p xs (wrote p x (record n.storage { waiting = f }))) (place_twice n.storage.waiting p xs [])

-- what a flush leaves of the storage
pub flush_storage : (p : ℕ) (n : Noted) → (drain_list (waits true p n) p n).storage ≡ flushed p n.storage
flush_storage p n = drained_storage p (n.storage.waiting p) n refl

-- which addresses are inside stays
pub drains_inside : (p : ℕ) (es : List Entry) (n : Noted) → (drain_list es p n).storage.inside ≡ n.storage.inside
drains_inside p [] n = refl
drains_inside p (x ∷ xs) n = drains_inside p xs (drain p n) ∙ first (n.storage.waiting p)
  where
    first : (es : List Entry) → (drain_first p es n).storage.inside ≡ n.storage.inside
    first [] = refl
    first (e ∷ es) = refl
