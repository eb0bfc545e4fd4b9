-- What an operation finds on a machine without buffers, and how large it is.
use Rattle.std.proofs.Common.{◌≡◌, ℕ, ◌-◌, ◌*◌, ◌^◌, ◌<◌, ◌≤◌, Bool, true, false, List, [], ◌∷◌, sym, ap, ◌∙◌, subst, ⊎_elim, arith}
use Rattle.std.specs.Prelude.{◌&&◌, if◌then◌else◌}
use Rattle.std.proofs.lemmas.Bool.{cases_eq}
use Rattle.ax_store.specs.declared.entry.Entry.{Entry}
use Rattle.ax_map.specs.Map.{covers}
use Rattle.ax_store.specs.Bytes.{byte_of, number_at, put}
use Rattle.ax_store.specs.Storage.{at_place, byte_after, newest}
use Rattle.ax_store.proofs.Numbers.{number_small}
use Rattle.ax_isa.proofs.Functions.{at_same, at_other}
use Rattle.ax_fine.specs.OnBytes.{IsObject, found_at, sent_out, wrote_each}
use Rattle.ax_expand.specs.Shared.{Object, Shared, is_shared, shared_wrote, with_pending}

byte_small : (v i : ℕ) → byte_of v i < 2 ^ 8
byte_small v i = omega arith

newest_small : (t : Bool) (es : List Entry) (b v : ℕ) → v < 2 ^ 8 → newest t es b v < 2 ^ 8
newest_small t [] b v h = h
newest_small t (e ∷ es) b v h = newest_small t es b (byte_after t e b v) (by (covers e.address e.bytes b && t))
  where
    by : (c : Bool) → (if c then byte_of e.value (b - e.address) else v) < 2 ^ 8
    by true = byte_small e.value (b - e.address)
    by false = h

-- the bytes of memory stay bytes
write_small : (e : Entry) (w : Shared) → ((b : ℕ) → w.mem b < 2 ^ 8) → (b : ℕ) → (shared_wrote e w).mem b < 2 ^ 8
write_small e w h b = masks (is_shared b)
  where
    by : (c : Bool) → (if c then byte_of e.value (b - e.address) else w.mem b) < 2 ^ 8
    by true = byte_small e.value (b - e.address)
    by false = h b

    masks : (c : Bool) → (if c then put w.inside e.address e.bytes e.value w.mem b else 0) < 2 ^ 8
    masks true = by (covers e.address e.bytes b && w.inside b)
    masks false = omega arith

writes_small : (es : List Entry) (w : Shared) → ((b : ℕ) → w.mem b < 2 ^ 8) → (b : ℕ) → (wrote_each es w).mem b < 2 ^ 8
writes_small [] w h = h
writes_small (e ∷ es) w h = writes_small es (shared_wrote e w) (write_small e w h)

-- an object's number has its bits
pub loaded_small : (p a n : ℕ) (w : Shared) → IsObject a n w → found_at p a n w < 2 ^ (8 * n)
loaded_small p a n w o = number_small (λ b. newest (w.inside b) (w.pending p) b (w.mem b)) (λ b. newest_small (w.inside b) (w.pending p) b (w.mem b) (o.small b)) a n

pub sent_small : (p a n : ℕ) (w : Shared) → IsObject a n w → number_at (sent_out p w).mem a n < 2 ^ (8 * n)
sent_small p a n w o = number_small (sent_out p w).mem (writes_small (w.pending p) w o.small) a n

-- where nothing waits, nothing goes to memory
pub sent_same : (p : ℕ) (w : Shared) → w.pending p ≡ [] → sent_out p w ≡ w
sent_same p w none = ap (λ es. with_pending p [] (wrote_each es w)) none ∙ ap (λ (f : ℕ → List Entry). record w { pending = f }) (λ d q. (at q) d)
  where
    at : (q : ℕ) → at_place w.pending p [] q ≡ w.pending q
    at q = ⊎_elim (λ e. subst (λ y. at_place w.pending p [] y ≡ w.pending y) (sym e) (at_same w.pending p [] ∙ sym none)) (λ ne. at_other w.pending p [] q ne) (cases_eq q p)

-- an object of an operation is one of an access
pub object_of : (a n : ℕ) (w : Shared) → 1 ≤ n → IsObject a n w → Object a n w
object_of a n w some o = record { aligned = o.aligned; below = o.shared; some = some; inside = o.inside; small = o.small }
