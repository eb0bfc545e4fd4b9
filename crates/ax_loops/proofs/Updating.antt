-- A read-modify-write operation replaces a number.
use Rattle.std.proofs.Common.{◌≡◌, ℕ, ◌-◌, ◌*◌, ◌/◌, ◌%◌, ◌^◌, ◌<◌, Bool, true, false, List, [], ◌∷◌, Some, None, refl, sym, ap, ◌∙◌, subst, arith}
use Rattle.std.specs.Prelude.{◌&&◌, if◌then◌else◌}
use Rattle.ax_words.specs.declared.operation.RmwOp.{RmwOp}
use Rattle.ax_store.specs.declared.entry.Entry.{Entry}
use Rattle.ax_map.specs.Map.{covers}
use Rattle.ax_store.specs.Bytes.{IsWidth, all_inside, byte_of}
use Rattle.ax_store.specs.Storage.{byte_after, load, newest, seen}
use Rattle.ax_store.proofs.Numbers.{number_small}
use Rattle.ax_isa.specs.Past.{Noted}
use Rattle.ax_isa.specs.Tells.{Library}
use Rattle.ax_expand.specs.Bytes.{bytes_world}
use Rattle.ax_expand.specs.Doing.{deed_of}
use Rattle.ax_expand.specs.Shared.{Object, Sees, Shared, is_shared, masked, shared_only, shared_wrote}
use Rattle.ax_expand.proofs.Sights.{object_number, sees_write, shared_number}
use Rattle.ax_loops.specs.Replacing.{Replaces, Wrote}
use Rattle.ax_loops.specs.Updating.{UpdateRegisters, is_none, update_replacement, updated, updating_on}

-- nothing of p waits above
pub none_pending : (p : ℕ) (n : Noted) (w : Shared) → Sees n.storage w → n.storage.waiting p ≡ [] → is_none (w.pending p) ≡ true
none_pending p n w sees empty = ap is_none (sym (sees.pending p)) ∙ ap (λ es. is_none (shared_only es)) empty

pub wrote_sees : (lib : Library) (p : ℕ) (e : Entry) (n new : Noted) (w : Shared) → Sees n.storage w → Wrote lib p e n new → Sees new.storage (shared_wrote e w)
wrote_sees lib p e n new w sees h =
    let s = sees_write p e n w sees in
    record { inside = h.inside ∙ sees.inside; mem = ap masked h.mem ∙ s.mem; pending = λ q. ap (λ f. shared_only (f q)) h.waiting ∙ sees.pending q }

byte_small : (v : ℕ) → v % 2 ^ 8 < 2 ^ 8
byte_small v = omega arith

-- bytes that wait have 8 bits, and so have those of memory that all share
newest_small : (t : Bool) (es : List Entry) (b v : ℕ) → v < 2 ^ 8 → newest t es b v < 2 ^ 8
newest_small t [] b v h = h
newest_small t (e ∷ es) b v h = newest_small t es b (byte_after t e b v) (go (covers e.address e.bytes b && t))
  where
    go : (f : Bool) → (if f then byte_of e.value (b - e.address) else v) < 2 ^ 8
    go true = byte_small (e.value / 2 ^ (8 * (b - e.address)))
    go false = h

pub seen_small : (p a bytes : ℕ) (n : Noted) (w : Shared) → Sees n.storage w → Object a bytes w → load p a bytes n.storage < 2 ^ (8 * bytes)
seen_small p a bytes n w sees o = subst (λ q. q < 2 ^ (8 * bytes)) (sym (shared_number (seen p n.storage) a bytes o.below)) (number_small (masked (seen p n.storage)) each a bytes)
  where
    each : (b : ℕ) → masked (seen p n.storage) b < 2 ^ 8
    each b = go (is_shared b) refl
      where
        go : (t : Bool) → is_shared b ≡ t → (if t then seen p n.storage b else 0) < 2 ^ 8
        go false e = omega arith
        go true e = newest_small (n.storage.inside b) (n.storage.waiting p) b (n.storage.mem b) (subst (λ q. q < 2 ^ 8) (sym (sym (ap (λ t. if t then n.storage.mem b else 0) e) ∙ ap (λ f. f b) sees.mem)) (o.small b))

pub update_replaces : (op : RmwOp) (bytes : ℕ) (r : UpdateRegisters) → IsWidth bytes → Replaces bytes_world (updating_on op bytes r) (update_replacement op bytes r)
update_replaces op bytes r width =
    record {
      width = width;
      happens = λ p n regs seen w sees empty fit. ap (λ (t : Bool). deed_of (r.result ∷ []) regs (if t then Some (updated op bytes (regs r.address) (regs r.operand) w) else None)) (none_pending p n w sees empty);
      aligned = λ regs w fit. fit.0.aligned;
      below = λ regs w fit. fit.0.below;
      inside = λ n regs w sees fit. ap (λ f. all_inside f (regs r.address) bytes) sees.inside ∙ fit.0.inside;
      found = λ n regs w sees fit. object_number n (regs r.address) bytes w sees fit.0;
      small = λ regs w fit. number_small w.mem fit.0.small (regs r.address) bytes;
      seen_small = λ p n regs w sees fit. seen_small p (regs r.address) bytes n w sees fit.0;
      shows = λ lib p n new regs w sees fit h. wrote_sees lib p _ n new w sees h;
    }
