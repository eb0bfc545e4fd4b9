-- A number of memory, read from its highest byte down.
use Rattle.std.proofs.Common.{◌≡◌, ℕ, ◌+◌, ◌-◌, ◌*◌, ◌<◌, ◌^◌, sym, ap, ◌∙◌, subst, arith}
use Rattle.ax_store.specs.Bytes.{number_at}
use Rattle.ax_store.proofs.Numbers.{number_more, number_room}
use Rattle.ax_store.proofs.Reading.{Sofar}

-- the byte below
pub below : (f : ℕ → ℕ) (a i n v b : ℕ) → 0 < i → Sofar f a i n v → b ≡ f (a + (i - 1)) → b < 256 → Sofar f a (i - 1) n (v * 256 + b)
below f a i n v b pos far e byte =
    let within = far.within in
    let k : i ≡ i - 1 + 1 = omega (arith, pos) in
    let s : v < 2 ^ (8 * (n - (i - 1 + 1))) = subst (λ j. v < 2 ^ (8 * (n - j))) k far.small in
    let m : v ≡ number_at f (a + (i - 1 + 1)) (n - (i - 1 + 1)) = far.number ∙ ap (λ j. number_at f (a + j) (n - j)) k in
    let less : i - 1 < n = omega (arith, pos, within) in
    record {
      within = omega (arith, within);
      number = (let r : v * 256 + b ≡ f (a + (i - 1)) + 256 * number_at f (a + (i - 1 + 1)) (n - (i - 1 + 1)) = omega (arith, m, e) in r) ∙ sym (number_more f a n (i - 1) less);
      small = number_room n (i - 1) v b less s byte;
    }
