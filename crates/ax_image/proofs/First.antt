-- The first bytes of memory spell the first numbers of the globals, and frames are zero.
use Rattle.std.proofs.Common.{◌≡◌, ℕ, zero, suc, ◌+◌, ◌-◌, ◌*◌, ◌/◌, ◌%◌, ◌^◌, ◌<◌, ◌≤◌, Bool, true, false, List, [], ◌∷◌, Some, refl, ap, ◌∙◌, arith, slice_get}
use Rattle.std.specs.Prelude.{if◌then◌else◌}
use Rattle.std.proofs.Math.Nat.{div-eq_of_lt, mod-eq_of_lt, mul-add-div_right, mul-add-mod_self_right, mul-le-mul_right}
use Rattle.std.proofs.lemmas.Bool.Decides.{nat_tests}
use Rattle.std.proofs.lemmas.Option.{none-some, same_Some}
use Rattle.ax_map.specs.Map.{covers}
use Rattle.ax_store.specs.Bytes.{byte_of, number_at}
use Rattle.ax_store.proofs.Numbers.{spelled}
use Rattle.ax_layout.specs.declared.address_range.AddressRange.{AddressRange}
use Rattle.ax_module.specs.declared.module.Module.{Module}
use Rattle.ax_source_run.specs.SourceRun.{first_numbers}
use Rattle.ax_agree.specs.Lowers.{byte_in}

row : (j count b : ℕ) → j < count → j * b + b ≤ count * b
row j count b lt = let e = mul-le-mul_right {m = suc j} {n = count} b lt in omega (arith, e)

-- place k of element i
quotient : (i b k : ℕ) → k < b → (i * b + k) / b ≡ i
quotient i b k less = mul-add-div_right {m = b} (omega (arith, less)) i k ∙ (ap (λ (q : ℕ). i + q) (div-eq_of_lt less) ∙ omega arith)

remainder : (i b k : ℕ) → k < b → (i * b + k) % b ≡ k
remainder i b k less = mul-add-mod_self_right i b k ∙ mod-eq_of_lt less

module _ (m : Module) where
  pub byte_small : (spans : List AddressRange) (g a : ℕ) → byte_in m g spans a < 2 ^ 8
  byte_small [] g a = omega arith
  byte_small (s ∷ spans) g a = by (covers s.start (s.count * s.bytes) a) (byte_small spans (g + 1) a)
    where
      by : (t : Bool) → byte_in m (g + 1) spans a < 2 ^ 8 → (if t then byte_of (first_numbers m g ((a - s.start) / s.bytes)) ((a - s.start) % s.bytes) else byte_in m (g + 1) spans a) < 2 ^ 8
      by true h = omega arith
      by false h = h

  -- a byte of the first span that covers it
  byte_at : (spans : List AddressRange) (d g : ℕ) (s : AddressRange) (a : ℕ) → slice_get spans g ≡ Some s → covers s.start (s.count * s.bytes) a ≡ true → ((h : ℕ) (t : AddressRange) → h < g → slice_get spans h ≡ Some t → covers t.start (t.count * t.bytes) a ≡ false)
      → byte_in m d spans a ≡ byte_of (first_numbers m (d + g) ((a - s.start) / s.bytes)) ((a - s.start) % s.bytes)
  byte_at [] d g s a e h before = absurd (none-some s e)
  byte_at (t ∷ spans) d zero s a e h before =
      let same = same_Some t s e in
      let at : d ≡ d + 0 = omega arith in
      ap (λ (b : Bool). if b then byte_of (first_numbers m d ((a - t.start) / t.bytes)) ((a - t.start) % t.bytes) else byte_in m (d + 1) spans a) (ap (λ (x : AddressRange). covers x.start (x.count * x.bytes) a) same ∙ h)
      ∙ (ap (λ (x : AddressRange). byte_of (first_numbers m d ((a - x.start) / x.bytes)) ((a - x.start) % x.bytes)) same ∙ ap (λ (q : ℕ). byte_of (first_numbers m q ((a - s.start) / s.bytes)) ((a - s.start) % s.bytes)) at)
  byte_at (t ∷ spans) d (suc g) s a e h before =
      let at : d + 1 + g ≡ d + suc g = omega arith in
      ap (λ (b : Bool). if b then byte_of (first_numbers m d ((a - t.start) / t.bytes)) ((a - t.start) % t.bytes) else byte_in m (d + 1) spans a) (before 0 t (omega arith) refl)
      ∙ (byte_at spans (d + 1) g s a e h (λ k x less there. before (suc k) x (omega (arith, less)) there) ∙ ap (λ (q : ℕ). byte_of (first_numbers m q ((a - s.start) / s.bytes)) ((a - s.start) % s.bytes)) at)

  -- an element of a span that no span before overlaps
  pub element_first : (spans : List AddressRange) (g i : ℕ) (s : AddressRange) → slice_get spans g ≡ Some s → i < s.count → ((h : ℕ) (t : AddressRange) (a : ℕ) → h < g → slice_get spans h ≡ Some t → s.start ≤ a → a < s.start + s.count * s.bytes → covers t.start (t.count * t.bytes) a ≡ false)
      → number_at (byte_in m 0 spans) (s.start + i * s.bytes) s.bytes ≡ first_numbers m g i % 2 ^ (8 * s.bytes)
  element_first spans g i s e within before =
      let v = first_numbers m g i in
      let one : v / 2 ^ (8 * 0) ≡ v = div_one v in
      spelled (byte_in m 0 spans) (s.start + i * s.bytes) v 0 s.bytes (λ k less. at k less) ∙ ap (λ (x : ℕ). x % 2 ^ (8 * s.bytes)) one
    where
      div_one : (x : ℕ) → x / 1 ≡ x
      div_one x = omega arith

      at : (k : ℕ) → k < s.bytes → byte_in m 0 spans (s.start + i * s.bytes + k) ≡ byte_of (first_numbers m g i) (0 + k)
      at k less =
          let lies = row i s.count s.bytes within in
          let a = s.start + i * s.bytes + k in
          let here : covers s.start (s.count * s.bytes) a ≡ true = inside s.start (s.count * s.bytes) a (omega arith) (omega (arith, lies, less)) in
          let back : a - s.start ≡ i * s.bytes + k = omega arith in
          let zero_g : 0 + g ≡ g = omega arith in
          let zero_k : k ≡ 0 + k = omega arith in
          byte_at spans 0 g s a e here (λ h t before_g there. before h t a before_g there (omega arith) (omega (arith, lies, less)))
          ∙ (ap (λ (q : ℕ). byte_of (first_numbers m q ((a - s.start) / s.bytes)) ((a - s.start) % s.bytes)) zero_g
          ∙ (ap (λ (x : ℕ). byte_of (first_numbers m g (x / s.bytes)) (x % s.bytes)) back
          ∙ (ap (λ (q : ℕ). byte_of (first_numbers m g q) ((i * s.bytes + k) % s.bytes)) (quotient i s.bytes k less)
          ∙ (ap (byte_of (first_numbers m g i)) (remainder i s.bytes k less) ∙ ap (byte_of (first_numbers m g i)) zero_k))))
        where
          inside : (start n a : ℕ) → start ≤ a → a < start + n → covers start n a ≡ true
          inside start n a low high = grind (arith, nat_tests)

  -- no span reaches so far
  pub byte_past : (spans : List AddressRange) (d a : ℕ) → ((g : ℕ) (s : AddressRange) → slice_get spans g ≡ Some s → s.start + s.count * s.bytes ≤ a) → byte_in m d spans a ≡ 0
  byte_past [] d a past = refl
  byte_past (s ∷ spans) d a past =
      let below = past 0 s refl in
      let none : covers s.start (s.count * s.bytes) a ≡ false = grind (arith, nat_tests) in
      ap (λ (b : Bool). if b then byte_of (first_numbers m d ((a - s.start) / s.bytes)) ((a - s.start) % s.bytes) else byte_in m (d + 1) spans a) none ∙ byte_past spans (d + 1) a (λ g t there. past (suc g) t there)
