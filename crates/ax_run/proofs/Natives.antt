-- Bytes of native objects, global by global, and how many stores to them wait.
use Rattle.std.proofs.Common.{◌≡◌, ℕ, ◌+◌, ◌-◌, ◌*◌, ◌/◌, ◌<◌, ◌≤◌, Bool, true, false, ◌&&◌, ◌||◌, List, [], ◌∷◌, ◌++◌, length, drop, refl, sym, ap, ◌∙◌, arith, add-one, drop-cons, drop_of_length-le}
use Rattle.std.specs.Prelude.{if◌then◌else◌, nat_lt}
use Rattle.std.proofs.lemmas.Bool.Decides.{nat_tests}
use Rattle.std.proofs.Math.Nat.{div-lt_iff_lt-mul}
use Rattle.ax_map.specs.Map.{covers}
use Rattle.ax_store.specs.declared.entry.Entry.{Entry}
use Rattle.ax_layout.specs.declared.address_range.AddressRange.{AddressRange}
use Rattle.ax_layout.specs.Layout.{address_in, bytes_in, nowhere, span_in}
use Rattle.ax_source_run.specs.SourceAccess.{is_native_element}
use Rattle.ax_source_run.specs.SourceState.{SourceProgram}
use Rattle.ax_agree.specs.Agree.{is_native_byte, is_native_entry, native_entries}
use Rattle.ax_run.specs.Objects.{is_native_in}

-- ---- one global
covers_not : (s n a : ℕ) → a < s → false ≡ covers s n a
covers_not s n a h = grind (arith, nat_tests, h)

covers_behind : (s n a : ℕ) → s + n ≤ a → false ≡ covers s n a
covers_behind s n a h = grind (arith, nat_tests, h)

covers_it : (s n a : ℕ) → s ≤ a → a < s + n → covers s n a ≡ true
covers_it s n a low high = grind (arith, nat_tests)

module _ (program : SourceProgram) (g a start bytes : ℕ) (first : start ≡ address_in program.layout g 0) (size : bytes ≡ bytes_in program.layout g) where
  abbrev span : AddressRange
  span = span_in program.layout g

  begins : start ≡ span.start
  begins = (let e = first in omega (arith, e))

  pub before : a < start → false ≡ is_native_in program g a
  before h = ap (λ b. b && is_native_element program g ((a - span.start) / span.bytes)) (covers_not span.start (span.count * span.bytes) a (let e = begins in omega (arith, h, e)))

  index : (a - start) / bytes ≡ (a - span.start) / span.bytes
  index = ap (λ s. (a - s) / bytes) begins ∙ ap (λ n. (a - span.start) / n) size

  module _ (some : 0 < bytes) (from : start ≤ a) where
    there : 0 < span.bytes
    there = (let e = size in omega (arith, e, some))

    pub behind : span.count ≤ (a - start) / bytes → false ≡ is_native_in program g a
    behind h = ap (λ b. b && is_native_element program g ((a - span.start) / span.bytes)) (covers_behind span.start (span.count * span.bytes) a (far (nat_lt a (span.start + span.count * span.bytes)) refl))
      where
        far : (t : Bool) → nat_lt a (span.start + span.count * span.bytes) ≡ t → span.start + span.count * span.bytes ≤ a
        far false e = grind (arith, nat_tests, e)
        far true e =
            let low = begins in
            let near : a < span.start + span.count * span.bytes = grind (arith, nat_tests, e) in
            let less : (a - span.start) / span.bytes < span.count = (div-lt_iff_lt-mul {k = span.bytes} {x = a - span.start} {y = span.count} there).1 (omega (arith, near, from, low)) in
            absurd (let e2 = index in omega (arith, less, h, e2))

    pub inside : (a - start) / bytes < span.count → is_native_element program g ((a - start) / bytes) ≡ is_native_in program g a
    inside h =
        let low = begins in
        let e2 = index in
        let less : (a - span.start) / span.bytes < span.count = omega (arith, h, e2) in
        let near : a - span.start < span.count * span.bytes = (div-lt_iff_lt-mul {k = span.bytes} {x = a - span.start} {y = span.count} there).0 less in
        ap (is_native_element program g) index
        ∙ sym (ap (λ b. b && is_native_element program g ((a - span.start) / span.bytes)) (covers_it span.start (span.count * span.bytes) a (omega (arith, from, low)) (omega (arith, near, from, low))))

-- ---- all globals
module _ (program : SourceProgram) (a : ℕ) where
  abbrev from : ℕ → Bool
  from g = is_native_byte program g (drop g program.layout.spans) a

  next : (g : ℕ) → g < length program.layout.spans → from g ≡ (is_native_in program g a || from (g + 1))
  next g less =
      ap (λ spans. is_native_byte program g spans a) (drop-cons program.layout.spans g nowhere less)
      ∙ ap (λ (n : ℕ). is_native_in program g a || is_native_byte program (g + 1) (drop n program.layout.spans) a) (sym (add-one g))

  pub one_is : (g : ℕ) → g < length program.layout.spans → true ≡ is_native_in program g a → from g ≡ true
  one_is g less h = next g less ∙ ap (λ b. b || from (g + 1)) (sym h)

  pub one_not : (g : ℕ) → g < length program.layout.spans → false ≡ is_native_in program g a → from (g + 1) ≡ from g
  one_not g less h = sym (next g less ∙ ap (λ b. b || from (g + 1)) (sym h))

  pub none_left : (g : ℕ) → length program.layout.spans ≤ g → from g ≡ false
  none_left g past = ap (λ spans. is_native_byte program g spans a) (drop_of_length-le program.layout.spans past)

-- ---- stores that wait
abbrev pub one_if : Bool → ℕ
one_if t = if t then 1 else 0

module _ (program : SourceProgram) where
  abbrev pub count : List Entry → ℕ
  count es = length (native_entries program es)

  count_by : (t : Bool) (e : Entry) (es : List Entry) → length (if t then e ∷ native_entries program es else native_entries program es) ≡ one_if t + count es
  count_by true e es = omega arith
  count_by false e es = omega arith

  pub count_first : (e : Entry) (es : List Entry) → count (e ∷ es) ≡ one_if (is_native_entry program e) + count es
  count_first e es = count_by (is_native_entry program e) e es

  pub count_last : (es : List Entry) (e : Entry) → count (es ++ e ∷ []) ≡ count es + one_if (is_native_entry program e)
  count_last [] e = let h = count_first e [] in omega (arith, h)
  count_last (y ∷ es) e =
      let h = count_first y (es ++ e ∷ []) in
      let k = count_first y es in
      let rest = count_last es e in
      omega (arith, h, k, rest)
