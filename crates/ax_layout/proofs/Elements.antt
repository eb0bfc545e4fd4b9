-- The elements of globals lie apart, in their region.
use Rattle.std.proofs.Common.{◌≡◌, ℕ, zero, suc, ◌+◌, ◌*◌, ◌/◌, ◌%◌, ◌≤◌, ◌<◌, false, IsTrue, List, [], ◌∷◌, length, Some, refl, sym, ap, ◌∙◌, subst, ⊎_elim, arith, ◌-◌, ◌&&◌}
use Rattle.std.specs.Prelude.{if◌then◌else◌, nat_eq, nat_le, slice_get, slice_index_or}
use Rattle.std.specs.List.{AllByRecursion}
use Rattle.std.proofs.lemmas.Bool.{cases_lt}
use Rattle.std.proofs.lemmas.Bool.Decides.{nat_tests}
use Rattle.std.proofs.lemmas.List.Elements.{recursion_from_All}
use Rattle.std.proofs.Math.Nat.{mul-le-mul_right, add-mul-mod_self_right, mul-mod_left, div-mul-le_self}
use Rattle.ax_module.specs.declared.module.Global.{Global}
use Rattle.ax_module.specs.declared.module.Module.{Module}
use Rattle.ax_module.specs.Types.{type_bytes}
use Rattle.ax_target.specs.declared.target.Target.{Target}
use Rattle.ax_target.specs.Targets.{greatest_native}
use Rattle.ax_layout.specs.declared.classes.Class.TheVariants.{Native, Locked}
use Rattle.ax_layout.specs.declared.address_range.AddressRange.{AddressRange}
use Rattle.ax_layout.specs.Classes.{class_of}
use Rattle.ax_map.specs.Map.{globals_start, in_globals, in_lock_table}
use Rattle.ax_layout.specs.Layout.{next_multiple, CanBeLaidOut, HasElement, IsLaidOut, LayoutState, address_in, alignment_of, bytes_in, count_in, end_after, end_of_span, layout_of, nowhere, span_after, span_in, spans_after}
use Rattle.ax_layout.specs.Regions.{IsNextMultiple, IsGlobalsAlone, IsThatOf, Lies, is_byte_of, is_byte_of_frame}
use Rattle.ax_layout.proofs.LockWords.{covered}
use Rattle.ax_layout.proofs.Spans.{reaches, element_some, ends_behind, grows, starts_behind}

abbrev at : List Global → ℕ → ℕ → AddressRange
at globals end g = slice_index_or (spans_after end globals) g nowhere

-- a span lies behind what is before it, and ends by the end of all
record IsInside (end limit : ℕ) (span : AddressRange) : Type 0 where
  first : end ≤ span.start
  last : end_of_span span ≤ limit
  some : 1 ≤ span.bytes

inside : (globals : List Global) (end g : ℕ) → AllByRecursion IsLaidOut globals → g < length (spans_after end globals) → IsInside end (end_after end globals) (at globals end g)
inside [] end g all h = absurd (omega arith)
inside (x ∷ xs) end zero all h = record {
  first = starts_behind end x all.0;
  last = grows xs (end_of_span (span_after end x)) all.1;
  some = element_some x.elem all.0.element;
}
inside (x ∷ xs) end (suc g) all h =
    let rest = inside xs (end_of_span (span_after end x)) g all.1 (omega arith) in
    let here = ends_behind end x all.0 in
    record { first = (let f = rest.first in omega arith); last = rest.last; some = rest.some }

ordered : (globals : List Global) (end g h : ℕ) → AllByRecursion IsLaidOut globals → g < h → h < length (spans_after end globals) → end_of_span (at globals end g) ≤ (at globals end h).start
ordered [] end g h all l m = absurd (omega arith)
ordered (x ∷ xs) end g zero all l m = absurd (omega arith)
ordered (x ∷ xs) end zero (suc h) all l m = (inside xs (end_of_span (span_after end x)) h all.1 (omega arith)).first
ordered (x ∷ xs) end (suc g) (suc h) all l m = ordered xs (end_of_span (span_after end x)) g h all.1 (omega arith) (omega arith)

-- an element ends by the next one's beginning
steps : (i j n : ℕ) → i < j → i * n + n ≤ j * n
steps i j n h = let m : (i + 1) * n ≤ j * n = mul-le-mul_right n (omega arith) in omega arith

region : (b end : ℕ) → 65536 ≤ b → b < end → end ≤ 1114112 → (p : ℕ) → (IsTrue (in_globals end b)) × (in_lock_table b ≡ false) × (is_byte_of_frame p b ≡ false)
region b end h k l p = (grind (arith, nat_tests), grind (arith, nat_tests), grind (arith, nat_tests))

same_rest : (s i j n : ℕ) → (s + i * n) % n ≡ (s + j * n) % n
same_rest s i j n = add-mul-mod_self_right s i n ∙ sym (add-mul-mod_self_right s j n)

same_class : (s i j n : ℕ) (target : Target) → class_of (s + i * n) n target ≡ class_of (s + j * n) n target
same_class s i j n target = ap (λ r. if nat_le n (greatest_native target) && nat_eq r 0 then Native else Locked) (same_rest s i j n)

-- a span is that of the module's global
record IsThat (span : AddressRange) (global : Global) : Type 0 where
  count : span.count ≡ global.count
  bytes : span.bytes ≡ type_bytes global.elem
  aligned : (span.start + 0 * span.bytes) % alignment_of global ≡ 0

is_multiple : (end : ℕ) (global : Global) (n : ℕ) → ((span_after end global).start + 0 * n) % alignment_of global ≡ 0
is_multiple end global n =
    let a = alignment_of global in
    let e : (span_after end global).start + 0 * n ≡ (span_after end global).start = omega arith in
    ap (λ x. x % a) e ∙ mul-mod_left ((end + (a - 1)) / a) a

within_from : (globals : List Global) (end g : ℕ) (global : Global) → slice_get globals g ≡ Some global → g < length (spans_after end globals)
within_from [] end g global e = cc
within_from (x ∷ xs) end zero global e = omega arith
within_from (x ∷ xs) end (suc g) global e = let r = within_from xs (end_of_span (span_after end x)) g global e in omega arith

that_from : (globals : List Global) (end g : ℕ) (global : Global) → slice_get globals g ≡ Some global → IsThat (at globals end g) global
that_from [] end g global e = cc
that_from (x ∷ xs) end zero global e = let same : x ≡ global = cc in subst (IsThat (span_after end x)) same (record { count = refl; bytes = refl; aligned = is_multiple end x (type_bytes x.elem) })
that_from (x ∷ xs) end (suc g) global e = that_from xs (end_of_span (span_after end x)) g global e

pub next : (n a : ℕ) → 1 ≤ n → IsNextMultiple n a (next_multiple n a)
next n a h = record {
  multiple = mul-mod_left ((a + (n - 1)) / n) n;
  from = reaches n a h;
  first = (let l = div-mul-le_self (a + (n - 1)) n in omega arith);
}

module _ (m : Module) (h : CanBeLaidOut m) where
  all : AllByRecursion IsLaidOut m.globals
  all = recursion_from_All IsLaidOut m.globals h.globals

  abbrev layout : LayoutState
  layout = layout_of m

  lies_inside : (g : ℕ) → g < length layout.spans → IsInside globals_start layout.end (span_in layout g)
  lies_inside g l = inside m.globals globals_start g all l

  ends : (g i : ℕ) → HasElement layout g i → address_in layout g i + bytes_in layout g ≤ end_of_span (span_in layout g)
  ends g i e = let s = steps i (count_in layout g) (bytes_in layout g) e.element in omega arith

  pub lie : (g i : ℕ) → HasElement layout g i → Lies layout g i
  lie g i e =
      let s = lies_inside g e.global in
      let n = ends g i e in
      record {
        some = s.some;
        first = (let f = s.first in omega arith);
        last = (let f = s.last in omega arith);
        limit = h.end;
      }

  pub alone : (g i b : ℕ) → HasElement layout g i → IsTrue (is_byte_of layout g i b) → IsGlobalsAlone layout b
  alone g i b e k =
      let l = lie g i e in
      let c = covered (address_in layout g i) (bytes_in layout g) b k in
      let r : (p : ℕ) → (IsTrue (in_globals layout.end b)) × (in_lock_table b ≡ false) × (is_byte_of_frame p b ≡ false) =
      region b layout.end (let f = l.first in let c0 = c.0 in omega arith) (let f = l.last in let c1 = c.1 in omega arith) l.limit in
      record { globals = (r 0).0; locks = (r 0).1; frames = λ p. (r p).2 }

  pub one_class : (g i j : ℕ) (target : Target) → HasElement layout g i → HasElement layout g j → class_of (address_in layout g i) (bytes_in layout g) target ≡ class_of (address_in layout g j) (bytes_in layout g) target
  one_class g i j target a b = same_class (span_in layout g).start i j (bytes_in layout g) target

  -- an earlier global's byte is no later one's
  earlier : (g i h j b : ℕ) → HasElement layout g i → HasElement layout h j → IsTrue (is_byte_of layout g i b) → IsTrue (is_byte_of layout h j b) → g < h → ⊥
  earlier g i h j b e f k l o =
      let c = covered (address_in layout g i) (bytes_in layout g) b k in
      let d = covered (address_in layout h j) (bytes_in layout h) b l in
      let n = ends g i e in
      let r : end_of_span (span_in layout g) ≤ (span_in layout h).start = ordered m.globals globals_start g h all o f.global in
      let c1 = c.1 in
      let d0 = d.0 in
      omega arith

  -- an earlier element's byte is no later one's
  before : (g i j b : ℕ) → IsTrue (is_byte_of layout g i b) → IsTrue (is_byte_of layout g j b) → i < j → ⊥
  before g i j b k l o =
      let c = covered (address_in layout g i) (bytes_in layout g) b k in
      let d = covered (address_in layout g j) (bytes_in layout g) b l in
      let s = steps i j (bytes_in layout g) o in
      let c1 = c.1 in
      let d0 = d.0 in
      omega arith

  one_global : (g i h j b : ℕ) → HasElement layout g i → HasElement layout h j → IsTrue (is_byte_of layout g i b) → IsTrue (is_byte_of layout h j b) → g ≡ h
  one_global g i h j b e f k l =
      ⊎_elim (λ o. absurd (earlier g i h j b e f k l o)) (λ o. ⊎_elim (λ u. absurd (earlier h j g i b f e l k u)) (λ u. omega arith) (cases_lt h g)) (cases_lt g h)

  one_element : (g i j b : ℕ) → IsTrue (is_byte_of layout g i b) → IsTrue (is_byte_of layout g j b) → i ≡ j
  one_element g i j b k l =
      ⊎_elim (λ o. absurd (before g i j b k l o)) (λ o. ⊎_elim (λ u. absurd (before g j i b l k u)) (λ u. omega arith) (cases_lt j i)) (cases_lt i j)

  pub apart : (g i h j b : ℕ) → HasElement layout g i → HasElement layout h j → IsTrue (is_byte_of layout g i b) → IsTrue (is_byte_of layout h j b) → (g ≡ h) × (i ≡ j)
  apart g i h j b e f k l =
      let o = one_global g i h j b e f k l in
      (o, one_element g i j b k (subst (λ x. IsTrue (is_byte_of layout x j b)) (sym o) l))

  pub those : (g : ℕ) (global : Global) → slice_get m.globals g ≡ Some global → IsThatOf layout g global
  those g global e =
      let t = that_from m.globals globals_start g global e in
      record { within = within_from m.globals globals_start g global e; count = t.count; bytes = t.bytes; aligned = t.aligned }
