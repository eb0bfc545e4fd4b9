-- The globals of selected code: where they lie, and which elements of the layout they are.
use Rattle.std.proofs.Common.{◌≡◌, ℕ, zero, suc, ◌+◌, ◌*◌, ◌%◌, ◌^◌, ◌<◌, ◌≤◌, Bool, true, false, ◌&&◌, inl, inr, List, [], ◌∷◌, Option, Some, None, refl, sym, ap, ◌∙◌, subst, arith, length, slice_get}
use Rattle.std.specs.Prelude.{◌≢◌, ◌⊎◌, IsTrue, if◌then◌else◌, nat_eq, nat_le, nat_lt}
use Rattle.std.proofs.Math.Nat.{add-mul-mod_self_right, mul-le-mul_right}
use Rattle.std.proofs.lemmas.Bool.{and_parts, false≢true}
use Rattle.std.proofs.lemmas.Bool.Decides.{nat_tests}
use Rattle.std.proofs.lemmas.Option.{none-some, same_Some, slice_get-get_or, slice_get_within}
use Rattle.ax_words.specs.Width.{IsWidth}
use Rattle.ax_store.proofs.Calls.{inside_all}
use Rattle.ax_target.specs.Targets.{greatest_native}
use Rattle.ax_layout.specs.declared.classes.Class.{Class}
use Rattle.ax_layout.specs.declared.address_range.AddressRange.{AddressRange}
use Rattle.ax_layout.specs.Classes.{class_of}
use Rattle.ax_map.specs.Map.{globals_start}
use Rattle.ax_layout.specs.Layout.{HasElement, address_in, bytes_in, count_in, nowhere, span_in}
use Rattle.ax_layout.specs.Regions.{AllLie}
use Rattle.ax_source_run.specs.SourceAccess.{is_native_class, is_native_element}
use Rattle.ax_source_run.specs.SourceState.{SourceProgram}
use Rattle.ax_mid.specs.declared.code.MidGlobal.{MidGlobal}
use Rattle.ax_mid.specs.WellFormed.{GlobalsLie, IsPlaced}
use Rattle.ax_fine.specs.Near.{ArePlaced, address_of}
use Rattle.ax_fine.specs.OnBytes.{AreWords}
use Rattle.ax_selected.specs.Selected.{globals_from, mid_global, selected}
use Rattle.ax_selected.proofs.Lying.{globals_get}

lt_of : (a b : ℕ) → nat_lt a b ≡ true → a < b
lt_of a b h = grind (arith, nat_tests)

eq_of : (a b : ℕ) → nat_eq a b ≡ true → a ≡ b
eq_of a b h = grind (arith, nat_tests, h)

row : (i count b : ℕ) → i < count → i * b + b ≤ count * b
row i count b lt = let e = mul-le-mul_right {m = suc i} {n = count} b lt in omega (arith, e)

width_within : (n : ℕ) → IsWidth n → (1 ≤ n) × (n ≤ 16)
width_within n h = (grind (arith, nat_tests, h), grind (arith, nat_tests, h))

-- the span of a global
pub record IsSpan (program : SourceProgram) (g : ℕ) (x : MidGlobal) : Type 0 where
  pub span : AddressRange
  pub there : slice_get program.layout.spans g ≡ Some span
  pub is : x ≡ mid_global program program.layout g span

module _ (program : SourceProgram) where
  span_of : (spans : List AddressRange) (d g : ℕ) (x : MidGlobal) → slice_get (globals_from program d spans) g ≡ Some x → (s : AddressRange) × (slice_get spans g ≡ Some s) × (x ≡ mid_global program program.layout (d + g) s)
  span_of [] d g x e = absurd (none-some x e)
  span_of (s ∷ spans) d zero x e =
      let at : d ≡ d + 0 = omega arith in
      (s, refl, sym (same_Some (mid_global program program.layout d s) x e) ∙ ap (λ (q : ℕ). mid_global program program.layout q s) at)
  span_of (s ∷ spans) d (suc g) x e =
      let at : d + 1 + g ≡ d + suc g = omega arith in
      let rest = span_of spans (d + 1) g x e in
      (rest.0, rest.1, rest.2 ∙ ap (λ (q : ℕ). mid_global program program.layout q rest.0) at)

  pub span_is : (g : ℕ) (x : MidGlobal) → slice_get (selected program).globals g ≡ Some x → IsSpan program g x
  span_is g x e =
      let r = span_of program.layout.spans 0 g x e in
      let at : 0 + g ≡ g = omega arith in
      record { span = r.0; there = r.1; is = r.2 ∙ ap (λ (q : ℕ). mid_global program program.layout q r.0) at }

  span_there : (g : ℕ) (s : AddressRange) → slice_get program.layout.spans g ≡ Some s → span_in program.layout g ≡ s
  span_there g s e = same_Some (span_in program.layout g) s (sym (slice_get-get_or program.layout.spans g nowhere (within program.layout.spans g s e)) ∙ e)
    where
      within : (spans : List AddressRange) (g : ℕ) (s : AddressRange) → slice_get spans g ≡ Some s → g < length spans
      within [] g s e = absurd (none-some s e)
      within (x ∷ spans) zero s e = omega arith
      within (x ∷ spans) (suc g) s e = let r = within spans g s e in omega (arith, r)

  -- an element of the code's globals is one of the layout, at the same address, of the same bytes
  pub record IsSame (g i : ℕ) (x : MidGlobal) : Type 0 where
    pub has : HasElement program.layout g i
    pub address : address_of x i ≡ address_in program.layout g i
    pub bytes : x.bytes ≡ bytes_in program.layout g
    pub native : x.native ≡ is_native_element program g 0

  pub same_element : (g i : ℕ) (x : MidGlobal) → slice_get (selected program).globals g ≡ Some x → i < x.count → IsSame g i x
  same_element g i x e within =
      let s = span_is g x e in
      let span : span_in program.layout g ≡ s.span = span_there g s.span s.there in
      record {
        has = record {
          global = index_within program.layout.spans g s.span s.there;
          element = subst (λ (n : ℕ). i < n) (ap (λ (y : MidGlobal). y.count) s.is ∙ sym (ap (λ (y : AddressRange). y.count) span)) within;
        };
        address = ap (λ (y : MidGlobal). address_of y i) s.is ∙ sym (ap (λ (y : AddressRange). y.start + i * y.bytes) span);
        bytes = ap (λ (y : MidGlobal). y.bytes) s.is ∙ sym (ap (λ (y : AddressRange). y.bytes) span);
        native = ap (λ (y : MidGlobal). y.native) s.is;
      }
    where
      index_within : (spans : List AddressRange) (g : ℕ) (s : AddressRange) → slice_get spans g ≡ Some s → g < length spans
      index_within [] g s e = absurd (none-some s e)
      index_within (x ∷ spans) zero s e = omega arith
      index_within (x ∷ spans) (suc g) s e = let r = index_within spans g s e in omega (arith, r)

  -- and each element of the layout is one of the code's
  pub record IsOne (g i : ℕ) : Type 0 where
    pub global : MidGlobal
    pub there : slice_get (selected program).globals g ≡ Some global
    pub within : i < global.count

  pub one_element : (g i : ℕ) → HasElement program.layout g i → IsOne g i
  one_element g i has =
      let span = span_in program.layout g in
      let at : slice_get program.layout.spans g ≡ Some span = slice_get-get_or program.layout.spans g nowhere has.global in
      record {
        global = mid_global program program.layout g span;
        there = globals_get program program.layout.spans 0 g span at ∙ ap (λ (q : ℕ). Some (mid_global program program.layout q span)) (zero_plus g);
        within = has.element;
      }
    where
      zero_plus : (n : ℕ) → 0 + n ≡ n
      zero_plus n = omega arith

  -- ---- the globals lie where the fine machine wants them
  module _ (lie : GlobalsLie program.target (selected program)) (all_lie : AllLie program.source program.layout) (inside : ℕ → Bool) (mapped : (a : ℕ) → globals_start ≤ a → a < program.layout.end → inside a ≡ true) (words : AreWords inside) where
    native_aligned : (x : MidGlobal) → IsPlaced program.target x → x.native ≡ true → x.address % x.bytes ≡ 0
    native_aligned x at is = by (nat_le x.bytes (greatest_native program.target)) (nat_eq (x.address % x.bytes) 0) refl (sym at.class ∙ is)
      where
        by : (c d : Bool) → nat_eq (x.address % x.bytes) 0 ≡ d → is_native_class (if c && d then Rattle.ax_layout.specs.declared.classes.Class.TheVariants.Native else Rattle.ax_layout.specs.declared.classes.Class.TheVariants.Locked) ≡ true → x.address % x.bytes ≡ 0
        by true true e h = eq_of (x.address % x.bytes) 0 e
        by true false e h = absurd (false≢true h)
        by false d e h = absurd (false≢true h)

    pub placed : ArePlaced (selected program).globals inside
    placed = record {
      below = λ g x there. let b = (lie.placed g x there).below in omega (arith, b);
      sizes = λ g x there. width_within x.bytes (lie.placed g x there).size;
      mapped = λ g i x there within.
          let p = lie.placed g x there in
          let same = same_element g i x there within in
          let above = p.above in
          let last = (all_lie g i same.has).last in
          let ea = same.address in
          let eb = same.bytes in
          inside_all inside (address_of x i) x.bytes (λ k less. mapped (address_of x i + k) (omega (arith, above)) (omega (arith, last, ea, eb, less)));
      aligned = λ g i x there within native. add-mul-mod_self_right x.address i x.bytes ∙ native_aligned x (lie.placed g x there) native;
      apart = λ g h x y there other ne. apart_by g h x y there other ne (nat_lt g h) refl;
      words = words;
    }
      where
        apart_by : (g h : ℕ) (x y : MidGlobal) → slice_get (selected program).globals g ≡ Some x → slice_get (selected program).globals h ≡ Some y → g ≢ h → (b : Bool) → nat_lt g h ≡ b → (x.address + x.count * x.bytes ≤ y.address) ⊎ (y.address + y.count * y.bytes ≤ x.address)
        apart_by g h x y there other ne true e = inl (lie.apart g h x y (lt_of g h e) there other)
        apart_by g h x y there other ne false e = inr (lie.apart h g y x (grind (arith, nat_tests, ne)) other there)
