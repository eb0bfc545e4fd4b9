-- Accesses without a routine: their objects are native, and lie at multiples of their size.
use Rattle.std.proofs.Common.{◌≡◌, ℕ, ◌*◌, ◌/◌, ◌%◌, ◌≤◌, Bool, true, false, ◌&&◌, ◌||◌, inl, inr, List, [], ◌∷◌, Option, Some, None, refl, sym, ap, ◌∙◌, arith}
use Rattle.std.specs.Prelude.{if◌then◌else◌, nat_eq, nat_le, nat_lt}
use Rattle.std.specs.List.{list_all, list_any}
use Rattle.std.proofs.Math.Nat.{add-mul-mod_self_right, mul_assoc, mul-mod_left}
use Rattle.std.proofs.lemmas.Bool.{and_from, and_parts, eqb-true, or_cases, true≢false, false≢true}
use Rattle.ax_layout.specs.declared.classes.Class.TheVariants.{Native, Locked}
use Rattle.ax_layout.specs.Classes.{class_of}
use Rattle.ax_layout.specs.Layout.{LayoutState, address_in, alignments, bytes_in, span_in}
use Rattle.ax_module.specs.declared.types.Ty.{Ty}
use Rattle.ax_module.specs.declared.types.Ty.TheVariants.{I1, I8, I16, I32, I64, I128, Int, Float, Double, Ptr, Vector}
use Rattle.ax_module.specs.Types.{type_bytes}
use Rattle.ax_module.specs.WellFormed.{is_bit}
use Rattle.ax_source_run.specs.SourceAccess.{is_native_class, is_native_element}
use Rattle.ax_source_run.specs.SourceInstructions.{width_of}
use Rattle.ax_source_run.specs.SourceState.{SourceProgram}
use Rattle.ax_source_run.specs.SourceValues.{type_bits}
use Rattle.ax_mid.specs.Machine.{is_wide}
use Rattle.ax_rules.specs.declared.facts.Extent.{Extent}
use Rattle.ax_access_rules.specs.Alignment.{are_aligned, is_locked_class}
use Rattle.ax_rules.specs.Constants.{is_multiple}
use Rattle.ax_rules.specs.Kind.{is_other}
use Rattle.ax_rules.specs.Width.{is_i128, is_odd}
use Rattle.ax_target.specs.declared.decision.Way.{Way}
use Rattle.ax_target.specs.declared.decision.Way.TheVariants.{Sized, Generic}
use Rattle.ax_target.specs.Decisions.{is_native}
use Rattle.ax_target.specs.Targets.{greatest_native}
use Rattle.ax_words.specs.declared.width.Width.{Width}
use Rattle.ax_words.specs.declared.width.Width.TheVariants.{W8, W16, W32, W64, W128}
use Rattle.ax_words.specs.Width.{bits_of, bytes_of}
use Rattle.ax_selected.specs.Direct.{is_direct_way}
use Rattle.ax_selected.specs.Operands.{is_narrow}
use Rattle.ax_selected.proofs.Lying.{eq_of, eq_true, le_of, lt_of, whole_again}

-- ---- types of accesses
pub width_bits : (t : Ty) → is_odd t ≡ false → is_other t ≡ false → is_bit t ≡ false → bits_of (width_of t) ≡ type_bits t
width_bits I1 o k b = absurd (true≢false b)
width_bits I8 o k b = refl
width_bits I16 o k b = refl
width_bits I32 o k b = refl
width_bits I64 o k b = refl
width_bits I128 o k b = refl
width_bits (Int bits) o k b = absurd (true≢false o)
width_bits Float o k b = absurd (true≢false k)
width_bits Double o k b = absurd (true≢false k)
width_bits Ptr o k b = absurd (true≢false k)
width_bits Vector o k b = absurd (true≢false k)

pub width_bytes : (t : Ty) → is_odd t ≡ false → is_other t ≡ false → is_bit t ≡ false → bytes_of (width_of t) ≡ type_bytes t
width_bytes I1 o k b = absurd (true≢false b)
width_bytes I8 o k b = refl
width_bytes I16 o k b = refl
width_bytes I32 o k b = refl
width_bytes I64 o k b = refl
width_bytes I128 o k b = refl
width_bytes (Int bits) o k b = absurd (true≢false o)
width_bytes Float o k b = absurd (true≢false k)
width_bytes Double o k b = absurd (true≢false k)
width_bytes Ptr o k b = absurd (true≢false k)
width_bytes Vector o k b = absurd (true≢false k)

pub narrow_width : (t : Ty) → is_narrow t ≡ true → is_wide (width_of t) ≡ false
narrow_width I128 e = absurd (false≢true e)
narrow_width _ e = refl

pub large_width : (t : Ty) → is_odd t ≡ false → is_narrow t ≡ false → is_wide (width_of t) ≡ true
large_width I128 o e = refl
large_width (Int bits) o e = absurd (true≢false o)
large_width _ o e = absurd (true≢false e)

-- a type of at most 64 bits, or that of 128
pub some_bits : (t : Ty) → is_odd t ≡ false → 1 ≤ type_bits t
some_bits I1 o = omega arith
some_bits I8 o = omega arith
some_bits I16 o = omega arith
some_bits I32 o = omega arith
some_bits I64 o = omega arith
some_bits I128 o = omega arith
some_bits (Int bits) o = absurd (true≢false o)
some_bits Float o = omega arith
some_bits Double o = omega arith
some_bits Ptr o = omega arith
some_bits Vector o = omega arith

pub wide_is : (t : Ty) → is_odd t ≡ false → is_narrow t ≡ false → t ≡ I128
wide_is I128 o e = refl
wide_is (Int bits) o e = absurd (true≢false o)
wide_is _ o e = absurd (true≢false e)

pub narrow_128 : (t : Ty) → is_odd t ≡ false → is_i128 t ≡ false → is_narrow t ≡ true
narrow_128 I128 o e = absurd (true≢false e)
narrow_128 (Int bits) o e = absurd (true≢false o)
narrow_128 _ o e = refl

-- ---- ways
pub direct_native : (b c : Bool) (w : Way) → is_direct_way (if b then w else if c then Sized else Generic) ≡ true → b ≡ true
direct_native true c w h = refl
direct_native false true w h = absurd (false≢true h)
direct_native false false w h = absurd (false≢true h)

-- ---- alignments are powers of two
any_of : (p : ℕ → Bool) (a : ℕ) (xs : List ℕ) → list_any (nat_eq a) xs ≡ true → list_all p xs ≡ true → p a ≡ true
any_of p a [] h all = absurd (false≢true h)
any_of p a (x ∷ xs) h all =
    elim (or_cases (nat_eq a x) (list_any (nat_eq a) xs) h) [
      | inl e ↦ ap p (eqb-true a x e) ∙ (and_parts (p x) (list_all p xs) all).0
      | inr more ↦ any_of p a xs more (and_parts (p x) (list_all p xs) all).1
    ]

abbrev fits : ℕ → ℕ → Bool
fits bytes x = nat_lt x bytes || nat_eq (x % bytes) 0

all_fit : (w : Width) → list_all (fits (bytes_of w)) alignments ≡ true
all_fit W8 = refl
all_fit W16 = refl
all_fit W32 = refl
all_fit W64 = refl
all_fit W128 = refl

pub divides : (w : Width) (align : ℕ) → list_any (nat_eq align) alignments ≡ true → bytes_of w ≤ align → align % bytes_of w ≡ 0
divides w align any le =
    elim (or_cases (nat_lt align (bytes_of w)) (nat_eq (align % bytes_of w) 0) (any_of (fits (bytes_of w)) align alignments any (all_fit w))) [
      | inl less ↦ let l = lt_of align (bytes_of w) less in absurd (omega (arith, l, le))
      | inr e ↦ eq_of (align % bytes_of w) 0 e
    ]

some_bytes : (w : Width) → 1 ≤ bytes_of w
some_bytes W8 = omega arith
some_bytes W16 = omega arith
some_bytes W32 = omega arith
some_bytes W64 = omega arith
some_bytes W128 = omega arith

multiple_of : (b : Bool) (x n : ℕ) → nat_eq n 0 ≡ b → 1 ≤ n → (if b then nat_eq x 0 else nat_eq (x % n) 0) ≡ true → x % n ≡ 0
multiple_of true x n e some h = let z = eqb-true n 0 e in absurd (omega (arith, z, some))
multiple_of false x n e some h = eq_of (x % n) 0 h

-- a multiple of a multiple
multiple_twice : (x n b : ℕ) → x % n ≡ 0 → n % b ≡ 0 → x % b ≡ 0
multiple_twice x n b h g =
    let p = whole_again x n h in
    let q = whole_again n b g in
    let same : x / n * (n / b) * b ≡ x = assoc (x / n) (n / b) b ∙ (ap (λ (y : ℕ). x / n * y) q ∙ p) in
    ap (λ (y : ℕ). y % b) (sym same) ∙ mul-mod_left (x / n * (n / b)) b
  where
    assoc : (r s t : ℕ) → r * s * t ≡ r * (s * t)
    assoc r s t = mul_assoc r s t

module _ (program : SourceProgram) where
  abbrev layout : LayoutState
  layout = program.layout

  pub native_by : (g j : ℕ) → nat_le (bytes_in layout g) (greatest_native program.target) ≡ true → (span_in layout g).start % bytes_in layout g ≡ 0 → is_native_element program g j ≡ true
  native_by g j few first =
      let row = add-mul-mod_self_right (span_in layout g).start j (bytes_in layout g) in
      let test = and_from (nat_le (bytes_in layout g) (greatest_native program.target)) (nat_eq (address_in layout g j % bytes_in layout g) 0) few (eq_true (address_in layout g j % bytes_in layout g) 0 (row ∙ first)) in
      ap (λ (b : Bool). is_native_class (if b then Native else Locked)) test

  -- of an atomic access
  one_aligned : (g : ℕ) (e : Extent) (o : Option ℕ) (n : ℕ) → are_aligned layout g e o n ≡ true → (i : ℕ) × (is_multiple (address_in layout g i) n ≡ true)
  one_aligned g e (Some i) n h = (i, h)
  one_aligned g e None n h = (0, (and_parts (is_multiple (address_in layout g 0) n) (nat_eq e.count 1 || is_multiple (type_bytes e.elem) n) h).0)

  pub atomic_native : (g j : ℕ) (e : Extent) (o : Option ℕ) (w : Width) (align : ℕ) → bytes_in layout g ≡ bytes_of w → are_aligned layout g e o align ≡ true → list_any (nat_eq align) alignments ≡ true → is_native program.target (bytes_of w) align ≡ true → is_native_element program g j ≡ true
  atomic_native g j e o w align size aligned stated native =
      let parts = and_parts (nat_le (bytes_of w) (greatest_native program.target)) (nat_le (bytes_of w) align) native in
      let le = le_of (bytes_of w) align parts.1 in
      let some = some_bytes w in
      let i = one_aligned g e o align aligned in
      let at : address_in layout g i.0 % align ≡ 0 = multiple_of (nat_eq align 0) (address_in layout g i.0) align refl (omega (arith, some, le)) i.1 in
      let own : address_in layout g i.0 % bytes_in layout g ≡ 0 = ap (λ (b : ℕ). address_in layout g i.0 % b) size ∙ multiple_twice (address_in layout g i.0) align (bytes_of w) at (divides w align stated le) in
      native_by g j (ap (λ (b : ℕ). nat_le b (greatest_native program.target)) size ∙ parts.0) (sym (add-mul-mod_self_right (span_in layout g).start i.0 (bytes_in layout g)) ∙ own)

  -- of a plain access
  unlocked : (b : Bool) → is_locked_class (if b then Native else Locked) ≡ false → b ≡ true
  unlocked true h = refl
  unlocked false h = absurd (true≢false h)

  pub plain_native : (g j n : ℕ) → bytes_in layout g ≡ n → is_locked_class (class_of (address_in layout g 0) n program.target) ≡ false → is_native_element program g j ≡ true
  plain_native g j n size h =
      let test = unlocked (nat_le n (greatest_native program.target) && nat_eq (address_in layout g 0 % n) 0) h in
      let parts = and_parts (nat_le n (greatest_native program.target)) (nat_eq (address_in layout g 0 % n) 0) test in
      let at = eq_of (address_in layout g 0 % n) 0 parts.1 in
      native_by g j (ap (λ (b : ℕ). nat_le b (greatest_native program.target)) size ∙ parts.0)
      (sym (add-mul-mod_self_right (span_in layout g).start 0 (bytes_in layout g)) ∙ (ap (λ (b : ℕ). address_in layout g 0 % b) size ∙ at))
