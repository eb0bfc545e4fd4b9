-- Where the elements of objects lie: those of globals by the layout, those of allocas in the frame; what an address names.
use Rattle.std.proofs.Common.{◌≡◌, ℕ, zero, suc, ◌+◌, ◌-◌, ◌*◌, ◌/◌, ◌%◌, ◌^◌, ◌<◌, ◌≤◌, Bool, true, false, ◌&&◌, inl, inr, List, [], ◌∷◌, ◌++◌, Option, Some, None, flat_map, refl, sym, ap, ◌∙◌, subst, arith, slice_get}
use Rattle.std.specs.Prelude.{if◌then◌else◌, nat_eq, nat_le, nat_lt, sum_by, IsTrue}
use Rattle.std.proofs.Math.Nat.{div-mul-le_self, mod-eq-sub-div-mul, mul-div_cancel, mul-le-mul_right, mul-mod_left}
use Rattle.std.proofs.lemmas.Bool.{and_from, and_parts, cases_Bool, true≢false}
use Rattle.std.proofs.lemmas.Bool.Decides.{nat_tests}
use Rattle.std.proofs.lemmas.List.Sums.{sum_by-cons}
use Rattle.std.proofs.lemmas.Option.{none-some, same_Some, slice_get-get_or}
use Rattle.ax_layout.specs.declared.address_range.AddressRange.{AddressRange}
use Rattle.ax_layout.specs.Layout.{HasElement, LayoutState, address_in, bytes_in, count_in, nowhere, span_in}
use Rattle.ax_map.specs.Map.{covers}
use Rattle.ax_layout.specs.Regions.{AllLie, AreApart, AreThoseOfTheModule}
use Rattle.ax_module.specs.declared.inst.Inst.{Inst}
use Rattle.ax_module.specs.declared.inst.Inst.TheVariants as inst
use Rattle.ax_module.specs.declared.module.Block.{Block}
use Rattle.ax_module.specs.declared.module.Function.{Function}
use Rattle.ax_module.specs.declared.module.Global.{Global}
use Rattle.ax_module.specs.declared.module.Module.{Module}
use Rattle.ax_module.specs.declared.types.Ty.{Ty}
use Rattle.ax_module.specs.declared.types.Ty.TheVariants.{I1, I8, I16, I32, I64, I128, Int, Float, Double, Ptr, Vector}
use Rattle.ax_module.specs.Types.{type_bytes}
use Rattle.ax_source_run.specs.SourceAccess.{is_native_element}
use Rattle.ax_source_run.specs.SourcePointers.{blocks_in, elements_of, elements_of_alloca, elements_of_global, insts_of}
use Rattle.ax_source_run.specs.SourceState.{Object, Private, Shared, SourceProgram}
use Rattle.ax_mid.specs.declared.code.Mid.{Mid}
use Rattle.ax_mid.specs.declared.code.MidGlobal.{MidGlobal}
use Rattle.ax_mid.specs.declared.registers.Virtual.{Virtual}
use Rattle.ax_mid.specs.Processor.{MidProcessor}
use Rattle.ax_mid.specs.Spots.{Element, Own, element_at, frame_bytes, holds, is_own, spot_of}
use Rattle.ax_rules.specs.Limits.{alloca_bytes, bytes_of_allocas}
use Rattle.ax_rules.specs.Width.{is_odd}
use Rattle.ax_selected.specs.Addresses.{frame_offset, offset_in, rounded_bytes}
use Rattle.ax_selected.specs.Laid.{IsLaid}
use Rattle.ax_selected.specs.Selected.{globals_from, mid_global}
use Rattle.ax_selected.proofs.Entering.{IsInRow}
use Rattle.ax_selected.proofs.Frames.{ends}

-- ---- tests
pub le_true : (a b : ℕ) → a ≤ b → nat_le a b ≡ true
le_true a b h = grind (arith, nat_tests)

pub lt_true : (a b : ℕ) → a < b → nat_lt a b ≡ true
lt_true a b h = grind (arith, nat_tests)

pub eq_true : (a b : ℕ) → a ≡ b → nat_eq a b ≡ true
eq_true a b h = grind (arith, nat_tests, h)

pub le_of : (a b : ℕ) → nat_le a b ≡ true → a ≤ b
le_of a b h = grind (arith, nat_tests)

pub lt_of : (a b : ℕ) → nat_lt a b ≡ true → a < b
lt_of a b h = grind (arith, nat_tests)

pub eq_of : (a b : ℕ) → nat_eq a b ≡ true → a ≡ b
eq_of a b h = grind (arith, nat_tests)

le_false : (a b : ℕ) → b < a → nat_le a b ≡ false
le_false a b h = grind (arith, nat_tests)

-- ---- the frame
whole_alloca : (x : Inst) → rounded_bytes (elements_of_alloca (Some x)) ≡ alloca_bytes x
unfolding elements_of_alloca alloca_bytes
whole_alloca (inst.Alloca t count align) = refl
whole_alloca _ = refl

-- the bytes of all allocas
abbrev all_bytes : List Inst → ℕ
all_bytes [] = 0
all_bytes (x ∷ insts) = rounded_bytes (elements_of_alloca (Some x)) + all_bytes insts

within_all : (insts : List Inst) (r : ℕ) → offset_in insts r + rounded_bytes (elements_of_alloca (slice_get insts r)) ≤ all_bytes insts
unfolding elements_of_alloca
within_all [] r = omega arith
within_all (x ∷ insts) zero = omega arith
within_all (x ∷ insts) (suc r) = let more = within_all insts r in omega (arith, more)

all_append : (xs ys : List Inst) → all_bytes (xs ++ ys) ≡ all_bytes xs + all_bytes ys
all_append [] ys = omega arith
all_append (x ∷ xs) ys = let e = all_append xs ys in omega (arith, e)

all_sum : (insts : List Inst) → all_bytes insts ≡ sum_by alloca_bytes insts
all_sum [] = refl
all_sum (x ∷ insts) =
    let a = whole_alloca x in
    let b = all_sum insts in
    let c = sum_by-cons alloca_bytes x insts in
    omega (arith, a, b, c)

all_blocks : (blocks : List Block) → all_bytes (flat_map (λ (block : Block). block.insts) blocks) ≡ sum_by (λ (b : Block). sum_by alloca_bytes b.insts) blocks
all_blocks [] = refl
all_blocks (y ∷ blocks) =
    let rest = flat_map (λ (block : Block). block.insts) blocks in
    let a = all_append y.insts rest in
    let b = all_blocks blocks in
    let c = all_sum y.insts in
    let d = sum_by-cons (λ (b : Block). sum_by alloca_bytes b.insts) y blocks in
    omega (arith, a, b, c, d)

-- allocas begin at multiples of 16
record IsSixteens (n : ℕ) : Type 0 where
  times : ℕ
  is : n ≡ 16 * times

sixteens : (insts : List Inst) (r : ℕ) → IsSixteens (offset_in insts r)
sixteens [] r = record { times = 0; is = refl }
sixteens (x ∷ insts) zero = record { times = 0; is = refl }
sixteens (x ∷ insts) (suc r) =
    let more = sixteens insts r in
    let e = elements_of_alloca (Some x) in
    let n = e.count * type_bytes e.elem in
    let is = more.is in
    record { times = (n + 15) / 16 + more.times; is = omega (arith, is) }

multiples : (t : Ty) (q j : ℕ) → is_odd t ≡ false → (16 * q + j * type_bytes t) % type_bytes t ≡ 0
multiples I1 q j h = omega arith
multiples I8 q j h = omega arith
multiples I16 q j h = omega arith
multiples I32 q j h = omega arith
multiples I64 q j h = omega arith
multiples I128 q j h = omega arith
multiples (Int bits) q j h = absurd (true≢false h)
multiples Float q j h = omega arith
multiples Double q j h = omega arith
multiples Ptr q j h = omega arith
multiples Vector q j h = omega arith

-- bytes of the frame, at a multiple of their size
pub own_at : (globals : List MidGlobal) (base x n : ℕ) → x + n ≤ 32768 → x % n ≡ 0 → spot_of globals base (base + x) n ≡ Own x
own_at globals base x n within whole =
    let back : base + x - base ≡ x = omega arith in
    let first = le_true base (base + x) (omega arith) in
    let last = le_true (base + x + n) (base + 32768) (omega (arith, within)) in
    let multiple = eq_true ((base + x - base) % n) 0 (ap (λ (y : ℕ). y % n) back ∙ whole) in
    let own : is_own base (base + x) n ≡ true = and_from (nat_le base (base + x) && nat_le (base + x + n) (base + 32768)) (nat_eq ((base + x - base) % n) 0) (and_from (nat_le base (base + x)) (nat_le (base + x + n) (base + 32768)) first last) multiple in
    ap (λ (b : Bool). if b then Own (base + x - base) else element_at globals 0 (base + x) n) own ∙ ap Own back

-- ---- globals
-- the first global that holds an address
found_at : (globals : List MidGlobal) (d g : ℕ) (x : MidGlobal) (a n : ℕ) → slice_get globals g ≡ Some x → holds x a n ≡ true → ((h : ℕ) (y : MidGlobal) → h < g → slice_get globals h ≡ Some y → holds y a n ≡ false) → element_at globals d a n ≡ Element (d + g) ((a - x.address) / x.bytes)
found_at [] d g x a n e h none = absurd (none-some x e)
found_at (y ∷ globals) d zero x a n e h none =
    let same = same_Some y x e in
    let here : holds y a n ≡ true = ap (λ (z : MidGlobal). holds z a n) same ∙ h in
    let at : d ≡ d + 0 = omega arith in
    ap (λ (b : Bool). if b then Element d ((a - y.address) / y.bytes) else element_at globals (d + 1) a n) here
    ∙ (ap (λ (z : MidGlobal). Element d ((a - z.address) / z.bytes)) same ∙ ap (λ (q : ℕ). Element q ((a - x.address) / x.bytes)) at)
found_at (y ∷ globals) d (suc g) x a n e h none =
    let not_here = none 0 y (omega arith) refl in
    let at : d + 1 + g ≡ d + suc g = omega arith in
    ap (λ (b : Bool). if b then Element d ((a - y.address) / y.bytes) else element_at globals (d + 1) a n) not_here
    ∙ (found_at globals (d + 1) g x a n e h (λ q z lt there. none (suc q) z (omega (arith, lt)) there) ∙ ap (λ (q : ℕ). Element q ((a - x.address) / x.bytes)) at)

-- a multiple of b below count * b
below_count : (x b count : ℕ) → 0 < b → x < count * b → x / b < count
below_count x b count some less = by (nat_lt (x / b) count) refl
  where
    by : (t : Bool) → nat_lt (x / b) count ≡ t → x / b < count
    by true e = lt_of (x / b) count e
    by false e =
        let ge : count ≤ x / b = not_lt (x / b) count e in
        let more = mul-le-mul_right {m = count} {n = x / b} b ge in
        let down = div-mul-le_self x b in
        absurd (omega (arith, less, more, down))
      where
        not_lt : (p q : ℕ) → nat_lt p q ≡ false → q ≤ p
        not_lt p q h = grind (arith, nat_tests)

pub whole_again : (x b : ℕ) → x % b ≡ 0 → x / b * b ≡ x
whole_again x b h =
    let parts = mod-eq-sub-div-mul x b in
    let down = div-mul-le_self x b in
    omega (arith, h, parts, down)

within_row : (j count b : ℕ) → j < count → j * b + b ≤ count * b
within_row j count b lt = let e = mul-le-mul_right {m = suc j} {n = count} b lt in omega (arith, e)

module _ (program : SourceProgram) where
  pub globals_get : (spans : List AddressRange) (d g : ℕ) (x : AddressRange) → slice_get spans g ≡ Some x → slice_get (globals_from program d spans) g ≡ Some (mid_global program program.layout (d + g) x)
  globals_get [] d g x e = absurd (none-some x e)
  globals_get (y ∷ spans) d zero x e =
      let at : d ≡ d + 0 = omega arith in
      ap (λ (z : AddressRange). Some (mid_global program program.layout d z)) (same_Some y x e) ∙ ap (λ (q : ℕ). Some (mid_global program program.layout q x)) at
  globals_get (y ∷ spans) d (suc g) x e =
      let at : d + 1 + g ≡ d + suc g = omega arith in
      globals_get spans (d + 1) g x e ∙ ap (λ (q : ℕ). Some (mid_global program program.layout q x)) at

  -- what is known of the layout of an accepted module
  pub record IsLaidAsIs : Type 0 where
    pub those : AreThoseOfTheModule program.source program.layout
    pub lie : AllLie program.source program.layout
    pub apart : AreApart program.source program.layout

  module _ (as_is : IsLaidAsIs) where
    abbrev layout : LayoutState
    layout = program.layout

    has_element : (g j : ℕ) (v : Global) → slice_get program.source.globals g ≡ Some v → j < v.count → HasElement layout g j
    has_element g j v e lt = let t = as_is.those g v e in record { global = t.within; element = subst (λ (n : ℕ). j < n) (sym t.count) lt }

    sum_row : (start x b j : ℕ) → x ≡ b → start + j * x ≡ start + 0 * x + j * b
    sum_row start x b j e = ap (λ (y : ℕ). start + j * y) e ∙ (row start b j ∙ ap (λ (y : ℕ). start + 0 * y + j * b) (sym e))
      where
        row : (s y n : ℕ) → s + n * y ≡ s + 0 * y + n * y
        row s y n = omega arith

    module _ (code : Mid Virtual) (begins : ℕ → ℕ → ℕ → ℕ) (laid : IsLaid program code.lines begins) (most base : ℕ) (enough : 512 ≤ most) (f k : ℕ) (c : MidProcessor) where
      shared_row : (g : ℕ) (o : Option Global) → slice_get program.source.globals g ≡ o → (j : ℕ) → j < (elements_of_global o).count → (address_in layout g j ≡ address_in layout g 0 + j * type_bytes (elements_of_global o).elem) × (address_in layout g j < 2 ^ 64)
      shared_row g None e j lt = absurd (omega (arith, lt))
      shared_row g (Some v) e j lt =
          let t = as_is.those g v e in
          let l = as_is.lie g j (has_element g j v e lt) in
          let last = l.last in
          let limit = l.limit in
          (sum_row (span_in layout g).start (span_in layout g).bytes (type_bytes v.elem) j t.bytes, omega (arith, last, limit))

      abbrev Row : Object → Type 0
      Row = IsInRow program code begins laid most base enough f k c

      shared_in_row : (g : ℕ) → Row (Shared g)
      shared_in_row g = record {
        row = λ j lt. (shared_row g (slice_get program.source.globals g) refl j lt).0;
        small = λ j lt. (shared_row g (slice_get program.source.globals g) refl j lt).1;
      }

      module _ (few : (r : ℕ) → frame_offset program.source f r + rounded_bytes (elements_of program.source f (Private r)) ≤ 32768) (high : base + 114688 < 2 ^ 64) where
        private_in_row : (r : ℕ) → Row (Private r)
        private_in_row r = record {
          row = λ j lt. row base (frame_offset program.source f r) j (type_bytes (elements_of program.source f (Private r)).elem);
          small = λ j lt. let e = ends program.source f r j lt in let b = few r in omega (arith, e, b, high);
        }
          where
            row : (b o j n : ℕ) → b + (o + j * n) ≡ b + (o + 0 * n) + j * n
            row b o j n = omega arith

        pub in_row : (object : Object) → Row object
        in_row (Shared g) = shared_in_row g
        in_row (Private r) = private_in_row r

    -- ---- an element of a native global, by its address
    module _ (g j n : ℕ) (v : Global) (e : slice_get program.source.globals g ≡ Some v) (lt : j < v.count) (size : bytes_in layout g ≡ n) (native : is_native_element program g 0 ≡ true) where
      abbrev span : AddressRange
      span = span_in layout g

      abbrev a : ℕ
      a = address_in layout g j

      lies : (1 ≤ bytes_in layout g) × (address_in layout g j + bytes_in layout g ≤ 1114112)
      lies =
          let l = as_is.lie g j (has_element g j v e lt) in
          let some = l.some in
          let last = l.last in
          let limit = l.limit in
          (omega (arith, some), omega (arith, last, limit))

      in_spans : slice_get layout.spans g ≡ Some span
      in_spans = slice_get-get_or layout.spans g nowhere (as_is.those g v e).within

      abbrev x : MidGlobal
      x = mid_global program layout (0 + g) span

      is_first : holds x a n ≡ true
      is_first =
          let t = as_is.those g v e in
          let some = lies.0 in
          let count = t.count in
          let row = within_row j (count_in layout g) (bytes_in layout g) (subst (λ (q : ℕ). j < q) (sym t.count) lt) in
          let back : a - span.start ≡ j * span.bytes = omega arith in
          let zero : 0 + g ≡ g = omega arith in
          let first = le_true span.start a (omega arith) in
          let last = lt_true a (span.start + span.count * span.bytes) (omega (arith, row, some)) in
          let sizes = eq_true span.bytes n size in
          let multiple = eq_true ((a - span.start) % span.bytes) 0 (ap (λ (y : ℕ). y % span.bytes) back ∙ mul-mod_left j span.bytes) in
          and_from (nat_le span.start a && nat_lt a (span.start + span.count * span.bytes) && nat_eq span.bytes n && x.native) (nat_eq ((a - span.start) % span.bytes) 0)
          (and_from (nat_le span.start a && nat_lt a (span.start + span.count * span.bytes) && nat_eq span.bytes n) x.native
          (and_from (nat_le span.start a && nat_lt a (span.start + span.count * span.bytes)) (nat_eq span.bytes n) (and_from (nat_le span.start a) (nat_lt a (span.start + span.count * span.bytes)) first last) sizes) (ap (λ (q : ℕ). is_native_element program q 0) zero ∙ native)) multiple

      covered : (y b : ℕ) → y ≡ a → 0 < b → IsTrue (covers y b a)
      covered y b same some = and_from (nat_le y a) (nat_lt a (y + b)) (le_true y a (omega (arith, same))) (lt_true a (y + b) (omega (arith, same, some)))

      -- no other global holds its first byte
      not_before : (h : ℕ) (y : MidGlobal) → h < g → slice_get (globals_from program 0 layout.spans) h ≡ Some y → holds y a n ≡ false
      not_before h y less there = elim (cases_Bool (holds y a n)) [ inl held ↦ absurd (never held) | inr e ↦ e ]
        where
          there_span : slice_get layout.spans h ≡ Some (span_in layout h)
          there_span = let w = (as_is.those g v e).within in slice_get-get_or layout.spans h nowhere (omega (arith, less, w))

          is_h : y ≡ mid_global program layout (0 + h) (span_in layout h)
          is_h = same_Some y (mid_global program layout (0 + h) (span_in layout h)) (sym there ∙ globals_get layout.spans 0 h (span_in layout h) there_span)

          never : holds y a n ≡ true → ⊥
          never held =
              let z = mid_global program layout (0 + h) (span_in layout h) in
              let held_h : holds z a n ≡ true = ap (λ (q : MidGlobal). holds q a n) (sym is_h) ∙ held in
              let p = and_parts (nat_le z.address a && nat_lt a (z.address + z.count * z.bytes) && nat_eq z.bytes n && z.native) (nat_eq ((a - z.address) % z.bytes) 0) held_h in
              let q = and_parts (nat_le z.address a && nat_lt a (z.address + z.count * z.bytes) && nat_eq z.bytes n) z.native p.0 in
              let r = and_parts (nat_le z.address a && nat_lt a (z.address + z.count * z.bytes)) (nat_eq z.bytes n) q.0 in
              let s = and_parts (nat_le z.address a) (nat_lt a (z.address + z.count * z.bytes)) r.0 in
              let from = le_of z.address a s.0 in
              let to = lt_of a (z.address + z.count * z.bytes) s.1 in
              let sized = eq_of z.bytes n r.1 in
              let whole = whole_again (a - z.address) z.bytes (eq_of ((a - z.address) % z.bytes) 0 p.1) in
              let own = lies.0 in
              let some : 0 < z.bytes = omega (arith, sized, size, own) in
              let i = (a - z.address) / z.bytes in
              let within : i < z.count = below_count (a - z.address) z.bytes z.count some (omega (arith, from, to)) in
              let at : address_in layout h i ≡ a = omega (arith, whole, from) in
              let w = (as_is.those g v e).within in
              let there_h : HasElement layout h i = record { global = omega (arith, less, w); element = within } in
              let same = (as_is.apart h i g j a there_h (has_element g j v e lt) (covered (address_in layout h i) (bytes_in layout h) at some) (covered a (bytes_in layout g) refl (omega (arith, own)))).0 in
              omega (arith, same, less)

      pub element_spot : (base : ℕ) → 2 ^ 24 ≤ base → spot_of (globals_from program 0 layout.spans) base a n ≡ Element g j
      element_spot base above =
          let l = lies.1 in
          let below = le_false base a (omega (arith, above, l)) in
          let own : is_own base a n ≡ false = ap (λ (b : Bool). b && nat_le (a + n) (base + frame_bytes) && nat_eq ((a - base) % n) 0) below in
          let some = lies.0 in
          let back : a - span.start ≡ j * span.bytes = omega arith in
          let index : (a - span.start) / span.bytes ≡ j = ap (λ (y : ℕ). y / span.bytes) back ∙ mul-div_cancel j (omega (arith, some)) in
          let zero : 0 + g ≡ g = omega arith in
          ap (λ (b : Bool). if b then Own (a - base) else element_at (globals_from program 0 layout.spans) 0 a n) own
          ∙ (found_at (globals_from program 0 layout.spans) 0 g x a n (globals_get layout.spans 0 g span in_spans) is_first not_before
          ∙ (ap (λ (q : ℕ). Element (0 + g) q) index ∙ ap (λ (q : ℕ). Element q j) zero))

-- ---- the frame of a function of an accepted module
pub few_bytes : (m : Module) (n : ℕ) (f : Function) → slice_get m.functions n ≡ Some f → bytes_of_allocas f ≤ 32768 → (r : ℕ) → frame_offset m n r + rounded_bytes (elements_of m n (Private r)) ≤ 32768
few_bytes m n f at most r =
    let all = flat_map (λ (block : Block). block.insts) f.blocks in
    let insts : insts_of m n ≡ all = ap (λ (o : Option Function). flat_map (λ (block : Block). block.insts) (blocks_in o)) at in
    let within = within_all all r in
    let sum = all_blocks f.blocks in
    subst (λ (is : List Inst). offset_in is r + rounded_bytes (elements_of_alloca (slice_get is r)) ≤ 32768) (sym insts) (omega (arith, within, sum, most))

pub own_multiple : (m : Module) (f r j : ℕ) (t : Ty) → is_odd t ≡ false → (frame_offset m f r + j * type_bytes t) % type_bytes t ≡ 0
own_multiple m f r j t h =
    let s = sixteens (insts_of m f) r in
    ap (λ (o : ℕ). (o + j * type_bytes t) % type_bytes t) s.is ∙ multiples t s.times j h
