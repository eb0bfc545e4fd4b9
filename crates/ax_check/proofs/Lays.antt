-- Where no global has a fault, there is a layout.
use Rattle.std.proofs.Common.{◌≡◌, ℕ, zero, suc, ◌+◌, ◌-◌, ◌<◌, ◌≤◌, ◌&&◌, ◌||◌, true, false, Bool, not, List, [], ◌∷◌, length, get_or, drop, Option, Some, None, refl, sym, ap, ◌∙◌, subst, arith, inl, inr, lit≤, ◌⊎◌}
use Rattle.std.specs.Prelude.{nat_eq, nat_le, nat_lt, slice_get}
use Rattle.std.specs.List.{All}
use Rattle.std.specs.Option.{option_map}
use Rattle.std.proofs.lemmas.Bool.{cases_Bool, cases_lt, cond-false, or_parts, and_parts, both_ways}
use Rattle.std.proofs.lemmas.Bool.Decides.{nat_tests}
use Rattle.std.proofs.lemmas.List.{drop_more}
use Rattle.std.proofs.lemmas.Option.{same_Some, slice_get-map, slice_get_within, none-some, get_or_from_slice_get}
use Rattle.ax_module.specs.declared.module.Function.{Function}
use Rattle.ax_module.specs.declared.module.Global.{Global}
use Rattle.ax_module.specs.declared.module.Module.{Module}
use Rattle.ax_module.specs.declared.types.Ty.{Ty}
use Rattle.ax_module.specs.declared.types.Ty.TheVariants.{I1, I8, I16, I32, I64, I128, Int, Float, Double, Ptr, Vector}
use Rattle.ax_module.specs.Types.{type_bytes}
use Rattle.ax_module.specs.WellFormed.{is_bit}
use Rattle.ax_map.specs.Map.{globals_limit, globals_start}
use Rattle.ax_layout.specs.Layout.{CanBeLaidOut, IsLaidOut, LayoutState, count_in, end_after, end_of_span, is_element_type, layout_of, span_after}
use Rattle.ax_layout.specs.Regions.{IsThatOf}
use Rattle.ax_layout.proofs.Elements.{those}
use Rattle.ax_layout.proofs.Spans.{element_some}
use Rattle.ax_rules.specs.declared.facts.Extent.{Extent}
use Rattle.ax_rules.specs.declared.facts.FunctionScope.{FunctionScope}
use Rattle.ax_access_rules.specs.Alignment.{LaysOut}
use Rattle.ax_rules.specs.Facts.{extent_of_global, scope_of}
use Rattle.ax_rules.specs.Kind.{is_other}
use Rattle.ax_rules.specs.Limits.{is_count, passes_first}
use Rattle.ax_access_rules.specs.RulesAtPoints.{are_globals_fine, has_fault_at, has_fault_from}
use Rattle.ax_rules.specs.Width.{is_odd}

element : (t : Ty) → is_odd t ≡ false → is_bit t ≡ false → is_other t ≡ false → is_element_type t ≡ true
element I1 o b k = absurd (cc)
element I8 o b k = refl
element I16 o b k = refl
element I32 o b k = refl
element I64 o b k = refl
element I128 o b k = refl
element (Int bits) o b k = absurd (cc)
element Float o b k = absurd (cc)
element Double o b k = absurd (cc)
element Ptr o b k = absurd (cc)
element Vector o b k = absurd (cc)

not_false : (b : Bool) → not b ≡ false → b ≡ true
not_false true h = refl
not_false false h = absurd (cc)

least : (n : ℕ) → is_count n ≡ true → 1 ≤ n
least n h = let q : nat_lt 0 n ≡ true = (and_parts (nat_lt 0 n) (nat_le n 65536) h).0 in grind (arith, nat_tests)

most : (n : ℕ) → is_count n ≡ true → n ≤ 65536
most n h = let q : nat_le n 65536 ≡ true = (and_parts (nat_lt 0 n) (nat_le n 65536) h).1 in grind (arith, nat_tests)

-- what a global without a fault shows
record Shows (m : Module) (g : ℕ) (v : Global) : Type 0 where
  laid : IsLaidOut v
  other : nat_eq g 256 ≡ false
  within : passes_first globals_start m.globals g ≡ false

shows : (m : Module) (g : ℕ) (v : Global) → has_fault_at m g v ≡ false → Shows m g v
shows m g v h =
    let p = or_parts _ _ h in
    let q = or_parts _ _ p.0 in
    let w = or_parts _ _ q.0 in
    let l1 = or_parts _ _ p.1 in
    let l2 = or_parts _ _ l1.0 in
    let l3 = or_parts _ _ l2.0 in
    let l4 = or_parts _ _ l3.0 in
    record {
      laid = record {
        element = element v.elem w.0 w.1 q.1;
        least = least v.count (not_false _ l4.0);
        most = most v.count (not_false _ l4.0);
        align = not_false _ l4.1;
      };
      other = l2.1;
      within = l1.1;
    }

fine_at : (m : Module) (g : ℕ) (vs : List Global) → has_fault_from m g vs ≡ false → (i : ℕ) (d : Global) → i < length vs → has_fault_at m (g + i) (get_or vs i d) ≡ false
fine_at m g [] h i d lt = absurd (omega arith)
fine_at m g (v ∷ vs) h zero d lt = let e : g ≡ g + 0 = omega arith in subst (λ (n : ℕ). has_fault_at m n v ≡ false) e (or_parts _ _ h).0
fine_at m g (v ∷ vs) h (suc i) d lt =
    let e : g + 1 + i ≡ g + suc i = omega arith in
    subst (λ (n : ℕ). has_fault_at m n (get_or vs i d) ≡ false) e (fine_at m (g + 1) vs (or_parts _ _ h).1 i d (omega arith))

below_limit : (e : ℕ) → nat_lt globals_limit e ≡ false → e ≤ globals_limit
below_limit e h = grind (arith, nat_tests)

is_below : (e : ℕ) → nat_lt globals_limit e ≡ false → nat_le e globals_limit ≡ true
is_below e h = grind (arith, nat_tests)

pass_on : (e : ℕ) (vs : List Global) (g : ℕ) → nat_le e globals_limit ≡ true → (nat_le e globals_limit && passes_first e vs (suc g - 1)) ≡ false → passes_first e vs g ≡ false
pass_on e vs g y p =
    let same : suc g - 1 ≡ g = omega arith in
    let q : (true && passes_first e vs (suc g - 1)) ≡ false = subst (λ (b : Bool). (b && passes_first e vs (suc g - 1)) ≡ false) y p in
    subst (λ (n : ℕ). passes_first e vs n ≡ false) same q

not_zero : (g : ℕ) → nat_eq (suc g) 0 ≡ false
not_zero g = grind (arith, nat_tests)

-- where none is the first to pass the limit, none passes it
ends : (vs : List Global) (end : ℕ) → end ≤ globals_limit → ((g : ℕ) → g < length vs → passes_first end vs g ≡ false) → end_after end vs ≤ globals_limit
ends [] end l h = l
ends (v ∷ vs) end l h =
    let first : nat_lt globals_limit (end_of_span (span_after end v)) ≡ false = h 0 (omega arith) in
    ends vs (end_of_span (span_after end v)) (below_limit _ first) (λ g lt. pass_on (end_of_span (span_after end v)) vs g (is_below _ first) (sym (cond-false _ _ _ (not_zero g)) ∙ h (suc g) (omega arith)))

no_fault : (m : Module) → are_globals_fine m ≡ true → has_fault_from m 0 m.globals ≡ false
no_fault m h = elim (cases_Bool (has_fault_from m 0 m.globals)) [ inl e ↦ absurd (both_ways (are_globals_fine m) (ap not e) h) | inr e ↦ e ]

shown : (m : Module) → are_globals_fine m ≡ true → (g : ℕ) (d : Global) → g < length m.globals → Shows m g (get_or m.globals g d)
shown m h g d lt =
    let f : has_fault_at m (0 + g) (get_or m.globals g d) ≡ false = fine_at m 0 m.globals (no_fault m h) g d lt in
    let e : 0 + g ≡ g = omega arith in
    shows m g (get_or m.globals g d) (subst (λ (n : ℕ). has_fault_at m n (get_or m.globals g d) ≡ false) e f)

few : (m : Module) → are_globals_fine m ≡ true → (vs : List Global) → vs ≡ m.globals → length vs ≤ 256
few m h [] e = omega arith
few m h (v ∷ vs) e =
    elim (cases_lt 256 (length (v ∷ vs))) [
      | inl l ↦ absurd (both_ways (nat_eq 256 256) (shown m h 256 v (subst (λ (ws : List Global). 256 < length ws) e l)).other refl)
      | inr g ↦ g
    ]

some_global : (vs : List Global) (g : ℕ) → g < length vs → Global
some_global [] g lt = absurd (omega arith)
some_global (v ∷ vs) g lt = v

-- the module can be laid out
pub can_be_laid_out : (m : Module) → are_globals_fine m ≡ true → CanBeLaidOut m
can_be_laid_out m h = record {
  count = few m h m.globals refl;
  globals = λ g d lt. (shown m h g d lt).laid;
  end = ends m.globals globals_start (lit≤ tt) (λ g lt. (shown m h g (some_global m.globals g lt) lt).within);
}

global_cases : (o : Option Global) → (o ≡ None) ⊎ ((v : Global) × (o ≡ Some v))
global_cases None = inl refl
global_cases (Some v) = inr (v, refl)

All-at : (vs : List Global) (g : ℕ) (v : Global) → All IsLaidOut vs → slice_get vs g ≡ Some v → IsLaidOut v
All-at vs g v h e = subst IsLaidOut (get_or_from_slice_get vs g v v e) (h g v (slice_get_within vs g v e))

-- what a function can name lies where the layout says
module _ (m : Module) (f : Function) (laid : CanBeLaidOut m) where
  named : (g : ℕ) (e : Extent) → slice_get (scope_of m f).globals g ≡ Some e → (v : Global) × (slice_get m.globals g ≡ Some v) × (e ≡ extent_of_global v)
  named g e h = elim (global_cases (slice_get m.globals g)) [
    | inl n ↦ absurd (none-some e (sym (slice_get-map extent_of_global m.globals g ∙ ap (option_map extent_of_global) n) ∙ h))
    | inr s ↦ (s.0, s.1, same_Some e (extent_of_global s.0) (sym h ∙ (slice_get-map extent_of_global m.globals g ∙ ap (option_map extent_of_global) s.1)))
  ]

  thatof : (g : ℕ) (e : Extent) (h : slice_get (scope_of m f).globals g ≡ Some e) → IsThatOf (layout_of m) g (named g e h).0
  thatof g e h = those m laid g (named g e h).0 (named g e h).1

  laid_at : (g : ℕ) (e : Extent) (h : slice_get (scope_of m f).globals g ≡ Some e) → IsLaidOut (named g e h).0
  laid_at g e h = All-at m.globals g (named g e h).0 laid.globals (named g e h).1

  pub lays_out : LaysOut (layout_of m) (scope_of m f)
  lays_out = record {
    element = λ g e h. record { global = (thatof g e h).within; element = (let l : 1 ≤ (named g e h).0.count = (laid_at g e h).least in let c : count_in (layout_of m) g ≡ (named g e h).0.count = (thatof g e h).count in omega arith) };
    bytes = λ g e h. (thatof g e h).bytes ∙ sym (ap (λ (x : Extent). type_bytes x.elem) (named g e h).2);
    some = λ g e h. (let s : 1 ≤ type_bytes (named g e h).0.elem = element_some (named g e h).0.elem (laid_at g e h).element in let q : type_bytes e.elem ≡ type_bytes (named g e h).0.elem = ap (λ (x : Extent). type_bytes x.elem) (named g e h).2 in omega arith);
  }

-- the same of a layout and a scope that are the module's
pub lays_in : (m : Module) (f : Function) (layout : LayoutState) (scope : FunctionScope) → are_globals_fine m ≡ true → layout ≡ layout_of m → scope ≡ scope_of m f → LaysOut layout scope
lays_in m f layout scope h l s =
    subst (λ (x : LayoutState). LaysOut x scope) (sym l) (subst (λ (x : FunctionScope). LaysOut (layout_of m) x) (sym s) (lays_out m f (can_be_laid_out m h)))

-- one turn of the loop over globals
pub fine_on : (m : Module) (g : ℕ) (vs : List Global) (x : Global) → g < length vs → x ≡ get_or vs g x → has_fault_at m g x ≡ false → has_fault_from m g (drop g vs) ≡ has_fault_from m 0 vs → has_fault_from m (g + 1) (drop (g + 1) vs) ≡ has_fault_from m 0 vs
fine_on m g vs x lt at none e =
    let d : drop g vs ≡ x ∷ drop (g + 1) vs = drop_more vs g x lt ∙ ap (λ (y : Global). y ∷ drop (g + 1) vs) (sym at) in
    let rest : Bool = has_fault_from m (g + 1) (drop (g + 1) vs) in
    let first : has_fault_from m g (drop g vs) ≡ (has_fault_at m g x || rest) = ap (has_fault_from m g) d in
    let skip : (has_fault_at m g x || rest) ≡ rest = ap (λ (b : Bool). b || rest) none in
    sym (sym e ∙ (first ∙ skip))
