-- Elements of globals in memory, one by one.
use Rattle.std.proofs.Common.{◌≡◌, ℕ, ◌+◌, ◌-◌, ◌*◌, ◌/◌, ◌%◌, ◌^◌, ◌<◌, ◌≤◌, Bool, true, false, List, [], ◌∷◌, Some, None, length, drop, refl, sym, ap, ◌∙◌, subst, arith, add-one, drop-cons, drop_of_length-le, slice_get}
use Rattle.std.specs.Prelude.{if◌then◌else◌, slice_index_or}
use Rattle.std.proofs.lemmas.Bool.{false≢true}
use Rattle.std.proofs.lemmas.Bool.Decides.{nat_tests}
use Rattle.std.proofs.lemmas.List.Elements.{All-get_or, recursion_from_All}
use Rattle.std.proofs.lemmas.Nat.{div-mul-add, field_of, mod-mul-add}
use Rattle.std.proofs.lemmas.Option.{get_or_from_slice_get, slice_get-get_or, slice_get_within}
use Rattle.std.proofs.Math.Pow.{mod-mod-pow}
use Rattle.ax_module.specs.declared.module.Global.{Global}
use Rattle.ax_module.specs.declared.types.Ty.{Ty}
use Rattle.ax_module.specs.declared.types.Ty.TheVariants.{I8, I16, I32, I64, I128}
use Rattle.ax_module.specs.Types.{type_bytes}
use Rattle.ax_map.specs.Map.{IsGlobalsEnd, covers, globals_start, in_regions}
use Rattle.ax_store.specs.Bytes.{byte_of, cut, is_width, put}
use Rattle.ax_store.specs.Storage.{flushed, replaced, stored}
use Rattle.ax_store.specs.Store.{Kept, StoreState, storage_of}
use Rattle.ax_store.proofs.Calls.{put_written}
use Rattle.ax_store.proofs.Regions.{globals_access}
use Rattle.ax_isa.proofs.Functions.{place_kept}
use Rattle.ax_layout.specs.declared.address_range.AddressRange.{AddressRange}
use Rattle.ax_layout.proofs.Spans.{grows}
use Rattle.ax_layout.specs.Layout.{CanBeLaidOut, HasElement, IsLaidOut, LayoutState, address_in, bytes_in, count_in, end_of_span, is_element_type, nowhere, span_after, span_in, spans_after}
use Rattle.ax_layout.specs.Regions.{AllLie, AreThoseOfTheModule, InLayouts, IsThatOf, Lies}
use Rattle.ax_source_run.specs.SourceRun.{first_numbers}
use Rattle.ax_source_run.specs.SourceState.{SourceProgram}
use Rattle.ax_cells.specs.Narrow.{is_narrow}
use Rattle.ax_check.specs.Accepted.{IsAccepted}
use Rattle.ax_agree.specs.Lowers.{byte_in, region_end}
use Rattle.ax_run.specs.Start.{elements_put, storage_with}

-- ---- types of elements
pub element_width : (t : Ty) → is_element_type t ≡ true → is_width (type_bytes t) ≡ true
element_width I8 h = refl
element_width I16 h = refl
element_width I32 h = refl
element_width I64 h = refl
element_width I128 h = refl
element_width _ h = absurd (false≢true h)

pub element_narrow : (t : Ty) → is_element_type t ≡ true → is_narrow t ≡ true
element_narrow I8 h = refl
element_narrow I16 h = refl
element_narrow I32 h = refl
element_narrow I64 h = refl
element_narrow I128 h = refl
element_narrow _ h = absurd (false≢true h)

pub bytes_few : (t : Ty) → is_element_type t ≡ true → type_bytes t ≤ 16
bytes_few I8 h = omega arith
bytes_few I16 h = omega arith
bytes_few I32 h = omega arith
bytes_few I64 h = omega arith
bytes_few I128 h = omega arith
bytes_few _ h = absurd (false≢true h)

pub width_some : (n : ℕ) → is_width n ≡ true → 0 < n
width_some n h = grind (arith, nat_tests, h)

-- ---- where a global's elements lie
span_count : (end : ℕ) (globals : List Global) → length (spans_after end globals) ≡ length globals
span_count end [] = refl
span_count end (x ∷ globals) = let e = span_count (end_of_span (span_after end x)) globals in omega (arith, e)

pub item : {A : Type 0} (xs : List A) (i : ℕ) (x : A) → i < length xs → x ≡ slice_index_or xs i x → slice_get xs i ≡ Some x
item xs i x lt is = slice_get-get_or xs i x lt ∙ ap Some (sym is)

module _ (program : SourceProgram) (accepted : IsAccepted program) (limits : (p : SourceProgram) → IsAccepted p → CanBeLaidOut p.source) where
  pub spans_counted : length program.layout.spans ≡ length program.source.globals
  spans_counted = ap (λ (l : LayoutState). length l.spans) accepted.layout ∙ span_count globals_start program.source.globals

  pub lies_at : InLayouts AllLie → (g i : ℕ) → HasElement program.layout g i → Lies program.layout g i
  lies_at lie g i there =
      subst (λ (l : LayoutState). Lies l g i) (sym accepted.layout)
      (lie program.source (limits program accepted) g i (subst (λ (l : LayoutState). HasElement l g i) accepted.layout there))

  module _ (those : InLayouts AreThoseOfTheModule) (g : ℕ) (global : Global) (at : slice_get program.source.globals g ≡ Some global) where
    pub that : IsThatOf program.layout g global
    that = subst (λ (l : LayoutState). IsThatOf l g global) (sym accepted.layout) (those program.source (limits program accepted) g global at)

    pub laid_out : IsLaidOut global
    laid_out =
        let globals = program.source.globals in
        subst IsLaidOut (get_or_from_slice_get globals g global global at) (All-get_or IsLaidOut globals g global (slice_get_within globals g global at) (limits program accepted).globals)

    pub has : (i : ℕ) → i < global.count → HasElement program.layout g i
    has i less = let count = that.count in record { global = that.within; element = omega (arith, count, less) }

    pub lies : InLayouts AllLie → (i : ℕ) → i < global.count → Lies program.layout g i
    lies lie i less = lies_at lie g i (has i less)

-- ---- one element more
byte_cut : (v n i : ℕ) → i < n → byte_of (cut n v) i ≡ byte_of v i
byte_cut v n i lt =
    let high = 8 * (n - (i + 1)) in
    let parts : 8 * n ≡ high + 8 + 8 * i = omega (arith, lt) in
    ap (λ k. v % 2 ^ k / 2 ^ (8 * i) % 2 ^ 8) parts ∙ ap (λ x. x % 2 ^ 8) (field_of v (high + 8) (8 * i)) ∙ mod-mod-pow (v / 2 ^ (8 * i)) high 8

low_of : (a n x : ℕ) → covers a n x ≡ true → a ≤ x
low_of a n x h = grind (arith, nat_tests, h)

high_of : (a n x : ℕ) → covers a n x ≡ true → x < a + n
high_of a n x h = grind (arith, nat_tests, h)

covered : (a n x : ℕ) → a ≤ x → x < a + n → covers a n x ≡ true
covered a n x low high = grind (arith, nat_tests)

grown : (a n b x : ℕ) → covers (a + n) b x ≡ false → covers a (n + b) x ≡ covers a n x
grown a n b x h = grind (arith, nat_tests, h)

module _ (span : AddressRange) (numbers mem : ℕ → ℕ) where
  abbrev s : ℕ
  s = span.start

  abbrev b : ℕ
  b = span.bytes

  abbrev by : ℕ → Bool → ℕ
  by x t = if t then byte_of (numbers ((x - s) / b)) ((x - s) % b) else mem x

  pub put_none : elements_put span 0 numbers mem ≡ mem
  put_none = λ d x. at x d
    where
      at : (x : ℕ) → elements_put span 0 numbers mem x ≡ mem x
      at x =
          let z : 0 * b ≡ 0 = omega arith in
          let none : covers s 0 x ≡ false = grind (arith, nat_tests) in
          ap (by x) (ap (λ n. covers s n x) z ∙ none)

  put_at : (i x : ℕ) → (t : Bool) → covers (s + i * b) b x ≡ t → (if t then byte_of (cut b (numbers i)) (x - (s + i * b)) else elements_put span i numbers mem x) ≡ elements_put span (i + 1) numbers mem x
  put_at i x true e =
      let low = low_of (s + i * b) b x e in
      let high = high_of (s + i * b) b x e in
      let k = x - (s + i * b) in
      let less : k < b = omega (arith, low, high) in
      let back : x - s ≡ i * b + k = omega (arith, low) in
      let row : (i + 1) * b ≡ i * b + b = omega arith in
      let whole : covers s ((i + 1) * b) x ≡ true = ap (λ n. covers s n x) row ∙ covered s (i * b + b) x (omega (arith, low)) (omega (arith, high)) in
      byte_cut (numbers i) b k less
      ∙ sym
      (ap (by x) whole
      ∙ ap (λ y. byte_of (numbers (y / b)) (y % b)) back
      ∙ ap (λ q. byte_of (numbers q) ((i * b + k) % b)) (div-mul-add i b k less)
      ∙ ap (byte_of (numbers i)) (mod-mul-add i b k less))
  put_at i x false e =
      let row : (i + 1) * b ≡ i * b + b = omega arith in
      sym (ap (by x) (ap (λ n. covers s n x) row ∙ grown s (i * b) b x e))

  pub put_stored : (end : ℕ) (frames : List ℕ) (i : ℕ) → globals_start ≤ s + i * b → s + i * b + b ≤ end → stored false 0 (s + i * b) b (numbers i) (storage_with end frames (elements_put span i numbers mem)) ≡ storage_with end frames (elements_put span (i + 1) numbers mem)
  put_stored end frames i low high = λ d. record { inside = in_regions end frames; mem = is d; waiting = λ p. []; linked = λ p. None }
    where
      is : put (in_regions end frames) (s + i * b) b (cut b (numbers i)) (elements_put span i numbers mem) ≡ elements_put span (i + 1) numbers mem
      is =
          put_written (in_regions end frames) (s + i * b) b (cut b (numbers i)) (elements_put span i numbers mem) (globals_access end (s + i * b) b frames low high)
          ∙ (λ d x. put_at i x (covers (s + i * b) b x) refl d)

-- the first i elements of global g are stored
pub record Stored (program : SourceProgram) (g i : ℕ) (old new : StoreState) : Type 0 where
  pub kept : Kept old new
  pub storage :
      (frames : List ℕ) (mem : ℕ → ℕ) → storage_of old ≡ storage_with (region_end program) frames mem
      → storage_of new ≡ storage_with (region_end program) frames (elements_put (span_in program.layout g) i (first_numbers program.source g) mem)

nothing_waits : (end : ℕ) (frames : List ℕ) (mem : ℕ → ℕ) → flushed 0 (storage_with end frames mem) ≡ storage_with end frames mem
nothing_waits end frames mem = λ d. record { inside = in_regions end frames; mem = mem; waiting = place_kept (λ p. []) 0 [] refl d; linked = λ p. None }

pub kept_refl : (s : StoreState) → Kept s s
kept_refl s = record { buffered = refl; count = refl; inside = refl }

pub kept_more : (old mid new : StoreState) → Kept old mid → Kept mid new → Kept old new
kept_more old mid new h k = record { buffered = k.buffered ∙ h.buffered; count = k.count ∙ h.count; inside = k.inside ∙ h.inside }

module _ (program : SourceProgram) (g : ℕ) where
  pub stored_none : (s : StoreState) → Stored program g 0 s s
  stored_none s = record {
    kept = kept_refl s;
    storage = λ frames mem e. e ∙ ap (storage_with (region_end program) frames) (sym (put_none (span_in program.layout g) (first_numbers program.source g) mem));
  }

  pub stored_more : (i : ℕ) (old mid new : StoreState) (address bytes number : ℕ) → Stored program g i old mid
      → address ≡ address_in program.layout g i → bytes ≡ bytes_in program.layout g → number ≡ first_numbers program.source g i → Lies program.layout g i
      → storage_of new ≡ replaced 0 address bytes (Some number) (flushed 0 (storage_of mid)) → Kept mid new → Stored program g (i + 1) old new
  stored_more i old mid new address bytes number h ea eb en lies e k = record {
    kept = kept_more old mid new h.kept k;
    storage = λ frames mem begins.
        let span = span_in program.layout g in
        let numbers = first_numbers program.source g in
        let last = lies.last in
        let past : program.layout.end ≤ region_end program = omega arith in
        let high : span.start + i * span.bytes + span.bytes ≤ region_end program = omega (arith, last, past) in
        e
        ∙ ap (λ a. stored false 0 a bytes number (flushed 0 (storage_of mid))) ea
        ∙ ap (λ n. stored false 0 (span.start + i * span.bytes) n number (flushed 0 (storage_of mid))) eb
        ∙ ap (λ n. stored false 0 (span.start + i * span.bytes) span.bytes n (flushed 0 (storage_of mid))) en
        ∙ ap (λ st. stored false 0 (span.start + i * span.bytes) span.bytes (numbers i) (flushed 0 st)) (h.storage frames mem begins)
        ∙ ap (stored false 0 (span.start + i * span.bytes) span.bytes (numbers i)) (nothing_waits (region_end program) frames (elements_put span i numbers mem))
        ∙ put_stored span numbers mem (region_end program) frames i lies.first high;
  }

-- ---- one global more
-- the globals from number g on are stored
pub record StoredFrom (program : SourceProgram) (g : ℕ) (old new : StoreState) : Type 0 where
  pub within : g ≤ length program.source.globals
  pub kept : Kept old new
  pub storage : (frames : List ℕ) → storage_of old ≡ storage_with (region_end program) frames (λ a. 0) → storage_of new ≡ storage_with (region_end program) frames (byte_in program.source g (drop g program.layout.spans))

module _ (program : SourceProgram) where
  pub from_none : (n : ℕ) (s : StoreState) → n ≡ length program.source.globals → length program.layout.spans ≡ length program.source.globals → StoredFrom program n s s
  from_none n s whole counted = record {
    within = omega (arith, whole);
    kept = kept_refl s;
    storage = λ frames e.
        let none : drop n program.layout.spans ≡ [] = drop_of_length-le program.layout.spans (let past : length program.layout.spans ≤ n = omega (arith, whole, counted) in past) in
        let zero : byte_in program.source n [] ≡ (λ a. 0) = (λ d a. 0) in
        e ∙ ap (storage_with (region_end program) frames) (sym (ap (byte_in program.source n) none ∙ zero));
  }

  pub from_next : (h g count : ℕ) (old mid new : StoreState) → StoredFrom program h old mid → h ≡ g + 1 → length program.layout.spans ≡ length program.source.globals → count ≡ count_in program.layout g
      → ((frames : List ℕ) (mem : ℕ → ℕ) → storage_of mid ≡ storage_with (region_end program) frames mem → storage_of new ≡ storage_with (region_end program) frames (elements_put (span_in program.layout g) count (first_numbers program.source g) mem))
      → Kept mid new → StoredFrom program g old new
  from_next h g count old mid new far e counted many step k =
      let m = program.source in
      let spans = program.layout.spans in
      let span = span_in program.layout g in
      let inner = far.within in
      let less : g < length spans = omega (arith, inner, e, counted) in
      let rest : drop g spans ≡ span ∷ drop (g + 1) spans = drop-cons spans g nowhere less ∙ ap (λ (n : ℕ). span ∷ drop n spans) (sym (add-one g)) in
      let one : elements_put span span.count (first_numbers m g) (byte_in m (g + 1) (drop (g + 1) spans)) ≡ byte_in m g (span ∷ drop (g + 1) spans) = (λ d a. byte_in m g (span ∷ drop (g + 1) spans) a) in
      record {
        within = omega (arith, inner, e);
        kept = kept_more old mid new far.kept k;
        storage = λ frames begins.
            step frames (byte_in m (g + 1) (drop (g + 1) spans)) (far.storage frames begins ∙ ap (λ n. storage_with (region_end program) frames (byte_in m n (drop n spans))) e)
            ∙ ap (storage_with (region_end program) frames) (ap (λ n. elements_put span n (first_numbers m g) (byte_in m (g + 1) (drop (g + 1) spans))) many ∙ one ∙ ap (byte_in m g) (sym rest));
      }

-- ---- where the region of the globals ends
module _ (program : SourceProgram) (accepted : IsAccepted program) (limits : CanBeLaidOut program.source) where
  pub end_least : globals_start ≤ program.layout.end
  end_least = subst (λ (l : LayoutState). globals_start ≤ l.end) (sym accepted.layout) (grows program.source.globals globals_start (recursion_from_All IsLaidOut program.source.globals limits.globals))

  pub end_most : program.layout.end ≤ 1114112
  end_most = subst (λ (l : LayoutState). l.end ≤ 1114112) (sym accepted.layout) limits.end

  pub region_fits : IsGlobalsEnd (region_end program)
  region_fits =
      let least = end_least in
      let most = end_most in
      record {
        least = omega (arith, least);
        most = omega (arith, most);
        step = omega arith;
      }
