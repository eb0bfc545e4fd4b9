-- Where the globals of middle code lie.
use Rattle.std.proofs.Common.{◌≡◌, ℕ, ◌+◌, ◌<◌, ◌≤◌, Bool, true, List, [], ◌∷◌, ◌++◌, Some, length, drop, refl, sym, ap, ◌∙◌, subst, arith, add-one, drop-cons, drop_of_length-le, append_assoc, append-nil, slice_get}
use Rattle.std.proofs.lemmas.Bool.{false≢true}
use Rattle.std.proofs.lemmas.List.Elements.{All-get_or}
use Rattle.std.proofs.lemmas.Option.{get_or_from_slice_get, slice_get_within}
use Rattle.ax_module.specs.declared.module.Global.{Global}
use Rattle.ax_module.specs.declared.types.Ty.{Ty}
use Rattle.ax_module.specs.declared.types.Ty.TheVariants.{I8, I16, I32, I64, I128}
use Rattle.ax_module.specs.Types.{type_bytes}
use Rattle.ax_layout.specs.Classes.{class_of}
use Rattle.ax_layout.specs.declared.address_range.AddressRange.{AddressRange}
use Rattle.ax_map.specs.Map.{globals_start}
use Rattle.ax_layout.specs.Layout.{CanBeLaidOut, HasElement, IsLaidOut, LayoutState, address_in, bytes_in, end_of_span, is_element_type, layout_of, nowhere, span_after, span_in, spans_after}
use Rattle.ax_layout.specs.Regions.{AreThoseOfTheModule, InLayouts, IsThatOf}
use Rattle.ax_mid.specs.declared.code.MidGlobal.{MidGlobal}
use Rattle.ax_source_run.specs.SourceAccess.{is_native_class, is_native_element}
use Rattle.ax_source_run.specs.SourceState.{SourceProgram}
use Rattle.ax_target.specs.declared.target.Target.{Target}
use Rattle.ax_words.specs.Width.{is_width}
use Rattle.ax_selected.specs.Selected.{globals_from, mid_global}

-- the size of an element is one of an atomic object
pub element_width : (t : Ty) → is_element_type t ≡ true → is_width (type_bytes t) ≡ true
element_width I8 h = refl
element_width I16 h = refl
element_width I32 h = refl
element_width I64 h = refl
element_width I128 h = refl
element_width _ h = absurd (false≢true h)

span_count : (end : ℕ) (globals : List Global) → length (spans_after end globals) ≡ length globals
span_count end [] = refl
span_count end (x ∷ globals) = let e = span_count (end_of_span (span_after end x)) globals in omega (arith, e)

module _ (program : SourceProgram) (layout : program.layout ≡ layout_of program.source) where
  pub spans_counted : length program.layout.spans ≡ length program.source.globals
  spans_counted = ap (λ (l : LayoutState). length l.spans) layout ∙ span_count globals_start program.source.globals

  module _ (limits : CanBeLaidOut program.source) (those : InLayouts AreThoseOfTheModule) (g : ℕ) (global : Global) (at : slice_get program.source.globals g ≡ Some global) where
    that : IsThatOf program.layout g global
    that = subst (λ (l : LayoutState). IsThatOf l g global) (sym layout) (those program.source limits g global at)

    pub laid_out : IsLaidOut global
    laid_out =
        let globals = program.source.globals in
        subst IsLaidOut (get_or_from_slice_get globals g global global at) (All-get_or IsLaidOut globals g global (slice_get_within globals g global at) limits.globals)

    pub has_first : HasElement program.layout g 0
    has_first = let count = that.count in let least = laid_out.least in record { global = that.within; element = omega (arith, count, least) }

    pub global_is : (address bytes : ℕ) (native : Bool) (t : Target) → address ≡ address_in program.layout g 0 → bytes ≡ type_bytes global.elem → native ≡ is_native_class (class_of address (type_bytes global.elem) t) → t ≡ program.target
        → ◌≡◌ {A = MidGlobal} (record { address = address; bytes = bytes; count = global.count; native = native }) (mid_global program program.layout g (span_in program.layout g))
    global_is address bytes native t ea eb en et =
        let first : address_in program.layout g 0 ≡ (span_in program.layout g).start = omega arith in
        let count = sym that.count in
        let size = eb ∙ sym that.bytes in
        let class : native ≡ is_native_element program g 0 =
        en ∙ (ap (λ (x : ℕ). is_native_class (class_of x (type_bytes global.elem) t)) ea
        ∙ (ap (λ (x : ℕ). is_native_class (class_of (address_in program.layout g 0) x t)) (sym that.bytes)
        ∙ ap (λ (x : Target). is_native_class (class_of (address_in program.layout g 0) (bytes_in program.layout g) x)) et)) in
        λ d. record { address = (ea ∙ first) d; bytes = size d; count = count d; native = class d }

  -- one global more
  pub globals_more : (g : ℕ) → g < length program.source.globals → (made new whole : List MidGlobal) → new ≡ made ++ mid_global program program.layout g (span_in program.layout g) ∷ []
      → made ++ globals_from program g (drop g program.layout.spans) ≡ whole → new ++ globals_from program (g + 1) (drop (g + 1) program.layout.spans) ≡ whole
  globals_more g lt made new whole e h =
      let spans = program.layout.spans in
      let count = spans_counted in
      let span = span_in program.layout g in
      let rest : drop g spans ≡ span ∷ drop (g + 1) spans = drop-cons spans g nowhere (omega (arith, lt, count)) ∙ ap (λ (n : ℕ). span ∷ drop n spans) (sym (add-one g)) in
      let more = globals_from program (g + 1) (drop (g + 1) spans) in
      ap (λ (xs : List MidGlobal). xs ++ more) e ∙ (append_assoc made (mid_global program program.layout g span ∷ []) more ∙ (ap (λ (xs : List AddressRange). made ++ globals_from program g xs) (sym rest) ∙ h))

  -- the last one is reached
  pub globals_end : (g : ℕ) → length program.source.globals ≤ g → (made whole : List MidGlobal) → made ++ globals_from program g (drop g program.layout.spans) ≡ whole → made ≡ whole
  globals_end g le made whole h =
      let spans = program.layout.spans in
      let count = spans_counted in
      let past : length spans ≤ g = omega (arith, le, count) in
      let none : drop g spans ≡ [] = drop_of_length-le spans past in
      sym (append-nil made) ∙ (ap (λ (xs : List AddressRange). made ++ globals_from program g xs) (sym none) ∙ h)
