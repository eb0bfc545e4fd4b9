-- An image that follows what it means lowers its module.
use Rattle.std.proofs.Common.{◌≡◌, ℕ, zero, suc, ◌+◌, ◌-◌, ◌*◌, ◌/◌, ◌%◌, ◌^◌, ◌<◌, ◌≤◌, Bool, true, false, ◌&&◌, ◌||◌, List, [], ◌∷◌, Option, Some, None, refl, sym, ap, ◌∙◌, subst, arith, length, map, option_map, slice_get}
use Rattle.std.specs.Prelude.{if◌then◌else◌, nat_eq, nat_le, nat_lt, slice_index_or}
use Rattle.std.proofs.Math.Nat.{mod-eq_of_lt}
use Rattle.std.proofs.lemmas.Bool.{and_parts, false≢true}
use Rattle.std.proofs.lemmas.Bool.Decides.{nat_tests}
use Rattle.std.proofs.lemmas.Option.{none-some, same_Some, slice_get-get_or}
use Rattle.ax_words.specs.declared.source.SourceStatus.TheVariants.{Running}
use Rattle.ax_tags.specs.declared.tags.Tag.{Tag}
use Rattle.ax_store.specs.declared.entry.Entry.{Entry}
use Rattle.ax_store.specs.Bytes.{all_inside, number_at}
use Rattle.ax_map.specs.Map.{covers, frame_base, globals_start, in_globals, in_lock_table, in_regions}
use Rattle.ax_store.proofs.Numbers.{number_same}
use Rattle.ax_store.proofs.Regions.{frame_access, globals_access, table_access}
use Rattle.ax_layout.specs.declared.address_range.AddressRange.{AddressRange}
use Rattle.ax_layout.specs.Layout.{CanBeLaidOut, is_element_type, next_multiple}
use Rattle.ax_layout.specs.Regions.{AreThoseOfTheModule, InLayouts}
use Rattle.ax_layout.proofs.Spans.{reaches}
use Rattle.ax_module.specs.declared.module.Global.{Global}
use Rattle.ax_module.specs.declared.types.Ty.{Ty}
use Rattle.ax_module.specs.declared.types.Ty.TheVariants.{I8, I16, I32, I64, I128}
use Rattle.ax_module.specs.Types.{type_bytes}
use Rattle.ax_source_run.specs.SourceRun.{first_numbers, source_run, source_start}
use Rattle.ax_source_run.specs.SourceState.{SourceProgram}
use Rattle.ax_source_run.specs.SourceValues.{type_bits}
use Rattle.ax_check.specs.Accepted.{IsAccepted}
use Rattle.ax_standing.specs.Standing.{AreEntries}
use Rattle.ax_typed.specs.Typed.{IsTyped}
use Rattle.ax_isa.specs.declared.cpu.Status.TheVariants.{Running as Runs}
use Rattle.ax_isa.specs.declared.images.Image.{Image}
use Rattle.ax_isa.specs.Processor.{Processor}
use Rattle.ax_isa.specs.Run.{Machine, machine_start, machine_status, start_processor}
use Rattle.ax_isa.specs.Past.{Noted}
use Rattle.ax_isa.specs.Steps.{Kind}
use Rattle.ax_follow.specs.Contract.{Follows, Lawful, Meaning}
use Rattle.ax_follow.specs.RunTheorem.{Begins}
use Rattle.ax_agree.specs.Agree.{is_native_entry}
use Rattle.ax_agree.specs.Library.{library_of}
use Rattle.ax_agree.specs.Lowers.{AreEntriesOf, first_byte, region_end}
use Rattle.ax_mid.specs.declared.code.Line.{Line}
use Rattle.ax_mid.specs.declared.code.MidGlobal.{MidGlobal}
use Rattle.ax_mid.specs.declared.instruction.MidInst.{MidInst}
use Rattle.ax_mid.specs.declared.instruction.MidInst.TheVariants as mid
use Rattle.ax_mid.specs.declared.registers.Virtual.{Virtual}
use Rattle.ax_mid.specs.Machine.{behind_label, first_processor}
use Rattle.ax_mid.specs.Processor.{MidProcessor}
use Rattle.ax_expand.specs.Shared.{Sees, Shared, counts, is_shared, masked, shared_only}
use Rattle.ax_expand.specs.World.{Words}
use Rattle.ax_expand.proofs.Sights.{hides_drain, sees_drain}
use Rattle.ax_fine.specs.Fine.{Sound, is_label, settle}
use Rattle.ax_fine.specs.OnBytes.{AreWords}
use Rattle.ax_fine.specs.Near.{AreSpelled, HasRoom, address_of, on_bytes}
use Rattle.ax_emit.specs.Images.{place_of}
use Rattle.ax_selected.specs.Direct.{needs_no_routine}
use Rattle.ax_selected.specs.Formed.{SelectedCodeIsFormed}
use Rattle.ax_selected.specs.InStep.{IsFramePlace, code_start}
use Rattle.ax_selected.specs.Registers.{block_label, key}
use Rattle.ax_selected.specs.Selected.{mid_global, selected}
use Rattle.ax_selected.proofs.Lying.{globals_get}
use Rattle.ax_meaning.specs.Lowering.{AgreesAlways, FollowingCodeLowers, Frames, IsHoused, begins_with, fine_first, fine_start, framed}
use Rattle.ax_meaning.proofs.Agreeing.{native_false}
use Rattle.ax_meaning.proofs.Globals.{span_is}
use Rattle.ax_image.specs.Image.{Coding, code_of, image, places, size_of}
use Rattle.ax_image.specs.Lowering.{FollowingImageLowers, IsCoding, area, frames_by, is_living, meaning, reading, room_start, setting, stack_top}
use Rattle.ax_image.proofs.Entries.{has_entries}
use Rattle.ax_image.proofs.First.{byte_past, byte_small, element_first}

-- what this rests on
pub record Laws {I : Type 0} (kind : Kind I) (c : Coding I) (program : SourceProgram) (fixed : ℕ → Bool) (most : ℕ) : Type 0 where
  pub lowers : FollowingCodeLowers (setting kind c program) (reading kind c program most) program (frames_by kind.stack fixed) (places c program)
  pub formed : SelectedCodeIsFormed
  pub typed : (p : SourceProgram) (entries : List ℕ) → IsAccepted p → IsTyped p.source (source_start p.source entries)
  pub laid : (p : SourceProgram) → IsAccepted p → CanBeLaidOut p.source
  pub those : InLayouts AreThoseOfTheModule

-- ---- frames
living : (p : ℕ) → is_living p ≡ true → room_start p ≡ frame_base p
living p h = ap (λ (b : Bool). if b then frame_base p else frame_base 0) h

room_bound : (p : ℕ) → (16777216 ≤ room_start p) × (room_start p ≤ 17694720) × (room_start p % 8 ≡ 0)
room_bound p = by (is_living p) refl
  where
    by : (b : Bool) → is_living p ≡ b → (16777216 ≤ (if b then frame_base p else frame_base 0)) × ((if b then frame_base p else frame_base 0) ≤ 17694720) × ((if b then frame_base p else frame_base 0) % 8 ≡ 0)
    by true h = let less : p < 8 = grind (arith, nat_tests) in (omega arith, omega (arith, less), omega arith)
    by false h = (omega arith, omega arith, omega arith)

-- frames lie where the middle machine wants them, whatever else a program is
pub frames_sound : (program : SourceProgram) (stack : ℕ) (fixed : ℕ → Bool) → Sound (on_bytes (framed program (frames_by stack fixed)))
frames_sound program stack fixed = record {
  own = λ p b lives low high. let e = living p lives in (omega (arith, e, low), omega (arith, e, high));
  area = λ p. omega arith;
  deep = λ p. omega arith;
  whole = omega arith;
  slots = omega arith;
  aligned = λ p. let e = (room_bound p).2 in omega (arith, e);
  even = omega arith;
  wide = λ p lives. let e = (room_bound p).1 in omega (arith, e);
}

-- no lock word is a byte of a frame
pub no_words : {I : Type 0} (kind : Kind I) → Words (library_of kind [])
no_words kind a h = let parts = and_parts (nat_le 32768 a && nat_lt a 49152) (nat_eq (a % 64) 0) h in let less = (and_parts (nat_le 32768 a) (nat_lt a 49152) parts.0).1 in below a less
  where
    below : (a : ℕ) → nat_lt a 49152 ≡ true → a + 4 ≤ 16777216
    below a h = grind (arith, nat_tests)

frame_place : (p : ℕ) → IsFramePlace (area p)
frame_place p = let e = room_bound p in let low = e.0 in let high = e.1 in record { above = omega (arith, low); high = omega (arith, high) }

-- ---- places of lines
settled_place : {I R : Type 0} (sizes : Line R → ℕ) (codes : (ℕ → ℕ) → ℕ → Line R → List (I × Tag)) → ((line : Line R) → is_label line.inst ≡ true → sizes line ≡ 0) → (lines : List (Line R)) (at j : ℕ) → place_of sizes codes lines at (settle lines j) ≡ place_of sizes codes lines at j
settled_place sizes codes label [] at j = refl
settled_place sizes codes label (one ∷ lines) at (suc j) = settled_place sizes codes label lines (at + sizes one) j
settled_place sizes codes label (one ∷ lines) at zero = go (is_label one.inst) refl (settled_place sizes codes label lines (at + sizes one) 0) (first lines (at + sizes one))
  where
    -- the first of these lines begins where they do; of none, nowhere
    first : (rest : List (Line _)) (start : ℕ) → place_of sizes codes rest start 0 ≡ start
    first [] start = refl
    first (x ∷ rest) start = refl

    go : (t : Bool) → is_label one.inst ≡ t → place_of sizes codes lines (at + sizes one) (settle lines 0) ≡ place_of sizes codes lines (at + sizes one) 0 → place_of sizes codes lines (at + sizes one) 0 ≡ at + sizes one
        → place_of sizes codes (one ∷ lines) at (if t then suc (settle lines 0) else 0) ≡ at
    go true e rest begins = rest ∙ (begins ∙ (ap (λ (n : ℕ). at + n) (label one e) ∙ omega arith))
    go false e rest begins = refl

get_map : {A B : Type 0} (f : A → B) (xs : List A) (p : ℕ) → slice_get (map f xs) p ≡ option_map f (slice_get xs p)
get_map f [] p = refl
get_map f (x ∷ xs) zero = refl
get_map f (x ∷ xs) (suc p) = get_map f xs p

get_within : {A : Type 0} (xs : List A) (p : ℕ) (x : A) → slice_get xs p ≡ Some x → p < length xs
get_within [] p x e = absurd (none-some x e)
get_within (y ∷ xs) zero x e = omega arith
get_within (y ∷ xs) (suc p) x e = let r = get_within xs p x e in omega (arith, r)

index_of_get : {A : Type 0} (xs : List A) (p : ℕ) (x d : A) → slice_get xs p ≡ Some x → slice_index_or xs p d ≡ x
index_of_get xs p x d e = same_Some (slice_index_or xs p d) x (sym (slice_get-get_or xs p d (get_within xs p x e)) ∙ e)

bits_fit : (t : Ty) → is_element_type t ≡ true → type_bits t ≡ 8 * type_bytes t
bits_fit I8 h = refl
bits_fit I16 h = refl
bits_fit I32 h = refl
bits_fit I64 h = refl
bits_fit I128 h = refl
bits_fit _ h = absurd (false≢true h)

module _ {I : Type 0} (kind : Kind I) (c : Coding I) (program : SourceProgram) (fixed : ℕ → Bool) (most : ℕ) (laws : Laws kind c program fixed most) (coding : IsCoding kind c program) (follows : Follows (meaning kind c program fixed) (reading kind c program most) (setting kind c program))
    (accepted : IsAccepted program) (direct : needs_no_routine program ≡ true) (entries : List ℕ) (are : AreEntriesOf program.source entries) where
  abbrev made : Image I
  made = image c program

  abbrev frames : Frames
  frames = frames_by kind.stack fixed

  abbrev l : Meaning MidProcessor Shared
  l = meaning kind c program fixed

  abbrev sizes : List ℕ
  sizes = map (λ f. slice_index_or made.frames f 0) entries

  abbrev inside : ℕ → Bool
  inside = in_regions (region_end program) sizes

  abbrev w0 : Shared
  w0 = record { inside = inside; mem = masked (first_byte program); pending = λ p. [] }

  abbrev m0 : Machine
  m0 = machine_start kind.stack made.entries made.frames entries (region_end program) (first_byte program)

  frame_in : (f : ℕ) → f < length program.source.functions → slice_index_or made.frames f 0 ≡ 98440
  frame_in f less = (has_entries c program).frame f less ∙ coding.frame

  -- ---- the first bytes
  abbrev spans : List AddressRange
  spans = program.layout.spans

  lie : Rattle.ax_mid.specs.WellFormed.GlobalsLie program.target (selected program)
  lie = (laws.formed program accepted).globals

  global_at : (g : ℕ) (s : AddressRange) → slice_get spans g ≡ Some s → slice_get (selected program).globals g ≡ Some (mid_global program program.layout g s)
  global_at g s there = globals_get program spans 0 g s there ∙ ap (λ (q : ℕ). Some (mid_global program program.layout q s)) (plus g)
    where
      plus : (n : ℕ) → 0 + n ≡ n
      plus n = omega arith

  spans_below : (g : ℕ) (s : AddressRange) → slice_get spans g ≡ Some s → s.start + s.count * s.bytes ≤ 1114112
  spans_below g s there = (lie.placed g (mid_global program program.layout g s) (global_at g s there)).below

  -- ---- stores that go to memory
  lawful : Lawful l (reading kind c program most) (setting kind c program)
  lawful = record {
    bounded = λ h. absurd (false≢true h);
    dropped = λ p n w s. record { inside = s.inside; mem = s.mem; pending = s.pending };
    drains = λ on p n w e es is fair counted s. (sees_drain p n w e es is counted s, sym (ap (begins_with (is_native_entry program)) (oldest p n w e es is counted s)));
    hides = λ on p n w e es is fair hidden s. (hides_drain p n w e es is hidden s, frame_not_native e hidden);
  }
    where
      oldest : (p : ℕ) (n : Noted) (w : Shared) (e : Entry) (es : List Entry) → n.storage.waiting p ≡ e ∷ es → counts e ≡ true → Sees n.storage w → w.pending p ≡ e ∷ shared_only es
      oldest p n w e es is counted s = sym (s.pending p) ∙ (ap shared_only is ∙ ap (λ (t : Bool). if t then e ∷ shared_only es else shared_only es) counted)

      frame_not_native : (e : Entry) → counts e ≡ false → is_native_entry program e ≡ false
      frame_not_native e h =
          let past : 16777216 ≤ e.address = grind (arith, nat_tests, h) in
          native_false program spans 0 e.address (λ g s there. let b = spans_below g s there in omega (arith, b, past))

  -- ---- the numbers of the first bytes
  not_before : (g : ℕ) (s : AddressRange) → slice_get spans g ≡ Some s → (h : ℕ) (t : AddressRange) (a : ℕ) → h < g → slice_get spans h ≡ Some t → s.start ≤ a → a < s.start + s.count * s.bytes → covers t.start (t.count * t.bytes) a ≡ false
  not_before g s there h t a less other low high =
      let apart = lie.apart h g (mid_global program program.layout h t) (mid_global program program.layout g s) less (global_at h t other) (global_at g s there) in
      past t.start (t.count * t.bytes) a (omega (arith, apart, low))
    where
      past : (start n a : ℕ) → start + n ≤ a → covers start n a ≡ false
      past start n a h = grind (arith, nat_tests)

  high_zero : (a : ℕ) → 16777216 ≤ a → first_byte program a ≡ 0
  high_zero a high = byte_past program.source spans 0 a (λ g s there. let b = spans_below g s there in omega (arith, b, high))

  masked_same : (a : ℕ) → a < 16777216 → masked (first_byte program) a ≡ first_byte program a
  masked_same a less = (let is : is_shared a ≡ true = grind (arith, nat_tests) in ap (λ (t : Bool). if t then first_byte program a else 0) is)

  -- a global's number fits its bytes
  number_fits : (g i : ℕ) (s : AddressRange) → slice_get spans g ≡ Some s → first_numbers program.source g i < 2 ^ (8 * s.bytes)
  number_fits g i s there = by (slice_get program.source.globals g) refl
    where
      typed : first_numbers program.source g i < 2 ^ type_bits (Rattle.ax_typed.specs.Typed.elem_of program.source 0 (Rattle.ax_source_run.specs.SourceState.Shared g))
      typed = (laws.typed program [] accepted).numbers g i

      by : (o : Option Global) → slice_get program.source.globals g ≡ o → first_numbers program.source g i < 2 ^ (8 * s.bytes)
      by None e = subst (λ (n : ℕ). n < 2 ^ (8 * s.bytes)) (sym (ap (λ (o : Option Global). Rattle.ax_source_run.specs.SourceRun.constants_of o i) e)) (Rattle.std.proofs.lemmas.Nat.pow_pos (8 * s.bytes))
      by (Some v) e =
          let laid = laws.laid program accepted in
          let within = get_within program.source.globals g v e in
          let one = laid.globals g v within in
          let v_is : slice_index_or program.source.globals g v ≡ v = index_of_get program.source.globals g v v e in
          let element : is_element_type v.elem ≡ true = ap (λ (x : Global). is_element_type x.elem) (sym v_is) ∙ one.element in
          let elem_is : Rattle.ax_typed.specs.Typed.elem_of program.source 0 (Rattle.ax_source_run.specs.SourceState.Shared g) ≡ v.elem = ap (λ (o : Option Global). (Rattle.ax_source_run.specs.SourcePointers.elements_of_global o).elem) e in
          let those = subst (AreThoseOfTheModule program.source) (sym accepted.layout) (laws.those program.source laid) g v e in
          let s_is : Rattle.ax_layout.specs.Layout.span_in program.layout g ≡ s = index_of_get spans g s Rattle.ax_layout.specs.Layout.nowhere there in
          let bytes : type_bytes v.elem ≡ s.bytes = sym those.bytes ∙ ap (λ (x : AddressRange). x.bytes) s_is in
          let power : 2 ^ type_bits (Rattle.ax_typed.specs.Typed.elem_of program.source 0 (Rattle.ax_source_run.specs.SourceState.Shared g)) ≡ 2 ^ (8 * s.bytes) =
          ap (λ (t : Ty). 2 ^ type_bits t) elem_is ∙ (ap (λ (n : ℕ). 2 ^ n) (bits_fit v.elem element) ∙ ap (λ (n : ℕ). 2 ^ (8 * n)) bytes) in
          subst (λ (n : ℕ). first_numbers program.source g i < n) power typed

  first_spelled : AreSpelled (selected program).globals (masked (first_byte program)) (first_numbers program.source)
  first_spelled g i x there within =
      let s = span_is program g x there in
      let below = spans_below g s.span s.there in
      let count : x.count ≡ s.span.count = ap (λ (y : MidGlobal). y.count) s.is in
      let a_is : address_of x i ≡ s.span.start + i * s.span.bytes = ap (λ (y : MidGlobal). address_of y i) s.is in
      let b_is : x.bytes ≡ s.span.bytes = ap (λ (y : MidGlobal). y.bytes) s.is in
      let inside_span : i < s.span.count = subst (λ (n : ℕ). i < n) count within in
      ap (λ (a : ℕ). number_at (masked (first_byte program)) a x.bytes) a_is
      ∙ (ap (number_at (masked (first_byte program)) (s.span.start + i * s.span.bytes)) b_is
      ∙ (number_same (masked (first_byte program)) (first_byte program) (s.span.start + i * s.span.bytes) s.span.bytes (λ k less. masked_same (s.span.start + i * s.span.bytes + k) (within_all s.span i k inside_span less below))
      ∙ (element_first program.source spans g i s.span s.there inside_span (not_before g s.span s.there) ∙ mod-eq_of_lt (number_fits g i s.span s.there))))
    where
      within_all : (s : AddressRange) (i k : ℕ) → i < s.count → k < s.bytes → s.start + s.count * s.bytes ≤ 1114112 → s.start + i * s.bytes + k < 16777216
      within_all s i k less small below = let e = Rattle.std.proofs.Math.Nat.mul-le-mul_right {m = suc i} {n = s.count} s.bytes less in omega (arith, e, small, below)

  masked_small : (a : ℕ) → masked (first_byte program) a < 2 ^ 8
  masked_small a = by (is_shared a)
    where
      by : (t : Bool) → (if t then first_byte program a else 0) < 2 ^ 8
      by true = byte_small program.source spans 0 a
      by false = omega arith

  -- ---- the regions
  globals_inside : (a : ℕ) → globals_start ≤ a → a < program.layout.end → inside a ≡ true
  globals_inside a low high =
      let up = reaches 16 program.layout.end (omega arith) in
      let here : in_globals (region_end program) a ≡ true = within a (region_end program) low (omega (arith, high, up)) in
      in_one (in_lock_table a) (in_globals (region_end program) a) (Rattle.ax_map.specs.Map.in_frames 0 sizes a) here
    where
      within : (a end : ℕ) → 65536 ≤ a → a < end → in_globals end a ≡ true
      within a end low high = grind (arith, nat_tests)

      in_one : (x y z : Bool) → y ≡ true → (x || y || z) ≡ true
      in_one true y z h = refl
      in_one false true z h = refl
      in_one false false z h = absurd (false≢true h)

  -- below the frames they begin and end at words of 4 bytes
  frames_above : (a p : ℕ) (fs : List ℕ) → a < 2 ^ 24 → ((k f : ℕ) → slice_get fs k ≡ Some f → slice_index_or made.frames f 0 ≡ 98440) → Rattle.ax_map.specs.Map.in_frames p (map (λ f. slice_index_or made.frames f 0) fs) a ≡ false
  frames_above a p [] below h = refl
  frames_above a p (f ∷ fs) below h =
      let size = h 0 f refl in
      let one : Rattle.ax_map.specs.Map.in_frame p (slice_index_or made.frames f 0) a ≡ false = grind (arith, nat_tests) in
      ap (λ t. t || Rattle.ax_map.specs.Map.in_frames (p + 1) (map (λ f. slice_index_or made.frames f 0) fs) a) one ∙ frames_above a (p + 1) fs below (λ k g e. h (suc k) g e)

  words_inside : AreWords inside
  words_inside a below is = by (in_lock_table a) (in_globals (region_end program) a) refl refl
    where
      last : ℕ
      last = (program.layout.end + 15) / 16

      table : in_lock_table a ≡ true → (32768 ≤ a - a % 4) × (a - a % 4 + 4 ≤ 49152)
      table h = (grind (arith, nat_tests), grind (arith, nat_tests))

      globals : (end : ℕ) → in_globals (end * 16) a ≡ true → (65536 ≤ a - a % 4) × (a - a % 4 + 4 ≤ end * 16)
      globals end h = (grind (arith, nat_tests), grind (arith, nat_tests))

      by : (t g : Bool) → in_lock_table a ≡ t → in_globals (region_end program) a ≡ g → all_inside inside (a - a % 4) 4 ≡ true
      by true g t_is g_is = (let w = table t_is in table_access (region_end program) (a - a % 4) 4 sizes w.0 w.1)
      by false true t_is g_is = (let w = globals last g_is in globals_access (region_end program) (a - a % 4) 4 sizes w.0 w.1)
      by false false t_is g_is =
          let none = frames_above a 0 entries below (λ k f e. frame_in f (are.each k f e)) in
          absurd (false≢true (sym none ∙ sym (ap (λ t. t || in_globals (region_end program) a || Rattle.ax_map.specs.Map.in_frames 0 sizes a) t_is ∙ ap (λ t. t || Rattle.ax_map.specs.Map.in_frames 0 sizes a) g_is) ∙ is))

  entry_size : (p f : ℕ) → slice_get entries p ≡ Some f → slice_index_or sizes p 0 ≡ 98440
  entry_size p f e = index_of_get sizes p (slice_index_or made.frames f 0) 0 (get_map (λ f. slice_index_or made.frames f 0) entries p ∙ ap (option_map (λ f. slice_index_or made.frames f 0)) e) ∙ frame_in f (are.each p f e)

  sizes_long : (xs : List ℕ) → length (map (λ f. slice_index_or made.frames f 0) xs) ≡ length xs
  sizes_long [] = refl
  sizes_long (x ∷ xs) = ap suc (sizes_long xs)

  runs_entry : (p : ℕ) (o : Option ℕ) → slice_get entries p ≡ o → (first_processor (option_map (λ f. behind_label key (selected program).lines (block_label f 0) 0) o)).status ≡ Running → (f : ℕ) × (slice_get entries p ≡ Some f)
  runs_entry p None e r = absurd (never r)
    where
      never : Rattle.ax_words.specs.declared.source.SourceStatus.TheVariants.Ended ≡ Running → ⊥
      never h = cc
  runs_entry p (Some f) e r = (f, e)

  room : HasRoom (framed program frames) inside (code_start program (selected program) entries)
  room p b running lives low high =
      let f = runs_entry p (slice_get entries p) refl running in
      let within = get_within entries p f.0 f.1 in
      let long = sizes_long entries in
      let start = living p lives in
      let one = frame_access (region_end program) b 1 p 98440 sizes (omega (arith, within, long)) (entry_size p f.0 f.1) (omega (arith, start, low)) (omega (arith, start, high)) in
      (and_parts (inside b) true one).0

  housed : IsHoused program frames entries inside w0
  housed = record {
    places = frame_place;
    globals = globals_inside;
    words = words_inside;
    room = room;
    spells = record { mapped = refl; small = masked_small; spelled = first_spelled; waiting = λ p. tt };
  }

  -- ---- the first state
  abbrev behind : ℕ → ℕ
  behind f = behind_label key (selected program).lines (block_label f 0) 0

  abbrev above : Option ℕ → MidProcessor
  above o = fine_first program (first_processor (option_map behind o))

  abbrev machine_one : ℕ → Option ℕ → Processor
  machine_one p o = start_processor kind.stack p (option_map (λ f. slice_index_or made.entries f 0) o)

  processor_is : (p : ℕ) → m0.processors p ≡ machine_one p (slice_get entries p)
  processor_is p = ap (start_processor kind.stack p) (get_map (λ f. slice_index_or made.entries f 0) entries p)

  status_is : (p : ℕ) (o : Option ℕ) → (machine_one p o).status ≡ machine_status (above o).status
  status_is p None = refl
  status_is p (Some f) = refl

  labels_empty : (line : Line Virtual) → is_label line.inst ≡ true → size_of c line ≡ 0
  labels_empty line h = by line.inst h
    where
      by : (i : MidInst Virtual) → is_label i ≡ true → length (c.piece i (λ j. 0) 0) ≡ 0
      by (mid.Label n) e = ap length (coding.labels n)
      by _ e = absurd (false≢true e)

  place_is : (p : ℕ) (o : Option ℕ) → slice_get entries p ≡ o → (machine_one p o).status ≡ Runs → (machine_one p o).place ≡ places c program (above o).place
  place_is p None e r = absurd (never r)
    where
      never : Rattle.ax_isa.specs.declared.cpu.Status.TheVariants.Ended ≡ Runs → ⊥
      never h = cc
  place_is p (Some f) e r = (has_entries c program).entry f (are.each p f e) ∙ sym (settled_place (size_of c) (code_of c) labels_empty (selected program).lines 1 (behind f))

  zeros : (a n : ℕ) → 16777216 ≤ a → number_at (first_byte program) a n ≡ 0
  zeros a zero high = refl
  zeros a (suc n) high = ap (λ (b : ℕ). b + 2 ^ 8 * number_at (first_byte program) (a + 1) n) (high_zero a high) ∙ (ap (λ (m : ℕ). 0 + 2 ^ 8 * m) (zeros (a + 1) n (omega (arith, high))))

  few_entries : (p f : ℕ) → slice_get entries p ≡ Some f → is_living p ≡ true
  few_entries p f e = let within = get_within entries p f e in let few = are.few in less p (omega (arith, within, few))
    where
      less : (p : ℕ) → p < 8 → is_living p ≡ true
      less p h = grind (arith, nat_tests)

  matches_is : (p : ℕ) (o : Option ℕ) → slice_get entries p ≡ o → (machine_one p o).status ≡ Runs → l.matches p (machine_one p o) m0.noted (above o)
  matches_is p None e r = absurd (never r)
    where
      never : Rattle.ax_isa.specs.declared.cpu.Status.TheVariants.Ended ≡ Runs → ⊥
      never h = cc
  matches_is p (Some f) e r =
      let bound = (room_bound p).0 in
      let lives = few_entries p f e in
      record {
        regs = λ q less. zeros (stack_top p - 8 * (q + 1)) 8 (omega (arith, bound, less));
        frame = λ b less. high_zero (area p + b) (omega (arith, bound));
        root = zeros (stack_top p) 8 (omega (arith, bound));
        fixed = λ q h. ap (λ (n : ℕ). if nat_eq q kind.stack then n + 131064 else 0) (sym (living p lives));
        role = refl;
        lives = lives;
      }

  starts : Begins (setting kind c program) l (reading kind c program most) m0 (fine_start program entries w0)
  starts = record {
    status = λ p. ap (λ (c : Processor). c.status) (processor_is p) ∙ status_is p (slice_get entries p);
    place = λ p r. ap (λ (c : Processor). c.place) (processor_is p) ∙ place_is p (slice_get entries p) refl (ap (λ (c : Processor). c.status) (sym (processor_is p)) ∙ r);
    matches = λ p r. subst (λ (c : Processor). l.matches p c m0.noted (above (slice_get entries p))) (sym (processor_is p)) (matches_is p (slice_get entries p) refl (ap (λ (c : Processor). c.status) (sym (processor_is p)) ∙ r));
    sees = record { inside = refl; mem = refl; pending = λ p. refl };
    waiting = λ p. refl;
    outputs = refl;
    bounds = λ h. absurd (false≢true h);
  }

  entries_are : AreEntries program entries
  entries_are k d less = are.each k (slice_index_or entries k d) (slice_get-get_or entries k d less)

  always : AgreesAlways (setting kind c program) program entries m0
  always = laws.lowers follows lawful refl accepted direct entries inside w0 m0 entries_are housed starts

pub image_lowers : {I : Type 0} (kind : Kind I) (c : Coding I) (program : SourceProgram) (fixed : ℕ → Bool) (most : ℕ) → Laws kind c program fixed most → FollowingImageLowers kind c program fixed most
image_lowers kind c program fixed most laws coding follows accepted direct = record { agrees = λ entries are events. always kind c program fixed most laws coding follows accepted direct entries are events }
