-- The image of an accepted module is short, and sound.
use Rattle.std.proofs.Common.{◌≡◌, ℕ, zero, suc, ◌+◌, ◌*◌, ◌^◌, ◌<◌, ◌≤◌, inl, true, List, [], ◌∷◌, Some, None, length, refl, sym, ap, ◌∙◌, subst, arith, slice_get}
use Rattle.std.proofs.lemmas.List.{length-map}
use Rattle.std.proofs.lemmas.List.Elements.{All-map}
use Rattle.std.proofs.lemmas.Option.{none-some, same_Some}
use Rattle.ax_module.specs.declared.module.Block.{Block}
use Rattle.ax_module.specs.declared.module.Function.{Function}
use Rattle.ax_source_run.specs.SourceState.{SourceProgram}
use Rattle.ax_map.specs.Map.{IsFrameSize}
use Rattle.ax_check.specs.Accepted.{IsAccepted}
use Rattle.ax_check.specs.Laws.{IsSoundHead}
use Rattle.ax_isa.specs.declared.effects.Effect.{Effect}
use Rattle.ax_isa.specs.declared.effects.Effect.TheVariants as effect
use Rattle.ax_isa.specs.Processor.{Processor}
use Rattle.ax_isa.specs.Run.{at_code}
use Rattle.ax_isa.specs.Steps.{Kind}
use Rattle.ax_agree.specs.Sound.{GoesInside, HasFunctions, IsSound, IsSoundCode, are_names}
use Rattle.ax_mid.specs.declared.code.Line.{Line}
use Rattle.ax_mid.specs.declared.registers.Virtual.{Virtual}
use Rattle.ax_mid.specs.WellFormed.{StandsIn, weight, weight_of}
use Rattle.ax_emit.specs.Images.{Drafted}
use Rattle.ax_emit.specs.Passes.{place_end}
use Rattle.ax_image.specs.Image.{Coding, code_of, draft, entries_from, entry_of, image, places, size_of}
use Rattle.ax_selected.specs.Direct.{needs_no_routine}
use Rattle.ax_selected.specs.Formed.{SelectedLinesAreSmall}
use Rattle.ax_selected.specs.Registers.{block_label, key}
use Rattle.ax_selected.specs.Selected.{blocks_lines, function_lines, functions_lines, selected}
use Rattle.ax_formed.specs.WellFormed.{KeepsRules, SelectedCodeKeepsRules}
use Rattle.ax_formed.proofs.Known.{known}
use Rattle.ax_formed.proofs.Lines.{Stands, found, stands_left, stands_right}
use Rattle.ax_sound.specs.Good.{IsGood, LeadsInside}
use Rattle.ax_sound.specs.Laws.{ImagesAreShort, ImagesAreSound, IsShort, behind_in}
use Rattle.ax_sound.specs.Pieces.{HasSoundPieces}
use Rattle.ax_sound.proofs.Drafts.{AreSound, IsRight, draft_length, draft_sound, good_at, tag_is}
use Rattle.ax_sound.proofs.Fitting.{line_fits}
use Rattle.ax_sound.proofs.Found.{End, found_at, in_code}
use Rattle.ax_sound.proofs.Ranges.{AreWithin, ordered, range_at, ranges_rise, ranges_within}
use Rattle.ax_sound.proofs.Sums.{AllLines, all_lines, end_is, sizes, sizes_most}

-- what this rests on
pub record Laws : Type 0 where
  pub few : (program : SourceProgram) → IsAccepted program → length program.source.functions ≤ 64
  pub heads : (program : SourceProgram) (k : ℕ) (f : Function) → IsAccepted program → slice_get program.source.functions k ≡ Some f → IsSoundHead k f
  pub small : SelectedLinesAreSmall
  pub rules : SelectedCodeKeepsRules

-- ---- where functions are entered
module _ (program : SourceProgram) where
  -- the label of a function's first block stands in its code
  first_stands : (f : ℕ) (all blocks : List Block) → 0 < length blocks → Stands (blocks_lines program f all 0 0 blocks) f (block_label f 0)
  first_stands f all [] some = absurd (omega (arith, some))
  first_stands f all (block ∷ blocks) some = inl (refl, refl)

  entry_stands : (f : ℕ) (functions : List Function) → ((n : ℕ) (g : Function) → slice_get functions n ≡ Some g → 0 < length g.blocks) → (n : ℕ) → n < length functions → Stands (functions_lines program f functions) (f + n) (block_label (f + n) 0)
  entry_stands f [] some n lt = absurd (omega (arith, lt))
  entry_stands f (g ∷ functions) some zero lt =
      let same : f ≡ f + 0 = omega arith in
      let here = stands_left (function_lines program f g) (functions_lines program (f + 1) functions) f (block_label f 0) (first_stands f g.blocks g.blocks (some 0 g refl)) in
      subst (λ (q : ℕ). Stands (functions_lines program f (g ∷ functions)) q (block_label q 0)) same here
  entry_stands f (g ∷ functions) some (suc n) lt =
      let same : f + 1 + n ≡ f + suc n = omega arith in
      let there = stands_right (function_lines program f g) (functions_lines program (f + 1) functions) (f + 1 + n) (block_label (f + 1 + n) 0) (entry_stands (f + 1) functions (λ m h e. some (suc m) h e) n (omega (arith, lt))) in
      subst (λ (q : ℕ). Stands (functions_lines program f (g ∷ functions)) q (block_label q 0)) same there

module _ {I : Type 0} (kind : Kind I) (valid : I → Type 0) (program : SourceProgram) (c : Coding I) where
  goes_inside : (e : Effect) → LeadsInside (length (image c program).code) e → GoesInside kind valid (image c program) e
  goes_inside (effect.Jump place) h = h
  goes_inside (effect.CallTo place saved) h = absurd h
  goes_inside _ h = tt

  abbrev lines : List (Line Virtual)
  lines = (selected program).lines

  abbrev total : ℕ
  total = sizes (size_of c) lines

  module _ (laws : Laws) (no_routine : needs_no_routine program ≡ true) (accepted : IsAccepted program) (pieces : HasSoundPieces kind valid program.target (behind_in program) c) where
    rules : KeepsRules program (selected program)
    rules = laws.rules program accepted

    -- it has as many instructions as its lines' sizes say
    draft_is : length (draft c program) ≡ total
    draft_is = draft_length kind valid program.target (behind_in program) c pieces (places c program) lines 1 0

    few_sizes : total ≤ 2116943872
    few_sizes =
        let all = all_lines (λ line. size_of c line ≤ 31 * weight line.inst) lines (λ place line at. pieces.most line.inst (line_fits program.target line (laws.small program accepted place line at) (rules.formed.ways no_routine place line at))) in
        let a = sizes_most (size_of c) lines all in
        let b : weight_of lines ≤ 68288512 = rules.light in
        omega (arith, a, b)

    is_short : IsShort c program
    is_short =
        let a = few_sizes in
        let b = end_is (size_of c) 1 lines in
        let e = draft_is in
        let d : length lines ≤ 68288512 = rules.few in
        record { end = omega (arith, a, b); code = omega (arith, a, e); lines = omega (arith, d) }

    -- ---- labels
    few : total < 2 ^ 31
    few = let a = few_sizes in omega (arith, a)

    end : End lines
    end place line at none = let same : suc place ≡ place + 1 = omega arith in rules.shape.end place line at (subst (λ (q : ℕ). slice_get lines q ≡ None) same none)

    abbrev InCode : ℕ → Type 0
    InCode n = (1 ≤ places c program (behind_in program n)) × (places c program (behind_in program n) ≤ total)

    stands : (f n : ℕ) → StandsIn (selected program) f n → InCode n
    stands f n h = let i = in_code key (size_of c) (code_of c) lines n (found_at key (size_of c) (λ line e. pieces.least line.inst e) lines h.place n h.line end h.at h.label) in (i.least, i.most)

    abbrev Right : Line Virtual → Type 0
    Right line = IsRight kind valid program.target (behind_in program) c pieces (places c program) total few line

    right : AllLines Right lines
    right =
        all_lines Right lines (λ place line at. (
          line_fits program.target line (laws.small program accepted place line at) (rules.formed.ways no_routine place line at),
          λ n names. stands line.site.function n (rules.named place n line at names),
        ))

    sound : AreSound kind valid total 1 (draft c program)
    sound = draft_sound kind valid program.target (behind_in program) c pieces (places c program) total few lines 1 0 right end (omega arith) (omega arith)

    -- ---- the code
    code_is : length (image c program).code ≡ total
    code_is = length-map (draft c program) (λ (d : Drafted I). d.inst) ∙ draft_is

    good : (j : ℕ) (i : I) → slice_get (image c program).code j ≡ Some i → IsGood kind valid total (1 + j) i
    good j i e = good_at kind valid total 1 (draft c program) j i sound e

    goes : (place : ℕ) (i : I) → at_code (image c program).code place ≡ Some i → (p : Processor) → p.place ≡ place → GoesInside kind valid (image c program) (kind.effect_of i p)
    goes zero i e p at = absurd (none-some i e)
    goes (suc place) i e p at =
        let same : p.place ≡ 1 + place = omega (arith, at) in
        goes_inside (kind.effect_of i p) (subst (λ (n : ℕ). LeadsInside n (kind.effect_of i p)) (sym code_is) ((good place i e).leads p same))

    sound_code : IsSoundCode kind valid (image c program)
    sound_code =
        let a = few_sizes in
        let b = code_is in
        let last : place_end (size_of c) 1 lines ≡ 1 + length (image c program).code = end_is (size_of c) 1 lines ∙ ap (λ (n : ℕ). 1 + n) (sym code_is) in
        record {
          instructions = λ j i e. (good j i e).ranges;
          tags = length-map (draft c program) (λ (d : Drafted I). d.tag) ∙ sym (length-map (draft c program) (λ (d : Drafted I). d.inst));
          registers = λ j t e. tag_is kind valid total 1 (draft c program) j t sound e;
          short = omega (arith, a, b);
          sites = λ n r e. range_at (length (image c program).code) (image c program).sites n r (subst (λ (high : ℕ). AreWithin 1 high (image c program).sites) last (ranges_within (size_of c) 1 lines)) e;
          sites_rise = ranges_rise (size_of c) 1 lines (ordered lines rules.formed.sites);
          routines = λ n r e. absurd (none-some r e);
          routines_rise = tt;
          goes = goes;
        }

    -- ---- functions
    entries_length : (f : ℕ) (functions : List Function) → length (entries_from c program f functions) ≡ length functions
    entries_length f [] = refl
    entries_length f (g ∷ functions) = ap suc (entries_length (f + 1) functions)

    some_blocks : (n : ℕ) (g : Function) → slice_get program.source.functions n ≡ Some g → 0 < length g.blocks
    some_blocks n g at = (known program accepted (λ k f e. laws.heads program k f accepted e) n g at).some

    entered : (n : ℕ) → n < length program.source.functions → InCode (block_label (0 + n) 0)
    entered n lt = stands (0 + n) (block_label (0 + n) 0) (found (selected program).globals lines (0 + n) (block_label (0 + n) 0) (entry_stands program 0 program.source.functions some_blocks n lt))

    entry_in : (f : ℕ) (functions : List Function) → ((n : ℕ) → n < length functions → InCode (block_label (f + n) 0)) → (n place : ℕ) → slice_get (entries_from c program f functions) n ≡ Some place → (1 ≤ place) × (place ≤ total)
    entry_in f [] all n place e = absurd (none-some place e)
    entry_in f (g ∷ functions) all zero place e =
        let same : f + 0 ≡ f = omega arith in
        subst (λ (p : ℕ). (1 ≤ p) × (p ≤ total)) (same_Some (entry_of c program f) place e) (subst (λ (q : ℕ). InCode (block_label q 0)) same (all 0 (omega arith)))
    entry_in f (g ∷ functions) all (suc n) place e = entry_in (f + 1) functions (λ m lt. let same : f + suc m ≡ f + 1 + m = omega arith in subst (λ (q : ℕ). InCode (block_label q 0)) same (all (suc m) (omega (arith, lt)))) n place e

    has_functions : (count : ℕ) → count ≡ length program.source.functions → HasFunctions count (image c program)
    has_functions count same =
        let most = laws.few program accepted in
        record {
          few = omega (arith, most, same);
          entries = entries_length 0 program.source.functions ∙ sym same;
          places = λ f place e. subst (λ (n : ℕ). (1 ≤ place) × (place ≤ n)) (sym code_is) (entry_in 0 program.source.functions entered f place e);
          frames = length-map program.source.functions (λ (f : Function). c.frame_size) ∙ sym same;
          sizes = All-map IsFrameSize (λ (f : Function). c.frame_size) program.source.functions (λ k d lt. pieces.frame);
        }

    is_sound : (names : List (List ℕ)) → length names ≡ length program.source.functions → are_names names ≡ true → IsSound kind valid names (image c program)
    is_sound names same are = record { code = sound_code; functions = has_functions (length names) same; names_are = are }

module _ {I : Type 0} (kind : Kind I) (valid : I → Type 0) where
  pub images_are_short : Laws → ImagesAreShort kind valid
  images_are_short laws program c no_routine accepted pieces = is_short kind valid program c laws no_routine accepted pieces

  pub images_are_sound : Laws → ImagesAreSound kind valid
  images_are_sound laws program c no_routine accepted pieces names same are = is_sound kind valid program c laws no_routine accepted pieces names same are
