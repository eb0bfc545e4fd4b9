-- Where each function of an image is entered, and its frame.
use Rattle.std.proofs.Common.{◌≡◌, ℕ, zero, suc, ◌+◌, ◌<◌, List, [], ◌∷◌, refl, ap, arith, length, map}
use Rattle.std.specs.Prelude.{slice_index_or}
use Rattle.ax_module.specs.declared.module.Function.{Function}
use Rattle.ax_source_run.specs.SourceState.{SourceProgram}
use Rattle.ax_image.specs.Image.{Coding, HasEntries, entries_from, entry_of, image}

module _ {I : Type 0} (c : Coding I) where
  frames_count : (functions : List Function) → length (map (λ f. c.frame_size) functions) ≡ length functions
  frames_count [] = refl
  frames_count (x ∷ functions) = ap suc (frames_count functions)

  frame_from : (functions : List Function) (f : ℕ) → f < length functions → slice_index_or (map (λ f. c.frame_size) functions) f 0 ≡ c.frame_size
  frame_from [] f less = absurd (omega (arith, less))
  frame_from (x ∷ functions) zero less = refl
  frame_from (x ∷ functions) (suc f) less = frame_from functions f (omega (arith, less))

  module _ (program : SourceProgram) where
    entries_count : (n : ℕ) (functions : List Function) → length (entries_from c program n functions) ≡ length functions
    entries_count n [] = refl
    entries_count n (x ∷ functions) = ap suc (entries_count (n + 1) functions)

    entry_from : (n : ℕ) (functions : List Function) (f g : ℕ) → g ≡ n + f → f < length functions → slice_index_or (entries_from c program n functions) f 0 ≡ entry_of c program g
    entry_from n [] f g is less = absurd (omega (arith, less))
    entry_from n (x ∷ functions) zero g is less = let same : n ≡ g = omega (arith, is) in ap (entry_of c program) same
    entry_from n (x ∷ functions) (suc f) g is less = entry_from (n + 1) functions f g (omega (arith, is)) (omega (arith, less))

    entry_in : (f : ℕ) → f < length program.source.functions → slice_index_or (image c program).entries f 0 ≡ entry_of c program f
    entry_in f less = entry_from 0 program.source.functions f f (omega arith) less

    pub has_entries : HasEntries c program
    has_entries = record { entry = entry_in; frame = λ f less. frame_from program.source.functions f less; entries = entries_count 0 program.source.functions; frames = frames_count program.source.functions }
