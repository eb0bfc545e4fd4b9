-- What is made is the image of the module.
use Rattle.std.proofs.Common.{◌≡◌, ℕ, ◌+◌, List, [], ◌∷◌, map, refl, ap, ◌∙◌}
use Rattle.ax_module.specs.declared.module.Function.{Function}
use Rattle.ax_isa.specs.declared.images.Image.{Image}
use Rattle.ax_mid.specs.Machine.{behind_label}
use Rattle.ax_emit.specs.Images.{code_in}
use Rattle.ax_emit.specs.Passes.{PlacesAgree, placed, places_from, tags_of}
use Rattle.ax_emit.specs.Sites.{ranges_from}
use Rattle.ax_mid.specs.declared.registers.Virtual.{Virtual}
use Rattle.ax_selected.specs.Registers.{block_label, key}
use Rattle.ax_selected.specs.Selected.{selected}
use Rattle.ax_image.specs.Entries.{entries_at}
use Rattle.ax_image.specs.Image.{Coded, code_of, draft, entries_from, entry_of, image, size_of}

module _ {I : Type 0} (x : Coded I) where
  -- what was made of the module's middle code
  pub record IsMade (labels : ℕ → ℕ) (places : List ℕ) (made : Image I) : Type 0 where
    pub labels_are : (n : ℕ) → labels n ≡ behind_label key (selected x.program).lines n 0
    pub places_are : places ≡ places_from (size_of x.coding) 1 (selected x.program).lines
    pub code : made.code ≡ code_in (draft x.coding x.program)
    pub tags : made.tags ≡ tags_of (draft x.coding x.program)
    pub sites : made.sites ≡ ranges_from (size_of x.coding) 1 (selected x.program).lines
    pub routines : made.routines ≡ []
    pub entries : made.entries ≡ entries_at labels places 0 x.program.source.functions
    pub frames : made.frames ≡ map (λ f. x.coding.frame_size) x.program.source.functions

  module _ (agree : PlacesAgree I Virtual) (labels : ℕ → ℕ) (places : List ℕ) (made : Image I) (is : IsMade labels places made) where
    entry : (f : ℕ) → placed places (labels (block_label f 0)) ≡ entry_of x.coding x.program f
    entry f =
        ap (placed places) (is.labels_are (block_label f 0))
        ∙ ap (λ (ps : ℕ → ℕ). ps (behind_label key (selected x.program).lines (block_label f 0) 0)) (ap placed is.places_are ∙ agree (size_of x.coding) (code_of x.coding) (selected x.program).lines)

    entries_are : (f : ℕ) (functions : List Function) → entries_at labels places f functions ≡ entries_from x.coding x.program f functions
    entries_are f [] = refl
    entries_are f (z ∷ functions) = λ d. entry f d ∷ entries_are (f + 1) functions d

    pub image_is : made ≡ image x.coding x.program
    image_is =
        let entries = is.entries ∙ entries_are 0 x.program.source.functions in
        λ d. record { code = is.code d; tags = is.tags d; sites = is.sites d; routines = is.routines d; entries = entries d; frames = is.frames d }
