-- The entries that are found are those of the image.
use Rattle.std.proofs.Common.{◌≡◌, ℕ, zero, suc, ◌+◌, ◌<◌, ◌++◌, List, [], ◌∷◌, length, drop, refl, sym, ap, ◌∙◌, append_assoc, arith}
use Rattle.ax_module.specs.declared.module.Function.{Function}
use Rattle.ax_emit.specs.Passes.{placed}
use Rattle.ax_selected.specs.Registers.{block_label}
use Rattle.ax_image.specs.Entries.{entries_at}

module _ (behind : ℕ → ℕ) (places : List ℕ) where
  -- the first entry of what is left
  pub next : (k f : ℕ) (functions : List Function) → k < length functions → entries_at behind places f (drop k functions) ≡ placed places (behind (block_label f 0)) ∷ entries_at behind places (f + 1) (drop (k + 1) functions)
  next k f [] less = absurd (omega (arith, less))
  next zero f (x ∷ functions) less = refl
  next (suc k) f (x ∷ functions) less =
      let again : suc k + 1 ≡ suc (k + 1) = omega arith in
      next k f functions (omega (arith, less)) ∙ ap (λ (n : ℕ). placed places (behind (block_label f 0)) ∷ entries_at behind places (f + 1) (drop n (x ∷ functions))) (sym again)

  -- one entry more
  pub more : (k : ℕ) (functions : List Function) (so_far now : List ℕ) (place : ℕ) → k < length functions → now ≡ so_far ++ place ∷ [] → place ≡ placed places (behind (block_label k 0))
      → so_far ++ entries_at behind places k (drop k functions) ≡ entries_at behind places 0 functions → now ++ entries_at behind places (k + 1) (drop (k + 1) functions) ≡ entries_at behind places 0 functions
  more k functions so_far now place less grown is before =
      let rest : List ℕ = entries_at behind places (k + 1) (drop (k + 1) functions) in
      ap (λ (xs : List ℕ). xs ++ rest) grown
      ∙ (append_assoc so_far (place ∷ []) rest
      ∙ (ap (λ (p : ℕ). so_far ++ p ∷ rest) is
      ∙ (ap (λ (xs : List ℕ). so_far ++ xs) (sym (next k k functions less)) ∙ before)))
