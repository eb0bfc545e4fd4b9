-- What is passed over, item by item.
use Rattle.std.proofs.Common.{◌≡◌, ℕ, zero, suc, ◌≤◌, min, arith, cond, List, [], ◌∷◌, length, drop, refl, sym, ap, ◌∙◌}
use Rattle.std.specs.Prelude.{pred}
use Rattle.ax_symbols.specs.declared.symbol.Symbol.{Symbol}
use Rattle.ax_symbols.specs.declared.pass.Pass.{Pass}
use Rattle.ax_symbols.specs.Pieces.{item_len, is_nought, behind_items, pass_over}

-- behind the rest of an item stands what stands behind its last symbol
pub behind_item : (k : Pass) (n : ℕ) (line : List Symbol) → behind_items k n line ≡ pass_over k (drop n line)
behind_item k zero [] = refl
behind_item k (suc n) [] = refl
behind_item k zero (s ∷ rest) = refl
behind_item k (suc n) (s ∷ rest) = behind_item k n rest

shorter : (j n : ℕ) (rest : List Symbol) → j ≡ min n (length rest) → drop j rest ≡ drop n rest
shorter zero zero rest e = refl
shorter zero (suc n) [] e = refl
shorter zero (suc n) (s ∷ rest) e = absurd (omega (arith, e))
shorter (suc j) zero rest e = absurd (omega (arith, e))
shorter (suc j) (suc n) [] e = absurd (omega (arith, e))
shorter (suc j) (suc n) (s ∷ rest) e = shorter j n rest (omega (arith, e))

over_at : (k : Pass) (s : Symbol) (rest : List Symbol) (len n : ℕ) → len ≡ min n (suc (length rest)) → (len ≡ 0 → ⊥) → pass_over k (drop len (s ∷ rest)) ≡ cond (is_nought n) (s ∷ rest) (behind_items k (pred n) rest)
over_at k s rest zero n f h = absurd (h refl)
over_at k s rest (suc j) zero f h = absurd (omega (arith, f))
over_at k s rest (suc j) (suc n) f h = ap (pass_over k) (shorter j n rest (omega (arith, f))) ∙ sym (behind_item k n rest)

-- an item, and what stands behind it
pub over_item : (k : Pass) (line : List Symbol) (len : ℕ) → len ≡ min (item_len k line) (length line) → (len ≡ 0 → ⊥) → pass_over k (drop len line) ≡ pass_over k line
over_item k [] len e h = absurd (h (omega (arith, e)))
over_item k (s ∷ rest) len e h = over_at k s rest len (item_len k (s ∷ rest)) e h

none_at : (k : Pass) (s : Symbol) (rest : List Symbol) (n : ℕ) → n ≡ 0 → cond (is_nought n) (s ∷ rest) (behind_items k (pred n) rest) ≡ s ∷ rest
none_at k s rest zero e = refl
none_at k s rest (suc n) e = absurd cc

-- nothing is passed over
pub over_none : (k : Pass) (line : List Symbol) (len : ℕ) → len ≡ min (item_len k line) (length line) → len ≡ 0 → pass_over k line ≡ line
over_none k [] len e h = refl
over_none k (s ∷ rest) len e h = none_at k s rest (item_len k (s ∷ rest)) (omega (arith, e, h))

shrinks_at : (k : Pass) (s : Symbol) (rest : List Symbol) (n : ℕ) → length (behind_items k (pred n) rest) ≤ length rest → length (cond (is_nought n) (s ∷ rest) (behind_items k (pred n) rest)) ≤ suc (length rest)
shrinks_at k s rest zero h = omega arith
shrinks_at k s rest (suc n) h = omega (arith, h)

pub items_shrink : (k : Pass) (n : ℕ) (line : List Symbol) → length (behind_items k n line) ≤ length line
items_shrink k n [] = omega arith
items_shrink k (suc n) (s ∷ rest) = omega (arith, items_shrink k n rest)
items_shrink k zero (s ∷ rest) = shrinks_at k s rest (item_len k (s ∷ rest)) (items_shrink k (pred (item_len k (s ∷ rest))) rest)
