-- A text has at most one first fault, and none where its names fit.
use Rattle.std.proofs.Common.{◌≡◌, ℕ, suc, ◌+◌, true, Bool, List, [], ◌∷◌, ◌++◌, length, sym, ap, subst, ◌∙◌, refl}
use Rattle.std.proofs.lemmas.Bool.{true≢false}
use Rattle.ax_lines.specs.declared.statement.Line.{Line}
use Rattle.ax_scope.specs.Faults.{AllFalse, NamesFit, IsNameFault}

none_true : (before behind : List Bool) → AllFalse (before ++ true ∷ behind) → ⊥
none_true [] behind all = true≢false all.0
none_true (b ∷ bs) behind all = none_true bs behind all.1

pub fit_excludes : (text : List ℕ) (lines : List Line) (n : ℕ) → NamesFit text lines → IsNameFault text lines n → ⊥
fit_excludes text lines n fit f = none_true f.before f.behind (subst AllFalse f.whole fit)

same_len : (xs ys us vs : List Bool) → AllFalse xs → AllFalse ys → xs ++ true ∷ us ≡ ys ++ true ∷ vs → length xs ≡ length ys
same_len [] [] us vs p q e = refl
same_len [] (y ∷ ys) us vs p q e = let t : true ≡ y = cc in absurd (true≢false (t ∙ q.0))
same_len (x ∷ xs) [] us vs p q e = let t : x ≡ true = cc in absurd (true≢false (sym t ∙ p.0))
same_len (x ∷ xs) (y ∷ ys) us vs p q e = let t : xs ++ true ∷ us ≡ ys ++ true ∷ vs = cc in ap suc (same_len xs ys us vs p.1 q.1 t)

pub one_fault : (text : List ℕ) (lines : List Line) (n m : ℕ) → IsNameFault text lines n → IsNameFault text lines m → n ≡ m
one_fault text lines n m f g =
    f.is ∙ ap (λ k. k + 1) (same_len f.before g.before f.behind g.behind f.fit g.fit (sym f.whole ∙ g.whole)) ∙ sym g.is
