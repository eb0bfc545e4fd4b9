-- Code that grows by the lines of one item after another.
use Rattle.std.proofs.Common.{◌≡◌, ℕ, suc, ◌+◌, ◌<◌, List, [], ◌∷◌, ◌++◌, Some, length, drop, get_or, refl, sym, ap, ◌∙◌, append_assoc, append-nil, add-one, drop-cons, slice_get}
use Rattle.std.proofs.lemmas.Option.{slice_get-get_or}
use Rattle.ax_mid.specs.Built.{pushed}
use Rattle.ax_mid.specs.declared.code.Line.{Line}
use Rattle.ax_mid.specs.declared.code.Mid.{Mid}

-- the lines of the items that are left are all that is missing
pub record IsUpTo {R : Type 0} (old now : Mid R) (left whole : List (Line R)) : Type 0 where
  pub globals : now.globals ≡ old.globals
  pub lines : now.lines ++ left ≡ old.lines ++ whole

pub begun : {R : Type 0} (m : Mid R) (whole : List (Line R)) → IsUpTo m m whole whole
begun m whole = record { globals = refl; lines = refl }

pub grown : {R : Type 0} (old now new : Mid R) (more rest left whole : List (Line R)) → IsUpTo old now rest whole → new ≡ pushed more now → rest ≡ more ++ left → IsUpTo old new left whole
grown {R} old now new more rest left whole h e r = record {
  globals = ap (λ (m : Mid R). m.globals) e ∙ h.globals;
  lines = ap (λ (m : Mid R). m.lines ++ left) e ∙ (append_assoc now.lines more left ∙ (ap (λ (lines : List (Line R)). now.lines ++ lines) (sym r) ∙ h.lines));
}

pub whole_is : {R : Type 0} (old now : Mid R) (left whole : List (Line R)) → IsUpTo old now left whole → left ≡ [] → now ≡ pushed whole old
whole_is {R} old now left whole h e =
    let lines : now.lines ≡ old.lines ++ whole = sym (append-nil now.lines) ∙ (ap (λ (lines : List (Line R)). now.lines ++ lines) (sym e) ∙ h.lines) in
    λ d. record { globals = h.globals d; lines = lines d }

-- ---- the items of a loop
pub next : {A : Type 0} (xs : List A) (i : ℕ) (x : A) → i < length xs → x ≡ get_or xs i x → drop i xs ≡ x ∷ drop (i + 1) xs
next {A} xs i x lt is = drop-cons xs i x lt ∙ (ap (λ (y : A). y ∷ drop (suc i) xs) (sym is) ∙ ap (λ (n : ℕ). x ∷ drop n xs) (sym (add-one i)))

pub item : {A : Type 0} (xs : List A) (i : ℕ) (x : A) → i < length xs → x ≡ get_or xs i x → slice_get xs i ≡ Some x
item xs i x lt is = slice_get-get_or xs i x lt ∙ ap Some (sym is)
