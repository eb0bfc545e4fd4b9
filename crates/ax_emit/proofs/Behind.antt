-- Where labels stand, a line at a time.
use Rattle.std.proofs.Common.{◌≡◌, ℕ, ◌+◌, Bool, true, false, List, [], ◌∷◌, Option, None, Some, length, drop, refl, sym, ap, ◌∙◌, true≢false, cond, is_some, if◌then◌else◌}
use Rattle.std.specs.Prelude.{nat_eq}
use Rattle.std.specs.Option.{option_or, unwrap_or}
use Rattle.std.specs.Map.{lookup}
use Rattle.std.proofs.lemmas.Bool.{eqb-true}
use Rattle.ax_mid.specs.declared.code.Line.{Line}
use Rattle.ax_mid.specs.Machine.{behind_label, is_label, label_at}

or_none : {A : Type 0} (o : Option A) → option_or o None ≡ o
or_none None = refl
or_none (Some x) = refl

or_there : {A : Type 0} (o p : Option A) → is_some o ≡ true → option_or o p ≡ o
or_there None p h = absurd (true≢false (sym h))
or_there (Some x) p h = refl

or_absent : {A : Type 0} (o p : Option A) → is_some o ≡ false → option_or o p ≡ p
or_absent None p h = refl
or_absent (Some x) p h = absurd (true≢false h)

-- a label that is there stays
pub noted_before : (old : ℕ → Option ℕ) (k v : ℕ) → is_some (old k) ≡ true → (n : ℕ) → old n ≡ option_or (old n) (if nat_eq k n then Some v else None)
noted_before old k v there n = by (nat_eq k n) refl
  where
    by : (b : Bool) → nat_eq k n ≡ b → old n ≡ option_or (old n) (if b then Some v else None)
    by true e = sym (or_there (old n) (Some v) (ap (λ q. is_some (old q)) (sym (eqb-true k n e)) ∙ there))
    by false e = sym (or_none (old n))

-- and else it gets its line
pub noted_now : (old new : ℕ → Option ℕ) (k v : ℕ) → is_some (old k) ≡ false → ((n : ℕ) → new n ≡ cond (nat_eq k n) (Some v) (old n)) → (n : ℕ) → new n ≡ option_or (old n) (if nat_eq k n then Some v else None)
noted_now old new k v none all n = all n ∙ by (nat_eq k n) refl
  where
    by : (b : Bool) → nat_eq k n ≡ b → cond b (Some v) (old n) ≡ option_or (old n) (if b then Some v else None)
    by true e = sym (or_absent (old n) (Some v) (ap (λ q. is_some (old q)) (sym (eqb-true k n e)) ∙ none))
    by false e = sym (or_none (old n))

pub not_noted : {A : Type 0} (o : Option A) → o ≡ option_or o None
not_noted o = sym (or_none o)

found_or : (o : Option ℕ) (b : Bool) (v rest : ℕ) → unwrap_or (option_or o (if b then Some v else None)) rest ≡ unwrap_or o (if b then v else rest)
found_or None true v rest = refl
found_or None false v rest = refl
found_or (Some x) b v rest = refl

module _ {R : Type 0} (key : R → ℕ) where
  -- one line on
  pub behind_goes_on : (lines : List (Line R)) (j : ℕ) (line : Line R) → drop j lines ≡ line ∷ drop (j + 1) lines → (n : ℕ) (old new : Option ℕ) (whole : ℕ) → new ≡ option_or old (if is_label key n (label_at key line.inst) then Some (j + 1) else None) → unwrap_or old (behind_label key (drop j lines) n j) ≡ whole
      → unwrap_or new (behind_label key (drop (j + 1) lines) n (j + 1)) ≡ whole
  behind_goes_on lines j line front n old new whole is h =
      let rest = behind_label key (drop (j + 1) lines) n (j + 1) in
      ap (λ o. unwrap_or o rest) is ∙ found_or old (is_label key n (label_at key line.inst)) (j + 1) rest ∙ ap (λ ls. unwrap_or old (behind_label key ls n j)) (sym front) ∙ h

-- what holds before each line: a label is found, or stands in the lines to come
abbrev pub Behinds : {R : Type 0} → List (Line R) → ℕ → List (ℕ × ℕ) → Type 0
Behinds {R} lines j entries = (key : R → ℕ) (n : ℕ) → unwrap_or (lookup (nat_eq n) entries) (behind_label key (drop j lines) n j) ≡ behind_label key lines n 0

pub behinds_first : {R : Type 0} (lines : List (Line R)) (entries : List (ℕ × ℕ)) → entries ≡ [] → Behinds lines 0 entries
behinds_first lines entries new key n = ap (λ es. unwrap_or (lookup (nat_eq n) es) (behind_label key lines n 0)) new

pub behinds_end : {R : Type 0} (lines : List (Line R)) (j : ℕ) (entries : List (ℕ × ℕ)) → drop j lines ≡ [] → j ≡ length lines → Behinds lines j entries → (key : R → ℕ) (n : ℕ) → unwrap_or (lookup (nat_eq n) entries) (length lines) ≡ behind_label key lines n 0
behinds_end lines j entries past end so_far key n =
    ap (λ k. unwrap_or (lookup (nat_eq n) entries) k) (sym end) ∙ ap (λ ls. unwrap_or (lookup (nat_eq n) entries) (behind_label key ls n j)) (sym past) ∙ so_far key n
