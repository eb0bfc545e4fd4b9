-- What follows a canonical token does not go on with it.
use Rattle.std.proofs.Common.{◌≡◌, ℕ, Bool, true, false, List, [], ◌∷◌, ◌++◌, flat_map, refl, sym, ap, subst, ◌∙◌, inl, inr}
use Rattle.std.specs.Prelude.{not, ◌&&◌, nat_eq, if◌then◌else◌, codes}
use Rattle.std.specs.List.{list_all}
use Rattle.std.specs.Cmp.Lexicographic.{pointwise}
use Rattle.std.proofs.lemmas.Bool.{and_parts, and_from, or_cases, or_right, eqb-true}
use Rattle.std.proofs.lemmas.List.Folds.{list_all-append}
use Rattle.ax_lex.specs.declared.token.TokenKind.{TokenKind}
use Rattle.ax_lex.specs.declared.token.TokenKind.TheVariants.{Word, Local, Global, Meta, Group, Literal, Text, Mark, Newline}
use Rattle.ax_lex.specs.Bytes.{is_name_byte, is_meta_byte, is_literal_byte, is_digit, is_blank}
use Rattle.ax_lex.specs.Written.{Piece, render, stops, begins_bang, ends_at, FitsText}
use Rattle.ax_ir.specs.Spacing.{is_closing, is_opening}
use Rattle.ax_ir.specs.Canonical.{Line}
use Rattle.ax_again.specs.Pieces.{kind_of, blank_before, token_pieces, line_pieces}
use Rattle.ax_again.proofs.Fit.{Fit, also}

-- goes on with no token
record Parts (rest : List ℕ) : Type 0 where
  name : stops is_name_byte rest ≡ true
  meta : stops is_meta_byte rest ≡ true
  digit : stops is_digit rest ≡ true
  literal : stops is_literal_byte rest ≡ true

parts_end : (kind : TokenKind) (t rest : List ℕ) → Parts rest → ends_at kind t rest ≡ true
parts_end Word t rest p = p.name
parts_end Local t rest p = p.name
parts_end Global t rest p = p.name
parts_end Meta t rest p = p.meta
parts_end Group t rest p = p.digit
parts_end Literal t rest p = p.literal
parts_end Text t rest p = refl
parts_end Mark t rest p = or_right (not (begins_bang t)) (stops is_meta_byte rest) p.meta
parts_end Newline t rest p = refl

-- one byte
single : (t : List ℕ) (b : ℕ) → pointwise nat_eq t (b ∷ []) ≡ true → t ≡ b ∷ []
single [] b e = absurd cc
single (a ∷ []) b e =
    let same : a ≡ b = eqb-true a b (and_parts (nat_eq a b) true e).0 in
    ap (λ (x : ℕ). x ∷ []) same
single (a ∷ c ∷ t) b e = absurd (let f = (and_parts (nat_eq a b) false e).1 in cc)

closing_parts : (t rest : List ℕ) → is_closing t ≡ true → Parts (t ++ rest)
closing_parts t rest e =
    elim (or_cases (pointwise nat_eq t (codes ",")) _ e) [
      | inl a ↦ subst (λ x. Parts (x ++ rest)) (sym (single t 44 a)) (record { name = refl; meta = refl; digit = refl; literal = refl })
      | inr f ↦ elim (or_cases (pointwise nat_eq t (codes "(")) _ f) [
        | inl a ↦ subst (λ x. Parts (x ++ rest)) (sym (single t 40 a)) (record { name = refl; meta = refl; digit = refl; literal = refl })
        | inr g ↦ elim (or_cases (pointwise nat_eq t (codes ")")) _ g) [
          | inl a ↦ subst (λ x. Parts (x ++ rest)) (sym (single t 41 a)) (record { name = refl; meta = refl; digit = refl; literal = refl })
          | inr h ↦ elim (or_cases (pointwise nat_eq t (codes ":")) false h) [
            | inl a ↦ subst (λ x. Parts (x ++ rest)) (sym (single t 58 a)) (record { name = refl; meta = refl; digit = refl; literal = refl })
            | inr n ↦ absurd cc
          ]
        ]
      ]
    ]

token_parts : (t rest : List ℕ) (closing : Bool) → is_closing t ≡ closing → Parts ((if not closing then 32 ∷ [] else []) ++ (t ++ rest))
token_parts t rest false e = record { name = refl; meta = refl; digit = refl; literal = refl }
token_parts t rest true e = closing_parts t rest e

next_parts : (ts : List (List ℕ)) (behind : List Piece) → Parts (render (token_pieces [] true ts ++ behind))
next_parts [] behind = record { name = refl; meta = refl; digit = refl; literal = refl }
next_parts (t ∷ ts) behind = token_parts t (render (token_pieces [] (not (is_opening t)) ts ++ behind)) (is_closing t) refl

opening_ends : (t rest : List ℕ) → is_opening t ≡ true → ends_at (kind_of t) t rest ≡ true
opening_ends t rest e = subst (λ x. ends_at (kind_of x) x rest ≡ true) (sym (single t 40 e)) refl

next_ends : (t : List ℕ) (opening : Bool) → is_opening t ≡ opening → (ts : List (List ℕ)) (behind : List Piece) → ends_at (kind_of t) t (render (token_pieces [] (not opening) ts ++ behind)) ≡ true
next_ends t true e ts behind = opening_ends t _ e
next_ends t false e ts behind = parts_end (kind_of t) t _ (next_parts ts behind)

blank_if : (b : Bool) → list_all is_blank (if b then 32 ∷ [] else []) ≡ true
blank_if true = refl
blank_if false = refl

fits_tokens : (blanks : List ℕ) (parted : Bool) (ts : List (List ℕ)) (behind : List Piece) → list_all is_blank blanks ≡ true → Fit ts → FitsText behind → FitsText (token_pieces blanks parted ts ++ behind)
fits_tokens blanks parted [] behind l f g = (l, refl, refl, g)
fits_tokens blanks parted (t ∷ ts) behind l (also f fs) g = (
  list_all-append is_blank blanks (blank_before parted t) ∙ and_from (list_all is_blank blanks) _ l (blank_if (parted && not (is_closing t))),
  f.fit,
  next_ends t (is_opening t) refl ts behind,
  fits_tokens [] (not (is_opening t)) ts behind refl fs g,
)

-- ---- lines

pub data LinesFit : List Line → Type 0 where
  no_line : LinesFit []
  line : (l : Line) {ls : List Line} → Fit l.tokens → LinesFit ls → LinesFit (l ∷ ls)

pub lines_and : {a b : List Line} → LinesFit a → LinesFit b → LinesFit (a ++ b)
lines_and no_line g = g
lines_and (line l f fs) g = line l f (lines_and fs g)

indent_if : (b : Bool) → list_all is_blank (if b then 32 ∷ 32 ∷ [] else []) ≡ true
indent_if true = refl
indent_if false = refl

pub fits_lines : (ls : List Line) → LinesFit ls → FitsText (flat_map line_pieces ls)
fits_lines [] f = tt
fits_lines (l ∷ ls) (line k f fs) = fits_tokens _ false l.tokens (flat_map line_pieces ls) (indent_if l.indented) f (fits_lines ls fs)
