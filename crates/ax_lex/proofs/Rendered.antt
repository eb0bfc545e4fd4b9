-- The tokens of a text that was written token by token.
use Rattle.std.proofs.Common.{◌≡◌, ℕ, ◌+◌, ◌-◌, ◌≤◌, true, false, List, [], ◌∷◌, ◌++◌, length, drop, refl, sym, ap, ◌∙◌, arith, inl, inr}
use Rattle.std.specs.Prelude.{◌==◌, ◌||◌}
use Rattle.std.specs.List.{list_all}
use Rattle.std.proofs.lemmas.Bool.{and_parts, cases_Bool, or_cases, eqb-true}
use Rattle.std.proofs.lemmas.List.{drop_at, drop-drop, length-append, length-drop}
use Rattle.ax_lex.specs.declared.token.TokenKind.{TokenKind}
use Rattle.ax_lex.specs.declared.token.TokenKind.TheVariants.{Word}
use Rattle.ax_lex.specs.declared.bytes.Start.TheVariants as start
use Rattle.ax_lex.specs.Bytes.{is_blank, start_of}
use Rattle.ax_lex.specs.Tokens.{goes_on, is_token, gap, TokensTo, AreTokens}
use Rattle.ax_lex.specs.Written.{Piece, render, tokens_at, FitsText}
use Rattle.ax_lex.proofs.Written.{written}

nothing_goes : (k : TokenKind) (bs : List ℕ) → goes_on k start.Nothing bs ≡ true → ⊥
nothing_goes Word bs e = cc
nothing_goes _ bs e = cc

blank_starts : (b : ℕ) → is_blank b ≡ true → start_of b ≡ start.Nothing
blank_starts b t =
    elim (or_cases (b == 32 || b == 9) (b == 13) t) [
      | inl u ↦ elim (or_cases (b == 32) (b == 9) u) [
        | inl v ↦ let e : b ≡ 32 = eqb-true b 32 v in rw e refl
        | inr v ↦ let e : b ≡ 9 = eqb-true b 9 v in rw e refl
      ]
      | inr u ↦ let e : b ≡ 13 = eqb-true b 13 u in rw e refl
    ]

drop_none : (xs : List ℕ) → drop (length xs) xs ≡ []
drop_none [] = refl
drop_none (x ∷ xs) = drop_none xs

no_start : (k : TokenKind) (b : ℕ) (bs : List ℕ) → start_of b ≡ start.Nothing → goes_on k (start_of b) bs ≡ true → ⊥
no_start k b bs e h = nothing_goes k bs (rw e at h)

-- no token begins with a blank or a comment
solid : (k : TokenKind) (b : ℕ) (bs : List ℕ) → goes_on k (start_of b) bs ≡ true → (is_blank b ≡ false) × ((b == 59) ≡ false)
solid k b bs h = (
  elim (cases_Bool (is_blank b)) [ inl t ↦ absurd (no_start k b bs (blank_starts b t) h) | inr f ↦ f ],
  elim (cases_Bool (b == 59)) [ inl t ↦ absurd (no_start k b bs (let e : b ≡ 59 = eqb-true b 59 t in rw e refl) h) | inr f ↦ f ],
)

no_gap : (k : TokenKind) (word rest : List ℕ) → is_token k word ≡ true → gap false (word ++ rest) ≡ 0
no_gap k [] rest h = absurd cc
no_gap k (b ∷ bs) rest h = let s = solid k b bs h in rw (s.0, s.1) refl

gap_blank : (blank rest : List ℕ) → list_all is_blank blank ≡ true → gap false (blank ++ rest) ≡ length blank + gap false rest
gap_blank [] rest h = omega arith
gap_blank (b ∷ blank) rest h =
    let a = and_parts (is_blank b) (list_all is_blank blank) h in
    rw a.0 (omega (arith, gap_blank blank rest a.1))

rendered_from : (text : List ℕ) (at : ℕ) (ps : List Piece) → at ≤ length text → drop at text ≡ render ps → FitsText ps → TokensTo text at (tokens_at at ps) (length text)
rendered_from text at [] le e f = omega (arith, length-drop at text, ap length e)
rendered_from text at (p ∷ ps) le e f =
    let s = at + length p.blank in
    let g : gap false (drop at text) ≡ length p.blank = ap (gap false) e ∙ gap_blank p.blank (p.word ++ render ps) f.0 ∙ omega (arith, no_gap p.kind p.word (render ps) f.1) in
    let d : drop s text ≡ p.word ++ render ps = sym (drop-drop (length p.blank) at text) ∙ ap (drop (length p.blank)) e ∙ drop_at p.blank (p.word ++ render ps) (length p.blank) refl in
    let n : drop (s + length p.word) text ≡ render ps = sym (drop-drop (length p.word) s text) ∙ ap (drop (length p.word)) d ∙ drop_at p.word (render ps) (length p.word) refl in
    let w : (s + length p.word) - s ≡ length p.word = omega arith in
    let l = written p.kind p.word (render ps) f.1 f.2 in
    let len : length text ≡ at + length (render (p ∷ ps)) = omega (arith, length-drop at text, ap length e) in (
      record { starts = omega (arith, g); ordered = omega arith; longest = rw (w, d) l },
      rendered_from text (s + length p.word) ps (omega (arith, len, length-append p.blank (p.word ++ render ps), length-append p.word (render ps))) n f.3,
    )

pub rendered : (ps : List Piece) → FitsText ps → AreTokens (render ps) (tokens_at 0 ps)
rendered ps f = (length (render ps), rendered_from (render ps) 0 ps (omega arith) refl f, rw (drop_none (render ps)) (omega arith))
