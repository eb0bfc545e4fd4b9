-- Names as tokens.
use Rattle.std.proofs.Common.{◌≡◌, ℕ, Bool, true, false, List, [], ◌∷◌, drop, refl, inl, inr, arith, one-add, if◌then◌else◌}
use Rattle.std.specs.Prelude.{◌==◌, ◌&&◌, ◌||◌}
use Rattle.std.specs.List.{prefix_len}
use Rattle.std.proofs.lemmas.Bool.{cases_Bool}
use Rattle.std.proofs.lemmas.Bool.Decides.{nat_tests}
use Rattle.ax_lex.specs.declared.token.TokenKind.TheVariants.{Global}
use Rattle.ax_lex.specs.declared.bytes.Start.{Start}
use Rattle.ax_lex.specs.declared.bytes.Start.TheVariants as start
use Rattle.ax_lex.specs.Bytes.{is_letter, is_digit, is_text_byte, is_mark}
use Rattle.ax_lex.specs.Tokens.{is_token, is_closed, is_empty, goes_on}
use Rattle.ax_lex.specs.Names.{is_quote}

quote_ends : (b : ℕ) → is_text_byte b ≡ true → (b == 34) ≡ false
quote_ends b h = grind (arith, nat_tests)

-- what is closed is a text's bytes and a quote
pub closed_is : (bs : List ℕ) → is_closed bs ≡ is_quote (drop (prefix_len is_text_byte bs) bs)
closed_is [] = refl
closed_is (b ∷ bs) =
    elim (cases_Bool (is_text_byte b)) [
      | inl yes' ↦ rw (yes', quote_ends b yes', one-add) (closed_is bs)
      | inr no' ↦ rw no' (or_none (b == 34 && is_empty bs))
    ]
  where
    or_none : (x : Bool) → (x || false) ≡ x
    or_none true = refl
    or_none false = refl

-- a byte other than `@` starts no Global token
either : (s t : Start) (c : Bool) (bs : List ℕ) → goes_on Global s bs ≡ false → goes_on Global t bs ≡ false → goes_on Global (if c then s else t) bs ≡ false
either s t true bs h k = h
either s t false bs h k = k

pub no_global : (b : ℕ) (bs : List ℕ) → (b == 64) ≡ false → is_token Global (b ∷ bs) ≡ false
no_global b bs other =
    either start.Letter _ (is_letter b) bs refl
    (either start.Digit _ (is_digit b) bs refl
    (either start.Percent _ (b == 37) bs refl
    (rw other (either start.Bang _ (b == 33) bs refl
    (either start.Hash _ (b == 35) bs refl
    (either start.Minus _ (b == 45) bs refl
    (either start.Quote _ (b == 34) bs refl
    (either start.Feed _ (b == 10) bs refl
    (either start.Mark start.Nothing (is_mark b) bs refl refl)))))))))
