-- Two signs are one exactly where their test says so.
use Rattle.std.proofs.Common.{◌≡◌, ℕ, Bool, true, false, cond, ◌&&◌, List, [], ◌∷◌, refl, sym, ap, ◌∙◌}
use Rattle.std.specs.Prelude.{◌==◌}
use Rattle.std.specs.Bool.{Decides}
use Rattle.std.specs.Str.{bytes_eq}
use Rattle.std.proofs.lemmas.Bool.Decides.{Decides-eqb}
use Rattle.std.proofs.lemmas.Slice.Eq.{bytes_eq-Decides}
use Rattle.ax_symbols.specs.declared.vocabulary.Word.{Word}
use Rattle.ax_symbols.specs.declared.vocabulary.Word.TheVariants as word
use Rattle.ax_symbols.specs.declared.symbol.Punctuation.{Punctuation}
use Rattle.ax_symbols.specs.declared.symbol.Punctuation.TheVariants as mark
use Rattle.ax_symbols.specs.declared.symbol.Sign.{Sign}
use Rattle.ax_symbols.specs.declared.symbol.Sign.TheVariants as sign
use Rattle.ax_symbols.specs.Signs.{word_text, mark_byte, same_word, same_mark, same_bool, same_sign}
use Rattle.ax_symbols.specs.Symbols.{word_of, mark_sign}
use Rattle.ax_symbols.proofs.SymbolLemmas.{word_again, mark_again}

pub decides_word : (a b : Word) → Decides (same_word a b) (a ≡ b)
unfolding same_word
decides_word a b =
    let d = bytes_eq-Decides (word_text a) (word_text b) in
    (λ e. sym (word_again a) ∙ ap word_of (d.0 e) ∙ word_again b, λ e. d.1 (ap word_text e))

mark_one : (a b : Punctuation) → sign.Mark a ≡ sign.Mark b → a ≡ b
mark_one a b e = cc

pub decides_mark : (a b : Punctuation) → Decides (same_mark a b) (a ≡ b)
unfolding same_mark
decides_mark a b =
    let d = Decides-eqb (mark_byte a) (mark_byte b) in
    (λ e. mark_one a b (sym (mark_again a) ∙ ap (λ (n : ℕ). mark_sign (n ∷ [])) (d.0 e) ∙ mark_again b), λ e. d.1 (ap mark_byte e))

same_bool_is : (a b : Bool) → Decides (same_bool a b) (a ≡ b)
same_bool_is true true = (λ e. refl, λ e. refl)
same_bool_is false false = (λ e. refl, λ e. refl)
same_bool_is true false = (λ e. absurd cc, λ e. absurd cc)
same_bool_is false true = (λ e. absurd cc, λ e. absurd cc)

both : (a b : Bool) → a && b ≡ true → (a ≡ true) × (b ≡ true)
both true b e = (refl, e)
both false b e = absurd cc

decides_number : (a b : Bool) (m n : ℕ) → Decides (same_bool a b && m == n) (sign.Number a m ≡ sign.Number b n)
decides_number a b m n =
    let d = same_bool_is a b in
    let f = Decides-eqb m n in
    (λ e. let h = both (same_bool a b) (m == n) e in rw (d.0 h.0, f.0 h.1) refl, λ e. let x : a ≡ b = cc in let y : m ≡ n = cc in rw (d.1 x, f.1 y) refl)

pub decides_sign : (a b : Sign) → Decides (same_sign a b) (a ≡ b)
decides_sign (sign.Word a) (sign.Word b) = let d = decides_word a b in (λ e. ap (λ (w : Word). sign.Word w) (d.0 e), λ e. d.1 cc)
decides_sign (sign.Int a) (sign.Int b) = let d = Decides-eqb a b in (λ e. ap (λ (n : ℕ). sign.Int n) (d.0 e), λ e. d.1 cc)
decides_sign sign.Local sign.Local = (λ e. refl, λ e. refl)
decides_sign sign.Global sign.Global = (λ e. refl, λ e. refl)
decides_sign sign.Intrinsic sign.Intrinsic = (λ e. refl, λ e. refl)
decides_sign sign.Lifetime sign.Lifetime = (λ e. refl, λ e. refl)
decides_sign sign.Meta sign.Meta = (λ e. refl, λ e. refl)
decides_sign sign.Group sign.Group = (λ e. refl, λ e. refl)
decides_sign (sign.Number a m) (sign.Number b n) = decides_number a b m n
decides_sign sign.Odd sign.Odd = (λ e. refl, λ e. refl)
decides_sign sign.SingleThread sign.SingleThread = (λ e. refl, λ e. refl)
decides_sign sign.Text sign.Text = (λ e. refl, λ e. refl)
decides_sign (sign.Mark a) (sign.Mark b) = let d = decides_mark a b in (λ e. ap (λ (m : Punctuation). sign.Mark m) (d.0 e), λ e. d.1 cc)
decides_sign sign.Feed sign.Feed = (λ e. refl, λ e. refl)
decides_sign _ _ = (λ e. absurd cc, λ e. absurd cc)
