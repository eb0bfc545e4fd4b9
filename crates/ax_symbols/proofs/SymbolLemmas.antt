-- Words and marks that are written are found again.
use Rattle.std.proofs.Common.{◌≡◌, [], ◌∷◌, refl}
use Rattle.ax_symbols.specs.declared.vocabulary.Word.{Word}
use Rattle.ax_symbols.specs.declared.vocabulary.Word.TheVariants as word
use Rattle.ax_symbols.specs.declared.symbol.Punctuation.{Punctuation}
use Rattle.ax_symbols.specs.declared.symbol.Punctuation.TheVariants as mark
use Rattle.ax_symbols.specs.declared.symbol.Sign.TheVariants as sign
use Rattle.ax_symbols.specs.Signs.{word_text, mark_byte}
use Rattle.ax_symbols.specs.Symbols.{word_of, mark_sign}

-- No word of the table is written by no bytes, so it holds of Other too.
pub word_again : (w : Word) → word_of (word_text w) ≡ w
unfolding word_of word_text
word_again word.Other = refl
word_again _ = refl

pub mark_again : (m : Punctuation) → mark_sign (mark_byte m ∷ []) ≡ sign.Mark m
mark_again mark.Equals = refl
mark_again _ = refl
