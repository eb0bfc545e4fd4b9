-- The word that holds an object: it may be used wherever the object may, its number has the object's for a field, and to write it with another number there is to write the object.
use Rattle.std.proofs.Common.{◌≡◌, ℕ, ◌+◌, ◌-◌, ◌*◌, ◌%◌, ◌^◌, ◌<◌, ◌≤◌, Bool, true, refl, sym, ap, ◌∙◌, subst, arith}
use Rattle.ax_words.specs.declared.width.Width.{Width}
use Rattle.ax_words.specs.declared.width.Width.TheVariants.{W8, W16, W32, W64, W128}
use Rattle.ax_words.specs.Width.{bytes_of}
use Rattle.ax_store.specs.Bytes.{all_inside, cut, number_at}
use Rattle.ax_store.specs.Storage.{entry_of}
use Rattle.ax_store.proofs.Calls.{inside_at}
use Rattle.ax_store.proofs.Numbers.{number_small}
use Rattle.ax_expand.specs.Shared.{Object, Shared, masked, shared_wrote}
use Rattle.ax_fine.specs.OnBytes.{IsObject}
use Rattle.ax_mask.specs.Codes.{is_narrow}
use Rattle.ax_mask.proofs.Fields.{field, merged}
use Rattle.ax_mask.specs.Prepared.{HasWord}
use Rattle.ax_mask.proofs.Prepared.{Lies, lies, mask_is, word_is}
use Rattle.ax_mask.proofs.Words.{object_field, word_put}

some_byte : (width : Width) → 1 ≤ bytes_of width
some_byte W8 = omega arith
some_byte W16 = omega arith
some_byte W32 = omega arith
some_byte W64 = omega arith
some_byte W128 = omega arith

module _ (width : Width) (narrow : is_narrow width ≡ true) (regs : ℕ → ℕ) (w : Shared) (has : HasWord width regs) (object : IsObject (regs 10) (bytes_of width) w) where
  abbrev pub bytes : ℕ
  bytes = bytes_of width

  -- the object's place in the word
  abbrev pub offset : ℕ
  offset = regs 10 % 4

  pub place : Lies bytes offset
  place = lies width (regs 10) narrow object.aligned

  low : regs 10 < 2 ^ 24
  low = (let some = some_byte width in let end = object.shared in omega (arith, some, end))

  pub begins : regs 5 ≡ regs 10 - regs 10 % 4
  begins = has.word ∙ word_is (regs 10) (let h = low in omega (arith, h))

  object_at : regs 5 + offset ≡ regs 10
  object_at = (let e = begins in omega (arith, e))

  word_inside : all_inside w.inside (regs 5) 4 ≡ true
  word_inside =
      let first : w.inside (regs 10) ≡ true = (let e : regs 10 + 0 ≡ regs 10 = omega arith in sym (ap w.inside e) ∙ inside_at w.inside (regs 10) bytes 0 object.inside (some_byte width)) in
      ap (λ a. all_inside w.inside a 4) begins ∙ object.words (regs 10) low first

  pub word : Object (regs 5) 4 w
  word =
      let e = begins in
      let h = low in
      record { aligned = omega (arith, e); below = omega (arith, e, h); some = omega arith; inside = word_inside; small = object.small }

  abbrev pub number : ℕ
  number = number_at w.mem (regs 5) 4

  pub number_few : number < 2 ^ 32
  number_few = number_small w.mem object.small (regs 5) 4

  -- THE OBJECT'S NUMBER
  pub is_field : number_at w.mem (regs 10) bytes ≡ field (8 * bytes) (8 * offset) number
  is_field = ap (λ a. number_at w.mem a bytes) (sym object_at) ∙ object_field w.mem object.small (regs 5) offset bytes (place.fits)

  -- THE WRITE of a word with other bits in the object's place
  pub writes : (r x v : ℕ) → r % 2 ^ 32 ≡ number → field (8 * bytes) (8 * offset) x ≡ v → shared_wrote (entry_of (regs 5) 4 (merged r x (regs 7))) w ≡ shared_wrote (entry_of (regs 10) bytes v) w
  writes r x v linked is =
      ap (λ m. shared_wrote (entry_of (regs 5) 4 (merged r x m)) w) (has.mask ∙ mask_is width (regs 10) place)
      ∙ ap (λ f. record w { mem = masked f }) (word_put w.mem object.small (regs 5) offset bytes place.fits r x v linked is w.inside word_inside)
      ∙ ap (λ a. shared_wrote (entry_of a bytes v) w) object_at
