use Rattle.std.proofs.Common.{◌≡◌, ℕ, zero, suc, ◌<◌, List, [], ◌∷◌, length, drop, None, refl, sym, ◌∙◌, arith}
use Rattle.ax_symbols.specs.declared.symbol.Sign.{Sign}
use Rattle.ax_symbols.specs.declared.symbol.Symbol.{Symbol}
use Rattle.ax_symbols.specs.Pieces.{strip}
use Rattle.ax_symbols.proofs.piece.strip.Goals as goal

ran_out : (signs : List Sign) (i : ℕ) (rest : List Symbol) → length rest < 1 → i < length signs → strip (drop i signs) rest ≡ None
ran_out signs i (t ∷ rest) h lt = absurd (omega arith)
ran_out [] i [] h lt = absurd (omega arith)
ran_out (s ∷ signs) zero [] h lt = refl
ran_out (s ∷ signs) (suc i) [] h lt = ran_out signs i [] h (omega arith)

pub returns-in_default : goal.returns-in_default
returns-in_default c = sym c.loop-sign.invariant ∙ ran_out c.args.signs.now c.loop-sign.sign-index c.loop-sign.rest.now c.in_default.len_below c.loop-sign-test.true
