use Rattle.std.proofs.Common.{◌≡◌, ◌-◌, true, false, length, take, drop, Some, refl, sym, ap, ◌∙◌, arith, length-drop}
use Rattle.std.specs.List.{prefix_len}
use Rattle.ax_lex.specs.Bytes.{is_text_byte}
use Rattle.ax_lex.specs.Tokens.{is_closed}
use Rattle.ax_lex.specs.Names.{is_quote}
use Rattle.ax_lex.proofs.NameLemmas.{closed_is}
use Rattle.ax_lex.proofs.name.closed.Goals as goal

pub returns-then-is_quote : goal.returns-then-is_quote
returns-then-is_quote c =
    let bs = c.args.bytes.now in
    let n : c.text_run.result ≡ prefix_len is_text_byte bs = c.text_run.ensures.is in
    let yes' : is_closed bs ≡ true = closed_is bs ∙ ap (λ k. is_quote (drop k bs)) (sym n) ∙ ap is_quote (sym c.split_at.ensures.back) ∙ sym c.is_quote.ensures.is ∙ c.if-is_quote.true in
    let one : length (drop c.text_run.result bs) ≡ 1 = ap length (sym c.split_at.ensures.back) ∙ c.is_quote.ensures.one c.if-is_quote.true in
    let len : length bs - 1 ≡ c.text_run.result = omega (arith, one, length-drop c.text_run.result bs, c.text_run.ensures.within) in
    rw yes' (ap (λ k. Some (take k bs)) len ∙ ap (λ x. Some x) (sym c.split_at.ensures.front))

pub returns-else-is_quote : goal.returns-else-is_quote
returns-else-is_quote c =
    let bs = c.args.bytes.now in
    let n : c.text_run.result ≡ prefix_len is_text_byte bs = c.text_run.ensures.is in
    let no' : is_closed bs ≡ false = closed_is bs ∙ ap (λ k. is_quote (drop k bs)) (sym n) ∙ ap is_quote (sym c.split_at.ensures.back) ∙ sym c.is_quote.ensures.is ∙ c.if-is_quote.false in
    rw no' refl
