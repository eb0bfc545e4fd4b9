use Rattle.std.proofs.Common.{arith, subst, sym, List, ℕ}
use Rattle.ax_lex.specs.Tokens.{AreTokens}
use Rattle.ax_lex.specs.Written.{tokens_at}
use Rattle.ax_lex.proofs.Rendered.{rendered}
use Rattle.ax_lex.proofs.Walk.{next_reached, reached_end, reached_bad, same_tokens, same_bad, not_both, tokens_within, tokens_few}
use Rattle.ax_lex.proofs.lexer.tokens.Goals as goal

pub returns-in_default-clause-only : goal.returns-in_default-clause-only
returns-in_default-clause-only c = λ ts h. absurd (not_both c.args.text.now ts c.loop-at.at h (reached_bad c.args.text.now c.loop-at.tokens.items c.loop-at.at c.loop-at.invariant c.loop-at-test.true c.in_default.ensures.scan))

pub returns-in_default-clause-bad : goal.returns-in_default-clause-bad
returns-in_default-clause-bad c = λ at h. same_bad c.args.text.now c.loop-at.at at (reached_bad c.args.text.now c.loop-at.tokens.items c.loop-at.at c.loop-at.invariant c.loop-at-test.true c.in_default.ensures.scan) h

pub loop-at-preserved : goal.loop-at-preserved
loop-at-preserved c =
    rw c.in_ok-push.ensures.items (next_reached c.args.text.now c.loop-at.tokens.items c.loop-at.at c.in-Some.kind c.in-Some.len _ c.loop-at.invariant c.in-Some.ensures.scan (omega (arith, c.gap_end-at-in-loop-at.ensures.is)) (omega arith))

pub returns-clause-only : goal.returns-clause-only
returns-clause-only c = λ ts h. same_tokens c.args.text.now c.loop-at.tokens.items ts (reached_end c.args.text.now c.loop-at.tokens.items c.loop-at.at c.loop-at.invariant c.loop-at-test.false) h

pub returns-clause-bad : goal.returns-clause-bad
returns-clause-bad c = λ at h. not_both c.args.text.now c.loop-at.tokens.items at (reached_end c.args.text.now c.loop-at.tokens.items c.loop-at.at c.loop-at.invariant c.loop-at-test.false) h

pub returns-clause-within : goal.returns-clause-within
returns-clause-within c = tokens_within c.args.text.now c.loop-at.tokens.items (reached_end c.args.text.now c.loop-at.tokens.items c.loop-at.at c.loop-at.invariant c.loop-at-test.false)

pub returns-clause-few : goal.returns-clause-few
returns-clause-few c = tokens_few c.args.text.now c.loop-at.tokens.items (reached_end c.args.text.now c.loop-at.tokens.items c.loop-at.at c.loop-at.invariant c.loop-at-test.false)

pub returns-in_default-clause-written : goal.returns-in_default-clause-written
returns-in_default-clause-written c = λ ps e f.
    let h = subst (λ (text : List ℕ). AreTokens text (tokens_at 0 ps)) (sym e) (rendered ps f) in
    absurd (not_both c.args.text.now (tokens_at 0 ps) c.loop-at.at h (reached_bad c.args.text.now c.loop-at.tokens.items c.loop-at.at c.loop-at.invariant c.loop-at-test.true c.in_default.ensures.scan))

pub returns-clause-written : goal.returns-clause-written
returns-clause-written c = λ ps e f.
    let h = subst (λ (text : List ℕ). AreTokens text (tokens_at 0 ps)) (sym e) (rendered ps f) in
    same_tokens c.args.text.now c.loop-at.tokens.items (tokens_at 0 ps) (reached_end c.args.text.now c.loop-at.tokens.items c.loop-at.at c.loop-at.invariant c.loop-at-test.false) h
