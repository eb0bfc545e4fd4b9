use Rattle.std.proofs.Common.{ℕ, ◌++◌, false, List, [], map, refl, ap, sym, ◌∙◌, Bor, arith}
use Rattle.ax_sched.specs.Reading.{words_from}
use Rattle.ax_sched.proofs.WordLemmas.{words_found, ends_step, grows_step}
use Rattle.ax_sched.proofs.line.words_of.Goals as goal
use Rattle.ax_sched.proofs.line.words_of.Goals.{then-parts_words+in_ok-push_word, else-parts_words}

pub loop-i-init : goal.loop-i-init
loop-i-init c = record {
  within = omega arith;
  read = ap (λ (ws : List (Bor (List ℕ))). map (λ x. x.now) ws ++ words_from [] false c.args.line.now) c.new-words.ensures.items ∙ words_found c.args.line.now;
}

pub loop-i-preserved : goal.loop-i-preserved
loop-i-preserved c =
    elim c.if-parts_words.branch [
      | then-parts_words+in_ok-push_word w ↦ record {
        within = omega (arith, w.start-is);
        read = ends_step c.args.line.now (map (λ x. x.now) c.loop-i.words.items) _ c.loop-i.start c.loop-i.i c.loop-i.quoted c.loop-i-test.true c.loop-i.invariant.read _ _ _ (sym c.parts_words.ensures ∙ w.if-parts_words.true) c.turned-quoted.ensures (rw w.words-is w.in_ok-push_word.ensures) w.start-is;
      }
      | else-parts_words w ↦ record {
        within = omega (arith, w.start-is, c.loop-i.invariant.within);
        read = grows_step c.args.line.now (map (λ x. x.now) c.loop-i.words.items) _ c.loop-i.start c.loop-i.i c.loop-i.quoted c.loop-i-test.true c.loop-i.invariant.read _ _ _ c.loop-i.invariant.within (sym c.parts_words.ensures ∙ w.if-parts_words.false) c.turned-quoted.ensures (rw w.words-is refl) w.start-is;
      }
    ]
