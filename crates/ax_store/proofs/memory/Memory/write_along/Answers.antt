use Rattle.std.proofs.Common.{◌≡◌, ◌+◌, ◌<◌, ℕ, List, refl, sym, ap, ◌∙◌, subst}
use Rattle.ax_store.specs.Places.{byte_at, is_inside}
use Rattle.ax_store.specs.Spans.{HasByte, set_along}
use Rattle.ax_store.proofs.Places.{byte_set, inside_set, put_none}
use Rattle.ax_store.proofs.Spans.{here_set, same_sizes}
use Rattle.ax_store.proofs.Writing.{more}
use Rattle.ax_store.proofs.memory.Memory.write_along.Goals as goal

pub loop-i-init : goal.loop-i-init
loop-i-init c = (record { bytes = sym (put_none (is_inside c.args.self.now) c.args.a c.args.v (byte_at c.args.self.now)); inside = refl }, c.requires.has)

pub set_along-requires : goal.set_along-requires
set_along-requires c = c.loop-i.invariant.1 c.loop-i.i c.loop-i-test.true

pub loop-i-preserved : goal.loop-i-preserved
loop-i-preserved c =
    let same = c.set_along.ensures ∙ sym (here_set c.loop-i.self c.args.a c.args.n c.loop-i.i c.byte_of_number.result c.args.span c.requires.row c.loop-i-test.true) in (
      more c.args.self.now c.loop-i.self c.set_along.new.self c.args.a c.loop-i.i c.args.v c.byte_of_number.result c.loop-i.invariant.0 c.byte_of_number.ensures
          (ap byte_at same ∙ byte_set c.loop-i.self (c.args.a + c.loop-i.i) c.byte_of_number.result)
          (ap is_inside same ∙ inside_set c.loop-i.self (c.args.a + c.loop-i.i) c.byte_of_number.result),
      λ j l. subst (λ rs. HasByte rs j c.args.span) (sym c.set_along.ensures) (same_sizes c.loop-i.self j c.loop-i.i c.byte_of_number.result c.args.span (c.loop-i.invariant.1 j l)),
    )
