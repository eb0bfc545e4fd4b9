use Rattle.std.proofs.Common.{◌≡◌, ℕ, ◌≤◌, Bool, false, List, [], ◌∷◌, sym, subst, arith}
use Rattle.std.specs.Prelude.{OnOk, nat_lt}
use Rattle.std.proofs.lemmas.Bool.Decides.{nat_tests}
use Rattle.ax_mid.specs.Built.{pushed}
use Rattle.ax_mid.specs.declared.code.Line.{Line}
use Rattle.ax_mid.specs.declared.instruction.MidInst.TheVariants as mid
use Rattle.ax_mid.specs.declared.registers.Virtual.{Virtual}
use Rattle.ax_rules.specs.declared.facts.Extent.{Extent}
use Rattle.ax_words.specs.declared.place.Site.{Site}
use Rattle.ax_pieces.proofs.Pushing.{then_pushed}
use Rattle.ax_selected.specs.Addresses.{count_of}
use Rattle.ax_selected.specs.Registers.{virtual}
use Rattle.ax_selected.specs.Selected.{silent}
use Rattle.ax_reach.specs.Places.{object_of}
use Rattle.ax_reach.specs.Ways.{fixed_way, tested_way}
use Rattle.ax_reach.proofs.pointers.Pointers.push_fixed.Goals as goal

past : (i n : ℕ) → n ≤ i → nat_lt i n ≡ false
past i n le = grind (arith, nat_tests)

pub returns-in_ok-silent : goal.returns-in_ok-silent
returns-in_ok-silent c =
    let program = c.args.self.now.program in
    let f = c.args.self.now.function in
    let k = c.args.k in
    let o = object_of c.args.object in
    let i = c.args.i in
    let before = c.args.code.now in
    let code = c.silent-else-i-extent.new.code in
    let line : List (Line Virtual) = silent f k (mid.Const (virtual 1) i) ∷ [] in
    let outside : nat_lt i (count_of program f o) ≡ false = past i (count_of program f o) (subst (λ (x : Extent). x.count ≤ i) c.extent.ensures.extent c.if-i-extent.false) in
    let first : code ≡ pushed line before = subst (λ (s : Site). code ≡ pushed (silent s.function s.instruction (mid.Const (virtual 1) i) ∷ []) before) c.site-site.ensures.site c.in_ok-silent.ensures in
    subst (λ (b : Bool). OnOk c.push_tested.result (c.push_tested.new.code ≡ pushed (fixed_way program f k o b i) before)) (sym outside)
    (then_pushed c.push_tested.result line (tested_way program f k o) before code c.push_tested.new.code first c.push_tested.ensures)
