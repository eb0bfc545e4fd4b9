-- How many registers the line of an atomic operation has.
use Rattle.std.proofs.Common.{◌≡◌, ℕ, ◌*◌, ◌≤◌, ◌&&◌, List, length, arith}
use Rattle.std.specs.Prelude.{IsTrue, nat_eq}
use Rattle.std.proofs.lemmas.Bool.{and_parts, eqb-true}
use Rattle.ax_words.specs.declared.mark.Op.{Op}
use Rattle.ax_words.specs.declared.mark.Op.TheVariants as op
use Rattle.ax_words.specs.declared.width.Width.{Width}
use Rattle.ax_words.specs.declared.width.Width.TheVariants.{W128}
use Rattle.ax_tags.specs.declared.tags.Tag.{Tag}
use Rattle.ax_mid.specs.declared.instruction.MidInst.{MidInst}
use Rattle.ax_mid.specs.declared.instruction.MidInst.TheVariants as mid
use Rattle.ax_mid.specs.WellFormed.{is_act, is_shaped, words, words_given, words_taken}

-- an operation has as many registers as it takes and gives words
abbrev pub AreWords : {R : Type 0} → Op → Width → List R → List R → Type 0
AreWords o width args results = (length args ≡ words_taken o width) × (length results ≡ words_given o width)

abbrev pub HasWords : {R : Type 0} → MidInst R → Type 0
HasWords (mid.Atomic o width order weak address args results) = AreWords o width args results
HasWords _ = Unit {0}

pub has_words : {R : Type 0} (t : Tag) (i : MidInst R) → IsTrue (is_shaped t i) → HasWords i
unfolding is_shaped
has_words t (mid.Atomic o width order weak address args results) h =
    let all = and_parts (is_act t && nat_eq (length args) (words_taken o width)) (nat_eq (length results) (words_given o width)) h in
    let first = and_parts (is_act t) (nat_eq (length args) (words_taken o width)) all.0 in
    (eqb-true (length args) (words_taken o width) first.1, eqb-true (length results) (words_given o width) all.1)
has_words t _ h = tt

-- ---- few
few_words : (width : Width) (n : ℕ) → words width n ≤ 2 * n
few_words W128 n = omega arith
few_words _ n = omega arith

pub few_taken : (o : Op) (width : Width) → words_taken o width ≤ 4
few_taken op.Load width = omega arith
few_taken op.Store width = let a = few_words width 1 in omega (arith, a)
few_taken op.Cmpxchg width = few_words width 2
few_taken (op.Rmw o) width = let a = few_words width 1 in omega (arith, a)
few_taken op.Fence width = omega arith

pub few_given : (o : Op) (width : Width) → words_given o width ≤ 3
few_given op.Load width = let a = few_words width 1 in omega (arith, a)
few_given op.Store width = omega arith
few_given op.Cmpxchg width = let a = few_words width 1 in omega (arith, a)
few_given (op.Rmw o) width = let a = few_words width 1 in omega (arith, a)
few_given op.Fence width = omega arith

pub few_registers : {R : Type 0} (o : Op) (width : Width) (args results : List R) → AreWords o width args results → (length args ≤ 4) × (length results ≤ 3)
few_registers o width args results h =
    let a = h.0 in
    let b = h.1 in
    let c = few_taken o width in
    let d = few_given o width in
    (omega (arith, a, c), omega (arith, b, d))
