-- How many instructions there are before and in a block.
use Rattle.std.proofs.Common.{◌≡◌, ℕ, zero, suc, ◌+◌, ◌<◌, ◌≤◌, List, [], ◌∷◌, Some, length, ap, ◌∙◌, arith, length-append, slice_get}
use Rattle.std.proofs.lemmas.Option.{none-some, same_Some, slice_get_within}
use Rattle.ax_module.specs.declared.inst.Inst.{Inst}
use Rattle.ax_module.specs.declared.module.Block.{Block}
use Rattle.ax_source_run.specs.SourceInstructions.{first_number, insts_of_block}
use Rattle.ax_typed.proofs.Places.{all_insts}

pub counted : (blocks : List Block) (b : ℕ) → first_number blocks b + length (insts_of_block blocks b) ≤ length (all_insts blocks)
counted [] b = omega arith
counted (y ∷ blocks) zero = let l = length-append y.insts (all_insts blocks) in omega (arith, l)
counted (y ∷ blocks) (suc b) =
    let l = length-append y.insts (all_insts blocks) in
    let r = counted blocks b in
    omega (arith, l, r)

-- an instruction's number
pub number_below : (blocks : List Block) (b i : ℕ) (x : Inst) → slice_get (insts_of_block blocks b) i ≡ Some x → first_number blocks b + i < length (all_insts blocks)
number_below blocks b i x h =
    let l = slice_get_within (insts_of_block blocks b) i x h in
    let r = counted blocks b in
    omega (arith, l, r)

-- a block by its place, and the number of the next one's first instruction
pub block_is : (blocks : List Block) (b : ℕ) (block : Block) → slice_get blocks b ≡ Some block → insts_of_block blocks b ≡ block.insts
block_is [] b block h = absurd (none-some block h)
block_is (y ∷ blocks) zero block h = ap (λ (z : Block). z.insts) (same_Some y block h)
block_is (y ∷ blocks) (suc b) block h = block_is blocks b block h

pub no_first : (blocks : List Block) → first_number blocks 0 ≡ 0
no_first [] = omega arith
no_first (x ∷ blocks) = omega arith

pub room : (blocks : List Block) (b : ℕ) (block : Block) → slice_get blocks b ≡ Some block → length (all_insts blocks) ≤ 2048 → first_number blocks b + length block.insts ≤ 2048
room blocks b block at few =
    let e = ap (λ (insts : List Inst). length insts) (block_is blocks b block at) in
    let c = counted blocks b in
    omega (arith, e, c, few)

pub next_first : (blocks : List Block) (b : ℕ) (block : Block) → slice_get blocks b ≡ Some block → first_number blocks (b + 1) ≡ first_number blocks b + length block.insts
next_first [] b block h = absurd (none-some block h)
next_first (y ∷ blocks) zero block h =
    let e = ap (λ (z : Block). length z.insts) (same_Some y block h) in
    let z = no_first blocks in
    omega (arith, e, z)
next_first (y ∷ blocks) (suc b) block h =
    let step : suc b + 1 ≡ suc (b + 1) = omega arith in
    let e = next_first blocks b block h in
    ap (first_number (y ∷ blocks)) step ∙ omega (arith, e)
