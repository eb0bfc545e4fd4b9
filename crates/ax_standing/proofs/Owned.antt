-- The block of an instruction by its number, and where a block leads.
use Rattle.std.proofs.Common.{◌≡◌, ℕ, zero, suc, ◌+◌, ◌-◌, List, [], ◌∷◌, map, Some, length, get_or, replicate, ap, ◌∙◌, arith, slice_get}
use Rattle.std.proofs.lemmas.List.{get_or_append_left, get_or-append_right, get_or-replicate, length-replicate}
use Rattle.std.proofs.lemmas.Option.{get_or_from_slice_get, none-some, same_Some, slice_get_within}
use Rattle.ax_module.specs.declared.inst.Inst.{Inst}
use Rattle.ax_module.specs.declared.inst.Inst.TheVariants.{RetVoid}
use Rattle.ax_module.specs.declared.module.Block.{Block}
use Rattle.ax_source_run.specs.SourceInstructions.{first_number, insts_of_block}
use Rattle.ax_check.specs.declared.exits.Exit.TheVariants.{Stop}
use Rattle.ax_check.specs.Graph.{block_exit, exit_of, owners_from}

pub owner_is : (blocks : List Block) (c b n k : ℕ) (x : Inst) → slice_get (insts_of_block blocks b) n ≡ Some x → k ≡ first_number blocks b + n → get_or (owners_from c blocks) k 0 ≡ c + b
owner_is [] c b n k x h e = absurd (none-some x h)
owner_is (y ∷ blocks) c zero n k x h e =
    let within = slice_get_within y.insts n x h in
    let front : List ℕ = replicate (length y.insts) c in
    let long : length front ≡ length y.insts = length-replicate (length y.insts) c in
    get_or_append_left front (owners_from (c + 1) blocks) 0 k (omega (arith, within, long, e)) ∙ (get_or-replicate (length y.insts) k c 0 (omega (arith, within, e)) ∙ omega arith)
owner_is (y ∷ blocks) c (suc b) n k x h e =
    let front : List ℕ = replicate (length y.insts) c in
    let long : length front ≡ length y.insts = length-replicate (length y.insts) c in
    get_or-append_right front (owners_from (c + 1) blocks) (length y.insts) k 0 long (omega (arith, e))
    ∙ (owner_is blocks (c + 1) b n (k - length y.insts) x h (omega (arith, e)) ∙ omega arith)

exit_at : (blocks : List Block) (b : ℕ) (block : Block) → slice_get blocks b ≡ Some block → get_or (map block_exit blocks) b Stop ≡ block_exit block
exit_at [] b block e = absurd (none-some block e)
exit_at (x ∷ blocks) zero block e = ap block_exit (same_Some x block e)
exit_at (x ∷ blocks) (suc b) block e = exit_at blocks b block e

-- a block leads where its last instruction does
pub leads_as : (blocks : List Block) (b n : ℕ) (block : Block) (x : Inst) → slice_get blocks b ≡ Some block → slice_get block.insts n ≡ Some x → n + 1 ≡ length block.insts → get_or (map block_exit blocks) b Stop ≡ exit_of x
leads_as blocks b n block x here h last =
    let at : length block.insts - 1 ≡ n = omega (arith, last) in
    exit_at blocks b block here ∙ (ap (λ (i : ℕ). exit_of (get_or block.insts i RetVoid)) at ∙ ap exit_of (get_or_from_slice_get block.insts n x RetVoid h))
