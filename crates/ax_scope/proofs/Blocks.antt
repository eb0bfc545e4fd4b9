-- Blocks, as a loop makes them.
use Rattle.std.proofs.Common.{◌≡◌, List, [], ◌∷◌, ◌++◌, refl, sym, ap, ◌∙◌, append_assoc}
use Rattle.std.proofs.lemmas.List.{append-nil}
use Rattle.ax_module.specs.declared.inst.Inst.{Inst}
use Rattle.ax_module.specs.declared.module.Block.{Block}
use Rattle.ax_scope.specs.Module.{onto, empty_block}

pub onto_onto : (a b : List Inst) (bs : List Block) → onto a (onto b bs) ≡ onto (a ++ b) bs
onto_onto a b [] = refl
onto_onto a b (c ∷ cs) = ap (λ (x : List Inst). record { insts = x } ∷ cs) (sym (append_assoc a b c.insts))

pub onto_nothing : (bs : List Block) → onto [] bs ≡ bs
onto_nothing [] = refl
onto_nothing (b ∷ bs) = refl

pub closed : (blocks : List Block) (block : List Inst) (bs : List Block) → (blocks ++ record { insts = block } ∷ []) ++ onto [] bs ≡ blocks ++ onto block (empty_block ∷ bs)
closed blocks block bs =
    append_assoc blocks (record { insts = block } ∷ []) (onto [] bs)
    ∙ ap (λ (x : List Block). blocks ++ record { insts = block } ∷ x) (onto_nothing bs)
    ∙ ap (λ (x : List Inst). blocks ++ record { insts = x } ∷ bs) (sym (append-nil block))
