-- One more line of a function.
use Rattle.std.proofs.Common.{◌≡◌, ℕ, suc, ◌+◌, ◌<◌, Bool, false, cond, List, ◌∷◌, ◌++◌, length, drop, get_or, Option, Some, refl, sym, ap, ◌∙◌, add-one, drop-cons}
use Rattle.ax_module.specs.declared.inst.Inst.{Inst}
use Rattle.ax_module.specs.declared.module.Block.{Block}
use Rattle.ax_lines.specs.declared.statement.Line.{Line}
use Rattle.ax_scope.specs.Resolve.{Looks}
use Rattle.ax_scope.specs.Names.{first_behind}
use Rattle.ax_scope.specs.Faults.{Body, names_of, stated, body_fault, body_behind, body_faults}
use Rattle.ax_scope.specs.Answers.{first_fault}
use Rattle.ax_scope.specs.Module.{ends_block, insts_in, empty_block, onto, blocks_in}
use Rattle.ax_scope.proofs.Blocks.{onto_onto}

pub drop_is : (ls : List Line) (i : ℕ) (l : Line) → i < length ls → l ≡ get_or ls i l → drop i ls ≡ l ∷ drop (i + 1) ls
drop_is ls i l h e = drop-cons ls i l h ∙ ap (λ (x : Line). x ∷ drop (suc i) ls) (sym e) ∙ (rw add-one refl)

pub step_built : (x : Looks) (blocks new : List Block) (block block2 block3 : List Inst) (inst : Option Inst) (ends : Bool) (l : Line) (ls rest : List Line) (whole : List Block)
    → blocks ++ onto block (blocks_in x ls) ≡ whole → ls ≡ l ∷ rest → stated x l ≡ Some inst → block2 ≡ block ++ insts_in (Some inst)
    → ((bs : List Block) → new ++ onto block3 bs ≡ blocks ++ onto block2 (cond ends (empty_block ∷ bs) bs)) → ends ≡ ends_block l
    → new ++ onto block3 (blocks_in x rest) ≡ whole
step_built x blocks new block block2 block3 inst ends l ls rest whole before front says pushed closes last =
    let more : List Block = cond (ends_block l) (empty_block ∷ blocks_in x rest) (blocks_in x rest) in
    closes (blocks_in x rest)
    ∙ ap (λ (t : Bool). blocks ++ onto block2 (cond t (empty_block ∷ blocks_in x rest) (blocks_in x rest))) last
    ∙ ap (λ (b : List Inst). blocks ++ onto b more) pushed
    ∙ ap (λ (bs : List Block). blocks ++ bs) (sym (onto_onto block (insts_in (Some inst)) more))
    ∙ ap (λ (o : Option (Option Inst)). blocks ++ onto block (onto (insts_in o) more)) (sym says)
    ∙ ap (λ (r : List Line). blocks ++ onto block (blocks_in x r)) (sym front)
    ∙ before

pub step_found : (x : Looks) (entry : List ℕ) (first first2 : Bool) (so_far so_far2 : List (List ℕ)) (l : Line) (ls rest : List Line) (n : ℕ) (whole : Option ℕ)
    → first_fault n (body_faults (record { looks = x; entry = entry; first = first; so_far = so_far }) ls) ≡ whole
    → ls ≡ l ∷ rest
    → body_fault (record { looks = x; entry = entry; first = first; so_far = so_far }) l ≡ false
    → so_far2 ≡ so_far ++ names_of x.text entry first l → first2 ≡ first_behind first l
    → first_fault (n + 1) (body_faults (record { looks = x; entry = entry; first = first2; so_far = so_far2 }) rest) ≡ whole
step_found x entry first first2 so_far so_far2 l ls rest n whole before front fits names follows =
    let b : Body = record { looks = x; entry = entry; first = first; so_far = so_far } in
    ap (λ (f : Bool). first_fault (n + 1) (body_faults (record { looks = x; entry = entry; first = f; so_far = so_far2 }) rest)) follows
    ∙ ap (λ (s : List (List ℕ)). first_fault (n + 1) (body_faults (record { looks = x; entry = entry; first = first_behind first l; so_far = s }) rest)) names
    ∙ ap (λ (t : Bool). cond t (Some n) (first_fault (n + 1) (body_faults (body_behind b l) rest))) (sym fits)
    ∙ ap (λ (r : List Line). first_fault n (body_faults b r)) (sym front)
    ∙ before
