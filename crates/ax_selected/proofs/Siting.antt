-- What holds of the lines of each instruction's code holds of each line of the code, with the instruction at its site.
use Rattle.std.proofs.Common.{◌≡◌, ℕ, zero, suc, ◌+◌, List, [], ◌∷◌, ◌++◌, Option, Some, length, refl, sym, ap, ◌∙◌, subst, arith, slice_get}
use Rattle.std.proofs.lemmas.Option.{none-some, same_Some}
use Rattle.ax_module.specs.declared.inst.Inst.{Inst}
use Rattle.ax_module.specs.declared.module.Block.{Block}
use Rattle.ax_module.specs.declared.module.Function.{Function}
use Rattle.ax_source_run.specs.SourceInstructions.{first_number, insts_of_block}
use Rattle.ax_source_run.specs.SourcePointers.{blocks_in}
use Rattle.ax_source_run.specs.SourceState.{SourceProgram}
use Rattle.ax_mid.specs.declared.code.Line.{Line}
use Rattle.ax_mid.specs.declared.instruction.MidInst.{MidInst}
use Rattle.ax_mid.specs.declared.instruction.MidInst.TheVariants as mid
use Rattle.ax_mid.specs.declared.registers.Virtual.{Virtual}
use Rattle.ax_words.specs.declared.place.Site.{Site}
use Rattle.ax_typed.proofs.Places.{all_insts, number_at}
use Rattle.ax_selected.specs.Operations.{inst_of_site}
use Rattle.ax_selected.specs.Selected.{blocks_lines, function_lines, functions_lines, insts_lines, piece, selected}
use Rattle.ax_selected.proofs.Each.{EachLine}

-- P: of a function, a source instruction and a middle one; it is asked of the middle instructions that show something, and a label shows nothing
module _ (program : SourceProgram) (P : ℕ → Inst → MidInst Virtual → Type 0) (Shows : MidInst Virtual → Type 0) (no_label : (n : ℕ) → Shows (mid.Label n) → ⊥) where
  pub record IsSited (line : Line Virtual) : Type 0 where
    pub inst : Inst
    pub at : inst_of_site program line.site ≡ Some inst
    pub holds : P line.site.function inst line.inst

  abbrev IsAt : Line Virtual → Type 0
  IsAt line = Shows line.inst → IsSited line

  abbrev AreAt : List (Line Virtual) → Type 0
  AreAt [] = Unit {0}
  AreAt (line ∷ lines) = IsAt line × AreAt lines

  both : (xs ys : List (Line Virtual)) → AreAt xs → AreAt ys → AreAt (xs ++ ys)
  both [] ys h g = g
  both (x ∷ xs) ys h g = (h.0, both xs ys h.1 g)

  found_at : (lines : List (Line Virtual)) (place : ℕ) (line : Line Virtual) → slice_get lines place ≡ Some line → AreAt lines → IsAt line
  found_at [] place line e h = absurd (none-some line e)
  found_at (x ∷ lines) zero line e h = subst IsAt (same_Some x line e) h.0
  found_at (x ∷ lines) (suc place) line e h = found_at lines place line e h.1

  module _ (each : (f k : ℕ) (blocks : List Block) (b : ℕ) (i : Inst) → EachLine (P f i) f k (piece f k program blocks b i)) where
    module _ (f : ℕ) where
      abbrev site : ℕ → Site
      site k = record { function = f; instruction = k }

      abbrev Here : ℕ → Inst → Type 0
      Here k i = inst_of_site program (site k) ≡ Some i

      from_each : (k : ℕ) (i : Inst) → Here k i → (lines : List (Line Virtual)) → EachLine (P f i) f k lines → AreAt lines
      from_each k i at [] h = tt
      from_each k i at (line ∷ lines) h = (
        (λ shows. record { inst = i; at = ap (inst_of_site program) h.0.0 ∙ at; holds = subst (λ (s : Site). P s.function i line.inst) (sym h.0.0) h.0.1 }),
        from_each k i at lines h.1,
      )

      of_insts : (blocks : List Block) (b k : ℕ) (insts : List Inst) → ((j : ℕ) (x : Inst) → slice_get insts j ≡ Some x → Here (k + j) x) → AreAt (insts_lines program f blocks b k insts)
      of_insts blocks b k [] at = tt
      of_insts blocks b k (i ∷ insts) at =
          let own : Here k i = subst (λ (n : ℕ). Here n i) (omega arith) (at 0 i refl) in
          both (piece f k program blocks b i) (insts_lines program f blocks b (k + 1) insts) (from_each k i own (piece f k program blocks b i) (each f k blocks b i))
          (of_insts blocks b (k + 1) insts (λ j x e. let next : k + suc j ≡ k + 1 + j = omega arith in subst (λ (n : ℕ). Here n x) next (at (suc j) x e)))

      of_blocks : (all : List Block) (b k : ℕ) (blocks : List Block) → ((d j : ℕ) (x : Inst) → slice_get (insts_of_block blocks d) j ≡ Some x → Here (k + (first_number blocks d + j)) x) → AreAt (blocks_lines program f all b k blocks)
      of_blocks all b k [] at = tt
      of_blocks all b k (block ∷ blocks) at = (
        (λ shows. absurd (no_label _ shows)),
        both (insts_lines program f all b k block.insts) (blocks_lines program f all (b + 1) (k + length block.insts) blocks)
            (of_insts all b k block.insts (λ j x e. let same : k + (0 + j) ≡ k + j = omega arith in subst (λ (n : ℕ). Here n x) same (at 0 j x e)))
            (of_blocks all (b + 1) (k + length block.insts) blocks (λ d j x e.
            let first = first_number blocks d in
            let same : k + (length block.insts + first + j) ≡ k + length block.insts + (first + j) = omega arith in
            subst (λ (n : ℕ). Here n x) same (at (suc d) j x e))),
      )

    of_functions : (f : ℕ) (functions : List Function) → ((n : ℕ) (g : Function) → slice_get functions n ≡ Some g → slice_get program.source.functions (f + n) ≡ Some g) → AreAt (functions_lines program f functions)
    of_functions f [] at = tt
    of_functions f (g ∷ functions) at =
        let own : slice_get program.source.functions f ≡ Some g = subst (λ (n : ℕ). slice_get program.source.functions n ≡ Some g) (omega arith) (at 0 g refl) in
        both (function_lines program f g) (functions_lines program (f + 1) functions)
        (of_blocks f g.blocks 0 0 g.blocks (λ d j x e.
        let n = first_number g.blocks d + j in
        let same : 0 + n ≡ n = omega arith in
        ap (λ (o : Option Function). slice_get (all_insts (blocks_in o)) (0 + n)) own ∙ (ap (slice_get (all_insts g.blocks)) same ∙ number_at g.blocks d j x e)))
        (of_functions (f + 1) functions (λ n h e. let next : f + suc n ≡ f + 1 + n = omega arith in subst (λ (m : ℕ). slice_get program.source.functions m ≡ Some h) next (at (suc n) h e)))

    pub sited : (place : ℕ) (line : Line Virtual) → slice_get (selected program).lines place ≡ Some line → IsAt line
    sited place line e =
        found_at (selected program).lines place line e
        (of_functions 0 program.source.functions (λ n g at. let same : n ≡ 0 + n = omega arith in subst (λ (m : ℕ). slice_get program.source.functions m ≡ Some g) same at))
