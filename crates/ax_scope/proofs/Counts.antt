-- How many globals, functions, parameters, blocks and instructions lines make.
use Rattle.std.proofs.Common.{◌≡◌, ℕ, zero, suc, ◌+◌, ◌-◌, ◌^◌, ◌<◌, ◌≤◌, arith, Bool, true, false, cond, List, [], ◌∷◌, ◌++◌, length, take, drop, map, get_or, All, Option, None, Some, refl, sym, ap, subst}
use Rattle.std.specs.List.{list_all, prefix_len, flat_map}
use Rattle.std.proofs.lemmas.Bool.{and_from, lt-ltb}
use Rattle.std.proofs.lemmas.List.{length-append, length-map}
use Rattle.std.proofs.lemmas.List.Elements.{All-head, All-tail, All-take, All-drop}
use Rattle.ax_module.specs.declared.types.Ty.{Ty}
use Rattle.ax_module.specs.declared.inst.Inst.{Inst}
use Rattle.ax_module.specs.declared.module.Block.{Block}
use Rattle.ax_module.specs.WellFormed.{is_count, is_function_counted, is_counted}
use Rattle.ax_symbols.specs.declared.symbol.NameSpan.{NameSpan}
use Rattle.ax_lines.specs.declared.statement.Line.{Line}
use Rattle.ax_lines.specs.declared.statement.Line.TheVariants as line
use Rattle.ax_lines.specs.Lines.{param_count}
use Rattle.ax_scope.specs.declared.meaning.Meaning.{Meaning}
use Rattle.ax_scope.specs.NameTable.{look}
use Rattle.ax_scope.specs.Names.{is_inner, inside_of, globals_from}
use Rattle.ax_scope.specs.Resolve.{Looks}
use Rattle.ax_scope.specs.Faults.{looks_of, stated}
use Rattle.ax_scope.specs.Module.{ends_block, insts_in, empty_block, onto, blocks_in, function_at, functions_in, global_at, globals_in, module_of}

abbrev pub IsFew : Line → Type 0
IsFew l = param_count l < 2 ^ 32

-- ---- lines of which some are left

pub few_first : (rest : List Line) (l : Line) → 1 ≤ length rest → l ≡ get_or rest 0 l → All IsFew rest → IsFew l
few_first rest l some is h = subst IsFew (sym is) (h 0 l (omega (arith, some)))

pub few_left : (rest : List Line) (n : ℕ) (left : List Line) → left ≡ drop n (take (length rest - 1) (drop 1 rest)) → All IsFew rest → All IsFew left
few_left rest n left e h = subst (All IsFew) (sym e) (All-drop IsFew n (take (length rest - 1) (drop 1 rest)) (All-take IsFew (length rest - 1) (drop 1 rest) (All-drop IsFew 1 rest h)))

-- ---- blocks

abbrev insts : List Block → List Inst
insts bs = flat_map (λ b. b.insts) bs

onto_count : (front : List Inst) (bs : List Block) → length (onto front bs) ≡ length bs
onto_count front [] = refl
onto_count front (b ∷ bs) = refl

onto_insts : (front : List Inst) (bs : List Block) → length (insts (onto front bs)) ≤ length front + length (insts bs)
onto_insts front [] = omega arith
onto_insts front (b ∷ bs) = omega (arith, length-append (front ++ b.insts) (insts bs), length-append front b.insts, length-append b.insts (insts bs))

one_inst : (o : Option (Option Inst)) → length (insts_in o) ≤ 1
one_inst None = omega arith
one_inst (Some None) = omega arith
one_inst (Some (Some i)) = omega arith

ended_count : (t : Bool) (bs : List Block) → length (cond t (empty_block ∷ bs) bs) ≤ suc (length bs)
ended_count true bs = omega arith
ended_count false bs = omega arith

ended_insts : (t : Bool) (bs : List Block) → length (insts (cond t (empty_block ∷ bs) bs)) ≡ length (insts bs)
ended_insts true bs = refl
ended_insts false bs = refl

blocks_count : (x : Looks) (ls : List Line) → length (blocks_in x ls) ≤ length ls
blocks_count x [] = omega arith
blocks_count x (l ∷ ls) =
    let bs : List Block = blocks_in x ls in
    omega (arith, blocks_count x ls, ended_count (ends_block l) bs, onto_count (insts_in (stated x l)) (cond (ends_block l) (empty_block ∷ bs) bs))

insts_count : (x : Looks) (ls : List Line) → length (insts (blocks_in x ls)) ≤ length ls
insts_count x [] = omega arith
insts_count x (l ∷ ls) =
    let bs : List Block = blocks_in x ls in
    omega (arith, insts_count x ls, ended_insts (ends_block l) bs, one_inst (stated x l), onto_insts (insts_in (stated x l)) (cond (ends_block l) (empty_block ∷ bs) bs))

take_few : (n : ℕ) (ls : List Line) → length (take n ls) ≤ length ls
take_few zero [] = omega arith
take_few zero (l ∷ ls) = omega arith
take_few (suc n) [] = omega arith
take_few (suc n) (l ∷ ls) = omega (arith, take_few n ls)

-- ---- globals and functions

globals_count : (text : List ℕ) (ls : List Line) → length (globals_in text ls) ≤ length ls
unfolding global_at
globals_count text [] = omega arith
globals_count text (line.Global g t c vs a ∷ ls) = omega (arith, globals_count text ls)
globals_count text (_ ∷ ls) = omega (arith, globals_count text ls)

module _ (text : List ℕ) (globals : List ℕ → Option Meaning) where
  functions_count : (ls : List Line) → length (functions_in text globals ls) ≤ length ls
  unfolding function_at
  functions_count [] = omega arith
  functions_count (line.Define f r ps ∷ ls) = omega (arith, functions_count ls)
  functions_count (_ ∷ ls) = omega (arith, functions_count ls)

  counted : (n : ℕ) → n < 2 ^ 32 → is_count n ≡ true
  counted n h = lt-ltb n (2 ^ 32) h

  functions_counted : (ls : List Line) → length ls < 2 ^ 32 → All IsFew ls → list_all is_function_counted (functions_in text globals ls) ≡ true
  unfolding function_at
  functions_counted [] lt h = refl
  functions_counted (line.Define f r ps ∷ ls) lt h =
      let x : Looks = looks_of text globals ps (inside_of ls) in
      let inside : List Line = inside_of ls in
      let few = take_few (prefix_len is_inner ls) ls in
      let ps_few : length ps < 2 ^ 32 = All-head IsFew (line.Define f r ps) ls h in
      and_from _ _
      (and_from _ _
      (and_from _ _ (counted (length (map (λ (p : Ty × NameSpan). p.0) ps)) (omega (arith, length-map ps (λ (p : Ty × NameSpan). p.0), ps_few))) (counted (length (blocks_in x inside)) (omega (arith, blocks_count x inside, few, lt))))
      (counted (length (insts (blocks_in x inside))) (omega (arith, insts_count x inside, few, lt))))
      (functions_counted ls (omega (arith, lt)) (All-tail IsFew (line.Define f r ps) ls h))
  functions_counted (l ∷ ls) lt h = functions_counted ls (omega (arith, lt)) (All-tail IsFew l ls h)

pub module_counted : (text : List ℕ) (ls : List Line) → length ls < 2 ^ 32 → All IsFew ls → is_counted (module_of text ls) ≡ true
module_counted text ls lt h =
    let globals : List ℕ → Option Meaning = look (globals_from text 0 ls) in
    and_from _ _
    (and_from _ _ (lt-ltb (length (globals_in text ls)) (2 ^ 32) (omega (arith, globals_count text ls, lt))) (lt-ltb (length (functions_in text globals ls)) (2 ^ 32) (omega (arith, functions_count text globals ls, lt))))
    (functions_counted text globals ls lt h)
