-- The types of a module that can run, by its places.
use Rattle.std.proofs.Common.{◌≡◌, ℕ, zero, suc, ◌≤◌, Bool, true, List, [], ◌∷◌, Option, Some, None, IsTrue, refl, sym, ap, ◌∙◌, arith}
use Rattle.std.specs.Prelude.{slice_get}
use Rattle.std.specs.List.{list_all, flat_map}
use Rattle.std.proofs.lemmas.Bool.{and_parts, and_from}
use Rattle.std.proofs.lemmas.Bool.Decides.{nat_tests}
use Rattle.std.proofs.lemmas.List.Folds.{list_all-append}
use Rattle.ax_module.specs.declared.inst.Inst.{Inst}
use Rattle.ax_module.specs.declared.inst.Inst.TheVariants as inst
use Rattle.ax_module.specs.declared.module.Block.{Block}
use Rattle.ax_module.specs.declared.module.Function.{Function}
use Rattle.ax_module.specs.declared.module.Global.{Global}
use Rattle.ax_module.specs.declared.module.Module.{Module}
use Rattle.ax_module.specs.declared.types.Ty.{Ty}
use Rattle.ax_source_run.specs.SourceInstructions.{insts_of_block}
use Rattle.ax_source_run.specs.SourcePointers.{blocks_in, blocks_of, elements_of, elements_of_alloca, elements_of_global, insts_of}
use Rattle.ax_source_run.specs.SourceState.{Object, Shared, Private}
use Rattle.ax_source_run.specs.SourceValues.{type_bits}
use Rattle.ax_module.specs.declared.operand.Addr.{Addr}
use Rattle.ax_module.specs.declared.operand.Arg.{Arg}
use Rattle.ax_module.specs.declared.operand.Arg.TheVariants as arg
use Rattle.ax_module.specs.declared.operand.Operand.{Operand}
use Rattle.ax_source.specs.Runnable.{are_narrow, is_narrow_addr, is_narrow_arg, is_narrow_inst}
use Rattle.ax_cells.specs.Narrow.{is_narrow, is_narrow_global}

pub all_at : {A : Type 0} (p : A → Bool) (xs : List A) (k : ℕ) (x : A) → list_all p xs ≡ true → slice_get xs k ≡ Some x → p x ≡ true
all_at p [] k x h e = cc
all_at p (y ∷ xs) zero x h e = let same : y ≡ x = cc in ap p (sym same) ∙ (and_parts (p y) (list_all p xs) h).0
all_at p (y ∷ xs) (suc k) x h e = all_at p xs k x (and_parts (p y) (list_all p xs) h).1 e

abbrev is_narrow_block : Block → Bool
is_narrow_block block = list_all is_narrow_inst block.insts

abbrev is_narrow_function : Function → Bool
is_narrow_function f = list_all is_narrow_block f.blocks

blocks_narrow : (o : Option Function) → ((x : Function) → o ≡ Some x → is_narrow_function x ≡ true) → list_all is_narrow_block (blocks_in o) ≡ true
blocks_narrow None h = refl
blocks_narrow (Some f) h = h f refl

all_insts : (blocks : List Block) → list_all is_narrow_block blocks ≡ true → list_all is_narrow_inst (flat_map (λ (block : Block). block.insts) blocks) ≡ true
all_insts [] h = refl
all_insts (b ∷ blocks) h =
    let parts = and_parts (is_narrow_block b) (list_all is_narrow_block blocks) h in
    list_all-append is_narrow_inst b.insts (flat_map (λ (block : Block). block.insts) blocks) ∙ and_from _ _ parts.0 (all_insts blocks parts.1)

insts_narrow : (blocks : List Block) (b : ℕ) → list_all is_narrow_block blocks ≡ true → list_all is_narrow_inst (insts_of_block blocks b) ≡ true
insts_narrow [] b h = refl
insts_narrow (x ∷ blocks) zero h = (and_parts (is_narrow_block x) (list_all is_narrow_block blocks) h).0
insts_narrow (x ∷ blocks) (suc b) h = insts_narrow blocks b (and_parts (is_narrow_block x) (list_all is_narrow_block blocks) h).1

alloca_narrow : (o : Option Inst) → ((x : Inst) → o ≡ Some x → is_narrow_inst x ≡ true) → is_narrow (elements_of_alloca o).elem ≡ true
unfolding elements_of_alloca is_narrow_inst
alloca_narrow (Some (inst.Alloca ty count align)) h = h (inst.Alloca ty count align) refl
alloca_narrow _ h = refl

global_narrow : (o : Option Global) → ((x : Global) → o ≡ Some x → is_narrow_global x ≡ true) → is_narrow (elements_of_global o).elem ≡ true
global_narrow None h = refl
global_narrow (Some x) h = (and_parts (is_narrow x.elem) _ (h x refl)).0

module _ (m : Module) (h : IsTrue (are_narrow m)) where
  parts : (list_all is_narrow_global m.globals ≡ true) × (list_all is_narrow_function m.functions ≡ true)
  parts = and_parts (list_all is_narrow_global m.globals) (list_all is_narrow_function m.functions) h

  function_blocks : (f : ℕ) → list_all is_narrow_block (blocks_of m f) ≡ true
  function_blocks f = blocks_narrow (slice_get m.functions f) (λ x e. all_at is_narrow_function m.functions f x parts.1 e)

  -- the types of an instruction
  pub block_narrow : (f b : ℕ) → list_all is_narrow_inst (insts_of_block (blocks_of m f) b) ≡ true
  block_narrow f b = insts_narrow (blocks_of m f) b (function_blocks f)

  pub inst_narrow : (f b i : ℕ) (x : Inst) → slice_get (insts_of_block (blocks_of m f) b) i ≡ Some x → IsTrue (is_narrow_inst x)
  inst_narrow f b i x e = all_at is_narrow_inst (insts_of_block (blocks_of m f) b) i x (block_narrow f b) e

  -- and those of the elements of an object
  elem_narrow : (f : ℕ) (o : Object) → is_narrow (elements_of m f o).elem ≡ true
  elem_narrow f (Shared g) = global_narrow (slice_get m.globals g) (λ x e. all_at is_narrow_global m.globals g x parts.0 e)
  elem_narrow f (Private r) = alloca_narrow (slice_get (insts_of m f) r) (λ x e. all_at is_narrow_inst (insts_of m f) r x (all_insts (blocks_of m f) (function_blocks f)) e)

  pub elem_bits : (f : ℕ) (o : Object) → type_bits (elements_of m f o).elem ≤ 128
  elem_bits f o = let e = elem_narrow f o in grind (arith, nat_tests)

-- ---- arguments
pub pointer_narrow : (args : List Arg) (k : ℕ) (addr : Addr) → IsTrue (list_all is_narrow_arg args) → Some (arg.Pointer addr) ≡ slice_get args k → IsTrue (is_narrow_addr addr)
pointer_narrow args k addr h e = all_at is_narrow_arg args k (arg.Pointer addr) h (sym e)

pub value_narrow : (args : List Arg) (k : ℕ) (ty : Ty) (v : Operand) → IsTrue (list_all is_narrow_arg args) → Some (arg.Value ty v) ≡ slice_get args k → IsTrue (is_narrow ty)
value_narrow args k ty v h e = all_at is_narrow_arg args k (arg.Value ty v) h (sym e)

pub ruleset args = (pointer_narrow, value_narrow)
