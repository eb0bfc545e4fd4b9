-- What the source machine asks of a module.
use Rattle.std.specs.Prelude.{◌≡◌, ◌≤◌, ℕ, Bool, true, ◌&&◌, IsTrue, Option, Some, None, length}
use Rattle.std.specs.List.{list_all}
use Rattle.ax_module.specs.declared.inst.Inst.{Inst}
use Rattle.ax_module.specs.declared.inst.Inst.TheVariants.{Bin, Icmp, Select, Convert, Phi, Alloca, Gep, Load, LoadAtomic, Store, StoreAtomic, Cmpxchg, Rmw, Call}
use Rattle.ax_module.specs.declared.module.Block.{Block}
use Rattle.ax_module.specs.declared.module.Function.{Function}
use Rattle.ax_module.specs.declared.module.Module.{Module}
use Rattle.ax_module.specs.declared.operand.Addr.{Addr}
use Rattle.ax_module.specs.declared.operand.Arg.{Arg}
use Rattle.ax_module.specs.declared.operand.Arg.TheVariants as arg
use Rattle.ax_module.specs.declared.operand.Operand.{Operand}
use Rattle.ax_module.specs.declared.types.Ty.{Ty}
use Rattle.ax_words.specs.Routine.{routine_named}
use Rattle.ax_source.specs.Calls.{routine_has_pointers}
use Rattle.ax_layout.specs.Layout.{CanBeLaidOut, layout_of}
use Rattle.ax_source_run.specs.SourceInstructions.{insts_of_block, phi_count}
use Rattle.ax_source_run.specs.SourcePointers.{blocks_of, insts_of}
use Rattle.ax_source_run.specs.SourceState.{SourceProgram}
use Rattle.ax_cells.specs.Narrow.{is_narrow, is_narrow_global}

abbrev pub is_narrow_step : Option (Ty × ℕ × Ty × Operand) → Bool
is_narrow_step None = true
is_narrow_step (Some step) = is_narrow step.2

abbrev pub is_narrow_addr : Addr → Bool
is_narrow_addr addr = is_narrow_step addr.step

abbrev pub is_narrow_arg : Arg → Bool
is_narrow_arg (arg.Pointer addr) = is_narrow_addr addr
is_narrow_arg (arg.Value ty v) = is_narrow ty

-- the types at which operands are taken, and the pointers of calls
unfoldable pub is_narrow_inst : Inst → Bool
is_narrow_inst (Bin op ty v w) = is_narrow ty
is_narrow_inst (Icmp condition ty v w) = is_narrow ty
is_narrow_inst (Select c ty v other w) = is_narrow ty && is_narrow other
is_narrow_inst (Convert cast ty v to) = is_narrow ty && is_narrow to
is_narrow_inst (Phi ty entries) = is_narrow ty
is_narrow_inst (Alloca ty count align) = is_narrow ty
is_narrow_inst (Gep elem count base ty v) = is_narrow ty
is_narrow_inst (Load ty addr align) = is_narrow_addr addr
is_narrow_inst (LoadAtomic ty addr order align) = is_narrow_addr addr
is_narrow_inst (Store ty v addr align) = is_narrow ty && is_narrow_addr addr
is_narrow_inst (StoreAtomic ty v addr order align) = is_narrow ty && is_narrow_addr addr
is_narrow_inst (Cmpxchg weak addr ty v other w success failure align) = is_narrow_addr addr && is_narrow ty && is_narrow other
is_narrow_inst (Rmw op addr ty v order align) = is_narrow_addr addr && is_narrow ty
is_narrow_inst (Call result name args) = list_all is_narrow_arg args && routine_has_pointers (routine_named name) args
is_narrow_inst _ = true

abbrev pub are_narrow : Module → Bool
are_narrow m = list_all is_narrow_global m.globals && list_all (λ (f : Function). list_all (λ (block : Block). list_all is_narrow_inst block.insts) f.blocks) m.functions

abbrev pub AreFew : Module → Type 0
AreFew m = (f : ℕ) → length (insts_of m f) ≤ 2048

abbrev pub HaveFewPhis : Module → Type 0
HaveFewPhis m = (f b : ℕ) → phi_count (insts_of_block (blocks_of m f) b) ≤ 64

-- The types have at most 128 bits (N1, N2), calls of routines have pointers where they need them (N4), and a global has no constants or one for each element (a well formed module's). A function has at most 2,048 instructions, and a block at most 64 phis (N12). Globals are within their limits (N12), and lie where the layout says.
pub record IsRunnable (program : SourceProgram) : Type 0 where
  pub narrow : IsTrue (are_narrow program.source)
  pub few : AreFew program.source
  pub phis : HaveFewPhis program.source
  pub limits : CanBeLaidOut program.source
  pub layout : program.layout ≡ layout_of program.source
