-- The ranges of the numbers that a text of LLVM's language can state.
use Rattle.std.specs.Prelude.{ℕ, ◌^◌, ◌-◌, Bool, true, ◌&&◌, nat_lt, int_lt, int_le, pos, negsuc, Option, Some, None}
use Rattle.std.specs.List.{list_all}
use Rattle.ax_module.specs.declared.types.Ty.{Ty}
use Rattle.ax_module.specs.declared.operand.Operand.{Operand}
use Rattle.ax_module.specs.declared.operand.Operand.TheVariants.{Const, Wide, Value, Param}
use Rattle.ax_module.specs.declared.operand.Addr.{Addr}
use Rattle.ax_module.specs.declared.operand.Arg.{Arg}
use Rattle.ax_module.specs.declared.operand.Arg.TheVariants as arg
use Rattle.ax_module.specs.declared.inst.Inst.{Inst}
use Rattle.ax_module.specs.declared.inst.Inst.TheVariants.{Bin, Icmp, Select, Convert, Phi, Branch, Ret, Alloca, Gep, Load, LoadAtomic, Store, StoreAtomic, Cmpxchg, Rmw, Extract, Call}
use Rattle.ax_module.specs.declared.module.Global.{Global}
use Rattle.ax_module.specs.declared.module.Function.{Function}
use Rattle.ax_module.specs.declared.module.Module.{Module}

-- counts and alignments are below 2^64
abbrev pub is_word : ℕ → Bool
is_word n = nat_lt n (2 ^ 64)

abbrev pub is_stated_word : Option ℕ → Bool
is_stated_word None = true
is_stated_word (Some n) = is_word n

-- constants are from -2^127 to 2^128 - 1
abbrev pub is_in_range : Operand → Bool
is_in_range (Const n) = int_le (negsuc (2 ^ 127 - 1)) n && int_lt n (pos (2 ^ 127))
is_in_range (Wide n) = nat_lt n (2 ^ 128)
is_in_range (Value k) = true
is_in_range (Param k) = true

abbrev pub is_step_in_range : Option (Ty × ℕ × Ty × Operand) → Bool
is_step_in_range None = true
is_step_in_range (Some s) = is_word s.1 && is_in_range s.3

abbrev pub is_addr_in_range : Addr → Bool
is_addr_in_range a = is_step_in_range a.step

abbrev pub is_arg_in_range : Arg → Bool
is_arg_in_range (arg.Pointer a) = is_addr_in_range a
is_arg_in_range (arg.Value t v) = is_in_range v

unfoldable pub is_inst_in_range : Inst → Bool
is_inst_in_range (Bin op t v w) = is_in_range v && is_in_range w
is_inst_in_range (Icmp condition t v w) = is_in_range v && is_in_range w
is_inst_in_range (Select c t v u w) = is_in_range c && is_in_range v && is_in_range w
is_inst_in_range (Convert cast t v u) = is_in_range v
is_inst_in_range (Phi t entries) = list_all (λ e. is_in_range e.0) entries
is_inst_in_range (Branch v b c) = is_in_range v
is_inst_in_range (Ret t v) = is_in_range v
is_inst_in_range (Alloca t count align) = is_word count && is_stated_word align
is_inst_in_range (Gep elem count b t v) = is_word count && is_in_range v
is_inst_in_range (Load t a align) = is_addr_in_range a && is_stated_word align
is_inst_in_range (LoadAtomic t a order align) = is_addr_in_range a && is_word align
is_inst_in_range (Store t v a align) = is_in_range v && is_addr_in_range a && is_stated_word align
is_inst_in_range (StoreAtomic t v a order align) = is_in_range v && is_addr_in_range a && is_word align
is_inst_in_range (Cmpxchg weak a t v u w success failure align) = is_addr_in_range a && is_in_range v && is_in_range w && is_word align
is_inst_in_range (Rmw op a t v order align) = is_addr_in_range a && is_in_range v && is_word align
is_inst_in_range (Extract t v part) = is_in_range v
is_inst_in_range (Call t name args) = list_all is_arg_in_range args
is_inst_in_range _ = true

abbrev pub is_function_in_range : Function → Bool
is_function_in_range f = list_all (λ b. list_all is_inst_in_range b.insts) f.blocks

abbrev pub is_global_in_range : Global → Bool
is_global_in_range g = is_word g.count && is_stated_word g.align && list_all is_in_range g.init

abbrev pub are_numbers_in_range : Module → Bool
are_numbers_in_range m = list_all is_global_in_range m.globals && list_all is_function_in_range m.functions
