-- The names of a function and of what it calls are of ASCII bytes.
use Rattle.std.specs.Prelude.{ℕ, List, [], All}
use Rattle.ax_module.specs.declared.inst.Inst.{Inst}
use Rattle.ax_module.specs.declared.inst.Inst.TheVariants.{Call}
use Rattle.ax_module.specs.declared.module.Function.{Function}
use Rattle.ax_module.specs.Names.{IsAscii}

-- the name of what an instruction calls
unfoldable pub called_name : Inst → List ℕ
called_name (Call t name args) = name
called_name _ = []

abbrev pub CallsAscii : List Inst → Type 0
CallsAscii insts = All (λ i. IsAscii (called_name i)) insts

pub record NamesAscii (f : Function) : Type 0 where
  pub name : IsAscii f.name
  pub calls : All (λ b. CallsAscii b.insts) f.blocks
