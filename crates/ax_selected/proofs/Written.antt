-- Modules that are written out, and lists of events.
use Rattle.std.proofs.Common.{ℕ, zero, suc, true, List, [], ◌∷◌, None, pos}
use Rattle.std.specs.Prelude.{codes}
use Rattle.ax_module.specs.declared.inst.Inst.{Inst}
use Rattle.ax_module.specs.declared.inst.Inst.TheVariants as inst
use Rattle.ax_module.specs.declared.module.Function.{Function}
use Rattle.ax_module.specs.declared.module.Global.{Global}
use Rattle.ax_module.specs.declared.operand.Addr.{Addr}
use Rattle.ax_module.specs.declared.operand.Arg.TheVariants as arg
use Rattle.ax_module.specs.declared.operand.Base.{Base}
use Rattle.ax_module.specs.declared.operand.Operand.{Operand}
use Rattle.ax_module.specs.declared.operand.Operand.TheVariants as operand
use Rattle.ax_module.specs.declared.types.Ty.{Ty}
use Rattle.ax_module.specs.declared.types.Ty.TheVariants.{I1, I64}
use Rattle.ax_words.specs.declared.source.SourceEvent.{SourceEvent}
use Rattle.ax_words.specs.declared.source.SourceEvent.TheVariants.{Act}

abbrev pub acts : ℕ → ℕ → List SourceEvent → List SourceEvent
acts p zero events = events
acts p (suc n) events = Act p ∷ acts p n events

abbrev pub global : Ty → ℕ → ℕ → Global
global ty count number = record { name = []; elem = ty; count = count; align = None; init = operand.Const (pos number) ∷ [] }

abbrev pub function : List Inst → Function
function insts = record { name = []; result = I1; is_void = true; params = []; blocks = record { insts = insts } ∷ [] }

abbrev pub at : Base → Addr
at b = record { base = b; step = None }

abbrev pub constant : ℕ → Operand
constant n = operand.Const (pos n)

abbrev pub out : ℕ → Inst
out r = inst.Call None (codes "out") (arg.Value I64 (operand.Value r) ∷ [])
