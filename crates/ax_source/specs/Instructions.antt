-- Pointers of instructions that lie inside their objects.
use Rattle.std.specs.Prelude.{Bool, not, List}
use Rattle.std.specs.List.{flat_map, list_any}
use Rattle.ax_module.specs.declared.operand.Addr.{Addr}
use Rattle.ax_module.specs.declared.operand.Arg.{Arg}
use Rattle.ax_source_run.specs.SourceInstructions.{is_inside, pointers_of_arg}
use Rattle.ax_source.specs.ProcessorState.{ProcessorState, state_of}

-- whether one of these pointers names no element
abbrev pub are_outside : ProcessorState → List Addr → Bool
are_outside c addrs = list_any (λ addr. not (is_inside c.program (state_of c) addr)) addrs

abbrev pub any_outside : ProcessorState → List Arg → Bool
any_outside c args = are_outside c (flat_map pointers_of_arg args)
