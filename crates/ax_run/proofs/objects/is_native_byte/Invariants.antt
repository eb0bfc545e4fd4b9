use Rattle.std.proofs.Common.{◌≡◌, drop}
use Rattle.ax_agree.specs.Agree.{is_native_byte}
use Rattle.ax_run.proofs.objects.is_native_byte.Given as goal

-- the byte is of no global before this one
abbrev pub invariant-loop-g : goal.invariant-loop-g
invariant-loop-g l = is_native_byte l.program l.g (drop l.g l.program.layout.spans) l.a ≡ is_native_byte l.program 0 l.program.layout.spans l.a
