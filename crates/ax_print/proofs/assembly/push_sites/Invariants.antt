use Rattle.std.proofs.Common.{◌≡◌, ◌++◌, take, flat_map, string_bytes}
use Rattle.ax_print.specs.Assembly.{site_line}
use Rattle.ax_print.proofs.assembly.push_sites.Given as goal

abbrev pub invariant-loop-range : goal.invariant-loop-range
invariant-loop-range l = string_bytes l.out ≡ string_bytes l.initial.out ++ flat_map (site_line l.mark) (take l.range-index l.sites)
