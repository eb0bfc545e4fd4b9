use Rattle.std.proofs.Common.{◌≡◌, ◌*◌, ◌≤◌, ◌^◌, ◌++◌, drop, flat_map, string_bytes}
use Rattle.ax_ir.specs.Canonical.{line_text, blocks_lines}
use Rattle.ax_ir.proofs.canonical.push_blocks.Given as goal

abbrev pub invariant-loop-k : goal.invariant-loop-k
invariant-loop-k l =
    record {
      bound : l.number ≤ l.k * 2 ^ 63;
      text : string_bytes l.text ++ flat_map line_text (blocks_lines l.names l.k l.number (drop l.k l.blocks)) ≡ string_bytes l.initial.text ++ flat_map line_text (blocks_lines l.names 0 0 l.blocks);
    }
