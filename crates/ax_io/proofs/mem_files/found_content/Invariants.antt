use Rattle.std.proofs.Common.{◌≡◌, drop}
use Rattle.ax_io.specs.MemFiles.{contents, first_of}
use Rattle.ax_io.proofs.mem_files.found_content.Given as goal

abbrev pub invariant-loop-file : goal.invariant-loop-file
invariant-loop-file l = first_of (contents (drop l.file-index l.files)) l.name ≡ first_of (contents l.files) l.name
