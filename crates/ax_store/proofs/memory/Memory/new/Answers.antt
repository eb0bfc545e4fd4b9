use Rattle.std.proofs.Common.{◌-◌, ap, ◌∙◌}
use Rattle.ax_store.specs.Places.{byte_at, is_inside}
use Rattle.ax_store.proofs.Places.{if_ok, zeros_bytes, zeros_inside}
use Rattle.ax_store.proofs.Regions.{mapped_regions}
use Rattle.ax_store.proofs.memory.Memory.new.Goals as goal

pub returns-clause-bytes : goal.returns-clause-bytes
returns-clause-bytes c = if_ok c.of_zeros.result _ _ (λ m e. ap byte_at e ∙ zeros_bytes 16384 (c.args.end - 65536) c.args.frames.now) c.of_zeros.ensures

pub returns-clause-inside : goal.returns-clause-inside
returns-clause-inside c = if_ok c.of_zeros.result _ _ (λ m e. ap is_inside e ∙ zeros_inside 16384 (c.args.end - 65536) c.args.frames.now ∙ mapped_regions c.args.end c.args.frames.now c.requires.end c.requires.sizes) c.of_zeros.ensures
