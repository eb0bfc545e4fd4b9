use Rattle.ax_source.proofs.Elements.{private_inside}
use Rattle.ax_source.proofs.processor.Processor.write_into.Goals as goal

pub set_content-requires : goal.set_content-requires
set_content-requires c =
    let v = c.args.self.now in
    private_inside v.program.source v.function _ c.args.p c.in-Private.is c.requires
