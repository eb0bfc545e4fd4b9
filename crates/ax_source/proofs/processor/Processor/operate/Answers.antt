use Rattle.ax_source.proofs.Elements.{private_inside}
use Rattle.ax_source.proofs.processor.Processor.operate.Goals as goal

pub operate_private-requires : goal.operate_private-requires
operate_private-requires c =
    let v = c.args.self.now in
    private_inside v.program.source v.function _ c.args.p c.in-Private.is c.requires.element
