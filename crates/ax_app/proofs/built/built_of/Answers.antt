use Rattle.ax_app.proofs.built.built_of.Goals as goal

pub returns-in-Err : goal.returns-in-Err
returns-in-Err c = c.unread.ensures c.args.target c.args.bytes.now c.in-Err.ensures.fault
