use Rattle.std.proofs.Common.{refl}
use Rattle.ax_mid.specs.declared.instruction.MidInst.TheVariants as mid
use Rattle.ax_emit.specs.Touches.{load_of, store_of}
use Rattle.ax_emit.proofs.Accesses.{access_line, load_shared, store_shared}
use Rattle.ax_emit.proofs.laws.access_line_follows.Goals as goal

pub returns : goal.returns
returns g c =
    let k = g.I.Isa.kind in
    record {
      load = λ case. let m = g.M.MiddleProgram.program case in λ to address n. access_line k m (mid.Load to address n) (load_of m to address n) (load_shared m to address n) refl;
      store = λ case. let m = g.M.MiddleProgram.program case in λ address from n. access_line k m (mid.Store address from n) (store_of m address from n) (store_shared m address from n) refl;
    }
