use Rattle.std.proofs.Common.{◌≡◌, ◌∙◌}
use Rattle.ax_scope.specs.NameTable.{look}
use Rattle.ax_scope.specs.Names.{entry_name}
use Rattle.ax_scope.proofs.Takes.{same_looks, built, found}
use Rattle.ax_scope.proofs.function.body_in.Goals as goal

pub returns-clause-built : goal.returns-clause-built
returns-clause-built c =
    let named : c.as_bytes.result.now ≡ entry_name c.args.text.now c.args.params.now = c.as_bytes.ensures.value ∙ c.in_ok-entry.ensures {u = tt} in
    let x = same_looks c.args.text.now (look c.args.globals.now) c.args.params.now c.args.inside.now c.as_bytes.result.now c.in_ok-locals.locals.values c.in_ok-locals.locals.blocks named (c.in_ok-locals.ensures {u = tt}).values (c.in_ok-locals.ensures {u = tt}).blocks in
    built c.args.text.now (look c.args.globals.now) c.args.params.now c.args.inside.now _ c.blocks_in.result x c.blocks_in.ensures.built

pub returns-clause-found : goal.returns-clause-found
returns-clause-found c =
    let named : c.as_bytes.result.now ≡ entry_name c.args.text.now c.args.params.now = c.as_bytes.ensures.value ∙ c.in_ok-entry.ensures {u = tt} in
    let named2 : c.as_bytes-2.result.now ≡ entry_name c.args.text.now c.args.params.now = c.as_bytes-2.ensures.value ∙ c.in_ok-entry.ensures {u = tt} in
    let x = same_looks c.args.text.now (look c.args.globals.now) c.args.params.now c.args.inside.now c.as_bytes.result.now c.in_ok-locals.locals.values c.in_ok-locals.locals.blocks named (c.in_ok-locals.ensures {u = tt}).values (c.in_ok-locals.ensures {u = tt}).blocks in
    found c.args.text.now (look c.args.globals.now) c.args.params.now c.args.inside.now _ c.as_bytes-2.result.now c.args.so_far c.args.start c.blocks_in.result x named2 c.requires.params c.blocks_in.ensures.found
