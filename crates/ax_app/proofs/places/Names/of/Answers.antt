use Rattle.std.proofs.Common.{map, sym, ap, ◌∙◌, subst}
use Rattle.std.specs.Prelude.{All}
use Rattle.ax_module.specs.Names.{IsAscii}
use Rattle.ax_app.proofs.places.Names.of.Goals as goal

pub returns : goal.returns
returns c =
    let m = c.args.source.now in
    let globals = c.in_ok-global_names.ensures ∙ ap (map (λ g. g.name)) c.as_slice.ensures in
    let functions = c.in_ok-function_names.ensures ∙ ap (map (λ f. f.name)) c.as_slice-2.ensures in
    record {
      globals = globals;
      functions = functions;
      globals_ascii = subst (λ l. All (λ name. IsAscii name) l) (sym globals) (c.names_are_ascii.ensures.globals m c.requires);
      functions_ascii = subst (λ l. All (λ name. IsAscii name) l) (sym functions) (c.names_are_ascii.ensures.functions m c.requires);
    }
