use Rattle.std.proofs.Common.{◌≡◌, ◌∙◌, Global, Some, ap, map, sym, subst}
use Rattle.std.proofs.lemmas.List.{append-nil}
use Rattle.std.specs.String.{string_bytes}
use Rattle.ax_app.specs.Answers.{Map, command_of}
use Rattle.ax_app.specs.Commands.{seen}
use Rattle.ax_app.specs.Serve.{CauseOf, reading}
use Rattle.ax_app.proofs.judge.judge.Goals as goal

pub returns-in-Some-Map : goal.returns-in-Some-Map
returns-in-Some-Map g c =
    let r = reading (g.F.Files.held c.args.files.now) (g.F.Files.asked c.args.files.now) (g.F.Files.asked c.args.files.now) (g.F.Files.faults c.args.files.now) (g.F.Files.faults c.args.files.now) (g.F.Files.taken c.args.files.now) in
    let words : Some (Map c.in-Some-Map.target) ≡ command_of (map (string_bytes {Z = Global}) c.args.words.now) = ap (λ w. Some (seen w)) (sym c.in-Some-Map.field-0-is) ∙ c.in-Some-Map.ensures in
    subst (λ o. CauseOf r o c.judge_map.result) words (c.judge_map.ensures r (sym (append-nil (g.F.Files.asked c.args.files.now))))
