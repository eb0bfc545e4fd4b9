-- The text of lines after lines.
use Rattle.std.proofs.Common.{◌≡◌, ℕ, List, ◌++◌, flat_map, ap, sym, ◌∙◌}
use Rattle.std.proofs.lemmas.Grind.{flat_map-append}
use Rattle.ax_ir.specs.Canonical.{Line, line_text}
use Rattle.ax_ir.proofs.Appended.{two}

pub lines_appended : (s x y : List ℕ) (front back : List Line) → x ≡ s ++ flat_map line_text front → y ≡ x ++ flat_map line_text back → y ≡ s ++ flat_map line_text (front ++ back)
lines_appended s x y front back e f =
    two s (flat_map line_text front) (flat_map line_text back) x y e f ∙ ap (λ z. s ++ z) (sym (flat_map-append line_text front back))
