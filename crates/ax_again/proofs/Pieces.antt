-- The pieces are the canonical text.
use Rattle.std.proofs.Common.{◌≡◌, ℕ, Bool, false, List, [], ◌∷◌, ◌++◌, refl, sym, ap, ap₂, ◌∙◌, append_assoc, append-nil, flat_map}
use Rattle.std.specs.Prelude.{not}
use Rattle.ax_lex.specs.Written.{Piece, render}
use Rattle.ax_module.specs.declared.module.Module.{Module}
use Rattle.ax_ir.specs.Spacing.{is_opening, spaced_from}
use Rattle.ax_ir.specs.Canonical.{Line, line_text, module_lines, module_text}
use Rattle.ax_again.specs.Pieces.{indent, blank_before, token_pieces, line_pieces, pieces_of}

pub render_append : (ps qs : List Piece) → render (ps ++ qs) ≡ render ps ++ render qs
render_append [] qs = refl
render_append (p ∷ ps) qs =
    ap (λ r. p.blank ++ (p.word ++ r)) (render_append ps qs)
    ∙ ap (λ r. p.blank ++ r) (sym (append_assoc p.word (render ps) (render qs)))
    ∙ sym (append_assoc p.blank (p.word ++ render ps) (render qs))

pub regroup : (l b t s n : List ℕ) → (l ++ b) ++ (t ++ (s ++ n)) ≡ (l ++ ((b ++ t) ++ s)) ++ n
regroup l b t s n =
    append_assoc l b (t ++ (s ++ n))
    ∙ sym (append_assoc l ((b ++ t) ++ s) n ∙ ap (λ x. l ++ x) (append_assoc (b ++ t) s n ∙ append_assoc b t (s ++ n)))

pub render_tokens : (blanks : List ℕ) (parted : Bool) (tokens : List (List ℕ)) → render (token_pieces blanks parted tokens) ≡ (blanks ++ spaced_from parted tokens) ++ 10 ∷ []
render_tokens blanks parted [] = ap (λ (x : List ℕ). x ++ 10 ∷ []) (sym (append-nil blanks))
render_tokens blanks parted (t ∷ ts) =
    ap (λ r. (blanks ++ blank_before parted t) ++ (t ++ r)) (render_tokens [] (not (is_opening t)) ts)
    ∙ regroup blanks (blank_before parted t) t (spaced_from (not (is_opening t)) ts) (10 ∷ [])

pub render_line : (l : Line) → render (line_pieces l) ≡ line_text l
render_line l = render_tokens (indent l) false l.tokens

render_lines : (ls : List Line) → render (flat_map line_pieces ls) ≡ flat_map line_text ls
render_lines [] = refl
render_lines (l ∷ ls) = render_append (line_pieces l) (flat_map line_pieces ls) ∙ ap₂ (λ x y. x ++ y) (render_line l) (render_lines ls)

pub pieces_written : (m : Module) → render (pieces_of m) ≡ module_text m
pieces_written m = render_lines (module_lines m)
