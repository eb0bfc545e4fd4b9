-- The lines of a schedule and their words.
use Rattle.std.specs.Prelude.{ℕ, ◌+◌, Bool, true, false, not, ◌&&◌, ◌==◌, if◌then◌else◌, List, [], ◌∷◌}
use Rattle.std.specs.List.{filter, slice_split}
use Rattle.ax_lex.specs.Bytes.{is_blank}

-- line feeds part lines
abbrev pub lines_of : List ℕ → List (List ℕ)
lines_of text = slice_split (λ b. b == 10) text

-- this byte before the first piece
abbrev pub onto : ℕ → List (List ℕ) → List (List ℕ)
onto b [] = (b ∷ []) ∷ []
onto b (w ∷ ws) = (b ∷ w) ∷ ws

-- a double quote begins a quoted text, or ends it
abbrev pub turned : ℕ → Bool → Bool
turned b quoted = if b == 34 then not quoted else quoted

-- the pieces that blanks part, where a blank within a quoted text parts nothing
abbrev pub pieces : Bool → List ℕ → List (List ℕ)
pieces quoted [] = [] ∷ []
pieces quoted (b ∷ bs) = if is_blank b && not quoted then [] ∷ pieces quoted bs else onto b (pieces (turned b quoted) bs)

abbrev pub is_nonempty : List ℕ → Bool
is_nonempty [] = false
is_nonempty (b ∷ bs) = true

-- the words of a line
abbrev pub words_of : List ℕ → List (List ℕ)
words_of line = filter is_nonempty (pieces false line)

abbrev pub begins_hash : List ℕ → Bool
begins_hash [] = false
begins_hash (b ∷ bs) = b == 35

-- no words, or a comment: the first word begins with `#`
abbrev pub state_nothing : List (List ℕ) → Bool
state_nothing [] = true
state_nothing (w ∷ ws) = begins_hash w

abbrev pub is_passed_over : List ℕ → Bool
is_passed_over line = state_nothing (words_of line)

-- the lines that are not passed over, each with its number, where the first has number n
abbrev pub kept_from : ℕ → List (List ℕ) → List (ℕ × List ℕ)
kept_from n [] = []
kept_from n (l ∷ ls) = if is_passed_over l then kept_from (n + 1) ls else (n, l) ∷ kept_from (n + 1) ls

abbrev pub kept_lines : List ℕ → List (ℕ × List ℕ)
kept_lines text = kept_from 1 (lines_of text)
