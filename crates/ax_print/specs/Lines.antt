-- The lines of a list of events: runs of equal tokens, 16 on a line.
use Rattle.std.specs.Prelude.{ℕ, ◌+◌, ◌%◌, Bool, ◌&&◌, if◌then◌else◌, nat_eq, nat_lt, List, [], ◌∷◌, ◌++◌, encode_utf8, decimal}
use Rattle.ax_print.specs.declared.tokens.Token.{Token}

abbrev pub is_same : Token → Token → Bool
is_same t u = nat_eq t.letter u.letter && nat_eq t.processor u.processor

-- a token, and how often it stands one after the other
abbrev pub Run : Type 0
Run = Token × ℕ

-- n times a token before these runs: they belong to the first run if that is of the same token
abbrev pub joined : Token → ℕ → List Run → List Run
joined t n [] = (t, n) ∷ []
joined t n (r ∷ runs) = if is_same t r.0 then (t, n + r.1) ∷ runs else (t, n) ∷ r ∷ runs

-- each run is as long as it can be
abbrev pub runs_of : List Token → List Run
runs_of [] = []
runs_of (t ∷ tokens) = joined t 1 (runs_of tokens)

-- `*K` where a run is of more than one
abbrev pub times_text : ℕ → List ℕ
times_text n = if nat_lt 1 n then 42 ∷ decimal n else []

abbrev pub token_text : Token → List ℕ
token_text t = encode_utf8 t.letter ++ decimal t.processor

-- a line begins before run 0 and each 16th behind it, and ends behind run 15 and each 16th behind it
abbrev pub line_start : List ℕ → ℕ → List ℕ
line_start word k = if nat_eq (k % 16) 0 then word else []

abbrev pub line_end : ℕ → List ℕ
line_end k = if nat_eq (k % 16) 15 then 10 ∷ [] else []

abbrev pub run_text : List ℕ → ℕ → Token → ℕ → List ℕ
run_text word k t n = line_start word k ++ 32 ∷ token_text t ++ times_text n ++ line_end k

-- the last line ends too, where it has fewer than 16
abbrev pub last_end : ℕ → List ℕ
last_end k = if nat_eq (k % 16) 0 then [] else 10 ∷ []

-- the text from run number k on
abbrev pub lines_from : List ℕ → ℕ → List Run → List ℕ
lines_from word k [] = last_end k
lines_from word k (r ∷ runs) = run_text word k r.0 r.1 ++ lines_from word (k + 1) runs

-- each line begins with the word; without tokens there is none
abbrev pub lines_of : List ℕ → List Token → List ℕ
lines_of word tokens = lines_from word 0 (runs_of tokens)
