-- The lines of a text, each a production in its place, and the first that is none.
use Rattle.std.specs.Prelude.{◌≡◌, ◌≢◌, ℕ, ◌+◌, ◌≤◌, Bool, true, false, not, ◌&&◌, ◌==◌, cond, List, [], ◌∷◌, ◌++◌, length, map, ◌⊎◌}
use Rattle.std.specs.List.{slice_split}
use Rattle.ax_lex.specs.declared.token.Token.{Token}
use Rattle.ax_symbols.specs.declared.vocabulary.Word.{Word}
use Rattle.ax_symbols.specs.declared.vocabulary.Word.TheVariants as word
use Rattle.ax_symbols.specs.declared.symbol.Punctuation.TheVariants as mark
use Rattle.ax_symbols.specs.declared.symbol.Sign.{Sign}
use Rattle.ax_symbols.specs.declared.symbol.Sign.TheVariants as sign
use Rattle.ax_symbols.specs.declared.symbol.Symbol.{Symbol}
use Rattle.ax_lines.specs.declared.statement.Line.{Line}
use Rattle.ax_lines.specs.declared.statement.Line.TheVariants as line
use Rattle.ax_lines.specs.declared.statement.Section.{Section}
use Rattle.ax_lines.specs.declared.statement.Section.TheVariants as section
use Rattle.ax_symbols.specs.Pieces.{sign_at}
use Rattle.ax_symbols.specs.Symbols.{symbol_of, is_feed}
use Rattle.ax_symbols.specs.Grammar.{IsLine}
use Rattle.ax_lines.specs.Productions.{line_at, section_after, is_label}

-- From the first place to the second, each line is a production in its place, and states this.
abbrev pub InPlace : Section → List (List Symbol) → List Line → Section → Type 0
InPlace p [] [] q = p ≡ q
InPlace p [] (x ∷ xs) q = ⊥
InPlace p (l ∷ ls) [] q = ⊥
InPlace p (l ∷ ls) (x ∷ xs) q = IsLine (line_at p) l x × InPlace (section_after p x) ls xs q

-- the lines of a whole module
abbrev pub AreLines : List (List Symbol) → List Line → Type 0
AreLines ls xs = InPlace section.Outside ls xs section.Outside

-- the lines of a text that has these tokens
abbrev pub lines_of : List ℕ → List Token → List (List Symbol)
lines_of text tokens = slice_split is_feed (map (symbol_of text) tokens)

-- how many parameters a line states
abbrev pub param_count : Line → ℕ
param_count (line.Define f r ps) = length ps
param_count _ = 0

-- ---- faults

abbrev pub is_opcode : Word → Bool
is_opcode word.Add = true
is_opcode word.Sub = true
is_opcode word.Mul = true
is_opcode word.And = true
is_opcode word.Or = true
is_opcode word.Xor = true
is_opcode word.Shl = true
is_opcode word.Lshr = true
is_opcode word.Ashr = true
is_opcode word.Icmp = true
is_opcode word.Select = true
is_opcode word.Zext = true
is_opcode word.Sext = true
is_opcode word.Trunc = true
is_opcode word.Phi = true
is_opcode word.Br = true
is_opcode word.Ret = true
is_opcode word.Unreachable = true
is_opcode word.Alloca = true
is_opcode word.Getelementptr = true
is_opcode word.Load = true
is_opcode word.Store = true
is_opcode word.Cmpxchg = true
is_opcode word.Atomicrmw = true
is_opcode word.Fence = true
is_opcode word.Extractvalue = true
is_opcode word.Call = true
is_opcode _ = false

-- a word that is no opcode
abbrev pub is_unknown_word : Sign → Bool
is_unknown_word (sign.Word w) = not (is_opcode w)
is_unknown_word (sign.Int n) = true
is_unknown_word _ = false

abbrev pub is_local : Sign → Bool
is_local sign.Local = true
is_local _ = false

abbrev pub is_equals : Sign → Bool
is_equals (sign.Mark mark.Equals) = true
is_equals _ = false

abbrev pub is_tail_word : Sign → Bool
is_tail_word (sign.Word word.Tail) = true
is_tail_word _ = false

-- the number of symbols of `%r =`, where it stands there
abbrev pub result_len : List Symbol → ℕ
result_len l = cond (is_local (sign_at l 0) && is_equals (sign_at l 1)) 2 0

-- the place of the word behind `%r =` and `tail`, each where it stands there
abbrev pub opcode_index : List Symbol → ℕ
opcode_index l = cond (is_tail_word (sign_at l (result_len l))) (result_len l + 1) (result_len l)

-- a name, a colon and no more
abbrev pub is_label_line : List Symbol → Bool
is_label_line l = length l == 2 && is_label (sign_at l 0) (sign_at l 1)

-- The line has a word that is no opcode where its opcode would stand, and is no label.
abbrev pub has_unknown_opcode : List Symbol → Bool
has_unknown_opcode l = not (is_label_line l) && is_unknown_word (sign_at l (opcode_index l))

abbrev pub is_opcode_fault : Section → List Symbol → Bool
is_opcode_fault section.Outside l = false
is_opcode_fault p l = has_unknown_opcode l

-- The line of this number is the first that is no production in its place, and its fault is an
-- unknown opcode or not.
pub record IsBadLine (ls : List (List Symbol)) (number : ℕ) (opcode : Bool) : Type 0 where
  pub before : List (List Symbol)
  pub line : List Symbol
  pub behind : List (List Symbol)
  pub whole : ls ≡ before ++ line ∷ behind
  pub is : number ≡ length before + 1
  pub stated : List Line
  pub at : Section
  pub in_place : InPlace section.Outside before stated at
  pub bad : (x : Line) → IsLine (line_at at) line x → ⊥
  pub kind : is_opcode_fault at line ≡ opcode

-- Each line is a production in its place, and the text ends inside a function.
pub record IsOpenEnd (ls : List (List Symbol)) (number : ℕ) : Type 0 where
  pub stated : List Line
  pub at : Section
  pub in_place : InPlace section.Outside ls stated at
  pub inside : at ≢ section.Outside
  pub is : number ≡ length ls

abbrev pub IsSyntax : List (List Symbol) → ℕ → Type 0
IsSyntax ls number = IsBadLine ls number false ⊎ IsOpenEnd ls number

abbrev pub IsOpcode : List (List Symbol) → ℕ → Type 0
IsOpcode ls number = IsBadLine ls number true
