-- Which texts are schedules of a plan, and which line of another text is its first bad one.
use Rattle.std.specs.Prelude.{◌≡◌, ℕ, ◌+◌, ◌<◌, ◌≤◌, ◌^◌, true, List, [], ◌∷◌, ◌++◌, length, map, codes, slice_index_or, decimal, All, ◌⊎◌}
use Rattle.std.specs.List.{sum_by}
use Rattle.ax_lex.specs.declared.token.TokenKind.TheVariants.{Global}
use Rattle.ax_lex.specs.Names.{name_in}
use Rattle.ax_lex.specs.Tokens.{is_token}
use Rattle.ax_module.specs.declared.module.Module.{Module}
use Rattle.ax_sched.specs.declared.plan.Item.{Item}
use Rattle.ax_sched.specs.declared.plan.Item.TheVariants.{Step, Drain, Drop, Link, Round, Random}
use Rattle.ax_sched.specs.declared.plan.Plan.{Plan}
use Rattle.ax_sched.specs.declared.fault.Cause.{Cause}
use Rattle.ax_sched.specs.declared.fault.Cause.TheVariants.{Syntax, ProcessorRange, UnknownEntry, UnknownObject, TooMany}
use Rattle.ax_sched.specs.declared.fault.SchedFault.{SchedFault}
use Rattle.ax_sched.specs.declared.fault.SchedFault.TheVariants.{Bad, Memory}
use Rattle.ax_sched.specs.Plan.{IsPlan, IsWithin, times_of}
use Rattle.ax_sched.specs.Lines.{lines_of, words_of, kept_lines}

-- ---- the first line

abbrev pub IsGlobal : List ℕ → Type 0
IsGlobal word = is_token Global word ≡ true

-- the word is the name of function f
pub record IsEntry (names : List (List ℕ)) (word : List ℕ) (f : ℕ) : Type 0 where
  pub token : IsGlobal word
  pub within : f < length names
  pub named : name_in word ≡ slice_index_or names f []

-- each word is the name of the function in its place
abbrev pub AreEntries : List (List ℕ) → List (List ℕ) → List ℕ → Type 0
AreEntries names [] [] = Unit {0}
AreEntries names [] (f ∷ fs) = ⊥
AreEntries names (w ∷ ws) [] = ⊥
AreEntries names (w ∷ ws) (f ∷ fs) = IsEntry names w f × AreEntries names ws fs

-- `processors` and names
pub record IsFirstLine (words names : List (List ℕ)) : Type 0 where
  pub whole : words ≡ codes "processors" ∷ names
  pub tokens : All IsGlobal names

-- how many processors there may be
abbrev pub IsCount : ℕ → Type 0
IsCount k = (1 ≤ k) × (k ≤ 8)

-- What is wrong with the first line, where its causes come in order.
abbrev pub IsFirstCause : List (List ℕ) → List (List ℕ) → Cause → Type 0
IsFirstCause functions words Syntax = (names : List (List ℕ)) → IsFirstLine words names → ⊥
IsFirstCause functions words ProcessorRange = (names : List (List ℕ)) × IsFirstLine words names × (IsCount (length names) → ⊥)
IsFirstCause functions words UnknownEntry = (names : List (List ℕ)) × IsFirstLine words names × IsCount (length names) × ((entries : List ℕ) → AreEntries functions names entries → ⊥)
IsFirstCause functions words UnknownObject = ⊥
IsFirstCause functions words TooMany = ⊥

-- ---- a directive's line

-- the words that state a directive
abbrev pub item_words : Item → List (List ℕ)
item_words (Step p n) = codes "step" ∷ decimal p ∷ decimal n ∷ []
item_words (Drain p n) = codes "drain" ∷ decimal p ∷ decimal n ∷ []
item_words (Drop p n) = codes "drop" ∷ decimal p ∷ decimal n ∷ []
item_words (Link p n) = codes "link" ∷ decimal p ∷ decimal n ∷ []
item_words (Round n) = codes "round" ∷ decimal n ∷ []
item_words (Random seed n) = codes "random" ∷ decimal seed ∷ decimal n ∷ []

-- its numbers can be stated
abbrev pub HasNumbers : Item → Type 0
HasNumbers (Step p n) = (p < 2 ^ 64) × (n < 2 ^ 64)
HasNumbers (Drain p n) = (p < 2 ^ 64) × (n < 2 ^ 64)
HasNumbers (Drop p n) = (p < 2 ^ 64) × (n < 2 ^ 64)
HasNumbers (Link p n) = (p < 2 ^ 64) × (n < 2 ^ 64)
HasNumbers (Round n) = n < 2 ^ 64
HasNumbers (Random seed n) = (seed < 2 ^ 64) × (n < 2 ^ 64)

pub record IsDirective (words : List (List ℕ)) (item : Item) : Type 0 where
  pub whole : words ≡ item_words item
  pub numbers : HasNumbers item

-- What is wrong with a line behind those of a plan, where its causes come in order.
abbrev pub IsNextCause : Plan → List (List ℕ) → Cause → Type 0
IsNextCause plan words Syntax = (item : Item) → IsDirective words item → ⊥
IsNextCause plan words ProcessorRange = (item : Item) × IsDirective words item × (IsWithin (length plan.entries) item → ⊥)
IsNextCause plan words UnknownEntry = ⊥
IsNextCause plan words UnknownObject = ⊥
IsNextCause plan words TooMany = (item : Item) × IsDirective words item × IsWithin (length plan.entries) item × (1000000 < sum_by times_of plan.items + times_of item)

-- ---- a text

-- These lines, each with its words, state a plan of a module whose functions have these names.
pub record States (functions : List (List ℕ)) (lines : List (List (List ℕ))) (plan : Plan) : Type 0 where
  pub names : List (List ℕ)
  pub whole : lines ≡ (codes "processors" ∷ names) ∷ map item_words plan.items
  pub named : AreEntries functions names plan.entries
  pub numbers : All HasNumbers plan.items
  pub fits : IsPlan (length functions) plan

abbrev pub function_names : Module → List (List ℕ)
function_names m = map (λ f. f.name) m.functions

-- the lines that count, each with its number and its words
abbrev pub stated : List ℕ → List (ℕ × List (List ℕ))
stated text = map (λ l. (l.0, words_of l.1)) (kept_lines text)

abbrev pub words_in : List (ℕ × List (List ℕ)) → List (List (List ℕ))
words_in lines = map (λ l. l.1) lines

-- THE TEXT IS A SCHEDULE OF THIS PLAN of the module
abbrev pub IsSchedule : List ℕ → Module → Plan → Type 0
IsSchedule text m plan = States (function_names m) (words_in (stated text)) plan

-- The words are bad in their place: on the first line, or behind the lines of a plan.
abbrev pub IsBadBehind : List (List ℕ) → List (List (List ℕ)) → List (List ℕ) → Cause → Type 0
IsBadBehind functions before words cause = ((before ≡ []) × IsFirstCause functions words cause) ⊎ ((plan : Plan) × States functions before plan × IsNextCause plan words cause)

-- All lines before this one are good in their place, and this one has this cause.
pub record IsBadLine (functions : List (List ℕ)) (lines : List (ℕ × List (List ℕ))) (number : ℕ) (cause : Cause) : Type 0 where
  pub before : List (ℕ × List (List ℕ))
  pub words : List (List ℕ)
  pub behind : List (ℕ × List (List ℕ))
  pub whole : lines ≡ before ++ (number, words) ∷ behind
  pub bad : IsBadBehind functions (words_in before) words cause

-- THE LINE OF THIS NUMBER IS THE FIRST BAD ONE, for this cause. A text without a first line has its
-- fault behind its last line feed.
abbrev pub IsFirstBad : List ℕ → Module → ℕ → Cause → Type 0
IsFirstBad text m line cause = IsBadLine (function_names m) (stated text) line cause ⊎ ((stated text ≡ []) × (line ≡ length (lines_of text)) × (cause ≡ Syntax))

-- the fault that a text which is no schedule has
abbrev pub IsSchedFault : List ℕ → Module → SchedFault → Type 0
IsSchedFault text m (Bad line cause) = IsFirstBad text m line cause
IsSchedFault text m Memory = Unit {0}

-- No fault but this one, or want of memory.
abbrev pub IsBadAt : ℕ → Cause → SchedFault → Type 0
IsBadAt line cause (Bad l c) = (l ≡ line) × (c ≡ cause)
IsBadAt line cause Memory = Unit {0}
