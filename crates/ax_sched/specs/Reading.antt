-- What the reader's own functions give; no public clause names them.
use Rattle.std.specs.Prelude.{◌≡◌, ℕ, ◌+◌, ◌*◌, ◌-◌, ◌^◌, Bool, true, false, not, ◌&&◌, ◌==◌, nat_eq, nat_le, nat_lt, if◌then◌else◌, List, [], ◌∷◌, ◌++◌, length, codes, Option, Some, None, option_map, position, Result, Ok, Err}
use Rattle.std.specs.List.{list_all}
use Rattle.std.specs.Option.{option_and_then}
use Rattle.std.specs.Cmp.Lexicographic.{pointwise}
use Rattle.ax_lex.specs.declared.token.TokenKind.TheVariants.{Global}
use Rattle.ax_lex.specs.Bytes.{is_blank}
use Rattle.ax_lex.specs.Names.{name_in}
use Rattle.ax_lex.specs.Numbers.{number_of as decimal_of}
use Rattle.ax_lex.specs.Tokens.{is_token}
use Rattle.ax_sched.specs.declared.plan.Item.{Item}
use Rattle.ax_sched.specs.declared.plan.Item.TheVariants.{Step, Drain, Drop, Link, Round, Random}
use Rattle.ax_sched.specs.declared.plan.Plan.{Plan}
use Rattle.ax_sched.specs.declared.directive.Verb.{Verb}
use Rattle.ax_sched.specs.declared.directive.Verb.TheVariants as verb
use Rattle.ax_sched.specs.declared.directive.Directive.{Directive}
use Rattle.ax_sched.specs.declared.fault.Cause.{Cause}
use Rattle.ax_sched.specs.declared.fault.Cause.TheVariants.{Syntax, ProcessorRange, UnknownEntry, TooMany}
use Rattle.ax_sched.specs.declared.fault.SchedFault.{SchedFault}
use Rattle.ax_sched.specs.declared.fault.SchedFault.TheVariants.{Bad, Memory}
use Rattle.ax_sched.specs.declared.fault.ScheduleStop.{ScheduleStop}
use Rattle.ax_sched.specs.declared.fault.ScheduleStop.TheVariants as stop
use Rattle.ax_sched.specs.Plan.{times_of}
use Rattle.ax_sched.specs.Lines.{turned, words_of}

abbrev pub StopsAs : {Y : Type 0} → ScheduleStop → Result Y Cause → Type 0
StopsAs stop.Memory read = Unit {0}
StopsAs (stop.Bad c) read = read ≡ Err c

-- what a function answers, seen by view, is what is read, unless memory ran out
abbrev pub ReadsAs : {X Y : Type 0} → (X → Y) → Result X ScheduleStop → Result Y Cause → Type 0
ReadsAs view (Ok x) read = read ≡ Ok (view x)
ReadsAs view (Err e) read = StopsAs e read

abbrev pub FaultsAs : {Y : Type 0} → SchedFault → Result Y (ℕ × Cause) → Type 0
FaultsAs Memory read = Unit {0}
FaultsAs (Bad line cause) read = read ≡ Err (line, cause)

-- the same of a whole text
abbrev pub AnswersAs : {X Y : Type 0} → (X → Y) → Result X SchedFault → Result Y (ℕ × Cause) → Type 0
AnswersAs view (Ok x) read = read ≡ Ok (view x)
AnswersAs view (Err e) read = FaultsAs e read

abbrev pub fault_at : ℕ → ScheduleStop → SchedFault
fault_at line (stop.Bad cause) = Bad line cause
fault_at line stop.Memory = Memory

abbrev pub at_line : {Y : Type 0} → ℕ → Result Y Cause → Result Y (ℕ × Cause)
at_line line (Ok y) = Ok y
at_line line (Err c) = Err (line, c)

-- the same of the line of this number
abbrev pub FirstAs : {X Y : Type 0} → (X → Y) → Result X SchedFault → ℕ → Result Y Cause → Type 0
FirstAs view r line read = AnswersAs view r (at_line line read)

-- ---- what may stop

abbrev pub or_cause : {A B : Type 0} → Cause → Option A → (A → Result B Cause) → Result B Cause
or_cause c None f = Err c
or_cause c (Some x) f = f x

abbrev pub and_at : {A B : Type 0} → ℕ → Result A Cause → (A → Result B (ℕ × Cause)) → Result B (ℕ × Cause)
and_at line (Err c) f = Err (line, c)
and_at line (Ok x) f = f x

-- ---- words

-- a word in the making, before further words
abbrev pub ended : List ℕ → List (List ℕ) → List (List ℕ)
ended [] ws = ws
ended (b ∷ bs) ws = (b ∷ bs) ∷ ws

abbrev pub words_from : List ℕ → Bool → List ℕ → List (List ℕ)
words_from word quoted [] = ended word []
words_from word quoted (b ∷ bs) = if is_blank b && not quoted then ended word (words_from [] quoted bs) else words_from (word ++ b ∷ []) (turned b quoted) bs

-- nothing, or a comment
abbrev pub begins_no_word : List ℕ → Bool
begins_no_word [] = true
begins_no_word (b ∷ bs) = b == 35

-- ---- numbers

-- a number below 2 ^ 64 without leading zeros
abbrev pub number_of : List ℕ → Option ℕ
number_of [] = None
number_of (b ∷ bs) = if b == 48 && nat_lt 0 (length bs) then None else decimal_of (2 ^ 64 - 1) (b ∷ bs)

-- ---- the first line

abbrev pub entry_of : List (List ℕ) → List ℕ → Option ℕ
entry_of functions word = if is_token Global word then position (λ f. pointwise nat_eq f (name_in word)) functions else None

-- the functions before these words, and those that they name
abbrev pub entries_from : List (List ℕ) → List ℕ → List (List ℕ) → Result (List ℕ) Cause
entries_from functions before [] = Ok before
entries_from functions before (w ∷ ws) = or_cause UnknownEntry (entry_of functions w) (λ f. entries_from functions (before ++ f ∷ []) ws)

abbrev pub is_first_line : List (List ℕ) → Bool
is_first_line [] = false
is_first_line (w ∷ ws) = pointwise nat_eq w (codes "processors") && list_all (is_token Global) ws

abbrev pub is_count : ℕ → Bool
is_count k = nat_le 1 k && nat_le k 8

abbrev pub counted_entries : List (List ℕ) → List (List ℕ) → Result (List ℕ) Cause
counted_entries functions ws = if is_count (length ws) then entries_from functions [] ws else Err ProcessorRange

abbrev pub first_of : List (List ℕ) → List (List ℕ) → Result (List ℕ) Cause
first_of functions [] = Err Syntax
first_of functions (w ∷ ws) = if is_first_line (w ∷ ws) then counted_entries functions ws else Err Syntax

-- ---- directives

abbrev pub verb_of : List ℕ → Option Verb
verb_of word = if pointwise nat_eq word (codes "step") then Some verb.Step else if pointwise nat_eq word (codes "drain") then Some verb.Drain else if pointwise nat_eq word (codes "drop") then Some verb.Drop else if pointwise nat_eq word (codes "link") then Some verb.Link else None

abbrev pub directive_of : Verb → ℕ → ℕ → Directive
directive_of v p n = record { verb = v; p = p; n = n }

abbrev pub round_from : List ℕ → List ℕ → Option Directive
round_from word n = if pointwise nat_eq word (codes "round") then option_map (directive_of verb.Round 0) (number_of n) else None

abbrev pub random_from : List ℕ → List ℕ → Option Directive
random_from seed n = option_and_then (λ s. option_map (directive_of (verb.Random s) 0) (number_of n)) (number_of seed)

abbrev pub named_from : List ℕ → List ℕ → List ℕ → Option Directive
named_from word p n = option_and_then (λ v. option_and_then (λ k. option_map (directive_of v k) (number_of n)) (number_of p)) (verb_of word)

abbrev pub directive_from : List (List ℕ) → Option Directive
directive_from [] = None
directive_from (v ∷ []) = None
directive_from (v ∷ a ∷ []) = round_from v a
directive_from (v ∷ a ∷ b ∷ []) = if pointwise nat_eq v (codes "random") then random_from a b else named_from v a b
directive_from (v ∷ a ∷ b ∷ c ∷ ws) = None

abbrev pub item_by : Verb → ℕ → ℕ → Item
item_by verb.Step p n = Step p n
item_by verb.Drain p n = Drain p n
item_by verb.Drop p n = Drop p n
item_by verb.Link p n = Link p n
item_by verb.Round p n = Round n
item_by (verb.Random seed) p n = Random seed n

abbrev pub item_of : Directive → Item
item_of d = item_by d.verb d.p d.n

-- the directive's item, where there are k processors and so many events before it
abbrev pub checked : ℕ → ℕ → Directive → Result Item Cause
checked k events d = if nat_lt d.p k then (if nat_le (events + d.n) 1000000 then Ok (item_of d) else Err TooMany) else Err ProcessorRange

abbrev pub item_from : ℕ → ℕ → List (List ℕ) → Result Item Cause
item_from k events words = or_cause Syntax (directive_from words) (checked k events)

-- ---- lines

-- the directives before these lines, of so many events, and those that the lines state
abbrev pub items_from : ℕ → List Item → ℕ → List (ℕ × List ℕ) → Result (List Item) (ℕ × Cause)
items_from k before events [] = Ok before
items_from k before events (l ∷ ls) = and_at l.0 (item_from k events (words_of l.1)) (λ i. items_from k (before ++ i ∷ []) (events + times_of i) ls)

abbrev pub planned : List ℕ → Result (List Item) (ℕ × Cause) → Result Plan (ℕ × Cause)
planned es (Ok is) = Ok (record { entries = es; items = is })
planned es (Err e) = Err e

-- what kept lines of a text with so many lines state
abbrev pub plan_from : List (List ℕ) → ℕ → List (ℕ × List ℕ) → Result Plan (ℕ × Cause)
plan_from functions total [] = Err (total, Syntax)
plan_from functions total (l ∷ ls) = and_at l.0 (first_of functions (words_of l.1)) (λ es. planned es (items_from (length es) [] 0 ls))
