-- Each text derives a module or has a fault.
use Rattle.std.proofs.Common.{◌≡◌, ℕ, zero, suc, ◌+◌, ◌-◌, ◌^◌, ◌<◌, ◌≤◌, arith, Bool, true, false, List, [], ◌∷◌, ◌++◌, length, drop, Option, Some, None, refl, ap, inl, inr, length-drop}
use Rattle.std.specs.Prelude.{◌⊎◌, ◌==◌, nat_lt}
use Rattle.std.proofs.lemmas.Bool.{cases_Bool, ltb-true, ltb-false}
use Rattle.ax_module.specs.declared.module.Module.{Module}
use Rattle.ax_lex.specs.declared.token.Token.{Token}
use Rattle.ax_lex.specs.declared.token.TokenKind.{TokenKind}
use Rattle.ax_lex.specs.Bytes.{is_blank}
use Rattle.ax_lex.specs.Tokens.{AreTokens, IsFirstBad, gap, behind_gap}
use Rattle.ax_lex.specs.Scan.{IsScan, token_of}
use Rattle.ax_lex.proofs.Longest.{scan_is}
use Rattle.ax_lex.proofs.Walk.{Reached, scan_bounds, next_reached, reached_end, reached_bad, tokens_few}
use Rattle.ax_symbols.specs.declared.symbol.Symbol.{Symbol}
use Rattle.ax_symbols.specs.Grammar.{reads, all_of}
use Rattle.ax_lines.specs.declared.statement.Line.{Line}
use Rattle.ax_lines.specs.declared.statement.Section.{Section}
use Rattle.ax_lines.specs.declared.statement.Section.TheVariants as section
use Rattle.ax_lines.specs.declared.fault.LineFault.{LineFault}
use Rattle.ax_lines.specs.declared.fault.LineFault.TheVariants as fault
use Rattle.ax_lines.specs.Productions.{line_at as grammar_at, section_after}
use Rattle.ax_lines.specs.Lines.{AreLines, lines_of, is_opcode_fault}
use Rattle.ax_lines.specs.Faults.{HaveFault}
use Rattle.ax_lines.proofs.Places.{Walked, walk_starts, walk_goes_on, walk_stops, walk_ends, walk_open, stated_few}
use Rattle.ax_lines.proofs.Parameters.{params_few}
use Rattle.ax_scope.specs.Faults.{AllFalse, faults}
use Rattle.ax_scope.specs.Module.{module_of}
use Rattle.ax_scope.proofs.Counts.{module_counted}
use Rattle.ax_read.specs.declared.fault.ReadFault.{ReadFault}
use Rattle.ax_read.specs.declared.fault.ReadFault.TheVariants.{Syntax, Opcode, Name, Memory}
use Rattle.ax_read.specs.Derivation.{Says, Derives, HasFault, line_at}
use Rattle.ax_read.proofs.Derived.{params_below}

-- ---- tokens

gap_within : (c : Bool) (bs : List ℕ) → gap c bs ≤ length bs
gap_within true [] = omega arith
gap_within false [] = omega arith
gap_within true (b ∷ bs) =
    elim (cases_Bool (b == 10)) [
      | inl yes' ↦ rw yes' (omega arith)
      | inr no' ↦ rw no' (omega (arith, gap_within true bs))
    ]
gap_within false (b ∷ bs) =
    elim (cases_Bool (is_blank b)) [
      | inl yes' ↦ rw yes' (omega (arith, gap_within false bs))
      | inr no' ↦
          elim (cases_Bool (b == 59)) [
            | inl semi ↦ rw (no', semi) (omega (arith, gap_within true bs))
            | inr other ↦ rw (no', other) (omega arith)
          ]
    ]

behind_within : (text : List ℕ) (at : ℕ) → at ≤ length text → behind_gap text at ≤ length text
behind_within text at h = omega (arith, gap_within false (drop at text), length-drop at text, h)

abbrev Lexed : List ℕ → Type 0
Lexed text = ((ts : List Token) × AreTokens text ts) ⊎ ((at : ℕ) × IsFirstBad text at)

token_step : (text : List ℕ) (ts : List Token) (at n : ℕ) (o : Option (TokenKind × ℕ)) → IsScan (drop at text) o → Reached text ts at → at < length text → length text ≤ at + suc n
    → ((us : List Token) (next : ℕ) → Reached text us next → length text ≤ next + n → Lexed text) → Lexed text
token_step text ts at n None s r lt h go = inr (at, reached_bad text ts at r lt s)
token_step text ts at n (Some x) s r lt h go =
    let b = scan_bounds text at (Some x) (omega (arith, lt)) s in
    go _ (behind_gap text (at + x.1)) (next_reached text ts at x.0 x.1 (behind_gap text (at + x.1)) r s refl (behind_within text (at + x.1) b.1)) (omega (arith, b.0, h))

lexed_from : (n : ℕ) (text : List ℕ) (ts : List Token) (at : ℕ) → Reached text ts at → length text ≤ at + n → Lexed text
lexed_from zero text ts at r h = inl (ts, reached_end text ts at r (omega (arith, h)))
lexed_from (suc n) text ts at r h =
    elim (cases_Bool (nat_lt at (length text))) [
      | inl inside ↦ token_step text ts at n (token_of (drop at text)) (scan_is (drop at text)) r (ltb-true at (length text) inside) h (λ us next q g. lexed_from n text us next q g)
      | inr end ↦ inl (ts, reached_end text ts at r (omega (arith, ltb-false at (length text) end)))
    ]

lexed : (text : List ℕ) → Lexed text
lexed text =
    lexed_from (length text) text [] (behind_gap text 0) (record { to = 0; so_far = refl; here = refl; within = behind_within text 0 (omega arith) }) (omega arith)

-- ---- lines

abbrev Lined : List (List Symbol) → Type 0
Lined ls = ((xs : List Line) × AreLines ls xs) ⊎ ((e : LineFault) × HaveFault ls e)

bad_line : (ls : List (List Symbol)) (xs : List Line) (at : Section) (l : List Symbol) (more : List (List Symbol)) (t : Bool) → Walked ls xs at (l ∷ more) → all_of (reads (grammar_at at) l) ≡ None → is_opcode_fault at l ≡ t → Lined ls
bad_line ls xs at l more true w e k = inr (fault.Opcode (length xs + 1), walk_stops ls xs at (l ∷ more) l more (fault.Opcode (length xs + 1)) w refl (refl, e, k))
bad_line ls xs at l more false w e k = inr (fault.Syntax (length xs + 1), walk_stops ls xs at (l ∷ more) l more (fault.Syntax (length xs + 1)) w refl (refl, e, k))

line_step : (ls : List (List Symbol)) (xs : List Line) (at : Section) (l : List Symbol) (more : List (List Symbol)) (o : Option Line) → Walked ls xs at (l ∷ more) → all_of (reads (grammar_at at) l) ≡ o
    → ((x : Line) → Walked ls (xs ++ x ∷ []) (section_after at x) more → Lined ls) → Lined ls
line_step ls xs at l more None w e go = bad_line ls xs at l more (is_opcode_fault at l) w e refl
line_step ls xs at l more (Some x) w e go = go x (walk_goes_on ls xs at (l ∷ more) l more x w refl e)

ended_at : (ls : List (List Symbol)) (xs : List Line) (at : Section) → Walked ls xs at [] → Lined ls
ended_at ls xs section.Outside w = inl (xs, walk_ends ls xs section.Outside w)
ended_at ls xs section.Start w = inr (fault.Syntax (length xs), walk_open ls xs section.Start w (λ e. absurd cc))
ended_at ls xs section.Phis w = inr (fault.Syntax (length xs), walk_open ls xs section.Phis w (λ e. absurd cc))
ended_at ls xs section.Inside w = inr (fault.Syntax (length xs), walk_open ls xs section.Inside w (λ e. absurd cc))
ended_at ls xs section.Ended w = inr (fault.Syntax (length xs), walk_open ls xs section.Ended w (λ e. absurd cc))

lined_from : (ls left : List (List Symbol)) (xs : List Line) (at : Section) → Walked ls xs at left → Lined ls
lined_from ls [] xs at w = ended_at ls xs at w
lined_from ls (l ∷ more) xs at w = line_step ls xs at l more (all_of (reads (grammar_at at) l)) w refl (λ x v. lined_from ls more (xs ++ x ∷ []) (section_after at x) v)

lined : (ls : List (List Symbol)) → Lined ls
lined ls = lined_from ls ls [] section.Outside (walk_starts ls)

-- ---- names

abbrev Named : List Bool → Type 0
Named bs = AllFalse bs ⊎ ((before : List Bool) × (behind : List Bool) × (bs ≡ before ++ true ∷ behind) × AllFalse before)

more_named : (bs : List Bool) → Named bs → Named (false ∷ bs)
more_named bs (inl h) = inl (refl, h)
more_named bs (inr w) = inr (false ∷ w.0, w.1, ap (λ (x : List Bool). false ∷ x) w.2, (refl, w.3))

named : (bs : List Bool) → Named bs
named [] = inl tt
named (true ∷ bs) = inr ([], bs, refl, tt)
named (false ∷ bs) = more_named bs (named bs)

-- ---- a text

abbrev Answered : List ℕ → Type 0
Answered text = ((m : Module) × Derives text m) ⊎ ((e : ReadFault) × HasFault text e)

from_names : (text : List ℕ) (xs : List Line) → Says text xs → length text < 2 ^ 32 - 1 → Named (faults text xs) → Answered text
from_names text xs s lt (inr w) = inr (Name (length w.0 + 1), record { stated = xs; says = s; is = record { before = w.0; behind = w.1; whole = w.2; is = refl; fit = w.3 } })
from_names text xs s lt (inl fit) =
    let few = tokens_few text s.tokens s.are_tokens in
    let counts = module_counted text xs (omega (arith, stated_few text s.tokens xs s.are_lines, few, lt)) (params_below (length s.tokens) (length text) xs (params_few text s.tokens xs s.are_lines) few lt) in
    inl (module_of text xs, record { stated = xs; says = s; names = fit; is = refl; counts = counts })

from_lines : (text : List ℕ) (ts : List Token) → AreTokens text ts → length text < 2 ^ 32 - 1 → Lined (lines_of text ts) → Answered text
from_lines text ts a lt (inl h) = from_names text h.0 (record { tokens = ts; are_tokens = a; are_lines = h.1 }) lt (named (faults text h.0))
from_lines text ts a lt (inr (fault.Syntax n, h)) = inr (Syntax n, inr (record { tokens = ts; are_tokens = a; is = h }))
from_lines text ts a lt (inr (fault.Opcode n, h)) = inr (Opcode n, record { tokens = ts; are_tokens = a; is = h })
from_lines text ts a lt (inr (fault.Memory, h)) = absurd h

from_tokens : (text : List ℕ) → length text < 2 ^ 32 - 1 → Lexed text → Answered text
from_tokens text lt (inl h) = from_lines text h.0 h.1 lt (lined (lines_of text h.0))
from_tokens text lt (inr b) = inr (Syntax (line_at text b.0), inl (record { at = b.0; first = b.1; is = refl }))

pub each_answered : (text : List ℕ) → length text < 2 ^ 32 - 1 → ((m : Module) × Derives text m) ⊎ ((e : ReadFault) × HasFault text e)
each_answered text lt = from_tokens text lt (lexed text)
