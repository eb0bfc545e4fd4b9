-- A text derives one module, or has a fault.
use Rattle.std.proofs.Common.{◌≡◌, ℕ, suc, ◌+◌, ◌-◌, ◌^◌, ◌<◌, ◌≤◌, All, Bool, true, false, List, [], ◌∷◌, ◌++◌, length, refl, sym, ap, subst, ◌∙◌, inl, inr, arith, Result, Ok, Err, Option, None}
use Rattle.std.specs.Prelude.{MatchResult, IfOk}
use Rattle.std.specs.Option.{option_to_list}
use Rattle.std.proofs.lemmas.List.{length-append}
use Rattle.ax_module.specs.declared.module.Module.{Module}
use Rattle.ax_lex.specs.declared.token.Token.{Token}
use Rattle.ax_lex.specs.Tokens.{AreTokens}
use Rattle.ax_lex.proofs.Walk.{same_tokens, same_bad, not_both}
use Rattle.ax_lines.specs.declared.statement.Line.{Line}
use Rattle.ax_lines.specs.declared.fault.LineFault.{LineFault}
use Rattle.ax_lines.specs.declared.fault.LineFault.TheVariants as fault
use Rattle.ax_lines.specs.Lines.{AreLines, lines_of, param_count}
use Rattle.ax_lines.specs.Faults.{IsLineFault, HaveFault}
use Rattle.ax_lines.specs.Faults as lines
use Rattle.ax_lines.proofs.Places.{same_all, lines_faultless, one_fault}
use Rattle.ax_scope.specs.declared.meaning.Meaning.{Meaning}
use Rattle.ax_scope.specs.NameTable.{look}
use Rattle.ax_scope.specs.Names.{globals_from}
use Rattle.ax_scope.specs.Faults.{Body, outer_name, function_behind, faults_from, faults, AllFalse, NamesFit, IsNameFault}
use Rattle.ax_scope.specs.Module.{module_of}
use Rattle.ax_read.specs.declared.fault.ReadFault.{ReadFault}
use Rattle.ax_read.specs.declared.fault.ReadFault.TheVariants.{Syntax, Opcode, Name, Memory}
use Rattle.ax_scope.proofs.Exclusive.{one_fault as one_name}
use Rattle.ax_read.specs.Derivation.{Says, Derives, HasFault, IsOrMemory, IsReadFault, line_at}

-- ---- names

no_true : (before behind : List Bool) → AllFalse (before ++ true ∷ behind) → ⊥
no_true [] behind h = let e = h.0 in absurd cc
no_true (b ∷ before) behind h = no_true before behind h.1

no_name_fault : (text : List ℕ) (lines : List Line) (n : ℕ) → NamesFit text lines → IsNameFault text lines n → ⊥
no_name_fault text lines n fit f = no_true f.before f.behind (subst AllFalse f.whole fit)

faults_count : (text : List ℕ) (globals : List ℕ → Option Meaning) (names : List (List ℕ)) (function : Option Body) (lines : List Line) → length (faults_from text globals names function lines) ≡ length lines
faults_count text globals names function [] = refl
faults_count text globals names function (l ∷ ls) = ap suc (faults_count text globals (names ++ option_to_list (outer_name text l)) (function_behind text globals function l ls) ls)

pub name_fault_few : (text : List ℕ) (lines : List Line) (n : ℕ) → IsNameFault text lines n → n ≤ length lines
name_fault_few text lines n f =
    omega (arith, f.is, ap length f.whole, length-append f.before (true ∷ f.behind), faults_count text (look (globals_from text 0 lines)) [] None lines)

-- ---- one module

-- what a text states is one thing
same_stated : (text : List ℕ) (xs ys : List Line) → Says text xs → Says text ys → xs ≡ ys
same_stated text xs ys a b =
    let e = same_tokens text a.tokens b.tokens a.are_tokens b.are_tokens in
    same_all (lines_of text b.tokens) xs ys (subst (λ (ts : List Token). AreLines (lines_of text ts) xs) e a.are_lines) b.are_lines

pub one_module : (text : List ℕ) (m n : Module) → Derives text m → Derives text n → m ≡ n
one_module text m n d f = d.is ∙ ap (module_of text) (same_stated text d.stated f.stated d.says f.says) ∙ sym f.is

-- ---- one fault

lines_one : (text : List ℕ) (ts us : List Token) (e f : LineFault) → AreTokens text ts → AreTokens text us → HaveFault (lines_of text ts) e → IsLineFault (lines_of text us) f → lines.IsOrMemory e f
lines_one text ts us e f a b h k =
    let s = same_tokens text ts us a b in
    one_fault (lines_of text us) e f (subst (λ (vs : List Token). HaveFault (lines_of text vs) e) s h) k

lines_apart : (text : List ℕ) (ts : List Token) (stated : List Line) (e : LineFault) → AreTokens text ts → Says text stated → HaveFault (lines_of text ts) e → ⊥
lines_apart text ts stated e a s h =
    let t = same_tokens text ts s.tokens a s.are_tokens in
    lines_faultless (lines_of text s.tokens) stated e s.are_lines (subst (λ (vs : List Token). HaveFault (lines_of text vs) e) t h)

pub same_fault : (text : List ℕ) (e f : ReadFault) → HasFault text e → HasFault text f → e ≡ f
same_fault text (Syntax a) (Syntax b) (inl x) (inl y) = ap (λ (n : ℕ). Syntax n) (x.is ∙ ap (line_at text) (same_bad text x.at y.at x.first y.first) ∙ sym y.is)
same_fault text (Syntax a) (Syntax b) (inl x) (inr s) = absurd (not_both text s.tokens x.at s.are_tokens x.first)
same_fault text (Syntax a) (Syntax b) (inr s) (inl x) = absurd (not_both text s.tokens x.at s.are_tokens x.first)
same_fault text (Syntax a) (Syntax b) (inr s) (inr t) =
    let g : fault.Syntax b ≡ fault.Syntax a = lines_one text s.tokens t.tokens (fault.Syntax a) (fault.Syntax b) s.are_tokens t.are_tokens s.is t.is in
    cc
same_fault text (Syntax a) (Opcode b) (inl x) s = absurd (not_both text s.tokens x.at s.are_tokens x.first)
same_fault text (Syntax a) (Opcode b) (inr s) t =
    let g : fault.Opcode b ≡ fault.Syntax a = lines_one text s.tokens t.tokens (fault.Syntax a) (fault.Opcode b) s.are_tokens t.are_tokens s.is t.is in
    absurd cc
same_fault text (Syntax a) (Name b) (inl x) n = absurd (not_both text n.says.tokens x.at n.says.are_tokens x.first)
same_fault text (Syntax a) (Name b) (inr s) n = absurd (lines_apart text s.tokens n.stated (fault.Syntax a) s.are_tokens n.says s.is)
same_fault text (Opcode a) (Syntax b) s (inl x) = absurd (not_both text s.tokens x.at s.are_tokens x.first)
same_fault text (Opcode a) (Syntax b) s (inr t) =
    let g : fault.Syntax b ≡ fault.Opcode a = lines_one text s.tokens t.tokens (fault.Opcode a) (fault.Syntax b) s.are_tokens t.are_tokens s.is t.is in
    absurd cc
same_fault text (Opcode a) (Opcode b) s t =
    let g : fault.Opcode b ≡ fault.Opcode a = lines_one text s.tokens t.tokens (fault.Opcode a) (fault.Opcode b) s.are_tokens t.are_tokens s.is t.is in
    cc
same_fault text (Opcode a) (Name b) s n = absurd (lines_apart text s.tokens n.stated (fault.Opcode a) s.are_tokens n.says s.is)
same_fault text (Name a) (Syntax b) n (inl x) = absurd (not_both text n.says.tokens x.at n.says.are_tokens x.first)
same_fault text (Name a) (Syntax b) n (inr s) = absurd (lines_apart text s.tokens n.stated (fault.Syntax b) s.are_tokens n.says s.is)
same_fault text (Name a) (Opcode b) n s = absurd (lines_apart text s.tokens n.stated (fault.Opcode b) s.are_tokens n.says s.is)
same_fault text (Name a) (Name b) n k =
    let e = same_stated text n.stated k.stated n.says k.says in
    ap (λ (l : ℕ). Name l) (one_name text k.stated a b (subst (λ (ls : List Line). IsNameFault text ls a) e n.is) k.is)
same_fault text Memory f h k = absurd h
same_fault text (Syntax a) Memory h k = absurd k
same_fault text (Opcode a) Memory h k = absurd k
same_fault text (Name a) Memory h k = absurd k

pub apart : (text : List ℕ) (m : Module) (e : ReadFault) → Derives text m → HasFault text e → ⊥
apart text m (Syntax line) d (inl b) = not_both text d.says.tokens b.at d.says.are_tokens b.first
apart text m (Syntax line) d (inr s) = lines_apart text s.tokens d.stated (fault.Syntax line) s.are_tokens d.says s.is
apart text m (Opcode line) d s = lines_apart text s.tokens d.stated (fault.Opcode line) s.are_tokens d.says s.is
apart text m (Name line) d f =
    no_name_fault text f.stated line (subst (NamesFit text) (same_stated text d.stated f.stated d.says f.says) d.names) f.is
apart text m Memory d f = f

-- ---- what is answered

no_fault : (text : List ℕ) (m : Module) (e : ReadFault) → Derives text m → IsReadFault text e → e ≡ Memory
no_fault text m (Syntax line) d f = absurd (apart text m (Syntax line) d f)
no_fault text m (Opcode line) d f = absurd (apart text m (Opcode line) d f)
no_fault text m (Name line) d f = absurd (apart text m (Name line) d f)
no_fault text m Memory d f = refl

pub only_one : (text : List ℕ) (r : Result Module ReadFault) → IfOk r (λ m. Derives text m) → MatchResult r (λ _. Unit {0}) (λ e. IsReadFault text e) → (m : Module) → Derives text m → MatchResult r (λ x. x ≡ m) (λ e. e ≡ Memory)
only_one text (Ok x) found fault m d = one_module text x m found d
only_one text (Err e) found fault m d = no_fault text m e d fault

answered : (text : List ℕ) (f e : ReadFault) → HasFault text f → IsReadFault text e → IsOrMemory f e
answered text f (Syntax line) h k = same_fault text (Syntax line) f k h
answered text f (Opcode line) h k = same_fault text (Opcode line) f k h
answered text f (Name line) h k = same_fault text (Name line) f k h
answered text f Memory h k = tt

pub only_fault : (text : List ℕ) (r : Result Module ReadFault) → IfOk r (λ m. Derives text m) → MatchResult r (λ _. Unit {0}) (λ e. IsReadFault text e) → (f : ReadFault) → HasFault text f → MatchResult r (λ _. ⊥) (IsOrMemory f)
only_fault text (Ok x) found is f h = apart text x f found h
only_fault text (Err e) found is f h = answered text f e h is

-- ---- few parameters

pub params_below : (n k : ℕ) (xs : List Line) → All (λ l. param_count l ≤ n) xs → n ≤ k → k < 2 ^ 32 - 1 → All (λ l. param_count l < 2 ^ 32) xs
params_below n k xs h le lt = λ i d within. omega (arith, h i d within, le, lt)
