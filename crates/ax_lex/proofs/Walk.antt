-- The scanner's walk over the text.
use Rattle.std.proofs.Common.{◌≡◌, ℕ, ◌+◌, ◌-◌, ◌<◌, ◌≤◌, true, List, [], ◌∷◌, ◌++◌, length, take, drop, refl, sym, ap, subst, ◌∙◌, arith, All}
use Rattle.std.specs.List.{AllByRecursion}
use Rattle.std.proofs.lemmas.List.Elements.{All-from_recursion}
use Rattle.std.specs.Prelude.{Option, Some, None, IfSome}
use Rattle.std.proofs.lemmas.List.{length-drop}
use Rattle.ax_lex.specs.declared.token.TokenKind.{TokenKind}
use Rattle.ax_lex.specs.declared.token.Token.{Token}
use Rattle.ax_lex.specs.Tokens.{IsLongest, StartsNone, IsNext, TokensTo, behind_gap, AreTokens, IsFirstBad, is_token}
use Rattle.ax_lex.specs.Scan.{IsScan}
use Rattle.ax_lex.proofs.Longest.{one_longest, longest_positive}

-- the tokens so far, and the place behind them and the gap
pub record Reached (text : List ℕ) (ts : List Token) (at : ℕ) : Type 0 where
  pub to : ℕ
  pub so_far : TokensTo text 0 ts to
  pub here : at ≡ behind_gap text to
  pub within : at ≤ length text

pub scan_bounds : (text : List ℕ) (at : ℕ) (o : Option (TokenKind × ℕ)) → at ≤ length text → IsScan (drop at text) o → IfSome o (λ x. (0 < x.1) × (at + x.1 ≤ length text))
scan_bounds text at None h s = tt
scan_bounds text at (Some x) h s = (longest_positive (drop at text) x.0 x.1 s, omega (arith, s.within, length-drop at text))

push_token : (text : List ℕ) (from : ℕ) (ts : List Token) (to : ℕ) (t : Token) → TokensTo text from ts to → IsNext text to t → TokensTo text from (ts ++ t ∷ []) t.end
push_token text from [] to t h n = (subst (λ (a : ℕ). IsNext text a t) (sym h) n, refl)
push_token text from (s ∷ ts) to t h n = (h.0, push_token text s.end ts to t h.1 n)

pub next_reached : (text : List ℕ) (ts : List Token) (at : ℕ) (kind : TokenKind) (len : ℕ) (next : ℕ) → Reached text ts at → IsLongest (drop at text) kind len → next ≡ behind_gap text (at + len) → next ≤ length text
    → Reached text (ts ++ record { kind = kind; start = at; end = at + len } ∷ []) next
next_reached text ts at kind len next r l e h =
    let same : (at + len) - at ≡ len = omega arith in
    record {
      to = at + len;
      so_far = push_token text 0 ts r.to (record { kind = kind; start = at; end = at + len }) r.so_far (record { starts = r.here; ordered = omega arith; longest = rw same l });
      here = e;
      within = h;
    }

-- ---- only one walk

abbrev token_of_parts : TokenKind → ℕ → ℕ → Token
token_of_parts k s e = record { kind = k; start = s; end = e }

same_parts : (k l : TokenKind) (s r e f : ℕ) → k ≡ l → s ≡ r → e ≡ f → token_of_parts k s e ≡ token_of_parts l r f
same_parts k l s r e f p q u = cc

next_one : (text : List ℕ) (at : ℕ) (t u : Token) → IsNext text at t → IsNext text at u → t ≡ u
next_one text at t u a b =
    let s : t.start ≡ u.start = a.starts ∙ sym b.starts in
    let o = one_longest (drop t.start text) t.kind u.kind (t.end - t.start) (u.end - u.start) a.longest (rw s b.longest) in
    let e : t.end ≡ u.end = omega (arith, o.1, a.ordered, b.ordered, s) in
    same_parts t.kind u.kind t.start u.start t.end u.end o.0 s e

abbrev Stops : List ℕ → ℕ → Type 0
Stops text to = (t : Token) → IsNext text to t → ⊥

same_walk : (text : List ℕ) (from : ℕ) (ts us : List Token) (to vs : ℕ) → TokensTo text from ts to → TokensTo text from us vs → Stops text to → Stops text vs → (ts ≡ us) × (to ≡ vs)
same_walk text from [] [] to vs a b s r = (refl, sym a ∙ b)
same_walk text from [] (u ∷ us) to vs a b s r = absurd (s u (subst (λ (x : ℕ). IsNext text x u) a b.0))
same_walk text from (t ∷ ts) [] to vs a b s r = absurd (r t (subst (λ (x : ℕ). IsNext text x t) b a.0))
same_walk text from (t ∷ ts) (u ∷ us) to vs a b s r =
    let e = next_one text from t u a.0 b.0 in
    let more = same_walk text t.end ts us to vs a.1 (subst (λ (x : Token). TokensTo text x.end us vs) (sym e) b.1) s r in
    let f = more.0 in
    (cc, more.1)

stops_none : (text : List ℕ) (to : ℕ) → StartsNone (drop (behind_gap text to) text) → Stops text to
stops_none text to none t n = none t.kind (t.end - t.start) (subst (λ (x : ℕ). is_token t.kind (take (t.end - t.start) (drop x text)) ≡ true) n.starts n.longest.token)

stops_end : (text : List ℕ) (to : ℕ) → behind_gap text to ≡ length text → Stops text to
stops_end text to e t n =
    let p = longest_positive (drop t.start text) t.kind (t.end - t.start) n.longest in
    omega (arith, n.longest.within, length-drop t.start text, n.starts, e, p)

pub same_tokens : (text : List ℕ) (ts us : List Token) → AreTokens text ts → AreTokens text us → ts ≡ us
same_tokens text ts us (to, a, s) (vs, b, r) = (same_walk text 0 ts us to vs a b (stops_end text to s) (stops_end text vs r)).0

pub not_both : (text : List ℕ) (ts : List Token) (at : ℕ) → AreTokens text ts → IsFirstBad text at → ⊥
not_both text ts at (to, a, s) (us, vs, b, e, lt, none) =
    let w = same_walk text 0 ts us to vs a b (stops_end text to s) (stops_none text vs (subst (λ (x : ℕ). StartsNone (drop x text)) e none)) in
    omega (arith, ap (behind_gap text) w.1, s, e, lt)

pub same_bad : (text : List ℕ) (a b : ℕ) → IsFirstBad text a → IsFirstBad text b → a ≡ b
same_bad text a b (ts, to, w, e, lt, none) (us, vs, x, f, less, never) =
    let s = same_walk text 0 ts us to vs w x (stops_none text to (subst (λ (x : ℕ). StartsNone (drop x text)) e none)) (stops_none text vs (subst (λ (x : ℕ). StartsNone (drop x text)) f never)) in
    e ∙ ap (behind_gap text) s.1 ∙ sym f

pub reached_end : (text : List ℕ) (ts : List Token) (at : ℕ) → Reached text ts at → length text ≤ at → AreTokens text ts
reached_end text ts at r h = (r.to, r.so_far, sym r.here ∙ omega (arith, r.within))

pub reached_bad : (text : List ℕ) (ts : List Token) (at : ℕ) → Reached text ts at → at < length text → StartsNone (drop at text) → IsFirstBad text at
reached_bad text ts at r h none = (ts, r.to, r.so_far, r.here, h, none)

all_within : (text : List ℕ) (from : ℕ) (ts : List Token) (to : ℕ) → TokensTo text from ts to → AllByRecursion (λ t. (t.start < t.end) × (t.end ≤ length text)) ts
all_within text from [] to h = tt
all_within text from (t ∷ ts) to h =
    let p = longest_positive (drop t.start text) t.kind (t.end - t.start) h.0.longest in
    ((omega arith, omega (arith, h.0.longest.within, length-drop t.start text, p)), all_within text t.end ts to h.1)

pub tokens_within : (text : List ℕ) (ts : List Token) → AreTokens text ts → All (λ t. (t.start < t.end) × (t.end ≤ length text)) ts
tokens_within text ts a = All-from_recursion (λ t. (t.start < t.end) × (t.end ≤ length text)) ts (all_within text 0 ts a.0 a.1)

walk_count : (text : List ℕ) (from : ℕ) (ts : List Token) (to : ℕ) → TokensTo text from ts to → length ts + from ≤ to
walk_count text from [] to h = omega (arith, h)
walk_count text from (t ∷ ts) to h =
    let p = longest_positive (drop t.start text) t.kind (t.end - t.start) h.0.longest in
    omega (arith, h.0.starts, p, walk_count text t.end ts to h.1)

pub tokens_few : (text : List ℕ) (ts : List Token) → AreTokens text ts → length ts ≤ length text
tokens_few text ts a = omega (arith, walk_count text 0 ts a.0 a.1, a.2)
