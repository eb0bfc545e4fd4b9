-- The first line of a schedule is read exactly: its entries, or the first of its causes.
use Rattle.std.proofs.Common.{◌≡◌, ◌≢◌, ℕ, ◌<◌, arith, Bool, true, false, List, [], ◌∷◌, ◌++◌, length, get_or, All, AllPairs, codes, Option, Some, None, Result, Ok, Err, refl, sym, ap, subst, ◌∙◌, inl, inr, append_assoc, append-nil}
use Rattle.std.specs.Prelude.{◌⊎◌, nat_eq, nat_le}
use Rattle.std.specs.List.{list_all, position_or_len}
use Rattle.std.specs.Cmp.Lexicographic.{pointwise}
use Rattle.std.specs.Str.{bytes_eq}
use Rattle.std.proofs.lemmas.Bool.{cases_Bool, and_parts, and_from, lt-ltb, leb-true, le-leb, false_from_ne_true}
use Rattle.std.proofs.lemmas.Slice.Eq.{bytes_eq-Decides}
use Rattle.std.proofs.lemmas.List.Elements.{All-nil, All-cons, All-head, All-tail}
use Rattle.std.proofs.lemmas.List.Quantifiers.{position-Some}
use Rattle.std.proofs.lemmas.List.Sums.{position_or_len_is}
use Rattle.ax_lex.specs.declared.token.TokenKind.TheVariants.{Global}
use Rattle.ax_lex.specs.Tokens.{is_token}
use Rattle.ax_sched.specs.declared.fault.Cause.{Cause}
use Rattle.ax_sched.specs.declared.fault.Cause.TheVariants.{Syntax, ProcessorRange, UnknownEntry, UnknownObject, TooMany}
use Rattle.ax_lex.specs.Names.{name_in}
use Rattle.ax_sched.specs.Schedule.{IsGlobal, IsEntry, AreEntries, IsFirstLine, IsCount, IsFirstCause}
use Rattle.ax_sched.specs.Reading.{or_cause, entry_of, entries_from, is_first_line, is_count, counted_entries, first_of}

-- ---- what may stop

pub same_Ok : {A E : Type 0} (x y : A) → (let u : Result A E = Ok x in u ≡ Ok y) → x ≡ y
same_Ok x y e = cc

pub same_Err : {A E : Type 0} (x y : E) → (let u : Result A E = Err x in u ≡ Err y) → x ≡ y
same_Err x y e = cc

pub apart : {A E : Type 0} (x : A) (y : E) → Ok x ≡ Err y → ⊥
apart x y e = cc

pub or_cause_ok : {A B : Type 0} (c : Cause) (o : Option A) (f : A → Result B Cause) (y : B) → or_cause c o f ≡ Ok y → (x : A) × (o ≡ Some x) × (f x ≡ Ok y)
or_cause_ok c None f y e = absurd (apart y c (sym e))
or_cause_ok c (Some x) f y e = (x, refl, e)

pub or_cause_err : {A B : Type 0} (c : Cause) (o : Option A) (f : A → Result B Cause) (d : Cause) → or_cause c o f ≡ Err d → ((o ≡ None) × (d ≡ c)) ⊎ ((x : A) × (o ≡ Some x) × (f x ≡ Err d))
or_cause_err c None f d e = inl (refl, sym (same_Err c d e))
or_cause_err c (Some x) f d e = inr (x, refl, e)

module _ (functions : List (List ℕ)) where
  -- ---- one entry

  entry_found : (w : List ℕ) (f : ℕ) → entry_of functions w ≡ Some f → IsEntry functions w f
  entry_found w f e =
      elim (cases_Bool (is_token Global w)) [
        | inl good ↦
            let p = position-Some (λ (g : List ℕ). bytes_eq g (name_in w)) functions f [] (rw good at e) in
            record { token = good; within = p.0; named = sym ((bytes_eq-Decides (get_or functions f []) (name_in w)).0 p.1) }
        | inr bad ↦ let k = rw bad at e in absurd cc
      ]

  module _ (differ : AllPairs (λ x y. x ≢ y) functions) where
    entry_again : (w : List ℕ) (f : ℕ) → IsEntry functions w f → entry_of functions w ≡ Some f
    entry_again w f h =
        let q : List ℕ → Bool = λ (g : List ℕ). bytes_eq g (name_in w) in
        let others : (k : ℕ) → k < f → bytes_eq (get_or functions k []) (name_in w) ≡ false =
        λ (k : ℕ) (lt : k < f). false_from_ne_true (bytes_eq (get_or functions k []) (name_in w)) (λ (t : bytes_eq (get_or functions k []) (name_in w) ≡ true). differ k f [] lt h.within ((bytes_eq-Decides (get_or functions k []) (name_in w)).0 t ∙ h.named)) in
        let itself : bytes_eq (get_or functions f []) (name_in w) ≡ true = (bytes_eq-Decides (get_or functions f []) (name_in w)).1 (sym h.named) in
        let at : position_or_len (λ (g : List ℕ). bytes_eq g (name_in w)) functions ≡ f = position_or_len_is (λ (g : List ℕ). bytes_eq g (name_in w)) functions f [] (omega (arith, h.within)) others (λ _. itself) in
        rw (h.token, at, lt-ltb f (length functions) h.within) refl

  -- ---- entries

  entries_found : (before : List ℕ) (ws : List (List ℕ)) (es : List ℕ) → entries_from functions before ws ≡ Ok es → (more : List ℕ) × (es ≡ before ++ more) × AreEntries functions ws more
  entries_found before [] es e = ([], sym (same_Ok before es e) ∙ sym (append-nil before), tt)
  entries_found before (w ∷ ws) es e =
      let b = or_cause_ok UnknownEntry (entry_of functions w) (λ (f : ℕ). entries_from functions (before ++ f ∷ []) ws) es e in
      let r = entries_found (before ++ b.0 ∷ []) ws es b.2 in
      (b.0 ∷ r.0, r.1 ∙ append_assoc before (b.0 ∷ []) r.0, (entry_found w b.0 b.1, r.2))

  entries_stop : (before : List ℕ) (ws : List (List ℕ)) (c : Cause) → entries_from functions before ws ≡ Err c → c ≡ UnknownEntry
  entries_stop before [] c e = absurd (apart before c e)
  entries_stop before (w ∷ ws) c e =
      elim (or_cause_err UnknownEntry (entry_of functions w) (λ (f : ℕ). entries_from functions (before ++ f ∷ []) ws) c e) [
        | inl h ↦ h.1
        | inr h ↦ entries_stop (before ++ h.0 ∷ []) ws c h.2
      ]

  pub length_entries : (ws : List (List ℕ)) (es : List ℕ) → AreEntries functions ws es → length ws ≡ length es
  length_entries [] [] h = refl
  length_entries [] (f ∷ fs) h = absurd h
  length_entries (w ∷ ws) [] h = absurd h
  length_entries (w ∷ ws) (f ∷ fs) h = omega (arith, length_entries ws fs h.1)

  pub tokens_of : (ws : List (List ℕ)) (es : List ℕ) → AreEntries functions ws es → All IsGlobal ws
  tokens_of [] [] h = All-nil IsGlobal
  tokens_of [] (f ∷ fs) h = absurd h
  tokens_of (w ∷ ws) [] h = absurd h
  tokens_of (w ∷ ws) (f ∷ fs) h = All-cons IsGlobal w ws h.0.token (tokens_of ws fs h.1)

  pub within_of : (ws : List (List ℕ)) (es : List ℕ) → AreEntries functions ws es → All (λ f. f < length functions) es
  within_of [] [] h = All-nil (λ (f : ℕ). f < length functions)
  within_of [] (f ∷ fs) h = absurd h
  within_of (w ∷ ws) [] h = absurd h
  within_of (w ∷ ws) (f ∷ fs) h = All-cons (λ (g : ℕ). g < length functions) f fs h.0.within (within_of ws fs h.1)

  -- ---- the line

  all_tokens : (ws : List (List ℕ)) → list_all (is_token Global) ws ≡ true → All IsGlobal ws
  all_tokens [] h = All-nil IsGlobal
  all_tokens (w ∷ ws) h =
      let a = and_parts (is_token Global w) (list_all (is_token Global) ws) h in
      All-cons IsGlobal w ws a.0 (all_tokens ws a.1)

  tokens_all : (ws : List (List ℕ)) → All IsGlobal ws → list_all (is_token Global) ws ≡ true
  tokens_all [] h = refl
  tokens_all (w ∷ ws) h = and_from (is_token Global w) (list_all (is_token Global) ws) (All-head IsGlobal w ws h) (tokens_all ws (All-tail IsGlobal w ws h))

  line_found : (w : List ℕ) (ws : List (List ℕ)) → is_first_line (w ∷ ws) ≡ true → IsFirstLine (w ∷ ws) ws
  line_found w ws h =
      let a = and_parts (pointwise nat_eq w (codes "processors")) (list_all (is_token Global) ws) h in
      record { whole = ap (λ (x : List ℕ). x ∷ ws) ((bytes_eq-Decides w (codes "processors")).0 a.0); tokens = all_tokens ws a.1 }

  line_again : (names : List (List ℕ)) → All IsGlobal names → is_first_line (codes "processors" ∷ names) ≡ true
  line_again names h = and_from (pointwise nat_eq (codes "processors") (codes "processors")) (list_all (is_token Global) names) refl (tokens_all names h)

  count_found : (k : ℕ) → is_count k ≡ true → IsCount k
  count_found k h = let a = and_parts (nat_le 1 k) (nat_le k 8) h in (leb-true 1 k a.0, leb-true k 8 a.1)

  count_again : (k : ℕ) → IsCount k → is_count k ≡ true
  count_again k h = and_from (nat_le 1 k) (nat_le k 8) (le-leb 1 k h.0) (le-leb k 8 h.1)

  -- what a good first line says
  pub record IsGoodFirst (words : List (List ℕ)) (es : List ℕ) : Type 0 where
    pub names : List (List ℕ)
    pub whole : words ≡ codes "processors" ∷ names
    pub count : IsCount (length names)
    pub entries : AreEntries functions names es

  counted_found : (names : List (List ℕ)) (es : List ℕ) → counted_entries functions names ≡ Ok es → IsCount (length names) × AreEntries functions names es
  counted_found names es e =
      elim (cases_Bool (is_count (length names))) [
        | inl good ↦
            let r = entries_found [] names es (rw good at e) in
            (count_found (length names) good, subst (λ (x : List ℕ). AreEntries functions names x) (sym r.1) r.2)
        | inr bad ↦ let k = rw bad at e in absurd (apart es ProcessorRange (sym k))
      ]

  pub first_found : (words : List (List ℕ)) (es : List ℕ) → first_of functions words ≡ Ok es → IsGoodFirst words es
  first_found [] es e = absurd (apart es Syntax (sym e))
  first_found (w ∷ ws) es e =
      elim (cases_Bool (is_first_line (w ∷ ws))) [
        | inl good ↦
            let r = counted_found ws es (rw good at e) in
            record { names = ws; whole = (line_found w ws good).whole; count = r.0; entries = r.1 }
        | inr bad ↦ let k = rw bad at e in absurd (apart es Syntax (sym k))
      ]

  -- a line that is the first may be read by its names
  first_at : (words names : List (List ℕ)) → IsFirstLine words names → first_of functions words ≡ counted_entries functions names
  first_at words names h = ap (first_of functions) h.whole ∙ rw (line_again names h.tokens) refl

  counted_at : (names : List (List ℕ)) → IsCount (length names) → counted_entries functions names ≡ entries_from functions [] names
  counted_at names h = rw (count_again (length names) h) refl

  module _ (differ : AllPairs (λ x y. x ≢ y) functions) where
    entries_again : (before : List ℕ) (ws : List (List ℕ)) (more : List ℕ) → AreEntries functions ws more → entries_from functions before ws ≡ Ok (before ++ more)
    entries_again before [] [] h = ap (λ (x : List ℕ). Ok x) (sym (append-nil before))
    entries_again before [] (f ∷ fs) h = absurd h
    entries_again before (w ∷ ws) [] h = absurd h
    entries_again before (w ∷ ws) (f ∷ fs) h =
        ap (λ o. or_cause UnknownEntry o (λ (g : ℕ). entries_from functions (before ++ g ∷ []) ws)) (entry_again differ w f h.0)
        ∙ entries_again (before ++ f ∷ []) ws fs h.1
        ∙ ap (λ (x : List ℕ). Ok x) (append_assoc before (f ∷ []) fs)

    pub first_again : (words : List (List ℕ)) (es : List ℕ) → IsGoodFirst words es → first_of functions words ≡ Ok es
    first_again words es h =
        first_at words h.names (record { whole = h.whole; tokens = tokens_of h.names es h.entries })
        ∙ counted_at h.names h.count
        ∙ entries_again [] h.names es h.entries

    -- ---- its causes

    counted_stop : (names : List (List ℕ)) (c : Cause) → counted_entries functions names ≡ Err c → ((c ≡ ProcessorRange) × (IsCount (length names) → ⊥)) ⊎ ((c ≡ UnknownEntry) × IsCount (length names) × ((es : List ℕ) → AreEntries functions names es → ⊥))
    counted_stop names c e =
        elim (cases_Bool (is_count (length names))) [
          | inl good ↦
              let k : entries_from functions [] names ≡ Err c = rw good at e in
              inr (entries_stop [] names c k, count_found (length names) good, λ (es : List ℕ) (h : AreEntries functions names es). apart es c (sym (entries_again [] names es h) ∙ k))
          | inr bad ↦
              let k = rw bad at e in
              inl (sym (same_Err ProcessorRange c k), λ (h : IsCount (length names)). absurd (let t = count_again (length names) h in cc))
        ]

    cause_of_names : (words names : List (List ℕ)) (c : Cause) → IsFirstLine words names → ((c ≡ ProcessorRange) × (IsCount (length names) → ⊥)) ⊎ ((c ≡ UnknownEntry) × IsCount (length names) × ((es : List ℕ) → AreEntries functions names es → ⊥)) → IsFirstCause functions words c
    cause_of_names words names c line (inl h) = subst (IsFirstCause functions words) (sym h.0) (names, line, h.1)
    cause_of_names words names c line (inr h) = subst (IsFirstCause functions words) (sym h.0) (names, line, h.1, h.2)

    tail_same : (w : List ℕ) (ws names : List (List ℕ)) → w ∷ ws ≡ codes "processors" ∷ names → (w ≡ codes "processors") × (ws ≡ names)
    tail_same w ws names e = (cc, cc)

    no_line : (w : List ℕ) (ws names : List (List ℕ)) → is_first_line (w ∷ ws) ≡ false → IsFirstLine (w ∷ ws) names → ⊥
    no_line w ws names bad h =
        let t : is_first_line (w ∷ ws) ≡ true = ap is_first_line h.whole ∙ line_again names h.tokens in cc

    pub first_stop : (words : List (List ℕ)) (c : Cause) → first_of functions words ≡ Err c → IsFirstCause functions words c
    first_stop [] c e = subst (IsFirstCause functions []) (same_Err Syntax c e) (λ (names : List (List ℕ)) (h : IsFirstLine [] names). let k = h.whole in cc)
    first_stop (w ∷ ws) c e =
        elim (cases_Bool (is_first_line (w ∷ ws))) [
          | inl good ↦ cause_of_names (w ∷ ws) ws c (line_found w ws good) (counted_stop ws c (rw good at e))
          | inr bad ↦ subst (IsFirstCause functions (w ∷ ws)) (same_Err Syntax c (rw bad at e)) (λ (names : List (List ℕ)) (h : IsFirstLine (w ∷ ws) names). no_line w ws names bad h)
        ]

    unknown_again : (names : List (List ℕ)) → ((es : List ℕ) → AreEntries functions names es → ⊥) → (r : Result (List ℕ) Cause) → entries_from functions [] names ≡ r → r ≡ Err UnknownEntry
    unknown_again names h (Ok es) e = let f = entries_found [] names es e in absurd (h f.0 f.2)
    unknown_again names h (Err c) e = ap (λ (d : Cause). Err d) (entries_stop [] names c e)

    pub stop_again : (words : List (List ℕ)) (c : Cause) → IsFirstCause functions words c → first_of functions words ≡ Err c
    stop_again [] Syntax h = refl
    stop_again (w ∷ ws) Syntax h =
        elim (cases_Bool (is_first_line (w ∷ ws))) [
          | inl good ↦ absurd (h ws (line_found w ws good))
          | inr bad ↦ rw bad refl
        ]
    stop_again words ProcessorRange h =
        first_at words h.0 h.1 ∙ elim (cases_Bool (is_count (length h.0))) [
          | inl good ↦ absurd (h.2 (count_found (length h.0) good))
          | inr bad ↦ rw bad refl
        ]
    stop_again words UnknownEntry h =
        first_at words h.0 h.1 ∙ counted_at h.0 h.2 ∙ unknown_again h.0 h.3 (entries_from functions [] h.0) refl
    stop_again words UnknownObject h = absurd h
    stop_again words TooMany h = absurd h
