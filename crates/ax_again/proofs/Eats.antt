-- What a grammar makes of a line's tokens, from its first to those that are left.
use Rattle.std.proofs.Common.{◌≡◌, ℕ, zero, suc, Bool, true, false, cond, ◌&&◌, List, [], ◌∷◌, ◌++◌, Option, Some, refl, sym, ap, ap₂, subst, ◌∙◌, inl, inr, true≢false}
use Rattle.ax_symbols.specs.declared.symbol.Sign.{Sign}
use Rattle.ax_symbols.specs.declared.symbol.Sign.TheVariants as sign
use Rattle.ax_symbols.specs.declared.symbol.Symbol.{Symbol}
use Rattle.ax_symbols.specs.declared.pass.Pass.{Pass}
use Rattle.ax_symbols.specs.Symbols.{sign_of, name_of}
use Rattle.ax_symbols.specs.Signs.{same_sign}
use Rattle.ax_symbols.specs.Pieces.{sign_at, is_passed, has_captures, has_alignment, is_captures, is_align, is_dereferenceable, item_len, pass_over}
use Rattle.ax_symbols.specs.Grammar.{Grammar, gives, then, signs, one, passed, when, option, by, tail, ends, signs_of, Splits, Derives}
use Rattle.ax_symbols.proofs.SameSign.{decides_sign}
use Rattle.ax_scope.specs.Names.{text_at}
use Rattle.ax_again.specs.Pieces.{kind_of}

-- the symbol is that of the token
pub record Spelled (text : List ℕ) (s : Symbol) (token : List ℕ) : Type 0 where
  pub sign : s.sign ≡ sign_of (kind_of token) token
  pub name : text_at text s.name ≡ name_of (kind_of token) token

abbrev pub SpelledAll : List ℕ → List Symbol → List (List ℕ) → Type 0
SpelledAll text [] [] = Unit {0}
SpelledAll text [] (t ∷ ts) = ⊥
SpelledAll text (s ∷ ss) [] = ⊥
SpelledAll text (s ∷ ss) (t ∷ ts) = Spelled text s t × SpelledAll text ss ts

-- the sign of a token
abbrev pub token_sign : List ℕ → Sign
token_sign t = sign_of (kind_of t) t

-- the sign of the token at a place, and behind the end the line feed
abbrev pub nth_sign : List (List ℕ) → ℕ → Sign
nth_sign [] n = sign.Feed
nth_sign (t ∷ ts) zero = token_sign t
nth_sign (t ∷ ts) (suc n) = nth_sign ts n

pub record Eats (text : List ℕ) {V : Type 0} (g : Grammar V) (ts us : List (List ℕ)) (Q : V → Type 0) : Type 0 where
  pub holds : (ss : List Symbol) → SpelledAll text ss ts → (v : V) × (rest : List Symbol) × Derives g ss v rest × SpelledAll text rest us × Q v

same_nth : (text : List ℕ) (ss : List Symbol) (ts : List (List ℕ)) → SpelledAll text ss ts → (n : ℕ) → sign_at ss n ≡ nth_sign ts n
same_nth text [] [] h n = refl
same_nth text [] (t ∷ ts) h n = absurd h
same_nth text (s ∷ ss) [] h n = absurd h
same_nth text (s ∷ ss) (t ∷ ts) h zero = (h.0).sign
same_nth text (s ∷ ss) (t ∷ ts) h (suc n) = same_nth text ss ts h.1 n

-- nothing that is passed over begins so
pub record Quiet (k : Pass) (a : Sign) : Type 0 where
  pub passed : is_passed k a ≡ false
  pub captures : is_captures a ≡ false
  pub align : is_align a ≡ false
  pub bytes : is_dereferenceable a ≡ false

quiet_len : (k : Pass) (ss : List Symbol) → Quiet k (sign_at ss 0) → item_len k ss ≡ 0
quiet_len k ss q = rw (q.passed, q.captures, q.align, q.bytes) (last_false (has_captures k) (has_alignment k))
  where
    last_false : (a b : Bool) → cond {A = ℕ} (a && false) 4 (cond {A = ℕ} (b && false) 2 (cond {A = ℕ} (b && false) 4 0)) ≡ 0
    last_false true true = refl
    last_false true false = refl
    last_false false true = refl
    last_false false false = refl

quiet_over : (k : Pass) (ss : List Symbol) → Quiet k (sign_at ss 0) → pass_over k ss ≡ ss
quiet_over k [] q = refl
quiet_over k (s ∷ ss) q = rw (quiet_len k (s ∷ ss) q) refl

no_split : (a : Sign) (ss : List Sign) (xs behind : List Symbol) → same_sign (sign_at xs 0) a ≡ false → Splits (a ∷ ss) xs behind → ⊥
no_split a ss xs behind e s = by s.front s.whole s.as_signs
  where
    by : (front : List Symbol) → xs ≡ front ++ behind → signs_of front ≡ a ∷ ss → ⊥
    by [] w f = absurd cc
    by (t ∷ front) w f = let g : t.sign ≡ a = cc in let h = (decides_sign t.sign a).1 g in true≢false (sym h ∙ ap (λ (ys : List Symbol). same_sign (sign_at ys 0) a) (sym w) ∙ e)

end_of : (text : List ℕ) (xs : List Symbol) → SpelledAll text xs [] → xs ≡ []
end_of text [] h = refl
end_of text (x ∷ xs) h = absurd h

module _ {text : List ℕ} where
  infixl 10 ◌>>=◌
  pub ◌>>=◌ : {A V : Type 0} {p : Grammar A} {g : A → Grammar V} {ts us ws : List (List ℕ)} {Q : A → Type 0} {R : V → Type 0} → Eats text p ts us Q → ((x : (a : A) × Q a) → Eats text (g x.0) us ws R) → Eats text (then p g) ts ws R
  a >>= b = record { holds = λ ss h. let x = a.holds ss h in let y = (b (x.0, x.4)).holds x.1 x.3 in (y.0, y.1, (x.0, x.1, x.2, y.2), y.3, y.4) }

  infixl 10 ◌>>◌
  pub ◌>>◌ : {A V : Type 0} {p : Grammar A} {g : Grammar V} {ts us ws : List (List ℕ)} {Q : A → Type 0} {R : V → Type 0} → Eats text p ts us Q → Eats text g us ws R → Eats text (then p (λ _. g)) ts ws R
  a >> b = record { holds = λ ss h. let x = a.holds ss h in let y = b.holds x.1 x.3 in (y.0, y.1, (x.0, x.1, x.2, y.2), y.3, y.4) }

  pub eaten : {V : Type 0} {x : V} {ts : List (List ℕ)} {Q : V → Type 0} → Q x → Eats text (gives x) ts ts Q
  eaten {x = x} q = record { holds = λ ss h. (x, ss, (refl, refl), h, q) }

  sign_of_one : (a : Sign) (t : List ℕ) (us : List (List ℕ)) → token_sign t ≡ a → (ss : List Symbol) → SpelledAll text ss (t ∷ us) → (v : Unit {0}) × (rest : List Symbol) × Derives (signs (a ∷ [])) ss v rest × SpelledAll text rest us × Unit {0}
  sign_of_one a t us e [] h = absurd h
  sign_of_one a t us e (s ∷ ss) h = (tt, ss, record { front = s ∷ []; whole = refl; as_signs = ap (λ (x : Sign). x ∷ []) ((h.0).sign ∙ e) }, h.1, tt)

  pub sign1 : {a : Sign} {t : List ℕ} {us : List (List ℕ)} → token_sign t ≡ a → Eats text (signs (a ∷ [])) (t ∷ us) us (λ _. Unit {0})
  sign1 {a = a} {t = t} {us = us} e = record { holds = λ ss h. sign_of_one a t us e ss h }

  sign_of_two : (a b : Sign) (t u : List ℕ) (us : List (List ℕ)) → token_sign t ≡ a → token_sign u ≡ b → (ss : List Symbol) → SpelledAll text ss (t ∷ u ∷ us) → (v : Unit {0}) × (rest : List Symbol) × Derives (signs (a ∷ b ∷ [])) ss v rest × SpelledAll text rest us × Unit {0}
  sign_of_two a b t u us e f [] h = absurd h
  sign_of_two a b t u us e f (s ∷ []) h = absurd h.1
  sign_of_two a b t u us e f (s ∷ r ∷ ss) h = (tt, ss, record { front = s ∷ r ∷ []; whole = refl; as_signs = ap₂ (λ (x y : Sign). x ∷ y ∷ []) ((h.0).sign ∙ e) ((h.1.0).sign ∙ f) }, h.1.1, tt)

  pub sign2 : {a b : Sign} {t u : List ℕ} {us : List (List ℕ)} → token_sign t ≡ a → token_sign u ≡ b → Eats text (signs (a ∷ b ∷ [])) (t ∷ u ∷ us) us (λ _. Unit {0})
  sign2 {a = a} {b = b} {t = t} {u = u} {us = us} e f = record { holds = λ ss h. sign_of_two a b t u us e f ss h }

  sign_of_three : (a b c : Sign) (t u v : List ℕ) (us : List (List ℕ)) → token_sign t ≡ a → token_sign u ≡ b → token_sign v ≡ c → (ss : List Symbol) → SpelledAll text ss (t ∷ u ∷ v ∷ us) → (x : Unit {0}) × (rest : List Symbol) × Derives (signs (a ∷ b ∷ c ∷ [])) ss x rest × SpelledAll text rest us × Unit {0}
  sign_of_three a b c t u v us e f g [] h = absurd h
  sign_of_three a b c t u v us e f g (s ∷ []) h = absurd h.1
  sign_of_three a b c t u v us e f g (s ∷ r ∷ []) h = absurd h.1.1
  sign_of_three a b c t u v us e f g (s ∷ r ∷ q ∷ ss) h =
      (tt, ss, record { front = s ∷ r ∷ q ∷ []; whole = refl; as_signs = rw ((h.0).sign ∙ e, (h.1.0).sign ∙ f, (h.1.1.0).sign ∙ g) refl }, h.1.1.1, tt)

  pub sign3 : {a b c : Sign} {t u v : List ℕ} {us : List (List ℕ)} → token_sign t ≡ a → token_sign u ≡ b → token_sign v ≡ c → Eats text (signs (a ∷ b ∷ c ∷ [])) (t ∷ u ∷ v ∷ us) us (λ _. Unit {0})
  sign3 {a = a} {b = b} {c = c} {t = t} {u = u} {v = v} {us = us} e f g = record { holds = λ ss h. sign_of_three a b c t u v us e f g ss h }

  sign_of_four : (a b c d : Sign) (t u v w : List ℕ) (us : List (List ℕ)) → token_sign t ≡ a → token_sign u ≡ b → token_sign v ≡ c → token_sign w ≡ d → (ss : List Symbol) → SpelledAll text ss (t ∷ u ∷ v ∷ w ∷ us)
      → (x : Unit {0}) × (rest : List Symbol) × Derives (signs (a ∷ b ∷ c ∷ d ∷ [])) ss x rest × SpelledAll text rest us × Unit {0}
  sign_of_four a b c d t u v w us e f g k [] h = absurd h
  sign_of_four a b c d t u v w us e f g k (s ∷ []) h = absurd h.1
  sign_of_four a b c d t u v w us e f g k (s ∷ r ∷ []) h = absurd h.1.1
  sign_of_four a b c d t u v w us e f g k (s ∷ r ∷ q ∷ []) h = absurd h.1.1.1
  sign_of_four a b c d t u v w us e f g k (s ∷ r ∷ q ∷ p ∷ ss) h =
      (tt, ss, record { front = s ∷ r ∷ q ∷ p ∷ []; whole = refl; as_signs = rw ((h.0).sign ∙ e, (h.1.0).sign ∙ f, (h.1.1.0).sign ∙ g, (h.1.1.1.0).sign ∙ k) refl }, h.1.1.1.1, tt)

  pub sign4 : {a b c d : Sign} {t u v w : List ℕ} {us : List (List ℕ)} → token_sign t ≡ a → token_sign u ≡ b → token_sign v ≡ c → token_sign w ≡ d → Eats text (signs (a ∷ b ∷ c ∷ d ∷ [])) (t ∷ u ∷ v ∷ w ∷ us) us (λ _. Unit {0})
  sign4 {a = a} {b = b} {c = c} {d = d} {t = t} {u = u} {v = v} {w = w} {us = us} e f g k = record { holds = λ ss h. sign_of_four a b c d t u v w us e f g k ss h }

  one_of : {A : Type 0} (of : Symbol → Option A) (t : List ℕ) (us : List (List ℕ)) (Q : A → Type 0) → ((s : Symbol) → Spelled text s t → (a : A) × (of s ≡ Some a) × Q a)
      → (ss : List Symbol) → SpelledAll text ss (t ∷ us) → (v : A) × (rest : List Symbol) × Derives (one of) ss v rest × SpelledAll text rest us × Q v
  one_of of t us Q f [] h = absurd h
  one_of of t us Q f (s ∷ ss) h = let x = f s h.0 in (x.0, ss, (s, refl, x.1), h.1, x.2)

  pub one_eats : {A : Type 0} {of : Symbol → Option A} {t : List ℕ} {us : List (List ℕ)} {Q : A → Type 0} → ((s : Symbol) → Spelled text s t → (a : A) × (of s ≡ Some a) × Q a) → Eats text (one of) (t ∷ us) us Q
  one_eats {of = of} {t = t} {us = us} {Q = Q} f = record { holds = one_of of t us Q f }

  pub passes : {k : Pass} {ts : List (List ℕ)} → Quiet k (nth_sign ts 0) → Eats text (passed k) ts ts (λ _. Unit {0})
  passes {k = k} {ts = ts} q = record { holds = λ ss h. (tt, ss, sym (quiet_over k ss (subst (Quiet k) (sym (same_nth text ss ts h 0)) q)), h, tt) }

  pub when_true : {b : Bool} {ts : List (List ℕ)} → b ≡ true → Eats text (when b) ts ts (λ _. b ≡ true)
  when_true e = record { holds = λ ss h. (tt, ss, (e, refl), h, e) }

  pub takes : {V : Type 0} {ss : List Sign} {g h : Grammar V} {ts us ws : List (List ℕ)} {Q : V → Type 0} → Eats text (signs ss) ts us (λ _. Unit {0}) → Eats text g us ws Q → Eats text (option ss g h) ts ws Q
  takes a b = record { holds = λ xs h. let x = a.holds xs h in let y = b.holds x.1 x.3 in (y.0, y.1, inl (x.1, x.2, y.2), y.3, y.4) }

  pub skips : {V : Type 0} {a : Sign} {ss : List Sign} {g h : Grammar V} {ts us : List (List ℕ)} {Q : V → Type 0} → same_sign (nth_sign ts 0) a ≡ false → Eats text h ts us Q → Eats text (option (a ∷ ss) g h) ts us Q
  skips {a = a} {ss = ss} {ts = ts} e b = record { holds = λ xs h. let y = b.holds xs h in (y.0, y.1, inr ((λ behind s. no_split a ss xs behind (ap (λ (x : Sign). same_sign x a) (same_nth text xs ts h 0) ∙ e) s), y.2), y.3, y.4) }

  pub by_eats : {V : Type 0} {g : Sign → Sign → Grammar V} {ts us : List (List ℕ)} {Q : V → Type 0} → Eats text (g (nth_sign ts 0) (nth_sign ts 1)) ts us Q → Eats text (by g) ts us Q
  by_eats {g = g} {ts = ts} b = record {
    holds = λ xs h.
        let y = b.holds xs h in
        (y.0, y.1, subst (λ (x : Sign). Derives (g x (sign_at xs 1)) xs y.0 y.1) (sym (same_nth text xs ts h 0)) (subst (λ (x : Sign). Derives (g (nth_sign ts 0) x) xs y.0 y.1) (sym (same_nth text xs ts h 1)) y.2), y.3, y.4);
  }

  pub tail_ends : Eats text tail [] [] (λ _. Unit {0})
  tail_ends = record { holds = λ xs h. let e = end_of text xs h in (tt, [], (subst (λ (ys : List Symbol). Derives tail ys tt []) (sym e) (refl, refl)), tt, tt) }

  pub ends_eats : Eats text ends [] [] (λ _. Unit {0})
  ends_eats = record { holds = λ xs h. let e = end_of text xs h in (tt, [], (e, refl), tt, tt) }
