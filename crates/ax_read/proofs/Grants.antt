-- What a piece of a line grants of its value, where each symbol of the line is sound.
use Rattle.std.proofs.Common.{◌≡◌, ℕ, zero, suc, pred, ◌^◌, Bool, true, false, cond, List, [], ◌∷◌, ◌++◌, Option, Some, None, refl, sym, ap, subst, ◌∙◌, inl, inr, nat_lt, ◌==◌, codes}
use Rattle.std.specs.Option.{option_map}
use Rattle.std.proofs.lemmas.Option.{same_Some}
use Rattle.ax_module.specs.declared.types.Ty.{Ty}
use Rattle.ax_module.specs.declared.types.Ty.TheVariants as ty
use Rattle.ax_module.specs.Types.{whole_number_type}
use Rattle.ax_module.specs.Names.{is_name}
use Rattle.ax_module.specs.WellFormed.{begins_with, is_type, is_nonempty}
use Rattle.ax_symbols.specs.declared.symbol.Sign.{Sign}
use Rattle.ax_symbols.specs.declared.symbol.Sign.TheVariants as sign
use Rattle.ax_symbols.specs.declared.vocabulary.Word.TheVariants as word
use Rattle.ax_symbols.specs.declared.symbol.Symbol.{Symbol}
use Rattle.ax_symbols.specs.declared.pass.Pass.{Pass}
use Rattle.ax_symbols.specs.Pieces.{strip, one_at, sign_at, item_len, is_nought, behind_items, simple_type, simple_type_of, closed, is_greater, opens_vector, type_at}
use Rattle.ax_symbols.specs.Grammar.{Grammar, gives, then, signs, one, passed, typed, when, option, by, list, tail, ends, whole, none, comma, Listed, last, more, Derives}
use Rattle.ax_symbols.proofs.Exact.{strip_splits}
use Rattle.ax_scope.specs.Names.{text_at}

abbrev pub Each : {A : Type 0} → (A → Type 0) → List A → Type 0
Each P [] = Unit {0}
Each P (x ∷ xs) = P x × Each P xs

pub each_behind : {A : Type 0} (P : A → Type 0) (front rest : List A) → Each P (front ++ rest) → Each P rest
each_behind P [] rest h = h
each_behind P (x ∷ front) rest h = each_behind P front rest h.1

pub each_append : {A : Type 0} (P : A → Type 0) (xs ys : List A) → Each P xs → Each P ys → Each P (xs ++ ys)
each_append P [] ys h g = g
each_append P (x ∷ xs) ys h g = (h.0, each_append P xs ys h.1 g)

-- what holds of a sign with a name
abbrev pub SoundSign : List ℕ → Sign → Type 0
SoundSign name (sign.Int n) = nat_lt n (10 ^ 8) ≡ true
SoundSign name (sign.Number negative n) = nat_lt n (2 ^ 128) ≡ true
SoundSign name sign.Global = (is_name name ≡ true) × (begins_with (codes "llvm.") name ≡ false) × (begins_with (codes "llvm.lifetime.") name ≡ false)
SoundSign name sign.Intrinsic = (is_name name ≡ true) × (begins_with (codes "llvm.lifetime.") name ≡ false)
SoundSign name sign.Lifetime = is_name name ≡ true
SoundSign name _ = Unit {0}

abbrev pub IsSound : List ℕ → Symbol → Type 0
IsSound text s = SoundSign (text_at text s.name) s.sign

pub record Grants (text : List ℕ) {V : Type 0} (g : Grammar V) (Q : V → Type 0) : Type 0 where
  pub holds : (line rest : List Symbol) (v : V) → Each (IsSound text) line → Derives g line v rest → Q v × Each (IsSound text) rest

-- ---- types

some_pair : {A : Type 0} (a b : A) (x y : List Symbol) → ◌≡◌ {A = Option (A × List Symbol)} (Some (a, x)) (Some (b, y)) → (a ≡ b) × (x ≡ y)
some_pair {A} a b x y e =
    let p = same_Some (a, x) (b, y) e in
    (ap (λ (z : A × List Symbol). z.0) p, ap (λ (z : A × List Symbol). z.1) p)

width_fits : (n : ℕ) → nat_lt n (10 ^ 8) ≡ true → is_type (whole_number_type n) ≡ true
width_fits n h = by (n == 1) (n == 8) (n == 16) (n == 32) (n == 64) (n == 128) refl refl refl refl refl refl
  where
    by : (a b c d e f : Bool) → n == 1 ≡ a → n == 8 ≡ b → n == 16 ≡ c → n == 32 ≡ d → n == 64 ≡ e → n == 128 ≡ f
        → is_type (cond a ty.I1 (cond b ty.I8 (cond c ty.I16 (cond d ty.I32 (cond e ty.I64 (cond f ty.I128 (ty.Int n))))))) ≡ true
    by true b c d e f ia ib ic id ie ig = refl
    by false true c d e f ia ib ic id ie ig = refl
    by false false true d e f ia ib ic id ie ig = refl
    by false false false true e f ia ib ic id ie ig = refl
    by false false false false true f ia ib ic id ie ig = refl
    by false false false false false true ia ib ic id ie ig = refl
    by false false false false false false ia ib ic id ie ig = rw (h, ia, ib, ic, id, ie, ig) refl

simple_fits : (name : List ℕ) (s : Sign) (t : Ty) → SoundSign name s → simple_type s ≡ Some t → is_type t ≡ true
simple_fits name (sign.Int n) t ok e = subst (λ (u : Ty). is_type u ≡ true) (same_Some (whole_number_type n) t e) (width_fits n ok)
simple_fits name (sign.Word word.Float) t ok e = subst (λ (u : Ty). is_type u ≡ true) (same_Some ty.Float t e) refl
simple_fits name (sign.Word word.Double) t ok e = subst (λ (u : Ty). is_type u ≡ true) (same_Some ty.Double t e) refl
simple_fits name (sign.Word word.Ptr) t ok e = subst (λ (u : Ty). is_type u ≡ true) (same_Some ty.Ptr t e) refl
simple_fits name _ t ok e = absurd cc

module _ (text : List ℕ) where
  items_sound : (k : Pass) (n : ℕ) (line : List Symbol) → Each (IsSound text) line → Each (IsSound text) (behind_items k n line)
  items_sound k n [] ok = tt
  items_sound k (suc n) (s ∷ rest) ok = items_sound k n rest ok.1
  items_sound k zero (s ∷ rest) ok = by (is_nought (item_len k (s ∷ rest))) (items_sound k (pred (item_len k (s ∷ rest))) rest ok.1)
    where
      by : (t : Bool) → Each (IsSound text) (behind_items k (pred (item_len k (s ∷ rest))) rest) → Each (IsSound text) (cond t (s ∷ rest) (behind_items k (pred (item_len k (s ∷ rest))) rest))
      by true h = ok
      by false h = h

  strip_sound : (line next : List Symbol) → Each (IsSound text) line → strip comma line ≡ Some next → Each (IsSound text) next
  strip_sound line next ok e =
      let s = strip_splits comma line next e in
      each_behind (IsSound text) s.front next (subst (Each (IsSound text)) s.whole ok)

  one_type : (line rest : List Symbol) (t : Ty) → Each (IsSound text) line → one_at simple_type_of line ≡ Some (t, rest) → (is_type t ≡ true) × Each (IsSound text) rest
  one_type [] rest t ok e = absurd cc
  one_type (s ∷ line) rest t ok e = by (simple_type s.sign) refl e
    where
      by : (o : Option Ty) → simple_type s.sign ≡ o → option_map {U = Ty × List Symbol} (λ a. (a, line)) o ≡ Some (t, rest) → (is_type t ≡ true) × Each (IsSound text) rest
      by None is e = absurd cc
      by (Some u) is e =
          let p = some_pair u t line rest e in
          (simple_fits (text_at text s.name) s.sign t ok.0 (is ∙ ap (λ (x : Ty). Some x) p.0), subst (Each (IsSound text)) p.1 ok.1)

  closed_type : (o : Option (Ty × List Symbol)) (rest : List Symbol) (t : Ty) → ((u : Ty) (r : List Symbol) → o ≡ Some (u, r) → Each (IsSound text) r) → closed o ≡ Some (t, rest) → (is_type t ≡ true) × Each (IsSound text) rest
  closed_type None rest t f e = absurd cc
  closed_type (Some (u, [])) rest t f e = absurd cc
  closed_type (Some (u, s ∷ r)) rest t f e = by (is_greater s.sign) e
    where
      by : (g : Bool) → cond {A = Option (Ty × List Symbol)} g (Some (ty.Vector, r)) None ≡ Some (t, rest) → (is_type t ≡ true) × Each (IsSound text) rest
      by true e =
          let p = some_pair ty.Vector t r rest e in
          (subst (λ (x : Ty). is_type x ≡ true) p.0 refl, subst (Each (IsSound text)) p.1 (f u (s ∷ r) refl).1)
      by false e = absurd cc

  pub type_sound : (line rest : List Symbol) (t : Ty) → Each (IsSound text) line → type_at line ≡ Some (t, rest) → (is_type t ≡ true) × Each (IsSound text) rest
  type_sound [] rest t ok e = one_type [] rest t ok e
  type_sound (a ∷ []) rest t ok e = one_type (a ∷ []) rest t ok e
  type_sound (a ∷ b ∷ []) rest t ok e = one_type (a ∷ b ∷ []) rest t ok e
  type_sound (a ∷ b ∷ c ∷ line) rest t ok e = by (opens_vector a.sign b.sign c.sign) (λ r u is. (type_sound line r u ok.1.1.1 is).1) e
    where
      by : (v : Bool) → ((r : List Symbol) (u : Ty) → type_at line ≡ Some (u, r) → Each (IsSound text) r) → cond v (closed (type_at line)) (one_at simple_type_of (a ∷ b ∷ c ∷ line)) ≡ Some (t, rest) → (is_type t ≡ true) × Each (IsSound text) rest
      by true known e = closed_type (type_at line) rest t (λ u r is. known r u is) e
      by false known e = one_type (a ∷ b ∷ c ∷ line) rest t ok e

module _ {text : List ℕ} where
  infixl 10 ◌>>=◌
  pub ◌>>=◌ : {A V : Type 0} {p : Grammar A} {g : A → Grammar V} {Q : A → Type 0} {R : V → Type 0} → Grants text p Q → ((x : (a : A) × Q a) → Grants text (g x.0) R) → Grants text (then p g) R
  a >>= b = record { holds = λ line rest v ok d. let x = a.holds line d.1 d.0 ok d.2 in (b (d.0, x.0)).holds d.1 rest v x.1 d.3 }

  infixl 10 ◌>>◌
  pub ◌>>◌ : {A V : Type 0} {p : Grammar A} {g : Grammar V} {Q : A → Type 0} {R : V → Type 0} → Grants text p Q → Grants text g R → Grants text (then p (λ _. g)) R
  a >> b = record { holds = λ line rest v ok d. let x = a.holds line d.1 d.0 ok d.2 in b.holds d.1 rest v x.1 d.3 }

  pub granted : {V : Type 0} {x : V} {Q : V → Type 0} → Q x → Grants text (gives x) Q
  granted {Q = Q} q = record { holds = λ line rest v ok d. (subst Q (sym d.1) q, subst (Each (IsSound text)) d.0 ok) }

  pub signs_pass : {ss : List Sign} → Grants text (signs ss) (λ _. Unit {0})
  signs_pass = record { holds = λ line rest v ok d. (tt, each_behind (IsSound text) d.front rest (subst (Each (IsSound text)) d.whole ok)) }

  pub one_is : {A : Type 0} {of : Symbol → Option A} {Q : A → Type 0} → ((s : Symbol) (a : A) → IsSound text s → of s ≡ Some a → Q a) → Grants text (one of) Q
  one_is f = record { holds = λ line rest v ok d. let x = subst (Each (IsSound text)) d.1 ok in (f d.0 v x.0 d.2, x.1) }

  pub one_pass : {A : Type 0} {of : Symbol → Option A} → Grants text (one of) (λ _. Unit {0})
  one_pass = one_is (λ s a ok e. tt)

  pub passed_pass : {k : Pass} → Grants text (passed k) (λ _. Unit {0})
  passed_pass {k = k} = record { holds = λ line rest v ok d. (tt, subst (Each (IsSound text)) (sym d) (items_sound text k 0 line ok)) }

  pub when_holds : {b : Bool} → Grants text (when b) (λ _. b ≡ true)
  when_holds = record { holds = λ line rest v ok d. (d.0, subst (Each (IsSound text)) d.1 ok) }

  option_of : {V : Type 0} (ss : List Sign) (g h : Grammar V) (Q : V → Type 0) → Grants text g Q → Grants text h Q → (line rest : List Symbol) (v : V) → Each (IsSound text) line → Derives (option ss g h) line v rest → Q v × Each (IsSound text) rest
  option_of ss g h Q a b line rest v ok (inl d) = a.holds d.0 rest v (each_behind (IsSound text) (d.1).front d.0 (subst (Each (IsSound text)) (d.1).whole ok)) d.2
  option_of ss g h Q a b line rest v ok (inr d) = b.holds line rest v ok d.1

  pub option_is : {V : Type 0} {ss : List Sign} {g h : Grammar V} {Q : V → Type 0} → Grants text g Q → Grants text h Q → Grants text (option ss g h) Q
  option_is {ss = ss} {g = g} {h = h} {Q = Q} a b = record { holds = option_of ss g h Q a b }

  pub by_is : {V : Type 0} {g : Sign → Sign → Grammar V} {Q : V → Type 0} → ((a b : Sign) → Grants text (g a b) Q) → Grants text (by g) Q
  by_is f = record { holds = λ line rest v ok d. (f (sign_at line 0) (sign_at line 1)).holds line rest v ok d }

  pub tail_pass : Grants text tail (λ _. Unit {0})
  tail_pass = record { holds = λ line rest v ok d. (tt, subst (Each (IsSound text)) (sym d.1) tt) }

  pub ends_pass : Grants text ends (λ _. Unit {0})
  ends_pass = record { holds = λ line rest v ok d. (tt, subst (Each (IsSound text)) (sym d.1) tt) }

  pub whole_pass : Grants text whole (λ _. Unit {0})
  whole_pass = record { holds = λ line rest v ok d. (tt, subst (Each (IsSound text)) (sym d) tt) }

  pub none_is : {V : Type 0} {Q : V → Type 0} → Grants text none Q
  none_is = record { holds = λ line rest v ok d. absurd d }

  listed_of : {A : Type 0} (item : Grammar A) (Q : A → Type 0) → Grants text item Q → (line rest : List Symbol) (vs : List A) → Each (IsSound text) line → Listed (Derives item) line vs rest → (Each Q vs × (is_nonempty vs ≡ true)) × Each (IsSound text) rest
  listed_of item Q a line rest vs ok (last d e) = let x = a.holds line rest _ ok d in (((x.0, tt), refl), x.1)
  listed_of item Q a line rest vs ok (more {behind = behind} {next = next} d e l) =
      let x = a.holds line behind _ ok d in
      let y = listed_of item Q a next rest _ (strip_sound text behind next x.1 e) l in
      (((x.0, y.0.0), refl), y.1)

  pub list_is : {A : Type 0} {item : Grammar A} {Q : A → Type 0} → Grants text item Q → Grants text (list item) (λ vs. Each Q vs × (is_nonempty vs ≡ true))
  list_is {item = item} {Q = Q} a = record { holds = listed_of item Q a }

  pub typed_is : Grants text typed (λ t. is_type t ≡ true)
  typed_is = record { holds = λ line rest v ok d. type_sound text line rest v ok d }
