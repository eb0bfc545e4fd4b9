-- What lists of items parted by commas make of canonical tokens.
use Rattle.std.proofs.Common.{◌≡◌, ℕ, Bool, true, false, cond, ◌&&◌, List, [], ◌∷◌, ◌++◌, flat_map, Some, None, refl, ap, subst, ◌∙◌, codes, nat_lt, append_assoc}
use Rattle.std.specs.List.{list_all}
use Rattle.std.proofs.lemmas.Bool.{and_parts}
use Rattle.std.proofs.lemmas.List.{append-nil}
use Rattle.ax_module.specs.declared.types.Ty.{Ty}
use Rattle.ax_module.specs.declared.operand.Operand.{Operand}
use Rattle.ax_module.specs.declared.inst.Inst.TheVariants as inst
use Rattle.ax_ir.specs.OperandTokens.{parted}
use Rattle.ax_ir.specs.InstTokens.{entry_tokens, inst_tokens}
use Rattle.ax_module.specs.WellFormed.{NameCounts, is_type, is_operand, is_entry, is_nonempty, is_inst}
use Rattle.ax_module.specs.Ranges.{is_in_range, is_inst_in_range}
use Rattle.ax_symbols.specs.declared.symbol.Sign.{Sign}
use Rattle.ax_symbols.specs.declared.symbol.Sign.TheVariants as sign
use Rattle.ax_symbols.specs.declared.symbol.Punctuation.TheVariants as mark
use Rattle.ax_symbols.specs.declared.symbol.NameSpan.{NameSpan}
use Rattle.ax_symbols.specs.declared.symbol.Symbol.{Symbol}
use Rattle.ax_symbols.specs.declared.values.Value.{Value}
use Rattle.ax_lines.specs.declared.statement.Statement.{Statement}
use Rattle.ax_symbols.specs.Signs.{same_sign, same_mark}
use Rattle.ax_symbols.specs.Symbols.{word_of}
use Rattle.ax_symbols.specs.Pieces.{strip}
use Rattle.ax_symbols.specs.Grammar.{Grammar, list, comma, Listed, last, more, Derives}
use Rattle.ax_lines.specs.Productions.{incoming, phi}
use Rattle.ax_scope.specs.Resolve.{Looks, operand_of, block_of, incoming_of, inst_of}
use Rattle.ax_again.proofs.Eats.{SpelledAll, nth_sign, Eats, ◌>>=◌, ◌>>◌, eaten, sign1}
use Rattle.ax_again.proofs.EatPieces.{Known, type_eats, value_eats, block_eats}

-- each value stands for the item at its place
abbrev pub Each2 : {A B : Type 0} → (B → A → Type 0) → List B → List A → Type 0
Each2 P [] [] = Unit {0}
Each2 P [] (a ∷ as') = ⊥
Each2 P (b ∷ bs) [] = ⊥
Each2 P (b ∷ bs) (a ∷ as') = P b a × Each2 P bs as'

no_comma : (text : List ℕ) (ss : List Symbol) (us : List (List ℕ)) → SpelledAll text ss us → same_sign (nth_sign us 0) (sign.Mark mark.Comma) ≡ false → strip comma ss ≡ None
no_comma text [] us h e = refl
no_comma text (s ∷ ss) [] h e = absurd h
no_comma text (s ∷ ss) (u ∷ us) h e = ap (λ (a : Sign). cond (same_sign a (sign.Mark mark.Comma)) (Some ss) None) (h.0).sign ∙ ap (λ (b : Bool). cond b (Some ss) None) e

a_comma : (text : List ℕ) (ss : List Symbol) (us : List (List ℕ)) → SpelledAll text ss (codes "," ∷ us) → (next : List Symbol) × (strip comma ss ≡ Some next) × SpelledAll text next us
unfolding same_mark
a_comma text [] us h = absurd h
a_comma text (s ∷ ss) us h = (ss, ap (λ (a : Sign). cond (same_sign a (sign.Mark mark.Comma)) (Some ss) None) (h.0).sign, h.1)

module _ {A B : Type 0} (text : List ℕ) (item : Grammar A) (f : B → List (List ℕ)) (test : B → Bool) (P : B → A → Type 0) (each : (b : B) (us : List (List ℕ)) → test b ≡ true → Eats text item (f b ++ us) us (P b)) where
  abbrev later : List B → List (List ℕ)
  later xs = flat_map (λ y. codes "," ∷ f y) xs

  listed_of : (us : List (List ℕ)) → same_sign (nth_sign us 0) (sign.Mark mark.Comma) ≡ false → (x : B) (xs : List B) → test x ≡ true → list_all test xs ≡ true → (ss : List Symbol) → SpelledAll text ss (f x ++ (later xs ++ us))
      → (vs : List A) × (rest : List Symbol) × Listed (Derives item) ss vs rest × SpelledAll text rest us × Each2 P (x ∷ xs) vs
  listed_of us e x [] h g ss s =
      let y = (each x us h).holds ss s in
      (y.0 ∷ [], y.1, last y.2 (no_comma text y.1 us y.3 e), y.3, (y.4, tt))
  listed_of us e x (z ∷ xs) h g ss s =
      let t = and_parts (test z) (list_all test xs) g in
      let y = (each x (codes "," ∷ (f z ++ (later xs ++ us))) h).holds ss (subst (λ (ts : List (List ℕ)). SpelledAll text ss (f x ++ (codes "," ∷ ts))) (append_assoc (f z) (later xs) us) s) in
      let n = a_comma text y.1 (f z ++ (later xs ++ us)) y.3 in
      let w = listed_of us e z xs t.0 t.1 n.0 n.2 in
      (y.0 ∷ w.0, w.1, more y.2 n.1 w.2, w.3, (y.4, w.4))

  pub list_eats : (us : List (List ℕ)) → same_sign (nth_sign us 0) (sign.Mark mark.Comma) ≡ false → (xs : List B) → is_nonempty xs ≡ true → list_all test xs ≡ true → Eats text (list item) (parted f xs ++ us) us (Each2 P xs)
  list_eats us e [] n g = absurd cc
  list_eats us e (x ∷ xs) n g =
      let t = and_parts (test x) (list_all test xs) g in
      record { holds = λ ss h. listed_of us e x xs t.0 t.1 ss (subst (SpelledAll text ss) (append_assoc (f x) (later xs) us) h) }

module _ {scope : NameCounts} {x : Looks} {tokens : List (List ℕ)} (known : Known scope x tokens) where
  abbrev EntryIs : Operand × ℕ → Value × NameSpan → Type 0
  EntryIs e p = (operand_of x p.0 ≡ Some e.0) × (block_of x p.1 ≡ Some e.1)

  abbrev entry_test : Operand × ℕ → Bool
  entry_test e = is_entry scope e && is_in_range e.0

  entry_eats : (e : Operand × ℕ) (us : List (List ℕ)) → entry_test e ≡ true → Eats x.text incoming (entry_tokens e ++ us) us (EntryIs e)
  unfolding incoming entry_tokens word_of
  entry_eats e us h =
      let a = and_parts (is_entry scope e) (is_in_range e.0) h in
      let b = and_parts (is_operand scope e.0) (nat_lt e.1 scope.blocks) a.0 in
      do
        sign1 refl
        v ← value_eats known e.0 b.0 a.1
        sign1 refl
        k ← block_eats known e.1 b.1
        sign1 refl
        eaten (v.1, k.1)

  incoming_is : (es : List (Operand × ℕ)) (ps : List (Value × NameSpan)) → Each2 EntryIs es ps → incoming_of x ps ≡ Some es
  incoming_is [] [] h = refl
  incoming_is [] (p ∷ ps) h = absurd h
  incoming_is (e ∷ es) [] h = absurd h
  incoming_is (e ∷ es) (p ∷ ps) h = rw (h.0.0, h.0.1, incoming_is es ps h.1) refl

  tests_join : (es : List (Operand × ℕ)) → list_all (is_entry scope) es ≡ true → list_all (λ (e : Operand × ℕ). is_in_range e.0) es ≡ true → list_all entry_test es ≡ true
  tests_join [] h g = refl
  tests_join (e ∷ es) h g =
      let a = and_parts (is_entry scope e) (list_all (is_entry scope) es) h in
      let b = and_parts (is_in_range e.0) (list_all (λ (e : Operand × ℕ). is_in_range e.0) es) g in
      rw (a.0, b.0, tests_join es a.1 b.1) refl

  pub phi_eats : (t : Ty) (es : List (Operand × ℕ)) → is_inst scope (inst.Phi t es) ≡ true → is_inst_in_range (inst.Phi t es) ≡ true → Eats x.text phi (inst_tokens tokens (inst.Phi t es)) [] (λ (s : Statement). inst_of x s ≡ Some (inst.Phi t es))
  unfolding phi inst_tokens inst_of is_inst is_inst_in_range word_of
  phi_eats t es h r =
      let a = and_parts (is_type t && is_nonempty es) (list_all (is_entry scope) es) h in
      let b = and_parts (is_type t) (is_nonempty es) a.0 in
      do
        sign1 refl
        k ← type_eats t b.0
        ps ← subst (λ (ts : List (List ℕ)). Eats x.text (list incoming) ts [] (Each2 EntryIs es)) (append-nil (parted entry_tokens es)) (list_eats x.text incoming entry_tokens entry_test EntryIs entry_eats [] refl es b.1 (tests_join es a.1 r))
        eaten (rw (k.1, incoming_is es ps.0 ps.1) refl)
