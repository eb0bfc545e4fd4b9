-- Code that is appended part by part.
use Rattle.std.proofs.Common.{◌≡◌, ℕ, ◌+◌, List, [], ◌∷◌, ◌++◌, drop, Result, Ok, Err, refl, sym, ap, ◌∙◌, append_assoc, append-nil}
use Rattle.std.specs.Prelude.{OnOk}
use Rattle.std.proofs.lemmas.List.{map-append}
use Rattle.ax_tags.specs.declared.tags.Tag.{Tag}
use Rattle.ax_tags.specs.declared.tags.Tag.TheVariants.{Act, Silent}
use Rattle.ax_mid.specs.declared.registers.Virtual.{Virtual}
use Rattle.ax_rv.specs.declared.instructions.RvInstr.{RvInstr}
use Rattle.ax_emit.specs.Atomics.{gets_all, puts_all}
use Rattle.ax_emit.specs.Table.{put}
use Rattle.ax_expand.specs.Standing.{silently}
use Rattle.ax_emit_rv.specs.Code.{computed, homes_from}
use Rattle.ax_emit_rv.specs.Emitters.{slot_of}
use Rattle.ax_emit_rv.specs.Slots.{get, put_first, put_last, rv_table}

module _ {A : Type 0} where
  -- one part, and then another
  pub both : (xs ys a b c : List A) → b ≡ a ++ xs → c ≡ b ++ ys → c ≡ a ++ (xs ++ ys)
  both xs ys a b c first second = second ∙ (ap (λ zs. zs ++ ys) first ∙ append_assoc a xs ys)

  -- the last part, if there is memory for it
  pub then : {B E : Type 0} (r : Result B E) (xs ys zs a b c : List A) → b ≡ a ++ xs → OnOk r (c ≡ b ++ ys) → xs ++ ys ≡ zs → OnOk r (c ≡ a ++ zs)
  then (Ok x) xs ys zs a b c first second same = both xs ys a b c first second ∙ ap (λ ws. a ++ ws) same
  then (Err e) xs ys zs a b c first second same = tt

pub silent_both : (is js : List RvInstr) → silently is ++ silently js ≡ silently (is ++ js)
silent_both is js = sym (map-append (λ (i : RvInstr). (i, Silent)) is js)

-- two parts without an event
pub both_silent : (is js : List RvInstr) (a b c : List (RvInstr × Tag)) → b ≡ a ++ silently is → c ≡ b ++ silently js → c ≡ a ++ silently (is ++ js)
both_silent is js a b c first second = both (silently is) (silently js) a b c first second ∙ ap (λ zs. a ++ zs) (silent_both is js)

-- the number of register 7 then goes to its slot
pub computed_is : (to : Virtual) (is : List RvInstr) (a b c : List (RvInstr × Tag)) → b ≡ a ++ silently is → c ≡ b ++ (silently (put_first to.0 7) ++ (put_last to.0 7, Act) ∷ []) → c ≡ a ++ computed slot_of to is
computed_is to is a b c first second =
    let p : List (RvInstr × Tag) = silently (put_first to.0 7) in
    let last : List (RvInstr × Tag) = (put_last to.0 7, Act) ∷ [] in
    both (silently is) (p ++ last) a b c first second ∙ ap (λ zs. a ++ zs) (sym (append_assoc (silently is) p last) ∙ ap (λ zs. zs ++ last) (silent_both is (put_first to.0 7)))

-- code between parts without an event
pub wrapped : (is js : List RvInstr) (code a b c d : List (RvInstr × Tag)) → b ≡ a ++ silently is → c ≡ b ++ code → d ≡ c ++ silently js → d ≡ a ++ (silently is ++ (code ++ silently js))
wrapped is js code a b c d first second third =
    both (silently is ++ code) (silently js) a c d (both (silently is) code a b c first second) third ∙ ap (λ zs. a ++ zs) (append_assoc (silently is) code (silently js))

-- code for one register, as code for a list of one
pub one_silent : (is : List RvInstr) (a b : List (RvInstr × Tag)) → b ≡ a ++ silently is → b ≡ a ++ silently (is ++ [])
one_silent is a b e = e ∙ ap (λ (js : List RvInstr). a ++ silently js) (sym (append-nil is))

-- ---- one register more
pub gets_more : (rd i : ℕ) (from : List Virtual) (r : Virtual) (code next whole : List (RvInstr × Tag)) → drop i from ≡ r ∷ drop (i + 1) from → next ≡ code ++ silently (get rd (slot_of r)) → code ++ silently (gets_all rv_table (homes_from slot_of rd (drop i from))) ≡ whole
    → next ++ silently (gets_all rv_table (homes_from slot_of (rd + 1) (drop (i + 1) from))) ≡ whole
gets_more rd i from r code next whole front made h =
    let rest : List RvInstr = gets_all rv_table (homes_from slot_of (rd + 1) (drop (i + 1) from)) in
    both_silent (get rd (slot_of r)) rest code next (next ++ silently rest) made refl ∙ ap (λ (rs : List Virtual). code ++ silently (gets_all rv_table (homes_from slot_of rd rs))) (sym front) ∙ h

pub puts_more : (rs i : ℕ) (to : List Virtual) (r : Virtual) (code next whole : List (RvInstr × Tag)) → drop i to ≡ r ∷ drop (i + 1) to → next ≡ code ++ silently (put rv_table (slot_of r) rs) → code ++ silently (puts_all rv_table (homes_from slot_of rs (drop i to))) ≡ whole
    → next ++ silently (puts_all rv_table (homes_from slot_of (rs + 1) (drop (i + 1) to))) ≡ whole
puts_more rs i to r code next whole front made h =
    let rest : List RvInstr = puts_all rv_table (homes_from slot_of (rs + 1) (drop (i + 1) to)) in
    both_silent (put rv_table (slot_of r) rs) rest code next (next ++ silently rest) made refl ∙ ap (λ (qs : List Virtual). code ++ silently (puts_all rv_table (homes_from slot_of rs qs))) (sym front) ∙ h
