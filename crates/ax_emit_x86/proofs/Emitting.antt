-- Code that is appended part by part.
use Rattle.std.proofs.Common.{◌≡◌, ℕ, ◌+◌, List, [], ◌∷◌, ◌++◌, drop, Result, Ok, Err, refl, sym, ap, ◌∙◌, append_assoc, subst}
use Rattle.std.specs.Prelude.{OnOk}
use Rattle.std.proofs.lemmas.List.{map-append}
use Rattle.ax_tags.specs.declared.tags.Tag.{Tag}
use Rattle.ax_tags.specs.declared.tags.Tag.TheVariants.{Act, Silent}
use Rattle.ax_mid.specs.declared.registers.Virtual.{Virtual}
use Rattle.ax_x86.specs.declared.instructions.X86Instr.{X86Instr}
use Rattle.ax_emit.specs.Atomics.{gets_all, puts_all}
use Rattle.ax_expand.specs.Standing.{silently}
use Rattle.ax_emit_x86.specs.Code.{computed, home, homes_from}
use Rattle.ax_emit_x86.specs.Emitters.{AreReached, IsReached, slot_of}
use Rattle.ax_emit_x86.specs.Slots.{get, put_last, x86_table}

module _ {A : Type 0} where
  -- one part, and then another
  pub both : (xs ys a b c : List A) → b ≡ a ++ xs → c ≡ b ++ ys → c ≡ a ++ (xs ++ ys)
  both xs ys a b c first second = second ∙ (ap (λ zs. zs ++ ys) first ∙ append_assoc a xs ys)

  -- the last part, if there is memory for it
  pub then : {B E : Type 0} (r : Result B E) (xs ys zs a b c : List A) → b ≡ a ++ xs → OnOk r (c ≡ b ++ ys) → xs ++ ys ≡ zs → OnOk r (c ≡ a ++ zs)
  then (Ok x) xs ys zs a b c first second same = both xs ys a b c first second ∙ ap (λ ws. a ++ ws) same
  then (Err e) xs ys zs a b c first second same = tt

pub silent_both : (is js : List X86Instr) → silently is ++ silently js ≡ silently (is ++ js)
silent_both is js = sym (map-append (λ (i : X86Instr). (i, Silent)) is js)

-- two parts without an event
pub both_silent : (is js : List X86Instr) (a b c : List (X86Instr × Tag)) → b ≡ a ++ silently is → c ≡ b ++ silently js → c ≡ a ++ silently (is ++ js)
both_silent is js a b c first second = both (silently is) (silently js) a b c first second ∙ ap (λ zs. a ++ zs) (silent_both is js)

-- the number of rax then goes to its slot
pub computed_is : (to : Virtual) (is : List X86Instr) (a b c : List (X86Instr × Tag)) → b ≡ a ++ silently is → c ≡ b ++ (put_last to.0 0, Act) ∷ [] → c ≡ a ++ computed slot_of to is
computed_is to is a b c first second = both (silently is) ((put_last to.0 0, Act) ∷ []) a b c first second

-- code between parts without an event
pub wrapped : (is js : List X86Instr) (code a b c d : List (X86Instr × Tag)) → b ≡ a ++ silently is → c ≡ b ++ code → d ≡ c ++ silently js → d ≡ a ++ (silently is ++ (code ++ silently js))
wrapped is js code a b c d first second third =
    both (silently is ++ code) (silently js) a c d (both (silently is) code a b c first second) third ∙ ap (λ zs. a ++ zs) (append_assoc (silently is) code (silently js))

-- ---- one register more
pub gets_more : (k : ℕ) (from : List Virtual) (r : Virtual) (code next whole : List (X86Instr × Tag)) → drop k from ≡ r ∷ drop (k + 1) from → next ≡ code ++ silently (get (home k) (slot_of r)) → code ++ silently (gets_all x86_table (homes_from slot_of k (drop k from))) ≡ whole
    → next ++ silently (gets_all x86_table (homes_from slot_of (k + 1) (drop (k + 1) from))) ≡ whole
gets_more k from r code next whole front made h =
    let rest : List X86Instr = gets_all x86_table (homes_from slot_of (k + 1) (drop (k + 1) from)) in
    both_silent (get (home k) (slot_of r)) rest code next (next ++ silently rest) made refl ∙ ap (λ (rs : List Virtual). code ++ silently (gets_all x86_table (homes_from slot_of k rs))) (sym front) ∙ h

pub puts_more : (k : ℕ) (to : List Virtual) (r : Virtual) (code next whole : List (X86Instr × Tag)) → drop k to ≡ r ∷ drop (k + 1) to → next ≡ code ++ silently (put_last (slot_of r) (home k) ∷ []) → code ++ silently (puts_all x86_table (homes_from slot_of k (drop k to))) ≡ whole
    → next ++ silently (puts_all x86_table (homes_from slot_of (k + 1) (drop (k + 1) to))) ≡ whole
puts_more k to r code next whole front made h =
    let rest : List X86Instr = puts_all x86_table (homes_from slot_of (k + 1) (drop (k + 1) to)) in
    both_silent (put_last (slot_of r) (home k) ∷ []) rest code next (next ++ silently rest) made refl ∙ ap (λ (qs : List Virtual). code ++ silently (puts_all x86_table (homes_from slot_of k qs))) (sym front) ∙ h

pub reached_more : (k : ℕ) (rs : List Virtual) (r : Virtual) → drop k rs ≡ r ∷ drop (k + 1) rs → AreReached (drop k rs) → IsReached r × AreReached (drop (k + 1) rs)
reached_more k rs r front h = subst AreReached front h
