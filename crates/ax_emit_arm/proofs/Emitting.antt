-- Code that is appended part by part.
use Rattle.std.proofs.Common.{◌≡◌, ℕ, ◌+◌, List, ◌∷◌, ◌++◌, drop, refl, sym, ap, ◌∙◌, append_assoc}
use Rattle.std.proofs.lemmas.List.{map-append}
use Rattle.ax_tags.specs.declared.tags.Tag.{Tag}
use Rattle.ax_tags.specs.declared.tags.Tag.TheVariants.{Silent}
use Rattle.ax_mid.specs.declared.registers.Virtual.{Virtual}
use Rattle.ax_arm.specs.declared.instructions.ArmInstr.{ArmInstr}
use Rattle.ax_expand.specs.Standing.{silently}
use Rattle.ax_emit.specs.Atomics.{gets_all, puts_all}
use Rattle.ax_emit.specs.Table.{put}
use Rattle.ax_emit_arm.specs.Code.{homes_from}
use Rattle.ax_emit_arm.specs.Emitters.{slot_of}
use Rattle.ax_emit_arm.specs.Slots.{arm_table, get}

module _ {A : Type 0} where
  -- one part, and then another
  pub both : (xs ys a b c : List A) → b ≡ a ++ xs → c ≡ b ++ ys → c ≡ a ++ (xs ++ ys)
  both xs ys a b c first second = second ∙ (ap (λ zs. zs ++ ys) first ∙ append_assoc a xs ys)

pub silent_both : (is js : List ArmInstr) → silently is ++ silently js ≡ silently (is ++ js)
silent_both is js = sym (map-append (λ (i : ArmInstr). (i, Silent)) is js)

-- two parts without an event
pub both_silent : (is js : List ArmInstr) (a b c : List (ArmInstr × Tag)) → b ≡ a ++ silently is → c ≡ b ++ silently js → c ≡ a ++ silently (is ++ js)
both_silent is js a b c first second = both (silently is) (silently js) a b c first second ∙ ap (λ zs. a ++ zs) (silent_both is js)

-- ---- one register more
pub gets_more : (rt i : ℕ) (from : List Virtual) (r : Virtual) (code next whole : List (ArmInstr × Tag)) → drop i from ≡ r ∷ drop (i + 1) from → next ≡ code ++ silently (get rt (slot_of r)) → code ++ silently (gets_all arm_table (homes_from slot_of rt (drop i from))) ≡ whole
    → next ++ silently (gets_all arm_table (homes_from slot_of (rt + 1) (drop (i + 1) from))) ≡ whole
gets_more rt i from r code next whole front made h =
    let rest : List ArmInstr = gets_all arm_table (homes_from slot_of (rt + 1) (drop (i + 1) from)) in
    both_silent (get rt (slot_of r)) rest code next (next ++ silently rest) made refl ∙ ap (λ (rs : List Virtual). code ++ silently (gets_all arm_table (homes_from slot_of rt rs))) (sym front) ∙ h

pub puts_more : (rt i : ℕ) (to : List Virtual) (r : Virtual) (code next whole : List (ArmInstr × Tag)) → drop i to ≡ r ∷ drop (i + 1) to → next ≡ code ++ silently (put arm_table (slot_of r) rt) → code ++ silently (puts_all arm_table (homes_from slot_of rt (drop i to))) ≡ whole
    → next ++ silently (puts_all arm_table (homes_from slot_of (rt + 1) (drop (i + 1) to))) ≡ whole
puts_more rt i to r code next whole front made h =
    let rest : List ArmInstr = puts_all arm_table (homes_from slot_of (rt + 1) (drop (i + 1) to)) in
    both_silent (put arm_table (slot_of r) rt) rest code next (next ++ silently rest) made refl ∙ ap (λ (qs : List Virtual). code ++ silently (puts_all arm_table (homes_from slot_of rt qs))) (sym front) ∙ h
