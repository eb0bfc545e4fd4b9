-- Lines for the phis at the head of a block, one phi after the other.
use Rattle.std.proofs.Common.{◌≡◌, ℕ, ◌+◌, ◌<◌, ◌≤◌, Bool, true, false, List, [], ◌∷◌, ◌++◌, Some, None, All, IsTrue, length, drop, map, refl, sym, ap, ◌∙◌, subst, true≢false}
use Rattle.std.specs.Prelude.{slice_index_or, nat_eq, if◌then◌else◌}
use Rattle.std.proofs.lemmas.List.{at_drop_more, at_drop_all}
use Rattle.std.proofs.lemmas.List.Elements.{All-head, All-tail, All-get_or}
use Rattle.std.proofs.lemmas.Option.{none-some}
use Rattle.ax_cells.specs.Narrow.{is_narrow}
use Rattle.ax_module.specs.declared.inst.Inst.{Inst}
use Rattle.ax_module.specs.declared.inst.Inst.TheVariants as inst
use Rattle.ax_module.specs.declared.operand.Operand.{Operand}
use Rattle.ax_module.specs.declared.types.Ty.{Ty}
use Rattle.ax_module.specs.Kinds.{is_phi}
use Rattle.ax_mid.specs.Built.{pushed}
use Rattle.ax_mid.specs.declared.code.Mid.{Mid}
use Rattle.ax_mid.specs.declared.instruction.MidInst.{MidInst}
use Rattle.ax_mid.specs.declared.registers.Virtual.{Virtual}
use Rattle.ax_selected.specs.Edges.{brought, coming_in, operand_from, set_phi, set_phis}
use Rattle.ax_selected.specs.Ranges.{IsNear}
use Rattle.ax_selected.specs.Selected.{silent}
use Rattle.ax_pieces.specs.Near.{IsNearPhi}
use Rattle.ax_pieces.specs.Edges.{incoming}
use Rattle.ax_pieces.proofs.Pushing.{pushed_none, pushed_rest}

-- ---- by one instruction
coming_phi : (b k : ℕ) (i : Inst) (ty : Ty) (v : Operand) (insts : List Inst) → Some (ty, v) ≡ incoming b i → coming_in b k (i ∷ insts) ≡ brought k ty v ++ coming_in b (k + 1) insts
unfolding incoming coming_in
coming_phi b k (inst.Phi t entries) ty v insts e = let p : (t, operand_from b entries) ≡ (ty, v) = cc in ap (λ (p : Ty × Operand). brought k p.0 p.1 ++ coming_in b (k + 1) insts) p
coming_phi b k _ ty v insts e = absurd (none-some (ty, v) (sym e))

coming_other : (b k : ℕ) (i : Inst) (insts : List Inst) → incoming b i ≡ None → coming_in b k (i ∷ insts) ≡ []
unfolding incoming coming_in
coming_other b k (inst.Phi t entries) insts e = absurd (none-some (t, operand_from b entries) (sym e))
coming_other b k _ insts e = refl

coming_end : (b k : ℕ) → coming_in b k [] ≡ []
unfolding coming_in
coming_end b k = refl

setting_phi : (k : ℕ) (i : Inst) (insts : List Inst) → is_phi i ≡ true → set_phis k (i ∷ insts) ≡ set_phi k ++ set_phis (k + 1) insts
unfolding is_phi set_phis
setting_phi k (inst.Phi t entries) insts e = refl
setting_phi k _ insts e = absurd (true≢false (sym e))

setting_other : (k : ℕ) (i : Inst) (insts : List Inst) → is_phi i ≡ false → set_phis k (i ∷ insts) ≡ []
unfolding is_phi set_phis
setting_other k (inst.Phi t entries) insts e = absurd (true≢false e)
setting_other k _ insts e = refl

setting_end : (k : ℕ) → set_phis k [] ≡ []
unfolding set_phis
setting_end k = refl

-- ---- at an index of a block's instructions, whichever lines its phis have
module _ (lines : ℕ → List Inst → List (MidInst Virtual)) (f n i k : ℕ) (insts : List Inst) (x : Inst) (code : Mid Virtual) where
  abbrev Left : ℕ → ℕ → Mid Virtual → Mid Virtual
  Left i k code = pushed (map (silent f n) (lines k (drop i insts))) code

  next_phi : (own : List (MidInst Virtual)) (j m : ℕ) (next : Mid Virtual) → ((rest : List Inst) → lines k (x ∷ rest) ≡ own ++ lines (k + 1) rest) → j ≡ i + 1 → m ≡ k + 1 → i < length insts → x ≡ slice_index_or insts i x → next ≡ pushed (map (silent f n) own) code
      → Left j m next ≡ Left i k code
  next_phi own j m next is on up lt here e =
      let rest = drop (i + 1) insts in
      let at : lines k (drop i insts) ≡ own ++ lines (k + 1) rest = at_drop_more (lines k) insts i x lt ∙ ap (λ (y : Inst). lines k (y ∷ rest)) (sym here) ∙ is rest in
      ap (λ (p : ℕ). Left p m next) on ∙ ap (λ (p : ℕ). Left (i + 1) p next) up
      ∙ pushed_rest (silent f n) own (lines (k + 1) rest) code next e ∙ ap (λ (is : List (MidInst Virtual)). pushed (map (silent f n) is) code) (sym at)

  none_left : lines k (drop i insts) ≡ [] → Left i k code ≡ code
  none_left e = ap (λ (is : List (MidInst Virtual)). pushed (map (silent f n) is) code) e ∙ pushed_none code

  at_other : ((rest : List Inst) → lines k (x ∷ rest) ≡ []) → i < length insts → x ≡ slice_index_or insts i x → Left i k code ≡ code
  at_other is lt here = none_left (at_drop_more (lines k) insts i x lt ∙ ap (λ (y : Inst). lines k (y ∷ drop (i + 1) insts)) (sym here) ∙ is (drop (i + 1) insts))

  at_end : lines k [] ≡ [] → length insts ≤ i → Left i k code ≡ code
  at_end is le = none_left (at_drop_all (lines k) insts i le ∙ is)

-- ---- what comes in
pub coming_next : (f n b i k j m : ℕ) (insts : List Inst) (x : Inst) (ty : Ty) (v : Operand) (code next : Mid Virtual) → j ≡ i + 1 → m ≡ k + 1 → i < length insts → x ≡ slice_index_or insts i x → Some (ty, v) ≡ incoming b x → next ≡ pushed (map (silent f n) (brought k ty v)) code
    → pushed (map (silent f n) (coming_in b m (drop j insts))) next ≡ pushed (map (silent f n) (coming_in b k (drop i insts))) code
coming_next f n b i k j m insts x ty v code next on up lt here some e = next_phi (coming_in b) f n i k insts x code (brought k ty v) j m next (λ rest. coming_phi b k x ty v rest some) on up lt here e

pub coming_last : (f n b i k : ℕ) (insts : List Inst) (x : Inst) (code : Mid Virtual) → i < length insts → x ≡ slice_index_or insts i x → incoming b x ≡ None → pushed (map (silent f n) (coming_in b k (drop i insts))) code ≡ code
coming_last f n b i k insts x code lt here none = at_other (coming_in b) f n i k insts x code (λ rest. coming_other b k x rest none) lt here

pub coming_none : (f n b i k : ℕ) (insts : List Inst) (code : Mid Virtual) → length insts ≤ i → pushed (map (silent f n) (coming_in b k (drop i insts))) code ≡ code
coming_none f n b i k insts code le = at_end (coming_in b) f n i k insts inst.RetVoid code (coming_end b k) le

-- ---- phis that are set
pub setting_next : (f n i k j m : ℕ) (insts : List Inst) (x : Inst) (code next : Mid Virtual) → j ≡ i + 1 → m ≡ k + 1 → i < length insts → x ≡ slice_index_or insts i x → is_phi x ≡ true → next ≡ pushed (map (silent f n) (set_phi k)) code
    → pushed (map (silent f n) (set_phis m (drop j insts))) next ≡ pushed (map (silent f n) (set_phis k (drop i insts))) code
setting_next f n i k j m insts x code next on up lt here phi e = next_phi set_phis f n i k insts x code (set_phi k) j m next (λ rest. setting_phi k x rest phi) on up lt here e

pub setting_last : (f n i k : ℕ) (insts : List Inst) (x : Inst) (code : Mid Virtual) → i < length insts → x ≡ slice_index_or insts i x → is_phi x ≡ false → pushed (map (silent f n) (set_phis k (drop i insts))) code ≡ code
setting_last f n i k insts x code lt here other = at_other set_phis f n i k insts x code (λ rest. setting_other k x rest other) lt here

pub setting_none : (f n i k : ℕ) (insts : List Inst) (code : Mid Virtual) → length insts ≤ i → pushed (map (silent f n) (set_phis k (drop i insts))) code ≡ code
setting_none f n i k insts code le = at_end set_phis f n i k insts inst.RetVoid code (setting_end k) le

-- ---- what comes in is near
chosen_near : (t : Bool) (v w : Operand) → IsNear v → IsNear w → IsNear (if t then v else w)
chosen_near true v w h g = h
chosen_near false v w h g = g

from_near : (b : ℕ) (entries : List (Operand × ℕ)) → All (λ (entry : Operand × ℕ). IsNear entry.0) entries → IsNear (operand_from b entries)
from_near b [] h = tt
from_near b (entry ∷ entries) h =
    let near : Operand × ℕ → Type 0 = λ (entry : Operand × ℕ). IsNear entry.0 in
    chosen_near (nat_eq entry.1 b) entry.0 (operand_from b entries) (All-head near entry entries h) (from_near b entries (All-tail near entry entries h))

incoming_near : (b : ℕ) (i : Inst) (ty : Ty) (v : Operand) → IsNearPhi i → Some (ty, v) ≡ incoming b i → IsTrue (is_narrow ty) × IsNear v
unfolding incoming IsNearPhi
incoming_near b (inst.Phi t entries) ty v h e =
    let p : (t, operand_from b entries) ≡ (ty, v) = cc in
    subst (λ (p : Ty × Operand). IsTrue (is_narrow p.0) × IsNear p.1) p (h.0, from_near b entries h.1)
incoming_near b _ ty v h e = absurd (none-some (ty, v) (sym e))

near_at : (b i : ℕ) (insts : List Inst) (x : Inst) (ty : Ty) (v : Operand) → All IsNearPhi insts → i < length insts → x ≡ slice_index_or insts i x → Some (ty, v) ≡ incoming b x → IsTrue (is_narrow ty) × IsNear v
near_at b i insts x ty v all lt here e = incoming_near b x ty v (subst IsNearPhi (sym here) (All-get_or IsNearPhi insts i x lt all)) e

pub narrow_in : (b i : ℕ) (insts : List Inst) (x : Inst) (ty : Ty) (v : Operand) → All IsNearPhi insts → i < length insts → x ≡ slice_index_or insts i x → Some (ty, v) ≡ incoming b x → IsTrue (is_narrow ty)
narrow_in b i insts x ty v all lt here e = (near_at b i insts x ty v all lt here e).0

pub near_in : (b i : ℕ) (insts : List Inst) (x : Inst) (ty : Ty) (v : Operand) → All IsNearPhi insts → i < length insts → x ≡ slice_index_or insts i x → Some (ty, v) ≡ incoming b x → IsNear v
near_in b i insts x ty v all lt here e = (near_at b i insts x ty v all lt here e).1

pub ruleset comings = (narrow_in, near_in)
