-- Instructions of a block, in their order: phis, other instructions, and a terminator.
use Rattle.std.proofs.Common.{◌≡◌, ℕ, zero, suc, ◌+◌, ◌<◌, ◌≤◌, ◌⊎◌, inl, inr, Bool, true, false, List, [], ◌∷◌, Some, refl, sym, ap, ◌∙◌, subst, arith, slice_get}
use Rattle.std.specs.Prelude.{◌&&◌, not, if◌then◌else◌, drop, nat_eq}
use Rattle.std.specs.List.{prefix_len}
use Rattle.std.proofs.lemmas.Bool.{and_parts, eqb-true, true≢false, false≢true}
use Rattle.std.proofs.lemmas.Option.{none-some, same_Some}
use Rattle.ax_module.specs.declared.inst.Inst.{Inst}
use Rattle.ax_module.specs.declared.inst.Inst.TheVariants.{Phi}
use Rattle.ax_module.specs.declared.module.Block.{Block}
use Rattle.ax_module.specs.Kinds as kinds
use Rattle.ax_module.specs.Kinds.{is_terminator}
use Rattle.ax_module.specs.WellFormed.{is_body, is_nonempty, is_order}
use Rattle.ax_source_run.specs.SourceAccess.{put_at}
use Rattle.ax_source_run.specs.SourceInstructions as source
use Rattle.ax_source_run.specs.SourceInstructions.{insts_of_block, phi_count, phi_number, phis_set}
use Rattle.ax_source_run.specs.SourceState.{Number, SourceValue}

pub same_phi : (x : Inst) → source.is_phi x ≡ kinds.is_phi x
unfolding source.is_phi kinds.is_phi
same_phi (Phi t entries) = refl
same_phi _ = refl

no_phi : (x : Inst) → is_terminator x ≡ true → kinds.is_phi x ≡ false
unfolding kinds.is_phi is_terminator
no_phi (Phi t entries) h = absurd (false≢true h)
no_phi _ h = refl

one_more : (n : ℕ) → n + 1 ≡ suc n
one_more n = omega arith

-- there is an instruction that is no phi
pub record HasOther (insts : List Inst) (n : ℕ) : Type 0 where
  pub inst : Inst
  pub at : slice_get insts n ≡ Some inst
  pub other : kinds.is_phi inst ≡ false

further : (z : Inst) (insts : List Inst) (n : ℕ) → HasOther insts n → HasOther (z ∷ insts) (n + 1)
further z insts n h = record { inst = h.inst; at = ap (slice_get (z ∷ insts)) (one_more n) ∙ h.at; other = h.other }

-- ---- a body
first_is : (s : Bool) (z : Inst) (insts : List Inst) → is_terminator z ≡ s → (if s then not (is_nonempty insts) else not (kinds.is_phi z) && is_body insts) ≡ true → HasOther (z ∷ insts) 0
first_is true z insts e b = record { inst = z; at = refl; other = no_phi z e }
first_is false z insts e b = record { inst = z; at = refl; other = is_not (kinds.is_phi z) (and_parts (not (kinds.is_phi z)) (is_body insts) b).0 }
  where
    is_not : (t : Bool) → not t ≡ true → t ≡ false
    is_not true h = absurd (false≢true h)
    is_not false h = refl

body_first : (insts : List Inst) → is_body insts ≡ true → HasOther insts 0
body_first [] b = absurd (false≢true b)
body_first (z ∷ insts) b = first_is (is_terminator z) z insts refl b

-- behind an instruction that is no terminator stands another
abbrev GoesOn : List Inst → Type 0
GoesOn insts = (i : ℕ) (x : Inst) → slice_get insts i ≡ Some x → is_terminator x ≡ false → HasOther insts (i + 1)

body_step : (s : Bool) (z : Inst) (insts : List Inst) → is_terminator z ≡ s → (if s then not (is_nonempty insts) else not (kinds.is_phi z) && is_body insts) ≡ true → (is_body insts ≡ true → GoesOn insts) → GoesOn (z ∷ insts)
body_step true z insts e b rest zero x h t = absurd (true≢false (sym e ∙ (ap is_terminator (same_Some z x h) ∙ t)))
body_step true z [] e b rest (suc i) x h t = absurd (none-some x h)
body_step true z (y ∷ insts) e b rest (suc i) x h t = absurd (false≢true b)
body_step false z insts e b rest zero x h t = further z insts 0 (body_first insts (and_parts (not (kinds.is_phi z)) (is_body insts) b).1)
body_step false z insts e b rest (suc i) x h t =
    subst (HasOther (z ∷ insts)) (omega arith) (further z insts (i + 1) (rest (and_parts (not (kinds.is_phi z)) (is_body insts) b).1 i x h t))

body_goes : (insts : List Inst) → is_body insts ≡ true → GoesOn insts
body_goes [] b = λ i x h t. absurd (none-some x h)
body_goes (z ∷ insts) b = body_step (is_terminator z) z insts refl b (body_goes insts)

-- ---- phis and a body
abbrev GoesOnOther : List Inst → Type 0
GoesOnOther insts = (i : ℕ) (x : Inst) → slice_get insts i ≡ Some x → kinds.is_phi x ≡ false → is_terminator x ≡ false → HasOther insts (i + 1)

-- the body behind one phi more
drop_one : (insts : List Inst) (z : Inst) → is_body (drop (1 + prefix_len kinds.is_phi insts) (z ∷ insts)) ≡ true → is_order insts ≡ true
drop_one insts z b =
    let same : 1 + prefix_len kinds.is_phi insts ≡ suc (prefix_len kinds.is_phi insts) = omega arith in
    subst (λ (n : ℕ). is_body (drop n (z ∷ insts)) ≡ true) same b

order_step : (s : Bool) (z : Inst) (insts : List Inst) → kinds.is_phi z ≡ s → is_body (drop (if s then 1 + prefix_len kinds.is_phi insts else 0) (z ∷ insts)) ≡ true → (is_order insts ≡ true → GoesOnOther insts) → GoesOnOther (z ∷ insts)
order_step true z insts e b rest zero x h p t = absurd (true≢false (sym e ∙ (ap kinds.is_phi (same_Some z x h) ∙ p)))
order_step true z insts e b rest (suc i) x h p t = subst (HasOther (z ∷ insts)) (omega arith) (further z insts (i + 1) (rest (drop_one insts z b) i x h p t))
order_step false z insts e b rest i x h p t = body_goes (z ∷ insts) b i x h t

pub order_goes : (insts : List Inst) → is_order insts ≡ true → GoesOnOther insts
order_goes [] b = λ i x h p t. absurd (none-some x h)
order_goes (z ∷ insts) b = order_step (kinds.is_phi z) z insts refl b (order_goes insts)

-- behind the phis stands an instruction
behind_step : (s : Bool) (z : Inst) (insts : List Inst) → kinds.is_phi z ≡ s → is_body (drop (if s then 1 + prefix_len kinds.is_phi insts else 0) (z ∷ insts)) ≡ true → (is_order insts ≡ true → HasOther insts (phi_count insts)) → HasOther (z ∷ insts) (if s then phi_count insts + 1 else 0)
behind_step true z insts e b rest = further z insts (phi_count insts) (rest (drop_one insts z b))
behind_step false z insts e b rest = body_first (z ∷ insts) b

pub behind_phis : (insts : List Inst) → is_order insts ≡ true → HasOther insts (phi_count insts)
behind_phis [] b = absurd (false≢true b)
behind_phis (z ∷ insts) b = subst (λ (t : Bool). HasOther (z ∷ insts) (if t then phi_count insts + 1 else 0)) (sym (same_phi z)) (behind_step (kinds.is_phi z) z insts refl b (behind_phis insts))

-- a block is not empty
pub order_first : (insts : List Inst) → is_order insts ≡ true → (x : Inst) × (slice_get insts 0 ≡ Some x)
order_first [] b = absurd (false≢true b)
order_first (z ∷ insts) b = (z, refl)

-- those that are counted are phis
pub record HasPhi (insts : List Inst) (n : ℕ) : Type 0 where
  pub inst : Inst
  pub at : slice_get insts n ≡ Some inst
  pub phi : kinds.is_phi inst ≡ true

counted_step : (s : Bool) (z : Inst) (insts : List Inst) → kinds.is_phi z ≡ s → ((j : ℕ) → j < phi_count insts → HasPhi insts j) → (j : ℕ) → j < (if s then phi_count insts + 1 else 0) → HasPhi (z ∷ insts) j
counted_step true z insts e rest zero lt = record { inst = z; at = refl; phi = e }
counted_step true z insts e rest (suc j) lt = let r = rest j (omega (arith, lt)) in record { inst = r.inst; at = r.at; phi = r.phi }
counted_step false z insts e rest j lt = absurd (omega (arith, lt))

pub counted_phis : (insts : List Inst) (j : ℕ) → j < phi_count insts → HasPhi insts j
counted_phis [] j lt = absurd (omega (arith, lt))
counted_phis (z ∷ insts) j lt = counted_step (kinds.is_phi z) z insts refl (counted_phis insts) j (subst (λ (t : Bool). j < (if t then phi_count insts + 1 else 0)) (same_phi z) lt)

-- ---- results of other instructions are as they were when phis are set
put_apart : (values : ℕ → SourceValue) (k : ℕ) (v : SourceValue) (j : ℕ) → (j ≡ k → ⊥) → put_at values k v j ≡ values j
put_apart values k v j differ = by (nat_eq j k) refl
  where
    by : (t : Bool) → nat_eq j k ≡ t → (if t then v else values j) ≡ values j
    by true e = absurd (differ (eqb-true j k e))
    by false e = refl

kept_step : (s : Bool) (from k : ℕ) (old values : ℕ → SourceValue) (z : Inst) (insts : List Inst) (j : ℕ) → (j < k) ⊎ (k + (if s then phi_count insts + 1 else 0) ≤ j)
    → ((j < k + 1) ⊎ (k + 1 + phi_count insts ≤ j) → phis_set from (k + 1) old insts (put_at values k (Number (phi_number from old z))) j ≡ put_at values k (Number (phi_number from old z)) j)
    → (if s then phis_set from (k + 1) old insts (put_at values k (Number (phi_number from old z))) else values) j ≡ values j
kept_step true from k old values z insts j (inl lt) rest = rest (inl (omega (arith, lt))) ∙ put_apart values k (Number (phi_number from old z)) j (λ e. omega (arith, lt, e))
kept_step true from k old values z insts j (inr le) rest = rest (inr (omega (arith, le))) ∙ put_apart values k (Number (phi_number from old z)) j (λ e. omega (arith, le, e))
kept_step false from k old values z insts j side rest = refl

pub phis_kept : (from k : ℕ) (old : ℕ → SourceValue) (insts : List Inst) (values : ℕ → SourceValue) (j : ℕ) → (j < k) ⊎ (k + phi_count insts ≤ j) → phis_set from k old insts values j ≡ values j
phis_kept from k old [] values j side = refl
phis_kept from k old (z ∷ insts) values j side =
    kept_step (source.is_phi z) from k old values z insts j side (phis_kept from (k + 1) old insts (put_at values k (Number (phi_number from old z))) j)

-- ---- blocks
pub block_insts : (blocks : List Block) (b : ℕ) (block : Block) → slice_get blocks b ≡ Some block → insts_of_block blocks b ≡ block.insts
block_insts [] b block e = absurd (none-some block e)
block_insts (x ∷ blocks) zero block e = ap (λ (y : Block). y.insts) (same_Some x block e)
block_insts (x ∷ blocks) (suc b) block e = block_insts blocks b block e
