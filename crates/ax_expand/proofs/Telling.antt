-- What the public tag of a piece's instruction gives, and where its access may be.
use Rattle.std.proofs.Common.{◌≡◌, ℕ, ◌+◌, ◌<◌, ◌^◌, Bool, true, false, refl, sym, ap, ◌∙◌, subst, ⊎_elim, arith}
use Rattle.std.specs.Prelude.{◌&&◌, nat_eq, Some, ◌%◌}
use Rattle.std.proofs.lemmas.Bool.{cases_eq}
use Rattle.std.proofs.lemmas.Bool.Decides.{nat_tests}
use Rattle.ax_store.specs.Bytes.{all_inside}
use Rattle.ax_store.specs.Storage.{at_place}
use Rattle.ax_tags.specs.declared.tags.Role.TheVariants.{None as Outside}
use Rattle.ax_tags.specs.declared.tags.Tag.{Tag}
use Rattle.ax_tags.specs.declared.tags.Tag.TheVariants.{Silent, Act, Stored}
use Rattle.ax_isa.specs.declared.effects.Outcome.{Outcome}
use Rattle.ax_isa.specs.Past.{Noted}
use Rattle.ax_isa.specs.Processor.{Processor}
use Rattle.ax_isa.specs.Steps.{is_place, may_access}
use Rattle.ax_isa.specs.Tells.{Nothing, An_act, act_if, given_in, given_of, is_yes, told_of}
use Rattle.ax_isa.proofs.Functions.{at_same, at_other}
use Rattle.ax_expand.specs.Operation.{hushed}
use Rattle.ax_expand.specs.Shared.{Shared, Object, Sees}
use Rattle.ax_expand.specs.Standing.{hush}

-- what a tag gives of a processor in no call
outside : (tag : Tag) (c : Processor) (bytes : ℕ) (o : Outcome) → c.role ≡ Outside → given_of tag bytes c o ≡ told_of tag bytes c o
outside tag c bytes o role = ap (λ r. given_in r tag bytes c o) role

-- a silent instruction gives nothing, another what its mark gives
pub told_hushed : (quiet : Bool) (mark tag : Tag) (c : Processor) (bytes : ℕ) (o : Outcome) → tag ≡ hush quiet mark → c.role ≡ Outside → given_of tag bytes c o ≡ hushed quiet (told_of mark bytes c o)
told_hushed true mark tag c bytes o is role = ap (λ t. given_of t bytes c o) is ∙ outside Silent c bytes o role
told_hushed false mark tag c bytes o is role = ap (λ t. given_of t bytes c o) is ∙ outside mark c bytes o role

nothing_hushed : (quiet : Bool) → hushed quiet Nothing ≡ Nothing
nothing_hushed true = refl
nothing_hushed false = refl

pub silent_told : (quiet : Bool) (tag : Tag) (c : Processor) (bytes : ℕ) (o : Outcome) → tag ≡ hush quiet Silent → c.role ≡ Outside → given_of tag bytes c o ≡ Nothing
silent_told quiet tag c bytes o is role = told_hushed quiet Silent tag c bytes o is role ∙ nothing_hushed quiet

-- an instruction that acts
pub act_hushed : (quiet : Bool) (tag : Tag) (c : Processor) (bytes : ℕ) (o : Outcome) → tag ≡ hush quiet Act → c.role ≡ Outside → given_of tag bytes c o ≡ hushed quiet An_act
act_hushed quiet tag c bytes o is role = told_hushed quiet Act tag c bytes o is role

-- one that acts where it stores
pub wrote_told : (quiet : Bool) (tag : Tag) (c : Processor) (bytes : ℕ) (o : Outcome) → o.stored ≡ Some true → tag ≡ hush quiet Stored → c.role ≡ Outside → given_of tag bytes c o ≡ hushed quiet An_act
wrote_told quiet tag c bytes o wrote is role = told_hushed quiet Stored tag c bytes o is role ∙ ap (λ t. hushed quiet (act_if (is_yes t))) wrote

pub failed_told : (quiet : Bool) (tag : Tag) (c : Processor) (bytes : ℕ) (o : Outcome) → o.stored ≡ Some false → tag ≡ hush quiet Stored → c.role ≡ Outside → given_of tag bytes c o ≡ Nothing
failed_told quiet tag c bytes o failed is role = told_hushed quiet Stored tag c bytes o is role ∙ ap (λ t. hushed quiet (act_if (is_yes t))) failed ∙ nothing_hushed quiet

pub place_ok : (n : ℕ) → n < 2 ^ 32 → is_place n ≡ true
place_ok n h = grind (arith, nat_tests, h)

-- an access to an object can be
pub access_ok : (c : Processor) (a bytes : ℕ) (n : Noted) (w : Shared) → c.place + 1 < 2 ^ 32 → Sees n.storage w → Object a bytes w → (is_place (c.place + 1) && may_access a bytes n.storage) ≡ true
access_ok c a bytes n w place h o =
    ap (λ t. t && (nat_eq (a % bytes) 0 && all_inside n.storage.inside a bytes)) (place_ok (c.place + 1) place) ∙ ap (λ t. nat_eq t 0 && all_inside n.storage.inside a bytes) o.aligned ∙ ap (λ f. all_inside f a bytes) h.inside ∙ o.inside

-- registers that agree, and one that gets equal numbers
pub kept_set : {kept : ℕ → Bool} (f g : ℕ → ℕ) (r v w : ℕ) → ((q : ℕ) → kept q ≡ true → f q ≡ g q) → v ≡ w → (q : ℕ) → kept q ≡ true → at_place f r v q ≡ at_place g r w q
kept_set f g r v w h e q k =
    ⊎_elim (λ same. subst (λ y. at_place f r v y ≡ at_place g r w y) (sym same) (at_same f r v ∙ e ∙ sym (at_same g r w))) (λ ne. at_other f r v q ne ∙ h q k ∙ sym (at_other g r w q ne)) (cases_eq q r)
