use Rattle.std.proofs.Common.{◌≡◌, ℕ, ◌⊎◌, ◌↔◌, Bool, true, List, Option, Some, None, slice_index_or, subst, sym, ◌∙◌, inl, inr, refl}
use Rattle.std.specs.List.{All}
use Rattle.std.proofs.lemmas.Option.{same_Some, none-some}
use Rattle.ax_check.specs.declared.exits.Exit.{Exit}
use Rattle.ax_check.specs.Walk.{Leads}
use Rattle.ax_module.specs.declared.operand.Operand.{Operand}
use Rattle.ax_check.specs.Phis.{Entries, HasWrongBlocks, IsTable}

option_cases : {X : Type 0} (o : Option X) → (o ≡ None) ⊎ ((x : X) × (o ≡ Some x))
option_cases None = inl refl
option_cases (Some x) = inr (x, refl)

-- where the table is right and each block named is a predecessor, only a missing one is wrong
pub table_right : (graph : List Exit) (b : ℕ) (entries : Entries) (table : List (Option Operand)) (r : Bool) → All (λ e. Leads graph e.1 b) entries → IsTable table entries → ((r ≡ true) ↔ ((p : ℕ) × Leads graph p b × (slice_index_or table p None ≡ None))) → (r ≡ true) ↔ HasWrongBlocks graph b entries
table_right graph b entries table r all right test = (
  λ h. let m = test.0 h in inr (inr (m.0, m.1, λ x c. none-some x (sym m.2 ∙ (right m.0 x).1 c))),
  λ w. elim w [
    | inl other ↦ absurd (other.4 (subst (λ e. Leads graph e.1 b) other.3 (all other.0 other.1 other.2)))
    | inr more ↦ elim more [
      | inl clash ↦ absurd (clash.5 (same_Some clash.1 clash.2 (sym ((right clash.0 clash.1).1 clash.3) ∙ (right clash.0 clash.2).1 clash.4)))
      | inr miss ↦ elim (option_cases (slice_index_or table miss.0 None)) [
        | inl none ↦ test.1 (miss.0, miss.1, none)
        | inr some ↦ absurd (miss.2 some.0 ((right miss.0 some.0).0 some.1))
      ]
    ]
  ],
)
