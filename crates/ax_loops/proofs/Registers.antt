-- Registers that are kept, scratch registers, and the one that gets the result.
use Rattle.std.proofs.Common.{◌≡◌, ℕ, ◌*◌, ◌%◌, ◌^◌, ◌<◌, Bool, true, false, None, refl, sym, ap, ◌∙◌, subst, ⊎_elim, arith}
use Rattle.std.specs.Prelude.{◌≢◌, ◌&&◌, not, nat_eq}
use Rattle.std.proofs.lemmas.Bool.{cases_eq, eq-eqb, false≢true, ne_eqb}
use Rattle.ax_store.specs.Storage.{at_place}
use Rattle.ax_isa.specs.Processor.{Processor}
use Rattle.ax_isa.specs.Tells.{masked_by}
use Rattle.ax_isa.proofs.Functions.{at_same, at_other}
use Rattle.ax_expand.specs.Operation.{Keeps}
use Rattle.ax_loops.specs.Registers.{all_but}

both : (a b : Bool) → (a && b) ≡ true → (a ≡ true) × (b ≡ true)
both true b h = (refl, h)
both false b h = absurd (false≢true h)

pub cut_same : (v : ℕ) → v < 2 ^ 64 → v % 2 ^ 64 ≡ v
cut_same v h = grind (arith)

cut_small : (v m : ℕ) → v < m → v % m ≡ v
cut_small v m h = grind (arith)

-- without a mask a linked load's mark compares the whole number
pub compares_whole : (bytes number expected : ℕ) (c : Processor) (regs : ℕ → ℕ) → c.regs expected ≡ regs expected → number < 2 ^ (8 * bytes)
    → nat_eq (masked_by None bytes c number) (masked_by None bytes c (c.regs expected)) ≡ nat_eq number (regs expected % 2 ^ (8 * bytes))
compares_whole bytes number expected c regs same small = ap (λ m. nat_eq m (c.regs expected % 2 ^ (8 * bytes))) (cut_small number (2 ^ (8 * bytes)) small) ∙ ap (λ m. nat_eq number (m % 2 ^ (8 * bytes))) same

module _ (keeps : ℕ → Bool) (result : ℕ) where
  pub apart : (q : ℕ) → all_but result keeps q ≡ true → (keeps q ≡ true) × (q ≢ result)
  apart q e =
      let z = both (keeps q) (not (nat_eq q result)) e in
      (z.0, λ same. absurd (false≢true (sym (ap not (eq-eqb q result same)) ∙ z.1)))

  pub is_held : (q : ℕ) → keeps q ≡ true → q ≢ result → all_but result keeps q ≡ true
  is_held q k ne = ap (λ t. t && not (nat_eq q result)) k ∙ ap not (ne_eqb q result ne)

  pub not_scratch : (scratch q : ℕ) → keeps scratch ≡ false → keeps q ≡ true → q ≢ scratch
  not_scratch scratch q free k same = false≢true (sym free ∙ sym (ap keeps same) ∙ k)

  -- where these hold and the result is there, all that is kept is the operation's
  pub with_result : (f regs : ℕ → ℕ) (number : ℕ) → Keeps (all_but result keeps) f regs → f result ≡ number → Keeps keeps f (at_place regs result number)
  with_result f regs number held is q k =
      ⊎_elim (λ same. subst (λ m. f m ≡ at_place regs result number m) (sym same) (is ∙ sym (at_same regs result number))) (λ ne. held q (is_held q k ne) ∙ sym (at_other regs result number q ne)) (cases_eq q result)
