-- Runs of processor 0 in which the wrong exchanges break the contract.
use Rattle.std.proofs.Common.{◌≡◌, ℕ, ◌^◌, ◌<◌, Bool, true, false, [], ◌∷◌, refl, ⊎_elim, arith}
use Rattle.std.proofs.lemmas.Bool.{false≢true}
use Rattle.ax_words.specs.declared.order.Order.{Order}
use Rattle.ax_target.specs.declared.target.Target.{Target}
use Rattle.ax_store.specs.Bytes.{all_inside}
use Rattle.ax_isa.specs.Past.{Noted}
use Rattle.ax_isa.specs.Run.{step}
use Rattle.ax_isa.specs.Tells.{Done}
use Rattle.ax_rv.specs.Instructions.{rv_kind}
use Rattle.ax_follow.specs.Contract.{Other, Own, stage_start}
use Rattle.ax_fine.specs.OnBytes.{AreWords}
use Rattle.ax_expand.specs.Bytes.{bytes_world}
use Rattle.ax_expand.specs.Expands.{Expands, reading_of}
use Rattle.ax_expand.specs.Operation.{Operation}
use Rattle.ax_expand.specs.Shared.{Shared}
use Rattle.ax_expand.specs.Standing.{HasAt}
use Rattle.ax_trials.specs.PairExchange.{exchanging_on}
use Rattle.ax_trials.specs.RefusedExchange.{IsNoExchange, early_code, exchange_at, once_code}
use Rattle.ax_trials.proofs.Refused.{another_may, another_small, cpu, changed, first, masked_small, may, regs, second, shown, shows, third, v, would, x, zeros}

module _ (target : Target) (order : Order) (weak : Bool) where
  abbrev exchange : Operation Shared
  exchange = exchanging_on (exchange_at target order weak)

  exchange_fits : (n : Noted) → all_inside n.storage.inside 65536 8 ≡ true → AreWords n.storage.inside → ((b : ℕ) → n.storage.mem b < 2 ^ 8) → exchange.fits regs (shown n)
  exchange_fits n inside words small = (record { aligned = refl; shared = omega arith; inside = inside; words = words; small = masked_small n.storage.mem small }, (omega arith, (omega arith, tt)))

all_words : AreWords (λ b. true)
all_words = λ a below is. refl

-- the look is no event that ends it
module _ (target : Target) (order : Order) (keeps : ℕ → Bool) (most : ℕ) (e : Expands rv_kind bytes_world most keeps 2 (λ start. early_code) (exchanging_on (exchange_at target order true))) where
  abbrev early : Operation Shared
  early = exchange target order true

  abbrev e1 : Done
  e1 = first early early_code keeps most

  early_has : HasAt (x early early_code keeps most) (reading_of (v early early_code keeps most)) false 0 1 early_code
  early_has = (record { code = refl; mark = refl; tag = refl; owner = refl; small = omega arith }, (record { code = refl; mark = refl; tag = refl; owner = refl; small = omega arith }, tt))

  early_breaks : ⊥
  early_breaks =
      let run = would early early_code keeps most early_has e (Own ∷ Own ∷ []) in
      let looks = run.1 (shown zeros) (may early early_code keeps most stage_start cpu zeros refl refl (exchange_fits target order true zeros refl all_words (λ b. omega arith)) refl) in
      let leaves = (looks.goes refl).1 (shown e1.noted)
      (record {
        sees = shows e1.noted;
        fits = exchange_fits target order true e1.noted refl all_words (λ b. omega arith);
        fair = tt;
        flat = λ f. refl;
        empty = λ f. refl;
        running = refl;
        runs = refl;
        inner = λ f. absurd (false≢true f);
        bounds = λ f. absurd (false≢true f);
      }) in
      ⊎_elim (λ f. (let g : 1 ≡ 0 = f in omega (arith, g))) (λ f. false≢true f.0) leaves.stays

pub early_refused : IsNoExchange true early_code
early_refused = λ target order keeps most e. early_breaks target order keeps most e

-- where the pair store fails, the code is left without its event
module _ (target : Target) (order : Order) (keeps : ℕ → Bool) (most : ℕ) (e : Expands rv_kind bytes_world most keeps 6 (λ start. once_code) (exchanging_on (exchange_at target order false))) where
  abbrev strong : Operation Shared
  strong = exchange target order false

  abbrev o1 : Done
  o1 = first strong once_code keeps most

  abbrev m1 : Noted
  m1 = changed strong once_code keeps most

  abbrev o2 : Done
  o2 = second strong once_code keeps most

  abbrev o3 : Done
  o3 = third strong once_code keeps most

  abbrev o4 : Done
  o4 = step (x strong once_code keeps most) 0 o3.processor o3.noted

  once_has : HasAt (x strong once_code keeps most) (reading_of (v strong once_code keeps most)) false 0 1 once_code
  once_has =
      (record { code = refl; mark = refl; tag = refl; owner = refl; small = omega arith }, (record { code = refl; mark = refl; tag = refl; owner = refl; small = omega arith }, (record { code = refl; mark = refl; tag = refl; owner = refl; small = omega arith }, (record { code = refl; mark = refl; tag = refl; owner = refl; small = omega arith }, (record { code = refl; mark = refl; tag = refl; owner = refl; small = omega arith }, (record { code = refl; mark = refl; tag = refl; owner = refl; small = omega arith }, tt))))))

  once_breaks : ⊥
  once_breaks =
      let run = would strong once_code keeps most once_has e (Own ∷ Other m1 ∷ Own ∷ Own ∷ Own ∷ Own ∷ []) in
      let links = run.1 (shown zeros) (may strong once_code keeps most stage_start cpu zeros refl refl (exchange_fits target order false zeros refl all_words (λ b. omega arith)) refl) in
      let between = (links.goes refl).1 (another_may o1.noted) in
      let small = another_small o1.noted (λ b. omega arith) in
      let goes_on = between.1 (shown m1) (may strong once_code keeps most _ o1.processor m1 refl refl (exchange_fits target order false m1 refl all_words small) refl) in
      let fails = (goes_on.goes refl).1 (shown o2.noted) (may strong once_code keeps most _ o2.processor o2.noted refl refl (exchange_fits target order false o2.noted refl all_words small) refl) in
      let tells = (fails.goes refl).1 (shown o3.noted) (may strong once_code keeps most _ o3.processor o3.noted refl refl (exchange_fits target order false o3.noted refl all_words small) refl) in
      let leaves = (tells.goes refl).1 (shown o4.noted) (may strong once_code keeps most _ o4.processor o4.noted refl refl (exchange_fits target order false o4.noted refl all_words small) refl) in
      ⊎_elim (λ f. (let g : 1 ≡ 0 = f in omega (arith, g))) (λ f. false≢true f.0) leaves.stays

pub once_refused : IsNoExchange false once_code
once_refused = λ target order keeps most e. once_breaks target order keeps most e
