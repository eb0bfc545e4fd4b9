-- The code round an access: fences, the operand of a subtraction, and the upper bits of a word.
use Rattle.std.proofs.Common.{◌≡◌, ℕ, ◌+◌, ◌-◌, ◌*◌, ◌/◌, ◌%◌, ◌^◌, ◌<◌, Bool, true, false, List, [], ◌∷◌, ◌++◌, Some, refl, sym, ap, ◌∙◌, subst, ⊎_elim, arith}
use Rattle.std.specs.Prelude.{◌≢◌, if◌then◌else◌, nat_le}
use Rattle.std.proofs.lemmas.Bool.{cases_eq, false≢true}
use Rattle.ax_words.specs.declared.operation.RmwOp.{RmwOp}
use Rattle.ax_words.specs.declared.operation.RmwOp.TheVariants as rmw
use Rattle.ax_words.specs.declared.width.Width.{Width}
use Rattle.ax_words.specs.declared.width.Width.TheVariants.{W8, W16, W32, W64, W128}
use Rattle.ax_words.specs.Width.{bits_of}
use Rattle.ax_store.specs.Storage.{at_place}
use Rattle.ax_isa.specs.declared.effects.Rest.TheVariants.{Signs}
use Rattle.ax_isa.specs.Steps.{extended, go_on, go_with}
use Rattle.ax_isa.proofs.Functions.{at_same, at_other}
use Rattle.ax_rv.specs.declared.instructions.FenceSets.{FenceSets}
use Rattle.ax_rv.specs.declared.instructions.RvInstr.{RvInstr}
use Rattle.ax_rv.specs.Arithmetic.{shifted_left, shifted_right}
use Rattle.ax_rv.specs.Instructions.{rv_kind}
use Rattle.ax_expand.specs.Operation.{Keeps}
use Rattle.ax_expand.specs.Private.{Private}
use Rattle.ax_expand.proofs.Straight.{goes_append}
use Rattle.ax_emit_rv.specs.Laws.{is_kept}
use Rattle.ax_llsc.specs.Rounds.{Leads, no_room}
use Rattle.ax_llsc.specs.Loops.{clear}
use Rattle.ax_llsc.specs.Codes.{IsPrepared, fences, negated, prepare, raw_of}
use Rattle.ax_llsc.proofs.Accesses.{IsRead}

-- no code
pub stays : (y : Private) (Q : (ℕ → ℕ) → Type 0) → Q y.cpu.regs → Leads rv_kind [] y Q
stays y Q h = record { private = y; goes = refl; frame = refl; regs = h }

-- fences change no register
pub over_fences : (sets : List FenceSets) (y : Private) → Leads rv_kind (fences sets) y (λ regs. regs ≡ y.cpu.regs)
over_fences [] y = record { private = y; goes = refl; frame = refl; regs = refl }
over_fences (s ∷ rest) y =
    let next : Private = record { cpu = go_on y.cpu; frame = y.frame } in
    let a = over_fences rest next in
    record { private = a.private; goes = (next, refl, a.goes); frame = a.frame; regs = a.regs }

-- what fences lead to, they lead to
pub fenced_to : (sets : List FenceSets) (y : Private) (Q : (ℕ → ℕ) → Type 0) → Q y.cpu.regs → Leads rv_kind (fences sets) y Q
fenced_to sets y Q h = (let a = over_fences sets y in record { private = a.private; goes = a.goes; frame = a.frame; regs = subst Q (sym a.regs) h })

-- ---- upper bits
-- a word goes up to the top, and comes down again
pub cleared_word : (n : ℕ) → n < 2 ^ 32 → shifted_right (shifted_left (extended 4 Signs 0 n) (32 % 64)) (32 % 64) ≡ n
cleared_word n h = go (nat_le (2 ^ 31) n)
  where
    go : (t : Bool) → (if t then n + (2 ^ 64 - 2 ^ 32) else n) * 2 ^ 32 % 2 ^ 64 / 2 ^ 32 ≡ n
    go true = omega (arith, h)
    go false = omega (arith, h)

-- a result's register is not the zero register, and is kept
module _ (keeps : ℕ → Bool) (r : ℕ) (is_read : IsRead r) (kept : keeps r ≡ true) where
  abbrev IsRaw : (ℕ → ℕ) → (ℕ → ℕ) → (ℕ → ℕ) → Type 0
  IsRaw raw f regs = Keeps keeps f (at_place regs r (raw (regs r)))

  -- where the result is as the access left it, and then as it should be
  finished : (raw : ℕ → ℕ) (f g regs : ℕ → ℕ) → IsRaw raw f regs → g r ≡ regs r → ((q : ℕ) → q ≢ r → g q ≡ f q) → Keeps keeps g regs
  finished raw f g regs same is others q k = ⊎_elim (λ e. subst (λ y. g y ≡ regs y) (sym e) is) (λ ne. others q ne ∙ same q k ∙ at_other regs r (raw (regs r)) q ne) (cases_eq q r)

  zeros : (f regs : ℕ → ℕ) → IsRaw (λ n. n) f regs → Keeps keeps f regs
  zeros f regs same = finished (λ n. n) f f regs same (same r kept ∙ at_same regs r (regs r)) (λ q ne. refl)

  abbrev set_result : ℕ → Private → Private
  set_result v y = record { cpu = go_with r v y.cpu; frame = y.frame }

  pub over_clear : (width : Width) (y : Private) (regs : ℕ → ℕ) → regs r < 2 ^ bits_of width → IsRaw (raw_of width) y.cpu.regs regs → Leads rv_kind (clear r width) y (λ left. Keeps keeps left regs)
  over_clear W8 y regs small same = stays y _ (zeros y.cpu.regs regs same)
  over_clear W16 y regs small same = stays y _ (zeros y.cpu.regs regs same)
  over_clear W64 y regs small same = stays y _ (zeros y.cpu.regs regs same)
  over_clear W128 y regs small same = stays y _ (zeros y.cpu.regs regs same)
  over_clear W32 y regs small same =
      let up = shifted_left (y.cpu.regs r) (32 % 64) in
      let y1 = set_result up y in
      let y2 = set_result (shifted_right (y1.cpu.regs r) (32 % 64)) y1 in
      let was : y.cpu.regs r ≡ extended 4 Signs 0 (regs r) = same r kept ∙ at_same regs r (extended 4 Signs 0 (regs r)) in
      let is : y2.cpu.regs r ≡ regs r =
      at_same y1.cpu.regs r _ ∙ ap (λ n. shifted_right n (32 % 64)) (at_same y.cpu.regs r up) ∙ ap (λ n. shifted_right (shifted_left n (32 % 64)) (32 % 64)) was ∙ cleared_word (regs r) small in
      record {
        private = y2;
        goes = (y1, ap (λ n. Some (set_result (shifted_left n (32 % 64)) y)) (is_read y.cpu), (y2, ap (λ n. Some (set_result (shifted_right n (32 % 64)) y1)) (is_read y1.cpu), refl));
        frame = refl;
        regs = finished (raw_of W32) y.cpu.regs y2.cpu.regs regs same is (λ q ne. at_other y1.cpu.regs r _ q ne ∙ at_other y.cpu.regs r up q ne);
      }

-- one piece of such code behind fences
pub fences_then : (sets : List FenceSets) (is : List RvInstr) (y : Private) (Q : (ℕ → ℕ) → Type 0) → ((next : Private) → next.cpu.regs ≡ y.cpu.regs → Leads rv_kind is next Q) → Leads rv_kind (fences sets ++ is) y Q
fences_then sets is y Q rest =
    let a = over_fences sets y in
    let b = rest a.private a.regs in
    record { private = b.private; goes = goes_append rv_kind no_room (fences sets) is y a.private b.private a.goes b.goes; frame = b.frame ∙ a.frame; regs = b.regs }

-- ---- an operand
kept_apart : (q : ℕ) → is_kept q ≡ true → q ≢ 5
kept_apart q k e = false≢true (ap is_kept (sym e) ∙ k)

abbrev Ready : RmwOp → Private → (ℕ → ℕ) → Type 0
Ready o y regs = Keeps is_kept regs y.cpu.regs × IsPrepared o regs

negative : (y : Private) → Leads rv_kind (prepare rmw.Sub) y (Ready rmw.Sub y)
negative y =
    let first = (y.cpu.regs 11 + (2 ^ 64 - 1)) % 2 ^ 64 in
    let y1 : Private = record { cpu = go_with 5 first y.cpu; frame = y.frame } in
    let y2 : Private = record { cpu = go_with 5 (2 ^ 64 - 1 - y1.cpu.regs 5) y1.cpu; frame = y.frame } in
    let other : (q : ℕ) → q ≢ 5 → y2.cpu.regs q ≡ y.cpu.regs q = λ q ne. at_other y1.cpu.regs 5 _ q ne ∙ at_other y.cpu.regs 5 first q ne in
    record {
      private = y2;
      goes = (y1, refl, (y2, refl, refl));
      frame = refl;
      regs = (λ q k. other q (kept_apart q k), at_same y1.cpu.regs 5 _ ∙ ap (λ n. 2 ^ 64 - 1 - n) (at_same y.cpu.regs 5 first) ∙ ap negated (sym (other 11 (kept_apart 11 refl))));
    }

pub over_prepare : (o : RmwOp) (y : Private) → Leads rv_kind (prepare o) y (Ready o y)
over_prepare rmw.Sub y = negative y
over_prepare rmw.Xchg y = stays y (Ready rmw.Xchg y) (λ q k. refl, tt)
over_prepare rmw.Add y = stays y (Ready rmw.Add y) (λ q k. refl, tt)
over_prepare rmw.And y = stays y (Ready rmw.And y) (λ q k. refl, tt)
over_prepare rmw.Nand y = stays y (Ready rmw.Nand y) (λ q k. refl, tt)
over_prepare rmw.Or y = stays y (Ready rmw.Or y) (λ q k. refl, tt)
over_prepare rmw.Xor y = stays y (Ready rmw.Xor y) (λ q k. refl, tt)
over_prepare rmw.Max y = stays y (Ready rmw.Max y) (λ q k. refl, tt)
over_prepare rmw.Min y = stays y (Ready rmw.Min y) (λ q k. refl, tt)
over_prepare rmw.UMax y = stays y (Ready rmw.UMax y) (λ q k. refl, tt)
over_prepare rmw.UMin y = stays y (Ready rmw.UMin y) (λ q k. refl, tt)
