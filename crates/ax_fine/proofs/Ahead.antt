-- Silent lines run up to the one that has the event: each silent line on the way leads to the same end.
use Rattle.std.proofs.Common.{◌≡◌, ℕ, zero, suc, ◌+◌, ◌≤◌, Bool, true, false, List, [], ◌∷◌, Option, Some, None, refl, sym, ap, ◌∙◌, subst, arith, length, option_map, slice_get}
use Rattle.std.specs.Prelude.{if◌then◌else◌}
use Rattle.std.proofs.lemmas.Bool.{false≢true}
use Rattle.std.proofs.lemmas.Option.{none-some, same_Some}
use Rattle.ax_words.specs.declared.source.SourceStatus.{SourceStatus}
use Rattle.ax_target.specs.declared.target.Target.{Target}
use Rattle.ax_tags.specs.declared.tags.Tag.{Tag}
use Rattle.ax_tags.specs.declared.tags.Tag.TheVariants as tag
use Rattle.ax_source_run.specs.SourceState.{PendingStore}
use Rattle.ax_mid.specs.declared.code.Line.{Line}
use Rattle.ax_mid.specs.declared.code.Mid.{Mid}
use Rattle.ax_mid.specs.declared.instruction.MidInst.{MidInst}
use Rattle.ax_mid.specs.declared.instruction.MidInst.TheVariants as mid
use Rattle.ax_mid.specs.Machine.{advance, followed, label_at, line_at, private_step, quiet_by, quiet_if, quiet_step, loaded, stored, spot}
use Rattle.ax_mid.specs.Processor.{MidProcessor, goes_on}
use Rattle.ax_mid.specs.Spots.{Spot, Own, Element, Nowhere}
use Rattle.ax_fine.specs.Fine.{is_some, settle}
use Rattle.ax_fine.specs.Near.{AreLabelsSilent, marked}

-- ---- labels
pub settle_here : {R : Type 0} (lines : List (Line R)) (j : ℕ) (line : Line R) → slice_get lines j ≡ Some line → is_some (label_at (λ r. 0) line.inst) ≡ false → settle lines j ≡ j
settle_here [] j line e h = absurd (none-some line e)
settle_here (x ∷ lines) zero line e h = ap (λ (b : Bool). if b then suc (settle lines zero) else zero) (ap (λ (y : Line _). is_some (label_at (λ r. 0) y.inst)) (same_Some x line e) ∙ h)
settle_here (x ∷ lines) (suc j) line e h = ap suc (settle_here lines j line e h)

pub settle_next : {R : Type 0} (lines : List (Line R)) (j : ℕ) (line : Line R) → slice_get lines j ≡ Some line → is_some (label_at (λ r. 0) line.inst) ≡ true → settle lines j ≡ settle lines (suc j)
settle_next [] j line e h = absurd (none-some line e)
settle_next (x ∷ lines) zero line e h = ap (λ (b : Bool). if b then suc (settle lines zero) else zero) (ap (λ (y : Line _). is_some (label_at (λ r. 0) y.inst)) (same_Some x line e) ∙ h)
settle_next (x ∷ lines) (suc j) line e h = ap suc (settle_next lines j line e h)

pub settle_past : {R : Type 0} (lines : List (Line R)) (j : ℕ) → slice_get lines j ≡ None → settle lines j ≡ j
settle_past [] j e = refl
settle_past (x ∷ lines) zero e = absurd (none-some x (sym e))
settle_past (x ∷ lines) (suc j) e = ap suc (settle_past lines j e)

if_label : {R : Type 0} (b : Bool) (lines : List (Line R)) (x : Line R) → is_some (label_at (λ r. 0) x.inst) ≡ b → settle lines (settle lines zero) ≡ settle lines zero → settle (x ∷ lines) (settle (x ∷ lines) zero) ≡ settle (x ∷ lines) zero
if_label true lines x e h =
    let here : settle (x ∷ lines) zero ≡ suc (settle lines zero) = ap (λ (b : Bool). if b then suc (settle lines zero) else zero) e in
    ap (settle (x ∷ lines)) here ∙ (ap suc h ∙ sym here)
if_label false lines x e h =
    let here : settle (x ∷ lines) zero ≡ zero = ap (λ (b : Bool). if b then suc (settle lines zero) else zero) e in
    ap (settle (x ∷ lines)) here

pub settle_twice : {R : Type 0} (lines : List (Line R)) (j : ℕ) → settle lines (settle lines j) ≡ settle lines j
settle_twice [] j = refl
settle_twice (x ∷ lines) zero = if_label (is_some (label_at (λ r. 0) x.inst)) lines x refl (settle_twice lines zero)
settle_twice (x ∷ lines) (suc j) = ap suc (settle_twice lines j)

-- labels are passed forward
pub settle_up : {R : Type 0} (lines : List (Line R)) (j : ℕ) → j ≤ settle lines j
settle_up [] j = omega arith
settle_up (x ∷ lines) zero = omega arith
settle_up (x ∷ lines) (suc j) = let up = settle_up lines j in omega (arith, up)

-- who stands where labels are passed stands at none
pub at_no_label : {R : Type 0} (lines : List (Line R)) (j : ℕ) (line : Line R) → slice_get lines j ≡ Some line → settle lines j ≡ j → is_some (label_at (λ r. 0) line.inst) ≡ true → ⊥
at_no_label lines j line at here is =
    let up = settle_up lines (suc j) in
    let next : settle lines (suc j) ≡ j = sym (settle_next lines j line at is) ∙ here in
    omega (arith, up, next)

pub within : {A : Type 0} (xs : List A) (j : ℕ) (x : A) → slice_get xs j ≡ Some x → length xs ≤ j → ⊥
within [] j x e h = none-some x e
within (y ∷ xs) zero x e h = omega (arith, h)
within (y ∷ xs) (suc j) x e h = within xs j x e (omega (arith, h))

abbrev pub settled : {R : Type 0} → Mid R → MidProcessor → MidProcessor
settled code m = record m { place = settle code.lines m.place }

module _ {R : Type 0} (key : R → ℕ) (target : Target) (code : Mid R) (base : ℕ) where
  abbrev quiet : MidProcessor → Option MidProcessor
  quiet m = quiet_step key target code base m

  abbrev runs : ℕ → MidProcessor → MidProcessor
  runs n m = advance key target code base n m

  -- ---- the end of the way
  pub stays : (n : ℕ) (m : MidProcessor) → quiet m ≡ None → runs n m ≡ m
  stays zero m e = refl
  stays (suc n) m e = ap (followed (λ next. runs n next) m) e

  pub first_step : (n : ℕ) (m x : MidProcessor) → quiet m ≡ Some x → runs (suc n) m ≡ runs n x
  first_step n m x e = ap (followed (λ next. runs n next) m) e

  more_by : (n : ℕ) (m : MidProcessor) (o : Option MidProcessor) → quiet m ≡ o → quiet (runs n m) ≡ None → runs (suc n) m ≡ runs n m
  more_by zero m o is e = stays (suc zero) m e
  more_by (suc n) m None is e = stays (suc (suc n)) m is ∙ sym (stays (suc n) m is)
  more_by (suc n) m (Some x) is e = first_step (suc n) m x is ∙ (more_by n x (quiet x) refl (ap quiet (sym (first_step n m x is)) ∙ e) ∙ sym (first_step n m x is))

  -- a silent line leads to the same end
  pub leads_on : (n : ℕ) (m x : MidProcessor) → quiet m ≡ Some x → quiet (runs n m) ≡ None → runs n x ≡ runs n m
  leads_on zero m x is e = absurd (none-some x (sym e ∙ is))
  leads_on (suc n) m x is e = more_by n x (quiet x) refl (ap quiet (sym (first_step n m x is)) ∙ e) ∙ sym (first_step n m x is)

  -- ---- labels are silent lines
  label_steps : (i : MidInst R) (m : MidProcessor) → is_some (label_at (λ r. 0) i) ≡ true → private_step key target code base i m ≡ Some (goes_on m)
  unfolding private_step
  label_steps (mid.Label n) m e = refl
  label_steps _ m e = absurd (false≢true e)

  module _ (labels : AreLabelsSilent code) where
    passes : (m : MidProcessor) (line : Line R) → slice_get code.lines m.place ≡ Some line → is_some (label_at (λ r. 0) line.inst) ≡ true → quiet m ≡ Some (goes_on m)
    passes m line at is =
        ap (λ (o : Option (Line R)). quiet_if key target code base o m) at
        ∙ (ap (λ (t : Tag). quiet_by key target code base t line.inst m) (labels m.place line at is) ∙ label_steps line.inst m is)

    -- at one line, by whether it is a label
    settles_by :
        (n : ℕ) (m : MidProcessor) (line : Line R) → slice_get code.lines m.place ≡ Some line → quiet (runs n m) ≡ None
        → (quiet (runs n (goes_on m)) ≡ None → runs n (settled code (goes_on m)) ≡ runs n (goes_on m)) → (b : Bool) → is_some (label_at (λ r. 0) line.inst) ≡ b → runs n (settled code m) ≡ runs n m
    settles_by n m line at e again true is =
        let on = leads_on n m (goes_on m) (passes m line at is) e in
        let up : suc m.place ≡ m.place + 1 = omega arith in
        ap (λ (j : ℕ). runs n (record m { place = j })) (settle_next code.lines m.place line at is ∙ ap (settle code.lines) up) ∙ (again (ap quiet on ∙ e) ∙ on)
    settles_by n m line at e again false is = ap (λ (j : ℕ). runs n (record m { place = j })) (settle_here code.lines m.place line at is)

    settles_if : (fuel n : ℕ) (m : MidProcessor) (o : Option (Line R)) → slice_get code.lines m.place ≡ o → length code.lines ≤ m.place + fuel → quiet (runs n m) ≡ None → runs n (settled code m) ≡ runs n m
    settles_if fuel n m None at long e = ap (λ (j : ℕ). runs n (record m { place = j })) (settle_past code.lines m.place at)
    settles_if zero n m (Some line) at long e = absurd (within code.lines m.place line at (omega (arith, long)))
    settles_if (suc fuel) n m (Some line) at long e =
        settles_by n m line at e (λ h. settles_if fuel n (goes_on m) (slice_get code.lines (m.place + 1)) refl (omega (arith, long)) h) (is_some (label_at (λ r. 0) line.inst)) refl

    pub settles : (n : ℕ) (m : MidProcessor) → quiet (runs n m) ≡ None → runs n (settled code m) ≡ runs n m
    settles n m e = settles_if (length code.lines) n m (slice_get code.lines m.place) refl (omega arith) e

  -- ---- what a look saw and what waits bear on no silent line
  module _ (seen : Option ℕ) (pending : List PendingStore) where
    load_marked : (sp : Spot) (to n : ℕ) (m : MidProcessor) → loaded key target code base sp to n (marked seen pending m) ≡ option_map (marked seen pending) (loaded key target code base sp to n m)
    load_marked (Own offset) to n m = refl
    load_marked (Element g i) to n m = refl
    load_marked Nowhere to n m = refl

    store_marked : (sp : Spot) (number n : ℕ) (m : MidProcessor) → stored key target code base sp number n (marked seen pending m) ≡ option_map (marked seen pending) (stored key target code base sp number n m)
    store_marked (Own offset) number n m = refl
    store_marked (Element g i) number n m = refl
    store_marked Nowhere number n m = refl

    pub step_marked : (i : MidInst R) (m : MidProcessor) → private_step key target code base i (marked seen pending m) ≡ option_map (marked seen pending) (private_step key target code base i m)
    unfolding private_step
    step_marked (mid.Const to n) m = refl
    step_marked (mid.Copy to from) m = refl
    step_marked (mid.Apply operation to left right) m = refl
    step_marked (mid.Shift operation to from by_bits) m = refl
    step_marked (mid.Extend to from bits signed) m = refl
    step_marked (mid.Select to test x y) m = refl
    step_marked (mid.Label n) m = refl
    step_marked (mid.Jump n) m = refl
    step_marked (mid.Branch test x y) m = refl
    step_marked (mid.FrameAddress to offset) m = refl
    step_marked (mid.Load to address n) m = load_marked (spot key target code base m address n) (key to) n m
    step_marked (mid.Store address from n) m = store_marked (spot key target code base m address n) (m.regs (key from)) n m
    step_marked (mid.Atomic o width order weak address args results) m = refl
    step_marked (mid.Call routine role args results) m = refl
    step_marked (mid.Out from) m = refl
    step_marked mid.Trap m = refl
    step_marked mid.Ret m = refl
    step_marked mid.Nop m = refl

    tag_marked : (t : Tag) (i : MidInst R) (m : MidProcessor) → quiet_by key target code base t i (marked seen pending m) ≡ option_map (marked seen pending) (quiet_by key target code base t i m)
    tag_marked tag.Silent i m = step_marked i m
    tag_marked _ i m = refl

    line_marked : (o : Option (Line R)) (m : MidProcessor) → quiet_if key target code base o (marked seen pending m) ≡ option_map (marked seen pending) (quiet_if key target code base o m)
    line_marked None m = refl
    line_marked (Some line) m = tag_marked line.tag line.inst m

    pub quiet_marked : (m : MidProcessor) → quiet (marked seen pending m) ≡ option_map (marked seen pending) (quiet m)
    quiet_marked m = line_marked (line_at key target code base m) m

    runs_by : (n : ℕ) (m : MidProcessor) (o : Option MidProcessor) → quiet m ≡ o → runs n (marked seen pending m) ≡ marked seen pending (runs n m)
    runs_by zero m o is = refl
    runs_by (suc n) m None is = stays (suc n) (marked seen pending m) (quiet_marked m ∙ ap (option_map (marked seen pending)) is) ∙ ap (marked seen pending) (sym (stays (suc n) m is))
    runs_by (suc n) m (Some x) is =
        first_step n (marked seen pending m) (marked seen pending x) (quiet_marked m ∙ ap (option_map (marked seen pending)) is)
        ∙ (runs_by n x (quiet x) refl ∙ ap (marked seen pending) (sym (first_step n m x is)))

    pub runs_marked : (n : ℕ) (m : MidProcessor) → runs n (marked seen pending m) ≡ marked seen pending (runs n m)
    runs_marked n m = runs_by n m (quiet m) refl
