-- Lines that are pushed one after the other.
use Rattle.std.proofs.Common.{◌≡◌, ℕ, List, [], ◌∷◌, ◌++◌, length, Result, Ok, Err, refl, ap, ◌∙◌, append_assoc, append-nil, map, subst, sym, ap₂}
use Rattle.std.specs.Prelude.{OnOk}
use Rattle.std.proofs.lemmas.List.{map-append, nil_from_length}
use Rattle.ax_mid.specs.declared.code.Line.{Line}
use Rattle.ax_mid.specs.declared.code.Mid.{Mid}
use Rattle.ax_mid.specs.declared.instruction.MidInst.{MidInst}
use Rattle.ax_mid.specs.declared.registers.Virtual.{Virtual}
use Rattle.ax_mid.specs.Built.{pushed}
use Rattle.ax_selected.specs.Selected.{silent, straight}

pub pushed_both : {R : Type 0} (xs ys : List (Line R)) (x y z : Mid R) → y ≡ pushed xs x → z ≡ pushed ys y → z ≡ pushed (xs ++ ys) x
pushed_both xs ys x y z first second = second ∙ (ap (pushed ys) first ∙ ap (λ lines. record { globals = x.globals; lines = lines }) (append_assoc x.lines xs ys))

pub then_pushed : {A E R : Type 0} (r : Result A E) (xs ys : List (Line R)) (x y z : Mid R) → y ≡ pushed xs x → OnOk r (z ≡ pushed ys y) → OnOk r (z ≡ pushed (xs ++ ys) x)
then_pushed (Ok a) xs ys x y z first second = pushed_both xs ys x y z first second
then_pushed (Err e) xs ys x y z first second = tt

pub pushed_none : {R : Type 0} (x : Mid R) → pushed [] x ≡ x
pushed_none x = ap (λ lines. record { globals = x.globals; lines = lines }) (append-nil x.lines)

-- what is left to push, before and after a part of it
pub pushed_rest : {A R : Type 0} (f : A → Line R) (xs ys : List A) (x y : Mid R) → y ≡ pushed (map f xs) x → pushed (map f ys) y ≡ pushed (map f (xs ++ ys)) x
pushed_rest f xs ys x y e = pushed_both (map f xs) (map f ys) x y (pushed (map f ys) y) e refl ∙ ap (λ lines. pushed lines x) (sym (map-append f xs ys))

-- ---- lines without an event, one after the other
pub silent_next : (f n : ℕ) (xs ys : List (MidInst Virtual)) (i : MidInst Virtual) (code next : Mid Virtual) → xs ≡ i ∷ ys → next ≡ pushed (silent f n i ∷ []) code → pushed (map (silent f n) ys) next ≡ pushed (map (silent f n) xs) code
silent_next f n xs ys i code next is e = pushed_rest (silent f n) (i ∷ []) ys code next e ∙ ap (λ (zs : List (MidInst Virtual)). pushed (map (silent f n) zs) code) (sym is)

pub silent_end : (f n : ℕ) (xs : List (MidInst Virtual)) (code : Mid Virtual) → length xs ≡ 0 → pushed (map (silent f n) xs) code ≡ code
silent_end f n xs code e = ap (λ (zs : List (MidInst Virtual)). pushed (map (silent f n) zs) code) (nil_from_length xs e) ∙ pushed_none code

pub ruleset pushes = (silent_next, silent_end)

-- ---- lines that are those of a definition
pub same_lines : {i j : MidInst Virtual} {is js : List (MidInst Virtual)} → i ≡ j → is ≡ js → i ∷ is ≡ j ∷ js
same_lines e f = ap₂ (λ (i : MidInst Virtual) (is : List (MidInst Virtual)). i ∷ is) e f

pub as_defined : {A E : Type 0} (r : Result A E) (f k : ℕ) (is js : List (MidInst Virtual)) (l m : MidInst Virtual) (x y : Mid Virtual) → is ≡ js → l ≡ m → OnOk r (y ≡ pushed (straight f k (record { silent = is; last = l })) x) → OnOk r (y ≡ pushed (straight f k (record { silent = js; last = m })) x)
as_defined r f k is js l m x y e g h =
    subst (λ (n : MidInst Virtual). OnOk r (y ≡ pushed (straight f k (record { silent = js; last = n })) x)) g
    (subst (λ (ns : List (MidInst Virtual)). OnOk r (y ≡ pushed (straight f k (record { silent = ns; last = l })) x)) e h)
