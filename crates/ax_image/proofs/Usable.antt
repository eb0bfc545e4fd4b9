-- Each line of selected code has slots for its registers, and numbers in their ranges.
use Rattle.std.proofs.Common.{◌≡◌, ℕ, zero, suc, ◌<◌, ◌≤◌, Bool, true, false, ◌&&◌, ◌||◌, ◌⊎◌, inl, inr, List, [], ◌∷◌, ◌++◌, refl, arith}
use Rattle.std.specs.Prelude.{Contains, IsTrue, nat_eq, nat_le, nat_lt}
use Rattle.std.proofs.lemmas.Bool.{and_parts, false≢true}
use Rattle.std.proofs.lemmas.Bool.Decides.{nat_tests}
use Rattle.ax_tags.specs.declared.tags.Tag.{Tag}
use Rattle.ax_mid.specs.declared.code.Line.{Line}
use Rattle.ax_mid.specs.declared.instruction.MidInst.{MidInst}
use Rattle.ax_mid.specs.declared.instruction.MidInst.TheVariants as mid
use Rattle.ax_mid.specs.declared.registers.Virtual.{Virtual}
use Rattle.ax_mid.specs.WellFormed.{is_access_size, is_act, is_shaped, is_silent, registers_of}
use Rattle.ax_emit.specs.Touches.{IsSize}
use Rattle.ax_selected.specs.Formed.{IsSmallLine}
use Rattle.ax_selected.specs.Registers.{key}
use Rattle.ax_image.specs.Lowering.{frame_depth}

-- a register has a slot
abbrev pub HasSlot : Virtual → Type 0
HasSlot r = key r < 8208

abbrev pub HaveSlots : List Virtual → Type 0
HaveSlots [] = Unit {0}
HaveSlots (r ∷ rs) = HasSlot r × HaveSlots rs

-- of an instruction that calls no routine
abbrev pub IsUsable : MidInst Virtual → Type 0
IsUsable (mid.Const to n) = HasSlot to
IsUsable (mid.Copy to from) = HasSlot to × HasSlot from
IsUsable (mid.Apply o to left right) = HasSlot to × HasSlot left × HasSlot right
IsUsable (mid.Shift o to from by) = HasSlot to × HasSlot from × (by < 64)
IsUsable (mid.Extend to from bits signed) = HasSlot to × HasSlot from × (1 ≤ bits) × (bits ≤ 64)
IsUsable (mid.Select to test x y) = HasSlot to × HasSlot test × HasSlot x × HasSlot y
IsUsable (mid.Label n) = Unit {0}
IsUsable (mid.Jump n) = Unit {0}
IsUsable (mid.Branch test a b) = HasSlot test
IsUsable (mid.FrameAddress to offset) = HasSlot to × (offset < frame_depth)
IsUsable (mid.Load to address n) = HasSlot to × HasSlot address × IsSize n
IsUsable (mid.Store address from n) = HasSlot address × HasSlot from × IsSize n
IsUsable (mid.Atomic o width order weak address args results) = HasSlot address × HaveSlots args × HaveSlots results
IsUsable (mid.Call routine role args results) = ⊥
IsUsable (mid.Out from) = HasSlot from
IsUsable mid.Trap = Unit {0}
IsUsable mid.Ret = Unit {0}
IsUsable mid.Nop = Unit {0}

eq_of : (a b : ℕ) → nat_eq a b ≡ true → a ≡ b
eq_of a b h = grind (arith, nat_tests, h)

lt_of : (a b : ℕ) → nat_lt a b ≡ true → a < b
lt_of a b h = grind (arith, nat_tests)

le_of : (a b : ℕ) → nat_le a b ≡ true → a ≤ b
le_of a b h = grind (arith, nat_tests)

or_of : (a b : Bool) → (a || b) ≡ true → (a ≡ true) ⊎ (b ≡ true)
or_of true b h = inl refl
or_of false b h = inr h

size_of_access : (n : ℕ) → is_access_size n ≡ true → IsSize n
size_of_access n h = first (or_of (nat_eq n 1 || nat_eq n 2 || nat_eq n 4) (nat_eq n 8) h)
  where
    third : (nat_eq n 1 ≡ true) ⊎ (nat_eq n 2 ≡ true) → IsSize n
    third (inl e) = inl (eq_of n 1 e)
    third (inr e) = inr (inl (eq_of n 2 e))

    second : ((nat_eq n 1 || nat_eq n 2) ≡ true) ⊎ (nat_eq n 4 ≡ true) → IsSize n
    second (inl e) = third (or_of (nat_eq n 1) (nat_eq n 2) e)
    second (inr e) = inr (inr (inl (eq_of n 4 e)))

    first : ((nat_eq n 1 || nat_eq n 2 || nat_eq n 4) ≡ true) ⊎ (nat_eq n 8 ≡ true) → IsSize n
    first (inl e) = second (or_of (nat_eq n 1 || nat_eq n 2) (nat_eq n 4) e)
    first (inr e) = inr (inr (inr (eq_of n 8 e)))

-- ---- elements of lists
here : {X : Type 0} (x : X) (xs : List X) → Contains (x ∷ xs) x
here x xs = (0, omega arith, refl)

behind : {X : Type 0} (y : X) (xs : List X) (x : X) → Contains xs x → Contains (y ∷ xs) x
behind y xs x c = let less = c.1 in (suc c.0, omega (arith, less), c.2)

first_of : {X : Type 0} (xs ys : List X) (x : X) → Contains xs x → Contains (xs ++ ys) x
first_of [] ys x c = let less = c.1 in absurd (omega (arith, less))
first_of (y ∷ xs) ys x (zero, less, e) = (zero, omega arith, e)
first_of (y ∷ xs) ys x (suc k, less, e) = behind y (xs ++ ys) x (first_of xs ys x (k, omega (arith, less), e))

last_of : {X : Type 0} (xs ys : List X) (x : X) → Contains ys x → Contains (xs ++ ys) x
last_of [] ys x c = c
last_of (y ∷ xs) ys x c = behind y (xs ++ ys) x (last_of xs ys x c)

have_slots : (rs : List Virtual) → ((r : Virtual) → Contains rs r → HasSlot r) → HaveSlots rs
have_slots [] h = tt
have_slots (r ∷ rs) h = (h r (here r rs), have_slots rs (λ q c. h q (behind r rs q c)))

usable : (t : Tag) (i : MidInst Virtual) → IsTrue (is_shaped t i) → ((r : Virtual) → Contains (registers_of i) r → HasSlot r) → ((to : Virtual) (offset : ℕ) → i ≡ mid.FrameAddress to offset → offset ≤ 32768) → IsUsable i
unfolding is_shaped registers_of
usable t (mid.Const to n) h low frame = low to (0, omega arith, refl)
usable t (mid.Copy to from) h low frame = (low to (0, omega arith, refl), low from (1, omega arith, refl))
usable t (mid.Apply o to left right) h low frame = (low to (0, omega arith, refl), low left (1, omega arith, refl), low right (2, omega arith, refl))
usable t (mid.Shift o to from n) h low frame = (low to (0, omega arith, refl), low from (1, omega arith, refl), lt_of n 64 (and_parts (is_silent t || is_act t) (nat_lt n 64) h).1)
usable t (mid.Extend to from bits signed) h low frame =
    let parts = and_parts ((is_silent t || is_act t) && nat_lt 0 bits) (nat_le bits 64) h in
    (low to (0, omega arith, refl), low from (1, omega arith, refl), lt_of 0 bits (and_parts (is_silent t || is_act t) (nat_lt 0 bits) parts.0).1, le_of bits 64 parts.1)
usable t (mid.Select to test x y) h low frame = (low to (0, omega arith, refl), low test (1, omega arith, refl), low x (2, omega arith, refl), low y (3, omega arith, refl))
usable t (mid.Label n) h low frame = tt
usable t (mid.Jump n) h low frame = tt
usable t (mid.Branch test a b) h low frame = low test (0, omega arith, refl)
usable t (mid.FrameAddress to offset) h low frame = (low to (0, omega arith, refl), (let less = frame to offset refl in omega (arith, less)))
usable t (mid.Load to address n) h low frame = (low to (0, omega arith, refl), low address (1, omega arith, refl), size_of_access n (and_parts (is_silent t || is_act t) (is_access_size n) h).1)
usable t (mid.Store address from n) h low frame = (low address (0, omega arith, refl), low from (1, omega arith, refl), size_of_access n (and_parts (is_silent t || is_act t) (is_access_size n) h).1)
usable t (mid.Atomic o width order weak address args results) h low frame = (
  low address (here address (args ++ results)),
  have_slots args (λ r c. low r (behind address (args ++ results) r (first_of args results r c))),
  have_slots results (λ r c. low r (behind address (args ++ results) r (last_of args results r c))),
)
usable t (mid.Call routine role args results) h low frame = absurd (false≢true h)
usable t (mid.Out from) h low frame = low from (0, omega arith, refl)
usable t mid.Trap h low frame = tt
usable t mid.Ret h low frame = tt
usable t mid.Nop h low frame = tt

pub line_usable : (line : Line Virtual) → IsSmallLine line → IsUsable line.inst
line_usable line small = usable line.tag line.inst small.shaped small.registers small.frame
