-- What is read after a write.
use Rattle.std.proofs.Common.{◌≡◌, ℕ, zero, suc, ◌+◌, ◌-◌, ◌*◌, ◌/◌, ◌%◌, ◌^◌, ◌<◌, ◌≤◌, true, false, refl, sym, ap, ◌∙◌, subst, arith}
use Rattle.std.specs.Prelude.{◌&&◌, nat_le, nat_lt, if◌then◌else◌}
use Rattle.std.proofs.lemmas.Bool.Decides.{nat_tests}
use Rattle.std.proofs.lemmas.Nat.{mod-pow-add, pow-add}
use Rattle.std.proofs.Math.Nat.{div-div-eq-div-mul, pow-le-pow_right}
use Rattle.ax_store.specs.Bytes.{number_at, byte_of, written}

pub written_inside : (f : ℕ → ℕ) (a n v i : ℕ) → i < n → written f a n v (a + i) ≡ byte_of v i
written_inside f a n v i h =
    let x : nat_le a (a + i) ≡ true = grind (arith, nat_tests) in
    let y : nat_lt (a + i) (a + n) ≡ true = grind (arith, nat_tests) in
    ap (λ t. if t && nat_lt (a + i) (a + n) then byte_of v (a + i - a) else f (a + i)) x ∙ ap (λ t. if t then byte_of v (a + i - a) else f (a + i)) y ∙ ap (byte_of v) (let e : a + i - a ≡ i = omega arith in e)

pub written_below : (f : ℕ → ℕ) (a n v b : ℕ) → b < a → written f a n v b ≡ f b
written_below f a n v b h =
    let x : nat_le a b ≡ false = grind (arith, nat_tests) in
    ap (λ t. if t && nat_lt b (a + n) then byte_of v (b - a) else f b) x

pub written_above : (f : ℕ → ℕ) (a n v b : ℕ) → a + n ≤ b → written f a n v b ≡ f b
written_above f a n v b h =
    let x : nat_le a b ≡ true = grind (arith, nat_tests) in
    let y : nat_lt b (a + n) ≡ false = grind (arith, nat_tests) in
    ap (λ t. if t && nat_lt b (a + n) then byte_of v (b - a) else f b) x ∙ ap (λ t. if t then byte_of v (b - a) else f b) y

pub number_same : (f g : ℕ → ℕ) (a n : ℕ) → ((i : ℕ) → i < n → f (a + i) ≡ g (a + i)) → number_at f a n ≡ number_at g a n
number_same f g a zero h = refl
number_same f g a (suc n) h =
    let here : f a ≡ g a = (let e : a + 0 ≡ a = omega arith in subst (λ x. f x ≡ g x) e (h 0 (omega arith))) in
    let rest = number_same f g (a + 1) n (λ i lt. let e : a + (i + 1) ≡ a + 1 + i = omega arith in subst (λ x. f x ≡ g x) e (h (i + 1) (omega arith))) in
    ap (λ x. x + 2 ^ 8 * number_at f (a + 1) n) here ∙ ap (λ x. g a + 2 ^ 8 * x) rest

mod_one : (x : ℕ) → x % 1 ≡ 0
mod_one x = omega arith

div_one : (x : ℕ) → x / 1 ≡ x
div_one x = omega arith

-- the bytes of a number, from byte k on, spell what is left of it
pub spelled : (f : ℕ → ℕ) (a v k n : ℕ) → ((i : ℕ) → i < n → f (a + i) ≡ byte_of v (k + i)) → number_at f a n ≡ v / 2 ^ (8 * k) % 2 ^ (8 * n)
spelled f a v k zero h = sym (mod_one (v / 2 ^ (8 * k)))
spelled f a v k (suc n) h =
    let x = v / 2 ^ (8 * k) in
    let here : f a ≡ x % 2 ^ 8 = (let e : a + 0 ≡ a = omega arith in let g : k + 0 ≡ k = omega arith in subst (λ y. f y ≡ x % 2 ^ 8) e (h 0 (omega arith) ∙ ap (byte_of v) g)) in
    let rest : number_at f (a + 1) n ≡ v / 2 ^ (8 * (k + 1)) % 2 ^ (8 * n) = spelled f (a + 1) v (k + 1) n (λ i lt. let e : a + (i + 1) ≡ a + 1 + i = omega arith in let g : k + (i + 1) ≡ k + 1 + i = omega arith in subst (λ y. f y ≡ byte_of v (k + 1 + i)) e (h (i + 1) (omega arith) ∙ ap (byte_of v) g)) in
    let up : 8 * (k + 1) ≡ 8 * k + 8 = omega arith in
    let next : v / 2 ^ (8 * (k + 1)) ≡ x / 2 ^ 8 = ap (λ m. v / 2 ^ m) up ∙ ap (λ m. v / m) (pow-add 2 (8 * k) 8) ∙ sym (div-div-eq-div-mul v (2 ^ (8 * k)) (2 ^ 8)) in
    let size : 8 * suc n ≡ 8 * n + 8 = omega arith in
    let whole : x % 2 ^ (8 * suc n) ≡ (x / 2 ^ 8 % 2 ^ (8 * n)) * 2 ^ 8 + x % 2 ^ 8 = ap (λ m. x % 2 ^ m) size ∙ mod-pow-add x (8 * n) 8 in
    let q = x / 2 ^ 8 % 2 ^ (8 * n) in
    let rest' : number_at f (a + 1) n ≡ q = rest ∙ ap (λ y. y % 2 ^ (8 * n)) next in
    let swap : x % 2 ^ 8 + 2 ^ 8 * q ≡ q * 2 ^ 8 + x % 2 ^ 8 = omega arith in
    ap (λ y. y + 2 ^ 8 * number_at f (a + 1) n) here ∙ ap (λ y. x % 2 ^ 8 + 2 ^ 8 * y) rest' ∙ swap ∙ sym whole

pub number_written : (f : ℕ → ℕ) (a n v : ℕ) → number_at (written f a n v) a n ≡ v % 2 ^ (8 * n)
number_written f a n v =
    let e : v / 2 ^ (8 * 0) ≡ v = div_one v in
    spelled (written f a n v) a v 0 n (λ i lt. written_inside f a n v i lt ∙ ap (byte_of v) (let g : i ≡ 0 + i = omega arith in g)) ∙ ap (λ x. x % 2 ^ (8 * n)) e

-- the number from byte i on, by the byte there and the number above it
pub number_more : (f : ℕ → ℕ) (a n i : ℕ) → i < n → number_at f (a + i) (n - i) ≡ f (a + i) + 2 ^ 8 * number_at f (a + (i + 1)) (n - (i + 1))
number_more f a n i h =
    let e : n - i ≡ suc (n - (i + 1)) = omega arith in
    let g : a + i + 1 ≡ a + (i + 1) = omega arith in
    ap (number_at f (a + i)) e ∙ ap (λ k. f (a + i) + 2 ^ 8 * number_at f k (n - (i + 1))) g

-- with one more byte it stays below the next power
pub number_room : (n i v b : ℕ) → i < n → v < 2 ^ (8 * (n - (i + 1))) → b < 2 ^ 8 → v * 2 ^ 8 + b < 2 ^ (8 * (n - i))
number_room n i v b h small byte =
    let e : 8 * (n - i) ≡ 8 * (n - (i + 1)) + 8 = omega arith in
    let p : 2 ^ (8 * (n - i)) ≡ 2 ^ (8 * (n - (i + 1))) * 2 ^ 8 = ap (λ k. 2 ^ k) e ∙ pow-add 2 (8 * (n - (i + 1))) 8 in
    let r : v * 2 ^ 8 + b < 2 ^ (8 * (n - (i + 1))) * 2 ^ 8 = omega arith in
    subst (λ x. v * 2 ^ 8 + b < x) (sym p) r

-- at most 16 bytes fit 128 bits
pub bytes_fit : (n m v : ℕ) → n ≤ 16 → m ≤ n → v < 2 ^ (8 * m) → v < 2 ^ 128
bytes_fit n m v h k small =
    let e : 8 * m ≤ 128 = omega arith in
    let p : 2 ^ (8 * m) ≤ 2 ^ 128 = pow-le-pow_right {n = 2} (omega arith) {i = 8 * m} {j = 128} e in
    omega arith

pub number_small : (f : ℕ → ℕ) → ((b : ℕ) → f b < 2 ^ 8) → (a n : ℕ) → number_at f a n < 2 ^ (8 * n)
number_small f bytes a zero = omega arith
number_small f bytes a (suc n) =
    let e : 8 * suc n ≡ 8 * n + 8 = omega arith in
    let p : 2 ^ (8 * suc n) ≡ 2 ^ (8 * n) * 2 ^ 8 = ap (λ k. 2 ^ k) e ∙ pow-add 2 (8 * n) 8 in
    let h : f a < 2 ^ 8 = bytes a in
    let g : number_at f (a + 1) n < 2 ^ (8 * n) = number_small f bytes (a + 1) n in
    let r : f a + 2 ^ 8 * number_at f (a + 1) n < 2 ^ (8 * n) * 2 ^ 8 = omega arith in
    subst (λ x. f a + 2 ^ 8 * number_at f (a + 1) n < x) (sym p) r
