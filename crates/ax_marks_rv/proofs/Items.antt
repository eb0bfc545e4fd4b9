-- Lists of things that each have some code, which stands one after the other from a place on.
use Rattle.std.proofs.Common.{◌≡◌, ℕ, zero, suc, ◌+◌, ◌<◌, ◌≤◌, ◌⊎◌, inl, inr, List, [], ◌∷◌, ◌++◌, Some, length, refl, sym, ap, ◌∙◌, subst, arith, append_assoc, slice_get}
use Rattle.std.proofs.lemmas.List.{length-append}
use Rattle.std.proofs.lemmas.Option.{none-some, same_Some, slice_get_within}

-- ---- lists one after the other
pub get_left : {A : Type 0} (xs ys : List A) (i : ℕ) → i < length xs → slice_get (xs ++ ys) i ≡ slice_get xs i
get_left [] ys i h = absurd (omega (arith, h))
get_left (x ∷ xs) ys zero h = refl
get_left (x ∷ xs) ys (suc i) h = get_left xs ys i (omega (arith, h))

pub get_right : {A : Type 0} (xs ys : List A) (j i : ℕ) → j ≡ length xs + i → slice_get (xs ++ ys) j ≡ slice_get ys i
get_right [] ys j i e = let same : j ≡ i = omega (arith, e) in ap (slice_get ys) same
get_right (x ∷ xs) ys zero i e = absurd (omega (arith, e))
get_right (x ∷ xs) ys (suc j) i e = get_right xs ys j i (omega (arith, e))

pub get_split : {A : Type 0} (xs ys : List A) (j : ℕ) (x : A) → slice_get (xs ++ ys) j ≡ Some x → (slice_get xs j ≡ Some x) ⊎ ((i : ℕ) × (j ≡ length xs + i) × (slice_get ys i ≡ Some x))
get_split [] ys j x h = inr (j, omega arith, h)
get_split (y ∷ xs) ys zero x h = inl h
get_split (y ∷ xs) ys (suc j) x h =
    elim (get_split xs ys j x h) [
      | inl e ↦ inl e
      | inr r ↦ let e = r.1 in inr (r.0, omega (arith, e), r.2)
    ]

-- ---- what holds of each element
module _ {A : Type 0} (P : A → Type 0) where
  abbrev pub Each : List A → Type 0
  Each [] = Unit {0}
  Each (x ∷ xs) = P x × Each xs

  pub each_both : (xs ys : List A) → Each xs → Each ys → Each (xs ++ ys)
  each_both [] ys h g = g
  each_both (x ∷ xs) ys h g = (h.0, each_both xs ys h.1 g)

  pub each_at : (xs : List A) (j : ℕ) (x : A) → Each xs → slice_get xs j ≡ Some x → P x
  each_at [] j x h e = absurd (none-some x e)
  each_at (y ∷ xs) zero x h e = subst P (same_Some y x e) h.0
  each_at (y ∷ xs) (suc j) x h e = each_at xs j x h.1 e

-- ---- what holds of each element at its place
module _ {A : Type 0} (P : ℕ → A → Type 0) where
  abbrev pub Placed : ℕ → List A → Type 0
  Placed at [] = Unit {0}
  Placed at (x ∷ xs) = P at x × Placed (at + 1) xs

  pub placed_both : (at : ℕ) (xs ys : List A) → Placed at xs → Placed (at + length xs) ys → Placed at (xs ++ ys)
  placed_both at [] ys h g = let same : at + 0 ≡ at = omega arith in subst (λ (n : ℕ). Placed n ys) same g
  placed_both at (x ∷ xs) ys h g =
      let same : at + suc (length xs) ≡ at + 1 + length xs = omega arith in
      (h.0, placed_both (at + 1) xs ys h.1 (subst (λ (n : ℕ). Placed n ys) same g))

  pub placed_at : (at : ℕ) (xs : List A) (j : ℕ) (x : A) → Placed at xs → slice_get xs j ≡ Some x → P (at + j) x
  placed_at at [] j x h e = absurd (none-some x e)
  placed_at at (y ∷ xs) zero x h e =
      let same : at ≡ at + 0 = omega arith in
      subst (λ (n : ℕ). P n x) same (subst (P at) (same_Some y x e) h.0)
  placed_at at (y ∷ xs) (suc j) x h e =
      let same : at + 1 + j ≡ at + suc j = omega arith in
      subst (λ (n : ℕ). P n x) same (placed_at (at + 1) xs j x h.1 e)

  pub placed_each : (Q : A → Type 0) → ((place : ℕ) (x : A) → Q x → P place x) → (at : ℕ) (xs : List A) → Each Q xs → Placed at xs
  placed_each Q all at [] h = tt
  placed_each Q all at (x ∷ xs) h = (all at x h.0, placed_each Q all (at + 1) xs h.1)

-- ---- sizes
module _ {T : Type 0} (size : T → ℕ) where
  abbrev pub total : List T → ℕ
  total [] = 0
  total (x ∷ xs) = size x + total xs

  pub total_both : (xs ys : List T) → total (xs ++ ys) ≡ total xs + total ys
  total_both [] ys = omega arith
  total_both (x ∷ xs) ys = let e = total_both xs ys in omega (arith, e)

  -- a place between two elements, and an element
  pub boundary : (xs ys b : List T) (c : T) (a : List T) → xs ++ ys ≡ b ++ (c ∷ a) → (total xs ≤ total b) ⊎ (total b + size c ≤ total xs)
  boundary [] ys b c a e = inl (omega arith)
  boundary (x ∷ xs) ys [] c a e =
      let same : x ≡ c = cc in
      let q = ap size same in
      inr (omega (arith, q))
  boundary (x ∷ xs) ys (d ∷ b) c a e =
      let same : x ≡ d = cc in
      let q = ap size same in
      let rest : xs ++ ys ≡ b ++ (c ∷ a) = cc in
      elim (boundary xs ys b c a rest) [
        | inl h ↦ inl (omega (arith, q, h))
        | inr h ↦ inr (omega (arith, q, h))
      ]

  -- two elements: one stands before the other, or they are one
  pub apart : (b : List T) (c : T) (a d : List T) (e : T) (g : List T) → b ++ (c ∷ a) ≡ d ++ (e ∷ g) → (total b + size c ≤ total d) ⊎ ((total d + size e ≤ total b) ⊎ ((total b ≡ total d) × (c ≡ e)))
  apart [] c a [] e g h = let same : c ≡ e = cc in inr (inr (refl, same))
  apart [] c a (x ∷ d) e g h =
      let same : c ≡ x = cc in
      let q = ap size same in
      inl (omega (arith, q))
  apart (x ∷ b) c a [] e g h =
      let same : x ≡ e = cc in
      let q = ap size same in
      inr (inl (omega (arith, q)))
  apart (x ∷ b) c a (y ∷ d) e g h =
      let same : x ≡ y = cc in
      let q = ap size same in
      let rest : b ++ (c ∷ a) ≡ d ++ (e ∷ g) = cc in
      elim (apart b c a d e g rest) [
        | inl i ↦ inl (omega (arith, q, i))
        | inr r ↦ elim r [
          | inl i ↦ inr (inl (omega (arith, q, i)))
          | inr i ↦ let n = i.0 in inr (inr (omega (arith, q, n), i.1))
        ]
      ]

-- ---- code
module _ {T I : Type 0} (code : ℕ → T → List I) (size : T → ℕ) where
  abbrev pub laid : ℕ → List T → List I
  laid at [] = []
  laid at (x ∷ xs) = code at x ++ laid (at + size x) xs

  pub laid_both : (at : ℕ) (xs ys : List T) → laid at (xs ++ ys) ≡ laid at xs ++ laid (at + total size xs) ys
  laid_both at [] ys = let same : at ≡ at + 0 = omega arith in ap (λ (n : ℕ). laid n ys) same
  laid_both at (x ∷ xs) ys =
      let same : at + size x + total size xs ≡ at + (size x + total size xs) = omega arith in
      ap (λ (is : List I). code at x ++ is) (laid_both (at + size x) xs ys)
      ∙ (sym (append_assoc (code at x) (laid (at + size x) xs) (laid (at + size x + total size xs) ys))
      ∙ ap (λ (n : ℕ). (code at x ++ laid (at + size x) xs) ++ laid n ys) same)

  module _ (sizes : (at : ℕ) (x : T) → length (code at x) ≡ size x) where
    pub length_laid : (at : ℕ) (xs : List T) → length (laid at xs) ≡ total size xs
    length_laid at [] = refl
    length_laid at (x ∷ xs) =
        let here = sizes at x in
        let rest = length_laid (at + size x) xs in
        let both = length-append (code at x) (laid (at + size x) xs) in
        omega (arith, here, rest, both)

    -- the thing whose code has an instruction
    pub record Found (at : ℕ) (xs : List T) (j : ℕ) (i : I) : Type 0 where
      pub before : List T
      pub item : T
      pub after : List T
      pub is : xs ≡ before ++ (item ∷ after)
      pub offset : ℕ
      pub place : j ≡ total size before + offset
      pub inside : offset < size item
      pub get : slice_get (code (at + total size before) item) offset ≡ Some i

    pub find : (at : ℕ) (xs : List T) (j : ℕ) (i : I) → slice_get (laid at xs) j ≡ Some i → Found at xs j i
    find at [] j i e = absurd (none-some i e)
    find at (x ∷ xs) j i e =
        elim (get_split (code at x) (laid (at + size x) xs) j i e) [
          | inl h ↦
              let n = slice_get_within (code at x) j i h in
              let m = sizes at x in
              let same : at ≡ at + 0 = omega arith in
              record { before = []; item = x; after = xs; is = refl; offset = j; place = omega arith; inside = omega (arith, n, m); get = subst (λ (q : ℕ). slice_get (code q x) j ≡ Some i) same h }
          | inr r ↦
              let f = find (at + size x) xs r.0 i r.2 in
              let e = r.1 in
              let m = sizes at x in
              let p = f.place in
              let same : at + size x + total size f.before ≡ at + (size x + total size f.before) = omega arith in
              record {
                before = x ∷ f.before;
                item = f.item;
                after = f.after;
                is = ap (λ (ys : List T). x ∷ ys) f.is;
                offset = f.offset;
                place = omega (arith, e, m, p);
                inside = f.inside;
                get = subst (λ (q : ℕ). slice_get (code q f.item) f.offset ≡ Some i) same f.get;
              }
        ]

    -- and the code of some of them
    pub get_among : (at : ℕ) (xs ys zs : List T) (j : ℕ) → j < total size ys → slice_get (laid at (xs ++ (ys ++ zs))) (total size xs + j) ≡ slice_get (laid (at + total size xs) ys) j
    get_among at xs ys zs j h =
        let mid = at + total size xs in
        let n = length_laid at xs in
        let m = length_laid mid ys in
        ap (λ (is : List I). slice_get is (total size xs + j)) (laid_both at xs (ys ++ zs))
        ∙ (get_right (laid at xs) (laid mid (ys ++ zs)) (total size xs + j) j (omega (arith, n))
        ∙ (ap (λ (is : List I). slice_get is j) (laid_both mid ys zs)
        ∙ get_left (laid mid ys) (laid (mid + total size ys) zs) j (omega (arith, m, h))))
