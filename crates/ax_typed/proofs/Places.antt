-- The places of instructions: in their blocks, by their numbers, and among a function's spots.
use Rattle.std.proofs.Common.{◌≡◌, ℕ, zero, suc, ◌+◌, ◌⊎◌, inl, inr, Bool, true, false, List, [], ◌∷◌, ◌++◌, Some, length, refl, sym, ap, ◌∙◌, subst, arith, Contains, flat_map, slice_get}
use Rattle.std.specs.Prelude.{◌&&◌, not, if◌then◌else◌, drop}
use Rattle.std.specs.List.{list_all, prefix_len}
use Rattle.std.proofs.lemmas.Bool.{and_parts, true≢false, false≢true}
use Rattle.std.proofs.lemmas.List.Elements.{Contains-append_left, Contains-append_right}
use Rattle.std.proofs.lemmas.Option.{none-some, same_Some}
use Rattle.ax_module.specs.declared.inst.Inst.{Inst}
use Rattle.ax_module.specs.declared.inst.Inst.TheVariants.{Phi}
use Rattle.ax_module.specs.declared.module.Block.{Block}
use Rattle.ax_module.specs.declared.module.Function.{Function}
use Rattle.ax_module.specs.Kinds.{is_phi, is_terminator}
use Rattle.ax_module.specs.WellFormed.{is_body, is_order}
use Rattle.ax_source_run.specs.SourceInstructions.{first_number, insts_of_block}
use Rattle.ax_rules.specs.Points.{Spot, spots, spots_from, spots_of_block}

abbrev pub all_insts : List Block → List Inst
all_insts blocks = flat_map (λ (block : Block). block.insts) blocks

-- ---- lists one after the other
get_left : {A : Type 0} (xs ys : List A) (i : ℕ) (x : A) → slice_get xs i ≡ Some x → slice_get (xs ++ ys) i ≡ Some x
get_left [] ys i x h = absurd (none-some x h)
get_left (y ∷ xs) ys zero x h = h
get_left (y ∷ xs) ys (suc i) x h = get_left xs ys i x h

get_right : {A : Type 0} (xs ys : List A) (j i : ℕ) → j ≡ length xs + i → slice_get (xs ++ ys) j ≡ slice_get ys i
get_right [] ys j i e = let same : j ≡ i = omega (arith, e) in ap (slice_get ys) same
get_right (y ∷ xs) ys zero i e = absurd (omega (arith, e))
get_right (y ∷ xs) ys (suc j) i e = get_right xs ys j i (omega (arith, e))

pub here : {A : Type 0} (x : A) (xs : List A) → Contains (x ∷ xs) x
here x xs = (0, omega arith, refl)

pub there : {A : Type 0} (x y : A) (xs : List A) → Contains xs y → Contains (x ∷ xs) y
there x y xs h = Contains-append_right (x ∷ []) xs y h

-- ---- the instruction at a place has its number
number_is : (blocks : List Block) (b i k : ℕ) (x : Inst) → k ≡ first_number blocks b + i → slice_get (insts_of_block blocks b) i ≡ Some x → slice_get (all_insts blocks) k ≡ Some x
number_is [] b i k x e h = absurd (none-some x h)
number_is (y ∷ blocks) zero i k x e h = let same : k ≡ i = omega (arith, e) in ap (slice_get (y.insts ++ all_insts blocks)) same ∙ get_left y.insts (all_insts blocks) i x h
number_is (y ∷ blocks) (suc b) i k x e h =
    let n = first_number blocks b in
    get_right y.insts (all_insts blocks) k (n + i) (omega (arith, e)) ∙ number_is blocks b i (n + i) x refl h

pub number_at : (blocks : List Block) (b i : ℕ) (x : Inst) → slice_get (insts_of_block blocks b) i ≡ Some x → slice_get (all_insts blocks) (first_number blocks b + i) ≡ Some x
number_at blocks b i x h = number_is blocks b i (first_number blocks b + i) x refl h

-- ---- and it is among the spots
abbrev spot : ℕ → ℕ → Inst → Spot
spot b k x = record { block = b; number = k; inst = x }

spot_in_block : (b n i k : ℕ) (insts : List Inst) (x : Inst) → k ≡ n + i → slice_get insts i ≡ Some x → Contains (spots_of_block b n insts) (spot b k x)
spot_in_block b n i k [] x e h = absurd (none-some x h)
spot_in_block b n zero k (y ∷ insts) x e h =
    let same : n ≡ k = omega (arith, e) in
    let is = same_Some y x h in
    subst (λ (t : Spot). Contains (spots_of_block b n (y ∷ insts)) t) (λ d. spot b (same d) (is d)) (here (spot b n y) (spots_of_block b (n + 1) insts))
spot_in_block b n (suc i) k (y ∷ insts) x e h =
    there (spot b n y) (spot b k x) (spots_of_block b (n + 1) insts) (spot_in_block b (n + 1) i k insts x (omega (arith, e)) h)

spot_from : (c n : ℕ) (blocks : List Block) (b i d k : ℕ) (x : Inst) → d ≡ c + b → k ≡ n + (first_number blocks b + i) → slice_get (insts_of_block blocks b) i ≡ Some x → Contains (spots_from c n blocks) (spot d k x)
spot_from c n [] b i d k x e f h = absurd (none-some x h)
spot_from c n (y ∷ blocks) zero i d k x e f h =
    let same : c ≡ d = omega (arith, e) in
    subst (λ (a : ℕ). Contains (spots_from c n (y ∷ blocks)) (spot a k x)) same
    (Contains-append_left (spots_of_block c n y.insts) (spots_from (c + 1) (n + length y.insts) blocks) (spot c k x) (spot_in_block c n i k y.insts x (omega (arith, f)) h))
spot_from c n (y ∷ blocks) (suc b) i d k x e f h =
    Contains-append_right (spots_of_block c n y.insts) (spots_from (c + 1) (n + length y.insts) blocks) (spot d k x)
    (spot_from (c + 1) (n + length y.insts) blocks b i d k x (omega (arith, e)) (omega (arith, f)) h)

pub spot_at : (f : Function) (b i k : ℕ) (x : Inst) → k ≡ first_number f.blocks b + i → slice_get (insts_of_block f.blocks b) i ≡ Some x → Contains (spots f) (record { block = b; number = k; inst = x })
spot_at f b i k x e h = spot_from 0 0 f.blocks b i b k x (omega arith) (omega (arith, e)) h

-- ---- an instruction by its number has a place
pub record IsAt (blocks : List Block) (k : ℕ) (x : Inst) : Type 0 where
  pub block : ℕ
  pub index : ℕ
  pub inst : slice_get (insts_of_block blocks block) index ≡ Some x
  pub number : k ≡ first_number blocks block + index

get_split : {A : Type 0} (xs ys : List A) (j : ℕ) (x : A) → slice_get (xs ++ ys) j ≡ Some x → (slice_get xs j ≡ Some x) ⊎ ((i : ℕ) × (j ≡ length xs + i) × (slice_get ys i ≡ Some x))
get_split [] ys j x h = inr (j, omega arith, h)
get_split (y ∷ xs) ys zero x h = inl h
get_split (y ∷ xs) ys (suc j) x h =
    elim (get_split xs ys j x h) [
      | inl e ↦ inl e
      | inr r ↦ let e = r.1 in inr (r.0, omega (arith, e), r.2)
    ]

pub place_of : (blocks : List Block) (k : ℕ) (x : Inst) → slice_get (all_insts blocks) k ≡ Some x → IsAt blocks k x
place_of [] k x h = absurd (none-some x h)
place_of (y ∷ blocks) k x h =
    elim (get_split y.insts (all_insts blocks) k x h) [
      | inl e ↦ record { block = 0; index = k; inst = e; number = omega arith }
      | inr r ↦
          let p = place_of blocks r.0 x r.2 in
          let e = r.1 in
          let n = p.number in
          record { block = suc p.block; index = p.index; inst = p.inst; number = omega (arith, e, n) }
    ]

-- ---- a terminator is its block's last instruction
abbrev EndsAt : List Inst → Type 0
EndsAt insts = (i : ℕ) (x : Inst) → slice_get insts i ≡ Some x → is_terminator x ≡ true → i + 1 ≡ length insts

one_further : (insts : List Inst) (y : Inst) → (is_terminator y ≡ true → ⊥) → EndsAt insts → EndsAt (y ∷ insts)
one_further insts y never rest zero x h t = absurd (never (ap is_terminator (same_Some y x h) ∙ t))
one_further insts y never rest (suc i) x h t = let n = rest i x h t in omega (arith, n)

none_ends : EndsAt []
none_ends i x h t = absurd (none-some x h)

one_ends : (y : Inst) → EndsAt (y ∷ [])
one_ends y zero x h t = omega arith
one_ends y (suc i) x h t = absurd (none-some x h)

body_is : (s : Bool) (y z : Inst) (insts : List Inst) → is_terminator y ≡ s → (if s then false else not (is_phi y) && is_body (z ∷ insts)) ≡ true → (is_body (z ∷ insts) ≡ true → EndsAt (z ∷ insts)) → EndsAt (y ∷ z ∷ insts)
body_is true y z insts e b rest = absurd (false≢true b)
body_is false y z insts e b rest =
    one_further (z ∷ insts) y (λ t. true≢false (sym t ∙ e)) (rest (and_parts (not (is_phi y)) (is_body (z ∷ insts)) b).1)

body_ends : (insts : List Inst) → is_body insts ≡ true → EndsAt insts
body_ends [] b = none_ends
body_ends (y ∷ []) b = one_ends y
body_ends (y ∷ z ∷ insts) b = body_is (is_terminator y) y z insts refl b (body_ends (z ∷ insts))

no_phi_ends : (x : Inst) → is_phi x ≡ true → is_terminator x ≡ true → ⊥
unfolding is_phi is_terminator
no_phi_ends (Phi t entries) p h = false≢true h
no_phi_ends _ p h = false≢true p

order_is : (s : Bool) (y : Inst) (insts : List Inst) → is_phi y ≡ s → is_body (drop (if s then 1 + prefix_len is_phi insts else 0) (y ∷ insts)) ≡ true → (is_order insts ≡ true → EndsAt insts) → EndsAt (y ∷ insts)
order_is true y insts e b rest =
    let same : 1 + prefix_len is_phi insts ≡ suc (prefix_len is_phi insts) = omega arith in
    one_further insts y (no_phi_ends y e) (rest (subst (λ (n : ℕ). is_body (drop n (y ∷ insts)) ≡ true) same b))
order_is false y insts e b rest = body_ends (y ∷ insts) b

pub order_ends : (insts : List Inst) → is_order insts ≡ true → EndsAt insts
order_ends [] b = none_ends
order_ends (y ∷ insts) b = order_is (is_phi y) y insts refl b (order_ends insts)

-- ---- lists of which all pass a test
pub all_at : {A : Type 0} (p : A → Bool) (xs : List A) (k : ℕ) (x : A) → list_all p xs ≡ true → slice_get xs k ≡ Some x → p x ≡ true
all_at p [] k x h e = absurd (none-some x e)
all_at p (y ∷ xs) zero x h e = ap p (sym (same_Some y x e)) ∙ (and_parts (p y) (list_all p xs) h).0
all_at p (y ∷ xs) (suc k) x h e = all_at p xs k x (and_parts (p y) (list_all p xs) h).1 e

-- the block of an instruction is there
pub block_at : (blocks : List Block) (b i : ℕ) (x : Inst) → slice_get (insts_of_block blocks b) i ≡ Some x → (block : Block) × (slice_get blocks b ≡ Some block) × (insts_of_block blocks b ≡ block.insts)
block_at [] b i x h = absurd (none-some x h)
block_at (y ∷ blocks) zero i x h = (y, refl, refl)
block_at (y ∷ blocks) (suc b) i x h = block_at blocks b i x h
