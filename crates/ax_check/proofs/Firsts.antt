-- The first fault of points, and of points in front of others.
use Rattle.std.proofs.Common.{◌≡◌, ℕ, ◌+◌, ◌<◌, List, [], ◌∷◌, ◌++◌, length, map, drop, get_or, Option, Some, None, subst, sym, ◌∙◌, inl, inr, ap}
use Rattle.std.specs.Option.{option_map}
use Rattle.std.proofs.lemmas.List.{drop_more, map-append}
use Rattle.std.proofs.lemmas.Grind.{flat_map-append}
use Rattle.ax_module.specs.declared.inst.Inst.{Inst}
use Rattle.ax_module.specs.declared.module.Block.{Block}
use Rattle.ax_module.specs.declared.module.Function.{Function}
use Rattle.ax_module.specs.declared.module.Global.{Global}
use Rattle.ax_module.specs.declared.module.Module.{Module}
use Rattle.ax_words.specs.declared.place.Place.TheVariants as place
use Rattle.ax_target.specs.declared.target.Target.{Target}
use Rattle.ax_rules.specs.declared.rule.Rule.{Rule}
use Rattle.ax_rules.specs.Points.{Point, AtGlobal, AtHead, AtInst, Spot, number_of, points_of_function, points_of_functions, points_of_globals, rules_in_order, spots, spots_from, spots_of_block}
use Rattle.ax_check.specs.declared.refusal.Refusal.{Refusal}
use Rattle.ax_check.specs.First.{FirstBy}
use Rattle.ax_check.specs.Faults.{FirstAt, FirstInBlock, FirstInBlocks, FirstInFunctions, FirstInGlobals, FirstRule, IsFault, IsFaultPair, pairs, refusal_of}

-- a list without such an element is passed over
pub first_skip : {X R : Type 0} (P : X → Type 0) (show : X → R) (xs ys : List X) (r : Option R) → FirstBy P show xs None → FirstBy P show ys r → FirstBy P show (xs ++ ys) r
first_skip P show [] ys r n h = h
first_skip P show (x ∷ xs) ys r n h =
    elim n [
      | inl e ↦ absurd (cc)
      | inr e ↦ inr (e.0, first_skip P show xs ys r e.1 h)
    ]

-- what follows the first one doesn't matter
pub first_stop : {X R : Type 0} (P : X → Type 0) (show : X → R) (xs ys : List X) (r : R) → FirstBy P show xs (Some r) → FirstBy P show (xs ++ ys) (Some r)
first_stop P show [] ys r h = absurd (cc)
first_stop P show (x ∷ xs) ys r h =
    elim h [
      | inl e ↦ inl e
      | inr e ↦ inr (e.0, first_stop P show xs ys r e.1)
    ]

-- the first with P is the first with Q where both hold of the same elements
pub first_same : {X R : Type 0} (P Q : X → Type 0) (show : X → R) → ((x : X) → P x → Q x) → ((x : X) → Q x → P x) → (xs : List X) (r : Option R) → FirstBy P show xs r → FirstBy Q show xs r
first_same P Q show to from [] r h = h
first_same P Q show to from (x ∷ xs) r h =
    elim h [
      | inl e ↦ inl (to x e.0, e.1)
      | inr e ↦ inr ((λ q. e.0 (from x q)), first_same P Q show to from xs r e.1)
    ]

module _ (m : Module) (t : Target) where
  -- of a point and the rules
  first_at : (p : Point) (rules : List Rule) (o : Option Rule) → FirstBy (IsFault m t p) (λ r. r) rules o → FirstBy (IsFaultPair m t) refusal_of (map (λ r. (p, r)) rules) (option_map (λ r. refusal_of (p, r)) o)
  first_at p [] o h = ap (option_map (λ r. refusal_of (p, r))) h
  first_at p (r ∷ rs) o h =
      elim h [
        | inl e ↦ inl (e.0, ap (option_map (λ r. refusal_of (p, r))) e.1)
        | inr e ↦ inr (e.0, first_at p rs o e.1)
      ]

  -- a point without a fault is passed over
  pub point_skip : (p : Point) (ps : List Point) (r : Option Refusal) → FirstRule m t p None → FirstAt m t ps r → FirstAt m t (p ∷ ps) r
  point_skip p ps r n h = first_skip (IsFaultPair m t) refusal_of (map (λ r. (p, r)) rules_in_order) (pairs ps) r (first_at p rules_in_order None n) h

  pub point_stop : (p : Point) (ps : List Point) (rule : Rule) → FirstRule m t p (Some rule) → FirstAt m t (p ∷ ps) (Some (refusal_of (p, rule)))
  point_stop p ps rule h = first_stop (IsFaultPair m t) refusal_of (map (λ r. (p, r)) rules_in_order) (pairs ps) (refusal_of (p, rule)) (first_at p rules_in_order (Some rule) h)

  pairs-append : (ps qs : List Point) → pairs (ps ++ qs) ≡ pairs ps ++ pairs qs
  pairs-append ps qs = flat_map-append (λ p. map (λ r. (p, r)) rules_in_order) ps qs

  -- points without a fault are passed over
  pub points_skip : (ps qs : List Point) (r : Option Refusal) → FirstAt m t ps None → FirstAt m t qs r → FirstAt m t (ps ++ qs) r
  points_skip ps qs r n h = subst (λ cs. FirstBy (IsFaultPair m t) refusal_of cs r) (sym (pairs-append ps qs)) (first_skip (IsFaultPair m t) refusal_of (pairs ps) (pairs qs) r n h)

  pub points_stop : (ps qs : List Point) (r : Refusal) → FirstAt m t ps (Some r) → FirstAt m t (ps ++ qs) (Some r)
  points_stop ps qs r h = subst (λ cs. FirstBy (IsFaultPair m t) refusal_of cs (Some r)) (sym (pairs-append ps qs)) (first_stop (IsFaultPair m t) refusal_of (pairs ps) (pairs qs) r h)

drop_read : {X : Type 0} (xs : List X) (i : ℕ) (x : X) → i < length xs → x ≡ get_or xs i x → drop i xs ≡ x ∷ drop (i + 1) xs
drop_read xs i x lt e = drop_more xs i x lt ∙ ap (λ y. y ∷ drop (i + 1) xs) (sym e)

-- one turn of the loop over a block
pub block_skip : (m : Module) (t : Target) (k : ℕ) (f : Function) (b n o i : ℕ) (is : List Inst) (x : Inst) → o ≡ n + 1 → i < length is → x ≡ get_or is i x → FirstRule m t (AtInst k f (record { block = b; number = n; inst = x })) None → (r : Option Refusal) → FirstInBlock m t k f b o (drop (i + 1) is) r → FirstInBlock m t k f b n (drop i is) r
block_skip m t k f b n o i is x e lt at none r h =
    subst (λ xs. FirstInBlock m t k f b n xs r) (sym (drop_read is i x lt at))
    (point_skip m t (AtInst k f (record { block = b; number = n; inst = x })) (map (λ s. AtInst k f s) (spots_of_block b (n + 1) (drop (i + 1) is))) r none (subst (λ j. FirstInBlock m t k f b j (drop (i + 1) is) r) e h))

block_stop_at : (m : Module) (t : Target) (k : ℕ) (f : Function) (b n i : ℕ) (is : List Inst) (x : Inst) (rule : Rule) → i < length is → x ≡ get_or is i x → FirstRule m t (AtInst k f (record { block = b; number = n; inst = x })) (Some rule) → FirstInBlock m t k f b n (drop i is) (Some (record { number = number_of rule; place = place.Inst (record { function = k; instruction = n }) }))
block_stop_at m t k f b n i is x rule lt at h =
    let p : Point = AtInst k f (record { block = b; number = n; inst = x }) in
    subst (λ xs. FirstInBlock m t k f b n xs (Some (refusal_of (p, rule)))) (sym (drop_read is i x lt at))
    (point_stop m t p (map (λ s. AtInst k f s) (spots_of_block b (n + 1) (drop (i + 1) is))) rule h)

pub block_stop : (m : Module) (t : Target) (k : ℕ) (f : Function) (b n i : ℕ) (is : List Inst) (x : Inst) (rule : Rule) (number : ℕ) → number ≡ number_of rule → i < length is → x ≡ get_or is i x → FirstRule m t (AtInst k f (record { block = b; number = n; inst = x })) (Some rule) → FirstInBlock m t k f b n (drop i is) (Some (record { number = number; place = place.Inst (record { function = k; instruction = n }) }))
block_stop m t k f b n i is x rule number e lt at h =
    subst (λ j. FirstInBlock m t k f b n (drop i is) (Some (record { number = j; place = place.Inst (record { function = k; instruction = n }) }))) (sym e) (block_stop_at m t k f b n i is x rule lt at h)

at_spots : (k : ℕ) (f : Function) (ss ts : List Spot) → map (λ s. AtInst k f s) (ss ++ ts) ≡ map (λ s. AtInst k f s) ss ++ map (λ s. AtInst k f s) ts
at_spots k f ss ts = map-append (λ s. AtInst k f s) ss ts

-- one turn of the loop over blocks
pub blocks_skip : (m : Module) (t : Target) (k : ℕ) (f : Function) (b n o : ℕ) (xs : List Block) (x : Block) (r : Option Refusal) → b < length xs → x ≡ get_or xs b x → o ≡ n + length x.insts → FirstInBlock m t k f b n x.insts None → FirstInBlocks m t k f (b + 1) o (drop (b + 1) xs) r → FirstInBlocks m t k f b n (drop b xs) r
blocks_skip m t k f b n o xs x r lt at e none h =
    let rest : List Spot = spots_from (b + 1) (n + length x.insts) (drop (b + 1) xs) in
    subst (λ ys. FirstInBlocks m t k f b n ys r) (sym (drop_read xs b x lt at))
    (subst (λ ps. FirstAt m t ps r) (sym (at_spots k f (spots_of_block b n x.insts) rest))
    (points_skip m t (map (λ s. AtInst k f s) (spots_of_block b n x.insts)) (map (λ s. AtInst k f s) rest) r none (subst (λ j. FirstInBlocks m t k f (b + 1) j (drop (b + 1) xs) r) e h)))

pub blocks_stop : (m : Module) (t : Target) (k : ℕ) (f : Function) (b n : ℕ) (xs : List Block) (x : Block) (r : Refusal) → b < length xs → x ≡ get_or xs b x → FirstInBlock m t k f b n x.insts (Some r) → FirstInBlocks m t k f b n (drop b xs) (Some r)
blocks_stop m t k f b n xs x r lt at h =
    let rest : List Spot = spots_from (b + 1) (n + length x.insts) (drop (b + 1) xs) in
    subst (λ ys. FirstInBlocks m t k f b n ys (Some r)) (sym (drop_read xs b x lt at))
    (subst (λ ps. FirstAt m t ps (Some r)) (sym (at_spots k f (spots_of_block b n x.insts) rest))
    (points_stop m t (map (λ s. AtInst k f s) (spots_of_block b n x.insts)) (map (λ s. AtInst k f s) rest) r h))

-- the head of a function
pub head_skip : (m : Module) (t : Target) (k : ℕ) (f : Function) (r : Option Refusal) → FirstRule m t (AtHead k f) None → FirstInBlocks m t k f 0 0 f.blocks r → FirstAt m t (points_of_function k f) r
head_skip m t k f r none h = point_skip m t (AtHead k f) (map (λ s. AtInst k f s) (spots f)) r none h

pub head_stop : (m : Module) (t : Target) (k : ℕ) (f : Function) (rule : Rule) (number : ℕ) → number ≡ number_of rule → FirstRule m t (AtHead k f) (Some rule) → FirstAt m t (points_of_function k f) (Some (record { number = number; place = place.Head k }))
head_stop m t k f rule number e h =
    subst (λ j. FirstAt m t (points_of_function k f) (Some (record { number = j; place = place.Head k }))) (sym e)
    (point_stop m t (AtHead k f) (map (λ s. AtInst k f s) (spots f)) rule h)

-- one turn of the loop over functions
pub functions_skip : (m : Module) (t : Target) (k : ℕ) (fs : List Function) (x : Function) (r : Option Refusal) → k < length fs → x ≡ get_or fs k x → FirstAt m t (points_of_function k x) None → FirstInFunctions m t (k + 1) (drop (k + 1) fs) r → FirstInFunctions m t k (drop k fs) r
functions_skip m t k fs x r lt at none h =
    subst (λ gs. FirstInFunctions m t k gs r) (sym (drop_read fs k x lt at))
    (points_skip m t (points_of_function k x) (points_of_functions (k + 1) (drop (k + 1) fs)) r none h)

pub functions_stop : (m : Module) (t : Target) (k : ℕ) (fs : List Function) (x : Function) (r : Refusal) → k < length fs → x ≡ get_or fs k x → FirstAt m t (points_of_function k x) (Some r) → FirstInFunctions m t k (drop k fs) (Some r)
functions_stop m t k fs x r lt at h =
    subst (λ gs. FirstInFunctions m t k gs (Some r)) (sym (drop_read fs k x lt at))
    (points_stop m t (points_of_function k x) (points_of_functions (k + 1) (drop (k + 1) fs)) r h)

-- one turn of the loop over globals
pub globals_skip : (m : Module) (t : Target) (g : ℕ) (vs : List Global) (x : Global) (r : Option Refusal) → g < length vs → x ≡ get_or vs g x → FirstRule m t (AtGlobal g x) None → FirstInGlobals m t (g + 1) (drop (g + 1) vs) r → FirstInGlobals m t g (drop g vs) r
globals_skip m t g vs x r lt at none h =
    subst (λ ws. FirstInGlobals m t g ws r) (sym (drop_read vs g x lt at))
    (point_skip m t (AtGlobal g x) (points_of_globals (g + 1) (drop (g + 1) vs)) r none h)

pub globals_stop : (m : Module) (t : Target) (g : ℕ) (vs : List Global) (x : Global) (rule : Rule) (number : ℕ) → number ≡ number_of rule → g < length vs → x ≡ get_or vs g x → FirstRule m t (AtGlobal g x) (Some rule) → FirstInGlobals m t g (drop g vs) (Some (record { number = number; place = place.Global g }))
globals_stop m t g vs x rule number e lt at h =
    subst (λ ws. FirstInGlobals m t g ws (Some (record { number = number; place = place.Global g }))) (sym (drop_read vs g x lt at))
    (subst (λ j. FirstAt m t (AtGlobal g x ∷ points_of_globals (g + 1) (drop (g + 1) vs)) (Some (record { number = j; place = place.Global g }))) (sym e) (point_stop m t (AtGlobal g x) (points_of_globals (g + 1) (drop (g + 1) vs)) rule h))
