-- A well formed module has a list of faults, and no two.
use Rattle.std.proofs.Common.{◌∙◌, ◌≡◌, ◌≢◌, ℕ, ◌+◌, ◌<◌, ◌⊎◌, ◌==◌, ◌||◌, ◌&&◌, Bool, true, false, List, [], ◌∷◌, ◌++◌, length, map, get_or, Option, Some, None, subst, sym, refl, inl, inr, arith, ap, Contains, Any, zero, suc, nat_lt, pos, negsuc, ℤ, slice_index_or}
use Rattle.std.specs.List.{list_all}
use Rattle.std.proofs.lemmas.Bool.{and_parts}
use Rattle.std.proofs.lemmas.Option.{none-some}
use Rattle.ax_module.specs.declared.module.Global.{Global}
use Rattle.ax_module.specs.WellFormed.{IsModule, is_function}
use Rattle.ax_target.specs.declared.target.Target.{Target}
use Rattle.ax_rules.specs.declared.rule.Rule.{Rule}
use Rattle.ax_rules.specs.declared.rule.Rule.TheVariants.{Width, Kind, DynamicShift, UserCall, Parameter, BadOrdering, MixedWidth, AlignOverstated, PlainLocked, NotDefined, Alloca, Limit}
use Rattle.ax_rules.specs.Points.{Point, AtGlobal, AtHead, AtInst, Spot, points, points_of_function, points_of_functions, points_of_globals, rules_in_order, spots}
use Rattle.ax_check.specs.declared.refusal.Refusal.{Refusal}
use Rattle.ax_check.proofs.Shapes.{is_graph}
use Rattle.std.proofs.lemmas.Bool.{cases_Bool, cases_eq, cases_lt, or_from, or_parts, both_ways}
use Rattle.std.proofs.lemmas.List.{get_or_past, length-map}
use Rattle.ax_check.specs.declared.exits.Exit.{Exit}
use Rattle.ax_check.specs.declared.exits.Exit.TheVariants.{Stop, Jump, Branch}
use Rattle.ax_check.specs.Walk.{LeadsTo, Leads, IsWalk, passes, IsInRange}
use Rattle.ax_check.proofs.Decided.{comes_decided}
use Rattle.ax_module.specs.declared.inst.Inst.{Inst}
use Rattle.ax_module.specs.declared.inst.Inst.TheVariants.{Phi}
use Rattle.ax_module.specs.declared.operand.Operand.{Operand}
use Rattle.ax_module.specs.declared.operand.Operand.TheVariants.{Const, Wide, Value, Param}
use Rattle.ax_module.specs.declared.module.Function.{Function}
use Rattle.ax_module.specs.declared.module.Module.{Module}
use Rattle.ax_check.specs.Graph.{IsGraph, block_exit, block_of, graph_of}
use Rattle.ax_check.specs.First.{FirstBy, KeepsThose}
use Rattle.ax_check.specs.Phis.{Entries, Clashes, MissesOne}
use Rattle.ax_check.specs.Defined.{uses, IsMissingAt, IsMissing, IsWrongPhi, IsNotDefined}
use Rattle.ax_check.specs.Faults.{AreFaults, FirstFault, IsFault, IsFaultPair, IsFirstOfFaults, first_refusal, pairs, refusal_of}

abbrev Decided : Type 0 → Type 0
Decided A = A ⊎ (A → ⊥)

either : {A B : Type 0} → Decided A → Decided B → Decided (A ⊎ B)
either a b = elim a [ inl x ↦ inl (inl x) | inr n ↦ elim b [ inl y ↦ inl (inr y) | inr m ↦ inr (λ h. elim h [ inl x ↦ n x | inr y ↦ m y ]) ] ]

opposite : {A : Type 0} → Decided A → Decided (A → ⊥)
opposite a = elim a [ inl x ↦ inr (λ n. n x) | inr n ↦ inl n ]

test_decided : (b : Bool) → Decided (b ≡ true)
test_decided b = elim (cases_Bool b) [ inl e ↦ inl e | inr e ↦ inr (λ h. both_ways b e h) ]

no_any : {X : Type 0} (P : X → Type 0) (x : X) (xs : List X) → (P x → ⊥) → (Any P xs → ⊥) → (k : ℕ) (y : X) → k < length (x ∷ xs) → get_or (x ∷ xs) k y ≡ y → P y → ⊥
no_any P x xs n m zero y lt e p = n (subst P (sym e) p)
no_any P x xs n m (suc k) y lt e p = m (k, y, omega arith, e, p)

any_decided : {X : Type 0} (P : X → Type 0) → ((x : X) → Decided (P x)) → (xs : List X) → Decided (Any P xs)
any_decided P dec [] = inr (λ h. let z : h.0 < 0 = h.2 in omega (arith, z))
any_decided P dec (x ∷ xs) =
    elim (dec x) [
      | inl p ↦ inl (0, x, omega arith, refl, p)
      | inr n ↦ elim (any_decided P dec xs) [
        | inl h ↦ inl (suc h.0, h.1, omega (arith, h.2), h.3, h.4)
        | inr m ↦ inr (λ h. no_any P x xs n m h.0 h.1 h.2 h.3 h.4)
      ]
    ]

below_decided : (Q : ℕ → Type 0) → ((p : ℕ) → Decided (Q p)) → (n : ℕ) → Decided ((p : ℕ) × (p < n) × Q p)
below_decided Q dec zero = inr (λ h. let z : h.0 < 0 = h.1 in omega (arith, z))
below_decided Q dec (suc n) =
    elim (dec n) [
      | inl q ↦ inl (n, omega arith, q)
      | inr never ↦ elim (below_decided Q dec n) [
        | inl h ↦ inl (h.0, omega (arith, h.1), h.2)
        | inr m ↦ inr (λ h. elim (cases_eq h.0 n) [ inl e ↦ never (subst Q e h.2) | inr ne ↦ m (h.0, omega (arith, h.1, ne), h.2) ])
      ]
    ]

walk_decided : (graph : List Exit) (d b : ℕ) (t : Bool) → 0 < length graph → IsInRange graph → Decided ((before : List ℕ) × IsWalk graph b before × ((t || passes d before) ≡ false))
walk_decided graph d b t h r =
    elim (cases_Bool t) [
      | inl e ↦ inr (λ m. both_ways t (or_parts _ _ m.2).0 e)
      | inr e ↦ elim (comes_decided graph d b h r) [
        | inl c ↦ inl (c.0, c.1, or_from _ _ e c.2)
        | inr never ↦ inr (λ m. never (m.0, m.1, (or_parts _ _ m.2).1))
      ]
    ]

long_graph : (f : Function) → IsGraph f → 0 < length (graph_of f)
long_graph f w = subst (λ n. 0 < n) (sym (length-map f.blocks block_exit)) w.entry

missing_decided : (f : Function) (b n v : ℕ) (at : Option ℕ) → IsGraph f → Decided (IsMissingAt f b n v at)
missing_decided f b n v None w = walk_decided (graph_of f) (block_of f v) b (block_of f v == b && nat_lt v n) (long_graph f w) w.range
missing_decided f b n v (Some p) w = walk_decided (graph_of f) (block_of f v) p (p == block_of f v) (long_graph f w) w.range

leads_to_decided : (e : Exit) (b : ℕ) → Decided (LeadsTo e b)
leads_to_decided Stop b = inr (λ h. h)
leads_to_decided (Jump x) b = cases_eq b x
leads_to_decided (Branch x y) b = either (cases_eq b x) (cases_eq b y)

leads_within : (graph : List Exit) (p b : ℕ) → Leads graph p b → p < length graph
leads_within graph p b l =
    elim (cases_lt p (length graph)) [
      | inl lt ↦ lt
      | inr g ↦ absurd (subst (λ e. LeadsTo e b) (get_or_past graph p Stop g) l)
    ]

int_decided : (x y : ℤ) → Decided (x ≡ y)
int_decided (pos m) (pos n) = elim (cases_eq m n) [ inl e ↦ inl (ap pos e) | inr ne ↦ inr (λ h. ne (cc)) ]
int_decided (pos m) (negsuc n) = inr (λ h. cc)
int_decided (negsuc m) (pos n) = inr (λ h. cc)
int_decided (negsuc m) (negsuc n) = elim (cases_eq m n) [ inl e ↦ inl (ap negsuc e) | inr ne ↦ inr (λ h. ne (cc)) ]

operand_decided : (x y : Operand) → Decided (x ≡ y)
operand_decided (Const m) (Const n) = elim (int_decided m n) [ inl e ↦ inl (ap Const e) | inr ne ↦ inr (λ h. ne (cc)) ]
operand_decided (Wide m) (Wide n) = elim (cases_eq m n) [ inl e ↦ inl (ap Wide e) | inr ne ↦ inr (λ h. ne (cc)) ]
operand_decided (Value m) (Value n) = elim (cases_eq m n) [ inl e ↦ inl (ap Value e) | inr ne ↦ inr (λ h. ne (cc)) ]
operand_decided (Param m) (Param n) = elim (cases_eq m n) [ inl e ↦ inl (ap Param e) | inr ne ↦ inr (λ h. ne (cc)) ]
operand_decided (Const m) (Wide n) = inr (λ h. cc)
operand_decided (Const m) (Value n) = inr (λ h. cc)
operand_decided (Const m) (Param n) = inr (λ h. cc)
operand_decided (Wide m) (Const n) = inr (λ h. cc)
operand_decided (Wide m) (Value n) = inr (λ h. cc)
operand_decided (Wide m) (Param n) = inr (λ h. cc)
operand_decided (Value m) (Const n) = inr (λ h. cc)
operand_decided (Value m) (Wide n) = inr (λ h. cc)
operand_decided (Value m) (Param n) = inr (λ h. cc)
operand_decided (Param m) (Const n) = inr (λ h. cc)
operand_decided (Param m) (Wide n) = inr (λ h. cc)
operand_decided (Param m) (Value n) = inr (λ h. cc)

both : {A B : Type 0} → Decided A → Decided B → Decided (A × B)
both a b = elim a [ inl x ↦ elim b [ inl y ↦ inl (x, y) | inr m ↦ inr (λ h. m h.1) ] | inr n ↦ inr (λ h. n h.0) ]

-- two entries that clash
abbrev Against : Operand × ℕ → Operand × ℕ → Type 0
Against e g = (g.1 ≡ e.1) × (g.0 ≢ e.0)

clashes_decided : (entries : Entries) → Decided (Clashes entries)
clashes_decided entries =
    elim (any_decided (λ e. Any (Against e) entries) (λ e. any_decided (Against e) (λ g. both (cases_eq g.1 e.1) (opposite (operand_decided g.0 e.0))) entries) entries) [
      | inl h ↦
          let e : Operand × ℕ = h.1 in
          let g : Operand × ℕ = h.4.1 in
          inl (e.1, g.0, e.0, (h.4.0, h.4.2, subst (λ n. get_or entries h.4.0 (g.0, n) ≡ (g.0, n)) h.4.4.0 h.4.3), (h.0, h.2, h.3), h.4.4.1)
      | inr never ↦ inr (λ c. never (c.4.0, (c.2, c.0), c.4.1, c.4.2, (c.3.0, (c.1, c.0), c.3.1, c.3.2, (refl, c.5))))
    ]

names_decided : (entries : Entries) (p : ℕ) → Decided ((x : Operand) → Contains entries (x, p) → ⊥)
names_decided entries p =
    elim (any_decided (λ e. e.1 ≡ p) (λ e. cases_eq e.1 p) entries) [
      | inl h ↦ inr (λ never. never h.1.0 (h.0, h.2, subst (λ n. get_or entries h.0 (h.1.0, n) ≡ (h.1.0, n)) h.4 h.3))
      | inr n ↦ inl (λ x c. n (c.0, (x, p), c.1, c.2, refl))
    ]

misses_decided : (graph : List Exit) (b : ℕ) (entries : Entries) → Decided (MissesOne graph b entries)
misses_decided graph b entries =
    elim (below_decided (λ p. Leads graph p b × ((x : Operand) → Contains entries (x, p) → ⊥)) (λ p. both (leads_to_decided (slice_index_or graph p Stop) b) (names_decided entries p)) (length graph)) [
      | inl h ↦ inl (h.0, h.2.0, h.2.1)
      | inr n ↦ inr (λ m. n (m.0, leads_within graph m.0 b m.1, (m.1, m.2)))
    ]

wrong_decided : (f : Function) (b : ℕ) (i : Inst) → Decided (IsWrongPhi f b i)
unfolding IsWrongPhi
wrong_decided f b (Phi t entries) =
    either (any_decided (λ e. Leads (graph_of f) e.1 b → ⊥) (λ e. opposite (leads_to_decided (slice_index_or (graph_of f) e.1 Stop) b)) entries)
    (either (clashes_decided entries) (misses_decided (graph_of f) b entries))
wrong_decided f b _ = inr (λ h. h)

not_defined_decided : (f : Function) (s : Spot) → IsGraph f → Decided (IsNotDefined f s)
not_defined_decided f s w =
    either (test_decided _) (either (any_decided (IsMissing f s) (λ u. missing_decided f s.block s.number u.value u.end_of w) (uses s.inst)) (wrong_decided f s.block s.inst))

-- each element has Q, by recursion
abbrev Each : {X : Type 0} → (X → Type 0) → List X → Type 0
Each Q [] = Unit {0}
Each Q (x ∷ xs) = Q x × Each Q xs

each-append : {X : Type 0} (Q : X → Type 0) (xs ys : List X) → Each Q xs → Each Q ys → Each Q (xs ++ ys)
each-append Q [] ys h k = k
each-append Q (x ∷ xs) ys h k = (h.0, each-append Q xs ys h.1 k)

each-map : {X Y : Type 0} (Q : Y → Type 0) (g : X → Y) → ((x : X) → Q (g x)) → (xs : List X) → Each Q (map g xs)
each-map Q g h [] = tt
each-map Q g h (x ∷ xs) = (h x, each-map Q g h xs)

each-from_tests : {X : Type 0} (Q : X → Type 0) (p : X → Bool) → ((x : X) → p x ≡ true → Q x) → (xs : List X) → list_all p xs ≡ true → Each Q xs
each-from_tests Q p to [] h = tt
each-from_tests Q p to (x ∷ xs) h = let q = and_parts _ _ h in (to x q.0, each-from_tests Q p to xs q.1)

-- whether a rule is broken at a point is decided
abbrev AllDecided : Module → Target → Point → Type 0
AllDecided m t p = (r : Rule) → Decided (IsFault m t p r)

other_decided : (m : Module) (t : Target) (p : Point) → Decided (IsFault m t p NotDefined) → AllDecided m t p
other_decided m t p h Width = test_decided _
other_decided m t p h Kind = test_decided _
other_decided m t p h DynamicShift = test_decided _
other_decided m t p h UserCall = test_decided _
other_decided m t p h Parameter = test_decided _
other_decided m t p h BadOrdering = test_decided _
other_decided m t p h MixedWidth = test_decided _
other_decided m t p h AlignOverstated = test_decided _
other_decided m t p h PlainLocked = test_decided _
other_decided m t p h NotDefined = h
other_decided m t p h Alloca = test_decided _
other_decided m t p h Limit = test_decided _

each-pairs : (m : Module) (t : Target) (ps : List Point) → Each (AllDecided m t) ps → Each (λ c. Decided (IsFaultPair m t c)) (pairs ps)
each-pairs m t [] h = tt
each-pairs m t (p ∷ ps) h = each-append (λ c. Decided (IsFaultPair m t c)) (map (λ r. (p, r)) rules_in_order) (pairs ps) (each-map (λ c. Decided (IsFaultPair m t c)) (λ r. (p, r)) h.0 rules_in_order) (each-pairs m t ps h.1)

each-functions : (m : Module) (t : Target) (k : ℕ) (fs : List Function) → Each IsGraph fs → Each (AllDecided m t) (points_of_functions k fs)
each-functions m t k [] h = tt
each-functions m t k (f ∷ fs) h =
    each-append (AllDecided m t) (points_of_function k f) (points_of_functions (k + 1) fs)
    (other_decided m t (AtHead k f) (inr (λ e. e)), each-map (AllDecided m t) (λ s. AtInst k f s) (λ s. other_decided m t (AtInst k f s) (not_defined_decided f s h.0)) (spots f))
    (each-functions m t (k + 1) fs h.1)

each-globals : (m : Module) (t : Target) (g : ℕ) (vs : List Global) → Each (AllDecided m t) (points_of_globals g vs)
each-globals m t g [] = tt
each-globals m t g (v ∷ vs) = (other_decided m t (AtGlobal g v) (inr (λ e. e)), each-globals m t (g + 1) vs)

kept_total : {X : Type 0} (P : X → Type 0) (xs : List X) → Each (λ x. Decided (P x)) xs → (kept : List X) × KeepsThose P xs kept
kept_total P [] h = ([], refl)
kept_total P (x ∷ xs) h =
    let k = kept_total P xs h.1 in
    elim (h.0) [ inl p ↦ (x ∷ k.0, inl (k.0, p, refl, k.1)) | inr n ↦ (k.0, inr (n, k.1)) ]

functions_formed : (m : Module) → IsModule m → list_all (is_function (length m.globals)) m.functions ≡ true
functions_formed m w = (and_parts _ _ w.formed).1

-- a well formed module has a list of faults
pub faults_exist : (m : Module) (t : Target) → IsModule m → (faults : List (Point × Rule)) × AreFaults m t faults
faults_exist m t w =
    kept_total (IsFaultPair m t) (pairs (points m))
    (each-pairs m t (points m)
    (each-append (AllDecided m t) (points_of_globals 0 m.globals) (points_of_functions 0 m.functions) (each-globals m t 0 m.globals)
    (each-functions m t 0 m.functions (each-from_tests IsGraph (is_function (length m.globals)) (λ f h. is_graph (length m.globals) f h) m.functions (functions_formed m w)))))

-- the first fault is the first of the list
first_shown : {X R : Type 0} (P : X → Type 0) (show : X → R) (xs kept : List X) (r : Option R) → FirstBy P show xs r → KeepsThose P xs kept → ((kept ≡ []) × (r ≡ None)) ⊎ ((x : X) × (rest : List X) × (kept ≡ x ∷ rest) × (r ≡ Some (show x)))
first_shown P show [] kept r h k = inl (k, h)
first_shown P show (x ∷ xs) kept r h k =
    elim h [
      | inl a ↦ elim k [ inl b ↦ inr (x, b.0, b.2, a.1) | inr b ↦ absurd (b.0 a.0) ]
      | inr a ↦ elim k [ inl b ↦ absurd (a.0 b.1) | inr b ↦ first_shown P show xs kept r a.1 b.1 ]
    ]

pub first_of_list : (m : Module) (t : Target) (r : Option Refusal) → IsModule m → FirstFault m t r → IsFirstOfFaults m t r
first_of_list m t r w h =
    let l = faults_exist m t w in
    elim (first_shown (IsFaultPair m t) refusal_of (pairs (points m)) l.0 r h l.1) [
      | inl e ↦ record { faults = l.0; list = l.1; first = e.1 ∙ ap first_refusal (sym e.0) }
      | inr e ↦ record { faults = l.0; list = l.1; first = e.3 ∙ ap first_refusal (sym e.2) }
    ]

none_kept : {X R : Type 0} (P : X → Type 0) (show : X → R) (xs : List X) → FirstBy P show xs None → KeepsThose P xs []
none_kept P show [] h = refl
none_kept P show (x ∷ xs) h =
    elim h [
      | inl e ↦ absurd (none-some (show x) e.1)
      | inr e ↦ inr (e.0, none_kept P show xs e.1)
    ]

-- without a first fault there is none
pub empty_list : (m : Module) (t : Target) → FirstFault m t None → AreFaults m t []
empty_list m t h = none_kept (IsFaultPair m t) refusal_of (pairs (points m)) h

-- there are no two lists of those with P
pub kept_same : {X : Type 0} (P : X → Type 0) (xs ys zs : List X) → KeepsThose P xs ys → KeepsThose P xs zs → ys ≡ zs
kept_same P [] ys zs h k = h ∙ sym k
kept_same P (x ∷ xs) ys zs h k =
    elim h [
      | inl a ↦ elim k [ inl b ↦ a.2 ∙ (ap (λ r. x ∷ r) (kept_same P xs a.0 b.0 a.3 b.3) ∙ sym b.2) | inr b ↦ absurd (b.0 a.1) ]
      | inr a ↦ elim k [ inl b ↦ absurd (a.0 b.1) | inr b ↦ kept_same P xs ys zs a.1 b.1 ]
    ]
