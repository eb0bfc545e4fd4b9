-- No rule is broken at any point of an accepted module.
use Rattle.ax_rules.specs.Limits.{bytes_of_allocas, has_many_phis, instruction_count}
use Rattle.ax_module.specs.declared.types.Ty.{Ty}
use Rattle.std.proofs.lemmas.Bool.Decides.{nat_tests}
use Rattle.std.specs.List.{list_any}
use Rattle.std.proofs.Common.{◌≡◌, ℕ, zero, suc, ◌+◌, ◌<◌, ◌⊎◌, Bool, true, false, List, [], ◌∷◌, ◌++◌, length, map, get_or, Option, Some, None, subst, sym, refl, inl, inr, arith, ap, Contains, slice_get, ◌≤◌, ◌||◌, ◌∙◌}
use Rattle.std.specs.Prelude.{◌&&◌, not, nat_eq, nat_lt}
use Rattle.std.proofs.lemmas.Bool.{and_from, both_ways, cases_Bool, or_from, or_parts, cases_lt}
use Rattle.std.proofs.lemmas.Option.{none-some, same_Some, slice_get-get_or}
use Rattle.ax_module.specs.declared.module.Function.{Function}
use Rattle.ax_module.specs.declared.module.Global.{Global}
use Rattle.ax_rules.specs.declared.rule.Rule.{Rule}
use Rattle.ax_rules.specs.declared.rule.Rule.TheVariants.{Width, Kind, DynamicShift, UserCall, Parameter, BadOrdering, MixedWidth, AlignOverstated, PlainLocked, NotDefined, Alloca, Limit}
use Rattle.ax_rules.specs.Points.{Point, AtGlobal, AtHead, AtInst, Spot, points, points_of_function, points_of_functions, points_of_globals, rules_in_order, spots}
use Rattle.ax_layout.specs.Layout.{LayoutState}
use Rattle.ax_source_run.specs.SourceState.{SourceProgram}
use Rattle.ax_access_rules.specs.Alignment.{overstated, plain_locked}
use Rattle.ax_rules.specs.Facts.{scope_of}
use Rattle.ax_rules.specs.Points.{is_empty}
use Rattle.ax_access_rules.specs.RulesAtPoints.{are_globals_fine, has_fault_from}
use Rattle.ax_check.specs.declared.defined.Use.{Use}
use Rattle.ax_check.specs.Accepted.{IsAccepted}
use Rattle.ax_check.specs.Defined.{uses, IsMissingAt, IsDefinedAt, IsDefined}
use Rattle.ax_check.specs.Faults.{IsFault, IsFaultPair, pairs}
use Rattle.ax_check.specs.First.{KeepsThose}
use Rattle.ax_check.specs.Laws.{IsSound, IsSoundHead}

-- an element of a list, by recursion
abbrev In : {X : Type 0} → X → List X → Type 0
In x [] = ⊥
In x (y ∷ ys) = (x ≡ y) ⊎ In x ys

in_left : {X : Type 0} (x : X) (xs ys : List X) → In x xs → In x (xs ++ ys)
in_left x [] ys h = absurd h
in_left x (y ∷ xs) ys h = elim h [ inl e ↦ inl e | inr e ↦ inr (in_left x xs ys e) ]

in_right : {X : Type 0} (x : X) (xs ys : List X) → In x ys → In x (xs ++ ys)
in_right x [] ys h = h
in_right x (y ∷ xs) ys h = inr (in_right x xs ys h)

in_map : {X Y : Type 0} (g : X → Y) (x : X) (xs : List X) → In x xs → In (g x) (map g xs)
in_map g x [] h = absurd h
in_map g x (y ∷ xs) h = elim h [ inl e ↦ inl (ap g e) | inr e ↦ inr (in_map g x xs e) ]

in_at : {X : Type 0} (xs : List X) (k : ℕ) (x : X) → k < length xs → get_or xs k x ≡ x → In x xs
in_at [] k x lt e = absurd (omega arith)
in_at (y ∷ xs) zero x lt e = inl (sym e)
in_at (y ∷ xs) (suc k) x lt e = inr (in_at xs k x (omega arith) e)

-- no element has P
none_has : {X : Type 0} (P : X → Type 0) (xs : List X) → KeepsThose P xs [] → (x : X) → In x xs → P x → ⊥
none_has P [] n x h p = h
none_has {X} P (y ∷ xs) n x h p =
    elim n [
      | inl e ↦ cc
      | inr e ↦ elim h [ inl q ↦ e.0 (subst P q p) | inr q ↦ none_has P xs e.1 x q p ]
    ]

in_pairs : (p : Point) (r : Rule) (ps : List Point) → In p ps → In r rules_in_order → In (p, r) (pairs ps)
in_pairs p r [] h q = absurd h
in_pairs p r (y ∷ ps) h q =
    elim h [
      | inl e ↦
          let c : Point × Rule = (p, r) in
          let with : Point → Rule → Point × Rule = λ z r. (z, r) in
          in_left c (map (with y) rules_in_order) (pairs ps) (subst (λ z. In c (map (with z) rules_in_order)) e (in_map (with p) r rules_in_order q))
      | inr e ↦ in_right (p, r) (map (λ r. (y, r)) rules_in_order) (pairs ps) (in_pairs p r ps e q)
    ]

in_rules : (r : Rule) → In r rules_in_order
in_rules Width = inl refl
in_rules Kind = inr (inl refl)
in_rules DynamicShift = inr (inr (inl refl))
in_rules UserCall = inr (inr (inr (inl refl)))
in_rules Parameter = inr (inr (inr (inr (inl refl))))
in_rules BadOrdering = inr (inr (inr (inr (inr (inl refl)))))
in_rules MixedWidth = inr (inr (inr (inr (inr (inr (inl refl))))))
in_rules AlignOverstated = inr (inr (inr (inr (inr (inr (inr (inl refl)))))))
in_rules PlainLocked = inr (inr (inr (inr (inr (inr (inr (inr (inl refl))))))))
in_rules NotDefined = inr (inr (inr (inr (inr (inr (inr (inr (inr (inl refl)))))))))
in_rules Alloca = inr (inr (inr (inr (inr (inr (inr (inr (inr (inr (inl refl))))))))))
in_rules Limit = inr (inr (inr (inr (inr (inr (inr (inr (inr (inr (inr (inl refl)))))))))))

no_rule : (program : SourceProgram) → IsAccepted program → (p : Point) → In p (points program.source) → (r : Rule) → IsFault program.source program.target p r → ⊥
no_rule program a p h r =
    let c : Point × Rule = (p, r) in
    none_has (IsFaultPair program.source program.target) (pairs (points program.source)) a.faults c (in_pairs p r (points program.source) h (in_rules r))

-- no rule is broken at a point
pub nothing_broken : (program : SourceProgram) → IsAccepted program → (p : Point) → Contains (points program.source) p → (r : Rule) → IsFault program.source program.target p r → ⊥
nothing_broken program a p h r = no_rule program a p (in_at (points program.source) h.0 p h.1 h.2) r

-- a test that doesn't hold is false
pub is_false : (b : Bool) → (b ≡ true → ⊥) → b ≡ false
is_false b h = elim (cases_Bool b) [ inl e ↦ absurd (h e) | inr e ↦ e ]

in_functions : (j : ℕ) (fs : List Function) (k : ℕ) (f : Function) (s : Spot) → slice_get fs k ≡ Some f → In s (spots f) → (n : ℕ) × In (AtInst n f s) (points_of_functions j fs)
in_functions j [] k f s e h = absurd (none-some f e)
in_functions j (g ∷ fs) zero f s e h =
    let ss : List Point = map (λ t. AtInst j g t) (spots g) in
    (j, inr (in_left (AtInst j f s) ss (points_of_functions (j + 1) fs) (subst (λ x. In (AtInst j f s) (map (λ t. AtInst j x t) (spots x))) (sym (same_Some g f e)) (in_map (λ t. AtInst j f t) s (spots f) h))))
in_functions j (g ∷ fs) (suc k) f s e h = let r = in_functions (j + 1) fs k f s e h in (r.0, in_right (AtInst r.0 f s) (points_of_function j g) (points_of_functions (j + 1) fs) r.1)

-- no rule is broken at an instruction, whose function's number no test reads
pub nothing_at : (program : SourceProgram) → IsAccepted program → (k : ℕ) (f : Function) (s : Spot) → slice_get program.source.functions k ≡ Some f → Contains (spots f) s → (n : ℕ) × ((r : Rule) → IsFault program.source program.target (AtInst n f s) r → ⊥)
nothing_at program a k f s at h =
    let p = in_functions 0 program.source.functions k f s at (in_at (spots f) h.0 s h.1 h.2) in
    (p.0, λ r. no_rule program a (AtInst p.0 f s) (in_right (AtInst p.0 f s) (points_of_globals 0 program.source.globals) (points_of_functions 0 program.source.functions) p.1) r)

defined_unless : (f : Function) (b n v : ℕ) (at : Option ℕ) → (IsMissingAt f b n v at → ⊥) → IsDefinedAt f b n v at
defined_unless f b n v None h = λ before w. elim (cases_Bool _) [ inl e ↦ e | inr e ↦ absurd (h (before, w, e)) ]
defined_unless f b n v (Some p) h = λ before w. elim (cases_Bool _) [ inl e ↦ e | inr e ↦ absurd (h (before, w, e)) ]

pub defined_everywhere : (program : SourceProgram) (k : ℕ) (f : Function) (s : Spot) (u : Use) → IsAccepted program → slice_get program.source.functions k ≡ Some f → Contains (spots f) s → Contains (uses s.inst) u → IsDefined f s u
defined_everywhere program k f s u a at inside used =
    let p = nothing_at program a k f s at inside in
    defined_unless f s.block s.number u.value u.end_of
    (λ miss. p.1 NotDefined (inr (inl (used.0, u, used.1, used.2, miss))))

-- the tests of a global are false
fine_from : (program : SourceProgram) → IsAccepted program → (g : ℕ) (vs : List Global) → ((p : Point) → In p (points_of_globals g vs) → In p (points program.source)) → has_fault_from program.source g vs ≡ false
fine_from program a g [] h = refl
fine_from program a g (v ∷ vs) h =
    let p : Point = AtGlobal g v in
    let at : (r : Rule) → IsFault program.source program.target p r → ⊥ = no_rule program a p (h p (inl refl)) in
    or_from _ _
    (or_from _ _ (or_from _ _ (is_false _ (at Width)) (is_false _ (at Kind))) (is_false _ (at Limit)))
    (fine_from program a (g + 1) vs (λ q i. h q (inr i)))

pub globals_fine : (program : SourceProgram) → IsAccepted program → are_globals_fine program.source ≡ true
globals_fine program a =
    ap not (fine_from program a 0 program.source.globals (λ p i. in_left p (points_of_globals 0 program.source.globals) (points_of_functions 0 program.source.functions) i))

under : (b c : Bool) → b ≡ true → (b && c) ≡ false → c ≡ false
under b c h e = is_false c (λ d. both_ways (b && c) e (and_from b c h d))

pub sound : (program : SourceProgram) (k : ℕ) (f : Function) (s : Spot) → IsAccepted program → slice_get program.source.functions k ≡ Some f → Contains (spots f) s → IsSound program f s
sound program k f s a at inside =
    let p = nothing_at program a k f s at inside in
    let fine : are_globals_fine program.source ≡ true = globals_fine program a in
    record {
      width = is_false _ (p.1 Width);
      kind = is_false _ (p.1 Kind);
      shift = is_false _ (p.1 DynamicShift);
      call = is_false _ (p.1 UserCall);
      value = is_false _ (p.1 Parameter);
      order = is_false _ (p.1 BadOrdering);
      mixed = is_false _ (p.1 MixedWidth);
      aligned = subst (λ (l : LayoutState). overstated l (scope_of program.source f) s.inst ≡ false) (sym a.layout) (under _ _ fine (is_false _ (p.1 AlignOverstated)));
      plain = subst (λ (l : LayoutState). plain_locked l program.target (scope_of program.source f) s.inst ≡ false) (sym a.layout) (under _ _ fine (is_false _ (p.1 PlainLocked)));
      alloca = is_false _ (p.1 Alloca);
      limit = is_false _ (p.1 Limit);
      defined = λ u used. defined_everywhere program k f s u a at inside used;
    }

in_heads : (j : ℕ) (fs : List Function) (k : ℕ) (f : Function) → slice_get fs k ≡ Some f → In (AtHead (j + k) f) (points_of_functions j fs)
in_heads j [] k f e = absurd (none-some f e)
in_heads j (g ∷ fs) zero f e =
    let a : j + 0 ≡ j = omega arith in
    let b : f ≡ g = sym (same_Some g f e) in
    inl (ap (λ (n : ℕ). AtHead n f) a ∙ ap (λ (h : Function). AtHead j h) b)
in_heads j (g ∷ fs) (suc k) f e =
    let a : j + 1 + k ≡ j + suc k = omega arith in
    in_right (AtHead (j + suc k) f) (points_of_function j g) (points_of_functions (j + 1) fs)
    (subst (λ (n : ℕ). In (AtHead n f) (points_of_functions (j + 1) fs)) a (in_heads (j + 1) fs k f e))

-- no rule is broken at the head of function k
nothing_at_head : (program : SourceProgram) → IsAccepted program → (k : ℕ) (f : Function) → slice_get program.source.functions k ≡ Some f → (r : Rule) → IsFault program.source program.target (AtHead k f) r → ⊥
nothing_at_head program a k f e r =
    let z : 0 + k ≡ k = omega arith in
    let h : In (AtHead k f) (points_of_functions 0 program.source.functions) = subst (λ (n : ℕ). In (AtHead n f) (points_of_functions 0 program.source.functions)) z (in_heads 0 program.source.functions k f e) in
    no_rule program a (AtHead k f) (in_right (AtHead k f) (points_of_globals 0 program.source.globals) (points_of_functions 0 program.source.functions) h) r

at_most : (a b : ℕ) → nat_lt a b ≡ false → b ≤ a
at_most a b h = grind (arith, nat_tests)

none_stands : (ts : List Ty) → not (is_empty ts) ≡ false → ts ≡ []
none_stands [] h = refl
none_stands (t ∷ ts) h = absurd (cc)

not_false : (b : Bool) → not b ≡ false → b ≡ true
not_false true h = refl
not_false false h = absurd (cc)

pub sound_head : (program : SourceProgram) (k : ℕ) (f : Function) → IsAccepted program → slice_get program.source.functions k ≡ Some f → IsSoundHead k f
sound_head program k f a e =
    let h : (r : Rule) → IsFault program.source program.target (AtHead k f) r → ⊥ = nothing_at_head program a k f e in
    let p = or_parts (not f.is_void) (not (is_empty f.params)) (is_false _ (h Parameter)) in
    let l = or_parts ((nat_eq k 64 || nat_lt 2048 (instruction_count f)) || list_any has_many_phis f.blocks) (nat_lt 32768 (bytes_of_allocas f)) (is_false _ (h Limit)) in
    let m = or_parts (nat_eq k 64 || nat_lt 2048 (instruction_count f)) (list_any has_many_phis f.blocks) l.0 in
    let n = or_parts (nat_eq k 64) (nat_lt 2048 (instruction_count f)) m.0 in
    record {
      void = not_false f.is_void p.0;
      params = none_stands f.params p.1;
      number = n.0;
      instructions = at_most 2048 (instruction_count f) n.1;
      phis = m.1;
      bytes = at_most 32768 (bytes_of_allocas f) l.1;
    }

a_function : (fs : List Function) (k : ℕ) → k < length fs → Function
a_function [] k l = absurd (omega arith)
a_function (f ∷ fs) k l = f

-- there are 64 functions at most
pub few_functions : (program : SourceProgram) → IsAccepted program → length program.source.functions ≤ 64
few_functions program a =
    elim (cases_lt 64 (length program.source.functions)) [
      | inl l ↦
          let f : Function = a_function program.source.functions 64 l in
          absurd (both_ways (nat_eq 64 64) (sound_head program 64 (get_or program.source.functions 64 f) a (slice_get-get_or program.source.functions 64 f l)).number refl)
      | inr g ↦ g
    ]
