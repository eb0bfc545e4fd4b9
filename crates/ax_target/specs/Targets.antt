-- The targets, their names, and what each has.
use Rattle.std.specs.Prelude.{ℕ, Bool, true, false, not, List, [], ◌∷◌, Option, codes, find, nat_eq}
use Rattle.std.specs.Cmp.Lexicographic.{pointwise}
use Rattle.ax_target.specs.declared.target.Target.{Target}
use Rattle.ax_target.specs.declared.target.Target.TheVariants.{X86, Arm, Rv}

abbrev pub name_of : Target → List ℕ
name_of (X86 false) = codes "x86-64"
name_of (X86 true) = codes "x86-64+cx16"
name_of (Arm false) = codes "aarch64"
name_of (Arm true) = codes "aarch64+lse"
name_of (Rv false false) = codes "rv64"
name_of (Rv true false) = codes "rv64+zabha"
name_of (Rv false true) = codes "rv64+zacas"
name_of (Rv true true) = codes "rv64+zabha+zacas"

-- the targets whose names are accepted
abbrev pub accepted_targets : List Target
accepted_targets = X86 false ∷ X86 true ∷ Arm false ∷ Arm true ∷ Rv false false ∷ []

abbrev pub target_named : List ℕ → Option Target
target_named word = find (λ target. pointwise nat_eq word (name_of target)) accepted_targets

-- the greatest size of an atomic object, in bytes, that the target's own instructions reach; the tables look at neither extension of RV64 yet, and no target with one is accepted
abbrev pub greatest_native : Target → ℕ
greatest_native (X86 false) = 8
greatest_native (X86 true) = 16
greatest_native (Arm lse) = 16
greatest_native (Rv zabha zacas) = 8

-- whether its stores wait in a buffer of each processor
abbrev pub is_buffered : Target → Bool
is_buffered (X86 cx16) = true
is_buffered (Arm lse) = false
is_buffered (Rv zabha zacas) = false

-- whether it has pairs of a linked load and a store that may fail
abbrev pub has_pairs : Target → Bool
has_pairs target = not (is_buffered target)
