-- The code of an atomic operation on slots: the registers of the machine and the slots that it uses.
use Rattle.std.specs.Prelude.{◌≡◌, ◌≢◌, ℕ, ◌<◌, ◌^◌, Bool, true, false, List, [], ◌∷◌, ◌++◌, length, Option, Some}
use Rattle.ax_isa.specs.Tells.{Given}
use Rattle.ax_follow.specs.Contract.{done_after}
use Rattle.ax_mid.specs.Machine.{put_all, read_all}
use Rattle.ax_expand.specs.Doing.{Doing, Result, read_regs, put_regs}
use Rattle.ax_fine.specs.Fine.{Program}
use Rattle.ax_emit.specs.Table.{Table, put}

-- pairs of a register of the machine and a slot
abbrev pub firsts : List (ℕ × ℕ) → List ℕ
firsts [] = []
firsts (z ∷ zs) = z.0 ∷ firsts zs

abbrev pub seconds : List (ℕ × ℕ) → List ℕ
seconds [] = []
seconds (z ∷ zs) = z.1 ∷ seconds zs

abbrev pub NotIn : ℕ → List ℕ → Type 0
NotIn q [] = Unit {0}
NotIn q (t ∷ ts) = (q ≢ t) × NotIn q ts

abbrev pub Distinct : List ℕ → Type 0
Distinct [] = Unit {0}
Distinct (t ∷ ts) = NotIn t ts × Distinct ts

abbrev pub AllOf : (ℕ → Type 0) → List ℕ → Type 0
AllOf Q [] = Unit {0}
AllOf Q (n ∷ ns) = Q n × AllOf Q ns

-- registers get the numbers of slots, and slots those of registers
abbrev pub gets_all : {I : Type 0} → Table I → List (ℕ × ℕ) → List I
gets_all table [] = []
gets_all table (z ∷ zs) = table.get z.0 z.1 ++ gets_all table zs

abbrev pub puts_all : {I : Type 0} → Table I → List (ℕ × ℕ) → List I
puts_all table [] = []
puts_all table (z ∷ zs) = put table z.1 z.0 ++ puts_all table zs

-- as many results as there are registers for them, each of 64 bits; a look has none
pub record Counted {W : Type 0} (doing : Doing W) (count : ℕ) : Type 0 where
  pub through : (g : Given) (p a : ℕ) (args : List ℕ) (seen : Option ℕ) (w : W) (r : Result W) → doing.happens g p a args seen w ≡ Some r → done_after g false ≡ true → length r.results ≡ count
  pub looks : (g : Given) (p a : ℕ) (args : List ℕ) (seen : Option ℕ) (w : W) (r : Result W) → doing.happens g p a args seen w ≡ Some r → done_after g false ≡ false → r.results ≡ []
  pub small : (g : Given) (p a : ℕ) (args : List ℕ) (seen : Option ℕ) (w : W) (r : Result W) → doing.fits a args w → doing.happens g p a args seen w ≡ Some r → AllOf (λ n. n < 2 ^ 64) r.results

-- the address in register `at`, with its slot; the arguments and the results with theirs; `keeps` are the registers that the operation's code keeps
pub record Homes {I R W : Type 0} (m : Program R W) (table : Table I) (keeps : ℕ → Bool) (address : R) (args results : List R) (at : ℕ) (ps qs : List (ℕ × ℕ)) : Type 0 where
  pub args_are : (f : ℕ → ℕ) → read_all m.key args f ≡ read_regs (seconds ps) f
  pub results_are : (ns : List ℕ) (f : ℕ → ℕ) → put_all m.key results ns f ≡ put_regs (seconds qs) ns f
  pub distinct : Distinct (at ∷ firsts ps)
  pub distinct_results : Distinct (firsts qs)
  pub few : AllOf (λ r. r < m.count) (m.key address ∷ seconds ps)
  pub few_results : AllOf (λ r. r < m.count) (seconds qs)
  pub usable : AllOf (λ t. table.usable t ≡ true) (at ∷ firsts ps)
  pub usable_results : AllOf (λ t. table.usable t ≡ true) (firsts qs)
  -- fixed registers are kept, and results too
  pub keeps_fixed : (q : ℕ) → m.fixed q ≡ true → keeps q ≡ true
  pub keeps_results : AllOf (λ t. keeps t ≡ true) (firsts qs)
