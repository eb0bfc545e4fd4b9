-- Which way an operation is lowered: the decision table.
use Rattle.std.specs.Prelude.{ℕ, Bool, true, false, ◌&&◌, ◌||◌, nat_eq, nat_lt, nat_le, is_some, if◌then◌else◌, List, [], ◌∷◌, find, option_map, unwrap_or}
use Rattle.std.specs.List.{list_all, list_any}
use Rattle.ax_words.specs.declared.mark.Op.{Op}
use Rattle.ax_words.specs.declared.mark.Op.TheVariants.{Load, Store, Cmpxchg, Rmw, Fence}
use Rattle.ax_words.specs.declared.operation.RmwOp.TheVariants.{Xchg, Add, Sub, And, Nand, Or, Xor, Max, Min, UMax, UMin}
use Rattle.ax_words.specs.declared.width.Width.{Width}
use Rattle.ax_words.specs.Width.{bytes_of}
use Rattle.ax_target.specs.declared.target.Target.{Target}
use Rattle.ax_target.specs.declared.target.Target.TheVariants.{X86, Arm, Rv}
use Rattle.ax_target.specs.declared.decision.Way.{Way}
use Rattle.ax_target.specs.declared.decision.Way.TheVariants.{Inline, CasLoop, PairLoop, Masked, Sized, Generic}
use Rattle.ax_target.specs.Targets.{greatest_native, has_pairs}

-- an operation's number tells it from all others
abbrev pub number_of : Op → ℕ
number_of Load = 0
number_of Store = 1
number_of Cmpxchg = 2
number_of (Rmw Xchg) = 3
number_of (Rmw Add) = 4
number_of (Rmw Sub) = 5
number_of (Rmw And) = 6
number_of (Rmw Nand) = 7
number_of (Rmw Or) = 8
number_of (Rmw Xor) = 9
number_of (Rmw Max) = 10
number_of (Rmw Min) = 11
number_of (Rmw UMax) = 12
number_of (Rmw UMin) = 13
number_of Fence = 14

-- a line of the table: for these targets, operations and sizes in bytes, this way
pub record Decision : Type 0 where
  pub targets : Target → Bool
  pub operations : List Op
  pub sizes : List ℕ
  pub way : Way

abbrev pub fits : Target → Op → ℕ → Decision → Bool
fits target op bytes line =
    line.targets target && list_any (λ o. nat_eq (number_of o) (number_of op)) line.operations && list_any (nat_eq bytes) line.sizes

abbrev pub is_x86 : Target → Bool
is_x86 (X86 cx16) = true
is_x86 _ = false

abbrev pub is_x86_cx16 : Target → Bool
is_x86_cx16 (X86 cx16) = cx16
is_x86_cx16 _ = false

abbrev pub is_aarch64 : Target → Bool
is_aarch64 (Arm false) = true
is_aarch64 _ = false

abbrev pub is_aarch64_lse : Target → Bool
is_aarch64_lse (Arm lse) = lse
is_aarch64_lse _ = false

abbrev pub is_rv64 : Target → Bool
is_rv64 (Rv zabha zacas) = true
is_rv64 _ = false

abbrev pub rmws_but_nand : List Op
rmws_but_nand = Rmw Xchg ∷ Rmw Add ∷ Rmw Sub ∷ Rmw And ∷ Rmw Or ∷ Rmw Xor ∷ Rmw Max ∷ Rmw Min ∷ Rmw UMax ∷ Rmw UMin ∷ []

abbrev pub rmws : List Op
rmws = Rmw Nand ∷ rmws_but_nand

abbrev pub everything : List Op
everything = Load ∷ Store ∷ Cmpxchg ∷ rmws

abbrev pub up_to_8 : List ℕ
up_to_8 = 1 ∷ 2 ∷ 4 ∷ 8 ∷ []

abbrev pub up_to_16 : List ℕ
up_to_16 = 1 ∷ 2 ∷ 4 ∷ 8 ∷ 16 ∷ []

abbrev pub line : (Target → Bool) → List Op → List ℕ → Way → Decision
line targets operations sizes way = record { targets = targets; operations = operations; sizes = sizes; way = way }

-- the table, for native accesses; the first line that fits counts
abbrev pub decisions : List Decision
decisions =
    line is_x86 (Load ∷ Store ∷ Cmpxchg ∷ Rmw Xchg ∷ Rmw Add ∷ Rmw Sub ∷ []) up_to_8 Inline ∷
    line is_x86 rmws up_to_8 CasLoop ∷
    line is_x86_cx16 (Load ∷ Cmpxchg ∷ []) (16 ∷ []) Inline ∷
    line is_x86_cx16 (Store ∷ rmws) (16 ∷ []) CasLoop ∷
    line is_aarch64 (Load ∷ Store ∷ []) up_to_8 Inline ∷
    line is_aarch64 everything up_to_16 PairLoop ∷
    line is_aarch64_lse (Load ∷ Store ∷ Cmpxchg ∷ rmws_but_nand) up_to_8 Inline ∷
    line is_aarch64_lse (Rmw Nand ∷ []) up_to_8 CasLoop ∷
    line is_aarch64_lse (Load ∷ Cmpxchg ∷ []) (16 ∷ []) Inline ∷
    line is_aarch64_lse (Store ∷ rmws) (16 ∷ []) CasLoop ∷
    line is_rv64 (Load ∷ Store ∷ []) up_to_8 Inline ∷
    line is_rv64 rmws_but_nand (4 ∷ 8 ∷ []) Inline ∷
    line is_rv64 (Rmw Nand ∷ Cmpxchg ∷ []) (4 ∷ 8 ∷ []) PairLoop ∷
    line is_rv64 (Cmpxchg ∷ rmws) (1 ∷ 2 ∷ []) Masked ∷ []

-- the way of a native access; each has a line
abbrev pub native_way : Target → Op → ℕ → Way
native_way target op bytes = unwrap_or (option_map (λ line. line.way) (find (fits target op bytes) decisions)) Inline

-- where the size is above the greatest native one or the alignment below the size, a routine is called
abbrev pub is_native : Target → ℕ → ℕ → Bool
is_native target bytes align = nat_le bytes (greatest_native target) && nat_le bytes align

abbrev pub access_way : Target → Op → ℕ → ℕ → Way
access_way target op bytes align =
    if is_native target bytes align then native_way target op bytes
    else if nat_le bytes align then Sized
    else Generic

-- a fence has no size
abbrev pub decided : Target → Op → Width → ℕ → Way
decided target Fence width align = Inline
decided target op width align = access_way target op (bytes_of width) align

-- the targets that have loops round a compare-and-swap
abbrev pub has_compare_loops : Target → Bool
has_compare_loops target = is_x86 target || is_aarch64_lse target

-- whether a native access of this target and size can be lowered this way
abbrev pub is_native_way : Target → ℕ → Way → Bool
is_native_way target bytes Inline = true
is_native_way target bytes CasLoop = has_compare_loops target
is_native_way target bytes PairLoop = has_pairs target
is_native_way target bytes Masked = is_rv64 target && nat_le bytes 2
is_native_way target bytes Sized = false
is_native_way target bytes Generic = false

-- and whether any access can
abbrev pub can_be : Target → ℕ → ℕ → Way → Bool
can_be target bytes align Sized = nat_lt (greatest_native target) bytes && nat_le bytes align
can_be target bytes align Generic = nat_lt align bytes
can_be target bytes align way = is_native_way target bytes way

-- whether the table has a line for each native access of a target
abbrev pub is_whole : Target → Bool
is_whole target = list_all (λ op. list_all (λ bytes. nat_lt (greatest_native target) bytes || is_some (find (fits target op bytes) decisions)) up_to_16) everything
