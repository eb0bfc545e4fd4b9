-- THE CODE OF ATOMIC OPERATIONS ON RV64, by operation and width: that of the way Inline (RISC-V Unprivileged ISA: RV64I, and A, "Atomic Memory Operations"; "Code porting and mapping guidelines", table A.6), and of plain accesses, on the registers that emission gives them.
use Rattle.std.specs.Prelude.{◌≡◌, ℕ, ◌+◌, ◌-◌, ◌%◌, ◌^◌, ◌≤◌, Bool, true, false, List, [], ◌∷◌, ◌++◌, pos, negsuc}
use Rattle.ax_words.specs.declared.mark.Op.{Op}
use Rattle.ax_words.specs.declared.mark.Op.TheVariants as op
use Rattle.ax_words.specs.declared.operation.RmwOp.{RmwOp}
use Rattle.ax_words.specs.declared.operation.RmwOp.TheVariants as rmw
use Rattle.ax_words.specs.declared.order.Order.{Order}
use Rattle.ax_words.specs.declared.width.Width.{Width}
use Rattle.ax_words.specs.declared.width.Width.TheVariants.{W32}
use Rattle.ax_words.specs.Width.{bits_of, bytes_of}
use Rattle.ax_target.specs.declared.target.Target.{Target}
use Rattle.ax_target.specs.declared.decision.Way.{Way}
use Rattle.ax_target.specs.declared.decision.Way.TheVariants.{Inline, Masked, PairLoop}
use Rattle.ax_target.specs.Decisions.{decided}
use Rattle.ax_target.specs.RvRows.{column}
use Rattle.ax_isa.specs.declared.effects.Rest.TheVariants.{Signs}
use Rattle.ax_isa.specs.Steps.{extended}
use Rattle.ax_rv.specs.declared.instructions.Amo.{Amo as AmoOp}
use Rattle.ax_rv.specs.declared.instructions.Amo.TheVariants as amo
use Rattle.ax_rv.specs.declared.instructions.Ending.{Ending}
use Rattle.ax_rv.specs.declared.instructions.Ending.TheVariants.{Plain, Acquire, Release, AcquireRelease}
use Rattle.ax_rv.specs.declared.instructions.FenceSets.{FenceSets}
use Rattle.ax_rv.specs.declared.instructions.FenceSets.TheVariants.{ReadBeforeAll, AllBeforeWrite, AllBeforeAll, TotalStoreOrder}
use Rattle.ax_rv.specs.declared.instructions.Immediate.TheVariants as immediate
use Rattle.ax_rv.specs.declared.instructions.RvInstr.{RvInstr}
use Rattle.ax_rv.specs.declared.instructions.RvInstr.TheVariants.{Amo, Fence, Immediate, Load, Nop, Store, Unary}
use Rattle.ax_rv.specs.declared.instructions.Unary.TheVariants as unary
use Rattle.ax_rv.specs.Instructions.{rv_kind}
use Rattle.ax_fine.specs.OnBytes.{atomic_doing, load_doing, store_doing}
use Rattle.ax_expand.specs.Doing.{Doing}
use Rattle.ax_expand.specs.Shared.{Shared}
use Rattle.ax_emit_rv.specs.Code.{Expansion, load_form, store_form}
use Rattle.ax_emit_rv.specs.Laws.{every, is_kept}
use Rattle.ax_mask.specs.Codes.{is_narrow, masked_expansion}
use Rattle.ax_mask.specs.Pairs.{args_of_op, results_of_op}
use Rattle.ax_llsc.specs.Loops.{clear, exchange_expansion, nand_expansion, size_of}
use Rattle.ax_llsc.specs.Rounds.{Rounding, code, idle, size}

-- an atomic operation, or a plain access
pub data Coded : Type 0 where
  Atomic : Op → Width → Order → Bool → Coded
  PlainLoad : Width → Coded
  PlainStore : Width → Coded

-- ---- registers
-- where the address, the number that it takes and its result stand, and what the code keeps
pub record Registers : Type 0 where
  pub address : ℕ
  pub number : ℕ
  pub result : ℕ
  pub keeps : ℕ → Bool

abbrev pub atomic_registers : Registers
atomic_registers = record { address = 10; number = 11; result = 15; keeps = is_kept }

abbrev pub plain_registers : Registers
plain_registers = record { address = 5; number = 6; result = 7; keeps = every }

abbrev pub registers_for : Coded → Registers
registers_for (Atomic o width order weak) = atomic_registers
registers_for (PlainLoad width) = plain_registers
registers_for (PlainStore width) = plain_registers

-- ---- the columns of the mapping table as instructions
abbrev pub fences : List FenceSets → List RvInstr
fences [] = []
fences (sets ∷ rest) = Fence sets ∷ fences rest

abbrev pub before_load : Order → List FenceSets
before_load order = column order [] [] [] [] (AllBeforeAll ∷ [])

abbrev pub behind_load : Order → List FenceSets
behind_load order = column order [] (ReadBeforeAll ∷ []) [] [] (ReadBeforeAll ∷ [])

abbrev pub before_store : Order → List FenceSets
before_store order = column order [] [] (AllBeforeWrite ∷ []) [] (AllBeforeWrite ∷ [])

abbrev pub fence_instr : Order → RvInstr
fence_instr order = column order Nop (Fence ReadBeforeAll) (Fence AllBeforeWrite) (Fence TotalStoreOrder) (Fence AllBeforeAll)

abbrev pub ending_of : Order → Ending
ending_of order = column order Plain Acquire Release AcquireRelease AcquireRelease

-- a subtraction adds the number's negative; nand has no instruction
abbrev pub amo_of : RmwOp → AmoOp
amo_of rmw.Xchg = amo.Swap
amo_of rmw.Add = amo.Add
amo_of rmw.Sub = amo.Add
amo_of rmw.And = amo.And
amo_of rmw.Nand = amo.And
amo_of rmw.Or = amo.Or
amo_of rmw.Xor = amo.Xor
amo_of rmw.Max = amo.Max
amo_of rmw.Min = amo.Min
amo_of rmw.UMax = amo.MaxUnsigned
amo_of rmw.UMin = amo.MinUnsigned

-- ---- numbers in registers
-- a word is extended by its sign, others by zeros
abbrev pub raw_of : Width → ℕ → ℕ
raw_of W32 n = extended 4 Signs 0 n
raw_of _ n = n

-- the complement of the number before is the negative, mod 2 ^ 64, of any number
abbrev pub negated : ℕ → ℕ
negated n = 2 ^ 64 - 1 - (n + (2 ^ 64 - 1)) % 2 ^ 64

-- a read-modify-write's operand stands in register 11, its negative in 5
abbrev pub operand_of : RmwOp → ℕ
operand_of rmw.Sub = 5
operand_of _ = 11

abbrev pub prepare : RmwOp → List RvInstr
prepare rmw.Sub = Immediate immediate.Add 5 11 (negsuc 0) ∷ Unary unary.Not 5 5 ∷ []
prepare _ = []

abbrev pub IsPrepared : RmwOp → (ℕ → ℕ) → Type 0
IsPrepared rmw.Sub regs = regs 5 ≡ negated (regs 11)
IsPrepared _ regs = Unit {0}

-- ---- the table
abbrev pub loading : Registers → Doing Shared → Width → List FenceSets → List FenceSets → Rounding RvInstr
loading g doing width before behind =
    record {
      kind = rv_kind;
      doing = doing;
      address = g.address;
      args = [];
      results = g.result ∷ [];
      keeps = g.keeps;
      before = fences before;
      access = Load (load_form (bytes_of width)) g.result (pos 0) g.address;
      after = fences behind ++ clear g.result width;
      Prepared = λ regs. Unit {0};
      bits = bits_of width;
      raw = raw_of width;
    }

abbrev pub storing : Registers → Doing Shared → Width → List FenceSets → Rounding RvInstr
storing g doing width before =
    record {
      kind = rv_kind;
      doing = doing;
      address = g.address;
      args = g.number ∷ [];
      results = [];
      keeps = g.keeps;
      before = fences before;
      access = Store (store_form (bytes_of width)) g.number (pos 0) g.address;
      after = [];
      Prepared = λ regs. Unit {0};
      bits = bits_of width;
      raw = λ n. n;
    }

abbrev pub updating : Doing Shared → RmwOp → Width → Order → Rounding RvInstr
updating doing o width order =
    record {
      kind = rv_kind;
      doing = doing;
      address = 10;
      args = 11 ∷ [];
      results = 15 ∷ [];
      keeps = is_kept;
      before = prepare o;
      access = Amo (amo_of o) (size_of width) (ending_of order) 15 (operand_of o) 10;
      after = clear 15 width;
      Prepared = IsPrepared o;
      bits = bits_of width;
      raw = raw_of width;
    }

abbrev pub fencing : Doing Shared → RvInstr → Rounding RvInstr
fencing doing i =
    record {
      kind = rv_kind;
      doing = doing;
      address = 10;
      args = [];
      results = [];
      keeps = is_kept;
      before = [];
      access = i;
      after = [];
      Prepared = λ regs. Unit {0};
      bits = 0;
      raw = λ n. n;
    }

-- a compare-exchange and a nand are never of this way, and have loops
abbrev pub atomic_rounding : Doing Shared → Op → Width → Order → Rounding RvInstr
atomic_rounding doing op.Load width order = loading atomic_registers doing width (before_load order) (behind_load order)
atomic_rounding doing op.Store width order = storing atomic_registers doing width (before_store order)
atomic_rounding doing op.Cmpxchg width order = fencing doing Nop
atomic_rounding doing (op.Rmw o) width order = updating doing o width order
atomic_rounding doing op.Fence width order = fencing doing (fence_instr order)

abbrev pub doing_of : Target → Coded → Doing Shared
doing_of target (Atomic o width order weak) = atomic_doing target o width order weak
doing_of target (PlainLoad width) = load_doing target (bytes_of width)
doing_of target (PlainStore width) = store_doing target (bytes_of width)

abbrev pub rounding : Target → Coded → Rounding RvInstr
rounding target (Atomic o width order weak) = atomic_rounding (atomic_doing target o width order weak) o width order
rounding target (PlainLoad width) = loading plain_registers (load_doing target (bytes_of width)) width [] []
rounding target (PlainStore width) = storing plain_registers (store_doing target (bytes_of width)) width []

-- the registers with what it takes, and those that get what it gives
abbrev pub args_of : Coded → List ℕ
args_of (Atomic o width order weak) = args_of_op o
args_of (PlainLoad width) = []
args_of (PlainStore width) = 6 ∷ []

abbrev pub results_of : Coded → List ℕ
results_of (Atomic o width order weak) = results_of_op o
results_of (PlainLoad width) = 7 ∷ []
results_of (PlainStore width) = []

-- as emission takes it
abbrev pub rounded : Rounding RvInstr → Expansion
rounded z = record { piece = code z; size = size z; most = idle z }

-- below 4 bytes by the word that holds the object, else by a loop of its own or an instruction
abbrev pub exchange_of : Bool → Width → Order → Bool → Expansion
exchange_of true width order weak = masked_expansion op.Cmpxchg width order weak
exchange_of false width order weak = exchange_expansion width order weak

abbrev pub update_of : Bool → Target → RmwOp → Width → Order → Bool → Expansion
update_of true target o width order weak = masked_expansion (op.Rmw o) width order weak
update_of false target rmw.Nand width order weak = nand_expansion width order
update_of false target o width order weak = rounded (rounding target (Atomic (op.Rmw o) width order weak))

abbrev pub expansion_of : Target → Coded → Expansion
expansion_of target (Atomic op.Cmpxchg width order weak) = exchange_of (is_narrow width) width order weak
expansion_of target (Atomic (op.Rmw o) width order weak) = update_of (is_narrow width) target o width order weak
expansion_of target x = rounded (rounding target x)

-- the ways that have code here: by instructions without a loop, and by loops of linked load and pair store
abbrev pub is_coded_way : Way → Bool
is_coded_way Inline = true
is_coded_way PairLoop = true
is_coded_way Masked = true
is_coded_way _ = false

-- the way has code, at the object's own alignment
abbrev pub IsCoded : Target → Coded → Type 0
IsCoded target (Atomic o width order weak) = is_coded_way (decided target o width (bytes_of width)) ≡ true
IsCoded target (PlainLoad width) = bytes_of width ≤ 8
IsCoded target (PlainStore width) = bytes_of width ≤ 8
