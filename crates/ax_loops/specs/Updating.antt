-- A read-modify-write operation on an object that all processors share (LLVM Language Reference, "atomicrmw").
use Rattle.std.specs.Prelude.{ℕ, ◌*◌, ◌%◌, ◌^◌, ◌<◌, Bool, true, false, if◌then◌else◌, List, [], ◌∷◌, Option, Some, None}
use Rattle.ax_words.specs.declared.operation.RmwOp.{RmwOp}
use Rattle.ax_ops.specs.Operation.{result_of}
use Rattle.ax_store.specs.Bytes.{number_at}
use Rattle.ax_store.specs.Storage.{at_place, entry_of}
use Rattle.ax_isa.specs.Tells.{Given, An_act}
use Rattle.ax_expand.specs.Doing.{Doing, Result, on_registers}
use Rattle.ax_expand.specs.Operation.{Operation}
use Rattle.ax_expand.specs.Shared.{Object, Shared, shared_wrote}
use Rattle.ax_loops.specs.Replacing.{Replacement}

abbrev pub is_none : {A : Type 0} → List A → Bool
is_none [] = true
is_none (x ∷ xs) = false

-- the number that it leaves in so many bytes
abbrev pub update_leaves : RmwOp → ℕ → ℕ → ℕ → ℕ
update_leaves op bytes old v = result_of (8 * bytes) op old (v % 2 ^ (8 * bytes))

abbrev pub updated : RmwOp → ℕ → ℕ → ℕ → Shared → Result Shared
updated op bytes a v w =
    record { results = number_at w.mem a bytes ∷ []; seen = None; world = shared_wrote (entry_of a bytes (update_leaves op bytes (number_at w.mem a bytes) v)) w; output = None; excused = false }

-- p's own stores have gone to memory before
abbrev pub update_by : RmwOp → ℕ → Given → ℕ → ℕ → List ℕ → Shared → Option (Result Shared)
update_by op bytes An_act p a (v ∷ []) w = if is_none (w.pending p) then Some (updated op bytes a v w) else None
update_by op bytes _ p a vs w = None

-- what registers hold
abbrev pub AreNumbers : List ℕ → Type 0
AreNumbers [] = Unit {0}
AreNumbers (v ∷ vs) = (v < 2 ^ 64) × AreNumbers vs

-- it takes the operand, and gives the number that it found
abbrev pub updating : RmwOp → ℕ → Doing Shared
updating op bytes = record { happens = λ g p a vs seen w. update_by op bytes g p a vs w; fits = λ a vs w. Object a bytes w × AreNumbers vs }

-- the registers with the address, the operand and the result
pub record UpdateRegisters : Type 0 where
  pub address : ℕ
  pub operand : ℕ
  pub result : ℕ

abbrev pub updating_on : RmwOp → ℕ → UpdateRegisters → Operation Shared
updating_on op bytes r = on_registers (updating op bytes) r.address (r.operand ∷ []) (r.result ∷ [])

abbrev pub update_replacement : RmwOp → ℕ → UpdateRegisters → Replacement Shared
update_replacement op bytes r =
    record {
      bytes = bytes;
      address = λ regs. regs r.address;
      leaves = λ regs old. update_leaves op bytes old (regs r.operand);
      gives = λ regs old. at_place regs r.result old;
      finds = λ regs w. number_at w.mem (regs r.address) bytes;
      after = λ regs w. shared_wrote (entry_of (regs r.address) bytes (update_leaves op bytes (number_at w.mem (regs r.address) bytes) (regs r.operand))) w;
    }
