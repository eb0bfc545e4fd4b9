-- A read-modify-write of 1 or 2 bytes, the same on the word that holds its object, and the loop and the code round it.
use Rattle.std.specs.Prelude.{◌≡◌, ℕ, ◌+◌, ◌%◌, ◌^◌, Bool, true, false, ◌&&◌, if◌then◌else◌, not, nat_eq, [], ◌∷◌, Option, Some, None, length}
use Rattle.ax_words.specs.declared.mark.Op.TheVariants as op
use Rattle.ax_words.specs.declared.operation.RmwOp.{RmwOp}
use Rattle.ax_words.specs.declared.order.Order.{Order}
use Rattle.ax_words.specs.declared.width.Width.{Width}
use Rattle.ax_words.specs.Width.{bits_of, bytes_of}
use Rattle.ax_ops.specs.Operation.{result_of}
use Rattle.ax_store.specs.Bytes.{number_at}
use Rattle.ax_store.specs.Storage.{at_place, entry_of}
use Rattle.ax_target.specs.declared.target.Target.TheVariants.{Rv}
use Rattle.ax_isa.specs.declared.effects.Rest.TheVariants.{Signs}
use Rattle.ax_isa.specs.Steps.{extended}
use Rattle.ax_isa.specs.Tells.{Given, An_act}
use Rattle.ax_rv.specs.Arithmetic.{shifted_left, shifted_right}
use Rattle.ax_rv.specs.declared.instructions.RvInstr.{RvInstr}
use Rattle.ax_rv.specs.Instructions.{rv_kind}
use Rattle.ax_expand.specs.Doing.{on_registers}
use Rattle.ax_expand.specs.Operation.{Deed, Keeps, Operation}
use Rattle.ax_expand.specs.Shared.{Shared, shared_wrote}
use Rattle.ax_fine.specs.OnBytes.{IsObject, atomic_doing}
use Rattle.ax_emit_rv.specs.Laws.{is_kept}
use Rattle.ax_loops.specs.Registers.{all_but}
use Rattle.ax_loops.specs.Retry.{RetryLoop, retry_code, retry_most, retry_size}
use Rattle.ax_loops.specs.Updating.{is_none}
use Rattle.ax_mask.specs.Codes.{above, again, compares, computation, link, store, take_out, update_setup}
use Rattle.ax_mask.specs.Prepared.{HasOperand}
use Rattle.ax_mask.specs.Wrapped.{Around}

pub record Update : Type 0 where
  pub zabha : Bool
  pub zacas : Bool
  pub order : Order
  pub weak : Bool
  pub operation : RmwOp
  pub width : Width

-- a linked word stands in a register extended by its sign
abbrev pub linked : ℕ → ℕ
linked number = extended 4 Signs 0 number

-- the loop keeps all registers but its scratch
abbrev pub kept_by_update : ℕ → Bool
kept_by_update q = not (nat_eq q 29) && not (nat_eq q 30)

module _ (u : Update) where
  abbrev pub updating : Operation Shared
  updating = on_registers (atomic_doing (Rv u.zabha u.zacas) (op.Rmw u.operation) u.width u.order u.weak) 10 (11 ∷ []) (15 ∷ [])

  -- what it leaves of all that is shared
  abbrev pub left : (ℕ → ℕ) → Shared → Shared
  left regs w = shared_wrote (entry_of (regs 10) (bytes_of u.width) (result_of (bits_of u.width) u.operation (number_at w.mem (regs 10) (bytes_of u.width)) (regs 11 % 2 ^ bits_of u.width))) w

  -- ---- the same event on prepared registers leaves the linked word
  abbrev pub word_left : (ℕ → ℕ) → Shared → Deed Shared
  word_left regs w = record { regs = at_place regs 15 (linked (number_at w.mem (regs 5) 4)); seen = None; world = left regs w; output = None; excused = false }

  abbrev word_updates : Given → ℕ → (ℕ → ℕ) → Shared → Option (Deed Shared)
  word_updates An_act p regs w = if is_none (w.pending p) then Some (word_left regs w) else None
  word_updates _ p regs w = None

  abbrev pub word_updating : Operation Shared
  word_updating = record { happens = λ g p regs seen w. word_updates g p regs w; fits = λ regs w. IsObject (regs 10) (bytes_of u.width) w × HasOperand (compares u.operation) u.width regs }

  -- its loop
  abbrev pub word_loop : RetryLoop RvInstr
  word_loop =
      record {
        link = link u.order;
        computation = computation u.operation;
        pair = store u.order 29;
        branch = again 29 (length (computation u.operation) + 1);
        old = 15;
        rest = Signs;
        failed = 29;
        holds = all_but 15 kept_by_update;
      }

  -- ---- round the loop: before the event the registers are prepared; after it the object stands in the linked word
  abbrev UpdateTies : Bool → (ℕ → ℕ) → (ℕ → ℕ) → Type 0
  UpdateTies false regs got = Keeps is_kept got regs × HasOperand (compares u.operation) u.width got
  UpdateTies true regs got = Keeps (all_but 15 is_kept) got regs × (shifted_right (shifted_left (got 15) (got 6 % 64)) (above u.width % 64) ≡ regs 15)

  abbrev pub update_around : Around RvInstr
  update_around =
      record {
        kind = rv_kind;
        outer = updating;
        keeps = is_kept;
        inner = word_updating;
        piece = λ start. retry_code word_loop;
        size = retry_size word_loop;
        most = retry_most word_loop;
        holds = kept_by_update;
        before = update_setup u.operation u.width;
        after = take_out u.width;
        Ties = UpdateTies;
      }
