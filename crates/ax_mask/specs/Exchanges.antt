-- A compare-exchange of 1 or 2 bytes, the same on prepared registers, and the loop and the code round it.
use Rattle.std.specs.Prelude.{ℕ, Bool, true, false, not, nat_eq, List, [], ◌∷◌, ◌++◌, Some}
use Rattle.ax_words.specs.declared.mark.Op.TheVariants as op
use Rattle.ax_words.specs.declared.order.Order.{Order}
use Rattle.ax_words.specs.declared.width.Width.{Width}
use Rattle.ax_words.specs.Width.{bytes_of}
use Rattle.ax_target.specs.declared.target.Target.TheVariants.{Rv}
use Rattle.ax_isa.specs.declared.effects.Rest.TheVariants.{Signs}
use Rattle.ax_rv.specs.declared.instructions.RvInstr.{RvInstr}
use Rattle.ax_rv.specs.Instructions.{rv_kind}
use Rattle.ax_expand.specs.Doing.{on_registers}
use Rattle.ax_expand.specs.Operation.{Keeps, Operation}
use Rattle.ax_expand.specs.Shared.{Shared}
use Rattle.ax_fine.specs.OnBytes.{IsObject, atomic_doing}
use Rattle.ax_emit_rv.specs.Laws.{is_kept}
use Rattle.ax_loops.specs.PairExchange.{PairExchange, exchange_code, exchange_size}
use Rattle.ax_loops.specs.Registers.{all_but}
use Rattle.ax_mask.specs.Codes.{exchange_answer, exchange_between, exchange_setup, link, store, take_out}
use Rattle.ax_mask.specs.Prepared.{HasNumbers}
use Rattle.ax_mask.specs.Wrapped.{Around}

pub record CompareExchange : Type 0 where
  pub zabha : Bool
  pub zacas : Bool
  pub order : Order
  pub weak : Bool
  pub width : Width

-- the code keeps all registers but its scratch
abbrev pub kept_by_exchange : ℕ → Bool
kept_by_exchange q = not (nat_eq q 29)

-- so many steps lead back from a pair store that failed
abbrev pub back_of : Bool → ℕ
back_of true = 0
back_of false = 1

module _ (x : CompareExchange) where
  abbrev pub exchanging : Operation Shared
  exchanging = on_registers (atomic_doing (Rv x.zabha x.zacas) op.Cmpxchg x.width x.order x.weak) 10 (11 ∷ 12 ∷ []) (15 ∷ 16 ∷ [])

  abbrev pub word_exchanging : Operation Shared
  word_exchanging = record { happens = exchanging.happens; fits = λ regs w. IsObject (regs 10) (bytes_of x.width) w × HasNumbers x.width regs }

  -- its loop
  abbrev pub word_exchange : PairExchange RvInstr
  word_exchange =
      record {
        weak = x.weak;
        link = link x.order;
        between = exchange_between x.weak;
        pair = store x.order 29;
        behind = exchange_answer x.weak ++ take_out x.width;
        old = 15;
        rest = Signs;
        expected = 28;
        mask = Some 7;
        failed = 29;
        holds = all_but 15 kept_by_exchange;
        back = back_of x.weak;
        most = 9;
      }

  -- ---- before the loop the registers are prepared, and nothing is left to do behind it
  abbrev ExchangeTies : Bool → (ℕ → ℕ) → (ℕ → ℕ) → Type 0
  ExchangeTies false regs got = Keeps is_kept got regs × HasNumbers x.width got
  ExchangeTies true regs got = Keeps is_kept got regs

  abbrev pub exchange_around : Around RvInstr
  exchange_around =
      record {
        kind = rv_kind;
        outer = exchanging;
        keeps = is_kept;
        inner = word_exchanging;
        piece = λ start. exchange_code word_exchange;
        size = exchange_size word_exchange;
        most = 9;
        holds = kept_by_exchange;
        before = exchange_setup x.width;
        after = [];
        Ties = ExchangeTies;
      }
