-- A loop of `lock cmpxchg16b` does what each read-modify-write, and a store, of 16 bytes says.
use Rattle.std.proofs.Common.{◌≡◌, ℕ, ◌+◌, ◌*◌, ◌/◌, ◌%◌, ◌^◌, ◌<◌, ◌≤◌, Bool, true, false, List, [], ◌∷◌, ◌++◌, length, Option, Some, None, mod-eq_of_lt, refl, sym, ap, ◌∙◌, subst, inl, inr, arith}
use Rattle.std.specs.Prelude.{◌≢◌, ◌⊎◌, ◌&&◌, if◌then◌else◌, nat_eq, not}
use Rattle.std.proofs.lemmas.Bool.{eq-eqb, eqb-true, false≢true, ne_eqb}
use Rattle.ax_words.specs.declared.mark.Op.{Op}
use Rattle.ax_words.specs.declared.mark.Op.TheVariants as op
use Rattle.ax_words.specs.declared.operation.RmwOp.{RmwOp}
use Rattle.ax_words.specs.declared.operation.RmwOp.TheVariants as rmw
use Rattle.ax_words.specs.declared.order.Order.{Order}
use Rattle.ax_words.specs.declared.width.Width.TheVariants.{W128}
use Rattle.ax_ops.specs.Operation.{result_of}
use Rattle.ax_store.specs.Bytes.{all_inside, number_at}
use Rattle.ax_store.specs.Storage.{at_place, entry_of}
use Rattle.ax_store.proofs.Numbers.{number_small}
use Rattle.ax_target.specs.declared.target.Target.{Target}
use Rattle.ax_target.specs.declared.target.Target.TheVariants.{X86}
use Rattle.ax_target.specs.Decisions.{decided}
use Rattle.ax_source_run.specs.SourceAccess.{Writes, manner_of_native}
use Rattle.ax_source_run.specs.SourceInstructions.{is_inline, is_seq_cst}
use Rattle.ax_isa.specs.declared.effects.Change.TheVariants.{Exchange}
use Rattle.ax_isa.specs.declared.effects.Effect.{Effect}
use Rattle.ax_isa.specs.declared.effects.Rest.TheVariants.{Zeros}
use Rattle.ax_isa.specs.Processor.{Processor}
use Rattle.ax_isa.specs.Steps.{changed, go_to, unequal}
use Rattle.ax_isa.specs.Tells.{An_act}
use Rattle.ax_mid.specs.Machine.{may_wait}
use Rattle.ax_x86.specs.declared.instructions.X86Instr.{X86Instr}
use Rattle.ax_x86.specs.declared.instructions.X86Instr.TheVariants as x86
use Rattle.ax_x86.specs.Instructions.{x86_kind}
use Rattle.ax_fine.specs.OnBytes.{IsObject, atomic_doing, met_by, results_with}
use Rattle.ax_expand.specs.Bytes.{bytes_world}
use Rattle.ax_expand.specs.Doing.{Result, deed_of}
use Rattle.ax_expand.specs.Expands.{Expands}
use Rattle.ax_expand.specs.Operation.{Keeps, Operation}
use Rattle.ax_expand.specs.Shared.{Shared, shared_wrote}
use Rattle.ax_expand.proofs.Bytes.{bytes_lawful}
use Rattle.ax_expand.proofs.Sights.{object_number}
use Rattle.ax_emit_x86.specs.Laws.{is_kept}
use Rattle.ax_loops.specs.Replacing.{Replacement, Replaces}
use Rattle.ax_loops.proofs.Updating.{seen_small, wrote_sees}
use Rattle.ax_mask.proofs.Found.{sent_same}
use Rattle.ax_cas.specs.Compares.{Compares, Exchanges, IsBack, IsDone, Leaves, Loop, Probes, Swaps, loop_code, loop_most, loop_size}
use Rattle.ax_cas.specs.Loops.{restored, saved, wide_computation, wide_loop, wide_loop_of, wide_store, zeroed}
use Rattle.ax_cas.specs.Rounds.{Reaches}
use Rattle.ax_cas.proofs.Compares.{compares}
use Rattle.ax_cas.proofs.Narrow.{none_pending, turns_back, turns_on}
use Rattle.ax_cas.proofs.Running.{behind_all, keeps_each, reaches}
use Rattle.ax_cas.proofs.Wide.{Swapped, swap_is, swapped, swapped_is, swapping, wide_object, wide_operation}
use Rattle.ax_cas.proofs.WideValues.{halves_are, new_high, new_low, whole, wide_leaves}

-- ---- the computation, from rdx:rax and r9:r8 to rcx:rbx
-- the registers that it leaves
pub record Stay (c b : Processor) : Type 0 where
  pub rax : b.regs 0 ≡ c.regs 0
  pub rdx : b.regs 2 ≡ c.regs 2
  pub rsp : b.regs 4 ≡ c.regs 4
  pub rsi : b.regs 6 ≡ c.regs 6
  pub r8 : b.regs 8 ≡ c.regs 8
  pub r9 : b.regs 9 ≡ c.regs 9
  pub r10 : b.regs 10 ≡ c.regs 10
  pub r11 : b.regs 11 ≡ c.regs 11

pub record Combined (o : RmwOp) (c b : Processor) : Type 0 where
  pub low : b.regs 3 ≡ new_low o (c.regs 0) (c.regs 2) (c.regs 8) (c.regs 9)
  pub high : b.regs 1 ≡ new_high o (c.regs 0) (c.regs 2) (c.regs 8) (c.regs 9)
  pub stay : Stay c b

stayed : (c b : Processor) → b.regs 0 ≡ c.regs 0 → b.regs 2 ≡ c.regs 2 → b.regs 4 ≡ c.regs 4 → b.regs 6 ≡ c.regs 6 → b.regs 8 ≡ c.regs 8 → b.regs 9 ≡ c.regs 9 → b.regs 10 ≡ c.regs 10 → b.regs 11 ≡ c.regs 11 → Stay c b
stayed c b e0 e2 e4 e6 e8 e9 e10 e11 = record { rax = e0; rdx = e2; rsp = e4; rsi = e6; r8 = e8; r9 = e9; r10 = e10; r11 = e11 }

combines : (o : RmwOp) (c : Processor) → Reaches x86_kind (wide_computation o) c (λ b. Combined o c b)
combines rmw.Xchg c = reaches (wide_computation rmw.Xchg) c _ refl (record { low = refl; high = refl; stay = stayed _ _ refl refl refl refl refl refl refl refl })
combines rmw.Add c = reaches (wide_computation rmw.Add) c _ refl (record { low = refl; high = refl; stay = stayed _ _ refl refl refl refl refl refl refl refl })
combines rmw.Sub c = reaches (wide_computation rmw.Sub) c _ refl (record { low = refl; high = refl; stay = stayed _ _ refl refl refl refl refl refl refl refl })
combines rmw.And c = reaches (wide_computation rmw.And) c _ refl (record { low = refl; high = refl; stay = stayed _ _ refl refl refl refl refl refl refl refl })
combines rmw.Nand c = reaches (wide_computation rmw.Nand) c _ refl (record { low = refl; high = refl; stay = stayed _ _ refl refl refl refl refl refl refl refl })
combines rmw.Or c = reaches (wide_computation rmw.Or) c _ refl (record { low = refl; high = refl; stay = stayed _ _ refl refl refl refl refl refl refl refl })
combines rmw.Xor c = reaches (wide_computation rmw.Xor) c _ refl (record { low = refl; high = refl; stay = stayed _ _ refl refl refl refl refl refl refl refl })
combines rmw.Max c = reaches (wide_computation rmw.Max) c _ refl (record { low = refl; high = refl; stay = stayed _ _ refl refl refl refl refl refl refl refl })
combines rmw.Min c = reaches (wide_computation rmw.Min) c _ refl (record { low = refl; high = refl; stay = stayed _ _ refl refl refl refl refl refl refl refl })
combines rmw.UMax c = reaches (wide_computation rmw.UMax) c _ refl (record { low = refl; high = refl; stay = stayed _ _ refl refl refl refl refl refl refl refl })
combines rmw.UMin c = reaches (wide_computation rmw.UMin) c _ refl (record { low = refl; high = refl; stay = stayed _ _ refl refl refl refl refl refl refl refl })

-- ---- the loop
-- what an event leaves, by the registers that it gives
abbrev replacement : RmwOp → ((ℕ → ℕ) → ℕ → ℕ → ℕ) → Replacement Shared
replacement o gives =
    record {
      bytes = 16;
      address = λ regs. regs 6;
      leaves = λ regs old. result_of 128 o old (whole (regs 0) (regs 2));
      gives = gives;
      finds = λ regs w. number_at w.mem (regs 6) 16;
      after = λ regs w. shared_wrote (entry_of (regs 6) 16 (result_of 128 o (number_at w.mem (regs 6) 16) (whole (regs 0) (regs 2)))) w;
    }

-- where the computation begins: the number that was found last in rdx:rax, the operand in r9:r8, and rbx and rcx kept
record At (regs : ℕ → ℕ) (number : ℕ) (c : Processor) : Type 0 where
  pub low : c.regs 0 ≡ number % 2 ^ 64
  pub high : c.regs 2 ≡ number / 2 ^ 64
  pub operand : c.regs 8 ≡ regs 0
  pub operand_high : c.regs 9 ≡ regs 2
  pub rbx : c.regs 10 ≡ regs 3
  pub rcx : c.regs 11 ≡ regs 1
  pub rsp : c.regs 4 ≡ regs 4
  pub rsi : c.regs 6 ≡ regs 6

-- what is asked of an operation
record Fitting (regs : ℕ → ℕ) (w : Shared) : Type 0 where
  pub object : IsObject (regs 6) 16 w
  pub low : regs 0 < 2 ^ 64
  pub high : regs 2 < 2 ^ 64

abbrev zero_if : Bool → Option ℕ
zero_if t = if t then Some 0 else None

zero_leaves : Leaves 16 (Exchange 0 0 true)
zero_leaves n = by (nat_eq n 0) refl
  where
    by : (t : Bool) → nat_eq n 0 ≡ t → (zero_if t ≡ None) ⊎ ((n ≡ 0) × (zero_if t ≡ Some 0))
    by true e = inr (eqb-true n 0 e, refl)
    by false e = inl refl

module _ (o : RmwOp) (operation : Operation Shared) (fitting : (regs : ℕ → ℕ) (w : Shared) → operation.fits regs w → Fitting regs w) (gives : (ℕ → ℕ) → ℕ → ℕ → ℕ) (after : List X86Instr) where
  abbrev r : Replacement Shared
  r = replacement o gives

  abbrev loop : Loop X86Instr
  loop = wide_loop_of (wide_computation o) after

  -- the code behind finishes the registers
  abbrev Finishes : Type 0
  Finishes = (regs : ℕ → ℕ) (number : ℕ) (c : Processor) → At regs number c → Reaches x86_kind after c (λ b. Keeps is_kept b.regs (gives regs number))

  begins : (c : Processor) (regs : ℕ → ℕ) → Keeps is_kept c.regs regs → Reaches x86_kind loop.before c (λ b. Probes x86_kind is_kept operation r loop At regs b)
  begins c regs same =
      let b = behind_all loop.before c in
      reaches loop.before c _ refl
      (record {
        effect = swapping (regs 6) 0 0;
        is = λ w fit. swap_is b regs w (same 6 refl) (fitting regs w fit).object;
        probes = λ w fit. Swaps zero_leaves;
        found = λ number small. (
            let s = swapped_is 0 number b (omega arith) (omega arith) in
            let other : (q : ℕ) → 2 < q → (swapped 0 number b).regs q ≡ b.regs q = λ q h. s.others q (λ e. omega (arith, e, h)) (λ e. omega (arith, e, h)) in
            record {
              low = s.low;
              high = s.high;
              operand = other 8 (omega arith) ∙ same 0 refl;
              operand_high = other 9 (omega arith) ∙ same 2 refl;
              rbx = other 10 (omega arith) ∙ same 3 refl;
              rcx = other 11 (omega arith) ∙ same 1 refl;
              rsp = other 4 (omega arith) ∙ same 4 refl;
              rsi = other 6 (omega arith) ∙ same 6 refl;
            });
      })

  module _ (finish : Finishes) (regs : ℕ → ℕ) (number : ℕ) (small : number < 2 ^ 128) (c b : Processor) (h : At regs number c) (k : Combined o c b) where
    low_is : b.regs 0 ≡ number % 2 ^ 64
    low_is = k.stay.rax ∙ h.low

    high_is : b.regs 2 ≡ number / 2 ^ 64
    high_is = k.stay.rdx ∙ h.high

    low_small : b.regs 0 < 2 ^ 64
    low_small = (let e = low_is in omega (arith, e))

    high_small : b.regs 2 < 2 ^ 64
    high_small = (let e = high_is in omega (arith, e, small))

    abbrev expected : ℕ
    expected = whole (b.regs 0) (b.regs 2)

    abbrev new : ℕ
    new = whole (b.regs 3) (b.regs 1)

    expected_is : expected % 2 ^ 128 ≡ number
    expected_is = ap (λ v. whole v (b.regs 2) % 2 ^ 128) low_is ∙ ap (λ v. whole (number % 2 ^ 64) v % 2 ^ 128) high_is ∙ ap (λ v. v % 2 ^ 128) (halves_are number) ∙ mod-eq_of_lt small

    new_is : regs 0 < 2 ^ 64 → regs 2 < 2 ^ 64 → new ≡ result_of 128 o number (whole (regs 0) (regs 2))
    new_is low high =
        let lo = number % 2 ^ 64 in
        let hi = number / 2 ^ 64 in
        ap (λ v. whole v (b.regs 1)) k.low ∙ ap (whole (new_low o (c.regs 0) (c.regs 2) (c.regs 8) (c.regs 9))) k.high
        ∙ wide_leaves o (c.regs 0) (c.regs 2) (c.regs 8) (c.regs 9) (subst (λ v. v < 2 ^ 64) (sym h.low) (omega arith)) (subst (λ v. v < 2 ^ 64) (sym h.high) (omega (arith, small))) (subst (λ v. v < 2 ^ 64) (sym h.operand) low) (subst (λ v. v < 2 ^ 64) (sym h.operand_high) high)
        ∙ ap (λ v. result_of 128 o (whole v (c.regs 2)) (whole (c.regs 8) (c.regs 9))) h.low ∙ ap (λ v. result_of 128 o (whole lo v) (whole (c.regs 8) (c.regs 9))) h.high ∙ ap (λ v. result_of 128 o v (whole (c.regs 8) (c.regs 9))) (halves_are number)
        ∙ ap (λ v. result_of 128 o number (whole v (c.regs 9))) h.operand ∙ ap (λ v. result_of 128 o number (whole (regs 0) v)) h.operand_high

    -- behind the exchange, wherever that goes
    there : (found place : ℕ) → At regs found (go_to place (swapped new found b))
    there found place =
        let s = swapped_is new found b low_small high_small in
        let other : (q : ℕ) → 2 < q → (swapped new found b).regs q ≡ b.regs q = λ q h. s.others q (λ e. omega (arith, e, h)) (λ e. omega (arith, e, h)) in
        record {
          low = s.low;
          high = s.high;
          operand = other 8 (omega arith) ∙ k.stay.r8 ∙ h.operand;
          operand_high = other 9 (omega arith) ∙ k.stay.r9 ∙ h.operand_high;
          rbx = other 10 (omega arith) ∙ k.stay.r10 ∙ h.rbx;
          rcx = other 11 (omega arith) ∙ k.stay.r11 ∙ h.rcx;
          rsp = other 4 (omega arith) ∙ k.stay.rsp ∙ h.rsp;
          rsi = other 6 (omega arith) ∙ k.stay.rsi ∙ h.rsi;
        }

    zero_not_one : (found : ℕ) → nat_eq found (expected % 2 ^ 128) ≡ false → 0 ≢ unequal (nat_eq found (expected % 2 ^ 128))
    zero_not_one found e same = (let q : 0 ≡ 1 = same ∙ ap unequal e in omega (arith, q))

    exchanges : Exchanges x86_kind is_kept operation r loop At regs number b
    exchanges =
        record {
          to = 0;
          high = 2;
          rest = Zeros;
          compares = true;
          expected = expected;
          new = new;
          is_expected = expected_is;
          is = λ w fit. swap_is b regs w (k.stay.rsi ∙ h.rsi) (fitting regs w fit).object;
          is_new = λ w fit. (let q = fitting regs w fit in ap (λ v. v % 2 ^ 128) (new_is q.low q.high));
          done = record { on = λ fits. turns_on (length loop.computation) (swapped new number b) (ap unequal (sym (eq-eqb _ _ (sym expected_is)))); puts = finish regs number _ (there number _) };
          back = λ found found_small ne. record {
            back = λ start at fits. turns_back (length loop.computation) start (swapped new found b) (zero_not_one found (ne_eqb _ _ (λ e. ne (e ∙ expected_is)))) at fits;
            again = λ place. there found place;
          };
        }

  computes : Finishes → (c : Processor) (regs : ℕ → ℕ) (number : ℕ) → number < 2 ^ 128 → At regs number c → Reaches x86_kind loop.computation c (λ b. Exchanges x86_kind is_kept operation r loop At regs number b)
  computes finish c regs number small h = (let q = combines o c in record { last = q.last; goes = q.goes; known = exchanges finish regs number small c q.last h q.known })

  -- an operation that does so
  abbrev Acts : Type 0
  Acts = (p : ℕ) (regs : ℕ → ℕ) (seen : Option ℕ) (w : Shared) → w.pending p ≡ [] → operation.happens An_act p regs seen w ≡ Some (record { regs = gives regs (number_at w.mem (regs 6) 16); seen = None; world = r.after regs w; output = None; excused = false })

  replaces : Acts → Replaces bytes_world operation r
  replaces acts =
      record {
        width = refl;
        happens = λ p m regs seen w sees empty fit. acts p regs seen w (none_pending p m w sees empty);
        aligned = λ regs w fit. (fitting regs w fit).object.aligned;
        below = λ regs w fit. (fitting regs w fit).object.shared;
        inside = λ m regs w sees fit. ap (λ g. all_inside g (regs 6) 16) sees.inside ∙ (fitting regs w fit).object.inside;
        found = λ m regs w sees fit. object_number m (regs 6) 16 w sees (wide_object (regs 6) w (fitting regs w fit).object);
        small = λ regs w fit. number_small w.mem (fitting regs w fit).object.small (regs 6) 16;
        seen_small = λ p m regs w sees fit. seen_small p (regs 6) 16 m w sees (wide_object (regs 6) w (fitting regs w fit).object);
        shows = λ lib p m new regs w sees fit wrote. wrote_sees lib p _ m new w sees wrote;
      }

  wide_expands : Acts → Finishes → Expands x86_kind bytes_world (loop_most loop) is_kept (loop_size loop) (λ start. loop_code loop) operation
  wide_expands acts finish = compares x86_kind bytes_world bytes_lawful is_kept operation r loop At (record { replaces = replaces acts; begins = begins; computes = computes finish })

-- ---- a read-modify-write, and a store
module _ (cx16 : Bool) (order : Order) (weak : Bool) where
  abbrev target : Target
  target = X86 cx16

  abbrev found_in : ℕ → ℕ → ℕ → RmwOp → Shared → Option (Result Shared)
  found_in a v0 v1 o w = (let n = number_at w.mem a 16 in Some (results_with (n % 2 ^ 64 ∷ n / 2 ^ 64 ∷ []) (shared_wrote (entry_of a 16 (result_of 128 o n (whole v0 v1))) w)))

  updates : (o : RmwOp) (p a v0 v1 : ℕ) (seen : Option ℕ) (w : Shared) → w.pending p ≡ [] → (atomic_doing target (op.Rmw o) W128 order weak).happens An_act p a (v0 ∷ v1 ∷ []) seen w ≡ found_in a v0 v1 o w
  updates o p a v0 v1 seen w none = ap (found_in a v0 v1 o) (sent_same p w none)

  pub update_expands : (o : RmwOp) → (let z = wide_loop o in Expands x86_kind bytes_world (loop_most z) is_kept (loop_size z) (λ start. loop_code z) (wide_operation cx16 (op.Rmw o) order weak))
  update_expands o =
      wide_expands o (wide_operation cx16 (op.Rmw o) order weak) (λ regs w fit. record { object = fit.0; low = fit.1.0; high = fit.1.1.0 }) (λ regs n. at_place (at_place regs 0 (n % 2 ^ 64)) 2 (n / 2 ^ 64)) restored
      (λ p regs seen w none. ap (deed_of (0 ∷ 2 ∷ []) regs) (updates o p (regs 6) (regs 0) (regs 2) seen w none))
      (λ regs n c h. reaches restored c _ refl (keeps_each _ _ h.low h.rcx h.high h.rbx h.rsp h.rsi))

  -- a store of 16 bytes never waits
  is_loop : (cx16 : Bool) → is_inline (decided (X86 cx16) op.Store W128 16) ≡ false
  is_loop true = refl
  is_loop false = refl

  never : (b : Bool) → (b && false) ≡ false
  never true = refl
  never false = refl

  abbrev stored_by : Bool → ℕ → ℕ → ℕ → Shared → Option (Result Shared)
  stored_by may p a v w = Some (results_with [] (met_by (manner_of_native (Writes v) may) true p a 16 (Writes v) w).world)

  stores : (p a v0 v1 : ℕ) (seen : Option ℕ) (w : Shared) → w.pending p ≡ [] → (atomic_doing target op.Store W128 order weak).happens An_act p a (v0 ∷ v1 ∷ []) seen w ≡ Some (results_with [] (shared_wrote (entry_of a 16 (whole v0 v1)) w))
  stores p a v0 v1 seen w none =
      ap (λ b. stored_by (not (is_seq_cst order) && b) p a (whole v0 v1) w) (is_loop cx16) ∙ ap (λ b. stored_by b p a (whole v0 v1) w) (never (not (is_seq_cst order)))
      ∙ ap (λ s. Some (results_with [] (shared_wrote (entry_of a 16 (whole v0 v1)) s))) (sent_same p w none)

  pub store_expands : Expands x86_kind bytes_world (loop_most wide_store) is_kept (loop_size wide_store) (λ start. loop_code wide_store) (wide_operation cx16 op.Store order weak)
  store_expands =
      wide_expands rmw.Xchg (wide_operation cx16 op.Store order weak) (λ regs w fit. record { object = fit.0; low = fit.1.0; high = fit.1.1.0 }) (λ regs n. regs) (restored ++ (x86.Mov 8 0 ∷ x86.Mov 9 2 ∷ []))
      (λ p regs seen w none. ap (deed_of [] regs) (stores p (regs 6) (regs 0) (regs 2) seen w none))
      (λ regs n c h. reaches (restored ++ (x86.Mov 8 0 ∷ x86.Mov 9 2 ∷ [])) c _ refl (keeps_each _ _ h.operand h.rcx h.operand_high h.rbx h.rsp h.rsi))
