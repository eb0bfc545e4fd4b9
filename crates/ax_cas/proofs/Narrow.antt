-- A loop of `lock cmpxchg` up to 8 bytes does what each read-modify-write says.
use Rattle.std.proofs.Common.{◌≡◌, ℕ, ◌+◌, ◌-◌, ◌*◌, ◌%◌, ◌^◌, ◌<◌, ◌≤◌, negsuc, Bool, true, false, List, [], ◌∷◌, length, mod-eq_of_lt, refl, sym, ap, ◌∙◌, subst, inl, arith}
use Rattle.std.specs.Prelude.{◌≢◌, if◌then◌else◌, nat_eq, not}
use Rattle.std.proofs.lemmas.Bool.{eq-eqb, false≢true, ne_eqb}
use Rattle.ax_words.specs.declared.mark.Op.TheVariants as op
use Rattle.ax_words.specs.declared.operation.RmwOp.{RmwOp}
use Rattle.ax_words.specs.declared.order.Order.{Order}
use Rattle.ax_words.specs.declared.width.Width.{Width}
use Rattle.ax_words.specs.declared.width.Width.TheVariants.{W8, W16, W32, W64, W128}
use Rattle.ax_words.specs.Width.{bits_of, bytes_of}
use Rattle.ax_ops.specs.Operation.{result_of}
use Rattle.ax_store.specs.Bytes.{all_inside, number_at}
use Rattle.ax_store.specs.Storage.{at_place}
use Rattle.ax_store.proofs.Numbers.{number_small}
use Rattle.ax_target.specs.declared.target.Target.{Target}
use Rattle.ax_target.specs.declared.target.Target.TheVariants.{X86}
use Rattle.ax_isa.specs.declared.effects.Change.TheVariants.{Exchange}
use Rattle.ax_isa.specs.declared.effects.Effect.{Effect}
use Rattle.ax_isa.specs.declared.effects.Effect.TheVariants as effect
use Rattle.ax_isa.specs.declared.effects.Rest.{Rest}
use Rattle.ax_isa.specs.declared.effects.Rest.TheVariants.{Zeros}
use Rattle.ax_isa.specs.Numbers.{displaced}
use Rattle.ax_isa.specs.Past.{Noted}
use Rattle.ax_isa.specs.Processor.{Processor}
use Rattle.ax_isa.specs.Steps.{exchanged, extended, go_to, go_with, taken}
use Rattle.ax_isa.proofs.Functions.{at_same, at_other}
use Rattle.ax_x86.specs.declared.instructions.Condition.TheVariants as condition
use Rattle.ax_x86.specs.declared.instructions.X86Instr.{X86Instr}
use Rattle.ax_x86.specs.declared.instructions.X86Instr.TheVariants as x86
use Rattle.ax_x86.specs.Instructions.{branch_place, effect_of, rest_of, x86_kind}
use Rattle.ax_fine.specs.OnBytes.{IsObject, atomic_doing}
use Rattle.ax_expand.specs.Bytes.{bytes_world}
use Rattle.ax_expand.specs.Doing.{deed_of}
use Rattle.ax_expand.specs.Expands.{Expands}
use Rattle.ax_expand.specs.Operation.{Keeps, Operation}
use Rattle.ax_expand.specs.Shared.{Object, Sees, Shared, shared_only}
use Rattle.ax_expand.proofs.Bytes.{bytes_lawful}
use Rattle.ax_expand.proofs.Sights.{object_number}
use Rattle.ax_emit_x86.specs.Code.{size_of_bytes}
use Rattle.ax_emit_x86.specs.Laws.{is_kept}
use Rattle.ax_loops.specs.Moving.{Turns}
use Rattle.ax_loops.specs.Registers.{all_but}
use Rattle.ax_loops.specs.Replacing.{Replacement, Replaces}
use Rattle.ax_loops.proofs.Registers.{apart, with_result}
use Rattle.ax_loops.proofs.Updating.{seen_small, wrote_sees}
use Rattle.ax_mask.proofs.Found.{object_of}
use Rattle.ax_cas.specs.Compares.{Compares, Exchanges, IsBack, IsDone, Loads, Loop, Probes, loop_code, loop_most, loop_size}
use Rattle.ax_cas.specs.Loops.{back_over, combined, copied, is_signed, low_bits, narrow_computation, narrow_loop}
use Rattle.ax_cas.specs.Rounds.{Reaches}
use Rattle.ax_cas.proofs.Accesses.{load_effect, located, stays}
use Rattle.ax_cas.proofs.Acts.{atomic_updates, left_in}
use Rattle.ax_cas.proofs.Compares.{compares}
use Rattle.ax_cas.proofs.Inline.{exchange_effect, narrow_operation}
use Rattle.ax_cas.proofs.Running.{behind, reaches}
use Rattle.ax_cas.proofs.Values.{combined_leaves, combined_of, combined_reaches, copied_reaches}
use Rattle.ax_cas.proofs.Widths.{Narrow, Results, low_of, low_reaches, pair_one, reaches_then, taken_one}

-- nothing of p waits above
pub none_pending : (p : ℕ) (n : Noted) (w : Shared) → Sees n.storage w → n.storage.waiting p ≡ [] → w.pending p ≡ []
none_pending p n w sees empty = sym (sees.pending p) ∙ ap shared_only empty

-- ---- the branch back
branch_effect : (distance : ℕ) (c : Processor) → effect_of (x86.Jcc condition.NotEqual (negsuc distance)) c ≡ effect.Jump (branch_place condition.NotEqual (negsuc distance) c)
unfolding effect_of
branch_effect distance c = refl

back_place : (place start many : ℕ) → place ≡ start + (many + 1) → place + 1 < 2 ^ 32 → displaced place (negsuc many) ≡ start
back_place place start many at small = (let e : (place + (2 ^ 64 - 1 - many)) % 2 ^ 64 ≡ start = omega (arith, at, small) in e)

-- on, where the numbers last compared are equal, and else back
pub turns_on : (many : ℕ) (c : Processor) → c.compared.0 ≡ c.compared.1 → Turns (effect_of (x86.Jcc condition.NotEqual (negsuc many)) c) c (c.place + 1)
turns_on many c e = inl (branch_effect many c ∙ ap (λ t. effect.Jump (if not t then displaced c.place (negsuc many) else c.place + 1)) (eq-eqb _ _ e))

pub turns_back : (many start : ℕ) (c : Processor) → c.compared.0 ≢ c.compared.1 → c.place ≡ start + (many + 1) → c.place + 1 < 2 ^ 32 → Turns (effect_of (x86.Jcc condition.NotEqual (negsuc many)) c) c start
turns_back many start c ne at small = inl (branch_effect many c ∙ ap (λ t. effect.Jump (if not t then displaced c.place (negsuc many) else c.place + 1)) (ne_eqb _ _ ne) ∙ ap effect.Jump (back_place c.place start many at small))

-- a number in a register that had a smaller one of its size: all above its bytes were zeros
zeros_above : (width : Width) (before number : ℕ) → Narrow width → before < 2 ^ bits_of width → extended (bytes_of width) (rest_of (size_of_bytes (bytes_of width))) before number ≡ number
zeros_above W8 before number f small = (let h : before < 2 ^ 8 = small in let e : before - before % 2 ^ 8 + number ≡ number = omega (arith, h) in e)
zeros_above W16 before number f small = (let h : before < 2 ^ 16 = small in let e : before - before % 2 ^ 16 + number ≡ number = omega (arith, h) in e)
zeros_above W32 before number f small = refl
zeros_above W64 before number f small = refl
zeros_above W128 before number f small = absurd (false≢true (sym f.narrow))

module _ (cx16 : Bool) (width : Width) (f : Narrow width) (order : Order) (weak : Bool) (o : RmwOp) where
  abbrev target : Target
  target = X86 cx16

  abbrev operation : Operation Shared
  operation = narrow_operation cx16 (op.Rmw o) width order weak

  abbrev n : ℕ
  n = bytes_of width

  abbrev signs : Bool
  signs = is_signed o

  abbrev pub replacement : Replacement Shared
  replacement =
      record {
        bytes = n;
        address = λ regs. regs 6;
        leaves = λ regs old. result_of (bits_of width) o old (regs 0 % 2 ^ bits_of width);
        gives = λ regs old. at_place regs 0 old;
        finds = λ regs w. number_at w.mem (regs 6) n;
        after = λ regs w. left_in target width f order weak o (regs 6) (regs 0) w;
      }

  object : (regs : ℕ → ℕ) (w : Shared) → IsObject (regs 6) n w → Object (regs 6) n w
  object regs w fit = object_of (regs 6) n w f.some fit

  replaces : Replaces bytes_world operation replacement
  replaces =
      record {
        width = f.is_width;
        happens = λ p m regs seen w sees empty fit. ap (deed_of (0 ∷ []) regs) (atomic_updates target width f order weak o p (regs 6) (regs 0) seen w fit (none_pending p m w sees empty));
        aligned = λ regs w fit. fit.aligned;
        below = λ regs w fit. (object regs w fit).below;
        inside = λ m regs w sees fit. ap (λ g. all_inside g (regs 6) n) sees.inside ∙ fit.inside;
        found = λ m regs w sees fit. object_number m (regs 6) n w sees (object regs w fit);
        small = λ regs w fit. number_small w.mem fit.small (regs 6) n;
        seen_small = λ p m regs w sees fit. seen_small p (regs 6) n m w sees (object regs w fit);
        shows = λ lib p m new regs w sees fit wrote. wrote_sees lib p _ m new w sees wrote;
      }

  -- where the computation begins: rax has the number that was found last, r8 the operand
  record At (regs : ℕ → ℕ) (number : ℕ) (c : Processor) : Type 0 where
    pub found : c.regs 0 ≡ number
    pub operand : c.regs 8 ≡ low_of signs width (regs 0)
    pub others : Keeps (all_but 0 is_kept) c.regs regs

  abbrev loop : Loop X86Instr
  loop = narrow_loop o width

  not_scratch : (r q : ℕ) → is_kept r ≡ false → is_kept q ≡ true → q ≢ r
  not_scratch r q free k e = false≢true (sym free ∙ sym (ap is_kept e) ∙ k)

  begins : (c : Processor) (regs : ℕ → ℕ) → Keeps is_kept c.regs regs → Reaches x86_kind loop.before c (λ b. Probes x86_kind is_kept operation replacement loop At regs b)
  begins c regs same =
      let c1 = behind (x86.Mov 0 8) c in
      let c2 = go_with 8 (low_of signs width (c.regs 0)) c1 in
      reaches_then x86_kind (x86.Mov 0 8 ∷ []) (low_bits signs width 8 ∷ []) c (λ b. b ≡ c1) _ (reaches (x86.Mov 0 8 ∷ []) c (λ b. b ≡ c1) refl refl)
      (λ b is. subst (λ (b : Processor). Reaches x86_kind (low_bits signs width 8 ∷ []) b (λ d. Probes x86_kind is_kept operation replacement loop At regs d)) (sym is)
      (low_reaches signs width 8 c1 _ f
      (record {
        effect = effect.Load 0 (regs 6) n Zeros false;
        is = λ w fit. load_effect width f c2 regs w (same 6 refl) fit;
        probes = λ w fit. Loads;
        found = λ number small. record {
          found = refl;
          operand = ap (low_of signs width) (same 0 refl);
          others = λ q k. (
              let a = apart is_kept 0 q k in
              at_other c2.regs 0 number q a.1 ∙ at_other c1.regs 8 _ q (not_scratch 8 q refl a.0) ∙ at_other c.regs 8 _ q (not_scratch 8 q refl a.0) ∙ same q a.0);
        };
      })))

  -- once all is computed
  record Computed (regs : ℕ → ℕ) (number : ℕ) (c : Processor) : Type 0 where
    pub found : c.regs 0 ≡ number
    pub new : c.regs 9 ≡ combined_of o (low_of signs width number) (low_of signs width (regs 0))
    pub operand : c.regs 8 ≡ low_of signs width (regs 0)
    pub others : Keeps (all_but 0 is_kept) c.regs regs

  abbrev rest : Rest
  rest = rest_of (size_of_bytes (bytes_of width))

  -- behind the exchange, which found a number
  abbrev behind_exchange : Processor → ℕ → Processor
  behind_exchange c found = exchanged n 0 0 rest (Exchange (c.regs 0) (c.regs 9) true) found c

  abbrev left_if : Processor → ℕ → Bool → ℕ → ℕ
  left_if c found equal = if equal then c.regs else taken n 0 0 rest found c.regs

  module _ (regs : ℕ → ℕ) (number : ℕ) (small : number < 2 ^ bits_of width) (c : Processor) (h : Computed regs number c) where
    cut_is : c.regs 0 % 2 ^ bits_of width ≡ number
    cut_is = ap (λ v. v % 2 ^ bits_of width) h.found ∙ mod-eq_of_lt small

    compared_is : (found : ℕ) → (behind_exchange c found).compared ≡ (number, found)
    compared_is found = pair_one width (c.regs 0 % 2 ^ bits_of width) found f ∙ ap (λ v. (v, found)) cut_is

    done : IsDone x86_kind is_kept operation replacement loop regs number (behind_exchange c number)
    done =
        let b = behind_exchange c number in
        let equal : nat_eq number (c.regs 0 % 2 ^ bits_of width) ≡ true = eq-eqb _ _ (sym cut_is) in
        record {
          on = λ fits. turns_on (length loop.computation) b (ap (λ (z : ℕ × ℕ). z.0) (compared_is number) ∙ sym (ap (λ (z : ℕ × ℕ). z.1) (compared_is number)));
          puts = stays _ _ (λ q k. ap (λ (t : Bool). left_if c number t q) equal ∙ with_result is_kept 0 c.regs regs number h.others h.found q k);
        }

    again : (found : ℕ) → found < 2 ^ bits_of width → found ≢ number → IsBack x86_kind is_kept operation replacement loop At regs found (behind_exchange c found)
    again found found_small ne =
        let b = behind_exchange c found in
        let differ : nat_eq found (c.regs 0 % 2 ^ bits_of width) ≡ false = ne_eqb _ _ (λ e. ne (e ∙ cut_is)) in
        let gets : (q : ℕ) → b.regs q ≡ at_place c.regs 0 (extended n rest (c.regs 0) found) q = λ q. ap (λ (t : Bool). left_if c found t q) differ ∙ ap (λ (g : ℕ → ℕ). g q) (taken_one width 0 0 rest found c.regs f) in
        record {
          back = λ start at fits. turns_back (length loop.computation) start b (λ e. ne (sym (ap (λ (z : ℕ × ℕ). z.1) (compared_is found)) ∙ sym e ∙ ap (λ (z : ℕ × ℕ). z.0) (compared_is found))) at fits;
          again = λ place. record {
            found = gets 0 ∙ zeros_above width (c.regs 0) found f (subst (λ v. v < 2 ^ bits_of width) (sym h.found) small);
            operand = gets 8 ∙ h.operand;
            others = λ q k. gets q ∙ at_other c.regs 0 _ q (apart is_kept 0 q k).1 ∙ h.others q k;
          };
        }

    exchanges : Exchanges x86_kind is_kept operation replacement loop At regs number c
    exchanges =
        record {
          to = 0;
          high = 0;
          rest = rest;
          compares = true;
          expected = c.regs 0;
          new = c.regs 9;
          is_expected = cut_is;
          is = λ w fit. exchange_effect width 9 c ∙ located width f (λ a m. effect.Locked 0 0 a m rest (Exchange (c.regs 0) (c.regs 9) true)) c regs w (h.others 6 refl) fit;
          is_new = λ w fit. ap (λ v. v % 2 ^ bits_of width) h.new ∙ combined_leaves o width number (regs 0) f small;
          done = done;
          back = again;
        }

  computes : (c : Processor) (regs : ℕ → ℕ) (number : ℕ) → number < 2 ^ bits_of width → At regs number c → Reaches x86_kind loop.computation c (λ b. Exchanges x86_kind is_kept operation replacement loop At regs number b)
  computes c regs number small h =
      let c1 = go_with 9 (low_of signs width number) c in
      reaches_then x86_kind (copied signs width ∷ []) (combined o) c (λ b. b ≡ c1) _ (copied_reaches signs width number c (λ b. b ≡ c1) f small h.found refl)
      (λ b is. subst (λ (b : Processor). Reaches x86_kind (combined o) b (λ d. Exchanges x86_kind is_kept operation replacement loop At regs number d)) (sym is)
      (let r = combined_reaches o c1 in
      record {
        last = r.last;
        goes = r.goes;
        known = exchanges regs number small r.last
            (record {
              found = r.known.others 0 (λ e. omega (arith, e)) ∙ h.found;
              new = r.known.is ∙ ap (λ v. combined_of o (low_of signs width number) v) h.operand;
              operand = r.known.others 8 (λ e. omega (arith, e)) ∙ h.operand;
              others = λ q k. (let ne = not_scratch 9 q refl (apart is_kept 0 q k).0 in r.known.others q ne ∙ at_other c.regs 9 _ q ne ∙ h.others q k);
            });
      }))

  pub narrow_expands : Expands x86_kind bytes_world (loop_most loop) is_kept (loop_size loop) (λ start. loop_code loop) operation
  narrow_expands = compares x86_kind bytes_world bytes_lawful is_kept operation replacement loop At (record { replaces = replaces; begins = begins; computes = computes })
