-- A load, a store and a fence, one instruction each, and a read-modify-write of one instruction with straight code round it.
use Rattle.std.proofs.Common.{◌≡◌, ℕ, ◌+◌, ◌*◌, ◌%◌, ◌^◌, ◌<◌, ◌≤◌, Bool, true, false, List, [], ◌∷◌, Option, Some, None, refl, sym, ap, ◌∙◌, subst, ⊎_elim, arith}
use Rattle.std.specs.Prelude.{◌≢◌, if◌then◌else◌, nat_eq, pos}
use Rattle.std.proofs.lemmas.Bool.{cases_eq, false≢true}
use Rattle.ax_words.specs.declared.operation.RmwOp.{RmwOp}
use Rattle.ax_words.specs.declared.width.Width.{Width}
use Rattle.ax_words.specs.Width.{bits_of, bytes_of}
use Rattle.ax_ops.specs.Operation.{result_of}
use Rattle.ax_store.specs.Bytes.{number_at}
use Rattle.ax_store.specs.Storage.{at_place, entry_of}
use Rattle.ax_store.proofs.Numbers.{number_small}
use Rattle.ax_isa.specs.declared.effects.Change.TheVariants.{Update}
use Rattle.ax_isa.specs.declared.effects.Effect.{Effect}
use Rattle.ax_isa.specs.declared.effects.Effect.TheVariants as effect
use Rattle.ax_isa.specs.declared.effects.Rest.TheVariants.{Zeros}
use Rattle.ax_isa.specs.Numbers.{displaced}
use Rattle.ax_isa.specs.Processor.{Processor}
use Rattle.ax_isa.specs.Tells.{An_act}
use Rattle.ax_isa.proofs.Functions.{at_same, at_other}
use Rattle.ax_x86.specs.declared.instructions.X86Instr.{X86Instr}
use Rattle.ax_x86.specs.Instructions.{effect_of, rest_of, x86_kind}
use Rattle.ax_x86.specs.Sizes.{size_bytes}
use Rattle.ax_fine.specs.OnBytes.{IsObject, found_at, results_with}
use Rattle.ax_expand.specs.Doing.{Doing, Result, deed_of, on_registers}
use Rattle.ax_expand.specs.OneInstruction.{Happens}
use Rattle.ax_expand.specs.Operation.{Deed, Keeps, Operation}
use Rattle.ax_expand.specs.Shared.{Object, Shared, shared_store, shared_wrote}
use Rattle.ax_expand.proofs.Telling.{kept_set}
use Rattle.ax_emit_x86.specs.Code.{load_in, size_of_bytes, store_in}
use Rattle.ax_emit_x86.specs.Laws.{is_kept}
use Rattle.ax_loops.specs.Registers.{all_but}
use Rattle.ax_loops.proofs.Registers.{apart, with_result}
use Rattle.ax_mask.proofs.Found.{object_of}
use Rattle.ax_cas.specs.Codes.{lone, widened}
use Rattle.ax_cas.specs.Rounds.{Accesses, Acted, IsRound, Reaches, Straight}
use Rattle.ax_cas.proofs.Acts.{one_result}
use Rattle.ax_cas.proofs.Widths.{Narrow, Results, reaches_then, widens}

-- an address below the frames is one without a displacement
pub at_object : (a b n : ℕ) (w : Shared) → a ≡ b → IsObject b n w → displaced a (pos 0) ≡ b
at_object a b n w e o = (let low = o.shared in let f : (a + 0) % 2 ^ 64 ≡ b = omega (arith, e, low) in f)

-- an effect at the address, on as many bytes as the width has
pub located : (width : Width) (f : Narrow width) (e : ℕ → ℕ → Effect) (c : Processor) (regs : ℕ → ℕ) (w : Shared) → c.regs 6 ≡ regs 6 → IsObject (regs 6) (bytes_of width) w → e (displaced (c.regs 6) (pos 0)) (size_bytes (size_of_bytes (bytes_of width))) ≡ e (regs 6) (bytes_of width)
located width f e c regs w same o = ap (λ a. e a (size_bytes (size_of_bytes (bytes_of width)))) (at_object (c.regs 6) (regs 6) (bytes_of width) w same o) ∙ ap (e (regs 6)) f.sized

-- no code
pub stays : (c : Processor) (Q : Processor → Type 0) → Q c → Reaches x86_kind [] c Q
stays c Q h = record { last = c; goes = λ f. refl; known = h }

-- an event by what the operation gives there
pub happens_as : (results : List ℕ) (regs : ℕ → ℕ) (given : Option (Result Shared)) (r : Result Shared) (Q : Deed Shared → Type 0) → given ≡ Some r → Happens (deed_of results regs (Some r)) Q → Happens (deed_of results regs given) Q
happens_as results regs given r Q e h = subst (λ g. Happens (deed_of results regs g) Q) (sym e) h

-- ---- loads and stores of one instruction
pub load_effect : (width : Width) (f : Narrow width) (c : Processor) (regs : ℕ → ℕ) (w : Shared) → c.regs 6 ≡ regs 6 → IsObject (regs 6) (bytes_of width) w → effect_of (load_in (bytes_of width)) c ≡ effect.Load 0 (regs 6) (bytes_of width) Zeros false
unfolding effect_of
load_effect width f c regs w same o = located width f (λ a m. effect.Load 0 a m Zeros false) c regs w same o

store_effect : (width : Width) (f : Narrow width) (c : Processor) (regs : ℕ → ℕ) (w : Shared) → c.regs 6 ≡ regs 6 → c.regs 0 ≡ regs 0 → IsObject (regs 6) (bytes_of width) w → effect_of (store_in (bytes_of width)) c ≡ effect.Store (regs 6) (bytes_of width) (regs 0)
unfolding effect_of
store_effect width f c regs w same number o = located width f (λ a m. effect.Store a m (c.regs 0)) c regs w same o ∙ ap (effect.Store (regs 6) (bytes_of width)) number

module _ (doing : Doing Shared) (width : Width) (f : Narrow width) (object : (a : ℕ) (args : List ℕ) (w : Shared) → doing.fits a args w → IsObject a (bytes_of width) w) (keeps : ℕ → Bool) (kept : keeps 6 ≡ true) where
  abbrev n : ℕ
  n = bytes_of width

  is_object : (a : ℕ) (args : List ℕ) (w : Shared) → doing.fits a args w → Object a n w
  is_object a args w fit = object_of a n w f.some (object a args w fit)

  pub load_round : ((p a : ℕ) (seen : Option ℕ) (w : Shared) → doing.fits a [] w → doing.happens An_act p a [] seen w ≡ one_result (found_at p a n w) w) → IsRound x86_kind keeps (on_registers doing 6 [] (0 ∷ [])) (lone (load_in n))
  load_round loads c regs same =
      stays c _
      (record {
        effect = effect.Load 0 (regs 6) n Zeros false;
        is = λ w fit. load_effect width f c regs w (same 6 kept) (object (regs 6) [] w fit);
        object = λ w fit. is_object (regs 6) [] w fit;
        acts = λ p seen w fit below none. happens_as (0 ∷ []) regs _ _ _ (loads p (regs 6) seen w fit)
            (record { world = refl; output = refl; excused = refl; puts = stays _ _ (kept_set {kept = keeps} c.regs regs 0 (found_at p (regs 6) n w) (found_at p (regs 6) n w) same refl) });
      })

  pub store_round : keeps 0 ≡ true → ((p a v : ℕ) (seen : Option ℕ) (w : Shared) → doing.happens An_act p a (v ∷ []) seen w ≡ Some (results_with [] (shared_store true p (entry_of a n v) w))) → IsRound x86_kind keeps (on_registers doing 6 (0 ∷ []) []) (lone (store_in n))
  store_round number stores c regs same =
      stays c _
      (record {
        effect = effect.Store (regs 6) n (regs 0);
        is = λ w fit. store_effect width f c regs w (same 6 kept) (same 0 number) (object (regs 6) (regs 0 ∷ []) w fit);
        object = λ w fit. is_object (regs 6) (regs 0 ∷ []) w fit;
        acts = λ p seen w fit below none. happens_as [] regs _ _ _ (stores p (regs 6) (regs 0) seen w) (record { world = refl; output = refl; excused = refl; puts = stays _ _ same });
      })

-- ---- a read-modify-write, which is an update of a register's number by an instruction
-- behind the code before it: the register that is to be the result's has a number that the instruction's update makes of it what the operation leaves
pub record Prepared (width : Width) (o q : RmwOp) (regs : ℕ → ℕ) (c : Processor) : Type 0 where
  pub leaves : (old : ℕ) → old < 2 ^ bits_of width → result_of (bits_of width) q old (c.regs 0 % 2 ^ bits_of width) ≡ result_of (bits_of width) o old (regs 0 % 2 ^ bits_of width)
  pub others : Keeps (all_but 0 is_kept) c.regs regs

-- all that is kept is the operation's
pub gives_result : (number : ℕ) (regs before : ℕ → ℕ) (c : Processor) → Keeps (all_but 0 is_kept) before regs → Results 0 number before c → Keeps is_kept c.regs (at_place regs 0 number)
gives_result number regs before c same h = with_result is_kept 0 c.regs regs number (λ q k. h.others q (apart is_kept 0 q k).1 ∙ same q k) h.is

module _ (doing : Doing Shared) (width : Width) (f : Narrow width) (object : (a : ℕ) (args : List ℕ) (w : Shared) → doing.fits a args w → IsObject a (bytes_of width) w) where
  abbrev bytes : ℕ
  bytes = bytes_of width

  module _ (o q : RmwOp) (i : X86Instr) (update_effect : (c : Processor) → effect_of i c ≡ effect.Locked 0 0 (displaced (c.regs 6) (pos 0)) (size_bytes (size_of_bytes bytes)) (rest_of (size_of_bytes bytes)) (Update q (c.regs 0)))
      (updates : (p a v : ℕ) (seen : Option ℕ) (w : Shared) → doing.fits a (v ∷ []) w → w.pending p ≡ [] → doing.happens An_act p a (v ∷ []) seen w ≡ one_result (number_at w.mem a bytes) (shared_wrote (entry_of a bytes (result_of (bits_of width) o (number_at w.mem a bytes) (v % 2 ^ bits_of width))) w)) where
    abbrev updating : ℕ → ℕ → Effect
    updating a v = effect.Locked 0 0 a bytes (rest_of (size_of_bytes bytes)) (Update q v)

    update_is : (c : Processor) (regs : ℕ → ℕ) (w : Shared) → c.regs 6 ≡ regs 6 → IsObject (regs 6) bytes w → effect_of i c ≡ updating (regs 6) (c.regs 0)
    update_is c regs w same h = update_effect c ∙ located width f (λ a m. effect.Locked 0 0 a m (rest_of (size_of_bytes bytes)) (Update q (c.regs 0))) c regs w same h

    pub update_round : (before : List X86Instr) → ((c : Processor) → Reaches x86_kind before c (λ b. Prepared width o q c.regs b)) → IsRound x86_kind is_kept (on_registers doing 6 (0 ∷ []) (0 ∷ [])) (record { before = before; access = i; after = widened width })
    update_round before prepares c regs same =
        let r = prepares c in
        let b = r.last in
        let others : Keeps (all_but 0 is_kept) b.regs regs = λ m k. r.known.others m k ∙ same m (apart is_kept 0 m k).0 in
        record {
          last = b;
          goes = r.goes;
          known = record {
            effect = updating (regs 6) (b.regs 0);
            is = λ w fit. update_is b regs w (others 6 refl) (object (regs 6) (regs 0 ∷ []) w fit);
            object = λ w fit. object_of (regs 6) bytes w f.some (object (regs 6) (regs 0 ∷ []) w fit);
            acts = λ p seen w fit below none. (
                let number = number_at w.mem (regs 6) bytes in
                let small : number < 2 ^ bits_of width = number_small w.mem (object (regs 6) (regs 0 ∷ []) w fit).small (regs 6) bytes in
                let wide = widens width q (b.regs 0) number b f small in
                happens_as (0 ∷ []) regs _ _ _ (updates p (regs 6) (regs 0) seen w fit (none refl))
                (record {
                  world = ap (λ m. shared_wrote (entry_of (regs 6) bytes m) w) (r.known.leaves number small ∙ ap (λ m. result_of (bits_of width) o number (m % 2 ^ bits_of width)) (same 0 refl));
                  output = refl;
                  excused = refl;
                  puts = record { last = wide.last; goes = wide.goes; known = gives_result number regs b.regs wide.last others wide.known };
                }));
          };
        }
