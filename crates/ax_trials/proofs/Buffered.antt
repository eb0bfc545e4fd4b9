-- The instructions of x86-64 make the accesses that the operations are.
use Rattle.std.proofs.Common.{◌≡◌, ℕ, ◌+◌, ◌%◌, ◌^◌, Bool, true, false, [], ◌∷◌, Some, None, refl, sym, ap, ◌∙◌, subst, arith}
use Rattle.std.specs.Prelude.{if◌then◌else◌, pos}
use Rattle.ax_words.specs.declared.operation.RmwOp.TheVariants as rmw
use Rattle.ax_store.specs.Bytes.{number_at}
use Rattle.ax_isa.specs.declared.effects.Change.TheVariants.{Update}
use Rattle.ax_isa.specs.declared.effects.Effect.{Effect}
use Rattle.ax_isa.specs.declared.effects.Effect.TheVariants as effect
use Rattle.ax_isa.specs.declared.effects.Rest.TheVariants.{Zeros}
use Rattle.ax_isa.specs.Processor.{Processor}
use Rattle.ax_isa.specs.Steps.{is_flushing}
use Rattle.ax_isa.specs.Tells.{An_act}
use Rattle.ax_x86.specs.declared.instructions.Size.TheVariants.{Quad}
use Rattle.ax_x86.specs.declared.instructions.X86Instr.TheVariants as x86
use Rattle.ax_isa.specs.Numbers.{displaced}
use Rattle.ax_x86.specs.Instructions.{effect_of, x86_kind}
use Rattle.ax_expand.specs.Accesses.{HasObject, IsAccess, OneAccess}
use Rattle.ax_expand.specs.Doing.{deed_of}
use Rattle.ax_expand.specs.OneInstruction.{Happens}
use Rattle.ax_expand.specs.Operation.{Inner, Keeps, Operation}
use Rattle.ax_expand.specs.Shared.{Object, Shared}
use Rattle.ax_expand.proofs.Telling.{kept_set}
use Rattle.ax_loops.specs.Storing.{fencing, storing_on}
use Rattle.ax_loops.specs.Updating.{is_none, updated, updating_on}
use Rattle.ax_trials.specs.Buffered.{at_register}

store_effect : (address value : ℕ) (c : Processor) → effect_of (x86.Store Quad value (at_register address)) c ≡ effect.Store (displaced (c.regs address) (pos 0)) 8 (c.regs value)
unfolding effect_of
store_effect address value c = refl

addition_effect : (address operand : ℕ) (c : Processor) → effect_of (x86.LockXadd Quad operand (at_register address)) c ≡ effect.Locked operand 0 (displaced (c.regs address) (pos 0)) 8 Zeros (Update rmw.Add (c.regs operand))
unfolding effect_of
addition_effect address operand c = refl

fence_effect : (c : Processor) → effect_of x86.Mfence c ≡ effect.Fence
unfolding effect_of
fence_effect c = refl

-- an address below the frames is one without a displacement
pub at_object : (a b : ℕ) (w : Shared) → a ≡ b → Object b 8 w → displaced a (pos 0) ≡ b
at_object a b w e o = (let low = o.below in let f : (a + 0) % 2 ^ 64 ≡ b = omega (arith, e, low) in f)

-- an effect that does what an operation says
abbrev Accesses : (ℕ → Bool) → Operation Shared → ℕ → Processor → Inner → Shared → Effect → Type 0
Accesses keeps o p c t w e = Happens (o.happens An_act p t.regs t.seen w) (λ d. IsAccess true keeps p e c w d)

module _ (keeps : ℕ → Bool) where
  -- a plain store
  module _ (address value : ℕ) (ka : keeps address ≡ true) (kv : keeps value ≡ true) where
    stores : (c : Processor) (t : Inner) (w : Shared) → Keeps keeps c.regs t.regs → Object (t.regs address) 8 w → effect_of (x86.Store Quad value (at_register address)) c ≡ effect.Store (t.regs address) 8 (t.regs value)
    stores c t w same o = store_effect address value c ∙ ap (λ a. effect.Store a 8 (c.regs value)) (at_object (c.regs address) (t.regs address) w (same address ka) o) ∙ ap (λ n. effect.Store (t.regs address) 8 n) (same value kv)

    pub is_store : OneAccess x86_kind keeps (x86.Store Quad value (at_register address)) (storing_on true 8 address value)
    is_store =
        record {
          object = λ c t w same fit. subst (λ e. HasObject e w) (sym (stores c t w same fit)) fit;
          accesses = λ p c t w same fit plain flushed.
              subst (λ e. Accesses keeps (storing_on true 8 address value) p c t w e) (sym (stores c t w same fit)) (record { regs = same; world = refl; output = refl; excused = refl });
        }

  -- a locked addition
  module _ (address operand : ℕ) (ka : keeps address ≡ true) (ko : keeps operand ≡ true) where
    abbrev addition : Operation Shared
    addition = updating_on rmw.Add 8 (record { address = address; operand = operand; result = operand })

    abbrev adding : Inner → Effect
    adding t = effect.Locked operand 0 (t.regs address) 8 Zeros (Update rmw.Add (t.regs operand))

    adds : (c : Processor) (t : Inner) (w : Shared) → Keeps keeps c.regs t.regs → Object (t.regs address) 8 w → effect_of (x86.LockXadd Quad operand (at_register address)) c ≡ adding t
    adds c t w same o =
        addition_effect address operand c
        ∙ ap (λ a. effect.Locked operand 0 a 8 Zeros (Update rmw.Add (c.regs operand))) (at_object (c.regs address) (t.regs address) w (same address ka) o)
        ∙ ap (λ n. effect.Locked operand 0 (t.regs address) 8 Zeros (Update rmw.Add n)) (same operand ko)

    added : (p : ℕ) (c : Processor) (t : Inner) (w : Shared) → Keeps keeps c.regs t.regs → is_none (w.pending p) ≡ true → Accesses keeps addition p c t w (adding t)
    added p c t w same none =
        subst (λ (b : Bool). Happens (deed_of (operand ∷ []) t.regs (if b then Some (updated rmw.Add 8 (t.regs address) (t.regs operand) w) else None)) (λ d. IsAccess true keeps p (adding t) c w d)) (sym none)
        (record { regs = kept_set {kept = keeps} c.regs t.regs operand (number_at w.mem (t.regs address) 8) (number_at w.mem (t.regs address) 8) same refl; world = refl; output = refl; excused = refl })

    pub is_addition : OneAccess x86_kind keeps (x86.LockXadd Quad operand (at_register address)) addition
    is_addition =
        record {
          object = λ c t w same fit. subst (λ e. HasObject e w) (sym (adds c t w same fit.0)) fit.0;
          accesses = λ p c t w same fit plain flushed. subst (λ e. Accesses keeps addition p c t w e) (sym (adds c t w same fit.0)) (added p c t w same (ap is_none (flushed (ap is_flushing (adds c t w same fit.0)))));
        }

  -- a full fence
  fenced : (p : ℕ) (c : Processor) (t : Inner) (w : Shared) → Keeps keeps c.regs t.regs → is_none (w.pending p) ≡ true → Accesses keeps fencing p c t w effect.Fence
  fenced p c t w same none =
      subst (λ (b : Bool). Happens (if b then Some (record { regs = t.regs; seen = None; world = w; output = None; excused = false }) else None) (λ d. IsAccess true keeps p effect.Fence c w d)) (sym none) (record { regs = same; world = refl; output = refl; excused = refl })

  pub is_fence : OneAccess x86_kind keeps x86.Mfence fencing
  is_fence =
      record {
        object = λ c t w same fit. subst (λ e. HasObject e w) (sym (fence_effect c)) fit;
        accesses = λ p c t w same fit plain flushed. subst (λ e. Accesses keeps fencing p c t w e) (sym (fence_effect c)) (fenced p c t w same (ap is_none (flushed (ap is_flushing (fence_effect c)))));
      }
