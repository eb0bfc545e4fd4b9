-- The instructions of RV64 make the accesses that the operations are.
use Rattle.std.proofs.Common.{◌≡◌, ℕ, ◌+◌, ◌*◌, ◌%◌, ◌^◌, ◌≤◌, Bool, true, false, List, [], ◌∷◌, Option, Some, refl, sym, ap, ◌∙◌, subst, arith}
use Rattle.std.specs.Prelude.{◌/◌, if◌then◌else◌, nat_eq, pos}
use Rattle.ax_words.specs.declared.operation.RmwOp.{RmwOp}
use Rattle.ax_words.specs.declared.order.Order.{Order}
use Rattle.ax_words.specs.declared.width.Width.{Width}
use Rattle.ax_words.specs.Width.{bits_of, bytes_of}
use Rattle.ax_ops.specs.Operation.{result_of}
use Rattle.ax_store.specs.Bytes.{number_at}
use Rattle.ax_store.specs.Storage.{at_place, entry_of}
use Rattle.ax_isa.specs.declared.effects.Change.TheVariants.{Update}
use Rattle.ax_isa.specs.declared.effects.Effect.{Effect}
use Rattle.ax_isa.specs.declared.effects.Effect.TheVariants as effect
use Rattle.ax_isa.specs.Numbers.{displaced}
use Rattle.ax_isa.specs.Processor.{Processor}
use Rattle.ax_isa.specs.Steps.{extended}
use Rattle.ax_isa.specs.Tells.{An_act}
use Rattle.ax_rv.specs.declared.instructions.FenceSets.{FenceSets}
use Rattle.ax_rv.specs.declared.instructions.RvInstr.{RvInstr}
use Rattle.ax_rv.specs.Instructions.{effect_of, load_rest, operation_of, read, rv_kind, size_rest}
use Rattle.ax_rv.specs.Skeleton.{load_bytes, size_bytes, store_bytes}
use Rattle.ax_rv.specs.declared.instructions.RvInstr.TheVariants.{Amo, Load, Store}
use Rattle.ax_fine.specs.OnBytes.{IsObject, found_at, results_with}
use Rattle.ax_expand.specs.Accesses.{HasObject, IsAccess, OneAccess, shared_load}
use Rattle.ax_expand.specs.Doing.{Doing, deed_of}
use Rattle.ax_expand.specs.OneInstruction.{Happens}
use Rattle.ax_expand.specs.Operation.{Inner, Keeps}
use Rattle.ax_expand.specs.Shared.{Object, Shared, shared_wrote}
use Rattle.ax_expand.proofs.Telling.{kept_set}
use Rattle.ax_emit_rv.specs.Code.{load_form, store_form}
use Rattle.ax_llsc.specs.Rounds.{Rounding, all, raws, unfinished}
use Rattle.ax_llsc.specs.Loops.{size_of}
use Rattle.ax_llsc.specs.Codes.{IsPrepared, Registers, amo_of, ending_of, fencing, loading, operand_of, raw_of, storing, updating}
use Rattle.ax_mask.proofs.Found.{object_of}

-- an address below the frames is one without a displacement
at_object : (a b n : ℕ) (w : Shared) → a ≡ b → IsObject b n w → displaced a (pos 0) ≡ b
at_object a b n w e o = (let low = o.shared in let f : (a + 0) % 2 ^ 64 ≡ b = omega (arith, e, low) in f)

-- a register that is not the zero register
abbrev pub IsRead : ℕ → Type 0
IsRead r = (c : Processor) → read r c ≡ c.regs r

-- a deed of an operation whose act is known
abbrev Acts : Rounding RvInstr → (p : ℕ) → Processor → Inner → Shared → Effect → Type 0
Acts z p c t w e = Happens ((unfinished z).happens An_act p t.regs t.seen w) (λ d. IsAccess false all p e c w d)

module _ (doing : Doing Shared) (width : Width) (some : 1 ≤ bytes_of width) (object : (a : ℕ) (args : List ℕ) (w : Shared) → doing.fits a args w → IsObject a (bytes_of width) w) where
  -- ---- loads
  module _ (g : Registers) (address_read : IsRead g.address) (before behind : List FenceSets) (bytes_is : load_bytes (load_form (bytes_of width)) ≡ bytes_of width) (raw_is : (old n : ℕ) → extended (load_bytes (load_form (bytes_of width))) (load_rest (load_form (bytes_of width))) old n ≡ raw_of width n)
      (loads : (p a : ℕ) (seen : Option ℕ) (w : Shared) → doing.fits a [] w → doing.happens An_act p a [] seen w ≡ Some (results_with (found_at p a (bytes_of width) w ∷ []) w)) where
    abbrev the_load : RvInstr
    the_load = Load (load_form (bytes_of width)) g.result (pos 0) g.address

    abbrev load_at : ℕ → Effect
    load_at a = effect.Load g.result a (load_bytes (load_form (bytes_of width))) (load_rest (load_form (bytes_of width))) false

    load_is : (c : Processor) (t : Inner) (w : Shared) → Keeps all c.regs t.regs → doing.fits (t.regs g.address) [] w → effect_of the_load c ≡ load_at (t.regs g.address)
    load_is c t w same fit = ap (λ a. load_at (displaced a (pos 0))) (address_read c) ∙ ap load_at (at_object (c.regs g.address) (t.regs g.address) (bytes_of width) w (same g.address refl) (object (t.regs g.address) [] w fit))

    loaded : (p : ℕ) (c : Processor) (t : Inner) (w : Shared) → Keeps all c.regs t.regs → doing.fits (t.regs g.address) [] w → Acts (loading g doing width before behind) p c t w (load_at (t.regs g.address))
    loaded p c t w same fit =
        let a = t.regs g.address in
        let n = load_bytes (load_form (bytes_of width)) in
        let number : extended n (load_rest (load_form (bytes_of width))) (c.regs g.result) (shared_load p a n w) ≡ raw_of width (found_at p a (bytes_of width) w) =
        raw_is (c.regs g.result) (shared_load p a n w) ∙ ap (λ k. raw_of width (found_at p a k w)) bytes_is in
        subst (λ o. Happens (deed_of (g.result ∷ []) t.regs (raws (raw_of width) An_act o)) (λ d. IsAccess false all p (load_at a) c w d)) (sym (loads p a t.seen w fit))
        (record { regs = kept_set {kept = all} c.regs t.regs g.result _ (raw_of width (found_at p a (bytes_of width) w)) same number; world = refl; output = refl; excused = refl })

    pub is_load : OneAccess rv_kind all the_load (unfinished (loading g doing width before behind))
    is_load =
        record {
          object = λ c t w same fit. subst (λ e. HasObject e w) (sym (load_is c t w same fit.0)) (subst (λ n. Object (t.regs g.address) n w) (sym bytes_is) (object_of (t.regs g.address) (bytes_of width) w some (object (t.regs g.address) [] w fit.0)));
          accesses = λ p c t w same fit flat flushed. subst (λ e. Acts (loading g doing width before behind) p c t w e) (sym (load_is c t w same fit.0)) (loaded p c t w same fit.0);
        }

  -- ---- stores
  module _ (g : Registers) (address_read : IsRead g.address) (number_read : IsRead g.number) (before : List FenceSets) (bytes_is : store_bytes (store_form (bytes_of width)) ≡ bytes_of width)
      (stores : (p a v : ℕ) (seen : Option ℕ) (w : Shared) → w.pending p ≡ [] → doing.happens An_act p a (v ∷ []) seen w ≡ Some (results_with [] (shared_wrote (entry_of a (bytes_of width) v) w))) where
    abbrev the_store : RvInstr
    the_store = Store (store_form (bytes_of width)) g.number (pos 0) g.address

    abbrev store_at : ℕ → ℕ → Effect
    store_at a v = effect.Store a (store_bytes (store_form (bytes_of width))) v

    store_is : (c : Processor) (t : Inner) (w : Shared) → Keeps all c.regs t.regs → doing.fits (t.regs g.address) (t.regs g.number ∷ []) w → effect_of the_store c ≡ store_at (t.regs g.address) (t.regs g.number)
    store_is c t w same fit = ap (λ a. store_at (displaced a (pos 0)) (read g.number c)) (address_read c) ∙ ap (store_at (displaced (c.regs g.address) (pos 0))) (number_read c) ∙ ap (λ a. store_at a (c.regs g.number)) (at_object (c.regs g.address) (t.regs g.address) (bytes_of width) w (same g.address refl) (object (t.regs g.address) (t.regs g.number ∷ []) w fit)) ∙ ap (store_at (t.regs g.address)) (same g.number refl)

    stored : (p : ℕ) (c : Processor) (t : Inner) (w : Shared) → Keeps all c.regs t.regs → w.pending p ≡ [] → Acts (storing g doing width before) p c t w (store_at (t.regs g.address) (t.regs g.number))
    stored p c t w same none =
        subst (λ o. Happens (deed_of [] t.regs (raws (λ n. n) An_act o)) (λ d. IsAccess false all p (store_at (t.regs g.address) (t.regs g.number)) c w d)) (sym (stores p (t.regs g.address) (t.regs g.number) t.seen w none))
        (record { regs = same; world = ap (λ n. shared_wrote (entry_of (t.regs g.address) n (t.regs g.number)) w) bytes_is; output = refl; excused = refl })

    pub is_store : OneAccess rv_kind all the_store (unfinished (storing g doing width before))
    is_store =
        record {
          object = λ c t w same fit. subst (λ e. HasObject e w) (sym (store_is c t w same fit.0)) (subst (λ n. Object (t.regs g.address) n w) (sym bytes_is) (object_of (t.regs g.address) (bytes_of width) w some (object (t.regs g.address) (t.regs g.number ∷ []) w fit.0)));
          accesses = λ p c t w same fit flat flushed. subst (λ e. Acts (storing g doing width before) p c t w e) (sym (store_is c t w same fit.0)) (stored p c t w same (flat refl));
        }

  -- ---- read-modify-writes
  module _ (o : RmwOp) (bytes_is : size_bytes (size_of width) ≡ bytes_of width) (one_register : nat_eq (size_bytes (size_of width)) 16 ≡ false) (raw_is : (old n : ℕ) → extended (size_bytes (size_of width)) (size_rest (size_of width)) old n ≡ raw_of width n)
      (leaves : (regs : ℕ → ℕ) (old : ℕ) → IsPrepared o regs → result_of (bits_of width) (operation_of (amo_of o)) old (regs (operand_of o) % 2 ^ bits_of width) ≡ result_of (bits_of width) o old (regs 11 % 2 ^ bits_of width))
      (updates : (p a v : ℕ) (seen : Option ℕ) (w : Shared) → doing.fits a (v ∷ []) w → w.pending p ≡ [] → doing.happens An_act p a (v ∷ []) seen w ≡ Some (results_with (number_at w.mem a (bytes_of width) ∷ []) (shared_wrote (entry_of a (bytes_of width) (result_of (bits_of width) o (number_at w.mem a (bytes_of width)) (v % 2 ^ bits_of width))) w)))
      (reads : (c : Processor) → read (operand_of o) c ≡ c.regs (operand_of o)) (order : Order) where
    abbrev the_amo : RvInstr
    the_amo = Amo (amo_of o) (size_of width) (ending_of order) 15 (operand_of o) 10

    abbrev amo_at : ℕ → ℕ → Effect
    amo_at a v = effect.Locked 15 0 a (size_bytes (size_of width)) (size_rest (size_of width)) (Update (operation_of (amo_of o)) v)

    amo_is : (c : Processor) (t : Inner) → Keeps all c.regs t.regs → effect_of the_amo c ≡ amo_at (t.regs 10) (t.regs (operand_of o))
    amo_is c t same = ap (λ a. amo_at a (read (operand_of o) c)) (same 10 refl) ∙ ap (amo_at (t.regs 10)) (reads c ∙ same (operand_of o) refl)

    updated : (p : ℕ) (c : Processor) (t : Inner) (w : Shared) → Keeps all c.regs t.regs → doing.fits (t.regs 10) (t.regs 11 ∷ []) w → IsPrepared o t.regs → w.pending p ≡ [] → Acts (updating doing o width order) p c t w (amo_at (t.regs 10) (t.regs (operand_of o)))
    updated p c t w same fit prepared none =
        let a = t.regs 10 in
        let n = size_bytes (size_of width) in
        let old = number_at w.mem a (bytes_of width) in
        let v = t.regs (operand_of o) in
        let found : number_at w.mem a n ≡ old = ap (number_at w.mem a) bytes_is in
        let number : extended n (size_rest (size_of width)) (c.regs 15) (number_at w.mem a n) ≡ raw_of width old = raw_is (c.regs 15) (number_at w.mem a n) ∙ ap (raw_of width) found in
        let one : (q : ℕ) → all q ≡ true → at_place c.regs 15 (extended n (size_rest (size_of width)) (c.regs 15) (number_at w.mem a n)) q ≡ at_place t.regs 15 (raw_of width old) q = kept_set {kept = all} c.regs t.regs 15 _ (raw_of width old) same number in
        let left : result_of (8 * n) (operation_of (amo_of o)) (number_at w.mem a n) (v % 2 ^ (8 * n)) ≡ result_of (bits_of width) o old (t.regs 11 % 2 ^ bits_of width) =
        ap (λ k. result_of (8 * k) (operation_of (amo_of o)) (number_at w.mem a k) (v % 2 ^ (8 * k))) bytes_is ∙ leaves t.regs old prepared in
        subst (λ q. Happens (deed_of (15 ∷ []) t.regs (raws (raw_of width) An_act q)) (λ d. IsAccess false all p (amo_at a v) c w d)) (sym (updates p a (t.regs 11) t.seen w fit none))
        (record {
          regs = subst (λ (b : Bool). Keeps all (if b then at_place (at_place c.regs 15 (number_at w.mem a n % 2 ^ 64)) 0 (number_at w.mem a n / 2 ^ 64) else at_place c.regs 15 (extended n (size_rest (size_of width)) (c.regs 15) (number_at w.mem a n))) (at_place t.regs 15 (raw_of width old))) (sym one_register) one;
          world = ap (λ k. shared_wrote (entry_of a k (result_of (8 * n) (operation_of (amo_of o)) (number_at w.mem a n) (v % 2 ^ (8 * n)))) w) bytes_is ∙ ap (λ m. shared_wrote (entry_of a (bytes_of width) m) w) left;
          output = refl;
          excused = refl;
        })

    pub is_amo : OneAccess rv_kind all the_amo (unfinished (updating doing o width order))
    is_amo =
        record {
          object = λ c t w same fit. subst (λ e. HasObject e w) (sym (amo_is c t same)) (subst (λ n. Object (t.regs 10) n w) (sym bytes_is) (object_of (t.regs 10) (bytes_of width) w some (object (t.regs 10) (t.regs 11 ∷ []) w fit.0)));
          accesses = λ p c t w same fit flat flushed. subst (λ e. Acts (updating doing o width order) p c t w e) (sym (amo_is c t same)) (updated p c t w same fit.0 fit.1 (flat refl));
        }

-- ---- fences
module _ (doing : Doing Shared) (i : RvInstr) (nothing : (c : Processor) → effect_of i c ≡ effect.Nop) (fences : (p a : ℕ) (seen : Option ℕ) (w : Shared) → w.pending p ≡ [] → doing.happens An_act p a [] seen w ≡ Some (results_with [] w)) where
  fenced : (p : ℕ) (c : Processor) (t : Inner) (w : Shared) → Keeps all c.regs t.regs → w.pending p ≡ [] → Acts (fencing doing i) p c t w effect.Nop
  fenced p c t w same none = subst (λ o. Happens (deed_of [] t.regs (raws (λ n. n) An_act o)) (λ d. IsAccess false all p effect.Nop c w d)) (sym (fences p (t.regs 10) t.seen w none)) (record { regs = same; world = refl; output = refl; excused = refl })

  pub is_fencing : OneAccess rv_kind all i (unfinished (fencing doing i))
  is_fencing =
      record {
        object = λ c t w same fit. subst (λ e. HasObject e w) (sym (nothing c)) tt;
        accesses = λ p c t w same fit flat flushed. subst (λ e. Acts (fencing doing i) p c t w e) (sym (nothing c)) (fenced p c t w same (flat refl));
      }
