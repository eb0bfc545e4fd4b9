-- A compare-exchange of up to 8 bytes on the bytes that all processors share is one that ax_loops speaks of, where what is linked and stored is the object or a word that holds it.
use Rattle.std.proofs.Common.{◌≡◌, ℕ, ◌%◌, ◌^◌, Bool, true, false, [], ◌∷◌, Option, Some, None, refl, sym, ap, ◌∙◌, subst}
use Rattle.std.specs.Prelude.{◌&&◌, if◌then◌else◌, nat_eq}
use Rattle.std.proofs.lemmas.Bool.{eq-eqb, false≢true, ne_eqb}
use Rattle.ax_words.specs.declared.mark.Op.TheVariants as op
use Rattle.ax_words.specs.declared.order.Order.{Order}
use Rattle.ax_words.specs.declared.width.Width.{Width}
use Rattle.ax_words.specs.declared.width.Width.TheVariants.{W8, W16, W32, W64, W128}
use Rattle.ax_words.specs.Width.{bits_of, bytes_of}
use Rattle.ax_source_run.specs.SourceValues.{number_of_flag}
use Rattle.ax_store.specs.Bytes.{IsWidth, all_inside, number_at}
use Rattle.ax_store.specs.Storage.{at_place, entry_of}
use Rattle.ax_store.proofs.Numbers.{number_small}
use Rattle.ax_target.specs.declared.target.Target.{Target}
use Rattle.ax_target.specs.declared.target.Target.TheVariants.{Rv}
use Rattle.ax_isa.specs.Past.{Noted}
use Rattle.ax_isa.specs.Tells.{An_act, A_miss}
use Rattle.ax_mid.specs.Machine.{is_wide}
use Rattle.ax_expand.specs.Bytes.{bytes_world}
use Rattle.ax_expand.specs.Doing.{Result, deed_of, on_registers}
use Rattle.ax_expand.specs.OneInstruction.{Happens}
use Rattle.ax_expand.specs.Operation.{Deed, Operation}
use Rattle.ax_expand.specs.Shared.{Object, Sees, Shared, shared_only, shared_replaced, shared_wrote}
use Rattle.ax_expand.proofs.Sights.{object_number}
use Rattle.ax_fine.specs.OnBytes.{atomic_doing, looks, misses, results_with}
use Rattle.ax_loops.specs.Exchanging.{Answers, Exchange, IsExchange, Stores}
use Rattle.ax_loops.proofs.Updating.{wrote_sees}
use Rattle.ax_mask.proofs.Found.{sent_same}

-- the word that is linked and stored: the object's number in it, and the word that is left; and what the operation asks
pub record Word : Type 1 where
  pub bytes : ℕ
  pub address : (ℕ → ℕ) → ℕ
  pub part : (ℕ → ℕ) → ℕ → ℕ
  pub leaves : (ℕ → ℕ) → ℕ → ℕ
  pub fits : (ℕ → ℕ) → Shared → Type 0

-- the object at the address in register 10 is a part of it, or all of it
pub record HoldsObject (width : Width) (z : Word) : Type 0 where
  pub size : IsWidth z.bytes
  pub word : (regs : ℕ → ℕ) (w : Shared) → z.fits regs w → Object (z.address regs) z.bytes w
  pub part : (regs : ℕ → ℕ) (w : Shared) → z.fits regs w → z.part regs (number_at w.mem (z.address regs) z.bytes) ≡ number_at w.mem (regs 10) (bytes_of width)
  pub leaves :
      (regs : ℕ → ℕ) (w : Shared) → z.fits regs w
      → shared_wrote (entry_of (z.address regs) z.bytes (z.leaves regs (number_at w.mem (z.address regs) z.bytes))) w ≡ shared_wrote (entry_of (regs 10) (bytes_of width) (regs 12 % 2 ^ bits_of width)) w

abbrev pub exchange_in : Width → Word → Exchange Shared
exchange_in width z =
    record {
      bytes = z.bytes;
      address = z.address;
      expected = λ regs. regs 11 % 2 ^ bits_of width;
      part = z.part;
      leaves = z.leaves;
      gives = λ regs number stored. at_place (at_place regs 15 (number % 2 ^ 64)) 16 (number_of_flag stored);
      finds = λ regs w. number_at w.mem (z.address regs) z.bytes;
    }

-- nothing of p waits above
pub none_pending : (p : ℕ) (n : Noted) (w : Shared) → Sees n.storage w → n.storage.waiting p ≡ [] → w.pending p ≡ []
none_pending p n w sees empty = sym (sees.pending p) ∙ ap shared_only empty

module _ (zabha zacas : Bool) (order : Order) (weak : Bool) where
  abbrev target : Target
  target = Rv zabha zacas

  abbrev pub exchanging : Width → Operation Shared
  exchanging width = on_registers (atomic_doing target op.Cmpxchg width order weak) 10 (11 ∷ 12 ∷ []) (15 ∷ 16 ∷ [])

  abbrev pub exchanging_in : Width → Word → Operation Shared
  exchanging_in width z = record { happens = (exchanging width).happens; fits = z.fits }

  -- what an event with two results leaves
  abbrev deed : (ℕ → ℕ) → Option (Result Shared) → Option (Deed Shared)
  deed regs r = deed_of (15 ∷ 16 ∷ []) regs r

  -- what it leaves where it finds a number, by whether that is the expected one
  abbrev result : Width → (ℕ → ℕ) → Shared → ℕ → Bool → Result Shared
  result width regs w number equal =
      (let stored : Option ℕ = if equal then Some (regs 12 % 2 ^ bits_of width) else None in
      results_with (number % 2 ^ 64 ∷ number_of_flag equal ∷ []) (shared_replaced (regs 10) (bytes_of width) stored w))

  abbrev found : Width → (ℕ → ℕ) → Shared → Result Shared
  found width regs w = (let number = number_at w.mem (regs 10) (bytes_of width) in result width regs w number (nat_eq number (regs 11 % 2 ^ bits_of width)))

  acts_as : (width : Width) → is_wide width ≡ false → (p : ℕ) (regs : ℕ → ℕ) (seen : Option ℕ) (w : Shared) → w.pending p ≡ [] → (exchanging width).happens An_act p regs seen w ≡ deed regs (Some (found width regs w))
  acts_as W8 h p regs seen w e = ap (λ s. deed regs (Some (found W8 regs s))) (sent_same p w e)
  acts_as W16 h p regs seen w e = ap (λ s. deed regs (Some (found W16 regs s))) (sent_same p w e)
  acts_as W32 h p regs seen w e = ap (λ s. deed regs (Some (found W32 regs s))) (sent_same p w e)
  acts_as W64 h p regs seen w e = ap (λ s. deed regs (Some (found W64 regs s))) (sent_same p w e)
  acts_as W128 h p regs seen w e = absurd (false≢true (sym h))

  -- a miss, where the look saw the expected number
  abbrev missed : Width → (ℕ → ℕ) → Shared → Result Shared
  missed width regs w = results_with (regs 11 % 2 ^ bits_of width % 2 ^ 64 ∷ 0 ∷ []) w

  abbrev misses_if : Width → (ℕ → ℕ) → Shared → Bool → Option (Result Shared)
  misses_if width regs w may = if may then misses target op.Cmpxchg width order (regs 11 ∷ regs 12 ∷ []) (Some (regs 11 % 2 ^ bits_of width)) w else None

  abbrev missed_if : Width → (ℕ → ℕ) → Shared → Bool → Option (Result Shared)
  missed_if width regs w equal = if equal then Some (missed width regs w) else None

  abbrev Misses : Width → ℕ → (ℕ → ℕ) → Shared → Type 0
  Misses width p regs w = (exchanging width).happens A_miss p regs (Some (regs 11 % 2 ^ bits_of width)) w ≡ deed regs (Some (missed width regs w))

  misses_as : (width : Width) → is_wide width ≡ false → weak ≡ true → (p : ℕ) (regs : ℕ → ℕ) (w : Shared) → Misses width p regs w
  misses_as W8 h is p regs w = ap (λ b. deed regs (misses_if W8 regs w (b && true))) is ∙ ap (λ b. deed regs (missed_if W8 regs w b)) (eq-eqb (regs 11 % 2 ^ 8) (regs 11 % 2 ^ 8) refl)
  misses_as W16 h is p regs w = ap (λ b. deed regs (misses_if W16 regs w (b && true))) is ∙ ap (λ b. deed regs (missed_if W16 regs w b)) (eq-eqb (regs 11 % 2 ^ 16) (regs 11 % 2 ^ 16) refl)
  misses_as W32 h is p regs w = ap (λ b. deed regs (misses_if W32 regs w (b && true))) is ∙ ap (λ b. deed regs (missed_if W32 regs w b)) (eq-eqb (regs 11 % 2 ^ 32) (regs 11 % 2 ^ 32) refl)
  misses_as W64 h is p regs w = ap (λ b. deed regs (misses_if W64 regs w (b && true))) is ∙ ap (λ b. deed regs (missed_if W64 regs w b)) (eq-eqb (regs 11 % 2 ^ 64) (regs 11 % 2 ^ 64) refl)
  misses_as W128 h is p regs w = absurd (false≢true (sym h))

  module _ (width : Width) (narrow : is_wide width ≡ false) (z : Word) (h : HoldsObject width z) where
    abbrev r : Exchange Shared
    r = exchange_in width z

    abbrev o : Operation Shared
    o = exchanging_in width z

    -- an act, by what it finds and whether that is the expected number
    acts : (p : ℕ) (n : Noted) (regs : ℕ → ℕ) (seen : Option ℕ) (w : Shared) (number : ℕ) (equal : Bool) (Q : Deed Shared → Type 0) → Sees n.storage w → n.storage.waiting p ≡ [] → number_at w.mem (regs 10) (bytes_of width) ≡ number → nat_eq number (r.expected regs) ≡ equal
        → Happens (deed regs (Some (result width regs w number equal))) Q → Happens (o.happens An_act p regs seen w) Q
    acts p n regs seen w number equal Q sees empty f g q =
        let by_number = ap (λ m. deed regs (Some (result width regs w m (nat_eq m (r.expected regs))))) f in
        let by_flag = ap (λ b. deed regs (Some (result width regs w number b))) g in
        subst (λ b. Happens b Q) (sym (acts_as width narrow p regs seen w (none_pending p n w sees empty) ∙ by_number ∙ by_flag)) q

    -- a look, where it is weak
    looks_if : (regs : ℕ → ℕ) (w : Shared) (Q : Deed Shared → Type 0) → weak ≡ true → Happens (deed regs (Some (looks target op.Cmpxchg width order (regs 10) w))) Q → Happens (deed regs (if weak && true then Some (looks target op.Cmpxchg width order (regs 10) w) else None)) Q
    looks_if regs w Q is q = subst (λ b. Happens (deed regs (if b && true then Some (looks target op.Cmpxchg width order (regs 10) w) else None)) Q) (sym is) q

    pub is_exchange : IsExchange bytes_world r weak o
    is_exchange =
        record {
          width = h.size;
          stores = λ p n regs seen w sees empty fit same.
              acts p n regs seen w (r.expected regs) true (λ d. Stores bytes_world r n p regs (r.finds regs w) d) sees empty (sym (h.part regs w fit) ∙ same) (eq-eqb _ _ refl)
              (record { regs = refl; output = refl; excused = refl }, λ lib new by. subst (λ s. Sees new.storage s) (h.leaves regs w fit) (wrote_sees lib p _ n new w sees by));
          differs = λ p n regs seen w sees empty fit apart.
              acts p n regs seen w (r.part regs (r.finds regs w)) false (λ d. Answers bytes_world r n (r.gives regs (r.part regs (r.finds regs w)) false) d) sees empty (sym (h.part regs w fit)) (ne_eqb _ _ apart) (record { regs = refl; output = refl; excused = refl }, sees);
          looks = λ is p n regs seen w sees fit. looks_if regs w (λ d. (d.seen ≡ Some (r.part regs (r.finds regs w))) × Answers bytes_world r n regs d) is (ap Some (sym (h.part regs w fit)), (record { regs = refl; output = refl; excused = refl }, sees));
          misses = λ is p n regs w sees fit. subst (λ b. Happens b (λ d. Answers bytes_world r n (r.gives regs (r.expected regs) false) d)) (sym (misses_as width narrow is p regs w)) (record { regs = refl; output = refl; excused = refl }, sees);
          aligned = λ regs w fit. (h.word regs w fit).aligned;
          below = λ regs w fit. (h.word regs w fit).below;
          inside = λ n regs w sees fit. ap (λ f. all_inside f (z.address regs) z.bytes) sees.inside ∙ (h.word regs w fit).inside;
          found = λ n regs w sees fit. object_number n (z.address regs) z.bytes w sees (h.word regs w fit);
          small = λ regs w fit. number_small w.mem (h.word regs w fit).small (z.address regs) z.bytes;
        }
