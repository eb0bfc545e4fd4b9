-- Plain loads and stores of allocas, which lie in the frame.
use Rattle.std.proofs.Common.{◌≡◌, ℕ, zero, suc, ◌+◌, ◌*◌, ◌/◌, ◌%◌, ◌^◌, ◌<◌, ◌≤◌, ◌⊎◌, Bool, true, false, List, [], ◌∷◌, Option, Some, None, length, refl, sym, ap, ◌∙◌, subst, arith, slice_get}
use Rattle.std.proofs.Common.{inl, inr}
use Rattle.std.specs.Prelude.{if◌then◌else◌, nat_eq, nat_lt}
use Rattle.std.proofs.lemmas.Bool.{eqb-true}
use Rattle.std.proofs.lemmas.Bool.Decides.{nat_tests}
use Rattle.std.proofs.Math.Nat.{mul-le-mul_right}
use Rattle.ax_check.specs.Accepted.{IsAccepted}
use Rattle.ax_check.specs.Laws.{AtInstructions, IsSound}
use Rattle.ax_module.specs.declared.inst.Inst.{Inst}
use Rattle.ax_module.specs.declared.inst.Inst.TheVariants as inst
use Rattle.ax_module.specs.declared.module.Module.{Module}
use Rattle.ax_module.specs.declared.operand.Addr.{Addr}
use Rattle.ax_module.specs.declared.operand.Operand.{Operand}
use Rattle.ax_module.specs.declared.types.Ty.{Ty}
use Rattle.ax_module.specs.Types.{type_bytes}
use Rattle.ax_tags.specs.declared.tags.Tag.TheVariants as tag
use Rattle.ax_source_run.specs.SourceAccess.{Access, Found, Silent, ObjectOperation, Reads, Writes, Reply, accessed, answered, element_set, gets, goes_on, object_done, private_done, put_at}
use Rattle.ax_source_run.specs.SourceEvent.{expected_by, number_of_next, seen_by}
use Rattle.ax_source_run.specs.SourceInstructions.{access_of, changed, deed, deed_of, result_in, traps}
use Rattle.ax_source_run.specs.SourcePointers.{elements_of, elements_of_alloca, insts_of, pointer_of}
use Rattle.ax_source_run.specs.SourceState.{Number, Object, Pointer, Private, SourceProcessor, SourceProgram}
use Rattle.ax_source_run.specs.SourceValues.{operand_of, type_bits}
use Rattle.ax_mid.specs.declared.code.Mid.{Mid}
use Rattle.ax_mid.specs.declared.instruction.MidInst.TheVariants as line
use Rattle.ax_mid.specs.declared.registers.Virtual.{Virtual}
use Rattle.ax_mid.specs.Machine as machine
use Rattle.ax_mid.specs.Machine.{Effect, act_by, loaded, missed_by, only, private_step, shared_step, stepped, stored}
use Rattle.ax_mid.specs.Processor as mid
use Rattle.ax_mid.specs.Processor.{MidDeed, MidProcessor}
use Rattle.ax_mid.specs.Spots.{Own, Spot, spot_of}
use Rattle.ax_words.specs.declared.source.SourceStatus.TheVariants.{Trapped}
use Rattle.ax_rules.specs.Facts.{outcome_of}
use Rattle.ax_rules.specs.Parts.{operands_of}
use Rattle.ax_store.specs.Bytes.{number_at, written}
use Rattle.ax_store.proofs.Numbers.{number_same, number_written, written_above, written_below}
use Rattle.ax_typed.proofs.Facts.{operand_at}
use Rattle.ax_typed.proofs.Standing as standing
use Rattle.ax_typed.specs.Typed.{IsOf}
use Rattle.ax_selected.specs.Addresses.{frame_offset, offset_in, rounded_bytes}
use Rattle.ax_selected.specs.Contract.{Alike, Follows, Known, Stands}
use Rattle.ax_selected.specs.Laid.{IsLaid, piece_of}
use Rattle.ax_selected.specs.Matches.{HoldsAllocas, HoldsBytes}
use Rattle.ax_selected.specs.Operands.{low_into}
use Rattle.ax_selected.specs.Pieces.{Straight}
use Rattle.ax_selected.specs.Registers.{key, low_of, virtual}
use Rattle.ax_selected.proofs.Computes.{calm_follows, held, held_temps, low_fetched, outcome_is}
use Rattle.ax_selected.proofs.Elements.{cut_again}
use Rattle.ax_selected.proofs.Entering.{Enters, moved_temp}
use Rattle.ax_selected.proofs.Reaching.{reaches}
use Rattle.ax_selected.proofs.Registers.{fits_64, narrow_result, values_temps}

-- ---- allocas lie apart
covers_all : (n : ℕ) → n ≤ (n + 15) / 16 * 16
covers_all n = omega arith

room : (e : Rattle.ax_source_run.specs.SourcePointers.Elements) → e.count * type_bytes e.elem ≤ rounded_bytes e
room e = covers_all (e.count * type_bytes e.elem)

pub offsets_rise : (insts : List Inst) (r q : ℕ) → r < q → offset_in insts r + rounded_bytes (elements_of_alloca (slice_get insts r)) ≤ offset_in insts q
unfolding elements_of_alloca
offsets_rise [] r q lt = omega arith
offsets_rise (x ∷ insts) r zero lt = absurd (omega (arith, lt))
offsets_rise (x ∷ insts) zero (suc q) lt = omega arith
offsets_rise (x ∷ insts) (suc r) (suc q) lt = let more = offsets_rise insts r q (omega (arith, lt)) in omega (arith, more)

-- bytes elsewhere are as they were
apart : (frame : ℕ → ℕ) (a n v b m : ℕ) → (b + m ≤ a) ⊎ (a + n ≤ b) → number_at (written frame a n v) b m ≡ number_at frame b m
apart frame a n v b m (inl below) = number_same (written frame a n v) frame b m (λ i lt. written_below frame a n v (b + i) (omega (arith, below, lt)))
apart frame a n v b m (inr above) = number_same (written frame a n v) frame b m (λ i lt. written_above frame a n v (b + i) (omega (arith, above)))

module _ (m : Module) (f : ℕ) where
  abbrev count : ℕ → ℕ
  count r = (elements_of m f (Private r)).count

  abbrev bytes : ℕ → ℕ
  bytes r = type_bytes (elements_of m f (Private r)).elem

  abbrev place : ℕ → ℕ → ℕ
  place r i = frame_offset m f r + i * bytes r

  -- an element lies before the end of its alloca
  pub ends : (r i : ℕ) → i < count r → place r i + bytes r ≤ frame_offset m f r + rounded_bytes (elements_of m f (Private r))
  ends r i lt =
      let whole = room (elements_of m f (Private r)) in
      let within = product i (count r) (bytes r) lt in
      omega (arith, whole, within)
    where
      product : (x n b : ℕ) → x < n → x * b + b ≤ n * b
      product x n b h = let e = mul-le-mul_right {m = suc x} {n = n} b h in omega (arith, e)

  elements_apart : (r i q j : ℕ) → i < count r → j < count q → (r ≡ q → i ≡ j → ⊥) → (place r i + bytes r ≤ place q j) ⊎ (place q j + bytes q ≤ place r i)
  elements_apart r i q j li lj differ = by (nat_lt r q) (nat_lt q r) refl refl
    where
      below : (x y : ℕ) → nat_lt x y ≡ true → x < y
      below x y h = grind (arith, nat_tests)

      equal : (x y : ℕ) → nat_lt x y ≡ false → nat_lt y x ≡ false → x ≡ y
      equal x y h g = grind (arith, nat_tests)

      earlier : (x a y b : ℕ) → x < y → a < count x → place x a + bytes x ≤ place y b
      earlier x a y b lt la = let rise = offsets_rise (insts_of m f) x y lt in let end = ends x a la in omega (arith, rise, end)

      rows : (x a b : ℕ) → a < b → place x a + bytes x ≤ place x b
      rows x a b lt = let e = mul-le-mul_right {m = suc a} {n = b} (bytes x) lt in omega (arith, e)

      same : (x y : Bool) → nat_lt i j ≡ x → nat_lt j i ≡ y → r ≡ q → (place r i + bytes r ≤ place q j) ⊎ (place q j + bytes q ≤ place r i)
      same true y d g e = inl (subst (λ (z : ℕ). place r i + bytes r ≤ place z j) e (rows r i j (below i j d)))
      same false true d g e = inr (subst (λ (z : ℕ). place z j + bytes z ≤ place r i) e (rows r j i (below j i g)))
      same false false d g e = absurd (differ e (equal i j d g))

      by : (x y : Bool) → nat_lt r q ≡ x → nat_lt q r ≡ y → (place r i + bytes r ≤ place q j) ⊎ (place q j + bytes q ≤ place r i)
      by true y d g = inl (earlier r i q j (below r q d) li)
      by false true d g = inr (earlier q j r i (below q r g) lj)
      by false false d g = same (nat_lt i j) (nat_lt j i) refl refl (equal r q d g)

  pub unequal : (x y : ℕ) → nat_eq x y ≡ false → x ≡ y → ⊥
  unequal x y d s = grind (arith, nat_tests)

  -- bytes that are as they were hold the same number
  kept : (t : Bool) (frame new : ℕ → ℕ) (a size v : ℕ) → nat_eq size 16 ≡ t → ((x : ℕ) → a ≤ x → x < a + size → new x ≡ frame x) → HoldsBytes t frame a size v → HoldsBytes t new a size v
  kept false frame new a size v e same h = number_same new frame a size (λ i lt. same (a + i) (omega arith) (omega (arith, lt))) ∙ h
  kept true frame new a size v e same h =
      let is = eqb-true size 16 e in
      (number_same new frame a 8 (λ i lt. same (a + i) (omega arith) (omega (arith, lt, is))) ∙ h.0, number_same new frame (a + 8) 8 (λ i lt. same (a + 8 + i) (omega arith) (omega (arith, lt, is))) ∙ h.1)

  -- the frame after an element of an alloca has another number, and all other bytes are as they were
  pub allocas_put : (allocas : ℕ → ℕ → ℕ) (frame new : ℕ → ℕ) (q j n : ℕ) → HoldsAllocas m f allocas frame → j < count q → ((x : ℕ) → (x < place q j) ⊎ (place q j + bytes q ≤ x) → new x ≡ frame x) → HoldsBytes (nat_eq (bytes q) 16) new (place q j) (bytes q) n → HoldsAllocas m f (element_set q j n allocas) new
  allocas_put allocas frame new q j n h lj same holds r i li = by (nat_eq r q) (nat_eq i j) refl refl
    where
      side : (x : ℕ) → place r i ≤ x → x < place r i + bytes r → (place r i + bytes r ≤ place q j) ⊎ (place q j + bytes q ≤ place r i) → (x < place q j) ⊎ (place q j + bytes q ≤ x)
      side x from to (inl le) = inl (omega (arith, to, le))
      side x from to (inr le) = inr (omega (arith, from, le))

      other : (r ≡ q → i ≡ j → ⊥) → HoldsBytes (nat_eq (bytes r) 16) new (place r i) (bytes r) (allocas r i)
      other differ = kept (nat_eq (bytes r) 16) frame new (place r i) (bytes r) (allocas r i) refl (λ x from to. same x (side x from to (elements_apart r i q j li lj differ))) (h r i li)

      by : (x y : Bool) → nat_eq r q ≡ x → nat_eq i j ≡ y → HoldsBytes (nat_eq (bytes r) 16) new (place r i) (bytes r) ((if x then (λ (a : ℕ). if nat_eq a j then n else allocas q a) else allocas r) i)
      by true true e g =
          subst (λ (z : ℕ). HoldsBytes (nat_eq (bytes z) 16) new (place z i) (bytes z) (if nat_eq i j then n else allocas q i)) (sym (eqb-true r q e))
          (subst (λ (z : ℕ). HoldsBytes (nat_eq (bytes q) 16) new (place q z) (bytes q) (if nat_eq i j then n else allocas q i)) (sym (eqb-true i j g))
          (subst (λ (b : Bool). HoldsBytes (nat_eq (bytes q) 16) new (place q j) (bytes q) (if b then n else allocas q i)) (sym g) holds))
      by true false e g =
          subst (λ (v : ℕ). HoldsBytes (nat_eq (bytes r) 16) new (place r i) (bytes r) v) (ap (λ (z : ℕ). allocas z i) (eqb-true r q e) ∙ sym (ap (λ (b : Bool). if b then n else allocas q i) g))
          (other (λ there here. unequal i j g here))
      by false y e g = other (λ there here. unequal r q e there)

  -- a store to an element of at most 8 bytes of an alloca
  pub allocas_set : (allocas : ℕ → ℕ → ℕ) (frame : ℕ → ℕ) (q j n v : ℕ) → nat_eq (bytes q) 16 ≡ false → HoldsAllocas m f allocas frame → j < count q → v % 2 ^ (8 * bytes q) ≡ n → HoldsAllocas m f (element_set q j n allocas) (written frame (place q j) (bytes q) v)
  allocas_set allocas frame q j n v small h lj cut =
      allocas_put allocas frame (written frame (place q j) (bytes q) v) q j n h lj (λ x. outside x)
      (subst (λ (b : Bool). HoldsBytes b (written frame (place q j) (bytes q) v) (place q j) (bytes q) n) (sym small) (number_written frame (place q j) (bytes q) v ∙ cut))
    where
      outside : (x : ℕ) → (x < place q j) ⊎ (place q j + bytes q ≤ x) → written frame (place q j) (bytes q) v x ≡ frame x
      outside x (inl below) = written_below frame (place q j) (bytes q) v x below
      outside x (inr above) = written_above frame (place q j) (bytes q) v x above

-- a type of at most 64 bits has no 16 bytes
small_bytes : (t : Ty) → type_bits t ≡ 8 * type_bytes t → type_bits t ≤ 64 → nat_eq (type_bytes t) 16 ≡ false
small_bytes t bits few = by (nat_eq (type_bytes t) 16) refl
  where
    by : (b : Bool) → nat_eq (type_bytes t) 16 ≡ b → nat_eq (type_bytes t) 16 ≡ false
    by true e = let n = eqb-true (type_bytes t) 16 e in absurd (omega (arith, n, bits, few))
    by false e = e

module _ (program : SourceProgram) (accepted : IsAccepted program) (law : AtInstructions IsSound) (code : Mid Virtual) (begins : ℕ → ℕ → ℕ → ℕ) (laid : IsLaid program code.lines begins) (most base : ℕ) (enough : 512 ≤ most) (s : SourceProcessor) (c : MidProcessor) (numbers : ℕ → ℕ → ℕ) (alike : Alike s c) (here : Stands program.source begins s c) where
  abbrev k : ℕ
  k = number_of_next program s

  -- a pointer to an element of an alloca, of a type of at most 64 bits; its bytes are the frame's
  pub record OnOwn (p : Pointer) (ty : Ty) (address : ℕ) : Type 0 where
    pub alloca : ℕ
    pub object : p.object ≡ Private alloca
    pub inside : p.index < (elements_of program.source s.function (Private alloca)).count
    pub elem : (elements_of program.source s.function (Private alloca)).elem ≡ ty
    pub bits : type_bits ty ≡ 8 * type_bytes ty
    pub few : type_bits ty ≤ 64
    pub spot : spot_of code.globals base address (type_bytes ty) ≡ Own (frame_offset program.source s.function alloca + p.index * type_bytes (elements_of program.source s.function (Private alloca)).elem)

  module _ (i : Inst) (known : Known program s numbers i) (goes : traps program s i ≡ false) (p : Pointer) (ty : Ty) (address : ℕ) (on : OnOwn p ty address) (operation : ObjectOperation) (may : Bool) where
    abbrev access : Reply → Access
    access reply = record { pointer = p; operation = operation; may_wait = may; reply = reply }

    private_does : (reply : Reply) → deed_of program s k numbers i ≡ accessed program (access reply) k s numbers
        → deed program s k numbers i ≡ answered (access reply) k (private_done (type_bits (elements_of program.source s.function (Private on.alloca)).elem) on.alloca p.index operation s numbers)
    private_does reply is =
        ap (λ (b : Bool). if b then changed program s (record s { status = Trapped }) numbers else deed_of program s k numbers i) goes ∙ (is
        ∙ ap (λ (o : Object). answered (access reply) k (object_done program o p.index operation may s numbers)) on.object)

  abbrev quiet : Effect
  quiet = record { found = 0; pending = s.pending; numbers = numbers }

  pub store_own : (ty : Ty) (v : Operand) (a : Addr) (align : Option ℕ) → (known : Known program s numbers (inst.Store ty v a align)) → traps program s (inst.Store ty v a align) ≡ false → (address : ℕ) → OnOwn (pointer_of program.source a s) ty address
      → (size : ℕ) → Enters program code begins laid most base enough s.function k c (record { silent = low_into 3 ty v ∷ []; last = line.Store (virtual 0) (virtual 3) (type_bytes ty) }) address size → length (piece_of program s (inst.Store ty v a align)) ≡ size
      → Follows key program code begins most base s c numbers (inst.Store ty v a align)
  unfolding operands_of deed_of access_of result_in seen_by expected_by private_step shared_step machine.seen_by missed_by
  store_own ty v a align known goes address on size enters long =
      let i = inst.Store ty v a align in
      let p = pointer_of program.source a s in
      let n = operand_of ty v s.values in
      let typed = operand_at program accepted law s known.typed i (standing.stands program accepted law s i known.next) 0 ty v refl in
      let hv = held_temps v s.values c.regs enters.at.regs enters.moved.temps (held program accepted law code begins laid most base s c numbers i known alike here 0 ty v refl) in
      let x = mid.gets 3 (n % 2 ^ 64) enters.at in
      let moved = moved_temp c enters.at 3 (n % 2 ^ 64) (omega arith) enters.moved in
      let elem = (elements_of program.source s.function (Private on.alloca)).elem in
      let offset = frame_offset program.source s.function on.alloca + p.index * type_bytes elem in
      let frame = written x.frame offset (type_bytes elem) (n % 2 ^ 64) in
      let e : Effect = record { found = 0; pending = s.pending; numbers = numbers } in
      let rest : Straight = record { silent = low_into 3 ty v ∷ []; last = line.Store (virtual 0) (virtual 3) (type_bytes ty) } in
      let step : private_step key program.target code base rest.last x ≡ Some (record x { place = x.place + 1; frame = frame }) =
      ap (λ (sp : Spot). stored key program.target code base sp (n % 2 ^ 64) (type_bytes ty) x) (ap (λ (r : ℕ). spot_of code.globals base r (type_bytes ty)) enters.is_address ∙ on.spot)
      ∙ ap (λ (t : Ty). Some (record x { place = x.place + 1; frame = written x.frame offset (type_bytes t) (n % 2 ^ 64) })) (sym on.elem) in
      let act : act_by key program.target code base tag.Act rest.last x numbers ≡ Some (record { processor = record { place = x.place + 1; regs = x.regs; frame = frame; status = x.status; seen = None; pending = s.pending }; numbers = numbers; output = None }) =
      ap (λ (o : Option MidProcessor). stepped key program.target code base o (shared_step key program.target code base rest.last x numbers) numbers) step
      ∙ ap (λ pending. Some (record { processor = record { place = x.place + 1; regs = x.regs; frame = frame; status = x.status; seen = None; pending = pending }; numbers = numbers; output = None })) (moved.pending ∙ alike.pending) in
      let cut : n % 2 ^ 64 % 2 ^ (8 * type_bytes elem) ≡ n =
      ap (λ (t : Ty). n % 2 ^ 64 % 2 ^ (8 * type_bytes t)) on.elem ∙ (ap (λ (b : ℕ). n % 2 ^ 64 % 2 ^ b) (sym on.bits) ∙ cut_again program accepted law code begins laid most base enough s c numbers alike here n (type_bits ty) typed on.few) in
      let small : nat_eq (type_bytes elem) 16 ≡ false = ap (λ (t : Ty). nat_eq (type_bytes t) 16) on.elem ∙ small_bytes ty on.bits on.few in
      let t : SourceProcessor = goes_on (record s { allocas = element_set on.alloca p.index n s.allocas }) in
      let r = reaches program accepted law code begins laid most base enough s c numbers alike here i known rest address size enters long x
      (x, low_fetched program code base 3 ty v s.values enters.at hv, refl, refl) (omega arith) moved.status e x.regs frame act t
      (record { does = private_does i known goes p ty address on (Writes n) true Silent refl; status = refl; seen = refl; pending = refl; function = refl; block = refl; index = refl })
      (record {
        values = values_temps program.source s.function s.values c.regs x.regs moved.temps here.matches.values;
        allocas = allocas_set program.source s.function s.allocas x.frame on.alloca p.index n (n % 2 ^ 64) small (subst (λ (fr : ℕ → ℕ). HoldsAllocas program.source s.function s.allocas fr) (sym moved.frame) here.matches.allocas) on.inside cut;
      }) in
      calm_follows program accepted law code begins laid most base s c numbers i known alike here rest.last x (record { seen = refl; expected = refl }) (record { seen = λ y ns. refl; missed = λ y. refl }) r.ready r.line r.acts

  pub load_own : (ty : Ty) (a : Addr) (align : Option ℕ) → (known : Known program s numbers (inst.Load ty a align)) → traps program s (inst.Load ty a align) ≡ false → (address : ℕ) → OnOwn (pointer_of program.source a s) ty address
      → (size : ℕ) → Enters program code begins laid most base enough s.function k c (record { silent = []; last = line.Load (virtual (low_of k)) (virtual 0) (type_bytes ty) }) address size → length (piece_of program s (inst.Load ty a align)) ≡ size
      → Follows key program code begins most base s c numbers (inst.Load ty a align)
  unfolding outcome_of operands_of deed_of access_of result_in seen_by expected_by private_step shared_step machine.seen_by missed_by
  load_own ty a align known goes address on size enters long =
      let i = inst.Load ty a align in
      let p = pointer_of program.source a s in
      let x = enters.at in
      let elem = (elements_of program.source s.function (Private on.alloca)).elem in
      let offset = frame_offset program.source s.function on.alloca + p.index * type_bytes elem in
      let n = s.allocas on.alloca p.index in
      let e : Effect = record { found = 0; pending = s.pending; numbers = numbers } in
      let rest : Straight = record { silent = []; last = line.Load (virtual (low_of k)) (virtual 0) (type_bytes ty) } in
      let value : number_at x.frame offset (type_bytes ty) ≡ n =
      ap (λ (t : Ty). number_at x.frame offset (type_bytes t)) (sym on.elem) ∙ (ap (λ (fr : ℕ → ℕ). number_at fr offset (type_bytes elem)) enters.moved.frame ∙ subst (λ (b : Bool). HoldsBytes b c.frame offset (type_bytes elem) n) (ap (λ (t : Ty). nat_eq (type_bytes t) 16) on.elem ∙ small_bytes ty on.bits on.few) (here.matches.allocas on.alloca p.index on.inside)) in
      let step : private_step key program.target code base rest.last x ≡ Some (mid.gets (low_of k) n x) =
      ap (λ (sp : Spot). loaded key program.target code base sp (low_of k) (type_bytes ty) x) (ap (λ (r : ℕ). spot_of code.globals base r (type_bytes ty)) enters.is_address ∙ on.spot)
      ∙ ap (λ (r : ℕ). Some (mid.gets (low_of k) r x)) value in
      let act : act_by key program.target code base tag.Act rest.last x numbers ≡ Some (record { processor = record { place = x.place + 1; regs = put_at x.regs (low_of k) n; frame = x.frame; status = x.status; seen = None; pending = s.pending }; numbers = numbers; output = None }) =
      ap (λ (o : Option MidProcessor). stepped key program.target code base o (shared_step key program.target code base rest.last x numbers) numbers) step
      ∙ ap (λ pending. Some (record { processor = record { place = x.place + 1; regs = put_at x.regs (low_of k) n; frame = x.frame; status = x.status; seen = None; pending = pending }; numbers = numbers; output = None })) (enters.moved.pending ∙ alike.pending) in
      let small : n < 2 ^ 64 = fits_64 n (type_bits ty) on.few (subst (λ (t : Ty). IsOf t n) on.elem (known.typed.allocas on.alloca p.index)) in
      let d : MidProcessor = record { place = x.place + 1; regs = put_at x.regs (low_of k) n; frame = x.frame; status = x.status; seen = None; pending = s.pending } in
      let held = narrow_result program.source s c k here.matches d enters.moved.frame ty n x.regs (outcome_is program accepted law code begins laid most base s c numbers i known alike here) known.typed on.few small enters.moved.temps refl in
      let r = reaches program accepted law code begins laid most base enough s c numbers alike here i known rest address size enters long x refl (omega arith) enters.moved.status e (put_at x.regs (low_of k) n) x.frame act (gets k (Number n) s)
      (record { does = private_does i known goes p ty address on Reads false Found refl; status = refl; seen = refl; pending = refl; function = refl; block = refl; index = refl })
      (record { values = held.values; allocas = held.allocas }) in
      calm_follows program accepted law code begins laid most base s c numbers i known alike here rest.last x (record { seen = refl; expected = refl }) (record { seen = λ y ns. refl; missed = λ y. refl }) r.ready r.line r.acts
