-- Atomic loads and stores of an element of a native global, of at most 64 bits.
use Rattle.std.proofs.Common.{◌≡◌, ℕ, ◌+◌, ◌*◌, ◌%◌, ◌^◌, ◌≤◌, Bool, false, List, [], ◌∷◌, Option, Some, None, length, refl, sym, ap, ◌∙◌, subst, arith}
use Rattle.std.specs.Prelude.{if◌then◌else◌, slice_index_or}
use Rattle.ax_check.specs.Accepted.{IsAccepted}
use Rattle.ax_check.specs.Laws.{AtInstructions, IsSound}
use Rattle.ax_module.specs.declared.inst.Inst.TheVariants as inst
use Rattle.ax_module.specs.declared.operand.Addr.{Addr}
use Rattle.ax_module.specs.declared.operand.Operand.{Operand}
use Rattle.ax_module.specs.declared.types.Ty.{Ty}
use Rattle.ax_tags.specs.declared.tags.Tag.TheVariants as tag
use Rattle.ax_source_run.specs.SourceAccess.{Reads, Silent, Writes, goes_on, manner_of_native}
use Rattle.ax_source_run.specs.SourceEvent.{expected_by, number_of_next, seen_by}
use Rattle.ax_source_run.specs.SourceInstructions.{access_of, deed, deed_of, result_in, store_may_wait, traps, width_of}
use Rattle.ax_source_run.specs.SourcePointers.{elements_of, pointer_of}
use Rattle.ax_source_run.specs.SourceState.{PendingStore, Pointer, Shared, SourceProcessor, SourceProgram}
use Rattle.ax_source_run.specs.SourceValues.{operand_of, type_bits}
use Rattle.ax_mid.specs.declared.code.Mid.{Mid}
use Rattle.ax_mid.specs.declared.instruction.MidInst.TheVariants as line
use Rattle.ax_mid.specs.declared.registers.Virtual.{Virtual}
use Rattle.ax_mid.specs.Machine as machine
use Rattle.ax_mid.specs.Machine.{Effect, act_by, argument, atomic_at, effect_of, effected, is_wide, may_wait, missed_by, parts_of, private_step, shared_step}
use Rattle.ax_mid.specs.Processor as mid
use Rattle.ax_mid.specs.Processor.{MidDeed, MidProcessor}
use Rattle.ax_mid.specs.Spots.{Spot, spot_of}
use Rattle.ax_words.specs.declared.mark.Op.TheVariants as op
use Rattle.ax_words.specs.declared.order.Order.{Order}
use Rattle.ax_words.specs.Width.{bits_of, bytes_of}
use Rattle.ax_rules.specs.Facts.{outcome_of}
use Rattle.ax_rules.specs.Parts.{operands_of}
use Rattle.ax_target.specs.Targets.{is_buffered}
use Rattle.ax_typed.proofs.Accesses.{DeedIs}
use Rattle.ax_typed.proofs.Facts.{operand_at}
use Rattle.ax_typed.proofs.Standing as standing
use Rattle.ax_selected.specs.Contract.{Alike, Follows, Known, Stands}
use Rattle.ax_selected.specs.Laid.{IsLaid, piece_of}
use Rattle.ax_selected.specs.Matches.{Matches}
use Rattle.ax_selected.specs.Operands.{low_into}
use Rattle.ax_selected.specs.Pieces.{Straight}
use Rattle.ax_selected.specs.Registers.{key, low_of, virtual}
use Rattle.ax_selected.proofs.Computes.{calm_follows, held, held_temps, low_fetched, outcome_is}
use Rattle.ax_selected.proofs.Elements.{OnNative, cut_again, effect, found_follows, source_does}
use Rattle.ax_selected.proofs.Entering.{Enters, moved_temp}
use Rattle.ax_selected.proofs.Reaching.{reaches}
use Rattle.ax_selected.proofs.Registers.{values_temps}

module _ (program : SourceProgram) (accepted : IsAccepted program) (law : AtInstructions IsSound) (code : Mid Virtual) (begins : ℕ → ℕ → ℕ → ℕ) (laid : IsLaid program code.lines begins) (most base : ℕ) (enough : 512 ≤ most) (s : SourceProcessor) (c : MidProcessor) (numbers : ℕ → ℕ → ℕ) (alike : Alike s c) (here : Stands program.source begins s c) where
  abbrev k : ℕ
  k = number_of_next program s

  abbrev On : Pointer → Ty → ℕ → Type 0
  On = OnNative program accepted law code begins laid most base enough s c numbers alike here

  abbrev Enter : Straight → ℕ → ℕ → Type 0
  Enter = Enters program code begins laid most base enough s.function k c

  pub load_atomic_narrow : (ty : Ty) (a : Addr) (order : Order) (align : ℕ) → (known : Known program s numbers (inst.LoadAtomic ty a order align)) → traps program s (inst.LoadAtomic ty a order align) ≡ false → (address : ℕ) → On (pointer_of program.source a s) ty address
      → (size : ℕ) → Enter (record { silent = []; last = line.Atomic op.Load (width_of ty) order false (virtual 0) [] (virtual (low_of k) ∷ []) }) address size → length (piece_of program s (inst.LoadAtomic ty a order align)) ≡ size → DeedIs program.source (deed program s k numbers (inst.LoadAtomic ty a order align))
      → Follows key program code begins most base s c numbers (inst.LoadAtomic ty a order align)
  unfolding outcome_of deed_of access_of result_in seen_by expected_by private_step shared_step machine.seen_by missed_by
  load_atomic_narrow ty a order align known goes address on size enters long deed_is =
      let i = inst.LoadAtomic ty a order align in
      let p = pointer_of program.source a s in
      let x = enters.at in
      let w = width_of ty in
      let elem_bits = type_bits (elements_of program.source s.function (Shared on.global)).elem in
      let rest : Straight = record { silent = []; last = line.Atomic op.Load w order false (virtual 0) [] (virtual (low_of k) ∷ []) } in
      let H : Bool → ℕ → List PendingStore → Option MidDeed = λ wide bits pending.
      let e = effect_of (manner_of_native Reads false) (is_buffered program.target) bits on.global p.index Reads pending numbers in
      effected key program.target code base (virtual (low_of k) ∷ []) (parts_of wide e.found) e x in
      let bits : bits_of w ≡ elem_bits = on.bits ∙ ap type_bits (sym on.elem) in
      let act : act_by key program.target code base tag.Act rest.last x numbers ≡ effected key program.target code base (virtual (low_of k) ∷ []) ((effect program accepted law code begins laid most base enough s c numbers alike here i known goes p ty address on Reads false).found % 2 ^ 64 ∷ []) (effect program accepted law code begins laid most base enough s c numbers alike here i known goes p ty address on Reads false) x =
      ap (λ (sp : Spot). atomic_at key program.target code base sp op.Load w order [] (virtual (low_of k) ∷ []) x numbers) (ap (λ (r : ℕ). spot_of code.globals base r (bytes_of w)) enters.is_address ∙ on.spot)
      ∙ (ap (λ (b : Bool). H b (bits_of w) x.pending) on.narrow ∙ (ap (λ (b : ℕ). H false b x.pending) bits ∙ ap (H false elem_bits) (enters.moved.pending ∙ alike.pending))) in
      found_follows program accepted law code begins laid most base enough s c numbers alike here i known goes p ty address on Reads false rest size enters long x refl (omega arith) enters.moved act
      (record { seen = λ y ns. refl; missed = λ y. refl }) (record { seen = refl; expected = refl }) deed_is refl (outcome_is program accepted law code begins laid most base s c numbers i known alike here)

  pub store_atomic_narrow : (ty : Ty) (v : Operand) (a : Addr) (order : Order) (align : ℕ) → (known : Known program s numbers (inst.StoreAtomic ty v a order align)) → traps program s (inst.StoreAtomic ty v a order align) ≡ false → (address : ℕ) → On (pointer_of program.source a s) ty address
      → store_may_wait program.target ty order align ≡ may_wait program.target (width_of ty) order
      → (size : ℕ) → Enter (record { silent = low_into 3 ty v ∷ []; last = line.Atomic op.Store (width_of ty) order false (virtual 0) (virtual 3 ∷ []) [] }) address size → length (piece_of program s (inst.StoreAtomic ty v a order align)) ≡ size
      → Follows key program code begins most base s c numbers (inst.StoreAtomic ty v a order align)
  unfolding operands_of deed_of access_of result_in seen_by expected_by private_step shared_step machine.seen_by missed_by
  store_atomic_narrow ty v a order align known goes address on same_way size enters long =
      let i = inst.StoreAtomic ty v a order align in
      let p = pointer_of program.source a s in
      let n = operand_of ty v s.values in
      let typed = operand_at program accepted law s known.typed i (standing.stands program accepted law s i known.next) 0 ty v refl in
      let hv = held_temps v s.values c.regs enters.at.regs enters.moved.temps (held program accepted law code begins laid most base s c numbers i known alike here 0 ty v refl) in
      let x = mid.gets 3 (n % 2 ^ 64) enters.at in
      let moved = moved_temp c enters.at 3 (n % 2 ^ 64) (omega arith) enters.moved in
      let w = width_of ty in
      let waits = store_may_wait program.target ty order align in
      let elem_bits = type_bits (elements_of program.source s.function (Shared on.global)).elem in
      let rest : Straight = record { silent = low_into 3 ty v ∷ []; last = line.Atomic op.Store w order false (virtual 0) (virtual 3 ∷ []) [] } in
      let e = effect program accepted law code begins laid most base enough s c numbers alike here i known goes p ty address on (Writes n) waits in
      let H : Bool → ℕ → ℕ → List PendingStore → Option MidDeed = λ may bits arg pending.
      effected key program.target code base [] [] (effect_of (manner_of_native (Writes arg) may) (is_buffered program.target) bits on.global p.index (Writes arg) pending numbers) x in
      let cut : n % 2 ^ 64 % 2 ^ bits_of w ≡ n = ap (λ (b : ℕ). n % 2 ^ 64 % 2 ^ b) on.bits ∙ cut_again program accepted law code begins laid most base enough s c numbers alike here n (type_bits ty) typed on.few in
      let arg : argument w (n % 2 ^ 64 ∷ []) 0 ≡ n = ap (λ (b : Bool). if b then slice_index_or (n % 2 ^ 64 ∷ []) 0 0 + 2 ^ 64 * slice_index_or (n % 2 ^ 64 ∷ []) 1 0 else n % 2 ^ 64 % 2 ^ bits_of w) on.narrow ∙ cut in
      let bits : bits_of w ≡ elem_bits = on.bits ∙ ap type_bits (sym on.elem) in
      let act : act_by key program.target code base tag.Act rest.last x numbers ≡ Some (record { processor = record { place = x.place + 1; regs = x.regs; frame = x.frame; status = x.status; seen = None; pending = e.pending }; numbers = e.numbers; output = None }) =
      ap (λ (sp : Spot). atomic_at key program.target code base sp op.Store w order (virtual 3 ∷ []) [] x numbers) (ap (λ (r : ℕ). spot_of code.globals base r (bytes_of w)) enters.is_address ∙ on.spot)
      ∙ (ap (λ (b : Bool). H b (bits_of w) (argument w (n % 2 ^ 64 ∷ []) 0) x.pending) (sym same_way)
      ∙ (ap (λ (b : ℕ). H waits b (argument w (n % 2 ^ 64 ∷ []) 0) x.pending) bits
      ∙ (ap (λ (r : ℕ). H waits elem_bits r x.pending) arg
      ∙ ap (H waits elem_bits n) (moved.pending ∙ alike.pending)))) in
      let t : SourceProcessor = goes_on (record s { pending = e.pending }) in
      let r = reaches program accepted law code begins laid most base enough s c numbers alike here i known rest address size enters long x
      (x, low_fetched program code base 3 ty v s.values enters.at hv, refl, refl) (omega arith) moved.status e x.regs x.frame act t
      (record { does = source_does program accepted law code begins laid most base enough s c numbers alike here i known goes p ty address on (Writes n) waits Silent refl; status = refl; seen = refl; pending = refl; function = refl; block = refl; index = refl })
      (record {
        values = values_temps program.source s.function s.values c.regs x.regs moved.temps here.matches.values;
        allocas = subst (λ (fr : ℕ → ℕ). Rattle.ax_selected.specs.Matches.HoldsAllocas program.source s.function s.allocas fr) (sym moved.frame) here.matches.allocas;
      }) in
      calm_follows program accepted law code begins laid most base s c numbers i known alike here rest.last x (record { seen = refl; expected = refl }) (record { seen = λ y ns. refl; missed = λ y. refl }) r.ready r.line r.acts
