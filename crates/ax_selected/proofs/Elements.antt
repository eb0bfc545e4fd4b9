-- Atomic operations on an element of a native global.
use Rattle.std.proofs.Common.{◌≡◌, ℕ, ◌+◌, ◌*◌, ◌%◌, ◌^◌, ◌<◌, ◌≤◌, Bool, true, false, List, [], ◌∷◌, Option, None, length, refl, sym, ap, ◌∙◌, subst, arith}
use Rattle.std.specs.Prelude.{if◌then◌else◌, nat_eq, nat_lt}
use Rattle.std.proofs.Math.Nat.{mod-eq_of_lt}
use Rattle.ax_check.specs.Accepted.{IsAccepted}
use Rattle.ax_check.specs.Laws.{AtInstructions, IsSound}
use Rattle.ax_module.specs.declared.inst.Inst.{Inst}
use Rattle.ax_module.specs.declared.inst.Inst.TheVariants as inst
use Rattle.ax_module.specs.declared.operand.Addr.{Addr}
use Rattle.ax_module.specs.declared.operand.Operand.{Operand}
use Rattle.ax_module.specs.declared.types.Ty.{Ty}
use Rattle.ax_tags.specs.declared.tags.Tag.TheVariants as tag
use Rattle.ax_source_run.specs.SourceAccess.{Access, Deed, Found, ObjectOperation, Updates, Reply, accessed, answered, gets, is_native_element, manner_of, manner_of_native, object_done, put_at, shared_done}
use Rattle.ax_source_run.specs.SourceEvent.{expected_by, number_of_next, seen_by}
use Rattle.ax_source_run.specs.SourceInstructions.{access_of, changed, deed, deed_of, result_in, traps, width_of}
use Rattle.ax_source_run.specs.SourcePointers.{elements_of, pointer_of}
use Rattle.ax_source_run.specs.SourceState.{Number, Object, Pair, Pointer, Shared, SourceProcessor, SourceProgram, SourceValue}
use Rattle.ax_source_run.specs.SourceValues.{operand_of, type_bits}
use Rattle.ax_mid.specs.declared.code.Mid.{Mid}
use Rattle.ax_mid.specs.declared.instruction.MidInst.TheVariants as line
use Rattle.ax_mid.specs.declared.registers.Virtual.{Virtual}
use Rattle.ax_mid.specs.Machine as machine
use Rattle.ax_mid.specs.Machine.{Effect, act_by, argument, atomic_at, effect_of, effected, is_wide, missed_by, parts_of, private_step, read_all, shared_step}
use Rattle.ax_mid.specs.Processor as mid
use Rattle.ax_mid.specs.Processor.{MidDeed, MidProcessor}
use Rattle.ax_mid.specs.Spots.{Element, Spot, spot_of}
use Rattle.ax_words.specs.declared.mark.Op.TheVariants as op
use Rattle.ax_words.specs.declared.operation.RmwOp.{RmwOp}
use Rattle.ax_words.specs.declared.order.Order.{Order}
use Rattle.ax_words.specs.declared.source.SourceStatus.TheVariants.{Trapped}
use Rattle.ax_words.specs.Width.{bits_of, bytes_of}
use Rattle.ax_rules.specs.declared.facts.Outcome.{Outcome}
use Rattle.ax_rules.specs.declared.facts.Outcome.TheVariants as outcome
use Rattle.ax_rules.specs.Facts.{outcome_of}
use Rattle.ax_rules.specs.Parts.{operands_of}
use Rattle.ax_typed.proofs.Accesses.{DeedIs}
use Rattle.ax_typed.proofs.Facts.{operand_at}
use Rattle.ax_typed.proofs.Standing as standing
use Rattle.ax_typed.specs.Typed.{IsResultOf, IsTypedProcessor, outcome_in}
use Rattle.ax_target.specs.Targets.{is_buffered}
use Rattle.ax_selected.specs.Contract.{Alike, Follows, Known, Stands}
use Rattle.ax_selected.specs.Laid.{IsLaid, piece_of}
use Rattle.ax_selected.specs.Operands.{low_into}
use Rattle.ax_selected.specs.Pieces.{Straight}
use Rattle.ax_selected.specs.Registers.{key, low_of, virtual}
use Rattle.ax_selected.proofs.Computes.{IsCalm, IsPlain, calm_follows, held, held_temps, low_fetched, outcome_is}
use Rattle.ax_selected.proofs.Entering.{Enters, Moved, moved_temp}
use Rattle.ax_selected.proofs.Reaching.{reaches, shared_same}
use Rattle.ax_selected.proofs.Registers.{fits_64, half_below, narrow_result, put_same}
use Rattle.ax_selected.proofs.Straight.{Runs}

module _ (program : SourceProgram) (accepted : IsAccepted program) (law : AtInstructions IsSound) (code : Mid Virtual) (begins : ℕ → ℕ → ℕ → ℕ) (laid : IsLaid program code.lines begins) (most base : ℕ) (enough : 512 ≤ most) (s : SourceProcessor) (c : MidProcessor) (numbers : ℕ → ℕ → ℕ) (alike : Alike s c) (here : Stands program.source begins s c) where
  abbrev k : ℕ
  k = number_of_next program s

  -- a pointer to an element of a native global, of a type of at most 64 bits
  pub record OnNative (p : Pointer) (ty : Ty) (address : ℕ) : Type 0 where
    pub global : ℕ
    pub object : p.object ≡ Shared global
    pub native : is_native_element program global p.index ≡ true
    pub spot : spot_of code.globals base address (bytes_of (width_of ty)) ≡ Element global p.index
    pub elem : (elements_of program.source s.function (Shared global)).elem ≡ ty
    pub bits : bits_of (width_of ty) ≡ type_bits ty
    pub narrow : is_wide (width_of ty) ≡ false
    pub few : type_bits ty ≤ 64

  module _ (i : Inst) (known : Known program s numbers i) (goes : traps program s i ≡ false) (p : Pointer) (ty : Ty) (address : ℕ) (on : OnNative p ty address) (operation : ObjectOperation) (may : Bool) where
    -- what the operation does to the element
    abbrev pub effect : Effect
    effect = effect_of (manner_of_native operation may) (is_buffered program.target) (type_bits (elements_of program.source s.function (Shared on.global)).elem) on.global p.index operation s.pending numbers

    abbrev pub access : Reply → Access
    access reply = record { pointer = p; operation = operation; may_wait = may; reply = reply }

    waiting : SourceProcessor
    waiting = record s { pending = effect.pending }

    pub source_does : (reply : Reply) → deed_of program s k numbers i ≡ accessed program (access reply) k s numbers
        → deed program s k numbers i ≡ answered (access reply) k (record { found = effect.found; processor = record s { pending = effect.pending }; numbers = effect.numbers })
    source_does reply is =
        ap (λ (b : Bool). if b then changed program s (record s { status = Trapped }) numbers else deed_of program s k numbers i) goes ∙ (is
        ∙ (ap (λ (o : Object). answered (access reply) k (object_done program o p.index operation may s numbers)) on.object
        ∙ (ap (λ (b : Bool). answered (access reply) k (shared_done (manner_of b operation may) (is_buffered program.target) (type_bits (elements_of program.source s.function (Shared on.global)).elem) on.global p.index operation s numbers)) on.native
        ∙ ap (answered (access reply) k) (shared_same (manner_of_native operation may) (is_buffered program.target) (type_bits (elements_of program.source s.function (Shared on.global)).elem) on.global p.index operation s numbers))))

    -- the processor that has the number as its result
    abbrev pub found_t : SourceProcessor
    found_t = gets k (Number effect.found) (record s { pending = effect.pending })

    -- the number is one of the instruction's type
    pub found_below : DeedIs program.source (deed program s k numbers i) → deed program s k numbers i ≡ record { processor = found_t; numbers = effect.numbers; output = None } → outcome_in program.source s.function k ≡ outcome.Number ty → effect.found < 2 ^ 64
    found_below is does out =
        let typed : IsTypedProcessor program.source found_t = subst (λ (d : Deed). IsTypedProcessor program.source d.processor) does is.processor in
        let result = subst (λ (v : SourceValue). IsResultOf (outcome_in program.source s.function k) k v) (put_same s.values k (Number effect.found)) (typed.values k) in
        fits_64 effect.found (type_bits ty) on.few (subst (λ (o : Outcome). IsResultOf o k (Number effect.found)) out result)

    pub found_follows : (rest : Straight) (size : ℕ) (enters : Enters program code begins laid most base enough s.function k c rest address size) → length (piece_of program s i) ≡ size
        → (x : MidProcessor) → Runs program.target code base rest.silent enters.at x → length rest.silent ≤ 16 → Moved c x
        → act_by key program.target code base tag.Act rest.last x numbers ≡ effected key program.target code base (virtual (low_of k) ∷ []) (effect.found % 2 ^ 64 ∷ []) effect x
        → IsPlain program code base rest.last → IsCalm program accepted law code begins laid most base s c numbers i known alike here → DeedIs program.source (deed program s k numbers i)
        → deed_of program s k numbers i ≡ accessed program (access Found) k s numbers → outcome_in program.source s.function k ≡ outcome.Number ty
        → Follows key program code begins most base s c numbers i
    found_follows rest size enters long x runs few moved act plain calm deed_is is out =
        let does = source_does Found is in
        let below = found_below deed_is does out in
        let regs = put_at x.regs (low_of k) (effect.found % 2 ^ 64) in
        let d : MidProcessor = record { place = x.place + 1; regs = regs; frame = x.frame; status = x.status; seen = None; pending = effect.pending } in
        let held = narrow_result program.source s c k here.matches d moved.frame ty effect.found x.regs out known.typed on.few below moved.temps (ap (put_at x.regs (low_of k)) (half_below effect.found below).0) in
        let r = reaches program accepted law code begins laid most base enough s c numbers alike here i known rest address size enters long x runs few moved.status effect regs x.frame act found_t
        (record { does = does; status = refl; seen = refl; pending = refl; function = refl; block = refl; index = refl })
        (record { values = held.values; allocas = held.allocas }) in
        calm_follows program accepted law code begins laid most base s c numbers i known alike here rest.last x calm plain r.ready r.line r.acts

  -- ---- a read-modify-write
  pub cut_again : (n bits : ℕ) → n < 2 ^ bits → bits ≤ 64 → n % 2 ^ 64 % 2 ^ bits ≡ n
  cut_again n bits h le = ap (λ (x : ℕ). x % 2 ^ bits) (half_below n (fits_64 n bits le h)).0 ∙ mod-eq_of_lt h

  abbrev update_rest : RmwOp → Ty → Operand → Order → Straight
  update_rest o ty v order = record { silent = low_into 3 ty v ∷ []; last = line.Atomic (op.Rmw o) (width_of ty) order false (virtual 0) (virtual 3 ∷ []) (virtual (low_of k) ∷ []) }

  pub update_narrow : (o : RmwOp) (a : Addr) (ty : Ty) (v : Operand) (order : Order) (align : ℕ) → (known : Known program s numbers (inst.Rmw o a ty v order align)) → traps program s (inst.Rmw o a ty v order align) ≡ false → (address : ℕ) → OnNative (pointer_of program.source a s) ty address
      → (size : ℕ) → Enters program code begins laid most base enough s.function k c (update_rest o ty v order) address size → length (piece_of program s (inst.Rmw o a ty v order align)) ≡ size → DeedIs program.source (deed program s k numbers (inst.Rmw o a ty v order align))
      → Follows key program code begins most base s c numbers (inst.Rmw o a ty v order align)
  unfolding operands_of outcome_of deed_of access_of result_in seen_by expected_by private_step shared_step machine.seen_by missed_by
  update_narrow o a ty v order align known goes address on size enters long deed_is =
      let i = inst.Rmw o a ty v order align in
      let p = pointer_of program.source a s in
      let n = operand_of ty v s.values in
      let typed = operand_at program accepted law s known.typed i (standing.stands program accepted law s i known.next) 0 ty v refl in
      let hv = held_temps v s.values c.regs enters.at.regs enters.moved.temps (held program accepted law code begins laid most base s c numbers i known alike here 0 ty v refl) in
      let x = mid.gets 3 (n % 2 ^ 64) enters.at in
      let moved = moved_temp c enters.at 3 (n % 2 ^ 64) (omega arith) enters.moved in
      let w = width_of ty in
      let elem_bits = type_bits (elements_of program.source s.function (Shared on.global)).elem in
      let H : Bool → ℕ → ℕ → List Rattle.ax_source_run.specs.SourceState.PendingStore → Option MidDeed = λ wide bits arg pending.
      let e = effect_of (manner_of_native (Updates o arg) false) (is_buffered program.target) bits on.global p.index (Updates o arg) pending numbers in
      effected key program.target code base (virtual (low_of k) ∷ []) (parts_of wide e.found) e x in
      let cut : n % 2 ^ 64 % 2 ^ bits_of w ≡ n = ap (λ (b : ℕ). n % 2 ^ 64 % 2 ^ b) on.bits ∙ cut_again n (type_bits ty) typed on.few in
      let arg : argument w (n % 2 ^ 64 ∷ []) 0 ≡ n = ap (λ (b : Bool). if b then Rattle.std.specs.Prelude.slice_index_or (n % 2 ^ 64 ∷ []) 0 0 + 2 ^ 64 * Rattle.std.specs.Prelude.slice_index_or (n % 2 ^ 64 ∷ []) 1 0 else n % 2 ^ 64 % 2 ^ bits_of w) on.narrow ∙ cut in
      let bits : bits_of w ≡ elem_bits = on.bits ∙ ap type_bits (sym on.elem) in
      let act : act_by key program.target code base tag.Act (update_rest o ty v order).last x numbers ≡ effected key program.target code base (virtual (low_of k) ∷ []) ((effect i known goes p ty address on (Updates o n) false).found % 2 ^ 64 ∷ []) (effect i known goes p ty address on (Updates o n) false) x =
      ap (λ (sp : Spot). atomic_at key program.target code base sp (op.Rmw o) w order (virtual 3 ∷ []) (virtual (low_of k) ∷ []) x numbers) (ap (λ (r : ℕ). spot_of code.globals base r (bytes_of w)) enters.is_address ∙ on.spot)
      ∙ (ap (λ (b : Bool). H b (bits_of w) (argument w (n % 2 ^ 64 ∷ []) 0) x.pending) on.narrow
      ∙ (ap (λ (b : ℕ). H false b (argument w (n % 2 ^ 64 ∷ []) 0) x.pending) bits
      ∙ (ap (λ (r : ℕ). H false elem_bits r x.pending) arg
      ∙ ap (H false elem_bits n) (moved.pending ∙ alike.pending)))) in
      found_follows i known goes p ty address on (Updates o n) false (update_rest o ty v order) size enters long x
      (x, low_fetched program code base 3 ty v s.values enters.at hv, refl, refl) (omega arith) moved act
      (record { seen = λ y ns. refl; missed = λ y. refl }) (record { seen = refl; expected = refl }) deed_is refl (outcome_is program accepted law code begins laid most base s c numbers i known alike here)
