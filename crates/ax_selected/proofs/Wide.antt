-- Atomic operations on an element of 16 bytes of a native global.
use Rattle.std.proofs.Common.{◌≡◌, ℕ, ◌+◌, ◌*◌, ◌/◌, ◌%◌, ◌^◌, ◌≤◌, Bool, true, false, List, [], ◌∷◌, Option, Some, None, length, refl, sym, ap, ◌∙◌, subst, arith}
use Rattle.std.specs.Prelude.{if◌then◌else◌}
use Rattle.ax_check.specs.Accepted.{IsAccepted}
use Rattle.ax_check.specs.Laws.{AtInstructions, IsSound}
use Rattle.ax_module.specs.declared.inst.Inst.{Inst}
use Rattle.ax_module.specs.declared.inst.Inst.TheVariants as inst
use Rattle.ax_module.specs.declared.operand.Addr.{Addr}
use Rattle.ax_module.specs.declared.operand.Operand.{Operand}
use Rattle.ax_module.specs.declared.types.Ty.{Ty}
use Rattle.ax_tags.specs.declared.tags.Tag.TheVariants as tag
use Rattle.ax_source_run.specs.SourceAccess.{Access, Found, ObjectOperation, Reads, Reply, Silent, Updates, Writes, accessed, answered, gets, goes_on, is_native_element, manner_of, manner_of_native, object_done, put_at, shared_done}
use Rattle.ax_source_run.specs.SourceEvent.{expected_by, number_of_next, seen_by}
use Rattle.ax_source_run.specs.SourceInstructions.{access_of, changed, deed, deed_of, result_in, store_may_wait, traps, width_of}
use Rattle.ax_source_run.specs.SourcePointers.{elements_of, pointer_of}
use Rattle.ax_source_run.specs.SourceState.{Number, Object, PendingStore, Pointer, Shared, SourceProcessor, SourceProgram}
use Rattle.ax_source_run.specs.SourceValues.{operand_of, type_bits}
use Rattle.ax_mid.specs.declared.code.Mid.{Mid}
use Rattle.ax_mid.specs.declared.instruction.MidInst.TheVariants as line
use Rattle.ax_mid.specs.declared.registers.Virtual.{Virtual}
use Rattle.ax_mid.specs.Machine as machine
use Rattle.ax_mid.specs.Machine.{Effect, act_by, argument, atomic_at, effect_of, effected, if_true, is_wide, line_at, may_wait, missed_by, missed_if, number_at_spot, parts_of, private_step, seen_if, shared_step}
use Rattle.ax_mid.specs.Processor as mid
use Rattle.ax_mid.specs.Processor.{MidDeed, MidProcessor}
use Rattle.ax_mid.specs.Spots.{Element, Spot, spot_of}
use Rattle.ax_words.specs.declared.mark.Op.TheVariants as op
use Rattle.ax_words.specs.declared.operation.RmwOp.{RmwOp}
use Rattle.ax_words.specs.declared.order.Order.{Order}
use Rattle.ax_words.specs.declared.source.SourceStatus.TheVariants.{Trapped}
use Rattle.ax_words.specs.declared.width.Width.{Width}
use Rattle.ax_words.specs.Width.{bits_of, bytes_of}
use Rattle.ax_rules.specs.declared.facts.Outcome.TheVariants as outcome
use Rattle.ax_rules.specs.Facts.{outcome_of}
use Rattle.ax_rules.specs.Parts.{operands_of}
use Rattle.ax_target.specs.Targets.{is_buffered}
use Rattle.ax_typed.specs.Typed.{outcome_in}
use Rattle.ax_selected.specs.Contract.{Alike, Follows, Known, Stands}
use Rattle.ax_selected.specs.Laid.{IsLaid, piece_of}
use Rattle.ax_selected.specs.Matches.{HoldsAllocas}
use Rattle.ax_selected.specs.Operands.{high_into, low_into}
use Rattle.ax_selected.specs.Pieces.{Straight}
use Rattle.ax_selected.specs.Registers.{high_of, key, low_of, virtual}
use Rattle.ax_selected.proofs.Computes.{Held, IsCalm, IsPlain, calm_follows, held, held_temps, high_fetched, low_fetched, outcome_is}
use Rattle.ax_selected.proofs.Entering.{Enters, Moved, moved_temp}
use Rattle.ax_selected.proofs.Reaching.{reaches, shared_same}
use Rattle.ax_selected.proofs.Registers.{Temps, temp, values_temps, wide_back}
use Rattle.ax_selected.proofs.Straight.{Runs}

pub both_halves : (n : ℕ) → n % 2 ^ 64 + 2 ^ 64 * (n / 2 ^ 64) ≡ n
both_halves n = omega arith

module _ (program : SourceProgram) (accepted : IsAccepted program) (law : AtInstructions IsSound) (code : Mid Virtual) (begins : ℕ → ℕ → ℕ → ℕ) (laid : IsLaid program code.lines begins) (most base : ℕ) (enough : 512 ≤ most) (s : SourceProcessor) (c : MidProcessor) (numbers : ℕ → ℕ → ℕ) (alike : Alike s c) (here : Stands program.source begins s c) where
  abbrev k : ℕ
  k = number_of_next program s

  -- a pointer to an element of a native global, of a type of two registers
  pub record OnWide (p : Pointer) (ty : Ty) (address : ℕ) : Type 0 where
    pub global : ℕ
    pub object : p.object ≡ Shared global
    pub native : is_native_element program global p.index ≡ true
    pub spot : spot_of code.globals base address (bytes_of (width_of ty)) ≡ Element global p.index
    pub elem : (elements_of program.source s.function (Shared global)).elem ≡ ty
    pub bits : bits_of (width_of ty) ≡ type_bits ty
    pub wide : is_wide (width_of ty) ≡ true

  abbrev Enter : Straight → ℕ → ℕ → Type 0
  Enter = Enters program code begins laid most base enough s.function k c

  -- the halves of a number in registers 3 and 4, or of two in 3 to 6
  module _ (y : MidProcessor) (to : Moved c y) (ty : Ty) (v : Operand) (hv : Held v s.values c.regs) where
    abbrev n : ℕ
    n = operand_of ty v s.values

    abbrev once : MidProcessor
    once = mid.gets 3 (n % 2 ^ 64) y

    abbrev pub both : MidProcessor
    both = mid.gets 4 (n / 2 ^ 64) once

    once_temps : Temps c.regs once.regs
    once_temps = temp c.regs y.regs 3 (n % 2 ^ 64) (omega arith) to.temps

    pub both_moved : Moved c both
    both_moved = moved_temp c once 4 (n / 2 ^ 64) (omega arith) (moved_temp c y 3 (n % 2 ^ 64) (omega arith) to)

    pub both_runs : Runs program.target code base (low_into 3 ty v ∷ high_into 4 ty v ∷ []) y both
    both_runs = (once, low_fetched program code base 3 ty v s.values y (held_temps v s.values c.regs y.regs to.temps hv), refl, (both, high_fetched program code base 4 ty v s.values once (held_temps v s.values c.regs once.regs once_temps hv), refl, refl))

  module _ (i : Inst) (known : Known program s numbers i) (goes : traps program s i ≡ false) (p : Pointer) (ty : Ty) (address : ℕ) (on : OnWide p ty address) (operation : ObjectOperation) (may : Bool) where
    abbrev elem_bits : ℕ
    elem_bits = type_bits (elements_of program.source s.function (Shared on.global)).elem

    abbrev pub effect : Effect
    effect = effect_of (manner_of_native operation may) (is_buffered program.target) elem_bits on.global p.index operation s.pending numbers

    abbrev access : Reply → Access
    access reply = record { pointer = p; operation = operation; may_wait = may; reply = reply }

    pub source_does : (reply : Reply) → deed_of program s k numbers i ≡ accessed program (access reply) k s numbers
        → deed program s k numbers i ≡ answered (access reply) k (record { found = effect.found; processor = record s { pending = effect.pending }; numbers = effect.numbers })
    source_does reply is =
        ap (λ (b : Bool). if b then changed program s (record s { status = Trapped }) numbers else deed_of program s k numbers i) goes ∙ (is
        ∙ (ap (λ (o : Object). answered (access reply) k (object_done program o p.index operation may s numbers)) on.object
        ∙ (ap (λ (b : Bool). answered (access reply) k (shared_done (manner_of b operation may) (is_buffered program.target) elem_bits on.global p.index operation s numbers)) on.native
        ∙ ap (answered (access reply) k) (shared_same (manner_of_native operation may) (is_buffered program.target) elem_bits on.global p.index operation s numbers))))

    -- the number that is found is the result, in both halves
    found_wide : (rest : Straight) (size : ℕ) (enters : Enter rest address size) → length (piece_of program s i) ≡ size
        → (x : MidProcessor) → Runs program.target code base rest.silent enters.at x → length rest.silent ≤ 16 → Moved c x
        → act_by key program.target code base tag.Act rest.last x numbers ≡ effected key program.target code base (virtual (low_of k) ∷ virtual (high_of k) ∷ []) (effect.found % 2 ^ 64 ∷ effect.found / 2 ^ 64 ∷ []) effect x
        → IsPlain program code base rest.last → IsCalm program accepted law code begins laid most base s c numbers i known alike here
        → deed_of program s k numbers i ≡ accessed program (access Found) k s numbers → outcome_in program.source s.function k ≡ outcome.Number ty
        → Follows key program code begins most base s c numbers i
    found_wide rest size enters long x runs few moved act plain calm is out =
        let regs = put_at (put_at x.regs (low_of k) (effect.found % 2 ^ 64)) (high_of k) (effect.found / 2 ^ 64) in
        let t : SourceProcessor = gets k (Number effect.found) (record s { pending = effect.pending }) in
        let d : MidProcessor = record { place = x.place + 1; regs = regs; frame = x.frame; status = x.status; seen = None; pending = effect.pending } in
        let held_it = wide_back program.source s c k here.matches d moved.frame ty effect.found (effect.found % 2 ^ 64) (effect.found / 2 ^ 64) x.regs out refl refl moved.temps refl in
        let r = reaches program accepted law code begins laid most base enough s c numbers alike here i known rest address size enters long x runs few moved.status effect regs x.frame act t
        (record { does = source_does Found is; status = refl; seen = refl; pending = refl; function = refl; block = refl; index = refl })
        (record { values = held_it.values; allocas = held_it.allocas }) in
        calm_follows program accepted law code begins laid most base s c numbers i known alike here rest.last x calm plain r.ready r.line r.acts

  pub load_wide : (ty : Ty) (a : Addr) (order : Order) (align : ℕ) → (known : Known program s numbers (inst.LoadAtomic ty a order align)) → traps program s (inst.LoadAtomic ty a order align) ≡ false → (address : ℕ) → OnWide (pointer_of program.source a s) ty address
      → (size : ℕ) → Enter (record { silent = []; last = line.Atomic op.Load (width_of ty) order false (virtual 0) [] (virtual (low_of k) ∷ virtual (high_of k) ∷ []) }) address size → length (piece_of program s (inst.LoadAtomic ty a order align)) ≡ size
      → Follows key program code begins most base s c numbers (inst.LoadAtomic ty a order align)
  unfolding outcome_of deed_of access_of result_in seen_by expected_by private_step shared_step machine.seen_by missed_by
  load_wide ty a order align known goes address on size enters long =
      let i = inst.LoadAtomic ty a order align in
      let p = pointer_of program.source a s in
      let x = enters.at in
      let w = width_of ty in
      let to = virtual (low_of k) ∷ virtual (high_of k) ∷ [] in
      let rest : Straight = record { silent = []; last = line.Atomic op.Load w order false (virtual 0) [] to } in
      let H : Bool → ℕ → List PendingStore → Option MidDeed = λ b bits pending.
      let e = effect_of (manner_of_native Reads false) (is_buffered program.target) bits on.global p.index Reads pending numbers in
      effected key program.target code base to (parts_of b e.found) e x in
      let bits : bits_of w ≡ type_bits (elements_of program.source s.function (Shared on.global)).elem = on.bits ∙ ap type_bits (sym on.elem) in
      let act = ap (λ (sp : Spot). atomic_at key program.target code base sp op.Load w order [] to x numbers) (ap (λ (r : ℕ). spot_of code.globals base r (bytes_of w)) enters.is_address ∙ on.spot)
      ∙ (ap (λ (b : Bool). H b (bits_of w) x.pending) on.wide ∙ (ap (λ (b : ℕ). H true b x.pending) bits ∙ ap (H true (type_bits (elements_of program.source s.function (Shared on.global)).elem)) (enters.moved.pending ∙ alike.pending))) in
      found_wide i known goes p ty address on Reads false rest size enters long x refl (omega arith) enters.moved act
      (record { seen = λ y ns. refl; missed = λ y. refl }) (record { seen = refl; expected = refl }) refl (outcome_is program accepted law code begins laid most base s c numbers i known alike here)

  -- an argument in two registers
  arg_is : (w : Width) (n : ℕ) → is_wide w ≡ true → argument w (n % 2 ^ 64 ∷ n / 2 ^ 64 ∷ []) 0 ≡ n
  arg_is w n e = ap (λ (b : Bool). if b then n % 2 ^ 64 + 2 ^ 64 * (n / 2 ^ 64) else n % 2 ^ 64 % 2 ^ bits_of w) e ∙ both_halves n

  pub update_wide : (o : RmwOp) (a : Addr) (ty : Ty) (v : Operand) (order : Order) (align : ℕ) → (known : Known program s numbers (inst.Rmw o a ty v order align)) → traps program s (inst.Rmw o a ty v order align) ≡ false → (address : ℕ) → OnWide (pointer_of program.source a s) ty address
      → (size : ℕ) → Enter (record { silent = low_into 3 ty v ∷ high_into 4 ty v ∷ []; last = line.Atomic (op.Rmw o) (width_of ty) order false (virtual 0) (virtual 3 ∷ virtual 4 ∷ []) (virtual (low_of k) ∷ virtual (high_of k) ∷ []) }) address size → length (piece_of program s (inst.Rmw o a ty v order align)) ≡ size
      → Follows key program code begins most base s c numbers (inst.Rmw o a ty v order align)
  unfolding operands_of outcome_of deed_of access_of result_in seen_by expected_by private_step shared_step machine.seen_by missed_by
  update_wide o a ty v order align known goes address on size enters long =
      let i = inst.Rmw o a ty v order align in
      let p = pointer_of program.source a s in
      let n = operand_of ty v s.values in
      let hv = held program accepted law code begins laid most base s c numbers i known alike here 0 ty v refl in
      let x = both enters.at enters.moved ty v hv in
      let moved = both_moved enters.at enters.moved ty v hv in
      let w = width_of ty in
      let to = virtual (low_of k) ∷ virtual (high_of k) ∷ [] in
      let from = virtual 3 ∷ virtual 4 ∷ [] in
      let rest : Straight = record { silent = low_into 3 ty v ∷ high_into 4 ty v ∷ []; last = line.Atomic (op.Rmw o) w order false (virtual 0) from to } in
      let elem_bits = type_bits (elements_of program.source s.function (Shared on.global)).elem in
      let H : Bool → ℕ → ℕ → List PendingStore → Option MidDeed = λ b bits arg pending.
      let e = effect_of (manner_of_native (Updates o arg) false) (is_buffered program.target) bits on.global p.index (Updates o arg) pending numbers in
      effected key program.target code base to (parts_of b e.found) e x in
      let args = n % 2 ^ 64 ∷ n / 2 ^ 64 ∷ [] in
      let bits : bits_of w ≡ elem_bits = on.bits ∙ ap type_bits (sym on.elem) in
      let act = ap (λ (sp : Spot). atomic_at key program.target code base sp (op.Rmw o) w order from to x numbers) (ap (λ (r : ℕ). spot_of code.globals base r (bytes_of w)) enters.is_address ∙ on.spot)
      ∙ (ap (λ (b : Bool). H b (bits_of w) (argument w args 0) x.pending) on.wide
      ∙ (ap (λ (b : ℕ). H true b (argument w args 0) x.pending) bits
      ∙ (ap (λ (r : ℕ). H true elem_bits r x.pending) (arg_is w n on.wide)
      ∙ ap (H true elem_bits n) (moved.pending ∙ alike.pending)))) in
      found_wide i known goes p ty address on (Updates o n) false rest size enters long x (both_runs enters.at enters.moved ty v hv) (omega arith) moved act
      (record { seen = λ y ns. refl; missed = λ y. refl }) (record { seen = refl; expected = refl }) refl (outcome_is program accepted law code begins laid most base s c numbers i known alike here)

  pub store_wide : (ty : Ty) (v : Operand) (a : Addr) (order : Order) (align : ℕ) → (known : Known program s numbers (inst.StoreAtomic ty v a order align)) → traps program s (inst.StoreAtomic ty v a order align) ≡ false → (address : ℕ) → OnWide (pointer_of program.source a s) ty address
      → store_may_wait program.target ty order align ≡ may_wait program.target (width_of ty) order
      → (size : ℕ) → Enter (record { silent = low_into 3 ty v ∷ high_into 4 ty v ∷ []; last = line.Atomic op.Store (width_of ty) order false (virtual 0) (virtual 3 ∷ virtual 4 ∷ []) [] }) address size → length (piece_of program s (inst.StoreAtomic ty v a order align)) ≡ size
      → Follows key program code begins most base s c numbers (inst.StoreAtomic ty v a order align)
  unfolding operands_of deed_of access_of result_in seen_by expected_by private_step shared_step machine.seen_by missed_by
  store_wide ty v a order align known goes address on same_way size enters long =
      let i = inst.StoreAtomic ty v a order align in
      let p = pointer_of program.source a s in
      let n = operand_of ty v s.values in
      let hv = held program accepted law code begins laid most base s c numbers i known alike here 0 ty v refl in
      let x = both enters.at enters.moved ty v hv in
      let moved = both_moved enters.at enters.moved ty v hv in
      let w = width_of ty in
      let waits = store_may_wait program.target ty order align in
      let from = virtual 3 ∷ virtual 4 ∷ [] in
      let rest : Straight = record { silent = low_into 3 ty v ∷ high_into 4 ty v ∷ []; last = line.Atomic op.Store w order false (virtual 0) from [] } in
      let elem_bits = type_bits (elements_of program.source s.function (Shared on.global)).elem in
      let e = effect i known goes p ty address on (Writes n) waits in
      let H : Bool → ℕ → ℕ → List PendingStore → Option MidDeed = λ may bits arg pending.
      effected key program.target code base [] [] (effect_of (manner_of_native (Writes arg) may) (is_buffered program.target) bits on.global p.index (Writes arg) pending numbers) x in
      let args = n % 2 ^ 64 ∷ n / 2 ^ 64 ∷ [] in
      let bits : bits_of w ≡ elem_bits = on.bits ∙ ap type_bits (sym on.elem) in
      let act : act_by key program.target code base tag.Act rest.last x numbers ≡ Some (record { processor = record { place = x.place + 1; regs = x.regs; frame = x.frame; status = x.status; seen = None; pending = e.pending }; numbers = e.numbers; output = None }) =
      ap (λ (sp : Spot). atomic_at key program.target code base sp op.Store w order from [] x numbers) (ap (λ (r : ℕ). spot_of code.globals base r (bytes_of w)) enters.is_address ∙ on.spot)
      ∙ (ap (λ (b : Bool). H b (bits_of w) (argument w args 0) x.pending) (sym same_way)
      ∙ (ap (λ (b : ℕ). H waits b (argument w args 0) x.pending) bits
      ∙ (ap (λ (r : ℕ). H waits elem_bits r x.pending) (arg_is w n on.wide)
      ∙ ap (H waits elem_bits n) (moved.pending ∙ alike.pending)))) in
      let t : SourceProcessor = goes_on (record s { pending = e.pending }) in
      let r = reaches program accepted law code begins laid most base enough s c numbers alike here i known rest address size enters long x (both_runs enters.at enters.moved ty v hv) (omega arith) moved.status e x.regs x.frame act t
      (record { does = source_does i known goes p ty address on (Writes n) waits Silent refl; status = refl; seen = refl; pending = refl; function = refl; block = refl; index = refl })
      (record {
        values = values_temps program.source s.function s.values c.regs x.regs moved.temps here.matches.values;
        allocas = subst (λ (fr : ℕ → ℕ). HoldsAllocas program.source s.function s.allocas fr) (sym moved.frame) here.matches.allocas;
      }) in
      calm_follows program accepted law code begins laid most base s c numbers i known alike here rest.last x (record { seen = refl; expected = refl }) (record { seen = λ y ns. refl; missed = λ y. refl }) r.ready r.line r.acts
