-- Plain loads and stores of elements of native globals, and fences.
use Rattle.std.proofs.Common.{◌≡◌, ℕ, ◌+◌, ◌*◌, ◌%◌, ◌^◌, ◌≤◌, Bool, true, false, List, [], ◌∷◌, Option, Some, None, length, refl, sym, ap, ◌∙◌, subst, arith, slice_get}
use Rattle.ax_check.specs.Accepted.{IsAccepted}
use Rattle.ax_check.specs.Laws.{AtInstructions, IsSound}
use Rattle.ax_module.specs.declared.inst.Inst.{Inst}
use Rattle.ax_module.specs.declared.inst.Inst.TheVariants as inst
use Rattle.ax_module.specs.declared.operand.Addr.{Addr}
use Rattle.ax_module.specs.declared.operand.Operand.{Operand}
use Rattle.ax_module.specs.declared.types.Ty.{Ty}
use Rattle.ax_module.specs.declared.types.Ty.TheVariants.{I64}
use Rattle.ax_tags.specs.declared.tags.Tag.TheVariants as tag
use Rattle.ax_source_run.specs.SourceAccess.{Deed, Found, Reads, Silent, Writes, goes_on, manner_of_native, written_out}
use Rattle.ax_source_run.specs.SourceEvent.{expected_by, number_of_next, seen_by}
use Rattle.ax_source_run.specs.SourceInstructions.{access_of, changed, deed, deed_of, fenced, is_seq_cst, is_unreachable, pointers_of, result_in, traps, width_of}
use Rattle.ax_source_run.specs.SourcePointers.{elements_of, pointer_of}
use Rattle.ax_source_run.specs.SourceState.{PendingStore, Pointer, Shared, SourceProcessor, SourceProgram}
use Rattle.ax_source_run.specs.SourceValues.{operand_of, type_bits}
use Rattle.ax_mid.specs.declared.code.Line.{Line}
use Rattle.ax_mid.specs.declared.code.Mid.{Mid}
use Rattle.ax_mid.specs.declared.instruction.MidInst.{MidInst}
use Rattle.ax_mid.specs.declared.instruction.MidInst.TheVariants as line
use Rattle.ax_mid.specs.declared.registers.Virtual.{Virtual}
use Rattle.ax_mid.specs.Machine as machine
use Rattle.ax_mid.specs.Machine.{Effect, act_by, act_if, act_step, effect_of, effected, load_shared, loaded, missed_by, private_step, shared_step, store_shared, stored, stepped}
use Rattle.ax_mid.specs.Processor as mid
use Rattle.ax_mid.specs.Processor.{MidDeed, MidProcessor}
use Rattle.ax_mid.specs.Spots.{Element, Spot, spot_of}
use Rattle.ax_words.specs.declared.mark.Op.TheVariants as op
use Rattle.ax_words.specs.declared.order.Order.{Order}
use Rattle.ax_words.specs.Width.{bits_of, bytes_of}
use Rattle.ax_rules.specs.Facts.{outcome_of}
use Rattle.ax_rules.specs.Parts.{operands_of}
use Rattle.ax_target.specs.Targets.{is_buffered}
use Rattle.ax_typed.proofs.Accesses.{DeedIs}
use Rattle.ax_typed.proofs.Facts.{operand_at}
use Rattle.ax_typed.proofs.Standing as standing
use Rattle.ax_selected.specs.Contract.{Alike, Follows, Known, Leaves, Stands}
use Rattle.ax_selected.specs.Laid.{HasAt, IsLaid, piece_of}
use Rattle.ax_selected.specs.Matches.{HoldsAllocas}
use Rattle.ax_selected.specs.Operands.{low_into}
use Rattle.ax_selected.specs.Pieces.{Straight}
use Rattle.ax_selected.specs.Registers.{key, low_of, virtual}
use Rattle.ax_selected.specs.Selected.{acting, lone, piece, straight}
use Rattle.ax_selected.proofs.Computes.{calm_follows, has, held, held_temps, low_fetched, next_place, outcome_is}
use Rattle.ax_selected.proofs.Elements.{OnNative, cut_again, effect, found_below, found_follows, source_does}
use Rattle.ax_selected.proofs.Entering.{Enters, moved_temp}
use Rattle.ax_selected.proofs.Reaching.{reaches}
use Rattle.ax_selected.proofs.Registers.{half_below, values_temps}
use Rattle.ax_selected.proofs.Straight.{stops}

module _ (program : SourceProgram) (accepted : IsAccepted program) (law : AtInstructions IsSound) (code : Mid Virtual) (begins : ℕ → ℕ → ℕ → ℕ) (laid : IsLaid program code.lines begins) (most base : ℕ) (enough : 512 ≤ most) (s : SourceProcessor) (c : MidProcessor) (numbers : ℕ → ℕ → ℕ) (alike : Alike s c) (here : Stands program.source begins s c) where
  abbrev k : ℕ
  k = number_of_next program s

  abbrev On : Pointer → Ty → ℕ → Type 0
  On = OnNative program accepted law code begins laid most base enough s c numbers alike here

  abbrev Enter : Straight → ℕ → ℕ → Type 0
  Enter = Enters program code begins laid most base enough s.function k c

  pub load_shared_narrow : (ty : Ty) (a : Addr) (align : Option ℕ) → (known : Known program s numbers (inst.Load ty a align)) → traps program s (inst.Load ty a align) ≡ false → (address : ℕ) → On (pointer_of program.source a s) ty address → (n : ℕ) → n ≡ bytes_of (width_of ty)
      → (size : ℕ) → Enter (record { silent = []; last = line.Load (virtual (low_of k)) (virtual 0) n }) address size → length (piece_of program s (inst.Load ty a align)) ≡ size → DeedIs program.source (deed program s k numbers (inst.Load ty a align))
      → Follows key program code begins most base s c numbers (inst.Load ty a align)
  unfolding outcome_of deed_of access_of result_in seen_by expected_by private_step shared_step machine.seen_by missed_by
  load_shared_narrow ty a align known goes address on n sized size enters long deed_is =
      let i = inst.Load ty a align in
      let p = pointer_of program.source a s in
      let x = enters.at in
      let rest : Straight = record { silent = []; last = line.Load (virtual (low_of k)) (virtual 0) n } in
      let e = effect program accepted law code begins laid most base enough s c numbers alike here i known goes p ty address on Reads false in
      let out = outcome_is program accepted law code begins laid most base s c numbers i known alike here in
      let does = source_does program accepted law code begins laid most base enough s c numbers alike here i known goes p ty address on Reads false Found refl in
      let below = found_below program accepted law code begins laid most base enough s c numbers alike here i known goes p ty address on Reads false deed_is does out in
      let at : spot_of code.globals base (x.regs 0) n ≡ Element on.global p.index = ap (λ (r : ℕ). spot_of code.globals base r n) enters.is_address ∙ (ap (spot_of code.globals base address) sized ∙ on.spot) in
      let H : List PendingStore → Effect = λ pending. effect_of (manner_of_native Reads false) (is_buffered program.target) (8 * n) on.global p.index Reads pending numbers in
      let act : act_by key program.target code base tag.Act rest.last x numbers ≡ effected key program.target code base (virtual (low_of k) ∷ []) (e.found % 2 ^ 64 ∷ []) e x =
      ap (λ (sp : Spot). stepped key program.target code base (loaded key program.target code base sp (low_of k) n x) (load_shared key program.target code base sp (virtual (low_of k)) n x numbers) numbers) at
      ∙ (ap (λ (pending : List PendingStore). effected key program.target code base (virtual (low_of k) ∷ []) ((H pending).found ∷ []) (H pending) x) (enters.moved.pending ∙ alike.pending)
      ∙ ap (λ (r : ℕ). effected key program.target code base (virtual (low_of k) ∷ []) (r ∷ []) e x) (sym (half_below e.found below).0)) in
      found_follows program accepted law code begins laid most base enough s c numbers alike here i known goes p ty address on Reads false rest size enters long x refl (omega arith) enters.moved act
      (record { seen = λ y ns. refl; missed = λ y. refl }) (record { seen = refl; expected = refl }) deed_is refl out

  pub store_shared_narrow : (ty : Ty) (v : Operand) (a : Addr) (align : Option ℕ) → (known : Known program s numbers (inst.Store ty v a align)) → traps program s (inst.Store ty v a align) ≡ false → (address : ℕ) → On (pointer_of program.source a s) ty address → (n : ℕ) → n ≡ bytes_of (width_of ty)
      → (size : ℕ) → Enter (record { silent = low_into 3 ty v ∷ []; last = line.Store (virtual 0) (virtual 3) n }) address size → length (piece_of program s (inst.Store ty v a align)) ≡ size
      → Follows key program code begins most base s c numbers (inst.Store ty v a align)
  unfolding operands_of deed_of access_of result_in seen_by expected_by private_step shared_step machine.seen_by missed_by
  store_shared_narrow ty v a align known goes address on n sized size enters long =
      let i = inst.Store ty v a align in
      let p = pointer_of program.source a s in
      let w = operand_of ty v s.values in
      let typed = operand_at program accepted law s known.typed i (standing.stands program accepted law s i known.next) 0 ty v refl in
      let hv = held_temps v s.values c.regs enters.at.regs enters.moved.temps (held program accepted law code begins laid most base s c numbers i known alike here 0 ty v refl) in
      let x = mid.gets 3 (w % 2 ^ 64) enters.at in
      let moved = moved_temp c enters.at 3 (w % 2 ^ 64) (omega arith) enters.moved in
      let elem_bits = type_bits (elements_of program.source s.function (Shared on.global)).elem in
      let rest : Straight = record { silent = low_into 3 ty v ∷ []; last = line.Store (virtual 0) (virtual 3) n } in
      let e = effect program accepted law code begins laid most base enough s c numbers alike here i known goes p ty address on (Writes w) true in
      let H : ℕ → ℕ → List PendingStore → Option MidDeed = λ bits number pending.
      effected key program.target code base [] [] (effect_of (manner_of_native (Writes number) true) (is_buffered program.target) bits on.global p.index (Writes number) pending numbers) x in
      let bits_n : 8 * n ≡ bits_of (width_of ty) = ap (λ (q : ℕ). 8 * q) sized in
      let cut : w % 2 ^ 64 % 2 ^ (8 * n) ≡ w = ap (λ (b : ℕ). w % 2 ^ 64 % 2 ^ b) (bits_n ∙ on.bits) ∙ cut_again program accepted law code begins laid most base enough s c numbers alike here w (type_bits ty) typed on.few in
      let bits : 8 * n ≡ elem_bits = bits_n ∙ (on.bits ∙ ap type_bits (sym on.elem)) in
      let at : spot_of code.globals base (x.regs 0) n ≡ Element on.global p.index = ap (λ (r : ℕ). spot_of code.globals base r n) enters.is_address ∙ (ap (spot_of code.globals base address) sized ∙ on.spot) in
      let act : act_by key program.target code base tag.Act rest.last x numbers ≡ Some (record { processor = record { place = x.place + 1; regs = x.regs; frame = x.frame; status = x.status; seen = None; pending = e.pending }; numbers = e.numbers; output = None }) =
      ap (λ (sp : Spot). stepped key program.target code base (stored key program.target code base sp (w % 2 ^ 64) n x) (store_shared key program.target code base sp (w % 2 ^ 64) n x numbers) numbers) at
      ∙ (ap (λ (r : ℕ). H (8 * n) r x.pending) cut
      ∙ (ap (λ (b : ℕ). H b w x.pending) bits
      ∙ ap (H elem_bits w) (moved.pending ∙ alike.pending))) in
      let t : SourceProcessor = goes_on (record s { pending = e.pending }) in
      let r = reaches program accepted law code begins laid most base enough s c numbers alike here i known rest address size enters long x
      (x, low_fetched program code base 3 ty v s.values enters.at hv, refl, refl) (omega arith) moved.status e x.regs x.frame act t
      (record { does = source_does program accepted law code begins laid most base enough s c numbers alike here i known goes p ty address on (Writes w) true Silent refl; status = refl; seen = refl; pending = refl; function = refl; block = refl; index = refl })
      (record {
        values = values_temps program.source s.function s.values c.regs x.regs moved.temps here.matches.values;
        allocas = subst (λ (fr : ℕ → ℕ). HoldsAllocas program.source s.function s.allocas fr) (sym moved.frame) here.matches.allocas;
      }) in
      calm_follows program accepted law code begins laid most base s c numbers i known alike here rest.last x (record { seen = refl; expected = refl }) (record { seen = λ y ns. refl; missed = λ y. refl }) r.ready r.line r.acts

  -- ---- one line that goes on
  module _ (i : Inst) (known : Known program s numbers i) (last : MidInst Virtual) (is : piece_of program s i ≡ straight s.function k (lone last)) where
    pub lone_follows : (pending : List PendingStore) (objects : ℕ → ℕ → ℕ) → act_by key program.target code base tag.Act last c numbers ≡ Some (record { processor = record { place = c.place + 1; regs = c.regs; frame = c.frame; status = c.status; seen = None; pending = pending }; numbers = objects; output = None })
        → deed program s k numbers i ≡ changed program s (goes_on (record s { pending = pending })) objects
        → (seen_by program i s numbers ≡ None) → (expected_by program i s ≡ None) → ((y : MidProcessor) (ns : ℕ → ℕ → ℕ) → machine.seen_by key program.target code base last y ns ≡ None) → ((y : MidProcessor) → missed_by key program.target code base last y ≡ None)
        → Follows key program code begins most base s c numbers i
    lone_follows pending objects act does blind calm sees misses =
        let has_it : HasAt code.lines c.place (straight s.function k (lone last)) = subst (HasAt code.lines c.place) is (has program accepted law code begins laid most base s c numbers i known alike here) in
        let line : slice_get code.lines c.place ≡ Some (acting s.function k last) = has_it.0 in
        let way = stops program.target code base s.function k last c most line in
        let d : MidDeed = record { processor = record { place = c.place + 1; regs = c.regs; frame = c.frame; status = c.status; seen = None; pending = pending }; numbers = objects; output = None } in
        let next = next_place program accepted law code begins laid most base s c numbers i known alike here in
        let leaves : Leaves program.source begins (changed program s (goes_on (record s { pending = pending })) objects) d = record {
          numbers = refl;
          output = refl;
          alike = record { status = alike.status; seen = refl; pending = refl };
          stands = λ r. record {
            place = place_is (length (piece_of program s i)) (begins s.function s.block (s.index + 1)) (ap length is) next;
            matches = record { values = here.matches.values; allocas = here.matches.allocas };
          };
          unseen = λ r. refl;
        } in
        calm_follows program accepted law code begins laid most base s c numbers i known alike here last c (record { seen = blind; expected = calm }) (record { seen = sees; missed = misses }) way line
        (record {
          does = d;
          is = ap (λ (u : MidProcessor). act_step key program.target code base u numbers) way ∙ (ap (λ (o : Option (Line Virtual)). act_if key program.target code base o c numbers) line ∙ act);
          leaves = subst (λ (t : Deed). Leaves program.source begins t d) (sym does) leaves;
        })
      where
        place_is : (n there : ℕ) → n ≡ 1 → there ≡ c.place + n → c.place + 1 ≡ there
        place_is n there e h = omega (arith, e, h)

  pub fence_follows : (single : Bool) (order : Order) → Known program s numbers (inst.Fence single order) → Follows key program code begins most base s c numbers (inst.Fence single order)
  unfolding piece is_unreachable pointers_of deed_of seen_by expected_by private_step shared_step machine.seen_by missed_by
  fence_follows true order known = lone_follows (inst.Fence true order) known line.Nop refl s.pending numbers (ap (λ (pending : List PendingStore). Some (record { processor = record { place = c.place + 1; regs = c.regs; frame = c.frame; status = c.status; seen = None; pending = pending }; numbers = numbers; output = None })) alike.pending) refl refl refl (λ y ns. refl) (λ y. refl)
  fence_follows false order known = by (is_seq_cst order) refl
    where
      by : (b : Bool) → is_seq_cst order ≡ b → Follows key program code begins most base s c numbers (inst.Fence false order)
      by true e =
          lone_follows (inst.Fence false order) known (line.Atomic op.Fence (width_of I64) order false (virtual 0) [] []) refl [] (written_out s.pending numbers)
          (ap (λ (b : Bool). machine.fenced key program.target code base b c numbers) e ∙ ap (λ (pending : List PendingStore). Some (record { processor = record { place = c.place + 1; regs = c.regs; frame = c.frame; status = c.status; seen = None; pending = [] }; numbers = written_out pending numbers; output = None })) alike.pending)
          (ap (λ (b : Bool). fenced program s b numbers) e) refl refl (λ y ns. refl) (λ y. refl)
      by false e =
          lone_follows (inst.Fence false order) known (line.Atomic op.Fence (width_of I64) order false (virtual 0) [] []) refl s.pending numbers
          (ap (λ (b : Bool). machine.fenced key program.target code base b c numbers) e ∙ ap (λ (pending : List PendingStore). Some (record { processor = record { place = c.place + 1; regs = c.regs; frame = c.frame; status = c.status; seen = None; pending = pending }; numbers = numbers; output = None })) alike.pending)
          (ap (λ (b : Bool). fenced program s b numbers) e) refl refl (λ y ns. refl) (λ y. refl)
