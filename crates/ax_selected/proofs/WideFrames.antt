-- Plain loads and stores of elements of 16 bytes of allocas: 8 bytes of the frame, and then the other 8.
use Rattle.std.proofs.Common.{◌≡◌, ℕ, ◌+◌, ◌*◌, ◌/◌, ◌%◌, ◌^◌, ◌<◌, ◌≤◌, ◌⊎◌, inl, inr, Bool, true, false, [], ◌∷◌, Option, Some, None, length, refl, sym, ap, ◌∙◌, subst, arith}
use Rattle.std.specs.Prelude.{if◌then◌else◌, nat_eq}
use Rattle.std.proofs.Math.Nat.{mod-eq_of_lt}
use Rattle.ax_check.specs.Accepted.{IsAccepted}
use Rattle.ax_check.specs.Laws.{AtInstructions, IsSound}
use Rattle.ax_module.specs.declared.inst.Inst.{Inst}
use Rattle.ax_module.specs.declared.inst.Inst.TheVariants as inst
use Rattle.ax_module.specs.declared.operand.Addr.{Addr}
use Rattle.ax_module.specs.declared.operand.Operand.{Operand}
use Rattle.ax_module.specs.declared.types.Ty.{Ty}
use Rattle.ax_module.specs.declared.types.Ty.TheVariants.{I128}
use Rattle.ax_module.specs.Types.{type_bytes}
use Rattle.ax_tags.specs.declared.tags.Tag.TheVariants as tag
use Rattle.ax_source_run.specs.SourceAccess.{Access, Found, ObjectOperation, Reads, Reply, Silent, Writes, accessed, answered, element_set, gets, goes_on, object_done, private_done, put_at}
use Rattle.ax_source_run.specs.SourceEvent.{expected_by, number_of_next, seen_by}
use Rattle.ax_source_run.specs.SourceInstructions.{access_of, changed, deed, deed_of, result_in, traps}
use Rattle.ax_source_run.specs.SourcePointers.{elements_of, pointer_of}
use Rattle.ax_source_run.specs.SourceState.{Number, Object, Pointer, Private, SourceProcessor, SourceProgram}
use Rattle.ax_source_run.specs.SourceValues.{operand_of, type_bits}
use Rattle.ax_mid.specs.declared.code.Mid.{Mid}
use Rattle.ax_mid.specs.declared.instruction.MidInst.TheVariants as line
use Rattle.ax_mid.specs.declared.registers.Virtual.{Virtual}
use Rattle.ax_mid.specs.Machine as machine
use Rattle.ax_mid.specs.Machine.{Effect, act_by, loaded, missed_by, private_step, shared_step, stepped, stored}
use Rattle.ax_mid.specs.Processor as mid
use Rattle.ax_mid.specs.Processor.{MidDeed, MidProcessor}
use Rattle.ax_mid.specs.Spots.{Own, Spot, spot_of}
use Rattle.ax_words.specs.declared.source.SourceStatus.TheVariants.{Trapped}
use Rattle.ax_rules.specs.Facts.{outcome_of}
use Rattle.ax_rules.specs.Parts.{operands_of}
use Rattle.ax_store.specs.Bytes.{number_at, written}
use Rattle.ax_store.proofs.Numbers.{number_same, number_written, written_above, written_below}
use Rattle.ax_typed.proofs.Facts.{operand_at}
use Rattle.ax_typed.proofs.Standing as standing
use Rattle.ax_selected.specs.Addresses.{frame_offset}
use Rattle.ax_selected.specs.Contract.{Alike, Follows, Known, Stands}
use Rattle.ax_selected.specs.Laid.{IsLaid, piece_of}
use Rattle.ax_selected.specs.Matches.{HoldsAllocas, HoldsBytes}
use Rattle.ax_selected.specs.Operands.{high_into, low_into}
use Rattle.ax_selected.specs.Pieces.{Straight}
use Rattle.ax_selected.specs.Registers.{high_of, key, low_of, virtual}
use Rattle.ax_selected.specs.Selected.{next_half}
use Rattle.ax_selected.proofs.Computes.{calm_follows, held, outcome_is}
use Rattle.ax_selected.proofs.Entering.{Enters}
use Rattle.ax_selected.proofs.Frames.{allocas_put}
use Rattle.ax_selected.proofs.Reaching.{reaches}
use Rattle.ax_selected.proofs.Registers.{put_other, temp, values_temps, wide_loaded}
use Rattle.ax_selected.proofs.Straight.{runs_both}
use Rattle.ax_selected.proofs.Wide.{both, both_moved, both_runs}

module _ (program : SourceProgram) (accepted : IsAccepted program) (law : AtInstructions IsSound) (code : Mid Virtual) (begins : ℕ → ℕ → ℕ → ℕ) (laid : IsLaid program code.lines begins) (most base : ℕ) (enough : 512 ≤ most) (s : SourceProcessor) (c : MidProcessor) (numbers : ℕ → ℕ → ℕ) (alike : Alike s c) (here : Stands program.source begins s c) where
  abbrev k : ℕ
  k = number_of_next program s

  -- a pointer to an element of 16 bytes of an alloca, whose halves are the frame's
  pub record OnLarge (p : Pointer) (address : ℕ) : Type 0 where
    pub alloca : ℕ
    pub object : p.object ≡ Private alloca
    pub inside : p.index < (elements_of program.source s.function (Private alloca)).count
    pub elem : (elements_of program.source s.function (Private alloca)).elem ≡ I128
    pub first : spot_of code.globals base address 8 ≡ Own (frame_offset program.source s.function alloca + p.index * type_bytes (elements_of program.source s.function (Private alloca)).elem)
    pub second : spot_of code.globals base (address + 8) 8 ≡ Own (frame_offset program.source s.function alloca + p.index * type_bytes (elements_of program.source s.function (Private alloca)).elem + 8)
    pub small : address + 8 < 2 ^ 64

  module _ (i : Inst) (known : Known program s numbers i) (goes : traps program s i ≡ false) (p : Pointer) (address : ℕ) (on : OnLarge p address) (operation : ObjectOperation) (may : Bool) where
    abbrev access : Reply → Access
    access reply = record { pointer = p; operation = operation; may_wait = may; reply = reply }

    private_does : (reply : Reply) → deed_of program s k numbers i ≡ accessed program (access reply) k s numbers
        → deed program s k numbers i ≡ answered (access reply) k (private_done (type_bits (elements_of program.source s.function (Private on.alloca)).elem) on.alloca p.index operation s numbers)
    private_does reply is =
        ap (λ (b : Bool). if b then changed program s (record s { status = Trapped }) numbers else deed_of program s k numbers i) goes ∙ (is
        ∙ ap (λ (o : Object). answered (access reply) k (object_done program o p.index operation may s numbers)) on.object)

  pub load_large : (a : Addr) (align : Option ℕ) → (known : Known program s numbers (inst.Load I128 a align)) → traps program s (inst.Load I128 a align) ≡ false → (address : ℕ) → OnLarge (pointer_of program.source a s) address
      → (size : ℕ) → Enters program code begins laid most base enough s.function k c (record { silent = line.Load (virtual (low_of k)) (virtual 0) 8 ∷ next_half; last = line.Load (virtual (high_of k)) (virtual 1) 8 }) address size → length (piece_of program s (inst.Load I128 a align)) ≡ size
      → Follows key program code begins most base s c numbers (inst.Load I128 a align)
  unfolding outcome_of operands_of deed_of access_of result_in seen_by expected_by private_step shared_step machine.seen_by missed_by
  load_large a align known goes address on size enters long =
      let i = inst.Load I128 a align in
      let p = pointer_of program.source a s in
      let y = enters.at in
      let elem = (elements_of program.source s.function (Private on.alloca)).elem in
      let offset = frame_offset program.source s.function on.alloca + p.index * type_bytes elem in
      let n = s.allocas on.alloca p.index in
      let held_it : HoldsBytes true c.frame offset (type_bytes elem) n = subst (λ (b : Bool). HoldsBytes b c.frame offset (type_bytes elem) n) (ap (λ (t : Ty). nat_eq (type_bytes t) 16) on.elem) (here.matches.allocas on.alloca p.index on.inside) in
      let low = number_at y.frame offset 8 in
      let high = number_at y.frame (offset + 8) 8 in
      let is_low : low ≡ n % 2 ^ 64 = ap (λ (fr : ℕ → ℕ). number_at fr offset 8) enters.moved.frame ∙ held_it.0 in
      let is_high : high ≡ n / 2 ^ 64 = ap (λ (fr : ℕ → ℕ). number_at fr (offset + 8) 8) enters.moved.frame ∙ held_it.1 in
      let y1 = mid.gets (low_of k) low y in
      let y2 = mid.gets 1 8 y1 in
      let next = address + 8 in
      let x = mid.gets 1 next y2 in
      let at_0 : y1.regs 0 ≡ address = put_other y.regs (low_of k) low 0 (inl (omega arith)) ∙ enters.is_address in
      let whole : (address + 8) % 2 ^ 64 ≡ next = mod-eq_of_lt on.small in
      let one : private_step key program.target code base (line.Load (virtual (low_of k)) (virtual 0) 8) y ≡ Some y1 = ap (λ (sp : Spot). loaded key program.target code base sp (low_of k) 8 y) (ap (λ (r : ℕ). spot_of code.globals base r 8) enters.is_address ∙ on.first) in
      let rest : Straight = record { silent = line.Load (virtual (low_of k)) (virtual 0) 8 ∷ next_half; last = line.Load (virtual (high_of k)) (virtual 1) 8 } in
      let e : Effect = record { found = 0; pending = s.pending; numbers = numbers } in
      let regs = put_at x.regs (high_of k) high in
      let step : private_step key program.target code base rest.last x ≡ Some (mid.gets (high_of k) high x) = ap (λ (sp : Spot). loaded key program.target code base sp (high_of k) 8 x) on.second in
      let act : act_by key program.target code base tag.Act rest.last x numbers ≡ Some (record { processor = record { place = x.place + 1; regs = regs; frame = x.frame; status = x.status; seen = None; pending = s.pending }; numbers = numbers; output = None }) =
      ap (λ (o : Option MidProcessor). stepped key program.target code base o (shared_step key program.target code base rest.last x numbers) numbers) step
      ∙ ap (λ pending. Some (record { processor = record { place = x.place + 1; regs = regs; frame = x.frame; status = x.status; seen = None; pending = pending }; numbers = numbers; output = None })) (enters.moved.pending ∙ alike.pending) in
      let d : MidProcessor = record { place = x.place + 1; regs = regs; frame = x.frame; status = x.status; seen = None; pending = s.pending } in
      let matched = wide_loaded program.source s c k here.matches d enters.moved.frame I128 n low high 8 next y.regs (outcome_is program accepted law code begins laid most base s c numbers i known alike here) is_low is_high enters.moved.temps refl in
      let r = reaches program accepted law code begins laid most base enough s c numbers alike here i known rest address size enters long x
      (y1, one, refl, (y2, refl, refl, (x, ap (λ (q : ℕ). Some (mid.gets 1 ((q + 8) % 2 ^ 64) y2)) at_0 ∙ ap (λ (q : ℕ). Some (mid.gets 1 q y2)) whole, refl, refl))) (omega arith) enters.moved.status e regs x.frame act (gets k (Number n) s)
      (record { does = private_does i known goes p address on Reads false Found refl; status = refl; seen = refl; pending = refl; function = refl; block = refl; index = refl })
      (record { values = matched.values; allocas = matched.allocas }) in
      calm_follows program accepted law code begins laid most base s c numbers i known alike here rest.last x (record { seen = refl; expected = refl }) (record { seen = λ u ns. refl; missed = λ u. refl }) r.ready r.line r.acts

  -- ---- a store
  half_full : (n : ℕ) → n < 2 ^ 128 → (n % 2 ^ 64 % 2 ^ 64 ≡ n % 2 ^ 64) × (n / 2 ^ 64 % 2 ^ 64 ≡ n / 2 ^ 64)
  half_full n h = (omega arith, omega (arith, h))

  pub store_large : (v : Operand) (a : Addr) (align : Option ℕ) → (known : Known program s numbers (inst.Store I128 v a align)) → traps program s (inst.Store I128 v a align) ≡ false → (address : ℕ) → OnLarge (pointer_of program.source a s) address
      → (size : ℕ) → Enters program code begins laid most base enough s.function k c (record { silent = low_into 3 I128 v ∷ high_into 4 I128 v ∷ line.Store (virtual 0) (virtual 3) 8 ∷ next_half; last = line.Store (virtual 1) (virtual 4) 8 }) address size → length (piece_of program s (inst.Store I128 v a align)) ≡ size
      → Follows key program code begins most base s c numbers (inst.Store I128 v a align)
  unfolding operands_of deed_of access_of result_in seen_by expected_by private_step shared_step machine.seen_by missed_by
  store_large v a align known goes address on size enters long =
      let i = inst.Store I128 v a align in
      let p = pointer_of program.source a s in
      let n = operand_of I128 v s.values in
      let typed = operand_at program accepted law s known.typed i (standing.stands program accepted law s i known.next) 0 I128 v refl in
      let hv = held program accepted law code begins laid most base s c numbers i known alike here 0 I128 v refl in
      let y = both program accepted law code begins laid most base enough s c numbers alike here enters.at enters.moved I128 v hv in
      let moved = both_moved program accepted law code begins laid most base enough s c numbers alike here enters.at enters.moved I128 v hv in
      let elem = (elements_of program.source s.function (Private on.alloca)).elem in
      let offset = frame_offset program.source s.function on.alloca + p.index * type_bytes elem in
      let low = n % 2 ^ 64 in
      let high = n / 2 ^ 64 in
      let frame1 = written y.frame offset 8 low in
      let y1 : MidProcessor = record y { place = y.place + 1; frame = frame1 } in
      let y2 = mid.gets 1 8 y1 in
      let next = address + 8 in
      let x = mid.gets 1 next y2 in
      let frame2 = written frame1 (offset + 8) 8 high in
      let whole : (address + 8) % 2 ^ 64 ≡ next = mod-eq_of_lt on.small in
      let rest : Straight = record { silent = low_into 3 I128 v ∷ high_into 4 I128 v ∷ line.Store (virtual 0) (virtual 3) 8 ∷ next_half; last = line.Store (virtual 1) (virtual 4) 8 } in
      let one : private_step key program.target code base (line.Store (virtual 0) (virtual 3) 8) y ≡ Some y1 = ap (λ (sp : Spot). stored key program.target code base sp low 8 y) (ap (λ (r : ℕ). spot_of code.globals base r 8) enters.is_address ∙ on.first) in
      let e : Effect = record { found = 0; pending = s.pending; numbers = numbers } in
      let step : private_step key program.target code base rest.last x ≡ Some (record x { place = x.place + 1; frame = frame2 }) = ap (λ (sp : Spot). stored key program.target code base sp high 8 x) on.second in
      let act : act_by key program.target code base tag.Act rest.last x numbers ≡ Some (record { processor = record { place = x.place + 1; regs = x.regs; frame = frame2; status = x.status; seen = None; pending = s.pending }; numbers = numbers; output = None }) =
      ap (λ (o : Option MidProcessor). stepped key program.target code base o (shared_step key program.target code base rest.last x numbers) numbers) step
      ∙ ap (λ pending. Some (record { processor = record { place = x.place + 1; regs = x.regs; frame = frame2; status = x.status; seen = None; pending = pending }; numbers = numbers; output = None })) (moved.pending ∙ alike.pending) in
      let t : SourceProcessor = goes_on (record s { allocas = element_set on.alloca p.index n s.allocas }) in
      let temps = temp c.regs y2.regs 1 next (omega arith) (temp c.regs y.regs 1 8 (omega arith) moved.temps) in
      let sixteen : type_bytes elem ≡ 16 = ap type_bytes on.elem in
      let full = half_full n typed in
      let old : HoldsAllocas program.source s.function s.allocas y.frame = subst (λ (fr : ℕ → ℕ). HoldsAllocas program.source s.function s.allocas fr) (sym moved.frame) here.matches.allocas in
      let first : number_at frame2 offset 8 ≡ low = number_same frame2 frame1 offset 8 (λ j lt. written_below frame1 (offset + 8) 8 high (offset + j) (omega (arith, lt))) ∙ (number_written y.frame offset 8 low ∙ full.0) in
      let second : number_at frame2 (offset + 8) 8 ≡ high = number_written frame1 (offset + 8) 8 high ∙ full.1 in
      let holds : HoldsBytes (nat_eq (type_bytes elem) 16) frame2 offset (type_bytes elem) n = subst (λ (b : Bool). HoldsBytes b frame2 offset (type_bytes elem) n) (sym (ap (λ (t : Ty). nat_eq (type_bytes t) 16) on.elem)) (first, second) in
      let r = reaches program accepted law code begins laid most base enough s c numbers alike here i known rest address size enters long x
      (runs_both program.target code base (low_into 3 I128 v ∷ high_into 4 I128 v ∷ []) (line.Store (virtual 0) (virtual 3) 8 ∷ next_half) enters.at y x (both_runs program accepted law code begins laid most base enough s c numbers alike here enters.at enters.moved I128 v hv)
      (y1, one, refl, (y2, refl, refl, (x, ap (λ (q : ℕ). Some (mid.gets 1 ((q + 8) % 2 ^ 64) y2)) enters.is_address ∙ ap (λ (q : ℕ). Some (mid.gets 1 q y2)) whole, refl, refl)))) (omega arith) moved.status e x.regs frame2 act t
      (record { does = private_does i known goes p address on (Writes n) true Silent refl; status = refl; seen = refl; pending = refl; function = refl; block = refl; index = refl })
      (record {
        values = values_temps program.source s.function s.values c.regs x.regs temps here.matches.values;
        allocas = allocas_put program.source s.function s.allocas y.frame frame2 on.alloca p.index n old on.inside (λ q. outside y.frame offset (type_bytes elem) low high q sixteen) holds;
      }) in
      calm_follows program accepted law code begins laid most base s c numbers i known alike here rest.last x (record { seen = refl; expected = refl }) (record { seen = λ u ns. refl; missed = λ u. refl }) r.ready r.line r.acts
    where
      outside : (frame : ℕ → ℕ) (a size low high x : ℕ) → size ≡ 16 → (x < a) ⊎ (a + size ≤ x) → written (written frame a 8 low) (a + 8) 8 high x ≡ frame x
      outside frame a size low high x e (inl below) = written_below (written frame a 8 low) (a + 8) 8 high x (omega (arith, below)) ∙ written_below frame a 8 low x below
      outside frame a size low high x e (inr above) = written_above (written frame a 8 low) (a + 8) 8 high x (omega (arith, above, e)) ∙ written_above frame a 8 low x (omega (arith, above, e))
