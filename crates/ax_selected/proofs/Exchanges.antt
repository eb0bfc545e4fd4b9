-- A compare-exchange of an element of a native global: an Act, a look and a miss.
use Rattle.std.proofs.Common.{◌≡◌, ℕ, ◌+◌, ◌*◌, ◌%◌, ◌^◌, ◌<◌, ◌≤◌, Bool, true, false, not, ◌||◌, List, [], ◌∷◌, ◌++◌, Option, Some, None, length, refl, sym, ap, ◌∙◌, subst, arith}
use Rattle.std.specs.Prelude.{if◌then◌else◌, nat_eq, slice_index_or}
use Rattle.std.proofs.lemmas.Bool.{true≢false}
use Rattle.ax_check.specs.Accepted.{IsAccepted}
use Rattle.ax_check.specs.Laws.{AtInstructions, IsSound}
use Rattle.ax_module.specs.declared.inst.Inst.{Inst}
use Rattle.ax_module.specs.declared.inst.Inst.TheVariants as inst
use Rattle.ax_module.specs.declared.operand.Addr.{Addr}
use Rattle.ax_module.specs.declared.operand.Operand.{Operand}
use Rattle.ax_module.specs.declared.types.Ty.{Ty}
use Rattle.ax_tags.specs.declared.tags.Tag.TheVariants as tag
use Rattle.ax_source_run.specs.SourceAccess.{Compares, Deed, FoundEqual, gets, is_expected, manner_of_native, put_at}
use Rattle.ax_source_run.specs.SourceEvent.{expected_by, native_number, number_at, number_of_next, seen_by}
use Rattle.ax_source_run.specs.SourceInstructions.{access_of, deed, deed_of, is_inside, is_unreachable, pointers_of, traps, width_of}
use Rattle.ax_source_run.specs.SourcePointers.{elements_of, pointer_of}
use Rattle.ax_source_run.specs.SourceState.{Object, Pair, PendingStore, Pointer, Shared, SourceProcessor, SourceProgram, SourceValue}
use Rattle.ax_source_run.specs.SourceValues.{number_of_flag, operand_of, type_bits}
use Rattle.ax_mid.specs.declared.code.Line.{Line}
use Rattle.ax_mid.specs.declared.code.Mid.{Mid}
use Rattle.ax_mid.specs.declared.instruction.MidInst.TheVariants as line
use Rattle.ax_mid.specs.declared.registers.Virtual.{Virtual}
use Rattle.ax_mid.specs.Machine as machine
use Rattle.ax_mid.specs.Machine.{Effect, act_by, argument, atomic_at, effect_of, effected, if_true, is_wide, line_at, missed_by, missed_if, number_at_spot, parts_of, private_step, results_of, seen_if, shared_step}
use Rattle.ax_mid.specs.Processor as mid
use Rattle.ax_mid.specs.Processor.{MidDeed, MidProcessor}
use Rattle.ax_mid.specs.Spots.{Element, Spot, spot_of}
use Rattle.ax_words.specs.declared.mark.Op.TheVariants as op
use Rattle.ax_words.specs.declared.order.Order.{Order}
use Rattle.ax_words.specs.declared.width.Width.{Width}
use Rattle.ax_words.specs.Width.{bits_of, bytes_of}
use Rattle.ax_rules.specs.declared.facts.Outcome.{Outcome}
use Rattle.ax_rules.specs.declared.facts.Outcome.TheVariants as outcome
use Rattle.ax_rules.specs.Facts.{outcome_of}
use Rattle.ax_rules.specs.Parts.{operands_of}
use Rattle.ax_typed.proofs.Accesses.{DeedIs}
use Rattle.ax_typed.proofs.Facts.{operand_at}
use Rattle.ax_typed.proofs.Standing as standing
use Rattle.ax_typed.specs.Typed.{IsOf, IsResultOf, IsTypedProcessor, outcome_in}
use Rattle.ax_target.specs.Targets.{is_buffered}
use Rattle.ax_selected.specs.Contract.{Alike, Follows, Known, LeavesIf, Stands, missed_processor, missed_to, site_in}
use Rattle.ax_selected.specs.Laid.{IsLaid, piece_of}
use Rattle.ax_selected.specs.Matches.{Matches}
use Rattle.ax_selected.specs.Operands.{low_into}
use Rattle.ax_selected.specs.Pieces.{Straight}
use Rattle.ax_selected.specs.Registers.{flag_of, key, low_of, virtual}
use Rattle.ax_selected.proofs.Computes.{held, held_temps, low_fetched, outcome_is}
use Rattle.ax_selected.proofs.Elements.{OnNative, cut_again, effect, source_does}
use Rattle.ax_selected.proofs.Entering.{Enters, Moved, moved_temp}
use Rattle.ax_selected.proofs.Reaching.{reaches}
use Rattle.ax_selected.proofs.Registers.{fits_64, pair_result, put_same, temp}

module _ (program : SourceProgram) (accepted : IsAccepted program) (law : AtInstructions IsSound) (code : Mid Virtual) (begins : ℕ → ℕ → ℕ → ℕ) (laid : IsLaid program code.lines begins) (most base : ℕ) (enough : 512 ≤ most) (s : SourceProcessor) (c : MidProcessor) (numbers : ℕ → ℕ → ℕ) (alike : Alike s c) (here : Stands program.source begins s c) where
  abbrev k : ℕ
  k = number_of_next program s

  module _ (weak : Bool) (a : Addr) (ty new_ty : Ty) (v w : Operand) (success failure order : Order) (align : ℕ) (known : Known program s numbers (inst.Cmpxchg weak a ty v new_ty w success failure align))
      (goes : traps program s (inst.Cmpxchg weak a ty v new_ty w success failure align) ≡ false) (address : ℕ)
      (on : OnNative program accepted law code begins laid most base enough s c numbers alike here (pointer_of program.source a s) ty address) (same : new_ty ≡ ty) where
    abbrev i : Inst
    i = inst.Cmpxchg weak a ty v new_ty w success failure align

    abbrev p : Pointer
    p = pointer_of program.source a s

    abbrev expected : ℕ
    expected = operand_of ty v s.values

    abbrev new : ℕ
    new = operand_of new_ty w s.values

    abbrev rest : Straight
    rest = record { silent = low_into 3 ty v ∷ low_into 5 new_ty w ∷ []; last = line.Atomic op.Cmpxchg (width_of ty) order weak (virtual 0) (virtual 3 ∷ virtual 5 ∷ []) (virtual (low_of k) ∷ virtual (flag_of k) ∷ []) }

    abbrev e : Effect
    e = effect program accepted law code begins laid most base enough s c numbers alike here i known goes p ty address on (Compares expected new) false

    module _ (size : ℕ) (enters : Enters program code begins laid most base enough s.function k c rest address size) (long : length (piece_of program s i) ≡ size) (deed_is : DeedIs program.source (deed program s k numbers i)) where
      abbrev y : MidProcessor
      y = mid.gets 3 (expected % 2 ^ 64) enters.at

      abbrev x : MidProcessor
      x = mid.gets 5 (new % 2 ^ 64) y

      moved : Moved c x
      moved = moved_temp c y 5 (new % 2 ^ 64) (omega arith) (moved_temp c enters.at 3 (expected % 2 ^ 64) (omega arith) enters.moved)

      abbrev wide : Width
      wide = width_of ty

      expected_typed : IsOf ty expected
      unfolding operands_of
      expected_typed = operand_at program accepted law s known.typed i (standing.stands program accepted law s i known.next) 0 ty v refl

      new_typed : IsOf ty new
      unfolding operands_of
      new_typed = subst (λ (t : Ty). IsOf t new) same (operand_at program accepted law s known.typed i (standing.stands program accepted law s i known.next) 1 new_ty w refl)

      abbrev args : List ℕ
      args = expected % 2 ^ 64 ∷ new % 2 ^ 64 ∷ []

      arg_is : (j n : ℕ) → IsOf ty n → slice_index_or args j 0 ≡ n % 2 ^ 64 → argument wide args j ≡ n
      arg_is j n typed at =
          ap (λ (b : Bool). if b then slice_index_or args (2 * j) 0 + 2 ^ 64 * slice_index_or args (2 * j + 1) 0 else slice_index_or args j 0 % 2 ^ bits_of wide) on.narrow
          ∙ (ap (λ (q : ℕ). q % 2 ^ bits_of wide) at ∙ (ap (λ (b : ℕ). n % 2 ^ 64 % 2 ^ b) on.bits ∙ cut_again program accepted law code begins laid most base enough s c numbers alike here n (type_bits ty) typed on.few))

      spot_is : spot_of code.globals base (x.regs 0) (bytes_of wide) ≡ Element on.global p.index
      spot_is = ap (λ (r : ℕ). spot_of code.globals base r (bytes_of wide)) enters.is_address ∙ on.spot

      abbrev flag : Bool
      flag = is_expected (Compares expected new) e.found

      abbrev regs : ℕ → ℕ
      regs = put_at (put_at x.regs (low_of k) (e.found % 2 ^ 64)) (flag_of k) (number_of_flag flag)

      act : act_by key program.target code base tag.Act rest.last x numbers ≡ Some (record { processor = record { place = x.place + 1; regs = regs; frame = x.frame; status = x.status; seen = None; pending = e.pending }; numbers = e.numbers; output = None })
      unfolding private_step shared_step
      act =
          let H : Bool → ℕ → ℕ → ℕ → List PendingStore → Option MidDeed = λ b bits old fresh pending.
          let f = effect_of (manner_of_native (Compares old fresh) false) (is_buffered program.target) bits on.global p.index (Compares old fresh) pending numbers in
          effected key program.target code base (virtual (low_of k) ∷ virtual (flag_of k) ∷ []) (parts_of b f.found ++ number_of_flag (is_expected (Compares old fresh) f.found) ∷ []) f x in
          let elem_bits = type_bits (elements_of program.source s.function (Shared on.global)).elem in
          let bits : bits_of wide ≡ elem_bits = on.bits ∙ ap type_bits (sym on.elem) in
          ap (λ (sp : Spot). atomic_at key program.target code base sp op.Cmpxchg wide order (virtual 3 ∷ virtual 5 ∷ []) (virtual (low_of k) ∷ virtual (flag_of k) ∷ []) x numbers) spot_is
          ∙ (ap (λ (b : Bool). H b (bits_of wide) (argument wide args 0) (argument wide args 1) x.pending) on.narrow
          ∙ (ap (λ (b : ℕ). H false b (argument wide args 0) (argument wide args 1) x.pending) bits
          ∙ (ap (λ (r : ℕ). H false elem_bits r (argument wide args 1) x.pending) (arg_is 0 expected expected_typed refl)
          ∙ (ap (λ (r : ℕ). H false elem_bits expected r x.pending) (arg_is 1 new new_typed refl)
          ∙ ap (H false elem_bits expected new) (moved.pending ∙ alike.pending)))))

      abbrev t : SourceProcessor
      t = gets k (Pair e.found flag) (record s { pending = e.pending })

      does : deed program s k numbers i ≡ record { processor = t; numbers = e.numbers; output = None }
      unfolding deed_of access_of
      does = source_does program accepted law code begins laid most base enough s c numbers alike here i known goes p ty address on (Compares expected new) false FoundEqual refl

      out : outcome_in program.source s.function k ≡ outcome.Pair ty
      unfolding outcome_of
      out = outcome_is program accepted law code begins laid most base s c numbers i known alike here

      below : e.found < 2 ^ 64
      below =
          let typed : IsTypedProcessor program.source t = subst (λ (d : Deed). IsTypedProcessor program.source d.processor) does deed_is.processor in
          let result = subst (λ (q : SourceValue). IsResultOf (outcome_in program.source s.function k) k q) (put_same s.values k (Pair e.found flag)) (typed.values k) in
          fits_64 e.found (type_bits ty) on.few ((subst (λ (o : Outcome). IsResultOf o k (Pair e.found flag)) out result) 0)

      -- the result (n, flag), after an Act or a miss
      holds : (n : ℕ) (b : Bool) (d : MidProcessor) → n < 2 ^ 64 → d.frame ≡ x.frame → d.regs ≡ put_at (put_at x.regs (low_of k) (n % 2 ^ 64)) (flag_of k) (number_of_flag b) → Matches program.source (gets k (Pair n b) s) d
      holds n b d fits frame is = pair_result program.source s c k here.matches d (frame ∙ moved.frame) ty n b x.regs out known.typed on.few fits moved.temps is

      inside : is_inside program s a ≡ true
      unfolding is_unreachable pointers_of
      inside = by (is_inside program s a) goes
        where
          by : (b : Bool) → (not b || false) ≡ false → b ≡ true
          by true h = refl
          by false h = absurd (true≢false h)

      look : (b : Bool) → machine.seen_by key program.target code base (line.Atomic op.Cmpxchg wide order b (virtual 0) (virtual 3 ∷ virtual 5 ∷ []) (virtual (low_of k) ∷ virtual (flag_of k) ∷ [])) x numbers ≡ seen_by program (inst.Cmpxchg b a ty v new_ty w success failure align) s numbers
      unfolding machine.seen_by seen_by
      look false = refl
      look true =
          ap (λ (sp : Spot). number_at_spot key program.target code base sp numbers) spot_is
          ∙ sym (ap (λ (b : Bool). if b then number_at program p numbers else None) inside ∙ (ap (λ (o : Object). native_number program o p.index numbers) on.object ∙ ap (λ (b : Bool). if b then Some (numbers on.global p.index) else None) on.native))

      abbrev Left : Option SourceProcessor → Option MidProcessor → Type 0
      Left o d = LeavesIf program.source begins o d

      abbrev missing : ℕ → Option MidProcessor
      missing n = Some (record x { place = x.place + 1; regs = put_at (put_at x.regs (low_of k) (n % 2 ^ 64)) (flag_of k) 0; seen = None })

      abbrev parted : Bool → ℕ → Option MidProcessor
      parted b n = Some (record x { place = x.place + 1; regs = machine.put_all key (virtual (low_of k) ∷ virtual (flag_of k) ∷ []) (parts_of b n ++ 0 ∷ []) x.regs; seen = None })

      module _ (place : x.place + 1 ≡ begins s.function s.block (s.index + 1)) where
        miss_to : (b : Bool) → Left (missed_to b (gets k (Pair expected false) s)) (if_true key program.target code base b (missing expected))
        miss_to false = tt
        miss_to true =
            let d : MidProcessor = record x { place = x.place + 1; regs = put_at (put_at x.regs (low_of k) (expected % 2 ^ 64)) (flag_of k) 0; seen = None } in
            let held = holds expected false d (fits_64 expected (type_bits ty) on.few expected_typed) refl refl in
            (record { status = moved.status ∙ alike.status; seen = refl; pending = moved.pending ∙ alike.pending }, record { place = place; matches = held })

        miss_with : (seen : Option ℕ) → Left (missed_processor program (Some expected) seen s) (machine.miss_with key program.target code base wide (virtual (low_of k) ∷ virtual (flag_of k) ∷ []) args seen x)
        miss_with None = tt
        miss_with (Some n) =
            subst (λ (q : ℕ). Left (missed_to (nat_eq expected n) (gets k (Pair expected false) s)) (if_true key program.target code base (nat_eq q n) (parted (is_wide wide) q))) (sym (arg_is 0 expected expected_typed refl))
            (subst (λ (b : Bool). Left (missed_to (nat_eq expected n) (gets k (Pair expected false) s)) (if_true key program.target code base (nat_eq expected n) (parted b expected))) (sym on.narrow) (miss_to (nat_eq expected n)))

        miss : (b : Bool) → Left (missed_processor program (expected_by program (inst.Cmpxchg b a ty v new_ty w success failure align) s) s.seen s)
            (missed_by key program.target code base (line.Atomic op.Cmpxchg wide order b (virtual 0) (virtual 3 ∷ virtual 5 ∷ []) (virtual (low_of k) ∷ virtual (flag_of k) ∷ [])) x)
        unfolding expected_by missed_by
        miss false = tt
        miss true = subst (λ (o : Option ℕ). Left (missed_processor program (Some expected) s.seen s) (machine.miss_with key program.target code base wide (virtual (low_of k) ∷ virtual (flag_of k) ∷ []) args o x)) (sym (moved.seen ∙ alike.seen)) (miss_with s.seen)

      pub exchange_follows : Follows key program code begins most base s c numbers i
      unfolding operands_of
      exchange_follows =
          let hv = held program accepted law code begins laid most base s c numbers i known alike here 0 ty v refl in
          let hw = held program accepted law code begins laid most base s c numbers i known alike here 1 new_ty w refl in
          let to_y = temp c.regs enters.at.regs 3 (expected % 2 ^ 64) (omega arith) enters.moved.temps in
          let matched = holds e.found flag (record { place = x.place + 1; regs = regs; frame = x.frame; status = x.status; seen = None; pending = e.pending }) below refl refl in
          let r = reaches program accepted law code begins laid most base enough s c numbers alike here i known rest address size enters long x
          (y, low_fetched program code base 3 ty v s.values enters.at (held_temps v s.values c.regs enters.at.regs enters.moved.temps hv), refl, (x, low_fetched program code base 5 new_ty w s.values y (held_temps w s.values c.regs y.regs to_y hw), refl, refl)) (omega arith) moved.status e regs x.frame act t
          (record { does = does; status = refl; seen = refl; pending = refl; function = refl; block = refl; index = refl }) (record { values = matched.values; allocas = matched.allocas }) in
          record {
            acts = r.acts;
            site = ap (λ (u : MidProcessor). site_in (line_at key program.target code base u)) r.ready ∙ ap site_in r.line;
            looks = ap (λ (u : MidProcessor). seen_if key program.target code base (line_at key program.target code base u) u numbers) r.ready ∙ (ap (λ (o : Option (Line Virtual)). seen_if key program.target code base o x numbers) r.line ∙ look weak);
            misses =
                let is = ap (λ (u : MidProcessor). missed_if key program.target code base (line_at key program.target code base u) u) r.ready ∙ ap (λ (o : Option (Line Virtual)). missed_if key program.target code base o x) r.line in
                subst (λ (o : Option MidProcessor). Left (missed_processor program (expected_by program i s) s.seen s) o) (sym is) (miss r.place weak);
          }
