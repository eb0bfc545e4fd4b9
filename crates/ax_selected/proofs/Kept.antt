-- The code of each access, and of each instruction, keeps its contract.
use Rattle.std.proofs.Common.{◌≡◌, ℕ, ◌≤◌, Bool, true, false, not, ◌&&◌, List, [], ◌∷◌, ◌++◌, map, Option, Some, None, length, refl, sym, ap, ◌∙◌, subst, arith, slice_get}
use Rattle.std.specs.Prelude.{if◌then◌else◌, nat_eq, nat_le, nat_lt}
use Rattle.std.specs.Cmp.Lexicographic.{pointwise}
use Rattle.std.proofs.lemmas.Bool.{and_from, and_parts, or_parts, true≢false, false≢true}
use Rattle.std.proofs.lemmas.Option.{same_Some}
use Rattle.ax_check.specs.Accepted.{IsAccepted}
use Rattle.ax_check.specs.Laws.{AtInstructions, IsSound}
use Rattle.ax_module.specs.declared.inst.Inst.{Inst}
use Rattle.ax_module.specs.declared.inst.Inst.TheVariants as inst
use Rattle.ax_module.specs.declared.module.Block.{Block}
use Rattle.ax_module.specs.declared.module.Module.{Module}
use Rattle.ax_module.specs.declared.operand.Addr.{Addr}
use Rattle.ax_module.specs.declared.operand.Arg.{Arg}
use Rattle.ax_module.specs.declared.operand.Arg.TheVariants as arg
use Rattle.ax_module.specs.declared.operand.Operand.{Operand}
use Rattle.ax_module.specs.declared.operand.Operand.TheVariants as operand
use Rattle.ax_module.specs.declared.types.Ty.{Ty}
use Rattle.ax_module.specs.declared.types.Ty.TheVariants.{I64, I128}
use Rattle.ax_module.specs.Kinds.{is_phi}
use Rattle.ax_module.specs.WellFormed.{is_inst}
use Rattle.ax_source_run.specs.SourceEvent.{inst_at, number_at, number_of_next, seen_by}
use Rattle.ax_source_run.specs.SourceInstructions.{insts_of_block, is_inside, is_out, is_seq_cst, is_unreachable, pointers_of, store_may_wait, width_of}
use Rattle.ax_source_run.specs.SourcePointers.{blocks_in, pointer_of}
use Rattle.ax_source_run.specs.SourceState.{SourceProcessor, SourceProgram}
use Rattle.ax_mid.specs.declared.code.Line.{Line}
use Rattle.ax_mid.specs.declared.code.Mid.{Mid}
use Rattle.ax_mid.specs.declared.instruction.MidInst.TheVariants as line
use Rattle.ax_mid.specs.declared.registers.Virtual.{Virtual}
use Rattle.ax_mid.specs.Machine.{may_wait}
use Rattle.ax_mid.specs.Processor.{MidProcessor}
use Rattle.ax_rules.specs.declared.facts.Outcome.{Outcome}
use Rattle.ax_rules.specs.declared.facts.Outcome.TheVariants as outcome
use Rattle.ax_rules.specs.declared.facts.FunctionScope.{FunctionScope}
use Rattle.ax_access_rules.specs.Alignment.{overstated, plain_locked}
use Rattle.ax_access_rules.specs.Allocas.{misplaced}
use Rattle.ax_rules.specs.Facts.{origin_of, outcome_at}
use Rattle.ax_rules.specs.Limits.{alignment_in}
use Rattle.ax_access_rules.specs.Mixed.{is_mixed_access, is_mixed_inst, is_pair_of}
use Rattle.ax_rules.specs.Parts.{operands_of, same_type, step_operands, step_types, types_of}
use Rattle.ax_rules.specs.Signatures.{arg_type, called, fits_out, is_some_routine, same_result, user_call}
use Rattle.ax_rules.specs.Width.{memory_types, returns_value}
use Rattle.ax_target.specs.declared.decision.Way.{Way}
use Rattle.ax_target.specs.declared.decision.Way.TheVariants.{Sized, Generic}
use Rattle.ax_target.specs.Decisions.{is_native, native_way}
use Rattle.ax_target.specs.Targets.{greatest_native}
use Rattle.ax_typed.proofs.Pointers.{outcomes}
use Rattle.ax_typed.proofs.Types.{ResultsFit, is_true, not_other, same_types}
use Rattle.ax_words.specs.declared.mark.Op.TheVariants as op
use Rattle.ax_words.specs.declared.operation.RmwOp.{RmwOp}
use Rattle.ax_words.specs.declared.order.Order.{Order}
use Rattle.ax_words.specs.Orders.{merged_order}
use Rattle.ax_words.specs.Width.{bytes_of}
use Rattle.ax_selected.specs.Addresses as addresses
use Rattle.ax_selected.specs.Addresses.{index_at, object_of}
use Rattle.ax_selected.specs.Contract.{Alike, Follows, Keeps, Known, Stands}
use Rattle.ax_selected.specs.Direct.{is_direct, is_direct_way}
use Rattle.ax_selected.specs.Laid.{IsLaid, piece_of}
use Rattle.ax_selected.specs.Operands.{high_into, is_narrow, low_into}
use Rattle.ax_selected.specs.Pieces.{Straight}
use Rattle.ax_selected.specs.Registers.{flag_of, high_of, key, low_of, virtual}
use Rattle.ax_selected.specs.Selected.{next_half, piece, through}
use Rattle.ax_selected.proofs.Accesses.{load_atomic_narrow, store_atomic_narrow}
use Rattle.ax_selected.proofs.Accessing.{Grounds, bit_at, deed_is, is, no_wide_step, odd_at, other_at, plain_is, reach_follows, scope, sound, stands_at, step_is}
use Rattle.ax_selected.proofs.Aligned.{direct_native, large_width, wide_is, width_bytes}
use Rattle.ax_selected.proofs.Branches.{IsEdge, branch_follows, joined_follows, jump_follows}
use Rattle.ax_selected.proofs.Choices.{extract_follows}
use Rattle.ax_selected.proofs.Edging.{edge_to, formed}
use Rattle.ax_selected.proofs.Elements.{update_narrow}
use Rattle.ax_selected.proofs.Ends.{alloca_follows, out_follows, ret_follows, unreachable_follows}
use Rattle.ax_selected.proofs.Entering.{Enters, number_of_address}
use Rattle.ax_selected.proofs.Exchanges.{exchange_follows}
use Rattle.ax_selected.proofs.Frames.{load_own, store_own}
use Rattle.ax_selected.proofs.Keeping.{aligned, atomic_large, atomic_on, bin_follows, by_origin, bytes_are, convert_follows, gep_follows, icmp_follows, large_on, no_alloca, no_large, not_mixed, own_on, plain_on, same_way, select_follows}
use Rattle.ax_selected.proofs.Lying.{le_true, lt_of}
use Rattle.ax_selected.proofs.Plains.{fence_follows, load_shared_narrow, store_shared_narrow}
use Rattle.ax_selected.proofs.Wide.{load_wide, store_wide, update_wide}
use Rattle.ax_selected.proofs.WideExchanges.{exchange_wide}
use Rattle.ax_selected.proofs.WideFrames.{load_large, store_large}

at_least : (n : ℕ) → nat_le n n ≡ true
at_least n = le_true n n (omega arith)

module _ (program : SourceProgram) (accepted : IsAccepted program) (law : AtInstructions IsSound) (fit : ResultsFit) (code : Mid Virtual) (begins : ℕ → ℕ → ℕ → ℕ) (laid : IsLaid program code.lines begins) (most base : ℕ) (enough : 512 ≤ most) (s : SourceProcessor) (c : MidProcessor) (numbers : ℕ → ℕ → ℕ) (alike : Alike s c) (here_is : Stands program.source begins s c) (grounds : Grounds program code base) where
  abbrev k : ℕ
  k = number_of_next program s

  abbrev m : Module
  m = program.source

  abbrev f : ℕ
  f = s.function

  abbrev Follow : Inst → Type 0
  Follow i = Follows key program code begins most base s c numbers i

  abbrev Knows : Inst → Type 0
  Knows i = Known program s numbers i

  abbrev into : Addr → Straight → List (Line Virtual)
  into a rest = through f k program (object_of program f a.base) (index_at program f a.base a.step) rest

  abbrev the_scope : (i : Inst) → Knows i → FunctionScope
  the_scope i known = scope program accepted law fit code begins laid most base enough s c numbers alike here_is grounds i known

  abbrev at_spot : (i : Inst) (known : Knows i) → IsSound program (is program accepted law fit code begins laid most base enough s c numbers alike here_is grounds i known).function (record { block = s.block; number = k; inst = i })
  at_spot i known = sound program accepted law fit code begins laid most base enough s c numbers alike here_is grounds i known

  abbrev address : Addr → ℕ
  address a = number_of_address program code begins laid most base enough f k c (object_of program f a.base) (pointer_of m a s).index

  native_by : (t : Ty) (align : ℕ) (w : Way) → is_direct_way (if is_native program.target (bytes_of (width_of t)) align then w else if nat_le (bytes_of (width_of t)) align then Sized else Generic) ≡ true → is_native program.target (bytes_of (width_of t)) align ≡ true
  native_by t align w h = direct_native (is_native program.target (bytes_of (width_of t)) align) (nat_le (bytes_of (width_of t)) align) w h

  -- ---- atomic accesses
  load_atomic : (t : Ty) (a : Addr) (order : Order) (align : ℕ) → Knows (inst.LoadAtomic t a order align) → Follow (inst.LoadAtomic t a order align)
  unfolding piece operands_of types_of memory_types pointers_of is_mixed_inst is_unreachable seen_by is_direct misplaced overstated alignment_in is_phi
  load_atomic t a order align known = by (is_narrow t) refl
    where
      by : (b : Bool) → is_narrow t ≡ b → Follow (inst.LoadAtomic t a order align)
      by true narrow =
          let i = inst.LoadAtomic t a order align in
          let fine = (plain_is program accepted law fit code begins laid most base enough s c numbers alike here_is grounds i known) in
          let step = step_is program accepted law fit code begins laid most base enough s c numbers alike here_is grounds i known a.step 0 2 (λ st e. ap (λ (x : Option (Ty × ℕ × Ty × Operand)). slice_get (step_operands x) 0) e) (λ st e. ap (λ (x : Option (Ty × ℕ × Ty × Operand)). slice_get (t ∷ step_types x) 2) e) (no_wide_step program accepted law fit code begins laid most base enough s c numbers alike here_is grounds i known a refl refl) in
          let rest : Straight = record { silent = []; last = line.Atomic op.Load (width_of t) order false (virtual 0) [] (virtual (low_of k) ∷ []) } in
          let native = native_by t align (native_way program.target op.Load (bytes_of (width_of t))) fine in
          reach_follows program accepted law fit code begins laid most base enough s c numbers alike here_is grounds i known a refl refl rest refl
          (ap (λ (b : Bool). into a (record { silent = []; last = line.Atomic op.Load (width_of t) order false (virtual 0) [] (if b then virtual (low_of k) ∷ [] else virtual (low_of k) ∷ virtual (high_of k) ∷ []) })) narrow) step (λ e. refl)
          (λ inside goes enters.
          let on = atomic_on program accepted law fit code begins laid most base enough s c numbers alike here_is grounds i known a refl refl step t (not_mixed program accepted law fit code begins laid most base enough s c numbers alike here_is grounds i known)
          (odd_at program accepted law fit code begins laid most base enough s c numbers alike here_is grounds i known 0 t refl) (other_at program accepted law fit code begins laid most base enough s c numbers alike here_is grounds i known 0 t refl) (bit_at program accepted law fit code begins laid most base enough s c numbers alike here_is grounds i known 0 t refl) goes inside align
          (no_alloca program accepted law fit code begins laid most base enough s c numbers alike here_is grounds i known a refl refl step) (at_spot i known).aligned (aligned program accepted law fit code begins laid most base enough s c numbers alike here_is grounds i known a refl refl step) native narrow in
          load_atomic_narrow program accepted law code begins laid most base enough s c numbers alike here_is t a order align known goes (address a) on (length (piece_of program s i)) enters refl (deed_is program accepted law fit code begins laid most base enough s c numbers alike here_is grounds i known))
      by false large =
          let i = inst.LoadAtomic t a order align in
          let fine = (plain_is program accepted law fit code begins laid most base enough s c numbers alike here_is grounds i known) in
          let step = step_is program accepted law fit code begins laid most base enough s c numbers alike here_is grounds i known a.step 0 2 (λ st e. ap (λ (x : Option (Ty × ℕ × Ty × Operand)). slice_get (step_operands x) 0) e) (λ st e. ap (λ (x : Option (Ty × ℕ × Ty × Operand)). slice_get (t ∷ step_types x) 2) e) (no_wide_step program accepted law fit code begins laid most base enough s c numbers alike here_is grounds i known a refl refl) in
          let rest : Straight = record { silent = []; last = line.Atomic op.Load (width_of t) order false (virtual 0) [] (virtual (low_of k) ∷ virtual (high_of k) ∷ []) } in
          let native = native_by t align (native_way program.target op.Load (bytes_of (width_of t))) fine in
          reach_follows program accepted law fit code begins laid most base enough s c numbers alike here_is grounds i known a refl refl rest refl
          (ap (λ (b : Bool). into a (record { silent = []; last = line.Atomic op.Load (width_of t) order false (virtual 0) [] (if b then virtual (low_of k) ∷ [] else virtual (low_of k) ∷ virtual (high_of k) ∷ []) })) large) step (λ e. refl)
          (λ inside goes enters.
          let on = atomic_large program accepted law fit code begins laid most base enough s c numbers alike here_is grounds i known a refl refl step t (not_mixed program accepted law fit code begins laid most base enough s c numbers alike here_is grounds i known)
          (odd_at program accepted law fit code begins laid most base enough s c numbers alike here_is grounds i known 0 t refl) (other_at program accepted law fit code begins laid most base enough s c numbers alike here_is grounds i known 0 t refl) (bit_at program accepted law fit code begins laid most base enough s c numbers alike here_is grounds i known 0 t refl) goes inside align
          (no_alloca program accepted law fit code begins laid most base enough s c numbers alike here_is grounds i known a refl refl step) (at_spot i known).aligned (aligned program accepted law fit code begins laid most base enough s c numbers alike here_is grounds i known a refl refl step) native (large_width t (odd_at program accepted law fit code begins laid most base enough s c numbers alike here_is grounds i known 0 t refl) large) in
          load_wide program accepted law code begins laid most base enough s c numbers alike here_is t a order align known goes (address a) on (length (piece_of program s i)) enters refl)

  store_atomic : (t : Ty) (v : Operand) (a : Addr) (order : Order) (align : ℕ) → Knows (inst.StoreAtomic t v a order align) → Follow (inst.StoreAtomic t v a order align)
  unfolding piece operands_of types_of memory_types pointers_of is_mixed_inst is_unreachable seen_by is_direct misplaced overstated alignment_in is_phi
  store_atomic t v a order align known = by (is_narrow t) refl
    where
      by : (b : Bool) → is_narrow t ≡ b → Follow (inst.StoreAtomic t v a order align)
      by true narrow =
          let i = inst.StoreAtomic t v a order align in
          let fine = (plain_is program accepted law fit code begins laid most base enough s c numbers alike here_is grounds i known) in
          let step = step_is program accepted law fit code begins laid most base enough s c numbers alike here_is grounds i known a.step 1 2 (λ st e. ap (λ (x : Option (Ty × ℕ × Ty × Operand)). slice_get ((t, v) ∷ step_operands x) 1) e) (λ st e. ap (λ (x : Option (Ty × ℕ × Ty × Operand)). slice_get (t ∷ step_types x) 2) e) (no_wide_step program accepted law fit code begins laid most base enough s c numbers alike here_is grounds i known a refl refl) in
          let rest : Straight = record { silent = low_into 3 t v ∷ []; last = line.Atomic op.Store (width_of t) order false (virtual 0) (virtual 3 ∷ []) [] } in
          let bytes = bytes_of (width_of t) in
          let native = native_by t align (native_way program.target op.Store bytes) fine in
          let own = and_from (nat_le bytes (greatest_native program.target)) (nat_le bytes bytes) (and_parts (nat_le bytes (greatest_native program.target)) (nat_le bytes align) native).0 (at_least bytes) in
          let same : store_may_wait program.target t order align ≡ may_wait program.target (width_of t) order = ap (λ (b : Bool). not (is_seq_cst order) && b) (same_way (is_native program.target bytes align) (nat_le bytes align) (is_native program.target bytes bytes) (nat_le bytes bytes) (native_way program.target op.Store bytes) native own) in
          reach_follows program accepted law fit code begins laid most base enough s c numbers alike here_is grounds i known a refl refl rest refl
          (ap (λ (b : Bool). into a (record { silent = if b then low_into 3 t v ∷ [] else low_into 3 t v ∷ high_into 4 t v ∷ []; last = line.Atomic op.Store (width_of t) order false (virtual 0) (if b then virtual 3 ∷ [] else virtual 3 ∷ virtual 4 ∷ []) [] })) narrow) step (λ e. refl)
          (λ inside goes enters.
          let on = atomic_on program accepted law fit code begins laid most base enough s c numbers alike here_is grounds i known a refl refl step t (not_mixed program accepted law fit code begins laid most base enough s c numbers alike here_is grounds i known)
          (odd_at program accepted law fit code begins laid most base enough s c numbers alike here_is grounds i known 0 t refl) (other_at program accepted law fit code begins laid most base enough s c numbers alike here_is grounds i known 0 t refl) (bit_at program accepted law fit code begins laid most base enough s c numbers alike here_is grounds i known 0 t refl) goes inside align
          (no_alloca program accepted law fit code begins laid most base enough s c numbers alike here_is grounds i known a refl refl step) (at_spot i known).aligned (aligned program accepted law fit code begins laid most base enough s c numbers alike here_is grounds i known a refl refl step) native narrow in
          store_atomic_narrow program accepted law code begins laid most base enough s c numbers alike here_is t v a order align known goes (address a) on same (length (piece_of program s i)) enters refl)
      by false large =
          let i = inst.StoreAtomic t v a order align in
          let fine = (plain_is program accepted law fit code begins laid most base enough s c numbers alike here_is grounds i known) in
          let step = step_is program accepted law fit code begins laid most base enough s c numbers alike here_is grounds i known a.step 1 2 (λ st e. ap (λ (x : Option (Ty × ℕ × Ty × Operand)). slice_get ((t, v) ∷ step_operands x) 1) e) (λ st e. ap (λ (x : Option (Ty × ℕ × Ty × Operand)). slice_get (t ∷ step_types x) 2) e) (no_wide_step program accepted law fit code begins laid most base enough s c numbers alike here_is grounds i known a refl refl) in
          let rest : Straight = record { silent = low_into 3 t v ∷ high_into 4 t v ∷ []; last = line.Atomic op.Store (width_of t) order false (virtual 0) (virtual 3 ∷ virtual 4 ∷ []) [] } in
          let bytes = bytes_of (width_of t) in
          let native = native_by t align (native_way program.target op.Store bytes) fine in
          let own = and_from (nat_le bytes (greatest_native program.target)) (nat_le bytes bytes) (and_parts (nat_le bytes (greatest_native program.target)) (nat_le bytes align) native).0 (at_least bytes) in
          let same : store_may_wait program.target t order align ≡ may_wait program.target (width_of t) order = ap (λ (b : Bool). not (is_seq_cst order) && b) (same_way (is_native program.target bytes align) (nat_le bytes align) (is_native program.target bytes bytes) (nat_le bytes bytes) (native_way program.target op.Store bytes) native own) in
          reach_follows program accepted law fit code begins laid most base enough s c numbers alike here_is grounds i known a refl refl rest refl
          (ap (λ (b : Bool). into a (record { silent = if b then low_into 3 t v ∷ [] else low_into 3 t v ∷ high_into 4 t v ∷ []; last = line.Atomic op.Store (width_of t) order false (virtual 0) (if b then virtual 3 ∷ [] else virtual 3 ∷ virtual 4 ∷ []) [] })) large) step (λ e. refl)
          (λ inside goes enters.
          let on = atomic_large program accepted law fit code begins laid most base enough s c numbers alike here_is grounds i known a refl refl step t (not_mixed program accepted law fit code begins laid most base enough s c numbers alike here_is grounds i known)
          (odd_at program accepted law fit code begins laid most base enough s c numbers alike here_is grounds i known 0 t refl) (other_at program accepted law fit code begins laid most base enough s c numbers alike here_is grounds i known 0 t refl) (bit_at program accepted law fit code begins laid most base enough s c numbers alike here_is grounds i known 0 t refl) goes inside align
          (no_alloca program accepted law fit code begins laid most base enough s c numbers alike here_is grounds i known a refl refl step) (at_spot i known).aligned (aligned program accepted law fit code begins laid most base enough s c numbers alike here_is grounds i known a refl refl step) native (large_width t (odd_at program accepted law fit code begins laid most base enough s c numbers alike here_is grounds i known 0 t refl) large) in
          store_wide program accepted law code begins laid most base enough s c numbers alike here_is t v a order align known goes (address a) on same (length (piece_of program s i)) enters refl)

  update : (o : RmwOp) (a : Addr) (t : Ty) (v : Operand) (order : Order) (align : ℕ) → Knows (inst.Rmw o a t v order align) → Follow (inst.Rmw o a t v order align)
  unfolding piece operands_of types_of memory_types pointers_of is_mixed_inst is_unreachable seen_by is_direct misplaced overstated alignment_in is_phi
  update o a t v order align known = by (is_narrow t) refl
    where
      by : (b : Bool) → is_narrow t ≡ b → Follow (inst.Rmw o a t v order align)
      by true narrow =
          let i = inst.Rmw o a t v order align in
          let fine = (plain_is program accepted law fit code begins laid most base enough s c numbers alike here_is grounds i known) in
          let step = step_is program accepted law fit code begins laid most base enough s c numbers alike here_is grounds i known a.step 1 2 (λ st e. ap (λ (x : Option (Ty × ℕ × Ty × Operand)). slice_get ((t, v) ∷ step_operands x) 1) e) (λ st e. ap (λ (x : Option (Ty × ℕ × Ty × Operand)). slice_get (t ∷ step_types x) 2) e) (no_wide_step program accepted law fit code begins laid most base enough s c numbers alike here_is grounds i known a refl refl) in
          let rest : Straight = record { silent = low_into 3 t v ∷ []; last = line.Atomic (op.Rmw o) (width_of t) order false (virtual 0) (virtual 3 ∷ []) (virtual (low_of k) ∷ []) } in
          let native = native_by t align (native_way program.target (op.Rmw o) (bytes_of (width_of t))) fine in
          reach_follows program accepted law fit code begins laid most base enough s c numbers alike here_is grounds i known a refl refl rest refl
          (ap (λ (b : Bool). into a (record { silent = if b then low_into 3 t v ∷ [] else low_into 3 t v ∷ high_into 4 t v ∷ []; last = line.Atomic (op.Rmw o) (width_of t) order false (virtual 0) (if b then virtual 3 ∷ [] else virtual 3 ∷ virtual 4 ∷ []) (if b then virtual (low_of k) ∷ [] else virtual (low_of k) ∷ virtual (high_of k) ∷ []) })) narrow) step (λ e. refl)
          (λ inside goes enters.
          let on = atomic_on program accepted law fit code begins laid most base enough s c numbers alike here_is grounds i known a refl refl step t (not_mixed program accepted law fit code begins laid most base enough s c numbers alike here_is grounds i known)
          (odd_at program accepted law fit code begins laid most base enough s c numbers alike here_is grounds i known 0 t refl) (other_at program accepted law fit code begins laid most base enough s c numbers alike here_is grounds i known 0 t refl) (bit_at program accepted law fit code begins laid most base enough s c numbers alike here_is grounds i known 0 t refl) goes inside align
          (no_alloca program accepted law fit code begins laid most base enough s c numbers alike here_is grounds i known a refl refl step) (at_spot i known).aligned (aligned program accepted law fit code begins laid most base enough s c numbers alike here_is grounds i known a refl refl step) native narrow in
          update_narrow program accepted law code begins laid most base enough s c numbers alike here_is o a t v order align known goes (address a) on (length (piece_of program s i)) enters refl (deed_is program accepted law fit code begins laid most base enough s c numbers alike here_is grounds i known))
      by false large =
          let i = inst.Rmw o a t v order align in
          let fine = (plain_is program accepted law fit code begins laid most base enough s c numbers alike here_is grounds i known) in
          let step = step_is program accepted law fit code begins laid most base enough s c numbers alike here_is grounds i known a.step 1 2 (λ st e. ap (λ (x : Option (Ty × ℕ × Ty × Operand)). slice_get ((t, v) ∷ step_operands x) 1) e) (λ st e. ap (λ (x : Option (Ty × ℕ × Ty × Operand)). slice_get (t ∷ step_types x) 2) e) (no_wide_step program accepted law fit code begins laid most base enough s c numbers alike here_is grounds i known a refl refl) in
          let rest : Straight = record { silent = low_into 3 t v ∷ high_into 4 t v ∷ []; last = line.Atomic (op.Rmw o) (width_of t) order false (virtual 0) (virtual 3 ∷ virtual 4 ∷ []) (virtual (low_of k) ∷ virtual (high_of k) ∷ []) } in
          let native = native_by t align (native_way program.target (op.Rmw o) (bytes_of (width_of t))) fine in
          reach_follows program accepted law fit code begins laid most base enough s c numbers alike here_is grounds i known a refl refl rest refl
          (ap (λ (b : Bool). into a (record { silent = if b then low_into 3 t v ∷ [] else low_into 3 t v ∷ high_into 4 t v ∷ []; last = line.Atomic (op.Rmw o) (width_of t) order false (virtual 0) (if b then virtual 3 ∷ [] else virtual 3 ∷ virtual 4 ∷ []) (if b then virtual (low_of k) ∷ [] else virtual (low_of k) ∷ virtual (high_of k) ∷ []) })) large) step (λ e. refl)
          (λ inside goes enters.
          let on = atomic_large program accepted law fit code begins laid most base enough s c numbers alike here_is grounds i known a refl refl step t (not_mixed program accepted law fit code begins laid most base enough s c numbers alike here_is grounds i known)
          (odd_at program accepted law fit code begins laid most base enough s c numbers alike here_is grounds i known 0 t refl) (other_at program accepted law fit code begins laid most base enough s c numbers alike here_is grounds i known 0 t refl) (bit_at program accepted law fit code begins laid most base enough s c numbers alike here_is grounds i known 0 t refl) goes inside align
          (no_alloca program accepted law fit code begins laid most base enough s c numbers alike here_is grounds i known a refl refl step) (at_spot i known).aligned (aligned program accepted law fit code begins laid most base enough s c numbers alike here_is grounds i known a refl refl step) native (large_width t (odd_at program accepted law fit code begins laid most base enough s c numbers alike here_is grounds i known 0 t refl) large) in
          update_wide program accepted law code begins laid most base enough s c numbers alike here_is o a t v order align known goes (address a) on (length (piece_of program s i)) enters refl)

  blind_outside : (weak : Bool) (a : Addr) (t : Ty) (v : Operand) (u : Ty) (w : Operand) (success failure : Order) (align : ℕ) → is_inside program s a ≡ false → seen_by program (inst.Cmpxchg weak a t v u w success failure align) s numbers ≡ None
  unfolding seen_by
  blind_outside true a t v u w success failure align e = ap (λ (b : Bool). if b then number_at program (pointer_of program.source a s) numbers else None) e
  blind_outside false a t v u w success failure align e = refl

  exchange : (weak : Bool) (a : Addr) (t : Ty) (v : Operand) (u : Ty) (w : Operand) (success failure : Order) (align : ℕ) → Knows (inst.Cmpxchg weak a t v u w success failure align) → Follow (inst.Cmpxchg weak a t v u w success failure align)
  unfolding piece operands_of types_of memory_types pointers_of is_mixed_inst is_unreachable is_direct misplaced overstated alignment_in is_phi
  exchange weak a t v u w success failure align known = by (is_narrow t) refl
    where
      by : (b : Bool) → is_narrow t ≡ b → Follow (inst.Cmpxchg weak a t v u w success failure align)
      by true narrow =
          let i = inst.Cmpxchg weak a t v u w success failure align in
          let order = merged_order success failure in
          let fine = (plain_is program accepted law fit code begins laid most base enough s c numbers alike here_is grounds i known) in
          let step = step_is program accepted law fit code begins laid most base enough s c numbers alike here_is grounds i known a.step 2 3 (λ st e. ap (λ (x : Option (Ty × ℕ × Ty × Operand)). slice_get ((t, v) ∷ (u, w) ∷ step_operands x) 2) e) (λ st e. ap (λ (x : Option (Ty × ℕ × Ty × Operand)). slice_get (t ∷ u ∷ step_types x) 3) e) (no_wide_step program accepted law fit code begins laid most base enough s c numbers alike here_is grounds i known a refl refl) in
          let mixed = or_parts (is_mixed_access (the_scope i known) t a) (not (same_type t u)) (not_mixed program accepted law fit code begins laid most base enough s c numbers alike here_is grounds i known) in
          let same : u ≡ t = sym (not_other t u mixed.1) in
          let rest : Straight = record { silent = low_into 3 t v ∷ low_into 5 u w ∷ []; last = line.Atomic op.Cmpxchg (width_of t) order weak (virtual 0) (virtual 3 ∷ virtual 5 ∷ []) (virtual (low_of k) ∷ virtual (flag_of k) ∷ []) } in
          let native = native_by t align (native_way program.target op.Cmpxchg (bytes_of (width_of t))) fine in
          let body : Bool → Bool → Straight = λ b d. record {
            silent = (if b then low_into 3 t v ∷ [] else low_into 3 t v ∷ high_into 4 t v ∷ []) ++ (if d then low_into 5 u w ∷ [] else low_into 5 u w ∷ high_into 6 u w ∷ []);
            last = line.Atomic op.Cmpxchg (width_of t) order weak (virtual 0) ((if b then virtual 3 ∷ [] else virtual 3 ∷ virtual 4 ∷ []) ++ (if b then virtual 5 ∷ [] else virtual 5 ∷ virtual 6 ∷ [])) ((if b then virtual (low_of k) ∷ [] else virtual (low_of k) ∷ virtual (high_of k) ∷ []) ++ virtual (flag_of k) ∷ []);
          } in
          reach_follows program accepted law fit code begins laid most base enough s c numbers alike here_is grounds i known a refl refl rest refl
          (ap (λ (b : Bool). into a (body b (is_narrow u))) narrow ∙ ap (λ (d : Bool). into a (body true d)) (ap is_narrow same ∙ narrow)) step (blind_outside weak a t v u w success failure align)
          (λ inside goes enters.
          let on = atomic_on program accepted law fit code begins laid most base enough s c numbers alike here_is grounds i known a refl refl step t mixed.0
          (odd_at program accepted law fit code begins laid most base enough s c numbers alike here_is grounds i known 0 t refl) (other_at program accepted law fit code begins laid most base enough s c numbers alike here_is grounds i known 0 t refl) (bit_at program accepted law fit code begins laid most base enough s c numbers alike here_is grounds i known 0 t refl) goes inside align
          (no_alloca program accepted law fit code begins laid most base enough s c numbers alike here_is grounds i known a refl refl step) (at_spot i known).aligned (aligned program accepted law fit code begins laid most base enough s c numbers alike here_is grounds i known a refl refl step) native narrow in
          exchange_follows program accepted law code begins laid most base enough s c numbers alike here_is weak a t u v w success failure order align known goes (address a) on same (length (piece_of program s i)) enters refl (deed_is program accepted law fit code begins laid most base enough s c numbers alike here_is grounds i known))
      by false large =
          let i = inst.Cmpxchg weak a t v u w success failure align in
          let order = merged_order success failure in
          let fine = (plain_is program accepted law fit code begins laid most base enough s c numbers alike here_is grounds i known) in
          let step = step_is program accepted law fit code begins laid most base enough s c numbers alike here_is grounds i known a.step 2 3 (λ st e. ap (λ (x : Option (Ty × ℕ × Ty × Operand)). slice_get ((t, v) ∷ (u, w) ∷ step_operands x) 2) e) (λ st e. ap (λ (x : Option (Ty × ℕ × Ty × Operand)). slice_get (t ∷ u ∷ step_types x) 3) e) (no_wide_step program accepted law fit code begins laid most base enough s c numbers alike here_is grounds i known a refl refl) in
          let mixed = or_parts (is_mixed_access (the_scope i known) t a) (not (same_type t u)) (not_mixed program accepted law fit code begins laid most base enough s c numbers alike here_is grounds i known) in
          let same : u ≡ t = sym (not_other t u mixed.1) in
          let rest : Straight = record { silent = low_into 3 t v ∷ high_into 4 t v ∷ low_into 5 u w ∷ high_into 6 u w ∷ []; last = line.Atomic op.Cmpxchg (width_of t) order weak (virtual 0) (virtual 3 ∷ virtual 4 ∷ virtual 5 ∷ virtual 6 ∷ []) (virtual (low_of k) ∷ virtual (high_of k) ∷ virtual (flag_of k) ∷ []) } in
          let native = native_by t align (native_way program.target op.Cmpxchg (bytes_of (width_of t))) fine in
          let body : Bool → Bool → Straight = λ b d. record {
            silent = (if b then low_into 3 t v ∷ [] else low_into 3 t v ∷ high_into 4 t v ∷ []) ++ (if d then low_into 5 u w ∷ [] else low_into 5 u w ∷ high_into 6 u w ∷ []);
            last = line.Atomic op.Cmpxchg (width_of t) order weak (virtual 0) ((if b then virtual 3 ∷ [] else virtual 3 ∷ virtual 4 ∷ []) ++ (if b then virtual 5 ∷ [] else virtual 5 ∷ virtual 6 ∷ [])) ((if b then virtual (low_of k) ∷ [] else virtual (low_of k) ∷ virtual (high_of k) ∷ []) ++ virtual (flag_of k) ∷ []);
          } in
          reach_follows program accepted law fit code begins laid most base enough s c numbers alike here_is grounds i known a refl refl rest refl
          (ap (λ (b : Bool). into a (body b (is_narrow u))) large ∙ ap (λ (d : Bool). into a (body false d)) (ap is_narrow same ∙ large)) step (blind_outside weak a t v u w success failure align)
          (λ inside goes enters.
          let on = atomic_large program accepted law fit code begins laid most base enough s c numbers alike here_is grounds i known a refl refl step t mixed.0
          (odd_at program accepted law fit code begins laid most base enough s c numbers alike here_is grounds i known 0 t refl) (other_at program accepted law fit code begins laid most base enough s c numbers alike here_is grounds i known 0 t refl) (bit_at program accepted law fit code begins laid most base enough s c numbers alike here_is grounds i known 0 t refl) goes inside align
          (no_alloca program accepted law fit code begins laid most base enough s c numbers alike here_is grounds i known a refl refl step) (at_spot i known).aligned (aligned program accepted law fit code begins laid most base enough s c numbers alike here_is grounds i known a refl refl step) native (large_width t (odd_at program accepted law fit code begins laid most base enough s c numbers alike here_is grounds i known 0 t refl) large) in
          exchange_wide program accepted law code begins laid most base enough s c numbers alike here_is weak a t u v w success failure order align known goes (address a) on same (length (piece_of program s i)) enters refl)

  -- ---- plain accesses
  load_i128 : (a : Addr) (align : Option ℕ) → Knows (inst.Load I128 a align) → Follow (inst.Load I128 a align)
  unfolding piece operands_of types_of memory_types pointers_of is_mixed_inst is_unreachable seen_by plain_locked is_phi
  load_i128 a align known =
      let i = inst.Load I128 a align in
      let step = step_is program accepted law fit code begins laid most base enough s c numbers alike here_is grounds i known a.step 0 2 (λ st e. ap (λ (x : Option (Ty × ℕ × Ty × Operand)). slice_get (step_operands x) 0) e) (λ st e. ap (λ (x : Option (Ty × ℕ × Ty × Operand)). slice_get (I128 ∷ step_types x) 2) e) (no_wide_step program accepted law fit code begins laid most base enough s c numbers alike here_is grounds i known a refl refl) in
      let rest : Straight = record { silent = line.Load (virtual (low_of k)) (virtual 0) 8 ∷ next_half; last = line.Load (virtual (high_of k)) (virtual 1) 8 } in
      let mixed = not_mixed program accepted law fit code begins laid most base enough s c numbers alike here_is grounds i known in
      reach_follows program accepted law fit code begins laid most base enough s c numbers alike here_is grounds i known a refl refl rest refl refl step (λ e. refl)
      (λ inside goes enters.
      by_origin program accepted law fit code begins laid most base enough s c numbers alike here_is grounds i known a refl refl step I128 mixed refl refl refl goes inside (origin_of (the_scope i known) a.base) refl (Follow i)
      (λ g o. absurd (no_large program accepted law fit code begins laid most base enough s c numbers alike here_is grounds i known a refl refl step I128 mixed refl refl refl goes inside g o (at_spot i known).plain refl))
      (λ r o. load_large program accepted law code begins laid most base enough s c numbers alike here_is a align known goes (address a) (large_on program accepted law fit code begins laid most base enough s c numbers alike here_is grounds i known a refl refl step I128 mixed refl refl refl goes inside refl r o) (length (piece_of program s i)) enters refl))

  store_i128 : (v : Operand) (a : Addr) (align : Option ℕ) → Knows (inst.Store I128 v a align) → Follow (inst.Store I128 v a align)
  unfolding piece operands_of types_of memory_types pointers_of is_mixed_inst is_unreachable seen_by plain_locked is_phi
  store_i128 v a align known =
      let i = inst.Store I128 v a align in
      let step = step_is program accepted law fit code begins laid most base enough s c numbers alike here_is grounds i known a.step 1 2 (λ st e. ap (λ (x : Option (Ty × ℕ × Ty × Operand)). slice_get ((I128, v) ∷ step_operands x) 1) e) (λ st e. ap (λ (x : Option (Ty × ℕ × Ty × Operand)). slice_get (I128 ∷ step_types x) 2) e) (no_wide_step program accepted law fit code begins laid most base enough s c numbers alike here_is grounds i known a refl refl) in
      let rest : Straight = record { silent = low_into 3 I128 v ∷ high_into 4 I128 v ∷ line.Store (virtual 0) (virtual 3) 8 ∷ next_half; last = line.Store (virtual 1) (virtual 4) 8 } in
      let mixed = not_mixed program accepted law fit code begins laid most base enough s c numbers alike here_is grounds i known in
      reach_follows program accepted law fit code begins laid most base enough s c numbers alike here_is grounds i known a refl refl rest refl refl step (λ e. refl)
      (λ inside goes enters.
      by_origin program accepted law fit code begins laid most base enough s c numbers alike here_is grounds i known a refl refl step I128 mixed refl refl refl goes inside (origin_of (the_scope i known) a.base) refl (Follow i)
      (λ g o. absurd (no_large program accepted law fit code begins laid most base enough s c numbers alike here_is grounds i known a refl refl step I128 mixed refl refl refl goes inside g o (at_spot i known).plain refl))
      (λ r o. store_large program accepted law code begins laid most base enough s c numbers alike here_is v a align known goes (address a) (large_on program accepted law fit code begins laid most base enough s c numbers alike here_is grounds i known a refl refl step I128 mixed refl refl refl goes inside refl r o) (length (piece_of program s i)) enters refl))

  load_plain : (t : Ty) (a : Addr) (align : Option ℕ) → Knows (inst.Load t a align) → Follow (inst.Load t a align)
  unfolding piece operands_of types_of memory_types pointers_of is_mixed_inst is_unreachable seen_by is_direct plain_locked is_phi
  load_plain t a align known = by (is_narrow t) refl
    where
      by : (b : Bool) → is_narrow t ≡ b → Follow (inst.Load t a align)
      by true narrow =
          let i = inst.Load t a align in
          let n = addresses.bytes_of program f (object_of program f a.base) in
          let step = step_is program accepted law fit code begins laid most base enough s c numbers alike here_is grounds i known a.step 0 2 (λ st e. ap (λ (x : Option (Ty × ℕ × Ty × Operand)). slice_get (step_operands x) 0) e) (λ st e. ap (λ (x : Option (Ty × ℕ × Ty × Operand)). slice_get (t ∷ step_types x) 2) e) (no_wide_step program accepted law fit code begins laid most base enough s c numbers alike here_is grounds i known a refl refl) in
          let at : ℕ → Straight = λ q. record { silent = []; last = line.Load (virtual (low_of k)) (virtual 0) q } in
          let wide : Straight = record { silent = line.Load (virtual (low_of k)) (virtual 0) 8 ∷ next_half; last = line.Load (virtual (high_of k)) (virtual 1) 8 } in
          let odd = odd_at program accepted law fit code begins laid most base enough s c numbers alike here_is grounds i known 0 t refl in
          let other = other_at program accepted law fit code begins laid most base enough s c numbers alike here_is grounds i known 0 t refl in
          let bit = bit_at program accepted law fit code begins laid most base enough s c numbers alike here_is grounds i known 0 t refl in
          let mixed = not_mixed program accepted law fit code begins laid most base enough s c numbers alike here_is grounds i known in
          reach_follows program accepted law fit code begins laid most base enough s c numbers alike here_is grounds i known a refl refl (at n) refl
          (ap (λ (b : Bool). into a (if b then at n else wide)) narrow) step (λ e. refl)
          (λ inside goes enters.
          let sized = bytes_are program accepted law fit code begins laid most base enough s c numbers alike here_is grounds i known a refl refl step t mixed odd other bit goes inside in
          by_origin program accepted law fit code begins laid most base enough s c numbers alike here_is grounds i known a refl refl step t mixed odd other bit goes inside (origin_of (the_scope i known) a.base) refl (Follow i)
          (λ g o. load_shared_narrow program accepted law code begins laid most base enough s c numbers alike here_is t a align known goes (address a)
          (plain_on program accepted law fit code begins laid most base enough s c numbers alike here_is grounds i known a refl refl step t mixed odd other bit goes inside narrow g o (at_spot i known).plain) n (sized ∙ sym (width_bytes t odd other bit)) (length (piece_of program s i)) enters refl (deed_is program accepted law fit code begins laid most base enough s c numbers alike here_is grounds i known))
          (λ r o. load_own program accepted law code begins laid most base enough s c numbers alike here_is t a align known goes (address a)
          (own_on program accepted law fit code begins laid most base enough s c numbers alike here_is grounds i known a refl refl step t mixed odd other bit goes inside narrow r o) (length (piece_of program s i))
          (subst (λ (q : ℕ). Enters program code begins laid most base enough f k c (at q) (address a) (length (piece_of program s i))) sized enters) refl))
      by false large =
          subst (λ (u : Ty). Knows (inst.Load u a align) → Follow (inst.Load u a align)) (sym (wide_is t (odd_at program accepted law fit code begins laid most base enough s c numbers alike here_is grounds (inst.Load t a align) known 0 t refl) large)) (load_i128 a align) known

  store_plain : (t : Ty) (v : Operand) (a : Addr) (align : Option ℕ) → Knows (inst.Store t v a align) → Follow (inst.Store t v a align)
  unfolding piece operands_of types_of memory_types pointers_of is_mixed_inst is_unreachable seen_by is_direct plain_locked is_phi
  store_plain t v a align known = by (is_narrow t) refl
    where
      by : (b : Bool) → is_narrow t ≡ b → Follow (inst.Store t v a align)
      by true narrow =
          let i = inst.Store t v a align in
          let n = addresses.bytes_of program f (object_of program f a.base) in
          let step = step_is program accepted law fit code begins laid most base enough s c numbers alike here_is grounds i known a.step 1 2 (λ st e. ap (λ (x : Option (Ty × ℕ × Ty × Operand)). slice_get ((t, v) ∷ step_operands x) 1) e) (λ st e. ap (λ (x : Option (Ty × ℕ × Ty × Operand)). slice_get (t ∷ step_types x) 2) e) (no_wide_step program accepted law fit code begins laid most base enough s c numbers alike here_is grounds i known a refl refl) in
          let at : ℕ → Straight = λ q. record { silent = low_into 3 t v ∷ []; last = line.Store (virtual 0) (virtual 3) q } in
          let wide : Straight = record { silent = low_into 3 t v ∷ high_into 4 t v ∷ line.Store (virtual 0) (virtual 3) 8 ∷ next_half; last = line.Store (virtual 1) (virtual 4) 8 } in
          let odd = odd_at program accepted law fit code begins laid most base enough s c numbers alike here_is grounds i known 0 t refl in
          let other = other_at program accepted law fit code begins laid most base enough s c numbers alike here_is grounds i known 0 t refl in
          let bit = bit_at program accepted law fit code begins laid most base enough s c numbers alike here_is grounds i known 0 t refl in
          let mixed = not_mixed program accepted law fit code begins laid most base enough s c numbers alike here_is grounds i known in
          reach_follows program accepted law fit code begins laid most base enough s c numbers alike here_is grounds i known a refl refl (at n) refl
          (ap (λ (b : Bool). into a (if b then at n else wide)) narrow) step (λ e. refl)
          (λ inside goes enters.
          let sized = bytes_are program accepted law fit code begins laid most base enough s c numbers alike here_is grounds i known a refl refl step t mixed odd other bit goes inside in
          by_origin program accepted law fit code begins laid most base enough s c numbers alike here_is grounds i known a refl refl step t mixed odd other bit goes inside (origin_of (the_scope i known) a.base) refl (Follow i)
          (λ g o. store_shared_narrow program accepted law code begins laid most base enough s c numbers alike here_is t v a align known goes (address a)
          (plain_on program accepted law fit code begins laid most base enough s c numbers alike here_is grounds i known a refl refl step t mixed odd other bit goes inside narrow g o (at_spot i known).plain) n (sized ∙ sym (width_bytes t odd other bit)) (length (piece_of program s i)) enters refl)
          (λ r o. store_own program accepted law code begins laid most base enough s c numbers alike here_is t v a align known goes (address a)
          (own_on program accepted law fit code begins laid most base enough s c numbers alike here_is grounds i known a refl refl step t mixed odd other bit goes inside narrow r o) (length (piece_of program s i))
          (subst (λ (q : ℕ). Enters program code begins laid most base enough f k c (at q) (address a) (length (piece_of program s i))) sized enters) refl))
      by false large =
          subst (λ (u : Ty). Knows (inst.Store u v a align) → Follow (inst.Store u v a align)) (sym (wide_is t (odd_at program accepted law fit code begins laid most base enough s c numbers alike here_is grounds (inst.Store t v a align) known 0 t refl) large)) (store_i128 v a align) known

  -- ---- a part of a pair
  extract_by : (t : Ty) (r part : ℕ) (known : Knows (inst.Extract t (operand.Value r) part)) (o : Outcome) → outcome_at (the_scope (inst.Extract t (operand.Value r) part) known) r ≡ o → is_pair_of t o ≡ true → Follow (inst.Extract t (operand.Value r) part)
  extract_by t r part known (outcome.Pair u) at fine =
      let i = inst.Extract t (operand.Value r) part in
      extract_follows program accepted law fit code begins laid most base enough s c numbers alike here_is t r part known u
      (sym (outcomes program accepted law s known.typed i (is program accepted law fit code begins laid most base enough s c numbers alike here_is grounds i known) r) ∙ at)
  extract_by t r part known (outcome.Number u) at fine = absurd (false≢true fine)
  extract_by t r part known (outcome.Alloca x) at fine = absurd (false≢true fine)
  extract_by t r part known (outcome.Gep b x u v) at fine = absurd (false≢true fine)
  extract_by t r part known outcome.Nothing at fine = absurd (false≢true fine)

  extract : (t : Ty) (v : Operand) (part : ℕ) → Knows (inst.Extract t v part) → Follow (inst.Extract t v part)
  unfolding is_mixed_inst
  extract t (operand.Value r) part known =
      let i = inst.Extract t (operand.Value r) part in
      extract_by t r part known (outcome_at (the_scope i known) r) refl (is_true (is_pair_of t (outcome_at (the_scope i known) r)) (not_mixed program accepted law fit code begins laid most base enough s c numbers alike here_is grounds i known))
  extract t (operand.Const n) part known = absurd (true≢false (not_mixed program accepted law fit code begins laid most base enough s c numbers alike here_is grounds (inst.Extract t (operand.Const n) part) known))
  extract t (operand.Wide n) part known = absurd (true≢false (not_mixed program accepted law fit code begins laid most base enough s c numbers alike here_is grounds (inst.Extract t (operand.Wide n) part) known))
  extract t (operand.Param n) part known = absurd (true≢false (not_mixed program accepted law fit code begins laid most base enough s c numbers alike here_is grounds (inst.Extract t (operand.Param n) part) known))

  -- ---- a call of `@out`
  out_by : (result : Option Ty) (name : List ℕ) (args : List Arg) → Knows (inst.Call result name args) → is_out name ≡ true → pointwise same_type (I64 ∷ []) (map arg_type args) ≡ true → Follow (inst.Call result name args)
  out_by result name [] known e fine = absurd (false≢true fine)
  out_by result name (arg.Pointer a ∷ args) known e fine = absurd (false≢true fine)
  out_by result name (arg.Value t v ∷ []) known e fine =
      let same : t ≡ I64 = sym (same_types I64 t (and_parts (same_type I64 t) true fine).0) in
      subst (λ (u : Ty). Knows (inst.Call result name (arg.Value u v ∷ [])) → Follow (inst.Call result name (arg.Value u v ∷ []))) (sym same)
      (λ there. out_follows program accepted law code begins laid most base enough s c numbers alike here_is result name v there e) known
  out_by result name (arg.Value t v ∷ x ∷ args) known e fine = absurd (false≢true (and_parts (same_type I64 t) false fine).1)

  call : (result : Option Ty) (name : List ℕ) (args : List Arg) → Knows (inst.Call result name args) → Follow (inst.Call result name args)
  unfolding is_direct user_call
  call result name args known =
      let i = inst.Call result name args in
      let out = plain_is program accepted law fit code begins laid most base enough s c numbers alike here_is grounds i known in
      let fault : not (fits_out result args) ≡ false = sym (ap (λ (b : Bool). if b then not (fits_out result args) else not (is_some_routine (called result name args))) out) ∙ (at_spot i known).call in
      out_by result name args known out (and_parts (same_result None result) (pointwise same_type (I64 ∷ []) (map arg_type args)) (is_true (fits_out result args) fault)).1

  -- ---- phis and branches
  no_phi : (i : Inst) (known : Knows i) → is_phi i ≡ true → ⊥
  no_phi i known e =
      let w = known.walk in
      let at : inst_at program s ≡ Some w.inst = ap (λ (blocks : List Block). slice_get (insts_of_block blocks s.block) s.index) (ap blocks_in w.here) ∙ w.at in
      let same : w.inst ≡ i = same_Some w.inst i (sym at ∙ stands_at program accepted law fit code begins laid most base enough s c numbers alike here_is grounds i known) in
      true≢false (sym e ∙ (ap is_phi (sym same) ∙ w.other))

  jump : (d : ℕ) → Knows (inst.Jump d) → Follow (inst.Jump d)
  unfolding is_inst
  jump d known =
      let there = formed program accepted law fit code begins laid most base enough s c numbers alike here_is grounds (inst.Jump d) known in
      jump_follows program accepted law code begins laid most base enough s c numbers alike here_is d known (edge_to program accepted law fit code begins laid most base enough s c numbers alike here_is grounds (inst.Jump d) known d (lt_of d (length known.walk.function.blocks) there))

  branch : (v : Operand) (d e : ℕ) → Knows (inst.Branch v d e) → Follow (inst.Branch v d e)
  unfolding is_inst
  branch v d e known = by (nat_eq d e) refl
    where
      edges : IsEdge program accepted law code begins laid most base enough s c numbers alike here_is d × IsEdge program accepted law code begins laid most base enough s c numbers alike here_is e
      edges =
          let i = inst.Branch v d e in
          let n = length known.walk.function.blocks in
          let there = and_parts _ (nat_lt e n) (formed program accepted law fit code begins laid most base enough s c numbers alike here_is grounds i known) in
          let first = and_parts _ (nat_lt d n) there.0 in
          (edge_to program accepted law fit code begins laid most base enough s c numbers alike here_is grounds i known d (lt_of d n first.1), edge_to program accepted law fit code begins laid most base enough s c numbers alike here_is grounds i known e (lt_of e n there.1))

      by : (b : Bool) → nat_eq d e ≡ b → Follow (inst.Branch v d e)
      by true same = joined_follows program accepted law code begins laid most base enough s c numbers alike here_is v d e known same edges.0
      by false apart = branch_follows program accepted law code begins laid most base enough s c numbers alike here_is v d e known apart edges.0 edges.1

  -- ---- each instruction
  pub all_follow : (i : Inst) → Knows i → Follow i
  unfolding returns_value is_phi
  all_follow (inst.Bin o t v w) known = bin_follows program accepted law fit code begins laid most base enough s c numbers alike here_is grounds o t v w known
  all_follow (inst.Icmp q t v w) known = icmp_follows program accepted law fit code begins laid most base enough s c numbers alike here_is grounds q t v w known
  all_follow (inst.Select x t v u w) known = select_follows program accepted law fit code begins laid most base enough s c numbers alike here_is grounds x t v u w known
  all_follow (inst.Convert cast t v u) known = convert_follows program accepted law fit code begins laid most base enough s c numbers alike here_is grounds cast t v u known
  all_follow (inst.Phi t entries) known = absurd (no_phi (inst.Phi t entries) known refl)
  all_follow (inst.Jump d) known = jump d known
  all_follow (inst.Branch v d e) known = branch v d e known
  all_follow inst.RetVoid known = ret_follows program accepted law code begins laid most base enough s c numbers alike here_is known
  all_follow (inst.Ret t v) known = absurd (true≢false (at_spot (inst.Ret t v) known).value)
  all_follow inst.Unreachable known = unreachable_follows program accepted law code begins laid most base enough s c numbers alike here_is known
  all_follow (inst.Alloca t count align) known = alloca_follows program accepted law code begins laid most base enough s c numbers alike here_is t count align known
  all_follow (inst.Gep elem count b t v) known = gep_follows program accepted law fit code begins laid most base enough s c numbers alike here_is grounds elem count b t v known
  all_follow (inst.Load t a align) known = load_plain t a align known
  all_follow (inst.LoadAtomic t a order align) known = load_atomic t a order align known
  all_follow (inst.Store t v a align) known = store_plain t v a align known
  all_follow (inst.StoreAtomic t v a order align) known = store_atomic t v a order align known
  all_follow (inst.Cmpxchg weak a t v u w success failure align) known = exchange weak a t v u w success failure align known
  all_follow (inst.Rmw o a t v order align) known = update o a t v order align known
  all_follow (inst.Fence single order) known = fence_follows program accepted law code begins laid most base enough s c numbers alike here_is single order known
  all_follow (inst.Extract t v part) known = extract t v part known
  all_follow (inst.Call result name args) known = call result name args known

module _ (program : SourceProgram) (accepted : IsAccepted program) (law : AtInstructions IsSound) (fit : ResultsFit) (code : Mid Virtual) (begins : ℕ → ℕ → ℕ → ℕ) (laid : IsLaid program code.lines begins) (most base : ℕ) (enough : 512 ≤ most) (grounds : Grounds program code base) where
  pub all_keep : Keeps key program code begins most base
  all_keep = record { follows = λ s c numbers i known alike here. all_follow program accepted law fit code begins laid most base enough s c numbers alike here grounds i known }
