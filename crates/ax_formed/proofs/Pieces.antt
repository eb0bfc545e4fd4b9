-- The lines of each source instruction: their weight, their function, and which labels they name.
use Rattle.std.proofs.Common.{◌≡◌, ℕ, ◌+◌, ◌<◌, ◌≤◌, ◌⊎◌, inl, inr, Bool, true, false, ◌&&◌, List, [], ◌∷◌, ◌++◌, map, length, refl, ap, arith, length-append}
use Rattle.std.specs.Prelude.{if◌then◌else◌, nat_eq, nat_lt}
use Rattle.std.proofs.lemmas.Bool.{and_parts}
use Rattle.std.proofs.lemmas.Bool.Decides.{nat_tests}
use Rattle.ax_module.specs.declared.inst.Inst.{Inst}
use Rattle.ax_module.specs.declared.inst.Inst.TheVariants as inst
use Rattle.ax_module.specs.declared.module.Block.{Block}
use Rattle.ax_module.specs.declared.operand.Addr.{Addr}
use Rattle.ax_module.specs.declared.operand.Operand.{Operand}
use Rattle.ax_module.specs.declared.operand.Operand.TheVariants as operand
use Rattle.ax_module.specs.declared.types.Ty.TheVariants.{I1}
use Rattle.ax_module.specs.WellFormed.{NameCounts, is_block_number, is_inst, is_operand}
use Rattle.ax_source_run.specs.SourceInstructions.{first_number, insts_of_block, is_out, phi_count}
use Rattle.ax_source_run.specs.SourceState.{Object, SourceProgram}
use Rattle.ax_words.specs.declared.mark.Op.TheVariants as operation
use Rattle.ax_words.specs.Orders.{merged_order}
use Rattle.ax_mid.specs.declared.code.Line.{Line}
use Rattle.ax_mid.specs.declared.instruction.MidInst.{MidInst}
use Rattle.ax_mid.specs.declared.instruction.MidInst.TheVariants as mid
use Rattle.ax_mid.specs.declared.registers.Virtual.{Virtual}
use Rattle.ax_mid.specs.WellFormed.{weight, weight_of}
use Rattle.ax_selected.specs.Addresses.{Brought, Fixed, IndexAt, address_of, bytes_of, count_of, index_at, index_of_step, object_of}
use Rattle.ax_selected.specs.Edges.{coming_in, edge_lines, set_phis}
use Rattle.ax_selected.specs.Operands.{low_into}
use Rattle.ax_selected.specs.Pieces.{Straight, bin_lines, comparison, convert_lines, extract_lines, icmp_lines, select_lines}
use Rattle.ax_selected.specs.Registers.{block_label, first_label, second_label, virtual}
use Rattle.ax_selected.specs.Selected.{acting, atomic_load_lines, atomic_store_lines, branch_lines, bytes_at, chosen_by, compared, exchange_lines, fence_lines, found, gep_lines, guarded, load_lines, lone, out_operand, piece, reach, silent, store_lines, straight, through, update_lines}
use Rattle.ax_formed.proofs.Lines.{AllLines, Stands, Targets, all_both, stands_right, weight_both}
use Rattle.ax_formed.proofs.Plain.{ArePlain, IsBringing, IsLast, IsPlain, IsPlainIndex, IsPlainStraight, address_plain, atomic_load_plain, atomic_store_plain, bin_plain, coming_length, coming_plain, convert_plain, exchange_plain, extract_plain, fence_plain, first_plain, gep_plain, icmp_plain, index_plain, last_weight, load_plain, lone_plain, out_plain, plain_both, plain_weight, select_plain, sets_length, sets_plain, step_plain, store_plain, update_plain}

lt_of : (a b : ℕ) → nat_lt a b ≡ true → a < b
lt_of a b h = grind (arith, nat_tests, h)

plain_leads : (Ok : ℕ → Type 0) (i : MidInst Virtual) → IsPlain i → Targets Ok i
plain_leads Ok (mid.Jump n) h = absurd h
plain_leads Ok (mid.Branch test a b) h = absurd h
plain_leads Ok _ h = tt

last_leads : (Ok : ℕ → Type 0) (i : MidInst Virtual) → IsLast i → Targets Ok i
last_leads Ok (mid.Jump n) h = absurd h
last_leads Ok (mid.Branch test a b) h = absurd h
last_leads Ok _ h = tt

jump_weight : (n : ℕ) (i : MidInst Virtual) → i ≡ mid.Jump n → weight i ≡ 1
unfolding weight
jump_weight n i e = ap weight e

-- a line of a function, each label of which is one of these
abbrev pub IsLed : ℕ → (ℕ → Type 0) → Line Virtual → Type 0
IsLed f Ok line = (line.site.function ≡ f) × Targets Ok line.inst

-- a label that lines of a function name is one of the function's, or their own
abbrev pub Own : ℕ → (ℕ → Type 0) → List (Line Virtual) → ℕ → Type 0
Own f Ok lines n = Ok n ⊎ Stands lines f n

pub record IsPiece (f : ℕ) (Ok : ℕ → Type 0) (most : ℕ) (lines : List (Line Virtual)) : Type 0 where
  pub light : weight_of lines ≤ most
  pub leads : AllLines (IsLed f (Own f Ok lines)) lines

module _ (f k : ℕ) where
  -- ---- one line after the other
  silent_leads : (Ok : ℕ → Type 0) (is : List (MidInst Virtual)) → ArePlain is → AllLines (IsLed f Ok) (map (silent f k) is)
  silent_leads Ok [] h = tt
  silent_leads Ok (i ∷ is) h = ((refl, plain_leads Ok i h.0), silent_leads Ok is h.1)

  silent_weight : (is : List (MidInst Virtual)) → ArePlain is → weight_of (map (silent f k) is) ≡ length is
  silent_weight [] h = refl
  silent_weight (i ∷ is) h =
      let one = plain_weight i h.0 in
      let rest = silent_weight is h.1 in
      omega (arith, one, rest)

  straight_weight : (s : Straight) → ArePlain s.silent → weight_of (straight f k s) ≡ length s.silent + weight s.last
  straight_weight s h =
      let both = weight_both (map (silent f k) s.silent) (acting f k s.last ∷ []) in
      let first = silent_weight s.silent h in
      omega (arith, both, first)

  straight_leads : (Ok : ℕ → Type 0) (s : Straight) → ArePlain s.silent → Targets Ok s.last → AllLines (IsLed f Ok) (straight f k s)
  straight_leads Ok s h last = all_both (IsLed f Ok) (map (silent f k) s.silent) (acting f k s.last ∷ []) (silent_leads Ok s.silent h) ((refl, last), tt)

  straight_piece : (Ok : ℕ → Type 0) (s : Straight) → IsPlainStraight s → IsPiece f Ok 520 (straight f k s)
  straight_piece Ok s h =
      let all = straight_weight s h.silent_lines in
      let last = last_weight s.last h.last_line in
      let few = h.few in
      record { light = omega (arith, all, last, few); leads = straight_leads (Own f Ok (straight f k s)) s h.silent_lines (last_leads (Own f Ok (straight f k s)) s.last h.last_line) }

  -- ---- ways to elements
  module _ (Ok : ℕ → Type 0) (program : SourceProgram) (o : Object) (rest : Straight) (h : IsPlainStraight rest) where
    -- two labels, a branch to them and a trap
    guard_weight : (lines : List (Line Virtual)) → weight_of (silent f k (mid.Branch (virtual 2) (second_label f k) (first_label f k)) ∷ silent f k (mid.Label (first_label f k)) ∷ acting f k mid.Trap ∷ silent f k (mid.Label (second_label f k)) ∷ lines) ≡ 4 + weight_of lines
    unfolding weight
    guard_weight lines = omega arith

    guarded_piece : (lines : List (MidInst Virtual)) → IsBringing lines → IsPiece f Ok 520 (guarded f k program o lines rest)
    guarded_piece lines bring =
        let head = lines ++ compared f k (count_of program f o) in
        let end : Straight = record { silent = found f k (address_of program f o 0) (bytes_of program f o) ++ rest.silent; last = rest.last } in
        let tail = silent f k (mid.Branch (virtual 2) (second_label f k) (first_label f k)) ∷ silent f k (mid.Label (first_label f k)) ∷ acting f k mid.Trap ∷ silent f k (mid.Label (second_label f k)) ∷ straight f k end in
        let whole = map (silent f k) head ++ tail in
        let first : Stands tail f (first_label f k) = inr (inl (refl, refl)) in
        let second : Stands tail f (second_label f k) = inr (inr (inr (inl (refl, refl)))) in
        let plain_head = plain_both lines (compared f k (count_of program f o)) bring.plain (tt, (tt, tt)) in
        let plain_end : ArePlain end.silent = (tt, (tt, (address_plain program f o 0, (tt, h.silent_lines)))) in
        let a = weight_both (map (silent f k) head) tail in
        let b = silent_weight head plain_head in
        let c = length-append lines (compared f k (count_of program f o)) in
        let d = guard_weight (straight f k end) in
        let e = straight_weight end plain_end in
        let last = last_weight rest.last h.last_line in
        let few = bring.few in
        let more = h.few in
        record {
          light = omega (arith, a, b, c, d, e, last, few, more);
          leads = all_both (IsLed f (Own f Ok whole)) (map (silent f k) head) tail (silent_leads (Own f Ok whole) head plain_head)
              ((refl, (inr (stands_right (map (silent f k) head) tail f (second_label f k) second), inr (stands_right (map (silent f k) head) tail f (first_label f k) first))), ((refl, tt), ((refl, tt), ((refl, tt), straight_leads (Own f Ok whole) end plain_end (last_leads (Own f Ok whole) rest.last h.last_line)))));
        }

    through_piece : (index : IndexAt) → IsPlainIndex index → IsPiece f Ok 520 (through f k program o index rest)
    unfolding IsPlainIndex
    through_piece (Fixed j) is = by (nat_lt j (count_of program f o))
      where
        by : (q : Bool) → IsPiece f Ok 520 (chosen_by f k q program o j rest)
        by true =
            let s : Straight = record { silent = address_of program f o j ∷ rest.silent; last = rest.last } in
            let plain : ArePlain s.silent = (address_plain program f o j, h.silent_lines) in
            let all = straight_weight s plain in
            let last = last_weight rest.last h.last_line in
            let few = h.few in
            record { light = omega (arith, all, last, few); leads = straight_leads (Own f Ok (straight f k s)) s plain (last_leads (Own f Ok (straight f k s)) rest.last h.last_line) }
        by false = guarded_piece (mid.Const (virtual 1) j ∷ []) (record { few = omega arith; plain = (tt, tt) })
    through_piece (Brought lines) is = guarded_piece lines is

  -- ---- edges
  module _ (Ok : ℕ → Type 0) (blocks : List Block) (b : ℕ) (phis : (d : ℕ) → phi_count (insts_of_block blocks d) ≤ 64) where
    edge_plain : (d : ℕ) → ArePlain (edge_lines f blocks b d).silent
    edge_plain d =
        let first = first_number blocks d in
        let insts = insts_of_block blocks d in
        plain_both (coming_in b first insts) (set_phis first insts) (coming_plain b first insts) (sets_plain first insts)

    edge_weight : (d : ℕ) → weight_of (straight f k (edge_lines f blocks b d)) ≤ 257
    edge_weight d =
        let first = first_number blocks d in
        let insts = insts_of_block blocks d in
        let a = straight_weight (edge_lines f blocks b d) (edge_plain d) in
        let c = length-append (coming_in b first insts) (set_phis first insts) in
        let e = coming_length b first insts in
        let g = sets_length first insts in
        let few = phis d in
        let one = jump_weight (block_label f first) (edge_lines f blocks b d).last refl in
        omega (arith, a, c, e, g, few, one)

    edge_leads : (Goal : ℕ → Type 0) (d : ℕ) → Goal (block_label f (first_number blocks d)) → AllLines (IsLed f Goal) (straight f k (edge_lines f blocks b d))
    edge_leads Goal d ok = straight_leads Goal (edge_lines f blocks b d) (edge_plain d) ok

    edge_piece : (d : ℕ) → Ok (block_label f (first_number blocks d)) → IsPiece f Ok 520 (straight f k (edge_lines f blocks b d))
    edge_piece d ok = let a = edge_weight d in record { light = omega (arith, a); leads = edge_leads (Own f Ok (straight f k (edge_lines f blocks b d))) d (inl ok) }

    sides_weight : (i : MidInst Virtual) (left right : List (Line Virtual)) → weight_of (silent f k i ∷ silent f k (mid.Branch (virtual 0) (first_label f k) (second_label f k)) ∷ silent f k (mid.Label (first_label f k)) ∷ left ++ (silent f k (mid.Label (second_label f k)) ∷ right)) ≡ weight i + 3 + weight_of left + weight_of right
    unfolding weight
    sides_weight i left right =
        let both = weight_both left (silent f k (mid.Label (second_label f k)) ∷ right) in
        omega (arith, both)

    branch_piece : (test : Operand) (d e : ℕ) → Ok (block_label f (first_number blocks d)) → Ok (block_label f (first_number blocks e)) → IsPiece f Ok 520 (branch_lines f k test (edge_lines f blocks b d) (edge_lines f blocks b e))
    branch_piece test d e ok_d ok_e =
        let left = straight f k (edge_lines f blocks b d) in
        let right = straight f k (edge_lines f blocks b e) in
        let other = silent f k (mid.Label (second_label f k)) ∷ right in
        let whole = branch_lines f k test (edge_lines f blocks b d) (edge_lines f blocks b e) in
        let a = edge_weight d in
        let c = edge_weight e in
        let all = sides_weight (low_into 0 I1 test) left right in
        let one = plain_weight (low_into 0 I1 test) (first_plain I1 test) in
        let first : Stands whole f (first_label f k) = inr (inr (inl (refl, refl))) in
        let second : Stands whole f (second_label f k) = inr (inr (inr (stands_right left other f (second_label f k) (inl (refl, refl))))) in
        record {
          light = omega (arith, a, c, all, one);
          leads = (
            (refl, plain_leads (Own f Ok whole) (low_into 0 I1 test) (first_plain I1 test)),
            ((refl, (inr first, inr second)), ((refl, tt), all_both (IsLed f (Own f Ok whole)) left other (edge_leads (Own f Ok whole) d (inl ok_d)) ((refl, tt), edge_leads (Own f Ok whole) e (inl ok_e)))),
          );
        }

    -- ---- each instruction
    module _ (program : SourceProgram) (scope : NameCounts) (ok : (d : ℕ) → d < scope.blocks → Ok (block_label f (first_number blocks d))) where
      reach_piece : (a : Addr) (rest : Straight) → IsPlainStraight rest → IsPiece f Ok 520 (reach f k program blocks b a rest)
      reach_piece a rest h = through_piece Ok program (object_of program f a.base) rest h (index_at program f a.base a.step) (index_plain program f a.base a.step)

      below : (d : ℕ) → is_block_number scope d ≡ true → d < scope.blocks
      below d h = lt_of d scope.blocks h

      idle : IsPiece f Ok 520 (straight f k (lone mid.Nop))
      idle = straight_piece Ok (lone mid.Nop) (lone_plain mid.Nop tt)

      stops : IsPiece f Ok 520 (straight f k (lone mid.Trap))
      stops = straight_piece Ok (lone mid.Trap) (lone_plain mid.Trap tt)

      pub piece_is : (i : Inst) → is_inst scope i ≡ true → IsPiece f Ok 520 (piece f k program blocks b i)
      unfolding piece is_inst
      piece_is (inst.Bin o t v w) h = straight_piece Ok (bin_lines o k t v w) (bin_plain k t v w o)
      piece_is (inst.Icmp c t v w) h = straight_piece Ok (icmp_lines c k t v w) (icmp_plain k t v w (comparison c))
      piece_is (inst.Select c t v u w) h = straight_piece Ok (select_lines k c t v u w) (select_plain k c t u v w)
      piece_is (inst.Convert o t v u) h = straight_piece Ok (convert_lines o k t v u) (convert_plain o k t u v)
      piece_is (inst.Phi t entries) h = record { light = omega arith; leads = tt }
      piece_is (inst.Jump d) h = edge_piece d (ok d (below d h))
      piece_is (inst.Branch v d e) h =
          let q = and_parts (is_operand scope v && is_block_number scope d) (is_block_number scope e) h in
          let ok_d = ok d (below d (and_parts (is_operand scope v) (is_block_number scope d) q.0).1) in
          by (nat_eq d e) ok_d (ok e (below e q.1))
        where
          by : (t : Bool) → Ok (block_label f (first_number blocks d)) → Ok (block_label f (first_number blocks e)) → IsPiece f Ok 520 (if t then straight f k (edge_lines f blocks b d) else branch_lines f k v (edge_lines f blocks b d) (edge_lines f blocks b e))
          by true ok_d ok_e = edge_piece d ok_d
          by false ok_d ok_e = branch_piece v d e ok_d ok_e
      piece_is inst.RetVoid h = straight_piece Ok (lone mid.Ret) (lone_plain mid.Ret tt)
      piece_is (inst.Ret t v) h = stops
      piece_is inst.Unreachable h = stops
      piece_is (inst.Alloca t count align) h = idle
      piece_is (inst.Gep t count a u v) h = let index = index_of_step program f (object_of program f a) t u v in straight_piece Ok (gep_lines f k index) (gep_plain f k index (step_plain program f (object_of program f a) t u v))
      piece_is (inst.Load t a align) h = reach_piece a (load_lines k t (bytes_at f k program blocks b a)) (load_plain k t (bytes_at f k program blocks b a))
      piece_is (inst.LoadAtomic t a order align) h = reach_piece a (atomic_load_lines k t order) (atomic_load_plain k t order)
      piece_is (inst.Store t v a align) h = reach_piece a (store_lines t v (bytes_at f k program blocks b a)) (store_plain t v (bytes_at f k program blocks b a))
      piece_is (inst.StoreAtomic t v a order align) h = reach_piece a (atomic_store_lines t v order) (atomic_store_plain t v order)
      piece_is (inst.Cmpxchg weak a t v u w success failure align) h = reach_piece a (exchange_lines k weak t v u w (merged_order success failure)) (exchange_plain k weak t v u w (merged_order success failure))
      piece_is (inst.Rmw o a t v order align) h = reach_piece a (update_lines k (operation.Rmw o) t v order) (update_plain k (operation.Rmw o) t v order)
      piece_is (inst.Fence true order) h = idle
      piece_is (inst.Fence false order) h = straight_piece Ok (fence_lines f k false order) (fence_plain f k order)
      piece_is (inst.Extract t (operand.Value r) part) h = straight_piece Ok (extract_lines k r part) (extract_plain k r part)
      piece_is (inst.Extract t (operand.Const n) part) h = idle
      piece_is (inst.Extract t (operand.Wide n) part) h = idle
      piece_is (inst.Extract t (operand.Param n) part) h = idle
      piece_is (inst.Call result name args) h = by (is_out name)
        where
          by : (q : Bool) → IsPiece f Ok 520 (if q then straight f k (out_operand f k args) else straight f k (lone mid.Nop))
          by true = straight_piece Ok (out_operand f k args) (out_plain f k args)
          by false = idle
