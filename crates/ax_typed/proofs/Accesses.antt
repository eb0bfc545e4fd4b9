-- Operations on objects, with numbers of their elements' types.
use Rattle.std.proofs.Common.{◌≡◌, ℕ, ◌<◌, Bool, true, false, [], Some, None, refl, sym, subst, ◌∙◌, ◌^◌, arith}
use Rattle.std.specs.Prelude.{if◌then◌else◌, nat_eq}
use Rattle.std.proofs.lemmas.List.Elements.{All-nil}
use Rattle.std.proofs.lemmas.Nat.{pow_pos}
use Rattle.ax_module.specs.declared.module.Module.{Module}
use Rattle.ax_module.specs.declared.types.Ty.{Ty}
use Rattle.ax_target.specs.Targets.{is_buffered}
use Rattle.ax_source_run.specs.SourceAccess.{Access, Deed, Done, Looks, ObjectOperation, Reads, Writes, Updates, Compares, Reply, Silent, Found, FoundEqual, Into, EqualOrInto, accessed, acts_on, is_expected, is_native_element, manner_of, manner_of_native, object_done, private_done, replied, shared_done, stored_by, waits, written_into, written_out}
use Rattle.ax_source_run.specs.SourceState.{Object, Shared, Private, SourceProcessor, SourceProgram, Number, Pair}
use Rattle.ax_source_run.specs.SourceValues.{type_bits}
use Rattle.ax_typed.specs.Typed.{AreTyped, IsAllocaOutcome, IsOf, IsResultOf, IsTypedProcessor, elem_of, outcome_in}
use Rattle.ax_typed.proofs.Objects.{IsAtOther, IsOfIf, StoreIs, content_typed, drained_typed, gets_typed, goes_typed, into_typed, newest_typed, set_holds, waiting_typed, written_typed}
use Rattle.ax_typed.proofs.Types.{ResultsFit}

-- what an operation stores, or adds and so on, is of the element's type
abbrev pub OperationIs : Ty → ObjectOperation → Type 0
OperationIs t Reads = Unit {0}
OperationIs t (Writes n) = IsOf t n
OperationIs t (Updates op v) = IsOf t v
OperationIs t (Compares expected desired) = IsOf t desired

stored_if : (b : Bool) (t : Ty) (n : ℕ) → IsOf t n → IsOfIf (IsOf t) (if b then Some n else None)
stored_if true t n h = h
stored_if false t n h = tt

stored_typed : ResultsFit → (t : Ty) (operation : ObjectOperation) (old : ℕ) → OperationIs t operation → IsOf t old → IsOfIf (IsOf t) (stored_by operation (type_bits t) old)
stored_typed fit t Reads old h k = tt
stored_typed fit t (Writes n) old h k = h
stored_typed fit t (Updates op v) old h k = fit (type_bits t) op old v k h
stored_typed fit t (Compares expected desired) old h k = stored_if (nat_eq old expected) t desired h

-- what becomes of a number of type t that instruction k of function f found
abbrev pub ReplyIs : Module → ℕ → ℕ → Ty → Reply → Type 0
ReplyIs m f k t Silent = Unit {0}
ReplyIs m f k t Found = (n : ℕ) → IsOf t n → IsResultOf (outcome_in m f k) k (Number n)
ReplyIs m f k t FoundEqual = (n : ℕ) (flag : Bool) → IsOf t n → IsResultOf (outcome_in m f k) k (Pair n flag)
ReplyIs m f k t (Into p) = (n : ℕ) → IsOf t n → IsOf (elem_of m f p.object) n
ReplyIs m f k t (EqualOrInto p) = ((n : ℕ) → IsOf t n → IsOf (elem_of m f p.object) n) × ((n : ℕ) → n < 2 → IsResultOf (outcome_in m f k) k (Number n))

module _ (m : Module) (c : SourceProcessor) (k : ℕ) (at : IsAtOther m c k) where
  into_at : (o : Object) (i n : ℕ) → IsAtOther m (written_into o i n c) k
  into_at (Private r) i n = record { entry = at.entry; other = at.other }
  into_at (Shared g) i n = at

  into_result : (o : Object) (i n : ℕ) → IsResultOf (outcome_in m c.function k) k (Number 0) → IsResultOf (outcome_in m (written_into o i n c).function k) k (Number 0)
  into_result (Private r) i n is = is
  into_result (Shared g) i n is = is

  reply_typed : (reply : Reply) (t : Ty) (equal : Bool) (n : ℕ) → ReplyIs m c.function k t reply → IsOf t n → IsTypedProcessor m c → IsTypedProcessor m (replied reply k equal n c)
  reply_typed Silent t equal n r is h = goes_typed m c k at h
  reply_typed Found t equal n r is h = gets_typed m c k (Number n) at (r n is) h
  reply_typed FoundEqual t equal n r is h = gets_typed m c k (Pair n equal) at (r n equal is) h
  reply_typed (Into p) t equal n r is h = goes_typed m (written_into p.object p.index n c) k (into_at p.object p.index n) (into_typed m c p.object p.index n (r n is) h)
  reply_typed (EqualOrInto p) t true n r is h = gets_typed m c k (Number 1) at (r.1 1 (omega arith)) h
  reply_typed (EqualOrInto p) t false n r is h = gets_typed m (written_into p.object p.index n c) k (Number 0) (into_at p.object p.index n) (into_result p.object p.index n (r.1 0 (omega arith))) (into_typed m c p.object p.index n (r.0 n is) h)

-- what an event leaves is typed, and what it writes out has 64 bits
pub record DeedIs (m : Module) (d : Deed) : Type 0 where
  pub numbers : AreTyped m d.numbers
  pub processor : IsTypedProcessor m d.processor
  pub output : IsOfIf (λ n. n < 2 ^ 64) d.output

-- an access of an element's type
pub record AccessIs (m : Module) (f k : ℕ) (a : Access) : Type 0 where
  pub operation : OperationIs (elem_of m f a.pointer.object) a.operation
  pub reply : ReplyIs m f k (elem_of m f a.pointer.object) a.reply

-- an operation's number, and what it leaves
pub record DoneIs (m : Module) (c : SourceProcessor) (t : Ty) (done : Done) : Type 0 where
  pub found : IsOf t done.found
  pub numbers : AreTyped m done.numbers
  pub processor : IsTypedProcessor m done.processor
  pub function : done.processor.function ≡ c.function
  pub block : done.processor.block ≡ c.block
  pub index : done.processor.index ≡ c.index

zero_is : (t : Ty) → IsOf t 0
zero_is t = pow_pos (type_bits t)

module _ (m : Module) (fit : ResultsFit) (c : SourceProcessor) (h : IsTypedProcessor m c) (numbers : ℕ → ℕ → ℕ) (typed : AreTyped m numbers) where
  abbrev E : ℕ → Ty
  E g = elem_of m 0 (Shared g)

  waits_typed : (buffered : Bool) (g i n : ℕ) → IsOf (E g) n → DoneIs m c (E g) (waits buffered g i n c numbers)
  waits_typed true g i n is = record {
    found = zero_is (E g);
    numbers = typed;
    processor = waiting_typed m c (record { global = g; element = i; number = n }) is h;
    function = refl;
    block = refl;
    index = refl;
  }
  waits_typed false g i n is = record {
    found = zero_is (E g);
    numbers = set_holds (λ a b. IsOf (E a) b) (Some n) numbers g i typed is;
    processor = h;
    function = refl;
    block = refl;
    index = refl;
  }

  acts_typed : (g i : ℕ) (operation : ObjectOperation) → OperationIs (E g) operation → DoneIs m c (E g) (acts_on (type_bits (E g)) g i operation c (written_out c.pending numbers))
  acts_typed g i operation is =
      let written = written_typed m c.pending numbers h.pending typed in
      let old = written_out c.pending numbers g i in
      record {
        found = written g i;
        numbers = set_holds (λ a b. IsOf (E a) b) (stored_by operation (type_bits (E g)) old) (written_out c.pending numbers) g i written (stored_typed fit (E g) operation old is (written g i));
        processor = drained_typed m c [] (All-nil (StoreIs m)) h;
        function = refl;
        block = refl;
        index = refl;
      }

  looks_typed : (g i : ℕ) (operation : ObjectOperation) (buffered : Bool) → DoneIs m c (E g) (shared_done Looks buffered (type_bits (E g)) g i operation c numbers)
  looks_typed g i operation buffered = record {
    found = newest_typed m g i c.pending (numbers g i) h.pending (typed g i);
    numbers = typed;
    processor = h;
    function = refl;
    block = refl;
    index = refl;
  }

  native_typed : (operation : ObjectOperation) (may_wait buffered : Bool) (g i : ℕ) → OperationIs (E g) operation → DoneIs m c (E g) (shared_done (manner_of_native operation may_wait) buffered (type_bits (E g)) g i operation c numbers)
  native_typed (Writes n) true buffered g i is = waits_typed buffered g i n is
  native_typed (Writes n) false buffered g i is = acts_typed g i (Writes n) is
  native_typed Reads may_wait buffered g i is = looks_typed g i Reads buffered
  native_typed (Updates op v) may_wait buffered g i is = acts_typed g i (Updates op v) is
  native_typed (Compares expected desired) may_wait buffered g i is = acts_typed g i (Compares expected desired) is

  shared_typed : (native : Bool) (operation : ObjectOperation) (may_wait buffered : Bool) (g i : ℕ) → OperationIs (E g) operation → DoneIs m c (E g) (shared_done (manner_of native operation may_wait) buffered (type_bits (E g)) g i operation c numbers)
  shared_typed true operation may_wait buffered g i is = native_typed operation may_wait buffered g i is
  shared_typed false operation may_wait buffered g i is = acts_typed g i operation is

  private_typed : (r i : ℕ) (operation : ObjectOperation) → OperationIs (elem_of m c.function (Private r)) operation → DoneIs m c (elem_of m c.function (Private r)) (private_done (type_bits (elem_of m c.function (Private r))) r i operation c numbers)
  private_typed r i operation is =
      let t = elem_of m c.function (Private r) in
      record {
        found = h.allocas r i;
        numbers = typed;
        processor = content_typed m c (stored_by operation (type_bits t) (c.allocas r i)) r i (stored_typed fit t operation (c.allocas r i) is (h.allocas r i)) h;
        function = refl;
        block = refl;
        index = refl;
      }

module _ (program : SourceProgram) (fit : ResultsFit) (c : SourceProcessor) (h : IsTypedProcessor program.source c) (numbers : ℕ → ℕ → ℕ) (typed : AreTyped program.source numbers) where
  object_typed : (o : Object) (i : ℕ) (operation : ObjectOperation) (may_wait : Bool) → OperationIs (elem_of program.source c.function o) operation → DoneIs program.source c (elem_of program.source c.function o) (object_done program o i operation may_wait c numbers)
  object_typed (Shared g) i operation may_wait is = shared_typed program.source fit c h numbers typed (is_native_element program g i) operation may_wait (is_buffered program.target) g i is
  object_typed (Private r) i operation may_wait is = private_typed program.source fit c h numbers typed r i operation is

  pub access_typed : (k : ℕ) (a : Access) → IsAtOther program.source c k → AccessIs program.source c.function k a → DeedIs program.source (accessed program a k c numbers)
  access_typed k a at is =
      let t = elem_of program.source c.function a.pointer.object in
      let done = object_done program a.pointer.object a.pointer.index a.operation a.may_wait c numbers in
      let d = object_typed a.pointer.object a.pointer.index a.operation a.may_wait is.operation in
      let there : IsAtOther program.source done.processor k = record {
        entry = λ e. at.entry (sym d.block ∙ e) ∙ sym d.index;
        other = λ x. at.other (subst (λ (f : ℕ). IsAllocaOutcome (outcome_in program.source f k)) d.function x);
      } in
      record {
        numbers = d.numbers;
        processor = reply_typed program.source done.processor k there a.reply t (is_expected a.operation done.found) done.found (subst (λ (f : ℕ). ReplyIs program.source f k t a.reply) (sym d.function) is.reply) d.found d.processor;
        output = tt;
      }
