-- Operations on objects: what an instruction or a call asks of which object, and what it does there.
use Rattle.std.specs.Prelude.{ℕ, ◌+◌, Bool, true, false, ◌&&◌, nat_eq, if◌then◌else◌, List, [], ◌∷◌, ◌++◌, Option, Some, None}
use Rattle.ax_words.specs.declared.operation.RmwOp.{RmwOp}
use Rattle.ax_ops.specs.Operation.{result_of}
use Rattle.ax_target.specs.Targets.{is_buffered}
use Rattle.ax_layout.specs.declared.classes.Class.{Class}
use Rattle.ax_layout.specs.declared.classes.Class.TheVariants.{Native, Locked}
use Rattle.ax_layout.specs.Classes.{class_of}
use Rattle.ax_layout.specs.Layout.{address_in, bytes_in}
use Rattle.ax_source_run.specs.SourcePointers.{elements_of}
use Rattle.ax_source_run.specs.SourceState.{Object, Shared, Private, PendingStore, Pointer, SourceProcessor, SourceProgram, SourceValue, Number, Pair}
use Rattle.ax_source_run.specs.SourceValues.{type_bits}

-- what an operation does to the number that it finds
pub data ObjectOperation : Type 0 where
  Reads : ObjectOperation
  Writes : ℕ → ObjectOperation
  Updates : RmwOp → ℕ → ObjectOperation
  Compares : ℕ → ℕ → ObjectOperation

-- what becomes of the number that it finds: nothing, the result, the pair of the number and whether it was the expected one, the number in an argument, or whether it was the expected one, and where it was not the number in an argument
pub data Reply : Type 0 where
  Silent : Reply
  Found : Reply
  FoundEqual : Reply
  Into : Pointer → Reply
  EqualOrInto : Pointer → Reply

-- an operation on an element; a store may wait that is plain, or atomic in one access and below seq_cst
pub record Access : Type 0 where
  pub pointer : Pointer
  pub operation : ObjectOperation
  pub may_wait : Bool
  pub reply : Reply

-- what it stores where it found a number, at so many bits; a compare-exchange stores exactly where it found the expected number
abbrev pub stored_by : ObjectOperation → ℕ → ℕ → Option ℕ
stored_by Reads bits old = None
stored_by (Writes n) bits old = Some n
stored_by (Updates op v) bits old = Some (result_of bits op old v)
stored_by (Compares expected desired) bits old = if nat_eq old expected then Some desired else None

abbrev pub is_expected : ObjectOperation → ℕ → Bool
is_expected (Compares expected desired) old = nat_eq old expected
is_expected Reads old = true
is_expected (Writes n) old = true
is_expected (Updates op v) old = true

-- f, but v at k
abbrev pub put_at : {A : Type 0} → (ℕ → A) → ℕ → A → ℕ → A
put_at f k v a = if nat_eq a k then v else f a

abbrev pub element_set : ℕ → ℕ → ℕ → (ℕ → ℕ → ℕ) → ℕ → ℕ → ℕ
element_set g i n numbers = put_at numbers g (put_at (numbers g) i n)

abbrev pub set_if : Option ℕ → ℕ → ℕ → (ℕ → ℕ → ℕ) → ℕ → ℕ → ℕ
set_if None g i numbers = numbers
set_if (Some n) g i numbers = element_set g i n numbers

-- the objects after stores that waited reach them, in order
abbrev pub written_out : List PendingStore → (ℕ → ℕ → ℕ) → ℕ → ℕ → ℕ
written_out [] numbers = numbers
written_out (store ∷ stores) numbers = written_out stores (element_set store.global store.element store.number numbers)

-- the newest number that waits for an element, else the object's own
abbrev pub newest : ℕ → ℕ → List PendingStore → ℕ → ℕ
newest g i [] n = n
newest g i (store ∷ stores) n =
    newest g i stores (if nat_eq g store.global && nat_eq i store.element then store.number else n)

abbrev pub is_native_class : Class → Bool
is_native_class Native = true
is_native_class Locked = false

abbrev pub is_native_element : SourceProgram → ℕ → ℕ → Bool
is_native_element program g i = is_native_class (class_of (address_in program.layout g i) (bytes_in program.layout g) program.target)

-- how an operation comes to a global's element: it waits, or it is a load that looks at the processor's stores that wait, or these are written out first
pub data Manner : Type 0 where
  Waits : ℕ → Manner
  Looks : Manner
  Drains : Manner

abbrev pub manner_of_native : ObjectOperation → Bool → Manner
manner_of_native (Writes n) true = Waits n
manner_of_native (Writes n) false = Drains
manner_of_native Reads may_wait = Looks
manner_of_native (Updates op v) may_wait = Drains
manner_of_native (Compares expected desired) may_wait = Drains

abbrev pub manner_of : Bool → ObjectOperation → Bool → Manner
manner_of true operation may_wait = manner_of_native operation may_wait
manner_of false operation may_wait = Drains

-- what an event of a processor does: to itself, to the objects, and what it writes out
pub record Deed : Type 0 where
  pub processor : SourceProcessor
  pub numbers : ℕ → ℕ → ℕ
  pub output : Option ℕ

-- an operation: the number that it found, and what it did
pub record Done : Type 0 where
  pub found : ℕ
  pub processor : SourceProcessor
  pub numbers : ℕ → ℕ → ℕ

-- without buffers a store reaches its object at once
abbrev pub waits : Bool → ℕ → ℕ → ℕ → SourceProcessor → (ℕ → ℕ → ℕ) → Done
waits true g i n s numbers = record {
  found = 0;
  processor = record s { pending = s.pending ++ record { global = g; element = i; number = n } ∷ [] };
  numbers = numbers;
}
waits false g i n s numbers = record { found = 0; processor = s; numbers = element_set g i n numbers }

abbrev pub acts_on : ℕ → ℕ → ℕ → ObjectOperation → SourceProcessor → (ℕ → ℕ → ℕ) → Done
acts_on bits g i operation s numbers = record {
  found = numbers g i;
  processor = record s { pending = [] };
  numbers = set_if (stored_by operation bits (numbers g i)) g i numbers;
}

abbrev pub shared_done : Manner → Bool → ℕ → ℕ → ℕ → ObjectOperation → SourceProcessor → (ℕ → ℕ → ℕ) → Done
shared_done (Waits n) buffered bits g i operation s numbers = waits buffered g i n s numbers
shared_done Looks buffered bits g i operation s numbers = record { found = newest g i s.pending (numbers g i); processor = s; numbers = numbers }
shared_done Drains buffered bits g i operation s numbers = acts_on bits g i operation s (written_out s.pending numbers)

-- an alloca is its processor's own
abbrev pub private_done : ℕ → ℕ → ℕ → ObjectOperation → SourceProcessor → (ℕ → ℕ → ℕ) → Done
private_done bits r i operation s numbers = record {
  found = s.allocas r i;
  processor = record s { allocas = set_if (stored_by operation bits (s.allocas r i)) r i s.allocas };
  numbers = numbers;
}

abbrev pub object_done : SourceProgram → Object → ℕ → ObjectOperation → Bool → SourceProcessor → (ℕ → ℕ → ℕ) → Done
object_done program (Shared g) i operation may_wait s numbers =
    shared_done (manner_of (is_native_element program g i) operation may_wait) (is_buffered program.target) (type_bits (elements_of program.source s.function (Shared g)).elem) g i operation s numbers
object_done program (Private r) i operation may_wait s numbers =
    private_done (type_bits (elements_of program.source s.function (Private r)).elem) r i operation s numbers

-- an argument that a library call writes points into an alloca
abbrev pub written_into : Object → ℕ → ℕ → SourceProcessor → SourceProcessor
written_into (Private r) i n s = record s { allocas = element_set r i n s.allocas }
written_into (Shared g) i n s = s

abbrev pub goes_on : SourceProcessor → SourceProcessor
goes_on s = record s { index = s.index + 1; seen = None }

-- the result of instruction k
abbrev pub gets : ℕ → SourceValue → SourceProcessor → SourceProcessor
gets k v s = record s { index = s.index + 1; values = put_at s.values k v; seen = None }

-- instruction k of a processor goes on with the number that its operation found
abbrev pub replied : Reply → ℕ → Bool → ℕ → SourceProcessor → SourceProcessor
replied Silent k equal n s = goes_on s
replied Found k equal n s = gets k (Number n) s
replied FoundEqual k equal n s = gets k (Pair n equal) s
replied (Into p) k equal n s = goes_on (written_into p.object p.index n s)
replied (EqualOrInto p) k true n s = gets k (Number 1) s
replied (EqualOrInto p) k false n s = gets k (Number 0) (written_into p.object p.index n s)

abbrev pub answered : Access → ℕ → Done → Deed
answered access k done = record {
  processor = replied access.reply k (is_expected access.operation done.found) done.found done.processor;
  numbers = done.numbers;
  output = None;
}

abbrev pub accessed : SourceProgram → Access → ℕ → SourceProcessor → (ℕ → ℕ → ℕ) → Deed
accessed program access k s numbers =
    answered access k (object_done program access.pointer.object access.pointer.index access.operation access.may_wait s numbers)
