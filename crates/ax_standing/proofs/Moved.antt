-- An instruction that ends no block goes on to the next one, and changes no other result than its own.
use Rattle.std.proofs.Common.{◌≡◌, ℕ, ◌+◌, Bool, true, false, not, ◌&&◌, List, Option, Some, None, refl, ap, ◌∙◌}
use Rattle.std.specs.Prelude.{if◌then◌else◌, nat_eq}
use Rattle.std.proofs.lemmas.Bool.{eqb-true, true≢false}
use Rattle.ax_module.specs.declared.inst.Inst.{Inst}
use Rattle.ax_module.specs.declared.inst.Inst.TheVariants as inst
use Rattle.ax_module.specs.declared.operand.Arg.{Arg}
use Rattle.ax_module.specs.Kinds.{is_terminator}
use Rattle.ax_source_run.specs.SourceAccess.{Access, Drains, Looks, Manner, ObjectOperation, Reply, Silent, Found, FoundEqual, Into, EqualOrInto, Waits, accessed, gets, goes_on, is_expected, is_native_element, manner_of, object_done, put_at, replied, shared_done, written_into}
use Rattle.ax_source_run.specs.SourceInstructions.{access_of, deed_of, done_by, fenced, is_out, is_seq_cst, result_in, written}
use Rattle.ax_source_run.specs.SourcePointers.{elements_of}
use Rattle.ax_source_run.specs.SourceState.{Number, Object, Pair, Private, Shared, SourceProcessor, SourceProgram, SourceValue}
use Rattle.ax_source_run.specs.SourceValues.{type_bits}
use Rattle.ax_target.specs.Targets.{is_buffered}

-- the same place and the same results
pub record Agrees (c d : SourceProcessor) : Type 0 where
  pub function : d.function ≡ c.function
  pub block : d.block ≡ c.block
  pub index : d.index ≡ c.index
  pub values : d.values ≡ c.values

-- the next place, and the same results but for that of instruction k
pub record GoesTo (c : SourceProcessor) (k : ℕ) (d : SourceProcessor) : Type 0 where
  pub function : d.function ≡ c.function
  pub block : d.block ≡ c.block
  pub index : d.index ≡ c.index + 1
  pub others : (j : ℕ) → (j ≡ k → ⊥) → d.values j ≡ c.values j

agrees : (c : SourceProcessor) → Agrees c c
agrees c = record { function = refl; block = refl; index = refl; values = refl }

module _ (c : SourceProcessor) (k : ℕ) where
  goes : (d : SourceProcessor) → Agrees c d → GoesTo c k (goes_on d)
  goes d a = record {
    function = a.function;
    block = a.block;
    index = ap (λ (n : ℕ). n + 1) a.index;
    others = λ j differ. ap (λ (values : ℕ → SourceValue). values j) a.values;
  }

  pub got : (d : SourceProcessor) (v : SourceValue) → Agrees c d → GoesTo c k (gets k v d)
  got d v a = record {
    function = a.function;
    block = a.block;
    index = ap (λ (n : ℕ). n + 1) a.index;
    others = λ j differ. ap (λ (values : ℕ → SourceValue). put_at values k v j) a.values ∙ by j differ (nat_eq j k) refl;
  }
    where
      by : (j : ℕ) → (j ≡ k → ⊥) → (t : Bool) → nat_eq j k ≡ t → (if t then v else c.values j) ≡ c.values j
      by j differ true e = absurd (differ (eqb-true j k e))
      by j differ false e = refl

  into : (o : Object) (i n : ℕ) (d : SourceProcessor) → Agrees c d → Agrees c (written_into o i n d)
  into (Private r) i n d a = record { function = a.function; block = a.block; index = a.index; values = a.values }
  into (Shared g) i n d a = a

  reply_goes : (reply : Reply) (equal : Bool) (n : ℕ) (d : SourceProcessor) → Agrees c d → GoesTo c k (replied reply k equal n d)
  reply_goes Silent equal n d a = goes d a
  reply_goes Found equal n d a = got d (Number n) a
  reply_goes FoundEqual equal n d a = got d (Pair n equal) a
  reply_goes (Into p) equal n d a = goes (written_into p.object p.index n d) (into p.object p.index n d a)
  reply_goes (EqualOrInto p) true n d a = got d (Number 1) a
  reply_goes (EqualOrInto p) false n d a = got (written_into p.object p.index n d) (Number 0) (into p.object p.index n d a)

  shared_agrees : (manner : Manner) (buffered : Bool) (bits g i : ℕ) (operation : ObjectOperation) (numbers : ℕ → ℕ → ℕ) → Agrees c (shared_done manner buffered bits g i operation c numbers).processor
  shared_agrees (Waits n) true bits g i operation numbers = record { function = refl; block = refl; index = refl; values = refl }
  shared_agrees (Waits n) false bits g i operation numbers = agrees c
  shared_agrees Looks buffered bits g i operation numbers = agrees c
  shared_agrees Drains buffered bits g i operation numbers = record { function = refl; block = refl; index = refl; values = refl }

  module _ (program : SourceProgram) (numbers : ℕ → ℕ → ℕ) where
    object_agrees : (o : Object) (i : ℕ) (operation : ObjectOperation) (may_wait : Bool) → Agrees c (object_done program o i operation may_wait c numbers).processor
    object_agrees (Shared g) i operation may_wait =
        shared_agrees (manner_of (is_native_element program g i) operation may_wait) (is_buffered program.target) (type_bits (elements_of program.source c.function (Shared g)).elem) g i operation numbers
    object_agrees (Private r) i operation may_wait = record { function = refl; block = refl; index = refl; values = refl }

    access_goes : (access : Access) → GoesTo c k (accessed program access k c numbers).processor
    access_goes access =
        let done = object_done program access.pointer.object access.pointer.index access.operation access.may_wait c numbers in
        reply_goes access.reply (is_expected access.operation done.found) done.found done.processor (object_agrees access.pointer.object access.pointer.index access.operation access.may_wait)

    done_goes : (access : Option Access) (result : Option SourceValue) → GoesTo c k (done_by program c access result k numbers).processor
    done_goes (Some access) result = access_goes access
    done_goes None (Some v) = got c v (agrees c)
    done_goes None None = goes c (agrees c)

    fence_goes : (b : Bool) → GoesTo c k (fenced program c b numbers).processor
    fence_goes true = record { function = refl; block = refl; index = refl; others = λ j differ. refl }
    fence_goes false = goes c (agrees c)

    call_goes : (b : Bool) (args : List Arg) (access : Option Access) (result : Option SourceValue) → GoesTo c k (if b then written program c args numbers else done_by program c access result k numbers).processor
    call_goes true args access result = goes c (agrees c)
    call_goes false args access result = done_goes access result

    plain : (i : Inst) → GoesTo c k (done_by program c (access_of program c i) (result_in program c k i) k numbers).processor
    plain i = done_goes (access_of program c i) (result_in program c k i)

    pub deed_goes : (i : Inst) → is_terminator i ≡ false → GoesTo c k (deed_of program c k numbers i).processor
    unfolding deed_of is_terminator
    deed_goes (inst.Jump b) h = absurd (true≢false h)
    deed_goes (inst.Branch v a b) h = absurd (true≢false h)
    deed_goes inst.RetVoid h = absurd (true≢false h)
    deed_goes (inst.Ret t v) h = absurd (true≢false h)
    deed_goes inst.Unreachable h = absurd (true≢false h)
    deed_goes (inst.Fence single order) h = fence_goes (not single && is_seq_cst order)
    deed_goes (inst.Call t name args) h = call_goes (is_out name) args (access_of program c (inst.Call t name args)) (result_in program c k (inst.Call t name args))
    deed_goes (inst.Bin op t v w) h = plain (inst.Bin op t v w)
    deed_goes (inst.Icmp condition t v w) h = plain (inst.Icmp condition t v w)
    deed_goes (inst.Select x t v u w) h = plain (inst.Select x t v u w)
    deed_goes (inst.Convert cast t v u) h = plain (inst.Convert cast t v u)
    deed_goes (inst.Phi t entries) h = plain (inst.Phi t entries)
    deed_goes (inst.Alloca t count align) h = plain (inst.Alloca t count align)
    deed_goes (inst.Gep elem count b t v) h = plain (inst.Gep elem count b t v)
    deed_goes (inst.Load t a align) h = plain (inst.Load t a align)
    deed_goes (inst.LoadAtomic t a order align) h = plain (inst.LoadAtomic t a order align)
    deed_goes (inst.Store t v a align) h = plain (inst.Store t v a align)
    deed_goes (inst.StoreAtomic t v a order align) h = plain (inst.StoreAtomic t v a order align)
    deed_goes (inst.Cmpxchg weak a t v u w success failure align) h = plain (inst.Cmpxchg weak a t v u w success failure align)
    deed_goes (inst.Rmw op a t v order align) h = plain (inst.Rmw op a t v order align)
    deed_goes (inst.Extract t v part) h = plain (inst.Extract t v part)
