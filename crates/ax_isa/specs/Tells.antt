-- What a step tells: the source event of its tag, its role, what it notes, and whether it is a caused failure or a busy test.
use Rattle.std.specs.Prelude.{ℕ, ◌*◌, ◌%◌, ◌^◌, Bool, true, false, ◌&&◌, ◌||◌, not, if◌then◌else◌, nat_eq, Option, Some, None, bit_and}
use Rattle.ax_store.specs.Bytes.{number_at}
use Rattle.ax_store.specs.Storage.{at_place, seen}
use Rattle.ax_tags.specs.declared.tags.Role.{Role}
use Rattle.ax_tags.specs.declared.tags.Role.TheVariants.{None as Outside, Whole, Probe, Compare as Compares}
use Rattle.ax_isa.specs.declared.effects.Change.{Change}
use Rattle.ax_isa.specs.declared.effects.Change.TheVariants.{Update, Exchange}
use Rattle.ax_isa.specs.declared.effects.Effect.{Effect}
use Rattle.ax_isa.specs.declared.effects.Effect.TheVariants.{Load, Locked, Link, LinkHalf, PairStore, CallTo, Return}
use Rattle.ax_isa.specs.declared.effects.Outcome.{Outcome}
use Rattle.ax_tags.specs.declared.tags.Tag.{Tag}
use Rattle.ax_tags.specs.declared.tags.Tag.TheVariants.{Silent, Act, Stored, Back, StoredOrMiss, Linked, Call, Free}
use Rattle.ax_isa.specs.Past.{ByteRange, Note, Past, Noted, nothing_read, is_lost, note_read, found_other, held_by_other}
use Rattle.ax_isa.specs.Processor.{Processor}
use Rattle.ax_isa.specs.Steps.{Effected, effected, stuck, possible}

-- what a step gives the source machine
pub data Given : Type 0 where
  Nothing : Given
  An_act : Given
  A_look : Given
  A_miss : Given

abbrev pub is_yes : Option Bool → Bool
is_yes None = false
is_yes (Some b) = b

abbrev pub act_if : Bool → Given
act_if true = An_act
act_if false = Nothing

abbrev pub look_if : Bool → Given
look_if true = A_look
look_if false = Nothing

-- the two numbers of a linked load of so many bytes
abbrev pub masked_by : Option ℕ → ℕ → Processor → ℕ → ℕ
masked_by None bytes c n = n % 2 ^ (8 * bytes)
masked_by (Some mask) bytes c n = bit_and n (c.regs mask)

abbrev pub looked : Bool → ℕ → Option ℕ → ℕ → Processor → Option ℕ → Given
looked weak expected mask bytes c None = Nothing
looked weak expected mask bytes c (Some n) = if nat_eq (masked_by mask bytes c n) (masked_by mask bytes c (c.regs expected)) then look_if weak else An_act

-- a step with this tag, in no call or one that is a whole operation
abbrev pub told_of : Tag → ℕ → Processor → Outcome → Given
told_of Silent bytes c o = Nothing
told_of Act bytes c o = An_act
told_of Stored bytes c o = act_if (is_yes o.stored)
told_of Back bytes c o = act_if (is_yes o.stored)
told_of StoredOrMiss bytes c o = if is_yes o.stored then An_act else A_miss
told_of (Linked weak expected mask) bytes c o = looked weak expected mask bytes c o.loaded
told_of (Call role) bytes c o = Nothing
told_of (Free stored) bytes c o = An_act

abbrev pub freed_of : Option ℕ → Processor → Given
freed_of None c = Nothing
freed_of (Some r) c = act_if (not (nat_eq (c.regs r) 0))

-- in a call that only compares: an Act where the compare stored
abbrev pub compared_of : Tag → Processor → Outcome → Given
compared_of Silent c o = Nothing
compared_of Act c o = act_if (is_yes o.stored)
compared_of Stored c o = act_if (is_yes o.stored)
compared_of Back c o = Nothing
compared_of StoredOrMiss c o = act_if (is_yes o.stored)
compared_of (Linked weak expected mask) c o = Nothing
compared_of (Call role) c o = Nothing
compared_of (Free stored) c o = freed_of stored c

abbrev pub given_in : Role → Tag → ℕ → Processor → Outcome → Given
given_in Outside tag bytes c o = told_of tag bytes c o
given_in Whole tag bytes c o = told_of tag bytes c o
given_in Probe tag bytes c o = Nothing
given_in Compares tag bytes c o = compared_of tag c o

-- THE EVENT OF A TAG, at a step that loads so many bytes
abbrev pub given_of : Tag → ℕ → Processor → Outcome → Given
given_of tag bytes c o = given_in c.role tag bytes c o

abbrev pub gives_nothing : Given → Bool
gives_nothing Nothing = true
gives_nothing An_act = false
gives_nothing A_look = true
gives_nothing A_miss = false

-- the bytes that an effect reads
abbrev pub reading : Effect → Option ByteRange
reading (Load to a bytes rest ends_half) = Some (record { address = a; bytes = bytes })
reading (Locked to high a bytes rest change) = Some (record { address = a; bytes = bytes })
reading (Link to a bytes rest) = Some (record { address = a; bytes = bytes })
reading (LinkHalf to a) = Some (record { address = a; bytes = 8 })
reading _ = None

abbrev pub range_size : Option ByteRange → ℕ
range_size None = 0
range_size (Some s) = s.bytes

abbrev pub bytes_of : Effect → ℕ
bytes_of e = range_size (reading e)

-- which object a call names, by the place that it calls and the registers, and the word of an object's lock
pub record Library : Type 0 where
  pub object : ℕ → Processor → Option ByteRange
  pub word : ℕ → ℕ
  -- is there a lock word at an address
  pub is_word : ℕ → Bool

abbrev pub call_role : Tag → Role → Role
call_role (Call role) before = role
call_role _ before = before

-- the role after a step: that of a call's tag until the return
abbrev pub role_after : Tag → Effect → Role → Role
role_after tag (CallTo place saved) before = call_role tag before
role_after tag (Return back) before = Outside
role_after tag _ before = before

abbrev pub with_role : Role → Processor → Processor
with_role role c = record c { role = role }

abbrev pub call_object : Library → Tag → ℕ → Processor → Option ByteRange → Option ByteRange
call_object lib (Call role) place c before = lib.object place c
call_object lib _ place c before = before

abbrev pub called_after : Library → Tag → Effect → Processor → Option ByteRange → Option ByteRange
called_after lib tag (CallTo place saved) c before = call_object lib tag place c before
called_after lib tag (Return back) c before = None
called_after lib tag _ c before = before

-- what a step reads counts for this try, but in a call that only compares for the next one; its return ends the try
abbrev pub kept_after : Role → Effect → (ℕ → ℕ) → Note → Note → Note
kept_after Compares (Return back) f kept next = next
kept_after Compares _ f kept next = kept
kept_after _ e f kept next = note_read (reading e) f kept

-- an operation ends with its event
abbrev pub unless_over : Bool → Note → Note
unless_over true note = note
unless_over false note = nothing_read

abbrev pub is_freeing : Tag → Bool
is_freeing (Free stored) = true
is_freeing _ = false

-- p takes a lock where it writes 1 over 0 into a word, and frees it at a step with that tag
abbrev pub held : ℕ → Bool → Option ℕ → Option ℕ
held p freeing None = None
held p freeing (Some q) = if freeing && nat_eq q p then None else Some q

abbrev pub holder_after : Library → ℕ → Bool → (ℕ → ℕ) → (ℕ → ℕ) → (ℕ → Option ℕ) → ℕ → Option ℕ
holder_after lib p freeing old new holder w =
    if lib.is_word w && nat_eq (number_at old w 4) 0 && nat_eq (number_at new w 4) 1 then Some p else held p freeing (holder w)

abbrev pub past_after : Library → Tag → ℕ → Effect → Processor → Noted → Given → Noted → Past
past_after lib tag p e c n g new =
    record new.past {
      kept = at_place new.past.kept p (unless_over (gives_nothing g) (kept_after c.role e (seen p n.storage) (new.past.kept p) (new.past.next p)));
      next = at_place new.past.next p (unless_over (gives_nothing g) (note_read (reading e) (seen p n.storage) (new.past.next p)));
      called = at_place new.past.called p (called_after lib tag e c (new.past.called p));
      holder = holder_after lib p (is_freeing tag) n.storage.mem new.storage.mem new.past.holder;
    }

-- a failed pair store that others or a Drop caused
abbrev pub is_failed : Option Bool → Bool
is_failed None = false
is_failed (Some stored) = not stored

abbrev pub lost_pair : ℕ → Effect → Noted → Outcome → Bool
lost_pair p (PairStore to a bytes number) n o = is_failed o.stored && is_lost p a bytes n
lost_pair p _ n o = false

abbrev pub is_exchange : Change → Bool
is_exchange (Update op number) = false
is_exchange (Exchange expected number compares) = true

-- the locked compare of a loop acts on its object
abbrev pub exchanged_range : Effect → Option ByteRange
exchanged_range (Locked to high a bytes rest change) = if is_exchange change then Some (record { address = a; bytes = bytes }) else None
exchanged_range _ = None

abbrev pub is_back : Tag → Bool
is_back Back = true
is_back _ = false

-- in a call that only compares: the locked compare, the linked load, the second half of one of 16 bytes, the pair store that writes back, and the step that frees the lock
abbrev pub is_finding : Effect → Tag → Bool
is_finding (Locked to high a bytes rest change) tag = is_exchange change || is_freeing tag
is_finding (Link to a bytes rest) tag = true
is_finding (Load to a bytes rest ends_half) tag = ends_half
is_finding (PairStore to a bytes number) tag = is_back tag || is_freeing tag
is_finding _ tag = is_freeing tag

abbrev pub finding_in : Role → Effect → Tag → Option ByteRange → Option ByteRange
finding_in Compares e tag called = if is_finding e tag then called else None
finding_in _ e tag called = exchanged_range e

-- it finds another number than its operation read before this try
abbrev pub is_overtaken : Tag → ℕ → Effect → Processor → Noted → Bool
is_overtaken tag p e c n = found_other p n (finding_in c.role e tag (n.past.called p))

abbrev pub reads_one : Option ℕ → Bool
reads_one None = false
reads_one (Some n) = nat_eq n 1

abbrev pub busy_at : Library → ℕ → Noted → Option ByteRange → Option ByteRange → Option ℕ → Bool
busy_at lib p n (Some object) (Some s) number = nat_eq s.address (lib.word object.address) && nat_eq s.bytes 4 && reads_one number && held_by_other p s.address n
busy_at lib p n _ _ number = false

-- A BUSY TEST of p
abbrev pub is_busy : Library → ℕ → Effect → Noted → Outcome → Bool
is_busy lib p e n o = busy_at lib p n (n.past.called p) (reading e) o.loaded

pub record Done : Type 0 where
  pub processor : Processor
  pub noted : Noted
  pub outcome : Outcome
  -- the bytes that it loads, and the event of its tag
  pub bytes : ℕ
  pub gives : Given
  -- *Caused failure* by its first case and by its second, and *Busy test*
  pub lost : Bool
  pub overtaken : Bool
  pub busy : Bool

-- A CAUSED FAILURE of p
abbrev pub is_caused : Done → Bool
is_caused d = d.lost || d.overtaken

abbrev pub is_excused : Done → Bool
is_excused d = is_caused d || d.busy

abbrev pub told : Library → Tag → ℕ → Effect → Processor → Noted → Effected → Done
told lib tag p e c n x =
    let g = given_of tag (bytes_of e) c x.outcome in
    record {
      processor = with_role (role_after tag e x.processor.role) x.processor;
      noted = record { storage = x.noted.storage; past = past_after lib tag p e c n g x.noted };
      outcome = x.outcome;
      bytes = bytes_of e;
      gives = g;
      lost = lost_pair p e n x.outcome;
      overtaken = is_overtaken tag p e c n;
      busy = is_busy lib p e n x.outcome;
    }

-- a step that ends in Stuck is no failure and no test
abbrev pub told_stuck : Tag → Processor → Effected → Done
told_stuck tag c x = record { processor = x.processor; noted = x.noted; outcome = x.outcome; bytes = 0; gives = given_of tag 0 c x.outcome; lost = false; overtaken = false; busy = false }

abbrev pub done_by : Library → Bool → Tag → ℕ → Effect → Processor → Noted → Done
done_by lib buffered tag p e c n = if possible p e c n.storage then told lib tag p e c n (effected buffered p e c n) else told_stuck tag c (stuck c n)
