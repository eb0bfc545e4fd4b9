-- A step that touches the processor and its frame alone.
use Rattle.std.proofs.Common.{◌≡◌, ℕ, ◌+◌, ◌-◌, ◌%◌, ◌^◌, ◌<◌, Bool, true, false, [], ◌∷◌, ◌++◌, refl, sym, ap, ◌∙◌, subst, inr, ⊎_elim, arith}
use Rattle.std.specs.Prelude.{◌&&◌, if◌then◌else◌, nat_eq, nat_lt, Option, Some, None}
use Rattle.std.proofs.lemmas.Bool.{cases_eq, false≢true}
use Rattle.std.proofs.lemmas.Bool.Decides.{nat_tests}
use Rattle.ax_map.specs.Map.{covers}
use Rattle.ax_store.specs.Bytes.{number_at, byte_of, cut, put, written, all_inside}
use Rattle.ax_store.specs.Storage.{at_place, seen, load, entry_of}
use Rattle.ax_isa.specs.declared.effects.Effect.{Effect}
use Rattle.ax_isa.specs.declared.effects.Rest.{Rest}
use Rattle.ax_isa.specs.declared.effects.Effect.TheVariants.{Set, Compare, Load, Store, Locked, Fence, Link, LinkHalf, PairStore, Jump, CallTo, Return, Output, Trap, Nop}
use Rattle.ax_tags.specs.declared.tags.Tag.{Tag}
use Rattle.ax_isa.specs.Past.{Noted, store}
use Rattle.ax_isa.specs.Steps.{effected, extended, possible, is_place, may_access, go_on, go_with, with_half}
use Rattle.ax_isa.specs.Tells.{Library, Done, told, holder_after, held, is_freeing}
use Rattle.ax_follow.specs.Contract.{IsOwn, MayWrite, FairEntry, Fair}
use Rattle.ax_isa.proofs.Functions.{at_same, at_other}
use Rattle.ax_follow.proofs.Quiet.{put_other}
use Rattle.ax_expand.specs.Shared.{is_shared, masked, shared_only}
use Rattle.ax_expand.proofs.Sights.{shared_number, fair_append, hidden, mask_away}
use Rattle.ax_expand.proofs.Telling.{place_ok}
use Rattle.ax_expand.specs.World.{Alike, Words}
use Rattle.ax_expand.specs.Private.{Private, Spells, may_use, if_room, went}
use Rattle.ax_expand.proofs.Views.{seen_store, load_spelt, inside_at, all_more, covered_at, put_written}

-- the lock that a processor holds
held_still : (p : ℕ) (o : Option ℕ) → held p false o ≡ o
held_still p None = refl
held_still p (Some q) = refl

not_both : (v : ℕ) → (nat_eq v 0 && nat_eq v 1) ≡ false
not_both v = go (nat_eq v 0) refl
  where
    go : (t : Bool) → nat_eq v 0 ≡ t → (t && nat_eq v 1) ≡ false
    go true e = grind (arith, nat_tests, e)
    go false e = refl

pub holder_still : (lib : Library) (p : ℕ) (old new : ℕ → ℕ) (holder : ℕ → Option ℕ) → Words lib → masked new ≡ masked old → (word : ℕ) → holder_after lib p false old new holder word ≡ holder word
holder_still lib p old new holder words same word = go (lib.is_word word) refl
  where
    go : (t : Bool) → lib.is_word word ≡ t → (if t && nat_eq (number_at old word 4) 0 && nat_eq (number_at new word 4) 1 then Some p else held p false (holder word)) ≡ holder word
    go false e = held_still p (holder word)
    go true e =
        let is : number_at new word 4 ≡ number_at old word 4 = shared_number new word 4 (words word e) ∙ ap (λ f. number_at f word 4) same ∙ sym (shared_number old word 4 (words word e)) in
        ap (λ v. if nat_eq (number_at old word 4) 0 && nat_eq v 1 then Some p else held p false (holder word)) is ∙ ap (λ (t : Bool). if t then Some p else held p false (holder word)) (not_both (number_at old word 4)) ∙ held_still p (holder word)

own_private : (p a : ℕ) → IsOwn p a → is_shared a ≡ false
own_private p a h = let lo = h.0 in grind (arith, nat_tests, lo)

pub some_is : {A : Type 0} (a b : A) → Some a ≡ Some b → a ≡ b
some_is a b e = cc

-- what such a step leaves
pub record Stepped (p : ℕ) (y z : Private) (n : Noted) (d : Done) : Type 0 where
  pub processor : d.processor ≡ z.cpu
  pub spells : Spells p d.noted z.frame
  pub alike : Alike n d.noted
  pub fair : Fair p (d.noted.storage.waiting p)
  pub others : (a : ℕ) → ¬ MayWrite p a → d.noted.storage.mem a ≡ n.storage.mem a
  pub output : d.outcome.output ≡ None
  pub status : z.cpu.status ≡ y.cpu.status

-- what a place of use gives
pub record Usable (room : ℕ → Bool) (a bytes : ℕ) : Type 0 where
  pub some : 0 < bytes
  pub aligned : nat_eq (a % bytes) 0 ≡ true
  pub all : all_inside room a bytes ≡ true

pub usable : (room : ℕ → Bool) (a bytes : ℕ) → may_use room a bytes ≡ true → Usable room a bytes
usable room a bytes h = go (nat_lt 0 bytes) (nat_eq (a % bytes) 0) (all_inside room a bytes) refl refl refl h
  where
    go : (t u w : Bool) → nat_lt 0 bytes ≡ t → nat_eq (a % bytes) 0 ≡ u → all_inside room a bytes ≡ w → (t && u && w) ≡ true → Usable room a bytes
    go true true true e f g h = record { some = let q : 0 < bytes = grind (arith, nat_tests, e) in q; aligned = f; all = g }
    go true true false e f g h = absurd (false≢true h)
    go true false w e f g h = absurd (false≢true h)
    go false u w e f g h = absurd (false≢true h)

module _ (lib : Library) (words : Words lib) (buffered : Bool) (tag : Tag) (no_free : is_freeing tag ≡ false) (p : ℕ) (room : ℕ → Bool) (mine : (b : ℕ) → room b ≡ true → IsOwn p b) (y : Private) (n : Noted)
    (spells : Spells p n y.frame) (fair : Fair p (n.storage.waiting p)) (flat : buffered ≡ false → n.storage.waiting p ≡ []) (inside : (b : ℕ) → room b ≡ true → n.storage.inside b ≡ true) (small : y.cpu.place + 1 < 2 ^ 32) where
  abbrev done : Effect → Done
  done e = told lib tag p e y.cpu n (effected buffered p e y.cpu n)

  holders : (new : ℕ → ℕ) → masked new ≡ masked n.storage.mem → (word : ℕ) → holder_after lib p (is_freeing tag) n.storage.mem new n.past.holder word ≡ n.past.holder word
  holders new same word = ap (λ t. holder_after lib p t n.storage.mem new n.past.holder word) no_free ∙ holder_still lib p n.storage.mem new n.past.holder words same word

  own_at : (a bytes : ℕ) → Usable room a bytes → (i : ℕ) → i < bytes → IsOwn p (a + i)
  own_at a bytes ok i lt = mine (a + i) (inside_at room a bytes ok.all i lt)

  own_covered : (a bytes b : ℕ) → Usable room a bytes → covers a bytes b ≡ true → IsOwn p b
  own_covered a bytes b ok c =
      let z = covered_at a bytes b c in
      let lo = z.0 in
      let hi = z.1 in
      let is : a + (b - a) ≡ b = omega (arith, lo) in
      subst (IsOwn p) is (own_at a bytes ok (b - a) (omega (arith, lo, hi)))

  may : (a bytes : ℕ) → Usable room a bytes → (is_place (y.cpu.place + 1) && may_access a bytes n.storage) ≡ true
  may a bytes ok = ap (λ t. t && may_access a bytes n.storage) (place_ok (y.cpu.place + 1) small) ∙ ap (λ t. t && all_inside n.storage.inside a bytes) ok.aligned ∙ all_more room n.storage.inside a bytes inside ok.all

  same_storage : (new : Noted) → new.storage ≡ n.storage → new.past.holder ≡ holder_after lib p (is_freeing tag) n.storage.mem n.storage.mem n.past.holder → Alike n new
  same_storage new e h =
      record {
        inside = ap (λ st. st.inside) e;
        mem = ap (λ st. masked st.mem) e;
        pending = λ q. ap (λ st. shared_only (st.waiting q)) e;
        holder = λ word. ap (λ f. f word) h ∙ holders n.storage.mem refl word;
      }

  loads : (to a bytes : ℕ) (rest : Rest) (ends : Bool) (z : Private) → went room (Load to a bytes rest ends) y ≡ Some z → (possible p (Load to a bytes rest ends) y.cpu n.storage ≡ true) × Stepped p y z n (done (Load to a bytes rest ends))
  loads to a bytes rest ends z h = go (may_use room a bytes) refl h
    where
      go : (t : Bool) → may_use room a bytes ≡ t
          → if_room t (record { cpu = with_half (if ends then false else y.cpu.half) (go_with to (extended bytes rest (y.cpu.regs to) (number_at y.frame a bytes)) y.cpu); frame = y.frame }) ≡ Some z
          → (possible p (Load to a bytes rest ends) y.cpu n.storage ≡ true) × Stepped p y z n (done (Load to a bytes rest ends))
      go false e h = absurd (let f : None ≡ Some z = h in cc)
      go true e h =
          let ok = usable room a bytes e in
          let is : load p a bytes n.storage ≡ number_at y.frame a bytes = load_spelt p a bytes n y.frame (own_at a bytes ok) spells in
          let D = done (Load to a bytes rest ends) in
          let good : Stepped p y (record { cpu = with_half (if ends then false else y.cpu.half) (go_with to (extended bytes rest (y.cpu.regs to) (number_at y.frame a bytes)) y.cpu); frame = y.frame }) n D = record {
            processor = ap (λ q. with_half (if ends then false else y.cpu.half) (go_with to (extended bytes rest (y.cpu.regs to) q) y.cpu)) is;
            spells = spells;
            alike = same_storage D.noted refl refl;
            fair = fair;
            others = λ b no. refl;
            output = refl;
            status = refl;
          } in
          (may a bytes ok, subst (λ u. Stepped p y u n D) (some_is _ z h) good)

  entry_private : (a bytes : ℕ) → Usable room a bytes → is_shared a ≡ false
  entry_private a bytes ok = own_private p a (let q : a + 0 ≡ a = omega arith in subst (IsOwn p) q (own_at a bytes ok 0 ok.some))

  entry_fair : (a bytes v : ℕ) → Usable room a bytes → FairEntry p (entry_of a bytes v)
  entry_fair a bytes v ok = record { bytes = λ b c. inr (own_covered a bytes b ok c) }

  masked_same : (b : Bool) (a bytes v : ℕ) → Usable room a bytes → masked (store b p (entry_of a bytes v) n).storage.mem ≡ masked n.storage.mem
  masked_same true a bytes v ok = refl
  masked_same false a bytes v ok = mask_away n.storage.inside a bytes (cut bytes v) n.storage.mem (entry_private a bytes ok)

  pending_same : (b : Bool) (a bytes v : ℕ) → Usable room a bytes → (q : ℕ) → shared_only ((store b p (entry_of a bytes v) n).storage.waiting q) ≡ shared_only (n.storage.waiting q)
  pending_same false a bytes v ok q = refl
  pending_same true a bytes v ok q =
      let ws = n.storage.waiting p ++ entry_of a bytes v ∷ [] in
      ⊎_elim (λ same. subst (λ k. shared_only (at_place n.storage.waiting p ws k) ≡ shared_only (n.storage.waiting k)) (sym same) (ap shared_only (at_same n.storage.waiting p ws) ∙ hidden (entry_of a bytes v) (n.storage.waiting p) (entry_private a bytes ok)))
      (λ ne. ap shared_only (at_other n.storage.waiting p ws q ne)) (cases_eq q p)

  fair_same : (b : Bool) (a bytes v : ℕ) → Usable room a bytes → Fair p ((store b p (entry_of a bytes v) n).storage.waiting p)
  fair_same false a bytes v ok = fair
  fair_same true a bytes v ok = subst (λ q. Fair p q) (sym (at_same n.storage.waiting p _)) (fair_append p (entry_of a bytes v) (n.storage.waiting p) fair (entry_fair a bytes v ok))

  others_same : (b : Bool) (a bytes v : ℕ) → Usable room a bytes → (c : ℕ) → ¬ MayWrite p c → (store b p (entry_of a bytes v) n).storage.mem c ≡ n.storage.mem c
  others_same true a bytes v ok c no_right = refl
  others_same false a bytes v ok c no_right = go (covers a bytes c) refl
    where
      go : (t : Bool) → covers a bytes c ≡ t → put n.storage.inside a bytes (cut bytes v) n.storage.mem c ≡ n.storage.mem c
      go true e = absurd (no_right (inr (own_covered a bytes c ok e)))
      go false e = put_other n.storage.inside a bytes (cut bytes v) n.storage.mem c e

  inside_same : (b : Bool) (a bytes v : ℕ) → (store b p (entry_of a bytes v) n).storage.inside ≡ n.storage.inside
  inside_same true a bytes v = refl
  inside_same false a bytes v = refl

  holder_same : (b : Bool) (a bytes v : ℕ) → (store b p (entry_of a bytes v) n).past.holder ≡ n.past.holder
  holder_same true a bytes v = refl
  holder_same false a bytes v = refl

  written_same : (f g : ℕ → ℕ) (a bytes v b : ℕ) → f b ≡ g b → written f a bytes v b ≡ written g a bytes v b
  written_same f g a bytes v b e = ap (λ z. if covers a bytes b then byte_of v (b - a) else z) e

  spells_store : (a bytes v : ℕ) → Usable room a bytes → (b : ℕ) → IsOwn p b → seen p (store buffered p (entry_of a bytes v) n).storage b ≡ written y.frame a bytes (cut bytes v) b
  spells_store a bytes v ok b own =
      seen_store buffered p (entry_of a bytes v) n b flat ∙ put_written n.storage.inside a bytes (cut bytes v) (seen p n.storage) b (all_more room n.storage.inside a bytes inside ok.all) ∙ written_same (seen p n.storage) y.frame a bytes (cut bytes v) b (spells b own)

  stores : (a bytes number : ℕ) (z : Private) → went room (Store a bytes number) y ≡ Some z → (possible p (Store a bytes number) y.cpu n.storage ≡ true) × Stepped p y z n (done (Store a bytes number))
  stores a bytes number z h = go (may_use room a bytes) refl h
    where
      go : (t : Bool) → may_use room a bytes ≡ t → if_room t (record { cpu = go_on y.cpu; frame = written y.frame a bytes (cut bytes number) }) ≡ Some z
          → (possible p (Store a bytes number) y.cpu n.storage ≡ true) × Stepped p y z n (done (Store a bytes number))
      go false e h = absurd (let f : None ≡ Some z = h in cc)
      go true e h =
          let ok = usable room a bytes e in
          let D = done (Store a bytes number) in
          let new = store buffered p (entry_of a bytes number) n in
          let good : Stepped p y (record { cpu = go_on y.cpu; frame = written y.frame a bytes (cut bytes number) }) n D = record {
            processor = refl;
            spells = spells_store a bytes number ok;
            alike = record {
              inside = inside_same buffered a bytes number;
              mem = masked_same buffered a bytes number ok;
              pending = pending_same buffered a bytes number ok;
              holder = λ word. ap (λ f. holder_after lib p (is_freeing tag) n.storage.mem new.storage.mem f word) (holder_same buffered a bytes number) ∙ holders new.storage.mem (masked_same buffered a bytes number ok) word;
            };
            fair = fair_same buffered a bytes number ok;
            others = others_same buffered a bytes number ok;
            output = refl;
            status = refl;
          } in
          (may a bytes ok, subst (λ u. Stepped p y u n D) (some_is _ z h) good)

  plain : (e : Effect) (z : Private) → Some z ≡ went room e y → possible p e y.cpu n.storage ≡ is_place (y.cpu.place + 1) → (done e).processor ≡ z.cpu → y.frame ≡ z.frame → (done e).noted.storage ≡ n.storage
      → (done e).noted.past.holder ≡ holder_after lib p (is_freeing tag) n.storage.mem n.storage.mem n.past.holder → (done e).outcome.output ≡ None → z.cpu.place ≡ y.cpu.place + 1 → z.cpu.role ≡ y.cpu.role → z.cpu.status ≡ y.cpu.status
      → (possible p e y.cpu n.storage ≡ true) × Stepped p y z n (done e)
  plain e z h ok processor frame storage holder output place role status = (
    ok ∙ place_ok (y.cpu.place + 1) small,
    record {
      processor = processor;
      spells = subst (λ st. (b : ℕ) → IsOwn p b → seen p st b ≡ z.frame b) (sym storage) (subst (λ f. Spells p n f) frame spells);
      alike = same_storage (done e).noted storage holder;
      fair = subst (λ st. Fair p (st.waiting p)) (sym storage) fair;
      others = λ b no_right. ap (λ st. st.mem b) storage;
      output = output;
      status = status;
    },
  )

  none_is : (z : Private) → None ≡ Some z → ⊥
  none_is z h = cc

  -- A STEP OF PRIVATE CODE, whatever others do
  pub private_step : (e : Effect) (z : Private) → went room e y ≡ Some z → (possible p e y.cpu n.storage ≡ true) × Stepped p y z n (done e)
  private_step (Set to number) z h = subst (λ u. (possible p (Set to number) y.cpu n.storage ≡ true) × Stepped p y u n (done (Set to number))) (some_is _ z h) (plain (Set to number) _ refl refl refl refl refl refl refl refl refl refl)
  private_step (Compare a b) z h = subst (λ u. (possible p (Compare a b) y.cpu n.storage ≡ true) × Stepped p y u n (done (Compare a b))) (some_is _ z h) (plain (Compare a b) _ refl refl refl refl refl refl refl refl refl refl)
  private_step (Load to a bytes rest ends) z h = loads to a bytes rest ends z h
  private_step (Store a bytes number) z h = stores a bytes number z h
  private_step (Locked to high a bytes rest change) z h = absurd (none_is z h)
  private_step Fence z h = subst (λ u. (possible p Fence y.cpu n.storage ≡ true) × Stepped p y u n (done Fence)) (some_is _ z h) (plain Fence _ refl refl refl refl refl refl refl refl refl refl)
  private_step (Link to a bytes rest) z h = absurd (none_is z h)
  private_step (LinkHalf to a) z h = absurd (none_is z h)
  private_step (PairStore to a bytes number) z h = absurd (none_is z h)
  private_step (Jump place) z h = absurd (none_is z h)
  private_step (CallTo place saved) z h = absurd (none_is z h)
  private_step (Return back) z h = absurd (none_is z h)
  private_step (Output number) z h = absurd (none_is z h)
  private_step Trap z h = absurd (none_is z h)
  private_step Nop z h = subst (λ u. (possible p Nop y.cpu n.storage ≡ true) × Stepped p y u n (done Nop)) (some_is _ z h) (plain Nop _ refl refl refl refl refl refl refl refl refl refl)
