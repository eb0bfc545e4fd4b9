-- Each step of a machine with a drafted image of RV64 gives an Act, has an excuse, or leads nearer to such a step.
use Rattle.std.proofs.Common.{◌≡◌, ℕ, zero, suc, ◌+◌, ◌^◌, ◌<◌, ◌≤◌, Bool, true, false, List, [], ◌∷◌, inl, inr, ⊎_elim, length, map, Option, Some, None, option_map, refl, sym, ap, ◌∙◌, subst, arith, slice_get}
use Rattle.std.specs.Prelude.{◌-◌, ◌%◌, ◌⊎◌, if◌then◌else◌, ℤ, pos, negsuc}
use Rattle.std.proofs.lemmas.Bool.{false≢true}
use Rattle.std.proofs.lemmas.Option.{none-some}
use Rattle.ax_store.specs.Bytes.{number_at}
use Rattle.ax_store.specs.Storage.{may_pair}
use Rattle.ax_tags.specs.declared.tags.Role.{Role}
use Rattle.ax_tags.specs.declared.tags.Role.TheVariants.{None as Outside}
use Rattle.ax_tags.specs.declared.tags.Tag.{Tag}
use Rattle.ax_tags.specs.declared.tags.Tag.TheVariants as tag
use Rattle.ax_isa.specs.declared.cpu.Status.TheVariants.{Running, Stuck}
use Rattle.ax_isa.specs.declared.effects.Effect.{Effect}
use Rattle.ax_isa.specs.declared.effects.Effect.TheVariants as effect
use Rattle.ax_isa.specs.declared.effects.Outcome.{Outcome}
use Rattle.ax_isa.specs.Numbers.{displaced}
use Rattle.ax_isa.specs.Past.{Noted, link}
use Rattle.ax_isa.specs.Processor.{Processor}
use Rattle.ax_isa.specs.Run.{Setting, at_code, setting_of, step, step_at, tag_or}
use Rattle.ax_isa.specs.Steps.{effected, extended, go_on, go_with, paired, possible, stuck}
use Rattle.ax_isa.specs.Tells.{An_act, Done, Library, bytes_of, call_role, done_by, given_in, given_of, is_excused, role_after, told, told_stuck}
use Rattle.ax_follow.specs.Bounds.{AreBytes}
use Rattle.ax_rv.specs.declared.instructions.RvInstr.{RvInstr}
use Rattle.ax_rv.specs.declared.instructions.RvInstr.TheVariants.{Li, Unary, Binary, Shift, Immediate, Load, Store, LoadReserved, StoreConditional, Amo, Fence, Jump, Call, Ret, Branch, Ecall, Ebreak, Nop}
use Rattle.ax_rv.specs.Arithmetic.{holds}
use Rattle.ax_rv.specs.declared.instructions.Size.{Size}
use Rattle.ax_rv.specs.Instructions.{effect_of, read, rv_kind, size_rest}
use Rattle.ax_rv.specs.Skeleton.{size_bytes}
use Rattle.ax_mid.specs.WellFormed.{is_act, is_silent}
use Rattle.ax_emit.specs.Images.{Drafted, code_in}
use Rattle.ax_emit_rv.proofs.Ends.{jump_goes}
use Rattle.ax_idle_rv.proofs.Falling.{Descends, Leads, Onward}
use Rattle.ax_idle_rv.proofs.Kept.{Remembers}
use Rattle.ax_idle_rv.proofs.Poised.{Poised, PoisedBy, pair_goes, poised_kept}
use Rattle.ax_idle_rv.proofs.Ranks.{Fine, FineAt, Going, IsInner, Jumps, JumpsBy, Links, Turns, behind, fine_at, from_place, is_plain, is_straight, jump_rank, linked_rank, most_rank, pair_rank, places_low, rank_at, rank_by, rank_of, turn_rank}

get_map : {A B : Type 0} (f : A → B) (xs : List A) (k : ℕ) → slice_get (map f xs) k ≡ option_map f (slice_get xs k)
get_map f [] k = refl
get_map f (x ∷ xs) zero = refl
get_map f (x ∷ xs) (suc k) = get_map f xs k

code_map : {A B : Type 0} (f : A → B) (xs : List A) (place : ℕ) → at_code (map f xs) place ≡ option_map f (at_code xs place)
code_map f xs zero = refl
code_map f xs (suc k) = get_map f xs k

within_of : {A : Type 0} (xs : List A) (k : ℕ) (x : A) → slice_get xs k ≡ Some x → k < length xs
within_of [] k x e = absurd (none-some x e)
within_of (y ∷ xs) zero x e = omega arith
within_of (y ∷ xs) (suc k) x e = let r = within_of xs k x e in omega (arith, r)

act_of : (t : Tag) → is_act t ≡ true → t ≡ tag.Act
act_of tag.Act h = refl
act_of _ h = absurd (false≢true h)

plain_role : (t : Tag) (before : Role) → is_plain t ≡ true → call_role t before ≡ before
plain_role (tag.Call role) before h = absurd (false≢true h)
plain_role _ before h = refl

never_runs : Stuck ≡ Running → ⊥
never_runs h = cc

-- ---- roles
paired_role : (b : Bool) (p to a bytes number : ℕ) (c : Processor) (n : Noted) → (paired b p to a bytes number c n).processor.role ≡ c.role
paired_role true p to a bytes number c n = refl
paired_role false p to a bytes number c n = refl

module _ (t : Tag) (plain : is_plain t ≡ true) (p : ℕ) (c : Processor) (n : Noted) where
  abbrev role_by : Effect → Role
  role_by e = role_after t e (effected false p e c n).processor.role

  turned_role : (b : Bool) (place : ℕ) → c.role ≡ Outside → role_by (if b then effect.Jump place else effect.Nop) ≡ Outside
  turned_role true place outside = outside
  turned_role false place outside = outside

  role_kept : (i : RvInstr) → c.role ≡ Outside → role_by (effect_of i c) ≡ Outside
  role_kept (Li rd k) outside = outside
  role_kept (Unary op rd rs) outside = outside
  role_kept (Binary op rd a b) outside = outside
  role_kept (Shift op rd rs k) outside = outside
  role_kept (Immediate op rd rs k) outside = outside
  role_kept (Load form rd d rs) outside = outside
  role_kept (Store form rs d a) outside = outside
  role_kept (LoadReserved size ending rd rs) outside = outside
  role_kept (StoreConditional size ending rd a b) outside = paired_role (may_pair p (read b c) (size_bytes size) n.storage) p rd (read b c) (size_bytes size) (read a c) c n ∙ outside
  role_kept (Amo op size ending rd a b) outside = outside
  role_kept (Fence sets) outside = outside
  role_kept (Jump d) outside = outside
  role_kept (Call routine place) outside = plain_role t c.role plain ∙ outside
  role_kept Ret outside = refl
  role_kept (Branch condition a b d) outside = turned_role (holds condition (read a c) (read b c)) (displaced c.place d) outside
  role_kept Ecall outside = outside
  role_kept Ebreak outside = outside
  role_kept Nop outside = outside

-- ---- places
paired_place : (b : Bool) (p to a bytes number : ℕ) (c : Processor) (n : Noted) → (paired b p to a bytes number c n).processor.place ≡ c.place + 1
paired_place true p to a bytes number c n = refl
paired_place false p to a bytes number c n = refl

straight_place : (i : RvInstr) → is_straight i ≡ true → (p : ℕ) (c : Processor) (n : Noted) → (effected false p (effect_of i c) c n).processor.place ≡ c.place + 1
straight_place (Li rd k) h p c n = refl
straight_place (Unary op rd rs) h p c n = refl
straight_place (Binary op rd a b) h p c n = refl
straight_place (Shift op rd rs k) h p c n = refl
straight_place (Immediate op rd rs k) h p c n = refl
straight_place (Load form rd d rs) h p c n = refl
straight_place (Store form rs d a) h p c n = refl
straight_place (StoreConditional size ending rd b a) h p c n = paired_place (may_pair p (read a c) (size_bytes size) n.storage) p rd (read a c) (size_bytes size) (read b c) c n
straight_place (Amo op size ending rd a b) h p c n = refl
straight_place (Fence sets) h p c n = refl
straight_place Nop h p c n = refl
straight_place _ h p c n = absurd (false≢true h)

straight_rank : (mark : Tag) (i : RvInstr) (rest : ℕ) → is_straight i ≡ true → rank_by false mark i rest ≡ rest + 1
straight_rank mark (Jump d) rest h = absurd (false≢true h)
straight_rank mark (Branch condition a b d) rest h = absurd (false≢true h)
straight_rank mark (LoadReserved size ending rd rs) rest h = absurd (false≢true h)
straight_rank mark _ rest h = refl

behind_none : {A : Type 0} (k : ℕ) → behind {A = A} [] k ≡ []
behind_none zero = refl
behind_none (suc k) = refl

behind_twice : {A : Type 0} (xs : List A) (k j : ℕ) → behind (behind xs k) j ≡ behind xs (k + j)
behind_twice xs zero j = let same : j ≡ 0 + j = omega arith in ap (behind xs) same
behind_twice [] (suc k) j = behind_none j ∙ sym (behind_none (suc k + j))
behind_twice (x ∷ xs) (suc k) j = let same : suc (k + j) ≡ suc k + j = omega arith in behind_twice xs k j ∙ ap (behind (x ∷ xs)) same

module _ (ds : List (Drafted RvInstr)) (lib : Library) (target : ℕ → ℕ) (fine : Fine target (rank_at ds) 1 ds) (short : length ds + 1 < 2 ^ 32) (inner : (n : ℕ) → IsInner n → (target n < 2 ^ 32) × (rank_at ds (target n) ≤ 1600)) where
  abbrev pub z : Setting RvInstr
  z = setting_of rv_kind (code_in ds) (map (λ d. d.tag) ds) lib

  abbrev rank : ℕ → ℕ
  rank place = rank_at ds place

  -- by the place, or between a linked load and its pair store
  abbrev pub Within : ℕ → ℕ → Processor → Noted → Type 0
  Within r p c n = (rank c.place ≤ r) ⊎ Poised r (from_place ds c.place) p c n

  -- where an effect leads
  abbrev Way : Tag → ℕ → ℕ → Effect → Processor → Noted → Type 0
  Way t r p e c n = Onward Within (given_of t (bytes_of e) c (effected false p e c n).outcome) r p (told lib t p e c n (effected false p e c n))

  abbrev LeadsBy : Tag → ℕ → ℕ → Processor → Done → Type 0
  LeadsBy t r p c d = d.processor.status ≡ Running → (d.processor.role ≡ Outside) × Onward Within (given_of t d.bytes c d.outcome) r p d

  act_given : (t : Tag) (bytes : ℕ) (c : Processor) (o : Outcome) → is_act t ≡ true → c.role ≡ Outside → given_of t bytes c o ≡ An_act
  act_given t bytes c o is outside = ap (λ (u : Tag). given_of u bytes c o) (act_of t is) ∙ ap (λ (r : Role). given_in r tag.Act bytes c o) outside

  done_leads : (t : Tag) (i : RvInstr) (r p : ℕ) (c : Processor) (n : Noted) → is_plain t ≡ true → c.role ≡ Outside → Way t r p (effect_of i c) c n → LeadsBy t r p c (done_by lib false t p (effect_of i c) c n)
  done_leads t i r p c n plain outside way = by (possible p (effect_of i c) c n.storage)
    where
      by : (b : Bool) → LeadsBy t r p c (if b then told lib t p (effect_of i c) c n (effected false p (effect_of i c) c n) else told_stuck t c (stuck c n))
      by true run = (role_kept t plain p c n i outside, way)
      by false run = absurd (never_runs run)

  -- to a place that is nearer
  down : (t : Tag) (e : Effect) (r p : ℕ) (c : Processor) (n : Noted) → rank (effected false p e c n).processor.place + 1 ≤ r → Way t r p e c n
  down t e r p c n h = inr (inr (record { rank = rank (effected false p e c n).processor.place; less = h; within = inl (omega arith) }))

  -- ---- at a place, by its rank
  module _ (t : Tag) (r p : ℕ) (c : Processor) (n : Noted) (k : ℕ) (at : c.place ≡ suc k) (less : k < length ds) where
    abbrev rest : List (Drafted RvInstr)
    rest = behind ds (suc k)

    next_place : c.place + 1 ≡ suc (suc k)
    next_place = omega (arith, at)

    next_rank : rank (c.place + 1) ≡ rank_of rest
    next_rank = ap rank next_place

    straight : (i : RvInstr) → is_straight i ≡ true → rank_of rest + 1 ≤ r → Way t r p (effect_of i c) c n
    straight i h low =
        let there : rank (effected false p (effect_of i c) c n).processor.place ≡ rank_of rest = ap rank (straight_place i h p c n) ∙ next_rank in
        down t (effect_of i c) r p c n (omega (arith, there, low))

    to_place : (e : Effect) (place : ℕ) → e ≡ effect.Jump place → rank place + 1 ≤ r → Way t r p e c n
    to_place e place is h = subst (λ (x : Effect). Way t r p x c n) (sym is) (down t (effect.Jump place) r p c n h)

    jumps : (x : ℤ) → Jumps target (rank_at ds) x (1 + k) → 1601 ≤ r → Way t r p (effect_of (Jump x) c) c n
    jumps x j low =
        let to = inner j.label j.inner in
        let near = to.1 in
        let place_is : c.place ≡ 1 + k = omega (arith, at) in
        let small : 1 + k < 2 ^ 32 = omega (arith, less, short) in
        to_place (effect_of (Jump x) c) (target j.label) (ap (λ (y : ℤ). effect_of (Jump y) c) j.is ∙ jump_goes (1 + k) (target j.label) c place_is small to.0) (omega (arith, low, near))

    -- where a turn leads
    turned : (x : ℤ) → Turns target (rank_at ds) x (1 + k) rest → turn_rank x (rank_of rest) ≤ r → rank (displaced c.place x) + 1 ≤ r
    turned (pos zero) h low = absurd h
    turned (pos (suc j)) h low =
        let far = h.0 in
        let near = h.1 in
        let same : suc k + j ≡ k + suc j = omega arith in
        let next : displaced c.place (pos (suc j)) ≡ suc (suc k + j) = (let wraps : (c.place + suc j) % 2 ^ 64 ≡ suc (suc k + j) = omega (arith, at, less, short, far) in wraps) in
        let there : rank (displaced c.place (pos (suc j))) ≡ rank_of (behind rest j) = ap rank next ∙ ap rank_of (sym (behind_twice ds (suc k) j)) in
        omega (arith, there, near, low)
    turned (negsuc j) h low =
        let is = h.is in
        let near = h.linked in
        let next : displaced c.place (negsuc j) ≡ h.to = (let wraps : (c.place + (2 ^ 64 - 1 - j)) % 2 ^ 64 ≡ h.to = omega (arith, at, less, short, is) in wraps) in
        let there : rank (displaced c.place (negsuc j)) ≡ rank h.to = ap rank next in
        omega (arith, there, near, low)

    further : (x : ℤ) (q : ℕ) → turn_rank x q ≤ r → q + 1 ≤ r
    further (pos j) q low = low
    further (negsuc j) q low = omega (arith, low)

    turns : (b : Bool) (x : ℤ) → Turns target (rank_at ds) x (1 + k) rest → turn_rank x (rank_of rest) ≤ r → Way t r p (if b then effect.Jump (displaced c.place x) else effect.Nop) c n
    turns true x h low = down t (effect.Jump (displaced c.place x)) r p c n (turned x h low)
    turns false x h low = let one = further x (rank_of rest) low in let there = next_rank in down t effect.Nop r p c n (omega (arith, one, there))

    jumps_by : (b : Bool) (x : ℤ) → JumpsBy target (rank_at ds) b x (1 + k) rest → jump_rank b x (rank_of rest) ≤ r → Way t r p (effect_of (Jump x) c) c n
    jumps_by true x h low = down t (effect.Jump (displaced c.place x)) r p c n (turned x h low)
    jumps_by false x h low = jumps x h low

    links : (size : Size) (rd rs : ℕ) → AreBytes n.storage.mem → c.role ≡ Outside → Links t size rd rs rest → linked_rank ≤ r → Way t r p (effect.Link rd (read rs c) (size_bytes size) (size_rest size)) c n
    links size rd rs bytes outside h low =
        let e : Effect = effect.Link rd (read rs c) (size_bytes size) (size_rest size) in
        let d : Done = told lib t p e c n (effected false p e c n) in
        let after : Processor = go_with rd (extended (size_bytes size) (size_rest size) (c.regs rd) (number_at n.storage.mem (read rs c) (size_bytes size))) c in
        let linked : Noted = link p (read rs c) (size_bytes size) n in
        ⊎_elim (λ act. inl act)
        (λ poised. inr (inr (record {
          rank = pair_rank;
          less = omega (arith, low);
          within = inr (subst (λ (xs : List (Drafted RvInstr)). Poised pair_rank xs p after d.noted) (sym (ap (from_place ds) next_place)) (poised_kept pair_rank rest p after linked d.noted (record { last = refl; lost = λ x is l. l }) poised));
        }))) (h p c n bytes outside)

    silent : (mark : Tag) (i : RvInstr) → AreBytes n.storage.mem → c.role ≡ Outside → Going target (rank_at ds) false mark t i (1 + k) rest → rank_by false mark i (rank_of rest) ≤ r → Way t r p (effect_of i c) c n
    silent mark (Jump x) bytes outside g low = jumps_by (is_silent mark) x g low
    silent mark (Branch condition a b x) bytes outside g low = turns (holds condition (read a c) (read b c)) x g low
    silent mark (LoadReserved size ending rd rs) bytes outside g low = links size rd rs bytes outside g low
    silent mark i bytes outside g low = let own = straight_rank mark i (rank_of rest) g in straight i g (omega (arith, own, low))

  -- ---- between a linked load and its pair store
  poised_way : (t : Tag) (r p : ℕ) (e : Effect) (c : Processor) (n : Noted) (later : List (Drafted RvInstr)) → later ≡ from_place ds (c.place + 1) → c.role ≡ Outside → PoisedBy e t (λ a. Poised r later p a n) p c n → Way t (suc r) p e c n
  poised_way t r p (effect.PairStore to a bytes number) c n later next outside h = by (pair_goes lib t p to a bytes number c n h.0 outside h.1)
    where
      by : (given_of t (bytes_of (effect.PairStore to a bytes number)) c (effected false p (effect.PairStore to a bytes number) c n).outcome ≡ An_act) ⊎ (is_excused (told lib t p (effect.PairStore to a bytes number) c n (effected false p (effect.PairStore to a bytes number) c n)) ≡ true)
          → Way t (suc r) p (effect.PairStore to a bytes number) c n
      by (inl act) = inl act
      by (inr excused) = inr (inl excused)
  poised_way t r p (effect.Set to number) c n later next outside h =
      let d : Done = told lib t p (effect.Set to number) c n (effected false p (effect.Set to number) c n) in
      inr (inr (record {
        rank = r;
        less = omega arith;
        within = inr (subst (λ (xs : List (Drafted RvInstr)). Poised r xs p (go_with to number c) d.noted) next (poised_kept r later p (go_with to number c) n d.noted (record { last = refl; lost = λ x is l. l }) h));
      }))
  poised_way t r p effect.Nop c n later next outside h =
      let d : Done = told lib t p effect.Nop c n (effected false p effect.Nop c n) in
      inr (inr (record { rank = r; less = omega arith; within = inr (subst (λ (xs : List (Drafted RvInstr)). Poised r xs p (go_on c) d.noted) next (poised_kept r later p (go_on c) n d.noted (record { last = refl; lost = λ x is l. l }) h)) }))
  poised_way t r p _ c n later next outside h = absurd h

  poised_at : (d : Drafted RvInstr) (r p : ℕ) (c : Processor) (n : Noted) (later : List (Drafted RvInstr)) → later ≡ from_place ds (c.place + 1) → c.role ≡ Outside → Poised r (d ∷ later) p c n → Way d.tag r p (effect_of d.inst c) c n
  poised_at d zero p c n later next outside h = absurd h
  poised_at d (suc r) p c n later next outside h = poised_way d.tag r p (effect_of d.inst c) c n later next outside h

  -- ---- at a place of an instruction
  way_at : (r p : ℕ) (c : Processor) (n : Noted) (k : ℕ) (d : Drafted RvInstr) → AreBytes n.storage.mem → c.role ≡ Outside → c.place ≡ suc k → slice_get ds k ≡ Some d → Within r p c n → Way d.tag r p (effect_of d.inst c) c n
  way_at r p c n k d bytes outside at e within = by within
    where
      f : FineAt target (rank_at ds) 1 k d ds
      f = fine_at target (rank_at ds) ds 1 k d fine e

      less : k < length ds
      less = within_of ds k d e

      here : from_place ds c.place ≡ d ∷ behind ds (suc k)
      here = ap (from_place ds) at ∙ f.is

      go : (b : Bool) → is_act d.tag ≡ b → rank c.place ≤ r → Way d.tag r p (effect_of d.inst c) c n
      go true is low = inl (act_given d.tag (bytes_of (effect_of d.inst c)) c (effected false p (effect_of d.inst c) c n).outcome is outside)
      go false is low =
          let own : rank c.place ≡ rank_by false d.mark d.inst (rank_of (behind ds (suc k))) = ap rank_of here ∙ ap (λ (b : Bool). rank_by b d.mark d.inst (rank_of (behind ds (suc k)))) is in
          silent d.tag r p c n k at less d.mark d.inst bytes outside (subst (λ (b : Bool). Going target (rank_at ds) b d.mark d.tag d.inst (1 + k) (behind ds (suc k))) is f.going) (omega (arith, own, low))

      by : Within r p c n → Way d.tag r p (effect_of d.inst c) c n
      by (inl low) = go (is_act d.tag) refl low
      by (inr poised) =
          let next : c.place + 1 ≡ suc (suc k) = omega (arith, at) in
          poised_at d r p c n (behind ds (suc k)) (sym (ap (from_place ds) next)) outside (subst (λ (xs : List (Drafted RvInstr)). Poised r xs p c n) here poised)

  steps : (r p : ℕ) (c : Processor) (n : Noted) → AreBytes n.storage.mem → c.role ≡ Outside → Within r p c n → Leads Within z most_rank r p c (step z p c n)
  steps r p c n bytes outside within = by c.place refl (at_code ds c.place) refl
    where
      code_is : (o : Option (Drafted RvInstr)) → at_code ds c.place ≡ o → at_code (code_in ds) c.place ≡ option_map (λ d. d.inst) o
      code_is o e = code_map (λ (d : Drafted RvInstr). d.inst) ds c.place ∙ ap (option_map (λ d. d.inst)) e

      tag_is : (d : Drafted RvInstr) → at_code ds c.place ≡ Some d → z.tags c.place ≡ d.tag
      tag_is d e = ap tag_or (code_map (λ (d : Drafted RvInstr). d.tag) ds c.place ∙ ap (option_map (λ d. d.tag)) e)

      here : (d : Drafted RvInstr) → at_code ds c.place ≡ Some d → is_plain d.tag ≡ true → Way d.tag r p (effect_of d.inst c) c n → Leads Within z most_rank r p c (step_at z (Some d.inst) p c n)
      here d e plain way = subst (λ (t : Tag). LeadsBy t r p c (done_by lib false t p (effect_of d.inst c) c n)) (sym (tag_is d e)) (done_leads d.tag d.inst r p c n plain outside way)

      by : (place : ℕ) → c.place ≡ place → (o : Option (Drafted RvInstr)) → at_code ds c.place ≡ o → Leads Within z most_rank r p c (step z p c n)
      by place at None e = subst (λ (i : Option RvInstr). Leads Within z most_rank r p c (step_at z i p c n)) (sym (code_is None e)) (λ run. absurd (never_runs run))
      by zero at (Some d) e = absurd (none-some d (ap (at_code ds) (sym at) ∙ e))
      by (suc k) at (Some d) e =
          let there : slice_get ds k ≡ Some d = ap (at_code ds) (sym at) ∙ e in
          let f = fine_at target (rank_at ds) ds 1 k d fine there in
          subst (λ (i : Option RvInstr). Leads Within z most_rank r p c (step_at z i p c n)) (sym (code_is (Some d) e)) (here d e f.tag (way_at r p c n k d bytes outside at there within))

  within_kept : (r p : ℕ) (c : Processor) (old new : Noted) → Remembers p old new → Within r p c old → Within r p c new
  within_kept r p c old new k (inl low) = inl low
  within_kept r p c old new k (inr poised) = inr (poised_kept r (from_place ds c.place) p c old new k poised)

  pub descends : Descends Within z most_rank
  descends = record { least = λ p c n. inl (places_low target (rank_at ds) ds 1 c.place fine); kept = within_kept; steps = steps }
