-- CODE THAT FITS INTO A DRAFT, whatever follows it: from its first place it isn't further to an Act than so many steps and what follows.
use Rattle.std.proofs.Common.{◌≡◌, ℕ, suc, ◌+◌, ◌≤◌, Bool, true, false, ◌||◌, List, [], ◌∷◌, ◌++◌, inl, inr, length, refl, sym, ap, ◌∙◌, subst, arith, length-append}
use Rattle.std.specs.Prelude.{◌⊎◌}
use Rattle.std.proofs.lemmas.Bool.{false≢true}
use Rattle.ax_tags.specs.declared.tags.Tag.{Tag}
use Rattle.ax_tags.specs.declared.tags.Tag.TheVariants as tag
use Rattle.ax_rv.specs.declared.instructions.RvInstr.{RvInstr}
use Rattle.ax_rv.specs.declared.instructions.RvInstr.TheVariants.{Branch, Jump, LoadReserved}
use Rattle.ax_mid.specs.WellFormed.{is_act}
use Rattle.ax_expand.specs.Standing.{hush}
use Rattle.ax_emit.specs.Images.{Drafted, drafted}
use Rattle.ax_idle_rv.proofs.Ranks.{Fine, Going, behind, is_plain, is_straight, most_rank, rank_by, rank_of}

-- the ranks of places are those of this code, which stands here
abbrev pub Agrees : (ℕ → ℕ) → ℕ → List (Drafted RvInstr) → Type 0
Agrees rank at ds = (k : ℕ) → rank (at + k) ≡ rank_of (behind ds k)

pub behind_all : {A : Type 0} (xs ys : List A) (k : ℕ) → behind (xs ++ ys) (length xs + k) ≡ behind ys k
behind_all [] ys k = let same : 0 + k ≡ k = omega arith in ap (behind ys) same
behind_all (x ∷ xs) ys k = let same : suc (length xs) + k ≡ suc (length xs + k) = omega arith in ap (behind (x ∷ (xs ++ ys))) same ∙ behind_all xs ys k

pub agrees_behind : (rank : ℕ → ℕ) (at : ℕ) (xs ys : List (Drafted RvInstr)) → Agrees rank at (xs ++ ys) → Agrees rank (at + length xs) ys
agrees_behind rank at xs ys h k = let same : at + length xs + k ≡ at + (length xs + k) = omega arith in ap rank same ∙ (h (length xs + k) ∙ ap rank_of (behind_all xs ys k))

pub drafted_length : (quiet : Bool) (n : ℕ) (es : List (RvInstr × Tag)) → length (drafted quiet n es) ≡ length es
drafted_length quiet n [] = refl
drafted_length quiet n (e ∷ es) = ap suc (drafted_length quiet n es)

pub drafted_both : (quiet : Bool) (n : ℕ) (es fs : List (RvInstr × Tag)) (ds : List (Drafted RvInstr)) → drafted quiet n (es ++ fs) ++ ds ≡ drafted quiet n es ++ (drafted quiet n fs ++ ds)
drafted_both quiet n [] fs ds = refl
drafted_both quiet n (e ∷ es) fs ds = ap (λ (xs : List (Drafted RvInstr)). record { inst = e.0; mark = e.1; tag = hush quiet e.1; line = n } ∷ xs) (drafted_both quiet n es fs ds)

pub record Fits (quiet : Bool) (n : ℕ) (es : List (RvInstr × Tag)) : Type 0 where
  pub low : (m : ℕ) (ds : List (Drafted RvInstr)) → rank_of (drafted quiet m es ++ ds) ≤ n + rank_of ds
  pub fine : (target rank : ℕ → ℕ) (at m : ℕ) (ds : List (Drafted RvInstr)) → Agrees rank at (drafted quiet m es ++ ds) → Fine target rank (at + length es) ds → n + rank_of ds ≤ most_rank → Fine target rank at (drafted quiet m es ++ ds)

-- a line that isn't silent leads to an Act itself
pub record LineCoded (quiet : Bool) (n : ℕ) (es : List (RvInstr × Tag)) : Type 0 where
  pub fits : Fits quiet n es
  pub acts : quiet ≡ false → (m : ℕ) (ds : List (Drafted RvInstr)) → rank_of (drafted quiet m es ++ ds) ≤ n

pub fits_less : (quiet : Bool) (n m : ℕ) (es : List (RvInstr × Tag)) → n ≤ m → Fits quiet n es → Fits quiet m es
fits_less quiet n m es le h =
    record {
      low = λ l ds. (let low = h.low l ds in omega (arith, low, le));
      fine = λ target rank at l ds agrees fine room. h.fine target rank at l ds agrees fine (omega (arith, room, le));
    }

pub coded_less : (quiet : Bool) (n m : ℕ) (es : List (RvInstr × Tag)) → n ≤ m → LineCoded quiet n es → LineCoded quiet m es
coded_less quiet n m es le h = record { fits = fits_less quiet n m es le h.fits; acts = λ loud l ds. (let few = h.acts loud l ds in omega (arith, few, le)) }

pub fits_none : (quiet : Bool) → Fits quiet 0 []
fits_none quiet = record { low = λ m ds. omega arith; fine = λ target rank at m ds agrees fine room. (let same : at + 0 ≡ at = omega arith in subst (λ (q : ℕ). Fine target rank q ds) same fine) }

pub fits_both : (quiet : Bool) (a b : ℕ) (es fs : List (RvInstr × Tag)) → Fits quiet a es → Fits quiet b fs → Fits quiet (a + b) (es ++ fs)
fits_both quiet a b es fs h g =
    record {
      low = λ m ds.
          (let one = h.low m (drafted quiet m fs ++ ds) in
          let two = g.low m ds in
          let there : rank_of (drafted quiet m (es ++ fs) ++ ds) ≡ rank_of (drafted quiet m es ++ (drafted quiet m fs ++ ds)) = ap rank_of (drafted_both quiet m es fs ds) in
          omega (arith, one, two, there));
      fine = λ target rank at m ds agrees fine room.
          (let whole : List (Drafted RvInstr) = drafted quiet m fs ++ ds in
          let is = drafted_both quiet m es fs ds in
          let own : Agrees rank at (drafted quiet m es ++ whole) = subst (Agrees rank at) is agrees in
          let long = drafted_length quiet m es in
          let sum = length-append es fs in
          let place : at + length (drafted quiet m es) ≡ at + length es = omega (arith, long) in
          let end : at + length (es ++ fs) ≡ at + length es + length fs = omega (arith, sum) in
          let two = g.low m ds in
          let later : Agrees rank (at + length es) whole = subst (λ (q : ℕ). Agrees rank q whole) place (agrees_behind rank at (drafted quiet m es) whole own) in
          let last : Fine target rank (at + length es) whole = g.fine target rank (at + length es) m ds later (subst (λ (q : ℕ). Fine target rank q ds) end fine) (omega (arith, room)) in
          subst (Fine target rank at) (sym is) (h.fine target rank at m whole own last (omega (arith, room, two))));
    }

-- ---- one instruction
rank_one : (act : Bool) (mark : Tag) (i : RvInstr) (rest : ℕ) → (act || is_straight i) ≡ true → rank_by act mark i rest ≤ rest + 1
rank_one true mark i rest h = omega arith
rank_one false mark (Jump d) rest h = absurd (false≢true h)
rank_one false mark (Branch c a b d) rest h = absurd (false≢true h)
rank_one false mark (LoadReserved size ending rd rs) rest h = absurd (false≢true h)
rank_one false mark _ rest h = omega arith

going_one : (target rank : ℕ → ℕ) (act : Bool) (mark t : Tag) (i : RvInstr) (at : ℕ) (ds : List (Drafted RvInstr)) → (act || is_straight i) ≡ true → Going target rank act mark t i at ds
going_one target rank true mark t i at ds h = tt
going_one target rank false mark t (Jump d) at ds h = absurd (false≢true h)
going_one target rank false mark t (Branch c a b d) at ds h = absurd (false≢true h)
going_one target rank false mark t (LoadReserved size ending rd rs) at ds h = absurd (false≢true h)
going_one target rank false mark t _ at ds h = h

-- it has an Act, or goes on
fits_one : (quiet : Bool) (i : RvInstr) (t : Tag) → is_plain (hush quiet t) ≡ true → (is_act (hush quiet t) || is_straight i) ≡ true → Fits quiet 1 ((i, t) ∷ [])
fits_one quiet i t plain h =
    record {
      low = λ m ds. (let one = rank_one (is_act (hush quiet t)) t i (rank_of ds) h in omega (arith, one));
      fine = λ target rank at m ds agrees fine room.
          (let one = rank_one (is_act (hush quiet t)) t i (rank_of ds) h in
          (omega (arith, one, room), plain, going_one target rank (is_act (hush quiet t)) t (hush quiet t) i at ds h, fine));
    }

pub fits_silent : (quiet : Bool) (i : RvInstr) → is_straight i ≡ true → Fits quiet 1 ((i, tag.Silent) ∷ [])
fits_silent true i h = fits_one true i tag.Silent refl h
fits_silent false i h = fits_one false i tag.Silent refl h

-- an instruction that has the event
pub one_act : (quiet : Bool) (i : RvInstr) → (quiet ≡ false) ⊎ (is_straight i ≡ true) → LineCoded quiet 1 ((i, tag.Act) ∷ [])
one_act false i h = record { fits = fits_one false i tag.Act refl refl; acts = λ loud m ds. omega arith }
one_act true i (inl h) = absurd (false≢true (sym h))
one_act true i (inr h) = record { fits = fits_one true i tag.Act refl h; acts = λ loud. absurd (false≢true (sym loud)) }
