-- Above a wrapped operation happens what the operation does.
use Rattle.std.specs.Prelude.{◌≡◌, Bool, false, Option, Some, None}
use Rattle.ax_isa.specs.Tells.{Given}
use Rattle.ax_follow.specs.Contract.{Did, done_after}
use Rattle.ax_expand.specs.Operation.{Deed, Inner, hushed}

-- `Rel acted` ties a processor above to one in the operation's code
pub record MirroredDeed {P W : Type 0} (quiet : Bool) (Rel : Bool → P → Inner → Type 0) (g : Given) (e : Deed W) (t : Did P W) : Type 0 where
  pub world : t.world ≡ e.world
  pub output : t.output ≡ e.output
  pub gives : t.gives ≡ hushed quiet g
  pub excused : t.excused ≡ e.excused
  pub rel : Rel (done_after g false) t.processor (record { regs = e.regs; seen = e.seen; over = done_after g false })

abbrev pub Mirrored : {P W : Type 0} → Bool → (Bool → P → Inner → Type 0) → Given → Option (Deed W) → Option (Did P W) → Type 0
Mirrored quiet Rel g None o = Unit {0}
Mirrored quiet Rel g (Some e) None = ⊥
Mirrored quiet Rel g (Some e) (Some t) = MirroredDeed quiet Rel g e t
