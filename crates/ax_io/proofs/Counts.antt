-- How the counts of several calls, one after another, go together.
use Rattle.std.proofs.Common.{ℕ, ◌≤◌, inl, inr, arith}
use Rattle.ax_io.specs.Count.{Rose}

-- a rise in one call is a rise over the calls round it
pub rose_over : (a b c d : ℕ) → a ≤ b → c ≤ d → Rose b c → Rose a d
rose_over a b c d before after rose = elim rose [ inl higher ↦ inl (omega arith) | inr top ↦ inr (omega arith) ]
