-- Marks of accesses, but of those whose base is one of some registers.
use Rattle.std.specs.Prelude.{ℕ, Bool, if◌then◌else◌, nat_eq, List, [], ◌∷◌}
use Rattle.std.specs.List.{list_any}
use Rattle.ax_words.specs.declared.mark.Mark.{Mark}
use Rattle.ax_words.specs.declared.mark.Mark.TheVariants as mark
use Rattle.ax_words.specs.declared.mark.MarkCode.{MarkCode}

-- is a register one of some
abbrev pub is_among : List ℕ → ℕ → Bool
is_among registers r = list_any (λ x. nat_eq x r) registers

-- `skip`: the registers whose accesses are left out
abbrev pub access_marks : (ℕ → Bool) → ℕ → MarkCode → ℕ → List Mark
access_marks skip base access bytes = if skip base then [] else mark.Memory access bytes ∷ []
