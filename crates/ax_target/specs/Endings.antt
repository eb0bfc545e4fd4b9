-- Orders as they show in instructions.
use Rattle.std.specs.Prelude.{Bool, true, false}
use Rattle.ax_words.specs.declared.order.Order.{Order}
use Rattle.ax_words.specs.declared.order.Order.TheVariants.{Unordered, Monotonic, Acquire, Release, AcqRel, SeqCst}
use Rattle.ax_words.specs.declared.mark.MarkCode.{MarkCode}
use Rattle.ax_target.specs.declared.endings.Codes.{Codes}

-- "Acq" of the mapping table
abbrev pub acquires : Order → Bool
acquires Acquire = true
acquires AcqRel = true
acquires SeqCst = true
acquires _ = false

-- "Rel" of the mapping table
abbrev pub releases : Order → Bool
releases Release = true
releases AcqRel = true
releases SeqCst = true
releases _ = false

-- the four codes of an instruction whose name ends in its order
abbrev pub endings : MarkCode → MarkCode → MarkCode → MarkCode → Codes
endings plain acquire release both = record { plain = plain; acquire = acquire; release = release; both = both }

-- unordered counts as monotonic
abbrev pub with_ending : Order → Codes → MarkCode
with_ending Unordered codes = codes.plain
with_ending Monotonic codes = codes.plain
with_ending Acquire codes = codes.acquire
with_ending Release codes = codes.release
with_ending AcqRel codes = codes.both
with_ending SeqCst codes = codes.both
