-- What emission rests on: the contract of each kind of line, and that contracts of lines compose.
use Rattle.std.specs.Prelude.{◌≡◌, ℕ, ◌+◌, ◌<◌, ◌≤◌, ◌^◌, Bool, true, false, List, [], ◌∷◌, ◌++◌, length, Some, slice_get}
use Rattle.ax_words.specs.declared.mark.Op.{Op}
use Rattle.ax_words.specs.declared.order.Order.{Order}
use Rattle.ax_words.specs.declared.width.Width.{Width}
use Rattle.ax_store.specs.declared.entry.Entry.{Entry}
use Rattle.ax_tags.specs.declared.tags.Tag.{Tag}
use Rattle.ax_isa.specs.declared.effects.Effect.TheVariants.{Jump}
use Rattle.ax_isa.specs.Processor.{Processor}
use Rattle.ax_isa.specs.Steps.{Kind}
use Rattle.ax_isa.specs.Tells.{Library}
use Rattle.ax_follow.specs.Contract.{Follows}
use Rattle.ax_mid.specs.declared.code.Line.{Line}
use Rattle.ax_mid.specs.declared.instruction.MidInst.{MidInst}
use Rattle.ax_mid.specs.declared.instruction.MidInst.TheVariants as mid
use Rattle.ax_mid.specs.Processor.{MidProcessor}
use Rattle.ax_expand.specs.Doing.{on_registers}
use Rattle.ax_expand.specs.Expands.{Expands}
use Rattle.ax_expand.specs.Standing.{setting_by, wrap}
use Rattle.ax_expand.specs.World.{Words}
use Rattle.ax_emit.specs.Atomics.{Counted, Homes, firsts, gets_all, puts_all}
use Rattle.ax_fine.specs.Fine.{Program, Spelled, fine, is_label}
use Rattle.ax_emit.specs.Images.{code_in, image_of, places_of, reading_in, tags_in}
use Rattle.ax_emit.specs.Lines.{Laid, LineCode, access_code, branch_code, ended_code, performed_code, place_behind}
use Rattle.ax_emit.specs.Performs.{Computes, Ends, Performs, Splits, at_frame}
use Rattle.ax_emit.specs.Table.{Based, Table}
use Rattle.ax_emit.specs.Touches.{Sharing, is_private, is_private_at, load_of, store_of}

module _ {I R W : Type 0} (k : Kind I) (m : Program R W) where
  -- a line that touches its processor alone: the event may stand before other code
  abbrev pub PerformedLineFollows : Type 0
  PerformedLineFollows =
      (table : Table I) → Based k m table → (line : Line R) (before : List I) (acts : I) (after : List I) (most : ℕ) → is_label line.inst ≡ false → is_private line.inst ≡ true → length before ≤ most → length after ≤ most
      → ((p : ℕ) (c : Processor) (f : ℕ → ℕ) (s : MidProcessor) → Spelled m p c f s → Performs k m p line.inst before acts after s (at_frame c f))
      → LineCode k m most (length before + 1 + length after) (λ places start. performed_code before acts after) line

  -- a line that computes the number of register `to` in register t of the machine
  abbrev pub ComputedLineFollows : Type 0
  ComputedLineFollows =
      (table : Table I) → Based k m table → (line : Line R) (most : ℕ) (is : List I) (to t : ℕ) → is_label line.inst ≡ false → is_private line.inst ≡ true → to < m.count → table.usable t ≡ true → length is + 2 ≤ most
      → ((p : ℕ) (c : Processor) (f : ℕ → ℕ) (s : MidProcessor) → Spelled m p c f s → Computes k m p line.inst to t is s (at_frame c f))
      → LineCode k m most (length (is ++ table.put_first to t) + 1 + 0) (λ places start. performed_code (is ++ table.put_first to t) (table.put_last to t) []) line

  -- a line that leaves all memory as it is: a jump, an output, an end
  abbrev pub EndedLineFollows : Type 0
  EndedLineFollows =
      (table : Table I) → Based k m table → (line : Line R) (is : List I) (acts : (ℕ → ℕ) → ℕ → I) (most : ℕ) → is_label line.inst ≡ false → length is ≤ most
      → ((places : ℕ → ℕ) (own : ℕ) → Laid m places own (length is + 1) → (p : ℕ) (c : Processor) (f : ℕ → ℕ) (s : MidProcessor) → s.place ≡ own → c.place ≡ places own → Spelled m p c f s → Ends k m p line places is (acts places (places own)) s (at_frame c f))
      → LineCode k m most (length is + 1) (ended_code is acts) line

  abbrev pub BranchedLineFollows : Type 0
  BranchedLineFollows =
      (table : Table I) → Based k m table → (line : Line R) (test : R) (a b : ℕ) → line.inst ≡ mid.Branch test a b → (is : List I) (turn : I) (jumps : ℕ → ℕ → I) (most : ℕ) → length is + 1 ≤ most
      → ((p : ℕ) (c : Processor) (f : ℕ → ℕ) (s : MidProcessor) → c.place + length is + 2 < 2 ^ 32 → Spelled m p c f s → Splits k m p test is turn s (at_frame c f))
      → ((place target : ℕ) (c : Processor) → c.place ≡ place → place < 2 ^ 32 → target < 2 ^ 32 → k.effect_of (jumps place target) c ≡ Jump target)
      → LineCode k m most (length is + 3) (λ places start. branch_code is turn jumps (place_behind m places a) (place_behind m places b) start) line

  -- AN ATOMIC OPERATION ON SLOTS, by the contract of its expansion on registers
  abbrev pub AtomicLineFollows : Type 0
  AtomicLineFollows =
      (table : Table I) → Based k m table → (o : Op) (width : Width) (order : Order) (weak : Bool) (address : R) (args results : List R) (keeps : ℕ → Bool) (at : ℕ) (ps qs : List (ℕ × ℕ)) → Homes m table keeps address args results at ps qs
      → (most size : ℕ) (piece : ℕ → List (I × Tag)) → Counted (m.atomic o width order weak) (length (firsts qs)) → Expands k m.world most keeps size piece (on_registers (m.atomic o width order weak) at (firsts ps) (firsts qs))
      → (line : Line R) → line.inst ≡ mid.Atomic o width order weak address args results → (bound : ℕ) → most + length (gets_all table ((at, m.key address) ∷ ps)) + length (puts_all table qs) ≤ bound
      → LineCode k m bound (length (gets_all table ((at, m.key address) ∷ ps)) + size + length (puts_all table qs)) (λ places start. wrap (gets_all table ((at, m.key address) ∷ ps)) piece (puts_all table qs) start) line

  -- A LOAD OR STORE: in the frame by what its code does there, and else by the contract of the access on registers, with what clears its result
  abbrev pub AccessLineFollows : MidInst R → Sharing R W → Type 0
  AccessLineFollows inst z =
      (table : Table I) → Based k m table → (keeps : ℕ → Bool) (at : ℕ) (ps qs : List (ℕ × ℕ)) → Homes m table keeps z.address z.args z.results at ps qs
      → (acts : I) (clears : List I) → Counted z.doing (length (firsts qs)) → Expands k m.world (length clears) keeps (1 + length clears) (access_code acts clears) (on_registers z.doing at (firsts ps) (firsts qs))
      → (line : Line R) → line.inst ≡ inst
      → ((p : ℕ) (c : Processor) (f : ℕ → ℕ) (s : MidProcessor) → Spelled m p c f s → is_private_at m p inst s.regs ≡ true → Performs k m p inst (gets_all table ((at, m.key z.address) ∷ ps)) acts (clears ++ puts_all table qs) s (at_frame c f))
      → (bound : ℕ) → length clears + length (gets_all table ((at, m.key z.address) ∷ ps)) + length (puts_all table qs) ≤ bound
      → LineCode k m bound (length (gets_all table ((at, m.key z.address) ∷ ps)) + (1 + length clears) + length (puts_all table qs)) (λ places start. wrap (gets_all table ((at, m.key z.address) ∷ ps)) (access_code acts clears) (puts_all table qs) start) line

  abbrev pub LoadLineFollows : Type 0
  LoadLineFollows = (to address : R) (n : ℕ) → AccessLineFollows (mid.Load to address n) (load_of m to address n)

  abbrev pub StoreLineFollows : Type 0
  StoreLineFollows = (address from : R) (n : ℕ) → AccessLineFollows (mid.Store address from n) (store_of m address from n)

  abbrev pub LabelLineFollows : Type 0
  LabelLineFollows = (most : ℕ) (line : Line R) → is_label line.inst ≡ true → LineCode k m most 0 (λ places start. []) line

  -- THE COMPOSITION: an image that is laid out from lines' code, in two passes, follows the fine middle machine
  abbrev pub EmittedCodeFollows : Type 0
  EmittedCodeFollows =
      (size_of : Line R → ℕ) (code_of : (ℕ → ℕ) → ℕ → Line R → List (I × Tag)) (most : ℕ) → ((j : ℕ) (line : Line R) → slice_get m.code.lines j ≡ Some line → LineCode k m most (size_of line) (λ places start. code_of places start line) line)
      → (lib : Library) → Words lib → (counts public : Entry → Bool) → (let image = image_of size_of code_of m.code.lines in
      length image + 1 < 2 ^ 32 → Follows (fine m (places_of size_of code_of m.code.lines)) (reading_in image counts public most) (setting_by k (code_in image) (tags_in image) lib))
