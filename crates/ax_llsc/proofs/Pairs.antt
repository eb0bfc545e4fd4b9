-- What stands in both loops: the upper bits of a word, the comparand, and what the pair store finds in its registers.
use Rattle.std.proofs.Common.{◌≡◌, ℕ, ◌+◌, ◌-◌, ◌%◌, ◌^◌, ◌<◌, ◌≤◌, Bool, true, false, List, [], length, Some, refl, sym, ap, ◌∙◌, inl, arith}
use Rattle.std.specs.Prelude.{◌≢◌, if◌then◌else◌, nat_le, slice_get}
use Rattle.std.proofs.lemmas.Bool.{false≢true}
use Rattle.ax_words.specs.declared.order.Order.{Order}
use Rattle.ax_words.specs.declared.width.Width.{Width}
use Rattle.ax_words.specs.declared.width.Width.TheVariants.{W8, W16, W32, W64, W128}
use Rattle.ax_words.specs.Width.{bits_of, bytes_of}
use Rattle.ax_store.specs.Bytes.{IsWidth}
use Rattle.ax_tags.specs.declared.tags.Tag.{Tag}
use Rattle.ax_tags.specs.declared.tags.Tag.TheVariants.{Silent}
use Rattle.ax_isa.specs.declared.effects.Effect.TheVariants as effect
use Rattle.ax_isa.specs.declared.effects.Rest.TheVariants.{Signs}
use Rattle.ax_isa.specs.Past.{Noted}
use Rattle.ax_isa.specs.Processor.{Processor}
use Rattle.ax_isa.specs.Steps.{extended, go_with}
use Rattle.ax_isa.proofs.Functions.{at_same, at_other}
use Rattle.ax_rv.specs.Arithmetic.{shifted_left, shifted_right}
use Rattle.ax_rv.specs.declared.instructions.RvInstr.{RvInstr}
use Rattle.ax_rv.specs.declared.instructions.RvInstr.TheVariants.{Shift}
use Rattle.ax_rv.specs.declared.instructions.Shift.TheVariants as shift
use Rattle.ax_rv.specs.Instructions.{effect_of, rv_kind, size_rest}
use Rattle.ax_rv.specs.Skeleton.{size_bytes}
use Rattle.ax_expand.specs.Shared.{Sees, Shared, shared_only}
use Rattle.ax_emit_rv.specs.Laws.{is_kept}
use Rattle.ax_loops.specs.Ways.{Laid, Way}
use Rattle.ax_llsc.specs.Loops.{clear, comparand, link, size_of}
use Rattle.ax_llsc.specs.Codes.{raw_of}
use Rattle.ax_llsc.proofs.Around.{cleared_word}
use Rattle.ax_llsc.proofs.Ways.{AtomicWidth, IsAtomicWidth}

-- ---- widths
pub some_byte : (width : Width) → 1 ≤ bytes_of width
some_byte W8 = omega arith
some_byte W16 = omega arith
some_byte W32 = omega arith
some_byte W64 = omega arith
some_byte W128 = omega arith

pub is_width : (width : Width) → IsAtomicWidth width → IsWidth (bytes_of width)
is_width W32 h = refl
is_width W64 h = refl
is_width W8 h = absurd h
is_width W16 h = absurd h
is_width W128 h = absurd h

-- nothing of p waits above
pub none_pending : (p : ℕ) (n : Noted) (w : Shared) → Sees n.storage w → n.storage.waiting p ≡ [] → w.pending p ≡ []
none_pending p n w sees empty = sym (sees.pending p) ∙ ap shared_only empty

-- a scratch register is none of those that are kept
pub not_kept : (scratch q : ℕ) → is_kept scratch ≡ false → is_kept q ≡ true → q ≢ scratch
not_kept scratch q free k e = false≢true (sym free ∙ sym (ap is_kept e) ∙ k)

-- ---- numbers in registers
-- of numbers that are extended alike
pub record Extends (width : Width) : Type 0 where
  pub small : (n : ℕ) → n < 2 ^ bits_of width → raw_of width n < 2 ^ 64
  pub alike : (a b : ℕ) → a < 2 ^ bits_of width → b < 2 ^ bits_of width → raw_of width a ≡ raw_of width b → a ≡ b
  pub cut : (n : ℕ) → n % 2 ^ bits_of width < 2 ^ bits_of width
  pub whole : (n : ℕ) → n < 2 ^ bits_of width → n % 2 ^ 64 ≡ n
  -- the comparand in register 5 is the expected number, extended as a linked one
  pub compares : (c : Processor) → effect_of (comparand width) c ≡ effect.Set 5 (raw_of width (c.regs 11 % 2 ^ bits_of width))

word_small : (n : ℕ) → n < 2 ^ 32 → extended 4 Signs 0 n < 2 ^ 64
word_small n h = go (nat_le (2 ^ 31) n)
  where
    go : (t : Bool) → (if t then n + (2 ^ 64 - 2 ^ 32) else n) < 2 ^ 64
    go true = omega (arith, h)
    go false = omega (arith, h)

-- an extended word tells its number
word_alike : (a b : ℕ) → a < 2 ^ 32 → b < 2 ^ 32 → extended 4 Signs 0 a ≡ extended 4 Signs 0 b → a ≡ b
word_alike a b h g = go (nat_le (2 ^ 31) a) (nat_le (2 ^ 31) b)
  where
    go : (t u : Bool) → (if t then a + (2 ^ 64 - 2 ^ 32) else a) ≡ (if u then b + (2 ^ 64 - 2 ^ 32) else b) → a ≡ b
    go true true e = omega (arith, h, g, e)
    go true false e = absurd (omega (arith, h, g, e))
    go false true e = absurd (omega (arith, h, g, e))
    go false false e = e

pub extends_of : (width : Width) → IsAtomicWidth width → Extends width
extends_of W32 h = record { small = word_small; alike = word_alike; cut = λ n. omega arith; whole = λ n lt. (let q : n < 2 ^ 32 = lt in omega (arith, q)); compares = λ c. refl }
extends_of W64 h =
    record { small = λ n lt. lt; alike = λ a b ha hb e. e; cut = λ n. omega arith; whole = λ n lt. (let q : n < 2 ^ 64 = lt in omega (arith, q)); compares = λ c. ap (λ n. effect.Set 5 (n % 2 ^ 64)) (let e : c.regs 11 + 0 ≡ c.regs 11 = omega arith in e) }
extends_of W8 h = absurd h
extends_of W16 h = absurd h
extends_of W128 h = absurd h

pub clear_short : (r : ℕ) (width : Width) → length (clear r width) ≤ 2
clear_short r W8 = omega arith
clear_short r W16 = omega arith
clear_short r W32 = omega arith
clear_short r W64 = omega arith
clear_short r W128 = omega arith

-- the linked load, from the address in register 10
pub links_at : (width : Width) (order : Order) (c : Processor) (a : ℕ) → AtomicWidth width → c.regs 10 ≡ a → effect_of (link width order) c ≡ effect.Link 15 a (bytes_of width) (size_rest (size_of width))
links_at width order c a f e = ap (λ b. effect.Link 15 b (size_bytes (size_of width)) (size_rest (size_of width))) e ∙ ap (λ n. effect.Link 15 a n (size_rest (size_of width))) f.bytes_is

-- ---- ways through what clears the upper bits of register 15
abbrev at_offset : List (RvInstr × Tag) → ℕ → RvInstr → Type 0
at_offset code offset i = slice_get code offset ≡ Some (i, Silent)

-- it stands at an offset
abbrev pub Clears : List (RvInstr × Tag) → ℕ → Width → Type 0
Clears code offset W32 = at_offset code offset (Shift shift.Left 15 15 32) × at_offset code (offset + 1) (Shift shift.Right 15 15 32)
Clears code offset _ = Unit {0}

-- the number stands in register 15, and nothing else has changed
pub record IsCleared (place : ℕ) (n : ℕ) (before c : Processor) : Type 0 where
  pub at : c.place ≡ place
  pub is : c.regs 15 ≡ n
  pub others : (q : ℕ) → q ≢ 15 → c.regs q ≡ before.regs q

module _ (code : List (RvInstr × Tag)) (start offset : ℕ) (Then : Processor → Type 0) where
  abbrev laid : Laid RvInstr
  laid = record { kind = rv_kind; code = code; start = start }

  clear_none : (n : ℕ) (c : Processor) → c.regs 15 ≡ n → c.place ≡ start + offset → ((after : Processor) → IsCleared (start + offset + 0) n c after → Then after) → Then c
  clear_none n c is at next = next c (record { at = (let e : c.place ≡ start + offset + 0 = omega (arith, at) in e); is = is; others = λ q ne. refl })

  pub clear_way : (width : Width) → Clears code offset width → (n : ℕ) (c : Processor) → n < 2 ^ bits_of width → c.regs 15 ≡ raw_of width n → c.place ≡ start + offset → ((after : Processor) → IsCleared (start + offset + length (clear 15 width)) n c after → Then after) → Way laid Then (length (clear 15 width)) c
  clear_way W8 stands n c small is at next = clear_none n c is at next
  clear_way W16 stands n c small is at next = clear_none n c is at next
  clear_way W64 stands n c small is at next = clear_none n c is at next
  clear_way W128 stands n c small is at next = clear_none n c is at next
  clear_way W32 stands n c small is at next =
      let up = shifted_left (c.regs 15) (32 % 64) in
      let c1 : Processor = go_with 15 up c in
      let c2 : Processor = go_with 15 (shifted_right (c1.regs 15) (32 % 64)) c1 in
      record {
        offset = offset;
        instr = Shift shift.Left 15 15 32;
        after = c1;
        place = at;
        stands = stands.0;
        leaves = inl refl;
        next = record {
          offset = offset + 1;
          instr = Shift shift.Right 15 15 32;
          after = c2;
          place = (let e : c.place + 1 ≡ start + (offset + 1) = omega (arith, at) in e);
          stands = stands.1;
          leaves = inl refl;
          next = next c2
              (record {
                at = (let e : c.place + 1 + 1 ≡ start + offset + 2 = omega (arith, at) in e);
                is = at_same c1.regs 15 _ ∙ ap (λ m. shifted_right m (32 % 64)) (at_same c.regs 15 up) ∙ ap (λ m. shifted_right (shifted_left m (32 % 64)) (32 % 64)) is ∙ cleared_word n small;
                others = λ q ne. at_other c1.regs 15 _ q ne ∙ at_other c.regs 15 up q ne;
              });
        };
      }
