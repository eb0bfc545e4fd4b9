-- An image on x86-64 lowers its module.
use Rattle.std.proofs.Common.{◌≡◌, ℕ, ◌+◌, ◌<◌, ◌^◌, Bool, List, [], ◌∷◌, Some, refl, arith, length, slice_get}
use Rattle.std.proofs.lemmas.Bool.Decides.{nat_tests}
use Rattle.ax_words.specs.declared.mark.Op.{Op}
use Rattle.ax_words.specs.declared.order.Order.{Order}
use Rattle.ax_words.specs.declared.width.Width.{Width}
use Rattle.ax_source_run.specs.SourceState.{SourceProgram}
use Rattle.ax_check.specs.Accepted.{IsAccepted}
use Rattle.ax_follow.specs.Contract.{Follows}
use Rattle.ax_agree.specs.Agree.{is_native_entry}
use Rattle.ax_agree.specs.Library.{library_of}
use Rattle.ax_x86.specs.Instructions.{x86_kind}
use Rattle.ax_mid.specs.declared.code.Line.{Line}
use Rattle.ax_mid.specs.declared.instruction.MidInst.{MidInst}
use Rattle.ax_mid.specs.declared.instruction.MidInst.TheVariants as mid
use Rattle.ax_mid.specs.declared.registers.Virtual.{Virtual}
use Rattle.ax_expand.specs.Shared.{counts}
use Rattle.ax_expand.proofs.Bytes.{bytes_lawful}
use Rattle.ax_fine.specs.Fine.{Sound, fine}
use Rattle.ax_emit_x86.specs.Code.{Expansion, piece_of}
use Rattle.ax_emit_x86.specs.Laws.{AllLow, IsReady, X86Based, X86CodeFollows}
use Rattle.ax_selected.specs.Formed.{SelectedLinesAreSmall}
use Rattle.ax_selected.specs.Selected.{selected}
use Rattle.ax_image.specs.Lowering.{FollowingImageLowers, IsCoding, meaning, reading, setting}
use Rattle.ax_image.proofs.Asking.{follows_wide}
use Rattle.ax_image.proofs.Lowered.{frames_sound, no_words}
use Rattle.ax_image.proofs.Usable.{HaveSlots, IsUsable, line_usable}
use Rattle.ax_image_x86.specs.Image.{AreExpanded, X86ImageLowers, is_fixed, x86_coding, x86_draft, x86_places, x86_program}

-- what this rests on
pub record Laws (program : SourceProgram) (expansions : Op → Width → Order → Bool → Expansion) (most : ℕ) : Type 0 where
  pub follows : X86CodeFollows (x86_program program)
  pub lowers : FollowingImageLowers x86_kind (x86_coding program expansions) program is_fixed most
  pub small : SelectedLinesAreSmall

sound : (program : SourceProgram) → Sound (x86_program program)
sound program = let s = frames_sound program x86_kind.stack is_fixed in record { own = s.own; area = s.area; deep = s.deep; whole = s.whole; slots = s.slots; aligned = s.aligned; even = s.even; wide = s.wide }

based : (program : SourceProgram) → X86Based (x86_program program)
based program = record { sound = sound program; laws = bytes_lawful; stack = refl; home = λ p. refl; free = λ q h. grind (arith, nat_tests, h) }

coding_is : (program : SourceProgram) (expansions : Op → Width → Order → Bool → Expansion) → IsCoding x86_kind (x86_coding program expansions) program
unfolding piece_of
coding_is program expansions = record { labels = λ n. refl; frame = refl }

module _ (program : SourceProgram) (expansions : Op → Width → Order → Bool → Expansion) (most : ℕ) (expanded : AreExpanded program expansions most) where
  all_low : (rs : List Virtual) → HaveSlots rs → AllLow (x86_program program) rs
  all_low [] h = tt
  all_low (r ∷ rs) h = (h.0, all_low rs h.1)

  ready : (place : ℕ) (line : Line Virtual) → slice_get (selected program).lines place ≡ Some line → (i : MidInst Virtual) → line.inst ≡ i → IsUsable i → IsReady (x86_program program) expansions most i
  ready place line at (mid.Load to address n) is h = (h.0, h.1, h.2, expanded.loads n h.2)
  ready place line at (mid.Store address from n) is h = (h.0, h.1, h.2, expanded.stores n h.2)
  ready place line at (mid.Atomic o width order weak address args results) is h = (h.0, all_low args h.1, all_low results h.2, expanded.atomics place line o width order weak address args results at is)
  ready place line at _ is h = h

  module _ (laws : Laws program expansions most) (accepted : IsAccepted program) (short : length (x86_draft program expansions) + 1 < 2 ^ 32) where
    fine_follows : Follows (fine (x86_program program) (x86_places program expansions)) (reading x86_kind (x86_coding program expansions) program most) (setting x86_kind (x86_coding program expansions) program)
    fine_follows =
        laws.follows (based program) expansions most expanded.few (λ j line at. ready j line at line.inst refl (line_usable line (laws.small program accepted j line at))) (library_of x86_kind []) (no_words x86_kind) counts (is_native_entry program) short

    follows : Follows (meaning x86_kind (x86_coding program expansions) program is_fixed) (reading x86_kind (x86_coding program expansions) program most) (setting x86_kind (x86_coding program expansions) program)
    follows = follows_wide x86_kind (x86_coding program expansions) program is_fixed most fine_follows

pub image_lowers : (program : SourceProgram) (expansions : Op → Width → Order → Bool → Expansion) (most : ℕ) → Laws program expansions most → X86ImageLowers program expansions most
image_lowers program expansions most laws accepted direct expanded short = laws.lowers (coding_is program expansions) (follows program expansions most expanded laws accepted short) accepted direct
